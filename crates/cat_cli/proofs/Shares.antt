-- What the requests of workers made of the log of the last pass, and which was told of the append that failed.
use Rattle.std.proofs.Common.{◌≡◌, ℕ, suc, ◌+◌, ◌<◌, ◌≤◌, ◌==◌, List, [], ◌∷◌, ◌++◌, length, Option, Bool, sym, ◌∙◌, ap, subst, inl, inr, arith}
use mathlib.Core.Logic.{dite}
use native.Mathlib.Decide.{ℕ_discrete}
use Rattle.std.proofs.lemmas.Grind.{flat_map-append}
use Rattle.std.proofs.lemmas.List.{append_assoc, append_cancel_left, append-nil}
use Rattle.std.proofs.lemmas.List.Elements.{filter-append}
use Rattle.cat_io.specs.Causes.{Rose}
use Rattle.cat_desk.specs.Log.{IsAmong, OfGiven, WasGiven}
use Rattle.cat_desk.specs.Pass.{DeskId, number_of, seen}
use Rattle.cat_desk.specs.declared.pass.Pass.{Pass}
use Rattle.cat_model.specs.declared.log_entry.LogEntry.{LogEntry}
use Rattle.cat_serve.specs.declared.ending.Session.{Session as End}
use Rattle.cat_serve.specs.Entries.{entries_of}
use Rattle.cat_serve.specs.Passes.{EndsBy, GoesBy, Place, Visit, Went, place}
use Rattle.cat_serve.specs.Serving.{made_by}
use Rattle.cat_serve.specs.Sessions.{Readings}
use Rattle.cat_serve.specs.Workers.{AllWorked, Ends as BothEnds, ServesAll, ServesEach, Worked, first_split}
use Rattle.cat_serve.proofs.Making.{follows_own}
use Rattle.cat_cli.specs.Shares.{AreMade, AreOf, Share, all_shares, numbers_of, requests_in, share_of, shares_of}

-- ---- the number of a session's pass

module _ (desk : DeskId) (attempts : ℕ) where
  going_number : (visits : List Visit) (a c : Place) → GoesBy desk attempts visits a c → number_of c.pass ≡ number_of a.pass
  going_number [] a c same = ap (λ (x : Place). number_of x.pass) (sym same)
  going_number (v ∷ visits) a c (b, visit, stays, told, rest) = going_number visits b c rest ∙ visit.is.number

  ending_number : (end : End) (unread : Option (List ℕ)) (last : List Visit) (tail : List ℕ) (c z : Place) → EndsBy desk attempts c end unread last tail z → number_of z.pass ≡ number_of c.pass
  ending_number end unread [] tail c z ends = ap number_of ends.0
  ending_number end unread (v ∷ []) tail c z (visit, told) = visit.is.number
  ending_number end unread (v ∷ w ∷ more) tail c z ends = absurd ends

  pub number_stays : (a : Place) (end : End) (unread : Option (List ℕ)) (pass : Pass) (now : Option Readings) (held : Option (List ℕ)) (w : Went desk attempts a end unread pass now held) → number_of pass ≡ number_of a.pass
  number_stays a end unread pass now held w =
      let e = w.ended in
      ending_number end unread e.last e.tail w.c (place e.left pass now e.rest held) e.ends ∙ going_number w.visits a w.c w.goes

-- ---- what they made

made_more : (xs ys : List Visit) → made_by (xs ++ ys) ≡ made_by xs ++ made_by ys
made_more xs ys = flat_map-append (λ (v : Visit). v.made) xs ys

-- of a number, what was added to a log that has these entries of it and then these
made_of : (n : ℕ) (log begun added : List LogEntry) (made : List LogEntry) → log ≡ begun ++ added → entries_of n log ≡ entries_of n begun ++ made → entries_of n added ≡ made
made_of n log begun added made is own =
    append_cancel_left (entries_of n begun) (entries_of n added) made (sym (filter-append (λ (entry : LogEntry). entry.caller == n) begun added) ∙ (ap (entries_of n) (sym is) ∙ own))

are_of : (shares : List Share) (next : ℕ) (entries : List LogEntry) → ((n : ℕ) → WasGiven next n → IsAmong n (numbers_of shares)) → OfGiven next entries → AreOf shares entries
are_of shares next [] among given = tt
are_of shares next (entry ∷ entries) among (was, given) = (among entry.caller was, are_of shares next entries among given)

module _ {In Out : Type 0} (ends : BothEnds In Out) (desk : DeskId) (attempts : ℕ) where
  each_made : (n : ℕ) (p : Pass) (ahead : Option Readings) (xs ys : List (In × Out)) (q : Pass) (now : Option Readings) (s : ServesEach ends desk attempts p ahead xs ys q now) → number_of p ≡ n
      → entries_of n (seen q) ≡ entries_of n (seen p) ++ made_by (requests_in ends desk attempts p ahead xs ys q now s)
  each_made n p ahead [] [] q now s number = ap (λ (x : Pass). entries_of n (seen x)) s.0 ∙ sym (append-nil (entries_of n (seen p)))
  each_made n p ahead [] (y ∷ ys) q now s number = absurd s
  each_made n p ahead (x ∷ xs) [] q now s number = absurd s
  each_made n p ahead (x ∷ xs) (y ∷ ys) q now (mid, next, is, rest) number =
      let first = is.serves.went.visits ++ is.serves.went.ended.last in
      let then_ = requests_in ends desk attempts mid next xs ys q now rest in
      let one : entries_of n (seen mid) ≡ entries_of n (seen p) ++ made_by first = subst (λ (k : ℕ). entries_of k (seen mid) ≡ entries_of k (seen p) ++ made_by first) number is.serves.once in
      each_made n mid next xs ys q now rest (number_stays desk attempts _ is.end _ mid next _ is.serves.went ∙ number)
      ∙ (ap (λ (l : List LogEntry). l ++ made_by then_) one
      ∙ (append_assoc (entries_of n (seen p)) (made_by first) (made_by then_)
      ∙ ap (λ (l : List LogEntry). entries_of n (seen p) ++ l) (sym (made_more first then_))))

  worker_made : (number : ℕ) (p : Pass) (ahead : Option Readings) (q : Pass) (now : Option Readings) (given served : List (In × Out)) (w : Worked ends desk attempts number p ahead q now given served)
      → entries_of number (seen q) ≡ entries_of number (seen p) ++ made_by (requests_in ends desk attempts w.first ahead given served w.last now w.each)
  worker_made number p ahead q now given served w =
      let made = made_by (requests_in ends desk attempts w.first ahead given served w.last now w.each) in
      follows_own number (seen w.last) (seen q) w.taken.follows
      ∙ (each_made number w.first ahead given served w.last now w.each w.number_is
      ∙ ap (λ (l : List LogEntry). entries_of number l ++ made) w.remembers.seen)

  -- what was added behind all that p had seen
  module _ (p q : Pass) (added : List LogEntry) (grows : seen q ≡ seen p ++ added) where
    share_made : (number : ℕ) (ahead now : Option Readings) (given served : List (In × Out)) (w : Worked ends desk attempts number p ahead q now given served) → entries_of number added ≡ made_by (share_of ends desk attempts w).1
    share_made number ahead now given served w =
        made_of number (seen q) (seen p) added (made_by (share_of ends desk attempts w).1) grows (worker_made number p ahead q now given served w)

    shares_made : (tells : Bool) (well : Type 0) (dealt : List (List (In × Out))) (number : ℕ) (ahead : Option Readings) (groups : List (List (In × Out))) (all : AllWorked ends desk attempts tells well dealt number p ahead q groups)
        → AreMade added (shares_of ends desk attempts tells well dealt number p ahead q groups all)
    shares_made tells well dealt number ahead [] all = tt
    shares_made tells well dealt number ahead (group ∷ groups) (t, rest) =
        (share_made (number + length groups) t.own t.now t.given t.served t.worked, shares_made tells well dealt number ahead groups rest)

  -- ---- whose it is

  among_shares : (n : ℕ) (tells : Bool) (well : Type 0) (dealt : List (List (In × Out))) (number : ℕ) (p : Pass) (ahead : Option Readings) (q : Pass) (groups : List (List (In × Out))) (all : AllWorked ends desk attempts tells well dealt number p ahead q groups)
      → number ≤ n → n < number + length groups → IsAmong n (numbers_of (shares_of ends desk attempts tells well dealt number p ahead q groups all))
  among_shares n tells well dealt number p ahead q [] all low high = absurd (omega (arith, low, high))
  among_shares n tells well dealt number p ahead q (group ∷ groups) (t, rest) low high = dite (ℕ_discrete n (number + length groups))
      (λ same. inl same)
      (λ other. inr (among_shares n tells well dealt number p ahead q groups rest low (let below : n < number + suc (length groups) = high in omega (arith, below, other))))

  -- ---- of all workers

  module _ {workers : ℕ} {tells : Bool} {waits waits_now back back_now : List (In × Out)} {groups groups_now dealt dealt_now : List (List (In × Out))} {faults faults_now : ℕ} {p : Pass} {ahead : Option Readings} {q : Pass} {now : Option Readings}
      (s : ServesAll ends desk attempts workers tells waits waits_now back back_now groups groups_now dealt dealt_now faults faults_now p ahead q now) where
    pub all_made : (added : List LogEntry) → seen q ≡ seen p ++ added → AreMade added (all_shares ends desk attempts s)
    all_made added grows =
        (share_made p q added grows (number_of p) ahead now s.given s.own s.mine, shares_made p q added grows tells (Rose faults faults_now → ⊥) dealt (first_split p) ahead s.twins s.theirs)

    -- their numbers are those from 1 on
    pub all_among : number_of p ≡ 1 → first_split p ≡ 2 → (n : ℕ) → WasGiven (workers + 1) n → IsAmong n (numbers_of (all_shares ends desk attempts s))
    all_among one two n was =
        let some : 0 < n = was.0 in let below : n < workers + 1 = was.1 in let count : length s.twins + 1 ≡ workers = s.count in
        dite (ℕ_discrete n (number_of p))
        (λ same. inl same)
        (λ other. inr (among_shares n tells (Rose faults faults_now → ⊥) dealt (first_split p) p ahead q s.twins s.theirs (omega (arith, one, two, some, other)) (omega (arith, two, below, count))))

    pub all_of : number_of p ≡ 1 → first_split p ≡ 2 → (entries : List LogEntry) → OfGiven (workers + 1) entries → AreOf (all_shares ends desk attempts s) entries
    all_of one two entries given = are_of (all_shares ends desk attempts s) (workers + 1) entries (all_among one two) given
