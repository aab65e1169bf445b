-- Workers that serve one connection after another, and are taken back one after another.
use Rattle.std.proofs.Common.{inl, inr, ◌≡◌, ℕ, zero, suc, ◌+◌, ◌-◌, ◌^◌, ◌<◌, ◌≤◌, min, Bool, true, false, ◌||◌, IsTrue, List, [], ◌∷◌, ◌++◌, length, take, drop, Option, Some, None, IfSome, Ok, refl, sym, ap, ◌∙◌, subst, arith}
use Rattle.std.specs.List.{All}
use Rattle.std.specs.Option.{option_to_list}
use Rattle.std.proofs.lemmas.List.Elements.{All-pop}
use Rattle.std.proofs.Math.Seq.{take-append_seam}
use Rattle.std.proofs.lemmas.List.{append_assoc, append-nil, drop-drop, get_or_append_left, get_or_push, length_push}
use Rattle.std.specs.Prelude.{◌⊎◌, slice_index_or}
use Rattle.cat_io.specs.Causes.{Rose, raised_by}
use Rattle.cat_io.specs.Listening.{Deals, Gives, count_given, first_of}
use Rattle.cat_desk.specs.Pass.{CarriesOn, DeskId, Keeps, Remembers, number_of, spare_of}
use Rattle.cat_desk.specs.declared.pass.Pass.{Pass}
use Rattle.cat_work.specs.Passes.{IsReady}
use Rattle.cat_serve.specs.declared.worker.Worker.{Worker}
use Rattle.cat_serve.specs.Hiring.{AreBack, AreDealt, AreNumbered, Counts, IsDone, IsHired, ServesOwn}
use Rattle.cat_serve.specs.Serving.{GrowsTo, TakenIn}
use Rattle.cat_serve.specs.ServingLaws.{grows_to_itself, grows_to_on}
use Rattle.cat_serve.specs.Sessions.{Readings}
use Rattle.cat_serve.specs.Workers.{AllWorked, AreAsDealt, ComesBack, Ends, IsServed, ServesAll, ServesEach, WorkedByTwin, first_split}
use Rattle.cat_serve.proofs.Taking.{taken_in, taken_on}

-- ---- what an accept gave

pub given_some : {C : Type 0} (E : Type 0) (old new : List C) (o : Option C) (c : C) → Gives {C = C} {E = E} old new (Ok o) → o ≡ Some c → old ≡ c ∷ new
given_some {C} E old new o c h is = subst (λ (x : Option C). Gives {C = C} {E = E} old new (Ok x)) is h

pub given_none : {C : Type 0} (E : Type 0) (old new : List C) (o : Option C) → Gives {C = C} {E = E} old new (Ok o) → o ≡ None → (old ≡ []) × (new ≡ [])
given_none {C} E old new o h is = subst (λ (x : Option C). Gives {C = C} {E = E} old new (Ok x)) is h

pub counted_some : {C : Type 0} (E : Type 0) (a b : ℕ) (o : Option C) (c : C) → a ≡ b + count_given {C = C} {E = E} (Ok o) → o ≡ Some c → a ≡ b + 1
counted_some {C} E a b o c h is = subst (λ (x : Option C). a ≡ b + count_given {C = C} {E = E} (Ok x)) is h

pub counted_none : {C : Type 0} (E : Type 0) (a b : ℕ) (o : Option C) → a ≡ b + count_given {C = C} {E = E} (Ok o) → o ≡ None → a ≡ b
counted_none {C} E a b o h is = let none : a ≡ b + 0 = subst (λ (x : Option C). a ≡ b + count_given {C = C} {E = E} (Ok x)) is h in omega arith

-- ---- the last of a list

pub popped : {X : Type 0} (P : X → Type 0) (xs ys : List X) (r : Option X) (x : X) → xs ≡ ys ++ option_to_list r → r ≡ Some x → All P xs → All P ys × P x
popped P xs ys r x items is all =
    let q = All-pop P xs ys r items all in
    (q.0, subst (λ (o : Option _). IfSome o P) is q.1)

pub all_none : {X : Type 0} (P : X → Type 0) (xs : List X) → xs ≡ [] → All P xs
all_none {X} P xs none = subst (λ (l : List X). All P l) (sym none) (λ k d lt. absurd (none_below k lt))
  where
    none_below : (k : ℕ) → k < 0 → ⊥
    none_below k lt = omega (arith, lt)

-- the number of a pass that is split off behind so many others
pub spare_within : (count left spare number : ℕ) → (0 < count → spare ≤ 4294967296) → left + count ≡ spare → number + left ≡ 4294967296 → spare ≤ 4294967296
spare_within zero left spare number bound is numbered = omega (arith, is, numbered)
spare_within (suc count) left spare number bound is numbered = bound (omega arith)

pub numbered_next : (count long left spare number : ℕ) → spare ≤ 4294967296 → left + count ≡ spare → number + left ≡ 4294967296 → long ≡ count → number ≡ 4294967296 - spare + long
numbered_next count long left spare number bound is numbered same = omega (arith, bound, is, numbered, same)

-- of what holds of each by its place
pub popped_at : {X : Type 0} (P : ℕ → X → Type 0) (xs ys : List X) (r : Option X) (x : X) → xs ≡ ys ++ option_to_list r → r ≡ Some x → ((k : ℕ) (d : X) → k < length xs → P k (slice_index_or xs k d))
    → ((k : ℕ) (d : X) → k < length ys → P k (slice_index_or ys k d)) × P (length ys) x
popped_at {X} P xs ys r x items is all =
    let whole : (k : ℕ) (d : X) → k < length (ys ++ x ∷ []) → P k (slice_index_or (ys ++ x ∷ []) k d) =
    subst (λ (l : List X). (k : ℕ) (d : X) → k < length l → P k (slice_index_or l k d)) (items ∙ ap (λ (o : Option X). ys ++ option_to_list o) is) all in
    let long : length (ys ++ x ∷ []) ≡ length ys + 1 = length_push ys x in (
      λ k d lt. subst (λ (y : X). P k y) (get_or_append_left ys (x ∷ []) d k lt) (whole k d (omega (arith, lt, long))),
      subst (λ (y : X). P (length ys) y) (get_or_push ys x x (length ys) refl) (whole (length ys) x (omega (arith, long))),
    )

-- where one comes behind what was dealt to the others
module _ {L C K : Type 0} (waiting : L → List K) (told : Bool) where
  pub dealt_none : (dealt : List (List K)) (ws : List (Worker L C)) → ws ≡ [] → AreDealt waiting told dealt ws
  dealt_none dealt ws none = subst (λ (l : List (Worker L C)). AreDealt waiting told dealt l) (sym none) (λ k d lt. absurd (none_below k lt))
    where
      none_below : (k : ℕ) → k < 0 → ⊥
      none_below k lt = omega (arith, lt)

  pub dealt_push : (dealt : List (List K)) (ws : List (Worker L C)) (w : Worker L C) → AreDealt waiting told dealt ws → (IsTrue told → waiting w.listener ≡ first_of (drop (length ws) dealt))
      → AreDealt waiting told dealt (ws ++ w ∷ [])
  dealt_push dealt ws w all is k d lt = by_place (is_last k (length ws) (omega (arith, lt, length_push ws w)))
    where
      is_last : (k n : ℕ) → k < n + 1 → (k < n) ⊎ (k ≡ n)
      is_last zero zero lt = inr refl
      is_last zero (suc n) lt = inl (omega arith)
      is_last (suc k) zero lt = absurd (omega (arith, lt))
      is_last (suc k) (suc n) lt = one_on k n (is_last k n (omega (arith, lt)))
        where
          one_on : (k n : ℕ) → (k < n) ⊎ (k ≡ n) → (suc k < suc n) ⊎ (suc k ≡ suc n)
          one_on k n (inl less) = inl (omega (arith, less))
          one_on k n (inr same) = inr (omega (arith, same))

      by_place : (k < length ws) ⊎ (k ≡ length ws) → IsTrue told → waiting (slice_index_or (ws ++ w ∷ []) k d).listener ≡ first_of (drop k dealt)
      by_place (inl below) t = ap (λ (v : Worker L C). waiting v.listener) (get_or_append_left ws (w ∷ []) d k below) ∙ all k d below t
      by_place (inr last) t = ap (λ (v : Worker L C). waiting v.listener) (get_or_push ws w d k (sym last)) ∙ is t ∙ ap (λ (n : ℕ). first_of (drop n dealt)) (sym last)

-- the next of what twins are dealt, and the rest
pub next_dealt : {L K : Type 0} (waiting : L → List K) (dealt now rest : List (List K)) (n : ℕ) (twin : L) → now ≡ drop n dealt → Deals waiting now rest twin → (waiting twin ≡ first_of (drop n dealt)) × (rest ≡ drop (n + 1) dealt)
next_dealt {L} {K} waiting dealt now rest n twin is deals = (deals.given ∙ ap (λ (l : List (List K)). first_of l) is, deals.rest ∙ ap (λ (l : List (List K)). drop 1 l) is ∙ drop-drop 1 n dealt)

-- what twins were dealt comes back, none of it, and that of one more
pub comes_back : {K : Type 0} (dealt groups : List (List K)) → ComesBack dealt dealt groups groups
comes_back dealt groups = record { twins = []; stands = sym (append-nil groups); as_dealt = tt; rest = refl }

behind : (n m : ℕ) → m ≡ n + 1 → 1 + n ≡ m
behind n m is = omega (arith, is)

module _ {K : Type 0} where
  -- what is left behind as many groups, and the first before them
  past_first : (dealt groups : List (List K)) (group : List K) → drop (length groups) (drop 1 dealt) ≡ drop (length (groups ++ group ∷ [])) dealt
  past_first dealt groups group = drop-drop (length groups) 1 dealt ∙ ap (λ (n : ℕ). drop n dealt) (behind (length groups) (length (groups ++ group ∷ [])) (length_push groups group))

  as_dealt_more : (dealt groups : List (List K)) (group : List K) → AreAsDealt (drop 1 dealt) groups → group ≡ first_of dealt → AreAsDealt dealt (groups ++ group ∷ [])
  as_dealt_more dealt [] group all is = (is, tt)
  as_dealt_more dealt (g ∷ groups) group (one, rest) is = (one ∙ ap (λ (l : List (List K)). first_of l) (past_first dealt groups group), as_dealt_more dealt groups group rest is)

  pub comes_back_more : (groups mid now dealt over : List (List K)) (left rest : ℕ) (returned waits : List K) → ComesBack (drop left dealt) over groups mid → returned ≡ [] → waits ≡ first_of (drop rest dealt) → rest + 1 ≡ left
      → now ≡ mid ++ (returned ++ waits) ∷ [] → ComesBack (drop rest dealt) over groups now
  comes_back_more groups mid now dealt over left rest returned waits b none is less one =
      let next : drop left dealt ≡ drop 1 (drop rest dealt) = ap (λ (n : ℕ). drop n dealt) (sym less) ∙ sym (drop-drop 1 rest dealt) in
      record {
        twins = b.twins ++ waits ∷ [];
        stands = one ∙ ap (λ (l : List K). mid ++ (l ++ waits) ∷ []) none ∙ ap (λ (l : List (List K)). l ++ waits ∷ []) b.stands ∙ append_assoc groups b.twins (waits ∷ []);
        as_dealt = as_dealt_more (drop rest dealt) b.twins waits (subst (λ (l : List (List K)). AreAsDealt l b.twins) next b.as_dealt) is;
        rest = b.rest ∙ ap (λ (l : List (List K)). drop (length b.twins) l) next ∙ past_first (drop rest dealt) b.twins waits;
      }

-- numbers of passes, where a worker is the last, and where one comes behind the others
module _ {L C : Type 0} where
  pub numbered_none : (number : ℕ) (ws : List (Worker L C)) → ws ≡ [] → AreNumbered number ws
  numbered_none number ws none = subst (λ (l : List (Worker L C)). AreNumbered number l) (sym none) (λ k d lt. absurd (none_below k lt))
    where
      none_below : (k : ℕ) → k < 0 → ⊥
      none_below k lt = omega (arith, lt)

  pub numbered_push : (number : ℕ) (ws : List (Worker L C)) (w : Worker L C) → AreNumbered number ws → number_of w.pass ≡ number + length ws → AreNumbered number (ws ++ w ∷ [])
  numbered_push number [] w all is zero d lt = is
  numbered_push number [] w all is (suc k) d lt = absurd (omega (arith, lt))
  numbered_push number (v ∷ ws) w all is zero d lt = all 0 d (omega arith)
  numbered_push number (v ∷ ws) w all is (suc k) d lt =
      numbered_push (number + 1) ws w (λ j e below. all (suc j) e (omega (arith, below)) ∙ omega arith) (is ∙ omega arith) k d (omega (arith, lt)) ∙ omega arith

  pub numbered_pop : (number : ℕ) (ws vs : List (Worker L C)) (r : Option (Worker L C)) (w : Worker L C) → ws ≡ vs ++ option_to_list r → r ≡ Some w → AreNumbered number ws
      → AreNumbered number vs × (number_of w.pass ≡ number + length vs)
  numbered_pop number ws vs r w items is all =
      let whole : AreNumbered number (vs ++ w ∷ []) = subst (λ (l : List (Worker L C)). AreNumbered number l) (items ∙ ap (λ (o : Option (Worker L C)). vs ++ option_to_list o) is) all in
      let long : length (vs ++ w ∷ []) ≡ length vs + 1 = length_push vs w in (
        λ k d lt. ap (λ (v : Worker L C). number_of v.pass) (sym (get_or_append_left vs (w ∷ []) d k lt)) ∙ whole k d (omega (arith, lt, long)),
        ap (λ (v : Worker L C). number_of v.pass) (sym (get_or_push vs w w (length vs) refl)) ∙ whole (length vs) w (omega (arith, long)),
      )

-- what a slice of all elements left of them
pub written_back : {X : Type 0} (n : ℕ) (xs old : List X) → length xs ≡ n → take n (xs ++ drop (length xs) old) ≡ xs
written_back n xs old long = ap (λ (k : ℕ). take k (xs ++ drop (length xs) old)) (sym long) ∙ take-append_seam xs (drop (length xs) old)

not_false : true ≡ false → ⊥
not_false e = cc

-- ---- counts of faults

-- one after another
pub counts_on : (first then_ : Bool) (x y z : ℕ) → Counts first x y → Counts then_ y z → Counts (first || then_) x z
counts_on true true x y z f g = let p : min (x + 1) (2 ^ 64 - 1) ≤ y = f in let q : min (y + 1) (2 ^ 64 - 1) ≤ z = g in omega arith
counts_on true false x y z f (inl e) = let p : min (x + 1) (2 ^ 64 - 1) ≤ y = f in omega arith
counts_on true false x y z f (inr e) = let p : min (x + 1) (2 ^ 64 - 1) ≤ y = f in omega arith
counts_on false true x y z (inl e) g = let q : min (y + 1) (2 ^ 64 - 1) ≤ z = g in omega arith
counts_on false true x y z (inr e) g = let q : min (y + 1) (2 ^ 64 - 1) ≤ z = g in omega arith
counts_on false false x y z (inl e) (inl f) = inl (f ∙ e)
counts_on false false x y z (inl e) (inr f) = inr (omega arith)
counts_on false false x y z (inr e) (inl f) = inr (omega arith)
counts_on false false x y z (inr e) (inr f) = inr (omega arith)

-- of two counts, one after another, of which the second had a fault
pub rose_of : (first then_ : Bool) (x y z : ℕ) → Counts first x y → Counts then_ y z → then_ ≡ true → Rose x z
rose_of first false x y z f g failed = absurd (not_false (sym failed))
rose_of true true x y z f g failed = counts_on true true x y z f g
rose_of false true x y z f g failed = counts_on false true x y z f g

-- a count that is raised by that of a twin
pub counts_up : (failed : Bool) (before more now : ℕ) → now ≡ raised_by more before → Counts failed 0 more → Counts failed before now
counts_up true before more now e f = let p : min (0 + 1) (2 ^ 64 - 1) ≤ more = f in omega arith
counts_up false before more now e (inl f) = inr (omega arith)
counts_up false before more now e (inr f) = inr (omega arith)

-- where there was no fault, a count that is below its type's end stays
pub counts_none : (before now : ℕ) → Counts false before now → before ≤ 2 ^ 64 - 1 → now ≡ before
counts_none before now (inl e) small = e
counts_none before now (inr e) small = omega arith

module _ {In Out : Type 0} (e : Ends In Out) (desk : DeskId) (attempts : ℕ) where
  -- ---- one connection after another

  each_more : (xs ys : List (In × Out)) (x y : In × Out) (p : Pass) (ahead : Option Readings) (mid : Pass) (next : Option Readings) (q : Pass) (now : Option Readings)
      → ServesEach e desk attempts p ahead xs ys mid next → IsServed e desk attempts mid next x y q now → ServesEach e desk attempts p ahead (xs ++ x ∷ []) (ys ++ y ∷ []) q now
  each_more [] [] x y p ahead mid next q now same is =
      let from_p = subst (λ (m : Pass). IsServed e desk attempts m next x y q now) same.0 is in
      (q, now, subst (λ (n : Option Readings). IsServed e desk attempts p n x y q now) same.1 from_p, (refl, refl))
  each_more [] (v ∷ vs) x y p ahead mid next q now each is = absurd each
  each_more (u ∷ us) [] x y p ahead mid next q now each is = absurd each
  each_more (u ∷ us) (v ∷ vs) x y p ahead mid next q now each is = (each.0, each.1, each.2, each_more us vs x y each.0 each.1 mid next q now each.3 is)

  module _ (tells : Bool) (waits back : List (In × Out)) (p : Pass) (ahead : Option Readings) where
    pub own_none : ServesOwn e desk attempts tells waits waits back back p ahead p ahead
    own_none = record { given = []; served = []; each = (refl, refl); front = λ t. refl; stands = λ t. sym (append-nil back) }

    pub own_more : (mid now mid_back back_now : List (In × Out)) (x y : In × Out) (m : Pass) (next : Option Readings) (q : Pass) (later : Option Readings)
        → ServesOwn e desk attempts tells waits mid back mid_back p ahead m next → (IsTrue tells → mid ≡ x ∷ now) → (IsTrue tells → back_now ≡ mid_back ++ y ∷ [])
        → IsServed e desk attempts m next x y q later → ServesOwn e desk attempts tells waits now back back_now p ahead q later
    own_more mid now mid_back back_now x y m next q later s given taken is = record {
      given = s.given ++ x ∷ [];
      served = s.served ++ y ∷ [];
      each = each_more s.given s.served x y p ahead m next q later s.each is;
      front = λ t. s.front t ∙ ap (λ (l : List (In × Out)). s.given ++ l) (given t) ∙ sym (append_assoc s.given (x ∷ []) now);
      stands = λ t. taken t ∙ ap (λ (l : List (In × Out)). l ++ y ∷ []) (s.stands t) ∙ append_assoc back s.served (y ∷ []);
    }

    -- none was given more
    pub own_same : (mid now mid_back back_now : List (In × Out)) (q : Pass) (later : Option Readings) → ServesOwn e desk attempts tells waits mid back mid_back p ahead q later
        → (IsTrue tells → mid ≡ now) → back_now ≡ mid_back → ServesOwn e desk attempts tells waits now back back_now p ahead q later
    own_same mid now mid_back back_now q later s given taken = record {
      given = s.given;
      served = s.served;
      each = s.each;
      front = λ t. s.front t ∙ ap (λ (l : List (In × Out)). s.given ++ l) (given t);
      stands = λ t. taken ∙ s.stands t;
    }

  -- ---- one worker after another

  module _ {L C : Type 0} (waiting returned : L → List (In × Out)) (faults : L → ℕ) (ahead_of : C → Option Readings) where
    -- a worker that was hired has served
    pub is_done : (tells : L → Bool) (told : Bool) (ahead : Option Readings) (p : Pass) (dealt : List (In × Out)) (w v : Worker L C) (now : Option Readings)
        → IsHired tells returned faults ahead_of told ahead desk p w → (IsTrue told → waiting w.listener ≡ dealt)
        → ServesOwn e desk attempts (tells w.listener) (waiting w.listener) (waiting v.listener) (returned w.listener) (returned v.listener) w.pass (ahead_of w.clock) v.pass now
        → (v.failed ≡ false → IsTrue (tells w.listener) → waiting v.listener ≡ []) → IsReady desk v.pass → Keeps desk w.pass v.pass → Counts v.failed (faults w.listener) (faults v.listener)
        → IsDone e desk attempts waiting returned faults told ahead p dealt v
    is_done tells told ahead p dealt w v now hired waits own end ready kept counts = record {
      back = record {
        ready = ready;
        one = kept.held ∙ hired.back.one;
        none = kept.spare ∙ hired.back.none;
        counts = subst (λ (n : ℕ). Counts v.failed n (faults v.listener)) hired.faultless counts;
      };
      first = w.pass;
      own = ahead_of w.clock;
      now = now;
      given = own.given;
      served = own.served;
      same = hired.same;
      number_is = sym kept.number;
      remembers = hired.idle.remembers;
      each = own.each;
      stands = λ t. own.stands (subst (λ (b : Bool). IsTrue b) (sym hired.tells_is) t) ∙ ap (λ (l : List (In × Out)). l ++ own.served) hired.empty;
      front = λ t. sym (waits t) ∙ own.front (subst (λ (b : Bool). IsTrue b) (sym hired.tells_is) t);
      none_left = λ works t. end works (subst (λ (b : Bool). IsTrue b) (sym hired.tells_is) t);
    }

  -- it goes on to be so for a later pass, and where fewer are well
  worked_on : (tells : Bool) (well less : Type 0) (dealt : List (List (In × Out))) (number : ℕ) (p : Pass) (ahead : Option Readings) (q r : Pass) (groups : List (List (In × Out)))
      → GrowsTo q r → ((n : ℕ) (a : Pass) → TakenIn n a q → TakenIn n a r) → (less → well) → AllWorked e desk attempts tells well dealt number p ahead q groups → AllWorked e desk attempts tells less dealt number p ahead r groups
  worked_on tells well less dealt number p ahead q r [] on taken fewer all = tt
  worked_on tells well less dealt number p ahead q r (group ∷ groups) on taken fewer (t, rest) =
      let w = t.worked in
      let to = grows_to_on w.last q r (w.begins, w.marks) on in (
        record {
          given = t.given;
          served = t.served;
          own = t.own;
          now = t.now;
          same = t.same;
          worked = record { first = w.first; last = w.last; number_is = w.number_is; remembers = w.remembers; each = w.each; begins = to.0; marks = to.1; taken = taken (number + length groups) w.last w.taken };
          left = t.left;
          front = t.front;
          group_is = t.group_is;
          none_left = λ l. t.none_left (fewer l);
        },
        worked_on tells well less dealt number p ahead q r groups on taken fewer rest,
      )

  -- one more, on the pass before, that was dealt what comes before
  worked_more : (tells : Bool) (well : Type 0) (dealt : List (List (In × Out))) (number next : ℕ) (p : Pass) (ahead : Option Readings) (q : Pass) (groups : List (List (In × Out))) (group : List (In × Out))
      → number + 1 ≡ next → AllWorked e desk attempts tells well (drop 1 dealt) next p ahead q groups → WorkedByTwin e desk attempts tells well (first_of dealt) number p ahead q group
      → AllWorked e desk attempts tells well dealt number p ahead q (groups ++ group ∷ [])
  worked_more tells well dealt number next p ahead q [] group before all t =
      (subst (λ (n : ℕ). WorkedByTwin e desk attempts tells well (first_of dealt) n p ahead q group) (none_more number) t, tt)
    where
      none_more : (n : ℕ) → n ≡ n + 0
      none_more n = omega arith
  worked_more tells well dealt number next p ahead q (g ∷ groups) group before (w, rest) t =
      let there : WorkedByTwin e desk attempts tells well (first_of (drop (length (groups ++ group ∷ [])) dealt)) (next + length groups) p ahead q g =
      subst (λ (l : List (List (In × Out))). WorkedByTwin e desk attempts tells well (first_of l) (next + length groups) p ahead q g)
      (drop-drop (length groups) 1 dealt ∙ ap (λ (n : ℕ). drop n dealt) (behind (length groups) (length (groups ++ group ∷ [])) (length_push groups group))) w in (
        subst (λ (n : ℕ). WorkedByTwin e desk attempts tells well (first_of (drop (length (groups ++ group ∷ [])) dealt)) n p ahead q g)
            (longer (length groups) (length (groups ++ group ∷ [])) (length_push groups group)) there,
        worked_more tells well dealt number next p ahead q groups group before rest t,
      )
    where
      behind : (n m : ℕ) → m ≡ n + 1 → 1 + n ≡ m
      behind n m is = omega (arith, is)

      longer : (n m : ℕ) → m ≡ n + 1 → next + n ≡ number + m
      longer n m is = omega (arith, before, is)

  module _ (tells : Bool) (groups dealt : List (List (In × Out))) (number : ℕ) (p : Pass) (ahead : Option Readings) where
    pub back_none : (whole : ℕ) (q : Pass) → AreBack e desk attempts tells false groups groups dealt whole whole number p ahead q
    back_none whole q = record { twins = []; theirs = tt; count = omega arith; rejoined = λ t. sym (append-nil groups) }

    pub back_more : {L C : Type 0} (waiting returned : L → List (In × Out)) (faults : L → ℕ) (w : Worker L C) (first then_ : Bool) (mid now : List (List (In × Out))) (left rest whole : ℕ) (q r : Pass)
        → AreBack e desk attempts tells first groups mid dealt left whole number p ahead q → IsDone e desk attempts waiting returned faults tells ahead p (first_of (drop rest dealt)) w → then_ ≡ w.failed
        → number_of w.pass ≡ number + rest → rest + 1 ≡ left → (IsTrue tells → now ≡ mid ++ (returned w.listener ++ waiting w.listener) ∷ []) → GrowsTo q r → GrowsTo w.pass r → CarriesOn q r → CarriesOn w.pass r
        → AreBack e desk attempts tells (first || then_) groups now dealt rest whole number p ahead r
    back_more waiting returned faults w first then_ mid now left rest whole q r b d failed numbered less taken on its carries carries_its = record {
      twins = b.twins ++ (d.served ++ waiting w.listener) ∷ [];
      theirs = worked_more tells ((first || then_) ≡ false) (drop rest dealt) (number + rest) (number + left) p ahead r b.twins (d.served ++ waiting w.listener) (omega (arith, less))
          (worked_on tells (first ≡ false) ((first || then_) ≡ false) (drop 1 (drop rest dealt)) (number + left) p ahead q r b.twins on (λ n a. taken_on n a q r carries) (λ none. (neither first then_ none).0)
          (subst (λ (l : List (List (In × Out))). AllWorked e desk attempts tells (first ≡ false) l (number + left) p ahead q b.twins) (ap (λ (n : ℕ). drop n dealt) (sym less) ∙ sym (drop-drop 1 rest dealt)) b.theirs))
          (record {
            given = d.given;
            served = d.served;
            own = d.own;
            now = d.now;
            same = d.same;
            worked = record { first = d.first; last = w.pass; number_is = d.number_is ∙ numbered; remembers = d.remembers; each = d.each; begins = its.0; marks = its.1; taken = taken_in (number + rest) w.pass r (inl (sym numbered)) carries_its };
            left = waiting w.listener;
            front = d.front;
            group_is = refl;
            none_left = λ none. d.none_left (sym failed ∙ (neither first then_ none).1);
          });
      count = let c = b.count in let l = length_push b.twins (d.served ++ waiting w.listener) in omega arith;
      rejoined = λ t.
          taken t ∙ ap (λ (l : List (List (In × Out))). l ++ (returned w.listener ++ waiting w.listener) ∷ []) (b.rejoined t) ∙ append_assoc groups b.twins ((returned w.listener ++ waiting w.listener) ∷ [])
          ∙ ap (λ (l : List (In × Out)). groups ++ (b.twins ++ (l ++ waiting w.listener) ∷ [])) (d.stands t);
    }
      where
        neither : (a b : Bool) → (a || b) ≡ false → (a ≡ false) × (b ≡ false)
        neither false false is = (refl, refl)
        neither false true is = absurd (not_false is)
        neither true b is = absurd (not_false is)

  -- all were hired, have served and are back
  pub serves_all : (workers count : ℕ) (tells tells_m tells_n : Bool) (waits waits_m waits_n waits_q back back_m back_n back_q : List (In × Out)) (groups groups_n groups_q dealt dealt_q : List (List (In × Out)))
      (failed : Bool) (faults faults_q : ℕ) (p m n q : Pass) (ahead now : Option Readings) → Remembers p m → number_of m ≡ number_of p → ServesOwn e desk attempts tells_m waits_m waits_n back_m back_n m ahead n now → GrowsTo n q → TakenIn (number_of p) n q → spare_of q + count ≡ spare_of p
      → AreBack e desk attempts tells_n failed groups_n groups_q dealt 0 count (first_split p) p ahead q → (failed ≡ true → Rose faults faults_q) → (IsTrue tells → dealt_q ≡ drop count dealt) → count + 1 ≡ workers → tells_m ≡ tells → tells_n ≡ tells → waits_m ≡ waits → waits_q ≡ waits_n → back_m ≡ back
      → back_q ≡ back_n → groups_n ≡ groups → ServesAll e desk attempts workers tells waits waits_q back back_q groups groups_q dealt dealt_q faults faults_q p ahead q now
  serves_all workers count tells tells_m tells_n waits waits_m waits_n waits_q back back_m back_n back_q groups groups_n groups_q dealt dealt_q failed faults faults_q p m n q ahead now remembers number own to taken spare b cause rest all at_m at_n w w' r r' g = record {
    given = own.given;
    own = own.served;
    twins = b.twins;
    mine = record { first = m; last = n; number_is = number; remembers = remembers; each = own.each; begins = to.0; marks = to.1; taken = taken };
    theirs = worked_on tells (failed ≡ false) (Rose faults faults_q → ⊥) dealt (first_split p) p ahead q q b.twins (grows_to_itself q) (λ n a t. t) (well failed cause)
        (subst (λ (x : Bool × ℕ). AllWorked e desk attempts x.0 (failed ≡ false) dealt x.1 p ahead q b.twins) (λ i. (at_n i, from_first (first_split p) i)) b.theirs);
    count = let size = b.count in omega arith;
    numbers = ap (λ (k : ℕ). spare_of q + k) (sym (none_more (length b.twins) count b.count)) ∙ spare;
    front = λ t. sym w ∙ own.front (subst (λ (x : Bool). IsTrue x) (sym at_m) t) ∙ ap (λ (l : List (In × Out)). own.given ++ l) (sym w');
    stands = λ t. r' ∙ own.stands (subst (λ (x : Bool). IsTrue x) (sym at_m) t) ∙ ap (λ (l : List (In × Out)). l ++ own.served) r;
    rejoined = λ t. b.rejoined (subst (λ (x : Bool). IsTrue x) (sym at_n) t) ∙ ap (λ (l : List (List (In × Out))). l ++ b.twins) g;
    rest = λ t. rest t ∙ ap (λ (k : ℕ). drop k dealt) (none_more (length b.twins) count b.count);
  }
    where
      none_more : (n m : ℕ) → n + 0 ≡ m → m ≡ n
      none_more n m is = omega (arith, is)

      well : (a : Bool) → (a ≡ true → Rose faults faults_q) → (Rose faults faults_q → ⊥) → a ≡ false
      well false cause none = refl
      well true cause none = absurd (none (cause refl))

      from_first : (n : ℕ) → n + 0 ≡ n
      from_first n = omega arith
