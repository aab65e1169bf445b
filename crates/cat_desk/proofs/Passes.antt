-- Passes that are split, joined and spent keep the rule.
use Rattle.std.proofs.Common.{◌≡◌, ◌≢◌, ℕ, zero, suc, ◌+◌, ◌-◌, ◌<◌, ◌≤◌, ◌⊎◌, List, [], ◌∷◌, ◌++◌, length, length-set, set, eqb, eq-eqb, ne_eqb, cond, max, nat_lt, Bool, true, false, sym, refl, ap, ◌∙◌, subst, inl, inr, ⊎_elim, arith, Option, Some}
use mathlib.Core.Option.{some, some-injective, some-ne-none}
use mathlib.Core.Option.{Option as Maybe}
use mathlib.Core.Logic.{dite}
use native.Mathlib.Decide.{ℕ_discrete, dec_le}
use Rattle.std.proofs.lemmas.Bool.Decides.{nat_tests}
use lib.ListN.{get_elem?}
use Rattle.atomic_table.specs.Table.{Me, keeps, Allows, Splits, Joins, Final, Seen}
use Rattle.atomic_table.proofs.Lists.{at_set, set_else, at_longer}
use Rattle.cat_model.specs.declared.log_entry.LogEntry.{LogEntry}
use Rattle.cat_model.specs.Drafts.{Open, nothing_open, open_of, StaysOpen}
use Rattle.cat_model.specs.Mark.{Mark, Grows}
use Rattle.cat_model.specs.Turns.{Opened, place_after, snapshot}
use Rattle.cat_model.specs.TurnLaws.{stays_self}
use Rattle.cat_desk.specs.Sight.{Stage, Idle, Making, Holding, View}
use Rattle.cat_desk.specs.declared.pass.Held.{Held}
use Rattle.cat_desk.specs.declared.pass.Pass.{Pass}
use Rattle.cat_desk.specs.Pass.{seen_in, known_in, held_in, gone_in, mark_in, turn_in, own_in, found_in, mark_of, turn_of, left_by, all_left_by, number_of, DeskId, HasNumber, IsFree, Remembers, seen, known, stands_for, found}
use Rattle.cat_desk.specs.Marks.{IsGiven, Linked, later_mark}
use Rattle.cat_desk.proofs.Marks.{linked_self, linked_next, linked_later, given_later, are_given_later}
use Rattle.cat_desk.specs.Log.{IsAmong, WasGiven, Follows, Missed, Since, longer}
use Rattle.cat_desk.specs.Rule.{Place, home, unborn, out, IsLive, IsAlone, IsUnborn, tickets_of, total, queue, weight, Numbered, Fits, Turned, SomeoneSaw, Stands, numbers_of, part_of, IsPart, HasParts, compared, finding, splitting, split_off, joined, nobody}
use Rattle.cat_desk.proofs.Logs.{among_first, among_second, of_both, missed_later, missed_next, missed_longer, longer_missed, longer_first_on, longer_second_on, since_later, since_longer, longer_first, longer_second, longer_bound, whole}
use Rattle.cat_desk.proofs.Totals.{total_set, total_snoc}
use Rattle.cat_desk.proofs.Seats.{alone_served, served_busy, busy_live, set_there, seats_stay, same_view}
use Rattle.cat_desk.proofs.Standing.{stands_stay}
use Rattle.cat_desk.proofs.Keeps.{Rule, St, looked_on, word_at, only_one, saw_all}

at_snoc_at : (l : List View) (a b : View) (j : ℕ) → get_elem? (l ++ a ∷ []) j ≡ some b → (get_elem? l j ≡ some b) ⊎ ((j ≡ length l) × (a ≡ b))
at_snoc_at [] a b zero e = inr (refl, some-injective a b e)
at_snoc_at [] a b (suc j) e = absurd (some-ne-none b (sym e))
at_snoc_at (x ∷ xs) a b zero e = inl e
at_snoc_at (x ∷ xs) a b (suc j) e = ⊎_elim (λ t. inl t) (λ (t : (j ≡ length xs) × (a ≡ b)). inr (ap suc t.0, t.1)) (at_snoc_at xs a b j e)

-- what holds of the later of two turns, holds of what is taken of it
later_cases : {A : Type 0} (a b : ℕ) (m n : A) (P : A → ℕ → Type 0) → (a < b → P n b) → (b ≤ a → P m a) → P (cond (nat_lt a b) n m) (max a b)
later_cases a b m n P more less = dite (dec_le b a)
    (λ le. subst (λ (z : Bool × ℕ). P (cond z.0 n m) z.1) (let not_lt : nat_lt a b ≡ false = grind (arith, nat_tests) in let top : max a b ≡ a = omega arith in λ i. (sym not_lt i, sym top i)) (less le))
    (λ gt. let lt : a < b = omega arith in subst (λ (z : Bool × ℕ). P (cond z.0 n m) z.1) (let is : nat_lt a b ≡ true = grind (arith, nat_tests) in let top : max a b ≡ b = omega arith in λ i. (sym is i, sym top i)) (more lt))

module _ {V : Type 0} (log : V → List LogEntry) (opened : V → Opened) (legal : Opened → List LogEntry → Type 0) (mark : V → Mark) (left_open : V → Open) (key : V) where
  stands_longer : (all : List LogEntry) (now : Mark) (op : Open) (o : ℕ) (hs : List (Maybe (Option V))) (vs : List View) (a : View) (p : Place V) → Stands log opened mark left_open (opened key) all now op o hs vs p → Stands log opened mark left_open (opened key) all now op o hs (vs ++ a ∷ []) p
  stands_longer all now op o hs vs a (home x) s = s
  stands_longer all now op o hs vs a unborn s = (s.0, (s.1.0, at_longer vs (a ∷ []) o s.1.0 s.1.1, s.1.2))
  stands_longer all now op o hs vs a out s = (s.0, at_longer vs (a ∷ []) o s.0 s.1, s.2)

  pub splits : (id : ℕ) (v : View) → v.stage ≡ Idle → 0 < v.spare → Splits (Rule log opened legal mark left_open key) id v (splitting v) (split_off v)
  splits id v idle some_left s r here = let l : View = splitting v in let a : View = split_off v in let vs : List View = set s.views id l in
      let live : IsLive v.stage = subst IsLive (sym idle) tt in let f = r.each id v here live in let may = f.numbered.may_give some_left in
      let sum : r.next + v.spare ≡ 4294967296 = may.1 in let number : 4294967296 - v.spare ≡ r.next = omega arith in
      let names : ℕ → ℕ = λ x. cond (eqb x r.next) (length s.views) (r.named x) in
      let old_name : (x seat : ℕ) → (r.named x ≡ seat) × WasGiven r.next x → (names x ≡ seat) × WasGiven (r.next + 1) x = λ x seat o. let lt : x < r.next = o.1.1 in
      (ap (λ b. cond b (length s.views) (r.named x)) (ne_eqb x r.next (λ e. omega arith)) ∙ o.0, (o.1.0, omega arith)) in
      let new_name : names (4294967296 - v.spare) ≡ length s.views = ap (λ b. cond b (length s.views) (r.named (4294967296 - v.spare))) (eq-eqb (4294967296 - v.spare) r.next number) in
      let own = f.numbered.own_numbers v.number (inl refl) in
      let new_given : WasGiven (r.next + 1) (4294967296 - v.spare) = let some : 0 < v.number = own.1.0 in let lt : v.number < r.next = own.1.1 in (omega arith, omega arith) in
      let alone : (P : ℕ → Type 0) → P r.next → (n : ℕ) → IsAmong n ((4294967296 - v.spare) ∷ []) → P n = λ P p n is. ⊎_elim (λ (same : n ≡ 4294967296 - v.spare). subst P (sym (same ∙ number)) p) (λ (none : ⊥). absurd none) is in
      let Fit : ℕ → View → Type 0 = λ j d. Fits (opened key, log key) r.all r.tickets (word_at log opened legal mark left_open key s 2) (r.next + 1) r.keeper r.owner names (IsUnborn r.place) r.last r.marks r.opens j d in
      let left : Fit id l = record {
        saw = record { based = f.saw.based; since = since_later r.next (r.next + 1) (log key) v.seen (omega arith) f.saw.since; missed = λ n is. missed_later n r.next (r.next + 1) v.seen r.all (omega arith) (f.saw.missed n is); least = f.saw.least; most = f.saw.most };
        numbered = record {
          own_numbers = λ n is. old_name n id (f.numbered.own_numbers n is);
          stands_for = f.numbered.stands_for;
          may_give = λ _. (may.0, omega arith);
        };
        in_line = record { has_ticket = f.in_line.has_ticket; served = f.in_line.served; alone = f.in_line.alone; making = f.in_line.making };
        marked = record { turn = f.marked.turn; mark = f.marked.mark; linked = f.marked.linked; own = f.marked.own; whole = f.marked.whole; current = f.marked.current };
        parts = f.parts;
      } in
      let right : Fit (length s.views) a = record {
        saw = record {
          based = f.saw.based;
          since = since_later r.next (r.next + 1) (log key) v.seen (omega arith) f.saw.since;
          missed = alone (λ n. Missed n (r.next + 1) v.seen r.all) (missed_next v.number r.next v.seen r.all (f.saw.missed v.number (inl refl)));
          least = f.saw.least;
          most = f.saw.most;
        };
        numbered = record {
          own_numbers = alone (λ n. (names n ≡ length s.views) × WasGiven (r.next + 1) n) (subst (λ n. (names n ≡ length s.views) × WasGiven (r.next + 1) n) number (new_name, new_given));
          stands_for = omega arith;
          may_give = λ lt. absurd (omega arith);
        };
        in_line = record { has_ticket = λ x. absurd x; served = λ x. absurd x; alone = λ x. absurd x; making = λ x. absurd x };
        marked = record {
          turn = f.marked.turn;
          mark = f.marked.mark;
          linked = alone (λ n. (j : ℕ) → v.turn ≤ j → j ≤ r.last → Linked n v.mark (r.marks j)) (λ j low high. linked_next v.number r.next (mark key) v.mark (r.marks j) (r.mark_given j high)
              (subst (λ (z : Mark × Mark). Grows z.0 z.1) (λ i. (r.first_mark i, sym f.marked.mark i)) (r.grows 0 v.turn (omega arith) f.marked.turn)) (f.marked.linked v.number (inl refl) j low high));
          own = subst (StaysOpen nothing_open) (sym (r.opens_given (4294967296 - v.spare) (omega arith))) (stays_self nothing_open);
          whole = f.marked.whole;
          current = λ x. absurd x;
        };
        parts = (λ n is. absurd is, λ n is. absurd is);
      } in
      let others : (j : ℕ) (d : View) → j ≢ id → get_elem? s.views j ≡ some d → IsLive d.stage → Fit j d = λ j d other at alive. let g = r.each j d at alive in record {
        saw = record { based = g.saw.based; since = since_later r.next (r.next + 1) (log key) d.seen (omega arith) g.saw.since; missed = λ n is. missed_later n r.next (r.next + 1) d.seen r.all (omega arith) (g.saw.missed n is); least = g.saw.least; most = g.saw.most };
        numbered = record {
          own_numbers = λ n is. old_name n j (g.numbered.own_numbers n is);
          stands_for = g.numbered.stands_for;
          may_give = λ lt. absurd (other (sym (g.numbered.may_give lt).0 ∙ may.0));
        };
        in_line = g.in_line;
        marked = g.marked;
        parts = g.parts;
      } in
      let none_held : tickets_of v.stage ≡ 0 = ap tickets_of idle in
      record {
        all = r.all;
        tickets = r.tickets;
        next = r.next + 1;
        keeper = r.keeper;
        owner = r.owner;
        named = names;
        last = r.last;
        marks = r.marks;
        opens = r.opens;
        place = r.place;
        wide = r.wide;
        count = r.count;
        small = r.small;
        drawn = r.drawn;
        queued = let one : total queue vs + tickets_of v.stage ≡ total queue s.views + tickets_of v.stage = total_set queue s.views id v l here in
            let two : total queue (vs ++ a ∷ []) ≡ total queue vs + 0 = total_snoc queue vs a in let was : total queue s.views + word_at log opened legal mark left_open key s 2 ≡ r.tickets = r.queued in omega arith;
        weighs = let one : total weight vs + (v.held + v.spare) ≡ total weight s.views + (v.held + (v.spare - 1)) = total_set weight s.views id v l here in
            let two : total weight (vs ++ a ∷ []) ≡ total weight vs + 1 = total_snoc weight vs a in let was : total weight s.views ≡ 4294967295 = r.weighs in omega arith;
        is_legal = r.is_legal;
        since = since_later r.next (r.next + 1) (log key) r.all (omega arith) r.since;
        each = λ j d at alive. ⊎_elim (λ (t : get_elem? vs j ≡ some d). seats_stay (λ j d. IsLive d.stage → Fit j d) s.views id l (λ _. left) others j d t alive)
            (λ (t : (j ≡ length vs) × (a ≡ d)). subst (λ (x : ℕ × View). Fit x.0 x.1) (λ i. (sym (t.0 ∙ length-set s.views id l) i, t.1 i)) right) (at_snoc_at vs a d j at);
        spent = λ j d at gone. ⊎_elim (λ (t : get_elem? vs j ≡ some d). seats_stay (λ j d. ¬ IsLive d.stage → tickets_of d.stage ≡ 0) s.views id l (λ n. absurd (n live)) (λ j d _. r.spent j d) j d t gone)
            (λ (t : (j ≡ length vs) × (a ≡ d)). absurd (gone (subst (λ (x : View). IsLive x.stage) t.1 tt))) (at_snoc_at vs a d j at);
        grows = r.grows;
        first_mark = r.first_mark;
        mark_given = λ j le. given_later r.next (mark key) (r.marks j) (r.mark_given j le);
        opens_given = are_given_later r.next r.opens r.opens_given;
        longest = let t = r.longest in dite (ℕ_discrete t.0 id)
            (λ e. (id, l, at_longer vs (a ∷ []) id l (set_there s.views id l v here), live, ap (λ (x : View). x.seen) (same_view s.views t.0 id v t.1 here t.2 e) ∙ t.4, ap (λ (x : View). x.turn) (same_view s.views t.0 id v t.1 here t.2 e) ∙ t.5))
            (λ ne. (t.0, t.1, at_longer vs (a ∷ []) t.0 t.1 (set_else s.views id t.0 l ne ∙ t.2), t.3, t.4, t.5));
        stands = stands_longer r.all (r.marks r.last) r.opens (r.owner (word_at log opened legal mark left_open key s 2)) s.homes vs a r.place
            (stands_stay log opened mark left_open key r.all (r.marks r.last) r.opens (r.owner (word_at log opened legal mark left_open key s 2)) s.homes s.views id v l r.place here (λ x. subst IsAlone idle x) r.stands);
      }

  pub joins : (id : ℕ) (v : View) (other : ℕ) (w : View) → v.stage ≡ Idle → w.stage ≡ Idle → Joins (Rule log opened legal mark left_open key) id v other w (joined v w) nobody
  joins id v other w vi wi s r here apart there = let b : View = joined v w in let vs : List View = set s.views id b in let ends : List View = set vs other nobody in
      let was_there : get_elem? s.views other ≡ some w = sym (set_else s.views id other b apart) ∙ there in
      let live : IsLive v.stage = subst IsLive (sym vi) tt in let f = r.each id v here live in let g = r.each other w was_there (subst IsLive (sym wi) tt) in
      let first = f.saw.missed v.number (inl refl) in let second = g.saw.missed w.number (inl refl) in
      let missed : (n : ℕ) → IsAmong n (numbers_of v ++ numbers_of w) → Missed n r.next (longer v.seen w.seen) r.all = of_both (λ n. Missed n r.next (longer v.seen w.seen) r.all) (numbers_of v) (numbers_of w)
      (λ n is. missed_longer n w.number r.next v.seen w.seen r.all (f.saw.missed n is) second) (λ n is. longer_missed v.number n r.next v.seen w.seen r.all first (g.saw.missed n is)) in
      let names : ℕ → ℕ = λ x. cond (eqb (r.named x) other) id (r.named x) in
      let still : (x j : ℕ) → j ≢ other → (r.named x ≡ j) × WasGiven r.next x → (names x ≡ j) × WasGiven r.next x = λ x j ne o. (ap (λ b. cond b id (r.named x)) (ne_eqb (r.named x) other (λ e. ne (sym o.0 ∙ e))) ∙ o.0, o.1) in
      let over : (x : ℕ) → (r.named x ≡ other) × WasGiven r.next x → (names x ≡ id) × WasGiven r.next x = λ x o. (ap (λ b. cond b id (r.named x)) (eq-eqb (r.named x) other o.0), o.1) in
      let one_gives : 0 < v.spare → 0 < w.spare → ⊥ = λ x y. apart (sym (g.numbered.may_give y).0 ∙ (f.numbered.may_give x).0) in
      let sums : max v.spare w.spare ≡ v.spare + w.spare = dite (ℕ_discrete v.spare 0) (λ z. omega arith) (λ some_v. dite (ℕ_discrete w.spare 0) (λ z. omega arith) (λ some_w. absurd (one_gives (omega arith) (omega arith)))) in
      let keeps_on : (k : ℕ) × (((j : ℕ) (d : View) → j ≢ other → Numbered r.named r.next r.keeper j d → Numbered names r.next k j d) × (0 < max v.spare w.spare → (k ≡ id) × (r.next + max v.spare w.spare ≡ 4294967296))) =
      dite (ℕ_discrete w.spare 0)
      (λ z. (r.keeper, ((λ j d ne h. record { own_numbers = λ n is. still n j ne (h.own_numbers n is); stands_for = h.stands_for; may_give = h.may_give }), λ lt. let m = f.numbered.may_give (omega arith) in let e : r.next + v.spare ≡ 4294967296 = m.1 in (m.0, omega arith))))
      (λ some_w. let m = g.numbered.may_give (omega arith) in let e : r.next + w.spare ≡ 4294967296 = m.1 in let none_v : v.spare ≡ 0 = dite (ℕ_discrete v.spare 0) (λ z. z) (λ some_v. absurd (one_gives (omega arith) (omega arith))) in
      (id, ((λ j d ne h. record { own_numbers = λ n is. still n j ne (h.own_numbers n is); stands_for = h.stands_for; may_give = λ lt. absurd (ne (sym (h.may_give lt).0 ∙ m.0)) }), λ lt. (refl, omega arith)))) in
      let Fit : ℕ → View → Type 0 = λ j d. Fits (opened key, log key) r.all r.tickets (word_at log opened legal mark left_open key s 2) r.next keeps_on.0 r.owner names (IsUnborn r.place) r.last r.marks r.opens j d in
      let between : (x y : View) → x.mark ≡ r.marks x.turn → y.mark ≡ r.marks y.turn → x.turn ≤ y.turn → y.turn ≤ r.last → Grows x.mark y.mark =
      λ x y first later le under. subst (λ (z : Mark × Mark). Grows z.0 z.1) (λ i. (sym first i, sym later i)) (r.grows x.turn y.turn le under) in
      let mine : Fit id b = record {
        saw = record {
          based = f.saw.based;
          since = since_longer r.next (log key) v.seen w.seen f.saw.since g.saw.since;
          missed = missed;
          least = longer_bound (opened key).state.place v.seen w.seen v.known w.known f.saw.least g.saw.least;
          most = let p : v.known ≤ place_after (opened key) r.all = f.saw.most in let q : w.known ≤ place_after (opened key) r.all = g.saw.most in omega arith;
        };
        numbered = record {
          own_numbers = of_both (λ n. (names n ≡ id) × WasGiven r.next n) (numbers_of v) (numbers_of w) (λ n is. still n id (λ e. apart (sym e)) (f.numbered.own_numbers n is)) (λ n is. over n (g.numbered.own_numbers n is));
          stands_for = let p : 1 ≤ v.held = f.numbered.stands_for in omega arith;
          may_give = keeps_on.1.1;
        };
        in_line = record { has_ticket = f.in_line.has_ticket; served = f.in_line.served; alone = λ x. absurd (subst IsAlone vi x); making = f.in_line.making };
        marked = record {
          turn = let p : v.turn ≤ r.last = f.marked.turn in let q : w.turn ≤ r.last = g.marked.turn in omega arith;
          mark = later_cases v.turn w.turn v.mark w.mark (λ m k. m ≡ r.marks k) (λ _. g.marked.mark) (λ _. f.marked.mark);
          linked = of_both (λ n. (j : ℕ) → max v.turn w.turn ≤ j → j ≤ r.last → Linked n (later_mark v.turn w.turn v.mark w.mark) (r.marks j)) (numbers_of v) (numbers_of w)
              (λ n is. later_cases v.turn w.turn v.mark w.mark (λ m k. (j : ℕ) → k ≤ j → j ≤ r.last → Linked n m (r.marks j))
              (λ lt j low high. linked_later n w.number v.mark w.mark (r.marks j) (between v w f.marked.mark g.marked.mark (omega (arith, lt)) g.marked.turn) (f.marked.linked n is j (omega (arith, lt, low)) high) (g.marked.linked w.number (inl refl) j low high))
              (λ _. f.marked.linked n is))
              (λ n is. later_cases v.turn w.turn v.mark w.mark (λ m k. (j : ℕ) → k ≤ j → j ≤ r.last → Linked n m (r.marks j))
              (λ _. g.marked.linked n is)
              (λ le j low high. linked_later n v.number w.mark v.mark (r.marks j) (between w v g.marked.mark f.marked.mark le f.marked.turn) (g.marked.linked n is j (omega (arith, le, low)) high) (f.marked.linked v.number (inl refl) j low high)));
          own = f.marked.own;
          whole = later_cases v.turn w.turn v.found w.found (λ o k. k ≡ r.last → o ≡ r.opens) (λ _. g.marked.whole) (λ _. f.marked.whole);
          current = λ x. absurd (subst IsAlone vi x);
        };
        parts = (
          λ n is. (
            longer_first_on n w.number r.next v.seen w.seen r.all (f.saw.missed n is) second,
            later_cases v.turn w.turn v.mark w.mark (λ m k. Linked n v.mark m) (λ lt. subst (Linked n v.mark) (sym g.marked.mark) (f.marked.linked n is w.turn (omega (arith, lt)) g.marked.turn)) (λ _. linked_self n v.mark),
          ),
          λ n is. (
            longer_second_on v.number n r.next v.seen w.seen r.all first (g.saw.missed n is),
            later_cases v.turn w.turn v.mark w.mark (λ m k. Linked n w.mark m) (λ _. linked_self n w.mark) (λ le. subst (Linked n w.mark) (sym f.marked.mark) (g.marked.linked n is v.turn le f.marked.turn)),
          ),
        );
      } in
      let others : (j : ℕ) (d : View) → j ≢ other → get_elem? s.views j ≡ some d → IsLive d.stage → Fit j d = λ j d ne at alive. let h = r.each j d at alive in record { saw = h.saw; numbered = keeps_on.1.0 j d ne h.numbered; in_line = h.in_line; marked = h.marked; parts = h.parts } in
      let id_stays : get_elem? ends id ≡ some b = set_else vs other id nobody (λ e. apart (sym e)) ∙ set_there s.views id b v here in
      record {
        all = r.all;
        tickets = r.tickets;
        next = r.next;
        keeper = keeps_on.0;
        owner = r.owner;
        named = names;
        last = r.last;
        marks = r.marks;
        opens = r.opens;
        place = r.place;
        wide = r.wide;
        count = r.count;
        small = r.small;
        drawn = r.drawn;
        queued = let one : total queue vs + tickets_of v.stage ≡ total queue s.views + tickets_of v.stage = total_set queue s.views id v b here in
            let two : total queue ends + tickets_of w.stage ≡ total queue vs + 0 = total_set queue vs other w nobody there in let none_held : tickets_of w.stage ≡ 0 = ap tickets_of wi in
            let was : total queue s.views + word_at log opened legal mark left_open key s 2 ≡ r.tickets = r.queued in omega arith;
        weighs = let one : total weight vs + (v.held + v.spare) ≡ total weight s.views + (v.held + w.held + max v.spare w.spare) = total_set weight s.views id v b here in
            let two : total weight ends + (w.held + w.spare) ≡ total weight vs + 0 = total_set weight vs other w nobody there in let was : total weight s.views ≡ 4294967295 = r.weighs in omega arith;
        is_legal = r.is_legal;
        since = r.since;
        each = seats_stay (λ j d. IsLive d.stage → Fit j d) vs other nobody (λ x. absurd x)
            (λ j d ne at alive. ⊎_elim (λ (t : (j ≡ id) × (b ≡ d)). subst (λ (x : ℕ × View). Fit x.0 x.1) (λ i. (sym t.0 i, t.1 i)) mine) (λ (t : (j ≢ id) × (get_elem? s.views j ≡ some d)). others j d ne t.1 alive) (at_set s.views id j b d at));
        spent = seats_stay (λ j d. ¬ IsLive d.stage → tickets_of d.stage ≡ 0) vs other nobody (λ _. refl)
            (λ j d ne at. seats_stay (λ j d. ¬ IsLive d.stage → tickets_of d.stage ≡ 0) s.views id b (λ n. absurd (n live)) (λ j d _. r.spent j d) j d at);
        grows = r.grows;
        first_mark = r.first_mark;
        mark_given = r.mark_given;
        opens_given = r.opens_given;
        longest = let t = r.longest in
            let by_length : length t.1.seen ≤ length (longer v.seen w.seen) → max v.turn w.turn ≡ r.last → SomeoneSaw ends r.all r.last = λ le turned. (
              id,
              b,
              id_stays,
              live,
              whole v.number r.next (longer v.seen w.seen) r.all (missed v.number (inl refl)) (subst (λ l. length l ≤ length (longer v.seen w.seen)) t.4 le),
              turned,
            ) in
            let p : v.turn ≤ r.last = f.marked.turn in let q : w.turn ≤ r.last = g.marked.turn in
            dite (ℕ_discrete t.0 id)
            (λ e. by_length (subst (λ (x : View). length x.seen ≤ length (longer v.seen w.seen)) (same_view s.views t.0 id v t.1 here t.2 e) (longer_first v.seen w.seen)) (let o : v.turn ≡ r.last = ap (λ (x : View). x.turn) (same_view s.views t.0 id v t.1 here t.2 e) ∙ t.5 in omega arith))
            (λ ne. dite (ℕ_discrete t.0 other)
            (λ e. by_length (subst (λ (x : View). length x.seen ≤ length (longer v.seen w.seen)) (same_view s.views t.0 other w t.1 was_there t.2 e) (longer_second v.seen w.seen)) (let o : w.turn ≡ r.last = ap (λ (x : View). x.turn) (same_view s.views t.0 other w t.1 was_there t.2 e) ∙ t.5 in omega arith))
            (λ nor. (t.0, t.1, set_else vs other t.0 nobody nor ∙ (set_else s.views id t.0 b ne ∙ t.2), t.3, t.4, t.5)));
        stands = stands_stay log opened mark left_open key r.all (r.marks r.last) r.opens (r.owner (word_at log opened legal mark left_open key s 2)) s.homes vs other w nobody r.place there (λ x. subst IsAlone wi x)
            (stands_stay log opened mark left_open key r.all (r.marks r.last) r.opens (r.owner (word_at log opened legal mark left_open key s 2)) s.homes s.views id v b r.place here (λ x. subst IsAlone vi x) r.stands);
      }

  -- a pass that was made of two goes on from them
  pub compares : (slots id : ℕ) (me : Me (Option V) View) → me.0.stage ≡ Idle → Allows (Rule log opened legal mark left_open key) slots id me 0 (λ n. n) (λ _. compared me)
  compares slots id me idle s r len here below = let v : View = me.0 in let live : IsLive v.stage = subst IsLive (sym idle) tt in (
    v,
    keeps,
    tt,
    looked_on log opened legal mark left_open key s r 0 id me.1 v here live (λ a. subst IsAlone idle a),
    (refl, (r.each id v here live).parts),
  )

  -- once a pass stands for all, no other is left
  pub closes : (s : St log opened legal mark left_open key) (r : Rule log opened legal mark left_open key s) (id : ℕ) (v : View) → get_elem? s.views id ≡ some v → v.stage ≡ Idle → v.held + v.spare ≡ 4294967295
      → (x : V) × (get_elem? s.homes 0 ≡ some (some (Some x))) × (log x ≡ v.seen) × (opened x ≡ opened key) × legal (opened key) (log x) × (mark x ≡ v.mark) × StaysOpen v.own (open_of v.number (left_open x)) × (left_open x ≡ v.found)
  closes s r id v here idle all_of = let live : IsLive v.stage = subst IsLive (sym idle) tt in let alone = only_one log opened legal mark left_open key s r id v here all_of in
      let all_seen = saw_all log opened legal mark left_open key s r id v here live all_of in let seen = all_seen.0 in let now = all_seen.1 in let opens = all_seen.2 in
      let nobody_there : (o : ℕ) (st : Stage) → IsAlone st → Turned s.views o st → ⊥ = λ o st a u. let b : IsAlone u.0.stage = subst IsAlone (sym u.2) a in
      let same = alone o u.0 u.1 (busy_live u.0.stage (served_busy u.0.stage (alone_served u.0.stage b))) in subst IsAlone (ap (λ (x : View). x.stage) (sym same) ∙ idle) b in
      found r.all (r.marks r.last) r.opens (r.owner (word_at log opened legal mark left_open key s 2)) s.homes s.views r.place r.stands seen now opens nobody_there r.is_legal (r.each id v here live).marked.own
    where
      found : (all : List LogEntry) (now : Mark) (op : Open) (o : ℕ) (hs : List (Maybe (Option V))) (vs : List View) (p : Place V) → Stands log opened mark left_open (opened key) all now op o hs vs p → v.seen ≡ all → v.mark ≡ now → v.found ≡ op → ((o : ℕ) (st : Stage) → IsAlone st → Turned vs o st → ⊥) → legal (opened key) all → StaysOpen v.own (open_of v.number op)
          → (x : V) × (get_elem? hs 0 ≡ some (some (Some x))) × (log x ≡ v.seen) × (opened x ≡ opened key) × legal (opened key) (log x) × (mark x ≡ v.mark) × StaysOpen v.own (open_of v.number (left_open x)) × (left_open x ≡ v.found)
      found all now op o hs vs (home x) st e m l n ok own = (x, st.0, st.1 ∙ sym e, st.2, subst (legal (opened key)) (sym st.1) ok, st.3 ∙ sym m, subst (λ (o : Open). StaysOpen v.own (open_of v.number o)) (sym st.4) own, st.4 ∙ sym l)
      found all now op o hs vs unborn st e m l n ok own = absurd (n o Making tt st.1)
      found all now op o hs vs out st e m l n ok own = absurd (n o Holding tt st)

  pub closes_at : (id : ℕ) (v : View) (ws : List ℕ) (xs : List (Option V)) → Final (Seen (Rule log opened legal mark left_open key) id v) ws xs → v.stage ≡ Idle → v.held + v.spare ≡ 4294967295 → (y : Option V) → get_elem? xs 0 ≡ some y
      → (x : V) × (y ≡ Some x) × (log x ≡ v.seen) × (opened x ≡ opened key) × legal (opened key) (log x) × (mark x ≡ v.mark) × StaysOpen v.own (open_of v.number (left_open x)) × (left_open x ≡ v.found)
  closes_at id v ws xs fin idle all_of y at = let c = closes fin.0 fin.1.0 id v fin.1.1 idle all_of in
      (c.0, some-injective y (Some c.0) (sym at ∙ fin.4 0 (Some c.0) c.1), c.2, c.3, c.4, c.5, c.6, c.7)

  -- while numbers are left, all that it has seen more is of numbers that were given, and so is what is new in its mark
  pub given_at : (id : ℕ) (v : View) (ws : List ℕ) (xs : List (Option V)) → Final (Seen (Rule log opened legal mark left_open key) id v) ws xs → v.stage ≡ Idle → 0 < v.spare
      → Since (4294967296 - v.spare) (log key) v.seen × IsGiven (4294967296 - v.spare) (mark key) v.mark
  given_at id v ws xs fin idle some_left = let r = fin.1.0 in let f = r.each id v fin.1.1 (subst IsLive (sym idle) tt) in
      let sum : r.next + v.spare ≡ 4294967296 = (f.numbered.may_give some_left).1 in let number : r.next ≡ 4294967296 - v.spare = omega arith in (
        subst (λ (n : ℕ). Since n (log key) v.seen) number f.saw.since,
        subst (λ (z : ℕ × Mark). IsGiven z.0 (mark key) z.1) (λ i. (number i, sym f.marked.mark i)) (r.mark_given v.turn f.marked.turn),
      )

first_view : List View → View → View
first_view [] d = d
first_view (v ∷ vs) d = v

-- what is known of the view of a pass that has no turn
pub record FreeView (desk : DeskId) (p : Pass) (w : View) : Type 0 where
  pub idle : w.stage ≡ Idle
  pub origin : w.origin ≡ Some (desk.opened, desk.begun)
  pub number : w.number ≡ p.number
  pub spare : w.spare ≡ p.spare
  pub gone : gone_in p.badge.views ≡ w.gone
  pub seen : seen p ≡ w.seen
  pub known : known p ≡ w.known
  pub held : stands_for p ≡ w.held
  pub mark : mark_of p ≡ w.mark
  pub turn : turn_of p ≡ w.turn
  pub left : left_by p ≡ w.own
  pub all_left : all_left_by p ≡ w.found

pub free_view : (desk : DeskId) (p : Pass) (w : View) → IsFree desk p → p.badge.views ≡ w ∷ [] → FreeView desk p w
unfolding first_view
free_view desk p w f e = let same : f.0 ≡ w = ap (λ l. first_view l w) (sym f.1 ∙ e) in record {
  idle = ap (λ (x : View). x.stage) (sym same) ∙ f.3;
  origin = ap (λ (x : View). x.origin) (sym same) ∙ f.4;
  number = ap (λ (x : View). x.number) (sym same) ∙ f.5;
  spare = ap (λ (x : View). x.spare) (sym same) ∙ f.6;
  gone = ap gone_in e;
  seen = ap seen_in e;
  known = ap known_in e;
  held = ap held_in e;
  mark = ap mark_in e;
  turn = ap turn_in e;
  left = ap own_in e;
  all_left = ap found_in e;
}

-- a pass with this view remembers one with that
pub remembers_at : (desk : DeskId) (p q : Pass) (w u : View) → FreeView desk p w → q.badge.views ≡ u ∷ [] → u.seen ≡ w.seen → u.known ≡ w.known → u.mark ≡ w.mark → u.turn ≡ w.turn → u.found ≡ w.found → Remembers p q
remembers_at desk p q w u f at seen_is known_is mark_is turn_is found_is = record {
  seen = ap seen_in at ∙ (seen_is ∙ sym f.seen);
  known = ap known_in at ∙ (known_is ∙ sym f.known);
  mark = ap mark_in at ∙ (mark_is ∙ sym f.mark);
  turn = ap turn_in at ∙ (turn_is ∙ sym f.turn);
  all_left = ap found_in at ∙ (found_is ∙ sym f.all_left);
}

-- a pass goes on from one that it was made of
carries_part : (desk : DeskId) (p : Pass) (v u : View) (number : ℕ) (views : List View) → FreeView desk p v → ((n : ℕ) → IsAmong n (numbers_of v) → IsAmong n (numbers_of u)) → IsPart (part_of v) u.seen u.mark → u.number ≡ number → views ≡ u ∷ []
    → (n : ℕ) → HasNumber n p → IsAmong n (number ∷ gone_in views) × Follows n (seen p) (seen_in views) × Linked n (mark_of p) (mark_in views)
carries_part desk p v u number views f among part same is n has =
    let here : IsAmong n (numbers_of v) = subst (λ (z : ℕ × List ℕ). IsAmong n (z.0 ∷ z.1)) (λ i. (sym f.number i, f.gone i)) has in
    let told = part n here in (
      subst (λ (z : ℕ × List ℕ). IsAmong n (z.0 ∷ z.1)) (λ i. (same i, sym (ap gone_in is) i)) (among n here),
      subst (λ (z : List LogEntry × List LogEntry). Follows n z.0 z.1) (λ i. (sym f.seen i, sym (ap seen_in is) i)) told.0,
      subst (λ (z : Mark × Mark). Linked n z.0 z.1) (λ i. (sym f.mark i, sym (ap mark_in is) i)) told.1,
    )

-- and one that took in another, from both
pub carries : (desk : DeskId) (p other : Pass) (v w u : View) (views : List View) → FreeView desk p v → FreeView desk other w → u ≡ joined v w → HasParts u → views ≡ u ∷ []
    → ((n : ℕ) → HasNumber n p → IsAmong n (number_of p ∷ gone_in views) × Follows n (seen p) (seen_in views) × Linked n (mark_of p) (mark_in views))
    × ((n : ℕ) → HasNumber n other → IsAmong n (number_of p ∷ gone_in views) × Follows n (seen other) (seen_in views) × Linked n (mark_of other) (mark_in views))
carries desk p other v w u views f g is told at =
    let both : HasParts (joined v w) = subst HasParts is told in let there : views ≡ joined v w ∷ [] = at ∙ ap (λ (x : View). x ∷ []) is in (
      carries_part desk p v (joined v w) (number_of p) views f (λ n a. among_first n (numbers_of v) (numbers_of w) a) both.0 f.number there,
      carries_part desk other w (joined v w) (number_of p) views g (λ n a. among_second n (numbers_of v) (numbers_of w) a) both.1 f.number there,
    )

-- the mark that it then holds
pub holds_later : (desk : DeskId) (p other : Pass) (v w u : View) (views : List View) → FreeView desk p v → FreeView desk other w → u ≡ joined v w → views ≡ u ∷ []
    → (mark_in views ≡ later_mark (turn_of p) (turn_of other) (mark_of p) (mark_of other)) × (turn_in views ≡ max (turn_of p) (turn_of other))
holds_later desk p other v w u views f g is at =
    let there : views ≡ joined v w ∷ [] = at ∙ ap (λ (x : View). x ∷ []) is in
    let held : later_mark v.turn w.turn v.mark w.mark ≡ later_mark (turn_of p) (turn_of other) (mark_of p) (mark_of other) = λ i. later_mark (sym f.turn i) (sym g.turn i) (sym f.mark i) (sym g.mark i) in
    let turned : max v.turn w.turn ≡ max (turn_of p) (turn_of other) = λ i. max (sym f.turn i) (sym g.turn i) in
    (ap mark_in there ∙ held, ap turn_in there ∙ turned)

-- the same of what is equal
pub stays_at : {m n : ℕ} {a b : Open} (o p : Open) → a ≡ b → m ≡ n → o ≡ p → StaysOpen a (open_of m o) → StaysOpen b (open_of n p)
stays_at o p left number same is = subst (λ (z : Open × ℕ × Open). StaysOpen z.0 (open_of z.1 z.2)) (λ i. (left i, number i, same i)) is

-- the value is as it was found
pub found_is : {V : Type 0} (opened : V → Opened) (log : V → List LogEntry) (mark : V → Mark) (left_open : V → Open) (desk : DeskId) (h : Held V) (w : View) → h.seat.me.0 ≡ finding w (opened h.value) (log h.value) (mark h.value) (left_open h.value) h.seat.me.0.turn → desk.opened ≡ opened h.value
    → found desk h ≡ snapshot opened log mark left_open h.value
found_is opened log mark left_open desk h w is from = λ i. record { opened = from i; log = (is i).seen; mark = (is i).mark; left_open = (is i).found }
