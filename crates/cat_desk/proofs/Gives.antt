-- Giving the value back keeps the desk's rule: it goes home, with what was added to its log and its mark.
use Rattle.std.proofs.Common.{◌≡◌, ◌≢◌, ℕ, ◌+◌, ◌-◌, ◌<◌, ◌≤◌, List, [], ◌∷◌, length, get_or, set, eqb, eq-eqb, ne_eqb, cond, sym, refl, ap, ◌∙◌, subst, inl, arith, Option, Some, None, le_refl}
use mathlib.Core.Option.{some}
use mathlib.Core.Logic.{dite}
use native.Mathlib.Decide.{ℕ_discrete}
use lib.ListN.{get_elem?}
use Rattle.atomic_table.specs.Table.{State, Me, gives, stepped, Allows}
use Rattle.atomic_table.proofs.Lists.{set_here}
use Rattle.cat_model.specs.declared.log_entry.LogEntry.{LogEntry}
use Rattle.cat_model.specs.Drafts.{Open, open_of, LeavesOthers}
use Rattle.cat_model.specs.Mark.{Mark, Grows, Later}
use Rattle.cat_model.specs.Turns.{Opened, Adds, place_after}
use Rattle.cat_model.specs.TurnLaws.{grows_self, grows_on, stays_self, stays_on}
use Rattle.cat_desk.specs.Sight.{Holding, View}
use Rattle.cat_desk.specs.Log.{IsAmong, WasGiven, Since}
use Rattle.cat_desk.specs.Marks.{Linked, IsGiven}
use Rattle.cat_desk.specs.Rule.{home, IsLive, IsServed, IsAlone, tickets_of, numbers_of, Kept, leaving, gave}
use Rattle.cat_desk.proofs.Logs.{missed_none, missed_more, adds_longer, since_more}
use Rattle.cat_desk.proofs.Marks.{linked_self, linked_more, given_more, are_given_more}
use Rattle.cat_desk.proofs.Seats.{alone_served, making_served, served_busy, set_there, behind}
use Rattle.cat_desk.proofs.Keeps.{as_wide, my_turn, other_turn, queue_stays, rebuilt, step_to}

module _ {V : Type 0} (log : V → List LogEntry) (opened : V → Opened) (legal : Opened → List LogEntry → Type 0) (mark : V → Mark) (left_open : V → Open) (key : V) where
  abbrev St : Type 0
  St = State (Option V) View

  abbrev M : Type 0
  M = Me (Option V) View

  abbrev Rule : St → Type 0
  Rule = Kept log opened legal mark left_open key

  abbrev word_at : St → ℕ → ℕ
  word_at s i = get_or s.words i 0

  given : (s : St) (r : Rule s) (id : ℕ) (v : View) (n : ℕ) (x : V) → 0 < length s.homes → get_elem? s.views id ≡ some v → v.stage ≡ Holding → Adds v.number v.seen (log x) → legal (opened key) (log x) → opened x ≡ opened key → Later v.number v.mark (mark x) → LeavesOthers v.number v.found (left_open x) → n ≡ place_after (opened x) (log x) → n < 4294967296
      → Rule (stepped s 0 n id ((0, Some x) ∷ []) (leaving v (opened x) (log x) (mark x) (left_open x)) gives)
  given s r id v n x some_slot here is adds ok from later others_open count small = let w : View = leaving v (opened x) (log x) (mark x) (left_open x) in let here_is : place_after (opened x) (log x) ≡ place_after (opened key) (log x) = ap (λ (o : Opened). place_after o (log x)) from in let sv : IsServed v.stage = subst IsServed (sym is) tt in
      let a : IsAlone v.stage = subst IsAlone (sym is) tt in
      let f = r.each id v here (subst IsLive (sym is) tt) in let turn = my_turn log opened legal mark left_open key s r id v f sv in
      let own = f.numbered.own_numbers v.number (inl refl) in let was : WasGiven r.next v.number = own.1 in
      let more : Adds v.number r.all (log x) = subst (λ l. Adds v.number l (log x)) (f.in_line.alone a) adds in
      let more_since : Since r.next (log key) (log x) = since_more v.number r.next (log key) r.all (log x) was r.since more in
      let longer : length r.all ≤ length (log x) = adds_longer v.number r.all (log x) more in
      let last : v.turn ≡ r.last = f.marked.current a in let t : ℕ = v.turn + 1 in let marks : ℕ → Mark = λ k. cond (eqb k t) (mark x) (r.marks k) in
      let new_at : marks t ≡ mark x = ap (λ b. cond b (mark x) (r.marks t)) (eq-eqb t t refl) in
      let old_at : (k : ℕ) → k ≢ t → marks k ≡ r.marks k = λ k ne. ap (λ b. cond b (mark x) (r.marks k)) (ne_eqb k t ne) in
      let moved : Later v.number (r.marks r.last) (mark x) = subst (λ m. Later v.number m (mark x)) (f.marked.mark ∙ ap r.marks last) later in
      let moved_open : LeavesOthers v.number r.opens (left_open x) = subst (λ l. LeavesOthers v.number l (left_open x)) (f.marked.whole last) others_open in
      let below : (k : ℕ) → k ≤ t → k ≢ t → k ≤ r.last = λ k le ne. omega arith in
      let grows : (i j : ℕ) → i ≤ j → j ≤ t → Grows (marks i) (marks j) = λ i j le under. dite (ℕ_discrete j t)
      (λ e. subst (λ (z : ℕ). Grows (marks i) (marks z)) (sym e) (subst (λ z. Grows (marks i) z) (sym new_at) (dite (ℕ_discrete i t)
      (λ d. subst (λ (z : ℕ). Grows (marks z) (mark x)) (sym d) (subst (λ z. Grows z (mark x)) (sym new_at) (grows_self (mark x))))
      (λ nd. let low : i ≤ r.last = below i (omega arith) nd in subst (λ z. Grows z (mark x)) (sym (old_at i nd)) (grows_on (r.marks i) (r.marks r.last) (mark x) (r.grows i r.last low (le_refl r.last)) moved.grows)))))
      (λ ne. let low : j ≤ r.last = below j under ne in let not_i : i ≢ t = λ e. omega arith in
      subst (λ (z : Mark × Mark). Grows z.0 z.1) (λ q. (sym (old_at i not_i) q, sym (old_at j ne) q)) (r.grows i j le low)) in
      let given_at : (j : ℕ) → j ≤ t → IsGiven r.next (mark key) (marks j) = λ j under. dite (ℕ_discrete j t)
      (λ e. subst (λ (z : ℕ). IsGiven r.next (mark key) (marks z)) (sym e) (subst (IsGiven r.next (mark key)) (sym new_at) (given_more v.number r.next (mark key) (r.marks r.last) (mark x) was (r.mark_given r.last (le_refl r.last)) moved)))
      (λ ne. subst (IsGiven r.next (mark key)) (sym (old_at j ne)) (r.mark_given j (below j under ne))) in
      rebuilt log opened legal mark left_open key s r 0 n (set s.homes 0 (some (Some x))) (set s.views id w) (step_to log opened legal mark left_open key s r id v w (n ∷ word_at s 1 ∷ word_at s 2 ∷ behind s.words) (set s.homes 0 (some (Some x))) (log x) r.tickets r.owner (home x) t marks (left_open x)
      grows (old_at 0 (λ e. omega arith) ∙ r.first_mark) given_at
      (are_given_more v.number r.next r.opens (left_open x) was.1 r.opens_given moved_open) here tt refl
      (as_wide log opened legal mark left_open key s r) (count ∙ here_is) (omega (arith, count, here_is, small)) r.drawn (queue_stays log opened legal mark left_open key s r id v w here (sym (ap tickets_of is))) ok more_since
      record {
        saw = record { based = f.saw.based; since = more_since; missed = λ n is. missed_none n r.next (log x); least = omega (arith, here_is); most = omega (arith, here_is) };
        numbered = record { own_numbers = f.numbered.own_numbers; stands_for = f.numbered.stands_for; may_give = f.numbered.may_give };
        in_line = record { has_ticket = λ _. f.in_line.has_ticket (served_busy v.stage sv); served = λ _. f.in_line.served sv; alone = λ y. absurd y; making = λ y. absurd y };
        marked = record { turn = le_refl t; mark = sym new_at; linked = λ n is j low high. let from : t ≤ j = low in let to : j ≤ t = high in let same : j ≡ t = omega arith in subst (Linked n (mark x)) (sym new_at ∙ ap marks (sym same)) (linked_self n (mark x)); own = stays_self (open_of v.number (left_open x)); whole = λ _. refl; current = λ y. absurd y };
        parts = (λ n is. absurd is, λ n is. absurd is);
      }
      (λ j d other at alive. let g = r.each j d at alive in let most : d.known ≤ place_after (opened key) r.all = g.saw.most in
      let apart : (m : ℕ) → IsAmong m (numbers_of d) → m ≢ v.number = λ m is e. other (sym (g.numbered.own_numbers m is).0 ∙ (ap r.named e ∙ own.0)) in let before : d.turn ≤ r.last = g.marked.turn in record {
        saw = record {
          based = g.saw.based;
          since = g.saw.since;
          missed = λ m is. missed_more v.number m r.next d.seen r.all (log x) (apart m is) was (g.saw.missed m is) more;
          least = g.saw.least;
          most = omega arith;
        };
        numbered = g.numbered;
        in_line = record {
          has_ticket = g.in_line.has_ticket;
          served = g.in_line.served;
          alone = λ y. absurd (other_turn log opened legal mark left_open key s r j id d other turn g (alone_served d.stage y));
          making = λ m. other_turn log opened legal mark left_open key s r j id d other turn g (making_served d.stage m);
        };
        marked = record {
          turn = omega arith;
          mark = g.marked.mark ∙ sym (old_at d.turn (λ e. omega arith));
          linked = λ m is j low high. dite (ℕ_discrete j t)
              (λ e. subst (λ (z : ℕ). Linked m d.mark (marks z)) (sym e) (subst (Linked m d.mark) (sym new_at) (linked_more v.number m d.mark (r.marks r.last) (mark x) (apart m is) (g.marked.linked m is r.last before (le_refl r.last)) moved)))
              (λ ne. subst (Linked m d.mark) (sym (old_at j ne)) (g.marked.linked m is j low (below j high ne)));
          own = stays_on d.own (open_of d.number r.opens) (open_of d.number (left_open x)) g.marked.own (moved_open d.number (apart d.number (inl refl)));
          whole = λ e. absurd (omega arith);
          current = λ y. absurd (other_turn log opened legal mark left_open key s r j id d other turn g (alone_served d.stage y));
        };
        parts = g.parts;
      })
      (id, w, set_there s.views id w v here, tt, refl, refl)
      (set_here s.homes 0 (some (Some x)) some_slot, refl, from, sym new_at, refl))

  inside : List (ℕ × Option V) → V → V
  inside [] d = d
  inside ((k, Some x) ∷ xs) d = x
  inside ((k, None) ∷ xs) d = d

  pub gives_value : (slots id : ℕ) (me : M) (n : ℕ) (x : V) → slots ≡ 1 → me.1 ≡ (0, Some x) ∷ [] → me.0.stage ≡ Holding → Adds me.0.number me.0.seen (log x) → legal (opened key) (log x) → opened x ≡ opened key → Later me.0.number me.0.mark (mark x) → LeavesOthers me.0.number me.0.found (left_open x) → n ≡ place_after (opened x) (log x) → n < 4294967296
      → Allows Rule slots id me 0 (λ _. n) (λ _. gave log opened mark left_open me)
  unfolding inside
  gives_value slots id me n x one held is adds ok from later others count small = subst (λ (c : List (ℕ × Option V)). Allows Rule slots id (me.0, c) 0 (λ _. n) (λ _. gave log opened mark left_open (me.0, c))) (sym held)
      (λ s r len here below. (
        leaving me.0 (opened x) (log x) (mark x) (left_open x),
        gives,
        tt,
        given s r id me.0 n x (omega arith) here is adds ok from later others count small,
        λ y e. (ap (λ (z : V). leaving me.0 (opened z) (log z) (mark z) (left_open z)) (ap (λ l. inside l x) e), refl),
      ))
