-- Each step on the desk's table keeps its rule.
use Rattle.std.proofs.Common.{◌≡◌, ◌≢◌, ℕ, suc, ◌+◌, ◌-◌, ◌%◌, ◌^◌, ◌<◌, ◌≤◌, List, [], ◌∷◌, length, get_or, set, eqb, eq-eqb, ne_eqb, cond, sym, refl, ap, ◌∙◌, subst, inl, arith, Option, Some, None, le_refl, length-set}
use mathlib.Core.Option.{some, none}
use native.Mathlib.Nat.{mod-eq_of_lt}
use mathlib.Core.Option.{Option as Maybe}
use mathlib.Core.Logic.{dite}
use native.Mathlib.Decide.{ℕ_discrete}
use lib.ListN.{get_elem?}
use lib.Seq.{set-get_or}
use Rattle.atomic_table.specs.Table.{State, Me, keeps, takes, stepped, Allows}
use Rattle.atomic_table.proofs.Lists.{set_else, one_turn}
use Rattle.cat_model.specs.declared.log_entry.LogEntry.{LogEntry}
use Rattle.cat_model.specs.Drafts.{Open, open_of, StaysOpen}
use Rattle.cat_model.specs.Mark.{Mark, Grows}
use Rattle.cat_model.specs.Turns.{Opened, place_after}
use Rattle.cat_desk.specs.Sight.{Origin, Stage, Idle, Making, Waiting, Called, Holding, Leaving, Part, no_part, View}
use Rattle.cat_desk.specs.Log.{Follows, Missed, Since}
use Rattle.cat_desk.specs.Marks.{Linked, IsGiven, AreGiven}
use Rattle.cat_desk.specs.Rule.{Place, home, out, IsLive, IsBusy, IsServed, IsAlone, IsMaking, IsUnborn, tickets_of, total, queue, weight, IsPart, Fits, Turned, SomeoneSaw, Stands, Kept, at_stage, waiting, knowing, drew, called, served, met, still, unnumbered, finding, Begins, Found, TookAt, took}
use Rattle.cat_desk.proofs.Logs.{missed_none, missed_follows, since_next}
use Rattle.cat_desk.proofs.Marks.{linked_self}
use Rattle.cat_desk.proofs.Totals.{total_set, total_le, two_of}
use Rattle.cat_desk.proofs.Standing.{stands_stay, stands_at, home_at, unborn_at}
use Rattle.cat_desk.proofs.Seats.{alone_served, making_served, served_busy, busy_live, one_ticket, is_live, served_ticket, set_there, same_some, behind, three_words, seats_stay, same_view}

module _ {V : Type 0} (log : V → List LogEntry) (opened : V → Opened) (legal : Opened → List LogEntry → Type 0) (mark : V → Mark) (left_open : V → Open) (key : V) where
  abbrev pub St : Type 0
  St = State (Option V) View

  abbrev pub M : Type 0
  M = Me (Option V) View

  abbrev pub Rule : St → Type 0
  Rule = Kept log opened legal mark left_open key

  abbrev pub word_at : St → ℕ → ℕ
  word_at s i = get_or s.words i 0

  -- what the rule says of the seat j
  abbrev pub Fit : (s : St) → Rule s → ℕ → View → Type 0
  Fit s r j d = Fits (opened key, log key) r.all r.tickets (word_at s 2) r.next r.keeper r.owner r.named (IsUnborn r.place) r.last r.marks r.opens j d

  -- only one seat has the turn
  pub other_turn : (s : St) (r : Rule s) (j me : ℕ) (d : View) → j ≢ me → r.owner (word_at s 2) ≡ me → Fit s r j d → ¬ IsServed d.stage
  other_turn s r j me d ne turn f sv = ne (sym (f.in_line.has_ticket (served_busy d.stage sv)).2 ∙ (ap r.owner (f.in_line.served sv) ∙ turn))

  pub my_turn : (s : St) (r : Rule s) (me : ℕ) (v : View) → Fit s r me v → IsServed v.stage → r.owner (word_at s 2) ≡ me
  my_turn s r me v f sv = ap r.owner (sym (f.in_line.served sv)) ∙ (f.in_line.has_ticket (served_busy v.stage sv)).2

  turned_below : (s : St) (r : Rule s) (st : Stage) → IsAlone st → Turned s.views (r.owner (word_at s 2)) st → word_at s 2 < r.tickets
  turned_below s r st a t = let d : View = t.0 in let sv : IsServed d.stage = alone_served d.stage (subst IsAlone (sym t.2) a) in let busy = served_busy d.stage sv in
      let f = (r.each _ d t.1 (busy_live d.stage busy)).in_line in let l : d.ticket < r.tickets = (f.has_ticket busy).1 in let e : d.ticket ≡ word_at s 2 = f.served sv in omega arith

  -- fewer tickets wait or are served than there may be passes
  few_wait : (s : St) (r : Rule s) → r.tickets ≤ word_at s 2 + 4294967295
  few_wait s r = let le : total queue s.views ≤ total weight s.views = total_le queue weight s.views (λ j d at. let one : tickets_of d.stage ≤ 1 = one_ticket d.stage in dite (is_live d.stage)
      (λ live. let some_held : 1 ≤ d.held = (r.each j d at live).numbered.stands_for in omega arith)
      (λ gone. let none_there : tickets_of d.stage ≡ 0 = r.spent j d at gone in omega arith)) in
      let q : total queue s.views + word_at s 2 ≡ r.tickets = r.queued in let w : total weight s.views ≡ 4294967295 = r.weighs in omega arith

  someone_stays : (s : St) (r : Rule s) (id : ℕ) (v w : View) → get_elem? s.views id ≡ some v → IsLive w.stage → w.seen ≡ v.seen → w.turn ≡ v.turn → SomeoneSaw (set s.views id w) r.all r.last
  someone_stays s r id v w here live same turned = let t = r.longest in dite (ℕ_discrete t.0 id)
      (λ e. (id, w, set_there s.views id w v here, live, same ∙ (ap (λ (x : View). x.seen) (same_view s.views t.0 id v t.1 here t.2 e) ∙ t.4), turned ∙ (ap (λ (x : View). x.turn) (same_view s.views t.0 id v t.1 here t.2 e) ∙ t.5)))
      (λ ne. (t.0, t.1, set_else s.views id t.0 w ne ∙ t.2, t.3, t.4, t.5))

  -- a step by which the seat id comes to the view w
  pub step_to : (s : St) (r : Rule s) (id : ℕ) (v w : View) (ws : List ℕ) (hs : List (Maybe (Option V))) (all : List LogEntry) (tickets : ℕ) (owner : ℕ → ℕ) (place : Place V) (last : ℕ) (marks : ℕ → Mark) (opens : Open)
      → ((a b : ℕ) → a ≤ b → b ≤ last → Grows (marks a) (marks b)) → (marks 0 ≡ mark key) → ((j : ℕ) → j ≤ last → IsGiven r.next (mark key) (marks j)) → AreGiven r.next opens → get_elem? s.views id ≡ some v → IsLive w.stage → weight w ≡ weight v
      → length ws ≡ 67 → get_or ws 0 0 ≡ place_after (opened key) all → place_after (opened key) all < 4294967296 → get_or ws 1 0 ≡ tickets % 18446744073709551616 → (total queue (set s.views id w) + get_or ws 2 0 ≡ tickets) → legal (opened key) all → Since r.next (log key) all
      → Fits (opened key, log key) all tickets (get_or ws 2 0) r.next r.keeper owner r.named (IsUnborn place) last marks opens id w
      → ((j : ℕ) (d : View) → j ≢ id → get_elem? s.views j ≡ some d → IsLive d.stage → Fits (opened key, log key) all tickets (get_or ws 2 0) r.next r.keeper owner r.named (IsUnborn place) last marks opens j d)
      → SomeoneSaw (set s.views id w) all last → Stands log opened mark left_open (opened key) all (marks last) opens (owner (get_or ws 2 0)) hs (set s.views id w) place
      → Rule record { words = ws; homes = hs; views = set s.views id w }
  step_to s r id v w ws hs all tickets owner place last marks opens grows first_mark mark_given opens_given here live same wide count small drawn queued ok since mine others longest stands = record {
    all = all;
    tickets = tickets;
    next = r.next;
    keeper = r.keeper;
    owner = owner;
    named = r.named;
    last = last;
    marks = marks;
    opens = opens;
    place = place;
    wide = wide;
    count = count;
    small = small;
    drawn = drawn;
    queued = queued;
    weighs = let moved : total weight (set s.views id w) + weight v ≡ total weight s.views + weight w = total_set weight s.views id v w here in let was : total weight s.views ≡ 4294967295 = r.weighs in omega arith;
    is_legal = ok;
    since = since;
    each = seats_stay (λ j d. IsLive d.stage → Fits (opened key, log key) all tickets (get_or ws 2 0) r.next r.keeper owner r.named (IsUnborn place) last marks opens j d) s.views id w (λ _. mine) others;
    spent = seats_stay (λ j d. ¬ IsLive d.stage → tickets_of d.stage ≡ 0) s.views id w (λ gone. absurd (gone live)) (λ j d _. r.spent j d);
    grows = grows;
    first_mark = first_mark;
    mark_given = mark_given;
    opens_given = opens_given;
    longest = longest;
    stands = stands;
  }

  pub queue_stays : (s : St) (r : Rule s) (id : ℕ) (v w : View) → get_elem? s.views id ≡ some v → tickets_of w.stage ≡ tickets_of v.stage → total queue (set s.views id w) + word_at s 2 ≡ r.tickets
  queue_stays s r id v w here same = let moved : total queue (set s.views id w) + tickets_of v.stage ≡ total queue s.views + tickets_of w.stage = total_set queue s.views id v w here in let was : total queue s.views + word_at s 2 ≡ r.tickets = r.queued in omega arith

  -- the first three words, and those behind them
  parted : (s : St) → Rule s → s.words ≡ word_at s 0 ∷ word_at s 1 ∷ word_at s 2 ∷ behind s.words
  parted s r = let wide : length s.words ≡ 67 = r.wide in three_words s.words (omega arith)

  -- whatever the first three are, there are as many words
  pub as_wide : (s : St) (r : Rule s) → length (word_at s 0 ∷ word_at s 1 ∷ word_at s 2 ∷ behind s.words) ≡ 67
  as_wide s r = sym (ap (λ (ws : List ℕ). length ws) (parted s r)) ∙ r.wide

  pub rebuilt : (s : St) (r : Rule s) (i n : ℕ) (hs : List (Maybe (Option V))) (vs : List View)
      → Rule record { words = set (word_at s 0 ∷ word_at s 1 ∷ word_at s 2 ∷ behind s.words) i n; homes = hs; views = vs } → Rule record { words = set s.words i n; homes = hs; views = vs }
  rebuilt s r i n hs vs k = subst (λ (ws : List ℕ). Rule record { words = set ws i n; homes = hs; views = vs }) (sym (parted s r)) k

  -- a load that moves no slot
  unmoved : (s : St) (r : Rule s) (i me : ℕ) (cs : List (ℕ × Option V)) (v w : View) → get_elem? s.views me ≡ some v → IsLive w.stage → weight w ≡ weight v → tickets_of w.stage ≡ tickets_of v.stage → w.seen ≡ v.seen → w.turn ≡ v.turn → ¬ IsAlone v.stage → Fit s r me w
      → Rule (stepped s i (word_at s i) me cs w keeps)
  unmoved s r i me cs v w here live heavy same seen turned n mine = subst (λ (ws : List ℕ). Rule record { words = ws; homes = s.homes; views = set s.views me w }) (sym (set-get_or s.words i 0))
      (step_to s r me v w s.words s.homes r.all r.tickets r.owner r.place r.last r.marks r.opens r.grows r.first_mark r.mark_given r.opens_given here live heavy r.wide r.count r.small r.drawn (queue_stays s r me v w here same) r.is_legal r.since mine (λ j d _. r.each j d)
      (someone_stays s r me v w here live seen turned) (stands_stay log opened mark left_open key r.all (r.marks r.last) r.opens (r.owner (word_at s 2)) s.homes s.views me v w r.place here n r.stands))

  -- a load that moves no slot, and leaves the view as it is
  pub looked_on : (s : St) (r : Rule s) (i me : ℕ) (cs : List (ℕ × Option V)) (v : View) → get_elem? s.views me ≡ some v → IsLive v.stage → ¬ IsAlone v.stage → Rule (stepped s i (word_at s i) me cs v keeps)
  looked_on s r i me cs v here live n = unmoved s r i me cs v v here live refl refl refl refl n (r.each me v here live)

  -- a bell is rung
  rung : (s : St) (r : Rule s) (k n id : ℕ) (cs : List (ℕ × Option V)) (v : View) → get_elem? s.views id ≡ some v → IsLive v.stage → ¬ IsAlone v.stage → Rule (stepped s (suc (suc (suc k))) n id cs v keeps)
  rung s r k n id cs v here live alone = rebuilt s r (suc (suc (suc k))) n s.homes (set s.views id v)
      (step_to s r id v v (word_at s 0 ∷ word_at s 1 ∷ word_at s 2 ∷ set (behind s.words) k n) s.homes r.all r.tickets r.owner r.place r.last r.marks r.opens r.grows r.first_mark r.mark_given r.opens_given here live refl
      (ap (λ (m : ℕ). suc (suc (suc m))) (length-set (behind s.words) k n) ∙ as_wide s r) r.count r.small r.drawn (queue_stays s r id v v here refl) r.is_legal r.since (r.each id v here live) (λ j d _. r.each j d)
      (someone_stays s r id v v here live refl refl) (stands_stay log opened mark left_open key r.all (r.marks r.last) r.opens (r.owner (word_at s 2)) s.homes s.views id v v r.place here alone r.stands))

  behind_three : (i : ℕ) → 3 ≤ i → suc (suc (suc (i - 3))) ≡ i
  behind_three i three = omega arith

  pub rings : (slots id i n : ℕ) (me : M) → me.0.stage ≡ Idle → 3 ≤ i → Allows Rule slots id me i (λ _. n) (λ _. still me)
  rings slots id i n me idle three s r len here below =
      let rang = rung s r (i - 3) n id me.1 me.0 here (subst IsLive (sym idle) tt) (λ a. subst IsAlone idle a) in
      (me.0, keeps, tt, subst (λ (w : ℕ). Rule (stepped s w n id me.1 me.0 keeps)) (behind_three i three) rang, refl)

  pub hears : (slots id i : ℕ) (me : M) → me.0.stage ≡ Waiting → Allows Rule slots id me i (λ n. n) (λ _. still me)
  hears slots id i me waits s r len here below =
      (me.0, keeps, tt, looked_on s r i id me.1 me.0 here (subst IsLive (sym waits) tt) (λ a. subst IsAlone waits a), refl)

  begins_at : (origin : Option Origin) (x : V) → origin ≡ Some (opened key, log key) → opened x ≡ opened key → legal (opened key) (log x) → Begins log opened legal mark left_open origin x
  begins_at origin x based from ok o e = let same = same_some (opened key, log key) o (sym based ∙ e) in (from ∙ ap (λ (z : Origin). z.0) same, subst (λ (z : Origin). legal z.0 (log x)) same ok)

  pub draws : (slots id : ℕ) (me : M) → me.0.stage ≡ Idle → Allows Rule slots id me 1 (λ n. (n + 1) % 2 ^ 64) (drew me)
  draws slots id me idle s r len here below =
      let v : View = me.0 in let t : ℕ = r.tickets in let w : View = waiting v t in let new : ℕ = (word_at s 1 + 1) % 2 ^ 64 in let o : ℕ → ℕ = λ x. cond (eqb x t) id (r.owner x) in
      let live : IsLive v.stage = subst IsLive (sym idle) tt in let f = r.each id v here live in
      let was : total queue s.views + word_at s 2 ≡ t = r.queued in let now : word_at s 1 ≡ t % 18446744073709551616 = r.drawn in
      let moved : total queue (set s.views id w) + tickets_of v.stage ≡ total queue s.views + 1 = total_set queue s.views id v w here in let none_held : tickets_of v.stage ≡ 0 = ap tickets_of idle in
      let mine_at : o t ≡ id = ap (λ b. cond b id (r.owner t)) (eq-eqb t t refl) in
      let else_at : (x : ℕ) → x ≢ t → o x ≡ r.owner x = λ x ne. ap (λ b. cond b id (r.owner x)) (ne_eqb x t ne) in
      let n : ¬ IsAlone v.stage = λ a. subst IsAlone idle a in (
        w,
        keeps,
        tt,
        rebuilt s r 1 new s.homes (set s.views id w) (step_to s r id v w (word_at s 0 ∷ new ∷ word_at s 2 ∷ behind s.words) s.homes r.all (t + 1) o r.place r.last r.marks r.opens r.grows r.first_mark r.mark_given r.opens_given here tt refl (as_wide s r) r.count r.small (omega arith) (omega arith) r.is_legal r.since
            record {
              saw = record { based = f.saw.based; since = f.saw.since; missed = f.saw.missed; least = f.saw.least; most = f.saw.most };
              numbered = record { own_numbers = f.numbered.own_numbers; stands_for = f.numbered.stands_for; may_give = f.numbered.may_give };
              in_line = record { has_ticket = λ _. (omega arith, omega arith, mine_at); served = λ x. absurd x; alone = λ x. absurd x; making = λ x. absurd x };
              marked = record { turn = f.marked.turn; mark = f.marked.mark; linked = f.marked.linked; own = f.marked.own; whole = f.marked.whole; current = λ x. absurd x };
              parts = f.parts;
            }
            (λ j d other at alive. let g = r.each j d at alive in record {
              saw = g.saw;
              numbered = g.numbered;
              in_line = record {
                has_ticket = λ b. let l = g.in_line.has_ticket b in let lt : d.ticket < t = l.1 in (l.0, omega arith, else_at d.ticket (λ e. omega arith) ∙ l.2);
                served = g.in_line.served;
                alone = g.in_line.alone;
                making = g.in_line.making;
              };
              marked = g.marked;
              parts = g.parts;
            })
            (someone_stays s r id v w here tt refl refl)
            (stands_stay log opened mark left_open key r.all (r.marks r.last) r.opens (o (word_at s 2)) s.homes s.views id v w r.place here n
            (stands_at log opened mark left_open key r.all (r.marks r.last) r.opens (r.owner (word_at s 2)) (o (word_at s 2)) s.homes s.views r.place (λ st a turned. let lt : word_at s 2 < t = turned_below s r st a turned in else_at (word_at s 2) (λ e. omega arith)) r.stands))),
        (refl, (t, refl, now)),
      )

  -- the ticket is served where the word has its last 64 bits
  is_served : (s : St) (r : Rule s) (t : ℕ) → word_at s 2 < 18446744073709551616 → word_at s 2 ≤ t → t < r.tickets → word_at s 2 ≡ t % 18446744073709551616 → word_at s 2 ≡ t
  is_served s r t fits le lt e = let w : ℕ = word_at s 2 in let near : r.tickets ≤ w + 4294967295 = few_wait s r in let low : w % 18446744073709551616 ≡ w = mod-eq_of_lt fits in
      one_turn w t 18446744073709551616 le (omega arith) (low ∙ e)

  pub calls : (slots id : ℕ) (me : M) → me.0.stage ≡ Waiting → Allows Rule slots id me 2 (λ n. n) (called me)
  calls slots id me waits s r len here fits = let v : View = me.0 in let n : ¬ IsAlone v.stage = λ a. subst IsAlone waits a in let live : IsLive v.stage = subst IsLive (sym waits) tt in
      let f = r.each id v here live in let l = f.in_line.has_ticket (subst IsBusy (sym waits) tt) in
      dite (ℕ_discrete (word_at s 2) (v.ticket % 18446744073709551616))
      (λ same. let turn = is_served s r v.ticket fits l.0 l.1 same in (
        at_stage v Called,
        keeps,
        tt,
        unmoved s r 2 id me.1 v (at_stage v Called) here tt refl (sym (ap tickets_of waits)) refl refl n record {
          saw = record { based = f.saw.based; since = f.saw.since; missed = f.saw.missed; least = f.saw.least; most = f.saw.most };
          numbered = record { own_numbers = f.numbered.own_numbers; stands_for = f.numbered.stands_for; may_give = f.numbered.may_give };
          in_line = record { has_ticket = λ _. l; served = λ _. sym turn; alone = λ x. absurd x; making = λ x. absurd x };
          marked = record { turn = f.marked.turn; mark = f.marked.mark; linked = f.marked.linked; own = f.marked.own; whole = f.marked.whole; current = λ x. absurd x };
          parts = f.parts;
        },
        (refl, (λ _. (refl, sym turn)), λ miss. absurd (miss same)),
      ))
      (λ miss. (v, keeps, tt, looked_on s r 2 id me.1 v here live n, (refl, (λ same. absurd (miss same)), λ _. refl)))

  pub meets : (slots id : ℕ) (me : M) → me.0.stage ≡ Idle → Allows Rule slots id me 0 (λ n. n) (met me)
  meets slots id me idle s r len here fits = let v : View = me.0 in let w : View = knowing v (word_at s 0) in let live : IsLive v.stage = subst IsLive (sym idle) tt in
      let f = r.each id v here live in let count : word_at s 0 ≡ place_after (opened key) r.all = r.count in let most : v.known ≤ place_after (opened key) r.all = f.saw.most in let least : place_after (opened key) v.seen ≤ v.known = f.saw.least in let small : place_after (opened key) r.all < 4294967296 = r.small in (
        w,
        keeps,
        tt,
        unmoved s r 0 id me.1 v w here live refl refl refl refl (λ a. subst IsAlone idle a) record {
          saw = record { based = f.saw.based; since = f.saw.since; missed = f.saw.missed; least = omega arith; most = omega arith };
          numbered = record { own_numbers = f.numbered.own_numbers; stands_for = f.numbered.stands_for; may_give = f.numbered.may_give };
          in_line = record { has_ticket = f.in_line.has_ticket; served = f.in_line.served; alone = f.in_line.alone; making = f.in_line.making };
          marked = record { turn = f.marked.turn; mark = f.marked.mark; linked = f.marked.linked; own = f.marked.own; whole = f.marked.whole; current = f.marked.current };
          parts = f.parts;
        },
        (refl, refl, omega arith, omega arith),
      )

  -- the number that this pass gives next has no entry since the desk was made
  pub looks : (slots id : ℕ) (me : M) → me.0.stage ≡ Idle → 0 < me.0.spare → Allows Rule slots id me 0 (λ n. n) (λ _. unnumbered me)
  looks slots id me idle some_left s r len here below = let v : View = me.0 in let live : IsLive v.stage = subst IsLive (sym idle) tt in let f = r.each id v here live in
      let sum : r.next + v.spare ≡ 4294967296 = (f.numbered.may_give some_left).1 in let number : r.next ≡ 4294967296 - v.spare = omega arith in (
        v,
        keeps,
        tt,
        looked_on s r 0 id me.1 v here live (λ a. subst IsAlone idle a),
        (refl, λ o e. subst (λ (z : Origin × ℕ). Follows z.1 z.0.1 v.seen) (λ i. (same_some (opened key, log key) o (sym f.saw.based ∙ e) i, number i)) (since_next r.next (log key) v.seen f.saw.since)),
      )

  -- the slot is taken by the seat whose turn it is
  taken : (s : St) (r : Rule s) (id : ℕ) (cs : List (ℕ × Option V)) (v : View) (x : Option V) (seen : List LogEntry) (k : ℕ) (m : Mark) (op : Open) (t : ℕ) (ps : Part × Part) → get_elem? s.views id ≡ some v → IsServed v.stage → seen ≡ r.all → place_after (opened key) seen ≤ k → k ≤ place_after (opened key) r.all → m ≡ r.marks r.last → op ≡ r.opens → t ≡ r.last → IsPart ps.0 seen m × IsPart ps.1 seen m
      → Rule (stepped s 0 (word_at s 0) id cs (record v { seen = seen; known = k; mark = m; found = op; turn = t; stage = Holding; parts = ps }) (takes 0 x))
  taken s r id cs v x seen k m op t ps here sv all least most marks opens last both = let w : View = record v { seen = seen; known = k; mark = m; found = op; turn = t; stage = Holding; parts = ps } in
      let f = r.each id v here (busy_live v.stage (served_busy v.stage sv)) in let turn = my_turn s r id v f sv in
      rebuilt s r 0 (word_at s 0) (set s.homes 0 none) (set s.views id w) (step_to s r id v w (word_at s 0 ∷ word_at s 1 ∷ word_at s 2 ∷ behind s.words) (set s.homes 0 none) r.all r.tickets r.owner out r.last r.marks r.opens r.grows r.first_mark r.mark_given r.opens_given here tt refl
      (as_wide s r) r.count r.small r.drawn (queue_stays s r id v w here (sym (served_ticket v.stage sv))) r.is_legal r.since
      record {
        saw = record { based = f.saw.based; since = subst (Since r.next (log key)) (sym all) r.since; missed = λ n is. subst (λ l. Missed n r.next l r.all) (sym all) (missed_none n r.next r.all); least = least; most = most };
        numbered = record { own_numbers = f.numbered.own_numbers; stands_for = f.numbered.stands_for; may_give = f.numbered.may_give };
        in_line = record { has_ticket = λ _. f.in_line.has_ticket (served_busy v.stage sv); served = λ _. f.in_line.served sv; alone = λ _. all; making = λ y. absurd y };
        marked = record {
          turn = let now : t ≡ r.last = last in omega arith;
          mark = marks ∙ ap r.marks (sym last);
          linked = λ n is j low high. let from : t ≤ j = low in let to : j ≤ r.last = high in let now : t ≡ r.last = last in let same : j ≡ r.last = omega arith in
              subst (λ (z : Mark × Mark). Linked n z.0 z.1) (λ i. (sym marks i, ap r.marks (sym same) i)) (linked_self n (r.marks r.last));
          own = f.marked.own;
          whole = λ _. opens;
          current = λ _. last;
        };
        parts = both;
      }
      (λ j d other at alive. let g = r.each j d at alive in record {
        saw = g.saw;
        numbered = g.numbered;
        in_line = record { has_ticket = g.in_line.has_ticket; served = g.in_line.served; alone = g.in_line.alone; making = λ m. other_turn s r j id d other turn g (making_served d.stage m) };
        marked = g.marked;
        parts = g.parts;
      })
      (id, w, set_there s.views id w v here, tt, all, last)
      (w, subst (λ (o : ℕ). get_elem? (set s.views id w) o ≡ some w) (sym turn) (set_there s.views id w v here), refl))

  -- a pass that stands for all is the only one
  pub only_one : (s : St) (r : Rule s) (id : ℕ) (v : View) → get_elem? s.views id ≡ some v → v.held + v.spare ≡ 4294967295 → (j : ℕ) (d : View) → get_elem? s.views j ≡ some d → IsLive d.stage → v ≡ d
  only_one s r id v here all_of j d at alive = dite (ℕ_discrete j id) (λ e. same_view s.views j id v d here at e)
      (λ ne. let both : (v.held + v.spare) + (d.held + d.spare) ≤ total weight s.views = two_of weight s.views id j v d (λ e. ne (sym e)) here at in let sum : total weight s.views ≡ 4294967295 = r.weighs in
      let one : 1 ≤ d.held = (r.each j d at alive).numbered.stands_for in absurd (omega arith))

  -- then it has seen all, and holds the present mark and what is open
  pub saw_all : (s : St) (r : Rule s) (id : ℕ) (v : View) → get_elem? s.views id ≡ some v → IsLive v.stage → v.held + v.spare ≡ 4294967295 → (v.seen ≡ r.all) × (v.mark ≡ r.marks r.last) × (v.found ≡ r.opens)
  saw_all s r id v here live all_of = let t = r.longest in let same = only_one s r id v here all_of t.0 t.1 t.2 t.3 in
      let marked = (r.each id v here live).marked in let last : v.turn ≡ r.last = ap (λ (x : View). x.turn) same ∙ t.5 in
      (ap (λ (x : View). x.seen) same ∙ t.4, marked.mark ∙ ap r.marks last, marked.whole last)

  pub takes_value : (slots id : ℕ) (me : M) → me.0.stage ≡ Called → me.1 ≡ [] → Allows Rule slots id me 0 (λ n. n) (λ _. took log opened legal mark left_open me)
  takes_value slots id me is none_held s r len here below = let v : View = me.0 in let sv : IsServed v.stage = subst IsServed (sym is) tt in
      let f = r.each id v here (subst IsLive (sym is) tt) in let turn = my_turn s r id v f sv in
      let h = home_at log opened mark left_open key r.all (r.marks r.last) r.opens (r.owner (word_at s 2)) s.homes s.views id v r.place here turn (λ a. subst IsAlone is a) r.stands in let x : V = h.0 in
      let here_is : place_after (opened x) (log x) ≡ place_after (opened key) (log x) = ap (λ (o : Opened). place_after o (log x)) h.3 in
      let least : place_after (opened key) (log x) ≤ place_after (opened x) (log x) = omega (arith, here_is) in
      let most : place_after (opened x) (log x) ≤ place_after (opened key) r.all = subst (λ (l : List LogEntry). place_after (opened x) (log x) ≤ place_after (opened key) l) h.2 (omega (arith, here_is)) in (
        finding v (opened x) (log x) (mark x) (left_open x) r.last,
        takes 0 (Some x),
        h.1,
        taken s r id me.1 v (Some x) (log x) (place_after (opened x) (log x)) (mark x) (left_open x) r.last (no_part, no_part) here sv h.2 least most h.4 h.5 refl (λ n is. absurd is, λ n is. absurd is),
        subst (TookAt log opened legal mark left_open me (finding v (opened x) (log x) (mark x) (left_open x) r.last, (0, Some x) ∷ me.1)) (sym is) (
          x,
          (
            ap (λ l. (0, Some x) ∷ l) none_held,
            refl,
            subst (Follows v.number v.seen) (sym h.2) (missed_follows v.number r.next v.seen r.all (f.saw.missed v.number (inl refl))),
            subst (λ (z : Opened × List LogEntry). v.known ≤ place_after z.0 z.1) (λ i. (sym h.3 i, sym h.2 i)) f.saw.most,
            begins_at v.origin x f.saw.based h.3 (subst (legal (opened key)) (sym h.2) r.is_legal),
            f.marked.turn,
            (λ same. (h.4 ∙ (ap r.marks same ∙ sym f.marked.mark), h.5 ∙ sym (f.marked.whole (sym same)))),
            subst (Linked v.number v.mark) (sym h.4) (f.marked.linked v.number (inl refl) r.last f.marked.turn (le_refl r.last)),
            subst (λ (o : Open). StaysOpen v.own (open_of v.number o)) (sym h.5) f.marked.own,
            λ all_of. let whole = saw_all s r id v here (subst IsLive (sym is) tt) all_of in (h.2 ∙ sym whole.0, h.4 ∙ sym whole.1, h.5 ∙ sym whole.2),
          ),
        ),
      )

  -- what was told of a value holds of the one that came out of the slot
  pub found_out : (m n : M) (w : View) (x y : V) → Found log opened legal mark left_open m n x → w ≡ n.0 → Some y ≡ Some x → Found log opened legal mark left_open m (w, (0, Some y) ∷ []) y
  found_out m n w x y f same e = let is = same_some y x e in subst (λ (z : View × V). Found log opened legal mark left_open m (z.0, (0, Some z.1) ∷ []) z.1) (λ i. (sym same i, sym is i)) (refl, f.1, f.2, f.3, f.4, f.5, f.6, f.7, f.8, f.9)

  pub takes_none : (slots id : ℕ) (me : M) → me.0.stage ≡ Making → me.1 ≡ [] → Allows Rule slots id me 0 (λ n. n) (λ _. took log opened legal mark left_open me)
  takes_none slots id me is none_held s r len here below = let v : View = me.0 in let sv : IsServed v.stage = subst IsServed (sym is) tt in
      let f = r.each id v here (subst IsLive (sym is) tt) in let a : IsAlone v.stage = subst IsAlone (sym is) tt in (
        at_stage v Holding,
        takes 0 None,
        unborn_at log opened mark left_open key r.all (r.marks r.last) r.opens (r.owner (word_at s 2)) s.homes s.views r.place (f.in_line.making (subst IsMaking (sym is) tt)) r.stands,
        taken s r id me.1 v None v.seen v.known v.mark v.found v.turn v.parts here sv (f.in_line.alone a) f.saw.least f.saw.most (f.marked.mark ∙ ap r.marks (f.marked.current a)) (f.marked.whole (f.marked.current a)) (f.marked.current a) f.parts,
        subst (TookAt log opened legal mark left_open me (at_stage v Holding, (0, None) ∷ me.1)) (sym is) (ap (λ l. (0, None) ∷ l) none_held, refl),
      )

  pub serves : (slots id : ℕ) (me : M) (n : ℕ) → me.0.stage ≡ Leaving → n ≡ me.0.ticket + 1 → Allows Rule slots id me 2 (λ _. n) (λ _. served me)
  serves slots id me n is next s r len here below = let v : View = me.0 in let w : View = at_stage v Idle in let sv : IsServed v.stage = subst IsServed (sym is) tt in
      let f = r.each id v here (subst IsLive (sym is) tt) in let turn = my_turn s r id v f sv in
      let h = home_at log opened mark left_open key r.all (r.marks r.last) r.opens (r.owner (word_at s 2)) s.homes s.views id v r.place here turn (λ a. subst IsAlone is a) r.stands in
      let l = f.in_line.has_ticket (served_busy v.stage sv) in let now : v.ticket ≡ word_at s 2 = f.in_line.served sv in
      let moved : total queue (set s.views id w) + tickets_of v.stage ≡ total queue s.views + 0 = total_set queue s.views id v w here in let one_held : tickets_of v.stage ≡ 1 = ap tickets_of is in
      let was : total queue s.views + word_at s 2 ≡ r.tickets = r.queued in (
        w,
        keeps,
        tt,
        rebuilt s r 2 n s.homes (set s.views id w) (step_to s r id v w (word_at s 0 ∷ word_at s 1 ∷ n ∷ behind s.words) s.homes r.all r.tickets r.owner (home h.0) r.last r.marks r.opens r.grows r.first_mark r.mark_given r.opens_given here tt refl
            (as_wide s r) r.count r.small r.drawn (omega arith) r.is_legal r.since
            record {
              saw = record { based = f.saw.based; since = f.saw.since; missed = f.saw.missed; least = f.saw.least; most = f.saw.most };
              numbered = record { own_numbers = f.numbered.own_numbers; stands_for = f.numbered.stands_for; may_give = f.numbered.may_give };
              in_line = record { has_ticket = λ y. absurd y; served = λ y. absurd y; alone = λ y. absurd y; making = λ y. absurd y };
              marked = record { turn = f.marked.turn; mark = f.marked.mark; linked = f.marked.linked; own = f.marked.own; whole = f.marked.whole; current = λ y. absurd y };
              parts = f.parts;
            }
            (λ j d other at alive. let g = r.each j d at alive in record {
              saw = g.saw;
              numbered = g.numbered;
              in_line = record {
                has_ticket = λ b. let m = g.in_line.has_ticket b in let behind : word_at s 2 ≤ d.ticket = m.0 in let apart : d.ticket ≢ v.ticket = λ e. other (sym m.2 ∙ (ap r.owner e ∙ l.2)) in let gone : d.ticket ≢ word_at s 2 = λ e. apart (e ∙ sym now) in (omega arith, m.1, m.2);
                served = λ y. absurd (other_turn s r j id d other turn g y);
                alone = g.in_line.alone;
                making = λ m. other_turn s r j id d other turn g (making_served d.stage m);
              };
              marked = g.marked;
              parts = g.parts;
            })
            (someone_stays s r id v w here tt refl refl)
            (h.1, h.2, h.3, h.4, h.5)),
        (refl, refl),
      )
