-- A collection that goes on: its first turn, and those in which it asks for what is missing.
use Rattle.std.proofs.Common.{◌≡◌, ◌<◌, ◌≤◌, ◌⊎◌, ℕ, ◌+◌, List, [], ◌++◌, length, min, reverse, Some, Bool, true, false, ◌||◌, ◌&&◌, nat_eq, refl, sym, ap, subst, ◌∙◌, inl, inr, ⊎_elim, arith}
use Rattle.std.proofs.Math.Nat.{eq-or-lt_of_le, min-le_right}
use Rattle.std.proofs.lemmas.Bool.{and_parts}
use Rattle.std.proofs.lemmas.Bool.Decides.{nat_tests}
use Rattle.std.proofs.lemmas.List.{length-reverse, nil_from_length}
use Rattle.std.proofs.lemmas.Option.{same_Some}
use Rattle.cat_checks.specs.Histories.{IsLegalFrom}
use Rattle.cat_core.specs.Noting.{names_of_drafts}
use Rattle.cat_core.specs.Stored as stored
use Rattle.cat_core.specs.Stored.{AreKnown, KnowsNames, Stored, log_of}
use Rattle.cat_core.specs.Sweeps.{Completes, IsDrained, IsSweepOpening, drained_on, kept_by, next_sweep, opened_sweep, sweep_opening, with_sweep}
use Rattle.cat_core.specs.declared.sweeping.Sweep.{Sweep}
use Rattle.cat_desk.specs.Log.{Follows}
use Rattle.cat_desk.specs.LogLaws.{follows_on}
use Rattle.cat_desk.specs.Marks.{Linked}
use Rattle.cat_desk.specs.Pass.{DeskId, Keeps, all_left_by, known, left_by, mark_of, number_of, seen, spare_of, stands_for}
use Rattle.cat_desk.specs.declared.pass.Pass.{Pass}
use Rattle.cat_mark.specs.declared.roots.Roots.{Roots}
use Rattle.cat_mark.specs.Marks.{AddsAll, is_marked, live_from_all, live_of}
use Rattle.cat_mark.specs.Walked.{HaveWalked}
use Rattle.cat_mark.specs.declared.marks.Marks.{Marks}
use Rattle.cat_model.specs.declared.cutoff.Cutoff.{Cutoff}
use Rattle.cat_model.specs.declared.cutoff.Resolved.{Resolved}
use Rattle.cat_model.specs.declared.log_entry.LogEntry.{LogEntry}
use Rattle.cat_model.specs.Base.{is_among}
use Rattle.cat_model.specs.Book.{Book}
use Rattle.cat_model.specs.Chain.{Commits}
use Rattle.cat_model.specs.Drafts.{Open, OpenSweep, Opening, nothing_open, open_of}
use Rattle.cat_model.specs.Later.{Adds}
use Rattle.cat_model.specs.Mark.{FailedAppend, Grows, Mark, last_sweep}
use Rattle.cat_model.specs.State.{State}
use Rattle.cat_model.specs.TurnLaws.{grows_on}
use Rattle.cat_names.specs.declared.hash.Hash.{Hash}
use Rattle.cat_work.specs.Answers.{NoDraftIsNew, NoFaultIsNew}
use Rattle.cat_work.specs.MarkLaws.{no_draft_on, no_draft_still}
use Rattle.cat_work.specs.Passes.{IsAlone, book_of, state_of}
use Rattle.cat_work.specs.TurnLaws.{Left, book_found, follows_length, goes_later, grew_in, left_by_turn, legal_before, none_found, place_at}
use Rattle.cat_work.specs.Turns.{Turned}
use Rattle.cat_collect.specs.Answers.{IsNewer}
use Rattle.cat_collect.specs.Turns.{DrainsIn, Going, HasMarked, HasOpen, Holds, LeavesIn, OpensSweep, StoodAlone, is_nothing}
use Rattle.cat_collect.proofs.Given.{all_marked, given_is}
use Rattle.cat_collect.proofs.Later.{walked_later}
use Rattle.cat_model.specs.Turns.{place_after}
use Rattle.cat_collect.proofs.Owned.{IsFound, found_as, found_open, one_left, one_open}

-- ---- what a turn finds, against the pass at first

pub record Found {K : Type 0} (desk : DeskId) (first : Pass) (s : Stored K) : Type 0 where
  pub follows : Follows (number_of first) (seen first) (log_of s)
  pub no_new : NoFaultIsNew (number_of first) (mark_of first) s.mark
  pub kept : (x : FailedAppend) → (mark_of first).fault ≡ Some x → s.mark.fault ≡ Some x
  pub no_draft : NoDraftIsNew (number_of first) (mark_of first) s.mark

pub found_first : {K : Type 0} (desk : DeskId) (p q : Pass) (s s' : Stored K) → Turned desk p q s s' → Found desk p s
found_first desk p q s s' turn = record { follows = turn.follows; no_new = λ x is own. turn.linked.own_fault x is own; kept = λ x is. turn.linked.grows.fault x is; no_draft = λ last. turn.linked.own_draft last }

pub found_on : {K : Type 0} (desk : DeskId) (policy : Resolved) (first present next : Pass) (s s' : Stored K) → Going desk policy first present → Turned desk present next s s' → Found desk first s
found_on desk policy first present next s s' g turn = record {
  follows = follows_on (number_of first) (seen first) (seen present) (log_of s) g.follows (subst (λ (n : ℕ). Follows n (seen present) (log_of s)) g.kept.number turn.follows);
  no_new = λ x is own. g.faults x (turn.linked.own_fault x is (own ∙ sym g.kept.number)) own;
  kept = λ x is. turn.linked.grows.fault x (g.grows.fault x is);
  no_draft = no_draft_on (number_of first) (mark_of first) (mark_of present) s.mark g.drafts (subst (λ (n : ℕ). Linked n (mark_of present) s.mark) g.kept.number turn.linked);
}

pub grown : {K : Type 0} (desk : DeskId) (policy : Resolved) (first present next : Pass) (s s' : Stored K) → Going desk policy first present → Turned desk present next s s' → Grows (mark_of first) (mark_of next)
grown desk policy first present next s s' g turn = grows_on (mark_of first) (mark_of present) (mark_of next) g.grows (grew_in desk present next s s' turn)

pub alone_still : (desk : DeskId) (first present : Pass) → Keeps desk first present → IsAlone first → IsAlone present
alone_still desk first present kept alone = ap (λ (n : ℕ). n + spare_of present) kept.held ∙ (ap (λ (n : ℕ). stands_for first + n) kept.spare ∙ alone)

-- where the pass was alone and nothing was open, the sweep is all that is found open
pub found_alone : {K : Type 0} (desk : DeskId) (policy : Resolved) (first present next : Pass) (s s' : Stored K) (g : Going desk policy first present) → Turned desk present next s s' → IsAlone first → all_left_by first ≡ nothing_open → s.left_open ≡ one_open g.sweep
found_alone desk policy first present next s s' g turn only rest = (turn.alone (alone_still desk first present g.kept only)).2 ∙ (g.alone only rest).left_is

-- so what is found is the one that it had left
pub found_same : {K : Type 0} (desk : DeskId) (policy : Resolved) (first present next : Pass) (s s' : Stored K) (g : Going desk policy first present) → Turned desk present next s s' → IsAlone first → all_left_by first ≡ nothing_open → (x : OpenSweep) → s.left_open.sweep ≡ Some x → x ≡ g.sweep
found_same desk policy first present next s s' g turn only rest x is = same_Some x g.sweep (sym is ∙ ap (λ (o : Open). o.sweep) (found_alone desk policy first present next s s' g turn only rest))

-- ---- places

known_at : (opened k size place here : ℕ) → k ≤ opened + size → here ≡ opened + size → place ≡ here → k ≤ place
known_at opened k size place here le e same = omega arith

no_more : (a b : ℕ) → a ≡ b → a ≤ b
no_more a b e = omega arith

later_by : (opened a b x y place : ℕ) → a ≤ b → x ≡ opened + a → y ≡ opened + b → place ≤ x → place ≤ y
later_by opened a b x y place le e f low = omega arith

-- a place that was not behind a log isn't behind one that goes on
pub within_on : (desk : DeskId) (n : ℕ) (a b : List LogEntry) (place : ℕ) → Follows n a b → IsLegalFrom desk.opened b → place ≤ (state_of desk a).place → place ≤ (state_of desk b).place
within_on desk n a b place follows legal low =
    later_by desk.opened.state.place (length a) (length b) (state_of desk a).place (state_of desk b).place place (follows_length n a b follows) (place_at desk a (legal_before desk n a b follows legal)) (place_at desk b legal) low

-- ---- numbers

newer_by : (a b number : ℕ) → a ≤ b → number ≡ min (b + 1) 18446744073709551615 → (a < number) ⊎ (number ≡ 18446744073709551615)
newer_by a b number le is =
    let most : number ≤ 18446744073709551615 = (let right = min-le_right (b + 1) 18446744073709551615 in omega (arith, right, is)) in
    ⊎_elim (λ (last : number ≡ 18446744073709551615). inr last) (λ (below : number < 18446744073709551615). inl (let above : a < number = omega arith in above)) (eq-or-lt_of_le most)

-- the number that is given next on a mark that grew is newer
newer_on : (before there : Mark) (number : ℕ) → Grows before there → number ≡ next_sweep there → IsNewer before number
newer_on before there number grew is = newer_by (last_sweep before) (last_sweep there) number grew.sweep is

-- ---- the first turn

module _ (K : Type 0) (desk : DeskId) (policy : Resolved) (p q : Pass) (sweep : Sweep) (roots : Roots) (view : State) (none : left_by p ≡ nothing_open) (keeps : Keeps desk p q) (opens : OpensSweep K desk policy p q sweep roots view) where
  abbrev s : Stored K
  s = opens.0

  abbrev s' : Stored K
  s' = opens.1

  abbrev turn : Turned desk p q s s'
  turn = opens.2

  abbrev x : IsSweepOpening (number_of p) policy s s' sweep roots view
  x = opens.3

  abbrev o : OpenSweep
  o = opened_sweep s.book s.left_open.drafts (sweep_opening sweep) policy

  left : Left desk q s'
  left = left_by_turn desk p q s s' turn

  log : seen q ≡ log_of s
  log = turn.seen_is ∙ ap (λ (y : Stored K). log_of y) x.after

  book : book_of desk q ≡ s.book
  book = left.book_is ∙ ap (λ (y : Stored K). y.book) x.after

  state : state_of desk (seen q) ≡ s.book.state
  state = left.state_is ∙ ap (λ (y : Stored K). y.book.state) x.after

  mark : mark_of q ≡ record (s.mark) { sweep = Some (sweep_opening sweep) }
  mark = turn.mark_is ∙ ap (λ (y : Stored K). y.mark) x.after

  caller : (sweep_opening sweep).caller ≡ number_of p
  caller = ap (λ (y : Opening). y.caller) x.opening

  place : (sweep_opening sweep).place ≡ s.book.state.place
  place = ap (λ (y : Opening). y.place) x.opening

  place_seen : (sweep_opening sweep).place ≡ (state_of desk (seen q)).place
  place_seen = place ∙ ap (λ (y : State). y.place) (sym state)

  left_is : left_by q ≡ one_open o
  left_is =
      let was : open_of (number_of p) (stored.open_of s) ≡ nothing_open = none_found (number_of p) p s none turn.own in
      turn.left ∙ ap (λ (y : Stored K). open_of (number_of p) (stored.open_of y)) x.after ∙ one_left (number_of p) (stored.open_of (with_sweep s o)) o (ap (λ (y : Open). y.drafts) was) refl caller

  all_left : all_left_by q ≡ record (s.left_open) { sweep = Some o }
  all_left = turn.all_left ∙ ap (λ (y : Stored K). y.left_open) x.after

  no_drafts : IsAlone p → all_left_by p ≡ nothing_open → s.left_open.drafts ≡ []
  no_drafts only rest = ap (λ (y : Open). y.drafts) ((turn.alone only).2 ∙ rest)

  pub begins : known p ≤ place_after desk.opened (seen q) → IsLegalFrom desk.opened (seen q) → Going desk policy p q
  begins known_is legal = record {
    sweep = o;
    left_is = left_is;
    kept = keeps;
    follows = subst (Follows (number_of p) (seen p)) (sym log) turn.follows;
    legal = legal;
    caller = caller;
    policy_is = refl;
    newer = newer_on (mark_of p) s.mark (sweep_opening sweep).number turn.linked.grows (ap (λ (y : Opening). y.number) x.opening);
    known_then = known_at desk.opened.state.place (known p) (length (seen q)) (sweep_opening sweep).place (state_of desk (seen q)).place known_is (place_at desk (seen q) legal) place_seen;
    within = no_more (sweep_opening sweep).place (state_of desk (seen q)).place place_seen;
    faults = λ f is own. turn.linked.own_fault f (sym (ap (λ (m : Mark). m.fault) mark) ∙ is) own;
    drafts = no_draft_still (number_of p) (mark_of p) s.mark (mark_of q) (λ last. turn.linked.own_draft last) (ap (λ (m : Mark). m.draft) mark) (ap (λ (m : Mark). m.drafter) mark);
    grows = grew_in desk p q s s' turn;
    alone = λ only rest. record {
      seen_is = log ∙ (turn.alone only).0;
      mark_is = mark ∙ (λ i. record ((turn.alone only).1 i) { sweep = Some (sweep_opening sweep) });
      left_is = all_left ∙ (λ i. record { drafts = no_drafts only rest i; sweep = Some o });
      names_are = ap names_of_drafts (no_drafts only rest);
      place_is = place ∙ ap (λ (b : Book). b.state.place) (book_found desk p q s s' turn only);
      up = ap (λ (m : Mark). m.fault) (sym (turn.alone only).1) ∙ x.up;
    };
  }

  known_names : AreKnown s.book.state o.names.commits
  known_names = subst (λ (y : Stored K). KnowsNames y.book.state y.left_open.sweep) x.after opens.4

  -- once its roots are marked
  pub begins_held : (marks : Marks) → AddsAll [] marks.set (live_of view.commits roots) → HaveWalked view.commits marks → Holds desk q sweep marks
  begins_held marks adds walked = (
    o,
    record { left_is = left_is; opening_is = refl; caller = caller ∙ sym keeps.number },
    record {
      drained = sym (ap (λ (l : List LogEntry). length l) log ∙ length-reverse s.book.log);
      given = refl;
      known = subst (λ (y : State). AreKnown y o.names.commits) (sym state) known_names;
      marked = λ hash. all_marked s.book.state.commits view.commits [] (kept_by s.book o) [] marks.set roots (ap (λ (y : State). y.commits) x.view_is) (λ h. refl) adds x.roots_are hash
          ∙ ap (λ (b : Book). is_among (kept_by b o) hash) (sym book);
      walked = subst (λ (y : State). HaveWalked y.commits marks) (x.view_is ∙ sym state) walked;
    },
  )

  -- or can't be
  pub begins_open : HasOpen q sweep o
  begins_open = record { left_is = left_is; opening_is = refl; caller = caller ∙ sym keeps.number }

-- ---- a later turn that leaves the book

module _ {K : Type 0} (desk : DeskId) (policy : Resolved) (first present next : Pass) (s s' : Stored K) (c : OpenSweep) (g : Going desk policy first present) (keeps : Keeps desk present next) (legal : IsLegalFrom desk.opened (seen next)) (turn : Turned desk present next s s')
    (book : s'.book ≡ s.book) (mark : s'.mark ≡ s.mark) (left_is : left_by next ≡ one_open c) (opening : c.opening ≡ g.sweep.opening) (policy_is : c.policy ≡ g.sweep.policy) (x : OpenSweep) (is : s.left_open.sweep ≡ Some x) (names : c.names ≡ x.names) (all : s'.left_open ≡ record (s.left_open) { sweep = Some c }) where
  log_then : seen next ≡ log_of s
  log_then = turn.seen_is ∙ ap (λ (b : Book). reverse b.log) book

  marks : mark_of next ≡ s.mark
  marks = turn.mark_is ∙ mark

  place_then : c.opening.place ≡ g.sweep.opening.place
  place_then = ap (λ (o : Opening). o.place) opening

  stood : IsAlone first → all_left_by first ≡ nothing_open → StoodAlone desk first next c
  stood only rest = let there = turn.alone (alone_still desk first present g.kept only) in let was = g.alone only rest in let found = found_alone desk policy first present next s s' g turn only rest in record {
    seen_is = log_then ∙ there.0 ∙ was.seen_is;
    left_is = turn.all_left ∙ all ∙ (λ i. record { drafts = (found i).drafts; sweep = Some c });
    names_are = names ∙ ap (λ (o : OpenSweep). o.names) (found_same desk policy first present next s s' g turn only rest x is) ∙ was.names_are;
    mark_is = marks ∙ there.1 ∙ was.mark_is ∙ (λ i. record (mark_of first) { sweep = Some (sym opening i) });
    place_is = place_then ∙ was.place_is;
    up = was.up;
  }

  pub goes_on : Going desk policy first next
  goes_on =
      let found : Found desk first s = found_on desk policy first present next s s' g turn in
      let more : Follows (number_of present) (seen present) (seen next) = subst (Follows (number_of present) (seen present)) (sym log_then) turn.follows in
      record {
        sweep = c;
        left_is = left_is;
        kept = record { free = keeps.free; number = keeps.number ∙ g.kept.number; spare = keeps.spare ∙ g.kept.spare; held = keeps.held ∙ g.kept.held };
        follows = subst (Follows (number_of first) (seen first)) (sym log_then) found.follows;
        legal = legal;
        caller = ap (λ (o : Opening). o.caller) opening ∙ g.caller;
        policy_is = policy_is ∙ g.policy_is;
        newer = subst (λ (y : Opening). IsNewer (mark_of first) y.number) (sym opening) g.newer;
        known_then = subst (λ (n : ℕ). known first ≤ n) (sym place_then) g.known_then;
        within = subst (λ (n : ℕ). n ≤ (state_of desk (seen next)).place) (sym place_then) (within_on desk (number_of present) (seen present) (seen next) g.sweep.opening.place more legal g.within);
        faults = λ x is own. found.no_new x (sym (ap (λ (m : Mark). m.fault) marks) ∙ is) own;
        drafts = no_draft_still (number_of first) (mark_of first) s.mark (mark_of next) found.no_draft (ap (λ (m : Mark). m.draft) marks) (ap (λ (m : Mark). m.drafter) marks);
        grows = grown desk policy first present next s s' g turn;
        alone = stood;
      }

-- ---- nothing was given

module _ (K : Type 0) (desk : DeskId) (p q : Pass) (sweep : Sweep) (a : OpenSweep) (has : HasOpen p sweep a) (keeps : Keeps desk p q) (leaves : LeavesIn K desk p q) where
  abbrev there : (x : OpenSweep) × IsFound (number_of p) (leaves.0) a x
  there = found_open (number_of p) p leaves.0 a has.left_is (leaves.2).own

  still_left : left_by q ≡ one_open there.0
  still_left = (leaves.2).left ∙ ap (λ (y : Stored K). open_of (number_of p) (stored.open_of y)) leaves.3 ∙ one_left (number_of p) (stored.open_of leaves.0) there.0 there.1.drafts there.1.is there.1.own

  pub still_open : HasOpen q sweep there.0
  still_open = record {
    left_is = still_left;
    opening_is = ap (λ (o : OpenSweep). o.opening) there.1.awaits.same ∙ has.opening_is;
    caller = has.caller ∙ sym keeps.number;
  }

-- it goes on as it was
pub still_goes : (K : Type 0) (desk : DeskId) (policy : Resolved) (first present next : Pass) → Going desk policy first present → Keeps desk present next → IsLegalFrom desk.opened (seen next) → LeavesIn K desk present next → Going desk policy first next
still_goes K desk policy first present next g keeps legal h =
    let there = found_open (number_of present) present h.0 g.sweep g.left_is (h.2).own in
    let left : left_by next ≡ one_open there.0 = (h.2).left ∙ ap (λ (y : Stored K). open_of (number_of present) (stored.open_of y)) h.3 ∙ one_left (number_of present) (stored.open_of h.0) there.0 there.1.drafts there.1.is there.1.own in
    goes_on desk policy first present next h.0 h.1 there.0 g keeps legal h.2 (ap (λ (y : Stored K). y.book) h.3) (ap (λ (y : Stored K). y.mark) h.3) left (ap (λ (o : OpenSweep). o.opening) there.1.awaits.same) (ap (λ (o : OpenSweep). o.policy) there.1.awaits.same)
    there.0 there.1.is refl (ap (λ (y : Stored K). y.left_open) h.3 ∙ (λ i. record { drafts = (h.0).left_open.drafts; sweep = there.1.is i }))

-- ---- what was missing was given

module _ (K : Type 0) (desk : DeskId) (p q : Pass) (roots : Roots) (view : State) (keeps : Keeps desk p q) (drains : DrainsIn K desk p q roots view) where
  abbrev d : IsDrained (drains.0) (drains.1) roots view
  d = drains.3

  abbrev c : OpenSweep
  c = drained_on (drains.0).book d.sweep

  drained_book : book_of desk q ≡ (drains.0).book
  drained_book = (left_by_turn desk p q drains.0 drains.1 drains.2).book_is ∙ ap (λ (y : Stored K). y.book) d.after

  drained_log : seen q ≡ log_of drains.0
  drained_log = (drains.2).seen_is ∙ ap (λ (y : Stored K). log_of y) d.after

  drained_state : state_of desk (seen q) ≡ (drains.0).book.state
  drained_state = (left_by_turn desk p q drains.0 drains.1 drains.2).state_is ∙ ap (λ (y : Stored K). y.book.state) d.after

  module _ (a : OpenSweep) (left_is : left_by p ≡ one_open a) where
    found : IsFound (number_of p) (drains.0) a d.sweep
    found = found_as (number_of p) p drains.0 a d.sweep left_is (drains.2).own d.is

    pub now_left : left_by q ≡ one_open c
    now_left = (drains.2).left ∙ ap (λ (y : Stored K). open_of (number_of p) (stored.open_of y)) d.after ∙ one_left (number_of p) (record ((drains.0).left_open) { sweep = Some c }) c found.drafts refl found.own

    pub now_opening : c.opening ≡ a.opening
    now_opening = ap (λ (o : OpenSweep). o.opening) found.awaits.same

    pub now_policy : c.policy ≡ a.policy
    now_policy = ap (λ (o : OpenSweep). o.policy) found.awaits.same

    names_known : AreKnown (drains.0).book.state c.names.commits
    names_known = subst (λ (y : Stored K). KnowsNames y.book.state y.left_open.sweep) d.after drains.5

    pub now_open : (sweep : Sweep) → HasOpen p sweep a → HasOpen q sweep c
    now_open sweep has = record { left_is = now_left; opening_is = now_opening ∙ has.opening_is; caller = has.caller ∙ sym keeps.number }

    -- what was walked before was walked on the view's commits
    pub walked_view : (marks : Marks) → HasMarked desk p a marks → HaveWalked view.commits marks
    walked_view marks was =
        subst (λ (y : State). HaveWalked y.commits marks) (sym d.view_is)
        (walked_later (state_of desk (seen p)).commits (drains.0).book.state.commits marks.set marks.walked drains.4
        (subst (λ (y : State). Adds (state_of desk (seen p)).commits y.commits) (drains.2).led (goes_later desk (number_of p) (seen p) (log_of drains.0) (drains.2).follows).commits) was.walked)

    -- with all that was marked before and what the roots keep
    pub now_marked : (marks more : Marks) → HasMarked desk p a marks → AddsAll marks.set more.set (live_of view.commits roots) → HaveWalked view.commits more → HasMarked desk q c more
    now_marked marks more was adds walked = record {
      drained = sym (ap (λ (l : List LogEntry). length l) drained_log ∙ length-reverse (drains.0).book.log);
      given = refl;
      known = subst (λ (y : State). AreKnown y c.names.commits) (sym drained_state) names_known;
      marked = λ hash. all_marked (drains.0).book.state.commits view.commits (kept_by (book_of desk p) a) (kept_by (drains.0).book d.sweep) marks.set more.set roots (ap (λ (y : State). y.commits) d.view_is) was.marked adds
          (subst (λ (l : List Hash). Completes (drains.0).book.state.commits l roots (kept_by (drains.0).book d.sweep))
          (given_is desk (number_of p) p drains.0 a d.sweep found.awaits (drains.2).follows (drains.2).led (drains.2).base drains.4 was.drained was.given was.known) d.roots_are) hash
          ∙ ap (λ (b : Book). is_among (kept_by b c) hash) (sym drained_book);
      walked = subst (λ (y : State). HaveWalked y.commits more) (d.view_is ∙ sym drained_state) walked;
    }

pub drained_goes : (K : Type 0) (desk : DeskId) (policy : Resolved) (first present next : Pass) (roots : Roots) (view : State) → Going desk policy first present → Keeps desk present next → IsLegalFrom desk.opened (seen next) → DrainsIn K desk present next roots view → Going desk policy first next
drained_goes K desk policy first present next roots view g keeps legal h =
    goes_on desk policy first present next h.0 h.1 (drained_on (h.0).book (h.3).sweep) g keeps legal h.2 (ap (λ (y : Stored K). y.book) (h.3).after) (ap (λ (y : Stored K). y.mark) (h.3).after)
    (now_left K desk present next roots view keeps h g.sweep g.left_is) (now_opening K desk present next roots view keeps h g.sweep g.left_is) (now_policy K desk present next roots view keeps h g.sweep g.left_is)
    (h.3).sweep (h.3).is refl (ap (λ (y : Stored K). y.left_open) (h.3).after)

-- roots that keep nothing add nothing
none_in : {A : Type 0} (xs : List A) → nat_eq (length xs) 0 ≡ true → xs ≡ []
none_in xs e = nil_from_length xs (let none : length xs ≡ 0 = grind (arith, nat_tests, e) in none)

none_live : (commits : Commits) (heads : List (Hash × Cutoff)) (hashes : List Hash) → (nat_eq (length heads) 0 && nat_eq (length hashes) 0) ≡ true → live_from_all commits heads ++ hashes ≡ []
none_live commits heads hashes none =
    let both = and_parts (nat_eq (length heads) 0) (nat_eq (length hashes) 0) none in
    (λ i. live_from_all commits (none_in heads both.0 i) ++ none_in hashes both.1 i)

or_none : (a : Bool) → (a || false) ≡ a
or_none true = refl
or_none false = refl

pub nothing_added : (commits : Commits) (roots : Roots) (marks : List Hash) → is_nothing roots ≡ true → AddsAll marks marks (live_of commits roots)
nothing_added commits roots marks none hash = sym (ap (λ (l : List Hash). is_marked marks hash || is_among l hash) (none_live commits roots.heads roots.hashes none) ∙ or_none (is_marked marks hash))
