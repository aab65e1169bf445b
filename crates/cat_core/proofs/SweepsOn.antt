-- Sweeps that are opened, given roots and closed.
use Rattle.std.proofs.Common.{◌≡◌, ℕ, ◌≤◌, ◌+◌, ◌-◌, min, List, [], ◌∷◌, length, take, Option, Some, None, true, refl, sym, ap, subst, ◌∙◌, arith}
use Rattle.std.specs.List.{list_all}
use Rattle.std.specs.Option.{option_map}
use Rattle.sha2.specs.Sha256.{sha256}
use Rattle.cat_checks.specs.Legal.{most_patterns}
use Rattle.cat_frames.specs.Sweeps.{resolved_is_logged}
use Rattle.cat_model.specs.declared.cutoff.Resolved.{Resolved}
use Rattle.cat_model.specs.Book.{Book}
use Rattle.cat_model.specs.Drafts as drafts
use Rattle.cat_model.specs.Mark as marks
use Rattle.cat_model.specs.Mark.{Mark, closed_number, last_sweep, open_number}
use Rattle.cat_model.specs.Past.{past_of}
use Rattle.cat_model.specs.Refusing.{named}
use Rattle.cat_model.specs.State.{State}
use Rattle.cat_model.specs.Turns.{Opened}
use Rattle.cat_core.specs.declared.tickets.ClosedSweep.{ClosedSweep}
use Rattle.cat_core.specs.declared.tickets.OpenDraft.{OpenDraft}
use Rattle.cat_core.specs.declared.tickets.OpenSweep.{OpenSweep}
use Rattle.cat_core.specs.declared.tickets.Ticket.{Ticket}
use Rattle.cat_core.specs.Noting.{names_of_drafts}
use Rattle.cat_core.specs.Stored.{AreKnown, AreNamed, HasFronts, IsMarked, IsSound, IsSwept, KnowsNames, Stored, closed_before, closed_held, is_headed, sweep_held}
use Rattle.cat_model.specs.declared.sweep.Sweep.{Sweep}
use Rattle.cat_model.specs.Sweeps.{sweep_of}
use Rattle.cat_core.specs.Sweeps.{MayBeClosed, next_sweep}
use Rattle.cat_core.proofs.Collecting.{may_log, may_sweep}
use Rattle.cat_core.proofs.UnderWay.{known_both, marked, place_log}

-- ---- sweeps that are opened and given roots

drafts_known : (state : State) (left_open : List drafts.OpenDraft) → AreNamed state left_open → AreKnown state (names_of_drafts left_open).commits
drafts_known state [] are = refl
drafts_known state (x ∷ xs) are = known_both state x.names.commits (names_of_drafts xs).commits are.0 (drafts_known state xs are.1)

pub swept_begun : (book : Book) (o : Opened) (left_open : List drafts.OpenDraft) (s : OpenSweep) (held : Option OpenSweep) (closed : Option ClosedSweep) → IsSwept book left_open held closed → IsSound o book left_open → s.ticket.place ≡ book.state.place → s.drained ≡ length book.log
    → s.commits.items ≡ (names_of_drafts left_open).commits → HasFronts s → length s.policy.cutoffs ≤ most_patterns → resolved_is_logged s.policy ≡ true → closed_before closed ≤ s.ticket.number → IsSwept book left_open (Some s) closed
swept_begun book o left_open s held closed was sound place drained commits fronts few logged last =
    let long : book.state.place ≡ book.base.place + length book.log = place_log book o left_open sound in
    let none : book.state.place - s.ticket.place ≡ 0 = omega (arith, place) in
    record {
      named = was.named;
      sweep = record {
        fronts = fronts;
        from = omega (arith, place, long);
        since = omega (arith, drained, place, long);
        drained = omega (arith, drained);
        few = few;
        logged = logged;
        known = subst (AreKnown book.state) (sym commits) (drafts_known book.state left_open was.named);
        headed = ap (λ (n : ℕ). list_all is_headed (take n (past_of sha256 book))) none;
      };
      last = last;
    }

-- all was given
pub swept_given : (book : Book) (o : Opened) (left_open : List drafts.OpenDraft) (a b : OpenSweep) (closed : Option ClosedSweep) → IsSwept book left_open (Some a) closed → IsSound o book left_open → b.ticket ≡ a.ticket → b.policy ≡ a.policy → b.commits.items ≡ a.commits.items → b.drained ≡ length book.log → HasFronts b → IsSwept book left_open (Some b) closed
swept_given book o left_open a b closed was sound ticket policy commits drained fronts =
    let from : book.base.place ≤ a.ticket.place = was.sweep.from in
    let since : a.ticket.place ≤ book.base.place + a.drained = was.sweep.since in
    let low : a.drained ≤ length book.log = was.sweep.drained in
    let place : b.ticket.place ≡ a.ticket.place = ap (λ (t : Ticket). t.place) ticket in
    record {
      named = was.named;
      sweep = record {
        fronts = fronts;
        from = omega (arith, from, place);
        since = omega (arith, since, low, place, drained);
        drained = omega (arith, drained);
        few = subst (λ (p : Resolved). length p.cutoffs ≤ most_patterns) (sym policy) was.sweep.few;
        logged = subst (λ (p : Resolved). resolved_is_logged p ≡ true) (sym policy) was.sweep.logged;
        known = subst (AreKnown book.state) (sym commits) was.sweep.known;
        headed = subst (λ (n : ℕ). list_all is_headed (take (book.state.place - n) (past_of sha256 book)) ≡ true) (sym place) was.sweep.headed;
      };
      last = subst (λ (n : ℕ). closed_before closed ≤ n) (sym (ap (λ (t : Ticket). t.number) ticket)) was.last;
    }

-- ---- once it is closed

may_by : (book : Book) (o : Opened) (left_open : List drafts.OpenDraft) (held : Option OpenSweep) (closed : Option ClosedSweep) → IsSound o book left_open → IsSwept book left_open held closed → MayBeClosed book (option_map sweep_held held)
may_by book o left_open None closed sound is = tt
may_by book o left_open (Some s) closed sound is =
    let since : s.ticket.place ≤ book.base.place + s.drained = is.sweep.since in
    let low : s.drained ≤ length book.log = is.sweep.drained in
    let long : book.state.place ≡ book.base.place + length book.log = place_log book o left_open sound in
    let sweep : Sweep = sweep_of s.ticket.place s.policy (record { commits = s.commits.items; contents = s.contents.items }) in (
      may_sweep book (sweep_held s) sweep refl is.sweep.from (omega (arith, since, low, long)) is.sweep.known is.sweep.few,
      may_log (sweep_held s) sweep refl is.sweep.logged,
    )

pub may_close : {K : Type 0} (book : Book) (o : Opened) (left_open : List drafts.OpenDraft) (held : Option OpenSweep) (closed : Option ClosedSweep) (s x : Stored K) → s ≡ x → s.book ≡ book → s.left_open.sweep ≡ option_map sweep_held held → IsSound o book left_open → IsSwept book left_open held closed
    → MayBeClosed x.book x.left_open.sweep
may_close {K} book o left_open held closed s x same own sweep sound is =
    subst (λ (z : Stored K). MayBeClosed z.book z.left_open.sweep) same
    (subst (λ (b : Book). MayBeClosed b s.left_open.sweep) (sym own)
    (subst (MayBeClosed book) (sym sweep) (may_by book o left_open held closed sound is)))

-- ---- its number

closed_same : (closed : Option ClosedSweep) → closed_number (option_map closed_held closed) ≡ closed_before closed
closed_same None = refl
closed_same (Some c) = refl

pub last_inside : {K : Type 0} (s x : Stored K) → s ≡ x → (closed : Option ClosedSweep) (n : ℕ) → s.mark.closed ≡ option_map closed_held closed → closed_number x.mark.closed ≤ n → closed_before closed ≤ n
last_inside {K} s x same closed n is low =
    subst (λ (m : ℕ). m ≤ n) (closed_same closed) (subst (λ (c : Option marks.ClosedSweep). closed_number c ≤ n) is (subst (λ (z : Stored K). closed_number z.mark.closed ≤ n) (sym same) low))

-- the next one's, where none is open
pub next_is : (m : Mark) (held : Option drafts.OpenSweep) (last n : ℕ) → held ≡ None → IsMarked m held → last ≡ closed_number m.closed → n ≡ min (last + 1) 18446744073709551615 → n ≡ next_sweep m
next_is m held last n none marked closed is =
    let own : open_number m.sweep ≡ 0 = ap open_number (subst (IsMarked m) none marked) in
    let most : closed_number m.closed ≡ last_sweep m = omega (arith, own) in
    is ∙ ap (λ (k : ℕ). min (k + 1) 18446744073709551615) (closed ∙ most)

-- ---- what it names

knows_by : (book : Book) (left_open : List drafts.OpenDraft) (held : Option OpenSweep) (closed : Option ClosedSweep) → IsSwept book left_open held closed → KnowsNames book.state (option_map sweep_held held)
knows_by book left_open None closed is = tt
knows_by book left_open (Some s) closed is = is.sweep.known

pub knows_names : {K : Type 0} (book : Book) (left_open : List drafts.OpenDraft) (held : Option OpenSweep) (closed : Option ClosedSweep) (s x : Stored K) → s ≡ x → s.book ≡ book → s.left_open.sweep ≡ option_map sweep_held held → IsSwept book left_open held closed → KnowsNames x.book.state x.left_open.sweep
knows_names {K} book left_open held closed s x same own sweep is =
    subst (λ (z : Stored K). KnowsNames z.book.state z.left_open.sweep) same
    (subst (λ (b : Book). KnowsNames b.state s.left_open.sweep) (sym own)
    (subst (KnowsNames book.state) (sym sweep) (knows_by book left_open held closed is)))
