-- What the desk's calls and the store's say of a turn of a collection, taken together.
use Rattle.std.proofs.Common.{◌≡◌, ℕ, List, Some, Result, Ok, Err, IfOk, IfErr, sym, ap, subst, ◌∙◌}
use Rattle.std.specs.Prelude.{OnErr}
use Rattle.cat_checks.specs.Histories.{book_at}
use Rattle.cat_core.specs.Stored as stored
use Rattle.cat_core.specs.Stored.{IsMarked, KnowsNames, Stored, log_of, opened_of}
use Rattle.cat_core.specs.Sweeps.{AreGiven, IsDrained, IsSweepOpening, NotSwept}
use Rattle.cat_core.specs.declared.sweeping.Sweep.{Sweep}
use Rattle.cat_desk.specs.Log.{Follows}
use Rattle.cat_desk.specs.Pass.{DeskId, left_by, number_of, seen}
use Rattle.cat_desk.specs.declared.pass.Pass.{Pass}
use Rattle.cat_graph.specs.Linked.{AreLinked}
use Rattle.cat_mark.specs.declared.marks.Marks.{Marks}
use Rattle.cat_mark.specs.declared.roots.Roots.{Roots}
use Rattle.cat_mark.specs.Walked.{HaveWalked}
use Rattle.cat_model.specs.declared.cutoff.Resolved.{Resolved}
use Rattle.cat_model.specs.declared.refusal.Refused.{Refused}
use Rattle.cat_model.specs.Base.{is_among}
use Rattle.cat_model.specs.Drafts.{OpenSweep, StaysOpen, open_of}
use Rattle.cat_model.specs.Later.{Adds}
use Rattle.cat_model.specs.State.{State}
use Rattle.cat_model.specs.Turns.{Opened}
use Rattle.cat_names.specs.declared.hash.Hash.{Hash}
use Rattle.cat_work.specs.Passes.{state_of}
use Rattle.cat_work.specs.TurnLaws.{goes_later, led_from}
use Rattle.cat_work.specs.Turns.{Turned}
use Rattle.cat_collect.specs.Turns.{DrainsIn, Holds, LeavesIn, OpensNone, OpensSweep}
use Rattle.cat_collect.proofs.Given.{given_is}
use Rattle.cat_collect.proofs.Later.{walked_later}
use Rattle.cat_collect.proofs.Owned.{found_as}

pub opened_in : (K : Type 0) (desk : DeskId) (policy : Resolved) (p q : Pass) (n : ℕ) (s s' : Stored K) (r : Result (Sweep × Roots × State) Refused) → n ≡ number_of p → Turned desk p q s s' → IfOk r (λ t. IsSweepOpening n policy s s' t.0 t.1 t.2) → KnowsNames s'.book.state s'.left_open.sweep → IfOk r (λ t. OpensSweep K desk policy p q t.0 t.1 t.2)
opened_in K desk policy p q n s s' (Ok t) number turn h knows = (s, s', turn, subst (λ (m : ℕ). IsSweepOpening m policy s s' t.0 t.1 t.2) number h, knows)
opened_in K desk policy p q n s s' (Err e) number turn h knows = h

pub refused_in : (K : Type 0) (desk : DeskId) (p q : Pass) (s s' : Stored K) (r : Result (Sweep × Roots × State) Refused) → Turned desk p q s s' → IfErr r (λ e. (s' ≡ s) × NotSwept s e e.why) → IsMarked s.mark s.left_open.sweep → IfErr r (λ e. OpensNone K desk p q e)
refused_in K desk p q s s' (Ok t) turn h marked = h
refused_in K desk p q s s' (Err e) turn h marked = (s, s', turn, h.0, h.1, marked)

pub drained_in : (K : Type 0) {E : Type 0} (desk : DeskId) (p q : Pass) (s s' : Stored K) (r : Result (Roots × State) E) → Turned desk p q s s' → IfOk r (λ t. IsDrained s s' t.0 t.1) → AreLinked s.book.state.commits → KnowsNames s'.book.state s'.left_open.sweep → IfOk r (λ t. DrainsIn K desk p q t.0 t.1)
drained_in K desk p q s s' (Ok t) turn h linked knows = (s, s', turn, h, linked, knows)
drained_in K desk p q s s' (Err e) turn h linked knows = h

pub left_in : (K : Type 0) {E : Type 0} (desk : DeskId) (p q : Pass) (s s' : Stored K) (r : Result (Roots × State) E) → Turned desk p q s s' → OnErr r (s' ≡ s) → OnErr r (LeavesIn K desk p q)
left_in K desk p q s s' (Ok t) turn h = h
left_in K desk p q s s' (Err e) turn h = (s, s', turn, h)

-- the marks are still what was given
pub still_given : {K : Type 0} (desk : DeskId) (p : Pass) (s : Stored K) (sweep : Sweep) (marks : Marks) → Holds desk p sweep marks → StaysOpen (left_by p) (open_of (number_of p) (stored.open_of s)) → opened_of s ≡ desk.opened → Follows (number_of p) (seen p) (log_of s)
    → (book_at (opened_of s) (log_of s)).state ≡ s.book.state → s.book.base ≡ (opened_of s).state → AreLinked s.book.state.commits → (o : OpenSweep) → s.left_open.sweep ≡ Some o → AreGiven s.book o marks.set
still_given desk p s sweep marks h own opened follows led base are o is hash =
    let a = h.0 in let was = h.2 in
    was.marked hash
    ∙ ap (λ (l : List Hash). is_among l hash) (sym (given_is desk (number_of p) p s a o (found_as (number_of p) p s a o h.1.left_is own is).awaits follows (led_from desk s opened led) (base ∙ ap (λ (x : Opened). x.state) opened) are was.drained was.given was.known))

-- and were walked on commits of which none is gone
pub still_walked : {K : Type 0} (desk : DeskId) (p : Pass) (s : Stored K) (sweep : Sweep) (marks : Marks) → Holds desk p sweep marks → opened_of s ≡ desk.opened → Follows (number_of p) (seen p) (log_of s)
    → (book_at (opened_of s) (log_of s)).state ≡ s.book.state → AreLinked s.book.state.commits → HaveWalked s.book.state.commits marks
still_walked desk p s sweep marks h opened follows led are =
    walked_later (state_of desk (seen p)).commits s.book.state.commits marks.set marks.walked are
    (subst (λ (y : State). Adds (state_of desk (seen p)).commits y.commits) (led_from desk s opened led) (goes_later desk (number_of p) (seen p) (log_of s) follows).commits) (h.2).walked
