-- What the opening and a round of a collection come to.
use Rattle.std.proofs.Common.{◌≡◌, ◌≤◌, ℕ, [], true, Err, sym, subst, ◌∙◌, arith}
use Rattle.cat_checks.specs.Histories.{IsLegalFrom}
use Rattle.cat_core.specs.declared.sweeping.Sweep.{Sweep}
use Rattle.cat_desk.specs.Pass.{DeskId, Keeps, known, left_by, seen}
use Rattle.cat_desk.specs.declared.pass.Pass.{Pass}
use Rattle.cat_mark.specs.declared.roots.Roots.{Roots}
use Rattle.cat_mark.specs.Marks.{AddsAll, live_of}
use Rattle.cat_mark.specs.Walked.{HaveWalked}
use Rattle.cat_mark.specs.declared.marks.Marks.{Marks}
use Rattle.cat_model.specs.declared.cutoff.Resolved.{Resolved}
use Rattle.cat_model.specs.declared.refusal.Refused.{Refused}
use Rattle.cat_model.specs.Drafts.{nothing_open}
use Rattle.cat_model.specs.State.{State}
use Rattle.cat_collect.specs.Turns.{Comes, DrainsIn, DropsIn, Going, Holds, IsOpenIn, LeavesIn, OpensSweep, is_nothing, out_of_memory}
use Rattle.cat_collect.proofs.Settlings.{drops}
use Rattle.cat_model.specs.Turns.{place_after}
use Rattle.cat_collect.proofs.Goings.{begins, begins_held, begins_open, drained_goes, nothing_added, now_marked, now_open, still_goes, still_open, walked_view}

-- ---- two turns, one after the other

pub keeps_on : (desk : DeskId) (p q z : Pass) → Keeps desk p q → Keeps desk q z → Keeps desk p z
keeps_on desk p q z a b = record { free = b.free; number = b.number ∙ a.number; spare = b.spare ∙ a.spare; held = b.held ∙ a.held }

pub known_over : (k size there last : ℕ) → k ≤ size → there ≡ size → there ≤ last → k ≤ last
known_over k size there last first same later = omega arith

-- ---- the opening

pub opened_own : (K : Type 0) (desk : DeskId) (policy : Resolved) (p q : Pass) (sweep : Sweep) (roots : Roots) (view : State) → left_by p ≡ nothing_open → Keeps desk p q → OpensSweep K desk policy p q sweep roots view → IsOpenIn q sweep
opened_own K desk policy p q sweep roots view none keeps opens = (_, begins_open K desk policy p q sweep roots view none keeps opens)

pub opened_on : (K : Type 0) (desk : DeskId) (policy : Resolved) (p q : Pass) (sweep : Sweep) (roots : Roots) (view : State) (marks : Marks) → left_by p ≡ nothing_open → Keeps desk p q → OpensSweep K desk policy p q sweep roots view → known p ≤ place_after desk.opened (seen q) → IsLegalFrom desk.opened (seen q)
    → AddsAll [] marks.set (live_of view.commits roots) → HaveWalked view.commits marks → Holds desk q sweep marks × Going desk policy p q
opened_on K desk policy p q sweep roots view marks none keeps opens known_is legal adds walked = (begins_held K desk policy p q sweep roots view none keeps opens marks adds walked, begins K desk policy p q sweep roots view none keeps opens known_is legal)

pub opened_spent : (K : Type 0) (desk : DeskId) (policy : Resolved) (p q z : Pass) (sweep : Sweep) (roots : Roots) (view : State) (r : Refused) → left_by p ≡ nothing_open → Keeps desk p q → OpensSweep K desk policy p q sweep roots view → known p ≤ place_after desk.opened (seen q) → IsLegalFrom desk.opened (seen q)
    → IsLegalFrom desk.opened (seen z) → DropsIn K desk q z → r ≡ out_of_memory → (moment : ℕ) → Comes desk policy moment p z (Err r)
opened_spent K desk policy p q z sweep roots view r none keeps opens known_is legal after dropped is moment =
    subst (λ (x : Refused). Comes desk policy moment p z (Err x)) (sym is) (drops K desk policy moment p q z (begins K desk policy p q sweep roots view none keeps opens known_is legal) after dropped)

-- ---- a round

pub left_own : (K : Type 0) (desk : DeskId) (p q : Pass) (sweep : Sweep) (marks : Marks) → Holds desk p sweep marks → Keeps desk p q → LeavesIn K desk p q → IsOpenIn q sweep
left_own K desk p q sweep marks h keeps leaves = (_, still_open K desk p q sweep h.0 h.1 keeps leaves)

pub left_spent : (K : Type 0) (desk : DeskId) (p q z : Pass) → Keeps desk p q → IsLegalFrom desk.opened (seen q) → LeavesIn K desk p q → IsLegalFrom desk.opened (seen z) → DropsIn K desk q z → (policy : Resolved) (first : Pass) → Going desk policy first p → (moment : ℕ) → Comes desk policy moment first z (Err out_of_memory)
left_spent K desk p q z keeps legal leaves after dropped policy first g moment = drops K desk policy moment first q z (still_goes K desk policy first p q g keeps legal leaves) after dropped

pub drained_own : (K : Type 0) (desk : DeskId) (p q : Pass) (sweep : Sweep) (marks : Marks) (roots : Roots) (view : State) → Holds desk p sweep marks → Keeps desk p q → DrainsIn K desk p q roots view → IsOpenIn q sweep
drained_own K desk p q sweep marks roots view h keeps drains = (_, now_open K desk p q roots view keeps drains h.0 h.1.left_is sweep h.1)

-- what was walked before was walked on the view's commits
pub drained_walked : (K : Type 0) (desk : DeskId) (p q : Pass) (sweep : Sweep) (marks : Marks) (roots : Roots) (view : State) → Holds desk p sweep marks → Keeps desk p q → DrainsIn K desk p q roots view → HaveWalked view.commits marks
drained_walked K desk p q sweep marks roots view h keeps drains = walked_view K desk p q roots view keeps drains h.0 h.1.left_is marks h.2

pub drained_on_marks : (K : Type 0) (desk : DeskId) (p q : Pass) (sweep : Sweep) (marks more : Marks) (roots : Roots) (view : State) → Holds desk p sweep marks → Keeps desk p q → IsLegalFrom desk.opened (seen q) → DrainsIn K desk p q roots view → AddsAll marks.set more.set (live_of view.commits roots) → HaveWalked view.commits more
    → (policy : Resolved) (first : Pass) → Going desk policy first p → Holds desk q sweep more × Going desk policy first q
drained_on_marks K desk p q sweep marks more roots view h keeps legal drains adds walked policy first g = (
  (_, now_open K desk p q roots view keeps drains h.0 h.1.left_is sweep h.1, now_marked K desk p q roots view keeps drains h.0 h.1.left_is marks more h.2 adds walked),
  drained_goes K desk policy first p q roots view g keeps legal drains,
)

pub drained_still : (K : Type 0) (desk : DeskId) (p q : Pass) (sweep : Sweep) (marks : Marks) (roots : Roots) (view : State) → Holds desk p sweep marks → Keeps desk p q → IsLegalFrom desk.opened (seen q) → DrainsIn K desk p q roots view → is_nothing roots ≡ true
    → (policy : Resolved) (first : Pass) → Going desk policy first p → Holds desk q sweep marks × Going desk policy first q
drained_still K desk p q sweep marks roots view h keeps legal drains none = drained_on_marks K desk p q sweep marks marks roots view h keeps legal drains (nothing_added view.commits roots marks.set none) (drained_walked K desk p q sweep marks roots view h keeps drains)

pub drained_spent : (K : Type 0) (desk : DeskId) (p q z : Pass) (roots : Roots) (view : State) → Keeps desk p q → IsLegalFrom desk.opened (seen q) → DrainsIn K desk p q roots view → IsLegalFrom desk.opened (seen z) → DropsIn K desk q z
    → (policy : Resolved) (first : Pass) → Going desk policy first p → (moment : ℕ) → Comes desk policy moment first z (Err out_of_memory)
drained_spent K desk p q z roots view keeps legal drains after dropped policy first g moment = drops K desk policy moment first q z (drained_goes K desk policy first p q roots view g keeps legal drains) after dropped
