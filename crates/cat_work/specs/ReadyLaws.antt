-- Laws of passes on which calls may be made.
use Rattle.std.proofs.Common.{◌≡◌, [], sym, subst, ◌∙◌}
use Rattle.std.proofs.lemmas.List.{append-nil}
use Rattle.cat_checks.specs.Histories.{IsLegalFrom}
use Rattle.cat_desk.specs.Log.{BeginsWith, longer}
use Rattle.cat_desk.specs.LogLaws.{begins_on, longer_cases}
use Rattle.cat_desk.specs.Pass.{DeskId, IsFree, Remembers, left_by, seen}
use Rattle.cat_desk.specs.declared.pass.Pass.{Pass}
use Rattle.cat_model.specs.Drafts.{nothing_open}
use Rattle.cat_work.specs.Passes.{IsReady}

-- a ready pass that has then seen what it had, and more, with nothing left open
pub ready_on : (desk : DeskId) (p q : Pass) → IsReady desk p → IsFree desk q → left_by q ≡ nothing_open → IsLegalFrom desk.opened (seen q) → BeginsWith (seen p) (seen q) → IsReady desk q
ready_on desk p q ready free none legal begins = record { free = free; none = none; legal = legal; starts = begins_on desk.begun (seen p) (seen q) ready.starts begins }

-- the two passes of a split, of which the one was ready
pub split_is_ready : (desk : DeskId) (p q : Pass) → IsReady desk p → IsFree desk q → Remembers p q → left_by q ≡ nothing_open → IsReady desk q
split_is_ready desk p q ready free remembers none =
    ready_on desk p q ready free none (subst (IsLegalFrom desk.opened) (sym remembers.seen) ready.legal) ([], remembers.seen ∙ sym (append-nil (seen p)))

-- a ready pass that took in another
pub join_is_ready : (desk : DeskId) (p other q : Pass) → IsReady desk p → IsReady desk other → IsFree desk q → left_by q ≡ left_by p → seen q ≡ longer (seen p) (seen other) → BeginsWith (seen p) (seen q) → IsReady desk q
join_is_ready desk p other q ready theirs free left same begins =
    ready_on desk p q ready free (left ∙ ready.none) (subst (IsLegalFrom desk.opened) (sym same) (longer_cases (seen p) (seen other) (IsLegalFrom desk.opened) (λ _. theirs.legal) (λ _. ready.legal))) begins
