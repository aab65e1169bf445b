use Rattle.std.proofs.Common.{ℕ, List, sym, ap, ◌∙◌}
use Rattle.cat_model.specs.Refusing.{named}
use Rattle.cat_decisions.proofs.Found.{named_passes}
use Rattle.cat_decisions.proofs.building.head_of.Goals as goal

pub unreachable-requires : goal.unreachable-requires
unreachable-requires c =
    named_passes c.args.catalogue.now c.args.call.now c.in_default.field-0 c.requires.opened (ap (λ (name : List ℕ). named c.args.catalogue.now name) (sym c.branch-call.ensures) ∙ c.in_default.ensures.named)
