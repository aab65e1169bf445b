use Rattle.std.proofs.Common.{List, ◌∙◌, ap}
use Rattle.cat_model.specs.State.{reference_of}
use Rattle.cat_model.specs.declared.reference.Reference.{Reference}
use Rattle.cat_tables.proofs.Naming.{value_is}
use Rattle.cat_tables.proofs.references.References.get.Goals as goal

pub returns : goal.returns
returns c = c.get.ensures ∙ value_is c.self.inside.named c.args.name.now c.self.invariant ∙ ap (λ (l : List Reference). reference_of l c.args.name.now) c.self.view_is
