use Rattle.std.proofs.Common.{◌≡◌, List, None, true, subst}
use Rattle.cat_model.specs.declared.reference.Reference.{Reference}
use Rattle.cat_tables.specs.References.{names_ascend}
use Rattle.cat_tables.proofs.Naming.{ascend_held}
use Rattle.cat_tables.proofs.references.References.known.Goals as goal

pub returns : goal.returns
returns c = subst (λ (l : List Reference). names_ascend l ≡ true) c.self.view_is (ascend_held None c.self.inside.named c.self.invariant c.known.ensures)
