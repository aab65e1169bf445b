use Rattle.std.proofs.Common.{◌≡◌, ◌∙◌, None, Some, List, ℕ, Option, ap, sym, subst}
use Rattle.std.specs.Cmp.Lexicographic.{slice_cmp}
use Rattle.std.specs.Ordering.{nat_cmp}
use Rattle.cat_model.specs.State.{reference_of, with_reference}
use Rattle.cat_model.specs.declared.reference.Reference.{Reference}
use Rattle.cat_ordered.specs.Maps.{after_change}
use Rattle.cat_tables.specs.References.{AreNamed}
use Rattle.cat_tables.proofs.Naming.{named_put, with_is, held}
use Rattle.cat_tables.proofs.references.References.into_with.Goals as goal

pub invariant_of-result : goal.invariant_of-result
invariant_of-result c =
    let changed = c.in_ok-into_changes.ensures ∙ ap (λ (change : List ℕ × Option Reference). after_change (slice_cmp nat_cmp) change c.self.inside.named) (c.in_ok-change.ensures ∙ ap (λ (name : List ℕ). (name, Some c.args.reference)) c.in_ok-name.ensures.cases) in
    subst AreNamed (sym changed) (named_put c.args.reference c.self.inside.named c.self.invariant)

pub returns : goal.returns
returns c =
    let changed = c.in_ok-into_changes.ensures ∙ ap (λ (change : List ℕ × Option Reference). after_change (slice_cmp nat_cmp) change c.self.inside.named) (c.in_ok-change.ensures ∙ ap (λ (name : List ℕ). (name, Some c.args.reference)) c.in_ok-name.ensures.cases) in
    let absent = subst (λ (l : List Reference). reference_of l c.args.reference.name ≡ None) (sym c.self.view_is) c.requires in
    ap held changed ∙ with_is c.args.reference c.self.inside.named c.self.invariant absent ∙ ap (λ (l : List Reference). with_reference l c.args.reference) c.self.view_is
