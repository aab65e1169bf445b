use Rattle.std.proofs.Common.{◌≡◌, ◌∙◌, None, List, ℕ, Option, true, ap, sym, subst}
use Rattle.std.specs.Cmp.Lexicographic.{slice_cmp}
use Rattle.std.specs.Ordering.{nat_cmp}
use Rattle.cat_model.specs.State.{without_reference}
use Rattle.cat_model.specs.declared.reference.Reference.{Reference}
use Rattle.cat_ordered.specs.Maps.{after_change}
use Rattle.cat_tables.specs.References.{AreNamed, names_ascend}
use Rattle.cat_tables.proofs.Naming.{named_without, without_is, held}
use Rattle.cat_tables.proofs.references.References.into_without.Goals as goal

pub invariant_of-result : goal.invariant_of-result
invariant_of-result c =
    let changed = c.in_ok-into_changes.ensures ∙ ap (λ (change : List ℕ × Option Reference). after_change (slice_cmp nat_cmp) change c.self.inside.named) (c.in_ok-change.ensures ∙ ap (λ (name : List ℕ). (name, None)) c.in_ok-gone.ensures.cases) in
    subst AreNamed (sym changed) (named_without c.args.name.now c.self.inside.named c.self.invariant)

pub returns : goal.returns
returns c =
    let changed = c.in_ok-into_changes.ensures ∙ ap (λ (change : List ℕ × Option Reference). after_change (slice_cmp nat_cmp) change c.self.inside.named) (c.in_ok-change.ensures ∙ ap (λ (name : List ℕ). (name, None)) c.in_ok-gone.ensures.cases) in
    let up = subst (λ (l : List Reference). names_ascend l ≡ true) (sym c.self.view_is) c.known.ensures in
    ap held changed ∙ without_is c.args.name.now c.self.inside.named c.self.invariant up ∙ ap (λ (l : List Reference). without_reference l c.args.name.now) c.self.view_is
