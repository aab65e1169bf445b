use Rattle.std.proofs.Common.{◌≡◌, ◌∙◌, Some, List, ℕ, Option, true, not, ap, sym, subst, is_some}
use Rattle.std.specs.Cmp.Lexicographic.{slice_cmp}
use Rattle.std.specs.Ordering.{nat_cmp}
use Rattle.cat_model.specs.State.{reference_of, moved_reference}
use Rattle.cat_model.specs.declared.reference.Reference.{Reference}
use Rattle.cat_ordered.specs.Maps.{after_change}
use Rattle.cat_tables.specs.References.{AreNamed, names_ascend}
use Rattle.cat_tables.proofs.Naming.{named_put, moved_is, moved_absent, some_found, none_is, held}
use Rattle.cat_tables.proofs.references.References.into_moved.Goals as goal

pub returns-then-is_none : goal.returns-then-is_none
returns-then-is_none c =
    let absent = none_is (reference_of c.args.self c.args.moved.name) (some_found c.get.result _ c.get.ensures ∙ c.is_none.ensures ∙ ap not c.if-is_none.true) in
    sym (moved_absent c.args.self c.args.moved absent)

pub invariant_of-result : goal.invariant_of-result
invariant_of-result c =
    let changed = c.in_ok-into_changes.ensures ∙ ap (λ (change : List ℕ × Option Reference). after_change (slice_cmp nat_cmp) change c.self.inside.named) (c.in_ok-change.ensures ∙ ap (λ (name : List ℕ). (name, Some c.args.moved)) c.in_ok-name.ensures.cases) in
    subst AreNamed (sym changed) (named_put c.args.moved c.self.inside.named c.self.invariant)

pub returns : goal.returns
returns c =
    let changed = c.in_ok-into_changes.ensures ∙ ap (λ (change : List ℕ × Option Reference). after_change (slice_cmp nat_cmp) change c.self.inside.named) (c.in_ok-change.ensures ∙ ap (λ (name : List ℕ). (name, Some c.args.moved)) c.in_ok-name.ensures.cases) in
    let up = subst (λ (l : List Reference). names_ascend l ≡ true) (sym c.self.view_is) c.known.ensures in
    let there = subst (λ (l : List Reference). is_some (reference_of l c.args.moved.name) ≡ true) (sym c.self.view_is) (some_found c.get.result _ c.get.ensures ∙ c.is_none.ensures ∙ ap not c.if-is_none.false) in
    ap held changed ∙ moved_is c.args.moved c.self.inside.named c.self.invariant up there ∙ ap (λ (l : List Reference). moved_reference l c.args.moved) c.self.view_is
