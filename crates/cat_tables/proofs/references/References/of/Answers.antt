use Rattle.std.proofs.Common.{◌≡◌, ◌∙◌, None, List, ℕ, Option, true, ap, sym, subst}
use Rattle.std.specs.Cmp.Lexicographic.{slice_cmp}
use Rattle.std.specs.Ordering.{nat_cmp}
use Rattle.cat_codes.specs.Code.{ascends}
use Rattle.cat_model.specs.declared.reference.Reference.{Reference}
use Rattle.cat_ordered.specs.Maps.{after_changes}
use Rattle.cat_tables.specs.References.{all_named}
use Rattle.cat_tables.proofs.Naming.{ascend_named, all_put_is}
use Rattle.cat_tables.proofs.references.References.of.Goals as goal

pub with_changes-requires : goal.with_changes-requires
with_changes-requires c =
    let items : c.as_slice.result.now ≡ all_named c.args.list = c.as_slice.ensures.value ∙ c.in_ok-changes.ensures ∙ ap (λ (l : List Reference). all_named l) c.into_vec.ensures in
    subst (λ (l : List (List ℕ × Option Reference)). ascends (slice_cmp nat_cmp) None l ≡ true) (sym items) (ascend_named c.args.list c.requires)

pub invariant_of-result : goal.invariant_of-result
invariant_of-result c =
    let items : c.as_slice.result.now ≡ all_named c.args.list = c.as_slice.ensures.value ∙ c.in_ok-changes.ensures ∙ ap (λ (l : List Reference). all_named l) c.into_vec.ensures in
    (all_put_is c.args.list c.in_ok-with_changes.field-0 c.requires (c.in_ok-with_changes.ensures ∙ (λ i. after_changes (slice_cmp nat_cmp) (items i) (c.new.ensures i)))).0

pub returns : goal.returns
returns c =
    let items : c.as_slice.result.now ≡ all_named c.args.list = c.as_slice.ensures.value ∙ c.in_ok-changes.ensures ∙ ap (λ (l : List Reference). all_named l) c.into_vec.ensures in
    (all_put_is c.args.list c.in_ok-with_changes.field-0 c.requires (c.in_ok-with_changes.ensures ∙ (λ i. after_changes (slice_cmp nat_cmp) (items i) (c.new.ensures i)))).1
