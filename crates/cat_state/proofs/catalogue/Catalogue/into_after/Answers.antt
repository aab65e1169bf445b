use Rattle.std.proofs.Common.{◌+◌, sym, ap, subst, ◌∙◌}
use Rattle.cat_model.specs.State.{State}
use Rattle.cat_state.specs.Changing.{MayBeMade, applied}
use Rattle.cat_state.proofs.Made.{catalogue_changed, new_to_tables}
use Rattle.cat_state.proofs.catalogue.Catalogue.into_after.Goals as goal

pub into_references_with-requires : goal.into_references_with-requires
into_references_with-requires c =
    let may = subst (λ (s : State). MayBeMade s c.args.change) (sym c.self.view_is) c.requires in
    (new_to_tables _ c.self.inside.maps c.args.change c.self.invariant may).new_name

pub into_with-requires : goal.into_with-requires
into_with-requires c =
    let may = subst (λ (s : State). MayBeMade s c.args.change) (sym c.self.view_is) c.requires in
    (new_to_tables _ c.self.inside.maps c.args.change c.self.invariant may).linked

pub into_with-requires-2 : goal.into_with-requires-2
into_with-requires-2 c =
    let may = subst (λ (s : State). MayBeMade s c.args.change) (sym c.self.view_is) c.requires in
    (new_to_tables _ c.self.inside.maps c.args.change c.self.invariant may).distinct_maps

pub into_with-requires-3 : goal.into_with-requires-3
into_with-requires-3 c =
    let may = subst (λ (s : State). MayBeMade s c.args.change) (sym c.self.view_is) c.requires in
    (new_to_tables _ c.self.inside.maps c.args.change c.self.invariant may).distinct_contents

pub invariant_of-result : goal.invariant_of-result
invariant_of-result c =
    let may = subst (λ (s : State). MayBeMade s c.args.change) (sym c.self.view_is) c.requires in
    rw (c.in_ok-into_references_with.ensures, c.in_ok-into_with.ensures, c.in_ok-into_with-2.ensures, c.in_ok-into_with-3.ensures) (catalogue_changed _ c.self.inside.maps c.args.change c.self.invariant may)

pub returns : goal.returns
returns c =
    (λ i. record {
      place = c.self.inside.place + 1;
      references = c.in_ok-into_references_with.ensures i;
      commits = c.in_ok-into_with.ensures i;
      present = c.in_ok-into_with-3.ensures i;
      limits = c.self.inside.limits;
    })
    ∙ ap (λ (s : State). applied s c.args.change) c.self.view_is
