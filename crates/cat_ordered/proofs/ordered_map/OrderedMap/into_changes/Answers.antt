use Rattle.std.proofs.Common.{refl, sym, ap, ◌∙◌}
use Rattle.std.proofs.lemmas.Bool.{eqb-true}
use Rattle.cat_ordered.specs.Maps.{after_changes}
use Rattle.cat_ordered.proofs.Lists.{no_items}
use Rattle.cat_ordered.proofs.Order.{IsMap-after_changes}
use Rattle.cat_ordered.proofs.ordered_map.OrderedMap.into_changes.Goals as goal

pub returns-then-is_empty : goal.returns-then-is_empty
returns-then-is_empty g c = rw (no_items c.args.changes.now (eqb-true _ 0 (sym c.is_empty.ensures ∙ c.if-is_empty.true))) refl

pub into_changed-requires-clause-fine : goal.into_changed-requires-clause-fine
into_changed-requires-clause-fine g c = c.self.invariant.fine

pub into_changed-requires-clause-map : goal.into_changed-requires-clause-map
into_changed-requires-clause-map g c = c.self.invariant.map

pub into_changed-requires-clause-count : goal.into_changed-requires-clause-count
into_changed-requires-clause-count g c = c.self.invariant.count

pub counted-requires : goal.counted-requires
counted-requires g c = rw c.as_slice.ensures.value c.in_ok-made.ensures.count

pub invariant_of-result : goal.invariant_of-result
invariant_of-result g c = record {
  map = rw c.in_ok-made.ensures.made.whole (IsMap-after_changes g.K.Ord.cmp g.met.K.Ord.total c.args.changes.now _ c.self.invariant.map);
  fine = c.in_ok-made.ensures.made.fine;
  count = rw c.as_slice.ensures.value at c.in-Some.ensures;
}

pub returns : goal.returns
returns g c = c.in_ok-made.ensures.made.whole ∙ ap (after_changes g.K.Ord.cmp c.args.changes.now) c.self.view_is
