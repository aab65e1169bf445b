use Rattle.std.proofs.Common.{sym, ◌∙◌, arith}
use Rattle.std.proofs.lemmas.Bool.{eqb-true}
use Rattle.cat_ordered.proofs.Lists.{no_items}
use Rattle.cat_ordered.proofs.Order.{IsMap-after_changes}
use Rattle.cat_ordered.proofs.ordered_map.OrderedMap.with_changes_counted.Goals as goal

pub returns-then-is_empty-clause-map : goal.returns-then-is_empty-clause-map
returns-then-is_empty-clause-map g c = rw (no_items c.args.changes.now (eqb-true _ 0 (sym c.is_empty.ensures ∙ c.if-is_empty.true))) c.in_ok-clone.ensures.cases

pub changed-requires-clause-fine : goal.changed-requires-clause-fine
changed-requires-clause-fine g c = rw c.as_slice.ensures.value c.self.invariant.fine

pub changed-requires-clause-map : goal.changed-requires-clause-map
changed-requires-clause-map g c = rw c.as_slice.ensures.value c.self.invariant.map

pub invariant_of-map : goal.invariant_of-map
invariant_of-map g c = record {
  map = rw c.in_ok-made.ensures.made.whole (IsMap-after_changes g.K.Ord.cmp g.met.K.Ord.total c.args.changes.now _ (rw c.as_slice.ensures.value c.self.invariant.map));
  fine = c.in_ok-made.ensures.made.fine;
  count = rw c.as_slice-2.ensures.value at c.in-Some.ensures;
}

pub returns-clause-map : goal.returns-clause-map
returns-clause-map g c = rw (c.as_slice.ensures.value, c.self.view_is) at c.in_ok-made.ensures.made.whole

pub returns-clause-few : goal.returns-clause-few
returns-clause-few g c = omega (arith, c.in_ok-made.ensures.few)
