use Rattle.std.proofs.Common.{◌≡◌, length, sym, ◌∙◌, arith}
use Rattle.std.proofs.lemmas.Bool.{eqb-false}
use Rattle.cat_ordered.proofs.owned.into_changed.Goals as goal

pub changed-requires-clause-fine : goal.changed-requires-clause-fine
changed-requires-clause-fine g c = rw c.as_slice.ensures.value c.requires.fine

pub changed-requires-clause-map : goal.changed-requires-clause-map
changed-requires-clause-map g c = rw c.as_slice.ensures.value c.requires.map

pub returns-then-is_empty-clause-made : goal.returns-then-is_empty-clause-made
returns-then-is_empty-clause-made g c = rw c.as_slice.ensures.value at c.in_ok-made.ensures.made

pub changed-requires-then-changes-gt1-clause-fine : goal.changed-requires-then-changes-gt1-clause-fine
changed-requires-then-changes-gt1-clause-fine g c = rw c.as_slice-then-changes-gt1.ensures.value c.requires.fine

pub changed-requires-then-changes-gt1-clause-map : goal.changed-requires-then-changes-gt1-clause-map
changed-requires-then-changes-gt1-clause-map g c = rw c.as_slice-then-changes-gt1.ensures.value c.requires.map

pub returns-then-changes-gt1-clause-made : goal.returns-then-changes-gt1-clause-made
returns-then-changes-gt1-clause-made g c = rw c.as_slice-then-changes-gt1.ensures.value at c.in_ok-made-2.ensures.made

pub change_one-requires-clause-pieces : goal.change_one-requires-clause-pieces
change_one-requires-clause-pieces g c = omega (arith, eqb-false _ 0 (sym c.is_empty.ensures ∙ c.if-is_empty.false))

pub returns-clause-few : goal.returns-clause-few
returns-clause-few g c =
    let one : length c.args.changes.now ≡ 1 = omega (arith, c.requires.some) in
    rw one (omega (arith, c.in_ok-grown.ensures.few))
