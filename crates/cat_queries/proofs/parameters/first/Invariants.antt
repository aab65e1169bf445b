use Rattle.std.proofs.Common.{◌≡◌}
use Rattle.std.specs.Prelude.{slice_get}
use Rattle.form_urlencoded.specs.Parse.{pairs_left}
use Rattle.cat_queries.specs.Parameters.{values_in, first_value}
use Rattle.cat_queries.proofs.parameters.first.Given as goal

abbrev pub invariant-loop-pair : goal.invariant-loop-pair
invariant-loop-pair l =
    (goal.iterator-loop-pair).can_next l.pair-iterator ×
    (goal.iterator-loop-pair).is_finite l.pair-iterator
    × (slice_get (values_in l.name (pairs_left l.pair-iterator)) 0 ≡ first_value l.name l.query)
