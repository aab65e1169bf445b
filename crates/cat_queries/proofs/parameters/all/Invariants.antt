use Rattle.std.proofs.Common.{◌≡◌, ◌++◌}
use Rattle.form_urlencoded.specs.Parse.{pairs_left}
use Rattle.cat_queries.specs.Parameters.{values_in, all_values}
use Rattle.cat_queries.proofs.parameters.all.Given as goal

abbrev pub invariant-loop-pair : goal.invariant-loop-pair
invariant-loop-pair l =
    (goal.iterator-loop-pair).can_next l.pair-iterator ×
    (goal.iterator-loop-pair).is_finite l.pair-iterator
    × (l.values ++ values_in l.name (pairs_left l.pair-iterator) ≡ all_values l.name l.query)
