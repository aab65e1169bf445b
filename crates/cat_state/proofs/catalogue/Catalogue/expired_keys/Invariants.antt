use Rattle.std.proofs.Common.{◌≡◌, ◌++◌, length}
use Rattle.cat_model.specs.Records.{expired_keys}
use Rattle.cat_state.proofs.catalogue.Catalogue.expired_keys.Given as goal

abbrev pub invariant-loop-key : goal.invariant-loop-key
invariant-loop-key l = l.keys ++ expired_keys l.self l.rest ≡ expired_keys l.self l.fn.pairs

abbrev pub decreases-loop-key : goal.decreases-loop-key
decreases-loop-key l = length l.rest
