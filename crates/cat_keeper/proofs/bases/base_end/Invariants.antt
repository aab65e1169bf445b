use Rattle.std.proofs.Common.{◌≡◌, take}
use Rattle.cat_keeper.specs.Bases.{base_end}
use Rattle.cat_keeper.proofs.bases.base_end.Given as goal

abbrev pub invariant-loop-i : goal.invariant-loop-i
invariant-loop-i l = l.end ≡ base_end (take l.i l.payloads)
