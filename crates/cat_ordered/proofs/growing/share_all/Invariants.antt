use Rattle.std.proofs.Common.{◌≡◌, ◌++◌, take}
use Rattle.cat_ordered.specs.Shared.{values}
use Rattle.cat_ordered.proofs.growing.share_all.Given as goal

abbrev pub invariant-loop-piece : goal.invariant-loop-piece
invariant-loop-piece g l = values l.out.items ≡ values l.fn.out.items ++ values (take l.piece-index l.pieces)
