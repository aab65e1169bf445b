use Rattle.std.proofs.Common.{◌≡◌, ◌+◌, drop}
use Rattle.std.specs.List.{flat_map}
use Rattle.cat_ordered.specs.Maps.{share_of}
use Rattle.cat_ordered.specs.Shared.{values}
use Rattle.cat_ordered.proofs.growing.share.Given as goal

abbrev pub invariant-loop-i : goal.invariant-loop-i
invariant-loop-i g l = let rest = flat_map g.P.Piece.entries (values l.others) in share_of g.K.Ord.cmp l.changes rest ≡ l.i + share_of g.K.Ord.cmp (drop l.i l.changes) rest
