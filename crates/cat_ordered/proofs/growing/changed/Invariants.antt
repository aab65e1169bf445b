use Rattle.std.proofs.Common.{◌≡◌, ◌++◌, ◌+◌, ◌-◌, ◌*◌, ◌<◌, ◌≤◌, length, None, true}
use Rattle.std.specs.List.{flat_map}
use Rattle.cat_codes.specs.Code.{ascends}
use Rattle.cat_ordered.specs.Maps.{IsMap, after_changes}
use Rattle.cat_ordered.specs.Pieces.{AreFine, AreLarge, debt}
use Rattle.cat_ordered.specs.Shared.{values}
use Rattle.cat_ordered.proofs.growing.changed.Given as goal

abbrev pub invariant-loop-left : goal.invariant-loop-left
invariant-loop-left g l = record {
  made : AreFine g.P.Piece.entries g.P.Piece.size g.P.Piece.least (values l.out.items);
  fine : AreFine g.P.Piece.entries g.P.Piece.size g.P.Piece.least (values l.rest);
  map : IsMap g.K.Ord.cmp (flat_map g.P.Piece.entries (values l.rest));
  ascend : ascends g.K.Ord.cmp None l.left ≡ true;
  shorter : length l.left ≤ length l.changes;
  some : 0 < length l.left → 0 < length l.rest;
  large : length l.left < length l.changes → AreLarge g.P.Piece.entries g.P.Piece.size g.P.Piece.least (values l.rest);
  whole : flat_map g.P.Piece.entries (values l.out.items) ++ after_changes g.K.Ord.cmp l.left (flat_map g.P.Piece.entries (values l.rest)) ≡ after_changes g.K.Ord.cmp l.changes (flat_map g.P.Piece.entries (values l.pieces));
  spent : l.copied + debt g.P.Piece.entries g.P.Piece.size g.P.Piece.least (values l.out.items) ≤ (g.P.Piece.rate + 128) * (length l.changes - length l.left);
}

abbrev pub decreases-loop-left : goal.decreases-loop-left
decreases-loop-left g l = length l.left
