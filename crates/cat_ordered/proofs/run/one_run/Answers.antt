use Rattle.std.proofs.Common.{length, refl}
use Rattle.std.specs.List.{flat_map}
use Rattle.cat_ordered.specs.Shared.{values}
use Rattle.cat_ordered.proofs.Cutting.{cut_start, cut_end}
use Rattle.cat_ordered.proofs.Runs.{run_of_pieces}
use Rattle.cat_ordered.proofs.run.one_run.Goals as goal

pub invariant_of-run : goal.invariant_of-run
invariant_of-run g c = record { fine = c.requires.fine; count = c.requires.count }

pub returns : goal.returns
returns g c =
    let all = flat_map g.P.Piece.entries (values c.args.pieces.items) in
    cut_end _ _ _ all (length c.args.pieces.items) c.new-out.result.items c.push.new.self.items c.in_ok-new.field-0 _ all (length c.args.pieces.items)
    (rw c.new-out.ensures.items (cut_start _ _ _ _ _)) c.in_ok-push.ensures.items c.in_ok-new.ensures.ok refl
    (run_of_pieces g.P.Piece.entries g.P.Piece.size g.P.Piece.least c.args.pieces.items c.requires.fine c.requires.some c.requires.few) refl
