use Rattle.std.proofs.Common.{◌≡◌, ◌<◌, [], length, refl, sym, ◌∙◌, arith}
use Rattle.std.proofs.lemmas.Bool.{eqb-true, eqb-false}
use Rattle.std.specs.List.{flat_map}
use Rattle.cat_ordered.specs.Shared.{values}
use Rattle.cat_ordered.proofs.Cutting.{cut_start, cut_nothing, cut_end}
use Rattle.cat_ordered.proofs.Runs.{run_of_pieces, none_in}
use Rattle.cat_ordered.proofs.run.runs.Goals as goal

pub returns-then-is_empty : goal.returns-then-is_empty
returns-then-is_empty g c =
    let none : length c.args.pieces.items ≡ 0 = omega (arith, eqb-true _ 0 (sym c.is_empty.ensures ∙ c.if-is_empty.true)) in
    let all = flat_map g.P.Piece.entries (values c.args.pieces.items) in
    rw c.new-out.ensures.items (cut_nothing _ _ _ _ all [] _ all (cut_start _ _ _ all (length c.args.pieces.items)).cut none (none_in g.P.Piece.entries g.P.Piece.size g.P.Piece.least c.args.pieces.items none) refl)

pub returns : goal.returns
returns g c =
    let some : 0 < length c.args.pieces.items = omega (arith, eqb-false _ 0 (sym c.is_empty.ensures ∙ c.if-is_empty.false)) in
    let all = flat_map g.P.Piece.entries (values c.args.pieces.items) in
    cut_end _ _ _ all (length c.args.pieces.items) c.new-out.result.items c.push.new.self.items c.in_ok-new.field-0
    (record { entries = all; size = length c.args.pieces.items }) all (length c.args.pieces.items)
    (rw c.new-out.ensures.items (cut_start _ _ _ _ _)) c.in_ok-push.ensures.items (c.in_ok-new.ensures.ok ∙ c.in_ok-run.ensures) refl (run_of_pieces g.P.Piece.entries g.P.Piece.size g.P.Piece.least c.args.pieces.items c.requires some (omega arith)) refl
