use Rattle.std.proofs.Common.{◌≡◌, inl, inr, refl, sym, ◌∙◌, ◌+◌, ◌-◌, ◌/◌, length, arith}
use Rattle.cat_ordered.proofs.Costs.{search_step}
use Rattle.cat_ordered.proofs.Seats.{piece_at, begins_at, none_begins}
use Rattle.cat_ordered.proofs.pieces.seat.Goals as goal

pub loop-high-init : goal.loop-high-init
loop-high-init g c = record {
  order = omega arith;
  within = omega arith;
  before = inl refl;
  after = none_begins g.K.Ord.cmp g.P.Piece.entries c.args.pieces.now _ (g.Q.Seek.sought c.args.key.now) (omega arith);
  spare = omega arith;
  cost = omega arith;
}

pub begins_by-requires : goal.begins_by-requires
begins_by-requires g c = (piece_at g.P.Piece.entries g.P.Piece.size g.P.Piece.least c.args.pieces.now _ c.index-pieces-middle.result c.requires.fine (omega arith) c.index-pieces-middle.is).some

pub loop-high-preserved-then-begins_by : goal.loop-high-preserved-then-begins_by
loop-high-preserved-then-begins_by g c =
    let low = c.loop-high.low in
    let high = c.loop-high.high in
    let step = search_step c.loop-high.count c.saturating_add-count.result (high - low - 1) (high - (low + (high - low) / 2) - 1) (length c.args.pieces.now - 1) (omega arith) c.loop-high.invariant.spare (omega arith) (omega arith) in
    record {
      order = omega arith;
      within = c.loop-high.invariant.within;
      before = inr (begins_at g.K.Ord.cmp g.met.K.Ord.total g.P.Piece.entries g.P.Piece.size g.P.Piece.least c.args.pieces.now _ c.index-pieces-middle.result (g.Q.Seek.sought c.args.key.now) c.requires.fine (omega arith) c.index-pieces-middle.is ∙ sym c.begins_by.ensures ∙ c.if-begins_by.true);
      after = c.loop-high.invariant.after;
      spare = step.0;
      cost = omega (arith, step.1);
    }

pub loop-high-preserved : goal.loop-high-preserved
loop-high-preserved g c =
    let low = c.loop-high.low in
    let high = c.loop-high.high in
    let step = search_step c.loop-high.count c.saturating_add-count.result (high - low - 1) (low + (high - low) / 2 - low - 1) (length c.args.pieces.now - 1) (omega arith) c.loop-high.invariant.spare (omega arith) (omega arith) in
    record {
      order = omega arith;
      within = omega arith;
      before = c.loop-high.invariant.before;
      after = begins_at g.K.Ord.cmp g.met.K.Ord.total g.P.Piece.entries g.P.Piece.size g.P.Piece.least c.args.pieces.now _ c.index-pieces-middle.result (g.Q.Seek.sought c.args.key.now) c.requires.fine (omega arith) c.index-pieces-middle.is ∙ sym c.begins_by.ensures ∙ c.if-begins_by.false;
      spare = step.0;
      cost = omega (arith, step.1);
    }

pub returns-clause-after : goal.returns-clause-after
returns-clause-after g c = let next : c.loop-high.low + 1 ≡ c.loop-high.high = omega arith in rw next c.loop-high.invariant.after
