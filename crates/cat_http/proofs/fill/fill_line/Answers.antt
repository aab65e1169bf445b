use Rattle.std.proofs.Common.{arith, refl, sym, ap, ◌∙◌}
use Rattle.std.specs.Prelude.{slice_range}
use Rattle.cat_http.specs.Lines.{has_line_feed}
use Rattle.cat_http.proofs.ChunkBuffer.{front_kept}
use Rattle.cat_http.proofs.LineLemmas.{quiet_more}
use Rattle.cat_http.proofs.StreamLemmas.{keeps_again, range_same}
use Rattle.cat_http.proofs.fill.fill_line.Goals as goal

pub returns-in_default-2-clause-cut : goal.returns-in_default-2-clause-cut
returns-in_default-2-clause-cut g c is =
    let here = c.fill.ensures.cut is in (
      omega (arith, here, c.reads.invariant.some),
      ap has_line_feed (ap (slice_range c.fill.new.bytes c.args.end.now) here ∙ range_same c.fill.new.bytes c.reads.bytes c.reads.end c.args.end.now c.reads.end c.fill.ensures.front (omega arith)) ∙ c.reads.invariant.quiet,
    )

pub returns-in_default-2-clause-front : goal.returns-in_default-2-clause-front
returns-in_default-2-clause-front g c =
    front_kept c.args.bytes.now c.reads.bytes c.fill.new.bytes c.args.end.now c.reads.end c.reads.invariant.grows c.fill.ensures.front c.reads.invariant.front

pub returns-then-before-eq0-clause-front : goal.returns-then-before-eq0-clause-front
returns-then-before-eq0-clause-front g c =
    front_kept c.args.bytes.now c.reads.bytes c.fill.new.bytes c.args.end.now c.reads.end c.reads.invariant.grows c.fill.ensures.front c.reads.invariant.front

pub reads-preserved : goal.reads-preserved
reads-preserved g c = record {
  within = c.in-More.ensures.within;
  len = omega (arith, c.fill.auto.bytes, c.reads.invariant.len);
  grows = omega (arith, c.reads.invariant.grows, c.in-More.ensures.grows);
  first = refl;
  some = omega (arith, c.if-end-limit.false);
  faults = grind (arith, c.in-More.ensures.stays, c.reads.invariant.faults);
  front = front_kept c.args.bytes.now c.reads.bytes c.fill.new.bytes c.args.end.now c.reads.end c.reads.invariant.grows c.fill.ensures.front c.reads.invariant.front;
  quiet =
      quiet_more c.reads.bytes c.fill.new.bytes c.args.end.now c.reads.end c.fill.new.end c.reads.invariant.grows c.in-More.ensures.grows c.fill.ensures.front c.reads.invariant.quiet
      (sym c.has_line_feed.ensures ∙ c.if-has_line_feed.false);
  stream = keeps_again _ _ _ _ _ _ c.reads.invariant.stream c.in-More.ensures.stream;
}
