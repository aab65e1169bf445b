use Rattle.std.proofs.Common.{arith, ◌≡◌, ap, sym, ◌∙◌, refl, subst}
use Rattle.std.specs.Prelude.{slice_range}
use Rattle.httparse.specs.Grammar.{HasNoChunkLine}
use Rattle.cat_http.specs.ChunkedRead.{HoldsLine}
use Rattle.cat_http.proofs.StreamLemmas.{range_same, keeps_again}
use Rattle.cat_http.proofs.ChunkBuffer.{front_kept, slice_split}
use Rattle.cat_http.proofs.LineLemmas.{no_line_more}
use Rattle.cat_http.proofs.size_line.read_size_line.Goals as goal

pub reads-preserved : goal.reads-preserved
reads-preserved g c = record {
  within = c.in-More.ensures.within;
  len = omega (arith, c.fill_line.auto.bytes, c.reads.invariant.len);
  grows = omega (arith, c.reads.invariant.grows, c.in-More.ensures.grows);
  faults = grind (arith, c.in-More.ensures.stays, c.reads.invariant.faults);
  front = front_kept c.args.bytes.now c.reads.bytes c.fill_line.new.bytes c.args.end.now c.reads.end c.reads.invariant.grows c.in-More.ensures.front c.reads.invariant.front;
  waits = λ held.
      let was = c.reads.invariant.waits held in
      let none : HasNoChunkLine (slice_range c.reads.bytes c.args.at c.min-seen.result) = rw c.in-Ok-Partial.field-0-is at c.in-Ok-Partial.ensures.partial in
      let same : slice_range c.args.bytes.now c.args.at c.args.end.now ≡ slice_range c.reads.bytes c.args.at c.min-seen.result =
      ap (λ b. slice_range b c.args.at c.args.end.now) (sym was.2) ∙ ap (slice_range c.reads.bytes c.args.at) (omega (arith, was.1, c.if-end-limit.false)) in
      let line = subst HoldsLine same held in
      absurd (none line.0 line.1 line.2);
  stream = keeps_again _ _ _ _ _ _ c.reads.invariant.stream c.in-More.ensures.stream;
}

pub returns-in-End-clause-is : goal.returns-in-End-clause-is
returns-in-End-clause-is g c =
    let ends = c.in-End.ensures.ends refl in
    let none : HasNoChunkLine (slice_range c.reads.bytes c.args.at c.min-seen.result) = rw c.in-Ok-Partial.field-0-is at c.in-Ok-Partial.ensures.partial in
    let same : slice_range c.reads.bytes c.args.at c.min-seen.result ≡ slice_range c.fill_line.new.bytes c.args.at c.fill_line.new.end =
    ap (slice_range c.reads.bytes c.args.at) (omega (arith, c.if-end-limit.false))
    ∙ range_same c.reads.bytes c.fill_line.new.bytes c.reads.end c.args.at c.reads.end (sym c.in-End.ensures.front) (omega arith)
    ∙ ap (slice_range c.fill_line.new.bytes c.args.at) (sym ends.1) in
    (ends.0, omega (arith, ends.1, c.if-end-limit.false), subst HasNoChunkLine same none)

pub returns-in-Fault-clause-is : goal.returns-in-Fault-clause-is
returns-in-Fault-clause-is g c =
    let cut = c.in-Fault.ensures.cut refl in
    let none : HasNoChunkLine (slice_range c.reads.bytes c.args.at c.min-seen.result) = rw c.in-Ok-Partial.field-0-is at c.in-Ok-Partial.ensures.partial in
    let same : slice_range c.reads.bytes c.args.at c.min-seen.result ≡ slice_range c.fill_line.new.bytes c.args.at c.reads.end =
    ap (slice_range c.reads.bytes c.args.at) (omega (arith, c.if-end-limit.false))
    ∙ range_same c.reads.bytes c.fill_line.new.bytes c.reads.end c.args.at c.reads.end (sym c.in-Fault.ensures.front) (omega arith) in (
      cut.0,
      subst HasNoChunkLine (sym (slice_split c.fill_line.new.bytes c.args.at c.reads.end c.fill_line.new.end (omega arith) c.in-Fault.ensures.grows))
          (no_line_more (slice_range c.fill_line.new.bytes c.args.at c.reads.end) (slice_range c.fill_line.new.bytes c.reads.end c.fill_line.new.end) (subst HasNoChunkLine same none) cut.1),
    )

pub returns-in-End-clause-front : goal.returns-in-End-clause-front
returns-in-End-clause-front g c =
    front_kept c.args.bytes.now c.reads.bytes c.fill_line.new.bytes c.args.end.now c.reads.end c.reads.invariant.grows c.in-End.ensures.front c.reads.invariant.front

pub returns-in-Fault-clause-front : goal.returns-in-Fault-clause-front
returns-in-Fault-clause-front g c =
    front_kept c.args.bytes.now c.reads.bytes c.fill_line.new.bytes c.args.end.now c.reads.end c.reads.invariant.grows c.in-Fault.ensures.front c.reads.invariant.front
