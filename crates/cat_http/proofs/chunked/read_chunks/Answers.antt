use Rattle.std.proofs.Common.{arith, refl, ap, drop, sym, subst, ◌+◌, ◌-◌, ◌∙◌}
use Rattle.std.specs.Prelude.{slice_range}
use Rattle.cat_http.specs.ChunkedRead.{HoldsChunks}
use Rattle.cat_http.proofs.ChunkBuffer.{back_kept, stands_grow, stands_again, front_kept, line_here, line_refused_answer, line_cut_answer, line_lacks_answer, line_unfinished_answer, sum_answer, data_unfinished_answer, data_cut_answer, data_lacks_answer, end_refused_answer, whole_answer, front_moved, stands_moved}
use Rattle.cat_http.proofs.HeldLemmas.{held_again, line_held, data_held, others_held}
use Rattle.cat_http.proofs.chunked.read_chunks.Goals as goal

pub returns-in-Cut-clause-front : goal.returns-in-Cut-clause-front
returns-in-Cut-clause-front g c =
    front_kept c.args.bytes.now c.chunks.bytes c.read_size_line.new.bytes c.args.start c.chunks.end (omega (arith, c.chunks.invariant.order, c.chunks.invariant.before)) c.in-Cut.ensures.front c.chunks.invariant.front

pub returns-in-Cut-clause-answer : goal.returns-in-Cut-clause-answer
returns-in-Cut-clause-answer g c =
    line_cut_answer _ _ _ c.read_size_line.new.bytes c.args.start c.chunks.kept c.chunks.at c.read_size_line.new.end (c.args.start + 2097152) refl
    c.chunks.invariant.order (omega (arith, c.chunks.invariant.before, c.in-Cut.ensures.grows)) c.in-Cut.ensures.within c.chunks.invariant.small c.chunks.invariant.limit
    (stands_grow _ _ _ _ c.chunks.bytes c.read_size_line.new.bytes c.args.start (c.args.start + c.chunks.kept) (c.chunks.at - c.args.start) c.chunks.at c.chunks.end c.read_size_line.new.end
    c.chunks.invariant.before c.in-Cut.ensures.grows c.chunks.invariant.within c.in-Cut.ensures.within c.chunks.invariant.order c.in-Cut.ensures.front c.in-Cut.ensures.stream c.chunks.invariant.stream)
    c.in-Cut.ensures.is.0 c.in-Cut.ensures.is.1 c.in-Cut.ensures.is.2

pub returns-in-Malformed-clause-front : goal.returns-in-Malformed-clause-front
returns-in-Malformed-clause-front g c =
    front_kept c.args.bytes.now c.chunks.bytes c.read_size_line.new.bytes c.args.start c.chunks.end (omega (arith, c.chunks.invariant.order, c.chunks.invariant.before)) c.in-Malformed.ensures.front c.chunks.invariant.front

pub returns-in-Malformed-clause-answer : goal.returns-in-Malformed-clause-answer
returns-in-Malformed-clause-answer g c =
    line_refused_answer _ _ _ c.read_size_line.new.bytes c.args.start c.chunks.kept c.chunks.at c.read_size_line.new.end (c.args.start + 2097152) refl
    c.chunks.invariant.order (omega (arith, c.chunks.invariant.before, c.in-Malformed.ensures.grows)) c.in-Malformed.ensures.within c.chunks.invariant.small c.chunks.invariant.limit
    (stands_grow _ _ _ _ c.chunks.bytes c.read_size_line.new.bytes c.args.start (c.args.start + c.chunks.kept) (c.chunks.at - c.args.start) c.chunks.at c.chunks.end c.read_size_line.new.end
    c.chunks.invariant.before c.in-Malformed.ensures.grows c.chunks.invariant.within c.in-Malformed.ensures.within c.chunks.invariant.order c.in-Malformed.ensures.front c.in-Malformed.ensures.stream c.chunks.invariant.stream)
    c.in-Malformed.ensures.is

pub returns-in-TooLarge-clause-front : goal.returns-in-TooLarge-clause-front
returns-in-TooLarge-clause-front g c =
    front_kept c.args.bytes.now c.chunks.bytes c.read_size_line.new.bytes c.args.start c.chunks.end (omega (arith, c.chunks.invariant.order, c.chunks.invariant.before)) c.in-TooLarge.ensures.front c.chunks.invariant.front

pub returns-in-TooLarge-clause-answer : goal.returns-in-TooLarge-clause-answer
returns-in-TooLarge-clause-answer g c =
    line_unfinished_answer _ _ _ c.read_size_line.new.bytes c.args.start c.chunks.kept c.chunks.at c.read_size_line.new.end (c.args.start + 2097152) refl
    c.chunks.invariant.order (omega (arith, c.chunks.invariant.before, c.in-TooLarge.ensures.grows)) c.in-TooLarge.ensures.within c.chunks.invariant.small c.chunks.invariant.limit
    (stands_grow _ _ _ _ c.chunks.bytes c.read_size_line.new.bytes c.args.start (c.args.start + c.chunks.kept) (c.chunks.at - c.args.start) c.chunks.at c.chunks.end c.read_size_line.new.end
    c.chunks.invariant.before c.in-TooLarge.ensures.grows c.chunks.invariant.within c.in-TooLarge.ensures.within c.chunks.invariant.order c.in-TooLarge.ensures.front c.in-TooLarge.ensures.stream c.chunks.invariant.stream)
    c.in-TooLarge.ensures.is.0 c.in-TooLarge.ensures.is.1

pub returns-in-Fault-clause-front : goal.returns-in-Fault-clause-front
returns-in-Fault-clause-front g c =
    front_kept c.args.bytes.now c.chunks.bytes c.read_size_line.new.bytes c.args.start c.chunks.end (omega (arith, c.chunks.invariant.order, c.chunks.invariant.before)) c.in-Fault.ensures.front c.chunks.invariant.front

pub returns-in-Fault-clause-answer : goal.returns-in-Fault-clause-answer
returns-in-Fault-clause-answer g c =
    line_lacks_answer _ _ _ c.read_size_line.new.bytes c.args.start c.chunks.kept c.chunks.at c.read_size_line.new.end (c.args.start + 2097152) refl
    c.chunks.invariant.order (omega (arith, c.chunks.invariant.before, c.in-Fault.ensures.grows)) c.in-Fault.ensures.within c.chunks.invariant.small c.chunks.invariant.limit
    (stands_grow _ _ _ _ c.chunks.bytes c.read_size_line.new.bytes c.args.start (c.args.start + c.chunks.kept) (c.chunks.at - c.args.start) c.chunks.at c.chunks.end c.read_size_line.new.end
    c.chunks.invariant.before c.in-Fault.ensures.grows c.chunks.invariant.within c.in-Fault.ensures.within c.chunks.invariant.order c.in-Fault.ensures.front c.in-Fault.ensures.stream c.chunks.invariant.stream)
    c.in-Fault.ensures.is.0 c.in-Fault.ensures.is.1

pub returns-then-size-kept-clause-front : goal.returns-then-size-kept-clause-front
returns-then-size-kept-clause-front g c =
    front_kept c.args.bytes.now c.chunks.bytes c.read_size_line.new.bytes c.args.start c.chunks.end (omega (arith, c.chunks.invariant.order, c.chunks.invariant.before)) c.in-Found.ensures.front c.chunks.invariant.front

pub returns-then-size-kept-clause-answer : goal.returns-then-size-kept-clause-answer
returns-then-size-kept-clause-answer g c =
    sum_answer _ _ _ c.read_size_line.new.bytes c.args.start c.chunks.kept c.chunks.at c.read_size_line.new.end (c.args.start + 2097152) refl
    c.chunks.invariant.order (omega (arith, c.chunks.invariant.before, c.in-Found.ensures.grows)) c.in-Found.ensures.within c.chunks.invariant.small c.chunks.invariant.limit
    (stands_grow _ _ _ _ c.chunks.bytes c.read_size_line.new.bytes c.args.start (c.args.start + c.chunks.kept) (c.chunks.at - c.args.start) c.chunks.at c.chunks.end c.read_size_line.new.end
    c.chunks.invariant.before c.in-Found.ensures.grows c.chunks.invariant.within c.in-Found.ensures.within c.chunks.invariant.order c.in-Found.ensures.front c.in-Found.ensures.stream c.chunks.invariant.stream)
    c.in-Found.ensures.is.1 c.in-Found.ensures.is.2.reads.0 c.in-Found.len c.in-Found.size (c.chunks.at + c.in-Found.len) refl c.in-Found.ensures.is.2.len_is c.in-Found.ensures.is.2.size_is
    (line_here c.read_size_line.new.bytes c.read_size_line.new.bytes c.chunks.at c.in-Found.len c.in-Found.size _ c.read_size_line.new.end _ c.in-Found.ensures.is.2 c.in-Found.ensures.is.0 (omega arith) refl)
    (omega (arith, c.in-Found.ensures.is.0)) (omega (arith, c.in-Found.ensures.is.0))
    (omega (arith, c.if-size-kept.true))

pub returns-in-Cut-read_chunk_end-clause-front : goal.returns-in-Cut-read_chunk_end-clause-front
returns-in-Cut-read_chunk_end-clause-front g c =
    front_kept c.args.bytes.now c.read_size_line.new.bytes c.read_chunk_end.new.bytes c.args.start c.read_size_line.new.end
    (omega (arith, c.chunks.invariant.order, c.chunks.invariant.before, c.in-Found.ensures.grows)) c.in-Cut-read_chunk_end.ensures.front
    (front_kept c.args.bytes.now c.chunks.bytes c.read_size_line.new.bytes c.args.start c.chunks.end (omega (arith, c.chunks.invariant.order, c.chunks.invariant.before)) c.in-Found.ensures.front c.chunks.invariant.front)

pub returns-in-Cut-read_chunk_end-clause-answer : goal.returns-in-Cut-read_chunk_end-clause-answer
returns-in-Cut-read_chunk_end-clause-answer g c =
    data_cut_answer _ _ _ c.read_chunk_end.new.bytes c.args.start c.chunks.kept c.chunks.at c.read_chunk_end.new.end (c.args.start + 2097152) refl
    c.chunks.invariant.order (omega (arith, c.chunks.invariant.before, c.in-Found.ensures.grows, c.in-Cut-read_chunk_end.ensures.grows)) c.in-Cut-read_chunk_end.ensures.within c.chunks.invariant.small c.chunks.invariant.limit
    (stands_again _ _ _ _ _ c.chunks.bytes c.read_size_line.new.bytes c.read_chunk_end.new.bytes c.args.start c.chunks.kept c.chunks.at c.chunks.end c.read_size_line.new.end c.read_chunk_end.new.end
    c.chunks.invariant.order c.chunks.invariant.before c.chunks.invariant.within c.in-Found.ensures.grows c.in-Found.ensures.within c.in-Found.ensures.front c.in-Found.ensures.stream
    c.in-Cut-read_chunk_end.ensures.grows c.in-Cut-read_chunk_end.ensures.within c.in-Cut-read_chunk_end.ensures.front c.in-Cut-read_chunk_end.ensures.stream c.chunks.invariant.stream)
    c.in-Found.ensures.is.1 c.in-Found.ensures.is.2.reads.0 c.in-Found.len c.in-Found.size (c.chunks.at + c.in-Found.len) refl c.in-Found.ensures.is.2.len_is c.in-Found.ensures.is.2.size_is
    (line_here c.read_size_line.new.bytes c.read_chunk_end.new.bytes c.chunks.at c.in-Found.len c.in-Found.size _ c.read_size_line.new.end _ c.in-Found.ensures.is.2 c.in-Found.ensures.is.0 (omega arith) c.in-Cut-read_chunk_end.ensures.front)
    (omega (arith, c.in-Found.ensures.is.0, c.in-Cut-read_chunk_end.ensures.grows)) (omega (arith, c.in-Found.ensures.is.0))
    (omega (arith, c.if-size-kept.false, c.chunks.invariant.small)) c.in-Cut-read_chunk_end.ensures.is.0 c.in-Cut-read_chunk_end.ensures.is.1 c.in-Cut-read_chunk_end.ensures.is.2

pub returns-in-Malformed-read_chunk_end-clause-front : goal.returns-in-Malformed-read_chunk_end-clause-front
returns-in-Malformed-read_chunk_end-clause-front g c =
    front_kept c.args.bytes.now c.read_size_line.new.bytes c.read_chunk_end.new.bytes c.args.start c.read_size_line.new.end
    (omega (arith, c.chunks.invariant.order, c.chunks.invariant.before, c.in-Found.ensures.grows)) c.in-Malformed-read_chunk_end.ensures.front
    (front_kept c.args.bytes.now c.chunks.bytes c.read_size_line.new.bytes c.args.start c.chunks.end (omega (arith, c.chunks.invariant.order, c.chunks.invariant.before)) c.in-Found.ensures.front c.chunks.invariant.front)

pub returns-in-Malformed-read_chunk_end-clause-answer : goal.returns-in-Malformed-read_chunk_end-clause-answer
returns-in-Malformed-read_chunk_end-clause-answer g c =
    end_refused_answer _ _ _ c.read_chunk_end.new.bytes c.args.start c.chunks.kept c.chunks.at c.read_chunk_end.new.end (c.args.start + 2097152) refl
    c.chunks.invariant.order (omega (arith, c.chunks.invariant.before, c.in-Found.ensures.grows, c.in-Malformed-read_chunk_end.ensures.grows)) c.in-Malformed-read_chunk_end.ensures.within c.chunks.invariant.small c.chunks.invariant.limit
    (stands_again _ _ _ _ _ c.chunks.bytes c.read_size_line.new.bytes c.read_chunk_end.new.bytes c.args.start c.chunks.kept c.chunks.at c.chunks.end c.read_size_line.new.end c.read_chunk_end.new.end
    c.chunks.invariant.order c.chunks.invariant.before c.chunks.invariant.within c.in-Found.ensures.grows c.in-Found.ensures.within c.in-Found.ensures.front c.in-Found.ensures.stream
    c.in-Malformed-read_chunk_end.ensures.grows c.in-Malformed-read_chunk_end.ensures.within c.in-Malformed-read_chunk_end.ensures.front c.in-Malformed-read_chunk_end.ensures.stream c.chunks.invariant.stream)
    c.in-Found.ensures.is.1 c.in-Found.ensures.is.2.reads.0 c.in-Found.len c.in-Found.size (c.chunks.at + c.in-Found.len) refl c.in-Found.ensures.is.2.len_is c.in-Found.ensures.is.2.size_is
    (line_here c.read_size_line.new.bytes c.read_chunk_end.new.bytes c.chunks.at c.in-Found.len c.in-Found.size _ c.read_size_line.new.end _ c.in-Found.ensures.is.2 c.in-Found.ensures.is.0 (omega arith) c.in-Malformed-read_chunk_end.ensures.front)
    (omega (arith, c.in-Found.ensures.is.0, c.in-Malformed-read_chunk_end.ensures.grows)) (omega (arith, c.in-Found.ensures.is.0))
    (omega (arith, c.if-size-kept.false, c.chunks.invariant.small)) _ refl c.in-Malformed-read_chunk_end.ensures.is

pub returns-in-TooLarge-read_chunk_end-clause-front : goal.returns-in-TooLarge-read_chunk_end-clause-front
returns-in-TooLarge-read_chunk_end-clause-front g c =
    front_kept c.args.bytes.now c.read_size_line.new.bytes c.read_chunk_end.new.bytes c.args.start c.read_size_line.new.end
    (omega (arith, c.chunks.invariant.order, c.chunks.invariant.before, c.in-Found.ensures.grows)) c.in-TooLarge-read_chunk_end.ensures.front
    (front_kept c.args.bytes.now c.chunks.bytes c.read_size_line.new.bytes c.args.start c.chunks.end (omega (arith, c.chunks.invariant.order, c.chunks.invariant.before)) c.in-Found.ensures.front c.chunks.invariant.front)

pub returns-in-TooLarge-read_chunk_end-clause-answer : goal.returns-in-TooLarge-read_chunk_end-clause-answer
returns-in-TooLarge-read_chunk_end-clause-answer g c =
    data_unfinished_answer _ _ _ c.read_chunk_end.new.bytes c.args.start c.chunks.kept c.chunks.at c.read_chunk_end.new.end (c.args.start + 2097152) refl
    c.chunks.invariant.order (omega (arith, c.chunks.invariant.before, c.in-Found.ensures.grows, c.in-TooLarge-read_chunk_end.ensures.grows)) c.in-TooLarge-read_chunk_end.ensures.within c.chunks.invariant.small c.chunks.invariant.limit
    (stands_again _ _ _ _ _ c.chunks.bytes c.read_size_line.new.bytes c.read_chunk_end.new.bytes c.args.start c.chunks.kept c.chunks.at c.chunks.end c.read_size_line.new.end c.read_chunk_end.new.end
    c.chunks.invariant.order c.chunks.invariant.before c.chunks.invariant.within c.in-Found.ensures.grows c.in-Found.ensures.within c.in-Found.ensures.front c.in-Found.ensures.stream
    c.in-TooLarge-read_chunk_end.ensures.grows c.in-TooLarge-read_chunk_end.ensures.within c.in-TooLarge-read_chunk_end.ensures.front c.in-TooLarge-read_chunk_end.ensures.stream c.chunks.invariant.stream)
    c.in-Found.ensures.is.1 c.in-Found.ensures.is.2.reads.0 c.in-Found.len c.in-Found.size (c.chunks.at + c.in-Found.len) refl c.in-Found.ensures.is.2.len_is c.in-Found.ensures.is.2.size_is
    (line_here c.read_size_line.new.bytes c.read_chunk_end.new.bytes c.chunks.at c.in-Found.len c.in-Found.size _ c.read_size_line.new.end _ c.in-Found.ensures.is.2 c.in-Found.ensures.is.0 (omega arith) c.in-TooLarge-read_chunk_end.ensures.front)
    (omega (arith, c.in-Found.ensures.is.0, c.in-TooLarge-read_chunk_end.ensures.grows)) (omega (arith, c.in-Found.ensures.is.0))
    c.in-TooLarge-read_chunk_end.ensures.is.0 c.in-TooLarge-read_chunk_end.ensures.is.1 c.in-TooLarge-read_chunk_end.ensures.is.2

pub returns-in-Fault-read_chunk_end-clause-front : goal.returns-in-Fault-read_chunk_end-clause-front
returns-in-Fault-read_chunk_end-clause-front g c =
    front_kept c.args.bytes.now c.read_size_line.new.bytes c.read_chunk_end.new.bytes c.args.start c.read_size_line.new.end
    (omega (arith, c.chunks.invariant.order, c.chunks.invariant.before, c.in-Found.ensures.grows)) c.in-Fault-read_chunk_end.ensures.front
    (front_kept c.args.bytes.now c.chunks.bytes c.read_size_line.new.bytes c.args.start c.chunks.end (omega (arith, c.chunks.invariant.order, c.chunks.invariant.before)) c.in-Found.ensures.front c.chunks.invariant.front)

pub returns-in-Fault-read_chunk_end-clause-answer : goal.returns-in-Fault-read_chunk_end-clause-answer
returns-in-Fault-read_chunk_end-clause-answer g c =
    data_lacks_answer _ _ _ c.read_chunk_end.new.bytes c.args.start c.chunks.kept c.chunks.at c.read_chunk_end.new.end (c.args.start + 2097152) refl
    c.chunks.invariant.order (omega (arith, c.chunks.invariant.before, c.in-Found.ensures.grows, c.in-Fault-read_chunk_end.ensures.grows)) c.in-Fault-read_chunk_end.ensures.within c.chunks.invariant.small c.chunks.invariant.limit
    (stands_again _ _ _ _ _ c.chunks.bytes c.read_size_line.new.bytes c.read_chunk_end.new.bytes c.args.start c.chunks.kept c.chunks.at c.chunks.end c.read_size_line.new.end c.read_chunk_end.new.end
    c.chunks.invariant.order c.chunks.invariant.before c.chunks.invariant.within c.in-Found.ensures.grows c.in-Found.ensures.within c.in-Found.ensures.front c.in-Found.ensures.stream
    c.in-Fault-read_chunk_end.ensures.grows c.in-Fault-read_chunk_end.ensures.within c.in-Fault-read_chunk_end.ensures.front c.in-Fault-read_chunk_end.ensures.stream c.chunks.invariant.stream)
    c.in-Found.ensures.is.1 c.in-Found.ensures.is.2.reads.0 c.in-Found.len c.in-Found.size (c.chunks.at + c.in-Found.len) refl c.in-Found.ensures.is.2.len_is c.in-Found.ensures.is.2.size_is
    (line_here c.read_size_line.new.bytes c.read_chunk_end.new.bytes c.chunks.at c.in-Found.len c.in-Found.size _ c.read_size_line.new.end _ c.in-Found.ensures.is.2 c.in-Found.ensures.is.0 (omega arith) c.in-Fault-read_chunk_end.ensures.front)
    (omega (arith, c.in-Found.ensures.is.0, c.in-Fault-read_chunk_end.ensures.grows)) (omega (arith, c.in-Found.ensures.is.0))
    (omega (arith, c.if-size-kept.false, c.chunks.invariant.small)) c.in-Fault-read_chunk_end.ensures.is.0 c.in-Fault-read_chunk_end.ensures.is.1

pub returns-then-size-eq0-clause-front : goal.returns-then-size-eq0-clause-front
returns-then-size-eq0-clause-front g c =
    front_kept c.args.bytes.now c.read_size_line.new.bytes c.read_chunk_end.new.bytes c.args.start c.read_size_line.new.end
    (omega (arith, c.chunks.invariant.order, c.chunks.invariant.before, c.in-Found.ensures.grows)) c.in-Whole.ensures.front
    (front_kept c.args.bytes.now c.chunks.bytes c.read_size_line.new.bytes c.args.start c.chunks.end (omega (arith, c.chunks.invariant.order, c.chunks.invariant.before)) c.in-Found.ensures.front c.chunks.invariant.front)

pub returns-then-size-eq0-clause-answer : goal.returns-then-size-eq0-clause-answer
returns-then-size-eq0-clause-answer g c =
    whole_answer _ _ _ c.read_chunk_end.new.bytes c.args.start c.chunks.kept c.chunks.at c.read_chunk_end.new.end (c.args.start + 2097152) refl
    c.chunks.invariant.order (omega (arith, c.chunks.invariant.before, c.in-Found.ensures.grows, c.in-Whole.ensures.grows)) c.in-Whole.ensures.within c.chunks.invariant.small c.chunks.invariant.limit
    (stands_again _ _ _ _ _ c.chunks.bytes c.read_size_line.new.bytes c.read_chunk_end.new.bytes c.args.start c.chunks.kept c.chunks.at c.chunks.end c.read_size_line.new.end c.read_chunk_end.new.end
    c.chunks.invariant.order c.chunks.invariant.before c.chunks.invariant.within c.in-Found.ensures.grows c.in-Found.ensures.within c.in-Found.ensures.front c.in-Found.ensures.stream
    c.in-Whole.ensures.grows c.in-Whole.ensures.within c.in-Whole.ensures.front c.in-Whole.ensures.stream c.chunks.invariant.stream)
    c.in-Found.ensures.is.1 c.in-Found.ensures.is.2.reads.0 c.in-Found.len c.in-Found.size (c.chunks.at + c.in-Found.len) refl c.in-Found.ensures.is.2.len_is c.in-Found.ensures.is.2.size_is
    (line_here c.read_size_line.new.bytes c.read_chunk_end.new.bytes c.chunks.at c.in-Found.len c.in-Found.size _ c.read_size_line.new.end _ c.in-Found.ensures.is.2 c.in-Found.ensures.is.0 (omega arith) c.in-Whole.ensures.front)
    (omega (arith, c.in-Found.ensures.is.0, c.in-Whole.ensures.grows)) (omega (arith, c.in-Found.ensures.is.0))
    _ _ refl refl c.in-Whole.ensures.is.0 c.in-Whole.ensures.is.1 c.in-Whole.ensures.is.2 c.in-Whole.ensures.is.3 c.if-size-eq0.true

pub returns-in-Cut-clause-waits : goal.returns-in-Cut-clause-waits
returns-in-Cut-clause-waits g c held =
    let was = c.chunks.invariant.waits held in
    (c.in-Cut.ensures.waits (line_held (slice_range c.chunks.bytes c.chunks.at c.chunks.end) was.1)).0 ∙ was.0

pub returns-in-Malformed-clause-waits : goal.returns-in-Malformed-clause-waits
returns-in-Malformed-clause-waits g c held =
    let was = c.chunks.invariant.waits held in
    (c.in-Malformed.ensures.waits (line_held (slice_range c.chunks.bytes c.chunks.at c.chunks.end) was.1)).0 ∙ was.0

pub returns-in-TooLarge-clause-waits : goal.returns-in-TooLarge-clause-waits
returns-in-TooLarge-clause-waits g c held =
    let was = c.chunks.invariant.waits held in
    (c.in-TooLarge.ensures.waits (line_held (slice_range c.chunks.bytes c.chunks.at c.chunks.end) was.1)).0 ∙ was.0

pub returns-in-Fault-clause-waits : goal.returns-in-Fault-clause-waits
returns-in-Fault-clause-waits g c held =
    let was = c.chunks.invariant.waits held in
    (c.in-Fault.ensures.waits (line_held (slice_range c.chunks.bytes c.chunks.at c.chunks.end) was.1)).0 ∙ was.0

pub returns-then-size-kept-clause-waits : goal.returns-then-size-kept-clause-waits
returns-then-size-kept-clause-waits g c held =
    let was = c.chunks.invariant.waits held in
    (c.in-Found.ensures.waits (line_held (slice_range c.chunks.bytes c.chunks.at c.chunks.end) was.1)).0 ∙ was.0

pub returns-in-Cut-read_chunk_end-clause-waits : goal.returns-in-Cut-read_chunk_end-clause-waits
returns-in-Cut-read_chunk_end-clause-waits g c held =
    let was = c.chunks.invariant.waits held in
    let line = c.in-Found.ensures.waits (line_held (slice_range c.chunks.bytes c.chunks.at c.chunks.end) was.1) in
    let now = held_again c.chunks.bytes c.read_size_line.new.bytes c.chunks.at c.chunks.end c.read_size_line.new.end line.2 line.1 was.1 in
    (c.in-Cut-read_chunk_end.ensures.waits (data_held c.read_size_line.new.bytes c.chunks.at c.in-Found.len c.in-Found.size _ c.read_size_line.new.end _ now c.in-Found.ensures.within (omega arith) c.in-Found.ensures.is.0 c.in-Found.ensures.is.2)).0 ∙ line.0 ∙ was.0

pub returns-in-Malformed-read_chunk_end-clause-waits : goal.returns-in-Malformed-read_chunk_end-clause-waits
returns-in-Malformed-read_chunk_end-clause-waits g c held =
    let was = c.chunks.invariant.waits held in
    let line = c.in-Found.ensures.waits (line_held (slice_range c.chunks.bytes c.chunks.at c.chunks.end) was.1) in
    let now = held_again c.chunks.bytes c.read_size_line.new.bytes c.chunks.at c.chunks.end c.read_size_line.new.end line.2 line.1 was.1 in
    (c.in-Malformed-read_chunk_end.ensures.waits (data_held c.read_size_line.new.bytes c.chunks.at c.in-Found.len c.in-Found.size _ c.read_size_line.new.end _ now c.in-Found.ensures.within (omega arith) c.in-Found.ensures.is.0 c.in-Found.ensures.is.2)).0 ∙ line.0 ∙ was.0

pub returns-in-TooLarge-read_chunk_end-clause-waits : goal.returns-in-TooLarge-read_chunk_end-clause-waits
returns-in-TooLarge-read_chunk_end-clause-waits g c held =
    let was = c.chunks.invariant.waits held in
    let line = c.in-Found.ensures.waits (line_held (slice_range c.chunks.bytes c.chunks.at c.chunks.end) was.1) in
    let now = held_again c.chunks.bytes c.read_size_line.new.bytes c.chunks.at c.chunks.end c.read_size_line.new.end line.2 line.1 was.1 in
    (c.in-TooLarge-read_chunk_end.ensures.waits (data_held c.read_size_line.new.bytes c.chunks.at c.in-Found.len c.in-Found.size _ c.read_size_line.new.end _ now c.in-Found.ensures.within (omega arith) c.in-Found.ensures.is.0 c.in-Found.ensures.is.2)).0 ∙ line.0 ∙ was.0

pub returns-in-Fault-read_chunk_end-clause-waits : goal.returns-in-Fault-read_chunk_end-clause-waits
returns-in-Fault-read_chunk_end-clause-waits g c held =
    let was = c.chunks.invariant.waits held in
    let line = c.in-Found.ensures.waits (line_held (slice_range c.chunks.bytes c.chunks.at c.chunks.end) was.1) in
    let now = held_again c.chunks.bytes c.read_size_line.new.bytes c.chunks.at c.chunks.end c.read_size_line.new.end line.2 line.1 was.1 in
    (c.in-Fault-read_chunk_end.ensures.waits (data_held c.read_size_line.new.bytes c.chunks.at c.in-Found.len c.in-Found.size _ c.read_size_line.new.end _ now c.in-Found.ensures.within (omega arith) c.in-Found.ensures.is.0 c.in-Found.ensures.is.2)).0 ∙ line.0 ∙ was.0

pub returns-then-size-eq0-clause-waits : goal.returns-then-size-eq0-clause-waits
returns-then-size-eq0-clause-waits g c held =
    let was = c.chunks.invariant.waits held in
    let line = c.in-Found.ensures.waits (line_held (slice_range c.chunks.bytes c.chunks.at c.chunks.end) was.1) in
    let now = held_again c.chunks.bytes c.read_size_line.new.bytes c.chunks.at c.chunks.end c.read_size_line.new.end line.2 line.1 was.1 in
    (c.in-Whole.ensures.waits (data_held c.read_size_line.new.bytes c.chunks.at c.in-Found.len c.in-Found.size _ c.read_size_line.new.end _ now c.in-Found.ensures.within (omega arith) c.in-Found.ensures.is.0 c.in-Found.ensures.is.2)).0 ∙ line.0 ∙ was.0

pub chunks-preserved : goal.chunks-preserved
chunks-preserved g c = record {
  order = omega (arith, c.chunks.invariant.order);
  before = c.in-Whole.ensures.is.0;
  within = omega (arith, c.in-Whole.ensures.within, c.copy_within.ensures.len);
  len = omega (arith, c.copy_within.ensures.len, c.chunks.invariant.len);
  limit = c.in-Whole.ensures.is.1;
  small = omega (arith, c.if-size-kept.false, c.chunks.invariant.small);
  front = front_moved _ _ _ c.read_chunk_end.new.bytes c.args.start c.chunks.kept c.chunks.at c.read_chunk_end.new.end (c.args.start + 2097152) refl
      c.chunks.invariant.order (omega (arith, c.chunks.invariant.before, c.in-Found.ensures.grows, c.in-Whole.ensures.grows)) c.in-Whole.ensures.within c.chunks.invariant.small c.chunks.invariant.limit
      (stands_again _ _ _ _ _ c.chunks.bytes c.read_size_line.new.bytes c.read_chunk_end.new.bytes c.args.start c.chunks.kept c.chunks.at c.chunks.end c.read_size_line.new.end c.read_chunk_end.new.end
      c.chunks.invariant.order c.chunks.invariant.before c.chunks.invariant.within c.in-Found.ensures.grows c.in-Found.ensures.within c.in-Found.ensures.front c.in-Found.ensures.stream
      c.in-Whole.ensures.grows c.in-Whole.ensures.within c.in-Whole.ensures.front c.in-Whole.ensures.stream c.chunks.invariant.stream)
      c.in-Found.ensures.is.1 c.in-Found.ensures.is.2.reads.0 c.in-Found.len c.in-Found.size (c.chunks.at + c.in-Found.len) refl c.in-Found.ensures.is.2.len_is c.in-Found.ensures.is.2.size_is
      (line_here c.read_size_line.new.bytes c.read_chunk_end.new.bytes c.chunks.at c.in-Found.len c.in-Found.size _ c.read_size_line.new.end _ c.in-Found.ensures.is.2 c.in-Found.ensures.is.0 (omega arith) c.in-Whole.ensures.front)
      (omega (arith, c.in-Found.ensures.is.0, c.in-Whole.ensures.grows)) (omega (arith, c.in-Found.ensures.is.0))
      (c.chunks.at + c.in-Found.len + c.in-Found.size) (c.chunks.at + c.in-Found.len + c.in-Found.size + 2) refl refl c.in-Whole.ensures.is.0 c.in-Whole.ensures.is.1 c.in-Whole.ensures.is.2 c.in-Whole.ensures.is.3
      c.copy_within.new.self c.copy_within.ensures.after
      c.args.bytes.now
      (front_kept c.args.bytes.now c.read_size_line.new.bytes c.read_chunk_end.new.bytes c.args.start c.read_size_line.new.end
      (omega (arith, c.chunks.invariant.order, c.chunks.invariant.before, c.in-Found.ensures.grows)) c.in-Whole.ensures.front
      (front_kept c.args.bytes.now c.chunks.bytes c.read_size_line.new.bytes c.args.start c.chunks.end (omega (arith, c.chunks.invariant.order, c.chunks.invariant.before)) c.in-Found.ensures.front c.chunks.invariant.front));
  faults = grind (arith, c.in-Found.ensures.stays, c.in-Whole.ensures.stays, c.chunks.invariant.faults);
  waits = λ held.
      let was = c.chunks.invariant.waits held in
      let line = c.in-Found.ensures.waits (line_held (slice_range c.chunks.bytes c.chunks.at c.chunks.end) was.1) in
      let now = held_again c.chunks.bytes c.read_size_line.new.bytes c.chunks.at c.chunks.end c.read_size_line.new.end line.2 line.1 was.1 in
      let here = c.in-Whole.ensures.waits (data_held c.read_size_line.new.bytes c.chunks.at c.in-Found.len c.in-Found.size _ c.read_size_line.new.end _ now c.in-Found.ensures.within (omega arith) c.in-Found.ensures.is.0 c.in-Found.ensures.is.2) in
      let next = c.chunks.at + c.in-Found.len + c.in-Found.size + 2 in (
        here.0 ∙ line.0 ∙ was.0,
        subst (λ k. HoldsChunks (slice_range c.copy_within.new.self next k)) (sym here.1)
            (others_held c.read_size_line.new.bytes c.chunks.at c.in-Found.len c.in-Found.size _ c.read_size_line.new.end _ now c.in-Found.ensures.within (omega arith) c.in-Found.ensures.is.0 c.in-Found.ensures.is.2
            c.copy_within.new.self
            (ap (drop next) c.copy_within.ensures.after
            ∙ back_kept c.read_chunk_end.new.bytes (c.chunks.at + c.in-Found.len) (c.chunks.at + c.in-Found.len + c.in-Found.size) (c.args.start + c.chunks.kept) next
            (omega arith) (omega (arith, c.in-Whole.ensures.is.0, c.in-Whole.ensures.within)) (omega (arith, c.chunks.invariant.order)) (omega arith)
            ∙ ap (drop next) here.2)
            (omega (arith, c.if-size-eq0.false))),
      );
  stream = stands_moved _ _ _ c.read_chunk_end.new.bytes c.args.start c.chunks.kept c.chunks.at c.read_chunk_end.new.end (c.args.start + 2097152) refl
      c.chunks.invariant.order (omega (arith, c.chunks.invariant.before, c.in-Found.ensures.grows, c.in-Whole.ensures.grows)) c.in-Whole.ensures.within c.chunks.invariant.small c.chunks.invariant.limit
      (stands_again _ _ _ _ _ c.chunks.bytes c.read_size_line.new.bytes c.read_chunk_end.new.bytes c.args.start c.chunks.kept c.chunks.at c.chunks.end c.read_size_line.new.end c.read_chunk_end.new.end
      c.chunks.invariant.order c.chunks.invariant.before c.chunks.invariant.within c.in-Found.ensures.grows c.in-Found.ensures.within c.in-Found.ensures.front c.in-Found.ensures.stream
      c.in-Whole.ensures.grows c.in-Whole.ensures.within c.in-Whole.ensures.front c.in-Whole.ensures.stream c.chunks.invariant.stream)
      c.in-Found.ensures.is.1 c.in-Found.ensures.is.2.reads.0 c.in-Found.len c.in-Found.size (c.chunks.at + c.in-Found.len) refl c.in-Found.ensures.is.2.len_is c.in-Found.ensures.is.2.size_is
      (line_here c.read_size_line.new.bytes c.read_chunk_end.new.bytes c.chunks.at c.in-Found.len c.in-Found.size _ c.read_size_line.new.end _ c.in-Found.ensures.is.2 c.in-Found.ensures.is.0 (omega arith) c.in-Whole.ensures.front)
      (omega (arith, c.in-Found.ensures.is.0, c.in-Whole.ensures.grows)) (omega (arith, c.in-Found.ensures.is.0))
      (c.chunks.at + c.in-Found.len + c.in-Found.size) (c.chunks.at + c.in-Found.len + c.in-Found.size + 2) refl refl c.in-Whole.ensures.is.0 c.in-Whole.ensures.is.1 c.in-Whole.ensures.is.2 c.in-Whole.ensures.is.3
      c.copy_within.new.self c.copy_within.ensures.after
      _ (omega arith) (omega (arith, c.if-size-eq0.false));
}
