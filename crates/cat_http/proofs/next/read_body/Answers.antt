use Rattle.std.proofs.Common.{arith, refl}
use Rattle.cat_http.proofs.NextLemmas.{counted_held, chunked_held, answer_malformed, answer_large, answer_request, answer_short, answer_whole, answer_bad_chunks, answer_large_chunks, answer_cut, answer_cut_chunks, len_within, front_short}
use Rattle.cat_http.proofs.next.read_body.Goals as goal

pub returns-in-Malformed-clause-is : goal.returns-in-Malformed-clause-is
returns-in-Malformed-clause-is g c = answer_malformed c.args.bytes.now c.args.end.now c.args.headers.now c.args.head c.requires.found (omega arith) c.requires.found_within _ c.in-Malformed.ensures.value _ refl

pub returns-in-Excess-clause-is : goal.returns-in-Excess-clause-is
returns-in-Excess-clause-is g c = answer_large c.args.bytes.now c.args.end.now c.args.headers.now c.args.head c.requires.found (omega arith) c.requires.found_within _ c.in-Excess.ensures.value _ refl

pub returns-in-More-clause-is : goal.returns-in-More-clause-is
returns-in-More-clause-is g c =
    answer_request c.args.bytes.now c.args.end.now c.args.headers.now c.args.head c.requires.found (omega arith) c.requires.found_within _ c.in-Bytes.ensures.value c.read_until.new.bytes c.read_until.new.end c.requires.filled (front_short c.args.bytes.now c.read_until.new.bytes c.args.head.len c.args.end.now (len_within c.args.bytes.now c.args.end.now c.args.headers.now c.args.head c.requires.found_within) c.in-More.ensures.front)
    c.in-More.ensures.grows c.in-More.ensures.within c.in-Bytes.count refl _ _ c.in-More.ensures.stream (c.in-More.ensures.more refl)

pub returns-in-End-clause-is : goal.returns-in-End-clause-is
returns-in-End-clause-is g c =
    answer_short c.args.bytes.now c.args.end.now c.args.headers.now c.args.head c.requires.found (omega arith) c.requires.found_within _ c.in-Bytes.ensures.value c.read_until.new.bytes c.read_until.new.end c.requires.filled (front_short c.args.bytes.now c.read_until.new.bytes c.args.head.len c.args.end.now (len_within c.args.bytes.now c.args.end.now c.args.headers.now c.args.head c.requires.found_within) c.in-End.ensures.front)
    c.in-End.ensures.grows c.in-End.ensures.within c.in-Bytes.count refl _ _ c.in-End.ensures.stream (c.in-End.ensures.ends refl).0 (c.in-End.ensures.ends refl).1

pub returns-in-Fault-read_until-clause-is : goal.returns-in-Fault-read_until-clause-is
returns-in-Fault-read_until-clause-is g c =
    answer_cut c.args.bytes.now c.args.end.now c.args.headers.now c.args.head c.requires.found (omega arith) c.requires.found_within _ c.in-Bytes.ensures.value c.read_until.new.bytes c.read_until.new.end c.requires.filled (front_short c.args.bytes.now c.read_until.new.bytes c.args.head.len c.args.end.now (len_within c.args.bytes.now c.args.end.now c.args.headers.now c.args.head c.requires.found_within) c.in-Fault-read_until.ensures.front)
    c.in-Fault-read_until.ensures.grows c.in-Fault-read_until.ensures.within c.in-Bytes.count refl _ _ c.in-Fault-read_until.ensures.stream (c.in-Fault-read_until.ensures.cut refl)

pub returns-in-Whole-clause-is : goal.returns-in-Whole-clause-is
returns-in-Whole-clause-is g c =
    answer_whole c.args.bytes.now c.args.end.now c.args.headers.now c.args.head c.requires.found (omega arith) c.requires.found_within _ c.in-Chunked.ensures.value c.read_chunks.new.bytes c.read_chunks.new.end c.requires.filled c.in-Whole.ensures.front refl _ _ c.in-Whole.kept c.in-Whole.at c.in-Whole.ensures.answer

pub returns-in-Malformed-read_chunks-clause-is : goal.returns-in-Malformed-read_chunks-clause-is
returns-in-Malformed-read_chunks-clause-is g c =
    answer_bad_chunks c.args.bytes.now c.args.end.now c.args.headers.now c.args.head c.requires.found (omega arith) c.requires.found_within _ c.in-Chunked.ensures.value c.read_chunks.new.bytes c.read_chunks.new.end c.requires.filled c.in-Malformed-read_chunks.ensures.front refl _ _ c.in-Malformed-read_chunks.ensures.answer

pub returns-in-TooLarge-clause-is : goal.returns-in-TooLarge-clause-is
returns-in-TooLarge-clause-is g c =
    answer_large_chunks c.args.bytes.now c.args.end.now c.args.headers.now c.args.head c.requires.found (omega arith) c.requires.found_within _ c.in-Chunked.ensures.value c.read_chunks.new.bytes c.read_chunks.new.end c.requires.filled c.in-TooLarge.ensures.front refl _ _ c.in-TooLarge.ensures.answer

pub returns-in-Fault-clause-is : goal.returns-in-Fault-clause-is
returns-in-Fault-clause-is g c =
    answer_cut_chunks c.args.bytes.now c.args.end.now c.args.headers.now c.args.head c.requires.found (omega arith) c.requires.found_within _ c.in-Chunked.ensures.value c.read_chunks.new.bytes c.read_chunks.new.end c.requires.filled c.in-Fault.ensures.front refl _ _ c.in-Fault.ensures.answer

pub returns-in-More-clause-waits : goal.returns-in-More-clause-waits
returns-in-More-clause-waits g c held =
    (c.in-More.ensures.waits (counted_held c.args.bytes.now c.args.end.now c.args.headers.now c.args.head c.requires.found (omega arith) c.requires.found_within _ c.in-Bytes.ensures.value c.in-Bytes.count refl c.requires.filled held)).0

pub returns-in-End-clause-waits : goal.returns-in-End-clause-waits
returns-in-End-clause-waits g c held =
    (c.in-End.ensures.waits (counted_held c.args.bytes.now c.args.end.now c.args.headers.now c.args.head c.requires.found (omega arith) c.requires.found_within _ c.in-Bytes.ensures.value c.in-Bytes.count refl c.requires.filled held)).0

pub returns-in-Fault-read_until-clause-waits : goal.returns-in-Fault-read_until-clause-waits
returns-in-Fault-read_until-clause-waits g c held =
    (c.in-Fault-read_until.ensures.waits (counted_held c.args.bytes.now c.args.end.now c.args.headers.now c.args.head c.requires.found (omega arith) c.requires.found_within _ c.in-Bytes.ensures.value c.in-Bytes.count refl c.requires.filled held)).0

pub returns-in-Whole-clause-waits : goal.returns-in-Whole-clause-waits
returns-in-Whole-clause-waits g c held =
    c.in-Whole.ensures.waits (chunked_held c.args.bytes.now c.args.end.now c.args.headers.now c.args.head c.requires.found (omega arith) c.requires.found_within _ c.in-Chunked.ensures.value refl held)

pub returns-in-Malformed-read_chunks-clause-waits : goal.returns-in-Malformed-read_chunks-clause-waits
returns-in-Malformed-read_chunks-clause-waits g c held =
    c.in-Malformed-read_chunks.ensures.waits (chunked_held c.args.bytes.now c.args.end.now c.args.headers.now c.args.head c.requires.found (omega arith) c.requires.found_within _ c.in-Chunked.ensures.value refl held)

pub returns-in-TooLarge-clause-waits : goal.returns-in-TooLarge-clause-waits
returns-in-TooLarge-clause-waits g c held =
    c.in-TooLarge.ensures.waits (chunked_held c.args.bytes.now c.args.end.now c.args.headers.now c.args.head c.requires.found (omega arith) c.requires.found_within _ c.in-Chunked.ensures.value refl held)

pub returns-in-Fault-clause-waits : goal.returns-in-Fault-clause-waits
returns-in-Fault-clause-waits g c held =
    c.in-Fault.ensures.waits (chunked_held c.args.bytes.now c.args.end.now c.args.headers.now c.args.head c.requires.found (omega arith) c.requires.found_within _ c.in-Chunked.ensures.value refl held)
