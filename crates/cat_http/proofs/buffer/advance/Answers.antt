use Rattle.std.proofs.Common.{arith}
use Rattle.cat_http.proofs.WindowLemmas.{stayed, moved_down}
use Rattle.cat_http.proofs.buffer.advance.Goals as goal

pub returns-then-base-start-le-SLACK-clause-front : goal.returns-then-base-start-le-SLACK-clause-front
returns-then-base-start-le-SLACK-clause-front c = stayed c.args.bytes.now.items c.args.base c.args.start c.args.end

pub returns-clause-front : goal.returns-clause-front
returns-clause-front c =
    let bytes = c.args.bytes.now in
    moved_down bytes.items c.as_mut_slice.result.now c.copy_within.new.self c.args.base c.args.start c.args.end bytes.len c.requires.order c.requires.within
    (omega arith) c.as_mut_slice.ensures.value c.copy_within.ensures.after c.copy_within.ensures.len
