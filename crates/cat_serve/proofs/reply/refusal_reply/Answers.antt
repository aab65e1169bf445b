use Rattle.std.proofs.Common.{ap, inr}
use Rattle.cat_http.specs.Reply.{render}
use Rattle.cat_serve.specs.Replies.{said_bytes}
use Rattle.cat_serve.proofs.reply.refusal_reply.Goals as goal

pub returns : goal.returns
unfolding said_bytes
returns c = inr (ap render c.no_memory.ensures)
