use Rattle.std.proofs.Common.{Result, Ok, Err, OnErr, OnOk}
use Rattle.cat_http.specs.Reply.{render}
use Rattle.cat_serve.proofs.answer.refuse.Goals as goal

on_ok : {T E P Q : Type 0} (r : Result T E) → OnOk r P → (P → Q) → OnOk r Q
on_ok (Ok x) p f = f p
on_ok (Err e) p f = tt

on_err : {T E P Q : Type 0} (r : Result T E) → OnErr r P → (P → Q) → OnErr r Q
on_err (Ok x) p f = tt
on_err (Err e) p f = f p

pub returns-clause-written : goal.returns-clause-written
returns-clause-written g c = on_ok c.send.result c.send.ensures.ok (λ written. (render c.refusal_reply.result, c.refusal_reply.ensures, written))

pub returns-clause-cut : goal.returns-clause-cut
returns-clause-cut g c = on_err c.send.result c.send.ensures.front (λ front. (render c.refusal_reply.result, c.refusal_reply.ensures, front))
