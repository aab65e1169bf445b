use Rattle.std.proofs.Common.{refl, ap, ◌∙◌, sym, subst, take}
use Rattle.cat_http.specs.Next.{HoldsRequest}
use Rattle.cat_http.proofs.NextLemmas.{head_held, answer_cut_head, outcome_behind}
use Rattle.cat_http.proofs.next.read_next.Goals as goal

pub returns-in-Found-clause-is : goal.returns-in-Found-clause-is
returns-in-Found-clause-is g c =
    outcome_behind _ _ _ _ (take c.args.end.now c.args.bytes.now) (take c.read_head.new.end c.read_head.new.bytes) _ _ _ c.in-Found.ensures.stream c.read_body.ensures.is

pub returns-in-Found-clause-waits : goal.returns-in-Found-clause-waits
returns-in-Found-clause-waits g c held =
    let head = c.in-Found.ensures.waits (head_held (take c.args.end.now c.args.bytes.now) held) in
    let same = ap (λ n. take n c.read_head.new.bytes) head.1 ∙ ap (take c.args.end.now) head.2 in
    c.read_body.ensures.waits (subst HoldsRequest (sym same) held) ∙ head.0

pub returns-in-Fault-clause-is : goal.returns-in-Fault-clause-is
returns-in-Fault-clause-is g c =
    answer_cut_head _ _ (take c.args.end.now c.args.bytes.now) c.read_head.new.bytes c.read_head.new.headers c.read_head.new.end c.in-Fault.ensures.stream (c.in-Fault.ensures.cut refl)

pub returns-in-Found-clause-still : goal.returns-in-Found-clause-still
returns-in-Found-clause-still g c is held =
    let head = c.in-Found.ensures.waits (head_held (take c.args.end.now c.args.bytes.now) held) in
    let body = c.read_body.ensures.still is in
    ap (λ n. take n c.read_body.new.bytes) body.0 ∙ ap (take c.read_head.new.end) body.1 ∙ ap (λ n. take n c.read_head.new.bytes) head.1 ∙ ap (take c.args.end.now) head.2
