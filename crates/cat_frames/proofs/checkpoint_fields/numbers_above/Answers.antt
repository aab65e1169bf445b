use Rattle.std.proofs.Common.{sym, ◌∙◌}
use Rattle.std.specs.Ordering.{nat_cmp}
use Rattle.std.proofs.lemmas.Result.{err_from_is_err_and}
use Rattle.cat_codes.specs.Code.{u64_code}
use Rattle.cat_codes.proofs.Items.{keys_go_on, keys_fail, keys_order_fails, keys_done, fails_by}
use Rattle.cat_frames.proofs.checkpoint_fields.numbers_above.Goals as goal

pub returns-in_err-number : goal.returns-in_err-number
returns-in_err-number c =
    let p = err_from_is_err_and c.from_residual.result c.from_residual.ensures.1 in
    rw (p.1, p.2) (fails_by c.in_err-number.field-0.0 _ _ (λ f h. keys_fail nat_cmp u64_code c.loop.numbers c.args.count c.loop.counter c.loop.from f _ c.loop-test.true h c.loop.invariant) c.in_err-number.ensures.read)

pub returns-then-not-number_is_next : goal.returns-then-not-number_is_next
returns-then-not-number_is_next c =
    keys_order_fails nat_cmp u64_code c.loop.numbers c.args.count c.loop.counter c.loop.from c.in_ok-number.number c.u64.new.self _ c.loop-test.true c.in_ok-number.ensures.read (rw (← c.as_slice.ensures) (sym c.number_is_next.ensures ∙ c.if-not-number_is_next.true)) c.loop.invariant

pub loop-preserved : goal.loop-preserved
loop-preserved c =
    rw c.in_ok-push.ensures.ok (keys_go_on nat_cmp u64_code c.loop.numbers c.args.count c.loop.counter c.loop.from c.in_ok-number.number c.u64.new.self _ c.loop-test.true c.in_ok-number.ensures.read (rw (← c.as_slice.ensures) (sym c.number_is_next.ensures ∙ c.if-not-number_is_next.false)) c.loop.invariant)

pub returns : goal.returns
returns c = keys_done nat_cmp u64_code c.loop.numbers c.args.count c.loop.counter c.loop.from _ c.loop-test.false c.loop.invariant
