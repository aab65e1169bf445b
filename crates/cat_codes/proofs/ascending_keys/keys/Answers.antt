use Rattle.std.proofs.Common.{None, sym, ◌∙◌}
use Rattle.std.proofs.lemmas.Result.{err_from_is_err_and}
use Rattle.cat_codes.proofs.Ascents.{keys_read_ascend}
use Rattle.cat_codes.proofs.Items.{keys_go_on, keys_fail, keys_order_fails, keys_done, fails_by}
use Rattle.cat_codes.proofs.ascending_keys.keys.Goals as goal

pub returns-in_err-key : goal.returns-in_err-key
returns-in_err-key g c =
    let p = err_from_is_err_and c.from_residual.result c.from_residual.ensures.1 in
    rw (p.1, p.2) (fails_by c.in_err-key.field-0.0 _ _ (λ f h. keys_fail g.K.Ord.cmp g.K.Field.code c.loop.keys c.args.count c.loop.counter c.loop.from f _ c.loop-test.true h c.loop.invariant) c.in_err-key.ensures)

pub returns-then-not-comes_next : goal.returns-then-not-comes_next
returns-then-not-comes_next g c =
    keys_order_fails g.K.Ord.cmp g.K.Field.code c.loop.keys c.args.count c.loop.counter c.loop.from c.in_ok-key.key c.read.new.from _ c.loop-test.true c.in_ok-key.ensures (rw (← c.as_slice.ensures) (sym c.comes_next.ensures ∙ c.if-not-comes_next.true)) c.loop.invariant

pub loop-preserved : goal.loop-preserved
loop-preserved g c =
    rw c.in_ok-push.ensures.ok (keys_go_on g.K.Ord.cmp g.K.Field.code c.loop.keys c.args.count c.loop.counter c.loop.from c.in_ok-key.key c.read.new.from _ c.loop-test.true c.in_ok-key.ensures (rw (← c.as_slice.ensures) (sym c.comes_next.ensures ∙ c.if-not-comes_next.false)) c.loop.invariant)

pub returns : goal.returns
returns g c = keys_done g.K.Ord.cmp g.K.Field.code c.loop.keys c.args.count c.loop.counter c.loop.from _ c.loop-test.false c.loop.invariant

pub invariant_of-result : goal.invariant_of-result
invariant_of-result g c =
    let done = keys_done g.K.Ord.cmp g.K.Field.code c.loop.keys c.args.count c.loop.counter c.loop.from _ c.loop-test.false c.loop.invariant in
    keys_read_ascend g.K.Ord.cmp g.K.Field.code None c.args.count c.args.from.now c.loop.keys c.loop.from done
