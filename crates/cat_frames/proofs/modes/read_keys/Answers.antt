use Rattle.std.proofs.Common.{sym, ◌∙◌}
use Rattle.std.proofs.lemmas.Result.{err_from_is_err_and}
use Rattle.cat_codes.proofs.Items.{pairs_go_on, pairs_key_fails, pairs_order_fails, pairs_value_fails, pairs_done, fails_by}
use Rattle.cat_names.specs.Fields.{key_cmp, key_code}
use Rattle.cat_frames.specs.Sources.{behaviour_code}
use Rattle.cat_frames.proofs.modes.read_keys.Goals as goal

pub returns-in_err-key : goal.returns-in_err-key
returns-in_err-key c =
    let p = err_from_is_err_and c.from_residual.result c.from_residual.ensures.1 in
    rw (p.1, p.2) (fails_by c.in_err-key.field-0.0 _ _ (λ f h. pairs_key_fails key_cmp key_code behaviour_code c.loop.keys c.args.count c.loop.counter c.loop.from f _ c.loop-test.true h c.loop.invariant) c.in_err-key.ensures)

pub returns-then-not-comes_next : goal.returns-then-not-comes_next
returns-then-not-comes_next c =
    pairs_order_fails key_cmp key_code behaviour_code c.loop.keys c.args.count c.loop.counter c.loop.from c.in_ok-key.key c.read.new.from _ c.loop-test.true c.in_ok-key.ensures (rw (← c.as_slice.ensures) (sym c.comes_next.ensures ∙ c.if-not-comes_next.true)) c.loop.invariant

pub returns-in_err-behaviour : goal.returns-in_err-behaviour
returns-in_err-behaviour c =
    let p = err_from_is_err_and c.from_residual-in_err-behaviour.result c.from_residual-in_err-behaviour.ensures.1 in
    rw (p.1, p.2) (fails_by c.in_err-behaviour.field-0.0 _ _ (λ f h. pairs_value_fails key_cmp key_code behaviour_code c.loop.keys c.args.count c.loop.counter c.loop.from c.in_ok-key.key c.read.new.from f _ c.loop-test.true c.in_ok-key.ensures (rw (← c.as_slice.ensures) (sym c.comes_next.ensures ∙ c.if-not-comes_next.false)) h c.loop.invariant) c.in_err-behaviour.ensures)

pub loop-preserved : goal.loop-preserved
loop-preserved c =
    rw c.in-Ok.ensures.ok (pairs_go_on key_cmp key_code behaviour_code c.loop.keys c.args.count c.loop.counter c.loop.from c.in_ok-key.key c.read.new.from c.in_ok-behaviour.behaviour c.read_behaviour.new.from _ c.loop-test.true c.in_ok-key.ensures (rw (← c.as_slice.ensures) (sym c.comes_next.ensures ∙ c.if-not-comes_next.false)) c.in_ok-behaviour.ensures c.loop.invariant)

pub returns : goal.returns
returns c = pairs_done key_cmp key_code behaviour_code c.loop.keys c.args.count c.loop.counter c.loop.from _ c.loop-test.false c.loop.invariant
