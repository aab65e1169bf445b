use Rattle.std.proofs.Common.{sym, ◌∙◌}
use Rattle.std.proofs.lemmas.Result.{err_from_is_err_and}
use Rattle.cat_codes.proofs.Items.{keys_go_on, keys_fail, keys_order_fails, keys_done, fails_by}
use Rattle.cat_frames.specs.Checkpoints.{name_cmp, named_code}
use Rattle.cat_frames.proofs.checkpoint_fields.references_above.Goals as goal

pub returns-in_err-reference : goal.returns-in_err-reference
returns-in_err-reference c =
    let p = err_from_is_err_and c.from_residual.result c.from_residual.ensures.1 in
    rw (p.1, p.2) (fails_by c.in_err-reference.field-0.0 _ _ (λ f h. keys_fail name_cmp named_code c.loop.references c.args.count c.loop.counter c.loop.from f _ c.loop-test.true h c.loop.invariant) c.in_err-reference.ensures)

pub returns-then-not-name_is_next : goal.returns-then-not-name_is_next
returns-then-not-name_is_next c =
    keys_order_fails name_cmp named_code c.loop.references c.args.count c.loop.counter c.loop.from c.in_ok-reference.reference c.read_named.new.from _ c.loop-test.true c.in_ok-reference.ensures (rw (← c.as_slice.ensures) (sym c.name_is_next.ensures ∙ c.if-not-name_is_next.true)) c.loop.invariant

pub loop-preserved : goal.loop-preserved
loop-preserved c =
    rw c.in_ok-push.ensures.ok (keys_go_on name_cmp named_code c.loop.references c.args.count c.loop.counter c.loop.from c.in_ok-reference.reference c.read_named.new.from _ c.loop-test.true c.in_ok-reference.ensures (rw (← c.as_slice.ensures) (sym c.name_is_next.ensures ∙ c.if-not-name_is_next.false)) c.loop.invariant)

pub returns : goal.returns
returns c = keys_done name_cmp named_code c.loop.references c.args.count c.loop.counter c.loop.from _ c.loop-test.false c.loop.invariant
