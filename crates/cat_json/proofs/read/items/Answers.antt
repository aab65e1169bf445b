use Rattle.std.proofs.lemmas.Result.{err_from_is_err_and}
use Rattle.std.proofs.Common.{arith}
use Rattle.cat_json.proofs.Items.{none_read, one_read, ends, all_read}
use Rattle.cat_json.proofs.read.items.Goals as goal

pub loop-value-init : goal.loop-value-init
loop-value-init g c = rw c.new-items.ensures (none_read g.F.ReadForm.reads c.args.values.now)

pub loop-value-preserved : goal.loop-value-preserved
loop-value-preserved g c =
    rw c.in_ok-push.ensures.ok (one_read g.F.ReadForm.reads c.args.values.now c.loop-value.value-index c.value-item.result c.loop-value.items c.in_ok-item.item c.loop-value-test.true c.value-item.is c.in_ok-item.ensures c.loop-value.invariant)

pub returns-in_err-item : goal.returns-in_err-item
returns-in_err-item g c =
    let p = err_from_is_err_and c.from_residual.result c.from_residual.ensures.1 in
    rw (p.1, p.2) (ends g.F.ReadForm.reads c.in_err-item.field-0.0 c.args.values.now c.loop-value.value-index c.value-item.result c.loop-value.items c.loop-value-test.true c.value-item.is c.in_err-item.ensures c.loop-value.invariant)

pub returns : goal.returns
returns g c = all_read g.F.ReadForm.reads c.args.values.now c.loop-value.value-index c.loop-value.items (omega (arith, c.loop-value-test.false)) c.loop-value.invariant
