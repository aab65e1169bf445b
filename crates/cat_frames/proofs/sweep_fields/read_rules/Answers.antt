use Rattle.std.proofs.lemmas.Result.{err_from_is_err_and}
use Rattle.cat_codes.specs.Code.{items_at}
use Rattle.cat_codes.proofs.Items.{goes_on, ends, is_done}
use Rattle.cat_frames.specs.Sweeps.{rule_code}
use Rattle.cat_frames.proofs.sweep_fields.read_rules.Goals as goal

pub returns-in_err-rule : goal.returns-in_err-rule
returns-in_err-rule c =
    let p = err_from_is_err_and c.from_residual.result c.from_residual.ensures.1 in
    rw (p.1, p.2) (ends rule_code c.in_err-rule.field-0.0 c.loop.rules c.args.count c.loop.counter c.loop.from (items_at rule_code c.args.count c.args.from.now) c.loop-test.true c.in_err-rule.ensures c.loop.invariant)

pub loop-preserved : goal.loop-preserved
loop-preserved c =
    rw c.in_ok-push.ensures.ok (goes_on rule_code c.loop.rules c.args.count c.loop.counter c.loop.from c.in_ok-rule.rule c.read_rule.new.from (items_at rule_code c.args.count c.args.from.now) c.loop-test.true c.in_ok-rule.ensures c.loop.invariant)

pub returns : goal.returns
returns c = is_done rule_code c.loop.rules c.args.count c.loop.counter c.loop.from (items_at rule_code c.args.count c.args.from.now) c.loop-test.false c.loop.invariant
