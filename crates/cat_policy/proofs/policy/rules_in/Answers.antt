use Rattle.std.proofs.Common.{arith, ℕ, List, [], get_or}
use Rattle.std.proofs.lemmas.Result.{err_from_is_err_and}
use Rattle.std.proofs.lemmas.List.{get_or_default}
use Rattle.std.specs.Borrow.{Bor}
use Rattle.cat_policy.specs.Policies.{rule_of}
use Rattle.cat_policy.proofs.AllOf.{all_read, ends, lent, none_read, one_read}
use Rattle.cat_policy.proofs.policy.rules_in.Goals as goal

abbrev nothing : Bor (List ℕ)
nothing = record { ref_ptr = (0, 0); now = [] }

pub loop-text-init : goal.loop-text-init
loop-text-init c = rw c.new-rules.ensures (none_read lent rule_of c.args.texts.now)

pub loop-text-preserved : goal.loop-text-preserved
loop-text-preserved c =
    let at = c.loop-text in
    let text = get_or c.args.texts.now at.text-index nothing in
    rw c.in_ok-push.ensures.ok (one_read lent rule_of c.args.texts.now at.text-index text at.rules c.in_ok-rule.rule c.loop-text-test.true (get_or_default c.args.texts.now at.text-index nothing text c.loop-text-test.true) c.in_ok-rule.ensures at.invariant)

pub returns-in_err-rule : goal.returns-in_err-rule
returns-in_err-rule c =
    let at = c.loop-text in
    let text = get_or c.args.texts.now at.text-index nothing in
    let p = err_from_is_err_and c.from_residual.result c.from_residual.ensures.1 in
    rw (p.1, p.2) (ends lent rule_of c.in_err-rule.field-0.0 c.args.texts.now at.text-index text at.rules c.loop-text-test.true (get_or_default c.args.texts.now at.text-index nothing text c.loop-text-test.true) c.in_err-rule.ensures at.invariant)

pub returns : goal.returns
returns c = all_read lent rule_of c.args.texts.now c.loop-text.text-index c.loop-text.rules (omega (arith, c.loop-text-test.false)) c.loop-text.invariant
