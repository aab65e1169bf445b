use Rattle.cat_policy.proofs.AllOf.{IsReadSo, lent}
use Rattle.cat_policy.specs.Policies.{rule_of}
use Rattle.cat_policy.proofs.policy.rules_in.Given as goal

abbrev pub invariant-loop-text : goal.invariant-loop-text
invariant-loop-text l = IsReadSo lent rule_of l.texts l.text-index l.rules
