-- What was read as a policy is fit for a collection.
use Rattle.std.proofs.Common.{◌≡◌, ℕ, List, Option, Some, Result, Ok, Err, IfOk, IfSome, subst}
use Rattle.serde_json.specs.Data.{Data}
use Rattle.cat_json.specs.Reading.{Gives}
use Rattle.cat_json.specs.declared.fault.JsonFault.{JsonFault}
use Rattle.cat_policy.specs.declared.policy.Policy.{Policy}
use Rattle.cat_policy.specs.Policies.{HasCounts, HasFew, policy_as, policy_of}
use Rattle.cat_policy.specs.PolicyLaws.{IsFit, json_fit, words_fit}

given : (result : Result Policy JsonFault) (reading : Option Policy) → IfSome reading IsFit → Gives result reading → IfOk result IsFit
given (Ok policy) reading fit e = subst (λ (o : Option Policy). IfSome o IsFit) e fit
given (Err fault) reading fit e = tt

few : (result : Result Policy JsonFault) → IfOk result IsFit → IfOk result HasFew
few (Ok policy) fit = fit.0
few (Err fault) fit = tt

count : (result : Result Policy JsonFault) → IfOk result IsFit → IfOk result HasCounts
count (Ok policy) fit = fit.1
count (Err fault) fit = tt

pub words_few : (default : List ℕ) (rules : List (List ℕ)) (result : Result Policy JsonFault) → Gives result (policy_of default rules) → IfOk result HasFew
words_few default rules result e = few result (given result _ (words_fit default rules) e)

pub words_count : (default : List ℕ) (rules : List (List ℕ)) (result : Result Policy JsonFault) → Gives result (policy_of default rules) → IfOk result HasCounts
words_count default rules result e = count result (given result _ (words_fit default rules) e)

pub json_few : (d : Data) (result : Result Policy JsonFault) → Gives result (policy_as d) → IfOk result HasFew
json_few d result e = few result (given result _ (json_fit d) e)

pub json_count : (d : Data) (result : Result Policy JsonFault) → Gives result (policy_as d) → IfOk result HasCounts
json_count d result e = count result (given result _ (json_fit d) e)
