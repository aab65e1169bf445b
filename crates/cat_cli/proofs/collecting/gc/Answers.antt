use Rattle.std.proofs.Common.{◌≡◌, Option, Some, inr, refl, sym, ◌∙◌}
use Rattle.cat_policy.specs.declared.policy.Policy.{Policy}
use Rattle.cat_cli.proofs.GatheredRuns.{never_heard, never_read, never_usage}
use Rattle.cat_cli.proofs.ServedRuns.{out_of_memory}
use Rattle.cat_cli.proofs.collecting.gc.Goals as goal

same_policy : (a b : Policy) → ◌≡◌ {A = Option Policy} (Some a) (Some b) → a ≡ b
same_policy a b e = cc

pub returns-in-Ok-clause-collects : goal.returns-in-Ok-clause-collects
returns-in-Ok-clause-collects g c policy is = rw (same_policy policy c.in-Ok.policy (sym is ∙ c.in-Ok.ensures.reading)) c.collect_at.ensures.collects

pub returns-in-Ok-clause-usage : goal.returns-in-Ok-clause-usage
returns-in-Ok-clause-usage g c is = absurd (never_usage _ _ _ _ _ _ _ _ _ _ c.collect_at.result c.collect_at.ensures.collects is)

pub returns-in-Ok-clause-unread : goal.returns-in-Ok-clause-unread
returns-in-Ok-clause-unread g c = never_read _ _ _ _ _ _ _ _ _ _ c.collect_at.result c.collect_at.ensures.collects

pub returns-in-Ok-clause-unheard : goal.returns-in-Ok-clause-unheard
returns-in-Ok-clause-unheard g c = never_heard _ _ _ _ _ _ _ _ _ _ c.collect_at.result c.collect_at.ensures.collects

-- memory ran out before the policy was known
pub returns-in-Err-NoMemory-clause-collects : goal.returns-in-Err-NoMemory-clause-collects
returns-in-Err-NoMemory-clause-collects g c policy is =
    let laws = g.met.O.D.Disk g.world.𝓛 g.world.𝓜 g.world.𝓡 ((λ s x. x), (λ x. x), (λ x. x), λ x. x) in
    inr (out_of_memory g.O.D.Disk.told g.O.D.Disk.may_leave g.O.D.Disk.moment g.O.D.Disk.left_since laws.only_now (g.O.Disks.at_path c.args.disks.now c.args.path.now) _ _ _ _ c.tell_no_memory.result c.tell_no_memory.ensures.status refl refl c.tell_no_memory.ensures.told)
