use Rattle.std.proofs.Common.{◌≡◌, ◌∙◌, ◌-◌, [], arith, rules}
use Rattle.std.proofs.lemmas.List.{get_or_read}
use Rattle.cat_keeper.specs.MemoryKeepers.{keeper_failing, keeper_next}
use Rattle.cat_keeper.proofs.Failing.{not_listed}
use Rattle.cat_keeper.proofs.Kept.{base_is, start_inside}
use Rattle.cat_keeper.proofs.memory_keeper.MemKeeperKeeper.base.Goals as goal

pub index-requires : goal.index-requires
index-requires c = omega (arith, start_inside c.args.self.now.payloads.items c.args.self.now.start c.args.self.now.started c.if-self-eq0.false)

pub returns-then-self-eq0-clause-fails : goal.returns-then-self-eq0-clause-fails
returns-then-self-eq0-clause-fails c = (λ err. absurd cc, λ listed. absurd (not_listed (keeper_failing c.args.self.now) (keeper_next c.args.self.now) c.saturating_add-self.result c.contains.result (search rules) (search rules) c.if-contains.false listed))

pub returns-in-Ok-clause-value : goal.returns-in-Ok-clause-value
returns-in-Ok-clause-value c =
    let cloned : c.in-Ok.bytes ≡ c.index.result.now = search rules in
    base_is c.args.self.now.payloads.items c.args.self.now.start c.in-Ok.bytes c.args.self.now.started c.if-self-eq0.false
    (cloned ∙ get_or_read c.args.self.now.payloads.items (c.args.self.now.start - 1) c.index.result.now (start_inside c.args.self.now.payloads.items c.args.self.now.start c.args.self.now.started c.if-self-eq0.false) c.index.ensures [])

pub returns-in-Ok-clause-fails : goal.returns-in-Ok-clause-fails
returns-in-Ok-clause-fails c = (λ err. absurd cc, λ listed. absurd (not_listed (keeper_failing c.args.self.now) (keeper_next c.args.self.now) c.saturating_add-self.result c.contains.result (search rules) (search rules) c.if-contains.false listed))

pub returns-in-Err-clause-fails : goal.returns-in-Err-clause-fails
returns-in-Err-clause-fails c = (λ err. absurd cc, λ listed. absurd (not_listed (keeper_failing c.args.self.now) (keeper_next c.args.self.now) c.saturating_add-self.result c.contains.result (search rules) (search rules) c.if-contains.false listed))
