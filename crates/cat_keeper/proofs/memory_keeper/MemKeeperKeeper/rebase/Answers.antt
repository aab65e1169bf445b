use Rattle.std.proofs.Common.{◌≡◌, [], ◌∷◌, ◌++◌, ◌∙◌, arith, rules}
use Rattle.cat_keeper.specs.Kinds.{checkpoint_is_not_empty, whole_is_checkpoint}
use Rattle.cat_keeper.specs.MemoryKeepers.{keeper_payloads, keeper_failing, keeper_next}
use Rattle.cat_keeper.proofs.Appends.{place_for, grows}
use Rattle.cat_keeper.proofs.Failing.{not_listed}
use Rattle.cat_keeper.proofs.Kept.{end_base, first_base, kept_none}
use Rattle.cat_keeper.proofs.memory_keeper.MemKeeperKeeper.rebase.Goals as goal

pub push_reserved-requires : goal.push_reserved-requires
push_reserved-requires c = place_for _ _ _ _ c.requires.room (checkpoint_is_not_empty c.args.bytes.now (whole_is_checkpoint c.args.bytes.now c.requires.reading))

pub returns-clause-any_moment : goal.returns-clause-any_moment
returns-clause-any_moment c up = grows keeper_payloads c.args.self.now _ c.args.bytes.now (search rules)

pub returns-clause-fails : goal.returns-clause-fails
returns-clause-fails c up =
    (λ err. absurd cc, λ listed. absurd (not_listed (keeper_failing c.args.self.now) (keeper_next c.args.self.now) c.saturating_add-self.result c.contains.result (search rules) (search rules) c.if-contains.false listed))

pub invariant_of-self-2 : goal.invariant_of-self-2
invariant_of-self-2 c =
    let ps = c.args.self.now.payloads.items in
    let qs = c.push_reserved.new.self.items in
    let p = c.args.bytes.now in
    let is : qs ≡ ps ++ p ∷ [] = search rules in
    let base = whole_is_checkpoint p c.requires.reading in
    record { few = omega (arith, kept_none ps qs p is base); started = omega (arith, c.len-self.ensures, end_base ps qs p is base) }

pub returns-clause-kept : goal.returns-clause-kept
returns-clause-kept c = kept_none c.args.self.now.payloads.items c.push_reserved.new.self.items c.args.bytes.now (search rules) (whole_is_checkpoint c.args.bytes.now c.requires.reading)

pub returns-clause-first : goal.returns-clause-first
returns-clause-first c = first_base c.args.self.now.payloads.items c.push_reserved.new.self.items c.args.bytes.now (search rules) (whole_is_checkpoint c.args.bytes.now c.requires.reading) ∙ c.requires.place
