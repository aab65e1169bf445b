use Rattle.std.proofs.Common.{◌≡◌, [], ◌∷◌, ◌++◌, sym, ◌∙◌, arith, rules}
use Rattle.cat_frames.specs.Payload.{reading_is_not_empty}
use Rattle.cat_keeper.specs.MemoryKeepers.{keeper_payloads, keeper_failing, keeper_next}
use Rattle.cat_keeper.proofs.Appends.{place_for, grows}
use Rattle.cat_keeper.specs.Kinds.{entry_is_no_checkpoint}
use Rattle.cat_keeper.proofs.Failing.{not_listed}
use Rattle.cat_keeper.proofs.Kept.{end_more, first_more, kept_more}
use Rattle.cat_keeper.proofs.memory_keeper.MemKeeperKeeper.append.Goals as goal

pub push_reserved-requires : goal.push_reserved-requires
push_reserved-requires c = place_for _ _ _ _ c.requires.room (reading_is_not_empty c.args.bytes.now c.requires.reading)

pub returns-clause-any_moment : goal.returns-clause-any_moment
returns-clause-any_moment c up = grows keeper_payloads c.args.self.now _ c.args.bytes.now (search rules)

pub returns-clause-fails : goal.returns-clause-fails
returns-clause-fails c up =
    (λ err. absurd cc, λ listed. absurd (not_listed (keeper_failing c.args.self.now) (keeper_next c.args.self.now) c.saturating_add-self.result c.contains.result (search rules) (search rules) c.if-contains.false listed))

pub invariant_of-self-2 : goal.invariant_of-self-2
invariant_of-self-2 c =
    let ps = c.args.self.now.payloads.items in
    let qs = c.push_reserved.new.self.items in
    let p = c.args.bytes.now in
    let is : qs ≡ ps ++ p ∷ [] = search rules in
    let entry = entry_is_no_checkpoint p c.requires.reading in
    record { few = omega (arith, kept_more ps qs p is entry, c.requires.few); started = c.args.self.now.started ∙ sym (end_more ps qs p is entry) }

pub returns-clause-kept : goal.returns-clause-kept
returns-clause-kept c = kept_more c.args.self.now.payloads.items c.push_reserved.new.self.items c.args.bytes.now (search rules) (entry_is_no_checkpoint c.args.bytes.now c.requires.reading)

pub returns-clause-first : goal.returns-clause-first
returns-clause-first c = first_more c.args.self.now.payloads.items c.push_reserved.new.self.items c.args.bytes.now (search rules) (entry_is_no_checkpoint c.args.bytes.now c.requires.reading)
