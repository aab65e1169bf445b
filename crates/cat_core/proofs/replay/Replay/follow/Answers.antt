use Rattle.std.proofs.Common.{◌≡◌, ℕ, cond, true, nat_eq, sym, ◌∙◌, subst}
use Rattle.std.specs.List.{list_any}
use Rattle.cat_core.specs.Replays.{replayed_from}
use Rattle.cat_core.proofs.Following.{followed_on, just_made, made_one, newest_logged, none_made, other_made, starts_as}
use Rattle.cat_core.proofs.replay.Replay.follow.Goals as goal

pub returns-then-not-branch-clause-adds : goal.returns-then-not-branch-clause-adds
returns-then-not-branch-clause-adds c =
    none_made (replayed_from c.args.self.now) c.args.self.now.ledger c.run.new.self.ledger c.args.payload.now c.args.entry _ c.requires.reads c.if-not-branch.true c.in_ok-run.ensures.runs

pub is_newest-requires : goal.is_newest-requires
is_newest-requires c =
    newest_logged (replayed_from c.args.self.now) c.args.self.now.ledger c.run.new.self.ledger c.args.entry c.args.payload.now c.requires.reads c.requires.may
    (made_one c.args.self.now.ledger c.run.new.self.ledger c.args.entry _ c.if-not-branch.false c.in_ok-run.ensures.runs)

pub returns-then-not-branch-2-clause-adds : goal.returns-then-not-branch-2-clause-adds
returns-then-not-branch-2-clause-adds c =
    other_made (replayed_from c.args.self.now) c.args.self.now.ledger c.run.new.self.ledger c.args.payload.now c.args.entry c.requires.reads
    (made_one c.args.self.now.ledger c.run.new.self.ledger c.args.entry _ c.if-not-branch.false c.in_ok-run.ensures.runs) (sym c.in_ok-is_newest.ensures.newest ∙ c.if-not-branch-2.true)

pub returns-clause-adds : goal.returns-clause-adds
returns-clause-adds c =
    just_made (replayed_from c.args.self.now) c.args.self.now.ledger c.run.new.self.ledger c.args.payload.now c.args.entry c.requires.reads c.requires.may
    (made_one c.args.self.now.ledger c.run.new.self.ledger c.args.entry _ c.if-not-branch.false c.in_ok-run.ensures.runs) (sym c.in_ok-is_newest.ensures.newest ∙ c.if-not-branch-2.false) (c.in_ok-is_newest.ensures.read c.if-not-branch-2.false)

pub returns-clause-followed : goal.returns-clause-followed
returns-clause-followed c = λ added.
    let made = made_one c.args.self.now.ledger c.run.new.self.ledger c.args.entry _ c.if-not-branch.false c.in_ok-run.ensures.runs in
    followed_on (replayed_from c.args.self.now) c.args.self.now.ledger c.run.new.self.ledger c.args.entry c.args.payload.now c.requires.reads c.requires.may made (sym c.in_ok-is_newest.ensures.newest ∙ c.if-not-branch-2.false)
    c.args.self.now.drafts.keys c.insert.new.self.keys c.args.self.now.taken.items c.run.new.self.taken.items c.requires.followed (c.in_ok-run.ensures.takes c.if-not-branch.false)
    (subst (λ drafts. (d : ℕ) → list_any (nat_eq d) c.insert.new.self.keys ≡ cond (nat_eq c.args.entry.draft d) true (list_any (nat_eq d) drafts.keys)) c.run.ensures.drafts c.in_ok-insert.ensures.updates.0)

-- what the log starts from
pub returns-clause-from : goal.returns-clause-from
returns-clause-from c = λ added. rw c.run.ensures.start (starts_as c.args.self.now.ledger c.run.new.self.ledger c.args.entry c.args.self.now.start (made_one c.args.self.now.ledger c.run.new.self.ledger c.args.entry _ c.if-not-branch.false c.in_ok-run.ensures.runs))
