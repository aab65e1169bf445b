use Rattle.std.proofs.Common.{inl, inr, rules}
use Rattle.cat_work.proofs.Spent.{spent}
use Rattle.cat_work.proofs.finish.settle_or_drop.Goals as goal

pub returns-in-Refused-clause-settles : goal.returns-in-Refused-clause-settles
returns-in-Refused-clause-settles g c = inl (c.in-Refused.ensures.settles, c.in-Refused.ensures.gone)

pub returns-in-Moved-clause-settles : goal.returns-in-Moved-clause-settles
returns-in-Moved-clause-settles g c = inr (
    spent c.args.store.now c.settle.new.self c.drop_draft.new.self c.args.draft c.in-Moved.draft c.args.built c.in-Moved.view c.args.pairs.items c.place-place.result c.head_in-head.result c.retries_spent.result
    c.in-Moved.ensures.settles (search rules) (search rules) (search rules) c.retries_spent.ensures)
