use Rattle.cat_core.proofs.ledger.Ledger.decide_drafted.Goals as goal

pub build-requires-clause-given : goal.build-requires-clause-given
build-requires-clause-given c = (c.args.entry.now.draft, c.in_ok-call.ensures.1)
