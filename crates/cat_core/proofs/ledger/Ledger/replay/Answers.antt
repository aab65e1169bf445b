use Rattle.std.proofs.lemmas.Result.{err_from_is_err_and}
use Rattle.sha2.specs.Sha256.{sha256}
use Rattle.cat_model.specs.Step.{opening}
use Rattle.cat_core.specs.Remaking.{own_step}
use Rattle.cat_core.proofs.Replayed.{decided_at, decided_past, replay_done, replay_fails}
use Rattle.cat_core.proofs.ledger.Ledger.replay.Goals as goal

pub redo-requires : goal.redo-requires
redo-requires c = (c.args.command.now, decided_at c.args.self.now c.args.entry.now c.args.command.now c.in_ok-decision.decision c.place.result c.place.ensures c.in_ok-decision.ensures)

pub returns : goal.returns
returns c =
    let entry = c.args.entry.now in
    let command = c.args.command.now in
    let past = decided_past entry.draft c.args.self.now.state command (opening sha256 c.args.self.now.state command) (own_step c.args.self.now entry command) c.in_ok-decision.decision c.in_ok-decision.ensures in
    let done = c.in_ok-told.ensures command (decided_at c.args.self.now entry command c.in_ok-decision.decision c.place.result c.place.ensures c.in_ok-decision.ensures) in
    record { call = replay_done c.args.self.now c.redo.new.self entry command c.in_ok-told.told c.place.result c.place.ensures c.requires.call past.0 done }

pub returns-in_err-decision : goal.returns-in_err-decision
returns-in_err-decision c =
    let p = err_from_is_err_and c.from_residual.result c.from_residual.ensures.1 in
    rw (p.1, p.2) record { call = replay_fails c.args.self.now c.args.self.now c.args.entry.now c.args.command.now c.in_err-decision.field-0.0 c.requires.call c.in_err-decision.ensures }
