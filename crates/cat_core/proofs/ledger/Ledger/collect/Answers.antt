use Rattle.std.proofs.Common.{◌+◌, length, sym, ap, ◌∙◌}
use Rattle.cat_model.specs.declared.sweep.Sweep.{Sweep}
use Rattle.cat_model.specs.Sweeps.{needs_sweep_room}
use Rattle.cat_core.specs.Sweeps.{sweep_in}
use Rattle.cat_core.proofs.Unswept.{refused_runs, spared_runs}
use Rattle.cat_core.proofs.ledger.Ledger.collect.Goals as goal

pub returns-in-Err-clause-call : goal.returns-in-Err-clause-call
returns-in-Err-clause-call g c = spared_runs c.args.closing.ticket.caller c.args.moment c.args.self.now (sweep_in c.args.closing)

pub returns-in-Err-needs_sweep_room-clause-call : goal.returns-in-Err-needs_sweep_room-clause-call
returns-in-Err-needs_sweep_room-clause-call g c =
    refused_runs c.args.closing.ticket.caller c.args.moment c.args.self.now (sweep_in c.args.closing) c.in-Err-needs_sweep_room.why
    (ap (λ (s : Sweep). needs_sweep_room c.args.self.now.state (length s.commits + length s.contents)) (sym c.in-Ok.ensures) ∙ sym c.needs_sweep_room.ensures.test ∙ c.in-Err-needs_sweep_room.is)

pub returns-in-Err-unmarked-clause-call : goal.returns-in-Err-unmarked-clause-call
returns-in-Err-unmarked-clause-call g c = spared_runs c.args.closing.ticket.caller c.args.moment c.args.self.now (sweep_in c.args.closing)
