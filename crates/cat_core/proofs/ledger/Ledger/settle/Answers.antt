use Rattle.std.proofs.Common.{subst}
use Rattle.cat_model.specs.Calls.{Called}
use Rattle.cat_decisions.specs.Builds.{command_of}
use Rattle.cat_state.specs.Kept.{Keeps}
use Rattle.cat_core.specs.Deciding.{IsDecided}
use Rattle.cat_core.specs.Making.{Runs}
use Rattle.cat_core.proofs.Decided.{is_decided}
use Rattle.cat_core.proofs.Turned.{number_is, settled, turn_of}
use Rattle.cat_core.proofs.ledger.Ledger.settle.Goals as goal

pub decide-decided-requires-clause-opened : goal.decide-decided-requires-clause-opened
decide-decided-requires-clause-opened g c = rw c.catalogue.ensures c.requires.opened

pub decide-decided-requires-clause-built : goal.decide-decided-requires-clause-built
decide-decided-requires-clause-built g c = rw c.catalogue.ensures c.requires.built

pub carry_out-requires-clause-decided : goal.carry_out-requires-clause-decided
carry_out-requires-clause-decided g c = λ κs lives.
    (command_of c.args.call, is_decided c.args.self.now _ (turn_of c.args.caller c.args.moment c.args.number c.args.opened) (command_of c.args.call) c.decide-decided.result c.requires.well_made (number_is c.args.call c.args.number c.requires.number) c.catalogue.ensures c.decide-decided.ensures.decides)

pub returns-clause-call : goal.returns-clause-call
returns-clause-call g c =
    let decided : IsDecided c.args.self.now (turn_of c.args.caller c.args.moment c.args.number c.args.opened) (command_of c.args.call) c.decide-decided.result = is_decided c.args.self.now _ (turn_of c.args.caller c.args.moment c.args.number c.args.opened) (command_of c.args.call) c.decide-decided.result c.requires.well_made (number_is c.args.call c.args.number c.requires.number) c.catalogue.ensures c.decide-decided.ensures.decides in
    subst (λ (x : Called). Runs x c.args.self.now c.carry_out.new.self c.carry_out.result) (settled c.args.self.now c.args.caller c.args.moment c.args.number c.args.opened c.args.call c.requires.opened) (c.carry_out.ensures.call (command_of c.args.call) decided)

pub returns-clause-keeps : goal.returns-clause-keeps
returns-clause-keeps g c =
    let decided : IsDecided c.args.self.now (turn_of c.args.caller c.args.moment c.args.number c.args.opened) (command_of c.args.call) c.decide-decided.result = is_decided c.args.self.now _ (turn_of c.args.caller c.args.moment c.args.number c.args.opened) (command_of c.args.call) c.decide-decided.result c.requires.well_made (number_is c.args.call c.args.number c.requires.number) c.catalogue.ensures c.decide-decided.ensures.decides in
    subst (λ (x : Called). Keeps g.K.Keeper c.args.keeper.now c.carry_out.new.keeper x.logged c.carry_out.result) (settled c.args.self.now c.args.caller c.args.moment c.args.number c.args.opened c.args.call c.requires.opened) (c.carry_out.ensures.keeps (command_of c.args.call) decided)
