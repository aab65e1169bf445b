use Rattle.std.proofs.Common.{subst}
use Rattle.cat_model.specs.Calls.{Called}
use Rattle.cat_state.specs.Kept.{Keeps}
use Rattle.cat_core.specs.Deciding.{IsDecided}
use Rattle.cat_core.specs.Making.{Runs}
use Rattle.cat_core.proofs.Decided.{is_decided}
use Rattle.cat_core.proofs.Turned.{none_opened, turn_of, undrafted}
use Rattle.cat_core.proofs.ledger.Ledger.refer.Goals as goal

pub carry_out-requires-clause-decided : goal.carry_out-requires-clause-decided
carry_out-requires-clause-decided g c = λ κs lives.
    (c.args.command.now, is_decided c.args.self.now _ (turn_of c.args.caller c.args.moment 0 c.place.result) c.args.command.now c.decide_reference-decided.result c.requires.well_made (none_opened c.args.command.now c.requires.none) c.catalogue.ensures (c.decide_reference-decided.ensures.decides _))

pub returns-clause-call : goal.returns-clause-call
returns-clause-call g c =
    let decided : IsDecided c.args.self.now (turn_of c.args.caller c.args.moment 0 c.place.result) c.args.command.now c.decide_reference-decided.result = is_decided c.args.self.now _ (turn_of c.args.caller c.args.moment 0 c.place.result) c.args.command.now c.decide_reference-decided.result c.requires.well_made (none_opened c.args.command.now c.requires.none) c.catalogue.ensures (c.decide_reference-decided.ensures.decides _) in
    subst (λ (x : Called). Runs x c.args.self.now c.carry_out.new.self c.carry_out.result) (undrafted c.args.caller c.args.moment c.place.result c.args.self.now c.args.command.now c.place.ensures c.requires.none) (c.carry_out.ensures.call c.args.command.now decided)

pub returns-clause-keeps : goal.returns-clause-keeps
returns-clause-keeps g c =
    let decided : IsDecided c.args.self.now (turn_of c.args.caller c.args.moment 0 c.place.result) c.args.command.now c.decide_reference-decided.result = is_decided c.args.self.now _ (turn_of c.args.caller c.args.moment 0 c.place.result) c.args.command.now c.decide_reference-decided.result c.requires.well_made (none_opened c.args.command.now c.requires.none) c.catalogue.ensures (c.decide_reference-decided.ensures.decides _) in
    subst (λ (x : Called). Keeps g.K.Keeper c.args.keeper.now c.carry_out.new.keeper x.logged c.carry_out.result) (undrafted c.args.caller c.args.moment c.place.result c.args.self.now c.args.command.now c.place.ensures c.requires.none) (c.carry_out.ensures.keeps c.args.command.now decided)
