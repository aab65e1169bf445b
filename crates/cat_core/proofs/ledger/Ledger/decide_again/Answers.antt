use Rattle.std.proofs.Common.{◌≡◌, false, rules}
use Rattle.cat_model.specs.Step.{opens_draft}
use Rattle.cat_core.proofs.Replayed.{undrafted_comes}
use Rattle.cat_core.proofs.ledger.Ledger.decide_again.Goals as goal

pub returns-in-Create : goal.returns-in-Create
returns-in-Create c =
    let opens : opens_draft c.args.command.now ≡ false = search rules in
    undrafted_comes c.args.self.now _ c.args.entry.now c.args.command.now c.decide_reference.result opens c.catalogue.ensures c.decide_reference.ensures.decides
