use Rattle.std.proofs.Common.{[], ◌∷◌, ◌++◌, Option, ap, ◌∙◌}
use Rattle.cat_model.specs.declared.reference.Reference.{Reference}
use Rattle.cat_core.proofs.Following.{made_one}
use Rattle.cat_core.proofs.Swept.{call_takes}
use Rattle.cat_core.proofs.replay.Replay.call_again.Goals as goal

pub returns-in_ok-push-clause-takes : goal.returns-in_ok-push-clause-takes
returns-in_ok-push-clause-takes c = λ ran.
    call_takes c.args.self.now.ledger c.run_again.new.ledger c.args.entry.now c.args.command.now c.args.self.now.taken.items c.push.new.self.items c.requires.call
    (made_one c.args.self.now.ledger c.run_again.new.ledger c.args.entry.now _ ran c.in_ok-ran.ensures)
    (c.in_ok-push.ensures.items ∙ ap (λ (r : Option Reference). c.args.self.now.taken.items ++ r ∷ []) (rw c.catalogue-2.ensures at c.in_ok-found.ensures))
    (rw (c.references-references.ensures.list, c.catalogue.ensures) at c.known.ensures) (rw c.catalogue.ensures at c.references-references.ensures.heads)
