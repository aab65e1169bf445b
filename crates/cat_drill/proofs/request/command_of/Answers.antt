use Rattle.std.proofs.Common.{◌≡◌, ◌∙◌, IsTrue, ap}
use Rattle.std.proofs.lemmas.Result.{IfOk-weaker}
use Rattle.sha2.specs.Sha256.{sha256}
use Rattle.cat_model.specs.WellMade.{is_well_made}
use Rattle.cat_drill.specs.Steps.{command_of, commit_of, operation, drawn_key}
use Rattle.cat_drill.proofs.WellMade.{well_made}
use Rattle.cat_drill.proofs.request.command_of.Goals as goal

pub returns-clause-made : goal.returns-clause-made
unfolding command_of
returns-clause-made c =
    let asks : (c.in_ok-op.op, c.in_ok-op.contents) ≡ operation c.args.step c.args.drawn (drawn_key c.args.drawn) c.args.found =
    c.in_ok-op.ensures ∙ ap (λ key. operation c.args.step c.args.drawn key c.args.found) c.requires.key in
    IfOk-weaker _ _ (λ command. IsTrue (is_well_made sha256 command)) (λ x e. ap (is_well_made sha256) (e ∙ ap (commit_of c.args.step) asks) ∙ well_made c.args.step c.args.drawn c.args.found) c.commit.ensures.command
