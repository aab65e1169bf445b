use Rattle.std.proofs.Common.{List, sym, subst}
use Rattle.std.proofs.lemmas.List.Elements.{All-push}
use Rattle.cat_model.specs.Chain.{Commits, entries}
use Rattle.cat_model.specs.Maps.{Map}
use Rattle.cat_keymap.specs.Among.{Covers}
use Rattle.cat_merge.specs.declared.transplant.Step.{Step}
use Rattle.cat_merge.specs.Planned.{AreTouched}
use Rattle.cat_decisions.proofs.transplant.add_step.Goals as goal

pub returns-in_ok-push-clause-touched : goal.returns-in_ok-push-clause-touched
returns-in_ok-push-clause-touched c are =
    let state = c.args.catalogue.now in
    let keys = c.in_ok-touched.touched in
    let parent = (c.in-Some.commit.now).parent in
    let hash = c.args.hash.now in
    let covers : Covers keys (entries state.commits parent) (entries state.commits hash) = subst (λ (commits : Commits). Covers keys (entries commits parent) (entries commits hash)) c.commits.ensures.list c.in_ok-touched.ensures.covers in
    let from : Covers keys c.in_ok-map_at.field-0 (entries state.commits hash) = subst (λ (m : Map). Covers keys m (entries state.commits hash)) (sym c.in_ok-map_at.ensures) covers in
    let here : Covers keys c.in_ok-map_at.field-0 c.in_ok-map_at-2.field-0 = subst (λ (m : Map). Covers keys c.in_ok-map_at.field-0 m) (sym c.in_ok-map_at-2.ensures) from in
    subst (λ (steps : List Step). AreTouched steps) (sym c.in_ok-push.ensures.items) (All-push (λ (s : Step). Covers s.touched s.base s.source) c.args.out.now.items _ are here)
