use Rattle.std.proofs.Common.{◌≡◌, ◌∙◌, Ok, get_or, rules}
use Rattle.std.proofs.lemmas.Bool.{or_left}
use Rattle.cat_model.specs.Cutoffs.{live_from}
use Rattle.cat_mark.specs.Marks.{is_marked}
use Rattle.cat_mark.proofs.Before.{walked_on}
use Rattle.cat_mark.proofs.Marking.{goes_on, on_err, stops}
use Rattle.cat_mark.proofs.Shares.{adds_set, adds_some, chunk_next, of_share}
use Rattle.cat_mark.proofs.hashes.Hashes.add_sets.Goals as goal

pub returns-in_err-add_set-in-Ok-clause-err : goal.returns-in_err-add_set-in-Ok-clause-err
returns-in_err-add_set-in-Ok-clause-err c =
    let k = c.loop-set.set-index in
    let found : get_or c.args.sets.now k c.set-item.result ≡ Ok c.in-Ok.set = search rules in
    let has = of_share c.args.graph.now c.args.heads.now c.args.size c.args.sets.now k c.set-item.result c.in-Ok.set c.requires.shares c.loop-set-test.true found in
    let added = adds_some c.loop-set.self c.add_set.new.self c.in-Ok.set _ has c.in_err-add_set-in-Ok.ensures.err in
    on_err c.from_residual.result (stops _ _ _ _ _ _ _ c.loop-set.invariant.marked added (chunk_next (λ x. live_from c.args.graph.now x.1 x.0) c.args.size c.args.heads.now k))

pub loop-set-preserved : goal.loop-set-preserved
loop-set-preserved c =
    let k = c.loop-set.set-index in
    let found : get_or c.args.sets.now k c.set-item.result ≡ Ok c.in-Ok.set = search rules in
    let has = of_share c.args.graph.now c.args.heads.now c.args.size c.args.sets.now k c.set-item.result c.in-Ok.set c.requires.shares c.loop-set-test.true found in
    let added = adds_set c.loop-set.self c.add_set.new.self c.in-Ok.set _ has c.in_ok-add_set-in-Ok.ensures.ok in
    record {
      marked = goes_on _ _ _ _ _ _ _ c.loop-set.invariant.marked added (chunk_next (λ x. live_from c.args.graph.now x.1 x.0) c.args.size c.args.heads.now k);
      walked = walked_on c.args.graph.now c.loop-set.self c.add_set.new.self c.loop-set.walked (λ x e. added x ∙ or_left (is_marked c.loop-set.self x) _ e) c.loop-set.invariant.walked;
    }
