use Rattle.std.proofs.Common.{◌≤◌, ℕ, length, sym, subst}
use Rattle.cat_graph.specs.GraphLaws.{generation_bound}
use Rattle.cat_model.specs.Chain.{Commits}
use Rattle.cat_state.specs.Changing.{with_additions}
use Rattle.cat_state.proofs.Over.{generation_none, generation_some}
use Rattle.cat_state.proofs.catalogue.Catalogue.generation_with.Goals as goal

pub returns-in-None-clause-value : goal.returns-in-None-clause-value
returns-in-None-clause-value c = sym (generation_none (with_additions c.args.self.now c.args.more.now).commits c.args.hash.now (sym c.in-None.ensures))

pub returns-in-Some-clause-value : goal.returns-in-Some-clause-value
returns-in-Some-clause-value c = sym (generation_some (with_additions c.args.self.now c.args.more.now).commits c.args.hash.now (c.in-Some.commit).now (sym c.in-Some.ensures))

pub returns-in-Some-clause-bound : goal.returns-in-Some-clause-bound
returns-in-Some-clause-bound c =
    let commits : Commits = (with_additions c.args.self.now c.args.more.now).commits in
    subst (λ (n : ℕ). n ≤ length commits) (generation_some commits c.args.hash.now (c.in-Some.commit).now (sym c.in-Some.ensures)) (generation_bound commits c.args.hash.now c.requires.linked)
