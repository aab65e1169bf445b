use Rattle.std.proofs.Common.{List, ◌++◌, ◌∙◌, sym, subst}
use Rattle.cat_names.specs.Fields.{Key}
use Rattle.cat_model.specs.Chain.{entries}
use Rattle.cat_graph.specs.Touched.{Covers, keys_named}
use Rattle.cat_graph.proofs.TouchedKeys.{covers_step}
use Rattle.cat_graph.proofs.graph.Graph.touched_at.Goals as goal

pub returns-clause-exact : goal.returns-clause-exact
returns-clause-exact c = c.in_ok-add_keys.ensures ∙ (λ i. c.new-keys.ensures i ++ keys_named (c.as_slice.ensures i))

pub returns-clause-covers : goal.returns-clause-covers
returns-clause-covers c =
    let commits = c.args.self.now in
    let commit = c.args.commit.now in
    subst (λ (keys : List Key). Covers keys (entries commits commit.parent) (entries commits c.args.hash.now)) (sym (returns-clause-exact c))
    (covers_step commits c.args.hash.now commit c.known.ensures c.requires)
