use Rattle.std.proofs.Common.{◌++◌, sym, subst}
use Rattle.cat_model.specs.Chain.{Commits}
use Rattle.cat_graph.specs.Linked.{AreLinked}
use Rattle.cat_graph.proofs.Walks.{linked_distinct}
use Rattle.cat_graph.proofs.graph.Graph.into_with.Goals as goal

pub into_with-requires : goal.into_with-requires
into_with-requires c =
    linked_distinct _ (subst (λ (own : Commits). AreLinked (c.args.more.list ++ own)) (sym c.self.view_is) c.requires)
