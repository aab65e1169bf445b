use Rattle.cat_graph.specs.GraphLaws.{linked_more}
use Rattle.cat_graph.proofs.Walks.{nothing_there}
use Rattle.cat_graph.proofs.graph.Graph.add.Goals as goal

pub with-requires : goal.with-requires
with-requires c =
    let absent = nothing_there c.get.result _ c.get.ensures c.in_default.is in
    rw (c.push.ensures.list, c.in_ok-reserve.ensures.list, c.new-more.ensures) (linked_more c.args.self.now c.args.hash c.args.commit c.known.ensures absent c.requires.next)
