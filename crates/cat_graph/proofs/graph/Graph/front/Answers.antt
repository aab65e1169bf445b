use Rattle.cat_graph.specs.Fronts.{reached}
use Rattle.cat_graph.proofs.Meeting.{put_alone}
use Rattle.cat_graph.proofs.graph.Graph.front.Goals as goal

pub returns : goal.returns
returns c = put_alone (reached c.args.self.now c.args.hash.now) _ _ _ c.reached.ensures c.new-front.ensures c.in_ok-put.ensures
