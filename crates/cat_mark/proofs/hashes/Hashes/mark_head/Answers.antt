use Rattle.cat_graph.proofs.Walks.{nothing_there}
use Rattle.cat_mark.proofs.Live.{live_none}
use Rattle.cat_mark.proofs.Marking.{adds_none}
use Rattle.cat_mark.proofs.hashes.Hashes.mark_head.Goals as goal

pub returns-in_default-clause-ok : goal.returns-in_default-clause-ok
returns-in_default-clause-ok c =
    let none = nothing_there c.get.result _ c.get.ensures c.in_default.is in
    adds_none c.args.self.now _ (live_none c.args.graph.now c.args.cutoff.now c.args.head.now none)
