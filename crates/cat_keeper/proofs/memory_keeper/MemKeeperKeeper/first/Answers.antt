use Rattle.std.proofs.Common.{◌∙◌, ◌-◌, [], arith}
use Rattle.std.proofs.lemmas.List.{get_or_read}
use Rattle.cat_keeper.proofs.Kept.{first_is, start_inside}
use Rattle.cat_keeper.proofs.memory_keeper.MemKeeperKeeper.first.Goals as goal

pub index-requires : goal.index-requires
index-requires c = omega (arith, start_inside c.args.self.now.payloads.items c.args.self.now.start c.args.self.now.started c.if-self-eq0.false)

pub returns : goal.returns
returns c =
    first_is c.args.self.now.payloads.items c.args.self.now.start c.as_slice.result.now c.base_place.result c.args.self.now.started c.if-self-eq0.false
    (c.as_slice.ensures ∙ get_or_read c.args.self.now.payloads.items (c.args.self.now.start - 1) c.index.result.now (start_inside c.args.self.now.payloads.items c.args.self.now.start c.args.self.now.started c.if-self-eq0.false) c.index.ensures [])
    c.base_place.ensures
