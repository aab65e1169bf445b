use Rattle.std.proofs.Common.{arith}
use Rattle.cat_ordered.proofs.InPlace.{put_only}
use Rattle.cat_ordered.proofs.owned.insert_one.Goals as goal

pub unreachable-requires : goal.unreachable-requires
unreachable-requires g c = omega (arith, c.in_default.ensures.cases.0, c.args.one.ok.0, c.requires.one)

pub returns : goal.returns
returns g c = put_only c.args.others.items c.args.one.items c.pop.new.self.items c.insert.new.self.items c.args.at c.in-Some.piece c.requires.one c.in-Some.ensures.items c.in_ok-insert.ensures.items
