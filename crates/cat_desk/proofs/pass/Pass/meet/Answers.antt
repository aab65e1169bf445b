use Rattle.std.proofs.Common.{rules}
use Rattle.cat_desk.proofs.Keeps.{meets}
use Rattle.cat_desk.proofs.Passes.{free_view}
use Rattle.cat_desk.proofs.pass.Pass.meet.Goals as goal

pub load-count-requires : goal.load-count-requires
load-count-requires g c = let f = free_view c.args.desk.now c.args.self.now c.into_seat-seat.result.me.0 c.requires (search rules) in (search rules, search rules, meets _ _ _ _ _ _ _ _ _ f.idle)
