use Rattle.std.proofs.Common.{rules}
use Rattle.cat_keymap.proofs.Twice.{neighbours}
use Rattle.cat_keymap.proofs.distinct.are_unlike.Goals as goal

pub returns : goal.returns
returns g c =
    let same = neighbours g.K.Ord.cmp g.met.K.Ord.total g.K.PartialEq.eq g.met.K.Ord.matches_eq (λ r. r.now) c.args.values.items c.sort_unstable.new.self.items c.sort_unstable.ensures.permutation c.sort_unstable.ensures.sorted in
    search rules
