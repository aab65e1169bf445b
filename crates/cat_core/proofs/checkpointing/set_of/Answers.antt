use Rattle.std.proofs.Common.{nat_eq}
use Rattle.std.proofs.lemmas.List.Filters.{dedup_is}
use Rattle.cat_core.proofs.NumberSets.{set_is}
use Rattle.cat_core.proofs.checkpointing.set_of.Goals as goal

pub returns : goal.returns
returns c =
    let sorted = c.sort_unstable.new.self.items in
    set_is c.args.numbers.items sorted c.dedup.new.self.items c.sort_unstable.ensures.permutation c.sort_unstable.ensures.sorted (dedup_is nat_eq sorted c.dedup.new.self.items c.dedup.ensures.filtered)
