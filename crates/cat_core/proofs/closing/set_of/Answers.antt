use Rattle.std.proofs.lemmas.List.Filters.{dedup_is}
use Rattle.cat_model.specs.Same.{same_hash}
use Rattle.cat_core.proofs.HashSets.{set_is}
use Rattle.cat_core.proofs.closing.set_of.Goals as goal

pub returns : goal.returns
returns c =
    let sorted = c.sort_unstable.new.self.items in
    set_is c.args.hashes.items sorted c.dedup.new.self.items c.sort_unstable.ensures.permutation c.sort_unstable.ensures.sorted (dedup_is same_hash sorted c.dedup.new.self.items c.dedup.ensures.filtered)
