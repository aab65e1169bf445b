use Rattle.std.proofs.Common.{ℕ, drop, ap, ◌∙◌}
use Rattle.cat_ordered.proofs.Found.{from_is}
use Rattle.cat_ordered.proofs.ordered_map.OrderedMap.walk_from.Goals as goal

pub returns : goal.returns
returns g c = c.from_place.ensures ∙ ap (λ (n : ℕ). drop n c.args.self.now) c.rank.ensures.place ∙ from_is g.K.Ord.cmp g.met.K.Ord.total c.args.self.now c.args.key.now
