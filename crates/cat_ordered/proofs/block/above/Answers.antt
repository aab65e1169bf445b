use Rattle.std.proofs.Common.{◌∙◌, ◌+◌, sym, ap, drop, ℕ}
use Rattle.cat_ordered.proofs.Found.{at_read, other_there}
use Rattle.cat_ordered.proofs.Changes.{drop_same, drop_other, drop_past}
use Rattle.cat_ordered.proofs.block.above.Goals as goal

pub returns-then-at-pairs : goal.returns-then-at-pairs
returns-then-at-pairs g c = c.rest_of.ensures ∙ drop_past g.K.Ord.cmp g.met.K.Ord.total c.args.pairs.now c.args.key.now c.args.at c.requires c.if-at-pairs.true

pub returns-then-has_key : goal.returns-then-has_key
returns-then-has_key g c =
    c.rest_of-then-has_key.ensures ∙ ap (λ (n : ℕ). drop (n + 1) c.args.pairs.now) c.requires
    ∙ drop_same g.K.Ord.cmp g.met.K.Ord.total c.args.pairs.now c.args.key.now c.index-pairs-at.result (at_read g.K.Ord.cmp g.met.K.Ord.total c.args.pairs.now c.args.key.now c.args.at c.index-pairs-at.result c.requires c.if-at-pairs.false c.index-pairs-at.is) (sym c.has_key.ensures ∙ c.if-has_key.true)

pub returns-else-has_key : goal.returns-else-has_key
returns-else-has_key g c =
    c.rest_of-else-has_key.ensures ∙ ap (λ (n : ℕ). drop n c.args.pairs.now) c.requires
    ∙ drop_other g.K.Ord.cmp g.met.K.Ord.total c.args.pairs.now c.args.key.now (other_there g.K.Ord.cmp g.met.K.Ord.total c.args.pairs.now c.args.key.now c.args.at c.index-pairs-at.result c.requires c.if-at-pairs.false c.index-pairs-at.is (sym c.has_key.ensures ∙ c.if-has_key.false))
