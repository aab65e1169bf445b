use Rattle.std.proofs.Common.{◌+◌, ℕ, drop, sym, ap, ◌∙◌}
use Rattle.cat_ordered.proofs.Changes.{drop_same, drop_other}
use Rattle.cat_ordered.proofs.Found.{at_read, other_there}
use Rattle.cat_ordered.proofs.InPlace.{drop_here}
use Rattle.cat_ordered.proofs.block.is_there.Goals as goal

pub returns-then-at-pairs : goal.returns-then-at-pairs
returns-then-at-pairs g c = record {
  there = λ e. absurd cc;
  other = λ e. drop_here g.K.Ord.cmp g.met.K.Ord.total c.args.pairs.now c.args.key.now c.args.at c.requires c.if-at-pairs.true;
}

pub returns : goal.returns
returns g c =
    let map = c.args.pairs.now in
    let key = c.args.key.now in
    let x = c.index-pairs-at.result in
    record {
      there = λ e. (
        c.if-at-pairs.false,
        ap (λ (n : ℕ). drop (n + 1) map) c.requires ∙ drop_same g.K.Ord.cmp g.met.K.Ord.total map key x (at_read g.K.Ord.cmp g.met.K.Ord.total map key c.args.at x c.requires c.if-at-pairs.false c.index-pairs-at.is) (sym c.has_key.ensures ∙ e),
      );
      other = λ e.
          ap (λ (n : ℕ). drop n map) c.requires ∙ drop_other g.K.Ord.cmp g.met.K.Ord.total map key (other_there g.K.Ord.cmp g.met.K.Ord.total map key c.args.at x c.requires c.if-at-pairs.false c.index-pairs-at.is (sym c.has_key.ensures ∙ e));
    }
