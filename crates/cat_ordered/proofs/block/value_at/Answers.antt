use Rattle.std.proofs.Common.{◌≡◌, ◌<◌, ◌∙◌, Some, length, sym, ap, arith}
use Rattle.std.proofs.lemmas.Bool.{eqb-true, eqb-false}
use Rattle.cat_ordered.proofs.Costs.{in_block, one_at_least}
use Rattle.cat_ordered.proofs.Found.{found, not_found, empty_value, at_read, other_there, past_end}
use Rattle.cat_ordered.proofs.block.value_at.Goals as goal

pub returns-then-is_empty : goal.returns-then-is_empty
returns-then-is_empty g c =
    let none : length c.args.pairs.now ≡ 0 = eqb-true _ 0 (sym c.is_empty.ensures ∙ c.if-is_empty.true) in
    record {
      value = empty_value g.K.Ord.cmp g.met.K.Ord.total c.args.pairs.now (g.Q.Seek.sought c.args.key.now) none;
      cost = one_at_least (length c.args.pairs.now);
      most = λ some fits. absurd (omega arith);
    }

pub returns-then-at-pairs : goal.returns-then-at-pairs
returns-then-at-pairs g c =
    let some : 0 < length c.args.pairs.now = omega (arith, eqb-false _ 0 (sym c.is_empty.ensures ∙ c.if-is_empty.false)) in
    let few = in_block c.place-at.result.1 c.place-at.result.1 (length c.args.pairs.now) (omega arith) (c.place-at.ensures.cost some) in
    record {
      value = sym (not_found g.K.Ord.cmp g.met.K.Ord.total c.args.pairs.now (g.Q.Seek.sought c.args.key.now) c.requires (past_end g.K.Ord.cmp g.met.K.Ord.total c.args.pairs.now (g.Q.Seek.sought c.args.key.now) c.place-at.result.0 c.place-at.ensures.place c.if-at-pairs.true));
      cost = few.0;
      most = λ more fits. few.1 fits;
    }

pub returns-then-has_key : goal.returns-then-has_key
returns-then-has_key g c =
    let some : 0 < length c.args.pairs.now = omega (arith, eqb-false _ 0 (sym c.is_empty.ensures ∙ c.if-is_empty.false)) in
    let few = in_block c.place-at.result.1 c.saturating_add-count.result (length c.args.pairs.now) (omega arith) (c.place-at.ensures.cost some) in
    record {
      value = ap (λ (v : g.row.V.Denot). Some v) c.value.ensures ∙ sym (found g.K.Ord.cmp g.met.K.Ord.total c.args.pairs.now (g.Q.Seek.sought c.args.key.now) c.index-pairs-at.result (at_read g.K.Ord.cmp g.met.K.Ord.total c.args.pairs.now (g.Q.Seek.sought c.args.key.now) c.place-at.result.0 c.index-pairs-at.result c.place-at.ensures.place c.if-at-pairs.false c.index-pairs-at.is) (sym c.has_key.ensures ∙ c.if-has_key.true));
      cost = few.0;
      most = λ more fits. few.1 fits;
    }

pub returns-else-has_key : goal.returns-else-has_key
returns-else-has_key g c =
    let some : 0 < length c.args.pairs.now = omega (arith, eqb-false _ 0 (sym c.is_empty.ensures ∙ c.if-is_empty.false)) in
    let few = in_block c.place-at.result.1 c.saturating_add-count.result (length c.args.pairs.now) (omega arith) (c.place-at.ensures.cost some) in
    record {
      value = sym (not_found g.K.Ord.cmp g.met.K.Ord.total c.args.pairs.now (g.Q.Seek.sought c.args.key.now) c.requires (other_there g.K.Ord.cmp g.met.K.Ord.total c.args.pairs.now (g.Q.Seek.sought c.args.key.now) c.place-at.result.0 c.index-pairs-at.result c.place-at.ensures.place c.if-at-pairs.false c.index-pairs-at.is (sym c.has_key.ensures ∙ c.if-has_key.false)));
      cost = few.0;
      most = λ more fits. few.1 fits;
    }
