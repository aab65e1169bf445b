use Rattle.std.proofs.Common.{◌≡◌, ◌<◌, [], length, refl, sym, ◌∙◌, arith}
use Rattle.std.proofs.lemmas.Bool.{eqb-true, eqb-false}
use Rattle.cat_ordered.proofs.Cutting.{cut_start, cut_end, cut_nothing}
use Rattle.cat_ordered.proofs.Lists.{no_items}
use Rattle.cat_ordered.proofs.Runs.{block_piece}
use Rattle.cat_ordered.proofs.block.blocks.Goals as goal

pub returns-then-is_empty : goal.returns-then-is_empty
returns-then-is_empty g c =
    let none : length c.args.pairs.items ≡ 0 = omega (arith, eqb-true _ 0 (sym c.is_empty.ensures ∙ c.if-is_empty.true)) in
    rw c.new-out.ensures.items (cut_nothing _ _ _ _ c.args.pairs.items [] _ c.args.pairs.items (cut_start _ _ _ c.args.pairs.items _).cut none (no_items c.args.pairs.items none) refl)

pub returns : goal.returns
returns g c =
    let some : 0 < length c.args.pairs.items = omega (arith, eqb-false _ 0 (sym c.is_empty.ensures ∙ c.if-is_empty.false)) in
    cut_end _ _ _ c.args.pairs.items (length c.args.pairs.items) c.new-out.result.items c.push.new.self.items c.in_ok-new.field-0 _ c.args.pairs.items (length c.args.pairs.items)
    (rw c.new-out.ensures.items (cut_start _ _ _ _ _)) c.in_ok-push.ensures.items c.in_ok-new.ensures.ok refl (block_piece c.args.pairs.items some (omega arith)) refl
