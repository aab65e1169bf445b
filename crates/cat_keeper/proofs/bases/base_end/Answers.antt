use Rattle.std.proofs.Common.{◌∙◌, sym, ap, arith, []}
use Rattle.std.proofs.lemmas.List.{get_or_read, take_all}
use Rattle.cat_keeper.specs.Bases.{base_end}
use Rattle.cat_keeper.proofs.Kept.{next_base, next_entry}
use Rattle.cat_keeper.proofs.bases.base_end.Goals as goal
use Rattle.cat_keeper.proofs.bases.base_end.Goals.{then-is_checkpoint, else-is_checkpoint}

pub returns : goal.returns
returns c = c.loop-i.invariant ∙ ap base_end (take_all c.loop-i.i c.args.payloads.now (omega arith))

pub loop-i-preserved : goal.loop-i-preserved
loop-i-preserved c =
    let ps = c.args.payloads.now in
    let i = c.loop-i.i in
    let p = c.as_slice.result.now in
    let is = c.as_slice.ensures ∙ get_or_read ps i c.index-payloads-i.result (omega arith) c.index-payloads-i.is [] in
    elim c.if-is_checkpoint.branch [
      | then-is_checkpoint w ↦ next_base ps i p c.if-is_checkpoint.end (omega arith) is (sym c.is_checkpoint.ensures ∙ w.if-is_checkpoint.true) w.end-is
      | else-is_checkpoint w ↦ next_entry ps i p c.loop-i.end c.if-is_checkpoint.end (omega arith) is (sym c.is_checkpoint.ensures ∙ w.if-is_checkpoint.false) c.loop-i.invariant w.end-is
    ]
