use Rattle.std.proofs.Common.{sym, ◌∙◌}
use Rattle.std.proofs.lemmas.Result.{err_from_is_err_and}
use Rattle.cat_codes.proofs.Items.{keys_go_on, keys_fail, keys_order_fails, keys_done, fails_by}
use Rattle.cat_names.specs.Fields.{hash_code}
use Rattle.cat_frames.specs.Sweeps.{hash_cmp}
use Rattle.cat_frames.proofs.sweep_fields.hashes_above.Goals as goal

pub returns-in_err-hash : goal.returns-in_err-hash
returns-in_err-hash c =
    let p = err_from_is_err_and c.from_residual.result c.from_residual.ensures.1 in
    rw (p.1, p.2) (fails_by c.in_err-hash.field-0.0 _ _ (λ f h. keys_fail hash_cmp hash_code c.loop.hashes c.args.count c.loop.counter c.loop.from f _ c.loop-test.true h c.loop.invariant) c.in_err-hash.ensures)

pub returns-then-not-comes_next : goal.returns-then-not-comes_next
returns-then-not-comes_next c =
    keys_order_fails hash_cmp hash_code c.loop.hashes c.args.count c.loop.counter c.loop.from c.in_ok-hash.hash c.read.new.from _ c.loop-test.true c.in_ok-hash.ensures (rw (← c.as_slice.ensures) (sym c.comes_next.ensures ∙ c.if-not-comes_next.true)) c.loop.invariant

pub loop-preserved : goal.loop-preserved
loop-preserved c =
    rw c.in_ok-push.ensures.ok (keys_go_on hash_cmp hash_code c.loop.hashes c.args.count c.loop.counter c.loop.from c.in_ok-hash.hash c.read.new.from _ c.loop-test.true c.in_ok-hash.ensures (rw (← c.as_slice.ensures) (sym c.comes_next.ensures ∙ c.if-not-comes_next.false)) c.loop.invariant)

pub returns : goal.returns
returns c = keys_done hash_cmp hash_code c.loop.hashes c.args.count c.loop.counter c.loop.from _ c.loop-test.false c.loop.invariant
