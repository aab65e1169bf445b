use Rattle.std.proofs.Common.{sym, ◌∙◌}
use Rattle.std.proofs.lemmas.Result.{err_from_is_err_and}
use Rattle.cat_codes.proofs.Items.{keys_go_on, keys_fail, keys_order_fails, keys_done, fails_by}
use Rattle.sha2.specs.Sha256.{sha256}
use Rattle.cat_model.specs.Contents.{content_code}
use Rattle.cat_frames.specs.Checkpoints.{by_hash, hashed}
use Rattle.cat_frames.proofs.checkpoint_records.contents_above.Goals as goal

pub returns-in_err-content : goal.returns-in_err-content
returns-in_err-content c =
    let p = err_from_is_err_and c.from_residual.result c.from_residual.ensures.1 in
    rw (p.1, p.2) (fails_by c.in_err-content.field-0.0 _ _ (λ f h. keys_fail by_hash (hashed sha256 content_code) c.loop.contents c.args.count c.loop.counter c.loop.from f _ c.loop-test.true h c.loop.invariant) c.in_err-content.ensures)

pub returns-then-not-hash_is_next : goal.returns-then-not-hash_is_next
returns-then-not-hash_is_next c =
    keys_order_fails by_hash (hashed sha256 content_code) c.loop.contents c.args.count c.loop.counter c.loop.from c.in_ok-content.content c.read_hashed.new.from _ c.loop-test.true c.in_ok-content.ensures (rw (← c.as_slice.ensures) (sym c.hash_is_next.ensures ∙ c.if-not-hash_is_next.true)) c.loop.invariant

pub loop-preserved : goal.loop-preserved
loop-preserved c =
    rw c.in_ok-push.ensures.ok (keys_go_on by_hash (hashed sha256 content_code) c.loop.contents c.args.count c.loop.counter c.loop.from c.in_ok-content.content c.read_hashed.new.from _ c.loop-test.true c.in_ok-content.ensures (rw (← c.as_slice.ensures) (sym c.hash_is_next.ensures ∙ c.if-not-hash_is_next.false)) c.loop.invariant)

pub returns : goal.returns
returns c = keys_done by_hash (hashed sha256 content_code) c.loop.contents c.args.count c.loop.counter c.loop.from _ c.loop-test.false c.loop.invariant
