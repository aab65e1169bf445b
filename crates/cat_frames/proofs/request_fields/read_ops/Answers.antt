use Rattle.std.proofs.Common.{◌≡◌, ap, subst, sym, ◌∙◌, ℕ, ◌-◌, ◌+◌}
use Rattle.std.proofs.lemmas.Result.{err_from_is_err_and}
use Rattle.sha2.specs.Sha256.{sha256}
use Rattle.cat_codes.specs.Code.{Code, placed_at}
use Rattle.cat_codes.specs.Read.{Fails}
use Rattle.cat_names.specs.declared.hash.ContentId.{ContentId}
use Rattle.cat_model.specs.State.{fresh_id}
use Rattle.cat_frames.specs.declared.asked.Asked.{Asked}
use Rattle.cat_frames.specs.Requests.{Both, op_code}
use Rattle.cat_frames.specs.Walks.{asked_at}
use Rattle.cat_frames.proofs.Walked.{with_front, both_of, goes_on, ends, is_done}
use Rattle.cat_frames.proofs.request_fields.read_ops.Goals as goal

abbrev code_at : ℕ → ℕ → Code Both
code_at draft index = op_code sha256 (fresh_id draft index)

pub returns-in_err-op : goal.returns-in_err-op
returns-in_err-op c =
    let p = err_from_is_err_and c.from_residual.result c.from_residual.ensures.1 in
    let failed = subst (λ (id : ContentId). Fails c.in_err-op.field-0.0 ((op_code sha256 id).at c.loop-index.from)) c.from_pair-id.ensures c.in_err-op.ensures in
    rw (p.1, p.2) (ends (code_at c.args.draft) c.args.count c.loop-index.index c.loop-index.from (asked_at sha256 c.args.draft c.args.count c.args.from.now) c.loop-index.asked c.in_err-op.field-0.0 c.loop-index-test.true failed c.loop-index.invariant)

pub loop-index-preserved : goal.loop-index-preserved
loop-index-preserved c =
    let read = ap (λ (id : ContentId). (op_code sha256 id).at c.loop-index.from) (sym c.from_pair-id.ensures) ∙ c.in_ok-op.ensures in
    let next = goes_on (code_at c.args.draft) c.args.count c.loop-index.index c.loop-index.from (asked_at sha256 c.args.draft c.args.count c.args.from.now) c.loop-index.asked (c.in_ok-op.op, c.in_ok-op.content) c.read_op.new.from c.loop-index-test.true read c.loop-index.invariant in
    subst (λ (a : Asked). with_front (both_of a.ops a.contents) (placed_at (code_at c.args.draft) (c.loop-index.index + 1) (c.args.count - (c.loop-index.index + 1)) c.read_op.new.from) ≡ asked_at sha256 c.args.draft c.args.count c.args.from.now) (sym c.in_ok-add.ensures) next

pub returns : goal.returns
returns c = is_done (code_at c.args.draft) c.args.count c.loop-index.index c.loop-index.from (asked_at sha256 c.args.draft c.args.count c.args.from.now) c.loop-index.asked c.loop-index-test.false c.loop-index.invariant
