use Rattle.std.proofs.Common.{◌≡◌, ◌-◌}
use Rattle.sha2.specs.Sha256.{sha256}
use Rattle.cat_codes.specs.Code.{placed_at}
use Rattle.cat_model.specs.State.{fresh_id}
use Rattle.cat_frames.specs.Requests.{op_code}
use Rattle.cat_frames.specs.Walks.{asked_at}
use Rattle.cat_frames.proofs.Walked.{with_front, both_of}
use Rattle.cat_frames.proofs.request_fields.read_ops.Given as goal

abbrev pub invariant-loop-index : goal.invariant-loop-index
invariant-loop-index l = with_front (both_of l.asked.ops l.asked.contents) (placed_at (λ index. op_code sha256 (fresh_id l.draft index)) l.index (l.count - l.index) l.from) ≡ asked_at sha256 l.draft l.count l.fn.from
