use Rattle.std.proofs.Common.{drop}
use Rattle.sha2.specs.Sha256.{sha256}
use Rattle.cat_model.specs.Commits.{with_their_contents}
use Rattle.cat_frames.proofs.Written.{Writes}
use Rattle.cat_frames.proofs.request_fields.write_ops.Given as goal

abbrev pub invariant-loop-op : goal.invariant-loop-op
invariant-loop-op l = Writes sha256 l.out l.op-index (with_their_contents (drop l.op-index l.ops) l.left) l.fn.out (with_their_contents l.ops l.contents)
