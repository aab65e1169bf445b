use Rattle.std.proofs.lemmas.Result.{err_from_is_err_and}
use Rattle.sha2.specs.Sha256.{sha256}
use Rattle.cat_codes.specs.Code.{items_at}
use Rattle.cat_codes.proofs.Items.{goes_on, ends, is_done}
use Rattle.cat_model.specs.Formats.{commit_code}
use Rattle.cat_frames.specs.Checkpoints.{hashed}
use Rattle.cat_frames.proofs.checkpoint_records.commits_in.Goals as goal

pub returns-in_err-commit : goal.returns-in_err-commit
returns-in_err-commit c =
    let p = err_from_is_err_and c.from_residual.result c.from_residual.ensures.1 in
    rw (p.1, p.2) (ends (hashed sha256 commit_code) c.in_err-commit.field-0.0 c.loop.commits c.args.count c.loop.counter c.loop.from (items_at (hashed sha256 commit_code) c.args.count c.args.from.now) c.loop-test.true c.in_err-commit.ensures c.loop.invariant)

pub loop-preserved : goal.loop-preserved
loop-preserved c =
    rw c.in_ok-push.ensures.ok (goes_on (hashed sha256 commit_code) c.loop.commits c.args.count c.loop.counter c.loop.from c.in_ok-commit.commit c.read_hashed.new.from (items_at (hashed sha256 commit_code) c.args.count c.args.from.now) c.loop-test.true c.in_ok-commit.ensures c.loop.invariant)

pub returns : goal.returns
returns c = is_done (hashed sha256 commit_code) c.loop.commits c.args.count c.loop.counter c.loop.from (items_at (hashed sha256 commit_code) c.args.count c.args.from.now) c.loop-test.false c.loop.invariant
