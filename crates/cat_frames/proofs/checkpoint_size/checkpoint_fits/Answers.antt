use Rattle.std.proofs.Common.{◌≡◌, arith, length}
use Rattle.sha2.specs.Sha256.{sha256}
use Rattle.cat_model.specs.Contents.{content_code}
use Rattle.cat_model.specs.Formats.{commit_code}
use Rattle.cat_frames.specs.Bases.{checkpoint_spelling}
use Rattle.cat_frames.specs.Checkpoints.{hashed, named_code}
use Rattle.cat_frames.specs.Sizes.{size_of}
use Rattle.cat_frames.proofs.Sizes.{checkpoint_size, within_payload}
use Rattle.cat_frames.proofs.checkpoint_size.checkpoint_fits.Goals as goal

pub returns : goal.returns
returns c =
    let whole = checkpoint_size c.args.checkpoint.now in
    let named : c.references_size-references.result ≡ size_of (named_code).spell c.args.checkpoint.now.references = rw c.as_slice.ensures at c.references_size-references.ensures in
    let commits : c.in_ok-commits.commits ≡ size_of (hashed sha256 commit_code).spell c.args.checkpoint.now.commits = rw c.as_slice-2.ensures at c.in_ok-commits.ensures in
    let contents : c.in_ok-contents.contents ≡ size_of (hashed sha256 content_code).spell c.args.checkpoint.now.contents = rw c.as_slice-3.ensures at c.in_ok-contents.ensures in
    within_payload c.sum-size.result (length (checkpoint_spelling c.args.checkpoint.now)) (omega (arith, whole, named, commits, contents, c.len.ensures, c.sum-items.ensures, c.sum.ensures, c.sum-2.ensures, c.sum-size.ensures))
