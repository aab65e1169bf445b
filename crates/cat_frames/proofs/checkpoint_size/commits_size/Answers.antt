use Rattle.std.proofs.Common.{◌≡◌, ◌≤◌, [], drop, length, rules}
use Rattle.std.proofs.lemmas.List.{drop_all}
use Rattle.sha2.specs.Sha256.{sha256}
use Rattle.cat_model.specs.Formats.{commit_code}
use Rattle.cat_frames.specs.Checkpoints.{hashed}
use Rattle.cat_frames.proofs.Sizes.{none_more}
use Rattle.cat_frames.proofs.checkpoint_size.commits_size.Goals as goal

pub returns : goal.returns
returns c =
    let long : length c.args.commits.now ≤ c.loop-commit.commit-index = search rules in
    let none : drop c.loop-commit.commit-index c.args.commits.now ≡ [] = drop_all _ _ long in
    none_more (hashed sha256 commit_code).spell _ _ _ c.loop-commit.invariant.0 none c.loop-commit.invariant.1
