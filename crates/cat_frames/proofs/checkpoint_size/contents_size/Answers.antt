use Rattle.std.proofs.Common.{◌≡◌, ◌≤◌, [], drop, length, rules}
use Rattle.std.proofs.lemmas.List.{drop_all}
use Rattle.sha2.specs.Sha256.{sha256}
use Rattle.cat_model.specs.Contents.{content_code}
use Rattle.cat_frames.specs.Checkpoints.{hashed}
use Rattle.cat_frames.proofs.Sizes.{none_more}
use Rattle.cat_frames.proofs.checkpoint_size.contents_size.Goals as goal

pub returns : goal.returns
returns c =
    let long : length c.args.contents.now ≤ c.loop-content.content-index = search rules in
    let none : drop c.loop-content.content-index c.args.contents.now ≡ [] = drop_all _ _ long in
    none_more (hashed sha256 content_code).spell _ _ _ c.loop-content.invariant.0 none c.loop-content.invariant.1
