use Rattle.std.proofs.Common.{◌≡◌, ◌≤◌, [], drop, length, rules}
use Rattle.std.proofs.lemmas.List.{drop_all}
use Rattle.cat_frames.specs.Checkpoints.{named_code}
use Rattle.cat_frames.proofs.Sizes.{none_more}
use Rattle.cat_frames.proofs.checkpoint_size.references_size.Goals as goal

pub returns : goal.returns
returns c =
    let long : length c.args.references.now ≤ c.loop-reference.reference-index = search rules in
    let none : drop c.loop-reference.reference-index c.args.references.now ≡ [] = drop_all _ _ long in
    none_more (named_code).spell _ _ _ c.loop-reference.invariant.0 none c.loop-reference.invariant.1
