use Rattle.std.proofs.Common.{◌++◌, ◌∙◌, ap, sym}
use Rattle.std.proofs.lemmas.List.{append-nil}
use Rattle.cat_model.specs.Changed.{keys_of}
use Rattle.cat_model.specs.Maps.{Map}
use Rattle.cat_keymap.proofs.Agreeing.{nothing_below}
use Rattle.cat_keymap.proofs.differing.add_below.Goals as goal

pub returns-clause-keys : goal.returns-clause-keys
returns-clause-keys c =
    let none = nothing_below c.loop-lower.left c.args.key.now c.in_default.ensures.1 in
    sym (append-nil c.loop-lower.out) ∙ ap (λ (m : Map). c.loop-lower.out ++ keys_of m) (sym none) ∙ c.loop-lower.invariant.keys
