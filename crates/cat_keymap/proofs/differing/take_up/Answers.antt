use Rattle.std.proofs.Common.{◌≡◌, ◌++◌, ◌∙◌, ap, append_assoc}
use Rattle.cat_model.specs.Changed.{keys_of}
use Rattle.cat_model.specs.Maps.{Map, entry_of}
use Rattle.cat_keymap.specs.Places.{below, entry_here, past}
use Rattle.cat_keymap.specs.Walking.{unless_same}
use Rattle.cat_keymap.proofs.Agreeing.{here_is, past_is}
use Rattle.cat_keymap.proofs.differing.take_up.Goals as goal

pub returns-clause-keys : goal.returns-clause-keys
returns-clause-keys c =
    let left = c.args.left.now in
    let key = c.args.key.now in
    let out = c.args.out.now in
    let front = c.in_ok-add_below.ensures.keys in
    let other : c.take-other.result ≡ entry_of left key = c.take-other.ensures.entry ∙ ap (λ (m : Map). entry_here m key) c.in_ok-add_below.ensures.left ∙ here_is left key c.requires in
    c.in_ok-add_unless_same.ensures ∙ (λ i. front i ++ unless_same (key, c.args.entry) (other i)) ∙ append_assoc out (keys_of (below left key)) (unless_same (key, c.args.entry) (entry_of left key))

pub returns-clause-left : goal.returns-clause-left
returns-clause-left c = c.take-other.ensures.left ∙ ap (λ (m : Map). past m c.args.key.now) c.in_ok-add_below.ensures.left ∙ past_is c.args.left.now c.args.key.now
