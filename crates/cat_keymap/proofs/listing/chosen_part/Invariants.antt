use Rattle.std.proofs.Common.{◌≡◌, ◌++◌, ◌≤◌, drop, length}
use Rattle.std.specs.Option.{option_map}
use Rattle.cat_keymap.specs.Range.{admitted}
use Rattle.cat_keymap.proofs.listing.chosen_part.Given as goal

abbrev pub invariant-loop-pair : goal.invariant-loop-pair
invariant-loop-pair l =
    let after = option_map (λ key. key.now) l.after in
    record { few : length l.out ≤ l.limit; whole : l.out ++ admitted l.filter after (drop l.pair-index l.pairs) ≡ admitted l.filter after l.pairs }
