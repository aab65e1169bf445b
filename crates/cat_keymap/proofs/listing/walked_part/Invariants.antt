use Rattle.std.proofs.Common.{◌≡◌, ◌++◌, ◌≤◌, length}
use Rattle.std.specs.Option.{option_map}
use Rattle.cat_model.specs.Maps.{IsMap}
use Rattle.cat_keymap.specs.Range.{admitted}
use Rattle.cat_keymap.proofs.listing.walked_part.Given as goal

abbrev pub invariant-loop-key : goal.invariant-loop-key
invariant-loop-key l =
    let after = option_map (λ key. key.now) l.after in
    record {
      order : IsMap l.rest;
      few : length l.out ≤ l.limit;
      whole : l.out ++ admitted l.filter after l.rest ≡ admitted l.filter after l.fn.pairs;
    }

abbrev pub decreases-loop-key : goal.decreases-loop-key
decreases-loop-key l = length l.rest
