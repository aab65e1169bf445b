use Rattle.std.proofs.Common.{◌≡◌, ◌++◌, length}
use Rattle.cat_names.specs.Fields.{key_cmp}
use Rattle.cat_model.specs.Changed.{keys_of}
use Rattle.cat_ordered.specs.Maps.{from_key}
use Rattle.cat_keymap.specs.Places.{below}
use Rattle.cat_keymap.proofs.differing.add_below.Given as goal

abbrev pub invariant-loop-lower : goal.invariant-loop-lower
invariant-loop-lower l = record {
  keys : l.out ++ keys_of (below l.left l.key) ≡ l.fn.out ++ keys_of (below l.fn.left l.key);
  left : from_key key_cmp l.left l.key ≡ from_key key_cmp l.fn.left l.key;
}

abbrev pub decreases-loop-lower : goal.decreases-loop-lower
decreases-loop-lower l = length l.left
