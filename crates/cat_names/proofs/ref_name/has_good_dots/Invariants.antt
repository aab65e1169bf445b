use Rattle.std.proofs.Common.{◌≡◌, ◌∷◌, drop}
use Rattle.cat_names.specs.RefNames.{has_good_dots}
use Rattle.cat_names.proofs.ref_name.has_good_dots.Given as goal

abbrev pub invariant-loop-byte : goal.invariant-loop-byte
invariant-loop-byte l = has_good_dots (l.before ∷ drop l.byte-index l.bytes) ≡ has_good_dots l.bytes
