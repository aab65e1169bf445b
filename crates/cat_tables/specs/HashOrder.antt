-- The order of hashes: that of their bytes.
use Rattle.std.specs.Cmp.Lexicographic.{slice_cmp}
use Rattle.std.specs.Ordering.{nat_cmp}
use Rattle.std.specs.declared.cmp.Ordering.{Ordering}
use Rattle.cat_names.specs.declared.hash.Hash.{Hash}

-- by bytes, the first that differs
abbrev pub hash_cmp : Hash → Hash → Ordering
hash_cmp a b = slice_cmp nat_cmp a.bytes b.bytes
