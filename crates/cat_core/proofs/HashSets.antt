-- Sets of hashes: an ascending list with the hashes of another one is its set.
use Rattle.std.proofs.Common.{◌≡◌, List, None, true, ap, ◌∙◌}
use Rattle.std.specs.List.{dedup}
use Rattle.std.specs.List.Sorted.{IsPermutation, IsSorted}
use Rattle.std.specs.Ordering.{is_eq}
use Rattle.std.specs.declared.cmp.Ordering.TheVariants.{Equal}
use Rattle.cat_codes.specs.Code.{keys_ascend}
use Rattle.cat_names.specs.declared.hash.Hash.{Hash}
use Rattle.cat_model.specs.Base.{is_among}
use Rattle.cat_model.specs.Same.{same_hash}
use Rattle.cat_model.specs.Sweeps.{hash_set}
use Rattle.cat_keymap.specs.SetLaws as sets
use Rattle.cat_tables.proofs.Arriving.{hash_total, ties}
use Rattle.cat_tables.proofs.Places.{same_is}
use Rattle.cat_tables.specs.HashOrder.{hash_cmp}

one_hash : (a b : Hash) → hash_cmp a b ≡ Equal → a ≡ b
one_hash a b e = same_is a b (ties a b ∙ ap is_eq e)

pub set_rises : (hashes : List Hash) → keys_ascend hash_cmp None (hash_set hashes) ≡ true
set_rises hashes = sets.set_rises hash_cmp hash_total same_hash ties one_hash hashes

pub in_set : (hashes : List Hash) (hash : Hash) → is_among (hash_set hashes) hash ≡ is_among hashes hash
in_set hashes hash = sets.in_set hash_cmp hash_total same_hash ties one_hash hashes hash

-- hashes that are sorted, and then each but the first of those that are the same is left out
pub set_is : (hashes sorted once : List Hash) → IsPermutation hashes sorted → IsSorted hash_cmp sorted → once ≡ dedup same_hash sorted → once ≡ hash_set hashes
set_is hashes sorted once moved up is = sets.set_is hash_cmp hash_total same_hash ties one_hash hashes sorted once moved up is
