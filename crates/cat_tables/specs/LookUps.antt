-- Other words for the value of a hash.
use Rattle.std.specs.Prelude.{List, [], ◌∷◌, Option, Some, None, Bool, true, false, cond, ◌≡◌, if◌then◌else◌, find, refl}
use Rattle.std.specs.Option.{option_map}
use Rattle.std.proofs.Common.{ap, ◌∙◌}
use Rattle.cat_names.specs.declared.hash.Hash.{Hash}
use Rattle.cat_tables.specs.Tables.{same_hash, value_of}

module _ {V : Type 0} where
  found_by : (b : Bool) (x : Hash × V) (value : Option V) (pair : Option (Hash × V)) → value ≡ option_map (λ y. y.1) pair → cond b (Some x.1) value ≡ option_map (λ y. y.1) (cond b (Some x) pair)
  found_by true x value pair e = refl
  found_by false x value pair e = e

  -- the first pair of the hash
  pub value_is_found : (list : List (Hash × V)) (hash : Hash) → value_of list hash ≡ option_map (λ x. x.1) (find (λ x. same_hash x.0 hash) list)
  value_is_found [] hash = refl
  value_is_found (x ∷ older) hash = found_by (same_hash x.0 hash) x (value_of older hash) (find (λ y. same_hash y.0 hash) older) (value_is_found older hash)

  -- two look-ups that go by the same two equations are one
  pub value_is_only : (look : List (Hash × V) → Hash → Option V) → ((hash : Hash) → look [] hash ≡ None)
      → ((x : Hash × V) (older : List (Hash × V)) (hash : Hash) → look (x ∷ older) hash ≡ (if same_hash x.0 hash then Some x.1 else look older hash))
      → (list : List (Hash × V)) (hash : Hash) → look list hash ≡ value_of list hash
  value_is_only look none more [] hash = none hash
  value_is_only look none more (x ∷ older) hash = more x older hash ∙ ap (λ (value : Option V). cond (same_hash x.0 hash) (Some x.1) value) (value_is_only look none more older hash)
