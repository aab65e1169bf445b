-- Reading keys one after the other, as a loop does.
use Rattle.std.proofs.Common.{◌≡◌, List, [], ◌∷◌, ◌++◌, Option, Some, None, refl, sym, ap, append_assoc}
use Rattle.cat_names.specs.Fields.{Key}
use Rattle.cat_json.specs.Reading.{◌>>=◌}

-- what was read before, and what is still read
abbrev pub with_front : List Key → Option (List Key) → Option (List Key)
with_front front rest = rest >>= λ keys. Some (front ++ keys)

pub with_none : (o : Option (List Key)) → with_front [] o ≡ o
with_none None = refl
with_none (Some keys) = refl

pub with_one : (front : List Key) (key : Key) (o : Option (List Key)) → with_front front (o >>= λ keys. Some (key ∷ keys)) ≡ with_front (front ++ key ∷ []) o
with_one front key None = refl
with_one front key (Some keys) = ap Some (sym (append_assoc front (key ∷ []) keys))
