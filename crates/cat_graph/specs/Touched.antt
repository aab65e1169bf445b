-- The commits between two hashes, and the keys that they touched.
use Rattle.std.specs.Prelude.{◌≡◌, ℕ, ◌+◌, List, [], ◌∷◌, length, Option, Some, None, true, Bool, nat_le, map, flat_map, if◌then◌else◌}
use Rattle.std.specs.List.{list_any}
use Rattle.std.specs.Option.{option_map}
use Rattle.cat_names.specs.Fields.{Key}
use Rattle.cat_names.specs.declared.hash.Hash.{Hash}
use Rattle.cat_model.specs.Chain.{Commits}
use Rattle.cat_model.specs.Changed.{is_changed}
use Rattle.cat_model.specs.Maps.{Map, Change}
use Rattle.cat_model.specs.Same.{same_hash, same_key}

-- the commits of the chain of a hash down to another, without that one's, if it is on the chain
abbrev pub between : Commits → Hash → Hash → Option Commits
between [] from to = if same_hash from to then Some [] else None
between (x ∷ older) from to =
    if same_hash x.0 from
    then (if same_hash from to then Some [] else option_map (λ more. x ∷ more) (between older x.1.parent to))
    else between older from to

-- the keys of changes
abbrev pub keys_named : List Change → List Key
keys_named changes = map (λ change. change.0) changes

-- the keys that commits touched
abbrev pub keys_touched : Commits → List Key
keys_touched commits = flat_map (λ x. keys_named x.1.ops) commits

-- how many commits and keys they are
abbrev pub size : Commits → ℕ
size [] = 0
size (x ∷ others) = length x.1.ops + 1 + size others

-- the keys that commits touched, if commits and keys are at most so many
abbrev pub touched_within : ℕ → Option Commits → Option (List Key)
touched_within most None = None
touched_within most (Some commits) = if nat_le (size commits) most then Some (keys_touched commits) else None

-- the key is one of these
abbrev pub is_among : List Key → Key → Bool
is_among keys key = list_any (λ other. same_key other key) keys

-- each key whose entries differ is one of these
abbrev pub Covers : List Key → Map → Map → Type 0
Covers keys before after = (key : Key) → is_changed before after key ≡ true → is_among keys key ≡ true
