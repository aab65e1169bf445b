-- Pages of listings.
use Rattle.std.specs.Prelude.{ℕ, zero, suc, List, [], ◌∷◌, ◌++◌, length, take, Option, Some, None, nat_lt, filter, if◌then◌else◌}
use Rattle.std.specs.Cmp.Lexicographic.{slice_cmp}
use Rattle.std.specs.Option.{option_map_or}
use Rattle.std.specs.Ordering.{nat_cmp, is_lt}
use Rattle.cat_names.specs.declared.hash.Hash.{Hash}
use Rattle.cat_model.specs.declared.reference.Reference.{Reference}
use Rattle.cat_model.specs.Same.{same_hash}
use Rattle.cat_model.specs.Chain.{Commits, chain}

-- the first of a list
abbrev pub first : {X : Type 0} → List X → Option X
first [] = None
first (x ∷ xs) = Some x

-- the last of a list
abbrev pub last : {X : Type 0} → List X → Option X
last [] = None
last (x ∷ []) = Some x
last (x ∷ y ∷ xs) = last (y ∷ xs)

-- the last item of a page, where more follow
abbrev pub last_shown : {X : Type 0} → ℕ → List X → Option X
last_shown limit left = if nat_lt limit (length left) then last (take limit left) else None

-- what pages show, one after another: of the items that are left at first, then of those that each
-- token leaves
abbrev pub pages : {X Y : Type 0} → (List X → List X) → (List X → Option Y) → (Y → List X) → ℕ → List X → List X
pages shown next rest zero left = []
pages shown next rest (suc n) left = shown left ++ option_map_or (λ token. pages shown next rest n (rest token)) (next left) []

-- ---- references

-- the references after a name, or all
abbrev pub references_after : List Reference → Option (List ℕ) → List Reference
references_after references None = references
references_after references (Some name) = filter (λ r. is_lt (slice_cmp nat_cmp name r.name)) references

-- ---- history

-- the commits up to a hash, that one too
abbrev pub up_to : Commits → Hash → Commits
up_to [] hash = []
up_to (x ∷ commits) hash = if same_hash x.0 hash then x ∷ [] else x ∷ up_to commits hash

-- the commits up to the last that is asked for, or all
abbrev pub until : Commits → Option Hash → Commits
until commits None = commits
until commits (Some hash) = up_to commits hash

-- the commits of a chain, from the newest to the last that is asked for
unfoldable pub history : Commits → Hash → Option Hash → Commits
history commits from last = until (chain commits from) last
