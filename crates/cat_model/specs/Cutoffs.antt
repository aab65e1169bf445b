-- What a collection keeps: of the chain of each reference the commits up to its cutoff, and the contents that these show.
use Rattle.std.specs.Prelude.{◌≡◌, ℕ, ◌+◌, ◌-◌, ◌==◌, List, [], ◌∷◌, length, take, map, find, Option, Some, None, is_some, Result, Ok, Err, Bool, true, ◌||◌, not, nat_eq, nat_lt, if◌then◌else◌}
use Rattle.std.specs.List.{after_first, before_first, flat_map, position, starts_with, take_while}
use Rattle.std.specs.Option.{option_map, option_map_or}
use Rattle.std.specs.Str.{bytes_eq}
use Rattle.cat_names.specs.RefNames.{is_reference_name}
use Rattle.cat_names.specs.declared.hash.Hash.{Hash}
use Rattle.cat_names.specs.declared.name_fault.NameFault.{NameFault}
use Rattle.cat_names.specs.declared.name_fault.NameFault.TheVariants.{Bad, NoMemory}
use Rattle.cat_model.specs.declared.cutoff.Cutoff.{Cutoff}
use Rattle.cat_model.specs.declared.cutoff.Cutoff.TheVariants as cutoffs
use Rattle.cat_model.specs.declared.cutoff.Pattern.{Pattern}
use Rattle.cat_model.specs.declared.cutoff.Pattern.TheVariants as patterns
use Rattle.cat_model.specs.declared.cutoff.Resolved.{Resolved}
use Rattle.cat_model.specs.Chain.{Commits, chain, entries}
use Rattle.cat_model.specs.Fronts.{front_of}
use Rattle.cat_model.specs.State.{State}

-- ---- commits

-- a commit of this time is older than the moment
abbrev pub is_older : ℕ → ℕ → Bool
is_older moment time = nat_lt time moment

-- a commit after the head is kept by its index and its time, where those before it are
abbrev pub reaches : Cutoff → ℕ → ℕ → Bool
reaches cutoffs.All index time = true
reaches (cutoffs.Commits count) index time = nat_lt index count
reaches (cutoffs.Since moment) index time = not (is_older moment time)

-- the head, whose index is 0, is always kept
abbrev pub keeps : Cutoff → ℕ → ℕ → Bool
keeps cutoff index time = index == 0 || reaches cutoff index time

-- what is kept of the commits after the head: all, so many with the head, or those before the first that is older
abbrev pub kept_after : Cutoff → Commits → Commits
kept_after cutoffs.All rest = rest
kept_after (cutoffs.Commits count) rest = take (count - 1) rest
kept_after (cutoffs.Since moment) rest = take_while (λ x. not (is_older moment x.1.time)) rest

-- what a cutoff keeps of a chain
abbrev pub kept : Cutoff → Commits → Commits
kept cutoff [] = []
kept cutoff (head ∷ rest) = head ∷ kept_after cutoff rest

-- the commits before the first that isn't kept, by indices from this one on
abbrev pub kept_from : Cutoff → ℕ → Commits → Commits
kept_from cutoff index [] = []
kept_from cutoff index (x ∷ rest) = if keeps cutoff index x.1.time then x ∷ kept_from cutoff (index + 1) rest else []

-- ---- references

-- what a call returned is the reading, unless memory ran out
abbrev pub Gives : {A : Type 0} → Result A NameFault → Option A → Type 0
Gives (Ok x) reading = reading ≡ Some x
Gives (Err Bad) reading = reading ≡ None
Gives (Err NoMemory) reading = Unit {0}

abbrev pub is_star : ℕ → Bool
is_star byte = byte == 42

-- the name that a text is
abbrev pub name_of : List ℕ → Option (List ℕ)
name_of text = if is_reference_name text then Some text else None

-- the pattern that a text is: a name, or a front of names and a star
unfoldable pub pattern_of : List ℕ → Option Pattern
pattern_of text =
    if is_some (position is_star text) then
    (if nat_eq (length (after_first is_star text)) 0 then option_map patterns.Front (front_of (before_first is_star text)) else None)
    else option_map patterns.Name (name_of text)

-- a name matches itself alone, and a front each name that begins so
abbrev pub matches : Pattern → List ℕ → Bool
matches (patterns.Name own) name = bytes_eq own name
matches (patterns.Front front) name = starts_with nat_eq name front

-- the cutoff of the first pattern that matches, or the default
abbrev pub cutoff_for : Resolved → List ℕ → Cutoff
cutoff_for policy name = option_map_or (λ x. x.1) (find (λ x. matches x.0 name) policy.cutoffs) policy.default

-- ---- contents

-- the hashes of the contents that are visible at a commit
abbrev pub visible : Commits → Hash → List Hash
visible commits hash = map (λ x. x.1.hash) (entries commits hash)

-- those that are visible at the commits that a cutoff keeps from a head
unfoldable pub live_from : Commits → Cutoff → Hash → List Hash
live_from commits cutoff head = flat_map (λ x. visible commits x.0) (kept cutoff (chain commits head))

-- those that are live at a state: from each of its references
unfoldable pub live : State → Resolved → List Hash
live state policy = flat_map (λ r. live_from state.commits (cutoff_for policy r.name) r.head) state.references
