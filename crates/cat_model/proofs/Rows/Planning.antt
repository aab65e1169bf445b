-- Worked cases of merge plans and merge bases.
use Rattle.std.specs.Prelude.{◌≡◌, refl, ℕ, List, [], ◌∷◌, Option, Some, None, codes, map}
use Rattle.std.specs.Option.{option_map}
use Rattle.cat_names.specs.Fields.{Key}
use Rattle.cat_names.specs.declared.hash.Hash.{Hash}
use Rattle.cat_model.specs.declared.commit.Commit.{Commit}
use Rattle.cat_model.specs.declared.conflict.Conflict.{Conflict}
use Rattle.cat_model.specs.declared.conflict.ConflictKind.{ConflictKind}
use Rattle.cat_model.specs.declared.conflict.ConflictKind.TheVariants.{KeyExists, KeyDoesNotExist, PayloadDiffers, ContentIdDiffers, ValueDiffers, NamespaceAbsent, NotANamespace, NamespaceNotEmpty}
use Rattle.cat_model.specs.declared.entry.Entry.{Entry}
use Rattle.cat_model.specs.declared.entry.ContentKind.{ContentKind}
use Rattle.cat_model.specs.declared.entry.ContentKind.TheVariants.{IcebergTable, IcebergView, Namespace}
use Rattle.cat_model.specs.declared.merging.Behaviour.{Behaviour}
use Rattle.cat_model.specs.declared.merging.Behaviour.TheVariants.{Normal, Force, Drop}
use Rattle.cat_model.specs.declared.merging.Detail.{Detail}
use Rattle.cat_model.specs.declared.merging.Modes.{Modes}
use Rattle.cat_model.specs.Maps.{Map, Change}
use Rattle.cat_model.specs.Chain.{Commits}
use Rattle.cat_model.specs.Namespaces.{emptied_fault}
use Rattle.cat_model.specs.Base.{ancestors, base, common_ancestors, is_nearer}
use Rattle.cat_model.specs.Plan.{plan}

abbrev entry : ContentKind → ℕ → ℕ → Entry
entry kind id hash = record { kind = kind; id = record { bytes = id ∷ [] }; hash = record { bytes = hash ∷ [] } }

abbrev table : ℕ → ℕ → Entry
table = entry IcebergTable

abbrev space : ℕ → Entry
space id = entry Namespace id id

abbrev a : Key
a = codes "a" ∷ []

abbrev a-t : Key
a-t = codes "a" ∷ codes "t" ∷ []

abbrev b : Key
b = codes "b" ∷ []

abbrev all : Behaviour → Modes
all mode = record { default = mode; keys = [] }

-- the changes, the keys with their conflicts, and the map after
abbrev Short : Type 0
Short = List Change × (List (Key × Option ConflictKind) × Map)

abbrev conflict_at : Detail → Key × Option ConflictKind
conflict_at d = (d.key, d.conflict)

abbrev planned : Map → Map → Map → Modes → Short
planned base source target modes = ((plan base source target modes).ops, (map conflict_at (plan base source target modes).details, (plan base source target modes).map))

-- the conflicts, and the behaviour of each key
abbrev found : Map → Map → Map → Modes → List Conflict × List (Key × Behaviour)
found base source target modes = ((plan base source target modes).conflicts, map (λ d. (d.key, d.behaviour)) (plan base source target modes).details)

-- ---- one key

nothing_changed : planned ((a, table 1 1) ∷ []) ((a, table 1 1) ∷ []) ((a, table 1 2) ∷ []) (all Force) ≡ ([], ([], (a, table 1 2) ∷ []))
unfolding plan emptied_fault
nothing_changed = refl

only_the_source_changed : planned ((a, table 1 1) ∷ []) ((a, table 1 2) ∷ (b, table 2 1) ∷ []) ((a, table 1 1) ∷ []) (all Normal)
    ≡ ((a, Some (table 1 2)) ∷ (b, Some (table 2 1)) ∷ [], ((a, None) ∷ (b, None) ∷ [], (a, table 1 2) ∷ (b, table 2 1) ∷ []))
unfolding plan emptied_fault
only_the_source_changed = refl

the_source_deleted : planned ((a, table 1 1) ∷ []) [] ((a, table 1 1) ∷ []) (all Normal) ≡ ((a, None) ∷ [], ((a, None) ∷ [], []))
unfolding plan emptied_fault
the_source_deleted = refl

only_the_target_changed : planned ((a, table 1 1) ∷ (b, table 2 1) ∷ []) ((a, table 1 1) ∷ (b, table 2 2) ∷ []) ((a, table 1 3) ∷ (b, table 2 1) ∷ []) (all Normal)
    ≡ ((b, Some (table 2 2)) ∷ [], ((b, None) ∷ [], (a, table 1 3) ∷ (b, table 2 2) ∷ []))
unfolding plan emptied_fault
only_the_target_changed = refl

both_changed : planned ((a, table 1 1) ∷ []) ((a, table 1 2) ∷ []) ((a, table 1 3) ∷ []) (all Normal) ≡ ([], ((a, Some ValueDiffers) ∷ [], (a, table 1 3) ∷ []))
unfolding plan emptied_fault
both_changed = refl

both_changed_and_one_is_forced : planned ((a, table 1 1) ∷ []) ((a, table 1 2) ∷ []) ((a, table 1 3) ∷ []) (all Force) ≡ ((a, Some (table 1 2)) ∷ [], ((a, None) ∷ [], (a, table 1 2) ∷ []))
unfolding plan emptied_fault
both_changed_and_one_is_forced = refl

both_changed_and_one_is_dropped : planned ((a, table 1 1) ∷ []) ((a, table 1 2) ∷ []) ((a, table 1 3) ∷ []) (all Drop) ≡ ([], ((a, None) ∷ [], (a, table 1 3) ∷ []))
unfolding plan emptied_fault
both_changed_and_one_is_dropped = refl

a_dropped_key_is_not_deleted : planned ((a, table 1 1) ∷ []) [] ((a, table 1 1) ∷ []) (all Drop) ≡ ([], ((a, None) ∷ [], (a, table 1 1) ∷ []))
unfolding plan emptied_fault
a_dropped_key_is_not_deleted = refl

both_made_the_same_change : planned ((a, table 1 1) ∷ []) ((a, table 1 2) ∷ []) ((a, table 1 2) ∷ []) (all Normal) ≡ ([], ((a, None) ∷ [], (a, table 1 2) ∷ []))
unfolding plan emptied_fault
both_made_the_same_change = refl

both_made_the_same_change_by_force : planned ((a, table 1 1) ∷ []) ((a, table 1 2) ∷ []) ((a, table 1 2) ∷ []) (all Force) ≡ ([], ((a, None) ∷ [], (a, table 1 2) ∷ []))
unfolding plan emptied_fault
both_made_the_same_change_by_force = refl

both_deleted : planned ((a, table 1 1) ∷ []) [] [] (all Normal) ≡ ([], ((a, None) ∷ [], []))
unfolding plan emptied_fault
both_deleted = refl

the_target_deleted : planned ((a, table 1 1) ∷ []) ((a, table 1 2) ∷ []) [] (all Normal) ≡ ([], ((a, Some KeyDoesNotExist) ∷ [], []))
unfolding plan emptied_fault
the_target_deleted = refl

the_target_deleted_what_is_forced : planned ((a, table 1 1) ∷ []) ((a, table 1 2) ∷ []) [] (all Force) ≡ ((a, Some (table 1 2)) ∷ [], ((a, None) ∷ [], (a, table 1 2) ∷ []))
unfolding plan emptied_fault
the_target_deleted_what_is_forced = refl

the_source_deleted_what_the_target_changed : planned ((a, table 1 1) ∷ []) [] ((a, table 1 2) ∷ []) (all Normal) ≡ ([], ((a, Some ValueDiffers) ∷ [], (a, table 1 2) ∷ []))
unfolding plan emptied_fault
the_source_deleted_what_the_target_changed = refl

a_forced_delete : planned ((a, table 1 1) ∷ []) [] ((a, table 1 2) ∷ []) (all Force) ≡ ((a, None) ∷ [], ((a, None) ∷ [], []))
unfolding plan emptied_fault
a_forced_delete = refl

both_added : planned [] ((a, table 1 2) ∷ []) ((a, table 2 2) ∷ []) (all Normal) ≡ ([], ((a, Some KeyExists) ∷ [], (a, table 2 2) ∷ []))
unfolding plan emptied_fault
both_added = refl

another_type_at_the_target : planned ((a, table 1 1) ∷ []) ((a, table 1 2) ∷ []) ((a, entry IcebergView 1 1) ∷ []) (all Normal) ≡ ([], ((a, Some PayloadDiffers) ∷ [], (a, entry IcebergView 1 1) ∷ []))
unfolding plan emptied_fault
another_type_at_the_target = refl

another_id_at_the_target : planned ((a, table 1 1) ∷ []) ((a, table 1 2) ∷ []) ((a, table 3 1) ∷ []) (all Normal) ≡ ([], ((a, Some ContentIdDiffers) ∷ [], (a, table 3 1) ∷ []))
unfolding plan emptied_fault
another_id_at_the_target = refl

-- ---- modes

modes_of_keys : planned [] ((a, table 1 1) ∷ (b, table 2 1) ∷ []) ((a, table 3 1) ∷ (b, table 4 1) ∷ []) (record { default = Force; keys = (b, Drop) ∷ [] })
    ≡ ((a, Some (table 1 1)) ∷ [], ((a, None) ∷ (b, None) ∷ [], (a, table 1 1) ∷ (b, table 4 1) ∷ []))
unfolding plan emptied_fault
modes_of_keys = refl

conflicts_and_behaviours : found [] ((a, table 1 1) ∷ (b, table 2 1) ∷ []) ((a, table 3 1) ∷ (b, table 4 1) ∷ []) (record { default = Normal; keys = (b, Drop) ∷ [] })
    ≡ (record { key = Some a; kind = KeyExists } ∷ [], (a, Normal) ∷ (b, Drop) ∷ [])
unfolding plan emptied_fault
conflicts_and_behaviours = refl

keys_ascend : found [] ((a, table 1 1) ∷ (b, table 2 1) ∷ []) ((a, table 3 1) ∷ (b, table 4 1) ∷ []) (all Normal)
    ≡ (record { key = Some a; kind = KeyExists } ∷ record { key = Some b; kind = KeyExists } ∷ [], (a, Normal) ∷ (b, Normal) ∷ [])
unfolding plan emptied_fault
keys_ascend = refl

modes_of_keys_that_do_not_differ : found ((a, table 1 1) ∷ []) ((a, table 1 1) ∷ (b, table 2 1) ∷ []) [] (record { default = Normal; keys = (a, Force) ∷ (a-t, Drop) ∷ [] }) ≡ ([], (b, Normal) ∷ [])
unfolding plan emptied_fault
modes_of_keys_that_do_not_differ = refl

-- ---- namespaces hold in every mode

a_namespace_that_the_target_fills : planned ((a, space 1) ∷ []) [] ((a, space 1) ∷ (a-t, table 2 1) ∷ []) (all Force) ≡ ((a, None) ∷ [], ((a, Some NamespaceNotEmpty) ∷ [], (a-t, table 2 1) ∷ []))
unfolding plan emptied_fault
a_namespace_that_the_target_fills = refl

a_namespace_that_goes_with_its_keys : planned ((a, space 1) ∷ (a-t, table 2 1) ∷ []) [] ((a, space 1) ∷ (a-t, table 2 1) ∷ []) (all Normal) ≡ ((a, None) ∷ (a-t, None) ∷ [], ((a, None) ∷ (a-t, None) ∷ [], []))
unfolding plan emptied_fault
a_namespace_that_goes_with_its_keys = refl

a_namespace_that_the_target_deleted : planned ((a, space 1) ∷ []) ((a, space 1) ∷ (a-t, table 2 1) ∷ []) [] (all Normal) ≡ ((a-t, Some (table 2 1)) ∷ [], ((a-t, Some NamespaceAbsent) ∷ [], (a-t, table 2 1) ∷ []))
unfolding plan emptied_fault
a_namespace_that_the_target_deleted = refl

a_namespace_that_comes_with_its_key : planned [] ((a, space 1) ∷ (a-t, table 2 1) ∷ []) [] (all Normal)
    ≡ ((a, Some (space 1)) ∷ (a-t, Some (table 2 1)) ∷ [], ((a, None) ∷ (a-t, None) ∷ [], (a, space 1) ∷ (a-t, table 2 1) ∷ []))
unfolding plan emptied_fault
a_namespace_that_comes_with_its_key = refl

a_table_in_place_of_an_empty_namespace : planned ((a, space 1) ∷ []) ((a, table 2 1) ∷ []) ((a, space 1) ∷ []) (all Normal) ≡ ((a, Some (table 2 1)) ∷ [], ((a, None) ∷ [], (a, table 2 1) ∷ []))
unfolding plan emptied_fault
a_table_in_place_of_an_empty_namespace = refl

a_table_in_place_of_a_full_namespace : planned ((a, space 1) ∷ []) ((a, table 2 1) ∷ []) ((a, space 1) ∷ (a-t, table 3 1) ∷ []) (all Normal)
    ≡ ((a, Some (table 2 1)) ∷ [], ((a, Some NamespaceNotEmpty) ∷ [], (a, table 2 1) ∷ (a-t, table 3 1) ∷ []))
unfolding plan emptied_fault
a_table_in_place_of_a_full_namespace = refl

-- its key is left without a parent
a_dropped_namespace : planned [] ((a, space 1) ∷ (a-t, table 2 1) ∷ []) ((a, table 3 1) ∷ []) (record { default = Normal; keys = (a, Drop) ∷ [] })
    ≡ ((a-t, Some (table 2 1)) ∷ [], ((a, None) ∷ (a-t, Some NotANamespace) ∷ [], (a, table 3 1) ∷ (a-t, table 2 1) ∷ []))
unfolding plan emptied_fault
a_dropped_namespace = refl

-- ---- the merge base

abbrev numbered : ℕ → Hash
numbered n = record { bytes = n ∷ [] }

abbrev made : ℕ → ℕ → Option ℕ → ℕ → Hash × Commit
made hash parent merge_parent generation = (
  numbered hash,
  record {
    parent = numbered parent;
    merge_parent = option_map numbered merge_parent;
    generation = generation;
    time = 0;
    meta = record { message = []; authors = []; signed = []; properties = []; author_time = None };
    ops = [];
  },
)

-- two branches from 1, each merged into the other, 5 and 3 being of one generation
abbrev crossing : Commits
crossing = made 7 3 (Some 5) 3 ∷ made 8 5 (Some 3) 3 ∷ made 3 1 None 2 ∷ made 5 1 None 2 ∷ made 1 0 None 1 ∷ []

ancestors_by_both_parents : ancestors crossing (numbered 7) ≡ numbered 7 ∷ numbered 3 ∷ numbered 1 ∷ numbered 0 ∷ numbered 5 ∷ numbered 1 ∷ numbered 0 ∷ []
unfolding base common_ancestors is_nearer
ancestors_by_both_parents = refl

the_lesser_of_two : base crossing (numbered 7) (numbered 8) ≡ numbered 3
unfolding base common_ancestors is_nearer
the_lesser_of_two = refl

the_other_way_round : base crossing (numbered 8) (numbered 7) ≡ numbered 3
unfolding base common_ancestors is_nearer
the_other_way_round = refl

the_greater_generation : base crossing (numbered 3) (numbered 5) ≡ numbered 1
unfolding base common_ancestors is_nearer
the_greater_generation = refl

one_of_the_two : base crossing (numbered 7) (numbered 5) ≡ numbered 5
unfolding base common_ancestors is_nearer
one_of_the_two = refl

the_same : base crossing (numbered 5) (numbered 5) ≡ numbered 5
unfolding base common_ancestors is_nearer
the_same = refl

the_end_of_all_chains : base (made 9 0 None 1 ∷ crossing) (numbered 9) (numbered 8) ≡ numbered 0
unfolding base common_ancestors is_nearer
the_end_of_all_chains = refl

a_longer_chain_on_one_side : base (made 2 7 None 4 ∷ crossing) (numbered 2) (numbered 8) ≡ numbered 3
unfolding base common_ancestors is_nearer
a_longer_chain_on_one_side = refl
