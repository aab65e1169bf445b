-- Which states a log may start from: what each state keeps that entries lead to, and no limit is passed.
use Rattle.std.specs.Prelude.{List, [], ◌∷◌, Option, Some, None, Bool, true, false, ◌&&◌, ◌||◌, not, length, max, nat_eq, nat_le, is_none, is_some, codes}
use Rattle.std.specs.List.{list_all}
use Rattle.std.specs.Option.{option_map_or}
use Rattle.cat_names.specs.declared.hash.Hash.{Hash}
use Rattle.cat_model.specs.declared.commit.Commit.{Commit}
use Rattle.cat_model.specs.declared.content.Content.{Content}
use Rattle.cat_model.specs.declared.reference.Reference.{Reference}
use Rattle.cat_model.specs.declared.reference.Kind.TheVariants.{Branch}
use Rattle.cat_model.specs.Chain.{Commits, commit_of, entries}
use Rattle.cat_model.specs.Maps.{Map, after_changes}
use Rattle.cat_model.specs.Merges.{generation_after}
use Rattle.cat_model.specs.Namespaces.{is_well_formed}
use Rattle.cat_model.specs.Same.{same_hash, same_kind}
use Rattle.cat_model.specs.State.{Digest, State, content_at, no_ancestor, reference_of}

-- ---- commits

-- a commit has the hash, or it is the one that has no ancestor
abbrev pub knows : Digest → Commits → Hash → Bool
knows digest commits hash = is_some (commit_of commits hash) || same_hash (no_ancestor digest) hash

abbrev pub knows_other : Digest → Commits → Option Hash → Bool
knows_other digest commits None = true
knows_other digest commits (Some hash) = knows digest commits hash

-- a commit above older ones, none of which has its hash: its parents are known, and its generation is one more than the greatest of theirs
abbrev pub stands_above : Digest → Commits → Hash → Commit → Bool
stands_above digest older hash c =
    is_none (commit_of older hash)
    && not (same_hash (no_ancestor digest) hash)
    && knows digest older c.parent
    && knows_other digest older c.merge_parent
    && nat_eq c.generation (generation_after older c.parent c.merge_parent)

abbrev pub are_above : Digest → Commits → Bool
are_above digest [] = true
are_above digest (x ∷ older) = stands_above digest older x.0 x.1 && are_above digest older

-- the map at each commit, which is its changes of that at its parent, passes a test
abbrev pub maps_pass : (Map → Bool) → Commits → Bool
maps_pass test [] = true
maps_pass test (x ∷ older) = test (after_changes x.1.ops (entries older x.1.parent)) && maps_pass test older

-- ---- references

-- the default branch is there, and is a branch
abbrev pub has_main : List Reference → Bool
has_main references = option_map_or (λ r. same_kind r.kind Branch) (reference_of references (codes "main")) false

-- each points at what is known
abbrev pub heads_known : Digest → Commits → List Reference → Bool
heads_known digest commits references = list_all (λ r. knows digest commits r.head) references

-- each content that is visible where one points is there
abbrev pub shows_present : Commits → List (Hash × Content) → Reference → Bool
shows_present commits present r = list_all (λ x. is_some (content_at present x.1.hash)) (entries commits r.head)

abbrev pub heads_shown : Commits → List (Hash × Content) → List Reference → Bool
heads_shown commits present references = list_all (shows_present commits present) references

-- ---- states whose names and hashes are distinct, each record under its hash

-- all holds that each state keeps
unfoldable pub is_whole : Digest → State → Bool
is_whole digest state =
    are_above digest state.commits
    && maps_pass is_well_formed state.commits
    && has_main state.references
    && heads_known digest state.commits state.references
    && heads_shown state.commits state.present state.references

-- it has no more than its limits say; one reference there may be, whatever they say
unfoldable pub is_within : State → Bool
is_within state =
    nat_le (length state.references) (max 1 state.limits.references)
    && nat_le state.place state.limits.log
    && nat_le (length state.commits) state.limits.commits
    && maps_pass (λ map. nat_le (length map) state.limits.keys) state.commits
    && nat_le (length state.present) state.limits.contents

-- a log may start from it
abbrev pub may_start : Digest → State → Bool
may_start digest state = is_whole digest state && is_within state
