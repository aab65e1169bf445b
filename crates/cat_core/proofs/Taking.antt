-- What is marked where a sweep is executed again.
use Rattle.std.proofs.Common.{◌≡◌, ℕ, ◌-◌, List, [], ◌∷◌, ◌++◌, Option, Some, None, Bool, ◌||◌, drop, length, take, map, refl, sym, ap, ◌∙◌}
use Rattle.std.proofs.lemmas.List.{length-drop}
use Rattle.std.specs.List.{flat_map}
use Rattle.cat_mark.specs.Marks.{live_of}
use Rattle.cat_model.specs.declared.cutoff.Resolved.{Resolved}
use Rattle.cat_model.specs.declared.reference.Reference.{Reference}
use Rattle.cat_model.specs.declared.sweep.Sweep.{Sweep}
use Rattle.cat_model.specs.Base.{is_among}
use Rattle.cat_model.specs.Chain.{Commits}
use Rattle.cat_model.specs.Cutoffs.{live, live_from}
use Rattle.cat_model.specs.State.{State}
use Rattle.cat_model.specs.Sweeps.{kept_by_names, names_in}
use Rattle.cat_names.specs.declared.hash.Hash.{Hash}
use Rattle.cat_core.specs.Sweeping.{live_at, live_taken, rooted}
use Rattle.cat_core.specs.Sweeps.{head_at, head_taken, if_head, roots_taken}
use Rattle.cat_core.proofs.Completing.{lists_both, lists_map, or_assoc, roots_both}
use Rattle.cat_core.proofs.Giving.{all_taken}
use Rattle.cat_core.proofs.Looking.{among_both}

-- from the heads of references that were taken
taken_live : (commits : Commits) (policy : Resolved) (taken : List (Option Reference)) → flat_map (λ head. live_from commits head.1 head.0) (flat_map (λ t. if_head (head_taken policy t)) taken) ≡ live_taken commits policy taken
taken_live commits policy [] = refl
taken_live commits policy (None ∷ taken) = taken_live commits policy taken
taken_live commits policy (Some r ∷ taken) = ap (λ (l : List Hash). live_at commits policy r ++ l) (taken_live commits policy taken)

-- the roots of a sweep that is executed again keep what is live now, what was live from what was taken, and what its names keep
pub keeps_rooted : (first : ℕ) (state : State) (taken : List (Option Reference)) (s : Sweep) (hash : Hash) → is_among (live_of state.commits (roots_taken s.policy state.references (drop (s.opened - first) taken) (names_in s))) hash ≡ is_among (rooted first state taken s) hash
unfolding live
keeps_rooted first state taken s hash =
    let since = drop (s.opened - first) taken in
    let references = map (head_at s.policy) state.references in
    let made = flat_map (λ t. if_head (head_taken s.policy t)) since in
    let named = kept_by_names state.commits (names_in s) in
    roots_both state.commits (references ++ made) (names_in s) hash
    ∙ ap (λ (b : Bool). b || is_among named hash)
    (ap (λ (l : List Hash). is_among l hash) (lists_both (λ head. live_from state.commits head.1 head.0) references made)
    ∙ among_both (flat_map (λ head. live_from state.commits head.1 head.0) references) (flat_map (λ head. live_from state.commits head.1 head.0) made) hash
    ∙ (λ i. is_among (lists_map (λ head. live_from state.commits head.1 head.0) (head_at s.policy) state.references i) hash || is_among (taken_live state.commits s.policy since i) hash))
    ∙ or_assoc (is_among (live state s.policy) hash) (is_among (live_taken state.commits s.policy since) hash) (is_among named hash)
    ∙ ap (λ (b : Bool). is_among (live state s.policy) hash || b) (sym (among_both (live_taken state.commits s.policy since) named hash))
    ∙ sym (among_both (live state s.policy) (live_taken state.commits s.policy since ++ named) hash)

-- a slice from an index on is what stands behind the first ones
pub slice_is : {A : Type 0} (xs : List A) (n : ℕ) → take (length xs - n) (drop n xs) ≡ drop n xs
slice_is xs n = all_taken (drop n xs) (length xs - n) (sym (length-drop n xs))
