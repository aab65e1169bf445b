-- The test of the room, as the code comes to it.
use Rattle.std.proofs.Common.{◌≡◌, ℕ, ◌+◌, ◌<◌, List, [], ◌∷◌, length, drop, get_or, None, Some, sym, ap, ◌∙◌, arith}
use Rattle.std.proofs.lemmas.List.{drop_more}
use Rattle.cat_model.specs.Maps.{Change, Map}
use Rattle.cat_model.specs.Merges as merges
use Rattle.cat_model.specs.Merges.{entries_set, needs_planned_room}
use Rattle.cat_model.specs.Refusing.{Tested}
use Rattle.cat_model.specs.State.{State}
use Rattle.cat_merge.specs.declared.plan.Planned.{Planned}
use Rattle.cat_merge.specs.Planned.{as_planned}
use Rattle.cat_decisions.specs.Drafts.{all_planned, all_set_in, changing}
use Rattle.cat_decisions.proofs.Lists.{length_mapped, made_are, sets_are}

sets_more : (x : Change) (ops : List Change) → length (entries_set (x ∷ ops)) ≡ length (entries_set (x ∷ [])) + length (entries_set ops)
sets_more (key, None) ops = omega arith
sets_more (key, Some entry) ops = omega arith

pub sets_left : (ops : List Change) (i : ℕ) (x : Change) → i < length ops → x ≡ get_or ops i x → length (entries_set (drop i ops)) ≡ length (entries_set (x ∷ [])) + length (entries_set (drop (i + 1) ops))
sets_left ops i x lt e =
    ap (λ (l : List Change). length (entries_set l)) (drop_more ops i x lt ∙ ap (λ (y : Change). y ∷ drop (i + 1) ops) (sym e)) ∙ sets_more x (drop (i + 1) ops)

pub room_by : (state : State) (at head : Map) (planned : List Planned) (commits sets : ℕ) (r : Tested) → head ≡ at → commits ≡ length (changing planned) → sets ≡ length (all_set_in planned)
    → ((ps : List merges.Planned) → length (merges.commits_made ps) ≡ commits → length (merges.all_set ps) ≡ sets → r ≡ needs_planned_room state head ps) → needs_planned_room state at (all_planned planned) ≡ r
room_by state at head planned commits sets r h n s test =
    let made : length (merges.commits_made (all_planned planned)) ≡ commits = ap length (made_are planned) ∙ length_mapped as_planned (changing planned) ∙ sym n in
    let set : length (merges.all_set (all_planned planned)) ≡ sets = ap length (sets_are planned) ∙ sym s in
    sym (test (all_planned planned) made set ∙ ap (λ (m : Map). needs_planned_room state m (all_planned planned)) h)
