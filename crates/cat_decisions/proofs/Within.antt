-- What is made passes no limit where the state before passes none.
use Rattle.std.proofs.Common.{◌≡◌, ◌≤◌, ◌+◌, List, [], ◌∷◌, length, Ok, true, IsTrue, refl, ap, subst, arith, length-append}
use Rattle.std.specs.List.{list_all}
use Rattle.std.proofs.lemmas.Bool.{le-leb}
use Rattle.cat_names.specs.declared.hash.Hash.{Hash}
use Rattle.cat_keymap.specs.KeyOrder.{both_true}
use Rattle.cat_model.specs.declared.limits.Limits.{Limits}
use Rattle.cat_model.specs.declared.reference.Reference.{Reference}
use Rattle.cat_model.specs.declared.reply.Reply.{Reply}
use Rattle.cat_model.specs.Chain.{entries}
use Rattle.cat_model.specs.Maps.{Map, after_changes}
use Rattle.cat_model.specs.Merges.{entries_set}
use Rattle.cat_model.specs.Refusing.{Outcome}
use Rattle.cat_model.specs.State.{State, moved_reference}
use Rattle.cat_frames.specs.Standing.{is_within}
use Rattle.cat_merge.specs.declared.plan.Planned.{Planned}
use Rattle.cat_merge.specs.Planned.{AreUpon}
use Rattle.cat_checks.specs.SizeLaws.{changes_grown}
use Rattle.cat_checks.specs.WithinLaws.{IsWithin, WithinOn, is_within_by, moved_low, next_within, within_is}
use Rattle.cat_state.specs.declared.additions.Additions.{Additions}
use Rattle.cat_state.specs.Adding.{moved_state}
use Rattle.cat_state.specs.Changing.{with_additions}
use Rattle.cat_state.specs.Keeping.{fits}
use Rattle.cat_state.specs.Planning.{AddsFew, all_fit}
use Rattle.cat_decisions.specs.Drafts.{all_set_in, changing, plans_of}
use Rattle.cat_decisions.specs.Settling.{HasRoom}
use Rattle.cat_decisions.proofs.Followed.{kept_pass}

-- what a step that passes no limit leaves
pub left_within : (state after : State) (reply : Reply) (taken : Outcome) → (IsWithin state → WithinOn taken) → taken ≡ Ok (after, reply) → IsTrue (is_within state) → IsTrue (is_within after)
left_within state after reply taken on is within = is_within_by after (subst WithinOn is (on (within_is state within)))

-- plans one upon the other have no more keys than there were, and are set
plans_fit : (limits : Limits) (before : Map) (planned : List Planned) → AreUpon before (plans_of planned) → length before + length (all_set_in planned) ≤ limits.keys → list_all (λ p. fits limits p.plan.map) planned ≡ true
plans_fit limits before [] upon low = refl
plans_fit limits before (p ∷ planned) upon low =
    let grown : length (after_changes p.plan.ops before) ≤ length before + length (entries_set p.plan.ops) = changes_grown p.plan.ops before in
    let same : length p.plan.map ≡ length (after_changes p.plan.ops before) = ap (λ (m : Map). length m) upon.0 in
    let sets : length (all_set_in (p ∷ planned)) ≡ length (entries_set p.plan.ops) + length (all_set_in planned) = length-append (entries_set p.plan.ops) (all_set_in planned) in
    both_true _ _ (le-leb _ _ (omega (arith, grown, same, sets, low))) (plans_fit limits p.plan.map planned upon.1 (omega (arith, grown, same, sets, low)))

module _ (state : State) (branch : Reference) (planned : List Planned) (a : Hash × Additions) (room : HasRoom state branch.head planned) (upon : AreUpon (entries state.commits branch.head) (plans_of planned)) (adds : AddsFew state (changing planned) a.1) where
  they_fit : all_fit state (changing planned) ≡ true
  they_fit = kept_pass (λ (p : Planned). fits state.limits p.plan.map) planned (plans_fit state.limits (entries state.commits branch.head) planned upon room.keys)

  -- the branch at the last of the commits of plans
  pub moved_within : IsTrue (is_within state) → IsTrue (is_within (moved_state (with_additions state a.1) (record branch { head = a.0 })))
  moved_within within =
      let before : IsWithin state = within_is state within in
      let after : State = with_additions state a.1 in
      let moved : Reference = record branch { head = a.0 } in
      let as_many : length after.present ≡ length state.present = ap length adds.present in
      let few : length after.commits ≤ state.limits.commits = omega (arith, adds.count, room.most) in
      let held : length after.present ≤ state.limits.contents = omega (arith, as_many, before.contents) in
      is_within_by (moved_state after moved) (next_within state (moved_reference state.references moved) after.commits after.present room.log (moved_low state moved before) few (adds.keys they_fit before.keys) held)
