-- What plans come to: test by test.
use Rattle.std.proofs.Common.{◌≡◌, ℕ, List, [], ◌∷◌, length, Option, Some, None, Result, Ok, Err, Bool, true, false, ◌||◌, not, cond, if◌then◌else◌, refl, sym, ap, subst, ◌∙◌, arith}
use Rattle.std.specs.List.{list_any}
use Rattle.sha2.specs.Sha256.{sha256}
use Rattle.cat_names.specs.declared.hash.Hash.{Hash}
use Rattle.cat_model.specs.declared.command.Command.{Command}
use Rattle.cat_model.specs.declared.conflict.Conflict.{Conflict}
use Rattle.cat_model.specs.declared.merging.Detail.{Detail}
use Rattle.cat_model.specs.declared.reference.Reference.{Reference}
use Rattle.cat_model.specs.declared.refusal.Refusal.{Refusal}
use Rattle.cat_model.specs.declared.refusal.Refusal.TheVariants.{Conflicts}
use Rattle.cat_model.specs.declared.reply.Merged.{Merged}
use Rattle.cat_model.specs.declared.reply.Reply.{Reply}
use Rattle.cat_model.specs.declared.reply.Reply.TheVariants as replies
use Rattle.cat_model.specs.Chain.{entries}
use Rattle.cat_model.specs.Merges as merges
use Rattle.cat_model.specs.Merges.{all_conflicts, applied, commits_made, merge_reply, needs_planned_room, needs_set_contents, step_applied, step_planned, step_unless_conflicts, with_planned}
use Rattle.cat_model.specs.Refusing.{◌>>=◌, Outcome, Tested}
use Rattle.cat_model.specs.State.{State}
use Rattle.cat_merge.specs.declared.plan.Planned.{Planned}
use Rattle.cat_merge.specs.Planned.{AreUpon}
use Rattle.cat_state.specs.declared.additions.Additions.{Additions}
use Rattle.cat_state.specs.declared.failure.Failure.{Failure}
use Rattle.cat_state.specs.Adding.{moved_state}
use Rattle.cat_state.specs.Changing.{with_additions}
use Rattle.cat_state.specs.Giving.{Fails}
use Rattle.cat_state.specs.GivingLaws.{fails_on}
use Rattle.cat_decisions.specs.declared.decision.Decision.{Decision}
use Rattle.cat_decisions.specs.declared.drafts.Draft.{Draft}
use Rattle.cat_decisions.specs.Drafts.{all_conflicts_in, all_details_in, all_planned, changing, plans_for, plans_of}
use Rattle.cat_decisions.specs.Settling.{AreAdded, HasRoom, Settles, decision_of, reply_at, told_or_refused}
use Rattle.cat_decisions.proofs.Lists.{any_is, conflicts_are, details_are, is_filled, made_are}
use Rattle.cat_decisions.proofs.Within.{moved_within}

none_left : {A : Type 0} (xs : List A) → length xs ≡ 0 → xs ≡ []
none_left [] e = refl
none_left (x ∷ xs) e = absurd (omega (arith, e))

some_left : {A : Type 0} (xs : List A) → (length xs ≡ 0 → ⊥) → is_filled xs ≡ true
some_left [] some = absurd (some refl)
some_left (x ∷ xs) some = refl

-- the branch stays as it is where the call is only tried, or no plan changes anything
abbrev is_kept : Bool → List Planned → Bool
is_kept tried made = tried || not (is_filled made)

-- no commits leave the state as it is
none_made : (moment : ℕ) (state : State) (head : Hash) (made : List Planned) → length made ≡ 0 → with_planned sha256 moment state head (all_planned made) ≡ Ok (head, state)
none_made moment state head made none = ap (λ (l : List Planned). with_planned sha256 moment state head (all_planned l)) (none_left made none)

nothing_made : (made : List Planned) → length made ≡ 0 → is_kept false made ≡ true
nothing_made made none = ap (λ (l : List Planned). not (is_filled l)) (none_left made none)

-- a reply without a change
abbrev telling : State → Result Merged Refusal → Outcome
telling state r = r >>= λ m. Ok (state, replies.Merged m)

clash_by : (state : State) (told : Bool) (said : Reply) (reply : Merged) (conflicts : List Conflict) → said ≡ replies.Merged reply → (if told then Ok (state, said) else Err (Conflicts conflicts)) ≡ telling state (told_or_refused told reply conflicts)
clash_by state true said reply conflicts e = ap (λ (r : Reply). Ok (state, r)) e
clash_by state false said reply conflicts e = refl

pub clash_told : (state : State) (step : Outcome) (answer : Result Merged Refusal) (m : Merged) → step ≡ telling state answer → answer ≡ Ok m → step ≡ Ok (state, replies.Merged m)
clash_told state step answer m is e = is ∙ ap (telling state) e

module _ (state : State) (d : Draft) (branch : Reference) (opened moment : ℕ) where
  abbrev its_plans : merges.Plans
  its_plans = plans_for d branch opened moment

  reply_is : (details : List Detail) (head : Hash) (was_applied was_successful : Bool) → details ≡ all_details_in d.planned.items
      → merge_reply its_plans head was_applied was_successful ≡ replies.Merged (reply_at d.ancestor details branch head was_applied was_successful)
  reply_is details head was_applied was_successful e =
      ap (λ (l : List Detail). replies.Merged (reply_at d.ancestor l branch head was_applied was_successful)) (details_are d.planned.items ∙ sym e)

  -- ---- once the contents are held

  -- what follows
  abbrev after_contents : List merges.Planned → Bool → Outcome
  after_contents made stays =
      with_planned sha256 moment state branch.head made >>= λ x.
      Ok (cond stays (state, merge_reply its_plans branch.head false true) (moved_state x.1 (record branch { head = x.0 }), merge_reply its_plans x.0 true true))

  contents_held : needs_set_contents state (all_planned d.planned.items) opened ≡ Ok tt
      → step_applied sha256 state its_plans ≡ after_contents (all_planned (changing d.planned.items)) (is_kept d.asked.dry_run (changing d.planned.items))
  unfolding step_applied
  contents_held held =
      ap (λ (r : Tested). r >>= λ _. with_planned sha256 moment state branch.head (commits_made (all_planned d.planned.items)) >>= λ made. Ok (applied state its_plans made)) held
      ∙ ap (λ (l : List merges.Planned). after_contents l (d.asked.dry_run || not (list_any (λ p. merges.has_changes p.plan.ops) (all_planned d.planned.items)))) (made_are d.planned.items)
      ∙ ap (λ (b : Bool). after_contents (all_planned (changing d.planned.items)) (d.asked.dry_run || not b)) (any_is d.planned.items)

  -- what plans set is gone
  pub contents_refused : (failure : Failure) → Fails failure (needs_set_contents state (all_planned d.planned.items) opened) → Fails failure (step_applied sha256 state its_plans)
  unfolding step_applied
  contents_refused failure fails = fails_on failure (needs_set_contents state (all_planned d.planned.items) opened) _ fails

  -- a commit is refused
  pub commits_refused : (failure : Failure) → needs_set_contents state (all_planned d.planned.items) opened ≡ Ok tt
      → Fails failure (with_planned sha256 moment state branch.head (all_planned (changing d.planned.items))) → Fails failure (step_applied sha256 state its_plans)
  commits_refused failure held fails =
      subst (λ (o : Outcome). Fails failure o) (sym (contents_held held)) (fails_on failure (with_planned sha256 moment state branch.head (all_planned (changing d.planned.items))) _ fails)

  -- ---- what commits come to, if there are any

  module _ (details : List Detail) (held : needs_set_contents state (all_planned d.planned.items) opened ≡ Ok tt) (are : details ≡ all_details_in d.planned.items) where
    -- nothing is changed
    stays_is : (x : Hash × State) → with_planned sha256 moment state branch.head (all_planned (changing d.planned.items)) ≡ Ok x → is_kept d.asked.dry_run (changing d.planned.items) ≡ true
        → step_applied sha256 state its_plans ≡ Ok (state, replies.Merged (reply_at d.ancestor details branch branch.head false true))
    stays_is x made stays =
        contents_held held
        ∙ ap (λ (b : Bool). after_contents (all_planned (changing d.planned.items)) b) stays
        ∙ ap (λ (r : Result (Hash × State) Refusal). r >>= λ _. Ok (state, merge_reply its_plans branch.head false true)) made
        ∙ ap (λ (r : Reply). Ok (state, r)) (reply_is details branch.head false true are)

    -- the branch is moved
    moved_is : (x : Hash × State) → with_planned sha256 moment state branch.head (all_planned (changing d.planned.items)) ≡ Ok x → is_kept d.asked.dry_run (changing d.planned.items) ≡ false
        → step_applied sha256 state its_plans ≡ Ok (moved_state x.1 (record branch { head = x.0 }), replies.Merged (reply_at d.ancestor details branch x.0 true true))
    moved_is x made stays =
        contents_held held
        ∙ ap (λ (b : Bool). after_contents (all_planned (changing d.planned.items)) b) stays
        ∙ ap (λ (r : Result (Hash × State) Refusal). r >>= λ x. Ok (moved_state x.1 (record branch { head = x.0 }), merge_reply its_plans x.0 true true)) made
        ∙ ap (λ (r : Reply). Ok (moved_state x.1 (record branch { head = x.0 }), r)) (reply_is details x.0 true true are)

    module _ (command : Command) (room : HasRoom state branch.head d.planned.items) (upon : AreUpon (entries state.commits branch.head) (plans_of d.planned.items)) where
      kept_as : (tried : Bool) → d.asked.dry_run ≡ tried → is_kept d.asked.dry_run (changing d.planned.items) ≡ is_kept tried (changing d.planned.items)
      kept_as tried is = ap (λ (t : Bool). is_kept t (changing d.planned.items)) is

      by_tried : (tried : Bool) (added : Option (Hash × Additions)) → d.asked.dry_run ≡ tried → AreAdded moment state branch.head (changing d.planned.items) added
          → Settles state command (step_applied sha256 state its_plans) (Ok (decision_of d.ancestor details branch tried command added))
      by_tried true None is there = stays_is (branch.head, state) (none_made moment state branch.head (changing d.planned.items) there) (kept_as true is)
      by_tried true (Some a) is there = stays_is (a.0, with_additions state a.1) there.step (kept_as true is)
      by_tried false None is there = stays_is (branch.head, state) (none_made moment state branch.head (changing d.planned.items) there) (kept_as false is ∙ nothing_made (changing d.planned.items) there)
      by_tried false (Some a) is there = record {
        step = moved_is (a.0, with_additions state a.1) there.step (kept_as false is ∙ ap not (some_left (changing d.planned.items) there.some));
        may = record { place = room.place; additions = there.new; reference = there.last; within = moved_within state branch d.planned.items a room upon there.adds };
        command = refl;
        head = refl;
      }

      pub decision_settles : (added : Option (Hash × Additions)) → AreAdded moment state branch.head (changing d.planned.items) added
          → Settles state command (step_applied sha256 state its_plans) (Ok (decision_of d.ancestor details branch d.asked.dry_run command added))
      decision_settles added there = by_tried d.asked.dry_run added refl there

  -- ---- conflicts and room, which are tested before

  clash_of : (details : List Detail) (conflicts : List Conflict) → details ≡ all_details_in d.planned.items → (length conflicts ≡ 0 → ⊥)
      → step_unless_conflicts sha256 state its_plans conflicts ≡ telling state (told_or_refused d.asked.conflicts_as_result (reply_at d.ancestor details branch branch.head false false) conflicts)
  clash_of details [] are some = absurd (some refl)
  clash_of details (x ∷ conflicts) are some =
      clash_by state d.asked.conflicts_as_result (merge_reply its_plans branch.head false false) (reply_at d.ancestor details branch branch.head false false) (x ∷ conflicts) (reply_is details branch.head false false are)

  -- conflicts refuse, or are the reply
  pub clash_is : (details : List Detail) (conflicts : List Conflict) → conflicts ≡ all_conflicts_in d.planned.items → details ≡ all_details_in d.planned.items → (length conflicts ≡ 0 → ⊥)
      → step_unless_conflicts sha256 state its_plans (all_conflicts_in d.planned.items) ≡ telling state (told_or_refused d.asked.conflicts_as_result (reply_at d.ancestor details branch branch.head false false) conflicts)
  clash_is details conflicts is are some = ap (step_unless_conflicts sha256 state its_plans) (sym is) ∙ clash_of details conflicts are some

  -- there is room
  pub has_room : (command : Command) (r : Result Decision Failure) → needs_planned_room state (entries state.commits branch.head) (all_planned d.planned.items) ≡ Ok tt
      → Settles state command (step_unless_conflicts sha256 state its_plans (all_conflicts_in d.planned.items)) r → Settles state command (step_planned sha256 state its_plans) r
  has_room command r room comes =
      subst (λ (o : Outcome). Settles state command o r)
      (sym (ap (λ (t : Tested). t >>= λ _. step_unless_conflicts sha256 state its_plans (all_conflicts (all_planned d.planned.items))) room
      ∙ ap (step_unless_conflicts sha256 state its_plans) (conflicts_are d.planned.items))) comes
