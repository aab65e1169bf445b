-- Of states that are the same and have each content once, after states that are so place by place, the same sweep logs the same, keeps and removes as many contents, and leaves states that are so again.
use Rattle.std.proofs.Common.{◌≡◌, ◌≤◌, ℕ, zero, suc, ◌+◌, ◌-◌, List, [], ◌∷◌, ◌++◌, length, take, Ok, Err, not, refl, sym, ap, ap₂, subst, arith}
use Rattle.std.specs.List.{flat_map}
use Rattle.cat_names.specs.declared.hash.Hash.{Hash}
use Rattle.cat_model.specs.declared.content.Content.{Content}
use Rattle.cat_model.specs.declared.cutoff.Resolved.{Resolved}
use Rattle.cat_model.specs.declared.reference.Reference.{Reference}
use Rattle.cat_model.specs.declared.reply.Reply.TheVariants as replies
use Rattle.cat_model.specs.declared.sweep.Sweep.{Sweep}
use Rattle.cat_model.specs.Base.{is_among}
use Rattle.cat_model.specs.Cutoffs.{cutoff_for, live, live_from}
use Rattle.cat_model.specs.Refusing.{Outcome}
use Rattle.cat_model.specs.Resuming.{IsSameState}
use Rattle.cat_model.specs.State.{State}
use Rattle.cat_model.specs.Sweeps.{kept_by_names, kept_contents, live_since, names_in, needs_sweep_room, removed_contents, saved, since, step_sweep, sweep_call, sweep_entry, swept, swept_by}
use Rattle.cat_checks.specs.AlikeStates.{AreAlike, AreSameContents, contents_staying, holding, holding_alike, on_alike, same_bind}
use Rattle.cat_checks.specs.AlikeSteps.{AreCalledAlike, LeadAlike, OutcomesAlike, refused_alike}

-- ---- pasts

-- as many states, the same place by place
abbrev pub ArePastsAlike : List State → List State → Type 0
ArePastsAlike [] [] = Unit {0}
ArePastsAlike (x ∷ xs) (y ∷ ys) = IsSameState x y × ArePastsAlike xs ys
ArePastsAlike [] (y ∷ ys) = ⊥
ArePastsAlike (x ∷ xs) [] = ⊥

-- the second are the same as the first ones of the first, place by place
abbrev pub AreRecent : List State → List State → Type 0
AreRecent xs [] = Unit {0}
AreRecent (x ∷ xs) (y ∷ ys) = IsSameState x y × AreRecent xs ys
AreRecent [] (y ∷ ys) = ⊥

-- so are as many as one takes of both
pub recent_taken : (n : ℕ) (xs ys : List State) → AreRecent xs ys → n ≤ length ys → ArePastsAlike (take n xs) (take n ys)
recent_taken zero xs ys are low = tt
recent_taken (suc n) (x ∷ xs) (y ∷ ys) are low = (are.0, recent_taken n xs ys are.1 (omega (arith, low)))
recent_taken (suc n) [] (y ∷ ys) are low = absurd are
recent_taken (suc n) xs [] are low = absurd (omega (arith, low))

-- ---- what is live

live_alike : (policy : Resolved) (a b : State) → IsSameState a b → live b policy ≡ live a policy
unfolding live
live_alike policy a b same = λ i. flat_map (λ (r : Reference). live_from (same.commits i) (cutoff_for policy r.name) r.head) (same.references i)

lives_alike : (policy : Resolved) (xs ys : List State) → ArePastsAlike xs ys → live_since ys policy ≡ live_since xs policy
unfolding live_since
lives_alike policy [] [] are = refl
lives_alike policy (x ∷ xs) (y ∷ ys) are = ap₂ (λ (l m : List Hash). l ++ m) (live_alike policy x y are.0) (lives_alike policy xs ys are.1)
lives_alike policy [] (y ∷ ys) are = absurd are
lives_alike policy (x ∷ xs) [] are = absurd are

-- ---- what a sweep keeps

kept_alike : (hashes : List Hash) (p q : List (Hash × Content)) → AreSameContents p q → AreSameContents (kept_contents hashes p) (kept_contents hashes q)
unfolding kept_contents
kept_alike hashes p q same = contents_staying (is_among hashes) p q same

removed_alike : (hashes : List Hash) (p q : List (Hash × Content)) → AreSameContents p q → length (removed_contents hashes q) ≡ length (removed_contents hashes p)
unfolding removed_contents
removed_alike hashes p q same = (contents_staying (λ hash. not (is_among hashes hash)) p q same).count

swept_to_alike : (a : State) (p : List (Hash × Content)) → AreSameContents a.present p → (opened : ℕ) (hashes : List Hash) → OutcomesAlike (swept a opened hashes) (swept (holding a p) opened hashes)
swept_to_alike a p same opened hashes =
    let kept = kept_alike hashes a.present p same in
    let less : State = record a { place = a.place + 1; present = kept_contents hashes a.present } in (
      holding_alike less (kept_contents hashes p) kept,
      λ i. replies.Swept (record { kept = kept.count i; opened = opened; removed = removed_alike hashes a.present p same i }),
    )

held_sweep : (s : Sweep) (past before : List State) (a : State) (p : List (Hash × Content)) → AreSameContents a.present p → ArePastsAlike (take (a.place - s.opened) past) (take (a.place - s.opened) before)
    → OutcomesAlike (step_sweep a past s) (step_sweep (holding a p) before s)
unfolding step_sweep needs_sweep_room saved
held_sweep s past before a p same are =
    same_bind LeadAlike (needs_sweep_room a (length s.commits + length s.contents)) (needs_sweep_room (holding a p) (length s.commits + length s.contents)) _ _ refl (λ u.
    subst (λ (hashes : List Hash). OutcomesAlike (swept a s.opened (saved (since s.opened a past) a.commits s.policy (names_in s))) (swept (holding a p) s.opened hashes)) (sym hashes_alike)
    (swept_to_alike a p same s.opened (saved (since s.opened a past) a.commits s.policy (names_in s))))
  where
    hashes_alike : saved (since s.opened (holding a p) before) a.commits s.policy (names_in s) ≡ saved (since s.opened a past) a.commits s.policy (names_in s)
    hashes_alike =
        ap (λ (hashes : List Hash). hashes ++ kept_by_names a.commits (names_in s))
        (lives_alike s.policy (since s.opened a past) (since s.opened (holding a p) before) ((holding_alike a p same).same, are))

-- the step of a sweep comes to the same
pub step_sweep_alike : (s : Sweep) (past before : List State) (a b : State) → AreAlike a b → ArePastsAlike (take (a.place - s.opened) past) (take (b.place - s.opened) before) → OutcomesAlike (step_sweep a past s) (step_sweep b before s)
step_sweep_alike s past before a b alike =
    on_alike (λ (x y : State). ArePastsAlike (take (x.place - s.opened) past) (take (y.place - s.opened) before) → OutcomesAlike (step_sweep x past s) (step_sweep y before s))
    (λ x p same are. held_sweep s past before x p same are) a b alike

-- ---- what it brings

swept_alike : (caller m n moment : ℕ) (s : Sweep) (a b : State) (r t : Outcome) → AreAlike a b → OutcomesAlike r t → AreCalledAlike (swept_by caller a m moment s r) (swept_by caller b n moment s t)
swept_alike caller m n moment s a b (Err why) (Err other) alike is = refused_alike a b m n why other alike is
swept_alike caller m n moment s a b (Ok (after, reply)) (Ok (next, told)) alike is = record {
  said = λ i. Ok (record { place = is.0.same.place i; reply = is.1 i });
  logged = λ i. sweep_entry caller (is.0.same.place i) moment s ∷ [];
  state = is.0;
}
swept_alike caller m n moment s a b (Ok (after, reply)) (Err other) alike is = absurd is
swept_alike caller m n moment s a b (Err why) (Ok (next, told)) alike is = absurd is

-- a sweep comes to the same, whatever the last draft numbers are
pub sweep_alike : (caller m n moment : ℕ) (s : Sweep) (past before : List State) (a b : State) → AreAlike a b → ArePastsAlike (take (a.place - s.opened) past) (take (b.place - s.opened) before)
    → AreCalledAlike (sweep_call caller a past m moment s) (sweep_call caller b before n moment s)
unfolding sweep_call
sweep_alike caller m n moment s past before a b alike are = swept_alike caller m n moment s a b (step_sweep a past s) (step_sweep b before s) alike (step_sweep_alike s past before a b alike are)
