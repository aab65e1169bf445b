-- Merges and transplants keep what each state keeps.
use Rattle.std.proofs.Common.{◌≡◌, ℕ, ◌+◌, max, List, [], ◌∷◌, ◌++◌, map, Option, Some, None, Ok, Err, Bool, true, false, not, ◌||◌, is_some, if◌then◌else◌, refl, sym, ap, subst, ◌∙◌, arith}
use Rattle.std.specs.List.{list_all, list_any}
use Rattle.sha2.specs.Sha256.{sha256}
use Rattle.cat_names.specs.Fields.{Key}
use Rattle.cat_names.specs.declared.hash.Hash.{Hash}
use Rattle.cat_model.specs.declared.command.Merge.{Merge}
use Rattle.cat_model.specs.declared.command.Transplant.{Transplant}
use Rattle.cat_model.specs.declared.commit.Commit.{Commit}
use Rattle.cat_model.specs.declared.conflict.Conflict.{Conflict}
use Rattle.cat_model.specs.declared.entry.Entry.{Entry}
use Rattle.cat_model.specs.declared.merging.Modes.{Modes}
use Rattle.cat_model.specs.declared.reference.Reference.{Reference}
use Rattle.cat_model.specs.declared.refusal.Reason.TheVariants.{NotConsecutive}
use Rattle.cat_model.specs.declared.refusal.Refusal.{Refusal}
use Rattle.cat_model.specs.declared.refusal.Refusal.TheVariants.{BadRequest, Conflicts}
use Rattle.cat_model.specs.declared.reply.Reply.{Reply}
use Rattle.cat_model.specs.Base.{base}
use Rattle.cat_model.specs.Chain.{Commits, entries, generation}
use Rattle.cat_model.specs.Maps.{Change, IsMap, Map, after_changes}
use Rattle.cat_model.specs.Merges.{Planned, Plans, all_conflicts, all_set, commits_made, entries_set, generation_after, has_changes, merge_opening, merge_planned, merge_plans, needs_planned_room, needs_set_contents, planned_commit, step_applied, step_merge, step_planned, step_unless_conflicts, with_planned}
use Rattle.cat_model.specs.Namespaces.{is_well_formed}
use Rattle.cat_model.specs.Plan.{Plan, plan}
use Rattle.cat_model.specs.Records.{with_commit}
use Rattle.cat_model.specs.Refusing.{named, needs, needs_branch, pointed}
use Rattle.cat_model.specs.State.{State, commit_hash, content_at}
use Rattle.cat_model.specs.Transplants.{are_consecutive, change_made, commits_at, needs_on_chain, plan_each, step_transplant, transplant_opening, transplant_planned, transplant_plans, with_metas}
use Rattle.cat_frames.specs.Standing.{maps_pass}
use Rattle.cat_graph.specs.Linked.{AreLinked, is_known, is_merge_known, merge_generation}
use Rattle.cat_tables.specs.ReferenceLaws.{and_true, both_true}
use Rattle.cat_checks.specs.KeptMaps.{HaveTheirMaps}
use Rattle.cat_checks.specs.WithinLaws.{first_of}
use Rattle.cat_state.specs.HeldLaws.{all_after, all_more, set_there}
use Rattle.cat_state.specs.Keeping.{has_contents}
use Rattle.cat_state.proofs.Held.{map_stays}
use Rattle.cat_core.proofs.FullStates.{FullOn, IsFull, all_left, full_bind, named_is, pointed_known}
use Rattle.cat_core.proofs.FullSteps.{IsAt, branch_at, same_ok}
use Rattle.cat_core.proofs.PlannedMaps.{plan_upon}
use Rattle.cat_core.proofs.RaisedStates.{IsRaised, MayStand, StandsOn, commit_stands, map_ascends, map_formed, raised_full, raised_on, raised_self}

-- ---- plans upon a map

-- each plan is of changes of the map after the one before, and leaves a well-formed one
abbrev AreUpon : Map → List Planned → Type 0
AreUpon onto [] = Unit {0}
AreUpon onto (p ∷ planned) = (p.plan.map ≡ after_changes p.plan.ops onto) × (is_well_formed p.plan.map ≡ true) × AreUpon p.plan.map planned

both_empty : {A : Type 0} (xs ys : List A) → xs ++ ys ≡ [] → (xs ≡ []) × (ys ≡ [])
both_empty [] ys e = (refl, e)
both_empty (x ∷ xs) ys e = absurd cc

each_upon : (modes : Modes) (metas : Commits) (onto : Map) (changes : List (Map × Map)) → IsMap onto → is_well_formed onto ≡ true → all_conflicts (with_metas metas (plan_each modes onto changes)) ≡ [] → AreUpon onto (with_metas metas (plan_each modes onto changes))
each_upon modes [] onto changes is well none = tt
each_upon modes (x ∷ others) onto [] is well none = tt
each_upon modes (x ∷ others) onto (change ∷ changes) is well none =
    let one : Plan = plan change.0 change.1 onto modes in
    let parts = both_empty one.conflicts (all_conflicts (with_metas others (plan_each modes one.map changes))) none in
    let upon = plan_upon change.0 change.1 onto modes is well parts.0 in
    (upon.0, upon.1, each_upon modes others one.map changes upon.2 upon.1 parts.1)

no_changes : (ops : List Change) → has_changes ops ≡ false → ops ≡ []
no_changes [] e = refl
no_changes (change ∷ ops) e = absurd cc

-- a plan without changes leaves the map
made_upon : (onto : Map) (planned : List Planned) → AreUpon onto planned → AreUpon onto (commits_made planned)
made_upon onto [] are = tt
made_upon onto (p ∷ planned) are = by (has_changes p.plan.ops) refl (made_upon p.plan.map planned are.2)
  where
    by : (t : Bool) → has_changes p.plan.ops ≡ t → AreUpon p.plan.map (commits_made planned) → AreUpon onto (if t then p ∷ commits_made planned else commits_made planned)
    by true e rest = (are.0, are.1, rest)
    by false e rest =
        let same : p.plan.map ≡ onto = are.0 ∙ ap (λ (ops : List Change). after_changes ops onto) (no_changes p.plan.ops e) in
        subst (λ (m : Map). AreUpon m (commits_made planned)) same rest

-- ---- their commits

merge_stays : (older newer : Commits) (other : Option Hash) → ((hash : Hash) → is_known older hash ≡ true → is_known newer hash ≡ true) → is_merge_known older other ≡ true → is_merge_known newer other ≡ true
merge_stays older newer None grows e = refl
merge_stays older newer (Some hash) grows e = grows hash e

generation_next : (commits : Commits) (parent : Hash) (other : Option Hash) → generation_after commits parent other ≡ max (generation commits parent) (merge_generation commits other) + 1
generation_next commits parent None = by (generation commits parent)
  where
    by : (own : ℕ) → own + 1 ≡ max own 0 + 1
    by own = omega arith
generation_next commits parent (Some hash) = refl

all_parts : {A : Type 0} (test : A → Bool) (xs ys : List A) → list_all test (xs ++ ys) ≡ true → (list_all test xs ≡ true) × (list_all test ys ≡ true)
all_parts test [] ys all = (refl, all)
all_parts test (x ∷ xs) ys all =
    let both = and_true (test x) (list_all test (xs ++ ys)) all in
    let rest = all_parts test xs ys both.1 in
    (both_true _ _ both.0 rest.0, rest.1)

-- what they leave: a state with more, and a head that is known there, whose contents are there
record PlansStand (x : State) (made : Hash × State) : Type 0 where
  raised : IsRaised x made.1
  known : is_known made.1.commits made.0 ≡ true
  shown : has_contents made.1.present (entries made.1.commits made.0) ≡ true

plans_stand : (moment : ℕ) (planned : List Planned) (x : State) (head : Hash) (made : Hash × State) → AreLinked x.commits → maps_pass is_well_formed x.commits ≡ true → is_known x.commits head ≡ true → AreUpon (entries x.commits head) planned
    → list_all (λ (p : Planned). is_merge_known x.commits p.merge_parent) planned ≡ true → HaveTheirMaps sha256 moment x head planned → has_contents x.present (entries x.commits head) ≡ true → has_contents x.present (all_set planned) ≡ true
    → with_planned sha256 moment x head planned ≡ Ok made → PlansStand x made
plans_stand moment [] x head made linked formed known upon merged have held set is =
    subst (PlansStand x) (same_ok (head, x) made is) (record { raised = raised_self x linked formed; known = known; shown = held })
plans_stand moment (p ∷ planned) x head made linked formed known upon merged have held set is =
    let commit : Commit = planned_commit x.commits head moment p in
    let hash : Hash = commit_hash sha256 commit in
    let one = first_of (with_commit sha256 x commit) (λ more. with_planned sha256 moment more hash planned) made is in
    let y : State = one.0 in
    let parents = and_true (is_merge_known x.commits p.merge_parent) (list_all (λ (p : Planned). is_merge_known x.commits p.merge_parent) planned) merged in
    let sets = all_parts (λ (e : Key × Entry). is_some (content_at x.present e.1.hash)) (entries_set p.plan.ops) (all_set planned) set in
    let may : MayStand x commit = record {
      parent = known;
      merge_parent = parents.0;
      generation = generation_next x.commits head p.merge_parent;
      formed = subst (λ (m : Map). is_well_formed m ≡ true) upon.0 upon.1;
      kept = have.0;
    } in
    let stands : StandsOn x y commit = commit_stands x y commit linked formed may one.1 in
    let there : has_contents y.present (entries y.commits hash) ≡ true =
    ap (has_contents y.present) stands.shown
    ∙ map_stays x.present y.present (after_changes p.plan.ops (entries x.commits head)) stands.raised.there (all_after (λ (e : Key × Entry). is_some (content_at x.present e.1.hash)) p.plan.ops (entries x.commits head) sets.0 held) in
    let rest : PlansStand y made =
    plans_stand moment planned y hash made stands.raised.linked stands.raised.formed stands.known
    (subst (λ (m : Map). AreUpon m planned) (sym (stands.shown ∙ sym upon.0)) upon.2)
    (all_more (λ (q : Planned). is_merge_known x.commits q.merge_parent) (λ (q : Planned). is_merge_known y.commits q.merge_parent) planned (λ q e. merge_stays x.commits y.commits q.merge_parent stands.raised.known e) parents.1)
    (have.1 y one.1) there
    (map_stays x.present y.present (all_set planned) stands.raised.there sets.1) one.2 in
    record { raised = raised_on x y made.1 stands.raised rest.raised; known = rest.known; shown = rest.shown }

-- ---- their step

made_set : (test : Key × Entry → Bool) (planned : List Planned) → list_all test (all_set planned) ≡ true → list_all test (all_set (commits_made planned)) ≡ true
made_set test [] all = refl
made_set test (p ∷ planned) all =
    let parts = all_parts test (entries_set p.plan.ops) (all_set planned) all in
    by (has_changes p.plan.ops) parts.0 (made_set test planned parts.1)
  where
    by : (t : Bool) → list_all test (entries_set p.plan.ops) ≡ true → list_all test (all_set (commits_made planned)) ≡ true → list_all test (all_set (if t then p ∷ commits_made planned else commits_made planned)) ≡ true
    by true own rest = all_joined (entries_set p.plan.ops) own rest
      where
        all_joined : (xs : Map) → list_all test xs ≡ true → list_all test (all_set (commits_made planned)) ≡ true → list_all test (xs ++ all_set (commits_made planned)) ≡ true
        all_joined [] own rest = rest
        all_joined (x ∷ xs) own rest = let both = and_true (test x) (list_all test xs) own in both_true _ _ both.0 (all_joined xs both.1 rest)
    by false own rest = rest

full_choice : (test : Bool) (x y : State × Reply) → IsFull x.0 → IsFull y.0 → IsFull (if test then x else y).0
full_choice true x y p q = p
full_choice false x y p q = q

outcome_choice : (test : Bool) (x : State × Reply) (why : Refusal) → IsFull x.0 → FullOn (if test then Ok x else Err why)
outcome_choice true x why p = p
outcome_choice false x why p = tt

module _ (a : State) (full : IsFull a) (plans : Plans) (at : IsAt a plans.branch) (merged : list_all (λ (p : Planned). is_merge_known a.commits p.merge_parent) plans.planned ≡ true)
    (upon : all_conflicts plans.planned ≡ [] → AreUpon (entries a.commits plans.branch.head) plans.planned) (have : HaveTheirMaps sha256 plans.moment a plans.branch.head (commits_made plans.planned)) where
  apply_full : all_conflicts plans.planned ≡ [] → FullOn (step_applied sha256 a plans)
  unfolding step_applied
  apply_full none =
      full_bind (needs_set_contents a plans.planned plans.opened) _ (λ u tested.
      full_bind (with_planned sha256 plans.moment a plans.branch.head (commits_made plans.planned)) _ (λ made is.
      let set : has_contents a.present (all_set (commits_made plans.planned)) ≡ true = made_set (λ (e : Key × Entry). is_some (content_at a.present e.1.hash)) plans.planned (set_there a plans.planned plans.opened tested) in
      let stand : PlansStand a made =
      plans_stand plans.moment (commits_made plans.planned) a plans.branch.head made full.linked full.formed at.known (made_upon (entries a.commits plans.branch.head) plans.planned (upon none))
      (all_left (λ (p : Planned). is_merge_known a.commits p.merge_parent) (λ (p : Planned). has_changes p.plan.ops) plans.planned merged) have at.held set is in
      full_choice (plans.asked.dry_run || not (list_any (λ one. has_changes one.plan.ops) plans.planned)) _ _ full
      (raised_full a made.1 (record (plans.branch) { head = made.0 }) (made.1.place + 1) full stand.raised stand.known stand.shown)))

  unless_full : (conflicts : List Conflict) → all_conflicts plans.planned ≡ conflicts → FullOn (step_unless_conflicts sha256 a plans conflicts)
  unless_full [] is = apply_full is
  unless_full (x ∷ conflicts) is = outcome_choice plans.asked.conflicts_as_result _ (Conflicts (x ∷ conflicts)) full

  plans_full : FullOn (step_planned sha256 a plans)
  plans_full = full_bind (needs_planned_room a (entries a.commits plans.branch.head) plans.planned) _ (λ u e. unless_full (all_conflicts plans.planned) refl)

-- ---- merges

merge_at : (a : State) (m : Merge) (opened : Reference × Hash) → IsFull a → merge_opening sha256 a m ≡ Ok opened → IsAt a opened.0 × (is_known a.commits opened.1 ≡ true)
unfolding merge_opening
merge_at a m opened full is =
    let one = first_of (named a m.branch) _ opened is in
    let two = first_of (named a m.from) _ opened one.2 in
    let three = first_of (needs_branch one.0) _ opened two.2 in
    let four = first_of (pointed sha256 a (Some one.0) m.hash) _ opened three.2 in
    let five = first_of (pointed sha256 a (Some two.0) (Some m.from_hash)) (λ source. Ok (one.0, source)) opened four.2 in
    let same : (one.0, five.0) ≡ opened = same_ok (one.0, five.0) opened five.2 in
    subst (λ (x : Reference × Hash). IsAt a x.0 × (is_known a.commits x.1 ≡ true)) same
    (branch_at a m.branch one.0 full one.1, pointed_known a (Some two.0) (Some m.from_hash) five.0 full (m.from, named_is a m.from two.0 two.1) five.1)

pub merge_full : (a : State) (m : Merge) (opened moment : ℕ) → IsFull a → ((o : Reference × Hash) → merge_opening sha256 a m ≡ Ok o → HaveTheirMaps sha256 moment a o.0.head (commits_made (merge_plans a m o.0 o.1 opened moment).planned)) → FullOn (step_merge sha256 a m opened moment)
unfolding step_merge merge_planned
merge_full a m opened moment full have =
    full_bind (merge_opening sha256 a m) _ (λ o is.
    let at = merge_at a m o full is in
    let onto : Map = entries a.commits o.0.head in
    let ancestor : Hash = base a.commits o.1 o.0.head in
    plans_full a full (merge_plans a m o.0 o.1 opened moment) at.0 (both_true _ _ at.1 refl)
    (λ none.
    let parts = both_empty (plan (entries a.commits ancestor) (entries a.commits o.1) onto m.modes).conflicts [] none in
    let upon = plan_upon (entries a.commits ancestor) (entries a.commits o.1) onto m.modes (map_ascends a.commits o.0.head) (map_formed a.commits o.0.head full.formed) parts.0 in
    (upon.0, upon.1, tt))
    (have o is))

-- ---- transplants

transplant_at : (a : State) (t : Transplant) (branch : Reference) → IsFull a → transplant_opening sha256 a t ≡ Ok branch → IsAt a branch
unfolding transplant_opening
transplant_at a t branch full is =
    let one = first_of (named a t.branch) _ branch is in
    let two = first_of (named a t.from) _ branch one.2 in
    let three = first_of (needs_branch one.0) _ branch two.2 in
    let four = first_of (pointed sha256 a (Some one.0) t.hash) _ branch three.2 in
    let five = first_of (needs_on_chain a two.0 t.hashes) _ branch four.2 in
    let six = first_of (needs (are_consecutive a.commits t.hashes) (BadRequest NotConsecutive)) (λ _. Ok one.0) branch five.2 in
    subst (IsAt a) (same_ok one.0 branch six.2) (branch_at a t.branch one.0 full one.1)

none_merged : (commits metas : Commits) (plans : List Plan) → list_all (λ (p : Planned). is_merge_known commits p.merge_parent) (with_metas metas plans) ≡ true
none_merged commits [] plans = refl
none_merged commits (x ∷ others) [] = refl
none_merged commits (x ∷ others) (p ∷ plans) = none_merged commits others plans

pub transplant_full : (a : State) (t : Transplant) (opened moment : ℕ) → IsFull a → ((branch : Reference) → transplant_opening sha256 a t ≡ Ok branch → HaveTheirMaps sha256 moment a branch.head (commits_made (transplant_plans a t branch opened moment).planned)) → FullOn (step_transplant sha256 a t opened moment)
unfolding step_transplant transplant_planned
transplant_full a t opened moment full have =
    full_bind (transplant_opening sha256 a t) _ (λ branch is.
    let chosen : Commits = commits_at a.commits t.hashes in
    let onto : Map = entries a.commits branch.head in
    let changes : List (Map × Map) = map (change_made a.commits) chosen in
    plans_full a full (transplant_plans a t branch opened moment) (transplant_at a t branch full is) (none_merged a.commits chosen (plan_each t.modes onto changes))
    (λ none. each_upon t.modes chosen onto changes (map_ascends a.commits branch.head) (map_formed a.commits branch.head full.formed) none)
    (have branch is))
