-- The step of a commit, by how far it comes.
use Rattle.std.proofs.Common.{◌≡◌, ℕ, List, [], ◌∷◌, Result, Ok, map, filter_map, refl, sym, ap, subst, ◌∙◌}
use Rattle.sha2.specs.Sha256.{sha256}
use Rattle.cat_names.specs.declared.hash.Hash.{Hash}
use Rattle.cat_model.specs.declared.command.CommitRequest.{CommitRequest}
use Rattle.cat_model.specs.declared.commit.Commit.{Commit}
use Rattle.cat_model.specs.declared.conflict.Conflict.{Conflict}
use Rattle.cat_model.specs.declared.content.Content.{Content}
use Rattle.cat_model.specs.declared.op.Op.{Op}
use Rattle.cat_model.specs.declared.reference.Reference.{Reference}
use Rattle.cat_model.specs.declared.refusal.Refusal.{Refusal}
use Rattle.cat_model.specs.Chain.{entries}
use Rattle.cat_model.specs.Commits.{commit_opening, committed, given_ops, given_request, needs_commit_room, or_conflicts, puts, request_commit, step_commit}
use Rattle.cat_model.specs.Judge.{changes_of, judge, unless_conflicts}
use Rattle.cat_model.specs.Maps.{Map, after_changes}
use Rattle.cat_model.specs.Records.{with_commit, with_contents}
use Rattle.cat_model.specs.Refusing.{◌>>=◌, Outcome}
use Rattle.cat_model.specs.State.{State, commit_hash}
use Rattle.cat_rules.specs.declared.judging.Judged.{Judged}
use Rattle.cat_rules.specs.Rules.{verdict}
use Rattle.cat_state.specs.declared.additions.Additions.{Additions}
use Rattle.cat_state.specs.declared.failure.Failure.{Failure}
use Rattle.cat_state.specs.declared.records.NewCommit.{NewCommit}
use Rattle.cat_state.specs.Adding.{with_both}
use Rattle.cat_state.specs.Changing.{applied, with_additions}
use Rattle.cat_state.specs.Giving.{Fails}
use Rattle.cat_state.specs.GivingLaws.{fails_on, in_turn, passed_by}
use Rattle.cat_state.specs.Keeping.{MayBeAdded}
use Rattle.cat_state.specs.KeepingLaws.{upon_may_be_added}
use Rattle.cat_decisions.specs.declared.given.Given.{Given}
use Rattle.cat_decisions.specs.BuildLaws.{judged_upon}
use Rattle.cat_decisions.specs.Builds.{IsGiven, IsJudgedAt}
use Rattle.cat_decisions.specs.KeyLaws.{Both}
use Rattle.cat_decisions.specs.Putting.{IsMapAfter, making_of, tested}

-- the operations and contents with the ids that the draft gives
pub record AreGiven (draft : ℕ) (c : CommitRequest) (ops : List Op) (contents : List Content) : Type 0 where
  pub ops_are : ops ≡ map (λ (b : Both). b.0) (given_ops sha256 draft c)
  pub contents_are : contents ≡ filter_map (λ (b : Both). b.1) (given_ops sha256 draft c)

pub given_is : (draft : ℕ) (c : CommitRequest) (g : Given) → IsGiven draft c g → AreGiven draft c g.ops g.contents
given_is draft c g given = record { ops_are = given.ops; contents_are = given.contents }

-- the request as it is logged
pub logged_is : (c : CommitRequest) (draft : ℕ) (ops : List Op) (contents : List Content) → AreGiven draft c ops contents → record c { ops = ops; contents = contents } ≡ given_request sha256 draft c
unfolding given_request
logged_is c draft ops contents g = rw (g.ops_are, g.contents_are) refl

-- the map after operations that don't conflict
judged_is : (conflicts : List Conflict) (after map : Map) → or_conflicts (unless_conflicts conflicts after) ≡ Ok map → map ≡ after
judged_is [] after map e = cc
judged_is (x ∷ conflicts) after map e = absurd cc

pub map_is_after : (expected head map : Map) (ops : List Op) → or_conflicts (judge expected head ops) ≡ Ok map → map ≡ after_changes (changes_of ops) head
unfolding judge
map_is_after expected head map ops e = judged_is _ (after_changes (changes_of ops) head) map e

-- a commit at a known head, with the map after its operations, may be added
pub next_kept : (state : State) (c : CommitRequest) (head : Hash) (moment : ℕ) (ops : List Op) (map : Map) (commit : Commit) (k : NewCommit) → commit ≡ request_commit state head moment c ops → IsMapAfter state head ops map
    → k.commit ≡ commit → k.map ≡ map → MayBeAdded state.commits k.commit k.map
unfolding request_commit
next_kept state c head moment ops map commit k e after kc km = rw (kc, km, e) (upon_may_be_added state.commits (request_commit state head moment c ops) map after.known refl refl after.changed after.well_formed)

-- what follows once there is room and nothing conflicts
unfoldable pub rest : State → ℕ → CommitRequest → Reference → List Op → List Content → Outcome
rest state moment c branch ops contents =
    let commit = request_commit state branch.head moment c ops in
    with_both state contents commit >>= λ more. Ok (committed more (record branch { head = commit_hash sha256 commit }) ops)

-- the same, contents and commit in turn
in_both : (state : State) (moment : ℕ) (c : CommitRequest) (branch : Reference) (ops : List Op) (contents : List Content)
    → rest state moment c branch ops contents
    ≡ (with_contents sha256 state contents >>= λ held. with_commit sha256 held (request_commit state branch.head moment c ops) >>= λ more. Ok (committed more (record branch { head = commit_hash sha256 (request_commit state branch.head moment c ops) }) ops))
unfolding rest
in_both state moment c branch ops contents =
    let commit = request_commit state branch.head moment c ops in
    in_turn (with_contents sha256 state contents) (λ held. with_commit sha256 held commit) (λ more. Ok (committed more (record branch { head = commit_hash sha256 commit }) ops))

-- a judgement of the operations on the branch that the tests find
pub record IsOpened (state : State) (c : CommitRequest) (draft : ℕ) (branch : Reference) (g : Given) (judged : Result Map (List Conflict)) : Type 0 where
  pub expected : Hash
  pub opened : commit_opening sha256 state c ≡ Ok (branch, expected)
  pub given : AreGiven draft c g.ops g.contents
  pub exact : judged ≡ judge (entries state.commits expected) (entries state.commits branch.head) g.ops

-- so it is upon the branch that a request's tests find
pub opened_is : (state : State) (c : CommitRequest) (draft : ℕ) (branch : Reference) (expected : Hash) (g : Given) (judged : Judged) → commit_opening sha256 state c ≡ Ok (branch, expected) → IsGiven draft c g → (head : Hash) × IsJudgedAt state c g.ops head judged
    → IsOpened state c draft branch g (verdict judged)
opened_is state c draft branch expected g judged opened given at = record {
  expected = expected;
  opened = opened;
  given = given_is draft c g given;
  exact = judged_upon state c g.ops at.0 judged branch expected opened at.1;
}

step_is : (state : State) (c : CommitRequest) (draft moment : ℕ) (branch : Reference) (g : Given) (judged : Result Map (List Conflict)) → IsOpened state c draft branch g judged
    → step_commit sha256 state c draft moment ≡ (tested state branch g.ops judged >>= λ _. rest state moment c branch g.ops g.contents)
unfolding step_commit
step_is state c draft moment branch g judged o =
    rw (o.opened, o.exact, in_both state moment c branch g.ops g.contents, o.given.ops_are, o.given.contents_are)
    (sym (in_turn (needs_commit_room state (entries state.commits branch.head) (puts (map (λ (b : Both). b.0) (given_ops sha256 draft c)))) (λ _. or_conflicts (judge (entries state.commits o.expected) (entries state.commits branch.head) (map (λ (b : Both). b.0) (given_ops sha256 draft c)))) _))

-- there is no room, or the operations conflict
pub step_refused : (state : State) (c : CommitRequest) (draft moment : ℕ) (branch : Reference) (g : Given) (judged : Result Map (List Conflict)) (failure : Failure) → IsOpened state c draft branch g judged
    → Fails failure (tested state branch g.ops judged) → Fails failure (step_commit sha256 state c draft moment)
step_refused state c draft moment branch g judged failure o h =
    subst (λ (x : Outcome). Fails failure x) (sym (step_is state c draft moment branch g judged o)) (fails_on failure (tested state branch g.ops judged) (λ _. rest state moment c branch g.ops g.contents) h)

-- the map where there is room and nothing conflicts is the one after the operations
pub map_changed : (state : State) (c : CommitRequest) (draft : ℕ) (branch : Reference) (g : Given) (judged : Result Map (List Conflict)) (map : Map) → IsOpened state c draft branch g judged → tested state branch g.ops judged ≡ Ok map
    → map ≡ after_changes (changes_of g.ops) (entries state.commits branch.head)
map_changed state c draft branch g judged map o t =
    passed_by (needs_commit_room state (entries state.commits branch.head) (puts g.ops)) (λ _. or_conflicts judged) map (map ≡ after_changes (changes_of g.ops) (entries state.commits branch.head))
    (λ u room e. map_is_after (entries state.commits o.expected) (entries state.commits branch.head) map g.ops (sym (ap or_conflicts o.exact) ∙ e)) t

-- there is room and nothing conflicts: the rest is left
step_rest : (state : State) (c : CommitRequest) (draft moment : ℕ) (branch : Reference) (g : Given) (judged : Result Map (List Conflict)) (map : Map) → IsOpened state c draft branch g judged
    → tested state branch g.ops judged ≡ Ok map → step_commit sha256 state c draft moment ≡ rest state moment c branch g.ops g.contents
step_rest state c draft moment branch g judged map o t =
    step_is state c draft moment branch g judged o ∙ ap (λ (r : Result Map Refusal). r >>= λ _. rest state moment c branch g.ops g.contents) t

rest_refused : (state : State) (moment : ℕ) (c : CommitRequest) (branch : Reference) (g : Given) (failure : Failure)
    → Fails failure (with_both state g.contents (request_commit state branch.head moment c g.ops)) → Fails failure (rest state moment c branch g.ops g.contents)
unfolding rest
rest_refused state moment c branch g failure h = fails_on failure (with_both state g.contents (request_commit state branch.head moment c g.ops)) _ h

-- the contents or the commit are refused
pub step_unadded : (state : State) (c : CommitRequest) (draft moment : ℕ) (branch : Reference) (g : Given) (judged : Result Map (List Conflict)) (map : Map) (failure : Failure) → IsOpened state c draft branch g judged
    → tested state branch g.ops judged ≡ Ok map → Fails failure (with_both state g.contents (request_commit state branch.head moment c g.ops)) → Fails failure (step_commit sha256 state c draft moment)
step_unadded state c draft moment branch g judged map failure o t h =
    subst (λ (x : Outcome). Fails failure x) (sym (step_rest state c draft moment branch g judged map o t)) (rest_refused state moment c branch g failure h)

rest_added : (state : State) (moment : ℕ) (c : CommitRequest) (branch : Reference) (g : Given) (hash : Hash) (a : Additions) → with_both state g.contents (request_commit state branch.head moment c g.ops) ≡ Ok (with_additions state a)
    → hash ≡ commit_hash sha256 (request_commit state branch.head moment c g.ops) → rest state moment c branch g.ops g.contents ≡ Ok (applied state (making_of c branch hash g a).change, (making_of c branch hash g a).reply)
unfolding rest
rest_added state moment c branch g hash a added is = rw (added, is) refl

-- they are added, and the branch is moved
pub step_added : (state : State) (c : CommitRequest) (draft moment : ℕ) (branch : Reference) (g : Given) (judged : Result Map (List Conflict)) (map : Map) (hash : Hash) (a : Additions) → IsOpened state c draft branch g judged
    → tested state branch g.ops judged ≡ Ok map → with_both state g.contents (request_commit state branch.head moment c g.ops) ≡ Ok (with_additions state a) → hash ≡ commit_hash sha256 (request_commit state branch.head moment c g.ops)
    → step_commit sha256 state c draft moment ≡ Ok (applied state (making_of c branch hash g a).change, (making_of c branch hash g a).reply)
step_added state c draft moment branch g judged map hash a o t added is =
    step_rest state c draft moment branch g judged map o t ∙ rest_added state moment c branch g hash a added is
