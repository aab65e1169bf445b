-- Commits that are there already, and commits upon others.
use Rattle.std.proofs.Common.{◌≡◌, ℕ, ◌+◌, max, List, [], ◌∷◌, ◌++◌, Option, Some, None, Result, Ok, Err, Bool, true, false, cond, codes, nat_eq, IsTrue, refl, sym, ap, subst, ◌∙◌}
use Rattle.std.specs.List.{list_all}
use Rattle.std.proofs.lemmas.Option.{same_Some}
use Rattle.sha2.specs.Sha256.{sha256}
use Rattle.cat_codes.specs.declared.fault.FieldFault.{FieldFault}
use Rattle.cat_names.specs.declared.hash.Hash.{Hash}
use Rattle.cat_graph.specs.GraphLaws.{apart, entries_before, entries_new, same_is}
use Rattle.cat_graph.specs.Linked.{AreLinked, is_known, is_merge_known, merge_generation}
use Rattle.cat_merge.specs.declared.plan.Planned.{Planned}
use Rattle.cat_merge.specs.Planned.{as_planned}
use Rattle.cat_model.specs.declared.commit.Commit.{Commit}
use Rattle.cat_model.specs.declared.content.Content.{Content}
use Rattle.cat_model.specs.declared.refusal.Refusal.{Refusal}
use Rattle.cat_model.specs.Chain.{Commits, commit_of, entries, generation}
use Rattle.cat_model.specs.FormatLaws.{commit_is}
use Rattle.cat_model.specs.Formats.{commit_code}
use Rattle.cat_model.specs.Maps.{Map, after_changes}
use Rattle.cat_model.specs.Merges as merges
use Rattle.cat_model.specs.Merges.{generation_after, planned_commit, with_planned}
use Rattle.cat_model.specs.Namespaces.{is_well_formed}
use Rattle.cat_model.specs.Records.{with_commit}
use Rattle.cat_model.specs.Refusing.{◌>>=◌}
use Rattle.cat_model.specs.Same.{same_hash}
use Rattle.cat_model.specs.State.{State, commit_hash}
use Rattle.cat_state.specs.declared.failure.Failure.{Failure}
use Rattle.cat_state.specs.Giving.{Fails}
use Rattle.cat_state.specs.GivingLaws.{fails_on}
use Rattle.cat_state.specs.HeldLaws.{all_more}
use Rattle.cat_state.specs.Keeping.{MayBeAdded}
use Rattle.cat_state.specs.Planning.{IsMadeUpon}
use Rattle.cat_state.specs.KeepingLaws.{next_of_one}
use Rattle.cat_state.proofs.Heads.{all_known, known_more}

-- ---- the same bytes are of the same commit

abbrev read_first : Result (Commit × List ℕ) FieldFault → Commit → Commit
read_first (Ok x) other = x.0
read_first (Err fault) other = other

spelled_alike : (k c : Commit) → (commit_code).Fits k → (commit_code).Fits c → (commit_code).spell k ≡ (commit_code).spell c → k ≡ c
spelled_alike k c fits also e =
    ap (λ (r : Result (Commit × List ℕ) FieldFault). read_first r k) (sym (commit_is.again k [] fits) ∙ ap (λ (l : List ℕ). (commit_code).at (l ++ [])) e ∙ commit_is.again c [] also)

-- the commit whose bytes are kept is the one that spells them
pub is_spelled : (found : Option Commit) (k c : Commit) (bytes : List ℕ) → found ≡ Some k → bytes ≡ (commit_code).spell k → (commit_code).Fits k → (commit_code).Fits c → Some bytes ≡ Some ((commit_code).spell c) → found ≡ Some c
is_spelled found k c bytes is spelled fits also e = is ∙ ap Some (spelled_alike k c fits also (sym spelled ∙ same_Some bytes ((commit_code).spell c) e))

abbrev first_byte : List ℕ → ℕ
first_byte [] = 0
first_byte (byte ∷ bytes) = byte

false-true : false ≡ true → ⊥
false-true e = cc

-- no commit is spelled so
pub not_empty : (c : Commit) (bytes : List ℕ) → bytes ≡ codes "empty" → Some bytes ≡ Some ((commit_code).spell c) → ⊥
unfolding commit_code
not_empty c bytes is e = false-true (ap (λ (l : List ℕ). nat_eq (first_byte l) 78) (sym is ∙ same_Some bytes ((commit_code).spell c) e))

-- ---- the map at a commit

parent_by : (b : Bool) (x : Hash × Commit) (older : Commits) (found : Option Commit) (c : Commit) → IsTrue (is_known older (x.1).parent) → (found ≡ Some c → IsTrue (is_known older c.parent)) → cond b (Some x.1) found ≡ Some c → IsTrue (is_known older c.parent)
parent_by true x older found c known further e = subst (λ (d : Commit). IsTrue (is_known older d.parent)) (same_Some x.1 c e) known
parent_by false x older found c known further e = further e

parent_known : (commits : Commits) (hash : Hash) (c : Commit) → AreLinked commits → commit_of commits hash ≡ Some c → IsTrue (is_known commits c.parent)
parent_known [] hash c are e = absurd cc
parent_known (x ∷ older) hash c are e = known_more x older c.parent (parent_by (same_hash x.0 hash) x older (commit_of older hash) c (are.1).parent (parent_known older hash c are.2) e)

abbrev ChangedAt : Commits → Hash → Commit → Type 0
ChangedAt commits hash c = entries commits hash ≡ after_changes c.ops (entries commits c.parent)

still : (x : Hash × Commit) (older : Commits) (hash : Hash) → AreLinked (x ∷ older) → IsTrue (is_known older hash) → entries (x ∷ older) hash ≡ entries older hash
still x older hash are known = entries_before older x.0 x.1 hash (apart older x.0 hash are.0 (are.1).has_ancestor known)

-- the map at a known hash stays the same below commits that are added
pub entries_stay : (more older : Commits) (hash : Hash) → AreLinked (more ++ older) → IsTrue (is_known older hash) → entries (more ++ older) hash ≡ entries older hash
entries_stay [] older hash are known = refl
entries_stay (x ∷ more) older hash are known = still x (more ++ older) hash are (all_known more older hash known) ∙ entries_stay more older hash are.2 known

newest : (x : Hash × Commit) (older : Commits) → AreLinked (x ∷ older) → ChangedAt (x ∷ older) x.0 x.1
newest x older are = entries_new older x.0 x.1 ∙ ap (after_changes (x.1).ops) (sym (still x older (x.1).parent are (are.1).parent))

changed_by : (b : Bool) (x : Hash × Commit) (older : Commits) (hash : Hash) (c : Commit) → same_hash x.0 hash ≡ b → AreLinked (x ∷ older) → (commit_of older hash ≡ Some c → ChangedAt older hash c) → cond b (Some x.1) (commit_of older hash) ≡ Some c → ChangedAt (x ∷ older) hash c
changed_by true x older hash c same are further e =
    subst (λ (h : Hash). ChangedAt (x ∷ older) h c) (same_is x.0 hash same) (subst (λ (d : Commit). ChangedAt (x ∷ older) x.0 d) (same_Some x.1 c e) (newest x older are))
changed_by false x older hash c other are further e =
    entries_before older x.0 x.1 hash other ∙ further e ∙ ap (after_changes c.ops) (sym (still x older c.parent are (parent_known older hash c are.2 e)))

-- it is the commit's changes of the one at its parent
pub entries_at : (commits : Commits) (hash : Hash) (c : Commit) → AreLinked commits → commit_of commits hash ≡ Some c → entries commits hash ≡ after_changes c.ops (entries commits c.parent)
entries_at [] hash c are e = absurd cc
entries_at (x ∷ older) hash c are e = changed_by (same_hash x.0 hash) x older hash c refl are (entries_at older hash c are.2) e

-- ---- one plan of many

merge_known : (older commits : Commits) (merge_parent : Option Hash) → ((h : Hash) → IsTrue (is_known older h) → IsTrue (is_known commits h)) → is_merge_known older merge_parent ≡ true → is_merge_known commits merge_parent ≡ true
merge_known older commits None grows e = refl
merge_known older commits (Some hash) grows e = grows hash e

pub merges_known : (older commits : Commits) (planned : List Planned) → ((h : Hash) → IsTrue (is_known older h) → IsTrue (is_known commits h)) → list_all (λ p. is_merge_known older p.merge_parent) planned ≡ true → list_all (λ p. is_merge_known commits p.merge_parent) planned ≡ true
merges_known older commits planned grows are = all_more (λ p. is_merge_known older p.merge_parent) (λ p. is_merge_known commits p.merge_parent) planned (λ p e. merge_known older commits p.merge_parent grows e) are

pub next_fails : (failure : Failure) (moment : ℕ) (state : State) (head : Hash) (p : merges.Planned) (planned : List merges.Planned) → Fails failure (with_commit sha256 state (planned_commit state.commits head moment p))
    → Fails failure (with_planned sha256 moment state head (p ∷ planned))
next_fails failure moment state head p planned fails =
    fails_on failure (with_commit sha256 state (planned_commit state.commits head moment p)) (λ more. with_planned sha256 moment more (commit_hash sha256 (planned_commit state.commits head moment p)) planned) fails

pub next_adds : (moment : ℕ) (before after : State) (head at : Hash) (p : merges.Planned) (planned : List merges.Planned) → with_commit sha256 before (planned_commit before.commits head moment p) ≡ Ok after
    → at ≡ commit_hash sha256 (planned_commit before.commits head moment p) → with_planned sha256 moment before head (p ∷ planned) ≡ with_planned sha256 moment after at planned
next_adds moment before after head at p planned added is =
    ap (λ (r : Result State Refusal). r >>= λ more. with_planned sha256 moment more (commit_hash sha256 (planned_commit before.commits head moment p)) planned) added
    ∙ ap (λ (h : Hash). with_planned sha256 moment after h planned) (sym is)

-- ---- the commit of a plan upon a head

planned_next : (commits : Commits) (head : Hash) (merge_parent : Option Hash) → generation_after commits head merge_parent ≡ max (generation commits head) (merge_generation commits merge_parent) + 1
planned_next commits head None = next_of_one (generation commits head + 1) (generation commits head) refl
planned_next commits head (Some other) = refl

pub planned_may_be_added : (present : List (Hash × Content)) (commits : Commits) (head : Hash) (moment : ℕ) (p : Planned) (c : Commit) (map : Map) → IsTrue (is_known commits head) → IsTrue (is_merge_known commits p.merge_parent) → IsMadeUpon present (entries commits head) p.plan
    → c ≡ planned_commit commits head moment (as_planned p) → map ≡ (p.plan).map → MayBeAdded commits c map
planned_may_be_added present commits head moment p c map known merged made is same = subst (λ (x : Commit). MayBeAdded commits x map) (sym is) (record {
  parent = known;
  merge_parent = merged;
  generation = planned_next commits head p.merge_parent;
  changed = same ∙ made.changed;
  well_formed = subst (λ (m : Map). IsTrue (is_well_formed m)) (sym same) made.well_formed;
})
