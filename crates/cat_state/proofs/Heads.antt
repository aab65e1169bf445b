-- Where references point.
use Rattle.std.proofs.Common.{◌≡◌, ℕ, zero, suc, List, [], ◌∷◌, ◌++◌, Option, Some, Bool, true, false, cond, ◌||◌, IsTrue, is_some, refl, subst, ◌⊎◌, inl, inr, ⊎_elim}
use Rattle.std.proofs.lemmas.Option.{same_Some}
use Rattle.std.specs.List.{list_any}
use Rattle.std.specs.Prelude.{slice_get}
use Rattle.std.specs.Str.{bytes_eq}
use Rattle.sha2.specs.Sha256.{sha256}
use Rattle.cat_names.specs.declared.hash.Hash.{Hash}
use Rattle.cat_tables.specs.ReferenceLaws.{and_true}
use Rattle.cat_tables.specs.References.{heads_pass}
use Rattle.cat_graph.specs.GraphLaws.{same_is}
use Rattle.cat_graph.specs.Linked.{AreLinked, is_known}
use Rattle.cat_model.specs.declared.commit.Commit.{Commit}
use Rattle.cat_model.specs.declared.reference.Reference.{Reference}
use Rattle.cat_model.specs.Chain.{Commits, back, commit_of, members, on_chain}
use Rattle.cat_model.specs.Same.{same_hash}
use Rattle.cat_model.specs.State.{no_ancestor, reference_of}
use Rattle.cat_state.specs.HeldLaws.{all_more}

-- ---- what is known

more_by : (b : Bool) (c : Commit) (found : Option Commit) (none : Bool) → IsTrue (is_some found || none) → IsTrue (is_some (cond b (Some c) found) || none)
more_by true c found none e = refl
more_by false c found none e = e

-- what is known stays so
pub known_more : (x : Hash × Commit) (older : Commits) (hash : Hash) → IsTrue (is_known older hash) → IsTrue (is_known (x ∷ older) hash)
known_more x older hash e = more_by (same_hash x.0 hash) x.1 (commit_of older hash) (same_hash (no_ancestor sha256) hash) e

pub all_known : (more older : Commits) (hash : Hash) → IsTrue (is_known older hash) → IsTrue (is_known (more ++ older) hash)
all_known [] older hash e = e
all_known (x ∷ more) older hash e = known_more x (more ++ older) hash (all_known more older hash e)

known_less : (x : Hash × Commit) (older : Commits) (hash : Hash) → same_hash x.0 hash ≡ false → IsTrue (is_known (x ∷ older) hash) → IsTrue (is_known older hash)
known_less x older hash e known = rw e at known

either : (a b : Bool) → (a || b) ≡ true → (a ≡ true) ⊎ (b ≡ true)
either true b e = inl refl
either false b e = inr e

same_known : (commits : Commits) (head hash : Hash) → same_hash head hash ≡ true → IsTrue (is_known commits head) → IsTrue (is_known commits hash)
same_known commits head hash e known = subst (λ (h : Hash). IsTrue (is_known commits h)) (same_is head hash e) known

chain_by : (b : Bool) (x : Hash × Commit) (older : Commits) (head hash : Hash) → same_hash x.0 head ≡ b
    → (on_chain older x.1.parent hash ≡ true → IsTrue (is_known older hash)) → (on_chain older head hash ≡ true → IsTrue (is_known older head) → IsTrue (is_known older hash))
    → cond b (same_hash head hash || on_chain older x.1.parent hash) (on_chain older head hash) ≡ true → IsTrue (is_known (x ∷ older) head) → IsTrue (is_known (x ∷ older) hash)
chain_by true x older head hash same parent further on known =
    ⊎_elim (λ (e : same_hash head hash ≡ true). same_known (x ∷ older) head hash e known) (λ (e : on_chain older x.1.parent hash ≡ true). known_more x older hash (parent e)) (either _ _ on)
chain_by false x older head hash same parent further on known = known_more x older hash (further on (known_less x older head same known))

-- what is on the chain of a known head is known
pub chain_is_known : (commits : Commits) (head hash : Hash) → AreLinked commits → on_chain commits head hash ≡ true → IsTrue (is_known commits head) → IsTrue (is_known commits hash)
chain_is_known [] head hash are on known = same_known [] head hash on known
chain_is_known (x ∷ older) head hash are on known =
    chain_by (same_hash x.0 head) x older head hash refl (λ e. chain_is_known older x.1.parent hash are.2 e (are.1).parent) (chain_is_known older head hash are.2) on known

member_by : (b : Bool) (x : Hash × Commit) (older : Commits) (hash : Hash) (n : ℕ) (other : Hash) → same_hash x.0 hash ≡ b
    → ((m : ℕ) → slice_get (members older x.1.parent) m ≡ Some other → IsTrue (is_known older other)) → (slice_get (members older hash) n ≡ Some other → IsTrue (is_known older hash) → IsTrue (is_known older other))
    → slice_get (cond b (hash ∷ members older x.1.parent) (members older hash)) n ≡ Some other → IsTrue (is_known (x ∷ older) hash) → IsTrue (is_known (x ∷ older) other)
member_by true x older hash zero other same parent further e known = subst (λ (h : Hash). IsTrue (is_known (x ∷ older) h)) (same_Some hash other e) known
member_by true x older hash (suc m) other same parent further e known = known_more x older other (parent m e)
member_by false x older hash n other same parent further e known = known_more x older other (further e (known_less x older hash same known))

-- each member of the chain of a known hash is known
pub back_is_known : (commits : Commits) (hash : Hash) (n : ℕ) (other : Hash) → AreLinked commits → back commits hash n ≡ Some other → IsTrue (is_known commits hash) → IsTrue (is_known commits other)
back_is_known [] hash zero other are e known = subst (λ (h : Hash). IsTrue (is_known [] h)) (same_Some hash other e) known
back_is_known [] hash (suc n) other are e known = absurd cc
back_is_known (x ∷ older) hash n other are e known =
    member_by (same_hash x.0 hash) x older hash n other refl (λ m f. back_is_known older x.1.parent m other are.2 f (are.1).parent) (λ f. back_is_known older hash n other are.2 f) e known

-- ---- references

found_by : (b : Bool) (pass : Hash → Bool) (r : Reference) (found : Option Reference) (s : Reference) → pass r.head ≡ true → (found ≡ Some s → pass s.head ≡ true) → cond b (Some r) found ≡ Some s → pass s.head ≡ true
found_by true pass r found s passes more e = subst (λ (x : Reference). pass x.head ≡ true) (same_Some r s e) passes
found_by false pass r found s passes more e = more e

-- the head of a reference that is found passes what each does
pub named_passes : (pass : Hash → Bool) (references : List Reference) (name : List ℕ) (s : Reference) → heads_pass pass references ≡ true → reference_of references name ≡ Some s → pass s.head ≡ true
named_passes pass [] name s are e = absurd cc
named_passes pass (r ∷ references) name s are e =
    let both = and_true (pass r.head) (heads_pass pass references) are in
    found_by (bytes_eq r.name name) pass r (reference_of references name) s both.0 (named_passes pass references name s both.1) e

-- a hash that a reference points at passes what each head does
pub head_passes : (pass : Hash → Bool) (references : List Reference) (hash : Hash) → heads_pass pass references ≡ true → list_any (λ r. same_hash r.head hash) references ≡ true → pass hash ≡ true
head_passes pass [] hash are e = absurd cc
head_passes pass (r ∷ references) hash are e =
    let both = and_true (pass r.head) (heads_pass pass references) are in
    ⊎_elim (λ (same : same_hash r.head hash ≡ true). subst (λ (h : Hash). pass h ≡ true) (same_is r.head hash same) both.0) (head_passes pass references hash both.1) (either _ _ e)

-- what references point at stays known
pub heads_more : (older commits : Commits) (references : List Reference) → ((hash : Hash) → IsTrue (is_known older hash) → IsTrue (is_known commits hash)) → IsTrue (heads_pass (is_known older) references) → IsTrue (heads_pass (is_known commits) references)
heads_more older commits references more are = all_more (λ r. is_known older r.head) (λ r. is_known commits r.head) references (λ r e. more r.head e) are
