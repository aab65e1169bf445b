-- What the tests before a draft have passed, and what they found.
use Rattle.std.proofs.Common.{◌≡◌, ℕ, List, Option, Some, None, Result, Ok, Err, Bool, true, false, cond, refl, sym, ap, ◌∙◌}
use Rattle.sha2.specs.Sha256.{sha256}
use Rattle.cat_names.specs.declared.hash.Hash.{Hash}
use Rattle.cat_model.specs.declared.command.Merge.{Merge}
use Rattle.cat_model.specs.declared.command.Transplant.{Transplant}
use Rattle.cat_model.specs.declared.reference.Reference.{Reference}
use Rattle.cat_model.specs.declared.refusal.Refusal.{Refusal}
use Rattle.cat_model.specs.Chain.{on_chain}
use Rattle.cat_model.specs.Merges.{merge_opening}
use Rattle.cat_model.specs.Refusing.{◌>>=◌, found, named, needs, needs_branch, pointed}
use Rattle.cat_model.specs.State.{State, reference_of}
use Rattle.cat_model.specs.Transplants.{are_consecutive, needs_on_chain, transplant_opening}

-- ---- tests in turn

-- tests in turn that passed: what the first found, and that the others passed with it
pub passed : {A B : Type 0} (r : Result A Refusal) (f : A → Result B Refusal) (after : B) → (r >>= f) ≡ Ok after → (x : A) × (r ≡ Ok x) × (f x ≡ Ok after)
passed (Ok x) f after e = (x, refl, e)
passed (Err why) f after e = absurd cc

-- an answer that is no refusal
abbrev pub accepted : {A : Type 0} → A → Result A Refusal
accepted x = Ok x

-- what is accepted, or another value
abbrev value_or : {A : Type 0} → A → Result A Refusal → A
value_or other (Ok x) = x
value_or other (Err why) = other

-- two such answers that are one
pub same_Ok : {A : Type 0} (x y : A) → accepted x ≡ accepted y → x ≡ y
same_Ok x y e = ap (value_or x) e

-- a test that passed
pub needs_is : (b : Bool) (why : Refusal) (x : Unit {0}) → needs b why ≡ Ok x → b ≡ true
needs_is true why x e = refl
needs_is false why x e = absurd cc

found_is : {A : Type 0} (o : Option A) (why : Refusal) (x : A) → found o why ≡ Ok x → o ≡ Some x
found_is None why x e = absurd cc
found_is (Some y) why x e = ap (λ z. Some z) (same_Ok y x e)

-- a reference that was found by its name
pub named_is : (state : State) (name : List ℕ) (r : Reference) → named state name ≡ Ok r → reference_of state.references name ≡ Some r
named_is state name r e = found_is (reference_of state.references name) _ r e

on_chain_is : (b : Bool) (hash other : Hash) (why : Refusal) → cond b (accepted hash) (Err why) ≡ Ok other → hash ≡ other
on_chain_is true hash other why e = same_Ok hash other e
on_chain_is false hash other why e = absurd cc

-- a hash on the chain of a reference is what a request points at
pub pointed_is : (state : State) (r : Reference) (hash other : Hash) → pointed sha256 state (Some r) (Some hash) ≡ Ok other → other ≡ hash
pointed_is state r hash other e = sym (on_chain_is (on_chain state.commits r.head hash) hash other _ e)

-- ---- openings

-- the branch has the name, and what is merged is what the call states
pub merge_opened : (state : State) (m : Merge) (branch : Reference) (source : Hash) → merge_opening sha256 state m ≡ Ok (branch, source) → (reference_of state.references m.branch ≡ Some branch) × (source ≡ m.from_hash)
unfolding merge_opening
merge_opened state m branch source e =
    let first = passed (named state m.branch) _ (branch, source) e in
    let second = passed (named state m.from) _ (branch, source) first.2 in
    let third = passed (needs_branch first.0) _ (branch, source) second.2 in
    let fourth = passed (pointed sha256 state (Some first.0) m.hash) _ (branch, source) third.2 in
    let fifth = passed (pointed sha256 state (Some second.0) (Some m.from_hash)) _ (branch, source) fourth.2 in
    let same = same_Ok {A = Reference × Hash} (first.0, fifth.0) (branch, source) fifth.2 in (
      named_is state m.branch branch (first.1 ∙ ap (λ (x : Reference × Hash). Ok x.0) same),
      sym (ap (λ (x : Reference × Hash). x.1) same) ∙ pointed_is state second.0 m.from_hash fifth.0 fifth.1,
    )

-- the branch has the name, and the commits are in a row
pub transplant_opened : (state : State) (t : Transplant) (branch : Reference) → transplant_opening sha256 state t ≡ Ok branch → (reference_of state.references t.branch ≡ Some branch) × (are_consecutive state.commits t.hashes ≡ true)
unfolding transplant_opening
transplant_opened state t branch e =
    let first = passed (named state t.branch) _ branch e in
    let second = passed (named state t.from) _ branch first.2 in
    let third = passed (needs_branch first.0) _ branch second.2 in
    let fourth = passed (pointed sha256 state (Some first.0) t.hash) _ branch third.2 in
    let fifth = passed (needs_on_chain state second.0 t.hashes) _ branch fourth.2 in
    let sixth = passed (needs (are_consecutive state.commits t.hashes) _) _ branch fifth.2 in
    let same = same_Ok first.0 branch sixth.2 in (
      named_is state t.branch branch (first.1 ∙ ap (λ (r : Reference). Ok r) same),
      needs_is (are_consecutive state.commits t.hashes) _ sixth.0 sixth.1,
    )
