-- References that are made, moved and removed leave `main` a branch.
use Rattle.std.proofs.Common.{◌≡◌, ℕ, List, [], ◌∷◌, Option, Some, None, is_none, Result, Ok, Err, Bool, true, false, cond, codes, refl, sym, ap, ◌∙◌, subst}
use Rattle.std.proofs.lemmas.Option.{none-some}
use Rattle.std.specs.Option.{option_map}
use Rattle.std.specs.Str.{bytes_eq}
use Rattle.cat_names.specs.declared.hash.Hash.{Hash}
use Rattle.cat_tables.specs.ReferenceLaws.{found_moved, found_with, found_without, same_name, split}
use Rattle.cat_model.specs.declared.command.CommitRequest.{CommitRequest}
use Rattle.cat_model.specs.declared.command.Merge.{Merge}
use Rattle.cat_model.specs.declared.command.Transplant.{Transplant}
use Rattle.cat_model.specs.declared.reference.Kind.{Kind}
use Rattle.cat_model.specs.declared.reference.Kind.TheVariants.{Branch, Tag}
use Rattle.cat_model.specs.declared.reference.Reference.{Reference}
use Rattle.cat_model.specs.declared.refusal.Reason.TheVariants.{NotConsecutive}
use Rattle.cat_model.specs.declared.refusal.Refusal.{Refusal}
use Rattle.cat_model.specs.declared.refusal.Refusal.TheVariants.{BadRequest}
use Rattle.cat_model.specs.Commits.{commit_opening}
use Rattle.cat_model.specs.Merges.{merge_opening}
use Rattle.cat_model.specs.Refusing.{◌>>=◌, found, named, needs, needs_branch, pointed}
use Rattle.cat_model.specs.Same.{same_kind}
use Rattle.cat_model.specs.State.{Digest, State, moved_reference, reference_of, with_reference, without_reference}
use Rattle.cat_model.specs.Transplants.{are_consecutive, needs_on_chain, transplant_opening}
use Rattle.cat_checks.specs.Upheld.{HasMain}

some_is : (a b : Reference) → ◌≡◌ {A = Option Reference} (Some a) (Some b) → a ≡ b
some_is a b e = cc

-- ---- tests that passed

pub passed : (test : Bool) (why : Refusal) (u : Unit {0}) → needs test why ≡ Ok u → test ≡ true
passed true why u e = refl
passed false why u e = absurd cc

found_is : (o : Option Reference) (why : Refusal) (r : Reference) → found o why ≡ Ok r → o ≡ Some r
found_is None why r e = absurd cc
found_is (Some x) why r e = ap Some (same x r e)
  where
    same : (x r : Reference) → ◌≡◌ {A = Result Reference Refusal} (Ok x) (Ok r) → x ≡ r
    same x r e = cc

branch_kind : (kind : Kind) (why : Refusal) (u : Unit {0}) → needs (same_kind kind Branch) why ≡ Ok u → kind ≡ Branch
branch_kind Branch why u e = refl
branch_kind Tag why u e = absurd cc

-- ---- the branch of a call that was opened

abbrev OkIs : {A : Type 0} → (A → Type 0) → Result A Refusal → Type 0
OkIs P (Ok x) = P x
OkIs P (Err why) = Unit {0}

ok_bind : {A B : Type 0} (P : B → Type 0) (r : Result A Refusal) (f : A → Result B Refusal) → ((x : A) → r ≡ Ok x → OkIs P (f x)) → OkIs P (r >>= f)
ok_bind P (Ok x) f h = h x refl
ok_bind P (Err why) f h = tt

commit_opens : (digest : Digest) (state : State) (c : CommitRequest) → OkIs (λ x. x.0.kind ≡ Branch) (commit_opening digest state c)
unfolding commit_opening
commit_opens digest state c =
    ok_bind _ (named state c.branch) _ (λ branch e.
    ok_bind _ (needs_branch branch) _ (λ u test.
    ok_bind _ (pointed digest state (Some branch) c.expected) _ (λ expected f. branch_kind branch.kind _ u test)))

merge_opens : (digest : Digest) (state : State) (m : Merge) → OkIs (λ x. x.0.kind ≡ Branch) (merge_opening digest state m)
unfolding merge_opening
merge_opens digest state m =
    ok_bind _ (named state m.branch) _ (λ branch e.
    ok_bind _ (named state m.from) _ (λ from f.
    ok_bind _ (needs_branch branch) _ (λ u test.
    ok_bind _ (pointed digest state (Some branch) m.hash) _ (λ x g.
    ok_bind _ (pointed digest state (Some from) (Some m.from_hash)) _ (λ source h. branch_kind branch.kind _ u test)))))

transplant_opens : (digest : Digest) (state : State) (t : Transplant) → OkIs (λ branch. branch.kind ≡ Branch) (transplant_opening digest state t)
unfolding transplant_opening
transplant_opens digest state t =
    ok_bind _ (named state t.branch) _ (λ branch e.
    ok_bind _ (named state t.from) _ (λ from f.
    ok_bind _ (needs_branch branch) _ (λ u test.
    ok_bind _ (pointed digest state (Some branch) t.hash) _ (λ x g.
    ok_bind _ (needs_on_chain state from t.hashes) _ (λ y h.
    ok_bind _ (needs (are_consecutive state.commits t.hashes) (BadRequest NotConsecutive)) _ (λ z i. branch_kind branch.kind _ u test))))))

pub commit_branch : (digest : Digest) (state : State) (c : CommitRequest) (x : Reference × Hash) → commit_opening digest state c ≡ Ok x → x.0.kind ≡ Branch
commit_branch digest state c x e = subst (OkIs (λ (y : Reference × Hash). y.0.kind ≡ Branch)) e (commit_opens digest state c)

pub merge_branch : (digest : Digest) (state : State) (m : Merge) (x : Reference × Hash) → merge_opening digest state m ≡ Ok x → x.0.kind ≡ Branch
merge_branch digest state m x e = subst (OkIs (λ (y : Reference × Hash). y.0.kind ≡ Branch)) e (merge_opens digest state m)

pub transplant_branch : (digest : Digest) (state : State) (t : Transplant) (branch : Reference) → transplant_opening digest state t ≡ Ok branch → branch.kind ≡ Branch
transplant_branch digest state t branch e = subst (OkIs (λ (y : Reference). y.kind ≡ Branch)) e (transplant_opens digest state t)

-- ---- what is found

none_is : (o : Option Reference) → is_none o ≡ true → o ≡ None
none_is None e = refl
none_is (Some x) e = absurd cc

-- what is found under a name has the name
found_name : (references : List Reference) (name : List ℕ) (r : Reference) → reference_of references name ≡ Some r → r.name ≡ name
found_name [] name r e = absurd (none-some r e)
found_name (x ∷ xs) name r e = first (bytes_eq x.name name) (reference_of xs name) (same_name x.name name) (found_name xs name r) e
  where
    first : (b : Bool) (rest : Option Reference) → (b ≡ true → x.name ≡ name) → (rest ≡ Some r → r.name ≡ name) → cond b (Some x) rest ≡ Some r → r.name ≡ name
    first true rest f g e = ap (λ (y : Reference). y.name) (sym (some_is x r e)) ∙ f refl
    first false rest f g e = g e

-- ---- changes

other_is : (b : Bool) (x found : Option Reference) → (b ≡ true → ⊥) → cond b x found ≡ found
other_is true x found never = absurd (never refl)
other_is false x found never = refl

-- a new reference has another name
pub main_with : (references : List Reference) (new : Reference) → is_none (reference_of references new.name) ≡ true → HasMain references → HasMain (with_reference references new)
main_with references new fresh has =
    let absent : reference_of references new.name ≡ None = none_is (reference_of references new.name) fresh in
    let never : bytes_eq new.name (codes "main") ≡ true → ⊥ =
    λ same. none-some has.0 (sym absent ∙ ap (reference_of references) (same_name new.name (codes "main") same) ∙ has.1) in
    (has.0, found_with references new (codes "main") absent ∙ other_is _ _ _ never ∙ has.1, has.2)

-- a reference that is moved stays a branch, if it is `main`
pub main_moved : (references : List Reference) (moved : Reference) → (bytes_eq moved.name (codes "main") ≡ true → moved.kind ≡ Branch) → HasMain references → HasMain (moved_reference references moved)
main_moved references moved stays has =
    let at = found_moved references moved (codes "main") in
    split (bytes_eq moved.name (codes "main"))
    (λ same. (moved, at ∙ ap (λ (b : Bool). cond b (option_map (λ r. moved) (reference_of references (codes "main"))) (reference_of references (codes "main"))) same ∙ ap (option_map (λ r. moved)) has.1, stays same))
    (λ other. (has.0, at ∙ ap (λ (b : Bool). cond b (option_map (λ r. moved) (reference_of references (codes "main"))) (reference_of references (codes "main"))) other ∙ has.1, has.2))

-- so it does, where it was found under a name and keeps its own and its kind
pub main_assigned : (state : State) (name : List ℕ) (reference moved : Reference) → named state name ≡ Ok reference → moved.name ≡ reference.name → moved.kind ≡ reference.kind
    → HasMain state.references → HasMain (moved_reference state.references moved)
main_assigned state name reference moved is same_as kept has =
    let there : reference_of state.references name ≡ Some reference = found_is (reference_of state.references name) _ reference is in
    main_moved state.references moved
    (λ same. let at : name ≡ codes "main" = sym (found_name state.references name reference there) ∙ sym same_as ∙ same_name moved.name (codes "main") same in
    kept ∙ ap (λ (r : Reference). r.kind) (some_is reference has.0 (sym there ∙ ap (reference_of state.references) at ∙ has.1)) ∙ has.2)
    has

-- a reference of another name is removed
pub main_without : (references : List Reference) (gone : List ℕ) → bytes_eq gone (codes "main") ≡ false → HasMain references → HasMain (without_reference references gone)
main_without references gone other has =
    (has.0, found_without references gone (codes "main") ∙ ap (λ (b : Bool). cond b None (reference_of references (codes "main"))) other ∙ has.1, has.2)
