-- What each state upholds: `main` is a branch, and each commit and each content stands under its hash.
use Rattle.std.specs.Prelude.{◌≡◌, List, [], ◌∷◌, Some, codes}
use Rattle.cat_names.specs.declared.hash.Hash.{Hash}
use Rattle.cat_model.specs.declared.reference.Reference.{Reference}
use Rattle.cat_model.specs.declared.reference.Kind.TheVariants.{Branch}
use Rattle.cat_model.specs.State.{Digest, State, commit_hash, content_hash, reference_of}

-- the default branch is there, and is a branch
abbrev pub HasMain : List Reference → Type 0
HasMain references = (main : Reference) × (reference_of references (codes "main") ≡ Some main) × (main.kind ≡ Branch)

-- each record stands under its hash
abbrev pub AreHashed : {A : Type 0} → (A → Hash) → List (Hash × A) → Type 0
AreHashed hash_of [] = Unit {0}
AreHashed hash_of (x ∷ xs) = (x.0 ≡ hash_of x.1) × AreHashed hash_of xs

pub record Upholds (digest : Digest) (state : State) : Type 0 where
  pub main : HasMain state.references
  pub commits : AreHashed (commit_hash digest) state.commits
  pub contents : AreHashed (content_hash digest) state.present
