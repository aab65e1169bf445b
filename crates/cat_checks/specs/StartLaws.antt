-- What a log may start from upholds what each state does.
use Rattle.std.proofs.Common.{◌≡◌, true, false, ◌&&◌, List, [], ◌∷◌, ◌++◌, reverse, Option, Some, None, codes, refl}
use Rattle.std.specs.Option.{option_map_or}
use Rattle.std.proofs.lemmas.Bool.{and_parts}
use Rattle.std.proofs.lemmas.Grind.{reverse_onto}
use Rattle.std.proofs.lemmas.Slice.Eq.{bytes_eq-Decides}
use Rattle.cat_codes.specs.Code.{Code}
use Rattle.cat_names.specs.declared.hash.Hash.{Hash}
use Rattle.cat_frames.specs.declared.checkpoint.Checkpoint.{Checkpoint}
use Rattle.cat_frames.specs.Bases.{state_in}
use Rattle.cat_frames.specs.Checkpoints.{have_hashes, record_hash}
use Rattle.cat_model.specs.declared.limits.Limits.{Limits}
use Rattle.cat_model.specs.declared.reference.Kind.{Kind}
use Rattle.cat_model.specs.declared.reference.Kind.TheVariants.{Branch, Tag}
use Rattle.cat_model.specs.declared.reference.Reference.{Reference}
use Rattle.cat_model.specs.Contents.{content_code}
use Rattle.cat_model.specs.Formats.{commit_code}
use Rattle.cat_model.specs.Same.{same_hash, same_kind}
use Rattle.cat_frames.specs.Standing.{are_above, has_main, heads_known, heads_shown, is_whole, is_within, maps_pass, may_start}
use Rattle.cat_model.specs.Namespaces.{is_well_formed}
use Rattle.cat_model.specs.State.{Digest, State, reference_of}
use Rattle.cat_checks.specs.Upheld.{AreHashed, HasMain, Upholds}

-- ---- records under their hashes, in either order

hash_is : (a b : Hash) → same_hash a b ≡ true → a ≡ b
hash_is a b same = let bytes : a.bytes ≡ b.bytes = (bytes_eq-Decides a.bytes b.bytes).0 same in λ i. record { bytes = bytes i }

module _ {A : Type 0} (digest : Digest) (code : Code A) where
  each_hashed : (xs : List (Hash × A)) → have_hashes digest code xs ≡ true → AreHashed (record_hash digest code) xs
  each_hashed [] is = tt
  each_hashed (x ∷ xs) is =
      let both = and_parts (same_hash x.0 (record_hash digest code x.1)) (have_hashes digest code xs) is in
      (hash_is x.0 (record_hash digest code x.1) both.0, each_hashed xs both.1)

  both_hashed : (xs ys : List (Hash × A)) → AreHashed (record_hash digest code) xs → AreHashed (record_hash digest code) ys → AreHashed (record_hash digest code) (xs ++ ys)
  both_hashed [] ys p q = q
  both_hashed (x ∷ xs) ys p q = (p.0, both_hashed xs ys p.1 q)

  pub turned_hashed : (xs : List (Hash × A)) → AreHashed (record_hash digest code) xs → AreHashed (record_hash digest code) (reverse xs)
  turned_hashed [] are = tt
  turned_hashed (x ∷ xs) are = rw (reverse_onto xs x []) (both_hashed (reverse xs) (x ∷ []) (turned_hashed xs are.1) (are.0, tt))

-- ---- the default branch

branch_is : (kind : Kind) → same_kind kind Branch ≡ true → kind ≡ Branch
branch_is Branch is = refl
branch_is Tag is = absurd cc

main_by : (found : Option Reference) → option_map_or (λ r. same_kind r.kind Branch) found false ≡ true → (r : Reference) × (found ≡ Some r) × (r.kind ≡ Branch)
main_by None is = absurd cc
main_by (Some r) is = (r, refl, branch_is r.kind is)

pub main_is : (references : List Reference) → has_main references ≡ true → HasMain references
main_is references is = main_by (reference_of references (codes "main")) is

-- ---- the whole

whole_main : (digest : Digest) (state : State) → may_start digest state ≡ true → has_main state.references ≡ true
unfolding is_whole
whole_main digest state may =
    let whole = (and_parts (is_whole digest state) (is_within state) may).0 in
    let four = (and_parts (are_above digest state.commits && maps_pass is_well_formed state.commits && has_main state.references && heads_known digest state.commits state.references) (heads_shown state.commits state.present state.references) whole).0 in
    let three = (and_parts (are_above digest state.commits && maps_pass is_well_formed state.commits && has_main state.references) (heads_known digest state.commits state.references) four).0 in
    (and_parts (are_above digest state.commits && maps_pass is_well_formed state.commits) (has_main state.references) three).1

pub start_upholds : (digest : Digest) (limits : Limits) (c : Checkpoint) → have_hashes digest commit_code c.commits ≡ true → have_hashes digest content_code c.contents ≡ true → may_start digest (state_in limits c) ≡ true
    → Upholds digest (state_in limits c)
start_upholds digest limits c commits contents may = record {
  main = main_is c.references (whole_main digest (state_in limits c) may);
  commits = turned_hashed digest commit_code c.commits (each_hashed digest commit_code c.commits commits);
  contents = turned_hashed digest content_code c.contents (each_hashed digest content_code c.contents contents);
}
