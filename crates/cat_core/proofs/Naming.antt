-- The names in a checkpoint that fits ascend.
use Rattle.std.proofs.Common.{◌≡◌, true, List, [], ◌∷◌, Option, Some, None, refl}
use Rattle.std.specs.List.{list_all}
use Rattle.sha2.specs.Sha256.{sha256}
use Rattle.cat_codes.specs.Code.{ascending_keys, follows, keys_ascend}
use Rattle.cat_frames.specs.declared.checkpoint.Checkpoint.{Checkpoint}
use Rattle.cat_frames.specs.Checkpoints.{checkpoint_code, name_cmp, references_code}
use Rattle.cat_model.specs.declared.reference.Reference.{Reference}
use Rattle.cat_tables.specs.References.{is_below, names_ascend}
use Rattle.cat_tables.specs.ReferenceLaws.{and_true, below_trans, both_true}

-- what ascends above a name is above it everywhere
all_above : (x : Reference) (xs : List Reference) → keys_ascend name_cmp (Some x) xs ≡ true → list_all (λ r. is_below x.name r.name) xs ≡ true
all_above x [] up = refl
all_above x (y ∷ xs) up =
    let parts = and_true (follows name_cmp (Some x) y) (keys_ascend name_cmp (Some y) xs) up in
    both_true _ _ parts.0 (lower xs (all_above y xs parts.1))
  where
    lower : (zs : List Reference) → list_all (λ r. is_below y.name r.name) zs ≡ true → list_all (λ r. is_below x.name r.name) zs ≡ true
    lower [] all = refl
    lower (z ∷ zs) all =
        let first = and_true (is_below y.name z.name) (list_all (λ r. is_below y.name r.name) zs) all in
        let above = (and_true (follows name_cmp (Some x) y) (keys_ascend name_cmp (Some y) xs) up).0 in
        both_true _ _ (below_trans x.name y.name z.name above first.0) (lower zs first.1)

each_ascends : (last : Option Reference) (xs : List Reference) → keys_ascend name_cmp last xs ≡ true → names_ascend xs ≡ true
each_ascends last [] up = refl
each_ascends last (x ∷ xs) up =
    let parts = and_true (follows name_cmp last x) (keys_ascend name_cmp (Some x) xs) up in
    both_true _ _ (all_above x xs parts.1) (each_ascends (Some x) xs parts.1)

pub fits_names : (c : Checkpoint) → (checkpoint_code sha256).Fits c → names_ascend c.references ≡ true
unfolding checkpoint_code references_code ascending_keys
fits_names c fits = each_ascends None c.references fits.1.1.1.0.2
