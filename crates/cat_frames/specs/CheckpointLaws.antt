-- The format of checkpoints is a code, and which bytes are checkpoints.
use Rattle.std.proofs.Common.{◌≡◌, ℕ, Bool, true, List, [], ◌∷◌, refl, ap}
use Rattle.std.specs.Prelude.{is_ok}
use Rattle.std.specs.Ordering.{nat_cmp}
use Rattle.sha2.specs.Sha256.{sha256}
use Rattle.cat_codes.specs.declared.fault.FieldFault.TheVariants.{Range}
use Rattle.cat_codes.specs.Code.{Code, IsCode, u32_code, whole, within}
use Rattle.cat_codes.specs.FieldLaws.{as_type_is, depends_is, only_is, pair_is, prefixed_is, whole_again, within_is}
use Rattle.cat_codes.specs.ListLaws.{ascending_keys_is, list_is}
use Rattle.cat_codes.specs.NumberLaws.{u32_is, u64_is}
use Rattle.cat_names.specs.KeyLaws.{hash_is}
use Rattle.cat_names.specs.RefNames.{ref_name_is}
use Rattle.cat_model.specs.Contents.{content_code}
use Rattle.cat_model.specs.ContentLaws.{content_is}
use Rattle.cat_model.specs.Formats.{commit_code}
use Rattle.cat_model.specs.FormatLaws.{commit_is}
use Rattle.cat_model.specs.State.{Digest}
use Rattle.cat_frames.specs.declared.checkpoint.Checkpoint.{Checkpoint}
use Rattle.cat_frames.specs.Checkpoints.{are_open_drafts, by_hash, checkpoint_code, commits_code, contents_code, hashed, name_cmp, named_code, numbers_code, open_code, record_hash, references_code}
use Rattle.cat_frames.specs.SourceLaws.{reference_is}
use Rattle.cat_frames.specs.Telling.{told_by_is}

pub numbers_is : IsCode numbers_code
unfolding numbers_code
numbers_is = ascending_keys_is nat_cmp _ u64_is

pub open_is : (draft : ℕ) → IsCode (open_code draft)
unfolding open_code
open_is draft = only_is Range (are_open_drafts draft) _ numbers_is

pub named_is : IsCode named_code
unfolding named_code
named_is = as_type_is _ _ _ (λ _. refl) (λ _. refl) (pair_is _ _ ref_name_is (pair_is _ _ reference_is hash_is))

pub references_is : IsCode references_code
unfolding references_code
references_is = ascending_keys_is name_cmp named_code named_is

pub hashed_is : {A : Type 0} (digest : Digest) (a : Code A) → IsCode a → IsCode (hashed digest a)
hashed_is digest a p = told_by_is (λ x. x.1) (λ y. (record_hash digest a y, y)) (within u32_code a) (λ x fits. refl) (within_is u32_code a u32_is p)

pub commits_is : (digest : Digest) → IsCode (commits_code digest)
unfolding commits_code
commits_is digest = list_is (hashed digest commit_code) (hashed_is digest commit_code commit_is)

pub contents_is : (digest : Digest) → IsCode (contents_code digest)
unfolding contents_code
contents_is digest = ascending_keys_is by_hash (hashed digest content_code) (hashed_is digest content_code content_is)

pub checkpoint_is : (digest : Digest) → IsCode (checkpoint_code digest)
unfolding checkpoint_code
checkpoint_is digest = prefixed_is (8 ∷ []) _ (as_type_is _ _ _ (λ _. refl) (λ _. refl)
    (pair_is _ _ u32_is (depends_is _ _ u64_is (λ draft. pair_is _ _ (open_is draft) (pair_is _ _ references_is (pair_is _ _ (commits_is digest) (contents_is digest)))))))

-- ---- which bytes are checkpoints

-- the bytes are a checkpoint's, all of them
unfoldable pub is_whole_checkpoint : List ℕ → Bool
is_whole_checkpoint bytes = is_ok (whole (checkpoint_code sha256) bytes)

-- what is spelled is read
pub spelling_is_whole : (c : Checkpoint) → (checkpoint_code sha256).Fits c → is_whole_checkpoint ((checkpoint_code sha256).spell c) ≡ true
unfolding is_whole_checkpoint
spelling_is_whole c fits = ap is_ok (whole_again (checkpoint_code sha256) (checkpoint_is sha256) c fits)
