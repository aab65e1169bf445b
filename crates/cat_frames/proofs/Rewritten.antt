-- What is written of a checkpoint is read again.
use Rattle.std.proofs.Common.{◌≡◌, Bool, true, false, ◌&&◌, List, Ok, refl}
use Rattle.std.specs.Prelude.{IsTrue, None}
use Rattle.std.specs.Ordering.{nat_cmp}
use Rattle.std.proofs.lemmas.Bool.{and_parts}
use Rattle.sha2.specs.Sha256.{sha256}
use Rattle.cat_codes.specs.Code.{keys_ascend, whole}
use Rattle.cat_codes.specs.FieldLaws.{whole_again}
use Rattle.cat_names.specs.declared.hash.Hash.{Hash}
use Rattle.cat_model.specs.declared.content.Content.{Content}
use Rattle.cat_model.specs.Contents.{content_code}
use Rattle.cat_model.specs.Formats.{commit_code}
use Rattle.cat_model.specs.State.{Digest}
use Rattle.cat_frames.specs.declared.checkpoint.Checkpoint.{Checkpoint}
use Rattle.cat_frames.specs.Checkpoints.{are_contents_spelled, are_drafts_spelled, are_open_drafts, by_hash, checkpoint_code, have_hashes, is_spelled, name_cmp}
use Rattle.cat_frames.specs.CheckpointLaws.{checkpoint_is, is_whole_checkpoint, spelling_is_whole}

all_four : (a b c d : Bool) → (a && b && c && d) ≡ true → (a ≡ true) × (b ≡ true) × (c ≡ true) × (d ≡ true)
all_four true true true true h = (refl, refl, refl, refl)
all_four true true true false h = absurd cc
all_four true true false d h = absurd cc
all_four true false c d h = absurd cc
all_four false b c d h = absurd cc

parts : (digest : Digest) (c : Checkpoint) → IsTrue (is_spelled digest c)
    → IsTrue (are_drafts_spelled c) × IsTrue (keys_ascend name_cmp None c.references) × IsTrue (have_hashes digest commit_code c.commits) × IsTrue (are_contents_spelled digest c.contents)
unfolding is_spelled
parts digest c h = all_four _ _ _ _ h

pub drafts_ascend : (digest : Digest) (c : Checkpoint) → IsTrue (is_spelled digest c) → IsTrue (keys_ascend nat_cmp None c.drafts)
drafts_ascend digest c h = (and_parts (keys_ascend nat_cmp None c.drafts) (are_open_drafts c.draft c.drafts) (parts digest c h).0).0

pub drafts_below : (digest : Digest) (c : Checkpoint) → IsTrue (is_spelled digest c) → IsTrue (are_open_drafts c.draft c.drafts)
drafts_below digest c h = (and_parts (keys_ascend nat_cmp None c.drafts) (are_open_drafts c.draft c.drafts) (parts digest c h).0).1

pub names_ascend : (digest : Digest) (c : Checkpoint) → IsTrue (is_spelled digest c) → IsTrue (keys_ascend name_cmp None c.references)
names_ascend digest c h = (parts digest c h).1

pub commits_hashed : (digest : Digest) (c : Checkpoint) → IsTrue (is_spelled digest c) → IsTrue (have_hashes digest commit_code c.commits)
commits_hashed digest c h = (parts digest c h).2

pub contents_spelled : (digest : Digest) (c : Checkpoint) → IsTrue (is_spelled digest c) → IsTrue (are_contents_spelled digest c.contents)
contents_spelled digest c h = (parts digest c h).3

pub contents_ascend : (digest : Digest) (xs : List (Hash × Content)) → IsTrue (are_contents_spelled digest xs) → IsTrue (keys_ascend by_hash None xs)
contents_ascend digest xs h = (and_parts (keys_ascend by_hash None xs) (have_hashes digest content_code xs) h).0

pub contents_hashed : (digest : Digest) (xs : List (Hash × Content)) → IsTrue (are_contents_spelled digest xs) → IsTrue (have_hashes digest content_code xs)
contents_hashed digest xs h = (and_parts (keys_ascend by_hash None xs) (have_hashes digest content_code xs) h).1

-- ---- the whole

pub checkpoint_reads : (c : Checkpoint) → (checkpoint_code sha256).Fits c → IsTrue (is_whole_checkpoint ((checkpoint_code sha256).spell c))
checkpoint_reads c fits = spelling_is_whole c fits

pub checkpoint_again : (c : Checkpoint) → (checkpoint_code sha256).Fits c → whole (checkpoint_code sha256) ((checkpoint_code sha256).spell c) ≡ Ok c
checkpoint_again c fits = whole_again (checkpoint_code sha256) (checkpoint_is sha256) c fits
