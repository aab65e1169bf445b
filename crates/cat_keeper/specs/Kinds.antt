-- A payload that has a reading is of its kind: no entry is a checkpoint by its first byte, and each checkpoint is.
use Rattle.std.proofs.Common.{◌≡◌, ℕ, ◌<◌, Bool, true, false, eqb, List, [], ◌∷◌, length, arith, refl, sym, ◌∙◌, ap}
use Rattle.std.proofs.lemmas.Bool.{eqb-true, le-ltb}
use Rattle.cat_codes.specs.Code.{magic_at, u8_at, whole}
use Rattle.cat_frames.specs.CheckpointLaws.{is_whole_checkpoint}
use Rattle.cat_frames.specs.Checkpoints.{checkpoint_code, is_checkpoint}
use Rattle.cat_frames.specs.Entries.{log_entry_code}
use Rattle.cat_frames.specs.Payload.{has_reading}

-- an entry is of another kind
none_at_eight : (bytes : List ℕ) → has_reading (8 ∷ bytes) ≡ false
unfolding has_reading whole log_entry_code u8_at
none_at_eight bytes = rw (le-ltb (length (8 ∷ bytes)) 1 (omega arith)) refl

none_of_kind : (b : ℕ) (bytes : List ℕ) → b ≡ 8 → has_reading (b ∷ bytes) ≡ false
none_of_kind b bytes is = ap (λ (k : ℕ). has_reading (k ∷ bytes)) is ∙ none_at_eight bytes

pub entry_is_no_checkpoint : (bytes : List ℕ) → has_reading bytes ≡ true → is_checkpoint bytes ≡ false
entry_is_no_checkpoint [] e = refl
entry_is_no_checkpoint (b ∷ bytes) e = by_test (eqb b 8) refl
  where
    by_test : (t : Bool) → eqb b 8 ≡ t → t ≡ false
    by_test true is = sym e ∙ none_of_kind b bytes (eqb-true b 8 is)
    by_test false is = refl

-- and a checkpoint is of this one
none_of_other : (b : ℕ) (bytes : List ℕ) → eqb b 8 ≡ false → is_whole_checkpoint (b ∷ bytes) ≡ false
unfolding is_whole_checkpoint whole checkpoint_code magic_at
none_of_other b bytes other = rw (le-ltb (length (b ∷ bytes)) 1 (omega arith), other) refl

none_at_all : is_whole_checkpoint [] ≡ false
unfolding is_whole_checkpoint whole checkpoint_code magic_at
none_at_all = refl

pub whole_is_checkpoint : (bytes : List ℕ) → is_whole_checkpoint bytes ≡ true → is_checkpoint bytes ≡ true
whole_is_checkpoint [] e = sym none_at_all ∙ e
whole_is_checkpoint (b ∷ bytes) e = by_test (eqb b 8) refl
  where
    by_test : (t : Bool) → eqb b 8 ≡ t → t ≡ true
    by_test true is = refl
    by_test false is = sym (none_of_other b bytes is) ∙ e

pub checkpoint_is_not_empty : (bytes : List ℕ) → is_checkpoint bytes ≡ true → 0 < length bytes
checkpoint_is_not_empty [] e = absurd cc
checkpoint_is_not_empty (b ∷ bytes) e = omega arith
