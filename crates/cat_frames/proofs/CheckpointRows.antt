-- Worked cases of checkpoints, in hexadecimal digits.
use Rattle.std.specs.Prelude.{◌≡◌, refl, ℕ, ◌+◌, ◌-◌, ◌*◌, List, [], ◌∷◌, ◌++◌, length, replicate, Result, Ok, Err, true, false, codes, nat_lt, if◌then◌else◌}
use lib.Utf8.{encode}
use Rattle.std.specs.Str.{chars, is_utf8}
use Rattle.cat_codes.specs.declared.fault.FieldFault.{FieldFault}
use Rattle.cat_codes.specs.declared.fault.FieldFault.TheVariants.{Short, Range}
use Rattle.cat_codes.specs.Code.{u8_spelling, u8_at, u32_spelling, u32_at, u64_spelling, u64_at, magic_at, items_at, keys_at, list, ascending_keys, whole}
use Rattle.cat_codes.specs.Texts.{text_code}
use Rattle.cat_names.specs.Fields.{hash_code}
use Rattle.cat_names.specs.RefNames.{ref_name_code, is_reference_name}
use Rattle.cat_model.specs.declared.reference.Reference.{Reference}
use Rattle.cat_model.specs.declared.reference.Kind.TheVariants.{Branch}
use Rattle.cat_frames.specs.declared.checkpoint.Checkpoint.{Checkpoint}
use Rattle.cat_frames.specs.Checkpoints.{checkpoint_code, commits_code, contents_code, is_checkpoint, is_spelled, named_code, numbers_code, open_code, references_code}
use Rattle.cat_frames.specs.Sources.{reference_code}

-- a digest that no case asks
none : List ℕ → List ℕ
none bytes = []

abbrev digit : ℕ → ℕ
digit b = if nat_lt b 58 then b - 48 else b - 87

-- the bytes of pairs of digits
abbrev hexed : List ℕ → List ℕ
hexed [] = []
hexed (a ∷ []) = []
hexed (a ∷ b ∷ digits) = (digit a * 16 + digit b) ∷ hexed digits

abbrev reference : List ℕ → ℕ → Reference
reference name b = record { name = name; kind = Branch; head = record { bytes = replicate 32 b } }

abbrev spelled : Checkpoint → List ℕ
spelled c = (checkpoint_code none).spell c

abbrev read : List ℕ → Result Checkpoint FieldFault
read bytes = whole (checkpoint_code none) bytes

-- the empty catalogue: 70 bytes
abbrev empty : Checkpoint
empty = record { place = 0; draft = 0; drafts = []; references = reference (codes "main") 171 ∷ []; commits = []; contents = [] }

abbrev empty_bytes : List ℕ
empty_bytes = hexed (codes "0800000000000000000000000000000000") ++ hexed (codes "00000001000000046d61696e01") ++ replicate 32 171 ++ hexed (codes "0000000000000000")

-- the empty catalogue
begins : (spelled empty ≡ empty_bytes)
    × (read empty_bytes ≡ Ok empty)
    × (is_spelled none empty ≡ true)
    × (length empty_bytes ≡ 70)
    × (is_checkpoint empty_bytes ≡ true)
unfolding encode chars is_utf8 u8_spelling u8_at u32_spelling u32_at u64_spelling u64_at magic_at items_at keys_at list ascending_keys whole text_code hash_code ref_name_code is_reference_name reference_code named_code numbers_code open_code references_code commits_code contents_code checkpoint_code is_spelled
begins = (refl, refl, refl, refl, refl)

-- drafts 3 and 8 are open, and 9 was the greatest that was logged
abbrev going : Checkpoint
going = record { place = 258; draft = 9; drafts = 3 ∷ 8 ∷ []; references = reference (codes "dev") 1 ∷ reference (codes "main") 2 ∷ []; commits = []; contents = [] }

abbrev going_front : List ℕ
going_front = hexed (codes "0800000102000000000000000900000002") ++ hexed (codes "00000000000000030000000000000008")

abbrev going_bytes : List ℕ
going_bytes = going_front ++ hexed (codes "000000020000000364657601") ++ replicate 32 1 ++ hexed (codes "000000046d61696e01") ++ replicate 32 2 ++ hexed (codes "0000000000000000")

goes_on : (spelled going ≡ going_bytes)
    × (read going_bytes ≡ Ok going)
    × (is_spelled none going ≡ true)
unfolding encode chars is_utf8 u8_spelling u8_at u32_spelling u32_at u64_spelling u64_at magic_at items_at keys_at list ascending_keys whole text_code hash_code ref_name_code is_reference_name reference_code named_code numbers_code open_code references_code commits_code contents_code checkpoint_code is_spelled
goes_on = (refl, refl, refl)

-- the kind comes before all else
kinds : (read [] ≡ Err Short)
    × (read (hexed (codes "07")) ≡ Err Range)
    × (read (hexed (codes "08")) ≡ Err Short)
    × (read (hexed (codes "09")) ≡ Err Range)
    × (is_checkpoint [] ≡ false)
    × (is_checkpoint (hexed (codes "07")) ≡ false)
    × (is_checkpoint (hexed (codes "08")) ≡ true)
unfolding encode chars is_utf8 u8_spelling u8_at u32_spelling u32_at u64_spelling u64_at magic_at items_at keys_at list ascending_keys whole text_code hash_code ref_name_code is_reference_name reference_code named_code numbers_code open_code references_code commits_code contents_code checkpoint_code is_spelled
kinds = (refl, refl, refl, refl, refl, refl, refl)

-- open drafts ascend, are distinct, not 0, and below the greatest
drafts : (read (hexed (codes "080000010200000000000000090000000200000000000000080000000000000003")) ≡ Err Range)
    × (read (hexed (codes "080000010200000000000000090000000200000000000000030000000000000003")) ≡ Err Range)
    × (read (hexed (codes "08000001020000000000000009000000010000000000000000")) ≡ Err Range)
    × (read (hexed (codes "08000001020000000000000009000000010000000000000009")) ≡ Err Range)
    × (read (hexed (codes "08000001020000000000000009000000010000000000000008")) ≡ Err Short)
unfolding encode chars is_utf8 u8_spelling u8_at u32_spelling u32_at u64_spelling u64_at magic_at items_at keys_at list ascending_keys whole text_code hash_code ref_name_code is_reference_name reference_code named_code numbers_code open_code references_code commits_code contents_code checkpoint_code is_spelled
drafts = (refl, refl, refl, refl, refl)

-- names ascend and are distinct
names : (read (going_front ++ hexed (codes "00000002000000046d61696e01") ++ replicate 32 1 ++ hexed (codes "0000000364657601") ++ replicate 32 2) ≡ Err Range)
    × (read (going_front ++ hexed (codes "000000020000000364657601") ++ replicate 32 1 ++ hexed (codes "0000000364657601") ++ replicate 32 2) ≡ Err Range)
unfolding encode chars is_utf8 u8_spelling u8_at u32_spelling u32_at u64_spelling u64_at magic_at items_at keys_at list ascending_keys whole text_code hash_code ref_name_code is_reference_name reference_code named_code numbers_code open_code references_code commits_code contents_code checkpoint_code is_spelled
names = (refl, refl)

-- nothing stands behind it
over : read (empty_bytes ++ 0 ∷ []) ≡ Err Range
unfolding encode chars is_utf8 u8_spelling u8_at u32_spelling u32_at u64_spelling u64_at magic_at items_at keys_at list ascending_keys whole text_code hash_code ref_name_code is_reference_name reference_code named_code numbers_code open_code references_code commits_code contents_code checkpoint_code is_spelled
over = refl
