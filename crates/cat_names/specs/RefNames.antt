-- The spelling of reference names.
use Rattle.std.specs.Prelude.{ℕ, List, [], ◌∷◌, length, Bool, true, false, not, ◌&&◌, ◌||◌, ◌==◌, nat_le}
use Rattle.std.specs.List.{list_all}
use Rattle.cat_codes.specs.declared.fault.FieldFault.TheVariants.{Range}
use Rattle.cat_codes.specs.Code.{Code, IsCode, only}
use Rattle.cat_codes.specs.Texts.{text_code, text_is}
use Rattle.cat_codes.specs.FieldLaws.{only_is}

abbrev pub is_between : ℕ → ℕ → ℕ → Bool
is_between least most b = nat_le least b && nat_le b most

-- an ASCII letter
abbrev pub is_letter : ℕ → Bool
is_letter b = is_between 65 90 b || is_between 97 122 b

-- a letter, a digit, or one of . / _ -
abbrev pub is_name_byte : ℕ → Bool
is_name_byte b = is_letter b || is_between 48 57 b || b == 46 || b == 47 || b == 95 || b == 45

-- no two dots in a row, and no dot or slash at the end
abbrev pub has_good_dots : List ℕ → Bool
has_good_dots [] = true
has_good_dots (b ∷ []) = not (b == 46 || b == 47)
has_good_dots (b ∷ c ∷ bytes) = not (b == 46 && c == 46) && has_good_dots (c ∷ bytes)

-- the first byte is a letter
abbrev pub begins_with_letter : List ℕ → Bool
begins_with_letter [] = false
begins_with_letter (b ∷ bytes) = is_letter b

-- the name of a reference
unfoldable pub is_reference_name : List ℕ → Bool
is_reference_name bytes = begins_with_letter bytes && list_all is_name_byte bytes && has_good_dots bytes && nat_le (length bytes) 128

-- a text that is a reference name
unfoldable pub ref_name_code : Code (List ℕ)
ref_name_code = only Range is_reference_name text_code

pub ref_name_is : IsCode ref_name_code
unfolding ref_name_code
ref_name_is = only_is Range is_reference_name text_code text_is
