-- What the fields of a head say of the body.
use Rattle.std.specs.Prelude.{ℕ, Bool, ◌&&◌, ◌||◌, not, List, [], ◌∷◌, map, length, Option, Some, None, if◌then◌else◌, nat_lt, nat_le, codes, bytes_eq, ⊤, ◌==◌, true, false}
use Rattle.std.specs.List.{list_all, list_any}
use Rattle.std.specs.Char.{is_ascii_digit, to_ascii_lowercase}
use Rattle.std.specs.Str.Parse.{digits_value}
use Rattle.http1.specs.Fields.{has_option, elements_named}
use Rattle.cat_http.specs.Message.{Pair}
use Rattle.cat_http.specs.declared.fields.BodyLength.{BodyLength}
use Rattle.cat_http.specs.declared.fields.BodyLength.TheVariants.{Bytes, Chunked, Malformed, Excess}

-- the field has the name, in any case
abbrev pub is_named : List ℕ → Pair → Bool
is_named name field = bytes_eq (map to_ascii_lowercase field.0) (map to_ascii_lowercase name)

-- a field of the name is there
abbrev pub has_field : List ℕ → List Pair → Bool
has_field name fields = list_any (is_named name) fields

-- the value of the first field with the name
abbrev pub first_value : List ℕ → List Pair → Option (List ℕ)
first_value name [] = None
first_value name (field ∷ fields) = if is_named name field then Some field.1 else first_value name fields

-- a field of the name comes again, behind one that may have come before
abbrev pub is_repeated : Bool → List ℕ → List Pair → Bool
is_repeated came name [] = false
is_repeated came name (field ∷ fields) = if is_named name field then (if came then true else is_repeated true name fields) else is_repeated came name fields

-- each field with the name has the value
abbrev pub all_have : List ℕ → List ℕ → List Pair → Bool
all_have name value fields = list_all (λ field. not (is_named name field) || bytes_eq field.1 value) fields

-- 1*DIGIT
abbrev pub is_number : List ℕ → Bool
is_number text = nat_lt 0 (length text) && list_all is_ascii_digit text

-- the length of a body, if it isn't too large
abbrev pub within_limit : ℕ → BodyLength
within_limit n = if nat_le n 1048576 then Bytes n else Excess

-- from the first length, and all fields: their texts are the same digits
abbrev pub length_from : Option (List ℕ) → List Pair → BodyLength
length_from None fields = Bytes 0
length_from (Some value) fields =
    if is_number value && all_have (codes "content-length") value fields then within_limit (digits_value 10 value)
    else Malformed

-- `chunked`, in any case
abbrev pub is_chunked : List ℕ → Bool
is_chunked value = bytes_eq (map to_ascii_lowercase value) (codes "chunked")

-- from the first transfer encoding, and all fields: it stands alone, and is `chunked`
abbrev pub kind_from : Option (List ℕ) → List Pair → BodyLength
kind_from None fields = length_from (first_value (codes "content-length") fields) fields
kind_from (Some value) fields =
    if not (has_field (codes "content-length") fields) && is_chunked value && not (is_repeated false (codes "transfer-encoding") fields) then Chunked
    else Malformed

-- a request's body is in chunks or has the length that its one Content-Length says, else it has none
unfoldable pub body_length : List Pair → BodyLength
body_length fields = kind_from (first_value (codes "transfer-encoding") fields) fields

-- P of the length, where there is one
abbrev pub IfBytes : BodyLength → (ℕ → Type 0) → Type 0
IfBytes (Bytes n) P = P n
IfBytes Chunked P = ⊤
IfBytes Malformed P = ⊤
IfBytes Excess P = ⊤

-- the fields of a message ask for the end of the session after its reply, as HTTP/1.0 does
abbrev pub closes : ℕ → List Pair → Bool
closes minor fields = (minor == 0) || has_option (codes "close") (elements_named (codes "connection") fields)

-- `identity`, in any case
abbrev pub is_identity : List ℕ → Bool
is_identity value = bytes_eq (map to_ascii_lowercase value) (codes "identity")

-- the field names an encoding of the body that isn't `identity`
abbrev pub names_encoding : Pair → Bool
names_encoding field = is_named (codes "content-encoding") field && not (is_identity field.1)

-- one of the fields does
abbrev pub is_encoded : List Pair → Bool
is_encoded fields = list_any names_encoding fields
