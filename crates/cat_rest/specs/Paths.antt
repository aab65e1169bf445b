-- References and keys in paths.
use Rattle.std.specs.Prelude.{ℕ, ◌==◌, ◌^◌, ◌&&◌, nat_eq, nat_le, nat_lt, List, length, Option, Some, None, is_some, Bool, bytes_eq, if◌then◌else◌, codes}
use Rattle.std.specs.List.{before_first, after_first, position}
use Rattle.std.specs.Str.{is_utf8}
use Rattle.std.specs.Str.Parse.{digits_value}
use Rattle.percent_encoding.specs.Percent.{percent_decode}
use Rattle.cat_json.specs.Names.{made}
use Rattle.cat_json.specs.Reading.{◌>>=◌}
use Rattle.cat_names.specs.Fields.{Key, key_of, pieces}
use Rattle.cat_names.specs.Hashes.{hash_of}
use Rattle.cat_names.specs.RefNames.{is_reference_name}
use Rattle.cat_model.specs.declared.reference.Pointer.{Pointer}
use Rattle.cat_model.specs.declared.reference.Position.{Position}
use Rattle.cat_queries.specs.Parameters.{is_number}
use Rattle.cat_rest.specs.declared.path.PathReference.{PathReference}

-- a parameter without its escapes, where that is a text
abbrev pub decoded : List ℕ → Option (List ℕ)
decoded part = if is_utf8 (percent_decode part) then Some (percent_decode part) else None

abbrev pub name_of : List ℕ → Option (List ℕ)
name_of text = if is_reference_name text then Some text else None

-- `-` is the default branch
abbrev pub name_in : List ℕ → Option (List ℕ)
name_in text = name_of (if bytes_eq text (codes "-") then codes "main" else text)

abbrev pub is_at : ℕ → Bool
is_at byte = byte == 64

-- a name, or a name, `@` and a hash
unfoldable pub reference_in : List ℕ → Option PathReference
reference_in text =
    if is_some (position is_at text) then
    (name_in (before_first is_at text) >>= λ name.
    hash_of (after_first is_at text) >>= λ hash.
    Some (record { name = name; hash = Some hash }))
    else (name_in text >>= λ name. Some (record { name = name; hash = None }))

-- what stands before an `@`: a name, or nothing for a hash alone
abbrev pub name_before : List ℕ → Option (Option (List ℕ))
name_before text = if nat_eq (length text) 0 then Some None else (name_in text >>= λ name. Some (Some name))

-- a name, a name, `@` and a hash, or `@` and a hash
unfoldable pub pointer_in : List ℕ → Option Pointer
pointer_in text =
    if is_some (position is_at text) then
    (name_before (before_first is_at text) >>= λ name.
    hash_of (after_first is_at text) >>= λ hash.
    Some (record { name = name; hash = Some hash }))
    else (name_in text >>= λ name. Some (record { name = Some name; hash = None }))

abbrev pub is_tilde : ℕ → Bool
is_tilde byte = byte == 126

-- how many commits back: one to ten digits of a number below 2 ^ 32
abbrev pub back_in : List ℕ → Option ℕ
back_in text = if is_number text && nat_le (length text) 10 && nat_lt (digits_value 10 text) (2 ^ 32) then Some (digits_value 10 text) else None

-- what a read points at, or that, `~`, and how many commits back from it
unfoldable pub position_in : List ℕ → Option Position
position_in text =
    if is_some (position is_tilde text) then
    (pointer_in (before_first is_tilde text) >>= λ from.
    back_in (after_first is_tilde text) >>= λ back.
    Some (record { from = from; back = back }))
    else (pointer_in text >>= λ from. Some (record { from = from; back = 0 }))

-- the commit that a parameter of a read asks for
abbrev pub position_at : Option (List ℕ) → Option Position
position_at part = part >>= decoded >>= position_in

-- the reference that a parameter of a change stands for
abbrev pub reference_at : Option (List ℕ) → Option PathReference
reference_at part = part >>= decoded >>= reference_in

abbrev pub key_in : List ℕ → Option Key
key_in path = made (key_of (pieces path))

-- the key that a parameter stands for
abbrev pub key_at : Option (List ℕ) → Option Key
key_at part = part >>= decoded >>= key_in
