-- Tokens as texts.
use Rattle.std.specs.Prelude.{◌≡◌, ℕ, ◌==◌, List, ◌++◌, Option, Some, None, is_some, Bool, bytes_eq, if◌then◌else◌, codes, Result, Ok, Err}
use Rattle.std.specs.List.{before_first, after_first, position}
use Rattle.std.specs.Option.{option_map, option_and_then}
use Rattle.hex.specs.Hex.{encode_lower}
use Rattle.cat_names.specs.declared.key_fault.KeyFault.{KeyFault}
use Rattle.cat_names.specs.declared.key_fault.KeyFault.TheVariants as keys
use Rattle.cat_names.specs.declared.name_fault.NameFault.{NameFault}
use Rattle.cat_names.specs.declared.name_fault.NameFault.TheVariants as names
use Rattle.cat_names.specs.Fields.{Key, key_of, pieces}
use Rattle.cat_names.specs.Hashes.{hash_of}
use Rattle.cat_names.specs.Paths.{path_form}
use Rattle.cat_names.specs.RefNames.{is_reference_name}
use Rattle.cat_pages.specs.declared.token.Token.{Token}
use Rattle.cat_pages.specs.declared.token.Token.TheVariants.{References, Entries, History}
use Rattle.cat_pages.specs.declared.token.TokenFault.{TokenFault}
use Rattle.cat_pages.specs.declared.token.TokenFault.TheVariants as faults

abbrev pub is_dot : ℕ → Bool
is_dot byte = byte == 46

abbrev pub name_of : List ℕ → Option (List ℕ)
name_of text = if is_reference_name text then Some text else None

abbrev pub made : Result Key KeyFault → Option Key
made (Ok key) = Some key
made (Err e) = None

-- a key in path form
abbrev pub key_in : List ℕ → Option Key
key_in path = made (key_of (pieces path))

-- a name
abbrev pub references_of : List ℕ → Option Token
references_of text = option_map References (name_of text)

-- a hash, a dot and a key
unfoldable pub entries_of : List ℕ → Option Token
entries_of text =
    if is_some (position is_dot text) then
    option_and_then (λ hash. option_map (Entries hash) (key_in (after_first is_dot text))) (hash_of (before_first is_dot text))
    else None

-- a hash
abbrev pub history_of : List ℕ → Option Token
history_of text = option_map History (hash_of text)

-- what the letter before the first dot makes of the rest
abbrev pub of_kind : List ℕ → List ℕ → Option Token
of_kind kind rest =
    if bytes_eq kind (codes "r") then references_of rest
    else if bytes_eq kind (codes "e") then entries_of rest
    else if bytes_eq kind (codes "h") then history_of rest
    else None

-- the token that a text is
unfoldable pub token_of : List ℕ → Option Token
token_of text = if is_some (position is_dot text) then of_kind (before_first is_dot text) (after_first is_dot text) else None

-- the text of a token
abbrev pub token_text : Token → List ℕ
token_text (References name) = codes "r." ++ name
token_text (Entries hash key) = codes "e." ++ encode_lower hash.bytes ++ codes "." ++ path_form key
token_text (History hash) = codes "h." ++ encode_lower hash.bytes

-- what a call returned is the reading, unless memory ran out
abbrev pub Gives : Result Token TokenFault → Option Token → Type 0
Gives (Ok token) reading = reading ≡ Some token
Gives (Err faults.Bad) reading = reading ≡ None
Gives (Err faults.NoMemory) reading = Unit {0}

-- ---- a fault as the fault above it: only want of memory stays that

abbrev pub NameBecomes : NameFault → TokenFault → Type 0
NameBecomes names.NoMemory f = f ≡ faults.NoMemory
NameBecomes names.Bad f = f ≡ faults.Bad

abbrev pub KeyBecomes : KeyFault → TokenFault → Type 0
KeyBecomes keys.NoMemory f = f ≡ faults.NoMemory
KeyBecomes keys.Empty f = f ≡ faults.Bad
KeyBecomes keys.TooMany f = f ≡ faults.Bad
KeyBecomes keys.Control f = f ≡ faults.Bad
KeyBecomes keys.TooLong f = f ≡ faults.Bad
