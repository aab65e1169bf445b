-- Hashes, ids and keys as JSON.
use Rattle.std.specs.Prelude.{◌≡◌, Option, Some, None, Result, Ok, Err, codes, false, refl}
use Rattle.serde_json.specs.Data.{Data, string, object, no_members}
use Rattle.serde_json.specs.Find.{as_str}
use Rattle.serde_json.specs.Written.{has_float}
use Rattle.hex.specs.Hex.{encode_lower}
use Rattle.uuid.specs.Text.{hyphenated_text, lower}
use Rattle.cat_names.specs.declared.hash.Hash.{Hash}
use Rattle.cat_names.specs.declared.hash.ContentId.{ContentId}
use Rattle.cat_names.specs.declared.key_fault.KeyFault.{KeyFault}
use Rattle.cat_names.specs.declared.key_fault.KeyFault.TheVariants as keys
use Rattle.cat_names.specs.Hashes.{hash_of, id_of}
use Rattle.cat_names.specs.Fields.{Key, key_of}
use Rattle.cat_json.specs.declared.fault.JsonFault.{JsonFault}
use Rattle.cat_json.specs.declared.fault.JsonFault.TheVariants.{Bad, NoMemory}
use Rattle.cat_json.specs.Reading.{◌>>=◌, required, list_as}
use Rattle.cat_json.specs.Writing.{◌+>◌, list_data, no_float_items}

abbrev pub hash_as : Data → Option Hash
hash_as d = as_str d >>= hash_of

abbrev pub id_as : Data → Option ContentId
id_as d = as_str d >>= id_of

-- the key, unless the elements make none
abbrev pub made : Result Key KeyFault → Option Key
made (Ok key) = Some key
made (Err e) = None

abbrev pub key_as : Data → Option Key
key_as d = required (list_as as_str) (codes "elements") d >>= λ elements. made (key_of elements)

-- only want of memory stays that
abbrev pub BecomesFault : KeyFault → JsonFault → Type 0
BecomesFault keys.NoMemory f = f ≡ NoMemory
BecomesFault keys.Empty f = f ≡ Bad
BecomesFault keys.TooMany f = f ≡ Bad
BecomesFault keys.Control f = f ≡ Bad
BecomesFault keys.TooLong f = f ≡ Bad

-- 64 hexadecimal digits in lower case
abbrev pub hash_data : Hash → Data
hash_data h = string (encode_lower h.bytes)

-- hyphenated, in lower case
abbrev pub id_data : ContentId → Data
id_data id = string (hyphenated_text lower id.bytes)

abbrev pub key_data : Key → Data
key_data elements = object (no_members +> (codes "elements", list_data string elements))

pub no_float_key : (elements : Key) → has_float (key_data elements) ≡ false
no_float_key elements = rw (no_float_items string (λ _. refl) elements) refl
