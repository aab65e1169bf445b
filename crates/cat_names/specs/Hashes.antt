-- Hashes and content ids by their texts.
use Rattle.std.specs.Prelude.{ℕ, ◌+◌, ◌*◌, ◌^◌, List, Option, Some, None, Result, Ok, Err, codes}
use Rattle.std.specs.Option.{option_map}
use Rattle.std.specs.Int.{w128, to_be_bytes}
use Rattle.hex.specs.Hex.{decode_sized}
use Rattle.hex.specs.declared.error.FromHexError.{FromHexError}
use Rattle.sha2.specs.Sha256.{sha256}
use Rattle.uuid.specs.Text.{parsed}
use Rattle.cat_names.specs.declared.hash.Hash.{Hash}
use Rattle.cat_names.specs.declared.hash.ContentId.{ContentId}

-- the hash that stands before the first commit
abbrev pub no_ancestor : Hash
no_ancestor = record { bytes = sha256 (codes "empty") }

abbrev pub decoded : Result (List ℕ) FromHexError → Option Hash
decoded (Ok bytes) = Some (record { bytes = bytes })
decoded (Err e) = None

-- 32 bytes by 64 hexadecimal digits, in either case
abbrev pub hash_of : List ℕ → Option Hash
hash_of text = decoded (decode_sized text 32)

abbrev pub id_of_bytes : List ℕ → ContentId
id_of_bytes bytes = record { bytes = bytes }

-- the id whose high and low 64 bits these are
abbrev pub id_of_pair : ℕ → ℕ → ContentId
id_of_pair high low = id_of_bytes (to_be_bytes w128 (high * 2 ^ 64 + low))

-- the id of a text: hyphenated, 32 digits alone, in braces, or behind `urn:uuid:`
abbrev pub id_of : List ℕ → Option ContentId
id_of text = option_map id_of_bytes (parsed text)
