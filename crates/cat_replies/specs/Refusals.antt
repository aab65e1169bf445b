-- Refusals as JSON, members in the order of their names' bytes.
use Rattle.std.specs.Prelude.{◌≡◌, ℕ, List, [], ◌++◌, Option, Some, None, option_map, codes, false}
use Rattle.serde_json.specs.Data.{Data, string, object, no_members}
use Rattle.serde_json.specs.Written.{has_float}
use Rattle.hex.specs.Hex.{encode_lower}
use Rattle.cat_json.specs.Names.{hash_data, key_data, no_float_key}
use Rattle.cat_json.specs.Numbers.{natural_data}
use Rattle.cat_json.specs.Writing.{◌+>◌, ◌+?>◌, list_data, floatless}
use Rattle.cat_names.specs.Fields.{Key}
use Rattle.cat_names.specs.declared.hash.Hash.{Hash}
use Rattle.cat_model.specs.declared.conflict.Conflict.{Conflict}
use Rattle.cat_model.specs.declared.refusal.Refusal.{Refusal}
use Rattle.cat_model.specs.declared.refusal.Refusal.TheVariants.{BadRequest, RefNotFound, RefExists, ContentNotFound, Conflicts, Expired, RetriesSpent, SweepOpen, Limit, Collision, Fault, Down, NoMemory, NoRoute, WrongMethod, TooLarge, Encoding, OldFormat}
use Rattle.cat_names.specs.Paths.{path_form}
use Rattle.cat_replies.specs.Wording.{conflict_text, quantity_text, status_of, phrase_of, code_of, message_of}

abbrev pub after_colon : Option Key → List ℕ
after_colon None = []
after_colon (Some key) = codes ": " ++ path_form key

-- the kind of a conflict, and the path form of its key where it has one
abbrev pub conflict_message : Conflict → List ℕ
conflict_message c = conflict_text c.kind ++ after_colon c.key

abbrev pub conflict_data : Conflict → Data
conflict_data c = object (no_members
    +> (codes "conflictType", string (conflict_text c.kind))
    +?> (codes "key", option_map key_data c.key)
    +> (codes "message", string (conflict_message c)))

abbrev pub head_data : ℕ × Hash → Data
head_data h = object (no_members
    +> (codes "hash", hash_data h.1)
    +> (codes "place", natural_data h.0))

-- bytes, by their hexadecimal digits
abbrev pub bytes_data : List ℕ → Data
bytes_data bytes = string (encode_lower bytes)

-- what is told of a refusal beside its code and its message
abbrev pub details_of : Refusal → Option Data
details_of (Conflicts conflicts) = Some (object (no_members
    +> (codes "conflicts", list_data conflict_data conflicts)
    +> (codes "type", string (codes "REFERENCE_CONFLICTS"))))
details_of (Expired keys opened) = Some (object (no_members
    +> (codes "keys", list_data key_data keys)
    +> (codes "openedPlace", natural_data opened)
    +> (codes "type", string (codes "EXPIRED"))))
details_of (RetriesSpent heads) = Some (object (no_members
    +> (codes "heads", list_data head_data heads)
    +> (codes "type", string (codes "RETRIES_SPENT"))))
details_of (SweepOpen place) = Some (object (no_members
    +> (codes "place", natural_data place)
    +> (codes "type", string (codes "SWEEP_OPEN"))))
details_of (Limit which most) = Some (object (no_members
    +> (codes "limit", string (quantity_text which))
    +> (codes "number", natural_data most)
    +> (codes "type", string (codes "LIMIT"))))
details_of (Collision hash first second) = Some (object (no_members
    +> (codes "first", bytes_data first)
    +> (codes "hash", hash_data hash)
    +> (codes "second", bytes_data second)
    +> (codes "type", string (codes "COLLISION"))))
details_of (Down faults) = Some (object (no_members
    +> (codes "faults", natural_data faults)
    +> (codes "type", string (codes "DOWN"))))
details_of _ = None

abbrev pub refusal_data : Refusal → Data
refusal_data r = object (no_members
    +> (codes "errorCode", string (code_of r))
    +?> (codes "errorDetails", details_of r)
    +> (codes "message", string (message_of r))
    +> (codes "reason", string (phrase_of r))
    +> (codes "status", natural_data (status_of r)))

pub no_float_conflict : (c : Conflict) → has_float (conflict_data c) ≡ false
no_float_conflict c = search (floatless, no_float_key)

pub no_float_head : (h : ℕ × Hash) → has_float (head_data h) ≡ false
no_float_head h = search floatless

pub no_float_refusal : (r : Refusal) → has_float (refusal_data r) ≡ false
no_float_refusal (BadRequest reason) = search floatless
no_float_refusal RefNotFound = search floatless
no_float_refusal RefExists = search floatless
no_float_refusal (ContentNotFound why) = search floatless
no_float_refusal (Conflicts conflicts) = search (floatless, no_float_conflict)
no_float_refusal (Expired keys opened) = search (floatless, no_float_key)
no_float_refusal (RetriesSpent heads) = search (floatless, no_float_head)
no_float_refusal (SweepOpen place) = search floatless
no_float_refusal (Limit which most) = search floatless
no_float_refusal (Collision hash first second) = search floatless
no_float_refusal Fault = search floatless
no_float_refusal (Down faults) = search floatless
no_float_refusal NoMemory = search floatless
no_float_refusal NoRoute = search floatless
no_float_refusal (WrongMethod allowed) = search floatless
no_float_refusal TooLarge = search floatless
no_float_refusal Encoding = search floatless
no_float_refusal OldFormat = search floatless
