-- What a merge found at a key, as JSON.
use Rattle.std.specs.Prelude.{◌≡◌, Option, Some, option_map, codes, false}
use Rattle.serde_json.specs.Data.{Data, string, object, no_members}
use Rattle.serde_json.specs.Written.{has_float}
use Rattle.cat_json.specs.Names.{key_data, no_float_key}
use Rattle.cat_json.specs.Writing.{◌+>◌, ◌+?>◌, floatless}
use Rattle.cat_model.specs.declared.conflict.Conflict.{Conflict}
use Rattle.cat_model.specs.declared.merging.Detail.{Detail}
use Rattle.cat_replies.specs.Refusals.{conflict_data, no_float_conflict}
use Rattle.cat_replies.specs.Wording.{behaviour_text}

-- the conflict of the key, where it has one
abbrev pub conflict_of : Detail → Option Conflict
conflict_of d = option_map (λ kind. record { key = Some d.key; kind = kind }) d.conflict

abbrev pub detail_data : Detail → Data
detail_data d = object (no_members
    +?> (codes "conflict", option_map conflict_data (conflict_of d))
    +> (codes "key", key_data d.key)
    +> (codes "mergeBehavior", string (behaviour_text d.behaviour)))

pub no_float_detail : (d : Detail) → has_float (detail_data d) ≡ false
no_float_detail d = search (floatless, no_float_conflict, no_float_key)
