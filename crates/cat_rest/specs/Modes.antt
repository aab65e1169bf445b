-- How a merge or a transplant treats keys, in bodies.
use Rattle.std.specs.Prelude.{ℕ, List, [], ◌∷◌, Option, Some, None, codes, map, bytes_eq, if◌then◌else◌}
use Rattle.std.specs.Ordering.{is_lt}
use Rattle.serde_json.specs.Data.{Data}
use Rattle.serde_json.specs.Find.{as_str}
use Rattle.cat_json.specs.Names.{key_as}
use Rattle.cat_json.specs.Reading.{◌>>=◌, required, defaulted, absent, list_as}
use Rattle.cat_names.specs.Fields.{Key, key_cmp}
use Rattle.cat_keymap.specs.Unlike.{unlike}
use Rattle.cat_model.specs.Same.{same_key}
use Rattle.cat_model.specs.declared.merging.Behaviour.{Behaviour}
use Rattle.cat_model.specs.declared.merging.Behaviour.TheVariants.{Normal, Force, Drop}
use Rattle.cat_model.specs.declared.merging.Modes.{Modes}

abbrev pub behaviour_named : List ℕ → Option Behaviour
behaviour_named text =
    if bytes_eq text (codes "NORMAL") then Some Normal
    else if bytes_eq text (codes "FORCE") then Some Force
    else if bytes_eq text (codes "DROP") then Some Drop
    else None

abbrev pub behaviour_as : Data → Option Behaviour
behaviour_as d = as_str d >>= behaviour_named

-- a key and its behaviour
abbrev pub Mode : Type 0
Mode = Key × Behaviour

-- no content may be expected or given
unfoldable pub mode_as : Data → Option Mode
mode_as d =
    required key_as (codes "key") d >>= λ key.
    required behaviour_as (codes "mergeBehavior") d >>= λ behaviour.
    absent (codes "expectedTargetContent") d >>= λ _.
    absent (codes "resolvedContent") d >>= λ _.
    Some (key, behaviour)

-- modes with ascending keys, and one more among them
abbrev pub with_mode : Mode → List Mode → List Mode
with_mode mode [] = mode ∷ []
with_mode mode (first ∷ modes) = if is_lt (key_cmp mode.0 first.0) then mode ∷ first ∷ modes else first ∷ with_mode mode modes

-- the modes, keys ascending
abbrev pub by_key : List Mode → List Mode
by_key [] = []
by_key (mode ∷ modes) = with_mode mode (by_key modes)

-- the same, unless a key comes twice
abbrev pub in_order : List Mode → Option (List Mode)
in_order modes = if unlike same_key (map (λ m. m.0) modes) then Some (by_key modes) else None

abbrev pub key_modes_as : Data → Option (List Mode)
key_modes_as d = list_as mode_as d >>= in_order

-- what is said of no key is normal
unfoldable pub modes_as : Data → Option Modes
modes_as d =
    defaulted behaviour_as Normal (codes "defaultKeyMergeMode") d >>= λ default.
    defaulted key_modes_as [] (codes "keyMergeModes") d >>= λ keys.
    Some (record { default = default; keys = keys })
