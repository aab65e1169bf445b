-- The byte formats of what calls name: sources, kinds of references, and modes.
use Rattle.std.specs.Prelude.{ℕ, zero, suc, Option, Some, None}
use Rattle.cat_codes.specs.declared.fault.FieldFault.TheVariants.{Range}
use Rattle.cat_codes.specs.Code.{Code, ◌⊗◌, as_type, chosen, only, option, ascending, u8_code}
use Rattle.cat_names.specs.Fields.{hash_code, key_code, key_cmp}
use Rattle.cat_names.specs.RefNames.{ref_name_code}
use Rattle.cat_model.specs.declared.reference.Kind.{Kind}
use Rattle.cat_model.specs.declared.reference.Kind.TheVariants.{Branch, Tag}
use Rattle.cat_model.specs.declared.reference.Pointer.{Pointer}
use Rattle.cat_model.specs.declared.merging.Behaviour.{Behaviour}
use Rattle.cat_model.specs.declared.merging.Behaviour.TheVariants.{Normal, Force, Drop}
use Rattle.cat_model.specs.declared.merging.Modes.{Modes}
use Rattle.cat_model.specs.WellMade.{points}

-- a source: a name, a hash, or both
unfoldable pub pointer_code : Code Pointer
pointer_code = only Range points (as_type (λ p. (p.name, p.hash)) (λ x. record { name = x.0; hash = x.1 }) (option ref_name_code ⊗ option hash_code))

-- the number of a kind of reference
abbrev pub reference_number : Kind → ℕ
reference_number Branch = 1
reference_number Tag = 2

-- the kind of reference of a number
abbrev pub reference_of : ℕ → Option Kind
reference_of zero = None
reference_of (suc zero) = Some Branch
reference_of (suc (suc zero)) = Some Tag
reference_of (suc (suc (suc n))) = None

-- a kind of reference as its number
unfoldable pub reference_code : Code Kind
reference_code = chosen reference_number reference_of u8_code

-- the number of a behaviour
abbrev pub behaviour_number : Behaviour → ℕ
behaviour_number Normal = 0
behaviour_number Force = 1
behaviour_number Drop = 2

-- the behaviour of a number
abbrev pub behaviour_of : ℕ → Option Behaviour
behaviour_of zero = Some Normal
behaviour_of (suc zero) = Some Force
behaviour_of (suc (suc zero)) = Some Drop
behaviour_of (suc (suc (suc n))) = None

-- a behaviour as its number
unfoldable pub behaviour_code : Code Behaviour
behaviour_code = chosen behaviour_number behaviour_of u8_code

-- the behaviour of all other keys, and those of keys
unfoldable pub modes_code : Code Modes
modes_code = as_type (λ m. (m.default, m.keys)) (λ x. record { default = x.0; keys = x.1 }) (behaviour_code ⊗ ascending key_cmp key_code behaviour_code)
