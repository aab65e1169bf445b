-- What reading a reference name gives.
use Rattle.std.specs.Prelude.{◌≡◌, ℕ, List, Result, Ok, Err, true, false}
use Rattle.cat_names.specs.declared.name_fault.NameFault.{NameFault}
use Rattle.cat_names.specs.declared.name_fault.NameFault.TheVariants.{Bad, NoMemory}
use Rattle.cat_names.specs.RefNames.{is_reference_name}

-- the name that the text is, or that it is none; memory is wanted for a name alone
abbrev pub GivesName : Result (List ℕ) NameFault → List ℕ → Type 0
GivesName (Ok name) text = (name ≡ text) × (is_reference_name text ≡ true)
GivesName (Err NoMemory) text = is_reference_name text ≡ true
GivesName (Err Bad) text = is_reference_name text ≡ false
