-- Decisions as the code makes them, once for each key.
use Rattle.std.specs.Prelude.{List, Option, flat_map}
use Rattle.cat_names.specs.Fields.{Key}
use Rattle.cat_model.specs.declared.conflict.ConflictKind.{ConflictKind}
use Rattle.cat_model.specs.declared.merging.Detail.{Detail}
use Rattle.cat_model.specs.declared.merging.Modes.{Modes}
use Rattle.cat_model.specs.Maps.{Map, Change}
use Rattle.cat_model.specs.Plan.{keeps, sets, clashes, behaviour_of, decided, set_by}
use Rattle.cat_model.specs.Plan as plan
use Rattle.cat_merge.specs.declared.deciding.Decided.{Decided}
use Rattle.cat_merge.specs.declared.deciding.Decision.{Decision}
use Rattle.cat_merge.specs.declared.deciding.Decision.TheVariants as code

-- a decision as the code has it
abbrev pub as_code : plan.Decision → Decision
as_code keeps = code.Keeps
as_code (sets entry) = code.Sets entry
as_code (clashes kind) = code.Clashes kind

-- the decision that the code means
abbrev pub meant : Decision → plan.Decision
meant code.Keeps = keeps
meant (code.Sets entry) = sets entry
meant (code.Clashes kind) = clashes kind

-- what is done with a key
abbrev pub decided_at : Map → Map → Map → Modes → Key → Decided
decided_at base source target modes key = record {
  key = key;
  behaviour = behaviour_of modes key;
  decision = as_code (decided base source target modes key);
}

-- the change of a key that is set
abbrev pub change_of : Decided → List Change
change_of d = set_by d.key (meant d.decision)

abbrev pub changes : List Decided → List Change
changes decided = flat_map change_of decided

-- the conflict of a key, given the map after
abbrev pub fault_of : Map → Map → Decided → Option ConflictKind
fault_of target after d = plan.fault_of target after d.key (meant d.decision)

-- what is found at a key
abbrev pub detail : Map → Map → Decided → Detail
detail target after d = record { key = d.key; behaviour = d.behaviour; conflict = fault_of target after d }
