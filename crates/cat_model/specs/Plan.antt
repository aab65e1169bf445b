-- What a merge does with each key.
use Rattle.std.specs.Prelude.{List, [], ◌∷◌, Option, Some, None, is_none, if◌then◌else◌, map, flat_map}
use Rattle.cat_names.specs.Fields.{Key}
use Rattle.cat_model.specs.declared.entry.Entry.{Entry}
use Rattle.cat_model.specs.declared.merging.Behaviour.{Behaviour}
use Rattle.cat_model.specs.declared.merging.Behaviour.TheVariants.{Normal, Force, Drop}
use Rattle.cat_model.specs.declared.merging.Modes.{Modes}
use Rattle.cat_model.specs.declared.merging.Detail.{Detail}
use Rattle.cat_model.specs.declared.conflict.Conflict.{Conflict}
use Rattle.cat_model.specs.declared.conflict.ConflictKind.{ConflictKind}
use Rattle.cat_model.specs.Same.{same_key}
use Rattle.cat_model.specs.Maps.{Map, Change, entry_of, after_changes}
use Rattle.cat_model.specs.Differs.{differs}
use Rattle.cat_model.specs.Namespaces.{namespace_fault}
use Rattle.cat_model.specs.Judge.{conflict_at}
use Rattle.cat_model.specs.Changed.{changed_keys}

-- what is done with a key: nothing, an entry or none is set, or it conflicts
pub data Decision : Type 0 where
  keeps : Decision
  sets : Option Entry → Decision
  clashes : ConflictKind → Decision

-- the source's entry is set, unless the target has changed too
abbrev pub unless_changed : Option Entry → Option ConflictKind → Decision
unless_changed source None = sets source
unless_changed source (Some kind) = clashes kind

-- what is done with a key that the source changed, by its entries at base, source and target
abbrev pub decision : Behaviour → Option Entry → Option Entry → Option Entry → Decision
decision Drop base source target = keeps
decision Force base source target = if is_none (differs source target) then keeps else sets source
decision Normal base source target = if is_none (differs source target) then keeps else unless_changed source (differs base target)

-- a key's own behaviour, or the default
abbrev pub behaviour_at : List (Key × Behaviour) → Behaviour → Key → Behaviour
behaviour_at [] default key = default
behaviour_at (x ∷ modes) default key = if same_key x.0 key then x.1 else behaviour_at modes default key

abbrev pub behaviour_of : Modes → Key → Behaviour
behaviour_of modes key = behaviour_at modes.keys modes.default key

-- what is done with a key in a merge of a source into a target, from the map at their base
abbrev pub decided : Map → Map → Map → Modes → Key → Decision
decided base source target modes key = decision (behaviour_of modes key) (entry_of base key) (entry_of source key) (entry_of target key)

-- the change of a key that is set
abbrev pub set_by : Key → Decision → List Change
set_by key keeps = []
set_by key (sets entry) = (key, entry) ∷ []
set_by key (clashes kind) = []

-- the conflict of a key: that of both changes, or what its change breaks of the namespaces
abbrev pub fault_of : Map → Map → Key → Decision → Option ConflictKind
fault_of target after key keeps = None
fault_of target after key (sets entry) = namespace_fault target after (key, entry)
fault_of target after key (clashes kind) = Some kind

-- what a merge finds at a key, given the map after it
abbrev pub detail_of : Map → Map → Map → Modes → Map → Key → Detail
detail_of base source target modes after key = record {
  key = key;
  behaviour = behaviour_of modes key;
  conflict = fault_of target after key (decided base source target modes key);
}

-- the changes of keys, in their order
abbrev pub changes_set : Map → Map → Map → Modes → List Key → List Change
changes_set base source target modes keys = flat_map (λ key. set_by key (decided base source target modes key)) keys

-- the conflicts among details
abbrev pub conflicts_of : List Detail → List Conflict
conflicts_of details = flat_map (λ d. conflict_at d.key d.conflict) details

-- what a merge does: each key that the source changed, the conflicts among them, the changes of the target, and the map after them
pub record Plan : Type 0 where
  pub details : List Detail
  pub conflicts : List Conflict
  pub ops : List Change
  pub map : Map

-- the plan for these keys
abbrev pub plan_of : Map → Map → Map → Modes → List Key → Plan
plan_of base source target modes keys =
    let ops = changes_set base source target modes keys in
    let after = after_changes ops target in
    let details = map (detail_of base source target modes after) keys in
    record { details = details; conflicts = conflicts_of details; ops = ops; map = after }

-- the plan of a merge of a source into a target, from the map at their base: the keys that the source changed since, ascending
unfoldable pub plan : Map → Map → Map → Modes → Plan
plan base source target modes = plan_of base source target modes (changed_keys base source)
