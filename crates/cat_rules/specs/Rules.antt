-- The rules of a commit as the code reads them: deleted contents stand in a set of names.
use Rattle.std.specs.Prelude.{List, Option, Some, None, Result, Ok, Err, Bool, true, false, ◌&&◌, nat_eq, flat_map, IsTrue, ⊤}
use Rattle.std.specs.List.{list_any}
use Rattle.std.specs.Option.{option_or, option_map_or}
use Rattle.std.specs.Str.{bytes_eq}
use Rattle.cat_model.specs.declared.conflict.Conflict.{Conflict}
use Rattle.cat_model.specs.declared.conflict.ConflictKind.{ConflictKind}
use Rattle.cat_model.specs.declared.conflict.ConflictKind.TheVariants.{NamespaceAbsent, NotANamespace}
use Rattle.cat_model.specs.declared.entry.Entry.{Entry}
use Rattle.cat_model.specs.declared.op.Op.{Op}
use Rattle.cat_model.specs.declared.op.Op.TheVariants.{Put, Delete, Unchanged}
use Rattle.cat_model.specs.Differs.{differs}
use Rattle.cat_model.specs.Formats.{kind_number}
use Rattle.cat_model.specs.Judge.{op_key, op_changes, new_fault, known_fault, delete_fault, changes_fault, conflict_at}
use Rattle.cat_model.specs.Maps.{Map, entry_of}
use Rattle.cat_model.specs.Namespaces.{is_well_formed}
use Rattle.cat_keymap.specs.declared.key_map.ParentState.{ParentState}
use Rattle.cat_keymap.specs.declared.key_map.ParentState.TheVariants as state
use Rattle.cat_rules.specs.declared.deletions.ContentName.{ContentName}
use Rattle.cat_rules.specs.declared.judging.Judged.{Judged}
use Rattle.cat_rules.specs.declared.judging.Judged.TheVariants as judged

-- ---- contents that are deleted

abbrev pub name_of : Entry → ContentName
name_of entry = record { kind = kind_number entry.kind; id = entry.id }

abbrev pub same_name : ContentName → ContentName → Bool
same_name a b = nat_eq a.kind b.kind && bytes_eq a.id.bytes b.id.bytes

-- an operation that finds this entry at its key deletes the content of this name
abbrev pub is_deleted : ContentName → Op → Option Entry → Bool
is_deleted name (Put key entry fresh) found = false
is_deleted name (Delete key) found = option_map_or (λ h. same_name name (name_of h)) found false
is_deleted name (Unchanged key) found = false

abbrev pub deletes : Map → ContentName → Op → Bool
deletes head name op = is_deleted name op (entry_of head (op_key op))

-- ---- conflicts

abbrev pub state_fault : ParentState → Option ConflictKind
state_fault state.Root = None
state_fault state.Namespace = None
state_fault state.Absent = Some NamespaceAbsent
state_fault state.Other = Some NotANamespace

-- what a PUT finds wrong at its key in the head
abbrev pub put_fault : List ContentName → Entry → Bool → Option Entry → Option ConflictKind
put_fault gone entry true found = new_fault found
put_fault gone entry false found = known_fault (list_any (same_name (name_of entry)) gone) entry found

-- what an operation finds wrong there
abbrev pub fault_at_head : List ContentName → Op → Option Entry → Option ConflictKind
fault_at_head gone (Put key entry fresh) found = put_fault gone entry fresh found
fault_at_head gone (Delete key) found = delete_fault found
fault_at_head gone (Unchanged key) found = None

-- the first rule that an operation breaks
abbrev pub fault : Map → Map → Map → List ContentName → Op → Option ConflictKind
fault expected head after gone op =
    option_or (differs (entry_of expected (op_key op)) (entry_of head (op_key op)))
    (option_or (fault_at_head gone op (entry_of head (op_key op))) (changes_fault head after (op_changes op)))

abbrev pub conflicts : Map → Map → Map → List ContentName → List Op → List Conflict
conflicts expected head after gone ops = flat_map (λ op. conflict_at (op_key op) (fault expected head after gone op)) ops

-- ---- the answer

-- the map after a request, or its conflicts
abbrev pub verdict : Judged → Result Map (List Conflict)
verdict (judged.Conflicts conflicts) = Err conflicts
verdict (judged.Map map) = Ok map

-- the map is well-formed, if there is one
abbrev pub GivesWellFormed : Judged → Type 0
GivesWellFormed (judged.Conflicts conflicts) = ⊤
GivesWellFormed (judged.Map map) = IsTrue (is_well_formed map)
