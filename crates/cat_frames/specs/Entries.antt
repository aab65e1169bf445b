-- The byte format of log entries: the number of the kind, the place, the draft, the moment, the call or the sweep, and the head that it left.
use Rattle.std.specs.Prelude.{ℕ, Bool, true, false, not, ◌&&◌, ◌||◌, Option, Some, is_some, is_none, None, nat_le, nat_lt, ◌==◌, if◌then◌else◌}
use Rattle.cat_codes.specs.declared.fault.FieldFault.TheVariants.{Range}
use Rattle.cat_codes.specs.Code.{Code, ◌⊗◌, depends, only, variant, u8_code, u32_code, u64_code}
use Rattle.cat_names.specs.declared.hash.Hash.{Hash}
use Rattle.cat_names.specs.Fields.{hash_code}
use Rattle.cat_model.specs.declared.command.Command.{Command}
use Rattle.cat_model.specs.declared.log_entry.Action.{Action}
use Rattle.cat_model.specs.declared.log_entry.Action.TheVariants as actions
use Rattle.cat_model.specs.declared.log_entry.LogEntry.{LogEntry}
use Rattle.cat_model.specs.declared.sweep.Sweep.{Sweep}
use Rattle.cat_model.specs.Formats.{moment_code}
use Rattle.cat_model.specs.State.{Digest}
use Rattle.cat_frames.specs.Telling.{told_by, always}
use Rattle.cat_frames.specs.Commands.{command_number, command_code, command_is_logged}
use Rattle.cat_frames.specs.Sweeps.{sweep_code, sweep_is_logged}

-- ---- what was accepted, by its kind

-- the number of a kind: that of the call, or 7 for a sweep
abbrev pub action_number : Action → ℕ
action_number (actions.Call command) = command_number command
action_number (actions.Sweep sweep) = 7

abbrev pub as_call : Action → Option Command
as_call (actions.Call command) = Some command
as_call (actions.Sweep sweep) = None

abbrev pub as_sweep : Action → Option Sweep
as_sweep (actions.Call command) = None
as_sweep (actions.Sweep sweep) = Some sweep

abbrev pub is_sweep : ℕ → Bool
is_sweep kind = kind == 7

-- a sweep, or a call of the kind of this number
abbrev pub kind_code : Digest → ℕ → ℕ → Bool → Code Action
kind_code digest draft kind true = variant actions.Sweep as_sweep sweep_code
kind_code digest draft kind false = variant actions.Call as_call (command_code digest draft kind)

-- what was accepted, of the kind of this number, with this draft
abbrev pub action_code : Digest → ℕ → ℕ → Code Action
action_code digest draft kind = kind_code digest draft kind (is_sweep kind)

abbrev pub action_is_logged : Digest → ℕ → Action → Bool
action_is_logged digest draft (actions.Call command) = command_is_logged digest draft command
action_is_logged digest draft (actions.Sweep sweep) = sweep_is_logged sweep

-- ---- entries

-- the number of a kind
abbrev pub is_kind : ℕ → Bool
is_kind kind = nat_le 1 kind && nat_le kind 7

-- creates, assigns, deletes and sweeps open no draft, and all others do
abbrev pub opens_draft : ℕ → Bool
opens_draft kind = nat_lt 3 kind && nat_lt kind 7

abbrev pub is_draft_of : ℕ → ℕ → Bool
is_draft_of kind draft = if opens_draft kind then nat_lt 0 draft else draft == 0

abbrev pub draft_code : ℕ → Code ℕ
draft_code kind = only Range (is_draft_of kind) u64_code

-- all but deletes and sweeps leave a head
abbrev pub leaves_head : ℕ → Bool
leaves_head kind = not (kind == 3 || is_sweep kind)

abbrev pub head_code : Bool → Code (Option Hash)
head_code true = variant Some (λ head. head) hash_code
head_code false = always None

-- what is told of an entry
abbrev pub Telling : Type 0
Telling = ℕ × (ℕ × (ℕ × (ℕ × (Action × Option Hash))))

abbrev pub telling : LogEntry → Telling
telling e = (action_number e.action, (e.place, (e.draft, (e.moment, (e.action, e.head)))))

-- the entry that is told so; its caller isn't told
abbrev pub told : Telling → LogEntry
told x = record { place = x.1.0; caller = 0; draft = x.1.1.0; moment = x.1.1.1.0; action = x.1.1.1.1.0; head = x.1.1.1.1.1 }

-- an entry of the log
unfoldable pub log_entry_code : Digest → Code LogEntry
log_entry_code digest = told_by telling told
    (depends (only Range is_kind u8_code) (λ kind. u32_code
    ⊗ depends (draft_code kind) (λ draft. moment_code ⊗ action_code digest draft kind ⊗ head_code (leaves_head kind))))

-- a head exactly where one was left
abbrev pub is_head_of : ℕ → Option Hash → Bool
is_head_of kind head = if leaves_head kind then is_some head else is_none head

-- the entries that have a spelling, whoever the caller is, where each field fits its type
unfoldable pub is_logged : Digest → LogEntry → Bool
is_logged digest e = is_draft_of (action_number e.action) e.draft && is_head_of (action_number e.action) e.head && action_is_logged digest e.draft e.action

-- the entry of nobody
abbrev pub of_nobody : LogEntry → LogEntry
of_nobody e = record e { caller = 0 }
