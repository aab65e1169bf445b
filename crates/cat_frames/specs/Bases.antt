-- The checkpoint of a state, and what a log that goes on from a checkpoint starts from.
use Rattle.std.specs.Prelude.{ℕ, List, [], reverse, Option, None, Some, Result, Ok, Err}
use Rattle.sha2.specs.Sha256.{sha256}
use Rattle.cat_codes.specs.Code.{whole}
use Rattle.cat_model.specs.declared.content.Content.{Content}
use Rattle.cat_model.specs.declared.limits.Limits.{Limits}
use Rattle.cat_model.specs.declared.log_entry.LogEntry.{LogEntry}
use Rattle.cat_model.specs.Drafts.{OpenDraft}
use Rattle.cat_model.specs.KeySets.{set_of}
use Rattle.cat_model.specs.Resuming.{drafts_below, last_draft}
use Rattle.cat_model.specs.State.{State, first_state}
use Rattle.cat_model.specs.Turns.{Opened}
use Rattle.cat_names.specs.declared.hash.Hash.{Hash}
use Rattle.cat_frames.specs.declared.checkpoint.Checkpoint.{Checkpoint}
use Rattle.cat_frames.specs.Checkpoints.{by_hash, checkpoint_code}

-- ---- of a state

-- contents by ascending hashes
abbrev pub by_hashes : List (Hash × Content) → List (Hash × Content)
by_hashes contents = set_of by_hash contents

-- the checkpoint of a state, where the log has this greatest draft number, and these below it are open
abbrev pub checkpoint_of : State → ℕ → List ℕ → Checkpoint
checkpoint_of state draft drafts = record {
  place = state.place;
  draft = draft;
  drafts = drafts;
  references = state.references;
  commits = reverse state.commits;
  contents = by_hashes state.present;
}

-- the greatest draft number of a log, with those before it
abbrev pub draft_of : Opened → List LogEntry → ℕ
draft_of o log = last_draft o.draft log

-- the checkpoint of the state that a log leads to, beside drafts that are open
abbrev pub checkpoint_at : Opened → List LogEntry → State → List OpenDraft → Checkpoint
checkpoint_at o log state open_drafts = checkpoint_of state (draft_of o log) (drafts_below (draft_of o log) open_drafts)

-- a checkpoint as bytes
abbrev pub checkpoint_spelling : Checkpoint → List ℕ
checkpoint_spelling c = (checkpoint_code sha256).spell c

-- ---- of a log that goes on from it

-- its state
abbrev pub state_in : Limits → Checkpoint → State
state_in limits c = record { place = c.place; references = c.references; commits = reverse c.commits; present = reverse c.contents; limits = limits }

-- what such a log starts from, where its keeper had so many payloads and had counted so many faults
abbrev pub from_checkpoint : Limits → ℕ → ℕ → Checkpoint → Opened
from_checkpoint limits payloads faults c = record { state = state_in limits c; draft = c.draft; drafts = c.drafts; payloads = payloads; faults = faults }

-- what a log starts from that goes on from nothing: the empty catalogue
abbrev pub from_nothing : Limits → ℕ → ℕ → Opened
from_nothing limits payloads faults = record { state = first_state sha256 limits; draft = 0; drafts = []; payloads = payloads; faults = faults }

-- what a log starts from that goes on from these bytes, where they are a checkpoint
abbrev pub by_reading : {E : Type 0} → Limits → ℕ → ℕ → Result Checkpoint E → Option Opened
by_reading limits payloads faults (Ok c) = Some (from_checkpoint limits payloads faults c)
by_reading limits payloads faults (Err e) = None

-- and one that goes on from these bytes, or from nothing
abbrev pub opened_by : Limits → ℕ → ℕ → Option (List ℕ) → Option Opened
opened_by limits payloads faults None = Some (from_nothing limits payloads faults)
opened_by limits payloads faults (Some base) = by_reading limits payloads faults (whole (checkpoint_code sha256) base)
