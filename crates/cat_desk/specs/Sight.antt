-- What a pass knows, as plain data.
use Rattle.std.specs.Prelude.{ℕ, List, [], Option, None}
use Rattle.cat_model.specs.declared.log_entry.LogEntry.{LogEntry}
use Rattle.cat_model.specs.Drafts.{Open, nothing_open}
use Rattle.cat_model.specs.Mark.{Mark, no_mark}
use Rattle.cat_model.specs.Turns.{Opened}

-- what a desk began with: what the log starts from, and the log
abbrev pub Origin : Type 0
Origin = Opened × List LogEntry

-- where a pass stands: without a turn, making the desk, waiting with a ticket, called, with the value, with the value given back, or joined into another
pub data Stage : Type 0 where
  Idle : Stage
  Making : Stage
  Waiting : Stage
  Called : Stage
  Holding : Stage
  Leaving : Stage
  Spent : Stage

-- what a pass was that was joined with another: its numbers, the log that it had seen, and its mark
pub record Part : Type 0 where
  pub numbers : List ℕ
  pub seen : List LogEntry
  pub mark : Mark

abbrev pub no_part : Part
no_part = record { numbers = []; seen = []; mark = no_mark }

-- the log that was seen, the place that is known of, the caller's number and those of the passes that it took in, how many passes may still be split off and how many it stands for; the mark and the number of the turn that left it; what the last turn left open of the caller, and what that turn left open in all, or what was open in all as the value was found; the two passes of which it was made, where it had no turn since
pub record View : Type 0 where
  pub origin : Option Origin
  pub seen : List LogEntry
  pub known : ℕ
  pub number : ℕ
  pub gone : List ℕ
  pub spare : ℕ
  pub held : ℕ
  pub mark : Mark
  pub turn : ℕ
  pub own : Open
  pub found : Open
  pub stage : Stage
  pub ticket : ℕ
  pub parts : Part × Part

-- the view of a seat at a stage that knows nothing
abbrev pub blank : Stage → View
blank stage = record {
  origin = None;
  seen = [];
  known = 0;
  number = 0;
  gone = [];
  spare = 0;
  held = 0;
  mark = no_mark;
  turn = 0;
  own = nothing_open;
  found = nothing_open;
  stage = stage;
  ticket = 0;
  parts = (no_part, no_part);
}
