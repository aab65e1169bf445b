-- The states that the entries of a book led through, and a sweep after them.
use Rattle.std.specs.Prelude.{ℕ, List, [], ◌∷◌}
use Rattle.cat_model.specs.declared.cutoff.Resolved.{Resolved}
use Rattle.cat_model.specs.declared.log_entry.Action.{Action}
use Rattle.cat_model.specs.declared.log_entry.Action.TheVariants as actions
use Rattle.cat_model.specs.declared.log_entry.LogEntry.{LogEntry}
use Rattle.cat_model.specs.Book.{Book}
use Rattle.cat_model.specs.Calls.{Called, attempt, in_draft}
use Rattle.cat_model.specs.Drafts.{Names}
use Rattle.cat_model.specs.State.{Digest, State}
use Rattle.cat_model.specs.Sweeps.{sweep_call, sweep_of}

-- a state, and those before it, the newest first
pub record Course : Type 0 where
  pub state : State
  pub past : List State

-- what an action of nobody brings, in this draft, at a moment, after this last draft number
abbrev pub action_on : Digest → Course → ℕ → ℕ → ℕ → Action → Called
action_on digest c last draft moment (actions.Call command) = attempt digest c.state last (in_draft 0 moment draft c.state.place) command
action_on digest c last draft moment (actions.Sweep s) = sweep_call 0 c.state c.past last moment s

-- one state more, that after an entry; last draft numbers don't matter to it
abbrev pub after_one : Digest → Course → LogEntry → Course
after_one digest c entry = record { state = (action_on digest c 0 entry.draft entry.moment entry.action).state; past = c.state ∷ c.past }

-- the states from this one on that entries lead through, the newest entry first
abbrev pub course : Digest → State → List LogEntry → Course
course digest base [] = record { state = base; past = [] }
course digest base (entry ∷ older) = after_one digest (course digest base older) entry

-- the states before a book's
unfoldable pub past_of : Digest → Book → List State
past_of digest book = (course digest book.base book.log).past

-- what a sweep of a caller at a moment brings on a book, at which it was opened, and to which drafts gave these names
abbrev pub swept_on : Digest → ℕ → Book → Resolved → Names → ℕ → Called
swept_on digest caller book policy names moment = sweep_call caller book.state (past_of digest book) book.draft moment (sweep_of book.state.place policy names)
