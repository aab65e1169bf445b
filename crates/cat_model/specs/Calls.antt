-- What an attempt at a changing call does to a catalogue: the tests before its draft, its step, and its entry.
use Rattle.std.specs.Prelude.{ℕ, ◌+◌, max, List, [], ◌∷◌, Option, Some, None, Result, Ok, Err, Bool, true, false, nat_lt, if◌then◌else◌}
use Rattle.cat_model.specs.declared.command.Command.{Command}
use Rattle.cat_model.specs.declared.limits.Quantity.TheVariants.{Drafts}
use Rattle.cat_model.specs.declared.log_entry.Action.TheVariants as actions
use Rattle.cat_model.specs.declared.log_entry.LogEntry.{LogEntry}
use Rattle.cat_model.specs.declared.refusal.Refusal.{Refusal}
use Rattle.cat_model.specs.declared.refusal.Refusal.TheVariants.{Limit}
use Rattle.cat_model.specs.declared.refusal.Refused.{Refused}
use Rattle.cat_model.specs.declared.reply.Reply.{Reply}
use Rattle.cat_model.specs.declared.reply.Told.{Told}
use Rattle.cat_model.specs.State.{Digest, State}
use Rattle.cat_model.specs.Refusing.{◌>>=◌, Tested, Outcome, needs}
use Rattle.cat_model.specs.Step.{Turn, opens_draft, opening, step, logged_command, head_left}

-- what a call brings: what it is told, its entry if it is accepted, the state after it, and the last draft number
pub record Called : Type 0 where
  pub said : Result Told Refused
  pub logged : List LogEntry
  pub state : State
  pub draft : ℕ

-- a reply or a refusal at a state's place
abbrev pub told_at : State → Result Reply Refusal → Result Told Refused
told_at state (Ok reply) = Ok (record { place = state.place; reply = reply })
told_at state (Err why) = Err (record { place = Some state.place; why = why })

-- a call that changes nothing
abbrev pub unchanged_by : State → ℕ → Result Reply Refusal → Called
unchanged_by state draft answer = record { said = told_at state answer; logged = []; state = state; draft = draft }

-- the entry of an accepted call
unfoldable pub entry_made : Digest → ℕ → State → Command → Turn → Reply → LogEntry
entry_made digest caller after command turn reply = record {
  place = after.place;
  caller = caller;
  draft = turn.draft;
  moment = turn.moment;
  action = actions.Call (logged_command digest turn.draft command);
  head = head_left command reply;
}

-- a step is accepted where its state has one entry more
abbrev pub stepped : Digest → ℕ → State → ℕ → Command → Turn → Outcome → Called
stepped digest caller state draft command turn (Err why) = unchanged_by state draft (Err why)
stepped digest caller state draft command turn (Ok (after, reply)) =
    if nat_lt state.place after.place
    then record {
      said = told_at after (Ok reply);
      logged = entry_made digest caller after command turn reply ∷ [];
      state = after;
      draft = draft;
    }
    else unchanged_by state draft (Ok reply)

-- ---- attempts

-- a draft that was opened: its number, 0 for a call that opens none, and the place at which it began
pub record Begun : Type 0 where
  pub number : ℕ
  pub place : ℕ

-- who makes a call, when, and its draft where it is given; else the next is opened
pub record Occasion : Type 0 where
  pub caller : ℕ
  pub moment : ℕ
  pub draft : Option Begun

-- in a draft of this number, which began at this place
abbrev pub in_draft : ℕ → ℕ → ℕ → ℕ → Occasion
in_draft caller moment number place = record { caller = caller; moment = moment; draft = Some (record { number = number; place = place }) }

-- in the next draft
abbrev pub in_next : ℕ → ℕ → Occasion
in_next caller moment = record { caller = caller; moment = moment; draft = None }

-- the number of its draft, by whether it opens one
abbrev pub number_on : ℕ → Option Begun → Bool → ℕ
number_on last (Some draft) opens = draft.number
number_on last None true = last + 1
number_on last None false = 0

-- the place at which it began: its draft's, or the state's
abbrev pub began_on : State → Option Begun → ℕ
began_on state (Some draft) = draft.place
began_on state None = state.place

-- when it is made, on a state and the last draft number
abbrev pub turn_on : State → ℕ → Occasion → Bool → Turn
turn_on state last o opens = record { draft = number_on last o.draft opens; opened = began_on state o.draft; moment = o.moment }

-- a draft number is left, where one is needed
abbrev pub needs_draft : State → ℕ → Bool → Tested
needs_draft state last false = Ok tt
needs_draft state last true = needs (nat_lt last state.limits.drafts) (Limit Drafts state.limits.drafts)

-- the tests before its draft; that a number is left is tested where the next is taken
abbrev pub tests_on : Digest → State → ℕ → Option Begun → Command → Tested
tests_on digest state last (Some draft) command = opening digest state command
tests_on digest state last None command = opening digest state command >>= λ _. needs_draft state last (opens_draft command)

-- what it brings in its turn, by the outcome of these tests
abbrev pub tried : Digest → ℕ → State → ℕ → Command → Turn → Tested → Called
tried digest caller state last command turn (Err why) = unchanged_by state last (Err why)
tried digest caller state last command turn (Ok _) = stepped digest caller state (max last turn.draft) command turn (step digest state command turn)

-- an attempt at a call: it is refused, is told without a change, or makes a state and its entry
unfoldable pub attempt : Digest → State → ℕ → Occasion → Command → Called
attempt digest state last o command = tried digest o.caller state last command (turn_on state last o (opens_draft command)) (tests_on digest state last o.draft command)

-- a call of a caller at a moment, in the next draft
abbrev pub call : Digest → ℕ → State → ℕ → Command → ℕ → Called
call digest caller state last command moment = attempt digest state last (in_next caller moment) command
