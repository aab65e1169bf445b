-- Requests of worked cases, one after another.
use Rattle.std.specs.Prelude.{ℕ, List, [], ◌∷◌, ◌++◌, Some, Result}
use Rattle.cat_model.specs.declared.limits.Limits.{Limits}
use Rattle.cat_model.specs.declared.log_entry.LogEntry.{LogEntry}
use Rattle.cat_model.specs.declared.refusal.Refusal.{Refusal}
use Rattle.cat_model.specs.declared.refusal.Refused.{Refused}
use Rattle.cat_model.specs.declared.reply.Told.{Told}
use Rattle.cat_model.specs.State.{Digest, State}
use Rattle.cat_model.specs.Book.{first_book}
use Rattle.cat_model.specs.Requests.{Journal, Session, Wants, request}

-- a journal of this format without a checkpoint; what a payload holds decides nothing here
abbrev pub journal_of : ℕ → Journal
journal_of format = record { format = format; base = 0; bases = Some 0; payload = λ book. [] }

-- the session on an empty catalogue
abbrev pub first_session : Digest → Limits → Session
first_session digest limits = record { book = first_book digest limits; readings = 0; journal = journal_of 2 }

-- a session, at another state
abbrev pub at_state : Session → State → Session
at_state s state = record s { book = record s.book { state = state } }

-- what requests bring: what they are told, the entries, the oldest first, and the session after them
pub record Outcomes : Type 0 where
  pub said : List (Result Told Refused)
  pub logged : List LogEntry
  pub after : Session

-- one request after another
unfoldable pub script : Digest → ℕ → (ℕ → ℕ) → Session → List (Result Wants Refusal) → Outcomes
script digest caller clock s [] = record { said = []; logged = []; after = s }
script digest caller clock s (wants ∷ requests) =
    let one = request digest caller clock s wants in
    let others = script digest caller clock one.after requests in
    record { said = one.said ∷ others.said; logged = one.logged ++ others.logged; after = others.after }
