-- Entries that a book may be led on by, and the book that a log of them leads to.
use Rattle.std.specs.Prelude.{◌≡◌, ℕ, ◌+◌, max, List, [], ◌∷◌, Option, Some, None, Result, Ok, Err, Bool, true, false, ◌&&◌, ◌||◌, length, not, nat_eq, nat_le, nat_lt, if◌then◌else◌}
use Rattle.std.specs.List.{list_all, list_any}
use Rattle.std.specs.Str.{bytes_eq}
use Rattle.cat_codes.specs.declared.fault.FieldFault.{FieldFault}
use Rattle.cat_codes.specs.Code.{whole}
use Rattle.cat_model.specs.declared.command.Command.{Command}
use Rattle.cat_model.specs.declared.log_entry.Action.{Action}
use Rattle.cat_model.specs.declared.log_entry.Action.TheVariants as actions
use Rattle.cat_model.specs.declared.log_entry.LogEntry.{LogEntry}
use Rattle.cat_model.specs.declared.sweep.Sweep.{Sweep}
use Rattle.cat_model.specs.Book.{Book, after_call, attempt_on}
use Rattle.cat_model.specs.Calls.{Called, in_draft, tried}
use Rattle.cat_model.specs.Past.{past_of}
use Rattle.cat_model.specs.Refusing.{◌>>=◌, Tested}
use Rattle.cat_model.specs.State.{Digest, is_known}
use Rattle.cat_model.specs.Step.{Turn, opens_draft}
use Rattle.cat_model.specs.Sweeps.{sweep_call}
use Rattle.cat_model.specs.Turns.{Opened}
use Rattle.cat_model.specs.WellMade.{is_well_made}
use Rattle.cat_frames.specs.Entries.{log_entry_code, of_nobody}

-- ---- an entry's call

-- when the call of an entry was made: in its draft, begun at the book's place, at its moment
abbrev pub turn_of : Book → LogEntry → Turn
turn_of book entry = record { draft = entry.draft; opened = book.state.place; moment = entry.moment }

-- the last draft number with that of the entry
abbrev pub draft_after : Book → LogEntry → ℕ
draft_after book entry = max book.draft entry.draft

-- what the command of an entry brings, by the outcome of the tests before its draft
abbrev pub replayed_by : Digest → Book → LogEntry → Command → Tested → Called
replayed_by digest book entry command tested = tried digest 0 book.state book.draft command (turn_of book entry) tested

-- what an action brings on a book, in the draft and at the moment of an entry: an attempt by nobody, or a sweep by nobody
abbrev pub replayed_action : Digest → Book → LogEntry → Action → Called
replayed_action digest book entry (actions.Call command) = attempt_on digest book (in_draft 0 entry.moment entry.draft book.state.place) command
replayed_action digest book entry (actions.Sweep s) = sweep_call 0 book.state (past_of digest book) (draft_after book entry) entry.moment s

-- what the action of an entry brings on a book
abbrev pub replayed_call : Digest → Book → LogEntry → Called
replayed_call digest book entry = replayed_action digest book entry entry.action

-- ---- legal entries

-- the most patterns of a sweep's policy
abbrev pub most_patterns : ℕ
most_patterns = 1_000

-- a sweep that a book may log: it was opened at a place from the log's start on and not after the book's, its commits are known, and its policy has at most so many patterns
abbrev pub may_be_swept : Digest → Book → Sweep → Bool
may_be_swept digest book s =
    nat_le book.base.place s.opened
    && nat_le s.opened book.state.place
    && list_all (is_known digest book.state) s.commits
    && nat_le (length s.policy.cutoffs) most_patterns

-- an action that a book may log
abbrev pub may_be_done : Digest → Book → Action → Bool
may_be_done digest book (actions.Call command) = is_well_made digest command
may_be_done digest book (actions.Sweep s) = may_be_swept digest book s

-- the number is 0, or no entry has it
abbrev pub draft_is_new : List LogEntry → ℕ → Bool
draft_is_new log draft = nat_eq draft 0 || not (list_any (λ entry. nat_eq draft entry.draft) log)

-- the number is 0, or above this one
abbrev pub draft_is_above : ℕ → ℕ → Bool
draft_is_above last draft = nat_eq draft 0 || nat_lt last draft

-- the number is 0 or above the last one that was taken before the log, or a draft of it was open then
abbrev pub draft_may_come : Opened → ℕ → Bool
draft_may_come o draft = draft_is_above o.draft draft || list_any (nat_eq draft) o.drafts

-- the action opens a draft, as no sweep does
abbrev pub opens_one : Action → Bool
opens_one (actions.Call command) = opens_draft command
opens_one (actions.Sweep s) = false

-- the draft is 0 exactly where the action opens none
abbrev pub has_its_draft : LogEntry → Bool
has_its_draft entry = if opens_one entry.action then not (nat_eq entry.draft 0) else nat_eq entry.draft 0

-- both entries have one spelling; who called isn't spelled
abbrev pub are_spelled_alike : Digest → LogEntry → LogEntry → Bool
are_spelled_alike digest a b = bytes_eq ((log_entry_code digest).spell a) ((log_entry_code digest).spell b)

-- just this entry
abbrev pub is_just : Digest → LogEntry → List LogEntry → Bool
is_just digest entry [] = false
is_just digest entry (logged ∷ []) = are_spelled_alike digest logged entry
is_just digest entry (logged ∷ another ∷ more) = false

-- the command is well made, or the sweep may be logged, the draft number is the action's and new, and what the action brings is logged as just this entry
unfoldable pub is_legal : Digest → Book → LogEntry → Bool
is_legal digest book entry =
    may_be_done digest book entry.action
    && has_its_draft entry
    && draft_is_new book.log entry.draft
    && is_just digest entry (replayed_call digest book entry).logged

-- the entry is legal, and is what its action logs, but for who acted: its place, its draft, its moment, its sweep or its command in the form in which commands are logged, and the head that was left
pub record IsLegal (digest : Digest) (book : Book) (entry : LogEntry) : Type 0 where
  pub legal : is_legal digest book entry ≡ true
  pub logged : (replayed_call digest book entry).logged ≡ of_nobody entry ∷ []

-- the book that a legal entry leads to
unfoldable pub next_book : Digest → Book → LogEntry → Option Book
next_book digest book entry = if is_legal digest book entry then Some (after_call book (replayed_call digest book entry)) else None

-- ---- logs

-- the same, where the log goes on from there
unfoldable pub next_from : Digest → Opened → Book → LogEntry → Option Book
next_from digest o book entry = if draft_may_come o entry.draft then next_book digest book entry else None

-- the book that a payload leads to, by its reading
abbrev pub read_next : Digest → Opened → Book → Result LogEntry FieldFault → Option Book
read_next digest o book (Err fault) = None
read_next digest o book (Ok entry) = next_from digest o book entry

-- the book, or the place at which there is none
abbrev pub or_at : ℕ → Option Book → Result Book ℕ
or_at place None = Err place
or_at place (Some book) = Ok book

-- the book that payloads lead to, the first of them at the place after this one; or the place of the first that is no entry or isn't legal
abbrev pub replayed : Digest → Opened → Book → ℕ → List (List ℕ) → Result Book ℕ
replayed digest o book place [] = Ok book
replayed digest o book place (payload ∷ payloads) =
    or_at (place + 1) (read_next digest o book (whole (log_entry_code digest) payload)) >>= λ next. replayed digest o next (place + 1) payloads
