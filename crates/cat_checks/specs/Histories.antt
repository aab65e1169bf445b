-- The book that entries lead to, whoever made them, and entries each of which is legal where it stands.
use Rattle.std.specs.Prelude.{◌≡◌, ℕ, List, [], ◌∷◌, Result, Err, true, if◌then◌else◌}
use Rattle.sha2.specs.Sha256.{sha256}
use Rattle.cat_model.specs.declared.log_entry.LogEntry.{LogEntry}
use Rattle.cat_model.specs.Book.{Book}
use Rattle.cat_frames.specs.Standing.{may_start}
use Rattle.cat_model.specs.State.{Digest}
use Rattle.cat_model.specs.Turns.{Opened}
use Rattle.cat_checks.specs.Legal.{IsLegal, draft_after, draft_may_come, replayed, replayed_call}

-- ---- the oldest entry comes first

-- the book after an entry, whoever made it
abbrev pub after_entry : Digest → Book → LogEntry → Book
after_entry digest book entry = record book { state = (replayed_call digest book entry).state; draft = draft_after book entry; log = entry ∷ book.log }

-- the book after entries
abbrev pub book_after : Digest → Book → List LogEntry → Book
book_after digest book [] = book
book_after digest book (entry ∷ entries) = book_after digest (after_entry digest book entry) entries

-- each entry is legal where it stands
abbrev pub AreLegal : Digest → Book → List LogEntry → Type 0
AreLegal digest book [] = Unit {0}
AreLegal digest book (entry ∷ entries) = IsLegal digest book entry × AreLegal digest (after_entry digest book entry) entries

-- ---- logs from where they start

-- the book that a log starts from
abbrev pub begun : Opened → Book
begun o = record { state = o.state; draft = o.draft; log = []; base = o.state }

-- the book after a log
abbrev pub book_at : Opened → List LogEntry → Book
book_at o log = book_after sha256 (begun o) log

-- each draft number is above the last one that was taken before the start, or its draft was open then
abbrev pub AreFrom : Opened → List LogEntry → Type 0
AreFrom o [] = Unit {0}
AreFrom o (entry ∷ entries) = (draft_may_come o entry.draft ≡ true) × AreFrom o entries

-- a log that is legal from where it starts: each entry is so where it stands, and has no draft number that was spent before the start
pub record IsLegalFrom (o : Opened) (log : List LogEntry) : Type 0 where
  pub legal : AreLegal sha256 (begun o) log
  pub drafts : AreFrom o log

-- ---- payloads

-- the book that payloads lead to from where a log starts, or the place of the first that is no entry or isn't legal
abbrev pub led_on : Opened → List (List ℕ) → Result Book ℕ
led_on o payloads = replayed sha256 o (begun o) o.state.place payloads

-- the same, where the log may start there; else the place of its start
abbrev pub led_behind : Opened → List (List ℕ) → Result Book ℕ
led_behind o payloads = if may_start sha256 o.state then led_on o payloads else Err o.state.place
