-- Passes over a store: the book that a pass stands at, and when calls may be made on it.
use Rattle.std.specs.Prelude.{◌≡◌, ◌+◌, List, reverse}
use Rattle.cat_checks.specs.Histories.{IsLegalFrom, book_at}
use Rattle.cat_desk.specs.Log.{BeginsWith}
use Rattle.cat_desk.specs.Pass.{DeskId, IsFree, left_by, mark_of, seen, spare_of, stands_for}
use Rattle.cat_desk.specs.declared.pass.Pass.{Pass}
use Rattle.cat_model.specs.declared.log_entry.LogEntry.{LogEntry}
use Rattle.cat_model.specs.Book.{Book}
use Rattle.cat_model.specs.Drafts.{nothing_open}
use Rattle.cat_model.specs.State.{State}

-- the state that a log of the desk leads to
abbrev pub state_of : DeskId → List LogEntry → State
state_of desk log = (book_at desk.opened log).state

-- the book that a pass stands at: the state after the log that it has seen, from the one that this started from, and the last draft number of its mark
abbrev pub book_of : DeskId → Pass → Book
book_of desk p = record { state = state_of desk (seen p); draft = (mark_of p).draft; log = reverse (seen p); base = desk.opened.state }

-- it is the only pass of its desk
abbrev pub IsAlone : Pass → Type 0
IsAlone p = stands_for p + spare_of p ≡ 4294967295

-- a pass of the desk without a turn, whose caller has nothing open, and which has seen a legal history that begins with the log with which the desk was made
pub record IsReady (desk : DeskId) (p : Pass) : Type 0 where
  pub free : IsFree desk p
  pub none : left_by p ≡ nothing_open
  pub legal : IsLegalFrom desk.opened (seen p)
  pub starts : BeginsWith desk.begun (seen p)
