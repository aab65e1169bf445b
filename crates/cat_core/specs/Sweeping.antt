-- What is marked where a sweep is executed again, and what is known of the states that it looks back on.
use Rattle.std.specs.Prelude.{◌≡◌, ℕ, ◌+◌, ◌-◌, List, [], ◌∷◌, ◌++◌, drop, length, reverse, Option, Some, None, is_some, is_ok, Bool, true, false, not, ◌&&◌, ◌||◌, IsTrue}
use Rattle.std.specs.List.{flat_map, list_any}
use Rattle.sha2.specs.Sha256.{sha256}
use Rattle.cat_checks.specs.HistoryLaws.{EndsCourse}
use Rattle.cat_graph.specs.Linked.{is_known}
use Rattle.cat_model.specs.declared.command.Command.{Command}
use Rattle.cat_model.specs.declared.command.Command.TheVariants as commands
use Rattle.cat_model.specs.declared.cutoff.Resolved.{Resolved}
use Rattle.cat_model.specs.declared.log_entry.Action.TheVariants as actions
use Rattle.cat_model.specs.declared.log_entry.LogEntry.{LogEntry}
use Rattle.cat_model.specs.declared.reference.Reference.{Reference}
use Rattle.cat_model.specs.declared.sweep.Sweep.{Sweep}
use Rattle.cat_model.specs.Base.{is_among}
use Rattle.cat_model.specs.Book.{Book}
use Rattle.cat_model.specs.Chain.{Commits}
use Rattle.cat_model.specs.Cutoffs.{cutoff_for, live, live_from}
use Rattle.cat_model.specs.Later.{IsLater}
use Rattle.cat_model.specs.Past.{past_of}
use Rattle.cat_model.specs.State.{State}
use Rattle.cat_model.specs.Sweeps.{kept_by_names, names_in, needs_sweep_room, saved, since}
use Rattle.cat_names.specs.declared.hash.Hash.{Hash}
use Rattle.cat_tables.specs.References.{heads_pass}
use Rattle.cat_tables.specs.Tables.{value_of}
use Rattle.cat_core.specs.Opening.{AreDrafts}

-- ---- what is marked

-- what is live from a reference
abbrev pub live_at : Commits → Resolved → Reference → List Hash
live_at commits policy r = live_from commits (cutoff_for policy r.name) r.head

-- so far as there is one
abbrev pub live_if : Commits → Resolved → Option Reference → List Hash
live_if commits policy None = []
live_if commits policy (Some r) = live_at commits policy r

-- from each of those that entries took
abbrev pub live_taken : Commits → Resolved → List (Option Reference) → List Hash
live_taken commits policy taken = flat_map (live_if commits policy) taken

-- what is live now, what is live from the references that the entries since a sweep's opening took, which go on from a place, and what its names keep
abbrev pub rooted : ℕ → State → List (Option Reference) → Sweep → List Hash
rooted first state taken s = live state s.policy ++ (live_taken state.commits s.policy (drop (s.opened - first) taken) ++ kept_by_names state.commits (names_in s))

-- what the sweep keeps on a book
abbrev pub saved_on : Book → Sweep → List Hash
saved_on book s = saved (since s.opened book.state (past_of sha256 book)) book.state.commits s.policy (names_in s)

-- ---- what entries took

-- the name of the reference that a command makes, moves or removes
abbrev pub name_in : Command → List ℕ
name_in (commands.Create c) = c.name
name_in (commands.Assign c) = c.name
name_in (commands.Delete c) = c.name
name_in (commands.Commit c) = c.branch
name_in (commands.Merge m) = m.branch
name_in (commands.Transplant t) = t.branch

-- a reference that was taken passes
abbrev pub taken_passes : (Reference → Bool) → Option Reference → Bool
taken_passes passes None = false
taken_passes passes (Some r) = passes r

-- an entry led from one state to the next: it took a reference that was there, and each of the others is still there; heads were known, and the commits are below those after it
pub record IsTaken (before after : State) (taken : Option Reference) : Type 0 where
  pub kept : (passes : Reference → Bool) → list_any passes before.references ≡ true → (list_any passes after.references || taken_passes passes taken) ≡ true
  pub there : (passes : Reference → Bool) → taken_passes passes taken ≡ true → list_any passes before.references ≡ true
  pub heads : IsTrue (heads_pass (is_known before.commits) before.references)
  pub later : IsLater before after

-- so it was with each of the entries that led to a state, the newest first
abbrev pub AreTaken : State → List State → List (Option Reference) → Type 0
AreTaken state [] [] = Unit {0}
AreTaken state [] (t ∷ taken) = ⊥
AreTaken state (before ∷ past) [] = ⊥
AreTaken state (before ∷ past) (t ∷ taken) = IsTaken before state t × AreTaken before past taken

-- what is kept beside a book while a log is executed again: the draft numbers of its entries, and what each of these took, the oldest first
pub record IsFollowed (numbers : List ℕ) (taken : List (Option Reference)) (book : Book) : Type 0 where
  pub drafts : AreDrafts numbers book.log
  pub ends : EndsCourse sha256 book
  pub count : book.base.place + length taken ≡ book.state.place
  pub taken_are : AreTaken book.state (past_of sha256 book) (reverse taken)

-- what one more entry took stands after the others
pub record TakesOne (before after : Book) (taken more : List (Option Reference)) : Type 0 where
  pub one : Option Reference
  pub more_are : more ≡ taken ++ one ∷ []
  pub is : IsTaken before.state after.state one

-- ---- what goes

-- there is room for a sweep
abbrev pub has_room : State → Sweep → Bool
has_room state s = is_ok (needs_sweep_room state (length s.commits + length s.contents))

-- the hashes are those of the contents that go
abbrev pub AreRemoved : Book → Sweep → List Hash → Type 0
AreRemoved book s hashes = (hash : Hash) → is_among hashes hash ≡ (is_some (value_of book.state.present hash) && not (is_among (saved_on book s) hash))

-- the entry is of a sweep for which there is room, and these contents go
pub record Removes (book : Book) (entry : LogEntry) (hashes : List Hash) : Type 0 where
  pub sweep : Sweep
  pub action_is : entry.action ≡ actions.Sweep sweep
  pub room : IsTrue (has_room book.state sweep)
  pub are : AreRemoved book sweep hashes
