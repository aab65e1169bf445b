-- What opening a store over a keeper comes to, by the keeper's payloads as far as these are told.
use Rattle.std.specs.Prelude.{◌≡◌, ℕ, ◌+◌, ◌≤◌, List, [], ◌∷◌, ◌++◌, length, map, get_or, take, reverse, Option, Some, None, Result, Ok, Err, Bool, true, false, ◌&&◌, nat_eq, is_ok, IfSome}
use Rattle.std.specs.List.{list_any}
use Rattle.std.specs.Str.{bytes_eq}
use Rattle.sha2.specs.Sha256.{sha256}
use Rattle.cat_codes.specs.Code.{whole}
use Rattle.cat_checks.specs.Histories.{led_behind, led_on}
use Rattle.cat_checks.specs.Legal.{draft_is_new, draft_may_come, has_its_draft, may_be_done, read_next}
use Rattle.cat_checks.specs.Upheld.{Upholds}
use Rattle.cat_frames.specs.Bases.{from_nothing, opened_by}
use Rattle.cat_frames.specs.Entries.{is_logged, log_entry_code, of_nobody}
use Rattle.cat_io.specs.Crashes.{LeavesOnly}
use Rattle.cat_keeper.specs.declared.keeper.Keeper.{Ghosts}
use Rattle.cat_keeper.specs.Bases.{base_of, base_place, entries_of}
use Rattle.cat_model.specs.declared.limits.Limits.{Limits}
use Rattle.cat_model.specs.declared.log_entry.LogEntry.{LogEntry}
use Rattle.cat_model.specs.Book.{Book, after_call}
use Rattle.cat_model.specs.Calls.{Called}
use Rattle.cat_frames.specs.Standing.{may_start}
use Rattle.cat_model.specs.Turns.{Opened}
use Rattle.cat_state.specs.Kept.{AreReadBack, IsReadBack, spelling, spellings}
use Rattle.cat_core.specs.Records.{IsBaseAt}

-- ---- the whole

-- the book that entries lead to from a base, where that has a reading and a log may start from its state; else the base's place
abbrev pub led_base : ℕ → List (List ℕ) → Option Opened → Result Book ℕ
led_base place entries None = Err place
led_base place entries (Some o) = led_behind o entries

-- the book that payloads lead to: from their last base, or from nothing; or the place of the first entry behind it that has no reading or isn't legal, or of the base
abbrev pub led_from : Limits → List (List ℕ) → Option (List ℕ) → Result Book ℕ
led_from limits payloads None = led_on (from_nothing limits 0 0) (entries_of payloads)
led_from limits payloads (Some base) = led_base (base_place base) (entries_of payloads) (opened_by limits 0 0 (Some base))

abbrev pub led_by : Limits → List (List ℕ) → Result Book ℕ
led_by limits payloads = led_from limits payloads (base_of payloads)

-- they are opened
abbrev pub Opens : Limits → List (List ℕ) → Type 0
Opens limits payloads = (book : Book) × (led_by limits payloads ≡ Ok book)

-- so they are at each length that they had since the log was opened
abbrev pub OpenThrough : Opened → List (List ℕ) → Type 0
OpenThrough o payloads = (n : ℕ) → o.payloads ≤ n → n ≤ length payloads → Opens o.state.limits (take n payloads)

-- a log may start from a base's state
abbrev pub MayStart : Opened → Option (List ℕ) → Type 0
MayStart o None = Unit {0}
MayStart o (Some base) = may_start sha256 o.state ≡ true

-- the payloads, executed again from their base, or from nothing, lead to this book, and those behind it are its log, of nobody, and are read back as this; the base is of the state that it goes on from, which upholds what each state does
pub record IsLedTo (told : Option (List (List ℕ))) (kept : ℕ) (limits : Limits) (o : Opened) (book : Book) : Type 0 where
  pub payloads : List (List ℕ)
  pub are : IfSome told (λ ps. ps ≡ payloads)
  pub total : IfSome told (λ ps. o.payloads ≡ length ps)
  pub number : length (entries_of payloads) ≡ kept
  pub begins : opened_by limits o.payloads o.faults (base_of payloads) ≡ Some o
  pub starts : MayStart o (base_of payloads)
  pub based : IsBaseAt o [] (base_of payloads)
  pub upheld : Upholds sha256 o.state
  pub led : led_on o (entries_of payloads) ≡ Ok book
  pub spelled : entries_of payloads ≡ spellings (reverse book.log)
  pub read : AreReadBack (reverse book.log)
  pub nobody : map of_nobody (reverse book.log) ≡ reverse book.log

-- the entry at this place is the first that has no reading or isn't legal, or the base is of this place, and no log may start from it
pub record IsIllegalAt (told : Option (List (List ℕ))) (limits : Limits) (place : ℕ) : Type 0 where
  pub payloads : List (List ℕ)
  pub are : IfSome told (λ ps. ps ≡ payloads)
  pub refused : led_by limits payloads ≡ Err place

-- ---- one payload

-- the book that bytes lead to, by their reading
abbrev pub next_by : Opened → Book → List ℕ → Option Book
next_by o book payload = read_next sha256 o book (whole (log_entry_code sha256) payload)

-- a payload led from one book to another, one entry longer, and is that entry's spelling; the entry is of nobody, and read back
pub record IsAdded (o : Opened) (before after : Book) (payload : List ℕ) : Type 0 where
  pub next : next_by o before payload ≡ Some after
  pub spelled : spellings (reverse after.log) ≡ spellings (reverse before.log) ++ payload ∷ []
  pub place : after.state.place ≡ before.state.place + 1
  pub entry : LogEntry
  pub newest : after.log ≡ entry ∷ before.log
  pub read : IsReadBack entry
  pub nobody : of_nobody entry ≡ entry

-- a payload was added, or leads to no book
abbrev pub Adds : Opened → Book → Book → List ℕ → Bool → Type 0
Adds o before after payload true = IsAdded o before after payload
Adds o before after payload false = next_by o before payload ≡ None

-- a call that was made again added one entry, at the next place
pub record IsMadeAgain (called : Called) (before after : Book) : Type 0 where
  pub entry : LogEntry
  pub logged : called.logged ≡ entry ∷ []
  pub book : after ≡ after_call before called
  pub place : after.state.place ≡ before.state.place + 1

-- it did, or brings no entry
abbrev pub RunsAgain : Called → Book → Book → Bool → Type 0
RunsAgain called before after true = IsMadeAgain called before after
RunsAgain called before after false = called.logged ≡ []

-- the bytes spell the newest entry
abbrev pub is_newest : List LogEntry → List ℕ → Bool
is_newest [] payload = false
is_newest (entry ∷ log) payload = bytes_eq (spelling entry) payload

-- the newest entry has a spelling
abbrev pub NewestIsLogged : List LogEntry → Type 0
NewestIsLogged [] = Unit {0}
NewestIsLogged (entry ∷ log) = is_logged sha256 entry ≡ true

-- the bytes are read as the newest entry, of nobody
abbrev pub ReadsNewest : List LogEntry → List ℕ → Type 0
ReadsNewest [] payload = ⊥
ReadsNewest (entry ∷ log) payload = whole (log_entry_code sha256) payload ≡ Ok (of_nobody entry)

-- the entry that bytes spell, which has a spelling, or none where they spell none
abbrev pub ReadsAs : List ℕ → Option LogEntry → Type 0
ReadsAs payload None = is_ok (whole (log_entry_code sha256) payload) ≡ false
ReadsAs payload (Some entry) = (whole (log_entry_code sha256) payload ≡ Ok entry) × (payload ≡ spelling entry) × (log_entry_code sha256).Fits entry

-- it may stand behind the book's log, but for what its action brings
abbrev pub may_stand : Book → LogEntry → Bool
may_stand book entry = may_be_done sha256 book entry.action && has_its_draft entry && draft_is_new book.log entry.draft

-- and may do so in a log that started there
abbrev pub may_follow : Opened → Book → LogEntry → Bool
may_follow o book entry = draft_may_come o entry.draft && may_stand book entry

-- the numbers are those of the entries' drafts
abbrev pub AreDrafts : List ℕ → List LogEntry → Type 0
AreDrafts numbers log = (draft : ℕ) → list_any (nat_eq draft) numbers ≡ list_any (λ entry. nat_eq draft entry.draft) log

-- ---- the keeper

-- it was only read: all is as before, but for the count of faults, which a read that fails raises
pub record WasRead {K : Type 0} (members : Ghosts K) (old new : K) : Type 0 where
  pub payloads : members.told new ≡ members.told old
  pub number : members.kept new ≡ members.kept old
  pub first : members.start new ≡ members.start old
  pub format : members.form new ≡ members.form old
  pub fallen : members.down new ≡ members.down old
  pub flies : members.in_flight new ≡ members.in_flight old
  pub later : members.faults old ≤ members.faults new
  pub crash : LeavesOnly members.moment members.left_since old new (members.may_leave old)

-- ---- the payloads so far

-- the entry at a place behind the base, from 0
abbrev pub IsEntryAt : Option (List (List ℕ)) → ℕ → List ℕ → Type 0
IsEntryAt told i payload = IfSome told (λ ps. payload ≡ get_or (entries_of ps) i [])

-- this is the base
abbrev pub HasBase : Option (List (List ℕ)) → Option (List ℕ) → Type 0
HasBase told base = IfSome told (λ ps. base ≡ base_of ps)

-- the first entries behind the base, so many, led to the book, whose log they are, of nobody, and are read back as
pub record IsLedSoFar (told : Option (List (List ℕ))) (o : Opened) (i : ℕ) (book : Book) : Type 0 where
  pub led : led_on o (spellings (reverse book.log)) ≡ Ok book
  pub number : length (spellings (reverse book.log)) ≡ i
  pub place : book.state.place ≡ o.state.place + i
  pub are : IfSome told (λ ps. spellings (reverse book.log) ≡ take i (entries_of ps))
  pub read : AreReadBack (reverse book.log)
  pub nobody : map of_nobody (reverse book.log) ≡ reverse book.log
