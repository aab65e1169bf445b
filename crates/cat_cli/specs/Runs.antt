-- What a run's status says.
use Rattle.std.specs.Prelude.{ℕ, ◌<◌, ◌≡◌, ◌⊎◌, List, ◌++◌, take, reverse, Option, Some, None, IfSome, Bool, true, false}
use Rattle.cat_io.specs.Causes.{Rose}
use Rattle.cat_model.specs.declared.log_entry.LogEntry.{LogEntry}
use Rattle.cat_model.specs.Book.{Book}
use Rattle.cat_model.specs.Turns.{Opened}
use Rattle.std.specs.Option.{option_and_then, option_map}
use Rattle.cat_journal.specs.Frames.{form_gate, is_newer}
use Rattle.cat_journal.specs.Reading.{IsMigrated}
use Rattle.cat_keeper.specs.Bases.{base_count}
use Rattle.cat_model.specs.Requests.{Journal}
use Rattle.cat_policy.specs.Policies.{policy_of}
use Rattle.cat_words.specs.Asked.{Task, asked, check, drill, gc, migrate, script, serve}
use Rattle.cat_serve.specs.declared.ending.Session.{Session as End}
use Rattle.cat_serve.specs.declared.ending.Session.TheVariants as ends
use Rattle.cat_cli.specs.declared.unopened.Unopened.{Unopened}
use Rattle.cat_cli.specs.declared.status.Status.{Status}
use Rattle.cat_cli.specs.declared.status.Status.TheVariants as statuses
use Rattle.cat_cli.specs.Journals.{Begins, IsBasedAt, IsJournalOf, KeepsFormat, StandsFor, opened_format, unopened_of}
use Rattle.cat_cli.specs.Lines.{check_line, disk_fault_line, migrated_line, no_memory_line, unopened_line}
use Rattle.cat_serve.specs.Sessions.{AreAhead, Readings, ReadsOn, Fallen, Point, Standing, Ends, journal_from}
use Rattle.cat_cli.specs.Surviving.{Grown, Images, Spared, Survives, Unspoiled, Unwritten, bases_between}

-- the process's status
abbrev pub code_of : Status → ℕ
code_of statuses.Done = 0
code_of statuses.Usage = 1
code_of statuses.DiskFault = 2
code_of statuses.Unreadable = 3
code_of statuses.NoMemory = 4
code_of statuses.ReadFault = 5
code_of statuses.WriteFault = 6
code_of statuses.ListenerFault = 7
code_of statuses.Cut = 8
code_of statuses.Limit = 9

-- the sink took all that was to be written
abbrev pub tells_all : Status → Bool
tells_all statuses.Done = true
tells_all statuses.Cut = true
tells_all statuses.ReadFault = true
tells_all statuses.DiskFault = true
tells_all statuses.ListenerFault = true
tells_all statuses.Limit = true
tells_all _ = false

-- no fault of the disks is to be told
abbrev pub spares_disks : Status → Bool
spares_disks statuses.Done = true
spares_disks statuses.Usage = true
spares_disks statuses.Unreadable = true
spares_disks statuses.Cut = true
spares_disks statuses.ListenerFault = true
spares_disks statuses.Limit = true
spares_disks _ = false

-- the listener's count of faults is as it was
abbrev pub spares_listener : Status → Bool
spares_listener statuses.DiskFault = false
spares_listener statuses.WriteFault = false
spares_listener statuses.ListenerFault = false
spares_listener _ = true

-- what is asked for, where the words of a collection are a policy
abbrev pub judged : Task → Option Task
judged (script journal) = Some (script journal)
judged (check journal) = Some (check journal)
judged (migrate journal) = Some (migrate journal)
judged (gc journal default rules) = option_map (λ _. gc journal default rules) (policy_of default rules)
judged (drill seed commits) = Some (drill seed commits)
judged (serve journal address workers attempts connections) = Some (serve journal address workers attempts connections)

-- the command of the words
abbrev pub command_of : List (List ℕ) → Option Task
command_of words = option_and_then judged (asked words)

-- the journal of a command
abbrev pub journal_of : Task → Option (List ℕ)
journal_of (script journal) = Some journal
journal_of (check journal) = Some journal
journal_of (migrate journal) = Some journal
journal_of (gc journal default rules) = Some journal
journal_of (drill seed commits) = None
journal_of (serve journal address workers attempts connections) = Some journal

-- ---- what is seen of a run

-- what the sink held before and after a run, with its counts of faults; what the journal's disk tells before and after, where it does; and what is known of crashes
pub record Seen : Type 1 where
  pub written : List ℕ
  pub held : List ℕ
  pub before : ℕ
  pub now : ℕ
  pub journal : Option (List ℕ)
  pub left : Option (List ℕ)
  pub images : Images

-- a front of the line was written, and the count of faults rose
abbrev pub IsFront : List ℕ → List ℕ → List ℕ → ℕ → ℕ → Type 0
IsFront line written held before now = (n : ℕ) × (held ≡ written ++ take n line) × Rose before now

-- the line was written, or a front of it where the count of faults rose
abbrev pub IsTold : List ℕ → List ℕ → List ℕ → ℕ → ℕ → Type 0
IsTold line written held before now = (held ≡ written ++ line) ⊎ IsFront line written held before now

abbrev pub Tells : List ℕ → Seen → Type 0
Tells line s = IsTold line s.written s.held s.before s.now

-- ---- no journal was opened

-- what the sink holds then, by the status; fell says why the disks' count of faults rose, and level that it is as it was
abbrev pub Refuses : Type 0 → Type 0 → Seen → Status → Type 0
Refuses fell level s statuses.DiskFault = fell × (s.held ≡ s.written ++ disk_fault_line)
Refuses fell level s statuses.WriteFault = fell × IsFront disk_fault_line s.written s.held s.before s.now
Refuses fell level s statuses.Unreadable = level × (why : Unopened) × unopened_of s.journal why × Tells (unopened_line why) s
Refuses fell level s statuses.NoMemory = level × Tells no_memory_line s
Refuses fell level s _ = ⊥

-- nothing was written, but a new journal where there were no bytes, or where a fault of the disk's is the reason, maybe a part of one
abbrev pub UnspoiledBy : Option (List ℕ) → Option (List ℕ) → Images → Status → Type 0
UnspoiledBy journal left images statuses.Unreadable = Unspoiled journal left images
UnspoiledBy journal left images statuses.NoMemory = Unspoiled journal left images
UnspoiledBy journal left images _ = Unwritten journal left images

-- and the journal stands for what it did, after a crash too; its bytes are as they were, or of an empty file those of a new journal, and where a fault of the disk's is the reason, no more than these
abbrev pub RefusesSo : Type 0 → Type 0 → Seen → Status → Type 0
RefusesSo fell level s status = Refuses fell level s status × StandsFor s.journal s.left × Spared s.journal s.left s.images × UnspoiledBy s.journal s.left s.images status

-- ---- a script

-- a session on a catalogue and its journal, before its first request: it answers 1,000 at most
abbrev pub start : Journal → Book → List ℕ → List ℕ → Point
start journal book bytes written = record { left = 1000; standing = record { session = record { book = book; readings = 0; journal = journal }; fallen = None }; bytes = bytes; written = written }

-- what a run that added these entries, and so many checkpoints, made of a journal that had these payloads
abbrev pub grown : List (List ℕ) → Opened → Book → List LogEntry → ℕ → Option (List ℕ) → Grown
grown payloads o book added bases flying = record { had = payloads; opened = o; begun = reverse book.log; added = added; bases = bases; flying = flying }

-- a session on the journal's catalogue, in the format that the journal has once it is opened, ended so, and the journal keeps its entries, and has a base more for each checkpoint that was accepted, after a crash too; its base is then that of the session's last accepted checkpoint, or the one that it had, where no append failed; it has the format still; where an append failed, to is so of the count of faults that is told of it, and where none did, stays is so; and to_come is so of how many readings were taken
pub record Ran (to : ℕ → Type 0) (stays : Type 0) (clock : Readings) (to_come : ℕ → Type 0) (bytes : List ℕ) (unread : Option (List ℕ)) (s : Seen) (end : End) : Type 0 where
  pub payloads : List (List ℕ)
  pub opened : Opened
  pub book : Book
  pub begins : Begins s.journal payloads opened book
  pub format : ℕ
  pub formed : IfSome s.journal (λ bytes. format ≡ opened_format bytes)
  pub bases : Option ℕ
  pub counted : IfSome s.journal (λ bytes. bases ≡ Some (base_count payloads))
  pub last : Standing
  pub ends : Ends clock (start (journal_from opened format opened.state.place bases) book bytes s.written) end s.held last unread
  pub added : List LogEntry
  pub grows : last.session.book.log ≡ reverse added ++ book.log
  pub crash : Survives s.journal s.left s.images (grown payloads opened book added (bases_between bases last.session.journal.bases) (option_map (λ (f : Fallen). f.payload) last.fallen))
  pub based : last.fallen ≡ None → IfSome s.left (IsBasedAt last.session.journal.base)
  pub format_stays : KeepsFormat s.journal s.left
  pub cause : IfSome last.fallen (λ f. to f.count)
  pub level : last.fallen ≡ None → stays
  pub reads_on : to_come last.session.readings

-- the same where the source and the sink tell what they have, by some readings: the clock's own, where it tells them
abbrev pub RanKnown : (ℕ → Type 0) → Type 0 → Option Readings → Option Readings → Option (List ℕ) → Option (List ℕ) → Option (List ℕ) → Option (List ℕ) → ℕ → ℕ → Option (List ℕ) → Option (List ℕ) → Images → End → Type 0
RanKnown to stays ahead to_come bytes unread held after before now journal left images end =
    (b w : List ℕ) → bytes ≡ Some b → held ≡ Some w
    → (clock : Readings) × AreAhead ahead clock
    × (h : List ℕ) × (after ≡ Some h) × Ran to stays clock (ReadsOn ahead to_come) b unread (record { written = w; held = h; before = before; now = now; journal = journal; left = left; images = images }) end

-- the count of a fault, which isn't 0 and is this one
abbrev pub CountedBy : ℕ → ℕ → Type 0
CountedBy most count = (0 < count) × (count ≡ most)

-- and no append failed; stays says that the disks' count of faults is as it was
abbrev pub RanWell : (ℕ → Type 0) → Type 0 → Readings → (ℕ → Type 0) → List ℕ → Option (List ℕ) → Seen → End → Type 0
RanWell to stays clock to_come bytes unread s end = (ran : Ran to stays clock to_come bytes unread s end) × (ran.last.fallen ≡ None) × stays

-- or one did
abbrev pub RanIll : (ℕ → Type 0) → Type 0 → Readings → (ℕ → Type 0) → List ℕ → Option (List ℕ) → Seen → End → Type 0
RanIll to stays clock to_come bytes unread s end = (ran : Ran to stays clock to_come bytes unread s end) × (f : Fallen) × (ran.last.fallen ≡ Some f)

-- a session was held, by the status: a fault of the disk's is told only where an append failed, and at each status the disks' count of faults is as it was where none did
abbrev pub Answers : (ℕ → Type 0) → Type 0 → Readings → (ℕ → Type 0) → List ℕ → Option (List ℕ) → Seen → Status → Type 0
Answers to stays clock to_come bytes unread s statuses.Done = RanWell to stays clock to_come bytes unread s ends.Closed
Answers to stays clock to_come bytes unread s statuses.Cut =
    RanWell to stays clock to_come bytes unread s ends.Capped ⊎ RanWell to stays clock to_come bytes unread s ends.BadHead ⊎ RanWell to stays clock to_come bytes unread s ends.TooLarge
Answers to stays clock to_come bytes unread s statuses.DiskFault =
    RanIll to stays clock to_come bytes unread s ends.Closed ⊎ RanIll to stays clock to_come bytes unread s ends.Capped
    ⊎ RanIll to stays clock to_come bytes unread s ends.BadHead ⊎ RanIll to stays clock to_come bytes unread s ends.TooLarge
Answers to stays clock to_come bytes unread s statuses.ReadFault = Ran to stays clock to_come bytes unread s ends.ReadFault
Answers to stays clock to_come bytes unread s statuses.WriteFault = Ran to stays clock to_come bytes unread s ends.WriteFault
Answers to stays clock to_come bytes unread s statuses.NoMemory = Ran to stays clock to_come bytes unread s ends.NoMemory
Answers to stays clock to_come bytes unread s _ = ⊥

-- what a run of `script` does with these readings, by its status; the clock tells ahead before it, and then what is to come: where no session was held neither the source nor the clock was read, which untouched says
abbrev pub Says : Type 0 → (ℕ → Type 0) → Type 0 → Type 0 → Readings → Option Readings → Option Readings → List ℕ → Option (List ℕ) → Seen → Status → Type 0
Says fell to stays untouched clock ahead to_come bytes unread s status = Answers to stays clock (ReadsOn ahead to_come) bytes unread s status ⊎ (RefusesSo fell stays s status × untouched)

-- the same where the source and the sink tell what they have, by some readings: the clock's own, where it tells them
abbrev pub SaysKnown : Type 0 → (ℕ → Type 0) → Type 0 → Type 0 → Option Readings → Option Readings → Option (List ℕ) → Option (List ℕ) → Option (List ℕ) → Status → Option (List ℕ) → ℕ → ℕ → Option (List ℕ) → Option (List ℕ) → Images → Type 0
SaysKnown fell to stays untouched ahead to_come bytes unread held status after before now journal left images =
    (b w : List ℕ) → bytes ≡ Some b → held ≡ Some w
    → (clock : Readings) × AreAhead ahead clock
    × (h : List ℕ) × (after ≡ Some h) × Says fell to stays untouched clock ahead to_come b unread (record { written = w; held = h; before = before; now = now; journal = journal; left = left; images = images }) status

-- ---- a check

-- the journal was opened, and stands for what it did, after a crash too
pub record Opens (journal left : Option (List ℕ)) (images : Images) (book : Book) : Type 0 where
  pub payloads : List (List ℕ)
  pub opened : Opened
  pub begins : Begins journal payloads opened book
  pub keeps : IfSome left (IsJournalOf payloads)
  pub ends : IfSome left (λ bytes. (c : List ℕ) → images.after c → c ≡ bytes)
  pub crash : Spared journal left images

-- and nothing was written, but a new journal where there were no bytes
pub record OpensStill (journal left : Option (List ℕ)) (images : Images) (book : Book) : Type 0 where
  pub opens : Opens journal left images book
  pub same : Unspoiled journal left images

-- its catalogue was counted, by the status; stays says that the disks' count of faults is as it was
abbrev pub Counts : Type 0 → Seen → Status → Type 0
Counts stays s statuses.Done = (book : Book) × OpensStill s.journal s.left s.images book × (s.held ≡ s.written ++ check_line book) × stays
Counts stays s statuses.WriteFault = (book : Book) × OpensStill s.journal s.left s.images book × IsFront (check_line book) s.written s.held s.before s.now × stays
Counts stays s _ = ⊥

-- what a run of `check` does, by its status
abbrev pub Checks : Type 0 → Type 0 → Seen → Status → Type 0
Checks fell stays s status = Counts stays s status ⊎ RefusesSo fell stays s status

-- the same where the sink tells what it has
abbrev pub ChecksKnown : Type 0 → Type 0 → Option (List ℕ) → Status → Option (List ℕ) → ℕ → ℕ → Option (List ℕ) → Option (List ℕ) → Images → Type 0
ChecksKnown fell stays held status after before now journal left images =
    (w : List ℕ) → held ≡ Some w
    → (h : List ℕ) × (after ≡ Some h) × Checks fell stays (record { written = w; held = h; before = before; now = now; journal = journal; left = left; images = images }) status

-- ---- a migration

-- the journal was opened, and is one of format 2: its bytes are those before but for the format's gate, or where there were none, a new journal; and it stands for what it did, after a crash too
pub record Migrates (journal left : Option (List ℕ)) (images : Images) (book : Book) : Type 0 where
  pub opens : Opens journal left images book
  pub newer : IfSome left (λ bytes. is_newer (form_gate bytes) ≡ true)
  pub bytes : IfSome journal (λ before. IfSome left (λ after. IsMigrated before after))

-- it was migrated, by the status; stays says that the disks' count of faults is as it was
abbrev pub Migrated : Type 0 → Seen → Status → Type 0
Migrated stays s statuses.Done = (book : Book) × Migrates s.journal s.left s.images book × (s.held ≡ s.written ++ migrated_line book.state.place) × stays
Migrated stays s statuses.WriteFault = (book : Book) × Migrates s.journal s.left s.images book × IsFront (migrated_line book.state.place) s.written s.held s.before s.now × stays
Migrated stays s _ = ⊥

-- where no fault of the disk's is the reason why it wasn't, nothing was written, but a new journal where there were no bytes; a fault may come as the format's gate is opened, and of the bytes nothing is said then
abbrev pub UnmigratedBy : Option (List ℕ) → Option (List ℕ) → Images → Status → Type 0
UnmigratedBy journal left images statuses.Unreadable = Unspoiled journal left images
UnmigratedBy journal left images statuses.NoMemory = Unspoiled journal left images
UnmigratedBy journal left images _ = Unit {0}

-- and the journal stands for what it did, after a crash too; unless a fault of the disk's is the reason, its bytes are as they were, or of an empty file those of a new journal
abbrev pub RefusesMigration : Type 0 → Type 0 → Seen → Status → Type 0
RefusesMigration fell level s status = Refuses fell level s status × StandsFor s.journal s.left × Spared s.journal s.left s.images × UnmigratedBy s.journal s.left s.images status

-- what a run of `migrate` does, by its status
abbrev pub MigratesSo : Type 0 → Type 0 → Seen → Status → Type 0
MigratesSo fell stays s status = Migrated stays s status ⊎ RefusesMigration fell stays s status

-- the same where the sink tells what it has
abbrev pub MigratesKnown : Type 0 → Type 0 → Option (List ℕ) → Status → Option (List ℕ) → ℕ → ℕ → Option (List ℕ) → Option (List ℕ) → Images → Type 0
MigratesKnown fell stays held status after before now journal left images =
    (w : List ℕ) → held ≡ Some w
    → (h : List ℕ) × (after ≡ Some h) × MigratesSo fell stays (record { written = w; held = h; before = before; now = now; journal = journal; left = left; images = images }) status

-- ---- lines

-- a line was told, where the sink tells what it has
abbrev pub TellsKnown : List ℕ → Option (List ℕ) → Option (List ℕ) → ℕ → ℕ → Type 0
TellsKnown line held after before now = (w : List ℕ) → held ≡ Some w → (h : List ℕ) × (after ≡ Some h) × IsTold line w h before now

-- what the sink holds after a run of `drill` whose line this is, by its status
abbrev pub Drills : List ℕ → List ℕ → Status → List ℕ → ℕ → ℕ → Type 0
Drills line written statuses.Done held before now = held ≡ written ++ line
Drills line written statuses.NoMemory held before now = IsTold no_memory_line written held before now
Drills line written statuses.WriteFault held before now = IsFront line written held before now
Drills line written _ held before now = ⊥

-- the same where the sink tells what it has
abbrev pub DrillsKnown : List ℕ → Option (List ℕ) → Status → Option (List ℕ) → ℕ → ℕ → Type 0
DrillsKnown line held status after before now =
    (w : List ℕ) → held ≡ Some w → (h : List ℕ) × (after ≡ Some h) × Drills line w status h before now

-- how a drill may end
abbrev pub ends_drill : Status → Bool
ends_drill statuses.Done = true
ends_drill statuses.NoMemory = true
ends_drill statuses.WriteFault = true
ends_drill _ = false
