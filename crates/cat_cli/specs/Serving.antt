-- What a run of `serve` does, by its status.
use Rattle.std.specs.Prelude.{ℕ, ◌≡◌, ◌⊎◌, List, ◌++◌, reverse, take, Option, Some, None, IfSome, Bool, true, false, if◌then◌else◌}
use Rattle.std.specs.Option.{option_map}
use Rattle.std.specs.Io.KnownBytes.{Appends}
use Rattle.cat_io.specs.Causes.{Rose}
use Rattle.cat_checks.specs.Histories.{IsLegalFrom}
use Rattle.cat_desk.specs.Pass.{DeskId, mark_of, number_of, seen}
use Rattle.cat_desk.specs.declared.pass.Pass.{Pass}
use Rattle.cat_keeper.specs.Bases.{base_count}
use Rattle.cat_model.specs.declared.log_entry.LogEntry.{LogEntry}
use Rattle.cat_model.specs.Book.{Book}
use Rattle.cat_model.specs.Mark.{FailedAppend}
use Rattle.cat_model.specs.Turns.{Opened}
use Rattle.cat_serve.specs.declared.serving.Served.{Served}
use Rattle.cat_serve.specs.declared.serving.Served.TheVariants as serveds
use Rattle.cat_serve.specs.Sessions.{Readings}
use Rattle.cat_serve.specs.Workers.{Ends as BothEnds, first_split}
use Rattle.cat_cli.specs.declared.status.Status.{Status}
use Rattle.cat_cli.specs.declared.status.Status.TheVariants as statuses
use Rattle.cat_cli.specs.declared.unopened.Unopened.{Unopened}
use Rattle.cat_cli.specs.Hosting.{Comes, Heard, Service, WorksOn}
use Rattle.cat_cli.specs.HostingLaws.{AllBegin}
use Rattle.cat_cli.specs.Journals.{Begins, KeepsFormat, StandsFor, opened_format, unopened_of}
use Rattle.cat_cli.specs.Lines.{listener_fault_line, no_memory_line}
use Rattle.cat_cli.specs.Runs.{OpensStill, Refuses, TellsKnown, UnspoiledBy, grown}
use Rattle.cat_cli.specs.Shares.{AreMade, AreOf, CallerWasTold, all_shares}
use Rattle.cat_cli.specs.Surviving.{Images, Spared, Survives, bases_between}

-- ---- the journal

-- the payload of the append that failed, if one did, by the mark that a pass holds
abbrev pub flying_at : Pass → Option (List ℕ)
flying_at p = option_map (λ (f : FailedAppend). f.payload) (mark_of p).fault

-- how many checkpoints were made from one pass to another, by their marks
abbrev pub bases_made : Pass → Pass → ℕ
bases_made first last = bases_between (mark_of first).bases (mark_of last).bases

-- A desk was made of the catalogue of the journal, workers served on its passes, whose numbers are 1 and those from 2 on, and the journal keeps the entries of all that they changed, and has a base more for each checkpoint that the marks tell of: the log at the end begins with the one that was opened, each of its entries is legal where it stands, and what each session's pass had seen is a beginning of it. What was added is of the workers, and of each of them just the entries that its requests made, in their order. No append had failed before, and no call of the keeper; the first mark tells the format that the journal has once it is opened, the place of its last base, how many bases it has, and the book's last draft number, and no sweep; the journal has that format at the end; and the mark of each session's pass grew to that of the last one. Where an append failed, a request of the worker whose it was was told so, and to is so of the count of faults that is told of it; where none did, stays is so.
pub record Hosted {In Out : Type 0} (ends : BothEnds In Out) (to : ℕ → Type 0) (stays : Type 0) (service : Service) (a b : Heard (In × Out)) (ahead now : Option Readings) (journal left : Option (List ℕ)) (images : Images) : Type 0 where
  pub payloads : List (List ℕ)
  pub started : Opened
  pub book : Book
  pub begins : Begins journal payloads started book
  pub fresh : started.faults ≡ 0
  pub desk : DeskId
  pub first : Pass
  pub last : Pass
  pub opened : desk.opened ≡ started
  pub begun : desk.begun ≡ reverse book.log
  pub saw : seen first ≡ desk.begun
  pub clean : (mark_of first).fault ≡ None
  pub formed : IfSome journal (λ bytes. (mark_of first).format ≡ opened_format bytes)
  pub based : (mark_of first).base ≡ started.state.place
  pub counted : IfSome journal (λ bytes. (mark_of first).bases ≡ Some (base_count payloads))
  pub drafted : (mark_of first).draft ≡ book.draft
  pub unswept : (mark_of first).sweep ≡ None
  pub number_is : number_of first ≡ 1
  pub splits : first_split first ≡ 2
  pub works : WorksOn ends service a b desk first ahead last now
  pub sessions : AllBegin ends desk service.attempts works.serves last
  pub legal : IsLegalFrom desk.opened (seen last)
  pub added : List LogEntry
  pub grows : seen last ≡ reverse book.log ++ added
  pub theirs : AreOf (all_shares ends desk service.attempts works.serves) added
  pub made : AreMade added (all_shares ends desk service.attempts works.serves)
  pub crash : Survives journal left images (grown payloads started book added (bases_made first last) (flying_at last))
  pub format_stays : KeepsFormat journal left
  pub cause : IfSome (mark_of last).fault (λ f. to f.count)
  pub level : (mark_of last).fault ≡ None → stays
  pub told : IfSome (mark_of last).fault (λ f. CallerWasTold f (all_shares ends desk service.attempts works.serves))

-- and no append failed, so no call was told of one
abbrev pub HostedWell : {In Out : Type 0} → BothEnds In Out → (ℕ → Type 0) → Type 0 → Service → Heard (In × Out) → Heard (In × Out) → Option Readings → Option Readings → Option (List ℕ) → Option (List ℕ) → Images → Type 0
HostedWell ends to stays service a b ahead now journal left images = (h : Hosted ends to stays service a b ahead now journal left images) × ((mark_of h.last).fault ≡ None)

-- or one did
abbrev pub HostedIll : {In Out : Type 0} → BothEnds In Out → (ℕ → Type 0) → Type 0 → Service → Heard (In × Out) → Heard (In × Out) → Option Readings → Option Readings → Option (List ℕ) → Option (List ℕ) → Images → Type 0
HostedIll ends to stays service a b ahead now journal left images = (h : Hosted ends to stays service a b ahead now journal left images) × (x : FailedAppend) × ((mark_of h.last).fault ≡ Some x)

-- or the journal was opened, and nothing was written, but a new journal where there were no bytes; paused says that the clock wasn't read, and stays that the disks' count of faults is as it was
abbrev pub OpenedOnly : Type 0 → Type 0 → Option (List ℕ) → Option (List ℕ) → Images → Type 0
OpenedOnly paused stays journal left images = (book : Book) × OpensStill journal left images book × paused × stays

-- ---- the sink

-- what the sink tells before a run and after it, with its counts of faults
pub record Sunk : Type 0 where
  pub held : Option (List ℕ)
  pub after : Option (List ℕ)
  pub before : ℕ
  pub now : ℕ

-- a line was written, or a front of it where the count of faults rose
abbrev pub IsWritten : Bool → List ℕ → Sunk → Type 0
IsWritten true line k = Appends k.held k.after line
IsWritten false line k = (n : ℕ) × Appends k.held k.after (take n line) × Rose k.before k.now

-- what is told after serving, by how it ended, and whether that was written
abbrev pub IsToldOf : Served → Bool → Sunk → Type 0
IsToldOf serveds.End wrote k = k.after ≡ k.held
IsToldOf serveds.ListenerFault wrote k = IsWritten wrote listener_fault_line k
IsToldOf serveds.NoMemory wrote k = TellsKnown no_memory_line k.held k.after k.before k.now

-- the status after serving, by how it ended, whether the disk failed, and whether the line was written
abbrev pub status_after : Served → Bool → Bool → Status
status_after serveds.End failed wrote = if failed then statuses.DiskFault else statuses.Done
status_after serveds.ListenerFault failed true = if failed then statuses.DiskFault else statuses.ListenerFault
status_after serveds.ListenerFault failed false = statuses.WriteFault
status_after serveds.NoMemory failed wrote = statuses.NoMemory

-- ---- a run

-- the journal was opened, by the status; so says that connections were served, well that no append failed then, ill that one did, none that no connection was accepted, and level that the disks' count of faults is as it was: a fault of the disk's is told only where an append failed, and so where connections were accepted
abbrev pub Ended : {C : Type 0} → Type 0 → Type 0 → Type 0 → Type 0 → Type 0 → Service → Heard C → Heard C → Sunk → Status → Type 0
Ended so well ill none level service a b k statuses.Done = Comes well none service a b serveds.End × level × (k.after ≡ k.held)
Ended so well ill none level service a b k statuses.ListenerFault = Comes well none service a b serveds.ListenerFault × level × IsWritten true listener_fault_line k
Ended so well ill none level service a b k statuses.DiskFault =
    (Comes ill ⊥ service a b serveds.End × (k.after ≡ k.held))
    ⊎ (Comes ill ⊥ service a b serveds.ListenerFault × IsWritten true listener_fault_line k)
Ended so well ill none level service a b k statuses.WriteFault = Comes so none service a b serveds.ListenerFault × IsWritten false listener_fault_line k
Ended so well ill none level service a b k statuses.NoMemory = Comes so none service a b serveds.NoMemory × TellsKnown no_memory_line k.held k.after k.before k.now
Ended so well ill none level service a b k _ = ⊥

-- why no journal was opened, by the status; fell says why the disks' count of faults rose, and level that it is as it was
abbrev pub RefusedFor : Type 0 → Type 0 → Option (List ℕ) → Status → Type 0
RefusedFor fell level journal statuses.DiskFault = fell
RefusedFor fell level journal statuses.WriteFault = fell
RefusedFor fell level journal statuses.Unreadable = level × (why : Unopened) × unopened_of journal why
RefusedFor fell level journal statuses.NoMemory = level
RefusedFor fell level journal _ = ⊥

-- none was opened: that is told where the sink tells, the journal stands for what it did, after a crash too, its bytes are as they were, or of an empty file those of a new journal, and where a fault of the disk's is the reason, no more than these, and the listener and the clock are untouched
pub record RefusesKnown (fell level untouched : Type 0) (k : Sunk) (journal left : Option (List ℕ)) (images : Images) (status : Status) : Type 0 where
  pub cause : RefusedFor fell level journal status
  pub told : (w : List ℕ) → k.held ≡ Some w → (h : List ℕ) × (k.after ≡ Some h) × Refuses fell level (record { written = w; held = h; before = k.before; now = k.now; journal = journal; left = left; images = images }) status
  pub stands : StandsFor journal left
  pub spared : Spared journal left images
  pub unspoiled : UnspoiledBy journal left images status
  pub still : untouched

-- what a run of `serve` does
abbrev pub ServesKnown : {In Out : Type 0} → BothEnds In Out → Type 0 → (ℕ → Type 0) → Type 0 → Type 0 → Type 0 → Service → Heard (In × Out) → Heard (In × Out) → Option Readings → Option Readings → Sunk → Option (List ℕ) → Option (List ℕ) → Images → Status → Type 0
ServesKnown ends fell to level untouched paused service a b ahead now k journal left images status =
    Ended (Hosted ends to level service a b ahead now journal left images) (HostedWell ends to level service a b ahead now journal left images) (HostedIll ends to level service a b ahead now journal left images) (OpenedOnly paused level journal left images) level service a b k status
    ⊎ RefusesKnown fell level untouched k journal left images status
