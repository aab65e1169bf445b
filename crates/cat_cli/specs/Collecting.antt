-- What a run of `gc` does, by its status.
use Rattle.std.specs.Prelude.{ℕ, ◌≡◌, ◌⊎◌, List, [], ◌∷◌, ◌++◌, reverse, Option, Some, None, Result, Ok, Err, true, false}
use Rattle.sha2.specs.Sha256.{sha256}
use Rattle.cat_checks.specs.Histories.{IsLegalFrom}
use Rattle.cat_core.specs.Stored.{Stored, opened_of}
use Rattle.cat_io.specs.Clocks.{Ticks}
use Rattle.cat_model.specs.declared.limits.Quantity.{Quantity}
use Rattle.cat_model.specs.declared.log_entry.LogEntry.{LogEntry}
use Rattle.cat_model.specs.declared.refusal.Refusal.{Refusal}
use Rattle.cat_model.specs.declared.refusal.Refusal.TheVariants as refusals
use Rattle.cat_model.specs.declared.refusal.Refused.{Refused}
use Rattle.cat_model.specs.declared.reply.Reply.TheVariants as replies
use Rattle.cat_model.specs.declared.reply.Swept.{Swept}
use Rattle.cat_model.specs.declared.reply.Told.{Told}
use Rattle.cat_model.specs.Book.{Book}
use Rattle.cat_model.specs.Calls.{Called}
use Rattle.cat_model.specs.Drafts.{no_names}
use Rattle.cat_model.specs.Past.{swept_on}
use Rattle.cat_model.specs.Turns.{Opened}
use Rattle.cat_policy.specs.declared.policy.Policy.{Policy}
use Rattle.cat_policy.specs.Policies.{resolved}
use Rattle.cat_state.specs.Kept.{spelling}
use Rattle.cat_work.specs.Answers.{journal_in}
use Rattle.cat_cli.specs.declared.collecting.Collected.{Collected}
use Rattle.cat_cli.specs.declared.collecting.Collected.TheVariants as comes
use Rattle.cat_cli.specs.declared.status.Status.{Status}
use Rattle.cat_cli.specs.declared.status.Status.TheVariants as statuses
use Rattle.cat_cli.specs.Journals.{Begins, KeepsFormat}
use Rattle.cat_cli.specs.Lines.{disk_fault_line, limit_line, no_memory_line, swept_line}
use Rattle.cat_cli.specs.Runs.{TellsKnown, grown}
use Rattle.cat_cli.specs.Serving.{IsWritten, RefusesKnown, Sunk}
use Rattle.cat_cli.specs.Surviving.{Images, Survives}

-- ---- what a collection comes to

-- what the model's sweep brings on a catalogue at which it was opened, under a policy at a moment, while nobody else is there and no draft gave a name
abbrev pub collection : Book → Policy → ℕ → Called
collection book policy moment = swept_on sha256 1 book (resolved moment policy) no_names moment

-- it is accepted: its entry is all that is added, and its reply tells these numbers
pub record IsAccepted (called : Called) (kept removed place : ℕ) (added : List LogEntry) (flying : Option (List ℕ)) : Type 0 where
  pub opened : ℕ
  pub said : called.said ≡ Ok (record { place = place; reply = replies.Swept (record { kept = kept; opened = opened; removed = removed }) })
  pub entry : LogEntry
  pub logged : called.logged ≡ entry ∷ []
  pub added_is : added ≡ entry ∷ []
  pub up : flying ≡ None

-- it is refused for a limit, which is this number, and nothing is added
pub record IsLimited (called : Called) (number : ℕ) (added : List LogEntry) (flying : Option (List ℕ)) : Type 0 where
  pub which : Quantity
  pub place : Option ℕ
  pub said : called.said ≡ Err (record { place = place; why = refusals.Limit which number })
  pub logged : called.logged ≡ []
  pub added_is : added ≡ []
  pub up : flying ≡ None

-- it is accepted, and the append of its entry failed
pub record IsUnkept (called : Called) (added : List LogEntry) (flying : Option (List ℕ)) : Type 0 where
  pub entry : LogEntry
  pub logged : called.logged ≡ entry ∷ []
  pub added_is : added ≡ []
  pub flies : flying ≡ Some (spelling entry)

-- by what it came to: the entries that were added, and the payload of the append that failed, if one did
abbrev pub ComesTo : Called → Collected → List LogEntry → Option (List ℕ) → Type 0
ComesTo called (comes.Swept kept removed place) added flying = IsAccepted called kept removed place added flying
ComesTo called (comes.Limit number) added flying = IsLimited called number added flying
ComesTo called comes.Fault added flying = IsUnkept called added flying
ComesTo called comes.NoMemory added flying = (added ≡ []) × (flying ≡ None)

-- ---- on a desk, and on the store that it holds

-- what alone is told of a collection while nobody else is there, by its refusal
abbrev pub IsOwn : Refusal → Type 0
IsOwn (refusals.Limit which number) = Unit {0}
IsOwn refusals.Fault = Unit {0}
IsOwn refusals.NoMemory = Unit {0}
IsOwn _ = ⊥

abbrev pub IsAnswer : Result Told Refused → Type 0
IsAnswer (Ok told) = (swept : Swept) × (told.reply ≡ replies.Swept swept)
IsAnswer (Err refused) = IsOwn refused.why

-- what it came to, by what is told of it
abbrev pub MeansBy : Refusal → Collected → Type 0
MeansBy (refusals.Limit which number) what = what ≡ comes.Limit number
MeansBy refusals.Fault what = what ≡ comes.Fault
MeansBy refusals.NoMemory what = what ≡ comes.NoMemory
MeansBy _ what = ⊥

abbrev pub Means : Result Told Refused → Collected → Type 0
Means (Ok told) what = (swept : Swept) × (told.reply ≡ replies.Swept swept) × (what ≡ comes.Swept swept.kept swept.removed told.place)
Means (Err refused) what = MeansBy refused.why what

-- a collection was made on a store, which has its entry then, if that was kept, and no checkpoint more
pub record IsGathered {K : Type 0} (in_flight : K → Option (List ℕ)) (policy : Policy) (ahead to_come : Option (ℕ → ℕ)) (old new : Stored K) (what : Collected) : Type 0 where
  pub moment : ℕ
  pub ticks : Ticks ahead to_come moment
  pub added : List LogEntry
  pub comes_to : ComesTo (collection old.book policy moment) what added (in_flight new.keeper)
  pub log_is : new.book.log ≡ reverse added ++ old.book.log
  pub opened : opened_of new ≡ opened_of old
  pub unbased : journal_in new.mark ≡ journal_in old.mark
  pub legal : IsLegalFrom (opened_of old) (reverse new.book.log)

-- ---- on the journal

-- A collection was made on the catalogue of the journal, as it was opened, at the moment of one reading of the clock, and the journal keeps its entry, and has no base more: where the append failed, maybe. The log is legal, and begins with the one that was opened. Where no append failed, just the entry stands behind all that the journal had. It has the format that it has once it is opened.
pub record Collects (policy : Policy) (ahead to_come : Option (ℕ → ℕ)) (journal left : Option (List ℕ)) (images : Images) (what : Collected) : Type 0 where
  pub payloads : List (List ℕ)
  pub opened : Opened
  pub book : Book
  pub begins : Begins journal payloads opened book
  pub moment : ℕ
  pub ticks : Ticks ahead to_come moment
  pub added : List LogEntry
  pub flying : Option (List ℕ)
  pub comes_to : ComesTo (collection book policy moment) what added flying
  pub legal : IsLegalFrom opened (reverse book.log ++ added)
  pub crash : Survives journal left images (grown payloads opened book added 0 flying)
  pub format_stays : KeepsFormat journal left

-- ---- a run

-- the line that is due after it: its own, or where its append failed, that of the disk's fault; fell says why the disks' count of faults rose, and level that it is as it was
abbrev pub IsDue : Type 0 → Type 0 → Collected → List ℕ → Type 0
IsDue fell level (comes.Swept kept removed place) line = level × (line ≡ swept_line kept removed place)
IsDue fell level (comes.Limit number) line = level × (line ≡ limit_line number)
IsDue fell level comes.Fault line = fell × (line ≡ disk_fault_line)
IsDue fell level comes.NoMemory line = ⊥

-- memory ran out, or no memory was left for its line
abbrev pub IsUnsaid : Type 0 → Collected → Type 0
IsUnsaid level (comes.Swept kept removed place) = level
IsUnsaid level (comes.Limit number) = level
IsUnsaid level comes.Fault = ⊥
IsUnsaid level comes.NoMemory = level

-- a line was told, and the run ends with this status; or a front of it was
abbrev pub EndsWith : List ℕ → Status → Sunk → Status → Type 0
EndsWith line status k ending = ((ending ≡ status) × IsWritten true line k) ⊎ ((ending ≡ statuses.WriteFault) × IsWritten false line k)

-- or no memory was left for it
abbrev pub EndsIn : List ℕ → Status → Sunk → Status → Type 0
EndsIn line status k ending = EndsWith line status k ending ⊎ ((ending ≡ statuses.NoMemory) × TellsKnown no_memory_line k.held k.after k.before k.now)

-- a collection was made, by the status; so says to what it came: a fault of the disk's is told only where the append of its entry failed
abbrev pub Gathers : Type 0 → Type 0 → (Collected → Type 0) → Sunk → Status → Type 0
Gathers fell level so k statuses.Done = (kept removed place : ℕ) × so (comes.Swept kept removed place) × level × IsWritten true (swept_line kept removed place) k
Gathers fell level so k statuses.Limit = (number : ℕ) × so (comes.Limit number) × level × IsWritten true (limit_line number) k
Gathers fell level so k statuses.DiskFault = so comes.Fault × fell × IsWritten true disk_fault_line k
Gathers fell level so k statuses.WriteFault = (what : Collected) × so what × (line : List ℕ) × IsDue fell level what line × IsWritten false line k
Gathers fell level so k statuses.NoMemory = (what : Collected) × so what × IsUnsaid level what × TellsKnown no_memory_line k.held k.after k.before k.now
Gathers fell level so k _ = ⊥

-- what a run of `gc` with this policy does: where no collection was made the clock wasn't read, which paused says
abbrev pub CollectsKnown : Type 0 → Type 0 → Type 0 → Policy → Option (ℕ → ℕ) → Option (ℕ → ℕ) → Sunk → Option (List ℕ) → Option (List ℕ) → Images → Status → Type 0
CollectsKnown fell level paused policy ahead to_come k journal left images status =
    Gathers fell level (Collects policy ahead to_come journal left images) k status
    ⊎ RefusesKnown fell level paused k journal left images status
