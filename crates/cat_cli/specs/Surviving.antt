-- What a crash leaves of the journal of a run.
use Rattle.std.specs.Prelude.{◌≡◌, ◌⊎◌, ℕ, ◌+◌, ◌-◌, ◌≤◌, List, [], ◌∷◌, ◌++◌, length, take, reverse, Option, Some, None, IfSome}
use Rattle.cat_io.specs.Crashes.{none_known}
use Rattle.cat_checks.specs.Histories.{IsLegalFrom}
use Rattle.cat_core.specs.Opening.{OpenThrough, Opens}
use Rattle.cat_core.specs.Records.{StandFlown, StandFor, StandThrough}
use Rattle.cat_journal.specs.Frames.{payloads, recovered}
use Rattle.cat_journal.specs.Held.{outcome}
use Rattle.cat_keeper.specs.Bases.{base_count}
use Rattle.cat_keeper.specs.Keeping.{WithOrWithout}
use Rattle.cat_keeper.specs.Watching.{GoOn, IsFrontOf, with_flying}
use Rattle.cat_model.specs.declared.log_entry.LogEntry.{LogEntry}
use Rattle.cat_model.specs.Book.{Book}
use Rattle.cat_model.specs.Turns.{Opened}
use Rattle.cat_state.specs.Kept.{spellings}
use Rattle.cat_cli.specs.Journals.{Holds, IsUntouched, IsUnwritten, opened_format}

-- ---- what is known of the disk

-- The bytes that a crash might have left before a run, those that one may leave after it, and those that one at some moment since the run began might have left.
pub record Images : Type 1 where
  pub before : List ℕ → Type 0
  pub after : List ℕ → Type 0
  pub since : List ℕ → Type 0

abbrev pub unknown : Images
unknown = record { before = none_known; after = none_known; since = none_known }

abbrev pub images_of : {D : Type 0} → (D → List ℕ → Type 0) → (D → ℕ) → (D → ℕ → List ℕ → Type 0) → D → D → Images
images_of may_leave moment left_since disk again = record { before = may_leave disk; after = may_leave again; since = left_since again (moment disk) }

-- those of the disk at a path, where it is known before and after
abbrev pub images_at : {D : Type 0} → (D → List ℕ → Type 0) → (D → ℕ) → (D → ℕ → List ℕ → Type 0) → Option (Option D) → Option (Option D) → Images
images_at may_leave moment left_since None after = unknown
images_at may_leave moment left_since (Some None) after = unknown
images_at may_leave moment left_since (Some (Some disk)) None = unknown
images_at may_leave moment left_since (Some (Some disk)) (Some None) = unknown
images_at may_leave moment left_since (Some (Some disk)) (Some (Some again)) = images_of may_leave moment left_since disk again

-- what stands at a path, as far as that is known, is this disk but for its count of faults
pub record IsAsStood {D : Type 0} (told : D → Option (List ℕ)) (may_leave : D → List ℕ → Type 0) (moment : D → ℕ) (there disk : D) : Type 0 where
  pub tells : told there ≡ told disk
  pub leaves : (c : List ℕ) → may_leave disk c → may_leave there c
  pub moment_is : moment there ≡ moment disk

abbrev pub StandsAs : {D : Type 0} → (D → Option (List ℕ)) → (D → List ℕ → Type 0) → (D → ℕ) → Option (Option D) → D → Type 0
StandsAs told may_leave moment None disk = Unit {0}
StandsAs told may_leave moment (Some None) disk = ⊥
StandsAs told may_leave moment (Some (Some there)) disk = IsAsStood told may_leave moment there disk

-- ---- what a crash leaves

-- payloads whose last one was in flight stand for the log, or for an entry more, and are opened
abbrev pub FlownOpen : Opened → List LogEntry → List ℕ → List (List ℕ) → Type 0
FlownOpen o log p ps = StandFlown o log p ps × Opens o.state.limits ps

-- the bytes are what might have been left before; or a new journal is being made, and they are no more than it has
abbrev pub IsEarlier : (List ℕ → Type 0) → Option (List ℕ) → List ℕ → Type 0
IsEarlier before journal c = before c ⊎ ((journal ≡ Some []) × (length c ≤ 17))

-- A log that was opened, what it started from, what a run added to it, and how many checkpoints it made, over a journal that had these payloads; and the payload that was in flight when an append or a checkpoint failed, if one did.
pub record Grown : Type 0 where
  pub had : List (List ℕ)
  pub opened : Opened
  pub begun : List LogEntry
  pub added : List LogEntry
  pub bases : ℕ
  pub flying : Option (List ℕ)

-- how many bases there are more, by how many there were and are, where that is told
abbrev pub bases_between : Option ℕ → Option ℕ → ℕ
bases_between (Some before) (Some now) = now - before
bases_between (Some before) None = 0
bases_between None now = 0

-- payloads go on from those that there were, stand for all that was there, and a front of what was added, and are opened; they have no more bases than were made, and where they have none more, the front's entries are all that stands behind those that there were
pub record AreOnTheWay (g : Grown) (ps : List (List ℕ)) : Type 0 where
  pub goes_on : GoOn g.had ps
  pub count : ℕ
  pub within : count ≤ length g.added
  pub stand : StandFor g.opened (g.begun ++ take count g.added) ps
  pub opens : Opens g.opened.state.limits ps
  pub few : base_count ps ≤ base_count g.had + g.bases
  pub plain : base_count ps ≡ base_count g.had → ps ≡ g.had ++ spellings (take count g.added)

-- payloads go on from those that there were, and stand for all that was there and all that was added; they have a base more for each checkpoint, and where none was made, what was added is all that stands behind those that there were
pub record AreAll (g : Grown) (ps : List (List ℕ)) : Type 0 where
  pub goes_on : GoOn g.had ps
  pub stand : StandFor g.opened (g.begun ++ g.added) ps
  pub count : base_count ps ≡ base_count g.had + g.bases
  pub plain : g.bases ≡ 0 → ps ≡ g.had ++ spellings g.added

-- behind such as stand for all stands the one in flight, and with it they do too, or stand for an entry more, and are opened
abbrev pub AreFlown : Grown → Option (List ℕ) → List (List ℕ) → Type 0
AreFlown g None ps = ⊥
AreFlown g (Some p) ps = (qs : List (List ℕ)) × (ps ≡ qs ++ p ∷ []) × AreAll g qs × FlownOpen g.opened (g.begun ++ g.added) p ps

-- they recover to these, or to those
abbrev pub IsOnTheWay : Grown → List ℕ → Type 0
IsOnTheWay g c = (ps : List (List ℕ)) × (outcome c ≡ Some ps) × (AreOnTheWay g ps ⊎ AreFlown g g.flying ps)

-- they are what is read, or where an append failed, recover to the payloads, or to these and its own
abbrev pub EndsAt : List (List ℕ) → Option (List ℕ) → List ℕ → List ℕ → Type 0
EndsAt payloads None bytes c = c ≡ bytes
EndsAt payloads (Some p) bytes c = WithOrWithout payloads p (outcome c)

-- payloads stand for all, are opened, and are so where the journal told what it had
pub record AreKept (journal : Option (List ℕ)) (g : Grown) (payloads : List (List ℕ)) : Type 0 where
  pub stand : StandFor g.opened (g.begun ++ g.added) payloads
  pub opens : Opens g.opened.state.limits payloads
  pub all : IfSome journal (λ bytes. AreAll g payloads)

-- at the end it leaves the payloads that the journal has, which are kept so; with the one in flight they stand for as much, or for an entry more, and are opened too
pub record EndsSo (journal : Option (List ℕ)) (images : Images) (g : Grown) (bytes : List ℕ) : Type 0 where
  pub payloads : List (List ℕ)
  pub are : AreKept journal g payloads
  pub flown : IfSome g.flying (λ p. FlownOpen g.opened (g.begun ++ g.added) p (payloads ++ p ∷ []))
  pub holds : Holds payloads g.flying bytes
  pub ends : (c : List ℕ) → images.after c → EndsAt payloads g.flying bytes c

-- What a crash leaves of a journal. At the end all that was there and all that was added; at each moment of the run all that was there and some front of what was added, or what one might have left before the run, or no more than a new journal has. What is left at the end is opened again, and so is what is left at a moment, but for what one might have left before and for a new journal that isn't whole, of which that isn't said. Where an append or a checkpoint failed its payload counts as the last, which a crash may leave or not.
pub record Survives (journal left : Option (List ℕ)) (images : Images) (g : Grown) : Type 0 where
  pub at_the_end : IfSome left (EndsSo journal images g)
  pub at_any_moment : IfSome journal (λ bytes. IfSome left (λ now. (c : List ℕ) → images.since c → IsEarlier images.before journal c ⊎ IsOnTheWay g c))

-- A crash at any moment of a run that adds nothing leaves what one might have left before it, or bytes that stand for what the journal did.
abbrev pub Spared : Option (List ℕ) → Option (List ℕ) → Images → Type 0
Spared journal left images = IfSome journal (λ bytes. IfSome left (λ now. (c : List ℕ) → images.since c → IsEarlier images.before journal c ⊎ (recovered c ≡ recovered bytes)))

-- The bytes before and those that are left are so, and a crash at any moment of the run leaves what one might have left before it, or no more than a new journal has where there were no bytes.
abbrev pub LeavesSo : (List ℕ → List ℕ → Type 0) → Option (List ℕ) → Option (List ℕ) → Images → Type 0
LeavesSo are journal left images = IfSome journal (λ before. IfSome left (λ now. are before now × ((c : List ℕ) → images.since c → IsEarlier images.before journal c)))

-- Nothing was written, but a new journal where there were no bytes: the bytes are as they were, or those of a new journal, and so a crash leaves them.
abbrev pub Unspoiled : Option (List ℕ) → Option (List ℕ) → Images → Type 0
Unspoiled journal left images = LeavesSo IsUntouched journal left images

-- Nothing was written, but maybe a part of a new journal where there were no bytes: the bytes are as they were, or there were none, and they are no more than a new journal has, and so a crash leaves them.
abbrev pub Unwritten : Option (List ℕ) → Option (List ℕ) → Images → Type 0
Unwritten journal left images = LeavesSo IsUnwritten journal left images

-- ---- on a store, while its keeper is watched

-- the payloads that the bytes have
abbrev pub had_in : Option (List ℕ) → List (List ℕ)
had_in None = []
had_in (Some bytes) = payloads bytes

-- a disk is watched from here on
pub record IsBegun (since : ℕ) (had : List (List ℕ)) (early : List ℕ → Type 0) (told : Option (List ℕ)) (moment : ℕ) (may_leave : List ℕ → Type 0) : Type 0 where
  pub since_is : since ≡ moment
  pub had_is : had ≡ had_in told
  pub early_from : (c : List ℕ) → IsEarlier may_leave told c → early c
  pub early_to : (c : List ℕ) → early c → IsEarlier may_leave told c

-- what a crash might have left of a disk since a moment, or might leave once a journal is opened there
abbrev pub past_of : (List ℕ → Type 0) → (ℕ → List ℕ → Type 0) → Option (List ℕ) → ℕ → List ℕ → Type 0
past_of may_leave left_since told t c = left_since t c ⊎ IsEarlier may_leave told c

-- the bytes that a disk has once a journal is opened there, where it tells its own
abbrev pub began_of : Option (List ℕ) → List ℕ → Type 0
began_of told c = IfSome told (λ bytes. IsUntouched bytes c)

-- the format that its journal has then
abbrev pub shape_of : Option (List ℕ) → ℕ → Type 0
shape_of told n = IfSome told (λ bytes. n ≡ opened_format bytes)

-- the bytes of a disk, how many payloads they have, and their format are known from here on
pub record IsStoodOn (since count : ℕ) (past : ℕ → List ℕ → Type 0) (began : List ℕ → Type 0) (shape : ℕ → Type 0) (told : Option (List ℕ)) (moment : ℕ) (may_leave : List ℕ → Type 0) (left_since : ℕ → List ℕ → Type 0) : Type 0 where
  pub since_is : since ≡ moment
  pub count_is : count ≡ length (had_in told)
  pub past_from : (t : ℕ) (c : List ℕ) → past_of may_leave left_since told t c → past t c
  pub past_to : (t : ℕ) (c : List ℕ) → past t c → past_of may_leave left_since told t c
  pub began_from : (c : List ℕ) → began_of told c → began c
  pub began_to : (c : List ℕ) → began c → began_of told c
  pub shape_from : (n : ℕ) → shape_of told n → shape n
  pub shape_to : (n : ℕ) → shape n → shape_of told n

-- the bytes hold a legal log that a keeper of these payloads keeps, which go on from those that there were, and are opened; and what a crash leaves of it, and might have left since a moment
pub record LeavesLog (since : ℕ) (had : List (List ℕ)) (early may_leave : List ℕ → Type 0) (left_since : ℕ → List ℕ → Type 0) (o : Opened) (log : List LogEntry) (kept : Option (List (List ℕ))) (flying : Option (List ℕ)) (bytes : List ℕ) : Type 0 where
  pub payloads : List (List ℕ)
  pub are : kept ≡ Some payloads
  pub goes_on : GoOn had payloads
  pub stand : StandThrough o log payloads
  pub opens : OpenThrough o payloads
  pub legal : IsLegalFrom o log
  pub flown : IfSome flying (λ p. FlownOpen o log p (payloads ++ p ∷ []))
  pub holds : Holds payloads flying bytes
  pub last : (c : List ℕ) → may_leave c → EndsAt payloads flying bytes c
  pub each : (c : List ℕ) → left_since since c → early c ⊎ IsFrontOf (length had) (with_flying payloads flying) (outcome c)

-- so it is of the disk of a store, by how its keeper stands
abbrev pub KeepsThrough : {K : Type 0} → ℕ → List (List ℕ) → (List ℕ → Type 0) → (List ℕ → Type 0) → (ℕ → List ℕ → Type 0) → (K → Option (List (List ℕ))) → (K → Option (List ℕ)) → K → Opened → Book → Option (List ℕ) → Type 0
KeepsThrough since had early may_leave left_since kept in_flight keeper o book told =
    IfSome told (LeavesLog since had early may_leave left_since o (reverse book.log) (kept keeper) (in_flight keeper))
