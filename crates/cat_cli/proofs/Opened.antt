-- What a journal that was opened, or wasn't, says of its disk.
use Rattle.std.proofs.Common.{◌≡◌, ◌⊎◌, ℕ, ◌<◌, ◌≤◌, List, [], ◌∷◌, length, Option, Some, None, IfSome, true, false, Ok, Err, refl, sym, ◌∙◌, ap, subst, inl, inr, ⊎_elim, arith}
use Rattle.std.specs.Option.{option_map}
use Rattle.cat_io.specs.Causes.{Rose, raised_by}
use Rattle.cat_io.specs.Crashes.{Told}
use Rattle.cat_io.specs.Places.{IsHanded, stood, taken}
use Rattle.cat_frames.specs.Bases.{opened_by}
use Rattle.cat_keeper.specs.Bases.{base_of}
use Rattle.cat_core.specs.declared.opening.StoreFault.{StoreFault}
use Rattle.cat_core.specs.declared.opening.StoreFault.TheVariants as store_faults
use Rattle.cat_core.specs.Opening.{IsIllegalAt, IsLedTo, led_by}
use Rattle.cat_journal.specs.declared.fault.OpenFault.{OpenFault}
use Rattle.cat_journal.specs.declared.fault.OpenFault.TheVariants as faults
use Rattle.cat_journal.specs.Frames.{new_journal, recovered}
use Rattle.cat_journal.specs.Reading.{IsFaultOf}
use Rattle.cat_model.specs.declared.limits.Limits.{Limits}
use Rattle.cat_model.specs.Book.{Book}
use Rattle.cat_model.specs.Limits.{program_limits}
use Rattle.cat_model.specs.Turns.{Opened}
use Rattle.cat_cli.specs.declared.status.Status.{Status}
use Rattle.cat_cli.specs.declared.status.Status.TheVariants as statuses
use Rattle.cat_cli.specs.declared.unopened.Unopened.{Unopened}
use Rattle.cat_cli.specs.declared.unopened.Unopened.TheVariants as whys
use Rattle.cat_cli.specs.Journals.{Begins, DisksFell, IsBack, RoseBy, StandsFor, TellsAs, told_at}
use Rattle.cat_cli.specs.Opening.{FaultKnown, FaultTold, IsReason, IsStored, Refused, RefusedKnown, by_journal, by_store, is_unreadable}
use Rattle.cat_cli.specs.Runs.{CountedBy, Refuses, Seen, UnmigratedBy, UnspoiledBy, spares_disks}
use Rattle.cat_cli.specs.Surviving.{Images, Spared, Unspoiled, Unwritten}
use Rattle.cat_serve.proofs.Told.{some_is, not_none}

-- ---- counts of faults

-- a count that rose from 0 isn't 0
pub rose_first : (fresh now : ℕ) → fresh ≡ 0 → Rose fresh now → 0 < now
rose_first fresh now is rose = omega (arith, is, rose)

-- a disk was given back that had counted a fault
rose_more : (before mid now more : ℕ) → mid ≡ before → now ≡ raised_by more mid → 0 < more → Rose before now
rose_more before mid now more is by some = omega (arith, is, by, some)

-- one whose count is this one
rose_by : (before mid now kept count : ℕ) → mid ≡ before → now ≡ raised_by kept mid → 0 < count → count ≡ kept → RoseBy before now count
rose_by before mid now kept count is by some same =
    let so : raised_by kept mid ≡ raised_by count before = (λ i. raised_by (sym same i) (is i)) in
    record { counted = some; rose = by ∙ so }

-- an append failed at this count, on a disk that had counted no fault
pub counted_by : (began kept most count : ℕ) → began ≡ 0 → most ≡ kept → Rose began count × (count ≡ kept) → CountedBy most count
counted_by began kept most count fresh is rose = (rose_first began count fresh rose.0, rose.1 ∙ sym is)

pub rose_there : (before mid now most count : ℕ) → mid ≡ before → now ≡ raised_by most mid → CountedBy most count → RoseBy before now count
rose_there before mid now most count is by counted = rose_by before mid now most count is by counted.0 counted.1

-- ---- bytes, and the payloads that they recover to

-- the bytes recover to the payloads that are told
pub recovers : (told : Option (List ℕ)) (ps : Option (List (List ℕ))) (payloads : List (List ℕ)) → Told told ps (λ bytes l. recovered bytes ≡ Ok l) → IfSome ps (λ l. l ≡ payloads)
    → IfSome told (λ bytes. recovered bytes ≡ Ok payloads)
recovers None ps payloads t are = tt
recovers (Some bytes) None payloads t are = absurd t
recovers (Some bytes) (Some l) payloads t are = t ∙ ap (λ (x : List (List ℕ)). Ok x) are

-- what was opened and given back stands for what it did
pub stands_through : (told : Option (List ℕ)) (ps : Option (List (List ℕ))) (after : Option (List ℕ)) → Told told ps (λ bytes l. recovered bytes ≡ Ok l) → Told ps after (λ l bytes. recovered bytes ≡ Ok l)
    → StandsFor told after
stands_through None ps after a b before now e f = absurd (not_none before e)
stands_through (Some x) None after a b before now e f = absurd a
stands_through (Some x) (Some l) None a b before now e f = absurd b
stands_through (Some x) (Some l) (Some y) a b before now e f = inl (ap recovered (sym (some_is y now f)) ∙ b ∙ sym a ∙ ap recovered (some_is x before e))

-- and so does what wasn't written, or had no bytes
pub stands_unwritten : (told after : Option (List ℕ)) (P : Type 0) → IfSome told (λ bytes. 0 < length bytes → P) → (P → Told told after (λ a b. b ≡ a))
    → Told told after (λ a b. a ≡ [] → length b ≤ length new_journal) → StandsFor told after
stands_unwritten None after P h same few before now e f = absurd (not_none before e)
stands_unwritten (Some x) None P h same few before now e f = absurd (not_none now f)
stands_unwritten (Some []) (Some y) P h same few before now e f =
    inr (sym (some_is [] before e), subst (λ (l : List ℕ). length l ≤ length new_journal) (some_is y now f) (few refl))
stands_unwritten (Some (x ∷ xs)) (Some y) P h same few before now e f =
    let is : y ≡ x ∷ xs = same (h (omega arith)) in
    inl (ap recovered (sym (some_is y now f) ∙ is ∙ some_is (x ∷ xs) before e))

pub stands_untouched : (told : Option (List ℕ)) → StandsFor told told
stands_untouched told before now e f = inl (ap recovered (some_is now before (sym f ∙ e)))

-- ---- why a journal isn't opened

pub reason_of_bytes : (told after : Option (List ℕ)) (fault : OpenFault) → Told told after (λ before now. IsFaultOf before fault) → IsReason told (by_journal fault)
reason_of_bytes told after faults.Fault t is = absurd cc
reason_of_bytes told after faults.NoMemory t is = absurd cc
reason_of_bytes None after (faults.Version n) t is = tt
reason_of_bytes (Some x) None (faults.Version n) t is = absurd t
reason_of_bytes (Some x) (Some y) (faults.Version n) t is = t
reason_of_bytes None after (faults.Damaged o) t is = tt
reason_of_bytes (Some x) None (faults.Damaged o) t is = absurd t
reason_of_bytes (Some x) (Some y) (faults.Damaged o) t is = t

pub reason_of_entries : (told : Option (List ℕ)) (ps : Option (List (List ℕ))) (limits : Limits) (fault : StoreFault) → limits ≡ program_limits → Told told ps (λ bytes l. recovered bytes ≡ Ok l)
    → ((place : ℕ) → fault ≡ store_faults.Illegal place → IsIllegalAt ps limits place) → IsReason told (by_store fault)
reason_of_entries told ps limits store_faults.Fault program t illegal is = absurd cc
reason_of_entries told ps limits store_faults.NoMemory program t illegal is = absurd cc
reason_of_entries told ps limits (store_faults.Illegal place) program t illegal is =
    let i = illegal place refl in
    record {
      payloads = i.payloads;
      recovers = recovers told ps i.payloads t i.are;
      refused = subst (λ (l : Limits). led_by l i.payloads ≡ Err place) program i.refused;
    }

-- less is told
reason_untold : (told : Option (List ℕ)) (why : Unopened) → IsReason told why → IsReason None why
reason_untold told whys.Fault r is = r is
reason_untold told whys.NoMemory r is = r is
reason_untold told (whys.Version n) r is = tt
reason_untold told (whys.Damaged o) r is = tt
reason_untold told (whys.Illegal p) r is = let i = r is in record { payloads = i.payloads; recovers = tt; refused = i.refused }

pub journal_failed : (fault : OpenFault) → by_journal fault ≡ whys.Fault → fault ≡ faults.Fault
journal_failed faults.Fault e = refl
journal_failed faults.NoMemory e = cc
journal_failed (faults.Version n) e = cc
journal_failed (faults.Damaged o) e = cc

pub store_failed : (fault : StoreFault) → by_store fault ≡ whys.Fault → fault ≡ store_faults.Fault
store_failed store_faults.Fault e = refl
store_failed store_faults.NoMemory e = cc
store_failed (store_faults.Illegal p) e = cc

pub journal_spared : (fault : OpenFault) → (by_journal fault ≡ whys.Fault → ⊥) → fault ≡ faults.Fault → ⊥
journal_spared _ other is = other (ap by_journal is)

pub store_spared : (fault : StoreFault) → (by_store fault ≡ whys.Fault → ⊥) → fault ≡ store_faults.Fault → ⊥
store_spared _ other is = other (ap by_store is)

-- a disk's fault is one of the reasons
refused_fault : (w h : List ℕ) (status : Status) (before now : ℕ) → FaultTold w status h before now → Refused whys.Fault w status h before now
refused_fault w h statuses.DiskFault before now p = (refl, p)
refused_fault w h statuses.WriteFault before now p = (refl, p)
refused_fault w h statuses.Done before now p = absurd p
refused_fault w h statuses.Usage before now p = absurd p
refused_fault w h statuses.Unreadable before now p = absurd p
refused_fault w h statuses.NoMemory before now p = absurd p
refused_fault w h statuses.ReadFault before now p = absurd p
refused_fault w h statuses.ListenerFault before now p = absurd p
refused_fault w h statuses.Cut before now p = absurd p
refused_fault w h statuses.Limit before now p = absurd p

pub refused_known : (held after : Option (List ℕ)) (status : Status) (before now : ℕ) → FaultKnown held status after before now → RefusedKnown whys.Fault held status after before now
refused_known held after status before now told w e = let x = told w e in (x.0, x.1, refused_fault w x.0 status before now x.2)

-- a fault is told, or a write of that failed
abbrev pub EndsAtFault : Unopened → Status → Type 0
EndsAtFault why status = why ≡ whys.Fault → (status ≡ statuses.DiskFault) ⊎ (status ≡ statuses.WriteFault)

pub no_fault : (why : Unopened) → is_unreadable why ≡ true → why ≡ whys.Fault → ⊥
no_fault whys.Fault is fault = cc
no_fault whys.NoMemory is fault = cc
no_fault (whys.Version n) is fault = cc
no_fault (whys.Damaged o) is fault = cc
no_fault (whys.Illegal p) is fault = cc

clash : false ≡ true → ⊥
clash e = cc

memory_is_no_fault : statuses.NoMemory ≡ statuses.DiskFault → ⊥
memory_is_no_fault is = cc

memory_is_no_write : statuses.NoMemory ≡ statuses.WriteFault → ⊥
memory_is_no_write is = cc

-- what the run says then
refuses : (fell level : Type 0) (s : Seen) (why : Unopened) (status : Status) → IsReason s.journal why → (why ≡ whys.Fault → fell) → ((why ≡ whys.Fault → ⊥) → level) → EndsAtFault why status
    → Refused why s.written status s.held s.before s.now → Refuses fell level s status
refuses fell level s why statuses.DiskFault reason cause spares ends p = (cause p.0, p.1)
refuses fell level s why statuses.WriteFault reason cause spares ends p = (cause p.0, p.1)
refuses fell level s why statuses.Unreadable reason cause spares ends p = (spares (no_fault why p.0), why, reason p.0, p.1)
refuses fell level s why statuses.NoMemory reason cause spares ends p = (spares (λ is. ⊎_elim memory_is_no_fault memory_is_no_write (ends is)), p)
refuses fell level s why statuses.Done reason cause spares ends p = absurd p
refuses fell level s why statuses.Usage reason cause spares ends p = absurd p
refuses fell level s why statuses.ReadFault reason cause spares ends p = absurd p
refuses fell level s why statuses.ListenerFault reason cause spares ends p = absurd p
refuses fell level s why statuses.Cut reason cause spares ends p = absurd p
refuses fell level s why statuses.Limit reason cause spares ends p = absurd p

-- nothing was written, unless a fault of the disk's is the reason
unreadable_ends : (status : Status) → status ≡ statuses.Unreadable → (status ≡ statuses.DiskFault) ⊎ (status ≡ statuses.WriteFault) → ⊥
unreadable_ends status is (inl e) = let wrong : statuses.Unreadable ≡ statuses.DiskFault = sym is ∙ e in absurd cc
unreadable_ends status is (inr e) = let wrong : statuses.Unreadable ≡ statuses.WriteFault = sym is ∙ e in absurd cc

pub unmigrated_by : (journal left : Option (List ℕ)) (images : Images) (why : Unopened) (status : Status) → EndsAtFault why status → ((why ≡ whys.Fault → ⊥) → Unspoiled journal left images) → UnmigratedBy journal left images status
unmigrated_by journal left images why statuses.Unreadable ends same = same (λ is. unreadable_ends statuses.Unreadable refl (ends is))
unmigrated_by journal left images why statuses.NoMemory ends same = same (λ is. ⊎_elim memory_is_no_fault memory_is_no_write (ends is))
unmigrated_by journal left images why statuses.DiskFault ends same = tt
unmigrated_by journal left images why statuses.WriteFault ends same = tt
unmigrated_by journal left images why statuses.Done ends same = tt
unmigrated_by journal left images why statuses.Usage ends same = tt
unmigrated_by journal left images why statuses.ReadFault ends same = tt
unmigrated_by journal left images why statuses.ListenerFault ends same = tt
unmigrated_by journal left images why statuses.Cut ends same = tt
unmigrated_by journal left images why statuses.Limit ends same = tt

-- or no more than a part of a new journal was
pub unspoiled_by : (journal left : Option (List ℕ)) (images : Images) (why : Unopened) (status : Status) → EndsAtFault why status → ((why ≡ whys.Fault → ⊥) → Unspoiled journal left images) → Unwritten journal left images → UnspoiledBy journal left images status
unspoiled_by journal left images why statuses.Unreadable ends same few = same (λ is. unreadable_ends statuses.Unreadable refl (ends is))
unspoiled_by journal left images why statuses.NoMemory ends same few = same (λ is. ⊎_elim memory_is_no_fault memory_is_no_write (ends is))
unspoiled_by journal left images why statuses.DiskFault ends same few = few
unspoiled_by journal left images why statuses.WriteFault ends same few = few
unspoiled_by journal left images why statuses.Done ends same few = few
unspoiled_by journal left images why statuses.Usage ends same few = few
unspoiled_by journal left images why statuses.ReadFault ends same few = few
unspoiled_by journal left images why statuses.ListenerFault ends same few = few
unspoiled_by journal left images why statuses.Cut ends same few = few
unspoiled_by journal left images why statuses.Limit ends same few = few

-- with what is so of the bytes
abbrev pub RefusesWith : Type 0 → Type 0 → Type 0 → Seen → Status → Type 0
RefusesWith so fell level s status = Refuses fell level s status × StandsFor s.journal s.left × Spared s.journal s.left s.images × so

pub refuses_known : (fell level so : Type 0) (why : Unopened) (status : Status) (held after journal left : Option (List ℕ)) (images : Images) (before now : ℕ) (w : List ℕ)
    → IsReason journal why → (why ≡ whys.Fault → fell) → ((why ≡ whys.Fault → ⊥) → level) → EndsAtFault why status → StandsFor journal left → Spared journal left images → so → RefusedKnown why held status after before now → held ≡ Some w
    → (h : List ℕ) × (after ≡ Some h) × RefusesWith so fell level (record { written = w; held = h; before = before; now = now; journal = journal; left = left; images = images }) status
refuses_known fell level so why status held after journal left images before now w reason cause spares ends stands spared same told e =
    let x = told w e in
    let s : Seen = record { written = w; held = x.0; before = before; now = now; journal = journal; left = left; images = images } in
    (x.0, x.1, (refuses fell level s why status reason cause spares ends x.2, stands, spared, same))

spares_fault : (status : Status) → spares_disks status ≡ true → status ≡ statuses.DiskFault → ⊥
spares_fault status is e = let no : false ≡ true = subst (λ (st : Status). spares_disks st ≡ true) e is in clash no

spares_write : (status : Status) → spares_disks status ≡ true → status ≡ statuses.WriteFault → ⊥
spares_write status is e = let no : false ≡ true = subst (λ (st : Status). spares_disks st ≡ true) e is in clash no

-- a status that spares the disks comes of no fault of theirs
pub spares : (why : Unopened) (status : Status) → EndsAtFault why status → spares_disks status ≡ true → why ≡ whys.Fault → ⊥
spares why status ends is fault = ⊎_elim (spares_fault status is) (spares_write status is) (ends fault)

-- ---- the store that is opened

-- the payloads that there were, where they are told
had_by : (told : Option (List ℕ)) (ps : Option (List (List ℕ))) (payloads : List (List ℕ)) → Told told ps (λ bytes l. recovered bytes ≡ Ok l) → IfSome ps (λ l. l ≡ payloads) → Told told ps (λ bytes l. l ≡ payloads)
had_by None None payloads t are = tt
had_by None (Some l) payloads t are = absurd t
had_by (Some bytes) None payloads t are = absurd t
had_by (Some bytes) (Some l) payloads t are = are

-- as many as there were
total_of : (told : Option (List ℕ)) (ps : Option (List (List ℕ))) (n : ℕ) (payloads : List (List ℕ)) → Told told ps (λ bytes l. recovered bytes ≡ Ok l) → IfSome ps (λ l. n ≡ length l) → IfSome ps (λ l. l ≡ payloads) → IfSome told (λ bytes. n ≡ length payloads)
total_of None ps n payloads t total are = tt
total_of (Some bytes) None n payloads t total are = absurd t
total_of (Some bytes) (Some l) n payloads t total are = total ∙ ap length are

pub stored : (told : Option (List ℕ)) (ps now : Option (List (List ℕ))) (kept : ℕ) (limits : Limits) (o : Opened) (book : Book) (down : Option ℕ)
    → limits ≡ program_limits → Told told ps (λ bytes l. recovered bytes ≡ Ok l) → IsLedTo ps kept limits o book → now ≡ ps → down ≡ None → IsStored told o book now down
stored told ps now kept limits o book down program t led same up = record {
  payloads = led.payloads;
  begins = record {
    recovers = recovers told ps led.payloads t led.are;
    total = total_of told ps o.payloads led.payloads t led.total led.are;
    opened = subst (λ (l : Limits). opened_by l o.payloads o.faults (base_of led.payloads) ≡ Some o) program led.begins;
    starts = led.starts;
    led = led.led;
  };
  spelled = led.spelled;
  are = subst (λ (k : Option (List (List ℕ))). Told told k (λ bytes l. l ≡ led.payloads)) (sym same) (had_by told ps led.payloads t led.are);
  up = up;
}

-- ---- its disk

-- no append failed where nothing is in flight
pub none_down : {A B : Type 0} (p : B) (down : Option A) → option_map (λ (c : A). p) down ≡ None → down ≡ None
none_down p None idle = refl
none_down {A} {B} p (Some c) idle = let no : ◌≡◌ {A = Option B} (Some p) None = idle in cc

-- ---- the place of the disk

-- what is so of a disk's bytes is so of what its place tells
pub told_there : {D : Type 0} (told : D → Option (List ℕ)) (place : Option (Option D)) (disk : D) (P : List ℕ → Type 0) → TellsAs told place disk → IfSome (told disk) P → IfSome (told_at told place) P
told_there told None disk P is p = tt
told_there told (Some None) disk P is p = absurd is
told_there told (Some (Some d)) disk P is p = subst (λ (t : Option (List ℕ)). IfSome t P) (sym is) p

module _ {D : Type 0} (told : D → Option (List ℕ)) where
  none_stands : (disk : D) → ◌≡◌ {A = Option D} None (Some disk) → ⊥
  none_stands disk e = cc

  stood_is : (a b : D) → ◌≡◌ {A = Option D} (Some a) (Some b) → a ≡ b
  stood_is a b e = cc

  -- a disk that was handed out tells what the one at its path did
  pub tells_as : (handed : D → D) → ((d : D) → told (handed d) ≡ told d) → (place : Option (Option D)) (disk : D) → IfSome place (IsHanded handed disk) → TellsAs told place disk
  tells_as handed tells None disk is = tt
  tells_as handed tells (Some None) disk is = absurd (none_stands is.0 is.1)
  tells_as handed tells (Some (Some d)) disk is = ap told (stood_is d is.0 is.1) ∙ sym (tells is.0) ∙ ap told (sym is.2)

  -- what a disk at a path tells, as far as the disks tell
  pub reason_at : (place : Option (Option D)) (disk : D) (why : Unopened) → TellsAs told place disk → IsReason (told disk) why → IsReason (told_at told place) why
  reason_at None disk why is r = reason_untold (told disk) why r
  reason_at (Some None) disk why is r = absurd is
  reason_at (Some (Some d)) disk why is r = subst (λ (t : Option (List ℕ)). IsReason t why) (sym is) r

  stands_at : (place : Option (Option D)) (disk again : D) → TellsAs told place disk → StandsFor (told disk) (told again) → StandsFor (told_at told place) (told_at told (stood again (taken place)))
  stands_at None disk again is s before now e f = absurd (not_none before e)
  stands_at (Some None) disk again is s before now e f = absurd is
  stands_at (Some (Some d)) disk again is s before now e f = subst (λ (t : Option (List ℕ)). StandsFor t (told again)) (sym is) s before now e f

  pub begins_at : (place : Option (Option D)) (disk : D) (payloads : List (List ℕ)) (o : Opened) (book : Book) → TellsAs told place disk → Begins (told disk) payloads o book → Begins (told_at told place) payloads o book
  begins_at None disk payloads o book is b = record { recovers = tt; total = tt; opened = b.opened; starts = b.starts; led = b.led }
  begins_at (Some None) disk payloads o book is b = absurd is
  begins_at (Some (Some d)) disk payloads o book is b = subst (λ (t : Option (List ℕ)). Begins t payloads o book) (sym is) b

  -- and what stands there once a disk was given back
  pub left_at : (place : Option (Option D)) (again : D) (P : List ℕ → Type 0) → IfSome (told again) P → IfSome (told_at told (stood again (taken place))) P
  left_at None again P p = tt
  left_at (Some place) again P p = p

  is_back : (place : Option (Option D)) (disk again : D) → TellsAs told place disk → IsBack place (stood again (taken place))
  is_back None disk again is = refl
  is_back (Some None) disk again is = absurd is
  is_back (Some (Some d)) disk again is = (again, refl)

  -- the disk was taken from its path, and given back there
  pub stands_back : (place mid place' : Option (Option D)) (disk again : D) → TellsAs told place disk → mid ≡ taken place → place' ≡ stood again mid → StandsFor (told disk) (told again) → StandsFor (told_at told place) (told_at told place')
  stands_back place mid place' disk again is out back s =
      subst (λ (q : Option (Option D)). StandsFor (told_at told place) (told_at told q)) (sym (back ∙ ap (stood again) out)) (stands_at place disk again is s)

  pub back_again : (place mid place' : Option (Option D)) (disk again : D) → TellsAs told place disk → mid ≡ taken place → place' ≡ stood again mid → IsBack place place'
  back_again place mid place' disk again is out back = subst (λ (q : Option (Option D)). IsBack place q) (sym (back ∙ ap (stood again) out)) (is_back place disk again is)

module _ {D : Type 0} where
  pub is_back_untouched : (place : Option (Option D)) → IsBack place place
  is_back_untouched None = refl
  is_back_untouched (Some None) = refl
  is_back_untouched (Some (Some d)) = (d, refl)

  is_there : (place : Option (Option D)) (again : D) → IfSome (stood again (taken place)) (λ p. p ≡ Some again)
  is_there None again = tt
  is_there (Some place) again = refl

  -- the disk of a path failed, and was given back
  pub disk_fell : (refused : Type 0) (faults : D → ℕ) (place mid place' : Option (Option D)) (again : D) (before opened now count : ℕ) → mid ≡ taken place → place' ≡ stood again mid → faults again ≡ count
      → opened ≡ before → now ≡ raised_by count opened → 0 < count → DisksFell refused faults place' before now
  disk_fell refused faults place mid place' again before opened now count out back counted level rises some = record {
    rose = rose_more before opened now count level rises some;
    cause = inr (record {
      again = again;
      is = subst (λ (q : Option (Option D)). IfSome q (λ p. p ≡ Some again)) (sym (back ∙ ap (stood again) out)) (is_there place again);
      counted = subst (λ (n : ℕ). 0 < n) (sym counted) some;
    });
  }
