-- A journal that was opened, counted and given back.
use Rattle.std.proofs.Common.{◌≡◌, ℕ, List, ◌++◌, reverse, Option, Some, None, IfSome, Ok, sym, ◌∙◌, ap, subst, inl}
use Rattle.cat_io.specs.Crashes.{Told}
use Rattle.cat_io.specs.Places.{stood, taken}
use Rattle.cat_core.specs.Stored.{Stored}
use Rattle.cat_journal.specs.Frames.{recovered}
use Rattle.cat_model.specs.declared.log_entry.LogEntry.{LogEntry}
use Rattle.cat_model.specs.Book.{Book}
use Rattle.cat_model.specs.Turns.{Opened}
use Rattle.cat_cli.specs.declared.status.Status.{Status}
use Rattle.cat_cli.specs.declared.status.Status.TheVariants as statuses
use Rattle.cat_cli.specs.Journals.{Begins, IsJournalOf, StandsFor, told_at}
use Rattle.cat_cli.specs.Lines.{check_line}
use Rattle.cat_cli.specs.Opening.{Counted, CountedKnown, IsStored}
use Rattle.cat_cli.specs.Runs.{Checks, ChecksKnown, Opens, OpensStill, Seen}
use Rattle.cat_cli.specs.Surviving.{IsBegun, IsStoodOn, KeepsThrough, LeavesLog, Spared, StandsAs, Unspoiled, Unwritten, images_at, images_of}
use Rattle.cat_cli.specs.Unadded.{IsStillSo}
use Rattle.cat_cli.proofs.Opened.{begins_at, left_at}
use Rattle.cat_cli.proofs.Placed.{ended_at, spared_at, tells_of}
use Rattle.cat_cli.proofs.Surviving.{spared_counting}
use Rattle.cat_cli.proofs.Unspoiled.{are_left, let_go, unspoiled_back, unwritten_of}
use Rattle.cat_serve.proofs.Told.{some_is, not_none}

stands_both : (told after : Option (List ℕ)) (payloads : List (List ℕ)) → IfSome told (λ bytes. recovered bytes ≡ Ok payloads) → IfSome after (IsJournalOf payloads) → StandsFor told after
stands_both None after payloads a b before now e f = absurd (not_none before e)
stands_both (Some x) None payloads a b before now e f = absurd (not_none now f)
stands_both (Some x) (Some y) payloads a b before now e f = inl (ap recovered (sym (some_is y now f)) ∙ b.0 ∙ sym a ∙ ap recovered (some_is x before e))

-- the disk was given back with the payloads that it had
module _ {D : Type 0} (told : D → Option (List ℕ)) (may_leave : D → List ℕ → Type 0) (moment : D → ℕ) (left_since : D → ℕ → List ℕ → Type 0) (since : ℕ) (had : List (List ℕ)) (early : List ℕ → Type 0) (disk again : D)
    (o : Opened) (log : List LogEntry) (kept : Option (List (List ℕ))) (payloads : List (List ℕ)) (book : Book) (begins : Begins (told disk) payloads o book) (begun : IsBegun since had early (told disk) (moment disk) (may_leave disk)) where
  abbrev pub LeftAt : Option (List ℕ) → Type 0
  LeftAt t = IfSome t (LeavesLog since had early (may_leave again) (left_since again) o log kept None)

  abbrev pub AreAt : Option (List ℕ) → Type 0
  AreAt t = IfSome t (λ bytes. IfSome kept (λ l. l ≡ payloads))

  is_journal : (t : Option (List ℕ)) → LeftAt t → AreAt t → IfSome t (IsJournalOf payloads)
  is_journal None left are = tt
  is_journal (Some bytes) left are =
      let same : left.payloads ≡ payloads = subst (λ (k : Option (List (List ℕ))). IfSome k (λ l. l ≡ payloads)) left.are are in
      subst (λ (l : List (List ℕ)). IsJournalOf l bytes) same left.holds

  ends : (t : Option (List ℕ)) → LeftAt t → IfSome t (λ bytes. (c : List ℕ) → may_leave again c → c ≡ bytes)
  ends None left = tt
  ends (Some bytes) left = left.last

  pub opens_so : LeftAt (told again) → AreAt (told again) → Opens (told disk) (told again) (images_of may_leave moment left_since disk again) book
  opens_so left are = record {
    payloads = payloads;
    opened = o;
    begins = begins;
    keeps = is_journal (told again) left are;
    ends = ends (told again) left;
    crash = spared_counting since had early (moment disk) (may_leave disk) (may_leave again) (left_since again) o log kept (told disk) (told again) payloads begun begins.recovers are left;
  }

are_kept : (journal left : Option (List ℕ)) (kept : Option (List (List ℕ))) (payloads : List (List ℕ)) → Told journal kept (λ bytes l. l ≡ payloads) → IfSome left (λ bytes. IfSome kept (λ l. l ≡ payloads))
are_kept journal None kept payloads are = tt
are_kept journal (Some now) None payloads are = tt
are_kept None (Some now) (Some l) payloads are = absurd are
are_kept (Some bytes) (Some now) (Some l) payloads are = are

module _ {D K : Type 0} (told : D → Option (List ℕ)) (may_leave : D → List ℕ → Type 0) (moment : D → ℕ) (left_since : D → ℕ → List ℕ → Type 0) (down : K → Option ℕ) (in_flight : K → Option (List ℕ))
    (kept : K → Option (List (List ℕ))) (since : ℕ) (had : List (List ℕ)) (early : List ℕ → Type 0) (disk again : D) (store : Stored K)
    (stored : IsStored (told disk) store.opened store.book (kept store.keeper) (down store.keeper)) (idle : in_flight store.keeper ≡ None)
    (begun : IsBegun since had early (told disk) (moment disk) (may_leave disk))
    (leaves : KeepsThrough since had early (may_leave again) (left_since again) kept in_flight store.keeper store.opened store.book (told again)) where
  abbrev Left : Option (List ℕ) → Type 0
  Left flying = IfSome (told again) (LeavesLog since had early (may_leave again) (left_since again) store.opened (reverse store.book.log) (kept store.keeper) flying)

  pub opens : Opens (told disk) (told again) (images_of may_leave moment left_since disk again) store.book
  opens =
      opens_so told may_leave moment left_since since had early disk again store.opened (reverse store.book.log) (kept store.keeper) stored.payloads store.book stored.begins begun (subst Left idle leaves)
      (are_kept (told disk) (told again) (kept store.keeper) stored.payloads stored.are)

  pub stands : StandsFor (told disk) (told again)
  unfolding opens opens_so
  stands = stands_both (told disk) (told again) stored.payloads stored.begins.recovers opens.keeps

  pub spared : Spared (told disk) (told again) (images_of may_leave moment left_since disk again)
  unfolding opens opens_so
  spared = opens.crash

-- and nothing was written: its keeper has the payloads that it was opened with
module _ {D K : Type 0} (told : D → Option (List ℕ)) (may_leave : D → List ℕ → Type 0) (moment : D → ℕ) (left_since : D → ℕ → List ℕ → Type 0) (only_now : (d : D) (c : List ℕ) → left_since d (moment d) c → may_leave d c) (image : (d : D) (c : List ℕ) → told d ≡ Some c → may_leave d c)
    (disk_of : K → D) (down : K → Option ℕ) (in_flight : K → Option (List ℕ)) (kept : K → Option (List (List ℕ))) (since : ℕ) (had : List (List ℕ)) (early : List ℕ → Type 0) (start count : ℕ) (past : ℕ → List ℕ → Type 0) (began : List ℕ → Type 0) (shape : ℕ → Type 0) (disk again : D) (store : Stored K)
    (stored : IsStored (told disk) store.opened store.book (kept store.keeper) (down store.keeper)) (idle : in_flight store.keeper ≡ None)
    (stood : IsStoodOn start count past began shape (told disk) (moment disk) (may_leave disk) (left_since disk))
    (leaves : KeepsThrough since had early (may_leave again) (left_since again) kept in_flight store.keeper store.opened store.book (told again)) (back : again ≡ disk_of store.keeper) where
  pub unspoiled : IfSome (kept store.keeper) (IsStillSo start count past began (in_flight store.keeper) (moment (disk_of store.keeper)) (may_leave (disk_of store.keeper)) (left_since (disk_of store.keeper)))
      → Unspoiled (told disk) (told again) (images_of may_leave moment left_since disk again)
  unspoiled still =
      let_go told may_leave moment left_since start count past began shape disk stood only_now image again (kept store.keeper) (in_flight store.keeper) idle
      (are_left since had early (may_leave again) (left_since again) store.opened (reverse store.book.log) (in_flight store.keeper) (told disk) (told again) (kept store.keeper) stored.payloads stored.begins.recovers leaves
      (are_kept (told disk) (told again) (kept store.keeper) stored.payloads stored.are))
      (subst (λ (d : D). IfSome (kept store.keeper) (IsStillSo start count past began (in_flight store.keeper) (moment d) (may_leave d) (left_since d))) (sym back) still)

  pub unwritten : IfSome (kept store.keeper) (IsStillSo start count past began (in_flight store.keeper) (moment (disk_of store.keeper)) (may_leave (disk_of store.keeper)) (left_since (disk_of store.keeper)))
      → Unwritten (told disk) (told again) (images_of may_leave moment left_since disk again)
  unwritten still = unwritten_of (told disk) (told again) (images_of may_leave moment left_since disk again) (unspoiled still)

-- by the status; the disks' count of faults is as it was
counts : (fell level : Type 0) (s : Seen) (book : Book) (line : List ℕ) (status : Status) → level → OpensStill s.journal s.left s.images book → line ≡ check_line book → Counted line s.written status s.held s.before s.now → Checks fell level s status
counts fell level s book line statuses.Done same opened is p = inl (book, opened, p ∙ ap (λ (l : List ℕ). s.written ++ l) is, same)
counts fell level s book line statuses.WriteFault same opened is p =
    let front = subst (λ (l : List ℕ). Counted l s.written statuses.WriteFault s.held s.before s.now) is p in
    inl (book, opened, front, same)
counts fell level s book line statuses.DiskFault same opened is p = absurd p
counts fell level s book line statuses.Usage same opened is p = absurd p
counts fell level s book line statuses.Unreadable same opened is p = absurd p
counts fell level s book line statuses.NoMemory same opened is p = absurd p
counts fell level s book line statuses.ReadFault same opened is p = absurd p
counts fell level s book line statuses.ListenerFault same opened is p = absurd p
counts fell level s book line statuses.Cut same opened is p = absurd p
counts fell level s book line statuses.Limit same opened is p = absurd p

-- what the check says, once the disk is back at its path
module _ {D : Type 0} (told : D → Option (List ℕ)) (may_leave : D → List ℕ → Type 0) (moment : D → ℕ) (left_since : D → ℕ → List ℕ → Type 0) (place mid place' : Option (Option D)) (disk again : D)
    (is : StandsAs told may_leave moment place disk) (out : mid ≡ taken place) (back : place' ≡ stood again mid) where
  there : place' ≡ stood again (taken place)
  there = back ∙ ap (stood again) out

  pub opens_there : (book : Book) → Opens (told disk) (told again) (images_of may_leave moment left_since disk again) book → Opens (told_at told place) (told_at told place') (images_at may_leave moment left_since place place') book
  opens_there book o = subst (λ (q : Option (Option D)). Opens (told_at told place) (told_at told q) (images_at may_leave moment left_since place q) book) (sym there) (record {
    payloads = o.payloads;
    opened = o.opened;
    begins = begins_at told place disk o.payloads o.opened book (tells_of told may_leave moment left_since place disk is) o.begins;
    keeps = left_at told place again (IsJournalOf o.payloads) o.keeps;
    ends = ended_at told may_leave moment left_since place disk again is o.ends;
    crash = spared_at told may_leave moment left_since place disk again is o.crash;
  })

  pub opens_still_there : (book : Book) → OpensStill (told disk) (told again) (images_of may_leave moment left_since disk again) book → OpensStill (told_at told place) (told_at told place') (images_at may_leave moment left_since place place') book
  opens_still_there book o = record { opens = opens_there book o.opens; same = unspoiled_back told may_leave moment left_since place mid place' disk again is out back o.same }

  pub checks : (fell level : Type 0) (same : level) (line : List ℕ) (book : Book) (status : Status) (held after : Option (List ℕ)) (before now : ℕ) → OpensStill (told disk) (told again) (images_of may_leave moment left_since disk again) book
      → line ≡ check_line book → CountedKnown line held status after before now → ChecksKnown fell level held status after before now (told_at told place) (told_at told place') (images_at may_leave moment left_since place place')
  checks fell level same line book status held after before now opened by tells w e =
      let x = tells w e in
      let s : Seen = record { written = w; held = x.0; before = before; now = now; journal = told_at told place; left = told_at told place'; images = images_at may_leave moment left_since place place' } in
      (x.0, x.1, counts fell level s book line status same (opens_still_there book opened) by x.2)
