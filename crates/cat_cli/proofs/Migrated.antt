-- What a migration says, once the disk is back at its path.
use Rattle.std.proofs.Common.{◌≡◌, ℕ, List, ◌++◌, Option, Some, None, IfSome, sym, ◌∙◌, ap, subst, inl}
use Rattle.std.specs.Prelude.{true}
use Rattle.cat_io.specs.Places.{stood, taken}
use Rattle.cat_journal.specs.Frames.{form_gate, is_newer}
use Rattle.cat_journal.specs.Reading.{IsMigrated}
use Rattle.cat_model.specs.Book.{Book}
use Rattle.cat_cli.specs.declared.status.Status.{Status}
use Rattle.cat_cli.specs.declared.status.Status.TheVariants as statuses
use Rattle.cat_cli.specs.Journals.{TellsAs, told_at}
use Rattle.cat_cli.specs.Lines.{migrated_line}
use Rattle.cat_cli.specs.Opening.{Counted, CountedKnown}
use Rattle.cat_cli.specs.Runs.{Migrates, MigratesKnown, MigratesSo, Seen}
use Rattle.cat_cli.specs.Surviving.{StandsAs, images_at, images_of}
use Rattle.cat_cli.proofs.Counted.{opens_there}
use Rattle.cat_cli.proofs.Opened.{left_at}
use Rattle.cat_cli.proofs.Placed.{tells_of}

-- by the status; the disks' count of faults is as it was
ends : (fell level : Type 0) (s : Seen) (book : Book) (line : List ℕ) (status : Status) → level → Migrates s.journal s.left s.images book → line ≡ migrated_line book.state.place → Counted line s.written status s.held s.before s.now → MigratesSo fell level s status
ends fell level s book line statuses.Done same is by p = inl (book, is, p ∙ ap (λ (l : List ℕ). s.written ++ l) by, same)
ends fell level s book line statuses.WriteFault same is by p =
    let front = subst (λ (l : List ℕ). Counted l s.written statuses.WriteFault s.held s.before s.now) by p in
    inl (book, is, front, same)
ends fell level s book line statuses.DiskFault same is by p = absurd p
ends fell level s book line statuses.Usage same is by p = absurd p
ends fell level s book line statuses.Unreadable same is by p = absurd p
ends fell level s book line statuses.NoMemory same is by p = absurd p
ends fell level s book line statuses.ReadFault same is by p = absurd p
ends fell level s book line statuses.ListenerFault same is by p = absurd p
ends fell level s book line statuses.Cut same is by p = absurd p
ends fell level s book line statuses.Limit same is by p = absurd p

module _ {D : Type 0} (told : D → Option (List ℕ)) (may_leave : D → List ℕ → Type 0) (moment : D → ℕ) (left_since : D → ℕ → List ℕ → Type 0) (place mid place' : Option (Option D)) (disk again : D)
    (is : StandsAs told may_leave moment place disk) (out : mid ≡ taken place) (back : place' ≡ stood again mid) where
  -- the bytes of a disk are those of its path
  bytes_at : (place : Option (Option D)) → TellsAs told place disk → IfSome (told disk) (λ before. IfSome (told again) (λ after. IsMigrated before after))
      → IfSome (told_at told place) (λ before. IfSome (told_at told (stood again (taken place))) (λ after. IsMigrated before after))
  bytes_at None same b = tt
  bytes_at (Some None) same b = absurd same
  bytes_at (Some (Some d)) same b = subst (λ (t : Option (List ℕ)). IfSome t (λ before. IfSome (told again) (λ after. IsMigrated before after))) (sym same) b

  there : place' ≡ stood again (taken place)
  there = back ∙ ap (stood again) out

  migrates_there : (book : Book) → Migrates (told disk) (told again) (images_of may_leave moment left_since disk again) book → Migrates (told_at told place) (told_at told place') (images_at may_leave moment left_since place place') book
  migrates_there book m = record {
    opens = opens_there told may_leave moment left_since place mid place' disk again is out back book m.opens;
    newer = subst (λ (q : Option (Option D)). IfSome (told_at told q) (λ bytes. is_newer (form_gate bytes) ≡ true)) (sym there) (left_at told place again (λ bytes. is_newer (form_gate bytes) ≡ true) m.newer);
    bytes =
        subst (λ (q : Option (Option D)). IfSome (told_at told place) (λ before. IfSome (told_at told q) (λ after. IsMigrated before after))) (sym there)
        (bytes_at place (tells_of told may_leave moment left_since place disk is) m.bytes);
  }

  pub migrated : (fell level : Type 0) (same : level) (line : List ℕ) (book : Book) (status : Status) (held after : Option (List ℕ)) (before now : ℕ) → Migrates (told disk) (told again) (images_of may_leave moment left_since disk again) book
      → line ≡ migrated_line book.state.place → CountedKnown line held status after before now → MigratesKnown fell level held status after before now (told_at told place) (told_at told place') (images_at may_leave moment left_since place place')
  migrated fell level same line book status held after before now m by tells w e =
      let x = tells w e in
      let s : Seen = record { written = w; held = x.0; before = before; now = now; journal = told_at told place; left = told_at told place'; images = images_at may_leave moment left_since place place' } in
      (x.0, x.1, ends fell level s book line status same (migrates_there book m) by x.2)
