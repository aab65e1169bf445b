-- A disk that was taken from its path and given back there, of whose journal nothing was made.
use Rattle.std.proofs.Common.{◌≡◌, ℕ, List, Option, Some, Result, Ok, Err, refl, sym, ◌∙◌, ap, subst}
use Rattle.std.specs.Prelude.{MatchResult}
use Rattle.cat_io.specs.Places.{stood, taken}
use Rattle.cat_cli.specs.declared.status.Status.{Status}
use Rattle.cat_cli.specs.declared.status.Status.TheVariants as statuses
use Rattle.cat_cli.specs.declared.unopened.Unopened.{Unopened}
use Rattle.cat_cli.specs.declared.unopened.Unopened.TheVariants as whys
use Rattle.cat_cli.specs.Journals.{StandsFor, told_at}
use Rattle.cat_cli.specs.Opening.{IsReason, RefusedKnown}
use Rattle.cat_cli.specs.Runs.{RefusesMigration, RefusesSo, UnmigratedBy, UnspoiledBy}
use Rattle.cat_cli.specs.Surviving.{Images, Spared, StandsAs, Unspoiled, Unwritten, images_at, images_of}
use Rattle.cat_cli.proofs.Opened.{EndsAtFault, RefusesWith, reason_at, refuses_known, stands_back, stands_untouched, unmigrated_by, unspoiled_by}
use Rattle.cat_cli.proofs.Placed.{spared_at, spared_untouched, tells_of}
use Rattle.cat_cli.proofs.Unspoiled.{unspoiled_back, unwritten_back, unwritten_untouched}

-- what an answer is known to be
pub of_ok : {T E : Type 0} (r : Result T E) (x : T) (P : T → Type 0) (Q : E → Type 0) → r ≡ Ok x → MatchResult r P Q → P x
of_ok r x P Q is p = subst (λ y. MatchResult y P Q) is p

pub of_err : {T E : Type 0} (r : Result T E) (e : E) (P : T → Type 0) (Q : E → Type 0) → r ≡ Err e → MatchResult r P Q → Q e
of_err r e P Q is p = subst (λ y. MatchResult y P Q) is p

module _ {D : Type 0} (told : D → Option (List ℕ)) (may_leave : D → List ℕ → Type 0) (moment : D → ℕ) (left_since : D → ℕ → List ℕ → Type 0) (place mid place' : Option (Option D)) (disk again : D)
    (is : StandsAs told may_leave moment place disk) (out : mid ≡ taken place) (back : place' ≡ stood again mid) (fell level : Type 0) (why : Unopened) (status : Status) (held after : Option (List ℕ)) (before now : ℕ) (w : List ℕ)
    (reason : IsReason (told disk) why) (stands : StandsFor (told disk) (told again)) (spared : Spared (told disk) (told again) (images_of may_leave moment left_since disk again))
    (same : (why ≡ whys.Fault → ⊥) → Unspoiled (told disk) (told again) (images_of may_leave moment left_since disk again)) where
  refused_so : (so : Type 0) → so → (why ≡ whys.Fault → fell) → ((why ≡ whys.Fault → ⊥) → level) → EndsAtFault why status → RefusedKnown why held status after before now → held ≡ Some w
      → (h : List ℕ) × (after ≡ Some h) × RefusesWith so fell level (record { written = w; held = h; before = before; now = now; journal = told_at told place; left = told_at told place'; images = images_at may_leave moment left_since place place' }) status
  refused_so so bytes cause spares ends tells e =
      refuses_known fell level so why status held after (told_at told place) (told_at told place') (images_at may_leave moment left_since place place') before now w
      (reason_at told place disk why (tells_of told may_leave moment left_since place disk is) reason) cause spares ends
      (stands_back told place mid place' disk again (tells_of told may_leave moment left_since place disk is) out back stands)
      (subst (λ (q : Option (Option D)). Spared (told_at told place) (told_at told q) (images_at may_leave moment left_since place q)) (sym (back ∙ ap (stood again) out)) (spared_at told may_leave moment left_since place disk again is spared))
      bytes tells e

  pub refused_there : Unwritten (told disk) (told again) (images_of may_leave moment left_since disk again) → (why ≡ whys.Fault → fell) → ((why ≡ whys.Fault → ⊥) → level) → EndsAtFault why status → RefusedKnown why held status after before now → held ≡ Some w
      → (h : List ℕ) × (after ≡ Some h) × RefusesSo fell level (record { written = w; held = h; before = before; now = now; journal = told_at told place; left = told_at told place'; images = images_at may_leave moment left_since place place' }) status
  refused_there few cause spares ends tells e =
      refused_so (UnspoiledBy (told_at told place) (told_at told place') (images_at may_leave moment left_since place place') status)
      (unspoiled_by (told_at told place) (told_at told place') (images_at may_leave moment left_since place place') why status ends
      (λ other. unspoiled_back told may_leave moment left_since place mid place' disk again is out back (same other))
      (unwritten_back told may_leave moment left_since place mid place' disk again is out back few))
      cause spares ends tells e

  -- of a journal that isn't migrated
  pub unmigrated_there : (why ≡ whys.Fault → fell) → ((why ≡ whys.Fault → ⊥) → level) → EndsAtFault why status → RefusedKnown why held status after before now → held ≡ Some w
      → (h : List ℕ) × (after ≡ Some h) × RefusesMigration fell level (record { written = w; held = h; before = before; now = now; journal = told_at told place; left = told_at told place'; images = images_at may_leave moment left_since place place' }) status
  unmigrated_there cause spares ends tells e =
      refused_so (UnmigratedBy (told_at told place) (told_at told place') (images_at may_leave moment left_since place place') status)
      (unmigrated_by (told_at told place) (told_at told place') (images_at may_leave moment left_since place place') why status ends
      (λ other. unspoiled_back told may_leave moment left_since place mid place' disk again is out back (same other)))
      cause spares ends tells e

-- the disks refused to open the path
pub never_opened : {D : Type 0} (told : D → Option (List ℕ)) (may_leave : D → List ℕ → Type 0) (moment : D → ℕ) (left_since : D → ℕ → List ℕ → Type 0) (only_now : (d : D) (c : List ℕ) → left_since d (moment d) c → may_leave d c) (place place' : Option (Option D))
    → place' ≡ place → (fell level : Type 0) (status : Status) (held after : Option (List ℕ)) (before now : ℕ) (w : List ℕ) → fell → EndsAtFault whys.Fault status → RefusedKnown whys.Fault held status after before now → held ≡ Some w
    → (h : List ℕ) × (after ≡ Some h) × RefusesSo fell level (record { written = w; held = h; before = before; now = now; journal = told_at told place; left = told_at told place'; images = images_at may_leave moment left_since place place' }) status
never_opened {D} told may_leave moment left_since only_now place place' same fell level status held after before now w cause ends tells e =
    refuses_known fell level (UnspoiledBy (told_at told place) (told_at told place') (images_at may_leave moment left_since place place') status) whys.Fault status held after (told_at told place) (told_at told place') (images_at may_leave moment left_since place place') before now w
    (λ is. absurd cc) (λ fault. cause) (λ other. absurd (other refl)) ends
    (subst (λ (q : Option (Option D)). StandsFor (told_at told place) (told_at told q)) (sym same) (stands_untouched (told_at told place)))
    (subst (λ (q : Option (Option D)). Spared (told_at told place) (told_at told q) (images_at may_leave moment left_since place q)) (sym same) (spared_untouched told may_leave moment left_since only_now place))
    (unspoiled_by (told_at told place) (told_at told place') (images_at may_leave moment left_since place place') whys.Fault status ends (λ other. absurd (other refl)) (unwritten_untouched told may_leave moment left_since only_now place place' same))
    tells e

-- what is so of the bytes of a journal that isn't opened is so of one that isn't migrated
less_of : (journal left : Option (List ℕ)) (images : Images) (status : Status) → UnspoiledBy journal left images status → UnmigratedBy journal left images status
less_of journal left images statuses.Unreadable same = same
less_of journal left images statuses.NoMemory same = same
less_of journal left images statuses.DiskFault same = tt
less_of journal left images statuses.WriteFault same = tt
less_of journal left images statuses.Done same = tt
less_of journal left images statuses.Usage same = tt
less_of journal left images statuses.ReadFault same = tt
less_of journal left images statuses.ListenerFault same = tt
less_of journal left images statuses.Cut same = tt
less_of journal left images statuses.Limit same = tt

pub never_migrated : {D : Type 0} (told : D → Option (List ℕ)) (may_leave : D → List ℕ → Type 0) (moment : D → ℕ) (left_since : D → ℕ → List ℕ → Type 0) (only_now : (d : D) (c : List ℕ) → left_since d (moment d) c → may_leave d c) (place place' : Option (Option D))
    → place' ≡ place → (fell level : Type 0) (status : Status) (held after : Option (List ℕ)) (before now : ℕ) (w : List ℕ) → fell → EndsAtFault whys.Fault status → RefusedKnown whys.Fault held status after before now → held ≡ Some w
    → (h : List ℕ) × (after ≡ Some h) × RefusesMigration fell level (record { written = w; held = h; before = before; now = now; journal = told_at told place; left = told_at told place'; images = images_at may_leave moment left_since place place' }) status
never_migrated {D} told may_leave moment left_since only_now place place' same fell level status held after before now w cause ends tells e =
    let x = never_opened told may_leave moment left_since only_now place place' same fell level status held after before now w cause ends tells e in
    (x.0, x.1, (x.2.0, x.2.1, x.2.2, less_of (told_at told place) (told_at told place') (images_at may_leave moment left_since place place') status x.2.3))
