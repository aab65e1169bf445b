-- What a collection came to, by the status of its run.
use Rattle.std.proofs.Common.{◌≡◌, ◌≢◌, ℕ, List, Option, true, false, refl, sym, ◌∙◌, ap, subst, inl, inr}
use Rattle.cat_io.specs.Places.{stood, taken}
use Rattle.cat_model.specs.declared.reply.Swept.{Swept}
use Rattle.cat_policy.specs.declared.policy.Policy.{Policy}
use Rattle.cat_cli.specs.declared.collecting.Collected.{Collected}
use Rattle.cat_cli.specs.declared.collecting.Collected.TheVariants as comes
use Rattle.cat_cli.specs.declared.status.Status.{Status}
use Rattle.cat_cli.specs.declared.status.Status.TheVariants as statuses
use Rattle.cat_cli.specs.Collecting.{Collects, CollectsKnown, EndsIn, EndsWith, Gathers, IsDue, IsUnsaid}
use Rattle.cat_cli.specs.Journals.{told_at}
use Rattle.cat_cli.specs.Lines.{disk_fault_line, limit_line, no_memory_line, swept_line}
use Rattle.cat_cli.specs.Runs.{TellsKnown, grown, spares_disks}
use Rattle.cat_cli.specs.Serving.{IsWritten, Sunk}
use Rattle.cat_cli.specs.Surviving.{Images, StandsAs, Survives, images_at, images_of}
use Rattle.cat_cli.proofs.Opened.{begins_at}
use Rattle.cat_cli.proofs.Placed.{survives_at, tells_of}
use Rattle.cat_cli.proofs.Unspoiled.{format_back}

-- ---- by the status

module _ (fell level : Type 0) (so : Collected → Type 0) (k : Sunk) where
  -- what is told of one that was made is told of it on the journal
  gathers_on : (fell' level' : Type 0) (so' : Collected → Type 0) → (fell → fell') → (level → level') → ((what : Collected) → so what → so' what) → (status : Status) → Gathers fell level so k status → Gathers fell' level' so' k status
  gathers_on fell' level' so' f l g statuses.Done x = (x.0, x.1, x.2, g (comes.Swept x.0 x.1 x.2) x.3, l x.4, x.5)
  gathers_on fell' level' so' f l g statuses.Limit x = (x.0, g (comes.Limit x.0) x.1, l x.2, x.3)
  gathers_on fell' level' so' f l g statuses.DiskFault x = (g comes.Fault x.0, f x.1, x.2)
  gathers_on fell' level' so' f l g statuses.WriteFault x = (x.0, g x.0 x.1, x.2, due x.0 x.2 x.3, x.4)
    where
      due : (what : Collected) (line : List ℕ) → IsDue fell level what line → IsDue fell' level' what line
      due (comes.Swept kept removed place) line d = (l d.0, d.1)
      due (comes.Limit number) line d = (l d.0, d.1)
      due comes.Fault line d = (f d.0, d.1)
      due comes.NoMemory line d = absurd d
  gathers_on fell' level' so' f l g statuses.NoMemory x = (x.0, g x.0 x.1, unsaid x.0 x.2, x.3)
    where
      unsaid : (what : Collected) → IsUnsaid level what → IsUnsaid level' what
      unsaid (comes.Swept kept removed place) u = l u
      unsaid (comes.Limit number) u = l u
      unsaid comes.Fault u = absurd u
      unsaid comes.NoMemory u = l u
  gathers_on fell' level' so' f l g statuses.Usage x = absurd x
  gathers_on fell' level' so' f l g statuses.Unreadable x = absurd x
  gathers_on fell' level' so' f l g statuses.ReadFault x = absurd x
  gathers_on fell' level' so' f l g statuses.ListenerFault x = absurd x
  gathers_on fell' level' so' f l g statuses.Cut x = absurd x

  -- the disks failed where the status says so, and not where it spares them
  pub disks_fell : (status : Status) → status ≡ statuses.DiskFault → Gathers fell level so k status → fell
  disks_fell status is x = let y = subst (Gathers fell level so k) is x in y.1

  pub disks_level : (status : Status) → spares_disks status ≡ true → Gathers fell level so k status → level
  disks_level statuses.Done spares x = x.4
  disks_level statuses.Limit spares x = x.2
  disks_level statuses.DiskFault spares x = absurd cc
  disks_level statuses.WriteFault spares x = absurd cc
  disks_level statuses.NoMemory spares x = absurd cc
  disks_level statuses.Usage spares x = absurd x
  disks_level statuses.Unreadable spares x = absurd x
  disks_level statuses.ReadFault spares x = absurd x
  disks_level statuses.ListenerFault spares x = absurd x
  disks_level statuses.Cut spares x = absurd x

module _ (fell level paused : Type 0) (policy : Policy) (ahead to_come : Option (ℕ → ℕ)) (k : Sunk) (journal left : Option (List ℕ)) (images : Images) where
  abbrev Known : Status → Type 0
  Known status = CollectsKnown fell level paused policy ahead to_come k journal left images status

  -- a collection doesn't end so
  pub never_usage : (status : Status) → Known status → status ≢ statuses.Usage
  never_usage status known is = by (subst Known is known)
    where
      by : Known statuses.Usage → ⊥
      by (inl x) = x
      by (inr r) = r.cause

  pub never_read : (status : Status) → Known status → status ≢ statuses.ReadFault
  never_read status known is = by (subst Known is known)
    where
      by : Known statuses.ReadFault → ⊥
      by (inl x) = x
      by (inr r) = r.cause

  pub never_heard : (status : Status) → Known status → status ≢ statuses.ListenerFault
  never_heard status known is = by (subst Known is known)
    where
      by : Known statuses.ListenerFault → ⊥
      by (inl x) = x
      by (inr r) = r.cause

-- ---- what is told

never_swept : (kept removed place : ℕ) → comes.Swept kept removed place ≢ comes.Fault
never_swept kept removed place e = cc

never_limited : (number : ℕ) → comes.Limit number ≢ comes.Fault
never_limited number e = cc

never_out : comes.NoMemory ≢ comes.Fault
never_out e = cc

module _ (what : Collected) (k : Sunk) where
  abbrev Reports : Status → Type 0
  Reports status = Gathers (what ≡ comes.Fault) (what ≢ comes.Fault) (λ x. x ≡ what) k status

  by_line : (line : List ℕ) (status ending : Status) → EndsIn line status k ending → (IsWritten true line k → Reports status) → (IsWritten false line k → Reports statuses.WriteFault) → (TellsKnown no_memory_line k.held k.after k.before k.now → Reports statuses.NoMemory) → Reports ending
  by_line line status ending (inl (inl e)) whole front none = subst Reports (sym e.0) (whole e.1)
  by_line line status ending (inl (inr e)) whole front none = subst Reports (sym e.0) (front e.1)
  by_line line status ending (inr e) whole front none = subst Reports (sym e.0) (none e.1)

  pub swept_told : (kept removed place : ℕ) (ending : Status) → what ≡ comes.Swept kept removed place → EndsIn (swept_line kept removed place) statuses.Done k ending → Reports ending
  swept_told kept removed place ending is told =
      let well : what ≢ comes.Fault = λ fault. never_swept kept removed place (sym is ∙ fault) in
      by_line (swept_line kept removed place) statuses.Done ending told (λ w. (kept, removed, place, sym is, well, w)) (λ w. (comes.Swept kept removed place, sym is, swept_line kept removed place, (well, refl), w))
      (λ t. (comes.Swept kept removed place, sym is, well, t))

  pub limit_told : (number : ℕ) (ending : Status) → what ≡ comes.Limit number → EndsIn (limit_line number) statuses.Limit k ending → Reports ending
  limit_told number ending is told =
      let well : what ≢ comes.Fault = λ fault. never_limited number (sym is ∙ fault) in
      by_line (limit_line number) statuses.Limit ending told (λ w. (number, sym is, well, w)) (λ w. (comes.Limit number, sym is, limit_line number, (well, refl), w)) (λ t. (comes.Limit number, sym is, well, t))

  -- the line of a disk's fault takes no memory
  pub failing_told : (ending : Status) → what ≡ comes.Fault → EndsWith disk_fault_line statuses.DiskFault k ending → Reports ending
  failing_told ending is (inl e) = subst Reports (sym e.0) (sym is, is, e.1)
  failing_told ending is (inr e) = subst Reports (sym e.0) (comes.Fault, sym is, disk_fault_line, (is, refl), e.1)

  pub memory_told : (ending : Status) → what ≡ comes.NoMemory → ending ≡ statuses.NoMemory → TellsKnown no_memory_line k.held k.after k.before k.now → Reports ending
  memory_told ending is by told = subst Reports (sym by) (comes.NoMemory, sym is, (λ fault. never_out (sym is ∙ fault)), told)

-- ---- the disk is back at its path

module _ {D : Type 0} (told : D → Option (List ℕ)) (may_leave : D → List ℕ → Type 0) (moment : D → ℕ) (left_since : D → ℕ → List ℕ → Type 0) (place mid place' : Option (Option D)) (disk again : D)
    (is : StandsAs told may_leave moment place disk) (out : mid ≡ taken place) (back : place' ≡ stood again mid) where
  there : place' ≡ stood again (taken place)
  there = back ∙ ap (stood again) out

  collects_there : (policy : Policy) (ahead to_come : Option (ℕ → ℕ)) (what : Collected) → Collects policy ahead to_come (told disk) (told again) (images_of may_leave moment left_since disk again) what
      → Collects policy ahead to_come (told_at told place) (told_at told place') (images_at may_leave moment left_since place place') what
  collects_there policy ahead to_come what g = record {
    payloads = g.payloads;
    opened = g.opened;
    book = g.book;
    begins = begins_at told place disk g.payloads g.opened g.book (tells_of told may_leave moment left_since place disk is) g.begins;
    moment = g.moment;
    ticks = g.ticks;
    added = g.added;
    flying = g.flying;
    comes_to = g.comes_to;
    legal = g.legal;
    format_stays = format_back told place mid place' disk again (tells_of told may_leave moment left_since place disk is) out back g.format_stays;
    crash =
        subst (λ (q : Option (Option D)). Survives (told_at told place) (told_at told q) (images_at may_leave moment left_since place q) (grown g.payloads g.opened g.book g.added 0 g.flying)) (sym there)
        (survives_at told may_leave moment left_since place disk again (grown g.payloads g.opened g.book g.added 0 g.flying) is g.crash);
  }

  -- by the status; level is so where its append didn't fail
  pub gathers : (fell level paused : Type 0) (policy : Policy) (ahead to_come : Option (ℕ → ℕ)) (k : Sunk) (what : Collected) (status : Status)
      → Collects policy ahead to_come (told disk) (told again) (images_of may_leave moment left_since disk again) what
      → Gathers (what ≡ comes.Fault) (what ≢ comes.Fault) (λ x. x ≡ what) k status
      → (what ≡ comes.Fault → fell) → (what ≢ comes.Fault → level)
      → CollectsKnown fell level paused policy ahead to_come k (told_at told place) (told_at told place') (images_at may_leave moment left_since place place') status
  gathers fell level paused policy ahead to_come k what status g told_so falls stays =
      inl (gathers_on (what ≡ comes.Fault) (what ≢ comes.Fault) (λ x. x ≡ what) k fell level
      (Collects policy ahead to_come (told_at told place) (told_at told place') (images_at may_leave moment left_since place place'))
      falls stays
      (λ x same. subst (Collects policy ahead to_come (told_at told place) (told_at told place') (images_at may_leave moment left_since place place')) (sym same) (collects_there policy ahead to_come what g)) status told_so)
