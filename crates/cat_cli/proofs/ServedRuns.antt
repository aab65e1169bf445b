-- What a run of `serve` says, once the journal's disk is back at its path.
use Rattle.std.proofs.Common.{◌≡◌, ◌≢◌, ℕ, ◌<◌, List, Option, Some, None, IfSome, Bool, true, false, refl, sym, ◌∙◌, ap, subst, inl, inr, arith}
use Rattle.std.specs.Prelude.{◌⊎◌}
use Rattle.cat_desk.specs.Pass.{mark_of}
use Rattle.cat_io.specs.Places.{stood, taken}
use Rattle.cat_keeper.specs.Bases.{base_count}
use Rattle.cat_model.specs.Mark.{FailedAppend}
use Rattle.cat_serve.specs.declared.serving.Served.{Served}
use Rattle.cat_serve.specs.declared.serving.Served.TheVariants as serveds
use Rattle.cat_serve.specs.Sessions.{Readings}
use Rattle.cat_serve.specs.Workers.{Ends as BothEnds}
use Rattle.cat_cli.specs.declared.status.Status.{Status}
use Rattle.cat_cli.specs.declared.status.Status.TheVariants as statuses
use Rattle.cat_cli.specs.declared.unopened.Unopened.{Unopened}
use Rattle.cat_cli.specs.declared.unopened.Unopened.TheVariants as whys
use Rattle.cat_cli.specs.Hosting.{Comes, Heard, Service}
use Rattle.cat_cli.specs.Journals.{StandsFor, opened_format, told_at}
use Rattle.cat_cli.specs.Opening.{EndsFor, IsReason, RefusedKnown}
use Rattle.cat_cli.specs.Lines.{no_memory_line}
use Rattle.cat_cli.specs.Runs.{CountedBy, TellsKnown, grown, spares_disks, spares_listener}
use Rattle.cat_cli.specs.Serving.{Ended, Hosted, HostedIll, HostedWell, IsToldOf, OpenedOnly, RefusedFor, RefusesKnown, ServesKnown, Sunk, bases_made, flying_at, status_after}
use Rattle.cat_cli.specs.Surviving.{Spared, StandsAs, Survives, Unspoiled, Unwritten, images_at, images_of}
use Rattle.cat_cli.proofs.Counted.{opens_still_there}
use Rattle.cat_cli.proofs.HostedStores.{comes_on}
use Rattle.cat_cli.proofs.Opened.{EndsAtFault, begins_at, no_fault, reason_at, stands_back, stands_untouched, told_there, unspoiled_by}
use Rattle.cat_cli.proofs.Refused.{never_opened, refused_there}
use Rattle.cat_cli.proofs.Placed.{spared_at, spared_untouched, survives_at, tells_of}
use Rattle.cat_cli.proofs.Unspoiled.{format_back, unspoiled_back, unspoiled_untouched, unwritten_back, unwritten_untouched}

-- ---- by the status

module _ {C : Type 0} (from only so well ill none level : Type 0) (service : Service) (a b : Heard C) (k : Sunk) (f : from → so) (g : only → none) where
  ended_by : (end : Served) (failed wrote : Bool) → IsToldOf end wrote k → (failed ≡ false → (from → well) × level) → (failed ≡ true → (from → ill) × (only → ⊥)) → Comes from only service a b end → Ended so well ill none level service a b k (status_after end failed wrote)
  ended_by serveds.End true wrote told sound fell c = inl (comes_on from ill only ⊥ service a b serveds.End (fell refl).0 (fell refl).1 c, told)
  ended_by serveds.End false wrote told sound fell c = (comes_on from well only none service a b serveds.End (sound refl).0 g c, (sound refl).1, told)
  ended_by serveds.ListenerFault true true told sound fell c = inr (comes_on from ill only ⊥ service a b serveds.ListenerFault (fell refl).0 (fell refl).1 c, told)
  ended_by serveds.ListenerFault false true told sound fell c = (comes_on from well only none service a b serveds.ListenerFault (sound refl).0 g c, (sound refl).1, told)
  ended_by serveds.ListenerFault true false told sound fell c = (comes_on from so only none service a b serveds.ListenerFault f g c, told)
  ended_by serveds.ListenerFault false false told sound fell c = (comes_on from so only none service a b serveds.ListenerFault f g c, told)
  ended_by serveds.NoMemory failed wrote told sound fell c = (comes_on from so only none service a b serveds.NoMemory f g c, told)

  ended : (end : Served) (failed wrote : Bool) (status : Status) → status ≡ status_after end failed wrote → IsToldOf end wrote k → (failed ≡ false → (from → well) × level) → (failed ≡ true → (from → ill) × (only → ⊥)) → Comes from only service a b end
      → Ended so well ill none level service a b k status
  ended end failed wrote status is told sound fell c = subst (Ended so well ill none level service a b k) (sym is) (ended_by end failed wrote told sound fell c)

-- the disk failed where the status says so, and not where it spares the disks
pub disk_failed : (end : Served) (failed wrote : Bool) → status_after end failed wrote ≡ statuses.DiskFault → failed ≡ true
disk_failed end true wrote e = refl
disk_failed serveds.End false wrote e = cc
disk_failed serveds.ListenerFault false true e = cc
disk_failed serveds.ListenerFault false false e = cc
disk_failed serveds.NoMemory false wrote e = cc

not_failed : (end : Served) (failed wrote : Bool) → spares_disks (status_after end failed wrote) ≡ true → failed ≡ false
not_failed end false wrote e = refl
not_failed serveds.End true wrote e = cc
not_failed serveds.ListenerFault true true e = cc
not_failed serveds.ListenerFault true false e = cc
not_failed serveds.NoMemory true wrote e = cc

pub spared : (end : Served) (failed wrote : Bool) (status : Status) → status ≡ status_after end failed wrote → spares_disks status ≡ true → failed ≡ false
spared end failed wrote status is e = not_failed end failed wrote (subst (λ (st : Status). spares_disks st ≡ true) is e)

-- the listener failed where the status says so, and not where it spares the listener
heard_fault : (end : Served) (failed wrote : Bool) → status_after end failed wrote ≡ statuses.ListenerFault → end ≡ serveds.ListenerFault
heard_fault serveds.ListenerFault failed wrote e = refl
heard_fault serveds.End true wrote e = cc
heard_fault serveds.End false wrote e = cc
heard_fault serveds.NoMemory failed wrote e = cc

pub heard_failing : (end : Served) (failed wrote : Bool) (status : Status) → status ≡ status_after end failed wrote → status ≡ statuses.ListenerFault → end ≡ serveds.ListenerFault
heard_failing end failed wrote status is e = heard_fault end failed wrote (sym is ∙ e)

fault_spares_none : (failed wrote : Bool) → spares_listener (status_after serveds.ListenerFault failed wrote) ≡ true → ⊥
fault_spares_none true true e = cc
fault_spares_none false true e = cc
fault_spares_none true false e = cc
fault_spares_none false false e = cc

pub heard_well : (end : Served) (failed wrote : Bool) (status : Status) → status ≡ status_after end failed wrote → spares_listener status ≡ true → end ≢ serveds.ListenerFault
heard_well end failed wrote status is e fault =
    fault_spares_none failed wrote (subst (λ (x : Served). spares_listener (status_after x failed wrote) ≡ true) fault (subst (λ (st : Status). spares_listener st ≡ true) is e))

-- ---- no journal was opened

pub ends_at_fault : (why : Unopened) (status : Status) → why ≡ whys.Fault → (status ≡ statuses.DiskFault) ⊎ (status ≡ statuses.WriteFault) → EndsFor why status
ends_at_fault why status is (inl e) = subst (EndsFor why) (sym e) is
ends_at_fault why status is (inr e) = subst (EndsFor why) (sym e) is

refused_for : (fell level : Type 0) (journal : Option (List ℕ)) (why : Unopened) (status : Status) → IsReason journal why → (why ≡ whys.Fault → fell) → (why ≢ whys.Fault → level) → EndsFor why status → RefusedFor fell level journal status
refused_for fell level journal why statuses.DiskFault reason cause spares ends = cause ends
refused_for fell level journal why statuses.WriteFault reason cause spares ends = cause ends
refused_for fell level journal why statuses.Unreadable reason cause spares ends = (spares (no_fault why ends), why, reason ends)
refused_for fell level journal why statuses.NoMemory reason cause spares ends = spares ends
refused_for fell level journal why statuses.Done reason cause spares ends = absurd ends
refused_for fell level journal why statuses.Usage reason cause spares ends = absurd ends
refused_for fell level journal why statuses.ReadFault reason cause spares ends = absurd ends
refused_for fell level journal why statuses.ListenerFault reason cause spares ends = absurd ends
refused_for fell level journal why statuses.Cut reason cause spares ends = absurd ends
refused_for fell level journal why statuses.Limit reason cause spares ends = absurd ends

not_both : (most : ℕ) → 0 < most → most ≡ 0 → ⊥
not_both most some none = omega (arith, some, none)

-- no append failed where none is counted
none_counted : (fault : Option FailedAppend) (most : ℕ) → IfSome fault (λ f. CountedBy most f.count) → most ≡ 0 → fault ≡ None
none_counted None most counted none = refl
none_counted (Some f) most counted none = absurd (not_both most (omega (arith, counted.0, counted.1)) none)

-- and one did where one is
some_counted : (fault : Option FailedAppend) (most : ℕ) → (fault ≡ None → most ≡ 0) → 0 < most → (x : FailedAppend) × (fault ≡ Some x)
some_counted None most level some = absurd (not_both most some (level refl))
some_counted (Some x) most level some = (x, refl)

caused : (to to' : ℕ → Type 0) (fault : Option FailedAppend) → ((c : ℕ) → to c → to' c) → IfSome fault (λ f. to f.count) → IfSome fault (λ f. to' f.count)
caused to to' None on cause = tt
caused to to' (Some f) on cause = on f.count cause

-- the disks refused to open the path
module _ {D : Type 0} (told : D → Option (List ℕ)) (may_leave : D → List ℕ → Type 0) (moment : D → ℕ) (left_since : D → ℕ → List ℕ → Type 0) (only_now : (d : D) (c : List ℕ) → left_since d (moment d) c → may_leave d c) (place place' : Option (Option D))
    (same : place' ≡ place) (fell level untouched : Type 0) (k : Sunk) (status : Status) where
  pub none_opened : fell → untouched → EndsAtFault whys.Fault status → EndsFor whys.Fault status → RefusedKnown whys.Fault k.held status k.after k.before k.now
      → RefusesKnown fell level untouched k (told_at told place) (told_at told place') (images_at may_leave moment left_since place place') status
  none_opened cause still ends by tells = record {
    cause = refused_for fell level (told_at told place) whys.Fault status (λ is. absurd cc) (λ is. cause) (λ other. absurd (other refl)) by;
    told = λ w e. let x = never_opened told may_leave moment left_since only_now place place' same fell level status k.held k.after k.before k.now w cause ends tells e in (x.0, x.1, x.2.0);
    stands = subst (λ (q : Option (Option D)). StandsFor (told_at told place) (told_at told q)) (sym same) (stands_untouched (told_at told place));
    spared = subst (λ (q : Option (Option D)). Spared (told_at told place) (told_at told q) (images_at may_leave moment left_since place q)) (sym same) (spared_untouched told may_leave moment left_since only_now place);
    unspoiled =
        unspoiled_by (told_at told place) (told_at told place') (images_at may_leave moment left_since place place') whys.Fault status ends (λ other. absurd (other refl)) (unwritten_untouched told may_leave moment left_since only_now place place' same);
    still = still;
  }

-- memory ran out before the words were known
pub out_of_memory : {D : Type 0} (told : D → Option (List ℕ)) (may_leave : D → List ℕ → Type 0) (moment : D → ℕ) (left_since : D → ℕ → List ℕ → Type 0) (only_now : (d : D) (c : List ℕ) → left_since d (moment d) c → may_leave d c) (place : Option (Option D))
    → (fell level untouched : Type 0) (k : Sunk) (status : Status) → status ≡ statuses.NoMemory → level → untouched → TellsKnown no_memory_line k.held k.after k.before k.now
    → RefusesKnown fell level untouched k (told_at told place) (told_at told place) (images_at may_leave moment left_since place place) status
out_of_memory told may_leave moment left_since only_now place fell level untouched k status is same still tells =
    subst (RefusesKnown fell level untouched k (told_at told place) (told_at told place) (images_at may_leave moment left_since place place)) (sym is) (record {
      cause = same;
      told = λ w e. let x = tells w e in (x.0, x.1, (same, x.2));
      stands = stands_untouched (told_at told place);
      spared = spared_untouched told may_leave moment left_since only_now place;
      unspoiled = unspoiled_untouched told may_leave moment left_since only_now place;
      still = still;
    })

-- ---- the disk is back at its path

module _ {D : Type 0} (told : D → Option (List ℕ)) (may_leave : D → List ℕ → Type 0) (moment : D → ℕ) (left_since : D → ℕ → List ℕ → Type 0) (place mid place' : Option (Option D)) (disk again : D)
    (is : StandsAs told may_leave moment place disk) (out : mid ≡ taken place) (back : place' ≡ stood again mid) where
  there : place' ≡ stood again (taken place)
  there = back ∙ ap (stood again) out

  -- of its journal no catalogue was opened
  pub refused_back : (fell level untouched : Type 0) (k : Sunk) (why : Unopened) (status : Status) → IsReason (told disk) why → StandsFor (told disk) (told again) → Spared (told disk) (told again) (images_of may_leave moment left_since disk again) → (why ≢ whys.Fault → Unspoiled (told disk) (told again) (images_of may_leave moment left_since disk again))
      → Unwritten (told disk) (told again) (images_of may_leave moment left_since disk again) → (why ≡ whys.Fault → fell) → (why ≢ whys.Fault → level) → untouched → EndsAtFault why status → EndsFor why status → RefusedKnown why k.held status k.after k.before k.now
      → RefusesKnown fell level untouched k (told_at told place) (told_at told place') (images_at may_leave moment left_since place place') status
  refused_back fell level untouched k why status reason stands spares sound few cause same still ends by tells = record {
    cause = refused_for fell level (told_at told place) why status (reason_at told place disk why (tells_of told may_leave moment left_since place disk is) reason) cause same by;
    told = λ w e. let x = refused_there told may_leave moment left_since place mid place' disk again is out back fell level why status k.held k.after k.before k.now w reason stands spares sound few cause same ends tells e in (x.0, x.1, x.2.0);
    stands = stands_back told place mid place' disk again (tells_of told may_leave moment left_since place disk is) out back stands;
    spared = subst (λ (q : Option (Option D)). Spared (told_at told place) (told_at told q) (images_at may_leave moment left_since place q)) (sym there) (spared_at told may_leave moment left_since place disk again is spares);
    unspoiled =
        unspoiled_by (told_at told place) (told_at told place') (images_at may_leave moment left_since place place') why status ends
        (λ other. unspoiled_back told may_leave moment left_since place mid place' disk again is out back (sound other))
        (unwritten_back told may_leave moment left_since place mid place' disk again is out back few);
    still = still;
  }

  opened_back : (paused stays stays' : Type 0) → (stays → stays') → OpenedOnly paused stays (told disk) (told again) (images_of may_leave moment left_since disk again) → OpenedOnly paused stays' (told_at told place) (told_at told place') (images_at may_leave moment left_since place place')
  opened_back paused stays stays' same o = (o.0, opens_still_there told may_leave moment left_since place mid place' disk again is out back o.0 o.1, o.2, same o.3)

  -- or its journal was served from
  module _ {In Out : Type 0} (ends : BothEnds In Out) (service : Service) (a b : Heard (In × Out)) (ahead now : Option Readings) where
    hosted_there : (to to' : ℕ → Type 0) (stays stays' : Type 0) → ((c : ℕ) → to c → to' c) → (stays → stays') → Hosted ends to stays service a b ahead now (told disk) (told again) (images_of may_leave moment left_since disk again)
        → Hosted ends to' stays' service a b ahead now (told_at told place) (told_at told place') (images_at may_leave moment left_since place place')
    hosted_there to to' stays stays' on same h = record {
      payloads = h.payloads;
      started = h.started;
      book = h.book;
      begins = begins_at told place disk h.payloads h.started h.book (tells_of told may_leave moment left_since place disk is) h.begins;
      fresh = h.fresh;
      desk = h.desk;
      first = h.first;
      last = h.last;
      opened = h.opened;
      begun = h.begun;
      saw = h.saw;
      clean = h.clean;
      formed = told_there told place disk (λ bytes. (mark_of h.first).format ≡ opened_format bytes) (tells_of told may_leave moment left_since place disk is) h.formed;
      based = h.based;
      counted = told_there told place disk (λ bytes. (mark_of h.first).bases ≡ Some (base_count h.payloads)) (tells_of told may_leave moment left_since place disk is) h.counted;
      drafted = h.drafted;
      unswept = h.unswept;
      number_is = h.number_is;
      splits = h.splits;
      works = h.works;
      sessions = h.sessions;
      legal = h.legal;
      added = h.added;
      grows = h.grows;
      theirs = h.theirs;
      made = h.made;
      crash =
          subst (λ (q : Option (Option D)). Survives (told_at told place) (told_at told q) (images_at may_leave moment left_since place q) (grown h.payloads h.started h.book h.added (bases_made h.first h.last) (flying_at h.last))) (sym there)
          (survives_at told may_leave moment left_since place disk again (grown h.payloads h.started h.book h.added (bases_made h.first h.last) (flying_at h.last)) is h.crash);
      format_stays = format_back told place mid place' disk again (tells_of told may_leave moment left_since place disk is) out back h.format_stays;
      cause = caused to to' (mark_of h.last).fault on h.cause;
      level = λ none. same (h.level none);
      told = h.told;
    }

    -- by the status
    pub serves_there : (fell : Type 0) (to : ℕ → Type 0) (level untouched paused : Type 0) (k : Sunk) (most : ℕ) (end : Served) (failed wrote : Bool) (status : Status)
        → Comes (Hosted ends (CountedBy most) (most ≡ 0) service a b ahead now (told disk) (told again) (images_of may_leave moment left_since disk again)) (OpenedOnly paused (most ≡ 0) (told disk) (told again) (images_of may_leave moment left_since disk again)) service a b end
        → ((c : ℕ) → CountedBy most c → to c) → (failed ≡ true → 0 < most) → (failed ≡ false → most ≡ 0) → (most ≡ 0 → level) → status ≡ status_after end failed wrote → IsToldOf end wrote k
        → ServesKnown ends fell to level untouched paused service a b ahead now k (told_at told place) (told_at told place') (images_at may_leave moment left_since place place') status
    unfolding hosted_there
    serves_there fell to level untouched paused k most end failed wrote status c on some stays same by tells =
        inl (ended
        (Hosted ends (CountedBy most) (most ≡ 0) service a b ahead now (told disk) (told again) (images_of may_leave moment left_since disk again)) (OpenedOnly paused (most ≡ 0) (told disk) (told again) (images_of may_leave moment left_since disk again))
        (Hosted ends to level service a b ahead now (told_at told place) (told_at told place') (images_at may_leave moment left_since place place')) (HostedWell ends to level service a b ahead now (told_at told place) (told_at told place') (images_at may_leave moment left_since place place'))
        (HostedIll ends to level service a b ahead now (told_at told place) (told_at told place') (images_at may_leave moment left_since place place')) (OpenedOnly paused level (told_at told place) (told_at told place') (images_at may_leave moment left_since place place')) level service a b k
        (hosted_there (CountedBy most) to (most ≡ 0) level on same) (opened_back paused (most ≡ 0) level same) end failed wrote status by tells
        (λ still. (λ h. (hosted_there (CountedBy most) to (most ≡ 0) level on same h, none_counted (mark_of h.last).fault most h.cause (stays still)), same (stays still)))
        (λ fails. (λ h. let x = some_counted (mark_of h.last).fault most h.level (some fails) in (hosted_there (CountedBy most) to (most ≡ 0) level on same h, x.0, x.1), λ o. not_both most (some fails) o.3)) c)
