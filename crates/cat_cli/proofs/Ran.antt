-- A session on the catalogue of a journal that was opened, and is given back.
use Rattle.std.proofs.Common.{◌≡◌, ℕ, ◌<◌, List, ◌++◌, reverse, Option, Some, None, IfSome, Bool, true, false, refl, sym, ◌∙◌, ap, subst, inl, inr, arith}
use Rattle.std.specs.Option.{option_map}
use Rattle.std.proofs.lemmas.List.{reverse-append, reverse-reverse}
use Rattle.cat_io.specs.Places.{stood, taken}
use Rattle.cat_core.specs.Stored.{Stored, opened_of}
use Rattle.cat_keeper.specs.Bases.{base_count, bases_in, first_of}
use Rattle.cat_model.specs.declared.log_entry.LogEntry.{LogEntry}
use Rattle.cat_serve.specs.declared.ending.Session.{Session as End}
use Rattle.cat_serve.specs.declared.ending.Session.TheVariants as ends
use Rattle.cat_model.specs.Turns.{Opened}
use Rattle.cat_cli.specs.declared.status.Status.{Status}
use Rattle.cat_cli.specs.declared.status.Status.TheVariants as statuses
use Rattle.cat_cli.specs.Journals.{Holds, IsBasedAt, IsJournalOf, KeepsFormat, opened_format, told_at}
use Rattle.cat_cli.specs.Opening.{IsStored, status_of}
use Rattle.cat_cli.specs.Runs.{Answers, CountedBy, Ran, RanIll, RanKnown, RanWell, SaysKnown, Seen, grown, spares_disks, start, tells_all}
use Rattle.cat_serve.specs.Sessions.{Readings, ReadsOn, Fallen, Ends, journal_by, journal_from}
use Rattle.cat_serve.specs.SessionLaws.{log_grows}
use Rattle.cat_cli.specs.Stores.{RunsKnown}
use Rattle.cat_cli.specs.Surviving.{IsBegun, KeepsThrough, LeavesLog, StandsAs, Survives, bases_between, images_at, images_of}
use Rattle.cat_cli.proofs.Opened.{begins_at, left_at, told_there}
use Rattle.cat_cli.proofs.Placed.{survives_at, tells_of}
use Rattle.cat_cli.proofs.Surviving.{payloads_are, survives}
use Rattle.cat_cli.proofs.Unbased.{counts_between, told_bases}
use Rattle.cat_cli.proofs.Unspoiled.{format_back}

-- the entries of a log that grew
pub log_of : (before after news : List LogEntry) → after ≡ news ++ before → reverse after ≡ reverse before ++ reverse news
log_of before after news grew = ap (λ (l : List LogEntry). reverse l) grew ∙ reverse-append news before

-- by how it ended, and whether the disk failed
module _ (to : ℕ → Type 0) (stays : Type 0) (clock : Readings) (to_come : ℕ → Type 0) (bytes : List ℕ) (unread : Option (List ℕ)) (s : Seen) where
  ran_well : (end : End) (ran : Ran to stays clock to_come bytes unread s end) → (ran.last.fallen ≡ None) × stays → RanWell to stays clock to_come bytes unread s end
  ran_well end ran (none, same) = (ran, none, same)

  ran_ill : (end : End) (ran : Ran to stays clock to_come bytes unread s end) → (f : Fallen) × (ran.last.fallen ≡ Some f) → RanIll to stays clock to_come bytes unread s end
  ran_ill end ran (f, is) = (ran, f, is)

  pub answers : (end : End) (rose : Bool) (ran : Ran to stays clock to_come bytes unread s end) → (rose ≡ false → (ran.last.fallen ≡ None) × stays) → (rose ≡ true → (f : Fallen) × (ran.last.fallen ≡ Some f))
      → Answers to stays clock to_come bytes unread s (status_of end rose)
  answers ends.NoMemory rose ran well ill = ran
  answers ends.WriteFault rose ran well ill = ran
  answers ends.ReadFault rose ran well ill = ran
  answers ends.Closed true ran well ill = inl (ran_ill ends.Closed ran (ill refl))
  answers ends.Closed false ran well ill = ran_well ends.Closed ran (well refl)
  answers ends.Capped true ran well ill = inr (inl (ran_ill ends.Capped ran (ill refl)))
  answers ends.Capped false ran well ill = inl (ran_well ends.Capped ran (well refl))
  answers ends.BadHead true ran well ill = inr (inr (inl (ran_ill ends.BadHead ran (ill refl))))
  answers ends.BadHead false ran well ill = inr (inl (ran_well ends.BadHead ran (well refl)))
  answers ends.TooLarge true ran well ill = inr (inr (inr (ran_ill ends.TooLarge ran (ill refl))))
  answers ends.TooLarge false ran well ill = inr (inr (ran_well ends.TooLarge ran (well refl)))

pub read_failed : (end : End) (rose : Bool) → status_of end rose ≡ statuses.ReadFault → end ≡ ends.ReadFault
read_failed ends.NoMemory rose e = cc
read_failed ends.WriteFault rose e = cc
read_failed ends.ReadFault rose e = refl
read_failed ends.Closed true e = cc
read_failed ends.Closed false e = cc
read_failed ends.Capped true e = cc
read_failed ends.Capped false e = cc
read_failed ends.BadHead true e = cc
read_failed ends.BadHead false e = cc
read_failed ends.TooLarge true e = cc
read_failed ends.TooLarge false e = cc

pub write_failed : (end : End) (rose : Bool) → status_of end rose ≡ statuses.WriteFault → end ≡ ends.WriteFault
write_failed ends.NoMemory rose e = cc
write_failed ends.WriteFault rose e = refl
write_failed ends.ReadFault rose e = cc
write_failed ends.Closed true e = cc
write_failed ends.Closed false e = cc
write_failed ends.Capped true e = cc
write_failed ends.Capped false e = cc
write_failed ends.BadHead true e = cc
write_failed ends.BadHead false e = cc
write_failed ends.TooLarge true e = cc
write_failed ends.TooLarge false e = cc

pub disk_failed : (end : End) (rose : Bool) → status_of end rose ≡ statuses.DiskFault → rose ≡ true
disk_failed end true e = refl
disk_failed ends.NoMemory false e = cc
disk_failed ends.WriteFault false e = cc
disk_failed ends.ReadFault false e = cc
disk_failed ends.Closed false e = cc
disk_failed ends.Capped false e = cc
disk_failed ends.BadHead false e = cc
disk_failed ends.TooLarge false e = cc

-- the disks are spared only where the disk didn't fail
not_failed : (end : End) (rose : Bool) → spares_disks (status_of end rose) ≡ true → rose ≡ false
not_failed end false e = refl
not_failed ends.NoMemory true e = cc
not_failed ends.WriteFault true e = cc
not_failed ends.ReadFault true e = cc
not_failed ends.Closed true e = cc
not_failed ends.Capped true e = cc
not_failed ends.BadHead true e = cc
not_failed ends.TooLarge true e = cc

pub spared : (end : End) (rose : Bool) (status : Status) → status ≡ status_of end rose → spares_disks status ≡ true → rose ≡ false
spared end rose status is e = not_failed end rose (subst (λ (st : Status). spares_disks st ≡ true) is e)

-- a session in which a write failed doesn't tell all
pub not_all : (end : End) (rose : Bool) (status : Status) → status ≡ status_of end rose → tells_all status ≡ true → end ≡ ends.WriteFault → ⊥
not_all end rose status is all e =
    let no : false ≡ true = subst (λ (st : Status). tells_all st ≡ true) (is ∙ ap (λ (x : End). status_of x rose) e) all in
    absurd cc

pub not_usage : (end : End) (rose : Bool) → status_of end rose ≡ statuses.Usage → ⊥
not_usage ends.NoMemory rose e = cc
not_usage ends.WriteFault rose e = cc
not_usage ends.ReadFault rose e = cc
not_usage ends.Closed true e = cc
not_usage ends.Closed false e = cc
not_usage ends.Capped true e = cc
not_usage ends.Capped false e = cc
not_usage ends.BadHead true e = cc
not_usage ends.BadHead false e = cc
not_usage ends.TooLarge true e = cc
not_usage ends.TooLarge false e = cc

pub not_heard : (end : End) (rose : Bool) → status_of end rose ≡ statuses.ListenerFault → ⊥
not_heard ends.NoMemory rose e = cc
not_heard ends.WriteFault rose e = cc
not_heard ends.ReadFault rose e = cc
not_heard ends.Closed true e = cc
not_heard ends.Closed false e = cc
not_heard ends.Capped true e = cc
not_heard ends.Capped false e = cc
not_heard ends.BadHead true e = cc
not_heard ends.BadHead false e = cc
not_heard ends.TooLarge true e = cc
not_heard ends.TooLarge false e = cc

-- no append failed where the disk didn't
none_fell : (down : Option ℕ) (fallen : Option Fallen) → down ≡ option_map (λ (f : Fallen). f.count) fallen → ((c : ℕ) → down ≡ Some c → ⊥) → fallen ≡ None
none_fell down None is up = refl
none_fell down (Some f) is up = absurd (up f.count is)

not_both : (n : ℕ) → 0 < n → n ≡ 0 → ⊥
not_both n some none = omega (arith, some, none)

-- and where one did, the disks' count rose so
one_fell : (P : ℕ → Type 0) (down : Option ℕ) (fallen : Option Fallen) → down ≡ option_map (λ (f : Fallen). f.count) fallen → ((c : ℕ) → down ≡ Some c → P c) → IfSome fallen (λ f. P f.count)
one_fell P down None is rose = tt
one_fell P down (Some f) is rose = rose f.count is

-- no append failed where none is counted
none_counted : (fallen : Option Fallen) (most : ℕ) → IfSome fallen (λ f. CountedBy most f.count) → most ≡ 0 → fallen ≡ None
none_counted None most counted none = refl
none_counted (Some f) most counted none = absurd (not_both most (omega (arith, counted.0, counted.1)) none)

-- and one did where one is
some_counted : (fallen : Option Fallen) (most : ℕ) → (fallen ≡ None → most ≡ 0) → 0 < most → (f : Fallen) × (fallen ≡ Some f)
some_counted None most level some = absurd (not_both most some (level refl))
some_counted (Some f) most level some = (f, refl)

caused : (to to' : ℕ → Type 0) (fallen : Option Fallen) → ((c : ℕ) → to c → to' c) → IfSome fallen (λ f. to f.count) → IfSome fallen (λ f. to' f.count)
caused to to' None on cause = tt
caused to to' (Some f) on cause = on f.count cause

-- the last base of a journal at rest is the keeper's
based_now : (since : ℕ) (had : List (List ℕ)) (early may_leave : List ℕ → Type 0) (left_since : ℕ → List ℕ → Type 0) (o : Opened) (log : List LogEntry) (left : Option (List ℕ)) (kept : Option (List (List ℕ))) (flying : Option (List ℕ)) (place : ℕ)
    → flying ≡ None → ((ps : List (List ℕ)) → kept ≡ Some ps → first_of ps ≡ place) → IfSome left (LeavesLog since had early may_leave left_since o log kept flying) → IfSome left (IsBasedAt place)
based_now since had early may_leave left_since o log None kept flying place none based leaves = tt
based_now since had early may_leave left_since o log (Some bytes) kept flying place none based leaves =
    let rests : IsJournalOf leaves.payloads bytes = subst (λ (f : Option (List ℕ)). Holds leaves.payloads f bytes) none leaves.holds in
    ap first_of (payloads_are bytes leaves.payloads rests.0) ∙ based leaves.payloads leaves.are

-- a session on the journal of a disk
module _ {D K : Type 0} (told : D → Option (List ℕ)) (may_leave : D → List ℕ → Type 0) (moment : D → ℕ) (left_since : D → ℕ → List ℕ → Type 0) (down : K → Option ℕ) (in_flight : K → Option (List ℕ))
    (kept : K → Option (List (List ℕ))) (since : ℕ) (had : List (List ℕ)) (early : List ℕ → Type 0) (disk again : D) (old new : Stored K) (ahead ahead' : Option Readings) (bytes unread held after : Option (List ℕ)) (before now : ℕ) (end : End)
    (stored : IsStored (told disk) old.opened old.book (kept old.keeper) (down old.keeper))
    (session : RunsKnown down in_flight old ahead bytes unread held end new ahead' after)
    (begun : IsBegun since had early (told disk) (moment disk) (may_leave disk))
    (formed : IfSome (told disk) (λ bytes. old.mark.format ≡ opened_format bytes)) (place_is : old.mark.base ≡ old.opened.state.place)
    (bases : (old.mark.bases ≡ bases_in (kept old.keeper)) × (new.mark.bases ≡ bases_in (kept new.keeper))) (based : (ps : List (List ℕ)) → kept new.keeper ≡ Some ps → first_of ps ≡ new.mark.base)
    (leaves : KeepsThrough since had early (may_leave again) (left_since again) kept in_flight new.keeper new.opened new.book (told again)) (shaped : KeepsFormat (told disk) (told again)) where
  abbrev Left : Opened → Option (List ℕ) → Type 0
  Left o flying = IfSome (told again) (LeavesLog since had early (may_leave again) (left_since again) o (reverse new.book.log) (kept new.keeper) flying)

  -- how it went, where to is so of the count at which an append failed, and stays where none did
  pub ran : (to : ℕ → Type 0) (stays : Type 0) → ((c : ℕ) → down new.keeper ≡ Some c → to c) → (down new.keeper ≡ None → stays) → RanKnown to stays ahead ahead' bytes unread held after before now (told disk) (told again) (images_of may_leave moment left_since disk again) end
  ran to stays raised level b w e f =
      let x = session b w e f in
      let last = x.4 in
      let left = x.6 in
      let grew = log_grows x.0 (start (journal_by (opened_of old) old.mark) old.book b w) end x.2 last unread x.5 in
      let log : reverse new.book.log ≡ reverse old.book.log ++ reverse grew.0 = log_of old.book.log new.book.log grew.0 (left.log_is ∙ grew.1) in (
        x.0,
        x.1,
        x.2,
        x.3,
        record {
          payloads = stored.payloads;
          opened = old.opened;
          book = old.book;
          begins = stored.begins;
          format = old.mark.format;
          formed = formed;
          bases = old.mark.bases;
          counted = told_bases (told disk) (kept old.keeper) stored.payloads old.mark.bases stored.are bases.0;
          last = last;
          format_stays = shaped;
          ends = subst (λ (n : ℕ). Ends x.0 (start (journal_from old.opened old.mark.format n old.mark.bases) old.book b w) end x.2 last unread) place_is x.5;
          added = reverse grew.0;
          grows = grew.1 ∙ ap (λ (l : List LogEntry). l ++ old.book.log) (sym (reverse-reverse grew.0));
          crash =
              survives since had early (moment disk) (may_leave disk) (may_leave again) (left_since again) old.opened (reverse old.book.log) (reverse grew.0) (reverse new.book.log) (kept new.keeper) (option_map (λ (f : Fallen). f.payload) last.fallen) (bases_between old.mark.bases last.session.journal.bases) log
              (told disk) (told again) stored.payloads begun stored.begins.recovers stored.begins.total stored.spelled stored.begins.opened
              (counts_between (told disk) (kept old.keeper) (kept new.keeper) stored.payloads old.mark.bases last.session.journal.bases stored.are bases.0 (sym left.bases_is ∙ bases.1))
              (subst (λ (o : Opened). Left o (option_map (λ (f : Fallen). f.payload) last.fallen)) left.opened_is (subst (Left new.opened) left.flies leaves));
          based = λ none. subst (λ (n : ℕ). IfSome (told again) (IsBasedAt n)) left.base_is (based_now since had early (may_leave again) (left_since again) new.opened (reverse new.book.log) (told again) (kept new.keeper) (in_flight new.keeper) new.mark.base
              (left.flies ∙ ap (option_map (λ (f : Fallen). f.payload)) none) based leaves);
          cause = one_fell to (down new.keeper) last.fallen left.down_is raised;
          level = λ none. level (left.down_is ∙ ap (option_map (λ (f : Fallen). f.count)) none);
          reads_on = x.7;
        },
      )

-- and what is said of it, once the disk is back at its path
module _ {D : Type 0} (told : D → Option (List ℕ)) (may_leave : D → List ℕ → Type 0) (moment : D → ℕ) (left_since : D → ℕ → List ℕ → Type 0) (place mid place' : Option (Option D)) (disk again : D)
    (is : StandsAs told may_leave moment place disk) (out : mid ≡ taken place) (back : place' ≡ stood again mid) where
  there : place' ≡ stood again (taken place)
  there = back ∙ ap (stood again) out

  abbrev pub Here : List ℕ → List ℕ → ℕ → ℕ → Seen
  Here w h before now = record { written = w; held = h; before = before; now = now; journal = told disk; left = told again; images = images_of may_leave moment left_since disk again }

  abbrev pub There : List ℕ → List ℕ → ℕ → ℕ → Seen
  There w h before now = record { written = w; held = h; before = before; now = now; journal = told_at told place; left = told_at told place'; images = images_at may_leave moment left_since place place' }

  ran_there : (to to' : ℕ → Type 0) (stays stays' : Type 0) (clock : Readings) (to_come : ℕ → Type 0) (b : List ℕ) (unread : Option (List ℕ)) (w h : List ℕ) (before now : ℕ) (end : End) → ((c : ℕ) → to c → to' c) → (stays → stays')
      → Ran to stays clock to_come b unread (Here w h before now) end → Ran to' stays' clock to_come b unread (There w h before now) end
  ran_there to to' stays stays' clock to_come b unread w h before now end on same r = record {
    payloads = r.payloads;
    opened = r.opened;
    book = r.book;
    begins = begins_at told place disk r.payloads r.opened r.book (tells_of told may_leave moment left_since place disk is) r.begins;
    format = r.format;
    formed = told_there told place disk (λ bytes. r.format ≡ opened_format bytes) (tells_of told may_leave moment left_since place disk is) r.formed;
    bases = r.bases;
    counted = told_there told place disk (λ bytes. r.bases ≡ Some (base_count r.payloads)) (tells_of told may_leave moment left_since place disk is) r.counted;
    last = r.last;
    ends = r.ends;
    added = r.added;
    grows = r.grows;
    crash =
        subst (λ (q : Option (Option D)). Survives (told_at told place) (told_at told q) (images_at may_leave moment left_since place q) (grown r.payloads r.opened r.book r.added (bases_between r.bases r.last.session.journal.bases) (option_map (λ (f : Fallen). f.payload) r.last.fallen))) (sym there)
        (survives_at told may_leave moment left_since place disk again (grown r.payloads r.opened r.book r.added (bases_between r.bases r.last.session.journal.bases) (option_map (λ (f : Fallen). f.payload) r.last.fallen)) is r.crash);
    format_stays = format_back told place mid place' disk again (tells_of told may_leave moment left_since place disk is) out back r.format_stays;
    based = λ up. subst (λ (q : Option (Option D)). IfSome (told_at told q) (IsBasedAt r.last.session.journal.base)) (sym there) (left_at told place again (IsBasedAt r.last.session.journal.base) (r.based up));
    cause = caused to to' r.last.fallen on r.cause;
    level = λ none. same (r.level none);
    reads_on = r.reads_on;
  }

  -- by the status; level is so where the disk didn't fail
  pub says : (fell : Type 0) (to : ℕ → Type 0) (level untouched : Type 0) (most : ℕ) (ahead ahead' : Option Readings) (bytes unread held after : Option (List ℕ)) (before now : ℕ) (end : End) (failed : Bool) (status : Status)
      → RanKnown (CountedBy most) (most ≡ 0) ahead ahead' bytes unread held after before now (told disk) (told again) (images_of may_leave moment left_since disk again) end
      → status ≡ status_of end failed → ((c : ℕ) → CountedBy most c → to c) → (failed ≡ true → 0 < most) → (failed ≡ false → most ≡ 0) → (most ≡ 0 → level)
      → SaysKnown fell to level untouched ahead ahead' bytes unread held status after before now (told_at told place) (told_at told place') (images_at may_leave moment left_since place place')
  unfolding ran_there
  says fell to level untouched most ahead ahead' bytes unread held after before now end failed status known by on some stays same b w e f =
      let x = known b w e f in
      let s = There w x.2 before now in
      let run = ran_there (CountedBy most) to (most ≡ 0) level x.0 (ReadsOn ahead ahead') b unread w x.2 before now end on same x.4 in
      let well : failed ≡ false → (run.last.fallen ≡ None) × level = λ still. (none_counted x.4.last.fallen most x.4.cause (stays still), same (stays still)) in
      let ill : failed ≡ true → (f : Fallen) × (run.last.fallen ≡ Some f) = λ fails. some_counted x.4.last.fallen most x.4.level (some fails) in
      (x.0, x.1, x.2, x.3, inl (subst (λ (st : Status). Answers to level x.0 (ReadsOn ahead ahead') b unread s st) (sym by) (answers to level x.0 (ReadsOn ahead ahead') b unread s end failed run well ill)))
