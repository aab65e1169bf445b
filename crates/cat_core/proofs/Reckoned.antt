-- What was read of a keeper, and what its payloads stand for.
use Rattle.std.proofs.Common.{◌≡◌, ℕ, ◌+◌, ◌≤◌, ◌<◌, true, Result, List, [], length, reverse, Option, Some, None, Ok, Err, IfSome, refl, sym, ap, subst, ◌∙◌, arith}
use Rattle.sha2.specs.Sha256.{sha256}
use Rattle.cat_io.specs.Causes.{Rose}
use Rattle.cat_io.specs.Crashes as crashes
use Rattle.cat_codes.specs.declared.fault.FieldFault.{FieldFault}
use Rattle.cat_codes.specs.Code.{whole}
use Rattle.cat_frames.specs.declared.checkpoint.Checkpoint.{Checkpoint}
use Rattle.cat_frames.specs.Bases.{by_reading, from_checkpoint, from_nothing, opened_by}
use Rattle.cat_frames.specs.Checkpoints.{checkpoint_code}
use Rattle.cat_keeper.specs.declared.keeper.Keeper.{Ghosts}
use Rattle.cat_keeper.specs.Bases.{base_of, entries_of}
use Rattle.cat_keeper.specs.Moments.{followed}
use Rattle.cat_checks.specs.Histories.{AreFrom, IsLegalFrom, begun}
use Rattle.cat_checks.specs.SinceLaws.{from_alike, legal_since}
use Rattle.cat_checks.specs.StartingLaws.{first_may}
use Rattle.cat_model.specs.declared.limits.Limits.{Limits}
use Rattle.cat_model.specs.declared.log_entry.LogEntry.{LogEntry}
use Rattle.cat_model.specs.Book.{Book, first_book}
use Rattle.cat_frames.specs.Standing.{may_start}
use Rattle.cat_model.specs.Turns.{Opened}
use Rattle.cat_state.specs.Kept.{AreReadBack, spellings}
use Rattle.cat_core.specs.declared.tickets.Start.{Start}
use Rattle.cat_core.specs.Opening.{IsAdded, IsEntryAt, IsIllegalAt, IsLedSoFar, IsLedTo, MayStart, WasRead, next_by}
use Rattle.cat_core.specs.Records.{IsBaseAt, StandFor, StandThrough}
use Rattle.cat_core.specs.Stored.{opened_held}
use Rattle.cat_core.proofs.Records.{through_opened}
use Rattle.cat_core.proofs.Reopened.{sound_led}
use Rattle.cat_core.proofs.Led.{StartsAt, if_told, illegal_here, one_more, told_if}

-- ---- as they stand for it

-- the limits are those of the reading
limits_opened : (limits : Limits) (payloads faults : ℕ) (o : Opened) (base : Option (List ℕ)) → opened_by limits payloads faults base ≡ Some o → o.state.limits ≡ limits
limits_opened limits payloads faults o None opened = let same : from_nothing limits payloads faults ≡ o = cc in sym (ap (λ (x : Opened). x.state.limits) same)
limits_opened limits payloads faults o (Some base) opened = by (whole (checkpoint_code sha256) base) opened
  where
    by : (reading : Result Checkpoint FieldFault) → by_reading limits payloads faults reading ≡ Some o → o.state.limits ≡ limits
    by (Err fault) is = absurd cc
    by (Ok c) is = let same : from_checkpoint limits payloads faults c ≡ o = cc in sym (ap (λ (x : Opened). x.state.limits) same)

-- what a log is opened from tells the same drafts, whatever its counts are
pub counted_alike : (o from : Opened) (limits : Limits) (base : Option (List ℕ)) → opened_by limits o.payloads o.faults base ≡ Some o → opened_by limits 0 0 base ≡ Some from → (from.draft ≡ o.draft) × (from.drafts ≡ o.drafts)
counted_alike o from limits None opened again =
    let here : from_nothing limits o.payloads o.faults ≡ o = cc in
    let there : from_nothing limits 0 0 ≡ from = cc in
    (sym (ap (λ (x : Opened). x.draft) there) ∙ ap (λ (x : Opened). x.draft) here, sym (ap (λ (x : Opened). x.drafts) there) ∙ ap (λ (x : Opened). x.drafts) here)
counted_alike o from limits (Some base) opened again = by (whole (checkpoint_code sha256) base) opened again
  where
    by : (reading : Result Checkpoint FieldFault) → by_reading limits o.payloads o.faults reading ≡ Some o → by_reading limits 0 0 reading ≡ Some from → (from.draft ≡ o.draft) × (from.drafts ≡ o.drafts)
    by (Err fault) opened again = absurd cc
    by (Ok c) opened again =
        let here : from_checkpoint limits o.payloads o.faults c ≡ o = cc in
        let there : from_checkpoint limits 0 0 c ≡ from = cc in
        (sym (ap (λ (x : Opened). x.draft) there) ∙ ap (λ (x : Opened). x.draft) here, sym (ap (λ (x : Opened). x.drafts) there) ∙ ap (λ (x : Opened). x.drafts) here)

-- so all of a log may stand behind what it was opened from
first_comes : (o : Opened) (log : List LogEntry) (base : Option (List ℕ)) → AreFrom o log → opened_by o.state.limits o.payloads o.faults base ≡ Some o → (from : Opened) → opened_by o.state.limits 0 0 base ≡ Some from → AreFrom from log
first_comes o log base are opened from again = let same = counted_alike o from o.state.limits base opened again in from_alike o from log same.0 same.1 are

-- a log may start from there
starts_from : (o : Opened) (base : Option (List ℕ)) → IsBaseAt o [] base → MayStart o base → may_start sha256 o.state ≡ true
starts_from o None based may = subst (λ (x : Opened). may_start sha256 x.state ≡ true) (sym based.1) (first_may sha256 o.state.limits)
starts_from o (Some base) based may = may

stand_opened : (o : Opened) (log : List LogEntry) (ps : List (List ℕ)) → IsBaseAt o [] (base_of ps) → entries_of ps ≡ spellings log → AreReadBack log
    → opened_by o.state.limits o.payloads o.faults (base_of ps) ≡ Some o → MayStart o (base_of ps) → IsLegalFrom o log → StandFor o log ps
stand_opened o log ps based spelled read opened may legal = record {
  count = 0;
  within = omega arith;
  base = based;
  entries = spelled;
  read = read;
  may = starts_from o (base_of ps) based may;
  comes = first_comes o log (base_of ps) legal.drafts opened;
  since = legal_since sha256 (begun o) log legal.legal;
}

-- no payloads stand for the empty log that goes on from nothing
empty_payloads : (told : Option (List (List ℕ))) (limits : Limits) (faults : ℕ) → IfSome told (λ ps. ps ≡ []) → IfSome told (StandThrough (from_nothing limits 0 faults) [])
empty_payloads None limits faults none = tt
empty_payloads (Some ps) limits faults none = subst (StandThrough (from_nothing limits 0 faults) []) (sym none) (through_opened (from_nothing limits 0 faults) [] [] refl (stand_opened (from_nothing limits 0 faults) [] [] (refl, refl) refl tt refl tt (record { legal = tt; drafts = tt })))

-- so it is of the ledger of the empty catalogue
pub empty_held : (told : Option (List (List ℕ))) (limits : Limits) (faults : ℕ) (book : Book) (start : Start) → book ≡ first_book sha256 limits → start ≡ record { draft = 0; drafts = []; payloads = 0; faults = faults } → IfSome told (λ ps. ps ≡ [])
    → IfSome told (StandThrough (opened_held book.base start) (reverse book.log))
empty_held told limits faults book start first empty none =
    subst (λ (b : Book). IfSome told (StandThrough (opened_held b.base start) (reverse b.log))) (sym first)
    (subst (λ (s : Start). IfSome told (StandThrough (opened_held (first_book sha256 limits).base s) [])) (sym empty) (empty_payloads told limits faults none))

-- ---- the keeper

pub same_told : {A : Type 0} (old new : Option A) → crashes.Told old new (λ x y. y ≡ x) → new ≡ old
same_told None None same = refl
same_told None (Some y) same = absurd same
same_told (Some x) None same = absurd same
same_told {A} (Some x) (Some y) same = ap (λ (z : A). Some z) same

module _ {K : Type 0} (members : Ghosts K) where
  -- after one more that changed nothing
  pub stays_on : ((k : K) (t : ℕ) (c : Option (List (List ℕ))) → t ≤ members.moment k → members.may_leave k c → members.left_since k t c) → (old mid new : K)
      → WasRead members old mid → WasRead members mid new → WasRead members old new
  stays_on counts_now old mid new one two = record {
    payloads = two.payloads ∙ one.payloads;
    number = two.number ∙ one.number;
    first = two.first ∙ one.first;
    format = two.format ∙ one.format;
    fallen = two.fallen ∙ one.fallen;
    flies = two.flies ∙ one.flies;
    later = omega (arith, one.later, two.later);
    crash = followed members.moment members.left_since old mid new (members.may_leave old) (members.may_leave mid) (members.may_leave old) one.crash two.crash (λ c now. now) (λ c now. one.crash.each c (counts_now mid (members.moment old) c one.crash.later now));
  }

  -- a fault after calls that changed nothing
  pub rose_on : (old mid new : K) → WasRead members old mid → Rose (members.faults mid) (members.faults new) → Rose (members.faults old) (members.faults new)
  rose_on old mid new one rose = omega (arith, one.later, rose)

  module _ (old now : K) (counted : (ps : List (List ℕ)) → members.told old ≡ Some ps → length (entries_of ps) ≡ members.kept old) (stayed : WasRead members old now) (limits : Limits) (o : Opened) (starts : StartsAt (members.told old) limits o) (i : ℕ) (there : i < members.kept old)
      (before : Book) (so_far : IsLedSoFar (members.told old) o i before) where
    as_before : (payload : List ℕ) → IsEntryAt (members.told now) i payload → IsEntryAt (members.told old) i payload
    as_before payload is = subst (λ (t : Option (List (List ℕ))). IsEntryAt t i payload) stayed.payloads is

    -- the next of its payloads was added
    pub next_added : (after : Book) → (payload : List ℕ) × IsEntryAt (members.told now) i payload × IsAdded o before after payload → IsLedSoFar (members.told old) o (i + 1) after
    next_added after one = one_more (members.told old) limits o starts i (members.kept old) counted there before one.0 so_far (as_before one.0 one.1) after one.2

    -- the next of its payloads leads to no book
    pub next_refused : (place : ℕ) → (place ≡ o.state.place + i + 1) × ((payload : List ℕ) × IsEntryAt (members.told now) i payload × (next_by o before payload ≡ None)) → IsIllegalAt (members.told old) limits place
    next_refused place one = illegal_here (members.told old) limits o starts i (members.kept old) counted there before one.1.0 so_far (as_before one.1.0 one.1.1) place one.0 one.1.2

  -- the keeper's payloads stand for the log that they led to
  pub opened_payloads : (old new : K) (limits : Limits) (o : Opened) (book : Book) → IsLedTo (members.told old) (members.kept old) limits o book → WasRead members old new → IfSome (members.told new) (StandThrough o (reverse book.log))
  opened_payloads old new limits o book led stayed = subst (λ (t : Option (List (List ℕ))). IfSome t (StandThrough o (reverse book.log))) (sym stayed.payloads)
      (if_told (members.told old) _ (λ ps here.
      let its : o.state.limits ≡ limits = limits_opened limits o.payloads o.faults o (base_of led.payloads) led.begins in
      let opened : opened_by o.state.limits o.payloads o.faults (base_of led.payloads) ≡ Some o = ap (λ (l : Limits). opened_by l o.payloads o.faults (base_of led.payloads)) its ∙ led.begins in
      let same : ps ≡ led.payloads = told_if (members.told old) (λ ps. ps ≡ led.payloads) ps here led.are in
      through_opened o (reverse book.log) ps (told_if (members.told old) (λ ps. o.payloads ≡ length ps) ps here led.total)
      (subst (StandFor o (reverse book.log)) (sym same) (stand_opened o (reverse book.log) led.payloads led.based led.spelled led.read opened led.starts (sound_led (members.told old) (members.kept old) limits o book led).legal))))
