-- What a store answers and leaves by what a call made in its ledger.
use Rattle.std.proofs.Common.{◌≡◌, ◌≤◌, ℕ, arith, List, [], ◌∷◌, ◌++◌, Option, Some, None, Result, Ok, Err, refl, sym, ap, subst, ◌∙◌}
use Rattle.std.specs.Option.{option_map}
use Rattle.std.specs.Prelude.{IfSome}
use Rattle.cat_io.specs.Causes.{Rose}
use Rattle.cat_keeper.specs.declared.keeper.Keeper.{Ghosts}
use Rattle.cat_keeper.specs.Bases.{bases_in}
use Rattle.cat_model.specs.declared.log_entry.LogEntry.{LogEntry}
use Rattle.cat_model.specs.declared.refusal.Refusal.{Refusal}
use Rattle.cat_model.specs.declared.refusal.Refusal.TheVariants.{BadRequest, RefNotFound, RefExists, ContentNotFound, Conflicts, Expired, RetriesSpent, SweepOpen, Limit, Collision, Fault, Down, NoMemory, NoRoute, WrongMethod, TooLarge, Encoding, OldFormat}
use Rattle.cat_model.specs.declared.refusal.Refused.{Refused}
use Rattle.cat_model.specs.declared.reply.Told.{Told}
use Rattle.cat_model.specs.Book.{Book, after_call}
use Rattle.cat_model.specs.Calls.{Called}
use Rattle.cat_model.specs.Drafts.{Open}
use Rattle.cat_model.specs.Mark.{FailedAppend}
use Rattle.cat_model.specs.Turns.{Opened}
use Rattle.cat_state.specs.declared.failure.Failure.TheVariants as failures
use Rattle.cat_state.specs.declared.unmade.Unmade.{Unmade}
use Rattle.cat_state.specs.declared.unmade.Unmade.TheVariants.{Failed, NotKept}
use Rattle.cat_state.specs.Kept.{Keeps, spelling}
use Rattle.cat_core.specs.Making.{Runs}
use Rattle.cat_core.specs.PlainLaws.{IsOther}
use Rattle.cat_core.specs.declared.tickets.Fallen.{Fallen}
use Rattle.cat_core.specs.declared.tickets.ClosedSweep.{ClosedSweep}
use Rattle.cat_core.specs.declared.tickets.OpenDraft.{OpenDraft}
use Rattle.cat_core.specs.declared.tickets.OpenSweep.{OpenSweep}
use Rattle.cat_core.specs.declared.tickets.Start.{Start}
use Rattle.cat_core.specs.declared.tickets.Ticket.{Ticket}
use Rattle.cat_core.specs.Drafts.{IsRefused, Refers, Refuses}
use Rattle.cat_core.specs.Kept.{IsTold}
use Rattle.cat_core.specs.Made.{fallen_by, told_at}
use Rattle.cat_core.specs.RecordLaws.{stands_now}
use Rattle.cat_core.specs.Records.{IsInFlight, StandFlown, StandThrough}
use Rattle.cat_core.specs.Stored.{IsUp, MayBeDown, Stored, failed, fallen_faults, faults_at, held_mark, held_open, log_of, opened_held}
use Rattle.cat_core.proofs.BaseCounts.{bases_fell, bases_grew, bases_stayed}
use Rattle.cat_core.proofs.InStep.{LogsRight}
use Rattle.cat_core.proofs.Keeping.{keeps_told, leaves_made}
use Rattle.cat_core.proofs.Records.{stands_flown}
use Rattle.cat_core.proofs.Sound.{Brings, IsCallIn}

-- ---- refusals

pub refuses : {K : Type 0} (called : Called) (caller : ℕ) (s : Stored K) (r : Refused) (s' : Stored K) (left_open : Open) (why : Refusal) → IsOther why → IsRefused called s r s' left_open → Refuses called caller s r why s' left_open
refuses called caller s r s' left_open (BadRequest x) other is = is
refuses called caller s r s' left_open RefNotFound other is = is
refuses called caller s r s' left_open RefExists other is = is
refuses called caller s r s' left_open (ContentNotFound x) other is = is
refuses called caller s r s' left_open (Conflicts x) other is = is
refuses called caller s r s' left_open (Expired x y) other is = is
refuses called caller s r s' left_open (RetriesSpent x) other is = is
refuses called caller s r s' left_open (SweepOpen x) other is = is
refuses called caller s r s' left_open (Limit x y) other is = is
refuses called caller s r s' left_open (Collision x y z) other is = is
refuses called caller s r s' left_open Fault other is = absurd cc
refuses called caller s r s' left_open (Down x) other is = absurd cc
refuses called caller s r s' left_open NoMemory other is = absurd cc
refuses called caller s r s' left_open NoRoute other is = is
refuses called caller s r s' left_open (WrongMethod x) other is = is
refuses called caller s r s' left_open TooLarge other is = is
refuses called caller s r s' left_open Encoding other is = is
refuses called caller s r s' left_open OldFormat other is = is

-- ---- what is in flight

pub up_of : (x : FailedAppend) → None ≡ Some x → ⊥
up_of x e = cc

some_of : (a b : FailedAppend) → Some a ≡ Some b → a ≡ b
some_of a b e = cc

module _ {K : Type 0} (down : K → Option ℕ) (in_flight : K → Option (List ℕ)) (flies : (k : K) (c : ℕ) → down k ≡ Some c → (p : List ℕ) × (in_flight k ≡ Some p)) (waits : (k : K) → down k ≡ None → in_flight k ≡ None) where
  -- where an append has failed, the mark tells it
  fell_as : (k : K) (f : Fallen) → down k ≡ Some f.count → (x : FailedAppend) × (failed (Some f) (in_flight k) ≡ Some x) × (x.count ≡ f.count) × (in_flight k ≡ Some x.payload)
  fell_as k f is =
      let p = flies k f.count is in
      (record { caller = f.caller; count = f.count; payload = p.0 }, ap (failed (Some f)) p.1, refl, p.1)

  pub up_here : (k : K) (fallen : Option Fallen) → down k ≡ option_map (λ (f : Fallen). f.count) fallen → failed fallen (in_flight k) ≡ None → fallen ≡ None
  up_here k None is up = refl
  up_here k (Some f) is up = let x = fell_as k f is in absurd (up_of x.0 (sym up ∙ x.1))

  pub up_inside : (k : K) (fallen : Option Fallen) → down k ≡ option_map (λ (f : Fallen). f.count) fallen → (s x : Stored K) → s ≡ x → failed fallen (in_flight k) ≡ s.mark.fault → IsUp x → fallen ≡ None
  up_inside k fallen is s x same fault up = up_here k fallen is (fault ∙ ap (λ (z : Stored K). z.mark.fault) same ∙ up)

  pub up_seen : (fallen : Option Fallen) (s x : Stored K) → s ≡ x → down s.keeper ≡ option_map (λ (f : Fallen). f.count) fallen → failed fallen (in_flight s.keeper) ≡ s.mark.fault → IsUp x → down x.keeper ≡ None
  up_seen fallen s x same is fault up =
      subst (λ (z : Stored K). down z.keeper ≡ None) same (is ∙ ap (option_map (λ (f : Fallen). f.count)) (up_inside s.keeper fallen is s x same fault up))

  pub may_be_down : (k : K) (s : Stored K) (fallen : Option Fallen) → down k ≡ option_map (λ (f : Fallen). f.count) fallen → s.mark.fault ≡ failed fallen (in_flight k) → MayBeDown s (option_map (λ (f : Fallen). f.count) fallen)
  may_be_down k s None is fault = fault
  may_be_down k s (Some f) is fault = let x = fell_as k f is in (x.0, fault ∙ x.1, x.2)

  -- it is down at the count of the one that fell
  pub down_at_fallen : (k : K) (f : Fallen) (fallen : Option Fallen) (fault : Option FailedAppend) → fallen ≡ Some f → down k ≡ option_map (λ (f : Fallen). f.count) fallen → fault ≡ failed fallen (in_flight k) → (x : FailedAppend) × (fault ≡ Some x) × (x.count ≡ f.count)
  down_at_fallen k f fallen fault some is same =
      let x = fell_as k f (is ∙ ap (option_map (λ (f : Fallen). f.count)) some) in
      (x.0, same ∙ ap (λ (g : Option Fallen). failed g (in_flight k)) some ∙ x.1, x.2)

  pub tells_down : (k : K) (fallen : Option Fallen) → down k ≡ option_map (λ (f : Fallen). f.count) fallen → down k ≡ option_map (λ (x : FailedAppend). x.count) (failed fallen (in_flight k))
  tells_down k None is = is
  tells_down k (Some f) is = let x = fell_as k f is in is ∙ sym (ap (λ (n : ℕ). Some n) x.2) ∙ sym (ap (option_map (λ (x : FailedAppend). x.count)) x.1)

  pub tells_flight : (k : K) (fallen : Option Fallen) → down k ≡ option_map (λ (f : Fallen). f.count) fallen → in_flight k ≡ option_map (λ (x : FailedAppend). x.payload) (failed fallen (in_flight k))
  tells_flight k None is = waits k is
  tells_flight k (Some f) is = let x = fell_as k f is in x.3 ∙ sym (ap (option_map (λ (x : FailedAppend). x.payload)) x.1)

  -- the mark tells at which count
  faults_told : (began : ℕ) (k : K) (fallen : Option Fallen) → down k ≡ option_map (λ (f : Fallen). f.count) fallen → fallen_faults began fallen ≡ faults_at began (failed fallen (in_flight k))
  faults_told began k None is = refl
  faults_told began k (Some f) is = let x = fell_as k f is in sym x.2 ∙ sym (ap (faults_at began) x.1)

  pub faults_seen : (faults : K → ℕ) (fallen : Option Fallen) (s v : Stored K) → s ≡ v → s.mark.fault ≡ failed fallen (in_flight s.keeper) → down s.keeper ≡ option_map (λ (f : Fallen). f.count) fallen → faults s.keeper ≡ fallen_faults s.opened.faults fallen → faults v.keeper ≡ faults_at v.opened.faults v.mark.fault
  faults_seen faults fallen s v same fault is level =
      subst (λ (z : Stored K). faults z.keeper ≡ faults_at z.opened.faults z.mark.fault) same (level ∙ faults_told s.opened.faults s.keeper fallen is ∙ ap (faults_at s.opened.faults) (sym fault))

pub down_none : {K : Type 0} (down : K → Option ℕ) (k : K) (fallen : Option Fallen) → down k ≡ option_map (λ (f : Fallen). f.count) fallen → fallen ≡ None → down k ≡ None
down_none down k fallen is none = is ∙ ap (option_map (λ (f : Fallen). f.count)) none

-- that count is above the one at the log's start, or at its type's end
rose_at : (began : ℕ) (fallen : Option Fallen) (flight : Option (List ℕ)) → IfSome fallen (λ f. (began ≤ f.count) × Rose began f.count) → (x : FailedAppend) → failed fallen flight ≡ Some x → (began ≤ x.count) × Rose began x.count
rose_at began None flight rose x is = absurd (up_of x is)
rose_at began (Some f) None rose x is = absurd (up_of x is)
rose_at began (Some f) (Some payload) rose x is = let same : f.count ≡ x.count = cc in subst (λ (n : ℕ). (began ≤ n) × Rose began n) same rose

pub rose_seen : {K : Type 0} (in_flight : K → Option (List ℕ)) (fallen : Option Fallen) (s v : Stored K) → s ≡ v → s.mark.fault ≡ failed fallen (in_flight s.keeper) → IfSome fallen (λ f. (s.opened.faults ≤ f.count) × Rose s.opened.faults f.count) → (x : FailedAppend) → v.mark.fault ≡ Some x
    → (v.opened.faults ≤ x.count) × Rose v.opened.faults x.count
rose_seen {K} in_flight fallen s v same fault rose x is =
    subst (λ (z : Stored K). (z.opened.faults ≤ x.count) × Rose z.opened.faults x.count) same (rose_at s.opened.faults fallen (in_flight s.keeper) rose x (sym fault ∙ ap (λ (z : Stored K). z.mark.fault) same ∙ is))

-- what is in flight is the last of payloads that stand for the log, or for it and one entry more
flown_told : (o : Opened) (log : List LogEntry) (told : Option (List (List ℕ))) (p : List ℕ) → IfSome told (IsInFlight o log p) → IfSome told (StandThrough o log) → IfSome told (λ ps. StandFlown o log p (ps ++ p ∷ []))
flown_told o log None p flies stand = tt
flown_told o log (Some ps) p flies stand = stands_flown o log ps p (stands_now o log ps stand) flies

flown_at : (o : Opened) (log : List LogEntry) (told : Option (List (List ℕ))) (fallen : Option Fallen) (flight : Option (List ℕ)) → IfSome fallen (λ f. IfSome flight (λ p. IfSome told (IsInFlight o log p))) → IfSome told (StandThrough o log) → (x : FailedAppend) → failed fallen flight ≡ Some x
    → IfSome told (λ ps. StandFlown o log x.payload (ps ++ x.payload ∷ []))
flown_at o log told None flight flies stand x is = absurd (up_of x is)
flown_at o log told (Some f) None flies stand x is = absurd (up_of x is)
flown_at o log told (Some f) (Some p) flies stand x is = let same : p ≡ x.payload = cc in subst (λ (q : List ℕ). IfSome told (λ ps. StandFlown o log q (ps ++ q ∷ []))) same (flown_told o log told p flies stand)

pub flown_seen : {K : Type 0} (told : K → Option (List (List ℕ))) (in_flight : K → Option (List ℕ)) (fallen : Option Fallen) (s v : Stored K) → s ≡ v → s.mark.fault ≡ failed fallen (in_flight s.keeper) → IfSome fallen (λ f. IfSome (in_flight s.keeper) (λ p. IfSome (told s.keeper) (IsInFlight s.opened (log_of s) p)))
    → IfSome (told s.keeper) (StandThrough s.opened (log_of s)) → (x : FailedAppend) → v.mark.fault ≡ Some x → IfSome (told v.keeper) (λ ps. StandFlown v.opened (log_of v) x.payload (ps ++ x.payload ∷ []))
flown_seen {K} told in_flight fallen s v same fault flies stand x is =
    subst (λ (z : Stored K). IfSome (told z.keeper) (λ ps. StandFlown z.opened (log_of z) x.payload (ps ++ x.payload ∷ []))) same
    (flown_at s.opened (log_of s) (told s.keeper) fallen (in_flight s.keeper) flies stand x (sym fault ∙ ap (λ (z : Stored K). z.mark.fault) same ∙ is))

-- ---- calls

module _ {K : Type 0} (members : Ghosts K)
    (safe : (k : K) (ps : List (List ℕ)) (c : Option (List (List ℕ))) → members.down k ≡ None → members.told k ≡ Some ps → members.may_leave k c → c ≡ Some ps)
    (only_now : (k : K) (c : Option (List (List ℕ))) → members.left_since k (members.moment k) c → members.may_leave k c) where
  -- a store as it is held
  abbrev pub stored_at : Book → K → Option Fallen → ℕ → Option Ticket → Option Ticket → List OpenDraft → Option OpenSweep → Option ClosedSweep → Opened → Stored K
  stored_at book keeper fallen drafter dropped expired held sweep closed o = record { book = book; keeper = keeper; mark = held_mark book.draft drafter dropped expired sweep closed (failed fallen (members.in_flight keeper)) (members.form keeper) (members.start keeper) (bases_in (members.told keeper)); left_open = held_open held sweep; opened = o }

  module _ (caller : ℕ) (before after : Book) (old new : K) (drafter : ℕ) (dropped expired : Option Ticket) (held : List OpenDraft) (sweep : Option OpenSweep) (closed : Option ClosedSweep) (start : Start) (call : Book → Called) (right : LogsRight (call before)) (number : ℕ) (is : IsCallIn caller number before (call before)) where
    abbrev called : Called
    called = call before

    abbrev s : Stored K
    s = stored_at before old None drafter dropped expired held sweep closed (opened_held before.base start)

    abbrev left : Option Fallen → Stored K
    left fallen = stored_at after new fallen drafter dropped expired held sweep closed (opened_held after.base start)

    -- the journal's format and bases are as they were
    abbrev SameBase : Type 0
    SameBase = (members.form new ≡ members.form old) × (members.start new ≡ members.start old) × (bases_in (members.told new) ≡ bases_in (members.told old))

    -- the book is as it was
    stays_as : SameBase → after ≡ before → left None ≡ record s { keeper = new; left_open = s.left_open }
    stays_as is_same same = λ i. record { book = same i; keeper = new; mark = held_mark (same i).draft drafter dropped expired sweep closed None (is_same.0 i) (is_same.1 i) (is_same.2 i); left_open = held_open held sweep; opened = opened_held (same i).base start }

    goes_as : SameBase → after ≡ after_call before called → left None ≡ record s { book = after_call before called; keeper = new; left_open = s.left_open }
    goes_as is_same same =
        let n : after.draft ≡ before.draft = ap (λ (b : Book). b.draft) same ∙ is.draft in
        λ i. record { book = same i; keeper = new; mark = held_mark (n i) drafter dropped expired sweep closed None (is_same.0 i) (is_same.1 i) (is_same.2 i); left_open = held_open held sweep; opened = opened_held (same i).base start }

    as_before : after.state ≡ before.state → after.log ≡ before.log → after.base ≡ before.base → after.draft ≡ before.draft → after ≡ before
    as_before state log base draft = λ i. record { state = state i; draft = draft i; log = log i; base = base i }

    falls_as : SameBase → (payload : List ℕ) → members.in_flight new ≡ Some payload → after ≡ before
        → left (Some (record { caller = caller; count = members.faults new })) ≡ record s { keeper = new; mark = record (s.mark) { fault = Some (record { caller = caller; count = members.faults new; payload = payload }) }; left_open = s.left_open }
    falls_as is_same payload flies same = λ i. record { book = same i; keeper = new; mark = held_mark (same i).draft drafter dropped expired sweep closed (failed (Some (record { caller = caller; count = members.faults new })) (flies i)) (is_same.0 i) (is_same.1 i) (is_same.2 i); left_open = held_open held sweep; opened = opened_held (same i).base start }

    refers_as : (made : Result Told Unmade) → Runs called before after made → Keeps members old new called.logged made
        → Refers called caller s (left (fallen_by caller (members.faults new) None made)) (told_at before.state.place made)
    refers_as (Ok told_is) runs keeps = record { up = refl; said = runs.said; after = goes_as (keeps.format, keeps.first, bases_grew members old new called.logged keeps) runs.book }
    refers_as (Err NotKept) runs keeps = record {
      up = refl;
      place = refl;
      entry = keeps.entry;
      logged = keeps.one;
      fault = record { caller = caller; count = members.faults new; payload = spelling keeps.entry };
      caller_is = refl;
      payload = refl;
      after = falls_as (keeps.format, keeps.first, bases_fell members old new called.logged keeps) (spelling keeps.entry) keeps.flies (as_before runs.state runs.log runs.base (runs.draft ∙ is.draft));
    }
    refers_as (Err (Failed failures.NoMemory)) runs keeps =
        let low : before.draft ≤ after.draft = runs.kept in
        let high : after.draft ≤ before.draft = subst (λ (n : ℕ). after.draft ≤ n) is.draft runs.taken in
        let n : after.draft ≡ before.draft = omega arith in
        (refl, stays_as (keeps.format, keeps.first, bases_stayed members old new keeps) (as_before runs.state runs.log runs.base n))
    refers_as (Err (Failed (failures.Refused why))) runs keeps =
        let none : called.logged ≡ [] = right.none _ runs.1.said in
        let state : after.state ≡ before.state = ap (λ (b : Book). b.state) runs.1.book ∙ subst (λ (l : List LogEntry). Brings caller number before l called.state) none is.brings in
        let log : after.log ≡ before.log = ap (λ (b : Book). b.log) runs.1.book ∙ ap (λ (l : List LogEntry). l ++ before.log) none in
        let base : after.base ≡ before.base = ap (λ (b : Book). b.base) runs.1.book in
        let draft : after.draft ≡ before.draft = ap (λ (b : Book). b.draft) runs.1.book ∙ is.draft in
        refuses called caller s _ (left None) s.left_open why runs.0 (record { up = refl; said = runs.1.said; none = none; after = stays_as (keeps.format, keeps.first, bases_stayed members old new keeps) (as_before state log base draft) })

    -- all that is told
    pub all_told : (fallen after_fallen : Option Fallen) (x y : Stored K) (place : ℕ) (made : Result Told Unmade) (result : Result Told Refused) → fallen ≡ None → after_fallen ≡ fallen_by caller (members.faults new) fallen made
        → stored_at before old fallen drafter dropped expired held sweep closed (opened_held before.base start) ≡ x → left after_fallen ≡ y → place ≡ before.state.place → result ≡ told_at place made → members.down old ≡ None
        → Runs called before after made → Keeps members old new called.logged made
        → IsTold members caller x y (call x.book) result
    all_told fallen after_fallen x y place made result none fell x_is y_is place_is result_is up runs keeps =
        let ended : Stored K = left (fallen_by caller (members.faults new) None made) in
        let whole : IsTold members caller s ended (call before) (told_at before.state.place made) = record {
          refers = refers_as made runs keeps;
          keeps = keeps_told members safe only_now old new called before after before.state.place made runs keeps;
          crash = leaves_made members safe only_now old new called.logged made up keeps;
        } in
        let answer : told_at before.state.place made ≡ result = ap (λ (p : ℕ). told_at p made) (sym place_is) ∙ sym result_is in
        let last : ended ≡ y = ap left (sym (fell ∙ ap (λ (f : Option Fallen). fallen_by caller (members.faults new) f made) none)) ∙ y_is in
        let first : s ≡ x = ap (λ (f : Option Fallen). stored_at before old f drafter dropped expired held sweep closed (opened_held before.base start)) (sym none) ∙ x_is in
        subst (λ (z : Stored K). IsTold members caller z y (call z.book) result) first
        (subst (λ (z : Stored K). IsTold members caller s z (call before) result) last
        (subst (λ (r : Result Told Refused). IsTold members caller s ended (call before) r) answer whole))
