-- Payloads that were read one after another, and what they led to.
use Rattle.std.proofs.Common.{◌≡◌, ◌≢◌, ℕ, ◌+◌, ◌<◌, ◌^◌, Bool, true, false, ◌||◌, if◌then◌else◌, nat_eq, is_ok, Result, List, [], ◌∷◌, ◌++◌, length, map, get_or, take, drop, reverse, Option, Some, None, Ok, Err, IfOk, IfSome, refl, sym, ap, subst, ◌∙◌, arith, length-append}
use Rattle.std.proofs.lemmas.List.{drop_more, map-append, reverse-append, take-append-drop, take_all, take_more}
use Rattle.std.specs.Int.{w32, to_be_bytes}
use Rattle.std.specs.List.{list_any}
use Rattle.std.specs.Result.{IsErrOf}
use Rattle.std.proofs.lemmas.Nat.{from_be_bytes-to_be_bytes_4}
use Rattle.sha2.specs.Sha256.{sha256}
use Rattle.cat_codes.specs.declared.fault.FieldFault.{FieldFault}
use Rattle.cat_codes.specs.declared.fault.NoMemory.{NoMemory}
use Rattle.cat_codes.specs.Code.{magic_at, u8_at, u32_at, u32_spelling, u64_at, whole}
use Rattle.cat_frames.specs.declared.checkpoint.Checkpoint.{Checkpoint}
use Rattle.cat_frames.specs.BaseLaws.{fits_ascend, fits_commits, fits_contents, state_again}
use Rattle.cat_frames.specs.Bases.{by_reading, checkpoint_of, from_checkpoint, from_nothing, opened_by, state_in}
use Rattle.cat_frames.specs.CheckpointLaws.{is_whole_checkpoint}
use Rattle.cat_frames.specs.Checkpoints.{checkpoint_code, is_checkpoint}
use Rattle.cat_frames.specs.Entries.{log_entry_code, of_nobody}
use Rattle.cat_keeper.specs.Bases.{at_end, base_end, base_of, base_place, end_over, end_with_entry, entries_of, first_of, place_in}
use Rattle.cat_keeper.specs.Kinds.{whole_is_checkpoint}
use Rattle.cat_keeper.specs.Moments.{followed}
use Rattle.cat_checks.specs.Histories.{begun, led_on}
use Rattle.cat_checks.specs.Legal.{draft_is_above, draft_may_come, next_book, next_from, or_at, read_next, replayed}
use Rattle.cat_checks.specs.HistoryLaws.{first_upholds}
use Rattle.cat_checks.specs.StartLaws.{start_upholds}
use Rattle.cat_checks.specs.Upheld.{Upholds}
use Rattle.cat_model.specs.declared.limits.Limits.{Limits}
use Rattle.cat_model.specs.declared.log_entry.LogEntry.{LogEntry}
use Rattle.cat_model.specs.Book.{Book, first_book}
use Rattle.cat_model.specs.Refusing.{◌>>=◌}
use Rattle.cat_frames.specs.Standing.{may_start}
use Rattle.cat_model.specs.Turns.{Opened}
use Rattle.cat_state.specs.Kept.{AreReadBack, spelling, spellings}
use Rattle.cat_core.specs.declared.opening.StoreFault.{StoreFault}
use Rattle.cat_core.specs.declared.replay.Replay.{Replay}
use Rattle.cat_core.specs.declared.tickets.Start.{Start}
use Rattle.cat_core.specs.Opening.{HasBase, IsAdded, IsEntryAt, IsIllegalAt, IsLedSoFar, IsLedTo, MayStart, led_base, led_by, led_from, next_by}
use Rattle.cat_core.specs.Records.{IsBaseAt}
use Rattle.cat_core.specs.Sweeping.{IsFollowed}
use Rattle.cat_core.specs.Stored.{opened_held}
use Rattle.cat_core.specs.Replays.{Begins, ReadsBase, StartsBy, StartsOn, replayed_from}
use Rattle.cat_core.proofs.Records.{entry_is_no_base, read_more}
use Rattle.cat_core.proofs.Replaying.{goes_on, refused_at}

pub if_told : (told : Option (List (List ℕ))) (P : List (List ℕ) → Type 0) → ((ps : List (List ℕ)) → told ≡ Some ps → P ps) → IfSome told P
if_told None P h = tt
if_told (Some ps) P h = h ps refl

pub told_if : (told : Option (List (List ℕ))) (P : List (List ℕ) → Type 0) (ps : List (List ℕ)) → told ≡ Some ps → IfSome told P → P ps
told_if told P ps is h = subst (λ (t : Option (List (List ℕ))). IfSome t P) is h

-- a fault as that of another call
pub fault_of : {T U E : Type 0} (x y : E) → IsErrOf {T = T} (Err x) y → IsErrOf {T = U} (Err x) y
fault_of {T} {U} {E} x y e = let same : x ≡ y = cc in ap (λ (z : E). Err z) same

-- what is done is no fault
pub no_fault : {T E : Type 0} (x : T) (y : E) → IsErrOf (Ok x) y → ⊥
no_fault x y e = absurd cc

-- ---- what payloads lead to, by what their keeper had

module _ (a b : Opened) (draft : a.draft ≡ b.draft) (drafts : a.drafts ≡ b.drafts) where
  comes_alike : (n : ℕ) → draft_may_come a n ≡ draft_may_come b n
  comes_alike n = λ i. draft_is_above (draft i) n || list_any (nat_eq n) (drafts i)

  read_alike : (book : Book) (reading : Result LogEntry FieldFault) → read_next sha256 a book reading ≡ read_next sha256 b book reading
  unfolding next_from
  read_alike book (Err fault) = refl
  read_alike book (Ok e) = ap (λ (t : Bool). if t then next_book sha256 book e else None) (comes_alike e.draft)

  then_alike : (x : Option Book) (place : ℕ) (f g : Book → Result Book ℕ) → ((book : Book) → f book ≡ g book) → (or_at place x >>= f) ≡ (or_at place x >>= g)
  then_alike None place f g same = refl
  then_alike (Some book) place f g same = same book

  replayed_alike : (ps : List (List ℕ)) (book : Book) (place : ℕ) → replayed sha256 a book place ps ≡ replayed sha256 b book place ps
  replayed_alike [] book place = refl
  replayed_alike (p ∷ ps) book place =
      ap (λ (x : Option Book). or_at (place + 1) x >>= λ next. replayed sha256 a next (place + 1) ps) (read_alike book (whole (log_entry_code sha256) p))
      ∙ then_alike (read_next sha256 b book (whole (log_entry_code sha256) p)) (place + 1) (λ next. replayed sha256 a next (place + 1) ps) (λ next. replayed sha256 b next (place + 1) ps) (λ next. replayed_alike ps next (place + 1))

module _ (limits : Limits) (payloads faults : ℕ) where
  based_alike : (place : ℕ) (entries : List (List ℕ)) (reading : Result Checkpoint FieldFault) → led_base place entries (by_reading limits 0 0 reading) ≡ led_base place entries (by_reading limits payloads faults reading)
  based_alike place entries (Err fault) = refl
  based_alike place entries (Ok c) =
      ap (λ (r : Result Book ℕ). if may_start sha256 (state_in limits c) then r else Err c.place) (replayed_alike (from_checkpoint limits 0 0 c) (from_checkpoint limits payloads faults c) refl refl entries (begun (from_checkpoint limits 0 0 c)) c.place)

  pub refused_base : (place at : ℕ) (entries : List (List ℕ)) (base : List ℕ) → led_base place entries (opened_by limits payloads faults (Some base)) ≡ Err at → led_base place entries (opened_by limits 0 0 (Some base)) ≡ Err at
  refused_base place at entries base is = based_alike place entries (whole (checkpoint_code sha256) base) ∙ is

  behind : (place : ℕ) (o : Opened) (entries : List (List ℕ)) → may_start sha256 o.state ≡ true → led_base place entries (Some o) ≡ led_on o entries
  behind place o entries may = rw may refl

  -- what the entries behind a base lead to, the whole leads to
  refused_by : (ps : List (List ℕ)) (base : Option (List ℕ)) (o : Opened) (at : ℕ) → base_of ps ≡ base → opened_by limits payloads faults base ≡ Some o → MayStart o base → led_on o (entries_of ps) ≡ Err at → led_by limits ps ≡ Err at
  refused_by ps None o at is opened may refused =
      let same : from_nothing limits payloads faults ≡ o = cc in
      ap (led_from limits ps) is
      ∙ replayed_alike (from_nothing limits 0 0) (from_nothing limits payloads faults) refl refl (entries_of ps) (begun (from_nothing limits 0 0)) 0
      ∙ ap (λ (x : Opened). led_on x (entries_of ps)) same ∙ refused
  refused_by ps (Some base) o at is opened may refused =
      ap (led_from limits ps) is
      ∙ refused_base (base_place base) at (entries_of ps) base (ap (led_base (base_place base) (entries_of ps)) opened ∙ behind (base_place base) o (entries_of ps) may ∙ refused)

-- ---- payloads of a base and entries

abbrev behind_base : Option (List ℕ) → List (List ℕ) → List (List ℕ)
behind_base None rest = rest
behind_base (Some base) rest = base ∷ rest

abbrev IsBase : Option (List ℕ) → Type 0
IsBase None = Unit {0}
IsBase (Some base) = is_checkpoint base ≡ true

base_there : (base : Option (List ℕ)) (rest : List (List ℕ)) → IsBase base → base_end rest ≡ 0 → (base_of (behind_base base rest) ≡ base) × (entries_of (behind_base base rest) ≡ rest)
base_there None rest kind none = (ap (at_end rest) none, ap (λ (n : ℕ). drop n rest) none)
base_there (Some base) rest kind none =
    let end : base_end (base ∷ rest) ≡ 1 = ap (λ (t : Bool). end_over t (base_end rest)) kind ∙ ap (end_over true) none in
    (ap (at_end (base ∷ rest)) end, ap (λ (n : ℕ). drop n (base ∷ rest)) end)

-- entries are no bases
no_bases : (log : List LogEntry) → base_end (spellings log) ≡ 0
no_bases [] = refl
no_bases (e ∷ log) = ap (end_over (is_checkpoint (spelling e))) (no_bases log) ∙ ap (λ t. end_over t 0) (entry_is_no_base e)

opened_is_base : (limits : Limits) (payloads faults : ℕ) (o : Opened) (base : Option (List ℕ)) → opened_by limits payloads faults base ≡ Some o → IsBase base
unfolding is_whole_checkpoint
opened_is_base limits payloads faults o None opened = tt
opened_is_base limits payloads faults o (Some base) opened = whole_is_checkpoint base (by (whole (checkpoint_code sha256) base) refl opened)
  where
    by : (reading : Result Checkpoint FieldFault) → whole (checkpoint_code sha256) base ≡ reading → by_reading limits payloads faults reading ≡ Some o → is_whole_checkpoint base ≡ true
    by (Ok c) reads is = ap is_ok reads
    by (Err fault) reads is = absurd cc

-- ---- where a log starts

-- it starts so, by the payloads as far as they are told
pub record StartsAt (told : Option (List (List ℕ))) (limits : Limits) (o : Opened) : Type 0 where
  pub base : Option (List ℕ)
  pub is : HasBase told base
  pub total : IfSome told (λ ps. o.payloads ≡ length ps)
  pub opened : opened_by limits o.payloads o.faults base ≡ Some o
  pub may : MayStart o base
  pub based : IsBaseAt o [] base
  pub upheld : Upholds sha256 o.state

-- the counts are those of the reading
counts_are : (limits : Limits) (payloads faults : ℕ) (o : Opened) (base : Option (List ℕ)) → opened_by limits payloads faults base ≡ Some o → (o.payloads ≡ payloads) × (o.faults ≡ faults)
counts_are limits payloads faults o None opened = let same : from_nothing limits payloads faults ≡ o = cc in (sym (ap (λ (x : Opened). x.payloads) same), sym (ap (λ (x : Opened). x.faults) same))
counts_are limits payloads faults o (Some base) opened = by (whole (checkpoint_code sha256) base) opened
  where
    by : (reading : Result Checkpoint FieldFault) → by_reading limits payloads faults reading ≡ Some o → (o.payloads ≡ payloads) × (o.faults ≡ faults)
    by (Err fault) is = absurd cc
    by (Ok c) is = let same : from_checkpoint limits payloads faults c ≡ o = cc in (sym (ap (λ (x : Opened). x.payloads) same), sym (ap (λ (x : Opened). x.faults) same))

module _ (told : Option (List (List ℕ))) (limits : Limits) (faults : ℕ) (r : Replay) (begins : Begins told limits faults r) where
  counts : ((replayed_from r).payloads ≡ r.start.payloads) × ((replayed_from r).faults ≡ faults)
  counts = counts_are limits r.start.payloads faults (replayed_from r) begins.base begins.starts.opened

  pub starts_at : StartsAt told limits (replayed_from r)
  starts_at = record {
    base = begins.base;
    is = begins.is;
    total = begins.total;
    opened = subst (λ (n : ℕ). opened_by limits r.start.payloads n begins.base ≡ Some (replayed_from r)) (sym counts.1) begins.starts.opened;
    may = begins.starts.may;
    based = begins.starts.based;
    upheld = begins.starts.upheld;
  }

  pub begun_faults : r.start.faults ≡ faults
  begun_faults = counts.1

  -- before the first
  pub none_read : IsLedSoFar told (replayed_from r) 0 r.ledger
  none_read =
      let here : begun (replayed_from r) ≡ r.ledger = λ i. record { state = sym begins.starts.here i; draft = sym begins.starts.draft i; log = sym begins.starts.none i; base = r.ledger.base } in
      subst (IsLedSoFar told (replayed_from r) 0) here record { led = refl; number = refl; place = omega arith; are = if_told told _ (λ ps is. refl); read = tt; nobody = refl }

-- what is spelled is of the place that it tells
spelled_place : (c : Checkpoint) → (checkpoint_code sha256).Fits c → base_place ((checkpoint_code sha256).spell c) ≡ c.place
unfolding checkpoint_code u32_spelling
spelled_place c fits = from_be_bytes-to_be_bytes_4 c.place fits.0

-- from a base that was read, and fits
pub starts_by : (limits : Limits) (payloads faults : ℕ) (base : List ℕ) (c : Checkpoint) (r : Replay) → ReadsBase base (Some c) → StartsOn limits payloads faults c r → StartsBy limits payloads faults (Some base) r
starts_by limits payloads faults base c r reads starts =
    let is = starts.opened in
    record {
      opened = ap (by_reading limits payloads faults) reads.0 ∙ ap (λ (o : Opened). Some o) (sym is);
      may = subst (λ (o : Opened). may_start sha256 o.state ≡ true) (sym is) starts.may;
      based = (
        c.drafts,
        record {
          reads = reads.0 ∙ ap (λ (d : Checkpoint). Ok d) (sym (state_again limits c (fits_ascend c reads.1)) ∙ ap (λ (o : Opened). checkpoint_of o.state o.draft c.drafts) (sym is));
          once = starts.once;
        },
      );
      upheld = subst (λ (o : Opened). Upholds sha256 o.state) (sym is) (start_upholds sha256 limits c (fits_commits c reads.1) (fits_contents c reads.1) starts.may);
      place = ap (λ (o : Opened). o.state.place) is ∙ sym (ap base_place reads.2 ∙ spelled_place c reads.1);
      none = starts.none;
      here = starts.here;
      draft = starts.draft;
      followed = starts.followed;
    }

-- or from nothing
starts_empty : (limits : Limits) (payloads faults : ℕ) (r : Replay) → replayed_from r ≡ from_nothing limits payloads faults → r.ledger.log ≡ [] → r.ledger.state ≡ r.ledger.base → r.ledger.draft ≡ r.start.draft → IsFollowed r.drafts.keys r.taken.items r.ledger
    → StartsBy limits payloads faults None r
starts_empty limits payloads faults r is none here draft followed = record {
  opened = ap (λ (o : Opened). Some o) (sym is);
  may = tt;
  based = (refl, is ∙ ap (λ (o : Opened). from_nothing o.state.limits o.payloads o.faults) (sym is));
  upheld = subst (λ (o : Opened). Upholds sha256 o.state) (sym is) (first_upholds sha256 limits);
  place = ap (λ (o : Opened). o.state.place) is;
  none = none;
  here = here;
  draft = draft;
  followed = followed;
}

-- from the ledger of the empty catalogue, where one was made of it
pub starts_new : (limits : Limits) (payloads faults : ℕ) (book : Book) (start : Start) (result : Result Replay NoMemory) → book ≡ first_book sha256 limits → start ≡ record { draft = 0; drafts = []; payloads = payloads; faults = faults } → IfOk result (λ r. r.ledger ≡ book) → IfOk result (λ r. r.start ≡ start)
    → IfOk result (λ r. IsFollowed r.drafts.keys r.taken.items r.ledger) → IfOk result (StartsBy limits payloads faults None)
starts_new limits payloads faults book start (Err e) first empty own from followed = tt
starts_new limits payloads faults book start (Ok r) first empty own from followed =
    let ledger : r.ledger ≡ first_book sha256 limits = own ∙ first in
    let begun : r.start ≡ record { draft = 0; drafts = []; payloads = payloads; faults = faults } = from ∙ empty in
    starts_empty limits payloads faults r (λ i. opened_held (ledger i).base (begun i)) (ap (λ (b : Book). b.log) ledger) (ap (λ (b : Book). b.state) ledger ∙ sym (ap (λ (b : Book). b.base) ledger)) (ap (λ (b : Book). b.draft) ledger ∙ sym (ap (λ (s : Start). s.draft) begun)) followed

-- a base that has no reading
pub refused_reading : (limits : Limits) (payloads faults : ℕ) (base : List ℕ) (place : ℕ) (entries : List (List ℕ)) → ReadsBase base None → led_base place entries (opened_by limits payloads faults (Some base)) ≡ Err place
refused_reading limits payloads faults base place entries none = by (whole (checkpoint_code sha256) base) none
  where
    by : (reading : Result Checkpoint FieldFault) → is_ok reading ≡ false → led_base place entries (by_reading limits payloads faults reading) ≡ Err place
    by (Ok c) none = absurd cc
    by (Err fault) none = refl

-- or from whose state no log may start
pub refused_start : (limits : Limits) (payloads faults : ℕ) (base : List ℕ) (c : Checkpoint) (place : ℕ) (entries : List (List ℕ)) → ReadsBase base (Some c) → may_start sha256 (state_in limits c) ≡ false → place ≡ base_place base → led_base place entries (opened_by limits payloads faults (Some base)) ≡ Err place
refused_start limits payloads faults base c place entries reads may at =
    ap (λ (r : Result Checkpoint FieldFault). led_base place entries (by_reading limits payloads faults r)) reads.0
    ∙ ap (λ (t : Bool). if t then led_on (from_checkpoint limits payloads faults c) entries else Err c.place) may
    ∙ ap (λ (n : ℕ). Err n) (sym (at ∙ ap base_place reads.2 ∙ spelled_place c reads.1))

-- ---- what a keeper starts from

-- it starts so, by what was read of the keeper
begins_by : (told : Option (List (List ℕ))) (limits : Limits) (payloads faults : ℕ) (base : Option (List ℕ)) (r : Replay) → HasBase told base → IfSome told (λ ps. payloads ≡ length ps) → StartsBy limits payloads faults base r → Begins told limits faults r
begins_by told limits payloads faults base r is total starts =
    let n : r.start.payloads ≡ payloads = (counts_are limits payloads faults (replayed_from r) base starts.opened).0 in
    record { base = base; is = is; total = subst (λ (k : ℕ). IfSome told (λ ps. k ≡ length ps)) (sym n) total; starts = subst (λ (k : ℕ). StartsBy limits k faults base r) (sym n) starts }

-- so it does where it is at the keeper's place
pub begins_at : (told : Option (List (List ℕ))) (limits : Limits) (payloads faults now place : ℕ) (base : Option (List ℕ)) (r : Replay) (result : Result Replay StoreFault) → HasBase told base → IfSome told (λ ps. payloads ≡ length ps) → StartsBy limits payloads faults base r → faults ≡ now
    → IfOk result (λ found. (found ≡ r) × (found.ledger.base.place ≡ place)) → IfOk result (Begins told limits now)
begins_at told limits payloads faults now place base r (Err e) is total starts same here = tt
begins_at told limits payloads faults now place base r (Ok found) is total starts same here =
    subst (λ (x : Replay). Begins told limits now x) (sym here.0) (subst (λ (n : ℕ). Begins told limits n r) same (begins_by told limits payloads faults base r is total starts))

-- a base that is too short
short_base : (limits : Limits) (place : ℕ) → opened_by limits 0 0 (Some (8 ∷ to_be_bytes w32 place)) ≡ None
unfolding whole checkpoint_code magic_at u32_at u64_at
short_base limits place = refl

-- another place than the keeper's comes of payloads that aren't told, and these may be a base that is too short
other_place : (told : Option (List (List ℕ))) (limits : Limits) (payloads faults first : ℕ) (base : Option (List ℕ)) (r : Replay) → HasBase told base → ((ps : List (List ℕ)) → told ≡ Some ps → first_of ps ≡ first) → StartsBy limits payloads faults base r
    → (r.ledger.base.place ≡ first → ⊥) → first < 2 ^ 32 → IsIllegalAt told limits first
other_place None limits payloads faults first base r is begins starts other short = record {
  payloads = (8 ∷ to_be_bytes w32 first) ∷ [];
  are = tt;
  refused = ap (led_base (base_place (8 ∷ to_be_bytes w32 first)) []) (short_base limits first) ∙ ap (λ (n : ℕ). Err n) (from_be_bytes-to_be_bytes_4 first short);
}
other_place (Some ps) limits payloads faults first base r is begins starts other short = absurd (other (starts.place ∙ ap place_in is ∙ begins ps refl))

pub other_at : (told : Option (List (List ℕ))) (limits : Limits) (payloads faults first : ℕ) (base : Option (List ℕ)) (r : Replay) (at : ℕ) → HasBase told base → ((ps : List (List ℕ)) → told ≡ Some ps → first_of ps ≡ first) → StartsBy limits payloads faults base r
    → (at ≡ first) × (at < 2 ^ 32) × (r.ledger.base.place ≢ first) → IsIllegalAt told limits at
other_at told limits payloads faults first base r at is begins starts other =
    subst (IsIllegalAt told limits) (sym other.0) (other_place told limits payloads faults first base r is begins starts other.2 (subst (λ (n : ℕ). n < 2 ^ 32) other.0 other.1))

-- ---- the payloads so far

module _ (told : Option (List (List ℕ))) (limits : Limits) (o : Opened) (starts : StartsAt told limits o) (i kept : ℕ) (counted : (ps : List (List ℕ)) → told ≡ Some ps → length (entries_of ps) ≡ kept) (there : i < kept) (before : Book) (payload : List ℕ)
    (so_far : IsLedSoFar told o i before) (is : IsEntryAt told i payload) where
  longer : (after : Book) (added : IsAdded o before after payload) → reverse after.log ≡ reverse before.log ++ added.entry ∷ []
  longer after added = ap (λ (l : List LogEntry). reverse l) added.newest ∙ reverse-append (added.entry ∷ []) before.log

  -- with one more
  pub one_more : (after : Book) → IsAdded o before after payload → IsLedSoFar told o (i + 1) after
  one_more after added = record {
    led = ap (led_on o) added.spelled ∙ goes_on sha256 o payload (begun o) before after o.state.place (spellings (reverse before.log)) so_far.led added.next;
    number = omega (arith, ap length added.spelled, length-append (spellings (reverse before.log)) (payload ∷ []), so_far.number);
    place = omega (arith, added.place, so_far.place);
    are = if_told told _ (λ ps here.
        let old : spellings (reverse before.log) ≡ take i (entries_of ps) = told_if told (λ ps. spellings (reverse before.log) ≡ take i (entries_of ps)) ps here so_far.are in
        let one : payload ≡ get_or (entries_of ps) i [] = told_if told (λ ps. payload ≡ get_or (entries_of ps) i []) ps here is in
        added.spelled ∙ (λ j. old j ++ one j ∷ []) ∙ sym (take_more (entries_of ps) i [] (omega (arith, there, counted ps here))));
    read = subst AreReadBack (sym (longer after added)) (read_more (reverse before.log) (added.entry ∷ []) so_far.read (added.read, tt));
    nobody = ap (λ (l : List LogEntry). map of_nobody l) (longer after added) ∙ map-append of_nobody (reverse before.log) (added.entry ∷ []) ∙ (λ j. so_far.nobody j ++ added.nobody j ∷ []) ∙ sym (longer after added);
  }

  -- that leads to no book
  refused_told : (ps : List (List ℕ)) → told ≡ Some ps → next_by o before payload ≡ None → led_by limits ps ≡ Err (o.state.place + i + 1)
  refused_told ps here none =
      let old : spellings (reverse before.log) ≡ take i (entries_of ps) = told_if told (λ ps. spellings (reverse before.log) ≡ take i (entries_of ps)) ps here so_far.are in
      let one : payload ≡ get_or (entries_of ps) i [] = told_if told (λ ps. payload ≡ get_or (entries_of ps) i []) ps here is in
      let all : entries_of ps ≡ spellings (reverse before.log) ++ payload ∷ drop (i + 1) (entries_of ps) =
      sym (take-append-drop i (entries_of ps)) ∙ ap (λ (l : List (List ℕ)). take i (entries_of ps) ++ l) (drop_more (entries_of ps) i [] (omega (arith, there, counted ps here))) ∙ sym (λ j. old j ++ one j ∷ drop (i + 1) (entries_of ps)) in
      refused_by limits o.payloads o.faults ps starts.base o (o.state.place + i + 1) (sym (told_if told (λ ps. starts.base ≡ base_of ps) ps here starts.is)) starts.opened starts.may
      (ap (led_on o) all ∙ refused_at sha256 o payload (begun o) before o.state.place (o.state.place + i + 1) (spellings (reverse before.log)) (drop (i + 1) (entries_of ps)) so_far.led none (omega (arith, so_far.number)))

  nothing_read : next_by o before [] ≡ None
  unfolding whole log_entry_code u8_at
  nothing_read = refl

  illegal_by : (other : Option (List (List ℕ))) → told ≡ other → next_by o before payload ≡ None → IsIllegalAt other limits (o.state.place + i + 1)
  illegal_by None same none =
      let rest : List (List ℕ) = spellings (reverse before.log) ++ [] ∷ [] in
      let ends : base_end rest ≡ 0 = end_with_entry (spellings (reverse before.log)) [] refl ∙ no_bases (reverse before.log) in
      let parts = base_there starts.base rest (opened_is_base limits o.payloads o.faults o starts.base starts.opened) ends in
      record {
        payloads = behind_base starts.base rest;
        are = tt;
        refused =
            refused_by limits o.payloads o.faults (behind_base starts.base rest) starts.base o (o.state.place + i + 1) parts.0 starts.opened starts.may
            (ap (led_on o) parts.1 ∙ refused_at sha256 o [] (begun o) before o.state.place (o.state.place + i + 1) (spellings (reverse before.log)) [] so_far.led nothing_read (omega (arith, so_far.number)));
      }
  illegal_by (Some ps) same none = record { payloads = ps; are = refl; refused = refused_told ps same none }

  pub illegal_here : (place : ℕ) → place ≡ o.state.place + i + 1 → next_by o before payload ≡ None → IsIllegalAt told limits place
  illegal_here place at none = subst (IsIllegalAt told limits) (sym at) (illegal_by told refl none)

-- a base from which no log may start
illegal_base : (told : Option (List (List ℕ))) (limits : Limits) (payloads faults : ℕ) (base : List ℕ) (place : ℕ) → HasBase told (Some base) → place ≡ base_place base → place < 2 ^ 32
    → ((entries : List (List ℕ)) → led_base place entries (opened_by limits payloads faults (Some base)) ≡ Err place) → IsIllegalAt told limits place
illegal_base None limits payloads faults base place is at short refused = record {
  payloads = (8 ∷ to_be_bytes w32 place) ∷ [];
  are = tt;
  refused = ap (led_base (base_place (8 ∷ to_be_bytes w32 place)) []) (short_base limits place) ∙ ap (λ (n : ℕ). Err n) (from_be_bytes-to_be_bytes_4 place short);
}
illegal_base (Some ps) limits payloads faults base place is at short refused = record {
  payloads = ps;
  are = refl;
  refused = ap (led_from limits ps) (sym is) ∙ ap (λ (n : ℕ). led_base n (entries_of ps) (opened_by limits 0 0 (Some base))) (sym at) ∙ refused_base limits payloads faults place place (entries_of ps) base (refused (entries_of ps));
}

pub illegal_at : (told : Option (List (List ℕ))) (limits : Limits) (payloads faults : ℕ) (base : Option (List ℕ)) (place : ℕ) → HasBase told base
    → (bytes : List ℕ) × (base ≡ Some bytes) × (place ≡ base_place bytes) × (place < 2 ^ 32) × ((entries : List (List ℕ)) → led_base place entries (opened_by limits payloads faults (Some bytes)) ≡ Err place) → IsIllegalAt told limits place
illegal_at told limits payloads faults base place is refused = illegal_base told limits payloads faults refused.0 place (subst (HasBase told) refused.1 is) refused.2 refused.3 refused.4

-- ---- all of them

pub all_read : (told : Option (List (List ℕ))) (limits : Limits) (o : Opened) (i kept : ℕ) (book : Book) → StartsAt told limits o → ((ps : List (List ℕ)) → told ≡ Some ps → length (entries_of ps) ≡ kept) → i ≡ kept → IsLedSoFar told o i book → IsLedTo told kept limits o book
all_read None limits o i kept book starts counted end so_far =
    let rest : List (List ℕ) = spellings (reverse book.log) in
    let parts = base_there starts.base rest (opened_is_base limits o.payloads o.faults o starts.base starts.opened) (no_bases (reverse book.log)) in
    record {
      payloads = behind_base starts.base rest;
      are = tt;
      total = tt;
      number = ap length parts.1 ∙ so_far.number ∙ end;
      begins = ap (opened_by limits o.payloads o.faults) parts.0 ∙ starts.opened;
      starts = subst (MayStart o) (sym parts.0) starts.may;
      based = subst (IsBaseAt o []) (sym parts.0) starts.based;
      upheld = starts.upheld;
      led = ap (led_on o) parts.1 ∙ so_far.led;
      spelled = parts.1;
      read = so_far.read;
      nobody = so_far.nobody;
    }
all_read (Some ps) limits o i kept book starts counted end so_far =
    let all : entries_of ps ≡ spellings (reverse book.log) = sym (so_far.are ∙ take_all i (entries_of ps) (omega (arith, end, counted ps refl))) in
    record {
      payloads = ps;
      are = refl;
      total = starts.total;
      number = counted ps refl;
      begins = ap (opened_by limits o.payloads o.faults) (sym starts.is) ∙ starts.opened;
      starts = subst (MayStart o) starts.is starts.may;
      based = subst (IsBaseAt o []) starts.is starts.based;
      upheld = starts.upheld;
      led = ap (led_on o) all ∙ so_far.led;
      spelled = all;
      read = so_far.read;
      nobody = so_far.nobody;
    }
