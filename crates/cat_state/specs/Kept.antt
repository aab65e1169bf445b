-- What a call does to what keeps the log, by the entries that it brings, or by its checkpoint.
use Rattle.std.specs.Prelude.{◌≡◌, ◌≤◌, ◌+◌, ◌⊎◌, ℕ, List, [], ◌∷◌, ◌++◌, length, map, Option, Some, None, Result, Ok, Err, IfSome}
use Rattle.sha2.specs.Sha256.{sha256}
use Rattle.cat_io.specs.Causes.{Rose}
use Rattle.cat_io.specs.Crashes.{LeavesOnly}
use Rattle.cat_io.specs.Crashes as crashes
use Rattle.cat_codes.specs.Code.{whole}
use Rattle.cat_frames.specs.Entries.{log_entry_code, of_nobody}
use Rattle.cat_keeper.specs.declared.keeper.Keeper.{Ghosts}
use Rattle.cat_keeper.specs.Keeping.{WithOrWithout}
use Rattle.cat_model.specs.declared.log_entry.LogEntry.{LogEntry}
use Rattle.cat_state.specs.declared.failure.Failure.TheVariants as failures
use Rattle.cat_state.specs.declared.unmade.Unmade.{Unmade}
use Rattle.cat_state.specs.declared.unmade.Unmade.TheVariants.{Failed, NotKept}

-- entries as bytes
abbrev pub spelling : LogEntry → List ℕ
spelling entry = (log_entry_code sha256).spell entry

abbrev pub spellings : List LogEntry → List (List ℕ)
spellings entries = map spelling entries

-- an entry is read back from its spelling, as of nobody
abbrev pub IsReadBack : LogEntry → Type 0
IsReadBack entry = whole (log_entry_code sha256) (spelling entry) ≡ Ok (of_nobody entry)

-- so is each
abbrev pub AreReadBack : List LogEntry → Type 0
AreReadBack [] = Unit {0}
AreReadBack (entry ∷ entries) = IsReadBack entry × AreReadBack entries

-- a crash leaves the payloads, or these and the entries behind them, as far as the payloads are told
abbrev pub WithOrWithoutAll : Option (List (List ℕ)) → List LogEntry → Option (List (List ℕ)) → Type 0
WithOrWithoutAll told entries c = IfSome told (λ ps. (c ≡ Some ps) ⊎ (c ≡ Some (ps ++ spellings entries)))

-- the place that a keeper's payloads lead to: its base's, and one more for each entry behind that
abbrev pub reached : {K : Type 0} → Ghosts K → K → ℕ
reached members keeper = members.start keeper + members.kept keeper

-- what a crash at any moment of a call leaves: where the call brings no entry, what one might have left before
abbrev pub Leaves : {K : Type 0} → Ghosts K → K → K → List LogEntry → Type 0
Leaves members old new [] = LeavesOnly members.moment members.left_since old new (members.may_leave old)
Leaves members old new (entry ∷ entries) = LeavesOnly members.moment members.left_since old new (WithOrWithoutAll (members.told old) (entry ∷ entries))

-- the entries are behind those before, each acknowledged, and to be read back, and no call failed
pub record Grew {K : Type 0} (members : Ghosts K) (old new : K) (logged : List LogEntry) : Type 0 where
  pub payloads : crashes.Told (members.told old) (members.told new) (λ before now. now ≡ before ++ spellings logged)
  pub read : AreReadBack logged
  pub number : members.kept new ≡ members.kept old + length logged
  pub first : members.start new ≡ members.start old
  pub format : members.form new ≡ members.form old
  pub up : members.down new ≡ None
  pub level : members.faults new ≡ members.faults old
  pub crash : Leaves members old new logged

-- the append of the one entry failed: it is in flight, to be read back, and the keeper is down from this count of faults on
pub record Fell {K : Type 0} (members : Ghosts K) (old new : K) (logged : List LogEntry) : Type 0 where
  pub entry : LogEntry
  pub one : logged ≡ entry ∷ []
  pub flies : members.in_flight new ≡ Some (spelling entry)
  pub read : IsReadBack entry
  pub payloads : crashes.Told (members.told old) (members.told new) (λ before now. now ≡ before)
  pub number : members.kept new ≡ members.kept old
  pub first : members.start new ≡ members.start old
  pub format : members.form new ≡ members.form old
  pub fallen : members.down new ≡ Some (members.faults new)
  pub later : members.faults old ≤ members.faults new
  pub rose : Rose (members.faults old) (members.faults new)
  pub crash : Leaves members old new logged

-- nothing was appended, and no call failed
pub record Stayed {K : Type 0} (members : Ghosts K) (old new : K) : Type 0 where
  pub payloads : members.told new ≡ members.told old
  pub number : members.kept new ≡ members.kept old
  pub first : members.start new ≡ members.start old
  pub format : members.form new ≡ members.form old
  pub fallen : members.down new ≡ members.down old
  pub flies : members.in_flight new ≡ members.in_flight old
  pub level : members.faults new ≡ members.faults old
  pub crash : LeavesOnly members.moment members.left_since old new (members.may_leave old)

-- ---- checkpoints

-- what a crash at any moment of a checkpoint leaves: the payloads, or these and its own, as far as they are told
abbrev pub LeavesBase : {K : Type 0} → Ghosts K → K → K → List ℕ → Type 0
LeavesBase members old new payload = LeavesOnly members.moment members.left_since old new (λ c. IfSome (members.told old) (λ ps. WithOrWithout ps payload c))

-- a checkpoint's payload is behind those before, acknowledged: it is the base, of this place, and no entry stands behind it; and no call failed
pub record Rebased {K : Type 0} (members : Ghosts K) (old new : K) (place : ℕ) (payload : List ℕ) : Type 0 where
  pub payloads : crashes.Told (members.told old) (members.told new) (λ before now. now ≡ before ++ payload ∷ [])
  pub number : members.kept new ≡ 0
  pub first : members.start new ≡ place
  pub format : members.form new ≡ members.form old
  pub up : members.down new ≡ None
  pub level : members.faults new ≡ members.faults old
  pub crash : LeavesBase members old new payload

-- it wasn't kept: it is in flight, and the keeper is down from this count of faults on
pub record NotRebased {K : Type 0} (members : Ghosts K) (old new : K) (payload : List ℕ) : Type 0 where
  pub flies : members.in_flight new ≡ Some payload
  pub payloads : crashes.Told (members.told old) (members.told new) (λ before now. now ≡ before)
  pub number : members.kept new ≡ members.kept old
  pub first : members.start new ≡ members.start old
  pub format : members.form new ≡ members.form old
  pub fallen : members.down new ≡ Some (members.faults new)
  pub later : members.faults old ≤ members.faults new
  pub rose : Rose (members.faults old) (members.faults new)
  pub crash : LeavesBase members old new payload

-- what keeping one did, by why it wasn't
abbrev pub SparesBase : {K : Type 0} → Ghosts K → K → K → List ℕ → Unmade → Type 0
SparesBase members old new payload NotKept = NotRebased members old new payload
SparesBase members old new payload (Failed failure) = Stayed members old new

abbrev pub Bases : {K T : Type 0} → Ghosts K → K → K → ℕ → List ℕ → Result T Unmade → Type 0
Bases members old new place payload (Ok x) = Rebased members old new place payload
Bases members old new place payload (Err why) = SparesBase members old new payload why

-- ---- calls

-- what a call that made nothing did, by why
abbrev pub Spares : {K : Type 0} → Ghosts K → K → K → List LogEntry → Unmade → Type 0
Spares members old new logged NotKept = Fell members old new logged
Spares members old new logged (Failed failure) = Stayed members old new

-- what a call that brings these entries did
abbrev pub Keeps : {K T : Type 0} → Ghosts K → K → K → List LogEntry → Result T Unmade → Type 0
Keeps members old new logged (Ok x) = Grew members old new logged
Keeps members old new logged (Err why) = Spares members old new logged why

-- the rules don't refuse it
abbrev pub IsUnrefused : Unmade → Type 0
IsUnrefused NotKept = Unit {0}
IsUnrefused (Failed failures.NoMemory) = Unit {0}
IsUnrefused (Failed (failures.Refused why)) = ⊥
