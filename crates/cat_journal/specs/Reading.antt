-- What reading a journal's file finds.
use Rattle.std.specs.Prelude.{◌≡◌, ◌≢◌, ◌⊎◌, ℕ, ◌+◌, ◌^◌, ◌≤◌, ◌<◌, Bool, true, false, List, [], ◌∷◌, ◌++◌, length, map, take, drop, get_or, Option, Some, Result, Ok, Err}
use Rattle.std.specs.Int.{w32, to_be_bytes}
use Rattle.cat_io.specs.Causes.{Rose}
use Rattle.cat_io.specs.Crashes.{LeavesOnly, Told, put}
use Rattle.cat_keeper.specs.Moments.{Within}
use Rattle.cat_journal.specs.declared.fault.OpenFault.{OpenFault}
use Rattle.cat_journal.specs.declared.fault.OpenFault.TheVariants.{Fault, Version, Damaged, NoMemory}
use Rattle.cat_frames.specs.CheckpointLaws.{is_whole_checkpoint}
use Rattle.cat_frames.specs.Checkpoints.{is_checkpoint}
use Rattle.cat_keeper.specs.Bases.{base_place}
use Rattle.cat_journal.specs.declared.points.Points.{Points}
use Rattle.cat_journal.specs.declared.reading.Standing.{Standing}
use Rattle.cat_journal.specs.declared.reading.Standing.TheVariants as standings
use Rattle.cat_journal.specs.Frames.{header, form_gate, is_newer, length_of, payload_of, is_framed, skipped, spelled, are_framed, max_entries, new_journal, unread_from, recovered, payloads, IsAtRest}
use Rattle.cat_journal.specs.Held.{ArePlaced, IsHeld}

-- the disk was only read
pub record OnlyReads {D : Type 0} (told : D → Option (List ℕ)) (may_leave : D → List ℕ → Type 0) (moment : D → ℕ) (left_since : D → ℕ → List ℕ → Type 0) (old new : D) : Type 0 where
  pub same : Told (told old) (told new) (λ a b. b ≡ a)
  pub crash : Within (may_leave old) (may_leave new)
  pub time : LeavesOnly moment left_since old new (may_leave old)

-- while a journal is opened a crash leaves what it might before; where there were no bytes, no more of them than a new journal has
abbrev pub OpensOnly : {D : Type 0} → (D → List ℕ → Type 0) → (D → ℕ) → (D → ℕ → List ℕ → Type 0) → D → D → List ℕ → Type 0
OpensOnly may_leave moment left_since old new bytes = LeavesOnly moment left_since old new (λ c. may_leave old c ⊎ ((bytes ≡ []) × (length c ≤ 17)))

-- ---- a frame

-- the payload behind a gate
abbrev pub payload_at : List ℕ → ℕ → List ℕ
payload_at bytes at = payload_of (drop (at + 1) bytes)

abbrev pub has_frame : List ℕ → ℕ → Bool
has_frame bytes at = is_framed (drop (at + 1) bytes)

abbrev pub HasFrame : List ℕ → ℕ → Type 0
HasFrame bytes at = (at + 5 < 2 ^ 64) × (has_frame bytes at ≡ true)

-- an open gate with a frame behind it, whose payload has n bytes
pub record IsFrameAt (at n : ℕ) (bytes : List ℕ) : Type 0 where
  pub opened : get_or bytes at 0 ≡ 1
  pub size : length_of (drop (at + 1) bytes) ≡ n
  pub whole : has_frame bytes at ≡ true
  pub spelled : to_be_bytes w32 n ≡ take 4 (drop (at + 1) bytes)

-- what stands at a gate
abbrev pub StandsAt : ℕ → List ℕ → Standing → Type 0
StandsAt at bytes standings.Closed = get_or bytes at 0 ≢ 1
StandsAt at bytes standings.Broken = (get_or bytes at 0 ≡ 1) × (has_frame bytes at ≡ false)
StandsAt at bytes (standings.Whole base n) = IsFrameAt at n bytes × (is_checkpoint (payload_at bytes at) ≡ base)

-- so many bytes and a gate are there
abbrev pub EndsBefore : ℕ → ℕ → Standing → Type 0
EndsBefore at len standings.Closed = Unit {0}
EndsBefore at len standings.Broken = Unit {0}
EndsBefore at len (standings.Whole base n) = at + 5 + n < len

-- the payload was read, where there is a frame
abbrev pub IsPayloadAt : ℕ → List ℕ → List ℕ → Type 0
IsPayloadAt at payload bytes = HasFrame bytes at → payload ≡ payload_at bytes at

-- ---- the frames, by their lengths

-- so many frames up to the gate, of which those before the last base, and it, aren't given as entries; whether they have readings isn't known
pub record IsWalked (g : ℕ) (ps : List (List ℕ)) (x : Points) (bytes : List ℕ) : Type 0 where
  pub front : take x.end bytes ≡ header g ++ spelled ps
  pub size : x.end ≡ 16 + length (spelled ps)
  pub there : x.end < length bytes
  pub framed : are_framed ps ≡ true
  pub before : skipped (is_newer g) ps ≡ x.before
  pub placed : ArePlaced ps x

-- as far as the bytes were walked
abbrev pub WalkedTo : Bool → Points → List ℕ → Type 0
WalkedTo newer x bytes = (is_newer (form_gate bytes) ≡ newer) × ((ps : List (List ℕ)) × IsWalked (form_gate bytes) ps x bytes)

-- the gate at which they end is closed, or is broken
abbrev pub WalkEndsAt : ℕ → Bool → List ℕ → Type 0
WalkEndsAt at false bytes = get_or bytes at 0 ≢ 1
WalkEndsAt at true bytes = (get_or bytes at 0 ≡ 1) × (has_frame bytes at ≡ false)

-- ---- the payloads that are read

-- the base has a reading, and is of this place
abbrev pub IsBaseRead : Points → List ℕ → ℕ → Type 0
IsBaseRead x bytes first = ((x.before ≡ 0) × (first ≡ 0)) ⊎ ((0 < x.before) × (is_whole_checkpoint (payload_at bytes x.base) ≡ true) × (first ≡ base_place (payload_at bytes x.base)))

-- it has none
abbrev pub IsBaseFault : Points → List ℕ → OpenFault → Type 0
IsBaseFault x bytes Fault = Unit {0}
IsBaseFault x bytes NoMemory = Unit {0}
IsBaseFault x bytes (Version n) = ⊥
IsBaseFault x bytes (Damaged o) = (0 < x.before) × (o ≡ x.base) × (is_whole_checkpoint (payload_at bytes x.base) ≡ false)

-- the number of the first of these entries that has no reading, or is one too many
abbrev pub unread_at : List ℕ → List ℕ → Option ℕ
unread_at gates bytes = unread_from 0 (map (payload_at bytes) gates) max_entries

abbrev pub IsEntryFault : List ℕ → List ℕ → OpenFault → Type 0
IsEntryFault gates bytes Fault = Unit {0}
IsEntryFault gates bytes NoMemory = Unit {0}
IsEntryFault gates bytes (Version n) = ⊥
IsEntryFault gates bytes (Damaged o) = (i : ℕ) × (unread_at gates bytes ≡ Some i) × (o ≡ get_or gates i 0)

-- for want of memory, or of the disk
abbrev pub IsNoDamage : OpenFault → Type 0
IsNoDamage Fault = Unit {0}
IsNoDamage NoMemory = Unit {0}
IsNoDamage (Version n) = ⊥
IsNoDamage (Damaged o) = ⊥

-- ---- the whole

-- a header, of format 2 or not
abbrev pub IsHead : Bool → List ℕ → Type 0
IsHead newer head = (g : ℕ) × (head ≡ header g) × (is_newer g ≡ newer)

-- a header stands there
abbrev pub IsHeaded : Bool → List ℕ → Type 0
IsHeaded newer bytes = (take 16 bytes ≡ header (form_gate bytes)) × (is_newer (form_gate bytes) ≡ newer)

-- the fault is what the bytes stand for
abbrev pub IsFaultOf : List ℕ → OpenFault → Type 0
IsFaultOf bytes Fault = Unit {0}
IsFaultOf bytes NoMemory = Unit {0}
IsFaultOf bytes (Version n) = recovered bytes ≡ Err (Version n)
IsFaultOf bytes (Damaged o) = recovered bytes ≡ Err (Damaged o)

-- `Fault` has raised the count of faults, which stays at each other answer
abbrev pub HasOpenCause : {T : Type 0} → ℕ → ℕ → Result T OpenFault → Type 0
HasOpenCause before now (Ok x) = now ≡ before
HasOpenCause before now (Err Fault) = (before ≤ now) × Rose before now
HasOpenCause before now (Err NoMemory) = now ≡ before
HasOpenCause before now (Err (Version n)) = now ≡ before
HasOpenCause before now (Err (Damaged o)) = now ≡ before

-- the bytes were opened, and stand for what is held
pub record IsOpened (before after : List ℕ) (x : Points) : Type 0 where
  pub recovers : recovered before ≡ Ok (payloads after)
  pub held : IsHeld (form_gate after) (payloads after) x after
  pub rest : IsAtRest (form_gate after) (payloads after) x.end after

-- the format's gate was opened, and nothing else changed; an empty file was made a journal
abbrev pub IsMigrated : List ℕ → List ℕ → Type 0
IsMigrated before after = (before ≡ [] → after ≡ new_journal) × (0 < length before → after ≡ put 15 (1 ∷ []) before)

-- while a journal is migrated a crash leaves what it might before, or what stands for the same
abbrev pub MigratesOnly : {D : Type 0} → (D → List ℕ → Type 0) → (D → ℕ) → (D → ℕ → List ℕ → Type 0) → D → D → List ℕ → Type 0
MigratesOnly may_leave moment left_since old new bytes =
    LeavesOnly moment left_since old new (λ c. (may_leave old c ⊎ ((bytes ≡ []) × (length c ≤ 17))) ⊎ (recovered c ≡ recovered bytes))
