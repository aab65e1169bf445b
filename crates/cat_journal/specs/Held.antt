-- What a journal knows of its disk.
use Rattle.std.specs.Prelude.{◌≡◌, ℕ, ◌+◌, ◌-◌, ◌^◌, ◌<◌, List, [], ◌∷◌, ◌++◌, length, take, drop, get_or, Option, Some, None, Result, Ok, Err, true}
use Rattle.std.proofs.Props.{props}
use Rattle.cat_keeper.specs.Bases.{base_end, first_of}
use Rattle.cat_journal.specs.declared.fault.OpenFault.{OpenFault}
use Rattle.cat_journal.specs.declared.points.Points.{Points}
use Rattle.cat_journal.specs.Frames.{header, form_gate, is_newer, recovered, payloads, spelled, starts_of, are_framed, unread, IsAtRest, MayHoldOneMore}

-- how many payloads there are
abbrev pub held_count : Points → ℕ
held_count x = x.before + length x.gates.items

-- the last base stands among these payloads behind its gate, and the entries behind it behind theirs
pub record ArePlaced (ps : List (List ℕ)) (x : Points) : Type 0 where
  pub base : 0 < x.before → x.base ≡ get_or (starts_of 16 ps) (x.before - 1) 0
  pub gates : x.gates.items ≡ drop x.before (starts_of 16 ps)
  pub count : length ps ≡ held_count x

-- The payloads that are held, up to the gate that may have one more behind it, and where those of them stand that are given.
pub record IsHeld (g : ℕ) (ps : List (List ℕ)) (x : Points) (bytes : List ℕ) : Type 0 where
  pub front : take x.end bytes ≡ header g ++ spelled ps
  pub size : x.end ≡ 16 + length (spelled ps)
  pub there : x.end < length bytes
  pub framed : are_framed ps ≡ true
  pub read : unread (is_newer g) ps ≡ None
  pub before : base_end ps ≡ x.before
  pub first : first_of ps ≡ x.first
  pub placed : ArePlaced ps x

-- the first n of the payloads that the bytes stand for
abbrev pub first_payloads : ℕ → List ℕ → List (List ℕ)
first_payloads n bytes = take n (payloads bytes)

-- so it is of a journal's bytes
abbrev pub Holds : Points → List ℕ → Type 0
Holds x bytes = IsHeld (form_gate bytes) (first_payloads (held_count x) bytes) x bytes

-- The bytes are at rest with n payloads, and a crash leaves just these bytes.
pub record IsSafe (n gate : ℕ) (images : List ℕ → Type 0) (bytes : List ℕ) : Type 0 where
  pub rest : IsAtRest (form_gate bytes) (payloads bytes) gate bytes
  pub count : length (payloads bytes) ≡ n
  pub only : (c : List ℕ) → images c → c ≡ bytes

-- An append or a rebase on n payloads failed. The bytes have these, with its payload or without it, and so has what a crash leaves.
pub record IsTorn (n gate : ℕ) (p : List ℕ) (images : List ℕ → Type 0) (bytes : List ℕ) : Type 0 where
  pub short : length p < 2 ^ 32
  pub fits : unread (is_newer (form_gate bytes)) (first_payloads n bytes ++ p ∷ []) ≡ None
  pub reads : MayHoldOneMore (form_gate bytes) (first_payloads n bytes) gate p bytes
  pub each : (c : List ℕ) → images c → MayHoldOneMore (form_gate bytes) (first_payloads n bytes) gate p c

-- what an image recovers to, where it opens
abbrev pub outcome_of : Result (List (List ℕ)) OpenFault → Option (List (List ℕ))
outcome_of (Ok ps) = Some ps
outcome_of (Err e) = None

abbrev pub outcome : List ℕ → Option (List (List ℕ))
outcome bytes = outcome_of (recovered bytes)

ArePlaced-prop : (ps : List (List ℕ)) (x : Points) → IsProp (ArePlaced ps x)
ArePlaced-prop ps x = hlevel props

pub IsHeld-prop : (g : ℕ) (ps : List (List ℕ)) (x : Points) (bytes : List ℕ) → IsProp (IsHeld g ps x bytes)
IsHeld-prop g ps x bytes = hlevel (ArePlaced-prop, props)

pub IsSafe-prop : (n gate : ℕ) (images : List ℕ → Type 0) (bytes : List ℕ) → IsProp (IsSafe n gate images bytes)
IsSafe-prop n gate images bytes = hlevel props

MayHoldOneMore-prop : (g : ℕ) (ps : List (List ℕ)) (gate : ℕ) (p bytes : List ℕ) → IsProp (MayHoldOneMore g ps gate p bytes)
MayHoldOneMore-prop g ps gate p bytes = hlevel props

pub IsTorn-prop : (n gate : ℕ) (p : List ℕ) (images : List ℕ → Type 0) (bytes : List ℕ) → IsProp (IsTorn n gate p images bytes)
IsTorn-prop n gate p images bytes = hlevel (MayHoldOneMore-prop, props)
