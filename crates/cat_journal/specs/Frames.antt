-- A journal as bytes, and what it stands for.
use Rattle.std.specs.Prelude.{◌≡◌, ◌≢◌, ℕ, zero, suc, ◌+◌, ◌^◌, ◌<◌, Bool, true, false, ◌&&◌, ◌||◌, not, List, [], ◌∷◌, ◌++◌, length, take, drop, get_or, Option, Some, None, Result, Ok, Err, nat_lt, ◌==◌, if◌then◌else◌}
use Rattle.std.specs.Int.{w32, from_be_bytes, to_be_bytes}
use Rattle.std.specs.Option.{option_map}
use Rattle.std.specs.Str.{bytes_eq}
use Rattle.cat_io.specs.Crashes.{put}
use Rattle.cat_frames.specs.CheckpointLaws.{is_whole_checkpoint}
use Rattle.cat_frames.specs.Payload.{has_reading}
use Rattle.cat_keeper.specs.Bases.{base_end}
use Rattle.cat_journal.specs.declared.fault.OpenFault.{OpenFault}
use Rattle.cat_journal.specs.declared.fault.OpenFault.TheVariants.{Version, Damaged}

-- `NESSIECJ`
abbrev pub magic : List ℕ
magic = 78 ∷ 69 ∷ 83 ∷ 83 ∷ 73 ∷ 69 ∷ 67 ∷ 74 ∷ []

-- the 16 bytes in front of the frames; the last is the format's gate
abbrev pub header : ℕ → List ℕ
header g = magic ++ (0 ∷ 0 ∷ 0 ∷ 1 ∷ 0 ∷ 0 ∷ 0 ∷ g ∷ [])

abbrev pub form_gate : List ℕ → ℕ
form_gate bytes = get_or bytes 15 0

-- it is open: the journal is of format 2
abbrev pub is_newer : ℕ → Bool
is_newer g = g == 1

abbrev pub format_by : ℕ → ℕ
format_by g = if is_newer g then 2 else 1

-- a journal of format 2 without entries
abbrev pub new_journal : List ℕ
new_journal = header 1 ++ 0 ∷ []

-- the most entries that a journal gives
abbrev pub max_entries : ℕ
max_entries = 4294967295

-- ---- frames

-- What stands behind a gate: a length, so many bytes, and a gate byte at least.
abbrev pub length_of : List ℕ → ℕ
length_of rest = from_be_bytes w32 (take 4 rest)

abbrev pub payload_of : List ℕ → List ℕ
payload_of rest = take (length_of rest) (drop 4 rest)

abbrev pub is_framed : List ℕ → Bool
is_framed rest = nat_lt (4 + length_of rest) (length rest)

-- payloads, and the offset of the open gate with no frame that ended them, if one did
pub record Walked : Type 0 where
  pub found : List (List ℕ)
  pub broken : Option ℕ

abbrev pub in_front : List (List ℕ) → Walked → Walked
in_front front w = record { found = front ++ w.found; broken = w.broken }

-- none, and a closed gate
abbrev pub ended : Walked
ended = record { found = []; broken = None }

-- none, and an open gate with no frame
abbrev pub broken_at : ℕ → Walked
broken_at at = record { found = []; broken = Some at }

-- the payloads behind open gates up to the first closed one; `room` is how many gates there may be
unfoldable pub walk : ℕ → ℕ → List ℕ → Walked
walk room at [] = broken_at at
walk zero at (gate ∷ rest) = if gate == 1 then broken_at at else ended
walk (suc room) at (gate ∷ rest) =
    if gate == 1
    then (if is_framed rest
    then in_front (payload_of rest ∷ []) (walk room (at + 5 + length_of rest) (drop (4 + length_of rest) rest))
    else broken_at at)
    else ended

-- ---- which of them are given

abbrev pub or_else : Option ℕ → Option ℕ → Option ℕ
or_else None y = y
or_else (Some x) y = Some x

-- how many aren't given as entries: in format 2 those up to the last base, and it with them
abbrev pub skipped : Bool → List (List ℕ) → ℕ
skipped true ps = base_end ps
skipped false ps = 0

-- the number of the base, where it has no reading
abbrev pub unread_base : List (List ℕ) → ℕ → Option ℕ
unread_base ps zero = None
unread_base ps (suc n) = if is_whole_checkpoint (get_or ps n []) then None else Some n

-- the number of the first entry that has no reading, or is one too many; `i` is that of the first
unfoldable pub unread_from : ℕ → List (List ℕ) → ℕ → Option ℕ
unread_from i [] room = None
unread_from i (p ∷ ps) zero = Some i
unread_from i (p ∷ ps) (suc room) = if has_reading p then unread_from (i + 1) ps room else Some i

-- the number of the first payload that is to be read and can't be
abbrev pub unread_in : List (List ℕ) → ℕ → Option ℕ
unread_in ps n = or_else (unread_base ps n) (unread_from n (drop n ps) max_entries)

unfoldable pub unread : Bool → List (List ℕ) → Option ℕ
unread newer ps = unread_in ps (skipped newer ps)

-- where the gates of these payloads stand
abbrev pub starts_of : ℕ → List (List ℕ) → List ℕ
starts_of at [] = []
starts_of at (p ∷ ps) = at ∷ starts_of (at + 5 + length p) ps

-- ---- the whole

abbrev pub damaged_at : List (List ℕ) → Option ℕ → Result (List (List ℕ)) OpenFault
damaged_at ps None = Ok ps
damaged_at ps (Some at) = Err (Damaged at)

-- the payloads, or the offset of the first open gate whose frame can't be taken
abbrev pub settled : Bool → Walked → Result (List (List ℕ)) OpenFault
settled newer w = damaged_at w.found (or_else (option_map (λ i. get_or (starts_of 16 w.found) i 0) (unread newer w.found)) w.broken)

-- what a journal's bytes stand for: all payloads, those before the last base among them
unfoldable pub recovered : List ℕ → Result (List (List ℕ)) OpenFault
recovered bytes =
    if length bytes == 0 then Ok []
    else if nat_lt (length bytes) 17 || not (bytes_eq (take 8 bytes) magic) then Err (Damaged 0)
    else if not (length_of (drop 8 bytes) == 1) then Err (Version (length_of (drop 8 bytes)))
    else if not (bytes_eq (take 3 (drop 12 bytes)) (0 ∷ 0 ∷ 0 ∷ [])) then Err (Damaged 12)
    else settled (is_newer (form_gate bytes)) (walk (length bytes) 16 (drop 16 bytes))

abbrev pub payloads_in : Result (List (List ℕ)) OpenFault → List (List ℕ)
payloads_in (Ok ps) = ps
payloads_in (Err e) = []

abbrev pub payloads : List ℕ → List (List ℕ)
payloads bytes = payloads_in (recovered bytes)

-- ---- how they are spelled

-- a length and the payload
abbrev pub frame : List ℕ → List ℕ
frame p = to_be_bytes w32 (length p) ++ p

-- open gates, each with its frame
abbrev pub spelled : List (List ℕ) → List ℕ
spelled [] = []
spelled (p ∷ ps) = 1 ∷ (frame p ++ spelled ps)

-- the bytes after two writes: a payload's frame behind a gate, with the next gate closed, and then the gate, open
abbrev pub framed_at : ℕ → List ℕ → List ℕ → List ℕ
framed_at gate p old = put gate (1 ∷ []) (put (gate + 1) (frame p ++ 0 ∷ []) old)

-- where the first closed gate of a journal's bytes stands
abbrev pub closed_gate : List ℕ → ℕ
closed_gate bytes = 16 + length (spelled (payloads bytes))

-- a journal's bytes with one more payload, and nothing else written
abbrev pub with_frame : List ℕ → List ℕ → List ℕ
with_frame p old = framed_at (closed_gate old) p old

-- each has a length that four bytes tell
abbrev pub are_framed : List (List ℕ) → Bool
are_framed [] = true
are_framed (p ∷ ps) = nat_lt (length p) (2 ^ 32) && are_framed ps

-- The journal has these payloads and a closed gate behind them; what follows it counts for nothing. `g` is the format's gate.
pub record IsAtRest (g : ℕ) (ps : List (List ℕ)) (gate : ℕ) (bytes : List ℕ) : Type 0 where
  pub front : take gate bytes ≡ header g ++ spelled ps
  pub size : gate ≡ 16 + length (spelled ps)
  pub there : gate < length bytes
  pub closed : get_or bytes gate 0 ≢ 1
  pub framed : are_framed ps ≡ true
  pub read : unread (is_newer g) ps ≡ None

-- The same payloads up to the gate, and where it is open, one more and a closed gate behind it.
pub record MayHoldOneMore (g : ℕ) (ps : List (List ℕ)) (gate : ℕ) (p : List ℕ) (bytes : List ℕ) : Type 0 where
  pub front : take gate bytes ≡ header g ++ spelled ps
  pub there : gate < length bytes
  pub next : get_or bytes gate 0 ≡ 1 → take (5 + length p) (drop (gate + 1) bytes) ≡ frame p ++ 0 ∷ []
