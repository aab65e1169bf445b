-- Logs: who made an entry, and what a pass may have missed.
use Rattle.std.specs.Prelude.{◌≡◌, ◌≢◌, ◌⊎◌, ℕ, ◌<◌, List, [], ◌∷◌, ◌++◌, length, cond, nat_lt}
use Rattle.cat_model.specs.declared.log_entry.LogEntry.{LogEntry}

-- none of these entries is the caller's
abbrev pub Others : ℕ → List LogEntry → Type 0
Others caller [] = Unit {0}
Others caller (x ∷ xs) = (x.caller ≢ caller) × Others caller xs

-- the number is one of these
abbrev pub IsAmong : ℕ → List ℕ → Type 0
IsAmong n [] = ⊥
IsAmong n (m ∷ ms) = (n ≡ m) ⊎ IsAmong n ms

-- the number was given to a pass, where this is the next one to be given
abbrev pub WasGiven : ℕ → ℕ → Type 0
WasGiven next n = (0 < n) × (n < next)

-- the callers of these have numbers that were given
abbrev pub OfGiven : ℕ → List LogEntry → Type 0
OfGiven next [] = Unit {0}
OfGiven next (x ∷ xs) = WasGiven next x.caller × OfGiven next xs

-- the log begins with what was seen, and what follows is of other callers
abbrev pub Follows : ℕ → List LogEntry → List LogEntry → Type 0
Follows caller seen log = (rest : List LogEntry) × (log ≡ seen ++ rest) × Others caller rest

-- the log begins with what was seen, and what follows is of other callers whose numbers were given
abbrev pub Missed : ℕ → ℕ → List LogEntry → List LogEntry → Type 0
Missed caller next seen log = (rest : List LogEntry) × (log ≡ seen ++ rest) × Others caller rest × OfGiven next rest

-- the log begins with the first, and what follows is of callers whose numbers were given
abbrev pub Since : ℕ → List LogEntry → List LogEntry → Type 0
Since next first log = (rest : List LogEntry) × (log ≡ first ++ rest) × OfGiven next rest

-- the log begins with the first
abbrev pub BeginsWith : List LogEntry → List LogEntry → Type 0
BeginsWith first log = (rest : List LogEntry) × (log ≡ first ++ rest)

-- the longer of two lists, the first where they are of one length
abbrev pub longer : List LogEntry → List LogEntry → List LogEntry
longer xs ys = cond (nat_lt (length xs) (length ys)) ys xs
