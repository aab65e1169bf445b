-- Bytes that are gathered and written together.
use Rattle.std.specs.Prelude.{◌≡◌, ℕ, List, [], ◌++◌, take, Option, Result, Ok, Err}
use Rattle.cat_http.specs.declared.gather.Gathered.{Gathered}
use Rattle.cat_http.specs.Writing.{Wrote}

-- the bytes that wait to be written
abbrev pub waiting_in : Gathered → List ℕ
waiting_in g = take g.len g.bytes

-- all was written but for the bytes that wait behind it; or a write failed, a front of all was written, and nothing waits
abbrev pub HasWritten : {T E : Type 0} → Option (List ℕ) → Option (List ℕ) → ℕ → ℕ → Result T E → List ℕ → List ℕ → Type 0
HasWritten {T} {E} start held from faults (Ok t) waiting all = (sent : List ℕ) × (all ≡ sent ++ waiting) × Wrote {T = T} {E = E} start held from faults (Ok t) sent
HasWritten {T} {E} start held from faults (Err e) waiting all = (waiting ≡ []) × Wrote {T = T} {E = E} start held from faults (Err e) all

abbrev pub Gathers : Option (List ℕ) → Option (List ℕ) → ℕ → ℕ → Gathered → List ℕ → Type 0
Gathers start held from faults g all = HasWritten start held from faults g.outcome (waiting_in g) all
