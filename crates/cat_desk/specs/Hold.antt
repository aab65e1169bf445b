-- What clauses say of a gate that holds calls.
use Rattle.std.specs.Prelude.{ℕ, Bool}
use Rattle.cat_desk.specs.Pass.{DeskId}
use Rattle.cat_desk.specs.declared.pass.Pass.{Pass}
use Rattle.cat_desk.specs.declared.hold.Hold.{Hold}

module _ {R V : Type 0} where
  -- the pass on which it takes its turns
  abbrev pub own_pass : Hold R V → Pass
  own_pass h = h.pass

  abbrev pub own_desk : Hold R V → DeskId
  own_desk h = h.desk.now

  -- the place that it awaits, and in at most how many turns
  abbrev pub awaits : Hold R V → ℕ
  awaits h = h.entries

  abbrev pub looks_in : Hold R V → ℕ
  looks_in h = h.turns

  -- a call went on although the entries were not there
  abbrev pub was_late : Hold R V → Bool
  was_late h = h.late
