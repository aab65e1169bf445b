-- How the mark that a pass holds stands to the present one.
use Rattle.std.specs.Prelude.{◌≡◌, ◌≤◌, ℕ, ◌⊎◌, Some, cond, nat_lt}
use Rattle.cat_model.specs.Drafts.{Open, open_of, nothing_open}
use Rattle.cat_model.specs.Mark.{FailedAppend, ClosedSweep, Mark, Grows, last_sweep}
use Rattle.cat_desk.specs.Log.{WasGiven}

-- the present mark grew from the one that is held, which has each fault and last draft number of the caller, and knew of each sweep that the caller closed
pub record Linked (caller : ℕ) (a b : Mark) : Type 0 where
  pub grows : Grows a b
  pub own_fault : (x : FailedAppend) → b.fault ≡ Some x → x.caller ≡ caller → a.fault ≡ Some x
  pub own_draft : b.drafter ≡ caller → a.draft ≡ b.draft
  pub own_closed : (x : ClosedSweep) → b.closed ≡ Some x → x.opening.caller ≡ caller → x.opening.number ≤ last_sweep a

-- a fault, a last draft number or a closed sweep that wasn't in the first mark is of a caller whose number was given
pub record IsGiven (next : ℕ) (first now : Mark) : Type 0 where
  pub fault : (x : FailedAppend) → now.fault ≡ Some x → WasGiven next x.caller ⊎ (first.fault ≡ Some x)
  pub draft : WasGiven next now.drafter ⊎ (first.draft ≡ now.draft)
  pub closed : (x : ClosedSweep) → now.closed ≡ Some x → WasGiven next x.opening.caller ⊎ (first.closed ≡ Some x)

-- nothing is open of a number that wasn't given
abbrev pub AreGiven : ℕ → Open → Type 0
AreGiven next open_now = (caller : ℕ) → next ≤ caller → open_of caller open_now ≡ nothing_open

-- the mark of the later of two turns, the first where they are one
abbrev pub later_mark : ℕ → ℕ → Mark → Mark → Mark
later_mark turn other a b = cond (nat_lt turn other) b a

-- what the later of two turns left open, the first where they are one
abbrev pub later_open : ℕ → ℕ → Open → Open → Open
later_open turn other a b = cond (nat_lt turn other) b a
