-- What a call does to what keeps the log, by what was told.
use Rattle.std.specs.Prelude.{◌≡◌, ℕ, List, Some, Result, Ok, Err, IfErr, OnOk}
use Rattle.cat_keeper.specs.declared.keeper.Keeper.{Ghosts}
use Rattle.cat_model.specs.Calls.{Called}
use Rattle.cat_model.specs.Mark.{FailedAppend}
use Rattle.cat_model.specs.declared.log_entry.LogEntry.{LogEntry}
use Rattle.cat_model.specs.declared.refusal.Refusal.TheVariants.{Fault}
use Rattle.cat_model.specs.declared.refusal.Refused.{Refused}
use Rattle.cat_model.specs.declared.reply.Told.{Told}
use Rattle.cat_state.specs.Kept.{Fell, Grew, Leaves, NotRebased, Rebased, Stayed}
use Rattle.cat_core.specs.declared.draft.Settled.{Settled}
use Rattle.cat_core.specs.declared.draft.Settled.TheVariants as settled
use Rattle.cat_decisions.specs.declared.building.Built.{Built}
use Rattle.cat_core.specs.declared.draft.Draft.{Draft}
use Rattle.cat_core.specs.Drafts.{Refers, Settles, called_in}
use Rattle.cat_core.specs.Stored.{IsUp, Stored}

-- what a call that brings these entries did: where the refusal is for a fault, the entry fell
pub record KeepsTold {K : Type 0} (members : Ghosts K) (old new : K) (logged : List LogEntry) (result : Result Told Refused) : Type 0 where
  pub done : OnOk result (Grew members old new logged)
  pub fault : IfErr result (λ refused. refused.why ≡ Fault → Fell members old new logged)
  pub other : IfErr result (λ refused. (refused.why ≡ Fault → ⊥) → Stayed members old new)

-- what a checkpoint of this place and payload did: where the refusal is for a fault, it wasn't kept
pub record KeepsBase {K : Type 0} (members : Ghosts K) (old new : K) (place : ℕ) (payload : List ℕ) (result : Result Told Refused) : Type 0 where
  pub done : OnOk result (Rebased members old new place payload)
  pub fault : IfErr result (λ refused. refused.why ≡ Fault → NotRebased members old new payload)
  pub other : IfErr result (λ refused. (refused.why ≡ Fault → ⊥) → Stayed members old new)

-- what settling did
abbrev pub KeepsSettled : {K : Type 0} → Ghosts K → K → K → List LogEntry → Settled → Type 0
KeepsSettled members old new logged (settled.Done x) = KeepsTold members old new logged (Ok x)
KeepsSettled members old new logged (settled.Refused r) = KeepsTold members old new logged (Err r)
KeepsSettled members old new logged (settled.Moved d view) = Stayed members old new

-- all that is told of a call of a store that is up
pub record IsTold {K : Type 0} (members : Ghosts K) (caller : ℕ) (s s' : Stored K) (called : Called) (result : Result Told Refused) : Type 0 where
  pub refers : Refers called caller s s' result
  pub keeps : KeepsTold members s.keeper s'.keeper called.logged result
  pub crash : Leaves members s.keeper s'.keeper called.logged

-- all that is told of settling a draft: once an append has failed, the keeper isn't called any more
pub record IsSettled {K : Type 0} (members : Ghosts K) (s s' : Stored K) (d : Draft) (built : Built) (at : ℕ) (result : Settled) : Type 0 where
  pub settles : Settles s d built at result s'
  pub keeps : IsUp s → KeepsSettled members s.keeper s'.keeper (called_in s d at).logged result
  pub crash : IsUp s → Leaves members s.keeper s'.keeper (called_in s d at).logged
  pub rests : (x : FailedAppend) → s.mark.fault ≡ Some x → s'.keeper ≡ s.keeper
