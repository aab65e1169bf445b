-- What calls do to what keeps the log, by what was told.
use Rattle.std.proofs.Common.{◌≡◌, ℕ, List, Option, Some, None, Result, Ok, Err, true, false, refl, subst}
use Rattle.cat_keeper.specs.declared.keeper.Keeper.{Ghosts}
use Rattle.cat_model.specs.declared.log_entry.LogEntry.{LogEntry}
use Rattle.cat_model.specs.declared.refusal.Refusal.{Refusal}
use Rattle.cat_model.specs.declared.refusal.Refusal.TheVariants.{Fault}
use Rattle.cat_model.specs.declared.reply.Told.{Told}
use Rattle.cat_model.specs.Book.{Book}
use Rattle.cat_model.specs.Calls.{Called}
use Rattle.cat_state.specs.declared.failure.Failure.TheVariants as failures
use Rattle.cat_state.specs.declared.unmade.Unmade.{Unmade}
use Rattle.cat_state.specs.declared.unmade.Unmade.TheVariants.{Failed, NotKept}
use Rattle.cat_state.specs.Kept.{Keeps, Leaves}
use Rattle.cat_core.specs.Making.{Runs}
use Rattle.cat_core.specs.PlainLaws.{IsOther, is_other}
use Rattle.cat_state.proofs.Appended.{leaves_any}
use Rattle.cat_core.specs.Kept.{KeepsTold}
use Rattle.cat_core.specs.Made.{told_at}

pub not_fault : (why : Refusal) → IsOther why → why ≡ Fault → ⊥
not_fault why other is = let no : false ≡ true = subst (λ (w : Refusal). is_other w ≡ true) is other in cc

module _ {K : Type 0} (members : Ghosts K)
    (safe : (k : K) (ps : List (List ℕ)) (c : Option (List (List ℕ))) → members.down k ≡ None → members.told k ≡ Some ps → members.may_leave k c → c ≡ Some ps)
    (only_now : (k : K) (c : Option (List (List ℕ))) → members.left_since k (members.moment k) c → members.may_leave k c) where
  -- what was told
  pub keeps_told : (old new : K) (called : Called) (before after : Book) (place : ℕ) (made : Result Told Unmade) → Runs called before after made → Keeps members old new called.logged made
      → KeepsTold members old new called.logged (told_at place made)
  keeps_told old new called before after place (Ok told_is) runs keeps = record { done = keeps; fault = tt; other = tt }
  keeps_told old new called before after place (Err NotKept) runs keeps = record { done = tt; fault = λ is. keeps; other = λ no. absurd (no refl) }
  keeps_told old new called before after place (Err (Failed failures.NoMemory)) runs keeps = record { done = tt; fault = λ is. absurd cc; other = λ no. keeps }
  keeps_told old new called before after place (Err (Failed (failures.Refused why))) runs keeps = record { done = tt; fault = λ is. absurd (not_fault why runs.0 is); other = λ no. keeps }

  pub leaves_made : {T : Type 0} (old new : K) (logged : List LogEntry) (result : Result T Unmade) → members.down old ≡ None → Keeps members old new logged result → Leaves members old new logged
  leaves_made old new logged (Ok x) up keeps = keeps.crash
  leaves_made old new logged (Err NotKept) up keeps = keeps.crash
  leaves_made old new logged (Err (Failed failure)) up keeps = leaves_any members safe only_now old new logged up keeps.crash
