-- What a store tells of what a call made in its ledger.
use Rattle.std.specs.Prelude.{ℕ, Option, Some, Result, Ok, Err}
use Rattle.cat_model.specs.declared.refusal.Refused.{Refused}
use Rattle.cat_model.specs.declared.reply.Reply.TheVariants as replies
use Rattle.cat_model.specs.declared.reply.Told.{Told}
use Rattle.cat_state.specs.declared.unmade.Unmade.{Unmade}
use Rattle.cat_state.specs.declared.unmade.Unmade.TheVariants.{Failed, NotKept}
use Rattle.cat_core.specs.Making.{unmade_at}
use Rattle.cat_core.specs.declared.tickets.Fallen.{Fallen}

-- at the place before it
abbrev pub told_at : ℕ → Result Told Unmade → Result Told Refused
told_at place (Ok told) = Ok told
told_at place (Err why) = Err (unmade_at place why)

-- a checkpoint at a place tells that place, once it was kept
abbrev pub based_at : {T : Type 0} → ℕ → Result T Unmade → Result Told Unmade
based_at place (Ok x) = Ok (record { place = place; reply = replies.Checkpoint place })
based_at place (Err why) = Err why

-- where its entry wasn't kept, the caller fell at the count of faults
abbrev pub fallen_by : ℕ → ℕ → Option Fallen → Result Told Unmade → Option Fallen
fallen_by caller count before (Ok told) = before
fallen_by caller count before (Err NotKept) = Some (record { caller = caller; count = count })
fallen_by caller count before (Err (Failed failure)) = before
