-- What a log that is executed again starts from.
use Rattle.std.specs.Prelude.{◌≡◌, ℕ, List, [], length, Option, None, Some, Ok, false, true, is_ok, IfSome, IsTrue}
use Rattle.sha2.specs.Sha256.{sha256}
use Rattle.cat_checks.specs.Upheld.{Upholds}
use Rattle.cat_codes.specs.Code.{whole}
use Rattle.cat_frames.specs.declared.checkpoint.Checkpoint.{Checkpoint}
use Rattle.cat_frames.specs.Bases.{from_checkpoint, opened_by, state_in}
use Rattle.cat_frames.specs.Checkpoints.{checkpoint_code}
use Rattle.cat_keeper.specs.Bases.{place_in}
use Rattle.cat_model.specs.declared.limits.Limits.{Limits}
use Rattle.cat_frames.specs.Standing.{may_start}
use Rattle.cat_model.specs.Turns.{Opened}
use Rattle.cat_tables.specs.Tables.{are_distinct}
use Rattle.cat_core.specs.declared.replay.Replay.{Replay}
use Rattle.cat_core.specs.Opening.{HasBase, MayStart}
use Rattle.cat_core.specs.Records.{IsBaseAt}
use Rattle.cat_core.specs.Stored.{opened_held}
use Rattle.cat_core.specs.Sweeping.{IsFollowed}

abbrev pub replayed_from : Replay → Opened
replayed_from r = opened_held r.ledger.base r.start

-- it starts from this base, or from nothing, and has no entry yet
pub record StartsBy (limits : Limits) (payloads faults : ℕ) (base : Option (List ℕ)) (r : Replay) : Type 0 where
  pub opened : opened_by limits payloads faults base ≡ Some (replayed_from r)
  pub may : MayStart (replayed_from r) base
  pub based : IsBaseAt (replayed_from r) [] base
  pub upheld : Upholds sha256 r.ledger.base
  pub place : r.ledger.base.place ≡ place_in base
  pub none : r.ledger.log ≡ []
  pub here : r.ledger.state ≡ r.ledger.base
  pub draft : r.ledger.draft ≡ r.start.draft
  pub followed : IsFollowed r.drafts.keys r.taken.items r.ledger

-- it starts so from the keeper's base
pub record Begins (told : Option (List (List ℕ))) (limits : Limits) (faults : ℕ) (r : Replay) : Type 0 where
  pub base : Option (List ℕ)
  pub is : HasBase told base
  pub total : IfSome told (λ ps. r.start.payloads ≡ length ps)
  pub starts : StartsBy limits r.start.payloads faults base r

-- ---- a base

-- the checkpoint that bytes spell, or none where they spell none
abbrev pub ReadsBase : List ℕ → Option Checkpoint → Type 0
ReadsBase bytes None = is_ok (whole (checkpoint_code sha256) bytes) ≡ false
ReadsBase bytes (Some c) = (whole (checkpoint_code sha256) bytes ≡ Ok c) × (checkpoint_code sha256).Fits c × (bytes ≡ (checkpoint_code sha256).spell c)

-- it starts from this checkpoint, in whose state no content is twice, and has no entry yet
pub record StartsOn (limits : Limits) (payloads faults : ℕ) (c : Checkpoint) (r : Replay) : Type 0 where
  pub opened : replayed_from r ≡ from_checkpoint limits payloads faults c
  pub may : may_start sha256 (state_in limits c) ≡ true
  pub once : IsTrue (are_distinct r.ledger.base.present)
  pub none : r.ledger.log ≡ []
  pub here : r.ledger.state ≡ r.ledger.base
  pub draft : r.ledger.draft ≡ r.start.draft
  pub followed : IsFollowed r.drafts.keys r.taken.items r.ledger
