-- What keeping a checkpoint of a catalogue comes to.
use Rattle.std.specs.Prelude.{◌≡◌, ◌≤◌, ◌<◌, ℕ, List, None, Result, Ok, Err, IsTrue, length}
use Rattle.std.specs.Ordering.{nat_cmp}
use Rattle.sha2.specs.Sha256.{sha256}
use Rattle.cat_codes.specs.Code.{keys_ascend}
use Rattle.cat_frames.specs.Bases.{checkpoint_of, checkpoint_spelling}
use Rattle.cat_frames.specs.Checkpoints.{are_open_drafts, have_hashes}
use Rattle.cat_model.specs.declared.limits.Quantity.TheVariants as quantities
use Rattle.cat_model.specs.declared.refusal.Refusal.TheVariants.{Limit}
use Rattle.cat_model.specs.Contents.{content_code}
use Rattle.cat_model.specs.Formats.{commit_code}
use Rattle.cat_model.specs.State.{State}
use Rattle.cat_state.specs.declared.failure.Failure.TheVariants as failures
use Rattle.cat_state.specs.declared.unmade.Unmade.{Unmade}
use Rattle.cat_state.specs.declared.unmade.Unmade.TheVariants.{Failed, NotKept}

-- the most bytes of a payload
abbrev pub most_bytes : ℕ
most_bytes = 4294967295

-- a state of which a checkpoint can be spelled, where drafts are open: each record stands under its hash, and the numbers ascend below the log's greatest one
pub record IsCheckpointed (state : State) (draft : ℕ) (drafts : List ℕ) : Type 0 where
  pub commits : IsTrue (have_hashes sha256 commit_code state.commits)
  pub contents : IsTrue (have_hashes sha256 content_code state.present)
  pub ascend : IsTrue (keys_ascend nat_cmp None drafts)
  pub below : IsTrue (are_open_drafts draft drafts)

-- the bytes of its checkpoint
abbrev pub base_of_state : State → ℕ → List ℕ → List ℕ
base_of_state state draft drafts = checkpoint_spelling (checkpoint_of state draft drafts)

-- where its bytes were given to a keeper, whether that acknowledged them or not
abbrev pub IfWritten : {T : Type 0} → Result T Unmade → Type 0 → Type 0
IfWritten (Ok x) P = P
IfWritten (Err NotKept) P = P
IfWritten (Err (Failed failure)) P = Unit {0}

-- refused as a limit just where it has more bytes than a payload may have
abbrev pub Spells : {T : Type 0} → List ℕ → Result T Unmade → Type 0
Spells bytes (Ok x) = length bytes ≤ most_bytes
Spells bytes (Err NotKept) = length bytes ≤ most_bytes
Spells bytes (Err (Failed failures.NoMemory)) = Unit {0}
Spells bytes (Err (Failed (failures.Refused why))) = (why ≡ Limit quantities.Checkpoint most_bytes) × (most_bytes < length bytes)
