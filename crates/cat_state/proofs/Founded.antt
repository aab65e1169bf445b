-- Commits that are added to a start, one after another.
use Rattle.std.proofs.Common.{◌≡◌, List, ◌∷◌, Option, Some, None, Bool, true, false, ◌&&◌, is_some, refl, ap}
use Rattle.std.proofs.lemmas.Bool.{and_from, and_left, and_parts, and_right, false_from_ne_true}
use Rattle.sha2.specs.Sha256.{sha256}
use Rattle.cat_graph.specs.Linked.{IsNext}
use Rattle.cat_model.specs.declared.commit.Commit.{Commit}
use Rattle.cat_model.specs.declared.limits.Limits.{Limits}
use Rattle.cat_model.specs.Chain.{Commits, commit_of}
use Rattle.cat_model.specs.Maps.{Map}
use Rattle.cat_model.specs.Namespaces.{is_well_formed}
use Rattle.cat_frames.specs.Standing.{stands_above}
use Rattle.cat_names.specs.declared.hash.Hash.{Hash}
use Rattle.cat_state.specs.Keeping.{AreKept, fits}
use Rattle.cat_state.specs.Starting.{map_above, may_be_added, may_be_map, may_stand}
use Rattle.cat_state.proofs.Founding.{next_stands, stands_next}

-- ---- one commit

module _ (limits : Limits) (older : Commits) (hash : Hash) (c : Commit) where
  -- it may stand where none has its hash, it is the next, and its map may be there
  pub may_next : commit_of older hash ≡ None → IsNext older hash c → may_be_map limits (map_above older c) ≡ true → may_stand limits older (hash, c) ≡ true
  may_next absent next may = and_from (stands_above sha256 older hash c) (may_be_map limits (map_above older c)) (next_stands older hash c absent next) may

  never_there : (found : Option Commit) → is_some found ≡ true → found ≡ None → ⊥
  never_there None e f = cc
  never_there (Some x) e f = cc

  -- not where one has its hash
  pub not_there : is_some (commit_of older hash) ≡ true → may_stand limits older (hash, c) ≡ false
  not_there e =
      and_left (stands_above sha256 older hash c) (may_be_map limits (map_above older c))
      (false_from_ne_true (stands_above sha256 older hash c) (λ stands. never_there (commit_of older hash) e (stands_next older hash c stands).0))

  -- not where it isn't the next
  pub not_next : (IsNext older hash c → ⊥) → may_stand limits older (hash, c) ≡ false
  not_next never =
      and_left (stands_above sha256 older hash c) (may_be_map limits (map_above older c))
      (false_from_ne_true (stands_above sha256 older hash c) (λ stands. never (stands_next older hash c stands).1))

  -- and not where its map may not be there
  pub not_its_map : may_be_map limits (map_above older c) ≡ false → may_stand limits older (hash, c) ≡ false
  not_its_map e = and_right (stands_above sha256 older hash c) (may_be_map limits (map_above older c)) e

  -- the maps are kept with its own
  pub kept_above : (maps : List (Hash × Map)) (map : Map) → AreKept maps older → map ≡ map_above older c → may_be_map limits map ≡ true → AreKept ((hash, map) ∷ maps) ((hash, c) ∷ older)
  kept_above maps map are changed may = (record { hash = refl; changed = changed; well_formed = (and_parts (is_well_formed map) (fits limits map) may).0 }, are)

-- ---- one after another

-- the others may be added where they may be above it
pub added_next : (limits : Limits) (older rest : Commits) (x : Hash × Commit) → may_stand limits older x ≡ true → may_be_added limits older (x ∷ rest) ≡ may_be_added limits (x ∷ older) rest
added_next limits older rest x may = ap (λ (b : Bool). b && may_be_added limits (x ∷ older) rest) may

-- and none where it may not be
pub added_never : (limits : Limits) (older rest : Commits) (x : Hash × Commit) → may_stand limits older x ≡ false → may_be_added limits older (x ∷ rest) ≡ false
added_never limits older rest x may = and_left (may_stand limits older x) (may_be_added limits (x ∷ older) rest) may
