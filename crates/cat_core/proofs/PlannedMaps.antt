-- A plan without conflicts keeps a map well-formed.
use Rattle.std.proofs.Common.{◌≡◌, List, [], ◌∷◌, ◌++◌, map, Option, Some, None, true, refl}
use Rattle.std.specs.List.{AllByRecursion}
use Rattle.cat_codes.specs.Code.{ascends, follows}
use Rattle.cat_names.specs.Fields.{Key, key_cmp}
use Rattle.cat_model.specs.declared.conflict.Conflict.{Conflict}
use Rattle.cat_model.specs.declared.conflict.ConflictKind.{ConflictKind}
use Rattle.cat_model.specs.declared.merging.Modes.{Modes}
use Rattle.cat_model.specs.Changed.{changed_keys}
use Rattle.cat_model.specs.Judge.{conflict_at}
use Rattle.cat_model.specs.Maps.{Change, IsMap, Map, after_changes}
use Rattle.cat_model.specs.Namespaces.{is_well_formed}
use Rattle.cat_model.specs.Plan.{Decision, keeps, sets, clashes, changes_set, conflicts_of, decided, detail_of, fault_of, plan, set_by}
use Rattle.cat_keymap.specs.KeyListLaws.{changed_rises}
use Rattle.cat_keymap.specs.KeyOrder.{and_true, ascends_lower, both_true}
use Rattle.cat_keymap.specs.MapLaws.{IsMap-after_changes}
use Rattle.cat_keymap.specs.Ordered.{rise}
use Rattle.cat_rules.specs.WellFormed.{Keeps, stays_well_formed}

no_conflict_at : (key : Key) (kind : Option ConflictKind) (rest : List Conflict) → conflict_at key kind ++ rest ≡ [] → (kind ≡ None) × (rest ≡ [])
no_conflict_at key None rest e = (refl, e)
no_conflict_at key (Some kind) rest e = absurd cc

one_kept : (target after : Map) (d : Decision) (key : Key) (cs : List Change) → fault_of target after key d ≡ None → AllByRecursion (Keeps target after) cs → AllByRecursion (Keeps target after) (set_by key d ++ cs)
one_kept target after keeps key cs e all = all
one_kept target after (sets entry) key cs e all = (e, all)
one_kept target after (clashes kind) key cs e all = absurd cc

one_more : (last : Option Key) (d : Decision) (key : Key) (cs : List Change) → follows key_cmp last key ≡ true → ascends key_cmp (Some key) cs ≡ true → ascends key_cmp last (set_by key d ++ cs) ≡ true
one_more last keeps key cs f up = ascends_lower key last cs f up
one_more last (sets entry) key cs f up = both_true _ _ f up
one_more last (clashes kind) key cs f up = ascends_lower key last cs f up

module _ (ancestor source target : Map) (modes : Modes) where
  all_kept : (after : Map) (keys : List Key) → conflicts_of (map (detail_of ancestor source target modes after) keys) ≡ [] → AllByRecursion (Keeps target after) (changes_set ancestor source target modes keys)
  all_kept after [] e = tt
  all_kept after (key ∷ keys) e =
      let d = decided ancestor source target modes key in
      let parts = no_conflict_at key (fault_of target after key d) (conflicts_of (map (detail_of ancestor source target modes after) keys)) e in
      one_kept target after d key (changes_set ancestor source target modes keys) parts.0 (all_kept after keys parts.1)

  set_ascends : (last : Option Key) (keys : List Key) → rise last keys ≡ true → ascends key_cmp last (changes_set ancestor source target modes keys) ≡ true
  set_ascends last [] up = refl
  set_ascends last (key ∷ keys) up =
      let parts = and_true (follows key_cmp last key) (rise (Some key) keys) up in
      one_more last (decided ancestor source target modes key) key (changes_set ancestor source target modes keys) parts.0 (set_ascends (Some key) keys parts.1)

  -- its map is its changes of the target, well-formed, and its keys ascend
  pub plan_upon : IsMap target → is_well_formed target ≡ true → (plan ancestor source target modes).conflicts ≡ []
      → ((plan ancestor source target modes).map ≡ after_changes (plan ancestor source target modes).ops target) × (is_well_formed (plan ancestor source target modes).map ≡ true) × IsMap (plan ancestor source target modes).map
  unfolding plan
  plan_upon is well none =
      let keys : List Key = changed_keys ancestor source in
      let ops : List Change = changes_set ancestor source target modes keys in (
        refl,
        stays_well_formed target ops (set_ascends None keys (changed_rises ancestor source)) is (all_kept (after_changes ops target) keys none) well,
        IsMap-after_changes ops target is,
      )
