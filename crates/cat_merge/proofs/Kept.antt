-- A plan without conflicts keeps a map well-formed.
use Rattle.std.proofs.Common.{◌≡◌, List, [], ◌∷◌, ◌++◌, map, Option, Some, None, true, refl, sym, subst}
use Rattle.std.specs.List.{AllByRecursion}
use Rattle.cat_names.specs.Fields.{Key}
use Rattle.cat_model.specs.declared.conflict.Conflict.{Conflict}
use Rattle.cat_model.specs.declared.conflict.ConflictKind.{ConflictKind}
use Rattle.cat_model.specs.declared.merging.Modes.{Modes}
use Rattle.cat_model.specs.Changed.{changed_keys}
use Rattle.cat_model.specs.Judge.{conflict_at}
use Rattle.cat_model.specs.Maps.{Map, Change, IsMap, after_changes}
use Rattle.cat_model.specs.Namespaces.{is_well_formed}
use Rattle.cat_model.specs.Plan.{Decision, keeps, sets, clashes, decided, set_by, fault_of, detail_of, changes_set, conflicts_of, Plan, plan_of}
use Rattle.cat_keymap.specs.KeyListLaws.{changed_rises}
use Rattle.cat_keymap.specs.Ordered.{rise}
use Rattle.cat_rules.specs.WellFormed.{Keeps, stays_well_formed}
use Rattle.cat_merge.proofs.Made.{changes_ascend}

no_conflict_at : (key : Key) (kind : Option ConflictKind) (rest : List Conflict) → conflict_at key kind ++ rest ≡ [] → (kind ≡ None) × (rest ≡ [])
no_conflict_at key None rest e = (refl, e)
no_conflict_at key (Some kind) rest e = absurd cc

one_kept : (target after : Map) (d : Decision) (key : Key) (cs : List Change) → fault_of target after key d ≡ None → AllByRecursion (Keeps target after) cs → AllByRecursion (Keeps target after) (set_by key d ++ cs)
one_kept target after keeps key cs e all = all
one_kept target after (sets entry) key cs e all = (e, all)
one_kept target after (clashes kind) key cs e all = absurd cc

all_kept : (base source target after : Map) (modes : Modes) (keys : List Key) → conflicts_of (map (detail_of base source target modes after) keys) ≡ []
    → AllByRecursion (Keeps target after) (changes_set base source target modes keys)
all_kept base source target after modes [] e = tt
all_kept base source target after modes (key ∷ keys) e =
    let d = decided base source target modes key in
    let parts = no_conflict_at key (fault_of target after key d) (conflicts_of (map (detail_of base source target modes after) keys)) e in
    one_kept target after d key (changes_set base source target modes keys) parts.0 (all_kept base source target after modes keys parts.1)

-- the keys whose entries differ ascend
pub ascending : (base source : Map) (keys : List Key) → keys ≡ changed_keys base source → rise None keys ≡ true
ascending base source keys e = subst (λ (l : List Key). rise None l ≡ true) (sym e) (changed_rises base source)

pub stays : (base source target : Map) (modes : Modes) (keys : List Key) (p : Plan) → rise None keys ≡ true → IsMap target → p ≡ plan_of base source target modes keys
    → is_well_formed target ≡ true → p.conflicts ≡ [] → is_well_formed p.map ≡ true
stays base source target modes keys p up is_map made well =
    let cs = changes_set base source target modes keys in
    subst (λ (q : Plan). q.conflicts ≡ [] → is_well_formed q.map ≡ true) (sym made)
    (λ none. stays_well_formed target cs (changes_ascend base source target modes None keys up) is_map (all_kept base source target (after_changes cs target) modes keys none) well)
