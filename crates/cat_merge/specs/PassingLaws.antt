-- What holds of each entry of source and target holds of what a merge sets, and of the map after.
use Rattle.std.proofs.Common.{◌≡◌, List, [], ◌∷◌, ◌++◌, if◌then◌else◌, Option, Some, None, Bool, true, false, refl, subst, sym}
use Rattle.std.specs.Prelude.{IfSome, is_none}
use Rattle.std.specs.List.{list_all}
use Rattle.cat_names.specs.Fields.{Key, key_cmp}
use Rattle.cat_model.specs.declared.conflict.ConflictKind.{ConflictKind}
use Rattle.cat_model.specs.declared.entry.Entry.{Entry}
use Rattle.cat_model.specs.declared.merging.Behaviour.{Behaviour}
use Rattle.cat_model.specs.declared.merging.Behaviour.TheVariants.{Normal, Force, Drop}
use Rattle.cat_model.specs.declared.merging.Modes.{Modes}
use Rattle.cat_model.specs.Differs.{differs}
use Rattle.cat_model.specs.Maps.{Map, Change, entry_of, present, after_change, after_changes}
use Rattle.cat_model.specs.Merges.{entries_set}
use Rattle.cat_model.specs.Changed.{changed_keys}
use Rattle.cat_model.specs.Plan.{Decision, keeps, sets, unless_changed, decision, behaviour_of, set_by, changes_set, Plan, plan_of, plan}
use Rattle.cat_keymap.specs.KeyOrder.{both_true, and_true, split3}

module _ (passes : Entry → Bool) where
  abbrev AllPass : Map → Type 0
  AllPass m = list_all (λ (x : Key × Entry). passes x.1) m ≡ true

  abbrev Passes : Option Entry → Type 0
  Passes entry = IfSome entry (λ e. passes e ≡ true)

  abbrev Both : Key × Entry → Map → Type 0
  Both x m = (passes x.1 ≡ true) × AllPass m

  first_and_rest : (x : Key × Entry) (m : Map) → AllPass (x ∷ m) → Both x m
  first_and_rest x m all = and_true (passes x.1) (list_all (λ (y : Key × Entry). passes y.1) m) all

  -- ---- what is set

  entry_passes : (m : Map) (key : Key) → AllPass m → Passes (entry_of m key)
  entry_passes [] key all = tt
  entry_passes (x ∷ m) key all =
      let t = first_and_rest x m all in
      split3 (key_cmp x.0 key) (λ o. rw o (entry_passes m key t.1)) (λ o. rw o t.0) (λ o. rw o (entry_passes m key t.1))

  abbrev SetPasses : Decision → Type 0
  SetPasses d = (key : Key) (cs : List Change) → AllPass (entries_set cs) → AllPass (entries_set (set_by key d ++ cs))

  source_passes : (entry : Option Entry) → Passes entry → SetPasses (sets entry)
  source_passes None p key cs all = all
  source_passes (Some entry) p key cs all = both_true _ _ p all

  unless_passes : (source : Option Entry) (kind : Option ConflictKind) → Passes source → SetPasses (unless_changed source kind)
  unless_passes source None p = source_passes source p
  unless_passes source (Some kind) p = λ key cs all. all

  if_passes : (same : Bool) (d : Decision) → SetPasses d → SetPasses (if same then keeps else d)
  if_passes true d p = λ key cs all. all
  if_passes false d p = p

  decision_passes : (behaviour : Behaviour) (base source target : Option Entry) → Passes source → SetPasses (decision behaviour base source target)
  decision_passes Drop base source target p = λ key cs all. all
  decision_passes Force base source target p = if_passes (is_none (differs source target)) (sets source) (source_passes source p)
  decision_passes Normal base source target p = if_passes (is_none (differs source target)) (unless_changed source (differs base target)) (unless_passes source (differs base target) p)

  changes_pass : (base source target : Map) (modes : Modes) (keys : List Key) → AllPass source → AllPass (entries_set (changes_set base source target modes keys))
  changes_pass base source target modes [] all = refl
  changes_pass base source target modes (key ∷ keys) all =
      decision_passes (behaviour_of modes key) (entry_of base key) (entry_of source key) (entry_of target key) (entry_passes source key all)
      key (changes_set base source target modes keys) (changes_pass base source target modes keys all)

  -- ---- the map after

  with_present : (key : Key) (to : Option Entry) (m : Map) → Passes to → AllPass m → AllPass (present (key, to) ++ m)
  with_present key None m p all = all
  with_present key (Some entry) m p all = both_true _ _ p all

  only_present : (key : Key) (to : Option Entry) → Passes to → AllPass (present (key, to))
  only_present key None p = refl
  only_present key (Some entry) p = both_true _ _ p refl

  after_one : (key : Key) (to : Option Entry) (m : Map) → Passes to → AllPass m → AllPass (after_change (key, to) m)
  after_one key to [] p all = only_present key to p
  after_one key to (x ∷ m) p all =
      let t = first_and_rest x m all in
      split3 (key_cmp x.0 key)
      (λ o. rw o (both_true _ _ t.0 (after_one key to m p t.1)))
      (λ o. rw o (with_present key to m p t.1))
      (λ o. rw o (with_present key to (x ∷ m) p all))

  after_passes : (cs : List Change) (m : Map) → AllPass (entries_set cs) → AllPass m → AllPass (after_changes cs m)
  after_passes [] m set all = all
  after_passes ((key, None) ∷ cs) m set all = after_passes cs (after_change (key, None) m) set (after_one key None m tt all)
  after_passes ((key, Some entry) ∷ cs) m set all =
      let t = first_and_rest (key, entry) (entries_set cs) set in
      after_passes cs (after_change (key, Some entry) m) t.1 (after_one key (Some entry) m t.0 all)

  -- ---- of a plan

  pub set_passes : (base source target : Map) (modes : Modes) (keys : List Key) (p : Plan) → p ≡ plan_of base source target modes keys → AllPass source → AllPass (entries_set p.ops)
  set_passes base source target modes keys p made all = subst (λ (q : Plan). AllPass (entries_set q.ops)) (sym made) (changes_pass base source target modes keys all)

  pub map_passes : (base source target : Map) (modes : Modes) (keys : List Key) (p : Plan) → p ≡ plan_of base source target modes keys → AllPass source → AllPass target → AllPass p.map
  map_passes base source target modes keys p made all others =
      subst (λ (q : Plan). AllPass q.map) (sym made) (after_passes (changes_set base source target modes keys) target (changes_pass base source target modes keys all) others)

  -- so it is of what each merge sets
  pub plan_sets : (base source target : Map) (modes : Modes) → AllPass source → AllPass (entries_set (plan base source target modes).ops)
  unfolding plan
  plan_sets base source target modes all = changes_pass base source target modes (changed_keys base source) all
