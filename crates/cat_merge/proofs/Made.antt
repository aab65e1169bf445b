-- What the code makes of its decisions is what the plan says.
use Rattle.std.proofs.Common.{◌≡◌, List, [], ◌∷◌, ◌++◌, map, Option, Some, true, refl, ap, ◌∙◌}
use Rattle.cat_codes.specs.Code.{follows, ascends}
use Rattle.cat_names.specs.Fields.{Key, key_cmp}
use Rattle.cat_model.specs.declared.conflict.Conflict.{Conflict}
use Rattle.cat_model.specs.declared.merging.Detail.{Detail}
use Rattle.cat_model.specs.declared.merging.Modes.{Modes}
use Rattle.cat_model.specs.Maps.{Map, Change, after_changes}
use Rattle.cat_model.specs.Plan.{Decision, keeps, sets, clashes, decided, set_by, fault_of, detail_of, changes_set, conflicts_of, plan_of, behaviour_of}
use Rattle.cat_keymap.specs.KeyOrder.{both_true, and_true, ascends_lower}
use Rattle.cat_keymap.specs.Ordered.{rise}
use Rattle.cat_merge.specs.declared.deciding.Decided.{Decided}
use Rattle.cat_merge.specs.Decisions.{as_code, meant, decided_at, changes, detail}

told_back : (d : Decision) → meant (as_code d) ≡ d
told_back keeps = refl
told_back (sets entry) = refl
told_back (clashes kind) = refl

module _ (base source target : Map) (modes : Modes) where
  pub changes_are : (keys : List Key) → changes (map (decided_at base source target modes) keys) ≡ changes_set base source target modes keys
  changes_are [] = refl
  changes_are (key ∷ keys) = λ i. set_by key (told_back (decided base source target modes key) i) ++ changes_are keys i

  detail_is : (after : Map) (key : Key) → detail target after (decided_at base source target modes key) ≡ detail_of base source target modes after key
  detail_is after key = λ i. record { key = key; behaviour = behaviour_of modes key; conflict = fault_of target after key (told_back (decided base source target modes key) i) }

  details_are : (after : Map) (keys : List Key) → map (detail target after) (map (decided_at base source target modes) keys) ≡ map (detail_of base source target modes after) keys
  details_are after [] = refl
  details_are after (key ∷ keys) = λ i. detail_is after key i ∷ details_are after keys i

  -- the changes stand in the order of the keys
  one_more : (last : Option Key) (d : Decision) (key : Key) (cs : List Change) → follows key_cmp last key ≡ true → ascends key_cmp (Some key) cs ≡ true → ascends key_cmp last (set_by key d ++ cs) ≡ true
  one_more last keeps key cs f up = ascends_lower key last cs f up
  one_more last (sets entry) key cs f up = both_true _ _ f up
  one_more last (clashes kind) key cs f up = ascends_lower key last cs f up

  pub changes_ascend : (last : Option Key) (keys : List Key) → rise last keys ≡ true → ascends key_cmp last (changes_set base source target modes keys) ≡ true
  changes_ascend last [] up = refl
  changes_ascend last (key ∷ keys) up =
      let t = and_true (follows key_cmp last key) (rise (Some key) keys) up in
      one_more last (decided base source target modes key) key (changes_set base source target modes keys) t.0 (changes_ascend (Some key) keys t.1)

  pub ops_are : (keys : List Key) (list : List Decided) (ops : List Change) → list ≡ map (decided_at base source target modes) keys → ops ≡ changes list → ops ≡ changes_set base source target modes keys
  ops_are keys list ops l o = o ∙ ap changes l ∙ changes_are keys

  -- the parts made are those of the plan
  pub made_is : (keys : List Key) (list : List Decided) (ops : List Change) (after : Map) (details : List Detail) (conflicts : List Conflict)
      → list ≡ map (decided_at base source target modes) keys → ops ≡ changes_set base source target modes keys → after ≡ after_changes ops target → details ≡ map (detail target after) list
      → conflicts ≡ conflicts_of details → record { details = details; conflicts = conflicts; ops = ops; map = after } ≡ plan_of base source target modes keys
  made_is keys list ops after details conflicts l o a d c =
      let last : after ≡ after_changes (changes_set base source target modes keys) target = a ∙ ap (λ (cs : List Change). after_changes cs target) o in
      let found : details ≡ map (detail_of base source target modes (after_changes (changes_set base source target modes keys) target)) keys =
      d ∙ ap (map (detail target after)) l ∙ details_are after keys ∙ ap (λ (m : Map). map (detail_of base source target modes m) keys) last in
      λ i. record { details = found i; conflicts = (c ∙ ap conflicts_of found) i; ops = o i; map = last i }
