-- Maps are well-formed where each key that has an entry has its parents.
use Rattle.std.proofs.Common.{◌≡◌, List, [], ◌∷◌, Option, Some, None, true, refl, ap, subst}
use Rattle.std.specs.Prelude.{is_none}
use Rattle.std.specs.List.{AllByRecursion, list_all}
use Rattle.std.specs.Cmp.{tied_itself}
use Rattle.std.specs.declared.cmp.Ordering.TheVariants.{Less, Equal}
use Rattle.cat_codes.specs.Code.{ascends}
use Rattle.cat_names.specs.Fields.{Key, key_cmp}
use Rattle.cat_model.specs.declared.conflict.ConflictKind.{ConflictKind}
use Rattle.cat_model.specs.declared.entry.Entry.{Entry}
use Rattle.cat_model.specs.Maps.{Map, IsMap, entry_of}
use Rattle.cat_model.specs.Namespaces.{outside_fault, is_well_formed}
use Rattle.cat_keymap.specs.KeyOrder.{key_total, less_is, split3, both_true, and_true, head_tail, ascends_any, ascends_lower}
use Rattle.cat_keymap.specs.MapLaws.{key_same}

pub is_none_is : (fault : Option ConflictKind) → is_none fault ≡ true → fault ≡ None
is_none_is None e = refl
is_none_is (Some kind) e = absurd cc

-- each key that has an entry has its parents
abbrev pub Homed : Map → Type 0
Homed map = (key : Key) (entry : Entry) → entry_of map key ≡ Some entry → outside_fault map key ≡ None

pub homed_among : (whole map : Map) → list_all (λ x. is_none (outside_fault whole x.0)) map ≡ true → (key : Key) (entry : Entry) → entry_of map key ≡ Some entry → outside_fault whole key ≡ None
homed_among whole [] all key entry e = absurd cc
homed_among whole (x ∷ map) all key entry e =
    let t = and_true (is_none (outside_fault whole x.0)) (list_all (λ x. is_none (outside_fault whole x.0)) map) all in
    split3 (key_cmp x.0 key)
    (λ o. homed_among whole map t.1 key entry (rw o at e))
    (λ o. subst (λ (k : Key). outside_fault whole k ≡ None) (key_same x.0 key o) (is_none_is _ t.0))
    (λ o. homed_among whole map t.1 key entry (rw o at e))

pub homed : (map : Map) → is_well_formed map ≡ true → Homed map
unfolding is_well_formed
homed map well = homed_among map map well

abbrev Has : Map → Key × Entry → Type 0
Has map x = entry_of map x.0 ≡ Some x.1

one_below : (x : Key × Entry) (map part : Map) → ascends key_cmp (Some x.0) part ≡ true → AllByRecursion (Has map) part → AllByRecursion (Has (x ∷ map)) part
one_below x map [] up all = tt
one_below x map (y ∷ part) up all =
    let t = head_tail (Some x.0) y part up in
    let here : entry_of (x ∷ map) y.0 ≡ Some y.1 = let less : key_cmp x.0 y.0 ≡ Less = less_is _ t.0 in rw less all.0 in
    (here, one_below x map part (ascends_lower y.0 (Some x.0) part t.0 t.1) all.1)

has_all : (map : Map) → IsMap map → AllByRecursion (Has map) map
has_all [] up = tt
has_all (x ∷ map) up =
    let t = (head_tail None x map up).1 in
    let here : entry_of (x ∷ map) x.0 ≡ Some x.1 = let same : key_cmp x.0 x.0 ≡ Equal = tied_itself key_total x.0 in rw same refl in
    (here, one_below x map map t (has_all map (ascends_any x.0 map t)))

all_homed : (map part : Map) → Homed map → AllByRecursion (Has map) part → list_all (λ x. is_none (outside_fault map x.0)) part ≡ true
all_homed map [] home all = refl
all_homed map (x ∷ part) home all = both_true _ _ (ap is_none (home x.0 x.1 all.0)) (all_homed map part home all.1)

pub well_formed : (map : Map) → IsMap map → Homed map → is_well_formed map ≡ true
unfolding is_well_formed
well_formed map up home = all_homed map map home (has_all map up)
