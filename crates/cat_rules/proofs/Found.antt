-- What a request finds, by a set of the names that it deletes.
use Rattle.std.proofs.Common.{◌≡◌, ℕ, zero, suc, ◌+◌, ◌<◌, List, [], ◌∷◌, ◌++◌, length, get_or, take, flat_map, Option, Some, None, Bool, true, false, ◌&&◌, ◌||◌, cond, refl, sym, ap, subst, ◌∙◌, arith}
use Rattle.std.specs.List.{AllByRecursion, list_any}
use Rattle.std.specs.Option.{option_or}
use Rattle.std.specs.Cmp.{nat_eq_equiv}
use Rattle.std.specs.Cmp.Lexicographic.{nat_list_eq_equiv}
use Rattle.cat_codes.specs.Code.{ascends}
use Rattle.cat_names.specs.Fields.{Key, key_cmp}
use Rattle.cat_model.specs.declared.conflict.Conflict.{Conflict}
use Rattle.cat_model.specs.declared.conflict.ConflictKind.{ConflictKind}
use Rattle.cat_model.specs.declared.entry.Entry.{Entry}
use Rattle.cat_model.specs.declared.op.Op.{Op}
use Rattle.cat_model.specs.declared.op.Op.TheVariants.{Put, Delete, Unchanged}
use Rattle.cat_model.specs.Differs.{differs}
use Rattle.cat_model.specs.Judge.{op_key, op_changes, by_key, changes_of, takes_away, known_fault, head_fault, changes_fault, op_fault, conflict_at, unless_conflicts, judge}
use Rattle.cat_model.specs.Maps.{Map, Change, IsMap, entry_of, after_changes}
use Rattle.cat_model.specs.Namespaces.{namespace_fault, is_well_formed}
use Rattle.cat_rules.specs.declared.deletions.ContentName.{ContentName}
use Rattle.cat_rules.specs.declared.judging.Judged.{Judged}
use Rattle.cat_rules.specs.declared.judging.Judged.TheVariants as judged
use Rattle.cat_rules.specs.Rules.{name_of, same_name, is_deleted, deletes, fault_at_head, fault, conflicts, verdict, GivesWellFormed}
use Rattle.cat_rules.specs.WellFormed.{Keeps, or_none, stays_well_formed}

pub alone : (fault : Option ConflictKind) → option_or fault None ≡ fault
alone None = refl
alone (Some kind) = refl

-- ---- names that are deleted

same_either_way : (a b : ContentName) → same_name a b ≡ same_name b a
same_either_way a b = λ i. nat_eq_equiv.symm a.kind b.kind i && nat_list_eq_equiv.symm a.id.bytes b.id.bytes i

or_in : (b old : Bool) → cond b true old ≡ (old || b)
or_in true true = refl
or_in true false = refl
or_in false true = refl
or_in false false = refl

pub added : (c x : ContentName) (old new : Bool) → new ≡ cond (same_name c x) true old → new ≡ (old || same_name x c)
added c x old new e = e ∙ ap (λ (b : Bool). cond b true old) (same_either_way c x) ∙ or_in (same_name x c) old

or_false : (b : Bool) → (b || false) ≡ b
or_false true = refl
or_false false = refl

or_assoc : (a b c : Bool) → (a || (b || c)) ≡ ((a || b) || c)
or_assoc true b c = refl
or_assoc false b c = refl

pub any_more : (p : Op → Bool) (ops : List Op) (i : ℕ) (op : Op) → i < length ops → op ≡ get_or ops i op → list_any p (take (i + 1) ops) ≡ (list_any p (take i ops) || p op)
any_more p [] i op lt e = absurd (omega arith)
any_more p (o ∷ ops) zero op lt e = or_false (p o) ∙ ap p (sym e)
any_more p (o ∷ ops) (suc i) op lt e =
    let k : suc i + 1 ≡ suc (i + 1) = omega arith in
    rw k (ap (λ (b : Bool). p o || b) (any_more p ops i op (omega arith) e) ∙ or_assoc (p o) (list_any p (take i ops)) (p op))

found_away : (entry : Entry) (found : Option Entry) (head : Map) (key : Key) → entry_of head key ≡ found → is_deleted (name_of entry) (Delete key) found ≡ takes_away head entry (Delete key)
found_away entry None head key e = rw e refl
found_away entry (Some h) head key e = rw e (same_either_way (name_of entry) (name_of h))

one_away : (head : Map) (entry : Entry) (op : Op) → deletes head (name_of entry) op ≡ takes_away head entry op
one_away head entry (Put key other fresh) = refl
one_away head entry (Delete key) = found_away entry (entry_of head key) head key refl
one_away head entry (Unchanged key) = refl

any_away : (head : Map) (entry : Entry) (ops : List Op) → list_any (deletes head (name_of entry)) ops ≡ list_any (takes_away head entry) ops
any_away head entry [] = refl
any_away head entry (op ∷ ops) = λ i. one_away head entry op i || any_away head entry ops i

-- ---- a set of the deleted names finds what the operations say

-- the set has the names that the operations delete
abbrev pub Tells : Map → List Op → List ContentName → Type 0
Tells head ops gone = (name : ContentName) → list_any (same_name name) gone ≡ list_any (deletes head name) ops

at_head_is : (head : Map) (ops : List Op) (gone : List ContentName) → Tells head ops gone → (op : Op) → fault_at_head gone op (entry_of head (op_key op)) ≡ head_fault head ops op
at_head_is head ops gone same (Put key entry true) = refl
at_head_is head ops gone same (Put key entry false) = ap (λ (b : Bool). known_fault b entry (entry_of head key)) (same (name_of entry) ∙ any_away head entry ops)
at_head_is head ops gone same (Delete key) = refl
at_head_is head ops gone same (Unchanged key) = refl

fault_is : (expected head after : Map) (ops : List Op) (gone : List ContentName) → Tells head ops gone → (op : Op) → fault expected head after gone op ≡ op_fault expected head after ops op
unfolding op_fault
fault_is expected head after ops gone same op =
    ap (λ (f : Option ConflictKind). option_or (differs (entry_of expected (op_key op)) (entry_of head (op_key op))) (option_or f (changes_fault head after (op_changes op)))) (at_head_is head ops gone same op)

conflicts_are : (expected head after : Map) (ops : List Op) (gone : List ContentName) → Tells head ops gone → (sorted : List Op)
    → conflicts expected head after gone sorted ≡ flat_map (λ op. conflict_at (op_key op) (op_fault expected head after ops op)) sorted
conflicts_are expected head after ops gone same [] = refl
conflicts_are expected head after ops gone same (op ∷ sorted) =
    λ i. conflict_at (op_key op) (fault_is expected head after ops gone same op i) ++ conflicts_are expected head after ops gone same sorted i

-- the code's conflicts and map are those of the definition
pub judged_is : (expected head : Map) (ops : List Op) (gone : List ContentName) (sorted : List Op) (after : Map) (found : List Conflict) → Tells head ops gone → sorted ≡ by_key ops
    → after ≡ after_changes (flat_map op_changes sorted) head → found ≡ conflicts expected head after gone sorted → unless_conflicts found after ≡ judge expected head ops
unfolding judge changes_of
judged_is expected head ops gone sorted after found same s a f =
    let last : Map = after_changes (flat_map op_changes (by_key ops)) head in
    let map : after ≡ last = a ∙ ap (λ (l : List Op). after_changes (flat_map op_changes l) head) s in
    let list : found ≡ conflicts expected head last gone (by_key ops) = f ∙ (λ i. conflicts expected head (map i) gone (s i)) in
    (λ i. unless_conflicts (list i) (map i)) ∙ ap (λ (l : List Conflict). unless_conflicts l last) (conflicts_are expected head last ops gone same (by_key ops))

-- ---- without conflicts the map is well-formed

no_conflict_at : (key : Key) (kind : Option ConflictKind) (rest : List Conflict) → conflict_at key kind ++ rest ≡ [] → (kind ≡ None) × (rest ≡ [])
no_conflict_at key None rest e = (refl, e)
no_conflict_at key (Some kind) rest e = absurd cc

more_kept : (head after : Map) (op : Op) (cs : List Change) → changes_fault head after (op_changes op) ≡ None → AllByRecursion (Keeps head after) cs → AllByRecursion (Keeps head after) (op_changes op ++ cs)
more_kept head after (Put key entry fresh) cs e all = ((or_none (namespace_fault head after (key, Some entry)) None e).0, all)
more_kept head after (Delete key) cs e all = ((or_none (namespace_fault head after (key, None)) None e).0, all)
more_kept head after (Unchanged key) cs e all = all

all_kept : (expected head after : Map) (gone : List ContentName) (sorted : List Op) → conflicts expected head after gone sorted ≡ [] → AllByRecursion (Keeps head after) (flat_map op_changes sorted)
all_kept expected head after gone [] e = tt
all_kept expected head after gone (op ∷ sorted) e =
    let first = fault_at_head gone op (entry_of head (op_key op)) in
    let last = changes_fault head after (op_changes op) in
    let parts = no_conflict_at (op_key op) (fault expected head after gone op) (conflicts expected head after gone sorted) e in
    let past_head = (or_none (differs (entry_of expected (op_key op)) (entry_of head (op_key op))) (option_or first last) parts.0).1 in
    more_kept head after op (flat_map op_changes sorted) (or_none first last past_head).1 (all_kept expected head after gone sorted parts.1)

pub gives_well_formed : (expected head : Map) (gone : List ContentName) (sorted : List Op) (after : Map) (found : List Conflict) (judged : Judged) → IsMap head
    → ascends key_cmp None (flat_map op_changes sorted) ≡ true → after ≡ after_changes (flat_map op_changes sorted) head → found ≡ conflicts expected head after gone sorted
    → verdict judged ≡ unless_conflicts found after → is_well_formed head ≡ true → GivesWellFormed judged
gives_well_formed expected head gone sorted after found (judged.Conflicts list) map up a f v well = tt
gives_well_formed expected head gone sorted after [] (judged.Map m) map up a f v well =
    let same : m ≡ after = cc in
    let kept : AllByRecursion (Keeps head (after_changes (flat_map op_changes sorted) head)) (flat_map op_changes sorted) =
    subst (λ (x : Map). AllByRecursion (Keeps head x) (flat_map op_changes sorted)) a (all_kept expected head after gone sorted (sym f)) in
    subst (λ (x : Map). is_well_formed x ≡ true) (sym (same ∙ a)) (stays_well_formed head (flat_map op_changes sorted) up map kept well)
gives_well_formed expected head gone sorted after (x ∷ xs) (judged.Map m) map up a f v well = absurd cc
