-- Operations that were judged without a conflict keep a map well-formed, and their entries are of their contents.
use Rattle.std.proofs.Common.{◌≡◌, ℕ, ◌+◌, List, [], ◌∷◌, ◌++◌, map, filter_map, flat_map, Option, Some, None, Result, Ok, Bool, true, false, not, ◌||◌, if◌then◌else◌, refl, sym, ap, ◌∙◌}
use Rattle.std.specs.List.{AllByRecursion, list_all, list_any}
use Rattle.std.specs.Cmp.Lexicographic.{bytes_decides}
use Rattle.std.specs.Option.{option_or}
use Rattle.std.specs.Ordering.{is_eq, is_lt, ordering_reverse}
use Rattle.std.specs.declared.cmp.Ordering.{Ordering}
use Rattle.std.specs.declared.cmp.Ordering.TheVariants.{Less, Equal, Greater}
use Rattle.sha2.specs.Sha256.{sha256}
use Rattle.cat_codes.specs.Code.{ascends, follows}
use Rattle.cat_names.specs.Fields.{Key, key_cmp}
use Rattle.cat_names.specs.declared.hash.Hash.{Hash}
use Rattle.cat_model.specs.declared.conflict.Conflict.{Conflict}
use Rattle.cat_model.specs.declared.conflict.ConflictKind.{ConflictKind}
use Rattle.cat_model.specs.declared.content.Content.{Content}
use Rattle.cat_model.specs.declared.entry.Entry.{Entry}
use Rattle.cat_model.specs.declared.op.Op.{Op}
use Rattle.cat_model.specs.declared.op.Op.TheVariants.{Put, Delete, Unchanged}
use Rattle.cat_model.specs.Base.{is_among}
use Rattle.cat_model.specs.Commits.{given_content, given_from, with_their_contents}
use Rattle.cat_model.specs.Differs.{differs}
use Rattle.cat_model.specs.Distinct.{are_distinct}
use Rattle.cat_model.specs.Judge.{by_key, changes_fault, changes_of, conflict_at, head_fault, judge, op_changes, op_fault, op_key, unless_conflicts, with_op}
use Rattle.cat_model.specs.Maps.{Change, IsMap, Map, after_changes, entry_of}
use Rattle.cat_model.specs.Merges.{entries_set}
use Rattle.cat_model.specs.Namespaces.{is_well_formed, namespace_fault}
use Rattle.cat_model.specs.Same.{same_hash, same_key}
use Rattle.cat_model.specs.State.{content_hash, fresh_id}
use Rattle.cat_model.specs.WellMade.{is_made}
use Rattle.cat_keymap.proofs.Sorting.{changes_ascend, same_is}
use Rattle.cat_keymap.specs.KeyOrder.{and_true, both_true, key_total}
use Rattle.cat_keymap.specs.Ordered.{rise}
use Rattle.cat_rules.specs.WellFormed.{Keeps, or_none, stays_well_formed}
use Rattle.cat_state.specs.HeldLaws.{or_left, or_right}

-- ---- operations by their keys

abbrev has_key : Op → List Op → Bool
has_key op ops = list_any (λ other. same_key (op_key other) (op_key op)) ops

or_swap : (a b c : Bool) → (b || (a || c)) ≡ (a || (b || c))
or_swap true true c = refl
or_swap true false c = refl
or_swap false b c = refl

any_with : (test : Op → Bool) (op : Op) (ops : List Op) → list_any test (with_op op ops) ≡ (test op || list_any test ops)
any_with test op [] = refl
any_with test op (first ∷ ops) = by (is_lt (key_cmp (op_key op) (op_key first))) (any_with test op ops)
  where
    by : (t : Bool) → list_any test (with_op op ops) ≡ (test op || list_any test ops) → list_any test (if t then op ∷ first ∷ ops else first ∷ with_op op ops) ≡ (test op || (test first || list_any test ops))
    by true rest = refl
    by false rest = ap (λ (b : Bool). test first || b) rest ∙ or_swap (test op) (test first) (list_any test ops)

any_by_key : (test : Op → Bool) (ops : List Op) → list_any test (by_key ops) ≡ list_any test ops
any_by_key test [] = refl
any_by_key test (op ∷ ops) = any_with test op (by_key ops) ∙ ap (λ (b : Bool). test op || b) (any_by_key test ops)

neither : (a b : Bool) → (a || b) ≡ false → (a ≡ false) × (b ≡ false)
neither true b e = absurd cc
neither false b e = (refl, e)

-- of two keys that aren't the same, the second is below the first, if the first isn't below it
above_it : (o back : Ordering) → back ≡ ordering_reverse o → is_lt o ≡ false → is_eq back ≡ false → is_lt back ≡ true
above_it Less back e f g = absurd cc
above_it Equal back e f g = let same : back ≡ Equal = e in let no : true ≡ false = sym (ap is_eq same) ∙ g in absurd cc
above_it Greater back e f g = ap is_lt e

with_rises : (last : Option Key) (op : Op) (ops : List Op) → follows key_cmp last (op_key op) ≡ true → rise last (map op_key ops) ≡ true → has_key op ops ≡ false → rise last (map op_key (with_op op ops)) ≡ true
with_rises last op [] f up new = both_true _ _ f refl
with_rises last op (first ∷ ops) f up new =
    by (is_lt (key_cmp (op_key op) (op_key first))) refl (and_true (follows key_cmp last (op_key first)) (rise (Some (op_key first)) (map op_key ops)) up) (neither (same_key (op_key first) (op_key op)) (has_key op ops) new)
    (λ above. with_rises (Some (op_key first)) op ops above (and_true (follows key_cmp last (op_key first)) (rise (Some (op_key first)) (map op_key ops)) up).1 (neither (same_key (op_key first) (op_key op)) (has_key op ops) new).1)
  where
    by : (t : Bool) → is_lt (key_cmp (op_key op) (op_key first)) ≡ t → (follows key_cmp last (op_key first) ≡ true) × (rise (Some (op_key first)) (map op_key ops) ≡ true) → (same_key (op_key first) (op_key op) ≡ false) × (has_key op ops ≡ false)
        → (is_lt (key_cmp (op_key first) (op_key op)) ≡ true → rise (Some (op_key first)) (map op_key (with_op op ops)) ≡ true)
        → rise last (map op_key (if t then op ∷ first ∷ ops else first ∷ with_op op ops)) ≡ true
    by true e parts other rest = both_true _ _ f (both_true _ _ e parts.1)
    by false e parts other rest =
        both_true _ _ parts.0
        (rest (above_it (key_cmp (op_key op) (op_key first)) (key_cmp (op_key first) (op_key op)) (key_total.antisymm (op_key first) (op_key op)) e (sym (same_is (op_key first) (op_key op)) ∙ other.0)))

no_key : (b : Bool) → not b ≡ true → b ≡ false
no_key true e = absurd cc
no_key false e = refl

by_key_rises : (ops : List Op) → are_distinct ops ≡ true → rise None (map op_key (by_key ops)) ≡ true
by_key_rises [] once = refl
by_key_rises (op ∷ ops) once =
    let both = and_true (not (has_key op ops)) (are_distinct ops) once in
    with_rises None op (by_key ops) refl (by_key_rises ops both.1) (any_by_key (λ other. same_key (op_key other) (op_key op)) ops ∙ no_key (has_key op ops) both.0)

-- the changes of operations on distinct keys ascend
pub changes_of_ascend : (ops : List Op) → are_distinct ops ≡ true → ascends key_cmp None (changes_of ops) ≡ true
unfolding changes_of
changes_of_ascend ops once = changes_ascend None (by_key ops) (by_key_rises ops once)

-- ---- no conflicts

none_conflicts : (list : List Conflict) (after m : Map) → ◌≡◌ {A = Result Map (List Conflict)} (unless_conflicts list after) (Ok m) → list ≡ []
none_conflicts [] after m e = refl
none_conflicts (x ∷ list) after m e = absurd cc

no_conflict_at : (key : Key) (kind : Option ConflictKind) (rest : List Conflict) → conflict_at key kind ++ rest ≡ [] → (kind ≡ None) × (rest ≡ [])
no_conflict_at key None rest e = (refl, e)
no_conflict_at key (Some kind) rest e = absurd cc

more_kept : (head after : Map) (op : Op) (cs : List Change) → changes_fault head after (op_changes op) ≡ None → AllByRecursion (Keeps head after) cs → AllByRecursion (Keeps head after) (op_changes op ++ cs)
more_kept head after (Put key entry fresh) cs e all = ((or_none (namespace_fault head after (key, Some entry)) None e).0, all)
more_kept head after (Delete key) cs e all = ((or_none (namespace_fault head after (key, None)) None e).0, all)
more_kept head after (Unchanged key) cs e all = all

all_kept : (expected head after : Map) (ops sorted : List Op) → flat_map (λ op. conflict_at (op_key op) (op_fault expected head after ops op)) sorted ≡ [] → AllByRecursion (Keeps head after) (flat_map op_changes sorted)
unfolding op_fault
all_kept expected head after ops [] e = tt
all_kept expected head after ops (op ∷ sorted) e =
    let parts = no_conflict_at (op_key op) (op_fault expected head after ops op) (flat_map (λ op. conflict_at (op_key op) (op_fault expected head after ops op)) sorted) e in
    let later = or_none (differs (entry_of expected (op_key op)) (entry_of head (op_key op))) (option_or (head_fault head ops op) (changes_fault head after (op_changes op))) parts.0 in
    let last = or_none (head_fault head ops op) (changes_fault head after (op_changes op)) later.1 in
    more_kept head after op (flat_map op_changes sorted) last.1 (all_kept expected head after ops sorted parts.1)

-- what is judged without a conflict stays well-formed
pub judged_formed : (expected head : Map) (ops : List Op) (m : Map) → are_distinct ops ≡ true → IsMap head → is_well_formed head ≡ true → judge expected head ops ≡ Ok m → is_well_formed (after_changes (changes_of ops) head) ≡ true
unfolding judge changes_of
judged_formed expected head ops m once is well judged =
    let after : Map = after_changes (changes_of ops) head in
    let none = none_conflicts (flat_map (λ op. conflict_at (op_key op) (op_fault expected head after ops op)) (by_key ops)) after m judged in
    stays_well_formed head (changes_of ops) (changes_of_ascend ops once) is (all_kept expected head after ops (by_key ops) none) well

-- ---- contents of operations

-- each entry that the operations set passes
abbrev pub set_passes : (Entry → Bool) → Op → Bool
set_passes test (Put key entry fresh) = test entry
set_passes test (Delete key) = true
set_passes test (Unchanged key) = true

all_with : (test : Op → Bool) (op : Op) (ops : List Op) → test op ≡ true → list_all test ops ≡ true → list_all test (with_op op ops) ≡ true
all_with test op [] own all = both_true _ _ own refl
all_with test op (first ∷ ops) own all =
    let parts = and_true (test first) (list_all test ops) all in
    by (is_lt (key_cmp (op_key op) (op_key first))) (all_with test op ops own parts.1) parts.0
  where
    by : (t : Bool) → list_all test (with_op op ops) ≡ true → test first ≡ true → list_all test (if t then op ∷ first ∷ ops else first ∷ with_op op ops) ≡ true
    by true rest head = both_true _ _ own all
    by false rest head = both_true _ _ head rest

all_by_key : (test : Op → Bool) (ops : List Op) → list_all test ops ≡ true → list_all test (by_key ops) ≡ true
all_by_key test [] all = refl
all_by_key test (op ∷ ops) all = let parts = and_true (test op) (list_all test ops) all in all_with test op (by_key ops) parts.0 (all_by_key test ops parts.1)

sets_pass : (test : Entry → Bool) (ops : List Op) → list_all (set_passes test) ops ≡ true → list_all (λ (x : Key × Entry). test x.1) (entries_set (flat_map op_changes ops)) ≡ true
sets_pass test [] all = refl
sets_pass test (Put key entry fresh ∷ ops) all = let parts = and_true (test entry) (list_all (set_passes test) ops) all in both_true _ _ parts.0 (sets_pass test ops parts.1)
sets_pass test (Delete key ∷ ops) all = sets_pass test ops all
sets_pass test (Unchanged key ∷ ops) all = sets_pass test ops all

-- so does each that their changes set
pub changes_pass : (test : Entry → Bool) (ops : List Op) → list_all (set_passes test) ops ≡ true → list_all (λ (x : Key × Entry). test x.1) (entries_set (changes_of ops)) ≡ true
unfolding changes_of
changes_pass test ops all = sets_pass test (by_key ops) (all_by_key (set_passes test) ops all)

first_among : (hash : Hash) (hashes : List Hash) → is_among (hash ∷ hashes) hash ≡ true
first_among hash hashes = or_left (same_hash hash hash) (is_among hashes hash) ((bytes_decides hash.bytes hash.bytes).1 refl)

later_among : (first hash : Hash) (hashes : List Hash) → is_among hashes hash ≡ true → is_among (first ∷ hashes) hash ≡ true
later_among first hash hashes e = or_right (same_hash first hash) (is_among hashes hash) e

-- where each PUT has its content, its entry has the hash of one of them
pub puts_among : (draft i : ℕ) (ops : List Op) (contents : List Content) (more : List Hash) → list_all (is_made sha256) (with_their_contents ops contents) ≡ true
    → ((hash : Hash) → is_among (map (content_hash sha256) (filter_map (λ (x : Op × Option Content). x.1) (given_from sha256 draft i (with_their_contents ops contents)))) hash ≡ true → is_among more hash ≡ true)
    → list_all (set_passes (λ (e : Entry). is_among more e.hash)) (map (λ (x : Op × Option Content). x.0) (given_from sha256 draft i (with_their_contents ops contents))) ≡ true
puts_among draft i [] contents more made sub = refl
puts_among draft i (Put key entry fresh ∷ ops) [] more made sub = absurd cc
puts_among draft i (Put key entry fresh ∷ ops) (c ∷ contents) more made sub =
    let rest = (and_true (is_made sha256 (Put key entry fresh, Some c)) (list_all (is_made sha256) (with_their_contents ops contents)) made).1 in
    let own : Hash = content_hash sha256 (given_content fresh (fresh_id draft i) c) in
    let others : List Hash = map (content_hash sha256) (filter_map (λ (x : Op × Option Content). x.1) (given_from sha256 draft (i + 1) (with_their_contents ops contents))) in
    both_true _ _ (sub own (first_among own others)) (puts_among draft (i + 1) ops contents more rest (λ hash e. sub hash (later_among own hash others e)))
puts_among draft i (Delete key ∷ ops) contents more made sub = puts_among draft (i + 1) ops contents more made sub
puts_among draft i (Unchanged key ∷ ops) contents more made sub = puts_among draft (i + 1) ops contents more made sub
