-- How many keys maps have after changes, and how many references and contents there are after calls.
use Rattle.std.proofs.Common.{◌≡◌, ◌≤◌, ℕ, suc, ◌+◌, List, [], ◌∷◌, length, map, filter, filter_map, flat_map, Option, Some, None, Bool, true, false, if◌then◌else◌, refl, ap, ◌∙◌, arith, length-append}
use Rattle.std.specs.Ordering.{nat_cmp, is_lt}
use Rattle.std.specs.declared.cmp.Ordering.{Ordering}
use Rattle.std.specs.declared.cmp.Ordering.TheVariants.{Less, Equal, Greater}
use Rattle.std.specs.Cmp.Lexicographic.{slice_cmp}
use Rattle.cat_names.specs.Fields.{Key, key_cmp}
use Rattle.cat_model.specs.declared.content.Content.{Content}
use Rattle.cat_model.specs.declared.entry.Entry.{Entry}
use Rattle.cat_model.specs.declared.op.Op.{Op}
use Rattle.cat_model.specs.declared.op.Op.TheVariants.{Put, Delete, Unchanged}
use Rattle.cat_model.specs.declared.reference.Reference.{Reference}
use Rattle.cat_model.specs.Commits.{given_from, put_entry, puts, with_their_contents}
use Rattle.cat_model.specs.Judge.{by_key, changes_of, op_changes, op_key, with_op}
use Rattle.cat_model.specs.Maps.{Change, Map, after_change, after_changes, placed}
use Rattle.cat_model.specs.Merges.{Planned, all_set, commits_made, entries_set, has_changes}
use Rattle.cat_model.specs.State.{Digest, with_reference}
use Rattle.cat_tables.specs.ReferenceLaws.{split}

-- ---- maps

-- how many entries a change sets
abbrev one_set : Change → ℕ
one_set change = length (entries_set (change ∷ []))

placed_grown : (order : Ordering) (change : Change) (x : Key × Entry) (map after : Map) → length after ≤ length map + one_set change → length (placed order change x map after) ≤ suc (length map) + one_set change
placed_grown Less change x map after low = omega (arith, low)
placed_grown Equal (key, None) x map after low = omega arith
placed_grown Equal (key, Some entry) x map after low = omega arith
placed_grown Greater (key, None) x map after low = omega arith
placed_grown Greater (key, Some entry) x map after low = omega arith

change_grown : (change : Change) (map : Map) → length (after_change change map) ≤ length map + one_set change
change_grown (key, None) [] = omega arith
change_grown (key, Some entry) [] = omega arith
change_grown change (x ∷ map) = placed_grown (key_cmp x.0 change.0) change x map (after_change change map) (change_grown change map)

-- a map has at most as many keys more as the changes set
pub changes_grown : (changes : List Change) (map : Map) → length (after_changes changes map) ≤ length map + length (entries_set changes)
changes_grown [] map = omega arith
changes_grown ((key, None) ∷ changes) map =
    let first : length (after_change (key, None) map) ≤ length map + 0 = change_grown (key, None) map in
    omega (arith, first, changes_grown changes (after_change (key, None) map))
changes_grown ((key, Some entry) ∷ changes) map =
    let first : length (after_change (key, Some entry) map) ≤ length map + 1 = change_grown (key, Some entry) map in
    omega (arith, first, changes_grown changes (after_change (key, Some entry) map))

-- ---- operations

puts_more : (op : Op) (ops : List Op) → puts (op ∷ ops) ≡ length (put_entry op) + puts ops
puts_more op ops = length-append (put_entry op) (flat_map put_entry ops)

puts_among : (op : Op) (ops : List Op) → puts (with_op op ops) ≡ length (put_entry op) + puts ops
puts_among op [] = puts_more op []
puts_among op (first ∷ ops) = by (is_lt (key_cmp (op_key op) (op_key first))) (puts_among op ops)
  where
    by : (t : Bool) → puts (with_op op ops) ≡ length (put_entry op) + puts ops → puts (if t then op ∷ first ∷ ops else first ∷ with_op op ops) ≡ length (put_entry op) + puts (first ∷ ops)
    by true rest = puts_more op (first ∷ ops)
    by false rest = omega (arith, puts_more first (with_op op ops), rest, puts_more first ops)

puts_by_key : (ops : List Op) → puts (by_key ops) ≡ puts ops
puts_by_key [] = refl
puts_by_key (op ∷ ops) = omega (arith, puts_among op (by_key ops), puts_by_key ops, puts_more op ops)

sets_are_puts : (ops : List Op) → length (entries_set (flat_map op_changes ops)) ≡ puts ops
sets_are_puts [] = refl
sets_are_puts (Put key entry fresh ∷ ops) = ap suc (sets_are_puts ops)
sets_are_puts (Delete key ∷ ops) = sets_are_puts ops
sets_are_puts (Unchanged key ∷ ops) = sets_are_puts ops

-- the changes of operations set as many entries as there are PUTs
pub sets_of_puts : (ops : List Op) → length (entries_set (changes_of ops)) ≡ puts ops
unfolding changes_of
sets_of_puts ops = sets_are_puts (by_key ops) ∙ puts_by_key ops

-- operations have no more contents than PUTs
pub contents_of_puts : (digest : Digest) (draft i : ℕ) (ops : List Op) (contents : List Content)
    → length (filter_map (λ (x : Op × Option Content). x.1) (given_from digest draft i (with_their_contents ops contents))) ≤ puts (map (λ (x : Op × Option Content). x.0) (given_from digest draft i (with_their_contents ops contents)))
contents_of_puts digest draft i [] contents = omega arith
contents_of_puts digest draft i (Put key entry fresh ∷ ops) [] =
    let rest : length (filter_map (λ (x : Op × Option Content). x.1) (given_from digest draft (i + 1) (with_their_contents ops []))) ≤ puts (map (λ (x : Op × Option Content). x.0) (given_from digest draft (i + 1) (with_their_contents ops []))) =
    contents_of_puts digest draft (i + 1) ops [] in
    omega (arith, rest)
contents_of_puts digest draft i (Put key entry fresh ∷ ops) (c ∷ contents) =
    let rest : length (filter_map (λ (x : Op × Option Content). x.1) (given_from digest draft (i + 1) (with_their_contents ops contents))) ≤ puts (map (λ (x : Op × Option Content). x.0) (given_from digest draft (i + 1) (with_their_contents ops contents))) =
    contents_of_puts digest draft (i + 1) ops contents in
    omega (arith, rest)
contents_of_puts digest draft i (Delete key ∷ ops) contents = contents_of_puts digest draft (i + 1) ops contents
contents_of_puts digest draft i (Unchanged key ∷ ops) contents = contents_of_puts digest draft (i + 1) ops contents

-- ---- plans

-- the plans that make commits set no more than all
pub made_set_fewer : (planned : List Planned) → length (all_set (commits_made planned)) ≤ length (all_set planned)
made_set_fewer [] = omega arith
made_set_fewer (p ∷ planned) =
    let rest : length (all_set (commits_made planned)) ≤ length (all_set planned) = made_set_fewer planned in
    let all : length (all_set (p ∷ planned)) ≡ length (entries_set p.plan.ops) + length (all_set planned) = length-append (entries_set p.plan.ops) (all_set planned) in
    let made : length (all_set (p ∷ commits_made planned)) ≡ length (entries_set p.plan.ops) + length (all_set (commits_made planned)) = length-append (entries_set p.plan.ops) (all_set (commits_made planned)) in
    split (has_changes p.plan.ops)
    (λ some. rw some (omega (arith, rest, all, made)))
    (λ none. rw none (omega (arith, rest, all)))

-- ---- references

pub one_reference_more : (references : List Reference) (new : Reference) → length (with_reference references new) ≡ suc (length references)
one_reference_more [] new = refl
one_reference_more (first ∷ references) new = by (is_lt (slice_cmp nat_cmp new.name first.name)) (one_reference_more references new)
  where
    by : (t : Bool) → length (with_reference references new) ≡ suc (length references) → length (if t then new ∷ first ∷ references else first ∷ with_reference references new) ≡ suc (suc (length references))
    by true rest = refl
    by false rest = ap suc rest

pub as_many_mapped : {A B : Type 0} (f : A → B) (xs : List A) → length (map f xs) ≡ length xs
as_many_mapped f [] = refl
as_many_mapped f (x ∷ xs) = ap suc (as_many_mapped f xs)

pub no_more_left : {A : Type 0} (test : A → Bool) (xs : List A) → length (filter test xs) ≤ length xs
no_more_left test [] = omega arith
no_more_left test (x ∷ xs) =
    let rest : length (filter test xs) ≤ length xs = no_more_left test xs in
    split (test x)
    (λ stays. rw stays (omega (arith, rest)))
    (λ goes. rw goes (omega (arith, rest)))
