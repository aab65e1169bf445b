-- What is written for a value.
use Rattle.std.specs.Prelude.{◌≡◌, ℕ, List, [], ◌∷◌, map, Option, Some, None, option_map, Bool, true, false, ◌||◌, refl}
use Rattle.serde_json.specs.Data.{Data, array, object, Members, no_members, member, put}
use Rattle.serde_json.specs.View.{items_of, members_view}
use Rattle.cat_json.specs.declared.write.Object.{Object}
use Rattle.serde_json.specs.Written.{has_float, items_have_float, members_have_float}
use Rattle.std.specs.Ordering.{nat_cmp, match_ordering}
use Rattle.std.specs.declared.cmp.Ordering.{Ordering}
use Rattle.std.specs.declared.cmp.Ordering.TheVariants.{Less, Equal, Greater}
use Rattle.std.specs.Cmp.Lexicographic.{slice_cmp}

-- the members of an object that is being made
abbrev pub held : Object → Members
held o = members_view o.members.entries

abbrev pub list_data : {A : Type 0} → (A → Data) → List A → Data
list_data write xs = array (items_of (map write xs))

-- the members, and one more for each pair
abbrev pub put_all : {A : Type 0} → (A → Data) → Members → List (List ℕ × A) → Members
put_all write ms [] = ms
put_all write ms (x ∷ xs) = put_all write (put x.0 (write x.1) ms) xs

-- an object with a member for each pair
abbrev pub map_data : {A : Type 0} → (A → Data) → List (List ℕ × A) → Data
map_data write xs = object (put_all write no_members xs)

infixl 10 ◌+>◌
-- the members, and one more
abbrev pub ◌+>◌ : Members → List ℕ × Data → Members
ms +> m = put m.0 m.1 ms

abbrev pub put_some : List ℕ → Option Data → Members → Members
put_some name None ms = ms
put_some name (Some d) ms = put name d ms

infixl 10 ◌+?>◌
-- the members, and one more where there is a value
abbrev pub ◌+?>◌ : Members → List ℕ × Option Data → Members
ms +?> m = put_some m.0 m.1 ms

-- ---- none of them has a float

pub no_float_items : {A : Type 0} (write : A → Data) → ((x : A) → has_float (write x) ≡ false) → (xs : List A) → items_have_float (items_of (map write xs)) ≡ false
no_float_items write none [] = refl
no_float_items write none (x ∷ xs) = rw (none x) (no_float_items write none xs)

pub no_float_list : {A : Type 0} (write : A → Data) → ((x : A) → has_float (write x) ≡ false) → (xs : List A) → has_float (list_data write xs) ≡ false
no_float_list write none xs = no_float_items write none xs

both : (b c : Bool) → (b || c) ≡ false → (b ≡ false) × (c ≡ false)
both true c e = absurd cc
both false c e = (refl, e)

either : (b c : Bool) → b ≡ false → c ≡ false → (b || c) ≡ false
either b c e f = rw (e, f) refl

no_float_ordered : (o : Ordering) (a b c : Members) → members_have_float a ≡ false → members_have_float b ≡ false → members_have_float c ≡ false → members_have_float (match_ordering o a b c) ≡ false
no_float_ordered Less a b c e f g = e
no_float_ordered Equal a b c e f g = f
no_float_ordered Greater a b c e f g = g

pub no_float_put : (k : List ℕ) (d : Data) (ms : Members) → has_float d ≡ false → members_have_float ms ≡ false → members_have_float (put k d ms) ≡ false
no_float_put k d no_members e f = either (has_float d) false e refl
no_float_put k d (member l x ms) e f =
    let p = both (has_float x) (members_have_float ms) f in
    no_float_ordered (slice_cmp nat_cmp k l) _ _ _ (either (has_float d) _ e f) (either (has_float d) _ e p.1) (either (has_float x) _ p.0 (no_float_put k d ms e p.1))

no_float_all : {A : Type 0} (write : A → Data) → ((x : A) → has_float (write x) ≡ false) → (ms : Members) (xs : List (List ℕ × A)) → members_have_float ms ≡ false → members_have_float (put_all write ms xs) ≡ false
no_float_all write none ms [] e = e
no_float_all write none ms (x ∷ xs) e = no_float_all write none (put x.0 (write x.1) ms) xs (no_float_put x.0 (write x.1) ms (none x.1) e)

pub no_float_some : {A : Type 0} (write : A → Data) → ((x : A) → has_float (write x) ≡ false) → (k : List ℕ) (o : Option A) (ms : Members) → members_have_float ms ≡ false → members_have_float (put_some k (option_map write o) ms) ≡ false
no_float_some write none k None ms f = f
no_float_some write none k (Some x) ms f = no_float_put k (write x) ms (none x) f

pub no_float_map : {A : Type 0} (write : A → Data) → ((x : A) → has_float (write x) ≡ false) → (xs : List (List ℕ × A)) → members_have_float (put_all write no_members xs) ≡ false
no_float_map write none xs = no_float_all write none no_members xs refl

-- what shows that a form has no float
pub ruleset floatless = (no_float_items, no_float_map, no_float_put, no_float_some)
