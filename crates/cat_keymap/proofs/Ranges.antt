-- Where a page begins, where it ends, and what is on it.
use Rattle.std.proofs.Common.{◌≡◌, ◌<◌, ◌≤◌, length, arith, List, [], ◌∷◌, Option, Some, None, Bool, true, false, ◌&&◌, ◌||◌, refl, sym, ap, ◌∙◌}
use Rattle.std.specs.Prelude.{filter}
use Rattle.std.specs.Option.{option_map_or}
use Rattle.std.specs.Ordering.{is_lt, is_le, ordering_reverse}
use Rattle.std.specs.declared.cmp.Ordering.TheVariants.{Less}
use Rattle.cat_codes.specs.Code.{follows, ascends}
use Rattle.cat_names.specs.Fields.{Key, key_cmp}
use Rattle.cat_model.specs.declared.entry.Entry.{Entry}
use Rattle.cat_model.specs.declared.filter.Filter.{Filter}
use Rattle.cat_model.specs.Keys.{begins_with}
use Rattle.cat_model.specs.Listing.{is_one_of, listing, entries_after}
use Rattle.cat_model.specs.Maps.{Map, IsMap}
use Rattle.cat_ordered.specs.Maps.{from_key}
use Rattle.cat_keymap.specs.KeyOrder.{key_total, less_is, split3, both_true, and_true, below_alike, head_tail, ascends_lower}
use Rattle.cat_keymap.specs.Range.{later, start, from_start, may_have_prefix, goes_on, in_bounds, admits, admitted, named}
use Rattle.cat_keymap.proofs.Agreeing.{IsMap-from_key}
use Rattle.cat_keymap.proofs.Within.{begins_after, between}

by_test : {P : Type 0} (b : Bool) → (b ≡ true → P) → (b ≡ false → P) → P
by_test true f g = f refl
by_test false f g = g refl

-- ---- nothing of the page is below its start

up_to_later : (a b : Option Key) (key : Key) → option_map_or (λ k. is_le (key_cmp k key)) a true ≡ true → option_map_or (λ k. is_le (key_cmp k key)) b true ≡ true → option_map_or (λ k. is_le (key_cmp k key)) (later a b) true ≡ true
up_to_later None b key e h = h
up_to_later (Some a) None key e h = e
up_to_later (Some a) (Some b) key e h = by_test (is_lt (key_cmp a b)) (λ t. rw t h) (λ t. rw t e)

after_up_to : (after : Option Key) (key : Key) → follows key_cmp after key ≡ true → option_map_or (λ k. is_le (key_cmp k key)) after true ≡ true
after_up_to None key e = refl
after_up_to (Some a) key e = rw (less_is _ e) refl

prefix_up_to : (prefix : Option Key) (key : Key) → option_map_or (λ prefix. begins_with key prefix) prefix true ≡ true → option_map_or (λ k. is_le (key_cmp k key)) prefix true ≡ true
prefix_up_to None key e = refl
prefix_up_to (Some prefix) key e = begins_after prefix key e

record InBounds (f : Filter) (after : Option Key) (key : Key) : Type 0 where
  from : option_map_or (λ min. is_le (key_cmp min key)) f.min true ≡ true
  to : option_map_or (λ max. is_le (key_cmp key max)) f.max true ≡ true
  prefixed : option_map_or (λ prefix. begins_with key prefix) f.prefix true ≡ true
  later : follows key_cmp after key ≡ true

bounds : (f : Filter) (after : Option Key) (key : Key) → admits f after key ≡ true → InBounds f after key
bounds f after key e =
    let both = and_true (follows key_cmp after key) (in_bounds f key) e in
    let prefixed = and_true _ (option_map_or (λ prefix. begins_with key prefix) f.prefix true) both.1 in
    let ends = and_true (option_map_or (λ min. is_le (key_cmp min key)) f.min true) (option_map_or (λ max. is_le (key_cmp key max)) f.max true) prefixed.0 in
    record { from = ends.0; to = ends.1; prefixed = prefixed.1; later = both.0 }

started : (f : Filter) (after : Option Key) (key : Key) → admits f after key ≡ true → option_map_or (λ k. is_le (key_cmp k key)) (start f after) true ≡ true
started f after key e =
    let b = bounds f after key e in
    up_to_later (later f.min f.prefix) after key (up_to_later f.min f.prefix key b.from (prefix_up_to f.prefix key b.prefixed)) (after_up_to after key b.later)

not_yet : (f : Filter) (after : Option Key) (s key : Key) → start f after ≡ Some s → key_cmp key s ≡ Less → admits f after key ≡ false
not_yet f after s key e lt = by_test (admits f after key)
    (λ t. let le : is_le (key_cmp s key) ≡ true = rw e at (started f after key t) in
    let more : is_le (key_cmp s key) ≡ false = ap is_le (key_total.antisymm s key ∙ ap ordering_reverse lt) in absurd cc)
    (λ t. t)

skipped : (f : Filter) (after : Option Key) (s : Key) (map : Map) → start f after ≡ Some s → admitted f after (from_key key_cmp map s) ≡ admitted f after map
skipped f after s [] e = refl
skipped f after s (x ∷ map) e = split3 (key_cmp x.0 s)
    (λ o. rw (o, not_yet f after s x.0 e o) (skipped f after s map e))
    (λ o. rw o refl)
    (λ o. rw o refl)

pub from_its_start : (f : Filter) (after : Option Key) (map : Map) → admitted f after (from_start map (start f after)) ≡ admitted f after map
from_its_start f after map = by (start f after) refl
  where
    by : (s : Option Key) → start f after ≡ s → admitted f after (from_start map s) ≡ admitted f after map
    by None e = refl
    by (Some s) e = skipped f after s map e

pub IsMap-from_start : (map : Map) (s : Option Key) → IsMap map → IsMap (from_start map s)
IsMap-from_start map None up = up
IsMap-from_start map (Some s) up = IsMap-from_key map s up

-- ---- nor past its end

less_then_le : (a b m : Key) → key_cmp a b ≡ Less → is_le (key_cmp b m) ≡ true → key_cmp a m ≡ Less
less_then_le a b m lt e = split3 (key_cmp b m)
    (λ o. key_total.trans a b m lt o)
    (λ o. below_alike b m a o lt)
    (λ o. let bad : is_le (key_cmp b m) ≡ false = rw o refl in absurd cc)

max_falls : (max : Option Key) (a b : Key) → key_cmp a b ≡ Less → option_map_or (λ max. is_le (key_cmp b max)) max true ≡ true → option_map_or (λ max. is_le (key_cmp a max)) max true ≡ true
max_falls None a b lt e = refl
max_falls (Some m) a b lt e = ap is_le (less_then_le a b m lt e)

prefix_falls : (prefix : Option Key) (a b : Key) → key_cmp a b ≡ Less → option_map_or (λ prefix. begins_with b prefix) prefix true ≡ true → may_have_prefix prefix a ≡ true
prefix_falls None a b lt e = refl
prefix_falls (Some p) a b lt e = split3 (key_cmp a p)
    (λ o. rw o refl)
    (λ o. rw o refl)
    (λ o. rw o (between p a b (key_total.antisymm p a ∙ ap ordering_reverse o) lt e))

here : (prefix : Option Key) (a : Key) → option_map_or (λ prefix. begins_with a prefix) prefix true ≡ true → may_have_prefix prefix a ≡ true
here None a e = refl
here (Some p) a e = by (is_le (key_cmp a p)) e
  where
    by : (b : Bool) → begins_with a p ≡ true → (b || begins_with a p) ≡ true
    by true e = refl
    by false e = e

-- where it doesn't go on, it has ended
is_over : (f : Filter) (after : Option Key) (a b : Key) → goes_on f a ≡ false → key_cmp a b ≡ Less → admits f after b ≡ false
is_over f after a b out lt = by_test (admits f after b)
    (λ t. let b = bounds f after b t in
    let on : goes_on f a ≡ true = both_true _ _ (max_falls f.max a _ lt b.to) (prefix_falls f.prefix a _ lt b.prefixed) in absurd cc)
    (λ t. t)

over_here : (f : Filter) (after : Option Key) (a : Key) → goes_on f a ≡ false → admits f after a ≡ false
over_here f after a out = by_test (admits f after a)
    (λ t. let b = bounds f after a t in
    let on : goes_on f a ≡ true = both_true _ _ b.to (here f.prefix a b.prefixed) in absurd cc)
    (λ t. t)

none_above : (f : Filter) (after : Option Key) (a : Key) (map : Map) → goes_on f a ≡ false → ascends key_cmp (Some a) map ≡ true → admitted f after map ≡ []
none_above f after a [] out up = refl
none_above f after a (x ∷ map) out up =
    let t = head_tail (Some a) x map up in
    rw (is_over f after a x.0 out (less_is _ t.0)) (none_above f after a map out (ascends_lower x.0 (Some a) map t.0 t.1))

pub ended : (f : Filter) (after : Option Key) (x : Key × Entry) (map : Map) → goes_on f x.0 ≡ false → IsMap (x ∷ map) → admitted f after (x ∷ map) ≡ []
ended f after x map out up = rw (over_here f after x.0 out) (none_above f after x.0 map out (head_tail None x map up).1)

-- ---- what is admitted is what the listing has after the key

sifted : (p q r : Key × Entry → Bool) (map : Map) → filter (λ x. p x && q x) (filter r map) ≡ filter p (filter (λ x. q x && r x) map)
sifted p q r [] = refl
sifted p q r (x ∷ map) = by (sifted p q r map) (p x) (q x) (r x) refl refl refl
  where
    by : filter (λ x. p x && q x) (filter r map) ≡ filter p (filter (λ x. q x && r x) map) → (a b c : Bool) → p x ≡ a → q x ≡ b → r x ≡ c
        → filter (λ x. p x && q x) (filter r (x ∷ map)) ≡ filter p (filter (λ x. q x && r x) (x ∷ map))
    by rest true true true e h k = rw (k, h) (rw e (ap (λ (m : Map). x ∷ m) rest))
    by rest false true true e h k = rw (k, h) (rw e rest)
    by rest true false true e h k = rw (k, h) (rw e rest)
    by rest false false true e h k = rw (k, h) (rw e rest)
    by rest a true false e h k = rw (k, h) rest
    by rest a false false e h k = rw (k, h) rest

after_is : (map : Map) (after : Option Key) → filter (λ x. follows key_cmp after x.0) map ≡ entries_after map after
after_is [] None = refl
after_is (x ∷ map) None = ap (λ (m : Map). x ∷ m) (after_is map None)
after_is map (Some key) = refl

pub of_named : (f : Filter) (after : Option Key) (map : Map) → admitted f after (filter (λ x. is_one_of f.keys x.0) map) ≡ entries_after (listing map f) after
of_named f after map = sifted (λ x. follows key_cmp after x.0) (λ x. in_bounds f x.0) (λ x. is_one_of f.keys x.0) map ∙ after_is (listing map f) after

any_key : (keys : List Key) (map : Map) → keys ≡ [] → filter (λ x. is_one_of keys x.0) map ≡ map
any_key [] [] e = refl
any_key [] (x ∷ map) e = ap (λ (m : Map). x ∷ m) (any_key [] map e)
any_key (k ∷ keys) map e = absurd cc

-- where the filter names no keys
pub of_all : (f : Filter) (after : Option Key) (map : Map) → f.keys ≡ [] → admitted f after map ≡ entries_after (listing map f) after
of_all f after map none = ap (admitted f after) (sym (any_key f.keys map none)) ∙ of_named f after map

pub no_items : (keys : List Key) → length keys < 1 → keys ≡ []
no_items [] lt = refl
no_items (key ∷ keys) lt = absurd (omega arith)

-- where it names some
pub one_of_some : (keys : List Key) (map : Map) → 1 ≤ length keys → named keys map ≡ filter (λ x. is_one_of keys x.0) map
one_of_some [] map le = absurd (omega arith)
one_of_some (key ∷ keys) map le = refl
