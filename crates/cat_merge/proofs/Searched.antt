-- What a search by halves finds among modes.
use Rattle.std.proofs.Common.{◌≡◌, ℕ, zero, suc, ◌<◌, ◌≤◌, List, [], ◌∷◌, length, get_or, None, Err, true, false, refl, ap, subst, ◌∙◌, arith}
use Rattle.std.specs.Ordering.{is_eq, ordering_index, nat_cmp}
use Rattle.std.specs.Cmp.Lexicographic.{slice_cmp, lists_ties, texts_ties}
use Rattle.std.specs.List.Sorted.{IsNonDecreasingBy, IsBinarySearchResult}
use Rattle.std.specs.declared.cmp.Ordering.{Ordering}
use Rattle.std.specs.declared.cmp.Ordering.TheVariants.{Less, Equal, Greater}
use Rattle.cat_codes.specs.Code.{ascends}
use Rattle.cat_names.specs.Fields.{Key, key_cmp}
use Rattle.cat_model.specs.declared.merging.Behaviour.{Behaviour}
use Rattle.cat_model.specs.Plan.{behaviour_at}
use Rattle.cat_model.specs.Same.{same_key}
use Rattle.cat_keymap.specs.KeyOrder.{key_total, head_tail, ascends_any, all_above, split3}
use Rattle.cat_keymap.specs.MapLaws.{key_same}

abbrev pub Pairs : Type 0
Pairs = List (Key × Behaviour)

same_is : (a b : Key) → same_key a b ≡ is_eq (key_cmp a b)
same_is a b = lists_ties (slice_cmp nat_cmp) texts_ties a b

-- ---- the answers rise

at_most_two : (o : Ordering) → ordering_index o ≤ 2
at_most_two Less = omega arith
at_most_two Equal = omega arith
at_most_two Greater = omega arith

lower : (a b key : Key) → key_cmp a b ≡ Less → ordering_index (key_cmp a key) ≤ ordering_index (key_cmp b key)
lower a b key e = split3 (key_cmp b key)
    (λ o. let l : key_cmp a key ≡ Less = key_total.trans a b key e o in rw (l, o) (omega arith))
    (λ o. let l : key_cmp a key ≡ Less = subst (λ (k : Key). key_cmp a k ≡ Less) (key_same b key o) e in rw (l, o) (omega arith))
    (λ o. rw o (at_most_two (key_cmp a key)))

rises : (pairs : Pairs) (key : Key) → ascends key_cmp None pairs ≡ true → IsNonDecreasingBy (λ (x : Key × Behaviour). ordering_index (key_cmp x.0 key)) pairs
rises [] key up i j d le lt = absurd (omega arith)
rises (x ∷ pairs) key up zero zero d le lt = omega arith
rises (x ∷ pairs) key up zero (suc j) d le lt = lower x.0 (get_or pairs j d).0 key (all_above x.0 pairs j d (head_tail None x pairs up).1 (omega arith))
rises (x ∷ pairs) key up (suc i) zero d le lt = absurd (omega arith)
rises (x ∷ pairs) key up (suc i) (suc j) d le lt = rises pairs key (ascends_any x.0 pairs (head_tail None x pairs up).1) i j d (omega arith) (omega arith)

-- ---- what is found

-- the pair of the key is the first with it
pub found : (pairs : Pairs) (default : Behaviour) (key : Key) (i : ℕ) (d : Key × Behaviour) → ascends key_cmp None pairs ≡ true → i < length pairs
    → key_cmp (get_or pairs i d).0 key ≡ Equal → behaviour_at pairs default key ≡ (get_or pairs i d).1
found [] default key i d up lt e = absurd (omega arith)
found (x ∷ pairs) default key zero d up lt e = let here : same_key x.0 key ≡ true = same_is x.0 key ∙ ap is_eq e in rw here refl
found (x ∷ pairs) default key (suc i) d up lt e =
    let t = (head_tail None x pairs up).1 in
    let below : key_cmp x.0 key ≡ Less = subst (λ (k : Key). key_cmp x.0 k ≡ Less) (key_same (get_or pairs i d).0 key e) (all_above x.0 pairs i d t (omega arith)) in
    let other : same_key x.0 key ≡ false = same_is x.0 key ∙ ap is_eq below in
    rw other (found pairs default key i d (ascends_any x.0 pairs t) (omega arith) e)

-- without one it is the default
not_found : (pairs : Pairs) (default : Behaviour) (key : Key) → ((i : ℕ) (d : Key × Behaviour) → i < length pairs → is_eq (key_cmp (get_or pairs i d).0 key) ≡ false) → behaviour_at pairs default key ≡ default
not_found [] default key none = refl
not_found (x ∷ pairs) default key none =
    let other : same_key x.0 key ≡ false = same_is x.0 key ∙ none 0 x (omega arith) in
    rw other (not_found pairs default key (λ i d lt. none (suc i) d (omega arith)))

either_side : {P : Type 0} (i at : ℕ) → (i < at → P) → (at ≤ i → P) → P
either_side zero zero f g = g (omega arith)
either_side zero (suc at) f g = f (omega arith)
either_side (suc i) zero f g = g (omega arith)
either_side (suc i) (suc at) f g = either_side i at (λ lt. f (omega arith)) (λ le. g (omega arith))

-- a search that answers a gap found no pair
pub gap : (pairs : Pairs) (default : Behaviour) (key : Key) (at : ℕ) → ascends key_cmp None pairs ≡ true → IsBinarySearchResult (λ (x : Key × Behaviour). key_cmp x.0 key) pairs (Err at) → behaviour_at pairs default key ≡ default
gap pairs default key at up parted =
    let parts = parted (rises pairs key up) in
    not_found pairs default key (λ i d lt. either_side i at (λ below. ap is_eq (parts.0 i d (omega arith) below)) (λ above. ap is_eq (parts.1 i d above lt)))
