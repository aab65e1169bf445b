-- Where two maps differ, from the lowest key on.
use Rattle.std.proofs.Common.{◌≡◌, List, [], ◌∷◌, ◌++◌, Option, Some, None, Bool, true, false, ◌&&◌, ◌||◌, ◌⊎◌, inl, inr, if◌then◌else◌, refl, sym, ap, ◌∙◌, append_assoc}
use Rattle.std.specs.Prelude.{is_none, is_some, not}
use Rattle.std.specs.Ordering.{is_lt, is_eq, ordering_reverse}
use Rattle.std.specs.Cmp.{tied_back}
use Rattle.cat_model.specs.Differs.{differs}
use Rattle.std.specs.declared.cmp.Ordering.TheVariants.{Less, Equal, Greater}
use Rattle.cat_codes.specs.Code.{follows, ascends}
use Rattle.cat_names.specs.Fields.{Key, key_cmp}
use Rattle.cat_keymap.specs.KeyOrder.{key_total, split3, both_true, head_tail, below_alike, ascends_any}
use Rattle.cat_model.specs.declared.entry.Entry.{Entry}
use Rattle.cat_model.specs.Maps.{Map, entry_of, IsMap}
use Rattle.cat_keymap.specs.Places.{below, above}
use Rattle.cat_model.specs.Changed.{keys_of, is_changed, changed_keys}
use Rattle.cat_model.specs.KeySets.{key_set}
use Rattle.cat_keymap.specs.MapLaws.{entry_is, none_above, none_past, key_same}
use Rattle.cat_keymap.specs.KeyListLaws.{is_in, one_list, rise_lower, changed_rises, in_set, in_filter, in_both}
use Rattle.cat_keymap.specs.Ordered.{rise}
use Rattle.cat_keymap.specs.Walking.{unless_same, walk}
use Rattle.cat_keymap.proofs.Within.{above_ascends, IsMap-above}

-- one pair more is taken up
pub goes_on : (out new : List Key) (a : Map) (x : Key × Entry) (more left rest : Map) (total : List Key) → a ≡ x ∷ more
    → rest ≡ above left x.0 → new ≡ out ++ (keys_of (below left x.0) ++ unless_same x (entry_of left x.0))
    → out ++ walk a left ≡ total → new ++ walk more rest ≡ total
goes_on out new a x more left rest total next r n so_far =
    let front = keys_of (below left x.0) in
    let here = unless_same x (entry_of left x.0) in
    let later = walk more (above left x.0) in
    ap (λ (m : Map). new ++ walk more m) r ∙ ap (λ (m : List Key). m ++ later) n
    ∙ append_assoc out (front ++ here) later ∙ ap (λ (m : List Key). out ++ m) (append_assoc front here later) ∙ sym (ap (λ (m : Map). out ++ walk m left) next) ∙ so_far

-- ---- the keys ascend

keys_rise : (last : Option Key) (m : Map) → ascends key_cmp last m ≡ true → rise last (keys_of m) ≡ true
keys_rise last [] up = refl
keys_rise last (x ∷ m) up = let t = head_tail last x m up in both_true _ _ t.0 (keys_rise (Some x.0) m t.1)

-- what may follow the keys below k
abbrev From : Key → List Key → Type 0
From k ks = (last : Option Key) → follows key_cmp last k ≡ true → rise last ks ≡ true

below_then : (last : Option Key) (m : Map) (k : Key) (rest : List Key) → ascends key_cmp last m ≡ true → follows key_cmp last k ≡ true → ((l : Option Key) → follows key_cmp l k ≡ true → rise l rest ≡ true) → rise last (keys_of (below m k) ++ rest) ≡ true
below_then last [] k rest up f from = from last f
below_then last (x ∷ m) k rest up f from =
    let t = head_tail last x m up in
    split3 (key_cmp x.0 k)
    (λ o. let l : is_lt (key_cmp x.0 k) ≡ true = ap is_lt o in rw o (both_true _ _ t.0 (below_then (Some x.0) m k rest t.1 l from)))
    (λ o. rw o (from last f))
    (λ o. rw o (from last f))

then_here : (x : Key × Entry) (other : Option Entry) (rest : List Key) → rise (Some x.0) rest ≡ true → (l : Option Key) → follows key_cmp l x.0 ≡ true → rise l (unless_same x other ++ rest) ≡ true
then_here x other rest up l f = by (is_none (differs (Some x.1) other)) refl
  where
    by : (b : Bool) → is_none (differs (Some x.1) other) ≡ b → rise l (unless_same x other ++ rest) ≡ true
    by true e = rw e (rise_lower x.0 l rest f up)
    by false e = rw e (both_true _ _ f up)

walk_above : (last : Option Key) (a b : Map) → ascends key_cmp last a ≡ true → ascends key_cmp last b ≡ true → IsMap b → rise last (walk a b) ≡ true
walk_above last [] b up_a up_b map = keys_rise last b up_b
walk_above last (x ∷ a) b up_a up_b map =
    let t = head_tail last x a up_a in
    let above_x = above_ascends b x.0 map in
    let rest = walk_above (Some x.0) a (above b x.0) t.1 above_x (IsMap-above b x.0 map) in
    below_then last b x.0 (unless_same x (entry_of b x.0) ++ walk a (above b x.0)) up_b t.0 (then_here x (entry_of b x.0) (walk a (above b x.0)) rest)

pub walk_rises : (a b : Map) → IsMap a → IsMap b → rise None (walk a b) ≡ true
walk_rises a b up_a up_b = walk_above None a b up_a up_b up_b

-- ---- which keys they are

-- the entries of a key below another, among the pairs below and above it
below_later : (map : Map) (at key : Key) → (key_cmp at key ≡ Less) ⊎ (key_cmp at key ≡ Equal) → entry_of (below map at) key ≡ None
below_later [] at key le = refl
below_later (y ∷ map) at key le = split3 (key_cmp y.0 at)
    (λ o. let lower : key_cmp y.0 key ≡ Less = less_by at y.0 key o le in rw (o, lower) (below_later map at key le))
    (λ o. rw o refl)
    (λ o. rw o refl)
  where
    less_by : (at y key : Key) → key_cmp y at ≡ Less → (key_cmp at key ≡ Less) ⊎ (key_cmp at key ≡ Equal) → key_cmp y key ≡ Less
    less_by at y key o (inl lt) = key_total.trans y at key o lt
    less_by at y key o (inr e) = below_alike at key y e o

none_after : (map : Map) (y : Key × Entry) (key : Key) → key_cmp key y.0 ≡ Less → ascends key_cmp (Some y.0) map ≡ true → entry_of (y ∷ map) key ≡ None
none_after map y key lt up =
    let back : key_cmp y.0 key ≡ Greater = key_total.antisymm y.0 key ∙ ap ordering_reverse lt in
    rw back (entry_is map key ∙ none_above key y.0 map lt up)

below_before : (map : Map) (at key : Key) → key_cmp key at ≡ Less → IsMap map → entry_of (below map at) key ≡ entry_of map key
below_before [] at key lt up = refl
below_before (y ∷ map) at key lt up =
    let t = (head_tail None y map up).1 in
    split3 (key_cmp y.0 at)
    (λ o. rw o (ap (λ (e : Option Entry). if is_eq (key_cmp y.0 key) then Some y.1 else e) (below_before map at key lt (ascends_any y.0 map t))))
    (λ o. rw o (sym (none_after map y key (below_alike at y.0 key (tied_back key_total y.0 at o) lt) t)))
    (λ o. let up_y : key_cmp at y.0 ≡ Less = key_total.antisymm at y.0 ∙ ap ordering_reverse o in rw o (sym (none_after map y key (key_total.trans key at y.0 lt up_y) t)))

pub above_later : (map : Map) (at key : Key) → key_cmp at key ≡ Less → entry_of (above map at) key ≡ entry_of map key
above_later [] at key lt = refl
above_later (y ∷ map) at key lt = split3 (key_cmp y.0 at)
    (λ o. let lower : key_cmp y.0 key ≡ Less = key_total.trans y.0 at key o lt in rw (o, lower) (above_later map at key lt))
    (λ o. let lower : key_cmp y.0 key ≡ Less = key_total.congr y.0 at key o ∙ lt in rw (o, lower) refl)
    (λ o. rw o refl)

above_before : (map : Map) (at key : Key) → key_cmp key at ≡ Less → IsMap map → entry_of (above map at) key ≡ None
above_before map at key lt up = entry_is (above map at) key ∙ none_above key at (above map at) lt (above_ascends map at up)

above_same : (map : Map) (at key : Key) → key_cmp at key ≡ Equal → IsMap map → entry_of (above map at) key ≡ None
above_same map at key e up = entry_is (above map at) key ∙ none_past key at (above map at) e (above_ascends map at up)

-- a key is among a map's where it has an entry
in_map : (map : Map) (key : Key) → is_in key (keys_of map) ≡ is_some (entry_of map key)
in_map [] key = refl
in_map (x ∷ map) key = split3 (key_cmp x.0 key) (λ o. rw o (in_map map key)) (λ o. rw o refl) (λ o. rw o (in_map map key))

from_none : (found : Option Entry) → is_some found ≡ not (is_none (differs None found))
from_none None = refl
from_none (Some entry) = refl

in_unless_other : (key : Key) (x : Key × Entry) (other : Option Entry) → is_eq (key_cmp x.0 key) ≡ false → is_in key (unless_same x other) ≡ false
in_unless_other key x other out = by (is_none (differs (Some x.1) other)) refl
  where
    by : (b : Bool) → is_none (differs (Some x.1) other) ≡ b → is_in key (unless_same x other) ≡ false
    by true e = rw e refl
    by false e = rw e (rw out refl)

in_unless_same : (key : Key) (x : Key × Entry) (other : Option Entry) → is_eq (key_cmp x.0 key) ≡ true → is_in key (unless_same x other) ≡ not (is_none (differs (Some x.1) other))
in_unless_same key x other there = by (is_none (differs (Some x.1) other)) refl
  where
    by : (b : Bool) → is_none (differs (Some x.1) other) ≡ b → is_in key (unless_same x other) ≡ not (is_none (differs (Some x.1) other))
    by true e = rw e refl
    by false e = rw e (rw there refl)

-- the parts of a walk
in_walk : (key : Key) (x : Key × Entry) (a b : Map) → is_in key (walk (x ∷ a) b) ≡ (is_in key (keys_of (below b x.0)) || (is_in key (unless_same x (entry_of b x.0)) || is_in key (walk a (above b x.0))))
in_walk key x a b =
    in_both key (keys_of (below b x.0)) (unless_same x (entry_of b x.0) ++ walk a (above b x.0))
    ∙ ap (λ (c : Bool). is_in key (keys_of (below b x.0)) || c) (in_both key (unless_same x (entry_of b x.0)) (walk a (above b x.0)))

parts_of : (a b c d e f : Bool) → a ≡ d → b ≡ e → c ≡ f → (a || (b || c)) ≡ (d || (e || f))
parts_of a b c d e f g h k = λ i. g i || (h i || k i)

or_none : (a : Bool) → (a || (false || false)) ≡ a
or_none true = refl
or_none false = refl

or_first : (a : Bool) → (false || (a || false)) ≡ a
or_first true = refl
or_first false = refl

changed_by : (a b c d : Option Entry) → a ≡ c → b ≡ d → not (is_none (differs a b)) ≡ not (is_none (differs c d))
changed_by a b c d e h = λ i. not (is_none (differs (e i) (h i)))

walk_in : (key : Key) (a b : Map) → IsMap a → IsMap b → is_in key (walk a b) ≡ is_changed a b key
walk_in key [] b up_a up_b = in_map b key ∙ from_none (entry_of b key)
walk_in key (x ∷ a) b up_a up_b =
    let t = (head_tail None x a up_a).1 in
    let rest = walk_in key a (above b x.0) (ascends_any x.0 a t) (IsMap-above b x.0 up_b) in
    in_walk key x a b ∙ split3 (key_cmp x.0 key)
    (λ o. let here : entry_of a key ≡ entry_of (x ∷ a) key = rw o refl in
    parts_of _ _ _ false false _ (in_map (below b x.0) key ∙ ap is_some (below_later b x.0 key (inl o))) (in_unless_other key x (entry_of b x.0) (ap is_eq o)) rest
    ∙ changed_by _ _ (entry_of (x ∷ a) key) (entry_of b key) here (above_later b x.0 key o))
    (λ o. let here : Some x.1 ≡ entry_of (x ∷ a) key = rw o refl in
    let gone : entry_of a key ≡ None = entry_is a key ∙ none_past key x.0 a o t in
    parts_of _ _ _ false _ false (in_map (below b x.0) key ∙ ap is_some (below_later b x.0 key (inr o))) (in_unless_same key x (entry_of b x.0) (ap is_eq o))
    (rest ∙ changed_by _ _ None None gone (above_same b x.0 key o up_b))
    ∙ or_first _ ∙ changed_by _ _ (entry_of (x ∷ a) key) (entry_of b key) here (ap (entry_of b) (key_same x.0 key o)))
    (λ o. let lower : key_cmp key x.0 ≡ Less = key_total.antisymm key x.0 ∙ ap ordering_reverse o in
    let gone : entry_of a key ≡ None = entry_is a key ∙ none_above key x.0 a lower t in
    parts_of _ _ _ _ false false (in_map (below b x.0) key ∙ ap is_some (below_before b x.0 key lower up_b)) (in_unless_other key x (entry_of b x.0) (ap is_eq o))
    (rest ∙ changed_by _ _ None None gone (above_before b x.0 key lower up_b))
    ∙ or_none _ ∙ from_none (entry_of b key) ∙ changed_by None (entry_of b key) (entry_of (x ∷ a) key) (entry_of b key) (sym (none_after a x key lower t)) refl)

some_there : (a b : Option Entry) → not (is_none (differs a b)) ≡ ((is_some a || is_some b) && not (is_none (differs a b)))
some_there None None = refl
some_there None (Some b) = refl
some_there (Some a) b = refl

-- a key is among those whose entries differ where its own do
pub changed_in : (a b : Map) (key : Key) → is_in key (changed_keys a b) ≡ is_changed a b key
changed_in a b key =
    let keys = keys_of a ++ keys_of b in
    let there = in_set key keys ∙ in_both key (keys_of a) (keys_of b) ∙ (λ i. in_map a key i || in_map b key i) in
    in_filter (is_changed a b) key (key_set keys) ∙ ap (λ (c : Bool). c && is_changed a b key) there ∙ sym (some_there (entry_of a key) (entry_of b key))

-- the walk finds the keys whose entries differ
pub walk_is : (a b : Map) → IsMap a → IsMap b → walk a b ≡ changed_keys a b
walk_is a b up_a up_b = one_list (walk a b) (changed_keys a b) (walk_rises a b up_a up_b) (changed_rises a b) (λ key. walk_in key a b up_a up_b ∙ sym (changed_in a b key))
