-- The piece that has a key.
use Rattle.std.proofs.Common.{◌≡◌, ◌⊎◌, inl, inr, ℕ, zero, suc, ◌+◌, ◌-◌, ◌*◌, ◌^◌, ◌<◌, ◌≤◌, List, [], ◌∷◌, ◌++◌, length, get_or, take, drop, min, None, true, false, refl, sym, ap, ◌∙◌, arith, append_assoc, length-append, zero-add}
use Rattle.std.specs.Arc.{arc_value}
use Rattle.std.specs.Cmp.{IsTotalOrder}
use Rattle.std.specs.List.{flat_map}
use Rattle.std.specs.declared.cmp.Ordering.{Ordering}
use Rattle.std.specs.declared.sync.Arc.{Arc}
use Rattle.std.proofs.Math.Nat.{le_trans, min-le_right}
use Rattle.std.proofs.lemmas.Bool.{cases_lt}
use Rattle.std.proofs.lemmas.List.{append-nil, drop-map, take-map, map-append, take-append-le, drop-append-le, length-take, drop_all, take_all}
use Rattle.std.proofs.lemmas.List.Concat.{flat_map-append}
use Rattle.cat_ordered.specs.Maps.{IsMap, value_of, begins_by}
use Rattle.cat_ordered.specs.Places.{place_of}
use Rattle.cat_ordered.specs.Pieces.{IsPiece, AreFine}
use Rattle.cat_ordered.specs.Shared.{values}
use Rattle.cat_ordered.proofs.Cutting.{many_entries}
use Rattle.cat_ordered.proofs.Costs.{summed, among_many, in_one}
use Rattle.cat_ordered.proofs.Found.{place_within}
use Rattle.cat_ordered.proofs.Lists.{all_at, drop_at, take_at}
use Rattle.cat_ordered.proofs.LookUps.{AllBelow, front_begins, value_between, place_between}
use Rattle.cat_ordered.proofs.Order.{ascends_front, ascends_back}

-- ---- lists of shared pieces

module _ {T Z : Type 0} where
  pub length-values : (list : List (Arc T Z)) → length (values list) ≡ length list
  length-values [] = refl
  length-values (x ∷ list) = ap suc (length-values list)

  pub value_at : (list : List (Arc T Z)) (i : ℕ) (x : Arc T Z) → i < length list → x ≡ get_or list i x → arc_value x ≡ get_or (values list) i (arc_value x)
  value_at [] i x lt e = absurd (omega arith)
  value_at (y ∷ list) zero x lt e = ap arc_value e
  value_at (y ∷ list) (suc i) x lt e = value_at list i x (omega arith) e

  pub values-drop : (n : ℕ) (list : List (Arc T Z)) → values (drop n list) ≡ drop n (values list)
  values-drop n list = sym (drop-map arc_value n list)

  pub values-take : (n : ℕ) (list : List (Arc T Z)) → values (take n list) ≡ take n (values list)
  values-take n list = sym (take-map arc_value n list)

  -- an owner more
  pub pushed : (out new : List (Arc T Z)) (a : Arc T Z) (x : T) → new ≡ out ++ a ∷ [] → arc_value a ≡ x → values new ≡ values out ++ x ∷ []
  pushed out new a x e v = ap values e ∙ map-append arc_value out (a ∷ []) ∙ ap (λ (y : T). values out ++ y ∷ []) v

-- ---- places in lists that are put together

drop_past : {E : Type 0} (a b : List E) (n : ℕ) → drop (length a + n) (a ++ b) ≡ drop n b
drop_past [] b n = ap (λ (k : ℕ). drop k b) (zero-add n)
drop_past (x ∷ a) b n = let e : suc (length a) + n ≡ suc (length a + n) = omega arith in rw e (drop_past a b n)

pub within_front : {E : Type 0} (got from : List E) → got ≡ take (length got) from → length got ≤ length from
within_front got from e =
    let n : length got ≡ min (length got) (length from) = ap length e ∙ length-take (length got) from in
    omega (arith, min-le_right (length got) (length from))

-- ---- one of the pieces

module _ {E T : Type 0} (entries : T → List E) where
  -- all of them, up to one and from it on
  pub halves : (list : List T) (i : ℕ) → flat_map entries list ≡ flat_map entries (take i list) ++ flat_map entries (drop i list)
  halves list zero = refl
  halves [] (suc i) = refl
  halves (x ∷ list) (suc i) = rw (halves list i) (sym (append_assoc (entries x) (flat_map entries (take i list)) (flat_map entries (drop i list))))

  -- one, and those after it
  pub from_one : (list : List T) (i : ℕ) (x : T) → i < length list → x ≡ get_or list i x → flat_map entries (drop i list) ≡ entries x ++ flat_map entries (drop (i + 1) list)
  from_one list i x lt e = ap (flat_map entries) (drop_at list i x lt e)

  -- the pieces up to one, that one, and the others
  pub parted : (list : List T) (i : ℕ) (x : T) → i < length list → x ≡ get_or list i x → flat_map entries list ≡ flat_map entries (take i list) ++ (entries x ++ flat_map entries (drop (i + 1) list))
  parted list i x lt e = halves list i ∙ ap (λ (m : List E). flat_map entries (take i list) ++ m) (from_one list i x lt e)

  pub within : (list : List T) (i : ℕ) (x : T) → i < length list → x ≡ get_or list i x → length (entries x) ≤ length (flat_map entries list)
  within list i x lt e =
      let whole = ap length (parted list i x lt e) in
      omega (arith, whole, length-append (flat_map entries (take i list)) (entries x ++ flat_map entries (drop (i + 1) list)), length-append (entries x) (flat_map entries (drop (i + 1) list)))

begins_front : {K V : Type 0} (cmp : K → K → Ordering) (e b : List (K × V)) (key : K) → 0 < length e → begins_by cmp (e ++ b) key ≡ begins_by cmp e key
begins_front cmp [] b key lt = absurd (omega arith)
begins_front cmp (x ∷ e) b key lt = refl

-- nothing begins past the end
pub none_begins : {K V T Z : Type 0} (cmp : K → K → Ordering) (entries : T → List (K × V)) (list : List (Arc T Z)) (i : ℕ) (key : K) → length list ≤ i → begins_by cmp (flat_map entries (drop i (values list))) key ≡ false
none_begins cmp entries list i key le =
    let none = drop_all i (values list) (omega (arith, length-values list)) in
    rw none refl

module _ {E T Z : Type 0} (entries : T → List E) (size : T → ℕ) (least : ℕ) where
  pub piece_at : (list : List (Arc T Z)) (i : ℕ) (x : Arc T Z) → AreFine entries size least (values list) → i < length list → x ≡ get_or list i x → IsPiece (entries (arc_value x)) (size (arc_value x)) least
  piece_at list i x fine lt e = all_at (λ y. IsPiece (entries y) (size y) least) (values list) i (arc_value x) (omega (arith, length-values list)) (value_at list i x lt e) fine.pieces

  pub parted_at : (list : List (Arc T Z)) (i : ℕ) (x : Arc T Z) → i < length list → x ≡ get_or list i x
      → flat_map entries (values list) ≡ flat_map entries (take i (values list)) ++ (entries (arc_value x) ++ flat_map entries (drop (i + 1) (values list)))
  parted_at list i x lt e = parted entries (values list) i (arc_value x) (omega (arith, length-values list)) (value_at list i x lt e)

  -- how many comparisons find a key among the pieces
  pub found_cost : (list : List (Arc T Z)) (i : ℕ) (x : Arc T Z) (c d n : ℕ) → AreFine entries size least (values list) → i < length list → x ≡ get_or list i x → n ≤ c + d
      → 2 ^ c < 2 * length list → 2 ^ d ≤ (length (entries (arc_value x)) + 1) * (length (entries (arc_value x)) + 1) → 2 ^ d ≤ least * least
      → 2 ^ n ≤ (length (flat_map entries (values list)) + 1) * (length (flat_map entries (values list)) + 1)
  found_cost list i x c d n fine lt e sum search one most = le_trans (summed c d n sum) (by_length (cases_lt (length list) 2))
    where
      by_length : (length list < 2) ⊎ (2 ≤ length list) → 2 ^ c * 2 ^ d ≤ (length (flat_map entries (values list)) + 1) * (length (flat_map entries (values list)) + 1)
      by_length (inl few) = in_one (2 ^ c) (2 ^ d) (length (flat_map entries (values list))) (length (entries (arc_value x))) (omega arith) one (within entries (values list) i (arc_value x) (omega (arith, length-values list)) (value_at list i x lt e))
      by_length (inr two) = among_many (2 ^ c) (2 ^ d) (length list) least (length (flat_map entries (values list))) search most
          (rw (← length-values list) (many_entries entries size least (values list) fine.pieces (fine.large (omega (arith, length-values list)))))

module _ {K V T Z : Type 0} (cmp : K → K → Ordering) (total : IsTotalOrder cmp) (entries : T → List (K × V)) (size : T → ℕ) (least : ℕ) where
  -- the rest begins as its first piece does
  pub begins_at : (list : List (Arc T Z)) (i : ℕ) (x : Arc T Z) (key : K) → AreFine entries size least (values list) → i < length list → x ≡ get_or list i x
      → begins_by cmp (flat_map entries (drop i (values list))) key ≡ begins_by cmp (entries (arc_value x)) key
  begins_at list i x key fine lt e =
      let first = from_one entries (values list) i (arc_value x) (omega (arith, length-values list)) (value_at list i x lt e) in
      ap (λ (m : List (K × V)). begins_by cmp m key) first
      ∙ begins_front cmp (entries (arc_value x)) (flat_map entries (drop (i + 1) (values list))) key (piece_at entries size least list i x fine lt e).some

  -- all before the piece is below the key
  pub front_there : (list : List (Arc T Z)) (i : ℕ) (key : K) → IsMap cmp (flat_map entries (values list))
      → (i ≡ 0) ⊎ (begins_by cmp (flat_map entries (drop i (values list))) key ≡ true) → AllBelow cmp total key (flat_map entries (take i (values list)))
  front_there list i key up (inl first) = rw first tt
  front_there list i key up (inr begins) = front_begins cmp total (flat_map entries (take i (values list))) (flat_map entries (drop i (values list))) key (rw (← halves entries (values list) i) up) begins

  pub value_in : (list : List (Arc T Z)) (i : ℕ) (x : Arc T Z) (key : K) → IsMap cmp (flat_map entries (values list)) → i < length list → x ≡ get_or list i x
      → (i ≡ 0) ⊎ (begins_by cmp (flat_map entries (drop i (values list))) key ≡ true) → begins_by cmp (flat_map entries (drop (i + 1) (values list))) key ≡ false
      → value_of cmp (flat_map entries (values list)) key ≡ value_of cmp (entries (arc_value x)) key
  value_in list i x key up lt e before after =
      let whole = parted_at entries size least list i x lt e in
      rw whole (value_between cmp total (flat_map entries (take i (values list))) (entries (arc_value x)) (flat_map entries (drop (i + 1) (values list))) key (rw (← whole) up) (front_there list i key up before) after)

  pub place_in : (list : List (Arc T Z)) (i : ℕ) (x : Arc T Z) (key : K) → IsMap cmp (flat_map entries (values list)) → i < length list → x ≡ get_or list i x
      → (i ≡ 0) ⊎ (begins_by cmp (flat_map entries (drop i (values list))) key ≡ true) → begins_by cmp (flat_map entries (drop (i + 1) (values list))) key ≡ false
      → place_of cmp (flat_map entries (values list)) key ≡ length (flat_map entries (take i (values list))) + place_of cmp (entries (arc_value x)) key
  place_in list i x key up lt e before after =
      let whole = parted_at entries size least list i x lt e in
      rw whole (place_between cmp total (flat_map entries (take i (values list))) (entries (arc_value x)) (flat_map entries (drop (i + 1) (values list))) key (front_there list i key up before) after)

  -- each piece is a map
  pub map_at : (list : List (Arc T Z)) (i : ℕ) (x : Arc T Z) → IsMap cmp (flat_map entries (values list)) → i < length list → x ≡ get_or list i x → IsMap cmp (entries (arc_value x))
  map_at list i x up lt e =
      let rest = ascends_back cmp total None (flat_map entries (take i (values list))) (entries (arc_value x) ++ flat_map entries (drop (i + 1) (values list))) (rw (← parted_at entries size least list i x lt e) up) in
      ascends_front cmp total None (entries (arc_value x)) (flat_map entries (drop (i + 1) (values list))) rest

-- ---- how many keys are below, by the pieces up to the one that has the key

module _ {K V T Z : Type 0} (cmp : K → K → Ordering) (total : IsTotalOrder cmp) (entries : T → List (K × V)) (size : T → ℕ) (least : ℕ) where
  pub ranked : (list front : List (Arc T Z)) (i : ℕ) (x : Arc T Z) (key : K) (before rank : ℕ) → IsMap cmp (flat_map entries (values list)) → i < length list → x ≡ get_or list i x
      → (i ≡ 0) ⊎ (begins_by cmp (flat_map entries (drop i (values list))) key ≡ true) → begins_by cmp (flat_map entries (drop (i + 1) (values list))) key ≡ false
      → front ≡ take i list → before ≡ length (flat_map entries (values front)) → rank ≡ place_of cmp (entries (arc_value x)) key
      → before + rank ≡ place_of cmp (flat_map entries (values list)) key
  ranked list front i x key before rank up lt e first after f b r =
      let parts : flat_map entries (values front) ≡ flat_map entries (take i (values list)) = ap (λ (l : List (Arc T Z)). flat_map entries (values l)) f ∙ ap (flat_map entries) (values-take i list) in
      omega (arith, b, r, ap length parts, place_in cmp total entries size least list i x key up lt e first after)

  pub ranked_within : (list : List (Arc T Z)) (key : K) (sum : ℕ) → sum ≡ place_of cmp (flat_map entries (values list)) key → length (flat_map entries (values list)) < 2 ^ 64 → sum < 2 ^ 64
  ranked_within list key sum e short = omega (arith, e, short, place_within cmp total (flat_map entries (values list)) key)

-- ---- a place in a list of pieces

module _ {E T Z : Type 0} (entries : T → List E) where
  pub front_fits : (list front : List (Arc T Z)) (i : ℕ) → front ≡ take i list → length (flat_map entries (values front)) ≤ length (flat_map entries (values list))
  front_fits list front i f =
      let parts : flat_map entries (values front) ≡ flat_map entries (take i (values list)) = ap (λ (l : List (Arc T Z)). flat_map entries (values l)) f ∙ ap (flat_map entries) (values-take i list) in
      omega (arith, ap length parts, ap length (halves entries (values list) i), length-append (flat_map entries (take i (values list))) (flat_map entries (drop i (values list))))

  -- the place is behind this piece, which has n entries
  pub behind : (list : List (Arc T Z)) (i : ℕ) (x : Arc T Z) (at left n : ℕ) → i < length list → x ≡ get_or list i x → n ≡ length (entries (arc_value x)) → n ≤ left
      → drop at (flat_map entries (values list)) ≡ drop left (flat_map entries (drop i (values list)))
      → drop at (flat_map entries (values list)) ≡ drop (left - n) (flat_map entries (drop (i + 1) (values list)))
  behind list i x at left n lt e len le so_far =
      let first = from_one entries (values list) i (arc_value x) (omega (arith, length-values list)) (value_at list i x lt e) in
      let b = flat_map entries (drop (i + 1) (values list)) in
      let over : left ≡ length (entries (arc_value x)) + (left - n) = omega arith in
      let past : drop left (entries (arc_value x) ++ b) ≡ drop (left - n) b = ap (λ (k : ℕ). drop k (entries (arc_value x) ++ b)) over ∙ drop_past (entries (arc_value x)) b (left - n) in
      so_far ∙ ap (drop left) first ∙ past

  pub still_within : (list : List (Arc T Z)) (i : ℕ) (x : Arc T Z) (left n : ℕ) → i < length list → x ≡ get_or list i x → n ≡ length (entries (arc_value x)) → n ≤ left
      → left < length (flat_map entries (drop i (values list))) → left - n < length (flat_map entries (drop (i + 1) (values list)))
  still_within list i x left n lt e len le within =
      let first = from_one entries (values list) i (arc_value x) (omega (arith, length-values list)) (value_at list i x lt e) in
      omega (arith, within, ap length first, length-append (entries (arc_value x)) (flat_map entries (drop (i + 1) (values list))))

  -- behind all pieces there is no place
  pub nothing_behind : (list : List (Arc T Z)) (i left : ℕ) → length list ≤ i → left < length (flat_map entries (drop i (values list))) → ⊥
  nothing_behind list i left le within =
      let none : drop i (values list) ≡ [] = drop_all i (values list) (omega (arith, length-values list)) in
      let lt : left < 0 = rw none at within in
      omega arith

  -- or the place is in it
  pub inside : (list : List (Arc T Z)) (i : ℕ) (x : Arc T Z) (at left : ℕ) (got : List E) → i < length list → x ≡ get_or list i x → left < length (entries (arc_value x))
      → got ≡ take (length got) (drop left (entries (arc_value x)))
      → drop at (flat_map entries (values list)) ≡ drop left (flat_map entries (drop i (values list)))
      → got ≡ take (length got) (drop at (flat_map entries (values list)))
  inside list i x at left got lt e le taken so_far =
      let first = from_one entries (values list) i (arc_value x) (omega (arith, length-values list)) (value_at list i x lt e) in
      let b = flat_map entries (drop (i + 1) (values list)) in
      let there : drop at (flat_map entries (values list)) ≡ drop left (entries (arc_value x)) ++ b = so_far ∙ ap (drop left) first ∙ drop-append-le left (entries (arc_value x)) b (omega arith) in
      rw there (taken ∙ sym (take-append-le (length got) (drop left (entries (arc_value x))) b (within_front got (drop left (entries (arc_value x))) taken)))

  -- how many there are up to a piece, and with it
  pub total_more : (list : List (Arc T Z)) (i : ℕ) (x : Arc T Z) (sum n more : ℕ) → i < length list → x ≡ get_or list i x → n ≡ length (entries (arc_value x)) → more ≡ sum + n
      → sum ≡ length (flat_map entries (take i (values list))) → more ≡ length (flat_map entries (take (i + 1) (values list)))
  total_more list i x sum n more lt e len add so_far =
      let parts : flat_map entries (take (i + 1) (values list)) ≡ flat_map entries (take i (values list)) ++ entries (arc_value x) =
      ap (flat_map entries) (take_at (values list) i (arc_value x) (omega (arith, length-values list)) (value_at list i x lt e)) ∙ flat_map-append entries (take i (values list)) (arc_value x ∷ [])
      ∙ ap (λ (m : List E). flat_map entries (take i (values list)) ++ m) (append-nil (entries (arc_value x))) in
      omega (arith, ap length parts, length-append (flat_map entries (take i (values list))) (entries (arc_value x)))

  front_within : (list : List (Arc T Z)) (i : ℕ) → length (flat_map entries (take i (values list))) ≤ length (flat_map entries (values list))
  front_within list i = omega (arith, ap length (halves entries (values list) i), length-append (flat_map entries (take i (values list))) (flat_map entries (drop i (values list))))

  pub total_over : (list : List (Arc T Z)) (i : ℕ) (x : Arc T Z) (sum n : ℕ) → i < length list → x ≡ get_or list i x → n ≡ length (entries (arc_value x)) → 2 ^ 64 ≤ sum + n
      → sum ≡ length (flat_map entries (take i (values list))) → 2 ^ 64 ≤ length (flat_map entries (values list))
  total_over list i x sum n lt e len over so_far = omega (arith, total_more list i x sum n (sum + n) lt e len refl so_far, front_within list (i + 1))

  pub total_all : (list : List (Arc T Z)) (i sum : ℕ) → length list ≤ i → sum ≡ length (flat_map entries (take i (values list))) → sum ≡ length (flat_map entries (values list))
  total_all list i sum le so_far = so_far ∙ ap (λ (l : List T). length (flat_map entries l)) (take_all i (values list) (omega (arith, length-values list)))
