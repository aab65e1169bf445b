-- Long lists that are cut into pieces.
use Rattle.std.proofs.Common.{◌≡◌, ◌⊎◌, inl, inr, ℕ, zero, suc, ◌+◌, ◌*◌, ◌<◌, ◌≤◌, List, [], ◌∷◌, ◌++◌, length, take, drop, refl, sym, ap, ◌∙◌, arith, append_assoc, length-append}
use Rattle.std.proofs.Math.Nat.{le_trans, mul-le-mul_right, suc-mul}
use Rattle.std.proofs.lemmas.List.{append-nil, map-append}
use Rattle.std.specs.Arc.{arc_value}
use Rattle.std.specs.declared.sync.Arc.{Arc}
use Rattle.cat_ordered.specs.Shared.{values}
use Rattle.std.proofs.lemmas.List.Concat.{flat_map-append}
use Rattle.std.specs.List.{flat_map}
use Rattle.cat_ordered.specs.Pieces.{IsPiece, ArePieces, AreLarge, AreFine, Cuts, Makes, Joins}
use Rattle.cat_ordered.proofs.Lists.{all_append, all_take, all_drop}

-- ---- parts of lists of pieces

module _ {E T : Type 0} (entries : T → List E) (size : T → ℕ) (least : ℕ) where
  length_take_le : (n : ℕ) (list : List T) → length (take n list) ≤ length list
  length_take_le zero list = omega arith
  length_take_le (suc n) [] = omega arith
  length_take_le (suc n) (x ∷ list) = omega (arith, length_take_le n list)

  length_drop_le : (n : ℕ) (list : List T) → length (drop n list) ≤ length list
  length_drop_le zero list = omega arith
  length_drop_le (suc n) [] = omega arith
  length_drop_le (suc n) (x ∷ list) = omega (arith, length_drop_le n list)

  pub fine_take : (n : ℕ) (list : List T) → AreFine entries size least list → AreFine entries size least (take n list)
  fine_take n list fine = record {
    pieces = all_take (λ x. IsPiece (entries x) (size x) least) n list fine.pieces;
    large = λ two. all_take (λ x. 16 ≤ size x) n list (fine.large (omega (arith, length_take_le n list)));
  }

  pub fine_drop : (n : ℕ) (list : List T) → AreFine entries size least list → AreFine entries size least (drop n list)
  fine_drop n list fine = record {
    pieces = all_drop (λ x. IsPiece (entries x) (size x) least) n list fine.pieces;
    large = λ two. all_drop (λ x. 16 ≤ size x) n list (fine.large (omega (arith, length_drop_le n list)));
  }

  some_entries : (list : List T) → ArePieces entries size least list → 0 < length list → 0 < length (flat_map entries list)
  some_entries [] pieces lt = absurd (omega arith)
  some_entries (x ∷ list) pieces lt = omega (arith, pieces.0.some, length-append (entries x) (flat_map entries list))

  -- large pieces have so many entries each
  pub many_entries : (list : List T) → ArePieces entries size least list → AreLarge entries size least list → length list * least ≤ length (flat_map entries list)
  many_entries [] pieces large = omega arith
  many_entries (x ∷ list) pieces large =
      let more : length (x ∷ list) * least ≡ length list * least + least = suc-mul (length list) least in
      rw more (omega (arith, many_entries list pieces.1 large.1, pieces.0.heavy large.0, length-append (entries x) (flat_map entries list)))

  -- a run of fine pieces is a piece
  pub run_piece : (list : List T) → AreFine entries size least list → 0 < length list → length list ≤ 64 → IsPiece (flat_map entries list) (length list) (16 * least)
  run_piece list fine some fits = record {
    some = some_entries list fine.pieces some;
    full = some;
    fits = fits;
    heavy = λ many. le_trans (mul-le-mul_right least many) (many_entries list fine.pieces (fine.large (omega arith)));
  }

-- ---- the pieces that were cut off, and the number of parts that are left

module _ {E T : Type 0} (entries : T → List E) (size : T → ℕ) (least : ℕ) where
  pub record Cutting (parts : ℕ) (list : List T) (left : ℕ) : Type 0 where
    pub pieces : ArePieces entries size least list
    pub large : AreLarge entries size least list
    pub after : 0 < length list → 16 ≤ left
    pub many : 16 ≤ parts → 16 ≤ left

  pub cut_none : (parts : ℕ) → Cutting parts [] parts
  cut_none parts = record { pieces = tt; large = tt; after = λ some. absurd (omega arith); many = λ many. many }

  cut_more : (parts : ℕ) (list : List T) (left now : ℕ) (x : T) → Cutting parts list left → 32 < left → now + 16 ≡ left → IsPiece (entries x) (size x) least → size x ≡ 16 → Cutting parts (list ++ x ∷ []) now
  cut_more parts list left now x so_far lt e piece n = record {
    pieces = all_append (λ y. IsPiece (entries y) (size y) least) list (x ∷ []) so_far.pieces (piece, tt);
    large = all_append (λ y. 16 ≤ size y) list (x ∷ []) so_far.large (omega arith, tt);
    after = λ s. omega arith;
    many = λ m. omega arith;
  }

  at_end : (parts : ℕ) (list : List T) (left : ℕ) (x : T) → Cutting parts list left → size x ≡ left
      → (2 ≤ length (list ++ x ∷ []) → AreLarge entries size least (list ++ x ∷ [])) × (16 ≤ parts → AreLarge entries size least (list ++ x ∷ []))
  at_end parts list left x so_far n = (
    λ two. all_append (λ y. 16 ≤ size y) list (x ∷ []) so_far.large (omega (arith, so_far.after (omega (arith, length-append list (x ∷ [])))), tt),
    λ many. all_append (λ y. 16 ≤ size y) list (x ∷ []) so_far.large (omega (arith, so_far.many many), tt),
  )

  -- what is left is the last piece
  cut_last : (parts : ℕ) (map : List E) (list : List T) (left : ℕ) (x : T) → Cutting parts list left → size x ≡ left → IsPiece (entries x) (size x) least
      → flat_map entries list ++ entries x ≡ map → Cuts entries size least map parts (list ++ x ∷ [])
  cut_last parts map list left x so_far n piece whole =
      let large = at_end parts list left x so_far n in
      record {
        whole = flat_map-append entries list (x ∷ []) ∙ ap (λ (m : List E). flat_map entries list ++ m) (append-nil (entries x)) ∙ whole;
        fine = record {
          pieces = all_append (λ y. IsPiece (entries y) (size y) least) list (x ∷ []) so_far.pieces (piece, tt);
          large = large.0;
        };
        large = large.1;
      }

  -- nothing was there
  pub cut_nothing : (parts : ℕ) (map : List E) (list : List T) (left : ℕ) (rest : List E) → Cutting parts list left → left ≡ 0 → rest ≡ [] → flat_map entries list ++ rest ≡ map → Cuts entries size least map parts list
  cut_nothing parts map list left rest so_far none e whole = record {
    whole = sym (append-nil (flat_map entries list)) ∙ ap (λ (m : List E). flat_map entries list ++ m) (sym e) ∙ whole;
    fine = record { pieces = so_far.pieces; large = λ two. absurd (omega (arith, so_far.after (omega arith))) };
    large = λ many. absurd (omega (arith, so_far.many many));
  }

  -- one piece more
  whole_more : (list : List T) (x : T) (now left map : List E) → flat_map entries list ++ left ≡ map → left ≡ entries x ++ now → flat_map entries (list ++ x ∷ []) ++ now ≡ map
  whole_more list x now left map whole e =
      ap (λ (m : List E). m ++ now) (flat_map-append entries list (x ∷ []) ∙ ap (λ (m : List E). flat_map entries list ++ m) (append-nil (entries x)))
      ∙ append_assoc (flat_map entries list) (entries x) now ∙ ap (λ (m : List E). flat_map entries list ++ m) (sym e) ∙ whole

  -- what was cut off so far, and what is left
  pub record Cut (map : List E) (parts : ℕ) (list : List T) (left : List E) (n : ℕ) : Type 0 where
    pub whole : flat_map entries list ++ left ≡ map
    pub cut : Cutting parts list n

  pub cut_start : (map : List E) (parts : ℕ) → Cut map parts [] map parts
  cut_start map parts = record { whole = refl; cut = cut_none parts }

  -- ---- as the code cuts

  -- 16 parts are cut off
  pub cut_off : {Z : Type 0} (map : List E) (parts : ℕ) (out new : List (Arc T Z)) (a : Arc T Z) (x : T) (left now : List E) (n m : ℕ)
      → Cut map parts (values out) left n → new ≡ out ++ a ∷ [] → arc_value a ≡ x → left ≡ entries x ++ now → IsPiece (entries x) (size x) least → size x ≡ 16 → 32 < n → m + 16 ≡ n
      → Cut map parts (values new) now m
  cut_off map parts out new a x left now n m so_far e v l piece s lt k =
      let list : values new ≡ values out ++ x ∷ [] = ap values e ∙ map-append arc_value out (a ∷ []) ∙ ap (λ (y : T). values out ++ y ∷ []) v in
      rw list (record {
        whole = whole_more (values out) x now left map so_far.whole l;
        cut = cut_more parts (values out) n m x so_far.cut lt k piece s;
      })

  -- what is left is the last piece
  pub cut_end : {Z : Type 0} (map : List E) (parts : ℕ) (out new : List (Arc T Z)) (a : Arc T Z) (x : T) (left : List E) (n : ℕ)
      → Cut map parts (values out) left n → new ≡ out ++ a ∷ [] → arc_value a ≡ x → left ≡ entries x → IsPiece (entries x) (size x) least → size x ≡ n
      → Cuts entries size least map parts (values new)
  cut_end map parts out new a x left n so_far e v l piece s =
      let list : values new ≡ values out ++ x ∷ [] = ap values e ∙ map-append arc_value out (a ∷ []) ∙ ap (λ (y : T). values out ++ y ∷ []) v in
      rw list (cut_last parts map (values out) n x so_far.cut s piece (ap (λ (m : List E). flat_map entries (values out) ++ m) (sym l) ∙ so_far.whole))

  -- ---- what was cut makes a map, or stands in place of two pieces

  pub cuts_make : (map whole : List E) (parts : ℕ) (list : List T) → Cuts entries size least whole parts list → whole ≡ map → Makes entries size least map list
  cuts_make map whole parts list cuts e = record { whole = cuts.whole ∙ e; fine = cuts.fine }

  pub cuts_join : (a b : T) (whole : List E) (parts : ℕ) (list : List T) → Cuts entries size least whole parts list → whole ≡ entries a ++ entries b → size a ≤ parts → size b ≤ parts → Joins entries size least a b list
  cuts_join a b whole parts list cuts e left right = record { whole = cuts.whole ∙ e; fine = cuts.fine; large = λ either. cuts.large (many either) }
    where
      many : (16 ≤ size a) ⊎ (16 ≤ size b) → 16 ≤ parts
      many (inl large) = omega arith
      many (inr large) = omega arith
