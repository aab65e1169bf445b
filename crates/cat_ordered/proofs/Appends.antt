-- Lists of pieces to which one is added.
use Rattle.std.proofs.Common.{◌≡◌, ◌⊎◌, inl, inr, ℕ, zero, suc, ◌+◌, ◌<◌, ◌≤◌, List, [], ◌∷◌, ◌++◌, length, take, drop, Bool, true, false, if◌then◌else◌, refl, sym, ap, ◌∙◌, arith, append_assoc, length-append}
use Rattle.std.specs.Prelude.{nat_le}
use Rattle.std.proofs.lemmas.List.{append-nil}
use Rattle.std.proofs.lemmas.List.Concat.{flat_map-append}
use Rattle.std.proofs.lemmas.Bool.{leb-true, le-leb}
use Rattle.std.specs.List.{flat_map}
use Rattle.cat_ordered.specs.Pieces.{IsPiece, AreLarge, AreFine, debt, Joins, Appends, AppendsAll}
use Rattle.cat_ordered.proofs.Lists.{all_append, all_front, all_back, all_take, all_drop}

module _ {E T : Type 0} (entries : T → List E) (size : T → ℕ) (least : ℕ) where
  one_whole : (list : List T) (x : T) → flat_map entries (list ++ x ∷ []) ≡ flat_map entries list ++ entries x
  one_whole list x = flat_map-append entries list (x ∷ []) ∙ ap (λ (m : List E). flat_map entries list ++ m) (append-nil (entries x))

  -- ---- what may still be copied

  pub no_debt : (list : List T) → AreLarge entries size least list → debt entries size least list ≡ 0
  no_debt [] large = refl
  no_debt (x ∷ list) large = let yes : nat_le 16 (size x) ≡ true = le-leb 16 (size x) large.0 in rw yes (no_debt list large.1)

  by_first : (b : Bool) (n : ℕ) → n ≤ 128 → (if b then n else 128) ≤ 128
  by_first true n le = le
  by_first false n le = omega arith

  most_debt : (list : List T) → debt entries size least list ≤ 128
  most_debt [] = omega arith
  most_debt (x ∷ list) = by_first (nat_le 16 (size x)) (debt entries size least list) (most_debt list)

  by_test : (b : Bool) (x : T) → nat_le 16 (size x) ≡ b → (16 ≤ size x → ⊥) → (n : ℕ) → (if b then n else 128) ≡ 128
  by_test true x e small n = absurd (small (leb-true 16 (size x) e))
  by_test false x e small n = refl

  first_debt : (x : T) (n : ℕ) → (16 ≤ size x → ⊥) → (if nat_le 16 (size x) then n else 128) ≡ 128
  first_debt x n small = by_test (nat_le 16 (size x)) x refl small n

  all_debt : (b : Bool) (n : ℕ) → n ≡ 128 → (if b then n else 128) ≡ 128
  all_debt true n e = e
  all_debt false n e = refl

  small_debt : (init : List T) (last : T) → (16 ≤ size last → ⊥) → debt entries size least (init ++ last ∷ []) ≡ 128
  small_debt [] last small = first_debt last 0 small
  small_debt (x ∷ init) last small = all_debt (nat_le 16 (size x)) (debt entries size least (init ++ last ∷ [])) (small_debt init last small)

  -- ---- one more

  -- what holds of a list and what is last in it
  pub last_is : (init : List T) (last : T) → AreFine entries size least (init ++ last ∷ []) → IsPiece (entries last) (size last) least
  last_is init last fine = (all_back (λ x. IsPiece (entries x) (size x) least) init (last ∷ []) fine.pieces).0

  init_large : (init : List T) (last : T) → 0 < length init → AreFine entries size least (init ++ last ∷ []) → AreLarge entries size least init × (16 ≤ size last)
  init_large init last lt fine =
      let all = fine.large (omega (arith, length-append init (last ∷ []))) in
      (all_front (λ x. 16 ≤ size x) init (last ∷ []) all, (all_back (λ x. 16 ≤ size x) init (last ∷ []) all).0)

  pub first_one : (next : T) → IsPiece (entries next) (size next) least → Appends entries size least [] next (next ∷ []) 0
  first_one next piece = record {
    whole = append-nil (entries next);
    fine = record { pieces = (piece, tt); large = λ two. absurd (omega arith) };
    large = λ large. (large, tt);
    some = omega arith;
    longer = omega arith;
    one_more = λ all large. refl;
    few = omega arith;
    level = λ large. omega (arith, no_debt (next ∷ []) (large, tt));
    spent = omega (arith, most_debt (next ∷ []));
  }

  pub both_large : (old : List T) (next : T) → AreFine entries size least old → AreLarge entries size least old → IsPiece (entries next) (size next) least → 16 ≤ size next → Appends entries size least old next (old ++ next ∷ []) 0
  both_large old next fine all piece large =
      let both = all_append (λ x. 16 ≤ size x) old (next ∷ []) all (large, tt) in
      record {
        whole = one_whole old next;
        fine = record {
          pieces = all_append (λ x. IsPiece (entries x) (size x) least) old (next ∷ []) fine.pieces (piece, tt);
          large = λ two. both;
        };
        large = λ l. both;
        some = omega (arith, length-append old (next ∷ []));
        longer = omega (arith, length-append old (next ∷ []));
        one_more = λ a l. length-append old (next ∷ []);
        few = omega arith;
        level = λ l. omega (arith, no_debt (old ++ next ∷ []) both);
        spent = omega (arith, no_debt (old ++ next ∷ []) both);
      }

  -- where the last one is large, all are
  pub all_large : (init : List T) (last : T) → AreFine entries size least (init ++ last ∷ []) → 16 ≤ size last → AreLarge entries size least (init ++ last ∷ [])
  all_large [] last fine large = (large, tt)
  all_large (x ∷ init) last fine large = fine.large (omega (arith, length-append init (last ∷ [])))

  some_there : (list : List T) → 0 < length (flat_map entries list) → 1 ≤ length list
  some_there [] lt = absurd (omega arith)
  some_there (x ∷ list) lt = omega arith

  join_large : (init : List T) (last next : T) (joined : List T) → AreFine entries size least (init ++ last ∷ []) → Joins entries size least last next joined → 2 ≤ length (init ++ joined) → AreLarge entries size least (init ++ joined)
  join_large [] last next joined fine joins two = joins.fine.large two
  join_large (x ∷ init) last next joined fine joins two =
      let old = init_large (x ∷ init) last (omega arith) fine in
      all_append (λ y. 16 ≤ size y) (x ∷ init) joined old.0 (joins.large (inl old.1))

  join_either : (init : List T) (last next : T) (joined : List T) → AreFine entries size least (init ++ last ∷ []) → Joins entries size least last next joined → (16 ≤ size last) ⊎ (16 ≤ size next) → AreLarge entries size least (init ++ joined)
  join_either [] last next joined fine joins either = joins.large either
  join_either (x ∷ init) last next joined fine joins either =
      let old = init_large (x ∷ init) last (omega arith) fine in
      all_append (λ y. 16 ≤ size y) (x ∷ init) joined old.0 (joins.large either)

  -- what a join adds to what was copied
  join_spent : (init : List T) (last next : T) (joined : List T) (copied : ℕ) (b : Bool) → nat_le 16 (size last) ≡ b → AreFine entries size least (init ++ last ∷ []) → Joins entries size least last next joined → copied ≤ 128
      → copied + debt entries size least (init ++ joined) ≤ debt entries size least (init ++ last ∷ []) + 128
  join_spent init last next joined copied true e fine joins le =
      omega (arith, no_debt (init ++ joined) (join_either init last next joined fine joins (inl (leb-true 16 (size last) e))))
  join_spent init last next joined copied false e fine joins le =
      let small = small_debt init last (λ large. let yes = le-leb 16 (size last) large in absurd cc) in
      omega (arith, most_debt (init ++ joined), small)

  -- two that were joined, one of which was small
  pub one_small : (init : List T) (last next : T) (joined : List T) (copied : ℕ) → AreFine entries size least (init ++ last ∷ []) → (16 ≤ size last → 16 ≤ size next → ⊥)
      → Joins entries size least last next joined → copied ≤ 128 → Appends entries size least (init ++ last ∷ []) next (init ++ joined) copied
  one_small init last next joined copied fine small joins le =
      let piece = last_is init last fine in
      let there : 1 ≤ length joined = some_there joined (rw joins.whole (omega (arith, piece.some, length-append (entries last) (entries next)))) in
      record {
        whole =
            flat_map-append entries init joined ∙ ap (λ (m : List E). flat_map entries init ++ m) joins.whole
            ∙ sym (append_assoc (flat_map entries init) (entries last) (entries next)) ∙ ap (λ (m : List E). m ++ entries next) (sym (one_whole init last));
        fine = record {
          pieces = all_append (λ x. IsPiece (entries x) (size x) least) init joined (all_front (λ x. IsPiece (entries x) (size x) least) init (last ∷ []) fine.pieces) joins.fine.pieces;
          large = join_large init last next joined fine joins;
        };
        large = λ large. join_either init last next joined fine joins (inr large);
        some = omega (arith, length-append init joined);
        longer = omega (arith, length-append init joined, length-append init (last ∷ []));
        one_more = λ all large. absurd (small (all_back (λ x. 16 ≤ size x) init (last ∷ []) all).0 large);
        few = le;
        level = λ large. omega (arith, no_debt (init ++ joined) (join_either init last next joined fine joins (inr large)), small_debt init last (λ other. small other large));
        spent = join_spent init last next joined copied (nat_le 16 (size last)) refl fine joins le;
      }

  -- ---- more of them

  pub nothing_more : (old : List T) → AreFine entries size least old → AppendsAll entries size least old [] old 0
  nothing_more old fine = record {
    whole = sym (append-nil (flat_map entries old));
    fine = fine;
    longer = omega arith;
    long = omega arith;
    few = omega arith;
    level = λ large. omega arith;
    spent = omega arith;
  }

  -- where others follow the first one, all are large
  all_more : (old : List T) (x : T) (rest first : List T) (copied : ℕ) → AreFine entries size least (x ∷ rest) → Appends entries size least old x first copied → 2 ≤ length (first ++ rest) → AreLarge entries size least (first ++ rest)
  all_more old x [] first copied fine appends two = all_append (λ y. 16 ≤ size y) first [] (appends.fine.large (omega (arith, length-append first []))) tt
  all_more old x (y ∷ rest) first copied fine appends two =
      let large = fine.large (omega arith) in
      all_append (λ z. 16 ≤ size z) first (y ∷ rest) (appends.large large.0) large.1

  spent_more : (old : List T) (x : T) (rest first : List T) (copied : ℕ) → AreFine entries size least (x ∷ rest) → Appends entries size least old x first copied → copied + debt entries size least (first ++ rest) ≤ debt entries size least old + 128
  spent_more old x [] first copied fine appends = rw (append-nil first) appends.spent
  spent_more old x (y ∷ rest) first copied fine appends =
      let large = fine.large (omega arith) in
      let none = no_debt (first ++ y ∷ rest) (all_append (λ z. 16 ≤ size z) first (y ∷ rest) (appends.large large.0) large.1) in
      omega (arith, none, appends.few)

  -- the first one is joined, and the others follow it
  pub others_more : (old : List T) (x : T) (rest first : List T) (copied : ℕ) → AreFine entries size least (x ∷ rest) → Appends entries size least old x first copied → AppendsAll entries size least old (x ∷ rest) (first ++ rest) copied
  others_more old x rest first copied fine appends = record {
    whole =
        flat_map-append entries first rest ∙ ap (λ (m : List E). m ++ flat_map entries rest) appends.whole
        ∙ append_assoc (flat_map entries old) (entries x) (flat_map entries rest);
    fine = record {
      pieces = all_append (λ y. IsPiece (entries y) (size y) least) first rest appends.fine.pieces fine.pieces.1;
      large = all_more old x rest first copied fine appends;
    };
    longer = omega (arith, appends.longer, length-append first rest);
    long = omega (arith, appends.some, length-append first rest);
    few = appends.few;
    level = λ large. omega (arith, appends.level large.0, no_debt (first ++ rest) (all_append (λ y. 16 ≤ size y) first rest (appends.large large.0) large.1));
    spent = spent_more old x rest first copied fine appends;
  }

  -- ---- the pieces before one, and those after it

  pub large_around : (list : List T) (i : ℕ) → AreFine entries size least list → i < length list → AreLarge entries size least (take i list) × AreLarge entries size least (drop (i + 1) list)
  large_around [] i fine lt = absurd (omega arith)
  large_around (x ∷ []) zero fine lt = (tt, tt)
  large_around (x ∷ []) (suc i) fine lt = absurd (omega arith)
  large_around (x ∷ y ∷ list) i fine lt =
      let large = fine.large (omega arith) in
      (all_take (λ z. 16 ≤ size z) i (x ∷ y ∷ list) large, all_drop (λ z. 16 ≤ size z) (i + 1) (x ∷ y ∷ list) large)
