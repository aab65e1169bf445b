-- Changes in the memory of what is changed.
use Rattle.std.proofs.Common.{◌≡◌, ◌⊎◌, ℕ, zero, suc, ◌+◌, ◌-◌, ◌<◌, ◌≤◌, List, [], ◌∷◌, ◌++◌, length, get_or, slice_set, take, drop, Option, Some, None, true, false, refl, sym, ap, subst, ◌∙◌, arith, append_assoc, length-append}
use Rattle.std.proofs.lemmas.List.{append-nil, map-append}
use Rattle.std.proofs.lemmas.List.Concat.{flat_map-append}
use Rattle.std.specs.Arc.{arc_value}
use Rattle.std.specs.Cmp.{IsTotalOrder}
use Rattle.std.specs.List.{flat_map}
use Rattle.std.specs.declared.cmp.Ordering.{Ordering}
use Rattle.std.specs.declared.sync.Arc.{Arc}
use Rattle.cat_ordered.specs.Maps.{IsMap, after_change, after_changes, begins_by, kept, present}
use Rattle.cat_ordered.specs.Places.{place_of, below, above}
use Rattle.cat_ordered.specs.Pieces.{IsPiece, ArePieces, AreLarge, AreFine, debt, Makes, AppendsAll, Inserts}
use Rattle.cat_ordered.specs.Shared.{values}
use Rattle.cat_ordered.proofs.Appends.{no_debt, large_around}
use Rattle.cat_ordered.proofs.Changes.{left_none, left_one, parts, take_place, drop_other}
use Rattle.cat_ordered.proofs.Found.{past_end}
use Rattle.cat_ordered.proofs.Lists.{all_append, all_take, all_drop, length_of_take}
use Rattle.cat_ordered.proofs.LookUps.{AllBelow}
use Rattle.cat_ordered.proofs.Seats.{length-values, values-drop, values-take, halves, parted_at, front_there}
use Rattle.cat_ordered.proofs.Splits.{past_one, before}

-- ---- lists in which one place is changed

module _ {X : Type 0} where
  pub set_parts : (xs : List X) (i : ℕ) (x : X) → i < length xs → slice_set xs i x ≡ take i xs ++ x ∷ drop (i + 1) xs
  set_parts [] i x lt = absurd (omega arith)
  set_parts (y ∷ xs) zero x lt = refl
  set_parts (y ∷ xs) (suc i) x lt = let k : suc i + 1 ≡ suc (i + 1) = omega arith in rw k (ap (λ (l : List X). y ∷ l) (set_parts xs i x (omega arith)))

  -- what stands before a place, and what was put behind it
  front_again : (i : ℕ) (xs back : List X) → i ≤ length xs → take i (take i xs ++ back) ≡ take i xs
  front_again zero xs back le = refl
  front_again (suc i) [] back le = absurd (omega arith)
  front_again (suc i) (x ∷ xs) back le = ap (λ (l : List X). x ∷ l) (front_again i xs back (omega arith))

  back_again : (i : ℕ) (xs back : List X) → i ≤ length xs → drop i (take i xs ++ back) ≡ back
  back_again zero xs back le = refl
  back_again (suc i) [] back le = absurd (omega arith)
  back_again (suc i) (x ∷ xs) back le = back_again i xs back (omega arith)

-- ---- pairs that are changed at a place

module _ {K V : Type 0} where
  -- a change leaves nothing there
  pub leaves_none : (front back new : List (K × V)) (change : K × Option V) (pair : Option (K × V)) → pair ≡ kept change → pair ≡ None → new ≡ front ++ back → new ≡ front ++ (present change ++ back)
  leaves_none front back new change pair e none n = n ∙ ap (λ (m : List (K × V)). front ++ (m ++ back)) (sym (left_none change (sym e ∙ none)))

  -- or one pair
  pub leaves_one : (front back new : List (K × V)) (change : K × Option V) (pair : Option (K × V)) (x : K × V) → pair ≡ kept change → pair ≡ Some x → new ≡ front ++ x ∷ back → new ≡ front ++ (present change ++ back)
  leaves_one front back new change pair x e some n = n ∙ ap (λ (m : List (K × V)). front ++ (m ++ back)) (sym (left_one change x (sym e ∙ some)))

module _ {K V : Type 0} (cmp : K → K → Ordering) (total : IsTotalOrder cmp) where
  pub drop_here : (map : List (K × V)) (key : K) (i : ℕ) → i ≡ place_of cmp map key → length map ≤ i → drop i map ≡ above cmp map key
  drop_here map key i here le = ap (λ (k : ℕ). drop k map) here ∙ drop_other cmp total map key (past_end cmp total map key i here le)

  -- a change was made at the place of its key
  pub made_at : (map new : List (K × V)) (change : K × Option V) (i n : ℕ) → i ≡ place_of cmp map change.0 → drop n map ≡ above cmp map change.0 → new ≡ take i map ++ (present change ++ drop n map) → new ≡ after_change cmp change map
  made_at map new change i n here rest e =
      e ∙ ap (λ (l : List (K × V)). l ++ (present change ++ drop n map)) (ap (λ (k : ℕ). take k map) here ∙ take_place cmp total map change.0)
      ∙ ap (λ (l : List (K × V)). below cmp map change.0 ++ (present change ++ l)) rest ∙ sym (parts cmp total map change)

  pub one_change : (cs : List (K × Option V)) (c : K × Option V) (map : List (K × V)) → length cs ≡ 1 → c ≡ get_or cs 0 c → after_change cmp c map ≡ after_changes cmp cs map
  one_change [] c map one e = absurd (omega arith)
  one_change (d ∷ []) c map one e = ap (λ (x : K × Option V). after_change cmp x map) e
  one_change (d ∷ f ∷ cs) c map one e = absurd (omega arith)

-- ---- pieces among others

module _ {E T : Type 0} (entries : T → List E) (size : T → ℕ) (least : ℕ) where
  pub put_alone : (others made : List T) (i : ℕ) → length others ≡ 0 → i ≤ length others → AreFine entries size least made → Inserts entries size least others i made made
  put_alone [] made zero none le fine = record { whole = sym (append-nil (flat_map entries made)); fine = fine }
  put_alone [] made (suc i) none le fine = absurd (omega arith)
  put_alone (x ∷ others) made i none le fine = absurd (omega arith)

  put_whole : (others more new : List T) (i : ℕ) → new ≡ take i others ++ (more ++ drop i others) → flat_map entries new ≡ flat_map entries (take i others) ++ (flat_map entries more ++ flat_map entries (drop i others))
  put_whole others more new i n =
      ap (flat_map entries) n ∙ flat_map-append entries (take i others) (more ++ drop i others)
      ∙ ap (λ (m : List E). flat_map entries (take i others) ++ m) (flat_map-append entries more (drop i others))

  -- large ones among large ones
  pub put_large : (others more new : List T) (i : ℕ) → AreFine entries size least more → AreLarge entries size least more → ArePieces entries size least others → AreLarge entries size least others
      → new ≡ take i others ++ (more ++ drop i others) → Inserts entries size least others i more new
  put_large others more new i fine all pieces large n =
      let both : AreLarge entries size least (take i others ++ (more ++ drop i others)) =
      all_append (λ x. 16 ≤ size x) (take i others) (more ++ drop i others) (all_take (λ x. 16 ≤ size x) i others large) (all_append (λ x. 16 ≤ size x) more (drop i others) all (all_drop (λ x. 16 ≤ size x) i others large)) in
      let P = λ (x : T). IsPiece (entries x) (size x) least in
      let whole : AreFine entries size least (take i others ++ (more ++ drop i others)) = record {
        pieces = all_append P (take i others) (more ++ drop i others) (all_take P i others pieces) (all_append P more (drop i others) fine.pieces (all_drop P i others pieces));
        large = λ two. both;
      } in
      record { whole = put_whole others more new i n; fine = subst (λ (l : List T). AreFine entries size least l) (sym n) whole }

  -- those before the place are fine
  pub fine_before : (others front : List T) (i : ℕ) → ArePieces entries size least others → AreLarge entries size least others → front ≡ take i others → AreFine entries size least front
  fine_before others front i pieces large f = rw f (record { pieces = all_take (λ x. IsPiece (entries x) (size x) least) i others pieces; large = λ two. all_take (λ x. 16 ≤ size x) i others large })

  pub fine_behind : (others back : List T) (i : ℕ) → ArePieces entries size least others → AreLarge entries size least others → back ≡ drop i others → AreFine entries size least back
  fine_behind others back i pieces large b = rw b (record { pieces = all_drop (λ x. IsPiece (entries x) (size x) least) i others pieces; large = λ two. all_drop (λ x. 16 ≤ size x) i others large })

  -- they were appended to those before, and those behind to them
  pub put_appended : (others more front back mid new : List T) (i joined last : ℕ) → AreLarge entries size least others → front ≡ take i others → back ≡ drop i others
      → AppendsAll entries size least front more mid joined → AppendsAll entries size least mid back new last → Inserts entries size least others i more new × (joined + last ≤ 128)
  put_appended others more front back mid new i joined last large f b first second =
      let none : debt entries size least front ≡ 0 = no_debt entries size least front (rw f (all_take (λ x. 16 ≤ size x) i others large)) in
      let level = second.level (rw b (all_drop (λ x. 16 ≤ size x) i others large)) in
      let whole : flat_map entries new ≡ flat_map entries front ++ (flat_map entries more ++ flat_map entries back) =
      second.whole ∙ ap (λ (m : List E). m ++ flat_map entries back) first.whole ∙ append_assoc (flat_map entries front) (flat_map entries more) (flat_map entries back) in (
        record {
          whole = whole ∙ ap (λ (l : List T). flat_map entries l ++ (flat_map entries more ++ flat_map entries back)) f ∙ ap (λ (l : List T). flat_map entries (take i others) ++ (flat_map entries more ++ flat_map entries l)) b;
          fine = second.fine;
        },
        omega (arith, none, level, first.spent),
      )

  pub count_put : (others more new : List T) (i left m n : ℕ) → new ≡ take i others ++ (more ++ drop i others) → left ≡ length (flat_map entries others) → m ≡ length (flat_map entries more) → n ≡ left + m → n ≡ length (flat_map entries new)
  count_put others more new i left m n e l k sum =
      let a = flat_map entries (take i others) in
      let b = flat_map entries (drop i others) in
      omega (arith, l, k, sum, ap length (put_whole others more new i e), length-append a (flat_map entries more ++ b), length-append (flat_map entries more) b, ap length (halves entries others i), length-append a b)

module _ {T Z : Type 0} where
  -- one piece was taken out
  pub others_are : (list others : List (Arc T Z)) (i : ℕ) → others ≡ take i list ++ drop (i + 1) list → values others ≡ take i (values list) ++ drop (i + 1) (values list)
  others_are list others i o =
      ap values o ∙ map-append arc_value (take i list) (drop (i + 1) list)
      ∙ ap (λ (l : List T). l ++ values (drop (i + 1) list)) (values-take i list) ∙ ap (λ (l : List T). take i (values list) ++ l) (values-drop (i + 1) list)

  pub place_left : (list others : List (Arc T Z)) (i : ℕ) → others ≡ take i list ++ drop (i + 1) list → i < length list → i ≤ length others
  place_left list others i o lt = omega (arith, ap length o, length-append (take i list) (drop (i + 1) list), length_of_take i list (omega arith))

  -- the only one of a list was put in
  pub put_only : (others one rest new : List (Arc T Z)) (i : ℕ) (x : Arc T Z) → length one ≡ 1 → one ≡ rest ++ x ∷ [] → new ≡ take i others ++ x ∷ drop i others → values new ≡ take i (values others) ++ (values one ++ drop i (values others))
  put_only others one [] new i x len o n =
      ap values n ∙ map-append arc_value (take i others) (x ∷ drop i others) ∙ ap (λ (l : List T). l ++ values (x ∷ drop i others)) (values-take i others)
      ∙ ap (λ (l : List T). take i (values others) ++ (arc_value x ∷ l)) (values-drop i others) ∙ ap (λ (l : List T). take i (values others) ++ (l ++ drop i (values others))) (sym (ap values o))
  put_only others one (y ∷ rest) new i x len o n = absurd (omega (arith, len, ap length o, length-append rest (x ∷ [])))

module _ {E T Z : Type 0} (entries : T → List E) (size : T → ℕ) (least : ℕ) where
  pub only_large : (one : List (Arc T Z)) (y : Arc T Z) → length one ≡ 1 → y ≡ get_or one 0 y → 16 ≤ size (arc_value y) → AreLarge entries size least (values one)
  only_large [] y len e large = absurd (omega arith)
  only_large (z ∷ []) y len e large = (subst (λ (a : Arc T Z). 16 ≤ size (arc_value a)) e large, tt)
  only_large (z ∷ w ∷ one) y len e large = absurd (omega arith)

  pub only_count : (one : List (Arc T Z)) (y : Arc T Z) (m : ℕ) → length one ≡ 1 → y ≡ get_or one 0 y → m ≡ length (entries (arc_value y)) → m ≡ length (flat_map entries (values one))
  only_count [] y m len e h = absurd (omega arith)
  only_count (z ∷ []) y m len e h = h ∙ ap (λ (a : Arc T Z). length (entries (arc_value a))) e ∙ ap length (sym (append-nil (entries (arc_value z))))
  only_count (z ∷ w ∷ one) y m len e h = absurd (omega arith)

  -- what holds of the others
  pub others_pieces : (list others : List (Arc T Z)) (i : ℕ) → others ≡ take i list ++ drop (i + 1) list → AreFine entries size least (values list) → ArePieces entries size least (values others)
  others_pieces list others i o fine =
      let P = λ (x : T). IsPiece (entries x) (size x) least in
      subst (λ (l : List T). ArePieces entries size least l) (sym (others_are list others i o)) (all_append P (take i (values list)) (drop (i + 1) (values list)) (all_take P i (values list) fine.pieces) (all_drop P (i + 1) (values list) fine.pieces))

  pub others_large : (list others : List (Arc T Z)) (i : ℕ) → others ≡ take i list ++ drop (i + 1) list → i < length list → AreFine entries size least (values list) → AreLarge entries size least (values others)
  others_large list others i o lt fine =
      let around = large_around entries size least (values list) i fine (omega (arith, length-values list)) in
      subst (λ (l : List T). AreLarge entries size least l) (sym (others_are list others i o)) (all_append (λ x. 16 ≤ size x) (take i (values list)) (drop (i + 1) (values list)) around.0 around.1)

  -- how many entries the others have
  pub others_count : (list others : List (Arc T Z)) (i : ℕ) (x : Arc T Z) (len n left : ℕ) → i < length list → x ≡ get_or list i x → others ≡ take i list ++ drop (i + 1) list
      → len ≡ length (flat_map entries (values list)) → n ≡ length (entries (arc_value x)) → left ≡ len - n → left ≡ length (flat_map entries (values others))
  others_count list others i x len n left lt e o l k sub =
      let a = flat_map entries (take i (values list)) in
      let b = flat_map entries (drop (i + 1) (values list)) in
      let whole = ap length (parted_at entries size least list i x lt e) in
      let rest : flat_map entries (values others) ≡ a ++ b = ap (flat_map entries) (others_are list others i o) ∙ flat_map-append entries (take i (values list)) (drop (i + 1) (values list)) in
      omega (arith, l, k, sub, whole, length-append a (entries (arc_value x) ++ b), length-append (entries (arc_value x)) b, ap length rest, length-append a b)

module _ {K V T Z : Type 0} (cmp : K → K → Ordering) (total : IsTotalOrder cmp) (entries : T → List (K × V)) (size : T → ℕ) (least : ℕ) where
  -- one piece was changed, and what it became put back
  pub one_made : (list others : List (Arc T Z)) (i : ℕ) (x : Arc T Z) (key : K) (c : K × Option V) (cs : List (K × Option V)) (made new : List T)
      → IsMap cmp (flat_map entries (values list)) → i < length list → x ≡ get_or list i x → others ≡ take i list ++ drop (i + 1) list → length cs ≡ 1 → c ≡ get_or cs 0 c → key ≡ c.0
      → (i ≡ 0) ⊎ (begins_by cmp (flat_map entries (drop i (values list))) key ≡ true) → begins_by cmp (flat_map entries (drop (i + 1) (values list))) key ≡ false
      → Makes entries size least (after_changes cmp cs (entries (arc_value x))) made → Inserts entries size least (values others) i made new
      → Makes entries size least (after_changes cmp cs (flat_map entries (values list))) new
  one_made list others i x key c cs made new up lt e o one ce k first after makes inserts =
      let a = flat_map entries (take i (values list)) in
      let b = flat_map entries (drop (i + 1) (values list)) in
      let y = entries (arc_value x) in
      let here = others_are list others i o in
      let le : i ≤ length (values list) = omega (arith, length-values list) in
      let front : take i (values others) ≡ take i (values list) = ap (take i) here ∙ front_again i (values list) (drop (i + 1) (values list)) le in
      let back : drop i (values others) ≡ drop (i + 1) (values list) = ap (drop i) here ∙ back_again i (values list) (drop (i + 1) (values list)) le in
      let under : AllBelow cmp total c.0 a = subst (λ (q : K). AllBelow cmp total q a) k (front_there cmp total entries size least list i key up first) in
      let miss : begins_by cmp b c.0 ≡ false = ap (begins_by cmp b) (sym k) ∙ after in
      let changed : after_changes cmp cs (flat_map entries (values list)) ≡ a ++ (after_changes cmp cs y ++ b) =
      sym (one_change cmp total cs c (flat_map entries (values list)) one ce) ∙ ap (after_change cmp c) (parted_at entries size least list i x lt e) ∙ past_one cmp total c a (y ++ b) under
      ∙ ap (λ (m : List (K × V)). a ++ m) (before cmp total c y b miss ∙ ap (λ (m : List (K × V)). m ++ b) (one_change cmp total cs c y one ce)) in
      record {
        whole =
            inserts.whole ∙ ap (λ (l : List T). flat_map entries l ++ (flat_map entries made ++ flat_map entries (drop i (values others)))) front
            ∙ ap (λ (l : List T). a ++ (flat_map entries made ++ flat_map entries l)) back ∙ ap (λ (m : List (K × V)). a ++ (m ++ b)) makes.whole ∙ sym changed;
        fine = inserts.fine;
      }
