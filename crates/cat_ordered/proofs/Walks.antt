-- The walk over the pieces that changes are made in.
use Rattle.std.proofs.Common.{◌≡◌, ◌⊎◌, ℕ, suc, ◌+◌, ◌-◌, ◌*◌, ◌<◌, ◌≤◌, List, [], ◌∷◌, ◌++◌, length, get_or, take, drop, Option, None, true, false, refl, sym, ap, subst, ◌∙◌, arith, append_assoc, length-drop}
use Rattle.std.proofs.Math.Nat.{mul-add, add-mul}
use Rattle.std.proofs.lemmas.List.{drop_all}
use Rattle.std.specs.Arc.{arc_value}
use Rattle.std.specs.Cmp.{IsTotalOrder}
use Rattle.std.specs.List.{flat_map}
use Rattle.std.specs.declared.cmp.Ordering.{Ordering}
use Rattle.std.specs.declared.sync.Arc.{Arc}
use Rattle.cat_codes.specs.Code.{ascends}
use Rattle.cat_ordered.specs.Maps.{IsMap, after_changes, begins_by, share_of}
use Rattle.cat_ordered.specs.Pieces.{IsPiece, AreLarge, AreFine, debt, Makes, Joins, Appends, AppendsAll}
use Rattle.cat_ordered.specs.Shared.{values}
use Rattle.cat_ordered.proofs.Appends.{first_one, both_large, all_large, one_small, nothing_more, others_more, large_around}
use Rattle.cat_ordered.proofs.Cutting.{fine_drop}
use Rattle.cat_ordered.proofs.Lists.{drop_at, length_of_take, no_items}
use Rattle.cat_ordered.proofs.LookUps.{AllBelow}
use Rattle.cat_ordered.proofs.Order.{ascends_back}
use Rattle.cat_ordered.proofs.Seats.{length-values, values-drop, values-take, pushed, halves, parted_at, begins_at, front_there}
use Rattle.cat_ordered.proofs.Splits.{split, past_first, share_none, share_within}

-- ---- what is spent

-- one piece was changed, and what it became appended
pub change_spent : (rate c made appended sum old new : ℕ) → 1 ≤ c → made ≤ rate * c → sum ≤ made + appended → appended + new ≤ old + 128 → sum + new ≤ old + (rate + 128) * c
change_spent rate c made appended sum old new some few le spent =
    let all : (rate + 128) * c ≡ rate * c + 128 * c = add-mul rate 128 c in
    rw all (omega arith)

-- the changes of one piece more are made
pub spend_more : (rate whole left n rest before copies now old new : ℕ) → now ≤ before + copies → before + old ≤ rate * (whole - left) → copies + new ≤ old + rate * n → n + rest ≡ left → left ≤ whole → now + new ≤ rate * (whole - rest)
spend_more rate whole left n rest before copies now old new sum so_far more parts fits =
    let done : whole - rest ≡ (whole - left) + n = omega arith in
    let all : rate * ((whole - left) + n) ≡ rate * (whole - left) + rate * n = mul-add rate (whole - left) n in
    rw (done, all) (omega arith)

module _ {E T Z : Type 0} (entries : T → List E) (size : T → ℕ) (least : ℕ) where
  pub fine_rest : (list others : List (Arc T Z)) (n : ℕ) → others ≡ drop n list → AreFine entries size least (values list) → AreFine entries size least (values others)
  fine_rest list others n e fine = rw (e, values-drop n list) (fine_drop entries size least n (values list) fine)

  -- the last piece and the next were joined
  pub joined_small : (init joined new : List (Arc T Z)) (last next : T) (copied : ℕ) → AreFine entries size least (values init ++ last ∷ []) → (16 ≤ size last → 16 ≤ size next → ⊥)
      → Joins entries size least last next (values joined) → copied ≤ 128 → values new ≡ values init ++ values joined → Appends entries size least (values init ++ last ∷ []) next (values new) copied
  joined_small init joined new last next copied fine small joins few n = rw n (one_small entries size least (values init) last next (values joined) copied fine small joins few)

  -- the first owner
  pub first_owner : (old init new : List (Arc T Z)) (next : T) → length old ≡ 0 → length init ≡ 0 → values new ≡ values init ++ next ∷ [] → IsPiece (entries next) (size next) least → Appends entries size least (values old) next (values new) 0
  first_owner old init new next o i n piece =
      let none : old ≡ [] = no_items old o in
      let empty : init ≡ [] = no_items init i in
      rw (n, none, empty) (first_one entries size least next piece)

  -- an owner after a large one
  pub large_owner : (init again new : List (Arc T Z)) (last : Arc T Z) (next : T) → again ≡ init ++ last ∷ [] → values new ≡ values again ++ next ∷ [] → AreFine entries size least (values init ++ arc_value last ∷ []) → IsPiece (entries next) (size next) least
      → (16 ≤ size (arc_value last)) × (16 ≤ size next) → Appends entries size least (values init ++ arc_value last ∷ []) next (values new) 0
  large_owner init again new last next m n fine piece large =
      let whole : values again ≡ values init ++ arc_value last ∷ [] = pushed init again last (arc_value last) m refl in
      rw (n, whole) (both_large entries size least (values init ++ arc_value last ∷ []) next fine (all_large entries size least (values init) (arc_value last) fine large.0) piece large.1)

  -- pieces after others: the first, and those that follow it
  pub first_of_more : (old first new more rest : List (Arc T Z)) (x : Arc T Z) (copied : ℕ) → AreFine entries size least (values more) → 0 < length more → x ≡ get_or more 0 x → rest ≡ drop 1 more
      → Appends entries size least (values old) (arc_value x) (values first) copied → values new ≡ values first ++ values rest → AppendsAll entries size least (values old) (values more) (values new) copied
  first_of_more old first new [] rest x copied fine some e r appends n = absurd (omega arith)
  first_of_more old first new (y ∷ more) rest x copied fine some e r appends n =
      rw (n, r) (others_more entries size least (values old) (arc_value y) (values more) (values first) copied fine (subst (λ (z : Arc T Z). Appends entries size least (values old) (arc_value z) (values first) copied) e appends))

  pub none_of_more : (old more : List (Arc T Z)) → length more ≡ 0 → AreFine entries size least (values old) → AppendsAll entries size least (values old) (values more) (values old) 0
  none_of_more old more none fine = rw (no_items more none) (nothing_more entries size least (values old) fine)

module _ {K V T : Type 0} (cmp : K → K → Ordering) (total : IsTotalOrder cmp) (entries : T → List (K × V)) (size : T → ℕ) (least : ℕ) where
  pub add_some : (old made new : List T) (x : T) (changes : List (K × Option V)) (copied appended sum rate : ℕ) → Makes entries size least (after_changes cmp changes (entries x)) made
      → copied ≤ rate * length changes → AppendsAll entries size least old made new appended → sum ≤ copied + appended → 0 < length changes
      → Makes entries size least (flat_map entries old ++ after_changes cmp changes (entries x)) new
      × (sum + debt entries size least new ≤ debt entries size least old + (rate + 128) * length changes)
  add_some old made new x changes copied appended sum rate makes few all le some = (
    record { whole = all.whole ∙ ap (λ (m : List (K × V)). flat_map entries old ++ m) makes.whole; fine = all.fine },
    change_spent rate (length changes) copied appended sum (debt entries size least old) (debt entries size least new) (omega arith) few le all.spent,
  )

-- ---- how many changes come before what follows

module _ {K V : Type 0} (cmp : K → K → Ordering) (total : IsTotalOrder cmp) where
  pub share_here : (cs : List (K × Option V)) (i : ℕ) (c : K × Option V) (rest : List (K × V)) → i < length cs → c ≡ get_or cs i c → begins_by cmp rest c.0 ≡ true
      → share_of cmp cs rest ≡ i + share_of cmp (drop i cs) rest → i ≡ share_of cmp cs rest
  share_here cs i c rest lt e begins so_far =
      let next : drop i cs ≡ c ∷ drop (i + 1) cs = drop_at cs i c lt e in
      let none : share_of cmp (c ∷ drop (i + 1) cs) rest ≡ 0 = rw begins refl in
      omega (arith, so_far, ap (λ (l : List (K × Option V)). share_of cmp l rest) next, none)

  pub share_next : (cs : List (K × Option V)) (i : ℕ) (c : K × Option V) (rest : List (K × V)) → i < length cs → c ≡ get_or cs i c → begins_by cmp rest c.0 ≡ false
      → share_of cmp cs rest ≡ i + share_of cmp (drop i cs) rest → share_of cmp cs rest ≡ (i + 1) + share_of cmp (drop (i + 1) cs) rest
  share_next cs i c rest lt e begins so_far =
      let next : drop i cs ≡ c ∷ drop (i + 1) cs = drop_at cs i c lt e in
      let one : share_of cmp (c ∷ drop (i + 1) cs) rest ≡ suc (share_of cmp (drop (i + 1) cs) rest) = rw begins refl in
      omega (arith, so_far, ap (λ (l : List (K × Option V)). share_of cmp l rest) next, one)

  -- the first change isn't kept back
  pub share_first : (cs others : List (K × Option V)) (c : K × Option V) (rest : List (K × V)) (n : ℕ) → 0 < length cs → c ≡ get_or cs 0 c → begins_by cmp rest c.0 ≡ false
      → others ≡ drop 1 cs → n ≡ share_of cmp others rest → 1 + n ≡ share_of cmp cs rest
  share_first cs others c rest n some e begins o share =
      omega (arith, share_next cs 0 c rest some e begins (omega arith), share, ap (λ (l : List (K × Option V)). share_of cmp l rest) o)

  pub share_whole : (cs : List (K × Option V)) (i : ℕ) (rest : List (K × V)) → length cs ≤ i → share_of cmp cs rest ≡ i + share_of cmp (drop i cs) rest → length cs ≡ share_of cmp cs rest
  share_whole cs i rest le so_far = omega (arith, le, so_far, share_within cmp total cs rest)

module _ {K V T Z : Type 0} (cmp : K → K → Ordering) (total : IsTotalOrder cmp) (entries : T → List (K × V)) (size : T → ℕ) (least : ℕ) where
  -- the pieces that follow begin as the first of them
  pub begins_first : (others : List (Arc T Z)) (x : Arc T Z) (key : K) → AreFine entries size least (values others) → 0 < length others → x ≡ get_or others 0 x
      → begins_by cmp (flat_map entries (values others)) key ≡ begins_by cmp (entries (arc_value x)) key
  begins_first others x key fine some e = begins_at cmp total entries size least others 0 x key fine some e

  pub share_empty : (left : List (K × Option V)) (others : List (Arc T Z)) → length others ≡ 0 → length left ≡ share_of cmp left (flat_map entries (values others))
  share_empty left [] e = sym (share_none cmp total left)
  share_empty left (x ∷ others) e = absurd (omega arith)

  -- what follows is a map
  pub map_rest : (list others : List (Arc T Z)) (i : ℕ) → others ≡ drop i list → IsMap cmp (flat_map entries (values list)) → IsMap cmp (flat_map entries (values others))
  map_rest list others i o up =
      rw (o, values-drop i list) (ascends_back cmp total None (flat_map entries (take i (values list))) (flat_map entries (drop i (values list))) (rw (← halves entries (values list) i) up))

  -- what follows begins above the key
  pub begins_behind : (list others : List (Arc T Z)) (i : ℕ) (key now : K) → others ≡ drop i list → key ≡ now → begins_by cmp (flat_map entries (drop i (values list))) key ≡ false → begins_by cmp (flat_map entries (values others)) now ≡ false
  begins_behind list others i key now o k begins = rw (o, values-drop i list, ← k) begins

  -- the piece of the first change, and those before it
  pub walk_more : (list front others : List (Arc T Z)) (i : ℕ) (x : Arc T Z) (key : K) (out mid new : List T) (c : K × Option V) (left first rest : List (K × Option V)) (n : ℕ) (end : List (K × V))
      → IsMap cmp (flat_map entries (values list)) → i < length list → x ≡ get_or list i x → front ≡ take i list → others ≡ drop (i + 1) list
      → ascends cmp None left ≡ true → 0 < length left → c ≡ get_or left 0 c → key ≡ c.0 → (i ≡ 0) ⊎ (begins_by cmp (flat_map entries (drop i (values list))) key ≡ true)
      → n ≡ share_of cmp left (flat_map entries (values others)) → first ≡ take n left → rest ≡ drop n left
      → flat_map entries mid ≡ flat_map entries out ++ flat_map entries (values front)
      → Makes entries size least (flat_map entries mid ++ after_changes cmp first (entries (arc_value x))) new
      → flat_map entries out ++ after_changes cmp left (flat_map entries (values list)) ≡ end
      → flat_map entries new ++ after_changes cmp rest (flat_map entries (values others)) ≡ end
  walk_more list front others i x key out mid new c left first rest n end up lt e fr o asc some ce k before share f r m makes so_far =
      let a = flat_map entries (take i (values list)) in
      let b = flat_map entries (values others) in
      let y = entries (arc_value x) in
      let same : flat_map entries (drop (i + 1) (values list)) ≡ b = ap (flat_map entries) (sym (values-drop (i + 1) list)) ∙ ap (λ (l : List (Arc T Z)). flat_map entries (values l)) (sym o) in
      let whole : flat_map entries (values list) ≡ a ++ (y ++ b) = parted_at entries size least list i x lt e ∙ ap (λ (l : List (K × V)). a ++ (y ++ l)) same in
      let order : IsMap cmp (y ++ b) = ascends_back cmp total None a (y ++ b) (rw (← whole) up) in
      let parts : after_changes cmp first y ++ after_changes cmp rest b ≡ after_changes cmp left (y ++ b) =
      rw (f, r, share) (sym (split cmp total left y b asc order)) in
      let below : AllBelow cmp total c.0 a = subst (λ (q : K). AllBelow cmp total q a) k (front_there cmp total entries size least list i key up before) in
      let past : after_changes cmp left (a ++ (y ++ b)) ≡ a ++ after_changes cmp left (y ++ b) = past_first cmp total left c a (y ++ b) some ce below asc in
      let fronts : flat_map entries (values front) ≡ a = ap (λ (l : List (Arc T Z)). flat_map entries (values l)) fr ∙ ap (flat_map entries) (values-take i list) in
      ap (λ (l : List (K × V)). l ++ after_changes cmp rest b) makes.whole
      ∙ append_assoc (flat_map entries mid) (after_changes cmp first y) (after_changes cmp rest b)
      ∙ ap (λ (l : List (K × V)). flat_map entries mid ++ l) parts
      ∙ ap (λ (l : List (K × V)). l ++ after_changes cmp left (y ++ b)) (m ∙ ap (λ (l : List (K × V)). flat_map entries out ++ l) fronts)
      ∙ append_assoc (flat_map entries out) a (after_changes cmp left (y ++ b))
      ∙ ap (λ (l : List (K × V)). flat_map entries out ++ l) (sym past ∙ ap (after_changes cmp left) (sym whole)) ∙ so_far

  -- where changes are left, pieces are
  pub left_over : (others : List (Arc T Z)) (left rest : List (K × Option V)) (n : ℕ) → n ≡ share_of cmp left (flat_map entries (values others)) → rest ≡ drop n left → 0 < length rest → 0 < length others
  left_over [] left rest n share r some =
      let all : n ≡ length left = share ∙ share_none cmp total left in
      let none : rest ≡ [] = r ∙ drop_all n left (omega arith) in
      let no : length rest ≡ 0 = ap length none in
      absurd (omega arith)
  left_over (x ∷ others) left rest n share r some = omega arith

  -- no change is left
  pub walk_end : (list : List (Arc T Z)) (out new : List T) (left : List (K × Option V)) (end : List (K × V)) → length left ≡ 0
      → flat_map entries new ≡ flat_map entries out ++ flat_map entries (values list)
      → flat_map entries out ++ after_changes cmp left (flat_map entries (values list)) ≡ end → flat_map entries new ≡ end
  walk_end list out new left end none whole so_far =
      let empty : left ≡ [] = no_items left none in
      whole ∙ (rw empty at so_far)

  -- the pieces before one aren't small, nor those after it
  pub large_before : (list front : List (Arc T Z)) (i : ℕ) → front ≡ take i list → AreFine entries size least (values list) → i < length list → AreLarge entries size least (values front)
  large_before list front i e fine lt = rw (e, values-take i list) (large_around entries size least (values list) i fine (omega (arith, length-values list))).0

  pub large_after : (list others : List (Arc T Z)) (i : ℕ) → others ≡ drop (i + 1) list → AreFine entries size least (values list) → i < length list → AreLarge entries size least (values others)
  large_after list others i e fine lt = rw (e, values-drop (i + 1) list) (large_around entries size least (values list) i fine (omega (arith, length-values list))).1

  -- what the walk has spent
  pub walk_spent : (left first rest : List (K × Option V)) (n : ℕ) (others : List (Arc T Z)) (rate whole before copies now old new : ℕ) → n ≡ share_of cmp left (flat_map entries (values others)) → first ≡ take n left → rest ≡ drop n left
      → now ≤ before + copies → before + old ≤ rate * (whole - length left) → copies + new ≤ old + rate * length first → length left ≤ whole → now + new ≤ rate * (whole - length rest)
  walk_spent left first rest n others rate whole before copies now old new share f r sum so_far more fits =
      let within : n ≤ length left = rw share (share_within cmp total left (flat_map entries (values others))) in
      let taken : length first ≡ n = ap length f ∙ length_of_take n left within in
      let others : length first + length rest ≡ length left = rw r (omega (arith, length-drop n left)) in
      spend_more rate whole (length left) (length first) (length rest) before copies now old new sum so_far more others fits
