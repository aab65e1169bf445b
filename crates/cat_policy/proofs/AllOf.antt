-- Reading texts one after the other, as a loop does.
use Rattle.std.proofs.Common.{◌≡◌, ℕ, ◌+◌, ◌<◌, ◌≤◌, List, [], ◌∷◌, ◌++◌, length, get_or, drop, map, refl, sym, ◌∙◌, ap, Some, None, Option, Err, add-one, append_assoc, append-nil, drop-cons}
use Rattle.std.proofs.lemmas.List.{drop_all}
use Rattle.std.specs.Borrow.{Bor}
use Rattle.cat_json.specs.declared.fault.JsonFault.{JsonFault}
use Rattle.cat_json.specs.declared.fault.JsonFault.TheVariants.{Bad, NoMemory}
use Rattle.cat_json.specs.Reading.{◌>>=◌, Gives}
use Rattle.cat_policy.specs.Policies.{all_of}

-- the text that is lent
abbrev pub lent : Bor (List ℕ) → List ℕ
lent text = text.now

module _ {X A : Type 0} where
  cut_here : (view : X → A) (xs : List X) (i : ℕ) (x : X) → i < length xs → x ≡ get_or xs i x → map view (drop i xs) ≡ view x ∷ map view (drop (i + 1) xs)
  cut_here view xs i x h e = ap (map view) (drop-cons xs i x h) ∙ rw (add-one, ← e) refl

module _ {B : Type 0} where
  -- what was read before, and what is still read
  abbrev pub with_front : List B → Option (List B) → Option (List B)
  with_front front rest = rest >>= λ ys. Some (front ++ ys)

  with_none : (o : Option (List B)) → o ≡ with_front [] o
  with_none None = refl
  with_none (Some ys) = refl

  with_one : (front : List B) (y : B) (o : Option (List B)) → with_front front (o >>= λ ys. Some (y ∷ ys)) ≡ with_front (front ++ y ∷ []) o
  with_one front y None = refl
  with_one front y (Some ys) = ap Some (sym (append_assoc front (y ∷ []) ys))

module _ {X A B : Type 0} where
  abbrev pub IsReadSo : (X → A) → (A → Option B) → List X → ℕ → List B → Type 0
  IsReadSo view read xs i front = all_of read (map view xs) ≡ with_front front (all_of read (map view (drop i xs)))

  pub none_read : (view : X → A) (read : A → Option B) (xs : List X) → IsReadSo view read xs 0 []
  none_read view read xs = with_none (all_of read (map view xs))

  pub one_read : (view : X → A) (read : A → Option B) (xs : List X) (i : ℕ) (x : X) (front : List B) (y : B) → i < length xs → x ≡ get_or xs i x → read (view x) ≡ Some y → IsReadSo view read xs i front → IsReadSo view read xs (i + 1) (front ++ y ∷ [])
  one_read view read xs i x front y h e is so_far =
      so_far ∙ ap (λ (l : List A). with_front front (all_of read l)) (cut_here view xs i x h e)
      ∙ ap (λ (o : Option B). with_front front (o >>= λ z. all_of read (map view (drop (i + 1) xs)) >>= λ zs. Some (z ∷ zs))) is
      ∙ with_one front y (all_of read (map view (drop (i + 1) xs)))

  none_here : (view : X → A) (read : A → Option B) (xs : List X) (i : ℕ) (x : X) (front : List B) → i < length xs → x ≡ get_or xs i x → read (view x) ≡ None → IsReadSo view read xs i front → all_of read (map view xs) ≡ None
  none_here view read xs i x front h e is so_far =
      so_far ∙ ap (λ (l : List A). with_front front (all_of read l)) (cut_here view xs i x h e)
      ∙ ap (λ (o : Option B). with_front front (o >>= λ z. all_of read (map view (drop (i + 1) xs)) >>= λ zs. Some (z ∷ zs))) is

  pub ends : (view : X → A) (read : A → Option B) (f : JsonFault) (xs : List X) (i : ℕ) (x : X) (front : List B) → i < length xs → x ≡ get_or xs i x → Gives {A = B} (Err f) (read (view x)) → IsReadSo view read xs i front → Gives {A = List B} (Err f) (all_of read (map view xs))
  ends view read Bad xs i x front h e is so_far = none_here view read xs i x front h e is so_far
  ends view read NoMemory xs i x front h e is so_far = tt

  pub all_read : (view : X → A) (read : A → Option B) (xs : List X) (i : ℕ) (front : List B) → length xs ≤ i → IsReadSo view read xs i front → all_of read (map view xs) ≡ Some front
  all_read view read xs i front h so_far = so_far ∙ ap (λ (l : List X). with_front front (all_of read (map view l))) (drop_all i xs h) ∙ ap Some (append-nil front)
