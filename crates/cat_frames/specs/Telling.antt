-- A value as the bytes of another that tells it, and a value that needs no bytes.
use Rattle.std.proofs.Common.{◌≡◌, ℕ, List, [], Option, Some, None, Ok, refl, sym, ap, subst}
use Rattle.cat_codes.specs.Read.{◌>>=◌}
use Rattle.cat_codes.specs.Code.{Code, IsCode, Takes, or_range}
use Rattle.cat_codes.specs.Basics.{bind_ok, ok_is}

-- those values alone that come back from what tells them
abbrev pub told_by : {A B : Type 0} → (B → A) → (A → B) → Code A → Code B
told_by to from a = record {
  spell = λ y. a.spell (to y);
  Fits = λ y. a.Fits (to y) × (from (to y) ≡ y);
  at = λ bytes. a.at bytes >>= λ x. Ok (from x.0, x.1);
}

pub told_by_is : {A B : Type 0} (to : B → A) (from : A → B) (a : Code A) → ((x : A) → a.Fits x → to (from x) ≡ x) → IsCode a → IsCode (told_by to from a)
told_by_is {A} {B} to from a forth p = record {
  again = λ y rest fits. rw (p.again (to y) rest fits.0, fits.1) refl;
  takes = λ bytes y rest fits e.
      let b = bind_ok (a.at bytes) (λ x. Ok (from x.0, x.1)) (y, rest) e in
      let t = p.takes bytes b.0.0 b.0.1 fits b.1 in
      subst (λ (r : B × List ℕ). Takes bytes (a.spell (to r.0)) r.1 × (a.Fits (to r.0) × (from (to r.0) ≡ r.0))) (ok_is _ _ b.2)
      (rw (forth b.0.0 t.1) (t.0, (t.1, refl)));
}

-- those values alone that what tells them is read as, and else Range
abbrev pub read_by : {A B : Type 0} → (B → A) → (A → Option B) → Code A → Code B
read_by to from a = record {
  spell = λ y. a.spell (to y);
  Fits = λ y. a.Fits (to y) × (from (to y) ≡ Some y);
  at = λ bytes. a.at bytes >>= λ x. or_range (from x.0) x.1;
}

reading_is : {B : Type 0} (o : Option B) (rest : List ℕ) (y : B) (after : List ℕ) → or_range o rest ≡ Ok (y, after) → (o ≡ Some y) × (rest ≡ after)
reading_is None rest y after e = absurd cc
reading_is (Some x) rest y after e = let same = ok_is (x, rest) (y, after) e in (ap (λ (r : _ × List ℕ). Some r.0) same, ap (λ (r : _ × List ℕ). r.1) same)

pub read_by_is : {A B : Type 0} (to : B → A) (from : A → Option B) (a : Code A) → ((x : A) (y : B) → from x ≡ Some y → to y ≡ x) → IsCode a → IsCode (read_by to from a)
read_by_is {A} {B} to from a forth p = record {
  again = λ y rest fits. rw (p.again (to y) rest fits.0, fits.1) refl;
  takes = λ bytes y rest fits e.
      let b = bind_ok (a.at bytes) (λ x. or_range (from x.0) x.1) (y, rest) e in
      let t = p.takes bytes b.0.0 b.0.1 fits b.1 in
      let o = reading_is (from b.0.0) b.0.1 y rest b.2 in
      subst (λ (x : A). Takes bytes (a.spell x) rest × (a.Fits x × (from x ≡ Some y))) (sym (forth b.0.0 y o.0))
      (subst (λ (r : List ℕ). Takes bytes (a.spell b.0.0) r) o.1 t.0, (t.1, o.0));
}

-- this value, by no bytes
abbrev pub always : {A : Type 0} → A → Code A
always x = record {
  spell = λ y. [];
  Fits = λ y. x ≡ y;
  at = λ bytes. Ok (x, bytes);
}

pub always_is : {A : Type 0} (x : A) → IsCode (always x)
always_is {A} x = record {
  again = λ y rest fits. ap (λ (z : A). Ok (z, rest)) fits;
  takes = λ bytes y rest fits e.
      subst (λ (r : A × List ℕ). Takes bytes [] r.1 × (x ≡ r.0)) (ok_is (x, bytes) (y, rest) e)
      (record { parts = refl; rest_fits = fits }, refl);
}
