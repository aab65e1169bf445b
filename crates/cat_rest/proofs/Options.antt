-- What a reading went through, and tests that hold together.
use Rattle.std.proofs.Common.{◌≡◌, Bool, true, false, ◌&&◌, if◌then◌else◌, Option, Some, None, refl}
use Rattle.cat_json.specs.Reading.{◌>>=◌}

module _ {A B : Type 0} where
  pub step : (o : Option A) (f : A → Option B) (y : B) → (o >>= f) ≡ Some y → (x : A) × (o ≡ Some x) × (f x ≡ Some y)
  step None f y e = absurd cc
  step (Some x) f y e = (x, refl, e)

pub picked : {A : Type 0} (b : Bool) (o : Option A) (y : A) → (if b then o else None) ≡ Some y → (b ≡ true) × (o ≡ Some y)
picked true o y e = (refl, e)
picked false o y e = absurd cc

pub chosen : {A : Type 0} (P : A → Type 0) (b : Bool) (x y : A) → P x → P y → P (if b then x else y)
chosen P true x y h k = h
chosen P false x y h k = k

pub both : (b c : Bool) → (b && c) ≡ true → (b ≡ true) × (c ≡ true)
both true c e = (refl, e)
both false c e = absurd cc

pub joined : (b c : Bool) → b ≡ true → c ≡ true → (b && c) ≡ true
joined true c e h = h
joined false c e h = absurd cc
