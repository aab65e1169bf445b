-- A reading that gives nothing.
use Rattle.std.proofs.Common.{◌≡◌, ◌↔◌, Option, Some, None, Result, Ok, Err, IsOk, refl, rules}

none_left : {X : Type 0} (o : Option X) → ((u : X) × (o ≡ Some u) → ⊥) → None ≡ o
none_left None h = refl
none_left (Some x) h = absurd (h (x, refl))

-- where reading is Ok exactly if there is a value, there is none at an Err
pub no_reading : {X T E : Type 0} (o : Option X) (r : Result T E) (e : E) → (IsOk r ↔ ((u : X) × (o ≡ Some u))) → r ≡ Err e → None ≡ o
no_reading {X} {T} {E} o (Ok x) e h is = search rules
no_reading {X} {T} {E} o (Err x) e h is = none_left o (λ g. let bad : IsOk {T = T} {E = E} (Err x) = h.1 g in search rules)
