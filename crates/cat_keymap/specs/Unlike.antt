-- Lists without two elements that are the same.
use Rattle.std.specs.Prelude.{List, [], ◌∷◌, Bool, true, ◌&&◌, not}
use Rattle.std.specs.List.{list_any}

-- no element is the same as a later one
abbrev pub unlike : {K : Type 0} → (K → K → Bool) → List K → Bool
unlike same [] = true
unlike same (x ∷ xs) = not (list_any (λ other. same other x) xs) && unlike same xs
