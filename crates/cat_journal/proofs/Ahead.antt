-- What was read ahead, as what the bytes are.
use Rattle.std.proofs.Common.{◌≡◌, ℕ, ◌+◌, ◌-◌, ◌≤◌, List, length, take, drop, Option, Some, None, sym, ◌∙◌, ap, arith}
use Rattle.std.specs.Prelude.{IfSome}
use Rattle.std.proofs.lemmas.List.{drop-drop, drop-take, take-take, take_all}
use Rattle.cat_journal.specs.Ahead.{IsAhead}

-- a piece of it that is copied is that piece of the bytes
pub piece_read : (start len at from count : ℕ) (room into : List ℕ) (told : Option (List ℕ)) → IsAhead start len room told → at ≡ start + from → from + count ≤ len → into ≡ take count (drop from room) → length into ≡ count
    → IfSome told (λ all. take count into ≡ take (length into) (drop at all))
piece_read start len at from count room into None ahead place within copied size = tt
piece_read start len at from count room into (Some all) ahead place within copied size =
    let front : (xs : List ℕ) → take count (drop from (take len xs)) ≡ take count (drop from xs) = λ xs.
    ap (λ (l : List ℕ). take count l) (ap (λ (k : ℕ). drop from (take k xs)) (omega (arith, within)) ∙ drop-take from (len - from) xs) ∙ take-take count (len - from) (drop from xs) (omega (arith, within)) in
    let here : take count (drop from room) ≡ take count (drop at all) = sym (front room) ∙ ap (λ (l : List ℕ). take count (drop from l)) ahead.read ∙ front (drop start all)
    ∙ ap (λ (l : List ℕ). take count l) (drop-drop from start all ∙ ap (λ (k : ℕ). drop k all) (sym place)) in
    take_all count into (omega (arith, size)) ∙ copied ∙ here ∙ ap (λ (k : ℕ). take k (drop at all)) (sym size)
