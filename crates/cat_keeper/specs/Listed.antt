-- A list of payloads that only grows: what it was at each moment is a front of it.
use Rattle.std.specs.Prelude.{◌≡◌, ℕ, ◌≤◌, List, length, take, Option, Some}
use Rattle.std.proofs.Common.{sym, ◌∙◌, ap, arith}
use Rattle.std.proofs.lemmas.List.{take_all}

abbrev pub left_of : List (List ℕ) → ℕ → Option (List (List ℕ)) → Type 0
left_of ps t c = (k : ℕ) × (t ≤ k) × (k ≤ length ps) × (c ≡ Some (take k ps))

pub list_counts : (ps : List (List ℕ)) (t : ℕ) (c : Option (List (List ℕ))) → t ≤ length ps → c ≡ Some ps → left_of ps t c
list_counts ps t c le now = (length ps, le, omega arith, now ∙ ap (λ (l : List (List ℕ)). Some l) (sym (take_all (length ps) ps (omega arith))))

pub list_only : (ps : List (List ℕ)) (c : Option (List (List ℕ))) → left_of ps (length ps) c → c ≡ Some ps
list_only ps c left = left.3 ∙ ap (λ (l : List (List ℕ)). Some l) (take_all left.0 ps (omega (arith, left.1)))
