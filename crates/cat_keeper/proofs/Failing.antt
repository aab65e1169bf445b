-- A call that is not listed doesn't fail.
use Rattle.std.proofs.Common.{◌≡◌, ℕ, Bool, true, false, List, sym, ◌∙◌, ap}
use Rattle.std.specs.Prelude.{nat_eq}
use Rattle.std.specs.List.{list_any}

true_not_false : true ≡ false → ⊥
true_not_false e = cc

pub not_listed : (failing : List ℕ) (next call : ℕ) (found : Bool) → call ≡ next → found ≡ list_any (λ (n : ℕ). nat_eq n call) failing → found ≡ false
    → list_any (λ (n : ℕ). nat_eq n next) failing ≡ true → ⊥
not_listed failing next call found same is none listed =
    true_not_false (sym listed ∙ ap (λ (k : ℕ). list_any (λ (n : ℕ). nat_eq n k) failing) (sym same) ∙ sym is ∙ none)
