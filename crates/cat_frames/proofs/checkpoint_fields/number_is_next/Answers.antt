use Rattle.std.proofs.Common.{◌≡◌, ℕ, suc, ◌-◌, ◌≤◌, List, [], ◌∷◌, length, get_or, Option, Some, refl, sym, ap, ◌∙◌, is_lt, arith}
use Rattle.std.specs.Ordering.{nat_cmp}
use Rattle.cat_codes.specs.Code.{follows, last_of}
use Rattle.cat_frames.proofs.checkpoint_fields.number_is_next.Goals as goal

-- the last one, by its index
last_is_at : (numbers : List ℕ) (d : ℕ) → 1 ≤ length numbers → last_of numbers ≡ Some (get_or numbers (length numbers - 1) d)
last_is_at [] d h = absurd (omega arith)
last_is_at (x ∷ []) d h = refl
last_is_at (x ∷ y ∷ numbers) d h =
    let k : length (x ∷ y ∷ numbers) - 1 ≡ suc (length (y ∷ numbers) - 1) = omega arith in
    last_is_at (y ∷ numbers) d (omega arith) ∙ sym (ap (λ (i : ℕ). Some (get_or (x ∷ y ∷ numbers) i d)) k)

pub returns-in-len1-up : goal.returns-in-len1-up
returns-in-len1-up c =
    c.is_lt.ensures ∙ ap is_lt c.cmp.ensures
    ∙ sym (ap (λ (last : Option ℕ). follows nat_cmp last c.args.number) (last_is_at c.args.numbers.now _ c.in-len1-up.len_at_least))
