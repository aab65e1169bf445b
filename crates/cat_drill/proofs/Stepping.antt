-- A step of a drill leads from its number and book to the next.
use Rattle.std.proofs.Common.{◌≡◌, ℕ, suc, ◌+◌, ap, ap₂, ◌∙◌, arith, subst}
use Rattle.cat_model.specs.Book.{Book}
use Rattle.cat_drill.specs.Drill.{after_step, book_at, number_at}
use Rattle.cat_drill.specs.Steps.{next_number}

pub stepped : (seed made number next : ℕ) (before after : Book)
    → number ≡ number_at seed made → before ≡ book_at seed made → next ≡ next_number number → after ≡ after_step (made + 1) next before
    → (next ≡ number_at seed (made + 1)) × (after ≡ book_at seed (made + 1))
stepped seed made number next before after is_number is_book is_next is_after =
    let k : made + 1 ≡ suc made = omega arith in
    let drawn : next ≡ number_at seed (suc made) = is_next ∙ ap next_number is_number in
    let left : after ≡ after_step (suc made) next before = subst (λ i. after ≡ after_step i next before) k is_after in
    rw (k) (drawn, left ∙ ap₂ (after_step (suc made)) drawn is_book)
