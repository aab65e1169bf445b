-- Walks over lists, one item after the other.
use Rattle.std.proofs.Common.{◌≡◌, ℕ, ◌+◌, ◌<◌, List, [], ◌∷◌, ◌++◌, length, get_or, take, filter_map, Option, sym, ap, ◌∙◌}
use Rattle.std.proofs.lemmas.List.{take_more}
use Rattle.std.proofs.lemmas.List.Elements.{filter_map-append}

-- what one more item adds
pub filter_map_more : {X Y : Type 0} (h : X → Option Y) (xs : List X) (x : X) (i : ℕ) (before after : List Y) → before ≡ filter_map h (take i xs) → after ≡ before ++ filter_map h (x ∷ []) → i < length xs → x ≡ get_or xs i x
    → after ≡ filter_map h (take (i + 1) xs)
filter_map_more {X} {Y} h xs x i before after was added lt is =
    added ∙ ap (λ (l : List Y). l ++ filter_map h (x ∷ [])) was ∙ sym (filter_map-append h (take i xs) (x ∷ []))
    ∙ ap (λ (y : X). filter_map h (take i xs ++ y ∷ [])) is ∙ ap (filter_map h) (sym (take_more xs i x lt))
