-- Sets of keys.
use Rattle.std.specs.Prelude.{List, [], ◌∷◌, fold}
use Rattle.std.specs.declared.cmp.Ordering.{Ordering}
use Rattle.std.specs.declared.cmp.Ordering.TheVariants.{Less, Equal, Greater}
use Rattle.cat_names.specs.Fields.{Key, key_cmp}

-- where one more goes in a list that begins with first, by their order
abbrev pub one_placed : {A : Type 0} → Ordering → A → A → List A → List A → List A
one_placed Less x first xs added = x ∷ first ∷ xs
one_placed Equal x first xs added = first ∷ xs
one_placed Greater x first xs added = first ∷ added

-- an ascending list with one more in it
abbrev pub with_one : {A : Type 0} → (A → A → Ordering) → List A → A → List A
with_one cmp [] x = x ∷ []
with_one cmp (first ∷ xs) x = one_placed (cmp x first) x first xs (with_one cmp xs x)

-- each once, ascending
abbrev pub set_of : {A : Type 0} → (A → A → Ordering) → List A → List A
set_of cmp xs = fold (with_one cmp) [] xs

-- the keys, each once, ascending
abbrev pub key_set : List Key → List Key
key_set keys = set_of key_cmp keys
