-- What a sink tells after it was written to.
use Rattle.std.proofs.Common.{◌≡◌, ℕ, List, [], ◌++◌, Option, Some, None, sym, ap, ◌∙◌}
use Rattle.std.proofs.lemmas.List.{append_assoc, append-nil}
use Rattle.std.specs.Io.KnownBytes.{Appends}

pub some_is : (x y : List ℕ) → ◌≡◌ {A = Option (List ℕ)} (Some x) (Some y) → x ≡ y
some_is x y e = cc

pub not_none : (y : List ℕ) → ◌≡◌ {A = Option (List ℕ)} None (Some y) → ⊥
not_none y e = cc

pub appended : (old new : Option (List ℕ)) (w bytes : List ℕ) → old ≡ Some w → Appends old new bytes → new ≡ Some (w ++ bytes)
appended None new w bytes e p = absurd (not_none w e)
appended (Some x) None w bytes e p = absurd p
appended (Some x) (Some y) w bytes e p = ap Some (p ∙ ap (λ l. l ++ bytes) (some_is x w e))

pub appends_nothing : (held : Option (List ℕ)) → Appends held held []
appends_nothing None = tt
appends_nothing (Some x) = sym (append-nil x)

pub appends_on : (a b c : Option (List ℕ)) (xs ys : List ℕ) → Appends a b xs → Appends b c ys → Appends a c (xs ++ ys)
appends_on None b c xs ys p q = tt
appends_on (Some x) None c xs ys p q = absurd p
appends_on (Some x) (Some y) None xs ys p q = absurd q
appends_on (Some x) (Some y) (Some z) xs ys p q = q ∙ ap (λ (l : List ℕ). l ++ ys) p ∙ append_assoc x xs ys
