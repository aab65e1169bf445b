-- What of a table isn't marked.
use Rattle.std.proofs.Common.{◌≡◌, List, [], ◌∷◌, ◌++◌, Some, Bool, true, false, ◌||◌, ◌&&◌, not, drop, refl, sym, ap, subst, ◌∙◌}
use Rattle.std.proofs.lemmas.Option.{none-some, same_Some}
use Rattle.std.specs.Prelude.{is_some}
use Rattle.cat_names.specs.declared.hash.Hash.{Hash}
use Rattle.cat_model.specs.Base.{is_among}
use Rattle.cat_model.specs.Same.{same_hash}
use Rattle.cat_ordered.specs.Maps.{first_of}
use Rattle.cat_graph.specs.GraphLaws.{same_is}
use Rattle.cat_tables.specs.Tables.{value_of}
use Rattle.cat_mark.specs.Marks.{is_marked}
use Rattle.cat_mark.proofs.Marking.{both}

-- what was found so far, and what isn't marked of the rest, is what of the table isn't marked
abbrev pub IsFound : {V : Type 0} → List Hash → List Hash → List Hash → List (Hash × V) → Type 0
IsFound marks out rest contents = (x : Hash) → (is_among out x || (is_among rest x && not (is_marked marks x))) ≡ (is_some (value_of contents x) && not (is_marked marks x))

-- what is found first is the first of the rest
first_is : (rest left : List Hash) (hash : Hash) → Some hash ≡ first_of rest → left ≡ drop 1 rest → rest ≡ hash ∷ left
first_is [] left hash found is = absurd (none-some hash (sym found))
first_is (x ∷ xs) left hash found is = sym (ap (λ (l : List Hash). hash ∷ l) is ∙ ap (λ (h : Hash). h ∷ xs) (same_Some hash x found))

by_tests : (before same later marked : Bool) → (same ≡ true → marked ≡ false) → ((before || (same || false)) || (later && not marked)) ≡ (before || ((same || later) && not marked))
by_tests true same later marked f = refl
by_tests false true later marked f = sym (ap not (f refl))
by_tests false false later marked f = refl

-- a hash that isn't marked was found
pub finds_one : {V : Type 0} (marks out rest left : List Hash) (contents : List (Hash × V)) (hash : Hash) → IsFound marks out rest contents → Some hash ≡ first_of rest → left ≡ drop 1 rest → is_marked marks hash ≡ false
    → IsFound marks (out ++ hash ∷ []) left contents
finds_one marks out rest left contents hash found first is un x =
    ap (λ b. b || (is_among left x && not (is_marked marks x))) (both out (hash ∷ []) x)
    ∙ by_tests (is_among out x) (same_hash hash x) (is_among left x) (is_marked marks x) (λ e. subst (λ (h : Hash). is_marked marks h ≡ false) (same_is hash x e) un)
    ∙ ap (λ (l : List Hash). is_among out x || (is_among l x && not (is_marked marks x))) (sym (first_is rest left hash first is))
    ∙ found x
