-- Contents whose hashes ascend, one after another.
use Rattle.std.proofs.Common.{◌≡◌, List, [], ◌∷◌, ◌++◌, length, reverse, Option, Some, None, Result, Ok, Err, IfOk, Bool, true, false, cond, refl, sym, ap, subst, ◌∙◌, append_assoc, append-nil}
use Rattle.std.proofs.lemmas.Bool.{and_from, and_parts}
use Rattle.std.proofs.lemmas.List.{reverse-append, reverse-reverse}
use Rattle.std.specs.List.{list_all}
use Rattle.std.specs.Option.{option_or}
use Rattle.cat_codes.specs.Code.{follows, keys_ascend}
use Rattle.cat_frames.specs.Checkpoints.{by_hash}
use Rattle.cat_model.specs.declared.content.Content.{Content}
use Rattle.cat_names.specs.declared.hash.Hash.{Hash}
use Rattle.cat_tables.specs.ReferenceLaws.{below_trans, other_name}
use Rattle.cat_tables.specs.References.{is_below}
use Rattle.cat_tables.specs.Tables.{same_hash, value_of}
use Rattle.cat_state.proofs.Over.{value_over}

abbrev Contents : Type 0
Contents = List (Hash × Content)

abbrev is_lower : Hash × Content → Hash × Content → Bool
is_lower x y = is_below (x.0).bytes (y.0).bytes

-- a hash is above the one that all behind it follow
lower_than : (x y : Hash × Content) (ys rest : Contents) → keys_ascend by_hash (Some x) (ys ++ y ∷ rest) ≡ true → is_lower x y ≡ true
lower_than x y [] rest ascend = (and_parts (follows by_hash (Some x) y) (keys_ascend by_hash (Some y) rest) ascend).0
lower_than x y (z ∷ ys) rest ascend =
    let parts = and_parts (follows by_hash (Some x) z) (keys_ascend by_hash (Some z) (ys ++ y ∷ rest)) ascend in
    below_trans (x.0).bytes (z.0).bytes (y.0).bytes parts.0 (lower_than z y ys rest parts.1)

-- and so are all before it
all_lower : (last : Option (Hash × Content)) (y : Hash × Content) (ys rest : Contents) → keys_ascend by_hash last (ys ++ y ∷ rest) ≡ true → list_all (λ x. is_lower x y) ys ≡ true
all_lower last y [] rest ascend = refl
all_lower last y (x ∷ ys) rest ascend =
    let parts = and_parts (follows by_hash last x) (keys_ascend by_hash (Some x) (ys ++ y ∷ rest)) ascend in
    and_from (is_lower x y) (list_all (λ x. is_lower x y) ys) (lower_than x y ys rest parts.1) (all_lower (Some x) y ys rest parts.1)

absent_by : (b : Bool) (x : Content) (found : Option Content) → b ≡ false → found ≡ None → cond b (Some x) found ≡ None
absent_by true x found e f = absurd cc
absent_by false x found e f = f

both_absent : (xs ys : Contents) (hash : Hash) → value_of xs hash ≡ None → value_of ys hash ≡ None → value_of (xs ++ ys) hash ≡ None
both_absent xs ys hash e f = value_over xs ys hash ∙ ap (λ (found : Option Content). option_or found (value_of ys hash)) e ∙ f

absent_back : (y : Hash × Content) (ys : Contents) → list_all (λ x. is_lower x y) ys ≡ true → value_of (reverse ys) y.0 ≡ None
absent_back y [] lower = refl
absent_back y (x ∷ ys) lower =
    let parts = and_parts (is_lower x y) (list_all (λ x. is_lower x y) ys) lower in
    ap (λ (l : Contents). value_of l y.0) (reverse-append (x ∷ []) ys)
    ∙ both_absent (reverse ys) (x ∷ []) y.0 (absent_back y ys parts.1) (absent_by (same_hash x.0 y.0) x.1 None (other_name (x.0).bytes (y.0).bytes parts.0) refl)

module _ {V : Type 0} where
  -- one more was taken from the front and put onto the others
  pub moved_one : (x : V) (rest taken : List V) → reverse (x ∷ rest) ++ taken ≡ reverse rest ++ x ∷ taken
  moved_one x rest taken = ap (λ (l : List V). l ++ taken) (reverse-append (x ∷ []) rest) ∙ append_assoc (reverse rest) (x ∷ []) taken

  -- all are those that were taken and those that are left
  all_are : (x : V) (rest taken all : List V) → reverse (x ∷ rest) ++ taken ≡ reverse all → all ≡ reverse taken ++ x ∷ rest
  all_are x rest taken all e =
      sym (reverse-reverse all) ∙ ap reverse (sym e) ∙ reverse-append (reverse (x ∷ rest)) taken ∙ ap (λ (l : List V). reverse taken ++ l) (reverse-reverse (x ∷ rest))

-- the next one's hash isn't among those that were taken
pub next_absent : (x : Hash × Content) (rest taken all : Contents) → reverse (x ∷ rest) ++ taken ≡ reverse all → keys_ascend by_hash None all ≡ true → value_of taken x.0 ≡ None
next_absent x rest taken all e ascend =
    let parts = subst (λ (l : Contents). keys_ascend by_hash None l ≡ true) (all_are x rest taken all e) ascend in
    ap (λ (l : Contents). value_of l x.0) (sym (reverse-reverse taken)) ∙ absent_back x (reverse taken) (all_lower None x (reverse taken) rest parts)

-- ---- all of them

nothing_left : {V : Type 0} (xs : List V) → length xs ≡ 0 → xs ≡ []
nothing_left [] e = refl
nothing_left (x ∷ xs) e = absurd cc

-- all were taken where none is left
pub all_taken : {V : Type 0} (rest taken all : List V) → length rest ≡ 0 → reverse rest ++ taken ≡ reverse all → taken ≡ reverse all
all_taken {V} rest taken all none e = subst (λ (l : List V). reverse l ++ taken ≡ reverse all) (nothing_left rest none) e

-- and they are all that a table holds to which they were added, where it was empty
pub held_alone : {E : Type 0} (made : Result Contents E) (taken before all : Contents) → before ≡ [] → taken ≡ all → IfOk made (λ table. table ≡ taken ++ before) → IfOk made (λ table. table ≡ all)
held_alone (Ok table) taken before all empty is e = e ∙ ap (λ (l : Contents). taken ++ l) empty ∙ append-nil taken ∙ is
held_alone (Err why) taken before all empty is e = tt
