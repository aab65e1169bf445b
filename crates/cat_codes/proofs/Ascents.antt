-- Keys that ascend, one after the other.
use Rattle.std.proofs.Common.{◌≡◌, ℕ, suc, zero, true, cond, List, [], ◌∷◌, ◌++◌, Option, Some, None, Ok, Err, refl, sym, ap, ◌∙◌}
use Rattle.std.specs.declared.cmp.Ordering.{Ordering}
use Rattle.cat_codes.specs.declared.fault.FieldFault.TheVariants.{Range}
use Rattle.cat_codes.specs.Read.{Read, ◌>>=◌}
use Rattle.cat_codes.specs.Code.{Code, follows, last_key, ascends, pairs_at, last_of, keys_ascend, keys_at}
use Rattle.cat_codes.specs.Basics.{bind_ok, ok_is}
use Rattle.cat_codes.specs.ListLaws.{and_true, both_true, else_ok}

module _ {K V : Type 0} (cmp : K → K → Ordering) where
  -- the last key of all, where this one stands before them
  last_from : Option K → List (K × V) → Option K
  last_from last [] = last
  last_from last (x ∷ xs) = last_from (Some x.0) xs

  last_is_from : (x : K × V) (xs : List (K × V)) → last_key (x ∷ xs) ≡ last_from (Some x.0) xs
  unfolding last_from
  last_is_from x [] = refl
  last_is_from x (y ∷ xs) = last_is_from y xs

  push_from : (last : Option K) (xs : List (K × V)) (y : K × V) → ascends cmp last xs ≡ true → follows cmp (last_from last xs) y.0 ≡ true → ascends cmp last (xs ++ y ∷ []) ≡ true
  unfolding last_from
  push_from last [] y up next = both_true _ _ next refl
  push_from last (x ∷ xs) y up next =
      let u = and_true (follows cmp last x.0) (ascends cmp (Some x.0) xs) up in
      both_true _ _ u.0 (push_from (Some x.0) xs y u.1 next)

  pub ascends-push : (xs : List (K × V)) (y : K × V) → ascends cmp None xs ≡ true → follows cmp (last_key xs) y.0 ≡ true → ascends cmp None (xs ++ y ∷ []) ≡ true
  unfolding last_from
  ascends-push [] y up next = refl
  ascends-push (x ∷ xs) y up next = push_from None (x ∷ xs) y up (ap (λ (o : Option K). follows cmp o y.0) (sym (last_is_from x xs)) ∙ next)

  -- what is read in order ascends
  pub pairs_ascend : (k : Code K) (v : Code V) (last : Option K) (n : ℕ) (bytes : List ℕ) (xs : List (K × V)) (rest : List ℕ) → pairs_at cmp k v last n bytes ≡ Ok (xs, rest) → ascends cmp last xs ≡ true
  unfolding pairs_at
  pairs_ascend k v last zero bytes xs rest e = ap (λ (r : List (K × V) × List ℕ). ascends cmp last r.0) (sym (ok_is ([], bytes) (xs, rest) e))
  pairs_ascend k v last (suc n) bytes xs rest e =
      let others_of : K × List ℕ → V × List ℕ → Read (List (K × V)) = λ key value. pairs_at cmp k v (Some key.0) n value.1 >>= λ others. Ok ((key.0, value.0) ∷ others.0, others.1) in
      let a = bind_ok (k.at bytes) (λ key. cond (follows cmp last key.0) (v.at key.1 >>= λ value. others_of key value) (Err Range)) (xs, rest) e in
      let g = else_ok (follows cmp last a.0.0) Range (v.at a.0.1 >>= λ value. others_of a.0 value) (xs, rest) a.2 in
      let b = bind_ok (v.at a.0.1) (λ value. others_of a.0 value) (xs, rest) g.1 in
      let c = bind_ok (pairs_at cmp k v (Some a.0.0) n b.0.1) (λ others. Ok ((a.0.0, b.0.0) ∷ others.0, others.1)) (xs, rest) b.2 in
      let same = ok_is ((a.0.0, b.0.0) ∷ c.0.0, c.0.1) (xs, rest) c.2 in
      ap (λ (r : List (K × V) × List ℕ). ascends cmp last r.0) (sym same) ∙ both_true _ _ g.0 (pairs_ascend k v (Some a.0.0) n b.0.1 c.0.0 c.0.1 c.1)

module _ {K : Type 0} (cmp : K → K → Ordering) where
  -- the last of all, where this one stands before them
  end_from : Option K → List K → Option K
  end_from last [] = last
  end_from last (x ∷ xs) = end_from (Some x) xs

  last_of_is : (x : K) (xs : List K) → last_of (x ∷ xs) ≡ end_from (Some x) xs
  unfolding end_from
  last_of_is x [] = refl
  last_of_is x (y ∷ xs) = last_of_is y xs

  key_push : (last : Option K) (xs : List K) (y : K) → keys_ascend cmp last xs ≡ true → follows cmp (end_from last xs) y ≡ true → keys_ascend cmp last (xs ++ y ∷ []) ≡ true
  unfolding end_from
  key_push last [] y up next = both_true _ _ next refl
  key_push last (x ∷ xs) y up next =
      let u = and_true (follows cmp last x) (keys_ascend cmp (Some x) xs) up in
      both_true _ _ u.0 (key_push (Some x) xs y u.1 next)

  pub keys_ascend-push : (xs : List K) (y : K) → keys_ascend cmp None xs ≡ true → follows cmp (last_of xs) y ≡ true → keys_ascend cmp None (xs ++ y ∷ []) ≡ true
  unfolding end_from
  keys_ascend-push [] y up next = refl
  keys_ascend-push (x ∷ xs) y up next = key_push None (x ∷ xs) y up (ap (λ (o : Option K). follows cmp o y) (sym (last_of_is x xs)) ∙ next)

  -- what is read in order ascends
  pub keys_read_ascend : (k : Code K) (last : Option K) (n : ℕ) (bytes : List ℕ) (xs : List K) (rest : List ℕ) → keys_at cmp k last n bytes ≡ Ok (xs, rest) → keys_ascend cmp last xs ≡ true
  unfolding keys_at
  keys_read_ascend k last zero bytes xs rest e = ap (λ (r : List K × List ℕ). keys_ascend cmp last r.0) (sym (ok_is ([], bytes) (xs, rest) e))
  keys_read_ascend k last (suc n) bytes xs rest e =
      let others_of : K × List ℕ → Read (List K) = λ key. keys_at cmp k (Some key.0) n key.1 >>= λ others. Ok (key.0 ∷ others.0, others.1) in
      let a = bind_ok (k.at bytes) (λ key. cond (follows cmp last key.0) (others_of key) (Err Range)) (xs, rest) e in
      let g = else_ok (follows cmp last a.0.0) Range (others_of a.0) (xs, rest) a.2 in
      let c = bind_ok (keys_at cmp k (Some a.0.0) n a.0.1) (λ others. Ok (a.0.0 ∷ others.0, others.1)) (xs, rest) g.1 in
      let same = ok_is (a.0.0 ∷ c.0.0, c.0.1) (xs, rest) c.2 in
      ap (λ (r : List K × List ℕ). keys_ascend cmp last r.0) (sym same) ∙ both_true _ _ g.0 (keys_read_ascend k (Some a.0.0) n a.0.1 c.0.0 c.0.1 c.1)
