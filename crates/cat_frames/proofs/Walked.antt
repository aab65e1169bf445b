-- Operations of a request that are read one after the other.
use Rattle.std.proofs.Common.{◌≡◌, ℕ, suc, ◌-◌, ◌+◌, ◌≤◌, ◌<◌, List, [], ◌∷◌, ◌++◌, Option, Some, None, Ok, Err, refl, sym, ap, ◌∙◌, append_assoc, arith}
use Rattle.std.specs.List.{cons_option}
use Rattle.std.proofs.lemmas.List.{append-nil}
use Rattle.cat_codes.specs.declared.fault.FieldFault.{FieldFault}
use Rattle.cat_codes.specs.declared.fault.FieldFault.TheVariants.{Short, NotUtf8, Range, NoMemory}
use Rattle.cat_codes.specs.Read.{Read, ◌>>=◌, Fails}
use Rattle.cat_codes.specs.Code.{Code, placed_at}
use Rattle.cat_model.specs.declared.content.Content.{Content}
use Rattle.cat_model.specs.declared.op.Op.{Op}
use Rattle.cat_frames.specs.declared.asked.Asked.{Asked}
use Rattle.cat_frames.specs.Requests.{Both, contents_of, ops_of}
use Rattle.cat_model.specs.Walks.{listed}
use Rattle.cat_frames.specs.Walks.{and_one}

abbrev pub both_of : List Op → List Content → Asked
both_of ops contents = record { ops = ops; contents = contents }

-- what was read before, and what is still read
abbrev pub with_front : Asked → Read (List Both) → Read Asked
with_front a read = read >>= λ x. Ok (both_of (a.ops ++ ops_of x.0) (a.contents ++ contents_of x.0), x.1)

listed_is : (own : Option Content) (contents : List Content) → listed own ++ contents ≡ cons_option own contents
listed_is None contents = refl
listed_is (Some c) contents = refl

regroup : (a : Asked) (x : Both) (read : Read (List Both)) → with_front a (read >>= λ y. Ok (x ∷ y.0, y.1)) ≡ with_front (and_one a x) read
regroup a x (Err f) = refl
regroup a x (Ok y) =
    let ops : a.ops ++ ops_of (x ∷ y.0) ≡ (a.ops ++ x.0 ∷ []) ++ ops_of y.0 = sym (append_assoc a.ops (x.0 ∷ []) (ops_of y.0)) in
    let contents : a.contents ++ contents_of (x ∷ y.0) ≡ (a.contents ++ listed x.1) ++ contents_of y.0 =
    ap (λ (l : List Content). a.contents ++ l) (sym (listed_is x.1 (contents_of y.0))) ∙ sym (append_assoc a.contents (listed x.1) (contents_of y.0)) in
    rw (ops, contents) refl

module _ (code : ℕ → Code Both) (count i : ℕ) (bytes : List ℕ) (total : Read Asked) where
  pub goes_on : (a : Asked) (x : Both) (after : List ℕ) → i < count → (code i).at bytes ≡ Ok (x, after)
      → with_front a (placed_at code i (count - i) bytes) ≡ total → with_front (and_one a x) (placed_at code (i + 1) (count - (i + 1)) after) ≡ total
  unfolding placed_at
  goes_on a x after lt h so_far =
      let k : count - i ≡ suc (count - (i + 1)) = omega arith in
      let next : suc i ≡ i + 1 = omega arith in
      let one : with_front a (placed_at code i (count - i) bytes) ≡ with_front (and_one a x) (placed_at code (suc i) (count - (i + 1)) after) = rw (k, h) (regroup a x (placed_at code (suc i) (count - (i + 1)) after)) in
      ap (λ (n : ℕ). with_front (and_one a x) (placed_at code n (count - (i + 1)) after)) (sym next) ∙ sym one ∙ so_far

  by_fault : (a : Asked) (f : FieldFault) → i < count → (code i).at bytes ≡ Err f → with_front a (placed_at code i (count - i) bytes) ≡ total → total ≡ Err f
  unfolding placed_at
  by_fault a f lt h so_far =
      let k : count - i ≡ suc (count - (i + 1)) = omega arith in
      let one : with_front a (placed_at code i (count - i) bytes) ≡ Err f = rw (k, h) refl in
      sym so_far ∙ one

  pub ends : (a : Asked) (f : FieldFault) → i < count → Fails f ((code i).at bytes) → with_front a (placed_at code i (count - i) bytes) ≡ total → Fails f total
  ends a NoMemory lt h so_far = tt
  ends a Short lt h so_far = by_fault a Short lt h so_far
  ends a NotUtf8 lt h so_far = by_fault a NotUtf8 lt h so_far
  ends a Range lt h so_far = by_fault a Range lt h so_far

  pub is_done : (a : Asked) → count ≤ i → with_front a (placed_at code i (count - i) bytes) ≡ total → total ≡ Ok (a, bytes)
  unfolding placed_at
  is_done a le so_far =
      let k : count - i ≡ 0 = omega arith in
      let one : with_front a (placed_at code i (count - i) bytes) ≡ Ok (a, bytes) = rw (k, append-nil a.ops, append-nil a.contents) refl in
      sym so_far ∙ one
