-- Reading members one after the other, as a loop does.
use Rattle.std.proofs.Common.{◌≡◌, ℕ, List, [], ◌∷◌, ◌++◌, refl, sym, ◌∙◌, ap, Some, None, Option, Err, append_assoc, append-nil, subst, String, Global, string_bytes}
use Rattle.serde_json.specs.Data.{Data}
use Rattle.serde_json.specs.View.{view, members_view}
use Rattle.serde_json.specs.declared.value.Value.{Value}
use Rattle.cat_json.specs.declared.fault.JsonFault.{JsonFault}
use Rattle.cat_json.specs.declared.fault.JsonFault.TheVariants.{Bad, NoMemory}
use Rattle.cat_json.specs.Reading.{◌>>=◌, Gives, members_as}

abbrev pub Entry : Type 0
Entry = String Global × Value

abbrev pub Pairs : Type 0 → Type 0
Pairs A = List (List ℕ × A)

module _ {A : Type 0} where
  -- what was read before, and what is still read
  abbrev pub with_front : (Pairs A) → Option (Pairs A) → Option (Pairs A)
  with_front front rest = rest >>= λ xs. Some (front ++ xs)

  abbrev pub IsReadSo : (Data → Option A) → List Entry → List Entry → (Pairs A) → Type 0
  IsReadSo read all rest front = with_front front (members_as read (members_view rest)) ≡ members_as read (members_view all)

  with_none : (o : Option (Pairs A)) → with_front [] o ≡ o
  with_none None = refl
  with_none (Some xs) = refl

  pub none_read : (read : Data → Option A) (all : List Entry) → IsReadSo read all all []
  none_read read all = with_none (members_as read (members_view all))

  with_one : (front : (Pairs A)) (x : List ℕ × A) (o : Option (Pairs A)) → with_front front (o >>= λ xs. Some (x ∷ xs)) ≡ with_front (front ++ x ∷ []) o
  with_one front x None = refl
  with_one front x (Some xs) = ap Some (sym (append_assoc front (x ∷ []) xs))

  pub one_read : (read : Data → Option A) (all rest : List Entry) (e : Entry) (front : (Pairs A)) (x : A) → read (view e.1) ≡ Some x → IsReadSo read all (e ∷ rest) front → IsReadSo read all rest (front ++ (string_bytes e.0, x) ∷ [])
  one_read read all rest e front x is so_far =
      sym (with_one front (string_bytes e.0, x) (members_as read (members_view rest)))
      ∙ sym (ap (λ (o : Option A). with_front front (o >>= λ y. members_as read (members_view rest) >>= λ ys. Some ((string_bytes e.0, y) ∷ ys))) is)
      ∙ so_far

  none_here : (read : Data → Option A) (all rest : List Entry) (e : Entry) (front : (Pairs A)) → read (view e.1) ≡ None → IsReadSo read all (e ∷ rest) front → members_as read (members_view all) ≡ None
  none_here read all rest e front is so_far =
      sym so_far
      ∙ ap (λ (o : Option A). with_front front (o >>= λ y. members_as read (members_view rest) >>= λ ys. Some ((string_bytes e.0, y) ∷ ys))) is

  pub ends : (read : Data → Option A) (f : JsonFault) (all rest : List Entry) (e : Entry) (front : (Pairs A)) → Gives {A = A} (Err f) (read (view e.1)) → IsReadSo read all (e ∷ rest) front → Gives {A = (Pairs A)} (Err f) (members_as read (members_view all))
  ends read Bad all rest e front is so_far = none_here read all rest e front is so_far
  ends read NoMemory all rest e front is so_far = tt

  pub all_read : (read : Data → Option A) (all : List Entry) (front : (Pairs A)) → IsReadSo read all [] front → members_as read (members_view all) ≡ Some front
  all_read read all front so_far = sym so_far ∙ ap Some (append-nil front)

  pub step : (read : Data → Option A) (all left rest : List Entry) (e : Entry) (front new : (Pairs A)) (k : List ℕ) (x : A) → left ≡ e ∷ rest → k ≡ string_bytes e.0 → read (view e.1) ≡ Some x → new ≡ front ++ (k, x) ∷ [] → IsReadSo read all left front → IsReadSo read all rest new
  step read all left rest e front new k x steps same is pushed so_far =
      rw (pushed, same) (one_read read all rest e front x is (subst (λ l. IsReadSo read all l front) steps so_far))

  pub stop : (read : Data → Option A) (f : JsonFault) (all left rest : List Entry) (e : Entry) (front : (Pairs A)) → left ≡ e ∷ rest → Gives {A = A} (Err f) (read (view e.1)) → IsReadSo read all left front → Gives {A = (Pairs A)} (Err f) (members_as read (members_view all))
  stop read f all left rest e front steps fails so_far = ends read f all rest e front fails (subst (λ l. IsReadSo read all l front) steps so_far)

  pub done : (read : Data → Option A) (all left : List Entry) (front : (Pairs A)) → left ≡ [] → IsReadSo read all left front → members_as read (members_view all) ≡ Some front
  done read all left front none so_far = all_read read all front (subst (λ l. IsReadSo read all l front) none so_far)
