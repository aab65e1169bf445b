-- Marks that go on, and numbers that were given.
use Rattle.std.proofs.Common.{◌≡◌, ◌≢◌, ℕ, ◌+◌, ◌<◌, ◌≤◌, sym, refl, ap, ◌∙◌, subst, inl, inr, ⊎_elim, arith, Some}
use Rattle.cat_model.specs.Drafts.{Open, open_of, LeavesOthers, StaysOpen}
use Rattle.cat_model.specs.Mark.{ClosedSweep, Mark, Grows, Later, last_sweep, closed_number}
use Rattle.cat_model.specs.TurnLaws.{grows_self, grows_on, nothing_stays}
use Rattle.cat_desk.specs.Log.{WasGiven}
use Rattle.cat_desk.specs.Marks.{Linked, IsGiven, AreGiven}

closed_by_then : (a : Mark) (x : ClosedSweep) → a.closed ≡ Some x → x.opening.number ≤ last_sweep a
closed_by_then a x e = let same : closed_number a.closed ≡ x.opening.number = ap closed_number e in omega (arith, same)

pub linked_self : (n : ℕ) (a : Mark) → Linked n a a
linked_self n a = record { grows = grows_self a; own_fault = λ x e _. e; own_draft = λ _. refl; own_closed = λ x e _. closed_by_then a x e }

-- after a turn of another caller
pub linked_more : (n m : ℕ) (a b c : Mark) → m ≢ n → Linked m a b → Later n b c → Linked m a c
linked_more n m a b c ne l t = record {
  grows = grows_on a b c l.grows t.grows;
  own_fault = λ x e is. ⊎_elim (λ (o : b.fault ≡ Some x). l.own_fault x o is) (λ (o : x.caller ≡ n). absurd (ne (sym is ∙ o))) (t.new_fault x e);
  own_draft = λ is. ⊎_elim (λ (o : b.draft ≡ c.draft). l.own_draft (t.grows.drafter o ∙ is) ∙ o) (λ (o : c.drafter ≡ n). absurd (ne (sym is ∙ o))) t.new_draft;
  own_closed = λ x e is. ⊎_elim (λ (o : b.closed ≡ Some x). l.own_closed x o is) (λ (o : x.opening.caller ≡ n). absurd (ne (sym is ∙ o))) (t.new_closed x e);
}

pub given_self : (next : ℕ) (a : Mark) → IsGiven next a a
given_self next a = record { fault = λ x e. inr e; draft = inr refl; closed = λ x e. inr e }

pub given_more : (n next : ℕ) (first a b : Mark) → WasGiven next n → IsGiven next first a → Later n a b → IsGiven next first b
given_more n next first a b was g t = record {
  fault = λ x e. ⊎_elim (λ (o : a.fault ≡ Some x). g.fault x o) (λ (o : x.caller ≡ n). inl (subst (WasGiven next) (sym o) was)) (t.new_fault x e);
  draft = ⊎_elim
      (λ (o : a.draft ≡ b.draft). ⊎_elim (λ (taken : WasGiven next a.drafter). inl (subst (WasGiven next) (t.grows.drafter o) taken)) (λ (same : first.draft ≡ a.draft). inr (same ∙ o)) g.draft)
      (λ (o : b.drafter ≡ n). inl (subst (WasGiven next) (sym o) was)) t.new_draft;
  closed = λ x e. ⊎_elim (λ (o : a.closed ≡ Some x). g.closed x o) (λ (o : x.opening.caller ≡ n). inl (subst (WasGiven next) (sym o) was)) (t.new_closed x e);
}

was_later : (next n : ℕ) → WasGiven next n → WasGiven (next + 1) n
was_later next n was = (was.0, let lt : n < next = was.1 in omega arith)

pub given_later : (next : ℕ) (first a : Mark) → IsGiven next first a → IsGiven (next + 1) first a
given_later next first a g = record {
  fault = λ x e. ⊎_elim (λ (was : WasGiven next x.caller). inl (was_later next x.caller was)) (λ (old : first.fault ≡ Some x). inr old) (g.fault x e);
  draft = ⊎_elim (λ (was : WasGiven next a.drafter). inl (was_later next a.drafter was)) (λ (same : first.draft ≡ a.draft). inr same) g.draft;
  closed = λ x e. ⊎_elim (λ (was : WasGiven next x.opening.caller). inl (was_later next x.opening.caller was)) (λ (old : first.closed ≡ Some x). inr old) (g.closed x e);
}

-- a number that wasn't given has no part in the mark since the first
pub linked_next : (n next : ℕ) (first a b : Mark) → IsGiven next first b → Grows first a → Linked n a b → Linked next a b
linked_next n next first a b g begun l = record {
  grows = l.grows;
  own_fault = λ x e is. ⊎_elim (λ (t : WasGiven next x.caller). let lt : x.caller < next = t.1 in absurd (omega arith)) (λ (was : first.fault ≡ Some x). begun.fault x was) (g.fault x e);
  own_draft = λ is. ⊎_elim (λ (t : WasGiven next b.drafter). let lt : b.drafter < next = t.1 in absurd (omega arith))
      (λ (same : first.draft ≡ b.draft). let low : first.draft ≤ a.draft = begun.draft in let high : a.draft ≤ b.draft = l.grows.draft in omega arith) g.draft;
  own_closed = λ x e is. ⊎_elim (λ (t : WasGiven next x.opening.caller). let lt : x.opening.caller < next = t.1 in absurd (omega arith))
      (λ (was : first.closed ≡ Some x). let low : x.opening.number ≤ last_sweep first = closed_by_then first x was in let up : last_sweep first ≤ last_sweep a = begun.sweep in omega (arith, low, up)) (g.closed x e);
}

-- the mark of a later turn
pub linked_later : (n m : ℕ) (a b c : Mark) → Grows a b → Linked n a c → Linked m b c → Linked n b c
linked_later n m a b c g l k = record {
  grows = k.grows;
  own_fault = λ x e is. g.fault x (l.own_fault x e is);
  own_draft = λ is. let same : a.draft ≡ c.draft = l.own_draft is in let up : a.draft ≤ b.draft = g.draft in let on : b.draft ≤ c.draft = k.grows.draft in omega arith;
  own_closed = λ x e is. let low : x.opening.number ≤ last_sweep a = l.own_closed x e is in let up : last_sweep a ≤ last_sweep b = g.sweep in omega (arith, low, up);
}

pub are_given_later : (next : ℕ) (xs : Open) → AreGiven next xs → AreGiven (next + 1) xs
are_given_later next xs g m le = g m (omega arith)

pub are_given_more : (n next : ℕ) (xs ys : Open) → n < next → AreGiven next xs → LeavesOthers n xs ys → AreGiven next ys
are_given_more n next xs ys lt g leaves m le = nothing_stays (open_of m ys) (subst (λ (x : Open). StaysOpen x (open_of m ys)) (g m le) (leaves m (λ e. omega arith)))
