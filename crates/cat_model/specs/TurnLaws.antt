-- Laws of marks, of what is open, and of turns: nothing done is a turn, and two turns of a caller are one.
use Rattle.std.proofs.Common.{◌≡◌, ℕ, ◌≤◌, List, [], ◌∷◌, ◌++◌, refl, sym, ap, ◌∙◌, subst, inl, inr, ⊎_elim, arith, le_refl, Option, Some, None}
use Rattle.std.proofs.lemmas.List.{append_assoc, append-nil}
use Rattle.cat_model.specs.declared.log_entry.LogEntry.{LogEntry}
use Rattle.cat_model.specs.Drafts.{Open, OpenSweep, nothing_open, open_of, SweepAwaits, StaysOpen, LeavesOthers}
use Rattle.cat_model.specs.Mark.{Mark, Grows, Later, last_sweep}
use Rattle.cat_model.specs.Turns.{Opened, Snapshot, Own, Adds, Acts}

pub grows_self : (a : Mark) → Grows a a
grows_self a = record { fault = λ x e. e; draft = le_refl a.draft; drafter = λ _. refl; sweep = le_refl (last_sweep a); format = refl }

pub grows_on : (a b c : Mark) → Grows a b → Grows b c → Grows a c
grows_on a b c p q = let low : a.draft ≤ b.draft = p.draft in let high : b.draft ≤ c.draft = q.draft in let before : last_sweep a ≤ last_sweep b = p.sweep in let after : last_sweep b ≤ last_sweep c = q.sweep in record {
  fault = λ x e. q.fault x (p.fault x e);
  draft = omega arith;
  drafter = λ same. let first : a.draft ≡ b.draft = omega arith in let second : b.draft ≡ c.draft = omega arith in p.drafter first ∙ q.drafter second;
  sweep = omega arith;
  format = p.format ∙ q.format;
}

pub later_self : (caller : ℕ) (a : Mark) → Later caller a a
later_self caller a = record { grows = grows_self a; new_fault = λ x e. inl e; new_draft = inl refl; new_closed = λ x e. inl e }

pub later_on : (caller : ℕ) (a b c : Mark) → Later caller a b → Later caller b c → Later caller a c
later_on caller a b c p q = record {
  grows = grows_on a b c p.grows q.grows;
  new_fault = λ x e. ⊎_elim (λ (was : b.fault ≡ Some x). p.new_fault x was) (λ (new : x.caller ≡ caller). inr new) (q.new_fault x e);
  new_draft = ⊎_elim
      (λ (same : b.draft ≡ c.draft). ⊎_elim (λ (was : a.draft ≡ b.draft). inl (was ∙ same)) (λ (new : b.drafter ≡ caller). inr (sym (q.grows.drafter same) ∙ new)) p.new_draft)
      (λ (new : c.drafter ≡ caller). inr new) q.new_draft;
  new_closed = λ x e. ⊎_elim (λ (was : b.closed ≡ Some x). p.new_closed x was) (λ (new : x.opening.caller ≡ caller). inr new) (q.new_closed x e);
}

awaits_self : (a : Option OpenSweep) → SweepAwaits a a
awaits_self None = tt
awaits_self (Some a) = record { same = refl; commits = λ hash is. is; contents = λ hash is. is }

awaits_on : (a b c : Option OpenSweep) → SweepAwaits a b → SweepAwaits b c → SweepAwaits a c
awaits_on None None c p q = q
awaits_on None (Some b) c p q = absurd p
awaits_on (Some a) None c p q = absurd p
awaits_on (Some a) (Some b) None p q = absurd q
awaits_on (Some a) (Some b) (Some c) p q = record {
  same = q.same ∙ ap (λ (x : OpenSweep). record x { names = c.names }) p.same;
  commits = λ hash is. q.commits hash (p.commits hash is);
  contents = λ hash is. q.contents hash (p.contents hash is);
}

pub stays_self : (a : Open) → StaysOpen a a
stays_self a = record { drafts = refl; sweep = awaits_self a.sweep }

pub stays_on : (a b c : Open) → StaysOpen a b → StaysOpen b c → StaysOpen a c
stays_on a b c p q = record { drafts = q.drafts ∙ p.drafts; sweep = awaits_on a.sweep b.sweep c.sweep p.sweep q.sweep }

no_sweep : (a : Option OpenSweep) → SweepAwaits None a → a ≡ None
no_sweep None is = refl
no_sweep (Some a) is = absurd is

-- where nothing was open, nothing is
pub nothing_stays : (a : Open) → StaysOpen nothing_open a → a ≡ nothing_open
nothing_stays a is = λ i. record { drafts = is.drafts i; sweep = no_sweep a.sweep is.sweep i }

pub leaves_self : (caller : ℕ) (a : Open) → LeavesOthers caller a a
leaves_self caller a = λ other _. stays_self (open_of other a)

pub leaves_on : (caller : ℕ) (a b c : Open) → LeavesOthers caller a b → LeavesOthers caller b c → LeavesOthers caller a c
leaves_on caller a b c p q = λ other ne. stays_on (open_of other a) (open_of other b) (open_of other c) (p other ne) (q other ne)

own_more : (caller : ℕ) (xs ys : List LogEntry) → Own caller xs → Own caller ys → Own caller (xs ++ ys)
own_more caller [] ys p q = q
own_more caller (x ∷ xs) ys p q = (p.0, own_more caller xs ys p.1 q)

pub adds_none : (caller : ℕ) (a : List LogEntry) → Adds caller a a
adds_none caller a = ([], sym (append-nil a), tt)

pub adds_on : (caller : ℕ) (a b c : List LogEntry) → Adds caller a b → Adds caller b c → Adds caller a c
adds_on caller a b c p q = (p.0 ++ q.0, q.1 ∙ (ap (λ l. l ++ q.0) p.1 ∙ append_assoc a p.0 q.0), own_more caller p.0 q.0 p.2 q.2)

-- nothing done
pub acts_self : (legal : Opened → List LogEntry → Type 0) (caller : ℕ) (a b : Snapshot) → a ≡ b → legal b.opened b.log → Acts legal caller a b
acts_self legal caller a b same ok = subst (λ (x : Snapshot). Acts legal caller x b) (sym same) record {
  opened = refl;
  is_legal = ok;
  adds = adds_none caller b.log;
  later = later_self caller b.mark;
  others = leaves_self caller b.left_open;
}

pub acts_on : (legal : Opened → List LogEntry → Type 0) (caller : ℕ) (a b c : Snapshot) → Acts legal caller a b → Acts legal caller b c → Acts legal caller a c
acts_on legal caller a b c p q = record {
  opened = q.opened ∙ p.opened;
  is_legal = q.is_legal;
  adds = adds_on caller a.log b.log c.log p.adds q.adds;
  later = later_on caller a.mark b.mark c.mark p.later q.later;
  others = leaves_on caller a.left_open b.left_open c.left_open p.others q.others;
}
