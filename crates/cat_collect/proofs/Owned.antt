-- What is open of the caller of a collection.
use Rattle.std.proofs.Common.{◌≡◌, ℕ, [], Option, Some, None, Bool, true, false, cond, nat_eq, refl, sym, ap, ◌∙◌, subst, arith, eq-eqb}
use Rattle.std.proofs.lemmas.Bool.Decides.{nat_tests}
use Rattle.std.proofs.lemmas.Option.{same_Some}
use Rattle.cat_core.specs.Stored as stored
use Rattle.cat_core.specs.Stored.{Stored}
use Rattle.cat_core.specs.Sweeps.{IsSweeping, sweep_opening}
use Rattle.cat_core.specs.declared.sweeping.Sweep.{Sweep}
use Rattle.cat_desk.specs.Pass.{left_by}
use Rattle.cat_desk.specs.declared.pass.Pass.{Pass}
use Rattle.cat_model.specs.Drafts.{Awaits, Open, OpenSweep, StaysOpen, SweepAwaits, drafts_of, nothing_open, open_of, sweep_of}

abbrev pub one_open : OpenSweep → Open
one_open o = record { drafts = []; sweep = Some o }

-- a sweep that was left open alone, as it is found
pub record IsFound {K : Type 0} (n : ℕ) (s : Stored K) (a x : OpenSweep) : Type 0 where
  pub is : s.left_open.sweep ≡ Some x
  pub awaits : Awaits a x
  pub own : x.opening.caller ≡ n
  pub drafts : drafts_of n s.left_open.drafts ≡ []

own_by : (n : ℕ) (x : OpenSweep) (t : Bool) → nat_eq x.opening.caller n ≡ t → (a : OpenSweep) → SweepAwaits (Some a) (cond t (Some x) None) → Awaits a x × (x.opening.caller ≡ n)
own_by n x true e a is = (is, grind (arith, nat_tests, e))
own_by n x false e a is = absurd is

found_by : {K : Type 0} (n : ℕ) (s : Stored K) (a : OpenSweep) (w : Option OpenSweep) → s.left_open.sweep ≡ w → drafts_of n s.left_open.drafts ≡ [] → SweepAwaits (Some a) (sweep_of n w) → (x : OpenSweep) × IsFound n s a x
found_by n s a None e drafts is = absurd is
found_by n s a (Some x) e drafts is = let own = own_by n x (nat_eq x.opening.caller n) refl a is in (x, record { is = e; awaits = own.0; own = own.1; drafts = drafts })

pub found_open : {K : Type 0} (n : ℕ) (p : Pass) (s : Stored K) (a : OpenSweep) → left_by p ≡ one_open a → StaysOpen (left_by p) (open_of n (stored.open_of s)) → (x : OpenSweep) × IsFound n s a x
found_open n p s a left stays =
    let same : StaysOpen (one_open a) (open_of n (stored.open_of s)) = subst (λ (o : Open). StaysOpen o (open_of n (stored.open_of s))) left stays in
    found_by n s a s.left_open.sweep refl same.drafts same.sweep

-- whichever it is
pub found_as : {K : Type 0} (n : ℕ) (p : Pass) (s : Stored K) (a x : OpenSweep) → left_by p ≡ one_open a → StaysOpen (left_by p) (open_of n (stored.open_of s)) → s.left_open.sweep ≡ Some x → IsFound n s a x
found_as n p s a x left stays is =
    let found = found_open n p s a left stays in
    subst (λ (y : OpenSweep). IsFound n s a y) (same_Some found.0 x (sym found.1.is ∙ is)) found.1

-- ---- what is left

pub one_left : (n : ℕ) (o : Open) (x : OpenSweep) → drafts_of n o.drafts ≡ [] → o.sweep ≡ Some x → x.opening.caller ≡ n → open_of n o ≡ one_open x
one_left n o x drafts is own =
    let sweep : sweep_of n o.sweep ≡ Some x = ap (sweep_of n) is ∙ ap (λ (t : Bool). cond t (Some x) None) (eq-eqb x.opening.caller n own) in
    λ i. record { drafts = drafts i; sweep = sweep i }

pub none_left : (n : ℕ) (o : Open) → drafts_of n o.drafts ≡ [] → o.sweep ≡ None → open_of n o ≡ nothing_open
none_left n o drafts is = λ i. record { drafts = drafts i; sweep = ap (sweep_of n) is i }

-- ---- as the store's calls want it

pub sweeping : {K : Type 0} (n : ℕ) (p : Pass) (s : Stored K) (sweep : Sweep) (a : OpenSweep) → left_by p ≡ one_open a → a.opening ≡ sweep_opening sweep → StaysOpen (left_by p) (open_of n (stored.open_of s)) → IsSweeping s sweep
sweeping n p s sweep a left opening stays =
    let found = found_open n p s a left stays in
    (found.0, found.1.is, ap (λ (o : OpenSweep). o.opening) found.1.awaits.same ∙ opening)
