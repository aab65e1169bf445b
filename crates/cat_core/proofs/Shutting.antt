-- Sweeps that are opened, given roots and closed are turns of their callers.
use Rattle.std.proofs.Common.{◌≡◌, ◌≢◌, ◌≤◌, ℕ, Option, Some, None, Result, Bool, cond, refl, sym, ap, ◌∙◌, subst, inl, inr, le_refl, ne_eqb, arith}
use Rattle.cat_checks.specs.Histories.{IsLegalFrom}
use Rattle.cat_model.specs.Drafts.{LeavesOthers, Open, OpenSweep, Opening, SweepAwaits, sweep_of}
use Rattle.cat_model.specs.Mark.{ClosedSweep, Later, Mark, closed_number, last_sweep, open_number}
use Rattle.cat_mark.specs.declared.roots.Roots.{Roots}
use Rattle.cat_model.specs.declared.cutoff.Resolved.{Resolved}
use Rattle.cat_model.specs.declared.refusal.Refused.{Refused}
use Rattle.cat_model.specs.declared.reply.Told.{Told}
use Rattle.cat_model.specs.State.{State}
use Rattle.cat_model.specs.Sweeps as collections
use Rattle.cat_model.specs.TurnLaws.{acts_on, later_self}
use Rattle.cat_model.specs.Turns.{Acts}
use Rattle.cat_core.specs.declared.sweeping.Sweep.{Sweep}
use Rattle.cat_core.specs.Stored.{IsMarked, IsSound, Stored, log_of, opened_of, snap}
use Rattle.cat_core.specs.Drafts.{Refers}
use Rattle.cat_core.specs.Sweeps.{Drops, IsDrained, IsSweepOpening, IsSweeping, MayBeClosed, Sweeps, called_sweep, count_of, drained_on, opened_sweep, shut, sweep_opening, with_sweep}
use Rattle.cat_core.proofs.Acting.{acts_idle, acts_referred}
use Rattle.cat_core.proofs.Removing.{sweep_brings}
use Rattle.cat_core.proofs.Waiting.{none_of_none}

-- ---- what others see

-- a sweep is its caller's
other_sweep : (o : OpenSweep) (m : ℕ) → m ≢ o.opening.caller → sweep_of m (Some o) ≡ None
other_sweep o m ne = ap (λ (b : Bool). cond b (Some o) None) (ne_eqb o.opening.caller m (λ e. ne (sym e)))

awaits_none : (a b : Option OpenSweep) → a ≡ None → b ≡ None → SweepAwaits a b
awaits_none a b p q = subst (λ (x : Option OpenSweep). SweepAwaits x b) (sym p) (subst (SweepAwaits None) (sym q) tt)

-- what a caller makes of its own sweep
pub leaves_sweep : (caller : ℕ) (a : Open) (b : Option OpenSweep) → ((m : ℕ) → m ≢ caller → sweep_of m a.sweep ≡ None) → ((m : ℕ) → m ≢ caller → sweep_of m b ≡ None) → LeavesOthers caller a (record a { sweep = b })
leaves_sweep caller a b before after = λ m ne. record { drafts = refl; sweep = awaits_none _ _ (before m ne) (after m ne) }

own_sweep : (caller : ℕ) (o : OpenSweep) (held : Option OpenSweep) → held ≡ Some o → o.opening.caller ≡ caller → (m : ℕ) → m ≢ caller → sweep_of m held ≡ None
own_sweep caller o held is own m ne = ap (sweep_of m) is ∙ other_sweep o m (λ e. ne (e ∙ own))

-- ---- closing

last_shut : (m : Mark) (o : OpenSweep) (names : ℕ) → IsMarked m (Some o) → last_sweep m ≤ last_sweep (record m { sweep = None; closed = Some (record { opening = o.opening; names = names }) })
last_shut m o names is =
    let own : open_number m.sweep ≡ o.opening.number = ap open_number is.0 in
    let low : closed_number m.closed ≤ o.opening.number = is.1 in
    omega (arith, own, low)

later_shut : (m : Mark) (o : OpenSweep) (names : ℕ) → IsMarked m (Some o) → Later o.opening.caller m (record m { sweep = None; closed = Some (record { opening = o.opening; names = names }) })
later_shut m o names is = record {
  grows = record { fault = λ x e. e; draft = le_refl m.draft; drafter = λ _. refl; sweep = last_shut m o names is; format = refl };
  new_fault = λ x e. inl e;
  new_draft = inl refl;
  new_closed = λ x e. inr (let it : record { opening = o.opening; names = names } ≡ x = cc in sym (ap (λ (z : ClosedSweep). z.opening.caller) it));
}

pub acts_shut : {K : Type 0} (s : Stored K) (o : OpenSweep) → s.left_open.sweep ≡ Some o → IsMarked s.mark s.left_open.sweep → IsLegalFrom (opened_of s) (log_of s) → Acts IsLegalFrom o.opening.caller (snap s) (snap (shut s o))
acts_shut {K} s o is marked legal =
    acts_idle s o.opening.caller s.keeper _ (record (s.left_open) { sweep = None }) legal
    (later_shut s.mark o (count_of o.names) (subst (IsMarked s.mark) is marked))
    (leaves_sweep o.opening.caller s.left_open None (own_sweep o.opening.caller o s.left_open.sweep is refl) (λ m ne. refl))

-- the one that is open, and what dropping it leaves
drops_by : {K : Type 0} (s s' : Stored K) (held : Option OpenSweep) (o : OpenSweep) → held ≡ Some o → Drops s held s' → s' ≡ shut s o
drops_by {K} s s' None o is drops = absurd drops
drops_by {K} s s' (Some p) o is drops = drops ∙ ap (shut s) (same p o is)
  where
    same : (p o : OpenSweep) → ◌≡◌ {A = Option OpenSweep} (Some p) (Some o) → p ≡ o
    same p o e = cc

pub acts_drop : {K : Type 0} (s s' : Stored K) (sweep : Sweep) → IsSweeping s sweep → Drops s s.left_open.sweep s' → IsMarked s.mark s.left_open.sweep → IsLegalFrom (opened_of s) (log_of s) → Acts IsLegalFrom sweep.ticket.caller (snap s) (snap s')
acts_drop {K} s s' sweep is drops marked legal =
    let o = is.0 in
    let own : o.opening.caller ≡ sweep.ticket.caller = ap (λ (x : Opening). x.caller) is.2 in
    subst (λ (n : ℕ). Acts IsLegalFrom n (snap s) (snap s')) own
    (subst (λ (x : Stored K). Acts IsLegalFrom o.opening.caller (snap s) (snap x)) (sym (drops_by s s' s.left_open.sweep o is.1 drops)) (acts_shut s o is.1 marked legal))

-- ---- opening

last_begun : (m : Mark) (o : Opening) → m.sweep ≡ None → last_sweep m ≤ last_sweep (record m { sweep = Some o })
last_begun m o none =
    let own : open_number m.sweep ≡ 0 = ap open_number none in
    omega (arith, own)

later_begun : (caller : ℕ) (m : Mark) (o : Opening) → m.sweep ≡ None → Later caller m (record m { sweep = Some o })
later_begun caller m o none = record {
  grows = record { fault = λ x e. e; draft = le_refl m.draft; drafter = λ _. refl; sweep = last_begun m o none; format = refl };
  new_fault = λ x e. inl e;
  new_draft = inl refl;
  new_closed = λ x e. inl e;
}

acts_with : {K : Type 0} (s : Stored K) (o : OpenSweep) → s.left_open.sweep ≡ None → IsMarked s.mark s.left_open.sweep → IsLegalFrom (opened_of s) (log_of s) → Acts IsLegalFrom o.opening.caller (snap s) (snap (with_sweep s o))
acts_with {K} s o none marked legal =
    acts_idle s o.opening.caller s.keeper _ (record (s.left_open) { sweep = Some o }) legal
    (later_begun o.opening.caller s.mark o.opening (subst (IsMarked s.mark) none marked))
    (leaves_sweep o.opening.caller s.left_open (Some o) (λ m ne. ap (sweep_of m) none) (λ m ne. other_sweep o m ne))

pub acts_begun : {K : Type 0} (caller : ℕ) (policy : Resolved) (s s' : Stored K) (sweep : Sweep) (roots : Roots) (view : State) → IsSweepOpening caller policy s s' sweep roots view → IsMarked s.mark s.left_open.sweep → IsLegalFrom (opened_of s) (log_of s) → Acts IsLegalFrom caller (snap s) (snap s')
acts_begun {K} caller policy s s' sweep roots view is marked legal =
    let o : OpenSweep = opened_sweep s.book s.left_open.drafts (sweep_opening sweep) policy in
    subst (λ (n : ℕ). Acts IsLegalFrom n (snap s) (snap s')) (ap (λ (x : Opening). x.caller) is.opening)
    (subst (λ (x : Stored K). Acts IsLegalFrom o.opening.caller (snap s) (snap x)) (sym is.after) (acts_with s o is.none marked legal))

-- ---- giving roots

some_same : (a b : OpenSweep) → ◌≡◌ {A = Option OpenSweep} (Some a) (Some b) → a ≡ b
some_same a b e = cc

pub acts_drained : {K : Type 0} (s s' : Stored K) (sweep : Sweep) (roots : Roots) (view : State) → IsSweeping s sweep → IsDrained s s' roots view → IsLegalFrom (opened_of s) (log_of s) → Acts IsLegalFrom sweep.ticket.caller (snap s) (snap s')
acts_drained {K} s s' sweep roots view open_so is legal =
    let o = is.sweep in
    let same : open_so.0 ≡ o = some_same open_so.0 o (sym open_so.1 ∙ is.is) in
    let own : o.opening.caller ≡ sweep.ticket.caller = ap (λ (x : OpenSweep). x.opening.caller) (sym same) ∙ ap (λ (x : Opening). x.caller) open_so.2 in
    subst (λ (x : Stored K). Acts IsLegalFrom sweep.ticket.caller (snap s) (snap x)) (sym is.after)
    (acts_idle s sweep.ticket.caller s.keeper s.mark (record (s.left_open) { sweep = Some (drained_on s.book o) }) legal (later_self sweep.ticket.caller s.mark)
    (leaves_sweep sweep.ticket.caller s.left_open (Some (drained_on s.book o)) (own_sweep sweep.ticket.caller o s.left_open.sweep is.is own) (λ m ne. other_sweep (drained_on s.book o) m (λ e. ne (e ∙ own)))))

-- ---- settling

swept_by : {K : Type 0} (s s' : Stored K) (held : Option OpenSweep) (o : OpenSweep) (moment : ℕ) (result : Result Told Refused) → held ≡ Some o → Sweeps s held moment result s' → Refers (called_sweep s o moment) o.opening.caller (shut s o) s' result
swept_by {K} s s' None o moment result is sweeps = absurd sweeps
swept_by {K} s s' (Some p) o moment result is sweeps = subst (λ (q : OpenSweep). Refers (called_sweep s q moment) q.opening.caller (shut s q) s' result) (some_same p o is) sweeps

pub acts_swept : {K : Type 0} (s s' : Stored K) (sweep : Sweep) (moment : ℕ) (result : Result Told Refused) → IsSweeping s sweep → Sweeps s s.left_open.sweep moment result s' → IsMarked s.mark s.left_open.sweep → MayBeClosed s.book s.left_open.sweep → IsSound s.opened s.book s.left_open.drafts
    → Acts IsLegalFrom sweep.ticket.caller (snap s) (snap s')
acts_swept {K} s s' sweep moment result is sweeps marked may sound =
    let o = is.0 in
    let own : o.opening.caller ≡ sweep.ticket.caller = ap (λ (x : Opening). x.caller) is.2 in
    let closes : MayBeClosed s.book (Some o) = subst (MayBeClosed s.book) is.1 may in
    subst (λ (n : ℕ). Acts IsLegalFrom n (snap s) (snap s')) own
    (acts_on IsLegalFrom o.opening.caller (snap s) (snap (shut s o)) (snap s') (acts_shut s o is.1 marked sound.legal)
    (acts_referred (shut s o) (called_sweep s o moment) o.opening.caller s' result
    (sweep_brings o.opening.caller moment s.book (collections.sweep_of o.opening.place o.policy o.names) closes.0) sound (none_of_none s.opened.draft s.book.draft s.book.log s.left_open.drafts sound.waiting) (swept_by s s' s.left_open.sweep o moment result is.1 sweeps)))
