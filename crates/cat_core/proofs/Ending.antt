-- What settling a sweep answers and leaves.
use Rattle.std.proofs.Common.{◌≡◌, ◌≤◌, ℕ, List, Option, Some, None, Result, Err, true, refl, sym, ap, ◌∙◌, subst}
use Rattle.sha2.specs.Sha256.{sha256}
use Rattle.cat_checks.specs.Legal.{may_be_swept}
use Rattle.cat_frames.specs.Sweeps.{sweep_is_logged}
use Rattle.cat_model.specs.Book.{Book}
use Rattle.cat_keeper.specs.declared.keeper.Keeper.{Ghosts}
use Rattle.cat_model.specs.declared.refusal.Refusal.TheVariants.{Down, NoMemory}
use Rattle.cat_model.specs.declared.refusal.Refused.{Refused}
use Rattle.cat_model.specs.declared.reply.Told.{Told}
use Rattle.cat_model.specs.Drafts.{OpenSweep, Opening}
use Rattle.cat_model.specs.declared.sweep.Sweep.{Sweep}
use Rattle.cat_model.specs.Sweeps.{sweep_of}
use Rattle.cat_mark.specs.declared.marks.Marks.{Marks}
use Rattle.cat_mark.specs.declared.roots.Roots.{Roots}
use Rattle.cat_mark.specs.Walked.{HaveWalked}
use Rattle.cat_names.specs.declared.hash.Hash.{Hash}
use Rattle.cat_core.specs.declared.closing.Closing.{Closing}
use Rattle.cat_core.specs.Kept.{IsTold}
use Rattle.cat_core.specs.Stored.{IsDownAt, IsUp, Stored}
use Rattle.cat_core.specs.Sweeps.{AreAllMarked, AreGiven, Closes, Completes, Drops, IsClosing, IsSettledSweep, MayBeClosed, Sweeps, called_sweep, given_by, kept_by, shut, sweep_in, sweep_on}
use Rattle.cat_core.proofs.Collecting.{all_marked}
use Rattle.cat_core.proofs.Settling.{still, still_leaves, up_not_down, up_rests}

-- ---- the one that is open

some_same : (a b : OpenSweep) → ◌≡◌ {A = Option OpenSweep} (Some a) (Some b) → a ≡ b
some_same a b e = cc

pub drops_it : {K : Type 0} (s s' : Stored K) (held : Option OpenSweep) (o : OpenSweep) → held ≡ Some o → Drops s held s' → s' ≡ shut s o
drops_it {K} s s' None o is drops = absurd drops
drops_it {K} s s' (Some p) o is drops = drops ∙ ap (shut s) (some_same p o is)

pub closes_it : (held : Option OpenSweep) (o : OpenSweep) (c : Closing) → held ≡ Some o → Closes held c → IsClosing o c
closes_it None o c is closes = absurd closes
closes_it (Some p) o c is closes = subst (λ (q : OpenSweep). IsClosing q c) (some_same p o is) closes

-- what is told of it
pub sweeps_it : {K : Type 0} (s s' : Stored K) (held : Option OpenSweep) (moment : ℕ) (result : Result Told Refused) → (o : OpenSweep) → held ≡ Some o → ((o : OpenSweep) → held ≡ Some o → Sweeps s (Some o) moment result s') → Sweeps s held moment result s'
sweeps_it {K} s s' held moment result o is told = subst (λ (h : Option OpenSweep). Sweeps s h moment result s') (sym is) (told o is)

module _ {K : Type 0} (members : Ghosts K)
    (safe : (k : K) (ps : List (List ℕ)) (c : Option (List (List ℕ))) → members.down k ≡ None → members.told k ≡ Some ps → members.may_leave k c → c ≡ Some ps)
    (only_now : (k : K) (c : Option (List (List ℕ))) → members.left_since k (members.moment k) c → members.may_leave k c)
    (s s' : Stored K) (o : OpenSweep) (moment : ℕ) (is_up : IsUp s → members.down s.keeper ≡ None) where
  abbrev It : Result Told Refused → Type 0
  It result = IsSettledSweep members s s' o moment result

  keeper_same : s' ≡ shut s o → s'.keeper ≡ s.keeper
  keeper_same left = ap (λ (x : Stored K). x.keeper) left

  -- an append had failed
  pub ended_down : (place count : ℕ) (r : Refused) → IsDownAt s count → place ≡ s.book.state.place → r ≡ record { place = Some place; why = Down count } → s' ≡ shut s o → It (Err r)
  ended_down place count r fell same_place is left = subst (λ (x : Refused). It (Err x)) (sym is) record {
    refers = (ap (λ (p : ℕ). Some p) same_place, fell, left);
    keeps = λ up. absurd (up_not_down s count up fell);
    crash = λ up. absurd (up_not_down s count up fell);
    rests = λ x failed. keeper_same left;
  }

  -- memory ran out
  pub ended_short : (r : Refused) → r ≡ record { place = None; why = NoMemory } → s' ≡ shut s o → It (Err r)
  ended_short r is left = subst (λ (x : Refused). It (Err x)) (sym is) record {
    refers = (refl, left ∙ ap (λ (k : K). record (shut s o) { keeper = k }) (sym (keeper_same left)));
    keeps = λ up. record { done = tt; fault = λ is_fault. absurd cc; other = λ no. still members safe only_now s.keeper s'.keeper (keeper_same left) };
    crash = λ up. still_leaves members safe only_now s.keeper s'.keeper (called_sweep s o moment).logged (keeper_same left) (is_up up);
    rests = λ x failed. keeper_same left;
  }

  -- it was made, or refused
  pub ended_made : IsUp s → (closed : Stored K) (c : Closing) (result : Result Told Refused) → closed ≡ shut s o → IsClosing o c → IsTold members c.ticket.caller closed s' (sweep_on c.ticket.caller closed.book moment (sweep_in c)) result → It result
  ended_made up closed c result left is told =
      let caller : c.ticket.caller ≡ o.opening.caller = ap (λ (x : Opening). x.caller) is.opening in
      let whole : IsTold members o.opening.caller (shut s o) s' (called_sweep s o moment) result =
      subst (λ (x : Stored K). IsTold members o.opening.caller x s' (sweep_on o.opening.caller x.book moment (sweep_of o.opening.place o.policy o.names)) result) left
      (subst (λ (w : Sweep). IsTold members o.opening.caller closed s' (sweep_on o.opening.caller closed.book moment w) result) is.sweep
      (subst (λ (n : ℕ). IsTold members n closed s' (sweep_on n closed.book moment (sweep_in c)) result) caller told)) in
      record { refers = whole.refers; keeps = λ u. whole.keeps; crash = λ u. whole.crash; rests = up_rests s s' up }

-- ---- it may be made

module _ {K : Type 0} (s after : Stored K) (o : OpenSweep) (c : Closing) (is : s.left_open.sweep ≡ Some o) (closes : Closes s.left_open.sweep c) (drops : Drops s s.left_open.sweep after) where
  same_book : after.book ≡ s.book
  same_book = ap (λ (x : Stored K). x.book) (drops_it s after s.left_open.sweep o is drops)

  its : IsClosing o c
  its = closes_it s.left_open.sweep o c is closes

  may_so : MayBeClosed s.book s.left_open.sweep → MayBeClosed s.book (Some o)
  may_so may = subst (MayBeClosed s.book) is may

  pub may_it : MayBeClosed s.book s.left_open.sweep → may_be_swept sha256 after.book (sweep_in c) ≡ true
  may_it may = subst (λ (b : Book). may_be_swept sha256 b (sweep_in c) ≡ true) (sym same_book) (subst (λ (w : Sweep). may_be_swept sha256 s.book w ≡ true) (sym its.sweep) (may_so may).0)

  pub logged_it : MayBeClosed s.book s.left_open.sweep → sweep_is_logged (sweep_in c) ≡ true
  logged_it may = subst (λ (w : Sweep). sweep_is_logged w ≡ true) (sym its.sweep) (may_so may).1

  pub marked_it : (marks : List Hash) (roots : Roots) → AreGiven s.book o marks → Completes s.book.state.commits (given_by s.book o) roots (kept_by s.book o) → AreAllMarked after.book (sweep_in c) marks roots
  marked_it marks roots given completes = subst (λ (b : Book). AreAllMarked b (sweep_in c) marks roots) (sym same_book) (all_marked s.book o (sweep_in c) marks roots its.sweep given completes)

  pub walked_it : (marks : Marks) → HaveWalked s.book.state.commits marks → HaveWalked after.book.state.commits marks
  walked_it marks walked = subst (λ (b : Book). HaveWalked b.state.commits marks) (sym same_book) walked

  pub since_it : (start : K → ℕ) → start s.keeper ≤ c.ticket.place → start after.keeper ≤ c.ticket.place
  since_it start since = subst (λ (k : K). start k ≤ c.ticket.place) (sym (ap (λ (x : Stored K). x.keeper) (drops_it s after s.left_open.sweep o is drops))) since

  pub up_it : IsUp s → IsUp after
  up_it up = ap (λ (x : Stored K). x.mark.fault) (drops_it s after s.left_open.sweep o is drops) ∙ up
