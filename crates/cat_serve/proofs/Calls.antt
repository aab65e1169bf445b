-- What calls and sweeps leave of the last draft number.
use Rattle.std.proofs.Common.{◌≡◌, ℕ, ◌+◌, ◌≤◌, max, List, [], ◌∷◌, None, Bool, true, false, nat_lt, if◌then◌else◌, Ok, Err, refl, arith}
use Rattle.cat_model.specs.declared.command.Command.{Command}
use Rattle.cat_model.specs.declared.sweep.Sweep.{Sweep}
use Rattle.cat_model.specs.State.{Digest, State}
use Rattle.cat_model.specs.Refusing.{Tested, Outcome}
use Rattle.cat_model.specs.Step.{Turn, opens_draft, step}
use Rattle.cat_model.specs.Calls.{Called, attempt, call, entry_made, number_on, stepped, told_at, tried, unchanged_by}
use Rattle.cat_model.specs.Sweeps.{step_sweep, swept_by, sweep_call}

-- a number, or the next
pub record IsNextAtMost (before after : ℕ) : Type 0 where
  pub kept : before ≤ after
  pub taken : after ≤ before + 1

chosen_draft : (x y : Called) (draft : ℕ) (b : Bool) → x.draft ≡ draft → y.draft ≡ draft → (if b then x else y).draft ≡ draft
chosen_draft x y draft true p q = p
chosen_draft x y draft false p q = q

stepped_draft : (digest : Digest) (caller : ℕ) (state : State) (draft : ℕ) (command : Command) (turn : Turn) (o : Outcome) → (stepped digest caller state draft command turn o).draft ≡ draft
stepped_draft digest caller state draft command turn (Err why) = refl
stepped_draft digest caller state draft command turn (Ok (after, reply)) =
    chosen_draft
    (record {
      said = told_at after (Ok reply);
      logged = entry_made digest caller after command turn reply ∷ [];
      state = after;
      draft = draft;
    })
    (unchanged_by state draft (Ok reply)) draft (nat_lt state.place after.place) refl refl

-- by the number of its draft, which is the next at most
tried_draft : (digest : Digest) (caller : ℕ) (state : State) (last : ℕ) (command : Command) (turn : Turn) (t : Tested) → turn.draft ≤ last + 1 → IsNextAtMost last (tried digest caller state last command turn t).draft
tried_draft digest caller state last command turn (Err why) next = record { kept = omega arith; taken = omega arith }
tried_draft digest caller state last command turn (Ok x) next =
    let e = stepped_draft digest caller state (max last turn.draft) command turn (step digest state command turn) in
    record { kept = omega (arith, e); taken = omega (arith, e, next) }

number_next : (last : ℕ) (opens : Bool) → number_on last None opens ≤ last + 1
number_next last true = omega arith
number_next last false = omega arith

-- a call takes one draft number at most
pub call_draft : (digest : Digest) (caller : ℕ) (state : State) (last : ℕ) (command : Command) (moment : ℕ) → IsNextAtMost last (call digest caller state last command moment).draft
unfolding attempt
call_draft digest caller state last command moment = tried_draft digest caller state last command _ _ (number_next last (opens_draft command))

swept_draft : (caller : ℕ) (state : State) (draft moment : ℕ) (s : Sweep) (o : Outcome) → (swept_by caller state draft moment s o).draft ≡ draft
swept_draft caller state draft moment s (Err why) = refl
swept_draft caller state draft moment s (Ok (after, reply)) = refl

-- a sweep takes none
pub sweep_draft : (caller : ℕ) (state : State) (past : List State) (last moment : ℕ) (s : Sweep) → IsNextAtMost last (sweep_call caller state past last moment s).draft
unfolding sweep_call
sweep_draft caller state past last moment s =
    let e = swept_draft caller state last moment s (step_sweep state past s) in
    record { kept = omega (arith, e); taken = omega (arith, e) }
