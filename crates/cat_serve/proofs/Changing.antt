-- A changing call tells a change, or it changes nothing; and so does a sweep.
use Rattle.std.proofs.Common.{◌≡◌, ◌⊎◌, ⊎_elim, ℕ, ◌+◌, ◌<◌, max, List, [], ◌∷◌, length, Ok, Err, Bool, true, false, nat_lt, if◌then◌else◌, refl, ◌∙◌, ap, inl, inr, arith}
use Rattle.std.proofs.lemmas.Bool.{ltb-true}
use Rattle.sha2.specs.Sha256.{sha256}
use Rattle.cat_checks.specs.Changes.{tells_change}
use Rattle.cat_checks.specs.LeadingLaws.{Follows, IsStep, is_step}
use Rattle.cat_model.specs.declared.command.Command.{Command}
use Rattle.cat_model.specs.declared.reply.Reply.{Reply}
use Rattle.cat_model.specs.declared.sweep.Sweep.{Sweep}
use Rattle.cat_model.specs.Calls.{Called, attempt, call, entry_made, stepped, told_at, tried, unchanged_by}
use Rattle.cat_model.specs.Refusing.{◌>>=◌, Outcome, Tested}
use Rattle.cat_model.specs.State.{State}
use Rattle.cat_model.specs.Step.{Turn, step}
use Rattle.cat_model.specs.Sweeps.{names_in, needs_sweep_room, saved, since, step_sweep, swept, swept_by, sweep_call}
use Rattle.cat_serve.specs.Replies.{must_be_told}

-- ---- steps

-- a change is told, or the state is as it was
abbrev Settled : State → State × Reply → Type 0
Settled state x = (tells_change x.1 ≡ true) ⊎ (x.0 ≡ state)

-- of an accepted step
abbrev pub SettlesStep : State → Outcome → Type 0
SettlesStep state (Ok x) = Settled state x
SettlesStep state (Err why) = Unit {0}

settles_by : (state : State) (outcome : Outcome) → ((after : State) (reply : Reply) → outcome ≡ Ok (after, reply) → IsStep sha256 state (after, reply)) → SettlesStep state outcome
settles_by state (Ok x) is = ⊎_elim (λ (same : x.0 ≡ state). inr same) (λ (on : Follows sha256 state x.0 × (tells_change x.1 ≡ true)). inl on.1) (is x.0 x.1 refl).leads
settles_by state (Err why) is = tt

step_settles : (state : State) (command : Command) (turn : Turn) → SettlesStep state (step sha256 state command turn)
step_settles state command turn = settles_by state (step sha256 state command turn) (is_step sha256 state command turn)

-- ---- calls

-- the state is left so, and nothing is logged
pub record Spares (called : Called) (before : State) : Type 0 where
  pub state : called.state ≡ before
  pub logged : called.logged ≡ []

-- want of memory isn't told in place of what is told, or nothing was changed
abbrev pub Settles : Called → State → Type 0
Settles called state = (must_be_told called.said ≡ true) ⊎ Spares called state

not_higher : (n m : ℕ) → m ≡ n → nat_lt n m ≡ true → ⊥
not_higher n m same higher = let less : n < m = ltb-true n m higher in omega (arith, less, same)

-- a call that makes an entry
with_entry : (state after : State) (reply : Reply) (called : Called) → must_be_told called.said ≡ tells_change reply → Settled state (after, reply) → nat_lt state.place after.place ≡ true → Settles called state
with_entry state after reply called is (inl changes) higher = inl (is ∙ changes)
with_entry state after reply called is (inr same) higher = absurd (not_higher state.place after.place (ap (λ (s : State). s.place) same) higher)

chosen_settles : (state : State) (b : Bool) (x y : Called) → (b ≡ true → Settles x state) → Settles y state → Settles (if b then x else y) state
chosen_settles state true x y p q = p refl
chosen_settles state false x y p q = q

stepped_settles : (caller : ℕ) (state : State) (draft : ℕ) (command : Command) (turn : Turn) (o : Outcome) → SettlesStep state o → Settles (stepped sha256 caller state draft command turn o) state
stepped_settles caller state draft command turn (Err why) p = inr (record { state = refl; logged = refl })
stepped_settles caller state draft command turn (Ok (after, reply)) p =
    let entered : Called = record {
      said = told_at after (Ok reply);
      logged = entry_made sha256 caller after command turn reply ∷ [];
      state = after;
      draft = draft;
    } in
    chosen_settles state (nat_lt state.place after.place) entered (unchanged_by state draft (Ok reply)) (with_entry state after reply entered refl p) (inr (record { state = refl; logged = refl }))

tried_settles : (caller : ℕ) (state : State) (last : ℕ) (command : Command) (turn : Turn) (t : Tested) → Settles (tried sha256 caller state last command turn t) state
tried_settles caller state last command turn (Err why) = inr (record { state = refl; logged = refl })
tried_settles caller state last command turn (Ok x) = stepped_settles caller state (max last turn.draft) command turn (step sha256 state command turn) (step_settles state command turn)

-- a call tells a change, or changes nothing
pub call_settles : (caller : ℕ) (state : State) (last : ℕ) (command : Command) (moment : ℕ) → Settles (call sha256 caller state last command moment) state
unfolding attempt
call_settles caller state last command moment = tried_settles caller state last command _ _

-- ---- sweeps

-- an accepted one tells a change
abbrev TellsSweep : Outcome → Type 0
TellsSweep (Ok x) = tells_change x.1 ≡ true
TellsSweep (Err why) = Unit {0}

behind_test : (t : Tested) (o : Outcome) → TellsSweep o → TellsSweep (t >>= λ _. o)
behind_test (Err why) o tells = tt
behind_test (Ok x) o tells = tells

step_tells : (state : State) (past : List State) (s : Sweep) → TellsSweep (step_sweep state past s)
unfolding step_sweep
step_tells state past s =
    behind_test (needs_sweep_room state (length s.commits + length s.contents))
    (swept state s.opened (saved (since s.opened state past) state.commits s.policy (names_in s))) refl

swept_settles : (caller : ℕ) (state : State) (draft moment : ℕ) (s : Sweep) (o : Outcome) → TellsSweep o → Settles (swept_by caller state draft moment s o) state
swept_settles caller state draft moment s (Err why) tells = inr (record { state = refl; logged = refl })
swept_settles caller state draft moment s (Ok (after, reply)) tells = inl tells

-- a sweep tells a change, or changes nothing
pub sweep_settles : (caller : ℕ) (state : State) (past : List State) (last moment : ℕ) (s : Sweep) → Settles (sweep_call caller state past last moment s) state
unfolding sweep_call
sweep_settles caller state past last moment s = swept_settles caller state last moment s (step_sweep state past s) (step_tells state past s)
