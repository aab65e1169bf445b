-- Refusals of tests in turn.
use Rattle.std.proofs.Common.{◌≡◌, Result, Ok, Err, refl}
use Rattle.std.specs.Prelude.{OnOk}
use Rattle.cat_model.specs.declared.refusal.Refusal.{Refusal}
use Rattle.cat_model.specs.Refusing.{◌>>=◌}
use Rattle.cat_state.specs.declared.failure.Failure.{Failure}
use Rattle.cat_state.specs.declared.failure.Failure.TheVariants as failures
use Rattle.cat_state.specs.Giving.{Fails, Gives}

-- a test that fails refuses
pub fails_on : {A B : Type 0} (failure : Failure) (r : Result A Refusal) (f : A → Result B Refusal) → Fails failure r → Fails failure (r >>= f)
fails_on failures.NoMemory r f h = tt
fails_on (failures.Refused why) r f h = rw h refl

-- tests in turn, bracketed the other way
pub in_turn : {A B C : Type 0} (r : Result A Refusal) (f : A → Result B Refusal) (g : B → Result C Refusal) → ((r >>= f) >>= g) ≡ (r >>= λ x. f x >>= g)
in_turn (Ok x) f g = refl
in_turn (Err why) f g = refl

-- a step in turn that is accepted had one before it
pub passed_by : {A B : Type 0} (r : Result A Refusal) (f : A → Result B Refusal) (after : B) (P : Type 0) → ((x : A) → r ≡ Ok x → f x ≡ Ok after → P) → (r >>= f) ≡ Ok after → P
passed_by (Ok x) f after P h e = h x refl e
passed_by (Err why) f after P h e = absurd cc

-- what follows where the definition accepts holds where the call does
pub on_accepted : {A : Type 0} (r : Result A Failure) (answer : Result A Refusal) (P : Type 0) → Gives r answer → ((x : A) → answer ≡ Ok x → P) → OnOk r P
on_accepted (Ok x) answer P gives follows = follows x gives
on_accepted (Err failure) answer P gives follows = tt
