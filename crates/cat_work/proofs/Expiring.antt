-- The place that a step tells where contents are gone.
use Rattle.std.proofs.Common.{◌≡◌, ℕ, List, [], ◌∷◌, Err, Bool, true, false, nat_eq, refl, subst, arith, eq-eqb}
use Rattle.std.proofs.lemmas.Bool.Decides.{nat_tests}
use Rattle.sha2.specs.Sha256.{sha256}
use Rattle.cat_names.specs.Fields.{Key}
use Rattle.cat_names.specs.declared.hash.Hash.{Hash}
use Rattle.cat_model.specs.declared.command.Command.{Command}
use Rattle.cat_model.specs.declared.command.Command.TheVariants as commands
use Rattle.cat_model.specs.declared.refusal.Refusal.{Refusal}
use Rattle.cat_model.specs.declared.refusal.Refusal.TheVariants.{Expired}
use Rattle.cat_model.specs.CauseLaws.{Causes, HasEarly, HasSteps, assign_causes, commit_causes, create_causes, delete_causes, merge_causes, transplant_causes}
use Rattle.cat_model.specs.Chain.{entries}
use Rattle.cat_model.specs.Moves.{needs_contents}
use Rattle.cat_model.specs.Records.{expired_keys, needs_no_expired}
use Rattle.cat_model.specs.Refusing.{Outcome}
use Rattle.cat_model.specs.State.{State}
use Rattle.cat_model.specs.Step.{Turn, opens_draft, step}

-- contents are gone only with this place
abbrev is_at : ℕ → Refusal → Bool
is_at place (Expired keys opened) = nat_eq opened place
is_at place _ = true

has_early : (place : ℕ) → HasEarly (is_at place)
has_early place = record { bad = λ reason. refl; missing = refl }

has_steps : (place : ℕ) → HasSteps (is_at place)
has_steps place = record {
  early = has_early place;
  exists = refl;
  conflicts = λ list. refl;
  references = λ n. refl;
  log = λ n. refl;
  commits = λ n. refl;
  keys = λ n. refl;
  contents = λ n. refl;
  collision = λ hash kept bytes. refl;
}

held : (keys : List Key) (place : ℕ) → Causes (is_at place) (needs_no_expired keys place)
held [] place = tt
held (key ∷ keys) place = eq-eqb place place refl

held_there : (state : State) (hash : Hash) → Causes (is_at state.place) (needs_contents state hash)
unfolding needs_contents
held_there state hash = held (expired_keys state (entries state.commits hash)) state.place

told_at : (place : ℕ) (o : Outcome) (keys : List Key) (opened : ℕ) → Causes (is_at place) o → o ≡ Err (Expired keys opened) → opened ≡ place
told_at place o keys opened causes e = let same : nat_eq opened place ≡ true = subst (λ (x : Outcome). Causes (is_at place) x) e causes in grind (arith, nat_tests, same)

-- a call that opens no draft tells the state's
pub gone_at_state : (state : State) (c : Command) (turn : Turn) (keys : List Key) (opened : ℕ) → opens_draft c ≡ false → step sha256 state c turn ≡ Err (Expired keys opened) → opened ≡ state.place
gone_at_state state (commands.Create c) turn keys opened opens e = told_at state.place (step sha256 state (commands.Create c) turn) keys opened (create_causes sha256 (is_at state.place) (has_steps state.place) state c (held_there state)) e
gone_at_state state (commands.Assign c) turn keys opened opens e = told_at state.place (step sha256 state (commands.Assign c) turn) keys opened (assign_causes sha256 (is_at state.place) (has_steps state.place) state c (held_there state)) e
gone_at_state state (commands.Delete c) turn keys opened opens e = told_at state.place (step sha256 state (commands.Delete c) turn) keys opened (delete_causes sha256 (is_at state.place) (has_steps state.place) state c) e
gone_at_state state (commands.Commit c) turn keys opened opens e = absurd cc
gone_at_state state (commands.Merge c) turn keys opened opens e = absurd cc
gone_at_state state (commands.Transplant c) turn keys opened opens e = absurd cc

-- any other tells where it began
pub gone_at_draft : (state : State) (c : Command) (turn : Turn) (keys : List Key) (opened : ℕ) → opens_draft c ≡ true → step sha256 state c turn ≡ Err (Expired keys opened) → opened ≡ turn.opened
gone_at_draft state (commands.Create c) turn keys opened opens e = absurd cc
gone_at_draft state (commands.Assign c) turn keys opened opens e = absurd cc
gone_at_draft state (commands.Delete c) turn keys opened opens e = absurd cc
gone_at_draft state (commands.Commit c) turn keys opened opens e =
    told_at turn.opened (step sha256 state (commands.Commit c) turn) keys opened (commit_causes sha256 (is_at turn.opened) (has_steps turn.opened) state c turn.draft turn.moment) e
gone_at_draft state (commands.Merge m) turn keys opened opens e =
    told_at turn.opened (step sha256 state (commands.Merge m) turn) keys opened (merge_causes sha256 (is_at turn.opened) (has_steps turn.opened) state m turn.opened turn.moment (λ planned. held _ turn.opened)) e
gone_at_draft state (commands.Transplant t) turn keys opened opens e =
    told_at turn.opened (step sha256 state (commands.Transplant t) turn) keys opened (transplant_causes sha256 (is_at turn.opened) (has_steps turn.opened) state t turn.opened turn.moment (λ planned. held _ turn.opened)) e
