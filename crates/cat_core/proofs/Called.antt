-- What a call brings in its turn, by the outcome of its step.
use Rattle.std.proofs.Common.{◌≡◌, ℕ, ◌+◌, max, [], ◌∷◌, Ok, Err, Result, Bool, true, false, if◌then◌else◌, nat_lt, refl, sym, ap, subst, ◌∙◌, arith}
use Rattle.std.proofs.lemmas.Bool.Decides.{nat_tests}
use Rattle.std.proofs.Math.Nat.{le-max_left}
use Rattle.sha2.specs.Sha256.{sha256}
use Rattle.cat_model.specs.declared.command.Command.{Command}
use Rattle.cat_model.specs.declared.refusal.Refusal.{Refusal}
use Rattle.cat_model.specs.declared.reply.Reply.{Reply}
use Rattle.cat_model.specs.declared.reply.Told.{Told}
use Rattle.cat_model.specs.Book.{Book, IsCalled}
use Rattle.cat_model.specs.Calls.{Called, entry_made, stepped, unchanged_by}
use Rattle.cat_model.specs.State.{State}
use Rattle.cat_model.specs.Refusing.{Outcome}
use Rattle.cat_model.specs.Step as steps
use Rattle.cat_model.specs.Step.{logged_command, head_left}
use Rattle.cat_state.specs.declared.failure.Failure.{Failure}
use Rattle.cat_state.specs.declared.failure.Failure.TheVariants as failures
use Rattle.cat_state.specs.Giving.{Fails}
use Rattle.cat_core.specs.PlainLaws.{IsOther, IsPlain, plain_of}
use Rattle.cat_core.specs.UsualLaws.{usual_step}
use Rattle.cat_core.specs.declared.ledger.logging.Turn.{Turn}
use Rattle.cat_core.specs.Turns.{begun, turned, turned_step}
use Rattle.cat_state.specs.declared.unmade.Unmade.TheVariants.{Failed}
use Rattle.cat_core.specs.Making.{IsNotKept, IsSpared, Runs, entry_at, taking, with_entry}

other : {A : Type 0} (r : Result A Refusal) (why : Refusal) → IsPlain r → r ≡ Err why → IsOther why
other r why p e = subst (λ (x : Result _ Refusal). IsPlain x) e p

more_is : (n : ℕ) → nat_lt n (n + 1) ≡ true
more_is n = grind (arith, nat_tests)

same_is : (n : ℕ) → nat_lt n n ≡ false
same_is n = grind (arith, nat_tests)

-- ---- in the turn

draft_by : (b : Bool) (x y : Called) (draft : ℕ) → x.draft ≡ draft → y.draft ≡ draft → (if b then x else y).draft ≡ draft
draft_by true x y draft p q = p
draft_by false x y draft p q = q

draft_of : (caller : ℕ) (state : State) (draft : ℕ) (command : Command) (turn : steps.Turn) (outcome : Outcome) → (stepped sha256 caller state draft command turn outcome).draft ≡ draft
draft_of caller state draft command turn (Err why) = refl
draft_of caller state draft command turn (Ok (after, reply)) = draft_by (nat_lt state.place after.place) _ (unchanged_by state draft (Ok reply)) draft refl refl

-- the last draft number is the greatest
turned_draft : (book : Book) (turn : Turn) (command : Command) → (turned book turn command).draft ≡ max book.draft turn.draft
turned_draft book turn command = draft_of turn.caller book.state (max book.draft turn.draft) command (begun turn) (turned_step book turn command)

-- no step refuses for want of memory or a fault
plain : (book : Book) (turn : Turn) (command : Command) → IsPlain (turned_step book turn command)
plain book turn command = plain_of _ (usual_step book.state command (begun turn))

step_refused : (book : Book) (turn : Turn) (command : Command) (why : Refusal) → turned_step book turn command ≡ Err why → Runs (turned book turn command) book (taking book turn.draft) (Err (Failed (failures.Refused why)))
step_refused book turn command why s = (other _ why (plain book turn command) s, record { said = rw s refl; book = rw s refl })

spared : (book : Book) (turn : Turn) (command : Command) → IsSpared (turned book turn command) book (taking book turn.draft)
spared book turn command = record { state = refl; log = refl; base = refl; kept = le-max_left book.draft turn.draft; taken = omega (arith, turned_draft book turn command) }

failed : (book : Book) (turn : Turn) (command : Command) (failure : Failure) → Fails failure (turned_step book turn command) → Runs (turned book turn command) book (taking book turn.draft) (Err (Failed failure))
failed book turn command failures.NoMemory s = spared book turn command
failed book turn command (failures.Refused why) s = step_refused book turn command why s

-- memory ran out, and its draft number is taken
pub no_memory : (book after : Book) (turn : Turn) (command : Command) → after ≡ taking book turn.draft → Runs (turned book turn command) book after (Err (Failed failures.NoMemory))
no_memory book after turn command t = subst (λ (b : Book). IsSpared (turned book turn command) book b) (sym t) (spared book turn command)

-- the step has no answer; its draft number is taken
pub step_fails : (book after : Book) (turn : Turn) (command : Command) (failure : Failure) → after ≡ taking book turn.draft → Fails failure (turned_step book turn command) → Runs (turned book turn command) book after (Err (Failed failure))
step_fails book after turn command failure t s = subst (λ (b : Book). Runs (turned book turn command) book b (Err (Failed failure))) (sym t) (failed book turn command failure s)

-- ---- the step is accepted

pub accepted : (book : Book) (turn : Turn) (command : Command) (after : State) (reply : Reply) → turned_step book turn command ≡ Ok (after, reply) → after.place ≡ book.state.place + 1
    → IsCalled (turned book turn command) book (with_entry (taking book turn.draft) after (entry_at book turn (logged_command sha256 turn.draft command) (head_left command reply))) (Ok (record { place = book.state.place + 1; reply = reply }))
unfolding entry_made
accepted book turn command after reply s p = record { said = rw (s, p, more_is book.state.place) refl; book = rw (s, p, more_is book.state.place) refl }

-- the entry of a step that is accepted
pub turned_logs : (book : Book) (turn : Turn) (command : Command) (after : State) (reply : Reply) → turned_step book turn command ≡ Ok (after, reply) → after.place ≡ book.state.place + 1
    → (turned book turn command).logged ≡ entry_at book turn (logged_command sha256 turn.draft command) (head_left command reply) ∷ []
unfolding entry_made
turned_logs book turn command after reply s p = rw (s, p, more_is book.state.place) refl

-- its entry isn't kept
pub step_not_kept : (book after : Book) (turn : Turn) (command : Command) (next : State) (reply : Reply) → turned_step book turn command ≡ Ok (next, reply) → next.place ≡ book.state.place + 1 → after ≡ taking book turn.draft → IsNotKept (turned book turn command) book after
step_not_kept book after turn command next reply s p t = record {
  entry = entry_at book turn (logged_command sha256 turn.draft command) (head_left command reply);
  logged = turned_logs book turn command next reply s p;
  state = ap (λ (b : Book). b.state) t;
  log = ap (λ (b : Book). b.log) t;
  base = ap (λ (b : Book). b.base) t;
  draft = ap (λ (b : Book). b.draft) t ∙ sym (turned_draft book turn command);
}

-- ---- it is accepted without a change

-- it logs nothing
pub none_logged : (book : Book) (turn : Turn) (command : Command) (reply : Reply) → turned_step book turn command ≡ Ok (book.state, reply) → (turned book turn command).logged ≡ []
none_logged book turn command reply s = rw (s, same_is book.state.place) refl

unchanged : (book : Book) (turn : Turn) (command : Command) (reply : Reply) → turned_step book turn command ≡ Ok (book.state, reply)
    → IsCalled (turned book turn command) book (taking book turn.draft) (Ok (record { place = book.state.place; reply = reply }))
unchanged book turn command reply s = record { said = rw (s, same_is book.state.place) refl; book = rw (s, same_is book.state.place) refl }

-- its draft number is taken
pub step_unchanged : (book after : Book) (turn : Turn) (command : Command) (reply : Reply) (told : Told) → turned_step book turn command ≡ Ok (book.state, reply)
    → after ≡ taking book turn.draft → told ≡ record { place = after.state.place; reply = reply } → IsCalled (turned book turn command) book after (Ok told)
step_unchanged book after turn command reply told s t is =
    let here : told ≡ record { place = book.state.place; reply = reply } = is ∙ ap (λ (b : Book). let x : Told = record { place = b.state.place; reply = reply } in x) t in
    subst (λ (x : Told). IsCalled (turned book turn command) book after (Ok x)) (sym here)
    (subst (λ (b : Book). IsCalled (turned book turn command) book b (Ok (record { place = book.state.place; reply = reply }))) (sym t) (unchanged book turn command reply s))
