-- A sweep that isn't made: for want of room, or of memory.
use Rattle.std.proofs.Common.{◌≡◌, ℕ, ◌+◌, length, nat_lt, nat_le, Err, refl, sym, ap, subst, arith}
use Rattle.sha2.specs.Sha256.{sha256}
use Rattle.cat_model.specs.declared.limits.Quantity.TheVariants as quantities
use Rattle.cat_model.specs.declared.refusal.Refusal.{Refusal}
use Rattle.cat_model.specs.declared.refusal.Refusal.TheVariants.{Limit}
use Rattle.cat_model.specs.declared.sweep.Sweep.{Sweep}
use Rattle.cat_model.specs.Book.{Book, after_call}
use Rattle.cat_model.specs.Calls.{Called}
use Rattle.cat_model.specs.Moves.{needs_log}
use Rattle.cat_model.specs.Past.{past_of}
use Rattle.cat_model.specs.Refusing.{Tested, needs_at_most}
use Rattle.cat_model.specs.State.{State}
use Rattle.cat_model.specs.Sweeps.{needs_sweep_room, step_sweep, sweep_call}
use Rattle.cat_state.specs.declared.failure.Failure.TheVariants as failures
use Rattle.cat_state.specs.declared.unmade.Unmade.TheVariants.{Failed}
use Rattle.cat_core.specs.Making.{Runs}
use Rattle.cat_core.specs.PlainLaws.{IsPlain, plain_bind, plain_needs}
use Rattle.cat_core.specs.Sweeps.{sweep_on}
use Rattle.cat_core.proofs.Removing.{refused_is, swept_draft}

-- memory ran out
pub spared_runs : (caller moment : ℕ) (book : Book) (s : Sweep) → Runs (sweep_on caller book moment s) book book (Err (Failed failures.NoMemory))
unfolding sweep_call
spared_runs caller moment book s =
    let own : (sweep_on caller book moment s).draft ≡ book.draft = swept_draft caller book.state book.draft moment s (step_sweep book.state (past_of sha256 book) s) in
    record { state = refl; log = refl; base = refl; kept = omega arith; taken = omega (arith, own) }

-- want of room is a limit
room_plain : (state : State) (count : ℕ) → IsPlain (needs_sweep_room state count)
unfolding needs_sweep_room
room_plain state count =
    plain_bind (needs_log state) (λ _. needs_at_most count state.limits.names quantities.Names)
    (plain_needs (nat_lt state.place state.limits.log) (Limit quantities.Log state.limits.log) refl)
    (λ _. plain_needs (nat_le count state.limits.names) (Limit quantities.Names state.limits.names) refl)

-- there is no room
pub refused_runs : (caller moment : ℕ) (book : Book) (s : Sweep) (why : Refusal) → needs_sweep_room book.state (length s.commits + length s.contents) ≡ Err why → Runs (sweep_on caller book moment s) book book (Err (Failed (failures.Refused why)))
refused_runs caller moment book s why is =
    let called = refused_is caller moment book s why is in (
      subst (λ (t : Tested). IsPlain t) is (room_plain book.state (length s.commits + length s.contents)),
      record { said = ap (λ (c : Called). c.said) called; book = sym (ap (after_call book) called) },
    )
