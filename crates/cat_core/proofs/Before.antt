-- Tests that refuse a call before its draft is opened.
use Rattle.std.proofs.Common.{◌≡◌, ℕ, Some, Ok, Err, Bool, true, false, not, refl}
use Rattle.sha2.specs.Sha256.{sha256}
use Rattle.cat_model.specs.declared.command.Command.{Command}
use Rattle.cat_model.specs.declared.refusal.Refusal.{Refusal}
use Rattle.cat_model.specs.declared.refusal.Refusal.TheVariants.{Limit}
use Rattle.cat_model.specs.Book.{Book, IsCalled, attempt_on}
use Rattle.cat_model.specs.Calls.{attempt, in_draft, needs_draft}
use Rattle.cat_model.specs.CauseLaws.{Causes, HasEarly, opening_causes}
use Rattle.cat_model.specs.Refusing.{Tested}
use Rattle.cat_model.specs.State.{State}
use Rattle.cat_model.specs.Step.{opening}
use Rattle.cat_core.specs.Drafts.{is_expired, may_open}
use Rattle.cat_core.specs.PlainLaws.{IsOther, IsPlain, plain_bind, plain_needs, plain_of}
use Rattle.cat_core.specs.UsualLaws.{usual_opening}

-- ---- no test refuses for want of memory or a fault

other_by : (tests : Tested) (why : Refusal) → IsPlain tests → tests ≡ Err why → IsOther why
other_by (Ok u) why plain e = absurd cc
other_by (Err w) why plain e = let same : w ≡ why = cc in rw (← same) plain

pub opening_other : (state : State) (command : Command) (why : Refusal) → opening sha256 state command ≡ Err why → IsOther why
opening_other state command why refused = other_by (opening sha256 state command) why (plain_of _ (usual_opening state command)) refused

pub open_other : (book : Book) (command : Command) (why : Refusal) → may_open book command ≡ Err why → IsOther why
open_other book command why refused =
    other_by (may_open book command) why (plain_bind (opening sha256 book.state command) (λ _. needs_draft book.state book.draft true) (plain_of _ (usual_opening book.state command)) (λ u. plain_needs _ (Limit _ _) refl)) refused

-- ---- nor for contents that are gone

abbrev is_there : Refusal → Bool
is_there why = not (is_expired why)

there_early : HasEarly is_there
there_early = record { bad = λ reason. refl; missing = refl }

not_so : (b : Bool) → not b ≡ true → b ≡ false
not_so true e = absurd cc
not_so false e = refl

there_by : (tests : Tested) (why : Refusal) → Causes is_there tests → tests ≡ Err why → is_expired why ≡ false
there_by (Ok u) why causes e = absurd cc
there_by (Err w) why causes e = let same : w ≡ why = cc in rw (← same) (not_so (is_expired w) causes)

pub opening_there : (state : State) (command : Command) (why : Refusal) → opening sha256 state command ≡ Err why → is_expired why ≡ false
opening_there state command why refused = there_by (opening sha256 state command) why (opening_causes sha256 is_there there_early state command) refused

-- ---- what the call brings

pub tests_refuse : (book : Book) (caller moment number place : ℕ) (command : Command) (why : Refusal) → opening sha256 book.state command ≡ Err why
    → IsCalled (attempt_on sha256 book (in_draft caller moment number place) command) book book (Err (record { place = Some book.state.place; why = why }))
unfolding attempt
tests_refuse book caller moment number place command why refused = record { said = rw refused refl; book = rw refused refl }
