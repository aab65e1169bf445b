-- What a call leaves, unless memory runs out.
use Rattle.std.proofs.Common.{◌≡◌, ℕ, Option, Result, Ok, Err, refl, subst}
use Rattle.sha2.specs.Sha256.{sha256}
use Rattle.cat_model.specs.declared.command.Command.{Command}
use Rattle.cat_model.specs.declared.refusal.Refusal.{Refusal}
use Rattle.cat_model.specs.declared.refusal.Refusal.TheVariants.{Down, Fault, NoMemory, RetriesSpent}
use Rattle.cat_model.specs.declared.refusal.Refused.{Refused}
use Rattle.cat_model.specs.declared.reply.Told.{Told}
use Rattle.cat_model.specs.Calls.{Called}
use Rattle.cat_model.specs.Book.{Book, after_call, call_on}
use Rattle.cat_model.specs.Mark.{FailedAppend}
use Rattle.cat_work.specs.Answers.{AnswersAlone, RefusesAlone}
use Rattle.cat_drill.specs.Drill.{after_command}

by_cause : (n : ℕ) (called : Called) (before after : Book) (f f' : Option FailedAppend) (place : Option ℕ) (why : Refusal) → (why ≡ NoMemory → ⊥) → (why ≡ Fault → ⊥) → ((count : ℕ) → why ≡ Down count → ⊥)
    → RefusesAlone n called before after f f' (record { place = place; why = why }) why → after ≡ after_call before called
by_cause n called before after f f' place NoMemory other kept up p = absurd (other refl)
by_cause n called before after f f' place Fault other kept up p = absurd (kept refl)
by_cause n called before after f f' place (Down count) other kept up p = absurd (up count refl)
by_cause n called before after f f' place (RetriesSpent pairs) other kept up p = absurd p
by_cause n called before after f f' place why other kept up p = p.0.book

refused_book : (n : ℕ) (called : Called) (before after : Book) (f f' : Option FailedAppend) (refused : Refused) → (refused.why ≡ NoMemory → ⊥) → (refused.why ≡ Fault → ⊥) → ((count : ℕ) → refused.why ≡ Down count → ⊥)
    → AnswersAlone n called before after f f' (Err refused) → after ≡ after_call before called
refused_book n called before after f f' refused other kept up p = by_cause n called before after f f' refused.place refused.why other kept up p

told_book : (n : ℕ) (called : Called) (before after : Book) (f f' : Option FailedAppend) (told : Told) → AnswersAlone n called before after f f' (Ok told) → after ≡ after_call before called
told_book n called before after f f' told p = p.0.book

-- what a call of the first caller leaves
by_first : (n : ℕ) (command : Command) (moment : ℕ) (b b' : Book) (f f' : Option FailedAppend) (result : Result Told Refused) → n ≡ 1 → AnswersAlone n (call_on sha256 n b command moment) b b' f f' result
    → AnswersAlone 1 (call_on sha256 1 b command moment) b b' f f' result
by_first n command moment b b' f f' result one a = subst (λ (k : ℕ). AnswersAlone k (call_on sha256 k b command moment) b b' f f' result) one a

pub told_made : (n : ℕ) (command : Command) (moment : ℕ) (b b' : Book) (f f' : Option FailedAppend) (told : Told) → n ≡ 1 → AnswersAlone n (call_on sha256 n b command moment) b b' f f' (Ok told) → b' ≡ after_command command moment b
unfolding after_command
told_made n command moment b b' f f' told one a = told_book 1 (call_on sha256 1 b command moment) b b' f f' told (by_first n command moment b b' f f' (Ok told) one a)

pub refused_made : (n : ℕ) (command : Command) (moment : ℕ) (b b' : Book) (f f' : Option FailedAppend) (refused : Refused) → n ≡ 1 → (refused.why ≡ NoMemory → ⊥) → (refused.why ≡ Fault → ⊥) → ((count : ℕ) → refused.why ≡ Down count → ⊥)
    → AnswersAlone n (call_on sha256 n b command moment) b b' f f' (Err refused) → b' ≡ after_command command moment b
unfolding after_command
refused_made n command moment b b' f f' refused one other kept up a =
    refused_book 1 (call_on sha256 1 b command moment) b b' f f' refused other kept up (by_first n command moment b b' f f' (Err refused) one a)
