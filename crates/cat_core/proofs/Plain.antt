-- Refusals of reading calls.
use Rattle.std.proofs.Common.{◌≡◌, Some, Result, Err, refl, subst, ap}
use Rattle.sha2.specs.Sha256.{sha256}
use Rattle.cat_model.specs.declared.ask.Ask.{Ask}
use Rattle.cat_model.specs.declared.refusal.Refusal.{Refusal}
use Rattle.cat_model.specs.declared.refusal.Refusal.TheVariants.{BadRequest, RefNotFound, RefExists, ContentNotFound, Conflicts, Expired, RetriesSpent, SweepOpen, Limit, Collision, Fault, Down, NoMemory, NoRoute, WrongMethod, TooLarge, Encoding, OldFormat}
use Rattle.cat_model.specs.declared.refusal.Refused.{Refused}
use Rattle.cat_model.specs.Answer.{answer}
use Rattle.cat_model.specs.Book.{Book, Reads, ReadRefuses}
use Rattle.cat_model.specs.Calls.{told_at}
use Rattle.cat_state.specs.declared.failure.Failure.{Failure}
use Rattle.cat_state.specs.declared.failure.Failure.TheVariants as failures
use Rattle.cat_state.specs.Giving.{Fails}
use Rattle.cat_core.specs.PlainLaws.{IsOther, IsPlain, plain_of}
use Rattle.cat_core.specs.UsualLaws.{usual_answer}
use Rattle.cat_core.specs.Making.{refused_at}

read_by : (book : Book) (ask : Ask) (why : Refusal) (refused : Refused) → IsOther why → told_at book.state (answer sha256 book.state ask) ≡ Err refused → ReadRefuses sha256 book ask why refused
read_by book ask (BadRequest x) refused p e = e
read_by book ask RefNotFound refused p e = e
read_by book ask RefExists refused p e = e
read_by book ask (ContentNotFound x) refused p e = e
read_by book ask (Conflicts x) refused p e = e
read_by book ask (Expired x y) refused p e = e
read_by book ask (RetriesSpent x) refused p e = e
read_by book ask (SweepOpen x) refused p e = e
read_by book ask (Limit x y) refused p e = e
read_by book ask (Collision x y z) refused p e = e
read_by book ask Fault refused p e = e
read_by book ask (Down x) refused p e = e
read_by book ask NoMemory refused p e = absurd cc
read_by book ask NoRoute refused p e = e
read_by book ask (WrongMethod x) refused p e = e
read_by book ask TooLarge refused p e = e
read_by book ask Encoding refused p e = e
read_by book ask OldFormat refused p e = e

-- a refusal that the definition gives is told at the book's place
pub reads_refused : (book : Book) (ask : Ask) (why : Refusal) → answer sha256 book.state ask ≡ Err why → ReadRefuses sha256 book ask why (record { place = Some book.state.place; why = why })
reads_refused book ask why e =
    let other : IsOther why = subst (λ (r : Result _ Refusal). IsPlain r) e (plain_of _ (usual_answer book.state ask)) in
    read_by book ask why (record { place = Some book.state.place; why = why }) other (ap (told_at book.state) e)

-- what a reading call answers where it has no reply
pub reads_fails : (book : Book) (ask : Ask) (failure : Failure) → Fails failure (answer sha256 book.state ask) → Reads sha256 book ask (Err (refused_at book.state.place failure))
reads_fails book ask failures.NoMemory e = refl
reads_fails book ask (failures.Refused why) e = reads_refused book ask why e
