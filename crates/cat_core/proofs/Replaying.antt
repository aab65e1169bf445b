-- Payloads that lead from book to book, one more at a time.
use Rattle.std.proofs.Common.{◌≡◌, ℕ, ◌+◌, List, [], ◌∷◌, ◌++◌, length, Option, Some, None, Result, Ok, Err, refl, arith}
use Rattle.cat_codes.specs.Code.{whole}
use Rattle.cat_frames.specs.Entries.{log_entry_code}
use Rattle.cat_model.specs.Book.{Book}
use Rattle.cat_model.specs.Refusing.{◌>>=◌}
use Rattle.cat_model.specs.State.{Digest}
use Rattle.cat_model.specs.Turns.{Opened}
use Rattle.cat_checks.specs.Legal.{or_at, read_next, replayed}

-- what led to a book led to one before
pub led_by : (o : Option Book) (place : ℕ) (f : Book → Result Book ℕ) (after : Book) → (or_at place o >>= f) ≡ Ok after → (next : Book) × (o ≡ Some next) × (f next ≡ Ok after)
led_by None place f after e = absurd cc
led_by (Some next) place f after e = (next, refl, e)

pub here_is : (book after : Book) (other : Result Book ℕ) → other ≡ Ok book → other ≡ Ok after → book ≡ after
here_is book after other a b = cc

module _ (digest : Digest) (o : Opened) (p : List ℕ) where
  abbrev reading : Book → List ℕ → Option Book
  reading book bytes = read_next digest o book (whole (log_entry_code digest) bytes)

  -- with one payload more, the book goes on from where the others led
  pub goes_on : (book after next : Book) (place : ℕ) (ps : List (List ℕ)) → replayed digest o book place ps ≡ Ok after → read_next digest o after (whole (log_entry_code digest) p) ≡ Some next
      → replayed digest o book place (ps ++ p ∷ []) ≡ Ok next
  goes_on book after next place [] e step = let same : book ≡ after = here_is book after (Ok book) refl e in rw (same, step) refl
  goes_on book after next place (q ∷ ps) e step =
      let one = led_by (reading book q) (place + 1) (λ b. replayed digest o b (place + 1) ps) after e in
      rw one.1 (goes_on one.0 after next (place + 1) ps one.2 step)

  -- a payload that leads to no book is the place of the whole, whatever follows it
  pub refused_at : (book after : Book) (place at : ℕ) (ps more : List (List ℕ)) → replayed digest o book place ps ≡ Ok after → read_next digest o after (whole (log_entry_code digest) p) ≡ None
      → place + length ps + 1 ≡ at → replayed digest o book place (ps ++ p ∷ more) ≡ Err at
  refused_at book after place at [] more e step n =
      let same : book ≡ after = here_is book after (Ok book) refl e in
      let number : place + 1 ≡ at = omega (arith, n) in
      rw (same, step, number) refl
  refused_at book after place at (q ∷ ps) more e step n =
      let one = led_by (reading book q) (place + 1) (λ b. replayed digest o b (place + 1) ps) after e in
      rw one.1 (refused_at one.0 after (place + 1) at ps more one.2 step (omega (arith, n)))
