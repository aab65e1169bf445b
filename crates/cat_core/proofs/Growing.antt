-- Commits that stay, or have more above them.
use Rattle.std.proofs.Common.{◌≡◌, ℕ, ◌+◌, ◌-◌, List, [], ◌++◌, length, Result, Ok, Err, OnErr, OnOk, sym, ap, subst, ◌∙◌, arith}
use Rattle.std.proofs.lemmas.List.{length-append}
use Rattle.std.proofs.Math.Seq.{drop-append_seam}
use Rattle.cat_model.specs.Book.{Book}
use Rattle.cat_decisions.specs.declared.decision.Making.{Making}
use Rattle.cat_state.specs.Adding.{IsAbove}
use Rattle.cat_core.specs.declared.ledger.logging.Turn.{Turn}
use Rattle.cat_core.specs.Deciding.{made_book}
use Rattle.cat_core.specs.Making.{taking}

longer : {A : Type 0} (xs ys : List A) → length (xs ++ ys) - length ys ≡ length xs
longer xs ys = let more : length (xs ++ ys) ≡ length xs + length ys = length-append xs ys in omega (arith, more)

above_more : {A : Type 0} (xs ys : List A) → IsAbove ys (xs ++ ys)
above_more xs ys = rw (longer xs ys) (drop-append_seam xs ys)

-- a book that only takes a draft number
pub above_taking : (book after : Book) (draft : ℕ) → after ≡ taking book draft → IsAbove book.state.commits after.state.commits
above_taking book after draft e = subst (λ (b : Book). IsAbove book.state.commits b.state.commits) (sym e) (above_more [] book.state.commits)

-- a book that takes one, and then a change or none
pub above_made : {T E : Type 0} (book before after : Book) (turn : Turn) (m : Making) (result : Result T E) → before ≡ taking book turn.draft → OnOk result (after ≡ made_book before turn m) → OnErr result (after ≡ before) → IsAbove book.state.commits after.state.commits
above_made book before after turn m (Ok x) is ok err =
    let all : after ≡ made_book (taking book turn.draft) turn m = ok ∙ ap (λ (b : Book). made_book b turn m) is in
    subst (λ (b : Book). IsAbove book.state.commits b.state.commits) (sym all) (above_more m.change.additions.commits.list book.state.commits)
above_made book before after turn m (Err why) is ok err = above_taking book after turn.draft (err ∙ is)
