-- From what a source and a sink tell to the first point of a session.
use Rattle.std.proofs.Common.{◌≡◌, ℕ, List, ◌++◌, take, Option, Some, None, Result, Ok, Err, refl, ap, ◌∙◌, inl, inr}
use Rattle.cat_http.specs.Writing.{Wrote}
use Rattle.cat_model.specs.Book.{Book}
use Rattle.cat_model.specs.Mark.{Mark}
use Rattle.cat_model.specs.Turns.{Opened}
use Rattle.cat_desk.specs.Pass.{DeskId, all_left_by, mark_of, number_of}
use Rattle.cat_model.specs.Drafts.{nothing_open}
use Rattle.cat_desk.specs.declared.pass.Pass.{Pass}
use Rattle.cat_work.specs.Passes.{IsAlone, IsReady, book_of}
use Rattle.cat_cli.specs.Runs.{IsTold, start}
use Rattle.cat_serve.specs.Sessions.{Stands, journal_by, seen_failed}
use Rattle.cat_serve.proofs.Told.{appended}

-- the first pass of a desk whose store's appends have all succeeded stands at the start of a session
pub started : (desk : DeskId) (pass : Pass) (o : Opened) (book : Book) (mark : Mark) (bytes held : Option (List ℕ)) (b w : List ℕ)
    → desk.opened ≡ o → IsReady desk pass → IsAlone pass → number_of pass ≡ 1 → book_of desk pass ≡ book → mark_of pass ≡ mark → mark.fault ≡ None → all_left_by pass ≡ nothing_open
    → bytes ≡ Some b → held ≡ Some w → Stands desk (start (journal_by o mark) book b w) pass bytes held
started desk pass o book mark bytes held b w opened ready alone number book_is mark_is up rests e f = record {
  pass_at = record {
    ready = ready;
    alone = alone;
    number = number;
    book_is = book_is;
    fault_is = ap seen_failed (ap (λ (x : Mark). x.fault) mark_is ∙ up);
    journal_is = λ i. journal_by (opened i) (mark_is i);
    rests = rests;
  };
  bytes_are = e;
  held_is = f;
}

-- a line was written, or a front of it
pub told_line : {T E : Type 0} (old new : Option (List ℕ)) (before now : ℕ) (r : Result T E) (line w : List ℕ) → Wrote old new before now r line → old ≡ Some w
    → (h : List ℕ) × (new ≡ Some h) × IsTold line w h before now
told_line old new before now (Ok x) line w p e = (w ++ line, appended old new w line e p.ok, inl refl)
told_line old new before now (Err x) line w p e = (w ++ take p.front.0 line, appended old new w _ e p.front.1, inr (p.front.0, refl, p.fault))
