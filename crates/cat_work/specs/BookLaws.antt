-- Laws of the book of a store and the book that the pass of its desk has seen.
use Rattle.std.proofs.Common.{◌≡◌, ℕ, List, [], reverse, sym, ◌∙◌, ap, ap₂, subst}
use Rattle.std.proofs.lemmas.List.{append-nil, reverse-reverse}
use Rattle.cat_checks.specs.Histories.{IsLegalFrom, book_at}
use Rattle.cat_core.specs.Stored.{Stored, log_of, opened_of}
use Rattle.cat_desk.specs.Pass.{DeskId, IsFree, left_by, mark_of, seen}
use Rattle.cat_desk.specs.declared.pass.Pass.{Pass}
use Rattle.cat_model.specs.declared.log_entry.LogEntry.{LogEntry}
use Rattle.cat_model.specs.Book.{Book}
use Rattle.cat_model.specs.Drafts.{nothing_open}
use Rattle.cat_model.specs.Mark.{Mark}
use Rattle.cat_model.specs.State.{State}
use Rattle.cat_model.specs.Turns.{Opened}
use Rattle.cat_work.specs.Passes.{IsReady, book_of}

-- a desk and a pass as a store begins or ends on them
pub record IsOn {K : Type 0} (store : Stored K) (desk : DeskId) (pass : Pass) : Type 0 where
  pub opened : desk.opened ≡ opened_of store
  pub seen_is : seen pass ≡ log_of store
  pub mark_is : mark_of pass ≡ store.mark

book_by : (book : Book) (state : State) (draft : ℕ) (log : List LogEntry) (base : State) → state ≡ book.state → draft ≡ book.draft → log ≡ book.log → base ≡ book.base → record { state = state; draft = draft; log = log; base = base } ≡ book
book_by book state draft log base p q r s = λ i. record { state = p i; draft = q i; log = r i; base = s i }

pub same_book : {K : Type 0} (store : Stored K) (desk : DeskId) (pass : Pass) → IsOn store desk pass → (book_at (opened_of store) (log_of store)).state ≡ store.book.state → store.mark.draft ≡ store.book.draft
    → store.book.base ≡ (opened_of store).state → book_of desk pass ≡ store.book
same_book store desk pass on led draft base =
    book_by store.book _ _ _ _
    (ap₂ (λ (o : Opened) (l : List LogEntry). (book_at o l).state) on.opened on.seen_is ∙ led)
    (ap (λ (m : Mark). m.draft) on.mark_is ∙ draft)
    (ap reverse on.seen_is ∙ reverse-reverse store.book.log)
    (ap (λ (o : Opened). o.state) on.opened ∙ sym base)

pub is_ready : {K : Type 0} (store : Stored K) (desk : DeskId) (pass : Pass) → IsOn store desk pass → desk.begun ≡ log_of store → IsFree desk pass → left_by pass ≡ nothing_open → IsLegalFrom (opened_of store) (log_of store) → IsReady desk pass
is_ready store desk pass on begun free none legal = record {
  free = free;
  none = none;
  legal = subst (λ (x : Opened × List LogEntry). IsLegalFrom x.0 x.1) (λ i. (sym on.opened i, sym on.seen_is i)) legal;
  starts = ([], on.seen_is ∙ sym begun ∙ sym (append-nil desk.begun));
}
