-- What entries that are legal from where a log starts tell: each sweep among them was opened since, and their drafts may come.
use Rattle.std.proofs.Common.{◌≡◌, List, [], ◌∷◌, length, true, ◌&&◌, ◌||◌, nat_eq, nat_le, ◌∙◌}
use Rattle.std.specs.List.{list_all, list_any}
use Rattle.std.proofs.lemmas.Bool.{leb-true}
use Rattle.cat_codes.specs.ListLaws.{and_true}
use Rattle.cat_model.specs.declared.log_entry.Action.{Action}
use Rattle.cat_model.specs.declared.log_entry.Action.TheVariants as actions
use Rattle.cat_model.specs.declared.log_entry.LogEntry.{LogEntry}
use Rattle.cat_model.specs.Book.{Book}
use Rattle.cat_model.specs.State.{Digest, is_known}
use Rattle.cat_model.specs.Turns.{Opened}
use Rattle.cat_checks.specs.AlikeBooks.{AreSweptFrom, IsSweptFrom}
use Rattle.cat_checks.specs.Histories.{AreFrom, AreLegal, after_entry}
use Rattle.cat_checks.specs.Legal.{draft_is_above, draft_is_new, has_its_draft, is_just, is_legal, may_be_done, most_patterns, replayed_call}

done_since : (digest : Digest) (book : Book) (action : Action) → may_be_done digest book action ≡ true → IsSweptFrom book.base.place action
done_since digest book (actions.Call command) may = tt
done_since digest book (actions.Sweep s) may =
    let one = nat_le book.base.place s.opened in
    let two = nat_le s.opened book.state.place in
    let three = list_all (is_known digest book.state) s.commits in
    let four = nat_le (length s.policy.cutoffs) most_patterns in
    leb-true book.base.place s.opened (and_true one two (and_true (one && two) three (and_true (one && two && three) four may).0).0).0

legal_done : (digest : Digest) (book : Book) (entry : LogEntry) → is_legal digest book entry ≡ true → may_be_done digest book entry.action ≡ true
unfolding is_legal
legal_done digest book entry legal =
    let done = may_be_done digest book entry.action in
    let drafted = has_its_draft entry in
    let new = draft_is_new book.log entry.draft in
    (and_true done drafted (and_true (done && drafted) new (and_true (done && drafted && new) (is_just digest entry (replayed_call digest book entry).logged) legal).0).0).0

-- each sweep among legal entries was opened at the book's base or later
pub legal_since : (digest : Digest) (book : Book) (entries : List LogEntry) → AreLegal digest book entries → AreSweptFrom book.base.place entries
legal_since digest book [] legal = tt
legal_since digest book (e ∷ entries) legal = (done_since digest book e.action (legal_done digest book e legal.0.legal), legal_since digest (after_entry digest book e) entries legal.1)

-- drafts may come where the same numbers were taken and open before
pub from_alike : (a b : Opened) (entries : List LogEntry) → b.draft ≡ a.draft → b.drafts ≡ a.drafts → AreFrom a entries → AreFrom b entries
from_alike a b [] draft drafts are = tt
from_alike a b (e ∷ entries) draft drafts are = ((λ i. draft_is_above (draft i) e.draft || list_any (nat_eq e.draft) (drafts i)) ∙ are.0, from_alike a b entries draft drafts are.1)
