-- Contents that are gone where a draft is settled, by the log of its desk.
use Rattle.std.proofs.Common.{◌≡◌, ◌≤◌, ℕ, List, Ok, reverse, sym, ap, subst, ◌∙◌}
use Rattle.std.proofs.lemmas.List.{append-nil}
use Rattle.sha2.specs.Sha256.{sha256}
use Rattle.cat_names.specs.Fields.{Key}
use Rattle.cat_names.specs.declared.hash.Hash.{Hash}
use Rattle.cat_model.specs.declared.command.Command.{Command}
use Rattle.cat_model.specs.declared.log_entry.LogEntry.{LogEntry}
use Rattle.cat_model.specs.declared.refusal.Refusal.TheVariants.{Expired, NoMemory}
use Rattle.cat_model.specs.declared.refusal.Refused.{Refused}
use Rattle.cat_model.specs.Book.{Book}
use Rattle.cat_model.specs.KeySets.{key_set}
use Rattle.cat_model.specs.Past.{course, past_of}
use Rattle.cat_model.specs.State.{State}
use Rattle.cat_model.specs.Step.{opening}
use Rattle.cat_model.specs.Sweeps.{since}
use Rattle.cat_checks.specs.Histories.{begun, book_at}
use Rattle.cat_checks.specs.HistoryLaws.{base_stays, log_is}
use Rattle.cat_decisions.specs.declared.building.Built.{Built}
use Rattle.cat_decisions.specs.Builds.{HasHead}
use Rattle.cat_core.specs.declared.draft.Draft.{Draft}
use Rattle.cat_core.specs.declared.draft.Settled.TheVariants as settled
use Rattle.cat_core.specs.Drafts.{IsSettledOn, command_in}
use Rattle.cat_core.specs.Gone.{TellsGone, never_held, set_upon}
use Rattle.cat_core.specs.Lasting.{states_since}
use Rattle.cat_core.specs.Stored.{IsUp, Stored}
use Rattle.cat_desk.specs.Pass.{DeskId, seen}
use Rattle.cat_desk.specs.declared.pass.Pass.{Pass}
use Rattle.cat_work.specs.Answers.{AreGoneSince}
use Rattle.cat_work.specs.Passes.{book_of, state_of}
use Rattle.cat_work.specs.TurnLaws.{Left}

-- ---- in a book

-- the keys are those of the entries set upon the branch's head whose content is in no state of the book from the place on, which isn't after its own
pub record AreGoneIn (book : Book) (c : Command) (place : ℕ) (keys : List Key) : Type 0 where
  pub within : place ≤ book.state.place
  pub head : Hash
  pub has : HasHead book.state c head
  pub never : keys ≡ key_set (never_held (states_since book place) (set_upon book.state c head))

-- what a settling tells of contents that are gone, upon the head that the branch was found to have
pub gone_in : {K : Type 0} (s : Stored K) (d : Draft) (built : Built) (r : Refused) (keys : List Key) (opened : ℕ) → IsUp s → opening sha256 s.book.state (command_in d) ≡ Ok tt → r.why ≡ Expired keys opened → IsSettledOn s d built r → TellsGone s d built.head (settled.Refused r) → d.place ≤ s.book.state.place
    → AreGoneIn s.book (command_in d) opened keys
gone_in s d built r keys opened up passes gone on tells early =
    let told = tells keys opened gone in
    record {
      within = subst (λ (place : ℕ). place ≤ s.book.state.place) (sym told.opened) early;
      head = built.head;
      has = on up passes (λ spare. absurd (let wrong : Expired keys opened ≡ NoMemory = sym gone ∙ spare in cc));
      never = told.never ∙ ap (λ (place : ℕ). key_set (never_held (states_since s.book place) (set_upon s.book.state (command_in d) built.head))) (sym told.opened);
    }

-- ---- after a log of the desk

-- a book as the log of the desk leads to it
pub record StoodAt (desk : DeskId) (log : List LogEntry) (book : Book) : Type 0 where
  pub state_is : state_of desk log ≡ book.state
  pub entries_are : reverse log ≡ book.log
  pub base_is : desk.opened.state ≡ book.base

pub stood_at : {K : Type 0} (desk : DeskId) (next : Pass) (s s' : Stored K) → Left desk next s' → s'.book ≡ s.book → StoodAt desk (seen next) s.book
stood_at desk next s s' left same =
    let book : book_of desk next ≡ s.book = left.book_is ∙ same in
    record { state_is = ap (λ (b : Book). b.state) book; entries_are = ap (λ (b : Book). b.log) book; base_is = ap (λ (b : Book). b.base) book }

-- such a book was led through the states that the log leads through
states_are : (desk : DeskId) (log : List LogEntry) (book : Book) (place : ℕ) → StoodAt desk log book → states_since (book_at desk.opened log) place ≡ states_since book place
unfolding past_of
states_are desk log book place stood =
    let base : (book_at desk.opened log).base ≡ book.base = base_stays sha256 (begun desk.opened) log ∙ stood.base_is in
    let entries : (book_at desk.opened log).log ≡ book.log = log_is sha256 (begun desk.opened) log ∙ append-nil (reverse log) ∙ stood.entries_are in
    λ i. since place (stood.state_is i) (course sha256 (base i) (entries i)).past

pub gone_after : (desk : DeskId) (log : List LogEntry) (book : Book) (c : Command) (place : ℕ) (keys : List Key) → StoodAt desk log book → AreGoneIn book c place keys → AreGoneSince desk c log place keys
gone_after desk log book c place keys stood gone =
    let states : states_since book place ≡ states_since (book_at desk.opened log) place = sym (states_are desk log book place stood) in
    let state : book.state ≡ state_of desk log = sym stood.state_is in
    record {
      within = subst (λ (x : State). place ≤ x.place) state gone.within;
      head = gone.head;
      has = subst (λ (x : State). HasHead x c gone.head) state gone.has;
      never = gone.never ∙ (λ i. key_set (never_held (states i) (set_upon (state i) c gone.head)));
    }
