-- What an attempt that ends the call comes to.
use Rattle.std.proofs.Common.{◌≡◌, ◌<◌, ◌≤◌, ◌⊎◌, inl, inr, ℕ, ◌+◌, List, [], ◌∷◌, reverse, Some, None, Result, Ok, Err, Bool, true, false, refl, sym, ap, subst, ◌∙◌, arith}
use Rattle.sha2.specs.Sha256.{sha256}
use Rattle.cat_decisions.specs.declared.building.Built.{Built}
use Rattle.cat_decisions.specs.Builds.{IsBuilt}
use Rattle.cat_checks.specs.Histories.{IsLegalFrom}
use Rattle.cat_core.specs.Drafts.{Expires, Refuses, called_in, closed, command_in, open_draft_of, opening_in, without}
use Rattle.cat_core.specs.Stored as stored
use Rattle.cat_core.specs.Stored.{Stored, log_of}
use Rattle.cat_core.specs.declared.draft.Draft.{Draft}
use Rattle.cat_core.specs.declared.draft.Settled.TheVariants as settled
use Rattle.cat_desk.specs.Log.{Follows}
use Rattle.cat_desk.specs.Pass.{DeskId, all_left_by, known, left_by, mark_of, number_of, seen}
use Rattle.cat_desk.specs.declared.pass.Pass.{Pass}
use Rattle.cat_model.specs.declared.command.Command.{Command}
use Rattle.cat_model.specs.declared.log_entry.LogEntry.{LogEntry}
use Rattle.cat_model.specs.declared.refusal.Refusal.{Refusal}
use Rattle.cat_model.specs.declared.refusal.Refusal.TheVariants as refusals
use Rattle.cat_model.specs.declared.refusal.Refused.{Refused}
use Rattle.cat_model.specs.declared.reply.Told.{Told}
use Rattle.cat_model.specs.Book.{Book, attempt_on, call_on}
use Rattle.cat_model.specs.Calls.{Called, in_draft}
use Rattle.cat_model.specs.Drafts.{Open, nothing_open, open_of}
use Rattle.cat_model.specs.Mark.{Mark}
use Rattle.cat_model.specs.State.{State}
use Rattle.cat_model.specs.Step.{opening, opens_draft}
use Rattle.cat_work.specs.declared.trying.Trying.{Trying}
use Rattle.cat_work.specs.Answers.{Answers, AnswersAlone, Causes, IsDraftAbove, RefusesAlone, Spends, rests_in}
use Rattle.cat_work.specs.MarkLaws.{refused_mark}
use Rattle.cat_work.specs.Passes.{IsAlone, book_of, state_of}
use Rattle.cat_work.specs.Turns.{Comes, Ends, EndsLast, Going, IsSpent, SettlesAndTells, StoodAlone, Trail, Turned, out_of_memory}
use Rattle.cat_work.proofs.Callings.{Brings, called_alone, made_brings, made_draft}
use Rattle.cat_work.proofs.Opened.{none_but}
use Rattle.cat_work.proofs.Telling.{AloneAt, Found, Left, Numbered, alone_err, alone_ok, answers_ok, book_found, causes, faults_same, follows_same, given_up_alone, gone_in_draft, left_by_turn, refused_alone, stays_expired}
use Rattle.cat_work.proofs.Trails.{opened_within}
use Rattle.cat_work.proofs.Endings.{none_open, found_on, grown, alone_still, found_open, stays_alone, moved_on, more_long, IsGoneIn, IsOtherIn, by_draft, not_gone}

-- ---- an attempt that ends the call

abbrev caller_was : {desk : DeskId} {c : Command} {first present : Pass} {t : Trying} {attempts number : ℕ} → Going desk c first present t attempts number → t.draft.caller ≡ number_of first
caller_was g = g.tries.caller ∙ g.kept.number

had_number : (last number limit : ℕ) → last < number → number ≤ limit → last < limit
had_number last number limit p q = omega arith

-- answers of the draft's own caller and command are those of the call
as_asked : (desk : DeskId) (n m moment attempts k : ℕ) (c e : Command) (before after : Mark) (l log : List LogEntry) (r : Result Told Refused) → m ≡ n → e ≡ c → Answers desk m e moment attempts k before after l log r → Answers desk n c moment attempts k before after l log r
as_asked desk n m moment attempts k c e before after l log r caller command a = subst (λ (z : ℕ × Command). Answers desk z.0 z.1 moment attempts k before after l log r) (λ i. (caller i, command i)) a

-- a refusal for want of memory
spared : {K : Type 0} (desk : DeskId) (n moment attempts k : ℕ) (c : Command) (first next : Pass) (s s' : Stored K) (r : Refused) → Found desk n first s → Left desk next s' → s'.book ≡ s.book → s'.mark.fault ≡ s.mark.fault → r ≡ out_of_memory
    → Answers desk n c moment attempts k (mark_of first) (mark_of next) (seen first) (seen next) (Err r)
spared desk n moment attempts k c first next s s' r found left book fault is =
    subst (λ (x : Refused). Answers desk n c moment attempts k (mark_of first) (mark_of next) (seen first) (seen next) (Err x)) (sym is)
    (follows_same desk n first next s s' found left book, (refl, faults_same desk n first next s s' found left fault))

settled_answers : {K : Type 0} (desk : DeskId) (c : Command) (first present next : Pass) (t : Trying) (attempts number moment : ℕ) (s s' : Stored K) (r : Result Told Refused) → opens_draft c ≡ true → Going desk c first present t attempts number → IsLegalFrom desk.opened (seen next) → Turned desk present next s s'
    → Ends s t.draft t.view moment r s' → Answers desk (number_of first) c moment attempts (known first) (mark_of first) (mark_of next) (seen first) (seen next) r
settled_answers {K} desk c first present next t attempts number moment s s' r opens g legal turn ends = by_result r ends
  where
    d : Draft
    d = t.draft

    found : Found desk (number_of first) first s
    found = found_on desk c first present next t attempts number s s' g turn

    own : Found desk t.draft.caller first s
    own = subst (λ (n : ℕ). Found desk n first s) (sym (caller_was g)) found

    left : Left desk next s'
    left = left_by_turn desk present next s s' turn

    opens_own : opens_draft (command_in t.draft) ≡ true
    opens_own = ap (λ (x : Command). opens_draft x) g.command_is ∙ opens

    brings : Brings t.draft.caller t.draft.number s.book.state (command_in t.draft) moment (called_in s t.draft moment)
    brings = made_brings t.draft.caller moment t.draft.number t.draft.place s.book (command_in t.draft)

    numbered : Numbered desk (command_in t.draft) first t.draft.number
    numbered = record {
      above = subst (λ (b : Bool). IsDraftAbove (mark_of first).draft b t.draft.number) (sym opens_own) g.newer;
      number = λ _. had_number (mark_of first).draft t.draft.number desk.opened.state.limits.drafts g.newer g.within;
    }

    opened_by : (e : Refused) → Expires (called_in s t.draft moment) s t.draft e s' → t.draft.place ≤ s.book.state.place
    opened_by e x =
        let log : seen next ≡ log_of s = left.seen_is ∙ ap (λ (y : Stored K). log_of y) x.after in
        subst (λ (y : State). t.draft.place ≤ y.place) turn.led (opened_within desk (command_in t.draft) (number_of present) t.draft.place (seen present) (log_of s) t.pairs.items g.tries.trail turn.follows (subst (IsLegalFrom desk.opened) log legal))

    by_cause : (e : Refused) (built : Built) → SettlesAndTells s t.draft built moment (settled.Refused e) s' → IsGoneIn (called_in s t.draft moment) s t.draft e e.why s' ⊎ IsOtherIn (called_in s t.draft moment) s t.draft e e.why s'
        → Follows t.draft.caller (seen first) (seen next) × Causes desk t.draft.caller (command_in t.draft) moment attempts (known first) (mark_of first) (mark_of next) (seen next) e.place e.why
    by_cause e built h (inl x) = subst (λ (why : Refusal). Follows t.draft.caller (seen first) (seen next) × Causes desk t.draft.caller (command_in t.draft) moment attempts (known first) (mark_of first) (mark_of next) (seen next) e.place why) (sym x.is)
        (gone_in_draft desk moment attempts (known first) t.draft first next s s' e x.keys x.opened opens_own own left numbered g.known_then x.is x.expires built h.0.0 h.1 (opened_by e x.expires))
    by_cause e built h (inr x) = causes desk t.draft.caller t.draft.number moment attempts (known first) (command_in t.draft) first next s s' (called_in s t.draft moment) e (closed s t.draft) e.why own left brings numbered
        (λ keys opened gone refused. not_gone e.why keys opened x.other gone) refl x.refuses

    by_result : (x : Result Told Refused) → Ends s t.draft t.view moment x s' → Answers desk (number_of first) c moment attempts (known first) (mark_of first) (mark_of next) (seen first) (seen next) x
    by_result (Ok told) h = as_asked desk (number_of first) t.draft.caller moment attempts (known first) c (command_in t.draft) (mark_of first) (mark_of next) (seen first) (seen next) (Ok told) (caller_was g) g.command_is
        (answers_ok desk t.draft.caller t.draft.number moment attempts (known first) (command_in t.draft) first next s s' (called_in s t.draft moment) told (closed s t.draft) own left brings numbered h.2.0.1)
    by_result (Err e) (inl h) = as_asked desk (number_of first) t.draft.caller moment attempts (known first) c (command_in t.draft) (mark_of first) (mark_of next) (seen first) (seen next) (Err e) (caller_was g) g.command_is
        (by_cause e h.0 h.2 (by_draft (called_in s t.draft moment) s t.draft e e.why s' h.2.0.1))
    by_result (Err e) (inr h) = spared desk (number_of first) moment attempts (known first) c first next s s' e found left (ap (λ (x : Stored K). x.book) h.1) (ap (λ (x : Stored K). x.mark.fault) h.1) h.0

-- ---- nothing is left open

pub refuses_open : {K : Type 0} (called : Called) (n : ℕ) (s : Stored K) (r : Refused) (why : Refusal) (s' : Stored K) (left_open : Open) → Refuses called n s r why s' left_open → (stored.open_of s') ≡ left_open
refuses_open {K} called n s r refusals.NoMemory s' left_open h = ap (λ (x : Stored K). (stored.open_of x)) h.1
refuses_open {K} called n s r (refusals.Down count) s' left_open h = ap (λ (x : Stored K). (stored.open_of x)) h.2
refuses_open {K} called n s r refusals.Fault s' left_open h = ap (λ (x : Stored K). (stored.open_of x)) h.after
refuses_open {K} called n s r (refusals.Expired x y) s' left_open h = ap (λ (x : Stored K). (stored.open_of x)) h.after
refuses_open {K} called n s r (refusals.RetriesSpent x) s' left_open h = ap (λ (x : Stored K). (stored.open_of x)) h.after
refuses_open {K} called n s r (refusals.Limit x y) s' left_open h = ap (λ (x : Stored K). (stored.open_of x)) h.after
refuses_open {K} called n s r (refusals.BadRequest x) s' left_open h = ap (λ (x : Stored K). (stored.open_of x)) h.after
refuses_open {K} called n s r refusals.RefNotFound s' left_open h = ap (λ (x : Stored K). (stored.open_of x)) h.after
refuses_open {K} called n s r refusals.RefExists s' left_open h = ap (λ (x : Stored K). (stored.open_of x)) h.after
refuses_open {K} called n s r (refusals.ContentNotFound x) s' left_open h = ap (λ (x : Stored K). (stored.open_of x)) h.after
refuses_open {K} called n s r (refusals.Conflicts x) s' left_open h = ap (λ (x : Stored K). (stored.open_of x)) h.after
refuses_open {K} called n s r (refusals.SweepOpen x) s' left_open h = ap (λ (x : Stored K). (stored.open_of x)) h.after
refuses_open {K} called n s r (refusals.Collision x y z) s' left_open h = ap (λ (x : Stored K). (stored.open_of x)) h.after
refuses_open {K} called n s r refusals.NoRoute s' left_open h = ap (λ (x : Stored K). (stored.open_of x)) h.after
refuses_open {K} called n s r (refusals.WrongMethod x) s' left_open h = ap (λ (x : Stored K). (stored.open_of x)) h.after
refuses_open {K} called n s r refusals.TooLarge s' left_open h = ap (λ (x : Stored K). (stored.open_of x)) h.after
refuses_open {K} called n s r refusals.Encoding s' left_open h = ap (λ (x : Stored K). (stored.open_of x)) h.after
refuses_open {K} called n s r refusals.OldFormat s' left_open h = ap (λ (x : Stored K). (stored.open_of x)) h.after

-- ---- nothing is left open by a draft

draft_open : {K : Type 0} (called : Called) (s : Stored K) (d : Draft) (r : Refused) (why : Refusal) (s' : Stored K) → IsGoneIn called s d r why s' ⊎ IsOtherIn called s d r why s' → stored.open_of s' ≡ closed s d
draft_open {K} called s d r why s' (inl x) = ap (λ (y : Stored K). stored.open_of y) x.expires.after
draft_open called s d r why s' (inr x) = refuses_open called d.caller s r why s' (closed s d) x.refuses

closed_then : {K : Type 0} (desk : DeskId) (p q : Pass) (s s' : Stored K) (d : Draft) → left_by p ≡ record { drafts = open_draft_of d ∷ []; sweep = None } → d.caller ≡ number_of p → Turned desk p q s s' → (stored.open_of s') ≡ closed s d → left_by q ≡ nothing_open
closed_then desk p q s s' d left caller turn left_open = turn.left ∙ (ap (λ (o : Open). open_of (number_of p) o) left_open ∙ none_open (number_of p) (open_draft_of d) (stored.open_of s) caller (found_open desk p q s s' d left turn))

ends_closed : {K : Type 0} (s s' : Stored K) (d : Draft) (view : State) (moment : ℕ) (r : Result Told Refused) → Ends s d view moment r s' → (stored.open_of s') ≡ closed s d
ends_closed {K} s s' d view moment (Ok told) h = ap (λ (x : Stored K). (stored.open_of x)) h.2.0.1.after
ends_closed s s' d view moment (Err e) (inl h) = draft_open (called_in s d moment) s d e e.why s' (by_draft (called_in s d moment) s d e e.why s' h.2.0.1)
ends_closed {K} s s' d view moment (Err e) (inr h) = ap (λ (x : Stored K). (stored.open_of x)) h.1

-- ---- on the only pass

-- the draft is all that is open, and is closed
closed_alone : {K : Type 0} (desk : DeskId) (c : Command) (first present next : Pass) (t : Trying) (attempts number : ℕ) (s s' : Stored K) → Going desk c first present t attempts number → Turned desk present next s s' → stored.open_of s' ≡ closed s t.draft → IsAlone first
    → all_left_by first ≡ nothing_open → all_left_by next ≡ nothing_open
closed_alone desk c first present next t attempts number s s' g turn left_open only nothing =
    let there : stored.open_of s ≡ record { drafts = open_draft_of t.draft ∷ []; sweep = None } = (turn.alone (alone_still desk first present g.kept only)).2 ∙ g.rests only nothing in
    let none : closed s t.draft ≡ nothing_open =
    ap (λ (o : Open). record o { drafts = without (opening_in t.draft) o.drafts }) there ∙ (λ i. record { drafts = none_but (open_draft_of t.draft) i; sweep = None }) in
    turn.all_left ∙ (left_open ∙ none)

-- no sweep was opened or closed
draft_unswept : {K : Type 0} (called : Called) (s : Stored K) (d : Draft) (r : Refused) (why : Refusal) (s' : Stored K) → IsGoneIn called s d r why s' ⊎ IsOtherIn called s d r why s' → rests_in s'.mark ≡ rests_in s.mark
draft_unswept {K} called s d r why s' (inl x) = ap (λ (y : Stored K). rests_in y.mark) x.expires.after
draft_unswept called s d r why s' (inr x) = ap (λ (m : Mark). rests_in m) (refused_mark called d.caller s r why s' (closed s d) x.refuses)

ends_unswept : {K : Type 0} (s s' : Stored K) (d : Draft) (view : State) (moment : ℕ) (r : Result Told Refused) → Ends s d view moment r s' → rests_in s'.mark ≡ rests_in s.mark
ends_unswept {K} s s' d view moment (Ok told) h = ap (λ (y : Stored K). rests_in y.mark) h.2.0.1.after
ends_unswept s s' d view moment (Err e) (inl h) = draft_unswept (called_in s d moment) s d e e.why s' (by_draft (called_in s d moment) s d e e.why s' h.2.0.1)
ends_unswept {K} s s' d view moment (Err e) (inr h) = ap (λ (y : Stored K). rests_in y.mark) h.1

unswept_alone : {K : Type 0} (desk : DeskId) (c : Command) (first present next : Pass) (t : Trying) (attempts number : ℕ) (s s' : Stored K) → Going desk c first present t attempts number → Turned desk present next s s' → rests_in s'.mark ≡ rests_in s.mark → IsAlone first
    → rests_in (mark_of next) ≡ rests_in (mark_of first)
unswept_alone desk c first present next t attempts number s s' g turn same only =
    ap (λ (m : Mark). rests_in m) turn.mark_is ∙ (same ∙ ap (λ (m : Mark). rests_in m) ((turn.alone (alone_still desk first present g.kept only)).1 ∙ (g.alone only).mark_is))

-- the store is found as the opening left it
alone_at : {K : Type 0} (desk : DeskId) (c : Command) (first present next : Pass) (t : Trying) (attempts number moment : ℕ) (s s' : Stored K) → opens_draft c ≡ true → Going desk c first present t attempts number → Turned desk present next s s' → IsAlone first
    → AloneAt (called_in s t.draft moment) (book_of desk first) (mark_of first).fault s × (called_in s t.draft moment ≡ call_on sha256 (number_of first) (book_of desk first) c moment)
alone_at {K} desk c first present next t attempts number moment s s' opens g turn only =
    let d : Draft = t.draft in
    let b : Book = book_of desk first in
    let stood : StoodAlone desk c first present d.number d.place = g.alone only in
    let still : IsAlone present = alone_still desk first present g.kept only in
    let present_is : book_of desk present ≡ record b { draft = d.number } = λ i. record { state = state_of desk (stood.seen_is i); draft = (stood.mark_is i).draft; log = reverse (stood.seen_is i); base = desk.opened.state } in
    let found : s.book ≡ record b { draft = d.number } = book_found desk present next s s' turn still ∙ present_is in
    let next_is : s.book ≡ record b { draft = b.draft + 1 } = found ∙ ap (λ (n : ℕ). record b { draft = n }) stood.number_is in
    let draft : s.book.draft ≡ d.number = ap (λ (x : Book). x.draft) found in
    let raised_by : s.book.draft ≡ b.draft + 1 = ap (λ (x : Book). x.draft) next_is in
    let fault : s.mark.fault ≡ (mark_of first).fault = ap (λ (m : Mark). m.fault) ((turn.alone still).1 ∙ stood.mark_is) in
    let same : called_in s d moment ≡ attempt_on sha256 (record b { draft = b.draft + 1 }) (in_draft (number_of first) moment (b.draft + 1) b.state.place) c =
    λ i. attempt_on sha256 (next_is i) (in_draft (caller_was g i) moment (stood.number_is i) (stood.place_is i)) (g.command_is i) in (
      record {
        log = ap (λ (x : Book). x.log) found;
        base = ap (λ (x : Book). x.base) found;
        state = ap (λ (x : Book). x.state) found;
        low = omega arith;
        high = omega arith;
        draft = made_draft d.caller moment d.number d.place s.book (command_in d) (sym draft);
        fault = fault;
        down = λ x is. absurd (let wrong : None ≡ Some x = sym stood.up ∙ is in cc);
      },
      same ∙ called_alone (number_of first) moment b c opens stood.passes,
    )

settled_alone : {K : Type 0} (desk : DeskId) (c : Command) (first present next : Pass) (t : Trying) (attempts number moment : ℕ) (s s' : Stored K) (r : Result Told Refused) → opens_draft c ≡ true → Going desk c first present t attempts number → Turned desk present next s s'
    → Ends s t.draft t.view moment r s' → IsAlone first → AnswersAlone (number_of first) (call_on sha256 (number_of first) (book_of desk first) c moment) (book_of desk first) (book_of desk next) (mark_of first).fault (mark_of next).fault r
settled_alone {K} desk c first present next t attempts number moment s s' r opens g turn ends only = subst (λ (z : ℕ × Called). AnswersAlone z.0 z.1 (book_of desk first) (book_of desk next) (mark_of first).fault (mark_of next).fault r) (λ i. (caller_was g i, both.1 i)) (by_result r ends)
  where
    both : AloneAt (called_in s t.draft moment) (book_of desk first) (mark_of first).fault s × (called_in s t.draft moment ≡ call_on sha256 (number_of first) (book_of desk first) c moment)
    both = alone_at desk c first present next t attempts number moment s s' opens g turn only

    left : Left desk next s'
    left = left_by_turn desk present next s s' turn

    brings : Brings t.draft.caller t.draft.number s.book.state (command_in t.draft) moment (called_in s t.draft moment)
    brings = made_brings t.draft.caller moment t.draft.number t.draft.place s.book (command_in t.draft)

    by_cause : (e : Refused) → IsGoneIn (called_in s t.draft moment) s t.draft e e.why s' ⊎ IsOtherIn (called_in s t.draft moment) s t.draft e e.why s'
        → RefusesAlone t.draft.caller (called_in s t.draft moment) (book_of desk first) (book_of desk next) (mark_of first).fault (mark_of next).fault e e.why
    by_cause e (inl x) = subst (λ (why : Refusal). RefusesAlone t.draft.caller (called_in s t.draft moment) (book_of desk first) (book_of desk next) (mark_of first).fault (mark_of next).fault e why) (sym x.is)
        (refused_alone desk t.draft.caller t.draft.number moment (command_in t.draft) next s s' (called_in s t.draft moment) (book_of desk first) (mark_of first).fault e both.0 left brings (stays_expired (called_in s t.draft moment) s t.draft e s' x.expires))
    by_cause e (inr x) = alone_err desk t.draft.caller t.draft.number moment (command_in t.draft) next s s' (called_in s t.draft moment) (book_of desk first) (mark_of first).fault e (closed s t.draft) e.why both.0 left brings refl x.refuses

    by_result : (x : Result Told Refused) → Ends s t.draft t.view moment x s' → AnswersAlone t.draft.caller (called_in s t.draft moment) (book_of desk first) (book_of desk next) (mark_of first).fault (mark_of next).fault x
    by_result (Ok told) h = alone_ok desk t.draft.caller next s s' (called_in s t.draft moment) (book_of desk first) (mark_of first).fault told (closed s t.draft) both.0 left h.2.0.1
    by_result (Err e) (inl h) = by_cause e (by_draft (called_in s t.draft moment) s t.draft e e.why s' h.2.0.1)
    by_result (Err e) (inr h) = subst (λ (x : Refused). RefusesAlone t.draft.caller (called_in s t.draft moment) (book_of desk first) (book_of desk next) (mark_of first).fault (mark_of next).fault x x.why) (sym h.0)
        (given_up_alone desk t.draft.caller next s s' (called_in s t.draft moment) (book_of desk first) (mark_of first).fault out_of_memory both.0 left (ap (λ (x : Stored K). x.book) h.1) (ap (λ (x : Stored K). x.mark.fault) h.1) refl)

pub comes_early : {K : Type 0} (desk : DeskId) (c : Command) (first present next : Pass) (t : Trying) (attempts number moment : ℕ) (s s' : Stored K) (r : Result Told Refused) → opens_draft c ≡ true → Going desk c first present t attempts number → IsLegalFrom desk.opened (seen next) → Turned desk present next s s'
    → Ends s t.draft t.view moment r s' → Comes desk c first next attempts moment r
comes_early desk c first present next t attempts number moment s s' r opens g legal turn ends = record {
  none = closed_then desk present next s s' t.draft g.tries.left_is g.tries.caller turn (ends_closed s s' t.draft t.view moment r ends);
  grows = grown desk c first present next t attempts number s s' g turn;
  answers = settled_answers desk c first present next t attempts number moment s s' r opens g legal turn ends;
  alone = settled_alone desk c first present next t attempts number moment s s' r opens g turn ends;
  rests = closed_alone desk c first present next t attempts number s s' g turn (ends_closed s s' t.draft t.view moment r ends);
  undrafted = λ no. absurd (let wrong : true ≡ false = sym opens ∙ no in cc);
  unswept = unswept_alone desk c first present next t attempts number s s' g turn (ends_unswept s s' t.draft t.view moment r ends);
}

-- ---- the last attempt

spent_pairs : {K : Type 0} (desk : DeskId) (c : Command) (first present next : Pass) (t : Trying) (attempts : ℕ) (s s' : Stored K) (built : Built) (r : Refused) → opens_draft c ≡ true → Going desk c first present t attempts attempts → IsLegalFrom desk.opened (seen next)
    → Turned desk present next s s' → IsBuilt t.view t.draft.call built → (x : IsSpent s t.draft built t.pairs.items r s') → Spends desk (number_of first) c attempts (known first) (mark_of first) (mark_of next) (seen next) x.more
spent_pairs {K} desk c first present next t attempts s s' built r opens g legal turn is x =
    let d : Draft = t.draft in
    let book : s'.book ≡ s.book = ap (λ (y : Stored K). y.book) x.after in
    let own : Trail desk (command_in d) (seen next) d.place x.more = moved_on desk present next s s' d t.view t.pairs.items x.more built x.view x.head g.tries is turn legal book x.moved.other x.moved.view_is x.has x.pairs_are in
    let trail : Trail desk c (seen next) d.place x.more = subst (λ (e : Command). Trail desk e (seen next) d.place x.more) g.command_is own in
    let state : state_of desk (seen next) ≡ s.book.state = (left_by_turn desk present next s s' turn).state_is ∙ ap (λ (b : Book). b.state) book in
    let dropped : (mark_of next).dropped ≡ Some (opening_in d) = ap (λ (m : Mark). m.dropped) turn.mark_is ∙ ap (λ (y : Stored K). y.mark.dropped) x.after in
    record {
      up = ap (λ (m : Mark). m.fault) turn.mark_is ∙ (ap (λ (y : Stored K). y.mark.fault) x.after ∙ x.moved.up);
      opens = opens;
      passes = (λ i. opening sha256 (state i) (sym g.command_is i)) ∙ x.moved.passes;
      left = λ _. had_number (mark_of first).draft d.number desk.opened.state.limits.drafts g.newer g.within;
      count = more_long t.pairs.items x.more (x.view.place, x.head) x.pairs_are ∙ ap (λ (n : ℕ). n + 1) g.count;
      rises = trail.rises;
      at = trail.at;
      front = trail.front;
      head = trail.head;
      last = trail.last;
      known = subst (λ (n : ℕ). known first ≤ n) (sym trail.begins) g.known_then;
      number = d.number;
      dropped = dropped ∙ (λ i. Some (record { number = d.number; caller = caller_was g i; place = sym trail.begins i }));
      newer = g.newer;
    }

spent_comes : {K : Type 0} (desk : DeskId) (c : Command) (first present next : Pass) (t : Trying) (attempts moment : ℕ) (s s' : Stored K) (built : Built) (r : Refused) → opens_draft c ≡ true → Going desk c first present t attempts attempts → IsLegalFrom desk.opened (seen next)
    → Turned desk present next s s' → IsBuilt t.view t.draft.call built → IsSpent s t.draft built t.pairs.items r s' → Comes desk c first next attempts moment (Err r)
spent_comes {K} desk c first present next t attempts moment s s' built r opens g legal turn is x =
    let book : s'.book ≡ s.book = ap (λ (y : Stored K). y.book) x.after in
    let left : Left desk next s' = left_by_turn desk present next s s' turn in
    let state : state_of desk (seen next) ≡ x.view = left.state_is ∙ (ap (λ (b : Book). b.state) book ∙ sym x.moved.view_is) in
    let refused : Refused = record { place = Some x.view.place; why = refusals.RetriesSpent x.more } in
    let found : Found desk (number_of first) first s = found_on desk c first present next t attempts attempts s s' g turn in
    record {
      none = closed_then desk present next s s' t.draft g.tries.left_is g.tries.caller turn (ap (λ (y : Stored K). (stored.open_of y)) x.after);
      grows = grown desk c first present next t attempts attempts s s' g turn;
      answers = subst (λ (e : Refused). Answers desk (number_of first) c moment attempts (known first) (mark_of first) (mark_of next) (seen first) (seen next) (Err e)) (sym x.is) (
        follows_same desk (number_of first) first next s s' found left book,
        (ap (λ (y : State). Some y.place) (sym state), spent_pairs desk c first present next t attempts s s' built r opens g legal turn is x),
      );
      alone = λ only. absurd (x.moved.other (stays_alone desk present next s s' t.draft t.view built g.tries.view_is is turn (alone_still desk first present g.kept only)));
      rests = closed_alone desk c first present next t attempts attempts s s' g turn (ap (λ (y : Stored K). stored.open_of y) x.after);
      undrafted = λ no. absurd (let wrong : true ≡ false = sym opens ∙ no in cc);
      unswept = unswept_alone desk c first present next t attempts attempts s s' g turn (ap (λ (y : Stored K). rests_in y.mark) x.after);
    }

pub comes_late : {K : Type 0} (desk : DeskId) (c : Command) (first present next : Pass) (t : Trying) (attempts moment : ℕ) (s s' : Stored K) (r : Result Told Refused) → opens_draft c ≡ true → Going desk c first present t attempts attempts → IsLegalFrom desk.opened (seen next)
    → Turned desk present next s s' → EndsLast s t.draft t.view t.pairs.items moment r s' → Comes desk c first next attempts moment r
comes_late desk c first present next t attempts moment s s' (Ok told) opens g legal turn h = comes_early desk c first present next t attempts attempts moment s s' (Ok told) opens g legal turn h
comes_late desk c first present next t attempts moment s s' (Err r) opens g legal turn (inl h) = comes_early desk c first present next t attempts attempts moment s s' (Err r) opens g legal turn (inl h)
comes_late desk c first present next t attempts moment s s' (Err r) opens g legal turn (inr (inl h)) = spent_comes desk c first present next t attempts moment s s' h.0 r opens g legal turn h.1 h.2
comes_late desk c first present next t attempts moment s s' (Err r) opens g legal turn (inr (inr h)) = comes_early desk c first present next t attempts attempts moment s s' (Err r) opens g legal turn (inr h)
