-- Calls that are made in one turn.
use Rattle.std.proofs.Common.{◌≡◌, ◌≤◌, ℕ, ◌+◌, length, Result, Ok, Err, Bool, true, false, refl, sym, ap, subst, ◌∙◌, arith}
use Rattle.sha2.specs.Sha256.{sha256}
use Rattle.cat_checks.specs.Histories.{IsLegalFrom}
use Rattle.cat_core.specs.Drafts.{Refers}
use Rattle.cat_core.specs.Stored as stored
use Rattle.cat_core.specs.Stored.{Stored, log_of, opened_of}
use Rattle.cat_desk.specs.Pass.{DeskId, known, left_by, mark_of, number_of, seen}
use Rattle.cat_desk.specs.declared.pass.Pass.{Pass}
use Rattle.cat_model.specs.declared.command.Command.{Command}
use Rattle.cat_model.specs.declared.refusal.Refused.{Refused}
use Rattle.cat_model.specs.declared.reply.Told.{Told}
use Rattle.cat_model.specs.Book.{Book, call_on}
use Rattle.cat_model.specs.Calls.{Called}
use Rattle.cat_model.specs.Drafts.{nothing_open}
use Rattle.cat_model.specs.Mark.{Mark}
use Rattle.cat_model.specs.State.{State}
use Rattle.cat_model.specs.Step.{opens_draft}
use Rattle.cat_work.specs.Answers.{Answers, AnswersAlone, IsDraftAbove, rests_in}
use Rattle.cat_work.specs.MarkLaws.{but_fault, no_draft_still, refers_mark}
use Rattle.cat_work.specs.Passes.{IsAlone, book_of, state_of}
use Rattle.cat_work.specs.Turns.{Comes, Turned}
use Rattle.cat_work.proofs.Callings.{call_brings, call_draft}
use Rattle.cat_work.proofs.Ended.{refuses_open}
use Rattle.cat_work.proofs.Telling.{AloneAt, Numbered, alone_err, alone_ok, answers_ok, book_found, causes, gone_at_once, grew_in, left_by_turn}
use Rattle.cat_work.proofs.Trails.{place_at}
use Rattle.cat_model.specs.Turns.{Opened, place_after}
use Rattle.cat_work.proofs.Unopened.{found_first, none_still, same_open}

refers_open : {K : Type 0} (called : Called) (n : ℕ) (s s' : Stored K) (r : Result Told Refused) → Refers called n s s' r → stored.open_of s' ≡ stored.open_of s
refers_open {K} called n s s' (Ok told) h = ap (λ (x : Stored K). stored.open_of x) h.after
refers_open called n s s' (Err r) h = refuses_open called n s r r.why s' (stored.open_of s) h

-- such a call has no draft
unnumbered : (desk : DeskId) (c : Command) (p : Pass) → opens_draft c ≡ false → Numbered desk c p 0
unnumbered desk c p opens = record { above = subst (λ (b : Bool). IsDraftAbove (mark_of p).draft b 0) (sym opens) refl; number = λ yes. absurd (let wrong : false ≡ true = sym opens ∙ yes in cc) }

-- what was known is behind the state
behind : (begun k size place : ℕ) → k ≤ begun + size → place ≡ begun + size → k ≤ place
behind begun k size place le is = omega arith

known_at : {K : Type 0} (desk : DeskId) (k : ℕ) (s : Stored K) → IsLegalFrom desk.opened (log_of s) → k ≤ place_after desk.opened (log_of s) → state_of desk (log_of s) ≡ s.book.state → k ≤ s.book.state.place
known_at desk k s legal le led = behind desk.opened.state.place k (length (log_of s)) s.book.state.place le (ap (λ (x : State). x.place) (sym led) ∙ place_at desk (log_of s) legal)

refers_answers : {K : Type 0} (desk : DeskId) (c : Command) (p q : Pass) (attempts moment : ℕ) (s s' : Stored K) (r : Result Told Refused) → opens_draft c ≡ false → IsLegalFrom desk.opened (log_of s) → known p ≤ place_after desk.opened (log_of s) → Turned desk p q s s'
    → Refers (call_on sha256 (number_of p) s.book c moment) (number_of p) s s' r → Answers desk (number_of p) c moment attempts (known p) (mark_of p) (mark_of q) (seen p) (seen q) r
refers_answers desk c p q attempts moment s s' (Ok told) opens legal known_is turn h =
    answers_ok desk (number_of p) 0 moment attempts (known p) c p q s s' (call_on sha256 (number_of p) s.book c moment) told (stored.open_of s) (found_first desk p q s s' turn) (left_by_turn desk p q s s' turn) (call_brings (number_of p) moment s.book c opens)
    (unnumbered desk c p opens) h
refers_answers desk c p q attempts moment s s' (Err r) opens legal known_is turn h =
    let known_here : known p ≤ s.book.state.place = known_at desk (known p) s legal known_is turn.led in
    causes desk (number_of p) 0 moment attempts (known p) c p q s s' (call_on sha256 (number_of p) s.book c moment) r (stored.open_of s) r.why (found_first desk p q s s' turn) (left_by_turn desk p q s s' turn) (call_brings (number_of p) moment s.book c opens) (unnumbered desk c p opens)
    (λ keys opened gone refused. gone_at_once desk (number_of p) moment attempts (known p) c p q s s' r (stored.open_of s) keys opened opens (found_first desk p q s s' turn) (left_by_turn desk p q s s' turn) (unnumbered desk c p opens) known_here gone refused) refl h

at_once : {K : Type 0} (desk : DeskId) (c : Command) (p q : Pass) (moment : ℕ) (s s' : Stored K) → opens_draft c ≡ false → Turned desk p q s s' → IsAlone p → AloneAt (call_on sha256 (number_of p) s.book c moment) (book_of desk p) (mark_of p).fault s
at_once desk c p q moment s s' opens turn only =
    let found : s.book ≡ book_of desk p = book_found desk p q s s' turn only in
    let draft : s.book.draft ≡ (mark_of p).draft = ap (λ (b : Book). b.draft) found in
    record {
      log = ap (λ (b : Book). b.log) found;
      base = ap (λ (b : Book). b.base) found;
      state = ap (λ (b : Book). b.state) found;
      low = omega arith;
      high = omega arith;
      draft = call_draft (number_of p) moment s.book c opens;
      fault = ap (λ (m : Mark). m.fault) (turn.alone only).1;
      down = λ x is. found;
    }

refers_alone : {K : Type 0} (desk : DeskId) (c : Command) (p q : Pass) (moment : ℕ) (s s' : Stored K) (r : Result Told Refused) → opens_draft c ≡ false → Turned desk p q s s' → Refers (call_on sha256 (number_of p) s.book c moment) (number_of p) s s' r → IsAlone p
    → AnswersAlone (number_of p) (call_on sha256 (number_of p) s.book c moment) (book_of desk p) (book_of desk q) (mark_of p).fault (mark_of q).fault r
refers_alone desk c p q moment s s' (Ok told) opens turn h only =
    alone_ok desk (number_of p) q s s' (call_on sha256 (number_of p) s.book c moment) (book_of desk p) (mark_of p).fault told (stored.open_of s) (at_once desk c p q moment s s' opens turn only) (left_by_turn desk p q s s' turn) h
refers_alone desk c p q moment s s' (Err r) opens turn h only =
    alone_err desk (number_of p) 0 moment c q s s' (call_on sha256 (number_of p) s.book c moment) (book_of desk p) (mark_of p).fault r (stored.open_of s) r.why (at_once desk c p q moment s s' opens turn only) (left_by_turn desk p q s s' turn) (call_brings (number_of p) moment s.book c opens) refl h

pub refers_comes : {K : Type 0} (desk : DeskId) (c : Command) (p q : Pass) (attempts moment n : ℕ) (s s' : Stored K) (r : Result Told Refused) → n ≡ number_of p → opens_draft c ≡ false → left_by p ≡ nothing_open → IsLegalFrom desk.opened (log_of s) → known p ≤ place_after (opened_of s) (log_of s)
    → Turned desk p q s s' → Refers (call_on sha256 n s.book c moment) n s s' r → Comes desk c p q attempts moment r
refers_comes desk c p q attempts moment n s s' r number opens none legal known_is turn h =
    let own : Refers (call_on sha256 (number_of p) s.book c moment) (number_of p) s s' r = subst (λ (m : ℕ). Refers (call_on sha256 m s.book c moment) m s s' r) number h in
    let same : stored.open_of s' ≡ stored.open_of s = refers_open (call_on sha256 (number_of p) s.book c moment) (number_of p) s s' r own in
    let kept : but_fault s'.mark ≡ but_fault s.mark = refers_mark (call_on sha256 (number_of p) s.book c moment) (number_of p) s s' r own in
    record {
      none = none_still desk p q s s' none turn same;
      grows = grew_in desk p q s s' turn;
      answers = refers_answers desk c p q attempts moment s s' r opens legal (subst (λ (o : Opened). known p ≤ place_after o (log_of s)) turn.opened known_is) turn own;
      alone = λ only. subst (λ (called : Called). AnswersAlone (number_of p) called (book_of desk p) (book_of desk q) (mark_of p).fault (mark_of q).fault r)
          (ap (λ (b : Book). call_on sha256 (number_of p) b c moment) (book_found desk p q s s' turn only)) (refers_alone desk c p q moment s s' r opens turn own only);
      rests = λ only nothing. same_open desk p q s s' turn same only ∙ nothing;
      undrafted = λ _. no_draft_still (number_of p) (mark_of p) s.mark (mark_of q) (λ last. turn.linked.own_draft last) (ap (λ (m : Mark). m.draft) turn.mark_is ∙ ap (λ (m : Mark). m.draft) kept)
          (ap (λ (m : Mark). m.drafter) turn.mark_is ∙ ap (λ (m : Mark). m.drafter) kept);
      unswept = λ only. ap (λ (m : Mark). rests_in m) turn.mark_is ∙ (ap (λ (m : Mark). rests_in m) kept ∙ ap (λ (m : Mark). rests_in m) (turn.alone only).1);
    }
