-- What settling a collection comes to.
use Rattle.std.proofs.Common.{◌≡◌, ◌≤◌, ℕ, ◌+◌, List, [], ◌∷◌, ◌++◌, length, reverse, Option, Some, None, Result, Ok, Err, false, refl, sym, ap, subst, ◌∙◌, arith}
use Rattle.std.proofs.lemmas.List.{reverse-reverse}
use Rattle.sha2.specs.Sha256.{sha256}
use Rattle.cat_checks.specs.Histories.{IsLegalFrom}
use Rattle.cat_checks.specs.HistoryLaws.{begins_legal}
use Rattle.cat_core.specs.Drafts.{IsRefused, Refers, Refuses}
use Rattle.cat_core.specs.Stored as stored
use Rattle.cat_core.specs.Stored.{Stored, log_of}
use Rattle.cat_core.specs.Sweeps.{Drops, Sweeps, called_sweep, shut}
use Rattle.cat_desk.specs.Log.{Follows}
use Rattle.cat_desk.specs.Pass.{DeskId, all_left_by, known, left_by, mark_of, number_of, seen}
use Rattle.cat_desk.specs.declared.pass.Pass.{Pass}
use Rattle.cat_model.specs.declared.cutoff.Resolved.{Resolved}
use Rattle.cat_model.specs.declared.log_entry.LogEntry.{LogEntry}
use Rattle.cat_model.specs.declared.refusal.Refusal.{Refusal}
use Rattle.cat_model.specs.declared.refusal.Refusal.TheVariants as refusals
use Rattle.cat_model.specs.declared.refusal.Refused.{Refused}
use Rattle.cat_model.specs.declared.reply.Told.{Told}
use Rattle.cat_model.specs.declared.sweep.Sweep.{Sweep}
use Rattle.cat_model.specs.Book.{Book, IsCalled, after_call}
use Rattle.cat_model.specs.Calls.{Called}
use Rattle.cat_model.specs.Drafts.{Open, OpenSweep, Opening, no_names, nothing_open, open_of}
use Rattle.cat_model.specs.Mark.{FailedAppend, Mark}
use Rattle.cat_model.specs.Past.{course, past_of, swept_on}
use Rattle.cat_model.specs.State.{State}
use Rattle.cat_model.specs.Sweeps.{step_sweep, sweep_call, sweep_entry, sweep_of}
use Rattle.cat_state.specs.Kept.{spelling}
use Rattle.cat_work.specs.Answers.{AnswersAlone, FallsAlone, IsAt, NoFaultIsNew, RefusesAlone, journal_in}
use Rattle.cat_work.specs.MarkLaws.{but_fault, no_draft_still, refers_mark}
use Rattle.cat_work.specs.Passes.{IsAlone, book_of, state_of}
use Rattle.cat_work.specs.TurnLaws.{Left, book_found, left_by_turn}
use Rattle.cat_work.specs.Turns.{Turned}
use Rattle.cat_collect.specs.Answers.{Answers, Causes, Falls, IsClosedBy, IsNewer, IsRuledOut, IsSweepOf, past_at, step_at}
use Rattle.cat_collect.specs.Turns.{Comes, DropsIn, Going, SettlesIn, out_of_memory}
use Rattle.cat_collect.proofs.Brought.{IsSwept, IsUnswept, by_entry, by_refusal, by_reply, is_limit, no_other}
use Rattle.cat_collect.proofs.Goings.{Found, alone_still, found_alone, found_on, found_same, grown, within_on}
use Rattle.cat_collect.proofs.Owned.{IsFound, found_open, none_left}
use Rattle.cat_collect.proofs.Endings.{refers_open, not_none, newest_last, outcome, failed}

-- ---- settling

module _ {K : Type 0} (desk : DeskId) (policy : Resolved) (moment : ℕ) (first present next : Pass) (s s' : Stored K) (g : Going desk policy first present) (turn : Turned desk present next s s') (legal : IsLegalFrom desk.opened (seen next)) (o : OpenSweep) (found : IsFound (number_of present) s g.sweep o) where
  abbrev n : ℕ
  n = number_of first

  abbrev w : Sweep
  w = sweep_of o.opening.place o.policy o.names

  abbrev called : Called
  called = called_sweep s o moment

  at : Found desk first s
  at = found_on desk policy first present next s s' g turn

  left : Left desk next s'
  left = left_by_turn desk present next s s' turn

  opening : o.opening ≡ g.sweep.opening
  opening = ap (λ (x : OpenSweep). x.opening) found.awaits.same

  caller : o.opening.caller ≡ n
  caller = ap (λ (x : Opening). x.caller) opening ∙ g.caller

  place : o.opening.place ≡ g.sweep.opening.place
  place = ap (λ (x : Opening). x.place) opening

  policy_is : o.policy ≡ policy
  policy_is = ap (λ (x : OpenSweep). x.policy) found.awaits.same ∙ g.policy_is

  none_open : stored.open_of s' ≡ stored.open_of (shut s o) → left_by next ≡ nothing_open
  none_open same = turn.left ∙ ap (λ (x : Open). open_of (number_of present) x) same ∙ none_left (number_of present) (stored.open_of (shut s o)) found.drafts refl

  -- the mark tells of it
  is_closed : s'.mark.closed ≡ (shut s o).mark.closed → IsClosedBy n w (mark_of first) (mark_of next)
  is_closed same = (
    o.opening.number,
    subst (λ (x : Opening). IsNewer (mark_of first) x.number) (sym opening) g.newer,
    ap (λ (m : Mark). m.closed) left.mark_is ∙ same ∙ (λ i. Some (record { opening = record { number = o.opening.number; caller = caller i; place = o.opening.place }; names = length w.commits + length w.contents })),
  )

  is_sweep : (log : List LogEntry) → Follows (number_of present) (seen present) log → IsLegalFrom desk.opened log → s'.mark.closed ≡ (shut s o).mark.closed → IsSweepOf desk n policy (known first) (mark_of first) (mark_of next) log w
  is_sweep log follows is_legal same = record {
    policy_is = policy_is;
    known = subst (λ (x : ℕ). known first ≤ x) (sym place) g.known_then;
    within = subst (λ (x : ℕ). x ≤ (state_of desk log).place) (sym place) (within_on desk (number_of present) (seen present) log g.sweep.opening.place follows is_legal g.within);
    closed = is_closed same;
  }

  -- its step after the log that was found
  pasts : past_at desk (log_of s) ≡ past_of sha256 s.book
  unfolding past_of
  pasts = λ i. (course sha256 (sym turn.base i) (reverse-reverse s.book.log i)).past

  step_is : step_at desk (log_of s) w ≡ step_sweep s.book.state (past_of sha256 s.book) w
  step_is = λ i. step_sweep (turn.led i) (pasts i) w

  -- ---- accepted

  abbrev Swept : Type 0
  Swept = IsSwept o.opening.caller s.book.state (past_of sha256 s.book) s.book.draft moment w

  abbrev Unswept : Type 0
  Unswept = IsUnswept o.opening.caller s.book.state (past_of sha256 s.book) s.book.draft moment w

  accepted_by : (told : Told) → Refers called o.opening.caller (shut s o) s' (Ok told) → (x : Swept) → told ≡ record { place = x.after.place; reply = x.reply } → Answers desk n policy moment (known first) (mark_of first) (mark_of next) (seen first) (seen next) (Ok told)
  accepted_by told h x is =
      let entry : LogEntry = sweep_entry n (state_of desk (seen next)).place moment w in
      let book : s'.book ≡ after_call s.book called = ap (λ (y : Stored K). y.book) h.after in
      let state : state_of desk (seen next) ≡ x.after = left.state_is ∙ ap (λ (b : Book). b.state) book ∙ x.state_is in
      let entry_is : sweep_entry o.opening.caller x.after.place moment w ≡ entry = (λ i. sweep_entry (caller i) (sym state i).place moment w) in
      let log : seen next ≡ log_of s ++ entry ∷ [] = left.seen_is ∙ ap (λ (b : Book). reverse b.log) book ∙ ap (λ (l : List LogEntry). reverse (l ++ s.book.log)) (x.logged ∙ ap (λ (e : LogEntry). e ∷ []) entry_is) ∙ newest_last entry s.book.log in
      let reply : told.reply ≡ x.reply = ap (λ (t : Told). t.reply) is in
      let ends : outcome x.after x.reply ≡ outcome (state_of desk (seen next)) told.reply = (λ i. outcome (sym state i) (sym reply i)) in
      record {
        up = ap (λ (m : Mark). m.fault) left.mark_is ∙ ap (λ (y : Stored K). y.mark.fault) h.after ∙ h.up;
        earlier = log_of s;
        sweep = w;
        follows = at.follows;
        log = log;
        sweep_is = is_sweep (log_of s) turn.follows (begins_legal desk.opened (log_of s) (entry ∷ []) (subst (IsLegalFrom desk.opened) log legal)) (ap (λ (y : Stored K). y.mark.closed) h.after);
        place = ap (λ (t : Told). t.place) is ∙ sym (ap (λ (y : State). y.place) state);
        reply = step_is ∙ x.is ∙ ends;
      }

  accepted : (told : Told) → Refers called o.opening.caller (shut s o) s' (Ok told) → Answers desk n policy moment (known first) (mark_of first) (mark_of next) (seen first) (seen next) (Ok told)
  accepted told h = by_reply o.opening.caller s.book.state (past_of sha256 s.book) s.book.draft moment w told h.said (accepted_by told h)

  -- ---- refused, and the book stays

  module _ (book : s'.book ≡ s.book) where
    log_is : seen next ≡ log_of s
    log_is = left.seen_is ∙ ap (λ (b : Book). reverse b.log) book

    state_is : state_of desk (seen next) ≡ s.book.state
    state_is = left.state_is ∙ ap (λ (b : Book). b.state) book

    follows : Follows n (seen first) (seen next)
    follows = subst (Follows n (seen first)) (sym log_is) at.follows

    at_state : (r : Refused) → r.place ≡ Some s.book.state.place → IsAt desk (seen next) r.place
    at_state r is = is ∙ ap (λ (x : State). Some x.place) (sym state_is)

    step_now : step_at desk (seen next) w ≡ step_sweep s.book.state (past_of sha256 s.book) w
    step_now = ap (λ (l : List LogEntry). step_at desk l w) log_is ∙ step_is

    sweep_now : s'.mark.closed ≡ (shut s o).mark.closed → IsSweepOf desk n policy (known first) (mark_of first) (mark_of next) (seen next) w
    sweep_now same = is_sweep (seen next) (subst (Follows (number_of present) (seen present)) (sym log_is) turn.follows) legal same

    no_fault : s'.mark.fault ≡ s.mark.fault → NoFaultIsNew n (mark_of first) (mark_of next)
    no_fault same x is own = at.no_new x (sym same ∙ (ap (λ (m : Mark). m.fault) (sym left.mark_is) ∙ is)) own

  -- by the rules
  ruled : {A : Type 0} (r : Refused) → called.said ≡ Err r → (step_sweep s.book.state (past_of sha256 s.book) w ≡ Err r.why → r.place ≡ Some s.book.state.place → A) → A
  ruled {A} r said f = by_refusal o.opening.caller s.book.state (past_of sha256 s.book) s.book.draft moment w {P = A} r said (λ x is. f (x.is ∙ ap failed (sym (ap (λ (y : Refused). y.why) is))) (ap (λ (y : Refused). y.place) is))

  other : {A : Type 0} (r : Refused) (why : Refusal) → r.why ≡ why → is_limit why ≡ false → called.said ≡ Err r → A
  other {A} r why same none said = ruled {A = A} r said (λ is place. no_other {A = A} s.book.state (past_of sha256 s.book) w r.why (ap is_limit same ∙ none) is)

  fell : (r : Refused) (h : Refuses called o.opening.caller (shut s o) r refusals.Fault s' (stored.open_of (shut s o))) → (x : Swept) → h.entry ≡ sweep_entry o.opening.caller x.after.place moment w → Falls desk n policy moment (known first) (mark_of first) (mark_of next) (seen next)
  fell r h x entry_is = record {
    fault = h.fault;
    is = ap (λ (m : Mark). m.fault) left.mark_is ∙ ap (λ (y : Stored K). y.mark.fault) h.after;
    caller_is = h.caller_is ∙ caller;
    new = λ was. not_none h.fault (sym h.up ∙ at.kept h.fault was);
    sweep = w;
    sweep_is = sweep_now (ap (λ (y : Stored K). y.book) h.after) (ap (λ (y : Stored K). y.mark.closed) h.after);
    next = x.after;
    reply = x.reply;
    accepted = step_now (ap (λ (y : Stored K). y.book) h.after) ∙ x.is;
    payload = h.payload ∙ ap spelling (entry_is ∙ ap (λ (c : ℕ). sweep_entry c x.after.place moment w) caller);
  }

  abbrev Ruled : Option ℕ → Refusal → Type 0
  Ruled place why = Follows n (seen first) (seen next) × (IsAt desk (seen next) place × IsRuledOut desk n policy (known first) (mark_of first) (mark_of next) (seen next) why)

  limited : (r : Refused) (why : Refusal) → r.why ≡ why → IsRefused called (shut s o) r s' (stored.open_of (shut s o)) → step_sweep s.book.state (past_of sha256 s.book) w ≡ Err r.why → r.place ≡ Some s.book.state.place → Ruled r.place why
  limited r why same h is place =
      let book : s'.book ≡ s.book = ap (λ (y : Stored K). y.book) h.after in (
        follows book,
        (
          at_state book r place,
          record {
            up = ap (λ (m : Mark). m.fault) left.mark_is ∙ ap (λ (y : Stored K). y.mark.fault) h.after ∙ h.up;
            sweep = w;
            sweep_is = sweep_now book (ap (λ (y : Stored K). y.mark.closed) h.after);
            is = step_now book ∙ is ∙ ap failed same;
          },
        ),
      )

  causes : (r : Refused) (why : Refusal) → r.why ≡ why → Refuses called o.opening.caller (shut s o) r why s' (stored.open_of (shut s o))
      → Follows n (seen first) (seen next) × Causes desk n policy moment (known first) (mark_of first) (mark_of next) (seen next) r.place why
  causes r refusals.NoMemory same h =
      let book : s'.book ≡ s.book = ap (λ (x : Stored K). x.book) h.1 in
      (follows book, (h.0, no_fault book (ap (λ (x : Stored K). x.mark.fault) h.1)))
  causes r (refusals.Down count) same h =
      let book : s'.book ≡ s.book = ap (λ (x : Stored K). x.book) h.2 in
      let is : (mark_of next).fault ≡ Some h.1.0 = ap (λ (m : Mark). m.fault) left.mark_is ∙ (ap (λ (x : Stored K). x.mark.fault) h.2 ∙ h.1.1) in (
        follows book,
        (at_state book r h.0, record { fault = h.1.0; is = is; count_is = h.1.2; known = λ own. at.no_new h.1.0 h.1.1 own }),
      )
  causes r refusals.Fault same h =
      let book : s'.book ≡ s.book = ap (λ (x : Stored K). x.book) h.after in
      (follows book, (at_state book r h.place, by_entry o.opening.caller s.book.state (past_of sha256 s.book) s.book.draft moment w h.entry h.logged (fell r h)))
  causes r (refusals.Limit which number) same h = ruled r h.said (limited r (refusals.Limit which number) same h)
  causes r (refusals.BadRequest x) same h = other r (refusals.BadRequest x) same refl h.said
  causes r refusals.RefNotFound same h = other r refusals.RefNotFound same refl h.said
  causes r refusals.RefExists same h = other r refusals.RefExists same refl h.said
  causes r (refusals.ContentNotFound x) same h = other r (refusals.ContentNotFound x) same refl h.said
  causes r (refusals.Conflicts x) same h = other r (refusals.Conflicts x) same refl h.said
  causes r (refusals.Expired x y) same h = other r (refusals.Expired x y) same refl h.said
  causes r (refusals.RetriesSpent x) same h = other r (refusals.RetriesSpent x) same refl h.said
  causes r (refusals.SweepOpen x) same h = other r (refusals.SweepOpen x) same refl h.said
  causes r (refusals.Collision x y z) same h = other r (refusals.Collision x y z) same refl h.said
  causes r refusals.NoRoute same h = other r refusals.NoRoute same refl h.said
  causes r (refusals.WrongMethod x) same h = other r (refusals.WrongMethod x) same refl h.said
  causes r refusals.TooLarge same h = other r refusals.TooLarge same refl h.said
  causes r refusals.Encoding same h = other r refusals.Encoding same refl h.said
  causes r refusals.OldFormat same h = other r refusals.OldFormat same refl h.said

  answers : (r : Result Told Refused) → Refers called o.opening.caller (shut s o) s' r → Answers desk n policy moment (known first) (mark_of first) (mark_of next) (seen first) (seen next) r
  answers (Ok told) h = accepted told h
  answers (Err r) h = causes r r.why refl h

  -- ---- on the only pass

  module _ (only : IsAlone first) (rest : all_left_by first ≡ nothing_open) where
    abbrev b : Book
    b = book_of desk first

    abbrev f : Option FailedAppend
    f = (mark_of first).fault

    book_at : s.book ≡ b
    book_at =
        let stood = g.alone only rest in
        let draft : (mark_of present).draft ≡ (mark_of first).draft = ap (λ (m : Mark). m.draft) stood.mark_is in
        book_found desk present next s s' turn (alone_still desk first present g.kept only)
        ∙ (λ i. record { state = state_of desk (stood.seen_is i); draft = draft i; log = reverse (stood.seen_is i); base = desk.opened.state })

    up_then : s.mark.fault ≡ None
    up_then = let stood = g.alone only rest in ap (λ (m : Mark). m.fault) ((turn.alone (alone_still desk first present g.kept only)).1 ∙ stood.mark_is) ∙ stood.up

    place_at : o.opening.place ≡ b.state.place
    place_at = place ∙ (g.alone only rest).place_is

    names_are : o.names ≡ no_names
    names_are = ap (λ (x : OpenSweep). x.names) (found_same desk policy first present next s s' g turn only rest o found.is) ∙ (g.alone only rest).names_are

    w_is : w ≡ sweep_of b.state.place policy no_names
    w_is = λ i. sweep_of (place_at i) (policy_is i) (names_are i)

    called_is : called ≡ swept_on sha256 n b policy no_names moment
    called_is = λ i. sweep_call (caller i) (book_at i).state (past_of sha256 (book_at i)) (book_at i).draft moment (w_is i)

    made_alone : (told : Told) → Refers called o.opening.caller (shut s o) s' (Ok told) → AnswersAlone n called b (book_of desk next) f (mark_of next).fault (Ok told)
    made_alone told h = (
      record { said = h.said; book = left.book_is ∙ ap (λ (x : Stored K). x.book) h.after ∙ ap (λ (x : Book). after_call x called) book_at },
      (g.alone only rest).up,
      ap (λ (m : Mark). m.fault) left.mark_is ∙ ap (λ (x : Stored K). x.mark.fault) h.after ∙ h.up,
    )

    down_alone : {A : Type 0} (x : FailedAppend) → s.mark.fault ≡ Some x → A
    down_alone x is = absurd (not_none x (sym up_then ∙ is))

    fell_alone : (r : Refused) (h : Refuses called o.opening.caller (shut s o) r refusals.Fault s' (stored.open_of (shut s o))) → (x : Swept) → h.entry ≡ sweep_entry o.opening.caller x.after.place moment w → FallsAlone n called b (book_of desk next) f (mark_of next).fault r
    fell_alone r h x entry_is =
        let book : book_of desk next ≡ b = left.book_is ∙ ap (λ (y : Stored K). y.book) h.after ∙ book_at in
        record {
          place = h.place ∙ ap (λ (y : Book). Some y.state.place) book_at;
          unkept = record { entry = h.entry; logged = h.logged; state = ap (λ (y : Book). y.state) book; log = ap (λ (y : Book). y.log) book; base = ap (λ (y : Book). y.base) book; draft = ap (λ (y : Book). y.draft) (book ∙ sym book_at) ∙ sym x.draft_is };
          up = (g.alone only rest).up;
          fault = h.fault;
          is = ap (λ (m : Mark). m.fault) left.mark_is ∙ ap (λ (y : Stored K). y.mark.fault) h.after;
          caller_is = h.caller_is ∙ caller;
          entry = h.entry;
          logged = h.logged;
          payload = h.payload;
        }

    limited_alone : (r : Refused) → IsRefused called (shut s o) r s' (stored.open_of (shut s o)) → (x : Unswept) → r ≡ record { place = Some s.book.state.place; why = x.why } → IsCalled called b (book_of desk next) (Err r) × (f ≡ None) × ((mark_of next).fault ≡ None)
    limited_alone r h x is =
        let after : s.book ≡ after_call b called = book_at ∙ (λ i. record { state = (ap (λ (y : Book). y.state) (sym book_at) ∙ sym x.state_is) i; draft = (ap (λ (y : Book). y.draft) (sym book_at) ∙ sym x.draft_is) i; log = sym x.none i ++ b.log; base = b.base }) in (
          record { said = h.said; book = left.book_is ∙ ap (λ (y : Stored K). y.book) h.after ∙ after },
          (g.alone only rest).up,
          ap (λ (m : Mark). m.fault) left.mark_is ∙ ap (λ (y : Stored K). y.mark.fault) h.after ∙ h.up,
        )

    refused_alone : (r : Refused) (why : Refusal) → r.why ≡ why → Refuses called o.opening.caller (shut s o) r why s' (stored.open_of (shut s o)) → RefusesAlone n called b (book_of desk next) f (mark_of next).fault r why
    refused_alone r refusals.NoMemory same h =
        let book : book_of desk next ≡ b = left.book_is ∙ ap (λ (x : Stored K). x.book) h.1 ∙ book_at in
        let draft : (book_of desk next).draft ≡ b.draft = ap (λ (x : Book). x.draft) book in (
          record { place = h.0; state = ap (λ (x : Book). x.state) book; log = ap (λ (x : Book). x.log) book; draft_kept = omega (arith, draft); draft_taken = omega (arith, draft) },
          ap (λ (m : Mark). m.fault) left.mark_is ∙ ap (λ (x : Stored K). x.mark.fault) h.1 ∙ up_then ∙ sym (g.alone only rest).up,
        )
    refused_alone r (refusals.Down count) same h = down_alone h.1.0 h.1.1
    refused_alone r refusals.Fault same h = by_entry o.opening.caller s.book.state (past_of sha256 s.book) s.book.draft moment w h.entry h.logged (fell_alone r h)
    refused_alone r (refusals.Limit which number) same h = by_refusal o.opening.caller s.book.state (past_of sha256 s.book) s.book.draft moment w r h.said (limited_alone r h)
    refused_alone r (refusals.BadRequest x) same h = other r (refusals.BadRequest x) same refl h.said
    refused_alone r refusals.RefNotFound same h = other r refusals.RefNotFound same refl h.said
    refused_alone r refusals.RefExists same h = other r refusals.RefExists same refl h.said
    refused_alone r (refusals.ContentNotFound x) same h = other r (refusals.ContentNotFound x) same refl h.said
    refused_alone r (refusals.Conflicts x) same h = other r (refusals.Conflicts x) same refl h.said
    refused_alone r (refusals.Expired x y) same h = other r (refusals.Expired x y) same refl h.said
    refused_alone r (refusals.RetriesSpent x) same h = other r (refusals.RetriesSpent x) same refl h.said
    refused_alone r (refusals.SweepOpen x) same h = other r (refusals.SweepOpen x) same refl h.said
    refused_alone r (refusals.Collision x y z) same h = other r (refusals.Collision x y z) same refl h.said
    refused_alone r refusals.NoRoute same h = other r refusals.NoRoute same refl h.said
    refused_alone r (refusals.WrongMethod x) same h = other r (refusals.WrongMethod x) same refl h.said
    refused_alone r refusals.TooLarge same h = other r refusals.TooLarge same refl h.said
    refused_alone r refusals.Encoding same h = other r refusals.Encoding same refl h.said
    refused_alone r refusals.OldFormat same h = other r refusals.OldFormat same refl h.said

    by_result : (r : Result Told Refused) → Refers called o.opening.caller (shut s o) s' r → AnswersAlone n called b (book_of desk next) f (mark_of next).fault r
    by_result (Ok told) h = made_alone told h
    by_result (Err r) h = refused_alone r r.why refl h

    alone : (r : Result Told Refused) → Refers called o.opening.caller (shut s o) s' r → AnswersAlone n (swept_on sha256 n b policy no_names moment) b (book_of desk next) f (mark_of next).fault r
    alone r h = subst (λ (x : Called). AnswersAlone n x b (book_of desk next) f (mark_of next).fault r) called_is (by_result r h)

    -- nothing else was open
    rests : stored.open_of s' ≡ stored.open_of (shut s o) → all_left_by next ≡ nothing_open
    rests same = turn.all_left ∙ same ∙ (λ i. record { drafts = (found_alone desk policy first present next s s' g turn only rest i).drafts; sweep = None })

  -- the log is kept as it was, where the pass was alone and nothing was open
  journal_found : IsAlone first → all_left_by first ≡ nothing_open → journal_in s.mark ≡ journal_in (mark_of first)
  journal_found only rest = ap (λ (m : Mark). journal_in m) ((turn.alone (alone_still desk first present g.kept only)).1 ∙ (g.alone only rest).mark_is)

  settled : (r : Result Told Refused) → Refers called o.opening.caller (shut s o) s' r → Comes desk policy moment first next r
  settled r h = let kept : but_fault s'.mark ≡ but_fault (shut s o).mark = refers_mark called o.opening.caller (shut s o) s' r h in record {
    none = none_open (refers_open called o.opening.caller (shut s o) s' r h);
    grows = grown desk policy first present next s s' g turn;
    answers = answers r h;
    alone = λ only rest. alone only rest r h;
    rests = λ only rest. rests only rest (refers_open called o.opening.caller (shut s o) s' r h);
    undrafted = no_draft_still n (mark_of first) s.mark (mark_of next) at.no_draft (ap (λ (m : Mark). m.draft) left.mark_is ∙ ap (λ (m : Mark). m.draft) kept) (ap (λ (m : Mark). m.drafter) left.mark_is ∙ ap (λ (m : Mark). m.drafter) kept);
    unbased = λ only rest. ap (λ (m : Mark). journal_in m) left.mark_is ∙ ap (λ (m : Mark). journal_in m) kept ∙ journal_found only rest;
  }

  dropped : s' ≡ shut s o → Comes desk policy moment first next (Err out_of_memory)
  dropped is =
      let book : s'.book ≡ s.book = ap (λ (x : Stored K). x.book) is in
      let fault : s'.mark.fault ≡ s.mark.fault = ap (λ (x : Stored K). x.mark.fault) is in
      record {
        none = none_open (ap (λ (x : Stored K). stored.open_of x) is);
        grows = grown desk policy first present next s s' g turn;
        answers = (follows book, (refl, no_fault book fault));
        alone = λ only rest. by only rest (left.book_is ∙ book) fault;
        rests = λ only rest. rests only rest (ap (λ (x : Stored K). stored.open_of x) is);
        undrafted = no_draft_still n (mark_of first) s.mark (mark_of next) at.no_draft (ap (λ (m : Mark). m.draft) left.mark_is ∙ ap (λ (x : Stored K). x.mark.draft) is) (ap (λ (m : Mark). m.drafter) left.mark_is ∙ ap (λ (x : Stored K). x.mark.drafter) is);
        unbased = λ only rest. ap (λ (m : Mark). journal_in m) left.mark_is ∙ ap (λ (x : Stored K). journal_in x.mark) is ∙ journal_found only rest;
      }
    where
      by : (only : IsAlone first) → all_left_by first ≡ nothing_open → book_of desk next ≡ s.book → s'.mark.fault ≡ s.mark.fault → AnswersAlone n (swept_on sha256 n (book_of desk first) policy no_names moment) (book_of desk first) (book_of desk next) (mark_of first).fault (mark_of next).fault (Err out_of_memory)
      by only rest is fault =
          let book : book_of desk next ≡ book_of desk first = is ∙ book_at only rest in
          let draft : (book_of desk next).draft ≡ (book_of desk first).draft = ap (λ (x : Book). x.draft) book in (
            record { place = refl; state = ap (λ (x : Book). x.state) book; log = ap (λ (x : Book). x.log) book; draft_kept = omega (arith, draft); draft_taken = omega (arith, draft) },
            ap (λ (m : Mark). m.fault) left.mark_is ∙ fault ∙ up_then only rest ∙ sym (g.alone only rest).up,
          )

-- the turn that settles it
pub settles : (K : Type 0) (desk : DeskId) (policy : Resolved) (moment : ℕ) (first present next : Pass) (r : Result Told Refused) → Going desk policy first present → IsLegalFrom desk.opened (seen next) → SettlesIn K desk present next moment r → Comes desk policy moment first next r
settles K desk policy moment first present next r g legal h =
    let there = found_open (number_of present) present h.0 g.sweep g.left_is (h.2).own in
    settled desk policy moment first present next h.0 h.1 g h.2 legal there.0 there.1 r (subst (λ (x : Option OpenSweep). Sweeps h.0 x moment r h.1) there.1.is h.3)

-- the turn that drops it
pub drops : (K : Type 0) (desk : DeskId) (policy : Resolved) (moment : ℕ) (first present next : Pass) → Going desk policy first present → IsLegalFrom desk.opened (seen next) → DropsIn K desk present next → Comes desk policy moment first next (Err out_of_memory)
drops K desk policy moment first present next g legal h =
    let there = found_open (number_of present) present h.0 g.sweep g.left_is (h.2).own in
    dropped desk policy moment first present next h.0 h.1 g h.2 legal there.0 there.1 (subst (λ (x : Option OpenSweep). Drops h.0 x h.1) there.1.is h.3)
