-- What a turn tells of a call, seen from the pass as it was at the call.
use Rattle.std.proofs.Common.{◌≡◌, ◌≤◌, ◌⊎◌, inl, inr, ℕ, ◌+◌, List, [], ◌∷◌, ◌++◌, reverse, Option, Some, None, Ok, Err, Bool, true, false, refl, sym, ap, subst, ◌∙◌, arith}
use Rattle.std.proofs.lemmas.List.{reverse-append}
use Rattle.sha2.specs.Sha256.{sha256}
use Rattle.cat_names.specs.Fields.{Key}
use Rattle.cat_decisions.specs.declared.building.Built.{Built}
use Rattle.cat_core.specs.Drafts.{Does, Expires, IsRefused, IsSettledOn, Refuses, called_in, command_in}
use Rattle.cat_core.specs.Gone.{TellsGone}
use Rattle.cat_core.specs.Stored.{Stored, log_of}
use Rattle.cat_core.specs.declared.draft.Draft.{Draft}
use Rattle.cat_core.specs.declared.draft.Settled.TheVariants as settled
use Rattle.cat_desk.specs.Log.{Follows}
use Rattle.cat_desk.specs.Pass.{DeskId, mark_of, seen}
use Rattle.cat_desk.specs.declared.pass.Pass.{Pass}
use Rattle.cat_model.specs.declared.command.Command.{Command}
use Rattle.cat_model.specs.declared.limits.Quantity.{Quantity}
use Rattle.cat_model.specs.declared.limits.Quantity.TheVariants as quantities
use Rattle.cat_model.specs.declared.log_entry.LogEntry.{LogEntry}
use Rattle.cat_model.specs.declared.refusal.Refusal.{Refusal}
use Rattle.cat_model.specs.declared.refusal.Refusal.TheVariants as refusals
use Rattle.cat_model.specs.declared.refusal.Refused.{Refused}
use Rattle.cat_model.specs.declared.reply.Reply.{Reply}
use Rattle.cat_model.specs.declared.reply.Told.{Told}
use Rattle.cat_model.specs.Book.{Book, IsCalled, IsGivenUp, after_call, call_on}
use Rattle.cat_model.specs.Calls.{Called, entry_made}
use Rattle.cat_model.specs.Drafts.{Open}
use Rattle.cat_model.specs.Mark.{FailedAppend, Mark}
use Rattle.cat_model.specs.Refusing.{Outcome}
use Rattle.cat_model.specs.State.{State}
use Rattle.cat_model.specs.Step.{opening, opens_draft, step}
use Rattle.cat_work.specs.Answers.{Answers, AnswersAlone, BeganAt, Causes, ComesToIn, HadNumber, IsAt, IsDraftAbove, IsEntryOf, IsRuledOut, NoFaultIsNew, RefusesAlone}
use Rattle.cat_work.specs.Passes.{book_of, state_of}
pub use Rattle.cat_work.specs.TurnLaws.{Left, book_found, grew_in, left_by_turn}
use Rattle.cat_work.proofs.Callings.{Brings, Entering, IsGone, Telling, call_gone, draft_gone, entry_draft_is, entry_is, refused_is, told_is, undrafted}
use Rattle.cat_work.proofs.Expiring.{gone_at_draft, gone_at_state}
use Rattle.cat_work.proofs.Since.{AreGoneIn, gone_after, gone_in, stood_at}
use Rattle.cat_core.specs.PlainLaws.{IsUsual, IsUsualCause}
use Rattle.cat_core.specs.UsualLaws.{usual_step}

-- ---- what is found and left

-- the store as a turn of a call finds it, against the pass as it was at the call
pub record Found {K : Type 0} (desk : DeskId) (n : ℕ) (first : Pass) (s : Stored K) : Type 0 where
  pub follows : Follows n (seen first) (log_of s)
  pub led : state_of desk (log_of s) ≡ s.book.state
  pub no_new : NoFaultIsNew n (mark_of first) s.mark
  pub kept : (x : FailedAppend) → (mark_of first).fault ≡ Some x → s.mark.fault ≡ Some x

-- the draft of a call, against the pass as it was at the call
pub record Numbered (desk : DeskId) (c : Command) (first : Pass) (draft : ℕ) : Type 0 where
  pub above : IsDraftAbove (mark_of first).draft (opens_draft c) draft
  pub number : HadNumber desk c (mark_of first).draft

-- ---- steps at the state that is left

pub comes_at : (draft : ℕ) (a b : State) (c : Command) (moment : ℕ) (outcome : Outcome) → a ≡ b → ComesToIn draft b c moment outcome → ComesToIn draft a c moment outcome
comes_at draft a b c moment outcome same comes = subst (λ (x : State). ComesToIn draft x c moment outcome) (sym same) comes

entry_at : (a b : State) (n : ℕ) (c : Command) (moment : ℕ) (entry : LogEntry) → a ≡ b → IsEntryOf n b c moment entry → IsEntryOf n a c moment entry
entry_at a b n c moment entry same is = subst (λ (x : State). IsEntryOf n x c moment entry) (sym same) is

-- ---- a reply

abbrev outcome : State → Reply → Outcome
outcome state reply = Ok (state, reply)

newest_last : (entry : LogEntry) (log : List LogEntry) → reverse (entry ∷ log) ≡ reverse log ++ entry ∷ []
newest_last entry log = reverse-append (entry ∷ []) log

entered : {K : Type 0} (desk : DeskId) (n draft moment attempts k : ℕ) (c : Command) (first next : Pass) (s s' : Stored K) (called : Called) (told : Told) → Found desk n first s → Left desk next s' → s'.book ≡ after_call s.book called
    → s'.mark.fault ≡ None → (x : Entering n draft s.book.state c moment called) → told ≡ record { place = x.after.place; reply = x.reply } → Numbered desk c first draft
    → Answers desk n c moment attempts k (mark_of first) (mark_of next) (seen first) (seen next) (Ok told)
unfolding entry_made
entered desk n draft moment attempts k c first next s s' called told found left book up x is numbered =
    let entry : LogEntry = entry_made sha256 n x.after c x.turn x.reply in
    let logged : seen next ≡ log_of s ++ entry ∷ [] = left.seen_is ∙ ap (λ (b : Book). reverse b.log) book ∙ ap (λ (l : List LogEntry). reverse (l ++ s.book.log)) x.logged ∙ newest_last entry s.book.log in
    let state : state_of desk (seen next) ≡ x.after = left.state_is ∙ ap (λ (b : Book). b.state) book ∙ x.state_is in
    let reply : told.reply ≡ x.reply = ap (λ (t : Told). t.reply) is in
    let began : step sha256 (state_of desk (log_of s)) c (record { draft = x.turn.draft; opened = x.turn.opened; moment = moment }) ≡ step sha256 s.book.state c x.turn =
    λ i. step sha256 (found.led i) c (record { draft = x.turn.draft; opened = x.turn.opened; moment = sym x.moment_is i }) in
    let ends : outcome x.after x.reply ≡ outcome (state_of desk (seen next)) told.reply = λ i. outcome (sym state i) (sym reply i) in
    inl (record {
      up = ap (λ (m : Mark). m.fault) left.mark_is ∙ up;
      earlier = log_of s;
      entry = entry;
      follows = found.follows;
      log = logged;
      caller = refl;
      moment_is = x.moment_is;
      command_is = refl;
      draft = subst (IsDraftAbove (mark_of first).draft (opens_draft c)) (sym x.draft_is) numbered.above;
      number = numbered.number;
      place = ap (λ (t : Told). t.place) is ∙ sym (ap (λ (y : State). y.place) state);
      reply = (x.turn.opened, began ∙ x.is ∙ ends);
    })

told_only : {K : Type 0} (desk : DeskId) (n draft moment attempts k : ℕ) (c : Command) (first next : Pass) (s s' : Stored K) (called : Called) (told : Told) → Found desk n first s → Left desk next s' → s'.book ≡ after_call s.book called
    → s'.mark.fault ≡ None → (x : Telling draft s.book.state c moment called) → told ≡ record { place = s.book.state.place; reply = x.reply } → Numbered desk c first draft
    → Answers desk n c moment attempts k (mark_of first) (mark_of next) (seen first) (seen next) (Ok told)
told_only desk n draft moment attempts k c first next s s' called told found left book up x is numbered =
    let same : seen next ≡ log_of s = left.seen_is ∙ ap (λ (b : Book). reverse b.log) book ∙ ap (λ (l : List LogEntry). reverse (l ++ s.book.log)) x.none in
    let state : state_of desk (seen next) ≡ s.book.state = left.state_is ∙ ap (λ (b : Book). b.state) book ∙ x.state_is in
    let reply : told.reply ≡ x.reply = ap (λ (t : Told). t.reply) is in
    let ends : outcome s.book.state x.reply ≡ outcome (state_of desk (seen next)) told.reply = λ i. outcome (sym state i) (sym reply i) in
    inr (record {
      up = ap (λ (m : Mark). m.fault) left.mark_is ∙ up;
      number = numbered.number;
      follows = subst (Follows n (seen first)) (sym same) found.follows;
      place = ap (λ (t : Told). t.place) is ∙ sym (ap (λ (y : State). y.place) state);
      reply = record { draft = draft; above = numbered.above; is = comes_at draft (state_of desk (seen next)) s.book.state c moment (Ok (state_of desk (seen next), told.reply)) state (subst (ComesToIn draft s.book.state c moment) ends x.is) };
    })

pub answers_ok : {K : Type 0} (desk : DeskId) (n draft moment attempts k : ℕ) (c : Command) (first next : Pass) (s s' : Stored K) (called : Called) (told : Told) (left_open : Open) → Found desk n first s → Left desk next s' → Brings n draft s.book.state c moment called
    → Numbered desk c first draft → Does called s told s' left_open → Answers desk n c moment attempts k (mark_of first) (mark_of next) (seen first) (seen next) (Ok told)
answers_ok {K} desk n draft moment attempts k c first next s s' called told left_open found left brings numbered does = by_kind (told_is n draft s.book.state c moment called told brings does.said)
  where
    book : s'.book ≡ after_call s.book called
    book = ap (λ (x : Stored K). x.book) does.after

    up : s'.mark.fault ≡ None
    up = ap (λ (x : Stored K). x.mark.fault) does.after ∙ does.up

    by_kind : ((x : Entering n draft s.book.state c moment called) × (told ≡ record { place = x.after.place; reply = x.reply })) ⊎ ((x : Telling draft s.book.state c moment called) × (told ≡ record { place = s.book.state.place; reply = x.reply }))
        → Answers desk n c moment attempts k (mark_of first) (mark_of next) (seen first) (seen next) (Ok told)
    by_kind (inl x) = entered desk n draft moment attempts k c first next s s' called told found left book up x.0 x.1 numbered
    by_kind (inr x) = told_only desk n draft moment attempts k c first next s s' called told found left book up x.0 x.1 numbered

-- ---- a refusal

-- the log was left as it was found
pub follows_same : {K : Type 0} (desk : DeskId) (n : ℕ) (first next : Pass) (s s' : Stored K) → Found desk n first s → Left desk next s' → s'.book ≡ s.book → Follows n (seen first) (seen next)
follows_same desk n first next s s' found left book = subst (Follows n (seen first)) (sym (left.seen_is ∙ ap (λ (b : Book). reverse b.log) book)) found.follows

pub state_same : {K : Type 0} (desk : DeskId) (next : Pass) (s s' : Stored K) → Left desk next s' → s'.book ≡ s.book → state_of desk (seen next) ≡ s.book.state
state_same desk next s s' left book = left.state_is ∙ ap (λ (b : Book). b.state) book

pub at_state : (desk : DeskId) (next : Pass) (state : State) (place : Option ℕ) → state_of desk (seen next) ≡ state → place ≡ Some state.place → IsAt desk (seen next) place
at_state desk next state place same is = is ∙ ap (λ (x : State). Some x.place) (sym same)

-- no fault of the caller is new where the turn left the mark's faults
pub faults_same : {K : Type 0} (desk : DeskId) (n : ℕ) (first next : Pass) (s s' : Stored K) → Found desk n first s → Left desk next s' → s'.mark.fault ≡ s.mark.fault → NoFaultIsNew n (mark_of first) (mark_of next)
faults_same desk n first next s s' found left same x is own = found.no_new x (sym same ∙ (ap (λ (m : Mark). m.fault) (sym left.mark_is) ∙ is)) own

-- a refusal by the rules: the book and the faults stay
pub record Stays {K : Type 0} (called : Called) (s : Stored K) (r : Refused) (s' : Stored K) : Type 0 where
  pub up : s.mark.fault ≡ None
  pub said : called.said ≡ Err r
  pub book : s'.book ≡ s.book
  pub fault : s'.mark.fault ≡ s.mark.fault

pub stays_refused : {K : Type 0} (called : Called) (s : Stored K) (r : Refused) (s' : Stored K) (left_open : Open) → IsRefused called s r s' left_open → Stays called s r s'
stays_refused {K} called s r s' left_open is = record { up = is.up; said = is.said; book = ap (λ (x : Stored K). x.book) is.after; fault = ap (λ (x : Stored K). x.mark.fault) is.after }

pub stays_expired : {K : Type 0} (called : Called) (s : Stored K) (d : Draft) (r : Refused) (s' : Stored K) → Expires called s d r s' → Stays called s r s'
stays_expired {K} called s d r s' is = record { up = is.up; said = is.said; book = ap (λ (x : Stored K). x.book) is.after; fault = ap (λ (x : Stored K). x.mark.fault) is.after }

-- what is refused by the rules
refused_here : {K : Type 0} (desk : DeskId) (n draft moment : ℕ) (c : Command) (first next : Pass) (s s' : Stored K) (called : Called) (r : Refused) (left_open : Open) (why : Refusal) → Found desk n first s → Left desk next s' → Brings n draft s.book.state c moment called
    → Numbered desk c first draft → r.why ≡ why → IsRefused called s r s' left_open → Follows n (seen first) (seen next) × IsRuledOut desk c moment (mark_of first) (mark_of next) (seen next) r.place why
refused_here {K} desk n draft moment c first next s s' called r left_open why found left brings numbered same refused =
    let stays : Stays called s r s' = stays_refused called s r s' left_open refused in
    let state = state_same desk next s s' left stays.book in
    let own = refused_is n draft s.book.state c moment called r brings refused.said in (
      follows_same desk n first next s s' found left stays.book,
      record {
        at = at_state desk next s.book.state r.place state own.place;
        up = ap (λ (m : Mark). m.fault) left.mark_is ∙ (stays.fault ∙ stays.up);
        number = λ passes. numbered.number;
        comes = record { draft = draft; above = numbered.above; is = comes_at draft (state_of desk (seen next)) s.book.state c moment (Err why) state (subst (λ (w : Refusal). ComesToIn draft s.book.state c moment (Err w)) same own.why) };
      },
    )

-- contents are gone
gone_here : {K : Type 0} (desk : DeskId) (n draft opened moment attempts k : ℕ) (c : Command) (first next : Pass) (s s' : Stored K) (called : Called) (r : Refused) (keys : List Key) → Found desk n first s → Left desk next s' → Numbered desk c first draft → Stays called s r s'
    → IsGone s.book.state c (record { draft = draft; opened = opened; moment = moment }) r.place keys opened → k ≤ opened → BeganAt n (opens_draft c) s.book.state.place s'.mark draft opened → (opens_draft c ≡ true → AreGoneIn s.book c opened keys)
    → Follows n (seen first) (seen next) × Causes desk n c moment attempts k (mark_of first) (mark_of next) (seen next) r.place (refusals.Expired keys opened)
gone_here desk n draft opened moment attempts k c first next s s' called r keys found left numbered stays gone known began since =
    let state = state_same desk next s s' left stays.book in (
      follows_same desk n first next s s' found left stays.book,
      (
        at_state desk next s.book.state r.place state gone.at,
        record {
          up = ap (λ (m : Mark). m.fault) left.mark_is ∙ (stays.fault ∙ stays.up);
          passes = ap (λ (x : State). opening sha256 x c) state ∙ gone.passes;
          number = numbered.number;
          draft = draft;
          above = numbered.above;
          is = ap (λ (x : State). step sha256 x c (record { draft = draft; opened = opened; moment = moment })) state ∙ gone.is;
          known = known;
          began = subst (λ (z : State × Mark). BeganAt n (opens_draft c) z.0.place z.1 draft opened) (λ i. (sym state i, sym left.mark_is i)) began;
          gone = λ opens. gone_after desk (seen next) s.book c opened keys (stood_at desk next s s' left stays.book) (since opens);
        },
      ),
    )

-- that a call without a draft would show
pub gone_at_once : {K : Type 0} (desk : DeskId) (n moment attempts k : ℕ) (c : Command) (first next : Pass) (s s' : Stored K) (r : Refused) (left_open : Open) (keys : List Key) (opened : ℕ) → opens_draft c ≡ false → Found desk n first s → Left desk next s' → Numbered desk c first 0
    → k ≤ s.book.state.place → r.why ≡ refusals.Expired keys opened → IsRefused (call_on sha256 n s.book c moment) s r s' left_open
    → Follows n (seen first) (seen next) × Causes desk n c moment attempts k (mark_of first) (mark_of next) (seen next) r.place (refusals.Expired keys opened)
gone_at_once desk n moment attempts k c first next s s' r left_open keys opened opens found left numbered known gone refused =
    let is = call_gone n moment s.book c r keys opened opens gone refused.said in
    let there : opened ≡ s.book.state.place = gone_at_state s.book.state c (undrafted moment s.book.state) keys opened opens is.is in
    gone_here desk n 0 opened moment attempts k c first next s s' (call_on sha256 n s.book c moment) r keys found left numbered (stays_refused (call_on sha256 n s.book c moment) s r s' left_open refused)
    (subst (λ (place : ℕ). IsGone s.book.state c (record { draft = 0; opened = place; moment = moment }) r.place keys opened) (sym there) is)
    (subst (λ (place : ℕ). k ≤ place) (sym there) known)
    (subst (λ (b : Bool). BeganAt n b s.book.state.place s'.mark 0 opened) (sym opens) there)
    (λ yes. absurd (let wrong : false ≡ true = sym opens ∙ yes in cc))

-- that a draft would set
pub gone_in_draft : {K : Type 0} (desk : DeskId) (moment attempts k : ℕ) (d : Draft) (first next : Pass) (s s' : Stored K) (r : Refused) (keys : List Key) (opened : ℕ) → opens_draft (command_in d) ≡ true → Found desk d.caller first s → Left desk next s' → Numbered desk (command_in d) first d.number
    → k ≤ d.place → r.why ≡ refusals.Expired keys opened → Expires (called_in s d moment) s d r s' → (built : Built) → IsSettledOn s d built r → TellsGone s d built.head (settled.Refused r) → d.place ≤ s.book.state.place
    → Follows d.caller (seen first) (seen next) × Causes desk d.caller (command_in d) moment attempts k (mark_of first) (mark_of next) (seen next) r.place (refusals.Expired keys opened)
gone_in_draft {K} desk moment attempts k d first next s s' r keys opened opens found left numbered known gone refused built on tells early =
    let is = draft_gone d.caller moment d.number d.place s.book (command_in d) r keys opened gone refused.said in
    let there : opened ≡ d.place = gone_at_draft s.book.state (command_in d) (record { draft = d.number; opened = d.place; moment = moment }) keys opened opens is.is in
    let told : s'.mark.expired ≡ Some (record { number = d.number; caller = d.caller; place = opened }) = ap (λ (x : Stored K). x.mark.expired) refused.after ∙ (λ i. Some (record { number = d.number; caller = d.caller; place = sym there i })) in
    gone_here desk d.caller d.number opened moment attempts k (command_in d) first next s s' (called_in s d moment) r keys found left numbered (stays_expired (called_in s d moment) s d r s' refused)
    (subst (λ (place : ℕ). IsGone s.book.state (command_in d) (record { draft = d.number; opened = place; moment = moment }) r.place keys opened) (sym there) is)
    (subst (λ (place : ℕ). k ≤ place) (sym there) known)
    (subst (λ (b : Bool). BeganAt d.caller b s.book.state.place s'.mark d.number opened) (sym opens) told)
    (λ _. gone_in s d built r keys opened refused.up is.passes gone on tells early)

-- no step refuses so
never : {A : Type 0} (draft : ℕ) (state : State) (c : Command) (moment : ℕ) (why : Refusal) → (IsUsualCause why → ⊥) → ComesToIn draft state c moment (Err why) → A
never draft state c moment why none comes = absurd (none (subst (λ (o : Outcome). IsUsual o) comes.1 (usual_step state c (record { draft = draft; opened = comes.0; moment = moment }))))

is_false : (b : Bool) → b ≡ false → b ≡ true → ⊥
is_false b f t = let wrong : false ≡ true = sym f ∙ t in cc

by_limit : (desk : DeskId) (n moment attempts k : ℕ) (c : Command) (first next : Pass) (which : Quantity) (number : ℕ) (place : Option ℕ)
    → Follows n (seen first) (seen next) × IsRuledOut desk c moment (mark_of first) (mark_of next) (seen next) place (refusals.Limit which number)
    → Follows n (seen first) (seen next) × Causes desk n c moment attempts k (mark_of first) (mark_of next) (seen next) place (refusals.Limit which number)
by_limit desk n moment attempts k c first next quantities.Drafts number place h = never h.1.comes.draft (state_of desk (seen next)) c moment (refusals.Limit quantities.Drafts number) (is_false false refl) h.1.comes.is
by_limit desk n moment attempts k c first next quantities.References number place h = h
by_limit desk n moment attempts k c first next quantities.Log number place h = h
by_limit desk n moment attempts k c first next quantities.Commits number place h = h
by_limit desk n moment attempts k c first next quantities.Keys number place h = h
by_limit desk n moment attempts k c first next quantities.Contents number place h = h
by_limit desk n moment attempts k c first next quantities.Names number place h = h
by_limit desk n moment attempts k c first next quantities.Checkpoint number place h = h

not_none : (x : FailedAppend) → None ≡ Some x → ⊥
not_none x e = cc

-- where contents are gone it is told apart
pub causes : {K : Type 0} (desk : DeskId) (n draft moment attempts k : ℕ) (c : Command) (first next : Pass) (s s' : Stored K) (called : Called) (r : Refused) (left_open : Open) (why : Refusal) → Found desk n first s → Left desk next s' → Brings n draft s.book.state c moment called → Numbered desk c first draft
    → ((keys : List Key) (opened : ℕ) → why ≡ refusals.Expired keys opened → IsRefused called s r s' left_open → Follows n (seen first) (seen next) × Causes desk n c moment attempts k (mark_of first) (mark_of next) (seen next) r.place (refusals.Expired keys opened))
    → r.why ≡ why → Refuses called n s r why s' left_open → Follows n (seen first) (seen next) × Causes desk n c moment attempts k (mark_of first) (mark_of next) (seen next) r.place why
causes {K} desk n draft moment attempts k c first next s s' called r left_open refusals.NoMemory found left brings numbered gone same h =
    let book : s'.book ≡ s.book = ap (λ (x : Stored K). x.book) h.1 in
    (follows_same desk n first next s s' found left book, (h.0, faults_same desk n first next s s' found left (ap (λ (x : Stored K). x.mark.fault) h.1)))
causes {K} desk n draft moment attempts k c first next s s' called r left_open (refusals.Down count) found left brings numbered gone same h =
    let book : s'.book ≡ s.book = ap (λ (x : Stored K). x.book) h.2 in
    let state = state_same desk next s s' left book in
    let is : (mark_of next).fault ≡ Some h.1.0 = ap (λ (m : Mark). m.fault) left.mark_is ∙ (ap (λ (x : Stored K). x.mark.fault) h.2 ∙ h.1.1) in (
      follows_same desk n first next s s' found left book,
      (at_state desk next s.book.state r.place state h.0, record { fault = h.1.0; is = is; count_is = h.1.2; known = λ own. found.no_new h.1.0 h.1.1 own }),
    )
causes {K} desk n draft moment attempts k c first next s s' called r left_open refusals.Fault found left brings numbered gone same h =
    let book : s'.book ≡ s.book = ap (λ (x : Stored K). x.book) h.after in
    let state = state_same desk next s s' left book in
    let is : (mark_of next).fault ≡ Some h.fault = ap (λ (m : Mark). m.fault) left.mark_is ∙ ap (λ (x : Stored K). x.mark.fault) h.after in (
      follows_same desk n first next s s' found left book,
      (
        at_state desk next s.book.state r.place state h.place,
        record {
          fault = h.fault;
          is = is;
          caller_is = h.caller_is;
          new = λ was. not_none h.fault (sym h.up ∙ found.kept h.fault was);
          entry = h.entry;
          accepted = entry_at (state_of desk (seen next)) s.book.state n c moment h.entry state (entry_is n draft s.book.state c moment called h.entry brings h.logged);
          draft = subst (IsDraftAbove (mark_of first).draft (opens_draft c)) (sym (entry_draft_is n draft s.book.state c moment called h.entry brings h.logged)) numbered.above;
          number = numbered.number;
          payload = h.payload;
        },
      ),
    )
causes desk n draft moment attempts k c first next s s' called r left_open (refusals.Expired keys opened) found left brings numbered gone same h = gone keys opened refl h
causes desk n draft moment attempts k c first next s s' called r left_open (refusals.RetriesSpent pairs) found left brings numbered gone same h =
    let out = (refused_here desk n draft moment c first next s s' called r left_open (refusals.RetriesSpent pairs) found left brings numbered same h).1 in
    never out.comes.draft (state_of desk (seen next)) c moment (refusals.RetriesSpent pairs) (is_false false refl) out.comes.is
causes {K} desk n draft moment attempts k c first next s s' called r left_open (refusals.Limit which number) found left brings numbered gone same h =
    by_limit desk n moment attempts k c first next which number r.place (refused_here desk n draft moment c first next s s' called r left_open (refusals.Limit which number) found left brings numbered same h)
causes desk n draft moment attempts k c first next s s' called r left_open (refusals.BadRequest x) found left brings numbered gone same h = refused_here desk n draft moment c first next s s' called r left_open (refusals.BadRequest x) found left brings numbered same h
causes desk n draft moment attempts k c first next s s' called r left_open refusals.RefNotFound found left brings numbered gone same h = refused_here desk n draft moment c first next s s' called r left_open refusals.RefNotFound found left brings numbered same h
causes desk n draft moment attempts k c first next s s' called r left_open refusals.RefExists found left brings numbered gone same h = refused_here desk n draft moment c first next s s' called r left_open refusals.RefExists found left brings numbered same h
causes desk n draft moment attempts k c first next s s' called r left_open (refusals.ContentNotFound x) found left brings numbered gone same h = refused_here desk n draft moment c first next s s' called r left_open (refusals.ContentNotFound x) found left brings numbered same h
causes desk n draft moment attempts k c first next s s' called r left_open (refusals.Conflicts x) found left brings numbered gone same h = refused_here desk n draft moment c first next s s' called r left_open (refusals.Conflicts x) found left brings numbered same h
causes desk n draft moment attempts k c first next s s' called r left_open (refusals.SweepOpen x) found left brings numbered gone same h = refused_here desk n draft moment c first next s s' called r left_open (refusals.SweepOpen x) found left brings numbered same h
causes desk n draft moment attempts k c first next s s' called r left_open (refusals.Collision x y z) found left brings numbered gone same h = refused_here desk n draft moment c first next s s' called r left_open (refusals.Collision x y z) found left brings numbered same h
causes desk n draft moment attempts k c first next s s' called r left_open refusals.NoRoute found left brings numbered gone same h = refused_here desk n draft moment c first next s s' called r left_open refusals.NoRoute found left brings numbered same h
causes desk n draft moment attempts k c first next s s' called r left_open (refusals.WrongMethod x) found left brings numbered gone same h = refused_here desk n draft moment c first next s s' called r left_open (refusals.WrongMethod x) found left brings numbered same h
causes desk n draft moment attempts k c first next s s' called r left_open refusals.TooLarge found left brings numbered gone same h = refused_here desk n draft moment c first next s s' called r left_open refusals.TooLarge found left brings numbered same h
causes desk n draft moment attempts k c first next s s' called r left_open refusals.Encoding found left brings numbered gone same h = refused_here desk n draft moment c first next s s' called r left_open refusals.Encoding found left brings numbered same h
causes desk n draft moment attempts k c first next s s' called r left_open refusals.OldFormat found left brings numbered gone same h = refused_here desk n draft moment c first next s s' called r left_open refusals.OldFormat found left brings numbered same h

-- ---- on the only pass

-- the store as a turn finds it, against the book that the only pass stood at when the call came
pub record AloneAt {K : Type 0} (called : Called) (b : Book) (f : Option FailedAppend) (s : Stored K) : Type 0 where
  pub log : s.book.log ≡ b.log
  pub base : s.book.base ≡ b.base
  pub state : s.book.state ≡ b.state
  pub low : b.draft ≤ s.book.draft
  pub high : s.book.draft ≤ b.draft + 1
  pub draft : called.draft ≡ s.book.draft
  pub fault : s.mark.fault ≡ f
  pub down : (x : FailedAppend) → f ≡ Some x → s.book ≡ b

pub alone_ok : {K : Type 0} (desk : DeskId) (n : ℕ) (next : Pass) (s s' : Stored K) (called : Called) (b : Book) (f : Option FailedAppend) (told : Told) (left_open : Open) → AloneAt called b f s → Left desk next s' → Does called s told s' left_open
    → AnswersAlone n called b (book_of desk next) f (mark_of next).fault (Ok told)
alone_ok {K} desk n next s s' called b f told left_open at left does =
    let book : s'.book ≡ after_call s.book called = ap (λ (x : Stored K). x.book) does.after in (
      record { said = does.said; book = left.book_is ∙ book ∙ (λ i. record { state = called.state; draft = called.draft; log = called.logged ++ at.log i; base = at.base i }) },
      sym at.fault ∙ does.up,
      ap (λ (m : Mark). m.fault) left.mark_is ∙ (ap (λ (x : Stored K). x.mark.fault) does.after ∙ does.up),
    )

pub refused_alone : {K : Type 0} (desk : DeskId) (n draft moment : ℕ) (c : Command) (next : Pass) (s s' : Stored K) (called : Called) (b : Book) (f : Option FailedAppend) (r : Refused) → AloneAt called b f s → Left desk next s' → Brings n draft s.book.state c moment called
    → Stays called s r s' → IsCalled called b (book_of desk next) (Err r) × (f ≡ None) × ((mark_of next).fault ≡ None)
refused_alone desk n draft moment c next s s' called b f r at left brings refused =
    let own = refused_is n draft s.book.state c moment called r brings refused.said in
    let state : s.book.state ≡ called.state = sym own.state_is in
    let log : s.book.log ≡ called.logged ++ b.log = at.log ∙ ap (λ (l : List LogEntry). l ++ b.log) (sym own.none) in
    let after : s.book ≡ after_call b called = λ i. record { state = state i; draft = sym at.draft i; log = log i; base = at.base i } in (
      record { said = refused.said; book = left.book_is ∙ refused.book ∙ after },
      sym at.fault ∙ refused.up,
      ap (λ (m : Mark). m.fault) left.mark_is ∙ (refused.fault ∙ refused.up),
    )

pub given_up_alone : {K : Type 0} (desk : DeskId) (n : ℕ) (next : Pass) (s s' : Stored K) (called : Called) (b : Book) (f : Option FailedAppend) (r : Refused) → AloneAt called b f s → Left desk next s' → s'.book ≡ s.book → s'.mark.fault ≡ s.mark.fault → r.place ≡ None
    → IsGivenUp b (book_of desk next) r × ((mark_of next).fault ≡ f)
given_up_alone desk n next s s' called b f r at left same fault none =
    let book : book_of desk next ≡ s.book = left.book_is ∙ same in
    let draft : (book_of desk next).draft ≡ s.book.draft = ap (λ (x : Book). x.draft) book in
    let low : b.draft ≤ s.book.draft = at.low in
    let high : s.book.draft ≤ b.draft + 1 = at.high in (
      record { place = none; state = ap (λ (x : Book). x.state) book ∙ at.state; log = ap (λ (x : Book). x.log) book ∙ at.log; draft_kept = omega arith; draft_taken = omega arith },
      ap (λ (m : Mark). m.fault) left.mark_is ∙ (fault ∙ at.fault),
    )

pub alone_err : {K : Type 0} (desk : DeskId) (n draft moment : ℕ) (c : Command) (next : Pass) (s s' : Stored K) (called : Called) (b : Book) (f : Option FailedAppend) (r : Refused) (left_open : Open) (why : Refusal) → AloneAt called b f s → Left desk next s' → Brings n draft s.book.state c moment called
    → r.why ≡ why → Refuses called n s r why s' left_open → RefusesAlone n called b (book_of desk next) f (mark_of next).fault r why
alone_err {K} desk n draft moment c next s s' called b f r left_open refusals.NoMemory at left brings same h =
    given_up_alone desk n next s s' called b f r at left (ap (λ (x : Stored K). x.book) h.1) (ap (λ (x : Stored K). x.mark.fault) h.1) h.0
alone_err {K} desk n draft moment c next s s' called b f r left_open (refusals.Down count) at left brings same h =
    let was : f ≡ Some h.1.0 = sym at.fault ∙ h.1.1 in
    record {
      place = h.0 ∙ ap (λ (x : State). Some x.place) at.state;
      book = left.book_is ∙ (ap (λ (x : Stored K). x.book) h.2 ∙ at.down h.1.0 was);
      fault = h.1.0;
      was = was;
      is = ap (λ (m : Mark). m.fault) left.mark_is ∙ (ap (λ (x : Stored K). x.mark.fault) h.2 ∙ h.1.1);
      count_is = h.1.2;
    }
alone_err {K} desk n draft moment c next s s' called b f r left_open refusals.Fault at left brings same h =
    let book : book_of desk next ≡ s.book = left.book_is ∙ ap (λ (x : Stored K). x.book) h.after in
    record {
      place = h.place ∙ ap (λ (x : State). Some x.place) at.state;
      unkept = record { entry = h.entry; logged = h.logged; state = ap (λ (x : Book). x.state) book ∙ at.state; log = ap (λ (x : Book). x.log) book ∙ at.log; base = ap (λ (x : Book). x.base) book ∙ at.base; draft = ap (λ (x : Book). x.draft) book ∙ sym at.draft };
      up = sym at.fault ∙ h.up;
      fault = h.fault;
      is = ap (λ (m : Mark). m.fault) left.mark_is ∙ ap (λ (x : Stored K). x.mark.fault) h.after;
      caller_is = h.caller_is;
      entry = h.entry;
      logged = h.logged;
      payload = h.payload;
    }
alone_err desk n draft moment c next s s' called b f r left_open (refusals.Expired keys opened) at left brings same h = refused_alone desk n draft moment c next s s' called b f r at left brings (stays_refused called s r s' left_open h)
alone_err desk n draft moment c next s s' called b f r left_open (refusals.RetriesSpent pairs) at left brings same h =
    let own = refused_is n draft s.book.state c moment called r brings h.said in
    never draft s.book.state c moment (refusals.RetriesSpent pairs) (is_false false refl) (subst (λ (w : Refusal). ComesToIn draft s.book.state c moment (Err w)) same own.why)
alone_err desk n draft moment c next s s' called b f r left_open (refusals.Limit x y) at left brings same h = refused_alone desk n draft moment c next s s' called b f r at left brings (stays_refused called s r s' left_open h)
alone_err desk n draft moment c next s s' called b f r left_open (refusals.BadRequest x) at left brings same h = refused_alone desk n draft moment c next s s' called b f r at left brings (stays_refused called s r s' left_open h)
alone_err desk n draft moment c next s s' called b f r left_open refusals.RefNotFound at left brings same h = refused_alone desk n draft moment c next s s' called b f r at left brings (stays_refused called s r s' left_open h)
alone_err desk n draft moment c next s s' called b f r left_open refusals.RefExists at left brings same h = refused_alone desk n draft moment c next s s' called b f r at left brings (stays_refused called s r s' left_open h)
alone_err desk n draft moment c next s s' called b f r left_open (refusals.ContentNotFound x) at left brings same h = refused_alone desk n draft moment c next s s' called b f r at left brings (stays_refused called s r s' left_open h)
alone_err desk n draft moment c next s s' called b f r left_open (refusals.Conflicts x) at left brings same h = refused_alone desk n draft moment c next s s' called b f r at left brings (stays_refused called s r s' left_open h)
alone_err desk n draft moment c next s s' called b f r left_open (refusals.SweepOpen x) at left brings same h = refused_alone desk n draft moment c next s s' called b f r at left brings (stays_refused called s r s' left_open h)
alone_err desk n draft moment c next s s' called b f r left_open (refusals.Collision x y z) at left brings same h = refused_alone desk n draft moment c next s s' called b f r at left brings (stays_refused called s r s' left_open h)
alone_err desk n draft moment c next s s' called b f r left_open refusals.NoRoute at left brings same h = refused_alone desk n draft moment c next s s' called b f r at left brings (stays_refused called s r s' left_open h)
alone_err desk n draft moment c next s s' called b f r left_open (refusals.WrongMethod x) at left brings same h = refused_alone desk n draft moment c next s s' called b f r at left brings (stays_refused called s r s' left_open h)
alone_err desk n draft moment c next s s' called b f r left_open refusals.TooLarge at left brings same h = refused_alone desk n draft moment c next s s' called b f r at left brings (stays_refused called s r s' left_open h)
alone_err desk n draft moment c next s s' called b f r left_open refusals.Encoding at left brings same h = refused_alone desk n draft moment c next s s' called b f r at left brings (stays_refused called s r s' left_open h)
alone_err desk n draft moment c next s s' called b f r left_open refusals.OldFormat at left brings same h = refused_alone desk n draft moment c next s s' called b f r at left brings (stays_refused called s r s' left_open h)
