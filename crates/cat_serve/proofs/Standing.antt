-- What a pass does at a request, from where it stands.
use Rattle.std.proofs.Common.{◌≡◌, ℕ, ◌+◌, List, [], ◌∷◌, Option, Some, None, Result, Ok, Err, refl, sym, ◌∙◌, ap, ap₂, subst}
use Rattle.sha2.specs.Sha256.{sha256}
use Rattle.cat_model.specs.declared.ask.Ask.{Ask}
use Rattle.cat_model.specs.declared.command.Command.{Command}
use Rattle.cat_model.specs.declared.refusal.Refusal.{Refusal}
use Rattle.cat_model.specs.declared.refusal.Refusal.TheVariants.{Down, Fault, NoMemory, RetriesSpent}
use Rattle.cat_model.specs.declared.refusal.Refused.{Refused}
use Rattle.cat_model.specs.declared.reply.Told.{Told}
use Rattle.cat_model.specs.Book.{Book, IsCalled, Reads, call_on}
use Rattle.cat_model.specs.Calls.{Called}
use Rattle.cat_model.specs.Drafts.{no_names, nothing_open}
use Rattle.cat_model.specs.Mark.{FailedAppend, Mark}
use Rattle.cat_model.specs.Past.{swept_on}
use Rattle.cat_model.specs.Requests.{Brought, brought, request, said_only}
use Rattle.cat_model.specs.Sweeps.{sweep_of}
use Rattle.cat_policy.specs.declared.policy.Policy.{Policy}
use Rattle.cat_policy.specs.Policies.{resolved}
use Rattle.cat_http.specs.Message.{Message}
use Rattle.cat_rest.specs.declared.wanted.Wanted.{Wanted}
use Rattle.cat_rest.specs.declared.wanted.Wanted.TheVariants.{Read, Change, Collect}
use Rattle.cat_rest.specs.Wanted.{wanted}
use Rattle.cat_rest.specs.Faults.{Answers}
use Rattle.cat_desk.specs.Pass.{DeskId, IsFree, Keeps, all_left_by, mark_of, number_of}
use Rattle.cat_desk.specs.declared.pass.Pass.{Pass}
use Rattle.cat_work.specs.Answers.{AnswersAlone, RefusesAlone, journal_in, rests_in}
use Rattle.cat_work.specs.MarkLaws.{journal_stays}
use Rattle.cat_work.specs.Passes.{IsAlone, IsReady, book_of}
use Rattle.cat_serve.specs.Sessions.{Readings, Fallen, HasTaken, Standing, IsAt, down_call, down_request, journal_by, seen_failed, seen_fallen, wants_in}
use Rattle.cat_serve.specs.Answers.{Brings}
use Rattle.cat_serve.proofs.Brought.{read, refused_by_bytes}
use Rattle.cat_serve.proofs.Calls.{IsNextAtMost, call_draft, sweep_draft}
use Rattle.cat_serve.proofs.Changed.{after_change, called, down, falls, given_up_change}
use Rattle.cat_serve.proofs.Changing.{Settles, call_settles, sweep_settles}
use Rattle.cat_serve.proofs.Clocked.{takes_none}

pub none_fell : (f : Option FailedAppend) (fallen : Option Fallen) → seen_failed f ≡ seen_fallen fallen → f ≡ None → fallen ≡ None
none_fell f None is none = refl
none_fell f (Some y) is none = let no : ◌≡◌ {A = Option (ℕ × List ℕ)} None (Some (y.count, y.payload)) = sym (ap seen_failed none) ∙ is in absurd (none_is_some _ no)
  where
    none_is_some : (x : ℕ × List ℕ) → ◌≡◌ {A = Option (ℕ × List ℕ)} None (Some x) → ⊥
    none_is_some x e = cc

-- the append that a standing knows of
pub record IsFallen (fallen : Option Fallen) (count : ℕ) : Type 0 where
  pub fell : Fallen
  pub is : fallen ≡ Some fell
  pub count_is : fell.count ≡ count

pub one_fell : (f : Option FailedAppend) (fallen : Option Fallen) (x : FailedAppend) → seen_failed f ≡ seen_fallen fallen → f ≡ Some x → IsFallen fallen x.count
one_fell f None x is one = absurd (none_is_some _ (sym is ∙ ap seen_failed one))
  where
    none_is_some : (x : ℕ × List ℕ) → ◌≡◌ {A = Option (ℕ × List ℕ)} None (Some x) → ⊥
    none_is_some x e = cc
one_fell f (Some y) x is one = record { fell = y; is = refl; count_is = same (y.count, y.payload) (x.count, x.payload) (sym is ∙ ap seen_failed one) }
  where
    same : (a b : ℕ × List ℕ) → ◌≡◌ {A = Option (ℕ × List ℕ)} (Some a) (Some b) → a.0 ≡ b.0
    same a b e = cc

-- a pass that is as much as it was
pub keeps_self : (desk : DeskId) (p : Pass) → IsFree desk p → Keeps desk p p
keeps_self desk p free = record { free = free; number = refl; spare = refl; held = refl }

pub keeps_on : (desk : DeskId) (p q r : Pass) → Keeps desk p q → Keeps desk q r → Keeps desk p r
keeps_on desk p q r one two = record { free = two.free; number = two.number ∙ one.number; spare = two.spare ∙ one.spare; held = two.held ∙ one.held }

-- the only pass of its desk stays so
alone_on : (desk : DeskId) (p q : Pass) → Keeps desk p q → IsAlone p → IsAlone q
alone_on desk p q kept alone = ap₂ (λ (a b : ℕ). a + b) kept.held kept.spare ∙ alone

module _ (desk : DeskId) where
  -- what a request brings, and where the pass stands then, once these readings were taken
  abbrev pub BringsOn : List ℕ → Readings → Standing → Message → Result Told Refused → Pass → Type 0
  BringsOn taken k s m told pass = (b : Brought) × (s' : Standing) × Brings k s m told b s' × IsAt desk s' pass × HasTaken taken s s'

  -- where a pass stands after a call
  pub stands_on : (s s' : Standing) (p q : Pass) → IsAt desk s p → Keeps desk p q → IsReady desk q
      → book_of desk q ≡ s'.session.book → seen_failed (mark_of q).fault ≡ seen_fallen s'.fallen → journal_by desk.opened (mark_of q) ≡ s'.session.journal → all_left_by q ≡ nothing_open → IsAt desk s' q
  stands_on s s' p q at kept ready book fault journal rests =
      record { ready = ready; alone = alone_on desk p q kept at.alone; number = kept.number ∙ at.number; book_is = book; fault_is = fault; journal_is = journal; rests = rests }

  -- a journal in which no checkpoint was made
  same_journal : (p q : Pass) → journal_in (mark_of q) ≡ journal_in (mark_of p) → journal_by desk.opened (mark_of q) ≡ journal_by desk.opened (mark_of p)
  same_journal p q same = λ i. record { format = (same i).0; base = (same i).1; bases = (same i).2; payload = (journal_by desk.opened (mark_of p)).payload }

  -- ---- requests that change nothing

  pub from_reading : (k : Readings) (s : Standing) (m : Message) (p q : Pass) (ask : Ask) (result : Result Told Refused) → IsAt desk s p → wanted m ≡ Ok (Read ask)
      → Keeps desk p q → IsReady desk q → Reads sha256 (book_of desk q) ask result
      → (IsAlone p → (book_of desk q ≡ book_of desk p) × ((mark_of q).fault ≡ (mark_of p).fault) × (all_left_by q ≡ all_left_by p))
      → (IsAlone p → mark_of q ≡ mark_of p) → BringsOn [] k s m result q
  from_reading k s m p q ask result at w kept ready reads alone still =
      let same = alone at.alone in
      let book : book_of desk q ≡ s.session.book = same.0 ∙ at.book_is in (
        said_only s.session result,
        s,
        read k s m ask result w (subst (λ (x : Book). Reads sha256 x ask result) book reads),
        stands_on s s p q at kept ready book (ap seen_failed same.1 ∙ at.fault_is) (ap (λ (x : Mark). journal_by desk.opened x) (still at.alone) ∙ at.journal_is) (same.2 ∙ at.rests),
        takes_none s,
      )

  pub from_refusal : (k : Readings) (s : Standing) (m : Message) (pass : Pass) (refused : Refused) → IsAt desk s pass
      → Answers {A = Wanted} (Err refused) (wanted m) → BringsOn [] k s m (Err refused) pass
  from_refusal k s m pass refused at w = (said_only s.session (Err refused), s, refused_by_bytes k s m refused w, at, takes_none s)

  -- ---- calls

  -- the request's call on the session's book
  module _ (k : Readings) (s : Standing) (m : Message) (c : Called) (p q : Pass) (moment : ℕ) (at : IsAt desk s p) (kept : Keeps desk p q) (ready : IsReady desk q) (rests : all_left_by q ≡ nothing_open)
      (is : brought s.session c ≡ request sha256 1 k s.session (wants_in (wanted m))) (downs : (count : ℕ) → down_call s.session count ≡ down_request k s.session count (wanted m))
      (draft : IsNextAtMost s.session.book.draft c.draft) (settles : Settles c s.session.book.state) (unbased : journal_in (mark_of q) ≡ journal_in (mark_of p)) where
    journal_kept : journal_by desk.opened (mark_of q) ≡ s.session.journal
    journal_kept = same_journal p q unbased ∙ at.journal_is

    -- where the pass stands after the call
    stands_at : (fallen : Option Fallen) → seen_failed (mark_of q).fault ≡ seen_fallen fallen → IsAt desk (after_change s (book_of desk q) fallen) q
    stands_at fallen fault = stands_on s (after_change s (book_of desk q) fallen) p q at kept ready refl fault journal_kept rests

    -- what the call brings
    brings_all : (told : Result Told Refused) → IsCalled c s.session.book (book_of desk q) told × ((mark_of p).fault ≡ None) × ((mark_of q).fault ≡ None) → BringsOn (moment ∷ []) k s m told q
    brings_all told a = (
      _,
      after_change s (book_of desk q) None,
      called k s m c (book_of desk q) (none_fell (mark_of p).fault s.fallen at.fault_is a.1) is told draft settles a.0,
      stands_at None (ap seen_failed a.2),
      refl,
    )

    -- by why the call was refused
    refused_by : (place : Option ℕ) (why : Refusal)
        → RefusesAlone 1 c s.session.book (book_of desk q) (mark_of p).fault (mark_of q).fault (record { place = place; why = why }) why
        → BringsOn (moment ∷ []) k s m (Err (record { place = place; why = why })) q
    refused_by place NoMemory a =
        (_, after_change s (book_of desk q) s.fallen, given_up_change k s m (book_of desk q) place (ap (λ (b : Book). b.base) at.book_is) a.0, stands_at s.fallen (ap seen_failed a.1 ∙ at.fault_is), refl)
    refused_by place Fault a =
        let fallen : Fallen = record { count = a.fault.count; payload = a.fault.payload } in (
          _,
          after_change s (book_of desk q) (Some fallen),
          falls k s m c (book_of desk q) (none_fell (mark_of p).fault s.fallen at.fault_is a.up) is place fallen a.entry a.place a.logged a.payload a.unkept,
          stands_at (Some fallen) (ap seen_failed a.is),
          refl,
        )
    refused_by place (Down count) a =
        let fell = one_fell (mark_of p).fault s.fallen a.fault at.fault_is a.was in
        let told : ◌≡◌ {A = Result Told Refused} (Err (record { place = Some s.session.book.state.place; why = Down fell.fell.count })) (Err (record { place = place; why = Down count })) =
        ap₂ (λ (x : Option ℕ) (n : ℕ). Err (record { place = x; why = Down n })) (sym a.place) (fell.count_is ∙ a.count_is) in
        subst (λ (x : Result Told Refused). BringsOn (moment ∷ []) k s m x q) told (
          _,
          after_change s s.session.book s.fallen,
          down k s fell.fell m fell.is (downs fell.fell.count),
          stands_on s (after_change s s.session.book s.fallen) p q at kept ready a.book (ap seen_failed (a.is ∙ sym a.was) ∙ at.fault_is) journal_kept rests,
          refl,
        )
    refused_by place (RetriesSpent pairs) a = absurd a
    refused_by place why a = brings_all (Err (record { place = place; why = why })) a

    -- by what was told
    changed : (result : Result Told Refused) → AnswersAlone 1 c s.session.book (book_of desk q) (mark_of p).fault (mark_of q).fault result → BringsOn (moment ∷ []) k s m result q
    changed (Ok x) a = brings_all (Ok x) a
    changed (Err refused) a = refused_by refused.place refused.why a

  pub from_change : (k : Readings) (s : Standing) (m : Message) (command : Command) (p q : Pass) (moment : ℕ) (result : Result Told Refused)
      → IsAt desk s p → wanted m ≡ Ok (Change command) → Keeps desk p q → IsReady desk q → k s.session.readings ≡ moment
      → (IsAlone p → AnswersAlone (number_of p) (call_on sha256 (number_of p) (book_of desk p) command moment) (book_of desk p) (book_of desk q) (mark_of p).fault (mark_of q).fault result)
      → (IsAlone p → all_left_by p ≡ nothing_open → all_left_by q ≡ nothing_open)
      → (IsAlone p → rests_in (mark_of q) ≡ rests_in (mark_of p)) → BringsOn (moment ∷ []) k s m result q
  from_change k s m command p q moment result at w kept ready reads alone rests unswept =
      let b = s.session.book in
      let t = k s.session.readings in
      let by_number = subst (λ (n : ℕ). AnswersAlone n (call_on sha256 n (book_of desk p) command moment) (book_of desk p) (book_of desk q) (mark_of p).fault (mark_of q).fault result) at.number (alone at.alone) in
      let by_book = subst (λ (x : Book). AnswersAlone 1 (call_on sha256 1 x command moment) x (book_of desk q) (mark_of p).fault (mark_of q).fault result) at.book_is by_number in
      let by_moment = subst (λ (n : ℕ). AnswersAlone 1 (call_on sha256 1 b command n) b (book_of desk q) (mark_of p).fault (mark_of q).fault result) (sym reads) by_book in
      changed k s m (call_on sha256 1 b command t) p q moment at kept ready (rests at.alone at.rests) (ap (λ (x : Result Wanted Refusal). request sha256 1 k s.session (wants_in x)) (sym w))
      (λ count. ap (down_request k s.session count) (sym w)) (call_draft sha256 1 b.state b.draft command t) (call_settles 1 b.state b.draft command t) (journal_stays (mark_of q) (mark_of p) (unswept at.alone)) result by_moment

  pub from_collection : (k : Readings) (s : Standing) (m : Message) (policy : Policy) (p q : Pass) (moment : ℕ) (result : Result Told Refused)
      → IsAt desk s p → wanted m ≡ Ok (Collect policy) → Keeps desk p q → IsReady desk q → k s.session.readings ≡ moment
      → (IsAlone p → all_left_by p ≡ nothing_open
      → AnswersAlone (number_of p) (swept_on sha256 (number_of p) (book_of desk p) (resolved moment policy) no_names moment) (book_of desk p) (book_of desk q) (mark_of p).fault (mark_of q).fault result)
      → (IsAlone p → all_left_by p ≡ nothing_open → all_left_by q ≡ nothing_open)
      → (IsAlone p → all_left_by p ≡ nothing_open → journal_in (mark_of q) ≡ journal_in (mark_of p)) → BringsOn (moment ∷ []) k s m result q
  from_collection k s m policy p q moment result at w kept ready reads alone rests unbased =
      let b = s.session.book in
      let t = k s.session.readings in
      let by_number = subst (λ (n : ℕ). AnswersAlone n (swept_on sha256 n (book_of desk p) (resolved moment policy) no_names moment) (book_of desk p) (book_of desk q) (mark_of p).fault (mark_of q).fault result) at.number (alone at.alone at.rests) in
      let by_book = subst (λ (x : Book). AnswersAlone 1 (swept_on sha256 1 x (resolved moment policy) no_names moment) x (book_of desk q) (mark_of p).fault (mark_of q).fault result) at.book_is by_number in
      let by_moment = subst (λ (n : ℕ). AnswersAlone 1 (swept_on sha256 1 b (resolved n policy) no_names n) b (book_of desk q) (mark_of p).fault (mark_of q).fault result) (sym reads) by_book in
      let sweep = sweep_of b.state.place (resolved t policy) no_names in
      changed k s m (swept_on sha256 1 b (resolved t policy) no_names t) p q moment at kept ready (rests at.alone at.rests) (ap (λ (x : Result Wanted Refusal). request sha256 1 k s.session (wants_in x)) (sym w))
      (λ count. ap (down_request k s.session count) (sym w)) (sweep_draft 1 b.state _ b.draft t sweep) (sweep_settles 1 b.state _ b.draft t sweep) (unbased at.alone at.rests) result by_moment
