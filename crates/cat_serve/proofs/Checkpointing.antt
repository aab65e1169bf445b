-- What a checkpoint comes to on the only pass of a desk, from where it stands.
use Rattle.std.proofs.Common.{◌≡◌, ◌≢◌, ◌≤◌, ◌<◌, ◌==◌, ◌⊎◌, ℕ, ◌+◌, List, [], length, reverse, Option, Some, None, Bool, Result, Ok, Err, refl, sym, ◌∙◌, ap, ap₂, subst, inl, inr, eq-eqb, ne_eqb, if◌then◌else◌, arith}
use Rattle.std.specs.Option.{option_map}
use Rattle.std.proofs.lemmas.Bool.{le-leb, lt-leb}
use Rattle.std.proofs.lemmas.List.{reverse-reverse}
use Rattle.sha2.specs.Sha256.{sha256}
use Rattle.cat_frames.specs.Bases.{checkpoint_at, checkpoint_spelling}
use Rattle.cat_model.specs.declared.limits.Quantity.{Quantity}
use Rattle.cat_model.specs.declared.limits.Quantity.TheVariants as quantities
use Rattle.cat_model.specs.declared.refusal.Refusal.{Refusal}
use Rattle.cat_model.specs.declared.refusal.Refusal.TheVariants as refusals
use Rattle.cat_model.specs.declared.refusal.Refused.{Refused}
use Rattle.cat_model.specs.declared.reply.Reply.{Reply}
use Rattle.cat_model.specs.declared.reply.Reply.TheVariants as replies
use Rattle.cat_model.specs.declared.reply.Told.{Told}
use Rattle.cat_model.specs.Book.{Book}
use Rattle.cat_model.specs.Drafts.{Open, nothing_open}
use Rattle.cat_model.specs.Mark.{FailedAppend, Grows, Mark}
use Rattle.cat_model.specs.Refusing.{◌>>=◌, needs_at_most}
use Rattle.cat_model.specs.Requests.{Brought, IsGivenUp, Journal, Session, checkpoint_answer, checkpointed, request, said_only}
use Rattle.cat_http.specs.Message.{Message}
use Rattle.cat_rest.specs.declared.wanted.Wanted.{Wanted}
use Rattle.cat_rest.specs.declared.wanted.Wanted.TheVariants.{Checkpoint}
use Rattle.cat_rest.specs.Wanted.{wanted}
use Rattle.cat_desk.specs.Pass.{DeskId, Keeps, all_left_by, mark_of, number_of, seen}
use Rattle.cat_desk.specs.declared.pass.Pass.{Pass}
use Rattle.cat_work.specs.Checkpoints.{Answers, Causes, ChecksTo, Falls, IsNoSweep, IsUnswept, LeavesMark, SparesMark, base_after}
use Rattle.cat_work.specs.Passes.{IsReady, book_of, state_of}
use Rattle.cat_checks.specs.Changes.{tells_change}
use Rattle.cat_serve.specs.Replies.{must_be_told}
use Rattle.cat_serve.specs.Sessions.{Fallen, IsAt, MayComeTo, Readings, Standing, checkpoint_told, down_checkpoint, down_request, journal_by, seen_failed, wants_in}
use Rattle.cat_serve.proofs.Brought.{given_up_at, no_memory_at}
use Rattle.cat_serve.proofs.Changed.{at_fallen, clash, true_stands}
use Rattle.cat_serve.proofs.Clocked.{takes_none}
use Rattle.cat_serve.proofs.Standing.{BringsOn, none_fell, one_fell, stands_on}

-- ---- the definition, by the tests in turn

abbrev when_new : Session → Result (Unit {0}) Refusal → Result Reply Refusal
when_new s t = t >>= λ _. needs_at_most (length (s.journal.payload s.book)) 4294967295 quantities.Checkpoint >>= λ _. Ok (replies.Checkpoint s.book.state.place)

abbrev when_short : Session → Result (Unit {0}) Refusal → Result Reply Refusal
when_short s t = t >>= λ _. Ok (replies.Checkpoint s.book.state.place)

is_new : (s : Session) → s.journal.format ≡ 2 → checkpoint_answer s ≡ when_short s (needs_at_most (length (s.journal.payload s.book)) 4294967295 quantities.Checkpoint)
is_new s newer = ap (λ (b : Bool). when_new s (if b then Ok tt else Err refusals.OldFormat)) (eq-eqb s.journal.format 2 newer)

pub answer_made : (s : Session) → s.journal.format ≡ 2 → length (s.journal.payload s.book) ≤ 4294967295 → checkpoint_answer s ≡ Ok (replies.Checkpoint s.book.state.place)
answer_made s newer fits = is_new s newer ∙ ap (λ (b : Bool). when_short s (if b then Ok tt else Err (refusals.Limit quantities.Checkpoint 4294967295))) (le-leb (length (s.journal.payload s.book)) 4294967295 fits)

pub answer_long : (s : Session) → s.journal.format ≡ 2 → 4294967295 < length (s.journal.payload s.book) → checkpoint_answer s ≡ Err (refusals.Limit quantities.Checkpoint 4294967295)
answer_long s newer long = is_new s newer ∙ ap (λ (b : Bool). when_short s (if b then Ok tt else Err (refusals.Limit quantities.Checkpoint 4294967295))) (lt-leb (length (s.journal.payload s.book)) 4294967295 long)

pub answer_old : (s : Session) → s.journal.format ≢ 2 → checkpoint_answer s ≡ Err refusals.OldFormat
answer_old s other = ap (λ (b : Bool). when_new s (if b then Ok tt else Err refusals.OldFormat)) (ne_eqb s.journal.format 2 other)

one_is_not_two : ◌≡◌ {A = ℕ} 1 2 → ⊥
one_is_not_two e = omega (arith, e)

-- what the request brings
pub asked_so : (k : Readings) (s : Session) (w : Result Wanted Refusal) (answer : Result Reply Refusal) → w ≡ Ok Checkpoint → checkpoint_answer s ≡ answer → request sha256 1 k s (wants_in w) ≡ checkpointed s answer
asked_so k s w answer is comes = ap (λ (x : Result Wanted Refusal). request sha256 1 k s (wants_in x)) is ∙ ap (checkpointed s) comes

-- ---- what a pass tells of the session's journal

module _ (desk : DeskId) (s : Standing) (p q : Pass) (r : Result Told Refused) (at : IsAt desk s p) (checks : ChecksTo desk p q r) where
  pub book_stays : book_of desk q ≡ s.session.book
  book_stays = checks.book at.alone ∙ at.book_is

  pub rests_still : all_left_by q ≡ nothing_open
  rests_still = checks.left at.alone ∙ at.rests

  log_is : seen q ≡ reverse s.session.book.log
  log_is = sym (reverse-reverse (seen q)) ∙ ap (λ (b : Book). reverse b.log) book_stays

  pub place_is : (state_of desk (seen q)).place ≡ s.session.book.state.place
  place_is = ap (λ (b : Book). b.state.place) book_stays

  pub payload_is : base_after desk (seen q) (all_left_by q).drafts ≡ s.session.journal.payload s.session.book
  payload_is =
      let state : state_of desk (seen q) ≡ s.session.book.state = ap (λ (b : Book). b.state) book_stays in
      let drafts : (all_left_by q).drafts ≡ [] = ap (λ (o : Open). o.drafts) rests_still in
      (λ i. checkpoint_spelling (checkpoint_at desk.opened (log_is i) (state i) (drafts i))) ∙ ap (λ (j : Journal). j.payload s.session.book) at.journal_is

  pub format_was : (mark_of p).format ≡ s.session.journal.format
  format_was = ap (λ (j : Journal). j.format) at.journal_is

  pub bases_was : (mark_of p).bases ≡ s.session.journal.bases
  bases_was = ap (λ (j : Journal). j.bases) at.journal_is

  pub newer_was : (mark_of q).format ≡ (mark_of p).format → (mark_of q).format ≡ 2 → s.session.journal.format ≡ 2
  newer_was same newer = sym format_was ∙ sym same ∙ newer

  -- the fault that the mark tells of was there before, or there was none
  pub none_before : Grows (mark_of p) (mark_of q) → (x : FailedAppend) → (mark_of q).fault ≡ Some x → ((mark_of p).fault ≡ Some x → ⊥) → (mark_of p).fault ≡ None
  none_before grows x is new = by (mark_of p).fault refl
    where
      same : (a b : FailedAppend) → ◌≡◌ {A = Option FailedAppend} (Some a) (Some b) → a ≡ b
      same a b e = cc

      by : (f : Option FailedAppend) → (mark_of p).fault ≡ f → (mark_of p).fault ≡ None
      by None e = e
      by (Some y) e = absurd (new (e ∙ ap (λ (z : FailedAppend). Some z) (same y x (sym (grows.fault y e) ∙ is))))

  -- ---- what it comes to

  module _ (k : Readings) (m : Message) (w : wanted m ≡ Ok Checkpoint) (kept : Keeps desk p q) (ready : IsReady desk q) (grows : Grows (mark_of p) (mark_of q)) where
    -- the pass stands as it did
    still_at : mark_of q ≡ mark_of p → IsAt desk s q
    still_at same = stands_on desk s s p q at kept ready book_stays (ap (λ (x : Mark). seen_failed x.fault) same ∙ at.fault_is) (ap (λ (x : Mark). journal_by desk.opened x) same ∙ at.journal_is) rests_still

    up_then : (mark_of p).fault ≡ None → s.fallen ≡ None
    up_then up = none_fell (mark_of p).fault s.fallen at.fault_is up

    -- a refusal that the definition gives, while nothing has failed
    refused_up : (place : Option ℕ) (why : Refusal) → place ≡ Some s.session.book.state.place → s.fallen ≡ None → checkpoint_answer s.session ≡ Err why → mark_of q ≡ mark_of p
        → BringsOn desk [] k s m (Err (record { place = place; why = why })) q
    refused_up place why is up answer same = (
      said_only s.session (Err (record { place = Some s.session.book.state.place; why = why })),
      s,
      record {
        comes = at_fallen k s None m _ _ up (inl (inl (sym (asked_so k s.session (wanted m) (Err why) w answer)), refl, up));
        said = ap (λ (x : Option ℕ). Err (record { place = x; why = why })) (sym is);
        or_given_up = λ h. at_fallen k s None m _ _ up (inl (inr (given_up_at s.session None refl), refl, up));
      },
      still_at same,
      takes_none s,
    )

    by_memory : (place : Option ℕ) → place ≡ None → mark_of q ≡ mark_of p → BringsOn desk [] k s m (no_memory_at place) q
    by_memory place none same = (
      said_only s.session (no_memory_at place),
      s,
      record {
        comes = unmade s.fallen refl (no_memory_at place) (given_up_at s.session place none);
        said = refl;
        or_given_up = λ h. unmade s.fallen refl (no_memory_at None) (given_up_at s.session None refl);
      },
      still_at same,
      takes_none s,
    )
      where
        unmade : (f : Option Fallen) → s.fallen ≡ f → (told : Result Told Refused) → IsGivenUp s.session (said_only s.session told) → MayComeTo k s f (wanted m) (said_only s.session told) s
        unmade None e told given = inl (inr given, refl, e)
        unmade (Some x) e told given = (inr given, refl, e)

    refused_down : (place : Option ℕ) (count : ℕ) (x : FailedAppend) → place ≡ Some s.session.book.state.place → (mark_of q).fault ≡ Some x → x.count ≡ count → mark_of q ≡ mark_of p
        → BringsOn desk [] k s m (Err (record { place = place; why = refusals.Down count })) q
    refused_down place count x is fault count_is same =
        let fell = one_fell (mark_of p).fault s.fallen x at.fault_is (ap (λ (y : Mark). y.fault) (sym same) ∙ fault) in
        let told : ◌≡◌ {A = Result Told Refused} (Err (record { place = Some s.session.book.state.place; why = refusals.Down fell.fell.count })) (Err (record { place = place; why = refusals.Down count })) =
        ap₂ (λ (y : Option ℕ) (n : ℕ). Err (record { place = y; why = refusals.Down n })) (sym is) (fell.count_is ∙ count_is) in
        subst (λ (y : Result Told Refused). BringsOn desk [] k s m y q) told (
          down_checkpoint s.session fell.fell.count,
          s,
          record {
            comes = at_fallen k s (Some fell.fell) m _ _ fell.is (inl (sym (ap (down_request k s.session fell.fell.count) w)), refl, fell.is);
            said = refl;
            or_given_up = λ h. at_fallen k s (Some fell.fell) m _ _ fell.is (inr (given_up_at s.session None refl), refl, fell.is);
          },
          still_at same,
          takes_none s,
        )

    made : (told : Told) → r ≡ Ok told → BringsOn desk [] k s m (Ok told) q
    made told e =
        let based = subst (λ (x : Result Told Refused). Answers desk (number_of p) (mark_of p) (mark_of q) (seen q) (all_left_by q).drafts x) e checks.answers in
        let mark = subst (λ (x : Result Told Refused). LeavesMark (mark_of p) (mark_of q) x) e (checks.mark at.alone) in
        let newer = newer_was (ap (λ (x : Mark). x.format) mark) based.may.newer in
        let fits = subst (λ (l : List ℕ). length l ≤ 4294967295) payload_is based.fits in
        let place : told.place ≡ s.session.book.state.place = based.place ∙ place_is in
        let told_is : told ≡ checkpoint_told s.session = λ i. record { place = place i; reply = (based.reply ∙ ap replies.Checkpoint place) i } in
        let up : (mark_of p).fault ≡ None = ap (λ (x : Mark). x.fault) (sym mark) ∙ based.up in
        let brings = checkpointed s.session (Ok (replies.Checkpoint s.session.book.state.place)) in
        let after : Standing = record { session = brings.after; fallen = None } in (
          brings,
          after,
          record {
            comes = at_fallen k s None m _ _ (up_then up) (inl (inl (sym (asked_so k s.session (wanted m) _ w (answer_made s.session newer fits))), refl, refl));
            said = ap (λ (t : Told). Ok t) (sym told_is);
            or_given_up = λ h. absurd (clash (must_be_told (Ok told)) (ap tells_change based.reply) h);
          },
          stands_on desk s after p q at kept ready book_stays (ap seen_failed based.up)
              (λ i. record { format = (ap (λ (x : Mark). x.format) mark ∙ format_was) i; base = (based.base ∙ place) i; bases = (ap (λ (x : Mark). x.bases) mark ∙ ap (option_map (λ (n : ℕ). n + 1)) bases_was) i; payload = (at.journal_is i).payload }) rests_still,
          takes_none s,
        )

    fell_so : (place : Option ℕ) → place ≡ Some s.session.book.state.place → Falls (number_of p) (mark_of p) (mark_of q) (base_after desk (seen q) (all_left_by q).drafts) → SparesMark (mark_of p) (mark_of q) refusals.Fault
        → BringsOn desk [] k s m (Err (record { place = place; why = refusals.Fault })) q
    fell_so place is falls mark =
        let newer = newer_was (ap (λ (x : Mark). x.format) mark) falls.may.newer in
        let fits = subst (λ (l : List ℕ). length l ≤ 4294967295) payload_is falls.fits in
        let up = up_then (none_before grows falls.fault falls.is falls.new) in
        let asked = asked_so k s.session (wanted m) _ w (answer_made s.session newer fits) in
        let fallen : Fallen = record { count = falls.fault.count; payload = falls.fault.payload } in
        let brings : Brought = said_only s.session (Err (record { place = Some s.session.book.state.place; why = refusals.Fault })) in
        let after : Standing = record { session = s.session; fallen = Some fallen } in (
          brings,
          after,
          record {
            comes = at_fallen k s None m _ _ up (inr (record {
              fallen = fallen;
              accepted = inr (ap (λ (b : Brought). b.said) asked, falls.payload ∙ payload_is);
              said = refl;
              logged = refl;
              after_is = ap (λ (b : Brought). record (s.session) { book = record s.session.book { draft = b.after.book.draft }; readings = b.after.readings }) (sym asked);
              leaves = refl;
              down = refl;
            }));
            said = ap (λ (x : Option ℕ). Err (record { place = x; why = refusals.Fault })) (sym is);
            or_given_up = λ h. absurd (true_stands h);
          },
          stands_on desk s after p q at kept ready book_stays (ap seen_failed falls.is) (ap (λ (x : Mark). journal_by desk.opened x) mark ∙ at.journal_is) rests_still,
          takes_none s,
        )

    here : (place : Option ℕ) → place ≡ Some (state_of desk (seen q)).place → place ≡ Some s.session.book.state.place
    here place is = is ∙ ap (λ (n : ℕ). Some n) place_is

    refused_by : (place : Option ℕ) (why : Refusal) → Causes desk (number_of p) (mark_of p) (mark_of q) (seen q) (base_after desk (seen q) (all_left_by q).drafts) place why → SparesMark (mark_of p) (mark_of q) why → IsNoSweep why
        → BringsOn desk [] k s m (Err (record { place = place; why = why })) q
    refused_by place refusals.NoMemory c mark rests = by_memory place c.0 mark
    refused_by place (refusals.Down count) c mark rests = refused_down place count c.1.fault (here place c.0) c.1.is c.1.count_is mark
    refused_by place refusals.OldFormat c mark rests =
        refused_up place refusals.OldFormat (here place c.0) (up_then (ap (λ (x : Mark). x.fault) (sym mark) ∙ c.1.up)) (answer_old s.session (λ newer. one_is_not_two (sym c.1.older ∙ ap (λ (x : Mark). x.format) mark ∙ format_was ∙ newer))) mark
    refused_by place (refusals.SweepOpen opened) c mark rests = absurd rests
    refused_by place (refusals.Limit which number) c mark rests =
        let newer = newer_was (ap (λ (x : Mark). x.format) mark) c.1.may.newer in
        let long = subst (λ (l : List ℕ). 4294967295 < length l) payload_is c.1.long in
        refused_up place (refusals.Limit which number) (here place c.0) (up_then (ap (λ (x : Mark). x.fault) (sym mark) ∙ c.1.up))
        (answer_long s.session newer long ∙ ap₂ (λ (x : Quantity) (n : ℕ). Err (refusals.Limit x n)) (sym c.1.which_is) (sym c.1.number_is)) mark
    refused_by place refusals.Fault c mark rests = fell_so place (here place c.0) c.1 mark
    refused_by place why c mark rests = absurd c

    pub from_checkpoint : BringsOn desk [] k s m r q
    from_checkpoint = by r refl
      where
        by : (x : Result Told Refused) → r ≡ x → BringsOn desk [] k s m x q
        by (Ok told) e = made told e
        by (Err refused) e =
            refused_by refused.place refused.why
            (subst (λ (x : Result Told Refused). Answers desk (number_of p) (mark_of p) (mark_of q) (seen q) (all_left_by q).drafts x) e checks.answers)
            (subst (λ (x : Result Told Refused). LeavesMark (mark_of p) (mark_of q) x) e (checks.mark at.alone))
            (subst (λ (x : Result Told Refused). IsUnswept x) e (checks.unswept at.alone at.rests))
