-- What a call does to a store is a turn of its caller.
use Rattle.std.proofs.Common.{◌≡◌, ◌≤◌, ℕ, ◌+◌, List, [], ◌∷◌, ◌++◌, reverse, Option, Some, None, Result, Ok, Err, true, false, refl, sym, ap, ◌∙◌, subst, inl, inr, ⊎_elim, arith, le_refl}
use Rattle.std.proofs.lemmas.List.{append-nil, reverse-append}
use Rattle.std.specs.Option.{option_map}
use Rattle.sha2.specs.Sha256.{sha256}
use Rattle.cat_checks.specs.Histories.{IsLegalFrom}
use Rattle.cat_checks.specs.HistoryLaws.{above_comes, none_comes}
use Rattle.cat_checks.specs.Legal.{draft_may_come}
use Rattle.cat_model.specs.declared.command.Command.{Command}
use Rattle.cat_model.specs.declared.log_entry.LogEntry.{LogEntry}
use Rattle.cat_model.specs.declared.refusal.Refusal.{Refusal}
use Rattle.cat_model.specs.declared.refusal.Refusal.TheVariants.{BadRequest, RefNotFound, RefExists, ContentNotFound, Conflicts, Expired, RetriesSpent, SweepOpen, Limit, Collision, Fault, Down, NoMemory, NoRoute, WrongMethod, TooLarge, Encoding, OldFormat}
use Rattle.cat_model.specs.declared.refusal.Refused.{Refused}
use Rattle.cat_model.specs.declared.reply.Told.{Told}
use Rattle.cat_model.specs.Book.{Book, after_call, call_on}
use Rattle.cat_model.specs.Calls.{Called}
use Rattle.cat_model.specs.Drafts.{LeavesOthers, Open, Opening, drafts_of}
use Rattle.cat_model.specs.Mark.{FailedAppend, Later, Mark}
use Rattle.cat_model.specs.State.{State}
use Rattle.cat_model.specs.Step.{opens_draft}
use Rattle.cat_model.specs.WellMade.{is_well_made}
use Rattle.cat_core.specs.LoggedLaws.{call_opens}
use Rattle.cat_model.specs.TurnLaws.{adds_none, later_self, leaves_self}
use Rattle.cat_model.specs.Turns.{Acts, Adds, Own}
use Rattle.cat_decisions.specs.declared.building.Built.{Built}
use Rattle.cat_core.specs.Checkpointing.{Checkpoints, NotBased}
use Rattle.cat_core.specs.declared.draft.Draft.{Draft}
use Rattle.cat_core.specs.declared.draft.Settled.{Settled}
use Rattle.cat_core.specs.declared.draft.Settled.TheVariants as settled
use Rattle.cat_core.specs.Drafts.{Does, Expires, IsOpen, IsOpening, IsRefused, Refers, Refuses, Settles, called_in, closed, command_in, dropping, holding, opening_in, open_draft_of, with_opened, without}
use Rattle.cat_core.specs.declared.tickets.Ticket.{Ticket}
use Rattle.cat_model.specs.Naming.{names_of}
use Rattle.cat_core.specs.Stored.{AreWaiting, IsNumberOfNone, IsSound, Stored, log_of, opened_of, opening_at, snap}
use Rattle.cat_core.proofs.Sound.{Brings, IsCallIn, call_brings, made_brings, sound_called}
use Rattle.cat_core.proofs.Settling.{draft_refused}
use Rattle.cat_core.proofs.Waiting.{in_all, leaves_closed, leaves_opened, none_left, none_of_none, waiting_closed, waits}

-- ---- entries that a call brought

own_brought : (caller number : ℕ) (book : Book) (logged : List LogEntry) (after : State) → Brings caller number book logged after → Own caller logged
own_brought caller number book [] after brings = tt
own_brought caller number book (e ∷ []) after brings = (brings.caller_is, tt)
own_brought caller number book (e ∷ f ∷ more) after brings = absurd brings

turned : (caller number : ℕ) (book : Book) (logged : List LogEntry) (after : State) → Brings caller number book logged after → reverse (logged ++ book.log) ≡ reverse book.log ++ logged
turned caller number book [] after brings = sym (append-nil (reverse book.log))
turned caller number book (e ∷ []) after brings = reverse-append (e ∷ []) book.log
turned caller number book (e ∷ f ∷ more) after brings = absurd brings

adds_brought : (caller number : ℕ) (book : Book) (logged : List LogEntry) (after : State) → Brings caller number book logged after → Adds caller (reverse book.log) (reverse (logged ++ book.log))
adds_brought caller number book logged after brings = (logged, turned caller number book logged after brings, own_brought caller number book logged after brings)

-- ---- turns

-- nothing is logged
pub acts_idle : {K : Type 0} (s : Stored K) (caller : ℕ) (keeper : K) (mark : Mark) (left_open : Open) → IsLegalFrom (opened_of s) (log_of s) → Later caller s.mark mark → LeavesOthers caller s.left_open left_open
    → Acts IsLegalFrom caller (snap s) (snap (record s { keeper = keeper; mark = mark; left_open = left_open }))
acts_idle s caller keeper mark left_open legal later others = record { opened = refl; is_legal = legal; adds = adds_none caller (log_of s); later = later; others = others }

-- a call is carried out
pub acts_called : {K : Type 0} (s : Stored K) (caller number : ℕ) (called : Called) (keeper : K) (left_open : Open) → IsCallIn caller number s.book called → IsSound s.opened (after_call s.book called) left_open.drafts → LeavesOthers caller s.left_open left_open
    → Acts IsLegalFrom caller (snap s) (snap (record s { book = after_call s.book called; keeper = keeper; left_open = left_open }))
acts_called s caller number called keeper left_open is sound others = record {
  opened = refl;
  is_legal = sound.legal;
  adds = adds_brought caller number s.book called.logged called.state is.brings;
  later = later_self caller s.mark;
  others = others;
}

-- a fault that is the caller's
later_fallen : (caller : ℕ) (m : Mark) (x : FailedAppend) → m.fault ≡ None → x.caller ≡ caller → Later caller m (record m { fault = Some x })
later_fallen caller m x up own = record {
  grows = record { fault = λ y e. absurd (let no : None ≡ Some y = sym up ∙ e in cc); draft = le_refl m.draft; drafter = λ _. refl; sweep = le_refl _; format = refl };
  new_fault = λ y e. inr (let it : x ≡ y = cc in sym (ap (λ (z : FailedAppend). z.caller) it) ∙ own);
  new_draft = inl refl;
  new_closed = λ y e. inl e;
}

module _ {K : Type 0} (s : Stored K) (called : Called) (caller : ℕ) (r : Refused) (s' : Stored K) (left_open : Open) (legal : IsLegalFrom (opened_of s) (log_of s)) (others : LeavesOthers caller s.left_open left_open) where
  abbrev It : Type 0
  It = Acts IsLegalFrom caller (snap s) (snap s')

  by_after : (keeper : K) (mark : Mark) → s' ≡ record s { keeper = keeper; mark = mark; left_open = left_open } → Later caller s.mark mark → It
  by_after keeper mark after later = subst (λ (x : Stored K). Acts IsLegalFrom caller (snap s) (snap x)) (sym after) (acts_idle s caller keeper mark left_open legal later others)

  refused : IsRefused called s r s' left_open → It
  refused is = by_after s'.keeper s.mark is.after (later_self caller s.mark)

  pub acts_refused : (why : Refusal) → Refuses called caller s r why s' left_open → It
  acts_refused (BadRequest x) is = refused is
  acts_refused RefNotFound is = refused is
  acts_refused RefExists is = refused is
  acts_refused (ContentNotFound x) is = refused is
  acts_refused (Conflicts x) is = refused is
  acts_refused (Expired x y) is = refused is
  acts_refused (RetriesSpent x) is = refused is
  acts_refused (SweepOpen x) is = refused is
  acts_refused (Limit x y) is = refused is
  acts_refused (Collision x y z) is = refused is
  acts_refused Fault is = by_after s'.keeper (record (s.mark) { fault = Some is.fault }) is.after (later_fallen caller s.mark is.fault is.up is.caller_is)
  acts_refused (Down x) is = by_after s.keeper s.mark is.2 (later_self caller s.mark)
  acts_refused NoMemory is = by_after s'.keeper s.mark is.1 (later_self caller s.mark)
  acts_refused NoRoute is = refused is
  acts_refused (WrongMethod x) is = refused is
  acts_refused TooLarge is = refused is
  acts_refused Encoding is = refused is
  acts_refused OldFormat is = refused is

module _ {K : Type 0} (s : Stored K) (called : Called) (caller number : ℕ) (s' : Stored K) (left_open : Open) (is : IsCallIn caller number s.book called) (sound : IsSound s.opened s.book s.left_open.drafts) (comes : draft_may_come s.opened number ≡ true) (below : number ≤ s.book.draft)
    (waiting : AreWaiting s.opened.draft s.book.draft s.book.log left_open.drafts) (none : IsNumberOfNone number left_open.drafts) (others : LeavesOthers caller s.left_open left_open) where
  pub acts_done : (told : Told) → Does called s told s' left_open → Acts IsLegalFrom caller (snap s) (snap s')
  acts_done told does =
      subst (λ (x : Stored K). Acts IsLegalFrom caller (snap s) (snap x)) (sym does.after)
      (acts_called s caller number called s'.keeper left_open is (sound_called caller number s.opened s.book s.left_open.drafts left_open.drafts sound comes below waiting none called is) others)

-- ---- calls that open no draft

pub acts_referred : {K : Type 0} (s : Stored K) (called : Called) (caller : ℕ) (s' : Stored K) (result : Result Told Refused) → IsCallIn caller 0 s.book called → IsSound s.opened s.book s.left_open.drafts → IsNumberOfNone 0 s.left_open.drafts → Refers called caller s s' result → Acts IsLegalFrom caller (snap s) (snap s')
acts_referred s called caller s' (Ok told) is sound none does = acts_done s called caller 0 s' s.left_open is sound (none_comes s.opened) (omega arith) sound.waiting none (leaves_self caller s.left_open) told does
acts_referred s called caller s' (Err r) is sound none refuses = acts_refused s called caller r s' s.left_open sound.legal (leaves_self caller s.left_open) r.why refuses

-- ---- drafts

pub acts_opened : {K : Type 0} (s s' : Stored K) (d : Draft) → s' ≡ with_opened s d → IsLegalFrom (opened_of s) (log_of s) → s.mark.draft ≤ d.number → (s.mark.draft ≡ d.number → ⊥) → Acts IsLegalFrom d.caller (snap s) (snap s')
acts_opened {K} s s' d after legal more other = subst (λ (x : Stored K). Acts IsLegalFrom d.caller (snap s) (snap x)) (sym after) record {
  opened = refl;
  is_legal = legal;
  adds = adds_none d.caller (log_of s);
  later = record { grows = record { fault = λ x e. e; draft = more; drafter = λ same. absurd (other same); sweep = le_refl _; format = refl }; new_fault = λ x e. inl e; new_draft = inr refl; new_closed = λ x e. inl e };
  others = leaves_opened s.left_open (open_draft_of d);
}

-- which drafts were dropped or refused last is told, and others may be
later_telling : (caller : ℕ) (m : Mark) (dropped expired : Option Opening) → Later caller m (record m { dropped = dropped; expired = expired })
later_telling caller m dropped expired = record { grows = record { fault = λ x e. e; draft = le_refl m.draft; drafter = λ _. refl; sweep = le_refl _; format = refl }; new_fault = λ x e. inl e; new_draft = inl refl; new_closed = λ x e. inl e }

pub acts_dropped : {K : Type 0} (s s' : Stored K) (d : Draft) → s' ≡ dropping s d → IsLegalFrom (opened_of s) (log_of s) → Acts IsLegalFrom d.caller (snap s) (snap s')
acts_dropped {K} s s' d after legal =
    subst (λ (x : Stored K). Acts IsLegalFrom d.caller (snap s) (snap x)) (sym after) (acts_idle s d.caller s.keeper (record (s.mark) { dropped = Some (opening_in d) }) (closed s d) legal (later_telling d.caller s.mark (Some (opening_in d)) s.mark.expired) (leaves_closed s.left_open (opening_in d)))

pub acts_still : {K : Type 0} (s s' : Stored K) (caller : ℕ) → s' ≡ s → IsLegalFrom (opened_of s) (log_of s) → Acts IsLegalFrom caller (snap s) (snap s')
acts_still {K} s s' caller after legal =
    subst (λ (x : Stored K). Acts IsLegalFrom caller (snap s) (snap x)) (sym after) (acts_idle s caller s.keeper s.mark s.left_open legal (later_self caller s.mark) (leaves_self caller s.left_open))

module _ {K : Type 0} (s : Stored K) (d : Draft) (built : Built) (moment : ℕ) (s' : Stored K) (sound : IsSound s.opened s.book s.left_open.drafts) (is : IsCallIn d.caller d.number s.book (called_in s d moment)) (comes : draft_may_come s.opened d.number ≡ true) (below : d.number ≤ s.book.draft)
    (waiting : AreWaiting s.opened.draft s.book.draft s.book.log (without (opening_in d) s.left_open.drafts)) (none : IsNumberOfNone d.number (without (opening_in d) s.left_open.drafts)) where
  pub acts_settled : (result : Settled) → Settles s d built moment result s' → Acts IsLegalFrom d.caller (snap s) (snap s')
  acts_settled (settled.Done told) does = acts_done s (called_in s d moment) d.caller d.number s' (closed s d) is sound comes below waiting none (leaves_closed s.left_open (opening_in d)) told does.1
  acts_settled (settled.Refused r) refuses = ⊎_elim
      (λ (gone : Expires (called_in s d moment) s d r s'). subst (λ (x : Stored K). Acts IsLegalFrom d.caller (snap s) (snap x)) (sym gone.after)
      (acts_idle s d.caller s'.keeper (record (s.mark) { expired = Some (opening_in d) }) (closed s d) sound.legal (later_telling d.caller s.mark s.mark.dropped (Some (opening_in d))) (leaves_closed s.left_open (opening_in d))))
      (λ (there : Refuses (called_in s d moment) d.caller s r r.why s' (closed s d)). acts_refused s (called_in s d moment) d.caller r s' (closed s d) sound.legal (leaves_closed s.left_open (opening_in d)) r.why there)
      (draft_refused (called_in s d moment) s d r r.why s' refuses.1)
  acts_settled (settled.Moved e view) moved = acts_still s s' d.caller moved.after sound.legal

-- ---- as the calls say it

pub acts_settle : {K : Type 0} (s s' : Stored K) (d : Draft) (built : Built) (moment : ℕ) (result : Settled) → IsSound s.opened s.book s.left_open.drafts → is_well_made sha256 (command_in d) ≡ true → IsOpen (open_draft_of d) (drafts_of d.caller s.left_open.drafts) → Settles s d built moment result s' → Acts IsLegalFrom d.caller (snap s) (snap s')
acts_settle {K} s s' d built moment result sound made is settles =
    let there : IsOpen (open_draft_of d) s.left_open.drafts = in_all d.caller (open_draft_of d) s.left_open.drafts is in
    let one = waits s.opened.draft s.book.draft s.book.log (open_draft_of d) s.left_open.drafts sound.waiting there in
    acts_settled s d built moment s' sound (made_brings d.caller d.number moment d.place s.book (command_in d) made (call_opens d.call) (omega (arith, one.above)) one.below one.new) (above_comes s.opened d.number one.above) one.below
    (waiting_closed s.opened.draft s.book.draft s.book.log (opening_in d) s.left_open.drafts sound.waiting) (none_left s.opened.draft s.book.draft s.book.log (open_draft_of d) s.left_open.drafts sound.waiting there) result settles

pub acts_open : {K : Type 0} (caller : ℕ) (c : Command) (s s' : Stored K) (d : Draft) (view : State) → IsSound s.opened s.book s.left_open.drafts → s.mark.draft ≡ s.book.draft → IsOpening caller c s s' d view → Acts IsLegalFrom caller (snap s) (snap s')
acts_open {K} caller c s s' d view sound last is =
    let next : d.number ≡ s.book.draft + 1 = is.number in
    subst (λ (n : ℕ). Acts IsLegalFrom n (snap s) (snap s')) is.caller_is (acts_opened s s' d is.after sound.legal (omega arith) (λ same. omega arith))

pub draft_seen : {K : Type 0} (s x : Stored K) → s ≡ x → s.mark.draft ≡ s.book.draft → x.mark.draft ≡ x.book.draft
draft_seen {K} s x same is = subst (λ (z : Stored K). z.mark.draft ≡ z.book.draft) same is

pub acts_refer : {K : Type 0} (s s' : Stored K) (caller moment : ℕ) (c : Command) (result : Result Told Refused) → IsSound s.opened s.book s.left_open.drafts → is_well_made sha256 c ≡ true → opens_draft c ≡ false → Refers (call_on sha256 caller s.book c moment) caller s s' result → Acts IsLegalFrom caller (snap s) (snap s')
acts_refer {K} s s' caller moment c result sound made opens refers =
    acts_referred s (call_on sha256 caller s.book c moment) caller s' result (call_brings caller moment s.book c made opens) sound (none_of_none s.opened.draft s.book.draft s.book.log s.left_open.drafts sound.waiting) refers

pub acts_held : {K : Type 0} (s s' : Stored K) (t : Ticket) (c : Command) → IsSound s.opened s.book s.left_open.drafts → s.mark.draft ≡ s.book.draft → t.number ≡ s.book.draft + 1 → s' ≡ holding s t c → Acts IsLegalFrom t.caller (snap s) (snap s')
acts_held {K} s s' t c sound last next after = subst (λ (x : Stored K). Acts IsLegalFrom t.caller (snap s) (snap x)) (sym after) record {
  opened = refl;
  is_legal = sound.legal;
  adds = adds_none t.caller (log_of s);
  later = record { grows = record { fault = λ x e. e; draft = omega arith; drafter = λ same. absurd (omega arith); sweep = le_refl _; format = refl }; new_fault = λ x e. inl e; new_draft = inr refl; new_closed = λ x e. inl e };
  others = leaves_opened s.left_open (record { opening = opening_at t; names = names_of sha256 t.number c });
}

-- ---- checkpoints

-- one makes no entry, and tells of its base in the mark
later_based : (caller : ℕ) (m : Mark) (base : ℕ) (bases : Option ℕ) → Later caller m (record m { base = base; bases = bases })
later_based caller m base bases = record { grows = record { fault = λ x e. e; draft = le_refl m.draft; drafter = λ _. refl; sweep = le_refl _; format = refl }; new_fault = λ x e. inl e; new_draft = inl refl; new_closed = λ x e. inl e }

module _ {K : Type 0} (s : Stored K) (caller : ℕ) (s' : Stored K) (legal : IsLegalFrom (opened_of s) (log_of s)) where
  after_base : (keeper : K) (mark : Mark) → s' ≡ record s { keeper = keeper; mark = mark } → Later caller s.mark mark → Acts IsLegalFrom caller (snap s) (snap s')
  after_base keeper mark after later = subst (λ (x : Stored K). Acts IsLegalFrom caller (snap s) (snap x)) (sym after) (acts_idle s caller keeper mark s.left_open legal later (leaves_self caller s.left_open))

  acts_unbased : (r : Refused) (why : Refusal) → NotBased caller s r why s' → Acts IsLegalFrom caller (snap s) (snap s')
  acts_unbased r NoMemory is = after_base s'.keeper s.mark is.1 (later_self caller s.mark)
  acts_unbased r (Down count) is = after_base s.keeper s.mark is.2 (later_self caller s.mark)
  acts_unbased r OldFormat is = after_base s.keeper s.mark is.3 (later_self caller s.mark)
  acts_unbased r (SweepOpen place) is = after_base s.keeper s.mark is.4 (later_self caller s.mark)
  acts_unbased r (Limit which number) is = after_base s'.keeper s.mark is.1.after (later_self caller s.mark)
  acts_unbased r Fault is = after_base s'.keeper (record (s.mark) { fault = Some is.1.fault }) is.1.after (later_fallen caller s.mark is.1.fault is.1.may.up is.1.caller_is)
  acts_unbased r (BadRequest x) is = absurd is
  acts_unbased r RefNotFound is = absurd is
  acts_unbased r RefExists is = absurd is
  acts_unbased r (ContentNotFound x) is = absurd is
  acts_unbased r (Conflicts x) is = absurd is
  acts_unbased r (Expired x y) is = absurd is
  acts_unbased r (RetriesSpent x) is = absurd is
  acts_unbased r (Collision x y z) is = absurd is
  acts_unbased r NoRoute is = absurd is
  acts_unbased r (WrongMethod x) is = absurd is
  acts_unbased r TooLarge is = absurd is
  acts_unbased r Encoding is = absurd is

  pub acts_checkpoint : (result : Result Told Refused) → Checkpoints caller s s' result → Acts IsLegalFrom caller (snap s) (snap s')
  acts_checkpoint (Ok told) is = after_base s'.keeper (record (s.mark) { base = s.book.state.place; bases = option_map (λ (n : ℕ). n + 1) s.mark.bases }) is.after (later_based caller s.mark s.book.state.place (option_map (λ (n : ℕ). n + 1) s.mark.bases))
  acts_checkpoint (Err r) is = acts_unbased r r.why is
