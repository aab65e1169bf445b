-- A turn that made a checkpoint, or was refused one.
use Rattle.std.proofs.Common.{◌≡◌, ◌≤◌, ◌<◌, ℕ, ◌+◌, List, length, reverse, Option, Some, None, Result, Ok, Err, refl, sym, ap, subst, ◌∙◌}
use Rattle.std.specs.Option.{option_map}
use Rattle.cat_core.specs.Checkpointing.{Checkpoints, MayBase as MayBeBased, NotBased, base_bytes}
use Rattle.cat_core.specs.Stored as stored
use Rattle.cat_core.specs.Stored.{IsMarked, Stored, log_of, opened_of}
use Rattle.cat_desk.specs.Log.{Follows}
use Rattle.cat_desk.specs.Pass.{DeskId, all_left_by, known, left_by, mark_of, number_of, seen, turn_of}
use Rattle.cat_desk.specs.declared.pass.Pass.{Pass}
use Rattle.cat_frames.specs.Bases.{checkpoint_at, checkpoint_spelling}
use Rattle.cat_model.specs.declared.log_entry.LogEntry.{LogEntry}
use Rattle.cat_model.specs.declared.refusal.Refusal.{Refusal}
use Rattle.cat_model.specs.declared.refusal.Refusal.TheVariants.{BadRequest, RefNotFound, RefExists, ContentNotFound, Conflicts, Expired, RetriesSpent, SweepOpen, Limit, Collision, Fault, Down, NoMemory, NoRoute, WrongMethod, TooLarge, Encoding, OldFormat}
use Rattle.cat_model.specs.declared.refusal.Refused.{Refused}
use Rattle.cat_model.specs.declared.reply.Reply.TheVariants as replies
use Rattle.cat_model.specs.declared.reply.Told.{Told}
use Rattle.cat_model.specs.Drafts.{Open, OpenSweep, nothing_open}
use Rattle.cat_model.specs.Mark.{FailedAppend, Mark}
use Rattle.cat_model.specs.State.{State}
use Rattle.cat_model.specs.Turns.{place_after}
use Rattle.cat_state.specs.Basing.{most_bytes}
use Rattle.cat_work.specs.Answers.{IsAt, Knows, NoDraftIsNew, sweeps_in}
use Rattle.cat_work.specs.Checkpoints.{Answers, Causes, ChecksTo, IsNoSweep, IsUnswept, LeavesMark, MayBase, SparesMark, base_after}
use Rattle.cat_work.specs.MarkLaws.{no_draft_still}
use Rattle.cat_work.specs.Passes.{IsAlone, book_of, state_of}
use Rattle.cat_work.specs.TurnLaws.{none_found, others}
use Rattle.cat_work.specs.Turns.{Turned}
use Rattle.cat_work.proofs.Unopened.{knows_all, same_open}

-- what it leaves of a store: all but the keeper, and the mark's fault and bases
pub record IsLeft {K : Type 0} (s s' : Stored K) : Type 0 where
  pub keeper : K
  pub fault : Option FailedAppend
  pub base : ℕ
  pub bases : Option ℕ
  pub is : s' ≡ record s { keeper = keeper; mark = record (s.mark) { fault = fault; base = base; bases = bases } }

as_it_was : {K : Type 0} (s s' : Stored K) → s' ≡ s → IsLeft s s'
as_it_was s s' is = record { keeper = s.keeper; fault = s.mark.fault; base = s.mark.base; bases = s.mark.bases; is = is }

with_keeper : {K : Type 0} (s s' : Stored K) → s' ≡ record s { keeper = s'.keeper } → IsLeft s s'
with_keeper s s' is = record { keeper = s'.keeper; fault = s.mark.fault; base = s.mark.base; bases = s.mark.bases; is = is }

refused_left : {K : Type 0} (n : ℕ) (s s' : Stored K) (r : Refused) (why : Refusal) → NotBased n s r why s' → IsLeft s s'
refused_left n s s' r (BadRequest x) is = absurd is
refused_left n s s' r RefNotFound is = absurd is
refused_left n s s' r RefExists is = absurd is
refused_left n s s' r (ContentNotFound x) is = absurd is
refused_left n s s' r (Conflicts x) is = absurd is
refused_left n s s' r (Expired x y) is = absurd is
refused_left n s s' r (RetriesSpent x) is = absurd is
refused_left n s s' r (SweepOpen x) is = as_it_was s s' is.4
refused_left n s s' r (Limit x y) is = with_keeper s s' is.1.after
refused_left n s s' r (Collision x y z) is = absurd is
refused_left n s s' r Fault is = record { keeper = s'.keeper; fault = Some is.1.fault; base = s.mark.base; bases = s.mark.bases; is = is.1.after }
refused_left n s s' r (Down x) is = as_it_was s s' is.2
refused_left n s s' r NoMemory is = with_keeper s s' is.1
refused_left n s s' r NoRoute is = absurd is
refused_left n s s' r (WrongMethod x) is = absurd is
refused_left n s s' r TooLarge is = absurd is
refused_left n s s' r Encoding is = absurd is
refused_left n s s' r OldFormat is = as_it_was s s' is.3

checks_left : {K : Type 0} (n : ℕ) (s s' : Stored K) (r : Result Told Refused) → Checkpoints n s s' r → IsLeft s s'
checks_left n s s' (Ok told) is = record { keeper = s'.keeper; fault = s.mark.fault; base = s.book.state.place; bases = option_map (λ (n : ℕ). n + 1) s.mark.bases; is = is.after }
checks_left n s s' (Err r) is = refused_left n s s' r r.why is

-- what it leaves of the store's mark
refused_mark : {K : Type 0} (n : ℕ) (s s' : Stored K) (r : Refused) (why : Refusal) → NotBased n s r why s' → SparesMark s.mark s'.mark why
refused_mark n s s' r (BadRequest x) is = absurd is
refused_mark n s s' r RefNotFound is = absurd is
refused_mark n s s' r RefExists is = absurd is
refused_mark n s s' r (ContentNotFound x) is = absurd is
refused_mark n s s' r (Conflicts x) is = absurd is
refused_mark n s s' r (Expired x y) is = absurd is
refused_mark n s s' r (RetriesSpent x) is = absurd is
refused_mark {K} n s s' r (SweepOpen x) is = ap (λ (y : Stored K). y.mark) is.4
refused_mark {K} n s s' r (Limit x y) is = ap (λ (y : Stored K). y.mark) is.1.after
refused_mark n s s' r (Collision x y z) is = absurd is
refused_mark {K} n s s' r Fault is =
    let m : s'.mark ≡ record (s.mark) { fault = Some is.1.fault } = ap (λ (y : Stored K). y.mark) is.1.after in
    m ∙ (λ i. record (s.mark) { fault = sym (ap (λ (x : Mark). x.fault) m) i })
refused_mark {K} n s s' r (Down x) is = ap (λ (y : Stored K). y.mark) is.2
refused_mark {K} n s s' r NoMemory is = ap (λ (y : Stored K). y.mark) is.1
refused_mark n s s' r NoRoute is = absurd is
refused_mark n s s' r (WrongMethod x) is = absurd is
refused_mark n s s' r TooLarge is = absurd is
refused_mark n s s' r Encoding is = absurd is
refused_mark {K} n s s' r OldFormat is = ap (λ (y : Stored K). y.mark) is.3

checks_mark : {K : Type 0} (n : ℕ) (s s' : Stored K) (r : Result Told Refused) → Checkpoints n s s' r → LeavesMark s.mark s'.mark r
checks_mark {K} n s s' (Ok told) is =
    ap (λ (y : Stored K). y.mark) is.after
    ∙ (λ i. record (s.mark) { base = sym (ap (λ (t : Told). t.place) is.told_is) i; bases = option_map (λ (n : ℕ). n + 1) s.mark.bases })
checks_mark n s s' (Err r) is = refused_mark n s s' r r.why is

some_is_not_none : (x : FailedAppend) → ◌≡◌ {A = Option FailedAppend} None (Some x) → ⊥
some_is_not_none x e = cc

sweep_and_none : (o : OpenSweep) → ◌≡◌ {A = Option OpenSweep} None (Some o) → ⊥
sweep_and_none o e = cc

-- a sweep that refuses it is open
no_sweep : {K : Type 0} (n : ℕ) (s s' : Stored K) (r : Refused) (why : Refusal) → s.left_open.sweep ≡ None → NotBased n s r why s' → IsNoSweep why
no_sweep n s s' r (BadRequest x) none is = tt
no_sweep n s s' r RefNotFound none is = tt
no_sweep n s s' r RefExists none is = tt
no_sweep n s s' r (ContentNotFound x) none is = tt
no_sweep n s s' r (Conflicts x) none is = tt
no_sweep n s s' r (Expired x y) none is = tt
no_sweep n s s' r (RetriesSpent x) none is = tt
no_sweep n s s' r (SweepOpen x) none is = sweep_and_none is.3.0 (sym none ∙ is.3.1)
no_sweep n s s' r (Limit x y) none is = tt
no_sweep n s s' r (Collision x y z) none is = tt
no_sweep n s s' r Fault none is = tt
no_sweep n s s' r (Down x) none is = tt
no_sweep n s s' r NoMemory none is = tt
no_sweep n s s' r NoRoute none is = tt
no_sweep n s s' r (WrongMethod x) none is = tt
no_sweep n s s' r TooLarge none is = tt
no_sweep n s s' r Encoding none is = tt
no_sweep n s s' r OldFormat none is = tt

checks_unswept : {K : Type 0} (n : ℕ) (s s' : Stored K) (r : Result Told Refused) → s.left_open.sweep ≡ None → Checkpoints n s s' r → IsUnswept r
checks_unswept n s s' (Ok told) none is = tt
checks_unswept n s s' (Err r) none is = no_sweep n s s' r r.why none is

-- no sweep is told of where none is open
none_marked : (m : Mark) (held : Option OpenSweep) → IsMarked m held → held ≡ None → m.sweep ≡ None
none_marked m held marked none = subst (IsMarked m) none marked

one_marked : (m : Mark) (held : Option OpenSweep) (o : OpenSweep) → IsMarked m held → held ≡ Some o → m.sweep ≡ Some o.opening
one_marked m held o marked is = (subst (IsMarked m) is marked).0

module _ {K : Type 0} (desk : DeskId) (p q : Pass) (s s' : Stored K) (turn : Turned desk p q s s') (marked : IsMarked s.mark s.left_open.sweep) (none : left_by p ≡ nothing_open) (left : IsLeft s s') where
  log_stays : log_of s ≡ seen q
  log_stays = sym (turn.seen_is ∙ ap (λ (x : Stored K). log_of x) left.is)

  pub open_stays : stored.open_of s' ≡ stored.open_of s
  open_stays = ap (λ (x : Stored K). stored.open_of x) left.is

  state_is : s.book.state ≡ state_of desk (seen q)
  state_is = sym turn.led ∙ ap (state_of desk) log_stays

  mark_is : mark_of q ≡ record (s.mark) { fault = left.fault; base = left.base; bases = left.bases }
  mark_is = turn.mark_is ∙ ap (λ (x : Stored K). x.mark) left.is

  bytes_are : base_bytes s ≡ base_after desk (seen q) (all_left_by q).drafts
  bytes_are =
      let drafts : s.left_open.drafts ≡ (all_left_by q).drafts = ap (λ (o : Open). o.drafts) (sym (turn.all_left ∙ open_stays)) in
      λ i. checkpoint_spelling (checkpoint_at (turn.opened i) (log_stays i) (state_is i) (drafts i))

  fault_is : (mark_of q).fault ≡ left.fault
  fault_is = ap (λ (m : Mark). m.fault) mark_is

  -- none that is this caller's is new, where the mark's stays
  fault_stays : left.fault ≡ s.mark.fault → (x : FailedAppend) → (mark_of q).fault ≡ Some x → x.caller ≡ number_of p → (mark_of p).fault ≡ Some x
  fault_stays same x is own = turn.linked.own_fault x (sym (fault_is ∙ same) ∙ is) own

  may_base : MayBeBased s → MayBase (mark_of q)
  may_base may = record {
    newer = ap (λ (m : Mark). m.format) mark_is ∙ may.newer;
    unswept = ap (λ (m : Mark). m.sweep) mark_is ∙ none_marked s.mark s.left_open.sweep marked may.unswept;
  }

  is_at : (place : Option ℕ) → place ≡ Some s.book.state.place → IsAt desk (seen q) place
  is_at place is = is ∙ ap (λ (x : State). Some x.place) state_is

  pub draft_stays : NoDraftIsNew (number_of p) (mark_of p) (mark_of q)
  draft_stays = no_draft_still (number_of p) (mark_of p) s.mark (mark_of q) turn.linked.own_draft (ap (λ (m : Mark). m.draft) mark_is) (ap (λ (m : Mark). m.drafter) mark_is)

  pub sweeps_stay : IsAlone p → sweeps_in (mark_of q) ≡ sweeps_in (mark_of p)
  sweeps_stay only = ap sweeps_in mark_is ∙ ap sweeps_in (turn.alone only).1

  book_stays : IsAlone p → book_of desk q ≡ book_of desk p
  book_stays only =
      let there = turn.alone only in
      let log : seen q ≡ seen p = sym log_stays ∙ there.0 in
      let draft : (mark_of q).draft ≡ (mark_of p).draft = ap (λ (m : Mark). m.draft) mark_is ∙ ap (λ (m : Mark). m.draft) there.1 in
      λ i. record { state = state_of desk (log i); draft = draft i; log = reverse (log i); base = desk.opened.state }

  made : (told : Told) → Checkpoints (number_of p) s s' (Ok told) → Answers desk (number_of p) (mark_of p) (mark_of q) (seen q) (all_left_by q).drafts (Ok told)
  made told is = record {
    up = turn_fault is.may.up;
    may = may_base is.may;
    fits = subst (λ (l : List ℕ). length l ≤ most_bytes) bytes_are is.fits;
    place = ap (λ (t : Told). t.place) is.told_is ∙ ap (λ (x : State). x.place) state_is;
    base = ap (λ (m : Mark). m.base) (turn.mark_is ∙ ap (λ (x : Stored K). x.mark) is.after) ∙ sym (ap (λ (t : Told). t.place) is.told_is);
    reply = ap (λ (t : Told). t.reply) is.told_is ∙ ap replies.Checkpoint (sym (ap (λ (t : Told). t.place) is.told_is));
  }
    where
      turn_fault : s.mark.fault ≡ None → (mark_of q).fault ≡ None
      turn_fault up = ap (λ (m : Mark). m.fault) (turn.mark_is ∙ ap (λ (x : Stored K). x.mark) is.after) ∙ up

  refused : (r : Refused) (why : Refusal) → r.why ≡ why → NotBased (number_of p) s r why s' → Causes desk (number_of p) (mark_of p) (mark_of q) (seen q) (base_after desk (seen q) (all_left_by q).drafts) r.place why
  refused r NoMemory same is = (is.0, λ x there own. turn.linked.own_fault x (sym (kept is.1) ∙ there) own)
    where
      kept : s' ≡ record s { keeper = s'.keeper } → (mark_of q).fault ≡ s.mark.fault
      kept after = ap (λ (m : Mark). m.fault) (turn.mark_is ∙ ap (λ (x : Stored K). x.mark) after)
  refused r (Down count) same is =
      let x = is.1.0 in
      let there : (mark_of q).fault ≡ Some x = ap (λ (m : Mark). m.fault) (turn.mark_is ∙ ap (λ (y : Stored K). y.mark) is.2) ∙ is.1.1 in
      (is_at r.place is.0, record { fault = x; is = there; count_is = is.1.2; known = λ own. turn.linked.own_fault x is.1.1 own })
  refused r OldFormat same is =
      let m : mark_of q ≡ s.mark = turn.mark_is ∙ ap (λ (y : Stored K). y.mark) is.3 in
      (is_at r.place is.0, record { up = ap (λ (z : Mark). z.fault) m ∙ is.1; older = ap (λ (z : Mark). z.format) m ∙ is.2 })
  refused r (SweepOpen place) same is =
      let m : mark_of q ≡ s.mark = turn.mark_is ∙ ap (λ (y : Stored K). y.mark) is.4 in
      let o = is.3.0 in (
        is_at r.place is.0,
        record {
          up = ap (λ (z : Mark). z.fault) m ∙ is.1;
          newer = ap (λ (z : Mark). z.format) m ∙ is.2;
          opening = o.opening;
          is = ap (λ (z : Mark). z.sweep) m ∙ one_marked s.mark s.left_open.sweep o marked is.3.1;
          place = is.3.2;
          others = others (number_of p) (stored.open_of s) o (none_found (number_of p) p s none turn.own) is.3.1;
        },
      )
  refused r (Limit which number) same is =
      let m : mark_of q ≡ s.mark = turn.mark_is ∙ ap (λ (y : Stored K). y.mark) is.1.after in (
        is_at r.place is.0,
        record {
          up = ap (λ (z : Mark). z.fault) m ∙ is.1.may.up;
          may = may_base is.1.may;
          which_is = is.1.which_is;
          number_is = is.1.number_is;
          long = subst (λ (l : List ℕ). most_bytes < length l) bytes_are is.1.long;
        },
      )
  refused r Fault same is =
      let fell = is.1 in
      let there : (mark_of q).fault ≡ Some fell.fault = ap (λ (m : Mark). m.fault) (turn.mark_is ∙ ap (λ (y : Stored K). y.mark) fell.after) in (
        is_at r.place is.0,
        record {
          may = may_base fell.may;
          fits = subst (λ (l : List ℕ). length l ≤ most_bytes) bytes_are fell.fits;
          fault = fell.fault;
          is = there;
          caller_is = fell.caller_is;
          new = λ old. some_is_not_none fell.fault (sym fell.may.up ∙ turn.linked.grows.fault fell.fault old);
          payload = fell.payload ∙ bytes_are;
        },
      )
  refused r (BadRequest x) same is = absurd is
  refused r RefNotFound same is = absurd is
  refused r RefExists same is = absurd is
  refused r (ContentNotFound x) same is = absurd is
  refused r (Conflicts x) same is = absurd is
  refused r (Expired x y) same is = absurd is
  refused r (RetriesSpent x) same is = absurd is
  refused r (Collision x y z) same is = absurd is
  refused r NoRoute same is = absurd is
  refused r (WrongMethod x) same is = absurd is
  refused r TooLarge same is = absurd is
  refused r Encoding same is = absurd is

  answers : (r : Result Told Refused) → Checkpoints (number_of p) s s' r → Answers desk (number_of p) (mark_of p) (mark_of q) (seen q) (all_left_by q).drafts r
  answers (Ok told) is = made told is
  answers (Err r) is = refused r r.why refl is

  checks : (r : Result Told Refused) → Checkpoints (number_of p) s s' r → ChecksTo desk p q r
  checks r is = record {
    follows = subst (λ (l : List LogEntry). Follows (number_of p) (seen p) l) log_stays turn.follows;
    answers = answers r is;
    book = book_stays;
    left = same_open desk p q s s' turn open_stays;
    mark = λ only. subst (λ (m : Mark). LeavesMark m (mark_of q) r) (turn.alone only).1 (subst (λ (m : Mark). LeavesMark s.mark m r) (sym turn.mark_is) (checks_mark (number_of p) s s' r is));
    unswept = λ only nothing. checks_unswept (number_of p) s s' r (ap (λ (o : Open). o.sweep) ((turn.alone only).2 ∙ nothing)) is;
  }

-- by what the store answered
pub checks_to : {K : Type 0} (desk : DeskId) (p q : Pass) (n : ℕ) (s s' : Stored K) (r : Result Told Refused) → n ≡ number_of p → Turned desk p q s s' → IsMarked s.mark s.left_open.sweep → left_by p ≡ nothing_open → Checkpoints n s s' r
    → ChecksTo desk p q r × NoDraftIsNew (number_of p) (mark_of p) (mark_of q) × (IsAlone p → sweeps_in (mark_of q) ≡ sweeps_in (mark_of p)) × (stored.open_of s' ≡ stored.open_of s)
checks_to {K} desk p q n s s' r number turn marked none is =
    let own : Checkpoints (number_of p) s s' r = subst (λ (m : ℕ). Checkpoints m s s' r) number is in
    let left = checks_left (number_of p) s s' r own in
    (checks desk p q s s' turn marked none left r own, draft_stays desk p q s s' turn marked none left, sweeps_stay desk p q s s' turn marked none left, open_stays desk p q s s' turn marked none left)

-- what is known after it
pub knows_to : {K : Type 0} (desk : DeskId) (p q : Pass) (n : ℕ) (s s' : Stored K) (r : Result Told Refused) → Turned desk p q s s' → Checkpoints n s s' r → known p ≤ place_after (opened_of s) (log_of s) → known q ≡ place_after (opened_of s') (log_of s') → turn_of p < turn_of q → Knows desk p q r
knows_to {K} desk p q n s s' r turn is before after later =
    let left = (checks_left n s s' r is).is in
    let same : known q ≡ place_after (opened_of s) (log_of s) = after ∙ ap (λ (x : Stored K). place_after (opened_of x) (log_of x)) left in
    let log : log_of s ≡ seen q = sym (turn.seen_is ∙ ap (λ (x : Stored K). log_of x) left) in
    knows_all desk p q r (subst (λ (k : ℕ). known p ≤ k) (sym same) before) (same ∙ (λ i. place_after (turn.opened i) (log i))) later
