-- Books that their logs lead to: what a call brings leads them on.
use Rattle.std.proofs.Common.{◌≡◌, ◌≢◌, ◌≤◌, ◌<◌, ℕ, max, List, [], ◌∷◌, ◌++◌, reverse, Ok, Err, Bool, true, false, not, ◌&&◌, if◌then◌else◌, nat_eq, nat_lt, refl, sym, ap, ◌∙◌, subst, arith, le_refl, ne_eqb}
use Rattle.std.proofs.lemmas.List.{append-nil, reverse-append, reverse-reverse}
use Rattle.std.proofs.lemmas.Map.Views.{exact_unsigned_eq}
use Rattle.std.proofs.Math.Nat.{le-max_left, le-max_right, max-zero}
use Rattle.cat_codes.specs.ListLaws.{and_true}
use Rattle.sha2.specs.Sha256.{sha256}
use Rattle.cat_checks.specs.AcceptedLaws.{accepted_is_legal, swept_is_legal}
use Rattle.cat_checks.specs.Histories.{IsLegalFrom, begun, book_after, book_at}
use Rattle.cat_checks.specs.HistoryLaws.{AreAtMost, at_most_more, base_stays, book_more, books_uphold, goes_legal, limits_stay, log_is}
use Rattle.cat_checks.specs.Legal.{IsLegal, draft_after, draft_is_new, draft_may_come, has_its_draft, is_just, is_legal, may_be_done, may_be_swept, opens_one, replayed_action, replayed_by, replayed_call, turn_of}
use Rattle.cat_checks.specs.Upheld.{Upholds}
use Rattle.cat_model.specs.declared.command.Command.{Command}
use Rattle.cat_model.specs.declared.log_entry.Action.{Action}
use Rattle.cat_model.specs.declared.log_entry.Action.TheVariants as actions
use Rattle.cat_model.specs.declared.log_entry.LogEntry.{LogEntry}
use Rattle.cat_model.specs.declared.reply.Reply.{Reply}
use Rattle.cat_model.specs.declared.sweep.Sweep.{Sweep}
use Rattle.cat_model.specs.Book.{Book, after_call, attempt_on, call_on}
use Rattle.cat_model.specs.Calls.{Called, attempt, entry_made, in_draft, stepped, tried, unchanged_by}
use Rattle.cat_model.specs.Drafts.{OpenDraft}
use Rattle.cat_model.specs.Past.{course, past_of}
use Rattle.cat_model.specs.Refusing.{Outcome, Tested}
use Rattle.cat_model.specs.State.{State}
use Rattle.cat_model.specs.Step.{Turn, opening, opens_draft, step}
use Rattle.cat_model.specs.Sweeps.{step_sweep, sweep_call, sweep_entry, swept_by}
use Rattle.cat_model.specs.Turns.{Opened}
use Rattle.cat_model.specs.WellMade.{is_well_made}
use Rattle.cat_core.proofs.Waiting.{waiting_on}
use Rattle.cat_core.specs.Stored.{AreWaiting, IsNumberOfNone, IsSound}

-- ---- whether an entry is legal has nothing to do with the last draft number

abbrev SameLogged : Called → Called → Type 0
SameLogged a b = (a.logged ≡ b.logged) × (a.state ≡ b.state)

same_choice : (b : Bool) (x x' y y' : Called) → SameLogged x x' → SameLogged y y' → SameLogged (if b then x else y) (if b then x' else y')
same_choice true x x' y y' p q = p
same_choice false x x' y y' p q = q

same_stepped : (state : State) (a b : ℕ) (command : Command) (turn : Turn) (outcome : Outcome) → SameLogged (stepped sha256 0 state a command turn outcome) (stepped sha256 0 state b command turn outcome)
same_stepped state a b command turn (Err why) = (refl, refl)
same_stepped state a b command turn (Ok (after, reply)) = same_choice (nat_lt state.place after.place) _ _ _ _ (refl, refl) (refl, refl)

-- a book with this last draft number
abbrev numbered : State → List LogEntry → State → ℕ → Book
numbered state log base draft = record { state = state; draft = draft; log = log; base = base }

same_tested : (state base : State) (a b : ℕ) (log : List LogEntry) (e : LogEntry) (command : Command) (t : Tested)
    → SameLogged (replayed_by sha256 (numbered state log base a) e command t) (replayed_by sha256 (numbered state log base b) e command t)
same_tested state base a b log e command (Err why) = (refl, refl)
same_tested state base a b log e command (Ok u) = same_stepped state (max a e.draft) (max b e.draft) command _ (step sha256 state command _)

same_swept : (state : State) (a b moment : ℕ) (s : Sweep) (outcome : Outcome) → SameLogged (swept_by 0 state a moment s outcome) (swept_by 0 state b moment s outcome)
same_swept state a b moment s (Err why) = (refl, refl)
same_swept state a b moment s (Ok (after, reply)) = (refl, refl)

same_action : (state base : State) (a b : ℕ) (log : List LogEntry) (e : LogEntry) (action : Action)
    → SameLogged (replayed_action sha256 (numbered state log base a) e action) (replayed_action sha256 (numbered state log base b) e action)
unfolding attempt past_of sweep_call
same_action state base a b log e (actions.Call command) = same_tested state base a b log e command (opening sha256 state command)
same_action state base a b log e (actions.Sweep s) = same_swept state (max a e.draft) (max b e.draft) e.moment s (step_sweep state (course sha256 base log).past s)

same_done : (state base : State) (a b : ℕ) (log : List LogEntry) (action : Action) → may_be_done sha256 (numbered state log base a) action ≡ may_be_done sha256 (numbered state log base b) action
same_done state base a b log (actions.Call command) = refl
same_done state base a b log (actions.Sweep s) = refl

abbrev SameLegal : Book → Book → LogEntry → Type 0
SameLegal x y e = (is_legal sha256 x e ≡ is_legal sha256 y e) × SameLogged (replayed_call sha256 x e) (replayed_call sha256 y e)

same_legal : (state base : State) (a b : ℕ) (log : List LogEntry) (e : LogEntry) → SameLegal (numbered state log base a) (numbered state log base b) e
unfolding is_legal
same_legal state base a b log e =
    let same = same_action state base a b log e e.action in
    (λ i. same_done state base a b log e.action i && has_its_draft e && draft_is_new log e.draft && is_just sha256 e (same.0 i), same)

legal_alike : (x y : Book) (e : LogEntry) → x.state ≡ y.state → x.log ≡ y.log → x.base ≡ y.base → SameLegal x y e
legal_alike x y e state log base =
    subst (λ (s : State). SameLegal x (record y { state = s }) e) state
    (subst (λ (l : List LogEntry). SameLegal x (record y { state = x.state; log = l }) e) log
    (subst (λ (s : State). SameLegal x (numbered x.state x.log s y.draft) e) base (same_legal x.state x.base x.draft y.draft x.log e)))

-- ---- one entry more

-- a book that its log leads to from where it starts
abbrev pub IsLed : Opened → Book → Type 0
IsLed o book = IsLegalFrom o (reverse book.log) × ((book_at o (reverse book.log)).state ≡ book.state) × (book.base ≡ o.state)

turned_log : (e : LogEntry) (log : List LogEntry) → reverse (e ∷ log) ≡ reverse log ++ e ∷ []
turned_log e log = reverse-append (e ∷ []) log

-- the log of the book that it leads to
own_log : (o : Opened) (log : List LogEntry) → (book_at o (reverse log)).log ≡ log
own_log o log = log_is sha256 (begun o) (reverse log) ∙ append-nil _ ∙ reverse-reverse log

pub led_on : (o : Opened) (book : Book) (e : LogEntry) (after : State) (draft : ℕ) → IsLed o book → IsLegal sha256 book e → (replayed_call sha256 book e).state ≡ after → draft_may_come o e.draft ≡ true
    → IsLed o (record book { state = after; draft = draft; log = e ∷ book.log })
led_on o book e after draft led legal leads comes =
    let at : Book = book_at o (reverse book.log) in
    let same : SameLegal at book e = legal_alike at book e led.1 (own_log o book.log) (base_stays sha256 (begun o) (reverse book.log) ∙ sym led.2) in
    let there : IsLegal sha256 at e = record { legal = same.0 ∙ legal.legal; logged = same.1.0 ∙ legal.logged } in
    let all : IsLegalFrom o (reverse book.log ++ e ∷ []) = goes_legal o (reverse book.log) (e ∷ []) led.0 (there, tt) (comes, tt) in
    let state : (book_after sha256 (begun o) (reverse book.log ++ e ∷ [])).state ≡ after = ap (λ (b : Book). b.state) (book_more sha256 (begun o) (reverse book.log) (e ∷ [])) ∙ same.1.1 ∙ leads in
    let both = subst (λ (l : List LogEntry). IsLegalFrom o l × ((book_after sha256 (begun o) l).state ≡ after)) (sym (turned_log e book.log)) (all, state) in
    (both.0, both.1, led.2)

limits_same : (book : Book) (e : LogEntry) (after : State) → (replayed_call sha256 book e).state ≡ after → after.limits ≡ book.state.limits
limits_same book e after leads = sym (ap (λ (s : State). s.limits) leads) ∙ limits_stay sha256 book (e ∷ [])

pub sound_on : (o : Opened) (book : Book) (left_open ds : List OpenDraft) (e : LogEntry) (after : State) → IsSound o book left_open → IsLegal sha256 book e → (replayed_call sha256 book e).state ≡ after → draft_may_come o e.draft ≡ true → e.draft ≤ book.draft
    → AreWaiting o.draft book.draft book.log ds → IsNumberOfNone e.draft ds → IsSound o (record book { state = after; log = e ∷ book.log }) ds
sound_on o book left_open ds e after sound legal leads comes low waiting none =
    let led : IsLed o (record book { state = after; log = e ∷ book.log }) = led_on o book e after book.draft (sound.legal, sound.led, sound.base) legal leads comes in
    record { base = led.2; starts = sound.starts; legal = led.0; led = led.1; above = sound.above; taken = (low, sound.taken); waiting = waiting_on o.draft book.draft book.log e ds none waiting }

-- ---- what a call brings

-- an entry of its caller in its draft that is legal and leads to the state; or none, and the state stays
pub record BringsOne (caller number : ℕ) (book : Book) (e : LogEntry) (after : State) : Type 0 where
  pub caller_is : e.caller ≡ caller
  pub draft_is : e.draft ≡ number
  pub legal : IsLegal sha256 book e
  pub leads : (replayed_call sha256 book e).state ≡ after

abbrev pub Brings : ℕ → ℕ → Book → List LogEntry → State → Type 0
Brings caller number book [] after = after ≡ book.state
Brings caller number book (e ∷ []) after = BringsOne caller number book e after
Brings caller number book (e ∷ f ∷ more) after = ⊥

pub record IsCallIn (caller number : ℕ) (book : Book) (called : Called) : Type 0 where
  pub draft : called.draft ≡ book.draft
  pub brings : Brings caller number book called.logged called.state

brings_choice : (caller number : ℕ) (book : Book) (b test : Bool) (x y : Called) → test ≡ b → (test ≡ true → Brings caller number book x.logged x.state) → Brings caller number book y.logged y.state
    → Brings caller number book (if b then x else y).logged (if b then x else y).state
brings_choice caller number book true test x y is p q = p is
brings_choice caller number book false test x y is p q = q

draft_choice : (b : Bool) (x y : Called) (draft : ℕ) → x.draft ≡ draft → y.draft ≡ draft → (if b then x else y).draft ≡ draft
draft_choice true x y draft p q = p
draft_choice false x y draft p q = q

stepped_draft : (caller : ℕ) (state : State) (draft : ℕ) (command : Command) (turn : Turn) (outcome : Outcome) → (stepped sha256 caller state draft command turn outcome).draft ≡ draft
stepped_draft caller state draft command turn (Err why) = refl
stepped_draft caller state draft command turn (Ok (after, reply)) = draft_choice (nat_lt state.place after.place) _ (unchanged_by state draft (Ok reply)) draft refl refl

module _ (caller : ℕ) (book : Book) (command : Command) (turn : Turn) (made : is_well_made sha256 command ≡ true) (own : (if opens_draft command then not (nat_eq turn.draft 0) else nat_eq turn.draft 0) ≡ true) (new : draft_is_new book.log turn.draft ≡ true) where
  accepted_brings : (after : State) (reply : Reply) → step sha256 book.state command turn ≡ Ok (after, reply) → nat_lt book.state.place after.place ≡ true → BringsOne caller turn.draft book (entry_made sha256 caller after command turn reply) after
  unfolding entry_made
  accepted_brings after reply e rose =
      let legal = accepted_is_legal caller book command turn after reply made own new e rose in
      record { caller_is = refl; draft_is = refl; legal = legal.0; leads = legal.1 }

  -- a step that was made
  stepped_logs : (draft : ℕ) (outcome : Outcome) → step sha256 book.state command turn ≡ outcome → Brings caller turn.draft book (stepped sha256 caller book.state draft command turn outcome).logged (stepped sha256 caller book.state draft command turn outcome).state
  stepped_logs draft (Err why) e = refl
  stepped_logs draft (Ok (after, reply)) e = brings_choice caller turn.draft book (nat_lt book.state.place after.place) (nat_lt book.state.place after.place) _ (unchanged_by book.state draft (Ok reply)) refl (accepted_brings after reply e) refl

  stepped_brings : (draft : ℕ) → draft ≡ book.draft → IsCallIn caller turn.draft book (stepped sha256 caller book.state draft command turn (step sha256 book.state command turn))
  stepped_brings draft same = record { draft = stepped_draft caller book.state draft command turn (step sha256 book.state command turn) ∙ same; brings = stepped_logs draft (step sha256 book.state command turn) refl }

greatest : (a b : ℕ) → b ≤ a → max a b ≡ a
greatest a b h = omega (arith, h)

above_zero : (n : ℕ) → 0 < n → nat_eq n 0 ≡ false
above_zero n h = ne_eqb n 0 (λ e. omega arith)

-- a call in its draft
module _ (caller number moment opened : ℕ) (book : Book) (command : Command) (made : is_well_made sha256 command ≡ true) (opens : opens_draft command ≡ true) (above : 0 < number) (below : number ≤ book.draft) (new : draft_is_new book.log number ≡ true) where
  abbrev its_turn : Turn
  its_turn = record { draft = number; opened = opened; moment = moment }

  has_number : (if opens_draft command then not (nat_eq number 0) else nat_eq number 0) ≡ true
  has_number = rw (opens, above_zero number above) refl

  tested_brings : (t : Tested) → IsCallIn caller number book (tried sha256 caller book.state book.draft command its_turn t)
  tested_brings (Err why) = record { draft = refl; brings = refl }
  tested_brings (Ok u) = stepped_brings caller book command its_turn made has_number new (max book.draft number) (greatest book.draft number below)

  pub made_brings : IsCallIn caller number book (attempt_on sha256 book (in_draft caller moment number opened) command)
  unfolding attempt
  made_brings = tested_brings (opening sha256 book.state command)

-- a call that opens none
module _ (caller moment : ℕ) (book : Book) (command : Command) (made : is_well_made sha256 command ≡ true) (opens : opens_draft command ≡ false) where
  unnumbered : (if opens_draft command then not (nat_eq 0 0) else nat_eq 0 0) ≡ true
  unnumbered = rw opens refl

  abbrev plain_turn : Turn
  plain_turn = record { draft = 0; opened = book.state.place; moment = moment }

  plain_brings : (t : Tested) → IsCallIn caller 0 book (tried sha256 caller book.state book.draft command plain_turn t)
  plain_brings (Err why) = record { draft = refl; brings = refl }
  plain_brings (Ok u) = stepped_brings caller book command plain_turn made unnumbered refl (max book.draft 0) (max-zero book.draft)

  pub call_brings : IsCallIn caller 0 book (call_on sha256 caller book command moment)
  unfolding attempt
  call_brings = rw opens (plain_brings _)

-- ---- the book after it

-- other drafts are open
pub sound_with : (o : Opened) (book : Book) (left_open ds : List OpenDraft) → IsSound o book left_open → AreWaiting o.draft book.draft book.log ds → IsSound o book ds
sound_with o book left_open ds sound waiting = record { base = sound.base; starts = sound.starts; legal = sound.legal; led = sound.led; above = sound.above; taken = sound.taken; waiting = waiting }

module _ (caller number : ℕ) (o : Opened) (book : Book) (left_open ds : List OpenDraft) (sound : IsSound o book left_open) (comes : draft_may_come o number ≡ true) (below : number ≤ book.draft) (waiting : AreWaiting o.draft book.draft book.log ds) (none : IsNumberOfNone number ds) where
  sound_by : (logged : List LogEntry) (after : State) (draft : ℕ) → draft ≡ book.draft → Brings caller number book logged after → IsSound o (record book { state = after; draft = draft; log = logged ++ book.log }) ds
  sound_by [] after draft same brings =
      subst (λ (s : State). IsSound o (record book { state = s; draft = draft }) ds) (sym brings)
      (subst (λ (n : ℕ). IsSound o (record book { draft = n }) ds) (sym same) (sound_with o book left_open ds sound waiting))
  sound_by (e ∷ []) after draft same brings =
      let n : e.draft ≡ number = brings.draft_is in
      subst (λ (n : ℕ). IsSound o (record book { state = after; draft = n; log = e ∷ book.log }) ds) (sym same)
      (sound_on o book left_open ds e after sound brings.legal brings.leads (subst (λ (n : ℕ). draft_may_come o n ≡ true) (sym n) comes) (subst (λ (n : ℕ). n ≤ book.draft) (sym n) below) waiting (subst (λ (n : ℕ). IsNumberOfNone n ds) (sym n) none))
  sound_by (e ∷ f ∷ more) after draft same brings = absurd brings

  pub sound_called : (called : Called) → IsCallIn caller number book called → IsSound o (after_call book called) ds
  sound_called called is = sound_by called.logged called.state called.draft is.draft is.brings

limits_by : (caller number : ℕ) (book : Book) (logged : List LogEntry) (after : State) → Brings caller number book logged after → after.limits ≡ book.state.limits
limits_by caller number book [] after brings = ap (λ (s : State). s.limits) brings
limits_by caller number book (e ∷ []) after brings = limits_same book e after brings.leads
limits_by caller number book (e ∷ f ∷ more) after brings = absurd brings

pub limits_called : (caller number : ℕ) (book : Book) (called : Called) → IsCallIn caller number book called → called.state.limits ≡ book.state.limits
limits_called caller number book called is = limits_by caller number book called.logged called.state is.brings

-- ---- logs that are read

-- a book that was led to from where its log starts
pub record IsReopened (o : Opened) (book : Book) : Type 0 where
  pub starts : Upholds sha256 o.state
  pub led : IsLed o book
  pub above : o.draft ≤ book.draft
  pub taken : AreAtMost book.draft book.log

pub reopened_first : (o : Opened) → Upholds sha256 o.state → IsReopened o (begun o)
reopened_first o starts = record { starts = starts; led = (record { legal = tt; drafts = tt }, refl, refl); above = le_refl o.draft; taken = tt }

pub sound_reopened : (o : Opened) (book : Book) → IsReopened o book → IsSound o book []
sound_reopened o book is = record { base = is.led.2; starts = is.starts; legal = is.led.0; led = is.led.1; above = is.above; taken = is.taken; waiting = tt }

module _ (o : Opened) (number : ℕ) (book : Book) (is : IsReopened o book) (comes : draft_may_come o number ≡ true) where
  reopened_by : (logged : List LogEntry) (after : State) (draft : ℕ) → book.draft ≤ draft → (logged ≢ [] → number ≤ draft) → Brings 0 number book logged after → IsReopened o (record book { state = after; draft = draft; log = logged ++ book.log })
  reopened_by [] after draft more low brings =
      subst (λ (s : State). IsReopened o (record book { state = s; draft = draft })) (sym brings)
      record { starts = is.starts; led = is.led; above = omega (arith, is.above, more); taken = at_most_more book.draft draft book.log more is.taken }
  reopened_by (e ∷ []) after draft more low brings =
      let n : e.draft ≡ number = brings.draft_is in
      record {
        starts = is.starts;
        led = led_on o book e after draft is.led brings.legal brings.leads (subst (λ (n : ℕ). draft_may_come o n ≡ true) (sym n) comes);
        above = omega (arith, is.above, more);
        taken = (subst (λ (n : ℕ). n ≤ draft) (sym n) (low (λ none. absurd cc)), at_most_more book.draft draft book.log more is.taken);
      }
  reopened_by (e ∷ f ∷ more_entries) after draft more low brings = absurd brings

legal_parts : (book : Book) (e : LogEntry) → is_legal sha256 book e ≡ true → (may_be_done sha256 book e.action ≡ true) × (has_its_draft e ≡ true) × (draft_is_new book.log e.draft ≡ true)
unfolding is_legal
legal_parts book e legal =
    let first = and_true (may_be_done sha256 book e.action && has_its_draft e && draft_is_new book.log e.draft) (is_just sha256 e (replayed_call sha256 book e).logged) legal in
    let second = and_true (may_be_done sha256 book e.action && has_its_draft e) (draft_is_new book.log e.draft) first.0 in
    let third = and_true (may_be_done sha256 book e.action) (has_its_draft e) second.0 in
    (third.0, third.1, second.1)

-- what the call of a legal entry brings, by nobody
module _ (book : Book) (e : LogEntry) (legal : is_legal sha256 book e ≡ true) where
  -- a draft number that is taken stays so, and an entry's is taken
  abbrev pub Replays : Called → Type 0
  Replays c = Brings 0 e.draft book c.logged c.state × (book.draft ≤ c.draft) × (c.logged ≢ [] → e.draft ≤ c.draft)

  replayed_at : (command : Command) → e.action ≡ actions.Call command → (t : Tested) → Replays (replayed_by sha256 book e command t)
  replayed_at command is (Err why) = (refl, le_refl book.draft, λ some. absurd (some refl))
  replayed_at command is (Ok u) =
      let parts = legal_parts book e legal in
      let made : is_well_made sha256 command ≡ true = subst (λ (a : Action). may_be_done sha256 book a ≡ true) is parts.0 in
      let own : (if opens_draft command then not (nat_eq e.draft 0) else nat_eq e.draft 0) ≡ true = subst (λ (a : Action). (if opens_one a then not (nat_eq e.draft 0) else nat_eq e.draft 0) ≡ true) is parts.1 in
      let taken = stepped_draft 0 book.state (draft_after book e) command (turn_of book e) (step sha256 book.state command (turn_of book e)) in (
        stepped_logs 0 book command (turn_of book e) made own parts.2 (draft_after book e) (step sha256 book.state command (turn_of book e)) refl,
        subst (λ (n : ℕ). book.draft ≤ n) (sym taken) (le-max_left book.draft e.draft),
        λ some. subst (λ (n : ℕ). e.draft ≤ n) (sym taken) (le-max_right book.draft e.draft),
      )

  swept_one : (s : Sweep) (after : State) → 0 ≡ e.draft → IsLegal sha256 book (sweep_entry 0 after.place e.moment s) → (replayed_call sha256 book (sweep_entry 0 after.place e.moment s)).state ≡ after → BringsOne 0 e.draft book (sweep_entry 0 after.place e.moment s) after
  unfolding sweep_entry
  swept_one s after none legal leads = record { caller_is = refl; draft_is = none; legal = legal; leads = leads }

  swept_at : (s : Sweep) → e.action ≡ actions.Sweep s → (outcome : Outcome) → step_sweep book.state (past_of sha256 book) s ≡ outcome → Replays (swept_by 0 book.state (draft_after book e) e.moment s outcome)
  swept_at s is (Err why) steps = (refl, le-max_left book.draft e.draft, λ some. absurd (some refl))
  swept_at s is (Ok (after, reply)) steps =
      let parts = legal_parts book e legal in
      let may : may_be_swept sha256 book s ≡ true = subst (λ (a : Action). may_be_done sha256 book a ≡ true) is parts.0 in
      let none : nat_eq e.draft 0 ≡ true = subst (λ (a : Action). (if opens_one a then not (nat_eq e.draft 0) else nat_eq e.draft 0) ≡ true) is parts.1 in
      let one = swept_is_legal 0 book e.moment s after reply may steps in
      (swept_one s after (sym (exact_unsigned_eq e.draft 0 none)) one.0 one.1, le-max_left book.draft e.draft, λ some. le-max_right book.draft e.draft)

  replays_by : (action : Action) → e.action ≡ action → Replays (replayed_action sha256 book e action)
  unfolding attempt sweep_call
  replays_by (actions.Call command) is = replayed_at command is (opening sha256 book.state command)
  replays_by (actions.Sweep s) is = swept_at s is (step_sweep book.state (past_of sha256 book) s) refl

  pub replays : Replays (replayed_call sha256 book e)
  replays = replays_by e.action refl

pub reopened_on : (o : Opened) (book : Book) (e : LogEntry) → IsReopened o book → is_legal sha256 book e ≡ true → draft_may_come o e.draft ≡ true → IsReopened o (after_call book (replayed_call sha256 book e))
reopened_on o book e is legal comes =
    let r = replays book e legal in
    reopened_by o e.draft book is comes (replayed_call sha256 book e).logged (replayed_call sha256 book e).state (replayed_call sha256 book e).draft r.1 r.2 r.0

-- ---- what its state upholds

pub state_upholds : (o : Opened) (book : Book) (left_open : List OpenDraft) → IsSound o book left_open → Upholds sha256 book.state
state_upholds o book left_open sound = subst (Upholds sha256) sound.led (books_uphold sha256 (begun o) (reverse book.log) sound.starts)
