-- What a sweep of the log brings where it is executed again, and what each entry takes.
use Rattle.std.proofs.Common.{◌≡◌, ℕ, ◌+◌, ◌≤◌, ◌<◌, max, List, [], ◌∷◌, ◌++◌, length, Option, None, Result, Ok, Err, IfOk, is_ok, is_some, IsTrue, Bool, true, false, not, ◌&&◌, ◌||◌, nat_eq, nat_le, nat_lt, if◌then◌else◌, refl, sym, ap, ◌∙◌, subst, arith}
use Rattle.std.proofs.lemmas.Bool.{leb-true, ltb-true}
use Rattle.std.proofs.lemmas.Bool.Decides.{nat_tests}
use Rattle.std.proofs.lemmas.Map.Views.{exact_unsigned_eq}
use Rattle.std.proofs.Math.Nat.{max-zero}
use Rattle.std.specs.List.{list_all, list_any}
use Rattle.sha2.specs.Sha256.{sha256}
use Rattle.cat_codes.specs.ListLaws.{and_true}
use Rattle.cat_checks.specs.ReplayedLaws.{replayed_later}
use Rattle.cat_checks.specs.Legal.{draft_after, has_its_draft, may_be_done, may_be_swept, most_patterns, opens_one, replayed_action, replayed_by, replayed_call, turn_of}
use Rattle.cat_graph.specs.Linked.{AreLinked, is_known}
use Rattle.cat_mark.specs.Marks.{is_marked}
use Rattle.cat_model.specs.declared.command.Command.{Command}
use Rattle.cat_model.specs.declared.limits.Limits.{Limits}
use Rattle.cat_model.specs.declared.limits.Quantity.TheVariants as quantities
use Rattle.cat_model.specs.declared.log_entry.Action.{Action}
use Rattle.cat_model.specs.declared.log_entry.Action.TheVariants as actions
use Rattle.cat_model.specs.declared.log_entry.LogEntry.{LogEntry}
use Rattle.cat_model.specs.declared.reference.Reference.{Reference}
use Rattle.cat_model.specs.declared.refusal.Refusal.{Refusal}
use Rattle.cat_model.specs.declared.refusal.Refusal.TheVariants.{Limit}
use Rattle.cat_model.specs.declared.sweep.Sweep.{Sweep}
use Rattle.cat_model.specs.Base.{is_among}
use Rattle.cat_model.specs.Book.{Book}
use Rattle.cat_model.specs.Calls.{Called, attempt, stepped}
use Rattle.cat_model.specs.Past.{past_of}
use Rattle.cat_model.specs.Refusing.{◌>>=◌, Outcome, Tested, needs, needs_at_most}
use Rattle.cat_model.specs.State.{State, reference_of}
use Rattle.cat_model.specs.State as state
use Rattle.cat_model.specs.Step.{Turn, opening, step}
use Rattle.cat_model.specs.Sweeps.{kept_contents, needs_sweep_room, step_sweep, sweep_call, sweep_entry, swept, swept_by}
use Rattle.cat_model.specs.Turns.{Opened}
use Rattle.cat_names.specs.declared.hash.Hash.{Hash}
use Rattle.cat_state.specs.Sweeping.{spares_at, sweeping}
use Rattle.cat_tables.specs.References.{heads_pass, names_ascend}
use Rattle.cat_tables.specs.Tables.{value_of}
use Rattle.cat_core.specs.Making.{with_entry}
use Rattle.cat_core.specs.Opening.{IsMadeAgain, may_follow}
use Rattle.cat_core.specs.Sweeping.{AreRemoved, IsFollowed, IsTaken, Removes, TakesOne, has_room, name_in, rooted, saved_on, taken_passes}
use Rattle.cat_core.proofs.Following.{follows_parts}
use Rattle.cat_core.proofs.Looking.{saved_is}
use Rattle.cat_core.proofs.Spared.{kept_is, spared_heads}
use Rattle.cat_core.proofs.Taken.{KeepsOthers, found_there, others_stay, parted, takes_own}

-- ---- what a sweep brings

-- the entry of a sweep at the next place
abbrev pub swept_entry : Book → LogEntry → LogEntry
swept_entry book entry = record { place = book.state.place + 1; caller = 0; draft = 0; moment = entry.moment; action = entry.action; head = None }

module _ (book : Book) (entry : LogEntry) (s : Sweep) (hashes : List Hash) (is : entry.action ≡ actions.Sweep s) (none : nat_eq entry.draft 0 ≡ true) (room : has_room book.state s ≡ true) (are : AreRemoved book s hashes) where
  abbrev BringsSweep : Called → Type 0
  BringsSweep c = (c.logged ≡ swept_entry book entry ∷ []) × (c.state ≡ sweeping book.state hashes) × (c.draft ≡ book.draft)

  entry_is : sweep_entry 0 (book.state.place + 1) entry.moment s ≡ swept_entry book entry
  unfolding sweep_entry
  entry_is = ap (λ (a : Action). record { place = book.state.place + 1; caller = 0; draft = 0; moment = entry.moment; action = a; head = None }) (sym is)

  state_is : record (book.state) { place = book.state.place + 1; present = kept_contents (saved_on book s) book.state.present } ≡ sweeping book.state hashes
  state_is = sym (ap (λ present. record (book.state) { place = book.state.place + 1; present = present }) (kept_is (saved_on book s) book.state.present hashes are))

  draft_is : draft_after book entry ≡ book.draft
  draft_is = ap (max book.draft) (exact_unsigned_eq entry.draft 0 none) ∙ max-zero book.draft

  by_test : (t : Tested) → is_ok t ≡ true → BringsSweep (swept_by 0 book.state (draft_after book entry) entry.moment s (t >>= λ _. swept book.state s.opened (saved_on book s)))
  by_test (Ok u) e = (ap (λ (x : LogEntry). x ∷ []) entry_is, state_is, draft_is)
  by_test (Err why) e = absurd cc

  brings_action : BringsSweep (replayed_action sha256 book entry (actions.Sweep s))
  unfolding sweep_call step_sweep
  brings_action = by_test (needs_sweep_room book.state (length s.commits + length s.contents)) room

  brings : BringsSweep (replayed_call sha256 book entry)
  brings = subst (λ (a : Action). BringsSweep (replayed_action sha256 book entry a)) (sym is) brings_action

  again : (after : Book) → after ≡ with_entry book (sweeping book.state hashes) (swept_entry book entry) → IsMadeAgain (replayed_call sha256 book entry) book after
  again after made = record {
    entry = swept_entry book entry;
    logged = brings.0;
    book = made ∙ sym (λ i. record book { state = brings.1 i; draft = brings.2 i; log = brings.0 i ++ book.log });
    place = ap (λ (b : Book). b.state.place) made;
  }

undrafted : (entry : LogEntry) (s : Sweep) → entry.action ≡ actions.Sweep s → has_its_draft entry ≡ true → nat_eq entry.draft 0 ≡ true
undrafted entry s is own = subst (λ (a : Action). (if opens_one a then not (nat_eq entry.draft 0) else nat_eq entry.draft 0) ≡ true) is own

pub swept_again : (book after : Book) (entry : LogEntry) (hashes : List Hash) → Removes book entry hashes → has_its_draft entry ≡ true → after ≡ with_entry book (sweeping book.state hashes) (swept_entry book entry)
    → IsMadeAgain (replayed_call sha256 book entry) book after
swept_again book after entry hashes removes own made =
    again book entry removes.sweep hashes removes.action_is (undrafted entry removes.sweep removes.action_is own) removes.room removes.are after made

-- nothing goes that is visible at a head
pub sweep_spares : (book : Book) (entry : LogEntry) (hashes : List Hash) → Removes book entry hashes → IsTrue (heads_pass (spares_at book.state.commits hashes) book.state.references)
sweep_spares book entry hashes removes = spared_heads book.state (past_of sha256 book) removes.sweep hashes removes.are

by_room : (b : Bool) (why : Refusal) (t : Tested) → is_ok (needs b why >>= λ _. t) ≡ true → b ≡ true
by_room true why t e = refl
by_room false why t e = absurd cc

-- there is room for its entry
pub has_place : (state : State) (s : Sweep) → has_room state s ≡ true → state.place < state.limits.log
unfolding needs_sweep_room
has_place state s room = ltb-true state.place state.limits.log (by_room (nat_lt state.place state.limits.log) (Limit quantities.Log state.limits.log) (needs_at_most (length s.commits + length s.contents) state.limits.names quantities.Names) room)

-- a sweep without room brings nothing
no_room : (book : Book) (entry : LogEntry) (s : Sweep) (t : Tested) (outcome : Outcome) → is_ok t ≡ false → (swept_by 0 book.state (draft_after book entry) entry.moment s (t >>= λ _. outcome)).logged ≡ []
no_room book entry s (Ok u) outcome e = absurd cc
no_room book entry s (Err why) outcome e = refl

no_room_action : (book : Book) (entry : LogEntry) (s : Sweep) → has_room book.state s ≡ false → (replayed_action sha256 book entry (actions.Sweep s)).logged ≡ []
unfolding sweep_call step_sweep
no_room_action book entry s none = no_room book entry s (needs_sweep_room book.state (length s.commits + length s.contents)) (swept book.state s.opened (saved_on book s)) none

pub none_swept : (book : Book) (entry : LogEntry) (s : Sweep) → entry.action ≡ actions.Sweep s → has_room book.state s ≡ false → (replayed_call sha256 book entry).logged ≡ []
none_swept book entry s is none = subst (λ (a : Action). (replayed_action sha256 book entry a).logged ≡ []) (sym is) (no_room_action book entry s none)

-- ---- what is marked

-- what a sweep keeps is what is marked
pub marks_are : (book : Book) (numbers : List ℕ) (taken : List (Option Reference)) (s : Sweep) (marks : List Hash) → IsFollowed numbers taken book → AreLinked book.state.commits → IsTrue (heads_pass (is_known book.state.commits) book.state.references)
    → book.base.place ≤ s.opened → s.opened ≤ book.state.place → ((hash : Hash) → is_marked marks hash ≡ is_among (rooted book.base.place book.state taken s) hash) → (hash : Hash) → is_marked marks hash ≡ is_among (saved_on book s) hash
marks_are book numbers taken s marks followed linked heads since_base opened marked hash =
    marked hash ∙ sym (saved_is book.base.place book.state (past_of sha256 book) taken s hash linked heads followed.count since_base opened followed.taken_are)

pub removed_are : (book : Book) (s : Sweep) (marks hashes : List Hash) → ((hash : Hash) → is_marked marks hash ≡ is_among (saved_on book s) hash)
    → ((hash : Hash) → is_among hashes hash ≡ (is_some (value_of book.state.present hash) && not (is_marked marks hash))) → AreRemoved book s hashes
removed_are book s marks hashes marked un hash = un hash ∙ ap (λ (b : Bool). is_some (value_of book.state.present hash) && not b) (marked hash)

-- it was opened at a place of the log
pub opened_before : (o : Opened) (book : Book) (entry : LogEntry) (s : Sweep) → entry.action ≡ actions.Sweep s → may_follow o book entry ≡ true → s.opened ≤ book.state.place
opened_before o book entry s is may =
    let swept = subst (λ (a : Action). may_be_done sha256 book a ≡ true) is (follows_parts o book entry may).0 in
    let three = (and_true _ (nat_le (length s.policy.cutoffs) most_patterns) swept).0 in
    let two = (and_true _ (list_all (state.is_known sha256 book.state) s.commits) three).0 in
    leb-true s.opened book.state.place (and_true (nat_le book.base.place s.opened) (nat_le s.opened book.state.place) two).1

-- and not before the log began
pub opened_since : (o : Opened) (book : Book) (entry : LogEntry) (s : Sweep) → entry.action ≡ actions.Sweep s → may_follow o book entry ≡ true → book.base.place ≤ s.opened
opened_since o book entry s is may =
    let swept = subst (λ (a : Action). may_be_done sha256 book a ≡ true) is (follows_parts o book entry may).0 in
    let three = (and_true _ (nat_le (length s.policy.cutoffs) most_patterns) swept).0 in
    let two = (and_true _ (list_all (state.is_known sha256 book.state) s.commits) three).0 in
    leb-true book.base.place s.opened (and_true (nat_le book.base.place s.opened) (nat_le s.opened book.state.place) two).0

-- ---- what entries take

or_left : (a : Bool) → a ≡ true → (a || false) ≡ true
or_left true e = refl
or_left false e = absurd cc

or_first : (a b c : Bool) → (a ≡ true → c ≡ true) → (a || b) ≡ true → (c || b) ≡ true
or_first true b c f e = subst (λ (x : Bool). (x || b) ≡ true) (sym (f refl)) refl
or_first false true true f e = refl
or_first false true false f e = refl
or_first false false c f e = absurd cc

-- a sweep takes none
pub sweep_takes : (book after : Book) (entry : LogEntry) (hashes : List Hash) (taken longer : List (Option Reference)) → after ≡ with_entry book (sweeping book.state hashes) entry → longer ≡ taken ++ None ∷ []
    → IsTrue (heads_pass (is_known book.state.commits) book.state.references) → TakesOne book after taken longer
sweep_takes book after entry hashes taken longer made more heads = record {
  one = None;
  more_are = more;
  is =
      subst (λ (b : Book). IsTaken book.state b.state None) (sym made)
      (record { kept = λ passes e. or_left _ e; there = λ passes e. absurd cc; heads = heads; later = record { commits = ([], refl) } });
}

choice_keeps : (name : List ℕ) (references : List Reference) (b : Bool) (x y : Called) → KeepsOthers name references x.state.references → KeepsOthers name references y.state.references → KeepsOthers name references (if b then x else y).state.references
choice_keeps name references true x y p q = p
choice_keeps name references false x y p q = q

stepped_keeps : (state : State) (draft : ℕ) (command : Command) (turn : Turn) (outcome : Outcome) → step sha256 state command turn ≡ outcome
    → KeepsOthers (name_in command) state.references (stepped sha256 0 state draft command turn outcome).state.references
stepped_keeps state draft command turn (Err why) is = others_stay (name_in command) state.references
stepped_keeps state draft command turn (Ok (after, reply)) is =
    choice_keeps (name_in command) state.references (nat_lt state.place after.place) _ _ (takes_own sha256 state command turn after reply is) (others_stay (name_in command) state.references)

tested_keeps : (book : Book) (entry : LogEntry) (command : Command) (tests : Tested) → KeepsOthers (name_in command) book.state.references (replayed_by sha256 book entry command tests).state.references
tested_keeps book entry command (Err why) = others_stay (name_in command) book.state.references
tested_keeps book entry command (Ok u) = stepped_keeps book.state (draft_after book entry) command (turn_of book entry) (step sha256 book.state command (turn_of book entry)) refl

command_keeps : (book : Book) (entry : LogEntry) (command : Command) → KeepsOthers (name_in command) book.state.references (replayed_action sha256 book entry (actions.Call command)).state.references
unfolding attempt
command_keeps book entry command = tested_keeps book entry command (opening sha256 book.state command)

call_keeps : (book : Book) (entry : LogEntry) (command : Command) → entry.action ≡ actions.Call command → KeepsOthers (name_in command) book.state.references (replayed_call sha256 book entry).state.references
call_keeps book entry command is = subst (λ (a : Action). KeepsOthers (name_in command) book.state.references (replayed_action sha256 book entry a).state.references) (sym is) (command_keeps book entry command)

-- a call takes at most the reference of its name
pub call_takes : (book after : Book) (entry : LogEntry) (command : Command) (taken longer : List (Option Reference)) → entry.action ≡ actions.Call command → IsMadeAgain (replayed_call sha256 book entry) book after
    → longer ≡ taken ++ reference_of book.state.references (name_in command) ∷ [] → names_ascend book.state.references ≡ true → IsTrue (heads_pass (is_known book.state.commits) book.state.references) → TakesOne book after taken longer
call_takes book after entry command taken longer is made more ascend heads =
    let one = reference_of book.state.references (name_in command) in
    let called : State = (replayed_call sha256 book entry).state in
    let there : IsTaken book.state called one = record {
      kept = λ passes e.
          or_first _ (taken_passes passes one) (list_any passes called.references) (call_keeps book entry command is passes)
          (parted (name_in command) book.state.references passes ascend e);
      there = λ passes e. found_there (name_in command) book.state.references passes e;
      heads = heads;
      later = replayed_later sha256 book entry;
    } in
    record { one = one; more_are = more; is = subst (λ (b : Book). IsTaken book.state b.state one) (sym made.book) there }

-- ---- tests of sweeps

tests_names : (b : Bool) (why : Refusal) → b ≡ is_ok (needs b why)
tests_names true why = refl
tests_names false why = refl

tests_both : (log names : Bool) (why other : Refusal) → log ≡ true → names ≡ is_ok (needs log why >>= λ _. needs names other)
tests_both true names why other e = tests_names names other
tests_both false names why other e = absurd cc

log_fails : (log : Bool) (why : Refusal) (t : Tested) → log ≡ false → log ≡ is_ok (needs log why >>= λ _. t)
log_fails true why t e = absurd cc
log_fails false why t e = refl

lt_is : (a b : ℕ) → a < b → nat_lt a b ≡ true
lt_is a b lt = grind (arith, nat_tests)

ge_is : (a b : ℕ) → b ≤ a → nat_lt a b ≡ false
ge_is a b le = grind (arith, nat_tests)

pub room_tested : (state : State) (s : Sweep) → state.place < state.limits.log → nat_le (length s.commits + length s.contents) state.limits.names ≡ has_room state s
unfolding needs_sweep_room
room_tested state s e = tests_both (nat_lt state.place state.limits.log) (nat_le (length s.commits + length s.contents) state.limits.names) (Limit quantities.Log state.limits.log) (Limit quantities.Names state.limits.names) (lt_is _ _ e)

pub room_refused : (state : State) (s : Sweep) → state.limits.log ≤ state.place → nat_lt state.place state.limits.log ≡ has_room state s
unfolding needs_sweep_room
room_refused state s e = log_fails (nat_lt state.place state.limits.log) (Limit quantities.Log state.limits.log) (needs_at_most (length s.commits + length s.contents) state.limits.names quantities.Names) (ge_is _ _ e)

pub place_below : (book : Book) (entry : LogEntry) (hashes : List Hash) → Removes book entry hashes → (limits : Limits) → limits ≡ book.state.limits → limits.log ≤ 4294967295 → book.state.place < 4294967295
place_below book entry hashes removes limits same few =
    let room : book.state.place < book.state.limits.log = has_place book.state removes.sweep removes.room in
    let log : limits.log ≡ book.state.limits.log = ap (λ (l : Limits). l.log) same in
    omega (arith, room, log, few)

-- ---- before the first entry

as_begun : (state : State) (draft : ℕ) (log : List LogEntry) (base : State) → log ≡ [] → base ≡ state → IsFollowed [] [] (record { state = state; draft = draft; log = log; base = base })
unfolding past_of
as_begun state draft log base none here =
    subst (λ (l : List LogEntry). IsFollowed [] [] (record { state = state; draft = draft; log = l; base = base })) (sym none)
    (subst (λ (s : State). IsFollowed [] [] (record { state = s; draft = draft; log = []; base = base })) here record { drafts = λ d. refl; ends = refl; count = omega arith; taken_are = tt })

pub followed_first : (book : Book) → book.log ≡ [] → book.base ≡ book.state → IsFollowed [] [] book
followed_first book none here = as_begun book.state book.draft book.log book.base none here

-- ---- as they are returned

pub marked_as : {V E : Type 0} (set : V → List Hash) (book : Book) (numbers : List ℕ) (taken : List (Option Reference)) (s : Sweep) (r : Result V E) → IsFollowed numbers taken book → AreLinked book.state.commits
    → IsTrue (heads_pass (is_known book.state.commits) book.state.references) → book.base.place ≤ s.opened → s.opened ≤ book.state.place
    → IfOk r (λ v. (hash : Hash) → is_marked (set v) hash ≡ is_among (rooted book.base.place book.state taken s) hash) → IfOk r (λ v. (hash : Hash) → is_marked (set v) hash ≡ is_among (saved_on book s) hash)
marked_as set book numbers taken s (Ok v) followed linked heads since_base opened marked = marks_are book numbers taken s (set v) followed linked heads since_base opened marked
marked_as set book numbers taken s (Err why) followed linked heads since_base opened marked = tt

pub removed_as : {V E : Type 0} (items : V → List Hash) (book : Book) (s : Sweep) (marks : List Hash) (r : Result V E) → ((hash : Hash) → is_marked marks hash ≡ is_among (saved_on book s) hash)
    → IfOk r (λ v. (hash : Hash) → is_among (items v) hash ≡ (is_some (value_of book.state.present hash) && not (is_marked marks hash))) → IfOk r (λ v. AreRemoved book s (items v))
removed_as items book s marks (Ok v) marked un = removed_are book s marks (items v) marked un
removed_as items book s marks (Err why) marked un = tt

pub may_be_swept_is : (book : Book) (s : Sweep) → (nat_le book.base.place s.opened && nat_le s.opened book.state.place && list_all (is_known book.state.commits) s.commits && nat_le (length s.policy.cutoffs) 1000) ≡ may_be_swept sha256 book s
may_be_swept_is book s = refl
