-- What was live at the states since a place: what was live up to an earlier state, and from the heads that the entries behind it left.
use Rattle.std.proofs.Common.{◌≡◌, ℕ, suc, ◌+◌, ◌-◌, ◌≤◌, List, [], ◌∷◌, ◌++◌, length, take, reverse, Option, Some, None, Ok, Err, Bool, true, false, ◌||◌, ◌&&◌, nat_lt, if◌then◌else◌, refl, sym, ap, ◌∙◌, subst, arith}
use Rattle.std.proofs.lemmas.List.{reverse-append, reverse-reverse}
use Rattle.std.specs.List.{flat_map, list_all, list_any}
use Rattle.sha2.specs.Sha256.{sha256}
use Rattle.cat_checks.specs.Histories.{AreLegal, begun, book_at}
use Rattle.cat_checks.specs.HistoryLaws.{book_more, course_is, legal_back, legal_front}
use Rattle.cat_checks.specs.ReplayedLaws.{legal_place, replayed_later}
use Rattle.cat_checks.specs.Legal.{IsLegal, draft_after, replayed_action, replayed_by, replayed_call, turn_of}
use Rattle.cat_frames.specs.Entries.{of_nobody}
use Rattle.cat_graph.specs.Linked.{AreLinked}
use Rattle.cat_model.specs.declared.command.Command.{Command}
use Rattle.cat_model.specs.declared.cutoff.Resolved.{Resolved}
use Rattle.cat_model.specs.declared.log_entry.Action.{Action}
use Rattle.cat_model.specs.declared.log_entry.Action.TheVariants as actions
use Rattle.cat_model.specs.declared.log_entry.LogEntry.{LogEntry}
use Rattle.cat_model.specs.declared.reference.Reference.{Reference}
use Rattle.cat_model.specs.declared.reply.Reply.{Reply}
use Rattle.cat_model.specs.declared.sweep.Sweep.{Sweep}
use Rattle.cat_model.specs.Base.{is_among}
use Rattle.cat_model.specs.Book.{Book}
use Rattle.cat_model.specs.Calls.{Called, attempt, entry_made, stepped}
use Rattle.cat_model.specs.Chain.{Commits}
use Rattle.cat_model.specs.Cutoffs.{cutoff_for, live_from}
use Rattle.cat_model.specs.Later.{Adds, IsLater}
use Rattle.cat_model.specs.Past.{course, past_of}
use Rattle.cat_model.specs.Refusing.{Outcome, Tested}
use Rattle.cat_model.specs.State.{State}
use Rattle.cat_model.specs.Step.{Turn, head_left, opening, step}
use Rattle.cat_model.specs.Sweeps.{needs_sweep_room, since, step_sweep, sweep_call, swept_by}
use Rattle.cat_model.specs.Turns.{Opened}
use Rattle.cat_names.specs.declared.hash.Hash.{Hash}
use Rattle.cat_core.specs.Stored.{is_headed}
use Rattle.cat_core.specs.Sweeping.{name_in}
use Rattle.cat_core.specs.Sweeps.{head_by, head_made, if_head}
use Rattle.cat_core.proofs.Left.{Leaves, Test, left_passes, seen, step_leaves}
use Rattle.cat_core.proofs.Looking.{adds_on, among_both, is_live, is_live_then, live_then}
use Rattle.cat_core.proofs.Taken.{OkIs, bind}

-- ---- what a legal entry left

-- the reference that its action left at its head, if there is one
abbrev pub LeavesBy : Action → Option Hash → List Reference → List Reference → Type 0
LeavesBy (actions.Call command) head before after = Leaves (name_in command) head before after
LeavesBy (actions.Sweep s) head before after = after ≡ before

-- where an entry was logged, it tells what was left
abbrev Tells : LogEntry → Action → List Reference → Called → Type 0
Tells e action before c = c.logged ≡ of_nobody e ∷ [] → LeavesBy action e.head before c.state.references

choice_tells : (e : LogEntry) (action : Action) (before : List Reference) (b : Bool) (x y : Called) → (b ≡ true → Tells e action before x) → Tells e action before y → Tells e action before (if b then x else y)
choice_tells e action before true x y p q = p refl
choice_tells e action before false x y p q = q

newest_head : List LogEntry → Option Hash
newest_head [] = None
newest_head (e ∷ log) = e.head

made_tells : (e : LogEntry) (command : Command) (turn : Turn) (after : State) (reply : Reply) → entry_made sha256 0 after command turn reply ∷ [] ≡ of_nobody e ∷ [] → head_left command reply ≡ e.head
unfolding entry_made newest_head
made_tells e command turn after reply logged = ap newest_head logged

stepped_tells : (e : LogEntry) (state : State) (draft : ℕ) (command : Command) (turn : Turn) (outcome : Outcome) → step sha256 state command turn ≡ outcome → Tells e (actions.Call command) state.references (stepped sha256 0 state draft command turn outcome)
stepped_tells e state draft command turn (Err why) steps = λ logged. absurd cc
stepped_tells e state draft command turn (Ok (after, reply)) steps =
    choice_tells e (actions.Call command) state.references (nat_lt state.place after.place) _ _
    (λ rose logged. subst (λ (head : Option Hash). Leaves (name_in command) head state.references after.references) (made_tells e command turn after reply logged) (step_leaves sha256 state command turn after reply steps rose))
    (λ logged. absurd cc)

tested_tells : (e : LogEntry) (book : Book) (command : Command) (tested : Tested) → Tells e (actions.Call command) book.state.references (replayed_by sha256 book e command tested)
tested_tells e book command (Err why) = λ logged. absurd cc
tested_tells e book command (Ok u) = stepped_tells e book.state (draft_after book e) command (turn_of book e) (step sha256 book.state command (turn_of book e)) refl

sweep_stays : (state : State) (past : List State) (s : Sweep) → OkIs (λ x. x.0.references ≡ state.references) (step_sweep state past s)
unfolding step_sweep
sweep_stays state past s = bind _ (needs_sweep_room state (length s.commits + length s.contents)) _ (λ u _. refl)

swept_tells : (e : LogEntry) (state : State) (draft : ℕ) (s : Sweep) (outcome : Outcome) → OkIs (λ x. x.0.references ≡ state.references) outcome → Tells e (actions.Sweep s) state.references (swept_by 0 state draft e.moment s outcome)
swept_tells e state draft s (Err why) stays = λ logged. absurd cc
swept_tells e state draft s (Ok (after, reply)) stays = λ logged. stays

action_tells : (e : LogEntry) (book : Book) (action : Action) → Tells e action book.state.references (replayed_action sha256 book e action)
unfolding attempt sweep_call
action_tells e book (actions.Call command) = tested_tells e book command (opening sha256 book.state command)
action_tells e book (actions.Sweep s) = swept_tells e book.state (draft_after book e) s (step_sweep book.state (past_of sha256 book) s) (sweep_stays book.state (past_of sha256 book) s)

legal_leaves : (book : Book) (e : LogEntry) → IsLegal sha256 book e → LeavesBy e.action e.head book.state.references (replayed_call sha256 book e).state.references
legal_leaves book e legal = action_tells e book e.action legal.logged

-- ---- the newest entry comes first

-- each entry is legal where it stands
abbrev pub AreLegalBack : Opened → List LogEntry → Type 0
AreLegalBack o [] = Unit {0}
AreLegalBack o (e ∷ older) = IsLegal sha256 (book_at o (reverse older)) e × AreLegalBack o older

turned : (e : LogEntry) (older : List LogEntry) → reverse (e ∷ older) ≡ reverse older ++ e ∷ []
turned e older = reverse-append (e ∷ []) older

pub legal_backwards : (o : Opened) (log : List LogEntry) → AreLegal sha256 (begun o) (reverse log) → AreLegalBack o log
legal_backwards o [] legal = tt
legal_backwards o (e ∷ older) legal =
    let parts : AreLegal sha256 (begun o) (reverse older ++ e ∷ []) = subst (AreLegal sha256 (begun o)) (turned e older) legal in
    ((legal_back sha256 (begun o) (reverse older) (e ∷ []) parts).0, legal_backwards o older (legal_front sha256 (begun o) (reverse older) (e ∷ []) parts))

-- the state after entries
abbrev pub state_at : Opened → List LogEntry → State
state_at o log = (course sha256 o.state log).state

abbrev pub past_at : Opened → List LogEntry → List State
past_at o log = (course sha256 o.state log).past

-- it is that of the book after them
state_is : (o : Opened) (log : List LogEntry) → state_at o log ≡ (book_at o (reverse log)).state
state_is o log = ap (state_at o) (sym (reverse-reverse log)) ∙ course_is o (reverse log)

next_is : (o : Opened) (e : LogEntry) (older : List LogEntry) → state_at o (e ∷ older) ≡ (replayed_call sha256 (book_at o (reverse older)) e).state
next_is o e older =
    state_is o (e ∷ older) ∙ ap (λ (l : List LogEntry). (book_at o l).state) (turned e older) ∙ ap (λ (b : Book). b.state) (book_more sha256 (begun o) (reverse older) (e ∷ []))

-- one entry more: what it left, its place, and commits that stay
record IsNext (o : Opened) (e : LogEntry) (older : List LogEntry) : Type 0 where
  leaves : LeavesBy e.action e.head (state_at o older).references (state_at o (e ∷ older)).references
  place : (state_at o (e ∷ older)).place ≡ (state_at o older).place + 1
  later : IsLater (state_at o older) (state_at o (e ∷ older))

is_next : (o : Opened) (e : LogEntry) (older : List LogEntry) → IsLegal sha256 (book_at o (reverse older)) e → IsNext o e older
is_next o e older legal =
    let book = book_at o (reverse older) in
    let was : state_at o older ≡ book.state = state_is o older in
    let is : state_at o (e ∷ older) ≡ (replayed_call sha256 book e).state = next_is o e older in
    record {
      leaves = subst (λ (s : State). LeavesBy e.action e.head s.references (state_at o (e ∷ older)).references) (sym was) (subst (λ (s : State). LeavesBy e.action e.head book.state.references s.references) (sym is) (legal_leaves book e legal));
      place = ap (λ (s : State). s.place) is ∙ legal_place sha256 book e legal.legal ∙ ap (λ (s : State). s.place + 1) (sym was);
      later = subst (λ (s : State). IsLater s (state_at o (e ∷ older))) (sym was) (subst (IsLater book.state) (sym is) (replayed_later sha256 book e));
    }

-- one place an entry
places_from : (o : Opened) (log : List LogEntry) → AreLegalBack o log → (state_at o log).place ≡ o.state.place + length log
places_from o [] legal = omega arith
places_from o (e ∷ older) legal =
    let next = (is_next o e older legal.0).place in
    let rest = places_from o older legal.1 in
    omega (arith, next, rest)

older_legal : (o : Opened) (new older : List LogEntry) → AreLegalBack o (new ++ older) → AreLegalBack o older
older_legal o [] older legal = legal
older_legal o (e ∷ new) older legal = older_legal o new older legal.1

pub places_back : (o : Opened) (new older : List LogEntry) → AreLegalBack o (new ++ older) → (state_at o older).place ≡ o.state.place + length older
places_back o new older legal = places_from o older (older_legal o new older legal)

-- ---- the states since a place

-- one state more
since_next : (place : ℕ) (after state : State) (past : List State) → after.place ≡ state.place + 1 → place ≤ state.place → since place after (state ∷ past) ≡ after ∷ since place state past
since_next place after state past next low =
    let n : after.place - place ≡ suc (state.place - place) = omega (arith, next, low) in
    ap (λ (n : ℕ). after ∷ take n (state ∷ past)) n

-- ---- what is live

-- from the head that an action left
abbrev pub left_live : Test → Action → Option Hash → Bool
left_live passes (actions.Call command) head = left_passes passes (name_in command) head
left_live passes (actions.Sweep s) head = false

-- what is live after an entry was before, or is from its head; and what is live from its head is live after it
or_here : (a b : Bool) → a ≡ true → (a || b) ≡ true
or_here true b e = refl
or_here false b e = absurd cc

only_by : (passes : Test) (action : Action) (head : Option Hash) (old new : List Reference) → LeavesBy action head old new → list_any (seen passes) new ≡ true → (list_any (seen passes) old || left_live passes action head) ≡ true
only_by passes (actions.Call command) head old new leaves e = leaves.only passes e
only_by passes (actions.Sweep s) head old new same e = or_here (list_any (seen passes) old) false (ap (list_any (seen passes)) (sym same) ∙ e)

there_by : (passes : Test) (action : Action) (head : Option Hash) (old new : List Reference) → LeavesBy action head old new → left_live passes action head ≡ true → list_any (seen passes) new ≡ true
there_by passes (actions.Call command) head old new leaves e = leaves.there passes e
there_by passes (actions.Sweep s) head old new same e = absurd cc

or_none : (a : Bool) → (a || false) ≡ a
or_none true = refl
or_none false = refl

or_assoc : (a b c : Bool) → ((a || b) || c) ≡ (a || (b || c))
or_assoc true b c = refl
or_assoc false b c = refl

-- what is live after it adds what is live from its head, where all that was live before is there
or_more : (a b l prev : Bool) → (a ≡ true → (b || l) ≡ true) → (l ≡ true → a ≡ true) → (b ≡ true → prev ≡ true) → (a || prev) ≡ (l || prev)
or_more true b true prev only there held = refl
or_more true true false true only there held = refl
or_more true true false false only there held = absurd (let no : false ≡ true = held refl in cc)
or_more true false false prev only there held = absurd (let no : false ≡ true = only refl in cc)
or_more false b true prev only there held = absurd (let no : false ≡ true = there refl in cc)
or_more false b false prev only there held = refl

or_between : (l d n : Bool) → (l || (d || n)) ≡ (d || (l || n))
or_between true true n = refl
or_between true false n = refl
or_between false d n = refl

module _ (now : Commits) (are : AreLinked now) (policy : Resolved) (hash : Hash) where
  -- what is live from a head
  abbrev pub lives : Test
  lives name head = is_among (live_from now (cutoff_for policy name) head) hash

  abbrev pub left_by : LogEntry → Bool
  left_by e = left_live lives e.action e.head

  abbrev pub one_of : List State → Bool
  one_of states = list_any (is_live_then now are policy hash) states

  -- what is live at the newest of the states
  newest_held : (place : ℕ) (state : State) (past : List State) → Adds state.commits now → is_headed state ≡ true → list_any (is_live now are policy hash) state.references ≡ true → one_of (since place state past) ≡ true
  newest_held place state past adds headed e = or_here _ _ (live_then now are policy hash state adds headed ∙ e)

  abbrev pub IsMore : Opened → ℕ → List LogEntry → List LogEntry → Type 0
  IsMore o place new older = (one_of (since place (state_at o (new ++ older)) (past_at o (new ++ older))) ≡ (one_of (since place (state_at o older) (past_at o older)) || list_any left_by new)) × (place ≤ (state_at o (new ++ older)).place)

  rest_headed : (p : State → Bool) (x : State) (xs : List State) → list_all p (x ∷ xs) ≡ true → (p x ≡ true) × (list_all p xs ≡ true)
  rest_headed p x xs e = by (p x) e
    where
      by : (b : Bool) → (b && list_all p xs) ≡ true → (b ≡ true) × (list_all p xs ≡ true)
      by true e = (refl, e)
      by false e = absurd cc

  -- behind the older entries
  pub more_live : (o : Opened) (place : ℕ) (new older : List LogEntry) → AreLegalBack o (new ++ older) → place ≤ (state_at o older).place → Adds (state_at o (new ++ older)).commits now
      → list_all is_headed (since place (state_at o (new ++ older)) (past_at o (new ++ older))) ≡ true → IsMore o place new older
  more_live o place [] older legal low adds headed = (sym (or_none (one_of (since place (state_at o older) (past_at o older)))), low)
  more_live o place (e ∷ new) older legal low adds headed =
      let rest = new ++ older in
      let next = is_next o e rest legal.0 in
      let low_rest : place ≤ (state_at o rest).place = places new low legal.1 in
      let one : since place (state_at o (e ∷ rest)) (past_at o (e ∷ rest)) ≡ state_at o (e ∷ rest) ∷ since place (state_at o rest) (past_at o rest) = since_next place (state_at o (e ∷ rest)) (state_at o rest) (past_at o rest) next.place low_rest in
      let both = rest_headed is_headed (state_at o (e ∷ rest)) (since place (state_at o rest) (past_at o rest)) (sym (ap (list_all is_headed) one) ∙ headed) in
      let there = rest_headed is_headed (state_at o rest) (take ((state_at o rest).place - place) (past_at o rest)) both.1 in
      let adds_rest : Adds (state_at o rest).commits now = adds_on _ _ _ next.later.commits adds in
      let more : IsMore o place new older = more_live o place new older legal.1 low adds_rest both.1 in
      let prev = one_of (since place (state_at o rest) (past_at o rest)) in
      let up : place ≤ (state_at o (e ∷ rest)).place = (let n = next.place in omega (arith, n, low_rest)) in (
        ap one_of one
            ∙ ap (λ (b : Bool). b || prev) (live_then now are policy hash (state_at o (e ∷ rest)) adds both.0)
            ∙ or_more (list_any (is_live now are policy hash) (state_at o (e ∷ rest)).references) (list_any (is_live now are policy hash) (state_at o rest).references) (left_by e) prev
            (only_by lives e.action e.head (state_at o rest).references (state_at o (e ∷ rest)).references next.leaves)
            (there_by lives e.action e.head (state_at o rest).references (state_at o (e ∷ rest)).references next.leaves)
            (newest_held place (state_at o rest) (past_at o rest) adds_rest there.0)
            ∙ ap (λ (b : Bool). left_by e || b) more.0
            ∙ or_between (left_by e) (one_of (since place (state_at o older) (past_at o older))) (list_any left_by new),
        up,
      )
    where
      places : (new : List LogEntry) → place ≤ (state_at o older).place → AreLegalBack o (new ++ older) → place ≤ (state_at o (new ++ older)).place
      places [] low legal = low
      places (e ∷ new) low legal =
          let next = (is_next o e (new ++ older) legal.0).place in
          let rest = places new low legal.1 in
          omega (arith, next, rest)

  -- the heads that entries left, as roots
  pub made_is : (e : LogEntry) → is_among (flat_map (λ head. live_from now head.1 head.0) (if_head (head_made policy e))) hash ≡ left_by e
  made_is e = by e.action e.head
    where
      by : (action : Action) (head : Option Hash) → is_among (flat_map (λ head. live_from now head.1 head.0) (if_head (head_by policy action head))) hash ≡ left_live lives action head
      by (actions.Call command) None = refl
      by (actions.Call command) (Some head) = among_both (live_from now (cutoff_for policy (name_in command)) head) [] hash ∙ or_none (lives (name_in command) head)
      by (actions.Sweep s) head = refl
