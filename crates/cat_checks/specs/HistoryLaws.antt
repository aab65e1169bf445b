-- Laws of histories: logs that go on, what stays, what grows, drafts that are new, and the states that a log leads through.
use Rattle.std.proofs.Common.{◌≡◌, ℕ, ◌+◌, ◌<◌, ◌≤◌, max, List, [], ◌∷◌, ◌++◌, reverse, length, codes, Ok, Err, Bool, true, false, not, nat_eq, nat_lt, if◌then◌else◌, refl, sym, ap, ap₂, ◌∙◌, append_assoc, ne_eqb, arith}
use Rattle.std.specs.List.{list_any}
use Rattle.std.proofs.Math.Nat.{le-max_left, le-max_right}
use Rattle.std.proofs.lemmas.Bool.{or_left, or_right}
use Rattle.std.proofs.lemmas.Bool.Decides.{nat_tests}
use Rattle.std.proofs.lemmas.Grind.{reverse_onto}
use Rattle.std.proofs.lemmas.List.{append-nil}
use Rattle.sha2.specs.Sha256.{sha256}
use Rattle.cat_model.specs.declared.command.Command.{Command}
use Rattle.cat_model.specs.declared.limits.Limits.{Limits}
use Rattle.cat_model.specs.declared.log_entry.Action.{Action}
use Rattle.cat_model.specs.declared.log_entry.Action.TheVariants as actions
use Rattle.cat_model.specs.declared.log_entry.LogEntry.{LogEntry}
use Rattle.cat_model.specs.declared.reference.Kind.TheVariants.{Branch}
use Rattle.cat_model.specs.declared.sweep.Sweep.{Sweep}
use Rattle.cat_model.specs.Book.{Book}
use Rattle.cat_model.specs.Calls.{Called, attempt, in_draft, stepped, tried}
use Rattle.cat_model.specs.Later.{IsLater}
use Rattle.cat_model.specs.Past.{action_on, course, past_of}
use Rattle.cat_model.specs.Refusing.{Outcome, Tested}
use Rattle.cat_model.specs.State.{Digest, State, first_state, no_ancestor}
use Rattle.cat_model.specs.Step.{Turn, opening, step}
use Rattle.cat_model.specs.Sweeps.{step_sweep, sweep_call, swept_by}
use Rattle.cat_model.specs.Turns.{Opened}
use Rattle.cat_checks.specs.Histories.{AreFrom, AreLegal, IsLegalFrom, after_entry, begun, book_after, book_at}
use Rattle.cat_checks.specs.ReplayedLaws.{legal_place, replayed_later, replayed_limits, replayed_upholds}
use Rattle.cat_checks.specs.Legal.{draft_after, draft_is_above, draft_is_new, draft_may_come, replayed_action}
use Rattle.cat_checks.specs.Upheld.{Upholds}
pub use Rattle.cat_checks.specs.LeadingLaws.{later_on, later_self, step_later}

-- ---- logs that go on

pub book_more : (digest : Digest) (b : Book) (xs ys : List LogEntry) → book_after digest b (xs ++ ys) ≡ book_after digest (book_after digest b xs) ys
book_more digest b [] ys = refl
book_more digest b (x ∷ xs) ys = book_more digest (after_entry digest b x) xs ys

pub legal_more : (digest : Digest) (b : Book) (xs ys : List LogEntry) → AreLegal digest b xs → AreLegal digest (book_after digest b xs) ys → AreLegal digest b (xs ++ ys)
legal_more digest b [] ys legal more = more
legal_more digest b (x ∷ xs) ys legal more = (legal.0, legal_more digest (after_entry digest b x) xs ys legal.1 more)

pub legal_front : (digest : Digest) (b : Book) (xs ys : List LogEntry) → AreLegal digest b (xs ++ ys) → AreLegal digest b xs
legal_front digest b [] ys legal = tt
legal_front digest b (x ∷ xs) ys legal = (legal.0, legal_front digest (after_entry digest b x) xs ys legal.1)

pub legal_back : (digest : Digest) (b : Book) (xs ys : List LogEntry) → AreLegal digest b (xs ++ ys) → AreLegal digest (book_after digest b xs) ys
legal_back digest b [] ys legal = legal
legal_back digest b (x ∷ xs) ys legal = legal_back digest (after_entry digest b x) xs ys legal.1

from_front : (o : Opened) (xs ys : List LogEntry) → AreFrom o (xs ++ ys) → AreFrom o xs
from_front o [] ys from = tt
from_front o (x ∷ xs) ys from = (from.0, from_front o xs ys from.1)

from_both : (o : Opened) (xs ys : List LogEntry) → AreFrom o xs → AreFrom o ys → AreFrom o (xs ++ ys)
from_both o [] ys p q = q
from_both o (x ∷ xs) ys p q = (p.0, from_both o xs ys p.1 q)

-- a legal log goes on with entries that are legal behind it
pub goes_legal : (o : Opened) (xs ys : List LogEntry) → IsLegalFrom o xs → AreLegal sha256 (book_at o xs) ys → AreFrom o ys → IsLegalFrom o (xs ++ ys)
goes_legal o xs ys is legal from = record { legal = legal_more sha256 (begun o) xs ys is.legal legal; drafts = from_both o xs ys is.drafts from }

-- what a log began with is legal where the log is
pub begins_legal : (o : Opened) (xs ys : List LogEntry) → IsLegalFrom o (xs ++ ys) → IsLegalFrom o xs
begins_legal o xs ys is = record { legal = legal_front sha256 (begun o) xs ys is.legal; drafts = from_front o xs ys is.drafts }

-- ---- what the book after them has

-- the book's log has the newest first
pub log_is : (digest : Digest) (b : Book) (xs : List LogEntry) → (book_after digest b xs).log ≡ reverse xs ++ b.log
log_is digest b [] = refl
log_is digest b (x ∷ xs) =
    log_is digest (after_entry digest b x) xs
    ∙ sym (ap (λ (l : List LogEntry). l ++ b.log) (reverse_onto xs x []) ∙ append_assoc (reverse xs) (x ∷ []) b.log)

pub limits_stay : (digest : Digest) (b : Book) (xs : List LogEntry) → (book_after digest b xs).state.limits ≡ b.state.limits
limits_stay digest b [] = refl
limits_stay digest b (x ∷ xs) = limits_stay digest (after_entry digest b x) xs ∙ replayed_limits digest b x

-- one place an entry
pub place_is : (digest : Digest) (b : Book) (xs : List LogEntry) → AreLegal digest b xs → (book_after digest b xs).state.place ≡ b.state.place + length xs
place_is digest b [] legal = omega arith
place_is digest b (x ∷ xs) legal =
    let rest : (book_after digest b (x ∷ xs)).state.place ≡ (after_entry digest b x).state.place + length xs = place_is digest (after_entry digest b x) xs legal.1 in
    let first : (after_entry digest b x).state.place ≡ b.state.place + 1 = legal_place digest b x legal.0.legal in
    omega arith

-- no commit is taken away, whether or not the entries are legal
pub entry_later : (digest : Digest) (b : Book) (e : LogEntry) → IsLater b.state (after_entry digest b e).state
entry_later digest b e = replayed_later digest b e

pub books_later : (digest : Digest) (b : Book) (xs : List LogEntry) → IsLater b.state (book_after digest b xs).state
books_later digest b [] = later_self b.state
books_later digest b (x ∷ xs) = later_on b.state (after_entry digest b x).state (book_after digest b (x ∷ xs)).state (entry_later digest b x) (books_later digest (after_entry digest b x) xs)

-- so is what a state upholds, from the first one on
pub first_upholds : (digest : Digest) (limits : Limits) → Upholds digest (first_state digest limits)
first_upholds digest limits = record { main = (record { name = codes "main"; kind = Branch; head = no_ancestor digest }, refl, refl); commits = tt; contents = tt }

pub books_uphold : (digest : Digest) (b : Book) (xs : List LogEntry) → Upholds digest b.state → Upholds digest (book_after digest b xs).state
books_uphold digest b [] upheld = upheld
books_uphold digest b (x ∷ xs) upheld = books_uphold digest (after_entry digest b x) xs (replayed_upholds digest b x upheld)

-- ---- drafts

-- no entry has a greater draft
abbrev pub AreAtMost : ℕ → List LogEntry → Type 0
AreAtMost n [] = Unit {0}
AreAtMost n (e ∷ entries) = (e.draft ≤ n) × AreAtMost n entries

pub at_most_more : (n m : ℕ) (entries : List LogEntry) → n ≤ m → AreAtMost n entries → AreAtMost m entries
at_most_more n m [] more are = tt
at_most_more n m (e ∷ entries) more are = let first : e.draft ≤ n = are.0 in (omega arith, at_most_more n m entries more are.1)

pub at_most_both : (n : ℕ) (xs ys : List LogEntry) → AreAtMost n xs → AreAtMost n ys → AreAtMost n (xs ++ ys)
at_most_both n [] ys p q = q
at_most_both n (x ∷ xs) ys p q = (p.0, at_most_both n xs ys p.1 q)

pub at_most_reverse : (n : ℕ) (xs : List LogEntry) → AreAtMost n xs → AreAtMost n (reverse xs)
at_most_reverse n [] are = tt
at_most_reverse n (x ∷ xs) are = rw (reverse_onto xs x []) (at_most_both n (reverse xs) (x ∷ []) (at_most_reverse n xs are.1) (are.0, tt))

pub draft_grows : (digest : Digest) (b : Book) (xs : List LogEntry) → b.draft ≤ (book_after digest b xs).draft
draft_grows digest b [] = omega arith
draft_grows digest b (x ∷ xs) =
    let first : b.draft ≤ max b.draft x.draft = le-max_left b.draft x.draft in
    let rest : max b.draft x.draft ≤ (book_after digest b (x ∷ xs)).draft = draft_grows digest (after_entry digest b x) xs in
    omega arith

-- each entry's draft is at most the last draft number after them
pub drafts_below : (digest : Digest) (b : Book) (xs : List LogEntry) → AreAtMost (book_after digest b xs).draft xs
drafts_below digest b [] = tt
drafts_below digest b (x ∷ xs) =
    let first : x.draft ≤ max b.draft x.draft = le-max_right b.draft x.draft in
    let rest : max b.draft x.draft ≤ (book_after digest b (x ∷ xs)).draft = draft_grows digest (after_entry digest b x) xs in
    (omega arith, drafts_below digest (after_entry digest b x) xs)

none_has : (n draft : ℕ) (log : List LogEntry) → AreAtMost n log → n < draft → list_any (λ entry. nat_eq draft entry.draft) log ≡ false
none_has n draft [] are above = refl
none_has n draft (e ∷ log) are above =
    let low : e.draft ≤ n = are.0 in
    let other : nat_eq draft e.draft ≡ false = ne_eqb draft e.draft (λ same. omega arith) in
    rw (other, none_has n draft log are.1 above) refl

-- a draft above them all is new, whichever entry comes first
pub new_above : (n draft : ℕ) (log : List LogEntry) → AreAtMost n log → n < draft → draft_is_new log draft ≡ true
new_above n draft log are above = or_right (nat_eq draft 0) _ (ap not (none_has n draft log are above))

pub new_above_reversed : (n draft : ℕ) (log : List LogEntry) → AreAtMost n log → n < draft → draft_is_new (reverse log) draft ≡ true
new_above_reversed n draft log are above = new_above n draft (reverse log) (at_most_reverse n log are) above

-- a draft above the last number before a log may come in it, and so may none
pub above_comes : (o : Opened) (draft : ℕ) → o.draft < draft → draft_may_come o draft ≡ true
above_comes o draft above =
    let higher : nat_lt o.draft draft ≡ true = grind (arith, nat_tests, above) in
    or_left (draft_is_above o.draft draft) (list_any (nat_eq draft) o.drafts) (or_right (nat_eq draft 0) _ higher)

pub none_comes : (o : Opened) → draft_may_come o 0 ≡ true
none_comes o = refl

-- no draft in a book's log is above its last draft number
abbrev pub HasItsDrafts : Book → Type 0
HasItsDrafts b = AreAtMost b.draft b.log

pub drafts_stay_below : (digest : Digest) (b : Book) (xs : List LogEntry) → HasItsDrafts b → HasItsDrafts (book_after digest b xs)
drafts_stay_below digest b [] has = has
drafts_stay_below digest b (x ∷ xs) has =
    drafts_stay_below digest (after_entry digest b x) xs (le-max_right b.draft x.draft, at_most_more b.draft (max b.draft x.draft) b.log (le-max_left b.draft x.draft) has)

-- a draft above the last number is new in the book's log
pub new_in_book : (digest : Digest) (b : Book) (xs : List LogEntry) (draft : ℕ) → HasItsDrafts b → (book_after digest b xs).draft < draft → draft_is_new (book_after digest b xs).log draft ≡ true
new_in_book digest b xs draft has above = new_above (book_after digest b xs).draft draft (book_after digest b xs).log (drafts_stay_below digest b xs has) above

-- ---- the states that a log leads through

-- the last draft number doesn't matter to the state that a call or a sweep brings
alike_by : (test : Bool) (x y u v : Called) → x.state ≡ u.state → y.state ≡ v.state → (if test then x else y).state ≡ (if test then u else v).state
alike_by true x y u v p q = p
alike_by false x y u v p q = q

stepped_alike : (digest : Digest) (state : State) (a b : ℕ) (command : Command) (turn : Turn) (outcome : Outcome) → (stepped digest 0 state a command turn outcome).state ≡ (stepped digest 0 state b command turn outcome).state
stepped_alike digest state a b command turn (Err why) = refl
stepped_alike digest state a b command turn (Ok (after, reply)) = alike_by (nat_lt state.place after.place) _ _ _ _ refl refl

tried_alike : (digest : Digest) (state : State) (a b : ℕ) (command : Command) (turn : Turn) (tested : Tested) → (tried digest 0 state a command turn tested).state ≡ (tried digest 0 state b command turn tested).state
tried_alike digest state a b command turn (Err why) = refl
tried_alike digest state a b command turn (Ok u) = stepped_alike digest state (max a turn.draft) (max b turn.draft) command turn (step digest state command turn)

attempts_alike : (digest : Digest) (state : State) (a b draft moment : ℕ) (command : Command)
    → (attempt digest state a (in_draft 0 moment draft state.place) command).state ≡ (attempt digest state b (in_draft 0 moment draft state.place) command).state
unfolding attempt
attempts_alike digest state a b draft moment command = tried_alike digest state a b command _ (opening digest state command)

swept_alike : (state : State) (a b moment : ℕ) (s : Sweep) (outcome : Outcome) → (swept_by 0 state a moment s outcome).state ≡ (swept_by 0 state b moment s outcome).state
swept_alike state a b moment s (Err why) = refl
swept_alike state a b moment s (Ok (after, reply)) = refl

sweeps_alike : (state : State) (past : List State) (a b moment : ℕ) (s : Sweep) → (sweep_call 0 state past a moment s).state ≡ (sweep_call 0 state past b moment s).state
unfolding sweep_call
sweeps_alike state past a b moment s = swept_alike state a b moment s (step_sweep state past s)

-- the states from a book's base on that its log leads through end at the book's
abbrev pub EndsCourse : Digest → Book → Type 0
EndsCourse digest b = (course digest b.base b.log).state ≡ b.state

action_alike : (digest : Digest) (b : Book) (e : LogEntry) (action : Action) → EndsCourse digest b
    → (action_on digest (course digest b.base b.log) 0 e.draft e.moment action).state ≡ (replayed_action digest b e action).state
unfolding past_of
action_alike digest b e (actions.Call command) ends =
    ap (λ (state : State). (attempt digest state 0 (in_draft 0 e.moment e.draft state.place) command).state) ends
    ∙ attempts_alike digest b.state 0 b.draft e.draft e.moment command
action_alike digest b e (actions.Sweep s) ends =
    ap (λ (state : State). (sweep_call 0 state (past_of digest b) 0 e.moment s).state) ends
    ∙ sweeps_alike b.state (past_of digest b) 0 (draft_after b e) e.moment s

pub entry_ends : (digest : Digest) (b : Book) (e : LogEntry) → EndsCourse digest b → EndsCourse digest (after_entry digest b e)
entry_ends digest b e ends = action_alike digest b e e.action ends

pub books_end : (digest : Digest) (b : Book) (xs : List LogEntry) → EndsCourse digest b → EndsCourse digest (book_after digest b xs)
books_end digest b [] ends = ends
books_end digest b (x ∷ xs) ends = books_end digest (after_entry digest b x) xs (entry_ends digest b x ends)

-- a book's state comes before those after it
pub past_more : (digest : Digest) (b : Book) (e : LogEntry) → EndsCourse digest b → past_of digest (after_entry digest b e) ≡ b.state ∷ past_of digest b
unfolding past_of
past_more digest b e ends = ap (λ (state : State). state ∷ past_of digest b) ends

pub base_stays : (digest : Digest) (b : Book) (xs : List LogEntry) → (book_after digest b xs).base ≡ b.base
base_stays digest b [] = refl
base_stays digest b (x ∷ xs) = base_stays digest (after_entry digest b x) xs

-- the states from a log's start on that it leads through end at that of the book after it, whether or not the entries are legal
pub course_is : (o : Opened) (log : List LogEntry) → (course sha256 o.state (reverse log)).state ≡ (book_at o log).state
course_is o log =
    ap₂ (λ (base : State) (entries : List LogEntry). (course sha256 base entries).state) (sym (base_stays sha256 (begun o) log)) (sym (log_is sha256 (begun o) log ∙ append-nil (reverse log)))
    ∙ books_end sha256 (begun o) log refl
