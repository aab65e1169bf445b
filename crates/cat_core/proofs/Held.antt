-- Drafts as a store holds them, and what its calls on them leave.
use Rattle.std.proofs.Common.{◌≡◌, ◌≤◌, ℕ, ◌+◌, max, List, [], ◌∷◌, ◌++◌, length, reverse, map, Option, Result, Ok, Err, Bool, true, false, cond, not, ◌&&◌, nat_eq, refl, sym, ap, ◌∙◌, subst, arith}
use Rattle.std.proofs.lemmas.List.{map-append}
use Rattle.std.specs.List.{filter}
use Rattle.std.specs.Prelude.{IfSome, is_err, is_ok, if◌then◌else◌}
use Rattle.sha2.specs.Sha256.{sha256}
use Rattle.cat_keeper.specs.declared.keeper.Keeper.{Ghosts}
use Rattle.cat_keeper.specs.Bases.{base_of}
use Rattle.cat_keeper.specs.Keeping.{is_format}
use Rattle.cat_decisions.specs.declared.building.Built.{Built}
use Rattle.cat_decisions.specs.declared.call.Call.{Call}
use Rattle.cat_decisions.specs.Builds.{HasHead, IsBuilt, command_of}
use Rattle.cat_checks.specs.HistoryLaws.{at_most_more, place_is}
use Rattle.cat_checks.specs.Histories.{begun, book_at}
use Rattle.cat_model.specs.declared.command.Command.{Command}
use Rattle.cat_model.specs.Book.{Book}
use Rattle.cat_model.specs.Drafts as drafts
use Rattle.cat_model.specs.Drafts.{Opening, drafts_of}
use Rattle.cat_model.specs.Naming.{names_of}
use Rattle.cat_model.specs.Later.{IsLater}
use Rattle.cat_model.specs.State.{State}
use Rattle.cat_model.specs.Step.{opening}
use Rattle.cat_model.specs.Turns.{Opened, place_after}
use Rattle.cat_core.specs.Making.{taking}
use Rattle.cat_core.specs.declared.draft.Draft.{Draft}
use Rattle.cat_core.specs.declared.tickets.Fallen.{Fallen}
use Rattle.cat_core.specs.declared.tickets.OpenDraft.{OpenDraft}
use Rattle.cat_core.specs.declared.tickets.Start.{Start}
use Rattle.cat_core.specs.declared.tickets.Ticket.{Ticket}
use Rattle.cat_core.specs.Drafts.{IsOpen, closed, open_draft_of, without}
use Rattle.cat_core.specs.Records.{AllFollow}
use Rattle.cat_core.specs.Stored.{IsFree, IsInStep, IsSound, Stored, draft_held, log_of, opened_held, opening_at}
use Rattle.cat_core.proofs.Behind.{one_told}
use Rattle.cat_core.proofs.Sound.{sound_with}
use Rattle.cat_core.proofs.Waiting.{in_all, none_left, waiting_closed, waiting_more, waits}

-- ---- those that are left

test_at : (b : Bool) (x : OpenDraft) (xs : List OpenDraft) (less : List drafts.OpenDraft) → map draft_held xs ≡ less → map draft_held (cond (not b) (x ∷ xs) xs) ≡ cond b less (draft_held x ∷ less)
test_at true x xs less e = e
test_at false x xs less e = ap (λ (l : List drafts.OpenDraft). draft_held x ∷ l) e

pub held_without : (t : Ticket) (xs : List OpenDraft) → map draft_held (filter (λ (x : OpenDraft). not (nat_eq x.ticket.caller t.caller && nat_eq x.ticket.number t.number)) xs) ≡ without (opening_at t) (map draft_held xs)
held_without t [] = refl
held_without t (x ∷ xs) =
    test_at (nat_eq x.ticket.caller t.caller && nat_eq x.ticket.number t.number) x (filter (λ (x : OpenDraft). not (nat_eq x.ticket.caller t.caller && nat_eq x.ticket.number t.number)) xs) (without (opening_at t) (map draft_held xs)) (held_without t xs)

-- ---- one more

next_greatest : (n m : ℕ) → m ≡ n + 1 → max n m ≡ m
next_greatest n m e = omega (arith, e)

abbrev pub held_for : Ticket → Command → drafts.OpenDraft
held_for t c = record { opening = opening_at t; names = names_of sha256 t.number c }

-- what is held of it is what it names
pub holds : (t : Ticket) (c : Command) (xs ys : List OpenDraft) (x : OpenDraft) → ys ≡ xs ++ x ∷ [] → x.ticket ≡ t → record { commits = x.commits.items; contents = x.contents.items } ≡ names_of sha256 t.number c → map draft_held ys ≡ map draft_held xs ++ held_for t c ∷ []
holds t c xs ys x added ticket names =
    ap (map draft_held) added ∙ map-append draft_held xs (x ∷ [])
    ∙ (λ i. map draft_held xs ++ record { opening = opening_at (ticket i); names = names i } ∷ [])

-- the number is taken
pub sound_taken : (o : Opened) (book : Book) (left_open : List drafts.OpenDraft) (d : drafts.OpenDraft) → IsSound o book left_open → d.opening.number ≡ book.draft + 1 → IsSound o (record book { draft = d.opening.number }) (left_open ++ d ∷ [])
sound_taken o book left_open d sound next = record {
  base = sound.base;
  starts = sound.starts;
  legal = sound.legal;
  led = sound.led;
  above = omega (arith, sound.above, next);
  taken = at_most_more book.draft d.opening.number book.log (omega arith) sound.taken;
  waiting = waiting_more o.draft book.draft book.log d left_open sound.above next sound.taken sound.waiting;
}

pub sound_held : (start : Start) (book after : Book) (left_open held : List drafts.OpenDraft) (t : Ticket) (c : Command) → IsSound (opened_held book.base start) book left_open → after ≡ taking book t.number → t.number ≡ book.draft + 1 → held ≡ left_open ++ held_for t c ∷ [] → IsSound (opened_held after.base start) after held
sound_held start book after left_open held t c sound takes next is =
    let n : max book.draft t.number ≡ t.number = next_greatest book.draft t.number next in
    let same : record book { draft = t.number } ≡ after = ap (λ (m : ℕ). record book { draft = m }) (sym n) ∙ sym takes in
    let o : Opened = opened_held book.base start in
    subst (λ (b : Book). IsSound (opened_held b.base start) b held) same (subst (IsSound o (record book { draft = t.number })) (sym is) (sound_taken o book left_open (held_for t c) sound next))

pub step_held : {K : Type 0} (members : Ghosts K) (start : Start) (book after : Book) (keeper : K) (fallen : Option Fallen) (number : ℕ) → after ≡ taking book number → IsInStep members (opened_held book.base start) book keeper fallen → IsInStep members (opened_held after.base start) after keeper fallen
step_held {K} members start book after keeper fallen number takes was =
    subst (λ (b : Book). IsInStep members (opened_held b.base start) b keeper fallen) (sym takes) record { payloads = was.payloads; number = was.number; fallen = was.fallen; level = was.level; rose = was.rose; flies = was.flies }

-- ---- one less

pub sound_seen : {K : Type 0} (s x : Stored K) → s ≡ x → IsSound s.opened s.book s.left_open.drafts → IsSound x.opened x.book x.left_open.drafts
sound_seen {K} s x same sound = subst (λ (z : Stored K). IsSound z.opened z.book z.left_open.drafts) same sound

pub sound_closed : (start : Opened) (book : Book) (left_open held : List drafts.OpenDraft) (o : Opening) → IsSound start book left_open → held ≡ without o left_open → IsSound start book held
sound_closed start book left_open held o sound is = subst (IsSound start book) (sym is) (sound_with start book left_open (without o left_open) sound (waiting_closed start.draft book.draft book.log o left_open sound.waiting))

-- its number is free
pub frees : {K : Type 0} (members : Ghosts K) (s after : Stored K) (d : Draft) → IsSound s.opened s.book s.left_open.drafts → IfSome (members.told s.keeper) (λ ps. AllFollow s.opened (base_of ps) s.left_open.drafts) → IsOpen (open_draft_of d) (drafts_of d.caller s.left_open.drafts)
    → after ≡ record s { left_open = closed s d } → IsFree members d.number after
frees {K} members s after d sound follow is left =
    let there : IsOpen (open_draft_of d) s.left_open.drafts = in_all d.caller (open_draft_of d) s.left_open.drafts is in
    let one = waits s.opened.draft s.book.draft s.book.log (open_draft_of d) s.left_open.drafts sound.waiting there in
    subst (λ (x : Stored K). IsFree members d.number x) (sym left) record {
      above = one.above;
      below = one.below;
      new = one.new;
      none = none_left s.opened.draft s.book.draft s.book.log (open_draft_of d) s.left_open.drafts sound.waiting there;
      follows = one_told s.opened (open_draft_of d) s.left_open.drafts (members.told s.keeper) there follow;
    }

-- as it is held
pub free_inside : {K : Type 0} (members : Ghosts K) (number : ℕ) (s x : Stored K) → s ≡ x → IsFree members number x → IsFree members number s
free_inside {K} members number s x same free = subst (λ (z : Stored K). IsFree members number z) (sym same) free

-- ---- as it is seen

pub place_seen : {K : Type 0} (s x : Stored K) → s ≡ x → place_after s.opened (log_of s) ≡ place_after x.opened (log_of x)
place_seen {K} s x same = ap (λ (z : Stored K). place_after z.opened (log_of z)) same

pub state_seen : {K : Type 0} (s x : Stored K) → s ≡ x → s.book.state ≡ x.book.state
state_seen {K} s x same = ap (λ (z : Stored K). z.book.state) same

pub log_seen : {K : Type 0} (s x : Stored K) → s ≡ x → length x.book.log ≡ length s.book.log
log_seen {K} s x same = ap (λ (z : Stored K). length z.book.log) (sym same)

pub form_seen : {K : Type 0} (s x : Stored K) → s ≡ x → is_format s.mark.format ≡ true → is_format x.mark.format ≡ true
form_seen {K} s x same is = subst (λ (z : Stored K). is_format z.mark.format ≡ true) same is

pub fault_seen : {K : Type 0} (s x : Stored K) → s ≡ x → x.mark.fault ≡ s.mark.fault
fault_seen {K} s x same = sym (ap (λ (z : Stored K). z.mark.fault) same)

-- the place is that of the start, and one more for each entry
pub place_length : (o : Opened) (book : Book) (held : List drafts.OpenDraft) → IsSound o book held → book.state.place ≡ place_after o (reverse book.log)
place_length o book held sound =
    let n : (book_at o (reverse book.log)).state.place ≡ o.state.place + length (reverse book.log) = place_is sha256 (begun o) (reverse book.log) sound.legal.legal in
    let same : (book_at o (reverse book.log)).state.place ≡ book.state.place = ap (λ (s : State). s.place) sound.led in
    omega arith

-- what was built, on a state that is this one
pub built_seen : (call : Call) (built : Built) (here there v : State) → here ≡ there
    → (IsLater v here → opening sha256 here (command_of call) ≡ Ok tt → HasHead here (command_of call) built.head → IsBuilt v call built → IsBuilt here call built)
    → IsLater v there → opening sha256 there (command_of call) ≡ Ok tt → HasHead there (command_of call) built.head → IsBuilt v call built → IsBuilt there call built
built_seen call built here there v same law =
    subst (λ (s : State). IsLater v s → opening sha256 s (command_of call) ≡ Ok tt → HasHead s (command_of call) built.head → IsBuilt v call built → IsBuilt s call built) same law

-- none is held
pub none_held : (o : Opened) (book : Book) (items : List OpenDraft) → items ≡ [] → IsSound o book [] → IsSound o book (map draft_held items)
none_held o book items none sound = subst (λ (l : List OpenDraft). IsSound o book (map draft_held l)) (sym none) sound

pub at_least : (a b : ℕ) → a ≡ b → a ≤ b
at_least a b same = omega arith

-- what was pushed is behind the others
pub pushed_is : {A T E : Type 0} (r : Result T E) (xs ys : List A) (x : A) → is_err r ≡ false → ys ≡ (if is_ok r then xs ++ x ∷ [] else xs) → ys ≡ xs ++ x ∷ []
pushed_is {A} {T} {E} (Ok y) xs ys x ok e = e
pushed_is {A} {T} {E} (Err y) xs ys x ok e = absurd cc
