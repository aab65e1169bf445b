-- Whether an entry leads a book on, by how far its tests come.
use Rattle.std.proofs.Common.{◌≡◌, ℕ, ◌+◌, ◌<◌, ◌≤◌, List, [], ◌∷◌, ◌++◌, length, reverse, Option, Some, None, Result, Ok, Err, Bool, true, false, ◌&&◌, ◌||◌, not, cond, if◌then◌else◌, nat_eq, nat_lt, refl, sym, ap, subst, ◌∙◌, arith}
use Rattle.std.specs.List.{list_any}
use Rattle.std.specs.Str.{bytes_eq}
use Rattle.std.specs.Cmp.{nat_eq_equiv}
use Rattle.std.specs.Prelude.{is_ok}
use Rattle.std.proofs.lemmas.Bool.{ltb-false, ltb-true}
use Rattle.std.proofs.lemmas.List.{length-append, reverse-append, map-append}
use Rattle.std.proofs.lemmas.Slice.Eq.{bytes_eq-Decides}
use Rattle.sha2.specs.Sha256.{sha256}
use Rattle.cat_codes.specs.declared.fault.FieldFault.{FieldFault}
use Rattle.cat_codes.specs.Code.{whole}
use Rattle.cat_codes.specs.ListLaws.{and_true}
use Rattle.cat_checks.specs.LeadingLaws.{logged_place}
use Rattle.cat_checks.specs.HistoryLaws.{EndsCourse, entry_ends, past_more}
use Rattle.cat_checks.specs.Legal.{draft_after, draft_is_new, draft_may_come, has_its_draft, is_just, is_legal, may_be_done, next_book, next_from, read_next, replayed_action, replayed_by, replayed_call, turn_of}
use Rattle.cat_frames.specs.Entries.{is_logged, log_entry_code, of_nobody}
use Rattle.cat_model.specs.declared.command.Command.{Command}
use Rattle.cat_model.specs.declared.log_entry.Action.{Action}
use Rattle.cat_model.specs.declared.log_entry.Action.TheVariants as actions
use Rattle.cat_model.specs.declared.log_entry.LogEntry.{LogEntry}
use Rattle.cat_model.specs.declared.reference.Reference.{Reference}
use Rattle.cat_model.specs.Book.{Book, after_call}
use Rattle.cat_model.specs.Calls.{Called, attempt, stepped}
use Rattle.cat_model.specs.Pages.{first}
use Rattle.cat_model.specs.Past.{course, past_of}
use Rattle.cat_model.specs.Refusing.{Outcome, Tested}
use Rattle.cat_model.specs.State.{State}
use Rattle.cat_model.specs.Step.{Turn, opening, step}
use Rattle.cat_model.specs.Turns.{Opened}
use Rattle.cat_model.specs.WellMade.{is_well_made}
use Rattle.cat_state.specs.Kept.{spelling, spellings}
use Rattle.cat_core.specs.Opening.{Adds, AreDrafts, IsMadeAgain, NewestIsLogged, ReadsAs, ReadsNewest, RunsAgain, is_newest, may_follow, may_stand, next_by}
use Rattle.cat_core.specs.declared.tickets.Start.{Start}
use Rattle.cat_core.specs.Stored.{opened_held}
use Rattle.cat_core.specs.Sweeping.{AreTaken, IsFollowed, TakesOne}
use Rattle.cat_core.proofs.Relogged.{IsLogOf, call_logs, entry_logs}
use Rattle.cat_core.proofs.Sound.{Brings, BringsOne, replays}

-- ---- draft numbers

-- the numbers decide whether a draft is new
pub new_by : (numbers : List ℕ) (log : List LogEntry) (draft : ℕ) → AreDrafts numbers log → (nat_eq draft 0 || not (list_any (nat_eq draft) numbers)) ≡ draft_is_new log draft
new_by numbers log draft are = ap (λ (b : Bool). nat_eq draft 0 || not b) (are draft)

or_first : (b d : Bool) → cond b true d ≡ (b || d)
or_first true d = refl
or_first false d = refl

-- with the newest entry's number, they are those of the longer log
pub more_drafts : (numbers more : List ℕ) (log : List LogEntry) (entry : LogEntry) (draft : ℕ) → entry.draft ≡ draft → AreDrafts numbers log
    → ((d : ℕ) → list_any (nat_eq d) more ≡ cond (nat_eq draft d) true (list_any (nat_eq d) numbers)) → AreDrafts more (entry ∷ log)
more_drafts numbers more log entry draft own are added = λ d.
    let same : nat_eq draft d ≡ nat_eq d entry.draft = nat_eq_equiv.symm draft d ∙ ap (nat_eq d) (sym own) in
    added d ∙ (λ i. cond (same i) true (are d i)) ∙ or_first (nat_eq d entry.draft) _

-- ---- the tests of an entry

-- what may follow may stand there, and its draft may come
follows_both : (o : Opened) (book : Book) (entry : LogEntry) → may_follow o book entry ≡ true → (draft_may_come o entry.draft ≡ true) × (may_stand book entry ≡ true)
follows_both o book entry may = and_true (draft_may_come o entry.draft) (may_stand book entry) may

-- it may be logged, and has its draft
pub follows_parts : (o : Opened) (book : Book) (entry : LogEntry) → may_follow o book entry ≡ true → (may_be_done sha256 book entry.action ≡ true) × (has_its_draft entry ≡ true)
follows_parts o book entry may =
    let two = (and_true (may_be_done sha256 book entry.action && has_its_draft entry) (draft_is_new book.log entry.draft) (follows_both o book entry may).1).0 in
    and_true (may_be_done sha256 book entry.action) (has_its_draft entry) two

unread : (o : Opened) (book : Book) (reading : Result LogEntry FieldFault) → is_ok reading ≡ false → read_next sha256 o book reading ≡ None
unread o book (Ok entry) e = absurd cc
unread o book (Err fault) e = refl

-- bytes that spell no entry
pub no_entry : (o : Opened) (book after : Book) (payload : List ℕ) → ReadsAs payload None → Adds o book after payload false
no_entry o book after payload e = unread o book (whole (log_entry_code sha256) payload) e

read_is : (o : Opened) (book : Book) (payload : List ℕ) (entry : LogEntry) → ReadsAs payload (Some entry) → next_by o book payload ≡ next_from sha256 o book entry
read_is o book payload entry reads = ap (read_next sha256 o book) reads.0

-- an entry that may not follow
barred_by : (comes stands just : Bool) (x : Book) → (comes && stands) ≡ false → (if comes then (if stands && just then Some x else None) else None) ≡ None
barred_by false stands just x e = refl
barred_by true false just x e = refl
barred_by true true just x e = absurd cc

barred : (o : Opened) (book : Book) (entry : LogEntry) → may_follow o book entry ≡ false → next_from sha256 o book entry ≡ None
unfolding next_from next_book is_legal
barred o book entry may = barred_by (draft_may_come o entry.draft) (may_stand book entry) (is_just sha256 entry (replayed_call sha256 book entry).logged) (after_call book (replayed_call sha256 book entry)) may

pub may_not : (o : Opened) (book after : Book) (payload : List ℕ) (entry : LogEntry) → ReadsAs payload (Some entry) → may_follow o book entry ≡ false → Adds o book after payload false
may_not o book after payload entry reads may = read_is o book payload entry reads ∙ barred o book entry may

-- one whose call brings something else
other_by : (comes stands just : Bool) (x : Book) → just ≡ false → (if comes then (if stands && just then Some x else None) else None) ≡ None
other_by comes stands true x e = absurd cc
other_by false stands false x e = refl
other_by true true false x e = refl
other_by true false false x e = refl

other : (o : Opened) (book : Book) (entry : LogEntry) → is_just sha256 entry (replayed_call sha256 book entry).logged ≡ false → next_from sha256 o book entry ≡ None
unfolding next_from next_book is_legal
other o book entry differs = other_by (draft_may_come o entry.draft) (may_stand book entry) (is_just sha256 entry (replayed_call sha256 book entry).logged) (after_call book (replayed_call sha256 book entry)) differs

pub none_made : (o : Opened) (book after : Book) (payload : List ℕ) (entry : LogEntry) (ran : Bool) → ReadsAs payload (Some entry) → ran ≡ false → RunsAgain (replayed_call sha256 book entry) book after ran → Adds o book after payload false
none_made o book after payload entry ran reads is runs =
    let none : (replayed_call sha256 book entry).logged ≡ [] = subst (RunsAgain (replayed_call sha256 book entry) book after) is runs in
    read_is o book payload entry reads ∙ other o book entry (ap (is_just sha256 entry) none)

-- the call was accepted
pub made_one : (book after : Book) (entry : LogEntry) (ran : Bool) → ran ≡ true → RunsAgain (replayed_call sha256 book entry) book after ran → IsMadeAgain (replayed_call sha256 book entry) book after
made_one book after entry ran is runs = subst (RunsAgain (replayed_call sha256 book entry) book after) is runs

-- the log starts where it did
pub starts_as : (book after : Book) (entry : LogEntry) (start : Start) → IsMadeAgain (replayed_call sha256 book entry) book after → opened_held after.base start ≡ opened_held book.base start
starts_as book after entry start made = ap (λ (b : Book). opened_held b.base start) made.book

newest_is : (book after : Book) (called : Called) (made : IsMadeAgain called book after) → after.log ≡ made.entry ∷ book.log
newest_is book after called made = ap (λ (b : Book). b.log) made.book ∙ ap (λ (l : List LogEntry). l ++ book.log) made.logged

pub other_made : (o : Opened) (book after : Book) (payload : List ℕ) (entry : LogEntry) → ReadsAs payload (Some entry) → IsMadeAgain (replayed_call sha256 book entry) book after → is_newest after.log payload ≡ false → Adds o book after payload false
other_made o book after payload entry reads made differs =
    let spelled : bytes_eq (spelling made.entry) payload ≡ false = subst (λ (l : List LogEntry). is_newest l payload ≡ false) (newest_is book after _ made) differs in
    read_is o book payload entry reads ∙ other o book entry (ap (is_just sha256 entry) made.logged ∙ ap (bytes_eq (spelling made.entry)) (sym reads.1) ∙ spelled)

is_legal_by : (book : Book) (entry : LogEntry) → may_stand book entry ≡ true → is_just sha256 entry (replayed_call sha256 book entry).logged ≡ true → is_legal sha256 book entry ≡ true
unfolding is_legal
is_legal_by book entry may just = rw (may, just) refl

made_just : (book after : Book) (payload : List ℕ) (entry : LogEntry) → ReadsAs payload (Some entry) → (made : IsMadeAgain (replayed_call sha256 book entry) book after) → is_newest after.log payload ≡ true → is_just sha256 entry (replayed_call sha256 book entry).logged ≡ true
made_just book after payload entry reads made is =
    let spelled : bytes_eq (spelling made.entry) payload ≡ true = subst (λ (l : List LogEntry). is_newest l payload ≡ true) (newest_is book after _ made) is in
    ap (is_just sha256 entry) made.logged ∙ ap (bytes_eq (spelling made.entry)) (sym reads.1) ∙ spelled

-- one whose call brings just this
legal : (o : Opened) (book : Book) (entry : LogEntry) → may_follow o book entry ≡ true → is_just sha256 entry (replayed_call sha256 book entry).logged ≡ true → next_from sha256 o book entry ≡ Some (after_call book (replayed_call sha256 book entry))
unfolding next_from next_book is_legal
legal o book entry may just = let both = follows_both o book entry may in rw (both.0, both.1, just) refl

-- what is spelled so is read back from there
pub read_alike : (bytes payload : List ℕ) (entry : LogEntry) (b : Bool) → whole (log_entry_code sha256) bytes ≡ Ok (of_nobody entry) → b ≡ bytes_eq bytes payload → b ≡ true → whole (log_entry_code sha256) payload ≡ Ok (of_nobody entry)
read_alike bytes payload entry b again is same = subst (λ (p : List ℕ). whole (log_entry_code sha256) p ≡ Ok (of_nobody entry)) ((bytes_eq-Decides bytes payload).0 (sym is ∙ same)) again

pub newest_read : (log : List LogEntry) (entry : LogEntry) (payload : List ℕ) → Some entry ≡ first log → whole (log_entry_code sha256) payload ≡ Ok (of_nobody entry) → ReadsNewest log payload
newest_read [] entry payload is back = absurd cc
newest_read (e ∷ log) entry payload is back = let same : entry ≡ e = cc in subst (λ (x : LogEntry). whole (log_entry_code sha256) payload ≡ Ok (of_nobody x)) same back

pub just_made : (o : Opened) (book after : Book) (payload : List ℕ) (entry : LogEntry) → ReadsAs payload (Some entry) → may_follow o book entry ≡ true → IsMadeAgain (replayed_call sha256 book entry) book after → is_newest after.log payload ≡ true → ReadsNewest after.log payload → Adds o book after payload true
just_made o book after payload entry reads may made is again =
    let spelled : bytes_eq (spelling made.entry) payload ≡ true = subst (λ (l : List LogEntry). is_newest l payload ≡ true) (newest_is book after _ made) is in
    let newest : after.log ≡ made.entry ∷ book.log = newest_is book after _ made in
    let own : spelling made.entry ≡ payload = (bytes_eq-Decides _ _).0 spelled in
    let there : is_legal sha256 book entry ≡ true = is_legal_by book entry (follows_both o book entry may).1 (made_just book after payload entry reads made is) in
    let brings : BringsOne 0 entry.draft book made.entry (replayed_call sha256 book entry).state = subst (λ (l : List LogEntry). Brings 0 entry.draft book l (replayed_call sha256 book entry).state) made.logged (replays book entry there).0 in
    let back : whole (log_entry_code sha256) payload ≡ Ok (of_nobody made.entry) = subst (λ (l : List LogEntry). ReadsNewest l payload) newest again in
    record {
      next = read_is o book payload entry reads
          ∙ legal o book entry may (ap (is_just sha256 entry) made.logged ∙ ap (bytes_eq (spelling made.entry)) (sym reads.1) ∙ spelled)
          ∙ ap (λ (b : Book). Some b) (sym made.book);
      spelled = ap (λ (l : List LogEntry). spellings (reverse l)) (newest_is book after _ made)
          ∙ ap spellings (reverse-append (made.entry ∷ []) book.log)
          ∙ map-append spelling (reverse book.log) (made.entry ∷ [])
          ∙ ap (λ (p : List ℕ). spellings (reverse book.log) ++ p ∷ []) own;
      place = made.place;
      entry = made.entry;
      newest = newest;
      read = ap (whole (log_entry_code sha256)) own ∙ back;
      nobody = λ i. record (made.entry) { caller = sym brings.caller_is i };
    }

-- ---- the entry that was made

logged_one : (draft : ℕ) (logged : List LogEntry) (e : LogEntry) → IsLogOf draft logged → logged ≡ e ∷ [] → (is_logged sha256 e ≡ true) × (e.draft ≡ draft)
logged_one draft logged e is same = subst (IsLogOf draft) same is

module _ (o : Opened) (book after : Book) (entry : LogEntry) (payload : List ℕ) (reads : ReadsAs payload (Some entry)) (may : may_follow o book entry ≡ true) (made : IsMadeAgain (replayed_call sha256 book entry) book after) where
  made_logs : (is_logged sha256 made.entry ≡ true) × (made.entry.draft ≡ entry.draft)
  made_logs =
      let parts = follows_parts o book entry may in
      logged_one entry.draft _ made.entry (entry_logs book entry parts.0 parts.1 reads.2) made.logged

  pub newest_logged : NewestIsLogged after.log
  newest_logged = subst NewestIsLogged (sym (newest_is book after _ made)) made_logs.0

  -- the numbers of the drafts, with its number
  drafts_after : (numbers more : List ℕ) → AreDrafts numbers book.log → ((d : ℕ) → list_any (nat_eq d) more ≡ cond (nat_eq entry.draft d) true (list_any (nat_eq d) numbers)) → AreDrafts more after.log
  drafts_after numbers more are added = subst (AreDrafts more) (sym (newest_is book after _ made)) (more_drafts numbers more book.log made.entry entry.draft made_logs.1 are added)

  -- ---- what is kept beside the book

  module _ (newest : is_newest after.log payload ≡ true) where
    is_legal_there : is_legal sha256 book entry ≡ true
    is_legal_there = is_legal_by book entry (follows_both o book entry may).1 (made_just book after payload entry reads made newest)

    -- what it brings is the entry that was made
    brings_one : BringsOne 0 entry.draft book made.entry after.state
    brings_one =
        subst (BringsOne 0 entry.draft book made.entry) (sym (ap (λ (b : Book). b.state) made.book))
        (subst (λ (l : List LogEntry). Brings 0 entry.draft book l (replayed_call sha256 book entry).state) made.logged (replays book entry is_legal_there).0)

    state_is : (replayed_call sha256 book made.entry).state ≡ after.state
    state_is = brings_one.leads

    base_is : after.base ≡ book.base
    base_is = ap (λ (b : Book). b.base) made.book

    -- the book after it has the state and the log of the one after the entry that was made
    as_after : (P : State → List LogEntry → State → Type 0) → P (replayed_call sha256 book made.entry).state (made.entry ∷ book.log) book.base → P after.state after.log after.base
    as_after P p =
        subst (λ (base : State). P after.state after.log base) (sym base_is)
        (subst (λ (log : List LogEntry). P after.state log book.base) (sym (newest_is book after _ made))
        (subst (λ (state : State). P state (made.entry ∷ book.log) book.base) state_is p))

    ends_after : EndsCourse sha256 book → EndsCourse sha256 after
    ends_after ends = as_after (λ state log base. (course sha256 base log).state ≡ state) (entry_ends sha256 book made.entry ends)

    past_after : EndsCourse sha256 book → past_of sha256 after ≡ book.state ∷ past_of sha256 book
    unfolding past_of
    past_after ends = as_after (λ state log base. (course sha256 base log).past ≡ book.state ∷ past_of sha256 book) (past_more sha256 book made.entry ends)

    pub followed_on : (numbers more : List ℕ) (taken longer : List (Option Reference)) → IsFollowed numbers taken book → TakesOne book after taken longer
        → ((d : ℕ) → list_any (nat_eq d) more ≡ cond (nat_eq entry.draft d) true (list_any (nat_eq d) numbers)) → IsFollowed more longer after
    followed_on numbers more taken longer followed takes added = record {
      drafts = drafts_after numbers more followed.drafts added;
      ends = ends_after followed.ends;
      count = omega (arith, ap length takes.more_are, length-append taken (takes.one ∷ []), followed.count, made.place, ap (λ (s : State). s.place) base_is);
      taken_are =
          subst (λ (past : List State). AreTaken after.state past (reverse longer)) (sym (past_after followed.ends))
          (subst (λ (l : List (Option Reference)). AreTaken after.state (book.state ∷ past_of sha256 book) l) (sym (ap reverse takes.more_are ∙ reverse-append taken (takes.one ∷ []))) (takes.is, followed.taken_are));
    }

-- ---- the place that a call comes to

choice_place : (place : ℕ) (b : Bool) (x y : Called) → (b ≡ true → x.state.place ≡ place + length x.logged) → y.state.place ≡ place + length y.logged → (if b then x else y).state.place ≡ place + length (if b then x else y).logged
choice_place place true x y p q = p refl
choice_place place false x y p q = q

stepped_place : (state : State) (draft : ℕ) (command : Command) (turn : Turn) (outcome : Outcome) → step sha256 state command turn ≡ outcome
    → (stepped sha256 0 state draft command turn outcome).state.place ≡ state.place + length (stepped sha256 0 state draft command turn outcome).logged
stepped_place state draft command turn (Err why) is = omega arith
stepped_place state draft command turn (Ok (after, reply)) is = choice_place state.place (nat_lt state.place after.place) _ _ (λ rose. logged_place sha256 state command turn after reply is rose) (omega arith)

tested_place : (book : Book) (entry : LogEntry) (command : Command) (tests : Tested) → (replayed_by sha256 book entry command tests).state.place ≡ book.state.place + length (replayed_by sha256 book entry command tests).logged
tested_place book entry command (Err why) = omega arith
tested_place book entry command (Ok u) = stepped_place book.state (draft_after book entry) command (turn_of book entry) (step sha256 book.state command (turn_of book entry)) refl

command_place : (book : Book) (entry : LogEntry) (command : Command) → (replayed_action sha256 book entry (actions.Call command)).state.place ≡ book.state.place + length (replayed_action sha256 book entry (actions.Call command)).logged
unfolding attempt
command_place book entry command = tested_place book entry command (opening sha256 book.state command)

-- one more for each entry
called_place : (book after : Book) (entry : LogEntry) (command : Command) → entry.action ≡ actions.Call command → after ≡ after_call book (replayed_call sha256 book entry) → after.state.place ≡ book.state.place + length (replayed_call sha256 book entry).logged
called_place book after entry command called is =
    ap (λ (b : Book). b.state.place) is
    ∙ subst (λ (a : Action). (replayed_action sha256 book entry a).state.place ≡ book.state.place + length (replayed_action sha256 book entry a).logged) (sym called) (command_place book entry command)

-- ---- by the place that the book came to

one_by : (draft : ℕ) (logged : List LogEntry) (before after : ℕ) → IsLogOf draft logged → after ≡ before + length logged → before < after → (e : LogEntry) × (logged ≡ e ∷ []) × (after ≡ before + 1)
one_by draft [] before after is n lt = absurd (omega (arith, n, lt))
one_by draft (e ∷ []) before after is n lt = (e, refl, omega (arith, n))
one_by draft (e ∷ f ∷ entries) before after is n lt = absurd is

none_by : (logged : List LogEntry) (before after : ℕ) → after ≡ before + length logged → after ≤ before → logged ≡ []
none_by [] before after n le = refl
none_by (e ∷ logged) before after n le = absurd (omega (arith, n, le))

made_again : (book after : Book) (entry : LogEntry) → IsLogOf entry.draft (replayed_call sha256 book entry).logged → after ≡ after_call book (replayed_call sha256 book entry)
    → after.state.place ≡ book.state.place + length (replayed_call sha256 book entry).logged → book.state.place < after.state.place → RunsAgain (replayed_call sha256 book entry) book after true
made_again book after entry logs is n lt =
    let one = one_by entry.draft (replayed_call sha256 book entry).logged book.state.place after.state.place logs n lt in
    record { entry = one.0; logged = one.1; book = is; place = one.2 }

not_again : (book after : Book) (entry : LogEntry) → after.state.place ≡ book.state.place + length (replayed_call sha256 book entry).logged → after.state.place ≤ book.state.place → RunsAgain (replayed_call sha256 book entry) book after false
not_again book after entry n le = none_by _ book.state.place after.state.place n le

-- a call that was accepted, by whether the place rose
pub ran_by : (book after : Book) (entry : LogEntry) (command : Command) (before now : ℕ) → entry.action ≡ actions.Call command → is_well_made sha256 command ≡ true → has_its_draft entry ≡ true → after ≡ after_call book (replayed_call sha256 book entry)
    → before ≡ book.state.place → now ≡ after.state.place → RunsAgain (replayed_call sha256 book entry) book after (nat_lt before now)
ran_by book after entry command before now called made own is b a = by_test (nat_lt before now) refl
  where
    n : after.state.place ≡ book.state.place + length (replayed_call sha256 book entry).logged
    n = called_place book after entry command called is

    by_test : (rose : Bool) → nat_lt before now ≡ rose → RunsAgain (replayed_call sha256 book entry) book after rose
    by_test true rose = let lt : before < now = ltb-true before now rose in made_again book after entry (call_logs book entry command called made own) is n (omega (arith, lt, b, a))
    by_test false rose = let le : now ≤ before = ltb-false before now rose in not_again book after entry n (omega (arith, le, b, a))
