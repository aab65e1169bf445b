-- What holds of the open sweep and of what drafts name, through calls.
use Rattle.std.proofs.Common.{◌≡◌, ℕ, suc, ◌≤◌, ◌+◌, ◌-◌, List, [], ◌∷◌, ◌++◌, length, take, reverse, map, Option, Some, None, Result, Ok, Err, Bool, true, false, cond, ◌&&◌, nat_eq, IfSome, if◌then◌else◌, refl, sym, ap, subst, ◌∙◌, arith}
use Rattle.std.proofs.lemmas.List.{append-nil, length-reverse, reverse-reverse}
use Rattle.std.specs.List.{list_all}
use Rattle.std.specs.Option.{option_map}
use Rattle.std.specs.Prelude.{OnErr, OnOk}
use Rattle.sha2.specs.Sha256.{sha256}
use Rattle.cat_checks.specs.HistoryLaws.{course_is}
use Rattle.cat_checks.specs.ReplayedLaws.{legal_place, replayed_later}
use Rattle.cat_checks.specs.Legal.{may_be_swept, most_patterns}
use Rattle.cat_checks.specs.MainLaws.{passed}
use Rattle.cat_decisions.specs.AddedLaws.{known_later}
use Rattle.cat_frames.specs.Sweeps.{resolved_is_logged}
use Rattle.cat_graph.specs.Linked as linked
use Rattle.cat_graph.specs.Linked.{AreLinked}
use Rattle.cat_names.specs.declared.hash.Hash.{Hash}
use Rattle.cat_model.specs.declared.command.Command.{Command}
use Rattle.cat_model.specs.declared.command.Command.TheVariants as commands
use Rattle.cat_model.specs.declared.command.Merge.{Merge}
use Rattle.cat_model.specs.declared.command.Transplant.{Transplant}
use Rattle.cat_model.specs.declared.cutoff.Resolved.{Resolved}
use Rattle.cat_model.specs.declared.log_entry.LogEntry.{LogEntry}
use Rattle.cat_model.specs.declared.reference.Reference.{Reference}
use Rattle.cat_model.specs.declared.refusal.Reason.TheVariants.{NotConsecutive}
use Rattle.cat_model.specs.declared.refusal.Refusal.{Refusal}
use Rattle.cat_model.specs.declared.refusal.Refusal.TheVariants.{BadRequest, RefNotFound}
use Rattle.cat_model.specs.declared.reply.Told.{Told}
use Rattle.cat_model.specs.Book.{Book}
use Rattle.cat_model.specs.Calls.{Called}
use Rattle.cat_model.specs.Chain.{Commits, on_chain}
use Rattle.cat_model.specs.Drafts as drafts
use Rattle.cat_model.specs.Drafts.{Names, Opening}
use Rattle.cat_model.specs.Later.{Adds, IsLater}
use Rattle.cat_model.specs.Mark.{FailedAppend, Mark}
use Rattle.cat_model.specs.Merges.{merge_opening}
use Rattle.cat_model.specs.Naming.{names_of}
use Rattle.cat_model.specs.Past.{course, past_of}
use Rattle.cat_model.specs.Refusing.{◌>>=◌, Tested, named, needs, needs_branch, pointed}
use Rattle.cat_model.specs.State.{State, is_known, reference_of}
use Rattle.cat_model.specs.Step.{opening}
use Rattle.cat_model.specs.Transplants.{are_consecutive, needs_on_chain, transplant_opening}
use Rattle.cat_model.specs.Turns.{Opened}
use Rattle.cat_state.proofs.Heads.{chain_is_known, named_passes}
use Rattle.cat_state.specs.declared.failure.Failure.TheVariants as failures
use Rattle.cat_state.specs.declared.unmade.Unmade.{Unmade}
use Rattle.cat_state.specs.declared.unmade.Unmade.TheVariants.{Failed, NotKept}
use Rattle.cat_tables.specs.References.{heads_pass}
use Rattle.cat_tables.specs.ReferenceLaws.{and_true, both_true}
use Rattle.cat_core.specs.declared.tickets.ClosedSweep.{ClosedSweep}
use Rattle.cat_core.specs.declared.tickets.OpenDraft.{OpenDraft}
use Rattle.cat_core.specs.declared.tickets.OpenSweep.{OpenSweep}
use Rattle.cat_core.specs.declared.tickets.Ticket.{Ticket}
use Rattle.cat_core.specs.Drafts.{without}
use Rattle.cat_core.specs.Making.{Runs}
use Rattle.cat_core.specs.Noting.{and_names, noting}
use Rattle.cat_core.specs.Stored.{AreKnown, AreNamed, HasFronts, IsMarked, IsSound, IsSwept, IsUnderWay, Stored, closed_before, draft_held, held_mark, is_headed, sweep_held}
use Rattle.cat_model.specs.declared.sweep.Sweep.{Sweep}
use Rattle.cat_mark.specs.declared.marks.Marks.{Marks}
use Rattle.cat_mark.specs.declared.roots.Roots.{Roots}
use Rattle.cat_mark.specs.Walked.{HaveWalked}
use Rattle.cat_core.specs.Sweeps.{AreAllMarked}
use Rattle.cat_core.proofs.Held.{place_length}
use Rattle.cat_core.proofs.Left.{named_found}
use Rattle.cat_core.proofs.Sound.{Brings, IsCallIn}
use Rattle.cat_core.proofs.Taken.{OkIs, bind}

-- nothing is open
pub swept_none : (book : Book) (items : List OpenDraft) → items ≡ [] → IsSwept book (map draft_held items) None None
swept_none book items none = subst (λ (l : List OpenDraft). IsSwept book (map draft_held l) None None) (sym none) record { named = tt; sweep = tt; last = tt }

-- none is open any more
pub swept_shut : (book : Book) (left_open : List drafts.OpenDraft) (held : Option OpenSweep) (closed other : Option ClosedSweep) → IsSwept book left_open held closed → IsSwept book left_open None other
swept_shut book left_open held closed other was = record { named = was.named; sweep = tt; last = tt }

-- ---- the mark

marked_by : (draft drafter : ℕ) (dropped expired : Option Ticket) (closed : Option ClosedSweep) (fault : Option FailedAppend) (format base : ℕ) (bases : Option ℕ) (held : Option OpenSweep) (book : Book) (left_open : List drafts.OpenDraft) → IsSwept book left_open held closed
    → IsMarked (held_mark draft drafter dropped expired held closed fault format base bases) (option_map sweep_held held)
marked_by draft drafter dropped expired closed fault format base bases None book left_open is = refl
marked_by draft drafter dropped expired None fault format base bases (Some s) book left_open is = (refl, is.last)
marked_by draft drafter dropped expired (Some c) fault format base bases (Some s) book left_open is = (refl, is.last)

pub marked : {K : Type 0} (draft drafter : ℕ) (dropped expired : Option Ticket) (closed : Option ClosedSweep) (fault : Option FailedAppend) (format base : ℕ) (bases : Option ℕ) (held : Option OpenSweep) (book : Book) (left_open : List drafts.OpenDraft) (s x : Stored K) → s ≡ x
    → s.mark ≡ held_mark draft drafter dropped expired held closed fault format base bases → s.left_open.sweep ≡ option_map sweep_held held → IsSwept book left_open held closed → IsMarked x.mark x.left_open.sweep
marked {K} draft drafter dropped expired closed fault format base bases held book left_open s x same mark sweep is =
    subst (λ (z : Stored K). IsMarked z.mark z.left_open.sweep) same
    (subst (λ (m : Mark). IsMarked m s.left_open.sweep) (sym mark)
    (subst (IsMarked (held_mark draft drafter dropped expired held closed fault format base bases)) (sym sweep) (marked_by draft drafter dropped expired closed fault format base bases held book left_open is)))

-- ---- what stays

known_on : (a b : State) (hashes : List Hash) → Adds a.commits b.commits → AreKnown a hashes → AreKnown b hashes
known_on a b [] adds known = refl
known_on a b (hash ∷ hashes) adds known =
    let both = and_true (is_known sha256 a hash) (list_all (is_known sha256 a) hashes) known in
    both_true _ _ (known_later a.commits b.commits hash adds both.0) (known_on a b hashes adds both.1)

named_on : (a b : State) (left_open : List drafts.OpenDraft) → Adds a.commits b.commits → AreNamed a left_open → AreNamed b left_open
named_on a b [] adds are = tt
named_on a b (x ∷ xs) adds are = (known_on a b x.names.commits adds are.0, named_on a b xs adds are.1)

named_at : (b : Bool) (state : State) (x : drafts.OpenDraft) (less : List drafts.OpenDraft) → AreKnown state x.names.commits → AreNamed state less → AreNamed state (cond b less (x ∷ less))
named_at true state x less known are = are
named_at false state x less known are = (known, are)

named_without : (state : State) (o : Opening) (left_open : List drafts.OpenDraft) → AreNamed state left_open → AreNamed state (without o left_open)
named_without state o [] are = tt
named_without state o (x ∷ xs) are = named_at (nat_eq x.opening.caller o.caller && nat_eq x.opening.number o.number) state x (without o xs) are.0 (named_without state o xs are.1)

-- once a draft is closed
pub swept_closed : (book : Book) (left_open held : List drafts.OpenDraft) (o : Opening) (sweep : Option OpenSweep) (closed : Option ClosedSweep) → IsSwept book left_open sweep closed → held ≡ without o left_open → IsSwept book held sweep closed
swept_closed book left_open held o sweep closed was is =
    subst (λ (l : List drafts.OpenDraft). IsSwept book l sweep closed) (sym is) record { named = named_without book.state o left_open was.named; sweep = was.sweep; last = was.last }

-- ---- one entry more

-- the place is that of the book's base, and one more for each entry
pub place_log : (book : Book) (o : Opened) (left_open : List drafts.OpenDraft) → IsSound o book left_open → book.state.place ≡ book.base.place + length book.log
place_log book o left_open sound =
    let n : book.state.place ≡ o.state.place + length (reverse book.log) = place_length o book left_open sound in
    let base : book.base.place ≡ o.state.place = ap (λ (s : State). s.place) sound.base in
    let long : length (reverse book.log) ≡ length book.log = length-reverse book.log in
    omega arith

-- the states that the entries led through end at the book's
pub ends_sound : (book : Book) (o : Opened) (left_open : List drafts.OpenDraft) → IsSound o book left_open → (course sha256 book.base book.log).state ≡ book.state
ends_sound book o left_open sound =
    ap (λ (base : State). (course sha256 base book.log).state) sound.base
    ∙ ap (λ (l : List LogEntry). (course sha256 o.state l).state) (sym (reverse-reverse book.log))
    ∙ course_is o (reverse book.log) ∙ sound.led

headed_next : (place : ℕ) (after before : State) (past : List State) → after.place ≡ before.place + 1 → place ≤ before.place → is_headed before ≡ true → list_all is_headed (take (before.place - place) past) ≡ true
    → list_all is_headed (take (after.place - place) (before ∷ past)) ≡ true
headed_next place after before past next low here rest =
    let n : after.place - place ≡ suc (before.place - place) = omega (arith, next, low) in
    rw n (both_true _ _ here rest)

pub past_is : (book : Book) (e : LogEntry) (after : State) (draft : ℕ) → (course sha256 book.base book.log).state ≡ book.state → past_of sha256 (record book { state = after; draft = draft; log = e ∷ book.log }) ≡ book.state ∷ past_of sha256 book
unfolding past_of
past_is book e after draft ends = ap (λ (state : State). state ∷ past_of sha256 book) ends

module _ (book : Book) (e : LogEntry) (after : State) (draft : ℕ) (ends : (course sha256 book.base book.log).state ≡ book.state) (headed : is_headed book.state ≡ true) (place : book.state.place ≡ book.base.place + length book.log) (next : after.place ≡ book.state.place + 1) (later : IsLater book.state after) where
  abbrev longer : Book
  longer = record book { state = after; draft = draft; log = e ∷ book.log }

  way_on : (s : OpenSweep) → IsUnderWay book s → IsUnderWay longer s
  way_on s was =
      let since : s.ticket.place ≤ book.base.place + s.drained = was.since in
      let drained : s.drained ≤ length book.log = was.drained in
      record {
        fronts = was.fronts;
        from = was.from;
        since = was.since;
        drained = omega (arith, drained);
        few = was.few;
        logged = was.logged;
        known = known_on book.state after s.commits.items later.commits was.known;
        headed = subst (λ (past : List State). list_all is_headed (take (after.place - s.ticket.place) past) ≡ true) (sym (past_is book e after draft ends))
            (headed_next s.ticket.place after book.state (past_of sha256 book) next (omega (arith, since, drained, place)) headed was.headed);
      }

  swept_on_by : (left_open : List drafts.OpenDraft) (held : Option OpenSweep) (closed : Option ClosedSweep) → IsSwept book left_open held closed → IsSwept longer left_open held closed
  swept_on_by left_open None closed was = record { named = named_on book.state after left_open later.commits was.named; sweep = tt; last = tt }
  swept_on_by left_open (Some s) closed was = record { named = named_on book.state after left_open later.commits was.named; sweep = way_on s was.sweep; last = was.last }

-- other parts of the book don't matter
swept_as : (a b : Book) (left_open : List drafts.OpenDraft) (held : Option OpenSweep) (closed : Option ClosedSweep) → b.state ≡ a.state → b.log ≡ a.log → b.base ≡ a.base → IsSwept a left_open held closed → IsSwept b left_open held closed
unfolding past_of
swept_as a b left_open held closed state log base was =
    let put : Book → Type 0 = λ x. IsSwept x left_open held closed in
    let draft : IsSwept (record a { draft = b.draft }) left_open held closed = by held was in
    subst put (λ i. record { state = sym state i; draft = b.draft; log = sym log i; base = sym base i }) draft
  where
    way_as : (s : OpenSweep) → IsUnderWay a s → IsUnderWay (record a { draft = b.draft }) s
    way_as s was = record { fronts = was.fronts; from = was.from; since = was.since; drained = was.drained; few = was.few; logged = was.logged; known = was.known; headed = was.headed }

    by : (held : Option OpenSweep) → IsSwept a left_open held closed → IsSwept (record a { draft = b.draft }) left_open held closed
    by None was = record { named = was.named; sweep = tt; last = tt }
    by (Some s) was = record { named = was.named; sweep = way_as s was.sweep; last = was.last }

module _ (caller number : ℕ) (book : Book) (o : Opened) (left_open : List drafts.OpenDraft) (held : Option OpenSweep) (closed : Option ClosedSweep) (sound : IsSound o book left_open) (headed : is_headed book.state ≡ true) (was : IsSwept book left_open held closed) where
  brought_by : (logged : List LogEntry) (after : State) (draft : ℕ) → Brings caller number book logged after → IsSwept (record book { state = after; draft = draft; log = logged ++ book.log }) left_open held closed
  brought_by [] after draft brings = swept_as book (record book { state = after; draft = draft }) left_open held closed brings refl refl was
  brought_by (e ∷ []) after draft brings =
      swept_on_by book e after draft (ends_sound book o left_open sound) headed (place_log book o left_open sound)
      (sym (ap (λ (s : State). s.place) brings.leads) ∙ legal_place sha256 book e brings.legal.legal)
      (subst (IsLater book.state) brings.leads (replayed_later sha256 book e)) left_open held closed was
  brought_by (e ∷ f ∷ more) after draft brings = absurd brings

  -- after what a call made
  pub swept_made : (after : Book) (called : Called) (made : Result Told Unmade) → IsCallIn caller number book called → Runs called book after made → IsSwept after left_open held closed
  swept_made after called (Ok told) is runs = subst (λ (b : Book). IsSwept b left_open held closed) (sym runs.book) (brought_by called.logged called.state called.draft is.brings)
  swept_made after called (Err NotKept) is runs = swept_as book after left_open held closed runs.state runs.log runs.base was
  swept_made after called (Err (Failed failures.NoMemory)) is runs = swept_as book after left_open held closed runs.state runs.log runs.base was
  swept_made after called (Err (Failed (failures.Refused why))) is runs = subst (λ (b : Book). IsSwept b left_open held closed) (sym runs.1.book) (brought_by called.logged called.state called.draft is.brings)

-- as it is held
pub headed_inside : {K : Type 0} (s x : Stored K) → s ≡ x → is_headed x.book.state ≡ true → is_headed s.book.state ≡ true
headed_inside {K} s x same headed = subst (λ (z : Stored K). is_headed z.book.state ≡ true) (sym same) headed

pub linked_inside : {K : Type 0} (s x : Stored K) → s ≡ x → AreLinked x.book.state.commits → AreLinked s.book.state.commits
linked_inside {K} s x same are = subst (λ (z : Stored K). AreLinked z.book.state.commits) (sym same) are

pub opened_inside : {K : Type 0} (s x : Stored K) (c : Command) → s ≡ x → opening sha256 x.book.state c ≡ Ok tt → opening sha256 s.book.state c ≡ Ok tt
opened_inside {K} s x c same e = subst (λ (z : Stored K). opening sha256 z.book.state c ≡ Ok tt) (sym same) e

pub may_inside : {K : Type 0} (s x : Stored K) → s ≡ x → (w : Sweep) → may_be_swept sha256 x.book w ≡ true → may_be_swept sha256 s.book w ≡ true
may_inside {K} s x same w may = subst (λ (z : Stored K). may_be_swept sha256 z.book w ≡ true) (sym same) may

pub marked_inside : {K : Type 0} (s x : Stored K) → s ≡ x → (w : Sweep) (marks : List Hash) (roots : Roots) → AreAllMarked x.book w marks roots → AreAllMarked s.book w marks roots
marked_inside {K} s x same w marks roots are = subst (λ (z : Stored K). AreAllMarked z.book w marks roots) (sym same) are

pub walked_inside : {K : Type 0} (s x : Stored K) → s ≡ x → (marks : Marks) → HaveWalked x.book.state.commits marks → HaveWalked s.book.state.commits marks
walked_inside {K} s x same marks walked = subst (λ (z : Stored K). HaveWalked z.book.state.commits marks) (sym same) walked

-- ---- what a draft names

named_head : (commits : Commits) (references : List Reference) (name : List ℕ) (r : Reference) → heads_pass (linked.is_known commits) references ≡ true → reference_of references name ≡ Some r → linked.is_known commits r.head ≡ true
named_head commits references name r heads is = named_passes (linked.is_known commits) references name r heads is

on_known : (state : State) (r : Reference) (hash : Hash) (x : Hash) → AreLinked state.commits → linked.is_known state.commits r.head ≡ true → pointed sha256 state (Some r) (Some hash) ≡ Ok x → is_known sha256 state hash ≡ true
on_known state r hash x are known e = by (on_chain state.commits r.head hash) refl e
  where
    by : (b : Bool) → on_chain state.commits r.head hash ≡ b → (if b then Ok hash else Err RefNotFound) ≡ Ok x → is_known sha256 state hash ≡ true
    by true on e = chain_is_known state.commits r.head hash are on known
    by false on e = absurd cc

merge_knows : (state : State) (m : Merge) → AreLinked state.commits → is_headed state ≡ true → OkIs (λ x. is_known sha256 state m.from_hash ≡ true) (merge_opening sha256 state m)
unfolding merge_opening
merge_knows state m are headed =
    bind _ (named state m.branch) _ (λ branch _.
    bind _ (named state m.from) _ (λ from is.
    bind _ (needs_branch branch) _ (λ u _.
    bind _ (pointed sha256 state (Some branch) m.hash) _ (λ x _.
    bind _ (pointed sha256 state (Some from) (Some m.from_hash)) _ (λ source e.
    on_known state from m.from_hash source are (named_head state.commits state.references m.from from headed (named_found state m.from from is)) e)))))

chain_knows : (state : State) (head : Hash) (hashes : List Hash) → AreLinked state.commits → linked.is_known state.commits head ≡ true → list_all (on_chain state.commits head) hashes ≡ true → list_all (is_known sha256 state) hashes ≡ true
chain_knows state head [] are known all = refl
chain_knows state head (hash ∷ hashes) are known all =
    let both = and_true (on_chain state.commits head hash) (list_all (on_chain state.commits head) hashes) all in
    both_true _ _ (chain_is_known state.commits head hash are both.0 known) (chain_knows state head hashes are known both.1)

transplant_knows : (state : State) (t : Transplant) → AreLinked state.commits → is_headed state ≡ true → OkIs (λ x. list_all (is_known sha256 state) t.hashes ≡ true) (transplant_opening sha256 state t)
unfolding transplant_opening
transplant_knows state t are headed =
    bind _ (named state t.branch) _ (λ branch _.
    bind _ (named state t.from) _ (λ from is.
    bind _ (needs_branch branch) _ (λ u _.
    bind _ (pointed sha256 state (Some branch) t.hash) _ (λ x _.
    bind _ (needs_on_chain state from t.hashes) _ (λ y on.
    bind _ (needs (are_consecutive state.commits t.hashes) (BadRequest NotConsecutive)) _ (λ z _.
    chain_knows state from.head t.hashes are (named_head state.commits state.references t.from from headed (named_found state t.from from is)) (passed _ _ y on)))))))

opened_knows : {A : Type 0} (P : Type 0) (r : Result A Refusal) → OkIs (λ x. P) r → ◌≡◌ {A = Tested} (r >>= λ _. Ok tt) (Ok tt) → P
opened_knows P (Ok x) is e = is
opened_knows P (Err why) is e = absurd cc

-- the commits that the draft of a call names that was opened
pub names_known : (state : State) (c : Command) (number : ℕ) → AreLinked state.commits → is_headed state ≡ true → opening sha256 state c ≡ Ok tt → AreKnown state (names_of sha256 number c).commits
names_known state (commands.Create c) number are headed e = refl
names_known state (commands.Assign c) number are headed e = refl
names_known state (commands.Delete c) number are headed e = refl
names_known state (commands.Commit c) number are headed e = refl
names_known state (commands.Merge m) number are headed e = both_true _ _ (opened_knows (is_known sha256 state m.from_hash ≡ true) (merge_opening sha256 state m) (merge_knows state m are headed) e) refl
names_known state (commands.Transplant t) number are headed e = opened_knows (list_all (is_known sha256 state) t.hashes ≡ true) (transplant_opening sha256 state t) (transplant_knows state t are headed) e

-- ---- one draft more

pub known_both : (state : State) (xs ys : List Hash) → AreKnown state xs → AreKnown state ys → AreKnown state (xs ++ ys)
known_both state [] ys p q = q
known_both state (x ∷ xs) ys p q =
    let both = and_true (is_known sha256 state x) (list_all (is_known sha256 state) xs) p in
    both_true _ _ both.0 (known_both state xs ys both.1 q)

named_more : (state : State) (left_open : List drafts.OpenDraft) (d : drafts.OpenDraft) → AreNamed state left_open → AreKnown state d.names.commits → AreNamed state (left_open ++ d ∷ [])
named_more state [] d are known = (known, tt)
named_more state (x ∷ xs) d are known = (are.0, named_more state xs d are.1 known)

some_same : (a b : drafts.OpenSweep) → ◌≡◌ {A = Option drafts.OpenSweep} (Some a) (Some b) → a ≡ b
some_same a b e = cc

way_noted : (book : Book) (names : Names) (a b : OpenSweep) → IsUnderWay book a → HasFronts b → AreKnown book.state names.commits → sweep_held b ≡ record (sweep_held a) { names = and_names (sweep_held a).names names } → IsUnderWay book b
way_noted book names a b was fronts known is =
    let place : b.ticket.place ≡ a.ticket.place = ap (λ (s : drafts.OpenSweep). s.opening.place) is in
    let drained : b.drained ≡ a.drained = ap (λ (s : drafts.OpenSweep). s.drained) is in
    let policy : b.policy ≡ a.policy = ap (λ (s : drafts.OpenSweep). s.policy) is in
    let commits : b.commits.items ≡ a.commits.items ++ names.commits = ap (λ (s : drafts.OpenSweep). s.names.commits) is in
    let from : book.base.place ≤ a.ticket.place = was.from in
    let since : a.ticket.place ≤ book.base.place + a.drained = was.since in
    let low : a.drained ≤ length book.log = was.drained in
    record {
      fronts = fronts;
      from = omega (arith, from, place);
      since = omega (arith, since, place, drained);
      drained = omega (arith, low, drained);
      few = subst (λ (p : Resolved). length p.cutoffs ≤ most_patterns) (sym policy) was.few;
      logged = subst (λ (p : Resolved). resolved_is_logged p ≡ true) (sym policy) was.logged;
      known = subst (AreKnown book.state) (sym commits) (known_both book.state a.commits.items names.commits was.known known);
      headed = subst (λ (n : ℕ). list_all is_headed (take (book.state.place - n) (past_of sha256 book)) ≡ true) (sym place) was.headed;
    }

noted_by : (book : Book) (names : Names) (held after : Option OpenSweep) (closed : Option ClosedSweep) → option_map sweep_held after ≡ noting names (option_map sweep_held held) → IfSome after HasFronts → AreKnown book.state names.commits
    → IfSome held (IsUnderWay book) → IfSome held (λ s. closed_before closed ≤ s.ticket.number) → IfSome after (IsUnderWay book) × IfSome after (λ s. closed_before closed ≤ s.ticket.number)
noted_by book names None None closed is fronts known was last = (tt, tt)
noted_by book names None (Some b) closed is fronts known was last = absurd cc
noted_by book names (Some a) None closed is fronts known was last = absurd cc
noted_by book names (Some a) (Some b) closed is fronts known was last =
    let same = some_same _ _ is in
    (way_noted book names a b was fronts known same, subst (λ (n : ℕ). closed_before closed ≤ n) (sym (ap (λ (s : drafts.OpenSweep). s.opening.number) same)) last)

-- nothing was added to it
way_kept : (book : Book) (held after : Option OpenSweep) (closed : Option ClosedSweep) → option_map sweep_held after ≡ option_map sweep_held held → IfSome after HasFronts
    → IfSome held (IsUnderWay book) → IfSome held (λ s. closed_before closed ≤ s.ticket.number) → IfSome after (IsUnderWay book) × IfSome after (λ s. closed_before closed ≤ s.ticket.number)
way_kept book None None closed is fronts was last = (tt, tt)
way_kept book None (Some b) closed is fronts was last = absurd cc
way_kept book (Some a) None closed is fronts was last = absurd cc
way_kept book (Some a) (Some b) closed is fronts was last =
    let same : sweep_held b ≡ sweep_held a = some_same _ _ is in
    let none : sweep_held b ≡ record (sweep_held a) { names = and_names (sweep_held a).names (record { commits = []; contents = [] }) } =
    same ∙ (λ i. record (sweep_held a) { names = record { commits = sym (append-nil a.commits.items) i; contents = sym (append-nil a.contents.items) i } }) in
    (way_noted book (record { commits = []; contents = [] }) a b was fronts refl none, subst (λ (n : ℕ). closed_before closed ≤ n) (sym (ap (λ (s : drafts.OpenSweep). s.opening.number) same)) last)

-- names were added to it, or none
pub swept_noted : {E : Type 0} (book : Book) (left_open : List drafts.OpenDraft) (names : Names) (held after : Option OpenSweep) (closed : Option ClosedSweep) (r : Result (Unit {0}) E) → IsSwept book left_open held closed → AreKnown book.state names.commits
    → OnOk r (option_map sweep_held after ≡ noting names (option_map sweep_held held)) → OnErr r (option_map sweep_held after ≡ option_map sweep_held held) → IfSome after HasFronts → IsSwept book left_open after closed
swept_noted {E} book left_open names held after closed (Ok u) was known ok err fronts =
    let parts = noted_by book names held after closed ok fronts known was.sweep was.last in
    record { named = was.named; sweep = parts.0; last = parts.1 }
swept_noted {E} book left_open names held after closed (Err e) was known ok err fronts =
    let parts = way_kept book held after closed err fronts was.sweep was.last in
    record { named = was.named; sweep = parts.0; last = parts.1 }

-- one draft more, and its number is taken
pub swept_held : (book after : Book) (left_open held : List drafts.OpenDraft) (d : drafts.OpenDraft) (sweep : Option OpenSweep) (closed : Option ClosedSweep) → IsSwept book left_open sweep closed → after.state ≡ book.state → after.log ≡ book.log → after.base ≡ book.base
    → held ≡ left_open ++ d ∷ [] → AreKnown book.state d.names.commits → IsSwept after held sweep closed
swept_held book after left_open held d sweep closed was state log base is known =
    subst (λ (l : List drafts.OpenDraft). IsSwept after l sweep closed) (sym is)
    (swept_as book after (left_open ++ d ∷ []) sweep closed state log base record { named = named_more book.state left_open d was.named known; sweep = was.sweep; last = was.last })
