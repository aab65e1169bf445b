-- The roots that a store gives of its open sweep.
use Rattle.std.proofs.Common.{◌≡◌, ◌≢◌, ℕ, ◌+◌, ◌-◌, ◌≤◌, List, [], ◌∷◌, ◌++◌, length, take, drop, reverse, Option, Some, None, true, refl, sym, ap, ◌∙◌, subst, arith}
use Rattle.std.proofs.lemmas.List.{length-drop, length-take-le, take-append-drop}
use Rattle.std.specs.Option.{option_map}
use Rattle.std.specs.Prelude.{IfOk, IfSome, Result, Ok, Err}
use Rattle.sha2.specs.Sha256.{sha256}
use Rattle.cat_graph.specs.Linked.{AreLinked}
use Rattle.cat_names.specs.declared.hash.Hash.{Hash}
use Rattle.cat_mark.specs.declared.roots.Roots.{Roots}
use Rattle.cat_model.specs.declared.cutoff.Resolved.{Resolved}
use Rattle.cat_model.specs.declared.log_entry.LogEntry.{LogEntry}
use Rattle.cat_model.specs.Book.{Book}
use Rattle.cat_model.specs.Drafts as drafts
use Rattle.cat_model.specs.Drafts.{Names, Opening}
use Rattle.cat_model.specs.Past.{past_of}
use Rattle.cat_model.specs.State.{State}
use Rattle.cat_model.specs.Turns.{Opened}
use Rattle.cat_tables.specs.ReferenceLaws.{both_true}
use Rattle.cat_core.specs.declared.sweeping.Sweep.{Sweep}
use Rattle.cat_core.specs.declared.tickets.OpenSweep.{OpenSweep}
use Rattle.cat_core.specs.Noting.{names_of_drafts}
use Rattle.cat_core.specs.declared.tickets.Ticket.{Ticket}
use Rattle.cat_core.specs.Stored.{HasFronts, IsSound, IsUnderWay, IsUp, Stored, is_headed, log_of, opening_at, sweep_held}
use Rattle.cat_core.specs.Sweeps.{Completes, IsSweepOpening, drained_on, first_roots, given_by, kept_by, names_behind, next_sweep, opened_sweep, roots_since, sweep_opening, with_sweep}
use Rattle.cat_core.proofs.Completing.{completes_first, completes_rest}
use Rattle.cat_core.proofs.Since.{AreLegalBack, legal_backwards, places_back, state_at}
use Rattle.cat_core.proofs.UnderWay.{ends_sound}

-- what its caller was not given yet
abbrev pub rest_of : OpenSweep → Names
rest_of s = record { commits = drop s.given_commits s.commits.items; contents = drop s.given_contents s.contents.items }

names_parted : (s : OpenSweep) → (sweep_held s).names ≡ record { commits = (sweep_held s).given.commits ++ (rest_of s).commits; contents = (sweep_held s).given.contents ++ (rest_of s).contents }
names_parted s = λ i. record { commits = sym (take-append-drop s.given_commits s.commits.items) i; contents = sym (take-append-drop s.given_contents s.contents.items) i }

pub since_completes : (book : Book) (o : Opened) (left_open : List drafts.OpenDraft) (s : OpenSweep) → IsSound o book left_open → IsUnderWay book s → AreLinked book.state.commits → is_headed book.state ≡ true
    → Completes book.state.commits (given_by book (sweep_held s)) (roots_since s.policy (drop s.drained (reverse book.log)) (rest_of s)) (kept_by book (sweep_held s))
since_completes book o left_open s sound way are headed =
    let legal : AreLegalBack o book.log = legal_backwards o book.log sound.legal.legal in
    let n = length book.log - s.drained in
    let older : List LogEntry = drop n book.log in
    let whole : AreLegalBack o (take n book.log ++ older) = subst (AreLegalBack o) (sym (take-append-drop n book.log)) legal in
    let since : s.ticket.place ≤ book.base.place + s.drained = way.since in
    let base : book.base.place ≡ o.state.place = ap (λ (x : State). x.place) sound.base in
    let low : s.drained ≤ length book.log = way.drained in
    let long : length older ≡ length book.log - n = length-drop n book.log in
    let place : (state_at o older).place ≡ o.state.place + length older = places_back o (take n book.log) older whole in
    completes_rest o book (sweep_held s) (rest_of s) are sound.base (ends_sound book o left_open sound) legal (names_parted s) low (omega (arith, since, low, long, place, base)) (both_true _ _ headed way.headed)

-- as it is seen
pub roots_complete : {K : Type 0} (s x : Stored K) → s ≡ x → (held : Option OpenSweep) (it : OpenSweep) (roots : Roots) → held ≡ Some it → s.left_open.sweep ≡ option_map sweep_held held → Completes s.book.state.commits (given_by s.book (sweep_held it)) roots (kept_by s.book (sweep_held it))
    → (o : drafts.OpenSweep) → x.left_open.sweep ≡ Some o → Completes x.book.state.commits (given_by x.book o) roots (kept_by x.book o)
roots_complete {K} s x same held it roots is sweep completes o there =
    let own : Some (sweep_held it) ≡ Some o = sym (ap (option_map sweep_held) is) ∙ sym sweep ∙ ap (λ (z : Stored K). z.left_open.sweep) same ∙ there in
    subst (λ (z : Stored K). Completes z.book.state.commits (given_by z.book o) roots (kept_by z.book o)) same
    (subst (λ (o : drafts.OpenSweep). Completes s.book.state.commits (given_by s.book o) roots (kept_by s.book o)) (some_same (sweep_held it) o own) completes)
  where
    some_same : (a b : drafts.OpenSweep) → ◌≡◌ {A = Option drafts.OpenSweep} (Some a) (Some b) → a ≡ b
    some_same a b e = cc

pub roots_ok : {K E : Type 0} (s x : Stored K) → s ≡ x → (start : Opened) (left_open : List drafts.OpenDraft) (held : Option OpenSweep) (it : OpenSweep) (r : Result Roots E) (entries : List LogEntry) (commits contents : List Hash) → held ≡ Some it → s.left_open.sweep ≡ option_map sweep_held held
    → IsSound start s.book left_open → IfSome held (IsUnderWay s.book) → AreLinked s.book.state.commits → is_headed s.book.state ≡ true → IfOk r (λ roots. roots ≡ roots_since it.policy entries (record { commits = commits; contents = contents }))
    → entries ≡ drop it.drained (reverse s.book.log) → commits ≡ drop it.given_commits it.commits.items → contents ≡ drop it.given_contents it.contents.items
    → (o : drafts.OpenSweep) → x.left_open.sweep ≡ Some o → IfOk r (λ roots. Completes x.book.state.commits (given_by x.book o) roots (kept_by x.book o))
roots_ok {K} {E} s x same start left_open held it (Err e) entries commits contents is sweep sound way are headed ok entries_are commits_are contents_are o there = tt
roots_ok {K} {E} s x same start left_open held it (Ok roots) entries commits contents is sweep sound way are headed ok entries_are commits_are contents_are o there =
    let under : IsUnderWay s.book it = subst (λ (h : Option OpenSweep). IfSome h (IsUnderWay s.book)) is way in
    let own : roots ≡ roots_since it.policy (drop it.drained (reverse s.book.log)) (rest_of it) = ok ∙ (λ i. roots_since it.policy (entries_are i) (record { commits = commits_are i; contents = contents_are i })) in
    roots_complete s x same held it roots is sweep
    (subst (λ (r : Roots). Completes s.book.state.commits (given_by s.book (sweep_held it)) r (kept_by s.book (sweep_held it))) (sym own) (since_completes s.book start left_open it sound under are headed)) o there

-- the names that were not given yet are those behind the ones that were
rest_is : (s : OpenSweep) → HasFronts s → rest_of s ≡ names_behind (sweep_held s)
rest_is s fronts = λ i. record { commits = drop (sym (length-take-le s.given_commits s.commits.items fronts.commits) i) s.commits.items; contents = drop (sym (length-take-le s.given_contents s.contents.items fronts.contents) i) s.contents.items }

-- they are the heads made and the names given since, as it is seen
pub roots_seen : {K E : Type 0} (s x : Stored K) → s ≡ x → (held : Option OpenSweep) (it : OpenSweep) (r : Result Roots E) (entries : List LogEntry) (commits contents : List Hash) → held ≡ Some it → s.left_open.sweep ≡ option_map sweep_held held
    → IfSome held (IsUnderWay s.book) → IfOk r (λ roots. roots ≡ roots_since it.policy entries (record { commits = commits; contents = contents }))
    → entries ≡ drop it.drained (reverse s.book.log) → commits ≡ drop it.given_commits it.commits.items → contents ≡ drop it.given_contents it.contents.items
    → (o : drafts.OpenSweep) → x.left_open.sweep ≡ Some o → IfOk r (λ roots. roots ≡ roots_since o.policy (drop o.drained (log_of x)) (names_behind o))
roots_seen {K} {E} s x same held it (Err e) entries commits contents is sweep way ok entries_are commits_are contents_are o there = tt
roots_seen {K} {E} s x same held it (Ok roots) entries commits contents is sweep way ok entries_are commits_are contents_are o there =
    let under : IsUnderWay s.book it = subst (λ (h : Option OpenSweep). IfSome h (IsUnderWay s.book)) is way in
    let own : sweep_held it ≡ o = some_same (sweep_held it) o (sym (ap (option_map sweep_held) is) ∙ sym sweep ∙ ap (λ (z : Stored K). z.left_open.sweep) same ∙ there) in
    ok
    ∙ (λ i. roots_since it.policy (entries_are i) (record { commits = commits_are i; contents = contents_are i }))
    ∙ ap (roots_since it.policy (drop it.drained (reverse s.book.log))) (rest_is it under.fronts)
    ∙ (λ i. roots_since (own i).policy (drop (own i).drained (log_of (same i))) (names_behind (own i)))
  where
    some_same : (a b : drafts.OpenSweep) → ◌≡◌ {A = Option drafts.OpenSweep} (Some a) (Some b) → a ≡ b
    some_same a b e = cc

-- as it is opened
pub first_completes : (book : Book) (left_open : List drafts.OpenDraft) (opening : Opening) (policy : Resolved) → opening.place ≡ book.state.place
    → Completes book.state.commits [] (first_roots policy book.state.references (names_of_drafts left_open)) (kept_by book (opened_sweep book left_open opening policy))
first_completes book left_open opening policy is =
    subst (λ (n : ℕ). Completes book.state.commits [] (first_roots policy book.state.references (names_of_drafts left_open)) (kept_by book (opened_sweep book left_open (record opening { place = n }) policy))) (sym is)
    (completes_first book.state (past_of sha256 book) policy (names_of_drafts left_open))

pub all_taken : {A : Type 0} (xs : List A) (n : ℕ) → n ≡ length xs → take n xs ≡ xs
all_taken {A} xs n is = ap (λ (n : ℕ). take n xs) is ∙ all xs
  where
    all : (xs : List A) → take (length xs) xs ≡ xs
    all [] = refl
    all (x ∷ xs) = ap (λ (l : List A). x ∷ l) (all xs)

-- a sweep is held as it was opened
pub begun_is : {K : Type 0} (caller : ℕ) (s x : Stored K) → s ≡ x → (s' : Stored K) (held : OpenSweep) (sweep : Sweep) (roots : Roots) (view : State) → IsUp x → x.left_open.sweep ≡ None → sweep.ticket ≡ held.ticket → held.ticket.number ≡ next_sweep x.mark → held.ticket.caller ≡ caller → held.ticket.place ≡ s.book.state.place
    → held.commits.items ≡ (names_of_drafts s.left_open.drafts).commits → held.contents.items ≡ (names_of_drafts s.left_open.drafts).contents → held.drained ≡ length s.book.log → held.given_commits ≡ length held.commits.items → held.given_contents ≡ length held.contents.items
    → roots ≡ first_roots held.policy s.book.state.references (record { commits = held.commits.items; contents = held.contents.items }) → view ≡ s.book.state → s' ≡ with_sweep s (sweep_held held) → IsSweepOpening caller held.policy x s' sweep roots view
begun_is {K} caller s x same s' held sweep roots view up none ticket number its place commits contents drained given_commits given_contents roots_is view_is after =
    subst (λ (z : Stored K). IsSweepOpening caller held.policy z s' sweep roots view) same record {
      up = subst (λ (z : Stored K). IsUp z) (sym same) up;
      none = subst (λ (z : Stored K). z.left_open.sweep ≡ None) (sym same) none;
      opening = opening_is;
      roots_are = subst (λ (r : Roots). Completes s.book.state.commits [] r (kept_by s.book (opened_sweep s.book s.left_open.drafts (sweep_opening sweep) held.policy))) (sym first)
          (first_completes s.book s.left_open.drafts (sweep_opening sweep) held.policy (ap (λ (o : Opening). o.place) opening_is));
      roots_from = first;
      view_is = view_is;
      after = after ∙ ap (with_sweep s) held_is;
    }
  where
    opening_is : sweep_opening sweep ≡ record { number = next_sweep s.mark; caller = caller; place = s.book.state.place }
    opening_is = λ i. record {
      number = (ap (λ (t : Ticket). t.number) ticket ∙ number ∙ ap (λ (z : Stored K). next_sweep z.mark) (sym same)) i;
      caller = (ap (λ (t : Ticket). t.caller) ticket ∙ its) i;
      place = (ap (λ (t : Ticket). t.place) ticket ∙ place) i;
    }

    first : roots ≡ first_roots held.policy s.book.state.references (names_of_drafts s.left_open.drafts)
    first = roots_is ∙ (λ i. first_roots held.policy s.book.state.references (record { commits = commits i; contents = contents i }))

    held_is : sweep_held held ≡ opened_sweep s.book s.left_open.drafts (sweep_opening sweep) held.policy
    held_is = λ i. record {
      opening = ap (λ (t : Ticket). opening_at t) (sym ticket) i;
      policy = held.policy;
      names = record { commits = commits i; contents = contents i };
      drained = drained i;
      given = record { commits = (all_taken held.commits.items held.given_commits given_commits ∙ commits) i; contents = (all_taken held.contents.items held.given_contents given_contents ∙ contents) i };
    }

-- none is seen where none is held
pub none_seen : {K : Type 0} (s x : Stored K) → s ≡ x → (held : Option OpenSweep) → held ≡ None → s.left_open.sweep ≡ option_map sweep_held held → (o : drafts.OpenSweep) → x.left_open.sweep ≢ Some o
none_seen {K} s x same held is sweep o there =
    let none : None ≡ Some o = sym (sweep ∙ ap (option_map sweep_held) is) ∙ ap (λ (z : Stored K). z.left_open.sweep) same ∙ there in
    absurd cc

-- all that is held was given
pub given_is : {K : Type 0} (s x : Stored K) → s ≡ x → (s' : Stored K) (held : Option OpenSweep) (a b : OpenSweep) → held ≡ Some a → s.mark.sweep ≡ option_map (λ (t : OpenSweep). opening_at t.ticket) held → s.left_open.sweep ≡ option_map sweep_held held
    → b.ticket ≡ a.ticket → b.policy ≡ a.policy → b.commits.items ≡ a.commits.items → b.contents.items ≡ a.contents.items → b.drained ≡ length s.book.log → b.given_commits ≡ length b.commits.items → b.given_contents ≡ length b.contents.items
    → s' ≡ record s { mark = record (s.mark) { sweep = Some (opening_at b.ticket) }; left_open = record (s.left_open) { sweep = Some (sweep_held b) } }
    → (o : drafts.OpenSweep) → x.left_open.sweep ≡ Some o → s' ≡ record x { left_open = record (x.left_open) { sweep = Some (drained_on x.book o) } }
given_is {K} s x same s' held a b is mark sweep ticket policy commits contents drained given_commits given_contents after o there =
    let own : sweep_held a ≡ o = some_same (sweep_held a) o (sym (sweep ∙ ap (option_map sweep_held) is) ∙ ap (λ (z : Stored K). z.left_open.sweep) same ∙ there) in
    after
    ∙ (λ i. record s { mark = record (s.mark) { sweep = told i }; left_open = record (s.left_open) { sweep = Some ((held_is ∙ ap (drained_on s.book) own) i) } })
    ∙ ap (λ (z : Stored K). record z { left_open = record (z.left_open) { sweep = Some (drained_on z.book o) } }) same
  where
    some_same : (a b : drafts.OpenSweep) → ◌≡◌ {A = Option drafts.OpenSweep} (Some a) (Some b) → a ≡ b
    some_same a b e = cc

    told : Some (opening_at b.ticket) ≡ s.mark.sweep
    told = ap (λ (t : Ticket). Some (opening_at t)) ticket ∙ sym (mark ∙ ap (option_map (λ (t : OpenSweep). opening_at t.ticket)) is)

    held_is : sweep_held b ≡ drained_on s.book (sweep_held a)
    held_is = λ i. record {
      opening = ap (λ (t : Ticket). opening_at t) ticket i;
      policy = policy i;
      names = record { commits = commits i; contents = contents i };
      drained = drained i;
      given = record { commits = (all_taken b.commits.items b.given_commits given_commits ∙ commits) i; contents = (all_taken b.contents.items b.given_contents given_contents ∙ contents) i };
    }
