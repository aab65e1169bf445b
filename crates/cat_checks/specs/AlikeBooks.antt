-- Books of which the second goes on from a state that is the first's at some place: what is legal on the first is so on the second, as of nobody, and leads the second on.
use Rattle.std.proofs.Common.{◌≡◌, ◌≤◌, ℕ, ◌+◌, ◌-◌, List, [], ◌∷◌, ◌++◌, length, map, take, Option, Some, Ok, Bool, true, false, not, ◌&&◌, nat_eq, nat_le, refl, sym, ap, subst, ◌∙◌, arith}
use Rattle.std.specs.List.{list_all, list_any}
use Rattle.std.specs.Cmp.Lexicographic.{bytes_decides}
use Rattle.std.proofs.lemmas.Bool.{le-leb}
use Rattle.cat_codes.specs.Code.{whole}
use Rattle.cat_codes.specs.ListLaws.{and_true, both_true}
use Rattle.cat_model.specs.declared.log_entry.Action.{Action}
use Rattle.cat_model.specs.declared.log_entry.Action.TheVariants as actions
use Rattle.cat_model.specs.declared.log_entry.LogEntry.{LogEntry}
use Rattle.cat_model.specs.declared.sweep.Sweep.{Sweep}
use Rattle.cat_model.specs.Book.{Book, after_call}
use Rattle.cat_model.specs.Past.{course, past_of}
use Rattle.cat_model.specs.Refusing.{◌>>=◌}
use Rattle.cat_model.specs.State.{Digest, State, is_known}
use Rattle.cat_model.specs.Turns.{Opened}
use Rattle.cat_frames.specs.Entries.{log_entry_code, of_nobody}
use Rattle.cat_tables.specs.ReferenceLaws.{split}
use Rattle.cat_checks.specs.AlikeStates.{AreAlike}
use Rattle.cat_checks.specs.AlikeSteps.{AreCalledAlike, attempt_alike}
use Rattle.cat_checks.specs.AlikeSweeps.{ArePastsAlike, AreRecent, recent_taken, sweep_alike}
use Rattle.cat_checks.specs.Histories.{AreFrom, AreLegal, after_entry}
use Rattle.cat_checks.specs.HistoryLaws.{EndsCourse, entry_ends, past_more}
use Rattle.cat_checks.specs.ReplayedLaws.{legal_place}
use Rattle.cat_checks.specs.Legal.{IsLegal, are_spelled_alike, draft_after, draft_is_new, draft_may_come, has_its_draft, is_just, is_legal, may_be_done, may_be_swept, most_patterns, next_book, next_from, or_at, read_next, replayed, replayed_action, replayed_call}

-- ---- what an entry brings

-- as far back as a sweep among them was opened, the pasts of two books are alike
abbrev pub ReachesAlike : Digest → Book → Book → Action → Type 0
ReachesAlike digest x y (actions.Call command) = Unit {0}
ReachesAlike digest x y (actions.Sweep s) = ArePastsAlike (take (x.state.place - s.opened) (past_of digest x)) (take (y.state.place - s.opened) (past_of digest y))

-- what the action of an entry brings on books whose states are alike
pub action_alike : (digest : Digest) (x y : Book) (entry : LogEntry) (action : Action) → AreAlike x.state y.state → ReachesAlike digest x y action → AreCalledAlike (replayed_action digest x entry action) (replayed_action digest y entry action)
action_alike digest x y entry (actions.Call command) alike reaches = attempt_alike digest 0 x.draft y.draft entry.moment entry.draft command x.state y.state alike
action_alike digest x y entry (actions.Sweep s) alike reaches = sweep_alike 0 (draft_after x entry) (draft_after y entry) entry.moment s (past_of digest x) (past_of digest y) x.state y.state alike reaches

-- ---- sweeps since a place

-- a sweep was opened at this place or later
abbrev pub IsSweptFrom : ℕ → Action → Type 0
IsSweptFrom place (actions.Call command) = Unit {0}
IsSweptFrom place (actions.Sweep s) = place ≤ s.opened

-- so was each among entries
abbrev pub AreSweptFrom : ℕ → List LogEntry → Type 0
AreSweptFrom place [] = Unit {0}
AreSweptFrom place (entry ∷ entries) = IsSweptFrom place entry.action × AreSweptFrom place entries

-- ---- books

abbrev has_draft : ℕ → List LogEntry → Bool
has_draft draft log = list_any (λ entry. nat_eq draft entry.draft) log

-- states that are the same, with each content once; the states that led to the second since its base are those that led to the first so far back; and no entry of the second has a draft that none of the first has
pub record AreBooksAlike (digest : Digest) (x y : Book) : Type 0 where
  pub state : AreAlike x.state y.state
  pub recent : AreRecent (past_of digest x) (past_of digest y)
  pub many : y.base.place + length (past_of digest y) ≡ y.state.place
  pub drafts : (draft : ℕ) → has_draft draft x.log ≡ false → has_draft draft y.log ≡ false
  pub ends : EndsCourse digest x
  pub other_ends : EndsCourse digest y

-- ---- an entry of nobody

-- its action brings the same as the entry's
nobody_brings : (digest : Digest) (book : Book) (entry : LogEntry) (action : Action) → replayed_action digest book (of_nobody entry) action ≡ replayed_action digest book entry action
nobody_brings digest book entry (actions.Call command) = refl
nobody_brings digest book entry (actions.Sweep s) = refl

spelled_itself : (digest : Digest) (e : LogEntry) → are_spelled_alike digest e e ≡ true
spelled_itself digest e = (bytes_decides ((log_entry_code digest).spell e) ((log_entry_code digest).spell e)).1 refl

is_just_one : (digest : Digest) (e : LogEntry) (logged : List LogEntry) → logged ≡ e ∷ [] → is_just digest e logged ≡ true
is_just_one digest e logged is = ap (is_just digest e) is ∙ spelled_itself digest e

-- ---- one entry

not_true : (b : Bool) → not b ≡ true → b ≡ false
not_true true is = absurd cc
not_true false is = refl

new_alike : (x y : Book) (draft : ℕ) → ((n : ℕ) → has_draft n x.log ≡ false → has_draft n y.log ≡ false) → draft_is_new x.log draft ≡ true → draft_is_new y.log draft ≡ true
new_alike x y draft fewer new =
    split (nat_eq draft 0)
    (λ none. rw none refl)
    (λ some.
    let absent : not (has_draft draft x.log) ≡ true = rw some at new in
    let also : has_draft draft y.log ≡ false = fewer draft (not_true (has_draft draft x.log) absent) in
    rw (some, also) refl)

module _ (digest : Digest) (x y : Book) (alike : AreBooksAlike digest x y) where
  swept_alike : (s : Sweep) → y.base.place ≤ s.opened → may_be_swept digest x s ≡ true → may_be_swept digest y s ≡ true
  swept_alike s since may =
      let three = and_true (nat_le x.base.place s.opened && nat_le s.opened x.state.place && list_all (is_known digest x.state) s.commits) (nat_le (length s.policy.cutoffs) most_patterns) may in
      let two = and_true (nat_le x.base.place s.opened && nat_le s.opened x.state.place) (list_all (is_known digest x.state) s.commits) three.0 in
      let one = and_true (nat_le x.base.place s.opened) (nat_le s.opened x.state.place) two.0 in
      both_true _ _
      (both_true _ _
      (both_true _ _ (le-leb y.base.place s.opened since) (ap (nat_le s.opened) alike.state.same.place ∙ one.1))
      (known_alike s ∙ two.1))
      three.1
    where
      known_alike : (s : Sweep) → list_all (is_known digest y.state) s.commits ≡ list_all (is_known digest x.state) s.commits
      known_alike s = λ i. list_all (is_known digest (record (x.state) { commits = alike.state.same.commits i })) s.commits

  done_alike : (action : Action) → IsSweptFrom y.base.place action → may_be_done digest x action ≡ true → may_be_done digest y action ≡ true
  done_alike (actions.Call command) since may = may
  done_alike (actions.Sweep s) since may = swept_alike s since may

  reaches_alike : (action : Action) → IsSweptFrom y.base.place action → ReachesAlike digest x y action
  reaches_alike (actions.Call command) since = tt
  reaches_alike (actions.Sweep s) since =
      let place : y.state.place ≡ x.state.place = alike.state.same.place in
      let low : y.state.place - s.opened ≤ length (past_of digest y) = omega (arith, since, alike.many) in
      subst (λ (n : ℕ). ArePastsAlike (take (n - s.opened) (past_of digest x)) (take (y.state.place - s.opened) (past_of digest y))) place
      (recent_taken (y.state.place - s.opened) (past_of digest x) (past_of digest y) alike.recent low)

  module _ (e : LogEntry) (legal : IsLegal digest x e) (since : IsSweptFrom y.base.place e.action) where
    brought : AreCalledAlike (replayed_call digest x e) (replayed_call digest y (of_nobody e))
    brought =
        subst (AreCalledAlike (replayed_call digest x e)) (sym (nobody_brings digest y e e.action))
        (action_alike digest x y e e.action alike.state (reaches_alike e.action since))

    nobody_logged : (replayed_call digest y (of_nobody e)).logged ≡ of_nobody e ∷ []
    nobody_logged = brought.logged ∙ legal.logged

    -- an entry that is legal on the first is legal on the second, as of nobody
    pub legal_alike : is_legal digest y (of_nobody e) ≡ true
    unfolding is_legal
    legal_alike =
        let three = and_true (may_be_done digest x e.action && has_its_draft e && draft_is_new x.log e.draft) (is_just digest e (replayed_call digest x e).logged) legal.legal in
        let two = and_true (may_be_done digest x e.action && has_its_draft e) (draft_is_new x.log e.draft) three.0 in
        let one = and_true (may_be_done digest x e.action) (has_its_draft e) two.0 in
        both_true _ _
        (both_true _ _
        (both_true _ _ (done_alike e.action since one.0) one.1)
        (new_alike x y e.draft alike.drafts two.1))
        (is_just_one digest (of_nobody e) (replayed_call digest y (of_nobody e)).logged nobody_logged)

    abbrev next : Book
    next = after_call y (replayed_call digest y (of_nobody e))

    log_is : (replayed_call digest y (of_nobody e)).logged ++ y.log ≡ of_nobody e ∷ y.log
    log_is = ap (λ (l : List LogEntry). l ++ y.log) nobody_logged

    past_is : past_of digest next ≡ y.state ∷ past_of digest y
    unfolding past_of
    past_is = ap (λ (l : List LogEntry). (course digest y.base l).past) log_is ∙ past_more digest y (of_nobody e) alike.other_ends

    next_ends : EndsCourse digest next
    next_ends =
        subst (λ (l : List LogEntry). (course digest y.base l).state ≡ (replayed_call digest y (of_nobody e)).state) (sym log_is) (entry_ends digest y (of_nobody e) alike.other_ends)

    drafts_next : (draft : ℕ) → has_draft draft (e ∷ x.log) ≡ false → has_draft draft next.log ≡ false
    drafts_next draft none =
        ap (has_draft draft) log_is
        ∙ split (nat_eq draft e.draft)
        (λ own. let no : true ≡ false = rw own at none in absurd cc)
        (λ other. let rest : has_draft draft x.log ≡ false = rw other at none in rw other (alike.drafts draft rest))

    -- and they are alike after it
    pub next_alike : AreBooksAlike digest (after_entry digest x e) next
    next_alike =
        let place : (replayed_call digest y (of_nobody e)).state.place ≡ y.state.place + 1 = legal_place digest y (of_nobody e) legal_alike in
        record {
          state = brought.state;
          recent = subst (λ (l : List State). AreRecent l (past_of digest next)) (sym (past_more digest x e alike.ends)) (subst (AreRecent (x.state ∷ past_of digest x)) (sym past_is) (alike.state.same, alike.recent));
          many = omega (arith, place, alike.many, ap length past_is);
          drafts = drafts_next;
          ends = entry_ends digest x e alike.ends;
          other_ends = next_ends;
        }

    -- it leads the second on, where its draft may come
    pub next_leads : (from : Opened) → draft_may_come from e.draft ≡ true → next_from digest from y (of_nobody e) ≡ Some next
    unfolding next_from next_book
    next_leads from comes = rw (comes, legal_alike) refl

-- ---- all of them

-- each is read back from its spelling, as of nobody
abbrev pub AreRead : Digest → List LogEntry → Type 0
AreRead digest [] = Unit {0}
AreRead digest (entry ∷ entries) = (whole (log_entry_code digest) ((log_entry_code digest).spell entry) ≡ Ok (of_nobody entry)) × AreRead digest entries

-- entries that are legal on the first and read back lead the second on to a book
pub legal_leads : (digest : Digest) (from : Opened) (x y : Book) (place : ℕ) (entries : List LogEntry) → AreBooksAlike digest x y → AreLegal digest x entries → AreFrom from entries → AreSweptFrom y.base.place entries → AreRead digest entries
    → (book : Book) × (replayed digest from y place (map (λ entry. (log_entry_code digest).spell entry) entries) ≡ Ok book)
legal_leads digest from x y place [] alike legal comes since read = (y, refl)
legal_leads digest from x y place (e ∷ entries) alike legal comes since read =
    let next : Book = after_call y (replayed_call digest y (of_nobody e)) in
    let first : read_next digest from y (whole (log_entry_code digest) ((log_entry_code digest).spell e)) ≡ Some next =
    ap (read_next digest from y) read.0 ∙ next_leads digest x y alike e legal.0 since.0 from comes.0 in
    let rest = legal_leads digest from (after_entry digest x e) next (place + 1) entries (next_alike digest x y alike e legal.0 since.0) legal.1 comes.1 since.1 read.1 in (
      rest.0,
      ap (λ (o : Option Book). or_at (place + 1) o >>= λ b. replayed digest from b (place + 1) (map (λ entry. (log_entry_code digest).spell entry) entries)) first ∙ rest.1,
    )
