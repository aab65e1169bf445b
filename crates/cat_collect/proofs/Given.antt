-- What was given of a sweep stays what was given, as the log goes on and drafts name more.
use Rattle.std.proofs.Common.{◌≡◌, ℕ, ◌+◌, ◌-◌, List, [], ◌∷◌, ◌++◌, length, length-append, drop, map, reverse, true, ◌||◌, refl, sym, ap, ◌∙◌, subst, arith}
use Rattle.std.specs.List.{flat_map, list_all}
use Rattle.std.proofs.Math.Seq.{drop-append_seam}
use Rattle.std.proofs.lemmas.Bool.{and_parts}
use Rattle.std.proofs.lemmas.List.{length-reverse, reverse-append, reverse-reverse}
use Rattle.sha2.specs.Sha256.{sha256}
use Rattle.cat_checks.specs.HistoryLaws.{course_is}
use Rattle.cat_core.specs.Stored.{AreKnown, Stored, log_of}
use Rattle.cat_core.specs.Sweeps.{Completes, course_given, given_by, kept_by}
use Rattle.cat_decisions.specs.AddedLaws.{entries_later}
use Rattle.cat_desk.specs.Log.{Follows}
use Rattle.cat_desk.specs.Pass.{DeskId, seen}
use Rattle.cat_desk.specs.declared.pass.Pass.{Pass}
use Rattle.cat_graph.specs.Linked as linked
use Rattle.cat_graph.specs.Linked.{AreLinked}
use Rattle.cat_mark.specs.declared.roots.Roots.{Roots}
use Rattle.cat_mark.specs.Marks.{AddsAll, is_marked, live_of}
use Rattle.cat_model.specs.declared.entry.Entry.{Entry}
use Rattle.cat_model.specs.declared.log_entry.LogEntry.{LogEntry}
use Rattle.cat_model.specs.Base.{is_among}
use Rattle.cat_model.specs.Chain.{Commits}
use Rattle.cat_model.specs.Cutoffs.{visible}
use Rattle.cat_model.specs.Drafts.{Awaits, Names, OpenSweep}
use Rattle.cat_model.specs.Later.{Adds}
use Rattle.cat_model.specs.Past.{course, past_of}
use Rattle.cat_model.specs.State.{State}
use Rattle.cat_model.specs.Sweeps.{kept_by_names, live_since, saved, since}
use Rattle.cat_names.specs.Fields.{Key}
use Rattle.cat_names.specs.declared.hash.Hash.{Hash}
use Rattle.cat_work.specs.Passes.{book_of, state_of}
use Rattle.cat_work.specs.TurnLaws.{goes_later}

-- ---- names

all_visible : (older newer : Commits) (hashes : List Hash) → AreLinked newer → Adds older newer → list_all (linked.is_known older) hashes ≡ true → flat_map (visible newer) hashes ≡ flat_map (visible older) hashes
all_visible older newer [] are adds known = refl
all_visible older newer (hash ∷ hashes) are adds known =
    let both = and_parts (linked.is_known older hash) (list_all (linked.is_known older) hashes) known in
    (λ i. map (λ (x : Key × Entry). x.1.hash) (entries_later older newer hash are adds both.0 i) ++ all_visible older newer hashes are adds both.1 i)

-- what names keep stays, whatever commits are added
names_stay : (older newer : State) (names : Names) → AreLinked newer.commits → Adds older.commits newer.commits → AreKnown older names.commits → kept_by_names newer.commits names ≡ kept_by_names older.commits names
names_stay older newer names are adds known = ap (λ (l : List Hash). l ++ names.contents) (all_visible older.commits newer.commits names.commits are adds known)

-- ---- entries

module _ (desk : DeskId) (p : Pass) (log : List LogEntry) (rest : List LogEntry) (more : log ≡ seen p ++ rest) where
  turned : reverse log ≡ reverse rest ++ reverse (seen p)
  turned = ap (λ (l : List LogEntry). reverse l) more ∙ reverse-append (seen p) rest

  -- behind those that were seen
  pub older : (n : ℕ) → n ≡ length (seen p) → drop (length (reverse log) - n) (reverse log) ≡ reverse (seen p)
  older n is =
      let whole : length (reverse log) ≡ length (reverse rest) + length (reverse (seen p)) = ap (λ (l : List LogEntry). length l) turned ∙ length-append (reverse rest) (reverse (seen p)) in
      let front : length (reverse log) - n ≡ length (reverse rest) = (let same = length-reverse (seen p) in omega (arith, whole, is, same)) in
      ap (λ (k : ℕ). drop k (reverse log)) front ∙ ap (λ (l : List LogEntry). drop (length (reverse rest)) l) turned ∙ drop-append_seam (reverse rest) (reverse (seen p))

-- the states that a pass has seen
course_seen : (desk : DeskId) (p : Pass) → course sha256 desk.opened.state (reverse (seen p)) ≡ record { state = (book_of desk p).state; past = past_of sha256 (book_of desk p) }
unfolding past_of
course_seen desk p = λ i. record { state = course_is desk.opened (seen p) i; past = (course sha256 desk.opened.state (reverse (seen p))).past }

-- ---- what was given

pub given_is : {K : Type 0} (desk : DeskId) (n : ℕ) (p : Pass) (s : Stored K) (a b : OpenSweep) → Awaits a b → Follows n (seen p) (log_of s) → state_of desk (log_of s) ≡ s.book.state → s.book.base ≡ desk.opened.state → AreLinked s.book.state.commits
    → a.drained ≡ length (seen p) → a.given ≡ a.names → AreKnown (state_of desk (seen p)) a.names.commits → given_by s.book b ≡ kept_by (book_of desk p) a
unfolding saved
given_is {K} desk n p s a b awaits follows led base are drained given known =
    let same : b ≡ record a { names = b.names } = awaits.same in
    let place : b.opening.place ≡ a.opening.place = ap (λ (o : OpenSweep). o.opening.place) same in
    let log : s.book.log ≡ reverse (log_of s) = sym (reverse-reverse s.book.log) in
    let there : b.drained ≡ length (seen p) = ap (λ (o : OpenSweep). o.drained) same ∙ drained in
    let entries : drop (length s.book.log - b.drained) s.book.log ≡ reverse (seen p) = ap (λ (l : List LogEntry). drop (length l - b.drained) l) log ∙ older desk p (log_of s) follows.0 follows.1 b.drained there in
    let states : course_given s.book b ≡ record { state = (book_of desk p).state; past = past_of sha256 (book_of desk p) } = (λ i. course sha256 (base i) (entries i)) ∙ course_seen desk p in
    let later : Adds (state_of desk (seen p)).commits s.book.state.commits = subst (λ (x : State). Adds (state_of desk (seen p)).commits x.commits) led (goes_later desk n (seen p) (log_of s) follows).commits in
    let names : kept_by_names s.book.state.commits b.given ≡ kept_by_names (state_of desk (seen p)).commits a.names =
    ap (λ (x : Names). kept_by_names s.book.state.commits x) (ap (λ (o : OpenSweep). o.given) same ∙ given) ∙ names_stay (state_of desk (seen p)) s.book.state a.names are later known in
    λ i. live_since (since (place i) (states i).state (states i).past) (ap (λ (o : OpenSweep). o.policy) same i) ++ names i

-- ---- what is marked

-- where the marks are what was given, and roots complete it, all is marked
pub all_marked : (commits view : Commits) (given kept marks more : List Hash) (roots : Roots) → view ≡ commits → ((hash : Hash) → is_marked marks hash ≡ is_among given hash) → AddsAll marks more (live_of view roots) → Completes commits given roots kept → (hash : Hash) → is_marked more hash ≡ is_among kept hash
all_marked commits view given kept marks more roots same marked adds completes hash =
    adds hash ∙ (λ i. marked hash i || is_among (live_of (same i) roots) hash) ∙ sym (completes hash)
