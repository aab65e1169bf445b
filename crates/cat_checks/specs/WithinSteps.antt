-- Commits, merges, transplants and sweeps pass no limit of a state that passes none, nor do logs of them.
use Rattle.std.proofs.Common.{◌≡◌, ◌≤◌, ◌<◌, ◌⊎◌, inl, inr, ⊎_elim, ℕ, suc, ◌+◌, List, [], ◌∷◌, length, map, filter_map, Option, None, Result, Ok, Err, Bool, true, false, not, ◌||◌, nat_lt, if◌then◌else◌, refl, sym, ap, subst, ◌∙◌, arith, length-append}
use Rattle.std.specs.List.{list_any}
use Rattle.std.specs.Cmp.Lexicographic.{bytes_decides}
use Rattle.std.proofs.lemmas.Bool.{le-leb}
use Rattle.cat_codes.specs.ListLaws.{both_true}
use Rattle.cat_names.specs.declared.hash.Hash.{Hash}
use Rattle.cat_model.specs.declared.command.Command.{Command}
use Rattle.cat_model.specs.declared.command.Command.TheVariants as commands
use Rattle.cat_model.specs.declared.command.CommitRequest.{CommitRequest}
use Rattle.cat_model.specs.declared.command.Merge.{Merge}
use Rattle.cat_model.specs.declared.command.Transplant.{Transplant}
use Rattle.cat_model.specs.declared.commit.Commit.{Commit}
use Rattle.cat_model.specs.declared.conflict.Conflict.{Conflict}
use Rattle.cat_model.specs.declared.content.Content.{Content}
use Rattle.cat_model.specs.declared.limits.Quantity.TheVariants as quantities
use Rattle.cat_model.specs.declared.log_entry.Action.{Action}
use Rattle.cat_model.specs.declared.log_entry.Action.TheVariants as actions
use Rattle.cat_model.specs.declared.log_entry.LogEntry.{LogEntry}
use Rattle.cat_model.specs.declared.op.Op.{Op}
use Rattle.cat_model.specs.declared.reference.Reference.{Reference}
use Rattle.cat_model.specs.declared.refusal.Refusal.{Refusal}
use Rattle.cat_model.specs.declared.refusal.Refusal.TheVariants.{Conflicts}
use Rattle.cat_model.specs.declared.reply.Reply.{Reply}
use Rattle.cat_model.specs.declared.sweep.Sweep.{Sweep}
use Rattle.cat_model.specs.Book.{Book}
use Rattle.cat_model.specs.Calls.{Called, attempt, stepped}
use Rattle.cat_model.specs.Chain.{Commits, commit_of, entries}
use Rattle.cat_model.specs.Commits.{commit_opening, given_ops, needs_commit_room, or_conflicts, puts, request_commit, step_commit}
use Rattle.cat_model.specs.Formats.{commit_code}
use Rattle.cat_model.specs.Judge.{changes_of, judge}
use Rattle.cat_model.specs.Maps.{Map, after_changes}
use Rattle.cat_model.specs.Merges.{Planned, Plans, all_conflicts, all_set, applied, commits_made, entries_set, has_changes, merge_opening, merge_plans, needs_planned_room, needs_set_contents, planned_commit, step_applied, step_merge, step_planned, step_unless_conflicts, with_planned}
use Rattle.cat_model.specs.Moves.{needs_log}
use Rattle.cat_model.specs.Past.{past_of}
use Rattle.cat_model.specs.Records.{with_commit, with_contents}
use Rattle.cat_model.specs.Refusing.{◌>>=◌, Outcome, Tested, needs_at_most, needs_room}
use Rattle.cat_model.specs.Same.{same_hash}
use Rattle.cat_model.specs.State.{Digest, State, commit_hash, moved_reference, no_ancestor}
use Rattle.cat_model.specs.Step.{Turn, opening, step}
use Rattle.cat_model.specs.Sweeps.{is_saved, kept_contents, needs_sweep_room, names_in, saved, since, step_sweep, sweep_call, swept_by}
use Rattle.cat_model.specs.Transplants.{step_transplant, transplant_opening, transplant_plans}
use Rattle.cat_frames.specs.Standing.{knows, maps_pass}
use Rattle.cat_checks.specs.Histories.{after_entry, book_after}
use Rattle.cat_checks.specs.KeptMaps.{ActionHasMaps, HasItsMaps, HaveMaps, HaveTheirMaps}
use Rattle.cat_checks.specs.Legal.{draft_after, replayed_action, replayed_by, replayed_call, turn_of}
use Rattle.cat_checks.specs.SizeLaws.{changes_grown, contents_of_puts, made_set_fewer, no_more_left, sets_of_puts}
use Rattle.cat_checks.specs.WithinLaws.{ContentsOn, IsThere, IsWithin, WithinOn, assign_within, at_most, bind, commit_to, contents_on, create_within, delete_within, first_of, has_few, moved_low, next_within, room}

-- ---- the map at a new commit

entries_new : (hash : Hash) (c : Commit) (older : Commits) → entries ((hash, c) ∷ older) hash ≡ after_changes c.ops (entries older c.parent)
unfolding entries
entries_new hash c older = let own : same_hash hash hash ≡ true = (bytes_decides hash.bytes hash.bytes).1 refl in rw own refl

-- a commit was there, or was added
goes_to : (digest : Digest) (x y : State) (c : Commit) → with_commit digest x c ≡ Ok y → (y ≡ x) ⊎ (y ≡ record x { commits = (commit_hash digest c, c) ∷ x.commits })
goes_to digest x y c made =
    let hash : Hash = commit_hash digest c in
    ⊎_elim (λ (stays : (y ≡ x) × (knows digest x.commits hash ≡ true) × IsThere x.commits hash ((commit_code).spell c)). inl stays.0)
    (λ (new : (commit_of x.commits hash ≡ None) × (same_hash (no_ancestor digest) hash ≡ false) × (y ≡ record x { commits = (hash, c) ∷ x.commits })). inr new.2)
    (commit_to digest x y c made)

-- ---- a commit of a request

-- what its tests of room passed
record HasRoom (a : State) (head : Map) (count : ℕ) : Type 0 where
  log : a.place < a.limits.log
  commits : length a.commits < a.limits.commits
  keys : length head + count ≤ a.limits.keys
  contents : length a.present + count ≤ a.limits.contents

commit_room : (a : State) (head : Map) (count : ℕ) (u : Unit {0}) → needs_commit_room a head count ≡ Ok u → HasRoom a head count
unfolding needs_commit_room
commit_room a head count u is =
    let one = first_of (needs_room a.place a.limits.log quantities.Log) _ u is in
    let two = first_of (needs_room (length a.commits) a.limits.commits quantities.Commits) _ u one.2 in
    let three = first_of (needs_at_most (length head + count) a.limits.keys quantities.Keys) _ u two.2 in
    record {
      log = room a.place a.limits.log _ one.0 one.1;
      commits = room (length a.commits) a.limits.commits _ two.0 two.1;
      keys = at_most (length head + count) a.limits.keys _ three.0 three.1;
      contents = at_most (length a.present + count) a.limits.contents _ u three.2;
    }

module _ (digest : Digest) (a : State) (w : IsWithin a) where
  -- with a commit that was there, or was added, and a reference moved
  committed_within : (present : List (Hash × Content)) (hash : Hash) (c : Commit) (moved : Reference) (more : State) → a.place < a.limits.log → length a.commits < a.limits.commits
      → length (after_changes c.ops (entries a.commits c.parent)) ≤ a.limits.keys → length present ≤ a.limits.contents
      → (more ≡ record a { present = present }) ⊎ (more ≡ record a { commits = (hash, c) ∷ a.commits; present = present })
      → IsWithin (record more { place = more.place + 1; references = moved_reference more.references moved })
  committed_within present hash c moved more log many keys contents (inl same) =
      subst (λ (s : State). IsWithin (record s { place = s.place + 1; references = moved_reference s.references moved })) (sym same)
      (next_within a (moved_reference a.references moved) a.commits present log (moved_low a moved w) w.commits w.keys contents)
  committed_within present hash c moved more log many keys contents (inr new) =
      subst (λ (s : State). IsWithin (record s { place = s.place + 1; references = moved_reference s.references moved })) (sym new)
      (next_within a (moved_reference a.references moved) ((hash, c) ∷ a.commits) present log (moved_low a moved w) (omega (arith, many)) (both_true _ _ (le-leb _ _ keys) w.keys) contents)

  pub commit_within : (c : CommitRequest) (draft moment : ℕ) → WithinOn (step_commit digest a c draft moment)
  unfolding step_commit given_ops request_commit
  commit_within c draft moment =
      bind (commit_opening digest a c) _ (λ (branch, expected) e.
      let contents : List Content = filter_map (λ (x : Op × Option Content). x.1) (given_ops digest draft c) in
      let ops : List Op = map (λ (x : Op × Option Content). x.0) (given_ops digest draft c) in
      let head : Map = entries a.commits branch.head in
      let commit : Commit = request_commit a branch.head moment c ops in
      bind (needs_commit_room a head (puts ops)) _ (λ u tested.
      bind (or_conflicts (judge (entries a.commits expected) head ops)) _ (λ v e.
      bind (with_contents digest a contents) _ (λ held added.
      bind (with_commit digest held commit) _ (λ more made.
      let has = commit_room a head (puts ops) u tested in
      let few : length contents ≤ puts ops = contents_of_puts digest draft 0 c.ops c.contents in
      let grown : length (after_changes (changes_of ops) head) ≤ length head + length (entries_set (changes_of ops)) = changes_grown (changes_of ops) head in
      let keys : length (after_changes (changes_of ops) head) ≤ a.limits.keys = omega (arith, grown, sets_of_puts ops, has.keys) in
      let on : ContentsOn a (length contents) (Ok held) = subst (ContentsOn a (length contents)) added (contents_on digest contents a) in
      let low : length on.0 ≤ length a.present + length contents = on.2 in
      let room_left : length on.0 ≤ a.limits.contents = omega (arith, low, few, has.contents) in
      let held_to : (more ≡ held) ⊎ (more ≡ record held { commits = (commit_hash digest commit, commit) ∷ held.commits }) = goes_to digest held more commit made in
      let leads : (more ≡ record a { present = on.0 }) ⊎ (more ≡ record a { commits = (commit_hash digest commit, commit) ∷ a.commits; present = on.0 }) =
      subst (λ (s : State). (more ≡ s) ⊎ (more ≡ record s { commits = (commit_hash digest commit, commit) ∷ s.commits })) on.1 held_to in
      committed_within on.0 (commit_hash digest commit) commit (record branch { head = commit_hash digest commit }) more has.log has.commits keys room_left leads)))))

-- ---- plans

-- more commits, at most so many, each with few keys
abbrev MoreOn : State → ℕ → Result (Hash × State) Refusal → Type 0
MoreOn x n (Ok y) = (commits : Commits) × (y.1 ≡ record x { commits = commits }) × (length commits ≤ length x.commits + n) × (maps_pass (has_few x.limits.keys) commits ≡ true)
MoreOn x n (Err why) = Unit {0}

more_bind : (x : State) (n : ℕ) (r : Result State Refusal) (f : State → Result (Hash × State) Refusal) → ((y : State) → r ≡ Ok y → MoreOn x n (f y)) → MoreOn x n (r >>= f)
more_bind x n (Ok y) f h = h y refl
more_bind x n (Err why) f h = tt

more_on : (x : State) (commits : Commits) (n : ℕ) (r : Result (Hash × State) Refusal) → length commits ≤ suc (length x.commits) → MoreOn (record x { commits = commits }) n r → MoreOn x (suc n) r
more_on x commits n (Ok y) low on = let high : length on.0 ≤ length commits + n = on.2 in (on.0, on.1, omega (arith, low, high), on.3)
more_on x commits n (Err why) low on = tt

-- one commit of a plan
module _ (digest : Digest) (moment : ℕ) (x : State) (head : Hash) (p : Planned) (few : maps_pass (has_few x.limits.keys) x.commits ≡ true) (more : ℕ) (low : length (entries x.commits head) + (length (entries_set p.plan.ops) + more) ≤ x.limits.keys) where
  abbrev its_commit : Commit
  its_commit = planned_commit x.commits head moment p

  abbrev its_hash : Hash
  its_hash = commit_hash digest its_commit

  grown_by : length (after_changes p.plan.ops (entries x.commits head)) ≤ length (entries x.commits head) + length (entries_set p.plan.ops)
  grown_by = changes_grown p.plan.ops (entries x.commits head)

  few_new : maps_pass (has_few x.limits.keys) ((its_hash, its_commit) ∷ x.commits) ≡ true
  few_new = both_true _ _ (le-leb _ _ (omega (arith, grown_by, low))) few

  low_new : length (entries ((its_hash, its_commit) ∷ x.commits) its_hash) + more ≤ x.limits.keys
  low_new = omega (arith, ap length (entries_new its_hash its_commit x.commits), grown_by, low)

  low_kept : entries x.commits its_hash ≡ after_changes p.plan.ops (entries x.commits head) → length (entries x.commits its_hash) + more ≤ x.limits.keys
  low_kept same = omega (arith, ap length same, grown_by, low)

plans_more : (digest : Digest) (moment : ℕ) (planned : List Planned) (x : State) (head : Hash) → maps_pass (has_few x.limits.keys) x.commits ≡ true → length (entries x.commits head) + length (all_set planned) ≤ x.limits.keys → HaveTheirMaps digest moment x head planned
    → MoreOn x (length planned) (with_planned digest moment x head planned)
plans_more digest moment [] x head few low have = (x.commits, refl, omega arith, few)
plans_more digest moment (p ∷ planned) x head few low have =
    let commit : Commit = planned_commit x.commits head moment p in
    let hash : Hash = commit_hash digest commit in
    let more : ℕ = length (all_set planned) in
    let split_low : length (entries x.commits head) + (length (entries_set p.plan.ops) + length (all_set planned)) ≤ x.limits.keys = omega (arith, low, length-append (entries_set p.plan.ops) (all_set planned)) in
    more_bind x (suc (length planned)) (with_commit digest x commit) _ (λ y made.
    ⊎_elim
    (λ (stays : (y ≡ x) × (knows digest x.commits hash ≡ true) × IsThere x.commits hash ((commit_code).spell commit)).
    let there : IsThere x.commits hash ((commit_code).spell commit) = stays.2 in
    let again : with_commit digest x commit ≡ Ok x = made ∙ ap (λ (s : State). Ok s) stays.0 in
    let kept = low_kept digest moment x head p few more split_low (have.0 there.0 there.1 there.2) in
    subst (λ (s : State). MoreOn x (suc (length planned)) (with_planned digest moment s hash planned)) (sym stays.0)
    (more_on x x.commits (length planned) (with_planned digest moment x hash planned) (omega arith) (plans_more digest moment planned x hash few kept (have.1 x again))))
    (λ (new : (commit_of x.commits hash ≡ None) × (same_hash (no_ancestor digest) hash ≡ false) × (y ≡ record x { commits = (hash, commit) ∷ x.commits })).
    let next : State = record x { commits = (hash, commit) ∷ x.commits } in
    let goes : with_commit digest x commit ≡ Ok next = made ∙ ap (λ (s : State). Ok s) new.2 in
    subst (λ (s : State). MoreOn x (suc (length planned)) (with_planned digest moment s hash planned)) (sym new.2)
    (more_on x ((hash, commit) ∷ x.commits) (length planned) (with_planned digest moment next hash planned) (omega arith)
    (plans_more digest moment planned next hash (few_new digest moment x head p few more split_low) (low_new digest moment x head p few more split_low) (have.1 next goes))))
    (commit_to digest x y commit made))

-- what the tests of room of plans passed
record HasPlannedRoom (a : State) (head : Map) (planned : List Planned) : Type 0 where
  log : a.place < a.limits.log
  commits : length a.commits + length (commits_made planned) ≤ a.limits.commits
  keys : length head + length (all_set planned) ≤ a.limits.keys

planned_room : (a : State) (head : Map) (planned : List Planned) (u : Unit {0}) → needs_planned_room a head planned ≡ Ok u → HasPlannedRoom a head planned
unfolding needs_planned_room
planned_room a head planned u is =
    let one = first_of (needs_log a) _ u is in
    let two = first_of (needs_at_most (length a.commits + length (commits_made planned)) a.limits.commits quantities.Commits) _ u one.2 in
    record {
      log = room a.place a.limits.log _ one.0 one.1;
      commits = at_most (length a.commits + length (commits_made planned)) a.limits.commits _ two.0 two.1;
      keys = at_most (length head + length (all_set planned)) a.limits.keys _ u two.2;
    }

within_choice : (test : Bool) (x y : State × Reply) → IsWithin x.0 → IsWithin y.0 → IsWithin (if test then x else y).0
within_choice true x y p q = p
within_choice false x y p q = q

outcome_choice : (test : Bool) (x : State × Reply) (why : Refusal) → IsWithin x.0 → WithinOn (if test then Ok x else Err why)
outcome_choice true x why p = p
outcome_choice false x why p = tt

module _ (digest : Digest) (a : State) (w : IsWithin a) where
  applied_within : (plans : Plans) (made : Hash × State) → HasPlannedRoom a (entries a.commits plans.branch.head) plans.planned → MoreOn a (length (commits_made plans.planned)) (Ok made) → IsWithin (applied a plans made).0
  applied_within plans made has on =
      let many : length on.0 ≤ length a.commits + length (commits_made plans.planned) = on.2 in
      let moved : Reference = record (plans.branch) { head = made.0 } in
      within_choice (plans.asked.dry_run || not (list_any (λ one. has_changes one.plan.ops) plans.planned)) _ _ w
      (subst (λ (s : State). IsWithin (record s { place = s.place + 1; references = moved_reference s.references moved })) (sym on.1)
      (next_within a (moved_reference a.references moved) on.0 a.present has.log (moved_low a moved w) (omega (arith, many, has.commits)) on.3 w.contents))

  apply_within : (plans : Plans) → HasPlannedRoom a (entries a.commits plans.branch.head) plans.planned → HaveTheirMaps digest plans.moment a plans.branch.head (commits_made plans.planned) → WithinOn (step_applied digest a plans)
  unfolding step_applied
  apply_within plans has have =
      bind (needs_set_contents a plans.planned plans.opened) _ (λ u e.
      bind (with_planned digest plans.moment a plans.branch.head (commits_made plans.planned)) _ (λ made is.
      let low : length (entries a.commits plans.branch.head) + length (all_set (commits_made plans.planned)) ≤ a.limits.keys = omega (arith, has.keys, made_set_fewer plans.planned) in
      applied_within plans made has (subst (MoreOn a (length (commits_made plans.planned))) is (plans_more digest plans.moment (commits_made plans.planned) a plans.branch.head w.keys low have))))

  unless_within : (plans : Plans) (conflicts : List Conflict) → HasPlannedRoom a (entries a.commits plans.branch.head) plans.planned → HaveTheirMaps digest plans.moment a plans.branch.head (commits_made plans.planned) → WithinOn (step_unless_conflicts digest a plans conflicts)
  unless_within plans [] has have = apply_within plans has have
  unless_within plans (x ∷ conflicts) has have = outcome_choice plans.asked.conflicts_as_result _ (Conflicts (x ∷ conflicts)) w

  plans_within : (plans : Plans) → HaveTheirMaps digest plans.moment a plans.branch.head (commits_made plans.planned) → WithinOn (step_planned digest a plans)
  plans_within plans have =
      bind (needs_planned_room a (entries a.commits plans.branch.head) plans.planned) _ (λ u is.
      unless_within plans (all_conflicts plans.planned) (planned_room a (entries a.commits plans.branch.head) plans.planned u is) have)

-- ---- calls

merge_within : (digest : Digest) (a : State) → IsWithin a → (m : Merge) (turn : Turn) → HasItsMaps digest a (commands.Merge m) turn → WithinOn (step_merge digest a m turn.opened turn.moment)
unfolding step_merge
merge_within digest a w m turn have = bind (merge_opening digest a m) _ (λ opened is. plans_within digest a w (merge_plans a m opened.0 opened.1 turn.opened turn.moment) (have opened is))

transplant_within : (digest : Digest) (a : State) → IsWithin a → (t : Transplant) (turn : Turn) → HasItsMaps digest a (commands.Transplant t) turn → WithinOn (step_transplant digest a t turn.opened turn.moment)
unfolding step_transplant
transplant_within digest a w t turn have = bind (transplant_opening digest a t) _ (λ branch is. plans_within digest a w (transplant_plans a t branch turn.opened turn.moment) (have branch is))

-- a step passes no limit
pub step_within : (digest : Digest) (a : State) (command : Command) (turn : Turn) → IsWithin a → HasItsMaps digest a command turn → WithinOn (step digest a command turn)
step_within digest a (commands.Create c) turn w have = create_within digest a c w
step_within digest a (commands.Assign c) turn w have = assign_within digest a c w
step_within digest a (commands.Delete c) turn w have = delete_within a c w
step_within digest a (commands.Commit c) turn w have = commit_within digest a w c turn.draft turn.moment
step_within digest a (commands.Merge m) turn w have = merge_within digest a w m turn have
step_within digest a (commands.Transplant t) turn w have = transplant_within digest a w t turn have

-- nor does a sweep
pub sweep_within : (a : State) (past : List State) (s : Sweep) → IsWithin a → WithinOn (step_sweep a past s)
unfolding step_sweep needs_sweep_room kept_contents
sweep_within a past s w =
    bind (needs_sweep_room a (length s.commits + length s.contents)) _ (λ u is.
    let one = first_of (needs_log a) _ u is in
    let hashes : List Hash = saved (since s.opened a past) a.commits s.policy (names_in s) in
    next_within a a.references a.commits (kept_contents hashes a.present) (room a.place a.limits.log _ one.0 one.1) w.references w.commits w.keys (omega (arith, w.contents, no_more_left (is_saved hashes) a.present)))

-- ---- entries

called_choice : (test : Bool) (x y : Called) → IsWithin x.state → IsWithin y.state → IsWithin (if test then x else y).state
called_choice true x y p q = p
called_choice false x y p q = q

stepped_within : (digest : Digest) (a : State) (draft : ℕ) (command : Command) (turn : Turn) (outcome : Outcome) → IsWithin a → WithinOn outcome → IsWithin (stepped digest 0 a draft command turn outcome).state
stepped_within digest a draft command turn (Err why) w on = w
stepped_within digest a draft command turn (Ok (after, reply)) w on = called_choice (nat_lt a.place after.place) _ _ on w

tested_within : (digest : Digest) (book : Book) (entry : LogEntry) (command : Command) (tested : Tested) → IsWithin book.state → HasItsMaps digest book.state command (turn_of book entry) → IsWithin (replayed_by digest book entry command tested).state
tested_within digest book entry command (Err why) w have = w
tested_within digest book entry command (Ok u) w have =
    stepped_within digest book.state (draft_after book entry) command (turn_of book entry) (step digest book.state command (turn_of book entry)) w (step_within digest book.state command (turn_of book entry) w have)

swept_within : (a : State) (draft moment : ℕ) (s : Sweep) (outcome : Outcome) → IsWithin a → WithinOn outcome → IsWithin (swept_by 0 a draft moment s outcome).state
swept_within a draft moment s (Err why) w on = w
swept_within a draft moment s (Ok (after, reply)) w on = on

action_within : (digest : Digest) (book : Book) (entry : LogEntry) (action : Action) → IsWithin book.state → ActionHasMaps digest book entry action → IsWithin (replayed_action digest book entry action).state
unfolding attempt sweep_call
action_within digest book entry (actions.Call command) w have = tested_within digest book entry command (opening digest book.state command) w have
action_within digest book entry (actions.Sweep s) w have =
    swept_within book.state (draft_after book entry) entry.moment s (step_sweep book.state (past_of digest book) s) w (sweep_within book.state (past_of digest book) s w)

-- what the action of an entry brings passes no limit, whether or not the entry is legal
pub replayed_within : (digest : Digest) (book : Book) (entry : LogEntry) → IsWithin book.state → ActionHasMaps digest book entry entry.action → IsWithin (replayed_call digest book entry).state
replayed_within digest book entry w have = action_within digest book entry entry.action w have

-- a log passes no limit
pub books_within : (digest : Digest) (book : Book) (entries : List LogEntry) → IsWithin book.state → HaveMaps digest book entries → IsWithin (book_after digest book entries).state
books_within digest book [] w have = w
books_within digest book (e ∷ entries) w have = books_within digest (after_entry digest book e) entries (replayed_within digest book e w have.0) have.1
