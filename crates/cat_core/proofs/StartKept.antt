-- A legal entry leaves a state from which a log may start, where one may from the state before it.
use Rattle.std.proofs.Common.{◌≡◌, ℕ, List, [], ◌∷◌, Option, Ok, Err, Bool, true, false, ◌&&◌, nat_lt, if◌then◌else◌, refl, ap, ◌∙◌}
use Rattle.std.specs.Option.{option_map_or}
use Rattle.sha2.specs.Sha256.{sha256}
use Rattle.cat_model.specs.declared.command.Command.{Command}
use Rattle.cat_model.specs.declared.command.Command.TheVariants as commands
use Rattle.cat_model.specs.declared.log_entry.Action.{Action}
use Rattle.cat_model.specs.declared.log_entry.Action.TheVariants as actions
use Rattle.cat_model.specs.declared.log_entry.LogEntry.{LogEntry}
use Rattle.cat_model.specs.declared.reference.Kind.{Kind}
use Rattle.cat_model.specs.declared.reference.Kind.TheVariants.{Branch}
use Rattle.cat_model.specs.declared.reference.Reference.{Reference}
use Rattle.cat_model.specs.declared.sweep.Sweep.{Sweep}
use Rattle.cat_model.specs.Book.{Book}
use Rattle.cat_model.specs.Calls.{Called, attempt, stepped}
use Rattle.cat_model.specs.Chain.{Commits}
use Rattle.cat_model.specs.Namespaces.{is_well_formed}
use Rattle.cat_model.specs.Past.{past_of}
use Rattle.cat_model.specs.Refusing.{Outcome, Tested}
use Rattle.cat_model.specs.Same.{same_kind}
use Rattle.cat_model.specs.State.{State}
use Rattle.cat_model.specs.Step.{Turn, opening, step}
use Rattle.cat_model.specs.Sweeps.{step_sweep, sweep_call, swept_by}
use Rattle.cat_model.specs.WellMade.{is_well_made}
use Rattle.cat_frames.specs.Standing.{are_above, has_main, heads_known, heads_shown, is_whole, is_within, maps_pass, may_start, stands_above}
use Rattle.cat_graph.specs.Linked.{AreLinked}
use Rattle.cat_tables.specs.ReferenceLaws.{and_true, both_true}
use Rattle.cat_checks.specs.Histories.{AreLegal, after_entry, book_after}
use Rattle.cat_checks.specs.KeptMaps.{ActionHasMaps, HasItsMaps, HaveMaps}
use Rattle.cat_checks.specs.ReplayedLaws.{replayed_upholds}
use Rattle.cat_checks.specs.Legal.{IsLegal, draft_after, draft_is_new, has_its_draft, is_just, is_legal, may_be_done, replayed_action, replayed_by, replayed_call, turn_of}
use Rattle.cat_checks.specs.Upheld.{HasMain, Upholds}
use Rattle.cat_checks.specs.WithinLaws.{is_within_by, within_is}
use Rattle.cat_checks.specs.WithinSteps.{replayed_within}
use Rattle.cat_state.proofs.Founding.{next_stands, stands_next}
use Rattle.cat_core.proofs.FullPlans.{merge_full, transplant_full}
use Rattle.cat_core.proofs.FullStates.{FullOn, IsFull, assign_full, create_full, delete_full}
use Rattle.cat_core.proofs.FullSteps.{commit_full}
use Rattle.cat_core.proofs.SweptFull.{sweep_full}

-- ---- states that are whole

linked_by : (commits : Commits) → are_above sha256 commits ≡ true → AreLinked commits
linked_by [] above = tt
linked_by (x ∷ older) above =
    let both = and_true (stands_above sha256 older x.0 x.1) (are_above sha256 older) above in
    let stands = stands_next older x.0 x.1 both.0 in
    (stands.0, stands.1, linked_by older both.1)

above_by : (commits : Commits) → AreLinked commits → are_above sha256 commits ≡ true
above_by [] linked = refl
above_by (x ∷ older) linked = both_true _ _ (next_stands older x.0 x.1 linked.0 linked.1) (above_by older linked.2)

pub main_there : (references : List Reference) → HasMain references → has_main references ≡ true
main_there references has =
    ap (λ (found : Option Reference). option_map_or (λ (r : Reference). same_kind r.kind Branch) found false) has.1 ∙ ap (λ (kind : Kind). same_kind kind Branch) has.2

whole_full : (s : State) → is_whole sha256 s ≡ true → IsFull s
unfolding is_whole
whole_full s whole =
    let above = are_above sha256 s.commits in
    let formed = maps_pass is_well_formed s.commits in
    let main = has_main s.references in
    let known = heads_known sha256 s.commits s.references in
    let shown = heads_shown s.commits s.present s.references in
    let four = and_true (above && formed && main && known) shown whole in
    let three = and_true (above && formed && main) known four.0 in
    let two = and_true (above && formed) main three.0 in
    let one = and_true above formed two.0 in
    record { linked = linked_by s.commits one.0; formed = one.1; heads = three.1; held = four.1 }

full_whole : (s : State) → IsFull s → HasMain s.references → is_whole sha256 s ≡ true
unfolding is_whole
full_whole s full main =
    both_true (are_above sha256 s.commits && maps_pass is_well_formed s.commits && has_main s.references && heads_known sha256 s.commits s.references) (heads_shown s.commits s.present s.references)
    (both_true (are_above sha256 s.commits && maps_pass is_well_formed s.commits && has_main s.references) (heads_known sha256 s.commits s.references)
    (both_true (are_above sha256 s.commits && maps_pass is_well_formed s.commits) (has_main s.references)
    (both_true (are_above sha256 s.commits) (maps_pass is_well_formed s.commits) (above_by s.commits full.linked) full.formed)
    (main_there s.references main))
    full.heads)
    full.held

-- ---- calls

step_full : (a : State) (command : Command) (turn : Turn) → IsFull a → is_well_made sha256 command ≡ true → HasItsMaps sha256 a command turn → FullOn (step sha256 a command turn)
unfolding is_well_made
step_full a (commands.Create c) turn full made have = create_full a c full
step_full a (commands.Assign c) turn full made have = assign_full a c full
step_full a (commands.Delete c) turn full made have = delete_full a c full
step_full a (commands.Commit c) turn full made have = commit_full a c turn.draft turn.moment full made have
step_full a (commands.Merge m) turn full made have = merge_full a m turn.opened turn.moment full have
step_full a (commands.Transplant t) turn full made have = transplant_full a t turn.opened turn.moment full have

called_choice : (test : Bool) (x y : Called) → IsFull x.state → IsFull y.state → IsFull (if test then x else y).state
called_choice true x y p q = p
called_choice false x y p q = q

stepped_full : (a : State) (draft : ℕ) (command : Command) (turn : Turn) (outcome : Outcome) → IsFull a → FullOn outcome → IsFull (stepped sha256 0 a draft command turn outcome).state
stepped_full a draft command turn (Err why) full on = full
stepped_full a draft command turn (Ok (after, reply)) full on = called_choice (nat_lt a.place after.place) _ _ on full

tested_full : (book : Book) (entry : LogEntry) (command : Command) (tested : Tested) → IsFull book.state → is_well_made sha256 command ≡ true → HasItsMaps sha256 book.state command (turn_of book entry) → IsFull (replayed_by sha256 book entry command tested).state
tested_full book entry command (Err why) full made have = full
tested_full book entry command (Ok u) full made have =
    stepped_full book.state (draft_after book entry) command (turn_of book entry) (step sha256 book.state command (turn_of book entry)) full (step_full book.state command (turn_of book entry) full made have)

swept_full : (a : State) (draft moment : ℕ) (s : Sweep) (outcome : Outcome) → IsFull a → FullOn outcome → IsFull (swept_by 0 a draft moment s outcome).state
swept_full a draft moment s (Err why) full on = full
swept_full a draft moment s (Ok (after, reply)) full on = on

action_full : (book : Book) (entry : LogEntry) (action : Action) → IsFull book.state → may_be_done sha256 book action ≡ true → ActionHasMaps sha256 book entry action → IsFull (replayed_action sha256 book entry action).state
unfolding attempt sweep_call
action_full book entry (actions.Call command) full may have = tested_full book entry command (opening sha256 book.state command) full may have
action_full book entry (actions.Sweep s) full may have =
    swept_full book.state (draft_after book entry) entry.moment s (step_sweep book.state (past_of sha256 book) s) full (sweep_full book.state (past_of sha256 book) s full)

may_be_done_by : (book : Book) (entry : LogEntry) → is_legal sha256 book entry ≡ true → may_be_done sha256 book entry.action ≡ true
unfolding is_legal
may_be_done_by book entry legal =
    let done = may_be_done sha256 book entry.action in
    let drafted = has_its_draft entry in
    let new = draft_is_new book.log entry.draft in
    let three = and_true (done && drafted && new) (is_just sha256 entry (replayed_call sha256 book entry).logged) legal in
    (and_true done drafted (and_true (done && drafted) new three.0).0).0

-- ---- entries

-- a legal entry keeps that a log may start, where commits of the bytes that it makes have the maps that it makes
pub legal_start : (book : Book) (entry : LogEntry) → IsLegal sha256 book entry → Upholds sha256 book.state → ActionHasMaps sha256 book entry entry.action → may_start sha256 book.state ≡ true → may_start sha256 (after_entry sha256 book entry).state ≡ true
legal_start book entry legal upheld have may =
    let both = and_true (is_whole sha256 book.state) (is_within book.state) may in
    let after : State = (replayed_call sha256 book entry).state in
    let full : IsFull after = action_full book entry entry.action (whole_full book.state both.0) (may_be_done_by book entry legal.legal) have in
    both_true (is_whole sha256 after) (is_within after)
    (full_whole after full (replayed_upholds sha256 book entry upheld).main)
    (is_within_by after (replayed_within sha256 book entry (within_is book.state both.1) have))

-- so does a legal log
pub log_start : (book : Book) (entries : List LogEntry) → AreLegal sha256 book entries → Upholds sha256 book.state → HaveMaps sha256 book entries → may_start sha256 book.state ≡ true → may_start sha256 (book_after sha256 book entries).state ≡ true
log_start book [] legal upheld have may = may
log_start book (e ∷ entries) legal upheld have may =
    log_start (after_entry sha256 book e) entries legal.1 (replayed_upholds sha256 book e upheld) have.1 (legal_start book e legal.0 upheld have.0 may)
