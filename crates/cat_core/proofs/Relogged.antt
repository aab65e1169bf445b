-- What the action of an entry brings has a spelling.
use Rattle.std.proofs.Common.{◌≡◌, ℕ, List, [], ◌∷◌, Ok, Err, Bool, true, false, not, nat_eq, nat_lt, is_some, if◌then◌else◌, refl, sym, subst}
use Rattle.std.proofs.lemmas.Map.Views.{exact_unsigned_eq}
use Rattle.std.specs.List.{AllByRecursion}
use Rattle.sha2.specs.Sha256.{sha256}
use Rattle.cat_checks.specs.LeadingLaws.{TellsHead, step_tells}
use Rattle.cat_checks.specs.Legal.{draft_after, has_its_draft, may_be_done, opens_one, replayed_action, replayed_by, replayed_call, turn_of}
use Rattle.cat_codes.specs.Code.{ascending_keys, list}
use Rattle.cat_frames.specs.Entries.{action_code, action_number, is_logged, log_entry_code}
use Rattle.cat_frames.specs.Sweeps.{Rule, are_logged, cutoff_code, cutoff_is_logged, resolved_code, resolved_is_logged, rule_code, sweep_code, sweep_is_logged}
use Rattle.cat_model.specs.declared.command.Command.{Command}
use Rattle.cat_model.specs.declared.cutoff.Cutoff.{Cutoff}
use Rattle.cat_model.specs.declared.cutoff.Cutoff.TheVariants as cutoffs
use Rattle.cat_model.specs.declared.cutoff.Resolved.{Resolved}
use Rattle.cat_model.specs.declared.log_entry.Action.{Action}
use Rattle.cat_model.specs.declared.log_entry.Action.TheVariants as actions
use Rattle.cat_model.specs.declared.log_entry.LogEntry.{LogEntry}
use Rattle.cat_model.specs.declared.reply.Reply.{Reply}
use Rattle.cat_model.specs.declared.sweep.Sweep.{Sweep}
use Rattle.cat_model.specs.Book.{Book}
use Rattle.cat_model.specs.Calls.{Called, attempt, entry_made, stepped}
use Rattle.cat_model.specs.Past.{past_of}
use Rattle.cat_model.specs.Refusing.{Outcome, Tested}
use Rattle.cat_model.specs.State.{State}
use Rattle.cat_model.specs.Step.{Turn, head_told, opening, step}
use Rattle.cat_model.specs.Sweeps.{step_sweep, sweep_call, sweep_entry, swept_by}
use Rattle.cat_model.specs.WellMade.{is_well_made}
use Rattle.cat_tables.specs.ReferenceLaws.{both_true}
use Rattle.cat_core.specs.LoggedLaws.{IsDraftOf, call_is_logged}

-- ---- an entry that is made has a spelling

made_is_logged : (after : State) (command : Command) (turn : Turn) (reply : Reply) → is_well_made sha256 command ≡ true → IsDraftOf command turn.draft → is_some (head_told reply) ≡ true → is_logged sha256 (entry_made sha256 0 after command turn reply) ≡ true
unfolding entry_made
made_is_logged after command turn reply made own head = call_is_logged after.place 0 turn.draft turn.moment command reply made own head

-- ---- what a call brings

-- one entry at most, which has a spelling, and this draft
abbrev pub IsLogOf : ℕ → List LogEntry → Type 0
IsLogOf draft [] = Unit {0}
IsLogOf draft (e ∷ []) = (is_logged sha256 e ≡ true) × (e.draft ≡ draft)
IsLogOf draft (e ∷ f ∷ entries) = ⊥

choice_logs : (draft : ℕ) (b : Bool) (x y : Called) → IsLogOf draft x.logged → IsLogOf draft y.logged → IsLogOf draft (if b then x else y).logged
choice_logs draft true x y p q = p
choice_logs draft false x y p q = q

draft_is : (after : State) (command : Command) (turn : Turn) (reply : Reply) → (entry_made sha256 0 after command turn reply).draft ≡ turn.draft
unfolding entry_made
draft_is after command turn reply = refl

step_logs : (state : State) (draft : ℕ) (command : Command) (turn : Turn) (outcome : Outcome) → is_well_made sha256 command ≡ true → IsDraftOf command turn.draft → TellsHead outcome → IsLogOf turn.draft (stepped sha256 0 state draft command turn outcome).logged
step_logs state draft command turn (Err why) made own tells = tt
step_logs state draft command turn (Ok (after, reply)) made own tells =
    choice_logs turn.draft (nat_lt state.place after.place) _ _ (made_is_logged after command turn reply made own tells, draft_is after command turn reply) tt

tested_logs : (book : Book) (entry : LogEntry) (command : Command) (tested : Tested) → is_well_made sha256 command ≡ true → IsDraftOf command entry.draft → IsLogOf entry.draft (replayed_by sha256 book entry command tested).logged
tested_logs book entry command (Err why) made own = tt
tested_logs book entry command (Ok u) made own =
    step_logs book.state (draft_after book entry) command (turn_of book entry) (step sha256 book.state command (turn_of book entry)) made own (step_tells sha256 book.state command (turn_of book entry))

-- ---- a sweep that was read has a spelling

read_cutoff : (c : Cutoff) → (cutoff_code).Fits c → cutoff_is_logged c ≡ true
unfolding cutoff_code
read_cutoff cutoffs.All fits = refl
read_cutoff (cutoffs.Commits count) fits = fits.1.0.1
read_cutoff (cutoffs.Since moment) fits = refl

read_rules : (rules : List Rule) → AllByRecursion (rule_code).Fits rules → are_logged rules ≡ true
read_rules [] fits = refl
read_rules (x ∷ rules) fits = both_true _ _ (read_cutoff x.1 fits.0.1) (read_rules rules fits.1)

read_policy : (r : Resolved) → (resolved_code).Fits r → resolved_is_logged r ≡ true
unfolding resolved_code list
read_policy r fits = both_true _ _ (read_cutoff r.default fits.0) (read_rules r.cutoffs fits.1.1)

read_sweep : (s : Sweep) → (sweep_code).Fits s → sweep_is_logged s ≡ true
unfolding sweep_code ascending_keys
read_sweep s fits = both_true _ _ (both_true _ _ (read_policy s.policy fits.1.0) fits.1.1.0.2) fits.1.1.1.2

read_action : (draft : ℕ) (s : Sweep) → (action_code sha256 draft 7).Fits (actions.Sweep s) → sweep_is_logged s ≡ true
read_action draft s fits = read_sweep s fits.0

action_fits : (entry : LogEntry) → (log_entry_code sha256).Fits entry → (action_code sha256 entry.draft (action_number entry.action)).Fits entry.action
unfolding log_entry_code
action_fits entry fits = fits.0.1.1.1.1.0

sweep_logged : (entry : LogEntry) (place : ℕ) (s : Sweep) → sweep_is_logged s ≡ true → is_logged sha256 (sweep_entry 0 place entry.moment s) ≡ true
unfolding is_logged sweep_entry
sweep_logged entry place s logged = logged

swept_draft : (entry : LogEntry) (place : ℕ) (s : Sweep) → nat_eq entry.draft 0 ≡ true → (sweep_entry 0 place entry.moment s).draft ≡ entry.draft
unfolding sweep_entry
swept_draft entry place s none = sym (exact_unsigned_eq entry.draft 0 none)

swept_logs : (state : State) (draft : ℕ) (entry : LogEntry) (s : Sweep) (outcome : Outcome) → nat_eq entry.draft 0 ≡ true → sweep_is_logged s ≡ true → IsLogOf entry.draft (swept_by 0 state draft entry.moment s outcome).logged
swept_logs state draft entry s (Err why) none logged = tt
swept_logs state draft entry s (Ok (after, reply)) none logged = (sweep_logged entry after.place s logged, swept_draft entry after.place s none)

-- ---- what the action of an entry brings

abbrev HasDraft : ℕ → Action → Type 0
HasDraft draft action = (if opens_one action then not (nat_eq draft 0) else nat_eq draft 0) ≡ true

action_logs : (book : Book) (entry : LogEntry) (action : Action) → may_be_done sha256 book action ≡ true → HasDraft entry.draft action → (action_code sha256 entry.draft (action_number action)).Fits action → IsLogOf entry.draft (replayed_action sha256 book entry action).logged
unfolding attempt sweep_call
action_logs book entry (actions.Call command) made own fits = tested_logs book entry command (opening sha256 book.state command) made own
action_logs book entry (actions.Sweep s) may none fits = swept_logs book.state (draft_after book entry) entry s (step_sweep book.state (past_of sha256 book) s) none (read_action entry.draft s fits)

pub entry_logs : (book : Book) (entry : LogEntry) → may_be_done sha256 book entry.action ≡ true → has_its_draft entry ≡ true → (log_entry_code sha256).Fits entry → IsLogOf entry.draft (replayed_call sha256 book entry).logged
entry_logs book entry may own fits = action_logs book entry entry.action may own (action_fits entry fits)

command_logs : (book : Book) (entry : LogEntry) (command : Command) → is_well_made sha256 command ≡ true → IsDraftOf command entry.draft → IsLogOf entry.draft (replayed_action sha256 book entry (actions.Call command)).logged
unfolding attempt
command_logs book entry command made own = tested_logs book entry command (opening sha256 book.state command) made own

pub call_logs : (book : Book) (entry : LogEntry) (command : Command) → entry.action ≡ actions.Call command → is_well_made sha256 command ≡ true → has_its_draft entry ≡ true → IsLogOf entry.draft (replayed_call sha256 book entry).logged
call_logs book entry command is made own =
    subst (λ (a : Action). IsLogOf entry.draft (replayed_action sha256 book entry a).logged) (sym is) (command_logs book entry command made (subst (HasDraft entry.draft) is own))
