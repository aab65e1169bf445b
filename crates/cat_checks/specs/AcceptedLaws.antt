-- The entry of an accepted call or sweep is legal where it stands, and leads to the state that the call or sweep led to.
use Rattle.std.proofs.Common.{◌≡◌, ℕ, ◌<◌, max, List, [], ◌∷◌, Option, Some, None, Result, Ok, Err, Bool, true, false, not, ◌||◌, nat_eq, nat_lt, if◌then◌else◌, refl, ap, ap₂, ◌∙◌, ltb-true, arith}
use Rattle.cat_model.specs.KeySets.{key_set}
use Rattle.std.proofs.lemmas.Slice.Eq.{bytes_eq-Decides}
use Rattle.sha2.specs.Sha256.{sha256}
use Rattle.cat_codes.specs.ListLaws.{and_true, both_true}
use Rattle.cat_names.specs.Fields.{Key}
use Rattle.cat_names.specs.declared.hash.Hash.{Hash}
use Rattle.cat_model.specs.declared.command.Assign.{Assign}
use Rattle.cat_model.specs.declared.command.Command.{Command}
use Rattle.cat_model.specs.declared.command.Command.TheVariants as commands
use Rattle.cat_model.specs.declared.command.CommitRequest.{CommitRequest}
use Rattle.cat_model.specs.declared.command.Create.{Create}
use Rattle.cat_model.specs.declared.command.Merge.{Merge}
use Rattle.cat_model.specs.declared.command.Transplant.{Transplant}
use Rattle.cat_model.specs.declared.conflict.Conflict.{Conflict}
use Rattle.cat_model.specs.declared.log_entry.Action.TheVariants as actions
use Rattle.cat_model.specs.declared.log_entry.LogEntry.{LogEntry}
use Rattle.cat_model.specs.declared.reference.Kind.{Kind}
use Rattle.cat_model.specs.declared.reference.Reference.{Reference}
use Rattle.cat_model.specs.declared.refusal.Refusal.{Refusal}
use Rattle.cat_model.specs.declared.refusal.Refusal.TheVariants.{BadRequest, Conflicts}
use Rattle.cat_model.specs.declared.refusal.Reason.TheVariants.{OtherType}
use Rattle.cat_model.specs.declared.reply.Reply.{Reply}
use Rattle.cat_model.specs.declared.sweep.Sweep.{Sweep}
use Rattle.cat_model.specs.Book.{Book}
use Rattle.cat_model.specs.Calls.{Called, attempt, entry_made, stepped, told_at}
use Rattle.cat_model.specs.Chain.{entries}
use Rattle.cat_model.specs.Commits.{commit_opening, given_ops, given_request, request_commit, step_commit}
use Rattle.cat_model.specs.Merges.{Plans, all_conflicts, all_set, commits_made, merge_opening, merge_planned, merge_plans, needs_planned_room, step_applied, step_merge, step_planned, step_unless_conflicts, with_planned}
use Rattle.cat_model.specs.Moves.{step_assign, step_create}
use Rattle.cat_model.specs.Past.{past_of}
use Rattle.cat_model.specs.Records.{expired_keys, needs_no_expired}
use Rattle.cat_model.specs.Refusing.{◌>>=◌, Outcome, Tested, is_of_kind, named, needs, needs_kind, needs_source_kind, perhaps_named}
use Rattle.cat_model.specs.State.{Digest, State}
use Rattle.cat_model.specs.Step.{Turn, head_left, logged_command, opening, opens_draft, step}
use Rattle.cat_model.specs.Sweeps.{step_sweep, sweep_call, sweep_entry, swept_by}
use Rattle.cat_model.specs.Transplants.{step_transplant, transplant_opening, transplant_planned, transplant_plans}
use Rattle.cat_model.specs.WellMade.{have_contents, is_well_made, may_be_asked}
use Rattle.cat_frames.specs.Entries.{log_entry_code, of_nobody}
use Rattle.cat_checks.specs.GivenLaws.{given_once, request_once, well_made_again}
use Rattle.cat_checks.specs.Histories.{after_entry}
use Rattle.cat_checks.specs.Legal.{IsLegal, are_spelled_alike, draft_after, draft_is_new, has_its_draft, is_just, is_legal, may_be_swept, replayed_by, replayed_call}
pub use Rattle.cat_checks.specs.LeadingLaws.{logged_place}

-- ---- tests in turn

-- what follows a test is accepted in another form
kept_by : {A B : Type 0} (r : Result A Refusal) (f g : A → Result B Refusal) (after : B) → (r >>= f) ≡ Ok after → ((x : A) → f x ≡ Ok after → g x ≡ Ok after) → (r >>= g) ≡ Ok after
kept_by (Ok x) f g after e h = h x e
kept_by (Err why) f g after e h = absurd cc

-- what follows a test that passed
past : {B : Type 0} (test : Bool) (why : Refusal) (f : Unit {0} → Result B Refusal) (after : B) → (needs test why >>= f) ≡ Ok after → f tt ≡ Ok after
past true why f after e = e
past false why f after e = absurd cc

abbrev passed : Tested
passed = Ok tt

-- the first test has passed
first_passed : {A B : Type 0} (r : Result A Refusal) (f : A → Result B Refusal) (after : B) → (r >>= f) ≡ Ok after → (r >>= λ _. passed) ≡ passed
first_passed (Ok x) f after e = refl
first_passed (Err why) f after e = absurd cc

-- ---- what was said of a source's kind only tests

any_kind : (kind : Option Kind) (source : Option Reference) (f : Unit {0} → Outcome) (after : State × Reply) → (needs_source_kind kind source >>= f) ≡ Ok after → (needs_source_kind None source >>= f) ≡ Ok after
any_kind kind None f after e = e
any_kind kind (Some reference) f after e = past (is_of_kind kind reference) (BadRequest OtherType) f after e

create_again : (digest : Digest) (state : State) (c : Create) (after : State × Reply) → step_create digest state c ≡ Ok after → step_create digest state (record c { source_kind = None }) ≡ Ok after
unfolding step_create
create_again digest state c after e = kept_by (perhaps_named state c.source.name) _ _ after e (λ source own. any_kind c.source_kind source _ after own)

assign_again : (digest : Digest) (state : State) (c : Assign) (after : State × Reply) → step_assign digest state c ≡ Ok after → step_assign digest state (record c { source_kind = None }) ≡ Ok after
unfolding step_assign
assign_again digest state c after e =
    kept_by (named state c.name) _ _ after e (λ reference named_so.
    kept_by (perhaps_named state c.source.name) _ _ after named_so (λ source sourced.
    kept_by (needs_kind c.kind reference) _ _ after sourced (λ u own. any_kind c.source_kind source _ after own)))

-- ---- ids that were given are given again

commit_again : (digest : Digest) (state : State) (c : CommitRequest) (draft moment : ℕ) → have_contents digest c.ops c.contents ≡ true → step_commit digest state (given_request digest draft c) draft moment ≡ step_commit digest state c draft moment
unfolding step_commit commit_opening request_commit given_request
commit_again digest state c draft moment have = let same : given_ops digest draft (given_request digest draft c) ≡ given_ops digest draft c = given_once digest draft c have in rw same refl

-- ---- calls that are only tried aren't accepted, and when a call began is told in refusals alone

-- the place rose
abbrev Rose : State → State → Type 0
Rose state after = nat_lt state.place after.place ≡ true

abbrev as_outcome : State × Reply → Outcome
as_outcome x = Ok x

abbrev accepts : State → Reply → Outcome
accepts after reply = Ok (after, reply)

abbrev place_in : Outcome → ℕ
place_in (Ok x) = x.0.place
place_in (Err why) = 0

-- a state that stays doesn't rise
stayed : (state after : State) (told reply : Reply) → Rose state after → accepts state told ≡ accepts after reply → ⊥
stayed state after told reply rose e =
    let up : state.place < after.place = ltb-true state.place after.place rose in
    let same : state.place ≡ after.place = ap place_in e in
    omega arith

no_clash : (asked : Bool) (state after : State) (told reply : Reply) (why : Refusal) → Rose state after → (if asked then accepts state told else Err why) ≡ accepts after reply → ⊥
no_clash true state after told reply why rose e = stayed state after told reply rose e
no_clash false state after told reply why rose e = cc

-- none of the keys is missing
none_missing : {B : Type 0} (keys : List Key) (opened other : ℕ) (f g : Unit {0} → Result B Refusal) (after : B) → (needs_no_expired keys opened >>= f) ≡ Ok after → (f tt ≡ Ok after → g tt ≡ Ok after) → (needs_no_expired keys other >>= g) ≡ Ok after
none_missing [] opened other f g after e h = h e
none_missing (key ∷ keys) opened other f g after e h = absurd cc

-- the call is made, and its conflicts are a refusal, wherever it began
abbrev made_so : Plans → ℕ → Plans
made_so p opened = record p { asked = record { dry_run = false; conflicts_as_result = false }; opened = opened }

chosen_again : (state : State) (tried same : Bool) (stays told reply : Reply) (made after : State) → Rose state after
    → as_outcome (if tried || same then (state, stays) else (made, told)) ≡ accepts after reply → as_outcome (if same then (state, stays) else (made, told)) ≡ accepts after reply
chosen_again state true same stays told reply made after rose e = absurd (stayed state after stays reply rose e)
chosen_again state false same stays told reply made after rose e = e

applied_again : (digest : Digest) (state : State) (p : Plans) (other : ℕ) (after : State) (reply : Reply) → Rose state after → step_applied digest state p ≡ accepts after reply → step_applied digest state (made_so p other) ≡ accepts after reply
unfolding step_applied
applied_again digest state p other after reply rose e =
    none_missing (key_set (expired_keys state (all_set p.planned))) p.opened other _ _ (after, reply) e (λ held.
    kept_by (with_planned digest p.moment state p.branch.head (commits_made p.planned)) _ _ (after, reply) held (λ made own. chosen_again state p.asked.dry_run _ _ _ reply _ after rose own))

unless_again : (digest : Digest) (state : State) (p : Plans) (other : ℕ) (conflicts : List Conflict) (after : State) (reply : Reply) → Rose state after
    → step_unless_conflicts digest state p conflicts ≡ accepts after reply → step_unless_conflicts digest state (made_so p other) conflicts ≡ accepts after reply
unless_again digest state p other [] after reply rose e = applied_again digest state p other after reply rose e
unless_again digest state p other (x ∷ conflicts) after reply rose e = absurd (no_clash p.asked.conflicts_as_result state after _ reply (Conflicts (x ∷ conflicts)) rose e)

planned_again : (digest : Digest) (state : State) (p : Plans) (other : ℕ) (after : State) (reply : Reply) → Rose state after → step_planned digest state p ≡ accepts after reply → step_planned digest state (made_so p other) ≡ accepts after reply
planned_again digest state p other after reply rose e =
    kept_by (needs_planned_room state (entries state.commits p.branch.head) p.planned) _ _ (after, reply) e (λ u own. unless_again digest state p other (all_conflicts p.planned) after reply rose own)

merge_again : (digest : Digest) (state : State) (m : Merge) (opened other moment : ℕ) (after : State) (reply : Reply) → Rose state after
    → step_merge digest state m opened moment ≡ accepts after reply → step_merge digest state (record m { dry_run = false; conflicts_as_result = false }) other moment ≡ accepts after reply
unfolding step_merge merge_opening merge_planned
merge_again digest state m opened other moment after reply rose e =
    kept_by (merge_opening digest state m) _ _ (after, reply) e (λ (branch, source) own. planned_again digest state (merge_plans state m branch source opened moment) other after reply rose own)

transplant_again : (digest : Digest) (state : State) (t : Transplant) (opened other moment : ℕ) (after : State) (reply : Reply) → Rose state after
    → step_transplant digest state t opened moment ≡ accepts after reply → step_transplant digest state (record t { dry_run = false; conflicts_as_result = false }) other moment ≡ accepts after reply
unfolding step_transplant transplant_opening transplant_planned
transplant_again digest state t opened other moment after reply rose e =
    kept_by (transplant_opening digest state t) _ _ (after, reply) e (λ branch own. planned_again digest state (transplant_plans state t branch opened moment) other after reply rose own)

-- ---- an accepted step is that of the command as it is logged

contents_of : (digest : Digest) (c : CommitRequest) → is_well_made digest (commands.Commit c) ≡ true → (may_be_asked c.ops ≡ true) × (have_contents digest c.ops c.contents ≡ true)
unfolding is_well_made
contents_of digest c made = and_true (may_be_asked c.ops) (have_contents digest c.ops c.contents) made

-- in the same draft, at the same moment, wherever it began
pub step_again : (digest : Digest) (state : State) (command : Command) (turn : Turn) (opened : ℕ) (after : State) (reply : Reply) → is_well_made digest command ≡ true → nat_lt state.place after.place ≡ true
    → step digest state command turn ≡ Ok (after, reply) → step digest state (logged_command digest turn.draft command) (record turn { opened = opened }) ≡ Ok (after, reply)
step_again digest state (commands.Create c) turn opened after reply made rose e = create_again digest state c (after, reply) e
step_again digest state (commands.Assign c) turn opened after reply made rose e = assign_again digest state c (after, reply) e
step_again digest state (commands.Delete c) turn opened after reply made rose e = e
step_again digest state (commands.Commit c) turn opened after reply made rose e = commit_again digest state c turn.draft turn.moment (contents_of digest c made).1 ∙ e
step_again digest state (commands.Merge m) turn opened after reply made rose e = merge_again digest state m turn.opened opened turn.moment after reply rose e
step_again digest state (commands.Transplant t) turn opened after reply made rose e = transplant_again digest state t turn.opened opened turn.moment after reply rose e

-- a step that is accepted has passed the tests before its draft
pub opens : (digest : Digest) (state : State) (command : Command) (turn : Turn) (after : State × Reply) → step digest state command turn ≡ Ok after → opening digest state command ≡ Ok tt
unfolding step_commit step_merge step_transplant
opens digest state (commands.Create c) turn after e = refl
opens digest state (commands.Assign c) turn after e = refl
opens digest state (commands.Delete c) turn after e = refl
opens digest state (commands.Commit c) turn after e = first_passed (commit_opening digest state c) _ after e
opens digest state (commands.Merge m) turn after e = first_passed (merge_opening digest state m) _ after e
opens digest state (commands.Transplant t) turn after e = first_passed (transplant_opening digest state t) _ after e

-- ---- the command as it is logged

-- it is well made
pub logged_is_made : (digest : Digest) (draft : ℕ) (command : Command) → is_well_made digest command ≡ true → is_well_made digest (logged_command digest draft command) ≡ true
unfolding is_well_made
logged_is_made digest draft (commands.Create c) made = made
logged_is_made digest draft (commands.Assign c) made = made
logged_is_made digest draft (commands.Delete c) made = made
logged_is_made digest draft (commands.Commit c) made = let both = contents_of digest c made in well_made_again digest draft c both.0 both.1
logged_is_made digest draft (commands.Merge m) made = made
logged_is_made digest draft (commands.Transplant t) made = made

-- it is logged as it is
pub logged_once : (digest : Digest) (draft : ℕ) (command : Command) → is_well_made digest command ≡ true → logged_command digest draft (logged_command digest draft command) ≡ logged_command digest draft command
logged_once digest draft (commands.Create c) made = refl
logged_once digest draft (commands.Assign c) made = refl
logged_once digest draft (commands.Delete c) made = refl
logged_once digest draft (commands.Commit c) made = ap commands.Commit (request_once digest draft c (contents_of digest c made).1)
logged_once digest draft (commands.Merge m) made = refl
logged_once digest draft (commands.Transplant t) made = refl

-- it opens a draft where the command does
pub logged_opens : (digest : Digest) (draft : ℕ) (command : Command) → opens_draft (logged_command digest draft command) ≡ opens_draft command
logged_opens digest draft (commands.Create c) = refl
logged_opens digest draft (commands.Assign c) = refl
logged_opens digest draft (commands.Delete c) = refl
logged_opens digest draft (commands.Commit c) = refl
logged_opens digest draft (commands.Merge m) = refl
logged_opens digest draft (commands.Transplant t) = refl

-- it leaves the same head
pub logged_leaves : (digest : Digest) (draft : ℕ) (command : Command) (reply : Reply) → head_left (logged_command digest draft command) reply ≡ head_left command reply
logged_leaves digest draft (commands.Create c) reply = refl
logged_leaves digest draft (commands.Assign c) reply = refl
logged_leaves digest draft (commands.Delete c) reply = refl
logged_leaves digest draft (commands.Commit c) reply = refl
logged_leaves digest draft (commands.Merge m) reply = refl
logged_leaves digest draft (commands.Transplant t) reply = refl

-- ---- what the entry's call brings

-- entries that are the same but for their callers are spelled alike
pub spelled_alike : (digest : Digest) (a b : LogEntry) → of_nobody a ≡ of_nobody b → are_spelled_alike digest a b ≡ true
unfolding log_entry_code
spelled_alike digest a b same =
    let spelled : (log_entry_code digest).spell a ≡ (log_entry_code digest).spell b = ap (λ (e : LogEntry). (log_entry_code digest).spell e) same in
    (bytes_eq-Decides _ _).1 spelled

-- the entry of the logged command's call is the entry, but for its caller
entry_again : (digest : Digest) (caller : ℕ) (after : State) (command : Command) (turn : Turn) (opened : ℕ) (reply : Reply) → is_well_made digest command ≡ true
    → of_nobody (entry_made digest 0 after (logged_command digest turn.draft command) (record turn { opened = opened }) reply) ≡ of_nobody (entry_made digest caller after command turn reply)
unfolding entry_made
entry_again digest caller after command turn opened reply made =
    ap₂ (λ (c : Command) (head : Option Hash). let e : LogEntry = record { place = after.place; caller = 0; draft = turn.draft; moment = turn.moment; action = actions.Call c; head = head } in e)
    (logged_once digest turn.draft command made) (logged_leaves digest turn.draft command reply)

-- what an accepted step brings
brought : (digest : Digest) (caller : ℕ) (state : State) (draft : ℕ) (command : Command) (turn : Turn) (after : State) (reply : Reply) → Rose state after
    → stepped digest caller state draft command turn (Ok (after, reply)) ≡ record { said = told_at after (Ok reply); logged = entry_made digest caller after command turn reply ∷ []; state = after; draft = draft }
brought digest caller state draft command turn after reply rose = rw rose refl

-- the call of an accepted call's entry brings this entry and this state
pub brought_again : (digest : Digest) (caller : ℕ) (book : Book) (command : Command) (turn : Turn) (after : State) (reply : Reply) → is_well_made digest command ≡ true → step digest book.state command turn ≡ Ok (after, reply) → nat_lt book.state.place after.place ≡ true
    → replayed_call digest book (entry_made digest caller after command turn reply) ≡ record {
      said = told_at after (Ok reply);
      logged = entry_made digest 0 after (logged_command digest turn.draft command) (record turn { opened = book.state.place }) reply ∷ [];
      state = after;
      draft = max book.draft turn.draft;
    }
unfolding attempt entry_made
brought_again digest caller book command turn after reply made e rose =
    let entry = entry_made digest caller after command turn reply in
    let logged = logged_command digest turn.draft command in
    let when : Turn = record turn { opened = book.state.place } in
    let once : step digest book.state logged when ≡ Ok (after, reply) = step_again digest book.state command turn book.state.place after reply made rose e in
    ap (replayed_by digest book entry logged) (opens digest book.state logged when (after, reply) once)
    ∙ ap (stepped digest 0 book.state (draft_after book entry) logged when) once
    ∙ brought digest 0 book.state (draft_after book entry) logged when after reply rose

pub accepted_is_legal : (caller : ℕ) (book : Book) (command : Command) (turn : Turn) (after : State) (reply : Reply)
    → is_well_made sha256 command ≡ true
    → (if opens_draft command then not (nat_eq turn.draft 0) else nat_eq turn.draft 0) ≡ true
    → draft_is_new book.log turn.draft ≡ true
    → step sha256 book.state command turn ≡ Ok (after, reply)
    → nat_lt book.state.place after.place ≡ true
    → IsLegal sha256 book (entry_made sha256 caller after command turn reply)
    × ((replayed_call sha256 book (entry_made sha256 caller after command turn reply)).state ≡ after)
unfolding is_legal entry_made
accepted_is_legal caller book command turn after reply made own new e rose =
    let entry : LogEntry = entry_made sha256 caller after command turn reply in
    let logged = logged_command sha256 turn.draft command in
    let when : Turn = record turn { opened = book.state.place } in
    let brings = brought_again sha256 caller book command turn after reply made e rose in
    let drafted : has_its_draft entry ≡ true = ap (λ (opened : Bool). if opened then not (nat_eq turn.draft 0) else nat_eq turn.draft 0) (logged_opens sha256 turn.draft command) ∙ own in
    let again : of_nobody (entry_made sha256 0 after logged when reply) ≡ of_nobody entry = entry_again sha256 caller after command turn book.state.place reply made in
    let just : is_just sha256 entry (replayed_call sha256 book entry).logged ≡ true = ap (λ (c : Called). is_just sha256 entry c.logged) brings ∙ spelled_alike sha256 (entry_made sha256 0 after logged when reply) entry again in
    let itself : (replayed_call sha256 book entry).logged ≡ of_nobody entry ∷ [] = ap (λ (c : Called). c.logged) brings ∙ ap (λ (e : LogEntry). e ∷ []) again in
    let tests : is_legal sha256 book entry ≡ true = both_true _ _ (both_true _ _ (both_true _ _ (logged_is_made sha256 turn.draft command made) drafted) new) just in
    (record { legal = tests; logged = itself }, ap (λ (c : Called). c.state) brings)

-- the last draft number after an entry of this draft
pub accepted_drafts : (digest : Digest) (caller : ℕ) (book : Book) (command : Command) (turn : Turn) (after : State) (reply : Reply) → (after_entry digest book (entry_made digest caller after command turn reply)).draft ≡ max book.draft turn.draft
unfolding entry_made
accepted_drafts digest caller book command turn after reply = refl

-- ---- sweeps

pub swept_is_legal : (caller : ℕ) (book : Book) (moment : ℕ) (s : Sweep) (after : State) (reply : Reply)
    → may_be_swept sha256 book s ≡ true
    → step_sweep book.state (past_of sha256 book) s ≡ Ok (after, reply)
    → IsLegal sha256 book (sweep_entry caller after.place moment s)
    × ((replayed_call sha256 book (sweep_entry caller after.place moment s)).state ≡ after)
unfolding is_legal sweep_call sweep_entry
swept_is_legal caller book moment s after reply may e =
    let entry : LogEntry = sweep_entry caller after.place moment s in
    let brings = ap (swept_by 0 book.state (draft_after book entry) moment s) e in
    let just : is_just sha256 entry (replayed_call sha256 book entry).logged ≡ true = ap (λ (c : Called). is_just sha256 entry c.logged) brings ∙ spelled_alike sha256 (sweep_entry 0 after.place moment s) entry refl in
    let tests : is_legal sha256 book entry ≡ true = both_true _ _ (both_true _ _ (both_true _ _ may refl) refl) just in
    (record { legal = tests; logged = ap (λ (c : Called). c.logged) brings }, ap (λ (c : Called). c.state) brings)
