-- Where a draft is refused for contents that are gone, they were there at no moment since its opening.
use Rattle.std.proofs.Common.{◌≡◌, ℕ, max, List, [], ◌∷◌, ◌++◌, map, Option, Some, None, is_some, is_none, Result, Ok, Err, Bool, true, false, not, ◌||◌, nat_lt, if◌then◌else◌, refl, sym, ap, subst, ◌∙◌}
use Rattle.std.specs.List.{list_all}
use Rattle.std.specs.Option.{option_map_or}
use Rattle.std.proofs.lemmas.List.Folds.{list_all-append}
use Rattle.sha2.specs.Sha256.{sha256}
use Rattle.cat_names.specs.Fields.{Key}
use Rattle.cat_names.specs.declared.hash.Hash.{Hash}
use Rattle.cat_model.specs.declared.command.Command.{Command}
use Rattle.cat_model.specs.declared.command.Command.TheVariants as commands
use Rattle.cat_model.specs.declared.command.Merge.{Merge}
use Rattle.cat_model.specs.declared.command.Transplant.{Transplant}
use Rattle.cat_model.specs.declared.commit.Commit.{Commit}
use Rattle.cat_model.specs.declared.conflict.Conflict.{Conflict}
use Rattle.cat_model.specs.declared.entry.Entry.{Entry}
use Rattle.cat_model.specs.declared.merging.Modes.{Modes}
use Rattle.cat_model.specs.declared.reference.Reference.{Reference}
use Rattle.cat_model.specs.declared.refusal.Reason.TheVariants.{NotConsecutive}
use Rattle.cat_model.specs.declared.refusal.Refusal.{Refusal}
use Rattle.cat_model.specs.declared.refusal.Refusal.TheVariants.{BadRequest, Conflicts, Expired, NoMemory, RefNotFound}
use Rattle.cat_model.specs.declared.refusal.Refused.{Refused}
use Rattle.cat_model.specs.declared.reply.Reply.{Reply}
use Rattle.cat_model.specs.declared.reply.Told.{Told}
use Rattle.cat_model.specs.Base.{base, is_among}
use Rattle.cat_model.specs.Book.{Book, attempt_on}
use Rattle.cat_model.specs.Calls.{Called, attempt, in_draft, stepped, tried}
use Rattle.cat_model.specs.CauseLaws.{Causes, HasSteps, commit_causes, merge_opening_causes, plan_room_causes, transplant_opening_causes, with_planned_causes}
use Rattle.cat_model.specs.Chain.{Commits, commit_of, entries, on_chain}
use Rattle.cat_model.specs.Cutoffs.{visible}
use Rattle.cat_model.specs.Drafts.{Names, drafts_of}
use Rattle.cat_model.specs.KeySets.{key_set}
use Rattle.cat_model.specs.Maps.{Map}
use Rattle.cat_model.specs.Merges.{Plans, all_conflicts, all_set, commits_made, entries_set, merge_opening, merge_planned, merge_plans, needs_planned_room, needs_set_contents, step_applied, step_merge, step_planned, step_unless_conflicts, with_planned}
use Rattle.cat_model.specs.Naming.{names_of}
use Rattle.cat_model.specs.Plan.{plan}
use Rattle.cat_model.specs.Records.{expired_keys, needs_no_expired}
use Rattle.cat_model.specs.Refusing.{◌>>=◌, Outcome, Tested, named, needs, needs_branch, pointed}
use Rattle.cat_model.specs.State.{State, content_at, reference_of}
use Rattle.cat_model.specs.Step.{Turn, opening, step}
use Rattle.cat_model.specs.Sweeps.{kept_by_names}
use Rattle.cat_model.specs.Transplants.{change_made, commits_at, plan_each, step_transplant, transplant_opening, transplant_planned, transplant_plans, with_metas, needs_on_chain, are_consecutive}
use Rattle.cat_graph.specs.GraphLaws.{same_self}
use Rattle.cat_keymap.specs.KeyOrder.{both_true, and_true}
use Rattle.cat_merge.specs.PassingLaws.{plan_sets}
use Rattle.cat_state.specs.HeldLaws.{all_among, all_more}
use Rattle.cat_decisions.specs.declared.building.Built.{Built}
use Rattle.cat_decisions.specs.declared.call.Call.{Call}
use Rattle.cat_decisions.specs.declared.call.Call.TheVariants as calls
use Rattle.cat_decisions.specs.Builds.{HasHead, command_of}
use Rattle.cat_core.specs.declared.draft.Draft.{Draft}
use Rattle.cat_core.specs.declared.draft.Settled.{Settled}
use Rattle.cat_core.specs.declared.draft.Settled.TheVariants as settled
use Rattle.cat_core.specs.Drafts.{Expires, IsOpen, RefusesDraft, Settles, called_in, command_in, is_expired, open_draft_of}
use Rattle.cat_core.specs.Gone.{IsGoneSince, TellsGone, never_held, set_upon}
use Rattle.cat_core.specs.Lasting.{IsHolding, IsLasting, had_content, has_content, states_since}
use Rattle.cat_core.specs.Stored.{Stored}
use Rattle.cat_core.proofs.Before.{opening_there}
use Rattle.cat_core.proofs.Lasting.{kept_is, lasting_of, or_first, or_second, passes_by}
use Rattle.cat_core.proofs.Left.{named_found}
use Rattle.cat_core.proofs.Settling.{one_head}
use Rattle.cat_core.proofs.Spared.{same_kept}
use Rattle.cat_core.proofs.Taken.{OkIs, bind}
use Rattle.cat_core.proofs.Waiting.{in_all}

-- ---- what plans set is kept by the draft's names

module _ (commits : Commits) (names : Names) where
  abbrev pub is_kept : Entry → Bool
  is_kept entry = is_among (kept_by_names commits names) entry.hash

  abbrev all_kept : Map → Type 0
  all_kept m = list_all (λ (x : Key × Entry). is_kept x.1) m ≡ true

  abbrev shows_kept : Hash → Bool
  shows_kept hash = list_all (λ (x : Key × Entry). is_kept x.1) (entries commits hash)

  -- what is visible at a named commit
  shown_kept : (hash : Hash) → is_among names.commits hash ≡ true → shows_kept hash ≡ true
  shown_kept hash there = by (entries commits hash) (λ other shown. shown)
    where
      by : (m : Map) → ((other : Hash) → is_among (map (λ (x : Key × Entry). x.1.hash) m) other ≡ true → is_among (visible commits hash) other ≡ true) → list_all (λ (x : Key × Entry). is_kept x.1) m ≡ true
      by [] more = refl
      by (x ∷ m) more =
          let here : is_among (visible commits hash) x.1.hash ≡ true = more x.1.hash (or_first _ (is_among (map (λ (y : Key × Entry). y.1.hash) m) x.1.hash) (same_self x.1.hash)) in
          both_true _ _
          (kept_is commits names x.1.hash ∙ or_first _ (is_among names.contents x.1.hash) (passes_by (λ c. is_among (visible commits c) x.1.hash) names.commits hash here there))
          (by m (λ other shown. more other (or_second _ _ shown)))

  named_kept : list_all shows_kept names.commits ≡ true
  named_kept = all_more (λ hash. is_among names.commits hash) shows_kept names.commits shown_kept (all_among names.commits)

  steps_kept : (modes : Modes) (target : Map) (chosen : Commits) → list_all (λ (x : Hash × Commit). shows_kept x.0) chosen ≡ true → all_kept (all_set (with_metas chosen (plan_each modes target (map (change_made commits) chosen))))
  steps_kept modes target [] are = refl
  steps_kept modes target (x ∷ chosen) are =
      let both = and_true (shows_kept x.0) (list_all (λ (y : Hash × Commit). shows_kept y.0) chosen) are in
      let one = plan (entries commits x.1.parent) (entries commits x.0) target modes in
      list_all-append (λ (y : Key × Entry). is_kept y.1) (entries_set one.ops) (all_set (with_metas chosen (plan_each modes one.map (map (change_made commits) chosen))))
      ∙ both_true _ _ (plan_sets is_kept (entries commits x.1.parent) (entries commits x.0) target modes both.0) (steps_kept modes one.map chosen both.1)

  found_kept : (found : Option Commit) (hash : Hash) (rest : Commits) → shows_kept hash ≡ true → list_all (λ (x : Hash × Commit). shows_kept x.0) rest ≡ true → list_all (λ (x : Hash × Commit). shows_kept x.0) (option_map_or (λ c. (hash, c) ∷ []) found [] ++ rest) ≡ true
  found_kept None hash rest here are = are
  found_kept (Some c) hash rest here are = both_true _ _ here are

  chosen_kept : (hashes : List Hash) → list_all shows_kept hashes ≡ true → list_all (λ (x : Hash × Commit). shows_kept x.0) (commits_at commits hashes) ≡ true
  chosen_kept [] are = refl
  chosen_kept (hash ∷ hashes) are =
      let both = and_true (shows_kept hash) (list_all shows_kept hashes) are in
      found_kept (commit_of commits hash) hash (commits_at commits hashes) both.0 (chosen_kept hashes both.1)

-- each entry that a call sets in its draft has a content that the draft's names keep
pub set_kept : (state : State) (c : Command) (number : ℕ) (head : Hash) → list_all (λ (x : Key × Entry). is_kept state.commits (names_of sha256 number c) x.1) (set_upon state c head) ≡ true
unfolding merge_planned transplant_planned
set_kept state (commands.Merge m) number head =
    let names : Names = names_of sha256 number (commands.Merge m) in
    list_all-append (λ (y : Key × Entry). is_kept state.commits names y.1) (entries_set (plan (entries state.commits (base state.commits m.from_hash head)) (entries state.commits m.from_hash) (entries state.commits head) m.modes).ops) []
    ∙ both_true _ _ (plan_sets (is_kept state.commits names) (entries state.commits (base state.commits m.from_hash head)) (entries state.commits m.from_hash) (entries state.commits head) m.modes (and_true _ _ (named_kept state.commits names)).0) refl
set_kept state (commands.Transplant t) number head =
    let names : Names = names_of sha256 number (commands.Transplant t) in
    steps_kept state.commits names t.modes (entries state.commits head) (commits_at state.commits t.hashes) (chosen_kept state.commits names t.hashes (named_kept state.commits names))
set_kept state (commands.Commit c) number head = refl
set_kept state (commands.Create c) number head = refl
set_kept state (commands.Assign c) number head = refl
set_kept state (commands.Delete c) number head = refl

-- ---- of these, what isn't there was there at no moment

none_is : {A : Type 0} (found : Option A) → is_none found ≡ not (is_some found)
none_is None = refl
none_is (Some x) = refl

never_by : (now before : Bool) → ((now || before) ≡ true → now ≡ true) → not now ≡ not (now || before)
never_by true before stays = refl
never_by false true stays = let no : false ≡ true = stays refl in absurd cc
never_by false false stays = refl

pub never_was : (book : Book) (place : ℕ) (m : Map) (kept : Entry → Bool) → list_all (λ (x : Key × Entry). kept x.1) m ≡ true
    → ((entry : Entry) → kept entry ≡ true → had_content (states_since book place) entry.hash ≡ true → has_content book.state entry.hash ≡ true)
    → expired_keys book.state m ≡ never_held (states_since book place) m
unfolding expired_keys
never_was book place m kept are stays =
    ap (map (λ (x : Key × Entry). x.0))
    (same_kept (λ (x : Key × Entry). kept x.1) (λ x. is_none (content_at book.state.present x.1.hash)) (λ x. not (had_content (states_since book place) x.1.hash)) m
    (λ x here. none_is (content_at book.state.present x.1.hash) ∙ never_by (has_content book.state x.1.hash) _ (stays x.1 here)) are)

-- ---- why a step refuses so

-- a refusal for contents that are gone says so
abbrev Says : (List Key → ℕ → Type 0) → {A : Type 0} → Result A Refusal → Type 0
Says P (Ok x) = Unit {0}
Says P (Err why) = (keys : List Key) (place : ℕ) → why ≡ Expired keys place → P keys place

abbrev is_other : Refusal → Bool
is_other why = not (is_expired why)

others : HasSteps is_other
others = record {
  early = record { bad = λ reason. refl; missing = refl };
  exists = refl;
  conflicts = λ list. refl;
  references = λ n. refl;
  log = λ n. refl;
  commits = λ n. refl;
  keys = λ n. refl;
  contents = λ n. refl;
  collision = λ hash kept bytes. refl;
}

module _ (P : List Key → ℕ → Type 0) where
  other_says : {A : Type 0} (r : Result A Refusal) → Causes is_other r → Says P r
  other_says (Ok x) causes = tt
  other_says (Err why) causes = λ keys place same. let no : is_other (Expired keys place) ≡ true = subst (λ (w : Refusal). is_other w ≡ true) same causes in absurd cc

  says_bind : {A B : Type 0} (r : Result A Refusal) (f : A → Result B Refusal) → Says P r → ((x : A) → r ≡ Ok x → Says P (f x)) → Says P (r >>= f)
  says_bind (Ok x) f says more = more x refl
  says_bind (Err why) f says more = says

  gone_says : (keys : List Key) (place : ℕ) → P keys place → Says P (needs_no_expired keys place)
  gone_says [] place is = tt
  gone_says (key ∷ keys) place is = λ more at same. let one : key ∷ keys ≡ more = cc in let here : place ≡ at = cc in subst (λ (l : List Key). P l at) one (subst (P (key ∷ keys)) here is)

  clash_says : (test : Bool) (x : State × Reply) (list : List Conflict) → Says P (if test then Ok x else Err (Conflicts list))
  clash_says true x list = tt
  clash_says false x list = λ keys place same. absurd cc

  module _ (state : State) (p : Plans) (is : P (key_set (expired_keys state (all_set p.planned))) p.opened) where
    applied_says : Says P (step_applied sha256 state p)
    unfolding step_applied
    applied_says =
        says_bind {B = State × Reply} (needs_set_contents state p.planned p.opened) _ (gone_says (key_set (expired_keys state (all_set p.planned))) p.opened is) (λ u _.
        says_bind {B = State × Reply} (with_planned sha256 p.moment state p.branch.head (commits_made p.planned)) _ (other_says _ (with_planned_causes sha256 is_other others p.moment state p.branch.head (commits_made p.planned))) (λ made _. tt))

    unless_says : (list : List Conflict) → Says P (step_unless_conflicts sha256 state p list)
    unless_says [] = applied_says
    unless_says (x ∷ list) = clash_says p.asked.conflicts_as_result _ (x ∷ list)

    planned_says : Says P (step_planned sha256 state p)
    planned_says =
        says_bind {B = State × Reply} (needs_planned_room state (entries state.commits p.branch.head) p.planned) _ (other_says _ (plan_room_causes sha256 is_other others state (entries state.commits p.branch.head) p.planned)) (λ u _. unless_says (all_conflicts p.planned))

-- the branch that a merge found, and its commit
merge_finds : (state : State) (m : Merge) → OkIs (λ x. (reference_of state.references m.branch ≡ Some x.0) × (x.1 ≡ m.from_hash)) (merge_opening sha256 state m)
unfolding merge_opening
merge_finds state m =
    bind _ (named state m.branch) _ (λ branch is.
    bind _ (named state m.from) _ (λ from _.
    bind _ (needs_branch branch) _ (λ u _.
    bind _ (pointed sha256 state (Some branch) m.hash) _ (λ x _.
    bind _ (pointed sha256 state (Some from) (Some m.from_hash)) _ (λ source at.
    (named_found state m.branch branch is, it (on_chain state.commits from.head m.from_hash) source at))))))
  where
    it : (test : Bool) (source : Hash) → (if test then Ok m.from_hash else Err RefNotFound) ≡ Ok source → source ≡ m.from_hash
    it true source e = cc
    it false source e = absurd cc

transplant_finds : (state : State) (t : Transplant) → OkIs (λ branch. reference_of state.references t.branch ≡ Some branch) (transplant_opening sha256 state t)
unfolding transplant_opening
transplant_finds state t =
    bind _ (named state t.branch) _ (λ branch is.
    bind _ (named state t.from) _ (λ from _.
    bind _ (needs_branch branch) _ (λ u _.
    bind _ (pointed sha256 state (Some branch) t.hash) _ (λ x _.
    bind _ (needs_on_chain state from t.hashes) _ (λ y _.
    bind _ (needs (are_consecutive state.commits t.hashes) (BadRequest NotConsecutive)) _ (λ z _. named_found state t.branch branch is))))))

abbrev IsGone : State → Command → ℕ → Hash → List Key → ℕ → Type 0
IsGone state c opened head keys place = (place ≡ opened) × (keys ≡ key_set (expired_keys state (set_upon state c head)))

from_ok : {A : Type 0} (Q : A → Type 0) (r : Result A Refusal) (x : A) → OkIs Q r → r ≡ Ok x → Q x
from_ok Q (Ok y) x is e = let same : y ≡ x = cc in subst Q same is
from_ok Q (Err why) x is e = absurd cc

merge_says : (state : State) (m : Merge) (opened moment : ℕ) (head : Hash) → HasHead state (commands.Merge m) head → Says (IsGone state (commands.Merge m) opened head) (step_merge sha256 state m opened moment)
unfolding step_merge
merge_says state m opened moment head has =
    let P = IsGone state (commands.Merge m) opened head in
    says_bind P {B = State × Reply} (merge_opening sha256 state m) _ (other_says P _ (merge_opening_causes sha256 is_other others.early state m)) (λ (branch, source) is.
    let finds = from_ok (λ (x : Reference × Hash). (reference_of state.references m.branch ≡ Some x.0) × (x.1 ≡ m.from_hash)) (merge_opening sha256 state m) (branch, source) (merge_finds state m) is in
    let at : branch.head ≡ head = one_head state (commands.Merge m) branch.head head (branch, finds.0, refl) has in
    planned_says P state (merge_plans state m branch source opened moment)
    (refl, (λ i. key_set (expired_keys state (all_set (merge_planned state m (base state.commits (finds.1 i) (at i)) (finds.1 i) (at i) ∷ []))))))

transplant_says : (state : State) (t : Transplant) (opened moment : ℕ) (head : Hash) → HasHead state (commands.Transplant t) head → Says (IsGone state (commands.Transplant t) opened head) (step_transplant sha256 state t opened moment)
unfolding step_transplant
transplant_says state t opened moment head has =
    let P = IsGone state (commands.Transplant t) opened head in
    says_bind P {B = State × Reply} (transplant_opening sha256 state t) _ (other_says P _ (transplant_opening_causes sha256 is_other others.early state t)) (λ branch is.
    let finds = from_ok (λ (x : Reference). reference_of state.references t.branch ≡ Some x) (transplant_opening sha256 state t) branch (transplant_finds state t) is in
    let at : branch.head ≡ head = one_head state (commands.Transplant t) branch.head head (branch, finds, refl) has in
    planned_says P state (transplant_plans state t branch opened moment)
    (refl, (λ i. key_set (expired_keys state (all_set (transplant_planned state t (at i)))))))

-- the step of a call in its draft, upon the head
call_says : (state : State) (call : Call) (turn : Turn) (head : Hash) → HasHead state (command_of call) head → Says (IsGone state (command_of call) turn.opened head) (step sha256 state (command_of call) turn)
call_says state (calls.Commit r g) turn head has = other_says (IsGone state (commands.Commit r.now) turn.opened head) _ (commit_causes sha256 is_other others state r.now turn.draft turn.moment)
call_says state (calls.Merge m) turn head has = merge_says state m.now turn.opened turn.moment head has
call_says state (calls.Transplant t) turn head has = transplant_says state t.now turn.opened turn.moment head has

-- ---- what is told of an attempt

same_why : (place : ℕ) (why : Refusal) (r : Refused) → ◌≡◌ {A = Result Told Refused} (Err (record { place = Some place; why = why })) (Err r) → r.why ≡ why
same_why place why r e = let it : Refused = record { place = Some place; why = why } in let same : it ≡ r = cc in sym (ap (λ (x : Refused). x.why) same)

-- it is no refusal
abbrev IsAnswered : Called → Type 0
IsAnswered c = (r : Refused) → c.said ≡ Err r → ⊥

answered_choice : (test : Bool) (x y : Called) → IsAnswered x → IsAnswered y → IsAnswered (if test then x else y)
answered_choice true x y p q = p
answered_choice false x y p q = q

answered : (caller : ℕ) (state : State) (draft : ℕ) (command : Command) (turn : Turn) (after : State) (reply : Reply) → IsAnswered (stepped sha256 caller state draft command turn (Ok (after, reply)))
answered caller state draft command turn after reply = answered_choice (nat_lt state.place after.place) _ _ (λ r e. cc) (λ r e. cc)

stepped_why : (caller : ℕ) (state : State) (draft : ℕ) (command : Command) (turn : Turn) (outcome : Outcome) (r : Refused) → (stepped sha256 caller state draft command turn outcome).said ≡ Err r → outcome ≡ Err r.why
stepped_why caller state draft command turn (Err why) r e = let same : why ≡ r.why = sym (same_why state.place why r e) in (λ i. Err (same i))
stepped_why caller state draft command turn (Ok (after, reply)) r e = absurd (answered caller state draft command turn after reply r e)

abbrev Tries : State → Command → Turn → Refusal → Type 0
Tries state command turn why = (opening sha256 state command ≡ Ok tt) × (step sha256 state command turn ≡ Err why)

tried_why : (caller : ℕ) (state : State) (last : ℕ) (command : Command) (turn : Turn) (tested : Tested) (r : Refused) → opening sha256 state command ≡ tested → (tried sha256 caller state last command turn tested).said ≡ Err r → is_expired r.why ≡ true → Tries state command turn r.why
tried_why caller state last command turn (Err why) r is e gone =
    let same : r.why ≡ why = same_why state.place why r e in
    let no : true ≡ false = sym gone ∙ ap is_expired same ∙ opening_there state command why is in
    absurd cc
tried_why caller state last command turn (Ok u) r is e gone = (is, stepped_why caller state (max last turn.draft) command turn (step sha256 state command turn) r e)

attempt_why : (book : Book) (caller moment number opened : ℕ) (command : Command) (r : Refused) → (attempt_on sha256 book (in_draft caller moment number opened) command).said ≡ Err r → is_expired r.why ≡ true
    → Tries book.state command (record { draft = number; opened = opened; moment = moment }) r.why
unfolding attempt
attempt_why book caller moment number opened command r e gone =
    tried_why caller book.state book.draft command (record { draft = number; opened = opened; moment = moment }) (opening sha256 book.state command) r refl e gone

-- ---- where a draft is settled

module _ {K : Type 0} (s : Stored K) (d : Draft) (moment : ℕ) (r : Refused) (keys : List Key) (place : ℕ) (said : (called_in s d moment).said ≡ Err r) (why : r.why ≡ Expired keys place) where
  tries : Tries s.book.state (command_in d) (record { draft = d.number; opened = d.place; moment = moment }) r.why
  tries = attempt_why s.book d.caller moment d.number d.place (command_in d) r said (ap is_expired why)

  gone_by : (head : Hash) → IsLasting s.book (open_draft_of d) → HasHead s.book.state (command_in d) head → IsGoneSince s d head keys place
  gone_by head lasting has =
      let state = s.book.state in
      let turn : Turn = record { draft = d.number; opened = d.place; moment = moment } in
      let P = IsGone state (command_in d) d.place head in
      let both : P keys place = subst (λ (o : Outcome). Says P o) tries.1 (call_says state d.call turn head has) keys place why in
      record {
        opened = both.0;
        never = both.1 ∙ ap key_set (never_was s.book d.place (set_upon state (command_in d) head) (is_kept state.commits (names_of sha256 d.number (command_in d))) (set_kept state (command_in d) d.number head) (λ entry kept had. lasting.stays entry.hash kept had));
      }

-- it is told that contents are gone only where they were there at no moment since its opening
pub gone_tells : {K : Type 0} (s s' : Stored K) (d : Draft) (built : Built) (moment : ℕ) (result : Settled) → IsHolding s.book s.left_open.drafts s.left_open.sweep → IsOpen (open_draft_of d) (drafts_of d.caller s.left_open.drafts) → Settles s d built moment result s' → TellsGone s d built.head result
gone_tells {K} s s' d built moment (settled.Done told) holding there settles = tt
gone_tells {K} s s' d built moment (settled.Moved e view) holding there settles = tt
gone_tells {K} s s' d built moment (settled.Refused r) holding there settles = λ keys place why.
    let expires : Expires (called_in s d moment) s d r s' = subst (λ (w : Refusal). RefusesDraft (called_in s d moment) s d r w s') why settles.1 in
    let none : r.why ≡ NoMemory → ⊥ = λ e. let no : Expired keys place ≡ NoMemory = sym why ∙ e in cc in
    gone_by s d moment r keys place expires.said why built.head
    (lasting_of s.book (open_draft_of d) s.left_open.drafts holding.lasting (in_all d.caller (open_draft_of d) s.left_open.drafts there))
    (settles.0 expires.up (tries s d moment r keys place expires.said why).0 none)
