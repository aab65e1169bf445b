-- Why steps refuse: all of them are gone through once, for any set of causes.
use Rattle.std.specs.Prelude.{◌≡◌, ℕ, ◌+◌, nat_le, nat_lt, List, [], ◌∷◌, length, map, filter_map, Option, Some, None, Result, Ok, Err, Bool, true, false, if◌then◌else◌}
use Rattle.cat_names.specs.declared.hash.Hash.{Hash}
use Rattle.cat_model.specs.declared.command.Assign.{Assign}
use Rattle.cat_model.specs.declared.command.Command.{Command}
use Rattle.cat_model.specs.declared.command.Command.TheVariants as commands
use Rattle.cat_model.specs.declared.command.CommitRequest.{CommitRequest}
use Rattle.cat_model.specs.declared.command.Create.{Create}
use Rattle.cat_model.specs.declared.command.Delete.{Delete}
use Rattle.cat_model.specs.declared.command.Merge.{Merge}
use Rattle.cat_model.specs.declared.command.Transplant.{Transplant}
use Rattle.cat_model.specs.declared.commit.Commit.{Commit}
use Rattle.cat_model.specs.declared.conflict.Conflict.{Conflict}
use Rattle.cat_model.specs.declared.content.Content.{Content}
use Rattle.cat_model.specs.declared.limits.Quantity.TheVariants as quantities
use Rattle.cat_model.specs.declared.op.Op.{Op}
use Rattle.cat_model.specs.declared.reference.Kind.{Kind}
use Rattle.cat_model.specs.declared.reference.Position.{Position}
use Rattle.cat_model.specs.declared.reference.Reference.{Reference}
use Rattle.cat_model.specs.declared.refusal.Reason.{Reason}
use Rattle.cat_model.specs.declared.refusal.Reason.TheVariants.{NotConsecutive}
use Rattle.cat_model.specs.declared.refusal.Refusal.{Refusal}
use Rattle.cat_model.specs.declared.refusal.Refusal.TheVariants.{BadRequest, Collision, Conflicts, Limit, RefExists, RefNotFound}
use Rattle.cat_model.specs.declared.reply.Reply.{Reply}
use Rattle.cat_model.specs.Chain.{entries}
use Rattle.cat_model.specs.Commits.{commit_opening, committed, given_ops, needs_commit_room, or_conflicts, puts, request_commit, step_commit}
use Rattle.cat_model.specs.Contents.{content_code}
use Rattle.cat_model.specs.Formats.{commit_code}
use Rattle.cat_model.specs.Judge.{judge}
use Rattle.cat_model.specs.Maps.{Map}
use Rattle.cat_model.specs.Merges.{Planned, Plans, all_conflicts, all_set, commits_made, merge_opening, merge_plans, needs_planned_room, needs_set_contents, planned_commit, step_applied, step_merge, step_planned, step_unless_conflicts, with_planned}
use Rattle.cat_model.specs.Moves.{needs_contents, needs_head, needs_log, needs_new_name, needs_other_than_default, step_assign, step_create, step_delete}
use Rattle.cat_model.specs.Records.{added, commit_bytes, content_bytes, with_commit, with_content, with_contents}
use Rattle.cat_model.specs.Refusing.{◌>>=◌, found, named, needs, needs_at_most, needs_branch, needs_kind, needs_room, needs_source_kind, perhaps_named, pointed, positioned}
use Rattle.cat_model.specs.State.{Digest, State, commit_hash, content_hash}
use Rattle.cat_model.specs.Step.{Turn, opening, step}
use Rattle.cat_model.specs.Transplants.{are_consecutive, needs_on_chain, step_transplant, transplant_opening, transplant_plans}

-- if it refuses, its cause is among these
abbrev pub Causes : {A : Type 0} → (Refusal → Bool) → Result A Refusal → Type 0
Causes among (Ok x) = Unit {0}
Causes among (Err why) = among why ≡ true

pub causes_bind : (among : Refusal → Bool) {A B : Type 0} (r : Result A Refusal) (f : A → Result B Refusal) → Causes among r → ((x : A) → Causes among (f x)) → Causes among (r >>= f)
causes_bind among (Ok x) f p q = q x
causes_bind among (Err why) f p q = p

pub causes_choice : (among : Refusal → Bool) {A : Type 0} (b : Bool) (x : A) (why : Refusal) → among why ≡ true → Causes among (if b then Ok x else Err why)
causes_choice among true x why p = tt
causes_choice among false x why p = p

pub causes_needs : (among : Refusal → Bool) (b : Bool) (why : Refusal) → among why ≡ true → Causes among (needs b why)
causes_needs among b why p = causes_choice among b (tt {0}) why p

pub causes_found : (among : Refusal → Bool) {A : Type 0} (o : Option A) (why : Refusal) → among why ≡ true → Causes among (found o why)
causes_found among None why p = p
causes_found among (Some x) why p = tt

-- ---- the tests before a draft

-- what is asked for can't be done, or isn't there
pub record HasEarly (among : Refusal → Bool) : Type 0 where
  pub bad : (reason : Reason) → among (BadRequest reason) ≡ true
  pub missing : among RefNotFound ≡ true

module _ (digest : Digest) (among : Refusal → Bool) (early : HasEarly among) where
  pub named_causes : (state : State) (name : List ℕ) → Causes among (named state name)
  named_causes state name = causes_found among _ RefNotFound early.missing

  pub perhaps_causes : (state : State) (name : Option (List ℕ)) → Causes among (perhaps_named state name)
  perhaps_causes state None = tt
  perhaps_causes state (Some name) = causes_bind among (named state name) (λ r. Ok (Some r)) (named_causes state name) (λ r. tt)

  pub pointed_causes : (state : State) (reference : Option Reference) (hash : Option Hash) → Causes among (pointed digest state reference hash)
  pointed_causes state (Some reference) None = tt
  pointed_causes state (Some reference) (Some hash) = causes_choice among _ hash RefNotFound early.missing
  pointed_causes state None (Some hash) = causes_choice among _ hash RefNotFound early.missing
  pointed_causes state None None = early.missing

  pub positioned_causes : (state : State) (reference : Option Reference) (p : Position) → Causes among (positioned digest state reference p)
  positioned_causes state reference p =
      causes_bind among (pointed digest state reference p.from.hash) _ (pointed_causes state reference p.from.hash) (λ hash. causes_found among _ RefNotFound early.missing)

  branch_causes : (branch : Reference) → Causes among (needs_branch branch)
  branch_causes branch = causes_needs among _ (BadRequest _) (early.bad _)

  pub commit_opening_causes : (state : State) (c : CommitRequest) → Causes among (commit_opening digest state c)
  unfolding commit_opening
  commit_opening_causes state c =
      causes_bind among {B = Reference × Hash} (named state c.branch) _ (named_causes state c.branch) (λ branch.
      causes_bind among {B = Reference × Hash} (needs_branch branch) _ (branch_causes branch) (λ u.
      causes_bind among {B = Reference × Hash} (pointed digest state (Some branch) c.expected) _ (pointed_causes state (Some branch) c.expected) (λ h. tt)))

  pub merge_opening_causes : (state : State) (m : Merge) → Causes among (merge_opening digest state m)
  unfolding merge_opening
  merge_opening_causes state m =
      causes_bind among {B = Reference × Hash} (named state m.branch) _ (named_causes state m.branch) (λ branch.
      causes_bind among {B = Reference × Hash} (named state m.from) _ (named_causes state m.from) (λ from.
      causes_bind among {B = Reference × Hash} (needs_branch branch) _ (branch_causes branch) (λ u.
      causes_bind among {B = Reference × Hash} (pointed digest state (Some branch) m.hash) _ (pointed_causes state (Some branch) m.hash) (λ h.
      causes_bind among {B = Reference × Hash} (pointed digest state (Some from) (Some m.from_hash)) _ (pointed_causes state (Some from) (Some m.from_hash)) (λ source. tt)))))

  pub transplant_opening_causes : (state : State) (t : Transplant) → Causes among (transplant_opening digest state t)
  unfolding transplant_opening
  transplant_opening_causes state t =
      causes_bind among {B = Reference} (named state t.branch) _ (named_causes state t.branch) (λ branch.
      causes_bind among {B = Reference} (named state t.from) _ (named_causes state t.from) (λ from.
      causes_bind among {B = Reference} (needs_branch branch) _ (branch_causes branch) (λ u.
      causes_bind among {B = Reference} (pointed digest state (Some branch) t.hash) _ (pointed_causes state (Some branch) t.hash) (λ h.
      causes_bind among {B = Reference} (needs_on_chain state from t.hashes) _ (causes_needs among _ RefNotFound early.missing) (λ u.
      causes_bind among {B = Reference} (needs (are_consecutive state.commits t.hashes) (BadRequest NotConsecutive)) (λ _. Ok branch) (causes_needs among _ (BadRequest NotConsecutive) (early.bad NotConsecutive)) (λ u. tt))))))

  pub opening_causes : (state : State) (c : Command) → Causes among (opening digest state c)
  opening_causes state (commands.Create c) = tt
  opening_causes state (commands.Assign c) = tt
  opening_causes state (commands.Delete c) = tt
  opening_causes state (commands.Commit c) = causes_bind among (commit_opening digest state c) (λ _. Ok tt) (commit_opening_causes state c) (λ o. tt)
  opening_causes state (commands.Merge m) = causes_bind among (merge_opening digest state m) (λ _. Ok tt) (merge_opening_causes state m) (λ o. tt)
  opening_causes state (commands.Transplant t) = causes_bind among (transplant_opening digest state t) (λ _. Ok tt) (transplant_opening_causes state t) (λ o. tt)

-- ---- steps, but for contents that are gone

pub record HasSteps (among : Refusal → Bool) : Type 0 where
  pub early : HasEarly among
  pub exists : among RefExists ≡ true
  pub conflicts : (list : List Conflict) → among (Conflicts list) ≡ true
  pub references : (n : ℕ) → among (Limit quantities.References n) ≡ true
  pub log : (n : ℕ) → among (Limit quantities.Log n) ≡ true
  pub commits : (n : ℕ) → among (Limit quantities.Commits n) ≡ true
  pub keys : (n : ℕ) → among (Limit quantities.Keys n) ≡ true
  pub contents : (n : ℕ) → among (Limit quantities.Contents n) ≡ true
  pub collision : (hash : Hash) (kept bytes : List ℕ) → among (Collision hash kept bytes) ≡ true

module _ (digest : Digest) (among : Refusal → Bool) (has : HasSteps among) where
  kind_causes : (kind : Option Kind) (reference : Reference) → Causes among (needs_kind kind reference)
  kind_causes kind reference = causes_needs among _ (BadRequest _) (has.early.bad _)

  source_causes : (kind : Option Kind) (source : Option Reference) → Causes among (needs_source_kind kind source)
  source_causes kind None = tt
  source_causes kind (Some reference) = kind_causes kind reference

  head_causes : (expected : Option Hash) (head : Hash) → Causes among (needs_head expected head)
  head_causes expected head = causes_needs among _ (Conflicts _) (has.conflicts _)

  log_causes : (state : State) → Causes among (needs_log state)
  log_causes state = causes_needs among _ (Limit quantities.Log state.limits.log) (has.log _)

  -- ---- references

  pub create_causes : (state : State) (c : Create) → ((hash : Hash) → Causes among (needs_contents state hash)) → Causes among (step_create digest state c)
  unfolding step_create
  create_causes state c held =
      causes_bind among {B = State × Reply} (perhaps_named state c.source.name) _ (perhaps_causes digest among has.early state c.source.name) (λ source.
      causes_bind among {B = State × Reply} (needs_source_kind c.source_kind source) _ (source_causes c.source_kind source) (λ u.
      causes_bind among {B = State × Reply} (pointed digest state source c.source.hash) _ (pointed_causes digest among has.early state source c.source.hash) (λ hash.
      causes_bind among {B = State × Reply} (needs_new_name state c.name) _ (causes_needs among _ RefExists has.exists) (λ u.
      causes_bind among {B = State × Reply} (needs_room (length state.references) state.limits.references quantities.References) _ (causes_needs among _ (Limit quantities.References state.limits.references) (has.references _)) (λ u.
      causes_bind among {B = State × Reply} (needs_log state) _ (log_causes state) (λ u.
      causes_bind among {B = State × Reply} (needs_contents state hash) _ (held hash) (λ u. tt)))))))

  pub assign_causes : (state : State) (c : Assign) → ((hash : Hash) → Causes among (needs_contents state hash)) → Causes among (step_assign digest state c)
  unfolding step_assign
  assign_causes state c held =
      causes_bind among {B = State × Reply} (named state c.name) _ (named_causes digest among has.early state c.name) (λ reference.
      causes_bind among {B = State × Reply} (perhaps_named state c.source.name) _ (perhaps_causes digest among has.early state c.source.name) (λ source.
      causes_bind among {B = State × Reply} (needs_kind c.kind reference) _ (kind_causes c.kind reference) (λ u.
      causes_bind among {B = State × Reply} (needs_source_kind c.source_kind source) _ (source_causes c.source_kind source) (λ u.
      causes_bind among {B = State × Reply} (pointed digest state source c.source.hash) _ (pointed_causes digest among has.early state source c.source.hash) (λ hash.
      causes_bind among {B = State × Reply} (needs_log state) _ (log_causes state) (λ u.
      causes_bind among {B = State × Reply} (needs_head c.expected reference.head) _ (head_causes c.expected reference.head) (λ u.
      causes_bind among {B = State × Reply} (needs_contents state hash) _ (held hash) (λ u. tt))))))))

  pub delete_causes : (state : State) (c : Delete) → Causes among (step_delete state c)
  unfolding step_delete
  delete_causes state c =
      causes_bind among {B = State × Reply} (named state c.name) _ (named_causes digest among has.early state c.name) (λ reference.
      causes_bind among {B = State × Reply} (needs_other_than_default c.name) _ (causes_needs among _ (BadRequest _) (has.early.bad _)) (λ u.
      causes_bind among {B = State × Reply} (needs_kind c.kind reference) _ (kind_causes c.kind reference) (λ u.
      causes_bind among {B = State × Reply} (needs_log state) _ (log_causes state) (λ u.
      causes_bind among {B = State × Reply} (needs_head c.expected reference.head) _ (head_causes c.expected reference.head) (λ u. tt)))))

  -- ---- commits

  added_causes : (state more : State) (hash : Hash) (kept : Option (List ℕ)) (bytes : List ℕ) → Causes among (added state more hash kept bytes)
  added_causes state more hash None bytes = tt
  added_causes state more hash (Some kept) bytes = causes_choice among _ state (Collision hash kept bytes) (has.collision hash kept bytes)

  with_commit_causes : (state : State) (c : Commit) → Causes among (with_commit digest state c)
  unfolding with_commit
  with_commit_causes state c =
      let hash = commit_hash digest c in
      added_causes state (record state { commits = (hash, c) ∷ state.commits }) hash (commit_bytes digest state hash) ((commit_code).spell c)

  with_contents_causes : (state : State) (contents : List Content) → Causes among (with_contents digest state contents)
  unfolding with_content
  with_contents_causes state [] = tt
  with_contents_causes state (c ∷ contents) =
      let hash = content_hash digest c in
      causes_bind among (with_content digest state c) _ (added_causes state (record state { present = (hash, c) ∷ state.present }) hash (content_bytes state hash) ((content_code).spell c)) (λ more. with_contents_causes more contents)

  commit_room_causes : (state : State) (map : Map) (count : ℕ) → Causes among (needs_commit_room state map count)
  unfolding needs_commit_room
  commit_room_causes state map count =
      causes_bind among {B = Unit {0}} (needs_room state.place state.limits.log quantities.Log) _ (log_causes state) (λ u.
      causes_bind among {B = Unit {0}} (needs_room (length state.commits) state.limits.commits quantities.Commits) _ (causes_needs among (nat_lt (length state.commits) state.limits.commits) (Limit quantities.Commits state.limits.commits) (has.commits _)) (λ u.
      causes_bind among {B = Unit {0}} (needs_at_most (length map + count) state.limits.keys quantities.Keys) _ (causes_needs among (nat_le (length map + count) state.limits.keys) (Limit quantities.Keys state.limits.keys) (has.keys _)) (λ u.
      causes_needs among (nat_le (length state.present + count) state.limits.contents) (Limit quantities.Contents state.limits.contents) (has.contents _))))

  conflicts_causes : (judged : Result Map (List Conflict)) → Causes among (or_conflicts judged)
  conflicts_causes (Ok map) = tt
  conflicts_causes (Err list) = has.conflicts list

  rest_causes : (state : State) (judged : Result Map (List Conflict)) (contents : List Content) (commit : Commit) (last : State → State × Reply)
      → Causes among (or_conflicts judged >>= λ _. with_contents digest state contents >>= λ held. with_commit digest held commit >>= λ more. Ok (last more))
  rest_causes state judged contents commit last =
      causes_bind among {B = State × Reply} (or_conflicts judged) (λ _. with_contents digest state contents >>= λ held. with_commit digest held commit >>= λ more. Ok (last more)) (conflicts_causes judged) (λ m.
      causes_bind among {B = State × Reply} (with_contents digest state contents) (λ held. with_commit digest held commit >>= λ more. Ok (last more)) (with_contents_causes state contents) (λ held.
      causes_bind among {B = State × Reply} (with_commit digest held commit) (λ more. Ok (last more)) (with_commit_causes held commit) (λ more. tt {0})))

  pub commit_causes : (state : State) (c : CommitRequest) (draft moment : ℕ) → Causes among (step_commit digest state c draft moment)
  unfolding step_commit
  commit_causes state c draft moment =
      causes_bind among {B = State × Reply} (commit_opening digest state c) _ (commit_opening_causes digest among has.early state c) (λ (branch, expected).
      let ops : List Op = map (λ (x : Op × Option Content). x.0) (given_ops digest draft c) in
      let commit : Commit = request_commit state branch.head moment c ops in
      causes_bind among {B = State × Reply} (needs_commit_room state (entries state.commits branch.head) (puts ops)) _ (commit_room_causes state _ _) (λ u.
      rest_causes state (judge (entries state.commits expected) (entries state.commits branch.head) ops) (filter_map (λ (x : Op × Option Content). x.1) (given_ops digest draft c)) commit (λ more. committed more (record branch { head = commit_hash digest commit }) ops)))

  -- ---- plans

  pub plan_room_causes : (state : State) (head : Map) (planned : List Planned) → Causes among (needs_planned_room state head planned)
  unfolding needs_planned_room
  plan_room_causes state head planned =
      causes_bind among {B = Unit {0}} (needs_log state) _ (log_causes state) (λ u.
      causes_bind among {B = Unit {0}} (needs_at_most (length state.commits + length (commits_made planned)) state.limits.commits quantities.Commits) _ (causes_needs among (nat_le (length state.commits + length (commits_made planned)) state.limits.commits) (Limit quantities.Commits state.limits.commits) (has.commits _)) (λ u.
      causes_needs among (nat_le (length head + length (all_set planned)) state.limits.keys) (Limit quantities.Keys state.limits.keys) (has.keys _)))

  pub with_planned_causes : (moment : ℕ) (state : State) (head : Hash) (planned : List Planned) → Causes among (with_planned digest moment state head planned)
  with_planned_causes moment state head [] = tt
  with_planned_causes moment state head (p ∷ planned) =
      let commit : Commit = planned_commit state.commits head moment p in
      causes_bind among {B = Hash × State} (with_commit digest state commit) _ (with_commit_causes state commit) (λ more. with_planned_causes moment more (commit_hash digest commit) planned)

  applied_causes : (state : State) (p : Plans) → Causes among (needs_set_contents state p.planned p.opened) → Causes among (step_applied digest state p)
  unfolding step_applied
  applied_causes state p held =
      causes_bind among {B = State × Reply} (needs_set_contents state p.planned p.opened) _ held (λ u.
      causes_bind among {B = State × Reply} (with_planned digest p.moment state p.branch.head (commits_made p.planned)) _ (with_planned_causes p.moment state p.branch.head (commits_made p.planned)) (λ made. tt))

  unless_causes : (state : State) (p : Plans) (list : List Conflict) → Causes among (needs_set_contents state p.planned p.opened) → Causes among (step_unless_conflicts digest state p list)
  unless_causes state p [] held = applied_causes state p held
  unless_causes state p (x ∷ list) held = causes_choice among {A = State × Reply} p.asked.conflicts_as_result _ (Conflicts (x ∷ list)) (has.conflicts (x ∷ list))

  planned_causes : (state : State) (p : Plans) → Causes among (needs_set_contents state p.planned p.opened) → Causes among (step_planned digest state p)
  planned_causes state p held =
      causes_bind among {B = State × Reply} (needs_planned_room state (entries state.commits p.branch.head) p.planned) _ (plan_room_causes state (entries state.commits p.branch.head) p.planned) (λ u. unless_causes state p (all_conflicts p.planned) held)

  pub merge_causes : (state : State) (m : Merge) (opened moment : ℕ) → ((planned : List Planned) → Causes among (needs_set_contents state planned opened)) → Causes among (step_merge digest state m opened moment)
  unfolding step_merge
  merge_causes state m opened moment held =
      causes_bind among (merge_opening digest state m) _ (merge_opening_causes digest among has.early state m) (λ (branch, source). let plans = merge_plans state m branch source opened moment in planned_causes state plans (held plans.planned))

  pub transplant_causes : (state : State) (t : Transplant) (opened moment : ℕ) → ((planned : List Planned) → Causes among (needs_set_contents state planned opened)) → Causes among (step_transplant digest state t opened moment)
  unfolding step_transplant
  transplant_causes state t opened moment held =
      causes_bind among (transplant_opening digest state t) _ (transplant_opening_causes digest among has.early state t) (λ branch. let plans = transplant_plans state t branch opened moment in planned_causes state plans (held plans.planned))

  -- ---- every call

  pub step_causes : (state : State) (c : Command) (turn : Turn) → ((hash : Hash) → Causes among (needs_contents state hash)) → ((planned : List Planned) → Causes among (needs_set_contents state planned turn.opened)) → Causes among (step digest state c turn)
  step_causes state (commands.Create c) turn held set = create_causes state c held
  step_causes state (commands.Assign c) turn held set = assign_causes state c held
  step_causes state (commands.Delete c) turn held set = delete_causes state c
  step_causes state (commands.Commit c) turn held set = commit_causes state c turn.draft turn.moment
  step_causes state (commands.Merge m) turn held set = merge_causes state m turn.opened turn.moment set
  step_causes state (commands.Transplant t) turn held set = transplant_causes state t turn.opened turn.moment set
