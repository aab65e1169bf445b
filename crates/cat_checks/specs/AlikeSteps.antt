-- Of states that are the same and have each content once, the same call logs the same, and leaves states that are so again.
use Rattle.std.proofs.Common.{◌≡◌, ℕ, max, List, [], ◌∷◌, length, map, filter_map, Option, Some, Ok, Err, Bool, true, false, not, ◌||◌, nat_lt, if◌then◌else◌, refl, sym, ap, subst}
use Rattle.std.specs.List.{list_any}
use Rattle.cat_names.specs.Fields.{Key}
use Rattle.cat_names.specs.declared.hash.Hash.{Hash}
use Rattle.cat_model.specs.declared.command.Assign.{Assign}
use Rattle.cat_model.specs.declared.command.Command.{Command}
use Rattle.cat_model.specs.declared.command.Command.TheVariants as commands
use Rattle.cat_model.specs.declared.command.CommitRequest.{CommitRequest}
use Rattle.cat_model.specs.declared.command.Create.{Create}
use Rattle.cat_model.specs.declared.command.Delete.{Delete}
use Rattle.cat_model.specs.declared.command.Merge.{Merge}
use Rattle.cat_model.specs.declared.command.Transplant.{Transplant}
use Rattle.cat_model.specs.declared.commit.Commit.{Commit}
use Rattle.cat_model.specs.declared.conflict.Conflict.{Conflict}
use Rattle.cat_model.specs.declared.content.Content.{Content}
use Rattle.cat_model.specs.declared.limits.Quantity.TheVariants as quantities
use Rattle.cat_model.specs.declared.log_entry.Action.TheVariants as actions
use Rattle.cat_model.specs.declared.op.Op.{Op}
use Rattle.cat_model.specs.declared.refusal.Reason.TheVariants.{NotConsecutive}
use Rattle.cat_model.specs.declared.refusal.Refusal.{Refusal}
use Rattle.cat_model.specs.declared.refusal.Refusal.TheVariants.{BadRequest, Conflicts}
use Rattle.cat_model.specs.declared.reply.Reply.{Reply}
use Rattle.cat_model.specs.Calls.{Called, attempt, entry_made, in_draft, stepped, tried, unchanged_by}
use Rattle.cat_model.specs.Chain.{entries}
use Rattle.cat_model.specs.Commits.{commit_opening, given_ops, needs_commit_room, or_conflicts, puts, request_commit, step_commit}
use Rattle.cat_model.specs.Judge.{judge}
use Rattle.cat_model.specs.Merges.{Planned, Plans, all_conflicts, all_set, applied, commits_made, has_changes, merge_opening, merge_planned, merge_plans, merge_reply, needs_planned_room, needs_set_contents, planned_commit, step_applied, step_merge, step_planned, step_unless_conflicts, with_planned}
use Rattle.cat_model.specs.KeySets.{key_set}
use Rattle.cat_model.specs.Moves.{needs_contents, needs_head, needs_log, needs_new_name, needs_other_than_default, step_assign, step_create, step_delete}
use Rattle.cat_model.specs.Records.{needs_no_expired, with_commit, with_contents}
use Rattle.cat_model.specs.Refusing.{◌>>=◌, Outcome, Tested, named, needs, needs_branch, needs_kind, needs_room, needs_source_kind, perhaps_named, pointed}
use Rattle.cat_model.specs.State.{Digest, State, commit_hash, moved_reference}
use Rattle.cat_model.specs.Step.{Turn, head_left, logged_command, opening, step}
use Rattle.cat_model.specs.Transplants.{are_consecutive, needs_on_chain, step_transplant, transplant_opening, transplant_planned, transplant_plans}
use Rattle.cat_checks.specs.AlikeStates.{AreAlike, AreSameContents, BothBy, both_bind, both_choice, commit_alike, contents_alike, contents_needed_alike, expired_alike, holding, holding_alike, on_alike, perhaps_alike, pointed_alike, referenced_alike, room_alike, same_bind}

-- ---- outcomes

-- states that are alike, and the same reply
abbrev pub LeadAlike : State × Reply → State × Reply → Type 0
LeadAlike x y = AreAlike x.0 y.0 × (y.1 ≡ x.1)

abbrev pub OutcomesAlike : Outcome → Outcome → Type 0
OutcomesAlike r s = BothBy LeadAlike r s

abbrev HeadsAlike : Hash × State → Hash × State → Type 0
HeadsAlike x y = (y.0 ≡ x.0) × AreAlike x.1 y.1

lead_choice : (test : Bool) (x y u v : State × Reply) → LeadAlike x u → LeadAlike y v → LeadAlike (if test then x else y) (if test then u else v)
lead_choice true x y u v p q = p
lead_choice false x y u v p q = q

-- ---- references

module _ (digest : Digest) (a : State) (p : List (Hash × Content)) (same : AreSameContents a.present p) where
  create_alike : (c : Create) → OutcomesAlike (step_create digest a c) (step_create digest (holding a p) c)
  unfolding step_create
  create_alike c =
      same_bind LeadAlike (perhaps_named a c.source.name) (perhaps_named (holding a p) c.source.name) _ _ (perhaps_alike a p c.source.name) (λ source.
      same_bind LeadAlike (needs_source_kind c.source_kind source) (needs_source_kind c.source_kind source) _ _ refl (λ u.
      same_bind LeadAlike (pointed digest a source c.source.hash) (pointed digest (holding a p) source c.source.hash) _ _ (pointed_alike digest a p source c.source.hash) (λ hash.
      same_bind LeadAlike (needs_new_name a c.name) (needs_new_name a c.name) _ _ refl (λ u.
      same_bind LeadAlike (needs_room (length a.references) a.limits.references quantities.References) (needs_room (length a.references) a.limits.references quantities.References) _ _ refl (λ u.
      same_bind LeadAlike (needs_log a) (needs_log a) _ _ refl (λ u.
      same_bind LeadAlike (needs_contents a hash) (needs_contents (holding a p) hash) _ _ (contents_needed_alike a p same hash) (λ u.
      (referenced_alike a (holding a p) _ _ (holding_alike a p same) refl, refl))))))))

  assign_alike : (c : Assign) → OutcomesAlike (step_assign digest a c) (step_assign digest (holding a p) c)
  unfolding step_assign
  assign_alike c =
      same_bind LeadAlike (named a c.name) (named a c.name) _ _ refl (λ reference.
      same_bind LeadAlike (perhaps_named a c.source.name) (perhaps_named (holding a p) c.source.name) _ _ (perhaps_alike a p c.source.name) (λ source.
      same_bind LeadAlike (needs_kind c.kind reference) (needs_kind c.kind reference) _ _ refl (λ u.
      same_bind LeadAlike (needs_source_kind c.source_kind source) (needs_source_kind c.source_kind source) _ _ refl (λ u.
      same_bind LeadAlike (pointed digest a source c.source.hash) (pointed digest (holding a p) source c.source.hash) _ _ (pointed_alike digest a p source c.source.hash) (λ hash.
      same_bind LeadAlike (needs_log a) (needs_log a) _ _ refl (λ u.
      same_bind LeadAlike (needs_head c.expected reference.head) (needs_head c.expected reference.head) _ _ refl (λ u.
      same_bind LeadAlike (needs_contents a hash) (needs_contents (holding a p) hash) _ _ (contents_needed_alike a p same hash) (λ u.
      (referenced_alike a (holding a p) _ _ (holding_alike a p same) refl, refl)))))))))

  delete_alike : (c : Delete) → OutcomesAlike (step_delete a c) (step_delete (holding a p) c)
  unfolding step_delete
  delete_alike c =
      same_bind LeadAlike (named a c.name) (named a c.name) _ _ refl (λ reference.
      same_bind LeadAlike (needs_other_than_default c.name) (needs_other_than_default c.name) _ _ refl (λ u.
      same_bind LeadAlike (needs_kind c.kind reference) (needs_kind c.kind reference) _ _ refl (λ u.
      same_bind LeadAlike (needs_log a) (needs_log a) _ _ refl (λ u.
      same_bind LeadAlike (needs_head c.expected reference.head) (needs_head c.expected reference.head) _ _ refl (λ u.
      (referenced_alike a (holding a p) _ _ (holding_alike a p same) refl, refl))))))

-- ---- what is opened

module _ (digest : Digest) (a : State) (p : List (Hash × Content)) where
  commit_opens_alike : (c : CommitRequest) → commit_opening digest (holding a p) c ≡ commit_opening digest a c
  unfolding commit_opening
  commit_opens_alike c = λ i.
      named a c.branch >>= λ branch.
      needs_branch branch >>= λ _.
      pointed_alike digest a p (Some branch) c.expected i >>= λ expected.
      Ok (branch, expected)

  merge_opens_alike : (m : Merge) → merge_opening digest (holding a p) m ≡ merge_opening digest a m
  unfolding merge_opening
  merge_opens_alike m = λ i.
      named a m.branch >>= λ branch.
      named a m.from >>= λ from.
      needs_branch branch >>= λ _.
      pointed_alike digest a p (Some branch) m.hash i >>= λ _.
      pointed_alike digest a p (Some from) (Some m.from_hash) i >>= λ source.
      Ok (branch, source)

  transplant_opens_alike : (t : Transplant) → transplant_opening digest (holding a p) t ≡ transplant_opening digest a t
  unfolding transplant_opening
  transplant_opens_alike t = λ i.
      named a t.branch >>= λ branch.
      named a t.from >>= λ from.
      needs_branch branch >>= λ _.
      pointed_alike digest a p (Some branch) t.hash i >>= λ _.
      needs_on_chain a from t.hashes >>= λ _.
      needs (are_consecutive a.commits t.hashes) (BadRequest NotConsecutive) >>= λ _.
      Ok branch

  opens_alike : (command : Command) → opening digest (holding a p) command ≡ opening digest a command
  opens_alike (commands.Create c) = refl
  opens_alike (commands.Assign c) = refl
  opens_alike (commands.Delete c) = refl
  opens_alike (commands.Commit c) = λ i. commit_opens_alike c i >>= λ _. Ok tt
  opens_alike (commands.Merge m) = λ i. merge_opens_alike m i >>= λ _. Ok tt
  opens_alike (commands.Transplant t) = λ i. transplant_opens_alike t i >>= λ _. Ok tt

-- ---- commits

module _ (digest : Digest) (a : State) (p : List (Hash × Content)) (same : AreSameContents a.present p) where
  commits_alike : (c : CommitRequest) (draft moment : ℕ) → OutcomesAlike (step_commit digest a c draft moment) (step_commit digest (holding a p) c draft moment)
  unfolding step_commit request_commit
  commits_alike c draft moment =
      same_bind LeadAlike (commit_opening digest a c) (commit_opening digest (holding a p) c) _ _ (commit_opens_alike digest a p c) (λ (branch, expected).
      let contents : List Content = filter_map (λ (x : Op × Option Content). x.1) (given_ops digest draft c) in
      let ops : List Op = map (λ (x : Op × Option Content). x.0) (given_ops digest draft c) in
      let commit : Commit = request_commit a branch.head moment c ops in
      same_bind LeadAlike (needs_commit_room a (entries a.commits branch.head) (puts ops)) (needs_commit_room (holding a p) (entries a.commits branch.head) (puts ops)) _ _ (room_alike a p same (entries a.commits branch.head) (puts ops)) (λ u.
      same_bind LeadAlike (or_conflicts (judge (entries a.commits expected) (entries a.commits branch.head) ops)) (or_conflicts (judge (entries a.commits expected) (entries a.commits branch.head) ops)) _ _ refl (λ u.
      both_bind AreAlike LeadAlike (with_contents digest a contents) (with_contents digest (holding a p) contents) _ _ (contents_alike digest contents a (holding a p) (holding_alike a p same)) (λ held other like.
      both_bind AreAlike LeadAlike (with_commit digest held commit) (with_commit digest other commit) _ _ (commit_alike digest commit held other like) (λ more others alike.
      (referenced_alike more others _ _ alike (λ i. moved_reference (alike.same.references i) (record branch { head = commit_hash digest commit })), refl))))))

-- ---- plans

-- the commits of plans
plans_alike : (digest : Digest) (moment : ℕ) (planned : List Planned) (head : Hash) (a b : State) → AreAlike a b → BothBy HeadsAlike (with_planned digest moment a head planned) (with_planned digest moment b head planned)
plans_alike digest moment [] head a b alike = (refl, alike)
plans_alike digest moment (one ∷ planned) head a b alike =
    on_alike (λ (x y : State). BothBy HeadsAlike (with_planned digest moment x head (one ∷ planned)) (with_planned digest moment y head (one ∷ planned)))
    (λ x p same.
    let commit : Commit = planned_commit x.commits head moment one in
    both_bind AreAlike HeadsAlike (with_commit digest x commit) (with_commit digest (holding x p) commit) _ _ (commit_alike digest commit x (holding x p) (holding_alike x p same))
    (λ more others like. plans_alike digest moment planned (commit_hash digest commit) more others like))
    a b alike

applied_alike : (a b : State) (plans : Plans) (made other : Hash × State) → AreAlike a b → HeadsAlike made other → LeadAlike (applied a plans made) (applied b plans other)
applied_alike a b plans made other alike like =
    lead_choice (plans.asked.dry_run || not (list_any (λ one. has_changes one.plan.ops) plans.planned)) _ _ _ _
    (alike, refl)
    (referenced_alike made.1 other.1 _ _ like.1 (λ i. moved_reference (like.1.same.references i) (record (plans.branch) { head = like.0 i })), λ i. merge_reply plans (like.0 i) true true)

module _ (digest : Digest) (a : State) (p : List (Hash × Content)) (same : AreSameContents a.present p) where
  apply_alike : (plans : Plans) → OutcomesAlike (step_applied digest a plans) (step_applied digest (holding a p) plans)
  unfolding step_applied
  apply_alike plans =
      same_bind LeadAlike (needs_set_contents a plans.planned plans.opened) (needs_set_contents (holding a p) plans.planned plans.opened) _ _
      (ap (λ (keys : List Key). needs_no_expired (key_set keys) plans.opened) (expired_alike a p same (all_set plans.planned))) (λ u.
      both_bind HeadsAlike LeadAlike (with_planned digest plans.moment a plans.branch.head (commits_made plans.planned)) (with_planned digest plans.moment (holding a p) plans.branch.head (commits_made plans.planned)) _ _
      (plans_alike digest plans.moment (commits_made plans.planned) plans.branch.head a (holding a p) (holding_alike a p same))
      (λ made other like. applied_alike a (holding a p) plans made other (holding_alike a p same) like))

  unless_alike : (plans : Plans) (conflicts : List Conflict) → OutcomesAlike (step_unless_conflicts digest a plans conflicts) (step_unless_conflicts digest (holding a p) plans conflicts)
  unless_alike plans [] = apply_alike plans
  unless_alike plans (x ∷ conflicts) = both_choice LeadAlike plans.asked.conflicts_as_result _ _ (Conflicts (x ∷ conflicts)) (holding_alike a p same, refl)

  planned_alike : (plans : Plans) → OutcomesAlike (step_planned digest a plans) (step_planned digest (holding a p) plans)
  unfolding needs_planned_room
  planned_alike plans =
      same_bind LeadAlike (needs_planned_room a (entries a.commits plans.branch.head) plans.planned) (needs_planned_room (holding a p) (entries a.commits plans.branch.head) plans.planned) _ _ refl (λ u.
      unless_alike plans (all_conflicts plans.planned))

  merge_alike : (m : Merge) (opened moment : ℕ) → OutcomesAlike (step_merge digest a m opened moment) (step_merge digest (holding a p) m opened moment)
  unfolding step_merge merge_planned
  merge_alike m opened moment =
      same_bind LeadAlike (merge_opening digest a m) (merge_opening digest (holding a p) m) _ _ (merge_opens_alike digest a p m) (λ (branch, source).
      planned_alike (merge_plans a m branch source opened moment))

  transplant_alike : (t : Transplant) (opened moment : ℕ) → OutcomesAlike (step_transplant digest a t opened moment) (step_transplant digest (holding a p) t opened moment)
  unfolding step_transplant transplant_planned
  transplant_alike t opened moment =
      same_bind LeadAlike (transplant_opening digest a t) (transplant_opening digest (holding a p) t) _ _ (transplant_opens_alike digest a p t) (λ branch.
      planned_alike (transplant_plans a t branch opened moment))

  held_step : (command : Command) (turn : Turn) → OutcomesAlike (step digest a command turn) (step digest (holding a p) command turn)
  held_step (commands.Create c) turn = create_alike digest a p same c
  held_step (commands.Assign c) turn = assign_alike digest a p same c
  held_step (commands.Delete c) turn = delete_alike digest a p same c
  held_step (commands.Commit c) turn = commits_alike digest a p same c turn.draft turn.moment
  held_step (commands.Merge m) turn = merge_alike m turn.opened turn.moment
  held_step (commands.Transplant t) turn = transplant_alike t turn.opened turn.moment

-- the step of a call comes to the same
pub step_alike : (digest : Digest) (command : Command) (turn : Turn) (a b : State) → AreAlike a b → OutcomesAlike (step digest a command turn) (step digest b command turn)
step_alike digest command turn a b alike = on_alike (λ (x y : State). OutcomesAlike (step digest x command turn) (step digest y command turn)) (λ x p same. held_step digest x p same command turn) a b alike

-- ---- calls

-- calls that are told the same and log the same, and leave states that are alike
pub record AreCalledAlike (x y : Called) : Type 0 where
  pub said : y.said ≡ x.said
  pub logged : y.logged ≡ x.logged
  pub state : AreAlike x.state y.state

called_choice : (s t : Bool) (x y u v : Called) → t ≡ s → AreCalledAlike x u → AreCalledAlike y v → AreCalledAlike (if s then x else y) (if t then u else v)
called_choice true true x y u v is p q = p
called_choice false false x y u v is p q = q
called_choice true false x y u v is p q = absurd cc
called_choice false true x y u v is p q = absurd cc

pub refused_alike : (a b : State) (m n : ℕ) (why other : Refusal) → AreAlike a b → other ≡ why → AreCalledAlike (unchanged_by a m (Err why)) (unchanged_by b n (Err other))
refused_alike a b m n why other alike is = record { said = λ i. Err (record { place = Some (alike.same.place i); why = is i }); logged = refl; state = alike }

module _ (digest : Digest) (caller m n : ℕ) (command : Command) (turn : Turn) where
  stepped_alike : (a b : State) (r s : Outcome) → AreAlike a b → OutcomesAlike r s → AreCalledAlike (stepped digest caller a m command turn r) (stepped digest caller b n command turn s)
  unfolding entry_made
  stepped_alike a b (Err why) (Err other) alike is = refused_alike a b m n why other alike is
  stepped_alike a b (Ok (after, reply)) (Ok (next, told)) alike is =
      called_choice (nat_lt a.place after.place) (nat_lt b.place next.place) _ _ _ _
      (λ i. nat_lt (alike.same.place i) (is.0.same.place i))
      (record {
        said = λ i. Ok (record { place = is.0.same.place i; reply = is.1 i });
        logged = λ i.
            record {
              place = is.0.same.place i;
              caller = caller;
              draft = turn.draft;
              moment = turn.moment;
              action = actions.Call (logged_command digest turn.draft command);
              head = head_left command (is.1 i);
            }
            ∷ [];
        state = is.0;
      })
      (record { said = λ i. Ok (record { place = alike.same.place i; reply = is.1 i }); logged = refl; state = alike })
  stepped_alike a b (Ok (after, reply)) (Err other) alike is = absurd is
  stepped_alike a b (Err why) (Ok (next, told)) alike is = absurd is

module _ (digest : Digest) (caller m n moment draft : ℕ) (command : Command) (a : State) (p : List (Hash × Content)) (same : AreSameContents a.present p) where
  abbrev its_turn : Turn
  its_turn = record { draft = draft; opened = a.place; moment = moment }

  tested_alike : (t : Tested) → AreCalledAlike (tried digest caller a m command its_turn t) (tried digest caller (holding a p) n command its_turn t)
  tested_alike (Err why) = refused_alike a (holding a p) m n why why (holding_alike a p same) refl
  tested_alike (Ok u) =
      stepped_alike digest caller (max m draft) (max n draft) command its_turn a (holding a p) (step digest a command its_turn) (step digest (holding a p) command its_turn) (holding_alike a p same) (held_step digest a p same command its_turn)

  held_attempt : AreCalledAlike (attempt digest a m (in_draft caller moment draft a.place) command) (attempt digest (holding a p) n (in_draft caller moment draft a.place) command)
  unfolding attempt
  held_attempt =
      subst (λ (t : Tested). AreCalledAlike (tried digest caller a m command its_turn (opening digest a command)) (tried digest caller (holding a p) n command its_turn t)) (sym (opens_alike digest a p command))
      (tested_alike (opening digest a command))

-- an attempt in a draft that is given comes to the same, whatever the last draft numbers are
pub attempt_alike : (digest : Digest) (caller m n moment draft : ℕ) (command : Command) (a b : State) → AreAlike a b
    → AreCalledAlike (attempt digest a m (in_draft caller moment draft a.place) command) (attempt digest b n (in_draft caller moment draft b.place) command)
attempt_alike digest caller m n moment draft command a b alike =
    on_alike (λ (x y : State). AreCalledAlike (attempt digest x m (in_draft caller moment draft x.place) command) (attempt digest y n (in_draft caller moment draft y.place) command)) (held_attempt digest caller m n moment draft command) a b alike
