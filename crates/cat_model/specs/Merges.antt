-- Merging a commit into a branch.
use Rattle.std.specs.Prelude.{ℕ, ◌+◌, max, List, [], ◌∷◌, length, Option, Some, None, Result, Ok, Err, Bool, true, false, ◌||◌, not, filter, flat_map, if◌then◌else◌}
use Rattle.std.specs.List.{list_any}
use Rattle.cat_names.specs.declared.hash.Hash.{Hash}
use Rattle.cat_model.specs.declared.command.Merge.{Merge}
use Rattle.cat_model.specs.declared.commit.Commit.{Commit}
use Rattle.cat_model.specs.declared.commit.Meta.{Meta}
use Rattle.cat_model.specs.declared.conflict.Conflict.{Conflict}
use Rattle.cat_model.specs.declared.limits.Quantity.TheVariants as quantities
use Rattle.cat_model.specs.declared.merging.Detail.{Detail}
use Rattle.cat_model.specs.declared.reference.Reference.{Reference}
use Rattle.cat_model.specs.declared.refusal.Refusal.{Refusal}
use Rattle.cat_model.specs.declared.refusal.Refusal.TheVariants.{Conflicts}
use Rattle.cat_model.specs.declared.reply.Reply.{Reply}
use Rattle.cat_model.specs.declared.reply.Reply.TheVariants as replies
use Rattle.cat_model.specs.KeySets.{key_set}
use Rattle.cat_model.specs.Maps.{Map, Change}
use Rattle.cat_model.specs.Chain.{Commits, entries, generation}
use Rattle.cat_model.specs.Base.{base}
use Rattle.cat_model.specs.Plan.{Plan, plan}
use Rattle.cat_model.specs.State.{Digest, State, commit_hash, moved_reference}
use Rattle.cat_model.specs.Refusing.{◌>>=◌, Tested, Outcome, needs_at_most, named, needs_branch, pointed}
use Rattle.cat_model.specs.Records.{with_commit, expired_keys, needs_no_expired}
use Rattle.cat_model.specs.Moves.{needs_log, with_references}

-- ---- commits that are planned

-- a plan, and what is said of the commit that it makes
pub record Planned : Type 0 where
  pub merge_parent : Option Hash
  pub meta : Meta
  pub plan : Plan

-- a plan without changes makes no commit
abbrev pub has_changes : List Change → Bool
has_changes [] = false
has_changes (change ∷ changes) = true

-- the plans that make a commit
abbrev pub commits_made : List Planned → List Planned
commits_made planned = filter (λ p. has_changes p.plan.ops) planned

-- the entries that changes set
abbrev pub entries_set : List Change → Map
entries_set [] = []
entries_set ((key, None) ∷ changes) = entries_set changes
entries_set ((key, Some entry) ∷ changes) = (key, entry) ∷ entries_set changes

-- those that plans set
abbrev pub all_set : List Planned → Map
all_set planned = flat_map (λ p. entries_set p.plan.ops) planned

-- the details of plans, one plan after the other
abbrev pub all_details : List Planned → List Detail
all_details planned = flat_map (λ p. p.plan.details) planned

-- and their conflicts
abbrev pub all_conflicts : List Planned → List Conflict
all_conflicts planned = flat_map (λ p. p.plan.conflicts) planned

-- one more than the greatest generation of the parents
abbrev pub generation_after : Commits → Hash → Option Hash → ℕ
generation_after commits parent None = generation commits parent + 1
generation_after commits parent (Some other) = max (generation commits parent) (generation commits other) + 1

-- the commit of a plan upon a head
abbrev pub planned_commit : Commits → Hash → ℕ → Planned → Commit
planned_commit commits head moment p = record {
  parent = head;
  merge_parent = p.merge_parent;
  generation = generation_after commits head p.merge_parent;
  time = moment;
  meta = p.meta;
  ops = p.plan.ops;
}

-- the head and the state after the commits of plans, each upon the one before
abbrev pub with_planned : Digest → ℕ → State → Hash → List Planned → Result (Hash × State) Refusal
with_planned digest moment state head [] = Ok (head, state)
with_planned digest moment state head (p ∷ planned) =
    let commit = planned_commit state.commits head moment p in
    with_commit digest state commit >>= λ more. with_planned digest moment more (commit_hash digest commit) planned

-- ---- their step

-- what the call asks beside: that it is only tried, and that conflicts are its reply
pub record Asked : Type 0 where
  pub dry_run : Bool
  pub conflicts_as_result : Bool

-- plans for a branch: the base that a merge tells, what is asked beside, the place at which their call began, and its moment
pub record Plans : Type 0 where
  pub branch : Reference
  pub planned : List Planned
  pub ancestor : Option Hash
  pub asked : Asked
  pub opened : ℕ
  pub moment : ℕ

-- the reply, where the branch is left with this head
abbrev pub merge_reply : Plans → Hash → Bool → Bool → Reply
merge_reply p head applied successful = replies.Merged (record {
  common_ancestor = p.ancestor;
  details = all_details p.planned;
  effective_target = p.branch.head;
  target = record (p.branch) { head = head };
  was_applied = applied;
  was_successful = successful;
})

-- there is room for an entry, for the commits that plans make, and for what they set on a map
unfoldable pub needs_planned_room : State → Map → List Planned → Tested
needs_planned_room state head planned =
    needs_log state >>= λ _.
    needs_at_most (length state.commits + length (commits_made planned)) state.limits.commits quantities.Commits >>= λ _.
    needs_at_most (length head + length (all_set planned)) state.limits.keys quantities.Keys

-- refused where a content that plans set isn't held
abbrev pub needs_set_contents : State → List Planned → ℕ → Tested
needs_set_contents state planned opened = needs_no_expired (key_set (expired_keys state (all_set planned))) opened

-- nothing is changed where the call is only tried, or no plan changes anything
abbrev pub applied : State → Plans → Hash × State → State × Reply
applied state p made =
    if p.asked.dry_run || not (list_any (λ one. has_changes one.plan.ops) p.planned)
    then (state, merge_reply p p.branch.head false true)
    else (with_references made.1 (moved_reference made.1.references (record (p.branch) { head = made.0 })), merge_reply p made.0 true true)

-- plans without conflicts
unfoldable pub step_applied : Digest → State → Plans → Outcome
step_applied digest state p =
    needs_set_contents state p.planned p.opened >>= λ _.
    with_planned digest p.moment state p.branch.head (commits_made p.planned) >>= λ made.
    Ok (applied state p made)

-- conflicts refuse, or are the reply
abbrev pub step_unless_conflicts : Digest → State → Plans → List Conflict → Outcome
step_unless_conflicts digest state p [] = step_applied digest state p
step_unless_conflicts digest state p (conflict ∷ conflicts) =
    if p.asked.conflicts_as_result
    then Ok (state, merge_reply p p.branch.head false false)
    else Err (Conflicts (conflict ∷ conflicts))

-- the step of plans on a branch
abbrev pub step_planned : Digest → State → Plans → Outcome
step_planned digest state p =
    needs_planned_room state (entries state.commits p.branch.head) p.planned >>= λ _.
    step_unless_conflicts digest state p (all_conflicts p.planned)

-- ---- merges

-- the branch of a merge, and the commit that is merged into it
unfoldable pub merge_opening : Digest → State → Merge → Result (Reference × Hash) Refusal
merge_opening digest state m =
    named state m.branch >>= λ branch.
    named state m.from >>= λ from.
    needs_branch branch >>= λ _.
    pointed digest state (Some branch) m.hash >>= λ _.
    pointed digest state (Some from) (Some m.from_hash) >>= λ source.
    Ok (branch, source)

-- what a merge of a commit into a branch plans, from their base
unfoldable pub merge_planned : State → Merge → Hash → Hash → Hash → Planned
merge_planned state m ancestor source head =
    let at : Hash → Map = entries state.commits in
    record { merge_parent = Some source; meta = m.meta; plan = plan (at ancestor) (at source) (at head) m.modes }

-- the plans of a merge of a commit into a branch
abbrev pub merge_plans : State → Merge → Reference → Hash → ℕ → ℕ → Plans
merge_plans state m branch source opened moment =
    let ancestor = base state.commits source branch.head in
    record {
      branch = branch;
      planned = merge_planned state m ancestor source branch.head ∷ [];
      ancestor = Some ancestor;
      asked = record { dry_run = m.dry_run; conflicts_as_result = m.conflicts_as_result };
      opened = opened;
      moment = moment;
    }

-- a commit of a reference merged into a branch
unfoldable pub step_merge : Digest → State → Merge → ℕ → ℕ → Outcome
step_merge digest state m opened moment =
    merge_opening digest state m >>= λ (branch, source).
    step_planned digest state (merge_plans state m branch source opened moment)
