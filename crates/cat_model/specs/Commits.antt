-- Committing the operations of a request on a branch.
use Rattle.std.specs.Prelude.{ℕ, ◌+◌, List, [], ◌∷◌, length, Option, Some, None, Result, Ok, Err, Bool, true, false, map, filter_map, flat_map}
use Rattle.cat_names.specs.Fields.{Key}
use Rattle.cat_names.specs.declared.hash.Hash.{Hash}
use Rattle.cat_names.specs.declared.hash.ContentId.{ContentId}
use Rattle.cat_model.specs.declared.command.CommitRequest.{CommitRequest}
use Rattle.cat_model.specs.declared.commit.Commit.{Commit}
use Rattle.cat_model.specs.declared.conflict.Conflict.{Conflict}
use Rattle.cat_model.specs.declared.content.Content.{Content}
use Rattle.cat_model.specs.declared.limits.Quantity.TheVariants as quantities
use Rattle.cat_model.specs.declared.op.Op.{Op}
use Rattle.cat_model.specs.declared.op.Op.TheVariants.{Put, Delete, Unchanged}
use Rattle.cat_model.specs.declared.reference.Reference.{Reference}
use Rattle.cat_model.specs.declared.refusal.Refusal.{Refusal}
use Rattle.cat_model.specs.declared.refusal.Refusal.TheVariants.{Conflicts}
use Rattle.cat_model.specs.declared.reply.Reply.{Reply}
use Rattle.cat_model.specs.declared.reply.Reply.TheVariants as replies
use Rattle.cat_model.specs.Maps.{Map}
use Rattle.cat_model.specs.Chain.{entries, generation}
use Rattle.cat_model.specs.Judge.{judge, changes_of}
use Rattle.cat_model.specs.State.{Digest, State, entry_for, fresh_id, commit_hash, moved_reference}
use Rattle.cat_model.specs.Refusing.{◌>>=◌, needs_room, needs_at_most, named, needs_branch, pointed, Outcome, Tested}
use Rattle.cat_model.specs.Records.{with_commit, with_contents}

-- the operations, each PUT with its content
abbrev pub with_their_contents : List Op → List Content → List (Op × Option Content)
with_their_contents [] contents = []
with_their_contents (Put key entry fresh ∷ ops) [] = (Put key entry fresh, None) ∷ with_their_contents ops []
with_their_contents (Put key entry fresh ∷ ops) (c ∷ contents) = (Put key entry fresh, Some c) ∷ with_their_contents ops contents
with_their_contents (Delete key ∷ ops) contents = (Delete key, None) ∷ with_their_contents ops contents
with_their_contents (Unchanged key ∷ ops) contents = (Unchanged key, None) ∷ with_their_contents ops contents

-- a content with the id that the draft gives, where it is fresh
abbrev pub given_content : Bool → ContentId → Content → Content
given_content false id c = c
given_content true id c = record c { id = id }

-- an operation, and its content, with the id that the draft gives
abbrev pub given : Digest → ContentId → Op × Option Content → Op × Option Content
given digest id (Put key entry fresh, Some c) = (Put key (entry_for digest (given_content fresh id c)) fresh, Some (given_content fresh id c))
given digest id (op, content) = (op, content)

-- all of them, by their indexes in the request
abbrev pub given_from : Digest → ℕ → ℕ → List (Op × Option Content) → List (Op × Option Content)
given_from digest draft index [] = []
given_from digest draft index (x ∷ ops) = given digest (fresh_id draft index) x ∷ given_from digest draft (index + 1) ops

-- the operations of a request whose contents have their ids
unfoldable pub given_ops : Digest → ℕ → CommitRequest → List (Op × Option Content)
given_ops digest draft c = given_from digest draft 0 (with_their_contents c.ops c.contents)

-- the request as it is logged, its contents with their ids
unfoldable pub given_request : Digest → ℕ → CommitRequest → CommitRequest
given_request digest draft c =
    let both = given_ops digest draft c in
    record c { ops = map (λ x. x.0) both; contents = filter_map (λ x. x.1) both }

-- the id that the server gave, and its key
abbrev pub added_id : Op → List (ContentId × Key)
added_id (Put key entry true) = (entry.id, key) ∷ []
added_id (Put key entry false) = []
added_id (Delete key) = []
added_id (Unchanged key) = []

-- the key of a PUT
abbrev pub put_entry : Op → List Key
put_entry (Put key entry fresh) = key ∷ []
put_entry (Delete key) = []
put_entry (Unchanged key) = []

-- how many PUTs there are
abbrev pub puts : List Op → ℕ
puts ops = length (flat_map put_entry ops)

-- conflicts refuse
abbrev pub or_conflicts : Result Map (List Conflict) → Result Map Refusal
or_conflicts (Ok map) = Ok map
or_conflicts (Err conflicts) = Err (Conflicts conflicts)

-- the commit of a request at a head
unfoldable pub request_commit : State → Hash → ℕ → CommitRequest → List Op → Commit
request_commit state head moment c ops = record {
  parent = head;
  merge_parent = None;
  generation = generation state.commits head + 1;
  time = moment;
  meta = c.meta;
  ops = changes_of ops;
}

-- the branch of a request, and the commit that it expects
unfoldable pub commit_opening : Digest → State → CommitRequest → Result (Reference × Hash) Refusal
commit_opening digest state c =
    named state c.branch >>= λ branch.
    needs_branch branch >>= λ _.
    pointed digest state (Some branch) c.expected >>= λ expected.
    Ok (branch, expected)

-- there is room for an entry, for a commit, and for so many PUTs on a map
unfoldable pub needs_commit_room : State → Map → ℕ → Tested
needs_commit_room state head count =
    needs_room state.place state.limits.log quantities.Log >>= λ _.
    needs_room (length state.commits) state.limits.commits quantities.Commits >>= λ _.
    needs_at_most (length head + count) state.limits.keys quantities.Keys >>= λ _.
    needs_at_most (length state.present + count) state.limits.contents quantities.Contents

-- the state with one entry more, and the branch at its new commit; the reply tells the ids that were given
abbrev pub committed : State → Reference → List Op → State × Reply
committed state branch ops = (
  record state { place = state.place + 1; references = moved_reference state.references branch },
  replies.Committed (record { added = flat_map added_id ops; target = branch }),
)

-- a commit on a branch
unfoldable pub step_commit : Digest → State → CommitRequest → ℕ → ℕ → Outcome
step_commit digest state c draft moment =
    commit_opening digest state c >>= λ (branch, expected).
    let both = given_ops digest draft c in
    let ops = map (λ x. x.0) both in
    let head = entries state.commits branch.head in
    let commit = request_commit state branch.head moment c ops in
    needs_commit_room state head (puts ops) >>= λ _.
    or_conflicts (judge (entries state.commits expected) head ops) >>= λ _.
    with_contents digest state (filter_map (λ x. x.1) both) >>= λ held.
    with_commit digest held commit >>= λ more.
    Ok (committed more (record branch { head = commit_hash digest commit }) ops)
