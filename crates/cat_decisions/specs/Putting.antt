-- What a commit makes of a state.
use Rattle.std.specs.Prelude.{◌≡◌, List, Some, Result, IsTrue, flat_map}
use Rattle.sha2.specs.Sha256.{sha256}
use Rattle.cat_names.specs.declared.hash.Hash.{Hash}
use Rattle.cat_model.specs.declared.command.Command.TheVariants as commands
use Rattle.cat_model.specs.declared.command.CommitRequest.{CommitRequest}
use Rattle.cat_model.specs.declared.conflict.Conflict.{Conflict}
use Rattle.cat_model.specs.declared.op.Op.{Op}
use Rattle.cat_model.specs.declared.reference.Reference.{Reference}
use Rattle.cat_model.specs.declared.refusal.Refusal.{Refusal}
use Rattle.cat_model.specs.declared.reply.Reply.TheVariants as replies
use Rattle.cat_model.specs.Chain.{entries}
use Rattle.cat_model.specs.Commits.{added_id, needs_commit_room, or_conflicts, puts}
use Rattle.cat_model.specs.Distinct.{are_distinct}
use Rattle.cat_model.specs.Judge.{changes_of}
use Rattle.cat_model.specs.Maps.{Map, after_changes}
use Rattle.cat_model.specs.Namespaces.{is_well_formed}
use Rattle.cat_model.specs.Refusing.{◌>>=◌}
use Rattle.cat_model.specs.State.{State, is_known}
use Rattle.cat_state.specs.declared.additions.Additions.{Additions}
use Rattle.cat_state.specs.declared.change.ReferenceChange.TheVariants.{Moved}
use Rattle.cat_decisions.specs.declared.decision.Making.{Making}
use Rattle.cat_decisions.specs.declared.given.Given.{Given}

-- there is room for the operations, and they don't conflict as they were judged
abbrev pub tested : State → Reference → List Op → Result Map (List Conflict) → Result Map Refusal
tested state branch ops judged = needs_commit_room state (entries state.commits branch.head) (puts ops) >>= λ _. or_conflicts judged

-- the map after operations on distinct keys at a known head
pub record IsMapAfter (state : State) (head : Hash) (ops : List Op) (map : Map) : Type 0 where
  pub distinct : IsTrue (are_distinct ops)
  pub known : IsTrue (is_known sha256 state head)
  pub changed : map ≡ after_changes (changes_of ops) (entries state.commits head)
  pub well_formed : IsTrue (is_well_formed map)

-- a request's change, given its operations and what is added: the branch is moved to the commit's hash; the reply tells the ids that were given
abbrev pub making_of : CommitRequest → Reference → Hash → Given → Additions → Making
making_of c branch hash given additions =
    let target : Reference = record branch { head = hash } in
    record {
      change = record { additions = additions; reference = Moved target };
      command = commands.Commit (record c { ops = given.ops; contents = given.contents });
      head = Some hash;
      reply = replies.Committed (record { added = flat_map added_id given.ops; target = target });
    }
