-- Calls that change the catalogue.
use Rattle.std.specs.Prelude.{ℕ, Option, Some, None, Bool, true, false, Ok}
use Rattle.cat_names.specs.declared.hash.Hash.{Hash}
use Rattle.cat_model.specs.declared.command.Command.{Command}
use Rattle.cat_model.specs.declared.command.Command.TheVariants as commands
use Rattle.cat_model.specs.declared.reply.Reply.{Reply}
use Rattle.cat_model.specs.declared.reply.Reply.TheVariants as replies
use Rattle.cat_model.specs.State.{Digest, State}
use Rattle.cat_model.specs.Refusing.{◌>>=◌, Tested, Outcome}
use Rattle.cat_model.specs.Commits.{commit_opening, step_commit, given_request}
use Rattle.cat_model.specs.Moves.{step_create, step_assign, step_delete}
use Rattle.cat_model.specs.Merges.{merge_opening, step_merge}
use Rattle.cat_model.specs.Transplants.{transplant_opening, step_transplant}

-- when a call is made: the number of its draft, 0 where it opens none, the place at which it began, and the moment
pub record Turn : Type 0 where
  pub draft : ℕ
  pub opened : ℕ
  pub moment : ℕ

-- the call opens a draft
abbrev pub opens_draft : Command → Bool
opens_draft (commands.Create c) = false
opens_draft (commands.Assign c) = false
opens_draft (commands.Delete c) = false
opens_draft (commands.Commit c) = true
opens_draft (commands.Merge m) = true
opens_draft (commands.Transplant t) = true

-- the tests before a draft is opened
abbrev pub opening : Digest → State → Command → Tested
opening digest state (commands.Create c) = Ok tt
opening digest state (commands.Assign c) = Ok tt
opening digest state (commands.Delete c) = Ok tt
opening digest state (commands.Commit c) = commit_opening digest state c >>= λ _. Ok tt
opening digest state (commands.Merge m) = merge_opening digest state m >>= λ _. Ok tt
opening digest state (commands.Transplant t) = transplant_opening digest state t >>= λ _. Ok tt

-- the step of a call on a state
abbrev pub step : Digest → State → Command → Turn → Outcome
step digest state (commands.Create c) turn = step_create digest state c
step digest state (commands.Assign c) turn = step_assign digest state c
step digest state (commands.Delete c) turn = step_delete state c
step digest state (commands.Commit c) turn = step_commit digest state c turn.draft turn.moment
step digest state (commands.Merge m) turn = step_merge digest state m turn.opened turn.moment
step digest state (commands.Transplant t) turn = step_transplant digest state t turn.opened turn.moment

-- the call as it is logged: with what its draft gives, without what it says of its source's kind, and without what it asks beside
abbrev pub logged_command : Digest → ℕ → Command → Command
logged_command digest draft (commands.Create c) = commands.Create (record c { source_kind = None })
logged_command digest draft (commands.Assign c) = commands.Assign (record c { source_kind = None })
logged_command digest draft (commands.Delete c) = commands.Delete c
logged_command digest draft (commands.Commit c) = commands.Commit (given_request digest draft c)
logged_command digest draft (commands.Merge m) = commands.Merge (record m { dry_run = false; conflicts_as_result = false })
logged_command digest draft (commands.Transplant t) = commands.Transplant (record t { dry_run = false; conflicts_as_result = false })

-- the head of the reference that a call answers
abbrev pub head_told : Reply → Option Hash
head_told (replies.Committed c) = Some c.target.head
head_told (replies.Reference r) = Some r.head
head_told (replies.Merged m) = Some m.target.head
head_told _ = None

-- the head that a call leaves, as the log keeps it; none where the reference is removed
abbrev pub head_left : Command → Reply → Option Hash
head_left (commands.Create c) reply = head_told reply
head_left (commands.Assign c) reply = head_told reply
head_left (commands.Delete c) reply = None
head_left (commands.Commit c) reply = head_told reply
head_left (commands.Merge m) reply = head_told reply
head_left (commands.Transplant t) reply = head_told reply
