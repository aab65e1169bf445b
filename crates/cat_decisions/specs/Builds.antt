-- Calls that open drafts, and what they make of their branch's head.
use Rattle.std.specs.Prelude.{◌≡◌, ℕ, List, [], Some, Ok, map, filter_map}
use Rattle.sha2.specs.Sha256.{sha256}
use Rattle.cat_names.specs.declared.hash.Hash.{Hash}
use Rattle.cat_model.specs.declared.command.Command.{Command}
use Rattle.cat_model.specs.declared.command.Command.TheVariants as commands
use Rattle.cat_model.specs.declared.command.CommitRequest.{CommitRequest}
use Rattle.cat_model.specs.declared.command.Merge.{Merge}
use Rattle.cat_model.specs.declared.command.Transplant.{Transplant}
use Rattle.cat_model.specs.declared.op.Op.{Op}
use Rattle.cat_model.specs.declared.reference.Reference.{Reference}
use Rattle.cat_model.specs.Chain.{entries}
use Rattle.cat_model.specs.Commits.{commit_opening, given_ops}
use Rattle.cat_model.specs.Judge.{judge}
use Rattle.cat_model.specs.Merges.{merge_opening}
use Rattle.cat_model.specs.State.{State, content_hash, reference_of}
use Rattle.cat_model.specs.Transplants.{transplant_opening}
use Rattle.cat_rules.specs.declared.judging.Judged.{Judged}
use Rattle.cat_rules.specs.Rules.{GivesWellFormed, verdict}
use Rattle.cat_decisions.specs.declared.drafts.Draft.{Draft}
use Rattle.cat_decisions.specs.Drafts.{AreKnown, IsMergeDraft, IsTransplantDraft}
use Rattle.cat_decisions.specs.declared.building.Built.{Built}
use Rattle.cat_decisions.specs.declared.building.Work.{Work}
use Rattle.cat_decisions.specs.declared.building.Work.TheVariants as works
use Rattle.cat_decisions.specs.declared.call.Call.{Call}
use Rattle.cat_decisions.specs.declared.call.Call.TheVariants as calls
use Rattle.cat_decisions.specs.declared.given.Given.{Given}

-- ---- calls

-- the command of a call
abbrev pub command_of : Call → Command
command_of (calls.Commit r g) = commands.Commit r.now
command_of (calls.Merge m) = commands.Merge m.now
command_of (calls.Transplant t) = commands.Transplant t.now

-- the name of the branch of a command that opens a draft; an empty one for other commands
abbrev pub branch_of : Command → List ℕ
branch_of (commands.Create c) = []
branch_of (commands.Assign c) = []
branch_of (commands.Delete c) = []
branch_of (commands.Commit c) = c.branch
branch_of (commands.Merge m) = m.branch
branch_of (commands.Transplant t) = t.branch

-- what a draft gives to a commit request: the operations and the contents with their ids, and the contents' hashes
pub record IsGiven (number : ℕ) (r : CommitRequest) (g : Given) : Type 0 where
  pub ops : g.ops ≡ map (λ x. x.0) (given_ops sha256 number r)
  pub contents : g.contents ≡ filter_map (λ x. x.1) (given_ops sha256 number r)
  pub hashes : g.hashes.items ≡ map (content_hash sha256) g.contents

-- what a call has is what the draft of that number gives
abbrev pub IsGivenBy : ℕ → Call → Type 0
IsGivenBy number (calls.Commit r g) = IsGiven number r.now g
IsGivenBy number (calls.Merge m) = Unit {0}
IsGivenBy number (calls.Transplant t) = Unit {0}

-- ---- heads

-- the branch of a command has the head
abbrev pub HasHead : State → Command → Hash → Type 0
HasHead state c hash = (branch : Reference) × (reference_of state.references (branch_of c) ≡ Some branch) × (branch.head ≡ hash)

-- ---- what calls make of heads

-- a commit's operations are judged by the maps at the commit that it expects and at the head
pub record IsJudgedAt (state : State) (r : CommitRequest) (ops : List Op) (hash : Hash) (judged : Judged) : Type 0 where
  pub branch : Reference
  pub expected : Hash
  pub opened : commit_opening sha256 state r ≡ Ok (branch, expected)
  pub head : hash ≡ branch.head
  pub known : AreKnown state branch.head expected
  pub exact : verdict judged ≡ judge (entries state.commits expected) (entries state.commits branch.head) ops
  pub well_formed : GivesWellFormed judged

-- a merge is planned upon the head
pub record IsMergedAt (state : State) (m : Merge) (hash : Hash) (d : Draft) : Type 0 where
  pub branch : Reference
  pub source : Hash
  pub opened : merge_opening sha256 state m ≡ Ok (branch, source)
  pub head : hash ≡ branch.head
  pub draft : IsMergeDraft state m branch source d

-- and so is a transplant
pub record IsTransplantedAt (state : State) (t : Transplant) (hash : Hash) (d : Draft) : Type 0 where
  pub branch : Reference
  pub opened : transplant_opening sha256 state t ≡ Ok branch
  pub head : hash ≡ branch.head
  pub draft : IsTransplantDraft state t branch d

-- what a call makes of a head: a commit judges, the others plan
abbrev pub IsMadeAt : State → Call → Hash → Work → Type 0
IsMadeAt state (calls.Commit r g) hash (works.Judged judged) = IsJudgedAt state r.now g.ops hash judged
IsMadeAt state (calls.Commit r g) hash (works.Planned d) = ⊥
IsMadeAt state (calls.Merge m) hash (works.Judged judged) = ⊥
IsMadeAt state (calls.Merge m) hash (works.Planned d) = IsMergedAt state m.now hash d
IsMadeAt state (calls.Transplant t) hash (works.Judged judged) = ⊥
IsMadeAt state (calls.Transplant t) hash (works.Planned d) = IsTransplantedAt state t.now hash d

-- what was built on a state is what the call makes of its branch's head there
abbrev pub IsBuilt : State → Call → Built → Type 0
IsBuilt state call b = IsMadeAt state call b.head b.work
