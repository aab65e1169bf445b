-- What a call that passes its tests finds.
use Rattle.std.proofs.Common.{◌≡◌, ℕ, List, [], Bor, Option, Some, None, Ok, Err, ◌&&◌, true, length, map, sym, ap, subst, ◌∙◌}
use Rattle.std.specs.Prelude.{nat_le, nat_lt}
use Rattle.sha2.specs.Sha256.{sha256}
use Rattle.cat_keymap.specs.KeyOrder.{and_true}
use Rattle.cat_names.specs.declared.hash.Hash.{Hash}
use Rattle.cat_model.specs.declared.command.Command.TheVariants as commands
use Rattle.cat_model.specs.declared.command.CommitRequest.{CommitRequest}
use Rattle.cat_model.specs.declared.content.Content.{Content}
use Rattle.cat_model.specs.declared.op.Op.{Op}
use Rattle.cat_model.specs.declared.reference.Reference.{Reference}
use Rattle.cat_model.specs.declared.refusal.Refusal.{Refusal}
use Rattle.cat_model.specs.Commits.{commit_opening, given_request}
use Rattle.cat_model.specs.Distinct.{are_distinct}
use Rattle.cat_model.specs.Drafts.{Names}
use Rattle.cat_model.specs.Merges.{merge_opening}
use Rattle.cat_model.specs.Naming.{names_of}
use Rattle.cat_model.specs.Refusing.{found, named}
use Rattle.cat_model.specs.State.{State, content_hash, reference_of}
use Rattle.cat_model.specs.Step.{opening}
use Rattle.cat_model.specs.Transplants.{transplant_opening}
use Rattle.cat_model.specs.WellMade.{given_ids, have_contents, ids_differ, is_well_made, may_be_asked, most_ops}
use Rattle.cat_decisions.specs.OpenedLaws.{merge_opened, passed, transplant_opened}
use Rattle.cat_decisions.specs.declared.call.Call.{Call}
use Rattle.cat_decisions.specs.declared.call.Call.TheVariants as calls
use Rattle.cat_decisions.specs.declared.given.Given.{Given}
use Rattle.cat_decisions.specs.BuildLaws.{commit_opened}
use Rattle.cat_decisions.specs.Builds.{IsGiven, IsGivenBy, branch_of, command_of}
use Rattle.cat_decisions.specs.KeyLaws.{still_distinct}

-- the branch of a call that passes is there
pub opened_named : (state : State) (call : Call) → opening sha256 state (command_of call) ≡ Ok tt → (branch : Reference) × (reference_of state.references (branch_of (command_of call)) ≡ Some branch)
opened_named state (calls.Commit c g) e =
    let there = passed (commit_opening sha256 state c.now) _ tt e in
    (there.0.0, (commit_opened state c.now there.0.0 there.0.1 there.1).0)
opened_named state (calls.Merge m) e =
    let there = passed (merge_opening sha256 state m.now) _ tt e in
    (there.0.0, (merge_opened state m.now there.0.0 there.0.1 there.1).0)
opened_named state (calls.Transplant t) e =
    let there = passed (transplant_opening sha256 state t.now) _ tt e in
    (there.0, (transplant_opened state t.now there.0 there.1).0)

found_passes : (o : Option Reference) (branch : Reference) (other why : Refusal) → o ≡ Some branch → found o other ≡ Err why → ⊥
found_passes None branch other why e f = absurd cc
found_passes (Some r) branch other why e f = absurd cc

-- so it is found by its name
pub named_passes : (state : State) (call : Call) (why : Refusal) → opening sha256 state (command_of call) ≡ Ok tt → named state (branch_of (command_of call)) ≡ Err why → ⊥
named_passes state call why opened refused =
    let there = opened_named state call opened in
    found_passes (reference_of state.references (branch_of (command_of call))) there.0 _ why there.1 refused

-- the operations of a request that is well made are on distinct keys
pub ops_are_distinct : (c : CommitRequest) → is_well_made sha256 (commands.Commit c) ≡ true → are_distinct c.ops ≡ true
unfolding is_well_made may_be_asked
ops_are_distinct c h =
    let asked = (and_true (may_be_asked c.ops) (have_contents sha256 c.ops c.contents) h).0 in
    let keys = (and_true (nat_lt 0 (length c.ops) && nat_le (length c.ops) most_ops && are_distinct c.ops) (ids_differ (given_ids c.ops)) asked).0 in
    (and_true (nat_lt 0 (length c.ops) && nat_le (length c.ops) most_ops) (are_distinct c.ops) keys).1

-- each of its PUTs has its content
pub have_theirs : (c : CommitRequest) → is_well_made sha256 (commands.Commit c) ≡ true → have_contents sha256 c.ops c.contents ≡ true
unfolding is_well_made
have_theirs c h = (and_true (may_be_asked c.ops) (have_contents sha256 c.ops c.contents) h).1

-- the operations that a draft gives are on distinct keys
pub given_distinct : (number : ℕ) (c : CommitRequest) (g : Given) → IsGiven number c g → is_well_made sha256 (commands.Commit c) ≡ true → are_distinct g.ops ≡ true
given_distinct number c g given h = still_distinct number c g.ops given.ops (ops_are_distinct c h)

-- so it is where a call is such a commit
pub call_distinct : (call : Call) (c : Bor CommitRequest) (g : Given) (ops : List Op) → call ≡ calls.Commit c g → is_well_made sha256 (command_of call) ≡ true → (number : ℕ) × IsGivenBy number call → ops ≡ g.ops → are_distinct ops ≡ true
call_distinct call c g ops is well given same =
    subst (λ (x : Call). is_well_made sha256 (command_of x) ≡ true → (number : ℕ) × IsGivenBy number x → are_distinct ops ≡ true) (sym is)
    (λ made by. ap are_distinct same ∙ given_distinct by.0 c.now g by.1 made) well given

abbrev names_at : List Hash → List Hash → Names
names_at commits contents = record { commits = commits; contents = contents }

given_names : (number : ℕ) (c : CommitRequest) (g : Given) (commits contents : List Hash) → IsGiven number c g → commits ≡ [] → contents ≡ g.hashes.items → names_at commits contents ≡ names_of sha256 number (commands.Commit c)
unfolding given_request
given_names number c g commits contents given none same =
    let hashes = same ∙ given.hashes ∙ ap (λ (l : List Content). map (content_hash sha256) l) given.contents in
    λ i. names_at (none i) (hashes i)

-- the draft of a commit names its contents
pub commit_names : (number : ℕ) (call : Call) (c : Bor CommitRequest) (g : Given) (commits contents : List Hash) → call ≡ calls.Commit c g → IsGivenBy number call → commits ≡ [] → contents ≡ g.hashes.items
    → names_at commits contents ≡ names_of sha256 number (command_of call)
commit_names number call c g commits contents is given none same =
    subst (λ (x : Call). IsGivenBy number x → names_at commits contents ≡ names_of sha256 number (command_of x)) (sym is)
    (λ by. given_names number c.now g commits contents by none same) given
