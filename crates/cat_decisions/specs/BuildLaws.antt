-- What was built on a state is what the call makes of its branch's head in each later state, while the branch has that head.
use Rattle.std.proofs.Common.{◌≡◌, ℕ, List, Option, Some, None, Ok, true, sym, ap, subst, ◌∙◌}
use Rattle.std.proofs.lemmas.Option.{same_Some}
use Rattle.sha2.specs.Sha256.{sha256}
use Rattle.cat_names.specs.declared.hash.Hash.{Hash}
use Rattle.cat_model.specs.declared.command.Command.TheVariants as commands
use Rattle.cat_model.specs.declared.command.CommitRequest.{CommitRequest}
use Rattle.cat_model.specs.declared.command.Merge.{Merge}
use Rattle.cat_model.specs.declared.command.Transplant.{Transplant}
use Rattle.cat_model.specs.declared.op.Op.{Op}
use Rattle.cat_model.specs.declared.reference.Reference.{Reference}
use Rattle.cat_model.specs.Chain.{entries}
use Rattle.cat_model.specs.Commits.{commit_opening}
use Rattle.cat_model.specs.Judge.{judge}
use Rattle.cat_model.specs.Later.{IsLater}
use Rattle.cat_model.specs.Merges.{merge_opening}
use Rattle.cat_model.specs.Refusing.{named, needs_branch, pointed}
use Rattle.cat_model.specs.State.{State, is_known, reference_of}
use Rattle.cat_model.specs.Step.{opening}
use Rattle.cat_model.specs.Transplants.{transplant_opening}
use Rattle.cat_graph.specs.Linked.{AreLinked}
use Rattle.cat_rules.specs.declared.judging.Judged.{Judged}
use Rattle.cat_rules.specs.Rules.{verdict}
use Rattle.cat_decisions.specs.declared.drafts.Draft.{Draft}
use Rattle.cat_decisions.specs.AddedLaws.{entries_later}
use Rattle.cat_decisions.specs.Drafts.{IsMergeDraft, IsTransplantDraft}
use Rattle.cat_decisions.specs.LaterLaws.{both_known_later, merge_draft_later, transplant_draft_later}
use Rattle.cat_decisions.specs.OpenedLaws.{merge_opened, named_is, passed, pointed_is, same_Ok, transplant_opened}
use Rattle.cat_decisions.specs.declared.building.Built.{Built}
use Rattle.cat_decisions.specs.declared.building.Work.{Work}
use Rattle.cat_decisions.specs.declared.building.Work.TheVariants as works
use Rattle.cat_decisions.specs.declared.call.Call.{Call}
use Rattle.cat_decisions.specs.declared.call.Call.TheVariants as calls
use Rattle.cat_decisions.specs.Builds.{HasHead, IsBuilt, IsJudgedAt, IsMadeAt, IsMergedAt, IsTransplantedAt, command_of}

-- ---- openings of commits

-- the commit that a request expects: the one that it states, or the head
abbrev expected_at : Option Hash → Hash → Hash
expected_at None head = head
expected_at (Some hash) head = hash

expected_is : (state : State) (r : Reference) (stated : Option Hash) (other : Hash) → pointed sha256 state (Some r) stated ≡ Ok other → other ≡ expected_at stated r.head
expected_is state r None other e = sym (same_Ok r.head other e)
expected_is state r (Some hash) other e = pointed_is state r hash other e

-- the branch has the name, and the commit is the one that the request expects at its head
pub commit_opened : (state : State) (c : CommitRequest) (branch : Reference) (expected : Hash) → commit_opening sha256 state c ≡ Ok (branch, expected) → (reference_of state.references c.branch ≡ Some branch) × (expected ≡ expected_at c.expected branch.head)
unfolding commit_opening
commit_opened state c branch expected e =
    let first = passed (named state c.branch) _ (branch, expected) e in
    let second = passed (needs_branch first.0) _ (branch, expected) first.2 in
    let third = passed (pointed sha256 state (Some first.0) c.expected) _ (branch, expected) second.2 in
    let same = same_Ok {A = Reference × Hash} (first.0, third.0) (branch, expected) third.2 in (
      named_is state c.branch branch (first.1 ∙ ap (λ (x : Reference × Hash). Ok x.0) same),
      sym (ap (λ (x : Reference × Hash). x.1) same) ∙ expected_is state first.0 c.expected third.0 third.1 ∙ ap (λ (x : Reference × Hash). expected_at c.expected x.0.head) same,
    )

-- ---- heads

-- the reference of a name has the head that the name has
head_is : (references : List Reference) (name : List ℕ) (branch : Reference) (hash : Hash) → reference_of references name ≡ Some branch → (other : Reference) × (reference_of references name ≡ Some other) × (other.head ≡ hash) → branch.head ≡ hash
head_is references name branch hash here has = ap (λ (r : Reference). r.head) (same_Some branch has.0 (sym here ∙ has.1)) ∙ has.2

-- ---- later states

judged_later : (a b : State) (c : CommitRequest) (ops : List Op) (hash : Hash) (judged : Judged) → AreLinked b.commits → IsLater a b → opening sha256 b (commands.Commit c) ≡ Ok tt → HasHead b (commands.Commit c) hash → IsJudgedAt a c ops hash judged
    → IsJudgedAt b c ops hash judged
judged_later a b c ops hash judged are later opened has built =
    let there = passed (commit_opening sha256 b c) _ tt opened in
    let branch = there.0.0 in
    let expected = there.0.1 in
    let now = commit_opened b c branch expected there.1 in
    let before = commit_opened a c built.branch built.expected built.opened in
    let kept = head_is b.references c.branch branch hash now.0 has in
    let head : branch.head ≡ built.branch.head = kept ∙ built.head in
    let same : expected ≡ built.expected = now.1 ∙ ap (expected_at c.expected) head ∙ sym before.1 in
    let known = both_known_later a b built.branch.head built.expected later built.known in
    let at_head = sym (entries_later a.commits b.commits built.branch.head are later.commits built.known.upon) ∙ ap (entries b.commits) (sym head) in
    let at_expected = sym (entries_later a.commits b.commits built.expected are later.commits built.known.source) ∙ ap (entries b.commits) (sym same) in
    record {
      branch = branch;
      expected = expected;
      opened = there.1;
      head = sym kept;
      known = record {
        upon = subst (λ (h : Hash). is_known sha256 b h ≡ true) (sym head) known.upon;
        source = subst (λ (h : Hash). is_known sha256 b h ≡ true) (sym same) known.source;
      };
      exact = built.exact ∙ (λ i. judge (at_expected i) (at_head i) ops);
      well_formed = built.well_formed;
    }

merged_later : (a b : State) (m : Merge) (hash : Hash) (d : Draft) → AreLinked b.commits → IsLater a b → opening sha256 b (commands.Merge m) ≡ Ok tt → HasHead b (commands.Merge m) hash → IsMergedAt a m hash d → IsMergedAt b m hash d
merged_later a b m hash d are later opened has built =
    let there = passed (merge_opening sha256 b m) _ tt opened in
    let branch = there.0.0 in
    let source = there.0.1 in
    let now = merge_opened b m branch source there.1 in
    let before = merge_opened a m built.branch built.source built.opened in
    let kept = head_is b.references m.branch branch hash now.0 has in
    let same : source ≡ built.source = now.1 ∙ sym before.1 in
    record {
      branch = branch;
      source = source;
      opened = there.1;
      head = sym kept;
      draft = subst (λ (h : Hash). IsMergeDraft b m branch h d) (sym same) (merge_draft_later a b m built.branch branch built.source d are later built.draft (kept ∙ built.head));
    }

transplanted_later : (a b : State) (t : Transplant) (hash : Hash) (d : Draft) → AreLinked b.commits → IsLater a b → opening sha256 b (commands.Transplant t) ≡ Ok tt → HasHead b (commands.Transplant t) hash → IsTransplantedAt a t hash d → IsTransplantedAt b t hash d
transplanted_later a b t hash d are later opened has built =
    let there = passed (transplant_opening sha256 b t) _ tt opened in
    let now = transplant_opened b t there.0 there.1 in
    let before = transplant_opened a t built.branch built.opened in
    let kept = head_is b.references t.branch there.0 hash now.0 has in
    record {
      branch = there.0;
      opened = there.1;
      head = sym kept;
      draft = transplant_draft_later a b t built.branch there.0 d are later before.1 built.draft (kept ∙ built.head);
    }

made_later : (a b : State) (call : Call) (hash : Hash) (work : Work) → AreLinked b.commits → IsLater a b → opening sha256 b (command_of call) ≡ Ok tt → HasHead b (command_of call) hash → IsMadeAt a call hash work → IsMadeAt b call hash work
made_later a b (calls.Commit c g) hash (works.Judged judged) are later opened has made = judged_later a b c.now g.ops hash judged are later opened has made
made_later a b (calls.Commit c g) hash (works.Planned d) are later opened has made = made
made_later a b (calls.Merge m) hash (works.Judged judged) are later opened has made = made
made_later a b (calls.Merge m) hash (works.Planned d) are later opened has made = merged_later a b m.now hash d are later opened has made
made_later a b (calls.Transplant t) hash (works.Judged judged) are later opened has made = made
made_later a b (calls.Transplant t) hash (works.Planned d) are later opened has made = transplanted_later a b t.now hash d are later opened has made

-- what was built stands in each later state in which the call passes its tests and its branch has the head that was built on
pub built_later : (a b : State) (call : Call) (built : Built) → AreLinked b.commits → IsLater a b → opening sha256 b (command_of call) ≡ Ok tt → HasHead b (command_of call) built.head → IsBuilt a call built → IsBuilt b call built
built_later a b call built = made_later a b call built.head built.work

-- ---- what was built, upon the branch that the tests found

-- the judgement is by the commit that the request expects, and the branch's head
pub judged_upon : (state : State) (c : CommitRequest) (ops : List Op) (hash : Hash) (judged : Judged) (branch : Reference) (expected : Hash) → commit_opening sha256 state c ≡ Ok (branch, expected) → IsJudgedAt state c ops hash judged
    → verdict judged ≡ judge (entries state.commits expected) (entries state.commits branch.head) ops
judged_upon state c ops hash judged branch expected e built =
    let same = same_Ok {A = Reference × Hash} (built.branch, built.expected) (branch, expected) (sym built.opened ∙ e) in
    built.exact ∙ ap (λ (x : Reference × Hash). judge (entries state.commits x.1) (entries state.commits x.0.head) ops) same

-- the draft is of the branch and of what is merged
pub merged_upon : (state : State) (m : Merge) (hash : Hash) (d : Draft) (branch : Reference) (source : Hash) → merge_opening sha256 state m ≡ Ok (branch, source) → IsMergedAt state m hash d → IsMergeDraft state m branch source d
merged_upon state m hash d branch source e built =
    subst (λ (x : Reference × Hash). IsMergeDraft state m x.0 x.1 d) (same_Ok {A = Reference × Hash} (built.branch, built.source) (branch, source) (sym built.opened ∙ e)) built.draft

pub transplanted_upon : (state : State) (t : Transplant) (hash : Hash) (d : Draft) (branch : Reference) → transplant_opening sha256 state t ≡ Ok branch → IsTransplantedAt state t hash d → IsTransplantDraft state t branch d
transplanted_upon state t hash d branch e built = subst (λ (r : Reference). IsTransplantDraft state t r d) (same_Ok built.branch branch (sym built.opened ∙ e)) built.draft
