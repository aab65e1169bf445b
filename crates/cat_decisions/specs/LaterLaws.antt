-- Drafts that stand in each later state.
use Rattle.std.proofs.Common.{◌≡◌, List, [], ◌∷◌, Option, Some, None, Bool, true, ◌||◌, is_some, map, refl, sym, ap, subst, ◌∙◌}
use Rattle.std.specs.List.{list_all}
use Rattle.std.proofs.lemmas.Option.{none-some}
use Rattle.sha2.specs.Sha256.{sha256}
use Rattle.cat_keymap.specs.KeyOrder.{both_true, and_true}
use Rattle.cat_names.specs.declared.hash.Hash.{Hash}
use Rattle.cat_model.specs.declared.command.Merge.{Merge}
use Rattle.cat_model.specs.declared.command.Transplant.{Transplant}
use Rattle.cat_model.specs.declared.commit.Commit.{Commit}
use Rattle.cat_model.specs.declared.reference.Reference.{Reference}
use Rattle.cat_model.specs.Base.{base}
use Rattle.cat_model.specs.Chain.{Commits, commit_of, entries}
use Rattle.cat_model.specs.Later.{IsLater}
use Rattle.cat_model.specs.Maps.{Map}
use Rattle.cat_model.specs.Merges as merges
use Rattle.cat_model.specs.Merges.{merge_planned}
use Rattle.cat_model.specs.Plan.{plan}
use Rattle.cat_model.specs.State.{State, is_known}
use Rattle.cat_model.specs.Transplants.{are_children, are_consecutive, change_made, commits_at, has_parent, plan_each, transplant_planned, with_metas}
use Rattle.cat_graph.specs.Linked.{AreLinked, is_merge_known}
use Rattle.cat_graph.specs.Linked as graph
use Rattle.cat_merge.specs.declared.plan.Plan.{Plan}
use Rattle.cat_merge.specs.declared.plan.Planned.{Planned}
use Rattle.cat_merge.specs.Planned.{AreUpon}
use Rattle.cat_state.specs.HeldLaws.{all_more, or_left}
use Rattle.cat_decisions.specs.declared.drafts.Draft.{Draft}
use Rattle.cat_decisions.specs.AddedLaws.{base_known, base_later, changes_later, commits_later, entries_later, known_later, linked_before, merge_known_later}
use Rattle.cat_decisions.specs.Drafts.{AreDrafted, AreKnown, ArePlans, IsMergeDraft, IsTransplantDraft, all_planned, plans_of}

-- ---- plans

plans_later : (a b : State) (head : Hash) (plans : List Plan) → AreLinked b.commits → IsLater a b → is_known sha256 a head ≡ true → ArePlans a head plans → ArePlans b head plans
plans_later a b head plans are later known made = record {
  upon = subst (λ (m : Map). AreUpon m plans) (sym (entries_later a.commits b.commits head are later.commits known)) made.upon;
  well_formed = made.well_formed;
}

drafted_later : (a b : State) (head : Hash) (planned : List Planned) → AreLinked b.commits → IsLater a b → AreDrafted a head planned → AreDrafted b head planned
drafted_later a b head planned are later drafted = record {
  known = known_later a.commits b.commits head later.commits drafted.known;
  merged = all_more (λ p. is_merge_known a.commits p.merge_parent) (λ p. is_merge_known b.commits p.merge_parent) planned (λ p. merge_known_later a.commits b.commits p.merge_parent later.commits) drafted.merged;
  plans = plans_later a b head (plans_of planned) are later drafted.known drafted.plans;
}

-- what is known stays so
pub both_known_later : (a b : State) (head other : Hash) → IsLater a b → AreKnown a head other → AreKnown b head other
both_known_later a b head other later known = record {
  upon = known_later a.commits b.commits head later.commits known.upon;
  source = known_later a.commits b.commits other later.commits known.source;
}

-- ---- merges

merge_planned_later : (a b : State) (m : Merge) (ancestor source head : Hash) → AreLinked b.commits → IsLater a b → is_known sha256 a ancestor ≡ true → is_known sha256 a source ≡ true → is_known sha256 a head ≡ true
    → merge_planned b m ancestor source head ≡ merge_planned a m ancestor source head
unfolding merge_planned
merge_planned_later a b m ancestor source head are later first second third =
    let before = entries_later a.commits b.commits ancestor are later.commits first in
    let merged = entries_later a.commits b.commits source are later.commits second in
    let target = entries_later a.commits b.commits head are later.commits third in
    λ i. record { merge_parent = Some source; meta = m.meta; plan = plan (before i) (merged i) (target i) m.modes }

merge_draft_at : (a b : State) (m : Merge) (branch : Reference) (source : Hash) (d : Draft) → AreLinked b.commits → IsLater a b → is_known sha256 a source ≡ true → IsMergeDraft a m branch source d → IsMergeDraft b m branch source d
merge_draft_at a b m branch source d are later merged draft =
    let known = draft.drafted.known in
    let same = base_later a.commits b.commits source branch.head are later.commits merged known in
    let first = base_known a.commits source branch.head (linked_before a.commits b.commits are later.commits) merged in
    record {
      ancestor = draft.ancestor ∙ ap (λ (h : Hash). Some h) (sym same);
      exact = draft.exact ∙ ap (λ (p : merges.Planned). p ∷ []) (sym (merge_planned_later a b m (base a.commits source branch.head) source branch.head are later first merged known) ∙ ap (λ (h : Hash). merge_planned b m h source branch.head) (sym same));
      drafted = drafted_later a b branch.head d.planned.items are later draft.drafted;
      asked = draft.asked;
      command = draft.command;
    }

merge_draft_of : (state : State) (m : Merge) (branch other : Reference) (source : Hash) (d : Draft) → other.head ≡ branch.head → IsMergeDraft state m branch source d → IsMergeDraft state m other source d
merge_draft_of state m branch other source d same draft = record {
  ancestor = rw same draft.ancestor;
  exact = rw same draft.exact;
  drafted = rw same draft.drafted;
  asked = draft.asked;
  command = draft.command;
}

-- the other parent of the first
abbrev first_merged : List merges.Planned → Option Hash
first_merged [] = None
first_merged (p ∷ planned) = p.merge_parent

first_known : (commits : Commits) (planned : List Planned) (source : Hash) → first_merged (all_planned planned) ≡ Some source → list_all (λ p. is_merge_known commits p.merge_parent) planned ≡ true → graph.is_known commits source ≡ true
first_known commits [] source e all = absurd (none-some source e)
first_known commits (p ∷ planned) source e all = subst (λ (h : Option Hash). is_merge_known commits h ≡ true) e (and_true (is_merge_known commits p.merge_parent) _ all).0

-- what is merged is known
pub source_known : (state : State) (m : Merge) (branch : Reference) (source : Hash) (d : Draft) → IsMergeDraft state m branch source d → is_known sha256 state source ≡ true
unfolding merge_planned
source_known state m branch source d draft = first_known state.commits d.planned.items source (ap first_merged draft.exact) draft.drafted.merged

-- the draft of a merge is one in each later state, on each branch of the same head
pub merge_draft_later : (a b : State) (m : Merge) (branch other : Reference) (source : Hash) (d : Draft) → AreLinked b.commits → IsLater a b → IsMergeDraft a m branch source d → other.head ≡ branch.head → IsMergeDraft b m other source d
merge_draft_later a b m branch other source d are later draft same =
    merge_draft_of b m branch other source d same (merge_draft_at a b m branch source d are later (source_known a m branch source d draft) draft)

-- ---- transplants

child_known : (parent : Hash) (found : Option Commit) (none : Bool) → has_parent parent found ≡ true → (is_some found || none) ≡ true
child_known parent None none e = absurd cc
child_known parent (Some c) none e = refl

children_known : (commits : Commits) (parent : Hash) (hashes : List Hash) → are_children commits parent hashes ≡ true → list_all (graph.is_known commits) hashes ≡ true
children_known commits parent [] e = refl
children_known commits parent (hash ∷ hashes) e =
    let both = and_true (has_parent parent (commit_of commits hash)) (are_children commits hash hashes) e in
    both_true _ _ (child_known parent (commit_of commits hash) _ both.0) (children_known commits hash hashes both.1)

-- hashes in a row are known
pub row_known : (commits : Commits) (hashes : List Hash) → are_consecutive commits hashes ≡ true → list_all (graph.is_known commits) hashes ≡ true
row_known commits [] e = refl
row_known commits (hash ∷ hashes) e =
    let both = and_true (is_some (commit_of commits hash)) (are_children commits hash hashes) e in
    both_true _ _ (or_left (is_some (commit_of commits hash)) _ both.0) (children_known commits hash hashes both.1)

transplant_planned_later : (a b : State) (t : Transplant) (head : Hash) → AreLinked b.commits → IsLater a b → is_known sha256 a head ≡ true → list_all (graph.is_known a.commits) t.hashes ≡ true → transplant_planned b t head ≡ transplant_planned a t head
unfolding transplant_planned
transplant_planned_later a b t head are later known row =
    let chosen = commits_later a.commits b.commits t.hashes are later.commits row in
    let target = entries_later a.commits b.commits head are later.commits known in
    let changes = changes_later a.commits b.commits t.hashes are later.commits in
    ap (λ (c : Commits). with_metas c (plan_each t.modes (entries b.commits head) (map (change_made b.commits) c))) chosen
    ∙ (λ i. with_metas (commits_at a.commits t.hashes) (plan_each t.modes (target i) (changes i)))

transplant_draft_of : (state : State) (t : Transplant) (branch other : Reference) (d : Draft) → other.head ≡ branch.head → IsTransplantDraft state t branch d → IsTransplantDraft state t other d
transplant_draft_of state t branch other d same draft = record {
  ancestor = draft.ancestor;
  exact = rw same draft.exact;
  drafted = rw same draft.drafted;
  asked = draft.asked;
  command = draft.command;
}

transplant_draft_at : (a b : State) (t : Transplant) (branch : Reference) (d : Draft) → AreLinked b.commits → IsLater a b → list_all (graph.is_known a.commits) t.hashes ≡ true → IsTransplantDraft a t branch d → IsTransplantDraft b t branch d
transplant_draft_at a b t branch d are later row draft = record {
  ancestor = draft.ancestor;
  exact = draft.exact ∙ sym (transplant_planned_later a b t branch.head are later draft.drafted.known row);
  drafted = drafted_later a b branch.head d.planned.items are later draft.drafted;
  asked = draft.asked;
  command = draft.command;
}

-- the draft of a transplant of commits in a row is one in each later state, on each branch of the same head
pub transplant_draft_later : (a b : State) (t : Transplant) (branch other : Reference) (d : Draft) → AreLinked b.commits → IsLater a b → are_consecutive a.commits t.hashes ≡ true → IsTransplantDraft a t branch d → other.head ≡ branch.head → IsTransplantDraft b t other d
transplant_draft_later a b t branch other d are later row draft same =
    transplant_draft_of b t branch other d same (transplant_draft_at a b t branch d are later (row_known a.commits t.hashes row) draft)
