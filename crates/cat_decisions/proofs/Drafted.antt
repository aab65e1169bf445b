-- Drafts of merges and of transplants.
use Rattle.std.proofs.Common.{◌≡◌, List, [], ◌∷◌, Some, true, refl, sym, ap, subst, ◌∙◌}
use Rattle.std.proofs.lemmas.List.{append-nil}
use Rattle.cat_keymap.specs.KeyOrder.{both_true}
use Rattle.cat_names.specs.declared.hash.Hash.{Hash}
use Rattle.cat_model.specs.declared.command.Merge.{Merge}
use Rattle.cat_model.specs.declared.commit.Meta.{Meta}
use Rattle.cat_model.specs.declared.reference.Reference.{Reference}
use Rattle.cat_model.specs.Base.{base}
use Rattle.cat_model.specs.Chain.{entries}
use Rattle.cat_model.specs.Maps.{after_changes}
use Rattle.cat_model.specs.Merges as merges
use Rattle.cat_model.specs.Merges.{merge_planned}
use Rattle.cat_model.specs.Namespaces.{is_well_formed}
use Rattle.cat_model.specs.Plan as definition
use Rattle.cat_model.specs.State.{State}
use Rattle.cat_merge.specs.declared.plan.Plan.{Plan}
use Rattle.cat_merge.specs.declared.plan.Planned.{Planned}
use Rattle.cat_merge.specs.Planned.{as_planned, planned}
use Rattle.cat_decisions.specs.declared.drafts.Draft.{Draft}
use Rattle.cat_decisions.specs.Drafts.{AreDrafted, AreKnown, ArePlans, IsMergeDraft, all_planned, asked_of, logged_merge}

pub one_plan : (state : State) (head : Hash) (p : Plan) → p.map ≡ after_changes p.ops (entries state.commits head) → (p.conflicts ≡ [] → is_well_formed p.map ≡ true) → ArePlans state head (p ∷ [])
one_plan state head p upon well = record { upon = (upon, tt); well_formed = λ none. both_true _ _ (well (sym (append-nil p.conflicts) ∙ none)) refl }

-- the plan of a merge is what the definitions plan
merge_exact : (state : State) (m : Merge) (head source ancestor : Hash) (p : Plan) (meta : Meta) → ancestor ≡ base state.commits source head
    → planned p ≡ definition.plan (entries state.commits ancestor) (entries state.commits source) (entries state.commits head) m.modes → meta ≡ m.meta
    → as_planned (record { merge_parent = Some source; meta = meta; plan = p }) ≡ merge_planned state m (base state.commits source head) source head
unfolding merge_planned
merge_exact state m head source ancestor p meta from exact told =
    ap (λ (d : Meta). record { merge_parent = Some source; meta = d; plan = planned p }) told ∙ ap (λ (q : definition.Plan). record { merge_parent = Some source; meta = m.meta; plan = q }) exact
    ∙ ap (λ (h : Hash). merge_planned state m h source head) from

one_drafted : (state : State) (head source : Hash) (p : Plan) (meta : Meta) → AreKnown state head source → ArePlans state head (p ∷ []) → AreDrafted state head (record { merge_parent = Some source; meta = meta; plan = p } ∷ [])
one_drafted state head source p meta known plans = record { known = known.upon; merged = both_true _ _ known.source refl; plans = plans }

pub merge_drafted : (state : State) (m : Merge) (branch : Reference) (source ancestor : Hash) (p : Plan) (meta : Meta) (d : Draft) → AreKnown state branch.head source → ancestor ≡ base state.commits source branch.head
    → planned p ≡ definition.plan (entries state.commits ancestor) (entries state.commits source) (entries state.commits branch.head) m.modes → ArePlans state branch.head (p ∷ []) → meta ≡ m.meta
    → d.ancestor ≡ Some ancestor → d.planned.items ≡ record { merge_parent = Some source; meta = meta; plan = p } ∷ [] → asked_of d.asked ≡ record { dry_run = m.dry_run; conflicts_as_result = m.conflicts_as_result } → d.command ≡ logged_merge m
    → IsMergeDraft state m branch source d
merge_drafted state m branch source ancestor p meta d known from exact plans told one items asked command = record {
  ancestor = one ∙ ap (λ (h : Hash). Some h) from;
  exact = ap all_planned items ∙ ap (λ (x : merges.Planned). x ∷ []) (merge_exact state m branch.head source ancestor p meta from exact told);
  drafted = subst (λ (l : List Planned). AreDrafted state branch.head l) (sym items) (one_drafted state branch.head source p meta known plans);
  asked = asked;
  command = command;
}
