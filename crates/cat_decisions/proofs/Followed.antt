-- Plans that change something may follow a head.
use Rattle.std.proofs.Common.{◌≡◌, ◌+◌, ◌≤◌, List, [], ◌∷◌, length, Bool, true, false, cond, is_some, refl, sym, subst, ◌∙◌}
use Rattle.std.specs.List.{list_all}
use Rattle.std.proofs.lemmas.List.Folds.{list_all-append}
use Rattle.cat_keymap.specs.KeyOrder.{both_true, and_true}
use Rattle.sha2.specs.Sha256.{sha256}
use Rattle.cat_names.specs.Fields.{Key}
use Rattle.cat_names.specs.declared.hash.Hash.{Hash}
use Rattle.cat_model.specs.declared.content.Content.{Content}
use Rattle.cat_model.specs.declared.entry.Entry.{Entry}
use Rattle.cat_model.specs.Chain.{entries}
use Rattle.cat_model.specs.Maps.{Change, Map, after_changes}
use Rattle.cat_model.specs.Merges as merges
use Rattle.cat_model.specs.Namespaces.{is_well_formed}
use Rattle.cat_model.specs.State.{State, content_at, is_known}
use Rattle.cat_graph.specs.Linked.{is_merge_known}
use Rattle.cat_merge.specs.declared.plan.Plan.{Plan}
use Rattle.cat_merge.specs.declared.plan.Planned.{Planned}
use Rattle.cat_merge.specs.Planned.{AreUpon}
use Rattle.cat_state.specs.HeldLaws.{all_after}
use Rattle.cat_state.specs.Keeping.{has_contents}
use Rattle.cat_state.specs.Planning.{AreMadeUpon}
use Rattle.cat_decisions.specs.Drafts.{AreDrafted, all_conflicts_in, all_planned, all_set_in, changing, has_changes, plans_of}
use Rattle.cat_decisions.specs.Settling.{HasRoom}
use Rattle.cat_decisions.proofs.Lists.{flat_mapped, sets_are}

-- what passes of all passes of those that change something
kept_by : (q : Planned → Bool) (b : Bool) (p : Planned) (rest : List Planned) → q p ≡ true → list_all q rest ≡ true → list_all q (cond b (p ∷ rest) rest) ≡ true
kept_by q true p rest own others = both_true _ _ own others
kept_by q false p rest own others = others

pub kept_pass : (q : Planned → Bool) (planned : List Planned) → list_all q planned ≡ true → list_all q (changing planned) ≡ true
kept_pass q [] e = refl
kept_pass q (p ∷ planned) e = let both = and_true (q p) (list_all q planned) e in kept_by q (has_changes p) p (changing planned) both.0 (kept_pass q planned both.1)

-- no changes leave a map as it is
no_changes : (ops : List Change) (map : Map) → merges.has_changes ops ≡ false → after_changes ops map ≡ map
no_changes [] map e = refl
no_changes (x ∷ ops) map e = absurd cc

upon_by : (present : List (Hash × Content)) (before : Map) (p : Planned) (rest : List Planned) (b : Bool) → has_changes p ≡ b → p.plan.map ≡ after_changes p.plan.ops before → is_well_formed p.plan.map ≡ true → has_contents present p.plan.map ≡ true
    → AreMadeUpon present p.plan.map rest → AreMadeUpon present before (cond b (p ∷ rest) rest)
upon_by present before p rest true e changed well held others = (record { changed = changed; well_formed = well; held = held }, others)
upon_by present before p rest false e changed well held others = subst (λ (m : Map). AreMadeUpon present m rest) (changed ∙ no_changes p.plan.ops before e) others

-- what is held before plans, and all that they set, is held on the map of each
made_upon : (present : List (Hash × Content)) (before : Map) (planned : List Planned) → has_contents present before ≡ true → has_contents present (all_set_in planned) ≡ true → AreUpon before (plans_of planned) → list_all (λ p. is_well_formed p.map) (plans_of planned) ≡ true
    → AreMadeUpon present before (changing planned)
made_upon present before [] there set upon well = tt
made_upon present before (p ∷ planned) there set upon well =
    let held : Key × Entry → Bool = λ (x : Key × Entry). is_some (content_at present x.1.hash) in
    let sets = and_true (list_all held (merges.entries_set p.plan.ops)) (list_all held (all_set_in planned)) (sym (list_all-append held (merges.entries_set p.plan.ops) (all_set_in planned)) ∙ set) in
    let wells = and_true (is_well_formed p.plan.map) (list_all (λ (p : Plan). is_well_formed p.map) (plans_of planned)) well in
    let after : has_contents present p.plan.map ≡ true = subst (λ (m : Map). has_contents present m ≡ true) (sym upon.0) (all_after held p.plan.ops before sets.0 there) in
    upon_by present before p (changing planned) (has_changes p) refl upon.0 wells.0 after (made_upon present p.plan.map planned after sets.1 upon.1 wells.1)

-- commits of plans may be added upon a head, in turn
pub record MayFollow (state : State) (head : Hash) (planned : List Planned) : Type 0 where
  pub known : is_known sha256 state head ≡ true
  pub merged : list_all (λ p. is_merge_known state.commits p.merge_parent) planned ≡ true
  pub made : AreMadeUpon state.present (entries state.commits head) planned
  pub room : length state.commits + length planned ≤ 4294967295

pub may_follow : (state : State) (head : Hash) (planned made : List Planned) → AreDrafted state head planned → has_contents state.present (entries state.commits head) ≡ true → has_contents state.present (merges.all_set (all_planned planned)) ≡ true → HasRoom state head planned
    → all_conflicts_in planned ≡ [] → made ≡ changing planned → MayFollow state head made
may_follow state head planned made drafted held set room none is = subst (λ (l : List Planned). MayFollow state head l) (sym is) (record {
  known = drafted.known;
  merged = kept_pass (λ (p : Planned). is_merge_known state.commits p.merge_parent) planned drafted.merged;
  made = made_upon state.present (entries state.commits head) planned held (subst (λ (m : Map). has_contents state.present m ≡ true) (sets_are planned) set) drafted.plans.upon (drafted.plans.well_formed (flat_mapped (λ (p : Plan). p.conflicts) (λ (p : Planned). p.plan) planned ∙ none));
  room = room.commits;
})
