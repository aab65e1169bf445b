-- Plans with what is said of their commits.
use Rattle.std.proofs.Common.{◌≡◌, List, [], ◌∷◌, ◌++◌, length, map, None, true, refl, sym, ap, ◌∙◌, suc, arith}
use Rattle.std.specs.List.{list_all}
use Rattle.std.proofs.lemmas.List.{append-nil}
use Rattle.cat_model.specs.declared.commit.Meta.{Meta}
use Rattle.cat_model.specs.declared.merging.Modes.{Modes}
use Rattle.cat_model.specs.Chain.{Commits}
use Rattle.cat_model.specs.Maps.{Map}
use Rattle.cat_model.specs.Plan as definition
use Rattle.cat_model.specs.Transplants.{plan_each, with_metas}
use Rattle.cat_graph.specs.Linked.{is_merge_known}
use Rattle.cat_merge.specs.declared.plan.Plan.{Plan}
use Rattle.cat_merge.specs.declared.plan.Planned.{Planned}
use Rattle.cat_merge.specs.Planned.{planned}
use Rattle.cat_decisions.specs.Drafts.{all_planned, meta_of, paired, plans_of}
use Rattle.cat_decisions.proofs.Lists.{length_mapped}

pub paired_are : (chosen : Commits) (plans : List Plan) → all_planned (paired (map meta_of chosen) plans) ≡ with_metas chosen (map planned plans)
paired_are [] plans = refl
paired_are (x ∷ chosen) [] = refl
paired_are (x ∷ chosen) (p ∷ plans) = ap (λ l. record { merge_parent = None; meta = meta_of x; plan = planned p } ∷ l) (paired_are chosen plans)

-- none is left over
pub plans_paired : (metas : List Meta) (plans : List Plan) → length plans ≡ length metas → plans_of (paired metas plans) ≡ plans
plans_paired [] [] e = refl
plans_paired [] (p ∷ plans) e = absurd (omega (arith, e))
plans_paired (m ∷ metas) [] e = refl
plans_paired (m ∷ metas) (p ∷ plans) e = ap (λ l. p ∷ l) (plans_paired metas plans (omega (arith, e)))

pub merge_nothing : (commits : Commits) (metas : List Meta) (plans : List Plan) → list_all (λ p. is_merge_known commits p.merge_parent) (paired metas plans) ≡ true
merge_nothing commits [] plans = refl
merge_nothing commits (m ∷ metas) [] = refl
merge_nothing commits (m ∷ metas) (p ∷ plans) = merge_nothing commits metas plans

each_has_one : (modes : Modes) (target : Map) (changes : List (Map × Map)) → length (plan_each modes target changes) ≡ length changes
each_has_one modes target [] = refl
each_has_one modes target (c ∷ changes) = ap (λ n. suc n) (each_has_one modes (definition.plan c.0 c.1 target modes).map changes)

-- as many plans as commits
pub plans_count : (modes : Modes) (target : Map) (changes : List (Map × Map)) (plans : List Plan) → map planned plans ≡ plan_each modes target changes → length plans ≡ length changes
plans_count modes target changes plans e = sym (length_mapped planned plans) ∙ ap length e ∙ each_has_one modes target changes

-- no plans are left
pub pairs_done : (out all : List Planned) (metas : List Meta) (plans : List Plan) → length plans ≡ 0 → out ++ paired metas plans ≡ all → out ≡ all
pairs_done out all [] [] none e = sym (append-nil out) ∙ e
pairs_done out all (m ∷ metas) [] none e = sym (append-nil out) ∙ e
pairs_done out all metas (p ∷ plans) none e = absurd (omega (arith, none))
