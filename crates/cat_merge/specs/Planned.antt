-- Plans as the definitions have them.
use Rattle.std.specs.Prelude.{◌≡◌, List, [], ◌∷◌, All}
use Rattle.cat_model.specs.Maps.{Map, after_changes}
use Rattle.cat_model.specs.Merges as merges
use Rattle.cat_model.specs.Plan as definition
use Rattle.cat_keymap.specs.Among.{Covers}
use Rattle.cat_merge.specs.declared.plan.Plan.{Plan}
use Rattle.cat_merge.specs.declared.plan.Planned.{Planned}
use Rattle.cat_merge.specs.declared.transplant.Step.{Step}

abbrev pub planned : Plan → definition.Plan
planned p = record { details = p.details; conflicts = p.conflicts; ops = p.ops; map = p.map }

-- a plan with what is said of its commit
abbrev pub as_planned : Planned → merges.Planned
as_planned p = record { merge_parent = p.merge_parent; meta = p.meta; plan = planned p.plan }

-- what a commit changed
abbrev pub step_of : Step → Map × Map
step_of s = (s.base, s.source)

-- each key whose entries differ is among those that were touched
abbrev pub AreTouched : List Step → Type 0
AreTouched steps = All (λ s. Covers s.touched s.base s.source) steps

-- the map that plans leave: the last one's, or the one before them
abbrev pub map_after : Map → List Plan → Map
map_after before [] = before
map_after before (p ∷ plans) = map_after p.map plans

-- the map of each is its changes of the one before
abbrev pub AreUpon : Map → List Plan → Type 0
AreUpon before [] = Unit {0}
AreUpon before (p ∷ plans) = (p.map ≡ after_changes p.ops before) × AreUpon p.map plans
