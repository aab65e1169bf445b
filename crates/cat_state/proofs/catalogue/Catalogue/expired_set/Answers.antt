use Rattle.std.proofs.Common.{arith, List, ◌∙◌, ap}
use Rattle.cat_model.specs.Maps.{Change}
use Rattle.cat_model.specs.Merges.{entries_set}
use Rattle.cat_state.proofs.Sets.{WithExpired, next_plan, no_plan_left}
use Rattle.cat_state.proofs.catalogue.Catalogue.expired_set.Goals as goal

pub loop-one-preserved : goal.loop-one-preserved
loop-one-preserved c =
    next_plan c.args.self.now c.args.planned.now c.one-item.result c.loop-one.one-index (c.loop-one.keys).keys (c.note_changes.new.keys).keys _ (omega arith) c.one-item.is
    (c.in_ok-note_changes.ensures ∙ ap (λ (ops : List Change). WithExpired c.args.self.now (c.loop-one.keys).keys (entries_set ops)) c.as_slice.ensures) c.loop-one.invariant

pub returns : goal.returns
returns c = no_plan_left c.args.self.now c.args.planned.now c.loop-one.one-index (c.loop-one.keys).keys _ (omega arith) c.loop-one.invariant
