use Rattle.std.proofs.Common.{◌++◌, ◌∙◌, ap, sym}
use Rattle.cat_model.specs.Maps.{Map}
use Rattle.cat_keymap.specs.Walking.{walk}
use Rattle.cat_keymap.proofs.Walks.{goes_on}
use Rattle.cat_keymap.proofs.Within.{IsMap-above}
use Rattle.cat_keymap.proofs.differing.walked.Goals as goal

pub loop-key-preserved : goal.loop-key-preserved
loop-key-preserved c = record {
  order = rw c.in_ok-take_up.ensures.left (IsMap-above c.loop-key.left c.in-Some.key.now c.loop-key.invariant.order);
  whole = goes_on c.loop-key.out c.take_up.new.out c.loop-key.rest (c.in-Some.key.now, c.in-Some.entry) c.next.new.self c.loop-key.left c.take_up.new.left _ c.in-Some.ensures c.in_ok-take_up.ensures.left c.in_ok-take_up.ensures.keys c.loop-key.invariant.whole;
}

pub returns : goal.returns
returns c = c.in_ok-add_keys.ensures ∙ ap (λ (m : Map). c.loop-key.out ++ walk m c.loop-key.left) (sym c.in_default.ensures) ∙ c.loop-key.invariant.whole
