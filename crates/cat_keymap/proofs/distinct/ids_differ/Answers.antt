use Rattle.cat_model.specs.WellMade.{given_ids}
use Rattle.cat_keymap.proofs.Twice.{differ_is}
use Rattle.cat_keymap.proofs.distinct.ids_differ.Goals as goal

pub returns : goal.returns
returns c = rw (c.are_unlike.ensures, c.in_ok-given_ids.ensures) (differ_is (given_ids c.args.ops.now))
