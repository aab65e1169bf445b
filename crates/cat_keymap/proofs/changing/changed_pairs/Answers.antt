use Rattle.std.proofs.Common.{List, ap, ◌∙◌}
use Rattle.cat_model.specs.Maps.{Change, after_changes}
use Rattle.cat_keymap.specs.Shared.{pairs_of}
use Rattle.cat_keymap.proofs.changing.changed_pairs.Goals as goal

pub returns : goal.returns
returns c = c.in_ok-changed.ensures ∙ ap (λ (changes : List Change). after_changes changes (pairs_of c.args.pairs.now)) (c.as_slice.ensures.value ∙ c.in_ok-copies.ensures)
