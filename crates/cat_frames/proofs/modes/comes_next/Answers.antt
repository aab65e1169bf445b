use Rattle.std.proofs.Common.{◌∙◌, ap, is_lt, sym}
use Rattle.cat_codes.proofs.Items.{last_is}
use Rattle.cat_names.specs.Fields.{Key, key_cmp}
use Rattle.cat_model.specs.declared.merging.Behaviour.{Behaviour}
use Rattle.cat_frames.proofs.modes.comes_next.Goals as goal

pub returns-in-len1-up : goal.returns-in-len1-up
returns-in-len1-up c = rw (last_is c.args.pairs.now c.index-pairs-pairs.result c.in-len1-up.len_at_least c.index-pairs-pairs.is) (c.is_lt.ensures ∙ ap is_lt c.cmp.ensures ∙ ap (λ (v : Key × Behaviour). is_lt (key_cmp v.0 c.args.key.now)) (sym c.index-pairs-pairs.is))
