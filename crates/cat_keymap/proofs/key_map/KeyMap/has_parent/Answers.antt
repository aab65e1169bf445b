use Rattle.std.proofs.Common.{◌∙◌, ap, sym}
use Rattle.cat_keymap.specs.Forming.{has_parent, is_home}
use Rattle.cat_keymap.proofs.Formed.{home_is}
use Rattle.cat_keymap.proofs.key_map.KeyMap.has_parent.Goals as goal

pub returns-in-None : goal.returns-in-None
returns-in-None c = ap (has_parent c.args.self.now c.args.key.now) (sym c.in-None.is)

pub returns-in-Some : goal.returns-in-Some
returns-in-Some c =
    c.is_home.ensures ∙ ap is_home c.parent_state.ensures ∙ home_is c.args.self.now c.args.key.now ∙ ap (has_parent c.args.self.now c.args.key.now) (sym c.in-Some.is)
