use Rattle.std.proofs.Common.{◌≡◌, ◌∙◌, sym, ap}
use Rattle.cat_model.specs.Maps.{Map}
use Rattle.cat_keymap.specs.Places.{above, past}
use Rattle.cat_keymap.proofs.Agreeing.{past_is}
use Rattle.cat_keymap.proofs.Within.{first_there, none_there}
use Rattle.cat_keymap.proofs.children.has_child.Goals as goal

pub returns-in-None : goal.returns-in-None
returns-in-None c =
    let map = c.args.map.now in
    let key = c.args.key.now in
    let left : c.take.new.self ≡ above map key = c.take.ensures.left ∙ ap (λ (m : Map). past m key) c.walk_from-above.ensures ∙ past_is map key in
    sym (none_there map key _ left c.in-None.ensures)

pub returns-in-Some : goal.returns-in-Some
returns-in-Some c =
    let map = c.args.map.now in
    let key = c.args.key.now in
    let left : c.take.new.self ≡ above map key = c.take.ensures.left ∙ ap (λ (m : Map). past m key) c.walk_from-above.ensures ∙ past_is map key in
    let child = first_there map key _ _ _ c.requires left c.in-Some.ensures in
    c.is_child.ensures ∙ rw (c.elements.ensures, c.elements-in-Some.ensures) child
