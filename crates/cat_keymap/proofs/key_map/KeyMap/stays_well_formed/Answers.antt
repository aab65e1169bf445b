use Rattle.std.proofs.Common.{◌∙◌, List, ap, sym, length, get_or, arith}
use Rattle.cat_model.specs.Maps.{Change}
use Rattle.cat_keymap.proofs.Formed.{one_breaks, none_breaks}
use Rattle.cat_keymap.proofs.key_map.KeyMap.stays_well_formed.Goals as goal

pub returns-then-not-keeps_form : goal.returns-then-not-keeps_form
returns-then-not-keeps_form c =
    let size = ap length c.as_slice-key-items.ensures in
    let item = c.loop-key-item.result in
    let is = c.loop-key-item.is ∙ ap (λ (l : List Change). get_or l c.loop-key.key-index item) c.as_slice-key-items.ensures in
    sym (one_breaks c.args.before.now c.args.self.now c.args.changes.now c.loop-key.key-index item c.requires.after c.known-2.ensures.ascends c.known.ensures
    (omega (arith, size, c.loop-key-test.true)) is c.known-in-loop-key.ensures (sym c.keeps_form.ensures ∙ c.if-not-keeps_form.true))

pub returns : goal.returns
returns c =
    let size = ap length c.as_slice-key-items.ensures in
    sym (none_breaks c.args.before.now c.args.self.now c.args.changes.now c.loop-key.key-index c.requires.after c.known-2.ensures.ascends c.known.ensures
    (omega (arith, size, c.loop-key-test.false)) c.loop-key.invariant c.requires.before)
