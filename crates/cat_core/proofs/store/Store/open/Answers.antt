use Rattle.std.proofs.Common.{◌+◌, [], length, reverse, sym, ◌∙◌, ap, arith}
use Rattle.cat_core.proofs.Reckoned.{opened_payloads}
use Rattle.cat_core.proofs.Reopened.{sound_led}
use Rattle.cat_core.proofs.Resumed.{log_resumed}
use Rattle.std.proofs.lemmas.List.{length-map, length-reverse}
use Rattle.cat_core.proofs.UnderWay.{place_log}
use Rattle.cat_state.specs.Kept.{spelling}
use Rattle.cat_core.proofs.store.Store.open.Goals as goal

pub over-requires-clause-payloads : goal.over-requires-clause-payloads
over-requires-clause-payloads g c κs within = opened_payloads g.K.Keeper c.args.keeper c.led_to.new.keeper c.args.limits _ _ c.in-Ok.ensures.led c.led_to.ensures.stays

pub over-requires-clause-number : goal.over-requires-clause-number
over-requires-clause-number g c κs within = (λ i. c.led_to.ensures.stays.first i + c.led_to.ensures.stays.number i) ∙ sym c.in-Ok.ensures.place

pub over-requires-clause-up : goal.over-requires-clause-up
over-requires-clause-up g c κs within = c.led_to.ensures.stays.fallen ∙ c.requires.up

pub over-requires-clause-sound : goal.over-requires-clause-sound
over-requires-clause-sound g c κs within = sound_led _ _ c.args.limits _ _ c.in-Ok.ensures.led

pub returns-in-Ok-clause-same : goal.returns-in-Ok-clause-same
returns-in-Ok-clause-same g c = λ o log is stands. rw c.over.ensures (log_resumed (g.K.Keeper.told c.args.keeper) (g.K.Keeper.kept c.args.keeper) c.args.limits o _ log _ c.in-Ok.ensures.led is stands)

pub returns-in-Ok-clause-place : goal.returns-in-Ok-clause-place
returns-in-Ok-clause-place g c =
    let led = c.in-Ok.ensures.led in
    let sound = sound_led _ _ c.args.limits _ _ led in
    let at = place_log _ _ [] sound in
    let many = ap length led.spelled ∙ length-map (reverse c.in-Ok.ledger.log) spelling ∙ length-reverse c.in-Ok.ledger.log in
    rw c.over.ensures (omega (arith, at, many, led.number, c.in-Ok.ensures.place))
