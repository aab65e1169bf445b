use Rattle.cat_core.proofs.Reckoned.{empty_held}
use Rattle.cat_core.proofs.Reopened.{sound_new}
use Rattle.cat_core.proofs.store.Store.new.Goals as goal

pub over-requires-clause-payloads : goal.over-requires-clause-payloads
over-requires-clause-payloads g c κs within = empty_held _ c.args.limits _ c.in-Ok.ledger c.empty-start.result c.in-Ok.ensures c.empty-start.ensures c.requires.none_told

pub over-requires-clause-sound : goal.over-requires-clause-sound
over-requires-clause-sound g c κs within = sound_new c.args.limits 0 _ c.in-Ok.ledger c.empty-start.result c.in-Ok.ensures c.empty-start.ensures
