use Rattle.std.specs.Prelude.{◌≡◌}
use Rattle.cat_core.specs.Opening.{IsLedSoFar, WasRead}
use Rattle.cat_core.specs.Replays.{replayed_from}
use Rattle.cat_core.specs.Sweeping.{IsFollowed}
use Rattle.cat_core.proofs.Led.{StartsAt}
use Rattle.cat_core.proofs.opening.led_to.Given as goal

abbrev pub invariant-loop-i : goal.invariant-loop-i
invariant-loop-i g l = record {
  starts : StartsAt (g.K.Keeper.told l.fn.keeper) l.fn.limits (replayed_from l.replay);
  led : IsLedSoFar (g.K.Keeper.told l.fn.keeper) (replayed_from l.replay) l.i l.replay.ledger;
  followed : IsFollowed l.replay.drafts.keys l.replay.taken.items l.replay.ledger;
  began : l.replay.start.faults ≡ g.K.Keeper.faults l.keeper;
  first : l.replay.ledger.base.place ≡ g.K.Keeper.start l.fn.keeper;
  stays : WasRead g.K.Keeper l.fn.keeper l.keeper;
  level : g.K.Keeper.faults l.keeper ≡ g.K.Keeper.faults l.fn.keeper;
}
