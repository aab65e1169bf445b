use Rattle.std.proofs.Common.{◌≡◌, ◌<◌}
use Rattle.cat_model.specs.Turns.{place_after}
use Rattle.cat_desk.specs.Pass.{IsFree, seen}
use Rattle.cat_desk.proofs.hold.HoldGate.between.Given as goal

abbrev pub invariant-loop : goal.invariant-loop
invariant-loop g l = (l.self.desk.now ≡ l.initial.self.desk.now) × IsFree l.self.desk.now l.self.pass × (l.self.entries ≡ l.initial.self.entries) × (l.self.turns ≡ l.initial.self.turns) × (l.self.late ≡ l.initial.self.late)
    × (0 < l.counter → place_after l.self.desk.now.opened (seen l.self.pass) < l.self.entries)
