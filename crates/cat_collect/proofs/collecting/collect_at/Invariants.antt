use Rattle.std.proofs.Common.{◌≡◌, ◌<◌, ◌≤◌}
use Rattle.cat_checks.specs.Histories.{IsLegalFrom}
use Rattle.cat_desk.specs.Pass.{known, seen, turn_of}
use Rattle.cat_collect.specs.Turns.{GoesWith}
use Rattle.cat_collect.proofs.collecting.collect_at.Given as goal

abbrev pub invariant-loop-number : goal.invariant-loop-number
invariant-loop-number g l = GoesWith l.desk l.fn.policy l.fn.pass l.pass l.marking × g.G.Gate.ready l.gate × (g.G.Gate.desks l.gate ≡ g.G.Gate.desks l.fn.gate) × IsLegalFrom l.desk.opened (seen l.pass) × (known l.fn.pass ≤ known l.pass) × (turn_of l.fn.pass < turn_of l.pass)
