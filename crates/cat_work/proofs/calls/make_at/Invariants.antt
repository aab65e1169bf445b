use Rattle.std.proofs.Common.{◌≡◌, ◌<◌, ◌≤◌}
use Rattle.cat_checks.specs.Histories.{IsLegalFrom}
use Rattle.cat_desk.specs.Pass.{known, seen, turn_of}
use Rattle.cat_work.specs.Turns.{Going}
use Rattle.cat_work.proofs.calls.make_at.Given as goal

abbrev pub invariant-loop-number : goal.invariant-loop-number
invariant-loop-number g l = Going l.desk l.command l.fn.pass l.pass l.trying l.attempts l.number × g.G.Gate.ready l.gate × (g.G.Gate.desks l.gate ≡ g.G.Gate.desks l.fn.gate) × IsLegalFrom l.desk.opened (seen l.pass) × (known l.fn.pass ≤ known l.pass) × (turn_of l.fn.pass < turn_of l.pass)
