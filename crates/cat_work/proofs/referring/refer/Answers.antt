use Rattle.std.proofs.Common.{ℕ, subst}
use Rattle.cat_work.specs.Turns.{Comes}
use Rattle.cat_work.proofs.Made.{comes_ready}
use Rattle.cat_work.proofs.referring.refer.Goals as goal

pub returns-clause-ready : goal.returns-clause-ready
returns-clause-ready g c = comes_ready c.args.desk.now c.args.command.now c.args.pass.now c.refer_at.new.pass 0 _ c.refer_at.result c.requires.ready c.refer_at.ensures.kept c.refer_at.ensures.legal (c.refer_at.ensures.comes 0)

pub returns-clause-grows : goal.returns-clause-grows
returns-clause-grows g c = (c.refer_at.ensures.comes 0).grows

pub returns-clause-answers : goal.returns-clause-answers
returns-clause-answers g c = let comes : (attempts : ℕ) → Comes c.args.desk.now c.args.command.now c.args.pass.now c.refer_at.new.pass attempts c.now.result c.refer_at.result =
    λ attempts. subst (λ (n : ℕ). Comes c.args.desk.now c.args.command.now c.args.pass.now c.refer_at.new.pass attempts n c.refer_at.result) c.from_micros-moment.ensures (c.refer_at.ensures.comes attempts) in
    (c.now.result, c.now.ensures.ticks, λ attempts. (comes attempts).answers, (comes 0).alone, (comes 0).rests)

pub returns-clause-undrafted : goal.returns-clause-undrafted
returns-clause-undrafted g c = (c.refer_at.ensures.comes 0).undrafted c.requires.kind

pub returns-clause-unswept : goal.returns-clause-unswept
returns-clause-unswept g c = (c.refer_at.ensures.comes 0).unswept
