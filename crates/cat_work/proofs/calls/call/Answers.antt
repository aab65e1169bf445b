use Rattle.cat_work.proofs.calls.call.Goals as goal

pub returns-in-Create-clause-answers : goal.returns-in-Create-clause-answers
returns-in-Create-clause-answers g c = let x = c.refer.ensures.answers in (x.0, x.1, x.2 c.args.attempts, x.3, x.4, λ _. c.refer.ensures.undrafted, c.refer.ensures.unswept)
