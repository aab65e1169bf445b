use Rattle.std.proofs.Common.{rules, [], sym, ◌∙◌}
use Rattle.std.proofs.lemmas.List.{append-nil}
use Rattle.cat_tests.proofs.asking.desk_of.Goals as goal

pub returns-clause-ready : goal.returns-clause-ready
returns-clause-ready g c =
    let desk = c.in-Ok-new-2.ensures.desk in
    let pass = c.in-Ok-new-2.ensures.pass in
    record { free = desk.2; none = pass.3; legal = search rules; starts = ([], pass.0 ∙ sym desk.1 ∙ sym (append-nil c.in-Ok-new-2.both.0.begun)) }
