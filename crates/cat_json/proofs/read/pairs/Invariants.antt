use Rattle.cat_json.proofs.Members.{IsReadSo}
use Rattle.cat_json.proofs.Ascending.{HasAll}
use Rattle.cat_json.proofs.read.pairs.Given as goal

abbrev pub invariant-loop-name : goal.invariant-loop-name
invariant-loop-name g l =
    (goal.iterator-loop-name g).can_next l.name-iterator ×
    (goal.iterator-loop-name g).is_finite l.name-iterator
    × IsReadSo g.F.ReadForm.reads l.members.entries l.name-iterator l.pairs
    × HasAll l.members.entries l.name-iterator l.pairs
