use Rattle.cat_core.proofs.Swept.{marked_as}
use Rattle.cat_core.proofs.replay.Replay.marks.Goals as goal

pub returns : goal.returns
returns c =
    marked_as (λ m. m.set) c.args.self.now.ledger c.args.self.now.drafts.keys c.args.self.now.taken.items c.args.sweep.now c.marks_of.result c.requires.followed
    (rw c.catalogue-catalogue.ensures at c.commits.ensures.linked) (rw c.catalogue-catalogue.ensures at c.references.ensures.heads) c.requires.since c.requires.opened
    (rw (c.catalogue-catalogue.ensures, c.as_slice.ensures.value, c.first.ensures) at c.marks_of.ensures)
