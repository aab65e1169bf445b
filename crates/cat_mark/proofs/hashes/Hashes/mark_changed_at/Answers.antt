use Rattle.std.proofs.Common.{sym}
use Rattle.cat_mark.proofs.Live.{nothing_there}
use Rattle.cat_mark.proofs.Marking.{adds_none}
use Rattle.cat_mark.proofs.hashes.Hashes.mark_changed_at.Goals as goal

pub returns-in-None-clause-ok : goal.returns-in-None-clause-ok
returns-in-None-clause-ok c = adds_none c.args.self.now _ (nothing_there c.args.maps.now c.args.hash.now c.args.commit.now.ops (sym c.in-None.ensures))
