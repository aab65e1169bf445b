use Rattle.std.proofs.Common.{length}
use Rattle.cat_keeper.specs.Moments.{weaker, followed}
use Rattle.cat_journal.proofs.Adding.{first_images, second_images, done, two_writes}
use Rattle.cat_journal.proofs.append.append_frame.Goals as goal

pub returns-in_err-persist-clause-any_moment : goal.returns-in_err-persist-clause-any_moment
returns-in_err-persist-clause-any_moment g c =
    weaker g.D.Disk.moment g.D.Disk.left_since c.args.disk.now c.persist.new.disk _ _ c.persist.ensures.any_moment
    (first_images _ c.args.gate c.args.payload.now (length c.args.bytes.now) _ c.requires.at_rest c.requires.durable)

pub returns-clause-any_moment : goal.returns-clause-any_moment
returns-clause-any_moment g c =
    followed g.D.Disk.moment g.D.Disk.left_since c.args.disk.now c.persist.new.disk c.persist-2.new.disk _ _ _ c.persist.ensures.any_moment c.persist-2.ensures.any_moment
    (first_images _ c.args.gate c.args.payload.now (length c.args.bytes.now) _ c.requires.at_rest c.requires.durable)
    (second_images _ _ c.args.gate c.args.payload.now c.args.bytes.now _ c.requires.at_rest c.requires.reading c.requires.short c.requires.spelled c.in_ok-persist.ensures.written c.in_ok-persist.ensures.durable)

pub returns-clause-added : goal.returns-clause-added
returns-clause-added g c =
    done _ _ _ c.args.gate c.args.payload.now c.args.bytes.now _ c.requires.at_rest c.requires.reading c.requires.short c.requires.spelled c.in_ok-persist.ensures.written c.persist-2.ensures.written

pub returns-clause-written : goal.returns-clause-written
returns-clause-written g c =
    two_writes _ _ _ c.args.gate c.args.payload.now c.args.bytes.now _ c.requires.spelled c.in_ok-persist.ensures.written c.persist-2.ensures.written
