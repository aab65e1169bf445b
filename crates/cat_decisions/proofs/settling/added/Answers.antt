use Rattle.cat_decisions.proofs.Followed.{may_follow}
use Rattle.cat_decisions.proofs.settling.added.Goals as goal

pub planned_additions-requires : goal.planned_additions-requires
planned_additions-requires c =
    let may = may_follow c.args.catalogue.now c.args.head.now c.args.planned.items c.in_ok-made.made.items c.requires.drafted c.requires.held c.requires.set c.requires.room c.requires.conflicts c.in_ok-made.ensures in
    record { known = may.known; merged = may.merged; held = c.requires.held; made = may.made; room = may.room }
