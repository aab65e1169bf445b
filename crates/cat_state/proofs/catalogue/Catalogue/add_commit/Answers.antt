use Rattle.std.proofs.Common.{rules}
use Rattle.cat_state.proofs.Added.{commit_there}
use Rattle.cat_state.proofs.catalogue.Catalogue.add_commit.Goals as goal

pub returns-then-not-branch-clause-added : goal.returns-then-not-branch-clause-added
returns-then-not-branch-clause-added c =
    commit_there c.args.self.now c.args.more.now c.args.made.written.hash c.args.made.commit c.args.made.map c.requires.new c.requires.next (c.in_ok-is_new_commit.ensures.there (search rules))
