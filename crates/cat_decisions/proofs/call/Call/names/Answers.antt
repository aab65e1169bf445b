use Rattle.std.proofs.Common.{◌∙◌}
use Rattle.cat_decisions.proofs.Found.{commit_names}
use Rattle.cat_decisions.proofs.call.Call.names.Goals as goal

pub returns-in_ok-contents-in-Commit : goal.returns-in_ok-contents-in-Commit
returns-in_ok-contents-in-Commit c number given =
    commit_names number c.args.self.now _ (c.in-Commit.given) c.new.result.items c.in_ok-contents-in-Commit.contents.items c.in-Commit.is given c.new.ensures.items (c.in_ok-contents-in-Commit.ensures ∙ c.as_slice.ensures.value)
