use Rattle.std.proofs.Common.{◌∷◌, subst, if◌then◌else◌}
use Rattle.cat_state.specs.Adding.{keeping}
use Rattle.cat_state.specs.Changing.{with_additions}
use Rattle.cat_state.specs.Giving.{GivesAs}
use Rattle.cat_state.proofs.Added.{commit_adds}
use Rattle.cat_state.proofs.catalogue.Catalogue.is_new_commit.Goals as goal

pub returns-clause-step : goal.returns-clause-step
returns-clause-step c =
    let state = with_additions c.args.self.now c.args.more.now in
    let more = keeping ((c.args.written.now.hash, c.args.commit.now) ∷ state.commits) state in
    subst (GivesAs (λ b. if b then more else state) c.is_new.result)
    (commit_adds state c.args.commit.now _ _ _ c.requires.hash c.requires.bytes c.in_ok-kept.ensures.bytes) (c.is_new.ensures.added state more)
