use Rattle.std.proofs.Common.{◌∷◌, subst, if◌then◌else◌}
use Rattle.cat_state.specs.Adding.{holding}
use Rattle.cat_state.specs.Changing.{with_additions}
use Rattle.cat_state.specs.Giving.{GivesAs}
use Rattle.cat_state.proofs.Added.{content_absent, content_adds, content_new}
use Rattle.cat_state.proofs.catalogue.Catalogue.is_new_content.Goals as goal

pub returns-then-is_none-clause-step : goal.returns-then-is_none-clause-step
returns-then-is_none-clause-step c =
    content_new _ c.in_ok-kept.kept _ (with_additions c.args.self.now c.args.more.now) c.args.content.now c.args.hash c.requires c.in_ok-kept.ensures c.is_none.ensures c.if-is_none.true

pub returns-then-is_none-clause-absent : goal.returns-then-is_none-clause-absent
returns-then-is_none-clause-absent c = λ _. content_absent _ c.in_ok-kept.kept _ (with_additions c.args.self.now c.args.more.now).present c.args.hash c.in_ok-kept.ensures c.is_none.ensures c.if-is_none.true

pub returns-clause-step : goal.returns-clause-step
returns-clause-step c =
    let state = with_additions c.args.self.now c.args.more.now in
    let more = holding ((c.args.hash, c.args.content.now) ∷ state.present) state in
    subst (GivesAs (λ b. if b then more else state) c.is_new.result)
    (content_adds state c.args.content.now _ _ _ c.requires c.in_ok-bytes.ensures.spelled c.in_ok-kept.ensures) (c.is_new.ensures.added state more)
