use Rattle.std.proofs.Common.{◌∙◌}
use Rattle.cat_decisions.specs.BuildLaws.{built_later}
use Rattle.cat_core.proofs.Held.{built_seen, state_seen}
use Rattle.cat_core.proofs.store.Store.is_built_now.Goals as goal

pub returns-clause-built : goal.returns-clause-built
returns-clause-built g c =
    built_seen c.args.call.now c.args.built.now c.catalogue.result.now c.args.self.now.book.state c.requires.built.0 (c.catalogue.ensures ∙ state_seen _ _ c.self.view_is)
    (λ later opened head built. built_later c.requires.built.0 c.catalogue.result.now c.args.call.now c.args.built.now c.commits_are_linked.ensures later opened head built)
    c.requires.built.1 c.requires.opened c.requires.head c.requires.built.2
