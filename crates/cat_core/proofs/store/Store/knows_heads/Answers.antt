use Rattle.std.proofs.Common.{◌∙◌, IsTrue, subst}
use Rattle.cat_graph.specs.Linked.{AreLinked}
use Rattle.cat_model.specs.State.{State}
use Rattle.cat_core.specs.Stored.{is_headed}
use Rattle.cat_core.proofs.Held.{state_seen}
use Rattle.cat_core.proofs.store.Store.knows_heads.Goals as goal

pub returns-clause-heads : goal.returns-clause-heads
returns-clause-heads g c = subst (λ (s : State). IsTrue (is_headed s)) (c.catalogue-catalogue.ensures ∙ state_seen _ _ c.self.view_is) c.references.ensures.heads

pub returns-clause-linked : goal.returns-clause-linked
returns-clause-linked g c = subst (λ (s : State). AreLinked s.commits) (c.catalogue-catalogue.ensures ∙ state_seen _ _ c.self.view_is) c.commits_are_linked.ensures
