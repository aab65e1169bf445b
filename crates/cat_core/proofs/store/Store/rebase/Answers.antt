use Rattle.std.proofs.Common.{◌≡◌, List, true, ap, refl, subst}
use Rattle.cat_model.specs.declared.content.Content.{Content}
use Rattle.cat_model.specs.State.{State}
use Rattle.cat_names.specs.declared.hash.Hash.{Hash}
use Rattle.cat_tables.specs.Tables.{are_distinct}
use Rattle.cat_core.specs.Stored.{opened_held}
use Rattle.cat_core.proofs.Checkpointed.{based_behind, based_step, below_held, checkpoint_told, has_its_main, kept_here, spelled_as, unswept_inside}
use Rattle.cat_core.proofs.Making.{down_none, up_inside}
use Rattle.cat_core.proofs.store.Store.rebase.Goals as goal

pub keep_checkpoint-kept-requires-clause-spelled : goal.keep_checkpoint-kept-requires-clause-spelled
keep_checkpoint-kept-requires-clause-spelled g c κs within =
    spelled_as (opened_held c.self.inside.ledger.base c.self.inside.start) c.self.inside.ledger _ c.self.invariant.1 c.catalogue-catalogue.result.now c.last_logged-draft.result c.in-Ok.drafts c.catalogue-catalogue.ensures c.last_logged-draft.ensures (below_held _ _ _ _ c.as_slice.ensures.value c.in-Ok.ensures)

pub may_start-requires : goal.may_start-requires
may_start-requires g c = record { main = has_its_main (opened_held c.self.inside.ledger.base c.self.inside.start) c.self.inside.ledger _ _ c.self.invariant.1 (ap (λ (s : State). s.references) c.catalogue-catalogue.ensures) }

pub invariant_of-self : goal.invariant_of-self
invariant_of-self g c =
    let laws = g.met.K.Keeper g.world.𝓛 g.world.𝓜 g.world.𝓡 ((λ s x. x), (λ x. x), (λ x. x), λ x. x) in
    let o = opened_held c.self.inside.ledger.base c.self.inside.start in
    let none = up_inside g.K.Keeper.down g.K.Keeper.in_flight laws.flies laws.waits c.self.inside.keeper c.self.inside.fallen c.self.invariant.0.fallen _ _ c.self.view_is refl c.requires.up in
    let so = kept_here g.K.Keeper laws.safe laws.only_now c.self.inside.keeper c.keep_checkpoint-kept.new.keeper o c.self.inside.ledger c.self.inside.drafts.items c.keep_checkpoint-kept.result c.catalogue-catalogue.result.now c.last_logged-draft.result c.in-Ok.drafts c.catalogue-catalogue.ensures c.last_logged-draft.ensures (below_held _ _ _ _ c.as_slice.ensures.value c.in-Ok.ensures)
    (record { spells = c.keep_checkpoint-kept.ensures.spells; reads = c.keep_checkpoint-kept.ensures.reads; once = subst (λ (l : List (Hash × Content)). are_distinct l ≡ true) c.contents.ensures c.known.ensures; may = c.may_start.ensures; bases = c.keep_checkpoint-kept.ensures.bases })
    in (
      based_step g.K.Keeper laws.safe laws.only_now c.self.inside.keeper c.keep_checkpoint-kept.new.keeper o c.self.inside.ledger c.self.inside.drafts.items c.args.caller c.place-place.result c.keep_checkpoint-kept.result c.checkpoint_at-made.result c.self.inside.fallen c.tell.new.fallen
          c.self.invariant.0 none c.checkpoint_at-made.ensures c.tell.ensures.fallen c.self.invariant.1.led so,
      c.self.invariant.1,
      c.self.invariant.2,
      c.self.invariant.3,
      based_behind g.K.Keeper laws.safe laws.only_now c.self.inside.keeper c.keep_checkpoint-kept.new.keeper o c.self.inside.ledger c.self.inside.drafts.items c.keep_checkpoint-kept.result c.self.inside.sweep
          (unswept_inside _ _ c.self.inside.sweep c.self.view_is refl c.requires.unswept) c.self.invariant.1 so c.self.invariant.4,
    )

pub returns : goal.returns
returns g c =
    let laws = g.met.K.Keeper g.world.𝓛 g.world.𝓜 g.world.𝓡 ((λ s x. x), (λ x. x), (λ x. x), λ x. x) in
    let o = opened_held c.self.inside.ledger.base c.self.inside.start in
    let none = up_inside g.K.Keeper.down g.K.Keeper.in_flight laws.flies laws.waits c.self.inside.keeper c.self.inside.fallen c.self.invariant.0.fallen _ _ c.self.view_is refl c.requires.up in
    checkpoint_told g.K.Keeper laws.safe laws.only_now c.self.inside.keeper c.keep_checkpoint-kept.new.keeper o c.self.inside.ledger c.self.inside.drafts.items c.args.caller c.self.inside.drafter c.self.inside.dropped c.self.inside.expired c.self.inside.sweep c.self.inside.closed
    c.keep_checkpoint-kept.result c.checkpoint_at-made.result c.self.inside.fallen c.tell.new.fallen _ _ c.place-place.result c.tell.result none c.checkpoint_at-made.ensures c.tell.ensures.fallen c.self.view_is refl c.place-place.ensures c.tell.ensures.told
    (down_none g.K.Keeper.down c.self.inside.keeper c.self.inside.fallen c.self.invariant.0.fallen none) c.requires
    (kept_here g.K.Keeper laws.safe laws.only_now c.self.inside.keeper c.keep_checkpoint-kept.new.keeper o c.self.inside.ledger c.self.inside.drafts.items c.keep_checkpoint-kept.result c.catalogue-catalogue.result.now c.last_logged-draft.result c.in-Ok.drafts c.catalogue-catalogue.ensures c.last_logged-draft.ensures (below_held _ _ _ _ c.as_slice.ensures.value c.in-Ok.ensures)
    (record { spells = c.keep_checkpoint-kept.ensures.spells; reads = c.keep_checkpoint-kept.ensures.reads; once = subst (λ (l : List (Hash × Content)). are_distinct l ≡ true) c.contents.ensures c.known.ensures; may = c.may_start.ensures; bases = c.keep_checkpoint-kept.ensures.bases }))
