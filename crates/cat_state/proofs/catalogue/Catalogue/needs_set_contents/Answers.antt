use Rattle.std.proofs.Common.{◌≡◌, ◌∙◌, List, true, map, subst}
use Rattle.cat_names.specs.Fields.{Key}
use Rattle.cat_merge.specs.Planned.{as_planned}
use Rattle.cat_model.specs.Merges.{all_set, needs_set_contents}
use Rattle.cat_model.specs.Records.{needs_no_expired}
use Rattle.cat_state.specs.Giving.{Gives}
use Rattle.cat_state.specs.GivingLaws.{on_accepted}
use Rattle.cat_state.specs.HeldLaws.{set_there}
use Rattle.cat_state.specs.Keeping.{has_contents}
use Rattle.cat_state.proofs.catalogue.Catalogue.needs_set_contents.Goals as goal

pub returns-clause-held : goal.returns-clause-held
returns-clause-held c =
    let state = c.args.self.now in
    let planned = map as_planned c.args.planned.now in
    on_accepted c.needs_none.result (needs_set_contents state planned c.args.opened) (has_contents state.present (all_set planned) ≡ true)
    (subst (λ (l : List Key). Gives c.needs_none.result (needs_no_expired l c.args.opened)) (c.in_ok-keys.ensures ∙ c.in_ok-expired.ensures) c.needs_none.ensures) (λ _. set_there state planned c.args.opened)
