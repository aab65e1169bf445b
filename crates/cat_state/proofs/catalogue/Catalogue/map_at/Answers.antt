use Rattle.std.proofs.Common.{◌≡◌, ◌∙◌, Bor, None, Some, subst}
use Rattle.std.specs.Prelude.{IfOk}
use Rattle.cat_model.specs.Maps.{Map}
use Rattle.cat_state.proofs.Kept.{map_found}
use Rattle.cat_state.proofs.catalogue.Catalogue.map_at.Goals as goal

pub returns-in-None : goal.returns-in-None
returns-in-None c = c.empty.ensures ∙ map_found (λ (m : Bor Map). m.now) _ _ c.args.hash.now _ None c.maps.ensures.kept c.get.ensures c.in-None.is

pub returns-in-Some : goal.returns-in-Some
returns-in-Some c =
    let e : (c.in-Some.map).now ≡ _ = map_found (λ (m : Bor Map). m.now) _ _ c.args.hash.now _ (Some c.in-Some.map) c.maps.ensures.kept c.get.ensures c.in-Some.is in
    subst (λ (m : Map). IfOk c.copy_map.result (λ map. map ≡ m)) e c.copy_map.ensures
