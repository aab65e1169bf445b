use Rattle.std.proofs.Common.{◌∙◌, sym, ap}
use Rattle.cat_model.specs.Maps.{Map, entry_of}
use Rattle.cat_state.specs.Keeping.{found_map}
use Rattle.cat_state.proofs.Kept.{map_is}
use Rattle.cat_state.proofs.catalogue.Catalogue.entry_at.Goals as goal

pub returns-in-None : goal.returns-in-None
returns-in-None c =
    sym (ap (λ (map : Map). entry_of map c.args.key.now) (map_is c.maps.result.now c.args.self.now.commits c.args.hash.now c.maps.ensures.kept ∙ ap found_map (sym c.in-None.ensures)))

pub returns-in-Some : goal.returns-in-Some
returns-in-Some c =
    c.get-in-Some.ensures
    ∙ sym (ap (λ (map : Map). entry_of map c.args.key.now) (map_is c.maps.result.now c.args.self.now.commits c.args.hash.now c.maps.ensures.kept ∙ ap found_map (sym c.in-Some.ensures)))
