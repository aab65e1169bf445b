use Rattle.std.proofs.Common.{◌∙◌, length, sym, ap}
use Rattle.cat_state.specs.Keeping.{found_map}
use Rattle.cat_state.proofs.Kept.{map_is}
use Rattle.cat_state.proofs.catalogue.Catalogue.keys_at.Goals as goal

pub returns-in-None : goal.returns-in-None
returns-in-None c =
    sym (ap length (map_is c.maps.result.now c.args.self.now.commits c.args.hash.now c.maps.ensures.kept ∙ ap found_map (sym c.in-None.ensures)))

pub returns-in-Some : goal.returns-in-Some
returns-in-Some c =
    c.len.ensures
    ∙ sym (ap length (map_is c.maps.result.now c.args.self.now.commits c.args.hash.now c.maps.ensures.kept ∙ ap found_map (sym c.in-Some.ensures)))
