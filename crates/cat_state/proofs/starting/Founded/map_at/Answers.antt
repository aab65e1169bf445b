use Rattle.std.proofs.Common.{◌≡◌, ◌∙◌, Bor, None, Some, ap}
use Rattle.cat_model.specs.Chain.{Commits, entries}
use Rattle.cat_model.specs.Maps.{Map}
use Rattle.cat_state.proofs.Kept.{map_found}
use Rattle.cat_state.proofs.starting.Founded.map_at.Goals as goal

pub returns-in-None : goal.returns-in-None
returns-in-None c =
    c.empty.ensures ∙ map_found (λ (m : Bor Map). m.now) _ _ c.args.hash.now _ None c.self.invariant c.get.ensures c.in-None.is
    ∙ ap (λ (l : Commits). entries l c.args.hash.now) c.self.view_is

pub returns-in_ok-copy_map-in-Some : goal.returns-in_ok-copy_map-in-Some
returns-in_ok-copy_map-in-Some c =
    c.in_ok-copy_map-in-Some.ensures ∙ map_found (λ (m : Bor Map). m.now) _ _ c.args.hash.now _ (Some c.in-Some.map) c.self.invariant c.get.ensures c.in-Some.is
    ∙ ap (λ (l : Commits). entries l c.args.hash.now) c.self.view_is
