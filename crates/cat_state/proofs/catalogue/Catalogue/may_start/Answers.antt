use Rattle.std.proofs.Common.{◌≡◌, true, IsTrue, sym, subst}
use Rattle.sha2.specs.Sha256.{sha256}
use Rattle.cat_frames.specs.Standing.{has_main, may_start}
use Rattle.cat_model.specs.State.{State}
use Rattle.cat_state.proofs.Whole.{catalogue_starts}
use Rattle.cat_state.proofs.catalogue.Catalogue.may_start.Goals as goal

pub returns : goal.returns
returns c =
    let inside = c.self.inside in
    let it : State = record { place = inside.place; references = inside.references; commits = inside.commits; present = inside.contents; limits = inside.limits } in
    let main = subst (λ (s : State). IsTrue (has_main s.references)) (sym c.self.view_is) c.requires.main in
    subst (λ (s : State). may_start sha256 s ≡ true) c.self.view_is (catalogue_starts it inside.maps c.self.invariant c.known.ensures main)
