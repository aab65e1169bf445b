use Rattle.std.proofs.Common.{◌<◌, IsTrue, sym, subst, arith}
use Rattle.cat_tables.specs.References.{heads_pass}
use Rattle.cat_model.specs.State.{State}
use Rattle.cat_state.specs.Sweeping.{spares_at}
use Rattle.cat_state.proofs.Made.{catalogue_swept}
use Rattle.cat_state.proofs.catalogue.Catalogue.swept.Goals as goal

pub overflow_add-result : goal.overflow_add-result
overflow_add-result c =
    let log : c.self.inside.place < c.self.inside.limits.log = subst (λ (s : State). s.place < s.limits.log) (sym c.self.view_is) c.requires.log in
    omega (arith, log, c.self.invariant.log_bound)

pub invariant_of-result : goal.invariant_of-result
invariant_of-result c =
    let spared = subst (λ (s : State). IsTrue (heads_pass (spares_at s.commits c.args.hashes.now) s.references)) (sym c.self.view_is) c.requires.spared in
    let log = subst (λ (s : State). s.place < s.limits.log) (sym c.self.view_is) c.requires.log in
    let inside = c.self.inside in
    let before : State = record { place = inside.place; references = inside.references; commits = inside.commits; present = inside.contents; limits = inside.limits } in
    rw (c.in_ok-clone.ensures.cases, c.in_ok-clone-2.ensures.cases, c.in_ok-clone-3.ensures.cases, c.in_ok-without.ensures) (catalogue_swept before inside.maps c.args.hashes.now c.self.invariant spared log)
