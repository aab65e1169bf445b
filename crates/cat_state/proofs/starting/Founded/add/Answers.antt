use Rattle.std.proofs.Common.{◌≡◌, rules, None, sym}
use Rattle.cat_model.specs.Chain.{commit_of}
use Rattle.cat_state.proofs.Made.{map_is_new}
use Rattle.cat_state.proofs.starting.Founded.add.Goals as goal

pub with-requires-in-Ok-Some : goal.with-requires-in-Ok-Some
with-requires-in-Ok-Some c =
    let absent : commit_of c.self.inside.commits c.args.hash ≡ None = search (rules, c.get.ensures, c.is_some.ensures, c.if-is_some.false, c.if-is_some.ensures) in
    rw c.in_ok-alone-in-Ok-Some-2.ensures (map_is_new c.self.inside.maps c.self.inside.commits c.args.hash c.in-Ok-Some.map c.self.invariant c.known.ensures absent)
