use Rattle.std.proofs.Common.{◌∙◌, sym, ap, reverse, Some, arith}
use Rattle.cat_names.specs.declared.hash.Hash.{Hash}
use Rattle.cat_tables.proofs.Places.{at_its_place, no_value}
use Rattle.cat_tables.proofs.batch.Batch.get.Goals as goal

pub index-requires : goal.index-requires
index-requires g c =
    let there = at_its_place c.self.inside.items.items c.args.hash.now c.in-Some.place.now (sym (c.self.invariant.found c.args.hash.now) ∙ sym c.in-Some.ensures.value) in
    omega (arith, there.0)

pub returns-in-None : goal.returns-in-None
returns-in-None g c = rw (sym c.self.view_is) (sym (no_value (reverse c.self.inside.items.items) c.args.hash.now (sym (c.self.invariant.found c.args.hash.now) ∙ sym c.in-None.ensures.value)))

pub returns-in-Some : goal.returns-in-Some
returns-in-Some g c =
    let there = at_its_place c.self.inside.items.items c.args.hash.now c.in-Some.place.now (sym (c.self.invariant.found c.args.hash.now) ∙ sym c.in-Some.ensures.value) in
    rw (sym c.self.view_is) (ap (λ (x : Hash × g.row.V.Denot). Some x.1) c.index.ensures ∙ sym (there.1 c.index.result.now))
