use Rattle.std.proofs.Common.{◌≡◌, ◌++◌, ◌∙◌, ℕ, List, ap, take, append_assoc}
use Rattle.cat_ordered.specs.Maps.{present}
use Rattle.cat_ordered.specs.Places.{place_of, below, above}
use Rattle.cat_ordered.proofs.Changes.{take_place}
use Rattle.cat_ordered.proofs.block.take_up.Goals as goal

pub returns : goal.returns
returns g c =
    let cmp = g.K.Ord.cmp in
    let map = c.args.left.now in
    let key = c.args.change.now.0 in
    let front : c.front_of.result.now ≡ below cmp map key =
    c.front_of.ensures ∙ ap (λ (n : ℕ). take n map) (c.place-at.ensures.place ∙ ap (place_of cmp map) c.key-key.ensures) ∙ take_place cmp g.met.K.Ord.total map key in (
      c.above.ensures ∙ ap (above cmp map) c.key-key.ensures,
      c.in_ok-put.ensures ∙ ap (λ (m : List (g.row.K.Denot × g.row.V.Denot)). m ++ present c.args.change.now) (c.in_ok-copy_into.ensures ∙ ap (λ (m : List (g.row.K.Denot × g.row.V.Denot)). c.args.out.now.items ++ m) front)
          ∙ append_assoc c.args.out.now.items (below cmp map key) (present c.args.change.now),
    )
