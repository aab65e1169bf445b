use Rattle.std.proofs.Common.{◌≡◌, ◌+◌, ap, drop, ◌∙◌}
use Rattle.cat_ordered.specs.Places.{place_of, above}
use Rattle.cat_ordered.proofs.InPlace.{made_at}
use Rattle.cat_ordered.proofs.block.change_pairs.Goals as goal

pub place-at-requires : goal.place-at-requires
place-at-requires g c = rw c.as_slice.ensures.value c.requires

pub is_there-requires : goal.is_there-requires
is_there-requires g c = rw (c.as_slice-2.ensures.value, ← c.as_slice.ensures.value) c.place-at.ensures.place

pub set_at-requires : goal.set_at-requires
set_at-requires g c = rw c.as_slice-2.ensures.value at (c.is_there.ensures.there c.if-is_there.true).0

pub insert_at-requires : goal.insert_at-requires
insert_at-requires g c = rw c.as_slice.ensures.value at c.place-at.ensures.bound

pub returns-in_ok-set_at : goal.returns-in_ok-set_at
returns-in_ok-set_at g c =
    let cmp = g.K.Ord.cmp in
    let map = c.args.pairs.now.items in
    let at = c.place-at.result.0 in
    let here : at ≡ place_of cmp map c.args.change.now.0 = (rw c.as_slice.ensures.value at c.place-at.ensures.place) ∙ ap (place_of cmp map) c.key-key.ensures in
    let rest : drop (at + 1) map ≡ above cmp map c.args.change.now.0 = (rw c.as_slice-2.ensures.value at (c.is_there.ensures.there c.if-is_there.true).1) ∙ ap (above cmp map) c.key-key.ensures in
    made_at cmp g.met.K.Ord.total map _ c.args.change.now at (at + 1) here rest c.in_ok-set_at.ensures

pub returns-in_ok-insert_at : goal.returns-in_ok-insert_at
returns-in_ok-insert_at g c =
    let cmp = g.K.Ord.cmp in
    let map = c.args.pairs.now.items in
    let at = c.place-at.result.0 in
    let here : at ≡ place_of cmp map c.args.change.now.0 = (rw c.as_slice.ensures.value at c.place-at.ensures.place) ∙ ap (place_of cmp map) c.key-key.ensures in
    let rest : drop at map ≡ above cmp map c.args.change.now.0 = (rw c.as_slice-2.ensures.value at c.is_there.ensures.other c.if-is_there.false) ∙ ap (above cmp map) c.key-key.ensures in
    made_at cmp g.met.K.Ord.total map _ c.args.change.now at at here rest c.in_ok-insert_at.ensures
