use Rattle.std.proofs.Common.{◌≡◌, List, ◌++◌, reverse, sym, subst, ◌∙◌}
use Rattle.std.specs.Vec.Iter.{into_iter_items}
use Rattle.cat_model.specs.declared.content.Content.{Content}
use Rattle.cat_names.specs.declared.hash.Hash.{Hash}
use Rattle.cat_state.proofs.Sorted.{all_taken, held_alone, next_absent}
use Rattle.cat_state.proofs.starting.holding.Goals as goal

pub push-requires-clause-absent : goal.push-requires-clause-absent
push-requires-clause-absent c =
    next_absent (c.in-Some.hash, c.in-Some.content) (into_iter_items c.next.new.self) c.loop-hash.batch.list c.args.contents.items
    (subst (λ (l : List (Hash × Content)). reverse l ++ c.loop-hash.batch.list ≡ reverse c.args.contents.items) c.in-Some.ensures.steps.0 c.loop-hash.invariant.all) c.requires

pub returns : goal.returns
returns c =
    let left = c.loop-hash.hash-iterator in
    held_alone c.with-2.result c.loop-hash.batch.list c.new.result (reverse c.args.contents.items) c.new.ensures
    (all_taken (into_iter_items left) c.loop-hash.batch.list c.args.contents.items (sym left.rest.ok.0 ∙ c.in-None.ensures.steps.0) c.loop-hash.invariant.all) c.with-2.ensures
