use Rattle.std.proofs.Common.{◌≡◌, ◌≤◌, ◌+◌, IsTrue, length, map}
use Rattle.std.specs.List.{list_all}
use Rattle.std.specs.Vec.Iter.{into_iter_items}
use Rattle.sha2.specs.Sha256.{sha256}
use Rattle.cat_frames.specs.Standing.{maps_pass}
use Rattle.cat_graph.specs.Linked.{is_merge_known}
use Rattle.cat_merge.specs.Planned.{as_planned}
use Rattle.cat_model.specs.Chain.{entries}
use Rattle.cat_model.specs.Merges.{with_planned}
use Rattle.cat_model.specs.State.{is_known}
use Rattle.cat_state.specs.Changing.{AreNewTo, with_additions}
use Rattle.cat_state.specs.Keeping.{IsHeldAt, fits}
use Rattle.cat_state.specs.Planning.{AreMadeUpon, all_fit}
use Rattle.cat_state.proofs.catalogue.Catalogue.planned_additions.Given as goal

abbrev pub invariant-loop-one : goal.invariant-loop-one
invariant-loop-one l =
    let state = with_additions l.self l.more in
    let rest = into_iter_items l.one-iterator in
    record {
      left : with_planned sha256 l.moment state l.at (map as_planned rest) ≡ with_planned sha256 l.moment l.self l.head (map as_planned (l.fn.planned).items);
      new : AreNewTo l.self l.more;
      known : IsTrue (is_known sha256 state l.at);
      merged : IsTrue (list_all (λ p. is_merge_known state.commits p.merge_parent) rest);
      held : IsHeldAt state l.at;
      made : AreMadeUpon state.present (entries state.commits l.at) rest;
      room : length state.commits + length rest ≤ 4294967295;
      present : state.present ≡ (l.self).present;
      count : length state.commits + length rest ≤ length (l.self).commits + length (l.fn.planned).items;
      keys : IsTrue (all_fit l.self (l.fn.planned).items) → IsTrue (maps_pass (fits (l.self).limits) (l.self).commits) → IsTrue (all_fit l.self rest) × IsTrue (maps_pass (fits (l.self).limits) state.commits);
    }
