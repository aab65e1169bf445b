use Rattle.std.proofs.Common.{◌≡◌, ◌+◌, ◌≤◌, ◌∙◌, ◌∷◌, ◌++◌, List, IsTrue, length, map, true, sym, subst, ap, arith}
use Rattle.std.specs.List.{list_all}
use Rattle.std.specs.Vec.Iter.{into_iter_items}
use Rattle.sha2.specs.Sha256.{sha256}
use Rattle.cat_tables.specs.ReferenceLaws.{and_true}
use Rattle.cat_tables.specs.Tables.{Recorded}
use Rattle.cat_frames.specs.Standing.{maps_pass}
use Rattle.cat_graph.specs.Linked.{is_merge_known}
use Rattle.cat_merge.specs.declared.plan.Planned.{Planned}
use Rattle.cat_merge.specs.Planned.{as_planned}
use Rattle.cat_model.specs.declared.content.Content.{Content}
use Rattle.cat_model.specs.Chain.{entries}
use Rattle.cat_model.specs.Maps.{Map}
use Rattle.cat_model.specs.Merges.{with_planned}
use Rattle.cat_model.specs.State.{State, is_known}
use Rattle.cat_state.specs.Adding.{HasCommit}
use Rattle.cat_state.specs.Changing.{with_additions}
use Rattle.cat_state.specs.Keeping.{IsHeldAt, fits}
use Rattle.cat_state.specs.Planning.{AreMadeUpon, all_fit}
use Rattle.cat_state.proofs.Added.{added_held}
use Rattle.cat_state.proofs.Upon.{merges_known, next_adds}
use Rattle.cat_state.proofs.catalogue.Catalogue.planned_additions.Goals as goal

pub loop-one-init : goal.loop-one-init
loop-one-init c =
    let none : c.args.self.now ≡ with_additions c.args.self.now c.no_additions-more.result = sym c.no_additions-more.ensures.none in
    let items : (c.args.planned).items ≡ into_iter_items c.into_iter-one-iterator.result = sym c.into_iter-one-iterator.ensures.into_iter_gives.0 in
    record {
      left = ap (λ (s : State). with_planned sha256 c.args.moment s c.args.head.now (map as_planned (into_iter_items c.into_iter-one-iterator.result))) (sym none)
          ∙ ap (λ (l : List Planned). with_planned sha256 c.args.moment c.args.self.now c.args.head.now (map as_planned l)) (sym items);
      new = c.no_additions-more.ensures.new;
      known = subst (λ (s : State). IsTrue (is_known sha256 s c.args.head.now)) none c.requires.known;
      merged = subst (λ (s : State). IsTrue (list_all (λ p. is_merge_known s.commits p.merge_parent) (into_iter_items c.into_iter-one-iterator.result))) none
          (subst (λ (l : List Planned). IsTrue (list_all (λ p. is_merge_known (c.args.self.now).commits p.merge_parent) l)) items c.requires.merged);
      held = subst (λ (s : State). IsHeldAt s c.args.head.now) none c.requires.held;
      made = subst (λ (s : State). AreMadeUpon s.present (entries s.commits c.args.head.now) (into_iter_items c.into_iter-one-iterator.result)) none
          (subst (λ (l : List Planned). AreMadeUpon (c.args.self.now).present (entries (c.args.self.now).commits c.args.head.now) l) items c.requires.made);
      room = subst (λ (s : State). length s.commits + length (into_iter_items c.into_iter-one-iterator.result) ≤ 4294967295) none
          (subst (λ (l : List Planned). length (c.args.self.now).commits + length l ≤ 4294967295) items c.requires.room);
      present = ap (λ (s : State). s.present) c.no_additions-more.ensures.none;
      count = subst (λ (s : State). length s.commits + length (into_iter_items c.into_iter-one-iterator.result) ≤ length (c.args.self.now).commits + length (c.args.planned).items) none
          (omega (arith, ap (λ (l : List Planned). length l) items));
      keys = λ fit are. (
        subst (λ (l : List Planned). IsTrue (all_fit c.args.self.now l)) items fit,
        subst (λ (s : State). IsTrue (maps_pass (fits (c.args.self.now).limits) s.commits)) none are,
      );
    }

pub loop-one-preserved : goal.loop-one-preserved
loop-one-preserved c =
    let before : State = with_additions c.args.self.now c.loop-one.more in
    let after : State = with_additions c.args.self.now c.add_upon.new.more in
    let one : Planned = c.in-Some.one in
    let rest : List Planned = into_iter_items c.next.new.self in
    let items : into_iter_items c.loop-one.one-iterator ≡ one ∷ rest = c.in-Some.ensures.steps.0 in
    let merged : list_all (λ p. is_merge_known before.commits p.merge_parent) (one ∷ rest) ≡ true = subst (λ (l : List Planned). list_all (λ p. is_merge_known before.commits p.merge_parent) l ≡ true) items c.loop-one.invariant.merged in
    let made : AreMadeUpon before.present (entries before.commits c.loop-one.at) (one ∷ rest) = subst (λ (l : List Planned). AreMadeUpon before.present (entries before.commits c.loop-one.at) l) items c.loop-one.invariant.made in
    let room : length before.commits + length (one ∷ rest) ≤ 4294967295 = subst (λ (l : List Planned). length before.commits + length l ≤ 4294967295) items c.loop-one.invariant.room in
    let added : HasCommit c.args.self.now c.loop-one.more c.add_upon.new.more c.in_ok-at.at (one.plan).map = c.in_ok-at.ensures.added in
    let count : length after.commits ≤ length before.commits + 1 = added.count in
    let left : length before.commits + length (one ∷ rest) ≤ length (c.args.self.now).commits + length (c.args.planned).items =
    subst (λ (l : List Planned). length before.commits + length l ≤ length (c.args.self.now).commits + length (c.args.planned).items) items c.loop-one.invariant.count in
    record {
      left = sym (next_adds c.args.moment before after c.loop-one.at c.in_ok-at.at (as_planned one) (map as_planned rest) c.in_ok-at.ensures.step c.in_ok-at.ensures.hash)
          ∙ ap (λ (l : List Planned). with_planned sha256 c.args.moment before c.loop-one.at (map as_planned l)) (sym items) ∙ c.loop-one.invariant.left;
      new = added.additions;
      known = added.known;
      merged = merges_known before.commits after.commits rest added.grows (and_true (is_merge_known before.commits one.merge_parent) (list_all (λ p. is_merge_known before.commits p.merge_parent) rest) merged).1;
      held = added_held c.args.self.now c.loop-one.more c.add_upon.new.more c.in_ok-at.at (one.plan).map added (made.0).held;
      made = subst (λ (m : Map). AreMadeUpon after.present m rest) (sym added.changed)
          (subst (λ (l : Recorded Content). AreMadeUpon (l.list ++ (c.args.self.now).present) (one.plan).map rest) (sym added.contents) made.1);
      room = omega (arith, room, count);
      present = ap (λ (l : Recorded Content). l.list ++ (c.args.self.now).present) added.contents ∙ c.loop-one.invariant.present;
      count = omega (arith, left, count);
      keys = λ fit are.
          let before_all = c.loop-one.invariant.keys fit are in
          let parts = and_true (fits (c.args.self.now).limits (one.plan).map) (all_fit c.args.self.now rest) (subst (λ (l : List Planned). all_fit c.args.self.now l ≡ true) items before_all.0) in
          (parts.1, added.few parts.0 before_all.1);
    }

pub returns-clause-adds : goal.returns-clause-adds
returns-clause-adds c =
    let invariant = c.loop-one.invariant in
    record {
      present = invariant.present;
      count = omega (arith, invariant.count);
      keys = λ fit are. (invariant.keys fit are).1;
    }
