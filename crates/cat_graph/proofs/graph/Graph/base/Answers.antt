use Rattle.std.proofs.Common.{sym, ap, ◌∙◌}
use Rattle.std.specs.Ordering.{is_lt}
use Rattle.sha2.specs.Sha256.{sha256}
use Rattle.cat_model.specs.State.{no_ancestor}
use Rattle.cat_graph.proofs.Meeting.{sides_first, sides_more, some_near, turned, none_common, common_known, met_common, met_nearest, under_greater}
use Rattle.cat_graph.proofs.Nearest.{base_is}
use Rattle.cat_graph.proofs.graph.Graph.base.Goals as goal

pub loop-left_at-init : goal.loop-left_at-init
loop-left_at-init c =
    rw (c.in_ok-left_front.ensures, c.in_ok-right_front.ensures) (sides_first c.args.self.now c.args.left.now c.args.right.now)

pub unreachable-requires : goal.unreachable-requires
unreachable-requires c =
    let none = none_common c.args.self.now c.args.left.now c.args.right.now c.known.ensures c.requires.left c.requires.right in
    some_near _ _ _ _ (no_ancestor sha256) c.loop-left_at.invariant none (sym c.nearest.ensures.first ∙ c.in_default.is)

pub unreachable-requires-in_default-nearest : goal.unreachable-requires-in_default-nearest
unreachable-requires-in_default-nearest c =
    let none = none_common c.args.self.now c.args.left.now c.args.right.now c.known.ensures c.requires.left c.requires.right in
    some_near _ _ _ _ (no_ancestor sha256) (turned _ _ _ _ c.loop-left_at.invariant) none (sym c.nearest-in-loop-left_at.ensures.first ∙ c.in_default-nearest.is)

pub returns-in-Equal : goal.returns-in-Equal
returns-in-Equal c =
    let commits = c.args.self.now in
    let left = c.args.left.now in
    let right = c.args.right.now in
    let common =
    met_common commits _ _ _ c.in-Some.left_at c.in-Some-nearest.right_at c.loop-left_at.invariant (sym c.in-Some.ensures.first) (sym c.in-Some-nearest.ensures.first) (sym c.in-Equal.ensures) in
    let nearest = met_nearest commits _ _ _ c.in-Some.left_at c.known.ensures c.loop-left_at.invariant (sym c.in-Some.ensures.first) c.in-Some.ensures.nearest in record {
      value = base_is commits left right c.in-Some.left_at.hash.0 common nearest;
      common = common;
      nearest = nearest;
      known = common_known commits left right c.in-Some.left_at.hash.0 c.known.ensures c.requires.left common;
    }

pub loop-left_at-preserved-in-Continue-branch-3 : goal.loop-left_at-preserved-in-Continue-branch-3
loop-left_at-preserved-in-Continue-branch-3 c =
    sides_more c.args.self.now _ _ _ _ c.in-Some.left_at c.in-Some-nearest.right_at c.known.ensures c.loop-left_at.invariant (sym c.in-Some.ensures.first) (sym c.in-Some-nearest.ensures.first)
    c.in-Some-nearest.ensures.nearest (under_greater c.in-Some.left_at c.in-Some-nearest.right_at (sym c.in-Greater.ensures)) c.in_ok-go_on-in-Greater.ensures

pub loop-left_at-preserved : goal.loop-left_at-preserved
loop-left_at-preserved c =
    turned _ _ _ _
    (sides_more c.args.self.now _ _ _ _ c.in-Some-nearest.right_at c.in-Some.left_at c.known.ensures (turned _ _ _ _ c.loop-left_at.invariant) (sym c.in-Some-nearest.ensures.first)
    (sym c.in-Some.ensures.first) c.in-Some.ensures.nearest (ap is_lt (sym c.in-Less.ensures)) c.in_ok-go_on-in-Less.ensures)
