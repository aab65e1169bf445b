use Rattle.std.proofs.Common.{◌+◌, List, refl, sym, subst, arith}
use Rattle.std.proofs.lemmas.Result.{on_ok_weaker, on_err_weaker}
use Rattle.cat_names.specs.declared.hash.Hash.{Hash}
use Rattle.cat_model.specs.Chain.{entries}
use Rattle.cat_model.specs.Cutoffs.{live_from}
use Rattle.cat_model.specs.Maps.{Map}
use Rattle.cat_graph.proofs.Walks.{nothing_there, shorter}
use Rattle.cat_mark.specs.Marks.{AddsAll, AddsSome, at_keys, hashes}
use Rattle.cat_mark.proofs.Before.{covered, none_left, walked_on}
use Rattle.cat_mark.proofs.Live.{chain_bound, index_step, is_kept, live_is, live_last, live_step}
use Rattle.cat_mark.proofs.Marking.{IsUnder, begun, done_with, goes_on, on_err, stops, stops_with}
use Rattle.cat_mark.proofs.hashes.Hashes.mark_chain.Goals as goal

pub loop-at-init : goal.loop-at-init
loop-at-init c =
    let live = live_from c.args.graph.now c.args.cutoff.now c.args.head.now in
    let bound = chain_bound c.args.graph.now c.args.head.now in
    let all = live_is c.args.graph.now c.args.cutoff.now c.args.head.now c.known-2.ensures in record {
      found = c.requires.found;
      kept = refl;
      within = omega (arith, bound);
      marked = subst (λ (l : List Hash). IsUnder c.args.self.now c.args.self.now l live) all (begun c.args.self.now live);
    }

pub overflow_add-index : goal.overflow_add-index
overflow_add-index c =
    let next = index_step c.args.graph.now c.loop-at.at.now c.loop-at.commit.now c.loop-at.index _ c.known.ensures c.loop-at.invariant.found c.loop-at.invariant.within in
    omega (arith, next, c.len.ensures)

-- what the last kept commit shows is all that is left
last : (c : goal.After-mark_last) → IsUnder c.args.self.now c.loop-at.self (hashes (entries c.args.graph.now c.loop-at.at.now)) (live_from c.args.graph.now c.args.cutoff.now c.args.head.now)
last c =
    let none = nothing_there c.kept_parent.result _ c.kept_parent.ensures c.in_default.is in
    let shown = live_last c.args.graph.now c.args.cutoff.now c.loop-at.index c.loop-at.at.now c.loop-at.commit.now c.known.ensures c.loop-at.invariant.found c.loop-at.invariant.kept none in
    subst (λ (l : List Hash). IsUnder c.args.self.now c.loop-at.self l (live_from c.args.graph.now c.args.cutoff.now c.args.head.now)) shown c.loop-at.invariant.marked

pub returns-in_default-clause-ok : goal.returns-in_default-clause-ok
returns-in_default-clause-ok c = on_ok_weaker c.mark_last.result (λ added. done_with _ _ _ _ _ (last c) added) c.mark_last.ensures.ok

pub returns-in_default-clause-err : goal.returns-in_default-clause-err
returns-in_default-clause-err c = on_err_weaker c.mark_last.result (λ added. stops_with _ _ _ _ _ (last c) added) c.mark_last.ensures.err

pub returns-in_err-mark_changed_at-clause-err : goal.returns-in_err-mark_changed_at-clause-err
returns-in_err-mark_changed_at-clause-err c =
    let commit = c.loop-at.commit.now in
    let next = is_kept c.args.cutoff.now (c.loop-at.index + 1) _ c.in-Some.parent.now (sym c.in-Some.ensures) in
    let added = subst (λ (m : Map). AddsSome c.loop-at.self c.mark_changed_at.new.self (at_keys m commit.ops)) (c.requires.maps c.loop-at.at.now commit c.loop-at.invariant.found) c.in_err-mark_changed_at.ensures.err in
    let parted = live_step c.args.graph.now c.args.cutoff.now c.loop-at.index c.loop-at.at.now commit c.in-Some.parent.now c.known.ensures c.known-in-loop-at.ensures.ascends c.loop-at.invariant.found c.loop-at.invariant.kept next in
    on_err c.from_residual.result (stops _ _ _ _ _ _ _ c.loop-at.invariant.marked added parted)

pub overflow_add-index-in-loop-at : goal.overflow_add-index-in-loop-at
overflow_add-index-in-loop-at c =
    let next = index_step c.args.graph.now c.loop-at.at.now c.loop-at.commit.now c.loop-at.index _ c.known.ensures c.loop-at.invariant.found c.loop-at.invariant.within in
    omega (arith, next, c.len.ensures)

pub loop-at-smaller : goal.loop-at-smaller
loop-at-smaller c = shorter c.args.graph.now c.loop-at.at.now c.loop-at.commit.now c.known.ensures c.loop-at.invariant.found

pub loop-at-preserved : goal.loop-at-preserved
loop-at-preserved c =
    let commits = c.args.graph.now in
    let at = c.loop-at.at.now in
    let commit = c.loop-at.commit.now in
    let parent = c.in-Some.parent.now in
    let next = is_kept c.args.cutoff.now (c.loop-at.index + 1) _ parent (sym c.in-Some.ensures) in
    let is = c.requires.maps at commit c.loop-at.invariant.found in
    let added = subst (λ (m : Map). AddsAll c.loop-at.self c.mark_changed_at.new.self (at_keys m commit.ops)) is c.in_ok-mark_changed_at.ensures.ok in
    let parted = live_step commits c.args.cutoff.now c.loop-at.index at commit parent c.known.ensures c.known-in-loop-at.ensures.ascends c.loop-at.invariant.found c.loop-at.invariant.kept next in record {
      found = next.there;
      kept = next.passes;
      within = index_step commits at commit c.loop-at.index _ c.known.ensures c.loop-at.invariant.found c.loop-at.invariant.within;
      marked = goes_on _ _ _ _ _ _ _ c.loop-at.invariant.marked added parted;
    }

pub returns-clause-ok : goal.returns-clause-ok
returns-clause-ok c =
    let walked = walked_on c.args.graph.now c.args.self.now c.loop-at.self c.args.walked.now c.loop-at.invariant.marked.kept c.requires.walked in
    let covers = c.covers.ensures c.loop-at-test.false in
    none_left _ _ _ _ c.loop-at.invariant.marked (covered c.args.graph.now c.loop-at.self c.args.walked.now c.args.cutoff.now c.loop-at.index c.loop-at.at.now walked covers)
