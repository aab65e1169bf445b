use Rattle.std.proofs.Common.{◌+◌, List, refl, sym, subst, arith}
use Rattle.cat_names.specs.declared.hash.Hash.{Hash}
use Rattle.cat_graph.proofs.Walks.{shorter}
use Rattle.cat_mark.specs.Walked.{AreMarked}
use Rattle.cat_mark.proofs.Before.{noted_ok, parent_marked}
use Rattle.cat_mark.proofs.Live.{chain_bound, index_step, is_kept, live_is}
use Rattle.cat_mark.proofs.hashes.Hashes.note_chain.Goals as goal

pub loop-at-init : goal.loop-at-init
loop-at-init c =
    let bound = chain_bound c.args.graph.now c.args.head.now in record {
      found = c.requires.found;
      kept = refl;
      within = omega (arith, bound);
      marked = subst (λ (l : List Hash). AreMarked c.args.self.now l) (live_is c.args.graph.now c.args.cutoff.now c.args.head.now c.known-2.ensures) c.requires.marked;
      walked = c.requires.walked;
    }

pub overflow_add-index : goal.overflow_add-index
overflow_add-index c =
    let next = index_step c.args.graph.now c.loop-at.at.now c.loop-at.commit.now c.loop-at.index _ c.known.ensures c.loop-at.invariant.found c.loop-at.invariant.within in
    omega (arith, next, c.len.ensures)

pub returns-in_default : goal.returns-in_default
returns-in_default c = noted_ok c.args.graph.now c.args.self.now c.loop-at.walked c.note.new.self c.args.cutoff.now c.loop-at.index c.loop-at.at.now c.loop-at.commit.now c.note.result c.known.ensures c.loop-at.invariant.found c.loop-at.invariant.kept c.loop-at.invariant.marked c.loop-at.invariant.walked (sym c.if-is_err.ensures.value) c.note.ensures.ok

pub overflow_add-index-in-loop-at : goal.overflow_add-index-in-loop-at
overflow_add-index-in-loop-at c =
    let next = index_step c.args.graph.now c.loop-at.at.now c.loop-at.commit.now c.loop-at.index _ c.known.ensures c.loop-at.invariant.found c.loop-at.invariant.within in
    omega (arith, next, c.len.ensures)

pub loop-at-smaller : goal.loop-at-smaller
loop-at-smaller c = shorter c.args.graph.now c.loop-at.at.now c.loop-at.commit.now c.known.ensures c.loop-at.invariant.found

pub loop-at-preserved : goal.loop-at-preserved
loop-at-preserved c =
    let next = is_kept c.args.cutoff.now (c.loop-at.index + 1) _ c.in-Some.parent.now (sym c.in-Some.ensures) in record {
      found = next.there;
      kept = next.passes;
      within = index_step c.args.graph.now c.loop-at.at.now c.loop-at.commit.now c.loop-at.index _ c.known.ensures c.loop-at.invariant.found c.loop-at.invariant.within;
      marked = parent_marked c.args.graph.now c.args.self.now c.args.cutoff.now c.loop-at.index c.loop-at.at.now c.loop-at.commit.now c.known.ensures c.loop-at.invariant.found c.loop-at.invariant.kept c.loop-at.invariant.marked;
      walked = noted_ok c.args.graph.now c.args.self.now c.loop-at.walked c.note.new.self c.args.cutoff.now c.loop-at.index c.loop-at.at.now c.loop-at.commit.now c.note.result c.known.ensures c.loop-at.invariant.found c.loop-at.invariant.kept c.loop-at.invariant.marked c.loop-at.invariant.walked (sym c.if-is_err.ensures.value) c.note.ensures.ok;
    }
