use Rattle.std.proofs.Common.{◌∙◌, arith}
use Rattle.cat_state.specs.Changing.{with_additions}
use Rattle.cat_state.proofs.Added.{contents_next}
use Rattle.cat_state.proofs.catalogue.Catalogue.add_contents.Goals as goal

pub loop-index-preserved : goal.loop-index-preserved
loop-index-preserved c = record {
  left = contents_next (with_additions c.args.self.now c.loop-index.more) (with_additions c.args.self.now c.add_content.new.more) (with_additions c.args.self.now c.args.more.now) c.args.contents.now c.loop-index.index c.index-contents-index.result (omega arith) c.index-contents-index.is c.in_ok-add_content.ensures.step c.loop-index.invariant.left;
  new = c.in_ok-add_content.ensures.new;
  commits = c.in_ok-add_content.ensures.commits ∙ c.loop-index.invariant.commits;
}
