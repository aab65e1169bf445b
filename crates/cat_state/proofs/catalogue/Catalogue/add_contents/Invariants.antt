use Rattle.std.proofs.Common.{◌≡◌, drop}
use Rattle.sha2.specs.Sha256.{sha256}
use Rattle.cat_model.specs.Records.{with_contents}
use Rattle.cat_state.specs.Changing.{AreNewTo, with_additions}
use Rattle.cat_state.proofs.catalogue.Catalogue.add_contents.Given as goal

abbrev pub invariant-loop-index : goal.invariant-loop-index
invariant-loop-index l = record {
  left : with_contents sha256 (with_additions l.self l.more) (drop l.index l.contents) ≡ with_contents sha256 (with_additions l.self l.fn.more) l.contents;
  new : AreNewTo l.self l.more;
  commits : l.more.commits ≡ l.fn.more.commits;
}
