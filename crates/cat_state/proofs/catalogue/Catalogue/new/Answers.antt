use Rattle.cat_state.proofs.Made.{catalogue_empty}
use Rattle.cat_state.proofs.catalogue.Catalogue.new.Goals as goal

pub invariant_of-result : goal.invariant_of-result
invariant_of-result c = rw (c.in_ok-with.ensures, c.new.ensures, c.new-2.ensures, c.new-3.ensures, c.new-4.ensures) (catalogue_empty c.args.limits _ c.requires.log c.requires.commits c.none.ensures)
