use Rattle.cat_pages.proofs.Listed.{reference_pages}
use Rattle.cat_pages.proofs.laws.reference_pages_make_the_list.Goals as goal

pub returns : goal.returns
returns c = reference_pages
