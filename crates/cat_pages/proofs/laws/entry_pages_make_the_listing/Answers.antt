use Rattle.cat_pages.proofs.Listed.{entry_pages}
use Rattle.cat_pages.proofs.laws.entry_pages_make_the_listing.Goals as goal

pub returns : goal.returns
returns c = entry_pages
