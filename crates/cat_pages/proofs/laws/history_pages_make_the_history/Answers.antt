use Rattle.cat_pages.proofs.Listed.{history_pages}
use Rattle.cat_pages.proofs.laws.history_pages_make_the_history.Goals as goal

pub returns : goal.returns
returns c = history_pages
