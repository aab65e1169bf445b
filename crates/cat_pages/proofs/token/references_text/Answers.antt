use Rattle.cat_pages.proofs.Texts.{references_back}
use Rattle.cat_pages.proofs.token.references_text.Goals as goal

pub returns-clause-reads_again : goal.returns-clause-reads_again
returns-clause-reads_again c = rw (c.in_ok-push_str.ensures.bytes, c.in_ok-text.ensures.ok, c.as_str.ensures) (references_back _ c.known.ensures)
