use Rattle.cat_pages.proofs.Texts.{history_back}
use Rattle.cat_pages.proofs.token.history_text.Goals as goal

pub returns-clause-reads_again : goal.returns-clause-reads_again
returns-clause-reads_again c =
    rw (c.in_ok-push_str.ensures.bytes, c.in_ok-text.ensures.ok, c.as_str.ensures.value, c.in_ok-encode.ensures, c.as_slice.ensures)
    (history_back _ c.known.ensures.length c.known.ensures.bytes)
