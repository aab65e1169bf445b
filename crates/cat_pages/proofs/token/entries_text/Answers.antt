use Rattle.cat_pages.proofs.Texts.{entries_back}
use Rattle.cat_pages.proofs.token.entries_text.Goals as goal

pub returns-clause-reads_again : goal.returns-clause-reads_again
returns-clause-reads_again c =
    rw (c.in_ok-push_str-3.ensures.bytes, c.in_ok-push_str-2.ensures.bytes, c.in_ok-push_str.ensures.bytes, c.in_ok-text.ensures.ok, c.as_str.ensures.value, c.in_ok-encode.ensures, c.as_slice.ensures, c.as_str-3.ensures, c.in_ok-to_path.ensures.path)
    (entries_back _ _ c.known.ensures.length c.known.ensures.bytes c.in_ok-to_path.ensures.read_back)
