use Rattle.std.proofs.Common.{◌≡◌, length, ap, sym, ◌∙◌}
use Rattle.uuid.proofs.TextLemmas.{by_index_length}
use Rattle.cat_names.proofs.hash.ContentId.write_text.Goals as goal

pub copy_from_slice-requires : goal.copy_from_slice-requires
copy_from_slice-requires c =
    let text : length c.as_bytes.result.now ≡ 36 = ap length (c.as_bytes.ensures.value ∙ c.encode_lower-text.ensures.text) ∙ by_index_length 36 _ in
    c.told-out ∙ sym text
