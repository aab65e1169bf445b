use Rattle.std.proofs.lemmas.Str.{IsUtf8-from_ascii}
use Rattle.cat_commit.specs.Instants.{instant_text}
use Rattle.cat_commit.proofs.Ascii.{text_ascii}
use Rattle.cat_commit.proofs.instant.InstantFormWriteForm.to_json.Goals as goal

pub unreachable-requires : goal.unreachable-requires
unreachable-requires c =
    c.in_default.ensures.cases.0 (rw (c.as_slice.ensures, c.write_instant-text.ensures.text) (IsUtf8-from_ascii (instant_text c.args.value.now) (text_ascii c.args.value.now)))
