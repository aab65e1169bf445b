use Rattle.std.proofs.Common.{ap, Option}
use Rattle.std.specs.Option.{option_map}
use Rattle.uuid.specs.Text.{parsed}
use Rattle.cat_names.specs.Hashes.{id_of_bytes}
use Rattle.cat_names.proofs.Options.{no_reading}
use Rattle.cat_names.proofs.hash.ContentId.parse.Goals as goal

pub returns-in-Err : goal.returns-in-Err
returns-in-Err c = ap (λ (o : Option _). option_map id_of_bytes o) (no_reading (parsed c.args.text.now) c.parse_str.result c.in-Err.field-0 c.parse_str.ensures.ok c.in-Err.is)
