use Rattle.std.proofs.lemmas.Str.Parse.{parse_digits, numerals_by_value, tells_all_ascii_digits}
use Rattle.cat_policy.proofs.given.digits.Goals as goal

pub returns : goal.returns
returns c = parse_digits (numerals_by_value _ tells_all_ascii_digits) 32 c.args.text.now _ c.parse.ensures.value.0 c.requires
