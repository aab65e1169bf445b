use Rattle.std.proofs.Common.{string_bytes}
use Rattle.std.specs.Str.Iter.{chars_rest}
use Rattle.cat_names.proofs.Paths.{escape_goes_on}
use Rattle.cat_names.proofs.path.push_escaped.Goals as goal

pub loop-character-preserved : goal.loop-character-preserved
loop-character-preserved c =
    rw (c.in_ok-push.ensures.bytes, c.escape.ensures)
    (escape_goes_on (string_bytes c.loop-character.path) (chars_rest c.loop-character.character-iterator) (chars_rest c.next.new.self) _ c.in-Some.character c.in-Some.ensures.steps.0 c.loop-character.invariant)
