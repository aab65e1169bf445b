use Rattle.std.proofs.Common.{◌≡◌, ◌++◌, string_bytes}
use Rattle.std.specs.Str.Iter.{chars_rest}
use Rattle.cat_names.specs.Paths.{escaped_element}
use Rattle.cat_names.proofs.path.push_escaped.Given as goal

abbrev pub invariant-loop-character : goal.invariant-loop-character
invariant-loop-character l = string_bytes l.path ++ escaped_element (chars_rest l.character-iterator) ≡ string_bytes l.fn.path ++ escaped_element l.text
