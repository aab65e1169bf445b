use Rattle.std.proofs.Common.{◌≡◌, take, filter_map}
use Rattle.cat_model.specs.Answer.{keyed_content}
use Rattle.cat_answers.proofs.keyed.keyed_contents.Given as goal

abbrev pub invariant-loop-key : goal.invariant-loop-key
invariant-loop-key l = l.found ≡ filter_map (keyed_content l.contents l.map) (take l.key-index l.keys)
