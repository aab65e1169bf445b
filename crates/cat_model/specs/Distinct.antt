-- Operations on distinct keys.
use Rattle.std.specs.Prelude.{List, [], ◌∷◌, Bool, true, ◌&&◌, not}
use Rattle.std.specs.List.{list_any}
use Rattle.cat_model.specs.declared.op.Op.{Op}
use Rattle.cat_model.specs.Judge.{op_key}
use Rattle.cat_model.specs.Same.{same_key}

-- no key comes twice
abbrev pub are_distinct : List Op → Bool
are_distinct [] = true
are_distinct (op ∷ ops) = not (list_any (λ other. same_key (op_key other) (op_key op)) ops) && are_distinct ops
