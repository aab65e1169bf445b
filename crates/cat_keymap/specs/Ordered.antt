-- Operations in the order of their keys, and lists that don't fall.
use Rattle.std.specs.Prelude.{List, [], ◌∷◌, Option, Some, None, Bool, true, ◌&&◌, not, map}
use Rattle.std.specs.Ordering.{is_lt}
use Rattle.std.specs.declared.cmp.Ordering.{Ordering}
use Rattle.std.proofs.Common.{Bor}
use Rattle.cat_codes.specs.Code.{keys_ascend}
use Rattle.cat_names.specs.Fields.{Key, key_cmp}
use Rattle.cat_model.specs.declared.op.Op.{Op}
use Rattle.cat_model.specs.Judge.{op_key}

-- the operations that references point at
abbrev pub values : List (Bor Op) → List Op
values ops = map (λ op. op.now) ops

-- keys that ascend, the first above this one
abbrev pub rise : Option Key → List Key → Bool
rise = keys_ascend key_cmp

-- operations whose keys ascend, each once
abbrev pub are_ordered : List Op → Bool
are_ordered ops = rise None (map op_key ops)

abbrev pub no_fall : {K : Type 0} → (K → K → Ordering) → Option K → K → Bool
no_fall cmp None k = true
no_fall cmp (Some last) k = not (is_lt (cmp k last))

-- no element is below the one before it
abbrev pub climbs : {K : Type 0} → (K → K → Ordering) → Option K → List K → Bool
climbs cmp last [] = true
climbs cmp last (x ∷ xs) = no_fall cmp last x && climbs cmp (Some x) xs
