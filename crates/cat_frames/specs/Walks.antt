-- The operations of a request, walked one after the other.
use Rattle.std.specs.Prelude.{ℕ, List, [], ◌∷◌, ◌++◌, Some, None, Ok, Bool, true, false}
use Rattle.cat_codes.specs.Read.{Read, ◌>>=◌}
use Rattle.cat_codes.specs.Code.{placed_at}
use Rattle.cat_model.specs.declared.op.Op.TheVariants.{Put, Delete, Unchanged}
use Rattle.cat_model.specs.State.{Digest, fresh_id}
use Rattle.cat_model.specs.Walks.{listed}
use Rattle.cat_frames.specs.declared.asked.Asked.{Asked}
use Rattle.cat_frames.specs.Requests.{Both, contents_of, op_code, ops_of}

-- ---- as they are read

abbrev pub all_asked : List Both → Asked
all_asked both = record { ops = ops_of both; contents = contents_of both }

-- one more at the end
abbrev pub and_one : Asked → Both → Asked
and_one a x = record { ops = a.ops ++ x.0 ∷ []; contents = a.contents ++ listed x.1 }

-- so many operations
abbrev pub asked_at : Digest → ℕ → ℕ → List ℕ → Read Asked
asked_at digest draft count bytes = placed_at (λ index. op_code digest (fresh_id draft index)) 0 count bytes >>= λ x. Ok (all_asked x.0, x.1)

-- ---- as they are written

-- a PUT has its content
abbrev pub is_whole : Both → Bool
is_whole (Put key entry fresh, None) = false
is_whole (Put key entry fresh, Some c) = true
is_whole (Delete key, content) = true
is_whole (Unchanged key, content) = true
