-- Bodies of transplant requests.
use Rattle.std.specs.Prelude.{List, Option, Some, None, Bool, ◌&&◌, length, nat_lt, nat_le, codes, if◌then◌else◌}
use Rattle.serde_json.specs.Data.{Data}
use Rattle.cat_json.specs.Names.{hash_as}
use Rattle.cat_json.specs.Reading.{◌>>=◌, required, list_as}
use Rattle.cat_names.specs.declared.hash.Hash.{Hash}
use Rattle.cat_model.specs.WellMade.{most_hashes}
use Rattle.cat_model.specs.declared.command.Transplant.{Transplant}
use Rattle.cat_rest.specs.MergeBodies.{manner_as}
use Rattle.cat_rest.specs.Sources.{name_as}
use Rattle.cat_rest.specs.declared.path.PathReference.{PathReference}
use Rattle.cat_rest.specs.declared.transplant.TransplantBody.{TransplantBody}

-- at least one commit, and at most so many
abbrev pub may_be_moved : List Hash → Bool
may_be_moved hashes = nat_lt 0 (length hashes) && nat_le (length hashes) most_hashes

-- the commits of a transplant, in the order of the body
abbrev pub hashes_as : Data → Option (List Hash)
hashes_as d = list_as hash_as d >>= λ hashes. if may_be_moved hashes then Some hashes else None

-- what a transplant request asks for, beside its branch: a message or a meta has no effect
unfoldable pub transplant_as : Data → Option TransplantBody
transplant_as d =
    required name_as (codes "fromRefName") d >>= λ from.
    required hashes_as (codes "hashesToTransplant") d >>= λ hashes.
    manner_as d >>= λ manner.
    Some (record { from = from; hashes = hashes; manner = manner })

-- the transplant that a body asks for at a branch
abbrev pub transplant : PathReference → TransplantBody → Transplant
transplant at body = record {
  branch = at.name;
  hash = at.hash;
  from = body.from;
  hashes = body.hashes;
  modes = body.manner.modes;
  dry_run = body.manner.dry_run;
  conflicts_as_result = body.manner.conflicts_as_result;
}
