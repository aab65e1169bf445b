-- Bodies of commit requests.
use Rattle.std.specs.Prelude.{List, Option, Some, None, codes, map, filter_map, if◌then◌else◌}
use Rattle.serde_json.specs.Data.{Data}
use Rattle.cat_json.specs.Reading.{◌>>=◌, required, list_as}
use Rattle.cat_model.specs.WellMade.{may_be_asked}
use Rattle.cat_model.specs.declared.commit.Meta.{Meta}
use Rattle.cat_model.specs.declared.content.Content.{Content}
use Rattle.cat_model.specs.declared.op.Op.{Op}
use Rattle.cat_commit.specs.Metas.{meta_as}
use Rattle.cat_rest.specs.Operations.{op_as}
use Rattle.cat_rest.specs.declared.commit.CommitBody.{CommitBody}

-- the operations of a list, each with the content that it has
abbrev pub ops_of : List (Op × Option Content) → List Op
ops_of asked = map (λ x. x.0) asked

-- the contents of its PUTs, in their order
abbrev pub contents_of : List (Op × Option Content) → List Content
contents_of asked = filter_map (λ x. x.1) asked

abbrev pub body_of : Meta → List (Op × Option Content) → CommitBody
body_of meta asked = record { meta = meta; ops = ops_of asked; contents = contents_of asked }

-- what a commit request asks for, beside its branch: a meta, and 1 to 10,000 operations on distinct
-- keys, no two of whose given ids are alike
unfoldable pub commit_as : Data → Option CommitBody
commit_as d =
    required meta_as (codes "commitMeta") d >>= λ meta.
    required (list_as op_as) (codes "operations") d >>= λ asked.
    if may_be_asked (ops_of asked) then Some (body_of meta asked) else None
