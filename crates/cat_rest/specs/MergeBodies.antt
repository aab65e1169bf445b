-- Bodies of merge requests.
use Rattle.std.specs.Prelude.{ℕ, List, ◌++◌, Option, Some, Bool, false, unwrap_or, codes}
use Rattle.std.specs.Option.{option_or}
use Rattle.serde_json.specs.Data.{Data}
use Rattle.serde_json.specs.Find.{as_str, as_bool}
use Rattle.cat_json.specs.Names.{hash_as}
use Rattle.cat_json.specs.Reading.{◌>>=◌, required, optional, defaulted}
use Rattle.cat_model.specs.declared.command.Merge.{Merge}
use Rattle.cat_commit.specs.Metas.{given_meta_as, nothing_given, with_message}
use Rattle.cat_commit.specs.declared.meta.GivenMeta.{GivenMeta}
use Rattle.cat_rest.specs.Modes.{modes_as}
use Rattle.cat_rest.specs.Sources.{name_as}
use Rattle.cat_rest.specs.declared.merge.Manner.{Manner}
use Rattle.cat_rest.specs.declared.merge.MergeBody.{MergeBody}
use Rattle.cat_rest.specs.declared.path.PathReference.{PathReference}

-- what is said of the merge's commit: the message of its meta comes before that of the whole body
unfoldable pub given_as : Data → Option GivenMeta
given_as d =
    defaulted given_meta_as nothing_given (codes "commitMeta") d >>= λ given.
    optional as_str (codes "message") d >>= λ message.
    Some (record given { message = option_or given.message message })

-- a test that is false where nothing is said
abbrev pub flag : List ℕ → Data → Option Bool
flag name d = defaulted as_bool false name d

-- how keys are treated, whether the call is only tried, and whether conflicts are a reply
unfoldable pub manner_as : Data → Option Manner
manner_as d =
    modes_as d >>= λ modes.
    flag (codes "dryRun") d >>= λ dry_run.
    flag (codes "returnConflictAsResult") d >>= λ conflicts_as_result.
    Some (record { modes = modes; dry_run = dry_run; conflicts_as_result = conflicts_as_result })

-- what a merge request asks for, beside its branch
unfoldable pub merge_as : Data → Option MergeBody
merge_as d =
    required name_as (codes "fromRefName") d >>= λ from.
    required hash_as (codes "fromHash") d >>= λ from_hash.
    given_as d >>= λ given.
    manner_as d >>= λ manner.
    Some (record { from = from; from_hash = from_hash; given = given; manner = manner })

-- the message of a merge that was given none
abbrev pub made_message : List ℕ → List ℕ → List ℕ
made_message from branch = codes "Merge " ++ from ++ codes " into " ++ branch

-- the merge that a body asks for at a branch
abbrev pub merge : PathReference → MergeBody → Merge
merge at body = record {
  branch = at.name;
  hash = at.hash;
  from = body.from;
  from_hash = body.from_hash;
  meta = with_message (unwrap_or body.given.message (made_message body.from at.name)) body.given;
  modes = body.manner.modes;
  dry_run = body.manner.dry_run;
  conflicts_as_result = body.manner.conflicts_as_result;
}
