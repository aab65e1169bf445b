-- Changes: the path is read first, then the query, then the body.
use Rattle.std.specs.Prelude.{ℕ, List, Option, Result, Ok, codes}
use Rattle.cat_json.specs.Reading.{body_as}
use Rattle.cat_model.specs.declared.command.Assign.{Assign}
use Rattle.cat_model.specs.declared.command.Command.TheVariants as commands
use Rattle.cat_model.specs.declared.command.CommitRequest.{CommitRequest}
use Rattle.cat_model.specs.declared.command.Create.{Create}
use Rattle.cat_model.specs.declared.command.Delete.{Delete}
use Rattle.cat_model.specs.declared.reference.Kind.{Kind}
use Rattle.cat_model.specs.declared.refusal.Reason.TheVariants.{BadPath, BadQuery, BadBody}
use Rattle.cat_model.specs.declared.refusal.Refusal.{Refusal}
use Rattle.cat_policy.specs.Policies.{policy_as}
use Rattle.cat_rest.specs.Bodies.{commit_as}
use Rattle.cat_rest.specs.Faults.{◌>>!◌, or_bad}
use Rattle.cat_rest.specs.MergeBodies.{merge_as, merge}
use Rattle.cat_rest.specs.Paths.{name_of, reference_at}
use Rattle.cat_rest.specs.Queries.{required, optional, kind_of}
use Rattle.cat_rest.specs.Sources.{source_as}
use Rattle.cat_rest.specs.TransplantBodies.{transplant_as, transplant}
use Rattle.cat_rest.specs.declared.commit.CommitBody.{CommitBody}
use Rattle.cat_rest.specs.declared.path.PathReference.{PathReference}
use Rattle.cat_rest.specs.declared.source.Source.{Source}
use Rattle.cat_rest.specs.declared.wanted.Wanted.{Wanted}
use Rattle.cat_rest.specs.declared.wanted.Wanted.TheVariants.{Change, Collect}

abbrev pub create : List ℕ → Kind → Source → Create
create name kind source = record { name = name; kind = kind; source = source.at; source_kind = source.kind }

abbrev pub assign : PathReference → Option Kind → Source → Assign
assign at kind source = record { name = at.name; kind = kind; expected = at.hash; source = source.at; source_kind = source.kind }

abbrev pub delete : PathReference → Option Kind → Delete
delete at kind = record { name = at.name; kind = kind; expected = at.hash }

abbrev pub commit : PathReference → CommitBody → CommitRequest
commit at body = record { branch = at.name; expected = at.hash; meta = body.meta; ops = body.ops; contents = body.contents }

-- a reference that is made at a source
abbrev pub create_at : List ℕ → List ℕ → Result Wanted Refusal
create_at query body =
    or_bad BadQuery (required name_of (codes "name") query) >>! λ name.
    or_bad BadQuery (required kind_of (codes "type") query) >>! λ kind.
    or_bad BadBody (body_as source_as body) >>! λ source.
    Ok (Change (commands.Create (create name kind source)))

-- a reference that is moved to a source
abbrev pub assign_at : Option (List ℕ) → List ℕ → List ℕ → Result Wanted Refusal
assign_at part query body =
    or_bad BadPath (reference_at part) >>! λ at.
    or_bad BadQuery (optional kind_of (codes "type") query) >>! λ kind.
    or_bad BadBody (body_as source_as body) >>! λ source.
    Ok (Change (commands.Assign (assign at kind source)))

-- a reference that is removed: a body has no effect
abbrev pub delete_at : Option (List ℕ) → List ℕ → Result Wanted Refusal
delete_at part query =
    or_bad BadPath (reference_at part) >>! λ at.
    or_bad BadQuery (optional kind_of (codes "type") query) >>! λ kind.
    Ok (Change (commands.Delete (delete at kind)))

-- operations on a branch
abbrev pub commit_at : Option (List ℕ) → List ℕ → Result Wanted Refusal
commit_at part body =
    or_bad BadPath (reference_at part) >>! λ at.
    or_bad BadBody (body_as commit_as body) >>! λ asked.
    Ok (Change (commands.Commit (commit at asked)))

-- a commit of a reference that is merged into a branch
abbrev pub merge_at : Option (List ℕ) → List ℕ → Result Wanted Refusal
merge_at part body =
    or_bad BadPath (reference_at part) >>! λ at.
    or_bad BadBody (body_as merge_as body) >>! λ asked.
    Ok (Change (commands.Merge (merge at asked)))

-- commits of a reference that are applied to a branch
abbrev pub transplant_at : Option (List ℕ) → List ℕ → Result Wanted Refusal
transplant_at part body =
    or_bad BadPath (reference_at part) >>! λ at.
    or_bad BadBody (body_as transplant_as body) >>! λ asked.
    Ok (Change (commands.Transplant (transplant at asked)))

-- a collection by a policy: its route has no parameters, and a query has no effect
abbrev pub collect_at : List ℕ → Result Wanted Refusal
collect_at body =
    or_bad BadBody (body_as policy_as body) >>! λ policy.
    Ok (Collect policy)
