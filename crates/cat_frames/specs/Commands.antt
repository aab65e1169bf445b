-- The byte formats of the calls that change the catalogue, by the numbers of their kinds.
use Rattle.std.specs.Prelude.{ℕ, zero, suc, Bool, true, false, not, ◌&&◌, Option, Some, None, is_none}
use Rattle.cat_codes.specs.Code.{Code, ◌⊗◌, as_type, variant, nothing, list, option}
use Rattle.cat_names.specs.Fields.{hash_code}
use Rattle.cat_names.specs.RefNames.{ref_name_code}
use Rattle.cat_model.specs.declared.command.Create.{Create}
use Rattle.cat_model.specs.declared.command.Assign.{Assign}
use Rattle.cat_model.specs.declared.command.Delete.{Delete}
use Rattle.cat_model.specs.declared.command.CommitRequest.{CommitRequest}
use Rattle.cat_model.specs.declared.command.Merge.{Merge}
use Rattle.cat_model.specs.declared.command.Transplant.{Transplant}
use Rattle.cat_model.specs.declared.command.Command.{Command}
use Rattle.cat_model.specs.declared.command.Command.TheVariants as commands
use Rattle.cat_model.specs.Formats.{meta_code}
use Rattle.cat_model.specs.State.{Digest}
use Rattle.cat_frames.specs.Telling.{told_by}
use Rattle.cat_model.specs.WellMade.{points}
use Rattle.cat_frames.specs.Sources.{pointer_code, reference_code, modes_code}
use Rattle.cat_frames.specs.Requests.{request_code, request_is_logged}

-- the making of a reference; what was said of the source's kind isn't told
unfoldable pub create_code : Code Create
create_code = told_by
    (λ c. (c.name, (c.kind, c.source)))
    (λ x. record { name = x.0; kind = x.1.0; source = x.1.1; source_kind = None })
    (ref_name_code ⊗ reference_code ⊗ pointer_code)

-- the move of a reference; what was said of the source's kind isn't told
unfoldable pub assign_code : Code Assign
assign_code = told_by
    (λ c. (c.name, (c.kind, (c.expected, c.source))))
    (λ x. record { name = x.0; kind = x.1.0; expected = x.1.1.0; source = x.1.1.1; source_kind = None })
    (ref_name_code ⊗ option reference_code ⊗ option hash_code ⊗ pointer_code)

-- the removal of a reference
unfoldable pub delete_code : Code Delete
delete_code = as_type
    (λ c. (c.name, (c.kind, c.expected)))
    (λ x. record { name = x.0; kind = x.1.0; expected = x.1.1 })
    (ref_name_code ⊗ option reference_code ⊗ option hash_code)

-- a merge; its flags aren't told
unfoldable pub merge_code : Code Merge
merge_code = told_by
    (λ c. (c.branch, (c.hash, (c.from, (c.from_hash, (c.meta, c.modes))))))
    (λ x. record { branch = x.0; hash = x.1.0; from = x.1.1.0; from_hash = x.1.1.1.0; meta = x.1.1.1.1.0; modes = x.1.1.1.1.1; dry_run = false; conflicts_as_result = false })
    (ref_name_code ⊗ option hash_code ⊗ ref_name_code ⊗ hash_code ⊗ meta_code ⊗ modes_code)

-- a transplant; its flags aren't told
unfoldable pub transplant_code : Code Transplant
transplant_code = told_by
    (λ c. (c.branch, (c.hash, (c.from, (c.hashes, c.modes)))))
    (λ x. record { branch = x.0; hash = x.1.0; from = x.1.1.0; hashes = x.1.1.1.0; modes = x.1.1.1.1; dry_run = false; conflicts_as_result = false })
    (ref_name_code ⊗ option hash_code ⊗ ref_name_code ⊗ list hash_code ⊗ modes_code)

-- ---- calls by their kinds

-- the number of a call's kind
abbrev pub command_number : Command → ℕ
command_number (commands.Create c) = 1
command_number (commands.Assign c) = 2
command_number (commands.Delete c) = 3
command_number (commands.Commit c) = 4
command_number (commands.Merge c) = 5
command_number (commands.Transplant c) = 6

abbrev pub as_create : Command → Option Create
as_create (commands.Create c) = Some c
as_create (commands.Assign c) = None
as_create (commands.Delete c) = None
as_create (commands.Commit c) = None
as_create (commands.Merge c) = None
as_create (commands.Transplant c) = None

abbrev pub as_assign : Command → Option Assign
as_assign (commands.Create c) = None
as_assign (commands.Assign c) = Some c
as_assign (commands.Delete c) = None
as_assign (commands.Commit c) = None
as_assign (commands.Merge c) = None
as_assign (commands.Transplant c) = None

abbrev pub as_delete : Command → Option Delete
as_delete (commands.Create c) = None
as_delete (commands.Assign c) = None
as_delete (commands.Delete c) = Some c
as_delete (commands.Commit c) = None
as_delete (commands.Merge c) = None
as_delete (commands.Transplant c) = None

abbrev pub as_request : Command → Option CommitRequest
as_request (commands.Create c) = None
as_request (commands.Assign c) = None
as_request (commands.Delete c) = None
as_request (commands.Commit c) = Some c
as_request (commands.Merge c) = None
as_request (commands.Transplant c) = None

abbrev pub as_merge : Command → Option Merge
as_merge (commands.Create c) = None
as_merge (commands.Assign c) = None
as_merge (commands.Delete c) = None
as_merge (commands.Commit c) = None
as_merge (commands.Merge c) = Some c
as_merge (commands.Transplant c) = None

abbrev pub as_transplant : Command → Option Transplant
as_transplant (commands.Create c) = None
as_transplant (commands.Assign c) = None
as_transplant (commands.Delete c) = None
as_transplant (commands.Commit c) = None
as_transplant (commands.Merge c) = None
as_transplant (commands.Transplant c) = Some c

-- a call of the kind of this number, with this draft
abbrev pub command_code : Digest → ℕ → ℕ → Code Command
command_code digest draft zero = nothing
command_code digest draft (suc zero) = variant commands.Create as_create create_code
command_code digest draft (suc (suc zero)) = variant commands.Assign as_assign assign_code
command_code digest draft (suc (suc (suc zero))) = variant commands.Delete as_delete delete_code
command_code digest draft (suc (suc (suc (suc zero)))) = variant commands.Commit as_request (request_code digest draft)
command_code digest draft (suc (suc (suc (suc (suc zero))))) = variant commands.Merge as_merge merge_code
command_code digest draft (suc (suc (suc (suc (suc (suc zero)))))) = variant commands.Transplant as_transplant transplant_code
command_code digest draft (suc (suc (suc (suc (suc (suc (suc n))))))) = nothing

-- ---- the calls that have a spelling

-- what isn't told is none
abbrev pub create_is_logged : Create → Bool
create_is_logged c = points c.source && is_none c.source_kind

abbrev pub assign_is_logged : Assign → Bool
assign_is_logged c = points c.source && is_none c.source_kind

-- the call was made, and its conflicts were a refusal
abbrev pub merge_is_logged : Merge → Bool
merge_is_logged c = not c.dry_run && not c.conflicts_as_result

abbrev pub transplant_is_logged : Transplant → Bool
transplant_is_logged c = not c.dry_run && not c.conflicts_as_result

abbrev pub command_is_logged : Digest → ℕ → Command → Bool
command_is_logged digest draft (commands.Create c) = create_is_logged c
command_is_logged digest draft (commands.Assign c) = assign_is_logged c
command_is_logged digest draft (commands.Delete c) = true
command_is_logged digest draft (commands.Commit c) = request_is_logged digest draft c
command_is_logged digest draft (commands.Merge c) = merge_is_logged c
command_is_logged digest draft (commands.Transplant c) = transplant_is_logged c
