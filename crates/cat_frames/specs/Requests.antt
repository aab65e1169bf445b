-- The format of commit requests as they are logged: each operation with the content that it puts.
use Rattle.std.specs.Prelude.{ℕ, zero, suc, ◌+◌, List, [], ◌∷◌, length, Option, Some, None, Ok, Bool, true, false, ◌&&◌, nat_eq, map, filter_map}
use Rattle.cat_codes.specs.declared.fault.FieldFault.TheVariants.{Range}
use Rattle.cat_codes.specs.Read.{Read, ◌>>=◌}
use Rattle.cat_codes.specs.Code.{Code, ◌⊗◌, by_tag, flag_code, nothing, only, option, placed, u32_code, variant, within}
use Rattle.cat_names.specs.Fields.{Key, hash_code, key_code}
use Rattle.cat_names.specs.RefNames.{ref_name_code}
use Rattle.cat_names.specs.declared.hash.ContentId.{ContentId}
use Rattle.cat_names.specs.declared.hash.Hash.{Hash}
use Rattle.cat_model.specs.declared.command.CommitRequest.{CommitRequest}
use Rattle.cat_model.specs.declared.commit.Meta.{Meta}
use Rattle.cat_model.specs.declared.content.Content.{Content}
use Rattle.cat_model.specs.declared.op.Op.{Op}
use Rattle.cat_model.specs.declared.op.Op.TheVariants.{Put, Delete, Unchanged}
use Rattle.cat_model.specs.Commits.{puts, with_their_contents}
use Rattle.cat_model.specs.Contents.{content_code}
use Rattle.cat_model.specs.Formats.{meta_code}
use Rattle.cat_model.specs.Same.{same_entry, same_id}
use Rattle.cat_model.specs.State.{Digest, entry_for, fresh_id}
use Rattle.cat_frames.specs.Telling.{told_by, always}

-- an operation, and the content that it puts
abbrev pub Both : Type 0
Both = Op × Option Content

-- what an operation asks of its key; of a PUT, whether the server gave the id, and the content
pub data Change : Type 0 where
  put : Bool → Content → Change
  delete : Change
  unchanged : Change

-- ---- what is asked of a key

-- the number of what is asked
abbrev pub change_tag : Change → ℕ
change_tag delete = 0
change_tag (put fresh c) = 1
change_tag unchanged = 2

-- a PUT's
abbrev pub put_of : Change → Option (Bool × Content)
put_of (put fresh c) = Some (fresh, c)
put_of delete = None
put_of unchanged = None

-- a fresh content has the id that the server gives
abbrev pub has_its_id : ContentId → Bool × Content → Bool
has_its_id id (true, c) = same_id c.id id
has_its_id id (false, c) = true

-- whether the server gave the id, which is then this one, and the content within its length
unfoldable pub put_code : ContentId → Code Change
put_code id = variant (λ x. put x.0 x.1) put_of (only Range (has_its_id id) (flag_code ⊗ within u32_code content_code))

-- what is asked by a number
abbrev pub change_of : ContentId → ℕ → Code Change
change_of id zero = always delete
change_of id (suc zero) = put_code id
change_of id (suc (suc zero)) = always unchanged
change_of id (suc (suc (suc n))) = nothing

-- what is asked of a key, by its number
unfoldable pub change_code : ContentId → Code Change
change_code id = by_tag change_tag (change_of id)

-- ---- operations

-- the key of an operation, and what it asks of it; a PUT without a content has no spelling
abbrev pub asked : Both → Key × Change
asked (Put key entry fresh, Some c) = (key, put fresh c)
asked (Put key entry fresh, None) = (key, delete)
asked (Delete key, content) = (key, delete)
asked (Unchanged key, content) = (key, unchanged)

-- the operation that asks this of a key: a PUT's entry is that of its content
abbrev pub asking : Digest → Key × Change → Both
asking digest (key, put fresh c) = (Put key (entry_for digest c) fresh, Some c)
asking digest (key, delete) = (Delete key, None)
asking digest (key, unchanged) = (Unchanged key, None)

-- a PUT of a key
abbrev pub put_at : Digest → Key → ContentId → List ℕ → Read Both
put_at digest key id bytes = (put_code id).at bytes >>= λ x. Ok (asking digest (key, x.0), x.1)

-- a key, and what is asked of it
abbrev pub ask_code : ContentId → Code (Key × Change)
ask_code id = key_code ⊗ change_code id

-- an operation with its content, where this is the id that the server gives
unfoldable pub op_code : Digest → ContentId → Code Both
op_code digest id = told_by asked (asking digest) (ask_code id)

-- the operations of a request, each with the id of its index
abbrev pub ops_code : Digest → ℕ → Code (List Both)
ops_code digest draft = placed (λ index. op_code digest (fresh_id draft index))

-- ---- requests

abbrev pub ops_of : List Both → List Op
ops_of both = map (λ x. x.0) both

abbrev pub contents_of : List Both → List Content
contents_of both = filter_map (λ x. x.1) both

abbrev pub request_fields : CommitRequest → List ℕ × (Option Hash × (Meta × List Both))
request_fields c = (c.branch, (c.expected, (c.meta, with_their_contents c.ops c.contents)))

abbrev pub request_of : List ℕ × (Option Hash × (Meta × List Both)) → CommitRequest
request_of x = record { branch = x.0; expected = x.1.0; meta = x.1.1.0; ops = ops_of x.1.1.1; contents = contents_of x.1.1.1 }

-- a request that a draft of this number logs
unfoldable pub request_code : Digest → ℕ → Code CommitRequest
request_code digest draft = told_by request_fields request_of (ref_name_code ⊗ option hash_code ⊗ meta_code ⊗ ops_code digest draft)

-- ---- the requests that have a spelling

-- a PUT has its content, whose entry it has, and a fresh one's content has this id
abbrev pub is_logged : Digest → ContentId → Both → Bool
is_logged digest id (Put key entry fresh, None) = false
is_logged digest id (Put key entry fresh, Some c) = same_entry entry (entry_for digest c) && has_its_id id (fresh, c)
is_logged digest id (Delete key, content) = true
is_logged digest id (Unchanged key, content) = true

-- all of them, by their indexes in the request
abbrev pub are_logged : Digest → ℕ → ℕ → List Both → Bool
are_logged digest draft index [] = true
are_logged digest draft index (x ∷ both) = is_logged digest (fresh_id draft index) x && are_logged digest draft (index + 1) both

-- a request whose PUTs have their contents, with their ids and entries, and which has no other contents
unfoldable pub request_is_logged : Digest → ℕ → CommitRequest → Bool
request_is_logged digest draft c = nat_eq (length c.contents) (puts c.ops) && are_logged digest draft 0 (with_their_contents c.ops c.contents)
