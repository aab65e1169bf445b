-- Operations of commit requests.
use Rattle.std.specs.Prelude.{ℕ, List, Option, Some, None, true, false, replicate, codes, bytes_eq, if◌then◌else◌}
use Rattle.serde_json.specs.Data.{Data}
use Rattle.serde_json.specs.Find.{as_str}
use Rattle.sha2.specs.Sha256.{sha256}
use Rattle.cat_json.specs.Names.{key_as}
use Rattle.cat_json.specs.Reading.{◌>>=◌, required}
use Rattle.cat_names.specs.Fields.{Key}
use Rattle.cat_names.specs.declared.hash.ContentId.{ContentId}
use Rattle.cat_model.specs.Contents.{body_kind}
use Rattle.cat_model.specs.State.{entry_for}
use Rattle.cat_model.specs.WellMade.{may_stand_at}
use Rattle.cat_model.specs.declared.content.Body.{Body}
use Rattle.cat_model.specs.declared.content.Content.{Content}
use Rattle.cat_model.specs.declared.entry.Entry.{Entry}
use Rattle.cat_model.specs.declared.op.Op.{Op}
use Rattle.cat_model.specs.declared.op.Op.TheVariants as ops
use Rattle.cat_content.specs.Forms.{content_as}

-- what stands for an id until the server gives one
abbrev pub no_id : ContentId
no_id = record { bytes = replicate 16 0 }

-- the entry of a content before it has its id
abbrev pub new_entry : Body → Entry
new_entry body = record { kind = body_kind body; id = no_id; hash = record { bytes = replicate 32 0 } }

abbrev pub new_content : Body → Content
new_content body = record { id = no_id; body = body }

-- a PUT of a content that the request gives the id of
abbrev pub given_put : Key → Content → Op × Option Content
given_put key c = (ops.Put key (entry_for sha256 c) false, Some c)

-- a PUT with its content: without an id it is new
abbrev pub put_of : Key → Option ContentId → Body → Op × Option Content
put_of key None body = (ops.Put key (new_entry body) true, Some (new_content body))
put_of key (Some id) body = given_put key (record { id = id; body = body })

unfoldable pub put_as : Data → Option (Op × Option Content)
put_as d =
    required key_as (codes "key") d >>= λ key.
    required content_as (codes "content") d >>= λ given.
    if may_stand_at key given.body then Some (put_of key given.id given.body) else None

abbrev pub delete_as : Data → Option (Op × Option Content)
delete_as d = required key_as (codes "key") d >>= λ key. Some (ops.Delete key, None)

abbrev pub unchanged_as : Data → Option (Op × Option Content)
unchanged_as d = required key_as (codes "key") d >>= λ key. Some (ops.Unchanged key, None)

abbrev pub typed_as : List ℕ → Data → Option (Op × Option Content)
typed_as name d =
    if bytes_eq name (codes "PUT") then put_as d
    else if bytes_eq name (codes "DELETE") then delete_as d
    else if bytes_eq name (codes "UNCHANGED") then unchanged_as d
    else None

-- an operation of a request, and the content of a PUT
unfoldable pub op_as : Data → Option (Op × Option Content)
op_as d = required as_str (codes "type") d >>= λ name. typed_as name d
