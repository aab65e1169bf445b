-- Contents as JSON.
use Rattle.std.specs.Prelude.{◌≡◌, ℕ, pos, ◌<◌, List, [], Option, option_map, Some, None, false, codes, bytes_eq, if◌then◌else◌, All}
use Rattle.serde_json.specs.Data.{Data, string, object, no_members}
use Rattle.serde_json.specs.Find.{as_str}
use Rattle.serde_json.specs.Written.{has_float}
use Rattle.cat_json.specs.Reading.{◌>>=◌, required, optional, defaulted, list_as, map_as}
use Rattle.cat_json.specs.Names.{id_as, id_data}
use Rattle.cat_json.specs.Numbers.{integer, small_integer, integer_data, no_float_integer}
use Rattle.cat_json.specs.Writing.{list_data, map_data, ◌+>◌, ◌+?>◌, floatless}
use Rattle.cat_names.specs.declared.hash.ContentId.{ContentId}
use Rattle.cat_model.specs.Formats.{kind_name, kind_named}
use Rattle.cat_model.specs.declared.entry.ContentKind.{ContentKind}
use Rattle.cat_model.specs.declared.entry.ContentKind.TheVariants as kinds
use Rattle.cat_model.specs.declared.content.IcebergTable.{IcebergTable}
use Rattle.cat_model.specs.declared.content.IcebergView.{IcebergView}
use Rattle.cat_model.specs.declared.content.DeltaLakeTable.{DeltaLakeTable}
use Rattle.cat_model.specs.declared.content.Namespace.{Namespace}
use Rattle.cat_model.specs.declared.content.Udf.{Udf}
use Rattle.cat_model.specs.declared.content.Body.{Body}
use Rattle.cat_model.specs.declared.content.Body.TheVariants as bodies
use Rattle.cat_model.specs.declared.content.Content.{Content}
use Rattle.cat_content.specs.declared.read.Given.{Given}

-- the type of a name
abbrev pub kind_as : Data → Option ContentKind
kind_as d = as_str d >>= kind_named

-- a member `id`, `lastCheckpoint`, `properties`, a history or a number may be absent or null
unfoldable pub table_as : Data → Option IcebergTable
table_as d =
    required as_str (codes "metadataLocation") d >>= λ location.
    defaulted integer (pos 0) (codes "snapshotId") d >>= λ snapshot.
    defaulted small_integer (pos 0) (codes "schemaId") d >>= λ schema.
    defaulted small_integer (pos 0) (codes "specId") d >>= λ spec.
    defaulted small_integer (pos 0) (codes "sortOrderId") d >>= λ order.
    Some (record { metadata_location = location; snapshot_id = snapshot; schema_id = schema; spec_id = spec; sort_order_id = order })

unfoldable pub view_as : Data → Option IcebergView
view_as d =
    required as_str (codes "metadataLocation") d >>= λ location.
    defaulted integer (pos 0) (codes "versionId") d >>= λ version.
    defaulted small_integer (pos 0) (codes "schemaId") d >>= λ schema.
    Some (record { metadata_location = location; version_id = version; schema_id = schema })

unfoldable pub delta_as : Data → Option DeltaLakeTable
delta_as d =
    defaulted (list_as as_str) [] (codes "metadataLocationHistory") d >>= λ metadata.
    defaulted (list_as as_str) [] (codes "checkpointLocationHistory") d >>= λ checkpoints.
    optional as_str (codes "lastCheckpoint") d >>= λ last.
    Some (record { metadata_locations = metadata; checkpoint_locations = checkpoints; last_checkpoint = last })

unfoldable pub namespace_as : Data → Option Namespace
namespace_as d =
    required (list_as as_str) (codes "elements") d >>= λ elements.
    defaulted (map_as as_str) [] (codes "properties") d >>= λ properties.
    Some (record { elements = elements; properties = properties })

unfoldable pub udf_as : Data → Option Udf
udf_as d =
    required as_str (codes "metadataLocation") d >>= λ location.
    required as_str (codes "versionId") d >>= λ version.
    required as_str (codes "signatureId") d >>= λ signature.
    Some (record { metadata_location = location; version_id = version; signature_id = signature })

abbrev pub body_as : ContentKind → Data → Option Body
body_as kinds.IcebergTable d = table_as d >>= λ t. Some (bodies.IcebergTable t)
body_as kinds.IcebergView d = view_as d >>= λ v. Some (bodies.IcebergView v)
body_as kinds.DeltaLakeTable d = delta_as d >>= λ t. Some (bodies.DeltaLakeTable t)
body_as kinds.Namespace d = namespace_as d >>= λ n. Some (bodies.Namespace n)
body_as kinds.Udf d = udf_as d >>= λ f. Some (bodies.Udf f)

unfoldable pub content_as : Data → Option Given
content_as d =
    required kind_as (codes "type") d >>= λ kind.
    optional id_as (codes "id") d >>= λ id.
    body_as kind d >>= λ body.
    Some (record { id = id; body = body })

-- ---- and written, with members by their names

abbrev pub body_data : ContentId → Body → Data
body_data id (bodies.IcebergTable t) = object (no_members
    +> (codes "id", id_data id)
    +> (codes "metadataLocation", string t.metadata_location)
    +> (codes "schemaId", integer_data t.schema_id)
    +> (codes "snapshotId", integer_data t.snapshot_id)
    +> (codes "sortOrderId", integer_data t.sort_order_id)
    +> (codes "specId", integer_data t.spec_id)
    +> (codes "type", string (kind_name kinds.IcebergTable)))
body_data id (bodies.IcebergView v) = object (no_members
    +> (codes "id", id_data id)
    +> (codes "metadataLocation", string v.metadata_location)
    +> (codes "schemaId", integer_data v.schema_id)
    +> (codes "type", string (kind_name kinds.IcebergView))
    +> (codes "versionId", integer_data v.version_id))
body_data id (bodies.DeltaLakeTable t) = object (no_members
    +> (codes "checkpointLocationHistory", list_data string t.checkpoint_locations)
    +> (codes "id", id_data id)
    +?> (codes "lastCheckpoint", option_map string t.last_checkpoint)
    +> (codes "metadataLocationHistory", list_data string t.metadata_locations)
    +> (codes "type", string (kind_name kinds.DeltaLakeTable)))
body_data id (bodies.Namespace n) = object (no_members
    +> (codes "elements", list_data string n.elements)
    +> (codes "id", id_data id)
    +> (codes "properties", map_data string n.properties)
    +> (codes "type", string (kind_name kinds.Namespace)))
body_data id (bodies.Udf f) = object (no_members
    +> (codes "id", id_data id)
    +> (codes "metadataLocation", string f.metadata_location)
    +> (codes "signatureId", string f.signature_id)
    +> (codes "type", string (kind_name kinds.Udf))
    +> (codes "versionId", string f.version_id))

unfoldable pub content_data : Content → Data
content_data c = body_data c.id c.body

-- so that the text of a content is a function of it
no_float_body : (id : ContentId) (body : Body) → has_float (body_data id body) ≡ false
no_float_body id (bodies.IcebergTable t) = search (floatless, no_float_integer)
no_float_body id (bodies.IcebergView v) = search (floatless, no_float_integer)
no_float_body id (bodies.DeltaLakeTable t) = search floatless
no_float_body id (bodies.Namespace n) = search floatless
no_float_body id (bodies.Udf f) = search floatless

pub no_float_content : (c : Content) → has_float (content_data c) ≡ false
unfolding content_data
no_float_content c = no_float_body c.id c.body

-- each number of the id is a byte
abbrev pub IsOfBytes : ContentId → Type 0
IsOfBytes id = All (λ b. b < 256) id.bytes
