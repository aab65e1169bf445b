-- The byte format of contents: type byte, id, then the fields of the type.
use Rattle.std.specs.Prelude.{ℕ, zero, suc, Option, Some, None}
use Rattle.std.specs.Ordering.{nat_cmp}
use Rattle.std.specs.Cmp.Lexicographic.{slice_cmp}
use Rattle.cat_codes.specs.Code.{Code, ◌⊗◌, as_type, variant, nothing, by_tag, list, option, ascending, i32_code, i64_code}
use Rattle.cat_codes.specs.Texts.{text_code}
use Rattle.cat_names.specs.Fields.{id_code}
use Rattle.cat_names.specs.declared.hash.ContentId.{ContentId}
use Rattle.cat_model.specs.declared.entry.ContentKind.{ContentKind}
use Rattle.cat_model.specs.declared.entry.ContentKind.TheVariants as kinds
use Rattle.cat_model.specs.declared.content.IcebergTable.{IcebergTable}
use Rattle.cat_model.specs.declared.content.IcebergView.{IcebergView}
use Rattle.cat_model.specs.declared.content.DeltaLakeTable.{DeltaLakeTable}
use Rattle.cat_model.specs.declared.content.Namespace.{Namespace}
use Rattle.cat_model.specs.declared.content.Udf.{Udf}
use Rattle.cat_model.specs.declared.content.Body.{Body}
use Rattle.cat_model.specs.declared.content.Body.TheVariants as bodies
use Rattle.cat_model.specs.declared.content.Content.{Content}
use Rattle.cat_model.specs.Formats.{kind_number}

-- the fields of a table
unfoldable pub table_code : Code IcebergTable
table_code = as_type
    (λ t. (t.metadata_location, (t.snapshot_id, (t.schema_id, (t.spec_id, t.sort_order_id)))))
    (λ x. record { metadata_location = x.0; snapshot_id = x.1.0; schema_id = x.1.1.0; spec_id = x.1.1.1.0; sort_order_id = x.1.1.1.1 })
    (text_code ⊗ i64_code ⊗ i32_code ⊗ i32_code ⊗ i32_code)

-- the fields of a view
unfoldable pub view_code : Code IcebergView
view_code = as_type
    (λ v. (v.metadata_location, (v.version_id, v.schema_id)))
    (λ x. record { metadata_location = x.0; version_id = x.1.0; schema_id = x.1.1 })
    (text_code ⊗ i64_code ⊗ i32_code)

-- the fields of a Delta Lake table
unfoldable pub delta_code : Code DeltaLakeTable
delta_code = as_type
    (λ t. (t.metadata_locations, (t.checkpoint_locations, t.last_checkpoint)))
    (λ x. record { metadata_locations = x.0; checkpoint_locations = x.1.0; last_checkpoint = x.1.1 })
    (list text_code ⊗ list text_code ⊗ option text_code)

-- the fields of a namespace
unfoldable pub namespace_code : Code Namespace
namespace_code = as_type
    (λ n. (n.elements, n.properties))
    (λ x. record { elements = x.0; properties = x.1 })
    (list text_code ⊗ ascending (slice_cmp nat_cmp) text_code text_code)

-- the fields of a function
unfoldable pub udf_code : Code Udf
udf_code = as_type
    (λ f. (f.metadata_location, (f.version_id, f.signature_id)))
    (λ x. record { metadata_location = x.0; version_id = x.1.0; signature_id = x.1.1 })
    (text_code ⊗ text_code ⊗ text_code)

-- the type of a content
abbrev pub body_kind : Body → ContentKind
body_kind (bodies.IcebergTable t) = kinds.IcebergTable
body_kind (bodies.IcebergView v) = kinds.IcebergView
body_kind (bodies.DeltaLakeTable t) = kinds.DeltaLakeTable
body_kind (bodies.Namespace n) = kinds.Namespace
body_kind (bodies.Udf f) = kinds.Udf

-- the number of a content's type
abbrev pub content_tag : Content → ℕ
content_tag c = kind_number (body_kind c.body)

-- the id and fields of a table
abbrev pub table_of : ContentId → Body → Option (ContentId × IcebergTable)
table_of id (bodies.IcebergTable t) = Some (id, t)
table_of id (bodies.IcebergView v) = None
table_of id (bodies.DeltaLakeTable t) = None
table_of id (bodies.Namespace n) = None
table_of id (bodies.Udf f) = None

-- the id and fields of a view
abbrev pub view_of : ContentId → Body → Option (ContentId × IcebergView)
view_of id (bodies.IcebergTable t) = None
view_of id (bodies.IcebergView v) = Some (id, v)
view_of id (bodies.DeltaLakeTable t) = None
view_of id (bodies.Namespace n) = None
view_of id (bodies.Udf f) = None

-- the id and fields of a Delta Lake table
abbrev pub delta_of : ContentId → Body → Option (ContentId × DeltaLakeTable)
delta_of id (bodies.IcebergTable t) = None
delta_of id (bodies.IcebergView v) = None
delta_of id (bodies.DeltaLakeTable t) = Some (id, t)
delta_of id (bodies.Namespace n) = None
delta_of id (bodies.Udf f) = None

-- the id and fields of a namespace
abbrev pub namespace_of : ContentId → Body → Option (ContentId × Namespace)
namespace_of id (bodies.IcebergTable t) = None
namespace_of id (bodies.IcebergView v) = None
namespace_of id (bodies.DeltaLakeTable t) = None
namespace_of id (bodies.Namespace n) = Some (id, n)
namespace_of id (bodies.Udf f) = None

-- the id and fields of a function
abbrev pub udf_of : ContentId → Body → Option (ContentId × Udf)
udf_of id (bodies.IcebergTable t) = None
udf_of id (bodies.IcebergView v) = None
udf_of id (bodies.DeltaLakeTable t) = None
udf_of id (bodies.Namespace n) = None
udf_of id (bodies.Udf f) = Some (id, f)

-- a content that is a table
unfoldable pub of_table : Code Content
of_table = variant (λ x. record { id = x.0; body = bodies.IcebergTable x.1 }) (λ c. table_of c.id c.body) (id_code ⊗ table_code)

-- a content that is a view
unfoldable pub of_view : Code Content
of_view = variant (λ x. record { id = x.0; body = bodies.IcebergView x.1 }) (λ c. view_of c.id c.body) (id_code ⊗ view_code)

-- a content that is a Delta Lake table
unfoldable pub of_delta : Code Content
of_delta = variant (λ x. record { id = x.0; body = bodies.DeltaLakeTable x.1 }) (λ c. delta_of c.id c.body) (id_code ⊗ delta_code)

-- a content that is a namespace
unfoldable pub of_namespace : Code Content
of_namespace = variant (λ x. record { id = x.0; body = bodies.Namespace x.1 }) (λ c. namespace_of c.id c.body) (id_code ⊗ namespace_code)

-- a content that is a function
unfoldable pub of_udf : Code Content
of_udf = variant (λ x. record { id = x.0; body = bodies.Udf x.1 }) (λ c. udf_of c.id c.body) (id_code ⊗ udf_code)

-- the contents of a type's number
abbrev pub content_of : ℕ → Code Content
content_of zero = nothing
content_of (suc zero) = of_table
content_of (suc (suc zero)) = of_view
content_of (suc (suc (suc zero))) = of_delta
content_of (suc (suc (suc (suc zero)))) = of_namespace
content_of (suc (suc (suc (suc (suc zero))))) = of_udf
content_of (suc (suc (suc (suc (suc (suc n)))))) = nothing

-- a content: the number of its type, its id, and the fields of its type
unfoldable pub content_code : Code Content
content_code = by_tag content_tag content_of
