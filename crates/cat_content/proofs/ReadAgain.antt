-- What is written of a content is read as that content.
use Rattle.std.proofs.Common.{◌≡◌, ℕ, List, length, None, Some, Option, refl}
use Rattle.serde_json.specs.Data.{string}
use Rattle.serde_json.specs.Find.{as_str}
use Rattle.cat_codes.specs.Code.{ascending}
use Rattle.cat_json.specs.Reading.{list_as}
use Rattle.cat_json.specs.Writing.{list_data}
use Rattle.cat_json.proofs.RoundTrips.{list_back, map_back, integer_back, small_integer_back, id_back}
use Rattle.cat_names.specs.declared.hash.ContentId.{ContentId}
use Rattle.cat_names.specs.Fields.{id_code}
use Rattle.cat_model.specs.declared.content.Body.{Body}
use Rattle.cat_model.specs.declared.content.Body.TheVariants as bodies
use Rattle.cat_model.specs.Contents.{content_code, of_table, of_view, of_delta, of_namespace, of_udf, table_code, view_code, delta_code, namespace_code, udf_code}
use Rattle.cat_content.specs.Forms.{content_as, content_data, table_as, view_as, delta_as, namespace_as, udf_as, IsOfBytes}

texts_back : (xs : List (List ℕ)) → list_as as_str (list_data string xs) ≡ Some xs
texts_back xs = list_back as_str string (λ _. refl) xs

delta_again : (id : ContentId) (ms cs : List (List ℕ)) (last : Option (List ℕ)) → length id.bytes ≡ 16 → IsOfBytes id
    → content_as (content_data (record { id = id; body = bodies.DeltaLakeTable (record { metadata_locations = ms; checkpoint_locations = cs; last_checkpoint = last }) }))
    ≡ Some (record { id = Some id; body = bodies.DeltaLakeTable (record { metadata_locations = ms; checkpoint_locations = cs; last_checkpoint = last }) })
unfolding content_as content_data delta_as
delta_again id ms cs None len small = rw (id_back id len small, texts_back ms, texts_back cs) refl
delta_again id ms cs (Some x) len small = rw (id_back id len small, texts_back ms, texts_back cs) refl

pub read_again : (id : ContentId) (body : Body) → (content_code).Fits (record { id = id; body = body }) → IsOfBytes id → content_as (content_data (record { id = id; body = body })) ≡ Some (record { id = Some id; body = body })
unfolding content_as content_data content_code of_table of_view of_delta of_namespace of_udf table_code view_code delta_code namespace_code udf_code table_as view_as delta_as namespace_as udf_as id_code ascending
read_again id (bodies.IcebergTable t) fits small =
    let f = fits.1.0 in
    let n = f.1.1 in
    rw (id_back id f.0 small, integer_back t.snapshot_id n.0, small_integer_back t.schema_id n.1.0, small_integer_back t.spec_id n.1.1.0, small_integer_back t.sort_order_id n.1.1.1) refl
read_again id (bodies.IcebergView v) fits small =
    let f = fits.1.0 in
    let n = f.1.1 in
    rw (id_back id f.0 small, integer_back v.version_id n.0, small_integer_back v.schema_id n.1) refl
read_again id (bodies.DeltaLakeTable t) fits small =
    delta_again id t.metadata_locations t.checkpoint_locations t.last_checkpoint fits.1.0.0 small
read_again id (bodies.Namespace n) fits small =
    let f = fits.1.0 in
    rw (id_back id f.0 small, texts_back n.elements, map_back as_str string (λ _. refl) n.properties f.1.1.2) refl
read_again id (bodies.Udf g) fits small =
    let f = fits.1.0 in
    rw (id_back id f.0 small) refl
