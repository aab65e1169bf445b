-- The format of contents is a code.
use Rattle.std.proofs.Common.{◌≡◌, ℕ, zero, suc, Some, refl, ap, sym}
use Rattle.std.specs.Ordering.{nat_cmp}
use Rattle.std.specs.Cmp.Lexicographic.{slice_cmp}
use Rattle.cat_codes.specs.Code.{IsCode}
use Rattle.cat_codes.specs.Texts.{text_code, text_is}
use Rattle.cat_codes.specs.NumberLaws.{i32_is, i64_is}
use Rattle.cat_codes.specs.FieldLaws.{pair_is, as_type_is, variant_is, nothing_is, by_tag_is, option_is}
use Rattle.cat_codes.specs.ListLaws.{list_is, ascending_is}
use Rattle.cat_names.specs.KeyLaws.{id_is}
use Rattle.cat_names.specs.declared.hash.ContentId.{ContentId}
use Rattle.cat_model.specs.declared.content.IcebergTable.{IcebergTable}
use Rattle.cat_model.specs.declared.content.IcebergView.{IcebergView}
use Rattle.cat_model.specs.declared.content.DeltaLakeTable.{DeltaLakeTable}
use Rattle.cat_model.specs.declared.content.Namespace.{Namespace}
use Rattle.cat_model.specs.declared.content.Udf.{Udf}
use Rattle.cat_model.specs.declared.content.Body.{Body}
use Rattle.cat_model.specs.declared.content.Body.TheVariants as bodies
use Rattle.cat_model.specs.declared.content.Content.{Content}
use Rattle.cat_model.specs.Formats.{kind_number}
use Rattle.cat_model.specs.Contents.{table_code, view_code, delta_code, namespace_code, udf_code, body_kind, content_tag, table_of, view_of, delta_of, namespace_of, udf_of, of_table, of_view, of_delta, of_namespace, of_udf, content_of, content_code}

pub table_is : IsCode table_code
unfolding table_code
table_is = as_type_is _ _ _ (λ _. refl) (λ _. refl) (pair_is _ _ text_is (pair_is _ _ i64_is (pair_is _ _ i32_is (pair_is _ _ i32_is i32_is))))

pub view_is : IsCode view_code
unfolding view_code
view_is = as_type_is _ _ _ (λ _. refl) (λ _. refl) (pair_is _ _ text_is (pair_is _ _ i64_is i32_is))

pub delta_is : IsCode delta_code
unfolding delta_code
delta_is = as_type_is _ _ _ (λ _. refl) (λ _. refl) (pair_is _ _ (list_is _ text_is) (pair_is _ _ (list_is _ text_is) (option_is _ text_is)))

pub namespace_is : IsCode namespace_code
unfolding namespace_code
namespace_is = as_type_is _ _ _ (λ _. refl) (λ _. refl) (pair_is _ _ (list_is _ text_is) (ascending_is (slice_cmp nat_cmp) text_code text_code text_is text_is))

pub udf_is : IsCode udf_code
unfolding udf_code
udf_is = as_type_is _ _ _ (λ _. refl) (λ _. refl) (pair_is _ _ text_is (pair_is _ _ text_is text_is))

abbrev content : ContentId → Body → Content
content id body = record { id = id; body = body }

table_back : (id : ContentId) (body : Body) (x : ContentId × IcebergTable) → table_of id body ≡ Some x → content x.0 (bodies.IcebergTable x.1) ≡ content id body
table_back id (bodies.IcebergTable t) x e = let same : (id, t) ≡ x = cc in ap (λ (y : ContentId × IcebergTable). content y.0 (bodies.IcebergTable y.1)) (sym same)
table_back id (bodies.IcebergView t) x e = absurd cc
table_back id (bodies.DeltaLakeTable t) x e = absurd cc
table_back id (bodies.Namespace n) x e = absurd cc
table_back id (bodies.Udf f) x e = absurd cc

view_back : (id : ContentId) (body : Body) (x : ContentId × IcebergView) → view_of id body ≡ Some x → content x.0 (bodies.IcebergView x.1) ≡ content id body
view_back id (bodies.IcebergView t) x e = let same : (id, t) ≡ x = cc in ap (λ (y : ContentId × IcebergView). content y.0 (bodies.IcebergView y.1)) (sym same)
view_back id (bodies.IcebergTable t) x e = absurd cc
view_back id (bodies.DeltaLakeTable t) x e = absurd cc
view_back id (bodies.Namespace n) x e = absurd cc
view_back id (bodies.Udf f) x e = absurd cc

delta_back : (id : ContentId) (body : Body) (x : ContentId × DeltaLakeTable) → delta_of id body ≡ Some x → content x.0 (bodies.DeltaLakeTable x.1) ≡ content id body
delta_back id (bodies.DeltaLakeTable t) x e = let same : (id, t) ≡ x = cc in ap (λ (y : ContentId × DeltaLakeTable). content y.0 (bodies.DeltaLakeTable y.1)) (sym same)
delta_back id (bodies.IcebergTable t) x e = absurd cc
delta_back id (bodies.IcebergView t) x e = absurd cc
delta_back id (bodies.Namespace n) x e = absurd cc
delta_back id (bodies.Udf f) x e = absurd cc

namespace_back : (id : ContentId) (body : Body) (x : ContentId × Namespace) → namespace_of id body ≡ Some x → content x.0 (bodies.Namespace x.1) ≡ content id body
namespace_back id (bodies.Namespace n) x e = let same : (id, n) ≡ x = cc in ap (λ (y : ContentId × Namespace). content y.0 (bodies.Namespace y.1)) (sym same)
namespace_back id (bodies.IcebergTable t) x e = absurd cc
namespace_back id (bodies.IcebergView t) x e = absurd cc
namespace_back id (bodies.DeltaLakeTable t) x e = absurd cc
namespace_back id (bodies.Udf f) x e = absurd cc

udf_back : (id : ContentId) (body : Body) (x : ContentId × Udf) → udf_of id body ≡ Some x → content x.0 (bodies.Udf x.1) ≡ content id body
udf_back id (bodies.Udf f) x e = let same : (id, f) ≡ x = cc in ap (λ (y : ContentId × Udf). content y.0 (bodies.Udf y.1)) (sym same)
udf_back id (bodies.IcebergTable t) x e = absurd cc
udf_back id (bodies.IcebergView t) x e = absurd cc
udf_back id (bodies.DeltaLakeTable t) x e = absurd cc
udf_back id (bodies.Namespace n) x e = absurd cc

of_table_is : IsCode of_table
unfolding of_table
of_table_is = variant_is _ _ _ (λ _. refl) (λ c x e. table_back c.id c.body x e) (pair_is _ _ id_is table_is)

of_view_is : IsCode of_view
unfolding of_view
of_view_is = variant_is _ _ _ (λ _. refl) (λ c x e. view_back c.id c.body x e) (pair_is _ _ id_is view_is)

of_delta_is : IsCode of_delta
unfolding of_delta
of_delta_is = variant_is _ _ _ (λ _. refl) (λ c x e. delta_back c.id c.body x e) (pair_is _ _ id_is delta_is)

of_namespace_is : IsCode of_namespace
unfolding of_namespace
of_namespace_is = variant_is _ _ _ (λ _. refl) (λ c x e. namespace_back c.id c.body x e) (pair_is _ _ id_is namespace_is)

of_udf_is : IsCode of_udf
unfolding of_udf
of_udf_is = variant_is _ _ _ (λ _. refl) (λ c x e. udf_back c.id c.body x e) (pair_is _ _ id_is udf_is)

each : (t : ℕ) → IsCode (content_of t)
each zero = nothing_is
each (suc zero) = of_table_is
each (suc (suc zero)) = of_view_is
each (suc (suc (suc zero))) = of_delta_is
each (suc (suc (suc (suc zero)))) = of_namespace_is
each (suc (suc (suc (suc (suc zero))))) = of_udf_is
each (suc (suc (suc (suc (suc (suc n)))))) = nothing_is

table_tag : (id : ContentId) (body : Body) → (of_table).Fits (content id body) → kind_number (body_kind body) ≡ 1
unfolding of_table
table_tag id (bodies.IcebergTable t) fits = refl
table_tag id (bodies.IcebergView t) fits = let no : _ = fits.1 in absurd cc
table_tag id (bodies.DeltaLakeTable t) fits = let no : _ = fits.1 in absurd cc
table_tag id (bodies.Namespace n) fits = let no : _ = fits.1 in absurd cc
table_tag id (bodies.Udf f) fits = let no : _ = fits.1 in absurd cc

view_tag : (id : ContentId) (body : Body) → (of_view).Fits (content id body) → kind_number (body_kind body) ≡ 2
unfolding of_view
view_tag id (bodies.IcebergView t) fits = refl
view_tag id (bodies.IcebergTable t) fits = let no : _ = fits.1 in absurd cc
view_tag id (bodies.DeltaLakeTable t) fits = let no : _ = fits.1 in absurd cc
view_tag id (bodies.Namespace n) fits = let no : _ = fits.1 in absurd cc
view_tag id (bodies.Udf f) fits = let no : _ = fits.1 in absurd cc

delta_tag : (id : ContentId) (body : Body) → (of_delta).Fits (content id body) → kind_number (body_kind body) ≡ 3
unfolding of_delta
delta_tag id (bodies.DeltaLakeTable t) fits = refl
delta_tag id (bodies.IcebergTable t) fits = let no : _ = fits.1 in absurd cc
delta_tag id (bodies.IcebergView t) fits = let no : _ = fits.1 in absurd cc
delta_tag id (bodies.Namespace n) fits = let no : _ = fits.1 in absurd cc
delta_tag id (bodies.Udf f) fits = let no : _ = fits.1 in absurd cc

namespace_tag : (id : ContentId) (body : Body) → (of_namespace).Fits (content id body) → kind_number (body_kind body) ≡ 4
unfolding of_namespace
namespace_tag id (bodies.Namespace n) fits = refl
namespace_tag id (bodies.IcebergTable t) fits = let no : _ = fits.1 in absurd cc
namespace_tag id (bodies.IcebergView t) fits = let no : _ = fits.1 in absurd cc
namespace_tag id (bodies.DeltaLakeTable t) fits = let no : _ = fits.1 in absurd cc
namespace_tag id (bodies.Udf f) fits = let no : _ = fits.1 in absurd cc

udf_tag : (id : ContentId) (body : Body) → (of_udf).Fits (content id body) → kind_number (body_kind body) ≡ 5
unfolding of_udf
udf_tag id (bodies.Udf f) fits = refl
udf_tag id (bodies.IcebergTable t) fits = let no : _ = fits.1 in absurd cc
udf_tag id (bodies.IcebergView t) fits = let no : _ = fits.1 in absurd cc
udf_tag id (bodies.DeltaLakeTable t) fits = let no : _ = fits.1 in absurd cc
udf_tag id (bodies.Namespace n) fits = let no : _ = fits.1 in absurd cc

tagged : (t : ℕ) (c : Content) → (content_of t).Fits c → content_tag c ≡ t
tagged zero c fits = absurd fits
tagged (suc zero) c fits = table_tag c.id c.body fits
tagged (suc (suc zero)) c fits = view_tag c.id c.body fits
tagged (suc (suc (suc zero))) c fits = delta_tag c.id c.body fits
tagged (suc (suc (suc (suc zero)))) c fits = namespace_tag c.id c.body fits
tagged (suc (suc (suc (suc (suc zero))))) c fits = udf_tag c.id c.body fits
tagged (suc (suc (suc (suc (suc (suc n)))))) c fits = absurd fits

-- what is spelled as a content is read, and what is read is spelled so
pub content_is : IsCode content_code
unfolding content_code
content_is = by_tag_is content_tag content_of each tagged
