-- Worked cases of functions, the fifth type of content.
use Rattle.std.specs.Prelude.{◌≡◌, refl, [], ◌∷◌, ◌++◌, Option, Some, None, Ok, Err, codes, length, replicate}
use Rattle.cat_codes.specs.Code.{u8_spelling, u16_spelling, u32_spelling, u64_spelling, i64_spelling, i32_spelling, list, ascending}
use Rattle.cat_codes.specs.Texts.{text_code, short_text_code}
use Rattle.cat_names.specs.Fields.{hash_code, id_code, element_code, key_code}
use Rattle.cat_names.specs.declared.hash.ContentId.{ContentId}
use Rattle.cat_model.specs.declared.conflict.ConflictKind.TheVariants.{NotANamespace, PayloadDiffers}
use Rattle.cat_model.specs.declared.content.Body.TheVariants as bodies
use Rattle.cat_model.specs.declared.content.Content.{Content}
use Rattle.cat_model.specs.declared.entry.ContentKind.TheVariants.{Udf}
use Rattle.cat_model.specs.Formats.{moment_code, kind_code, kind_name, kind_named, entry_code, meta_code, commit_code}
use Rattle.cat_model.specs.Contents.{table_code, namespace_code, udf_code, of_table, of_namespace, of_udf, content_code}
use Rattle.cat_model.specs.Namespaces.{emptied_fault}
use Rattle.cat_model.specs.Judge.{changes_of, op_fault, judge}
use Rattle.cat_model.specs.Chain.{entries}
use Rattle.cat_model.specs.State.{fresh_id}
use Rattle.cat_model.specs.Records.{commit_bytes, content_bytes, with_commit, with_content}
use Rattle.cat_model.specs.Commits.{given_ops, given_request, request_commit, commit_opening, needs_commit_room, step_commit}
use Rattle.cat_model.specs.Answer.{answer_reference, answer_content}
use Rattle.cat_model.specs.Calls.{attempt, entry_made}
use Rattle.cat_model.proofs.Rows.Script.{script}
use Rattle.cat_model.proofs.Rows.Words.{main, no_id, namespace, table, new, commit, put, empty, said, done, refused_at, a, a-t, m1}

abbrev function : ContentId → Content
function id = record { id = id; body = bodies.Udf (record { metadata_location = m1; version_id = codes "v1"; signature_id = codes "s1" }) }

the_bytes_of_a_function : (content_code).spell (function (fresh_id 1 0))
    ≡ 5 ∷ 0 ∷ 0 ∷ 0 ∷ 0 ∷ 0 ∷ 0 ∷ 0 ∷ 1 ∷ 0 ∷ 0 ∷ 0 ∷ 0 ∷ 0 ∷ 0 ∷ 0 ∷ 0 ∷ 0 ∷ 0 ∷ 0 ∷ 2 ∷ 109 ∷ 49 ∷ 0 ∷ 0 ∷ 0 ∷ 2 ∷ 118 ∷ 49 ∷ 0 ∷ 0 ∷ 0 ∷ 2 ∷ 115 ∷ 49 ∷ []
unfolding u8_spelling u32_spelling u64_spelling text_code id_code udf_code of_udf content_code
the_bytes_of_a_function = refl

how_many_they_are : length ((content_code).spell (function (fresh_id 1 0))) ≡ 35
unfolding u8_spelling u32_spelling u64_spelling text_code id_code udf_code of_udf content_code
how_many_they_are = refl

its_name : kind_named (kind_name Udf) ≡ Some Udf
its_name = refl

-- it is no namespace, and a table takes no function's place
what_a_function_is_to_others : said empty (commit main None (new a (function no_id) ∷ []) (function no_id ∷ []) ∷ commit main None (new a-t (table no_id m1) ∷ []) (table no_id m1 ∷ []) ∷ put a (fresh_id 1 0) m1 ∷ [])
    ≡ done 1 ∷ refused_at 1 a-t NotANamespace ∷ refused_at 1 a PayloadDiffers ∷ []
unfolding u8_spelling u16_spelling u32_spelling u64_spelling i64_spelling i32_spelling list ascending text_code short_text_code hash_code id_code element_code key_code moment_code kind_code entry_code meta_code commit_code table_code namespace_code udf_code of_table of_namespace of_udf content_code emptied_fault changes_of op_fault judge entries commit_bytes content_bytes with_commit with_content given_ops given_request request_commit commit_opening needs_commit_room step_commit answer_reference answer_content entry_made attempt script
what_a_function_is_to_others = refl
