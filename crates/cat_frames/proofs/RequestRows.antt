-- Worked cases of operations as they are logged.
use Rattle.std.specs.Prelude.{◌≡◌, refl, ℕ, List, [], ◌∷◌, ◌++◌, Some, None, Ok, Err, true, false, pos}
use Rattle.std.specs.Char.{encode_utf8}
use Rattle.std.specs.Str.{chars, is_utf8}
use Rattle.cat_codes.specs.declared.fault.FieldFault.TheVariants.{Short, Range}
use Rattle.cat_codes.specs.Code.{u8_spelling, u16_spelling, u32_spelling, i64_spelling, i32_spelling, u8_at, u16_at, u32_at, i64_at, i32_at, items_at, flag_at, flag_code, bytes_code, whole}
use Rattle.cat_codes.specs.Texts.{text_code, short_text_code}
use Rattle.cat_names.specs.Fields.{Key, hash_code, id_code, element_code, key_code, is_element, is_count, is_path}
use Rattle.cat_model.specs.declared.content.Body.TheVariants as bodies
use Rattle.cat_model.specs.declared.content.Content.{Content}
use Rattle.cat_model.specs.declared.op.Op.TheVariants.{Put, Delete, Unchanged}
use Rattle.cat_model.specs.Contents.{table_code, of_table, content_code}
use Rattle.cat_model.specs.State.{Digest, entry_for, fresh_id}
use Rattle.cat_frames.specs.Requests.{put_code, change_code, op_code}

-- what the cases compute
unfoldable formats : Unit {0}
unfolding u8_spelling u16_spelling u32_spelling i64_spelling i32_spelling u8_at u16_at u32_at i64_at i32_at items_at flag_at flag_code bytes_code whole chars encode_utf8 is_utf8 text_code short_text_code hash_code id_code element_code key_code is_element is_count is_path table_code of_table content_code put_code change_code op_code
formats = tt

-- the key t1
abbrev key : Key
key = (116 ∷ 49 ∷ []) ∷ []

-- a table, whose id the first operation of the draft 1 got
abbrev table : Content
table = record { id = fresh_id 1 0; body = bodies.IcebergTable (record { metadata_location = 109 ∷ 49 ∷ []; snapshot_id = pos 1; schema_id = pos 0; spec_id = pos 0; sort_order_id = pos 0 }) }

abbrev table_bytes : List ℕ
table_bytes = 1 ∷ 0 ∷ 0 ∷ 0 ∷ 0 ∷ 0 ∷ 0 ∷ 0 ∷ 1 ∷ 0 ∷ 0 ∷ 0 ∷ 0 ∷ 0 ∷ 0 ∷ 0 ∷ 0 ∷ 0 ∷ 0 ∷ 0 ∷ 2 ∷ 109 ∷ 49 ∷ 0 ∷ 0 ∷ 0 ∷ 0 ∷ 0 ∷ 0 ∷ 0 ∷ 1 ∷ 0 ∷ 0 ∷ 0 ∷ 0 ∷ 0 ∷ 0 ∷ 0 ∷ 0 ∷ 0 ∷ 0 ∷ 0 ∷ 0 ∷ []

abbrev key_bytes : List ℕ
key_bytes = 1 ∷ 0 ∷ 2 ∷ 116 ∷ 49 ∷ []

-- a PUT of the table, by its flag
abbrev putting : ℕ → List ℕ
putting flag = key_bytes ++ 1 ∷ flag ∷ 0 ∷ 0 ∷ 0 ∷ 43 ∷ table_bytes

a_fresh_put_is_spelled : (digest : Digest) → (op_code digest (fresh_id 1 0)).spell (Put key (entry_for digest table) true, Some table) ≡ putting 1
unfolding formats
a_fresh_put_is_spelled digest = refl

a_fresh_put_is_read : (digest : Digest) → (op_code digest (fresh_id 1 0)).at (putting 1) ≡ Ok ((Put key (entry_for digest table) true, Some table), [])
unfolding formats
a_fresh_put_is_read digest = refl

a_fresh_put_has_the_id_of_its_index : (digest : Digest) → (op_code digest (fresh_id 1 1)).at (putting 1) ≡ Err Range
unfolding formats
a_fresh_put_has_the_id_of_its_index digest = refl

a_put_that_is_not_fresh_has_any_id : (digest : Digest) → (op_code digest (fresh_id 1 1)).at (putting 0) ≡ Ok ((Put key (entry_for digest table) false, Some table), [])
unfolding formats
a_put_that_is_not_fresh_has_any_id digest = refl

a_content_takes_all_of_its_length : (digest : Digest) → (op_code digest (fresh_id 1 0)).at (key_bytes ++ 1 ∷ 1 ∷ 0 ∷ 0 ∷ 0 ∷ 44 ∷ table_bytes ++ 0 ∷ []) ≡ Err Range
unfolding formats
a_content_takes_all_of_its_length digest = refl

a_delete_is_spelled : (digest : Digest) → (op_code digest (fresh_id 1 0)).spell (Delete key, None) ≡ key_bytes ++ 0 ∷ []
unfolding formats
a_delete_is_spelled digest = refl

an_unchanged_is_spelled : (digest : Digest) → (op_code digest (fresh_id 1 0)).spell (Unchanged key, None) ≡ key_bytes ++ 2 ∷ []
unfolding formats
an_unchanged_is_spelled digest = refl

a_delete_is_read : (digest : Digest) → (op_code digest (fresh_id 1 0)).at (key_bytes ++ 0 ∷ 7 ∷ []) ≡ Ok ((Delete key, None), 7 ∷ [])
unfolding formats
a_delete_is_read digest = refl

an_unchanged_is_read : (digest : Digest) → (op_code digest (fresh_id 1 0)).at (key_bytes ++ 2 ∷ 7 ∷ []) ≡ Ok ((Unchanged key, None), 7 ∷ [])
unfolding formats
an_unchanged_is_read digest = refl

no_operation_has_the_number_3 : (digest : Digest) → (op_code digest (fresh_id 1 0)).at (key_bytes ++ 3 ∷ []) ≡ Err Range
unfolding formats
no_operation_has_the_number_3 digest = refl

an_operation_has_a_number : (digest : Digest) → (op_code digest (fresh_id 1 0)).at key_bytes ≡ Err Short
unfolding formats
an_operation_has_a_number digest = refl
