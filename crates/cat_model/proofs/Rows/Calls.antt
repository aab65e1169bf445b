-- Worked cases of commits.
use Rattle.std.specs.Prelude.{◌≡◌, refl, ℕ, List, [], ◌∷◌, Option, Some, None, codes, map, Err}
use Rattle.std.specs.Option.{option_map}
use Rattle.cat_codes.specs.Code.{u8_spelling, u16_spelling, u32_spelling, u64_spelling, i64_spelling, i32_spelling, list, ascending}
use Rattle.cat_codes.specs.Texts.{text_code, short_text_code}
use Rattle.cat_names.specs.Fields.{Key, hash_code, id_code, element_code, key_code}
use Rattle.cat_names.specs.declared.hash.Hash.{Hash}
use Rattle.cat_model.specs.declared.conflict.ConflictKind.TheVariants.{KeyExists, KeyDoesNotExist, ValueDiffers, NamespaceAbsent, NamespaceNotEmpty}
use Rattle.cat_model.specs.declared.commit.Commit.{Commit}
use Rattle.cat_model.specs.declared.op.Op.TheVariants.{Delete, Unchanged}
use Rattle.cat_model.specs.declared.reference.Kind.TheVariants.{Branch, Tag}
use Rattle.cat_model.specs.declared.refusal.Refusal.TheVariants.{BadRequest, RefNotFound, ContentNotFound, NoRoute}
use Rattle.cat_model.specs.declared.refusal.Reason.TheVariants.{NotABranch}
use Rattle.cat_model.specs.declared.refusal.Missing.TheVariants.{Absent}
use Rattle.cat_model.specs.Formats.{moment_code, kind_code, entry_code, meta_code, commit_code}
use Rattle.cat_model.specs.Contents.{table_code, namespace_code, of_table, of_namespace, content_code}
use Rattle.cat_model.specs.Namespaces.{emptied_fault}
use Rattle.cat_model.specs.Judge.{changes_of, op_fault, judge}
use Rattle.cat_model.specs.Chain.{entries}
use Rattle.cat_model.specs.State.{fresh_id}
use Rattle.cat_model.specs.Records.{commit_bytes, content_bytes, with_commit, with_content}
use Rattle.cat_model.specs.Commits.{given_ops, given_request, request_commit, commit_opening, needs_commit_room, step_commit}
use Rattle.cat_model.specs.Answer.{answer_reference, answer_content}
use Rattle.cat_model.specs.Calls.{attempt, entry_made}
use Rattle.cat_model.specs.Requests.{Session}
use Rattle.cat_model.proofs.Rows.Script.{script, at_state}
use Rattle.cat_model.proofs.Rows.Words.{main, H0, table, no_id, new, again, commit, put_new, put, both, read, after, said, head, done, gives, not, refused_at, t1, t2, t9, a, a-t, m1, empty, ids, head_commit, parent_of_head, one}

the_first_commit : said empty (put_new (Some H0) t1 m1 ∷ read (Some main) None t1 ∷ read (Some main) None t2 ∷ [])
    ≡ done 1 ∷ gives 1 m1 ∷ not (Some 1) (ContentNotFound Absent) ∷ []
unfolding u8_spelling u16_spelling u32_spelling u64_spelling i64_spelling i32_spelling list ascending text_code short_text_code hash_code id_code element_code key_code moment_code kind_code entry_code meta_code commit_code table_code namespace_code of_table of_namespace content_code emptied_fault changes_of op_fault judge entries commit_bytes content_bytes with_commit with_content given_ops given_request request_commit commit_opening needs_commit_room step_commit answer_reference answer_content entry_made attempt script
the_first_commit = refl

the_first_id : ids one ≡ (t1, fresh_id 1 0) ∷ []
unfolding u8_spelling u16_spelling u32_spelling u64_spelling i64_spelling i32_spelling list ascending text_code short_text_code hash_code id_code element_code key_code moment_code kind_code entry_code meta_code commit_code table_code namespace_code of_table of_namespace content_code emptied_fault changes_of op_fault judge entries commit_bytes content_bytes with_commit with_content given_ops given_request request_commit commit_opening needs_commit_room step_commit answer_reference answer_content entry_made attempt script
the_first_id = refl

the_first_parent : parent_of_head one ≡ Some H0
unfolding u8_spelling u16_spelling u32_spelling u64_spelling i64_spelling i32_spelling list ascending text_code short_text_code hash_code id_code element_code key_code moment_code kind_code entry_code meta_code commit_code table_code namespace_code of_table of_namespace content_code emptied_fault changes_of op_fault judge entries commit_bytes content_bytes with_commit with_content given_ops given_request request_commit commit_opening needs_commit_room step_commit answer_reference answer_content entry_made attempt script
the_first_parent = refl

-- generation, moment and stored keys of the commit at the head
abbrev shape : Commit → ℕ × (ℕ × List Key)
shape c = (c.generation, (c.time, map (λ x. x.0) c.ops))

-- its merge parent and its message
abbrev saying : Commit → Option Hash × List ℕ
saying c = (c.merge_parent, c.meta.message)

the_first_shape : option_map shape (head_commit one) ≡ Some (1, (1000000, t1 ∷ []))
unfolding u8_spelling u16_spelling u32_spelling u64_spelling i64_spelling i32_spelling list ascending text_code short_text_code hash_code id_code element_code key_code moment_code kind_code entry_code meta_code commit_code table_code namespace_code of_table of_namespace content_code emptied_fault changes_of op_fault judge entries commit_bytes content_bytes with_commit with_content given_ops given_request request_commit commit_opening needs_commit_room step_commit answer_reference answer_content entry_made attempt script
the_first_shape = refl

the_second_shape : option_map shape (head_commit (after one (put_new None t2 m1 ∷ []))) ≡ Some (2, (2000000, t2 ∷ []))
unfolding u8_spelling u16_spelling u32_spelling u64_spelling i64_spelling i32_spelling list ascending text_code short_text_code hash_code id_code element_code key_code moment_code kind_code entry_code meta_code commit_code table_code namespace_code of_table of_namespace content_code emptied_fault changes_of op_fault judge entries commit_bytes content_bytes with_commit with_content given_ops given_request request_commit commit_opening needs_commit_room step_commit answer_reference answer_content entry_made attempt script
the_second_shape = refl

operations_are_stored_by_key : option_map shape (head_commit (after one (commit main None (new t9 (table no_id m1) ∷ Unchanged t1 ∷ new t2 (table no_id m1) ∷ []) (table no_id m1 ∷ table no_id m1 ∷ []) ∷ []))) ≡ Some (2, (2000000, t2 ∷ t9 ∷ []))
unfolding u8_spelling u16_spelling u32_spelling u64_spelling i64_spelling i32_spelling list ascending text_code short_text_code hash_code id_code element_code key_code moment_code kind_code entry_code meta_code commit_code table_code namespace_code of_table of_namespace content_code emptied_fault changes_of op_fault judge entries commit_bytes content_bytes with_commit with_content given_ops given_request request_commit commit_opening needs_commit_room step_commit answer_reference answer_content entry_made attempt script
operations_are_stored_by_key = refl

the_same_request_again : said one (put_new (Some H0) t1 m1 ∷ []) ≡ refused_at 1 t1 KeyExists ∷ []
unfolding u8_spelling u16_spelling u32_spelling u64_spelling i64_spelling i32_spelling list ascending text_code short_text_code hash_code id_code element_code key_code moment_code kind_code entry_code meta_code commit_code table_code namespace_code of_table of_namespace content_code emptied_fault changes_of op_fault judge entries commit_bytes content_bytes with_commit with_content given_ops given_request request_commit commit_opening needs_commit_room step_commit answer_reference answer_content entry_made attempt script
the_same_request_again = refl

-- a refused call has used its draft
its_draft_is_used : ids (after one (put_new (Some H0) t1 m1 ∷ put_new None t2 m1 ∷ [])) ≡ (t1, fresh_id 1 0) ∷ (t2, fresh_id 3 0) ∷ []
unfolding u8_spelling u16_spelling u32_spelling u64_spelling i64_spelling i32_spelling list ascending text_code short_text_code hash_code id_code element_code key_code moment_code kind_code entry_code meta_code commit_code table_code namespace_code of_table of_namespace content_code emptied_fault changes_of op_fault judge entries commit_bytes content_bytes with_commit with_content given_ops given_request request_commit commit_opening needs_commit_room step_commit answer_reference answer_content entry_made attempt script
its_draft_is_used = refl

-- a call refused before its draft has used none
no_draft_is_used : (after one (put_new (Some (record { bytes = 1 ∷ [] })) t2 m1 ∷ commit (codes "none") None (Unchanged t1 ∷ []) [] ∷ [])).book.draft ≡ 1
unfolding u8_spelling u16_spelling u32_spelling u64_spelling i64_spelling i32_spelling list ascending text_code short_text_code hash_code id_code element_code key_code moment_code kind_code entry_code meta_code commit_code table_code namespace_code of_table of_namespace content_code emptied_fault changes_of op_fault judge entries commit_bytes content_bytes with_commit with_content given_ops given_request request_commit commit_opening needs_commit_room step_commit answer_reference answer_content entry_made attempt script
no_draft_is_used = refl

-- but it has taken a moment, which a read has not
moments_are_used : (after one (put_new (Some (record { bytes = 1 ∷ [] })) t2 m1 ∷ read (Some main) None t1 ∷ Err NoRoute ∷ [])).readings ≡ 2
unfolding u8_spelling u16_spelling u32_spelling u64_spelling i64_spelling i32_spelling list ascending text_code short_text_code hash_code id_code element_code key_code moment_code kind_code entry_code meta_code commit_code table_code namespace_code of_table of_namespace content_code emptied_fault changes_of op_fault judge entries commit_bytes content_bytes with_commit with_content given_ops given_request request_commit commit_opening needs_commit_room step_commit answer_reference answer_content entry_made attempt script
moments_are_used = refl

a_commit_at_an_old_hash : said one (put_new (Some H0) t2 m1 ∷ []) ≡ done 2 ∷ []
unfolding u8_spelling u16_spelling u32_spelling u64_spelling i64_spelling i32_spelling list ascending text_code short_text_code hash_code id_code element_code key_code moment_code kind_code entry_code meta_code commit_code table_code namespace_code of_table of_namespace content_code emptied_fault changes_of op_fault judge entries commit_bytes content_bytes with_commit with_content given_ops given_request request_commit commit_opening needs_commit_room step_commit answer_reference answer_content entry_made attempt script
a_commit_at_an_old_hash = refl

its_parent_is_the_head : parent_of_head (after one (put_new (Some H0) t2 m1 ∷ [])) ≡ Some (head one)
unfolding u8_spelling u16_spelling u32_spelling u64_spelling i64_spelling i32_spelling list ascending text_code short_text_code hash_code id_code element_code key_code moment_code kind_code entry_code meta_code commit_code table_code namespace_code of_table of_namespace content_code emptied_fault changes_of op_fault judge entries commit_bytes content_bytes with_commit with_content given_ops given_request request_commit commit_opening needs_commit_room step_commit answer_reference answer_content entry_made attempt script
its_parent_is_the_head = refl

its_id : ids (after one (put_new (Some H0) t2 m1 ∷ [])) ≡ (t1, fresh_id 1 0) ∷ (t2, fresh_id 2 0) ∷ []
unfolding u8_spelling u16_spelling u32_spelling u64_spelling i64_spelling i32_spelling list ascending text_code short_text_code hash_code id_code element_code key_code moment_code kind_code entry_code meta_code commit_code table_code namespace_code of_table of_namespace content_code emptied_fault changes_of op_fault judge entries commit_bytes content_bytes with_commit with_content given_ops given_request request_commit commit_opening needs_commit_room step_commit answer_reference answer_content entry_made attempt script
its_id = refl

a_key_needs_its_namespace : said empty (put_new None a-t m1 ∷ both ∷ []) ≡ refused_at 0 a-t NamespaceAbsent ∷ done 1 ∷ []
unfolding u8_spelling u16_spelling u32_spelling u64_spelling i64_spelling i32_spelling list ascending text_code short_text_code hash_code id_code element_code key_code moment_code kind_code entry_code meta_code commit_code table_code namespace_code of_table of_namespace content_code emptied_fault changes_of op_fault judge entries commit_bytes content_bytes with_commit with_content given_ops given_request request_commit commit_opening needs_commit_room step_commit answer_reference answer_content entry_made attempt script
a_key_needs_its_namespace = refl

abbrev nested : Session
nested = after empty (put_new None a-t m1 ∷ both ∷ [])

ids_by_draft_and_index : ids nested ≡ (a, fresh_id 2 0) ∷ (a-t, fresh_id 2 1) ∷ []
unfolding u8_spelling u16_spelling u32_spelling u64_spelling i64_spelling i32_spelling list ascending text_code short_text_code hash_code id_code element_code key_code moment_code kind_code entry_code meta_code commit_code table_code namespace_code of_table of_namespace content_code emptied_fault changes_of op_fault judge entries commit_bytes content_bytes with_commit with_content given_ops given_request request_commit commit_opening needs_commit_room step_commit answer_reference answer_content entry_made attempt script
ids_by_draft_and_index = refl

a_namespace_with_keys_stays : said nested (commit main None (Delete a ∷ []) [] ∷ commit main None (Delete a ∷ Delete a-t ∷ []) [] ∷ [])
    ≡ refused_at 1 a NamespaceNotEmpty ∷ done 2 ∷ []
unfolding u8_spelling u16_spelling u32_spelling u64_spelling i64_spelling i32_spelling list ascending text_code short_text_code hash_code id_code element_code key_code moment_code kind_code entry_code meta_code commit_code table_code namespace_code of_table of_namespace content_code emptied_fault changes_of op_fault judge entries commit_bytes content_bytes with_commit with_content given_ops given_request request_commit commit_opening needs_commit_room step_commit answer_reference answer_content entry_made attempt script
a_namespace_with_keys_stays = refl

unchanged_alone_makes_a_commit : said empty (commit main None (Unchanged t1 ∷ []) [] ∷ []) ≡ done 1 ∷ []
unfolding u8_spelling u16_spelling u32_spelling u64_spelling i64_spelling i32_spelling list ascending text_code short_text_code hash_code id_code element_code key_code moment_code kind_code entry_code meta_code commit_code table_code namespace_code of_table of_namespace content_code emptied_fault changes_of op_fault judge entries commit_bytes content_bytes with_commit with_content given_ops given_request request_commit commit_opening needs_commit_room step_commit answer_reference answer_content entry_made attempt script
unchanged_alone_makes_a_commit = refl

a_renamed_table : said one (commit main None (Delete t1 ∷ again t9 (table (fresh_id 1 0) m1) ∷ []) (table (fresh_id 1 0) m1 ∷ []) ∷ read (Some main) None t9 ∷ [])
    ≡ done 2 ∷ gives 2 m1 ∷ []
unfolding u8_spelling u16_spelling u32_spelling u64_spelling i64_spelling i32_spelling list ascending text_code short_text_code hash_code id_code element_code key_code moment_code kind_code entry_code meta_code commit_code table_code namespace_code of_table of_namespace content_code emptied_fault changes_of op_fault judge entries commit_bytes content_bytes with_commit with_content given_ops given_request request_commit commit_opening needs_commit_room step_commit answer_reference answer_content entry_made attempt script
a_renamed_table = refl

an_id_without_its_table : said one (put t9 (fresh_id 1 0) m1 ∷ []) ≡ refused_at 1 t9 KeyDoesNotExist ∷ []
unfolding u8_spelling u16_spelling u32_spelling u64_spelling i64_spelling i32_spelling list ascending text_code short_text_code hash_code id_code element_code key_code moment_code kind_code entry_code meta_code commit_code table_code namespace_code of_table of_namespace content_code emptied_fault changes_of op_fault judge entries commit_bytes content_bytes with_commit with_content given_ops given_request request_commit commit_opening needs_commit_room step_commit answer_reference answer_content entry_made attempt script
an_id_without_its_table = refl

there_and_back : said one (
    put t1 (fresh_id 1 0) (codes "m2")
    ∷ put t1 (fresh_id 1 0) m1
    ∷ commit main (Some (head one)) (Unchanged t1 ∷ new t2 (table no_id (codes "x")) ∷ []) (table no_id (codes "x") ∷ [])
    ∷ []) ≡ done 2 ∷ done 3 ∷ done 4 ∷ []
unfolding u8_spelling u16_spelling u32_spelling u64_spelling i64_spelling i32_spelling list ascending text_code short_text_code hash_code id_code element_code key_code moment_code kind_code entry_code meta_code commit_code table_code namespace_code of_table of_namespace content_code emptied_fault changes_of op_fault judge entries commit_bytes content_bytes with_commit with_content given_ops given_request request_commit commit_opening needs_commit_room step_commit answer_reference answer_content entry_made attempt script
there_and_back = refl

a_tag_takes_no_commits : said (at_state empty (record empty.book.state { references = record { name = main; kind = Tag; head = H0 } ∷ [] })) (put_new None t1 m1 ∷ []) ≡ not (Some 0) (BadRequest NotABranch) ∷ []
unfolding u8_spelling u16_spelling u32_spelling u64_spelling i64_spelling i32_spelling list ascending text_code short_text_code hash_code id_code element_code key_code moment_code kind_code entry_code meta_code commit_code table_code namespace_code of_table of_namespace content_code emptied_fault changes_of op_fault judge entries commit_bytes content_bytes with_commit with_content given_ops given_request request_commit commit_opening needs_commit_room step_commit answer_reference answer_content entry_made attempt script
a_tag_takes_no_commits = refl

what_is_said_of_it : option_map saying (head_commit one) ≡ Some (None, codes "one")
unfolding u8_spelling u16_spelling u32_spelling u64_spelling i64_spelling i32_spelling list ascending text_code short_text_code hash_code id_code element_code key_code moment_code kind_code entry_code meta_code commit_code table_code namespace_code of_table of_namespace content_code emptied_fault changes_of op_fault judge entries commit_bytes content_bytes with_commit with_content given_ops given_request request_commit commit_opening needs_commit_room step_commit answer_reference answer_content entry_made attempt script
what_is_said_of_it = refl

-- two values of one key, the first of which a request expects
abbrev changed : Session
changed = after one (put t1 (fresh_id 1 0) (codes "m2") ∷ [])

another_value_was_expected : said changed (commit main (Some (head one)) (Unchanged t1 ∷ []) [] ∷ commit main None (Unchanged t1 ∷ []) [] ∷ []) ≡ refused_at 2 t1 ValueDiffers ∷ done 3 ∷ []
unfolding u8_spelling u16_spelling u32_spelling u64_spelling i64_spelling i32_spelling list ascending text_code short_text_code hash_code id_code element_code key_code moment_code kind_code entry_code meta_code commit_code table_code namespace_code of_table of_namespace content_code emptied_fault changes_of op_fault judge entries commit_bytes content_bytes with_commit with_content given_ops given_request request_commit commit_opening needs_commit_room step_commit answer_reference answer_content entry_made attempt script
another_value_was_expected = refl

-- a session whose branch is back at the first hash, with the commits as they were
abbrev turned_back : Session → Session
turned_back s = at_state s (record s.book.state { references = record { name = codes "dev"; kind = Branch; head = head s } ∷ record { name = main; kind = Branch; head = H0 } ∷ [] })

commits_of_another_chain : ids (after (turned_back one) (put_new None t2 m1 ∷ [])) ≡ (t2, fresh_id 2 0) ∷ []
unfolding u8_spelling u16_spelling u32_spelling u64_spelling i64_spelling i32_spelling list ascending text_code short_text_code hash_code id_code element_code key_code moment_code kind_code entry_code meta_code commit_code table_code namespace_code of_table of_namespace content_code emptied_fault changes_of op_fault judge entries commit_bytes content_bytes with_commit with_content given_ops given_request request_commit commit_opening needs_commit_room step_commit answer_reference answer_content entry_made attempt script
commits_of_another_chain = refl

other_branches_stay : map (λ r. r.head) (after (turned_back one) (put_new None t2 m1 ∷ [])).book.state.references ≡ head one ∷ head (after (turned_back one) (put_new None t2 m1 ∷ [])) ∷ []
unfolding u8_spelling u16_spelling u32_spelling u64_spelling i64_spelling i32_spelling list ascending text_code short_text_code hash_code id_code element_code key_code moment_code kind_code entry_code meta_code commit_code table_code namespace_code of_table of_namespace content_code emptied_fault changes_of op_fault judge entries commit_bytes content_bytes with_commit with_content given_ops given_request request_commit commit_opening needs_commit_room step_commit answer_reference answer_content entry_made attempt script
other_branches_stay = refl

a_hash_off_the_chain : said (turned_back one) (put_new (Some (head one)) t2 m1 ∷ []) ≡ not (Some 1) RefNotFound ∷ []
unfolding u8_spelling u16_spelling u32_spelling u64_spelling i64_spelling i32_spelling list ascending text_code short_text_code hash_code id_code element_code key_code moment_code kind_code entry_code meta_code commit_code table_code namespace_code of_table of_namespace content_code emptied_fault changes_of op_fault judge entries commit_bytes content_bytes with_commit with_content given_ops given_request request_commit commit_opening needs_commit_room step_commit answer_reference answer_content entry_made attempt script
a_hash_off_the_chain = refl

the_kind_is_looked_at_before_the_hash : said (at_state empty (record empty.book.state { references = record { name = main; kind = Tag; head = H0 } ∷ [] })) (put_new (Some (record { bytes = 1 ∷ [] })) t1 m1 ∷ []) ≡ not (Some 0) (BadRequest NotABranch) ∷ []
unfolding u8_spelling u16_spelling u32_spelling u64_spelling i64_spelling i32_spelling list ascending text_code short_text_code hash_code id_code element_code key_code moment_code kind_code entry_code meta_code commit_code table_code namespace_code of_table of_namespace content_code emptied_fault changes_of op_fault judge entries commit_bytes content_bytes with_commit with_content given_ops given_request request_commit commit_opening needs_commit_room step_commit answer_reference answer_content entry_made attempt script
the_kind_is_looked_at_before_the_hash = refl
