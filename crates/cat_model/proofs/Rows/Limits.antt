-- Worked cases of limits and of records of one hash.
use Rattle.std.specs.Prelude.{◌≡◌, refl, ℕ, List, [], ◌∷◌, Option, Some, None, codes, map, length, ◌==◌, if◌then◌else◌, Result, Ok, Err}
use Rattle.cat_codes.specs.Code.{u8_spelling, u16_spelling, u32_spelling, u64_spelling, i64_spelling, i32_spelling, list, ascending}
use Rattle.cat_codes.specs.Texts.{text_code, short_text_code}
use Rattle.cat_names.specs.Fields.{hash_code, id_code, element_code, key_code}
use Rattle.cat_model.specs.declared.conflict.ConflictKind.TheVariants.{KeyExists}
use Rattle.cat_model.specs.declared.limits.Quantity.TheVariants.{Log, Commits, Keys, Contents, Drafts}
use Rattle.cat_model.specs.declared.op.Op.TheVariants.{Delete, Unchanged}
use Rattle.cat_model.specs.declared.reference.Kind.TheVariants.{Branch}
use Rattle.cat_model.specs.declared.refusal.Refusal.{Refusal}
use Rattle.cat_model.specs.declared.refusal.Refusal.TheVariants.{RefNotFound, Limit, Collision}
use Rattle.cat_model.specs.declared.refusal.Refused.{Refused}
use Rattle.cat_model.specs.declared.reply.Told.{Told}
use Rattle.cat_model.specs.Formats.{moment_code, kind_code, entry_code, meta_code, commit_code}
use Rattle.cat_model.specs.Contents.{table_code, namespace_code, of_table, of_namespace, content_code}
use Rattle.cat_model.specs.Namespaces.{emptied_fault}
use Rattle.cat_model.specs.Judge.{changes_of, op_fault, judge}
use Rattle.cat_model.specs.Chain.{entries}
use Rattle.cat_model.specs.State.{Digest, fresh_id}
use Rattle.cat_model.specs.Records.{commit_bytes, content_bytes, with_commit, with_content}
use Rattle.cat_model.specs.Commits.{given_ops, given_request, request_commit, commit_opening, needs_commit_room, step_commit}
use Rattle.cat_model.specs.Answer.{answer_reference, answer_content}
use Rattle.cat_model.specs.Calls.{attempt, entry_made}
use Rattle.cat_model.specs.Requests.{Session}
use Rattle.cat_model.proofs.Rows.Script.{first_session, Outcomes, script, at_state}
use Rattle.cat_model.proofs.Rows.Words.{quick, clock, Request, short, main, H0, table, no_id, new, again, commit, put_new, put, after, said, done, not, refused_at, t1, t2, t9, m1, empty, limited, ample, one}

limits_of_each_quantity : (said (limited (record ample { log = 1 })) (put_new None t1 m1 ∷ put_new None t1 m1 ∷ []) ≡ done 1 ∷ not (Some 1) (Limit Log 1) ∷ [])
    × (said (limited (record ample { commits = 1 })) (put_new None t1 m1 ∷ put_new None t1 m1 ∷ []) ≡ done 1 ∷ not (Some 1) (Limit Commits 1) ∷ [])
    × (said (limited (record ample { keys = 1 })) (put_new None t1 m1 ∷ put_new None t1 m1 ∷ []) ≡ done 1 ∷ not (Some 1) (Limit Keys 1) ∷ [])
    × (said (limited (record ample { contents = 1 })) (put_new None t1 m1 ∷ put_new None t1 m1 ∷ []) ≡ done 1 ∷ not (Some 1) (Limit Contents 1) ∷ [])
    × (said (limited (record ample { drafts = 1 })) (put_new None t1 m1 ∷ put_new None t1 m1 ∷ put_new (Some (record { bytes = 1 ∷ [] })) t1 m1 ∷ []) ≡ done 1 ∷ not (Some 1) (Limit Drafts 1) ∷ not (Some 1) RefNotFound ∷ [])
    × (said (limited (record ample { keys = 1; contents = 0; commits = 0; log = 0 })) (put_new None t1 m1 ∷ []) ≡ not (Some 0) (Limit Log 0) ∷ [])
    × (said (limited (record ample { keys = 0; contents = 0; commits = 0 })) (put_new None t1 m1 ∷ []) ≡ not (Some 0) (Limit Commits 0) ∷ [])
    × (said (limited (record ample { keys = 0; contents = 0 })) (put_new None t1 m1 ∷ []) ≡ not (Some 0) (Limit Keys 0) ∷ [])
unfolding u8_spelling u16_spelling u32_spelling u64_spelling i64_spelling i32_spelling list ascending text_code short_text_code hash_code id_code element_code key_code moment_code kind_code entry_code meta_code commit_code table_code namespace_code of_table of_namespace content_code emptied_fault changes_of op_fault judge entries commit_bytes content_bytes with_commit with_content given_ops given_request request_commit commit_opening needs_commit_room step_commit answer_reference answer_content entry_made attempt script
limits_of_each_quantity = (refl, refl, refl, refl, refl, refl, refl, refl)

-- PUTs alone, also over what is there; what is deleted is not taken off
what_is_counted : (said (limited (record ample { keys = 1; contents = 1 })) (put_new None t1 m1 ∷ commit main None (Unchanged t1 ∷ Unchanged t2 ∷ []) [] ∷ commit main None (Delete t1 ∷ []) [] ∷ []) ≡ done 1 ∷ done 2 ∷ done 3 ∷ [])
    × (said (limited (record ample { keys = 1 })) (put_new None t1 m1 ∷ put t1 (fresh_id 1 0) (codes "m2") ∷ commit main None (Delete t1 ∷ new t2 (table no_id m1) ∷ []) (table no_id m1 ∷ []) ∷ []) ≡ done 1 ∷ not (Some 1) (Limit Keys 1) ∷ not (Some 1) (Limit Keys 1) ∷ [])
    × (said (limited (record ample { contents = 1 })) (put_new None t1 m1 ∷ put t1 (fresh_id 1 0) m1 ∷ []) ≡ done 1 ∷ not (Some 1) (Limit Contents 1) ∷ [])
unfolding u8_spelling u16_spelling u32_spelling u64_spelling i64_spelling i32_spelling list ascending text_code short_text_code hash_code id_code element_code key_code moment_code kind_code entry_code meta_code commit_code table_code namespace_code of_table of_namespace content_code emptied_fault changes_of op_fault judge entries commit_bytes content_bytes with_commit with_content given_ops given_request request_commit commit_opening needs_commit_room step_commit answer_reference answer_content entry_made attempt script
what_is_counted = (refl, refl, refl)

-- ---- records of one hash

-- a digest of which all contents and commits have one hash
abbrev poor : Digest
poor bytes = if length bytes == 5 then 0 ∷ [] else 1 ∷ []

-- a digest of which every record has the hash of no commit
abbrev poorest : Digest
poorest bytes = 0 ∷ []

abbrev collision_of : Refusal → Option (ℕ × ℕ)
collision_of (Collision hash first second) = Some (length first, length second)
collision_of _ = None

-- how many bytes the two records have
abbrev collision : Result Told Refused → Option (ℕ × ℕ)
collision (Ok t) = None
collision (Err e) = collision_of e.why

abbrev poorly : Digest → List Request → List (Option (ℕ × ℕ))
poorly digest requests = map collision (script digest 1 clock (first_session digest ample) requests).said

abbrev tables : List ℕ → List ℕ → Request
tables x y = commit main None (new t1 (table no_id x) ∷ new t2 (table no_id y) ∷ []) (table no_id x ∷ table no_id y ∷ [])

colliding_commits : poorly poor (commit main None (Unchanged t1 ∷ []) [] ∷ commit main None (Unchanged t1 ∷ Unchanged t2 ∷ []) [] ∷ []) ≡ None ∷ Some (45, 45) ∷ []
unfolding u8_spelling u16_spelling u32_spelling u64_spelling i64_spelling i32_spelling list ascending text_code short_text_code hash_code id_code element_code key_code moment_code kind_code entry_code meta_code commit_code table_code namespace_code of_table of_namespace content_code emptied_fault changes_of op_fault judge entries commit_bytes content_bytes with_commit with_content given_ops given_request request_commit commit_opening needs_commit_room step_commit answer_reference answer_content entry_made attempt script
colliding_commits = refl

colliding_contents : poorly poor (tables (codes "x") (codes "yz") ∷ []) ≡ Some (42, 43) ∷ []
unfolding u8_spelling u16_spelling u32_spelling u64_spelling i64_spelling i32_spelling list ascending text_code short_text_code hash_code id_code element_code key_code moment_code kind_code entry_code meta_code commit_code table_code namespace_code of_table of_namespace content_code emptied_fault changes_of op_fault judge entries commit_bytes content_bytes with_commit with_content given_ops given_request request_commit commit_opening needs_commit_room step_commit answer_reference answer_content entry_made attempt script
colliding_contents = refl

contents_collide_before_the_commit : poorly poor (commit main None (Unchanged t1 ∷ []) [] ∷ tables (codes "x") (codes "yz") ∷ []) ≡ None ∷ Some (42, 43) ∷ []
unfolding u8_spelling u16_spelling u32_spelling u64_spelling i64_spelling i32_spelling list ascending text_code short_text_code hash_code id_code element_code key_code moment_code kind_code entry_code meta_code commit_code table_code namespace_code of_table of_namespace content_code emptied_fault changes_of op_fault judge entries commit_bytes content_bytes with_commit with_content given_ops given_request request_commit commit_opening needs_commit_room step_commit answer_reference answer_content entry_made attempt script
contents_collide_before_the_commit = refl

conflicts_before_collisions : map short (script poor 1 clock (first_session poor ample) (put_new None t1 (codes "x") ∷ put_new None t1 (codes "yz") ∷ [])).said ≡ done 1 ∷ refused_at 1 t1 KeyExists ∷ []
unfolding u8_spelling u16_spelling u32_spelling u64_spelling i64_spelling i32_spelling list ascending text_code short_text_code hash_code id_code element_code key_code moment_code kind_code entry_code meta_code commit_code table_code namespace_code of_table of_namespace content_code emptied_fault changes_of op_fault judge entries commit_bytes content_bytes with_commit with_content given_ops given_request request_commit commit_opening needs_commit_room step_commit answer_reference answer_content entry_made attempt script
conflicts_before_collisions = refl

a_commit_of_the_first_hash : poorly poorest (commit main None (Unchanged t1 ∷ []) [] ∷ []) ≡ Some (5, 45) ∷ []
unfolding u8_spelling u16_spelling u32_spelling u64_spelling i64_spelling i32_spelling list ascending text_code short_text_code hash_code id_code element_code key_code moment_code kind_code entry_code meta_code commit_code table_code namespace_code of_table of_namespace content_code emptied_fault changes_of op_fault judge entries commit_bytes content_bytes with_commit with_content given_ops given_request request_commit commit_opening needs_commit_room step_commit answer_reference answer_content entry_made attempt script
a_commit_of_the_first_hash = refl

-- the branch is back at the first hash
abbrev turned_back : Session → Session
turned_back s = at_state s (record s.book.state { references = record { name = main; kind = Branch; head = H0 } ∷ [] })

-- the same call at the same moment and head makes the same commit, which stands once
abbrev repeated : Outcomes
repeated = script quick 1 (λ n. 5) (turned_back (script quick 1 (λ n. 5) empty (commit main None (Unchanged t1 ∷ []) [] ∷ [])).after) (commit main None (Unchanged t1 ∷ []) [] ∷ [])

the_same_commit_again : (map short repeated.said ≡ done 2 ∷ []) × (length repeated.after.book.state.commits ≡ 1)
unfolding u8_spelling u16_spelling u32_spelling u64_spelling i64_spelling i32_spelling list ascending text_code short_text_code hash_code id_code element_code key_code moment_code kind_code entry_code meta_code commit_code table_code namespace_code of_table of_namespace content_code emptied_fault changes_of op_fault judge entries commit_bytes content_bytes with_commit with_content given_ops given_request request_commit commit_opening needs_commit_room step_commit answer_reference answer_content entry_made attempt script
the_same_commit_again = (refl, refl)

the_same_content_again : length (after one (commit main None (Unchanged t1 ∷ again t9 (table (fresh_id 1 0) m1) ∷ Delete t1 ∷ []) (table (fresh_id 1 0) m1 ∷ []) ∷ [])).book.state.present ≡ 1
unfolding u8_spelling u16_spelling u32_spelling u64_spelling i64_spelling i32_spelling list ascending text_code short_text_code hash_code id_code element_code key_code moment_code kind_code entry_code meta_code commit_code table_code namespace_code of_table of_namespace content_code emptied_fault changes_of op_fault judge entries commit_bytes content_bytes with_commit with_content given_ops given_request request_commit commit_opening needs_commit_room step_commit answer_reference answer_content entry_made attempt script
the_same_content_again = refl
