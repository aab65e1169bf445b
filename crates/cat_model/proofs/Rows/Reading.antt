-- Worked cases of what is read.
use Rattle.std.specs.Prelude.{◌≡◌, refl, [], ◌∷◌, Option, Some, None, codes, map, Result, Ok, Err}
use Rattle.cat_codes.specs.Code.{u8_spelling, u16_spelling, u32_spelling, u64_spelling, i64_spelling, i32_spelling, list, ascending}
use Rattle.cat_codes.specs.Texts.{text_code, short_text_code}
use Rattle.cat_names.specs.Fields.{hash_code, id_code, element_code, key_code}
use Rattle.cat_model.specs.declared.ask.Ask.TheVariants as asks
use Rattle.cat_model.specs.declared.reference.Kind.TheVariants.{Branch}
use Rattle.cat_model.specs.declared.refusal.Refusal.TheVariants.{RefNotFound, ContentNotFound, NoRoute}
use Rattle.cat_model.specs.declared.refusal.Missing.TheVariants.{Absent, Expired}
use Rattle.cat_model.specs.declared.refusal.Refused.{Refused}
use Rattle.cat_model.specs.declared.reply.Reply.{Reply}
use Rattle.cat_model.specs.declared.reply.Reply.TheVariants as replies
use Rattle.cat_model.specs.declared.reply.Told.{Told}
use Rattle.cat_model.specs.Formats.{moment_code, kind_code, entry_code, meta_code, commit_code}
use Rattle.cat_model.specs.Contents.{table_code, namespace_code, of_table, of_namespace, content_code}
use Rattle.cat_model.specs.Namespaces.{emptied_fault}
use Rattle.cat_model.specs.Judge.{changes_of, op_fault, judge}
use Rattle.cat_model.specs.Chain.{entries}
use Rattle.cat_model.specs.State.{fresh_id}
use Rattle.cat_model.specs.Records.{commit_bytes, content_bytes, with_commit, with_content}
use Rattle.cat_model.specs.Commits.{given_ops, given_request, request_commit, commit_opening, needs_commit_room, step_commit}
use Rattle.cat_model.specs.Answer.{answer_reference, answer_content}
use Rattle.cat_model.specs.Calls.{attempt, entry_made}
use Rattle.cat_model.specs.Requests.{Session, Read}
use Rattle.cat_model.proofs.Rows.Script.{script, at_state}
use Rattle.cat_model.specs.declared.reference.Kind.{Kind}
use Rattle.cat_model.specs.declared.reference.Effective.{Effective}
use Rattle.cat_model.specs.declared.reference.Effective.TheVariants.{Named, Detached}
use Rattle.cat_model.proofs.Rows.Words.{quick, clock, main, H0, put, read, look, after, said, head, gives, points, told, not, t1, m1, empty, one}

what_the_server_is : said empty (Ok (Read asks.Config) ∷ Err NoRoute ∷ look (Some main) None ∷ []) ≡ told 0 replies.Config ∷ not None NoRoute ∷ points 0 (Some main) H0 ∷ []
unfolding u8_spelling u16_spelling u32_spelling u64_spelling i64_spelling i32_spelling list ascending text_code short_text_code hash_code id_code element_code key_code moment_code kind_code entry_code meta_code commit_code table_code namespace_code of_table of_namespace content_code emptied_fault changes_of op_fault judge entries commit_bytes content_bytes with_commit with_content given_ops given_request request_commit commit_opening needs_commit_room step_commit answer_reference answer_content entry_made attempt script
what_the_server_is = refl

-- two values of one key
abbrev two : Session
two = after one (put t1 (fresh_id 1 0) (codes "m2") ∷ [])

at_a_hash_of_the_chain : said two (read (Some main) None t1 ∷ read (Some main) (Some (head one)) t1 ∷ read None (Some (head one)) t1 ∷ read (Some main) (Some H0) t1 ∷ [])
    ≡ gives 2 (codes "m2") ∷ gives 2 m1 ∷ gives 2 m1 ∷ not (Some 2) (ContentNotFound Absent) ∷ []
unfolding u8_spelling u16_spelling u32_spelling u64_spelling i64_spelling i32_spelling list ascending text_code short_text_code hash_code id_code element_code key_code moment_code kind_code entry_code meta_code commit_code table_code namespace_code of_table of_namespace content_code emptied_fault changes_of op_fault judge entries commit_bytes content_bytes with_commit with_content given_ops given_request request_commit commit_opening needs_commit_room step_commit answer_reference answer_content entry_made attempt script
at_a_hash_of_the_chain = refl

at_what_is_not_there : said one (look (Some (codes "none")) None ∷ look (Some main) (Some (record { bytes = 1 ∷ [] })) ∷ look None (Some (record { bytes = 1 ∷ [] })) ∷ [])
    ≡ not (Some 1) RefNotFound ∷ not (Some 1) RefNotFound ∷ not (Some 1) RefNotFound ∷ []
unfolding u8_spelling u16_spelling u32_spelling u64_spelling i64_spelling i32_spelling list ascending text_code short_text_code hash_code id_code element_code key_code moment_code kind_code entry_code meta_code commit_code table_code namespace_code of_table of_namespace content_code emptied_fault changes_of op_fault judge entries commit_bytes content_bytes with_commit with_content given_ops given_request request_commit commit_opening needs_commit_room step_commit answer_reference answer_content entry_made attempt script
at_what_is_not_there = refl

at_what_is_there : said two (look (Some main) (Some H0) ∷ look (Some main) (Some (head one)) ∷ look None (Some (head one)) ∷ look None (Some H0) ∷ [])
    ≡ points 2 (Some main) H0 ∷ points 2 (Some main) (head one) ∷ points 2 None (head one) ∷ points 2 None H0 ∷ []
unfolding u8_spelling u16_spelling u32_spelling u64_spelling i64_spelling i32_spelling list ascending text_code short_text_code hash_code id_code element_code key_code moment_code kind_code entry_code meta_code commit_code table_code namespace_code of_table of_namespace content_code emptied_fault changes_of op_fault judge entries commit_bytes content_bytes with_commit with_content given_ops given_request request_commit commit_opening needs_commit_room step_commit answer_reference answer_content entry_made attempt script
at_what_is_there = refl

a_content_that_was_swept : said (at_state one (record one.book.state { present = [] })) (read (Some main) None t1 ∷ []) ≡ not (Some 1) (ContentNotFound Expired) ∷ []
unfolding u8_spelling u16_spelling u32_spelling u64_spelling i64_spelling i32_spelling list ascending text_code short_text_code hash_code id_code element_code key_code moment_code kind_code entry_code meta_code commit_code table_code namespace_code of_table of_namespace content_code emptied_fault changes_of op_fault judge entries commit_bytes content_bytes with_commit with_content given_ops given_request request_commit commit_opening needs_commit_room step_commit answer_reference answer_content entry_made attempt script
a_content_that_was_swept = refl

-- the branch is back at the first hash, and its commits are known
abbrev back : Session
back = at_state one (record one.book.state { references = record { name = main; kind = Branch; head = H0 } ∷ [] })

a_known_hash_off_the_chain : said back (look (Some main) (Some (head one)) ∷ look None (Some (head one)) ∷ read (Some main) (Some (head one)) t1 ∷ read None (Some (head one)) t1 ∷ [])
    ≡ not (Some 1) RefNotFound ∷ points 1 None (head one) ∷ not (Some 1) RefNotFound ∷ gives 1 m1 ∷ []
unfolding u8_spelling u16_spelling u32_spelling u64_spelling i64_spelling i32_spelling list ascending text_code short_text_code hash_code id_code element_code key_code moment_code kind_code entry_code meta_code commit_code table_code namespace_code of_table of_namespace content_code emptied_fault changes_of op_fault judge entries commit_bytes content_bytes with_commit with_content given_ops given_request request_commit commit_opening needs_commit_room step_commit answer_reference answer_content entry_made attempt script
a_known_hash_off_the_chain = refl

abbrev kind_at : Effective → Option Kind
kind_at (Named r) = Some r.kind
kind_at (Detached hash) = None

abbrev kind_in : Reply → Option Kind
kind_in (replies.Effective e) = kind_at e
kind_in (replies.Content c) = kind_at c.effective
kind_in _ = None

-- the kind of the reference that is told
abbrev kind_told : Result Told Refused → Option Kind
kind_told (Ok t) = kind_in t.reply
kind_told (Err e) = None

kinds_that_are_told : map kind_told (script quick 1 clock one (look (Some main) None ∷ read (Some main) (Some (head one)) t1 ∷ read None (Some (head one)) t1 ∷ [])).said ≡ Some Branch ∷ Some Branch ∷ None ∷ []
unfolding u8_spelling u16_spelling u32_spelling u64_spelling i64_spelling i32_spelling list ascending text_code short_text_code hash_code id_code element_code key_code moment_code kind_code entry_code meta_code commit_code table_code namespace_code of_table of_namespace content_code emptied_fault changes_of op_fault judge entries commit_bytes content_bytes with_commit with_content given_ops given_request request_commit commit_opening needs_commit_room step_commit answer_reference answer_content entry_made attempt script
kinds_that_are_told = refl
