-- Worked cases of checkpoints as requests of a session.
use Rattle.std.specs.Prelude.{◌≡◌, refl, [], ◌∷◌, None, Some, Ok}
use Rattle.cat_codes.specs.Code.{u8_spelling, u16_spelling, u32_spelling, u64_spelling, i64_spelling, i32_spelling, list, ascending}
use Rattle.cat_codes.specs.Texts.{text_code, short_text_code}
use Rattle.cat_names.specs.Fields.{hash_code, id_code, element_code, key_code}
use Rattle.cat_model.specs.Formats.{moment_code, kind_code, entry_code, meta_code, commit_code}
use Rattle.cat_model.specs.Contents.{table_code, namespace_code, of_table, of_namespace, content_code}
use Rattle.cat_model.specs.Namespaces.{emptied_fault}
use Rattle.cat_model.specs.Judge.{changes_of, op_fault, judge}
use Rattle.cat_model.specs.Chain.{entries}
use Rattle.cat_model.specs.Records.{commit_bytes, content_bytes, with_commit, with_content, expired_keys}
use Rattle.cat_model.specs.Commits.{given_ops, given_request, request_commit, commit_opening, needs_commit_room, step_commit}
use Rattle.cat_model.specs.Moves.{needs_contents}
use Rattle.cat_model.specs.Calls.{attempt, entry_made}
use Rattle.cat_model.specs.Requests.{Checkpoint, Session}
use Rattle.cat_model.specs.declared.refusal.Refusal.TheVariants.{OldFormat}
use Rattle.cat_model.specs.declared.reply.Reply.TheVariants as replies
use Rattle.cat_model.proofs.Rows.Script.{journal_of, script}
use Rattle.cat_model.proofs.Rows.Words.{Request, after, said, done, not, told, empty, one, put_new, t1, t2, m1}

-- ---- words

abbrev checkpoint : Request
checkpoint = Ok Checkpoint

-- a session over a journal of format 1
abbrev old : Session
old = record empty { journal = journal_of 1 }

-- ---- cases

nothing_is_there : said empty (checkpoint ∷ []) ≡ told 0 (replies.Checkpoint 0) ∷ []
unfolding script
nothing_is_there = refl

the_first_commit : said empty (put_new None t1 m1 ∷ checkpoint ∷ []) ≡ done 1 ∷ told 1 (replies.Checkpoint 1) ∷ []
unfolding u8_spelling u16_spelling u32_spelling u64_spelling i64_spelling i32_spelling list ascending text_code short_text_code hash_code id_code element_code key_code moment_code kind_code entry_code meta_code commit_code table_code namespace_code of_table of_namespace content_code emptied_fault changes_of op_fault judge entries commit_bytes content_bytes with_commit with_content expired_keys given_ops given_request request_commit commit_opening needs_commit_room step_commit needs_contents entry_made attempt script
the_first_commit = refl

it_makes_no_entry_and_takes_no_moment_and_no_draft : after one (checkpoint ∷ []) ≡ record one { journal = record (one.journal) { base = 1; bases = Some 1 } }
unfolding u8_spelling u16_spelling u32_spelling u64_spelling i64_spelling i32_spelling list ascending text_code short_text_code hash_code id_code element_code key_code moment_code kind_code entry_code meta_code commit_code table_code namespace_code of_table of_namespace content_code emptied_fault changes_of op_fault judge entries commit_bytes content_bytes with_commit with_content expired_keys given_ops given_request request_commit commit_opening needs_commit_room step_commit needs_contents entry_made attempt script
it_makes_no_entry_and_takes_no_moment_and_no_draft = refl

the_log_goes_on : said empty (put_new None t1 m1 ∷ checkpoint ∷ put_new None t2 m1 ∷ checkpoint ∷ []) ≡ done 1 ∷ told 1 (replies.Checkpoint 1) ∷ done 2 ∷ told 2 (replies.Checkpoint 2) ∷ []
unfolding u8_spelling u16_spelling u32_spelling u64_spelling i64_spelling i32_spelling list ascending text_code short_text_code hash_code id_code element_code key_code moment_code kind_code entry_code meta_code commit_code table_code namespace_code of_table of_namespace content_code emptied_fault changes_of op_fault judge entries commit_bytes content_bytes with_commit with_content expired_keys given_ops given_request request_commit commit_opening needs_commit_room step_commit needs_contents entry_made attempt script
the_log_goes_on = refl

an_old_format_has_none : said old (checkpoint ∷ []) ≡ not (Some 0) OldFormat ∷ []
unfolding script
an_old_format_has_none = refl

a_refused_one_changes_nothing : after old (checkpoint ∷ []) ≡ old
unfolding script
a_refused_one_changes_nothing = refl
