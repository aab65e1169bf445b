-- Worked cases of what calls leave in the log and tell.
use Rattle.std.specs.Prelude.{◌≡◌, refl, ℕ, List, [], ◌∷◌, Option, Some, None, Bool, true, codes, map, Result, Ok, Err}
use Rattle.cat_codes.specs.Code.{u8_spelling, u16_spelling, u32_spelling, u64_spelling, i64_spelling, i32_spelling, list, ascending}
use Rattle.cat_codes.specs.Texts.{text_code, short_text_code}
use Rattle.cat_names.specs.Fields.{Key, hash_code, id_code, element_code, key_code}
use Rattle.cat_names.specs.declared.hash.Hash.{Hash}
use Rattle.cat_names.specs.declared.hash.ContentId.{ContentId}
use Rattle.cat_model.specs.declared.log_entry.Action.{Action}
use Rattle.cat_model.specs.declared.log_entry.Action.TheVariants as actions
use Rattle.cat_model.specs.declared.log_entry.LogEntry.{LogEntry}
use Rattle.cat_model.specs.declared.op.Op.{Op}
use Rattle.cat_model.specs.declared.op.Op.TheVariants.{Put, Delete, Unchanged}
use Rattle.cat_model.specs.declared.command.Command.{Command}
use Rattle.cat_model.specs.declared.command.Command.TheVariants as commands
use Rattle.cat_model.specs.declared.refusal.Refused.{Refused}
use Rattle.cat_model.specs.declared.reply.Reply.{Reply}
use Rattle.cat_model.specs.declared.reply.Reply.TheVariants as replies
use Rattle.cat_model.specs.declared.reply.Told.{Told}
use Rattle.cat_model.specs.Formats.{moment_code, kind_code, entry_code, meta_code, commit_code}
use Rattle.cat_model.specs.Contents.{table_code, namespace_code, of_table, of_namespace, content_code}
use Rattle.cat_model.specs.Limits.{program_limits}
use Rattle.cat_model.specs.Namespaces.{emptied_fault}
use Rattle.cat_model.specs.Judge.{changes_of, op_fault, judge}
use Rattle.cat_model.specs.Chain.{entries}
use Rattle.cat_model.specs.State.{fresh_id}
use Rattle.cat_model.specs.Records.{commit_bytes, content_bytes, with_commit, with_content}
use Rattle.cat_model.specs.Commits.{given_ops, given_request, request_commit, commit_opening, needs_commit_room, step_commit}
use Rattle.cat_model.specs.Answer.{answer_reference, answer_content}
use Rattle.cat_model.specs.Calls.{attempt, entry_made}
use Rattle.cat_model.proofs.Rows.Script.{script}
use Rattle.cat_model.specs.Book.{Book, first_book, after_call, call_on}
use Rattle.cat_model.proofs.Rows.Words.{quick, clock, Request, main, note, table, no_id, new, again, commit, put_new, both, after, head, t1, t2, t9, a, a-t, m1, empty, one}

-- an operation's key, id and whether it is fresh
abbrev logged_op : Op → Key × (Option ContentId × Option Bool)
logged_op (Put key entry fresh) = (key, (Some entry.id, Some fresh))
logged_op (Delete key) = (key, (None, None))
logged_op (Unchanged key) = (key, (None, None))

abbrev logged_by : Command → List (Key × (Option ContentId × Option Bool)) × List ContentId
logged_by (commands.Create c) = ([], [])
logged_by (commands.Assign c) = ([], [])
logged_by (commands.Delete c) = ([], [])
logged_by (commands.Commit c) = (map logged_op c.ops, map (λ x. x.id) c.contents)
logged_by (commands.Merge m) = ([], [])
logged_by (commands.Transplant t) = ([], [])

abbrev entry_shape : LogEntry → ℕ × (ℕ × (ℕ × (ℕ × Option Hash)))
entry_shape e = (e.place, (e.caller, (e.draft, (e.moment, e.head))))

abbrev logged_as : Action → List (Key × (Option ContentId × Option Bool)) × List ContentId
logged_as (actions.Call command) = logged_by command
logged_as (actions.Sweep s) = ([], [])

abbrev logged_ids : LogEntry → List (Key × (Option ContentId × Option Bool)) × List ContentId
logged_ids e = logged_as e.action

abbrev run : List Request → List LogEntry
run requests = (script quick 7 clock empty requests).logged

entries_of_accepted_calls : map entry_shape (run (put_new None t1 m1 ∷ put_new None t1 m1 ∷ put_new None t2 m1 ∷ [])) ≡ (1, (7, (1, (1000000, Some (head one))))) ∷ (2, (7, (3, (3000000, Some (head (after one (put_new None t1 m1 ∷ put_new None t2 m1 ∷ []))))))) ∷ []
unfolding u8_spelling u16_spelling u32_spelling u64_spelling i64_spelling i32_spelling list ascending text_code short_text_code hash_code id_code element_code key_code moment_code kind_code entry_code meta_code commit_code table_code namespace_code of_table of_namespace content_code emptied_fault changes_of op_fault judge entries commit_bytes content_bytes with_commit with_content given_ops given_request request_commit commit_opening needs_commit_room step_commit answer_reference answer_content entry_made attempt script
entries_of_accepted_calls = refl

entries_have_ids : map logged_ids (run (put_new None a-t m1 ∷ both ∷ [])) ≡ ((a, (Some (fresh_id 2 0), Some true)) ∷ (a-t, (Some (fresh_id 2 1), Some true)) ∷ [], fresh_id 2 0 ∷ fresh_id 2 1 ∷ []) ∷ []
unfolding u8_spelling u16_spelling u32_spelling u64_spelling i64_spelling i32_spelling list ascending text_code short_text_code hash_code id_code element_code key_code moment_code kind_code entry_code meta_code commit_code table_code namespace_code of_table of_namespace content_code emptied_fault changes_of op_fault judge entries commit_bytes content_bytes with_commit with_content given_ops given_request request_commit commit_opening needs_commit_room step_commit answer_reference answer_content entry_made attempt script
entries_have_ids = refl

abbrev added_by : Reply → List (ContentId × Key)
added_by (replies.Committed c) = c.added
added_by _ = []

-- ids that were given, in the request's order
abbrev added : Result Told Refused → List (ContentId × Key)
added (Ok t) = added_by t.reply
added (Err e) = []

ids_that_are_told : map added (script quick 1 clock one (commit main None (new t9 (table no_id m1) ∷ again t1 (table (fresh_id 1 0) (codes "m2")) ∷ new t2 (table no_id m1) ∷ []) (table no_id m1 ∷ table (fresh_id 1 0) (codes "m2") ∷ table no_id m1 ∷ []) ∷ [])).said
    ≡ ((fresh_id 2 0, t9) ∷ (fresh_id 2 2, t2) ∷ []) ∷ []
unfolding u8_spelling u16_spelling u32_spelling u64_spelling i64_spelling i32_spelling list ascending text_code short_text_code hash_code id_code element_code key_code moment_code kind_code entry_code meta_code commit_code table_code namespace_code of_table of_namespace content_code emptied_fault changes_of op_fault judge entries commit_bytes content_bytes with_commit with_content given_ops given_request request_commit commit_opening needs_commit_room step_commit answer_reference answer_content entry_made attempt script
ids_that_are_told = refl

-- the book after a call
abbrev then_call : Book → Command → ℕ → Book
then_call book command moment = after_call book (call_on quick 7 book command moment)

abbrev new_table : Key → Command
new_table key = commands.Commit (record { branch = main; expected = None; meta = note; ops = new key (table no_id m1) ∷ []; contents = table no_id m1 ∷ [] })

abbrev three_calls : Book
three_calls = then_call (then_call (then_call (first_book quick program_limits) (new_table t1) 5) (new_table t1) 6) (new_table t2) 7

abbrev when : LogEntry → ℕ × (ℕ × ℕ)
when e = (e.place, (e.draft, e.moment))

a_book_of_three_calls : (map when three_calls.log ≡ (2, (3, 7)) ∷ (1, (1, 5)) ∷ []) × (three_calls.draft ≡ 3) × (three_calls.state.place ≡ 2)
unfolding u8_spelling u16_spelling u32_spelling u64_spelling i64_spelling i32_spelling list ascending text_code short_text_code hash_code id_code element_code key_code moment_code kind_code entry_code meta_code commit_code table_code namespace_code of_table of_namespace content_code emptied_fault changes_of op_fault judge entries commit_bytes content_bytes with_commit with_content given_ops given_request request_commit commit_opening needs_commit_room step_commit answer_reference answer_content entry_made attempt script
a_book_of_three_calls = (refl, refl, refl)
