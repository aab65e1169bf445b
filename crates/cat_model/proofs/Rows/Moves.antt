-- Worked cases of references that are made, moved and removed.
use Rattle.std.specs.Prelude.{◌≡◌, refl, ℕ, List, [], ◌∷◌, Option, Some, None, codes, map}
use Rattle.cat_codes.specs.Code.{u8_spelling, u16_spelling, u32_spelling, u64_spelling, i64_spelling, i32_spelling, list, ascending}
use Rattle.cat_codes.specs.Texts.{text_code, short_text_code}
use Rattle.cat_names.specs.Fields.{hash_code, id_code, element_code, key_code}
use Rattle.cat_names.specs.declared.hash.Hash.{Hash}
use Rattle.cat_model.specs.Formats.{moment_code, kind_code, entry_code, meta_code, commit_code}
use Rattle.cat_model.specs.Contents.{table_code, namespace_code, of_table, of_namespace, content_code}
use Rattle.cat_model.specs.Namespaces.{emptied_fault}
use Rattle.cat_model.specs.Judge.{changes_of, op_fault, judge}
use Rattle.cat_model.specs.Chain.{entries}
use Rattle.cat_model.specs.Records.{commit_bytes, content_bytes, with_commit, with_content, expired_keys}
use Rattle.cat_model.specs.Commits.{given_ops, given_request, request_commit, commit_opening, needs_commit_room, step_commit}
use Rattle.cat_model.specs.Moves.{needs_contents, step_create, step_assign, step_delete}
use Rattle.cat_model.specs.Pages.{history}
use Rattle.cat_model.specs.Answer.{references_page, answer_reference, answer_entries, history_item, answer_history, answer_contents, answer_content}
use Rattle.cat_model.specs.Calls.{attempt, entry_made}
use Rattle.cat_model.specs.Requests.{Session}
use Rattle.cat_model.proofs.Rows.Script.{script, at_state}
use Rattle.cat_model.specs.declared.command.Command.{Command}
use Rattle.cat_model.specs.declared.command.Command.TheVariants as commands
use Rattle.cat_model.specs.declared.conflict.ConflictKind.TheVariants.{UnexpectedHash}
use Rattle.cat_model.specs.declared.limits.Quantity.TheVariants as quantities
use Rattle.cat_model.specs.declared.log_entry.Action.{Action}
use Rattle.cat_model.specs.declared.log_entry.Action.TheVariants as actions
use Rattle.cat_model.specs.declared.log_entry.LogEntry.{LogEntry}
use Rattle.cat_model.specs.declared.reference.Kind.{Kind}
use Rattle.cat_model.specs.declared.reference.Kind.TheVariants.{Branch, Tag}
use Rattle.cat_model.specs.declared.refusal.Refusal.TheVariants.{BadRequest, RefNotFound, RefExists, ContentNotFound, Conflicts, Expired, Limit}
use Rattle.cat_model.specs.declared.refusal.Reason.TheVariants.{NotABranch, DefaultBranch, OtherType}
use Rattle.cat_model.specs.declared.refusal.Missing.TheVariants.{Absent}
use Rattle.cat_model.proofs.Rows.Words.{Short, quick, clock, main, dev, H0, table, no_id, new, commit, put_new, read, look, create, assign, delete, from_branch, from_hash, after, said, head, gives, points, stands, not, t1, t2, m1, empty, limited, ample, one}

-- a hash that is nothing's
abbrev other : Hash
other = record { bytes = 1 ∷ [] }

abbrev moved_off : ℕ → Short
moved_off place = not (Some place) (Conflicts (record { key = None; kind = UnexpectedHash } ∷ []))

a_new_branch : said one (create dev Branch (from_branch main) ∷ look (Some dev) None ∷ read (Some dev) None t1 ∷ create dev Branch (from_branch main) ∷ create main Tag (from_hash H0) ∷ [])
    ≡ stands 2 dev Branch (head one) ∷ points 2 (Some dev) (head one) ∷ gives 2 m1 ∷ not (Some 2) RefExists ∷ not (Some 2) RefExists ∷ []
unfolding u8_spelling u16_spelling u32_spelling u64_spelling i64_spelling i32_spelling list ascending text_code short_text_code hash_code id_code element_code key_code moment_code kind_code entry_code meta_code commit_code table_code namespace_code of_table of_namespace content_code emptied_fault changes_of op_fault judge entries commit_bytes content_bytes with_commit with_content expired_keys given_ops given_request request_commit commit_opening needs_commit_room step_commit needs_contents step_create step_assign step_delete history references_page answer_reference answer_entries history_item answer_history answer_contents answer_content entry_made attempt script
a_new_branch = refl

sources_of_a_new_reference : said one (create (codes "a") Branch (Some main, (Some H0, Some Branch)) ∷ create (codes "b") Tag (from_hash (head one)) ∷ create (codes "c") Branch (Some (codes "b"), (None, Some Tag)) ∷ create (codes "d") Branch (from_hash H0) ∷ [])
    ≡ stands 2 (codes "a") Branch H0 ∷ stands 3 (codes "b") Tag (head one) ∷ stands 4 (codes "c") Branch (head one) ∷ stands 5 (codes "d") Branch H0 ∷ []
unfolding u8_spelling u16_spelling u32_spelling u64_spelling i64_spelling i32_spelling list ascending text_code short_text_code hash_code id_code element_code key_code moment_code kind_code entry_code meta_code commit_code table_code namespace_code of_table of_namespace content_code emptied_fault changes_of op_fault judge entries commit_bytes content_bytes with_commit with_content expired_keys given_ops given_request request_commit commit_opening needs_commit_room step_commit needs_contents step_create step_assign step_delete history references_page answer_reference answer_entries history_item answer_history answer_contents answer_content entry_made attempt script
sources_of_a_new_reference = refl

-- the name is looked for first, then the kind, then the hash, then the new name
sources_that_are_refused : said one (create dev Branch (from_branch (codes "none")) ∷ create dev Branch (Some main, (None, Some Tag)) ∷ create dev Branch (Some main, (Some other, Some Branch)) ∷ create dev Branch (from_hash other) ∷ create main Branch (Some main, (Some other, Some Tag)) ∷ create main Branch (from_hash other) ∷ [])
    ≡ not (Some 1) RefNotFound ∷ not (Some 1) (BadRequest OtherType) ∷ not (Some 1) RefNotFound ∷ not (Some 1) RefNotFound ∷ not (Some 1) (BadRequest OtherType) ∷ not (Some 1) RefNotFound ∷ []
unfolding u8_spelling u16_spelling u32_spelling u64_spelling i64_spelling i32_spelling list ascending text_code short_text_code hash_code id_code element_code key_code moment_code kind_code entry_code meta_code commit_code table_code namespace_code of_table of_namespace content_code emptied_fault changes_of op_fault judge entries commit_bytes content_bytes with_commit with_content expired_keys given_ops given_request request_commit commit_opening needs_commit_room step_commit needs_contents step_create step_assign step_delete history references_page answer_reference answer_entries history_item answer_history answer_contents answer_content entry_made attempt script
sources_that_are_refused = refl

a_tag_takes_no_commit : said empty (create (codes "v") Tag (from_branch main) ∷ commit (codes "v") None (new t1 (table no_id m1) ∷ []) (table no_id m1 ∷ []) ∷ delete main None None ∷ look (Some (codes "none")) None ∷ [])
    ≡ stands 1 (codes "v") Tag H0 ∷ not (Some 1) (BadRequest NotABranch) ∷ not (Some 1) (BadRequest DefaultBranch) ∷ not (Some 1) RefNotFound ∷ []
unfolding u8_spelling u16_spelling u32_spelling u64_spelling i64_spelling i32_spelling list ascending text_code short_text_code hash_code id_code element_code key_code moment_code kind_code entry_code meta_code commit_code table_code namespace_code of_table of_namespace content_code emptied_fault changes_of op_fault judge entries commit_bytes content_bytes with_commit with_content expired_keys given_ops given_request request_commit commit_opening needs_commit_room step_commit needs_contents step_create step_assign step_delete history references_page answer_reference answer_entries history_item answer_history answer_contents answer_content entry_made attempt script
a_tag_takes_no_commit = refl

a_branch_is_removed : said one (create dev Branch (from_branch main) ∷ delete dev None (Some H0) ∷ delete dev (Some Tag) (Some H0) ∷ delete dev None (Some other) ∷ delete dev (Some Branch) (Some (head one)) ∷ look (Some dev) None ∷ delete dev None None ∷ create main Branch (from_branch main) ∷ [])
    ≡ stands 2 dev Branch (head one) ∷ moved_off 2 ∷ not (Some 2) (BadRequest OtherType) ∷ moved_off 2 ∷ stands 3 dev Branch (head one) ∷ not (Some 3) RefNotFound ∷ not (Some 3) RefNotFound ∷ not (Some 3) RefExists ∷ []
unfolding u8_spelling u16_spelling u32_spelling u64_spelling i64_spelling i32_spelling list ascending text_code short_text_code hash_code id_code element_code key_code moment_code kind_code entry_code meta_code commit_code table_code namespace_code of_table of_namespace content_code emptied_fault changes_of op_fault judge entries commit_bytes content_bytes with_commit with_content expired_keys given_ops given_request request_commit commit_opening needs_commit_room step_commit needs_contents step_create step_assign step_delete history references_page answer_reference answer_entries history_item answer_history answer_contents answer_content entry_made attempt script
a_branch_is_removed = refl

the_default_branch_stays : said one (delete main (Some Tag) (Some other) ∷ delete main None None ∷ [])
    ≡ not (Some 1) (BadRequest DefaultBranch) ∷ not (Some 1) (BadRequest DefaultBranch) ∷ []
unfolding u8_spelling u16_spelling u32_spelling u64_spelling i64_spelling i32_spelling list ascending text_code short_text_code hash_code id_code element_code key_code moment_code kind_code entry_code meta_code commit_code table_code namespace_code of_table of_namespace content_code emptied_fault changes_of op_fault judge entries commit_bytes content_bytes with_commit with_content expired_keys given_ops given_request request_commit commit_opening needs_commit_room step_commit needs_contents step_create step_assign step_delete history references_page answer_reference answer_entries history_item answer_history answer_contents answer_content entry_made attempt script
the_default_branch_stays = refl

a_branch_is_moved : said one (assign main None (Some (head one)) (from_hash H0) ∷ read (Some main) None t1 ∷ look (Some main) (Some (head one)) ∷ assign main (Some Branch) None (from_hash (head one)) ∷ read (Some main) None t1 ∷ [])
    ≡ stands 2 main Branch H0 ∷ not (Some 2) (ContentNotFound Absent) ∷ not (Some 2) RefNotFound ∷ stands 3 main Branch (head one) ∷ gives 3 m1 ∷ []
unfolding u8_spelling u16_spelling u32_spelling u64_spelling i64_spelling i32_spelling list ascending text_code short_text_code hash_code id_code element_code key_code moment_code kind_code entry_code meta_code commit_code table_code namespace_code of_table of_namespace content_code emptied_fault changes_of op_fault judge entries commit_bytes content_bytes with_commit with_content expired_keys given_ops given_request request_commit commit_opening needs_commit_room step_commit needs_contents step_create step_assign step_delete history references_page answer_reference answer_entries history_item answer_history answer_contents answer_content entry_made attempt script
a_branch_is_moved = refl

-- names first, then kinds, then the source's hash, then the head
moves_that_are_refused : said one (assign dev None None (from_branch main) ∷ assign main (Some Tag) (Some H0) (from_branch (codes "none")) ∷ assign main (Some Tag) (Some H0) (from_hash other) ∷ assign main None (Some H0) (Some main, (None, Some Tag)) ∷ assign main None (Some H0) (from_hash other) ∷ assign main None (Some other) (from_hash H0) ∷ assign main None (Some H0) (from_hash H0) ∷ [])
    ≡ not (Some 1) RefNotFound ∷ not (Some 1) RefNotFound ∷ not (Some 1) (BadRequest OtherType) ∷ not (Some 1) (BadRequest OtherType) ∷ not (Some 1) RefNotFound ∷ moved_off 1 ∷ moved_off 1 ∷ []
unfolding u8_spelling u16_spelling u32_spelling u64_spelling i64_spelling i32_spelling list ascending text_code short_text_code hash_code id_code element_code key_code moment_code kind_code entry_code meta_code commit_code table_code namespace_code of_table of_namespace content_code emptied_fault changes_of op_fault judge entries commit_bytes content_bytes with_commit with_content expired_keys given_ops given_request request_commit commit_opening needs_commit_room step_commit needs_contents step_create step_assign step_delete history references_page answer_reference answer_entries history_item answer_history answer_contents answer_content entry_made attempt script
moves_that_are_refused = refl

-- the contents of one are gone
abbrev swept : Session
swept = at_state one (record one.book.state { present = [] })

contents_that_are_gone : said swept (create dev Branch (from_branch main) ∷ create dev Branch (from_hash H0) ∷ assign dev None None (from_branch main) ∷ assign dev None (Some (head one)) (from_branch main) ∷ [])
    ≡ not (Some 1) (Expired (t1 ∷ []) 1) ∷ stands 2 dev Branch H0 ∷ not (Some 2) (Expired (t1 ∷ []) 2) ∷ moved_off 2 ∷ []
unfolding u8_spelling u16_spelling u32_spelling u64_spelling i64_spelling i32_spelling list ascending text_code short_text_code hash_code id_code element_code key_code moment_code kind_code entry_code meta_code commit_code table_code namespace_code of_table of_namespace content_code emptied_fault changes_of op_fault judge entries commit_bytes content_bytes with_commit with_content expired_keys given_ops given_request request_commit commit_opening needs_commit_room step_commit needs_contents step_create step_assign step_delete history references_page answer_reference answer_entries history_item answer_history answer_contents answer_content entry_made attempt script
contents_that_are_gone = refl

as_many_references_as_may_be : said (limited (record ample { references = 2 })) (create dev Branch (from_branch main) ∷ create (codes "a") Branch (from_branch main) ∷ create dev Branch (from_branch main) ∷ delete dev None None ∷ create (codes "a") Branch (from_branch main) ∷ [])
    ≡ stands 1 dev Branch H0 ∷ not (Some 1) (Limit quantities.References 2) ∷ not (Some 1) RefExists ∷ stands 2 dev Branch H0 ∷ stands 3 (codes "a") Branch H0 ∷ []
unfolding u8_spelling u16_spelling u32_spelling u64_spelling i64_spelling i32_spelling list ascending text_code short_text_code hash_code id_code element_code key_code moment_code kind_code entry_code meta_code commit_code table_code namespace_code of_table of_namespace content_code emptied_fault changes_of op_fault judge entries commit_bytes content_bytes with_commit with_content expired_keys given_ops given_request request_commit commit_opening needs_commit_room step_commit needs_contents step_create step_assign step_delete history references_page answer_reference answer_entries history_item answer_history answer_contents answer_content entry_made attempt script
as_many_references_as_may_be = refl

-- names and hashes come before the room of the log, and the expected head after it
a_full_log : said (limited (record ample { log = 1 })) (create dev Branch (from_branch main) ∷ create dev Branch (from_branch main) ∷ create (codes "a") Branch (from_branch main) ∷ assign dev None None (from_hash other) ∷ assign dev None (Some other) (from_hash H0) ∷ delete dev None (Some other) ∷ [])
    ≡ stands 1 dev Branch H0 ∷ not (Some 1) RefExists ∷ not (Some 1) (Limit quantities.Log 1) ∷ not (Some 1) RefNotFound ∷ not (Some 1) (Limit quantities.Log 1) ∷ not (Some 1) (Limit quantities.Log 1) ∷ []
unfolding u8_spelling u16_spelling u32_spelling u64_spelling i64_spelling i32_spelling list ascending text_code short_text_code hash_code id_code element_code key_code moment_code kind_code entry_code meta_code commit_code table_code namespace_code of_table of_namespace content_code emptied_fault changes_of op_fault judge entries commit_bytes content_bytes with_commit with_content expired_keys given_ops given_request request_commit commit_opening needs_commit_room step_commit needs_contents step_create step_assign step_delete history references_page answer_reference answer_entries history_item answer_history answer_contents answer_content entry_made attempt script
a_full_log = refl

abbrev names : Session → List (List ℕ)
names s = map (λ r. r.name) s.book.state.references

names_ascend : names (after empty (create (codes "b") Branch (from_branch main) ∷ create (codes "z") Tag (from_branch main) ∷ create (codes "a") Branch (from_branch main) ∷ delete (codes "z") None None ∷ [])) ≡ codes "a" ∷ codes "b" ∷ main ∷ []
unfolding u8_spelling u16_spelling u32_spelling u64_spelling i64_spelling i32_spelling list ascending text_code short_text_code hash_code id_code element_code key_code moment_code kind_code entry_code meta_code commit_code table_code namespace_code of_table of_namespace content_code emptied_fault changes_of op_fault judge entries commit_bytes content_bytes with_commit with_content expired_keys given_ops given_request request_commit commit_opening needs_commit_room step_commit needs_contents step_create step_assign step_delete history references_page answer_reference answer_entries history_item answer_history answer_contents answer_content entry_made attempt script
names_ascend = refl

-- an entry's place, draft, moment and head
abbrev shape : LogEntry → ℕ × (ℕ × (ℕ × Option Hash))
shape e = (e.place, (e.draft, (e.moment, e.head)))

-- the kind that is logged of a source
abbrev source_kind : Command → Option Kind
source_kind (commands.Create c) = c.source_kind
source_kind (commands.Assign c) = c.source_kind
source_kind (commands.Delete c) = None
source_kind (commands.Commit c) = None
source_kind (commands.Merge m) = None
source_kind (commands.Transplant t) = None

abbrev kind_logged : Action → Option Kind
kind_logged (actions.Call command) = source_kind command
kind_logged (actions.Sweep s) = None

abbrev logged : List LogEntry
logged = (script quick 7 clock one (create dev Branch (from_branch main) ∷ create dev Branch (from_branch main) ∷ assign dev None None (from_branch main) ∷ delete dev None None ∷ put_new None t2 m1 ∷ [])).logged

moves_open_no_drafts : map shape logged
    ≡ (2, (0, (2000000, Some (head one)))) ∷ (3, (0, (4000000, Some (head one)))) ∷ (4, (0, (5000000, None))) ∷ (5, (2, (6000000, Some (head (after one (create dev Branch (from_branch main) ∷ create dev Branch (from_branch main) ∷ assign dev None None (from_branch main) ∷ delete dev None None ∷ put_new None t2 m1 ∷ [])))))) ∷ []
unfolding u8_spelling u16_spelling u32_spelling u64_spelling i64_spelling i32_spelling list ascending text_code short_text_code hash_code id_code element_code key_code moment_code kind_code entry_code meta_code commit_code table_code namespace_code of_table of_namespace content_code emptied_fault changes_of op_fault judge entries commit_bytes content_bytes with_commit with_content expired_keys given_ops given_request request_commit commit_opening needs_commit_room step_commit needs_contents step_create step_assign step_delete history references_page answer_reference answer_entries history_item answer_history answer_contents answer_content entry_made attempt script
moves_open_no_drafts = refl

the_kind_of_a_source_is_not_logged : map (λ e. kind_logged e.action) logged ≡ None ∷ None ∷ None ∷ None ∷ []
unfolding u8_spelling u16_spelling u32_spelling u64_spelling i64_spelling i32_spelling list ascending text_code short_text_code hash_code id_code element_code key_code moment_code kind_code entry_code meta_code commit_code table_code namespace_code of_table of_namespace content_code emptied_fault changes_of op_fault judge entries commit_bytes content_bytes with_commit with_content expired_keys given_ops given_request request_commit commit_opening needs_commit_room step_commit needs_contents step_create step_assign step_delete history references_page answer_reference answer_entries history_item answer_history answer_contents answer_content entry_made attempt script
the_kind_of_a_source_is_not_logged = refl
