-- Worked cases of collections as requests of a session.
use Rattle.std.specs.Prelude.{◌≡◌, refl, ℕ, ◌-◌, List, [], ◌∷◌, ◌++◌, Some, None, Ok, Err, codes}
use Rattle.cat_codes.specs.Code.{u8_spelling, u16_spelling, u32_spelling, u64_spelling, i64_spelling, i32_spelling, list, ascending}
use Rattle.cat_codes.specs.Texts.{text_code, short_text_code}
use Rattle.cat_names.specs.Fields.{hash_code, id_code, element_code, key_code}
use Rattle.cat_model.specs.Formats.{moment_code, kind_code, entry_code, meta_code, commit_code}
use Rattle.cat_model.specs.Contents.{table_code, namespace_code, of_table, of_namespace, content_code}
use Rattle.cat_model.specs.Namespaces.{emptied_fault}
use Rattle.cat_model.specs.Judge.{changes_of, op_fault, judge}
use Rattle.cat_model.specs.Chain.{entries}
use Rattle.cat_model.specs.Records.{commit_bytes, content_bytes, with_commit, with_content, expired_keys}
use Rattle.cat_model.specs.Commits.{given_ops, given_request, request_commit, commit_opening, needs_commit_room, step_commit}
use Rattle.cat_model.specs.Moves.{needs_contents, step_create, step_assign, step_delete}
use Rattle.cat_model.specs.Answer.{answer_content}
use Rattle.cat_model.specs.Cutoffs.{live_from, live}
use Rattle.cat_model.specs.Calls.{attempt, entry_made}
use Rattle.cat_model.specs.Requests.{Session, Brought, Collect, request}
use Rattle.cat_model.specs.Sweeps.{live_since, saved, kept_contents, removed_contents, needs_sweep_room, step_sweep, sweep_entry, sweep_call}
use Rattle.cat_model.specs.Past.{past_of}
use Rattle.cat_model.specs.declared.cutoff.Cutoff.TheVariants as cutoffs
use Rattle.cat_model.specs.declared.cutoff.Resolved.{Resolved}
use Rattle.cat_model.specs.declared.limits.Quantity.TheVariants as quantities
use Rattle.cat_model.specs.declared.log_entry.Action.TheVariants as actions
use Rattle.cat_model.specs.declared.log_entry.LogEntry.{LogEntry}
use Rattle.cat_model.specs.declared.reference.Kind.TheVariants.{Branch, Tag}
use Rattle.cat_model.specs.declared.refusal.Refusal.TheVariants.{ContentNotFound, Expired, Limit}
use Rattle.cat_model.specs.declared.refusal.Missing.TheVariants as missing
use Rattle.cat_model.specs.declared.reply.Reply.TheVariants as replies
use Rattle.cat_model.proofs.Rows.Script.{script}
use Rattle.cat_model.proofs.Rows.Words.{Request, Short, quick, clock, main, dev, create, from_hash, read, after, said, done, gives, stands, not, t1, m1, empty, limited, ample}
use Rattle.cat_model.proofs.Rows.Sweeping.{always, c1, c2, first_three, heads, held, left_in, m2, m3, main_by_two, swept}
use Rattle.cat_model.proofs.Rows.SweepLimits.{kept_for_a_while}

-- ---- words

abbrev collect : Resolved → Request
collect policy = Ok (Collect (λ moment. policy))

-- a session after three commits of one key
abbrev three : Session
three = after empty first_three

-- what requests are told, and the locations that they leave
abbrev brings : Session → List Request → List Short × List (List ℕ)
brings s requests = (said s requests, left_in (after s requests).book.state)

one_commit_is_kept : brings three (collect heads ∷ []) ≡ (swept 4 3 1 2 ∷ [], m3 ∷ [])
unfolding u8_spelling u16_spelling u32_spelling u64_spelling i64_spelling i32_spelling list ascending text_code short_text_code hash_code id_code element_code key_code moment_code kind_code entry_code meta_code commit_code table_code namespace_code of_table of_namespace content_code emptied_fault changes_of op_fault judge entries commit_bytes content_bytes with_commit with_content expired_keys given_ops given_request request_commit commit_opening needs_commit_room step_commit needs_contents step_create step_assign step_delete answer_content entry_made attempt script live_from live live_since saved kept_contents removed_contents needs_sweep_room step_sweep sweep_entry sweep_call past_of
one_commit_is_kept = refl

two_commits_are_kept : brings three (collect main_by_two ∷ []) ≡ (swept 4 3 2 1 ∷ [], m3 ∷ m2 ∷ [])
unfolding u8_spelling u16_spelling u32_spelling u64_spelling i64_spelling i32_spelling list ascending text_code short_text_code hash_code id_code element_code key_code moment_code kind_code entry_code meta_code commit_code table_code namespace_code of_table of_namespace content_code emptied_fault changes_of op_fault judge entries commit_bytes content_bytes with_commit with_content expired_keys given_ops given_request request_commit commit_opening needs_commit_room step_commit needs_contents step_create step_assign step_delete answer_content entry_made attempt script live_from live live_since saved kept_contents removed_contents needs_sweep_room step_sweep sweep_entry sweep_call past_of
two_commits_are_kept = refl

all_is_kept : brings three (collect (always cutoffs.All) ∷ []) ≡ (swept 4 3 3 0 ∷ [], m3 ∷ m2 ∷ m1 ∷ [])
unfolding u8_spelling u16_spelling u32_spelling u64_spelling i64_spelling i32_spelling list ascending text_code short_text_code hash_code id_code element_code key_code moment_code kind_code entry_code meta_code commit_code table_code namespace_code of_table of_namespace content_code emptied_fault changes_of op_fault judge entries commit_bytes content_bytes with_commit with_content expired_keys given_ops given_request request_commit commit_opening needs_commit_room step_commit needs_contents step_create step_assign step_delete answer_content entry_made attempt script live_from live live_since saved kept_contents removed_contents needs_sweep_room step_sweep sweep_entry sweep_call past_of
all_is_kept = refl

nothing_is_there : brings empty (collect heads ∷ []) ≡ (swept 1 0 0 0 ∷ [], [])
unfolding u8_spelling u16_spelling u32_spelling u64_spelling i64_spelling i32_spelling list ascending text_code short_text_code hash_code id_code element_code key_code moment_code kind_code entry_code meta_code commit_code table_code namespace_code of_table of_namespace content_code emptied_fault changes_of op_fault judge entries commit_bytes content_bytes with_commit with_content expired_keys given_ops given_request request_commit commit_opening needs_commit_room step_commit needs_contents step_create step_assign step_delete answer_content entry_made attempt script live_from live live_since saved kept_contents removed_contents needs_sweep_room step_sweep sweep_entry sweep_call past_of
nothing_is_there = refl

requests_before_it : said empty (first_three ++ collect heads ∷ []) ≡ done 1 ∷ done 2 ∷ done 3 ∷ swept 4 3 1 2 ∷ []
unfolding u8_spelling u16_spelling u32_spelling u64_spelling i64_spelling i32_spelling list ascending text_code short_text_code hash_code id_code element_code key_code moment_code kind_code entry_code meta_code commit_code table_code namespace_code of_table of_namespace content_code emptied_fault changes_of op_fault judge entries commit_bytes content_bytes with_commit with_content expired_keys given_ops given_request request_commit commit_opening needs_commit_room step_commit needs_contents step_create step_assign step_delete answer_content entry_made attempt script live_from live live_since saved kept_contents removed_contents needs_sweep_room step_sweep sweep_entry sweep_call past_of
requests_before_it = refl

what_was_removed_is_expired : said three (collect heads ∷ read (Some main) (Some c1) t1 ∷ read (Some main) (Some c2) t1 ∷ read (Some main) None t1 ∷ []) ≡ swept 4 3 1 2 ∷ not (Some 4) (ContentNotFound missing.Expired) ∷ not (Some 4) (ContentNotFound missing.Expired) ∷ gives 4 m3 ∷ []
unfolding u8_spelling u16_spelling u32_spelling u64_spelling i64_spelling i32_spelling list ascending text_code short_text_code hash_code id_code element_code key_code moment_code kind_code entry_code meta_code commit_code table_code namespace_code of_table of_namespace content_code emptied_fault changes_of op_fault judge entries commit_bytes content_bytes with_commit with_content expired_keys given_ops given_request request_commit commit_opening needs_commit_room step_commit needs_contents step_create step_assign step_delete answer_content entry_made attempt script live_from live live_since saved kept_contents removed_contents needs_sweep_room step_sweep sweep_entry sweep_call past_of
what_was_removed_is_expired = refl

no_branch_shows_what_was_removed : said three (collect heads ∷ create dev Branch (from_hash c1) ∷ []) ≡ swept 4 3 1 2 ∷ not (Some 4) (Expired (t1 ∷ []) 4) ∷ []
unfolding u8_spelling u16_spelling u32_spelling u64_spelling i64_spelling i32_spelling list ascending text_code short_text_code hash_code id_code element_code key_code moment_code kind_code entry_code meta_code commit_code table_code namespace_code of_table of_namespace content_code emptied_fault changes_of op_fault judge entries commit_bytes content_bytes with_commit with_content expired_keys given_ops given_request request_commit commit_opening needs_commit_room step_commit needs_contents step_create step_assign step_delete answer_content entry_made attempt script live_from live live_since saved kept_contents removed_contents needs_sweep_room step_sweep sweep_entry sweep_call past_of
no_branch_shows_what_was_removed = refl

-- each is opened after the entry of the one before
a_second_one : said three (collect main_by_two ∷ collect main_by_two ∷ collect heads ∷ collect (always cutoffs.All) ∷ []) ≡ swept 4 3 2 1 ∷ swept 5 4 2 0 ∷ swept 6 5 1 1 ∷ swept 7 6 1 0 ∷ []
unfolding u8_spelling u16_spelling u32_spelling u64_spelling i64_spelling i32_spelling list ascending text_code short_text_code hash_code id_code element_code key_code moment_code kind_code entry_code meta_code commit_code table_code namespace_code of_table of_namespace content_code emptied_fault changes_of op_fault judge entries commit_bytes content_bytes with_commit with_content expired_keys given_ops given_request request_commit commit_opening needs_commit_room step_commit needs_contents step_create step_assign step_delete answer_content entry_made attempt script live_from live live_since saved kept_contents removed_contents needs_sweep_room step_sweep sweep_entry sweep_call past_of
a_second_one = refl

a_tag_that_was_removed_before : brings three (kept_for_a_while ++ collect heads ∷ []) ≡ (stands 4 (codes "keep") Tag c2 ∷ stands 5 (codes "keep") Tag c2 ∷ swept 6 5 1 2 ∷ [], m3 ∷ [])
unfolding u8_spelling u16_spelling u32_spelling u64_spelling i64_spelling i32_spelling list ascending text_code short_text_code hash_code id_code element_code key_code moment_code kind_code entry_code meta_code commit_code table_code namespace_code of_table of_namespace content_code emptied_fault changes_of op_fault judge entries commit_bytes content_bytes with_commit with_content expired_keys given_ops given_request request_commit commit_opening needs_commit_room step_commit needs_contents step_create step_assign step_delete answer_content entry_made attempt script live_from live live_since saved kept_contents removed_contents needs_sweep_room step_sweep sweep_entry sweep_call past_of
a_tag_that_was_removed_before = refl

-- what is younger than two seconds: the first is at 4000000, the second at 5000000, and the second commit was made at 2000000
abbrev of_two_seconds : Request
of_two_seconds = Ok (Collect (λ moment. always (cutoffs.Since (moment - 2000000))))

a_policy_is_that_of_the_moment : said three (of_two_seconds ∷ of_two_seconds ∷ []) ≡ swept 4 3 2 1 ∷ swept 5 4 1 1 ∷ []
unfolding u8_spelling u16_spelling u32_spelling u64_spelling i64_spelling i32_spelling list ascending text_code short_text_code hash_code id_code element_code key_code moment_code kind_code entry_code meta_code commit_code table_code namespace_code of_table of_namespace content_code emptied_fault changes_of op_fault judge entries commit_bytes content_bytes with_commit with_content expired_keys given_ops given_request request_commit commit_opening needs_commit_room step_commit needs_contents step_create step_assign step_delete answer_content entry_made attempt script live_from live live_since saved kept_contents removed_contents needs_sweep_room step_sweep sweep_entry sweep_call past_of
a_policy_is_that_of_the_moment = refl

-- ---- a full log

abbrev full : Session
full = after (limited (record ample { log = 3 })) first_three

a_full_log : brings full (collect heads ∷ read (Some main) (Some c1) t1 ∷ []) ≡ (not (Some 3) (Limit quantities.Log 3) ∷ gives 3 m1 ∷ [], m3 ∷ m2 ∷ m1 ∷ [])
unfolding u8_spelling u16_spelling u32_spelling u64_spelling i64_spelling i32_spelling list ascending text_code short_text_code hash_code id_code element_code key_code moment_code kind_code entry_code meta_code commit_code table_code namespace_code of_table of_namespace content_code emptied_fault changes_of op_fault judge entries commit_bytes content_bytes with_commit with_content expired_keys given_ops given_request request_commit commit_opening needs_commit_room step_commit needs_contents step_create step_assign step_delete answer_content entry_made attempt script live_from live live_since saved kept_contents removed_contents needs_sweep_room step_sweep sweep_entry sweep_call past_of
a_full_log = refl

-- ---- all that it brings

abbrev collected : Session → Brought
collected s = request quick 7 clock s (collect heads)

abbrev entry : LogEntry
entry = record { place = 4; caller = 7; draft = 0; moment = 4000000; action = actions.Sweep (record { opened = 3; policy = heads; commits = []; contents = [] }); head = None }

what_it_brings : collected three ≡ record {
  said = Ok (record { place = 4; reply = replies.Swept (record { kept = 1; opened = 3; removed = 2 }) });
  logged = entry ∷ [];
  after = record three { book = record three.book { state = record three.book.state { place = 4; present = held m3 ∷ [] }; log = entry ∷ three.book.log }; readings = 4 };
}
unfolding u8_spelling u16_spelling u32_spelling u64_spelling i64_spelling i32_spelling list ascending text_code short_text_code hash_code id_code element_code key_code moment_code kind_code entry_code meta_code commit_code table_code namespace_code of_table of_namespace content_code emptied_fault changes_of op_fault judge entries commit_bytes content_bytes with_commit with_content expired_keys given_ops given_request request_commit commit_opening needs_commit_room step_commit needs_contents step_create step_assign step_delete answer_content entry_made attempt script live_from live live_since saved kept_contents removed_contents needs_sweep_room step_sweep sweep_entry sweep_call past_of
what_it_brings = refl

what_a_refused_one_brings : collected full ≡ record {
  said = Err (record { place = Some 3; why = Limit quantities.Log 3 });
  logged = [];
  after = record full { readings = 4 };
}
unfolding u8_spelling u16_spelling u32_spelling u64_spelling i64_spelling i32_spelling list ascending text_code short_text_code hash_code id_code element_code key_code moment_code kind_code entry_code meta_code commit_code table_code namespace_code of_table of_namespace content_code emptied_fault changes_of op_fault judge entries commit_bytes content_bytes with_commit with_content expired_keys given_ops given_request request_commit commit_opening needs_commit_room step_commit needs_contents step_create step_assign step_delete answer_content entry_made attempt script live_from live live_since saved kept_contents removed_contents needs_sweep_room step_sweep sweep_entry sweep_call past_of
what_a_refused_one_brings = refl

-- a moment is taken, and no draft number
what_it_takes : ((collected three).after.readings ≡ 4) × ((collected three).after.book.draft ≡ 3)
unfolding u8_spelling u16_spelling u32_spelling u64_spelling i64_spelling i32_spelling list ascending text_code short_text_code hash_code id_code element_code key_code moment_code kind_code entry_code meta_code commit_code table_code namespace_code of_table of_namespace content_code emptied_fault changes_of op_fault judge entries commit_bytes content_bytes with_commit with_content expired_keys given_ops given_request request_commit commit_opening needs_commit_room step_commit needs_contents step_create step_assign step_delete answer_content entry_made attempt script live_from live live_since saved kept_contents removed_contents needs_sweep_room step_sweep sweep_entry sweep_call past_of
what_it_takes = (refl, refl)
