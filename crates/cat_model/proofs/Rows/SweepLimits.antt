-- Worked cases of sweeps that meet a limit, of all that a sweep brings, and of the books that it leads to.
use Rattle.std.specs.Prelude.{◌≡◌, refl, ℕ, List, [], ◌∷◌, ◌++◌, Some, None, Ok, Err, codes, map}
use Rattle.cat_codes.specs.Code.{u8_spelling, u16_spelling, u32_spelling, u64_spelling, i64_spelling, i32_spelling, list, ascending}
use Rattle.cat_codes.specs.Texts.{text_code, short_text_code}
use Rattle.cat_names.specs.Fields.{hash_code, id_code, element_code, key_code}
use Rattle.cat_names.specs.declared.hash.Hash.{Hash}
use Rattle.cat_model.specs.Formats.{moment_code, kind_code, entry_code, meta_code, commit_code}
use Rattle.cat_model.specs.Contents.{table_code, namespace_code, of_table, of_namespace, content_code}
use Rattle.cat_model.specs.Namespaces.{emptied_fault}
use Rattle.cat_model.specs.Judge.{changes_of, op_fault, judge}
use Rattle.cat_model.specs.Chain.{entries}
use Rattle.cat_model.specs.Records.{commit_bytes, content_bytes, with_commit, with_content, expired_keys}
use Rattle.cat_model.specs.Commits.{given_ops, given_request, request_commit, commit_opening, needs_commit_room, step_commit}
use Rattle.cat_model.specs.Moves.{needs_contents, step_create, step_assign, step_delete}
use Rattle.cat_model.specs.Cutoffs.{live_from, live}
use Rattle.cat_model.specs.Drafts.{Names, no_names}
use Rattle.cat_model.specs.State.{State, first_state}
use Rattle.cat_model.specs.Calls.{Called, attempt, entry_made}
use Rattle.cat_model.specs.Requests.{Session}
use Rattle.cat_model.specs.Book.{Book, after_call}
use Rattle.cat_model.specs.Sweeps.{live_since, saved, kept_contents, removed_contents, needs_sweep_room, step_sweep, sweep_entry, sweep_call}
use Rattle.cat_model.specs.Past.{Course, course, past_of}
use Rattle.cat_model.specs.Limits.{program_limits}
use Rattle.cat_model.specs.declared.cutoff.Cutoff.TheVariants as cutoffs
use Rattle.cat_model.specs.declared.limits.Limits.{Limits}
use Rattle.cat_model.specs.declared.limits.Quantity.TheVariants as quantities
use Rattle.cat_model.specs.declared.log_entry.Action.TheVariants as actions
use Rattle.cat_model.specs.declared.reference.Kind.TheVariants.{Tag}
use Rattle.cat_model.specs.declared.refusal.Refusal.TheVariants.{Limit}
use Rattle.cat_model.specs.declared.reply.Reply.TheVariants as replies
use Rattle.cat_model.specs.declared.sweep.Sweep.{Sweep}
use Rattle.cat_model.proofs.Rows.Script.{script}
use Rattle.cat_model.proofs.Rows.Words.{Request, Short, quick, main, create, delete, from_hash, after, head, not, short, m1, empty, ample}
use Rattle.cat_model.proofs.Rows.Sweeping.{held, m2, m3, first_three, c1, c2, c3, three, sweep, always, heads, swept_on, left_in, sweeps, swept, naming}

-- ---- limits

abbrev limited_by : Limits → Course
limited_by limits = record three { state = record three.state { limits = limits } }

abbrev two_names : Sweep
two_names = naming (c2 ∷ []) ((held m1).0 ∷ [])

all_stays : Short → Short × List (List ℕ)
all_stays why = (why, m3 ∷ m2 ∷ m1 ∷ [])

a_full_log_comes_first : sweeps (limited_by (record ample { log = 3; names = 1 })) two_names ≡ (not (Some 3) (Limit quantities.Log 3), m3 ∷ m2 ∷ m1 ∷ [])
unfolding u8_spelling u16_spelling u32_spelling u64_spelling i64_spelling i32_spelling list ascending text_code short_text_code hash_code id_code element_code key_code moment_code kind_code entry_code meta_code commit_code table_code namespace_code of_table of_namespace content_code emptied_fault changes_of op_fault judge entries commit_bytes content_bytes with_commit with_content expired_keys given_ops given_request request_commit commit_opening needs_commit_room step_commit needs_contents step_create step_assign step_delete entry_made attempt script live_from live live_since saved kept_contents removed_contents needs_sweep_room step_sweep sweep_entry sweep_call past_of
a_full_log_comes_first = refl

too_many_names : sweeps (limited_by (record ample { log = 4; names = 1 })) two_names ≡ (not (Some 3) (Limit quantities.Names 1), m3 ∷ m2 ∷ m1 ∷ [])
unfolding u8_spelling u16_spelling u32_spelling u64_spelling i64_spelling i32_spelling list ascending text_code short_text_code hash_code id_code element_code key_code moment_code kind_code entry_code meta_code commit_code table_code namespace_code of_table of_namespace content_code emptied_fault changes_of op_fault judge entries commit_bytes content_bytes with_commit with_content expired_keys given_ops given_request request_commit commit_opening needs_commit_room step_commit needs_contents step_create step_assign step_delete entry_made attempt script live_from live live_since saved kept_contents removed_contents needs_sweep_room step_sweep sweep_entry sweep_call past_of
too_many_names = refl

as_many_names_as_may_be : sweeps (limited_by (record ample { log = 4; names = 2 })) two_names ≡ (swept 4 3 3 0, m3 ∷ m2 ∷ m1 ∷ [])
unfolding u8_spelling u16_spelling u32_spelling u64_spelling i64_spelling i32_spelling list ascending text_code short_text_code hash_code id_code element_code key_code moment_code kind_code entry_code meta_code commit_code table_code namespace_code of_table of_namespace content_code emptied_fault changes_of op_fault judge entries commit_bytes content_bytes with_commit with_content expired_keys given_ops given_request request_commit commit_opening needs_commit_room step_commit needs_contents step_create step_assign step_delete entry_made attempt script live_from live live_since saved kept_contents removed_contents needs_sweep_room step_sweep sweep_entry sweep_call past_of
as_many_names_as_may_be = refl

one_name : sweeps (limited_by (record ample { names = 1 })) (naming [] ((held m2).0 ∷ [])) ≡ (swept 4 3 2 1, m3 ∷ m2 ∷ [])
unfolding u8_spelling u16_spelling u32_spelling u64_spelling i64_spelling i32_spelling list ascending text_code short_text_code hash_code id_code element_code key_code moment_code kind_code entry_code meta_code commit_code table_code namespace_code of_table of_namespace content_code emptied_fault changes_of op_fault judge entries commit_bytes content_bytes with_commit with_content expired_keys given_ops given_request request_commit commit_opening needs_commit_room step_commit needs_contents step_create step_assign step_delete entry_made attempt script live_from live live_since saved kept_contents removed_contents needs_sweep_room step_sweep sweep_entry sweep_call past_of
one_name = refl

two_commits_are_two_names : sweeps (limited_by (record ample { names = 1 })) (naming (c1 ∷ c2 ∷ []) []) ≡ (not (Some 3) (Limit quantities.Names 1), m3 ∷ m2 ∷ m1 ∷ [])
unfolding u8_spelling u16_spelling u32_spelling u64_spelling i64_spelling i32_spelling list ascending text_code short_text_code hash_code id_code element_code key_code moment_code kind_code entry_code meta_code commit_code table_code namespace_code of_table of_namespace content_code emptied_fault changes_of op_fault judge entries commit_bytes content_bytes with_commit with_content expired_keys given_ops given_request request_commit commit_opening needs_commit_room step_commit needs_contents step_create step_assign step_delete entry_made attempt script live_from live live_since saved kept_contents removed_contents needs_sweep_room step_sweep sweep_entry sweep_call past_of
two_commits_are_two_names = refl

two_contents_are_two_names : sweeps (limited_by (record ample { names = 1 })) (naming [] ((held m1).0 ∷ (held m2).0 ∷ [])) ≡ (not (Some 3) (Limit quantities.Names 1), m3 ∷ m2 ∷ m1 ∷ [])
unfolding u8_spelling u16_spelling u32_spelling u64_spelling i64_spelling i32_spelling list ascending text_code short_text_code hash_code id_code element_code key_code moment_code kind_code entry_code meta_code commit_code table_code namespace_code of_table of_namespace content_code emptied_fault changes_of op_fault judge entries commit_bytes content_bytes with_commit with_content expired_keys given_ops given_request request_commit commit_opening needs_commit_room step_commit needs_contents step_create step_assign step_delete entry_made attempt script live_from live live_since saved kept_contents removed_contents needs_sweep_room step_sweep sweep_entry sweep_call past_of
two_contents_are_two_names = refl

-- ---- all that a sweep brings

abbrev full : Course
full = limited_by (record ample { log = 3 })

what_a_sweep_brings : swept_on three (naming [] ((held m1).0 ∷ [])) ≡ record {
  said = Ok (record { place = 4; reply = replies.Swept (record { kept = 2; opened = 3; removed = 1 }) });
  logged = record { place = 4; caller = 7; draft = 0; moment = 9; action = actions.Sweep (naming [] ((held m1).0 ∷ [])); head = None } ∷ [];
  state = record three.state { place = 4; present = held m3 ∷ held m1 ∷ [] };
  draft = 5;
}
unfolding u8_spelling u16_spelling u32_spelling u64_spelling i64_spelling i32_spelling list ascending text_code short_text_code hash_code id_code element_code key_code moment_code kind_code entry_code meta_code commit_code table_code namespace_code of_table of_namespace content_code emptied_fault changes_of op_fault judge entries commit_bytes content_bytes with_commit with_content expired_keys given_ops given_request request_commit commit_opening needs_commit_room step_commit needs_contents step_create step_assign step_delete entry_made attempt script live_from live live_since saved kept_contents removed_contents needs_sweep_room step_sweep sweep_entry sweep_call past_of
what_a_sweep_brings = refl

what_a_refused_sweep_brings : swept_on full two_names ≡ record {
  said = Err (record { place = Some 3; why = Limit quantities.Log 3 });
  logged = [];
  state = full.state;
  draft = 5;
}
unfolding u8_spelling u16_spelling u32_spelling u64_spelling i64_spelling i32_spelling list ascending text_code short_text_code hash_code id_code element_code key_code moment_code kind_code entry_code meta_code commit_code table_code namespace_code of_table of_namespace content_code emptied_fault changes_of op_fault judge entries commit_bytes content_bytes with_commit with_content expired_keys given_ops given_request request_commit commit_opening needs_commit_room step_commit needs_contents step_create step_assign step_delete entry_made attempt script live_from live live_since saved kept_contents removed_contents needs_sweep_room step_sweep sweep_entry sweep_call past_of
what_a_refused_sweep_brings = refl

-- ---- books

-- a session whose book starts from its state
abbrev started : Session → Session
started s = record s { book = record s.book { log = []; base = s.book.state } }

-- the book of these requests after these ones, whose entries it doesn't have
abbrev book_from : List Request → List Request → Book
book_from earlier requests = (after (started (after empty earlier)) requests).book

abbrev swept_in : Book → Sweep → Called
swept_in book s = sweep_call 7 book.state (past_of quick book) book.draft 9 s

abbrev sweeps_in : Book → Sweep → Short × List (List ℕ)
sweeps_in book s = (short (swept_in book s).said, left_in (swept_in book s).state)

abbrev places : Book → List ℕ
places book = map (λ s. s.place) (past_of quick book)

-- a tag at the second commit, made by the fourth entry and removed by the fifth
abbrev pub kept_for_a_while : List Request
kept_for_a_while = create (codes "keep") Tag (from_hash c2) ∷ delete (codes "keep") None None ∷ []

abbrev before_sweeps : Book
before_sweeps = book_from [] (first_three ++ kept_for_a_while)

-- opened before the tag was removed
abbrev first_sweep : Sweep
first_sweep = sweep 4 heads no_names

abbrev once_swept : Book
once_swept = after_call before_sweeps (swept_in before_sweeps first_sweep)

places_before_a_sweep : places before_sweeps ≡ 4 ∷ 3 ∷ 2 ∷ 1 ∷ 0 ∷ []
unfolding u8_spelling u16_spelling u32_spelling u64_spelling i64_spelling i32_spelling list ascending text_code short_text_code hash_code id_code element_code key_code moment_code kind_code entry_code meta_code commit_code table_code namespace_code of_table of_namespace content_code emptied_fault changes_of op_fault judge entries commit_bytes content_bytes with_commit with_content expired_keys given_ops given_request request_commit commit_opening needs_commit_room step_commit needs_contents step_create step_assign step_delete entry_made attempt script live_from live live_since saved kept_contents removed_contents needs_sweep_room step_sweep sweep_entry sweep_call past_of
places_before_a_sweep = refl

places_after_a_sweep : places once_swept ≡ 5 ∷ 4 ∷ 3 ∷ 2 ∷ 1 ∷ 0 ∷ []
unfolding u8_spelling u16_spelling u32_spelling u64_spelling i64_spelling i32_spelling list ascending text_code short_text_code hash_code id_code element_code key_code moment_code kind_code entry_code meta_code commit_code table_code namespace_code of_table of_namespace content_code emptied_fault changes_of op_fault judge entries commit_bytes content_bytes with_commit with_content expired_keys given_ops given_request request_commit commit_opening needs_commit_room step_commit needs_contents step_create step_assign step_delete entry_made attempt script live_from live live_since saved kept_contents removed_contents needs_sweep_room step_sweep sweep_entry sweep_call past_of
places_after_a_sweep = refl

-- the place of a state, the heads of its references, its commits, and its locations
abbrev shape : State → ℕ × (List (List ℕ × Hash) × (List Hash × List (List ℕ)))
shape state = (state.place, (map (λ r. (r.name, r.head)) state.references, (map (λ x. x.0) state.commits, left_in state)))

entries_lead_to_the_state : shape (course quick (first_state quick program_limits) once_swept.log).state ≡ (6, ((main, c3) ∷ [], (c3 ∷ c2 ∷ c1 ∷ [], m3 ∷ m2 ∷ [])))
unfolding u8_spelling u16_spelling u32_spelling u64_spelling i64_spelling i32_spelling list ascending text_code short_text_code hash_code id_code element_code key_code moment_code kind_code entry_code meta_code commit_code table_code namespace_code of_table of_namespace content_code emptied_fault changes_of op_fault judge entries commit_bytes content_bytes with_commit with_content expired_keys given_ops given_request request_commit commit_opening needs_commit_room step_commit needs_contents step_create step_assign step_delete entry_made attempt script live_from live live_since saved kept_contents removed_contents needs_sweep_room step_sweep sweep_entry sweep_call past_of
entries_lead_to_the_state = refl

the_first_sweep : sweeps_in before_sweeps first_sweep ≡ (swept 6 4 2 1, m3 ∷ m2 ∷ [])
unfolding u8_spelling u16_spelling u32_spelling u64_spelling i64_spelling i32_spelling list ascending text_code short_text_code hash_code id_code element_code key_code moment_code kind_code entry_code meta_code commit_code table_code namespace_code of_table of_namespace content_code emptied_fault changes_of op_fault judge entries commit_bytes content_bytes with_commit with_content expired_keys given_ops given_request request_commit commit_opening needs_commit_room step_commit needs_contents step_create step_assign step_delete entry_made attempt script live_from live live_since saved kept_contents removed_contents needs_sweep_room step_sweep sweep_entry sweep_call past_of
the_first_sweep = refl

-- opened before the first one's entry
a_second_sweep : sweeps_in once_swept (sweep 4 heads no_names) ≡ (swept 7 4 2 0, m3 ∷ m2 ∷ [])
unfolding u8_spelling u16_spelling u32_spelling u64_spelling i64_spelling i32_spelling list ascending text_code short_text_code hash_code id_code element_code key_code moment_code kind_code entry_code meta_code commit_code table_code namespace_code of_table of_namespace content_code emptied_fault changes_of op_fault judge entries commit_bytes content_bytes with_commit with_content expired_keys given_ops given_request request_commit commit_opening needs_commit_room step_commit needs_contents step_create step_assign step_delete entry_made attempt script live_from live live_since saved kept_contents removed_contents needs_sweep_room step_sweep sweep_entry sweep_call past_of
a_second_sweep = refl

a_second_sweep_after_the_first : sweeps_in once_swept (sweep 6 heads no_names) ≡ (swept 7 6 1 1, m3 ∷ [])
unfolding u8_spelling u16_spelling u32_spelling u64_spelling i64_spelling i32_spelling list ascending text_code short_text_code hash_code id_code element_code key_code moment_code kind_code entry_code meta_code commit_code table_code namespace_code of_table of_namespace content_code emptied_fault changes_of op_fault judge entries commit_bytes content_bytes with_commit with_content expired_keys given_ops given_request request_commit commit_opening needs_commit_room step_commit needs_contents step_create step_assign step_delete entry_made attempt script live_from live live_since saved kept_contents removed_contents needs_sweep_room step_sweep sweep_entry sweep_call past_of
a_second_sweep_after_the_first = refl

-- neither names nor longer cutoffs bring them back
what_was_removed_stays_so : sweeps_in once_swept (sweep 1 (always cutoffs.All) (record { commits = c1 ∷ []; contents = (held m1).0 ∷ [] })) ≡ (swept 7 1 2 0, m3 ∷ m2 ∷ [])
unfolding u8_spelling u16_spelling u32_spelling u64_spelling i64_spelling i32_spelling list ascending text_code short_text_code hash_code id_code element_code key_code moment_code kind_code entry_code meta_code commit_code table_code namespace_code of_table of_namespace content_code emptied_fault changes_of op_fault judge entries commit_bytes content_bytes with_commit with_content expired_keys given_ops given_request request_commit commit_opening needs_commit_room step_commit needs_contents step_create step_assign step_delete entry_made attempt script live_from live live_since saved kept_contents removed_contents needs_sweep_room step_sweep sweep_entry sweep_call past_of
what_was_removed_stays_so = refl

contents_after_each_entry : map left_in (past_of quick (after_call once_swept (swept_in once_swept (sweep 6 heads no_names)))) ≡ (m3 ∷ m2 ∷ []) ∷ (m3 ∷ m2 ∷ m1 ∷ []) ∷ (m3 ∷ m2 ∷ m1 ∷ []) ∷ (m3 ∷ m2 ∷ m1 ∷ []) ∷ (m2 ∷ m1 ∷ []) ∷ (m1 ∷ []) ∷ [] ∷ []
unfolding u8_spelling u16_spelling u32_spelling u64_spelling i64_spelling i32_spelling list ascending text_code short_text_code hash_code id_code element_code key_code moment_code kind_code entry_code meta_code commit_code table_code namespace_code of_table of_namespace content_code emptied_fault changes_of op_fault judge entries commit_bytes content_bytes with_commit with_content expired_keys given_ops given_request request_commit commit_opening needs_commit_room step_commit needs_contents step_create step_assign step_delete entry_made attempt script live_from live live_since saved kept_contents removed_contents needs_sweep_room step_sweep sweep_entry sweep_call past_of
contents_after_each_entry = refl

-- the first three entries are no longer there
a_book_from_a_later_state : places (book_from first_three kept_for_a_while) ≡ 4 ∷ 3 ∷ []
unfolding u8_spelling u16_spelling u32_spelling u64_spelling i64_spelling i32_spelling list ascending text_code short_text_code hash_code id_code element_code key_code moment_code kind_code entry_code meta_code commit_code table_code namespace_code of_table of_namespace content_code emptied_fault changes_of op_fault judge entries commit_bytes content_bytes with_commit with_content expired_keys given_ops given_request request_commit commit_opening needs_commit_room step_commit needs_contents step_create step_assign step_delete entry_made attempt script live_from live live_since saved kept_contents removed_contents needs_sweep_room step_sweep sweep_entry sweep_call past_of
a_book_from_a_later_state = refl

a_book_without_entries : places (book_from first_three []) ≡ []
unfolding u8_spelling u16_spelling u32_spelling u64_spelling i64_spelling i32_spelling list ascending text_code short_text_code hash_code id_code element_code key_code moment_code kind_code entry_code meta_code commit_code table_code namespace_code of_table of_namespace content_code emptied_fault changes_of op_fault judge entries commit_bytes content_bytes with_commit with_content expired_keys given_ops given_request request_commit commit_opening needs_commit_room step_commit needs_contents step_create step_assign step_delete entry_made attempt script live_from live live_since saved kept_contents removed_contents needs_sweep_room step_sweep sweep_entry sweep_call past_of
a_book_without_entries = refl
