-- Worked cases of sweeps, and of the states that a book's entries led through.
use Rattle.std.specs.Prelude.{◌≡◌, refl, ℕ, List, [], ◌∷◌, ◌++◌, None, codes, map}
use Rattle.cat_codes.specs.Code.{u8_spelling, u16_spelling, u32_spelling, u64_spelling, i64_spelling, i32_spelling, list, ascending}
use Rattle.cat_codes.specs.Texts.{text_code, short_text_code}
use Rattle.cat_names.specs.Fields.{hash_code, id_code, element_code, key_code}
use Rattle.cat_names.specs.declared.hash.Hash.{Hash}
use Rattle.cat_names.specs.declared.hash.ContentId.{ContentId}
use Rattle.cat_model.specs.Formats.{moment_code, kind_code, entry_code, meta_code, commit_code}
use Rattle.cat_model.specs.Contents.{table_code, namespace_code, of_table, of_namespace, content_code}
use Rattle.cat_model.specs.Namespaces.{emptied_fault}
use Rattle.cat_model.specs.Judge.{changes_of, op_fault, judge}
use Rattle.cat_model.specs.Chain.{entries}
use Rattle.cat_model.specs.Records.{commit_bytes, content_bytes, with_commit, with_content, expired_keys}
use Rattle.cat_model.specs.Commits.{given_ops, given_request, request_commit, commit_opening, needs_commit_room, step_commit}
use Rattle.cat_model.specs.Moves.{needs_contents, step_create, step_assign, step_delete}
use Rattle.cat_model.specs.Cutoffs.{live_from, live}
use Rattle.cat_model.specs.Drafts.{Names, no_names}
use Rattle.cat_model.specs.State.{State, first_state, fresh_id, content_hash}
use Rattle.cat_model.specs.Calls.{Called, attempt, entry_made}
use Rattle.cat_model.specs.Requests.{Session, request}
use Rattle.cat_model.specs.Sweeps.{since, live_since, saved, kept_contents, removed_contents, needs_sweep_room, step_sweep, sweep_entry, sweep_call}
use Rattle.cat_model.specs.Past.{Course, past_of}
use Rattle.cat_model.specs.Limits.{program_limits}
use Rattle.cat_model.specs.declared.content.Body.{Body}
use Rattle.cat_model.specs.declared.content.Body.TheVariants as bodies
use Rattle.cat_model.specs.declared.content.Content.{Content}
use Rattle.cat_model.specs.declared.cutoff.Cutoff.{Cutoff}
use Rattle.cat_model.specs.declared.cutoff.Cutoff.TheVariants as cutoffs
use Rattle.cat_model.specs.declared.cutoff.Pattern.{Pattern}
use Rattle.cat_model.specs.declared.cutoff.Pattern.TheVariants.{Name, Front}
use Rattle.cat_model.specs.declared.cutoff.Resolved.{Resolved}
use Rattle.cat_model.specs.declared.reference.Kind.TheVariants.{Branch, Tag}
use Rattle.cat_model.specs.declared.reply.Reply.TheVariants as replies
use Rattle.cat_model.specs.declared.sweep.Sweep.{Sweep}
use Rattle.cat_model.proofs.Rows.Script.{script}
use Rattle.cat_model.proofs.Rows.Words.{Request, Short, quick, clock, main, dev, table, put_new, put, create, assign, delete, from_hash, after, head, told, short, t1, t2, m1, empty}

-- ---- words

-- the states that accepted requests lead through
abbrev led_from : Session → List State → List Request → Course
led_from s past [] = record { state = s.book.state; past = past }
led_from s past (wants ∷ requests) = led_from (request quick 1 clock s wants).after (s.book.state ∷ past) requests

abbrev led : List Request → Course
led = led_from empty []

-- the id of the first draft's content
abbrev pub id1 : ContentId
id1 = fresh_id 1 0

-- a location of the table at t1, as it is held
abbrev pub held : List ℕ → Hash × Content
held location = (content_hash quick (table id1 location), table id1 location)

abbrev pub m2 : List ℕ
m2 = codes "m2"

abbrev pub m3 : List ℕ
m3 = codes "m3"

abbrev m4 : List ℕ
m4 = codes "m4"

abbrev first_two : List Request
first_two = put_new None t1 m1 ∷ put t1 id1 m2 ∷ []

-- three locations of one table, one after the other
abbrev pub first_three : List Request
first_three = put_new None t1 m1 ∷ put t1 id1 m2 ∷ put t1 id1 m3 ∷ []

abbrev pub c1 : Hash
c1 = head (after empty (put_new None t1 m1 ∷ []))

abbrev pub c2 : Hash
c2 = head (after empty first_two)

abbrev pub c3 : Hash
c3 = head (after empty first_three)

abbrev pub three : Course
three = led first_three

-- these and one more
abbrev followed_by : Request → Course
followed_by wants = led (first_three ++ wants ∷ [])

abbrev pub sweep : ℕ → Resolved → Names → Sweep
sweep opened policy names = record { opened = opened; policy = policy; commits = names.commits; contents = names.contents }

abbrev pub always : Cutoff → Resolved
always cutoff = record { default = cutoff; cutoffs = [] }

-- the head of each reference alone
abbrev pub heads : Resolved
heads = always (cutoffs.Commits 1)

-- by caller 7 at the moment 9, where the last draft number is 5
abbrev pub swept_on : Course → Sweep → Called
swept_on c s = sweep_call 7 c.state c.past 5 9 s

abbrev pub location_in : Body → List ℕ
location_in (bodies.IcebergTable t) = t.metadata_location
location_in _ = []

-- locations that are left, the newest first
abbrev pub left_in : State → List (List ℕ)
left_in state = map (λ x. location_in x.1.body) state.present

-- what a sweep is told, and the locations that it leaves
abbrev pub sweeps : Course → Sweep → Short × List (List ℕ)
sweeps c s = (short (swept_on c s).said, left_in (swept_on c s).state)

abbrev pub swept : ℕ → ℕ → ℕ → ℕ → Short
swept place opened kept removed = told place (replies.Swept (record { kept = kept; opened = opened; removed = removed }))

-- ---- states since an opening

abbrev at_place : ℕ → State
at_place place = record (first_state quick program_limits) { place = place }

-- places of the states since this one, of five
abbrev places_since : ℕ → List ℕ
places_since opened = map (λ s. s.place) (since opened (at_place 4) (at_place 3 ∷ at_place 2 ∷ at_place 1 ∷ at_place 0 ∷ []))

the_states_since_an_opening : map places_since (4 ∷ 3 ∷ 2 ∷ 0 ∷ []) ≡ (4 ∷ []) ∷ (4 ∷ 3 ∷ []) ∷ (4 ∷ 3 ∷ 2 ∷ []) ∷ (4 ∷ 3 ∷ 2 ∷ 1 ∷ 0 ∷ []) ∷ []
the_states_since_an_opening = refl

-- ---- cutoffs

the_head_alone : sweeps three (sweep 3 heads no_names) ≡ (swept 4 3 1 2, m3 ∷ [])
unfolding u8_spelling u16_spelling u32_spelling u64_spelling i64_spelling i32_spelling list ascending text_code short_text_code hash_code id_code element_code key_code moment_code kind_code entry_code meta_code commit_code table_code namespace_code of_table of_namespace content_code emptied_fault changes_of op_fault judge entries commit_bytes content_bytes with_commit with_content expired_keys given_ops given_request request_commit commit_opening needs_commit_room step_commit needs_contents step_create step_assign step_delete entry_made attempt script live_from live live_since saved kept_contents removed_contents needs_sweep_room step_sweep sweep_entry sweep_call past_of
the_head_alone = refl

abbrev pub main_by_two : Resolved
main_by_two = record { default = cutoffs.All; cutoffs = (Name main, cutoffs.Commits 2) ∷ [] }

two_commits : sweeps three (sweep 3 main_by_two no_names) ≡ (swept 4 3 2 1, m3 ∷ m2 ∷ [])
unfolding u8_spelling u16_spelling u32_spelling u64_spelling i64_spelling i32_spelling list ascending text_code short_text_code hash_code id_code element_code key_code moment_code kind_code entry_code meta_code commit_code table_code namespace_code of_table of_namespace content_code emptied_fault changes_of op_fault judge entries commit_bytes content_bytes with_commit with_content expired_keys given_ops given_request request_commit commit_opening needs_commit_room step_commit needs_contents step_create step_assign step_delete entry_made attempt script live_from live live_since saved kept_contents removed_contents needs_sweep_room step_sweep sweep_entry sweep_call past_of
two_commits = refl

nothing_is_removed : sweeps three (sweep 3 (always cutoffs.All) no_names) ≡ (swept 4 3 3 0, m3 ∷ m2 ∷ m1 ∷ [])
unfolding u8_spelling u16_spelling u32_spelling u64_spelling i64_spelling i32_spelling list ascending text_code short_text_code hash_code id_code element_code key_code moment_code kind_code entry_code meta_code commit_code table_code namespace_code of_table of_namespace content_code emptied_fault changes_of op_fault judge entries commit_bytes content_bytes with_commit with_content expired_keys given_ops given_request request_commit commit_opening needs_commit_room step_commit needs_contents step_create step_assign step_delete entry_made attempt script live_from live live_since saved kept_contents removed_contents needs_sweep_room step_sweep sweep_entry sweep_call past_of
nothing_is_removed = refl

-- the second commit was made at 2000000
at_the_time_of_a_commit : sweeps three (sweep 3 (always (cutoffs.Since 2000000)) no_names) ≡ (swept 4 3 2 1, m3 ∷ m2 ∷ [])
unfolding u8_spelling u16_spelling u32_spelling u64_spelling i64_spelling i32_spelling list ascending text_code short_text_code hash_code id_code element_code key_code moment_code kind_code entry_code meta_code commit_code table_code namespace_code of_table of_namespace content_code emptied_fault changes_of op_fault judge entries commit_bytes content_bytes with_commit with_content expired_keys given_ops given_request request_commit commit_opening needs_commit_room step_commit needs_contents step_create step_assign step_delete entry_made attempt script live_from live live_since saved kept_contents removed_contents needs_sweep_room step_sweep sweep_entry sweep_call past_of
at_the_time_of_a_commit = refl

one_microsecond_after_it : sweeps three (sweep 3 (always (cutoffs.Since 2000001)) no_names) ≡ (swept 4 3 1 2, m3 ∷ [])
unfolding u8_spelling u16_spelling u32_spelling u64_spelling i64_spelling i32_spelling list ascending text_code short_text_code hash_code id_code element_code key_code moment_code kind_code entry_code meta_code commit_code table_code namespace_code of_table of_namespace content_code emptied_fault changes_of op_fault judge entries commit_bytes content_bytes with_commit with_content expired_keys given_ops given_request request_commit commit_opening needs_commit_room step_commit needs_contents step_create step_assign step_delete entry_made attempt script live_from live live_since saved kept_contents removed_contents needs_sweep_room step_sweep sweep_entry sweep_call past_of
one_microsecond_after_it = refl

one_microsecond_before_it : sweeps three (sweep 3 (always (cutoffs.Since 1999999)) no_names) ≡ (swept 4 3 2 1, m3 ∷ m2 ∷ [])
unfolding u8_spelling u16_spelling u32_spelling u64_spelling i64_spelling i32_spelling list ascending text_code short_text_code hash_code id_code element_code key_code moment_code kind_code entry_code meta_code commit_code table_code namespace_code of_table of_namespace content_code emptied_fault changes_of op_fault judge entries commit_bytes content_bytes with_commit with_content expired_keys given_ops given_request request_commit commit_opening needs_commit_room step_commit needs_contents step_create step_assign step_delete entry_made attempt script live_from live live_since saved kept_contents removed_contents needs_sweep_room step_sweep sweep_entry sweep_call past_of
one_microsecond_before_it = refl

-- of an empty catalogue
nothing_is_there : sweeps (led []) (sweep 0 heads no_names) ≡ (swept 1 0 0 0, [])
unfolding u8_spelling u16_spelling u32_spelling u64_spelling i64_spelling i32_spelling list ascending text_code short_text_code hash_code id_code element_code key_code moment_code kind_code entry_code meta_code commit_code table_code namespace_code of_table of_namespace content_code emptied_fault changes_of op_fault judge entries commit_bytes content_bytes with_commit with_content expired_keys given_ops given_request request_commit commit_opening needs_commit_room step_commit needs_contents step_create step_assign step_delete entry_made attempt script live_from live live_since saved kept_contents removed_contents needs_sweep_room step_sweep sweep_entry sweep_call past_of
nothing_is_there = refl

-- a head shows more than its commit put
abbrev two_tables : Course
two_tables = led (put_new None t1 m1 ∷ put_new None t2 m2 ∷ put t1 id1 m3 ∷ [])

what_older_commits_put_is_visible : sweeps two_tables (sweep 3 heads no_names) ≡ (swept 4 3 2 1, m3 ∷ m2 ∷ [])
unfolding u8_spelling u16_spelling u32_spelling u64_spelling i64_spelling i32_spelling list ascending text_code short_text_code hash_code id_code element_code key_code moment_code kind_code entry_code meta_code commit_code table_code namespace_code of_table of_namespace content_code emptied_fault changes_of op_fault judge entries commit_bytes content_bytes with_commit with_content expired_keys given_ops given_request request_commit commit_opening needs_commit_room step_commit needs_contents step_create step_assign step_delete entry_made attempt script live_from live live_since saved kept_contents removed_contents needs_sweep_room step_sweep sweep_entry sweep_call past_of
what_older_commits_put_is_visible = refl

-- ---- several references

-- dev at the first commit
the_heads_of_two_references : sweeps (followed_by (create dev Branch (from_hash c1))) (sweep 4 heads no_names) ≡ (swept 5 4 2 1, m3 ∷ m1 ∷ [])
unfolding u8_spelling u16_spelling u32_spelling u64_spelling i64_spelling i32_spelling list ascending text_code short_text_code hash_code id_code element_code key_code moment_code kind_code entry_code meta_code commit_code table_code namespace_code of_table of_namespace content_code emptied_fault changes_of op_fault judge entries commit_bytes content_bytes with_commit with_content expired_keys given_ops given_request request_commit commit_opening needs_commit_room step_commit needs_contents step_create step_assign step_delete entry_made attempt script live_from live live_since saved kept_contents removed_contents needs_sweep_room step_sweep sweep_entry sweep_call past_of
the_heads_of_two_references = refl

-- dev at the second
abbrev dev_at_two : Course
dev_at_two = followed_by (create dev Branch (from_hash c2))

abbrev by_patterns : List (Pattern × Cutoff) → Sweep
by_patterns patterns = sweep 4 (record { default = cutoffs.Commits 1; cutoffs = patterns }) no_names

-- the second is kept by both
a_commit_of_two_references : sweeps dev_at_two (by_patterns ((Name main, cutoffs.Commits 2) ∷ [])) ≡ (swept 5 4 2 1, m3 ∷ m2 ∷ [])
unfolding u8_spelling u16_spelling u32_spelling u64_spelling i64_spelling i32_spelling list ascending text_code short_text_code hash_code id_code element_code key_code moment_code kind_code entry_code meta_code commit_code table_code namespace_code of_table of_namespace content_code emptied_fault changes_of op_fault judge entries commit_bytes content_bytes with_commit with_content expired_keys given_ops given_request request_commit commit_opening needs_commit_room step_commit needs_contents step_create step_assign step_delete entry_made attempt script live_from live live_since saved kept_contents removed_contents needs_sweep_room step_sweep sweep_entry sweep_call past_of
a_commit_of_two_references = refl

the_first_pattern_counts : sweeps dev_at_two (by_patterns ((Front (codes "d"), cutoffs.Commits 1) ∷ (Name dev, cutoffs.All) ∷ [])) ≡ (swept 5 4 2 1, m3 ∷ m2 ∷ [])
unfolding u8_spelling u16_spelling u32_spelling u64_spelling i64_spelling i32_spelling list ascending text_code short_text_code hash_code id_code element_code key_code moment_code kind_code entry_code meta_code commit_code table_code namespace_code of_table of_namespace content_code emptied_fault changes_of op_fault judge entries commit_bytes content_bytes with_commit with_content expired_keys given_ops given_request request_commit commit_opening needs_commit_room step_commit needs_contents step_create step_assign step_delete entry_made attempt script live_from live live_since saved kept_contents removed_contents needs_sweep_room step_sweep sweep_entry sweep_call past_of
the_first_pattern_counts = refl

in_the_other_order : sweeps dev_at_two (by_patterns ((Name dev, cutoffs.All) ∷ (Front (codes "d"), cutoffs.Commits 1) ∷ [])) ≡ (swept 5 4 3 0, m3 ∷ m2 ∷ m1 ∷ [])
unfolding u8_spelling u16_spelling u32_spelling u64_spelling i64_spelling i32_spelling list ascending text_code short_text_code hash_code id_code element_code key_code moment_code kind_code entry_code meta_code commit_code table_code namespace_code of_table of_namespace content_code emptied_fault changes_of op_fault judge entries commit_bytes content_bytes with_commit with_content expired_keys given_ops given_request request_commit commit_opening needs_commit_room step_commit needs_contents step_create step_assign step_delete entry_made attempt script live_from live live_since saved kept_contents removed_contents needs_sweep_room step_sweep sweep_entry sweep_call past_of
in_the_other_order = refl

each_reference_by_its_own : sweeps (followed_by (create dev Branch (from_hash c1))) (by_patterns ((Name dev, cutoffs.All) ∷ (Front [], cutoffs.Commits 2) ∷ [])) ≡ (swept 5 4 3 0, m3 ∷ m2 ∷ m1 ∷ [])
unfolding u8_spelling u16_spelling u32_spelling u64_spelling i64_spelling i32_spelling list ascending text_code short_text_code hash_code id_code element_code key_code moment_code kind_code entry_code meta_code commit_code table_code namespace_code of_table of_namespace content_code emptied_fault changes_of op_fault judge entries commit_bytes content_bytes with_commit with_content expired_keys given_ops given_request request_commit commit_opening needs_commit_room step_commit needs_contents step_create step_assign step_delete entry_made attempt script live_from live live_since saved kept_contents removed_contents needs_sweep_room step_sweep sweep_entry sweep_call past_of
each_reference_by_its_own = refl

-- ---- names

abbrev pub naming : List Hash → List Hash → Sweep
naming commits contents = sweep 3 heads (record { commits = commits; contents = contents })

a_content_that_is_named : sweeps three (naming [] ((held m1).0 ∷ [])) ≡ (swept 4 3 2 1, m3 ∷ m1 ∷ [])
unfolding u8_spelling u16_spelling u32_spelling u64_spelling i64_spelling i32_spelling list ascending text_code short_text_code hash_code id_code element_code key_code moment_code kind_code entry_code meta_code commit_code table_code namespace_code of_table of_namespace content_code emptied_fault changes_of op_fault judge entries commit_bytes content_bytes with_commit with_content expired_keys given_ops given_request request_commit commit_opening needs_commit_room step_commit needs_contents step_create step_assign step_delete entry_made attempt script live_from live live_since saved kept_contents removed_contents needs_sweep_room step_sweep sweep_entry sweep_call past_of
a_content_that_is_named = refl

-- nothing that is visible at its parent alone
a_commit_that_is_named : sweeps three (naming (c2 ∷ []) []) ≡ (swept 4 3 2 1, m3 ∷ m2 ∷ [])
unfolding u8_spelling u16_spelling u32_spelling u64_spelling i64_spelling i32_spelling list ascending text_code short_text_code hash_code id_code element_code key_code moment_code kind_code entry_code meta_code commit_code table_code namespace_code of_table of_namespace content_code emptied_fault changes_of op_fault judge entries commit_bytes content_bytes with_commit with_content expired_keys given_ops given_request request_commit commit_opening needs_commit_room step_commit needs_contents step_create step_assign step_delete entry_made attempt script live_from live live_since saved kept_contents removed_contents needs_sweep_room step_sweep sweep_entry sweep_call past_of
a_commit_that_is_named = refl

several_names : sweeps three (naming (c2 ∷ c3 ∷ []) ((held m3).0 ∷ (held m1).0 ∷ [])) ≡ (swept 4 3 3 0, m3 ∷ m2 ∷ m1 ∷ [])
unfolding u8_spelling u16_spelling u32_spelling u64_spelling i64_spelling i32_spelling list ascending text_code short_text_code hash_code id_code element_code key_code moment_code kind_code entry_code meta_code commit_code table_code namespace_code of_table of_namespace content_code emptied_fault changes_of op_fault judge entries commit_bytes content_bytes with_commit with_content expired_keys given_ops given_request request_commit commit_opening needs_commit_room step_commit needs_contents step_create step_assign step_delete entry_made attempt script live_from live live_since saved kept_contents removed_contents needs_sweep_room step_sweep sweep_entry sweep_call past_of
several_names = refl

-- what its parent put, and it still shows
abbrev second_of_two_tables : Hash
second_of_two_tables = head (after empty (put_new None t1 m1 ∷ put_new None t2 m2 ∷ []))

a_commit_shows_what_older_ones_put : sweeps two_tables (naming (second_of_two_tables ∷ []) []) ≡ (swept 4 3 3 0, m3 ∷ m2 ∷ m1 ∷ [])
unfolding u8_spelling u16_spelling u32_spelling u64_spelling i64_spelling i32_spelling list ascending text_code short_text_code hash_code id_code element_code key_code moment_code kind_code entry_code meta_code commit_code table_code namespace_code of_table of_namespace content_code emptied_fault changes_of op_fault judge entries commit_bytes content_bytes with_commit with_content expired_keys given_ops given_request request_commit commit_opening needs_commit_room step_commit needs_contents step_create step_assign step_delete entry_made attempt script live_from live live_since saved kept_contents removed_contents needs_sweep_room step_sweep sweep_entry sweep_call past_of
a_commit_shows_what_older_ones_put = refl

-- a commit's hash is no content's, nor the other way round
names_that_name_nothing : sweeps three (naming ((held m1).0 ∷ []) (c1 ∷ [])) ≡ (swept 4 3 1 2, m3 ∷ [])
unfolding u8_spelling u16_spelling u32_spelling u64_spelling i64_spelling i32_spelling list ascending text_code short_text_code hash_code id_code element_code key_code moment_code kind_code entry_code meta_code commit_code table_code namespace_code of_table of_namespace content_code emptied_fault changes_of op_fault judge entries commit_bytes content_bytes with_commit with_content expired_keys given_ops given_request request_commit commit_opening needs_commit_room step_commit needs_contents step_create step_assign step_delete entry_made attempt script live_from live live_since saved kept_contents removed_contents needs_sweep_room step_sweep sweep_entry sweep_call past_of
names_that_name_nothing = refl

-- ---- roots between the opening and the effect

-- a tag at the first commit, made by the fourth entry and removed by the fifth
abbrev made_and_removed : Course
made_and_removed = led (first_three ++ create (codes "keep") Tag (from_hash c1) ∷ delete (codes "keep") None None ∷ [])

a_root_that_was_made_since : sweeps made_and_removed (sweep 3 heads no_names) ≡ (swept 6 3 2 1, m3 ∷ m1 ∷ [])
unfolding u8_spelling u16_spelling u32_spelling u64_spelling i64_spelling i32_spelling list ascending text_code short_text_code hash_code id_code element_code key_code moment_code kind_code entry_code meta_code commit_code table_code namespace_code of_table of_namespace content_code emptied_fault changes_of op_fault judge entries commit_bytes content_bytes with_commit with_content expired_keys given_ops given_request request_commit commit_opening needs_commit_room step_commit needs_contents step_create step_assign step_delete entry_made attempt script live_from live live_since saved kept_contents removed_contents needs_sweep_room step_sweep sweep_entry sweep_call past_of
a_root_that_was_made_since = refl

a_root_of_the_opening : sweeps made_and_removed (sweep 4 heads no_names) ≡ (swept 6 4 2 1, m3 ∷ m1 ∷ [])
unfolding u8_spelling u16_spelling u32_spelling u64_spelling i64_spelling i32_spelling list ascending text_code short_text_code hash_code id_code element_code key_code moment_code kind_code entry_code meta_code commit_code table_code namespace_code of_table of_namespace content_code emptied_fault changes_of op_fault judge entries commit_bytes content_bytes with_commit with_content expired_keys given_ops given_request request_commit commit_opening needs_commit_room step_commit needs_contents step_create step_assign step_delete entry_made attempt script live_from live live_since saved kept_contents removed_contents needs_sweep_room step_sweep sweep_entry sweep_call past_of
a_root_of_the_opening = refl

a_root_that_was_removed_before : sweeps made_and_removed (sweep 5 heads no_names) ≡ (swept 6 5 1 2, m3 ∷ [])
unfolding u8_spelling u16_spelling u32_spelling u64_spelling i64_spelling i32_spelling list ascending text_code short_text_code hash_code id_code element_code key_code moment_code kind_code entry_code meta_code commit_code table_code namespace_code of_table of_namespace content_code emptied_fault changes_of op_fault judge entries commit_bytes content_bytes with_commit with_content expired_keys given_ops given_request request_commit commit_opening needs_commit_room step_commit needs_contents step_create step_assign step_delete entry_made attempt script live_from live live_since saved kept_contents removed_contents needs_sweep_room step_sweep sweep_entry sweep_call past_of
a_root_that_was_removed_before = refl

-- a fourth location, and main back at the third commit
abbrev moved_back : Course
moved_back = led (first_three ++ put t1 id1 m4 ∷ assign main None None (from_hash c3) ∷ [])

a_head_that_was_moved_away : sweeps moved_back (sweep 4 heads no_names) ≡ (swept 6 4 2 2, m4 ∷ m3 ∷ [])
unfolding u8_spelling u16_spelling u32_spelling u64_spelling i64_spelling i32_spelling list ascending text_code short_text_code hash_code id_code element_code key_code moment_code kind_code entry_code meta_code commit_code table_code namespace_code of_table of_namespace content_code emptied_fault changes_of op_fault judge entries commit_bytes content_bytes with_commit with_content expired_keys given_ops given_request request_commit commit_opening needs_commit_room step_commit needs_contents step_create step_assign step_delete entry_made attempt script live_from live live_since saved kept_contents removed_contents needs_sweep_room step_sweep sweep_entry sweep_call past_of
a_head_that_was_moved_away = refl

a_head_that_was_moved_away_before : sweeps moved_back (sweep 5 heads no_names) ≡ (swept 6 5 1 3, m3 ∷ [])
unfolding u8_spelling u16_spelling u32_spelling u64_spelling i64_spelling i32_spelling list ascending text_code short_text_code hash_code id_code element_code key_code moment_code kind_code entry_code meta_code commit_code table_code namespace_code of_table of_namespace content_code emptied_fault changes_of op_fault judge entries commit_bytes content_bytes with_commit with_content expired_keys given_ops given_request request_commit commit_opening needs_commit_room step_commit needs_contents step_create step_assign step_delete entry_made attempt script live_from live live_since saved kept_contents removed_contents needs_sweep_room step_sweep sweep_entry sweep_call past_of
a_head_that_was_moved_away_before = refl

-- opened on the empty catalogue: each location was once a head's
all_heads_that_there_were : sweeps moved_back (sweep 0 heads no_names) ≡ (swept 6 0 4 0, m4 ∷ m3 ∷ m2 ∷ m1 ∷ [])
unfolding u8_spelling u16_spelling u32_spelling u64_spelling i64_spelling i32_spelling list ascending text_code short_text_code hash_code id_code element_code key_code moment_code kind_code entry_code meta_code commit_code table_code namespace_code of_table of_namespace content_code emptied_fault changes_of op_fault judge entries commit_bytes content_bytes with_commit with_content expired_keys given_ops given_request request_commit commit_opening needs_commit_room step_commit needs_contents step_create step_assign step_delete entry_made attempt script live_from live live_since saved kept_contents removed_contents needs_sweep_room step_sweep sweep_entry sweep_call past_of
all_heads_that_there_were = refl
