-- Worked cases of transplants.
use Rattle.std.specs.Prelude.{◌≡◌, refl, ℕ, List, [], ◌∷◌, Option, Some, None, Result, Ok, Err, codes, Bool, true, false, length, map, replicate, take, if◌then◌else◌}
use Rattle.std.specs.Option.{option_map}
use Rattle.std.specs.Str.{bytes_eq}
use Rattle.cat_codes.specs.Code.{u8_spelling, u16_spelling, u32_spelling, u64_spelling, i64_spelling, i32_spelling, list, ascending}
use Rattle.cat_codes.specs.Texts.{text_code, short_text_code}
use Rattle.cat_names.specs.Fields.{hash_code, id_code, element_code, key_code}
use Rattle.cat_names.specs.declared.hash.Hash.{Hash}
use Rattle.cat_model.specs.Formats.{moment_code, kind_code, entry_code, meta_code, commit_code}
use Rattle.cat_model.specs.Contents.{table_code, namespace_code, of_table, of_namespace, content_code}
use Rattle.cat_model.specs.Namespaces.{emptied_fault}
use Rattle.cat_model.specs.Judge.{changes_of, op_fault, judge}
use Rattle.cat_model.specs.Chain.{chain, entries}
use Rattle.cat_model.specs.Limits.{program_limits}
use Rattle.cat_model.specs.State.{Digest, fresh_id, entry_for}
use Rattle.cat_model.specs.Records.{commit_bytes, content_bytes, with_commit, with_content, expired_keys}
use Rattle.cat_model.specs.Commits.{given_ops, given_request, request_commit, commit_opening, needs_commit_room, step_commit}
use Rattle.cat_model.specs.Moves.{needs_contents, step_create}
use Rattle.cat_model.specs.Plan.{plan}
use Rattle.cat_model.specs.Merges.{needs_planned_room, step_applied}
use Rattle.cat_model.specs.Transplants.{transplant_opening, transplant_planned, step_transplant}
use Rattle.cat_model.specs.Answer.{answer_reference, answer_content}
use Rattle.cat_model.specs.Calls.{attempt, entry_made}
use Rattle.cat_model.specs.Requests.{Session, Change}
use Rattle.cat_model.proofs.Rows.Script.{first_session, script}
use Rattle.cat_model.specs.WellMade.{is_well_made}
use Rattle.cat_model.specs.declared.command.Command.{Command}
use Rattle.cat_model.specs.declared.command.Command.TheVariants as commands
use Rattle.cat_model.specs.declared.commit.Meta.{Meta}
use Rattle.cat_model.specs.declared.conflict.ConflictKind.TheVariants.{KeyDoesNotExist, ValueDiffers}
use Rattle.cat_model.specs.declared.content.Content.{Content}
use Rattle.cat_model.specs.declared.limits.Quantity.TheVariants as quantities
use Rattle.cat_model.specs.declared.log_entry.Action.{Action}
use Rattle.cat_model.specs.declared.log_entry.Action.TheVariants as actions
use Rattle.cat_model.specs.declared.log_entry.LogEntry.{LogEntry}
use Rattle.cat_model.specs.declared.merging.Behaviour.{Behaviour}
use Rattle.cat_model.specs.declared.merging.Behaviour.TheVariants.{Normal, Force, Drop}
use Rattle.cat_model.specs.declared.op.Op.{Op}
use Rattle.cat_model.specs.declared.op.Op.TheVariants.{Put, Delete}
use Rattle.cat_model.specs.declared.reference.Kind.TheVariants.{Branch, Tag}
use Rattle.cat_model.specs.declared.refusal.Refusal.{Refusal}
use Rattle.cat_model.specs.declared.refusal.Refusal.TheVariants.{BadRequest, Collision, ContentNotFound, Expired, Limit, RefNotFound}
use Rattle.cat_model.specs.declared.refusal.Reason.TheVariants.{NotABranch, NotConsecutive}
use Rattle.cat_model.specs.declared.refusal.Missing.TheVariants.{Absent}
use Rattle.cat_model.specs.declared.refusal.Refused.{Refused}
use Rattle.cat_model.specs.declared.reply.Told.{Told}
use Rattle.cat_model.proofs.Rows.Words.{quick, clock, main, dev, H0, note, Request, no_id, table, new, again, commit, read, create, from_branch, after, said, head, head_of, Short, gives, stands, merged, not, refused_at, t1, t2, ample, one}
use Rattle.cat_model.proofs.Rows.MergeWords.{new_on, put_on, t3, a1, other, Shape, shape, at_head, told_of, heads, found, begin, three, with_limits, swept}

-- ---- words

abbrev pub asked : Bool → Bool → List ℕ → Option Hash → List ℕ → List Hash → Behaviour → Command
asked tried result into hash from hashes mode = commands.Transplant (record {
  branch = into;
  hash = hash;
  from = from;
  hashes = hashes;
  modes = record { default = mode; keys = [] };
  dry_run = tried;
  conflicts_as_result = result;
})

abbrev pub transplant_as : Bool → Bool → List ℕ → Option Hash → List ℕ → List Hash → Behaviour → Request
transplant_as tried result into hash from hashes mode = Ok (Change (asked tried result into hash from hashes mode))

-- commits of dev applied to main
abbrev pub transplant : List Hash → Behaviour → Request
transplant hashes mode = transplant_as false false main None dev hashes mode

-- a commit with a message of its own
abbrev noted : List ℕ → List ℕ → List Op → List Content → Request
noted branch message ops contents = Ok (Change (commands.Commit (record { branch = branch; expected = None; meta = record note { message = message }; ops = ops; contents = contents })))

-- the newest commits of main, and how many keys each set or deleted
abbrev pub newest : ℕ → Session → List (Shape × ℕ)
newest n s = map (λ x. (shape x.1, length x.1.ops)) (take n (chain s.book.state.commits (head s)))

-- ---- one commit

abbrev d1 : Hash
d1 = head_of dev three

a_dry_run_the_call_and_the_call_again : said three (transplant_as true false main None dev (d1 ∷ []) Normal ∷ read (Some main) None t2 ∷ transplant (d1 ∷ []) Normal ∷ read (Some main) None t2 ∷ transplant (d1 ∷ []) Normal ∷ [])
    ≡ merged 3 false true ∷ not (Some 3) (ContentNotFound Absent) ∷ merged 4 true true ∷ gives 4 (codes "x") ∷ merged 4 false true ∷ []
unfolding u8_spelling u16_spelling u32_spelling u64_spelling i64_spelling i32_spelling list ascending text_code short_text_code hash_code id_code element_code key_code moment_code kind_code entry_code meta_code commit_code table_code namespace_code of_table of_namespace content_code emptied_fault changes_of op_fault judge entries commit_bytes content_bytes with_commit with_content expired_keys given_ops given_request request_commit commit_opening needs_commit_room step_commit needs_contents step_create plan needs_planned_room step_applied transplant_opening transplant_planned step_transplant answer_reference answer_content entry_made attempt script
a_dry_run_the_call_and_the_call_again = refl

abbrev applied : Session
applied = after three (transplant (d1 ∷ []) Normal ∷ [])

drafts_of_transplants : (after three (transplant_as true false main None dev (d1 ∷ []) Normal ∷ transplant (d1 ∷ []) Normal ∷ transplant (d1 ∷ []) Normal ∷ [])).book.draft ≡ 5
unfolding u8_spelling u16_spelling u32_spelling u64_spelling i64_spelling i32_spelling list ascending text_code short_text_code hash_code id_code element_code key_code moment_code kind_code entry_code meta_code commit_code table_code namespace_code of_table of_namespace content_code emptied_fault changes_of op_fault judge entries commit_bytes content_bytes with_commit with_content expired_keys given_ops given_request request_commit commit_opening needs_commit_room step_commit needs_contents step_create plan needs_planned_room step_applied transplant_opening transplant_planned step_transplant answer_reference answer_content entry_made attempt script
drafts_of_transplants = refl

moments_of_transplants : (after three (transplant_as true false main None dev (d1 ∷ []) Normal ∷ transplant (d1 ∷ []) Normal ∷ transplant (d1 ∷ []) Normal ∷ [])).readings ≡ 6
unfolding u8_spelling u16_spelling u32_spelling u64_spelling i64_spelling i32_spelling list ascending text_code short_text_code hash_code id_code element_code key_code moment_code kind_code entry_code meta_code commit_code table_code namespace_code of_table of_namespace content_code emptied_fault changes_of op_fault judge entries commit_bytes content_bytes with_commit with_content expired_keys given_ops given_request request_commit commit_opening needs_commit_room step_commit needs_contents step_create plan needs_planned_room step_applied transplant_opening transplant_planned step_transplant answer_reference answer_content entry_made attempt script
moments_of_transplants = refl

the_commit_of_a_transplant : at_head applied ≡ Some (head three, (None, (2, (4000000, codes "one"))))
unfolding u8_spelling u16_spelling u32_spelling u64_spelling i64_spelling i32_spelling list ascending text_code short_text_code hash_code id_code element_code key_code moment_code kind_code entry_code meta_code commit_code table_code namespace_code of_table of_namespace content_code emptied_fault changes_of op_fault judge entries commit_bytes content_bytes with_commit with_content expired_keys given_ops given_request request_commit commit_opening needs_commit_room step_commit needs_contents step_create plan needs_planned_room step_applied transplant_opening transplant_planned step_transplant answer_reference answer_content entry_made attempt script
the_commit_of_a_transplant = refl

the_source_stays : head_of dev applied ≡ d1
unfolding u8_spelling u16_spelling u32_spelling u64_spelling i64_spelling i32_spelling list ascending text_code short_text_code hash_code id_code element_code key_code moment_code kind_code entry_code meta_code commit_code table_code namespace_code of_table of_namespace content_code emptied_fault changes_of op_fault judge entries commit_bytes content_bytes with_commit with_content expired_keys given_ops given_request request_commit commit_opening needs_commit_room step_commit needs_contents step_create plan needs_planned_room step_applied transplant_opening transplant_planned step_transplant answer_reference answer_content entry_made attempt script
the_source_stays = refl

what_a_transplant_tells : option_map heads (told_of three (transplant (d1 ∷ []) Normal)) ≡ Some (head three, (main, head applied))
unfolding u8_spelling u16_spelling u32_spelling u64_spelling i64_spelling i32_spelling list ascending text_code short_text_code hash_code id_code element_code key_code moment_code kind_code entry_code meta_code commit_code table_code namespace_code of_table of_namespace content_code emptied_fault changes_of op_fault judge entries commit_bytes content_bytes with_commit with_content expired_keys given_ops given_request request_commit commit_opening needs_commit_room step_commit needs_contents step_create plan needs_planned_room step_applied transplant_opening transplant_planned step_transplant answer_reference answer_content entry_made attempt script
what_a_transplant_tells = refl

what_a_dry_run_tells : option_map heads (told_of three (transplant_as true false main None dev (d1 ∷ []) Normal)) ≡ Some (head three, (main, head three))
unfolding u8_spelling u16_spelling u32_spelling u64_spelling i64_spelling i32_spelling list ascending text_code short_text_code hash_code id_code element_code key_code moment_code kind_code entry_code meta_code commit_code table_code namespace_code of_table of_namespace content_code emptied_fault changes_of op_fault judge entries commit_bytes content_bytes with_commit with_content expired_keys given_ops given_request request_commit commit_opening needs_commit_room step_commit needs_contents step_create plan needs_planned_room step_applied transplant_opening transplant_planned step_transplant answer_reference answer_content entry_made attempt script
what_a_dry_run_tells = refl

what_is_found_once : option_map found (told_of three (transplant (d1 ∷ []) Normal)) ≡ Some (None, (t2, None) ∷ [])
unfolding u8_spelling u16_spelling u32_spelling u64_spelling i64_spelling i32_spelling list ascending text_code short_text_code hash_code id_code element_code key_code moment_code kind_code entry_code meta_code commit_code table_code namespace_code of_table of_namespace content_code emptied_fault changes_of op_fault judge entries commit_bytes content_bytes with_commit with_content expired_keys given_ops given_request request_commit commit_opening needs_commit_room step_commit needs_contents step_create plan needs_planned_room step_applied transplant_opening transplant_planned step_transplant answer_reference answer_content entry_made attempt script
what_is_found_once = refl

what_is_found_again : option_map found (told_of applied (transplant (d1 ∷ []) Normal)) ≡ Some (None, (t2, None) ∷ [])
unfolding u8_spelling u16_spelling u32_spelling u64_spelling i64_spelling i32_spelling list ascending text_code short_text_code hash_code id_code element_code key_code moment_code kind_code entry_code meta_code commit_code table_code namespace_code of_table of_namespace content_code emptied_fault changes_of op_fault judge entries commit_bytes content_bytes with_commit with_content expired_keys given_ops given_request request_commit commit_opening needs_commit_room step_commit needs_contents step_create plan needs_planned_room step_applied transplant_opening transplant_planned step_transplant answer_reference answer_content entry_made attempt script
what_is_found_again = refl

-- ---- several commits

-- a table that is made and then changed on dev, beside another one on main
abbrev two : Session
two = after begin (noted dev (codes "first") (new t2 (table no_id (codes "x")) ∷ []) (table no_id (codes "x") ∷ []) ∷ noted dev (codes "second") (again t2 (table (fresh_id 2 0) (codes "y")) ∷ Delete t1 ∷ []) (table (fresh_id 2 0) (codes "y") ∷ []) ∷ new_on main t3 (codes "z") ∷ [])

-- the commits of dev, the oldest first
abbrev first_of_two : Hash
first_of_two = head_of dev (after begin (noted dev (codes "first") (new t2 (table no_id (codes "x")) ∷ []) (table no_id (codes "x") ∷ []) ∷ []))

abbrev both_of_two : List Hash
both_of_two = first_of_two ∷ head_of dev two ∷ []

abbrev applied_two : Session
applied_two = after two (transplant both_of_two Normal ∷ [])

each_is_planned_on_the_map_so_far : said two (transplant both_of_two Normal ∷ read (Some main) None t2 ∷ read (Some main) None t1 ∷ []) ≡ merged 6 true true ∷ gives 6 (codes "y") ∷ not (Some 6) (ContentNotFound Absent) ∷ []
unfolding u8_spelling u16_spelling u32_spelling u64_spelling i64_spelling i32_spelling list ascending text_code short_text_code hash_code id_code element_code key_code moment_code kind_code entry_code meta_code commit_code table_code namespace_code of_table of_namespace content_code emptied_fault changes_of op_fault judge entries commit_bytes content_bytes with_commit with_content expired_keys given_ops given_request request_commit commit_opening needs_commit_room step_commit needs_contents step_create plan needs_planned_room step_applied transplant_opening transplant_planned step_transplant answer_reference answer_content entry_made attempt script
each_is_planned_on_the_map_so_far = refl

each_commit_upon_the_one_before : newest 2 applied_two
    ≡ ((head (after two (transplant (first_of_two ∷ []) Normal ∷ [])), (None, (4, (6000000, codes "second")))), 2) ∷ ((head two, (None, (3, (6000000, codes "first")))), 1) ∷ []
unfolding u8_spelling u16_spelling u32_spelling u64_spelling i64_spelling i32_spelling list ascending text_code short_text_code hash_code id_code element_code key_code moment_code kind_code entry_code meta_code commit_code table_code namespace_code of_table of_namespace content_code emptied_fault changes_of op_fault judge entries commit_bytes content_bytes with_commit with_content expired_keys given_ops given_request request_commit commit_opening needs_commit_room step_commit needs_contents step_create plan needs_planned_room step_applied transplant_opening transplant_planned step_transplant answer_reference answer_content entry_made attempt script
each_commit_upon_the_one_before = refl

what_is_found_of_both : option_map found (told_of two (transplant both_of_two Normal)) ≡ Some (None, (t2, None) ∷ (t1, None) ∷ (t2, None) ∷ [])
unfolding u8_spelling u16_spelling u32_spelling u64_spelling i64_spelling i32_spelling list ascending text_code short_text_code hash_code id_code element_code key_code moment_code kind_code entry_code meta_code commit_code table_code namespace_code of_table of_namespace content_code emptied_fault changes_of op_fault judge entries commit_bytes content_bytes with_commit with_content expired_keys given_ops given_request request_commit commit_opening needs_commit_room step_commit needs_contents step_create plan needs_planned_room step_applied transplant_opening transplant_planned step_transplant answer_reference answer_content entry_made attempt script
what_is_found_of_both = refl

the_head_after_both : option_map heads (told_of two (transplant both_of_two Normal)) ≡ Some (head two, (main, head applied_two))
unfolding u8_spelling u16_spelling u32_spelling u64_spelling i64_spelling i32_spelling list ascending text_code short_text_code hash_code id_code element_code key_code moment_code kind_code entry_code meta_code commit_code table_code namespace_code of_table of_namespace content_code emptied_fault changes_of op_fault judge entries commit_bytes content_bytes with_commit with_content expired_keys given_ops given_request request_commit commit_opening needs_commit_room step_commit needs_contents step_create plan needs_planned_room step_applied transplant_opening transplant_planned step_transplant answer_reference answer_content entry_made attempt script
the_head_after_both = refl

-- the first of both is there already
abbrev first_there : Session
first_there = after two (transplant (first_of_two ∷ []) Normal ∷ [])

a_commit_that_changes_nothing_makes_none : newest 1 (after first_there (transplant both_of_two Normal ∷ [])) ≡ ((head first_there, (None, (4, (7000000, codes "second")))), 2) ∷ []
unfolding u8_spelling u16_spelling u32_spelling u64_spelling i64_spelling i32_spelling list ascending text_code short_text_code hash_code id_code element_code key_code moment_code kind_code entry_code meta_code commit_code table_code namespace_code of_table of_namespace content_code emptied_fault changes_of op_fault judge entries commit_bytes content_bytes with_commit with_content expired_keys given_ops given_request request_commit commit_opening needs_commit_room step_commit needs_contents step_create plan needs_planned_room step_applied transplant_opening transplant_planned step_transplant answer_reference answer_content entry_made attempt script
a_commit_that_changes_nothing_makes_none = refl

the_second_alone_needs_the_first : option_map found (told_of two (transplant_as false true main None dev (head_of dev two ∷ []) Normal)) ≡ Some (None, (t1, None) ∷ (t2, Some KeyDoesNotExist) ∷ [])
unfolding u8_spelling u16_spelling u32_spelling u64_spelling i64_spelling i32_spelling list ascending text_code short_text_code hash_code id_code element_code key_code moment_code kind_code entry_code meta_code commit_code table_code namespace_code of_table of_namespace content_code emptied_fault changes_of op_fault judge entries commit_bytes content_bytes with_commit with_content expired_keys given_ops given_request request_commit commit_opening needs_commit_room step_commit needs_contents step_create plan needs_planned_room step_applied transplant_opening transplant_planned step_transplant answer_reference answer_content entry_made attempt script
the_second_alone_needs_the_first = refl

-- ---- conflicts

-- a new table on dev, then a change of a table that main changed too
abbrev row : Session
row = after begin (new_on dev t2 (codes "x") ∷ put_on dev (codes "m3") ∷ put_on main (codes "m2") ∷ [])

abbrev d2 : Hash
d2 = head_of dev row

a_conflict_in_the_second_of_two : said row (transplant (d1 ∷ d2 ∷ []) Normal ∷ read (Some main) None t2 ∷ []) ≡ refused_at 5 t1 ValueDiffers ∷ not (Some 5) (ContentNotFound Absent) ∷ []
unfolding u8_spelling u16_spelling u32_spelling u64_spelling i64_spelling i32_spelling list ascending text_code short_text_code hash_code id_code element_code key_code moment_code kind_code entry_code meta_code commit_code table_code namespace_code of_table of_namespace content_code emptied_fault changes_of op_fault judge entries commit_bytes content_bytes with_commit with_content expired_keys given_ops given_request request_commit commit_opening needs_commit_room step_commit needs_contents step_create plan needs_planned_room step_applied transplant_opening transplant_planned step_transplant answer_reference answer_content entry_made attempt script
a_conflict_in_the_second_of_two = refl

conflicts_are_the_reply : said row (transplant_as false true main None dev (d1 ∷ d2 ∷ []) Normal ∷ read (Some main) None t2 ∷ []) ≡ merged 5 false false ∷ not (Some 5) (ContentNotFound Absent) ∷ []
unfolding u8_spelling u16_spelling u32_spelling u64_spelling i64_spelling i32_spelling list ascending text_code short_text_code hash_code id_code element_code key_code moment_code kind_code entry_code meta_code commit_code table_code namespace_code of_table of_namespace content_code emptied_fault changes_of op_fault judge entries commit_bytes content_bytes with_commit with_content expired_keys given_ops given_request request_commit commit_opening needs_commit_room step_commit needs_contents step_create plan needs_planned_room step_applied transplant_opening transplant_planned step_transplant answer_reference answer_content entry_made attempt script
conflicts_are_the_reply = refl

what_conflicts : option_map found (told_of row (transplant_as false true main None dev (d1 ∷ d2 ∷ []) Normal)) ≡ Some (None, (t2, None) ∷ (t1, Some ValueDiffers) ∷ [])
unfolding u8_spelling u16_spelling u32_spelling u64_spelling i64_spelling i32_spelling list ascending text_code short_text_code hash_code id_code element_code key_code moment_code kind_code entry_code meta_code commit_code table_code namespace_code of_table of_namespace content_code emptied_fault changes_of op_fault judge entries commit_bytes content_bytes with_commit with_content expired_keys given_ops given_request request_commit commit_opening needs_commit_room step_commit needs_contents step_create plan needs_planned_room step_applied transplant_opening transplant_planned step_transplant answer_reference answer_content entry_made attempt script
what_conflicts = refl

refused_transplants_use_a_draft : (after row (transplant (d1 ∷ d2 ∷ []) Normal ∷ transplant_as false true main None dev (d1 ∷ d2 ∷ []) Normal ∷ [])).book.draft ≡ 6
unfolding u8_spelling u16_spelling u32_spelling u64_spelling i64_spelling i32_spelling list ascending text_code short_text_code hash_code id_code element_code key_code moment_code kind_code entry_code meta_code commit_code table_code namespace_code of_table of_namespace content_code emptied_fault changes_of op_fault judge entries commit_bytes content_bytes with_commit with_content expired_keys given_ops given_request request_commit commit_opening needs_commit_room step_commit needs_contents step_create plan needs_planned_room step_applied transplant_opening transplant_planned step_transplant answer_reference answer_content entry_made attempt script
refused_transplants_use_a_draft = refl

the_source_is_taken : said row (transplant (d1 ∷ d2 ∷ []) Force ∷ read (Some main) None t1 ∷ []) ≡ merged 6 true true ∷ gives 6 (codes "m3") ∷ []
unfolding u8_spelling u16_spelling u32_spelling u64_spelling i64_spelling i32_spelling list ascending text_code short_text_code hash_code id_code element_code key_code moment_code kind_code entry_code meta_code commit_code table_code namespace_code of_table of_namespace content_code emptied_fault changes_of op_fault judge entries commit_bytes content_bytes with_commit with_content expired_keys given_ops given_request request_commit commit_opening needs_commit_room step_commit needs_contents step_create plan needs_planned_room step_applied transplant_opening transplant_planned step_transplant answer_reference answer_content entry_made attempt script
the_source_is_taken = refl

the_target_is_kept : said row (transplant (d1 ∷ d2 ∷ []) Drop ∷ read (Some main) None t1 ∷ []) ≡ merged 5 false true ∷ gives 5 (codes "m2") ∷ []
unfolding u8_spelling u16_spelling u32_spelling u64_spelling i64_spelling i32_spelling list ascending text_code short_text_code hash_code id_code element_code key_code moment_code kind_code entry_code meta_code commit_code table_code namespace_code of_table of_namespace content_code emptied_fault changes_of op_fault judge entries commit_bytes content_bytes with_commit with_content expired_keys given_ops given_request request_commit commit_opening needs_commit_room step_commit needs_contents step_create plan needs_planned_room step_applied transplant_opening transplant_planned step_transplant answer_reference answer_content entry_made attempt script
the_target_is_kept = refl

-- a key that conflicts beside one that doesn't, then both changed once more
abbrev going_on : Session
going_on = after begin (noted dev (codes "c") (again t1 (table (fresh_id 1 0) (codes "m3")) ∷ new t2 (table no_id (codes "x")) ∷ []) (table (fresh_id 1 0) (codes "m3") ∷ table no_id (codes "x") ∷ []) ∷ noted dev (codes "d") (again t1 (table (fresh_id 1 0) (codes "m4")) ∷ again t2 (table (fresh_id 2 1) (codes "y")) ∷ []) (table (fresh_id 1 0) (codes "m4") ∷ table (fresh_id 2 1) (codes "y") ∷ []) ∷ put_on main (codes "m2") ∷ [])

abbrev both_going_on : List Hash
both_going_on = head_of dev (after begin (noted dev (codes "c") (again t1 (table (fresh_id 1 0) (codes "m3")) ∷ new t2 (table no_id (codes "x")) ∷ []) (table (fresh_id 1 0) (codes "m3") ∷ table no_id (codes "x") ∷ []) ∷ [])) ∷ head_of dev going_on ∷ []

planning_goes_on_after_a_conflict : option_map found (told_of going_on (transplant_as false true main None dev both_going_on Normal)) ≡ Some (None, (t1, Some ValueDiffers) ∷ (t2, None) ∷ (t1, Some ValueDiffers) ∷ (t2, None) ∷ [])
unfolding u8_spelling u16_spelling u32_spelling u64_spelling i64_spelling i32_spelling list ascending text_code short_text_code hash_code id_code element_code key_code moment_code kind_code entry_code meta_code commit_code table_code namespace_code of_table of_namespace content_code emptied_fault changes_of op_fault judge entries commit_bytes content_bytes with_commit with_content expired_keys given_ops given_request request_commit commit_opening needs_commit_room step_commit needs_contents step_create plan needs_planned_room step_applied transplant_opening transplant_planned step_transplant answer_reference answer_content entry_made attempt script
planning_goes_on_after_a_conflict = refl

-- ---- tests in their order

-- a third commit on dev
abbrev more : Session
more = after row (new_on dev a1 (codes "w") ∷ [])

abbrev d3 : Hash
d3 = head_of dev more

abbrev refusals : List (List Hash) → List Request
refusals [] = []
refusals (hashes ∷ others) = transplant hashes Normal ∷ refusals others

abbrev refused_so : Refusal → List (List Hash) → List Short
refused_so why [] = []
refused_so why (hashes ∷ others) = not (Some 6) why ∷ refused_so why others

-- a gap, backwards, twice, and the hash that has no ancestor, alone, before and after its child
abbrev in_no_row : List (List Hash)
in_no_row = (d1 ∷ d3 ∷ []) ∷ (d2 ∷ d1 ∷ []) ∷ (d1 ∷ d1 ∷ []) ∷ (H0 ∷ []) ∷ (H0 ∷ head one ∷ []) ∷ (d1 ∷ H0 ∷ []) ∷ []

hashes_that_are_not_consecutive : said more (refusals in_no_row) ≡ refused_so (BadRequest NotConsecutive) in_no_row
unfolding u8_spelling u16_spelling u32_spelling u64_spelling i64_spelling i32_spelling list ascending text_code short_text_code hash_code id_code element_code key_code moment_code kind_code entry_code meta_code commit_code table_code namespace_code of_table of_namespace content_code emptied_fault changes_of op_fault judge entries commit_bytes content_bytes with_commit with_content expired_keys given_ops given_request request_commit commit_opening needs_commit_room step_commit needs_contents step_create plan needs_planned_room step_applied transplant_opening transplant_planned step_transplant answer_reference answer_content entry_made attempt script
hashes_that_are_not_consecutive = refl

-- nothing's hash, and one of the target alone; beside others too
abbrev on_no_chain : List (List Hash)
on_no_chain = (other ∷ []) ∷ (head row ∷ []) ∷ (d1 ∷ other ∷ []) ∷ (d1 ∷ d3 ∷ other ∷ []) ∷ (H0 ∷ other ∷ []) ∷ []

hashes_on_no_chain_of_the_source : said more (refusals on_no_chain) ≡ refused_so RefNotFound on_no_chain
unfolding u8_spelling u16_spelling u32_spelling u64_spelling i64_spelling i32_spelling list ascending text_code short_text_code hash_code id_code element_code key_code moment_code kind_code entry_code meta_code commit_code table_code namespace_code of_table of_namespace content_code emptied_fault changes_of op_fault judge entries commit_bytes content_bytes with_commit with_content expired_keys given_ops given_request request_commit commit_opening needs_commit_room step_commit needs_contents step_create plan needs_planned_room step_applied transplant_opening transplant_planned step_transplant answer_reference answer_content entry_made attempt script
hashes_on_no_chain_of_the_source = refl

such_tests_use_no_draft : (after more (refusals in_no_row)).book.draft ≡ 5
unfolding u8_spelling u16_spelling u32_spelling u64_spelling i64_spelling i32_spelling list ascending text_code short_text_code hash_code id_code element_code key_code moment_code kind_code entry_code meta_code commit_code table_code namespace_code of_table of_namespace content_code emptied_fault changes_of op_fault judge entries commit_bytes content_bytes with_commit with_content expired_keys given_ops given_request request_commit commit_opening needs_commit_room step_commit needs_contents step_create plan needs_planned_room step_applied transplant_opening transplant_planned step_transplant answer_reference answer_content entry_made attempt script
such_tests_use_no_draft = refl

names_then_kinds_then_hashes : said three (transplant_as false false (codes "none") None dev (d1 ∷ []) Normal ∷ transplant_as false false main None (codes "none") (d1 ∷ []) Normal ∷ create (codes "v") Tag (from_branch main) ∷ transplant_as false false (codes "v") (Some other) (codes "none") (other ∷ []) Normal ∷ transplant_as false false (codes "v") (Some other) dev (other ∷ []) Normal ∷ transplant_as false false main (Some other) dev (H0 ∷ []) Normal ∷ [])
    ≡ not (Some 3) RefNotFound ∷ not (Some 3) RefNotFound ∷ stands 4 (codes "v") Tag (head three) ∷ not (Some 4) RefNotFound ∷ not (Some 4) (BadRequest NotABranch) ∷ not (Some 4) RefNotFound ∷ []
unfolding u8_spelling u16_spelling u32_spelling u64_spelling i64_spelling i32_spelling list ascending text_code short_text_code hash_code id_code element_code key_code moment_code kind_code entry_code meta_code commit_code table_code namespace_code of_table of_namespace content_code emptied_fault changes_of op_fault judge entries commit_bytes content_bytes with_commit with_content expired_keys given_ops given_request request_commit commit_opening needs_commit_room step_commit needs_contents step_create plan needs_planned_room step_applied transplant_opening transplant_planned step_transplant answer_reference answer_content entry_made attempt script
names_then_kinds_then_hashes = refl

a_hash_on_the_chain_of_the_branch : said three (transplant_as false false main (Some H0) dev (d1 ∷ []) Normal ∷ []) ≡ merged 4 true true ∷ []
unfolding u8_spelling u16_spelling u32_spelling u64_spelling i64_spelling i32_spelling list ascending text_code short_text_code hash_code id_code element_code key_code moment_code kind_code entry_code meta_code commit_code table_code namespace_code of_table of_namespace content_code emptied_fault changes_of op_fault judge entries commit_bytes content_bytes with_commit with_content expired_keys given_ops given_request request_commit commit_opening needs_commit_room step_commit needs_contents step_create plan needs_planned_room step_applied transplant_opening transplant_planned step_transplant answer_reference answer_content entry_made attempt script
a_hash_on_the_chain_of_the_branch = refl

such_a_hash_is_told_nowhere : option_map found (told_of three (transplant_as false false main (Some H0) dev (d1 ∷ []) Normal)) ≡ Some (None, (t2, None) ∷ [])
unfolding u8_spelling u16_spelling u32_spelling u64_spelling i64_spelling i32_spelling list ascending text_code short_text_code hash_code id_code element_code key_code moment_code kind_code entry_code meta_code commit_code table_code namespace_code of_table of_namespace content_code emptied_fault changes_of op_fault judge entries commit_bytes content_bytes with_commit with_content expired_keys given_ops given_request request_commit commit_opening needs_commit_room step_commit needs_contents step_create plan needs_planned_room step_applied transplant_opening transplant_planned step_transplant answer_reference answer_content entry_made attempt script
such_a_hash_is_told_nowhere = refl

the_hash_of_the_other_branch : said three (transplant_as false false main (Some d1) dev (d1 ∷ []) Normal ∷ []) ≡ not (Some 3) RefNotFound ∷ []
unfolding u8_spelling u16_spelling u32_spelling u64_spelling i64_spelling i32_spelling list ascending text_code short_text_code hash_code id_code element_code key_code moment_code kind_code entry_code meta_code commit_code table_code namespace_code of_table of_namespace content_code emptied_fault changes_of op_fault judge entries commit_bytes content_bytes with_commit with_content expired_keys given_ops given_request request_commit commit_opening needs_commit_room step_commit needs_contents step_create plan needs_planned_room step_applied transplant_opening transplant_planned step_transplant answer_reference answer_content entry_made attempt script
the_hash_of_the_other_branch = refl

commits_of_a_tag : said three (create (codes "v") Tag (from_branch dev) ∷ transplant_as false false main None (codes "v") (d1 ∷ []) Normal ∷ []) ≡ stands 4 (codes "v") Tag d1 ∷ merged 5 true true ∷ []
unfolding u8_spelling u16_spelling u32_spelling u64_spelling i64_spelling i32_spelling list ascending text_code short_text_code hash_code id_code element_code key_code moment_code kind_code entry_code meta_code commit_code table_code namespace_code of_table of_namespace content_code emptied_fault changes_of op_fault judge entries commit_bytes content_bytes with_commit with_content expired_keys given_ops given_request request_commit commit_opening needs_commit_room step_commit needs_contents step_create plan needs_planned_room step_applied transplant_opening transplant_planned step_transplant answer_reference answer_content entry_made attempt script
commits_of_a_tag = refl

commits_of_the_branch_itself : said three (transplant_as false false dev None dev (d1 ∷ []) Normal ∷ []) ≡ merged 3 false true ∷ []
unfolding u8_spelling u16_spelling u32_spelling u64_spelling i64_spelling i32_spelling list ascending text_code short_text_code hash_code id_code element_code key_code moment_code kind_code entry_code meta_code commit_code table_code namespace_code of_table of_namespace content_code emptied_fault changes_of op_fault judge entries commit_bytes content_bytes with_commit with_content expired_keys given_ops given_request request_commit commit_opening needs_commit_room step_commit needs_contents step_create plan needs_planned_room step_applied transplant_opening transplant_planned step_transplant answer_reference answer_content entry_made attempt script
commits_of_the_branch_itself = refl

-- ---- room, and what expired

room_for_each_commit : said (with_limits (record ample { commits = 5 }) two) (transplant both_of_two Normal ∷ []) ≡ not (Some 5) (Limit quantities.Commits 5) ∷ []
unfolding u8_spelling u16_spelling u32_spelling u64_spelling i64_spelling i32_spelling list ascending text_code short_text_code hash_code id_code element_code key_code moment_code kind_code entry_code meta_code commit_code table_code namespace_code of_table of_namespace content_code emptied_fault changes_of op_fault judge entries commit_bytes content_bytes with_commit with_content expired_keys given_ops given_request request_commit commit_opening needs_commit_room step_commit needs_contents step_create plan needs_planned_room step_applied transplant_opening transplant_planned step_transplant answer_reference answer_content entry_made attempt script
room_for_each_commit = refl

room_for_what_both_set : said (with_limits (record ample { keys = 3 }) two) (transplant both_of_two Normal ∷ []) ≡ not (Some 5) (Limit quantities.Keys 3) ∷ []
unfolding u8_spelling u16_spelling u32_spelling u64_spelling i64_spelling i32_spelling list ascending text_code short_text_code hash_code id_code element_code key_code moment_code kind_code entry_code meta_code commit_code table_code namespace_code of_table of_namespace content_code emptied_fault changes_of op_fault judge entries commit_bytes content_bytes with_commit with_content expired_keys given_ops given_request request_commit commit_opening needs_commit_room step_commit needs_contents step_create plan needs_planned_room step_applied transplant_opening transplant_planned step_transplant answer_reference answer_content entry_made attempt script
room_for_what_both_set = refl

room_that_is_just_enough : said (with_limits (record ample { commits = 6; keys = 4 }) two) (transplant both_of_two Normal ∷ []) ≡ merged 6 true true ∷ []
unfolding u8_spelling u16_spelling u32_spelling u64_spelling i64_spelling i32_spelling list ascending text_code short_text_code hash_code id_code element_code key_code moment_code kind_code entry_code meta_code commit_code table_code namespace_code of_table of_namespace content_code emptied_fault changes_of op_fault judge entries commit_bytes content_bytes with_commit with_content expired_keys given_ops given_request request_commit commit_opening needs_commit_room step_commit needs_contents step_create plan needs_planned_room step_applied transplant_opening transplant_planned step_transplant answer_reference answer_content entry_made attempt script
room_that_is_just_enough = refl

room_for_those_that_are_made : said (with_limits (record ample { commits = 6; keys = 4 }) first_there) (transplant both_of_two Normal ∷ []) ≡ merged 7 true true ∷ []
unfolding u8_spelling u16_spelling u32_spelling u64_spelling i64_spelling i32_spelling list ascending text_code short_text_code hash_code id_code element_code key_code moment_code kind_code entry_code meta_code commit_code table_code namespace_code of_table of_namespace content_code emptied_fault changes_of op_fault judge entries commit_bytes content_bytes with_commit with_content expired_keys given_ops given_request request_commit commit_opening needs_commit_room step_commit needs_contents step_create plan needs_planned_room step_applied transplant_opening transplant_planned step_transplant answer_reference answer_content entry_made attempt script
room_for_those_that_are_made = refl

room_comes_before_conflicts : said (with_limits (record ample { log = 5 }) row) (transplant_as true true main None dev (d1 ∷ d2 ∷ []) Normal ∷ []) ≡ not (Some 5) (Limit quantities.Log 5) ∷ []
unfolding u8_spelling u16_spelling u32_spelling u64_spelling i64_spelling i32_spelling list ascending text_code short_text_code hash_code id_code element_code key_code moment_code kind_code entry_code meta_code commit_code table_code namespace_code of_table of_namespace content_code emptied_fault changes_of op_fault judge entries commit_bytes content_bytes with_commit with_content expired_keys given_ops given_request request_commit commit_opening needs_commit_room step_commit needs_contents step_create plan needs_planned_room step_applied transplant_opening transplant_planned step_transplant answer_reference answer_content entry_made attempt script
room_comes_before_conflicts = refl

-- a later commit of dev that sets an earlier key, and one that sets the first key again
abbrev thrice : Session
thrice = after begin (new_on dev t2 (codes "x") ∷ put_on dev (codes "m3") ∷ commit dev None (again t2 (table (fresh_id 2 0) (codes "y")) ∷ []) (table (fresh_id 2 0) (codes "y") ∷ []) ∷ [])

abbrev all_three : List Hash
all_three = d1 ∷ head_of dev (after three (put_on dev (codes "m3") ∷ [])) ∷ head_of dev thrice ∷ []

contents_that_expired_each_once : said (swept thrice) (transplant all_three Normal ∷ transplant_as true true main None dev all_three Normal ∷ transplant all_three Drop ∷ []) ≡ not (Some 5) (Expired (t1 ∷ t2 ∷ []) 5) ∷ not (Some 5) (Expired (t1 ∷ t2 ∷ []) 5) ∷ merged 5 false true ∷ []
unfolding u8_spelling u16_spelling u32_spelling u64_spelling i64_spelling i32_spelling list ascending text_code short_text_code hash_code id_code element_code key_code moment_code kind_code entry_code meta_code commit_code table_code namespace_code of_table of_namespace content_code emptied_fault changes_of op_fault judge entries commit_bytes content_bytes with_commit with_content expired_keys given_ops given_request request_commit commit_opening needs_commit_room step_commit needs_contents step_create plan needs_planned_room step_applied transplant_opening transplant_planned step_transplant answer_reference answer_content entry_made attempt script
contents_that_expired_each_once = refl

-- ---- entries of the log

abbrev asked_beside : Command → List (Bool × Bool)
asked_beside (commands.Transplant t) = (t.dry_run, t.conflicts_as_result) ∷ []
asked_beside _ = []

abbrev asked_by : Action → List (Bool × Bool)
asked_by (actions.Call command) = asked_beside command
asked_by (actions.Sweep s) = []

abbrev entry_shape : LogEntry → ℕ × (ℕ × (ℕ × (ℕ × Option Hash)))
entry_shape e = (e.place, (e.caller, (e.draft, (e.moment, e.head))))

abbrev logged : List LogEntry
logged = (script quick 7 clock two (transplant_as true true main None dev both_of_two Normal ∷ transplant_as false true main None dev both_of_two Normal ∷ transplant both_of_two Normal ∷ [])).logged

one_entry_for_all : map entry_shape logged ≡ (6, (7, (6, (7000000, Some (head (after two (transplant_as true true main None dev both_of_two Normal ∷ transplant both_of_two Normal ∷ []))))))) ∷ []
unfolding u8_spelling u16_spelling u32_spelling u64_spelling i64_spelling i32_spelling list ascending text_code short_text_code hash_code id_code element_code key_code moment_code kind_code entry_code meta_code commit_code table_code namespace_code of_table of_namespace content_code emptied_fault changes_of op_fault judge entries commit_bytes content_bytes with_commit with_content expired_keys given_ops given_request request_commit commit_opening needs_commit_room step_commit needs_contents step_create plan needs_planned_room step_applied transplant_opening transplant_planned step_transplant answer_reference answer_content entry_made attempt script
one_entry_for_all = refl

what_is_asked_beside_is_not_logged : map (λ e. asked_by e.action) logged ≡ ((false, false) ∷ []) ∷ []
unfolding u8_spelling u16_spelling u32_spelling u64_spelling i64_spelling i32_spelling list ascending text_code short_text_code hash_code id_code element_code key_code moment_code kind_code entry_code meta_code commit_code table_code namespace_code of_table of_namespace content_code emptied_fault changes_of op_fault judge entries commit_bytes content_bytes with_commit with_content expired_keys given_ops given_request request_commit commit_opening needs_commit_room step_commit needs_contents step_create plan needs_planned_room step_applied transplant_opening transplant_planned step_transplant answer_reference answer_content entry_made attempt script
what_is_asked_beside_is_not_logged = refl

-- ---- records of one call

-- a digest that commits of one length share
abbrev rough : Digest
rough bytes = if bytes_eq (take 3 bytes) (codes "NC1") then length bytes ∷ [] else quick bytes

abbrev roughly : Session → List Request → Session
roughly s requests = (script rough 1 clock s requests).after

abbrev put_keys : Meta → List (List ℕ) → Request
put_keys meta keys = Ok (Change (commands.Commit (record { branch = dev; expected = None; meta = meta; ops = map (λ k. Put (k ∷ []) (entry_for rough (table no_id k)) true) keys; contents = map (table no_id) keys })))

-- two commits of two and three keys
abbrev uneven : Session
uneven = roughly (first_session rough program_limits) (create dev Branch (from_branch main) ∷ put_keys note (codes "a" ∷ codes "b" ∷ []) ∷ put_keys note (codes "c" ∷ codes "d" ∷ codes "e" ∷ []) ∷ [])

abbrev rough_head : Session → Hash
rough_head s = head_of dev s

abbrev uneven_hashes : List Hash
uneven_hashes = head_of dev (roughly (first_session rough program_limits) (create dev Branch (from_branch main) ∷ put_keys note (codes "a" ∷ codes "b" ∷ []) ∷ [])) ∷ head_of dev uneven ∷ []

-- one key of each is taken, so that both commits have one length
abbrev one_of_each : Bool → Request
one_of_each tried = Ok (Change (commands.Transplant (record {
  branch = main;
  hash = None;
  from = dev;
  hashes = uneven_hashes;
  modes = record { default = Drop; keys = (codes "a" ∷ [], Normal) ∷ (codes "c" ∷ [], Normal) ∷ [] };
  dry_run = tried;
  conflicts_as_result = false;
})))

abbrev is_collision : Refusal → Bool
is_collision (Collision hash first second) = true
is_collision _ = false

abbrev collides : Result Told Refused → Bool
collides (Ok t) = false
collides (Err e) = is_collision e.why

two_commits_of_one_call_collide : map collides (script rough 1 clock uneven (one_of_each true ∷ one_of_each false ∷ [])).said ≡ true ∷ true ∷ []
unfolding u8_spelling u16_spelling u32_spelling u64_spelling i64_spelling i32_spelling list ascending text_code short_text_code hash_code id_code element_code key_code moment_code kind_code entry_code meta_code commit_code table_code namespace_code of_table of_namespace content_code emptied_fault changes_of op_fault judge entries commit_bytes content_bytes with_commit with_content expired_keys given_ops given_request request_commit commit_opening needs_commit_room step_commit needs_contents step_create plan needs_planned_room step_applied transplant_opening transplant_planned step_transplant answer_reference answer_content entry_made attempt script
two_commits_of_one_call_collide = refl

nothing_of_them_stays : length (roughly uneven (one_of_each false ∷ [])).book.state.commits ≡ 2
unfolding u8_spelling u16_spelling u32_spelling u64_spelling i64_spelling i32_spelling list ascending text_code short_text_code hash_code id_code element_code key_code moment_code kind_code entry_code meta_code commit_code table_code namespace_code of_table of_namespace content_code emptied_fault changes_of op_fault judge entries commit_bytes content_bytes with_commit with_content expired_keys given_ops given_request request_commit commit_opening needs_commit_room step_commit needs_contents step_create plan needs_planned_room step_applied transplant_opening transplant_planned step_transplant answer_reference answer_content entry_made attempt script
nothing_of_them_stays = refl

-- ---- commands that are well made

abbrev with_hashes : List Hash → Bool
with_hashes hashes = is_well_made quick (asked false false main None dev hashes Normal)

at_least_one_hash_and_at_most_a_hundred : map with_hashes ([] ∷ (H0 ∷ []) ∷ replicate 100 H0 ∷ replicate 101 H0 ∷ []) ≡ false ∷ true ∷ true ∷ false ∷ []
unfolding is_well_made
at_least_one_hash_and_at_most_a_hundred = refl
