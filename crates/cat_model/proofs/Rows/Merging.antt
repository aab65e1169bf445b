-- Worked cases of merges.
use Rattle.std.specs.Prelude.{◌≡◌, refl, ℕ, List, [], ◌∷◌, Option, Some, None, codes, Bool, true, false, map, if◌then◌else◌}
use Rattle.std.specs.Option.{option_map}
use Rattle.cat_codes.specs.Code.{u8_spelling, u16_spelling, u32_spelling, u64_spelling, i64_spelling, i32_spelling, list, ascending}
use Rattle.cat_codes.specs.Texts.{text_code, short_text_code}
use Rattle.cat_names.specs.Fields.{Key, hash_code, id_code, element_code, key_code}
use Rattle.cat_names.specs.declared.hash.Hash.{Hash}
use Rattle.cat_model.specs.Formats.{moment_code, kind_code, entry_code, meta_code, commit_code}
use Rattle.cat_model.specs.Contents.{table_code, namespace_code, of_table, of_namespace, content_code}
use Rattle.cat_model.specs.Namespaces.{emptied_fault}
use Rattle.cat_model.specs.Judge.{changes_of, op_fault, judge}
use Rattle.cat_model.specs.Chain.{commit_of, entries}
use Rattle.cat_model.specs.State.{fresh_id}
use Rattle.cat_model.specs.Records.{commit_bytes, content_bytes, with_commit, with_content, expired_keys}
use Rattle.cat_model.specs.Commits.{given_ops, given_request, request_commit, commit_opening, needs_commit_room, step_commit}
use Rattle.cat_model.specs.Moves.{needs_contents, step_create, step_assign, step_delete}
use Rattle.cat_model.specs.Base.{base, common_ancestors, is_nearer}
use Rattle.cat_model.specs.Plan.{plan}
use Rattle.cat_model.specs.Merges.{needs_planned_room, step_applied, merge_opening, merge_planned, step_merge}
use Rattle.cat_model.specs.Answer.{answer_reference, answer_content}
use Rattle.cat_model.specs.Calls.{attempt, entry_made}
use Rattle.cat_model.specs.Requests.{Session}
use Rattle.cat_model.proofs.Rows.Script.{script}
use Rattle.cat_model.specs.declared.command.Command.{Command}
use Rattle.cat_model.specs.declared.command.Command.TheVariants as commands
use Rattle.cat_model.specs.declared.conflict.ConflictKind.TheVariants.{NamespaceNotEmpty, ValueDiffers}
use Rattle.cat_model.specs.declared.limits.Quantity.TheVariants as quantities
use Rattle.cat_model.specs.declared.log_entry.Action.{Action}
use Rattle.cat_model.specs.declared.log_entry.Action.TheVariants as actions
use Rattle.cat_model.specs.declared.log_entry.LogEntry.{LogEntry}
use Rattle.cat_model.specs.declared.merging.Behaviour.TheVariants.{Normal, Force, Drop}
use Rattle.cat_model.specs.declared.op.Op.TheVariants.{Delete}
use Rattle.cat_model.specs.declared.reference.Kind.TheVariants.{Branch, Tag}
use Rattle.cat_model.specs.declared.refusal.Refusal.TheVariants.{BadRequest, ContentNotFound, Expired, Limit, RefNotFound}
use Rattle.cat_model.specs.declared.refusal.Reason.TheVariants.{NotABranch}
use Rattle.cat_model.specs.declared.refusal.Missing.TheVariants.{Absent}
use Rattle.cat_model.specs.Maps.{Change}
use Rattle.cat_model.proofs.Rows.Words.{quick, clock, main, dev, H0, no_id, table, namespace, new, again, commit, read, create, from_branch, merge, merge_as, after, said, head, head_of, done, gives, stands, merged, not, refused_at, t1, t2, a, a-t, m1, empty, ample, one}
use Rattle.cat_model.proofs.Rows.MergeWords.{new_on, t3, a1, b1, other, at_head, told_of, heads, found, begin, both_changed, three, with_limits, swept}

-- ---- words

-- keys that were set, and that were deleted
abbrev is_set : List Change → List (Key × Bool)
is_set [] = []
is_set ((key, None) ∷ changes) = (key, false) ∷ is_set changes
is_set ((key, Some entry) ∷ changes) = (key, true) ∷ is_set changes

-- the keys that the head of a branch changed
abbrev changed : List ℕ → Session → Option (List (Key × Bool))
changed branch s = option_map (λ c. is_set c.ops) (commit_of s.book.state.commits (head_of branch s))

-- ---- both sides changed

both_changed_refuses : said both_changed (merge main dev (head_of dev both_changed) Normal ∷ read (Some main) None t1 ∷ []) ≡ refused_at 4 t1 ValueDiffers ∷ gives 4 (codes "m2") ∷ []
unfolding u8_spelling u16_spelling u32_spelling u64_spelling i64_spelling i32_spelling list ascending text_code short_text_code hash_code id_code element_code key_code moment_code kind_code entry_code meta_code commit_code table_code namespace_code of_table of_namespace content_code emptied_fault changes_of op_fault judge entries commit_bytes content_bytes with_commit with_content expired_keys given_ops given_request request_commit commit_opening needs_commit_room step_commit needs_contents step_create step_assign step_delete common_ancestors is_nearer base plan needs_planned_room step_applied merge_opening merge_planned step_merge answer_reference answer_content entry_made attempt script
both_changed_refuses = refl

the_target_is_kept : said both_changed (merge main dev (head_of dev both_changed) Drop ∷ read (Some main) None t1 ∷ []) ≡ merged 4 false true ∷ gives 4 (codes "m2") ∷ []
unfolding u8_spelling u16_spelling u32_spelling u64_spelling i64_spelling i32_spelling list ascending text_code short_text_code hash_code id_code element_code key_code moment_code kind_code entry_code meta_code commit_code table_code namespace_code of_table of_namespace content_code emptied_fault changes_of op_fault judge entries commit_bytes content_bytes with_commit with_content expired_keys given_ops given_request request_commit commit_opening needs_commit_room step_commit needs_contents step_create step_assign step_delete common_ancestors is_nearer base plan needs_planned_room step_applied merge_opening merge_planned step_merge answer_reference answer_content entry_made attempt script
the_target_is_kept = refl

the_source_is_taken : said both_changed (merge main dev (head_of dev both_changed) Force ∷ read (Some main) None t1 ∷ []) ≡ merged 5 true true ∷ gives 5 (codes "m3") ∷ []
unfolding u8_spelling u16_spelling u32_spelling u64_spelling i64_spelling i32_spelling list ascending text_code short_text_code hash_code id_code element_code key_code moment_code kind_code entry_code meta_code commit_code table_code namespace_code of_table of_namespace content_code emptied_fault changes_of op_fault judge entries commit_bytes content_bytes with_commit with_content expired_keys given_ops given_request request_commit commit_opening needs_commit_room step_commit needs_contents step_create step_assign step_delete common_ancestors is_nearer base plan needs_planned_room step_applied merge_opening merge_planned step_merge answer_reference answer_content entry_made attempt script
the_source_is_taken = refl

conflicts_as_the_reply : said both_changed (merge_as false true main None dev (head_of dev both_changed) Normal ∷ read (Some main) None t1 ∷ []) ≡ merged 4 false false ∷ gives 4 (codes "m2") ∷ []
unfolding u8_spelling u16_spelling u32_spelling u64_spelling i64_spelling i32_spelling list ascending text_code short_text_code hash_code id_code element_code key_code moment_code kind_code entry_code meta_code commit_code table_code namespace_code of_table of_namespace content_code emptied_fault changes_of op_fault judge entries commit_bytes content_bytes with_commit with_content expired_keys given_ops given_request request_commit commit_opening needs_commit_room step_commit needs_contents step_create step_assign step_delete common_ancestors is_nearer base plan needs_planned_room step_applied merge_opening merge_planned step_merge answer_reference answer_content entry_made attempt script
conflicts_as_the_reply = refl

what_conflicts : option_map found (told_of both_changed (merge_as false true main None dev (head_of dev both_changed) Normal)) ≡ Some (Some (head one), (t1, Some ValueDiffers) ∷ [])
unfolding u8_spelling u16_spelling u32_spelling u64_spelling i64_spelling i32_spelling list ascending text_code short_text_code hash_code id_code element_code key_code moment_code kind_code entry_code meta_code commit_code table_code namespace_code of_table of_namespace content_code emptied_fault changes_of op_fault judge entries commit_bytes content_bytes with_commit with_content expired_keys given_ops given_request request_commit commit_opening needs_commit_room step_commit needs_contents step_create step_assign step_delete common_ancestors is_nearer base plan needs_planned_room step_applied merge_opening merge_planned step_merge answer_reference answer_content entry_made attempt script
what_conflicts = refl

the_head_of_conflicts : option_map heads (told_of both_changed (merge_as false true main None dev (head_of dev both_changed) Normal)) ≡ Some (head both_changed, (main, head both_changed))
unfolding u8_spelling u16_spelling u32_spelling u64_spelling i64_spelling i32_spelling list ascending text_code short_text_code hash_code id_code element_code key_code moment_code kind_code entry_code meta_code commit_code table_code namespace_code of_table of_namespace content_code emptied_fault changes_of op_fault judge entries commit_bytes content_bytes with_commit with_content expired_keys given_ops given_request request_commit commit_opening needs_commit_room step_commit needs_contents step_create step_assign step_delete common_ancestors is_nearer base plan needs_planned_room step_applied merge_opening merge_planned step_merge answer_reference answer_content entry_made attempt script
the_head_of_conflicts = refl

conflicts_as_the_reply_use_a_draft : (after both_changed (merge_as false true main None dev (head_of dev both_changed) Normal ∷ [])).book.draft ≡ 4
unfolding u8_spelling u16_spelling u32_spelling u64_spelling i64_spelling i32_spelling list ascending text_code short_text_code hash_code id_code element_code key_code moment_code kind_code entry_code meta_code commit_code table_code namespace_code of_table of_namespace content_code emptied_fault changes_of op_fault judge entries commit_bytes content_bytes with_commit with_content expired_keys given_ops given_request request_commit commit_opening needs_commit_room step_commit needs_contents step_create step_assign step_delete common_ancestors is_nearer base plan needs_planned_room step_applied merge_opening merge_planned step_merge answer_reference answer_content entry_made attempt script
conflicts_as_the_reply_use_a_draft = refl

a_refused_merge_uses_a_draft : (after both_changed (merge main dev (head_of dev both_changed) Normal ∷ [])).book.draft ≡ 4
unfolding u8_spelling u16_spelling u32_spelling u64_spelling i64_spelling i32_spelling list ascending text_code short_text_code hash_code id_code element_code key_code moment_code kind_code entry_code meta_code commit_code table_code namespace_code of_table of_namespace content_code emptied_fault changes_of op_fault judge entries commit_bytes content_bytes with_commit with_content expired_keys given_ops given_request request_commit commit_opening needs_commit_room step_commit needs_contents step_create step_assign step_delete common_ancestors is_nearer base plan needs_planned_room step_applied merge_opening merge_planned step_merge answer_reference answer_content entry_made attempt script
a_refused_merge_uses_a_draft = refl

what_is_asked_beside_has_no_effect_without_conflicts : said both_changed (merge_as false true main None dev (head_of dev both_changed) Force ∷ []) ≡ merged 5 true true ∷ []
unfolding u8_spelling u16_spelling u32_spelling u64_spelling i64_spelling i32_spelling list ascending text_code short_text_code hash_code id_code element_code key_code moment_code kind_code entry_code meta_code commit_code table_code namespace_code of_table of_namespace content_code emptied_fault changes_of op_fault judge entries commit_bytes content_bytes with_commit with_content expired_keys given_ops given_request request_commit commit_opening needs_commit_room step_commit needs_contents step_create step_assign step_delete common_ancestors is_nearer base plan needs_planned_room step_applied merge_opening merge_planned step_merge answer_reference answer_content entry_made attempt script
what_is_asked_beside_has_no_effect_without_conflicts = refl

-- ---- merging again

abbrev merged_once : Session
merged_once = after three (merge main dev (head_of dev three) Normal ∷ [])

a_dry_run_and_a_second_merge : said three (merge_as true false main None dev (head_of dev three) Normal ∷ read (Some main) None t2 ∷ merge main dev (head_of dev three) Normal ∷ read (Some main) None t2 ∷ merge main dev (head_of dev three) Normal ∷ [])
    ≡ merged 3 false true ∷ not (Some 3) (ContentNotFound Absent) ∷ merged 4 true true ∷ gives 4 (codes "x") ∷ merged 4 false true ∷ []
unfolding u8_spelling u16_spelling u32_spelling u64_spelling i64_spelling i32_spelling list ascending text_code short_text_code hash_code id_code element_code key_code moment_code kind_code entry_code meta_code commit_code table_code namespace_code of_table of_namespace content_code emptied_fault changes_of op_fault judge entries commit_bytes content_bytes with_commit with_content expired_keys given_ops given_request request_commit commit_opening needs_commit_room step_commit needs_contents step_create step_assign step_delete common_ancestors is_nearer base plan needs_planned_room step_applied merge_opening merge_planned step_merge answer_reference answer_content entry_made attempt script
a_dry_run_and_a_second_merge = refl

drafts_and_moments_of_merges : (after three (merge_as true false main None dev (head_of dev three) Normal ∷ merge main dev (head_of dev three) Normal ∷ merge main dev (head_of dev three) Normal ∷ [])).book.draft ≡ 5
unfolding u8_spelling u16_spelling u32_spelling u64_spelling i64_spelling i32_spelling list ascending text_code short_text_code hash_code id_code element_code key_code moment_code kind_code entry_code meta_code commit_code table_code namespace_code of_table of_namespace content_code emptied_fault changes_of op_fault judge entries commit_bytes content_bytes with_commit with_content expired_keys given_ops given_request request_commit commit_opening needs_commit_room step_commit needs_contents step_create step_assign step_delete common_ancestors is_nearer base plan needs_planned_room step_applied merge_opening merge_planned step_merge answer_reference answer_content entry_made attempt script
drafts_and_moments_of_merges = refl

moments_of_merges : (after three (merge_as true false main None dev (head_of dev three) Normal ∷ merge main dev (head_of dev three) Normal ∷ merge main dev (head_of dev three) Normal ∷ [])).readings ≡ 6
unfolding u8_spelling u16_spelling u32_spelling u64_spelling i64_spelling i32_spelling list ascending text_code short_text_code hash_code id_code element_code key_code moment_code kind_code entry_code meta_code commit_code table_code namespace_code of_table of_namespace content_code emptied_fault changes_of op_fault judge entries commit_bytes content_bytes with_commit with_content expired_keys given_ops given_request request_commit commit_opening needs_commit_room step_commit needs_contents step_create step_assign step_delete common_ancestors is_nearer base plan needs_planned_room step_applied merge_opening merge_planned step_merge answer_reference answer_content entry_made attempt script
moments_of_merges = refl

the_commit_of_a_merge : at_head merged_once ≡ Some (head three, (Some (head_of dev three), (3, (4000000, codes "one"))))
unfolding u8_spelling u16_spelling u32_spelling u64_spelling i64_spelling i32_spelling list ascending text_code short_text_code hash_code id_code element_code key_code moment_code kind_code entry_code meta_code commit_code table_code namespace_code of_table of_namespace content_code emptied_fault changes_of op_fault judge entries commit_bytes content_bytes with_commit with_content expired_keys given_ops given_request request_commit commit_opening needs_commit_room step_commit needs_contents step_create step_assign step_delete common_ancestors is_nearer base plan needs_planned_room step_applied merge_opening merge_planned step_merge answer_reference answer_content entry_made attempt script
the_commit_of_a_merge = refl

-- the target's chain is the longer one
abbrev longer : Session
longer = after three (new_on main a1 (codes "p") ∷ new_on main b1 (codes "q") ∷ [])

one_more_than_the_greater_parent : at_head (after longer (merge main dev (head_of dev longer) Normal ∷ [])) ≡ Some (head longer, (Some (head_of dev longer), (4, (6000000, codes "one"))))
unfolding u8_spelling u16_spelling u32_spelling u64_spelling i64_spelling i32_spelling list ascending text_code short_text_code hash_code id_code element_code key_code moment_code kind_code entry_code meta_code commit_code table_code namespace_code of_table of_namespace content_code emptied_fault changes_of op_fault judge entries commit_bytes content_bytes with_commit with_content expired_keys given_ops given_request request_commit commit_opening needs_commit_room step_commit needs_contents step_create step_assign step_delete common_ancestors is_nearer base plan needs_planned_room step_applied merge_opening merge_planned step_merge answer_reference answer_content entry_made attempt script
one_more_than_the_greater_parent = refl

the_source_stays : head_of dev merged_once ≡ head_of dev three
unfolding u8_spelling u16_spelling u32_spelling u64_spelling i64_spelling i32_spelling list ascending text_code short_text_code hash_code id_code element_code key_code moment_code kind_code entry_code meta_code commit_code table_code namespace_code of_table of_namespace content_code emptied_fault changes_of op_fault judge entries commit_bytes content_bytes with_commit with_content expired_keys given_ops given_request request_commit commit_opening needs_commit_room step_commit needs_contents step_create step_assign step_delete common_ancestors is_nearer base plan needs_planned_room step_applied merge_opening merge_planned step_merge answer_reference answer_content entry_made attempt script
the_source_stays = refl

the_heads_of_a_merge : option_map heads (told_of three (merge main dev (head_of dev three) Normal)) ≡ Some (head three, (main, head merged_once))
unfolding u8_spelling u16_spelling u32_spelling u64_spelling i64_spelling i32_spelling list ascending text_code short_text_code hash_code id_code element_code key_code moment_code kind_code entry_code meta_code commit_code table_code namespace_code of_table of_namespace content_code emptied_fault changes_of op_fault judge entries commit_bytes content_bytes with_commit with_content expired_keys given_ops given_request request_commit commit_opening needs_commit_room step_commit needs_contents step_create step_assign step_delete common_ancestors is_nearer base plan needs_planned_room step_applied merge_opening merge_planned step_merge answer_reference answer_content entry_made attempt script
the_heads_of_a_merge = refl

the_head_of_a_dry_run : option_map heads (told_of three (merge_as true false main None dev (head_of dev three) Normal)) ≡ Some (head three, (main, head three))
unfolding u8_spelling u16_spelling u32_spelling u64_spelling i64_spelling i32_spelling list ascending text_code short_text_code hash_code id_code element_code key_code moment_code kind_code entry_code meta_code commit_code table_code namespace_code of_table of_namespace content_code emptied_fault changes_of op_fault judge entries commit_bytes content_bytes with_commit with_content expired_keys given_ops given_request request_commit commit_opening needs_commit_room step_commit needs_contents step_create step_assign step_delete common_ancestors is_nearer base plan needs_planned_room step_applied merge_opening merge_planned step_merge answer_reference answer_content entry_made attempt script
the_head_of_a_dry_run = refl

abbrev six : Session
six = after merged_once (commit main None (again t2 (table (fresh_id 2 0) (codes "y")) ∷ []) (table (fresh_id 2 0) (codes "y") ∷ []) ∷ new_on dev t3 (codes "z") ∷ [])

the_base_is_what_was_merged : base six.book.state.commits (head_of dev six) (head six) ≡ head_of dev three
unfolding u8_spelling u16_spelling u32_spelling u64_spelling i64_spelling i32_spelling list ascending text_code short_text_code hash_code id_code element_code key_code moment_code kind_code entry_code meta_code commit_code table_code namespace_code of_table of_namespace content_code emptied_fault changes_of op_fault judge entries commit_bytes content_bytes with_commit with_content expired_keys given_ops given_request request_commit commit_opening needs_commit_room step_commit needs_contents step_create step_assign step_delete common_ancestors is_nearer base plan needs_planned_room step_applied merge_opening merge_planned step_merge answer_reference answer_content entry_made attempt script
the_base_is_what_was_merged = refl

merged_again : said six (merge main dev (head_of dev six) Normal ∷ read (Some main) None t2 ∷ []) ≡ merged 7 true true ∷ gives 7 (codes "y") ∷ []
unfolding u8_spelling u16_spelling u32_spelling u64_spelling i64_spelling i32_spelling list ascending text_code short_text_code hash_code id_code element_code key_code moment_code kind_code entry_code meta_code commit_code table_code namespace_code of_table of_namespace content_code emptied_fault changes_of op_fault judge entries commit_bytes content_bytes with_commit with_content expired_keys given_ops given_request request_commit commit_opening needs_commit_room step_commit needs_contents step_create step_assign step_delete common_ancestors is_nearer base plan needs_planned_room step_applied merge_opening merge_planned step_merge answer_reference answer_content entry_made attempt script
merged_again = refl

one_operation : changed main (after six (merge main dev (head_of dev six) Normal ∷ [])) ≡ Some ((t3, true) ∷ [])
unfolding u8_spelling u16_spelling u32_spelling u64_spelling i64_spelling i32_spelling list ascending text_code short_text_code hash_code id_code element_code key_code moment_code kind_code entry_code meta_code commit_code table_code namespace_code of_table of_namespace content_code emptied_fault changes_of op_fault judge entries commit_bytes content_bytes with_commit with_content expired_keys given_ops given_request request_commit commit_opening needs_commit_room step_commit needs_contents step_create step_assign step_delete common_ancestors is_nearer base plan needs_planned_room step_applied merge_opening merge_planned step_merge answer_reference answer_content entry_made attempt script
one_operation = refl

-- ---- two branches merged into each other

abbrev crossing : Session
crossing = after begin (new_on main a1 (codes "p") ∷ new_on dev b1 (codes "q") ∷ [])

abbrev crossed : Session
crossed = after crossing (merge main dev (head_of dev crossing) Normal ∷ merge dev main (head crossing) Normal ∷ [])

abbrev is_lesser : Bool
is_lesser = is_nearer crossed.book.state.commits (head crossing) (head_of dev crossing)

two_bases : said crossed (merge_as true false main None dev (head_of dev crossed) Normal ∷ []) ≡ merged 6 false true ∷ []
unfolding u8_spelling u16_spelling u32_spelling u64_spelling i64_spelling i32_spelling list ascending text_code short_text_code hash_code id_code element_code key_code moment_code kind_code entry_code meta_code commit_code table_code namespace_code of_table of_namespace content_code emptied_fault changes_of op_fault judge entries commit_bytes content_bytes with_commit with_content expired_keys given_ops given_request request_commit commit_opening needs_commit_room step_commit needs_contents step_create step_assign step_delete common_ancestors is_nearer base plan needs_planned_room step_applied merge_opening merge_planned step_merge answer_reference answer_content entry_made attempt script
two_bases = refl

the_lesser_is_the_base : option_map found (told_of crossed (merge_as true false main None dev (head_of dev crossed) Normal))
    ≡ Some (if is_lesser then (Some (head crossing), (b1, None) ∷ []) else (Some (head_of dev crossing), (a1, None) ∷ []))
unfolding u8_spelling u16_spelling u32_spelling u64_spelling i64_spelling i32_spelling list ascending text_code short_text_code hash_code id_code element_code key_code moment_code kind_code entry_code meta_code commit_code table_code namespace_code of_table of_namespace content_code emptied_fault changes_of op_fault judge entries commit_bytes content_bytes with_commit with_content expired_keys given_ops given_request request_commit commit_opening needs_commit_room step_commit needs_contents step_create step_assign step_delete common_ancestors is_nearer base plan needs_planned_room step_applied merge_opening merge_planned step_merge answer_reference answer_content entry_made attempt script
the_lesser_is_the_base = refl

-- ---- deletes and namespaces

a_delete_is_merged : said begin (commit dev None (Delete t1 ∷ []) [] ∷ merge main dev (head_of dev (after begin (commit dev None (Delete t1 ∷ []) [] ∷ []))) Normal ∷ read (Some main) None t1 ∷ []) ≡ done 3 ∷ merged 4 true true ∷ not (Some 4) (ContentNotFound Absent) ∷ []
unfolding u8_spelling u16_spelling u32_spelling u64_spelling i64_spelling i32_spelling list ascending text_code short_text_code hash_code id_code element_code key_code moment_code kind_code entry_code meta_code commit_code table_code namespace_code of_table of_namespace content_code emptied_fault changes_of op_fault judge entries commit_bytes content_bytes with_commit with_content expired_keys given_ops given_request request_commit commit_opening needs_commit_room step_commit needs_contents step_create step_assign step_delete common_ancestors is_nearer base plan needs_planned_room step_applied merge_opening merge_planned step_merge answer_reference answer_content entry_made attempt script
a_delete_is_merged = refl

-- a namespace that is deleted on one branch and used on the other
abbrev spaces : Session
spaces = after empty (commit main None (new a (namespace a) ∷ []) (namespace a ∷ []) ∷ create dev Branch (from_branch main) ∷ commit dev None (Delete a ∷ []) [] ∷ new_on main a-t m1 ∷ [])

a_namespace_that_is_used : said spaces (merge main dev (head_of dev spaces) Normal ∷ merge main dev (head_of dev spaces) Force ∷ []) ≡ refused_at 4 a NamespaceNotEmpty ∷ refused_at 4 a NamespaceNotEmpty ∷ []
unfolding u8_spelling u16_spelling u32_spelling u64_spelling i64_spelling i32_spelling list ascending text_code short_text_code hash_code id_code element_code key_code moment_code kind_code entry_code meta_code commit_code table_code namespace_code of_table of_namespace content_code emptied_fault changes_of op_fault judge entries commit_bytes content_bytes with_commit with_content expired_keys given_ops given_request request_commit commit_opening needs_commit_room step_commit needs_contents step_create step_assign step_delete common_ancestors is_nearer base plan needs_planned_room step_applied merge_opening merge_planned step_merge answer_reference answer_content entry_made attempt script
a_namespace_that_is_used = refl

-- ---- tests in their order

names_then_kinds_then_hashes : said three (merge (codes "none") dev other Normal ∷ merge main (codes "none") other Normal ∷ create (codes "v") Tag (from_branch main) ∷ merge_as false false (codes "v") (Some other) (codes "none") other Normal ∷ merge_as false false (codes "v") (Some other) dev other Normal ∷ merge main dev other Normal ∷ merge_as false false main (Some other) dev (head_of dev three) Normal ∷ [])
    ≡ not (Some 3) RefNotFound ∷ not (Some 3) RefNotFound ∷ stands 4 (codes "v") Tag (head three) ∷ not (Some 4) RefNotFound ∷ not (Some 4) (BadRequest NotABranch) ∷ not (Some 4) RefNotFound ∷ not (Some 4) RefNotFound ∷ []
unfolding u8_spelling u16_spelling u32_spelling u64_spelling i64_spelling i32_spelling list ascending text_code short_text_code hash_code id_code element_code key_code moment_code kind_code entry_code meta_code commit_code table_code namespace_code of_table of_namespace content_code emptied_fault changes_of op_fault judge entries commit_bytes content_bytes with_commit with_content expired_keys given_ops given_request request_commit commit_opening needs_commit_room step_commit needs_contents step_create step_assign step_delete common_ancestors is_nearer base plan needs_planned_room step_applied merge_opening merge_planned step_merge answer_reference answer_content entry_made attempt script
names_then_kinds_then_hashes = refl

tests_before_a_draft_use_none : (after three (merge main dev other Normal ∷ merge_as false false main (Some other) dev (head_of dev three) Normal ∷ [])).book.draft ≡ 2
unfolding u8_spelling u16_spelling u32_spelling u64_spelling i64_spelling i32_spelling list ascending text_code short_text_code hash_code id_code element_code key_code moment_code kind_code entry_code meta_code commit_code table_code namespace_code of_table of_namespace content_code emptied_fault changes_of op_fault judge entries commit_bytes content_bytes with_commit with_content expired_keys given_ops given_request request_commit commit_opening needs_commit_room step_commit needs_contents step_create step_assign step_delete common_ancestors is_nearer base plan needs_planned_room step_applied merge_opening merge_planned step_merge answer_reference answer_content entry_made attempt script
tests_before_a_draft_use_none = refl

a_hash_on_the_chain_of_the_branch : said three (merge_as false false main (Some H0) dev (head_of dev three) Normal ∷ []) ≡ merged 4 true true ∷ []
unfolding u8_spelling u16_spelling u32_spelling u64_spelling i64_spelling i32_spelling list ascending text_code short_text_code hash_code id_code element_code key_code moment_code kind_code entry_code meta_code commit_code table_code namespace_code of_table of_namespace content_code emptied_fault changes_of op_fault judge entries commit_bytes content_bytes with_commit with_content expired_keys given_ops given_request request_commit commit_opening needs_commit_room step_commit needs_contents step_create step_assign step_delete common_ancestors is_nearer base plan needs_planned_room step_applied merge_opening merge_planned step_merge answer_reference answer_content entry_made attempt script
a_hash_on_the_chain_of_the_branch = refl

the_hash_of_the_other_branch : said three (merge_as false false main (Some (head_of dev three)) dev (head_of dev three) Normal ∷ []) ≡ not (Some 3) RefNotFound ∷ []
unfolding u8_spelling u16_spelling u32_spelling u64_spelling i64_spelling i32_spelling list ascending text_code short_text_code hash_code id_code element_code key_code moment_code kind_code entry_code meta_code commit_code table_code namespace_code of_table of_namespace content_code emptied_fault changes_of op_fault judge entries commit_bytes content_bytes with_commit with_content expired_keys given_ops given_request request_commit commit_opening needs_commit_room step_commit needs_contents step_create step_assign step_delete common_ancestors is_nearer base plan needs_planned_room step_applied merge_opening merge_planned step_merge answer_reference answer_content entry_made attempt script
the_hash_of_the_other_branch = refl

a_known_hash_of_another_chain : said three (merge main main (head_of dev three) Normal ∷ []) ≡ not (Some 3) RefNotFound ∷ []
unfolding u8_spelling u16_spelling u32_spelling u64_spelling i64_spelling i32_spelling list ascending text_code short_text_code hash_code id_code element_code key_code moment_code kind_code entry_code meta_code commit_code table_code namespace_code of_table of_namespace content_code emptied_fault changes_of op_fault judge entries commit_bytes content_bytes with_commit with_content expired_keys given_ops given_request request_commit commit_opening needs_commit_room step_commit needs_contents step_create step_assign step_delete common_ancestors is_nearer base plan needs_planned_room step_applied merge_opening merge_planned step_merge answer_reference answer_content entry_made attempt script
a_known_hash_of_another_chain = refl

a_tag_is_merged : said three (create (codes "v") Tag (from_branch dev) ∷ merge main (codes "v") (head_of dev three) Normal ∷ []) ≡ stands 4 (codes "v") Tag (head_of dev three) ∷ merged 5 true true ∷ []
unfolding u8_spelling u16_spelling u32_spelling u64_spelling i64_spelling i32_spelling list ascending text_code short_text_code hash_code id_code element_code key_code moment_code kind_code entry_code meta_code commit_code table_code namespace_code of_table of_namespace content_code emptied_fault changes_of op_fault judge entries commit_bytes content_bytes with_commit with_content expired_keys given_ops given_request request_commit commit_opening needs_commit_room step_commit needs_contents step_create step_assign step_delete common_ancestors is_nearer base plan needs_planned_room step_applied merge_opening merge_planned step_merge answer_reference answer_content entry_made attempt script
a_tag_is_merged = refl

a_branch_is_merged_into_itself : said three (merge dev dev (head_of dev three) Normal ∷ merge dev dev H0 Normal ∷ []) ≡ merged 3 false true ∷ merged 3 false true ∷ []
unfolding u8_spelling u16_spelling u32_spelling u64_spelling i64_spelling i32_spelling list ascending text_code short_text_code hash_code id_code element_code key_code moment_code kind_code entry_code meta_code commit_code table_code namespace_code of_table of_namespace content_code emptied_fault changes_of op_fault judge entries commit_bytes content_bytes with_commit with_content expired_keys given_ops given_request request_commit commit_opening needs_commit_room step_commit needs_contents step_create step_assign step_delete common_ancestors is_nearer base plan needs_planned_room step_applied merge_opening merge_planned step_merge answer_reference answer_content entry_made attempt script
a_branch_is_merged_into_itself = refl

room_comes_before_conflicts : said (with_limits (record ample { log = 4 }) both_changed) (merge_as true true main None dev (head_of dev both_changed) Normal ∷ []) ≡ not (Some 4) (Limit quantities.Log 4) ∷ []
unfolding u8_spelling u16_spelling u32_spelling u64_spelling i64_spelling i32_spelling list ascending text_code short_text_code hash_code id_code element_code key_code moment_code kind_code entry_code meta_code commit_code table_code namespace_code of_table of_namespace content_code emptied_fault changes_of op_fault judge entries commit_bytes content_bytes with_commit with_content expired_keys given_ops given_request request_commit commit_opening needs_commit_room step_commit needs_contents step_create step_assign step_delete common_ancestors is_nearer base plan needs_planned_room step_applied merge_opening merge_planned step_merge answer_reference answer_content entry_made attempt script
room_comes_before_conflicts = refl

room_comes_before_refused_conflicts : said (with_limits (record ample { log = 4 }) both_changed) (merge main dev (head_of dev both_changed) Normal ∷ []) ≡ not (Some 4) (Limit quantities.Log 4) ∷ []
unfolding u8_spelling u16_spelling u32_spelling u64_spelling i64_spelling i32_spelling list ascending text_code short_text_code hash_code id_code element_code key_code moment_code kind_code entry_code meta_code commit_code table_code namespace_code of_table of_namespace content_code emptied_fault changes_of op_fault judge entries commit_bytes content_bytes with_commit with_content expired_keys given_ops given_request request_commit commit_opening needs_commit_room step_commit needs_contents step_create step_assign step_delete common_ancestors is_nearer base plan needs_planned_room step_applied merge_opening merge_planned step_merge answer_reference answer_content entry_made attempt script
room_comes_before_refused_conflicts = refl

room_for_a_commit : said (with_limits (record ample { commits = 2 }) three) (merge main dev (head_of dev three) Normal ∷ merge main dev (head_of dev three) Drop ∷ []) ≡ not (Some 3) (Limit quantities.Commits 2) ∷ merged 3 false true ∷ []
unfolding u8_spelling u16_spelling u32_spelling u64_spelling i64_spelling i32_spelling list ascending text_code short_text_code hash_code id_code element_code key_code moment_code kind_code entry_code meta_code commit_code table_code namespace_code of_table of_namespace content_code emptied_fault changes_of op_fault judge entries commit_bytes content_bytes with_commit with_content expired_keys given_ops given_request request_commit commit_opening needs_commit_room step_commit needs_contents step_create step_assign step_delete common_ancestors is_nearer base plan needs_planned_room step_applied merge_opening merge_planned step_merge answer_reference answer_content entry_made attempt script
room_for_a_commit = refl

room_for_keys : said (with_limits (record ample { keys = 1 }) three) (merge main dev (head_of dev three) Normal ∷ merge main dev (head_of dev three) Drop ∷ []) ≡ not (Some 3) (Limit quantities.Keys 1) ∷ merged 3 false true ∷ []
unfolding u8_spelling u16_spelling u32_spelling u64_spelling i64_spelling i32_spelling list ascending text_code short_text_code hash_code id_code element_code key_code moment_code kind_code entry_code meta_code commit_code table_code namespace_code of_table of_namespace content_code emptied_fault changes_of op_fault judge entries commit_bytes content_bytes with_commit with_content expired_keys given_ops given_request request_commit commit_opening needs_commit_room step_commit needs_contents step_create step_assign step_delete common_ancestors is_nearer base plan needs_planned_room step_applied merge_opening merge_planned step_merge answer_reference answer_content entry_made attempt script
room_for_keys = refl

room_that_is_just_enough : said (with_limits (record ample { commits = 3; keys = 2 }) three) (merge main dev (head_of dev three) Normal ∷ []) ≡ merged 4 true true ∷ []
unfolding u8_spelling u16_spelling u32_spelling u64_spelling i64_spelling i32_spelling list ascending text_code short_text_code hash_code id_code element_code key_code moment_code kind_code entry_code meta_code commit_code table_code namespace_code of_table of_namespace content_code emptied_fault changes_of op_fault judge entries commit_bytes content_bytes with_commit with_content expired_keys given_ops given_request request_commit commit_opening needs_commit_room step_commit needs_contents step_create step_assign step_delete common_ancestors is_nearer base plan needs_planned_room step_applied merge_opening merge_planned step_merge answer_reference answer_content entry_made attempt script
room_that_is_just_enough = refl

a_delete_needs_no_key : said (with_limits (record ample { keys = 1 }) (after begin (commit dev None (Delete t1 ∷ []) [] ∷ []))) (merge main dev (head_of dev (after begin (commit dev None (Delete t1 ∷ []) [] ∷ []))) Normal ∷ []) ≡ merged 4 true true ∷ []
unfolding u8_spelling u16_spelling u32_spelling u64_spelling i64_spelling i32_spelling list ascending text_code short_text_code hash_code id_code element_code key_code moment_code kind_code entry_code meta_code commit_code table_code namespace_code of_table of_namespace content_code emptied_fault changes_of op_fault judge entries commit_bytes content_bytes with_commit with_content expired_keys given_ops given_request request_commit commit_opening needs_commit_room step_commit needs_contents step_create step_assign step_delete common_ancestors is_nearer base plan needs_planned_room step_applied merge_opening merge_planned step_merge answer_reference answer_content entry_made attempt script
a_delete_needs_no_key = refl

contents_that_expired : said (swept three) (merge main dev (head_of dev three) Normal ∷ merge_as true true main None dev (head_of dev three) Normal ∷ merge main dev (head_of dev three) Drop ∷ []) ≡ not (Some 3) (Expired (t2 ∷ []) 3) ∷ not (Some 3) (Expired (t2 ∷ []) 3) ∷ merged 3 false true ∷ []
unfolding u8_spelling u16_spelling u32_spelling u64_spelling i64_spelling i32_spelling list ascending text_code short_text_code hash_code id_code element_code key_code moment_code kind_code entry_code meta_code commit_code table_code namespace_code of_table of_namespace content_code emptied_fault changes_of op_fault judge entries commit_bytes content_bytes with_commit with_content expired_keys given_ops given_request request_commit commit_opening needs_commit_room step_commit needs_contents step_create step_assign step_delete common_ancestors is_nearer base plan needs_planned_room step_applied merge_opening merge_planned step_merge answer_reference answer_content entry_made attempt script
contents_that_expired = refl

-- a branch that deletes a key before the one that it adds
abbrev mixed : Session
mixed = after begin (commit dev None (Delete t1 ∷ new t2 (table no_id (codes "x")) ∷ []) (table no_id (codes "x") ∷ []) ∷ [])

what_is_set_after_a_delete : said (swept mixed) (merge main dev (head_of dev mixed) Normal ∷ []) ≡ not (Some 3) (Expired (t2 ∷ []) 3) ∷ []
unfolding u8_spelling u16_spelling u32_spelling u64_spelling i64_spelling i32_spelling list ascending text_code short_text_code hash_code id_code element_code key_code moment_code kind_code entry_code meta_code commit_code table_code namespace_code of_table of_namespace content_code emptied_fault changes_of op_fault judge entries commit_bytes content_bytes with_commit with_content expired_keys given_ops given_request request_commit commit_opening needs_commit_room step_commit needs_contents step_create step_assign step_delete common_ancestors is_nearer base plan needs_planned_room step_applied merge_opening merge_planned step_merge answer_reference answer_content entry_made attempt script
what_is_set_after_a_delete = refl

conflicts_come_before_what_expired : said (swept both_changed) (merge main dev (head_of dev both_changed) Normal ∷ merge main dev (head_of dev both_changed) Force ∷ []) ≡ refused_at 4 t1 ValueDiffers ∷ not (Some 4) (Expired (t1 ∷ []) 4) ∷ []
unfolding u8_spelling u16_spelling u32_spelling u64_spelling i64_spelling i32_spelling list ascending text_code short_text_code hash_code id_code element_code key_code moment_code kind_code entry_code meta_code commit_code table_code namespace_code of_table of_namespace content_code emptied_fault changes_of op_fault judge entries commit_bytes content_bytes with_commit with_content expired_keys given_ops given_request request_commit commit_opening needs_commit_room step_commit needs_contents step_create step_assign step_delete common_ancestors is_nearer base plan needs_planned_room step_applied merge_opening merge_planned step_merge answer_reference answer_content entry_made attempt script
conflicts_come_before_what_expired = refl

-- ---- entries of the log

abbrev asked_beside : Command → List (Bool × Bool)
asked_beside (commands.Create c) = []
asked_beside (commands.Assign c) = []
asked_beside (commands.Delete c) = []
asked_beside (commands.Commit c) = []
asked_beside (commands.Merge m) = (m.dry_run, m.conflicts_as_result) ∷ []
asked_beside (commands.Transplant t) = (t.dry_run, t.conflicts_as_result) ∷ []

abbrev asked_by : Action → List (Bool × Bool)
asked_by (actions.Call command) = asked_beside command
asked_by (actions.Sweep s) = []

abbrev entry_shape : LogEntry → ℕ × (ℕ × (ℕ × (ℕ × Option Hash)))
entry_shape e = (e.place, (e.caller, (e.draft, (e.moment, e.head))))

abbrev logged : List LogEntry
logged = (script quick 7 clock three (merge_as true true main None dev (head_of dev three) Normal ∷ merge_as false true main None dev (head_of dev three) Normal ∷ merge main dev (head_of dev three) Normal ∷ [])).logged

the_entry_of_a_merge : map entry_shape logged ≡ (4, (7, (4, (5000000, Some (head (after three (merge_as true true main None dev (head_of dev three) Normal ∷ merge main dev (head_of dev three) Normal ∷ []))))))) ∷ []
unfolding u8_spelling u16_spelling u32_spelling u64_spelling i64_spelling i32_spelling list ascending text_code short_text_code hash_code id_code element_code key_code moment_code kind_code entry_code meta_code commit_code table_code namespace_code of_table of_namespace content_code emptied_fault changes_of op_fault judge entries commit_bytes content_bytes with_commit with_content expired_keys given_ops given_request request_commit commit_opening needs_commit_room step_commit needs_contents step_create step_assign step_delete common_ancestors is_nearer base plan needs_planned_room step_applied merge_opening merge_planned step_merge answer_reference answer_content entry_made attempt script
the_entry_of_a_merge = refl

what_is_asked_beside_is_not_logged : map (λ e. asked_by e.action) logged ≡ ((false, false) ∷ []) ∷ []
unfolding u8_spelling u16_spelling u32_spelling u64_spelling i64_spelling i32_spelling list ascending text_code short_text_code hash_code id_code element_code key_code moment_code kind_code entry_code meta_code commit_code table_code namespace_code of_table of_namespace content_code emptied_fault changes_of op_fault judge entries commit_bytes content_bytes with_commit with_content expired_keys given_ops given_request request_commit commit_opening needs_commit_room step_commit needs_contents step_create step_assign step_delete common_ancestors is_nearer base plan needs_planned_room step_applied merge_opening merge_planned step_merge answer_reference answer_content entry_made attempt script
what_is_asked_beside_is_not_logged = refl
