-- Worked cases of transplants of commits that a merge made.
use Rattle.std.specs.Prelude.{◌≡◌, refl, ℕ, List, [], ◌∷◌, Some, None, codes}
use Rattle.cat_codes.specs.Code.{u8_spelling, u16_spelling, u32_spelling, u64_spelling, i64_spelling, i32_spelling, list, ascending}
use Rattle.cat_codes.specs.Texts.{text_code, short_text_code}
use Rattle.cat_names.specs.Fields.{hash_code, id_code, element_code, key_code}
use Rattle.cat_model.specs.Formats.{moment_code, kind_code, entry_code, meta_code, commit_code}
use Rattle.cat_model.specs.Contents.{table_code, namespace_code, of_table, of_namespace, content_code}
use Rattle.cat_model.specs.Namespaces.{emptied_fault}
use Rattle.cat_model.specs.Judge.{changes_of, op_fault, judge}
use Rattle.cat_model.specs.Chain.{entries}
use Rattle.cat_model.specs.Records.{commit_bytes, content_bytes, with_commit, with_content, expired_keys}
use Rattle.cat_model.specs.Commits.{given_ops, given_request, request_commit, commit_opening, needs_commit_room, step_commit}
use Rattle.cat_model.specs.Moves.{needs_contents, step_create, step_assign, step_delete}
use Rattle.cat_model.specs.Plan.{plan}
use Rattle.cat_model.specs.Merges.{needs_planned_room, step_applied, merge_opening, merge_planned, step_merge}
use Rattle.cat_model.specs.Transplants.{transplant_opening, transplant_planned, step_transplant}
use Rattle.cat_model.specs.Answer.{answer_reference, answer_content}
use Rattle.cat_model.specs.Calls.{attempt, entry_made}
use Rattle.cat_model.specs.Requests.{Session}
use Rattle.cat_model.proofs.Rows.Script.{script}
use Rattle.cat_model.specs.declared.merging.Behaviour.TheVariants.{Normal}
use Rattle.cat_model.specs.declared.reference.Kind.TheVariants.{Branch}
use Rattle.cat_model.specs.declared.refusal.Refusal.TheVariants.{RefNotFound}
use Rattle.cat_model.proofs.Rows.Words.{main, dev, create, from_branch, after, said, head, head_of, not, merge}
use Rattle.cat_model.proofs.Rows.MergeWords.{new_on, t3, begin}
use Rattle.cat_model.specs.Base.{base, common_ancestors, is_nearer}
use Rattle.cat_model.proofs.Rows.Transplanting.{newest, transplant}

-- a table of another branch came to dev by a merge
abbrev side : List ℕ
side = codes "side"

abbrev apart : Session
apart = after begin (create side Branch (from_branch main) ∷ new_on side t3 (codes "x") ∷ [])

abbrev brought : Session
brought = after apart (merge dev side (head_of side apart) Normal ∷ [])

-- its commit, applied to main, is what it changed since its first parent, and has no merge parent
a_merge_is_applied_as_any_commit : newest 1 (after brought (transplant (head_of dev brought ∷ []) Normal ∷ [])) ≡ ((head brought, (None, (2, (6000000, codes "one")))), 1) ∷ []
unfolding u8_spelling u16_spelling u32_spelling u64_spelling i64_spelling i32_spelling list ascending text_code short_text_code hash_code id_code element_code key_code moment_code kind_code entry_code meta_code commit_code table_code namespace_code of_table of_namespace content_code emptied_fault changes_of op_fault judge entries commit_bytes content_bytes with_commit with_content expired_keys given_ops given_request request_commit commit_opening needs_commit_room step_commit needs_contents step_create step_assign step_delete common_ancestors is_nearer base plan needs_planned_room step_applied merge_opening merge_planned step_merge answer_reference answer_content entry_made attempt script transplant_opening transplant_planned step_transplant
a_merge_is_applied_as_any_commit = refl

-- the commit that was merged is on no chain of first parents from dev
a_commit_behind_a_merge_parent_is_not_on_the_chain : said brought (transplant (head_of side brought ∷ []) Normal ∷ []) ≡ not (Some 5) RefNotFound ∷ []
unfolding u8_spelling u16_spelling u32_spelling u64_spelling i64_spelling i32_spelling list ascending text_code short_text_code hash_code id_code element_code key_code moment_code kind_code entry_code meta_code commit_code table_code namespace_code of_table of_namespace content_code emptied_fault changes_of op_fault judge entries commit_bytes content_bytes with_commit with_content expired_keys given_ops given_request request_commit commit_opening needs_commit_room step_commit needs_contents step_create step_assign step_delete common_ancestors is_nearer base plan needs_planned_room step_applied merge_opening merge_planned step_merge answer_reference answer_content entry_made attempt script transplant_opening transplant_planned step_transplant
a_commit_behind_a_merge_parent_is_not_on_the_chain = refl
