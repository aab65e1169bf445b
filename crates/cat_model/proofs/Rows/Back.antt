-- Worked cases of commits before others on their chains.
use Rattle.std.specs.Prelude.{◌≡◌, refl, ℕ, [], ◌∷◌, Option, Some, None, Result, Ok, Err, codes}
use Rattle.cat_codes.specs.Code.{u8_spelling, u16_spelling, u32_spelling, u64_spelling, i64_spelling, i32_spelling, list, ascending}
use Rattle.cat_codes.specs.Texts.{text_code, short_text_code}
use Rattle.cat_names.specs.Fields.{hash_code, id_code, element_code, key_code}
use Rattle.cat_names.specs.declared.hash.Hash.{Hash}
use Rattle.cat_model.specs.declared.commit.Commit.{Commit}
use Rattle.cat_model.specs.declared.refusal.Refusal.TheVariants.{RefNotFound}
use Rattle.cat_model.specs.Formats.{moment_code, kind_code, entry_code, meta_code, commit_code}
use Rattle.cat_model.specs.Contents.{table_code, namespace_code, of_table, of_namespace, content_code}
use Rattle.cat_model.specs.Namespaces.{emptied_fault}
use Rattle.cat_model.specs.Judge.{changes_of, op_fault, judge}
use Rattle.cat_model.specs.Chain.{Commits, back, entries, members}
use Rattle.cat_model.specs.State.{fresh_id}
use Rattle.cat_model.specs.Records.{commit_bytes, content_bytes, with_commit, with_content}
use Rattle.cat_model.specs.Commits.{given_ops, given_request, request_commit, commit_opening, needs_commit_room, step_commit}
use Rattle.cat_model.specs.Answer.{answer_reference, answer_content}
use Rattle.cat_model.specs.Calls.{attempt, entry_made}
use Rattle.cat_model.specs.Requests.{Session}
use Rattle.cat_model.proofs.Rows.Script.{script}
use Rattle.cat_model.proofs.Rows.Words.{main, H0, note, put, look, look_back, after, said, head, points, not, t1, one}

-- ---- members of chains

abbrev h : ℕ → Hash
h n = record { bytes = n ∷ [] }

abbrev upon : ℕ → Option Hash → Commit
upon parent merged = record { parent = h parent; merge_parent = merged; generation = 1; time = 0; meta = note; ops = [] }

-- 1 upon the hash 0 without a commit, 2 and 3 upon 1, and 4 upon 2, which merges 3
abbrev four : Commits
four = (h 4, upon 2 (Some (h 3))) ∷ (h 3, upon 1 None) ∷ (h 2, upon 1 None) ∷ (h 1, upon 0 None) ∷ []

a_chain_goes_by_parents : members four (h 4) ≡ h 4 ∷ h 2 ∷ h 1 ∷ h 0 ∷ []
a_chain_goes_by_parents = refl

the_commit_itself : back four (h 4) 0 ≡ Some (h 4)
the_commit_itself = refl

the_parent_and_not_the_merge_parent : back four (h 4) 1 ≡ Some (h 2)
the_parent_and_not_the_merge_parent = refl

the_end_of_the_chain : back four (h 4) 3 ≡ Some (h 0)
the_end_of_the_chain = refl

past_the_end : back four (h 4) 4 ≡ None
past_the_end = refl

the_hash_without_a_commit : back four (h 0) 0 ≡ Some (h 0)
the_hash_without_a_commit = refl

nothing_before_it : back four (h 0) 1 ≡ None
nothing_before_it = refl

-- ---- reads

-- two values of one key
abbrev two : Session
two = after one (put t1 (fresh_id 1 0) (codes "m2") ∷ [])

back_from_the_head : said two (look_back (Some main) None 0 ∷ look_back (Some main) None 1 ∷ look_back (Some main) None 2 ∷ look_back (Some main) None 3 ∷ [])
    ≡ points 2 (Some main) (head two) ∷ points 2 (Some main) (head one) ∷ points 2 (Some main) H0 ∷ not (Some 2) RefNotFound ∷ []
unfolding u8_spelling u16_spelling u32_spelling u64_spelling i64_spelling i32_spelling list ascending text_code short_text_code hash_code id_code element_code key_code moment_code kind_code entry_code meta_code commit_code table_code namespace_code of_table of_namespace content_code emptied_fault changes_of op_fault judge entries commit_bytes content_bytes with_commit with_content given_ops given_request request_commit commit_opening needs_commit_room step_commit answer_reference answer_content entry_made attempt script
back_from_the_head = refl

back_from_a_hash : said two (look_back (Some main) (Some (head one)) 1 ∷ look_back None (Some (head one)) 1 ∷ look_back None (Some (head one)) 2 ∷ look_back None (Some H0) 0 ∷ [])
    ≡ points 2 (Some main) H0 ∷ points 2 None H0 ∷ not (Some 2) RefNotFound ∷ points 2 None H0 ∷ []
unfolding u8_spelling u16_spelling u32_spelling u64_spelling i64_spelling i32_spelling list ascending text_code short_text_code hash_code id_code element_code key_code moment_code kind_code entry_code meta_code commit_code table_code namespace_code of_table of_namespace content_code emptied_fault changes_of op_fault judge entries commit_bytes content_bytes with_commit with_content given_ops given_request request_commit commit_opening needs_commit_room step_commit answer_reference answer_content entry_made attempt script
back_from_a_hash = refl

back_from_nothing : said two (look_back (Some (codes "none")) None 0 ∷ look_back None (Some (record { bytes = 1 ∷ [] })) 0 ∷ [])
    ≡ not (Some 2) RefNotFound ∷ not (Some 2) RefNotFound ∷ []
unfolding u8_spelling u16_spelling u32_spelling u64_spelling i64_spelling i32_spelling list ascending text_code short_text_code hash_code id_code element_code key_code moment_code kind_code entry_code meta_code commit_code table_code namespace_code of_table of_namespace content_code emptied_fault changes_of op_fault judge entries commit_bytes content_bytes with_commit with_content given_ops given_request request_commit commit_opening needs_commit_room step_commit answer_reference answer_content entry_made attempt script
back_from_nothing = refl
