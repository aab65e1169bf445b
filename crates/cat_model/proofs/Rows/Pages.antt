-- Worked cases of pages and contents.
use Rattle.std.specs.Prelude.{◌≡◌, refl, ℕ, List, [], ◌∷◌, Option, Some, None, Bool, true, false, Result, Ok, Err, codes, map}
use Rattle.std.specs.Option.{option_map}
use Rattle.cat_codes.specs.Code.{u8_spelling, u16_spelling, u32_spelling, u64_spelling, i64_spelling, i32_spelling, list, ascending}
use Rattle.cat_codes.specs.Texts.{text_code, short_text_code}
use Rattle.cat_names.specs.Fields.{Key, hash_code, id_code, element_code, key_code}
use Rattle.cat_names.specs.declared.hash.Hash.{Hash}
use Rattle.cat_model.specs.Formats.{moment_code, kind_code, entry_code, meta_code, commit_code}
use Rattle.cat_model.specs.Contents.{table_code, namespace_code, of_table, of_namespace, content_code}
use Rattle.cat_model.specs.Namespaces.{emptied_fault}
use Rattle.cat_model.specs.Judge.{changes_of, op_fault, judge}
use Rattle.cat_model.specs.Chain.{entries}
use Rattle.cat_model.specs.Records.{commit_bytes, content_bytes, with_commit, with_content, expired_keys}
use Rattle.cat_model.specs.Commits.{given_ops, given_request, request_commit, commit_opening, needs_commit_room, step_commit}
use Rattle.cat_model.specs.Moves.{needs_contents, step_create, step_assign, step_delete}
use Rattle.cat_model.specs.Pages.{history}
use Rattle.cat_model.specs.Answer.{references_page, answer_reference, answer_entries, history_item, answer_history, answer_contents, answer_content}
use Rattle.cat_model.specs.Calls.{attempt, entry_made}
use Rattle.cat_model.specs.Requests.{Session, Read}
use Rattle.cat_model.proofs.Rows.Script.{script, at_state}
use Rattle.cat_model.specs.declared.ask.Ask.TheVariants as asks
use Rattle.cat_model.specs.declared.content.Content.{Content}
use Rattle.cat_model.specs.declared.filter.Filter.{Filter}
use Rattle.cat_model.specs.declared.op.Op.TheVariants.{Delete}
use Rattle.cat_model.specs.declared.reference.Effective.TheVariants.{Named, Detached}
use Rattle.cat_model.specs.declared.reference.Effective.{Effective}
use Rattle.cat_model.specs.declared.reference.Kind.TheVariants.{Branch, Tag}
use Rattle.cat_model.specs.declared.refusal.Refusal.{Refusal}
use Rattle.cat_model.specs.declared.refusal.Refusal.TheVariants.{RefNotFound}
use Rattle.cat_model.specs.declared.refusal.Refused.{Refused}
use Rattle.cat_model.specs.declared.reply.Change.{Change}
use Rattle.cat_model.specs.declared.reply.Change.TheVariants as changes
use Rattle.cat_model.specs.declared.reply.HistoryItem.{HistoryItem}
use Rattle.cat_model.specs.declared.reply.Reply.{Reply}
use Rattle.cat_model.specs.declared.reply.Reply.TheVariants as replies
use Rattle.cat_model.specs.declared.reply.Told.{Told}
use Rattle.cat_model.proofs.Rows.Words.{Request, quick, clock, main, dev, H0, note, position, table, no_id, new, commit, put_new, create, from_branch, from_hash, after, head, t1, t2, t9, a, a-t, m1, empty, one, both}

abbrev t0 : Key
t0 = codes "t0" ∷ []

abbrev all : Filter
all = record { min = None; max = None; prefix = None; keys = [] }

-- ---- entries: the commit, the keys, the commit and the last key where more follow; or the refusal

pub data Page : Type 0 where
  page : ℕ → Hash → List Key → Option (Hash × Key) → Page
  names : ℕ → List (List ℕ) → Option (List ℕ) → Page
  commits : ℕ → List (Hash × (Hash × Option (List (Key × Option Bool)))) → Option Hash → Page
  contents : ℕ → Hash → List Key → Page
  not : Option ℕ → Refusal → Page
  other : Page

abbrev at : Effective → Hash
at (Named r) = r.head
at (Detached hash) = hash

abbrev held : Option Content → Bool
held None = false
held (Some c) = true

abbrev change : Change → Key × Option Bool
change (changes.Put key content) = (key, Some (held content))
change (changes.Delete key) = (key, None)

abbrev item : HistoryItem → Hash × (Hash × Option (List (Key × Option Bool)))
item i = (i.hash, (i.parent, option_map (λ ops. map change ops) i.operations))

abbrev shown : ℕ → Reply → Page
shown place (replies.Entries p) = page place (at p.effective) (map (λ x. x.0) p.items) p.next
shown place (replies.References p) = names place (map (λ r. r.name) p.items) p.next
shown place (replies.History p) = commits place (map item p.items) p.next
shown place (replies.Contents c) = contents place (at c.effective) (map (λ x. x.0) c.contents)
shown place _ = other

abbrev short : Result Told Refused → Page
short (Ok t) = shown t.place t.reply
short (Err e) = not e.place e.why

abbrev pages : Session → List Request → List Page
pages s requests = map short (script quick 1 clock s requests).said

abbrev listed : Option (List ℕ) → Option Hash → Filter → ℕ → Option (Hash × Key) → Request
listed name hash filter limit after = Ok (Read (asks.Entries (record { at = position name hash; filter = filter; limit = limit; after = after })))

-- a commit of two keys, and two commits after it
abbrev two : Session
two = after empty (commit main None (new t1 (table no_id m1) ∷ new t2 (table no_id m1) ∷ []) (table no_id m1 ∷ table no_id m1 ∷ []) ∷ [])

abbrev later : Session
later = after two (put_new None t0 m1 ∷ commit main None (Delete t2 ∷ []) [] ∷ [])

a_page_is_of_the_first_pages_commit : pages later (listed (Some main) None all 200 None ∷ listed (Some main) (Some (head two)) all 1 None ∷ listed (Some main) None all 1 (Some (head two, t1)) ∷ listed (Some main) None all 1 (Some (head two, t2)) ∷ listed (Some main) None all 2 (Some (head two, t0)) ∷ listed (Some main) None all 1 (Some (head two, t0)) ∷ [])
    ≡ page 3 (head later) (t0 ∷ t1 ∷ []) None ∷ page 3 (head two) (t1 ∷ []) (Some (head two, t1)) ∷ page 3 (head two) (t2 ∷ []) None ∷ page 3 (head two) [] None ∷ page 3 (head two) (t1 ∷ t2 ∷ []) None ∷ page 3 (head two) (t1 ∷ []) (Some (head two, t1)) ∷ []
unfolding u8_spelling u16_spelling u32_spelling u64_spelling i64_spelling i32_spelling list ascending text_code short_text_code hash_code id_code element_code key_code moment_code kind_code entry_code meta_code commit_code table_code namespace_code of_table of_namespace content_code emptied_fault changes_of op_fault judge entries commit_bytes content_bytes with_commit with_content expired_keys given_ops given_request request_commit commit_opening needs_commit_room step_commit needs_contents step_create step_assign step_delete history references_page answer_reference answer_entries history_item answer_history answer_contents answer_content entry_made attempt script
a_page_is_of_the_first_pages_commit = refl

-- a hash that is nothing's
abbrev unknown : Hash
unknown = record { bytes = 1 ∷ [] }

-- a token's commit has to be known, and needs no chain
pages_that_are_not_there : pages two (listed (Some dev) None all 1 (Some (head two, t1)) ∷ listed (Some main) (Some unknown) all 1 (Some (head two, t1)) ∷ listed (Some main) None all 1 (Some (unknown, t1)) ∷ listed None (Some H0) all 1 (Some (head two, t1)) ∷ listed None (Some (head two)) all 1 (Some (H0, t1)) ∷ [])
    ≡ not (Some 1) RefNotFound ∷ not (Some 1) RefNotFound ∷ not (Some 1) RefNotFound ∷ page 1 (head two) (t2 ∷ []) None ∷ page 1 H0 [] None ∷ []
unfolding u8_spelling u16_spelling u32_spelling u64_spelling i64_spelling i32_spelling list ascending text_code short_text_code hash_code id_code element_code key_code moment_code kind_code entry_code meta_code commit_code table_code namespace_code of_table of_namespace content_code emptied_fault changes_of op_fault judge entries commit_bytes content_bytes with_commit with_content expired_keys given_ops given_request request_commit commit_opening needs_commit_room step_commit needs_contents step_create step_assign step_delete history references_page answer_reference answer_entries history_item answer_history answer_contents answer_content entry_made attempt script
pages_that_are_not_there = refl

entries_under_a_filter : pages (after two (both ∷ [])) (listed (Some main) None (record all { min = Some t1; max = Some t1 }) 1 None ∷ listed (Some main) None (record all { max = Some t1 }) 2 None ∷ listed (Some main) None (record all { prefix = Some a }) 9 None ∷ listed (Some main) None (record all { keys = t2 ∷ a-t ∷ t9 ∷ [] }) 1 None ∷ listed (Some main) None (record all { min = Some t1; keys = t2 ∷ a-t ∷ t9 ∷ [] }) 1 None ∷ [])
    ≡ page 2 (head (after two (both ∷ []))) (t1 ∷ []) None ∷ page 2 (head (after two (both ∷ []))) (a ∷ a-t ∷ []) (Some (head (after two (both ∷ [])), a-t)) ∷ page 2 (head (after two (both ∷ []))) (a ∷ a-t ∷ []) None ∷ page 2 (head (after two (both ∷ []))) (a-t ∷ []) (Some (head (after two (both ∷ [])), a-t)) ∷ page 2 (head (after two (both ∷ []))) (t2 ∷ []) None ∷ []
unfolding u8_spelling u16_spelling u32_spelling u64_spelling i64_spelling i32_spelling list ascending text_code short_text_code hash_code id_code element_code key_code moment_code kind_code entry_code meta_code commit_code table_code namespace_code of_table of_namespace content_code emptied_fault changes_of op_fault judge entries commit_bytes content_bytes with_commit with_content expired_keys given_ops given_request request_commit commit_opening needs_commit_room step_commit needs_contents step_create step_assign step_delete history references_page answer_reference answer_entries history_item answer_history answer_contents answer_content entry_made attempt script
entries_under_a_filter = refl

-- ---- references

abbrev named : ℕ → Option (List ℕ) → Request
named limit after = Ok (Read (asks.References (record { limit = limit; after = after })))

abbrev three : Session
three = after one (create dev Branch (from_branch main) ∷ create (codes "v") Tag (from_hash H0) ∷ [])

references_by_ascending_names : pages three (named 200 None ∷ named 3 None ∷ named 2 None ∷ named 2 (Some main) ∷ named 1 (Some (codes "e")) ∷ named 1 (Some (codes "v")) ∷ [])
    ≡ names 3 (dev ∷ main ∷ codes "v" ∷ []) None ∷ names 3 (dev ∷ main ∷ codes "v" ∷ []) None ∷ names 3 (dev ∷ main ∷ []) (Some main) ∷ names 3 (codes "v" ∷ []) None ∷ names 3 (main ∷ []) (Some main) ∷ names 3 [] None ∷ []
unfolding u8_spelling u16_spelling u32_spelling u64_spelling i64_spelling i32_spelling list ascending text_code short_text_code hash_code id_code element_code key_code moment_code kind_code entry_code meta_code commit_code table_code namespace_code of_table of_namespace content_code emptied_fault changes_of op_fault judge entries commit_bytes content_bytes with_commit with_content expired_keys given_ops given_request request_commit commit_opening needs_commit_room step_commit needs_contents step_create step_assign step_delete history references_page answer_reference answer_entries history_item answer_history answer_contents answer_content entry_made attempt script
references_by_ascending_names = refl

-- ---- history

abbrev walked : Option (List ℕ) → Option Hash → Option Hash → Bool → ℕ → Option Hash → Request
walked name hash until with limit from = Ok (Read (asks.History (record { at = position name hash; until = until; with_operations = with; limit = limit; from = from })))

abbrev middle : Session
middle = after two (put_new None t0 m1 ∷ [])

the_newest_commit_first : pages later (walked (Some main) None None false 200 None ∷ walked (Some main) None None false 3 None ∷ walked (Some main) None None false 1 None ∷ walked (Some main) None None false 1 (Some (head middle)) ∷ walked (Some main) None None false 1 (Some (head two)) ∷ walked (Some main) (Some H0) None false 1 None ∷ [])
    ≡ commits 3 ((head later, (head middle, None)) ∷ (head middle, (head two, None)) ∷ (head two, (H0, None)) ∷ []) None
    ∷ commits 3 ((head later, (head middle, None)) ∷ (head middle, (head two, None)) ∷ (head two, (H0, None)) ∷ []) None
    ∷ commits 3 ((head later, (head middle, None)) ∷ []) (Some (head middle)) ∷ commits 3 ((head middle, (head two, None)) ∷ []) (Some (head two)) ∷ commits 3 ((head two, (H0, None)) ∷ []) None ∷ commits 3 [] None ∷ []
unfolding u8_spelling u16_spelling u32_spelling u64_spelling i64_spelling i32_spelling list ascending text_code short_text_code hash_code id_code element_code key_code moment_code kind_code entry_code meta_code commit_code table_code namespace_code of_table of_namespace content_code emptied_fault changes_of op_fault judge entries commit_bytes content_bytes with_commit with_content expired_keys given_ops given_request request_commit commit_opening needs_commit_room step_commit needs_contents step_create step_assign step_delete history references_page answer_reference answer_entries history_item answer_history answer_contents answer_content entry_made attempt script
the_newest_commit_first = refl

a_history_up_to_a_hash : pages later (walked (Some main) None (Some (head middle)) false 9 None ∷ walked (Some main) None (Some (head later)) false 1 None ∷ walked (Some main) None (Some H0) false 9 (Some (head two)) ∷ walked (Some main) None (Some unknown) false 9 None ∷ walked (Some main) None (Some (head later)) false 9 (Some (head middle)) ∷ walked (Some main) (Some (head two)) (Some (head middle)) false 9 None ∷ walked (Some main) None None false 9 (Some unknown) ∷ [])
    ≡ commits 3 ((head later, (head middle, None)) ∷ (head middle, (head two, None)) ∷ []) None ∷ commits 3 ((head later, (head middle, None)) ∷ []) None ∷ commits 3 ((head two, (H0, None)) ∷ []) None ∷ not (Some 3) RefNotFound ∷ not (Some 3) RefNotFound ∷ not (Some 3) RefNotFound ∷ not (Some 3) RefNotFound ∷ []
unfolding u8_spelling u16_spelling u32_spelling u64_spelling i64_spelling i32_spelling list ascending text_code short_text_code hash_code id_code element_code key_code moment_code kind_code entry_code meta_code commit_code table_code namespace_code of_table of_namespace content_code emptied_fault changes_of op_fault judge entries commit_bytes content_bytes with_commit with_content expired_keys given_ops given_request request_commit commit_opening needs_commit_room step_commit needs_contents step_create step_assign step_delete history references_page answer_reference answer_entries history_item answer_history answer_contents answer_content entry_made attempt script
a_history_up_to_a_hash = refl

a_history_with_its_operations : pages (at_state later (record later.book.state { present = [] })) (walked None (Some (head later)) None true 1 None ∷ walked None (Some (head two)) None true 9 None ∷ []) ≡ commits 3 ((head later, (head middle, Some ((t2, None) ∷ []))) ∷ []) (Some (head middle)) ∷ commits 3 ((head two, (H0, Some ((t1, Some false) ∷ (t2, Some false) ∷ []))) ∷ []) None ∷ []
unfolding u8_spelling u16_spelling u32_spelling u64_spelling i64_spelling i32_spelling list ascending text_code short_text_code hash_code id_code element_code key_code moment_code kind_code entry_code meta_code commit_code table_code namespace_code of_table of_namespace content_code emptied_fault changes_of op_fault judge entries commit_bytes content_bytes with_commit with_content expired_keys given_ops given_request request_commit commit_opening needs_commit_room step_commit needs_contents step_create step_assign step_delete history references_page answer_reference answer_entries history_item answer_history answer_contents answer_content entry_made attempt script
a_history_with_its_operations = refl

a_history_with_its_contents : pages two (walked (Some main) None None true 9 None ∷ []) ≡ commits 1 ((head two, (H0, Some ((t1, Some true) ∷ (t2, Some true) ∷ []))) ∷ []) None ∷ []
unfolding u8_spelling u16_spelling u32_spelling u64_spelling i64_spelling i32_spelling list ascending text_code short_text_code hash_code id_code element_code key_code moment_code kind_code entry_code meta_code commit_code table_code namespace_code of_table of_namespace content_code emptied_fault changes_of op_fault judge entries commit_bytes content_bytes with_commit with_content expired_keys given_ops given_request request_commit commit_opening needs_commit_room step_commit needs_contents step_create step_assign step_delete history references_page answer_reference answer_entries history_item answer_history answer_contents answer_content entry_made attempt script
a_history_with_its_contents = refl

a_commit_is_shown_whole : history_item [] false (unknown, record { parent = H0; merge_parent = Some unknown; generation = 9; time = 5; meta = record note { message = codes "two" }; ops = (t1, None) ∷ [] })
    ≡ record { hash = unknown; parent = H0; merge_parent = Some unknown; time = 5; meta = record note { message = codes "two" }; operations = None }
unfolding u8_spelling u16_spelling u32_spelling u64_spelling i64_spelling i32_spelling list ascending text_code short_text_code hash_code id_code element_code key_code moment_code kind_code entry_code meta_code commit_code table_code namespace_code of_table of_namespace content_code emptied_fault changes_of op_fault judge entries commit_bytes content_bytes with_commit with_content expired_keys given_ops given_request request_commit commit_opening needs_commit_room step_commit needs_contents step_create step_assign step_delete history references_page answer_reference answer_entries history_item answer_history answer_contents answer_content entry_made attempt script
a_commit_is_shown_whole = refl

-- ---- contents

abbrev asked : Option (List ℕ) → Option Hash → List Key → Request
asked name hash keys = Ok (Read (asks.Contents (record { at = position name hash; keys = keys })))

contents_as_they_are_asked_for : pages later (asked (Some main) None (t1 ∷ t9 ∷ t0 ∷ t1 ∷ t2 ∷ []) ∷ asked (Some main) (Some (head two)) (t2 ∷ t0 ∷ []) ∷ asked None (Some H0) (t1 ∷ []) ∷ asked (Some main) None [] ∷ asked (Some main) (Some unknown) [] ∷ [])
    ≡ contents 3 (head later) (t1 ∷ t0 ∷ t1 ∷ []) ∷ contents 3 (head two) (t2 ∷ []) ∷ contents 3 H0 [] ∷ contents 3 (head later) [] ∷ not (Some 3) RefNotFound ∷ []
unfolding u8_spelling u16_spelling u32_spelling u64_spelling i64_spelling i32_spelling list ascending text_code short_text_code hash_code id_code element_code key_code moment_code kind_code entry_code meta_code commit_code table_code namespace_code of_table of_namespace content_code emptied_fault changes_of op_fault judge entries commit_bytes content_bytes with_commit with_content expired_keys given_ops given_request request_commit commit_opening needs_commit_room step_commit needs_contents step_create step_assign step_delete history references_page answer_reference answer_entries history_item answer_history answer_contents answer_content entry_made attempt script
contents_as_they_are_asked_for = refl

contents_that_were_swept : pages (at_state later (record later.book.state { present = [] })) (asked (Some main) None (t1 ∷ []) ∷ []) ≡ contents 3 (head later) [] ∷ []
unfolding u8_spelling u16_spelling u32_spelling u64_spelling i64_spelling i32_spelling list ascending text_code short_text_code hash_code id_code element_code key_code moment_code kind_code entry_code meta_code commit_code table_code namespace_code of_table of_namespace content_code emptied_fault changes_of op_fault judge entries commit_bytes content_bytes with_commit with_content expired_keys given_ops given_request request_commit commit_opening needs_commit_room step_commit needs_contents step_create step_assign step_delete history references_page answer_reference answer_entries history_item answer_history answer_contents answer_content entry_made attempt script
contents_that_were_swept = refl
