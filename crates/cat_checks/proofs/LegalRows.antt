-- Worked cases of entries that are legal, and of others.
use Rattle.std.specs.Prelude.{◌≡◌, refl, ℕ, zero, suc, List, [], ◌∷◌, Option, Some, None, Bool, true, false, codes}
use Rattle.std.proofs.Common.{ap}
use lib.Utf8.{encode}
use Rattle.cat_codes.specs.Code.{ascending_keys, list, u8_spelling, u16_spelling, u32_spelling, u64_spelling}
use Rattle.cat_codes.specs.Texts.{text_code}
use Rattle.cat_names.specs.Fields.{hash_code}
use Rattle.cat_names.specs.declared.hash.Hash.{Hash}
use Rattle.cat_names.specs.RefNames.{ref_name_code}
use Rattle.cat_model.specs.declared.command.Command.{Command}
use Rattle.cat_model.specs.declared.command.Command.TheVariants as commands
use Rattle.cat_model.specs.declared.command.Merge.{Merge}
use Rattle.cat_model.specs.declared.content.Content.{Content}
use Rattle.cat_model.specs.declared.cutoff.Cutoff.{Cutoff}
use Rattle.cat_model.specs.declared.cutoff.Cutoff.TheVariants as cutoffs
use Rattle.cat_model.specs.declared.cutoff.Pattern.{Pattern}
use Rattle.cat_model.specs.declared.cutoff.Pattern.TheVariants as patterns
use Rattle.cat_model.specs.declared.limits.Limits.{Limits}
use Rattle.cat_model.specs.declared.log_entry.Action.TheVariants as actions
use Rattle.cat_model.specs.declared.log_entry.LogEntry.{LogEntry}
use Rattle.cat_model.specs.declared.reference.Kind.{Kind}
use Rattle.cat_model.specs.declared.reference.Kind.TheVariants.{Branch}
use Rattle.cat_model.specs.declared.sweep.Sweep.{Sweep}
use Rattle.cat_model.specs.Book.{Book, first_book}
use Rattle.cat_model.specs.Calls.{attempt, entry_made}
use Rattle.cat_model.specs.Chain.{entries}
use Rattle.cat_model.specs.Cutoffs.{live, live_from}
use Rattle.cat_model.specs.Formats.{moment_code}
use Rattle.cat_model.specs.Moves.{needs_contents, step_create}
use Rattle.cat_model.specs.Records.{expired_keys}
use Rattle.cat_model.specs.State.{State}
use Rattle.cat_model.specs.Sweeps.{kept_contents, live_since, needs_sweep_room, saved, step_sweep, sweep_call, sweep_entry}
use Rattle.cat_model.specs.Turns.{Opened}
use Rattle.cat_model.specs.WellMade.{is_well_made}
use Rattle.cat_frames.specs.Commands.{create_code}
use Rattle.cat_frames.specs.Entries.{log_entry_code}
use Rattle.cat_frames.specs.Sources.{pointer_code, reference_code}
use Rattle.cat_frames.specs.Sweeps.{cutoff_code, resolved_code, sweep_code}
use Rattle.cat_checks.specs.Histories.{IsLegalFrom}
use Rattle.cat_checks.specs.Legal.{IsLegal, draft_is_above, draft_is_new, draft_may_come, is_legal, may_be_swept, replayed_call}
use Rattle.cat_checks.specs.LegalLaws.{legal_is_as_logged}

-- a digest that tells bytes apart by nothing
none : List ℕ → List ℕ
none bytes = []

abbrev limits : Limits
limits = record { references = 4; log = 4; commits = 4; keys = 4; contents = 4; names = 4; drafts = 4 }

abbrev book : Book
book = first_book none limits

-- the branch dev, at a source, with a head
abbrev create : ℕ → ℕ → Option (List ℕ) → List ℕ → LogEntry
create place draft source head = record {
  place = place;
  caller = 0;
  draft = draft;
  moment = 7;
  action = actions.Call (commands.Create (record { name = codes "dev"; kind = Branch; source = record { name = source; hash = None }; source_kind = None }));
  head = Some (record { bytes = head });
}

-- the next place, no draft, the head that is left
creates : (is_legal none book (create 1 0 (Some (codes "main")) []) ≡ true)
    × (is_legal none book (create 2 0 (Some (codes "main")) []) ≡ false)
    × (is_legal none book (create 1 1 (Some (codes "main")) []) ≡ false)
    × (is_legal none book (create 1 0 (Some (codes "main")) (9 ∷ [])) ≡ false)
    × (is_legal none book (create 1 0 (Some (codes "dev")) []) ≡ false)
    × (is_legal none book (create 1 0 None []) ≡ false)
unfolding none entries text_code encode u8_spelling u16_spelling u32_spelling u64_spelling hash_code ref_name_code moment_code entry_made needs_contents step_create expired_keys is_well_made create_code log_entry_code pointer_code reference_code is_legal attempt
creates = (refl, refl, refl, refl, refl, refl)

-- a draft that no entry has, and no draft
drafts : (draft_is_new (create 1 3 None [] ∷ []) 3 ≡ false)
    × (draft_is_new (create 1 3 None [] ∷ []) 4 ≡ true)
    × (draft_is_new (create 1 0 None [] ∷ []) 0 ≡ true)
drafts = (refl, refl, refl)

-- no draft number that was taken before the start
taken : (draft_is_above 3 3 ≡ false)
    × (draft_is_above 3 4 ≡ true)
    × (draft_is_above 3 0 ≡ true)
taken = (refl, refl, refl)

starts : (o : Opened) → IsLegalFrom (record o { draft = 3; drafts = 1 ∷ [] }) (create 1 3 None [] ∷ []) → ⊥
starts o is = let no : false ≡ true = is.drafts.0 in cc

-- but that of a draft that was open then
comes : (o : Opened)
    → (draft_may_come (record o { draft = 3; drafts = 1 ∷ [] }) 1 ≡ true)
    × (draft_may_come (record o { draft = 3; drafts = 1 ∷ [] }) 2 ≡ false)
    × (draft_may_come (record o { draft = 3; drafts = 1 ∷ [] }) 3 ≡ false)
    × (draft_may_come (record o { draft = 3; drafts = 1 ∷ [] }) 4 ≡ true)
comes o = (refl, refl, refl, refl)

-- ---- commands that aren't in their logged form

abbrev asks : Command → Bool
asks (commands.Merge m) = m.conflicts_as_result
asks other = false

-- a merge that asks for its conflicts as a result
abbrev merges : LogEntry → Merge → LogEntry
merges e m = record e { action = actions.Call (commands.Merge (record m { conflicts_as_result = true })) }

flagged : (at : Book) (e : LogEntry) (m : Merge) → IsLegal none at (merges e m) → ⊥
flagged at e m is = let no : false ≡ true = ap asks (legal_is_as_logged none at (merges e m) (commands.Merge (record m { conflicts_as_result = true })) refl is) in cc

abbrev says : Command → Option Kind
says (commands.Create c) = c.source_kind
says other = None

-- the branch dev at main, which is said to be a branch
abbrev telling_kind : Command
telling_kind = commands.Create (record { name = codes "dev"; kind = Branch; source = record { name = Some (codes "main"); hash = None }; source_kind = Some Branch })

abbrev said : LogEntry
said = record (create 1 0 (Some (codes "main")) []) { action = actions.Call telling_kind }

-- it is spelled as the entry that its call logs, and isn't that entry
kinds : (is_legal none book said ≡ true) × (IsLegal none book said → ⊥)
unfolding none entries text_code encode u8_spelling u16_spelling u32_spelling u64_spelling hash_code ref_name_code moment_code entry_made needs_contents step_create expired_keys is_well_made create_code log_entry_code pointer_code reference_code is_legal attempt
kinds = (refl, λ is. let no : None ≡ Some Branch = ap says (legal_is_as_logged none book said telling_kind refl is) in cc)

-- ---- sweeps

-- a sweep that was opened at this place and names these commits and contents
abbrev names : ℕ → List Hash → List Hash → Sweep
names opened commits contents = record { opened = opened; policy = record { default = cutoffs.All; cutoffs = [] }; commits = commits; contents = contents }

abbrev sweeps : ℕ → ℕ → Option Hash → Sweep → LogEntry
sweeps place draft head s = record { place = place; caller = 0; draft = draft; moment = 7; action = actions.Sweep s; head = head }

abbrev hash : List ℕ → Hash
hash bytes = record { bytes = bytes }

-- a log that starts at the place 3
abbrev later : Book
later = let at : State = record (first_book none limits).state { place = 3 } in record { state = at; draft = 2; log = []; base = at }

-- the next place, no draft; known commits, and the hash that has no ancestor is one
swept_once : (is_legal none book (sweeps 1 0 None (names 0 [] [])) ≡ true)
    × (is_legal none book (sweeps 1 0 None (names 0 (hash [] ∷ []) (hash (9 ∷ []) ∷ []))) ≡ true)
    × (is_legal none book (sweeps 1 0 None (names 0 (hash (9 ∷ []) ∷ []) [])) ≡ false)
    × (is_legal none book (sweeps 2 0 None (names 0 [] [])) ≡ false)
    × (is_legal none book (sweeps 1 1 None (names 0 [] [])) ≡ false)
unfolding none list ascending_keys u8_spelling u32_spelling u64_spelling hash_code moment_code log_entry_code is_legal step_sweep sweep_call sweep_entry needs_sweep_room cutoff_code resolved_code sweep_code
swept_once = (refl, refl, refl, refl, refl)

-- it was opened from the place on at which the log starts, and not after the book's place
opened_in : (is_legal none later (sweeps 4 0 None (names 3 [] [])) ≡ true)
    × (is_legal none later (sweeps 4 0 None (names 2 [] [])) ≡ false)
    × (is_legal none later (sweeps 4 0 None (names 4 [] [])) ≡ false)
unfolding none list ascending_keys u8_spelling u32_spelling u64_spelling hash_code moment_code log_entry_code is_legal step_sweep sweep_call sweep_entry needs_sweep_room cutoff_code resolved_code sweep_code
opened_in = (refl, refl, refl)

abbrev head_of : List LogEntry → Option Hash
head_of [] = None
head_of (e ∷ entries) = e.head

-- it leaves no head: one with a head is spelled as the entry that the sweep logs, and isn't that entry
headless : (is_legal none book (sweeps 1 0 (Some (hash [])) (names 0 [] [])) ≡ true) × (IsLegal none book (sweeps 1 0 (Some (hash [])) (names 0 [] [])) → ⊥)
unfolding none list ascending_keys u8_spelling u32_spelling u64_spelling hash_code moment_code log_entry_code is_legal step_sweep sweep_call sweep_entry needs_sweep_room cutoff_code resolved_code sweep_code
headless = (refl, λ is. let no : None ≡ Some (hash []) = ap head_of is.logged in cc)

-- so many patterns
abbrev so_many : ℕ → List (Pattern × Cutoff)
so_many zero = []
so_many (suc n) = (patterns.Name (codes "dev"), cutoffs.All) ∷ so_many n

abbrev ruled : ℕ → Sweep
ruled count = record (names 0 [] []) { policy = record { default = cutoffs.All; cutoffs = so_many count } }

few : (may_be_swept none book (ruled 1_000) ≡ true) × (may_be_swept none book (ruled 1_001) ≡ false)
unfolding none
few = (refl, refl)

-- a book with one content
abbrev holding : Content → Book
holding c = record book { state = record book.state { present = (hash (9 ∷ []), c) ∷ [] } }

-- a content that isn't visible goes, unless it is named
goes : (c : Content) → ((replayed_call none (holding c) (sweeps 1 0 None (names 0 [] []))).state.present ≡ [])
    × ((replayed_call none (holding c) (sweeps 1 0 None (names 0 [] (hash (9 ∷ []) ∷ [])))).state.present ≡ (hash (9 ∷ []), c) ∷ [])
unfolding none entries step_sweep sweep_call needs_sweep_room saved live_since live live_from kept_contents
goes c = (refl, refl)
