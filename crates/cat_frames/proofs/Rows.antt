-- Worked cases of log entries, in hexadecimal digits.
use Rattle.std.specs.Prelude.{◌≡◌, refl, ℕ, ◌+◌, ◌-◌, ◌*◌, List, [], ◌∷◌, ◌++◌, replicate, take, Option, Some, None, Result, Ok, Err, true, false, codes, nat_lt, if◌then◌else◌}
use lib.Utf8.{encode}
use Rattle.std.specs.Str.{chars, is_utf8}
use Rattle.cat_codes.specs.declared.fault.FieldFault.{FieldFault}
use Rattle.cat_codes.specs.declared.fault.FieldFault.TheVariants.{Short, NotUtf8, Range}
use Rattle.cat_codes.specs.Code.{u8_spelling, u8_at, u16_spelling, u16_at, u32_spelling, u32_at, u64_spelling, u64_at, flag_at, items_at, pairs_at, keys_at, list, ascending, ascending_keys, whole}
use Rattle.cat_codes.specs.Texts.{text_code, short_text_code}
use Rattle.cat_names.specs.declared.hash.Hash.{Hash}
use Rattle.cat_names.specs.Fields.{hash_code, element_code, key_code, is_element, is_count, is_path}
use Rattle.cat_names.specs.RefNames.{ref_name_code, is_reference_name}
use Rattle.cat_model.specs.declared.command.Command.{Command}
use Rattle.cat_model.specs.declared.command.Command.TheVariants as commands
use Rattle.cat_model.specs.declared.cutoff.Cutoff.TheVariants as cutoffs
use Rattle.cat_model.specs.declared.cutoff.Pattern.TheVariants as patterns
use Rattle.cat_model.specs.declared.log_entry.Action.TheVariants as actions
use Rattle.cat_model.specs.declared.log_entry.LogEntry.{LogEntry}
use Rattle.cat_model.specs.declared.sweep.Sweep.{Sweep}
use Rattle.cat_model.specs.Cutoffs.{pattern_of}
use Rattle.cat_model.specs.declared.commit.Meta.{Meta}
use Rattle.cat_model.specs.declared.merging.Modes.{Modes}
use Rattle.cat_model.specs.declared.merging.Behaviour.TheVariants.{Normal, Force, Drop}
use Rattle.cat_model.specs.declared.reference.Kind.TheVariants.{Branch, Tag}
use Rattle.cat_model.specs.Formats.{moment_code, meta_code}
use Rattle.cat_frames.specs.Sources.{pointer_code, reference_code, behaviour_code, modes_code}
use Rattle.cat_frames.specs.Commands.{create_code, assign_code, delete_code, merge_code, transplant_code}
use Rattle.cat_frames.specs.Sweeps.{cutoff_code, pattern_code, resolved_code, sweep_code}
use Rattle.cat_frames.specs.Entries.{log_entry_code, is_logged}

-- a digest that no case asks
none : List ℕ → List ℕ
none bytes = []

abbrev digit : ℕ → ℕ
digit b = if nat_lt b 58 then b - 48 else b - 87

-- the bytes of pairs of digits
abbrev hexed : List ℕ → List ℕ
hexed [] = []
hexed (a ∷ []) = []
hexed (a ∷ b ∷ digits) = (digit a * 16 + digit b) ∷ hexed digits

abbrev hash : ℕ → Hash
hash b = record { bytes = replicate 32 b }

abbrev entry : ℕ → ℕ → Command → Option Hash → LogEntry
entry place draft command head = record { place = place; caller = 0; draft = draft; moment = 1000000; action = actions.Call command; head = head }

abbrev spelled : LogEntry → List ℕ
spelled e = (log_entry_code none).spell e

abbrev read : List ℕ → Result LogEntry FieldFault
read bytes = whole (log_entry_code none) bytes

-- the delete of the branch dev, without kind and hash
abbrev delete : LogEntry
delete = entry 2 0 (commands.Delete (record { name = codes "dev"; kind = None; expected = None })) None

abbrev delete_bytes : List ℕ
delete_bytes = hexed (codes "0300000002000000000000000000000000000f4240000000036465760000")

-- the branch dev, at the head of main
abbrev create : LogEntry
create = entry 1 0 (commands.Create (record { name = codes "dev"; kind = Branch; source = record { name = Some (codes "main"); hash = None }; source_kind = None })) (Some (hash 171))

abbrev create_bytes : List ℕ
create_bytes = hexed (codes "0100000001000000000000000000000000000f42400000000364657601") ++ hexed (codes "01000000046d61696e00") ++ replicate 32 171

-- the tag v1, at a hash
abbrev assign : LogEntry
assign = entry 3 0 (commands.Assign (record { name = codes "v1"; kind = Some Tag; expected = Some (hash 1); source = record { name = None; hash = Some (hash 2) }; source_kind = None })) (Some (hash 2))

abbrev assign_bytes : List ℕ
assign_bytes = hexed (codes "0200000003000000000000000000000000000f424000000002763101020101") ++ replicate 31 1 ++ hexed (codes "000102") ++ replicate 31 2 ++ replicate 32 2

-- a merge of a commit of dev into main
abbrev modes : Modes
modes = record { default = Normal; keys = ((codes "t1" ∷ []), Force) ∷ ((codes "t2" ∷ []), Drop) ∷ [] }

abbrev meta : Meta
meta = record { message = codes "m"; authors = []; signed = []; properties = []; author_time = None }

abbrev merge : LogEntry
merge = entry 4 9 (commands.Merge (record { branch = codes "main"; hash = None; from = codes "dev"; from_hash = hash 3; meta = meta; modes = modes; dry_run = false; conflicts_as_result = false })) (Some (hash 4))

abbrev merge_front : List ℕ
merge_front = hexed (codes "0500000004000000000000000900000000000f4240000000046d61696e0000000003646576") ++ replicate 32 3

abbrev modes_bytes : List ℕ
modes_bytes = hexed (codes "000000000201000274310101000274") ++ hexed (codes "3202")

abbrev merge_bytes : List ℕ
merge_bytes = merge_front ++ hexed (codes "000000016d00000000000000000000000000") ++ modes_bytes ++ replicate 32 4

-- two commits of dev on top of main
abbrev transplant : LogEntry
transplant = entry 5 10 (commands.Transplant (record { branch = codes "main"; hash = Some (hash 4); from = codes "dev"; hashes = hash 5 ∷ hash 6 ∷ []; modes = modes; dry_run = false; conflicts_as_result = false })) (Some (hash 7))

abbrev transplant_bytes : List ℕ
transplant_bytes = hexed (codes "0600000005000000000000000a00000000000f4240000000046d61696e01") ++ replicate 32 4 ++ hexed (codes "0000000364657600000002") ++ replicate 32 5 ++ replicate 32 6 ++ modes_bytes ++ replicate 32 7

-- a create
creates : (spelled create ≡ create_bytes)
    × (read create_bytes ≡ Ok create)
    × (is_logged none create ≡ true)
unfolding encode chars is_utf8 u8_spelling u8_at u16_spelling u16_at u32_spelling u32_at u64_spelling u64_at flag_at items_at pairs_at list ascending whole text_code short_text_code hash_code element_code key_code is_element is_count is_path ref_name_code is_reference_name moment_code meta_code pointer_code reference_code behaviour_code modes_code create_code assign_code delete_code merge_code transplant_code log_entry_code is_logged
creates = (refl, refl, refl)

-- an assign
assigns : (spelled assign ≡ assign_bytes)
    × (read assign_bytes ≡ Ok assign)
    × (is_logged none assign ≡ true)
unfolding encode chars is_utf8 u8_spelling u8_at u16_spelling u16_at u32_spelling u32_at u64_spelling u64_at flag_at items_at pairs_at list ascending whole text_code short_text_code hash_code element_code key_code is_element is_count is_path ref_name_code is_reference_name moment_code meta_code pointer_code reference_code behaviour_code modes_code create_code assign_code delete_code merge_code transplant_code log_entry_code is_logged
assigns = (refl, refl, refl)

-- a delete leaves no head
deletes : (spelled delete ≡ delete_bytes)
    × (read delete_bytes ≡ Ok delete)
    × (is_logged none delete ≡ true)
unfolding encode chars is_utf8 u8_spelling u8_at u16_spelling u16_at u32_spelling u32_at u64_spelling u64_at flag_at items_at pairs_at list ascending whole text_code short_text_code hash_code element_code key_code is_element is_count is_path ref_name_code is_reference_name moment_code meta_code pointer_code reference_code behaviour_code modes_code create_code assign_code delete_code merge_code transplant_code log_entry_code is_logged
deletes = (refl, refl, refl)

-- a merge
merges : (spelled merge ≡ merge_bytes)
    × (read merge_bytes ≡ Ok merge)
    × (is_logged none merge ≡ true)
unfolding encode chars is_utf8 u8_spelling u8_at u16_spelling u16_at u32_spelling u32_at u64_spelling u64_at flag_at items_at pairs_at list ascending whole text_code short_text_code hash_code element_code key_code is_element is_count is_path ref_name_code is_reference_name moment_code meta_code pointer_code reference_code behaviour_code modes_code create_code assign_code delete_code merge_code transplant_code log_entry_code is_logged
merges = (refl, refl, refl)

-- a transplant
transplants : (spelled transplant ≡ transplant_bytes)
    × (read transplant_bytes ≡ Ok transplant)
    × (is_logged none transplant ≡ true)
unfolding encode chars is_utf8 u8_spelling u8_at u16_spelling u16_at u32_spelling u32_at u64_spelling u64_at flag_at items_at pairs_at list ascending whole text_code short_text_code hash_code element_code key_code is_element is_count is_path ref_name_code is_reference_name moment_code meta_code pointer_code reference_code behaviour_code modes_code create_code assign_code delete_code merge_code transplant_code log_entry_code is_logged
transplants = (refl, refl, refl)

-- a kind from 1 to 7, before all else
kinds : (read [] ≡ Err Short)
    × (read (hexed (codes "00")) ≡ Err Range)
    × (read (hexed (codes "01")) ≡ Err Short)
    × (read (hexed (codes "07")) ≡ Err Short)
    × (read (hexed (codes "08")) ≡ Err Range)
    × (read (hexed (codes "ff00000001")) ≡ Err Range)
unfolding encode chars is_utf8 u8_spelling u8_at u16_spelling u16_at u32_spelling u32_at u64_spelling u64_at flag_at items_at pairs_at list ascending whole text_code short_text_code hash_code element_code key_code is_element is_count is_path ref_name_code is_reference_name moment_code meta_code pointer_code reference_code behaviour_code modes_code create_code assign_code delete_code merge_code transplant_code log_entry_code is_logged
kinds = (refl, refl, refl, refl, refl, refl)

-- no draft for creates, assigns, deletes and sweeps, and one for all others
drafts : (read (hexed (codes "01000000010000000000000001")) ≡ Err Range)
    × (read (hexed (codes "02000000010000000000000001")) ≡ Err Range)
    × (read (hexed (codes "03000000010000000000000001")) ≡ Err Range)
    × (read (hexed (codes "04000000010000000000000000")) ≡ Err Range)
    × (read (hexed (codes "05000000010000000000000000")) ≡ Err Range)
    × (read (hexed (codes "06000000010000000000000000")) ≡ Err Range)
    × (read (hexed (codes "05000000010000000000000001")) ≡ Err Short)
    × (read (hexed (codes "06000000010100000000000000")) ≡ Err Short)
    × (read (hexed (codes "07000000010000000000000001")) ≡ Err Range)
    × (read (hexed (codes "07000000010000000000000000")) ≡ Err Short)
unfolding encode chars is_utf8 u8_spelling u8_at u16_spelling u16_at u32_spelling u32_at u64_spelling u64_at flag_at items_at pairs_at list ascending whole text_code short_text_code hash_code element_code key_code is_element is_count is_path ref_name_code is_reference_name moment_code meta_code pointer_code reference_code behaviour_code modes_code create_code assign_code delete_code merge_code transplant_code log_entry_code is_logged
drafts = (refl, refl, refl, refl, refl, refl, refl, refl, refl, refl)

-- the last moment is that of the year 9999
moments : (read (hexed (codes "01000000010000000000000000038443f70183fa3f")) ≡ Err Short)
    × (read (hexed (codes "01000000010000000000000000038443f70183fa40")) ≡ Err Range)
unfolding encode chars is_utf8 u8_spelling u8_at u16_spelling u16_at u32_spelling u32_at u64_spelling u64_at flag_at items_at pairs_at list ascending whole text_code short_text_code hash_code element_code key_code is_element is_count is_path ref_name_code is_reference_name moment_code meta_code pointer_code reference_code behaviour_code modes_code create_code assign_code delete_code merge_code transplant_code log_entry_code is_logged
moments = (refl, refl)

-- a kind of reference is 1 or 2, and a source is a name or a hash
sources : (read (hexed (codes "0100000001000000000000000000000000000f42400000000364657600")) ≡ Err Range)
    × (read (hexed (codes "0100000001000000000000000000000000000f42400000000364657603")) ≡ Err Range)
    × (read (hexed (codes "0100000001000000000000000000000000000f424000000003646576020000")) ≡ Err Range)
    × (read (hexed (codes "0100000001000000000000000000000000000f4240000000036465760202")) ≡ Err Range)
unfolding encode chars is_utf8 u8_spelling u8_at u16_spelling u16_at u32_spelling u32_at u64_spelling u64_at flag_at items_at pairs_at list ascending whole text_code short_text_code hash_code element_code key_code is_element is_count is_path ref_name_code is_reference_name moment_code meta_code pointer_code reference_code behaviour_code modes_code create_code assign_code delete_code merge_code transplant_code log_entry_code is_logged
sources = (refl, refl, refl, refl)

-- a name is UTF-8, and a name of a reference
names : (read (hexed (codes "0100000001000000000000000000000000000f424000000001ff")) ≡ Err NotUtf8)
    × (read (hexed (codes "0100000001000000000000000000000000000f42400000000131")) ≡ Err Range)
unfolding encode chars is_utf8 u8_spelling u8_at u16_spelling u16_at u32_spelling u32_at u64_spelling u64_at flag_at items_at pairs_at list ascending whole text_code short_text_code hash_code element_code key_code is_element is_count is_path ref_name_code is_reference_name moment_code meta_code pointer_code reference_code behaviour_code modes_code create_code assign_code delete_code merge_code transplant_code log_entry_code is_logged
names = (refl, refl)

-- a mode is one of three, and keys ascend
mode_numbers : (read (merge_front ++ hexed (codes "000000016d0000000000000000000000000003")) ≡ Err Range)
    × (read (merge_front ++ hexed (codes "000000016d000000000000000000000000000000000201000274310301")) ≡ Err Range)
    × (read (merge_front ++ hexed (codes "000000016d0000000000000000000000000000000000020100027431000100027431")) ≡ Err Range)
unfolding encode chars is_utf8 u8_spelling u8_at u16_spelling u16_at u32_spelling u32_at u64_spelling u64_at flag_at items_at pairs_at list ascending whole text_code short_text_code hash_code element_code key_code is_element is_count is_path ref_name_code is_reference_name moment_code meta_code pointer_code reference_code behaviour_code modes_code create_code assign_code delete_code merge_code transplant_code log_entry_code is_logged
mode_numbers = (refl, refl, refl)

-- a whole entry, and no more
ends : (read (delete_bytes ++ 0 ∷ []) ≡ Err Range)
    × (read (take 29 delete_bytes) ≡ Err Short)
    × (read (take 56 create_bytes) ≡ Err Short)
    × (read (delete_bytes ++ replicate 32 0) ≡ Err Range)
unfolding encode chars is_utf8 u8_spelling u8_at u16_spelling u16_at u32_spelling u32_at u64_spelling u64_at flag_at items_at pairs_at list ascending whole text_code short_text_code hash_code element_code key_code is_element is_count is_path ref_name_code is_reference_name moment_code meta_code pointer_code reference_code behaviour_code modes_code create_code assign_code delete_code merge_code transplant_code log_entry_code is_logged
ends = (refl, refl, refl, refl)

-- what has no spelling
not_logged : (is_logged none (record create { draft = 1 }) ≡ false)
    × (is_logged none (record create { head = None }) ≡ false)
    × (is_logged none (record delete { head = Some (hash 1) }) ≡ false)
    × (is_logged none (record merge { draft = 0 }) ≡ false)
    × (is_logged none (record merge { caller = 7 }) ≡ true)
unfolding encode chars is_utf8 u8_spelling u8_at u16_spelling u16_at u32_spelling u32_at u64_spelling u64_at flag_at items_at pairs_at list ascending whole text_code short_text_code hash_code element_code key_code is_element is_count is_path ref_name_code is_reference_name moment_code meta_code pointer_code reference_code behaviour_code modes_code create_code assign_code delete_code merge_code transplant_code log_entry_code is_logged
not_logged = (refl, refl, refl, refl, refl)

-- ---- sweeps

-- what the cases of sweeps compute
unfoldable formats : Unit {0}
unfolding encode chars is_utf8 u8_spelling u8_at u16_spelling u16_at u32_spelling u32_at u64_spelling u64_at items_at keys_at list ascending_keys whole text_code hash_code is_reference_name moment_code pattern_of cutoff_code pattern_code resolved_code sweep_code log_entry_code is_logged
formats = tt

-- a sweep that was opened at the place 3
abbrev swept : Sweep → LogEntry
swept sweep = record { place = 4; caller = 0; draft = 0; moment = 1000000; action = actions.Sweep sweep; head = None }

abbrev sweep_front : List ℕ
sweep_front = hexed (codes "0700000004000000000000000000000000000f424000000003")

-- the head alone of each reference, while no draft named anything
abbrev heads : Sweep
heads = record { opened = 3; policy = record { default = cutoffs.Commits 1; cutoffs = [] }; commits = []; contents = [] }

abbrev heads_bytes : List ℕ
heads_bytes = sweep_front ++ hexed (codes "0100000001000000000000000000000000")

-- two commits of main, those of what begins with dev/ since a moment, and all others
abbrev chosen : Sweep
chosen = record {
  opened = 3;
  policy = record { default = cutoffs.All; cutoffs = (patterns.Name (codes "main"), cutoffs.Commits 2) ∷ (patterns.Front (codes "dev/"), cutoffs.Since 1000000) ∷ [] };
  commits = hash 1 ∷ hash 2 ∷ [];
  contents = hash 3 ∷ [];
}

abbrev chosen_bytes : List ℕ
chosen_bytes = sweep_front ++ hexed (codes "0000000002000000046d61696e0100000002") ++ hexed (codes "000000056465762f2a0200000000000f424000000002")
    ++ replicate 32 1 ++ replicate 32 2 ++ hexed (codes "00000001") ++ replicate 32 3

sweeps_heads : (spelled (swept heads) ≡ heads_bytes)
    × (read heads_bytes ≡ Ok (swept heads))
    × (is_logged none (swept heads) ≡ true)
unfolding formats
sweeps_heads = (refl, refl, refl)

sweeps_chosen : (spelled (swept chosen) ≡ chosen_bytes)
    × (read chosen_bytes ≡ Ok (swept chosen))
    × (is_logged none (swept chosen) ≡ true)
unfolding formats
sweeps_chosen = (refl, refl, refl)

-- a cutoff is one of three, and a count isn't 0
cutoffs_are_few : (read (sweep_front ++ hexed (codes "0100000000")) ≡ Err Range)
    × (read (sweep_front ++ hexed (codes "0100000001")) ≡ Err Short)
    × (read (sweep_front ++ hexed (codes "03")) ≡ Err Range)
    × (read (sweep_front ++ hexed (codes "02038443f70183fa3f")) ≡ Err Short)
    × (read (sweep_front ++ hexed (codes "02038443f70183fa40")) ≡ Err Range)
unfolding formats
cutoffs_are_few = (refl, refl, refl, refl, refl)

-- a pattern is a name, or a front and one star at its end: here a*b, **, * and a*
patterns_are_texts : (read (sweep_front ++ hexed (codes "000000000100000003612a62")) ≡ Err Range)
    × (read (sweep_front ++ hexed (codes "0000000001000000022a2a")) ≡ Err Range)
    × (read (sweep_front ++ hexed (codes "0000000001000000012a")) ≡ Err Short)
    × (read (sweep_front ++ hexed (codes "000000000100000002612a")) ≡ Err Short)
    × (read (sweep_front ++ hexed (codes "000000000100000001ff")) ≡ Err NotUtf8)
unfolding formats
patterns_are_texts = (refl, refl, refl, refl, refl)

-- hashes ascend and are distinct
hashes_rise : (read (sweep_front ++ hexed (codes "000000000000000002") ++ replicate 32 2 ++ replicate 32 1) ≡ Err Range)
    × (read (sweep_front ++ hexed (codes "000000000000000002") ++ replicate 32 2 ++ replicate 32 2) ≡ Err Range)
    × (read (sweep_front ++ hexed (codes "00000000000000000000000002") ++ replicate 32 2 ++ replicate 32 2) ≡ Err Range)
unfolding formats
hashes_rise = (refl, refl, refl)

-- a sweep leaves no head
sweeps_end : read (heads_bytes ++ replicate 32 0) ≡ Err Range
unfolding formats
sweeps_end = refl

-- what has no spelling
not_swept : (is_logged none (record (swept heads) { draft = 1 }) ≡ false)
    × (is_logged none (record (swept heads) { head = Some (hash 1) }) ≡ false)
    × (is_logged none (swept (record heads { policy = record { default = cutoffs.Commits 0; cutoffs = [] } })) ≡ false)
    × (is_logged none (swept (record heads { commits = hash 2 ∷ hash 1 ∷ [] })) ≡ false)
    × (is_logged none (swept (record heads { contents = hash 2 ∷ hash 2 ∷ [] })) ≡ false)
unfolding formats
not_swept = (refl, refl, refl, refl, refl)
