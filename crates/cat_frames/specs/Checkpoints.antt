-- The byte format of checkpoints: a state that is written into a journal, and what a history that goes on from it has to know of the one before.
use Rattle.std.specs.Prelude.{ℕ, List, [], ◌∷◌, Bool, ◌&&◌, None, get_or, nat_lt, ◌==◌}
use Rattle.std.specs.Cmp.Lexicographic.{slice_cmp}
use Rattle.std.specs.List.{list_all}
use Rattle.std.specs.Ordering.{nat_cmp}
use Rattle.std.specs.declared.cmp.Ordering.{Ordering}
use Rattle.cat_codes.specs.declared.fault.FieldFault.TheVariants.{Range}
use Rattle.cat_codes.specs.Code.{Code, ◌⊗◌, as_type, ascending_keys, depends, keys_ascend, list, only, prefixed, u32_code, u64_code, within}
use Rattle.cat_names.specs.declared.hash.Hash.{Hash}
use Rattle.cat_names.specs.Fields.{hash_code}
use Rattle.cat_names.specs.RefNames.{ref_name_code}
use Rattle.cat_model.specs.declared.commit.Commit.{Commit}
use Rattle.cat_model.specs.declared.content.Content.{Content}
use Rattle.cat_model.specs.declared.reference.Reference.{Reference}
use Rattle.cat_model.specs.Contents.{content_code}
use Rattle.cat_model.specs.Formats.{commit_code}
use Rattle.cat_model.specs.Same.{same_hash}
use Rattle.cat_model.specs.State.{Digest}
use Rattle.cat_frames.specs.declared.checkpoint.Checkpoint.{Checkpoint}
use Rattle.cat_frames.specs.Sources.{reference_code}
use Rattle.cat_frames.specs.Sweeps.{hash_cmp}
use Rattle.cat_frames.specs.Telling.{told_by}

-- ---- drafts

-- the number of a draft that an earlier history left open: below its greatest one
abbrev pub is_open_draft : ℕ → ℕ → Bool
is_open_draft draft n = nat_lt 0 n && nat_lt n draft

abbrev pub are_open_drafts : ℕ → List ℕ → Bool
are_open_drafts draft open_drafts = list_all (is_open_draft draft) open_drafts

-- such numbers, which ascend and are distinct
unfoldable pub numbers_code : Code (List ℕ)
numbers_code = ascending_keys nat_cmp u64_code

unfoldable pub open_code : ℕ → Code (List ℕ)
open_code draft = only Range (are_open_drafts draft) numbers_code

-- ---- references

-- by their names
abbrev pub name_cmp : Reference → Reference → Ordering
name_cmp a b = slice_cmp nat_cmp a.name b.name

-- a name, a kind and a head
unfoldable pub named_code : Code Reference
named_code = as_type (λ r. (r.name, (r.kind, r.head))) (λ x. record { name = x.0; kind = x.1.0; head = x.1.1 }) (ref_name_code ⊗ reference_code ⊗ hash_code)

-- references whose names ascend and are distinct
unfoldable pub references_code : Code (List Reference)
references_code = ascending_keys name_cmp named_code

-- ---- records under the hashes of their bytes

-- the hash of a record's bytes
abbrev pub record_hash : {A : Type 0} → Digest → Code A → A → Hash
record_hash digest a x = record { bytes = digest (a.spell x) }

-- a record within its length; its hash isn't written, since its bytes tell it
abbrev pub hashed : {A : Type 0} → Digest → Code A → Code (Hash × A)
hashed digest a = told_by (λ x. x.1) (λ y. (record_hash digest a y, y)) (within u32_code a)

-- the record stands under its hash
abbrev pub has_hash : {A : Type 0} → Digest → Code A → Hash × A → Bool
has_hash digest a x = same_hash x.0 (record_hash digest a x.1)

abbrev pub have_hashes : {A : Type 0} → Digest → Code A → List (Hash × A) → Bool
have_hashes digest a xs = list_all (has_hash digest a) xs

-- by their hashes
abbrev pub by_hash : {A : Type 0} → Hash × A → Hash × A → Ordering
by_hash x y = hash_cmp x.0 y.0

-- commits, the oldest first
unfoldable pub commits_code : Digest → Code (List (Hash × Commit))
commits_code digest = list (hashed digest commit_code)

-- contents whose hashes ascend and are distinct
unfoldable pub contents_code : Digest → Code (List (Hash × Content))
contents_code digest = ascending_keys by_hash (hashed digest content_code)

-- ---- checkpoints

-- the bytes are of the kind of a checkpoint, whether or not they have a reading
abbrev pub is_checkpoint : List ℕ → Bool
is_checkpoint bytes = get_or bytes 0 0 == 8

-- the number of the kind, the place, the greatest draft number of the log, the numbers below it of drafts that are open, references, commits and contents
unfoldable pub checkpoint_code : Digest → Code Checkpoint
checkpoint_code digest = prefixed (8 ∷ []) (as_type
    (λ c. (c.place, (c.draft, (c.drafts, (c.references, (c.commits, c.contents))))))
    (λ x. record { place = x.0; draft = x.1.0; drafts = x.1.1.0; references = x.1.1.1.0; commits = x.1.1.1.1.0; contents = x.1.1.1.1.1 })
    (u32_code ⊗ depends u64_code (λ draft. open_code draft ⊗ references_code ⊗ commits_code digest ⊗ contents_code digest)))

-- the checkpoints that have a spelling, where each field fits its type
abbrev pub are_drafts_spelled : Checkpoint → Bool
are_drafts_spelled c = keys_ascend nat_cmp None c.drafts && are_open_drafts c.draft c.drafts

abbrev pub are_contents_spelled : Digest → List (Hash × Content) → Bool
are_contents_spelled digest xs = keys_ascend by_hash None xs && have_hashes digest content_code xs

unfoldable pub is_spelled : Digest → Checkpoint → Bool
is_spelled digest c =
    are_drafts_spelled c
    && keys_ascend name_cmp None c.references
    && have_hashes digest commit_code c.commits
    && are_contents_spelled digest c.contents
