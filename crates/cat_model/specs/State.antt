-- The catalogue.
use Rattle.std.specs.Prelude.{ℕ, List, [], ◌∷◌, Option, is_some, Bool, ◌||◌, not, if◌then◌else◌, filter, find, map, codes}
use Rattle.std.specs.Cmp.Lexicographic.{slice_cmp}
use Rattle.std.specs.Ordering.{nat_cmp, is_lt}
use Rattle.std.specs.Str.{bytes_eq}
use Rattle.std.specs.Option.{option_map}
use Rattle.cat_names.specs.Hashes.{id_of_pair}
use Rattle.cat_names.specs.declared.hash.Hash.{Hash}
use Rattle.cat_names.specs.declared.hash.ContentId.{ContentId}
use Rattle.cat_model.specs.declared.commit.Commit.{Commit}
use Rattle.cat_model.specs.declared.content.Content.{Content}
use Rattle.cat_model.specs.declared.entry.Entry.{Entry}
use Rattle.cat_model.specs.declared.limits.Limits.{Limits}
use Rattle.cat_model.specs.declared.reference.Reference.{Reference}
use Rattle.cat_model.specs.declared.reference.Kind.TheVariants.{Branch}
use Rattle.cat_model.specs.Formats.{commit_code}
use Rattle.cat_model.specs.Contents.{content_code, body_kind}
use Rattle.cat_model.specs.Same.{same_hash}
use Rattle.cat_model.specs.Chain.{Commits, commit_of}

-- the digest of bytes; the program's is SHA-256
abbrev pub Digest : Type 0
Digest = List ℕ → List ℕ

-- the hash that is no commit's: the end of every chain
abbrev pub no_ancestor : Digest → Hash
no_ancestor digest = record { bytes = digest (codes "empty") }

-- the hash of a commit's bytes
abbrev pub commit_hash : Digest → Commit → Hash
commit_hash digest c = record { bytes = digest ((commit_code).spell c) }

-- the hash of a content's bytes
abbrev pub content_hash : Digest → Content → Hash
content_hash digest c = record { bytes = digest ((content_code).spell c) }

-- the entry of a content
abbrev pub entry_for : Digest → Content → Entry
entry_for digest c = record { kind = body_kind c.body; id = c.id; hash = content_hash digest c }

-- the id that a draft gives to the content of its operation of an index
abbrev pub fresh_id : ℕ → ℕ → ContentId
fresh_id = id_of_pair

-- a state: how many entries its log has, references by ascending names, commits and contents, the newest first
pub record State : Type 0 where
  pub place : ℕ
  pub references : List Reference
  pub commits : Commits
  pub present : List (Hash × Content)
  pub limits : Limits

-- the state of an empty log: the branch main without a commit
abbrev pub first_state : Digest → Limits → State
first_state digest limits = record {
  place = 0;
  references = record { name = codes "main"; kind = Branch; head = no_ancestor digest } ∷ [];
  commits = [];
  present = [];
  limits = limits;
}

-- ---- look-up

-- the reference of a name
abbrev pub reference_of : List Reference → List ℕ → Option Reference
reference_of references name = find (λ r. bytes_eq r.name name) references

-- the content of a hash
abbrev pub content_at : List (Hash × Content) → Hash → Option Content
content_at present hash = option_map (λ x. x.1) (find (λ x. same_hash x.0 hash) present)

-- the hash of a commit, or the one that has no ancestor
abbrev pub is_known : Digest → State → Hash → Bool
is_known digest state hash = is_some (commit_of state.commits hash) || same_hash (no_ancestor digest) hash

-- ---- changes

-- references with one more, names ascending
abbrev pub with_reference : List Reference → Reference → List Reference
with_reference [] reference = reference ∷ []
with_reference (first ∷ references) reference =
    if is_lt (slice_cmp nat_cmp reference.name first.name) then reference ∷ first ∷ references
    else first ∷ with_reference references reference

-- references without the one of a name
abbrev pub without_reference : List Reference → List ℕ → List Reference
without_reference references name = filter (λ r. not (bytes_eq r.name name)) references

-- references with this one in place of its namesake
abbrev pub moved_reference : List Reference → Reference → List Reference
moved_reference references reference = map (λ r. if bytes_eq r.name reference.name then reference else r) references
