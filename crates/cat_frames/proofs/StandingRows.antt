-- Worked cases of states from which a log may start, and of others.
use Rattle.std.specs.Prelude.{◌≡◌, refl, ℕ, List, [], ◌∷◌, Option, Some, None, true, false, codes}
use Rattle.cat_names.specs.declared.hash.Hash.{Hash}
use Rattle.cat_names.specs.Fields.{Key}
use Rattle.cat_model.specs.declared.commit.Commit.{Commit}
use Rattle.cat_model.specs.declared.content.Content.{Content}
use Rattle.cat_model.specs.declared.content.Body.TheVariants as bodies
use Rattle.cat_model.specs.declared.entry.ContentKind.{ContentKind}
use Rattle.cat_model.specs.declared.entry.ContentKind.TheVariants.{IcebergTable, Namespace}
use Rattle.cat_model.specs.declared.entry.Entry.{Entry}
use Rattle.cat_model.specs.declared.limits.Limits.{Limits}
use Rattle.cat_model.specs.declared.reference.Kind.{Kind}
use Rattle.cat_model.specs.declared.reference.Kind.TheVariants.{Branch, Tag}
use Rattle.cat_model.specs.declared.reference.Reference.{Reference}
use Rattle.cat_model.specs.Chain.{entries}
use Rattle.cat_model.specs.Namespaces.{is_well_formed}
use Rattle.cat_model.specs.State.{State, first_state}
use Rattle.cat_frames.specs.Standing.{is_whole, is_within, may_start, stands_above}

-- a digest by which the hash that has no ancestor has no bytes
abbrev none : List ℕ → List ℕ
none bytes = []

abbrev at : ℕ → Hash
at b = record { bytes = b ∷ [] }

abbrev nowhere : Hash
nowhere = record { bytes = [] }

abbrev limits : Limits
limits = record { references = 2; log = 3; commits = 2; keys = 2; contents = 1; names = 4; drafts = 4 }

abbrev branch : List ℕ → Hash → Reference
branch name head = record { name = name; kind = Branch; head = head }

abbrev key : ℕ → Key
key b = (b ∷ []) ∷ []

abbrev entry : ContentKind → ℕ → Entry
entry kind b = record { kind = kind; id = record { bytes = b ∷ [] }; hash = at b }

-- a commit above another that puts tables at keys, each with the content of the same number
abbrev commit : Hash → ℕ → List (Key × Option Entry) → Commit
commit parent generation ops = record {
  parent = parent;
  merge_parent = None;
  generation = generation;
  time = 7;
  meta = record { message = []; authors = []; signed = []; properties = []; author_time = None };
  ops = ops;
}

abbrev puts : ℕ → Key × Option Entry
puts b = (key b, Some (entry IcebergTable b))

abbrev content : ℕ → Hash × Content
content b = (at b, record { id = record { bytes = b ∷ [] }; body = bodies.Namespace (record { elements = []; properties = [] }) })

-- the branch main at commit 1, which puts the table 9
abbrev one : State
one = record {
  place = 1;
  references = branch (codes "main") (at 1) ∷ [];
  commits = (at 1, commit nowhere 1 (puts 9 ∷ [])) ∷ [];
  present = content 9 ∷ [];
  limits = limits;
}

-- with commit 2 above commit 1
abbrev two : Commit → State
two c = record one { place = 2; commits = (at 2, c) ∷ one.commits }

-- ---- cases

begins : may_start none (first_state none limits) ≡ true
unfolding is_whole is_within is_well_formed entries
begins = refl

goes_on : (may_start none one ≡ true) × (may_start none (two (commit (at 1) 2 (puts 8 ∷ []))) ≡ true)
unfolding is_whole is_within is_well_formed entries
goes_on = (refl, refl)

-- main is gone, or is a tag; a head isn't known
references : (is_whole none (record one { references = branch (codes "dev") (at 1) ∷ [] }) ≡ false)
    × (is_whole none (record one { references = record { name = codes "main"; kind = Tag; head = at 1 } ∷ [] }) ≡ false)
    × (is_whole none (record one { references = branch (codes "main") (at 3) ∷ [] }) ≡ false)
unfolding is_whole is_well_formed entries
references = (refl, refl, refl)

-- a generation that isn't one more than the parent's, a parent that isn't known, a hash that comes twice, and the hash that has no ancestor
commits : (is_whole none (two (commit (at 1) 1 [])) ≡ false)
    × (is_whole none (two (commit (at 1) 3 [])) ≡ false)
    × (is_whole none (two (commit (at 3) 1 [])) ≡ false)
    × (is_whole none (record (two (commit (at 1) 2 [])) { commits = (at 1, commit (at 1) 2 []) ∷ one.commits }) ≡ false)
    × (is_whole none (record (two (commit (at 1) 2 [])) { commits = (nowhere, commit (at 1) 2 []) ∷ one.commits }) ≡ false)
unfolding is_whole is_well_formed entries
commits = (refl, refl, refl, refl, refl)

-- a merge's other parent counts for its generation, and has to be known
merges : (stands_above none one.commits (at 2) (record (commit nowhere 2 []) { merge_parent = Some (at 1) }) ≡ true)
    × (stands_above none one.commits (at 2) (record (commit nowhere 1 []) { merge_parent = Some (at 1) }) ≡ false)
    × (stands_above none one.commits (at 2) (record (commit nowhere 1 []) { merge_parent = Some (at 3) }) ≡ false)
merges = (refl, refl, refl)

-- a content that is visible at a head is gone; one that is visible at no head may be
contents : (is_whole none (record one { present = [] }) ≡ false)
    × (is_whole none (record one { references = branch (codes "main") nowhere ∷ []; present = [] }) ≡ true)
unfolding is_whole is_well_formed entries
contents = (refl, refl)

-- a key below one that is no namespace
keys : is_whole none (record one { commits = (at 1, commit nowhere 1 (puts 9 ∷ ((9 ∷ []) ∷ (1 ∷ []) ∷ [], Some (entry IcebergTable 9)) ∷ [])) ∷ [] }) ≡ false
unfolding is_whole is_well_formed entries
keys = refl

-- as much as the limits say, and one more; one reference there may be where they say none
sizes : (is_within one ≡ true)
    × (is_within (record one { place = 3 }) ≡ true)
    × (is_within (record one { place = 4 }) ≡ false)
    × (is_within (record one { limits = record limits { references = 0 } }) ≡ true)
    × (is_within (record one { references = branch (codes "dev") (at 1) ∷ one.references; limits = record limits { references = 0 } }) ≡ false)
    × (is_within (record one { limits = record limits { commits = 0 } }) ≡ false)
    × (is_within (record one { limits = record limits { keys = 0 } }) ≡ false)
    × (is_within (record one { limits = record limits { contents = 0 } }) ≡ false)
unfolding is_within entries
sizes = (refl, refl, refl, refl, refl, refl, refl, refl)
