-- What is said of commits, as JSON.
use Rattle.std.specs.Prelude.{◌≡◌, ◌≤◌, ℕ, IfSome, List, [], ◌∷◌, Option, Some, None, option_map, codes, false}
use Rattle.serde_json.specs.Data.{Data, string, object, Members, no_members}
use Rattle.serde_json.specs.Find.{as_object, as_str}
use Rattle.serde_json.specs.Written.{has_float, members_have_float}
use Rattle.cat_json.specs.Reading.{◌>>=◌, optional, defaulted, list_as, map_as, Ascends}
use Rattle.cat_json.specs.Writing.{list_data, map_data, ◌+>◌, ◌+?>◌, floatless}
use Rattle.cat_json.specs.Names.{hash_data}
use Rattle.cat_names.specs.declared.hash.Hash.{Hash}
use Rattle.cat_model.specs.declared.commit.Meta.{Meta}
use Rattle.cat_model.specs.declared.commit.Commit.{Commit}
use Rattle.cat_commit.specs.Instants.{moment_as, moment_data}
use Rattle.cat_commit.specs.declared.meta.GivenMeta.{GivenMeta}

-- what is said of a commit: an object, of which each member may be absent or null
unfoldable pub given_meta_as : Data → Option GivenMeta
given_meta_as d =
    as_object d >>= λ _.
    optional as_str (codes "message") d >>= λ message.
    defaulted (list_as as_str) [] (codes "authors") d >>= λ authors.
    defaulted (list_as as_str) [] (codes "allSignedOffBy") d >>= λ signed.
    defaulted (map_as (list_as as_str)) [] (codes "allProperties") d >>= λ properties.
    optional moment_as (codes "authorTime") d >>= λ time.
    Some (record { message = message; authors = authors; signed = signed; properties = properties; author_time = time })

-- what is said where nothing is
abbrev pub nothing_given : GivenMeta
nothing_given = record { message = None; authors = []; signed = []; properties = []; author_time = None }

-- the meta with this message in the place of the one that was given
abbrev pub with_message : List ℕ → GivenMeta → Meta
with_message message given = record { message = message; authors = given.authors; signed = given.signed; properties = given.properties; author_time = given.author_time }

-- all but the message may be absent or null
unfoldable pub meta_as : Data → Option Meta
meta_as d =
    given_meta_as d >>= λ given.
    given.message >>= λ message.
    Some (with_message message given)

-- the names of the properties ascend, and the time is a moment
abbrev pub IsKept : Meta → Type 0
IsKept m = Ascends m.properties × IfSome m.author_time (λ t. t ≤ 253_402_207_200_999_999)

abbrev pub meta_members : Meta → Members
meta_members m = no_members
    +> (codes "allProperties", map_data (list_data string) m.properties)
    +> (codes "allSignedOffBy", list_data string m.signed)
    +?> (codes "authorTime", option_map moment_data m.author_time)
    +> (codes "authors", list_data string m.authors)
    +> (codes "message", string m.message)

abbrev pub meta_data : Meta → Data
meta_data m = object (meta_members m)

-- the parent, then the merge parent
abbrev pub parents_of : Hash → Option Hash → List Hash
parents_of parent None = parent ∷ []
parents_of parent (Some other) = parent ∷ other ∷ []

-- what replies tell of a commit: its meta, its moment, its hash and its parents
abbrev pub told_meta_data : Hash → Hash → Option Hash → ℕ → Meta → Data
told_meta_data hash parent merge_parent time meta = object (meta_members meta
    +> (codes "commitTime", moment_data time)
    +> (codes "hash", hash_data hash)
    +> (codes "parentCommitHashes", list_data hash_data (parents_of parent merge_parent)))

-- the same of a commit in full
abbrev pub commit_meta_data : Hash → Commit → Data
commit_meta_data hash c = told_meta_data hash c.parent c.merge_parent c.time c.meta

-- ---- without floats

no_float_texts : (xs : List (List ℕ)) → has_float (list_data string xs) ≡ false
no_float_texts xs = search floatless

no_float_members : (m : Meta) → members_have_float (meta_members m) ≡ false
no_float_members m = search (floatless, no_float_texts)

pub no_float_meta : (m : Meta) → has_float (meta_data m) ≡ false
no_float_meta m = no_float_members m

pub no_float_told_meta : (hash parent : Hash) (merge_parent : Option Hash) (time : ℕ) (meta : Meta) → has_float (told_meta_data hash parent merge_parent time meta) ≡ false
no_float_told_meta hash parent merge_parent time meta = search (floatless, no_float_members)

pub no_float_commit_meta : (hash : Hash) (c : Commit) → has_float (commit_meta_data hash c) ≡ false
no_float_commit_meta hash c = no_float_told_meta hash c.parent c.merge_parent c.time c.meta
