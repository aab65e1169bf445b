-- States with more contents, commits and entries.
use Rattle.std.specs.Prelude.{◌≡◌, ◌≤◌, ◌+◌, List, ◌-◌, Result, IsTrue, length, drop, map}
use Rattle.sha2.specs.Sha256.{sha256}
use Rattle.cat_names.specs.declared.hash.Hash.{Hash}
use Rattle.cat_model.specs.declared.commit.Commit.{Commit}
use Rattle.cat_model.specs.declared.content.Content.{Content}
use Rattle.cat_model.specs.declared.reference.Reference.{Reference}
use Rattle.cat_model.specs.declared.refusal.Refusal.{Refusal}
use Rattle.cat_model.specs.Chain.{Commits, entries}
use Rattle.cat_model.specs.Formats.{commit_code}
use Rattle.cat_model.specs.Maps.{Map}
use Rattle.cat_model.specs.Moves.{with_references}
use Rattle.cat_model.specs.Records.{with_commit, with_contents}
use Rattle.cat_model.specs.Refusing.{◌>>=◌}
use Rattle.cat_model.specs.State.{State, commit_hash, content_hash, is_known, moved_reference}
use Rattle.cat_state.specs.declared.additions.Additions.{Additions}
use Rattle.cat_state.specs.declared.records.Record.{Record}
use Rattle.cat_frames.specs.Standing.{maps_pass}
use Rattle.cat_state.specs.Changing.{AreNewTo, with_additions}
use Rattle.cat_state.specs.Keeping.{fits}

-- the hashes are the contents'
abbrev pub AreHashesOf : List Hash → List Content → Type 0
AreHashesOf hashes contents = hashes ≡ map (content_hash sha256) contents

-- the record is the commit's
pub record IsRecordOf (c : Commit) (r : Record) : Type 0 where
  pub hash : r.hash ≡ commit_hash sha256 c
  pub bytes : r.bytes.items ≡ (commit_code).spell c
  pub fits : (commit_code).Fits c

-- a state with these contents, the newest first
abbrev pub holding : List (Hash × Content) → State → State
holding contents state = record state { present = contents }

-- a state with these commits, the newest first
abbrev pub keeping : Commits → State → State
keeping commits state = record state { commits = commits }

-- a list is what the older one was, after some more at its front
abbrev pub IsAbove : {A : Type 0} → List A → List A → Type 0
IsAbove older list = drop (length list - length older) list ≡ older

-- additions after a commit of a hash, with the map at it, was added, unless it was there: what was known stays so, it is known, no content was added, and no map has more keys than the limit says where this one and those before have no more
pub record HasCommit (state : State) (old new : Additions) (hash : Hash) (map : Map) : Type 0 where
  pub additions : AreNewTo state new
  pub contents : new.contents ≡ old.contents
  pub grows : (other : Hash) → IsTrue (is_known sha256 (with_additions state old) other) → IsTrue (is_known sha256 (with_additions state new) other)
  pub known : IsTrue (is_known sha256 (with_additions state new) hash)
  pub changed : entries (with_additions state new).commits hash ≡ map
  pub count : length (with_additions state new).commits ≤ length (with_additions state old).commits + 1
  pub few : IsTrue (fits state.limits map) → IsTrue (maps_pass (fits state.limits) (with_additions state old).commits) → IsTrue (maps_pass (fits state.limits) (with_additions state new).commits)

-- a state with more contents, then with one more commit
abbrev pub with_both : State → List Content → Commit → Result State Refusal
with_both state contents c = with_contents sha256 state contents >>= λ held. with_commit sha256 held c

-- a state with an entry more, and a reference moved
abbrev pub moved_state : State → Reference → State
moved_state state moved = with_references state (moved_reference state.references moved)
