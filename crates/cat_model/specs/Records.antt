-- Adding commits and contents, each under the hash of its bytes.
use Rattle.std.specs.Prelude.{ℕ, List, [], ◌∷◌, Option, Some, None, is_none, Result, Ok, Err, if◌then◌else◌, codes, filter, map}
use Rattle.std.specs.Str.{bytes_eq}
use Rattle.std.specs.Option.{option_or, option_map}
use Rattle.cat_names.specs.Fields.{Key}
use Rattle.cat_names.specs.declared.hash.Hash.{Hash}
use Rattle.cat_model.specs.declared.commit.Commit.{Commit}
use Rattle.cat_model.specs.declared.content.Content.{Content}
use Rattle.cat_model.specs.declared.refusal.Refusal.{Refusal}
use Rattle.cat_model.specs.declared.refusal.Refusal.TheVariants.{Collision, Expired}
use Rattle.cat_model.specs.Formats.{commit_code}
use Rattle.cat_model.specs.Contents.{content_code}
use Rattle.cat_model.specs.Same.{same_hash}
use Rattle.cat_model.specs.Chain.{commit_of}
use Rattle.cat_model.specs.Maps.{Map}
use Rattle.cat_model.specs.State.{Digest, State, no_ancestor, commit_hash, content_hash, content_at}
use Rattle.cat_model.specs.Refusing.{◌>>=◌, Tested}

-- the bytes that the catalogue has under a hash as a commit's
unfoldable pub commit_bytes : Digest → State → Hash → Option (List ℕ)
commit_bytes digest state hash =
    option_or (option_map (λ c. (commit_code).spell c) (commit_of state.commits hash))
    (if same_hash (no_ancestor digest) hash then Some (codes "empty") else None)

-- the bytes that it has under a hash as a content's
unfoldable pub content_bytes : State → Hash → Option (List ℕ)
content_bytes state hash = option_map (λ c. (content_code).spell c) (content_at state.present hash)

-- what was there stays if it has the same bytes
abbrev pub added : State → State → Hash → Option (List ℕ) → List ℕ → Result State Refusal
added state more hash None bytes = Ok more
added state more hash (Some kept) bytes = if bytes_eq kept bytes then Ok state else Err (Collision hash kept bytes)

-- the state with one more commit
unfoldable pub with_commit : Digest → State → Commit → Result State Refusal
with_commit digest state c =
    let hash = commit_hash digest c in
    added state (record state { commits = (hash, c) ∷ state.commits }) hash (commit_bytes digest state hash) ((commit_code).spell c)

-- the state with one more content
unfoldable pub with_content : Digest → State → Content → Result State Refusal
with_content digest state c =
    let hash = content_hash digest c in
    added state (record state { present = (hash, c) ∷ state.present }) hash (content_bytes state hash) ((content_code).spell c)

-- the state with more contents, one after the other
abbrev pub with_contents : Digest → State → List Content → Result State Refusal
with_contents digest state [] = Ok state
with_contents digest state (c ∷ contents) = with_content digest state c >>= λ more. with_contents digest more contents

-- the keys of a map whose contents the catalogue doesn't hold
unfoldable pub expired_keys : State → Map → List Key
expired_keys state entries = map (λ x. x.0) (filter (λ x. is_none (content_at state.present x.1.hash)) entries)

-- refused with the keys whose contents are missing, and the place where the call began
abbrev pub needs_no_expired : List Key → ℕ → Tested
needs_no_expired [] place = Ok tt
needs_no_expired (key ∷ keys) place = Err (Expired (key ∷ keys) place)
