-- Calls, sweeps and logs pass no limit of a state that passes none.
use Rattle.std.proofs.Common.{◌≡◌, ◌≤◌, ◌<◌, ◌⊎◌, inl, inr, ℕ, suc, ◌+◌, max, List, [], ◌∷◌, length, map, Option, Some, None, Result, Ok, Err, Bool, true, false, not, ◌&&◌, ◌||◌, nat_eq, nat_le, nat_lt, codes, is_some, if◌then◌else◌, refl, sym, ap, subst, ◌∙◌, ltb-true, arith}
use Rattle.std.specs.Cmp.Lexicographic.{bytes_decides}
use Rattle.std.specs.Option.{option_map, option_or}
use Rattle.std.specs.Str.{bytes_eq}
use Rattle.std.proofs.Math.Nat.{le-max_right}
use Rattle.std.proofs.lemmas.Bool.{le-leb, leb-true}
use Rattle.cat_codes.specs.ListLaws.{and_true}
use Rattle.cat_names.specs.declared.hash.Hash.{Hash}
use Rattle.cat_model.specs.declared.command.Assign.{Assign}
use Rattle.cat_model.specs.declared.command.Create.{Create}
use Rattle.cat_model.specs.declared.command.Delete.{Delete}
use Rattle.cat_model.specs.declared.commit.Commit.{Commit}
use Rattle.cat_model.specs.declared.content.Content.{Content}
use Rattle.cat_model.specs.declared.limits.Quantity.TheVariants as quantities
use Rattle.cat_model.specs.declared.reference.Reference.{Reference}
use Rattle.cat_model.specs.declared.refusal.Refusal.{Refusal}
use Rattle.cat_model.specs.declared.refusal.Refusal.TheVariants.{Collision}
use Rattle.cat_model.specs.Chain.{Commits, commit_of}
use Rattle.cat_model.specs.Contents.{content_code}
use Rattle.cat_model.specs.Formats.{commit_code}
use Rattle.cat_model.specs.Maps.{Map}
use Rattle.cat_model.specs.Moves.{needs_contents, needs_head, needs_log, needs_new_name, needs_other_than_default, step_assign, step_create, step_delete}
use Rattle.cat_model.specs.Records.{added, commit_bytes, content_bytes, with_commit, with_content, with_contents}
use Rattle.cat_model.specs.Refusing.{◌>>=◌, Outcome, named, needs, needs_kind, needs_room, needs_source_kind, perhaps_named, pointed}
use Rattle.cat_model.specs.Same.{same_hash}
use Rattle.cat_model.specs.State.{Digest, State, commit_hash, content_hash, moved_reference, no_ancestor, with_reference, without_reference}
use Rattle.cat_frames.specs.Standing.{is_within, knows, maps_pass}
use Rattle.cat_checks.specs.MainLaws.{passed}
use Rattle.cat_checks.specs.SizeLaws.{as_many_mapped, no_more_left, one_reference_more}

-- ---- states within their limits

abbrev pub has_few : ℕ → Map → Bool
has_few keys map = nat_le (length map) keys

-- it has no more than its limits say
pub record IsWithin (s : State) : Type 0 where
  pub references : length s.references ≤ max 1 s.limits.references
  pub log : s.place ≤ s.limits.log
  pub commits : length s.commits ≤ s.limits.commits
  pub keys : maps_pass (has_few s.limits.keys) s.commits ≡ true
  pub contents : length s.present ≤ s.limits.contents

pub within_is : (s : State) → is_within s ≡ true → IsWithin s
unfolding is_within
within_is s is =
    let one = nat_le (length s.references) (max 1 s.limits.references) in
    let two = nat_le s.place s.limits.log in
    let three = nat_le (length s.commits) s.limits.commits in
    let four = maps_pass (has_few s.limits.keys) s.commits in
    let five = nat_le (length s.present) s.limits.contents in
    let a = and_true (one && two && three && four) five is in
    let b = and_true (one && two && three) four a.0 in
    let c = and_true (one && two) three b.0 in
    let d = and_true one two c.0 in
    record { references = leb-true _ _ d.0; log = leb-true _ _ d.1; commits = leb-true _ _ c.1; keys = b.1; contents = leb-true _ _ a.1 }

pub is_within_by : (s : State) → IsWithin s → is_within s ≡ true
unfolding is_within
is_within_by s w = λ i. le-leb _ _ w.references i && le-leb _ _ w.log i && le-leb _ _ w.commits i && w.keys i && le-leb _ _ w.contents i

-- a state one entry on
pub next_within : (a : State) (references : List Reference) (commits : Commits) (present : List (Hash × Content)) → a.place < a.limits.log → length references ≤ max 1 a.limits.references → length commits ≤ a.limits.commits
    → maps_pass (has_few a.limits.keys) commits ≡ true → length present ≤ a.limits.contents → IsWithin (record a { place = a.place + 1; references = references; commits = commits; present = present })
next_within a references commits present log few many keys contents = record { references = few; log = omega (arith, log); commits = many; keys = keys; contents = contents }

-- ---- outcomes

abbrev pub WithinOn : Outcome → Type 0
WithinOn (Ok x) = IsWithin x.0
WithinOn (Err why) = Unit {0}

pub bind : {A : Type 0} (r : Result A Refusal) (f : A → Outcome) → ((x : A) → r ≡ Ok x → WithinOn (f x)) → WithinOn (r >>= f)
bind (Ok x) f h = h x refl
bind (Err why) f h = tt

pub room : (count limit : ℕ) (why : Refusal) (u : Unit {0}) → needs (nat_lt count limit) why ≡ Ok u → count < limit
room count limit why u is = ltb-true count limit (passed (nat_lt count limit) why u is)

pub at_most : (count limit : ℕ) (why : Refusal) (u : Unit {0}) → needs (nat_le count limit) why ≡ Ok u → count ≤ limit
at_most count limit why u is = leb-true count limit (passed (nat_le count limit) why u is)

-- what a test was that others follow
pub first_of : {A B : Type 0} (r : Result A Refusal) (f : A → Result B Refusal) (y : B) → (r >>= f) ≡ Ok y → (x : A) × (r ≡ Ok x) × (f x ≡ Ok y)
first_of (Ok x) f y is = (x, refl, is)
first_of (Err why) f y is = absurd cc

-- ---- references

pub create_within : (digest : Digest) (a : State) (c : Create) → IsWithin a → WithinOn (step_create digest a c)
unfolding step_create
create_within digest a c w =
    bind (perhaps_named a c.source.name) _ (λ source e.
    bind (needs_source_kind c.source_kind source) _ (λ u e.
    bind (pointed digest a source c.source.hash) _ (λ hash e.
    bind (needs_new_name a c.name) _ (λ u e.
    bind (needs_room (length a.references) a.limits.references quantities.References) _ (λ u few.
    bind (needs_log a) _ (λ v log.
    bind (needs_contents a hash) _ (λ u e.
    let reference : Reference = record { name = c.name; kind = c.kind; head = hash } in
    let fewer : length a.references < a.limits.references = room (length a.references) a.limits.references _ u few in
    let low : length (with_reference a.references reference) ≤ max 1 a.limits.references = omega (arith, fewer, one_reference_more a.references reference, le-max_right 1 a.limits.references) in
    next_within a (with_reference a.references reference) a.commits a.present (room a.place a.limits.log _ v log) low w.commits w.keys w.contents)))))))

pub moved_low : (a : State) (moved : Reference) → IsWithin a → length (moved_reference a.references moved) ≤ max 1 a.limits.references
moved_low a moved w = omega (arith, w.references, as_many_mapped (λ (r : Reference). if bytes_eq r.name moved.name then moved else r) a.references)

pub assign_within : (digest : Digest) (a : State) (c : Assign) → IsWithin a → WithinOn (step_assign digest a c)
unfolding step_assign
assign_within digest a c w =
    bind (named a c.name) _ (λ reference e.
    bind (perhaps_named a c.source.name) _ (λ source e.
    bind (needs_kind c.kind reference) _ (λ u e.
    bind (needs_source_kind c.source_kind source) _ (λ u e.
    bind (pointed digest a source c.source.hash) _ (λ hash e.
    bind (needs_log a) _ (λ v log.
    bind (needs_head c.expected reference.head) _ (λ u e.
    bind (needs_contents a hash) _ (λ u e.
    let moved : Reference = record reference { head = hash } in
    next_within a (moved_reference a.references moved) a.commits a.present (room a.place a.limits.log _ v log) (moved_low a moved w) w.commits w.keys w.contents))))))))

pub delete_within : (a : State) (c : Delete) → IsWithin a → WithinOn (step_delete a c)
unfolding step_delete
delete_within a c w =
    bind (named a c.name) _ (λ reference e.
    bind (needs_other_than_default c.name) _ (λ u e.
    bind (needs_kind c.kind reference) _ (λ u e.
    bind (needs_log a) _ (λ v log.
    bind (needs_head c.expected reference.head) _ (λ u e.
    let low : length (without_reference a.references c.name) ≤ max 1 a.limits.references = omega (arith, w.references, no_more_left (λ (r : Reference). not (bytes_eq r.name c.name)) a.references) in
    next_within a (without_reference a.references c.name) a.commits a.present (room a.place a.limits.log _ v log) low w.commits w.keys w.contents)))))

-- ---- additions

-- there is a commit of these bytes
abbrev pub IsThere : Commits → Hash → List ℕ → Type 0
IsThere commits hash bytes = (kept : Commit) × (commit_of commits hash ≡ Some kept) × ((commit_code).spell kept ≡ bytes)

-- a commit was there, or was added
abbrev pub CommitOn : Digest → State → Hash → Commit → Result State Refusal → Type 0
CommitOn digest x hash c (Ok y) =
    ((y ≡ x) × (knows digest x.commits hash ≡ true) × IsThere x.commits hash ((commit_code).spell c))
    ⊎ ((commit_of x.commits hash ≡ None) × (same_hash (no_ancestor digest) hash ≡ false) × (y ≡ record x { commits = (hash, c) ∷ x.commits }))
CommitOn digest x hash c (Err why) = Unit {0}

first_byte : List ℕ → ℕ
first_byte [] = 0
first_byte (byte ∷ bytes) = byte

-- no commit has the bytes of the hash that has no ancestor
not_empty : (c : Commit) → codes "empty" ≡ (commit_code).spell c → ⊥
unfolding commit_code first_byte
not_empty c is = let no : false ≡ true = ap (λ (l : List ℕ). nat_eq (first_byte l) 78) is in absurd cc

commit_kept : (digest : Digest) (x : State) (hash : Hash) (c : Commit) (bytes : List ℕ) (why : Refusal) → knows digest x.commits hash ≡ true → (bytes ≡ (commit_code).spell c → IsThere x.commits hash ((commit_code).spell c))
    → CommitOn digest x hash c (if bytes_eq bytes ((commit_code).spell c) then Ok x else Err why)
commit_kept digest x hash c bytes why known there = by (bytes_eq bytes ((commit_code).spell c)) refl
  where
    by : (t : Bool) → bytes_eq bytes ((commit_code).spell c) ≡ t → CommitOn digest x hash c (if t then Ok x else Err why)
    by true e = inl (refl, known, there ((bytes_decides bytes ((commit_code).spell c)).0 e))
    by false e = tt

-- by what is there under its hash
commit_added : (digest : Digest) (x : State) (hash : Hash) (c : Commit) (found : Option Commit) (none : Bool) → commit_of x.commits hash ≡ found → same_hash (no_ancestor digest) hash ≡ none
    → CommitOn digest x hash c (added x (record x { commits = (hash, c) ∷ x.commits }) hash (option_or (option_map (λ (k : Commit). (commit_code).spell k) found) (if none then Some (codes "empty") else None)) ((commit_code).spell c))
commit_added digest x hash c (Some k) none is e =
    commit_kept digest x hash c ((commit_code).spell k) (Collision hash ((commit_code).spell k) ((commit_code).spell c)) (ap (λ (o : Option Commit). is_some o || same_hash (no_ancestor digest) hash) is) (λ same. (k, is, same))
commit_added digest x hash c None true is e =
    commit_kept digest x hash c (codes "empty") (Collision hash (codes "empty") ((commit_code).spell c)) (ap (λ (o : Option Commit). is_some o || same_hash (no_ancestor digest) hash) is ∙ e) (λ same. absurd (not_empty c same))
commit_added digest x hash c None false is e = inr (is, e, refl)

commit_on : (digest : Digest) (x : State) (c : Commit) → CommitOn digest x (commit_hash digest c) c (with_commit digest x c)
unfolding with_commit commit_bytes
commit_on digest x c = commit_added digest x (commit_hash digest c) c (commit_of x.commits (commit_hash digest c)) (same_hash (no_ancestor digest) (commit_hash digest c)) refl refl

pub commit_to : (digest : Digest) (x y : State) (c : Commit) → with_commit digest x c ≡ Ok y → CommitOn digest x (commit_hash digest c) c (Ok y)
commit_to digest x y c is = subst (CommitOn digest x (commit_hash digest c) c) is (commit_on digest x c)

-- contents were added, at most so many
abbrev pub ContentsOn : State → ℕ → Result State Refusal → Type 0
ContentsOn x n (Ok y) = (present : List (Hash × Content)) × (y ≡ record x { present = present }) × (length present ≤ length x.present + n)
ContentsOn x n (Err why) = Unit {0}

content_kept : (x : State) (test : Bool) (why : Refusal) → ContentsOn x 1 (if test then Ok x else Err why)
content_kept x true why = (x.present, refl, omega arith)
content_kept x false why = tt

content_added : (x : State) (hash : Hash) (c : Content) (kept : Option (List ℕ)) (bytes : List ℕ) → ContentsOn x 1 (added x (record x { present = (hash, c) ∷ x.present }) hash kept bytes)
content_added x hash c None bytes = ((hash, c) ∷ x.present, refl, omega arith)
content_added x hash c (Some kept) bytes = content_kept x (bytes_eq kept bytes) (Collision hash kept bytes)

content_on : (digest : Digest) (x : State) (c : Content) → ContentsOn x 1 (with_content digest x c)
unfolding with_content
content_on digest x c = content_added x (content_hash digest c) c (content_bytes x (content_hash digest c)) ((content_code).spell c)

contents_bind : (x : State) (n : ℕ) (r : Result State Refusal) (f : State → Result State Refusal) → ContentsOn x 1 r → ((present : List (Hash × Content)) → ContentsOn (record x { present = present }) n (f (record x { present = present }))) → ContentsOn x (suc n) (r >>= f)
contents_bind x n (Err why) f on more = tt
contents_bind x n (Ok y) f on more = subst (λ (z : State). ContentsOn x (suc n) (f z)) (sym on.1) (by (f (record x { present = on.0 })) (more on.0))
  where
    by : (s : Result State Refusal) → ContentsOn (record x { present = on.0 }) n s → ContentsOn x (suc n) s
    by (Ok z) held = let low : length on.0 ≤ length x.present + 1 = on.2 in let high : length held.0 ≤ length on.0 + n = held.2 in (held.0, held.1, omega (arith, low, high))
    by (Err why) held = tt

pub contents_on : (digest : Digest) (contents : List Content) (x : State) → ContentsOn x (length contents) (with_contents digest x contents)
contents_on digest [] x = (x.present, refl, omega arith)
contents_on digest (c ∷ contents) x = contents_bind x (length contents) (with_content digest x c) (λ more. with_contents digest more contents) (content_on digest x c) (λ present. contents_on digest contents (record x { present = present }))
