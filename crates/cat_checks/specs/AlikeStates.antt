-- States that are the same and have each content once: what tests and additions find on both.
use Rattle.std.proofs.Common.{◌≡◌, ℕ, suc, ◌+◌, List, [], ◌∷◌, length, filter, map, Option, Some, None, Result, Ok, Err, Bool, true, false, is_none, if◌then◌else◌, refl, sym, ap, subst, ◌∙◌}
use Rattle.std.specs.Option.{option_map}
use Rattle.std.specs.Str.{bytes_eq}
use Rattle.cat_names.specs.Fields.{Key}
use Rattle.cat_names.specs.declared.hash.Hash.{Hash}
use Rattle.cat_model.specs.declared.commit.Commit.{Commit}
use Rattle.cat_model.specs.declared.content.Content.{Content}
use Rattle.cat_model.specs.declared.entry.Entry.{Entry}
use Rattle.cat_model.specs.declared.limits.Quantity.TheVariants as quantities
use Rattle.cat_model.specs.declared.reference.Reference.{Reference}
use Rattle.cat_model.specs.declared.refusal.Refusal.{Refusal}
use Rattle.cat_model.specs.declared.refusal.Refusal.TheVariants.{Collision}
use Rattle.cat_model.specs.Chain.{entries}
use Rattle.cat_model.specs.Commits.{needs_commit_room}
use Rattle.cat_model.specs.Contents.{content_code}
use Rattle.cat_model.specs.Formats.{commit_code}
use Rattle.cat_model.specs.Maps.{Map}
use Rattle.cat_model.specs.Moves.{needs_contents, with_references}
use Rattle.cat_model.specs.Records.{added, commit_bytes, content_bytes, expired_keys, needs_no_expired, with_commit, with_content, with_contents}
use Rattle.cat_model.specs.Refusing.{◌>>=◌, needs_at_most, needs_room, perhaps_named, pointed}
use Rattle.cat_model.specs.Resuming.{IsSameState}
use Rattle.cat_model.specs.State.{Digest, State, commit_hash, content_at, content_hash}
use Rattle.cat_tables.specs.ReferenceLaws.{both_true, split}
use Rattle.cat_tables.specs.Tables.{are_distinct, same_hash, value_of}
use Rattle.cat_checks.specs.ContentsAlike.{alike_staying, as_many_alike, distinct_staying, once_alike, staying}

-- ---- contents

-- contents that are the same in whatever order, each once in both
pub record AreSameContents (p q : List (Hash × Content)) : Type 0 where
  pub contents : (hash : Hash) → content_at q hash ≡ content_at p hash
  pub count : length q ≡ length p
  pub once : are_distinct p ≡ true
  pub other_once : are_distinct q ≡ true

pub content_is : (present : List (Hash × Content)) (hash : Hash) → content_at present hash ≡ value_of present hash
content_is [] hash = refl
content_is (x ∷ present) hash = split (same_hash x.0 hash)
    (λ is. rw is refl)
    (λ is. rw is (content_is present hash))

abbrev pub over : Hash × Content → Hash → Option Content → Option Content
over x hash rest = if same_hash x.0 hash then Some x.1 else rest

-- what is found where one more was added
pub content_more : (x : Hash × Content) (present : List (Hash × Content)) (hash : Hash) → content_at (x ∷ present) hash ≡ over x hash (content_at present hash)
content_more x present hash = content_is (x ∷ present) hash ∙ ap (over x hash) (sym (content_is present hash))

found_alike : (p q : List (Hash × Content)) → ((hash : Hash) → content_at q hash ≡ content_at p hash) → (hash : Hash) → value_of q hash ≡ value_of p hash
found_alike p q contents hash = sym (content_is q hash) ∙ contents hash ∙ content_is p hash

-- where they are as many and found alike, it is enough that each is once in the first
pub same_contents : (p q : List (Hash × Content)) → ((hash : Hash) → content_at q hash ≡ content_at p hash) → length q ≡ length p → are_distinct p ≡ true → AreSameContents p q
same_contents p q contents count once = record { contents = contents; count = count; once = once; other_once = once_alike p q once (found_alike p q contents) count }

-- one more, which neither has
pub one_content_more : (x : Hash × Content) (p q : List (Hash × Content)) → AreSameContents p q → content_at p x.0 ≡ None → AreSameContents (x ∷ p) (x ∷ q)
one_content_more x p q same none = record {
  contents = λ hash. content_more x q hash ∙ ap (over x hash) (same.contents hash) ∙ sym (content_more x p hash);
  count = ap suc same.count;
  once = both_true _ _ (ap is_none (sym (content_is p x.0) ∙ none)) same.once;
  other_once = both_true _ _ (ap is_none (sym (content_is q x.0) ∙ same.contents x.0 ∙ none)) same.other_once;
}

-- those that stay by their hashes
pub contents_staying : (test : Hash → Bool) (p q : List (Hash × Content)) → AreSameContents p q → AreSameContents (staying test p) (staying test q)
contents_staying test p q same =
    let alike = alike_staying test p q (found_alike p q same.contents) in
    let once = distinct_staying test p same.once in
    let other = distinct_staying test q same.other_once in
    record {
      contents = λ hash. content_is (staying test q) hash ∙ alike hash ∙ sym (content_is (staying test p) hash);
      count = as_many_alike (staying test p) (staying test q) once other alike;
      once = once;
      other_once = other;
    }

-- ---- states

-- states that are the same, each content once in both
pub record AreAlike (a b : State) : Type 0 where
  pub same : IsSameState a b
  pub once : are_distinct a.present ≡ true
  pub other_once : are_distinct b.present ≡ true

pub alike_by : (a b : State) → IsSameState a b → are_distinct a.present ≡ true → AreAlike a b
alike_by a b same once = record { same = same; once = once; other_once = (same_contents a.present b.present same.contents same.count once).other_once }

-- a state with other contents
abbrev pub holding : State → List (Hash × Content) → State
holding a p = record a { present = p }

pub holding_alike : (a : State) (p : List (Hash × Content)) → AreSameContents a.present p → AreAlike a (holding a p)
holding_alike a p same = record {
  same = record { place = refl; references = refl; commits = refl; contents = same.contents; count = same.count; limits = refl };
  once = same.once;
  other_once = same.other_once;
}

holding_is : (a b : State) → IsSameState a b → holding a b.present ≡ b
holding_is a b same = λ i. record { place = sym same.place i; references = sym same.references i; commits = sym same.commits i; present = b.present; limits = sym same.limits i }

-- what holds of a state and the same one with other contents holds of states that are alike
pub on_alike : (P : State → State → Type 0) → ((a : State) (p : List (Hash × Content)) → AreSameContents a.present p → P a (holding a p)) → (a b : State) → AreAlike a b → P a b
on_alike P held a b alike =
    subst (P a) (holding_is a b alike.same) (held a b.present (record { contents = alike.same.contents; count = alike.same.count; once = alike.once; other_once = alike.other_once }))

-- one entry more, and other references
pub referenced_alike : (a b : State) (references others : List Reference) → AreAlike a b → others ≡ references → AreAlike (with_references a references) (with_references b others)
referenced_alike a b references others alike is = record {
  same = record { place = ap (λ (n : ℕ). n + 1) alike.same.place; references = is; commits = alike.same.commits; contents = alike.same.contents; count = alike.same.count; limits = alike.same.limits };
  once = alike.once;
  other_once = alike.other_once;
}

-- ---- results

-- both are accepted, and this holds of what they found; or both are refused, for the same reason
abbrev pub BothBy : {A : Type 0} → (A → A → Type 0) → Result A Refusal → Result A Refusal → Type 0
BothBy R (Ok x) (Ok y) = R x y
BothBy R (Err why) (Err other) = other ≡ why
BothBy R (Ok x) (Err other) = ⊥
BothBy R (Err why) (Ok y) = ⊥

pub both_bind : {A B : Type 0} (R : A → A → Type 0) (S : B → B → Type 0) (r s : Result A Refusal) (f g : A → Result B Refusal) → BothBy R r s → ((x y : A) → R x y → BothBy S (f x) (g y)) → BothBy S (r >>= f) (s >>= g)
both_bind R S (Ok x) (Ok y) f g h k = k x y h
both_bind R S (Err why) (Err other) f g h k = h
both_bind R S (Ok x) (Err other) f g h k = absurd h
both_bind R S (Err why) (Ok y) f g h k = absurd h

test_bind : {A B : Type 0} (S : B → B → Type 0) (r : Result A Refusal) (f g : A → Result B Refusal) → ((x : A) → BothBy S (f x) (g x)) → BothBy S (r >>= f) (r >>= g)
test_bind S (Ok x) f g k = k x
test_bind S (Err why) f g k = refl

-- both tests come to the same
pub same_bind : {A B : Type 0} (S : B → B → Type 0) (r s : Result A Refusal) (f g : A → Result B Refusal) → s ≡ r → ((x : A) → BothBy S (f x) (g x)) → BothBy S (r >>= f) (s >>= g)
same_bind {A} {B} S r s f g same k = subst (λ (t : Result A Refusal). BothBy S (r >>= f) (t >>= g)) (sym same) (test_bind S r f g k)

pub both_choice : {A : Type 0} (R : A → A → Type 0) (test : Bool) (x u : A) (why : Refusal) → R x u → BothBy R (if test then Ok x else Err why) (if test then Ok u else Err why)
both_choice R true x u why p = p
both_choice R false x u why p = refl

-- ---- tests

pub perhaps_alike : (a : State) (p : List (Hash × Content)) (name : Option (List ℕ)) → perhaps_named (holding a p) name ≡ perhaps_named a name
perhaps_alike a p None = refl
perhaps_alike a p (Some name) = refl

pub pointed_alike : (digest : Digest) (a : State) (p : List (Hash × Content)) (reference : Option Reference) (hash : Option Hash) → pointed digest (holding a p) reference hash ≡ pointed digest a reference hash
pointed_alike digest a p (Some reference) None = refl
pointed_alike digest a p (Some reference) (Some hash) = refl
pointed_alike digest a p None (Some hash) = refl
pointed_alike digest a p None None = refl

pub expired_alike : (a : State) (p : List (Hash × Content)) → AreSameContents a.present p → (shown : Map) → expired_keys (holding a p) shown ≡ expired_keys a shown
unfolding expired_keys
expired_alike a p same shown = λ i. map (λ (x : Key × Entry). x.0) (filter (λ (x : Key × Entry). is_none (same.contents x.1.hash i)) shown)

pub contents_needed_alike : (a : State) (p : List (Hash × Content)) → AreSameContents a.present p → (hash : Hash) → needs_contents (holding a p) hash ≡ needs_contents a hash
unfolding needs_contents
contents_needed_alike a p same hash = ap (λ (keys : List Key). needs_no_expired keys a.place) (expired_alike a p same (entries a.commits hash))

pub room_alike : (a : State) (p : List (Hash × Content)) → AreSameContents a.present p → (head : Map) (count : ℕ) → needs_commit_room (holding a p) head count ≡ needs_commit_room a head count
unfolding needs_commit_room
room_alike a p same head count = λ i.
    needs_room a.place a.limits.log quantities.Log >>= λ _.
    needs_room (length a.commits) a.limits.commits quantities.Commits >>= λ _.
    needs_at_most (length head + count) a.limits.keys quantities.Keys >>= λ _.
    needs_at_most (same.count i + count) a.limits.contents quantities.Contents

-- ---- additions

added_alike : (a b more other : State) (hash : Hash) (kept : Option (List ℕ)) (bytes : List ℕ) → AreAlike a b → (kept ≡ None → AreAlike more other) → BothBy AreAlike (added a more hash kept bytes) (added b other hash kept bytes)
added_alike a b more other hash None bytes alike new = new refl
added_alike a b more other hash (Some kept) bytes alike new = both_choice AreAlike (bytes_eq kept bytes) a b (Collision hash kept bytes) alike

commit_added : (digest : Digest) (c : Commit) (a : State) (p : List (Hash × Content)) → AreSameContents a.present p → BothBy AreAlike (with_commit digest a c) (with_commit digest (holding a p) c)
unfolding with_commit commit_bytes
commit_added digest c a p same =
    let hash = commit_hash digest c in
    let more : State = record a { commits = (hash, c) ∷ a.commits } in
    added_alike a (holding a p) more (holding more p) hash (commit_bytes digest a hash) ((commit_code).spell c) (holding_alike a p same) (λ new. holding_alike more p same)

-- one commit more
pub commit_alike : (digest : Digest) (c : Commit) (a b : State) → AreAlike a b → BothBy AreAlike (with_commit digest a c) (with_commit digest b c)
commit_alike digest c a b alike = on_alike (λ (x y : State). BothBy AreAlike (with_commit digest x c) (with_commit digest y c)) (commit_added digest c) a b alike

not_there : {A B : Type 0} (f : A → B) (o : Option A) → option_map f o ≡ None → o ≡ None
not_there f None is = refl
not_there f (Some x) is = absurd cc

bytes_alike : (a : State) (p : List (Hash × Content)) → AreSameContents a.present p → (hash : Hash) → content_bytes (holding a p) hash ≡ content_bytes a hash
unfolding content_bytes
bytes_alike a p same hash = λ i. option_map (λ (c : Content). (content_code).spell c) (same.contents hash i)

none_of_bytes : (a : State) (hash : Hash) → content_bytes a hash ≡ None → content_at a.present hash ≡ None
unfolding content_bytes
none_of_bytes a hash none = not_there (λ (c : Content). (content_code).spell c) (content_at a.present hash) none

content_added : (digest : Digest) (c : Content) (a : State) (p : List (Hash × Content)) → AreSameContents a.present p → BothBy AreAlike (with_content digest a c) (with_content digest (holding a p) c)
unfolding with_content
content_added digest c a p same =
    let hash = content_hash digest c in
    let bytes = (content_code).spell c in
    let more : State = record a { present = (hash, c) ∷ a.present } in
    let other : State = holding a ((hash, c) ∷ p) in
    subst (λ (kept : Option (List ℕ)). BothBy AreAlike (added a more hash (content_bytes a hash) bytes) (added (holding a p) other hash kept bytes)) (sym (bytes_alike a p same hash))
    (added_alike a (holding a p) more other hash (content_bytes a hash) bytes (holding_alike a p same)
    (λ new. holding_alike more ((hash, c) ∷ p) (one_content_more (hash, c) a.present p same (none_of_bytes a hash new))))

pub contents_alike : (digest : Digest) (contents : List Content) (a b : State) → AreAlike a b → BothBy AreAlike (with_contents digest a contents) (with_contents digest b contents)
contents_alike digest [] a b alike = alike
contents_alike digest (c ∷ contents) a b alike =
    both_bind AreAlike AreAlike (with_content digest a c) (with_content digest b c) _ _
    (on_alike (λ (x y : State). BothBy AreAlike (with_content digest x c) (with_content digest y c)) (content_added digest c) a b alike)
    (λ x y like. contents_alike digest contents x y like)
