-- Requests whose contents have the ids of their draft: given again they are the same, and well made they stay so.
use Rattle.std.proofs.Common.{◌≡◌, ℕ, suc, ◌+◌, List, [], ◌∷◌, length, Some, None, Bool, true, false, ◌&&◌, nat_eq, refl, sym, ap, ap₂, ◌∙◌}
use Rattle.std.specs.List.{list_all, list_any}
use Rattle.std.specs.Str.{bytes_eq}
use Rattle.std.proofs.lemmas.Slice.Eq.{bytes_eq-Decides}
use Rattle.cat_codes.specs.ListLaws.{and_true, both_true}
use Rattle.cat_names.specs.Fields.{Key}
use Rattle.cat_names.specs.declared.hash.ContentId.{ContentId}
use Rattle.cat_model.specs.declared.command.CommitRequest.{CommitRequest}
use Rattle.cat_model.specs.declared.content.Content.{Content}
use Rattle.cat_model.specs.declared.entry.Entry.{Entry}
use Rattle.cat_model.specs.declared.op.Op.{Op}
use Rattle.cat_model.specs.declared.op.Op.TheVariants.{Put, Delete, Unchanged}
use Rattle.cat_model.specs.Commits.{given, given_from, given_ops, given_request, puts, with_their_contents}
use Rattle.cat_model.specs.Contents.{body_kind}
use Rattle.cat_model.specs.Distinct.{are_distinct}
use Rattle.cat_model.specs.FormatLaws.{type_same}
use Rattle.cat_model.specs.Judge.{op_key}
use Rattle.cat_model.specs.Same.{same_entry, same_hash, same_id, same_key, same_type}
use Rattle.cat_model.specs.State.{Digest, entry_for, fresh_id}
use Rattle.cat_model.specs.WellMade.{given_ids, have_contents, is_made, is_of, may_be_asked, may_stand_at}
use Rattle.cat_frames.specs.Requests.{Both, are_logged, contents_of, ops_of, request_is_logged}
use Rattle.cat_frames.specs.RequestLaws.{given_is_logged}

-- the operations with the ids of a draft, from an index on
abbrev its : Digest → ℕ → ℕ → List Op → List Content → List Both
its digest draft i ops contents = given_from digest draft i (with_their_contents ops contents)

-- each PUT has its content
abbrev AreMade : Digest → List Op → List Content → Type 0
AreMade digest ops contents = list_all (is_made digest) (with_their_contents ops contents) ≡ true

-- the first PUT has its content, and so have the others
first_made : (digest : Digest) (key : Key) (entry : Entry) (fresh : Bool) (ops : List Op) (c : Content) (contents : List Content) → AreMade digest (Put key entry fresh ∷ ops) (c ∷ contents)
    → (is_made digest (Put key entry fresh, Some c) ≡ true) × AreMade digest ops contents
first_made digest key entry fresh ops c contents made = and_true (is_made digest (Put key entry fresh, Some c)) (list_all (is_made digest) (with_their_contents ops contents)) made

-- ---- given again

again : (digest : Digest) (id : ContentId) (x : Both) → given digest id (given digest id x) ≡ given digest id x
again digest id (Put key entry fresh, None) = refl
again digest id (Put key entry true, Some c) = refl
again digest id (Put key entry false, Some c) = refl
again digest id (Delete key, content) = refl
again digest id (Unchanged key, content) = refl

all_again : (digest : Digest) (draft i : ℕ) (both : List Both) → given_from digest draft i (given_from digest draft i both) ≡ given_from digest draft i both
all_again digest draft i [] = refl
all_again digest draft i (x ∷ both) = ap₂ (λ (y : Both) (ys : List Both). y ∷ ys) (again digest (fresh_id draft i) x) (all_again digest draft (i + 1) both)

-- they stand with their contents as before
stay : (digest : Digest) (draft i : ℕ) (ops : List Op) (contents : List Content) → AreMade digest ops contents
    → with_their_contents (ops_of (its digest draft i ops contents)) (contents_of (its digest draft i ops contents)) ≡ its digest draft i ops contents
stay digest draft i [] contents made = refl
stay digest draft i (Put key entry fresh ∷ ops) [] made = absurd cc
stay digest draft i (Put key entry fresh ∷ ops) (c ∷ contents) made =
    ap (λ (l : List Both). given digest (fresh_id draft i) (Put key entry fresh, Some c) ∷ l) (stay digest draft (i + 1) ops contents (first_made digest key entry fresh ops c contents made).1)
stay digest draft i (Delete key ∷ ops) contents made = ap (λ (l : List Both). (Delete key, None) ∷ l) (stay digest draft (i + 1) ops contents made)
stay digest draft i (Unchanged key ∷ ops) contents made = ap (λ (l : List Both). (Unchanged key, None) ∷ l) (stay digest draft (i + 1) ops contents made)

-- each PUT of a well made request has its content
are_made : (digest : Digest) (c : CommitRequest) → have_contents digest c.ops c.contents ≡ true → AreMade digest c.ops c.contents
unfolding have_contents
are_made digest c have = (and_true (nat_eq (length c.contents) (puts c.ops)) (list_all (is_made digest) (with_their_contents c.ops c.contents)) have).1

-- ids that were given are given again
pub given_once : (digest : Digest) (draft : ℕ) (c : CommitRequest) → have_contents digest c.ops c.contents ≡ true → given_ops digest draft (given_request digest draft c) ≡ given_ops digest draft c
unfolding given_request given_ops
given_once digest draft c have =
    ap (given_from digest draft 0) (stay digest draft 0 c.ops c.contents (are_made digest c have)) ∙ all_again digest draft 0 (with_their_contents c.ops c.contents)

-- a request with its ids is logged as it is
pub request_once : (digest : Digest) (draft : ℕ) (c : CommitRequest) → have_contents digest c.ops c.contents ≡ true → given_request digest draft (given_request digest draft c) ≡ given_request digest draft c
unfolding given_request
request_once digest draft c have =
    ap (λ (both : List Both). record c { ops = ops_of both; contents = contents_of both }) (let e : given_ops digest draft (given_request digest draft c) ≡ given_ops digest draft c = given_once digest draft c have in e)

-- ---- well made as before

same_bytes : (bytes : List ℕ) → bytes_eq bytes bytes ≡ true
same_bytes bytes = (bytes_eq-Decides bytes bytes).1 refl

entry_same : (e : Entry) → same_entry e e ≡ true
entry_same e = both_true _ _ (both_true _ _ (type_same e.kind) (same_bytes e.id.bytes)) (same_bytes e.hash.bytes)

put_made : (digest : Digest) (id : ContentId) (key : Key) (entry : Entry) (fresh : Bool) (c : Content) → is_made digest (Put key entry fresh, Some c) ≡ true → is_made digest (given digest id (Put key entry fresh, Some c)) ≡ true
put_made digest id key entry true c made = both_true _ _ (and_true (may_stand_at key c.body) (is_of digest entry true c) made).0 (type_same (body_kind c.body))
put_made digest id key entry false c made = both_true _ _ (and_true (may_stand_at key c.body) (is_of digest entry false c) made).0 (entry_same (entry_for digest c))

all_made : (digest : Digest) (draft i : ℕ) (ops : List Op) (contents : List Content) → AreMade digest ops contents → list_all (is_made digest) (its digest draft i ops contents) ≡ true
all_made digest draft i [] contents made = refl
all_made digest draft i (Put key entry fresh ∷ ops) [] made = absurd cc
all_made digest draft i (Put key entry fresh ∷ ops) (c ∷ contents) made =
    let both = first_made digest key entry fresh ops c contents made in
    both_true _ _ (put_made digest (fresh_id draft i) key entry fresh c both.0) (all_made digest draft (i + 1) ops contents both.1)
all_made digest draft i (Delete key ∷ ops) contents made = all_made digest draft (i + 1) ops contents made
all_made digest draft i (Unchanged key ∷ ops) contents made = all_made digest draft (i + 1) ops contents made

-- as many contents as PUTs, each with its own
have_again : (digest : Digest) (draft : ℕ) (c : CommitRequest) → have_contents digest c.ops c.contents ≡ true
    → have_contents digest (given_request digest draft c).ops (given_request digest draft c).contents ≡ true
unfolding have_contents given_request given_ops request_is_logged
have_again digest draft c have =
    let logged : request_is_logged digest draft (given_request digest draft c) ≡ true = given_is_logged digest draft c have in
    let made : AreMade digest c.ops c.contents = are_made digest c have in
    let both = its digest draft 0 c.ops c.contents in
    both_true _ _
    (and_true (nat_eq (length (contents_of both)) (puts (ops_of both))) (are_logged digest draft 0 (with_their_contents (ops_of both) (contents_of both))) logged).0
    (ap (list_all (is_made digest)) (stay digest draft 0 c.ops c.contents made) ∙ all_made digest draft 0 c.ops c.contents made)

-- as many operations
as_long : (digest : Digest) (draft i : ℕ) (ops : List Op) (contents : List Content) → length (ops_of (its digest draft i ops contents)) ≡ length ops
as_long digest draft i [] contents = refl
as_long digest draft i (Put key entry fresh ∷ ops) [] = ap suc (as_long digest draft (i + 1) ops [])
as_long digest draft i (Put key entry fresh ∷ ops) (c ∷ contents) = ap suc (as_long digest draft (i + 1) ops contents)
as_long digest draft i (Delete key ∷ ops) contents = ap suc (as_long digest draft (i + 1) ops contents)
as_long digest draft i (Unchanged key ∷ ops) contents = ap suc (as_long digest draft (i + 1) ops contents)

-- whether one of them has a key
abbrev has_key : Key → List Op → Bool
has_key key ops = list_any (λ other. same_key (op_key other) key) ops

-- the keys are as before
keys_as_before : (digest : Digest) (draft i : ℕ) (ops : List Op) (contents : List Content) (key : Key) → has_key key (ops_of (its digest draft i ops contents)) ≡ has_key key ops
keys_as_before digest draft i [] contents key = refl
keys_as_before digest draft i (Put at entry fresh ∷ ops) [] key = rw (keys_as_before digest draft (i + 1) ops [] key) refl
keys_as_before digest draft i (Put at entry fresh ∷ ops) (c ∷ contents) key = rw (keys_as_before digest draft (i + 1) ops contents key) refl
keys_as_before digest draft i (Delete at ∷ ops) contents key = rw (keys_as_before digest draft (i + 1) ops contents key) refl
keys_as_before digest draft i (Unchanged at ∷ ops) contents key = rw (keys_as_before digest draft (i + 1) ops contents key) refl

as_distinct : (digest : Digest) (draft i : ℕ) (ops : List Op) (contents : List Content) → are_distinct (ops_of (its digest draft i ops contents)) ≡ are_distinct ops
as_distinct digest draft i [] contents = refl
as_distinct digest draft i (Put key entry fresh ∷ ops) [] = rw (keys_as_before digest draft (i + 1) ops [] key, as_distinct digest draft (i + 1) ops []) refl
as_distinct digest draft i (Put key entry fresh ∷ ops) (c ∷ contents) = rw (keys_as_before digest draft (i + 1) ops contents key, as_distinct digest draft (i + 1) ops contents) refl
as_distinct digest draft i (Delete key ∷ ops) contents = rw (keys_as_before digest draft (i + 1) ops contents key, as_distinct digest draft (i + 1) ops contents) refl
as_distinct digest draft i (Unchanged key ∷ ops) contents = rw (keys_as_before digest draft (i + 1) ops contents key, as_distinct digest draft (i + 1) ops contents) refl

-- the content of a PUT whose id the request gave has this id
own_id : (digest : Digest) (key : Key) (entry : Entry) (c : Content) → is_made digest (Put key entry false, Some c) ≡ true → c.id ≡ entry.id
own_id digest key entry c made =
    let alike : is_of digest entry false c ≡ true = (and_true (may_stand_at key c.body) (is_of digest entry false c) made).1 in
    let front = (and_true (same_type entry.kind (body_kind c.body) && same_id entry.id c.id) (same_hash entry.hash (entry_for digest c).hash) alike).0 in
    let ids : same_id entry.id c.id ≡ true = (and_true (same_type entry.kind (body_kind c.body)) (same_id entry.id c.id) front).1 in
    let bytes : entry.id.bytes ≡ c.id.bytes = (bytes_eq-Decides _ _).0 ids in
    ap (λ (b : List ℕ). let id : ContentId = record { bytes = b } in id) (sym bytes)

ids_as_before : (digest : Digest) (draft i : ℕ) (ops : List Op) (contents : List Content) → AreMade digest ops contents → given_ids (ops_of (its digest draft i ops contents)) ≡ given_ids ops
ids_as_before digest draft i [] contents made = refl
ids_as_before digest draft i (Put key entry fresh ∷ ops) [] made = absurd cc
ids_as_before digest draft i (Put key entry true ∷ ops) (c ∷ contents) made = ids_as_before digest draft (i + 1) ops contents (first_made digest key entry true ops c contents made).1
ids_as_before digest draft i (Put key entry false ∷ ops) (c ∷ contents) made =
    let both = first_made digest key entry false ops c contents made in
    ap₂ (λ (id : ContentId) (ids : List ContentId). id ∷ ids) (own_id digest key entry c both.0) (ids_as_before digest draft (i + 1) ops contents both.1)
ids_as_before digest draft i (Delete key ∷ ops) contents made = ids_as_before digest draft (i + 1) ops contents made
ids_as_before digest draft i (Unchanged key ∷ ops) contents made = ids_as_before digest draft (i + 1) ops contents made

asked_again : (digest : Digest) (draft : ℕ) (c : CommitRequest) → have_contents digest c.ops c.contents ≡ true → may_be_asked (given_request digest draft c).ops ≡ may_be_asked c.ops
unfolding may_be_asked given_request given_ops
asked_again digest draft c have =
    rw (as_long digest draft 0 c.ops c.contents, as_distinct digest draft 0 c.ops c.contents, ids_as_before digest draft 0 c.ops c.contents (are_made digest c have)) refl

-- the request that is logged is well made
pub well_made_again : (digest : Digest) (draft : ℕ) (c : CommitRequest) → may_be_asked c.ops ≡ true → have_contents digest c.ops c.contents ≡ true
    → (may_be_asked (given_request digest draft c).ops && have_contents digest (given_request digest draft c).ops (given_request digest draft c).contents) ≡ true
well_made_again digest draft c asked have = both_true _ _ (asked_again digest draft c have ∙ asked) (have_again digest draft c have)
