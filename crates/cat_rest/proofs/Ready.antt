-- Each operation that is read is made with its content, and so is a list of them.
use Rattle.std.proofs.Common.{◌≡◌, ℕ, List, [], ◌∷◌, Bool, true, false, ◌&&◌, Option, Some, None, refl, ap, sym, ◌∙◌, codes, bytes_eq, length, suc, rules}
use Rattle.std.specs.List.{list_all}
use Rattle.serde_json.specs.Data.{Data, Items, no_items, item}
use Rattle.serde_json.specs.Find.{as_str, as_array}
use Rattle.sha2.specs.Sha256.{sha256}
use Rattle.cat_content.specs.Forms.{content_as}
use Rattle.cat_json.specs.Names.{key_as}
use Rattle.cat_json.specs.Reading.{required, items_as, list_as}
use Rattle.cat_names.specs.Fields.{Key}
use Rattle.cat_names.specs.declared.hash.ContentId.{ContentId}
use Rattle.cat_model.specs.Commits.{with_their_contents, puts}
use Rattle.cat_model.specs.Contents.{body_kind}
use Rattle.cat_model.specs.FormatLaws.{type_same}
use Rattle.cat_model.specs.State.{content_hash}
use Rattle.cat_model.specs.WellMade.{may_stand_at, is_made}
use Rattle.cat_model.specs.declared.content.Body.{Body}
use Rattle.cat_model.specs.declared.content.Content.{Content}
use Rattle.cat_model.specs.declared.op.Op.{Op}
use Rattle.cat_model.specs.declared.op.Op.TheVariants as ops
use Rattle.cat_rest.specs.Operations.{given_put, put_of, put_as, delete_as, unchanged_as, typed_as, op_as}
use Rattle.cat_rest.specs.Bodies.{ops_of, contents_of}
use Rattle.cat_rest.proofs.Options.{step, picked, chosen, both, joined}

-- a PUT and its content, or another operation and none
abbrev is_paired : Op × Option Content → Bool
is_paired (ops.Put key entry fresh, None) = false
is_paired (ops.Put key entry fresh, Some c) = true
is_paired (ops.Delete key, None) = true
is_paired (ops.Delete key, Some c) = false
is_paired (ops.Unchanged key, None) = true
is_paired (ops.Unchanged key, Some c) = false

abbrev pub is_ready : Op × Option Content → Bool
is_ready x = is_paired x && is_made sha256 x

abbrev ready : Option (Op × Option Content) → Bool
ready None = true
ready (Some x) = is_ready x

same_bytes : (bytes : List ℕ) → bytes_eq bytes bytes ≡ true
same_bytes bytes = search rules

given_ready : (key : Key) (c : Content) → may_stand_at key c.body ≡ true → is_ready (given_put key c) ≡ true
given_ready key c e = rw (e, type_same (body_kind c.body), same_bytes c.id.bytes, same_bytes (content_hash sha256 c).bytes) refl

put_ready : (key : Key) (id : Option ContentId) (body : Body) → may_stand_at key body ≡ true → is_ready (put_of key id body) ≡ true
put_ready key None body e = rw (e, type_same (body_kind body)) refl
put_ready key (Some id) body e = given_ready key (record { id = id; body = body }) e

-- ---- so is what an operation is read as

abbrev IsReadReady : Option (Op × Option Content) → Type 0
IsReadReady o = (x : Op × Option Content) → o ≡ Some x → is_ready x ≡ true

put_as_ready : (d : Data) → IsReadReady (put_as d)
unfolding put_as
put_as_ready d x e =
    let k = step (required key_as (codes "key") d) _ x e in
    let g = step (required content_as (codes "content") d) _ x k.2 in
    let s = picked (may_stand_at k.0 g.0.body) _ x g.2 in
    sym (ap ready s.1) ∙ put_ready k.0 g.0.id g.0.body s.0

delete_ready : (d : Data) → IsReadReady (delete_as d)
delete_ready d x e = let k = step (required key_as (codes "key") d) _ x e in sym (ap ready k.2)

unchanged_ready : (d : Data) → IsReadReady (unchanged_as d)
unchanged_ready d x e = let k = step (required key_as (codes "key") d) _ x e in sym (ap ready k.2)

none_ready : IsReadReady None
none_ready x e = absurd cc

typed_ready : (name : List ℕ) (d : Data) → IsReadReady (typed_as name d)
typed_ready name d =
    chosen IsReadReady (bytes_eq name (codes "PUT")) _ _ (put_as_ready d)
    (chosen IsReadReady (bytes_eq name (codes "DELETE")) _ _ (delete_ready d)
    (chosen IsReadReady (bytes_eq name (codes "UNCHANGED")) _ _ (unchanged_ready d) none_ready))

op_ready : (d : Data) → IsReadReady (op_as d)
unfolding op_as
op_ready d x e = let n = step (required as_str (codes "type") d) _ x e in typed_ready n.0 d x n.2

-- ---- and each of a list

abbrev all_ready : Option (List (Op × Option Content)) → Bool
all_ready None = true
all_ready (Some xs) = list_all is_ready xs

items_ready : (ds : Items) (xs : List (Op × Option Content)) → items_as op_as ds ≡ Some xs → list_all is_ready xs ≡ true
items_ready no_items xs e = sym (ap all_ready e)
items_ready (item d ds) xs e =
    let x = step (op_as d) _ xs e in
    let t = step (items_as op_as ds) _ xs x.2 in
    sym (ap all_ready t.2) ∙ joined (is_ready x.0) (list_all is_ready t.0) (op_ready d x.0 x.1) (items_ready ds t.0 t.1)

pub list_ready : (d : Data) (xs : List (Op × Option Content)) → list_as op_as d ≡ Some xs → list_all is_ready xs ≡ true
list_ready d xs e = let a = step (as_array d) _ xs e in items_ready a.0 xs a.2

-- ---- whose operations find their contents again

rest_ready : (x : Op × Option Content) (xs : List (Op × Option Content)) → list_all is_ready (x ∷ xs) ≡ true → list_all is_ready xs ≡ true
rest_ready x xs h = (both (is_ready x) (list_all is_ready xs) h).1

pub paired_again : (xs : List (Op × Option Content)) → list_all is_ready xs ≡ true → with_their_contents (ops_of xs) (contents_of xs) ≡ xs
paired_again [] h = refl
paired_again ((ops.Put key entry fresh, None) ∷ xs) h = absurd cc
paired_again ((ops.Put key entry fresh, Some c) ∷ xs) h = ap (λ ys. (ops.Put key entry fresh, Some c) ∷ ys) (paired_again xs (rest_ready (ops.Put key entry fresh, Some c) xs h))
paired_again ((ops.Delete key, None) ∷ xs) h = ap (λ ys. (ops.Delete key, None) ∷ ys) (paired_again xs (rest_ready (ops.Delete key, None) xs h))
paired_again ((ops.Delete key, Some c) ∷ xs) h = absurd cc
paired_again ((ops.Unchanged key, None) ∷ xs) h = ap (λ ys. (ops.Unchanged key, None) ∷ ys) (paired_again xs (rest_ready (ops.Unchanged key, None) xs h))
paired_again ((ops.Unchanged key, Some c) ∷ xs) h = absurd cc

pub puts_have : (xs : List (Op × Option Content)) → list_all is_ready xs ≡ true → length (contents_of xs) ≡ puts (ops_of xs)
puts_have [] h = refl
puts_have ((ops.Put key entry fresh, None) ∷ xs) h = absurd cc
puts_have ((ops.Put key entry fresh, Some c) ∷ xs) h = ap suc (puts_have xs (rest_ready (ops.Put key entry fresh, Some c) xs h))
puts_have ((ops.Delete key, None) ∷ xs) h = puts_have xs (rest_ready (ops.Delete key, None) xs h)
puts_have ((ops.Delete key, Some c) ∷ xs) h = absurd cc
puts_have ((ops.Unchanged key, None) ∷ xs) h = puts_have xs (rest_ready (ops.Unchanged key, None) xs h)
puts_have ((ops.Unchanged key, Some c) ∷ xs) h = absurd cc

pub all_made : (xs : List (Op × Option Content)) → list_all is_ready xs ≡ true → list_all (is_made sha256) xs ≡ true
all_made [] h = refl
all_made (x ∷ xs) h =
    let b = both (is_ready x) (list_all is_ready xs) h in
    joined (is_made sha256 x) (list_all (is_made sha256) xs) (both (is_paired x) (is_made sha256 x) b.0).1 (all_made xs b.1)
