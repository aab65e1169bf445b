-- Operations that are given their ids keep their keys.
use Rattle.std.proofs.Common.{◌≡◌, ℕ, ◌+◌, List, [], ◌∷◌, map, Option, Some, None, Bool, true, ◌&&◌, not, refl, sym, ap, ◌∙◌}
use Rattle.std.specs.List.{list_any}
use Rattle.sha2.specs.Sha256.{sha256}
use Rattle.cat_names.specs.Fields.{Key}
use Rattle.cat_names.specs.declared.hash.ContentId.{ContentId}
use Rattle.cat_model.specs.declared.command.CommitRequest.{CommitRequest}
use Rattle.cat_model.specs.declared.content.Content.{Content}
use Rattle.cat_model.specs.declared.op.Op.{Op}
use Rattle.cat_model.specs.declared.op.Op.TheVariants.{Put, Delete, Unchanged}
use Rattle.cat_model.specs.Commits.{given, given_from, given_ops, with_their_contents}
use Rattle.cat_model.specs.Distinct.{are_distinct}
use Rattle.cat_model.specs.Judge.{op_key}
use Rattle.cat_model.specs.Same.{same_key}
use Rattle.cat_model.specs.State.{fresh_id}
use Rattle.cat_model.specs.Walks.{left_after, their_own}

-- an operation with the content that is given with it
abbrev pub Both : Type 0
Both = Op × Option Content

given_key : (id : ContentId) (x : Both) → op_key (given sha256 id x).0 ≡ op_key x.0
given_key id (Put key entry fresh, Some c) = refl
given_key id (Put key entry fresh, None) = refl
given_key id (Delete key, content) = refl
given_key id (Unchanged key, content) = refl

abbrev keys : List Both → List Key
keys xs = map op_key (map (λ (b : Both). b.0) xs)

given_keys : (draft i : ℕ) (xs : List Both) → keys (given_from sha256 draft i xs) ≡ keys xs
given_keys draft i [] = refl
given_keys draft i (x ∷ xs) = ap (λ (k : Key). k ∷ keys (given_from sha256 draft (i + 1) xs)) (given_key (fresh_id draft i) x) ∙ ap (λ (l : List Key). op_key x.0 ∷ l) (given_keys draft (i + 1) xs)

own_keys : (ops : List Op) (contents : List Content) → keys (with_their_contents ops contents) ≡ map op_key ops
own_keys [] contents = refl
own_keys (op ∷ ops) contents = ap keys (their_own op ops contents) ∙ ap (λ (l : List Key). op_key op ∷ l) (own_keys ops (left_after op contents))

abbrev differ : List Key → Bool
differ [] = true
differ (k ∷ ks) = not (list_any (λ other. same_key other k) ks) && differ ks

any_key : (k : Key) (ops : List Op) → list_any (λ (o : Op). same_key (op_key o) k) ops ≡ list_any (λ (o : Key). same_key o k) (map op_key ops)
any_key k [] = refl
any_key k (op ∷ ops) = rw (any_key k ops) refl

distinct_is : (ops : List Op) → are_distinct ops ≡ differ (map op_key ops)
distinct_is [] = refl
distinct_is (op ∷ ops) = rw (any_key (op_key op) ops, distinct_is ops) refl

-- operations that are given their ids keep their keys
pub still_distinct : (draft : ℕ) (c : CommitRequest) (ops : List Op) → ops ≡ map (λ (b : Both). b.0) (given_ops sha256 draft c) → are_distinct c.ops ≡ true → are_distinct ops ≡ true
unfolding given_ops
still_distinct draft c ops e h =
    ap are_distinct e ∙ distinct_is (map (λ (b : Both). b.0) (given_from sha256 draft 0 (with_their_contents c.ops c.contents)))
    ∙ ap differ (given_keys draft 0 (with_their_contents c.ops c.contents) ∙ own_keys c.ops c.contents) ∙ sym (distinct_is c.ops) ∙ h
