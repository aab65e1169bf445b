-- Where `==` says yes, two values are one.
use Rattle.std.proofs.Common.{◌≡◌, ℕ, List, Option, Some, None, Bool, true, false, ◌&&◌, refl, sym, ap, rules}
use Rattle.std.proofs.lemmas.Option.{none-some, same_Some}
use Rattle.std.specs.Bool.{Decides}
use Rattle.std.specs.Cmp.{unsigned_Decides}
use Rattle.std.specs.Str.{bytes_eq}
use Rattle.std.specs.Cmp.Lexicographic.{pointwise, bytes_decides, pointwise_decides}
use Rattle.std.specs.Option.{option_eq}
use denote.Enum.Bare.{same_true, true_same}
use Rattle.cat_names.specs.declared.hash.Hash.{Hash}
use Rattle.cat_names.specs.declared.hash.ContentId.{ContentId}
use Rattle.cat_names.specs.contracts.hash.HashPartialEq.TheImpl.{eq-value as hash_eq}
use Rattle.cat_names.specs.contracts.hash.ContentIdPartialEq.TheImpl.{eq-value as id_eq}
use Rattle.cat_graph.specs.declared.front.Reached.{Reached}
use Rattle.cat_graph.specs.contracts.front.ReachedPartialEq.TheImpl.{eq-value as reached_eq}
use Rattle.cat_model.specs.declared.commit.Commit.{Commit}
use Rattle.cat_model.specs.declared.commit.Meta.{Meta}
use Rattle.cat_model.specs.declared.entry.ContentKind.{ContentKind}
use Rattle.cat_model.specs.declared.entry.Entry.{Entry}
use Rattle.cat_model.specs.contracts.entry.ContentKind.{the_type}
use Rattle.cat_model.specs.contracts.entry.ContentKindPartialEq.TheImpl.{eq-value as kind_eq}
use Rattle.cat_model.specs.contracts.entry.EntryPartialEq.TheImpl.{eq-value as entry_eq}
use Rattle.cat_model.specs.contracts.commit.MetaPartialEq.TheImpl.{eq-value as meta_eq}
use Rattle.cat_model.specs.contracts.commit.CommitPartialEq.TheImpl.{eq-value as commit_eq}

-- ---- tests of parts

by_parts : {P Q : Type 0} (r : Bool) → Decides r P → (P → Q) → (Q → P) → Decides r Q
by_parts r d f g = (λ e. f (d.0 e), λ q. d.1 (g q))

both : {P Q : Type 0} (s t : Bool) → Decides s P → Decides t Q → Decides (s && t) (P × Q)
both true t a b = (λ e. (a.0 refl, b.0 e), λ p. b.1 p.1)
both false t a b = (λ e. absurd cc, λ p. a.1 p.0)

module _ {K : Type 0} {E : K → K → Bool} (decides : (x y : K) → Decides (E x y) (x ≡ y)) where
  options : (p q : Option K) → Decides (option_eq E p q) (p ≡ q)
  options None None = (λ e. refl, λ e. refl)
  options None (Some y) = (λ e. absurd cc, λ e. absurd (none-some y e))
  options (Some x) None = (λ e. absurd cc, λ e. absurd (none-some x (sym e)))
  options (Some x) (Some y) = (λ e. ap Some ((decides x y).0 e), λ e. (decides x y).1 (same_Some x y e))

module _ {A B : Type 0} {E : A → A → Bool} {F : B → B → Bool} (first : (x y : A) → Decides (E x y) (x ≡ y)) (second : (x y : B) → Decides (F x y) (x ≡ y)) where
  pairs : (x y : A × B) → Decides (E x.0 y.0 && F x.1 y.1) (x ≡ y)
  pairs x y = by_parts _ (both (E x.0 y.0) (F x.1 y.1) (first x.0 y.0) (second x.1 y.1)) (λ p i. (p.0 i, p.1 i)) (λ e. (ap (λ z. z.0) e, ap (λ z. z.1) e))

-- ---- commits

hashes : (a b : Hash) → Decides ((hash_eq).it a b) (a ≡ b)
hashes a b = by_parts ((hash_eq).it a b) (bytes_decides a.bytes b.bytes) (λ p i. record { bytes = p i }) (λ e. ap (λ (h : Hash). h.bytes) e)

ids : (a b : ContentId) → Decides ((id_eq).it a b) (a ≡ b)
ids a b = by_parts ((id_eq).it a b) (bytes_decides a.bytes b.bytes) (λ p i. record { bytes = p i }) (λ e. ap (λ (h : ContentId). h.bytes) e)

kinds : (a b : ContentKind) → Decides ((kind_eq).it a b) (a ≡ b)
kinds a b = (same_true the_type (search rules) a b, true_same the_type a b)

entries : (a b : Entry) → Decides ((entry_eq).it a b) (a ≡ b)
entries a b = by_parts ((entry_eq).it a b) (both _ _ (kinds a.kind b.kind) (both _ _ (ids a.id b.id) (hashes a.hash b.hash)))
    (λ p i. record { kind = p.0 i; id = p.1.0 i; hash = p.1.1 i }) (λ e. (ap (λ (x : Entry). x.kind) e, (ap (λ (x : Entry). x.id) e, ap (λ (x : Entry). x.hash) e)))

texts : (a b : List (List ℕ)) → Decides (pointwise bytes_eq a b) (a ≡ b)
texts = pointwise_decides bytes_decides

metas : (a b : Meta) → Decides ((meta_eq).it a b) (a ≡ b)
metas a b = by_parts ((meta_eq).it a b)
    (both _ _ (bytes_decides a.message b.message) (both _ _ (texts a.authors b.authors) (both _ _ (texts a.signed b.signed) (both _ _ (pointwise_decides (pairs bytes_decides texts) a.properties b.properties) (options unsigned_Decides a.author_time b.author_time)))))
    (λ p i. record { message = p.0 i; authors = p.1.0 i; signed = p.1.1.0 i; properties = p.1.1.1.0 i; author_time = p.1.1.1.1 i })
    (λ e. (ap (λ (x : Meta). x.message) e, (ap (λ (x : Meta). x.authors) e, (ap (λ (x : Meta). x.signed) e, (ap (λ (x : Meta). x.properties) e, ap (λ (x : Meta). x.author_time) e)))))

-- `==` says yes exactly where the commits are one
pub commits_decide : (a b : Commit) → Decides ((commit_eq).it a b) (a ≡ b)
commits_decide a b = by_parts ((commit_eq).it a b)
    (both _ _ (hashes a.parent b.parent) (both _ _ (options hashes a.merge_parent b.merge_parent) (both _ _ (unsigned_Decides a.generation b.generation) (both _ _ (unsigned_Decides a.time b.time) (both _ _ (metas a.meta b.meta) (pointwise_decides (pairs texts (options entries)) a.ops b.ops))))))
    (λ p i. record { parent = p.0 i; merge_parent = p.1.0 i; generation = p.1.1.0 i; time = p.1.1.1.0 i; meta = p.1.1.1.1.0 i; ops = p.1.1.1.1.1 i })
    (λ e. (ap (λ (x : Commit). x.parent) e, (ap (λ (x : Commit). x.merge_parent) e, (ap (λ (x : Commit). x.generation) e, (ap (λ (x : Commit). x.time) e, (ap (λ (x : Commit). x.meta) e, ap (λ (x : Commit). x.ops) e))))))

-- ---- hashes with their generations

reached_decide : (a b : Reached) → Decides ((reached_eq).it a b) (a ≡ b)
reached_decide a b = by_parts ((reached_eq).it a b) (both _ _ (unsigned_Decides a.generation b.generation) (hashes a.hash.0 b.hash.0))
    (λ p i. record { generation = p.0 i; hash = record { 0 = p.1 i } }) (λ e. (ap (λ (x : Reached). x.generation) e, ap (λ (x : Reached). x.hash.0) e))

-- so it is of one that may be there
pub nearest_is : (found : Option Reached) (at : Reached) → option_eq (reached_eq).it found (Some at) ≡ true → found ≡ Some at
nearest_is found at e = (options reached_decide found (Some at)).0 e
