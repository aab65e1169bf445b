-- Operations that are given their ids, one after the other.
use Rattle.std.proofs.Common.{◌≡◌, ℕ, ◌+◌, ◌<◌, List, [], ◌∷◌, ◌++◌, length, get_or, drop, map, filter_map, Option, Some, None, refl, sym, ap, ◌∙◌, append_assoc}
use Rattle.std.specs.List.{cons_option}
use Rattle.std.proofs.lemmas.List.{drop_more}
use Rattle.sha2.specs.Sha256.{sha256}
use Rattle.cat_names.specs.declared.hash.ContentId.{ContentId}
use Rattle.cat_model.specs.declared.content.Content.{Content}
use Rattle.cat_model.specs.declared.op.Op.{Op}
use Rattle.cat_model.specs.Commits.{given, given_from, with_their_contents}
use Rattle.cat_model.specs.State.{fresh_id}
use Rattle.cat_model.specs.Walks.{content_for, left_after, listed, their_own}
use Rattle.cat_decisions.specs.KeyLaws.{Both}

-- ---- the next operation

from_next : (draft i : ℕ) (ops : List Op) (op : Op) (left : List Content) → i < length ops → op ≡ get_or ops i op
    → given_from sha256 draft i (with_their_contents (drop i ops) left)
    ≡ given sha256 (fresh_id draft i) (op, content_for op left) ∷ given_from sha256 draft (i + 1) (with_their_contents (drop (i + 1) ops) (left_after op left))
from_next draft i ops op left lt e =
    ap (λ (l : List Op). given_from sha256 draft i (with_their_contents l left)) (drop_more ops i op lt ∙ ap (λ (x : Op). x ∷ drop (i + 1) ops) (sym e))
    ∙ ap (λ (l : List Both). given_from sha256 draft i l) (their_own op (drop (i + 1) ops) left)

-- those from the next on begin with it, as the code reads them
pub next_is : (draft i : ℕ) (ops items : List Op) (op : Op) (left rest : List Content) (id : ContentId) → items ≡ ops → i < length items → op ≡ get_or items i op → id ≡ fresh_id draft i → rest ≡ left_after op left
    → given_from sha256 draft i (with_their_contents (drop i ops) left) ≡ given sha256 id (op, content_for op left) ∷ given_from sha256 draft (i + 1) (with_their_contents (drop (i + 1) ops) rest)
next_is draft i ops items op left rest id s lt e d r =
    ap (λ (l : List Op). given_from sha256 draft i (with_their_contents (drop i l) left)) (sym s) ∙ from_next draft i items op left lt e
    ∙ ap (λ (x : ContentId). given sha256 x (op, content_for op left) ∷ given_from sha256 draft (i + 1) (with_their_contents (drop (i + 1) items) (left_after op left))) (sym d)
    ∙ ap (λ (l : List Content). given sha256 id (op, content_for op left) ∷ given_from sha256 draft (i + 1) (with_their_contents (drop (i + 1) items) l)) (sym r)
    ∙ ap (λ (l : List Op). given sha256 id (op, content_for op left) ∷ given_from sha256 draft (i + 1) (with_their_contents (drop (i + 1) l) rest)) s

pub ops_next : (out more all : List Op) (before after : List Both) (x : Both) → before ≡ x ∷ after → out ++ map (λ (b : Both). b.0) before ≡ all → more ≡ out ++ x.0 ∷ [] → more ++ map (λ (b : Both). b.0) after ≡ all
ops_next out more all before after x b e m =
    ap (λ (l : List Op). l ++ map (λ (b : Both). b.0) after) m ∙ append_assoc out (x.0 ∷ []) (map (λ (b : Both). b.0) after)
    ∙ ap (λ (l : List Both). out ++ map (λ (b : Both). b.0) l) (sym b) ∙ e

listed_is : (o : Option Content) (l : List Content) → listed o ++ l ≡ cons_option o l
listed_is None l = refl
listed_is (Some c) l = refl

pub contents_next : (out more all : List Content) (before after : List Both) (x : Both) → before ≡ x ∷ after → out ++ filter_map (λ (b : Both). b.1) before ≡ all → more ≡ out ++ listed x.1 → more ++ filter_map (λ (b : Both). b.1) after ≡ all
contents_next out more all before after x b e m =
    ap (λ (l : List Content). l ++ filter_map (λ (b : Both). b.1) after) m ∙ append_assoc out (listed x.1) (filter_map (λ (b : Both). b.1) after)
    ∙ ap (λ (l : List Content). out ++ l) (listed_is x.1 (filter_map (λ (b : Both). b.1) after)) ∙ ap (λ (l : List Both). out ++ filter_map (λ (b : Both). b.1) l) (sym b) ∙ e
