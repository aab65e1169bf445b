-- The ancestors of commits that are linked.
use Rattle.std.proofs.Common.{◌≡◌, ℕ, ◌<◌, List, [], ◌∷◌, ◌++◌, Option, Some, None, Bool, true, false, cond, ◌||◌, ◌&&◌, is_some, inl, inr, refl, sym, ap, subst, ◌∙◌, arith}
use Rattle.std.specs.Prelude.{◌⊎◌, filter}
use Rattle.std.specs.Option.{option_map_or}
use Rattle.std.proofs.lemmas.Bool.{cases_Bool, or_cases, or_left, or_right, cond-true, cond-false, false≢true}
use Rattle.std.proofs.lemmas.Option.{none-some, same_Some}
use Rattle.std.proofs.lemmas.List.Folds.{list_any-append}
use Rattle.sha2.specs.Sha256.{sha256}
use Rattle.cat_names.specs.declared.hash.Hash.{Hash}
use Rattle.cat_model.specs.declared.commit.Commit.{Commit}
use Rattle.cat_model.specs.Base.{ancestors, common_ancestors, is_among}
use Rattle.cat_model.specs.Chain.{Commits, commit_of, generation}
use Rattle.cat_model.specs.Same.{same_hash}
use Rattle.cat_model.specs.State.{no_ancestor}
use Rattle.cat_graph.specs.Linked.{AreLinked, IsNext, is_known, is_merge_known, merge_generation}
use Rattle.cat_graph.specs.GraphLaws.{same_is, same_self}
use Rattle.cat_graph.proofs.Walks.{below, known_more}

-- ---- among commits and those older

-- a hash is known, and has the ancestors and the generation that it has among those older
record IsKept (commits older : Commits) (hash : Hash) : Type 0 where
  known : is_known commits hash ≡ true
  same_ancestors : ancestors commits hash ≡ ancestors older hash
  same_generation : generation commits hash ≡ generation older hash

kept_more : (x : Hash × Commit) (older : Commits) (hash : Hash) → AreLinked (x ∷ older) → is_known older hash ≡ true → IsKept (x ∷ older) older hash
kept_more x older hash are known =
    let other = below x older hash are known in record {
      known = known_more x older hash known;
      same_ancestors = cond-false _ _ _ other;
      same_generation = cond-false _ _ _ other;
    }

-- a commit stands upon those older
record Stands (commits : Commits) (at : Hash) (c : Commit) : Type 0 where
  older : Commits
  next : IsNext older at c
  kept : (hash : Hash) → is_known older hash ≡ true → IsKept commits older hash
  own : ancestors commits at ≡ at ∷ (ancestors older c.parent ++ option_map_or (ancestors older) c.merge_parent [])

stands_new : (x : Hash × Commit) (older : Commits) → AreLinked (x ∷ older) → Stands (x ∷ older) x.0 x.1
stands_new x older are = record {
  older = older;
  next = are.1;
  kept = λ hash known. kept_more x older hash are known;
  own = cond-true _ _ _ (same_self x.0);
}

stands_more : (x : Hash × Commit) (older : Commits) (at : Hash) (c : Commit) → AreLinked (x ∷ older) → same_hash x.0 at ≡ false → Stands older at c → Stands (x ∷ older) at c
stands_more x older at c are other stands = record {
  older = stands.older;
  next = stands.next;
  kept = λ hash known.
      let before = stands.kept hash known in
      let now = kept_more x older hash are before.known in record {
        known = now.known;
        same_ancestors = now.same_ancestors ∙ before.same_ancestors;
        same_generation = now.same_generation ∙ before.same_generation;
      };
  own = cond-false _ _ _ other ∙ stands.own;
}

stands_at : (commits : Commits) (at : Hash) (c : Commit) → AreLinked commits → commit_of commits at ≡ Some c → Stands commits at c
stands_at [] at c are e = absurd (none-some c e)
stands_at (x ∷ older) at c are e = elim (cases_Bool (same_hash x.0 at)) [
  | inl same ↦
      subst (λ (h : Hash). Stands (x ∷ older) h c) (same_is x.0 at same)
      (subst (λ (d : Commit). Stands (x ∷ older) x.0 d) (same_Some x.1 c (sym (cond-true _ (Some x.1) (commit_of older at) same) ∙ e)) (stands_new x older are))
  | inr other ↦ stands_more x older at c are other (stands_at older at c are.2 (sym (cond-false _ (Some x.1) (commit_of older at) other) ∙ e))
]

-- ---- ancestors by parents

merge_kept : (commits older : Commits) (merge_parent : Option Hash) → ((hash : Hash) → is_known older hash ≡ true → IsKept commits older hash) → is_merge_known older merge_parent ≡ true
    → option_map_or (ancestors older) merge_parent [] ≡ option_map_or (ancestors commits) merge_parent []
merge_kept commits older None kept known = refl
merge_kept commits older (Some hash) kept known = sym (kept hash known).same_ancestors

-- those of a commit are itself and those of its parents
pub ancestors_step : (commits : Commits) (at : Hash) (c : Commit) → AreLinked commits → commit_of commits at ≡ Some c
    → ancestors commits at ≡ at ∷ (ancestors commits c.parent ++ option_map_or (ancestors commits) c.merge_parent [])
ancestors_step commits at c are e =
    let stands = stands_at commits at c are e in
    let parent = sym (stands.kept c.parent stands.next.parent).same_ancestors in
    let merge_parent = merge_kept commits stands.older c.merge_parent stands.kept stands.next.merge_parent in
    stands.own ∙ (λ i. at ∷ (parent i ++ merge_parent i))

-- a hash that is no commit's has itself alone
pub ancestors_end : (commits : Commits) (at : Hash) → commit_of commits at ≡ None → ancestors commits at ≡ at ∷ []
ancestors_end [] at e = refl
ancestors_end (x ∷ older) at e = elim (cases_Bool (same_hash x.0 at)) [
  | inl same ↦ absurd (none-some x.1 (sym e ∙ cond-true _ (Some x.1) (commit_of older at) same))
  | inr other ↦ cond-false _ _ _ other ∙ ancestors_end older at (sym (cond-false _ (Some x.1) (commit_of older at) other) ∙ e)
]

among_first : (at : Hash) (rest : List Hash) → is_among (at ∷ rest) at ≡ true
among_first at rest = or_left (same_hash at at) _ (same_self at)

-- a hash is among its ancestors
pub among_own : (commits : Commits) (at : Hash) → is_among (ancestors commits at) at ≡ true
among_own [] at = among_first at []
among_own (x ∷ older) at = elim (cases_Bool (same_hash x.0 at)) [
  | inl same ↦ subst (λ (l : List Hash). is_among l at ≡ true) (sym (cond-true _ _ _ same)) (among_first at _)
  | inr other ↦ subst (λ (l : List Hash). is_among l at ≡ true) (sym (cond-false _ _ _ other)) (among_own older at)
]

among_parts : (at : Hash) (first second : List Hash) (y : Hash) → is_among (at ∷ (first ++ second)) y ≡ true → (at ≡ y) ⊎ ((is_among first y ≡ true) ⊎ (is_among second y ≡ true))
among_parts at first second y e = elim (or_cases (same_hash at y) _ e) [
  | inl same ↦ inl (same_is at y same)
  | inr later ↦ inr (or_cases (is_among first y) (is_among second y) (sym (list_any-append (λ other. same_hash other y) first second) ∙ later))
]

-- ---- what an ancestor is

-- a hash is known, and of a lesser generation than this
abbrev pub IsBelow : Commits → ℕ → Hash → Type 0
IsBelow commits most hash = (generation commits hash < most) × (is_known commits hash ≡ true)

parent_below : (older : Commits) (most : ℕ) (parent y : Hash) → generation older parent < most → is_known older parent ≡ true → (parent ≡ y) ⊎ IsBelow older (generation older parent) y → IsBelow older most y
parent_below older most parent y less known (inl e) = subst (IsBelow older most) e (less, known)
parent_below older most parent y less known (inr under) = (omega (arith, less, under.0), under.1)

merge_below : (older : Commits) (most : ℕ) (merge_parent : Option Hash) (y : Hash) → merge_generation older merge_parent < most → is_merge_known older merge_parent ≡ true
    → ((parent : Hash) → is_among (ancestors older parent) y ≡ true → (parent ≡ y) ⊎ IsBelow older (generation older parent) y)
    → is_among (option_map_or (ancestors older) merge_parent []) y ≡ true → IsBelow older most y
merge_below older most None y less known is e = absurd (false≢true e)
merge_below older most (Some parent) y less known is e = parent_below older most parent y less known (is parent e)

below_more : (x : Hash × Commit) (older : Commits) (most : ℕ) (y : Hash) → AreLinked (x ∷ older) → IsBelow older most y → IsBelow (x ∷ older) most y
below_more x older most y are under =
    let kept = kept_more x older y are under.1 in (subst (λ (n : ℕ). n < most) (sym kept.same_generation) under.0, kept.known)

new_above : (x : Hash × Commit) (older : Commits) (at y : Hash) → AreLinked (x ∷ older)
    → ((parent : Hash) → is_among (ancestors older parent) y ≡ true → (parent ≡ y) ⊎ IsBelow older (generation older parent) y)
    → (at ≡ y) ⊎ ((is_among (ancestors older (x.1).parent) y ≡ true) ⊎ (is_among (option_map_or (ancestors older) (x.1).merge_parent []) y ≡ true))
    → (at ≡ y) ⊎ IsBelow (x ∷ older) (x.1).generation y
new_above x older at y are is (inl e) = inl e
new_above x older at y are is (inr (inl e)) =
    let less : generation older (x.1).parent < (x.1).generation = omega (arith, (are.1).generation) in
    inr (below_more x older (x.1).generation y are (parent_below older (x.1).generation (x.1).parent y less (are.1).parent (is (x.1).parent e)))
new_above x older at y are is (inr (inr e)) =
    let less : merge_generation older (x.1).merge_parent < (x.1).generation = omega (arith, (are.1).generation) in
    inr (below_more x older (x.1).generation y are (merge_below older (x.1).generation (x.1).merge_parent y less (are.1).merge_parent is e))

old_above : (x : Hash × Commit) (older : Commits) (at y : Hash) → AreLinked (x ∷ older) → (at ≡ y) ⊎ IsBelow older (generation older at) y → (at ≡ y) ⊎ IsBelow (x ∷ older) (generation older at) y
old_above x older at y are (inl e) = inl e
old_above x older at y are (inr under) = inr (below_more x older (generation older at) y are under)

-- an ancestor is the hash itself, or a known one of a lesser generation
pub ancestor_is : (commits : Commits) (at y : Hash) → AreLinked commits → is_among (ancestors commits at) y ≡ true → (at ≡ y) ⊎ IsBelow commits (generation commits at) y
ancestor_is [] at y are e = elim (or_cases (same_hash at y) false e) [ inl same ↦ inl (same_is at y same) | inr more ↦ absurd (false≢true more) ]
ancestor_is (x ∷ older) at y are e = elim (cases_Bool (same_hash x.0 at)) [
  | inl same ↦
      let parts = among_parts at _ _ y (subst (λ (l : List Hash). is_among l y ≡ true) (cond-true _ _ (ancestors older at) same) e) in
      subst (λ (n : ℕ). (at ≡ y) ⊎ IsBelow (x ∷ older) n y) (sym (cond-true _ (x.1).generation (generation older at) same))
      (new_above x older at y are (λ parent f. ancestor_is older parent y are.2 f) parts)
  | inr other ↦
      subst (λ (n : ℕ). (at ≡ y) ⊎ IsBelow (x ∷ older) n y) (sym (cond-false _ (x.1).generation (generation older at) other))
      (old_above x older at y are (ancestor_is older at y are.2 (subst (λ (l : List Hash). is_among l y ≡ true) (cond-false _ _ (ancestors older at) other) e)))
]

known_by : (commits : Commits) (at y : Hash) → is_known commits at ≡ true → (at ≡ y) ⊎ IsBelow commits (generation commits at) y → is_known commits y ≡ true
known_by commits at y known (inl e) = subst (λ (h : Hash). is_known commits h ≡ true) e known
known_by commits at y known (inr under) = under.1

-- an ancestor of a known hash is known
pub ancestor_known : (commits : Commits) (at y : Hash) → AreLinked commits → is_known commits at ≡ true → is_among (ancestors commits at) y ≡ true → is_known commits y ≡ true
ancestor_known commits at y are known e = known_by commits at y known (ancestor_is commits at y are e)

-- the hash that has no ancestor is one of each known hash
pub none_among : (commits : Commits) (at : Hash) → AreLinked commits → is_known commits at ≡ true → is_among (ancestors commits at) (no_ancestor sha256) ≡ true
none_among [] at are known = subst (λ (h : Hash). is_among (h ∷ []) (no_ancestor sha256) ≡ true) (same_is (no_ancestor sha256) at known) (among_first (no_ancestor sha256) [])
none_among (x ∷ older) at are known =
    let none = no_ancestor sha256 in
    elim (cases_Bool (same_hash x.0 at)) [
      | inl same ↦
          let of_parent = none_among older (x.1).parent are.2 (are.1).parent in
          let of_both = list_any-append (λ other. same_hash other none) (ancestors older (x.1).parent) (option_map_or (ancestors older) (x.1).merge_parent []) ∙ or_left _ _ of_parent in
          subst (λ (l : List Hash). is_among l none ≡ true) (sym (cond-true _ _ _ same)) (or_right (same_hash at none) _ of_both)
      | inr other ↦
          let known_before = subst (λ (found : Option Commit). (is_some found || same_hash none at) ≡ true) (cond-false _ (Some x.1) (commit_of older at) other) known in
          subst (λ (l : List Hash). is_among l none ≡ true) (sym (cond-false _ _ _ other)) (none_among older at are.2 known_before)
    ]

-- ---- common ancestors

among_kept : (keeps : Bool) (same kept_x there : Bool) → (same ≡ true → keeps ≡ kept_x) → (y : Hash) (hashes : List Hash) (x : Hash) → same ≡ same_hash y x → is_among hashes x ≡ (kept_x && there)
    → is_among (cond keeps (y ∷ hashes) hashes) x ≡ (kept_x && (same || there))
among_kept true true true there alike y hashes x e more = or_left _ _ (sym e)
among_kept true true false there alike y hashes x e more = absurd (false≢true (sym (alike refl)))
among_kept false true true there alike y hashes x e more = absurd (false≢true (alike refl))
among_kept false true false there alike y hashes x e more = more
among_kept true false true there alike y hashes x e more = ap (λ (b : Bool). b || is_among hashes x) (sym e) ∙ more
among_kept true false false there alike y hashes x e more = ap (λ (b : Bool). b || is_among hashes x) (sym e) ∙ more
among_kept false false kept_x there alike y hashes x e more = more

-- what a filter keeps of hashes
among_filter : (keeps : Hash → Bool) (hashes : List Hash) (x : Hash) → is_among (filter keeps hashes) x ≡ (keeps x && is_among hashes x)
among_filter keeps [] x = elim (keeps x) as (λ b. false ≡ (b && false)) [ true ↦ refl | false ↦ refl ]
among_filter keeps (y ∷ hashes) x =
    among_kept (keeps y) (same_hash y x) (keeps x) (is_among hashes x) (λ same. ap keeps (same_is y x same)) y (filter keeps hashes) x refl (among_filter keeps hashes x)

-- a common ancestor is one of both
pub among_common : (commits : Commits) (a b x : Hash) → is_among (common_ancestors commits a b) x ≡ (is_among (ancestors commits b) x && is_among (ancestors commits a) x)
unfolding common_ancestors
among_common commits a b x = among_filter (is_among (ancestors commits b)) (ancestors commits a) x
