-- The nearest of hashes.
use Rattle.std.proofs.Common.{◌≡◌, ℕ, ◌<◌, List, [], ◌∷◌, Bool, true, false, cond, ◌||◌, ◌&&◌, eqb, ltb, inl, inr, refl, sym, ap, subst, ◌∙◌, arith}
use Rattle.std.specs.Prelude.{◌⊎◌}
use Rattle.std.specs.Ordering.{nat_cmp, is_lt, ordering_then, ordering_reverse}
use Rattle.std.specs.Cmp.Lexicographic.{slice_cmp}
use Rattle.std.specs.declared.cmp.Ordering.{Ordering}
use Rattle.std.specs.declared.cmp.Ordering.TheVariants.{Less, Equal, Greater}
use Rattle.std.proofs.lemmas.Bool.{cases_order, or_cases, or_left, or_right, or_parts, or_from, both_ways, false≢true, true≢false, ltb-false, le-ltb, lt-ltb, eq-eqb, ne_eqb}
use Rattle.std.proofs.lemmas.Cmp.{nat_list_cmp_total}
use Rattle.std.proofs.lemmas.Map.Lookups.{exact_bytes}
use Rattle.cat_names.specs.declared.hash.Hash.{Hash}
use Rattle.cat_model.specs.Base.{ancestors, base, common_ancestors, hash_before, is_among, is_nearer, nearest, nearest_of}
use Rattle.cat_model.specs.Chain.{Commits, generation}
use Rattle.cat_model.specs.Same.{same_hash}
use Rattle.cat_graph.specs.declared.front.Reached.{Reached}
use Rattle.cat_graph.specs.Fronts.{nearness}
use Rattle.cat_graph.specs.Linked.{AreLinked}
use Rattle.cat_graph.specs.GraphLaws.{same_is, same_self}
use Rattle.cat_graph.proofs.Ancestors.{IsBelow, ancestor_is}

-- ---- nearness is an order

not_less : (ab ba : Ordering) → ab ≡ ordering_reverse ba → is_lt ab ≡ false → is_lt ba ≡ false → ab ≡ Equal
not_less Less ba e f g = absurd (true≢false f)
not_less Equal ba e f g = refl
not_less Greater Less e f g = absurd (true≢false g)
not_less Greater Equal e f g = e
not_less Greater Greater e f g = absurd (true≢false (sym (ap is_lt e) ∙ f))

-- of two hashes by their bytes
neither_before : (a b : Hash) → hash_before a b ≡ false → hash_before b a ≡ false → a ≡ b
neither_before a b e f =
    let tied = not_less (slice_cmp nat_cmp a.bytes b.bytes) (slice_cmp nat_cmp b.bytes a.bytes) (nat_list_cmp_total.antisymm a.bytes b.bytes) e f in
    ap (λ (bytes : List ℕ). record { bytes = bytes }) (exact_bytes a.bytes b.bytes tied)

by_generation : (m n : ℕ) (before after : Bool) → (ltb n m || (eqb m n && before)) ≡ false → (ltb m n || (eqb n m && after)) ≡ false → (m ≡ n) × (before ≡ false) × (after ≡ false)
by_generation m n before after e f =
    let first = or_parts (ltb n m) _ e in
    let second = or_parts (ltb m n) _ f in
    let least = ltb-false n m first.0 in
    let most = ltb-false m n second.0 in
    let same : m ≡ n = omega arith in
    (same, sym (ap (λ b. b && before) (eq-eqb m n same)) ∙ first.1, sym (ap (λ b. b && after) (eq-eqb n m (sym same))) ∙ second.1)

-- two hashes of which neither is nearer are one
pub neither_nearer : (commits : Commits) (a b : Hash) → is_nearer commits a b ≡ false → is_nearer commits b a ≡ false → a ≡ b
unfolding is_nearer
neither_nearer commits a b e f =
    let parts = by_generation (generation commits a) (generation commits b) (hash_before a b) (hash_before b a) e f in
    neither_before a b parts.1 parts.2

-- an ancestor is not nearer than its descendant
below_nearer : (m n most : ℕ) (before other : Bool) → (ltb n m || (eqb m n && before)) ≡ false → most < m → (ltb n most || (eqb most n && other)) ≡ false
below_nearer m n most before other e less =
    let bound = ltb-false n m (or_parts (ltb n m) _ e).0 in
    let low : most < n = omega arith in
    or_from _ _ (le-ltb n most (omega arith)) (ap (λ b. b && other) (ne_eqb most n (λ same. omega arith)))

behind_by : (commits : Commits) (at top x : Hash) → is_nearer commits at top ≡ false → (at ≡ x) ⊎ IsBelow commits (generation commits at) x → is_nearer commits x top ≡ false
unfolding is_nearer
behind_by commits at top x e (inl same) = subst (λ (h : Hash). is_nearer commits h top ≡ false) same e
behind_by commits at top x e (inr under) =
    below_nearer (generation commits at) (generation commits top) (generation commits x) (hash_before at top) (hash_before x top) e under.0

pub behind_not_nearer : (commits : Commits) (at top x : Hash) → AreLinked commits → is_nearer commits at top ≡ false → is_among (ancestors commits at) x ≡ true → is_nearer commits x top ≡ false
behind_not_nearer commits at top x are e among = behind_by commits at top x e (ancestor_is commits at x are among)

-- ---- the order of a front

ordered_by : (m n : ℕ) (o : Ordering) → (m ≡ n) ⊎ ((m < n) ⊎ (n < m)) → is_lt (ordering_then (nat_cmp m n) o) ≡ (ltb m n || (eqb n m && is_lt o))
ordered_by m n o (inl same) = rw (le-ltb m n (omega (arith, same)), eq-eqb m n same, eq-eqb n m (sym same)) refl
ordered_by m n o (inr (inl less)) = rw (lt-ltb m n less) refl
ordered_by m n o (inr (inr more)) = rw (le-ltb m n (omega (arith, more)), ne_eqb m n (λ same. omega (arith, same, more)), ne_eqb n m (λ same. omega (arith, same, more))) refl

-- one is under another in a front where the other is nearer
pub under_is_nearer : (commits : Commits) (a b : Reached) → a.generation ≡ generation commits a.hash.0 → b.generation ≡ generation commits b.hash.0 → is_lt (nearness a b) ≡ is_nearer commits b.hash.0 a.hash.0
unfolding is_nearer
under_is_nearer commits a b e f =
    let before = is_lt (slice_cmp nat_cmp b.hash.0.bytes a.hash.0.bytes) in
    ordered_by a.generation b.generation (slice_cmp nat_cmp b.hash.0.bytes a.hash.0.bytes) (cases_order a.generation b.generation)
    ∙ (λ i. ltb (e i) (f i) || (eqb (f i) (e i) && before))

-- ---- the nearest of a list

-- with the better of two before the others, one that none is nearer than is still there
still_there : (commits : Commits) (b : Bool) (best hash found : Hash) (hashes : List Hash) → is_nearer commits hash best ≡ b
    → ((x : Hash) → is_among (best ∷ hash ∷ hashes) x ≡ true → is_nearer commits x found ≡ false) → is_among (best ∷ hash ∷ hashes) found ≡ true → is_among (cond b hash best ∷ hashes) found ≡ true
still_there commits true best hash found hashes e none there = elim (or_cases (same_hash best found) _ there) [
  | inl same ↦
      let nearer = subst (λ (h : Hash). is_nearer commits hash h ≡ true) (same_is best found same) e in
      absurd (both_ways (is_nearer commits hash found) (none hash (or_right (same_hash best hash) _ (or_left (same_hash hash hash) _ (same_self hash)))) nearer)
  | inr later ↦ later
]
still_there commits false best hash found hashes e none there = elim (or_cases (same_hash best found) _ there) [
  | inl same ↦ or_left (same_hash best found) _ same
  | inr later ↦ elim (or_cases (same_hash hash found) _ later) [
    | inl same ↦
        let farther = subst (λ (h : Hash). is_nearer commits h best ≡ false) (same_is hash found same) e in
        let one = neither_nearer commits best found (none best (or_left (same_hash best best) _ (same_self best))) farther in
        or_left (same_hash best found) _ (subst (λ (h : Hash). same_hash best h ≡ true) one (same_self best))
    | inr last ↦ or_right (same_hash best found) _ last
  ]
]

-- and no other is there
fewer_there : (b : Bool) (best hash x : Hash) (hashes : List Hash) → is_among (cond b hash best ∷ hashes) x ≡ true → is_among (best ∷ hash ∷ hashes) x ≡ true
fewer_there true best hash x hashes e = or_right (same_hash best x) _ e
fewer_there false best hash x hashes e = elim (or_cases (same_hash best x) _ e) [
  | inl same ↦ or_left (same_hash best x) _ same
  | inr later ↦ or_right (same_hash best x) _ (or_right (same_hash hash x) _ later)
]

-- one that none is nearer than is what the fold gives
nearest_is : (commits : Commits) (best found : Hash) (hashes : List Hash) → ((x : Hash) → is_among (best ∷ hashes) x ≡ true → is_nearer commits x found ≡ false) → is_among (best ∷ hashes) found ≡ true
    → nearest commits best hashes ≡ found
nearest_is commits best found [] none there = elim (or_cases (same_hash best found) false there) [ inl same ↦ same_is best found same | inr more ↦ absurd (false≢true more) ]
nearest_is commits best found (hash ∷ hashes) none there =
    let b = is_nearer commits hash best in
    nearest_is commits (cond b hash best) found hashes (λ x e. none x (fewer_there b best hash x hashes e)) (still_there commits b best hash found hashes refl none there)

nearest_of_is : (commits : Commits) (other found : Hash) (hashes : List Hash) → ((x : Hash) → is_among hashes x ≡ true → is_nearer commits x found ≡ false) → is_among hashes found ≡ true
    → nearest_of commits other hashes ≡ found
nearest_of_is commits other found [] none there = absurd (false≢true there)
nearest_of_is commits other found (hash ∷ hashes) none there = nearest_is commits hash found hashes none there

-- a common ancestor that none is nearer than is the merge base
pub base_is : (commits : Commits) (a b found : Hash) → is_among (common_ancestors commits a b) found ≡ true → ((x : Hash) → is_among (common_ancestors commits a b) x ≡ true → is_nearer commits x found ≡ false)
    → found ≡ base commits a b
unfolding base
base_is commits a b found there none = sym (nearest_of_is commits a found (common_ancestors commits a b) none there)
