-- Fronts of two histories, until they meet.
use Rattle.std.proofs.Common.{◌≡◌, ℕ, ◌+◌, ◌<◌, List, [], ◌∷◌, ◌++◌, Option, Some, None, Bool, true, false, ◌||◌, ◌&&◌, length, length-append, inl, inr, refl, sym, ap, subst, ◌∙◌, arith}
use mathlib.Core.Bool.{or_assoc, or_comm, and_comm}
use Rattle.std.specs.Prelude.{slice_get, IsPermutation, All}
use Rattle.std.specs.BinaryHeap.{IsUpperBound}
use Rattle.std.specs.Ordering.{nat_cmp, is_lt, is_eq, is_gt, ordering_then, ordering_reverse}
use Rattle.std.specs.Cmp.{IsTotalOrder}
use Rattle.std.specs.Cmp.Lexicographic.{slice_cmp}
use Rattle.std.specs.Option.{option_map_or}
use Rattle.std.specs.declared.cmp.Ordering.{Ordering}
use Rattle.std.specs.declared.cmp.Ordering.TheVariants.{Less, Equal, Greater}
use Rattle.std.proofs.lemmas.Bool.{or_cases, or_left, and_parts, and_from, both_ways, false_from_ne_true, false≢true}
use Rattle.std.proofs.lemmas.Cmp.{nat_cmp_total, nat_list_cmp_total, on_total, then_total, back_total}
use Rattle.std.proofs.lemmas.List.Elements.{All-cons, All-head, All-tail, All-nil}
use Rattle.std.proofs.lemmas.List.Folds.{list_any-append}
use Rattle.std.proofs.lemmas.List.Sorted.{All-permutation, length_permutation, list_any-IsPermutation, sum_by_pushed, sum_by_popped}
use Rattle.std.proofs.lemmas.Map.Lookups.{exact_bytes}
use Rattle.std.proofs.lemmas.Option.{none-some, same_Some}
use Rattle.sha2.specs.Sha256.{sha256}
use Rattle.cat_names.specs.declared.hash.Hash.{Hash}
use Rattle.cat_model.specs.declared.commit.Commit.{Commit}
use Rattle.cat_model.specs.Base.{ancestors, common_ancestors, is_among, is_nearer}
use Rattle.cat_model.specs.Chain.{Commits, commit_of, generation}
use Rattle.cat_model.specs.Same.{same_hash}
use Rattle.cat_model.specs.State.{no_ancestor}
use Rattle.cat_graph.specs.declared.front.Reached.{Reached}
use Rattle.cat_graph.specs.Fronts.{GoesOn, HaveGenerations, is_behind, is_first, nearness, reached, ways}
use Rattle.cat_graph.specs.Linked.{AreLinked, is_known}
use Rattle.cat_graph.specs.GraphLaws.{same_is}
use Rattle.cat_graph.proofs.Ancestors.{ancestor_known, ancestors_step, ancestors_end, among_own, among_common, none_among}
use Rattle.cat_graph.proofs.Nearest.{behind_not_nearer, under_is_nearer}

-- ---- the first of a front

first_passes : (P : Reached → Type 0) (front : List Reached) (at : Reached) → slice_get front 0 ≡ Some at → All P front → P at
first_passes P [] at e all = absurd (none-some at e)
first_passes P (other ∷ others) at e all = subst P (same_Some other at e) (All-head P other others all)

first_is : (front : List Reached) (at : Reached) (x : Hash) → slice_get front 0 ≡ Some at → is_first front x ≡ same_hash at.hash.0 x
first_is [] at x e = absurd (none-some at e)
first_is (other ∷ others) at x e = ap (λ (r : Reached). same_hash r.hash.0 x) (same_Some other at e)

-- the ancestors of the first are behind the front
behind_first : (commits : Commits) (front : List Reached) (at : Reached) (x : Hash) → slice_get front 0 ≡ Some at → is_among (ancestors commits at.hash.0) x ≡ true → is_behind commits front x ≡ true
behind_first commits [] at x e among = absurd (none-some at e)
behind_first commits (other ∷ others) at x e among =
    or_left _ _ (subst (λ (r : Reached). is_among (ancestors commits r.hash.0) x ≡ true) (sym (same_Some other at e)) among)

among_same : (commits : Commits) (at x : Hash) → same_hash at x ≡ true → is_among (ancestors commits at) x ≡ true
among_same commits at x same = subst (λ (h : Hash). is_among (ancestors commits at) h ≡ true) (same_is at x same) (among_own commits at)

-- one put into an empty front is there alone
alone : (x : Reached) (front : List Reached) → length front ≡ 1 → All (λ (r : Reached). r ≡ x) front → front ≡ x ∷ []
alone x [] one all = absurd (omega (arith, one))
alone x (at ∷ []) one all = ap (λ (r : Reached). r ∷ []) (All-head (λ (r : Reached). r ≡ x) at [] all)
alone x (at ∷ next ∷ others) one all = absurd (omega (arith, one))

pub put_alone : (x at : Reached) (old new : List Reached) → at ≡ x → old ≡ [] → IsPermutation (at ∷ old) new → new ≡ x ∷ []
put_alone x at old new same empty moved =
    let one = length_permutation (at ∷ old) new moved ∙ ap (λ (l : List Reached). length (at ∷ l)) empty in
    let no_others = subst (λ (l : List Reached). All (λ (r : Reached). r ≡ x) l) (sym empty) (All-nil (λ (r : Reached). r ≡ x)) in
    alone x new one (All-permutation (λ (r : Reached). r ≡ x) (at ∷ old) new moved (All-cons (λ (r : Reached). r ≡ x) at old same no_others))

-- ---- a front that goes on

generations_left : (commits : Commits) (old rest : List Reached) (at : Reached) → IsPermutation old (at ∷ rest) → HaveGenerations commits old → HaveGenerations commits rest
generations_left commits old rest at moved all =
    All-tail (λ (r : Reached). r.generation ≡ generation commits r.hash.0) at rest (All-permutation (λ (r : Reached). r.generation ≡ generation commits r.hash.0) old (at ∷ rest) moved all)

goes_on : (commits : Commits) (old rest new : List Reached) (at : Reached) → slice_get old 0 ≡ Some at → IsPermutation old (at ∷ rest) → HaveGenerations commits new
    → ((x : Hash) → (is_among (ancestors commits at.hash.0) x || is_behind commits rest x) ≡ (same_hash at.hash.0 x || is_behind commits new x))
    → ways commits new < length (ancestors commits at.hash.0) + ways commits rest → GoesOn commits old new
goes_on commits old rest new at first moved generations behind fewer =
    let total = sum_by_popped (λ (r : Reached). length (ancestors commits r.hash.0)) at old rest moved in record {
      generations = generations;
      behind = λ x. list_any-IsPermutation (λ (r : Reached). is_among (ancestors commits r.hash.0) x) old (at ∷ rest) moved ∙ behind x ∙ ap (λ b. b || is_behind commits new x) (sym (first_is old at x first));
      fewer = omega (arith, total, fewer);
    }

either_way : (own same others : Bool) → (same ≡ true → own ≡ true) → (own ≡ true → others ≡ true) → (own || others) ≡ (same || others)
either_way own true others f g = or_left own others (f refl)
either_way true false others f g = sym (g refl)
either_way false false others f g = refl

some_length : (hashes : List Hash) (x : Hash) → is_among hashes x ≡ true → 0 < length hashes
some_length [] x e = absurd (false≢true e)
some_length (hash ∷ hashes) x e = omega arith

-- where the first one is there once more, it is only taken off
pub goes_on_twice : (commits : Commits) (old rest : List Reached) (at : Reached) → slice_get old 0 ≡ Some at → IsPermutation old (at ∷ rest) → HaveGenerations commits old → slice_get rest 0 ≡ Some at → GoesOn commits old rest
goes_on_twice commits old rest at first moved all again =
    let some = some_length (ancestors commits at.hash.0) at.hash.0 (among_own commits at.hash.0) in
    goes_on commits old rest rest at first moved (generations_left commits old rest at moved all)
    (λ x. either_way _ (same_hash at.hash.0 x) _ (among_same commits at.hash.0 x) (behind_first commits rest at x again))
    (omega (arith, some))

-- else its other ancestors are put in
goes_up : (commits : Commits) (old rest new : List Reached) (at : Reached) (above : List Hash) → slice_get old 0 ≡ Some at → IsPermutation old (at ∷ rest) → HaveGenerations commits new
    → ancestors commits at.hash.0 ≡ at.hash.0 ∷ above → ((x : Hash) → is_behind commits new x ≡ (is_among above x || is_behind commits rest x)) → ways commits new ≡ length above + ways commits rest → GoesOn commits old new
goes_up commits old rest new at above first moved generations own behind total =
    let one_more : length (ancestors commits at.hash.0) ≡ length above + 1 = ap (λ (l : List Hash). length l) own ∙ omega arith in
    goes_on commits old rest new at first moved generations
    (λ x. ap (λ (l : List Hash). is_among l x || is_behind commits rest x) own ∙ or_assoc (same_hash at.hash.0 x) (is_among above x) (is_behind commits rest x) ∙ ap (λ b. same_hash at.hash.0 x || b) (sym (behind x)))
    (omega (arith, one_more, total))

pub goes_up_end : (commits : Commits) (old rest : List Reached) (at : Reached) → slice_get old 0 ≡ Some at → IsPermutation old (at ∷ rest) → HaveGenerations commits old → commit_of commits at.hash.0 ≡ None → GoesOn commits old rest
goes_up_end commits old rest at first moved all none =
    goes_up commits old rest rest at [] first moved (generations_left commits old rest at moved all) (ancestors_end commits at.hash.0 none) (λ x. refl) (omega arith)

-- a front with a hash put in
record PutsIn (commits : Commits) (old : List Reached) (hash : Hash) (new : List Reached) : Type 0 where
  generations : HaveGenerations commits new
  behind : (x : Hash) → is_behind commits new x ≡ (is_among (ancestors commits hash) x || is_behind commits old x)
  total : ways commits new ≡ length (ancestors commits hash) + ways commits old

puts_in : (commits : Commits) (old new : List Reached) (hash : Hash) → HaveGenerations commits old → IsPermutation (reached commits hash ∷ old) new → PutsIn commits old hash new
puts_in commits old new hash all moved = record {
  generations = All-permutation (λ (r : Reached). r.generation ≡ generation commits r.hash.0) (reached commits hash ∷ old) new moved (All-cons (λ (r : Reached). r.generation ≡ generation commits r.hash.0) (reached commits hash) old refl all);
  behind = λ x. sym (list_any-IsPermutation (λ (r : Reached). is_among (ancestors commits r.hash.0) x) (reached commits hash ∷ old) new moved);
  total = sum_by_pushed (λ (r : Reached). length (ancestors commits r.hash.0)) (reached commits hash) old new moved;
}

or_false : (b : Bool) → (b || false) ≡ b
or_false true = refl
or_false false = refl

-- to the parent of a commit that merges nothing
pub goes_up_one : (commits : Commits) (old rest new : List Reached) (at : Reached) (c : Commit) → AreLinked commits → slice_get old 0 ≡ Some at → IsPermutation old (at ∷ rest) → HaveGenerations commits old
    → commit_of commits at.hash.0 ≡ Some c → c.merge_parent ≡ None → IsPermutation (reached commits c.parent ∷ rest) new → GoesOn commits old new
goes_up_one commits old rest new at c are first moved all found alone put =
    let one = puts_in commits rest new c.parent (generations_left commits old rest at moved all) put in
    let parents = ancestors commits c.parent in
    let own = ancestors_step commits at.hash.0 c are found ∙ ap (λ (m : Option Hash). at.hash.0 ∷ (parents ++ option_map_or (ancestors commits) m [])) alone in
    goes_up commits old rest new at (parents ++ []) first moved one.generations own
    (λ x. one.behind x ∙ ap (λ b. b || is_behind commits rest x) (sym (list_any-append (λ other. same_hash other x) parents [] ∙ or_false (is_among parents x))))
    (let joined = length-append parents [] in omega (arith, one.total, joined))

-- to both parents of a commit that merges
pub goes_up_two : (commits : Commits) (old rest between new : List Reached) (at : Reached) (c : Commit) (merge_parent : Hash) → AreLinked commits → slice_get old 0 ≡ Some at → IsPermutation old (at ∷ rest)
    → HaveGenerations commits old → commit_of commits at.hash.0 ≡ Some c → c.merge_parent ≡ Some merge_parent → IsPermutation (reached commits c.parent ∷ rest) between
    → IsPermutation (reached commits merge_parent ∷ between) new → GoesOn commits old new
goes_up_two commits old rest between new at c merge_parent are first moved all found merged put put_both =
    let one = puts_in commits rest between c.parent (generations_left commits old rest at moved all) put in
    let two = puts_in commits between new merge_parent one.generations put_both in
    let parents = ancestors commits c.parent in
    let others = ancestors commits merge_parent in
    let own = ancestors_step commits at.hash.0 c are found ∙ ap (λ (m : Option Hash). at.hash.0 ∷ (parents ++ option_map_or (ancestors commits) m [])) merged in
    goes_up commits old rest new at (parents ++ others) first moved two.generations own
    (λ x. two.behind x ∙ ap (λ b. is_among others x || b) (one.behind x) ∙ sym (or_assoc (is_among others x) (is_among parents x) (is_behind commits rest x))
    ∙ ap (λ b. b || is_behind commits rest x) (or_comm (is_among others x) (is_among parents x) ∙ sym (list_any-append (λ other. same_hash other x) parents others)))
    (let joined = length-append parents others in omega (arith, one.total, two.total, joined))

-- ---- the order of nearness

nearness_total : IsTotalOrder nearness
nearness_total = then_total (on_total (λ (r : Reached). r.generation) nat_cmp_total) (back_total (on_total (λ (r : Reached). r.hash.0.bytes) nat_list_cmp_total))

less_turned : (ab ba : Ordering) → ab ≡ ordering_reverse ba → ab ≡ Greater → is_lt ba ≡ true
less_turned ab Less e f = refl
less_turned ab Equal e f = absurd (false≢true (ap is_gt (sym e ∙ f)))
less_turned ab Greater e f = absurd (false≢true (ap is_gt (sym e ∙ f)))

-- the greater is above the other
pub under_greater : (a b : Reached) → nearness a b ≡ Greater → is_lt (nearness b a) ≡ true
under_greater a b e = less_turned (nearness a b) (nearness b a) (nearness_total.antisymm a b) e

tied_last : (first last : Ordering) → ordering_then first last ≡ Equal → last ≡ Equal
tied_last Less last e = absurd (false≢true (ap is_eq e))
tied_last Equal last e = e
tied_last Greater last e = absurd (false≢true (ap is_eq e))

-- those that tie have one hash
tied_hash : (a b : Reached) → nearness a b ≡ Equal → b.hash.0 ≡ a.hash.0
tied_hash a b e =
    ap (λ (bytes : List ℕ). record { bytes = bytes }) (exact_bytes b.hash.0.bytes a.hash.0.bytes (tied_last (nat_cmp a.generation b.generation) (slice_cmp nat_cmp b.hash.0.bytes a.hash.0.bytes) e))

-- none behind a front is nearer than its nearest
behind_top : (commits : Commits) (front : List Reached) (top : Reached) (x : Hash) → AreLinked commits → HaveGenerations commits front → top.generation ≡ generation commits top.hash.0 → IsUpperBound nearness top front
    → is_behind commits front x ≡ true → is_nearer commits x top.hash.0 ≡ false
behind_top commits [] top x are all own upper e = absurd (false≢true e)
behind_top commits (at ∷ others) top x are all own upper e = elim (or_cases (is_among (ancestors commits at.hash.0) x) _ e) [
  | inl here ↦
      let generation_at = All-head (λ (r : Reached). r.generation ≡ generation commits r.hash.0) at others all in
      behind_not_nearer commits at.hash.0 top.hash.0 x are (sym (under_is_nearer commits top at own generation_at) ∙ upper.0) here
  | inr later ↦ behind_top commits others top x are (All-tail (λ (r : Reached). r.generation ≡ generation commits r.hash.0) at others all) own upper.1 later
]

-- ---- two fronts

-- what is common is behind both fronts
pub record Sides (commits : Commits) (common : Hash → Bool) (near far : List Reached) : Type 0 where
  pub near_generations : HaveGenerations commits near
  pub far_generations : HaveGenerations commits far
  pub both : (x : Hash) → common x ≡ (is_behind commits near x && is_behind commits far x)

pub turned : (commits : Commits) (common : Hash → Bool) (near far : List Reached) → Sides commits common near far → Sides commits common far near
turned commits common near far sides = record {
  near_generations = sides.far_generations;
  far_generations = sides.near_generations;
  both = λ x. sides.both x ∙ and_comm (is_behind commits near x) (is_behind commits far x);
}

one_generation : (commits : Commits) (hash : Hash) → HaveGenerations commits (reached commits hash ∷ [])
one_generation commits hash = All-cons (λ (r : Reached). r.generation ≡ generation commits r.hash.0) (reached commits hash) [] refl (All-nil (λ (r : Reached). r.generation ≡ generation commits r.hash.0))

-- at first each has its own commit
pub sides_first : (commits : Commits) (a b : Hash) → Sides commits (is_among (common_ancestors commits a b)) (reached commits a ∷ []) (reached commits b ∷ [])
sides_first commits a b =
    let own_a = is_among (ancestors commits a) in
    let own_b = is_among (ancestors commits b) in record {
      near_generations = one_generation commits a;
      far_generations = one_generation commits b;
      both = λ x. among_common commits a b x ∙ and_comm (own_b x) (own_a x) ∙ (λ i. sym (or_false (own_a x)) i && sym (or_false (own_b x)) i);
    }

-- a front is never empty while something is common
pub some_near : (commits : Commits) (common : Hash → Bool) (near far : List Reached) (x : Hash) → Sides commits common near far → common x ≡ true → slice_get near 0 ≡ None → ⊥
some_near commits common [] far x sides e none = false≢true (sym (sides.both x) ∙ e)
some_near commits common (at ∷ others) far x sides e none = none-some at (sym none)

-- the hash that has no ancestor is common to known ones
pub none_common : (commits : Commits) (a b : Hash) → AreLinked commits → is_known commits a ≡ true → is_known commits b ≡ true → is_among (common_ancestors commits a b) (no_ancestor sha256) ≡ true
none_common commits a b are known_a known_b = among_common commits a b (no_ancestor sha256) ∙ and_from _ _ (none_among commits b are known_b) (none_among commits a are known_a)

-- and a common ancestor of known ones is known
pub common_known : (commits : Commits) (a b x : Hash) → AreLinked commits → is_known commits a ≡ true → is_among (common_ancestors commits a b) x ≡ true → is_known commits x ≡ true
common_known commits a b x are known e =
    ancestor_known commits a x are known (and_parts (is_among (ancestors commits b) x) (is_among (ancestors commits a) x) (sym (among_common commits a b x) ∙ e)).1

passed : (same more far : Bool) → (same ≡ true → far ≡ false) → ((same || more) && far) ≡ (more && far)
passed true more far none = elim more as (λ m. far ≡ (m && far)) [ true ↦ refl | false ↦ none refl ]
passed false more far none = refl

-- the side whose nearest is nearer than that of the other goes on
pub sides_more : (commits : Commits) (common : Hash → Bool) (near next far : List Reached) (a b : Reached) → AreLinked commits → Sides commits common near far → slice_get near 0 ≡ Some a → slice_get far 0 ≡ Some b
    → IsUpperBound nearness b far → is_lt (nearness b a) ≡ true → GoesOn commits near next → Sides commits common next far
sides_more commits common near next far a b are sides first_near first_far upper under goes =
    let P : Reached → Type 0 = λ r. r.generation ≡ generation commits r.hash.0 in
    let own_a = first_passes P near a first_near sides.near_generations in
    let own_b = first_passes P far b first_far sides.far_generations in
    let nearer = sym (under_is_nearer commits b a own_b own_a) ∙ under in
    let not_far = false_from_ne_true (is_behind commits far a.hash.0) (λ e. both_ways _ (behind_top commits far b a.hash.0 are sides.far_generations own_b upper e) nearer) in record {
      near_generations = goes.generations;
      far_generations = sides.far_generations;
      both = λ x. sides.both x ∙ ap (λ t. t && is_behind commits far x) (goes.behind x ∙ ap (λ t. t || is_behind commits next x) (first_is near a x first_near))
          ∙ passed (same_hash a.hash.0 x) (is_behind commits next x) (is_behind commits far x) (λ same. subst (λ (h : Hash). is_behind commits far h ≡ false) (same_is a.hash.0 x same) not_far);
    }

-- where both sides' nearest are one hash it is common
pub met_common : (commits : Commits) (common : Hash → Bool) (near far : List Reached) (a b : Reached) → Sides commits common near far → slice_get near 0 ≡ Some a → slice_get far 0 ≡ Some b → nearness a b ≡ Equal → common a.hash.0 ≡ true
met_common commits common near far a b sides first_near first_far tied =
    let one = subst (λ (h : Hash). is_behind commits far h ≡ true) (tied_hash a b tied) (behind_first commits far b b.hash.0 first_far (among_own commits b.hash.0)) in
    sides.both a.hash.0 ∙ and_from _ _ (behind_first commits near a a.hash.0 first_near (among_own commits a.hash.0)) one

-- and none that is common is nearer
pub met_nearest : (commits : Commits) (common : Hash → Bool) (near far : List Reached) (a : Reached) → AreLinked commits → Sides commits common near far → slice_get near 0 ≡ Some a → IsUpperBound nearness a near
    → (x : Hash) → common x ≡ true → is_nearer commits x a.hash.0 ≡ false
met_nearest commits common near far a are sides first_near upper x e =
    let own = first_passes (λ (r : Reached). r.generation ≡ generation commits r.hash.0) near a first_near sides.near_generations in
    behind_top commits near a x are sides.near_generations own upper (and_parts (is_behind commits near x) (is_behind commits far x) (sym (sides.both x) ∙ e)).0
