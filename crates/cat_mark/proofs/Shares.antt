-- Sets of shares, added one after the other.
use Rattle.std.proofs.Common.{◌≡◌, ℕ, suc, ◌+◌, ◌*◌, ◌<◌, ◌≤◌, List, [], ◌∷◌, ◌++◌, Bool, true, false, ◌||◌, Result, Ok, IfOk, drop, take, length, get_or, take-append-drop, drop-drop, refl, sym, ap, subst, ◌∙◌, arith}
use Rattle.std.proofs.lemmas.List.{drop_all}
use Rattle.std.proofs.lemmas.List.Concat.{flat_map-append}
use Rattle.std.specs.Fork.{slice_chunk}
use Rattle.std.specs.List.{flat_map}
use native.Mathlib.Nat.{suc-mul}
use Rattle.cat_names.specs.declared.hash.Hash.{Hash}
use Rattle.cat_model.specs.declared.cutoff.Cutoff.{Cutoff}
use Rattle.cat_model.specs.Base.{is_among}
use Rattle.cat_model.specs.Chain.{Commits}
use Rattle.cat_model.specs.Same.{same_hash}
use Rattle.cat_graph.specs.GraphLaws.{same_is, same_self}
use Rattle.cat_mark.specs.Marks.{is_marked, live_from_all, AddsAll, AddsSome, AreShares}
use Rattle.cat_mark.proofs.Marking.{IsParted, IsUnder, both, or_none}

-- ---- a set as a list of hashes

either_way : (a b : Bool) → (a ≡ true → b ≡ true) → (b ≡ true → a ≡ true) → a ≡ b
either_way true b f g = sym (f refl)
either_way false true f g = g refl
either_way false false f g = refl

turned : (a b : Hash) → same_hash a b ≡ same_hash b a
turned a b = either_way (same_hash a b) (same_hash b a)
    (λ e. subst (λ (h : Hash). same_hash h a ≡ true) (same_is a b e) (same_self a))
    (λ e. subst (λ (h : Hash). same_hash h b ≡ true) (same_is b a e) (same_self b))

pub among_marked : (set : List Hash) (x : Hash) → is_among set x ≡ is_marked set x
among_marked [] x = refl
among_marked (h ∷ hs) x = ap (λ b. b || is_among hs x) (turned h x) ∙ ap (λ b. same_hash x h || b) (among_marked hs x)

-- a set that has just these hashes was added
pub adds_set : (now new set list : List Hash) → AddsAll [] set list → AddsAll now new set → AddsAll now new list
adds_set now new set list has added x = added x ∙ ap (λ b. is_marked now x || b) (among_marked set x ∙ has x)

-- some of such a set
pub adds_some : (now new set list : List Hash) → AddsAll [] set list → AddsSome now new set → AddsSome now new list
adds_some now new set list has added =
    let is = λ (x : Hash). among_marked set x ∙ has x in record {
      kept = added.kept;
      only = λ x e. sym (ap (λ b. is_marked now x || b) (is x)) ∙ added.only x e;
      lacks = record { hash = added.lacks.hash; among = sym (is added.lacks.hash) ∙ added.lacks.among; unmarked = added.lacks.unmarked };
    }

-- a set of a share has what is live from the heads of its chunk
pub of_share : {E : Type 0} (commits : Commits) (heads : List (Hash × Cutoff)) (size : ℕ) (sets : List (Result (List Hash) E)) (k : ℕ) (d : Result (List Hash) E) (set : List Hash)
    → AreShares commits heads size sets → k < length sets → get_or sets k d ≡ Ok set → AddsAll [] set (live_from_all commits (slice_chunk heads size k))
of_share {E} commits heads size sets k d set shares lt is =
    subst (λ (r : Result (List Hash) E). IfOk r (λ set. AddsAll [] set (live_from_all commits (slice_chunk heads size k)))) is (shares.each k d lt)

-- ---- all again

was_under : (old now all rest : Bool) → (now || rest) ≡ (old || all) → (old ≡ true → now ≡ true) → (now || all) ≡ (old || all)
was_under true now all rest e f = ap (λ b. b || all) (f refl)
was_under false true true rest e f = refl
was_under false true false rest e f = e
was_under false false all rest e f = refl

-- after some of them, all were marked
pub marks_again : (old now new left all : List Hash) → IsUnder old now left all → AddsAll now new all → AddsAll old new all
marks_again old now new left all under added x = added x ∙ was_under (is_marked old x) (is_marked now x) (is_among all x) (is_among left x) (under.rest x) (under.kept x)

-- or some of them
pub stops_again : (old now new left all : List Hash) → IsUnder old now left all → AddsSome now new all → AddsSome old new all
stops_again old now new left all under added = record {
  kept = λ x e. added.kept x (under.kept x e);
  only = λ x e. sym (was_under (is_marked old x) (is_marked now x) (is_among all x) (is_among left x) (under.rest x) (under.kept x)) ∙ added.only x e;
  lacks = added.lacks;
}

-- nothing is left
pub all_done : (old now left all : List Hash) → IsUnder old now left all → left ≡ [] → AddsAll old now all
all_done old now left all under none x = sym (or_none (is_marked now x)) ∙ ap (λ (l : List Hash). is_marked now x || is_among l x) (sym none) ∙ under.rest x

-- ---- chunks

module _ {X : Type 0} (f : X → List Hash) (size : ℕ) (xs : List X) where
  rest_is : (k : ℕ) → drop size (drop (k * size) xs) ≡ drop ((k + 1) * size) xs
  rest_is k =
      let one : k + 1 ≡ suc k = omega arith in
      drop-drop size (k * size) xs ∙ ap (λ n. drop n xs) (sym (suc-mul k size)) ∙ ap (λ n. drop (n * size) xs) (sym one)

  parts : (k : ℕ) → flat_map f (drop (k * size) xs) ≡ flat_map f (slice_chunk xs size k) ++ flat_map f (drop ((k + 1) * size) xs)
  parts k =
      let left = drop (k * size) xs in
      ap (λ (l : List X). flat_map f l) (sym (take-append-drop size left)) ∙ flat_map-append f (take size left) (drop size left)
      ∙ ap (λ (l : List X). flat_map f (take size left) ++ flat_map f l) (rest_is k)

  -- what a chunk has is left, and what those behind it have
  pub chunk_next : (k : ℕ) → IsParted (flat_map f (drop (k * size) xs)) (flat_map f (slice_chunk xs size k)) (flat_map f (drop ((k + 1) * size) xs))
  chunk_next k =
      subst (λ (l : List Hash). IsParted l (flat_map f (slice_chunk xs size k)) (flat_map f (drop ((k + 1) * size) xs))) (sym (parts k))
      (both (flat_map f (slice_chunk xs size k)) (flat_map f (drop ((k + 1) * size) xs)))

  -- behind the last chunk nothing is left
  pub no_chunk : (k : ℕ) → length xs ≤ k * size → flat_map f (drop (k * size) xs) ≡ []
  no_chunk k le = ap (λ (l : List X). flat_map f l) (drop_all (k * size) xs le)
