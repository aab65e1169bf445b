-- Marking hashes one part after the other.
use Rattle.std.proofs.Common.{◌≡◌, ℕ, suc, ◌+◌, ◌<◌, List, [], ◌∷◌, ◌++◌, Bool, true, false, ◌||◌, IsTrue, length, get_or, drop, drop-cons, refl, sym, ap, subst, ◌∙◌, arith, Result, Ok, Err, OnErr}
use Rattle.std.proofs.lemmas.List.Folds.{list_any-append}
use Rattle.std.specs.List.{flat_map}
use Rattle.cat_names.specs.declared.hash.Hash.{Hash}
use Rattle.cat_model.specs.Base.{is_among}
use Rattle.cat_model.specs.Same.{same_hash}
use Rattle.cat_graph.specs.GraphLaws.{same_self}
use Rattle.cat_mark.specs.Marks.{is_marked, AddsAll, AddsSome}

-- ---- tests

pub or_assoc : (a b c : Bool) → ((a || b) || c) ≡ (a || (b || c))
or_assoc true b c = refl
or_assoc false b c = refl

pub or_none : (a : Bool) → (a || false) ≡ a
or_none true = refl
or_none false = refl

or_left : (a b : Bool) → a ≡ true → (a || b) ≡ true
or_left a b e = rw e refl

more : (a b c : Bool) → (a || b) ≡ true → (a || (b || c)) ≡ true
more true b c e = refl
more false b c e = or_left b c e

-- what isn't there in the end wasn't before
pub unmarked : (a b : Bool) → (a ≡ true → b ≡ true) → b ≡ false → a ≡ false
unmarked true b f e = sym (f refl) ∙ e
unmarked false b f e = refl

or_other : (a b : Bool) → a ≡ false → (a || b) ≡ true → b ≡ true
or_other true b e f = absurd cc
or_other false b e f = f

right : (a b : Bool) → b ≡ true → (a || b) ≡ true
right true b e = refl
right false b e = e

-- ---- what is left

-- what was marked before and all that is to be marked are what is marked now and what is left
pub record IsUnder (old now left all : List Hash) : Type 0 where
  pub rest : (x : Hash) → (is_marked now x || is_among left x) ≡ (is_marked old x || is_among all x)
  pub kept : (x : Hash) → IsTrue (is_marked old x) → IsTrue (is_marked now x)

-- what is left is some hashes, and the rest
abbrev pub IsParted : List Hash → List Hash → List Hash → Type 0
IsParted left first rest = (x : Hash) → is_among left x ≡ (is_among first x || is_among rest x)

pub begun : (marks all : List Hash) → IsUnder marks marks all all
begun marks all = record { rest = λ x. refl; kept = λ x e. e }

-- the first of what is left were marked
pub goes_on : (old now new left first rest all : List Hash) → IsUnder old now left all → AddsAll now new first → IsParted left first rest → IsUnder old new rest all
goes_on old now new left first rest all under added parted = record {
  rest = λ x.
      ap (λ b. b || is_among rest x) (added x) ∙ or_assoc (is_marked now x) (is_among first x) (is_among rest x)
      ∙ ap (λ b. is_marked now x || b) (sym (parted x)) ∙ under.rest x;
  kept = λ x e. added x ∙ or_left (is_marked now x) (is_among first x) (under.kept x e);
}

-- the last of what is left were marked
pub done_with : (old now new left all : List Hash) → IsUnder old now left all → AddsAll now new left → AddsAll old new all
done_with old now new left all under added x = added x ∙ under.rest x

-- some of the first of what is left were marked
pub stops : (old now new left first rest all : List Hash) → IsUnder old now left all → AddsSome now new first → IsParted left first rest → AddsSome old new all
stops old now new left first rest all under added parted = record {
  kept = λ x e. added.kept x (under.kept x e);
  only = λ x e.
      sym (under.rest x) ∙ ap (λ b. is_marked now x || b) (parted x)
      ∙ more (is_marked now x) (is_among first x) (is_among rest x) (added.only x e);
  lacks =
      let x = added.lacks.hash in
      let before = unmarked (is_marked old x) (is_marked new x) (λ e. added.kept x (under.kept x e)) added.lacks.unmarked in
      let there = parted x ∙ or_left (is_among first x) (is_among rest x) added.lacks.among in record {
        hash = x;
        among = or_other (is_marked old x) (is_among all x) before (sym (under.rest x) ∙ right (is_marked now x) (is_among left x) there);
        unmarked = added.lacks.unmarked;
      };
}

none_first : (left : List Hash) → IsParted left left []
none_first left x = sym (or_none (is_among left x))

-- some of what is left were marked
pub stops_with : (old now new left all : List Hash) → IsUnder old now left all → AddsSome now new left → AddsSome old new all
stops_with old now new left all under added = stops old now new left left [] all under added (none_first left)

-- a hash wasn't marked, and nothing was changed
pub stays : (old new : List Hash) (hash : Hash) → ((x : Hash) → is_marked new x ≡ is_marked old x) → is_marked old hash ≡ false → AddsSome old new (hash ∷ [])
stays old new hash same absent = record {
  kept = λ x e. same x ∙ e;
  only = λ x e. or_left (is_marked old x) (is_among (hash ∷ []) x) (sym (same x) ∙ e);
  lacks = record { hash = hash; among = or_left (same_hash hash hash) false (same_self hash); unmarked = same hash ∙ absent };
}

-- nothing was to be marked
pub adds_none : (marks hashes : List Hash) → hashes ≡ [] → AddsAll marks marks hashes
adds_none marks hashes none x = sym (ap (λ (l : List Hash). is_marked marks x || is_among l x) none ∙ or_none (is_marked marks x))

-- what holds whatever a call returned, holds where it failed
pub on_err : {T E P : Type 0} (r : Result T E) → P → OnErr r P
on_err (Ok x) p = tt
on_err (Err e) p = p

-- ---- lists

pub both : (first rest : List Hash) → IsParted (first ++ rest) first rest
both first rest x = list_any-append (λ other. same_hash other x) first rest

-- a hash is left, and those behind it
pub next_one : (xs : List Hash) (i : ℕ) (d : Hash) → i < length xs → IsParted (drop i xs) (get_or xs i d ∷ []) (drop (i + 1) xs)
next_one xs i d lt =
    let k : i + 1 ≡ suc i = omega arith in
    let left : drop i xs ≡ get_or xs i d ∷ drop (i + 1) xs = rw (k, drop-cons xs i d lt) refl in
    subst (λ (l : List Hash). IsParted l (get_or xs i d ∷ []) (drop (i + 1) xs)) (sym left) (both (get_or xs i d ∷ []) (drop (i + 1) xs))

module _ {X : Type 0} (f : X → List Hash) where
  next_is : (xs : List X) (i : ℕ) (x : X) → i < length xs → x ≡ get_or xs i x → flat_map f (drop i xs) ≡ f x ++ flat_map f (drop (i + 1) xs)
  next_is xs i x lt e =
      let k : i + 1 ≡ suc i = omega arith in
      let left : drop i xs ≡ x ∷ drop (i + 1) xs = rw (k, drop-cons xs i x lt, ← e) refl in
      ap (λ (ys : List X). flat_map f ys) left

  -- what each element has is left from this one on
  pub next : (xs : List X) (i : ℕ) (x : X) → i < length xs → x ≡ get_or xs i x → IsParted (flat_map f (drop i xs)) (f x) (flat_map f (drop (i + 1) xs))
  next xs i x lt e = subst (λ (l : List Hash). IsParted l (f x) (flat_map f (drop (i + 1) xs))) (sym (next_is xs i x lt e)) (both (f x) (flat_map f (drop (i + 1) xs)))

  -- what the first has is left, and what the others have
  pub first : (xs : List X) (x : X) (rest : List X) → xs ≡ x ∷ rest → IsParted (flat_map f xs) (f x) (flat_map f rest)
  first xs x rest e = subst (λ (l : List X). IsParted (flat_map f l) (f x) (flat_map f rest)) (sym e) (both (f x) (flat_map f rest))
