-- What a cutoff keeps of a chain, by the test of each commit.
use Rattle.std.proofs.Common.{◌≡◌, ◌≢◌, ◌∙◌, ap, refl, sym, ℕ, zero, suc, ◌+◌, ◌-◌, ◌<◌, List, [], ◌∷◌, take, take_while, Bool, true, false, cond, not, ◌||◌, ◌==◌, inl, inr, nat_lt, arith}
use Rattle.std.proofs.lemmas.Bool.{cases_lt, cond-true, cond-false, le-ltb, lt-ltb, ne_eqb, or_from, or_right}
use Rattle.std.proofs.lemmas.List.Sums.{take_while-cons}
use Rattle.cat_names.specs.declared.hash.Hash.{Hash}
use Rattle.cat_model.specs.declared.commit.Commit.{Commit}
use Rattle.cat_model.specs.declared.cutoff.Cutoff.{Cutoff}
use Rattle.cat_model.specs.declared.cutoff.Cutoff.TheVariants as cutoffs
use Rattle.cat_model.specs.Chain.{Commits}
use Rattle.cat_model.specs.Cutoffs.{is_older, keeps, kept, kept_from}

-- a commit that is kept, and one that isn't
goes_on : (cutoff : Cutoff) (i : ℕ) (x : Hash × Commit) (rest : Commits) → keeps cutoff i x.1.time ≡ true → kept_from cutoff i (x ∷ rest) ≡ x ∷ kept_from cutoff (i + 1) rest
goes_on cutoff i x rest e = cond-true (keeps cutoff i x.1.time) (x ∷ kept_from cutoff (i + 1) rest) [] e

stops : (cutoff : Cutoff) (i : ℕ) (x : Hash × Commit) (rest : Commits) → keeps cutoff i x.1.time ≡ false → kept_from cutoff i (x ∷ rest) ≡ []
stops cutoff i x rest e = cond-false (keeps cutoff i x.1.time) (x ∷ kept_from cutoff (i + 1) rest) [] e

all : (rest : Commits) (i : ℕ) → kept_from cutoffs.All i rest ≡ rest
all [] i = refl
all (x ∷ rest) i = goes_on cutoffs.All i x rest (or_right (i == 0) true refl) ∙ ap (λ ys. x ∷ ys) (all rest (i + 1))

none_of : (n : ℕ) → take {A = Hash × Commit} n [] ≡ []
none_of zero = refl
none_of (suc n) = refl

so_many : (rest : Commits) (count i : ℕ) → 0 < i → kept_from (cutoffs.Commits count) i rest ≡ take (count - i) rest
so_many [] count i h = sym (none_of (count - i))
so_many (x ∷ rest) count i h =
    elim (cases_lt i count) [
      | inl below ↦
          let more : count - i ≡ suc (count - (i + 1)) = omega arith in
          let next : 0 < i + 1 = omega arith in
          goes_on (cutoffs.Commits count) i x rest (or_right (i == 0) (nat_lt i count) (lt-ltb i count below))
          ∙ ap (λ ys. x ∷ ys) (so_many rest count (i + 1) next)
          ∙ sym (ap (λ n. take n (x ∷ rest)) more)
      | inr above ↦
          let none : count - i ≡ 0 = omega arith in
          let behind : i ≢ 0 = omega arith in
          stops (cutoffs.Commits count) i x rest (or_from (i == 0) (nat_lt i count) (ne_eqb i 0 behind) (le-ltb i count above))
          ∙ sym (ap (λ n. take n (x ∷ rest)) none)
    ]

since : (rest : Commits) (moment i : ℕ) → 0 < i → kept_from (cutoffs.Since moment) i rest ≡ take_while (λ x. not (is_older moment x.1.time)) rest
since [] moment i h = refl
since (x ∷ rest) moment i h =
    let kept_on : Commits = kept_from (cutoffs.Since moment) (i + 1) rest in
    let behind : i ≢ 0 = omega arith in
    let next : 0 < i + 1 = omega arith in
    ap (λ b. cond (b || not (is_older moment x.1.time)) (x ∷ kept_on) []) (ne_eqb i 0 behind)
    ∙ ap (λ ys. cond (not (is_older moment x.1.time)) (x ∷ ys) []) (since rest moment (i + 1) next)
    ∙ sym (take_while-cons (λ y. not (is_older moment y.1.time)) x rest)

-- what is kept of a chain is what the test keeps, up to the first commit that it doesn't
pub kept_is : (cutoff : Cutoff) (commits : Commits) → kept cutoff commits ≡ kept_from cutoff 0 commits
kept_is cutoff [] = refl
kept_is cutoffs.All (head ∷ rest) = ap (λ ys. head ∷ ys) (sym (all rest 1))
kept_is (cutoffs.Commits count) (head ∷ rest) = ap (λ ys. head ∷ ys) (sym (so_many rest count 1 (omega arith)))
kept_is (cutoffs.Since moment) (head ∷ rest) = ap (λ ys. head ∷ ys) (sym (since rest moment 1 (omega arith)))
