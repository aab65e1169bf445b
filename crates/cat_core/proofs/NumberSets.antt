-- Sets of numbers: an ascending list with the numbers of another one is its set.
use Rattle.std.proofs.Common.{◌≡◌, ℕ, List, None, Bool, true, nat_eq, ap, ◌∙◌}
use Rattle.std.specs.List.{dedup, list_all, list_any}
use Rattle.std.specs.List.Sorted.{IsPermutation, IsSorted}
use Rattle.std.specs.Ordering.{is_eq, nat_cmp}
use Rattle.std.specs.Cmp.{unsigned_ties}
use Rattle.std.specs.declared.cmp.Ordering.TheVariants.{Equal}
use Rattle.std.proofs.lemmas.Bool.{eqb-true}
use Rattle.std.proofs.lemmas.Cmp.{nat_cmp_total}
use Rattle.cat_codes.specs.Code.{keys_ascend}
use Rattle.cat_model.specs.KeySets.{set_of}
use Rattle.cat_keymap.specs.SetLaws as sets

abbrev pub is_in : List ℕ → ℕ → Bool
is_in numbers number = list_any (λ x. nat_eq x number) numbers

one_number : (a b : ℕ) → nat_cmp a b ≡ Equal → a ≡ b
one_number a b e = eqb-true a b (unsigned_ties a b ∙ ap is_eq e)

pub set_rises : (numbers : List ℕ) → keys_ascend nat_cmp None (set_of nat_cmp numbers) ≡ true
set_rises numbers = sets.set_rises nat_cmp nat_cmp_total nat_eq unsigned_ties one_number numbers

pub in_set : (numbers : List ℕ) (number : ℕ) → is_in (set_of nat_cmp numbers) number ≡ is_in numbers number
in_set numbers number = sets.in_set nat_cmp nat_cmp_total nat_eq unsigned_ties one_number numbers number

-- numbers that are sorted, and then each but the first of those that are the same is left out
pub set_is : (numbers sorted once : List ℕ) → IsPermutation numbers sorted → IsSorted nat_cmp sorted → once ≡ dedup nat_eq sorted → once ≡ set_of nat_cmp numbers
set_is numbers sorted once moved up is = sets.set_is nat_cmp nat_cmp_total nat_eq unsigned_ties one_number numbers sorted once moved up is

-- what holds of each number holds of each in the set
pub set_all : (p : ℕ → Bool) (numbers : List ℕ) → list_all p numbers ≡ true → list_all p (set_of nat_cmp numbers) ≡ true
set_all p numbers all = sets.set_all nat_cmp nat_cmp_total nat_eq unsigned_ties one_number p numbers all
