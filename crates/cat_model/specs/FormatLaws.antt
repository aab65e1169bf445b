-- The formats of entries and commits are codes.
use Rattle.std.proofs.Common.{◌≡◌, ℕ, zero, suc, Some, refl, ap, sym, ◌∙◌}
use Rattle.std.proofs.lemmas.Bool.{eq-eqb}
use Rattle.std.specs.Prelude.{nat_le, true}
use Rattle.std.specs.Ordering.{nat_cmp}
use Rattle.std.specs.Cmp.Lexicographic.{slice_cmp}
use Rattle.cat_codes.specs.declared.fault.FieldFault.TheVariants.{Range}
use Rattle.cat_codes.specs.Code.{IsCode, option, list, u64_code}
use Rattle.cat_codes.specs.Texts.{text_code, text_is}
use Rattle.cat_names.specs.Fields.{key_code, key_cmp}
use Rattle.cat_codes.specs.NumberLaws.{u8_is, u64_is}
use Rattle.cat_codes.specs.FieldLaws.{pair_is, as_type_is, chosen_is, only_is, prefixed_is, option_is}
use Rattle.cat_codes.specs.ListLaws.{list_is, ascending_is}
use Rattle.cat_names.specs.KeyLaws.{hash_is, id_is, key_is}
use Rattle.cat_model.specs.declared.entry.ContentKind.{ContentKind}
use Rattle.cat_model.specs.declared.entry.ContentKind.TheVariants.{IcebergTable, IcebergView, DeltaLakeTable, Namespace, Udf}
use Rattle.cat_model.specs.Same.{same_type}
use Rattle.cat_model.specs.Formats.{moment_code, kind_number, kind_of, kind_code, entry_code, meta_code, commit_code}

pub moment_is : IsCode moment_code
unfolding moment_code
moment_is = only_is Range (λ n. nat_le n 253402207200999999) u64_code u64_is

kind_back : (k : ContentKind) → kind_of (kind_number k) ≡ Some k
kind_back IcebergTable = refl
kind_back IcebergView = refl
kind_back DeltaLakeTable = refl
kind_back Namespace = refl
kind_back Udf = refl

some_is : (k l : ContentKind) (n : ℕ) → Some k ≡ Some l → kind_number k ≡ n → kind_number l ≡ n
some_is k l n e h = let same : k ≡ l = cc in ap kind_number (sym same) ∙ h

kind_forth : (n : ℕ) (k : ContentKind) → kind_of n ≡ Some k → kind_number k ≡ n
kind_forth zero k e = absurd cc
kind_forth (suc zero) k e = some_is IcebergTable k 1 e refl
kind_forth (suc (suc zero)) k e = some_is IcebergView k 2 e refl
kind_forth (suc (suc (suc zero))) k e = some_is DeltaLakeTable k 3 e refl
kind_forth (suc (suc (suc (suc zero)))) k e = some_is Namespace k 4 e refl
kind_forth (suc (suc (suc (suc (suc zero))))) k e = some_is Udf k 5 e refl
kind_forth (suc (suc (suc (suc (suc (suc n)))))) k e = absurd cc

-- a type is the same as itself
pub type_same : (kind : ContentKind) → same_type kind kind ≡ true
type_same kind = eq-eqb (kind_number kind) (kind_number kind) refl

pub kind_is : IsCode kind_code
unfolding kind_code
kind_is = chosen_is kind_number kind_of _ kind_back kind_forth u8_is

pub entry_is : IsCode entry_code
unfolding entry_code
entry_is = as_type_is _ _ _ (λ _. refl) (λ _. refl) (pair_is _ _ kind_is (pair_is _ _ id_is hash_is))

pub meta_is : IsCode meta_code
unfolding meta_code
meta_is = as_type_is _ _ _ (λ _. refl) (λ _. refl)
    (pair_is _ _ text_is (pair_is _ _ (list_is _ text_is) (pair_is _ _ (list_is _ text_is) (pair_is _ _ (ascending_is (slice_cmp nat_cmp) text_code (list text_code) text_is (list_is _ text_is)) (option_is _ moment_is)))))

pub commit_is : IsCode commit_code
unfolding commit_code
commit_is = prefixed_is _ _ (as_type_is _ _ _ (λ _. refl) (λ _. refl)
    (pair_is _ _ hash_is (pair_is _ _ (option_is _ hash_is) (pair_is _ _ u64_is (pair_is _ _ moment_is (pair_is _ _ meta_is (ascending_is key_cmp key_code (option entry_code) key_is (option_is _ entry_is))))))))
