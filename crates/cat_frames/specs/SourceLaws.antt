-- The formats of sources, kinds of references and modes are codes.
use Rattle.std.proofs.Common.{◌≡◌, ℕ, zero, suc, Some, refl, ap, sym, ◌∙◌}
use Rattle.cat_codes.specs.declared.fault.FieldFault.TheVariants.{Range}
use Rattle.cat_codes.specs.Code.{IsCode}
use Rattle.cat_codes.specs.NumberLaws.{u8_is}
use Rattle.cat_codes.specs.FieldLaws.{pair_is, as_type_is, chosen_is, only_is, option_is}
use Rattle.cat_codes.specs.ListLaws.{ascending_is}
use Rattle.cat_names.specs.Fields.{key_code, key_cmp}
use Rattle.cat_names.specs.KeyLaws.{hash_is, key_is}
use Rattle.cat_names.specs.RefNames.{ref_name_is}
use Rattle.cat_model.specs.declared.reference.Kind.{Kind}
use Rattle.cat_model.specs.declared.reference.Kind.TheVariants.{Branch, Tag}
use Rattle.cat_model.specs.declared.merging.Behaviour.{Behaviour}
use Rattle.cat_model.specs.declared.merging.Behaviour.TheVariants.{Normal, Force, Drop}
use Rattle.cat_model.specs.WellMade.{points}
use Rattle.cat_frames.specs.Sources.{pointer_code, reference_number, reference_of, reference_code, behaviour_number, behaviour_of, behaviour_code, modes_code}

pub pointer_is : IsCode pointer_code
unfolding pointer_code
pointer_is = only_is Range points _ (as_type_is _ _ _ (λ _. refl) (λ _. refl) (pair_is _ _ (option_is _ ref_name_is) (option_is _ hash_is)))

reference_back : (k : Kind) → reference_of (reference_number k) ≡ Some k
reference_back Branch = refl
reference_back Tag = refl

same_reference : (k l : Kind) (n : ℕ) → Some k ≡ Some l → reference_number k ≡ n → reference_number l ≡ n
same_reference k l n e h = let same : k ≡ l = cc in ap reference_number (sym same) ∙ h

reference_forth : (n : ℕ) (k : Kind) → reference_of n ≡ Some k → reference_number k ≡ n
reference_forth zero k e = absurd cc
reference_forth (suc zero) k e = same_reference Branch k 1 e refl
reference_forth (suc (suc zero)) k e = same_reference Tag k 2 e refl
reference_forth (suc (suc (suc n))) k e = absurd cc

pub reference_is : IsCode reference_code
unfolding reference_code
reference_is = chosen_is reference_number reference_of _ reference_back reference_forth u8_is

behaviour_back : (b : Behaviour) → behaviour_of (behaviour_number b) ≡ Some b
behaviour_back Normal = refl
behaviour_back Force = refl
behaviour_back Drop = refl

same_behaviour : (a b : Behaviour) (n : ℕ) → Some a ≡ Some b → behaviour_number a ≡ n → behaviour_number b ≡ n
same_behaviour a b n e h = let same : a ≡ b = cc in ap behaviour_number (sym same) ∙ h

behaviour_forth : (n : ℕ) (b : Behaviour) → behaviour_of n ≡ Some b → behaviour_number b ≡ n
behaviour_forth zero b e = same_behaviour Normal b 0 e refl
behaviour_forth (suc zero) b e = same_behaviour Force b 1 e refl
behaviour_forth (suc (suc zero)) b e = same_behaviour Drop b 2 e refl
behaviour_forth (suc (suc (suc n))) b e = absurd cc

pub behaviour_is : IsCode behaviour_code
unfolding behaviour_code
behaviour_is = chosen_is behaviour_number behaviour_of _ behaviour_back behaviour_forth u8_is

pub modes_is : IsCode modes_code
unfolding modes_code
modes_is = as_type_is _ _ _ (λ _. refl) (λ _. refl) (pair_is _ _ behaviour_is (ascending_is key_cmp key_code _ key_is behaviour_is))
