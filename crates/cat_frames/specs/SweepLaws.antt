-- The formats of cutoffs, policies and sweeps are codes.
use Rattle.std.proofs.Common.{◌≡◌, ℕ, zero, suc, ◌<◌, List, ◌∷◌, ◌++◌, length, get_or, Bool, true, false, cond, nat_eq, Some, None, refl, sym, ap, ◌∙◌, codes}
use Rattle.std.specs.Prelude.{is_some, nat_lt}
use Rattle.std.specs.List.{after_first, before_first, position, position_or_len}
use Rattle.std.specs.Option.{option_map}
use Rattle.std.proofs.lemmas.Bool.{eqb-true, ltb-true}
use Rattle.std.proofs.lemmas.List.{nil_from_length}
use Rattle.std.proofs.lemmas.List.Sums.{passes_at_first, split_at_first}
use Rattle.cat_codes.specs.declared.fault.FieldFault.TheVariants.{Range}
use Rattle.cat_codes.specs.Code.{IsCode}
use Rattle.cat_codes.specs.FieldLaws.{as_type_is, by_tag_is, nothing_is, only_is, pair_is, variant_is}
use Rattle.cat_codes.specs.ListLaws.{ascending_keys_is, list_is}
use Rattle.cat_codes.specs.NumberLaws.{u32_is}
use Rattle.cat_codes.specs.Texts.{text_is}
use Rattle.cat_names.specs.Fields.{hash_code}
use Rattle.cat_names.specs.KeyLaws.{hash_is}
use Rattle.cat_names.specs.RefNames.{is_reference_name}
use Rattle.cat_model.specs.declared.cutoff.Cutoff.{Cutoff}
use Rattle.cat_model.specs.declared.cutoff.Cutoff.TheVariants as cutoffs
use Rattle.cat_model.specs.declared.cutoff.Pattern.{Pattern}
use Rattle.cat_model.specs.declared.cutoff.Pattern.TheVariants as patterns
use Rattle.cat_model.specs.Cutoffs.{is_star, name_of, pattern_of}
use Rattle.cat_model.specs.FormatLaws.{moment_is}
use Rattle.cat_model.specs.Fronts.{front_of, is_front}
use Rattle.cat_frames.specs.Telling.{always_is, read_by_is}
use Rattle.cat_frames.specs.Sweeps.{cutoff_number, as_count, as_moment, cutoff_of, cutoff_code, pattern_text, pattern_code, resolved_code, hash_cmp, hashes_code, sweep_code}

-- ---- cutoffs

count_back : (c : Cutoff) (n : ℕ) → as_count c ≡ Some n → cutoffs.Commits n ≡ c
count_back cutoffs.All n e = absurd cc
count_back (cutoffs.Commits count) n e = let same : count ≡ n = cc in ap (λ (k : ℕ). cutoffs.Commits k) (sym same)
count_back (cutoffs.Since moment) n e = absurd cc

moment_back : (c : Cutoff) (n : ℕ) → as_moment c ≡ Some n → cutoffs.Since n ≡ c
moment_back cutoffs.All n e = absurd cc
moment_back (cutoffs.Commits count) n e = absurd cc
moment_back (cutoffs.Since moment) n e = let same : moment ≡ n = cc in ap (λ (k : ℕ). cutoffs.Since k) (sym same)

each_is : (number : ℕ) → IsCode (cutoff_of number)
each_is zero = always_is _
each_is (suc zero) = variant_is _ _ _ (λ _. refl) count_back (only_is Range (nat_lt 0) _ u32_is)
each_is (suc (suc zero)) = variant_is _ _ _ (λ _. refl) moment_back moment_is
each_is (suc (suc (suc n))) = nothing_is

-- a cutoff of the kind of a number has that number
numbered : (number : ℕ) (c : Cutoff) → (cutoff_of number).Fits c → cutoff_number c ≡ number
numbered zero c fits = sym (ap cutoff_number fits)
numbered (suc zero) cutoffs.All fits = let no : _ = fits.1 in absurd cc
numbered (suc zero) (cutoffs.Commits count) fits = refl
numbered (suc zero) (cutoffs.Since moment) fits = let no : _ = fits.1 in absurd cc
numbered (suc (suc zero)) cutoffs.All fits = let no : _ = fits.1 in absurd cc
numbered (suc (suc zero)) (cutoffs.Commits count) fits = let no : _ = fits.1 in absurd cc
numbered (suc (suc zero)) (cutoffs.Since moment) fits = refl
numbered (suc (suc (suc n))) c fits = absurd fits

pub cutoff_is : IsCode cutoff_code
unfolding cutoff_code
cutoff_is = by_tag_is cutoff_number cutoff_of each_is numbered

-- ---- patterns

given : {A B : Type 0} (f : A → B) (test : Bool) (x : A) (y : B) → option_map f (cond test (Some x) None) ≡ Some y → f x ≡ y
given f true x y e = cc
given f false x y e = absurd cc

there : (test : Bool) (i : ℕ) → is_some (cond test (Some i) None) ≡ true → test ≡ true
there true i e = refl
there false i e = absurd cc

-- a text whose first star is its last byte is what stands before it, and a star
ends_with_star : (text : List ℕ) → is_some (position is_star text) ≡ true → length (after_first is_star text) ≡ 0 → before_first is_star text ++ codes "*" ≡ text
ends_with_star text found none =
    let inside : position_or_len is_star text < length text = ltb-true _ _ (there _ _ found) in
    let star : get_or text (position_or_len is_star text) 0 ≡ 42 = eqb-true _ _ (passes_at_first is_star text 0 inside) in
    sym (split_at_first is_star text 0 inside
    ∙ ap (λ (b : ℕ). before_first is_star text ++ b ∷ after_first is_star text) star
    ∙ ap (λ (l : List ℕ). before_first is_star text ++ 42 ∷ l) (nil_from_length _ none))

by_end : (text : List ℕ) (ends : Bool) (p : Pattern) → is_some (position is_star text) ≡ true → nat_eq (length (after_first is_star text)) 0 ≡ ends
    → cond ends (option_map patterns.Front (front_of (before_first is_star text))) None ≡ Some p → pattern_text p ≡ text
by_end text true p found h e = sym (ap pattern_text (given patterns.Front (is_front (before_first is_star text)) _ p e)) ∙ ends_with_star text found (eqb-true _ _ h)
by_end text false p found h e = absurd cc

by_star : (text : List ℕ) (star : Bool) (p : Pattern) → is_some (position is_star text) ≡ star
    → cond star (cond (nat_eq (length (after_first is_star text)) 0) (option_map patterns.Front (front_of (before_first is_star text))) None) (option_map patterns.Name (name_of text)) ≡ Some p
    → pattern_text p ≡ text
by_star text true p h e = by_end text _ p h refl e
by_star text false p h e = sym (ap pattern_text (given patterns.Name (is_reference_name text) text p e))

-- a text that is a pattern is that pattern's
pattern_forth : (text : List ℕ) (p : Pattern) → pattern_of text ≡ Some p → pattern_text p ≡ text
unfolding pattern_of
pattern_forth text p e = by_star text _ p refl e

pub pattern_is : IsCode pattern_code
unfolding pattern_code
pattern_is = read_by_is pattern_text _ _ pattern_forth text_is

-- ---- sweeps

pub resolved_is : IsCode resolved_code
unfolding resolved_code
resolved_is = as_type_is _ _ _ (λ _. refl) (λ _. refl) (pair_is _ _ cutoff_is (list_is _ (pair_is _ _ pattern_is cutoff_is)))

pub hashes_is : IsCode hashes_code
hashes_is = ascending_keys_is hash_cmp hash_code hash_is

pub sweep_is : IsCode sweep_code
unfolding sweep_code
sweep_is = as_type_is _ _ _ (λ _. refl) (λ _. refl) (pair_is _ _ u32_is (pair_is _ _ resolved_is (pair_is _ _ hashes_is hashes_is)))
