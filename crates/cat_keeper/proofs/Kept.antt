-- A list of payloads with one more: what is given of it.
use Rattle.std.proofs.Common.{◌≡◌, ℕ, zero, suc, ◌+◌, ◌-◌, ◌<◌, true, false, List, [], ◌∷◌, ◌++◌, length, take, get_or, Some, refl, sym, ◌∙◌, ap, arith, length-append}
use Rattle.std.proofs.lemmas.List.{length-take-le, take_more}
use Rattle.cat_frames.specs.Checkpoints.{is_checkpoint}
use Rattle.cat_keeper.specs.Bases.{at_end, base_end, base_end-le, base_of, base_place, base_with_base, base_with_entry, end_with_base, end_with_entry, entries_of, entries_with_base, entries_with_entry, first_of, place_in}

module _ (ps qs : List (List ℕ)) (p : List ℕ) (is : qs ≡ ps ++ p ∷ []) where
  pub end_more : is_checkpoint p ≡ false → base_end qs ≡ base_end ps
  end_more entry = ap base_end is ∙ end_with_entry ps p entry

  pub kept_more : is_checkpoint p ≡ false → length (entries_of qs) ≡ length (entries_of ps) + 1
  kept_more entry = ap (λ (l : List (List ℕ)). length (entries_of l)) is ∙ ap length (entries_with_entry ps p entry) ∙ length-append (entries_of ps) (p ∷ [])

  pub first_more : is_checkpoint p ≡ false → first_of qs ≡ first_of ps
  first_more entry = ap first_of is ∙ ap place_in (base_with_entry ps p entry)

  pub end_base : is_checkpoint p ≡ true → base_end qs ≡ length qs
  end_base base = ap base_end is ∙ end_with_base ps p base ∙ (let n : suc (length ps) ≡ length (ps ++ p ∷ []) = omega (arith, length-append ps (p ∷ [])) in n) ∙ ap length (sym is)

  pub kept_none : is_checkpoint p ≡ true → length (entries_of qs) ≡ 0
  kept_none base = ap (λ (l : List (List ℕ)). length (entries_of l)) is ∙ ap length (entries_with_base ps p base)

  pub first_base : is_checkpoint p ≡ true → first_of qs ≡ base_place p
  first_base base = ap first_of is ∙ ap place_in (base_with_base ps p base)

-- the base
base_before : (ps : List (List ℕ)) (n : ℕ) → (n ≡ 0 → ⊥) → at_end ps n ≡ Some (get_or ps (n - 1) [])
base_before ps zero some = absurd (some refl)
base_before ps (suc n) some = let m : n ≡ suc n - 1 = omega arith in ap (λ (k : ℕ). Some (get_or ps k [])) m

pub start_inside : (ps : List (List ℕ)) (start : ℕ) → start ≡ base_end ps → (start ≡ 0 → ⊥) → start - 1 < length ps
start_inside ps zero is some = absurd (some refl)
start_inside ps (suc n) is some = omega (arith, is, base_end-le ps)

pub base_is : (ps : List (List ℕ)) (start : ℕ) (base : List ℕ) → start ≡ base_end ps → (start ≡ 0 → ⊥) → base ≡ get_or ps (start - 1) [] → Some base ≡ base_of ps
base_is ps start base is some value = ap (λ (b : List ℕ). Some b) value ∙ sym (base_before ps start some) ∙ ap (at_end ps) is

pub first_is : (ps : List (List ℕ)) (start : ℕ) (base : List ℕ) (place : ℕ) → start ≡ base_end ps → (start ≡ 0 → ⊥) → base ≡ get_or ps (start - 1) [] → place ≡ base_place base → place ≡ first_of ps
first_is ps start base place is some value at = at ∙ ap place_in (base_is ps start base is some value)

-- ---- payloads one after another

next_is : (ps : List (List ℕ)) (i : ℕ) (p : List ℕ) → i < length ps → p ≡ get_or ps i [] → take (i + 1) ps ≡ take i ps ++ p ∷ []
next_is ps i p inside is = take_more ps i [] inside ∙ ap (λ (q : List ℕ). take i ps ++ q ∷ []) (sym is)

-- how many stand up to the last base, where the next is one, and where it isn't
pub next_base : (ps : List (List ℕ)) (i : ℕ) (p : List ℕ) (end : ℕ) → i < length ps → p ≡ get_or ps i [] → is_checkpoint p ≡ true → end ≡ i + 1 → end ≡ base_end (take (i + 1) ps)
next_base ps i p end inside is base next =
    let long : length (take i ps) ≡ i = length-take-le i ps (omega (arith, inside)) in
    let all : base_end (take (i + 1) ps) ≡ suc (length (take i ps)) = ap base_end (next_is ps i p inside is) ∙ end_with_base (take i ps) p base in
    omega (arith, all, long, next)

pub next_entry : (ps : List (List ℕ)) (i : ℕ) (p : List ℕ) (end end' : ℕ) → i < length ps → p ≡ get_or ps i [] → is_checkpoint p ≡ false → end ≡ base_end (take i ps) → end' ≡ end → end' ≡ base_end (take (i + 1) ps)
next_entry ps i p end end' inside is entry so_far same =
    same ∙ so_far ∙ sym (ap base_end (next_is ps i p inside is) ∙ end_with_entry (take i ps) p entry)
