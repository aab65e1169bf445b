-- Payloads that are kept: log entries, and among them bases, states that a log goes on from. What is given of them is the last base, and the entries behind it.
use Rattle.std.proofs.Common.{◌≡◌, ℕ, zero, suc, ◌+◌, ◌≤◌, Bool, true, false, List, [], ◌∷◌, ◌++◌, length, drop, get_or, Option, Some, None, refl, ◌∙◌, ap, arith, length-append}
use Rattle.std.specs.Option.{option_map}
use Rattle.std.specs.Int.{w32, from_be_bytes}
use Rattle.std.proofs.lemmas.List.{drop-append-le, drop_all, get_or_append_left, get_or_at}
use Rattle.cat_frames.specs.Checkpoints.{is_checkpoint}

abbrev pub end_over : Bool → ℕ → ℕ
end_over b (suc n) = suc (suc n)
end_over true zero = 1
end_over false zero = 0

-- how many stand up to the last base, and it with them; 0 where there is none
abbrev pub base_end : List (List ℕ) → ℕ
base_end [] = 0
base_end (p ∷ ps) = end_over (is_checkpoint p) (base_end ps)

abbrev pub count_over : Bool → ℕ → ℕ
count_over true n = suc n
count_over false n = n

-- how many bases there are
abbrev pub base_count : List (List ℕ) → ℕ
base_count [] = 0
base_count (p ∷ ps) = count_over (is_checkpoint p) (base_count ps)

-- the same, where the payloads are told
abbrev pub bases_in : Option (List (List ℕ)) → Option ℕ
bases_in told = option_map base_count told

-- the entries behind it
abbrev pub entries_of : List (List ℕ) → List (List ℕ)
entries_of ps = drop (base_end ps) ps

abbrev pub at_end : List (List ℕ) → ℕ → Option (List ℕ)
at_end ps zero = None
at_end ps (suc n) = Some (get_or ps n [])

-- the last base
abbrev pub base_of : List (List ℕ) → Option (List ℕ)
base_of ps = at_end ps (base_end ps)

-- the place of a base, in the four bytes behind its kind
abbrev pub base_place : List ℕ → ℕ
base_place bytes = from_be_bytes w32 (get_or bytes 1 0 ∷ get_or bytes 2 0 ∷ get_or bytes 3 0 ∷ get_or bytes 4 0 ∷ [])

abbrev pub place_in : Option (List ℕ) → ℕ
place_in None = 0
place_in (Some bytes) = base_place bytes

-- the place of the last base; 0 where there is none
abbrev pub first_of : List (List ℕ) → ℕ
first_of ps = place_in (base_of ps)

-- ---- one more payload

over_le : (b : Bool) (n m : ℕ) → n ≤ m → end_over b n ≤ suc m
over_le b (suc n) m le = omega (arith, le)
over_le true zero m le = omega arith
over_le false zero m le = omega arith

pub base_end-le : (ps : List (List ℕ)) → base_end ps ≤ length ps
base_end-le [] = omega arith
base_end-le (p ∷ ps) = over_le (is_checkpoint p) (base_end ps) (length ps) (base_end-le ps)

-- an entry
pub end_with_entry : (ps : List (List ℕ)) (p : List ℕ) → is_checkpoint p ≡ false → base_end (ps ++ p ∷ []) ≡ base_end ps
end_with_entry [] p entry = ap (λ b. end_over b 0) entry
end_with_entry (q ∷ ps) p entry = ap (end_over (is_checkpoint q)) (end_with_entry ps p entry)

pub entries_with_entry : (ps : List (List ℕ)) (p : List ℕ) → is_checkpoint p ≡ false → entries_of (ps ++ p ∷ []) ≡ entries_of ps ++ p ∷ []
entries_with_entry ps p entry = ap (λ n. drop n (ps ++ p ∷ [])) (end_with_entry ps p entry) ∙ drop-append-le (base_end ps) ps (p ∷ []) (base_end-le ps)

same_base : (ps more : List (List ℕ)) (n : ℕ) → n ≤ length ps → at_end (ps ++ more) n ≡ at_end ps n
same_base ps more zero le = refl
same_base ps more (suc n) le = ap (λ (b : List ℕ). Some b) (get_or_append_left ps more [] n (omega (arith, le)))

pub base_with_entry : (ps : List (List ℕ)) (p : List ℕ) → is_checkpoint p ≡ false → base_of (ps ++ p ∷ []) ≡ base_of ps
base_with_entry ps p entry = ap (at_end (ps ++ p ∷ [])) (end_with_entry ps p entry) ∙ same_base ps (p ∷ []) (base_end ps) (base_end-le ps)

-- a base
pub end_with_base : (ps : List (List ℕ)) (p : List ℕ) → is_checkpoint p ≡ true → base_end (ps ++ p ∷ []) ≡ suc (length ps)
end_with_base [] p base = ap (λ b. end_over b 0) base
end_with_base (q ∷ ps) p base = ap (end_over (is_checkpoint q)) (end_with_base ps p base)

pub entries_with_base : (ps : List (List ℕ)) (p : List ℕ) → is_checkpoint p ≡ true → entries_of (ps ++ p ∷ []) ≡ []
entries_with_base ps p base = ap (λ n. drop n (ps ++ p ∷ [])) (end_with_base ps p base) ∙ drop_all (suc (length ps)) (ps ++ p ∷ []) (omega (arith, length-append ps (p ∷ [])))

pub base_with_base : (ps : List (List ℕ)) (p : List ℕ) → is_checkpoint p ≡ true → base_of (ps ++ p ∷ []) ≡ Some p
base_with_base ps p base = ap (at_end (ps ++ p ∷ [])) (end_with_base ps p base) ∙ ap (λ (b : List ℕ). Some b) (get_or_at ps p [] [] (length ps) refl)

-- ---- more payloads, none of which is a base

none_over : (b : Bool) (n m : ℕ) → count_over b n ≡ 0 → (n ≡ 0 → m ≡ 0) → end_over b m ≡ 0
none_over true n m none ends = absurd (omega (arith, none))
none_over false n m none ends = ap (end_over false) (ends none)

no_base : (ps : List (List ℕ)) → base_count ps ≡ 0 → base_end ps ≡ 0
no_base [] none = refl
no_base (p ∷ ps) none = none_over (is_checkpoint p) (base_count ps) (base_end ps) none (no_base ps)

end_with_entries : (ps more : List (List ℕ)) → base_count more ≡ 0 → base_end (ps ++ more) ≡ base_end ps
end_with_entries [] more none = no_base more none
end_with_entries (p ∷ ps) more none = ap (end_over (is_checkpoint p)) (end_with_entries ps more none)

pub entries_with_entries : (ps more : List (List ℕ)) → base_count more ≡ 0 → entries_of (ps ++ more) ≡ entries_of ps ++ more
entries_with_entries ps more none = ap (λ n. drop n (ps ++ more)) (end_with_entries ps more none) ∙ drop-append-le (base_end ps) ps more (base_end-le ps)

pub base_with_entries : (ps more : List (List ℕ)) → base_count more ≡ 0 → base_of (ps ++ more) ≡ base_of ps
base_with_entries ps more none = ap (at_end (ps ++ more)) (end_with_entries ps more none) ∙ same_base ps more (base_end ps) (base_end-le ps)

-- ---- how many bases there are then

over_on : (b : Bool) (n m : ℕ) → count_over b (n + m) ≡ count_over b n + m
over_on true n m = omega arith
over_on false n m = refl

pub count_on : (ps more : List (List ℕ)) → base_count (ps ++ more) ≡ base_count ps + base_count more
count_on [] more = omega arith
count_on (p ∷ ps) more = ap (count_over (is_checkpoint p)) (count_on ps more) ∙ over_on (is_checkpoint p) (base_count ps) (base_count more)
