-- Sizes that are summed up, one value after another.
use Rattle.std.proofs.Common.{◌≡◌, ℕ, ◌+◌, ◌*◌, ◌<◌, ◌≤◌, Bool, true, false, List, [], ◌∷◌, ◌++◌, length, nat_le, arith, refl, ap, ◌∙◌, sym, length-append}
use Rattle.std.specs.List.{flat_map}
use Rattle.std.proofs.lemmas.Bool.{le-leb, leb-false, leb-true, lt-leb}
use Rattle.sha2.specs.Sha256.{sha256}
use Rattle.cat_codes.specs.Code.{ascending_keys, list, u8_spelling, u32_spelling, u64_spelling}
use Rattle.cat_codes.specs.Texts.{text_code}
use Rattle.cat_model.specs.declared.reference.Reference.{Reference}
use Rattle.cat_model.specs.Contents.{content_code}
use Rattle.cat_model.specs.Formats.{commit_code}
use Rattle.cat_names.specs.Fields.{hash_code}
use Rattle.cat_names.specs.RefNames.{ref_name_code}
use Rattle.cat_frames.specs.declared.checkpoint.Checkpoint.{Checkpoint}
use Rattle.cat_frames.specs.Bases.{checkpoint_spelling}
use Rattle.cat_frames.specs.Checkpoints.{checkpoint_code, commits_code, contents_code, hashed, named_code, numbers_code, open_code, references_code}
use Rattle.cat_frames.specs.Sizes.{capped}
use Rattle.cat_frames.specs.Sources.{reference_code, reference_number}

-- a sum of capped sizes, capped, is the sum, capped
pub sum_on : (size k rest all : ℕ) → capped (size + (k + rest)) ≡ all → capped (capped (size + capped k) + rest) ≡ all
sum_on size k rest all e = omega (arith, e)

-- one value more
pub one_more : {A : Type 0} (spell : A → List ℕ) (x : A) (xs : List A) (size all : ℕ) → capped (size + length (flat_map spell (x ∷ xs))) ≡ all
    → capped (capped (size + capped (length (spell x))) + length (flat_map spell xs)) ≡ all
one_more spell x xs size all e =
    sum_on size (length (spell x)) (length (flat_map spell xs)) all (ap (λ (n : ℕ). capped (size + n)) (sym (length-append (spell x) (flat_map spell xs))) ∙ e)

-- no value more
pub none_more : {A : Type 0} (spell : A → List ℕ) (rest : List A) (size all : ℕ) → capped (size + length (flat_map spell rest)) ≡ all → rest ≡ [] → size ≤ 18446744073709551615 → size ≡ all
none_more spell rest size all e none small =
    let left : length (flat_map spell rest) ≡ 0 = ap (λ (xs : List _). length (flat_map spell xs)) none in
    omega (arith, e, left, small)

-- ---- numbers

four : (n : ℕ) → length (u32_spelling n) ≡ 4
unfolding u32_spelling
four n = refl

eight : (n : ℕ) → length (u64_spelling n) ≡ 8
unfolding u64_spelling
eight n = refl

one : (n : ℕ) → length (u8_spelling n) ≡ 1
unfolding u8_spelling
one n = refl

-- a number of 32 bits, and what comes behind it
pub behind_four : (n : ℕ) (xs : List ℕ) → length (u32_spelling n ++ xs) ≡ 4 + length xs
behind_four n xs = length-append (u32_spelling n) xs ∙ ap (λ (k : ℕ). k + length xs) (four n)

behind_eight : (n : ℕ) (xs : List ℕ) → length (u64_spelling n ++ xs) ≡ 8 + length xs
behind_eight n xs = length-append (u64_spelling n) xs ∙ ap (λ (k : ℕ). k + length xs) (eight n)

behind_one : (n : ℕ) (xs : List ℕ) → length (u8_spelling n ++ xs) ≡ 1 + length xs
behind_one n xs = length-append (u8_spelling n) xs ∙ ap (λ (k : ℕ). k + length xs) (one n)

eights : (ns : List ℕ) → length (flat_map u64_spelling ns) ≡ 8 * length ns
eights [] = refl
eights (n ∷ ns) =
    let more = behind_eight n (flat_map u64_spelling ns) in
    let rest = eights ns in
    omega (arith, more, rest)

-- ---- references

pub named_size : (r : Reference) → length ((named_code).spell r) ≡ 5 + length r.name + length r.head.bytes
unfolding named_code ref_name_code text_code reference_code hash_code
named_size r =
    let both = length-append (u32_spelling (length r.name) ++ r.name) (u8_spelling (reference_number r.kind) ++ r.head.bytes) in
    let name = behind_four (length r.name) r.name in
    let head = behind_one (reference_number r.kind) r.head.bytes in
    omega (arith, both, name, head)

-- ---- checkpoints

-- the bytes of a checkpoint, by those of its lists' items
pub checkpoint_size : (c : Checkpoint) → length (checkpoint_spelling c)
    ≡ 29 + 8 * length c.drafts + length (flat_map (named_code).spell c.references) + (length (flat_map (hashed sha256 commit_code).spell c.commits) + length (flat_map (hashed sha256 content_code).spell c.contents))
unfolding checkpoint_code open_code numbers_code references_code commits_code contents_code list ascending_keys
checkpoint_size c =
    let names = flat_map (named_code).spell c.references in
    let commits = flat_map (hashed sha256 commit_code).spell c.commits in
    let contents = flat_map (hashed sha256 content_code).spell c.contents in
    let numbers = flat_map u64_spelling c.drafts in
    let t = u32_spelling (length c.contents) ++ contents in
    let m = (u32_spelling (length c.commits) ++ commits) ++ t in
    let r = (u32_spelling (length c.references) ++ names) ++ m in
    let d = (u32_spelling (length c.drafts) ++ numbers) ++ r in
    let e1 = behind_four (length c.contents) contents in
    let e2 = length-append (u32_spelling (length c.commits) ++ commits) t in
    let e3 = behind_four (length c.commits) commits in
    let e4 = length-append (u32_spelling (length c.references) ++ names) m in
    let e5 = behind_four (length c.references) names in
    let e6 = length-append (u32_spelling (length c.drafts) ++ numbers) r in
    let e7 = behind_four (length c.drafts) numbers in
    let e8 = eights c.drafts in
    let e9 = behind_eight c.draft d in
    let e10 = behind_four c.place (u64_spelling c.draft ++ d) in
    omega (arith, e1, e2, e3, e4, e5, e6, e7, e8, e9, e10)

by_value : (a b m : ℕ) (t : Bool) → nat_le b m ≡ t → (b ≤ m → a ≤ m) → (m < b → m < a) → nat_le a m ≡ t
by_value a b m true e up down = le-leb a m (up (leb-true b m e))
by_value a b m false e up down = lt-leb a m (down (leb-false b m e))

-- whether a capped sum is within what a payload may have is so of the sum
pub within_payload : (a n : ℕ) → a ≡ capped n → nat_le a 4294967295 ≡ nat_le n 4294967295
within_payload a n e = by_value a n 4294967295 (nat_le n 4294967295) refl (λ low. omega (arith, e, low)) (λ high. omega (arith, e, high))
