-- What was read, as what the bytes are.
use Rattle.std.proofs.Common.{◌≡◌, ℕ, zero, suc, ◌+◌, ◌^◌, ◌<◌, ◌≤◌, ◌⊎◌, inl, inr, ⊎_elim, Bool, true, false, ◌&&◌, eqb, ltb, List, length, take, drop, get_or, Option, Some, None, Result, Ok, Err, refl, sym, ◌∙◌, ap, arith, length-drop}
use Rattle.std.specs.Prelude.{IfSome, OnOk}
use Rattle.std.specs.Int.{w32, from_be_bytes, to_be_bytes}
use Rattle.std.proofs.lemmas.Bool.{lt-ltb, le-ltb, ltb-true, ltb-false}
use Rattle.std.proofs.lemmas.List.{drop-drop, get_or-drop, get_or-take}
use Rattle.std.proofs.lemmas.Nat.{from_be_bytes-to_be_bytes_4}
use Rattle.cat_io.specs.Crashes.{Told}
use Rattle.cat_frames.specs.Checkpoints.{is_checkpoint}
use Rattle.cat_journal.specs.Frames.{length_of}
use Rattle.cat_journal.specs.Reading.{IsFrameAt, IsPayloadAt, has_frame, payload_at}
use Rattle.cat_journal.proofs.ReadOnly.{as_before}

-- the number behind a gate is its payload's length
size_at : (at n : ℕ) (bytes : List ℕ) → n < 2 ^ 32 → to_be_bytes w32 n ≡ take 4 (drop (at + 1) bytes) → length_of (drop (at + 1) bytes) ≡ n
size_at at n bytes short number = ap (λ (l : List ℕ). from_be_bytes w32 l) (sym number) ∙ from_be_bytes-to_be_bytes_4 n short

-- the number was read, and then the payload
pub payload_read : (t t' : Option (List ℕ)) (at at5 n : ℕ) (payload : List ℕ) → (at + 5 < 2 ^ 64 → at5 ≡ at + 5) → n < 2 ^ 32 → Told t t' (λ a b. b ≡ a)
    → IfSome t (λ bytes. at + 5 ≤ length bytes → to_be_bytes w32 n ≡ take 4 (drop (at + 1) bytes))
    → IfSome t' (λ bytes. payload ≡ take n (drop at5 bytes)) → IfSome t (IsPayloadAt at payload)
payload_read t t' at at5 n payload place short same number part = at_told t number (as_before t t' _ same part)
  where
    at_told : (t : Option (List ℕ)) → IfSome t (λ bytes. at + 5 ≤ length bytes → to_be_bytes w32 n ≡ take 4 (drop (at + 1) bytes)) → IfSome t (λ bytes. payload ≡ take n (drop at5 bytes)) → IfSome t (IsPayloadAt at payload)
    at_told None number part = tt
    at_told (Some bytes) number part = λ framed.
        let room : 4 + length_of (drop (at + 1) bytes) < length (drop (at + 1) bytes) = ltb-true _ _ framed.1 in
        let size = size_at at n bytes short (number (omega (arith, room, length-drop (at + 1) bytes))) in
        let behind : at + 1 + 4 ≡ at5 = omega (arith, place framed.0) in
        part ∙ ap (λ (k : ℕ). take k (drop at5 bytes)) (sym size)
        ∙ ap (λ (l : List ℕ). take (length_of (drop (at + 1) bytes)) l) (ap (λ (k : ℕ). drop k bytes) (sym behind) ∙ sym (drop-drop 4 (at + 1) bytes))

-- as far as a call was done
pub on_ok : {T E : Type 0} (r : Result T E) (A B : Type 0) → (A → B) → OnOk r A → OnOk r B
on_ok (Ok x) A B h a = h a
on_ok (Err e) A B h a = tt

-- ---- what stands at a gate

-- the kind of a payload is its first byte
kind_of : (n k : ℕ) (xs : List ℕ) → (0 < n → k ≡ get_or xs 0 0) → eqb (get_or (take n xs) 0 0) 8 ≡ (ltb 0 n && eqb k 8)
kind_of zero k xs is = refl
kind_of (suc n) k xs is = ap (λ (b : ℕ). eqb b 8) (get_or-take (suc n) xs 0 0 (omega arith) ∙ sym (is (omega arith))) ∙ sym (ap (λ t. t && eqb k 8) (lt-ltb 0 (suc n) (omega arith)))

module _ (t : Option (List ℕ)) (at len n gate kind : ℕ) (is : IfSome t (λ bytes. len ≡ length bytes)) (inside : at < len) (gate_is : IfSome t (λ bytes. at < length bytes → gate ≡ get_or bytes at 0)) where
  pub is_closed : (gate ≡ 1 → ⊥) → IfSome t (λ bytes. get_or bytes at 0 ≡ 1 → ⊥)
  is_closed other = at_told t is gate_is
    where
      at_told : (t : Option (List ℕ)) → IfSome t (λ bytes. len ≡ length bytes) → IfSome t (λ bytes. at < length bytes → gate ≡ get_or bytes at 0) → IfSome t (λ bytes. get_or bytes at 0 ≡ 1 → ⊥)
      at_told None is gate_is = tt
      at_told (Some bytes) is gate_is = λ e. other (gate_is (omega (arith, is, inside)) ∙ e)

  module _ (short : n < 2 ^ 32) (number : IfSome t (λ bytes. at + 5 ≤ length bytes → to_be_bytes w32 n ≡ take 4 (drop (at + 1) bytes))) (open_gate : gate ≡ 1) where
    pub is_broken : len < at + 6 + n → IfSome t (λ bytes. (get_or bytes at 0 ≡ 1) × (has_frame bytes at ≡ false))
    is_broken few = at_told t is gate_is number
      where
        at_told : (t : Option (List ℕ)) → IfSome t (λ bytes. len ≡ length bytes) → IfSome t (λ bytes. at < length bytes → gate ≡ get_or bytes at 0) → IfSome t (λ bytes. at + 5 ≤ length bytes → to_be_bytes w32 n ≡ take 4 (drop (at + 1) bytes))
            → IfSome t (λ bytes. (get_or bytes at 0 ≡ 1) × (has_frame bytes at ≡ false))
        at_told None is gate_is number = tt
        at_told (Some bytes) is gate_is number = (
          sym (gate_is (omega (arith, is, inside))) ∙ open_gate,
          le-ltb _ _ (⊎_elim
              (λ none. omega (arith, none, length-drop (at + 1) bytes))
              (λ some. omega (arith, few, is, length-drop (at + 1) bytes, size_at at n bytes short (number some)))
              (either (at + 5) (length bytes))),
        )
          where
            either : (a b : ℕ) → (b < a) ⊎ (a ≤ b)
            either a b = by_test (ltb b a) refl
              where
                by_test : (t : Bool) → ltb b a ≡ t → (b < a) ⊎ (a ≤ b)
                by_test true e = inl (ltb-true b a e)
                by_test false e = inr (ltb-false b a e)

    pub is_whole : at + 6 + n ≤ len → IfSome t (λ bytes. at + 5 < length bytes → kind ≡ get_or bytes (at + 5) 0)
        → IfSome t (λ bytes. IsFrameAt at n bytes × (is_checkpoint (payload_at bytes at) ≡ (ltb 0 n && eqb kind 8)))
    is_whole room kind_is = at_told t is gate_is number kind_is
      where
        at_told : (t : Option (List ℕ)) → IfSome t (λ bytes. len ≡ length bytes) → IfSome t (λ bytes. at < length bytes → gate ≡ get_or bytes at 0) → IfSome t (λ bytes. at + 5 ≤ length bytes → to_be_bytes w32 n ≡ take 4 (drop (at + 1) bytes))
            → IfSome t (λ bytes. at + 5 < length bytes → kind ≡ get_or bytes (at + 5) 0)
            → IfSome t (λ bytes. IsFrameAt at n bytes × (is_checkpoint (payload_at bytes at) ≡ (ltb 0 n && eqb kind 8)))
        at_told None is gate_is number kind_is = tt
        at_told (Some bytes) is gate_is number kind_is =
            let rest = drop (at + 1) bytes in
            let spelled = number (omega (arith, is, room)) in
            let size = size_at at n bytes short spelled in
            let place : at + 1 + 4 ≡ at + 5 = omega arith in
            let first : get_or (drop 4 rest) 0 0 ≡ get_or bytes (at + 5) 0 =
            ap (λ (l : List ℕ). get_or l 0 0) (drop-drop 4 (at + 1) bytes ∙ ap (λ (k : ℕ). drop k bytes) place) ∙ get_or-drop (at + 5) bytes 0 0 ∙ (let z : at + 5 + 0 ≡ at + 5 = omega arith in ap (λ (k : ℕ). get_or bytes k 0) z) in (
              record {
                opened = sym (gate_is (omega (arith, is, inside))) ∙ open_gate;
                size = size;
                whole = lt-ltb _ _ (omega (arith, size, length-drop (at + 1) bytes, is, room));
                spelled = spelled;
              },
              ap (λ (k : ℕ). eqb (get_or (take k (drop 4 rest)) 0 0) 8) size
                  ∙ kind_of n kind (drop 4 rest) (λ some. kind_is (omega (arith, is, room)) ∙ sym first),
            )
