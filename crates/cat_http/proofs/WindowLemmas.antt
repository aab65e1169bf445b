-- What a window of a buffer's bytes holds.
use Rattle.std.proofs.Common.{arith, refl, Bool, true, false, ◌≡◌, ℕ, ◌+◌, ◌-◌, ◌≤◌, List, [], ◌++◌, length, take, drop, sym, ap, ◌∙◌, length-drop, subst}
use Rattle.std.specs.Prelude.{Option, slice_range, if◌then◌else◌}
use Rattle.std.specs.List.{copy_within}
use Rattle.std.proofs.lemmas.List.{take_at, take_all, drop_at, drop_all, drop-drop, length-take-le, append-nil}
use Rattle.httparse.specs.declared.spans.HeaderSpan.{HeaderSpan}
use Rattle.cat_http.specs.Outcome.{OutcomeFits, OutcomeOf}
use Rattle.cat_http.specs.Window.{window}
use Rattle.cat_http.specs.declared.next.Outcome.{Outcome}
use Rattle.cat_http.proofs.StreamLemmas.{range_same}
use borrow.Rule.Slice.PartMut.{put_mid, post_of, same_len_mid}

-- the bytes of a vector from a place on are the window there
pub to_end : (bytes : List ℕ) (base len : ℕ) → length bytes ≤ len → slice_range bytes base len ≡ window bytes base
to_end bytes base len all = take_all (len - base) (drop base bytes) (omega (arith, length-drop base bytes))

-- the first bytes of a window are those of the bytes from its place on
pub window_front : (bytes : List ℕ) (base n : ℕ) → take n (window bytes base) ≡ slice_range bytes base (base + n)
window_front bytes base n =
    let all : n ≡ base + n - base = omega arith in
    ap (λ k. take k (drop base bytes)) all

-- the next window begins with what this one has unread, where that stays
pub stayed : (bytes : List ℕ) (base start end : ℕ) → take (end - start) (window bytes (base + start)) ≡ slice_range (window bytes base) start end
stayed bytes base start end = ap (take (end - start)) (sym (drop-drop start base bytes))

moved : (bytes new : List ℕ) (i j : ℕ) → i ≤ j → j ≤ length bytes → new ≡ copy_within bytes i j 0 → take (j - i) new ≡ slice_range bytes i j
moved bytes new i j order within is =
    let part : length (take (j - i) (drop i bytes)) ≡ j - i = length-take-le (j - i) (drop i bytes) (omega (arith, length-drop i bytes)) in
    ap (take (j - i)) is ∙ take_at (take (j - i) (drop i bytes)) (drop (0 + (j - i)) bytes) (j - i) part

-- what a slice of a vector has moved to the front stands at the front of the vector
compacted : (items first new : List ℕ) (i j len : ℕ) → i ≤ j → j ≤ length items → len ≡ length items → first ≡ items
    → new ≡ copy_within first i j 0 → length new ≡ length first → take (j - i) (take len (new ++ drop (length new) items)) ≡ slice_range items i j
compacted items first new i j len order within all same is kept =
    let whole : take len (new ++ drop (length new) items) ≡ new = take_at new (drop (length new) items) len (omega (arith, ap length same)) in
    ap (take (j - i)) whole ∙ moved items new i j order within (is ∙ ap (λ xs. copy_within xs i j 0) same)

-- the next window begins with what this one has unread, where that was moved
pub moved_down : (items first new : List ℕ) (base start end len : ℕ) → start ≤ end → base + end ≤ length items → len ≡ length items → first ≡ items
    → new ≡ copy_within first (base + start) (base + end) 0 → length new ≡ length first
    → take (end - start) (window (take len (new ++ drop (length new) items)) 0) ≡ slice_range (window items base) start end
moved_down items first new base start end len order fits all same is kept =
    let count : end - start ≡ base + end - (base + start) = omega arith in
    ap (λ k. take k (take len (new ++ drop (length new) items))) count
    ∙ compacted items first new (base + start) (base + end) len (omega arith) fits all same is kept
    ∙ ap (λ k. take k (drop (base + start) items)) (sym count)
    ∙ stayed items base start end

-- a list that was filled up begins as it was
pub grown : (b : Bool) (old new more : List ℕ) (n : ℕ) → new ≡ (if b then take n old ++ more else old) → length old ≤ n → take (length old) new ≡ old
grown true old new more n is fits = ap (take (length old)) (is ∙ ap (λ xs. xs ++ more) (take_all n old fits)) ∙ take_at old more (length old) refl
grown false old new more n is fits = ap (take (length old)) is ∙ take_all (length old) old (omega arith)

-- what is in a window stays in it, where a vector grows
pub window_grows : (old new : List ℕ) (base n : ℕ) → base + n ≤ length old → take (length old) new ≡ old → take n (window new base) ≡ take n (window old base)
window_grows old new base n within front =
    let same : take (length old) new ≡ take (length old) old = front ∙ sym (take_all (length old) old (omega arith)) in
    window_front new base n ∙ range_same new old (length old) base (base + n) same within ∙ sym (window_front old base n)

module _ (items all ys : List ℕ) (base len n : ℕ) (fits : base ≤ length items) (whole : len ≡ length items) (count : n ≡ length items) (same : all ≡ items) (kept : length ys ≡ length (slice_range all base len)) where
  abbrev after : List ℕ
  after = put_mid base (len - base) all ys

  after_len : length after ≡ len
  after_len = same_len_mid base (len - base) all ys kept ∙ ap length same ∙ sym whole

  back : take n (after ++ drop (length after) items) ≡ after
  back = take_at after (drop (length after) items) n (after_len ∙ whole ∙ sym count)

  -- a vector whose slice lent a window has as many bytes as before
  pub window_room : length (take n (after ++ drop (length after) items)) ≡ length items
  window_room = ap length back ∙ after_len ∙ whole

  pub window_full : base + length ys ≡ length items
  window_full =
      let lent : length ys ≡ length (drop base all) = kept ∙ ap length (to_end all base len (omega (arith, ap length same))) in
      omega (arith, lent, length-drop base all, ap length same)

  -- what was left in a window of a vector's slice stands in the window of the vector
  pub window_left : window (take n (after ++ drop (length after) items)) base ≡ ys
  window_left =
      let none : post_of base (len - base) all ≡ [] = drop_all (len - base) (drop base all) (omega (arith, length-drop base all, ap length same)) in
      ap (drop base) back
      ∙ drop_at (take base all) (ys ++ post_of base (len - base) all) base (length-take-le base all (omega (arith, ap length same)))
      ∙ ap (λ xs. ys ++ xs) none ∙ append-nil ys

-- an outcome over the same bytes
pub outcome_in : (outcome : Outcome) (old new : Option (List ℕ)) (given given' bytes bytes' : List ℕ) (hs : List HeaderSpan) (end : ℕ)
    → given ≡ given' → bytes ≡ bytes' → OutcomeOf outcome old new given bytes hs end → OutcomeOf outcome old new given' bytes' hs end
outcome_in outcome old new given given' bytes bytes' hs end eg eb is =
    subst (λ xs. OutcomeOf outcome old new given' xs hs end) eb (subst (λ g. OutcomeOf outcome old new g bytes hs end) eg is)

pub fits_in : (outcome : Outcome) (bytes bytes' : List ℕ) (hs : List HeaderSpan) (end : ℕ) → bytes ≡ bytes' → OutcomeFits outcome bytes hs end → OutcomeFits outcome bytes' hs end
fits_in outcome bytes bytes' hs end eb is = subst (λ xs. OutcomeFits outcome xs hs end) eb is
