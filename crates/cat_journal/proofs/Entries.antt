-- The entries behind the base are read, one after another.
use Rattle.std.proofs.Common.{◌≡◌, ℕ, suc, ◌+◌, ◌-◌, ◌<◌, ◌≤◌, Bool, true, false, List, [], ◌∷◌, length, map, drop, get_or, Option, Some, None, refl, sym, ◌∙◌, ap, arith}
use Rattle.std.specs.List.{All}
use Rattle.std.specs.Prelude.{IfSome}
use Rattle.std.proofs.lemmas.List.{drop_all, drop_more}
use Rattle.std.proofs.lemmas.List.Elements.{All-get_or}
use Rattle.cat_frames.specs.Payload.{has_reading}
use Rattle.cat_journal.specs.Frames.{max_entries, unread_from}
use Rattle.cat_journal.specs.Reading.{HasFrame, payload_at, unread_at}

-- so it stands before entry i
abbrev pub SoFar : List ℕ → ℕ → List ℕ → Type 0
SoFar gates i bytes = All (HasFrame bytes) gates → unread_at gates bytes ≡ unread_from i (map (payload_at bytes) (drop i gates)) (max_entries - i)

module _ (gates : List ℕ) (i : ℕ) (inside : i < length gates) (few : i ≤ max_entries) where
  abbrev here : ℕ
  here = get_or gates i 0

  next : (bytes : List ℕ) → map (payload_at bytes) (drop i gates) ≡ payload_at bytes here ∷ map (payload_at bytes) (drop (i + 1) gates)
  next bytes = ap (map (payload_at bytes)) (drop_more gates i 0 inside)

  with_room : (bytes : List ℕ) (m : ℕ) → max_entries - i ≡ m → SoFar gates i bytes → All (HasFrame bytes) gates → unread_at gates bytes ≡ unread_from i (payload_at bytes here ∷ map (payload_at bytes) (drop (i + 1) gates)) m
  with_room bytes m is so_far framed =
      so_far framed ∙ ap (λ l. unread_from i l (max_entries - i)) (next bytes) ∙ ap (unread_from i (payload_at bytes here ∷ map (payload_at bytes) (drop (i + 1) gates))) is

  none_left : (p : List ℕ) (ps : List (List ℕ)) → unread_from i (p ∷ ps) 0 ≡ Some i
  unfolding unread_from
  none_left p ps = refl

  not_read : (p : List ℕ) (ps : List (List ℕ)) (m : ℕ) → has_reading p ≡ false → unread_from i (p ∷ ps) (suc m) ≡ Some i
  unfolding unread_from
  not_read p ps m none = rw none refl

  goes_on : (p : List ℕ) (ps : List (List ℕ)) (m : ℕ) → has_reading p ≡ true → unread_from i (p ∷ ps) (suc m) ≡ unread_from (i + 1) ps m
  unfolding unread_from
  goes_on p ps m reads = rw reads refl

  framed_here : (bytes : List ℕ) → All (HasFrame bytes) gates → HasFrame bytes here
  framed_here bytes framed = All-get_or (HasFrame bytes) gates i 0 inside framed

  module _ (t : Option (List ℕ)) (so_far : IfSome t (SoFar gates i)) where
    pub too_many_found : max_entries ≤ i → IfSome t (λ bytes. All (HasFrame bytes) gates → (k : ℕ) × (unread_at gates bytes ≡ Some k) × (here ≡ get_or gates k 0))
    too_many_found most = by t so_far
      where
        by : (t : Option (List ℕ)) → IfSome t (SoFar gates i) → IfSome t (λ bytes. All (HasFrame bytes) gates → (k : ℕ) × (unread_at gates bytes ≡ Some k) × (here ≡ get_or gates k 0))
        by None so_far = tt
        by (Some bytes) so_far = λ framed. (i, with_room bytes 0 (omega (arith, most)) so_far framed ∙ none_left _ _, refl)

    module _ (room : i < max_entries) (b : Bool) (read : IfSome t (λ bytes. HasFrame bytes here → b ≡ has_reading (payload_at bytes here))) where
      pub not_read_found : b ≡ false → IfSome t (λ bytes. All (HasFrame bytes) gates → (k : ℕ) × (unread_at gates bytes ≡ Some k) × (here ≡ get_or gates k 0))
      not_read_found none = by t so_far read
        where
          by : (t : Option (List ℕ)) → IfSome t (SoFar gates i) → IfSome t (λ bytes. HasFrame bytes here → b ≡ has_reading (payload_at bytes here))
              → IfSome t (λ bytes. All (HasFrame bytes) gates → (k : ℕ) × (unread_at gates bytes ≡ Some k) × (here ≡ get_or gates k 0))
          by None so_far read = tt
          by (Some bytes) so_far read = λ framed.
              (i, with_room bytes (suc (max_entries - (i + 1))) (omega (arith, room)) so_far framed ∙ not_read _ _ _ (sym (read (framed_here bytes framed)) ∙ none), refl)

      pub read_found : b ≡ true → IfSome t (SoFar gates (i + 1))
      read_found true_is = by t so_far read
        where
          by : (t : Option (List ℕ)) → IfSome t (SoFar gates i) → IfSome t (λ bytes. HasFrame bytes here → b ≡ has_reading (payload_at bytes here)) → IfSome t (SoFar gates (i + 1))
          by None so_far read = tt
          by (Some bytes) so_far read = λ framed.
              with_room bytes (suc (max_entries - (i + 1))) (omega (arith, room)) so_far framed ∙ goes_on _ _ _ (sym (read (framed_here bytes framed)) ∙ true_is)

none_more : (i m : ℕ) → unread_from i [] m ≡ None
unfolding unread_from
none_more i m = refl

pub all_found : (gates : List ℕ) (i : ℕ) (t : Option (List ℕ)) → length gates ≤ i → IfSome t (SoFar gates i) → IfSome t (λ bytes. All (HasFrame bytes) gates → unread_at gates bytes ≡ None)
all_found gates i None end so_far = tt
all_found gates i (Some bytes) end so_far = λ framed.
    so_far framed ∙ ap (λ l. unread_from i (map (payload_at bytes) l) (max_entries - i)) (drop_all i gates end) ∙ none_more i (max_entries - i)

-- a fault of the disk or for want of memory says nothing of the bytes
