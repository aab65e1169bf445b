-- What is found where a journal's frames are walked.
use Rattle.std.proofs.Common.{◌≡◌, ℕ, ◌+◌, ◌^◌, ◌<◌, ◌≤◌, ◌⊎◌, inl, inr, ⊎_elim, Bool, true, false, ◌&&◌, cond, List, [], ◌∷◌, ◌++◌, length, take, drop, Option, Some, None, refl, sym, ◌∙◌, ap, arith, append_assoc, length-append, length-take, length-drop, take-append-drop}
use Rattle.std.specs.Prelude.{IfSome}
use Rattle.std.specs.Int.{w32, to_be_bytes}
use Rattle.std.proofs.lemmas.Bool.{ltb-true}
use Rattle.std.proofs.lemmas.List.{take_at}
use Rattle.cat_io.specs.Crashes.{Told}
use Rattle.cat_frames.specs.Checkpoints.{is_checkpoint}
use Rattle.cat_keeper.specs.Bases.{end_with_base, end_with_entry}
use Rattle.cat_journal.specs.declared.points.Points.{Points}
use Rattle.cat_journal.specs.Frames.{header, form_gate, is_newer, length_of, skipped, starts_of, frame, spelled}
use Rattle.cat_journal.specs.Held.{ArePlaced, held_count}
use Rattle.cat_journal.specs.Reading.{IsFrameAt, IsHeaded, IsWalked, WalkEndsAt, WalkedTo, payload_at}
use Rattle.cat_journal.specs.AtRest.{are_framed-push, spelled-push, length-spelled-push, split_at_gate}
use Rattle.cat_journal.proofs.ReadOnly.{as_before}
use Rattle.cat_journal.proofs.Appended.{placed_base, placed_entry}

no_skipped : (newer : Bool) → skipped newer [] ≡ 0
no_skipped true = refl
no_skipped false = refl

-- before the first frame
walked_first : (newer : Bool) (x : Points) (bytes : List ℕ) → IsHeaded newer bytes → 16 < length bytes → x.gates.items ≡ [] → x.before ≡ 0 → x.end ≡ 16 → WalkedTo newer x bytes
walked_first newer x bytes headed more none before end = (
  headed.1,
  (
    [],
    record {
      front = ap (λ (n : ℕ). take n bytes) end ∙ headed.0;
      size = end;
      there = omega (arith, end, more);
      framed = refl;
      before = no_skipped (is_newer (form_gate bytes)) ∙ sym before;
      placed = record {
        base = λ some. absurd (omega (arith, some, before));
        gates = none ∙ sym (ap (λ (n : ℕ). drop n (starts_of 16 [])) before);
        count = omega (arith, before, ap length none);
      };
    },
  ),
)

-- one frame more
module _ (g : ℕ) (ps : List (List ℕ)) (x x' : Points) (n : ℕ) (bytes : List ℕ) (walked : IsWalked g ps x bytes) (found : IsFrameAt x.end n bytes) (inside : x.end + 5 + n < length bytes) (short : n < 2 ^ 32)
    (end_is : x'.end ≡ x.end + (5 + n)) where
  abbrev p : List ℕ
  p = payload_at bytes x.end

  abbrev rest : List ℕ
  rest = drop (x.end + 1) bytes

  room : 4 + length_of rest < length rest
  room = ltb-true _ _ found.whole

  size_is : length p ≡ n
  size_is = omega (arith, length-take (length_of rest) (drop 4 rest), length-drop 4 rest, room, found.size)

  abbrev tail : List ℕ
  tail = drop (length_of rest) (drop 4 rest)

  bytes_are : bytes ≡ (header g ++ spelled (ps ++ p ∷ [])) ++ tail
  bytes_are =
      let four : take 4 rest ≡ to_be_bytes w32 (length p) = sym found.spelled ∙ ap (λ (k : ℕ). to_be_bytes w32 k) (sym size_is) in
      let is_rest : rest ≡ frame p ++ tail =
      sym (take-append-drop 4 rest) ∙ ap (λ (l : List ℕ). l ++ drop 4 rest) four ∙ ap (λ (l : List ℕ). to_be_bytes w32 (length p) ++ l) (sym (take-append-drop (length_of rest) (drop 4 rest))) ∙ sym (append_assoc (to_be_bytes w32 (length p)) p tail) in
      split_at_gate g ps x.end bytes walked.front walked.there
      ∙ ap (λ (k : ℕ). header g ++ (spelled ps ++ k ∷ rest)) found.opened
      ∙ ap (λ (l : List ℕ). header g ++ (spelled ps ++ 1 ∷ l)) is_rest
      ∙ ap (λ (l : List ℕ). header g ++ l) (sym (spelled-push ps p tail))
      ∙ sym (append_assoc (header g) (spelled (ps ++ p ∷ [])) tail)

  size : x'.end ≡ 16 + length (spelled (ps ++ p ∷ []))
  size = omega (arith, length-spelled-push ps p, walked.size, size_is, end_is)

  front : take x'.end bytes ≡ header g ++ spelled (ps ++ p ∷ [])
  front = ap (λ (l : List ℕ). take x'.end l) bytes_are ∙ take_at (header g ++ spelled (ps ++ p ∷ [])) tail x'.end (omega (arith, length-append (header g) (spelled (ps ++ p ∷ [])), size))

  abbrev More : Type 0
  More = IsWalked g (ps ++ p ∷ []) x' bytes

  with_placed : skipped (is_newer g) (ps ++ p ∷ []) ≡ x'.before → ArePlaced (ps ++ p ∷ []) x' → More
  with_placed before placed = record { front = front; size = size; there = omega (arith, inside, end_is); framed = are_framed-push ps p walked.framed (omega (arith, size_is, short)); before = before; placed = placed }

  one_base : (newer : Bool) → is_newer g ≡ newer → newer ≡ true → is_checkpoint p ≡ true → x'.gates.items ≡ [] → x'.before ≡ held_count x + 1 → x'.base ≡ x.end → More
  one_base newer form new checkpoint none before base =
      with_placed
      (ap (λ t. skipped t (ps ++ p ∷ [])) (form ∙ new) ∙ end_with_base ps p checkpoint ∙ omega (arith, before, walked.placed.count))
      (placed_base ps p x x' walked.placed walked.size none before base)

  one_entry : (newer : Bool) → is_newer g ≡ newer → (newer ≡ false) ⊎ (is_checkpoint p ≡ false) → x'.gates.items ≡ x.gates.items ++ x.end ∷ [] → x'.before ≡ x.before → x'.base ≡ x.base → More
  one_entry newer form entry pushed before base =
      with_placed
      (⊎_elim
      (λ old. ap (λ t. skipped t (ps ++ p ∷ [])) (form ∙ old) ∙ sym (ap (λ t. skipped t ps) (form ∙ old)))
      (λ other. both (is_newer g) other)
      entry
      ∙ walked.before ∙ sym before)
      (placed_entry ps p x x' walked.placed walked.size pushed before base)
    where
      both : (t : Bool) → is_checkpoint p ≡ false → skipped t (ps ++ p ∷ []) ≡ skipped t ps
      both true other = end_with_entry ps p other
      both false other = refl

  one_more : (newer base : Bool) → is_newer g ≡ newer → is_checkpoint p ≡ base
      → x'.base ≡ cond (newer && base) x.end x.base → x'.before ≡ cond (newer && base) (held_count x + 1) x.before → x'.gates.items ≡ cond (newer && base) [] (x.gates.items ++ x.end ∷ []) → More
  one_more true true form kind base before gates = one_base true form refl kind gates before base
  one_more true false form kind base before gates = one_entry true form (inr kind) gates before base
  one_more false base form kind at before gates = one_entry false form (inl refl) gates before at

-- `counted` says whether it is a base
pub more_found : (newer base counted : Bool) (x x' : Points) (n len : ℕ) (t t' : Option (List ℕ)) → counted ≡ (newer && base) → Told t t' (λ a b. b ≡ a) → IfSome t (WalkedTo newer x) → IfSome t' (λ bytes. IsFrameAt x.end n bytes × (is_checkpoint (payload_at bytes x.end) ≡ base))
    → IfSome t (λ bytes. len ≡ length bytes) → x.end + 5 + n < len → n < 2 ^ 32 → x'.end ≡ x.end + (5 + n)
    → x'.base ≡ cond counted x.end x.base → x'.before ≡ cond counted (held_count x + 1) x.before → x'.gates.items ≡ cond counted [] (x.gates.items ++ x.end ∷ []) → IfSome t (WalkedTo newer x')
more_found newer base counted x x' n len t t' both same walked found is inside short end_is at before gates = at_told t walked (as_before t t' _ same found) is
  where
    at_told : (t : Option (List ℕ)) → IfSome t (WalkedTo newer x) → IfSome t (λ bytes. IsFrameAt x.end n bytes × (is_checkpoint (payload_at bytes x.end) ≡ base)) → IfSome t (λ bytes. len ≡ length bytes) → IfSome t (WalkedTo newer x')
    at_told None walked found is = tt
    at_told (Some bytes) walked found is = (
      walked.0,
      (
        walked.1.0 ++ payload_at bytes x.end ∷ [],
        one_more (form_gate bytes) walked.1.0 x x' n bytes walked.1.1 found.0 (omega (arith, is, inside)) short end_is newer base walked.0 found.1
            (at ∙ ap (λ b. cond b x.end x.base) both) (before ∙ ap (λ b. cond b (held_count x + 1) x.before) both) (gates ∙ ap (λ b. cond b [] (x.gates.items ++ x.end ∷ [])) both),
      ),
    )

-- each payload counts less than its bytes
pub room_more : (counted : Bool) (x x' : Points) (n : ℕ) → held_count x ≤ x.end → x'.before ≡ cond counted (held_count x + 1) x.before → x'.gates.items ≡ cond counted [] (x.gates.items ++ x.end ∷ []) → x'.end ≡ x.end + (5 + n)
    → held_count x' ≤ x'.end
room_more true x x' n room before gates end = omega (arith, room, before, ap length gates, end)
room_more false x x' n room before gates end = omega (arith, room, before, ap length gates, length-append x.gates.items (x.end ∷ []), end)

-- the walk found frames, and what stands at its end
abbrev pub Walks : Bool → Points → Bool → List ℕ → Type 0
Walks newer x b bytes = WalkedTo newer x bytes × WalkEndsAt x.end b bytes

pub walk_end : (newer : Bool) (x : Points) (b : Bool) (t t' : Option (List ℕ)) → Told t t' (λ a b. b ≡ a) → IfSome t (WalkedTo newer x) → IfSome t' (WalkEndsAt x.end b) → IfSome t (Walks newer x b)
walk_end newer x b t t' same walked ends = at_told t walked (as_before t t' (WalkEndsAt x.end b) same ends)
  where
    at_told : (t : Option (List ℕ)) → IfSome t (WalkedTo newer x) → IfSome t (WalkEndsAt x.end b) → IfSome t (Walks newer x b)
    at_told None walked ends = tt
    at_told (Some bytes) walked ends = (walked, ends)

pub first_found : (newer : Bool) (x : Points) (t : Option (List ℕ)) (len : ℕ) → IfSome t (IsHeaded newer) → IfSome t (λ bytes. len ≡ length bytes) → 16 < len → x.gates.items ≡ [] → x.before ≡ 0 → x.end ≡ 16 → IfSome t (WalkedTo newer x)
first_found newer x None len headed is more none before end = tt
first_found newer x (Some bytes) len headed is more none before end = walked_first newer x bytes headed (omega (arith, is, more)) none before end
