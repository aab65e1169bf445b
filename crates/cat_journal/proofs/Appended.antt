-- What a journal knows of its disk after an append or a rebase.
use Rattle.std.proofs.Common.{◌≡◌, inl, inr, ⊎_elim, ◌≤◌, ◌<◌, ◌+◌, ◌-◌, ◌^◌, ℕ, suc, Bool, true, false, cond, ltb, List, [], ◌∷◌, ◌++◌, length, take, drop, get_or, Option, Some, None, Ok, refl, sym, ◌∙◌, ap, subst, arith, length-append}
use Rattle.std.specs.Prelude.{IfSome, ⊤}
use Rattle.std.specs.Option.{option_map}
use Rattle.std.proofs.lemmas.Bool.{ltb-true}
use Rattle.std.proofs.lemmas.List.{take_all, take_at, drop_all, drop-append-le, get_or_append_left, get_or_at}
use Rattle.cat_io.specs.Crashes.{LeavesOnly, Told, Only}
use Rattle.cat_frames.specs.Checkpoints.{is_checkpoint}
use Rattle.cat_keeper.specs.Bases.{base_place, base_with_base, base_with_entry, end_with_base, end_with_entry, place_in}
use Rattle.cat_keeper.specs.KeeperLaws.{told_is}
use Rattle.cat_keeper.specs.Keeping.{WithOrWithout}
use Rattle.cat_journal.specs.declared.points.Points.{Points}
use Rattle.cat_journal.specs.Frames.{form_gate, is_newer, payloads, payloads_in, recovered, payload_of, frame, framed_at, spelled, starts_of, unread, with_frame, IsAtRest, MayHoldOneMore}
use Rattle.cat_journal.specs.Held.{ArePlaced, first_payloads, held_count, Holds, IsHeld, IsSafe, IsTorn, outcome}
use Rattle.cat_journal.specs.AtRest.{gate_of_front, length-frame, payload_of-frame, recovered-at_rest}
use Rattle.cat_journal.specs.Laws.{torn_images, torn_outcome}
use Rattle.cat_journal.specs.OneMore.{either, with_or_without}

-- a nonempty payload has room
pub room_for : (n gates most frame : ℕ) → n ≤ cond (ltb gates most) (frame - 5) 0 → 0 < n → (n + 5 ≤ frame) × (gates < most)
room_for n gates most frame le some = by_test (ltb gates most) refl
  where
    by_test : (b : Bool) → ltb gates most ≡ b → (n + 5 ≤ frame) × (gates < most)
    by_test true is = let le' : n ≤ frame - 5 = subst (λ t. n ≤ cond t (frame - 5) 0) is le in (omega (arith, le', some), ltb-true gates most is)
    by_test false is = let le' : n ≤ 0 = subst (λ t. n ≤ cond t (frame - 5) 0) is le in absurd (omega (arith, le', some))

pub starts_of-push : (at : ℕ) (ps : List (List ℕ)) (p : List ℕ) → starts_of at (ps ++ p ∷ []) ≡ starts_of at ps ++ (at + length (spelled ps)) ∷ []
starts_of-push at [] p = let here : at ≡ at + 0 = omega arith in ap (λ (n : ℕ). n ∷ []) here
starts_of-push at (q ∷ ps) p =
    let place : (at + 5 + length q) + length (spelled ps) ≡ at + length (spelled (q ∷ ps)) = omega (arith, length-append (frame q) (spelled ps), length-frame q) in
    ap (λ (l : List ℕ). at ∷ l) (starts_of-push (at + 5 + length q) ps p ∙ ap (λ (n : ℕ). starts_of (at + 5 + length q) ps ++ n ∷ []) place)

pub length-starts : (at : ℕ) (ps : List (List ℕ)) → length (starts_of at ps) ≡ length ps
length-starts at [] = refl
length-starts at (p ∷ ps) = ap suc (length-starts (at + 5 + length p) ps)

-- ---- one more payload

module _ (ps : List (List ℕ)) (p : List ℕ) (x x' : Points) (placed : ArePlaced ps x) (size : x.end ≡ 16 + length (spelled ps)) where
  starts : starts_of 16 (ps ++ p ∷ []) ≡ starts_of 16 ps ++ (16 + length (spelled ps)) ∷ []
  starts = starts_of-push 16 ps p

  long : length (starts_of 16 ps) ≡ length ps
  long = length-starts 16 ps

  -- an entry
  pub placed_entry : x'.gates.items ≡ x.gates.items ++ x.end ∷ [] → x'.before ≡ x.before → x'.base ≡ x.base → ArePlaced (ps ++ p ∷ []) x'
  placed_entry pushed before base = record {
    base = λ some.
        base ∙ placed.base (omega (arith, some, before))
        ∙ sym (get_or_append_left (starts_of 16 ps) ((16 + length (spelled ps)) ∷ []) 0 (x.before - 1) (omega (arith, some, before, placed.count, long)))
        ∙ ap (λ (l : List ℕ). get_or l (x.before - 1) 0) (sym starts)
        ∙ ap (λ (n : ℕ). get_or (starts_of 16 (ps ++ p ∷ [])) (n - 1) 0) (sym before);
    gates =
        pushed
        ∙ ap (λ (l : List ℕ). l ++ x.end ∷ []) placed.gates
        ∙ ap (λ (n : ℕ). drop x.before (starts_of 16 ps) ++ n ∷ []) size
        ∙ sym (drop-append-le x.before (starts_of 16 ps) ((16 + length (spelled ps)) ∷ []) (omega (arith, placed.count, long)))
        ∙ ap (λ (l : List ℕ). drop x.before l) (sym starts)
        ∙ ap (λ (n : ℕ). drop n (starts_of 16 (ps ++ p ∷ []))) (sym before);
    count = omega (arith, placed.count, before, ap length pushed, length-append x.gates.items (x.end ∷ []), length-append ps (p ∷ []));
  }

  -- a base
  pub placed_base : x'.gates.items ≡ [] → x'.before ≡ held_count x + 1 → x'.base ≡ x.end → ArePlaced (ps ++ p ∷ []) x'
  placed_base none before base =
      let last : x'.before - 1 ≡ length ps = omega (arith, before, placed.count) in
      record {
        base = λ some.
            base ∙ size
            ∙ sym (get_or_at (starts_of 16 ps) (16 + length (spelled ps)) [] 0 (x'.before - 1) (long ∙ sym last))
            ∙ ap (λ (l : List ℕ). get_or l (x'.before - 1) 0) (sym starts);
        gates =
            none
            ∙ sym (drop_all x'.before (starts_of 16 ps ++ (16 + length (spelled ps)) ∷ []) (omega (arith, length-append (starts_of 16 ps) ((16 + length (spelled ps)) ∷ []), long, before, placed.count)))
            ∙ ap (λ (l : List ℕ). drop x'.before l) (sym starts);
        count = omega (arith, placed.count, before, ap length none, length-append ps (p ∷ []));
      }

module _ (p : List ℕ) (x x' : Points) where
  pub holds_entry : is_checkpoint p ≡ false → x'.gates.items ≡ x.gates.items ++ x.end ∷ [] → x'.before ≡ x.before → x'.base ≡ x.base → x'.first ≡ x.first
      → (g : ℕ) (ps : List (List ℕ)) (old new : List ℕ) → IsHeld g ps x old → IsAtRest g (ps ++ p ∷ []) x'.end new → IsHeld g (ps ++ p ∷ []) x' new
  holds_entry entry pushed before base first g ps old new held rest = record {
    front = rest.front;
    size = rest.size;
    there = rest.there;
    framed = rest.framed;
    read = rest.read;
    before = end_with_entry ps p entry ∙ held.before ∙ sym before;
    first = ap place_in (base_with_entry ps p entry) ∙ held.first ∙ sym first;
    placed = placed_entry ps p x x' held.placed held.size pushed before base;
  }

  pub holds_base : is_checkpoint p ≡ true → x'.gates.items ≡ [] → x'.before ≡ held_count x + 1 → x'.base ≡ x.end → x'.first ≡ base_place p
      → (g : ℕ) (ps : List (List ℕ)) (old new : List ℕ) → IsHeld g ps x old → IsAtRest g (ps ++ p ∷ []) x'.end new → IsHeld g (ps ++ p ∷ []) x' new
  holds_base checkpoint none before base first g ps old new held rest = record {
    front = rest.front;
    size = rest.size;
    there = rest.there;
    framed = rest.framed;
    read = rest.read;
    before = end_with_base ps p checkpoint ∙ omega (arith, before, held.placed.count);
    first = ap place_in (base_with_base ps p checkpoint) ∙ sym first;
    placed = placed_base ps p x x' held.placed held.size none before base;
  }

-- the bytes after a call that was done
abbrev pub Grows : ℕ → List ℕ → List ℕ → List ℕ → Type 0
Grows end p old new = (payloads new ≡ payloads old ++ p ∷ []) × (form_gate new ≡ form_gate old) × IsAtRest (form_gate new) (payloads new) (end + 5 + length p) new

module _ (x x' : Points) (p : List ℕ) (more : held_count x' ≡ held_count x + 1) (end_is : x'.end ≡ x.end + (5 + length p)) (images images' : List ℕ → Type 0) where
  count_new : (old new : List ℕ) → IsSafe (held_count x) x.end images old → Grows x.end p old new → length (payloads new) ≡ held_count x'
  count_new old new safe grows =
      omega (arith, ap length grows.0, length-append (payloads old) (p ∷ []), safe.count, more)

  at_end : (old new : List ℕ) → Grows x.end p old new → IsAtRest (form_gate new) (payloads new) x'.end new
  at_end old new grows =
      let place : x.end + 5 + length p ≡ x'.end = omega (arith, end_is) in
      subst (λ n. IsAtRest (form_gate new) (payloads new) n new) place grows.2

  abbrev Held' : Type 0
  Held' = (g : ℕ) (ps : List (List ℕ)) (old new : List ℕ) → IsHeld g ps x old → IsAtRest g (ps ++ p ∷ []) x'.end new → IsHeld g (ps ++ p ∷ []) x' new

  held_at : Held' → (old new : List ℕ) → Holds x old → IsSafe (held_count x) x.end images old → Grows x.end p old new → Holds x' new
  held_at holds old new held safe grows =
      let all : first_payloads (held_count x') new ≡ payloads new = take_all (held_count x') (payloads new) (omega (arith, count_new old new safe grows)) in
      let was : first_payloads (held_count x) old ≡ payloads old = take_all (held_count x) (payloads old) (omega (arith, safe.count)) in
      let before : IsHeld (form_gate new) (payloads old) x old = subst (λ k. IsHeld k (payloads old) x old) (sym grows.1) (subst (λ ps. IsHeld (form_gate old) ps x old) was held) in
      let after = holds (form_gate new) (payloads old) old new before (subst (λ ps. IsAtRest (form_gate new) ps x'.end new) grows.0 (at_end old new grows)) in
      subst (λ ps. IsHeld (form_gate new) ps x' new) (sym all) (subst (λ ps. IsHeld (form_gate new) ps x' new) (sym grows.0) after)

  safe_at : (old new : List ℕ) → IsSafe (held_count x) x.end images old → Grows x.end p old new → ((c : List ℕ) → images' c → c ≡ new)
      → IsSafe (held_count x') x'.end images' new
  safe_at old new safe grows only = record { rest = at_end old new grows; count = count_new old new safe grows; only = only }

  pub held_ok : Held' → (told told' : Option (List ℕ)) → IfSome told (Holds x) → IfSome told (IsSafe (held_count x) x.end images)
      → Told told told' (Grows x.end p) → IfSome told' (Holds x')
  held_ok holds None None held safe grows = tt
  held_ok holds None (Some b) held safe grows = absurd grows
  held_ok holds (Some a) None held safe grows = absurd grows
  held_ok holds (Some a) (Some b) held safe grows = held_at holds a b held safe grows

  pub safe_ok : (told told' : Option (List ℕ)) → IfSome told (IsSafe (held_count x) x.end images)
      → Told told told' (Grows x.end p) → Only told' images' → IfSome told' (IsSafe (held_count x') x'.end images')
  safe_ok None None safe grows only = tt
  safe_ok None (Some b) safe grows only = absurd grows
  safe_ok (Some a) None safe grows only = absurd grows
  safe_ok (Some a) (Some b) safe grows only = safe_at a b safe grows only

  pub added_ok : (told told' : Option (List ℕ)) → IfSome told (IsSafe (held_count x) x.end images) → Told told told' (Grows x.end p)
      → Told (option_map (first_payloads (held_count x)) told) (option_map (first_payloads (held_count x')) told') (λ old new. new ≡ old ++ p ∷ [])
  added_ok None None safe grows = tt
  added_ok None (Some b) safe grows = absurd grows
  added_ok (Some a) None safe grows = absurd grows
  added_ok (Some a) (Some b) safe grows =
      take_all (held_count x') (payloads b) (omega (arith, count_new a b safe grows))
      ∙ grows.0
      ∙ ap (λ (ps : List (List ℕ)). ps ++ p ∷ []) (sym (take_all (held_count x) (payloads a) (omega (arith, safe.count))))

-- the gate at which it was written is the first closed one of the bytes
pub exact_ok : (n gate : ℕ) (images : List ℕ → Type 0) (p : List ℕ) (told told' : Option (List ℕ)) → IfSome told (IsSafe n gate images)
    → Told told told' (λ old new. new ≡ framed_at gate p old) → Told told told' (λ old new. new ≡ with_frame p old)
exact_ok n gate images p None None safe is = tt
exact_ok n gate images p None (Some b) safe is = absurd is
exact_ok n gate images p (Some a) None safe is = absurd is
exact_ok n gate images p (Some a) (Some b) safe is = is ∙ ap (λ (at : ℕ). framed_at at p a) safe.rest.size

-- of the format's gate
pub formed_ok : (format_of : ℕ → ℕ) (format end : ℕ) (p : List ℕ) (told told' : Option (List ℕ)) → IfSome told (λ b. format_of (form_gate b) ≡ format) → Told told told' (Grows end p) → IfSome told' (λ b. format_of (form_gate b) ≡ format)
formed_ok format_of format end p None None formed grows = tt
formed_ok format_of format end p None (Some b) formed grows = absurd grows
formed_ok format_of format end p (Some a) None formed grows = absurd grows
formed_ok format_of format end p (Some a) (Some b) formed grows = ap format_of grows.1 ∙ formed

-- ---- after one that failed

module _ (x : Points) (p framed : List ℕ) (images images' : List ℕ → Type 0) (short : length p < 2 ^ 32) (spelled_is : framed ≡ frame p ++ 0 ∷ []) where
  abbrev Fits : List ℕ → Type 0
  Fits old = unread (is_newer (form_gate old)) (payloads old ++ p ∷ []) ≡ None

  abbrev May : List ℕ → List ℕ → Type 0
  May old c = MayHoldOneMore (form_gate old) (payloads old) x.end p c

  same_first : (old new : List ℕ) → IsSafe (held_count x) x.end images old → Fits old → May old new → first_payloads (held_count x) new ≡ payloads old
  same_first old new safe fits may =
      ⊎_elim
      (λ before. ap (λ (ps : List (List ℕ)). take (held_count x) ps) (ap payloads_in before) ∙ take_all (held_count x) (payloads old) (omega (arith, safe.count)))
      (λ after. ap (λ (ps : List (List ℕ)). take (held_count x) ps) (ap payloads_in after) ∙ take_at (payloads old) (p ∷ []) (held_count x) safe.count)
      (either (form_gate old) (payloads old) x.end p safe.rest.size safe.rest.framed safe.rest.read fits short new may)

  same_gate : (old new : List ℕ) → IsSafe (held_count x) x.end images old → May old new → form_gate new ≡ form_gate old
  same_gate old new safe may = gate_of_front (form_gate old) (payloads old) x.end new may.front safe.rest.size

  held_still : (old new : List ℕ) → Holds x old → IsSafe (held_count x) x.end images old → Fits old → May old new → Holds x new
  held_still old new held safe fits may =
      let was : first_payloads (held_count x) old ≡ payloads old = take_all (held_count x) (payloads old) (omega (arith, safe.count)) in
      let before : IsHeld (form_gate old) (payloads old) x old = subst (λ ps. IsHeld (form_gate old) ps x old) was held in
      let after : IsHeld (form_gate old) (payloads old) x new = record {
        front = may.front;
        size = before.size;
        there = may.there;
        framed = before.framed;
        read = before.read;
        before = before.before;
        first = before.first;
        placed = before.placed;
      } in
      subst (λ k. IsHeld k (first_payloads (held_count x) new) x new) (sym (same_gate old new safe may)) (subst (λ ps. IsHeld (form_gate old) ps x new) (sym (same_first old new safe fits may)) after)

  torn_at : (old new : List ℕ) → IsSafe (held_count x) x.end images old → Fits old → May old new → ((c : List ℕ) → images' c → May old c)
      → IsTorn (held_count x) x.end (payload_of framed) images' new
  torn_at old new safe fits may each =
      let same : payload_of framed ≡ p = ap payload_of spelled_is ∙ payload_of-frame p (0 ∷ []) short in
      let first = same_first old new safe fits may in
      let gate = same_gate old new safe may in
      let there : (c : List ℕ) → May old c → MayHoldOneMore (form_gate new) (first_payloads (held_count x) new) x.end p c =
      λ c m. subst (λ k. MayHoldOneMore k (first_payloads (held_count x) new) x.end p c) (sym gate) (subst (λ ps. MayHoldOneMore (form_gate old) ps x.end p c) (sym first) m) in
      subst (λ q. IsTorn (held_count x) x.end q images' new) (sym same) (record {
        short = short;
        fits = ap (λ k. unread (is_newer k) (first_payloads (held_count x) new ++ p ∷ [])) gate ∙ ap (λ ps. unread (is_newer (form_gate old)) (ps ++ p ∷ [])) first ∙ fits;
        reads = there new may;
        each = λ c left. there c (each c left);
      })

  pub held_err : (told told' : Option (List ℕ)) → IfSome told (Holds x) → IfSome told (IsSafe (held_count x) x.end images) → IfSome told Fits
      → Told told told' (λ a b. ⊤) → ((c : List ℕ) → told' ≡ Some c → IfSome told (λ old. May old c))
      → IfSome told' (Holds x)
  held_err None None held safe fits stays image = tt
  held_err None (Some b) held safe fits stays image = absurd stays
  held_err (Some a) None held safe fits stays image = absurd stays
  held_err (Some a) (Some b) held safe fits stays image = held_still a b held safe fits (image b refl)

  pub formed_err : (format_of : ℕ → ℕ) (format : ℕ) (told told' : Option (List ℕ)) → IfSome told (λ b. format_of (form_gate b) ≡ format) → IfSome told (IsSafe (held_count x) x.end images)
      → Told told told' (λ a b. ⊤) → ((c : List ℕ) → told' ≡ Some c → IfSome told (λ old. May old c))
      → IfSome told' (λ b. format_of (form_gate b) ≡ format)
  formed_err format_of format None None formed safe stays image = tt
  formed_err format_of format None (Some b) formed safe stays image = absurd stays
  formed_err format_of format (Some a) None formed safe stays image = absurd stays
  formed_err format_of format (Some a) (Some b) formed safe stays image = ap format_of (same_gate a b safe (image b refl)) ∙ formed

  pub torn_err : (told told' : Option (List ℕ)) → IfSome told (IsSafe (held_count x) x.end images) → IfSome told Fits
      → Told told told' (λ a b. ⊤) → ((c : List ℕ) → told' ≡ Some c → IfSome told (λ old. May old c))
      → ((c : List ℕ) → images' c → IfSome told (λ old. May old c))
      → IfSome told' (IsTorn (held_count x) x.end (payload_of framed) images')
  torn_err None None safe fits stays image each = tt
  torn_err None (Some b) safe fits stays image each = absurd stays
  torn_err (Some a) None safe fits stays image each = absurd stays
  torn_err (Some a) (Some b) safe fits stays image each = torn_at a b safe fits (image b refl) each

  pub same_err : (told told' : Option (List ℕ)) → IfSome told (IsSafe (held_count x) x.end images) → IfSome told Fits
      → Told told told' (λ a b. ⊤) → ((c : List ℕ) → told' ≡ Some c → IfSome told (λ old. May old c))
      → Told (option_map (first_payloads (held_count x)) told) (option_map (first_payloads (held_count x)) told') (λ old new. new ≡ old)
  same_err None None safe fits stays image = tt
  same_err None (Some b) safe fits stays image = absurd stays
  same_err (Some a) None safe fits stays image = absurd stays
  same_err (Some a) (Some b) safe fits stays image = same_first a b safe fits (image b refl) ∙ sym (take_all (held_count x) (payloads a) (omega (arith, safe.count)))

-- from images of the disk to those of the keeper
pub one_more_or_not : (told : Option (List ℕ)) (n end : ℕ) (images : List ℕ → Type 0) (p c : List ℕ) (r : Option (List (List ℕ))) → length p < 2 ^ 32
    → IfSome told (IsSafe n end images) → IfSome told (λ old. unread (is_newer (form_gate old)) (payloads old ++ p ∷ []) ≡ None) → IfSome told (λ old. MayHoldOneMore (form_gate old) (payloads old) end p c)
    → outcome c ≡ r → IfSome (option_map (first_payloads n) told) (λ ps. WithOrWithout ps p r)
one_more_or_not None n end images p c r short safe fits may is = tt
one_more_or_not (Some a) n end images p c r short safe fits may is =
    let all : payloads a ≡ first_payloads n a = sym (take_all n (payloads a) (omega (arith, safe.count))) in
    let here : WithOrWithout (payloads a) p (outcome c) = with_or_without (form_gate a) (payloads a) end p safe.rest.size safe.rest.framed safe.rest.read fits short c may in
    subst (λ s. WithOrWithout (first_payloads n a) p s) is (subst (λ ps. WithOrWithout ps p (outcome c)) all here)

module _ {D J A B : Type 0} (moment : D → ℕ) (left_since : D → ℕ → A → Type 0) (disk : J → D) (view : A → B) where
  pub lifted : (old new : J) (Q : A → Type 0) (P : B → Type 0) → LeavesOnly moment left_since (disk old) (disk new) Q → ((c : A) (r : B) → Q c → view c ≡ r → P r)
      → LeavesOnly (λ j. moment (disk j)) (λ j t r. (c : A) × left_since (disk j) t c × (view c ≡ r)) old new P
  lifted old new Q P run here = record {
    later = run.later;
    each = λ r left. here left.0 r (run.each left.0 left.1) left.2;
    before = λ t r le left. ⊎_elim (λ was. inl (left.0, was, left.2)) (λ q. inr (here left.0 r q left.2)) (run.before t left.0 le left.1);
  }

-- what a crash leaves of the disk that a journal has
module _ {D J A : Type 0} (moment : D → ℕ) (left_since : D → ℕ → A → Type 0) (disk : J → D) where
  pub on_disk : (old new : J) (Q P : A → Type 0) → LeavesOnly moment left_since (disk old) (disk new) Q → ((c : A) → Q c → P c)
      → LeavesOnly (λ j. moment (disk j)) (λ j t c. left_since (disk j) t c) old new P
  on_disk old new Q P run here = record {
    later = run.later;
    each = λ c left. here c (run.each c left);
    before = λ t c le left. ⊎_elim (λ was. inl was) (λ q. inr (here c q)) (run.before t c le left);
  }

pub none_of : {A : Type 0} (o : Option A) → ((x : A) → o ≡ Some x → ⊥) → o ≡ None
none_of None none = refl
none_of (Some x) none = absurd (none x refl)

-- what was at rest is told by its payloads
pub told_at_rest : (told : Option (List ℕ)) (n gate : ℕ) (images : List ℕ → Type 0) → IfSome told (IsSafe n gate images)
    → Told (option_map (first_payloads n) told) told (λ ps bytes. recovered bytes ≡ Ok ps)
told_at_rest None n gate images safe = tt
told_at_rest (Some bytes) n gate images safe =
    recovered-at_rest (form_gate bytes) (payloads bytes) gate bytes safe.rest ∙ ap (λ (l : List (List ℕ)). Ok l) (sym (take_all n (payloads bytes) (omega (arith, safe.count))))

-- either has more bytes than a header
pub told_headed : (told : Option (List ℕ)) (x : Points) → IfSome told (Holds x) → IfSome told (λ bytes. 16 < length bytes)
told_headed None x held = tt
told_headed (Some bytes) x held = omega (arith, held.size, held.there)

-- and what isn't, with or without the one in flight
pub told_torn : (told : Option (List ℕ)) (x : Points) (p : List ℕ) (images : List ℕ → Type 0) (down : Option ℕ)
    → IfSome told (Holds x) → ((c : ℕ) → down ≡ Some c → IfSome told (IsTorn (held_count x) x.end p images))
    → (q : List ℕ) → option_map (λ (c : ℕ). p) down ≡ Some q → Told (option_map (first_payloads (held_count x)) told) told (λ ps bytes. WithOrWithout ps q (outcome bytes))
told_torn None x p images down held torn q flies = tt
told_torn (Some bytes) x p images None held torn q flies = absurd cc
told_torn (Some bytes) x p images (Some count) held torn q flies =
    let t = torn count refl in
    subst (λ b. WithOrWithout (first_payloads (held_count x) bytes) b (outcome bytes)) (told_is p q flies) (torn_outcome x p images bytes held t bytes t.reads)

-- and each image of it
pub images_torn : (told : Option (List ℕ)) (x : Points) (p : List ℕ) (images : List ℕ → Type 0) (down : Option ℕ)
    → IfSome told (Holds x) → ((c : ℕ) → down ≡ Some c → IfSome told (IsTorn (held_count x) x.end p images))
    → (q : List ℕ) → option_map (λ (c : ℕ). p) down ≡ Some q → IfSome (option_map (first_payloads (held_count x)) told) (λ ps. (c : List ℕ) → images c → WithOrWithout ps q (outcome c))
images_torn None x p images down held torn q flies = tt
images_torn (Some bytes) x p images down held torn q flies =
    λ c now. torn_images (Some bytes) x p images down held torn (first_payloads (held_count x) bytes) q refl flies (outcome c) (c, now, refl)
