-- A journal of format 1 whose format's gate is written.
use Rattle.std.proofs.Common.{◌≡◌, ◌≢◌, ℕ, ◌+◌, ◌<◌, Bool, true, false, cond, List, [], ◌∷◌, ◌++◌, length, take, drop, get_or, Option, Some, None, refl, sym, ◌∙◌, ap, subst, arith, append_assoc, length-append, take-append-drop}
use Rattle.std.specs.Prelude.{IfSome}
use Rattle.std.specs.Option.{option_map}
use Rattle.std.proofs.lemmas.List.{take_all, take_at, drop_more, get_or_at, length-take-le}
use Rattle.cat_io.specs.Crashes.{put, LeavesOnly, Only, Told, Torn}
use Rattle.cat_io.specs.Steps.{put_torn}
use Rattle.cat_keeper.specs.Moments.{weaker}
use Rattle.cat_journal.specs.declared.points.Points.{Points}
use Rattle.cat_journal.specs.Frames.{form_gate, format_by, header, is_newer, payloads, payloads_in, recovered, spelled, unread, IsAtRest}
use Rattle.cat_journal.specs.Held.{first_payloads, held_count, Holds, IsHeld, IsSafe}
use Rattle.cat_journal.specs.Reading.{OnlyReads}
use Rattle.cat_journal.specs.AtRest.{recovered-at_rest, split_at_gate}
use Rattle.cat_journal.proofs.Torn.{before_inside, put_inside}
use Rattle.cat_journal.proofs.Unread.{either_format}

older_by : (b : Bool) → ◌≡◌ {A = ℕ} (cond b 2 1) 1 → b ≡ false
older_by true e = absurd (omega (arith, e))
older_by false e = refl

one_of : (b : Bool) → (◌≡◌ {A = ℕ} (cond b 2 1) 2 → ⊥) → ◌≡◌ {A = ℕ} (cond b 2 1) 1
one_of true other = absurd (other refl)
one_of false other = refl

-- the payloads are at rest whatever the gate's byte is
pub at_rest_torn : (ps : List (List ℕ)) (gate : ℕ) (old c : List ℕ) → IsAtRest (form_gate old) ps gate old → format_by (form_gate old) ≡ 1 → Torn 15 1 old c → IsAtRest (form_gate c) ps gate c
at_rest_torn ps gate old c rest one torn =
    let k = get_or old gate 0 in
    let behind = spelled ps ++ k ∷ drop (gate + 1) old in
    let split : old ≡ header (form_gate old) ++ behind = split_at_gate (form_gate old) ps gate old rest.front rest.there in
    let front : take 15 c ≡ take 15 (header 0) = before_inside 15 1 old c (omega (arith, rest.there, rest.size)) torn ∙ ap (λ (l : List ℕ). take 15 l) split in
    let back : drop 16 c ≡ behind = torn.after ∙ ap (λ (l : List ℕ). drop 16 l) split in
    let whole : c ≡ header (form_gate c) ++ behind =
    sym (take-append-drop 15 c)
    ∙ ap (λ (l : List ℕ). take 15 c ++ l) (drop_more c 15 0 (omega (arith, torn.no_shorter, rest.there, rest.size)))
    ∙ ap (λ (l : List ℕ). l ++ form_gate c ∷ drop 16 c) front
    ∙ ap (λ (l : List ℕ). header (form_gate c) ++ l) back in
    let all : c ≡ (header (form_gate c) ++ spelled ps) ++ k ∷ drop (gate + 1) old = whole ∙ sym (append_assoc (header (form_gate c)) (spelled ps) (k ∷ drop (gate + 1) old)) in
    let long : length (header (form_gate c) ++ spelled ps) ≡ gate = omega (arith, length-append (header (form_gate c)) (spelled ps), rest.size) in
    let same : get_or c gate 0 ≡ k = ap (λ (l : List ℕ). get_or l gate 0) all ∙ get_or_at (header (form_gate c) ++ spelled ps) k (drop (gate + 1) old) 0 gate long in
    let none : unread false ps ≡ None = ap (λ b. unread b ps) (sym (older_by (is_newer (form_gate old)) one)) ∙ rest.read in
    record {
      front = ap (λ (l : List ℕ). take gate l) all ∙ take_at (header (form_gate c) ++ spelled ps) (k ∷ drop (gate + 1) old) gate long;
      size = rest.size;
      there = omega (arith, torn.no_shorter, rest.there);
      closed = λ is_open. rest.closed (sym same ∙ is_open);
      framed = rest.framed;
      read = either_format (is_newer (form_gate c)) ps none;
    }

pub same_torn : (n gate : ℕ) (images : List ℕ → Type 0) (old c : List ℕ) → IsSafe n gate images old → format_by (form_gate old) ≡ 1 → Torn 15 1 old c → recovered c ≡ recovered old
same_torn n gate images old c safe one torn =
    recovered-at_rest (form_gate c) (payloads old) gate c (at_rest_torn (payloads old) gate old c safe.rest one torn) ∙ sym (recovered-at_rest (form_gate old) (payloads old) gate old safe.rest)

-- ---- where the disk may tell its bytes

module _ (x : Points) (format : ℕ) (images images' : List ℕ → Type 0) (older : format ≢ 2) where
  is_one : (b : List ℕ) → format_by (form_gate b) ≡ format → format_by (form_gate b) ≡ 1
  is_one b formed = one_of (is_newer (form_gate b)) (λ e. older (sym formed ∙ e))

  abbrev Written : List ℕ → List ℕ → Type 0
  Written old new = new ≡ put 15 (1 ∷ []) old

  torn : (old new : List ℕ) → Written old new → Torn 15 1 old new
  torn old new is = subst (λ l. Torn 15 1 old l) (sym is) (put_torn 15 (1 ∷ []) old)

  gate_is : (old new : List ℕ) → 15 < length old → Written old new → form_gate new ≡ 1
  gate_is old new long is =
      let behind = drop (15 + length {A = ℕ} (1 ∷ [])) old in
      ap (λ (l : List ℕ). get_or l 15 0) (is ∙ put_inside 15 (1 ∷ []) old (omega (arith, long)) ∙ append_assoc (take 15 old) (1 ∷ []) behind)
      ∙ get_or_at (take 15 old) 1 behind 0 15 (length-take-le 15 old (omega (arith, long)))

  same_payloads : (old new : List ℕ) → IsSafe (held_count x) x.end images old → format_by (form_gate old) ≡ format → Written old new → payloads new ≡ payloads old
  same_payloads old new safe formed is = ap payloads_in (same_torn (held_count x) x.end images old new safe (is_one old formed) (torn old new is))

  migrated_at : (old new : List ℕ) → IsSafe (held_count x) x.end images old → format_by (form_gate old) ≡ format → Written old new → IsAtRest (form_gate new) (payloads new) x.end new
  migrated_at old new safe formed is =
      subst (λ ps. IsAtRest (form_gate new) ps x.end new) (sym (same_payloads old new safe formed is)) (at_rest_torn (payloads old) x.end old new safe.rest (is_one old formed) (torn old new is))

  held_at : (old new : List ℕ) → Holds x old → IsSafe (held_count x) x.end images old → format_by (form_gate old) ≡ format → Written old new → Holds x new
  held_at old new held safe formed is =
      let n = held_count x in
      let was : first_payloads n old ≡ payloads old = take_all n (payloads old) (omega (arith, safe.count)) in
      let same = same_payloads old new safe formed is in
      let before : IsHeld (form_gate old) (payloads old) x old = subst (λ ps. IsHeld (form_gate old) ps x old) was held in
      let rest = at_rest_torn (payloads old) x.end old new safe.rest (is_one old formed) (torn old new is) in
      let after : IsHeld (form_gate new) (payloads old) x new = record {
        front = rest.front;
        size = rest.size;
        there = rest.there;
        framed = rest.framed;
        read = rest.read;
        before = before.before;
        first = before.first;
        placed = before.placed;
      } in
      subst (λ ps. IsHeld (form_gate new) ps x new) (sym (ap (λ (ps : List (List ℕ)). take n ps) same ∙ was)) after

  safe_at : (old new : List ℕ) → IsSafe (held_count x) x.end images old → format_by (form_gate old) ≡ format → Written old new → ((c : List ℕ) → images' c → c ≡ new) → IsSafe (held_count x) x.end images' new
  safe_at old new safe formed is only = record { rest = migrated_at old new safe formed is; count = ap length (same_payloads old new safe formed is) ∙ safe.count; only = only }

  module _ (told told' : Option (List ℕ)) (held : IfSome told (Holds x)) (safe : IfSome told (IsSafe (held_count x) x.end images)) (formed : IfSome told (λ b. format_by (form_gate b) ≡ format)) where
    pub formed_newer : Told told told' Written → IfSome told' (λ b. format_by (form_gate b) ≡ 2)
    formed_newer written = by told told' safe written
      where
        by : (t t' : Option (List ℕ)) → IfSome t (IsSafe (held_count x) x.end images) → Told t t' Written → IfSome t' (λ b. format_by (form_gate b) ≡ 2)
        by None None safe written = tt
        by None (Some b) safe written = absurd written
        by (Some a) None safe written = absurd written
        by (Some a) (Some b) safe written = ap format_by (gate_is a b (omega (arith, safe.rest.there, safe.rest.size)) written)

    pub held_newer : Told told told' Written → IfSome told' (Holds x)
    held_newer written = by told told' held safe formed written
      where
        by : (t t' : Option (List ℕ)) → IfSome t (Holds x) → IfSome t (IsSafe (held_count x) x.end images) → IfSome t (λ b. format_by (form_gate b) ≡ format) → Told t t' Written → IfSome t' (Holds x)
        by None None held safe formed written = tt
        by None (Some b) held safe formed written = absurd written
        by (Some a) None held safe formed written = absurd written
        by (Some a) (Some b) held safe formed written = held_at a b held safe formed written

    pub safe_newer : Told told told' Written → Only told' images' → IfSome told' (IsSafe (held_count x) x.end images')
    safe_newer written only = by told told' safe formed written only
      where
        by : (t t' : Option (List ℕ)) → IfSome t (IsSafe (held_count x) x.end images) → IfSome t (λ b. format_by (form_gate b) ≡ format) → Told t t' Written → Only t' images' → IfSome t' (IsSafe (held_count x) x.end images')
        by None None safe formed written only = tt
        by None (Some b) safe formed written only = absurd written
        by (Some a) None safe formed written only = absurd written
        by (Some a) (Some b) safe formed written only = safe_at a b safe formed written only

    pub told_newer : Told told told' Written → Told (option_map (first_payloads (held_count x)) told) (option_map (first_payloads (held_count x)) told') (λ before after. after ≡ before)
    told_newer written = by told told' safe formed written
      where
        by : (t t' : Option (List ℕ)) → IfSome t (IsSafe (held_count x) x.end images) → IfSome t (λ b. format_by (form_gate b) ≡ format) → Told t t' Written
            → Told (option_map (first_payloads (held_count x)) t) (option_map (first_payloads (held_count x)) t') (λ before after. after ≡ before)
        by None None safe formed written = tt
        by None (Some b) safe formed written = absurd written
        by (Some a) None safe formed written = absurd written
        by (Some a) (Some b) safe formed written = ap (λ (ps : List (List ℕ)). take (held_count x) ps) (same_payloads a b safe formed written)

    -- each image of the write
    pub image_newer : (c : List ℕ) → ((d : List ℕ) × images d × Torn 15 1 d c) → IfSome told (λ bytes. recovered c ≡ recovered bytes)
    image_newer c from = by told safe formed
      where
        by : (t : Option (List ℕ)) → IfSome t (IsSafe (held_count x) x.end images) → IfSome t (λ b. format_by (form_gate b) ≡ format) → IfSome t (λ bytes. recovered c ≡ recovered bytes)
        by None safe formed = tt
        by (Some a) safe formed = same_torn (held_count x) x.end images a c safe (is_one a formed) (subst (λ d. Torn 15 1 d c) (safe.only from.0 from.1) from.2)

-- what holds of each image, where the bytes are told
pub told_images : {D : Type 0} (moment : D → ℕ) (left_since : D → ℕ → List ℕ → Type 0) (told : Option (List ℕ)) (old new : D) (Q : List ℕ → Type 0) → LeavesOnly moment left_since old new Q
    → ((c : List ℕ) → Q c → IfSome told (λ bytes. recovered c ≡ recovered bytes)) → IfSome told (λ bytes. LeavesOnly moment left_since old new (λ c. recovered c ≡ recovered bytes))
told_images moment left_since None old new Q run here = tt
told_images moment left_since (Some bytes) old new Q run here = weaker moment left_since old new Q (λ c. recovered c ≡ recovered bytes) run here

-- and of the bytes that are read
pub told_stands : (told told' : Option (List ℕ)) (R : List ℕ → List ℕ → Type 0) → Told told told' R → ((c : List ℕ) → told' ≡ Some c → IfSome told (λ bytes. recovered c ≡ recovered bytes)) → Told told told' (λ before after. recovered after ≡ recovered before)
told_stands None None R stays image = tt
told_stands None (Some b) R stays image = absurd stays
told_stands (Some a) None R stays image = absurd stays
told_stands (Some a) (Some b) R stays image = image b refl

-- ---- a journal that isn't opened

-- its disk was only read, where it had bytes
pub unwritten_by : {D : Type 0} (told : D → Option (List ℕ)) (may_leave : D → List ℕ → Type 0) (moment : D → ℕ) (left_since : D → ℕ → List ℕ → Type 0) (old new : D) (t : Option (List ℕ))
    → IfSome t (λ bytes. 0 < length bytes → OnlyReads told may_leave moment left_since old new) → IfSome t (λ bytes. 0 < length bytes → Told (told old) (told new) (λ a b. b ≡ a))
unwritten_by told may_leave moment left_since old new None reads = tt
unwritten_by told may_leave moment left_since old new (Some bytes) reads = λ some. (reads some).same

-- and so stands for what it did
pub unopened_stands : (told told' : Option (List ℕ)) (R : List ℕ → List ℕ → Type 0) → Told told told' R → IfSome told (λ bytes. 0 < length bytes → Told told told' (λ a b. b ≡ a))
    → Told told told' (λ before after. 0 < length before → recovered after ≡ recovered before)
unopened_stands None None R either same = tt
unopened_stands None (Some b) R either same = absurd either
unopened_stands (Some a) None R either same = absurd either
unopened_stands (Some a) (Some b) R either same = λ some. ap recovered (same some)
