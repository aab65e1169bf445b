-- What stands behind the gates of payloads that are held.
use Rattle.std.proofs.Common.{◌≡◌, ℕ, zero, suc, ◌-◌, ◌^◌, ◌<◌, inl, inr, Bool, true, false, List, [], ◌++◌, length, map, drop, get_or, Option, Some, None, refl, sym, ◌∙◌, ap, subst, arith, append_assoc, length-drop, take-append-drop}
use Rattle.std.specs.List.{All}
use Rattle.std.specs.Prelude.{IfSome}
use Rattle.std.specs.Option.{option_map}
use Rattle.std.proofs.lemmas.List.{drop-map, get_or-map}
use Rattle.std.proofs.lemmas.List.Elements.{All-drop, All-get_or}
use Rattle.cat_frames.specs.CheckpointLaws.{is_whole_checkpoint}
use Rattle.cat_keeper.specs.Bases.{at_end, base_of, base_place, entries_of}
use Rattle.cat_journal.specs.declared.points.Points.{Points}
use Rattle.cat_journal.specs.Frames.{header, form_gate, starts_of, spelled}
use Rattle.cat_journal.specs.Held.{ArePlaced, first_payloads, held_count, Holds, IsHeld}
use Rattle.cat_journal.specs.Reading.{HasFrame, IsBaseRead, IsPayloadAt, IsWalked, payload_at}
use Rattle.cat_journal.proofs.Appended.{length-starts}
use Rattle.cat_journal.proofs.Places.{AreThere, are_there}

module _ (ps : List (List ℕ)) (x : Points) (bytes : List ℕ) (there : AreThere ps 16 bytes) (placed : ArePlaced ps x) where
  pub gates_framed : All (HasFrame bytes) x.gates.items
  gates_framed = subst (λ l. All (HasFrame bytes) l) (sym placed.gates) (All-drop (HasFrame bytes) x.before (starts_of 16 ps) there.frames)

  pub entries_there : map (payload_at bytes) x.gates.items ≡ drop x.before ps
  entries_there = ap (map (payload_at bytes)) placed.gates ∙ sym (drop-map (payload_at bytes) x.before (starts_of 16 ps)) ∙ ap (λ (l : List (List ℕ)). drop x.before l) there.payloads

  inside : 0 < x.before → x.before - 1 < length (starts_of 16 ps)
  inside some = omega (arith, some, placed.count, length-starts 16 ps)

  pub base_framed : 0 < x.before → HasFrame bytes x.base
  base_framed some = subst (HasFrame bytes) (sym (placed.base some)) (All-get_or (HasFrame bytes) (starts_of 16 ps) (x.before - 1) 0 (inside some) there.frames)

  pub base_there : 0 < x.before → payload_at bytes x.base ≡ get_or ps (x.before - 1) []
  base_there some =
      ap (payload_at bytes) (placed.base some)
      ∙ sym (get_or-map (payload_at bytes) (starts_of 16 ps) (x.before - 1) 0 [] (inside some))
      ∙ ap (λ (l : List (List ℕ)). get_or l (x.before - 1) []) there.payloads

pub there_walked : (g : ℕ) (ps : List (List ℕ)) (x : Points) (bytes : List ℕ) → x.end < 2 ^ 64 → IsWalked g ps x bytes → AreThere ps 16 bytes
there_walked g ps x bytes fits w =
    are_there ps 16 (header g) (drop x.end bytes) bytes (sym (take-append-drop x.end bytes) ∙ ap (λ (l : List ℕ). l ++ drop x.end bytes) w.front ∙ append_assoc (header g) (spelled ps) (drop x.end bytes)) refl w.framed (omega (arith, length-drop x.end bytes, w.there)) (omega (arith, fits, w.size))

there_held : (g : ℕ) (ps : List (List ℕ)) (x : Points) (bytes : List ℕ) → x.end < 2 ^ 64 → IsHeld g ps x bytes → AreThere ps 16 bytes
there_held g ps x bytes fits w =
    are_there ps 16 (header g) (drop x.end bytes) bytes (sym (take-append-drop x.end bytes) ∙ ap (λ (l : List ℕ). l ++ drop x.end bytes) w.front ∙ append_assoc (header g) (spelled ps) (drop x.end bytes)) refl w.framed (omega (arith, length-drop x.end bytes, w.there)) (omega (arith, fits, w.size))

-- an entry that is held
pub entry_value : (t : Option (List ℕ)) (x : Points) (i at : ℕ) (found : List ℕ) → x.end < 2 ^ 64 → IfSome t (Holds x) → i < length x.gates.items → at ≡ get_or x.gates.items i 0
    → IfSome t (IsPayloadAt at found) → IfSome (option_map (first_payloads (held_count x)) t) (λ ps. found ≡ get_or (entries_of ps) i [])
entry_value None x i at found fits held lt is value = tt
entry_value (Some b) x i at found fits held lt is value =
    let ps = first_payloads (held_count x) b in
    let there = there_held (form_gate b) ps x b fits held in
    let framed : HasFrame b at = subst (HasFrame b) (sym is) (All-get_or (HasFrame b) x.gates.items i 0 lt (gates_framed ps x b there held.placed)) in
    value framed
    ∙ ap (payload_at b) is
    ∙ sym (get_or-map (payload_at b) x.gates.items i 0 [] lt)
    ∙ ap (λ (l : List (List ℕ)). get_or l i []) (entries_there ps x b there held.placed)
    ∙ ap (λ (n : ℕ). get_or (drop n ps) i []) (sym held.before)

base_at : (ps : List (List ℕ)) (n : ℕ) → 0 < n → at_end ps n ≡ Some (get_or ps (n - 1) [])
base_at ps zero some = absurd (omega (arith, some))
base_at ps (suc n) some = let m : n ≡ suc n - 1 = omega arith in ap (λ (k : ℕ). Some (get_or ps k [])) m

-- the base that is held
pub base_value : (t : Option (List ℕ)) (x : Points) (found : List ℕ) → x.end < 2 ^ 64 → IfSome t (Holds x) → 0 < x.before → IfSome t (IsPayloadAt x.base found)
    → IfSome (option_map (first_payloads (held_count x)) t) (λ ps. Some found ≡ base_of ps)
base_value None x found fits held some value = tt
base_value (Some b) x found fits held some value =
    let ps = first_payloads (held_count x) b in
    let there = there_held (form_gate b) ps x b fits held in
    ap (λ (l : List ℕ). Some l) (value (base_framed ps x b there held.placed some) ∙ base_there ps x b there held.placed some)
    ∙ sym (base_at ps x.before some) ∙ ap (at_end ps) (sym held.before)

pub no_base_value : (t : Option (List ℕ)) (x : Points) → IfSome t (Holds x) → x.before ≡ 0 → IfSome (option_map (first_payloads (held_count x)) t) (λ ps. None ≡ base_of ps)
no_base_value None x held none = tt
no_base_value (Some b) x held none = sym (ap (at_end (first_payloads (held_count x) b)) (held.before ∙ none))

-- ---- the base is read

pub no_base_read : (t : Option (List ℕ)) (x : Points) → x.before ≡ 0 → IfSome t (λ bytes. (0 < x.before → HasFrame bytes x.base) → IsBaseRead x bytes 0)
no_base_read None x none = tt
no_base_read (Some bytes) x none = λ framed. inl (none, refl)

module _ (x : Points) (payload : List ℕ) (some : 0 < x.before) (b : Bool) (is : b ≡ is_whole_checkpoint payload) where
  pub base_read : (t : Option (List ℕ)) (first : ℕ) → IfSome t (IsPayloadAt x.base payload) → b ≡ true → first ≡ base_place payload → IfSome t (λ bytes. (0 < x.before → HasFrame bytes x.base) → IsBaseRead x bytes first)
  base_read None first value true_is place = tt
  base_read (Some bytes) first value true_is place = λ framed.
      let same = value (framed some) in
      inr (some, ap is_whole_checkpoint (sym same) ∙ sym is ∙ true_is, place ∙ ap base_place same)

  pub base_not_read : (t : Option (List ℕ)) → IfSome t (IsPayloadAt x.base payload) → b ≡ false → IfSome t (λ bytes. (0 < x.before → HasFrame bytes x.base) → (0 < x.before) × (x.base ≡ x.base) × (is_whole_checkpoint (payload_at bytes x.base) ≡ false))
  base_not_read None value false_is = tt
  base_not_read (Some bytes) value false_is = λ framed. (some, refl, ap is_whole_checkpoint (sym (value (framed some))) ∙ sym is ∙ false_is)
