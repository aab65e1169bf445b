-- What a journal's bytes stand for, by what was read of them.
use Rattle.std.proofs.Common.{◌≡◌, ◌≢◌, ℕ, zero, suc, ◌+◌, ◌-◌, ◌^◌, ◌<◌, ⊎_elim, Bool, true, false, List, [], ◌∷◌, ◌++◌, length, map, drop, get_or, Err, Option, Some, None, refl, sym, ◌∙◌, ap, subst, arith}
use Rattle.std.specs.List.{All}
use Rattle.std.specs.Prelude.{IfSome}
use Rattle.std.specs.Option.{option_map}
use Rattle.std.proofs.lemmas.List.{append-nil, get_or-drop}
use Rattle.cat_io.specs.Crashes.{Told}
use Rattle.cat_frames.specs.CheckpointLaws.{is_whole_checkpoint}
use Rattle.cat_keeper.specs.Bases.{at_end, base_end, base_place, place_in}
use Rattle.cat_journal.specs.declared.fault.OpenFault.{OpenFault}
use Rattle.cat_journal.specs.declared.fault.OpenFault.TheVariants.{Damaged}
use Rattle.cat_journal.specs.declared.fault.OpenFault.TheVariants as faults
use Rattle.cat_journal.specs.declared.points.Points.{Points}
use Rattle.cat_journal.specs.Frames.{form_gate, is_newer, max_entries, is_framed, Walked, in_front, ended, broken_at, walk, or_else, unread_base, unread_from, unread_in, unread, starts_of, damaged_at, settled, recovered, payloads, payloads_in, spelled, IsAtRest}
use Rattle.cat_journal.specs.Held.{IsHeld}
use Rattle.cat_journal.specs.Reading.{HasFrame, IsBaseFault, IsBaseRead, IsEntryFault, IsFaultOf, IsNoDamage, IsWalked, WalkEndsAt, payload_at, unread_at}
use Rattle.cat_journal.specs.AtRest.{split_at_gate, recovered-front, recovered-at_rest, closed}
use Rattle.cat_journal.proofs.ReadOnly.{as_before}
use Rattle.cat_journal.proofs.Gates.{base_framed, base_there, entries_there, gates_framed, there_walked}
use Rattle.cat_journal.proofs.Walking.{Walks}
use Rattle.cat_journal.proofs.Places.{AreThere}
use Rattle.cat_journal.proofs.Unread.{skipped_is, unread_after}

module _ (g : ℕ) (ps : List (List ℕ)) (x : Points) (bytes : List ℕ) (fits : x.end < 2 ^ 64) (w : IsWalked g ps x bytes) where
  abbrev newer : Bool
  newer = is_newer g

  there : AreThere ps 16 bytes
  there = there_walked g ps x bytes fits w

  abbrev stop : Bool → Walked
  stop false = ended
  stop true = broken_at x.end

  broken-walk : (room at : ℕ) (rest : List ℕ) → is_framed rest ≡ false → walk (suc room) at (1 ∷ rest) ≡ broken_at at
  unfolding walk
  broken-walk room at rest none = rw none refl

  -- the walk, by how it ends
  stops : (b : Bool) → WalkEndsAt x.end b bytes → (room : ℕ) → walk (suc room) (16 + length (spelled ps)) (get_or bytes x.end 0 ∷ drop (x.end + 1) bytes) ≡ stop b
  stops false shut room = closed (suc room) (16 + length (spelled ps)) (get_or bytes x.end 0) (drop (x.end + 1) bytes) shut
  stops true torn room =
      ap (λ (k : ℕ). walk (suc room) (16 + length (spelled ps)) (k ∷ drop (x.end + 1) bytes)) torn.0
      ∙ broken-walk room (16 + length (spelled ps)) (drop (x.end + 1) bytes) torn.1
      ∙ ap broken_at (sym w.size)

  found_none : (b : Bool) → (stop b).found ≡ []
  found_none true = refl
  found_none false = refl

  abbrev offset : ℕ → ℕ
  offset i = get_or (starts_of 16 ps) i 0

  recovers_by : (b : Bool) → WalkEndsAt x.end b bytes → (o : Option ℕ) → unread newer ps ≡ o → recovered bytes ≡ damaged_at ps (or_else (option_map offset o) (stop b).broken)
  recovers_by b ends o read =
      let front = recovered-front g ps (get_or bytes x.end 0 ∷ drop (x.end + 1) bytes) w.framed (omega arith) in
      ap recovered (split_at_gate g ps x.end bytes w.front w.there) ∙ front.1
      ∙ ap (λ (v : Walked). settled newer (in_front ps v)) (stops b ends (suc front.0))
      ∙ ap (λ (l : List (List ℕ)). damaged_at l (or_else (option_map (λ i. get_or (starts_of 16 l) i 0) (unread newer l)) (stop b).broken)) (ap (λ (l : List (List ℕ)). ps ++ l) (found_none b) ∙ append-nil ps)
      ∙ ap (λ (u : Option ℕ). damaged_at ps (or_else (option_map offset u) (stop b).broken)) read

  -- the base and the entries, by their bytes
  base_bytes : (n : ℕ) → x.before ≡ suc n → payload_at bytes x.base ≡ get_or ps n []
  base_bytes n is =
      let m : x.before - 1 ≡ n = omega (arith, is) in
      base_there ps x bytes there w.placed (omega (arith, is)) ∙ ap (λ (k : ℕ). get_or ps k []) m

  base_none : (first n : ℕ) → x.before ≡ n → IsBaseRead x bytes first → unread_base ps n ≡ None
  base_none first zero is read = refl
  base_none first (suc n) is read =
      let whole : is_whole_checkpoint (get_or ps n []) ≡ true =
      ⊎_elim (λ none. absurd (omega (arith, none.0, is))) (λ some. ap is_whole_checkpoint (sym (base_bytes n is)) ∙ some.1) read in
      rw whole refl

  entries_are : (o : Option ℕ) → unread_at x.gates.items bytes ≡ o → unread_from x.before (drop x.before ps) max_entries ≡ option_map (λ k. x.before + k) o
  entries_are o read =
      ap (λ l. unread_from x.before l max_entries) (sym (entries_there ps x bytes there w.placed))
      ∙ unread_after x.before max_entries (map (payload_at bytes) x.gates.items)
      ∙ ap (option_map (λ k. x.before + k)) read

  unread_is : (b o : Option ℕ) → unread_base ps x.before ≡ b → unread_from x.before (drop x.before ps) max_entries ≡ o → unread newer ps ≡ or_else b o
  unfolding unread
  unread_is b o base entries = ap (unread_in ps) w.before ∙ ap (λ u. or_else u (unread_from x.before (drop x.before ps) max_entries)) base ∙ ap (or_else b) entries

  all_read : (first : ℕ) → IsBaseRead x bytes first → unread_at x.gates.items bytes ≡ None → unread newer ps ≡ None
  all_read first base entries = unread_is None None (base_none first x.before refl base) (entries_are None entries)

  first_is : (first n : ℕ) → x.before ≡ n → IsBaseRead x bytes first → place_in (at_end ps n) ≡ first
  first_is first zero is read = ⊎_elim (λ none. sym none.1) (λ some. absurd (omega (arith, some.0, is))) read
  first_is first (suc n) is read = ⊎_elim (λ none. absurd (omega (arith, none.0, is))) (λ some. ap base_place (sym (base_bytes n is)) ∙ sym some.2) read

  -- all have readings, and a closed gate stands behind them
  whole : (y : Points) → y ≡ record x { first = y.first } → IsBaseRead x bytes y.first → unread_at x.gates.items bytes ≡ None → get_or bytes x.end 0 ≢ 1
      → IsHeld g (payloads bytes) y bytes × IsAtRest g (payloads bytes) y.end bytes
  whole y is base entries shut =
      let read = all_read y.first base entries in
      let rest : IsAtRest g ps x.end bytes = record { front = w.front; size = w.size; there = w.there; closed = shut; framed = w.framed; read = read } in
      let same : payloads bytes ≡ ps = ap payloads_in (recovered-at_rest g ps x.end bytes rest) in
      let before : base_end ps ≡ x.before = sym (skipped_is newer ps read) ∙ w.before in
      let held : IsHeld g ps (record x { first = y.first }) bytes = record {
        front = w.front;
        size = w.size;
        there = w.there;
        framed = w.framed;
        read = read;
        before = before;
        first = ap (λ n. place_in (at_end ps n)) before ∙ first_is y.first x.before refl base;
        placed = record { base = w.placed.base; gates = w.placed.gates; count = w.placed.count };
      } in
      (subst (λ qs. IsHeld g qs y bytes) (sym same) (subst (λ z. IsHeld g ps z bytes) (sym is) held), subst (λ qs. IsAtRest g qs y.end bytes) (sym same) (subst (λ z. IsAtRest g ps z.end bytes) (sym is) rest))

  -- an open gate without a frame
  torn_end : (first : ℕ) → IsBaseRead x bytes first → unread_at x.gates.items bytes ≡ None → WalkEndsAt x.end true bytes → recovered bytes ≡ Err (Damaged x.end)
  torn_end first base entries ends = recovers_by true ends None (all_read first base entries)

  -- a base without a reading
  base_fault : (b : Bool) → WalkEndsAt x.end b bytes → (fault : OpenFault) → IsBaseFault x bytes fault → IsFaultOf bytes fault
  base_fault b ends faults.Fault found = tt
  base_fault b ends faults.NoMemory found = tt
  base_fault b ends (faults.Version n) found = absurd found
  base_fault b ends (faults.Damaged o) found = by x.before refl
    where
      by : (n : ℕ) → x.before ≡ n → recovered bytes ≡ Err (Damaged o)
      by zero is = absurd (omega (arith, found.0, is))
      by (suc n) is =
          let none : is_whole_checkpoint (get_or ps n []) ≡ false = ap is_whole_checkpoint (sym (base_bytes n is)) ∙ found.2 in
          let base : unread_base ps x.before ≡ Some n = ap (unread_base ps) is ∙ rw none refl in
          let m : x.before - 1 ≡ n = omega (arith, is) in
          let at : offset n ≡ o = ap offset (sym m) ∙ sym (w.placed.base found.0) ∙ sym found.1 in
          recovers_by b ends (Some n) (unread_is (Some n) _ base refl) ∙ ap (λ (k : ℕ). Err (Damaged k)) at

  -- an entry without one, or one too many
  entry_fault : (first : ℕ) → IsBaseRead x bytes first → (b : Bool) → WalkEndsAt x.end b bytes → (fault : OpenFault) → IsEntryFault x.gates.items bytes fault → IsFaultOf bytes fault
  entry_fault first base b ends faults.Fault found = tt
  entry_fault first base b ends faults.NoMemory found = tt
  entry_fault first base b ends (faults.Version n) found = absurd found
  entry_fault first base b ends (faults.Damaged o) found =
      let i = found.0 in
      let at : offset (x.before + i) ≡ o = sym (get_or-drop x.before (starts_of 16 ps) i 0) ∙ ap (λ (l : List ℕ). get_or l i 0) (sym w.placed.gates) ∙ sym found.2 in
      recovers_by b ends (Some (x.before + i)) (unread_is None (Some (x.before + i)) (base_none first x.before refl base) (entries_are (Some i) found.1)) ∙ ap (λ (k : ℕ). Err (Damaged k)) at

pub no_damage : (bytes : List ℕ) (fault : OpenFault) → IsNoDamage fault → IsFaultOf bytes fault
no_damage bytes faults.Fault none = tt
no_damage bytes faults.NoMemory none = tt
no_damage bytes (faults.Version n) none = absurd none
no_damage bytes (faults.Damaged o) none = absurd none

pub no_damage_found : (t : Option (List ℕ)) (fault : OpenFault) → IsNoDamage fault → IfSome t (λ bytes. IsFaultOf bytes fault)
no_damage_found None e none = tt
no_damage_found (Some bytes) e none = no_damage bytes e none

-- ---- where the disk may tell its bytes

module _ (newer : Bool) (x : Points) (b : Bool) (fits : x.end < 2 ^ 64) where
  framed_base : (bytes : List ℕ) → Walks newer x b bytes → 0 < x.before → HasFrame bytes x.base
  framed_base bytes walks some = base_framed walks.0.1.0 x bytes (there_walked (form_gate bytes) walks.0.1.0 x bytes fits walks.0.1.1) walks.0.1.1.placed some

  framed_gates : (bytes : List ℕ) → Walks newer x b bytes → All (HasFrame bytes) x.gates.items
  framed_gates bytes walks = gates_framed walks.0.1.0 x bytes (there_walked (form_gate bytes) walks.0.1.0 x bytes fits walks.0.1.1) walks.0.1.1.placed

  pub base_fault_found : (t t' : Option (List ℕ)) → Told t t' (λ a b. b ≡ a) → IfSome t (Walks newer x b) → (fault : OpenFault)
      → IfSome t' (λ bytes. (0 < x.before → HasFrame bytes x.base) → IsBaseFault x bytes fault) → IfSome t (λ bytes. IsFaultOf bytes fault)
  base_fault_found t t' same walks fault found = at_told t walks (as_before t t' _ same found)
    where
      at_told : (t : Option (List ℕ)) → IfSome t (Walks newer x b) → IfSome t (λ bytes. (0 < x.before → HasFrame bytes x.base) → IsBaseFault x bytes fault) → IfSome t (λ bytes. IsFaultOf bytes fault)
      at_told None walks found = tt
      at_told (Some bytes) walks found = base_fault (form_gate bytes) walks.0.1.0 x bytes fits walks.0.1.1 b walks.1 fault (found (framed_base bytes walks))

  module _ (first : ℕ) (t t' t'' : Option (List ℕ)) (same : Told t t' (λ a b. b ≡ a)) (same' : Told t t'' (λ a b. b ≡ a)) (walks : IfSome t (Walks newer x b))
      (base : IfSome t' (λ bytes. (0 < x.before → HasFrame bytes x.base) → IsBaseRead x bytes first)) where
    pub entry_fault_found : (fault : OpenFault) → IfSome t'' (λ bytes. All (HasFrame bytes) x.gates.items → IsEntryFault x.gates.items bytes fault) → IfSome t (λ bytes. IsFaultOf bytes fault)
    entry_fault_found fault found = at_told t walks (as_before t t' _ same base) (as_before t t'' _ same' found)
      where
        at_told : (t : Option (List ℕ)) → IfSome t (Walks newer x b) → IfSome t (λ bytes. (0 < x.before → HasFrame bytes x.base) → IsBaseRead x bytes first) → IfSome t (λ bytes. All (HasFrame bytes) x.gates.items → IsEntryFault x.gates.items bytes fault) → IfSome t (λ bytes. IsFaultOf bytes fault)
        at_told None walks base found = tt
        at_told (Some bytes) walks base found =
            entry_fault (form_gate bytes) walks.0.1.0 x bytes fits walks.0.1.1 first (base (framed_base bytes walks)) b walks.1 fault (found (framed_gates bytes walks))

    pub torn_found : b ≡ true → IfSome t'' (λ bytes. All (HasFrame bytes) x.gates.items → unread_at x.gates.items bytes ≡ None) → IfSome t (λ bytes. recovered bytes ≡ Err (Damaged x.end))
    torn_found torn found = at_told t walks (as_before t t' _ same base) (as_before t t'' _ same' found)
      where
        at_told : (t : Option (List ℕ)) → IfSome t (Walks newer x b) → IfSome t (λ bytes. (0 < x.before → HasFrame bytes x.base) → IsBaseRead x bytes first) → IfSome t (λ bytes. All (HasFrame bytes) x.gates.items → unread_at x.gates.items bytes ≡ None) → IfSome t (λ bytes. recovered bytes ≡ Err (Damaged x.end))
        at_told None walks base found = tt
        at_told (Some bytes) walks base found =
            torn_end (form_gate bytes) walks.0.1.0 x bytes fits walks.0.1.1 first (base (framed_base bytes walks)) (found (framed_gates bytes walks)) (subst (λ e. WalkEndsAt x.end e bytes) torn walks.1)

    pub whole_found : (y : Points) → y ≡ record x { first = y.first } → y.first ≡ first → b ≡ false → IfSome t'' (λ bytes. All (HasFrame bytes) x.gates.items → unread_at x.gates.items bytes ≡ None)
        → IfSome t (λ bytes. IsHeld (form_gate bytes) (payloads bytes) y bytes × IsAtRest (form_gate bytes) (payloads bytes) y.end bytes)
    whole_found y is first_is shut found = at_told t walks (as_before t t' _ same base) (as_before t t'' _ same' found)
      where
        at_told : (t : Option (List ℕ)) → IfSome t (Walks newer x b) → IfSome t (λ bytes. (0 < x.before → HasFrame bytes x.base) → IsBaseRead x bytes first) → IfSome t (λ bytes. All (HasFrame bytes) x.gates.items → unread_at x.gates.items bytes ≡ None)
            → IfSome t (λ bytes. IsHeld (form_gate bytes) (payloads bytes) y bytes × IsAtRest (form_gate bytes) (payloads bytes) y.end bytes)
        at_told None walks base found = tt
        at_told (Some bytes) walks base found =
            whole (form_gate bytes) walks.0.1.0 x bytes fits walks.0.1.1 y is (subst (IsBaseRead x bytes) (sym first_is) (base (framed_base bytes walks))) (found (framed_gates bytes walks)) (subst (λ e. WalkEndsAt x.end e bytes) shut walks.1)
