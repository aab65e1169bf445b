-- Which payloads have to have a reading, with one more of them.
use Rattle.std.proofs.Common.{◌≡◌, ℕ, zero, suc, ◌+◌, ◌<◌, ◌≤◌, Bool, true, false, List, [], ◌∷◌, ◌++◌, length, drop, get_or, Option, Some, None, refl, sym, ◌∙◌, ap, arith, length-append}
use Rattle.std.specs.Option.{option_map}
use Rattle.std.proofs.lemmas.List.{drop-append-le, get_or_append_left, get_or_at, drop_all}
use Rattle.cat_frames.specs.CheckpointLaws.{is_whole_checkpoint}
use Rattle.cat_frames.specs.Checkpoints.{is_checkpoint}
use Rattle.cat_frames.specs.Payload.{has_reading}
use Rattle.cat_keeper.specs.Bases.{base_end, base_end-le, end_over, end_with_base, end_with_entry}
use Rattle.cat_keeper.specs.Kinds.{entry_is_no_checkpoint, whole_is_checkpoint}
use Rattle.cat_journal.specs.Frames.{max_entries, or_else, skipped, unread, unread_base, unread_from, unread_in}

-- ---- entries

-- the numbers begin elsewhere
pub unread_shift : (d a room : ℕ) (es : List (List ℕ)) → unread_from (d + a) es room ≡ option_map (λ n. d + n) (unread_from a es room)
unfolding unread_from
unread_shift d a room [] = refl
unread_shift d a zero (p ∷ es) = refl
unread_shift d a (suc room) (p ∷ es) = by_test (has_reading p) refl (unread_shift d (a + 1) room es)
  where
    by_test : (t : Bool) → has_reading p ≡ t → unread_from (d + (a + 1)) es room ≡ option_map (λ n. d + n) (unread_from (a + 1) es room)
        → unread_from (d + a) (p ∷ es) (suc room) ≡ option_map (λ n. d + n) (unread_from a (p ∷ es) (suc room))
    by_test true is later =
        let next : d + a + 1 ≡ d + (a + 1) = omega arith in
        rw is (ap (λ (k : ℕ). unread_from k es room) next ∙ later)
    by_test false is later = rw is refl

pub unread_after : (n room : ℕ) (es : List (List ℕ)) → unread_from n es room ≡ option_map (λ k. n + k) (unread_from 0 es room)
unread_after n room es = let z : n ≡ n + 0 = omega arith in ap (λ (k : ℕ). unread_from k es room) z ∙ unread_shift n 0 room es

-- one more that has a reading, where there is room
pub unread_more : (room i : ℕ) (es : List (List ℕ)) (p : List ℕ) → unread_from i es room ≡ None → has_reading p ≡ true → length es < room → unread_from i (es ++ p ∷ []) room ≡ None
unfolding unread_from
unread_more zero i es p none reading lt = absurd (omega (arith, lt))
unread_more (suc room) i [] p none reading lt = rw reading refl
unread_more (suc room) i (q ∷ es) p none reading lt = by_test (has_reading q) refl (λ rest. unread_more room (i + 1) es p rest reading (omega (arith, lt)))
  where
    by_test : (t : Bool) → has_reading q ≡ t → (unread_from (i + 1) es room ≡ None → unread_from (i + 1) (es ++ p ∷ []) room ≡ None) → unread_from i (q ∷ (es ++ p ∷ [])) (suc room) ≡ None
    by_test true is later = rw is (later (rw is at none))
    by_test false is later = absurd (let no : Some i ≡ None = rw is at none in cc)

-- all that are read have readings
pub all_read_parts : (room i : ℕ) (p : List ℕ) (es : List (List ℕ)) → unread_from i (p ∷ es) room ≡ None → (m : ℕ) × (room ≡ suc m) × (has_reading p ≡ true) × (unread_from (i + 1) es m ≡ None)
unfolding unread_from
all_read_parts zero i p es none = absurd cc
all_read_parts (suc room) i p es none = by_test (has_reading p) refl
  where
    by_test : (t : Bool) → has_reading p ≡ t → (m : ℕ) × (suc room ≡ suc m) × (has_reading p ≡ true) × (unread_from (i + 1) es m ≡ None)
    by_test true is = (room, refl, is, rw is at none)
    by_test false is = absurd (let no : Some i ≡ None = rw is at none in cc)

no_base_in : (room i : ℕ) (es : List (List ℕ)) → unread_from i es room ≡ None → base_end es ≡ 0
no_base_in room i [] none = refl
no_base_in room i (p ∷ es) none =
    let parts = all_read_parts room i p es none in
    ap (end_over (is_checkpoint p)) (no_base_in parts.0 (i + 1) es parts.3) ∙ ap (λ t. end_over t 0) (entry_is_no_checkpoint p parts.2)

-- ---- all

none_of_both : (x y : Option ℕ) → or_else x y ≡ None → (x ≡ None) × (y ≡ None)
none_of_both None y none = (refl, none)
none_of_both (Some n) y none = absurd cc

both_none : (x y : Option ℕ) → x ≡ None → y ≡ None → or_else x y ≡ None
both_none x y a b = ap (λ o. or_else o y) a ∙ b

pub unread_parts : (newer : Bool) (ps : List (List ℕ)) → unread newer ps ≡ None → (unread_base ps (skipped newer ps) ≡ None) × (unread_from (skipped newer ps) (drop (skipped newer ps) ps) max_entries ≡ None)
unfolding unread
unread_parts newer ps none = none_of_both _ _ none

-- where all are read in format 1, there is no base, and so they are in format 2
pub no_base_before : (ps : List (List ℕ)) → unread false ps ≡ None → base_end ps ≡ 0
no_base_before ps none = no_base_in max_entries 0 ps (unread_parts false ps none).1

pub newer_alike : (ps : List (List ℕ)) → unread false ps ≡ None → unread true ps ≡ None
unfolding unread
newer_alike ps none = ap (λ n. unread_in ps n) (no_base_before ps none) ∙ none

pub either_format : (newer : Bool) (ps : List (List ℕ)) → unread false ps ≡ None → unread newer ps ≡ None
either_format true ps none = newer_alike ps none
either_format false ps none = none

-- what isn't given as entries, by what may be read
pub skipped_is : (newer : Bool) (ps : List (List ℕ)) → unread newer ps ≡ None → skipped newer ps ≡ base_end ps
skipped_is true ps none = refl
skipped_is false ps none = sym (no_base_before ps none)

-- ---- with one more

same_unread_base : (ps : List (List ℕ)) (p : List ℕ) (n : ℕ) → n ≤ length ps → unread_base (ps ++ p ∷ []) n ≡ unread_base ps n
same_unread_base ps p zero le = refl
same_unread_base ps p (suc n) le = rw (get_or_append_left ps (p ∷ []) [] n (omega (arith, le))) refl

skipped-le : (newer : Bool) (ps : List (List ℕ)) → skipped newer ps ≤ length ps
skipped-le true ps = base_end-le ps
skipped-le false ps = omega arith

skipped_with_entry : (newer : Bool) (ps : List (List ℕ)) (p : List ℕ) → is_checkpoint p ≡ false → skipped newer (ps ++ p ∷ []) ≡ skipped newer ps
skipped_with_entry true ps p entry = end_with_entry ps p entry
skipped_with_entry false ps p entry = refl

-- an entry
pub unread_with_entry : (newer : Bool) (ps : List (List ℕ)) (p : List ℕ) → unread newer ps ≡ None → has_reading p ≡ true → length (drop (skipped newer ps) ps) < max_entries → unread newer (ps ++ p ∷ []) ≡ None
unfolding unread
unread_with_entry newer ps p none reading few =
    let n = skipped newer ps in
    let parts = unread_parts newer ps none in
    let le = skipped-le newer ps in
    ap (λ k. unread_in (ps ++ p ∷ []) k) (skipped_with_entry newer ps p (entry_is_no_checkpoint p reading))
    ∙ both_none _ _ (same_unread_base ps p n le ∙ parts.0)
    (ap (λ l. unread_from n l max_entries) (drop-append-le n ps (p ∷ []) le) ∙ unread_more max_entries n (drop n ps) p parts.1 reading few)

-- a base, whatever stands before it
pub unread_with_base : (ps : List (List ℕ)) (p : List ℕ) → is_whole_checkpoint p ≡ true → unread true (ps ++ p ∷ []) ≡ None
unfolding unread unread_from
unread_with_base ps p whole =
    let n = suc (length ps) in
    let last : get_or (ps ++ p ∷ []) (length ps) [] ≡ p = get_or_at ps p [] [] (length ps) refl in
    let base : unread_base (ps ++ p ∷ []) n ≡ None = rw (last, whole) refl in
    ap (λ k. unread_in (ps ++ p ∷ []) k) (end_with_base ps p (whole_is_checkpoint p whole))
    ∙ both_none _ _ base (ap (λ l. unread_from n l max_entries) (drop_all n (ps ++ p ∷ []) (omega (arith, length-append ps (p ∷ [])))))
