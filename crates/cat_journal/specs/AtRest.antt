-- What frames stand for.
use Rattle.std.proofs.Common.{◌≡◌, ◌≢◌, ℕ, zero, suc, ◌+◌, ◌-◌, ◌^◌, ◌<◌, ◌≤◌, Bool, true, false, eqb, ltb, List, [], ◌∷◌, ◌++◌, length, take, drop, get_or, Option, None, Ok, refl, sym, ◌∙◌, ap, arith, append_assoc, length-append, take-append-drop}
use Rattle.std.specs.Int.{w32, from_be_bytes, to_be_bytes}
use Rattle.std.specs.Option.{option_map}
use Rattle.std.proofs.lemmas.Bool.{and_parts, and_from, lt-ltb, le-ltb, ltb-true, ne_eqb}
use Rattle.std.proofs.lemmas.List.{append-nil, take_at, drop_at, drop_more, get_or-take}
use Rattle.std.proofs.lemmas.Nat.{from_be_bytes-to_be_bytes_4}
use Rattle.cat_journal.specs.Frames.{header, is_newer, form_gate, length_of, payload_of, is_framed, Walked, in_front, ended, walk, or_else, unread, starts_of, damaged_at, settled, recovered, frame, spelled, are_framed, IsAtRest}

pub length-frame : (p : List ℕ) → length (frame p) ≡ 4 + length p
length-frame p = omega (arith, length-append (to_be_bytes w32 (length p)) p)

pub length_of-frame : (p rest : List ℕ) → length p < 2 ^ 32 → length_of (frame p ++ rest) ≡ length p
length_of-frame p rest short =
    ap (λ (l : List ℕ). from_be_bytes w32 l) (ap (λ (l : List ℕ). take 4 l) (append_assoc (to_be_bytes w32 (length p)) p rest) ∙ take_at (to_be_bytes w32 (length p)) (p ++ rest) 4 refl)
    ∙ from_be_bytes-to_be_bytes_4 (length p) short

pub payload_of-frame : (p rest : List ℕ) → length p < 2 ^ 32 → payload_of (frame p ++ rest) ≡ p
payload_of-frame p rest short =
    ap (λ (n : ℕ). take n (drop 4 (frame p ++ rest))) (length_of-frame p rest short)
    ∙ ap (λ (l : List ℕ). take (length p) l) (ap (λ (l : List ℕ). drop 4 l) (append_assoc (to_be_bytes w32 (length p)) p rest) ∙ drop_at (to_be_bytes w32 (length p)) (p ++ rest) 4 refl)
    ∙ take_at p rest (length p) refl

pub drop-frame : (p rest : List ℕ) → length p < 2 ^ 32 → drop (4 + length_of (frame p ++ rest)) (frame p ++ rest) ≡ rest
drop-frame p rest short =
    ap (λ (n : ℕ). drop (4 + n) (frame p ++ rest)) (length_of-frame p rest short) ∙ drop_at (frame p) rest (4 + length p) (length-frame p)

pub is_framed-frame : (p rest : List ℕ) → length p < 2 ^ 32 → 0 < length rest → is_framed (frame p ++ rest) ≡ true
is_framed-frame p rest short more =
    lt-ltb _ _ (omega (arith, length_of-frame p rest short, length-frame p, length-append (frame p) rest, more))

-- a closed gate ends them, whatever stands behind it
pub closed : (room at gate : ℕ) (rest : List ℕ) → gate ≢ 1 → walk room at (gate ∷ rest) ≡ ended
unfolding walk
closed zero at gate rest shut = rw (ne_eqb gate 1 shut) refl
closed (suc room) at gate rest shut = rw (ne_eqb gate 1 shut) refl

-- an open one has a frame
pub opened : (room at : ℕ) (p rest : List ℕ) → length p < 2 ^ 32 → 0 < length rest
    → walk (suc room) at (1 ∷ (frame p ++ rest)) ≡ in_front (p ∷ []) (walk room (at + 5 + length p) rest)
unfolding walk
opened room at p rest short more =
    rw (is_framed-frame p rest short more)
    (ap (λ (q : List ℕ). in_front (q ∷ []) (walk room (at + 5 + length_of (frame p ++ rest)) (drop (4 + length_of (frame p ++ rest)) (frame p ++ rest)))) (payload_of-frame p rest short)
    ∙ ap (λ (l : List ℕ). in_front (p ∷ []) (walk room (at + 5 + length_of (frame p ++ rest)) l)) (drop-frame p rest short)
    ∙ ap (λ (n : ℕ). in_front (p ∷ []) (walk room (at + 5 + n) rest)) (length_of-frame p rest short))

pub framed_parts : (p : List ℕ) (ps : List (List ℕ)) → are_framed (p ∷ ps) ≡ true → (length p < 2 ^ 32) × (are_framed ps ≡ true)
framed_parts p ps e = let both = and_parts (ltb (length p) (2 ^ 32)) (are_framed ps) e in (ltb-true (length p) (2 ^ 32) both.0, both.1)

pub are_framed-push : (ps : List (List ℕ)) (p : List ℕ) → are_framed ps ≡ true → length p < 2 ^ 32 → are_framed (ps ++ p ∷ []) ≡ true
are_framed-push [] p e short = and_from _ _ (lt-ltb _ _ short) refl
are_framed-push (q ∷ ps) p e short =
    let parts = framed_parts q ps e in
    and_from _ _ (lt-ltb _ _ parts.0) (are_framed-push ps p parts.1 short)

pub spelled-push : (ps : List (List ℕ)) (p rest : List ℕ) → spelled (ps ++ p ∷ []) ++ rest ≡ spelled ps ++ 1 ∷ (frame p ++ rest)
spelled-push [] p rest = ap (λ (l : List ℕ). 1 ∷ l) (append_assoc (frame p) [] rest)
spelled-push (q ∷ ps) p rest =
    ap (λ (l : List ℕ). 1 ∷ l) (append_assoc (frame q) (spelled (ps ++ p ∷ [])) rest ∙ ap (λ (l : List ℕ). frame q ++ l) (spelled-push ps p rest) ∙ sym (append_assoc (frame q) (spelled ps) (1 ∷ (frame p ++ rest))))

pub length-spelled-push : (ps : List (List ℕ)) (p : List ℕ) → length (spelled (ps ++ p ∷ [])) ≡ length (spelled ps) + 5 + length p
length-spelled-push ps p =
    omega (arith, ap length (spelled-push ps p []), length-append (spelled (ps ++ p ∷ [])) [], length-append (spelled ps) (1 ∷ (frame p ++ [])), length-append (frame p) [], length-frame p)

-- a frame takes more than its payload's place in the list
pub length-spelled-le : (ps : List (List ℕ)) → length ps ≤ length (spelled ps)
length-spelled-le [] = omega arith
length-spelled-le (p ∷ ps) = let rest = length-spelled-le ps in omega (arith, rest, length-append (frame p) (spelled ps), length-frame p)

in_front-nil : (w : Walked) → in_front [] w ≡ w
in_front-nil w = refl

walk-spelled : (ps : List (List ℕ)) (room at : ℕ) (rest : List ℕ) → are_framed ps ≡ true → 0 < length rest
    → walk (length ps + room) at (spelled ps ++ rest) ≡ in_front ps (walk room (at + length (spelled ps)) rest)
walk-spelled [] room at rest e more =
    let n : length {A = List ℕ} [] + room ≡ room = omega arith in
    let here : at + 0 ≡ at = omega arith in
    ap (λ (k : ℕ). walk k at rest) n ∙ ap (λ (k : ℕ). walk room k rest) (sym here) ∙ sym (in_front-nil (walk room (at + 0) rest))
walk-spelled (p ∷ ps) room at rest e more =
    let parts = framed_parts p ps e in
    let n : length (p ∷ ps) + room ≡ suc (length ps + room) = omega arith in
    let place : (at + 5 + length p) + length (spelled ps) ≡ at + length (spelled (p ∷ ps)) = omega (arith, length-append (frame p) (spelled ps), length-frame p) in
    ap (λ (k : ℕ). walk k at (spelled (p ∷ ps) ++ rest)) n
    ∙ ap (λ (l : List ℕ). walk (suc (length ps + room)) at (1 ∷ l)) (append_assoc (frame p) (spelled ps) rest)
    ∙ opened (length ps + room) at p (spelled ps ++ rest) parts.0 (omega (arith, more, length-append (spelled ps) rest))
    ∙ ap (λ (w : Walked). in_front (p ∷ []) w) (walk-spelled ps room (at + 5 + length p) rest parts.1 more)
    ∙ ap (λ (k : ℕ). in_front (p ∷ ps) (walk room k rest)) place

pub recovered-header : (g : ℕ) (body : List ℕ) → 0 < length body → recovered (header g ++ body) ≡ settled (is_newer g) (walk (16 + length body) 16 body)
unfolding recovered
recovered-header g body more =
    let size : length (header g ++ body) ≡ 16 + length body = length-append (header g) body in
    let some : eqb (length (header g ++ body)) 0 ≡ false = ne_eqb _ _ (λ none. omega (arith, size, none)) in
    let long : ltb (length (header g ++ body)) 17 ≡ false = le-ltb _ _ (omega (arith, size, more)) in
    rw (some, long) (ap (λ (k : ℕ). settled (is_newer g) (walk k 16 body)) size)

pub split_at_gate : (g : ℕ) (ps : List (List ℕ)) (gate : ℕ) (bytes : List ℕ) → take gate bytes ≡ header g ++ spelled ps → gate < length bytes
    → bytes ≡ header g ++ (spelled ps ++ get_or bytes gate 0 ∷ drop (gate + 1) bytes)
split_at_gate g ps gate bytes front there =
    sym (take-append-drop gate bytes)
    ∙ ap (λ (l : List ℕ). l ++ drop gate bytes) front
    ∙ ap (λ (l : List ℕ). (header g ++ spelled ps) ++ l) (drop_more bytes gate 0 there)
    ∙ append_assoc (header g) (spelled ps) (get_or bytes gate 0 ∷ drop (gate + 1) bytes)

-- the format's gate is the header's last byte
pub gate_of_front : (g : ℕ) (ps : List (List ℕ)) (gate : ℕ) (bytes : List ℕ) → take gate bytes ≡ header g ++ spelled ps → gate ≡ 16 + length (spelled ps) → form_gate bytes ≡ g
gate_of_front g ps gate bytes front size =
    sym (get_or-take gate bytes 15 0 (omega (arith, size))) ∙ ap (λ (l : List ℕ). get_or l 15 0) front

-- payloads in front of a gate
pub recovered-front : (g : ℕ) (ps : List (List ℕ)) (rest : List ℕ) → are_framed ps ≡ true → 0 < length rest
    → (room : ℕ) × (recovered (header g ++ (spelled ps ++ rest)) ≡ settled (is_newer g) (in_front ps (walk (suc (suc room)) (16 + length (spelled ps)) rest)))
recovered-front g ps rest framed more =
    let size : length (spelled ps ++ rest) ≡ length (spelled ps) + length rest = length-append (spelled ps) rest in
    let room = 14 + length (spelled ps ++ rest) - length ps in
    let all : 16 + length (spelled ps ++ rest) ≡ length ps + suc (suc room) = omega (arith, size, length-spelled-le ps) in (
      room,
      recovered-header g (spelled ps ++ rest) (omega (arith, more, size))
          ∙ ap (λ (k : ℕ). settled (is_newer g) (walk k 16 (spelled ps ++ rest))) all
          ∙ ap (λ (w : Walked). settled (is_newer g) w) (walk-spelled ps (suc (suc room)) 16 rest framed more),
    )

-- all of them can be taken
pub settled-whole : (newer : Bool) (ps : List (List ℕ)) → unread newer ps ≡ None → settled newer (record { found = ps; broken = None }) ≡ Ok ps
settled-whole newer ps read = ap (λ (o : Option ℕ). damaged_at ps (or_else (option_map (λ i. get_or (starts_of 16 ps) i 0) o) None)) read

pub recovered-at_rest : (g : ℕ) (ps : List (List ℕ)) (gate : ℕ) (bytes : List ℕ) → IsAtRest g ps gate bytes → recovered bytes ≡ Ok ps
recovered-at_rest g ps gate bytes rest =
    let front = recovered-front g ps (get_or bytes gate 0 ∷ drop (gate + 1) bytes) rest.framed (omega arith) in
    ap recovered (split_at_gate g ps gate bytes rest.front rest.there)
    ∙ front.1
    ∙ ap (λ (w : Walked). settled (is_newer g) (in_front ps w)) (closed (suc (suc front.0)) (16 + length (spelled ps)) (get_or bytes gate 0) (drop (gate + 1) bytes) rest.closed)
    ∙ ap (λ (l : List (List ℕ)). settled (is_newer g) (record { found = l; broken = None })) (append-nil ps)
    ∙ settled-whole (is_newer g) ps rest.read
