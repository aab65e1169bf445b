-- What a crash leaves in each of the two steps of an append.
use Rattle.std.proofs.Common.{◌≡◌, ℕ, ◌+◌, ◌^◌, ◌<◌, ◌≤◌, None, List, [], ◌∷◌, ◌++◌, length, take, drop, get_or, Ok, sym, ◌∙◌, ap, subst, arith, append_assoc, length-append, length-take}
use Rattle.std.proofs.lemmas.List.{take_at, drop_at, take-take, get_or-take, get_or_at}
use Rattle.cat_io.specs.Crashes.{put, Torn}
use Rattle.cat_io.specs.Steps.{put_torn}
use Rattle.cat_journal.specs.Frames.{header, is_newer, recovered, frame, spelled, unread, IsAtRest, MayHoldOneMore}
use Rattle.cat_journal.specs.AtRest.{are_framed-push, spelled-push, length-spelled-push, length-frame}
use Rattle.cat_journal.specs.OneMore.{recovered-opened}
use Rattle.cat_journal.proofs.Torn.{before_inside, put_inside}

-- the same up to the gate and with it
pub at_rest_behind : (g : ℕ) (ps : List (List ℕ)) (gate n : ℕ) (old c : List ℕ) → IsAtRest g ps gate old → Torn (gate + 1) n old c → IsAtRest g ps gate c
at_rest_behind g ps gate n old c rest torn =
    let le : gate + 1 ≤ length old = omega (arith, rest.there) in
    let same : take (gate + 1) c ≡ take (gate + 1) old = before_inside (gate + 1) n old c le torn in
    let lt : gate < gate + 1 = omega arith in
    record {
      front = sym (take-take gate (gate + 1) c (omega arith)) ∙ ap (λ (l : List ℕ). take gate l) same ∙ take-take gate (gate + 1) old (omega arith) ∙ rest.front;
      size = rest.size;
      there = omega (arith, torn.no_shorter, rest.there);
      closed = λ is_open. rest.closed (sym (get_or-take (gate + 1) old gate 0 lt) ∙ ap (λ (l : List ℕ). get_or l gate 0) (sym same) ∙ get_or-take (gate + 1) c gate 0 lt ∙ is_open);
      framed = rest.framed;
      read = rest.read;
    }

pub before_at_rest : (g : ℕ) (ps : List (List ℕ)) (gate : ℕ) (p c : List ℕ) → IsAtRest g ps gate c → MayHoldOneMore g ps gate p c
before_at_rest g ps gate p c rest = record { front = rest.front; there = rest.there; next = λ is_open. absurd (rest.closed is_open) }

-- at rest, with a whole frame and a closed gate behind the gate
pub record IsStaged (g : ℕ) (ps : List (List ℕ)) (gate : ℕ) (p bytes : List ℕ) : Type 0 where
  pub at_rest : IsAtRest g ps gate bytes
  pub junk : List ℕ
  pub behind : drop (gate + 1) bytes ≡ frame p ++ 0 ∷ junk

pub staged : (g : ℕ) (ps : List (List ℕ)) (gate : ℕ) (p old new : List ℕ) → IsAtRest g ps gate old → new ≡ put (gate + 1) (frame p ++ 0 ∷ []) old → IsStaged g ps gate p new
staged g ps gate p old new rest is =
    let le : gate + 1 ≤ length old = omega (arith, rest.there) in
    let piece = frame p ++ 0 ∷ [] in
    let junk = drop (gate + 1 + length piece) old in
    let whole : new ≡ take (gate + 1) old ++ (piece ++ junk) = is ∙ put_inside (gate + 1) piece old le ∙ append_assoc (take (gate + 1) old) piece junk in
    record {
      at_rest = at_rest_behind g ps gate (length piece) old new rest (subst (λ l. Torn (gate + 1) (length piece) old l) (sym is) (put_torn (gate + 1) piece old));
      junk = junk;
      behind = ap (λ (l : List ℕ). drop (gate + 1) l) whole ∙ drop_at (take (gate + 1) old) (piece ++ junk) (gate + 1) (omega (arith, length-take (gate + 1) old, le)) ∙ append_assoc (frame p) (0 ∷ []) junk;
    }

-- the gate's byte changed
module _ (g : ℕ) (ps : List (List ℕ)) (gate : ℕ) (p : List ℕ) (fits : unread (is_newer g) (ps ++ p ∷ []) ≡ None) (short : length p < 2 ^ 32) where
  pub opening : (old c : List ℕ) → IsStaged g ps gate p old → Torn gate 1 old c → MayHoldOneMore g ps gate p c
  opening old c stage torn =
      let rest = stage.at_rest in
      record {
        front = before_inside gate 1 old c (omega (arith, rest.there)) torn ∙ rest.front;
        there = omega (arith, torn.no_shorter, rest.there);
        next = λ is_open.
            ap (λ (l : List ℕ). take (5 + length p) l) (torn.after ∙ stage.behind ∙ sym (append_assoc (frame p) (0 ∷ []) stage.junk))
            ∙ take_at (frame p ++ 0 ∷ []) stage.junk (5 + length p) (omega (arith, length-append (frame p) (0 ∷ []), length-frame p));
      }

  -- and when it is open
  pub added : (old new : List ℕ) → IsStaged g ps gate p old → new ≡ put gate (1 ∷ []) old → (recovered new ≡ Ok (ps ++ p ∷ [])) × IsAtRest g (ps ++ p ∷ []) (gate + 5 + length p) new
  added old new stage is =
      let rest = stage.at_rest in
      let behind = stage.behind in
      let whole : new ≡ header g ++ (spelled ps ++ 1 ∷ (frame p ++ 0 ∷ stage.junk)) =
      is ∙ put_inside gate (1 ∷ []) old (omega (arith, rest.there))
      ∙ ap (λ (l : List ℕ). l ++ (1 ∷ []) ++ drop (gate + 1) old) rest.front
      ∙ ap (λ (l : List ℕ). (header g ++ spelled ps) ++ (1 ∷ []) ++ l) behind
      ∙ append_assoc (header g ++ spelled ps) (1 ∷ []) (frame p ++ 0 ∷ stage.junk)
      ∙ append_assoc (header g) (spelled ps) (1 ∷ (frame p ++ 0 ∷ stage.junk)) in
      let pushed : new ≡ (header g ++ spelled (ps ++ p ∷ [])) ++ 0 ∷ stage.junk =
      whole ∙ ap (λ (l : List ℕ). header g ++ l) (sym (spelled-push ps p (0 ∷ stage.junk))) ∙ sym (append_assoc (header g) (spelled (ps ++ p ∷ [])) (0 ∷ stage.junk)) in
      let size : length (header g ++ spelled (ps ++ p ∷ [])) ≡ gate + 5 + length p =
      omega (arith, length-append (header g) (spelled (ps ++ p ∷ [])), length-spelled-push ps p, rest.size) in (
        recovered-opened g ps p stage.junk new fits short rest.framed whole,
        record {
          front = ap (λ (l : List ℕ). take (gate + 5 + length p) l) pushed ∙ take_at (header g ++ spelled (ps ++ p ∷ [])) (0 ∷ stage.junk) (gate + 5 + length p) size;
          size = omega (arith, length-spelled-push ps p, rest.size);
          there = omega (arith, ap length pushed, length-append (header g ++ spelled (ps ++ p ∷ [])) (0 ∷ stage.junk), size);
          closed = λ is_open.
              let shut : get_or new (gate + 5 + length p) 0 ≡ 0 =
              ap (λ (l : List ℕ). get_or l (gate + 5 + length p) 0) pushed ∙ get_or_at (header g ++ spelled (ps ++ p ∷ [])) 0 stage.junk 0 (gate + 5 + length p) size in
              omega (arith, shut, is_open);
          framed = are_framed-push ps p rest.framed short;
          read = fits;
        },
      )
