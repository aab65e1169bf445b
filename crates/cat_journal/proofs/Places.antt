-- What stands behind the gates of payloads.
use Rattle.std.proofs.Common.{◌≡◌, ℕ, ◌+◌, ◌^◌, ◌<◌, true, List, [], ◌∷◌, ◌++◌, length, map, drop, refl, sym, ◌∙◌, ap, ap₂, arith, append_assoc, length-append}
use Rattle.std.specs.List.{All}
use Rattle.std.proofs.lemmas.List.{drop_at}
use Rattle.std.proofs.lemmas.List.Elements.{All-cons, All-nil}
use Rattle.cat_journal.specs.Frames.{payload_of, is_framed, frame, spelled, are_framed, starts_of}
use Rattle.cat_journal.specs.Reading.{HasFrame, payload_at}
use Rattle.cat_journal.specs.AtRest.{framed_parts, is_framed-frame, length-frame, payload_of-frame}

-- each has its frame there
pub record AreThere (ps : List (List ℕ)) (first : ℕ) (bytes : List ℕ) : Type 0 where
  pub payloads : map (payload_at bytes) (starts_of first ps) ≡ ps
  pub frames : All (HasFrame bytes) (starts_of first ps)

pub are_there : (ps : List (List ℕ)) (first : ℕ) (front tail bytes : List ℕ) → bytes ≡ front ++ (spelled ps ++ tail) → length front ≡ first → are_framed ps ≡ true → 0 < length tail → first + length (spelled ps) < 2 ^ 64 → AreThere ps first bytes
are_there [] first front tail bytes is size framed more fits = record { payloads = refl; frames = All-nil (HasFrame bytes) }
are_there (p ∷ ps) first front tail bytes is size framed more fits =
    let parts = framed_parts p ps framed in
    let rest = spelled ps ++ tail in
    let whole : bytes ≡ (front ++ 1 ∷ []) ++ (frame p ++ rest) =
    is ∙ ap (λ (l : List ℕ). front ++ 1 ∷ l) (append_assoc (frame p) (spelled ps) tail) ∙ sym (append_assoc front (1 ∷ []) (frame p ++ rest)) in
    let behind : drop (first + 1) bytes ≡ frame p ++ rest =
    ap (λ (l : List ℕ). drop (first + 1) l) whole ∙ drop_at (front ++ 1 ∷ []) (frame p ++ rest) (first + 1) (omega (arith, length-append front (1 ∷ []), size)) in
    let later = are_there ps (first + 5 + length p) (front ++ 1 ∷ frame p) tail bytes
    (is ∙ ap (λ (l : List ℕ). front ++ 1 ∷ l) (append_assoc (frame p) (spelled ps) tail) ∙ sym (append_assoc front (1 ∷ frame p) rest))
    (omega (arith, length-append front (1 ∷ frame p), length-frame p, size)) parts.1 more (omega (arith, fits, length-append (frame p) (spelled ps), length-frame p)) in
    record {
      payloads = ap₂ (λ (q : List ℕ) (qs : List (List ℕ)). q ∷ qs) (ap payload_of behind ∙ payload_of-frame p rest parts.0) later.payloads;
      frames = All-cons (HasFrame bytes) first (starts_of (first + 5 + length p) ps) (omega (arith, fits, length-append (frame p) (spelled ps), length-frame p), ap is_framed behind ∙ is_framed-frame p rest parts.0 (omega (arith, more, length-append (spelled ps) tail))) later.frames;
    }
