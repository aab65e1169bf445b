-- What bytes recover to that may hold one payload more.
use Rattle.std.proofs.Common.{◌≡◌, ◌⊎◌, inl, inr, ⊎_elim, ℕ, suc, ◌+◌, ◌^◌, ◌<◌, true, List, [], ◌∷◌, ◌++◌, length, drop, get_or, None, Ok, sym, ◌∙◌, ap, arith, append_assoc, take-append-drop}
use Rattle.std.proofs.lemmas.Bool.{cases_eq}
use Rattle.cat_keeper.specs.Keeping.{WithOrWithout}
use Rattle.cat_journal.specs.Frames.{header, is_newer, Walked, in_front, settled, recovered, frame, spelled, are_framed, unread, MayHoldOneMore}
use Rattle.cat_journal.specs.Held.{outcome, outcome_of}
use Rattle.cat_journal.specs.AtRest.{closed, opened, split_at_gate, recovered-front, recovered-at_rest, settled-whole}

-- an open gate with a frame and a closed gate behind it
pub recovered-opened : (g : ℕ) (ps : List (List ℕ)) (p junk c : List ℕ) → unread (is_newer g) (ps ++ p ∷ []) ≡ None → length p < 2 ^ 32 → are_framed ps ≡ true
    → c ≡ header g ++ (spelled ps ++ 1 ∷ (frame p ++ 0 ∷ junk)) → recovered c ≡ Ok (ps ++ p ∷ [])
recovered-opened g ps p junk c fits short framed is =
    let front = recovered-front g ps (1 ∷ (frame p ++ 0 ∷ junk)) framed (omega arith) in
    let place = 16 + length (spelled ps) in
    ap recovered is
    ∙ front.1
    ∙ ap (λ (w : Walked). settled (is_newer g) (in_front ps w)) (opened (suc front.0) place p (0 ∷ junk) short (omega arith)
    ∙ ap (λ (w : Walked). in_front (p ∷ []) w) (closed (suc front.0) (place + 5 + length p) 0 junk (omega arith)))
    ∙ settled-whole (is_newer g) (ps ++ p ∷ []) fits

module _ (g : ℕ) (ps : List (List ℕ)) (gate : ℕ) (p : List ℕ) (size : gate ≡ 16 + length (spelled ps)) (framed : are_framed ps ≡ true) (read : unread (is_newer g) ps ≡ None)
    (fits : unread (is_newer g) (ps ++ p ∷ []) ≡ None) (short : length p < 2 ^ 32) where
  when_open : (c : List ℕ) → MayHoldOneMore g ps gate p c → get_or c gate 0 ≡ 1 → recovered c ≡ Ok (ps ++ p ∷ [])
  when_open c may is_open =
      let rest = drop (gate + 1) c in
      let junk = drop (5 + length p) rest in
      let behind : rest ≡ frame p ++ 0 ∷ junk =
      sym (take-append-drop (5 + length p) rest) ∙ ap (λ (l : List ℕ). l ++ junk) (may.next is_open) ∙ append_assoc (frame p) (0 ∷ []) junk in
      recovered-opened g ps p junk c fits short framed
      (split_at_gate g ps gate c may.front may.there
      ∙ ap (λ (k : ℕ). header g ++ (spelled ps ++ k ∷ rest)) is_open
      ∙ ap (λ (l : List ℕ). header g ++ (spelled ps ++ 1 ∷ l)) behind)

  pub either : (c : List ℕ) → MayHoldOneMore g ps gate p c → (recovered c ≡ Ok ps) ⊎ (recovered c ≡ Ok (ps ++ p ∷ []))
  either c may =
      elim (cases_eq (get_or c gate 0) 1) [
        | inl is_open ↦ inr (when_open c may is_open)
        | inr shut ↦ inl (recovered-at_rest g ps gate c (record { front = may.front; size = size; there = may.there; closed = shut; framed = framed; read = read }))
      ]

  pub with_or_without : (c : List ℕ) → MayHoldOneMore g ps gate p c → WithOrWithout ps p (outcome c)
  with_or_without c may = ⊎_elim (λ before. inl (ap outcome_of before)) (λ after. inr (ap outcome_of after)) (either c may)
