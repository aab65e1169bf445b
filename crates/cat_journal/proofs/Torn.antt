-- Writes inside a file's bytes, whole and torn.
use Rattle.std.proofs.Common.{◌≡◌, ℕ, ◌+◌, ◌-◌, ◌≤◌, min, List, ◌++◌, length, take, drop, replicate, refl, sym, ◌∙◌, ap, arith}
use Rattle.std.proofs.lemmas.List.{append-nil, take_min}
use Rattle.cat_io.specs.Crashes.{put, Torn}

pub nothing_torn : (at n : ℕ) (c : List ℕ) → Torn at n c c
nothing_torn at n c = record { before = take_min at c; after = refl; no_shorter = omega arith; no_longer = omega arith }

pub put_inside : (at : ℕ) (piece old : List ℕ) → at ≤ length old → put at piece old ≡ take at old ++ piece ++ drop (at + length piece) old
put_inside at piece old le =
    let none : at - length old ≡ 0 = omega arith in
    ap (λ (n : ℕ). take at old ++ replicate n 0 ++ piece ++ drop (at + length piece) old) none
    ∙ ap (λ (l : List ℕ). l ++ piece ++ drop (at + length piece) old) (append-nil (take at old))

pub before_inside : (at n : ℕ) (old new : List ℕ) → at ≤ length old → Torn at n old new → take at new ≡ take at old
before_inside at n old new le torn =
    let same : min at (length old) ≡ at = omega arith in
    ap (λ (k : ℕ). take k new) (sym same) ∙ torn.before
