-- The greatest draft number of entries, one more at a time.
use Rattle.std.proofs.Common.{◌≡◌, ℕ, max, List, [], ◌∷◌, reverse, ap, sym, arith}
use Rattle.std.proofs.lemmas.List.{reverse-reverse}
use Rattle.cat_model.specs.declared.log_entry.LogEntry.{LogEntry}
use Rattle.cat_model.specs.Resuming.{last_draft}

pub last_more : (n m : ℕ) (entries : List LogEntry) → last_draft (max n m) entries ≡ max m (last_draft n entries)
last_more n m [] = omega arith
last_more n m (e ∷ entries) = let rest : last_draft (max n m) entries ≡ max m (last_draft n entries) = last_more n m entries in omega (arith, rest)

-- a log as it is held
pub last_turned : (n : ℕ) (entries : List LogEntry) → last_draft n entries ≡ last_draft n (reverse (reverse entries))
last_turned n entries = ap (last_draft n) (sym (reverse-reverse entries))
