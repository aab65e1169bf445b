use Rattle.std.proofs.Common.{◌≡◌, ℕ, suc, ◌-◌, ◌≤◌, List, [], ◌∷◌, length, get_or, Option, Some, refl, sym, ap, ◌∙◌, is_lt, arith}
use Rattle.cat_codes.specs.Code.{follows, last_of}
use Rattle.cat_names.specs.declared.hash.Hash.{Hash}
use Rattle.cat_frames.specs.Sweeps.{hash_cmp}
use Rattle.cat_frames.proofs.sweep_fields.comes_next.Goals as goal

-- the last one, by its index
last_is_at : (hashes : List Hash) (d : Hash) → 1 ≤ length hashes → last_of hashes ≡ Some (get_or hashes (length hashes - 1) d)
last_is_at [] d h = absurd (omega arith)
last_is_at (x ∷ []) d h = refl
last_is_at (x ∷ y ∷ hashes) d h =
    let k : length (x ∷ y ∷ hashes) - 1 ≡ suc (length (y ∷ hashes) - 1) = omega arith in
    last_is_at (y ∷ hashes) d (omega arith) ∙ sym (ap (λ (i : ℕ). Some (get_or (x ∷ y ∷ hashes) i d)) k)

pub returns-in-len1-up : goal.returns-in-len1-up
returns-in-len1-up c =
    c.is_lt.ensures ∙ ap is_lt c.cmp.ensures
    ∙ sym (ap (λ (last : Option Hash). follows hash_cmp last c.args.hash.now) (last_is_at c.args.hashes.now _ c.in-len1-up.len_at_least))
