-- What a change leaves.
use Rattle.std.proofs.Common.{◌≡◌, ℕ, ◌+◌, ◌-◌, ◌++◌, List, length, length-append, drop, refl, ap, ◌∙◌, arith}
use Rattle.std.proofs.Math.Seq.{drop-append_seam}
use Rattle.cat_model.specs.State.{State}
use Rattle.cat_state.specs.declared.change.Change.{Change}
use Rattle.cat_state.specs.Adding.{IsAbove}
use Rattle.cat_state.specs.Changing.{applied}

above_by : {A : Type 0} (more older : List A) → IsAbove older (more ++ older)
above_by more older =
    let front : length (more ++ older) - length older ≡ length more = omega (arith, length-append more older) in
    ap (λ (n : ℕ). drop n (more ++ older)) front ∙ drop-append_seam more older

-- the commits before it are below those that it adds
pub applied_above : (s : State) (c : Change) → IsAbove s.commits (applied s c).commits
applied_above s c = above_by c.additions.commits.list s.commits

-- its log has one entry more
pub applied_place : (s : State) (c : Change) → (applied s c).place ≡ s.place + 1
applied_place s c = refl
