-- States that pass none of their limits.
use Rattle.std.proofs.Common.{◌≡◌, ◌≤◌, ◌<◌, ℕ, suc, ◌+◌, max, List, [], ◌∷◌, length, filter, Bool, true, false, ◌&&◌, cond, nat_le, arith}
use Rattle.std.proofs.Math.Nat.{le-max_left}
use Rattle.std.proofs.lemmas.Bool.{and_from, and_parts, le-leb, leb-true}
use Rattle.cat_frames.specs.Standing.{is_within, maps_pass}
use Rattle.cat_names.specs.declared.hash.Hash.{Hash}
use Rattle.cat_model.specs.declared.content.Content.{Content}
use Rattle.cat_model.specs.declared.limits.Limits.{Limits}
use Rattle.cat_model.specs.declared.reference.Reference.{Reference}
use Rattle.cat_model.specs.State.{State}
use Rattle.cat_state.specs.Keeping.{fits}

-- a state has no more than its limits say, but for the keys at its commits
abbrev pub is_few : State → Bool
is_few s =
    nat_le (length s.references) (max 1 s.limits.references)
    && nat_le s.place s.limits.log
    && nat_le (length s.commits) s.limits.commits
    && nat_le (length s.present) s.limits.contents

-- it has few of each, and few keys at its commits
pub within_parts : (s : State) → is_within s ≡ true → (is_few s ≡ true) × (maps_pass (fits s.limits) s.commits ≡ true)
unfolding is_within
within_parts s is =
    let one = nat_le (length s.references) (max 1 s.limits.references) in
    let two = nat_le s.place s.limits.log in
    let three = nat_le (length s.commits) s.limits.commits in
    let keys = maps_pass (fits s.limits) s.commits in
    let four = nat_le (length s.present) s.limits.contents in
    let last = and_parts (one && two && three && keys) four is in
    let rest = and_parts (one && two && three) keys last.0 in
    (and_from (one && two && three) four rest.0 last.1, rest.1)

pub within_by : (s : State) → is_few s ≡ true → maps_pass (fits s.limits) s.commits ≡ true → is_within s ≡ true
unfolding is_within
within_by s few have =
    let one = nat_le (length s.references) (max 1 s.limits.references) in
    let two = nat_le s.place s.limits.log in
    let three = nat_le (length s.commits) s.limits.commits in
    let keys = maps_pass (fits s.limits) s.commits in
    let four = nat_le (length s.present) s.limits.contents in
    let last = and_parts (one && two && three) four few in
    and_from (one && two && three && keys) four (and_from (one && two && three) keys last.0 have) last.1

-- one reference passes none
pub within_first : (limits : Limits) (main : Reference) → is_within (record { place = 0; references = main ∷ []; commits = []; present = []; limits = limits }) ≡ true
unfolding is_within
within_first limits main = λ i. le-leb 1 (max 1 limits.references) (le-max_left 1 limits.references) i && le-leb 0 limits.log (omega arith) i && le-leb 0 limits.commits (omega arith) i && true && le-leb 0 limits.contents (omega arith) i

kept_fewer : {A : Type 0} (stays : Bool) (x : A) (rest : List A) (n : ℕ) → length rest ≤ n → length (cond stays (x ∷ rest) rest) ≤ suc n
kept_fewer true x rest n low = omega (arith, low)
kept_fewer false x rest n low = omega (arith, low)

filter_fewer : {A : Type 0} (test : A → Bool) (xs : List A) → length (filter test xs) ≤ length xs
filter_fewer test [] = omega arith
filter_fewer test (x ∷ xs) = kept_fewer (test x) x (filter test xs) (length xs) (filter_fewer test xs)

-- nor does one with an entry more, where there is room for it, and some of the contents
pub within_without : (s : State) (test : Hash × Content → Bool) → s.place < s.limits.log → is_within s ≡ true → is_within (record s { place = s.place + 1; present = filter test s.present }) ≡ true
within_without s test log is =
    let left : List (Hash × Content) = filter test s.present in
    let parts = within_parts s is in
    let one = nat_le (length s.references) (max 1 s.limits.references) in
    let two = nat_le s.place s.limits.log in
    let three = nat_le (length s.commits) s.limits.commits in
    let four = nat_le (length s.present) s.limits.contents in
    let last = and_parts (one && two && three) four parts.0 in
    let rest = and_parts (one && two) three last.0 in
    let first = and_parts one two rest.0 in
    let next = nat_le (s.place + 1) s.limits.log in
    let fewer : length left ≤ s.limits.contents = omega (arith, filter_fewer test s.present, leb-true _ _ last.1) in
    within_by (record s { place = s.place + 1; present = left })
    (and_from (one && next && three) (nat_le (length left) s.limits.contents) (and_from (one && next) three (and_from one next first.0 (le-leb _ _ (omega (arith, log)))) rest.1) (le-leb _ _ fewer))
    parts.1
