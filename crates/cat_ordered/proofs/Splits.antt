-- Changes of a map that is made of parts.
use Rattle.std.proofs.Common.{◌≡◌, suc, ◌<◌, ◌≤◌, List, [], ◌∷◌, ◌++◌, length, get_or, take, drop, Option, Some, None, Bool, true, false, refl, sym, ap, subst, ◌∙◌, arith, append_assoc}
use Rattle.std.proofs.lemmas.List.{append-nil}
use Rattle.std.specs.List.{AllByRecursion}
use Rattle.std.specs.Ordering.{is_le}
use Rattle.std.specs.Cmp.{IsTotalOrder}
use Rattle.std.specs.declared.cmp.Ordering.{Ordering}
use Rattle.std.specs.declared.cmp.Ordering.TheVariants.{Less}
use Rattle.cat_codes.specs.Code.{ascends}
use Rattle.cat_ordered.specs.Maps.{IsMap, after_change, after_changes, present, begins_by, share_of}
use Rattle.cat_ordered.proofs.Order.{less_is, split3, head_tail, ascends_any, ascends_lower, IsMap-after_change}
use Rattle.cat_ordered.proofs.LookUps.{AllBelow, front_begins}

module _ {K V : Type 0} (cmp : K → K → Ordering) (total : IsTotalOrder cmp) where
  -- what is above this key is above each of these
  abbrev pub AllUnder : K → List (K × V) → Type 0
  AllUnder k map = AllByRecursion (λ (x : K × V). (q : K) → cmp k q ≡ Less → cmp x.0 q ≡ Less) map

  under_below : (k : K) (map : List (K × V)) → AllBelow cmp total k map → AllUnder k map
  under_below k [] below = tt
  under_below k (x ∷ map) below = ((λ q lt. total.trans x.0 k q below.0 lt), under_below k map below.1)

  below_under : (k key : K) (map : List (K × V)) → cmp k key ≡ Less → AllUnder k map → AllBelow cmp total key map
  below_under k key [] lt under = tt
  below_under k key (x ∷ map) lt under = (under.0 key lt, below_under k key map lt under.1)

  -- a change passes over keys below its own
  pub past_one : (c : K × Option V) (a b : List (K × V)) → AllBelow cmp total c.0 a → after_change cmp c (a ++ b) ≡ a ++ after_change cmp c b
  past_one c [] b below = refl
  past_one c (x ∷ a) b below = rw below.0 (ap (λ (m : List (K × V)). x ∷ m) (past_one c a b below.1))

  -- and so do those above it
  pub past_all : (cs : List (K × Option V)) (k : K) (a b : List (K × V)) → AllUnder k a → ascends cmp (Some k) cs ≡ true → after_changes cmp cs (a ++ b) ≡ a ++ after_changes cmp cs b
  past_all [] k a b under up = refl
  past_all (c ∷ cs) k a b under up =
      let h = head_tail cmp total (Some k) c cs up in
      let here = below_under k c.0 a (less_is _ h.0) under in
      ap (after_changes cmp cs) (past_one c a b here) ∙ past_all cs k a (after_change cmp c b) under (ascends_lower cmp total c.0 (Some k) cs h.0 h.1)

  past_from : (c : K × Option V) (cs : List (K × Option V)) (a b : List (K × V)) → AllBelow cmp total c.0 a → ascends cmp None (c ∷ cs) ≡ true → after_changes cmp (c ∷ cs) (a ++ b) ≡ a ++ after_changes cmp (c ∷ cs) b
  past_from c cs a b below up = ap (after_changes cmp cs) (past_one c a b below) ∙ past_all cs c.0 a (after_change cmp c b) (under_below c.0 a below) (head_tail cmp total None c cs up).1

  pub past_first : (cs : List (K × Option V)) (c : K × Option V) (a b : List (K × V)) → 0 < length cs → c ≡ get_or cs 0 c → AllBelow cmp total c.0 a → ascends cmp None cs ≡ true → after_changes cmp cs (a ++ b) ≡ a ++ after_changes cmp cs b
  past_first [] c a b some e below up = absurd (omega arith)
  past_first (d ∷ cs) c a b some e below up = past_from d cs a b (subst (λ (x : K × Option V). AllBelow cmp total x.0 a) e below) up

  -- a change leaves what begins above it
  pub before : (c : K × Option V) (a b : List (K × V)) → begins_by cmp b c.0 ≡ false → after_change cmp c (a ++ b) ≡ after_change cmp c a ++ b
  before (key, value) [] [] miss = sym (append-nil (present (key, value)))
  before (key, value) [] (z ∷ b) miss = split3 (cmp z.0 key)
      (λ o. let yes : is_le (cmp z.0 key) ≡ true = rw o refl in absurd cc)
      (λ o. let yes : is_le (cmp z.0 key) ≡ true = rw o refl in absurd cc)
      (λ o. rw o refl)
  before (key, value) (x ∷ a) b miss = split3 (cmp x.0 key)
      (λ o. rw o (ap (λ (m : List (K × V)). x ∷ m) (before (key, value) a b miss)))
      (λ o. rw o (sym (append_assoc (present (key, value)) a b)))
      (λ o. rw o (sym (append_assoc (present (key, value)) (x ∷ a) b)))

  -- the first changes are made in the first part, the others in the rest
  pub split : (cs : List (K × Option V)) (a b : List (K × V)) → ascends cmp None cs ≡ true → IsMap cmp (a ++ b) → after_changes cmp cs (a ++ b) ≡ after_changes cmp (take (share_of cmp cs b) cs) a ++ after_changes cmp (drop (share_of cmp cs b) cs) b
  split [] a b up order = refl
  split (c ∷ cs) a b up order = choose (begins_by cmp b c.0) refl (λ m next. split cs m b (ascends_any cmp total c.0 cs (head_tail cmp total None c cs up).1) next)
    where
      choose : (t : Bool) → begins_by cmp b c.0 ≡ t
          → ((m : List (K × V)) → IsMap cmp (m ++ b) → after_changes cmp cs (m ++ b) ≡ after_changes cmp (take (share_of cmp cs b) cs) m ++ after_changes cmp (drop (share_of cmp cs b) cs) b)
          → after_changes cmp (c ∷ cs) (a ++ b) ≡ after_changes cmp (take (share_of cmp (c ∷ cs) b) (c ∷ cs)) a ++ after_changes cmp (drop (share_of cmp (c ∷ cs) b) (c ∷ cs)) b
      choose true e others = rw e (past_from c cs a b (front_begins cmp total a b c.0 order e) up)
      choose false e others =
          let one = before c a b e in
          let next : IsMap cmp (after_change cmp c a ++ b) = rw (← one) (IsMap-after_change cmp total c (a ++ b) order) in
          rw e (ap (after_changes cmp cs) one ∙ others (after_change cmp c a) next)

  pub share_within : (cs : List (K × Option V)) (rest : List (K × V)) → share_of cmp cs rest ≤ length cs
  share_within [] rest = omega arith
  share_within (c ∷ cs) rest = choose (begins_by cmp rest c.0) refl (share_within cs rest)
    where
      choose : (t : Bool) → begins_by cmp rest c.0 ≡ t → share_of cmp cs rest ≤ length cs → share_of cmp (c ∷ cs) rest ≤ length (c ∷ cs)
      choose true e others = rw e (omega arith)
      choose false e others = rw e (omega arith)

  -- no change is kept back where nothing follows
  pub share_none : (cs : List (K × Option V)) → share_of cmp cs [] ≡ length cs
  share_none [] = refl
  share_none (c ∷ cs) = ap suc (share_none cs)
