-- The stages of seats, and what a step leaves of other seats.
use Rattle.std.proofs.Common.{◌≡◌, ◌≢◌, ℕ, zero, suc, ◌≤◌, List, [], ◌∷◌, length, get_or, set, sym, refl, ap, ◌∙◌, subst, ⊎_elim, arith, Option, Some, None}
use mathlib.Core.Option.{some, some-injective, some-ne-none}
use lib.ListN.{get_elem?}
use Rattle.atomic_table.proofs.Lists.{at_set, set_else}
use Rattle.cat_desk.specs.Sight.{Stage, Idle, Making, Waiting, Called, Holding, Leaving, Spent, View}
use Rattle.cat_desk.specs.Rule.{IsLive, IsBusy, IsServed, IsAlone, IsMaking, tickets_of, Turned}

pub alone_served : (st : Stage) → IsAlone st → IsServed st
alone_served Idle x = x
alone_served Making x = tt
alone_served Waiting x = x
alone_served Called x = absurd x
alone_served Holding x = tt
alone_served Leaving x = absurd x
alone_served Spent x = x

pub making_served : (st : Stage) → IsMaking st → IsServed st
making_served Idle x = x
making_served Making x = tt
making_served Waiting x = x
making_served Called x = absurd x
making_served Holding x = tt
making_served Leaving x = absurd x
making_served Spent x = x

pub served_busy : (st : Stage) → IsServed st → IsBusy st
served_busy Idle x = x
served_busy Making x = tt
served_busy Waiting x = absurd x
served_busy Called x = tt
served_busy Holding x = tt
served_busy Leaving x = tt
served_busy Spent x = x

pub busy_live : (st : Stage) → IsBusy st → IsLive st
busy_live Idle x = absurd x
busy_live Making x = tt
busy_live Waiting x = tt
busy_live Called x = tt
busy_live Holding x = tt
busy_live Leaving x = tt
busy_live Spent x = x

pub one_ticket : (st : Stage) → tickets_of st ≤ 1
one_ticket Idle = omega arith
one_ticket Making = omega arith
one_ticket Waiting = omega arith
one_ticket Called = omega arith
one_ticket Holding = omega arith
one_ticket Leaving = omega arith
one_ticket Spent = omega arith

pub is_live : (st : Stage) → Dec (IsLive st)
is_live Idle = yes tt
is_live Making = yes tt
is_live Waiting = yes tt
is_live Called = yes tt
is_live Holding = yes tt
is_live Leaving = yes tt
is_live Spent = no (λ x. x)

pub served_ticket : (st : Stage) → IsServed st → tickets_of st ≡ 1
served_ticket Idle x = absurd x
served_ticket Making x = refl
served_ticket Waiting x = refl
served_ticket Called x = refl
served_ticket Holding x = refl
served_ticket Leaving x = refl
served_ticket Spent x = absurd x

pub set_there : {A : Type 0} (l : List A) (i : ℕ) (a b : A) → get_elem? l i ≡ some b → get_elem? (set l i a) i ≡ some a
set_there [] i a b e = absurd (some-ne-none b (sym e))
set_there (x ∷ xs) zero a b e = refl
set_there (x ∷ xs) (suc i) a b e = set_there xs i a b e

pub or_else : {A : Type 0} → A → Option A → A
or_else d None = d
or_else d (Some x) = x

pub same_some : {A : Type 0} (a b : A) → Some a ≡ Some b → a ≡ b
unfolding or_else
same_some a b e = ap (or_else a) e

-- what stands behind the first three
abbrev pub behind : List ℕ → List ℕ
behind (a ∷ b ∷ c ∷ ws) = ws
behind _ = []

pub three_words : (ws : List ℕ) → 3 ≤ length ws → ws ≡ get_or ws 0 0 ∷ get_or ws 1 0 ∷ get_or ws 2 0 ∷ behind ws
three_words [] e = absurd (omega arith)
three_words (a ∷ []) e = absurd (omega arith)
three_words (a ∷ b ∷ []) e = absurd (omega arith)
three_words (a ∷ b ∷ c ∷ ws) e = refl

pub seats_stay : (K : ℕ → View → Type 0) (vs : List View) (me : ℕ) (w : View) → K me w → ((j : ℕ) (d : View) → j ≢ me → get_elem? vs j ≡ some d → K j d)
    → (j : ℕ) (d : View) → get_elem? (set vs me w) j ≡ some d → K j d
seats_stay K vs me w mine others j d e = ⊎_elim (λ (t : (j ≡ me) × (w ≡ d)). subst (λ (x : ℕ × View). K x.0 x.1) (λ i. (sym t.0 i, t.1 i)) mine)
    (λ (t : (j ≢ me) × (get_elem? vs j ≡ some d)). others j d t.0 t.1) (at_set vs me j w d e)

pub same_view : (vs : List View) (o me : ℕ) (v d : View) → get_elem? vs me ≡ some v → get_elem? vs o ≡ some d → o ≡ me → v ≡ d
same_view vs o me v d here there e = some-injective v d (sym here ∙ (ap (λ (k : ℕ). get_elem? vs k) (sym e) ∙ there))

pub turned_stay : (vs : List View) (o me : ℕ) (v w : View) (stage : Stage) → get_elem? vs me ≡ some v → v.stage ≢ stage → Turned vs o stage → Turned (set vs me w) o stage
turned_stay vs o me v w stage here ne t = let other : o ≢ me = λ e. ne (ap (λ (x : View). x.stage) (same_view vs o me v t.0 here t.1 e) ∙ t.2) in (t.0, set_else vs me o w other ∙ t.1, t.2)
