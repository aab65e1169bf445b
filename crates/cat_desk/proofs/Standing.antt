-- Where the value stands while a seat steps.
use Rattle.std.proofs.Common.{◌≡◌, ℕ, List, set, sym, ap, ◌∙◌, subst, Option, Some, None}
use mathlib.Core.Option.{some}
use mathlib.Core.Option.{Option as Maybe}
use lib.ListN.{get_elem?}
use Rattle.cat_model.specs.declared.log_entry.LogEntry.{LogEntry}
use Rattle.cat_model.specs.Drafts.{Open}
use Rattle.cat_model.specs.Mark.{Mark}
use Rattle.cat_model.specs.Turns.{Opened}
use Rattle.cat_desk.specs.Sight.{Stage, Making, Holding, View}
use Rattle.cat_desk.specs.Rule.{Place, home, unborn, out, IsAlone, IsUnborn, Turned, Stands}
use Rattle.cat_desk.proofs.Seats.{same_view, turned_stay}

pub not_alone : (vs : List View) (o me : ℕ) (v : View) (st : Stage) → get_elem? vs me ≡ some v → o ≡ me → ¬ IsAlone v.stage → IsAlone st → Turned vs o st → ⊥
not_alone vs o me v st here e n a t = n (subst IsAlone (sym (ap (λ (x : View). x.stage) (same_view vs o me v t.0 here t.1 e) ∙ t.2)) a)

module _ {V : Type 0} (log : V → List LogEntry) (opened : V → Opened) (mark : V → Mark) (left_open : V → Open) (key : V) where
  abbrev pub Stand : List LogEntry → Mark → Open → ℕ → List (Maybe (Option V)) → List View → Place V → Type 0
  Stand = Stands log opened mark left_open (opened key)

  pub stands_stay : (all : List LogEntry) (now : Mark) (op : Open) (o : ℕ) (hs : List (Maybe (Option V))) (vs : List View) (me : ℕ) (v w : View) (p : Place V) → get_elem? vs me ≡ some v → ¬ IsAlone v.stage → Stand all now op o hs vs p → Stand all now op o hs (set vs me w) p
  stands_stay all now op o hs vs me v w (home x) here n s = s
  stands_stay all now op o hs vs me v w unborn here n s = (s.0, turned_stay vs o me v w Making here (λ e. n (subst IsAlone (sym e) tt)) s.1)
  stands_stay all now op o hs vs me v w out here n s = turned_stay vs o me v w Holding here (λ e. n (subst IsAlone (sym e) tt)) s

  pub stands_at : (all : List LogEntry) (now : Mark) (op : Open) (o o' : ℕ) (hs : List (Maybe (Option V))) (vs : List View) (p : Place V) → ((st : Stage) → IsAlone st → Turned vs o st → o' ≡ o) → Stand all now op o hs vs p → Stand all now op o' hs vs p
  stands_at all now op o o' hs vs (home x) same s = s
  stands_at all now op o o' hs vs unborn same s = (s.0, subst (λ (k : ℕ). Turned vs k Making) (sym (same Making tt s.1)) s.1)
  stands_at all now op o o' hs vs out same s = subst (λ (k : ℕ). Turned vs k Holding) (sym (same Holding tt s)) s

  -- in its turn, a seat that has not taken the value finds it at home
  pub home_at : (all : List LogEntry) (now : Mark) (op : Open) (o : ℕ) (hs : List (Maybe (Option V))) (vs : List View) (me : ℕ) (v : View) (p : Place V) → get_elem? vs me ≡ some v → o ≡ me → ¬ IsAlone v.stage → Stand all now op o hs vs p
      → (x : V) × (get_elem? hs 0 ≡ some (some (Some x))) × (log x ≡ all) × (opened x ≡ opened key) × (mark x ≡ now) × (left_open x ≡ op)
  home_at all now op o hs vs me v (home x) here e n s = (x, s.0, s.1, s.2, s.3, s.4)
  home_at all now op o hs vs me v unborn here e n s = absurd (not_alone vs o me v Making here e n tt s.1)
  home_at all now op o hs vs me v out here e n s = absurd (not_alone vs o me v Holding here e n tt s)

  pub unborn_at : (all : List LogEntry) (now : Mark) (op : Open) (o : ℕ) (hs : List (Maybe (Option V))) (vs : List View) (p : Place V) → IsUnborn p → Stand all now op o hs vs p → get_elem? hs 0 ≡ some (some None)
  unborn_at all now op o hs vs (home x) f s = absurd f
  unborn_at all now op o hs vs unborn f s = s.0
  unborn_at all now op o hs vs out f s = absurd f
