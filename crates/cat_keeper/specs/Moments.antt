-- What a crash may leave at each moment of a run of calls. An image may be bytes, or what bytes recover to.
use Rattle.std.specs.Prelude.{ℕ, ◌⊎◌}
use Rattle.std.proofs.Common.{inl, inr, ⊎_elim, arith}
use Rattle.cat_io.specs.Crashes.{Elapses, LeavesOnly}

-- the images are a part of the earlier ones
abbrev pub Within : {A : Type 0} → (A → Type 0) → (A → Type 0) → Type 0
Within {A} before now = (c : A) → now c → before c

module _ {D A : Type 0} (moment : D → ℕ) (left_since : D → ℕ → A → Type 0) where
  -- before the first call
  pub started : (old : D) (P : A → Type 0) → ((c : A) → left_since old (moment old) c → P c) → LeavesOnly moment left_since old old P
  started old P here = record { later = omega arith; each = here; before = λ t c le left. inl left }

  -- one call more, after which a crash leaves what has P
  pub goes_on : (old mid new : D) (P may_leave : A → Type 0) → LeavesOnly moment left_since old mid P → Elapses (moment mid) (moment new) (left_since mid) (left_since new) may_leave
      → ((c : A) → may_leave c → P c) → LeavesOnly moment left_since old new P
  goes_on old mid new P may_leave so_far time here = record {
    later = omega (arith, so_far.later, time.later);
    each = λ c left. ⊎_elim (so_far.each c) (here c) (time.nothing_else (moment old) c so_far.later left);
    before = λ t c le left. ⊎_elim (so_far.before t c le) (λ now. inr (here c now)) (time.nothing_else t c (omega (arith, le, so_far.later)) left);
  }

  -- one run after another
  pub followed : (old mid new : D) (P Q R : A → Type 0) → LeavesOnly moment left_since old mid P → LeavesOnly moment left_since mid new Q
      → ((c : A) → P c → R c) → ((c : A) → Q c → R c) → LeavesOnly moment left_since old new R
  followed old mid new P Q R one two p q = record {
    later = omega (arith, one.later, two.later);
    each = λ c left. ⊎_elim (λ l. p c (one.each c l)) (λ l. q c l) (two.before (moment old) c one.later left);
    before = λ t c le left. ⊎_elim (λ l. ⊎_elim (λ a. inl a) (λ b. inr (p c b)) (one.before t c le l)) (λ l. inr (q c l)) (two.before t c (omega (arith, le, one.later)) left);
  }

  -- one run, of which less is said
  pub weaker : (old new : D) (P R : A → Type 0) → LeavesOnly moment left_since old new P → ((c : A) → P c → R c) → LeavesOnly moment left_since old new R
  weaker old new P R one p = record {
    later = one.later;
    each = λ c left. p c (one.each c left);
    before = λ t c le left. ⊎_elim (λ a. inl a) (λ b. inr (p c b)) (one.before t c le left);
  }
