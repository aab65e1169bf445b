-- What a crash leaves while a journal is opened.
use Rattle.std.proofs.Common.{◌≡◌, ◌≤◌, ℕ, List, [], ◌∷◌, length, Option, Some, None, inl, inr, sym, ◌∙◌, arith}
use Rattle.std.specs.Prelude.{IfSome}
use Rattle.cat_io.specs.Crashes.{Among, Elapses, LeavesOnly, Told}
use Rattle.cat_keeper.specs.Moments.{started, goes_on, followed, weaker}
use Rattle.cat_journal.specs.Reading.{OpensOnly}

-- the disk has no bytes
pub is_empty : (t t' : Option (List ℕ)) (len : ℕ) → IfSome t (λ bytes. len ≡ length bytes) → len ≡ 0 → Told t t' (λ a b. b ≡ a) → IfSome t' (λ bytes. bytes ≡ [])
is_empty None None len is none same = tt
is_empty None (Some b) len is none same = absurd same
is_empty (Some a) None len is none same = absurd same
is_empty (Some []) (Some b) len is none same = same
is_empty (Some (x ∷ xs)) (Some b) len is none same = absurd (omega (arith, is, none))

module _ {D : Type 0} (may_leave : D → List ℕ → Type 0) (moment : D → ℕ) (left_since : D → ℕ → List ℕ → Type 0) where
  -- one call that writes nothing
  pub quiet : (old new : D) → ((c : List ℕ) → left_since old (moment old) c → may_leave old c) → Elapses (moment old) (moment new) (left_since old) (left_since new) (may_leave new)
      → Among (may_leave old) (may_leave new) → LeavesOnly moment left_since old new (may_leave old)
  quiet old new only_now time among = goes_on moment left_since old old new (may_leave old) (may_leave new) (started moment left_since old (may_leave old) only_now) time among

  -- and what does so after it
  pub quiet_on : (old mid new : D) → LeavesOnly moment left_since old mid (may_leave old) → Among (may_leave old) (may_leave mid) → LeavesOnly moment left_since mid new (may_leave mid)
      → LeavesOnly moment left_since old new (may_leave old)
  quiet_on old mid new one among two = followed moment left_since old mid new (may_leave old) (may_leave mid) (may_leave old) one two (λ c p. p) among

  -- a journal that isn't made anew
  pub opens : (told : Option (List ℕ)) (old new : D) → LeavesOnly moment left_since old new (may_leave old) → IfSome told (OpensOnly may_leave moment left_since old new)
  opens None old new run = tt
  opens (Some bytes) old new run = weaker moment left_since old new (may_leave old) _ run (λ c p. inl p)

  -- one that is
  pub makes : (told told' : Option (List ℕ)) (old mid new : D) → LeavesOnly moment left_since old mid (may_leave old) → Told told told' (λ a b. b ≡ a) → IfSome told' (λ bytes. bytes ≡ [])
      → IfSome told' (λ _. LeavesOnly moment left_since mid new (λ c. length c ≤ 17)) → IfSome told (OpensOnly may_leave moment left_since old new)
  makes None told' old mid new run same none short = tt
  makes (Some a) None old mid new run same none short = absurd same
  makes (Some a) (Some b) old mid new run same none short =
      followed moment left_since old mid new (may_leave old) (λ c. length c ≤ 17) _ run short (λ c p. inl p) (λ c few. inr (sym same ∙ none, few))
