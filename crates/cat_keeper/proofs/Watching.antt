-- What is watched stays so through the calls of a keeper.
use Rattle.std.proofs.Common.{◌≡◌, ◌≤◌, ◌+◌, ◌⊎◌, inl, inr, ⊎_elim, ℕ, List, [], ◌∷◌, ◌++◌, length, Option, Some, None, Result, Ok, Err, refl, sym, ◌∙◌, ap, ap₂, subst, arith, length-append, append_assoc}
use Rattle.std.specs.Prelude.{◌↔◌, IfSome, IsErrOf, OnOk, OnErr}
use Rattle.std.proofs.lemmas.List.{take_all, take_at, take-append-le}
use Rattle.cat_io.specs.Crashes.{LeavesOnly, Told, never_known}
use Rattle.cat_keeper.specs.declared.fault.KeepFault.{KeepFault}
use Rattle.cat_keeper.specs.declared.fault.KeepFault.TheVariants.{Fault, Down, NoMemory}
use Rattle.cat_keeper.specs.Keeping.{WithOrWithout}
use Rattle.cat_keeper.specs.Watching.{with_flying, GoOn, IsFrontOf, IsWatchedSo}

-- no bytes are known of it
pub no_bytes : {K : Type 0} (moment : K → ℕ) (old new : K) (P : List ℕ → Type 0) → moment old ≤ moment new → LeavesOnly moment (λ _. never_known) old new P
no_bytes moment old new P later = record { later = later; each = λ b left. absurd left; before = λ t b le left. absurd left }

-- ---- fronts

-- a front of a list is one of a longer list
longer : (least : ℕ) (ps : List (List ℕ)) (p : List ℕ) (c : Option (List (List ℕ))) → IsFrontOf least ps c → IsFrontOf least (ps ++ p ∷ []) c
longer least ps p c front =
    (front.0, front.1, omega (arith, front.2, length-append ps (p ∷ [])), front.3 ∙ ap (λ (l : List (List ℕ)). Some l) (sym (take-append-le front.0 ps (p ∷ []) front.2)))

-- the payloads, or these and one more
whole : (least : ℕ) (ps : List (List ℕ)) (p : List ℕ) (c : Option (List (List ℕ))) → least ≤ length ps → WithOrWithout ps p c → IsFrontOf least (ps ++ p ∷ []) c
whole least ps p c many either =
    let size : length (ps ++ p ∷ []) ≡ length ps + 1 = length-append ps (p ∷ []) in
    ⊎_elim
    (λ (e : c ≡ Some ps). (length ps, many, omega (arith, size), e ∙ ap (λ (l : List (List ℕ)). Some l) (sym (take_at ps (p ∷ []) (length ps) refl))))
    (λ (e : c ≡ Some (ps ++ p ∷ [])). (length (ps ++ p ∷ []), omega (arith, size, many), omega arith, e ∙ ap (λ (l : List (List ℕ)). Some l) (sym (take_all (length (ps ++ p ∷ [])) (ps ++ p ∷ []) (omega arith)))))
    either

-- payloads that go on from others are as many at least
as_many : (had ps : List (List ℕ)) → GoOn had ps → length had ≤ length ps
as_many had ps on = omega (arith, ap length on.1, length-append had on.0)

pub equal_told : (told told' : Option (List (List ℕ))) → told' ≡ told → Told told told' (λ a b. b ≡ a)
equal_told told told' is = subst (λ (t : Option (List (List ℕ))). Told told t (λ a b. b ≡ a)) (sym is) (itself told)
  where
    itself : (t : Option (List (List ℕ))) → Told t t (λ a b. b ≡ a)
    itself None = tt
    itself (Some ps) = refl

up_of : (down : Option ℕ) → ((c : ℕ) → down ≡ Some c → ⊥) → down ≡ None
up_of None up = refl
up_of (Some c) up = absurd (up c refl)

ok_is_not_err : {T : Type 0} (x : T) (e : KeepFault) → IsErrOf (Ok x) e → ⊥
ok_is_not_err x e is = cc

-- ---- the calls

module _ {K : Type 0} (in_flight : K → Option (List ℕ)) (moment : K → ℕ) (stands_for : List ℕ → Option (List (List ℕ))) (bytes_left : K → List ℕ → Type 0) (bytes_since : K → ℕ → List ℕ → Type 0) (since : ℕ) (had : List (List ℕ)) (before : List ℕ → Type 0)
    (counts_now : (k : K) (t : ℕ) (b : List ℕ) → t ≤ moment k → bytes_left k b → bytes_since k t b) where
  -- what is watched of a keeper with these payloads
  abbrev pub So : K → List (List ℕ) → Type 0
  So k ps = IsWatchedSo stands_for since had before (in_flight k) (moment k) (bytes_since k) ps

  same : (old new : K) (ps qs : List (List ℕ)) → qs ≡ ps → in_flight new ≡ in_flight old → LeavesOnly moment bytes_since old new (bytes_left old) → So old ps → So new qs
  same old new ps qs is flies run w =
      let all : with_flying ps (in_flight old) ≡ with_flying qs (in_flight new) = ap₂ with_flying (sym is) (sym flies) in
      record {
        later = omega (arith, w.later, run.later);
        goes_on = subst (GoOn had) (sym is) w.goes_on;
        each = λ b left. subst (λ l. before b ⊎ IsFrontOf (length had) l (stands_for b)) all (w.each b (⊎_elim (λ was. was) (λ now. counts_now old since b w.later now) (run.before since b w.later left)));
      }

  -- a call that adds nothing
  pub stays : (told told' : Option (List (List ℕ))) (old new : K) → Told told told' (λ a b. b ≡ a) → in_flight new ≡ in_flight old → LeavesOnly moment bytes_since old new (bytes_left old)
      → IfSome told (So old) → IfSome told' (So new)
  stays None None old new is flies run w = tt
  stays None (Some qs) old new is flies run w = absurd is
  stays (Some ps) None old new is flies run w = absurd is
  stays (Some ps) (Some qs) old new is flies run w = same old new ps qs is flies run w

  -- an append, whose payload is added, or in flight
  more : (old new : K) (ps qs : List (List ℕ)) (p : List ℕ) → GoOn had qs → with_flying qs (in_flight new) ≡ ps ++ p ∷ [] → in_flight old ≡ None
      → LeavesOnly moment bytes_since old new (λ b. WithOrWithout ps p (stands_for b)) → So old ps → So new qs
  more old new ps qs p goes_on all none run w = record {
    later = omega (arith, w.later, run.later);
    goes_on = goes_on;
    each = λ b left. subst (λ l. before b ⊎ IsFrontOf (length had) l (stands_for b)) (sym all)
        (⊎_elim
        (λ was. ⊎_elim (λ early. inl early) (λ front. inr (longer (length had) ps p (stands_for b) front)) (subst (λ f. before b ⊎ IsFrontOf (length had) (with_flying ps f) (stands_for b)) none (w.each b was)))
        (λ now. inr (whole (length had) ps p (stands_for b) (as_many had ps w.goes_on) now))
        (run.before since b w.later left));
  }

  grown : (told told' : Option (List (List ℕ))) (old new : K) (p : List ℕ) → Told told told' (λ a b. b ≡ a ++ p ∷ []) → in_flight old ≡ None → in_flight new ≡ None
      → LeavesOnly moment bytes_since old new (λ b. IfSome told (λ ps. WithOrWithout ps p (stands_for b))) → IfSome told (So old) → IfSome told' (So new)
  grown None None old new p is none none' run w = tt
  grown None (Some qs) old new p is none none' run w = absurd is
  grown (Some ps) None old new p is none none' run w = absurd is
  grown (Some ps) (Some qs) old new p is none none' run w =
      more old new ps qs p (w.goes_on.0 ++ p ∷ [], is ∙ ap (λ (l : List (List ℕ)). l ++ p ∷ []) w.goes_on.1 ∙ append_assoc had w.goes_on.0 (p ∷ [])) (ap (with_flying qs) none' ∙ is) none run w

  fallen : (told told' : Option (List (List ℕ))) (old new : K) (p : List ℕ) → Told told told' (λ a b. b ≡ a) → in_flight old ≡ None → in_flight new ≡ Some p
      → LeavesOnly moment bytes_since old new (λ b. IfSome told (λ ps. WithOrWithout ps p (stands_for b))) → IfSome told (So old) → IfSome told' (So new)
  fallen None None old new p is none flies run w = tt
  fallen None (Some qs) old new p is none flies run w = absurd is
  fallen (Some ps) None old new p is none flies run w = absurd is
  fallen (Some ps) (Some qs) old new p is none flies run w =
      more old new ps qs p (subst (GoOn had) (sym is) w.goes_on) (ap (with_flying qs) flies ∙ ap (λ (l : List (List ℕ)). l ++ p ∷ []) is) none run w

  -- by its answer
  pub appended : {T : Type 0} (down : K → Option ℕ) (waits : (k : K) → down k ≡ None → in_flight k ≡ None) (told told' : Option (List (List ℕ))) (old new : K) (p : List ℕ) (count : ℕ) (r : Result T KeepFault)
      → OnOk r (Told told told' (λ a b. b ≡ a ++ p ∷ []))
      → OnOk r (down new ≡ None)
      → OnErr r (Told told told' (λ a b. b ≡ a))
      → (IsErrOf r Fault → (down old ≡ None) × (down new ≡ Some count) × (in_flight new ≡ Some p))
      → ((c : ℕ) → IsErrOf r (Down c) ↔ (down old ≡ Some c))
      → ((c : ℕ) → down old ≡ Some c → (down new ≡ Some c) × (in_flight new ≡ in_flight old))
      → (IsErrOf r NoMemory → ⊥)
      → (down old ≡ None → LeavesOnly moment bytes_since old new (λ b. IfSome told (λ ps. WithOrWithout ps p (stands_for b))))
      → ((c : ℕ) → down old ≡ Some c → LeavesOnly moment bytes_since old new (bytes_left old))
      → IfSome told (So old) → IfSome told' (So new)
  appended down waits told told' old new p count (Ok x) added up not_added failed is_down stays_down no_memory images same_images w =
      let was_up : down old ≡ None = up_of (down old) (λ c is. ok_is_not_err x (Down c) ((is_down c).1 is)) in
      grown told told' old new p added (waits old was_up) (waits new up) (images was_up) w
  appended down waits told told' old new p count (Err Fault) added up not_added failed is_down stays_down no_memory images same_images w =
      let fell = failed refl in
      fallen told told' old new p not_added (waits old fell.0) fell.2 (images fell.0) w
  appended down waits told told' old new p count (Err (Down c)) added up not_added failed is_down stays_down no_memory images same_images w =
      let is = (is_down c).0 refl in
      stays told told' old new not_added (stays_down c is).1 (same_images c is) w
  appended down waits told told' old new p count (Err NoMemory) added up not_added failed is_down stays_down no_memory images same_images w = absurd (no_memory refl)
