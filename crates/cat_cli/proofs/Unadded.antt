-- What holds of a keeper to which nothing is added stays so through its calls.
use Rattle.std.proofs.Common.{◌≡◌, ◌≤◌, ◌+◌, ◌⊎◌, inl, inr, ⊎_elim, ℕ, List, [], ◌∷◌, ◌++◌, length, Option, Some, None, Result, Ok, Err, refl, sym, ◌∙◌, ap, subst, arith, length-append}
use Rattle.std.specs.Prelude.{◌↔◌, IfSome, IsErrOf, OnOk, OnErr}
use Rattle.cat_io.specs.Crashes.{LeavesOnly, Told}
use Rattle.cat_keeper.specs.declared.fault.KeepFault.{KeepFault}
use Rattle.cat_keeper.specs.declared.fault.KeepFault.TheVariants.{Fault, Down, NoMemory}
use Rattle.cat_cli.specs.Unadded.{IsStillSo, count_told}

pub equal_told : (told told' : Option (List (List ℕ))) → told' ≡ told → Told told told' (λ a b. b ≡ a)
equal_told told told' is = subst (λ (t : Option (List (List ℕ))). Told told t (λ a b. b ≡ a)) (sym is) (itself told)
  where
    itself : (t : Option (List (List ℕ))) → Told t t (λ a b. b ≡ a)
    itself None = tt
    itself (Some ps) = refl

not_idle : (p : List ℕ) → ◌≡◌ {A = Option (List ℕ)} (Some p) None → ⊥
not_idle p e = cc

module _ {K : Type 0} (in_flight : K → Option (List ℕ)) (moment : K → ℕ) (bytes_left : K → List ℕ → Type 0) (bytes_since : K → ℕ → List ℕ → Type 0) (since count : ℕ) (past : ℕ → List ℕ → Type 0) (began : List ℕ → Type 0)
    (counts_now : (k : K) (t : ℕ) (b : List ℕ) → t ≤ moment k → bytes_left k b → bytes_since k t b) where
  -- what holds of a keeper with these payloads
  abbrev pub So : K → List (List ℕ) → Type 0
  So k ps = IsStillSo since count past began (in_flight k) (moment k) (bytes_left k) (bytes_since k) ps

  same : (old new : K) (ps qs : List (List ℕ)) → qs ≡ ps → in_flight new ≡ in_flight old → LeavesOnly moment bytes_since old new (bytes_left old) → So old ps → So new qs
  same old new ps qs is flies run s = record {
    later = omega (arith, s.later, run.later);
    many = omega (arith, s.many, ap length is);
    left = λ none few b now. s.left (sym flies ∙ none) (sym (ap length is) ∙ few) b (run.each b (counts_now new (moment old) b run.later now));
    each = λ none few t b le left. ⊎_elim (s.each (sym flies ∙ none) (sym (ap length is) ∙ few) t b le) (λ now. inr (s.left (sym flies ∙ none) (sym (ap length is) ∙ few) b now)) (run.before t b (omega (arith, le, s.later)) left);
  }

  -- a call that adds nothing
  pub stays : (told told' : Option (List (List ℕ))) (old new : K) → Told told told' (λ a b. b ≡ a) → in_flight new ≡ in_flight old → LeavesOnly moment bytes_since old new (bytes_left old)
      → IfSome told (So old) → IfSome told' (So new)
  stays None None old new is flies run s = tt
  stays None (Some qs) old new is flies run s = absurd is
  stays (Some ps) None old new is flies run s = absurd is
  stays (Some ps) (Some qs) old new is flies run s = same old new ps qs is flies run s

  grown : (told told' : Option (List (List ℕ))) (old new : K) (p : List ℕ) → Told told told' (λ a b. b ≡ a ++ p ∷ []) → moment old ≤ moment new → IfSome told (So old) → IfSome told' (So new)
  grown None None old new p is on s = tt
  grown None (Some qs) old new p is on s = absurd is
  grown (Some ps) None old new p is on s = absurd is
  grown (Some ps) (Some qs) old new p is on s =
      let more : length qs ≡ length ps + 1 = ap length is ∙ length-append ps (p ∷ []) in
      record {
        later = omega (arith, s.later, on);
        many = omega (arith, s.many, more);
        left = λ none few. absurd (omega (arith, few, more, s.many));
        each = λ none few. absurd (omega (arith, few, more, s.many));
      }

  fallen : (told told' : Option (List (List ℕ))) (old new : K) (p : List ℕ) → Told told told' (λ a b. b ≡ a) → in_flight new ≡ Some p → moment old ≤ moment new → IfSome told (So old) → IfSome told' (So new)
  fallen None None old new p is flies on s = tt
  fallen None (Some qs) old new p is flies on s = absurd is
  fallen (Some ps) None old new p is flies on s = absurd is
  fallen (Some ps) (Some qs) old new p is flies on s = record {
    later = omega (arith, s.later, on);
    many = omega (arith, s.many, ap length is);
    left = λ none few. absurd (not_idle p (sym flies ∙ none));
    each = λ none few. absurd (not_idle p (sym flies ∙ none));
  }

  up_of : (down : Option ℕ) → ((c : ℕ) → down ≡ Some c → ⊥) → down ≡ None
  up_of None up = refl
  up_of (Some c) up = absurd (up c refl)

  ok_is_not_err : {T : Type 0} (x : T) (e : KeepFault) → IsErrOf (Ok x) e → ⊥
  ok_is_not_err x e is = cc

  -- an append, by its answer
  pub appended : {T : Type 0} (down : Option ℕ) (down' : Option ℕ) (told told' : Option (List (List ℕ))) (old new : K) (p : List ℕ) (faults : ℕ) (Q : List ℕ → Type 0) (r : Result T KeepFault)
      → OnOk r (Told told told' (λ a b. b ≡ a ++ p ∷ []))
      → OnErr r (Told told told' (λ a b. b ≡ a))
      → (IsErrOf r Fault → (down ≡ None) × (down' ≡ Some faults) × (in_flight new ≡ Some p))
      → ((c : ℕ) → IsErrOf r (Down c) ↔ (down ≡ Some c))
      → ((c : ℕ) → down ≡ Some c → (down' ≡ Some c) × (in_flight new ≡ in_flight old))
      → (IsErrOf r NoMemory → ⊥)
      → (down ≡ None → LeavesOnly moment bytes_since old new Q)
      → ((c : ℕ) → down ≡ Some c → LeavesOnly moment bytes_since old new (bytes_left old))
      → IfSome told (So old) → IfSome told' (So new)
  appended down down' told told' old new p faults Q (Ok x) added not_added failed is_down stays_down no_memory images same_images s =
      let was_up : down ≡ None = up_of down (λ c is. ok_is_not_err x (Down c) ((is_down c).1 is)) in
      grown told told' old new p added (images was_up).later s
  appended down down' told told' old new p faults Q (Err Fault) added not_added failed is_down stays_down no_memory images same_images s =
      let fell = failed refl in
      fallen told told' old new p not_added fell.2 (images fell.0).later s
  appended down down' told told' old new p faults Q (Err (Down c)) added not_added failed is_down stays_down no_memory images same_images s =
      let is = (is_down c).0 refl in
      stays told told' old new not_added (stays_down c is).1 (same_images c is) s
  appended down down' told told' old new p faults Q (Err NoMemory) added not_added failed is_down stays_down no_memory images same_images s = absurd (no_memory refl)

-- ---- as it is held, and let go

pub stood : (told : Option (List (List ℕ))) (flying : Option (List ℕ)) (moment : ℕ) (bytes_left : List ℕ → Type 0) (bytes_since : ℕ → List ℕ → Type 0) → IfSome told (IsStillSo moment (count_told told) bytes_since bytes_left flying moment bytes_left bytes_since)
stood None flying moment bytes_left bytes_since = tt
stood (Some ps) flying moment bytes_left bytes_since = record { later = omega arith; many = omega arith; left = λ none few b now. now; each = λ none few t b le left. inl left }

-- nothing was added, so a crash leaves no other bytes than it did
pub record IsKept (since : ℕ) (past : ℕ → List ℕ → Type 0) (began : List ℕ → Type 0) (moment : ℕ) (bytes_left : List ℕ → Type 0) (bytes_since : ℕ → List ℕ → Type 0) : Type 0 where
  pub later : since ≤ moment
  pub left : (b : List ℕ) → bytes_left b → began b
  pub each : (t : ℕ) (b : List ℕ) → t ≤ since → bytes_since t b → past t b ⊎ began b

pub kept : (told told' : Option (List (List ℕ))) (since : ℕ) (past : ℕ → List ℕ → Type 0) (began : List ℕ → Type 0) (flying : Option (List ℕ)) (moment : ℕ) (bytes_left : List ℕ → Type 0) (bytes_since : ℕ → List ℕ → Type 0)
    → told' ≡ told → flying ≡ None → IfSome told' (IsStillSo since (count_told told) past began flying moment bytes_left bytes_since) → IfSome told (λ ps. IsKept since past began moment bytes_left bytes_since)
kept told told' since past began flying moment bytes_left bytes_since is none s = by told (subst (λ (t : Option (List (List ℕ))). IfSome t (IsStillSo since (count_told told) past began flying moment bytes_left bytes_since)) is s)
  where
    by : (t : Option (List (List ℕ))) → IfSome t (IsStillSo since (count_told t) past began flying moment bytes_left bytes_since) → IfSome t (λ ps. IsKept since past began moment bytes_left bytes_since)
    by None s = tt
    by (Some ps) s = record { later = s.later; left = s.left none refl; each = s.each none refl }
