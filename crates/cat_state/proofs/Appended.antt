-- What calls do to what keeps the log.
use Rattle.std.proofs.Common.{◌≡◌, ◌≤◌, ◌+◌, ◌⊎◌, ℕ, inl, List, [], ◌∷◌, ◌++◌, Option, Some, None, Ok, Err, IfSome, refl, sym, ap, subst, ◌∙◌, arith}
use Rattle.sha2.specs.Sha256.{sha256}
use Rattle.cat_codes.specs.Code.{whole}
use Rattle.cat_frames.specs.Entries.{log_entry_code, of_nobody}
use Rattle.cat_io.specs.Crashes.{LeavesOnly}
use Rattle.cat_io.specs.Crashes as crashes
use Rattle.cat_io.specs.Causes.{Rose}
use Rattle.cat_keeper.specs.declared.fault.KeepFault.TheVariants as KeepFault
use Rattle.cat_keeper.specs.declared.keeper.Keeper.{Ghosts}
use Rattle.cat_keeper.specs.Keeping.{HasKeepCause, WithOrWithout}
use Rattle.cat_keeper.specs.Moments.{followed, started, weaker}
use Rattle.cat_model.specs.declared.log_entry.LogEntry.{LogEntry}
use Rattle.cat_state.specs.Kept.{Fell, Grew, Leaves, LeavesBase, NotRebased, Rebased, Stayed, WithOrWithoutAll, spelling, spellings}

append_none : (ps : List (List ℕ)) → ps ≡ ps ++ []
append_none [] = refl
append_none (p ∷ ps) = ap (λ (l : List (List ℕ)). p ∷ l) (append_none ps)

none_more : (told : Option (List (List ℕ))) → crashes.Told told told (λ before now. now ≡ before ++ [])
none_more None = tt
none_more (Some ps) = append_none ps

if_told : (told : Option (List (List ℕ))) (P : List (List ℕ) → Type 0) → ((ps : List (List ℕ)) → told ≡ Some ps → P ps) → IfSome told P
if_told None P h = tt
if_told (Some ps) P h = h ps refl

module _ {K : Type 0} (members : Ghosts K)
    (safe : (k : K) (ps : List (List ℕ)) (c : Option (List (List ℕ))) → members.down k ≡ None → members.told k ≡ Some ps → members.may_leave k c → c ≡ Some ps)
    (only_now : (k : K) (c : Option (List (List ℕ))) → members.left_since k (members.moment k) c → members.may_leave k c) where
  -- nothing was done
  pub stays : (k : K) → Stayed members k k
  stays k = record { payloads = refl; number = refl; first = refl; format = refl; fallen = refl; flies = refl; level = refl; crash = started members.moment members.left_since k (members.may_leave k) (only_now k) }

  -- nothing was done, and nothing was to be logged
  pub grows_none : (k : K) → members.down k ≡ None → Grew members k k []
  grows_none k up = record { payloads = none_more (members.told k); read = tt; number = omega arith; first = refl; format = refl; up = up; level = refl; crash = started members.moment members.left_since k (members.may_leave k) (only_now k) }

  -- what one might have left before is one of the payloads without more
  without : (k : K) (entries : List LogEntry) (c : Option (List (List ℕ))) → members.down k ≡ None → members.may_leave k c → WithOrWithoutAll (members.told k) entries c
  without k entries c up now = if_told (members.told k) (λ ps. (c ≡ Some ps) ⊎ (c ≡ Some (ps ++ spellings entries))) (λ ps is. inl (safe k ps c up is now))

  pub leaves_any : (old new : K) (logged : List LogEntry) → members.down old ≡ None → LeavesOnly members.moment members.left_since old new (members.may_leave old) → Leaves members old new logged
  leaves_any old new [] up run = run
  leaves_any old new (entry ∷ entries) up run = weaker members.moment members.left_since old new (members.may_leave old) (WithOrWithoutAll (members.told old) (entry ∷ entries)) run (λ c now. without old (entry ∷ entries) c up now)

  -- room was made, and an entry was appended or not
  pub appended : (old mid new : K) (entry : LogEntry) (bytes : List ℕ) → members.down old ≡ None → members.told mid ≡ members.told old → bytes ≡ spelling entry → LeavesOnly members.moment members.left_since old mid (members.may_leave old)
      → LeavesOnly members.moment members.left_since mid new (λ c. IfSome (members.told mid) (λ ps. WithOrWithout ps bytes c)) → Leaves members old new (entry ∷ [])
  appended old mid new entry bytes up same spelled one two =
      followed members.moment members.left_since old mid new (members.may_leave old) (λ c. IfSome (members.told mid) (λ ps. WithOrWithout ps bytes c)) (WithOrWithoutAll (members.told old) (entry ∷ [])) one two
      (λ c now. without old (entry ∷ []) c up now)
      (λ c now. subst (λ (b : List ℕ). IfSome (members.told old) (λ ps. WithOrWithout ps b c)) spelled (subst (λ (t : Option (List (List ℕ))). IfSome t (λ ps. WithOrWithout ps bytes c)) same now))

  pub told_more : (old mid new : K) (entry : LogEntry) (bytes : List ℕ) → members.told mid ≡ members.told old → bytes ≡ spelling entry → crashes.Told (members.told mid) (members.told new) (λ before now. now ≡ before ++ bytes ∷ []) → crashes.Told (members.told old) (members.told new) (λ before now. now ≡ before ++ spellings (entry ∷ []))
  told_more old mid new entry bytes same spelled now =
      subst (λ (b : List ℕ). crashes.Told (members.told old) (members.told new) (λ before now. now ≡ before ++ b ∷ [])) spelled (subst (λ (t : Option (List (List ℕ))). crashes.Told t (members.told new) (λ before now. now ≡ before ++ bytes ∷ [])) same now)

  pub told_same : (old mid new : K) → members.told mid ≡ members.told old → crashes.Told (members.told mid) (members.told new) (λ before now. now ≡ before) → crashes.Told (members.told old) (members.told new) (λ before now. now ≡ before)
  told_same old mid new same now = subst (λ (t : Option (List (List ℕ))). crashes.Told t (members.told new) (λ before now. now ≡ before)) same now

  pub appended_ok : (old mid new : K) (entry : LogEntry) (bytes : List ℕ) → members.down old ≡ None → Stayed members old mid → bytes ≡ spelling entry → whole (log_entry_code sha256) bytes ≡ Ok (of_nobody entry) → crashes.Told (members.told mid) (members.told new) (λ before now. now ≡ before ++ bytes ∷ [])
      → members.kept new ≡ members.kept mid + 1 → members.start new ≡ members.start mid → members.form new ≡ members.form mid → members.down new ≡ None → members.faults new ≡ members.faults mid → LeavesOnly members.moment members.left_since mid new (λ c. IfSome (members.told mid) (λ ps. WithOrWithout ps bytes c)) → Grew members old new (entry ∷ [])
  appended_ok old mid new entry bytes up room spelled again payloads number first format is_up level run = record {
    payloads = told_more old mid new entry bytes room.payloads spelled payloads;
    read = (ap (whole (log_entry_code sha256)) (sym spelled) ∙ again, tt);
    number = number ∙ ap (λ (k : ℕ). k + 1) room.number;
    first = first ∙ room.first;
    format = format ∙ room.format;
    up = is_up;
    level = level ∙ room.level;
    crash = appended old mid new entry bytes up room.payloads spelled room.crash run;
  }

  pub append_failed : (old mid new : K) (entry : LogEntry) (bytes : List ℕ) → members.down old ≡ None → Stayed members old mid → bytes ≡ spelling entry → whole (log_entry_code sha256) bytes ≡ Ok (of_nobody entry) → crashes.Told (members.told mid) (members.told new) (λ before now. now ≡ before)
      → members.kept new ≡ members.kept mid → members.start new ≡ members.start mid → members.form new ≡ members.form mid → members.down new ≡ Some (members.faults new) → members.in_flight new ≡ Some bytes → HasKeepCause {T = Unit {0}} (members.faults mid) (members.faults new) (Err KeepFault.Fault) → LeavesOnly members.moment members.left_since mid new (λ c. IfSome (members.told mid) (λ ps. WithOrWithout ps bytes c)) → Fell members old new (entry ∷ [])
  append_failed old mid new entry bytes up room spelled again payloads number first format fallen flies cause run = record {
    entry = entry;
    one = refl;
    flies = flies ∙ ap (λ (b : List ℕ). Some b) spelled;
    read = ap (whole (log_entry_code sha256)) (sym spelled) ∙ again;
    payloads = told_same old mid new room.payloads payloads;
    number = number ∙ room.number;
    first = first ∙ room.first;
    format = format ∙ room.format;
    fallen = fallen;
    later = subst (λ (n : ℕ). n ≤ members.faults new) room.level cause.0;
    rose = subst (λ (n : ℕ). Rose n (members.faults new)) room.level cause.1;
    crash = appended old mid new entry bytes up room.payloads spelled room.crash run;
  }

  -- ---- a base

  -- what one might have left before is the payloads
  as_before : (k : K) (bytes : List ℕ) (c : Option (List (List ℕ))) → members.down k ≡ None → members.may_leave k c → IfSome (members.told k) (λ ps. WithOrWithout ps bytes c)
  as_before k bytes c up now = if_told (members.told k) (λ ps. WithOrWithout ps bytes c) (λ ps is. inl (safe k ps c up is now))

  pub leaves_base : (old new : K) (bytes : List ℕ) → members.down old ≡ None → LeavesOnly members.moment members.left_since old new (members.may_leave old) → LeavesBase members old new bytes
  leaves_base old new bytes up run = weaker members.moment members.left_since old new (members.may_leave old) (λ c. IfSome (members.told old) (λ ps. WithOrWithout ps bytes c)) run (λ c now. as_before old bytes c up now)

  -- room was made, and a base was kept or not
  rebased : (old mid new : K) (bytes : List ℕ) → members.down old ≡ None → members.told mid ≡ members.told old → LeavesOnly members.moment members.left_since old mid (members.may_leave old)
      → LeavesOnly members.moment members.left_since mid new (λ c. IfSome (members.told mid) (λ ps. WithOrWithout ps bytes c)) → LeavesBase members old new bytes
  rebased old mid new bytes up same one two =
      followed members.moment members.left_since old mid new (members.may_leave old) (λ c. IfSome (members.told mid) (λ ps. WithOrWithout ps bytes c)) (λ c. IfSome (members.told old) (λ ps. WithOrWithout ps bytes c)) one two
      (λ c now. as_before old bytes c up now)
      (λ c now. subst (λ (t : Option (List (List ℕ))). IfSome t (λ ps. WithOrWithout ps bytes c)) same now)

  pub rebased_ok : (old mid new : K) (place : ℕ) (bytes : List ℕ) → members.down old ≡ None → Stayed members old mid → crashes.Told (members.told mid) (members.told new) (λ before now. now ≡ before ++ bytes ∷ [])
      → members.kept new ≡ 0 → members.start new ≡ place → members.form new ≡ members.form mid → members.down new ≡ None → members.faults new ≡ members.faults mid → LeavesOnly members.moment members.left_since mid new (λ c. IfSome (members.told mid) (λ ps. WithOrWithout ps bytes c)) → Rebased members old new place bytes
  rebased_ok old mid new place bytes up room payloads number first format is_up level run = record {
    payloads = subst (λ (t : Option (List (List ℕ))). crashes.Told t (members.told new) (λ before now. now ≡ before ++ bytes ∷ [])) room.payloads payloads;
    number = number;
    first = first;
    format = format ∙ room.format;
    up = is_up;
    level = level ∙ room.level;
    crash = rebased old mid new bytes up room.payloads room.crash run;
  }

  pub rebase_failed : (old mid new : K) (bytes : List ℕ) → members.down old ≡ None → Stayed members old mid → crashes.Told (members.told mid) (members.told new) (λ before now. now ≡ before)
      → members.kept new ≡ members.kept mid → members.start new ≡ members.start mid → members.form new ≡ members.form mid → members.down new ≡ Some (members.faults new) → members.in_flight new ≡ Some bytes → HasKeepCause {T = Unit {0}} (members.faults mid) (members.faults new) (Err KeepFault.Fault)
      → LeavesOnly members.moment members.left_since mid new (λ c. IfSome (members.told mid) (λ ps. WithOrWithout ps bytes c)) → NotRebased members old new bytes
  rebase_failed old mid new bytes up room payloads number first format fallen flies cause run = record {
    flies = flies;
    payloads = told_same old mid new room.payloads payloads;
    number = number ∙ room.number;
    first = first ∙ room.first;
    format = format ∙ room.format;
    fallen = fallen;
    later = subst (λ (n : ℕ). n ≤ members.faults new) room.level cause.0;
    rose = subst (λ (n : ℕ). Rose n (members.faults new)) room.level cause.1;
    crash = rebased old mid new bytes up room.payloads room.crash run;
  }
