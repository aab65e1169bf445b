-- How many bases a keeper has after a call.
use Rattle.std.proofs.Common.{◌≡◌, ℕ, ◌+◌, Bool, true, List, [], ◌∷◌, ◌++◌, Option, Some, None, refl, ap, ◌∙◌, arith}
use Rattle.std.specs.Option.{option_map}
use Rattle.cat_frames.specs.Checkpoints.{is_checkpoint}
use Rattle.cat_io.specs.Crashes as crashes
use Rattle.cat_keeper.specs.declared.keeper.Keeper.{Ghosts}
use Rattle.cat_keeper.specs.Bases.{base_count, bases_in, count_on, count_over}
use Rattle.cat_model.specs.declared.log_entry.LogEntry.{LogEntry}
use Rattle.cat_state.specs.Kept.{Fell, Grew, NotRebased, Rebased, Stayed, spellings}
use Rattle.cat_core.proofs.Records.{entry_is_no_base}

none_count : (log : List LogEntry) → base_count (spellings log) ≡ 0
none_count [] = refl
none_count (e ∷ log) = ap (λ (b : Bool). count_over b (base_count (spellings log))) (entry_is_no_base e) ∙ none_count log

count_same : (before now : Option (List (List ℕ))) → crashes.Told before now (λ old new. new ≡ old) → bases_in now ≡ bases_in before
count_same None None same = refl
count_same None (Some ps) same = absurd same
count_same (Some old) None same = absurd same
count_same (Some old) (Some new) same = ap (λ (l : List (List ℕ)). Some (base_count l)) same

count_more : (before now : Option (List (List ℕ))) (more : List (List ℕ)) → base_count more ≡ 0 → crashes.Told before now (λ old new. new ≡ old ++ more) → bases_in now ≡ bases_in before
count_more None None more none is = refl
count_more None (Some ps) more none is = absurd is
count_more (Some old) None more none is = absurd is
count_more (Some old) (Some new) more none is =
    let n : base_count (old ++ more) ≡ base_count old = omega (arith, none, count_on old more) in
    ap (λ (l : List (List ℕ)). Some (base_count l)) is ∙ ap (λ (k : ℕ). Some k) n

count_based : (before now : Option (List (List ℕ))) (base : List ℕ) → is_checkpoint base ≡ true → crashes.Told before now (λ old new. new ≡ old ++ base ∷ []) → bases_in now ≡ option_map (λ (n : ℕ). n + 1) (bases_in before)
count_based None None base kind is = refl
count_based None (Some ps) base kind is = absurd is
count_based (Some old) None base kind is = absurd is
count_based (Some old) (Some new) base kind is =
    let one : base_count (base ∷ []) ≡ 1 = ap (λ (b : Bool). count_over b 0) kind in
    let n : base_count (old ++ base ∷ []) ≡ base_count old + 1 = omega (arith, one, count_on old (base ∷ [])) in
    ap (λ (l : List (List ℕ)). Some (base_count l)) is ∙ ap (λ (k : ℕ). Some k) n

module _ {K : Type 0} (members : Ghosts K) (old new : K) where
  -- by entries, or where nothing was kept, no more
  pub bases_grew : (logged : List LogEntry) → Grew members old new logged → bases_in (members.told new) ≡ bases_in (members.told old)
  bases_grew logged keeps = count_more (members.told old) (members.told new) (spellings logged) (none_count logged) keeps.payloads

  pub bases_fell : (logged : List LogEntry) → Fell members old new logged → bases_in (members.told new) ≡ bases_in (members.told old)
  bases_fell logged keeps = count_same (members.told old) (members.told new) keeps.payloads

  pub bases_stayed : Stayed members old new → bases_in (members.told new) ≡ bases_in (members.told old)
  bases_stayed keeps = ap bases_in keeps.payloads

  -- by a checkpoint one more, where it was kept
  pub bases_based : (place : ℕ) (payload : List ℕ) → is_checkpoint payload ≡ true → Rebased members old new place payload → bases_in (members.told new) ≡ option_map (λ (n : ℕ). n + 1) (bases_in (members.told old))
  bases_based place payload kind keeps = count_based (members.told old) (members.told new) payload kind keeps.payloads

  pub bases_not_based : (payload : List ℕ) → NotRebased members old new payload → bases_in (members.told new) ≡ bases_in (members.told old)
  bases_not_based payload keeps = count_same (members.told old) (members.told new) keeps.payloads
