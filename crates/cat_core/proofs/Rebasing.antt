-- A store is in step with its keeper after a checkpoint.
use Rattle.std.proofs.Common.{◌≡◌, ℕ, inl, List, true, reverse, Option, Some, None, IfSome, refl, sym, subst, ◌∙◌, arith}
use Rattle.sha2.specs.Sha256.{sha256}
use Rattle.cat_frames.specs.Checkpoints.{is_checkpoint}
use Rattle.cat_frames.specs.Standing.{may_start}
use Rattle.cat_keeper.specs.declared.keeper.Keeper.{Ghosts}
use Rattle.cat_model.specs.Book.{Book}
use Rattle.cat_model.specs.Turns.{Opened}
use Rattle.cat_state.specs.Kept.{NotRebased, Rebased, Stayed, reached}
use Rattle.cat_core.specs.Records.{IsCheckpointAt, IsInFlight, state_at}
use Rattle.cat_core.specs.Stored.{IsInStep}
use Rattle.cat_core.proofs.InStep.{rose_from, still, told_base, told_same}

any_told : (told : Option (List (List ℕ))) (P : List (List ℕ) → Type 0) → ((ps : List (List ℕ)) → P ps) → IfSome told P
any_told None P f = tt
any_told (Some ps) P f = f ps

module _ {K : Type 0} (members : Ghosts K) (old new : K) (o : Opened) (book : Book) (was : IsInStep members o book old None) where
  -- its payload was kept
  pub based_kept : (payload : List ℕ) (drafts : List ℕ) → is_checkpoint payload ≡ true → IsCheckpointAt o (reverse book.log) drafts payload → may_start sha256 (state_at o (reverse book.log)) ≡ true → Rebased members old new book.state.place payload → IsInStep members o book new None
  based_kept payload drafts kind made may keeps = record {
    payloads = told_base o (members.told old) (members.told new) book.log payload drafts kind made may was.payloads keeps.payloads;
    number = omega (arith, keeps.first, keeps.number);
    fallen = keeps.up;
    level = keeps.level ∙ was.level;
    rose = tt;
    flies = tt;
  }

  -- it wasn't, and the store is down
  pub based_fell : (payload : List ℕ) (drafts : List ℕ) (caller : ℕ) → IsCheckpointAt o (reverse book.log) drafts payload → may_start sha256 (state_at o (reverse book.log)) ≡ true → NotRebased members old new payload → IsInStep members o book new (Some (record { caller = caller; count = members.faults new }))
  based_fell payload drafts caller made may keeps =
      let number : reached members old ≡ book.state.place = was.number in
      record {
        payloads = told_same o (members.told old) (members.told new) book.log was.payloads keeps.payloads;
        number = omega (arith, number, keeps.first, keeps.number);
        fallen = keeps.fallen;
        level = refl;
        rose = rose_from o.faults (members.faults old) (members.faults new) was.level keeps.later keeps.rose;
        flies = subst (λ (t : Option (List ℕ)). IfSome t (λ p. IfSome (members.told new) (IsInFlight o (reverse book.log) p))) (sym keeps.flies) (any_told (members.told new) (IsInFlight o (reverse book.log) payload) (λ ps. inl (drafts, made, may)));
      }

  -- none was made
  pub based_stayed : Stayed members old new → IsInStep members o book new None
  based_stayed keeps =
      let number : reached members old ≡ book.state.place = was.number in
      record {
        payloads = still members.told o old new book book keeps.payloads refl was.payloads;
        number = omega (arith, number, keeps.first, keeps.number);
        fallen = keeps.fallen ∙ was.fallen;
        level = keeps.level ∙ was.level;
        rose = tt;
        flies = tt;
      }
