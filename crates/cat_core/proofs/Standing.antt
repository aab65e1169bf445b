-- What holds of a store holds of it after a call.
use Rattle.std.proofs.Common.{◌≡◌, ◌≤◌, ℕ, arith, List, reverse, take, Option, Some, None, Result, Ok, Err, true, sym, ap, subst, ◌∙◌}
use Rattle.std.specs.Prelude.{IfSome}
use Rattle.cat_keeper.specs.declared.keeper.Keeper.{Ghosts}
use Rattle.cat_keeper.specs.Bases.{base_of}
use Rattle.cat_model.specs.declared.reply.Told.{Told}
use Rattle.cat_model.specs.Book.{Book}
use Rattle.cat_model.specs.Calls.{Called}
use Rattle.cat_model.specs.Drafts.{OpenDraft}
use Rattle.cat_model.specs.State.{State}
use Rattle.cat_model.specs.Turns.{Opened}
use Rattle.cat_checks.specs.AlikeBooks.{AreSweptFrom}
use Rattle.cat_checks.specs.Legal.{draft_may_come}
use Rattle.cat_state.specs.declared.failure.Failure.TheVariants as failures
use Rattle.cat_state.specs.declared.unmade.Unmade.{Unmade}
use Rattle.cat_state.specs.declared.unmade.Unmade.TheVariants.{Failed, NotKept}
use Rattle.cat_state.specs.Kept.{Keeps, reached}
use Rattle.cat_core.specs.Making.{Runs}
use Rattle.cat_core.specs.declared.tickets.Fallen.{Fallen}
use Rattle.cat_core.specs.declared.tickets.OpenSweep.{OpenSweep}
use Rattle.cat_core.specs.declared.tickets.Start.{Start}
use Rattle.cat_core.specs.Made.{fallen_by}
use Rattle.cat_core.specs.Records.{MayFollow, StandFor, state_at}
use Rattle.cat_core.specs.Stored.{GoesBehind, IsInStep, IsNumberOfNone, IsSound, opened_held}
use Rattle.cat_core.proofs.Behind.{behind_made, call_told}
use Rattle.cat_core.proofs.InStep.{LogsRight, in_step}
use Rattle.cat_core.proofs.Sound.{IsCallIn, sound_called}

book_is : (a b : Book) → a.state ≡ b.state → a.draft ≡ b.draft → a.log ≡ b.log → a.base ≡ b.base → b ≡ a
book_is a b state draft log base = λ i. record { state = sym state i; draft = sym draft i; log = sym log i; base = sym base i }

-- the book is sound
pub sound_made : (caller number : ℕ) (o : Opened) (before after : Book) (open_drafts : List OpenDraft) (called : Called) (made : Result Told Unmade) → Runs called before after made → IsCallIn caller number before called → draft_may_come o number ≡ true → number ≤ before.draft → IsSound o before open_drafts → IsNumberOfNone number open_drafts
    → IsSound o after open_drafts
sound_made caller number o before after open_drafts called (Ok told) runs is comes below sound none =
    subst (λ (b : Book). IsSound o b open_drafts) (sym runs.book) (sound_called caller number o before open_drafts open_drafts sound comes below sound.waiting none called is)
sound_made caller number o before after open_drafts called (Err NotKept) runs is comes below sound none =
    subst (λ (b : Book). IsSound o b open_drafts) (book_is after before runs.state (runs.draft ∙ is.draft) runs.log runs.base) sound
sound_made caller number o before after open_drafts called (Err (Failed failures.NoMemory)) runs is comes below sound none =
    let low : before.draft ≤ after.draft = runs.kept in
    let high : after.draft ≤ before.draft = subst (λ (n : ℕ). after.draft ≤ n) is.draft runs.taken in
    let n : after.draft ≡ before.draft = omega arith in
    subst (λ (b : Book). IsSound o b open_drafts) (book_is after before runs.state n runs.log runs.base) sound
sound_made caller number o before after open_drafts called (Err (Failed (failures.Refused why))) runs is comes below sound none =
    subst (λ (b : Book). IsSound o b open_drafts) (sym runs.1.book) (sound_called caller number o before open_drafts open_drafts sound comes below sound.waiting none called is)

module _ {K : Type 0} (members : Ghosts K) where
  -- and the keeper is in step
  pub stands : (old new : K) (caller number : ℕ) (called : Called) (start : Start) (before after : Book) (open_drafts : List OpenDraft) (held : Option OpenSweep) (fallen after_fallen : Option Fallen) (made : Result Told Unmade) → LogsRight called → IsCallIn caller number before called → draft_may_come (opened_held before.base start) number ≡ true → number ≤ before.draft → IsNumberOfNone number open_drafts
      → IfSome (members.told old) (λ ps. MayFollow (opened_held before.base start) (base_of ps) number)
      → ((ps : List (List ℕ)) → members.told old ≡ Some ps → (stand : StandFor (opened_held before.base start) (reverse before.log) ps) → AreSweptFrom (state_at (opened_held before.base start) (take stand.count (reverse before.log))).place called.logged)
      → fallen ≡ None → after_fallen ≡ fallen_by caller (members.faults new) fallen made → reached members new ≡ after.state.place → Runs called before after made → Keeps members old new called.logged made
      → IsInStep members (opened_held before.base start) before old fallen × IsSound (opened_held before.base start) before open_drafts × GoesBehind members (opened_held before.base start) open_drafts held old
      → IsInStep members (opened_held after.base start) after new after_fallen × IsSound (opened_held after.base start) after open_drafts × GoesBehind members (opened_held after.base start) open_drafts held new
  stands old new caller number called start before after open_drafts held fallen after_fallen made right is comes below no_number follows since none fell number_is runs keeps was =
      let o : Opened = opened_held before.base start in
      let legal = (sound_called caller number o before open_drafts open_drafts was.1 comes below was.1.waiting no_number called is).legal in
      let was_up : IsInStep members o before old None = subst (λ (f : Option Fallen). IsInStep members o before old f) none was.0 in
      let now : IsInStep members o after new (fallen_by caller (members.faults new) None made) = in_step members old new caller called o before after right legal was_up number_is (call_told o caller number before called (members.told old) is follows since) made runs keeps in
      let goes : GoesBehind members o open_drafts held new = behind_made members o old new open_drafts held called.logged made right.few keeps was.2 in
      let sound : IsSound o after open_drafts = sound_made caller number o before after open_drafts called made runs is comes below was.1 no_number in
      let fell_is : fallen_by caller (members.faults new) None made ≡ after_fallen = sym (fell ∙ ap (λ (f : Option Fallen). fallen_by caller (members.faults new) f made) none) in
      subst (λ (s : State). IsInStep members (opened_held s start) after new after_fallen × IsSound (opened_held s start) after open_drafts × GoesBehind members (opened_held s start) open_drafts held new) (sym sound.base)
      (subst (IsInStep members o after new) fell_is now, sound, goes)
