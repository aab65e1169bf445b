-- The keeper has the entries of the log.
use Rattle.std.proofs.Common.{◌≡◌, ◌≤◌, ℕ, inr, max, List, [], ◌∷◌, ◌++◌, reverse, Option, Some, None, Result, Ok, Err, Bool, true, false, nat_lt, if◌then◌else◌, IfSome, refl, sym, ap, subst, ◌∙◌}
use Rattle.std.proofs.lemmas.List.{append-nil, reverse-append}
use Rattle.sha2.specs.Sha256.{sha256}
use Rattle.cat_checks.specs.Histories.{IsLegalFrom}
use Rattle.cat_frames.specs.Checkpoints.{is_checkpoint}
use Rattle.cat_frames.specs.Standing.{may_start}
use Rattle.cat_io.specs.Causes.{Rose}
use Rattle.cat_io.specs.Crashes as crashes
use Rattle.cat_keeper.specs.declared.keeper.Keeper.{Ghosts}
use Rattle.cat_model.specs.declared.command.Command.{Command}
use Rattle.cat_model.specs.declared.log_entry.LogEntry.{LogEntry}
use Rattle.cat_model.specs.declared.refusal.Refused.{Refused}
use Rattle.cat_model.specs.declared.reply.Told.{Told}
use Rattle.cat_model.specs.Book.{Book, attempt_on}
use Rattle.cat_model.specs.Calls.{Called, Occasion, attempt, stepped, tests_on, tried, turn_on}
use Rattle.cat_model.specs.Refusing.{Outcome, Tested}
use Rattle.cat_model.specs.State.{State}
use Rattle.cat_model.specs.Step.{Turn, opens_draft, step}
use Rattle.cat_model.specs.Turns.{Opened}
use Rattle.cat_state.specs.declared.failure.Failure.TheVariants as failures
use Rattle.cat_state.specs.declared.unmade.Unmade.TheVariants.{Failed, NotKept}
use Rattle.cat_state.specs.declared.unmade.Unmade.{Unmade}
use Rattle.cat_state.specs.Kept.{AreReadBack, Keeps, Stayed, reached, spelling, spellings}
use Rattle.cat_core.specs.Making.{Runs}
use Rattle.cat_core.specs.Made.{fallen_by}
use Rattle.cat_core.specs.Records.{IsCheckpointAt, IsInFlight, MayStand, StandThrough, state_at}
use Rattle.cat_core.specs.Stored.{IsInStep}
use Rattle.cat_core.proofs.Records.{through_base, through_entry}

-- ---- a call logs one entry at most, and none where it is refused

abbrev pub AtMostOne : List LogEntry → Type 0
AtMostOne [] = Unit {0}
AtMostOne (e ∷ []) = Unit {0}
AtMostOne (e ∷ f ∷ entries) = ⊥

pub record LogsRight (c : Called) : Type 0 where
  pub few : AtMostOne c.logged
  pub none : (refused : Refused) → c.said ≡ Err refused → c.logged ≡ []

right_choice : (b : Bool) (x y : Called) → LogsRight x → LogsRight y → LogsRight (if b then x else y)
right_choice true x y p q = p
right_choice false x y p q = q

right_stepped : (caller : ℕ) (state : State) (draft : ℕ) (command : Command) (turn : Turn) (outcome : Outcome) → LogsRight (stepped sha256 caller state draft command turn outcome)
right_stepped caller state draft command turn (Err why) = record { few = tt; none = λ r e. refl }
right_stepped caller state draft command turn (Ok (after, reply)) =
    right_choice (nat_lt state.place after.place) _ _ (record { few = tt; none = λ r e. absurd cc }) (record { few = tt; none = λ r e. refl })

right_tried : (caller : ℕ) (state : State) (last : ℕ) (command : Command) (turn : Turn) (tested : Tested) → LogsRight (tried sha256 caller state last command turn tested)
right_tried caller state last command turn (Err why) = record { few = tt; none = λ r e. refl }
right_tried caller state last command turn (Ok u) = right_stepped caller state (max last turn.draft) command turn (step sha256 state command turn)

pub right_attempt : (book : Book) (o : Occasion) (command : Command) → LogsRight (attempt_on sha256 book o command)
unfolding attempt
right_attempt book o command = right_tried o.caller book.state book.draft command (turn_on book.state book.draft o (opens_draft command)) (tests_on sha256 book.state book.draft o.draft command)

-- ---- the payloads of a log

-- the first of these entries may stand behind the payloads
abbrev pub FirstStands : Opened → List LogEntry → List LogEntry → List (List ℕ) → Type 0
FirstStands o log [] ps = Unit {0}
FirstStands o log (e ∷ entries) ps = MayStand o (reverse log) ps e

-- so many entries more, and their payloads
stand_more : (o : Opened) (log logged : List LogEntry) (ps : List (List ℕ)) → AtMostOne logged → AreReadBack logged → FirstStands o log logged ps → StandThrough o (reverse log) ps → StandThrough o (reverse (logged ++ log)) (ps ++ spellings logged)
stand_more o log [] ps few read stands is = subst (StandThrough o (reverse log)) (sym (append-nil ps)) is
stand_more o log (e ∷ []) ps few read stands is = subst (λ (l : List LogEntry). StandThrough o l (ps ++ spelling e ∷ [])) (sym (reverse-append (e ∷ []) log)) (through_entry o (reverse log) ps e read.0 stands is)
stand_more o log (e ∷ f ∷ entries) ps few read stands is = absurd few

told_more : (o : Opened) (before now : Option (List (List ℕ))) (log logged : List LogEntry) → AtMostOne logged → AreReadBack logged → IfSome before (FirstStands o log logged) → IfSome before (StandThrough o (reverse log)) → crashes.Told before now (λ old new. new ≡ old ++ spellings logged) → IfSome now (StandThrough o (reverse (logged ++ log)))
told_more o None None log logged few read stands is more = tt
told_more o None (Some ps) log logged few read stands is more = absurd more
told_more o (Some old) None log logged few read stands is more = absurd more
told_more o (Some old) (Some new) log logged few read stands is more = subst (StandThrough o (reverse (logged ++ log))) (sym more) (stand_more o log logged old few read stands is)

-- what is told stays
pub still_told : (before now : Option (List (List ℕ))) (P : List (List ℕ) → Type 0) → crashes.Told before now (λ old new. new ≡ old) → IfSome before P → IfSome now P
still_told None None P same is = tt
still_told None (Some ps) P same is = absurd same
still_told (Some old) None P same is = absurd same
still_told (Some old) (Some new) P same is = subst P (sym same) is

pub told_same : (o : Opened) (before now : Option (List (List ℕ))) (log : List LogEntry) → IfSome before (StandThrough o (reverse log)) → crashes.Told before now (λ old new. new ≡ old) → IfSome now (StandThrough o (reverse log))
told_same o None None log is same = tt
told_same o None (Some ps) log is same = absurd same
told_same o (Some old) None log is same = absurd same
told_same o (Some old) (Some new) log is same = subst (StandThrough o (reverse log)) (sym same) is

-- a base more
pub told_base : (o : Opened) (before now : Option (List (List ℕ))) (log : List LogEntry) (base : List ℕ) (drafts : List ℕ) → is_checkpoint base ≡ true → IsCheckpointAt o (reverse log) drafts base → may_start sha256 (state_at o (reverse log)) ≡ true
    → IfSome before (StandThrough o (reverse log)) → crashes.Told before now (λ old new. new ≡ old ++ base ∷ []) → IfSome now (StandThrough o (reverse log))
told_base o None None log base drafts kind made may is more = tt
told_base o None (Some ps) log base drafts kind made may is more = absurd more
told_base o (Some old) None log base drafts kind made may is more = absurd more
told_base o (Some old) (Some new) log base drafts kind made may is more = subst (StandThrough o (reverse log)) (sym more) (through_base o (reverse log) old base drafts kind made may is)

pub still : {K : Type 0} (told : K → Option (List (List ℕ))) (o : Opened) (old new : K) (before after : Book) → told new ≡ told old → after.log ≡ before.log → IfSome (told old) (StandThrough o (reverse before.log)) → IfSome (told new) (StandThrough o (reverse after.log))
still told o old new before after same log is =
    subst (λ (l : List LogEntry). IfSome (told new) (StandThrough o (reverse l))) (sym log) (subst (λ (t : Option (List (List ℕ))). IfSome t (StandThrough o (reverse before.log))) (sym same) is)

-- a call failed, and none before it
pub rose_from : (began old new : ℕ) → old ≡ began → old ≤ new → Rose old new → (began ≤ new) × Rose began new
rose_from began old new level later rose = subst (λ (n : ℕ). (n ≤ new) × Rose n new) level (later, rose)

each_told : (told : Option (List (List ℕ))) (P Q : List (List ℕ) → Type 0) → ((ps : List (List ℕ)) → P ps → Q ps) → IfSome told P → IfSome told Q
each_told None P Q f is = tt
each_told (Some ps) P Q f is = f ps is

module _ {K : Type 0} (members : Ghosts K) where
  module _ (old new : K) (caller : ℕ) (called : Called) (o : Opened) (before after : Book) (right : LogsRight called) (legal : IsLegalFrom o (reverse (called.logged ++ before.log))) (was : IsInStep members o before old None) (number : reached members new ≡ after.state.place) where
    stayed : after.log ≡ before.log → Stayed members old new → IsInStep members o after new None
    stayed log keeps = record { payloads = still members.told o old new before after keeps.payloads log was.payloads; number = number; fallen = keeps.fallen ∙ was.fallen; level = keeps.level ∙ was.level; rose = tt; flies = tt }

    -- after a call
    pub in_step : IfSome (members.told old) (FirstStands o before.log called.logged) → (made : Result Told Unmade) → Runs called before after made → Keeps members old new called.logged made → IsInStep members o after new (fallen_by caller (members.faults new) None made)
    in_step stands (Ok told_is) runs keeps = record {
      payloads = subst (λ (b : Book). IfSome (members.told new) (StandThrough o (reverse b.log))) (sym runs.book) (told_more o (members.told old) (members.told new) before.log _ right.few keeps.read stands was.payloads keeps.payloads);
      number = number;
      fallen = keeps.up;
      level = keeps.level ∙ was.level;
      rose = tt;
      flies = tt;
    }
    in_step stands (Err NotKept) runs keeps =
        let behind : IsLegalFrom o (reverse after.log ++ keeps.entry ∷ []) =
        subst (IsLegalFrom o) (ap (λ (l : List LogEntry). reverse (l ++ before.log)) keeps.one ∙ reverse-append (keeps.entry ∷ []) before.log ∙ ap (λ (l : List LogEntry). reverse l ++ keeps.entry ∷ []) (sym runs.log)) legal in
        record {
          payloads = subst (λ (l : List LogEntry). IfSome (members.told new) (StandThrough o (reverse l))) (sym runs.log) (told_same o (members.told old) (members.told new) before.log was.payloads keeps.payloads);
          number = number;
          fallen = keeps.fallen;
          level = refl;
          rose = rose_from o.faults (members.faults old) (members.faults new) was.level keeps.later keeps.rose;
          flies = subst (λ (t : Option (List ℕ)). IfSome t (λ p. IfSome (members.told new) (IsInFlight o (reverse after.log) p))) (sym keeps.flies)
              (still_told (members.told old) (members.told new) (IsInFlight o (reverse after.log) (spelling keeps.entry)) keeps.payloads
              (each_told (members.told old) _ _ (λ ps one. inr (keeps.entry, refl, keeps.read, behind, subst (λ (l : List LogEntry). MayStand o (reverse l) ps keeps.entry) (sym runs.log) (subst (λ (l : List LogEntry). FirstStands o before.log l ps) keeps.one one))) stands));
        }
    in_step stands (Err (Failed failures.NoMemory)) runs keeps = stayed runs.log keeps
    in_step stands (Err (Failed (failures.Refused why))) runs keeps = stayed (ap (λ (b : Book). b.log) runs.1.book ∙ ap (λ (l : List LogEntry). l ++ before.log) (right.none _ runs.1.said)) keeps
