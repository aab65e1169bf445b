-- What may stand behind the payloads that are told, at each call: the drafts that are open, and the open sweep.
use Rattle.std.proofs.Common.{◌≡◌, ◌≤◌, ◌<◌, ℕ, ◌+◌, List, [], ◌∷◌, ◌++◌, length, map, reverse, take, Option, Some, None, Result, Ok, Err, Bool, true, false, nat_lt, if◌then◌else◌, IfSome, refl, sym, ap, subst, ◌∙◌, arith}
use Rattle.std.proofs.lemmas.List.{append-nil}
use Rattle.std.specs.Option.{option_map}
use Rattle.std.specs.Prelude.{OnErr, OnOk}
use Rattle.sha2.specs.Sha256.{sha256}
use Rattle.cat_codes.specs.Code.{whole}
use Rattle.cat_checks.specs.AlikeBooks.{AreSweptFrom}
use Rattle.cat_frames.specs.Bases.{checkpoint_of, draft_of}
use Rattle.cat_frames.specs.Checkpoints.{checkpoint_code, is_checkpoint}
use Rattle.cat_io.specs.Crashes as crashes
use Rattle.cat_keeper.specs.declared.keeper.Keeper.{Ghosts}
use Rattle.cat_keeper.specs.Bases.{base_of, base_with_base, entries_of}
use Rattle.cat_model.specs.declared.command.Command.{Command}
use Rattle.cat_model.specs.declared.log_entry.LogEntry.{LogEntry}
use Rattle.cat_model.specs.declared.sweep.Sweep.{Sweep}
use Rattle.cat_model.specs.Book.{Book, attempt_on}
use Rattle.cat_model.specs.Calls.{Called, Occasion, attempt, entry_made, stepped, tests_on, tried, turn_on}
use Rattle.cat_model.specs.Drafts as drafts
use Rattle.cat_model.specs.Drafts.{Names, OpenDraft, Opening}
use Rattle.cat_model.specs.Past.{past_of}
use Rattle.cat_model.specs.Refusing.{Outcome, Tested}
use Rattle.cat_model.specs.Resuming.{drafts_below}
use Rattle.cat_model.specs.State.{State}
use Rattle.cat_model.specs.Step.{Turn, opens_draft, step}
use Rattle.cat_model.specs.Sweeps.{step_sweep, sweep_call, sweep_entry, swept_by}
use Rattle.cat_model.specs.Turns.{Opened}
use Rattle.cat_state.specs.declared.unmade.Unmade.{Unmade}
use Rattle.cat_state.specs.declared.unmade.Unmade.TheVariants.{Failed, NotKept}
use Rattle.cat_state.specs.Basing.{IfWritten}
use Rattle.cat_state.specs.Kept.{Bases, Keeps, reached, spellings}
use Rattle.cat_core.specs.declared.tickets.OpenSweep.{OpenSweep}
use Rattle.cat_core.specs.declared.tickets.Start.{Start}
use Rattle.cat_core.specs.Drafts.{IsOpen, without}
use Rattle.cat_core.specs.RecordLaws.{stands_now}
use Rattle.cat_core.specs.Records.{AllFollow, MayFollow, StandFor, StandThrough, state_at}
use Rattle.cat_core.specs.declared.tickets.OpenDraft as held_drafts
use Rattle.cat_core.specs.Noting.{noting}
use Rattle.cat_core.specs.Stored.{GoesBehind, IsSound, Stored, draft_held, opened_held, sweep_held}
use Rattle.cat_core.specs.Sweeps.{sweep_on}
use Rattle.cat_core.proofs.Follows.{base_place_is, follow_base, follow_entry, follow_less, follow_more, follows_one, next_follows, none_follows}
use Rattle.cat_core.proofs.InStep.{AtMostOne, FirstStands, still_told}
use Rattle.cat_core.proofs.Records.{kind_of}
use Rattle.cat_core.proofs.Sound.{Brings, IsCallIn}

-- ---- what a call logs is no sweep

swept_choice : (place : ℕ) (b : Bool) (x y : Called) → AreSweptFrom place x.logged → AreSweptFrom place y.logged → AreSweptFrom place (if b then x else y).logged
swept_choice place true x y p q = p
swept_choice place false x y p q = q

stepped_swept : (place caller : ℕ) (state : State) (draft : ℕ) (command : Command) (turn : Turn) (outcome : Outcome) → AreSweptFrom place (stepped sha256 caller state draft command turn outcome).logged
unfolding entry_made
stepped_swept place caller state draft command turn (Err why) = tt
stepped_swept place caller state draft command turn (Ok (after, reply)) = swept_choice place (nat_lt state.place after.place) _ _ (tt, tt) tt

tried_swept : (place caller : ℕ) (state : State) (last : ℕ) (command : Command) (turn : Turn) (tested : Tested) → AreSweptFrom place (tried sha256 caller state last command turn tested).logged
tried_swept place caller state last command turn (Err why) = tt
tried_swept place caller state last command turn (Ok u) = stepped_swept place caller state _ command turn (step sha256 state command turn)

pub call_swept : (place : ℕ) (book : Book) (o : Occasion) (command : Command) → AreSweptFrom place (attempt_on sha256 book o command).logged
unfolding attempt
call_swept place book o command = tried_swept place o.caller book.state book.draft command (turn_on book.state book.draft o (opens_draft command)) (tests_on sha256 book.state book.draft o.draft command)

-- or it is the one sweep
one_swept : (place caller : ℕ) (state : State) (draft moment : ℕ) (s : Sweep) (outcome : Outcome) → place ≤ s.opened → AreSweptFrom place (swept_by caller state draft moment s outcome).logged
unfolding sweep_entry
one_swept place caller state draft moment s (Err why) since = tt
one_swept place caller state draft moment s (Ok (after, reply)) since = (since, tt)

pub sweep_swept : (place caller : ℕ) (book : Book) (moment : ℕ) (s : Sweep) → place ≤ s.opened → AreSweptFrom place (sweep_on caller book moment s).logged
unfolding sweep_call
sweep_swept place caller book moment s since = one_swept place caller book.state book.draft moment s (step_sweep book.state (past_of sha256 book) s) since

-- what a call logs may stand behind the payloads
stands_by : (o : Opened) (caller number : ℕ) (book : Book) (logged : List LogEntry) (after : State) (ps : List (List ℕ)) → Brings caller number book logged after → MayFollow o (base_of ps) number
    → ((stand : StandFor o (reverse book.log) ps) → AreSweptFrom (state_at o (take stand.count (reverse book.log))).place logged) → FirstStands o book.log logged ps
stands_by o caller number book [] after ps brings follows since = tt
stands_by o caller number book (e ∷ []) after ps brings follows since = record { comes = subst (MayFollow o (base_of ps)) (sym brings.draft_is) follows; since = λ stand. (since stand).0 }
stands_by o caller number book (e ∷ f ∷ more) after ps brings follows since = absurd brings

pub call_stands : (o : Opened) (caller number : ℕ) (book : Book) (called : Called) (ps : List (List ℕ)) → IsCallIn caller number book called → MayFollow o (base_of ps) number
    → ((stand : StandFor o (reverse book.log) ps) → AreSweptFrom (state_at o (take stand.count (reverse book.log))).place called.logged) → FirstStands o book.log called.logged ps
call_stands o caller number book called ps is follows since = stands_by o caller number book called.logged called.state ps is.brings follows since

-- ---- the drafts and the sweep

each_of : (told : Option (List (List ℕ))) (P Q : List (List ℕ) → Type 0) → ((ps : List (List ℕ)) → P ps → Q ps) → IfSome told P → IfSome told Q
each_of None P Q f is = tt
each_of (Some ps) P Q f is = f ps is

all_of : (told : Option (List (List ℕ))) (P : List (List ℕ) → Type 0) → ((ps : List (List ℕ)) → P ps) → IfSome told P
all_of None P f = tt
all_of (Some ps) P f = f ps

both_of : (told : Option (List (List ℕ))) (P Q R : List (List ℕ) → Type 0) → ((ps : List (List ℕ)) → P ps → Q ps → R ps) → IfSome told P → IfSome told Q → IfSome told R
both_of None P Q R f p q = tt
both_of (Some ps) P Q R f p q = f ps p q

-- no draft may come behind any base
pub none_told : (o : Opened) (told : Option (List (List ℕ))) → IfSome told (λ ps. MayFollow o (base_of ps) 0)
none_told o told = all_of told (λ ps. MayFollow o (base_of ps) 0) (λ ps. none_follows o (base_of ps))

-- so may one that is open
pub one_told : (o : Opened) (d : OpenDraft) (drafts : List OpenDraft) (told : Option (List (List ℕ))) → IsOpen d drafts → IfSome told (λ ps. AllFollow o (base_of ps) drafts) → IfSome told (λ ps. MayFollow o (base_of ps) d.opening.number)
one_told o d drafts told there all = each_of told (λ ps. AllFollow o (base_of ps) drafts) (λ ps. MayFollow o (base_of ps) d.opening.number) (λ ps follow. follows_one o (base_of ps) d drafts follow there) all

-- the first entry of a call may stand behind what is told
pub call_told : (o : Opened) (caller number : ℕ) (book : Book) (called : Called) (told : Option (List (List ℕ))) → IsCallIn caller number book called → IfSome told (λ ps. MayFollow o (base_of ps) number)
    → ((ps : List (List ℕ)) → told ≡ Some ps → (stand : StandFor o (reverse book.log) ps) → AreSweptFrom (state_at o (take stand.count (reverse book.log))).place called.logged) → IfSome told (FirstStands o book.log called.logged)
call_told o caller number book called None is follows since = tt
call_told o caller number book called (Some ps) is follows since = call_stands o caller number book called ps is follows (since ps refl)

-- a sweep that was opened no earlier than the base
pub sweep_told : {K : Type 0} (members : Ghosts K) (counted : (k : K) (ps : List (List ℕ)) → members.told k ≡ Some ps → length (entries_of ps) ≡ members.kept k) (o : Opened) (book : Book) (drafts : List OpenDraft) (keeper : K) (caller moment : ℕ) (s : Sweep)
    → IsSound o book drafts → reached members keeper ≡ book.state.place → members.start keeper ≤ s.opened → (ps : List (List ℕ)) → members.told keeper ≡ Some ps → (stand : StandFor o (reverse book.log) ps)
    → AreSweptFrom (state_at o (take stand.count (reverse book.log))).place (sweep_on caller book moment s).logged
sweep_told members counted o book drafts keeper caller moment s sound number since ps is stand =
    let place : (state_at o (take stand.count (reverse book.log))).place ≡ members.start keeper =
    base_place_is o (reverse book.log) ps stand (members.start keeper) (members.kept keeper) sound.legal (counted keeper ps is) (number ∙ sym (ap (λ (x : State). x.place) sound.led)) in
    sweep_swept (state_at o (take stand.count (reverse book.log))).place caller book moment s (omega (arith, place, since))

some_same : (a b : drafts.OpenSweep) → ◌≡◌ {A = Option drafts.OpenSweep} (Some a) (Some b) → a ≡ b
some_same a b e = cc

-- names that a draft gives leave the sweep's opening
since_named : (n : ℕ) (names : Names) (before after : Option OpenSweep) → option_map sweep_held after ≡ noting names (option_map sweep_held before) → IfSome before (λ s. n ≤ s.ticket.place) → IfSome after (λ s. n ≤ s.ticket.place)
since_named n names before None is since = tt
since_named n names None (Some s) is since = absurd cc
since_named n names (Some t) (Some s) is since = subst (λ (m : ℕ). n ≤ m) (sym (ap (λ (x : drafts.OpenSweep). x.opening.place) (some_same _ _ is))) since

since_same : (n : ℕ) (before after : Option OpenSweep) → option_map sweep_held after ≡ option_map sweep_held before → IfSome before (λ s. n ≤ s.ticket.place) → IfSome after (λ s. n ≤ s.ticket.place)
since_same n before None is since = tt
since_same n None (Some s) is since = absurd cc
since_same n (Some t) (Some s) is since = subst (λ (m : ℕ). n ≤ m) (sym (ap (λ (x : drafts.OpenSweep). x.opening.place) (some_same _ _ is))) since

since_noted : {E : Type 0} (n : ℕ) (names : Names) (before after : Option OpenSweep) (r : Result (Unit {0}) E) → OnOk r (option_map sweep_held after ≡ noting names (option_map sweep_held before)) → OnErr r (option_map sweep_held after ≡ option_map sweep_held before) → IfSome before (λ s. n ≤ s.ticket.place) → IfSome after (λ s. n ≤ s.ticket.place)
since_noted n names before after (Ok u) ok err since = since_named n names before after ok since
since_noted n names before after (Err e) ok err since = since_same n before after err since

-- the base stays while entries come
grown_told : (o : Opened) (drafts : List OpenDraft) (before now : Option (List (List ℕ))) (logged : List LogEntry) → AtMostOne logged → crashes.Told before now (λ old new. new ≡ old ++ spellings logged)
    → IfSome before (λ ps. AllFollow o (base_of ps) drafts) → IfSome now (λ ps. AllFollow o (base_of ps) drafts)
grown_told o drafts None None logged few more is = tt
grown_told o drafts None (Some new) logged few more is = absurd more
grown_told o drafts (Some old) None logged few more is = absurd more
grown_told o drafts (Some old) (Some new) [] few more is = subst (λ (l : List (List ℕ)). AllFollow o (base_of l) drafts) (sym (more ∙ append-nil old)) is
grown_told o drafts (Some old) (Some new) (e ∷ []) few more is = subst (λ (l : List (List ℕ)). AllFollow o (base_of l) drafts) (sym more) (follow_entry o old e drafts is)
grown_told o drafts (Some old) (Some new) (e ∷ f ∷ entries) few more is = absurd few

based_told : (before now : Option (List (List ℕ))) (P : Option (List ℕ) → Type 0) (base : List ℕ) → is_checkpoint base ≡ true → crashes.Told before now (λ old new. new ≡ old ++ base ∷ []) → P (Some base) → IfSome now (λ ps. P (base_of ps))
based_told None None P base kind more is = tt
based_told None (Some new) P base kind more is = absurd more
based_told (Some old) None P base kind more is = absurd more
based_told (Some old) (Some new) P base kind more is = subst (λ (l : List (List ℕ)). P (base_of l)) (sym more) (subst P (sym (base_with_base old base kind)) is)

told_self : {A : Type 0} (a : Option A) → crashes.Told a a (λ x y. y ≡ x)
told_self None = tt
told_self (Some x) = refl

same_as : {A : Type 0} (a b : Option A) → b ≡ a → crashes.Told a b (λ x y. y ≡ x)
same_as {A} a b same = subst (λ (t : Option A). crashes.Told a t (λ x y. y ≡ x)) (sym same) (told_self a)

module _ {K : Type 0} (members : Ghosts K) (o : Opened) where
  behind_none : (keeper : K) → GoesBehind members o [] None keeper
  behind_none keeper = record { waiting = all_of (members.told keeper) (λ ps. AllFollow o (base_of ps) []) (λ ps. tt); since = tt }

  pub behind_over : (keeper : K) (items : List held_drafts.OpenDraft) → items ≡ [] → GoesBehind members o (map draft_held items) None keeper
  behind_over keeper items none = subst (λ (l : List held_drafts.OpenDraft). GoesBehind members o (map draft_held l) None keeper) (sym none) (behind_none keeper)

  module _ (keeper : K) (drafts : List OpenDraft) (held : Option OpenSweep) (was : GoesBehind members o drafts held keeper) where
    -- a draft less
    behind_less : (x : Opening) → GoesBehind members o (without x drafts) held keeper
    behind_less x = record { waiting = each_of (members.told keeper) (λ ps. AllFollow o (base_of ps) drafts) (λ ps. AllFollow o (base_of ps) (without x drafts)) (λ ps all. follow_less o (base_of ps) x drafts all) was.waiting; since = was.since }

    pub behind_closed : (x : Opening) (less : List OpenDraft) → less ≡ without x drafts → GoesBehind members o less held keeper
    behind_closed x less is = subst (λ (l : List OpenDraft). GoesBehind members o l held keeper) (sym is) (behind_less x)

    -- the sweep is closed
    pub behind_shut : GoesBehind members o drafts None keeper
    behind_shut = record { waiting = was.waiting; since = tt }

    -- or one is opened
    pub behind_begun : (s : OpenSweep) → members.start keeper ≤ s.ticket.place → GoesBehind members o drafts (Some s) keeper
    behind_begun s since = record { waiting = was.waiting; since = since }

    -- a draft more, above the last one
    pub behind_more : (book : Book) (d : OpenDraft) → IsSound o book drafts → IfSome (members.told keeper) (StandThrough o (reverse book.log)) → book.draft < d.opening.number → GoesBehind members o (drafts ++ d ∷ []) held keeper
    behind_more book d sound stand above = record {
      waiting =
          both_of (members.told keeper) (λ ps. AllFollow o (base_of ps) drafts) (StandThrough o (reverse book.log)) (λ ps. AllFollow o (base_of ps) (drafts ++ d ∷ []))
          (λ ps all through. follow_more o (base_of ps) d drafts (next_follows o book drafts ps d.opening.number sound (stands_now o (reverse book.log) ps through) above) all) was.waiting stand;
      since = was.since;
    }

    module _ (new : K) (first : members.start new ≡ members.start keeper) where
      start_stays : (held : Option OpenSweep) → IfSome held (λ s. members.start keeper ≤ s.ticket.place) → IfSome held (λ s. members.start new ≤ s.ticket.place)
      start_stays None since = tt
      start_stays (Some s) since = subst (λ (n : ℕ). n ≤ s.ticket.place) (sym first) since

      -- entries were kept
      pub behind_grew : (logged : List LogEntry) → AtMostOne logged → crashes.Told (members.told keeper) (members.told new) (λ before now. now ≡ before ++ spellings logged) → GoesBehind members o drafts held new
      behind_grew logged few more = record { waiting = grown_told o drafts (members.told keeper) (members.told new) logged few more was.waiting; since = start_stays held was.since }

      -- nothing was
      pub behind_same : crashes.Told (members.told keeper) (members.told new) (λ before now. now ≡ before) → GoesBehind members o drafts held new
      behind_same same = record { waiting = still_told (members.told keeper) (members.told new) (λ ps. AllFollow o (base_of ps) drafts) same was.waiting; since = start_stays held was.since }

  -- after a call
  pub behind_made : {T : Type 0} (old new : K) (drafts : List OpenDraft) (held : Option OpenSweep) (logged : List LogEntry) (made : Result T Unmade) → AtMostOne logged → Keeps members old new logged made → GoesBehind members o drafts held old → GoesBehind members o drafts held new
  behind_made old new drafts held logged (Ok x) few keeps was = behind_grew old drafts held was new keeps.first logged few keeps.payloads
  behind_made old new drafts held logged (Err NotKept) few keeps was = behind_same old drafts held was new keeps.first keeps.payloads
  behind_made old new drafts held logged (Err (Failed failure)) few keeps was = behind_same old drafts held was new keeps.first (same_as (members.told old) (members.told new) keeps.payloads)

  -- a base was kept, while no sweep is open
  pub behind_based : (keeper new : K) (book : Book) (drafts : List OpenDraft) (state : State) (base : List ℕ) → IsSound o book drafts → is_checkpoint base ≡ true
      → whole (checkpoint_code sha256) base ≡ Ok (checkpoint_of state (draft_of o (reverse book.log)) (drafts_below (draft_of o (reverse book.log)) drafts))
      → crashes.Told (members.told keeper) (members.told new) (λ before now. now ≡ before ++ base ∷ []) → GoesBehind members o drafts None new
  behind_based keeper new book drafts state base sound kind reads more = record {
    waiting = based_told (members.told keeper) (members.told new) (λ b. AllFollow o b drafts) base kind more (follow_base o book drafts sound base state reads);
    since = tt;
  }

  -- after a checkpoint
  pub behind_kept : {T : Type 0} (old new : K) (book : Book) (drafts : List OpenDraft) (place : ℕ) (base : List ℕ) (kept : Result T Unmade) → IsSound o book drafts
      → IfWritten kept (whole (checkpoint_code sha256) base ≡ Ok (checkpoint_of book.state (draft_of o (reverse book.log)) (drafts_below (draft_of o (reverse book.log)) drafts)))
      → Bases members old new place base kept → GoesBehind members o drafts None old → GoesBehind members o drafts None new
  behind_kept old new book drafts place base (Ok x) sound reads bases was =
      behind_based old new book drafts book.state base sound (kind_of base (checkpoint_of book.state (draft_of o (reverse book.log)) (drafts_below (draft_of o (reverse book.log)) drafts)) reads) reads bases.payloads
  behind_kept old new book drafts place base (Err NotKept) sound reads bases was = behind_same old drafts None was new bases.first bases.payloads
  behind_kept old new book drafts place base (Err (Failed failure)) sound reads bases was = behind_same old drafts None was new bases.first (same_as (members.told old) (members.told new) bases.payloads)

-- as it is seen
pub follow_seen : {K : Type 0} (members : Ghosts K) (s x : Stored K) (held : Option OpenSweep) → s ≡ x → GoesBehind members s.opened s.left_open.drafts held s.keeper → IfSome (members.told x.keeper) (λ ps. AllFollow x.opened (base_of ps) x.left_open.drafts)
follow_seen {K} members s x held same was = subst (λ (z : Stored K). IfSome (members.told z.keeper) (λ ps. AllFollow z.opened (base_of ps) z.left_open.drafts)) same was.waiting

-- a draft was opened
pub behind_held : {K E : Type 0} (members : Ghosts K) (start : Start) (book after : Book) (keeper : K) (left_open held : List OpenDraft) (d : OpenDraft) (names : Names) (sweep noted : Option OpenSweep) (r : Result (Unit {0}) E) → GoesBehind members (opened_held book.base start) left_open sweep keeper
    → IsSound (opened_held book.base start) book left_open → IfSome (members.told keeper) (StandThrough (opened_held book.base start) (reverse book.log)) → d.opening.number ≡ book.draft + 1 → held ≡ left_open ++ d ∷ [] → after.base ≡ book.base
    → OnOk r (option_map sweep_held noted ≡ noting names (option_map sweep_held sweep)) → OnErr r (option_map sweep_held noted ≡ option_map sweep_held sweep) → GoesBehind members (opened_held after.base start) held noted keeper
behind_held members start book after keeper left_open held d names sweep noted r was sound stand next is base ok err =
    let o : Opened = opened_held book.base start in
    let more : GoesBehind members o (left_open ++ d ∷ []) sweep keeper = behind_more members o keeper left_open sweep was book d sound stand (omega (arith, next)) in
    let now : GoesBehind members o (left_open ++ d ∷ []) noted keeper = record { waiting = more.waiting; since = since_noted (members.start keeper) names sweep noted r ok err more.since } in
    subst (λ (s : State). GoesBehind members (opened_held s start) held noted keeper) (sym base) (subst (λ (l : List OpenDraft). GoesBehind members o l noted keeper) (sym is) now)

pub start_inside : {K : Type 0} (start : K → ℕ) (s x : Stored K) → s ≡ x → (n : ℕ) → start x.keeper ≤ n → start s.keeper ≤ n
start_inside {K} start s x same n since = subst (λ (z : Stored K). start z.keeper ≤ n) (sym same) since

pub start_seen : {K : Type 0} (start : K → ℕ) (s x : Stored K) (held : Option OpenSweep) (o : OpenSweep) (n : ℕ) → s ≡ x → IfSome held (λ s'. start s.keeper ≤ s'.ticket.place) → held ≡ Some o → n ≡ o.ticket.place → start x.keeper ≤ n
start_seen {K} start s x held o n same since is place =
    let first : start s.keeper ≤ o.ticket.place = subst (λ (h : Option OpenSweep). IfSome h (λ s'. start s.keeper ≤ s'.ticket.place)) is since in
    subst (λ (z : Stored K). start z.keeper ≤ n) same (subst (λ (m : ℕ). start s.keeper ≤ m) (sym place) first)
