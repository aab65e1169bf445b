-- What a store answers and leaves by what keeping a checkpoint came to.
use Rattle.std.proofs.Common.{◌≡◌, ◌<◌, ℕ, ◌+◌, inl, Bool, true, false, List, [], ◌∷◌, filter, map, reverse, nat_lt, Option, Some, None, Result, Ok, Err, IfSome, IsTrue, refl, sym, ap, subst, ◌∙◌, arith}
use Rattle.std.specs.List.{list_all}
use Rattle.std.specs.Option.{option_map}
use Rattle.std.proofs.lemmas.Bool.Decides.{nat_tests}
use Rattle.std.proofs.lemmas.Slice.Eq.{bytes_eq-Decides}
use Rattle.sha2.specs.Sha256.{sha256}
use Rattle.cat_codes.specs.Code.{Code, whole}
use Rattle.cat_checks.specs.Histories.{book_at}
use Rattle.cat_checks.specs.Upheld.{AreHashed, Upholds}
use Rattle.cat_frames.specs.Bases.{checkpoint_of, draft_of}
use Rattle.cat_frames.specs.Standing.{has_main, may_start}
use Rattle.cat_frames.specs.Checkpoints.{checkpoint_code, has_hash, have_hashes, is_open_draft, record_hash}
use Rattle.cat_keeper.specs.declared.keeper.Keeper.{Ghosts}
use Rattle.cat_keeper.specs.Bases.{bases_in}
use Rattle.cat_keeper.specs.Keeping.{WithOrWithout}
use Rattle.cat_keeper.specs.Moments.{started, weaker}
use Rattle.cat_keymap.specs.KeyOrder.{both_true}
use Rattle.cat_model.specs.declared.log_entry.LogEntry.{LogEntry}
use Rattle.cat_model.specs.declared.limits.Quantity.TheVariants as quantities
use Rattle.cat_model.specs.declared.reference.Reference.{Reference}
use Rattle.cat_model.specs.declared.refusal.Refusal.{Refusal}
use Rattle.cat_model.specs.declared.refusal.Refusal.TheVariants as refusals
use Rattle.cat_model.specs.declared.refusal.Refused.{Refused}
use Rattle.cat_model.specs.declared.reply.Told.{Told}
use Rattle.cat_model.specs.Book.{Book}
use Rattle.cat_model.specs.Contents.{content_code}
use Rattle.cat_model.specs.Drafts.{OpenDraft}
use Rattle.cat_model.specs.Formats.{commit_code}
use Rattle.cat_model.specs.Mark.{FailedAppend}
use Rattle.cat_model.specs.Resuming.{drafts_below}
use Rattle.cat_model.specs.State.{Digest, State}
use Rattle.cat_model.specs.Turns.{Opened}
use Rattle.cat_names.specs.declared.hash.Hash.{Hash}
use Rattle.cat_tables.specs.Tables.{are_distinct}
use Rattle.cat_state.specs.declared.failure.Failure.TheVariants as failures
use Rattle.cat_state.specs.declared.unmade.Unmade.{Unmade}
use Rattle.cat_state.specs.declared.unmade.Unmade.TheVariants.{Failed, NotKept}
use Rattle.cat_state.specs.Basing.{IfWritten, IsCheckpointed, Spells, base_of_state, most_bytes}
use Rattle.cat_state.proofs.Appended.{stays}
use Rattle.cat_state.specs.Kept.{Bases, LeavesBase}
use Rattle.cat_core.specs.declared.tickets.ClosedSweep.{ClosedSweep}
use Rattle.cat_core.specs.declared.tickets.Fallen.{Fallen}
use Rattle.cat_core.specs.declared.tickets.OpenDraft as held_drafts
use Rattle.cat_core.specs.declared.tickets.OpenSweep.{OpenSweep}
use Rattle.cat_core.specs.declared.tickets.Ticket.{Ticket}
use Rattle.cat_core.specs.Checkpointing.{Checkpoints, IsCheckpoint, MayBase, NotBased, base_bytes, based}
use Rattle.cat_core.specs.Kept.{KeepsBase}
use Rattle.cat_core.specs.Made.{based_at, fallen_by, told_at}
use Rattle.cat_core.specs.Records.{IsCheckpointAt}
use Rattle.cat_core.specs.Stored.{AreWaiting, GoesBehind, IsDownAt, IsInStep, IsSound, IsUp, Stored, draft_held, failed, held_mark, held_open, sweep_held}
use Rattle.cat_core.proofs.Behind.{behind_kept}
use Rattle.cat_core.proofs.BaseCounts.{bases_based, bases_not_based, bases_stayed}
use Rattle.cat_core.proofs.Making.{stored_at}
use Rattle.cat_core.proofs.NumberSets.{set_all, set_rises}
use Rattle.cat_core.proofs.Rebasing.{based_fell, based_kept, based_stayed}
use Rattle.cat_core.proofs.Records.{kind_of}
use Rattle.cat_core.proofs.Sound.{state_upholds}
use Rattle.cat_core.proofs.StartKept.{main_there}

-- ---- what may be spelled

module _ {A : Type 0} (digest : Digest) (code : Code A) where
  -- records under their hashes
  each_has : (xs : List (Hash × A)) → AreHashed (record_hash digest code) xs → have_hashes digest code xs ≡ true
  each_has [] are = refl
  each_has (x ∷ xs) are =
      let first : has_hash digest code x ≡ true = rw are.0 ((bytes_eq-Decides (record_hash digest code x.1).bytes (record_hash digest code x.1).bytes).1 refl) in
      both_true _ _ first (each_has xs are.1)

-- numbers below the greatest, each of a draft that was opened
below_one : (last first number : ℕ) (rest : List ℕ) → first < number → list_all (is_open_draft last) (filter (λ n. nat_lt n last) rest) ≡ true → list_all (is_open_draft last) (filter (λ n. nat_lt n last) (number ∷ rest)) ≡ true
below_one last first number rest some all = by (nat_lt number last) refl
  where
    by : (b : Bool) → nat_lt number last ≡ b → list_all (is_open_draft last) (filter (λ n. nat_lt n last) (number ∷ rest)) ≡ true
    by true is =
        let positive : nat_lt 0 number ≡ true = grind (arith, nat_tests, some) in
        rw is (both_true _ _ (both_true _ _ positive is) all)
    by false is = rw is all

are_below : (last first most : ℕ) (log : List LogEntry) (drafts : List OpenDraft) → AreWaiting first most log drafts → list_all (is_open_draft last) (filter (λ n. nat_lt n last) (map (λ d. d.opening.number) drafts)) ≡ true
are_below last first most log [] are = refl
are_below last first most log (d ∷ drafts) are = below_one last first d.opening.number (map (λ d. d.opening.number) drafts) are.0.above (are_below last first most log drafts are.2)

module _ (o : Opened) (book : Book) (left_open : List OpenDraft) (sound : IsSound o book left_open) where
  spelled_here : IsCheckpointed book.state (draft_of o (reverse book.log)) (drafts_below (draft_of o (reverse book.log)) left_open)
  spelled_here =
      let last = draft_of o (reverse book.log) in
      let numbers : List ℕ = filter (λ n. nat_lt n last) (map (λ d. d.opening.number) left_open) in
      let upheld : Upholds sha256 book.state = state_upholds o book left_open sound in
      record {
        commits = each_has sha256 commit_code book.state.commits upheld.commits;
        contents = each_has sha256 content_code book.state.present upheld.contents;
        ascend = set_rises numbers;
        below = set_all (is_open_draft last) numbers (are_below last o.draft book.draft book.log left_open sound.waiting);
      }

  -- as it was found
  pub spelled_as : (state : State) (draft : ℕ) (drafts : List ℕ) → state ≡ book.state → draft ≡ draft_of o (reverse book.log) → drafts ≡ drafts_below draft left_open → IsCheckpointed state draft drafts
  spelled_as state draft drafts here last below =
      let all : drafts ≡ drafts_below (draft_of o (reverse book.log)) left_open = below ∙ ap (λ (n : ℕ). drafts_below n left_open) last in
      subst (λ (s : State). IsCheckpointed s draft drafts) (sym here)
      (subst (λ (n : ℕ). IsCheckpointed book.state n drafts) (sym last)
      (subst (IsCheckpointed book.state (draft_of o (reverse book.log))) (sym all) spelled_here))

-- the drafts are those that are held
pub below_held : (last : ℕ) (drafts : List ℕ) (seen held : List held_drafts.OpenDraft) → seen ≡ held → drafts ≡ drafts_below last (map draft_held seen) → drafts ≡ drafts_below last (map draft_held held)
below_held last drafts seen held same below = below ∙ ap (λ (l : List held_drafts.OpenDraft). drafts_below last (map draft_held l)) same

-- ---- what it came to

-- what was told of keeping it
pub record KeptSo {K T : Type 0} (members : Ghosts K) (old new : K) (kept : Result T Unmade) (state : State) (draft : ℕ) (drafts : List ℕ) : Type 0 where
  pub spells : Spells (base_of_state state draft drafts) kept
  pub reads : IfWritten kept (whole (checkpoint_code sha256) (base_of_state state draft drafts) ≡ Ok (checkpoint_of state draft drafts))
  pub once : IsTrue (are_distinct state.present)
  pub may : IsTrue (may_start sha256 state)
  pub bases : Bases members old new state.place (base_of_state state draft drafts) kept

module _ {K : Type 0} (members : Ghosts K)
    (safe : (k : K) (ps : List (List ℕ)) (c : Option (List (List ℕ))) → members.down k ≡ None → members.told k ≡ Some ps → members.may_leave k c → c ≡ Some ps)
    (only_now : (k : K) (c : Option (List (List ℕ))) → members.left_since k (members.moment k) c → members.may_leave k c) where
  module _ (old new : K) (o : Opened) (book : Book) (held : List held_drafts.OpenDraft) where
    abbrev last : ℕ
    last = draft_of o (reverse book.log)

    abbrev numbers : List ℕ
    numbers = drafts_below last (map draft_held held)

    abbrev payload : List ℕ
    payload = base_of_state book.state last numbers

    abbrev KeptHere : {T : Type 0} → Result T Unmade → Type 0
    KeptHere kept = KeptSo members old new kept book.state last numbers

    -- as it was found
    pub kept_here : {T : Type 0} (kept : Result T Unmade) (state : State) (draft : ℕ) (drafts : List ℕ) → state ≡ book.state → draft ≡ last → drafts ≡ drafts_below draft (map draft_held held) → KeptSo members old new kept state draft drafts → KeptHere kept
    kept_here kept state draft drafts here is below so =
        let all : drafts ≡ numbers = below ∙ ap (λ (n : ℕ). drafts_below n (map draft_held held)) is in
        subst (KeptSo members old new kept book.state last) all
        (subst (λ (n : ℕ). KeptSo members old new kept book.state n drafts) is
        (subst (λ (s : State). KeptSo members old new kept s draft drafts) here so))

    -- its payload is the checkpoint of where the log has come
    is_here : (book_at o (reverse book.log)).state ≡ book.state → whole (checkpoint_code sha256) payload ≡ Ok (checkpoint_of book.state last numbers) → are_distinct book.state.present ≡ true → IsCheckpointAt o (reverse book.log) numbers payload
    is_here led reads once = record {
      reads = subst (λ (s : State). whole (checkpoint_code sha256) payload ≡ Ok (checkpoint_of s last numbers)) (sym led) reads;
      once = subst (λ (s : State). are_distinct s.present ≡ true) (sym led) once;
    }

    may_here : (book_at o (reverse book.log)).state ≡ book.state → may_start sha256 book.state ≡ true → may_start sha256 (book_at o (reverse book.log)).state ≡ true
    may_here led may = subst (λ (s : State). may_start sha256 s ≡ true) (sym led) may

    -- the store is in step with its keeper
    step_by : {T : Type 0} (caller place : ℕ) (kept : Result T Unmade) → IsInStep members o book old None → (book_at o (reverse book.log)).state ≡ book.state → KeptHere kept → IsInStep members o book new (fallen_by caller (members.faults new) None (based_at place kept))
    step_by caller place (Ok x) was led so = based_kept members old new o book was payload numbers (kind_of payload (checkpoint_of book.state last numbers) so.reads) (is_here led so.reads so.once) (may_here led so.may) so.bases
    step_by caller place (Err NotKept) was led so = based_fell members old new o book was payload numbers caller (is_here led so.reads so.once) (may_here led so.may) so.bases
    step_by caller place (Err (Failed failure)) was led so = based_stayed members old new o book was so.bases

    pub based_step : {T : Type 0} (caller place : ℕ) (kept : Result T Unmade) (made : Result Told Unmade) (fallen after_fallen : Option Fallen) → IsInStep members o book old fallen → fallen ≡ None → made ≡ based_at place kept → after_fallen ≡ fallen_by caller (members.faults new) fallen made
        → (book_at o (reverse book.log)).state ≡ book.state → KeptHere kept → IsInStep members o book new after_fallen
    based_step caller place kept made fallen after_fallen was none is fell led so =
        let ends : fallen_by caller (members.faults new) None (based_at place kept) ≡ after_fallen = (λ i. fallen_by caller (members.faults new) (sym none i) (sym is i)) ∙ sym fell in
        subst (IsInStep members o book new) ends (step_by caller place kept (subst (IsInStep members o book old) none was) led so)

    -- and so stands what may come behind its payloads
    pub based_behind : {T : Type 0} (kept : Result T Unmade) (sweep : Option OpenSweep) → sweep ≡ None → IsSound o book (map draft_held held) → KeptHere kept → GoesBehind members o (map draft_held held) sweep old → GoesBehind members o (map draft_held held) sweep new
    based_behind kept sweep none sound so was =
        subst (λ (s : Option OpenSweep). GoesBehind members o (map draft_held held) s new) (sym none)
        (behind_kept members o old new book (map draft_held held) book.state.place payload kept sound so.reads so.bases (subst (λ (s : Option OpenSweep). GoesBehind members o (map draft_held held) s old) none was))

    -- what one might have left before is one of the payloads without more
    without : (c : Option (List (List ℕ))) → members.down old ≡ None → members.may_leave old c → IfSome (members.told old) (λ ps. WithOrWithout ps payload c)
    without c up now = if_told (members.told old) (λ ps. WithOrWithout ps payload c) (λ ps is. inl (safe old ps c up is now))
      where
        if_told : (told : Option (List (List ℕ))) (P : List (List ℕ) → Type 0) → ((ps : List (List ℕ)) → told ≡ Some ps → P ps) → IfSome told P
        if_told None P h = tt
        if_told (Some ps) P h = h ps refl

    leaves : {T : Type 0} (kept : Result T Unmade) → members.down old ≡ None → KeptHere kept → LeavesBase members old new payload
    leaves (Ok x) up so = so.bases.crash
    leaves (Err NotKept) up so = so.bases.crash
    leaves (Err (Failed failure)) up so = weaker members.moment members.left_since old new (members.may_leave old) (λ c. IfSome (members.told old) (λ ps. WithOrWithout ps payload c)) so.bases.crash (λ c now. without c up now)

    keeps : {T : Type 0} (place : ℕ) (kept : Result T Unmade) → KeptHere kept → KeepsBase members old new book.state.place payload (told_at place (based_at place kept))
    keeps place (Ok x) so = record { done = so.bases; fault = tt; other = tt }
    keeps place (Err NotKept) so = record { done = tt; fault = λ is. so.bases; other = λ no. absurd (no refl) }
    keeps place (Err (Failed failures.NoMemory)) so = record { done = tt; fault = λ is. absurd cc; other = λ no. so.bases }
    keeps place (Err (Failed (failures.Refused why))) so = record { done = tt; fault = λ is. let no : refusals.Limit quantities.Checkpoint most_bytes ≡ refusals.Fault = sym so.spells.0 ∙ is in absurd cc; other = λ no. so.bases }

    module _ (caller drafter : ℕ) (dropped expired : Option Ticket) (sweep : Option OpenSweep) (closed : Option ClosedSweep) where
      abbrev s : Stored K
      s = stored_at members safe only_now book old None drafter dropped expired held sweep closed o

      abbrev left : Option Fallen → Stored K
      left fallen = stored_at members safe only_now book new fallen drafter dropped expired held sweep closed o

      stays_as : members.form new ≡ members.form old → members.start new ≡ members.start old → bases_in (members.told new) ≡ bases_in (members.told old) → left None ≡ record s { keeper = new }
      stays_as form start bases = λ i. record { book = book; keeper = new; mark = held_mark book.draft drafter dropped expired sweep closed None (form i) (start i) (bases i); left_open = held_open held sweep; opened = o }

      falls_as : members.in_flight new ≡ Some payload → members.form new ≡ members.form old → members.start new ≡ members.start old → bases_in (members.told new) ≡ bases_in (members.told old)
          → left (Some (record { caller = caller; count = members.faults new })) ≡ record s { keeper = new; mark = record (s.mark) { fault = Some (record { caller = caller; count = members.faults new; payload = payload }) } }
      falls_as flies form start bases = λ i. record { book = book; keeper = new; mark = held_mark book.draft drafter dropped expired sweep closed (failed (Some (record { caller = caller; count = members.faults new })) (flies i)) (form i) (start i) (bases i); left_open = held_open held sweep; opened = o }

      goes_as : members.form new ≡ members.form old → members.start new ≡ book.state.place → bases_in (members.told new) ≡ option_map (λ (n : ℕ). n + 1) (bases_in (members.told old)) → left None ≡ based s new
      goes_as form start bases = λ i. record { book = book; keeper = new; mark = held_mark book.draft drafter dropped expired sweep closed None (form i) (start i) (bases i); left_open = held_open held sweep; opened = o }

      answers : {T : Type 0} (kept : Result T Unmade) → MayBase s → KeptHere kept → Checkpoints caller s (left (fallen_by caller (members.faults new) None (based_at book.state.place kept))) (told_at book.state.place (based_at book.state.place kept))
      answers (Ok x) may so = record {
        may = may;
        fits = so.spells;
        reads = so.reads;
        told_is = refl;
        after = goes_as so.bases.format so.bases.first (bases_based members old new book.state.place payload (kind_of payload (checkpoint_of book.state last numbers) so.reads) so.bases);
      }
      answers (Err NotKept) may so = (
        refl,
        record {
          may = may;
          fits = so.spells;
          reads = so.reads;
          fault = record { caller = caller; count = members.faults new; payload = payload };
          caller_is = refl;
          payload = refl;
          after = falls_as so.bases.flies so.bases.format so.bases.first (bases_not_based members old new payload so.bases);
        },
      )
      answers (Err (Failed failures.NoMemory)) may so = (refl, stays_as so.bases.format so.bases.first (bases_stayed members old new so.bases))
      answers (Err (Failed (failures.Refused why))) may so =
          subst (λ (w : Refusal). NotBased caller s (record { place = Some book.state.place; why = w }) w (left None)) (sym so.spells.0)
          (refl, record { may = may; which_is = refl; number_is = refl; long = so.spells.1; after = stays_as so.bases.format so.bases.first (bases_stayed members old new so.bases) })

      -- all that is told
      pub checkpoint_told : {T : Type 0} (kept : Result T Unmade) (made : Result Told Unmade) (fallen after_fallen : Option Fallen) (x y : Stored K) (place : ℕ) (result : Result Told Refused) → fallen ≡ None → made ≡ based_at place kept → after_fallen ≡ fallen_by caller (members.faults new) fallen made
          → stored_at members safe only_now book old fallen drafter dropped expired held sweep closed o ≡ x → left after_fallen ≡ y → place ≡ book.state.place → result ≡ told_at place made → members.down old ≡ None → MayBase x → KeptHere kept
          → IsCheckpoint members caller x y result
      checkpoint_told kept made fallen after_fallen x y place result none is fell x_is y_is place_is result_is up may so =
          let made_is : made ≡ based_at book.state.place kept = is ∙ ap (λ (p : ℕ). based_at p kept) place_is in
          let ended : Stored K = left (fallen_by caller (members.faults new) None (based_at book.state.place kept)) in
          let answer : told_at book.state.place (based_at book.state.place kept) ≡ result = (λ i. told_at (sym place_is i) (sym made_is i)) ∙ sym result_is in
          let fell_is : fallen_by caller (members.faults new) None (based_at book.state.place kept) ≡ after_fallen = (λ i. fallen_by caller (members.faults new) (sym none i) (sym made_is i)) ∙ sym fell in
          let last_is : ended ≡ y = ap left fell_is ∙ y_is in
          let first : s ≡ x = ap (λ (f : Option Fallen). stored_at members safe only_now book old f drafter dropped expired held sweep closed o) (sym none) ∙ x_is in
          let whole_is : IsCheckpoint members caller s ended (told_at book.state.place (based_at book.state.place kept)) = record {
            checkpoints = answers kept (subst (λ (z : Stored K). MayBase z) (sym first) may) so;
            keeps = keeps book.state.place kept so;
            crash = leaves kept up so;
          } in
          subst (λ (z : Stored K). IsCheckpoint members caller z y result) first
          (subst (λ (z : Stored K). IsCheckpoint members caller s z result) last_is
          (subst (IsCheckpoint members caller s ended) answer whole_is))

  -- where nothing was done
  pub leaves_same : (x : Stored K) → members.down x.keeper ≡ None → LeavesBase members x.keeper x.keeper (base_bytes x)
  leaves_same x up = started members.moment members.left_since x.keeper (λ c. IfSome (members.told x.keeper) (λ ps. WithOrWithout ps (base_bytes x) c)) (λ c now. by (members.told x.keeper) refl c (only_now x.keeper c now))
    where
      by : (told : Option (List (List ℕ))) → members.told x.keeper ≡ told → (c : Option (List (List ℕ))) → members.may_leave x.keeper c → IfSome told (λ ps. WithOrWithout ps (base_bytes x) c)
      by None is c now = tt
      by (Some ps) is c now = inl (safe x.keeper ps c up is now)

  pub keeps_same : (x : Stored K) (r : Refused) → (r.why ≡ refusals.Fault → ⊥) → KeepsBase members x.keeper x.keeper x.book.state.place (base_bytes x) (Err r)
  keeps_same x r other = record { done = tt; fault = λ is. absurd (other is); other = λ no. stays members safe only_now x.keeper }

  -- or memory ran out before
  pub none_made : (caller : ℕ) (x : Stored K) (r : Refused) → r ≡ record { place = None; why = refusals.NoMemory } → members.down x.keeper ≡ None → IsCheckpoint members caller x x (Err r)
  none_made caller x r is up =
      subst (λ (z : Refused). IsCheckpoint members caller x x (Err z)) (sym is)
      record { checkpoints = (refl, refl); keeps = keeps_same x (record { place = None; why = refusals.NoMemory }) (λ e. absurd cc); crash = leaves_same x up }

-- a store that is down isn't up
pub down_is_not_up : {K A : Type 0} (s : Stored K) (count : ℕ) → IsDownAt s count → IsUp s → A
down_is_not_up s count is up = let no : ◌≡◌ {A = Option FailedAppend} None (Some is.0) = sym up ∙ is.1 in absurd cc

-- no sweep is held
pub unswept_inside : {K : Type 0} (s x : Stored K) (held : Option OpenSweep) → s ≡ x → s.left_open.sweep ≡ option_map sweep_held held → x.left_open.sweep ≡ None → held ≡ None
unswept_inside s x None same is none = refl
unswept_inside {K} s x (Some o) same is none =
    let no : Some (sweep_held o) ≡ None = sym is ∙ ap (λ (z : Stored K). z.left_open.sweep) same ∙ none in
    absurd cc

-- its state has its default branch
pub has_its_main : (o : Opened) (book : Book) (left_open : List OpenDraft) (references : List Reference) → IsSound o book left_open → references ≡ book.state.references → has_main references ≡ true
has_its_main o book left_open references sound is = subst (λ (l : List Reference). has_main l ≡ true) (sym is) (main_there book.state.references (state_upholds o book left_open sound).main)
