-- Payloads that stand for a log, with an entry or a base more.
use Rattle.std.proofs.Common.{◌≡◌, ◌≤◌, ◌<◌, ℕ, ◌+◌, Bool, true, false, List, [], ◌∷◌, ◌++◌, drop, length, take, is_ok, Ok, Some, cond, nat_eq, nat_le, inl, inr, refl, sym, ap, subst, ◌∙◌, arith, le_refl, length-append}
use Rattle.std.specs.Prelude.{◌%◌}
use Rattle.std.proofs.lemmas.Bool.Decides.{nat_tests}
use Rattle.std.proofs.lemmas.List.{drop-append-le, drop_all, map-append, take-append-le, take_all}
use Rattle.std.proofs.Math.Seq.{take-length}
use Rattle.sha2.specs.Sha256.{sha256}
use Rattle.cat_checks.specs.AlikeBooks.{AreSweptFrom, IsSweptFrom}
use Rattle.cat_checks.specs.Histories.{AreFrom}
use Rattle.cat_checks.specs.Legal.{draft_may_come}
use Rattle.cat_codes.specs.Code.{u8_spelling, whole}
use Rattle.cat_frames.specs.Bases.{opened_by}
use Rattle.cat_frames.specs.Standing.{may_start}
use Rattle.cat_frames.specs.declared.checkpoint.Checkpoint.{Checkpoint}
use Rattle.cat_frames.specs.CheckpointLaws.{is_whole_checkpoint}
use Rattle.cat_frames.specs.Checkpoints.{checkpoint_code, is_checkpoint}
use Rattle.cat_frames.specs.Entries.{action_number, log_entry_code}
use Rattle.cat_keeper.specs.Bases.{base_of, base_with_base, base_with_entry, entries_with_base, entries_with_entry}
use Rattle.cat_keeper.specs.Kinds.{whole_is_checkpoint}
use Rattle.cat_model.specs.declared.command.Command.TheVariants as commands
use Rattle.cat_model.specs.declared.log_entry.Action.{Action}
use Rattle.cat_model.specs.declared.log_entry.Action.TheVariants as actions
use Rattle.cat_model.specs.declared.log_entry.LogEntry.{LogEntry}
use Rattle.cat_model.specs.Turns.{Opened}
use Rattle.cat_state.specs.Kept.{AreReadBack, IsReadBack, spelling, spellings}
use Rattle.cat_core.specs.RecordLaws.{stands_now}
use Rattle.cat_core.specs.Records.{IsBaseAt, IsCheckpointAt, IsInFlight, MayStand, StandFlown, StandFor, StandThrough, state_at}

-- ---- an entry is no base

-- its first byte is the number of its kind
first_is : (e : LogEntry) → is_checkpoint (spelling e) ≡ nat_eq (action_number e.action % 256) 8
unfolding log_entry_code u8_spelling
first_is e = refl

kind_is : (a : Action) → nat_eq (action_number a % 256) 8 ≡ false
kind_is (actions.Call (commands.Create c)) = refl
kind_is (actions.Call (commands.Assign c)) = refl
kind_is (actions.Call (commands.Delete c)) = refl
kind_is (actions.Call (commands.Commit c)) = refl
kind_is (actions.Call (commands.Merge c)) = refl
kind_is (actions.Call (commands.Transplant c)) = refl
kind_is (actions.Sweep s) = refl

pub entry_is_no_base : (e : LogEntry) → is_checkpoint (spelling e) ≡ false
entry_is_no_base e = first_is e ∙ kind_is e.action

-- what has a reading as a checkpoint is of its kind
pub kind_of : (bytes : List ℕ) (c : Checkpoint) → whole (checkpoint_code sha256) bytes ≡ Ok c → is_checkpoint bytes ≡ true
unfolding is_whole_checkpoint
kind_of bytes c reads = whole_is_checkpoint bytes (ap is_ok reads)

-- ---- what may stand behind a base

-- an entry more, whose draft may come
comes_more : (from : Opened) (log : List LogEntry) (e : LogEntry) → AreFrom from log → draft_may_come from e.draft ≡ true → AreFrom from (log ++ e ∷ [])
comes_more from [] e are one = (one, tt)
comes_more from (x ∷ log) e are one = (are.0, comes_more from log e are.1 one)

-- which is no sweep that was opened before the base
since_more : (place : ℕ) (log : List LogEntry) (e : LogEntry) → AreSweptFrom place log → IsSweptFrom place e.action → AreSweptFrom place (log ++ e ∷ [])
since_more place [] e are one = (one, tt)
since_more place (x ∷ log) e are one = (are.0, since_more place log e are.1 one)

-- ---- one payload more

pub read_more : (xs ys : List LogEntry) → AreReadBack xs → AreReadBack ys → AreReadBack (xs ++ ys)
read_more [] ys p q = q
read_more (x ∷ xs) ys p q = (p.0, read_more xs ys p.1 q)

module _ (o : Opened) (log : List LogEntry) (ps : List (List ℕ)) where
  pub with_entry : (e : LogEntry) → IsReadBack e → MayStand o log ps e → StandFor o log ps → StandFor o (log ++ e ∷ []) (ps ++ spelling e ∷ [])
  with_entry e again stands is = record {
    count = is.count;
    within = omega (arith, is.within, length-append log (e ∷ []));
    base = subst (λ (l : List LogEntry). IsBaseAt o l (base_of (ps ++ spelling e ∷ []))) (sym (take-append-le is.count log (e ∷ []) is.within)) (subst (IsBaseAt o (take is.count log)) (sym (base_with_entry ps (spelling e) (entry_is_no_base e))) is.base);
    entries =
        entries_with_entry ps (spelling e) (entry_is_no_base e) ∙ ap (λ (l : List (List ℕ)). l ++ spelling e ∷ []) is.entries ∙ sym (map-append spelling (drop is.count log) (e ∷ []))
        ∙ ap spellings (sym (drop-append-le is.count log (e ∷ []) is.within));
    read = subst AreReadBack (sym (drop-append-le is.count log (e ∷ []) is.within)) (read_more (drop is.count log) (e ∷ []) is.read (again, tt));
    may = subst (λ (l : List LogEntry). may_start sha256 (state_at o l) ≡ true) (sym (take-append-le is.count log (e ∷ []) is.within)) is.may;
    comes = λ from opened.
        let was : opened_by o.state.limits 0 0 (base_of ps) ≡ Some from = ap (opened_by o.state.limits 0 0) (sym (base_with_entry ps (spelling e) (entry_is_no_base e))) ∙ opened in
        subst (AreFrom from) (sym (drop-append-le is.count log (e ∷ []) is.within)) (comes_more from (drop is.count log) e (is.comes from was) (stands.comes from was));
    since = subst (λ (l : List LogEntry). AreSweptFrom (state_at o l).place (drop is.count (log ++ e ∷ []))) (sym (take-append-le is.count log (e ∷ []) is.within))
        (subst (AreSweptFrom (state_at o (take is.count log)).place) (sym (drop-append-le is.count log (e ∷ []) is.within)) (since_more (state_at o (take is.count log)).place (drop is.count log) e is.since (stands.since is)));
  }

  pub with_base : (base : List ℕ) (drafts : List ℕ) → is_checkpoint base ≡ true → IsCheckpointAt o log drafts base → may_start sha256 (state_at o log) ≡ true → StandFor o log (ps ++ base ∷ [])
  with_base base drafts is made may = record {
    count = length log;
    within = le_refl (length log);
    base = subst (IsBaseAt o (take (length log) log)) (sym (base_with_base ps base is))
        (drafts, subst (λ (l : List LogEntry). IsCheckpointAt o l drafts base) (sym (take-length log)) made);
    entries = entries_with_base ps base is ∙ ap spellings (sym (drop_all (length log) log (le_refl (length log))));
    read = subst AreReadBack (sym (drop_all (length log) log (le_refl (length log)))) tt;
    may = subst (λ (l : List LogEntry). may_start sha256 (state_at o l) ≡ true) (sym (take-length log)) may;
    comes = λ from opened. subst (AreFrom from) (sym (drop_all (length log) log (le_refl (length log)))) tt;
    since = subst (AreSweptFrom (state_at o (take (length log) log)).place) (sym (drop_all (length log) log (le_refl (length log)))) tt;
  }

-- the one that was in flight
pub stands_flown : (o : Opened) (log : List LogEntry) (ps : List (List ℕ)) (p : List ℕ) → StandFor o log ps → IsInFlight o log p ps → StandFlown o log p (ps ++ p ∷ [])
stands_flown o log ps p is (inl based) = inl (with_base o log ps p based.0 (kind_of p _ based.1.reads) based.1 based.2)
stands_flown o log ps p is (inr entry) = inr (entry.0, entry.1, entry.3, subst (λ (q : List ℕ). StandFor o (log ++ entry.0 ∷ []) (ps ++ q ∷ [])) (sym entry.1) (with_entry o log ps entry.0 entry.2 entry.4 is))

-- ---- at each moment

-- the reach of a longer list: as before, up to its end
abbrev further : (ℕ → ℕ) → ℕ → ℕ → ℕ → ℕ
further reach old most n = cond (nat_le n old) (reach n) most

module _ (reach : ℕ → ℕ) (old low most : ℕ) (end : reach old ≡ low) (more : low ≤ most) (rises : (a b : ℕ) → a ≤ b → reach a ≤ reach b) where
  before : (n : ℕ) → n ≤ old → further reach old most n ≡ reach n
  before n le = let is : nat_le n old ≡ true = grind (arith, nat_tests, le) in rw is refl

  behind : (n : ℕ) → old < n → further reach old most n ≡ most
  behind n lt = let is : nat_le n old ≡ false = grind (arith, nat_tests, lt) in rw is refl

  below : (n : ℕ) → n ≤ old → reach n ≤ low
  below n le = omega (arith, rises n old le, end)

  pub further_within : (n : ℕ) → further reach old most n ≤ most
  further_within n = by (nat_le n old) refl
    where
      by : (b : Bool) → nat_le n old ≡ b → cond b (reach n) most ≤ most
      by true is = let le : n ≤ old = grind (arith, nat_tests, is) in omega (arith, below n le, more)
      by false is = le_refl most

  pub further_rises : (a b : ℕ) → a ≤ b → further reach old most a ≤ further reach old most b
  further_rises a b le = by (nat_le b old) refl
    where
      by : (t : Bool) → nat_le b old ≡ t → further reach old most a ≤ cond t (reach b) most
      by true is =
          let low_b : b ≤ old = grind (arith, nat_tests, is) in
          subst (λ (n : ℕ). n ≤ reach b) (sym (before a (omega (arith, le, low_b)))) (rises a b le)
      by false is = further_within a

module _ (o : Opened) (log : List LogEntry) (ps : List (List ℕ)) (p : List ℕ) (next : List LogEntry) (through : StandThrough o log ps) (same : (n : ℕ) → n ≤ length log → take n next ≡ take n log) (more : length log ≤ length next) (one : StandFor o next (ps ++ p ∷ [])) where
  abbrev reach : ℕ → ℕ
  reach = further through.reach (length ps) (length next)

  long : length (ps ++ p ∷ []) ≡ length ps + 1
  long = length-append ps (p ∷ [])

  earlier : (n : ℕ) → o.payloads ≤ n → n ≤ length ps → StandFor o (take (reach n) next) (take n (ps ++ p ∷ []))
  earlier n least le =
      let was : StandFor o (take (through.reach n) log) (take n ps) = through.each n least le in
      let log_is : take (reach n) next ≡ take (through.reach n) log =
      ap (λ (m : ℕ). take m next) (before through.reach (length ps) (length log) (length next) through.end more through.rises n le) ∙ same (through.reach n) (through.within n) in
      subst (λ (l : List LogEntry). StandFor o l (take n (ps ++ p ∷ []))) (sym log_is) (subst (StandFor o (take (through.reach n) log)) (sym (take-append-le n ps (p ∷ []) le)) was)

  last : (n : ℕ) → length ps < n → n ≤ length (ps ++ p ∷ []) → StandFor o (take (reach n) next) (take n (ps ++ p ∷ []))
  last n lt le =
      let whole_list : take n (ps ++ p ∷ []) ≡ ps ++ p ∷ [] = take_all n (ps ++ p ∷ []) (omega (arith, lt, long)) in
      let whole_log : take (reach n) next ≡ next = ap (λ (m : ℕ). take m next) (behind through.reach (length ps) (length log) (length next) through.end more through.rises n lt) ∙ take-length next in
      subst (λ (l : List LogEntry). StandFor o l (take n (ps ++ p ∷ []))) (sym whole_log) (subst (StandFor o next) (sym whole_list) one)

  each : (n : ℕ) → o.payloads ≤ n → n ≤ length (ps ++ p ∷ []) → StandFor o (take (reach n) next) (take n (ps ++ p ∷ []))
  each n least le = by (nat_le n (length ps)) refl
    where
      by : (t : Bool) → nat_le n (length ps) ≡ t → StandFor o (take (reach n) next) (take n (ps ++ p ∷ []))
      by true is = earlier n least (grind (arith, nat_tests, is))
      by false is = last n (grind (arith, nat_tests, is)) le

  pub through_more : StandThrough o next (ps ++ p ∷ [])
  through_more = record {
    many = omega (arith, through.many, long);
    reach = reach;
    within = further_within through.reach (length ps) (length log) (length next) through.end more through.rises;
    rises = further_rises through.reach (length ps) (length log) (length next) through.end more through.rises;
    end = behind through.reach (length ps) (length log) (length next) through.end more through.rises (length (ps ++ p ∷ [])) (omega (arith, long));
    each = each;
  }

pub through_entry : (o : Opened) (log : List LogEntry) (ps : List (List ℕ)) (e : LogEntry) → IsReadBack e → MayStand o log ps e → StandThrough o log ps → StandThrough o (log ++ e ∷ []) (ps ++ spelling e ∷ [])
through_entry o log ps e again stands through =
    through_more o log ps (spelling e) (log ++ e ∷ []) through (λ n le. take-append-le n log (e ∷ []) le) (omega (arith, length-append log (e ∷ []))) (with_entry o log ps e again stands (stands_now o log ps through))

pub through_base : (o : Opened) (log : List LogEntry) (ps : List (List ℕ)) (base : List ℕ) (drafts : List ℕ) → is_checkpoint base ≡ true → IsCheckpointAt o log drafts base → may_start sha256 (state_at o log) ≡ true → StandThrough o log ps → StandThrough o log (ps ++ base ∷ [])
through_base o log ps base drafts is made may through = through_more o log ps base log through (λ n le. refl) (le_refl (length log)) (with_base o log ps base drafts is made may)

-- as it is opened
pub through_opened : (o : Opened) (log : List LogEntry) (ps : List (List ℕ)) → o.payloads ≡ length ps → StandFor o log ps → StandThrough o log ps
through_opened o log ps total is = record {
  many = omega (arith, total);
  reach = λ n. length log;
  within = λ n. le_refl (length log);
  rises = λ a b le. le_refl (length log);
  end = refl;
  each = λ n least le.
      let all : take n ps ≡ ps = take_all n ps (omega (arith, least, total)) in
      subst (λ (l : List LogEntry). StandFor o l (take n ps)) (sym (take-length log)) (subst (StandFor o log) (sym all) is);
}
