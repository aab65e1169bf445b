-- What a sweep brings that removes contents, and what running it leaves.
use Rattle.std.proofs.Common.{◌≡◌, ℕ, suc, ◌+◌, ◌-◌, ◌≤◌, List, [], ◌∷◌, length, filter, Ok, Err, Bool, true, false, not, cond, IsTrue, refl, sym, ap, ◌∙◌, subst, arith}
use Rattle.sha2.specs.Sha256.{sha256}
use Rattle.cat_checks.specs.AcceptedLaws.{swept_is_legal}
use Rattle.cat_checks.specs.Legal.{may_be_swept}
use Rattle.cat_model.specs.declared.content.Content.{Content}
use Rattle.cat_model.specs.declared.log_entry.LogEntry.{LogEntry}
use Rattle.cat_model.specs.declared.refusal.Refusal.{Refusal}
use Rattle.cat_model.specs.declared.reply.Reply.{Reply}
use Rattle.cat_model.specs.declared.reply.Reply.TheVariants as replies
use Rattle.cat_model.specs.declared.reply.Told.{Told}
use Rattle.cat_model.specs.declared.sweep.Sweep.{Sweep}
use Rattle.cat_model.specs.Base.{is_among}
use Rattle.cat_model.specs.Book.{Book, after_call}
use Rattle.cat_model.specs.Calls.{Called, unchanged_by}
use Rattle.cat_model.specs.Past.{past_of}
use Rattle.cat_model.specs.Refusing.{◌>>=◌, Outcome, Tested}
use Rattle.cat_model.specs.State.{State}
use Rattle.cat_model.specs.Sweeps.{is_saved, kept_contents, needs_sweep_room, removed_contents, step_sweep, sweep_call, sweep_entry, swept, swept_by}
use Rattle.cat_names.specs.declared.hash.Hash.{Hash}
use Rattle.cat_state.specs.declared.failure.Failure.TheVariants as failures
use Rattle.cat_state.specs.declared.unmade.Unmade.{Unmade}
use Rattle.cat_state.specs.declared.unmade.Unmade.TheVariants.{Failed, NotKept}
use Rattle.cat_state.specs.Kept.{IsUnrefused}
use Rattle.cat_state.specs.Sweeping.{spares_at, sweeping, without}
use Rattle.cat_tables.specs.References.{heads_pass}
use Rattle.cat_core.specs.Making.{Runs, with_entry}
use Rattle.cat_core.specs.Sweeping.{AreRemoved, saved_on}
use Rattle.cat_core.specs.Sweeps.{sweep_on, swept_told}
use Rattle.cat_core.proofs.InStep.{LogsRight}
use Rattle.cat_core.proofs.Sound.{BringsOne, IsCallIn}
use Rattle.cat_core.proofs.Spared.{kept_is, spared_heads}

-- ---- how many stay, and how many go

split_at : {A : Type 0} (b : Bool) (x : A) (kept gone : List A) (n : ℕ) → length kept + length gone ≡ n → length (cond b (x ∷ kept) kept) + length (cond (not b) (x ∷ gone) gone) ≡ suc n
split_at true x kept gone n e = omega (arith, e)
split_at false x kept gone n e = omega (arith, e)

split_length : {A : Type 0} (p : A → Bool) (xs : List A) → length (filter p xs) + length (filter (λ x. not (p x)) xs) ≡ length xs
split_length p [] = refl
split_length p (x ∷ xs) = split_at (p x) x (filter p xs) (filter (λ x. not (p x)) xs) (length xs) (split_length p xs)

gone_is : (saved : List Hash) (present : List (Hash × Content)) → length (removed_contents saved present) ≡ length present - length (kept_contents saved present)
unfolding kept_contents removed_contents
gone_is saved present = let all = split_length (is_saved saved) present in omega (arith, all)

pub fewer : (hashes : List Hash) (present : List (Hash × Content)) → length (without hashes present) ≤ length present
fewer hashes present = let all = split_length (λ (x : Hash × Content). not (is_among hashes x.0)) present in omega (arith, all)

-- ---- what it brings

module _ (caller moment : ℕ) (book : Book) (s : Sweep) (hashes : List Hash) (room : needs_sweep_room book.state (length s.commits + length s.contents) ≡ Ok tt) (are : AreRemoved book s hashes) where
  abbrev pub left : State
  left = sweeping book.state hashes

  abbrev pub told : Told
  told = swept_told left s.opened (length book.state.present)

  abbrev kept : List (Hash × Content)
  kept = kept_contents (saved_on book s) book.state.present

  stays : without hashes book.state.present ≡ kept
  stays = kept_is (saved_on book s) book.state.present hashes are

  step_is : step_sweep book.state (past_of sha256 book) s ≡ Ok (left, told.reply)
  unfolding step_sweep
  step_is =
      ap (λ (t : Tested). t >>= λ _. swept book.state s.opened (saved_on book s)) room
      ∙ (λ i. Ok (record (book.state) { place = book.state.place + 1; present = sym stays i }, replies.Swept (record { kept = length (sym stays i); opened = s.opened; removed = gone i })))
    where
      gone : length (removed_contents (saved_on book s) book.state.present) ≡ length book.state.present - length (without hashes book.state.present)
      gone = gone_is (saved_on book s) book.state.present ∙ ap (λ (l : List (Hash × Content)). length book.state.present - length l) (sym stays)

  abbrev pub entry : LogEntry
  entry = sweep_entry caller (book.state.place + 1) moment s

  pub brought : sweep_on caller book moment s ≡ record { said = Ok told; logged = entry ∷ []; state = left; draft = book.draft }
  unfolding sweep_call
  brought = ap (swept_by caller book.state book.draft moment s) step_is

  pub logs : (sweep_on caller book moment s).logged ≡ entry ∷ []
  logs = ap (λ (c : Called). c.logged) brought

  pub done_runs : (after : Book) → after ≡ with_entry book left entry → Runs (sweep_on caller book moment s) book after (Ok told)
  done_runs after is = record { said = ap (λ (c : Called). c.said) brought; book = is ∙ sym (ap (after_call book) brought) }

  pub failed_runs : (after : Book) (why : Unmade) → after ≡ book → IsUnrefused why → Runs (sweep_on caller book moment s) book after (Err why)
  failed_runs after NotKept is un = record {
    entry = entry;
    logged = logs;
    state = ap (λ (b : Book). b.state) is;
    log = ap (λ (b : Book). b.log) is;
    base = ap (λ (b : Book). b.base) is;
    draft = ap (λ (b : Book). b.draft) is ∙ sym (ap (λ (c : Called). c.draft) brought);
  }
  failed_runs after (Failed failures.NoMemory) is un = record {
    state = ap (λ (b : Book). b.state) is;
    log = ap (λ (b : Book). b.log) is;
    base = ap (λ (b : Book). b.base) is;
    kept = (let same : after.draft ≡ book.draft = ap (λ (b : Book). b.draft) is in omega (arith, same));
    taken = (let same : after.draft ≡ book.draft = ap (λ (b : Book). b.draft) is in let own : (sweep_on caller book moment s).draft ≡ book.draft = ap (λ (c : Called). c.draft) brought in omega (arith, same, own));
  }
  failed_runs after (Failed (failures.Refused why)) is un = absurd un

  -- nothing goes that is visible at a head
  pub spares : IsTrue (heads_pass (spares_at book.state.commits hashes) book.state.references)
  spares = spared_heads book.state (past_of sha256 book) s hashes are

-- ---- any sweep that may be logged

pub swept_draft : (caller : ℕ) (state : State) (draft moment : ℕ) (s : Sweep) (outcome : Outcome) → (swept_by caller state draft moment s outcome).draft ≡ draft
swept_draft caller state draft moment s (Err why) = refl
swept_draft caller state draft moment s (Ok (after, reply)) = refl

one_swept : (caller moment : ℕ) (book : Book) (s : Sweep) (after : State) (reply : Reply) → may_be_swept sha256 book s ≡ true → step_sweep book.state (past_of sha256 book) s ≡ Ok (after, reply) → BringsOne caller 0 book (sweep_entry caller after.place moment s) after
unfolding sweep_entry
one_swept caller moment book s after reply may steps =
    let legal = swept_is_legal caller book moment s after reply may steps in
    record { caller_is = refl; draft_is = refl; legal = legal.0; leads = legal.1 }

swept_brings : (caller moment : ℕ) (book : Book) (s : Sweep) (outcome : Outcome) → may_be_swept sha256 book s ≡ true → step_sweep book.state (past_of sha256 book) s ≡ outcome → IsCallIn caller 0 book (swept_by caller book.state book.draft moment s outcome)
swept_brings caller moment book s (Err why) may steps = record { draft = refl; brings = refl }
swept_brings caller moment book s (Ok (after, reply)) may steps = record { draft = refl; brings = one_swept caller moment book s after reply may steps }

pub sweep_brings : (caller moment : ℕ) (book : Book) (s : Sweep) → may_be_swept sha256 book s ≡ true → IsCallIn caller 0 book (sweep_on caller book moment s)
unfolding sweep_call
sweep_brings caller moment book s may = swept_brings caller moment book s (step_sweep book.state (past_of sha256 book) s) may refl

swept_right : (caller : ℕ) (state : State) (draft moment : ℕ) (s : Sweep) (outcome : Outcome) → LogsRight (swept_by caller state draft moment s outcome)
swept_right caller state draft moment s (Err why) = record { few = tt; none = λ r e. refl }
swept_right caller state draft moment s (Ok (after, reply)) = record { few = tt; none = λ r e. absurd cc }

pub sweep_right : (caller moment : ℕ) (book : Book) (s : Sweep) → LogsRight (sweep_on caller book moment s)
unfolding sweep_call
sweep_right caller moment book s = swept_right caller book.state book.draft moment s (step_sweep book.state (past_of sha256 book) s)

-- ---- one for which there is no room

refused_by : (caller moment : ℕ) (book : Book) (s : Sweep) (t : Tested) (why : Refusal) → t ≡ Err why
    → swept_by caller book.state book.draft moment s (t >>= λ _. swept book.state s.opened (saved_on book s)) ≡ unchanged_by book.state book.draft (Err why)
refused_by caller moment book s t why is = ap (λ (t : Tested). swept_by caller book.state book.draft moment s (t >>= λ _. swept book.state s.opened (saved_on book s))) is

pub refused_is : (caller moment : ℕ) (book : Book) (s : Sweep) (why : Refusal) → needs_sweep_room book.state (length s.commits + length s.contents) ≡ Err why → sweep_on caller book moment s ≡ unchanged_by book.state book.draft (Err why)
unfolding sweep_call step_sweep
refused_is caller moment book s why is = refused_by caller moment book s (needs_sweep_room book.state (length s.commits + length s.contents)) why is

-- ---- as it is run

module _ (caller moment : ℕ) (book after : Book) (s : Sweep) (hashes : List Hash) (room : needs_sweep_room book.state (length s.commits + length s.contents) ≡ Ok tt) (are : AreRemoved book s hashes) (made : LogEntry) (is : made ≡ entry caller moment book s hashes room are) where
  pub done_as : (told_is : Told) (before : ℕ) → before ≡ length book.state.present → after ≡ with_entry book (sweeping book.state hashes) made → told_is ≡ swept_told after.state s.opened before → Runs (sweep_on caller book moment s) book after (Ok told_is)
  done_as told_is before many left_is tells =
      let own : after ≡ with_entry book (left caller moment book s hashes room are) (entry caller moment book s hashes room are) = left_is ∙ ap (with_entry book (sweeping book.state hashes)) is in
      let same : told_is ≡ told caller moment book s hashes room are = tells ∙ (λ i. swept_told (ap (λ (b : Book). b.state) left_is i) s.opened (many i)) in
      subst (λ (x : Told). Runs (sweep_on caller book moment s) book after (Ok x)) (sym same) (done_runs caller moment book s hashes room are after own)

  pub logs_as : (sweep_on caller book moment s).logged ≡ made ∷ []
  logs_as = logs caller moment book s hashes room are ∙ ap (λ (e : LogEntry). e ∷ []) (sym is)
