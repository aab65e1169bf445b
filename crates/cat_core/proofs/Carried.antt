-- What was decided of a call, carried out.
use Rattle.std.proofs.Common.{◌≡◌, [], ◌∷◌, true, Result, Ok, Err, IfErr, IfOk, OnErr, OnOk, refl, sym, ap, subst, ◌∙◌}
use Rattle.sha2.specs.Sha256.{sha256}
use Rattle.cat_frames.specs.Entries.{is_logged}
use Rattle.cat_model.specs.declared.command.Command.{Command}
use Rattle.cat_model.specs.declared.log_entry.LogEntry.{LogEntry}
use Rattle.cat_model.specs.declared.reply.Reply.{Reply}
use Rattle.cat_model.specs.declared.reply.Told.{Told}
use Rattle.cat_model.specs.Book.{Book, IsCalled}
use Rattle.cat_model.specs.Step.{head_left, logged_command}
use Rattle.cat_decisions.specs.declared.decision.Decision.{Decision}
use Rattle.cat_decisions.specs.declared.decision.Decision.TheVariants as decisions
use Rattle.cat_decisions.specs.declared.decision.Making.{Making}
use Rattle.cat_decisions.specs.Decisions.{Decides, IsMaking}
use Rattle.cat_state.specs.declared.failure.Failure.{Failure}
use Rattle.cat_state.specs.declared.failure.Failure.TheVariants as failures
use Rattle.cat_state.specs.declared.unmade.Unmade.{Unmade}
use Rattle.cat_state.specs.declared.unmade.Unmade.TheVariants.{Failed, NotKept}
use Rattle.cat_state.specs.Changing.{MayBeMade, applied}
use Rattle.cat_state.specs.Kept.{IsUnrefused}
use Rattle.cat_core.specs.declared.ledger.logging.Turn.{Turn}
use Rattle.cat_core.specs.Deciding.{IsDecided, made_book, made_entry, made_told}
use Rattle.cat_core.specs.Making.{Runs, entry_at, taking, with_entry}
use Rattle.cat_core.specs.Turns.{turned, turned_step}
use Rattle.cat_core.proofs.Called.{accepted, no_memory, none_logged, step_fails, step_not_kept, step_unchanged, turned_logs}

module _ (book : Book) (turn : Turn) (command : Command) where
  -- it is a decision of one form
  decided_as : (decided other : Result Decision Failure) → decided ≡ other → IsDecided book turn command decided → IsDecided book turn command other
  decided_as decided other is d = subst (λ (x : Result Decision Failure). IsDecided book turn command x) is d

  -- ---- a refusal, or want of memory

  pub carried_failure : (after : Book) (decided : Result Decision Failure) (failure : Failure) → decided ≡ Err failure → after ≡ taking book turn.draft → IsDecided book turn command decided → Runs (turned book turn command) book after (Err (Failed failure))
  carried_failure after decided failure is takes d = step_fails book after turn command failure takes (decided_as decided (Err failure) is d).decides

  -- ---- a reply

  pub carried_reply : (after : Book) (decided : Result Decision Failure) (reply : Reply) (told : Told) → decided ≡ Ok (decisions.Told reply) → after ≡ taking book turn.draft → told ≡ record { place = after.state.place; reply = reply }
      → IsDecided book turn command decided → Runs (turned book turn command) book after (Ok told)
  carried_reply after decided reply told is takes t d = step_unchanged book after turn command reply told (decided_as decided (Ok (decisions.Told reply)) is d).decides takes t

  pub reply_logs : (decided : Result Decision Failure) (reply : Reply) → decided ≡ Ok (decisions.Told reply) → IsDecided book turn command decided → (turned book turn command).logged ≡ []
  reply_logs decided reply is d = none_logged book turn command reply (decided_as decided (Ok (decisions.Told reply)) is d).decides

  -- ---- a change

  module _ (m : Making) (makes : IsMaking turn.draft book.state command (turned_step book turn command) m) where
    -- the entry is the call's
    entry_is : entry_at book turn (logged_command sha256 turn.draft command) (head_left command m.reply) ≡ made_entry book turn m
    entry_is = rw (makes.command, makes.head) refl

    -- the change was made
    pub change_done : (before after : Book) (told : Told) → before ≡ taking book turn.draft → after ≡ made_book before turn m → told ≡ made_told before m → IsCalled (turned book turn command) book after (Ok told)
    change_done before after told takes a t =
        let own : after ≡ with_entry (taking book turn.draft) (applied book.state m.change) (entry_at book turn (logged_command sha256 turn.draft command) (head_left command m.reply)) =
        a ∙ ap (λ (b : Book). made_book b turn m) takes ∙ ap (λ (e : LogEntry). with_entry (taking book turn.draft) (applied book.state m.change) e) (sym entry_is) in
        let told_is : told ≡ made_told book m = t ∙ ap (λ (b : Book). made_told b m) takes in
        subst (λ (x : Told). IsCalled (turned book turn command) book after (Ok x)) (sym told_is)
        (subst (λ (b : Book). IsCalled (turned book turn command) book b (Ok (made_told book m))) (sym own) (accepted book turn command (applied book.state m.change) m.reply makes.step refl))

    change_logs : (turned book turn command).logged ≡ made_entry book turn m ∷ []
    change_logs = turned_logs book turn command (applied book.state m.change) m.reply makes.step refl ∙ ap (λ (e : LogEntry). e ∷ []) entry_is

    change_carried : (before after : Book) (result : Result Told Unmade) → before ≡ taking book turn.draft → OnOk result (after ≡ made_book before turn m) → IfOk result (λ told. told ≡ made_told before m) → OnErr result (after ≡ before) → IfErr result IsUnrefused
        → Runs (turned book turn command) book after result
    change_carried before after (Ok told) takes a t e w = change_done before after told takes a t
    change_carried before after (Err NotKept) takes a t e w = step_not_kept book after turn command (applied book.state m.change) m.reply makes.step refl (e ∙ takes)
    change_carried before after (Err (Failed failures.NoMemory)) takes a t e w = no_memory book after turn command (e ∙ takes)
    change_carried before after (Err (Failed (failures.Refused why))) takes a t e w = absurd w

  pub carried_change : (before after : Book) (decided : Result Decision Failure) (m : Making) (result : Result Told Unmade) → decided ≡ Ok (decisions.Made m) → before ≡ taking book turn.draft → OnOk result (after ≡ made_book before turn m)
      → IfOk result (λ told. told ≡ made_told before m) → OnErr result (after ≡ before) → IfErr result IsUnrefused → IsDecided book turn command decided → Runs (turned book turn command) book after result
  carried_change before after decided m result is takes a t e w d = change_carried m (decided_as decided (Ok (decisions.Made m)) is d).decides before after result takes a t e w

  pub may_carry : (before : Book) (decided : Result Decision Failure) (m : Making) → decided ≡ Ok (decisions.Made m) → before ≡ taking book turn.draft → IsDecided book turn command decided → MayBeMade before.state m.change
  may_carry before decided m is takes d = subst (λ (b : Book). MayBeMade b.state m.change) (sym takes) (decided_as decided (Ok (decisions.Made m)) is d).decides.may

  pub may_log : (before : Book) (decided : Result Decision Failure) (m : Making) → decided ≡ Ok (decisions.Made m) → before ≡ taking book turn.draft → IsDecided book turn command decided → is_logged sha256 (made_entry before turn m) ≡ true
  may_log before decided m is takes d = subst (λ (b : Book). is_logged sha256 (made_entry b turn m) ≡ true) (sym takes) (decided_as decided (Ok (decisions.Made m)) is d).logged

  -- its entry
  pub change_is_logged : (before : Book) (decided : Result Decision Failure) (m : Making) → decided ≡ Ok (decisions.Made m) → before ≡ taking book turn.draft → IsDecided book turn command decided → (turned book turn command).logged ≡ made_entry before turn m ∷ []
  change_is_logged before decided m is takes d = change_logs m (decided_as decided (Ok (decisions.Made m)) is d).decides ∙ ap (λ (b : Book). made_entry b turn m ∷ []) (sym takes)

  -- ---- made again

  again_as : (decision other : Decision) → decision ≡ other → Decides turn.draft book.state command (turned_step book turn command) (Ok decision) → Decides turn.draft book.state command (turned_step book turn command) (Ok other)
  again_as decision other is decides = subst (λ (d : Decision). Decides turn.draft book.state command (turned_step book turn command) (Ok d)) is decides

  pub may_again : (before : Book) (decision : Decision) (m : Making) → decision ≡ decisions.Made m → before ≡ taking book turn.draft → Decides turn.draft book.state command (turned_step book turn command) (Ok decision) → MayBeMade before.state m.change
  may_again before decision m is takes decides = subst (λ (b : Book). MayBeMade b.state m.change) (sym takes) (again_as decision (decisions.Made m) is decides).may

  pub reply_again : (after : Book) (decision : Decision) (reply : Reply) (told : Told) → decision ≡ decisions.Told reply → after ≡ taking book turn.draft → told ≡ record { place = after.state.place; reply = reply }
      → Decides turn.draft book.state command (turned_step book turn command) (Ok decision) → IsCalled (turned book turn command) book after (Ok told)
  reply_again after decision reply told is takes t decides = step_unchanged book after turn command reply told (again_as decision (decisions.Told reply) is decides) takes t

  pub change_again : {E : Type 0} (before after : Book) (decision : Decision) (m : Making) (result : Result Told E) → decision ≡ decisions.Made m → before ≡ taking book turn.draft → OnOk result (after ≡ made_book before turn m)
      → IfOk result (λ told. told ≡ made_told before m) → Decides turn.draft book.state command (turned_step book turn command) (Ok decision) → IfOk result (λ told. IsCalled (turned book turn command) book after (Ok told))
  change_again before after decision m (Ok told) is takes a t decides = change_done m (again_as decision (decisions.Made m) is decides) before after told takes a t
  change_again before after decision m (Err e) is takes a t decides = tt
