-- The command of a legal entry is in the form in which it is logged, and entries that are spelled alike are the same.
use Rattle.std.proofs.Common.{◌≡◌, ℕ, List, [], ◌∷◌, ◌++◌, Ok, Err, Bool, true, false, nat_lt, if◌then◌else◌, refl, sym, ap, ◌∙◌, subst}
use Rattle.std.proofs.lemmas.Slice.Eq.{bytes_eq-Decides}
use Rattle.cat_codes.specs.FieldLaws.{one_reading}
use Rattle.cat_model.specs.declared.command.Command.{Command}
use Rattle.cat_model.specs.declared.log_entry.Action.{Action}
use Rattle.cat_model.specs.declared.log_entry.Action.TheVariants as actions
use Rattle.cat_model.specs.declared.log_entry.LogEntry.{LogEntry}
use Rattle.cat_model.specs.declared.reply.Reply.{Reply}
use Rattle.cat_model.specs.Book.{Book}
use Rattle.cat_model.specs.Calls.{Called, attempt, entry_made, stepped}
use Rattle.cat_model.specs.Refusing.{Outcome, Tested}
use Rattle.cat_model.specs.State.{Digest, State}
use Rattle.cat_model.specs.Step.{Turn, logged_command, opening, step}
use Rattle.cat_frames.specs.Entries.{log_entry_code}
use Rattle.cat_frames.specs.EntryLaws.{log_entry_is}
use Rattle.cat_checks.specs.Legal.{IsLegal, are_spelled_alike, draft_after, replayed_action, replayed_by, turn_of}

-- two entries that have a spelling, and the same one
pub alike_are_same : (digest : Digest) (a b : LogEntry) → (log_entry_code digest).Fits a → (log_entry_code digest).Fits b → are_spelled_alike digest a b ≡ true → a ≡ b
alike_are_same digest a b fits_a fits_b alike =
    let same : (log_entry_code digest).spell a ≡ (log_entry_code digest).spell b = (bytes_eq-Decides _ _).0 alike in
    (one_reading (log_entry_code digest) (log_entry_is digest) a b [] [] fits_a fits_b (ap (λ (bytes : List ℕ). bytes ++ []) same)).0

-- ---- commands as they are logged

-- the newest entry is of this command
abbrev NewestHas : Command → List LogEntry → Type 0
NewestHas command [] = Unit {0}
NewestHas command (e ∷ entries) = actions.Call command ≡ e.action

choice_has : (command : Command) (b : Bool) (x y : Called) → NewestHas command x.logged → NewestHas command y.logged → NewestHas command (if b then x else y).logged
choice_has command true x y p q = p
choice_has command false x y p q = q

made_has : (digest : Digest) (after : State) (command : Command) (turn : Turn) (reply : Reply) → NewestHas (logged_command digest turn.draft command) (entry_made digest 0 after command turn reply ∷ [])
unfolding entry_made
made_has digest after command turn reply = refl

stepped_has : (digest : Digest) (state : State) (draft : ℕ) (command : Command) (turn : Turn) (outcome : Outcome) → NewestHas (logged_command digest turn.draft command) (stepped digest 0 state draft command turn outcome).logged
stepped_has digest state draft command turn (Err why) = tt
stepped_has digest state draft command turn (Ok (after, reply)) = choice_has (logged_command digest turn.draft command) (nat_lt state.place after.place) _ _ (made_has digest after command turn reply) tt

tested_has : (digest : Digest) (book : Book) (entry : LogEntry) (command : Command) (tested : Tested) → NewestHas (logged_command digest entry.draft command) (replayed_by digest book entry command tested).logged
tested_has digest book entry command (Err why) = tt
tested_has digest book entry command (Ok u) = stepped_has digest book.state (draft_after book entry) command (turn_of book entry) (step digest book.state command (turn_of book entry))

called_has : (digest : Digest) (book : Book) (entry : LogEntry) (command : Command) → NewestHas (logged_command digest entry.draft command) (replayed_action digest book entry (actions.Call command)).logged
unfolding attempt
called_has digest book entry command = tested_has digest book entry command (opening digest book.state command)

same_call : (a b : Command) → actions.Call a ≡ actions.Call b → a ≡ b
same_call a b e = cc

-- what is asked beside isn't in it, nor what is said of a source's kind, and ids and hashes are given
pub legal_is_as_logged : (digest : Digest) (book : Book) (entry : LogEntry) (command : Command) → entry.action ≡ actions.Call command → IsLegal digest book entry → logged_command digest entry.draft command ≡ command
legal_is_as_logged digest book entry command called is =
    let itself = ap (λ (action : Action). (replayed_action digest book entry action).logged) (sym called) ∙ is.logged in
    same_call _ _ (subst (NewestHas (logged_command digest entry.draft command)) itself (called_has digest book entry command) ∙ called)
