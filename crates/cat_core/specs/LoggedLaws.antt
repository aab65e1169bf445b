-- The entry of an accepted call that is well made has a spelling.
use Rattle.std.proofs.Common.{◌≡◌, ℕ, zero, suc, true, not, nat_eq, nat_lt, is_some, if◌then◌else◌, refl, arith}
use Rattle.std.proofs.lemmas.Bool.Decides.{nat_tests}
use Rattle.sha2.specs.Sha256.{sha256}
use Rattle.cat_codes.specs.ListLaws.{and_true}
use Rattle.cat_frames.specs.Entries.{is_logged}
use Rattle.cat_frames.specs.RequestLaws.{given_is_logged}
use Rattle.cat_model.specs.declared.command.Command.{Command}
use Rattle.cat_model.specs.declared.command.Command.TheVariants as commands
use Rattle.cat_model.specs.declared.command.CommitRequest.{CommitRequest}
use Rattle.cat_model.specs.declared.log_entry.Action.TheVariants as actions
use Rattle.cat_model.specs.declared.reply.Reply.{Reply}
use Rattle.cat_decisions.specs.declared.call.Call.{Call}
use Rattle.cat_decisions.specs.declared.call.Call.TheVariants as calls
use Rattle.cat_decisions.specs.Builds.{command_of}
use Rattle.cat_model.specs.Step.{head_left, head_told, logged_command, opens_draft}
use Rattle.cat_model.specs.WellMade.{have_contents, is_well_made, may_be_asked}

some_draft : (n : ℕ) → not (nat_eq n 0) ≡ true → nat_lt 0 n ≡ true
some_draft zero e = absurd cc
some_draft (suc n) e = grind (arith, nat_tests)

-- the draft's number is the call's: 0 exactly where it opens none
abbrev pub IsDraftOf : Command → ℕ → Type 0
IsDraftOf command draft = (if opens_draft command then not (nat_eq draft 0) else nat_eq draft 0) ≡ true

pub call_opens : (call : Call) → opens_draft (command_of call) ≡ true
call_opens (calls.Commit request given) = refl
call_opens (calls.Merge merge) = refl
call_opens (calls.Transplant transplant) = refl

contents_of : (c : CommitRequest) → is_well_made sha256 (commands.Commit c) ≡ true → have_contents sha256 c.ops c.contents ≡ true
unfolding is_well_made
contents_of c made = (and_true (may_be_asked c.ops) (have_contents sha256 c.ops c.contents) made).1

pub call_is_logged : (place caller draft moment : ℕ) (command : Command) (reply : Reply) → is_well_made sha256 command ≡ true → IsDraftOf command draft → is_some (head_told reply) ≡ true
    → is_logged sha256 (record { place = place; caller = caller; draft = draft; moment = moment; action = actions.Call (logged_command sha256 draft command); head = head_left command reply }) ≡ true
unfolding is_logged is_well_made
call_is_logged place caller draft moment (commands.Create c) reply made own head = rw (own, head, made) refl
call_is_logged place caller draft moment (commands.Assign c) reply made own head = rw (own, head, made) refl
call_is_logged place caller draft moment (commands.Delete c) reply made own head = rw own refl
call_is_logged place caller draft moment (commands.Commit c) reply made own head = rw (some_draft draft own, head, given_is_logged sha256 draft c (contents_of c made)) refl
call_is_logged place caller draft moment (commands.Merge m) reply made own head = rw (some_draft draft own, head) refl
call_is_logged place caller draft moment (commands.Transplant t) reply made own head = rw (some_draft draft own, head) refl
