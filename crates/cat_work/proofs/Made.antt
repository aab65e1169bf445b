-- What several clauses say of one answer.
use Rattle.std.proofs.Common.{ℕ, Result, Ok, Err, IfOk}
use Rattle.cat_checks.specs.Histories.{IsLegalFrom}
use Rattle.cat_desk.specs.Pass.{DeskId, Keeps, known, mark_of, number_of, seen}
use Rattle.cat_desk.specs.declared.pass.Pass.{Pass}
use Rattle.cat_model.specs.declared.command.Command.{Command}
use Rattle.cat_model.specs.declared.refusal.Refused.{Refused}
use Rattle.cat_model.specs.declared.reply.Told.{Told}
use Rattle.cat_work.specs.AnswerLaws.{answers_begin}
use Rattle.cat_work.specs.Passes.{IsReady}
use Rattle.cat_work.specs.ReadyLaws.{ready_on}
use Rattle.cat_work.specs.Turns.{Comes}

pub from_three : {X Y : Type 0} (r : Result X Y) (P Q R S : X → Type 0) → ((x : X) → P x → Q x → R x → S x) → IfOk r P → IfOk r Q → IfOk r R → IfOk r S
from_three (Ok x) P Q R S f p q r = f x p q r
from_three (Err e) P Q R S f p q r = tt

-- a call leaves its pass ready
pub comes_ready : (desk : DeskId) (c : Command) (p q : Pass) (attempts moment : ℕ) (r : Result Told Refused) → IsReady desk p → Keeps desk p q → IsLegalFrom desk.opened (seen q) → Comes desk c p q attempts moment r → IsReady desk q
comes_ready desk c p q attempts moment r ready kept legal comes =
    ready_on desk p q ready kept.free comes.none legal (answers_begin desk (number_of p) c moment attempts (known p) (mark_of p) (mark_of q) (seen p) (seen q) r comes.answers)
