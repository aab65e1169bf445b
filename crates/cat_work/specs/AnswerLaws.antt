-- Laws of what a call on a pass answers.
use Rattle.std.proofs.Common.{◌≡◌, ◌⊎◌, inl, inr, ℕ, List, [], ◌∷◌, Option, Some, None, Result, Ok, Err, refl, sym, ap, ◌∙◌}
use Rattle.std.proofs.lemmas.Option.{same_Some}
use Rattle.cat_desk.specs.Log.{BeginsWith}
use Rattle.cat_desk.specs.LogLaws.{begins_on}
use Rattle.cat_desk.specs.Pass.{DeskId}
use Rattle.cat_model.specs.declared.command.Command.{Command}
use Rattle.cat_model.specs.declared.limits.Quantity.{Quantity}
use Rattle.cat_model.specs.declared.limits.Quantity.TheVariants as quantities
use Rattle.cat_model.specs.declared.log_entry.LogEntry.{LogEntry}
use Rattle.cat_model.specs.declared.refusal.Refusal.{Refusal}
use Rattle.cat_model.specs.declared.refusal.Refusal.TheVariants as refusals
use Rattle.cat_model.specs.declared.refusal.Refused.{Refused}
use Rattle.cat_model.specs.declared.reply.Told.{Told}
use Rattle.cat_model.specs.Mark.{FailedAppend, Grows, Mark}
use Rattle.cat_work.specs.Answers.{Answers, Causes, CausesLimit}

-- a refusal as down, at this count of faults, or for want of memory
abbrev pub IsDownOrSpare : ℕ → Result Told Refused → Type 0
IsDownOrSpare count (Ok told) = ⊥
IsDownOrSpare count (Err refused) = (refused.why ≡ refusals.Down count) ⊎ (refused.why ≡ refusals.NoMemory)

fault_stands : {A : Type 0} (after : Mark) (x : FailedAppend) → after.fault ≡ Some x → after.fault ≡ None → A
fault_stands after x stands up = absurd (let wrong : None ≡ Some x = sym up ∙ stands in cc)

by_limit : {A : Type 0} (desk : DeskId) (n moment : ℕ) (c : Command) (before after : Mark) (m : List LogEntry) (place : Option ℕ) (which : Quantity) (number : ℕ) (x : FailedAppend) → after.fault ≡ Some x → CausesLimit desk n c moment before after m place which number → A
by_limit desk n moment c before after m place quantities.Drafts number x stands h = fault_stands after x stands h.1.up
by_limit desk n moment c before after m place which number x stands h = fault_stands after x stands h.up

by_cause : (desk : DeskId) (n moment attempts k : ℕ) (c : Command) (before after : Mark) (m : List LogEntry) (place : Option ℕ) (why : Refusal) (x : FailedAppend) → before.fault ≡ Some x → after.fault ≡ Some x → Causes desk n c moment attempts k before after m place why
    → (why ≡ refusals.Down x.count) ⊎ (why ≡ refusals.NoMemory)
by_cause desk n moment attempts k c before after m place refusals.NoMemory x stood stands h = inr refl
by_cause desk n moment attempts k c before after m place (refusals.Down count) x stood stands h =
    let same : h.1.fault ≡ x = same_Some h.1.fault x (sym h.1.is ∙ stands) in
    inl (ap refusals.Down (sym h.1.count_is ∙ ap (λ (f : FailedAppend). f.count) same))
by_cause desk n moment attempts k c before after m place refusals.Fault x stood stands h = absurd (h.1.new (stood ∙ (sym stands ∙ h.1.is)))
by_cause desk n moment attempts k c before after m place (refusals.RetriesSpent pairs) x stood stands h = fault_stands after x stands h.1.up
by_cause desk n moment attempts k c before after m place (refusals.Expired keys opened) x stood stands h = fault_stands after x stands h.1.up
by_cause desk n moment attempts k c before after m place (refusals.Limit which number) x stood stands h = by_limit desk n moment c before after m place which number x stands h
by_cause desk n moment attempts k c before after m place why x stood stands h = fault_stands after x stands h.up

-- once an append has failed, a call is refused as down at the count of faults then, unless memory runs out
pub down_stays : (desk : DeskId) (n : ℕ) (c : Command) (moment attempts k : ℕ) (before after : Mark) (l m : List LogEntry) (result : Result Told Refused) (x : FailedAppend) → Grows before after → Answers desk n c moment attempts k before after l m result → before.fault ≡ Some x → IsDownOrSpare x.count result
down_stays desk n c moment attempts k before after l m (Ok told) x grows (inl accepts) stood = fault_stands after x (grows.fault x stood) accepts.up
down_stays desk n c moment attempts k before after l m (Ok told) x grows (inr tells) stood = fault_stands after x (grows.fault x stood) tells.up
down_stays desk n c moment attempts k before after l m (Err refused) x grows answers stood = by_cause desk n moment attempts k c before after m refused.place refused.why x stood (grows.fault x stood) answers.1

-- what was seen at first begins what has then been seen
pub answers_begin : (desk : DeskId) (n : ℕ) (c : Command) (moment attempts k : ℕ) (before after : Mark) (l m : List LogEntry) (result : Result Told Refused) → Answers desk n c moment attempts k before after l m result → BeginsWith l m
answers_begin desk n c moment attempts k before after l m (Ok told) (inl accepts) = begins_on l accepts.earlier m (accepts.follows.0, accepts.follows.1) (accepts.entry ∷ [], accepts.log)
answers_begin desk n c moment attempts k before after l m (Ok told) (inr tells) = (tells.follows.0, tells.follows.1)
answers_begin desk n c moment attempts k before after l m (Err refused) answers = (answers.0.0, answers.0.1)
