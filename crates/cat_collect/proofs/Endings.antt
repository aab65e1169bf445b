-- What ends a collection.
use Rattle.std.proofs.Common.{◌≡◌, ℕ, ◌+◌, List, [], ◌∷◌, ◌++◌, reverse, Some, None, Result, Ok, Err, ap}
use Rattle.std.proofs.lemmas.List.{reverse-append}
use Rattle.cat_core.specs.Drafts.{Refers, Refuses}
use Rattle.cat_core.specs.Stored as stored
use Rattle.cat_core.specs.Stored.{Stored}
use Rattle.cat_model.specs.declared.log_entry.LogEntry.{LogEntry}
use Rattle.cat_model.specs.declared.refusal.Refusal.{Refusal}
use Rattle.cat_model.specs.declared.refusal.Refusal.TheVariants as refusals
use Rattle.cat_model.specs.declared.refusal.Refused.{Refused}
use Rattle.cat_model.specs.declared.reply.Reply.{Reply}
use Rattle.cat_model.specs.declared.reply.Told.{Told}
use Rattle.cat_model.specs.Calls.{Called}
use Rattle.cat_model.specs.Drafts.{Open, open_of}
use Rattle.cat_model.specs.Mark.{FailedAppend}
use Rattle.cat_model.specs.Refusing.{Outcome}
use Rattle.cat_model.specs.State.{State}

-- ---- what was open is closed

refused_open : {K : Type 0} (called : Called) (n : ℕ) (s : Stored K) (r : Refused) (why : Refusal) (s' : Stored K) (left_open : Open) → Refuses called n s r why s' left_open → stored.open_of s' ≡ left_open
refused_open {K} called n s r refusals.NoMemory s' left_open h = ap (λ (x : Stored K). stored.open_of x) h.1
refused_open {K} called n s r (refusals.Down count) s' left_open h = ap (λ (x : Stored K). stored.open_of x) h.2
refused_open {K} called n s r refusals.Fault s' left_open h = ap (λ (x : Stored K). stored.open_of x) h.after
refused_open {K} called n s r (refusals.Expired x y) s' left_open h = ap (λ (x : Stored K). stored.open_of x) h.after
refused_open {K} called n s r (refusals.RetriesSpent x) s' left_open h = ap (λ (x : Stored K). stored.open_of x) h.after
refused_open {K} called n s r (refusals.Limit x y) s' left_open h = ap (λ (x : Stored K). stored.open_of x) h.after
refused_open {K} called n s r (refusals.BadRequest x) s' left_open h = ap (λ (x : Stored K). stored.open_of x) h.after
refused_open {K} called n s r refusals.RefNotFound s' left_open h = ap (λ (x : Stored K). stored.open_of x) h.after
refused_open {K} called n s r refusals.RefExists s' left_open h = ap (λ (x : Stored K). stored.open_of x) h.after
refused_open {K} called n s r (refusals.ContentNotFound x) s' left_open h = ap (λ (x : Stored K). stored.open_of x) h.after
refused_open {K} called n s r (refusals.Conflicts x) s' left_open h = ap (λ (x : Stored K). stored.open_of x) h.after
refused_open {K} called n s r (refusals.SweepOpen x) s' left_open h = ap (λ (x : Stored K). stored.open_of x) h.after
refused_open {K} called n s r (refusals.Collision x y z) s' left_open h = ap (λ (x : Stored K). stored.open_of x) h.after
refused_open {K} called n s r refusals.NoRoute s' left_open h = ap (λ (x : Stored K). stored.open_of x) h.after
refused_open {K} called n s r (refusals.WrongMethod x) s' left_open h = ap (λ (x : Stored K). stored.open_of x) h.after
refused_open {K} called n s r refusals.TooLarge s' left_open h = ap (λ (x : Stored K). stored.open_of x) h.after
refused_open {K} called n s r refusals.Encoding s' left_open h = ap (λ (x : Stored K). stored.open_of x) h.after
refused_open {K} called n s r refusals.OldFormat s' left_open h = ap (λ (x : Stored K). stored.open_of x) h.after

pub refers_open : {K : Type 0} (called : Called) (n : ℕ) (s s' : Stored K) (r : Result Told Refused) → Refers called n s s' r → stored.open_of s' ≡ stored.open_of s
refers_open {K} called n s s' (Ok told) h = ap (λ (x : Stored K). stored.open_of x) h.after
refers_open called n s s' (Err r) h = refused_open called n s r r.why s' (stored.open_of s) h

pub not_none : (x : FailedAppend) → None ≡ Some x → ⊥
not_none x e = cc

pub newest_last : (entry : LogEntry) (log : List LogEntry) → reverse (entry ∷ log) ≡ reverse log ++ entry ∷ []
newest_last entry log = reverse-append (entry ∷ []) log

abbrev pub outcome : State → Reply → Outcome
outcome state reply = Ok (state, reply)

abbrev pub failed : Refusal → Outcome
failed why = Err why
