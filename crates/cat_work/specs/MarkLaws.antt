-- Laws of what a turn leaves of the mark.
use Rattle.std.proofs.Common.{◌≡◌, ℕ, Option, None, Result, Ok, Err, sym, ap, ◌∙◌}
use Rattle.cat_core.specs.Drafts.{Refers, Refuses}
use Rattle.cat_core.specs.Stored.{Stored}
use Rattle.cat_desk.specs.Marks.{Linked}
use Rattle.cat_model.specs.declared.refusal.Refusal.{Refusal}
use Rattle.cat_model.specs.declared.refusal.Refusal.TheVariants as refusals
use Rattle.cat_model.specs.declared.refusal.Refused.{Refused}
use Rattle.cat_model.specs.declared.reply.Told.{Told}
use Rattle.cat_model.specs.Calls.{Called}
use Rattle.cat_model.specs.Drafts.{Open, Opening}
use Rattle.cat_model.specs.Mark.{ClosedSweep, Mark}
use Rattle.cat_work.specs.Answers.{NoDraftIsNew, journal_in, rests_in}

-- ---- calls without a draft

-- all of a mark but the fault
abbrev pub but_fault : Mark → Mark
but_fault m = record m { fault = None }

-- a refusal leaves all else of the mark
pub refused_mark : {K : Type 0} (called : Called) (n : ℕ) (s : Stored K) (r : Refused) (why : Refusal) (s' : Stored K) (left_open : Open) → Refuses called n s r why s' left_open → but_fault s'.mark ≡ but_fault s.mark
refused_mark {K} called n s r refusals.NoMemory s' left_open h = ap (λ (x : Stored K). but_fault x.mark) h.1
refused_mark {K} called n s r (refusals.Down count) s' left_open h = ap (λ (x : Stored K). but_fault x.mark) h.2
refused_mark {K} called n s r refusals.Fault s' left_open h = ap (λ (x : Stored K). but_fault x.mark) h.after
refused_mark {K} called n s r (refusals.Expired x y) s' left_open h = ap (λ (x : Stored K). but_fault x.mark) h.after
refused_mark {K} called n s r (refusals.RetriesSpent x) s' left_open h = ap (λ (x : Stored K). but_fault x.mark) h.after
refused_mark {K} called n s r (refusals.Limit x y) s' left_open h = ap (λ (x : Stored K). but_fault x.mark) h.after
refused_mark {K} called n s r (refusals.BadRequest x) s' left_open h = ap (λ (x : Stored K). but_fault x.mark) h.after
refused_mark {K} called n s r refusals.RefNotFound s' left_open h = ap (λ (x : Stored K). but_fault x.mark) h.after
refused_mark {K} called n s r refusals.RefExists s' left_open h = ap (λ (x : Stored K). but_fault x.mark) h.after
refused_mark {K} called n s r (refusals.ContentNotFound x) s' left_open h = ap (λ (x : Stored K). but_fault x.mark) h.after
refused_mark {K} called n s r (refusals.Conflicts x) s' left_open h = ap (λ (x : Stored K). but_fault x.mark) h.after
refused_mark {K} called n s r (refusals.SweepOpen x) s' left_open h = ap (λ (x : Stored K). but_fault x.mark) h.after
refused_mark {K} called n s r (refusals.Collision x y z) s' left_open h = ap (λ (x : Stored K). but_fault x.mark) h.after
refused_mark {K} called n s r refusals.NoRoute s' left_open h = ap (λ (x : Stored K). but_fault x.mark) h.after
refused_mark {K} called n s r (refusals.WrongMethod x) s' left_open h = ap (λ (x : Stored K). but_fault x.mark) h.after
refused_mark {K} called n s r refusals.TooLarge s' left_open h = ap (λ (x : Stored K). but_fault x.mark) h.after
refused_mark {K} called n s r refusals.Encoding s' left_open h = ap (λ (x : Stored K). but_fault x.mark) h.after
refused_mark {K} called n s r refusals.OldFormat s' left_open h = ap (λ (x : Stored K). but_fault x.mark) h.after

-- and so does a call that opens no draft
pub refers_mark : {K : Type 0} (called : Called) (n : ℕ) (s s' : Stored K) (r : Result Told Refused) → Refers called n s s' r → but_fault s'.mark ≡ but_fault s.mark
refers_mark {K} called n s s' (Ok told) h = ap (λ (x : Stored K). but_fault x.mark) h.after
refers_mark called n s s' (Err r) h = refused_mark called n s r r.why s' s.left_open h

-- what leaves the sweeps and how the log is kept leaves this
pub journal_stays : (a b : Mark) → rests_in a ≡ rests_in b → journal_in a ≡ journal_in b
journal_stays a b same = ap (λ (x : (ℕ × ℕ × Option ℕ) × Option Opening × Option ClosedSweep). x.0) same

-- ---- draft numbers

-- a caller's absence makes none that is its own
pub no_draft_on : (n : ℕ) (a b c : Mark) → NoDraftIsNew n a b → Linked n b c → NoDraftIsNew n a c
no_draft_on n a b c none linked own = let same : b.draft ≡ c.draft = linked.own_draft own in none (linked.grows.drafter same ∙ own) ∙ same

-- nor does a turn that leaves the last one
pub no_draft_still : (n : ℕ) (a b c : Mark) → NoDraftIsNew n a b → c.draft ≡ b.draft → c.drafter ≡ b.drafter → NoDraftIsNew n a c
no_draft_still n a b c none draft drafter own = none (sym drafter ∙ own) ∙ sym draft
