-- What the catalogue is asked: to change by commands that are well made, and to collect by policies with at most 1,000 patterns, in which no number of commits is 0.
use Rattle.std.specs.Prelude.{IsTrue, ⊤, Result, Ok, Err}
use Rattle.sha2.specs.Sha256.{sha256}
use Rattle.cat_model.specs.WellMade.{is_well_made}
use Rattle.cat_model.specs.declared.refusal.Refusal.{Refusal}
use Rattle.cat_policy.specs.Policies.{HasCounts, HasFew}
use Rattle.cat_rest.specs.declared.wanted.Wanted.{Wanted}
use Rattle.cat_rest.specs.declared.wanted.Wanted.TheVariants.{Read, Change, Collect, Checkpoint}

abbrev pub IsServed : Wanted → Type 0
IsServed (Read ask) = ⊤
IsServed (Change command) = IsTrue (is_well_made sha256 command)
IsServed (Collect policy) = HasFew policy × HasCounts policy
IsServed Checkpoint = ⊤

-- the same of what a request wants, or its refusal
abbrev pub AreServed : Result Wanted Refusal → Type 0
AreServed (Ok wanted) = IsServed wanted
AreServed (Err refusal) = ⊤
