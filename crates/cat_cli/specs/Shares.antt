-- What the requests of each worker made of a log, and which of them was told of the append that failed.
use Rattle.std.specs.Prelude.{ℕ, ◌+◌, ◌≡◌, ◌⊎◌, Bool, List, [], ◌∷◌, ◌++◌, map, Option, Some, None, Err}
use Rattle.cat_io.specs.Causes.{Rose}
use Rattle.cat_desk.specs.Log.{IsAmong}
use Rattle.cat_desk.specs.Pass.{DeskId, mark_of}
use Rattle.cat_desk.specs.declared.pass.Pass.{Pass}
use Rattle.cat_model.specs.declared.log_entry.LogEntry.{LogEntry}
use Rattle.cat_model.specs.declared.refusal.Refusal.TheVariants as refusals
use Rattle.cat_model.specs.declared.refusal.Refused.{Refused}
use Rattle.cat_model.specs.Mark.{FailedAppend}
use Rattle.cat_serve.specs.Entries.{entries_of}
use Rattle.cat_serve.specs.Passes.{Visit}
use Rattle.cat_serve.specs.Serving.{made_by}
use Rattle.cat_serve.specs.Sessions.{Readings}
use Rattle.cat_serve.specs.Workers.{AllWorked, Ends as BothEnds, ServesAll, ServesEach, Worked, first_split}

-- a worker's number, and the requests of its sessions, one after another
abbrev pub Share : Type 0
Share = ℕ × List Visit

module _ {In Out : Type 0} (ends : BothEnds In Out) (desk : DeskId) (attempts : ℕ) where
  abbrev pub requests_in : (p : Pass) (ahead : Option Readings) (xs ys : List (In × Out)) (q : Pass) (now : Option Readings) → ServesEach ends desk attempts p ahead xs ys q now → List Visit
  requests_in p ahead [] [] q now s = []
  requests_in p ahead [] (y ∷ ys) q now s = []
  requests_in p ahead (x ∷ xs) [] q now s = []
  requests_in p ahead (x ∷ xs) (y ∷ ys) q now (mid, next, is, rest) = (is.serves.went.visits ++ is.serves.went.ended.last) ++ requests_in mid next xs ys q now rest

  abbrev pub share_of : {number : ℕ} {p : Pass} {ahead : Option Readings} {q : Pass} {now : Option Readings} {given served : List (In × Out)} → Worked ends desk attempts number p ahead q now given served → Share
  share_of {number = number} {ahead = ahead} {now = now} {given = given} {served = served} w = (number, requests_in w.first ahead given served w.last now w.each)

  abbrev pub shares_of : (tells : Bool) (well : Type 0) (dealt : List (List (In × Out))) (number : ℕ) (p : Pass) (ahead : Option Readings) (q : Pass) (groups : List (List (In × Out))) → AllWorked ends desk attempts tells well dealt number p ahead q groups
      → List Share
  shares_of tells well dealt number p ahead q [] all = []
  shares_of tells well dealt number p ahead q (group ∷ groups) (t, rest) = share_of t.worked ∷ shares_of tells well dealt number p ahead q groups rest

  -- those of all workers: the caller's own, and those of the twins'
  abbrev pub all_shares : {workers : ℕ} {tells : Bool} {waits waits_now back back_now : List (In × Out)} {groups groups_now dealt dealt_now : List (List (In × Out))} {faults faults_now : ℕ} {p : Pass} {ahead : Option Readings} {q : Pass}
      {now : Option Readings} → ServesAll ends desk attempts workers tells waits waits_now back back_now groups groups_now dealt dealt_now faults faults_now p ahead q now → List Share
  all_shares {tells = tells} {dealt = dealt} {faults = faults} {faults_now = faults_now} {p = p} {ahead = ahead} {q = q} s =
      share_of s.mine ∷ shares_of tells (Rose faults faults_now → ⊥) dealt (first_split p) p ahead q s.twins s.theirs

-- ---- what they made

abbrev pub numbers_of : List Share → List ℕ
numbers_of shares = map (λ (s : Share). s.0) shares

-- each of these entries is of one of these workers
abbrev pub AreOf : List Share → List LogEntry → Type 0
AreOf shares [] = Unit {0}
AreOf shares (entry ∷ entries) = IsAmong entry.caller (numbers_of shares) × AreOf shares entries

-- of each worker there are, in their order, just the entries that its requests made
abbrev pub AreMade : List LogEntry → List Share → Type 0
AreMade added [] = Unit {0}
AreMade added (s ∷ shares) = (entries_of s.0 added ≡ made_by s.1) × AreMade added shares

-- ---- who was told of the append that failed

-- the request was told Fault, and in its turns the append failed of which this tells
pub record WasTold (fault : FailedAppend) (v : Visit) : Type 0 where
  pub up : (mark_of v.before).fault ≡ None
  pub fell : (mark_of v.after).fault ≡ Some fault
  pub refused : Refused
  pub told : v.told ≡ Err refused
  pub why : refused.why ≡ refusals.Fault

abbrev pub OneWasTold : FailedAppend → List Visit → Type 0
OneWasTold fault [] = ⊥
OneWasTold fault (v ∷ visits) = WasTold fault v ⊎ OneWasTold fault visits

-- so was a request of the worker whose append it was
abbrev pub CallerWasTold : FailedAppend → List Share → Type 0
CallerWasTold fault [] = ⊥
CallerWasTold fault (s ∷ shares) = ((fault.caller ≡ s.0) × OneWasTold fault s.1) ⊎ CallerWasTold fault shares
