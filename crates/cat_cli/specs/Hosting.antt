-- Workers on the passes of a desk that holds a store meanwhile, and what a listener tells of them.
use Rattle.std.specs.Prelude.{ℕ, ◌+◌, ◌^◌, ◌<◌, ◌≤◌, ◌≡◌, ◌⊎◌, List, [], length, reverse, Option, Some, Bool, IsTrue}
use Rattle.cat_io.specs.Causes.{Rose}
use Rattle.cat_checks.specs.Histories.{IsLegalFrom}
use Rattle.cat_core.specs.Stored.{Stored, opened_of}
use Rattle.cat_desk.specs.Log.{BeginsWith, Since}
use Rattle.cat_desk.specs.Marks.{IsGiven}
use Rattle.cat_desk.specs.Pass.{DeskId, mark_of, number_of, seen}
use Rattle.cat_desk.specs.declared.pass.Pass.{Pass}
use Rattle.cat_serve.specs.declared.serving.Served.{Served}
use Rattle.cat_serve.specs.declared.serving.Served.TheVariants as serveds
use Rattle.cat_serve.specs.Sessions.{Readings}
use Rattle.cat_serve.specs.Workers.{ComesBack, Ends as BothEnds, ServesAll, first_split}
use Rattle.cat_cli.specs.declared.serving.ServeOptions.{ServeOptions}

-- ---- what is asked for, and what is seen of a listener

-- an address, how many connections are served there, by how many workers, and how often each tries a call
pub record Service : Type 0 where
  pub address : List ℕ
  pub connections : ℕ
  pub workers : ℕ
  pub attempts : ℕ

abbrev pub service_of : ServeOptions → Service
service_of options = record { address = options.address.now; connections = options.connections; workers = options.workers; attempts = options.attempts }

-- what a listener tells at one moment, and its count of faults
pub record Heard (C : Type 0) : Type 0 where
  pub tells : Bool
  pub listens : Option (List ℕ × ℕ)
  pub waiting : List C
  pub returned : List C
  pub rejoined : List (List C)
  pub out : ℕ
  pub twins : ℕ
  pub dealt : List (List C)
  pub faults : ℕ

abbrev pub heard_of : {L C : Type 0} → (L → Bool) → (L → Option (List ℕ × ℕ)) → (L → List C) → (L → List C) → (L → List (List C)) → (L → ℕ) → (L → ℕ) → (L → List (List C)) → (L → ℕ) → L → Heard C
heard_of tells listens waiting returned rejoined out twins dealt faults l =
    record { tells = tells l; listens = listens l; waiting = waiting l; returned = returned l; rejoined = rejoined l; out = out l; twins = twins l; dealt = dealt l; faults = faults l }

-- ---- how a listener is left

-- a count of faults stays, as far as it is one of 64 bits
abbrev pub CountStays : ℕ → ℕ → Type 0
CountStays before now = before < 2 ^ 64 → now ≡ before

-- `listen` failed: the connections stay, the twins, and what those to come are dealt
pub record IsDeaf {C : Type 0} (service : Service) (a b : Heard C) : Type 0 where
  pub rose : Rose a.faults b.faults
  pub listens : IsTrue a.tells → length service.address ≤ 512 → b.listens ≡ Some (service.address, service.connections)
  pub waiting : b.waiting ≡ a.waiting
  pub returned : b.returned ≡ a.returned
  pub rejoined : b.rejoined ≡ a.rejoined
  pub out : b.out ≡ a.out
  pub twins : b.twins ≡ a.twins
  pub dealt : b.dealt ≡ a.dealt

-- `listen` was handed the address and the number, and as many connections and twins are out as before
pub record IsListening {C : Type 0} (service : Service) (a b : Heard C) : Type 0 where
  pub listens : IsTrue a.tells → b.listens ≡ Some (service.address, service.connections)
  pub out : IsTrue a.tells → b.out ≡ a.out
  pub twins : IsTrue a.tells → b.twins ≡ a.twins

-- and no connection was accepted; twins came back with what they were dealt, and what those to come are dealt is what is left behind theirs
pub record IsIdle {C : Type 0} (service : Service) (a b : Heard C) : Type 0 where
  pub listening : IsListening service a b
  pub waiting : IsTrue a.tells → b.waiting ≡ a.waiting
  pub returned : IsTrue a.tells → b.returned ≡ a.returned
  pub back : IsTrue a.tells → ComesBack a.dealt b.dealt a.rejoined b.rejoined
  pub level : CountStays a.faults b.faults

-- or its own were all given, and no call of it or of a twin failed
pub record IsDone {C : Type 0} (a b : Heard C) : Type 0 where
  pub none_waits : IsTrue a.tells → b.waiting ≡ []
  pub level : CountStays a.faults b.faults

-- what came of a listener's connections by how serving ended, where so says that they were served, and none that no connection was accepted: none is accepted where `listen` failed, or memory ran out before
abbrev pub Comes : {C : Type 0} → Type 0 → Type 0 → Service → Heard C → Heard C → Served → Type 0
Comes so none service a b serveds.End = so × IsDone a b
Comes so none service a b serveds.ListenerFault = (so × Rose a.faults b.faults) ⊎ (none × IsDeaf service a b)
Comes so none service a b serveds.NoMemory = none × IsIdle service a b

-- ---- on a desk, and on the store that it holds

-- workers served a listener's connections on passes of a desk, from one pass to another, by a clock that told so and then so, and its twins
pub record WorksOn {In Out : Type 0} (ends : BothEnds In Out) (service : Service) (a b : Heard (In × Out)) (desk : DeskId) (p : Pass) (ahead : Option Readings) (q : Pass) (now : Option Readings) : Type 0 where
  pub listening : IsListening service a b
  pub serves : ServesAll ends desk service.attempts service.workers a.tells a.waiting b.waiting a.returned b.returned a.rejoined b.rejoined a.dealt b.dealt a.faults b.faults p ahead q now

-- they did so on a desk that was made of a store, which has then the log that the last pass has seen; the first pass has the number 1, and splits off those of the numbers from 2 on; what was added is of so many numbers as there are workers, and so is what is new in the mark
pub record Hosts {In Out K : Type 0} (ends : BothEnds In Out) (service : Service) (a b : Heard (In × Out)) (ahead now : Option Readings) (old new : Stored K) : Type 0 where
  pub desk : DeskId
  pub first : Pass
  pub last : Pass
  pub opened : desk.opened ≡ opened_of old
  pub begun : desk.begun ≡ reverse old.book.log
  pub saw : seen first ≡ desk.begun
  pub mark_is : mark_of first ≡ old.mark
  pub number_is : number_of first ≡ 1
  pub splits : first_split first ≡ 2
  pub works : WorksOn ends service a b desk first ahead last now
  pub legal : IsLegalFrom desk.opened (seen last)
  pub starts : BeginsWith desk.begun (seen last)
  pub given : Since (service.workers + 1) desk.begun (seen last)
  pub marked : IsGiven (service.workers + 1) old.mark (mark_of last)
  pub log_is : new.book.log ≡ reverse (seen last)
  pub opened_is : opened_of new ≡ desk.opened
  pub fault_is : new.mark.fault ≡ (mark_of last).fault
  pub bases_is : new.mark.bases ≡ (mark_of last).bases

-- a store came back with the book and the mark that it had, and what its log started from
pub record IsAsBefore {K : Type 0} (old new : Stored K) : Type 0 where
  pub book : new.book ≡ old.book
  pub opened : opened_of new ≡ opened_of old
  pub mark : new.mark ≡ old.mark
