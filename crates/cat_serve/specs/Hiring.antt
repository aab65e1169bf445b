-- Workers as they are hired, as they have served, and as they are taken back.
use Rattle.std.specs.Prelude.{ℕ, ◌+◌, ◌-◌, ◌^◌, ◌<◌, ◌≡◌, ◌⊎◌, min, Bool, true, false, IsTrue, List, [], ◌++◌, length, drop, slice_index_or, Option}
use Rattle.cat_io.specs.Causes.{Rose}
use Rattle.cat_io.specs.Clocks.{TellsSame}
use Rattle.cat_io.specs.Listening.{first_of}
use Rattle.cat_desk.specs.Pass.{DeskId, Remembers, number_of, spare_of, stands_for}
use Rattle.cat_desk.specs.declared.pass.Pass.{Pass}
use Rattle.cat_work.specs.Passes.{IsReady}
use Rattle.cat_serve.specs.declared.worker.Worker.{Worker}
use Rattle.cat_serve.specs.Sessions.{Readings}
use Rattle.cat_serve.specs.Workers.{AllWorked, Ends, ServesEach}

-- a count of faults before and now, by whether there was a fault: without one it stays, up to its type's end
abbrev pub Counts : Bool → ℕ → ℕ → Type 0
Counts true before now = Rose before now
Counts false before now = (now ≡ before) ⊎ (now ≡ min before (2 ^ 64 - 1))

-- a worker that may be taken back
pub record IsBack {L C : Type 0} (faults : L → ℕ) (desk : DeskId) (w : Worker L C) : Type 0 where
  pub ready : IsReady desk w.pass
  pub one : stands_for w.pass ≡ 1
  pub none : spare_of w.pass ≡ 0
  pub counts : Counts w.failed 0 (faults w.listener)

-- a worker that has done nothing yet: its pass knows what p does, and its listener hasn't failed
pub record IsIdle {L C : Type 0} (p : Pass) (w : Worker L C) : Type 0 where
  pub remembers : Remembers p w.pass
  pub works : w.failed ≡ false

-- the passes of workers have these numbers, one after another
abbrev pub AreNumbered : {L C : Type 0} → ℕ → List (Worker L C) → Type 0
AreNumbered {L} {C} number workers = (k : ℕ) (d : Worker L C) → k < length workers → number_of (slice_index_or workers k d).pass ≡ number + k

-- at the listener of each of these workers waits what it was dealt, where it tells
abbrev pub AreDealt : {L C K : Type 0} → (L → List K) → Bool → List (List K) → List (Worker L C) → Type 0
AreDealt {L} {C} waiting told dealt workers = (k : ℕ) (d : Worker L C) → k < length workers → IsTrue told → waiting (slice_index_or workers k d).listener ≡ first_of (drop k dealt)

-- nothing came back to the listener of such a worker
abbrev pub HasNone : {L C K : Type 0} → (L → List K) → Worker L C → Type 0
HasNone returned w = returned w.listener ≡ []

-- such a worker, with new twins of a listener that tells or doesn't, and of a clock that tells what is ahead
pub record IsHired {L C K : Type 0} (tells : L → Bool) (returned : L → List K) (faults : L → ℕ) (ahead_of : C → Option Readings) (told : Bool) (ahead : Option Readings) (desk : DeskId) (p : Pass) (w : Worker L C) : Type 0 where
  pub back : IsBack faults desk w
  pub idle : IsIdle p w
  pub tells_is : tells w.listener ≡ told
  pub empty : returned w.listener ≡ []
  pub faultless : faults w.listener ≡ 0
  pub same : TellsSame ahead (ahead_of w.clock)

module _ {In Out : Type 0} (e : Ends In Out) (desk : DeskId) (attempts : ℕ) where
  -- one worker served from p to q: where its listener tells, those that were given are the first of those that waited, and those that were served stand behind those that were back
  pub record ServesOwn (tells : Bool) (waits waits_now back back_now : List (In × Out)) (p : Pass) (ahead : Option Readings) (q : Pass) (now : Option Readings) : Type 0 where
    pub given : List (In × Out)
    pub served : List (In × Out)
    pub each : ServesEach e desk attempts p ahead given served q now
    pub front : IsTrue tells → waits ≡ given ++ waits_now
    pub stands : IsTrue tells → back_now ≡ back ++ served

  -- a worker that has served, since it was hired with all that p knows, on the pass that it has, and by a twin of a clock that told what was ahead; what waits at its listener is behind those that were given of what it was dealt
  pub record IsDone {L C : Type 0} (waiting returned : L → List (In × Out)) (faults : L → ℕ) (told : Bool) (ahead : Option Readings) (p : Pass) (dealt : List (In × Out)) (w : Worker L C) : Type 0 where
    pub back : IsBack faults desk w
    pub first : Pass
    pub own : Option Readings
    pub now : Option Readings
    pub given : List (In × Out)
    pub served : List (In × Out)
    pub remembers : Remembers p first
    pub each : ServesEach e desk attempts first own given served w.pass now
    pub same : TellsSame ahead own
    pub number_is : number_of first ≡ number_of w.pass
    pub stands : IsTrue told → returned w.listener ≡ served
    pub front : IsTrue told → dealt ≡ given ++ waiting w.listener
    pub none_left : w.failed ≡ false → IsTrue told → waiting w.listener ≡ []

  -- so has each of these, who were dealt these in turn
  abbrev pub AreDone : {L C : Type 0} → (L → List (In × Out)) → (L → List (In × Out)) → (L → ℕ) → Bool → Option Readings → Pass → List (List (In × Out)) → List (Worker L C) → Type 0
  AreDone {L} {C} waiting returned faults told ahead p dealt workers =
      (k : ℕ) (d : Worker L C) → k < length workers → IsDone waiting returned faults told ahead p (first_of (drop k dealt)) (slice_index_or workers k d)

  -- so many workers of the whole are left, on passes from this number on, who were dealt the first of what twins are dealt, and the others were taken back, with what they served, and behind it what they weren't given; failed says whether the listener of one of them failed
  pub record AreBack (tells failed : Bool) (groups groups_now dealt : List (List (In × Out))) (left whole number : ℕ) (p : Pass) (ahead : Option Readings) (q : Pass) : Type 0 where
    pub twins : List (List (In × Out))
    pub theirs : AllWorked e desk attempts tells (failed ≡ false) (drop left dealt) (number + left) p ahead q twins
    pub count : length twins + left ≡ whole
    pub rejoined : IsTrue tells → groups_now ≡ groups ++ twins
