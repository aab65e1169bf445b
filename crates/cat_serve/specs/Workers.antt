-- What workers promise who serve a listener's connections at once, each on a pass of its own.
use Rattle.std.specs.Prelude.{ℕ, ◌+◌, ◌-◌, ◌≡◌, ◌≢◌, Bool, IsTrue, List, [], ◌∷◌, ◌++◌, length, drop, Option}
use Rattle.cat_io.specs.Causes.{Rose}
use Rattle.cat_io.specs.Listening.{first_of}
use Rattle.cat_io.specs.Clocks.{TellsSame}
use Rattle.cat_desk.specs.Pass.{DeskId, Remembers, mark_of, number_of, seen, spare_of}
use Rattle.cat_desk.specs.declared.pass.Pass.{Pass}
use Rattle.cat_serve.specs.declared.ending.Session.{Session as End}
use Rattle.cat_serve.specs.declared.ending.Session.TheVariants.{ReadFault, WriteFault}
use Rattle.cat_desk.specs.Log.{BeginsWith}
use Rattle.cat_model.specs.Mark.{Grows}
use Rattle.cat_serve.specs.Passes.{place}
use Rattle.cat_serve.specs.Serving.{Serves, TakenIn}
use Rattle.cat_serve.specs.Sessions.{Readings}

-- what is seen of the two ends of a connection: the bytes that are left and those that are held, where they are told, and the counts of faults
pub record Ends (In Out : Type 0) : Type 0 where
  pub left : In → Option (List ℕ)
  pub read_faults : In → ℕ
  pub held : Out → Option (List ℕ)
  pub write_faults : Out → ℕ

abbrev pub ends_of : {In Out : Type 0} → (In → Option (List ℕ)) → (In → ℕ) → (Out → Option (List ℕ)) → (Out → ℕ) → Ends In Out
ends_of left read_faults held write_faults = record { left = left; read_faults = read_faults; held = held; write_faults = write_faults }

-- the number of the next pass that a pass splits off; the one after it has the next number
abbrev pub first_split : Pass → ℕ
first_split p = 4294967296 - spare_of p

-- each of these groups is what a twin of a listener was dealt: the last the first of what twins are dealt, and each one before the next
abbrev pub AreAsDealt : {K : Type 0} → List (List K) → List (List K) → Type 0
AreAsDealt dealt [] = Unit {0}
AreAsDealt dealt (group ∷ groups) = (group ≡ first_of (drop (length groups) dealt)) × AreAsDealt dealt groups

-- twins came back with what they were dealt, as it was, and it stands behind what came back to earlier twins; the rest is left for those to come
pub record ComesBack {K : Type 0} (dealt left groups groups_now : List (List K)) : Type 0 where
  pub twins : List (List K)
  pub stands : groups_now ≡ groups ++ twins
  pub as_dealt : AreAsDealt dealt twins
  pub rest : left ≡ drop (length twins) dealt

module _ {In Out : Type 0} (e : Ends In Out) (desk : DeskId) (attempts : ℕ) where
  -- a connection was served, from one pass to another: its ends were given as x and left as y
  pub record IsServed (p : Pass) (ahead : Option Readings) (x y : In × Out) (q : Pass) (now : Option Readings) : Type 0 where
    pub end : End
    pub serves : Serves desk attempts (place 1000 p ahead (e.left x.0) (e.held x.1)) end (e.left y.0) q now (e.held y.1)
    pub read : end ≡ ReadFault → Rose (e.read_faults x.0) (e.read_faults y.0)
    pub write : end ≡ WriteFault → Rose (e.write_faults x.1) (e.write_faults y.1)
    pub source_stays : end ≢ ReadFault → e.read_faults y.0 ≡ e.read_faults x.0
    pub sink_stays : end ≢ WriteFault → e.write_faults y.1 ≡ e.write_faults x.1

  -- these were served one after another on one pass, from p to q
  abbrev pub ServesEach : Pass → Option Readings → List (In × Out) → List (In × Out) → Pass → Option Readings → Type 0
  ServesEach p ahead [] [] q now = (q ≡ p) × (now ≡ ahead)
  ServesEach p ahead [] (y ∷ ys) q now = ⊥
  ServesEach p ahead (x ∷ xs) [] q now = ⊥
  ServesEach p ahead (x ∷ xs) (y ∷ ys) q now = (mid : Pass) × (next : Option Readings) × IsServed p ahead x y mid next × ServesEach mid next xs ys q now

  -- a worker served these on a pass of this number, which were given so and left so, by a clock that told so and then so: its pass began with all that p had seen, and what it has seen at the end is a beginning of what q has, with no entry more of this number there, to whose mark its own grew, by no fault of this number
  pub record Worked (number : ℕ) (p : Pass) (ahead : Option Readings) (q : Pass) (now : Option Readings) (given served : List (In × Out)) : Type 0 where
    pub first : Pass
    pub last : Pass
    pub number_is : number_of first ≡ number
    pub remembers : Remembers p first
    pub each : ServesEach first ahead given served last now
    pub begins : BeginsWith (seen last) (seen q)
    pub marks : Grows (mark_of last) (mark_of q)
    pub taken : TakenIn number last q

  -- a worker served by a twin of a clock that told what was ahead, and by a twin of a listener, where the ones that it was dealt waited: the group is what was served, as it was left, and behind it others; where the listener tells, those that the worker was given, and behind them the others as they are, are the ones that it was dealt, and where no listener failed there are no others
  pub record WorkedByTwin (tells : Bool) (well : Type 0) (dealt : List (In × Out)) (number : ℕ) (p : Pass) (ahead : Option Readings) (q : Pass) (group : List (In × Out)) : Type 0 where
    pub given : List (In × Out)
    pub served : List (In × Out)
    pub own : Option Readings
    pub now : Option Readings
    pub same : TellsSame ahead own
    pub worked : Worked number p own q now given served
    pub left : List (In × Out)
    pub front : IsTrue tells → dealt ≡ given ++ left
    pub group_is : group ≡ served ++ left
    pub none_left : well → IsTrue tells → left ≡ []

  -- each of these groups is what a worker served by a twin of the clock, as it was left, and behind it what the worker wasn't given, as it was dealt where the listener tells: the last group is that of a pass of this number, dealt the first of what twins are dealt, and each one before is that of a pass of the next number, dealt the next
  abbrev pub AllWorked : Bool → Type 0 → List (List (In × Out)) → ℕ → Pass → Option Readings → Pass → List (List (In × Out)) → Type 0
  AllWorked tells well dealt number p ahead q [] = Unit {0}
  AllWorked tells well dealt number p ahead q (group ∷ groups) =
      WorkedByTwin tells well (first_of (drop (length groups) dealt)) (number + length groups) p ahead q group × AllWorked tells well dealt number p ahead q groups

  -- all workers served: the caller's own, on its pass and by its clock, and one for each twin, on the passes of the numbers that p splits off; where the listener tells, the caller's own connections are the first of those that waited, and stand as they were left behind those that were back; the groups of the twins stand behind those of earlier twins, each twin was dealt the next of what twins are dealt, and all that it was dealt stands in its group, what was served as it was left and behind it what wasn't given, as it was dealt; where no count of faults rose, all of it was given; one number was given for each twin
  pub record ServesAll (workers : ℕ) (tells : Bool) (waits waits_now back back_now : List (In × Out)) (groups groups_now dealt dealt_now : List (List (In × Out))) (faults faults_now : ℕ) (p : Pass) (ahead : Option Readings) (q : Pass) (now : Option Readings) : Type 0 where
    pub given : List (In × Out)
    pub own : List (In × Out)
    pub twins : List (List (In × Out))
    pub mine : Worked (number_of p) p ahead q now given own
    pub theirs : AllWorked tells (Rose faults faults_now → ⊥) dealt (first_split p) p ahead q twins
    pub count : length twins + 1 ≡ workers
    pub numbers : spare_of q + length twins ≡ spare_of p
    pub front : IsTrue tells → waits ≡ given ++ waits_now
    pub stands : IsTrue tells → back_now ≡ back ++ own
    pub rejoined : IsTrue tells → groups_now ≡ groups ++ twins
    pub rest : IsTrue tells → dealt_now ≡ drop (length twins) dealt
