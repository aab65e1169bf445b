-- What the passes of sessions had seen is a beginning of what the last pass has, to whose mark their own grew, and so no call was told of a failed append where that mark tells of none.
use Rattle.std.specs.Prelude.{ℕ, ◌+◌, ◌≡◌, Bool, List, [], ◌∷◌, ◌++◌, length, Option, None}
use Rattle.std.proofs.Common.{subst}
use Rattle.cat_io.specs.Causes.{Rose}
use Rattle.cat_desk.specs.Pass.{DeskId, mark_of, number_of}
use Rattle.cat_desk.specs.declared.pass.Pass.{Pass}
use Rattle.cat_serve.specs.Serving.{GrowsTo}
use Rattle.cat_serve.specs.ServingLaws.{AreUp, grows_to_on, none_was_down}
use Rattle.cat_serve.specs.Sessions.{Readings}
use Rattle.cat_serve.specs.Workers.{AllWorked, Ends as BothEnds, ServesAll, ServesEach, Worked, first_split}

module _ {In Out : Type 0} (ends : BothEnds In Out) (desk : DeskId) (attempts : ℕ) where
  -- of these sessions, one after another, what the pass had seen at the end of each is a beginning of what the last has, and its mark grew to that one; where that tells of no append that failed, nor was any told to a call
  abbrev pub EachBegins : (p : Pass) (ahead : Option Readings) (xs ys : List (In × Out)) (q : Pass) (now : Option Readings) → ServesEach ends desk attempts p ahead xs ys q now → Pass → Type 0
  EachBegins p ahead [] [] q now s last = Unit {0}
  EachBegins p ahead [] (y ∷ ys) q now s last = ⊥
  EachBegins p ahead (x ∷ xs) [] q now s last = ⊥
  EachBegins p ahead (x ∷ xs) (y ∷ ys) q now (mid, next, is, rest) last =
      GrowsTo mid last × ((mark_of last).fault ≡ None → AreUp (is.serves.went.visits ++ is.serves.went.ended.last)) × EachBegins mid next xs ys q now rest last

  -- so it is of a worker's sessions, and of those of each group
  abbrev pub WorkerBegins : {number : ℕ} {p : Pass} {ahead : Option Readings} {q : Pass} {now : Option Readings} {given served : List (In × Out)}
      → Worked ends desk attempts number p ahead q now given served → Pass → Type 0
  WorkerBegins {ahead = ahead} {now = now} {given = given} {served = served} w last = EachBegins w.first ahead given served w.last now w.each last

  abbrev pub GroupsBegin : (tells : Bool) (well : Type 0) (dealt : List (List (In × Out))) (number : ℕ) (p : Pass) (ahead : Option Readings) (q : Pass) (groups : List (List (In × Out))) → AllWorked ends desk attempts tells well dealt number p ahead q groups → Pass → Type 0
  GroupsBegin tells well dealt number p ahead q [] all last = Unit {0}
  GroupsBegin tells well dealt number p ahead q (group ∷ groups) (t, rest) last = WorkerBegins t.worked last × GroupsBegin tells well dealt number p ahead q groups rest last

  -- so it is of all of them
  abbrev pub AllBegin : {workers : ℕ} {tells : Bool} {waits waits_now back back_now : List (In × Out)} {groups groups_now dealt dealt_now : List (List (In × Out))} {faults faults_now : ℕ} {p : Pass} {ahead : Option Readings} {q : Pass}
      {now : Option Readings} → ServesAll ends desk attempts workers tells waits waits_now back back_now groups groups_now dealt dealt_now faults faults_now p ahead q now → Pass → Type 0
  AllBegin {tells = tells} {dealt = dealt} {faults = faults} {faults_now = faults_now} {p = p} {ahead = ahead} {q = q} s last =
      WorkerBegins s.mine last × GroupsBegin tells (Rose faults faults_now → ⊥) dealt (first_split p) p ahead q s.twins s.theirs last

  each_begins : (p : Pass) (ahead : Option Readings) (xs ys : List (In × Out)) (q : Pass) (now : Option Readings) (s : ServesEach ends desk attempts p ahead xs ys q now) (last : Pass) → GrowsTo q last
      → EachBegins p ahead xs ys q now s last × GrowsTo p last
  each_begins p ahead [] [] q now s last b = (tt, subst (λ (z : Pass). GrowsTo z last) s.0 b)
  each_begins p ahead [] (y ∷ ys) q now s last b = absurd s
  each_begins p ahead (x ∷ xs) [] q now s last b = absurd s
  each_begins p ahead (x ∷ xs) (y ∷ ys) q now (mid, next, is, rest) last b =
      let more = each_begins mid next xs ys q now rest last b in
      ((more.1, none_was_down desk attempts _ _ _ mid _ _ last is.serves more.1.1, more.0), grows_to_on p mid last (is.serves.begins, is.serves.marks) more.1)

  worker_begins : (number : ℕ) (p : Pass) (ahead : Option Readings) (q : Pass) (now : Option Readings) (given served : List (In × Out)) (w : Worked ends desk attempts number p ahead q now given served)
      → WorkerBegins w q
  worker_begins number p ahead q now given served w = (each_begins w.first ahead given served w.last now w.each q (w.begins, w.marks)).0

  groups_begin : (tells : Bool) (well : Type 0) (dealt : List (List (In × Out))) (number : ℕ) (p : Pass) (ahead : Option Readings) (q : Pass) (groups : List (List (In × Out))) (all : AllWorked ends desk attempts tells well dealt number p ahead q groups)
      → GroupsBegin tells well dealt number p ahead q groups all q
  groups_begin tells well dealt number p ahead q [] all = tt
  groups_begin tells well dealt number p ahead q (group ∷ groups) (t, rest) = (worker_begins (number + length groups) p t.own q t.now t.given t.served t.worked, groups_begin tells well dealt number p ahead q groups rest)

  -- the last pass is the one which all others were joined to
  pub all_begin : (workers : ℕ) (tells : Bool) (waits waits_now back back_now : List (In × Out)) (groups groups_now dealt dealt_now : List (List (In × Out))) (faults faults_now : ℕ) (p : Pass) (ahead : Option Readings) (q : Pass) (now : Option Readings)
      (s : ServesAll ends desk attempts workers tells waits waits_now back back_now groups groups_now dealt dealt_now faults faults_now p ahead q now) → AllBegin s q
  all_begin workers tells waits waits_now back back_now groups groups_now dealt dealt_now faults faults_now p ahead q now s =
      (worker_begins (number_of p) p ahead q now s.given s.own s.mine, groups_begin tells (Rose faults faults_now → ⊥) dealt (first_split p) p ahead q s.twins s.theirs)
