-- The rule of the desk, and what each step tells.
-- Word 0 is the count, the place after the log; word 1 the next ticket, less as many times 2 ^ 64 as it passed; word 2 the ticket that is served; the 64 words behind them are bells, which callers sleep at, and nothing is said of what they hold. Slot 0 is where the value is at home.
use Rattle.std.specs.Prelude.{◌≡◌, ◌≢◌, ℕ, ◌+◌, ◌-◌, ◌%◌, ◌<◌, ◌≤◌, List, [], ◌∷◌, ◌++◌, length, slice_index, max, Option, Some, None}
use mathlib.Core.Option.{some}
use mathlib.Core.Option.{Option as Maybe}
use lib.ListN.{get_elem?}
use Rattle.atomic_table.specs.Table.{State, Me}
use Rattle.cat_model.specs.declared.log_entry.LogEntry.{LogEntry}
use Rattle.cat_model.specs.Drafts.{Open, nothing_open, open_of, StaysOpen}
use Rattle.cat_model.specs.Mark.{Mark, Grows}
use Rattle.cat_model.specs.Turns.{Opened, place_after}
use Rattle.cat_desk.specs.Sight.{Origin, Stage, Idle, Making, Waiting, Called, Holding, Leaving, Spent, Part, no_part, View, blank}
use Rattle.cat_desk.specs.Log.{IsAmong, WasGiven, Follows, Missed, Since, longer}
use Rattle.cat_desk.specs.Marks.{Linked, IsGiven, AreGiven, later_mark, later_open}

-- where the value is: at home, not yet there, or out with the seat whose turn it is
pub data Place (V : Type 0) : Type 0 where
  home : V → Place V
  unborn : Place V
  out : Place V

-- the pass was not joined into another
abbrev pub IsLive : Stage → Type 0
IsLive Spent = ⊥
IsLive _ = Unit {0}

-- it has a ticket
abbrev pub IsBusy : Stage → Type 0
IsBusy Idle = ⊥
IsBusy Spent = ⊥
IsBusy _ = Unit {0}

-- how many tickets it has
abbrev pub tickets_of : Stage → ℕ
tickets_of Idle = 0
tickets_of Spent = 0
tickets_of _ = 1

-- its ticket is the one that is served
abbrev pub IsServed : Stage → Type 0
IsServed Idle = ⊥
IsServed Spent = ⊥
IsServed Waiting = ⊥
IsServed _ = Unit {0}

-- the value is out with it, or not yet at home, so that nothing can be added but by it
abbrev pub IsAlone : Stage → Type 0
IsAlone Making = Unit {0}
IsAlone Holding = Unit {0}
IsAlone _ = ⊥

abbrev pub IsMaking : Stage → Type 0
IsMaking Making = Unit {0}
IsMaking _ = ⊥

abbrev pub IsUnborn : {V : Type 0} → Place V → Type 0
IsUnborn unborn = Unit {0}
IsUnborn _ = ⊥

abbrev pub total : (View → ℕ) → List View → ℕ
total f [] = 0
total f (v ∷ vs) = f v + total f vs

-- the tickets that wait or are served
abbrev pub queue : View → ℕ
queue v = tickets_of v.stage

-- how many passes it stands for, and may still split off
abbrev pub weight : View → ℕ
weight v = v.held + v.spare

-- its number, and those of the passes that it took in
abbrev pub numbers_of : View → List ℕ
numbers_of d = d.number ∷ d.gone

-- what it is for one that is made of it
abbrev pub part_of : View → Part
part_of d = record { numbers = numbers_of d; seen = d.seen; mark = d.mark }

-- as far as a part's numbers go, this log goes on from what it had seen, and this mark from its own
abbrev pub IsPart : Part → List LogEntry → Mark → Type 0
IsPart a log mark = (n : ℕ) → IsAmong n a.numbers → Follows n a.seen log × Linked n a.mark mark

-- it goes on from its two parts
abbrev pub HasParts : View → Type 0
HasParts d = IsPart d.parts.0 d.seen d.mark × IsPart d.parts.1 d.seen d.mark

-- what a pass has seen of the log
pub record Saw (base : Origin) (all : List LogEntry) (next : ℕ) (d : View) : Type 0 where
  pub based : d.origin ≡ Some base
  pub since : Since next base.1 d.seen
  pub missed : (n : ℕ) → IsAmong n (numbers_of d) → Missed n next d.seen all
  pub least : place_after base.0 d.seen ≤ d.known
  pub most : d.known ≤ place_after base.0 all

-- its numbers, which are no other seat's, and those that it may still give
pub record Numbered (named : ℕ → ℕ) (next keeper seat : ℕ) (d : View) : Type 0 where
  pub own_numbers : (n : ℕ) → IsAmong n (numbers_of d) → (named n ≡ seat) × WasGiven next n
  pub stands_for : 1 ≤ d.held
  pub may_give : 0 < d.spare → (keeper ≡ seat) × (next + d.spare ≡ 4294967296)

-- its place in the queue
pub record InLine (all : List LogEntry) (tickets serving : ℕ) (owner : ℕ → ℕ) (fresh : Type 0) (seat : ℕ) (d : View) : Type 0 where
  pub has_ticket : IsBusy d.stage → (serving ≤ d.ticket) × (d.ticket < tickets) × (owner d.ticket ≡ seat)
  pub served : IsServed d.stage → d.ticket ≡ serving
  pub alone : IsAlone d.stage → d.seen ≡ all
  pub making : IsMaking d.stage → fresh

-- the mark that it holds, and what it left open: while the turn that left the mark is the last, all that is open is what was left then
pub record Marked (last : ℕ) (marks : ℕ → Mark) (opens : Open) (d : View) : Type 0 where
  pub turn : d.turn ≤ last
  pub mark : d.mark ≡ marks d.turn
  pub linked : (n : ℕ) → IsAmong n (numbers_of d) → (j : ℕ) → d.turn ≤ j → j ≤ last → Linked n d.mark (marks j)
  pub own : StaysOpen d.own (open_of d.number opens)
  pub whole : d.turn ≡ last → d.found ≡ opens
  pub current : IsAlone d.stage → d.turn ≡ last

-- what the rule says of one pass
pub record Fits (base : Origin) (all : List LogEntry) (tickets serving next keeper : ℕ) (owner named : ℕ → ℕ) (fresh : Type 0) (last : ℕ) (marks : ℕ → Mark) (opens : Open) (seat : ℕ) (d : View) : Type 0 where
  pub saw : Saw base all next d
  pub numbered : Numbered named next keeper seat d
  pub in_line : InLine all tickets serving owner fresh seat d
  pub marked : Marked last marks opens d
  pub parts : HasParts d

-- the seat whose turn it is, is at this stage
abbrev pub Turned : List View → ℕ → Stage → Type 0
Turned views seat stage = (d : View) × (get_elem? views seat ≡ some d) × (d.stage ≡ stage)

-- some pass has seen the whole log, and had the last turn
abbrev pub SomeoneSaw : List View → List LogEntry → ℕ → Type 0
SomeoneSaw views all last = (j : ℕ) × (d : View) × (get_elem? views j ≡ some d) × IsLive d.stage × (d.seen ≡ all) × (d.turn ≡ last)

module _ {V : Type 0} (log : V → List LogEntry) (opened : V → Opened) (mark : V → Mark) (left_open : V → Open) (base : Opened) (all : List LogEntry) (now : Mark) (opens : Open) (seat : ℕ) (homes : List (Maybe (Option V))) (views : List View) where
  abbrev pub Stands : Place V → Type 0
  Stands (home v) = (get_elem? homes 0 ≡ some (some (Some v))) × (log v ≡ all) × (opened v ≡ base) × (mark v ≡ now) × (left_open v ≡ opens)
  Stands unborn = (get_elem? homes 0 ≡ some (some None)) × Turned views seat Making
  Stands out = Turned views seat Holding

module _ {V : Type 0} (log : V → List LogEntry) (opened : V → Opened) (legal : Opened → List LogEntry → Type 0) (mark : V → Mark) (left_open : V → Open) where
  pub record Kept (key : V) (s : State (Option V) View) : Type 0 where
    pub all : List LogEntry
    pub tickets : ℕ
    pub next : ℕ
    pub keeper : ℕ
    pub owner : ℕ → ℕ
    pub named : ℕ → ℕ
    pub last : ℕ
    pub marks : ℕ → Mark
    pub opens : Open
    pub place : Place V
    pub wide : length s.words ≡ 67
    pub count : slice_index s.words 0 ≡ place_after (opened key) all
    pub small : place_after (opened key) all < 4294967296
    pub drawn : slice_index s.words 1 ≡ tickets % 18446744073709551616
    pub queued : total queue s.views + slice_index s.words 2 ≡ tickets
    pub weighs : total weight s.views ≡ 4294967295
    pub is_legal : legal (opened key) all
    pub since : Since next (log key) all
    pub each : (j : ℕ) (d : View) → get_elem? s.views j ≡ some d → IsLive d.stage → Fits (opened key, log key) all tickets (slice_index s.words 2) next keeper owner named (IsUnborn place) last marks opens j d
    pub spent : (j : ℕ) (d : View) → get_elem? s.views j ≡ some d → ¬ IsLive d.stage → tickets_of d.stage ≡ 0
    pub grows : (a b : ℕ) → a ≤ b → b ≤ last → Grows (marks a) (marks b)
    pub first_mark : marks 0 ≡ mark key
    pub mark_given : (j : ℕ) → j ≤ last → IsGiven next (mark key) (marks j)
    pub opens_given : AreGiven next opens
    pub longest : SomeoneSaw s.views all last
    pub stands : Stands log opened mark left_open (opened key) all (marks last) opens (owner (slice_index s.words 2)) s.homes s.views place

-- the view of the first pass, which has the first ticket
abbrev pub newcomer : {V : Type 0} → (V → List LogEntry) → (V → Opened) → (V → Mark) → (V → Open) → V → View
newcomer log opened mark left_open v = record {
  origin = Some (opened v, log v);
  seen = log v;
  known = place_after (opened v) (log v);
  number = 1;
  gone = [];
  spare = 4294967294;
  held = 1;
  mark = mark v;
  turn = 0;
  own = open_of 1 (left_open v);
  found = left_open v;
  stage = Making;
  ticket = 0;
  parts = (no_part, no_part);
}

abbrev pub at_stage : View → Stage → View
at_stage v stage = record v { stage = stage }

abbrev pub waiting : View → ℕ → View
waiting v t = record v { stage = Waiting; ticket = t }

-- the pass has found a value with this log, which starts so, this mark and this left open, which the turn t left
abbrev pub finding : View → Opened → List LogEntry → Mark → Open → ℕ → View
finding v start all mark opens t = record v { seen = all; known = place_after start all; mark = mark; found = opens; turn = t; stage = Holding; parts = (no_part, no_part) }

-- the pass has left it so
abbrev pub leaving : View → Opened → List LogEntry → Mark → Open → View
leaving v start all mark opens = record v { seen = all; known = place_after start all; mark = mark; own = open_of v.number opens; found = opens; turn = v.turn + 1; stage = Leaving; parts = (no_part, no_part) }

-- it knows of this place
abbrev pub knowing : View → ℕ → View
knowing v n = record v { known = n }

-- what is left of a pass that another is split off from, and the other
abbrev pub splitting : View → View
splitting v = record v { spare = v.spare - 1 }

abbrev pub split_off : View → View
split_off v = record v { number = 4294967296 - v.spare; gone = []; spare = 0; held = 1; own = nothing_open; stage = Idle; parts = (no_part, no_part) }

-- a pass that took in another, and what is left of that
abbrev pub joined : View → View → View
joined v w = record v { gone = v.gone ++ numbers_of w; mark = later_mark v.turn w.turn v.mark w.mark; found = later_open v.turn w.turn v.found w.found; turn = max v.turn w.turn; seen = longer v.seen w.seen; known = max v.known w.known; spare = max v.spare w.spare; held = v.held + w.held; parts = (part_of v, part_of w) }

abbrev pub nobody : View
nobody = blank Spent

module _ {V : Type 0} where
  -- a ticket was drawn, of which the last 64 bits are told
  abbrev pub drew : Me (Option V) View → ℕ → Me (Option V) View → Type 0
  drew m r n = (n.1 ≡ m.1) × ((t : ℕ) × (n.0 ≡ waiting m.0 t) × (r ≡ t % 18446744073709551616))

  abbrev pub called : Me (Option V) View → ℕ → Me (Option V) View → Type 0
  called m r n = (n.1 ≡ m.1) × (r ≡ m.0.ticket % 18446744073709551616 → (n.0 ≡ at_stage m.0 Called) × (m.0.ticket ≡ r)) × (r ≢ m.0.ticket % 18446744073709551616 → n.0 ≡ m.0)

  -- nothing was moved
  abbrev pub still : Me (Option V) View → Me (Option V) View → Type 0
  still m n = n ≡ m

  abbrev pub served : Me (Option V) View → Me (Option V) View → Type 0
  served m n = (n.1 ≡ m.1) × (n.0 ≡ at_stage m.0 Idle)

  -- nothing was moved, and the number that is given next has no entry since the desk was made
  abbrev pub unnumbered : Me (Option V) View → Me (Option V) View → Type 0
  unnumbered m n = (n ≡ m) × ((o : Origin) → m.0.origin ≡ Some o → Follows (4294967296 - m.0.spare) o.1 m.0.seen)

  -- nothing was moved, and it is told how a pass that was made of two goes on from them
  abbrev pub compared : Me (Option V) View → Me (Option V) View → Type 0
  compared m n = (n ≡ m) × HasParts m.0

  -- the count was read
  abbrev pub met : Me (Option V) View → ℕ → Me (Option V) View → Type 0
  met m r n = (n.1 ≡ m.1) × (n.0 ≡ knowing m.0 r) × (m.0.known ≤ r) × (r < 4294967296)

  module _ (log : V → List LogEntry) (opened : V → Opened) (legal : Opened → List LogEntry → Type 0) (mark : V → Mark) (left_open : V → Open) where
    -- a legal log from where the desk began
    abbrev pub Begins : Option Origin → V → Type 0
    Begins origin v = (o : Origin) → origin ≡ Some o → (opened v ≡ o.0) × legal o.0 (log v)

    -- what is told of the value that was taken
    abbrev pub Found : Me (Option V) View → Me (Option V) View → V → Type 0
    Found m n v = (n.1 ≡ (0, Some v) ∷ []) × (n.0 ≡ finding m.0 (opened v) (log v) (mark v) (left_open v) n.0.turn) × Follows m.0.number m.0.seen (log v) × (m.0.known ≤ place_after (opened v) (log v)) × Begins m.0.origin v × (m.0.turn ≤ n.0.turn) × (n.0.turn ≡ m.0.turn → (mark v ≡ m.0.mark) × (left_open v ≡ m.0.found)) × Linked m.0.number m.0.mark (mark v) × StaysOpen m.0.own (open_of m.0.number (left_open v))
        × (m.0.held + m.0.spare ≡ 4294967295 → (log v ≡ m.0.seen) × (mark v ≡ m.0.mark) × (left_open v ≡ m.0.found))

    abbrev pub TookAt : Me (Option V) View → Me (Option V) View → Stage → Type 0
    TookAt m n Called = (v : V) × Found m n v
    TookAt m n Making = (n.1 ≡ (0, None) ∷ []) × (n.0 ≡ at_stage m.0 Holding)
    TookAt m n _ = Unit {0}

    abbrev pub took : Me (Option V) View → Me (Option V) View → Type 0
    took m n = TookAt m n m.0.stage

  abbrev pub gave : (V → List LogEntry) → (V → Opened) → (V → Mark) → (V → Open) → Me (Option V) View → Me (Option V) View → Type 0
  gave log opened mark left_open m n = (v : V) → m.1 ≡ (0, Some v) ∷ [] → (n.0 ≡ leaving m.0 (opened v) (log v) (mark v) (left_open v)) × (n.1 ≡ [])
