-- What clauses say of a desk, of a pass and of a held value.
use Rattle.std.specs.Prelude.{◌≡◌, ℕ, ◌+◌, ◌^◌, ◌<◌, List, [], ◌∷◌, Some, None}
use Rattle.atomic_table.specs.Seated.{TableId}
use Rattle.cat_model.specs.declared.log_entry.LogEntry.{LogEntry}
use Rattle.cat_model.specs.Drafts.{Open, nothing_open}
use Rattle.cat_model.specs.Mark.{Mark, no_mark}
use Rattle.cat_model.specs.Turns.{Opened, Snapshot}
use Rattle.cat_desk.specs.Log.{IsAmong, Follows}
use Rattle.cat_desk.specs.Marks.{Linked}
use Rattle.cat_desk.specs.Sight.{View, Idle, Holding}
use Rattle.cat_desk.specs.declared.pass.Held.{Held}
use Rattle.cat_desk.specs.declared.pass.Pass.{Pass}

-- which desk it is, what its log starts from, and the log and the mark with which it was made
pub record DeskId : Type 0 where
  pub table : TableId
  pub opened : Opened
  pub begun : List LogEntry
  pub marked : Mark

abbrev pub seen_in : List View → List LogEntry
seen_in [] = []
seen_in (v ∷ vs) = v.seen

abbrev pub known_in : List View → ℕ
known_in [] = 0
known_in (v ∷ vs) = v.known

abbrev pub gone_in : List View → List ℕ
gone_in [] = []
gone_in (v ∷ vs) = v.gone

abbrev pub held_in : List View → ℕ
held_in [] = 0
held_in (v ∷ vs) = v.held

abbrev pub mark_in : List View → Mark
mark_in [] = no_mark
mark_in (v ∷ vs) = v.mark

abbrev pub turn_in : List View → ℕ
turn_in [] = 0
turn_in (v ∷ vs) = v.turn

abbrev pub own_in : List View → Open
own_in [] = nothing_open
own_in (v ∷ vs) = v.own

abbrev pub found_in : List View → Open
found_in [] = nothing_open
found_in (v ∷ vs) = v.found

-- the number of a pass, which the entries that its caller adds carry
abbrev pub number_of : Pass → ℕ
number_of p = p.number

-- how many passes it may still split off
abbrev pub spare_of : Pass → ℕ
spare_of p = p.spare

-- the log that a pass has seen, outside a turn
abbrev pub seen : Pass → List LogEntry
seen p = seen_in p.badge.views

-- the place that it knows of: entries were made up to there
abbrev pub known : Pass → ℕ
known p = known_in p.badge.views

-- how many passes it stands for
abbrev pub stands_for : Pass → ℕ
stands_for p = held_in p.badge.views

-- the mark that it holds, and the number of the turn that left it
abbrev pub mark_of : Pass → Mark
mark_of p = mark_in p.badge.views

abbrev pub turn_of : Pass → ℕ
turn_of p = turn_in p.badge.views

-- it has this number, or took in a pass that had it
abbrev pub HasNumber : ℕ → Pass → Type 0
HasNumber n p = IsAmong n (number_of p ∷ gone_in p.badge.views)

-- what its last turn left open of its caller
abbrev pub left_by : Pass → Open
left_by p = own_in p.badge.views

-- what was left open in all by the turn that left the mark that it holds
abbrev pub all_left_by : Pass → Open
all_left_by p = found_in p.badge.views

-- the pass has no turn
abbrev pub HasNoTurn : Pass → Type 0
HasNoTurn p = (v : View) × (p.badge.views ≡ v ∷ []) × (v.stage ≡ Idle)

-- the pass is one of this desk, and has no turn
abbrev pub IsFree : DeskId → Pass → Type 0
IsFree desk p = (v : View) × (p.badge.views ≡ v ∷ []) × (p.badge.table_id ≡ desk.table) × (v.stage ≡ Idle) × (v.origin ≡ Some (desk.opened, desk.begun)) × (v.number ≡ p.number) × (v.spare ≡ p.spare)

-- the pass has its turn, in which the seat is with the value that was lent
abbrev pub IsTurn : {V : Type 0} → DeskId → Pass → Held V → Type 0
IsTurn desk p h = (p.badge.views ≡ []) × (h.seat.table_id ≡ desk.table) × (h.seat.me.1 ≡ (0, None) ∷ []) × (h.seat.me.0.stage ≡ Holding) × (h.seat.me.0.origin ≡ Some (desk.opened, desk.begun)) × (h.seat.me.0.number ≡ p.number) × (h.seat.me.0.ticket ≡ h.ticket) × (h.ticket + 1 < 2 ^ 64) × (h.seat.me.0.spare ≡ p.spare)

-- one pass has seen as much as another, and holds what the same turn left
pub record Remembers (p q : Pass) : Type 0 where
  pub seen : seen q ≡ seen p
  pub known : known q ≡ known p
  pub mark : mark_of q ≡ mark_of p
  pub turn : turn_of q ≡ turn_of p
  pub all_left : all_left_by q ≡ all_left_by p

-- one pass goes on from another, as far as the callers of its numbers go: it has these numbers, what it has seen more is of others, and in its mark no fault, last draft number or closed sweep of theirs is new
abbrev pub CarriesOn : Pass → Pass → Type 0
CarriesOn p q = (n : ℕ) → HasNumber n p → HasNumber n q × Follows n (seen p) (seen q) × Linked n (mark_of p) (mark_of q)

-- the value as it was found
abbrev pub found : {V : Type 0} → DeskId → Held V → Snapshot
found desk h = record { opened = desk.opened; log = h.seat.me.0.seen; mark = h.seat.me.0.mark; left_open = h.seat.me.0.found }

-- how many passes the caller of a held value stands for, and the number of the turn that left the value
abbrev pub held_for : {V : Type 0} → Held V → ℕ
held_for h = h.seat.me.0.held

abbrev pub found_turn : {V : Type 0} → Held V → ℕ
found_turn h = h.seat.me.0.turn

-- the pass is of the desk and without a turn, and is still as much as it was
pub record Keeps (desk : DeskId) (p q : Pass) : Type 0 where
  pub free : IsFree desk q
  pub number : number_of q ≡ number_of p
  pub spare : spare_of q ≡ spare_of p
  pub held : stands_for q ≡ stands_for p
