-- What a turn that changes nothing leaves of a pass, and what calls on it leave.
use Rattle.std.proofs.Common.{◌≡◌, ℕ, ◌+◌, ◌*◌, ◌<◌, ◌≤◌, min, Option, Some, Result, Ok, Err, OnOk, refl, ◌∙◌, ap, ap₂, subst, arith}
use Rattle.cat_checks.specs.Histories.{IsLegalFrom}
use Rattle.cat_desk.specs.Log.{BeginsWith}
use Rattle.cat_desk.specs.Pass.{DeskId, IsFree, Keeps, left_by, number_of, seen}
use Rattle.cat_desk.specs.declared.pass.Pass.{Pass}
use Rattle.cat_io.specs.Clocks.{Ticks, from, readings, ticks_on}
use Rattle.cat_model.specs.declared.command.Command.{Command}
use Rattle.cat_model.specs.Book.{Book}
use Rattle.cat_model.specs.Drafts.{Open, StaysOpen, nothing_open, open_of}
use Rattle.cat_model.specs.TurnLaws.{nothing_stays}
use Rattle.cat_work.specs.Passes.{IsAlone, IsReady}
use Rattle.cat_work.specs.ReadyLaws.{ready_on}
use Rattle.cat_drill.specs.Drill.{after_command, after_step, asked, moments}
use Rattle.cat_drill.specs.Steps.{moment_of}

pub keeps_self : (desk : DeskId) (p : Pass) → IsFree desk p → Keeps desk p p
keeps_self desk p free = record { free = free; number = refl; spare = refl; held = refl }

pub keeps_on : (desk : DeskId) (p q r : Pass) → Keeps desk p q → Keeps desk q r → Keeps desk p r
keeps_on desk p q r one two = record { free = two.free; number = two.number ∙ one.number; spare = two.spare ∙ one.spare; held = two.held ∙ one.held }

pub alone_on : (desk : DeskId) (p q : Pass) → Keeps desk p q → IsAlone p → IsAlone q
alone_on desk p q kept alone = ap₂ (λ (a b : ℕ). a + b) kept.held kept.spare ∙ alone

-- nothing was left open
pub left_ready : (desk : DeskId) (p q : Pass) (n : ℕ) (opens : Open) → IsReady desk p → IsFree desk q → left_by q ≡ open_of n opens → n ≡ number_of p → StaysOpen (left_by p) (open_of (number_of p) opens)
    → IsLegalFrom desk.opened (seen q) → BeginsWith (seen p) (seen q) → IsReady desk q
left_ready desk p q n opens ready free left number own legal begins =
    let none : StaysOpen nothing_open (open_of (number_of p) opens) = subst (λ (x : Open). StaysOpen x (open_of (number_of p) opens)) ready.none own in
    ready_on desk p q ready free (left ∙ ap (λ (k : ℕ). open_of k opens) number ∙ nothing_stays (open_of (number_of p) opens) none) legal begins

-- ---- moments

pub first_moment : Some moments ≡ Some (from 0 moments)
first_moment = ap Some (λ i k. moments (same k i))
  where
    same : (k : ℕ) → k ≡ 0 + k
    same k = omega arith

least : (a : ℕ) → a ≤ 253402207200999999 → min a 253402207200999999 ≡ a
least a le = grind arith

-- the reading after so many is the moment of the next step
moment_is : (made : ℕ) → made < 1000000 → moments made ≡ moment_of (made + 1)
unfolding readings
moment_is made lt =
    let low : 1000000 + made * 1000000 ≤ 253402207200999999 = omega (arith, lt) in
    let next : 1000000 + made * 1000000 ≡ (made + 1) * 1000000 = omega arith in
    least (1000000 + made * 1000000) low ∙ next

-- ---- steps

pub map_ok : {X Y : Type 0} (P Q : Type 0) (r : Result X Y) → (P → Q) → OnOk r P → OnOk r Q
map_ok P Q (Ok x) f p = f p
map_ok P Q (Err e) f p = tt

-- what a step leaves
pub step_made : (made number : ℕ) (command : Command) (before mid after : Book) (ahead ahead' : Option (ℕ → ℕ)) → made < 1000000 → ahead ≡ Some (from made moments)
    → command ≡ asked (made + 1) number before → mid ≡ before
    → (moment : ℕ) × Ticks ahead ahead' moment × (after ≡ after_command command moment mid)
    → (after ≡ after_step (made + 1) number before) × (ahead' ≡ Some (from (made + 1) moments))
step_made made number command before mid after ahead ahead' few at asks same (moment, ticks, is) =
    let read = ticks_on made moments ahead ahead' moment at ticks in
    let then_ : moment ≡ moment_of (made + 1) = read.0 ∙ moment_is made few in
    (is ∙ ap₂ (λ (c : Command) (t : ℕ). after_command c t mid) asks then_ ∙ ap (after_command (asked (made + 1) number before) (moment_of (made + 1))) same, read.1)
