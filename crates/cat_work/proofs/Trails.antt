-- Logs that go on, and the heads that were built on over them.
use Rattle.std.proofs.Common.{◌≡◌, ◌≢◌, ℕ, ◌+◌, ◌<◌, ◌≤◌, List, [], ◌∷◌, ◌++◌, length, take, refl, sym, ap, ◌∙◌, subst, arith, length-append, le_refl}
use Rattle.std.proofs.lemmas.List.{append-nil, take-append-le}
use Rattle.std.proofs.lemmas.Option.{same_Some}
use Rattle.std.proofs.Math.Seq.{take-length}
use Rattle.cat_names.specs.declared.hash.Hash.{Hash}
use Rattle.cat_decisions.specs.BuildLaws.{commit_opened}
use Rattle.cat_decisions.specs.Builds.{HasHead, IsBuilt, IsMadeAt, command_of}
use Rattle.cat_decisions.specs.declared.building.Built.{Built}
use Rattle.cat_decisions.specs.declared.building.Work.{Work}
use Rattle.cat_decisions.specs.declared.building.Work.TheVariants as works
use Rattle.cat_decisions.specs.declared.call.Call.{Call}
use Rattle.cat_decisions.specs.declared.call.Call.TheVariants as calls
use Rattle.cat_checks.specs.Histories.{IsLegalFrom}
use Rattle.cat_desk.specs.Log.{Follows}
use Rattle.cat_desk.specs.Pass.{DeskId}
use Rattle.cat_model.specs.declared.command.Command.{Command}
use Rattle.cat_model.specs.declared.log_entry.LogEntry.{LogEntry}
use Rattle.cat_model.specs.declared.reference.Reference.{Reference}
use Rattle.cat_model.specs.State.{State}
use Rattle.cat_decisions.specs.OpenedLaws.{merge_opened, transplant_opened}
use Rattle.cat_work.specs.Answers.{AreHeadsAt, Climbs, IsHeadAt, Rises, first_place}
use Rattle.cat_work.specs.Passes.{state_of}
use Rattle.cat_work.specs.Turns.{Trail}
use Rattle.cat_work.specs.TurnLaws.{follows_length, legal_before}
pub use Rattle.cat_work.specs.TurnLaws.{goes_later, place_at}

-- ---- heads

pub one_head : (state : State) (c : Command) (a b : Hash) → HasHead state c a → HasHead state c b → a ≡ b
one_head state c a b p q = sym p.2 ∙ (ap (λ (r : Reference). r.head) (same_Some p.0 q.0 (sym p.1 ∙ q.1)) ∙ q.2)

head_made : (state : State) (call : Call) (hash : Hash) (work : Work) → IsMadeAt state call hash work → HasHead state (command_of call) hash
head_made state (calls.Commit r g) hash (works.Judged judged) made = (made.branch, (commit_opened state r.now made.branch made.expected made.opened).0, sym made.head)
head_made state (calls.Commit r g) hash (works.Planned d) made = absurd made
head_made state (calls.Merge m) hash (works.Judged judged) made = absurd made
head_made state (calls.Merge m) hash (works.Planned d) made = (made.branch, (merge_opened state m.now made.branch made.source made.opened).0, sym made.head)
head_made state (calls.Transplant t) hash (works.Judged judged) made = absurd made
head_made state (calls.Transplant t) hash (works.Planned d) made = (made.branch, (transplant_opened state t.now made.branch made.opened).0, sym made.head)

-- what was built on a state was built on the branch's head there
pub built_on : (state : State) (call : Call) (built : Built) → IsBuilt state call built → HasHead state (command_of call) built.head
built_on state call built made = head_made state call built.head built.work made

-- a log after which the branch has another head is longer
longer_at : (desk : DeskId) (c : Command) (l rest m : List LogEntry) (head : Hash) → m ≡ l ++ rest → HasHead (state_of desk l) c head → (HasHead (state_of desk m) c head → ⊥) → length l < length m
longer_at desk c l [] m head e has moved = absurd (moved (subst (λ (x : List LogEntry). HasHead (state_of desk x) c head) (sym (e ∙ append-nil l)) has))
longer_at desk c l (x ∷ xs) m head e has moved = let n : length m ≡ length l + length (x ∷ xs) = ap length e ∙ length-append l (x ∷ xs) in omega arith

-- ---- pairs

here : (desk : DeskId) (c : Command) (log : List LogEntry) (head : Hash) → IsLegalFrom desk.opened log → HasHead (state_of desk log) c head → IsHeadAt desk c log ((state_of desk log).place, head)
here desk c log head legal has = record {
  entries = length log;
  within = le_refl (length log);
  place = place_at desk log legal;
  head = subst (λ (x : List LogEntry). HasHead (state_of desk x) c head) (sym (take-length log)) has;
}

at_later : (desk : DeskId) (c : Command) (l rest m : List LogEntry) (pairs : List (ℕ × Hash)) → m ≡ l ++ rest → AreHeadsAt desk c l pairs → AreHeadsAt desk c m pairs
at_later desk c l rest m [] e a = tt
at_later desk c l rest m (pair ∷ pairs) e a =
    let n : length m ≡ length l + length rest = ap length e ∙ length-append l rest in
    let le : a.0.entries ≤ length l = a.0.within in (
      record {
        entries = a.0.entries;
        within = omega arith;
        place = a.0.place;
        head = subst (λ (x : List LogEntry). HasHead (state_of desk x) c pair.1) (sym (ap (take a.0.entries) e ∙ take-append-le a.0.entries l rest le)) a.0.head;
      },
      at_later desk c l rest m pairs e a.1,
    )

at_more : (desk : DeskId) (c : Command) (m : List LogEntry) (pairs : List (ℕ × Hash)) (pair : ℕ × Hash) → AreHeadsAt desk c m pairs → IsHeadAt desk c m pair → AreHeadsAt desk c m (pairs ++ pair ∷ [])
at_more desk c m [] pair a h = (h, tt)
at_more desk c m (q ∷ qs) pair a h = (a.0, at_more desk c m qs pair a.1 h)

climbs_more : (x : ℕ × Hash) (xs : List (ℕ × Hash)) (q p : ℕ × Hash) → Climbs x (xs ++ q ∷ []) → q.0 < p.0 → q.1 ≢ p.1 → Climbs x ((xs ++ q ∷ []) ++ p ∷ [])
climbs_more x [] q p h lt ne = (h.0, h.1, (lt, ne, tt))
climbs_more x (y ∷ ys) q p h lt ne = (h.0, h.1, climbs_more y ys q p h.2 lt ne)

rises_more : (xs : List (ℕ × Hash)) (q p : ℕ × Hash) → Rises (xs ++ q ∷ []) → q.0 < p.0 → q.1 ≢ p.1 → Rises ((xs ++ q ∷ []) ++ p ∷ [])
rises_more [] q p h lt ne = (lt, ne, tt)
rises_more (x ∷ xs) q p h lt ne = climbs_more x xs q p h lt ne

first_more : (xs ys : List (ℕ × Hash)) (q : ℕ × Hash) → first_place ((xs ++ q ∷ []) ++ ys) ≡ first_place (xs ++ q ∷ [])
first_more [] ys q = refl
first_more (x ∷ xs) ys q = refl

pub trail_start : (desk : DeskId) (c : Command) (log : List LogEntry) (head : Hash) → IsLegalFrom desk.opened log → HasHead (state_of desk log) c head → Trail desk c log (state_of desk log).place (((state_of desk log).place, head) ∷ [])
trail_start desk c log head legal has = record { front = []; head = head; last = refl; has = has; rises = tt; at = (here desk c log head legal has, tt); begins = refl }

pub trail_next : (desk : DeskId) (c : Command) (n first : ℕ) (l m : List LogEntry) (pairs : List (ℕ × Hash)) (head : Hash) (t : Trail desk c l first pairs) → Follows n l m → IsLegalFrom desk.opened m → (HasHead (state_of desk m) c t.head → ⊥) → HasHead (state_of desk m) c head
    → Trail desk c m first (pairs ++ ((state_of desk m).place, head) ∷ [])
trail_next desk c n first l m pairs head t f legal moved has =
    let longer : length l < length m = longer_at desk c l f.0 m t.head f.1 t.has moved in
    let low : (state_of desk l).place ≡ desk.opened.state.place + length l = place_at desk l (legal_before desk n l m f legal) in
    let high : (state_of desk m).place ≡ desk.opened.state.place + length m = place_at desk m legal in
    let up : (state_of desk l).place < (state_of desk m).place = omega arith in
    let last : ℕ × Hash = ((state_of desk l).place, t.head) in
    let next : ℕ × Hash = ((state_of desk m).place, head) in
    let other : t.head ≢ head = λ e. moved (subst (HasHead (state_of desk m) c) (sym e) has) in
    record {
      front = pairs;
      head = head;
      last = refl;
      has = has;
      rises = subst (λ (x : List (ℕ × Hash)). Rises (x ++ next ∷ [])) (sym t.last) (rises_more t.front last next (subst Rises t.last t.rises) up other);
      at = at_more desk c m pairs next (at_later desk c l f.0 m pairs f.1 t.at) (here desk c m head legal has);
      begins = ap (λ (x : List (ℕ × Hash)). first_place (x ++ next ∷ [])) t.last ∙ (first_more t.front (next ∷ []) last ∙ (ap first_place (sym t.last) ∙ t.begins));
    }

-- ---- the first of them

first_within : (desk : DeskId) (c : Command) (log : List LogEntry) (first : ℕ) (pairs : List (ℕ × Hash)) → AreHeadsAt desk c log pairs → first_place pairs ≡ first → first ≤ desk.opened.state.place + length log
first_within desk c log first [] at begins = let zero_is : 0 ≡ first = begins in omega arith
first_within desk c log first (pair ∷ pairs) at begins =
    let same : pair.0 ≡ first = begins in
    let place : pair.0 ≡ desk.opened.state.place + at.0.entries = at.0.place in
    let le : at.0.entries ≤ length log = at.0.within in
    omega arith

-- it isn't after the end of a log that goes on
pub opened_within : (desk : DeskId) (c : Command) (n first : ℕ) (l m : List LogEntry) (pairs : List (ℕ × Hash)) → Trail desk c l first pairs → Follows n l m → IsLegalFrom desk.opened m → first ≤ (state_of desk m).place
opened_within desk c n first l m pairs t f legal =
    let early : first ≤ desk.opened.state.place + length l = first_within desk c l first pairs t.at t.begins in
    let longer : length l ≤ length m = follows_length n l m f in
    let place : (state_of desk m).place ≡ desk.opened.state.place + length m = place_at desk m legal in
    omega arith
