-- A call between its attempts, and what ends it.
use Rattle.std.proofs.Common.{◌≡◌, ◌<◌, ◌≤◌, ◌⊎◌, inl, inr, ℕ, ◌+◌, List, [], ◌∷◌, ◌++◌, length, length-append, reverse, Option, Some, None, Ok, Bool, true, false, cond, nat_eq, vec_capacity, refl, sym, ap, subst, ◌∙◌, arith}
use Rattle.sha2.specs.Sha256.{sha256}
use Rattle.cat_names.specs.Fields.{Key}
use Rattle.cat_names.specs.declared.hash.Hash.{Hash}
use Rattle.cat_decisions.specs.declared.building.Built.{Built}
use Rattle.cat_decisions.specs.Builds.{HasHead, IsBuilt}
use Rattle.cat_checks.specs.Histories.{IsLegalFrom, begun}
use Rattle.cat_checks.specs.HistoryLaws.{limits_stay}
use Rattle.cat_core.specs.Drafts.{Expires, IsOn, Refuses, RefusesDraft, closed, command_in, is_expired, may_open, open_draft_of, without}
use Rattle.cat_core.specs.Noting.{and_names, noting}
use Rattle.cat_core.specs.Stored as stored
use Rattle.cat_core.specs.Stored.{Stored, log_of}
use Rattle.cat_core.specs.declared.draft.Draft.{Draft}
use Rattle.cat_desk.specs.Log.{Follows}
use Rattle.cat_desk.specs.LogLaws.{follows_on}
use Rattle.cat_desk.specs.Pass.{DeskId, Keeps, known, left_by, mark_of, number_of, seen, spare_of, stands_for}
use Rattle.cat_desk.specs.declared.pass.Pass.{Pass}
use Rattle.cat_model.specs.declared.command.Command.{Command}
use Rattle.cat_model.specs.declared.limits.Limits.{Limits}
use Rattle.cat_model.specs.declared.refusal.Refusal.{Refusal}
use Rattle.cat_model.specs.declared.refusal.Refusal.TheVariants as refusals
use Rattle.cat_model.specs.declared.refusal.Refused.{Refused}
use Rattle.cat_model.specs.Book.{Book}
use Rattle.cat_model.specs.Calls.{Called}
use Rattle.cat_model.specs.Drafts.{Names, Open, OpenDraft, OpenSweep, StaysOpen, SweepAwaits, drafts_of, nothing_open, open_of, sweep_of}
use Rattle.cat_model.specs.Mark.{Grows, Mark}
use Rattle.cat_model.specs.State.{State}
use Rattle.cat_model.specs.Step.{opening}
use Rattle.cat_model.specs.TurnLaws.{grows_on, nothing_stays}
use Rattle.cat_work.specs.declared.trying.Trying.{Trying}
use Rattle.cat_work.specs.Passes.{IsAlone, state_of}
use Rattle.cat_work.specs.Turns.{Begins, Going, Moves, Trail, Tries, Turned}
use Rattle.cat_work.proofs.Callings.{may_pass}
use Rattle.cat_work.proofs.Opened.{drafts_more, drafts_one, none_left}
use Rattle.cat_work.proofs.Openings.{may_room}
use Rattle.cat_work.proofs.Telling.{Found, book_found, grew_in}
use Rattle.cat_model.specs.Turns.{place_after}
use Rattle.cat_work.proofs.Trails.{built_on, one_head, place_at, trail_next, trail_start}

-- ---- what is open of the caller

none_awaits : (a : Option OpenSweep) → SweepAwaits None a → a ≡ None
none_awaits None is = refl
none_awaits (Some a) is = absurd is

-- one draft that was left open alone is found so
pub one_stays : (x : OpenDraft) (a b : Open) → a ≡ record { drafts = x ∷ []; sweep = None } → StaysOpen a b → b ≡ record { drafts = x ∷ []; sweep = None }
one_stays x a b is stays =
    let same : StaysOpen (record { drafts = x ∷ []; sweep = None }) b = subst (λ (o : Open). StaysOpen o b) is stays in
    λ i. record { drafts = same.drafts i; sweep = none_awaits b.sweep same.sweep i }

-- names that were noted in another's sweep
none_noted : (n : ℕ) (names : Names) (held : Option OpenSweep) → sweep_of n held ≡ None → sweep_of n (noting names held) ≡ None
none_noted n names None none = refl
none_noted n names (Some s) none = noted (nat_eq s.opening.caller n) none
  where
    noted : (b : Bool) → cond b (Some s) None ≡ None → cond b (Some (record s { names = and_names s.names names })) None ≡ None
    noted true none = absurd cc
    noted false none = refl

-- a draft that was opened where nothing was
pub one_opened : (n : ℕ) (x : OpenDraft) (o : Open) → x.opening.caller ≡ n → open_of n o ≡ nothing_open → open_of n (record { drafts = o.drafts ++ x ∷ []; sweep = noting x.names o.sweep }) ≡ record { drafts = x ∷ []; sweep = None }
one_opened n x o caller none =
    let one : drafts_of n (x ∷ []) ≡ x ∷ [] = ap (λ (m : ℕ). drafts_of m (x ∷ [])) (sym caller) ∙ drafts_one x in
    let drafts : drafts_of n (o.drafts ++ x ∷ []) ≡ x ∷ [] = drafts_more n o.drafts (x ∷ []) ∙ (ap (λ (l : List OpenDraft). l ++ drafts_of n (x ∷ [])) (ap (λ (y : Open). y.drafts) none) ∙ one) in
    let sweep : sweep_of n (noting x.names o.sweep) ≡ None = none_noted n x.names o.sweep (ap (λ (y : Open). y.sweep) none) in
    λ i. record { drafts = drafts i; sweep = sweep i }

-- what is open, once a draft is
abbrev and_draft : OpenDraft → Open → Open
and_draft x o = record { drafts = o.drafts ++ x ∷ []; sweep = noting x.names o.sweep }

-- a draft that was closed where it was the only one
pub none_open : (n : ℕ) (x : OpenDraft) (o : Open) → x.opening.caller ≡ n → open_of n o ≡ record { drafts = x ∷ []; sweep = None } → open_of n (record o { drafts = without x.opening o.drafts }) ≡ nothing_open
none_open n x o caller one =
    let own : drafts_of x.opening.caller o.drafts ≡ x ∷ [] = ap (λ (m : ℕ). drafts_of m o.drafts) caller ∙ ap (λ (y : Open). y.drafts) one in
    let drafts : drafts_of n (without x.opening o.drafts) ≡ [] = ap (λ (m : ℕ). drafts_of m (without x.opening o.drafts)) (sym caller) ∙ none_left x o.drafts own in
    λ i. record { drafts = drafts i; sweep = (one i).sweep }

-- ---- the first turn

raised : (a b n : ℕ) → a ≤ b → n ≡ b + 1 → a < n
raised a b n le e = omega arith

-- the limits are those that the log starts from
limits_are : {K : Type 0} (desk : DeskId) (p q : Pass) (s s' : Stored K) → Turned desk p q s s' → s.book.state.limits ≡ desk.opened.state.limits
limits_are desk p q s s' turn = ap (λ (x : State). x.limits) (sym turn.led) ∙ limits_stay sha256 (begun desk.opened) (log_of s)

within_by : (last limit number : ℕ) → last < limit → number ≡ last + 1 → number ≤ limit
within_by last limit number low is = omega arith

known_at : (opened k size place here : ℕ) → k ≤ opened + size → here ≡ opened + size → place ≡ here → k ≤ place
known_at opened k size place here le e same = omega arith

pub begins : (K : Type 0) (desk : DeskId) (c : Command) (p q : Pass) (t : Trying) (attempts : ℕ) → left_by p ≡ nothing_open → IsLegalFrom desk.opened (seen q) → Keeps desk p q → known p ≤ place_after desk.opened (seen q) → attempts + 1 ≤ vec_capacity t.pairs → Begins K desk c p q t → Going desk c p q t attempts 1
begins K desk c p q t attempts none legal keeps known_is room b =
    let s : Stored K = b.opens.0 in
    let s' : Stored K = b.opens.1 in
    let turn : Turned desk p q s s' = b.opens.2 in
    let o = b.opens.3 in
    let d : Draft = t.draft in
    let log : seen q ≡ log_of s = turn.seen_is ∙ ap (λ (x : Stored K). log_of x) o.after in
    let mark : mark_of q ≡ record (s.mark) { draft = d.number; drafter = d.caller } = turn.mark_is ∙ ap (λ (x : Stored K). x.mark) o.after in
    let view : t.view ≡ state_of desk (seen q) = o.view_is ∙ (sym turn.led ∙ ap (state_of desk) (sym log)) in
    let was : open_of (number_of p) (stored.open_of s) ≡ nothing_open = nothing_stays (open_of (number_of p) (stored.open_of s)) (subst (λ (x : Open). StaysOpen x (open_of (number_of p) (stored.open_of s))) none turn.own) in
    let left : left_by q ≡ record { drafts = open_draft_of d ∷ []; sweep = None } = turn.left ∙ (ap (λ (x : Stored K). open_of (number_of p) (stored.open_of x)) o.after ∙ one_opened (number_of p) (open_draft_of d) (stored.open_of s) o.caller_is was) in
    let passes : opening sha256 t.view c ≡ Ok tt = ap (λ (x : State). opening sha256 x c) o.view_is ∙ may_pass s.book c o.passes in
    let has : HasHead (state_of desk (seen q)) (command_in d) b.head = subst (λ (x : State). HasHead x (command_in d) b.head) view (subst (λ (x : Command). HasHead t.view x b.head) (sym o.command_is) b.has) in
    let pairs : ((state_of desk (seen q)).place, b.head) ∷ [] ≡ t.pairs.items = sym (b.pairs_are ∙ ap (λ (x : State). (x.place, b.head) ∷ []) view) in
    let place : (state_of desk (seen q)).place ≡ d.place = sym (o.place ∙ (ap (λ (x : State). x.place) (sym o.view_is ∙ view))) in
    let grew : (mark_of p).draft ≤ s.book.draft = subst (λ (x : ℕ). (mark_of p).draft ≤ x) turn.draft turn.linked.grows.draft in
    record {
      kept = keeps;
      follows = subst (Follows (number_of p) (seen p)) (sym log) turn.follows;
      tries = record {
        left_is = left;
        caller = o.caller_is ∙ sym keeps.number;
        given = o.given;
        view_is = view;
        passes = ap (opening sha256 t.view) o.command_is ∙ passes;
        trail = subst (λ (x : List (ℕ × Hash)). Trail desk (command_in d) (seen q) d.place x) pairs (subst (λ (x : ℕ). Trail desk (command_in d) (seen q) x (((state_of desk (seen q)).place, b.head) ∷ [])) place (trail_start desk (command_in d) (seen q) b.head legal has));
      };
      command_is = o.command_is;
      newer = raised (mark_of p).draft s.book.draft d.number grew o.number;
      within = subst (λ (x : Limits). d.number ≤ x.drafts) (limits_are desk p q s s' turn) (within_by s.book.draft s.book.state.limits.drafts d.number (may_room s.book c o.passes) o.number);
      known_then = known_at desk.opened.state.place (known p) (length (seen q)) d.place (state_of desk (seen q)).place known_is (place_at desk (seen q) legal) (sym place);
      count = ap (λ (l : List (ℕ × Hash)). length l) b.pairs_are;
      room = room;
      faults = λ x is own. turn.linked.own_fault x (sym (ap (λ (m : Mark). m.fault) mark) ∙ is) own;
      grows = grew_in desk p q s s' turn;
      alone = λ only. record {
        place_is = o.place ∙ ap (λ (x : Book). x.state.place) (book_found desk p q s s' turn only);
        seen_is = log ∙ (turn.alone only).0;
        mark_is = mark ∙ (λ i. record ((turn.alone only).1 i) { draft = d.number; drafter = o.caller_is i });
        number_is = o.number ∙ ap (λ (n : ℕ). n + 1) (sym turn.draft ∙ ap (λ (m : Mark). m.draft) (turn.alone only).1);
        up = ap (λ (m : Mark). m.fault) (sym (turn.alone only).1) ∙ o.up;
        passes = ap (λ (x : Book). may_open x c) (sym (book_found desk p q s s' turn only)) ∙ o.passes;
      };
      rests = λ only nothing. turn.all_left ∙ (ap (λ (x : Stored K). stored.open_of x) o.after ∙ ap (and_draft (open_draft_of d)) ((turn.alone only).2 ∙ nothing));
    }

-- ---- a later turn

-- what a later turn finds, against the pass at first
pub found_on : {K : Type 0} (desk : DeskId) (c : Command) (first present next : Pass) (t : Trying) (attempts number : ℕ) (s s' : Stored K) → Going desk c first present t attempts number → Turned desk present next s s' → Found desk (number_of first) first s
found_on desk c first present next t attempts number s s' g turn = record {
  follows = follows_on (number_of first) (seen first) (seen present) (log_of s) g.follows (subst (λ (n : ℕ). Follows n (seen present) (log_of s)) g.kept.number turn.follows);
  led = turn.led;
  no_new = λ x is own. g.faults x (turn.linked.own_fault x is (own ∙ sym g.kept.number)) own;
  kept = λ x is. turn.linked.grows.fault x (g.grows.fault x is);
}

-- and the mark that it leaves
pub grown : {K : Type 0} (desk : DeskId) (c : Command) (first present next : Pass) (t : Trying) (attempts number : ℕ) (s s' : Stored K) → Going desk c first present t attempts number → Turned desk present next s s' → Grows (mark_of first) (mark_of next)
grown desk c first present next t attempts number s s' g turn = grows_on (mark_of first) (mark_of present) (mark_of next) g.grows (grew_in desk present next s s' turn)

pub alone_still : (desk : DeskId) (first present : Pass) → Keeps desk first present → IsAlone first → IsAlone present
alone_still desk first present kept alone = ap (λ (n : ℕ). n + spare_of present) kept.held ∙ (ap (λ (n : ℕ). stands_for first + n) kept.spare ∙ alone)

-- the draft is found open, and its caller's only one
pub found_open : {K : Type 0} (desk : DeskId) (p q : Pass) (s s' : Stored K) (d : Draft) → left_by p ≡ record { drafts = open_draft_of d ∷ []; sweep = None } → Turned desk p q s s' → open_of (number_of p) (stored.open_of s) ≡ record { drafts = open_draft_of d ∷ []; sweep = None }
found_open desk p q s s' d left turn = one_stays (open_draft_of d) (left_by p) (open_of (number_of p) (stored.open_of s)) left turn.own

-- the head that was built on was the last of the trail
built_last : (desk : DeskId) (p : Pass) (d : Draft) (view : State) (pairs : List (ℕ × Hash)) (built : Built) (tries : Tries desk p d view pairs) → IsBuilt view d.call built → built.head ≡ tries.trail.head
built_last desk p d view pairs built tries is =
    one_head (state_of desk (seen p)) (command_in d) built.head tries.trail.head (subst (λ (x : State). HasHead x (command_in d) built.head) tries.view_is (built_on view d.call built is)) tries.trail.has

-- on the only pass the head hasn't moved
pub stays_alone : {K : Type 0} (desk : DeskId) (p q : Pass) (s s' : Stored K) (d : Draft) (view : State) (built : Built) → view ≡ state_of desk (seen p) → IsBuilt view d.call built → Turned desk p q s s' → IsAlone p → IsOn s d built
stays_alone desk p q s s' d view built view_is is turn alone =
    let same : view ≡ s.book.state = view_is ∙ (ap (state_of desk) (sym (turn.alone alone).0) ∙ turn.led) in
    subst (λ (x : State). HasHead x (command_in d) built.head) same (built_on view d.call built is)

-- the trail once the head has moved
pub moved_on : {K : Type 0} (desk : DeskId) (p q : Pass) (s s' : Stored K) (d : Draft) (view : State) (pairs more : List (ℕ × Hash)) (built : Built) (next : State) (head : Hash) → Tries desk p d view pairs → IsBuilt view d.call built → Turned desk p q s s' → IsLegalFrom desk.opened (seen q)
    → s'.book ≡ s.book → (IsOn s d built → ⊥) → next ≡ s.book.state → HasHead next (command_in d) head → more ≡ pairs ++ (next.place, head) ∷ [] → Trail desk (command_in d) (seen q) d.place more
moved_on {K} desk p q s s' d view pairs more built next head tries is turn legal same other next_is has pairs_are =
    let log : seen q ≡ log_of s = turn.seen_is ∙ ap (λ (b : Book). reverse b.log) same in
    let state : state_of desk (seen q) ≡ s.book.state = ap (state_of desk) log ∙ turn.led in
    let follows : Follows (number_of p) (seen p) (seen q) = subst (Follows (number_of p) (seen p)) (sym log) turn.follows in
    let moved : HasHead (state_of desk (seen q)) (command_in d) tries.trail.head → ⊥ =
    λ here. other (subst (λ (h : Hash). HasHead s.book.state (command_in d) h) (sym (built_last desk p d view pairs built tries is)) (subst (λ (x : State). HasHead x (command_in d) tries.trail.head) state here)) in
    let there : next ≡ state_of desk (seen q) = next_is ∙ sym state in
    let pairs_then : more ≡ pairs ++ ((state_of desk (seen q)).place, head) ∷ [] = pairs_are ∙ ap (λ (x : State). pairs ++ (x.place, head) ∷ []) there in
    subst (λ (l : List (ℕ × Hash)). Trail desk (command_in d) (seen q) d.place l) (sym pairs_then)
    (trail_next desk (command_in d) (number_of p) d.place (seen p) (seen q) pairs head tries.trail follows legal moved (subst (λ (x : State). HasHead x (command_in d) head) there has))

pub more_long : (pairs more : List (ℕ × Hash)) (pair : ℕ × Hash) → more ≡ pairs ++ pair ∷ [] → length more ≡ length pairs + 1
more_long pairs more pair e = ap (λ (l : List (ℕ × Hash)). length l) e ∙ length-append pairs (pair ∷ [])

roomy : (a b c : ℕ) → a ≤ b → b ≤ c → a ≤ c
roomy a b c p q = omega arith

pub goes_on : {K : Type 0} (desk : DeskId) (c : Command) (first present next : Pass) (t u : Trying) (attempts number : ℕ) (s s' : Stored K) → Going desk c first present t attempts number → Keeps desk present next → IsLegalFrom desk.opened (seen next) → Turned desk present next s s'
    → Moves s t.draft t.view t.pairs.items u.draft u.view u.pairs.items s' → vec_capacity t.pairs ≤ vec_capacity u.pairs → Going desk c first next u attempts (number + 1)
goes_on {K} desk c first present next t u attempts number s s' g keeps legal turn m room =
    let d : Draft = t.draft in
    let found : Found desk (number_of first) first s = found_on desk c first present next t attempts number s s' g turn in
    let book : s'.book ≡ s.book = ap (λ (x : Stored K). x.book) m.moved.after in
    let log : seen next ≡ log_of s = turn.seen_is ∙ ap (λ (b : Book). reverse b.log) book in
    let mark : mark_of next ≡ s.mark = turn.mark_is ∙ ap (λ (x : Stored K). x.mark) m.moved.after in
    let view : u.view ≡ state_of desk (seen next) = m.moved.view_is ∙ (sym turn.led ∙ ap (state_of desk) (sym log)) in
    let left : left_by next ≡ record { drafts = open_draft_of d ∷ []; sweep = None } = turn.left ∙ (ap (λ (x : Stored K). open_of (number_of present) (stored.open_of x)) m.moved.after ∙ found_open desk present next s s' d g.tries.left_is turn) in
    let never : IsAlone first → ⊥ = λ only. m.moved.other (stays_alone desk present next s s' d t.view m.built g.tries.view_is m.is_built turn (alone_still desk first present g.kept only)) in
    let has : HasHead u.view (command_in d) m.head = subst (λ (x : Draft). HasHead u.view (command_in x) m.head) m.moved.draft m.has in
    let here : Tries desk next d u.view u.pairs.items = record {
      left_is = left;
      caller = g.tries.caller ∙ sym keeps.number;
      given = g.tries.given;
      view_is = view;
      passes = ap (λ (x : State). opening sha256 x (command_in d)) m.moved.view_is ∙ m.moved.passes;
      trail = moved_on desk present next s s' d t.view t.pairs.items u.pairs.items m.built u.view m.head g.tries m.is_built turn legal book m.moved.other m.moved.view_is has m.pairs_are;
    } in
    record {
      kept = record { free = keeps.free; number = keeps.number ∙ g.kept.number; spare = keeps.spare ∙ g.kept.spare; held = keeps.held ∙ g.kept.held };
      follows = subst (Follows (number_of first) (seen first)) (sym log) found.follows;
      tries = subst (λ (x : Draft). Tries desk next x u.view u.pairs.items) (sym m.moved.draft) here;
      command_is = ap (λ (x : Draft). command_in x) m.moved.draft ∙ g.command_is;
      newer = subst (λ (x : Draft). (mark_of first).draft < x.number) (sym m.moved.draft) g.newer;
      within = subst (λ (x : Draft). x.number ≤ desk.opened.state.limits.drafts) (sym m.moved.draft) g.within;
      known_then = subst (λ (x : Draft). known first ≤ x.place) (sym m.moved.draft) g.known_then;
      count = more_long t.pairs.items u.pairs.items (u.view.place, m.head) m.pairs_are ∙ ap (λ (n : ℕ). n + 1) g.count;
      room = roomy (attempts + 1) (vec_capacity t.pairs) (vec_capacity u.pairs) g.room room;
      faults = λ x is own. found.no_new x (sym (ap (λ (y : Mark). y.fault) mark) ∙ is) own;
      grows = grown desk c first present next t attempts number s s' g turn;
      alone = λ only. absurd (never only);
      rests = λ only _. absurd (never only);
    }

-- ---- why a draft was refused

-- contents are gone
pub record IsGoneIn {K : Type 0} (called : Called) (s : Stored K) (d : Draft) (r : Refused) (why : Refusal) (s' : Stored K) : Type 0 where
  pub keys : List Key
  pub opened : ℕ
  pub is : why ≡ refusals.Expired keys opened
  pub expires : Expires called s d r s'

-- any other reason, as for a call without a draft
pub record IsOtherIn {K : Type 0} (called : Called) (s : Stored K) (d : Draft) (r : Refused) (why : Refusal) (s' : Stored K) : Type 0 where
  pub other : is_expired why ≡ false
  pub refuses : Refuses called d.caller s r why s' (closed s d)

pub by_draft : {K : Type 0} (called : Called) (s : Stored K) (d : Draft) (r : Refused) (why : Refusal) (s' : Stored K) → RefusesDraft called s d r why s' → IsGoneIn called s d r why s' ⊎ IsOtherIn called s d r why s'
by_draft called s d r (refusals.BadRequest x) s' h = inr (record { other = refl; refuses = h })
by_draft called s d r refusals.RefNotFound s' h = inr (record { other = refl; refuses = h })
by_draft called s d r refusals.RefExists s' h = inr (record { other = refl; refuses = h })
by_draft called s d r (refusals.ContentNotFound x) s' h = inr (record { other = refl; refuses = h })
by_draft called s d r (refusals.Conflicts x) s' h = inr (record { other = refl; refuses = h })
by_draft called s d r (refusals.Expired x y) s' h = inl (record { keys = x; opened = y; is = refl; expires = h })
by_draft called s d r (refusals.RetriesSpent x) s' h = inr (record { other = refl; refuses = h })
by_draft called s d r (refusals.SweepOpen x) s' h = inr (record { other = refl; refuses = h })
by_draft called s d r (refusals.Limit x y) s' h = inr (record { other = refl; refuses = h })
by_draft called s d r (refusals.Collision x y z) s' h = inr (record { other = refl; refuses = h })
by_draft called s d r refusals.Fault s' h = inr (record { other = refl; refuses = h })
by_draft called s d r (refusals.Down x) s' h = inr (record { other = refl; refuses = h })
by_draft called s d r refusals.NoMemory s' h = inr (record { other = refl; refuses = h })
by_draft called s d r refusals.NoRoute s' h = inr (record { other = refl; refuses = h })
by_draft called s d r (refusals.WrongMethod x) s' h = inr (record { other = refl; refuses = h })
by_draft called s d r refusals.TooLarge s' h = inr (record { other = refl; refuses = h })
by_draft called s d r refusals.Encoding s' h = inr (record { other = refl; refuses = h })
by_draft called s d r refusals.OldFormat s' h = inr (record { other = refl; refuses = h })

pub not_gone : {A : Type 0} (why : Refusal) (keys : List Key) (opened : ℕ) → is_expired why ≡ false → why ≡ refusals.Expired keys opened → A
not_gone why keys opened other gone = absurd (let wrong : false ≡ true = sym other ∙ ap is_expired gone in cc)
