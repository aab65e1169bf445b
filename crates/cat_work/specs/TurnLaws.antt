-- Laws of turns: what the desk's calls and the store's say of one, taken together, and what it leaves and finds open; and of logs that go on.
use Rattle.std.proofs.Common.{◌≡◌, ◌≤◌, ℕ, ◌+◌, List, length, length-append, reverse, Option, Some, None, Bool, true, false, cond, nat_eq, eq-eqb, refl, sym, ap, subst, ◌∙◌, arith}
use Rattle.std.proofs.lemmas.List.{reverse-reverse}
use Rattle.sha2.specs.Sha256.{sha256}
use Rattle.cat_checks.specs.Histories.{IsLegalFrom, begun, book_at}
use Rattle.cat_checks.specs.HistoryLaws.{begins_legal, book_more, books_later, place_is}
use Rattle.cat_core.specs.Stored as stored
use Rattle.cat_core.specs.Stored.{Stored, log_of, opened_of}
use Rattle.cat_desk.specs.Log.{Follows}
use Rattle.cat_desk.specs.Marks.{Linked}
use Rattle.cat_desk.specs.Pass.{DeskId, all_left_by, left_by, mark_of, number_of, seen}
use Rattle.cat_desk.specs.declared.pass.Pass.{Pass}
use Rattle.cat_model.specs.declared.log_entry.LogEntry.{LogEntry}
use Rattle.cat_model.specs.Book.{Book}
use Rattle.cat_model.specs.Drafts.{Open, OpenSweep, StaysOpen, nothing_open, open_of, sweep_of}
use Rattle.cat_model.specs.Later.{IsLater}
use Rattle.cat_model.specs.Mark.{Grows, Mark}
use Rattle.cat_model.specs.TurnLaws.{grows_on, nothing_stays}
use Rattle.cat_model.specs.Turns.{Opened}
use Rattle.cat_work.specs.Passes.{IsAlone, book_of, state_of}
use Rattle.cat_work.specs.Turns.{Turned}

-- ---- a turn

-- the state is the one that the log leads to from the desk's beginning
pub led_from : {K : Type 0} (desk : DeskId) (s : Stored K) → opened_of s ≡ desk.opened → (book_at (opened_of s) (log_of s)).state ≡ s.book.state → state_of desk (log_of s) ≡ s.book.state
led_from desk s opened led = ap (λ (o : Opened). (book_at o (log_of s)).state) (sym opened) ∙ led

pub turned : {K : Type 0} (desk : DeskId) (p during q : Pass) (s s' : Stored K) → number_of during ≡ number_of p → opened_of s ≡ desk.opened → opened_of s' ≡ opened_of s → Follows (number_of p) (seen p) (log_of s) → Linked (number_of p) (mark_of p) s.mark
    → StaysOpen (left_by p) (open_of (number_of p) (stored.open_of s)) → (IsAlone p → (log_of s ≡ seen p) × (s.mark ≡ mark_of p) × (s.left_open ≡ all_left_by p)) → (book_at (opened_of s) (log_of s)).state ≡ s.book.state → s.mark.draft ≡ s.book.draft → s.book.base ≡ (opened_of s).state
    → (book_at (opened_of s') (log_of s')).state ≡ s'.book.state → s'.mark.draft ≡ s'.book.draft → s'.book.base ≡ (opened_of s').state → seen q ≡ log_of s' → mark_of q ≡ s'.mark → Grows s.mark s'.mark → (left_by q ≡ open_of (number_of during) (stored.open_of s')) × (all_left_by q ≡ s'.left_open) → Turned desk p q s s'
turned desk p during q s s' number opened same follows linked own alone led draft base led_on draft_on base_on seen_is mark_is grew left = record {
  opened = opened;
  follows = follows;
  linked = linked;
  own = own;
  alone = alone;
  led = led_from desk s opened led;
  draft = draft;
  base = base ∙ ap (λ (o : Opened). o.state) opened;
  led_on = led_from desk s' (same ∙ opened) led_on;
  draft_on = draft_on;
  base_on = base_on ∙ ap (λ (o : Opened). o.state) (same ∙ opened);
  seen_is = seen_is;
  mark_is = mark_is;
  grew = grew;
  left = left.0 ∙ ap (λ (n : ℕ). open_of n (stored.open_of s')) number;
  all_left = left.1;
}

-- the store as a turn leaves it, against the pass after it
pub record Left {K : Type 0} (desk : DeskId) (next : Pass) (s : Stored K) : Type 0 where
  pub seen_is : seen next ≡ log_of s
  pub mark_is : mark_of next ≡ s.mark
  pub state_is : state_of desk (seen next) ≡ s.book.state
  pub book_is : book_of desk next ≡ s.book

pub left_by_turn : {K : Type 0} (desk : DeskId) (p q : Pass) (s s' : Stored K) → Turned desk p q s s' → Left desk q s'
left_by_turn desk p q s s' t =
    let state : state_of desk (seen q) ≡ s'.book.state = ap (state_of desk) t.seen_is ∙ t.led_on in
    let draft : (mark_of q).draft ≡ s'.book.draft = ap (λ (m : Mark). m.draft) t.mark_is ∙ t.draft_on in
    let log : reverse (seen q) ≡ s'.book.log = ap (λ (l : List LogEntry). reverse l) t.seen_is ∙ reverse-reverse s'.book.log in
    record { seen_is = t.seen_is; mark_is = t.mark_is; state_is = state; book_is = λ i. record { state = state i; draft = draft i; log = log i; base = sym t.base_on i } }

-- the mark that the pass holds grew, between its turns and in this one
pub grew_in : {K : Type 0} (desk : DeskId) (p q : Pass) (s s' : Stored K) → Turned desk p q s s' → Grows (mark_of p) (mark_of q)
grew_in desk p q s s' t = subst (Grows (mark_of p)) (sym t.mark_is) (grows_on (mark_of p) s.mark s'.mark t.linked.grows t.grew)

-- the book that a pass finds alone is its own
pub book_found : {K : Type 0} (desk : DeskId) (p q : Pass) (s s' : Stored K) → Turned desk p q s s' → IsAlone p → s.book ≡ book_of desk p
book_found desk p q s s' t alone =
    let there = t.alone alone in
    let state : s.book.state ≡ state_of desk (seen p) = sym t.led ∙ ap (state_of desk) there.0 in
    let draft : s.book.draft ≡ (mark_of p).draft = sym t.draft ∙ ap (λ (m : Mark). m.draft) there.1 in
    let log : s.book.log ≡ reverse (seen p) = sym (reverse-reverse s.book.log) ∙ ap (λ (l : List LogEntry). reverse l) there.0 in
    λ i. record { state = state i; draft = draft i; log = log i; base = t.base i }

-- ---- what is open of others

-- none of the caller's is found where it left none
pub none_found : {K : Type 0} (n : ℕ) (p : Pass) (s : Stored K) → left_by p ≡ nothing_open → StaysOpen (left_by p) (open_of n (stored.open_of s)) → open_of n (stored.open_of s) ≡ nothing_open
none_found n p s left stays = nothing_stays (open_of n (stored.open_of s)) (subst (λ (o : Open). StaysOpen o (open_of n (stored.open_of s))) left stays)

-- an open sweep of which the caller has none is another's
others_by : (n : ℕ) (x : OpenSweep) (t : Bool) → nat_eq x.opening.caller n ≡ t → ◌≡◌ {A = Option OpenSweep} (cond t (Some x) None) None → x.opening.caller ≡ n → ⊥
others_by n x true e none same = cc
others_by n x false e none same = let wrong : nat_eq x.opening.caller n ≡ true = eq-eqb x.opening.caller n same in (let no : false ≡ true = sym e ∙ wrong in cc)

pub others : (n : ℕ) (o : Open) (x : OpenSweep) → open_of n o ≡ nothing_open → o.sweep ≡ Some x → x.opening.caller ≡ n → ⊥
others n o x none is = others_by n x (nat_eq x.opening.caller n) refl (ap (sweep_of n) (sym is) ∙ ap (λ (y : Open). y.sweep) none)

-- ---- logs that go on

pub follows_length : (n : ℕ) (a b : List LogEntry) → Follows n a b → length a ≤ length b
follows_length n a b f = let e : length b ≡ length a + length f.0 = ap length f.1 ∙ length-append a f.0 in omega arith

-- nothing is taken away from the state of a log that goes on
pub goes_later : (desk : DeskId) (n : ℕ) (a b : List LogEntry) → Follows n a b → IsLater (state_of desk a) (state_of desk b)
goes_later desk n a b f = subst (λ (x : Book). IsLater (state_of desk a) x.state) (sym (ap (book_at desk.opened) f.1 ∙ book_more sha256 (begun desk.opened) a f.0)) (books_later sha256 (book_at desk.opened a) f.0)

pub place_at : (desk : DeskId) (log : List LogEntry) → IsLegalFrom desk.opened log → (state_of desk log).place ≡ desk.opened.state.place + length log
place_at desk log is = place_is sha256 (begun desk.opened) log is.legal

pub legal_before : (desk : DeskId) (n : ℕ) (a b : List LogEntry) → Follows n a b → IsLegalFrom desk.opened b → IsLegalFrom desk.opened a
legal_before desk n a b f is = begins_legal desk.opened a f.0 (subst (IsLegalFrom desk.opened) f.1 is)
