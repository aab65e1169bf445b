-- Calls for which no draft was opened.
use Rattle.std.proofs.Common.{◌≡◌, ◌<◌, ◌≤◌, ◌⊎◌, inl, inr, ℕ, ◌+◌, Option, Some, None, Result, Ok, Err, Bool, true, false, refl, sym, ap, subst, ◌∙◌, arith, le_refl}
use Rattle.sha2.specs.Sha256.{sha256}
use Rattle.cat_core.specs.Drafts.{NotOpened, may_open}
use Rattle.cat_core.specs.Stored.{IsUp, Stored}
use Rattle.cat_desk.specs.Log.{Follows}
use Rattle.cat_desk.specs.LogLaws.{follows_itself}
use Rattle.cat_desk.specs.Pass.{DeskId, all_left_by, known, left_by, mark_of, number_of, seen, turn_of}
use Rattle.cat_desk.specs.declared.pass.Pass.{Pass}
use Rattle.cat_model.specs.declared.command.Command.{Command}
use Rattle.cat_model.specs.declared.refusal.Refusal.{Refusal}
use Rattle.cat_model.specs.declared.refusal.Refusal.TheVariants as refusals
use Rattle.cat_model.specs.declared.refusal.Refused.{Refused}
use Rattle.cat_model.specs.declared.reply.Told.{Told}
use Rattle.cat_model.specs.Book.{Book, IsCalled, IsGivenUp, after_call, call_on}
use Rattle.cat_model.specs.Calls.{Called, attempt, in_next, needs_draft, tried, turn_on, unchanged_by}
use Rattle.cat_model.specs.Drafts.{Open, StaysOpen, nothing_open, open_of}
use Rattle.cat_model.specs.Mark.{FailedAppend, Mark}
use Rattle.cat_model.specs.Refusing.{◌>>=◌, Tested}
use Rattle.cat_model.specs.State.{State}
use Rattle.cat_model.specs.Step.{opening, opens_draft}
use Rattle.cat_model.specs.TurnLaws.{grows_self, nothing_stays}
use Rattle.cat_model.specs.Turns.{place_after}
use Rattle.cat_core.specs.Stored as stored
use Rattle.cat_work.specs.Answers.{Causes, IsAt, IsDraftAbove, IsRuledOut, KnowsAt, Knows, RefusesAlone, rests_in}
use Rattle.cat_work.specs.Passes.{IsAlone, book_of, state_of}
use Rattle.cat_work.specs.Turns.{BeginsNone, Comes, Turned, out_of_memory}
use Rattle.cat_work.proofs.Openings as openings
use Rattle.cat_work.proofs.Openings.{HasNone, is_early, may_not}
use Rattle.cat_work.proofs.Steps.{step_first}
use Rattle.cat_work.proofs.Telling.{Found, Left, at_state, book_found, comes_at, faults_same, follows_same, grew_in, left_by_turn, state_same}

-- what the first turn of a call finds
pub found_first : {K : Type 0} (desk : DeskId) (p q : Pass) (s s' : Stored K) → Turned desk p q s s' → Found desk (number_of p) p s
found_first desk p q s s' turn = record { follows = turn.follows; led = turn.led; no_new = λ x is own. turn.linked.own_fault x is own; kept = λ x is. turn.linked.grows.fault x is }

-- where nothing was open, and the turn left what is open, nothing is
pub none_still : {K : Type 0} (desk : DeskId) (p q : Pass) (s s' : Stored K) → left_by p ≡ nothing_open → Turned desk p q s s' → stored.open_of s' ≡ stored.open_of s → left_by q ≡ nothing_open
none_still desk p q s s' none turn same =
    turn.left ∙ (ap (λ (o : Open). open_of (number_of p) o) same ∙ nothing_stays (open_of (number_of p) (stored.open_of s)) (subst (λ (o : Open). StaysOpen o (open_of (number_of p) (stored.open_of s))) none turn.own))

-- on the only pass, such a turn leaves open all that was
pub same_open : {K : Type 0} (desk : DeskId) (p q : Pass) (s s' : Stored K) → Turned desk p q s s' → stored.open_of s' ≡ stored.open_of s → IsAlone p → all_left_by q ≡ all_left_by p
same_open desk p q s s' turn same only = turn.all_left ∙ (same ∙ (turn.alone only).2)

-- ---- by the tests before a draft

early_cause : (desk : DeskId) (n moment attempts k : ℕ) (c : Command) (p q : Pass) (place : Option ℕ) (why : Refusal) → is_early why ≡ true → IsRuledOut desk c moment (mark_of p) (mark_of q) (seen q) place why → Causes desk n c moment attempts k (mark_of p) (mark_of q) (seen q) place why
early_cause desk n moment attempts k c p q place (refusals.BadRequest x) early is = is
early_cause desk n moment attempts k c p q place refusals.RefNotFound early is = is
early_cause desk n moment attempts k c p q place refusals.RefExists early is = absurd cc
early_cause desk n moment attempts k c p q place (refusals.ContentNotFound x) early is = absurd cc
early_cause desk n moment attempts k c p q place (refusals.Conflicts x) early is = absurd cc
early_cause desk n moment attempts k c p q place (refusals.Expired x y) early is = absurd cc
early_cause desk n moment attempts k c p q place (refusals.RetriesSpent x) early is = absurd cc
early_cause desk n moment attempts k c p q place (refusals.SweepOpen x) early is = absurd cc
early_cause desk n moment attempts k c p q place (refusals.Limit x y) early is = absurd cc
early_cause desk n moment attempts k c p q place (refusals.Collision x y z) early is = absurd cc
early_cause desk n moment attempts k c p q place refusals.Fault early is = absurd cc
early_cause desk n moment attempts k c p q place (refusals.Down x) early is = absurd cc
early_cause desk n moment attempts k c p q place refusals.NoMemory early is = absurd cc
early_cause desk n moment attempts k c p q place refusals.NoRoute early is = absurd cc
early_cause desk n moment attempts k c p q place (refusals.WrongMethod x) early is = absurd cc
early_cause desk n moment attempts k c p q place refusals.TooLarge early is = absurd cc
early_cause desk n moment attempts k c p q place refusals.Encoding early is = absurd cc
early_cause desk n moment attempts k c p q place refusals.OldFormat early is = absurd cc

early_alone : (n : ℕ) (called : Called) (b b' : Book) (f f' : Option FailedAppend) (r : Refused) (why : Refusal) → is_early why ≡ true → IsCalled called b b' (Err r) → f ≡ None → f' ≡ None → RefusesAlone n called b b' f f' r why
early_alone n called b b' f f' r (refusals.BadRequest x) early is up down = (is, up, down)
early_alone n called b b' f f' r refusals.RefNotFound early is up down = (is, up, down)
early_alone n called b b' f f' r refusals.RefExists early is up down = absurd cc
early_alone n called b b' f f' r (refusals.ContentNotFound x) early is up down = absurd cc
early_alone n called b b' f f' r (refusals.Conflicts x) early is up down = absurd cc
early_alone n called b b' f f' r (refusals.Expired x y) early is up down = absurd cc
early_alone n called b b' f f' r (refusals.RetriesSpent x) early is up down = absurd cc
early_alone n called b b' f f' r (refusals.SweepOpen x) early is up down = absurd cc
early_alone n called b b' f f' r (refusals.Limit x y) early is up down = absurd cc
early_alone n called b b' f f' r (refusals.Collision x y z) early is up down = absurd cc
early_alone n called b b' f f' r refusals.Fault early is up down = absurd cc
early_alone n called b b' f f' r (refusals.Down x) early is up down = absurd cc
early_alone n called b b' f f' r refusals.NoMemory early is up down = absurd cc
early_alone n called b b' f f' r refusals.NoRoute early is up down = absurd cc
early_alone n called b b' f f' r (refusals.WrongMethod x) early is up down = absurd cc
early_alone n called b b' f f' r refusals.TooLarge early is up down = absurd cc
early_alone n called b b' f f' r refusals.Encoding early is up down = absurd cc
early_alone n called b b' f f' r refusals.OldFormat early is up down = absurd cc

-- ---- the answer

refused_passes : {A : Type 0} (t : Tested) (why : Refusal) → t ≡ Err why → t ≡ Ok tt → A
refused_passes t why e o = absurd (let wrong : Err why ≡ Ok tt = sym e ∙ o in cc)

next_above : (last : ℕ) → last < last + 1
next_above last = omega arith

by_reason : {K : Type 0} (desk : DeskId) (moment attempts k : ℕ) (c : Command) (p q : Pass) (s s' : Stored K) (r : Refused) (why : Refusal) → opens_draft c ≡ true → Turned desk p q s s' → s' ≡ s → IsUp s → r ≡ record { place = Some s.book.state.place; why = why } → openings.Refuses s.book.state c why ⊎ HasNone s.book c why
    → Follows (number_of p) (seen p) (seen q) × Causes desk (number_of p) c moment attempts k (mark_of p) (mark_of q) (seen q) r.place why
by_reason {K} desk moment attempts k c p q s s' r why opens turn same up is (inl x) =
    let found : Found desk (number_of p) p s = found_first desk p q s s' turn in
    let left : Left desk q s' = left_by_turn desk p q s s' turn in
    let book : s'.book ≡ s.book = ap (λ (y : Stored K). y.book) same in
    let state = state_same desk q s s' left book in (
      follows_same desk (number_of p) p q s s' found left book,
      early_cause desk (number_of p) moment attempts k c p q r.place why x.early record {
        at = at_state desk q s.book.state r.place state (ap (λ (y : Refused). y.place) is);
        up = ap (λ (m : Mark). m.fault) left.mark_is ∙ (ap (λ (y : Stored K). y.mark.fault) same ∙ up);
        number = λ passes. refused_passes (opening sha256 s.book.state c) why x.is (ap (λ (y : State). opening sha256 y c) (sym state) ∙ passes);
        comes = record {
          draft = (mark_of p).draft + 1;
          above = subst (λ (b : Bool). IsDraftAbove (mark_of p).draft b ((mark_of p).draft + 1)) (sym opens) (next_above (mark_of p).draft);
          is = comes_at ((mark_of p).draft + 1) (state_of desk (seen q)) s.book.state c moment (Err why) state (0, step_first s.book.state c (record { draft = (mark_of p).draft + 1; opened = 0; moment = moment }) why x.is);
        };
      },
    )
by_reason {K} desk moment attempts k c p q s s' r why opens turn same up is (inr x) =
    let found : Found desk (number_of p) p s = found_first desk p q s s' turn in
    let left : Left desk q s' = left_by_turn desk p q s s' turn in
    let book : s'.book ≡ s.book = ap (λ (y : Stored K). y.book) same in
    let mark : mark_of q ≡ s.mark = left.mark_is ∙ ap (λ (y : Stored K). y.mark) same in
    let state = state_same desk q s s' left book in
    let limit : ℕ = s.book.state.limits.drafts in
    let draft : s.book.draft ≡ (mark_of q).draft = sym (ap (λ (m : Mark). m.draft) mark ∙ turn.draft) in
    let at : IsAt desk (seen q) r.place = at_state desk q s.book.state r.place state (ap (λ (y : Refused). y.place) is) in (
      follows_same desk (number_of p) p q s s' found left book,
      subst (λ (w : Refusal). Causes desk (number_of p) c moment attempts k (mark_of p) (mark_of q) (seen q) r.place w) (sym x.is) (
        at,
        record {
          up = ap (λ (m : Mark). m.fault) mark ∙ up;
          opens = opens;
          passes = ap (λ (y : State). opening sha256 y c) state ∙ x.passes;
          limit = ap (λ (y : State). y.limits.drafts) (sym state);
          taken = subst (λ (n : ℕ). limit ≤ n) draft x.taken;
          others = λ own. turn.linked.own_draft (ap (λ (m : Mark). m.drafter) (sym mark) ∙ own) ∙ ap (λ (m : Mark). m.draft) (sym mark);
        },
      ),
    )

answers_none : {K : Type 0} (desk : DeskId) (moment attempts k : ℕ) (c : Command) (p q : Pass) (s s' : Stored K) (r : Refused) (why : Refusal) → opens_draft c ≡ true → Turned desk p q s s' → s' ≡ s → r.why ≡ why → NotOpened s c r why
    → Follows (number_of p) (seen p) (seen q) × Causes desk (number_of p) c moment attempts k (mark_of p) (mark_of q) (seen q) r.place why
answers_none {K} desk moment attempts k c p q s s' r refusals.NoMemory opens turn same reason h =
    let found : Found desk (number_of p) p s = found_first desk p q s s' turn in
    let left : Left desk q s' = left_by_turn desk p q s s' turn in
    (follows_same desk (number_of p) p q s s' found left (ap (λ (y : Stored K). y.book) same), (h, faults_same desk (number_of p) p q s s' found left (ap (λ (y : Stored K). y.mark.fault) same)))
answers_none {K} desk moment attempts k c p q s s' r (refusals.Down count) opens turn same reason h =
    let found : Found desk (number_of p) p s = found_first desk p q s s' turn in
    let left : Left desk q s' = left_by_turn desk p q s s' turn in
    let book : s'.book ≡ s.book = ap (λ (y : Stored K). y.book) same in
    let is : (mark_of q).fault ≡ Some h.1.0 = ap (λ (m : Mark). m.fault) left.mark_is ∙ (ap (λ (y : Stored K). y.mark.fault) same ∙ h.1.1) in (
      follows_same desk (number_of p) p q s s' found left book,
      (at_state desk q s.book.state r.place (state_same desk q s s' left book) h.0, record { fault = h.1.0; is = is; count_is = h.1.2; known = λ own. found.no_new h.1.0 h.1.1 own }),
    )
answers_none desk moment attempts k c p q s s' r (refusals.BadRequest x) opens turn same reason h = by_reason desk moment attempts k c p q s s' r (refusals.BadRequest x) opens turn same h.0 h.1 (may_not s.book c (refusals.BadRequest x) h.2)
answers_none desk moment attempts k c p q s s' r refusals.RefNotFound opens turn same reason h = by_reason desk moment attempts k c p q s s' r refusals.RefNotFound opens turn same h.0 h.1 (may_not s.book c refusals.RefNotFound h.2)
answers_none desk moment attempts k c p q s s' r refusals.RefExists opens turn same reason h = by_reason desk moment attempts k c p q s s' r refusals.RefExists opens turn same h.0 h.1 (may_not s.book c refusals.RefExists h.2)
answers_none desk moment attempts k c p q s s' r (refusals.ContentNotFound x) opens turn same reason h = by_reason desk moment attempts k c p q s s' r (refusals.ContentNotFound x) opens turn same h.0 h.1 (may_not s.book c (refusals.ContentNotFound x) h.2)
answers_none desk moment attempts k c p q s s' r (refusals.Conflicts x) opens turn same reason h = by_reason desk moment attempts k c p q s s' r (refusals.Conflicts x) opens turn same h.0 h.1 (may_not s.book c (refusals.Conflicts x) h.2)
answers_none desk moment attempts k c p q s s' r (refusals.Expired x y) opens turn same reason h = by_reason desk moment attempts k c p q s s' r (refusals.Expired x y) opens turn same h.0 h.1 (may_not s.book c (refusals.Expired x y) h.2)
answers_none desk moment attempts k c p q s s' r (refusals.RetriesSpent x) opens turn same reason h = by_reason desk moment attempts k c p q s s' r (refusals.RetriesSpent x) opens turn same h.0 h.1 (may_not s.book c (refusals.RetriesSpent x) h.2)
answers_none desk moment attempts k c p q s s' r (refusals.SweepOpen x) opens turn same reason h = by_reason desk moment attempts k c p q s s' r (refusals.SweepOpen x) opens turn same h.0 h.1 (may_not s.book c (refusals.SweepOpen x) h.2)
answers_none desk moment attempts k c p q s s' r (refusals.Limit x y) opens turn same reason h = by_reason desk moment attempts k c p q s s' r (refusals.Limit x y) opens turn same h.0 h.1 (may_not s.book c (refusals.Limit x y) h.2)
answers_none desk moment attempts k c p q s s' r (refusals.Collision x y z) opens turn same reason h = by_reason desk moment attempts k c p q s s' r (refusals.Collision x y z) opens turn same h.0 h.1 (may_not s.book c (refusals.Collision x y z) h.2)
answers_none desk moment attempts k c p q s s' r refusals.Fault opens turn same reason h = by_reason desk moment attempts k c p q s s' r refusals.Fault opens turn same h.0 h.1 (may_not s.book c refusals.Fault h.2)
answers_none desk moment attempts k c p q s s' r refusals.NoRoute opens turn same reason h = by_reason desk moment attempts k c p q s s' r refusals.NoRoute opens turn same h.0 h.1 (may_not s.book c refusals.NoRoute h.2)
answers_none desk moment attempts k c p q s s' r (refusals.WrongMethod x) opens turn same reason h = by_reason desk moment attempts k c p q s s' r (refusals.WrongMethod x) opens turn same h.0 h.1 (may_not s.book c (refusals.WrongMethod x) h.2)
answers_none desk moment attempts k c p q s s' r refusals.TooLarge opens turn same reason h = by_reason desk moment attempts k c p q s s' r refusals.TooLarge opens turn same h.0 h.1 (may_not s.book c refusals.TooLarge h.2)
answers_none desk moment attempts k c p q s s' r refusals.Encoding opens turn same reason h = by_reason desk moment attempts k c p q s s' r refusals.Encoding opens turn same h.0 h.1 (may_not s.book c refusals.Encoding h.2)
answers_none desk moment attempts k c p q s s' r refusals.OldFormat opens turn same reason h = by_reason desk moment attempts k c p q s s' r refusals.OldFormat opens turn same h.0 h.1 (may_not s.book c refusals.OldFormat h.2)

-- ---- on the only pass

call_refused : (n moment : ℕ) (b : Book) (c : Command) (why : Refusal) → opens_draft c ≡ true → may_open b c ≡ Err why → call_on sha256 n b c moment ≡ unchanged_by b.state b.draft (Err why)
unfolding attempt
call_refused n moment b c why opens e =
    ap (tried sha256 n b.state b.draft c (turn_on b.state b.draft (in_next n moment) (opens_draft c))) (ap (λ (o : Bool). opening sha256 b.state c >>= λ _. needs_draft b.state b.draft o) opens ∙ e)

alone_by : (n : ℕ) (called : Called) (b b' : Book) (f f' : Option FailedAppend) (c : Command) (state : State) (book : Book) (r : Refused) (why : Refusal) → IsCalled called b b' (Err r) → f ≡ None → f' ≡ None → openings.Refuses state c why ⊎ HasNone book c why → RefusesAlone n called b b' f f' r why
alone_by n called b b' f f' c state book r why is up down (inl x) = early_alone n called b b' f f' r why x.early is up down
alone_by n called b b' f f' c state book r why is up down (inr x) = subst (λ (w : Refusal). RefusesAlone n called b b' f f' r w) (sym x.is) (is, up, down)

refused_alone : {K : Type 0} (desk : DeskId) (moment : ℕ) (c : Command) (p q : Pass) (s s' : Stored K) (r : Refused) (why : Refusal) → opens_draft c ≡ true → Turned desk p q s s' → s' ≡ s → IsAlone p → s.mark.fault ≡ None → r ≡ record { place = Some s.book.state.place; why = why } → may_open s.book c ≡ Err why
    → RefusesAlone (number_of p) (call_on sha256 (number_of p) (book_of desk p) c moment) (book_of desk p) (book_of desk q) (mark_of p).fault (mark_of q).fault r why
refused_alone {K} desk moment c p q s s' r why opens turn same only up is tests =
    let b : Book = book_of desk p in
    let left : Left desk q s' = left_by_turn desk p q s s' turn in
    let found : s.book ≡ b = book_found desk p q s s' turn only in
    let book : book_of desk q ≡ b = left.book_is ∙ (ap (λ (y : Stored K). y.book) same ∙ found) in
    let called : call_on sha256 (number_of p) b c moment ≡ unchanged_by b.state b.draft (Err why) = call_refused (number_of p) moment b c why opens (ap (λ (x : Book). may_open x c) (sym found) ∙ tests) in
    let told : record { place = Some b.state.place; why = why } ≡ r = ap (λ (x : Book). record { place = Some x.state.place; why = why }) (sym found) ∙ sym is in
    let said : (call_on sha256 (number_of p) b c moment).said ≡ Err r = ap (λ (x : Called). x.said) called ∙ ap (λ (x : Refused). Err x) told in
    let after : book_of desk q ≡ after_call b (call_on sha256 (number_of p) b c moment) = book ∙ ap (after_call b) (sym called) in
    alone_by (number_of p) (call_on sha256 (number_of p) b c moment) b (book_of desk q) (mark_of p).fault (mark_of q).fault c s.book.state s.book r why (record { said = said; book = after })
    (ap (λ (m : Mark). m.fault) (sym (turn.alone only).1) ∙ up) (ap (λ (m : Mark). m.fault) left.mark_is ∙ (ap (λ (y : Stored K). y.mark.fault) same ∙ up)) (may_not s.book c why tests)

one_more : (n : ℕ) → n ≤ n + 1
one_more n = omega arith

unchanged_given_up : (b b' : Book) (r : Refused) → b' ≡ b → r.place ≡ None → IsGivenUp b b' r
unchanged_given_up b b' r same none = subst (λ (x : Book). IsGivenUp b x r) (sym same) (record { place = none; state = refl; log = refl; draft_kept = le_refl b.draft; draft_taken = one_more b.draft })

alone_none : {K : Type 0} (desk : DeskId) (moment : ℕ) (c : Command) (p q : Pass) (s s' : Stored K) (r : Refused) (why : Refusal) → opens_draft c ≡ true → Turned desk p q s s' → s' ≡ s → r.why ≡ why → NotOpened s c r why → IsAlone p
    → RefusesAlone (number_of p) (call_on sha256 (number_of p) (book_of desk p) c moment) (book_of desk p) (book_of desk q) (mark_of p).fault (mark_of q).fault r why
alone_none {K} desk moment c p q s s' r refusals.NoMemory opens turn same reason h only =
    let left : Left desk q s' = left_by_turn desk p q s s' turn in
    let book : book_of desk q ≡ book_of desk p = left.book_is ∙ (ap (λ (y : Stored K). y.book) same ∙ book_found desk p q s s' turn only) in
    (unchanged_given_up (book_of desk p) (book_of desk q) r book h, ap (λ (m : Mark). m.fault) (left.mark_is ∙ (ap (λ (y : Stored K). y.mark) same ∙ (turn.alone only).1)))
alone_none {K} desk moment c p q s s' r (refusals.Down count) opens turn same reason h only =
    let left : Left desk q s' = left_by_turn desk p q s s' turn in
    let found : s.book ≡ book_of desk p = book_found desk p q s s' turn only in
    record {
      place = h.0 ∙ ap (λ (x : Book). Some x.state.place) found;
      book = left.book_is ∙ (ap (λ (y : Stored K). y.book) same ∙ found);
      fault = h.1.0;
      was = ap (λ (m : Mark). m.fault) (sym (turn.alone only).1) ∙ h.1.1;
      is = ap (λ (m : Mark). m.fault) left.mark_is ∙ (ap (λ (y : Stored K). y.mark.fault) same ∙ h.1.1);
      count_is = h.1.2;
    }
alone_none desk moment c p q s s' r (refusals.BadRequest x) opens turn same reason h only = refused_alone desk moment c p q s s' r (refusals.BadRequest x) opens turn same only h.0 h.1 h.2
alone_none desk moment c p q s s' r refusals.RefNotFound opens turn same reason h only = refused_alone desk moment c p q s s' r refusals.RefNotFound opens turn same only h.0 h.1 h.2
alone_none desk moment c p q s s' r refusals.RefExists opens turn same reason h only = refused_alone desk moment c p q s s' r refusals.RefExists opens turn same only h.0 h.1 h.2
alone_none desk moment c p q s s' r (refusals.ContentNotFound x) opens turn same reason h only = refused_alone desk moment c p q s s' r (refusals.ContentNotFound x) opens turn same only h.0 h.1 h.2
alone_none desk moment c p q s s' r (refusals.Conflicts x) opens turn same reason h only = refused_alone desk moment c p q s s' r (refusals.Conflicts x) opens turn same only h.0 h.1 h.2
alone_none desk moment c p q s s' r (refusals.Expired x y) opens turn same reason h only = refused_alone desk moment c p q s s' r (refusals.Expired x y) opens turn same only h.0 h.1 h.2
alone_none desk moment c p q s s' r (refusals.RetriesSpent x) opens turn same reason h only = refused_alone desk moment c p q s s' r (refusals.RetriesSpent x) opens turn same only h.0 h.1 h.2
alone_none desk moment c p q s s' r (refusals.SweepOpen x) opens turn same reason h only = refused_alone desk moment c p q s s' r (refusals.SweepOpen x) opens turn same only h.0 h.1 h.2
alone_none desk moment c p q s s' r (refusals.Limit x y) opens turn same reason h only = refused_alone desk moment c p q s s' r (refusals.Limit x y) opens turn same only h.0 h.1 h.2
alone_none desk moment c p q s s' r (refusals.Collision x y z) opens turn same reason h only = refused_alone desk moment c p q s s' r (refusals.Collision x y z) opens turn same only h.0 h.1 h.2
alone_none desk moment c p q s s' r refusals.Fault opens turn same reason h only = refused_alone desk moment c p q s s' r refusals.Fault opens turn same only h.0 h.1 h.2
alone_none desk moment c p q s s' r refusals.NoRoute opens turn same reason h only = refused_alone desk moment c p q s s' r refusals.NoRoute opens turn same only h.0 h.1 h.2
alone_none desk moment c p q s s' r (refusals.WrongMethod x) opens turn same reason h only = refused_alone desk moment c p q s s' r (refusals.WrongMethod x) opens turn same only h.0 h.1 h.2
alone_none desk moment c p q s s' r refusals.TooLarge opens turn same reason h only = refused_alone desk moment c p q s s' r refusals.TooLarge opens turn same only h.0 h.1 h.2
alone_none desk moment c p q s s' r refusals.Encoding opens turn same reason h only = refused_alone desk moment c p q s s' r refusals.Encoding opens turn same only h.0 h.1 h.2
alone_none desk moment c p q s s' r refusals.OldFormat opens turn same reason h only = refused_alone desk moment c p q s s' r refusals.OldFormat opens turn same only h.0 h.1 h.2

-- ---- no draft

no_turn : (desk : DeskId) (c : Command) (p : Pass) (attempts moment : ℕ) → left_by p ≡ nothing_open → Comes desk c p p attempts moment (Err out_of_memory)
no_turn desk c p attempts moment none = record {
  none = none;
  grows = grows_self (mark_of p);
  answers = (follows_itself (number_of p) (seen p), (refl, λ x is own. is));
  alone = λ only. (unchanged_given_up (book_of desk p) (book_of desk p) out_of_memory refl refl, refl);
  rests = λ only nothing. nothing;
  undrafted = λ _ last. refl;
  unswept = λ _. refl;
}

pub begins_none : (K : Type 0) (desk : DeskId) (c : Command) (p q : Pass) (attempts moment : ℕ) (r : Refused) → opens_draft c ≡ true → left_by p ≡ nothing_open → BeginsNone K desk c p q r → Comes desk c p q attempts moment (Err r)
begins_none K desk c p q attempts moment r opens none (inl h) = subst (λ (z : Pass × Refused). Comes desk c p z.0 attempts moment (Err z.1)) (λ i. (sym h.0 i, sym h.1 i)) (no_turn desk c p attempts moment none)
begins_none K desk c p q attempts moment r opens none (inr h) = record {
  none = none_still desk p q h.0 h.1 none h.2 (ap (λ (y : Stored K). stored.open_of y) h.3);
  grows = grew_in desk p q h.0 h.1 h.2;
  answers = answers_none desk moment attempts (known p) c p q h.0 h.1 r r.why opens h.2 h.3 refl h.4;
  alone = λ only. alone_none desk moment c p q h.0 h.1 r r.why opens h.2 h.3 refl h.4 only;
  rests = λ only nothing. same_open desk p q h.0 h.1 h.2 (ap (λ (y : Stored K). stored.open_of y) h.3) only ∙ nothing;
  undrafted = λ no. absurd (let wrong : true ≡ false = sym opens ∙ no in cc);
  unswept = λ only. ap (λ (m : Mark). rests_in m) (h.2.mark_is ∙ (ap (λ (y : Stored K). y.mark) h.3 ∙ (h.2.alone only).1));
}

-- ---- what is known

known_at : (desk : DeskId) (p q : Pass) (place : Option ℕ) → known p ≤ known q → known q ≡ place_after desk.opened (seen q) → turn_of p < turn_of q → KnowsAt desk p q place
known_at desk p q None le is turn = le
known_at desk p q (Some place) le is turn = (subst (λ (n : ℕ). known p ≤ n) is le, is, turn)

pub knows_all : (desk : DeskId) (p q : Pass) (r : Result Told Refused) → known p ≤ known q → known q ≡ place_after desk.opened (seen q) → turn_of p < turn_of q → Knows desk p q r
knows_all desk p q (Ok told) le is turn = (subst (λ (n : ℕ). known p ≤ n) is le, is, turn)
knows_all desk p q (Err e) le is turn = known_at desk p q e.place le is turn

pub known_on : (a b c : ℕ) (size : ℕ) → a ≤ b → b ≤ size → c ≡ size → a ≤ c
known_on a b c size p q e = omega arith

pub turned_on : (a b c : ℕ) → a < b → b < c → a < c
turned_on a b c p q = omega arith
