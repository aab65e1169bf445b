-- Collections for which no sweep was opened.
use Rattle.std.proofs.Common.{◌≡◌, ℕ, Option, Some, None, Err, refl, sym, ap, subst, ◌∙◌, arith}
use Rattle.sha2.specs.Sha256.{sha256}
use Rattle.cat_core.specs.Stored as stored
use Rattle.cat_core.specs.Stored.{IsMarked, Stored, log_of}
use Rattle.cat_core.specs.Sweeps.{NotSwept}
use Rattle.cat_desk.specs.Log.{Follows}
use Rattle.cat_desk.specs.LogLaws.{follows_itself}
use Rattle.cat_desk.specs.Pass.{DeskId, all_left_by, known, left_by, mark_of, number_of, seen}
use Rattle.cat_desk.specs.declared.pass.Pass.{Pass}
use Rattle.cat_model.specs.declared.cutoff.Resolved.{Resolved}
use Rattle.cat_model.specs.declared.refusal.Refusal.{Refusal}
use Rattle.cat_model.specs.declared.refusal.Refusal.TheVariants as refusals
use Rattle.cat_model.specs.declared.refusal.Refused.{Refused}
use Rattle.cat_model.specs.Book.{Book, IsGivenUp}
use Rattle.cat_model.specs.Drafts.{Open, OpenSweep, no_names, nothing_open, open_of}
use Rattle.cat_model.specs.Past.{swept_on}
use Rattle.cat_model.specs.Mark.{Mark}
use Rattle.cat_model.specs.State.{State}
use Rattle.cat_model.specs.TurnLaws.{grows_self}
use Rattle.cat_work.specs.Answers.{IsAt, NoFaultIsNew, RefusesAlone, journal_in}
use Rattle.cat_work.specs.MarkLaws.{no_draft_still}
use Rattle.cat_work.specs.Passes.{IsAlone, book_of}
use Rattle.cat_work.specs.TurnLaws.{Left, book_found, grew_in, left_by_turn, none_found, others}
use Rattle.cat_work.specs.Turns.{Turned}
use Rattle.cat_collect.specs.Answers.{Causes}
use Rattle.cat_collect.specs.Turns.{Comes, OpensNone, out_of_memory}
use Rattle.cat_collect.proofs.Goings.{Found, found_first}

given_up : (b b' : Book) (r : Refused) → b' ≡ b → r.place ≡ None → IsGivenUp b b' r
given_up b b' r same none =
    let draft : b'.draft ≡ b.draft = ap (λ (x : Book). x.draft) same in
    record { place = none; state = ap (λ (x : Book). x.state) same; log = ap (λ (x : Book). x.log) same; draft_kept = omega (arith, draft); draft_taken = omega (arith, draft) }

marked_there : (m : Mark) (w : Option OpenSweep) (o : OpenSweep) → IsMarked m w → w ≡ Some o → m.sweep ≡ Some o.opening
marked_there m w o is same = (subst (IsMarked m) same is).0

never_open : {A : Type 0} (o : OpenSweep) → ◌≡◌ {A = Option OpenSweep} None (Some o) → A
never_open o e = absurd cc

module _ {K : Type 0} (desk : DeskId) (policy : Resolved) (moment : ℕ) (p q : Pass) (s s' : Stored K) (r : Refused) (none : left_by p ≡ nothing_open) (turn : Turned desk p q s s') (same : s' ≡ s) (marked : IsMarked s.mark s.left_open.sweep) where
  abbrev n : ℕ
  n = number_of p

  at : Found desk p s
  at = found_first desk p q s s' turn

  left : Left desk q s'
  left = left_by_turn desk p q s s' turn

  found : open_of n (stored.open_of s) ≡ nothing_open
  found = none_found n p s none turn.own

  log : seen q ≡ log_of s
  log = left.seen_is ∙ ap (λ (x : Stored K). log_of x) same

  mark : mark_of q ≡ s.mark
  mark = left.mark_is ∙ ap (λ (x : Stored K). x.mark) same

  at_state : r.place ≡ Some s.book.state.place → IsAt desk (seen q) r.place
  at_state is = is ∙ ap (λ (x : State). Some x.place) (sym (left.state_is ∙ ap (λ (x : Stored K). x.book.state) same))

  no_fault : NoFaultIsNew n (mark_of p) (mark_of q)
  no_fault x is own = at.no_new x (ap (λ (m : Mark). m.fault) (sym mark) ∙ is) own

  causes : (why : Refusal) → NotSwept s r why → Causes desk n policy moment (known p) (mark_of p) (mark_of q) (seen q) r.place why
  causes refusals.NoMemory h = (h, no_fault)
  causes (refusals.Down count) h = (
    at_state h.0,
    record { fault = h.1.0; is = ap (λ (m : Mark). m.fault) mark ∙ h.1.1; count_is = h.1.2; known = λ own. at.no_new h.1.0 h.1.1 own },
  )
  causes (refusals.SweepOpen place) h = (
    at_state h.1,
    record {
      up = ap (λ (m : Mark). m.fault) mark ∙ h.0;
      opening = (h.2.0).opening;
      is = ap (λ (m : Mark). m.sweep) mark ∙ marked_there s.mark s.left_open.sweep h.2.0 marked h.2.1;
      place = h.2.2;
      others = others n (stored.open_of s) h.2.0 found h.2.1;
    },
  )
  causes (refusals.BadRequest x) h = absurd h
  causes refusals.RefNotFound h = absurd h
  causes refusals.RefExists h = absurd h
  causes (refusals.ContentNotFound x) h = absurd h
  causes (refusals.Conflicts x) h = absurd h
  causes (refusals.Expired x y) h = absurd h
  causes (refusals.RetriesSpent x) h = absurd h
  causes (refusals.Limit x y) h = absurd h
  causes (refusals.Collision x y z) h = absurd h
  causes refusals.Fault h = absurd h
  causes refusals.NoRoute h = absurd h
  causes (refusals.WrongMethod x) h = absurd h
  causes refusals.TooLarge h = absurd h
  causes refusals.Encoding h = absurd h
  causes refusals.OldFormat h = absurd h

  module _ (only : IsAlone p) (rest : all_left_by p ≡ nothing_open) where
    mark_alone : mark_of q ≡ mark_of p
    mark_alone = mark ∙ (turn.alone only).1

    book_alone : book_of desk q ≡ book_of desk p
    book_alone = left.book_is ∙ ap (λ (x : Stored K). x.book) same ∙ book_found desk p q s s' turn only

    rests : s.left_open ≡ nothing_open
    rests = (turn.alone only).2 ∙ rest

    alone : (why : Refusal) → NotSwept s r why → RefusesAlone n (swept_on sha256 n (book_of desk p) policy no_names moment) (book_of desk p) (book_of desk q) (mark_of p).fault (mark_of q).fault r why
    alone refusals.NoMemory h = (given_up (book_of desk p) (book_of desk q) r book_alone h, ap (λ (m : Mark). m.fault) mark_alone)
    alone (refusals.Down count) h = record {
      place = h.0 ∙ ap (λ (b : Book). Some b.state.place) (book_found desk p q s s' turn only);
      book = book_alone;
      fault = h.1.0;
      was = ap (λ (m : Mark). m.fault) (sym (turn.alone only).1) ∙ h.1.1;
      is = ap (λ (m : Mark). m.fault) mark ∙ h.1.1;
      count_is = h.1.2;
    }
    alone (refusals.SweepOpen place) h = never_open h.2.0 (ap (λ (x : Open). x.sweep) (sym rests) ∙ h.2.1)
    alone (refusals.BadRequest x) h = absurd h
    alone refusals.RefNotFound h = absurd h
    alone refusals.RefExists h = absurd h
    alone (refusals.ContentNotFound x) h = absurd h
    alone (refusals.Conflicts x) h = absurd h
    alone (refusals.Expired x y) h = absurd h
    alone (refusals.RetriesSpent x) h = absurd h
    alone (refusals.Limit x y) h = absurd h
    alone (refusals.Collision x y z) h = absurd h
    alone refusals.Fault h = absurd h
    alone refusals.NoRoute h = absurd h
    alone (refusals.WrongMethod x) h = absurd h
    alone refusals.TooLarge h = absurd h
    alone refusals.Encoding h = absurd h
    alone refusals.OldFormat h = absurd h

  unopened : NotSwept s r r.why → Comes desk policy moment p q (Err r)
  unopened h = record {
    none = turn.left ∙ ap (λ (x : Stored K). open_of n (stored.open_of x)) same ∙ found;
    grows = grew_in desk p q s s' turn;
    answers = (subst (Follows n (seen p)) (sym log) at.follows, causes r.why h);
    alone = λ only rest. alone only rest r.why h;
    rests = λ only rest. turn.all_left ∙ ap (λ (x : Stored K). x.left_open) same ∙ rests only rest;
    undrafted = no_draft_still n (mark_of p) s.mark (mark_of q) at.no_draft (ap (λ (m : Mark). m.draft) mark) (ap (λ (m : Mark). m.drafter) mark);
    unbased = λ only rest. ap (λ (m : Mark). journal_in m) (mark_alone only rest);
  }

pub not_opened : (K : Type 0) (desk : DeskId) (policy : Resolved) (p q : Pass) (r : Refused) → left_by p ≡ nothing_open → OpensNone K desk p q r → (moment : ℕ) → Comes desk policy moment p q (Err r)
not_opened K desk policy p q r none h moment = unopened desk policy moment p q h.0 h.1 r none h.2 h.3 h.5 h.4

-- nothing was done
pub no_turn : (desk : DeskId) (policy : Resolved) (moment : ℕ) (p : Pass) → left_by p ≡ nothing_open → Comes desk policy moment p p (Err out_of_memory)
no_turn desk policy moment p none = record {
  none = none;
  grows = grows_self (mark_of p);
  answers = (follows_itself (number_of p) (seen p), (refl, λ x is own. is));
  alone = λ only rest. (given_up (book_of desk p) (book_of desk p) out_of_memory refl refl, refl);
  rests = λ only rest. rest;
  undrafted = λ last. refl;
  unbased = λ only rest. refl;
}
