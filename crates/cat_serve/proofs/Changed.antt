-- What a changing call or a collection comes to, by what the store's calls tell.
use Rattle.std.proofs.Common.{◌≡◌, ℕ, ◌+◌, ◌≤◌, List, [], ◌∷◌, ◌++◌, Option, Some, None, Bool, true, false, Result, Err, refl, sym, ◌∙◌, ap, subst, inl, inr, arith}
use Rattle.sha2.specs.Sha256.{sha256}
use Rattle.cat_model.specs.declared.log_entry.LogEntry.{LogEntry}
use Rattle.cat_model.specs.declared.refusal.Refusal.TheVariants.{Down, Fault, NoMemory}
use Rattle.cat_model.specs.declared.refusal.Refused.{Refused}
use Rattle.cat_model.specs.declared.reply.Told.{Told}
use Rattle.cat_model.specs.State.{State}
use Rattle.cat_model.specs.Calls.{Called}
use Rattle.cat_model.specs.Book.{Book, IsCalled, after_call}
use Rattle.cat_model.specs.Book.{IsGivenUp as LeavesBook}
use Rattle.cat_model.specs.Requests.{Brought, IsGivenUp, Session, request, brought}
use Rattle.cat_http.specs.Message.{Message}
use Rattle.cat_rest.specs.Wanted.{wanted}
use Rattle.cat_core.specs.Making.{IsNotKept}
use Rattle.cat_state.specs.Kept.{spelling}
use Rattle.cat_serve.specs.Sessions.{Readings, Fallen, Standing, MayComeTo, down_call, down_request, wants_in}
use Rattle.cat_serve.specs.Answers.{Brings, given_up}
use Rattle.cat_serve.specs.Replies.{must_be_told}
use Rattle.cat_serve.proofs.Brought.{no_memory_at}
use Rattle.cat_serve.proofs.Calls.{IsNextAtMost}
use Rattle.cat_serve.proofs.Changing.{Settles, Spares}

-- a session after a call: its moment is taken
abbrev pub session_after : Session → Book → Session
session_after s book = record s { book = book; readings = s.readings + 1 }

-- a standing after a call
abbrev pub after_change : Standing → Book → Option Fallen → Standing
after_change s book fallen = record { session = session_after s.session book; fallen = fallen }

-- what a call is told that makes no entry, and what it left
abbrev pub left_so : Session → Result Told Refused → Book → Brought
left_so s told book = record { said = told; logged = []; after = session_after s book }

-- the call was given up for want of memory, or that is told in place of what was
given_up_is : (s : Session) (told : Result Told Refused) (book : Book) → told ≡ Err given_up → book.state ≡ s.book.state → book.log ≡ s.book.log → book.base ≡ s.book.base → s.book.draft ≤ book.draft → book.draft ≤ s.book.draft + 1 → IsGivenUp s (left_so s told book)
given_up_is s told book said state log base kept taken =
    record { said = said; logged = refl; state = state; log = log; base = base; journal = refl; draft_kept = kept; draft_taken = taken; reading_kept = omega arith; reading_taken = omega arith }

pub at_fallen : (k : Readings) (s : Standing) (fallen : Option Fallen) (m : Message) (b : Brought) (s' : Standing) → s.fallen ≡ fallen → MayComeTo k s fallen (wanted m) b s' → MayComeTo k s s.fallen (wanted m) b s'
at_fallen k s fallen m b s' at p = subst (λ (x : Option Fallen). MayComeTo k s x (wanted m) b s') (sym at) p

-- ---- while the store is down

pub down : (k : Readings) (s : Standing) (f : Fallen) (m : Message) → s.fallen ≡ Some f → down_call s.session f.count ≡ down_request k s.session f.count (wanted m)
    → Brings k s m (Err (record { place = Some s.session.book.state.place; why = Down f.count })) (down_call s.session f.count) (after_change s s.session.book s.fallen)
down k s f m at is = record {
  comes = at_fallen k s (Some f) m _ _ at (inl is, refl, at);
  said = refl;
  or_given_up = λ h. at_fallen k s (Some f) m _ _ at (inr (given_up_is s.session (Err given_up) s.session.book refl refl refl refl (omega arith) (omega arith)), refl, at);
}

-- ---- while it is not

pub clash : (b : Bool) → b ≡ true → b ≡ false → ⊥
clash b one other = cc

-- a call of which want of memory may be told spared the book
spared : (called : Called) (state : State) (told : Result Told Refused) → called.said ≡ told → Settles called state → must_be_told told ≡ false → Spares called state
spared called state told said (inl must) h = absurd (clash (must_be_told told) (ap must_be_told (sym said) ∙ must) h)
spared called state told said (inr spares) h = spares

pub true_stands : true ≡ false → ⊥
true_stands h = cc

-- the request's call on the session's book
module _ (k : Readings) (s : Standing) (m : Message) (c : Called) (after : Book) (up : s.fallen ≡ None) (is : brought s.session c ≡ request sha256 1 k s.session (wants_in (wanted m))) where
  -- what was told is what the call brings
  pub called : (told : Result Told Refused) → IsNextAtMost s.session.book.draft c.draft → Settles c s.session.book.state
      → IsCalled c s.session.book after told → Brings k s m told (brought s.session c) (after_change s after None)
  called told draft settles p =
      let leaves : session_after s.session after ≡ session_after s.session (after_call s.session.book c) = ap (session_after s.session) p.book in
      let spares : must_be_told told ≡ false → Spares c s.session.book.state = spared c s.session.book.state told p.said settles in
      record {
        comes = at_fallen k s None m _ _ up (inl (inl is, leaves, refl));
        said = p.said;
        or_given_up = λ h. at_fallen k s None m _ _ up (inl (
          inr (given_up_is s.session (Err given_up) (after_call s.session.book c) refl (spares h).state (ap (λ (l : List LogEntry). l ++ s.session.book.log) (spares h).logged) refl draft.kept draft.taken),
          leaves,
          refl,
        ));
      }

  -- the entry of the call wasn't kept
  pub falls : (place : Option ℕ) (fallen : Fallen) (entry : LogEntry) → place ≡ Some s.session.book.state.place → c.logged ≡ entry ∷ [] → fallen.payload ≡ spelling entry → IsNotKept c s.session.book after
      → Brings k s m (Err (record { place = place; why = Fault })) (left_so s.session (Err (record { place = place; why = Fault })) (record s.session.book { draft = c.draft })) (after_change s after (Some fallen))
  falls place fallen entry at one spelled p =
      let leaves : session_after s.session after ≡ session_after s.session (record s.session.book { draft = c.draft }) =
      λ i. session_after s.session (record { state = p.state i; draft = p.draft i; log = p.log i; base = p.base i }) in
      record {
        comes = at_fallen k s None m _ _ up (inr (record {
          fallen = fallen;
          accepted = inl (entry, ap (λ (b : Brought). b.logged) (sym is) ∙ one, spelled);
          said = ap (λ (x : Option ℕ). Err (record { place = x; why = Fault })) at;
          logged = refl;
          after_is = ap (λ (b : Brought). record (s.session) { book = record s.session.book { draft = b.after.book.draft }; readings = b.after.readings }) is;
          leaves = leaves;
          down = refl;
        }));
        said = refl;
        or_given_up = λ h. absurd (true_stands h);
      }

-- a call that was given up, by whether an append had failed before
gives_up : (k : Readings) (s : Standing) (fallen : Option Fallen) (m : Message) (b : Brought) (s' : Standing) → s'.fallen ≡ fallen → IsGivenUp s.session b → s'.session ≡ b.after → MayComeTo k s fallen (wanted m) b s'
gives_up k s None m b s' at given leaves = inl (inr given, leaves, at)
gives_up k s (Some f) m b s' at given leaves = (inr given, leaves, at)

-- the call was given up for want of memory
pub given_up_change : (k : Readings) (s : Standing) (m : Message) (after : Book) (place : Option ℕ) → after.base ≡ s.session.book.base
    → LeavesBook s.session.book after (record { place = place; why = NoMemory }) → Brings k s m (no_memory_at place) (left_so s.session (no_memory_at place) after) (after_change s after s.fallen)
given_up_change k s m after place base p =
    let given : (told : Result Told Refused) → told ≡ Err given_up → IsGivenUp s.session (left_so s.session told after) =
    λ told said. given_up_is s.session told after said p.state p.log base p.draft_kept p.draft_taken in
    record {
      comes = gives_up k s s.fallen m _ _ refl (given (no_memory_at place) (ap no_memory_at p.place)) refl;
      said = refl;
      or_given_up = λ h. gives_up k s s.fallen m _ _ refl (given (Err given_up) refl) refl;
    }
