-- Requests that are answered on any pass.
use Rattle.std.proofs.Common.{◌≡◌, ℕ, ◌+◌, ◌==◌, List, [], ◌∷◌, ◌++◌, ◌||◌, false, Option, Some, None, IfSome, Result, refl, sym, ap, subst}
use Rattle.std.specs.Io.KnownBytes.{Appends, prepend_known}
use Rattle.cat_desk.specs.Pass.{DeskId, number_of}
use Rattle.cat_desk.specs.declared.pass.Pass.{Pass}
use Rattle.cat_http.specs.Message.{Buffered, Message}
use Rattle.cat_http.specs.Next.{IsEnd, IsMalformed, IsRequest, IsTooLarge}
use Rattle.cat_http.specs.Reading.{IncomingOf}
use Rattle.cat_http.specs.declared.buffer.Incoming.TheVariants as incoming
use Rattle.cat_model.specs.declared.log_entry.LogEntry.{LogEntry}
use Rattle.cat_model.specs.declared.refusal.Refused.{Refused}
use Rattle.cat_model.specs.declared.refusal.Refusal.{Refusal}
use Rattle.cat_model.specs.declared.reply.Told.{Told}
use Rattle.cat_rest.specs.declared.wanted.Wanted.{Wanted}
use Rattle.cat_rest.specs.Wanted.{wanted}
use Rattle.cat_serve.specs.Answers.{RepliesTo}
use Rattle.cat_serve.specs.declared.ending.Session.{Session as End}
use Rattle.cat_serve.specs.declared.ending.Session.TheVariants as ends
use Rattle.cat_serve.specs.Passes.{ComesTo, EndsAs, GoesBy, IsCall, IsNextOf, IsVisit, Place, TellsNone, Visit, Visits, Went, place}
use Rattle.cat_serve.specs.Replies.{is_head}
use Rattle.cat_serve.specs.Sessions.{Readings, asks_to_close}
use Rattle.cat_serve.proofs.Making.{made_in}
use Rattle.cat_serve.proofs.Reading.{read_is, request_is}
use Rattle.cat_serve.proofs.Told.{appends_nothing}

-- a request, what it was told, and what it made
abbrev pub visit_of : Message → List ℕ → Result Told Refused → List ℕ → Pass → Pass → List LogEntry → Visit
visit_of m taken told bytes p q made = record { message = m; taken = taken; told = told; reply = bytes; before = p; after = q; made = made }

-- a call, by what the request wants
pub called_for : (desk : DeskId) (attempts : ℕ) (wants is : Result Wanted Refusal) (taken : List ℕ) (p q : Pass) (told : Result Told Refused) → wants ≡ is → IsCall desk attempts is taken p q told → IsCall desk attempts wants taken p q told
called_for desk attempts wants is taken p q told e call = subst (λ (w : Result Wanted Refusal). IsCall desk attempts w taken p q told) (sym e) call

module _ (desk : DeskId) (attempts : ℕ) where
  -- what was told of a request, and its reply
  abbrev pub visit_as : (p q : Pass) (ahead now : Option Readings) (m : Message) (told : Result Told Refused) (bytes : List ℕ) → ComesTo desk attempts m p ahead told q now → Visit
  visit_as p q ahead now m told bytes comes = visit_of m comes.0 told bytes p q (made_in desk attempts (wanted m) comes.0 p q told comes.2).0

  pub is_visit : (left : ℕ) (p q : Pass) (ahead now : Option Readings) (m : Message) (told : Result Told Refused) (bytes : List ℕ) (comes : ComesTo desk attempts m p ahead told q now)
      → number_of q ≡ number_of p → RepliesTo (asks_to_close m || left == 0) (is_head m) told bytes → IsVisit desk attempts left p ahead (visit_as p q ahead now m told bytes comes) q now
  is_visit left p q ahead now m told bytes comes number replies = record {
    before = refl;
    after = refl;
    number = number;
    took = comes.1;
    comes = comes.2;
    makes = (made_in desk attempts (wanted m) comes.0 p q told comes.2).1;
    replies = replies;
  }

  -- the request that was read next is answered
  pub visited : (left : ℕ) (p q : Pass) (ahead now : Option Readings) (before after held held' : Option (List ℕ)) (old new : Buffered) (v : Visit)
      → IncomingOf incoming.Request before old after new → v.message ≡ new.message → IsVisit desk attempts left p ahead v q now
      → Visits desk attempts (place (left + 1) p ahead (prepend_known old.unread before) held) v (place left q now (prepend_known new.unread after) held')
  visited left p q ahead now before after held held' old new v came message is = record { left = refl; reads = reads; is = is }
    where
      reads : IsNextOf (prepend_known old.unread before) v.message (prepend_known new.unread after)
      reads b e =
          let r = read_is incoming.Request before after old new b came e in
          (r.0, r.1.rest_is, subst (λ (m : Message). IsRequest b m r.0) (sym message) (request_is b old new after r.0 r.1))

  -- none more is answered, and that is written
  pub ends_telling : (c : Place) (end : End) (unread : Option (List ℕ)) (tail : List ℕ) (held : Option (List ℕ)) → TellsNone end c unread tail → Appends c.held held tail
      → EndsAs desk attempts c end unread c.pass c.ahead held
  ends_telling c end unread tail held none written = record { left = c.left; rest = c.bytes; last = []; tail = tail; ends = (refl, refl, none); written = written }

  pub ends_without : (c : Place) (end : End) (unread : Option (List ℕ)) → TellsNone end c unread [] → EndsAs desk attempts c end unread c.pass c.ahead c.held
  ends_without c end unread none = ends_telling c end unread [] c.held none (appends_nothing c.held)

  -- ---- one after another

  pub goes_on : (visits : List Visit) (a b c : Place) (v : Visit) → GoesBy desk attempts visits a b → Visits desk attempts b v c → asks_to_close v.message ≡ false → Appends b.held c.held v.reply
      → GoesBy desk attempts (visits ++ v ∷ []) a c
  goes_on [] a b c v same is open_ written = subst (λ (x : Place). GoesBy desk attempts (v ∷ []) x c) (sym same) (c, is, open_, written, refl)
  goes_on (u ∷ visits) a b c v (next, first, stays, told, rest) is open_ written = (next, first, stays, told, goes_on visits next b c v rest is open_ written)

  -- so many requests are left
  pub at_left : (visits : List Visit) (a : Place) (left left' : ℕ) (p : Pass) (ahead : Option Readings) (bytes held : Option (List ℕ)) → left ≡ left'
      → GoesBy desk attempts visits a (place left p ahead bytes held) → GoesBy desk attempts visits a (place left' p ahead bytes held)
  at_left visits a left left' p ahead bytes held same goes = subst (λ (n : ℕ). GoesBy desk attempts visits a (place n p ahead bytes held)) same goes

  -- none is answered, where memory runs out before the first
  pub none_visited : (p : Pass) (ahead : Option Readings) (bytes held : Option (List ℕ)) → Went desk attempts (place 1000 p ahead bytes held) ends.NoMemory bytes p ahead held
  none_visited p ahead bytes held = record { visits = []; c = place 1000 p ahead bytes held; goes = refl; ended = ends_without (place 1000 p ahead bytes held) ends.NoMemory bytes (refl, refl, refl) }

-- the place before the first read
pub at_first : (p : Pass) (ahead : Option Readings) (held bytes known : Option (List ℕ)) → known ≡ bytes → place 1000 p ahead bytes held ≡ place 1000 p ahead known held
at_first p ahead held bytes known same = ap (λ (b : Option (List ℕ)). place 1000 p ahead b held) (sym same)

-- ---- the source

-- what is so of what comes, where the source tells
pub ends_so : (before after : Option (List ℕ)) (old new : Buffered) → IncomingOf incoming.End before old after new → IfSome (prepend_known old.unread before) IsEnd
ends_so None after old new p = tt
ends_so (Some x) None old new p = absurd p
ends_so (Some x) (Some y) old new p = p

pub malformed_so : (before after : Option (List ℕ)) (old new : Buffered) → IncomingOf incoming.BadHead before old after new → IfSome (prepend_known old.unread before) IsMalformed
malformed_so None after old new p = tt
malformed_so (Some x) None old new p = absurd p
malformed_so (Some x) (Some y) old new p = p

pub too_large_so : (before after : Option (List ℕ)) (old new : Buffered) → IncomingOf incoming.TooLarge before old after new → IfSome (prepend_known old.unread before) IsTooLarge
too_large_so None after old new p = tt
too_large_so (Some x) None old new p = absurd p
too_large_so (Some x) (Some y) old new p = p
