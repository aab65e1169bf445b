-- The next bytes of a session.
use Rattle.std.proofs.Common.{◌≡◌, ℕ, ◌+◌, ◌<◌, List, [], ◌++◌, take, Option, Some, None, IfNone, IfSome, refl, sym, ◌∙◌, ap, subst, inl, arith}
use Rattle.std.specs.Io.KnownBytes.{Appends, prepend_known}
use Rattle.cat_http.specs.Message.{Message, Buffered}
use Rattle.cat_http.specs.Next.{IsRequest, IsEnd}
use Rattle.cat_http.specs.Reading.{IncomingIs, IncomingOf}
use Rattle.cat_http.specs.Writing.{AppendsFront}
use Rattle.cat_http.specs.declared.buffer.Incoming.{Incoming}
use Rattle.cat_http.specs.declared.buffer.Incoming.TheVariants as incoming
use Rattle.cat_model.specs.declared.refusal.Refusal.{Refusal}
use Rattle.cat_desk.specs.Pass.{DeskId}
use Rattle.cat_desk.specs.declared.pass.Pass.{Pass}
use Rattle.cat_serve.specs.declared.ending.Session.{Session as End}
use Rattle.cat_serve.specs.declared.ending.Session.TheVariants as ends
use Rattle.cat_serve.specs.Replies.{IsRefusalOf}
use Rattle.cat_serve.specs.Sessions.{EndsKnown, Readings, Standing, Point, Turn, Stands, IsDue, IsRefused, EndsAt}
use Rattle.cat_serve.specs.Answers.{IsAsked, IsAnswered, GoesTo, LeavesAt}
use Rattle.cat_serve.proofs.Clocked.{takes_none}
use Rattle.cat_serve.proofs.Told.{appended, some_is, not_none}

-- the answer is that of the bytes to come, and rest follows a request
pub record IsRead (i : Incoming) (bytes : List ℕ) (old now : Buffered) (left : Option (List ℕ)) (rest : List ℕ) : Type 0 where
  pub rest_is : prepend_known now.unread left ≡ Some rest
  pub after : List ℕ
  pub left_is : left ≡ Some after
  pub split : rest ≡ now.unread ++ after
  pub is_so : IncomingIs i bytes now after

pub read_is : (i : Incoming) (before left : Option (List ℕ)) (old now : Buffered) (bytes : List ℕ) → IncomingOf i before old left now → prepend_known old.unread before ≡ Some bytes
    → (rest : List ℕ) × IsRead i bytes old now left rest
read_is i None left old now bytes p e = absurd (not_none bytes e)
read_is i (Some xs) None old now bytes p e = absurd p
read_is i (Some xs) (Some ys) old now bytes p e = (
  now.unread ++ ys,
  record {
    rest_is = refl;
    after = ys;
    left_is = refl;
    split = refl;
    is_so = subst (λ b. IncomingIs i b now ys) (some_is (old.unread ++ xs) bytes e) p;
  },
)

-- before the first read
pub nothing_held : (unread : List ℕ) (bytes : Option (List ℕ)) → unread ≡ [] → prepend_known unread bytes ≡ bytes
nothing_held unread None none = refl
nothing_held unread (Some x) none = ap (λ (u : List ℕ). Some (u ++ x)) none

-- what follows a request is the rest
pub request_is : (bytes : List ℕ) (old now : Buffered) (left : Option (List ℕ)) (rest : List ℕ) → IsRead incoming.Request bytes old now left rest → IsRequest bytes now.message rest
request_is bytes old now left rest r = subst (λ x. IsRequest bytes now.message x) (sym r.split) r.is_so

pub some_left : (left n : ℕ) → n ≡ left + 1 → 0 < n
some_left left n e = omega arith

pub map_none : {P Q : Type 0} (r : Option End) → IfNone r P → (P → Q) → IfNone r Q
map_none None p f = f p
map_none (Some e) p f = tt

pub map_some : (P Q : End → Type 0) (r : Option End) → IfSome r P → ((e : End) → P e → Q e) → IfSome r Q
map_some P Q None p f = tt
map_some P Q (Some e) p f = f e p

module _ (desk : DeskId) where
  -- a request is asked where a session stands
  pub asked : (c : Point) (left : ℕ) (m : Message) (old now : Buffered) (after : Option (List ℕ)) (rest : List ℕ) (pass : Pass) (before held : Option (List ℕ))
      → m ≡ now.message → IsRead incoming.Request c.bytes old now after rest → c.left ≡ left + 1 → Stands desk c pass before held → IsAsked desk c left m rest pass held
  asked c left m old now after rest pass before held is r one s = record {
    reads = subst (λ x. IsRequest c.bytes x rest) (sym is) (request_is c.bytes old now after rest r);
    one_more = one;
    pass_at = s.pass_at;
    held_is = s.held_is;
  }

  -- and is answered
  pub goes_to : (taken : List ℕ) (k : Readings) (c : Point) (left : ℕ) (rest : List ℕ) (t : Turn) (pass : Pass) (bytes held : Option (List ℕ))
      → IsAnswered desk taken k c left rest t pass held → bytes ≡ Some rest → GoesTo desk taken k c left t pass bytes held
  goes_to taken k c left rest t pass bytes held a e = record {
    answered = a.answered;
    goes_on = a.goes_on;
    left_is = a.left_is;
    takes = a.takes;
    stands = record { pass_at = a.pass_at; bytes_are = e ∙ ap Some (sym a.bytes_are); held_is = a.held_is };
  }

  -- ---- ends without a request, at which no reading is taken

  -- a refusal by the bytes was written whole
  pub told_refused : (k : Readings) (c : Point) (left : ℕ) (cause : Type 0) (why : Refusal) (end : End) (pass : Pass) (before held after : Option (List ℕ))
      → ((h : List ℕ) (last : Standing) → IsRefused c cause why h last → EndsAt k c end h last) → c.left ≡ left + 1 → cause → Stands desk c pass before held
      → ((bytes : List ℕ) × IsRefusalOf why bytes × Appends held after bytes) → LeavesAt desk [] k c end pass after
  told_refused k c left cause why end pass before held after ends one is s (bytes, replies, written) = (
    c.written ++ bytes,
    appended held after c.written bytes s.held_is written,
    c.standing,
    ends _ _ (record { some_left = some_left left c.left one; is_so = is; bytes = bytes; replies = replies; all = refl; stays = refl }),
    s.pass_at,
    takes_none c.standing,
  )

  -- or a front of what was due
  pub told_front : (k : Readings) (c : Point) (bytes : List ℕ) (pass : Pass) (before held after : Option (List ℕ))
      → IsDue k c bytes c.standing → Stands desk c pass before held → AppendsFront held after bytes → LeavesAt desk [] k c ends.WriteFault pass after
  told_front k c bytes pass before held after due s front =
      (c.written ++ take front.0 bytes, appended held after c.written (take front.0 bytes) s.held_is front.1, c.standing, (bytes, due, front.0, refl), s.pass_at, takes_none c.standing)

  -- the input ended between two requests
  pub at_end : (k : Readings) (c : Point) (left : ℕ) (pass : Pass) (before held : Option (List ℕ))
      → c.left ≡ left + 1 → IsEnd c.bytes → Stands desk c pass before held → LeavesAt desk [] k c ends.Closed pass held
  at_end k c left pass before held one is s =
      (c.written, s.held_is, c.standing, inl (record { some_left = some_left left c.left one; at_end = is; all = refl; stays = refl }), s.pass_at, takes_none c.standing)

  pub cut_short : (k : Readings) (c : Point) (left : ℕ) (pass : Pass) (before held : Option (List ℕ)) → c.left ≡ left + 1 → Stands desk c pass before held → LeavesAt desk [] k c ends.ReadFault pass held
  cut_short k c left pass before held one s = (c.written, s.held_is, c.standing, (some_left left c.left one, refl, refl), s.pass_at, takes_none c.standing)

  -- no memory was left to begin with
  pub not_begun : (pass : Pass) (ahead : Option Readings) (bytes held : Option (List ℕ)) → EndsKnown desk 1000 pass pass ahead ahead bytes bytes held ends.NoMemory held
  not_begun pass ahead bytes held = ([], refl, λ k a begins whole s. (a.written, s.held_is, a.standing, inl (record { end_is = refl; unread_is = s.bytes_are; all = refl; stays = refl }), s.pass_at, takes_none a.standing))
