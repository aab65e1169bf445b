-- What a session leaves of the log of its store.
use Rattle.std.specs.Prelude.{◌≡◌, ◌⊎◌, ℕ, List, [], ◌∷◌, ◌++◌, Option, Some, None, Result, Ok, Err}
use Rattle.std.proofs.Common.{refl, sym, ◌∙◌, ap, subst, inl, inr}
use Rattle.std.proofs.lemmas.List.{append_assoc}
use Rattle.sha2.specs.Sha256.{sha256}
use Rattle.cat_model.specs.declared.log_entry.LogEntry.{LogEntry}
use Rattle.cat_model.specs.declared.refusal.Refusal.{Refusal}
use Rattle.cat_model.specs.declared.reply.Reply.{Reply}
use Rattle.cat_model.specs.Requests.{Brought, IsGivenUp, Session, Wants, checkpoint_answer, checkpointed, request}
use Rattle.cat_model.specs.Requests as wants
use Rattle.cat_rest.specs.declared.wanted.Wanted.{Wanted}
use Rattle.cat_rest.specs.declared.wanted.Wanted.TheVariants.{Change, Checkpoint, Collect, Read}
use Rattle.cat_serve.specs.declared.ending.Session.{Session as End}
use Rattle.cat_serve.specs.declared.ending.Session.TheVariants as ends
use Rattle.cat_serve.specs.Sessions.{Readings, Fallen, Falls, Standing, MayComeTo, Point, Turn, Answered, GoesOn, EndsAt, Ends, down_request, wants_in}

-- ---- one request

-- its entries stand in front of the log before
abbrev Grows : Session → Brought → Type 0
Grows s b = b.after.book.log ≡ b.logged ++ s.book.log

grows_as : (s : Session) (a b : Brought) → b ≡ a → Grows s a → Grows s b
grows_as s a b same grows = subst (Grows s) (sym same) grows

checkpoint_grows : (s : Session) (answer : Result Reply Refusal) → Grows s (checkpointed s answer)
checkpoint_grows s (Ok reply) = refl
checkpoint_grows s (Err why) = refl

request_grows : (k : Readings) (s : Session) (w : Result Wants Refusal) → Grows s (request sha256 1 k s w)
request_grows k s (Err why) = refl
request_grows k s (Ok (wants.Read ask)) = refl
request_grows k s (Ok (wants.Change command)) = refl
request_grows k s (Ok (wants.Collect policy)) = refl
request_grows k s (Ok wants.Checkpoint) = checkpoint_grows s (checkpoint_answer s)

down_grows : (k : Readings) (s : Session) (count : ℕ) (w : Result Wanted Refusal) → Grows s (down_request k s count w)
down_grows k s count (Err why) = refl
down_grows k s count (Ok (Read ask)) = refl
down_grows k s count (Ok (Change command)) = refl
down_grows k s count (Ok (Collect policy)) = refl
down_grows k s count (Ok Checkpoint) = refl

given_up_grows : (s : Session) (b : Brought) → IsGivenUp s b → Grows s b
given_up_grows s b p = p.log ∙ sym (ap (λ (l : List LogEntry). l ++ s.book.log) p.logged)

falls_grows : (k : Readings) (s s' : Standing) (w : Result Wanted Refusal) (b : Brought) → Falls k s s' w b → Grows s.session b
falls_grows k s s' w b p = ap (λ (x : Session). x.book.log) p.after_is ∙ sym (ap (λ (l : List LogEntry). l ++ s.session.book.log) p.logged)

-- ---- one after another

-- these entries stand in front of the log before
abbrev pub IsGrownBy : List LogEntry → Standing → Standing → Type 0
IsGrownBy entries before after = after.session.book.log ≡ entries ++ before.session.book.log

grown_on : (more entries : List LogEntry) (a b c : Standing) → IsGrownBy entries a b → IsGrownBy more b c → IsGrownBy (more ++ entries) a c
grown_on more entries a b c one two = two ∙ ap (λ (l : List LogEntry). more ++ l) one ∙ sym (append_assoc more entries a.session.book.log)

left_so : (s s' : Standing) (b : Brought) → s'.session ≡ b.after → Grows s.session b → IsGrownBy b.logged s s'
left_so s s' b leaves grows = ap (λ (x : Session). x.book.log) leaves ∙ grows

grew : (k : Readings) (s s' : Standing) (fallen : Option Fallen) (w : Result Wanted Refusal) (b : Brought) → MayComeTo k s fallen w b s' → IsGrownBy b.logged s s'
grew k s s' None w b (inl (inl is, leaves, up)) = left_so s s' b leaves (grows_as s.session _ b is (request_grows k s.session (wants_in w)))
grew k s s' None w b (inl (inr given, leaves, up)) = left_so s s' b leaves (given_up_grows s.session b given)
grew k s s' None w b (inr falls) = left_so s s' b falls.leaves (falls_grows k s s' w b falls)
grew k s s' (Some f) w b (inl is, leaves, down) = left_so s s' b leaves (grows_as s.session _ b is (down_grows k s.session f.count w))
grew k s s' (Some f) w b (inr given, leaves, down) = left_so s s' b leaves (given_up_grows s.session b given)

by_turn : (k : Readings) (a : Point) (t : Turn) → Answered k a t → IsGrownBy t.brought.logged a.standing t.after.standing
by_turn k a t p = grew k a.standing t.after.standing a.standing.fallen _ t.brought p.brings

by_turns : (k : Readings) (turns : List Turn) (a c : Point) → GoesOn k turns a c → (entries : List LogEntry) × IsGrownBy entries a.standing c.standing
by_turns k [] a c same = ([], ap (λ (p : Point). p.standing.session.book.log) (sym same))
by_turns k (t ∷ turns) a c (answered, stays, rest) =
    let more = by_turns k turns t.after c rest in
    (more.0 ++ t.brought.logged, grown_on more.0 t.brought.logged a.standing t.after.standing c.standing (by_turn k a t answered) more.1)

-- the store stands as before the request that was due, or as after it
abbrev IsLast : Readings → Point → Standing → Type 0
IsLast k c last = (last ≡ c.standing) ⊎ ((t : Turn) × Answered k c t × (last ≡ t.after.standing))

is_last : (k : Readings) (c : Point) (end : End) (held : List ℕ) (last : Standing) → EndsAt k c end held last → IsLast k c last
is_last k c ends.Closed held last (inl p) = inl p.stays
is_last k c ends.Closed held last (inr (t, p)) = inr (t, p.answered, p.leaves)
is_last k c ends.Capped held last p = inl p.2
is_last k c ends.BadHead held last p = inl p.stays
is_last k c ends.TooLarge held last p = inl p.stays
is_last k c ends.ReadFault held last p = inl p.2
is_last k c ends.WriteFault held last (bytes, inl p, n, is) = inr (p.0, p.1, p.3)
is_last k c ends.WriteFault held last (bytes, inr (inl p), n, is) = inl p.3
is_last k c ends.WriteFault held last (bytes, inr (inr p), n, is) = inl p.3
is_last k c ends.NoMemory held last (told, t, answered, must, same) = inr (t, answered, same)

by_last : (k : Readings) (c : Point) (last : Standing) → IsLast k c last → (entries : List LogEntry) × IsGrownBy entries c.standing last
by_last k c last (inl same) = ([], ap (λ (s : Standing). s.session.book.log) same)
by_last k c last (inr (t, answered, same)) = (t.brought.logged, ap (λ (s : Standing). s.session.book.log) same ∙ by_turn k c t answered)

-- the log at the end of a session is that before it, with the entries of the session in front
pub log_grows : (k : Readings) (a : Point) (end : End) (held : List ℕ) (last : Standing) (unread : Option (List ℕ)) → Ends k a end held last unread → (entries : List LogEntry) × IsGrownBy entries a.standing last
log_grows k a end held last unread (inl none) = ([], ap (λ (s : Standing). s.session.book.log) none.stays)
log_grows k a end held last unread (inr (c, (turns, goes), at, cut)) =
    let one = by_turns k turns a c goes in
    let two = by_last k c last (is_last k c end held last at) in
    (two.0 ++ one.0, grown_on two.0 one.0 a.standing c.standing last one.1 two.1)
