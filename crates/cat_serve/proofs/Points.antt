-- From one point of a session to the next.
use Rattle.std.proofs.Common.{◌≡◌, ℕ, ◌+◌, ◌==◌, List, [], ◌∷◌, ◌++◌, Bool, false, ◌||◌, Result, refl, sym, ◌∙◌, ap, subst, inl, inr, Err}
use Rattle.cat_http.specs.Message.{Message}
use Rattle.cat_http.specs.Next.{IsRequest}
use Rattle.cat_model.specs.Requests.{Brought}
use Rattle.cat_model.specs.declared.refusal.Refused.{Refused}
use Rattle.cat_model.specs.declared.reply.Told.{Told}
use Rattle.cat_rest.specs.Wanted.{wanted}
use Rattle.cat_serve.specs.Replies.{said_bytes, is_head}
use Rattle.cat_serve.specs.Sessions.{Readings, Standing, Point, Turn, MayComeTo, Answered, GoesOn, Reaches, asks_to_close}
use Rattle.cat_serve.specs.Answers.{Brings, RepliesTo, given_up}

one_more : (k : Readings) (turns : List Turn) (a c : Point) (t : Turn) → GoesOn k turns a c → Answered k c t → asks_to_close t.message ≡ false → GoesOn k (turns ++ t ∷ []) a t.after
one_more k [] a c t e answered goes = (subst (λ (x : Point). Answered k x t) (sym e) answered, goes, refl)
one_more k (u ∷ turns) a c t (first, stays, rest) answered goes = (first, stays, one_more k turns u.after c t rest answered goes)

-- one request more
pub reaches_on : (k : Readings) (a c : Point) (t : Turn) → Reaches k a c → Answered k c t → asks_to_close t.message ≡ false → Reaches k a t.after
reaches_on k a c t (turns, goes) answered open_ = (turns ++ t ∷ [], one_more k turns a c t goes answered open_)

-- what a reply of these bytes tells
pub record Tells (k : Readings) (s : Standing) (m : Message) (close : Bool) (s' : Standing) (bytes : List ℕ) (b : Brought) : Type 0 where
  pub brings : MayComeTo k s s.fallen (wanted m) b s'
  pub bytes_are : bytes ≡ said_bytes close (is_head m) b.said

pub tells : (k : Readings) (s : Standing) (m : Message) (close : Bool) (told : Result Told Refused) (b : Brought) (s' : Standing) (bytes : List ℕ)
    → Brings k s m told b s' → RepliesTo close (is_head m) told bytes → (d : Brought) × Tells k s m close s' bytes d
tells k s m close told b s' bytes p (inl same) =
    (b, record { brings = p.comes; bytes_are = same ∙ ap (said_bytes close (is_head m)) (sym p.said) })
tells k s m close told b s' bytes p (inr (needless, same)) =
    (record { said = Err given_up; logged = []; after = b.after }, record { brings = p.or_given_up needless; bytes_are = same })

-- the turn of a request that is answered by these bytes
abbrev pub turn_of : Message → ℕ → List ℕ → List ℕ → Brought → Standing → Turn
turn_of m left rest written b s' = record { message = m; brought = b; after = record { left = left; standing = s'; bytes = rest; written = written } }

pub answered_by : (k : Readings) (c : Point) (left : ℕ) (m : Message) (rest bytes : List ℕ) (s' : Standing) (d : Brought)
    → IsRequest c.bytes m rest → c.left ≡ left + 1 → Tells k c.standing m (asks_to_close m || left == 0) s' bytes d
    → Answered k c (turn_of m left rest (c.written ++ bytes) d s')
answered_by k c left m rest bytes s' d reads one t = record {
  reads = reads;
  brings = t.brings;
  left = one;
  written = ap (λ x. c.written ++ x) t.bytes_are;
}
