-- What a request that changes nothing comes to, by what the store's calls tell.
use Rattle.std.proofs.Common.{◌≡◌, ◌⊎◌, ℕ, Option, Some, None, Result, Ok, Err, refl, sym, ◌∙◌, ap, inl, inr, arith}
use Rattle.sha2.specs.Sha256.{sha256}
use Rattle.cat_model.specs.declared.ask.Ask.{Ask}
use Rattle.cat_model.specs.declared.refusal.Refusal.{Refusal}
use Rattle.cat_model.specs.declared.refusal.Refusal.TheVariants.{NoMemory}
use Rattle.cat_model.specs.declared.refusal.Refused.{Refused}
use Rattle.cat_model.specs.declared.reply.Told.{Told}
use Rattle.cat_model.specs.Answer.{answer}
use Rattle.cat_model.specs.Calls.{told_at}
use Rattle.cat_model.specs.Book.{Reads, ReadRefuses}
use Rattle.cat_model.specs.Requests.{Session, IsGivenUp, request, said_only}
use Rattle.cat_http.specs.Message.{Message}
use Rattle.cat_rest.specs.declared.wanted.Wanted.{Wanted}
use Rattle.cat_rest.specs.declared.wanted.Wanted.TheVariants.{Read}
use Rattle.cat_rest.specs.Wanted.{wanted}
use Rattle.cat_rest.specs.Faults.{Answers, Refuses}
use Rattle.cat_serve.specs.Sessions.{Readings, Fallen, Standing, MayComeTo, down_request, wants_in}
use Rattle.cat_serve.specs.Answers.{Brings, given_up}

-- want of memory, told with a place
abbrev pub no_memory_at : Option ℕ → Result Told Refused
no_memory_at place = Err (record { place = place; why = NoMemory })

-- a refusal, told with a place
abbrev refusal_at : Refusal → Option ℕ → Result Told Refused
refusal_at why place = Err (record { place = place; why = why })

-- this is the request's answer, whether or not the store is down
record IsAnswer (k : Readings) (s : Session) (w : Result Wanted Refusal) (told : Result Told Refused) : Type 0 where
  pub up : said_only s told ≡ request sha256 1 k s (wants_in w)
  pub down : (count : ℕ) → said_only s told ≡ down_request k s count w

-- or want of memory is told
abbrev MaySay : Readings → Session → Result Wanted Refusal → Result Told Refused → Type 0
MaySay k s w told = IsAnswer k s w told ⊎ IsGivenUp s (said_only s told)

pub given_up_at : (s : Session) (place : Option ℕ) → place ≡ None → IsGivenUp s (said_only s (no_memory_at place))
given_up_at s place none = record {
  said = ap no_memory_at none;
  logged = refl;
  state = refl;
  log = refl;
  base = refl;
  journal = refl;
  draft_kept = omega arith;
  draft_taken = omega arith;
  reading_kept = omega arith;
  reading_taken = omega arith;
}

comes_to : (k : Readings) (s : Standing) (fallen : Option Fallen) (w : Result Wanted Refusal) (told : Result Told Refused) → s.fallen ≡ fallen → MaySay k s.session w told → MayComeTo k s fallen w (said_only s.session told) s
comes_to k s None w told at (inl is) = inl (inl is.up, refl, at)
comes_to k s None w told at (inr given) = inl (inr given, refl, at)
comes_to k s (Some f) w told at (inl is) = (inl (is.down f.count), refl, at)
comes_to k s (Some f) w told at (inr given) = (inr given, refl, at)

-- a request that changes nothing
unchanged : (k : Readings) (s : Standing) (m : Message) (told : Result Told Refused) → MaySay k s.session (wanted m) told → Brings k s m told (said_only s.session told) s
unchanged k s m told may = record {
  comes = comes_to k s s.fallen (wanted m) told refl may;
  said = refl;
  or_given_up = λ h. comes_to k s s.fallen (wanted m) (Err given_up) refl (inr (given_up_at s.session None refl));
}

-- ---- refusals by the bytes

refused_says : (k : Readings) (s : Session) (w : Result Wanted Refusal) (place : Option ℕ) (why : Refusal) → place ≡ None → Refuses why w → MaySay k s w (refusal_at why place)
refused_says k s w place NoMemory none p = inr (given_up_at s place none)
refused_says k s w place why none p = inl (record {
  up = ap (λ x. said_only s (refusal_at why x)) none ∙ ap (λ (x : Result Wanted Refusal). request sha256 1 k s (wants_in x)) (sym p);
  down = λ count. ap (λ x. said_only s (refusal_at why x)) none ∙ ap (down_request k s count) (sym p);
})

pub refused_by_bytes : (k : Readings) (s : Standing) (m : Message) (refused : Refused) → Answers {A = Wanted} (Err refused) (wanted m) → Brings k s m (Err refused) (said_only s.session (Err refused)) s
refused_by_bytes k s m refused p = unchanged k s m (Err refused) (refused_says k s.session (wanted m) refused.place refused.why p.0 p.1)

-- ---- reading calls

answer_is : (k : Readings) (s : Session) (w : Result Wanted Refusal) (ask : Ask) (told : Result Told Refused) → w ≡ Ok (Read ask) → told_at s.book.state (answer sha256 s.book.state ask) ≡ told → IsAnswer k s w told
answer_is k s w ask told is p = record {
  up = ap (said_only s) (sym p) ∙ ap (λ (x : Result Wanted Refusal). request sha256 1 k s (wants_in x)) (sym is);
  down = λ count. ap (said_only s) (sym p) ∙ ap (down_request k s count) (sym is);
}

read_refused : (k : Readings) (s : Session) (w : Result Wanted Refusal) (ask : Ask) (place : Option ℕ) (why : Refusal) → w ≡ Ok (Read ask)
    → ReadRefuses sha256 s.book ask why (record { place = place; why = why }) → MaySay k s w (refusal_at why place)
read_refused k s w ask place NoMemory is p = inr (given_up_at s place p)
read_refused k s w ask place why is p = inl (answer_is k s w ask (refusal_at why place) is p)

pub read : (k : Readings) (s : Standing) (m : Message) (ask : Ask) (told : Result Told Refused) → wanted m ≡ Ok (Read ask) → Reads sha256 s.session.book ask told
    → Brings k s m told (said_only s.session told) s
read k s m ask (Ok told) w p = unchanged k s m (Ok told) (inl (answer_is k s.session (wanted m) ask (Ok told) w p))
read k s m ask (Err refused) w p = unchanged k s m (Err refused) (read_refused k s.session (wanted m) ask refused.place refused.why w p)
