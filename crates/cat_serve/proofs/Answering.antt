-- The turn of a request that is answered.
use Rattle.std.proofs.Common.{◌≡◌, ℕ, ◌==◌, List, ◌++◌, take, ◌||◌, true, false, Option, Some, Result, refl, sym, ◌∙◌, ap, subst, inl, inr}
use Rattle.cat_model.specs.declared.refusal.Refused.{Refused}
use Rattle.cat_model.specs.declared.reply.Told.{Told}
use Rattle.std.specs.Io.KnownBytes.{Appends}
use Rattle.cat_http.specs.Message.{Message}
use Rattle.cat_http.specs.Writing.{AppendsFront}
use Rattle.cat_desk.specs.Pass.{DeskId}
use Rattle.cat_desk.specs.declared.pass.Pass.{Pass}
use Rattle.cat_serve.specs.declared.ending.Session.TheVariants as ends
use Rattle.cat_serve.specs.Replies.{is_head, must_be_told, said_bytes}
use Rattle.cat_serve.specs.Sessions.{Readings, Point, Turn, Answered, BeginsAt, HasTaken, IsAt, asks_to_close}
use Rattle.cat_serve.specs.Answers.{SaysWith, RepliesTo, IsAsked, IsAnswered, LeavesAt}
use Rattle.cat_serve.proofs.Points.{Tells, tells, turn_of, answered_by}
use Rattle.cat_serve.proofs.Told.{appended}

module _ (desk : DeskId) (taken : List ℕ) where
  -- the turn whose reply is these bytes
  pub record IsMade (k : Readings) (c : Point) (left : ℕ) (m : Message) (rest bytes : List ℕ) (pass : Pass) (t : Turn) : Type 0 where
    pub answered : Answered k c t
    pub message_is : t.message ≡ m
    pub left_is : t.after.left ≡ left
    pub bytes_are : t.after.bytes ≡ rest
    pub written_is : t.after.written ≡ c.written ++ bytes
    pub pass_at : IsAt desk t.after.standing pass
    pub takes : HasTaken taken c.standing t.after.standing

  pub made : (k : Readings) (c : Point) (left : ℕ) (m : Message) (rest bytes : List ℕ) (pass pass' : Pass) (held : Option (List ℕ)) (told : Result Told Refused)
      → IsAsked desk c left m rest pass held → BeginsAt c.standing.session.readings k taken → SaysWith taken desk m pass told pass' → RepliesTo (asks_to_close m || left == 0) (is_head m) told bytes
      → (t : Turn) × IsMade k c left m rest bytes pass' t
  made k c left m rest bytes pass pass' held told asked begins says replies =
      let said = says k c.standing asked.pass_at begins in
      let t = tells k c.standing m (asks_to_close m || left == 0) told said.0 said.1 bytes said.2 replies in (
        turn_of m left rest (c.written ++ bytes) t.0 said.1,
        record {
          answered = answered_by k c left m rest bytes said.1 t.0 asked.reads asked.one_more t.1;
          message_is = refl;
          left_is = refl;
          bytes_are = refl;
          written_is = refl;
          pass_at = said.3;
          takes = said.4;
        },
      )

  -- what the sink holds after the reply, or a front of it
  module _ (k : Readings) (c : Point) (left : ℕ) (m : Message) (rest bytes : List ℕ) (pass pass' : Pass) (held held' : Option (List ℕ)) (told : Result Told Refused)
      (asked : IsAsked desk c left m rest pass held) (begins : BeginsAt c.standing.session.readings k taken) (says : SaysWith taken desk m pass told pass') (replies : RepliesTo (asks_to_close m || left == 0) (is_head m) told bytes) where
    -- the request doesn't ask for the end
    pub goes_on : asks_to_close m ≡ false → Appends held held' bytes → (t : Turn) × IsAnswered desk taken k c left rest t pass' held'
    goes_on asks written =
        let t = made k c left m rest bytes pass pass' held told asked begins says replies in (
          t.0,
          record {
            answered = t.1.answered;
            goes_on = subst (λ (n : Message). asks_to_close n ≡ false) (sym t.1.message_is) asks;
            left_is = t.1.left_is;
            bytes_are = t.1.bytes_are;
            pass_at = t.1.pass_at;
            takes = t.1.takes;
            held_is = appended held held' c.written bytes asked.held_is written ∙ ap Some (sym t.1.written_is);
          },
        )

    -- it does
    pub closed : asks_to_close m ≡ true → Appends held held' bytes → LeavesAt desk taken k c ends.Closed pass' held'
    closed asks written =
        let t = made k c left m rest bytes pass pass' held told asked begins says replies in (
          c.written ++ bytes,
          appended held held' c.written bytes asked.held_is written,
          t.0.after.standing,
          inr (
            t.0,
            record {
              answered = t.1.answered;
              asks = subst (λ (n : Message). asks_to_close n ≡ true) (sym t.1.message_is) asks;
              all = sym t.1.written_is;
              leaves = refl;
            },
          ),
          t.1.pass_at,
          t.1.takes,
        )

    -- a write failed
    pub cut : AppendsFront held held' bytes → LeavesAt desk taken k c ends.WriteFault pass' held'
    cut front =
        let t = made k c left m rest bytes pass pass' held told asked begins says replies in (
          c.written ++ take front.0 bytes,
          appended held held' c.written (take front.0 bytes) asked.held_is front.1,
          t.0.after.standing,
          (bytes, inl (t.0, t.1.answered, t.1.written_is, refl), front.0, refl),
          t.1.pass_at,
          t.1.takes,
        )

  -- a request was answered by what must be told, and no memory is left for its text
  pub untold : (k : Readings) (c : Point) (left : ℕ) (m : Message) (rest : List ℕ) (pass pass' : Pass) (held : Option (List ℕ)) (told : Result Told Refused)
      → IsAsked desk c left m rest pass held → BeginsAt c.standing.session.readings k taken → SaysWith taken desk m pass told pass' → must_be_told told ≡ true → LeavesAt desk taken k c ends.NoMemory pass' held
  untold k c left m rest pass pass' held told asked begins says must =
      let said = says k c.standing asked.pass_at begins in
      let close = asks_to_close m || left == 0 in
      let bytes = said_bytes close (is_head m) told in
      let written : Tells k c.standing m close said.1 bytes said.0 = record { brings = said.2.comes; bytes_are = ap (said_bytes close (is_head m)) (sym said.2.said) } in (
        c.written,
        asked.held_is,
        said.1,
        (
          refl,
          turn_of m left rest (c.written ++ bytes) said.0 said.1,
          answered_by k c left m rest bytes said.1 said.0 asked.reads asked.one_more written,
          ap must_be_told said.2.said ∙ must,
          refl,
        ),
        said.3,
        said.4,
      )
