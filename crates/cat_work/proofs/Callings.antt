-- What a call brings, by its step: a refusal, an entry, or a reply alone.
use Rattle.std.proofs.Common.{◌≡◌, ◌<◌, ◌⊎◌, inl, inr, ℕ, ◌+◌, max, List, [], ◌∷◌, Option, Some, None, Result, Ok, Err, Bool, true, false, if◌then◌else◌, nat_lt, refl, sym, ap, subst, ◌∙◌, arith}
use Rattle.std.proofs.lemmas.Bool.Decides.{nat_tests}
use Rattle.std.proofs.Math.Nat.{max-zero}
use Rattle.sha2.specs.Sha256.{sha256}
use Rattle.cat_names.specs.Fields.{Key}
use Rattle.cat_core.specs.Drafts.{may_open}
use Rattle.cat_model.specs.declared.command.Command.{Command}
use Rattle.cat_model.specs.declared.log_entry.LogEntry.{LogEntry}
use Rattle.cat_model.specs.declared.refusal.Refusal.{Refusal}
use Rattle.cat_model.specs.declared.refusal.Refusal.TheVariants.{Expired}
use Rattle.cat_model.specs.declared.refusal.Refused.{Refused}
use Rattle.cat_model.specs.declared.reply.Reply.{Reply}
use Rattle.cat_model.specs.declared.reply.Told.{Told}
use Rattle.cat_model.specs.Book.{Book, attempt_on, call_on}
use Rattle.cat_model.specs.Calls.{Called, attempt, entry_made, in_draft, in_next, needs_draft, number_on, stepped, told_at, tried, turn_on, unchanged_by}
use Rattle.cat_model.specs.CauseLaws.{Causes}
use Rattle.cat_model.specs.Refusing.{◌>>=◌, Outcome, Tested}
use Rattle.cat_model.specs.State.{State}
use Rattle.cat_model.specs.Step as steps
use Rattle.cat_model.specs.Step.{opening, opens_draft, step}
use Rattle.cat_work.specs.Answers.{ComesToIn, IsEntryOf}
use Rattle.cat_work.proofs.Openings.{early_opening, is_early}
use Rattle.cat_work.proofs.Steps.{step_first, step_stays}

-- the step refuses
pub record Refusing (draft : ℕ) (state : State) (c : Command) (moment : ℕ) (called : Called) : Type 0 where
  pub why : Refusal
  pub is : ComesToIn draft state c moment (Err why)
  pub said : called.said ≡ Err (record { place = Some state.place; why = why })
  pub none : called.logged ≡ []
  pub state_is : called.state ≡ state

-- the step is accepted with an entry
pub record Entering (n draft : ℕ) (state : State) (c : Command) (moment : ℕ) (called : Called) : Type 0 where
  pub turn : steps.Turn
  pub after : State
  pub reply : Reply
  pub is : step sha256 state c turn ≡ Ok (after, reply)
  pub draft_is : turn.draft ≡ draft
  pub moment_is : turn.moment ≡ moment
  pub higher : state.place < after.place
  pub said : called.said ≡ Ok (record { place = after.place; reply = reply })
  pub logged : called.logged ≡ entry_made sha256 n after c turn reply ∷ []
  pub state_is : called.state ≡ after

-- the step is accepted without one
pub record Telling (draft : ℕ) (state : State) (c : Command) (moment : ℕ) (called : Called) : Type 0 where
  pub reply : Reply
  pub is : ComesToIn draft state c moment (Ok (state, reply))
  pub said : called.said ≡ Ok (record { place = state.place; reply = reply })
  pub none : called.logged ≡ []
  pub state_is : called.state ≡ state

abbrev pub Brings : ℕ → ℕ → State → Command → ℕ → Called → Type 0
Brings n draft state c moment called = Refusing draft state c moment called ⊎ Entering n draft state c moment called ⊎ Telling draft state c moment called

-- ---- by the step

rises : (a b : ℕ) → nat_lt a b ≡ true → a < b
rises a b h = grind (arith, nat_tests, h)

chosen : (n : ℕ) (state after : State) (last : ℕ) (c : Command) (turn : steps.Turn) (reply : Reply) (b : Bool) → nat_lt state.place after.place ≡ b → step sha256 state c turn ≡ Ok (after, reply)
    → Brings n turn.draft state c turn.moment (if b then record { said = told_at after (Ok reply); logged = entry_made sha256 n after c turn reply ∷ []; state = after; draft = last } else unchanged_by state last (Ok reply))
chosen n state after last c turn reply true up e = inr (inl (record { turn = turn; after = after; reply = reply; is = e; draft_is = refl; moment_is = refl; higher = rises state.place after.place up; said = refl; logged = refl; state_is = refl }))
chosen n state after last c turn reply false flat e =
    let same : after ≡ state = step_stays state after c turn reply e flat in
    inr (inr (record { reply = reply; is = (turn.opened, e ∙ ap (λ (s : State). Ok (s, reply)) same); said = refl; none = refl; state_is = refl }))

stepped_brings : (n : ℕ) (state : State) (last : ℕ) (c : Command) (turn : steps.Turn) (outcome : Outcome) → step sha256 state c turn ≡ outcome → Brings n turn.draft state c turn.moment (stepped sha256 n state last c turn outcome)
stepped_brings n state last c turn (Err why) e = inl (record { why = why; is = (turn.opened, e); said = refl; none = refl; state_is = refl })
stepped_brings n state last c turn (Ok (after, reply)) e = chosen n state after last c turn reply (nat_lt state.place after.place) refl e

tests_refuse : (n draft moment : ℕ) (state : State) (last : ℕ) (c : Command) (why : Refusal) → opening sha256 state c ≡ Err why → Brings n draft state c moment (unchanged_by state last (Err why))
tests_refuse n draft moment state last c why e = inl (record { why = why; is = (0, step_first state c (record { draft = draft; opened = 0; moment = moment }) why e); said = refl; none = refl; state_is = refl })

-- ---- in a draft

made_by : (n moment draft opened : ℕ) (b : Book) (c : Command) (t : Tested) → opening sha256 b.state c ≡ t → Brings n draft b.state c moment (tried sha256 n b.state b.draft c (record { draft = draft; opened = opened; moment = moment }) t)
made_by n moment draft opened b c (Err why) e = tests_refuse n draft moment b.state b.draft c why e
made_by n moment draft opened b c (Ok u) e =
    let turn : steps.Turn = record { draft = draft; opened = opened; moment = moment } in
    stepped_brings n b.state (max b.draft draft) c turn (step sha256 b.state c turn) refl

pub made_brings : (n moment draft place : ℕ) (b : Book) (c : Command) → Brings n draft b.state c moment (attempt_on sha256 b (in_draft n moment draft place) c)
unfolding attempt
made_brings n moment draft place b c = made_by n moment draft place b c (opening sha256 b.state c) refl

-- the last draft number stays, where the draft has it
draft_by : (b : Bool) (x y : Called) (draft : ℕ) → x.draft ≡ draft → y.draft ≡ draft → (if b then x else y).draft ≡ draft
draft_by true x y draft p q = p
draft_by false x y draft p q = q

draft_of : (n : ℕ) (state : State) (last : ℕ) (c : Command) (turn : steps.Turn) (outcome : Outcome) → (stepped sha256 n state last c turn outcome).draft ≡ last
draft_of n state last c turn (Err why) = refl
draft_of n state last c turn (Ok (after, reply)) = draft_by (nat_lt state.place after.place) _ (unchanged_by state last (Ok reply)) last refl refl

greatest : (a b : ℕ) → b ≡ a → max a b ≡ a
greatest a b e = omega arith

draft_tried : (n : ℕ) (b : Book) (c : Command) (turn : steps.Turn) (t : Tested) → max b.draft turn.draft ≡ b.draft → (tried sha256 n b.state b.draft c turn t).draft ≡ b.draft
draft_tried n b c turn (Err why) same = refl
draft_tried n b c turn (Ok u) same = draft_of n b.state (max b.draft turn.draft) c turn (step sha256 b.state c turn) ∙ same

pub made_draft : (n moment draft place : ℕ) (b : Book) (c : Command) → draft ≡ b.draft → (attempt_on sha256 b (in_draft n moment draft place) c).draft ≡ b.draft
unfolding attempt
made_draft n moment draft place b c same = draft_tried n b c (record { draft = draft; opened = place; moment = moment }) (opening sha256 b.state c) (greatest b.draft draft same)

-- ---- without a draft

abbrev pub undrafted : ℕ → State → steps.Turn
undrafted moment state = record { draft = 0; opened = state.place; moment = moment }

passed_again : (t : Tested) → (t >>= λ _. Ok tt) ≡ t
passed_again (Err why) = refl
passed_again (Ok u) = refl

call_is : (n moment : ℕ) (b : Book) (c : Command) → opens_draft c ≡ false → call_on sha256 n b c moment ≡ tried sha256 n b.state b.draft c (undrafted moment b.state) (opening sha256 b.state c)
unfolding attempt
call_is n moment b c opens = rw (opens, passed_again (opening sha256 b.state c)) refl

pub call_brings : (n moment : ℕ) (b : Book) (c : Command) → opens_draft c ≡ false → Brings n 0 b.state c moment (call_on sha256 n b c moment)
call_brings n moment b c opens = subst (λ (called : Called). Brings n 0 b.state c moment called) (sym (call_is n moment b c opens)) (made_by n moment 0 b.state.place b c (opening sha256 b.state c) refl)

pub call_draft : (n moment : ℕ) (b : Book) (c : Command) → opens_draft c ≡ false → (call_on sha256 n b c moment).draft ≡ b.draft
call_draft n moment b c opens = ap (λ (called : Called). called.draft) (call_is n moment b c opens) ∙ draft_tried n b c (undrafted moment b.state) (opening sha256 b.state c) (max-zero b.draft)

-- ---- the draft of an opening, where nothing came between

passes_first : (t : Tested) (next : Tested) → (t >>= λ _. next) ≡ Ok tt → t ≡ Ok tt
passes_first (Ok u) next e = refl
passes_first (Err why) next e = absurd cc

-- the tests before the draft pass where one may be opened
pub may_pass : (b : Book) (c : Command) → may_open b c ≡ Ok tt → opening sha256 b.state c ≡ Ok tt
may_pass b c e = passes_first (opening sha256 b.state c) (needs_draft b.state b.draft true) e

max_self : (n : ℕ) → max n n ≡ n
max_self n = omega arith

max_next : (n : ℕ) → max n (n + 1) ≡ n + 1
max_next n = omega arith

-- the call in its draft is the model's call, where the draft was opened at the state and its number was the next
pub called_alone : (n moment : ℕ) (b : Book) (c : Command) → opens_draft c ≡ true → may_open b c ≡ Ok tt → attempt_on sha256 (record b { draft = b.draft + 1 }) (in_draft n moment (b.draft + 1) b.state.place) c ≡ call_on sha256 n b c moment
unfolding attempt
called_alone n moment b c opens passes =
    let turn : steps.Turn = record { draft = b.draft + 1; opened = b.state.place; moment = moment } in
    let tests : (opening sha256 b.state c >>= λ _. needs_draft b.state b.draft (opens_draft c)) ≡ Ok tt = ap (λ (o : Bool). opening sha256 b.state c >>= λ _. needs_draft b.state b.draft o) opens ∙ passes in
    let number : number_on b.draft None (opens_draft c) ≡ b.draft + 1 = ap (number_on b.draft None) opens in
    let next : steps.Turn = turn_on b.state b.draft (in_next n moment) (opens_draft c) in
    let same : next ≡ turn = ap (λ (d : ℕ). let t : steps.Turn = record { draft = d; opened = b.state.place; moment = moment } in t) number in
    ap (tried sha256 n b.state (b.draft + 1) c turn) (may_pass b c passes)
    ∙ ap (λ (last : ℕ). stepped sha256 n b.state last c turn (step sha256 b.state c turn)) (max_self (b.draft + 1) ∙ sym (max_next b.draft))
    ∙ sym (ap (tried sha256 n b.state b.draft c next) tests ∙ ap (λ (t : steps.Turn). stepped sha256 n b.state (max b.draft t.draft) c t (step sha256 b.state c t)) same)

-- ---- what is told, by what is brought

-- a refusal is the step's
pub record IsStepsOwn (draft : ℕ) (state : State) (c : Command) (moment : ℕ) (r : Refused) (called : Called) : Type 0 where
  pub place : r.place ≡ Some state.place
  pub why : ComesToIn draft state c moment (Err r.why)
  pub none : called.logged ≡ []
  pub state_is : called.state ≡ state

abbrev ok : Told → Result Told Refused
ok told = Ok told

abbrev err : Refused → Result Told Refused
err r = Err r

abbrev failed : Refusal → Outcome
failed why = Err why

apart : {A : Type 0} (told : Told) (r : Refused) → ok told ≡ err r → A
apart told r e = absurd cc

same_refused : (a b : Refused) → err a ≡ err b → a ≡ b
same_refused a b e = cc

same_told : (a b : Told) → ok a ≡ ok b → a ≡ b
same_told a b e = cc

pub refused_is : (n draft : ℕ) (state : State) (c : Command) (moment : ℕ) (called : Called) (r : Refused) → Brings n draft state c moment called → called.said ≡ Err r → IsStepsOwn draft state c moment r called
refused_is n draft state c moment called r (inl x) e =
    let same : record { place = Some state.place; why = x.why } ≡ r = same_refused (record { place = Some state.place; why = x.why }) r (sym x.said ∙ e) in
    record {
      place = sym (ap (λ (y : Refused). y.place) same);
      why = subst (λ (y : Refused). ComesToIn draft state c moment (Err y.why)) same x.is;
      none = x.none;
      state_is = x.state_is;
    }
refused_is n draft state c moment called r (inr (inl x)) e = apart _ r (sym x.said ∙ e)
refused_is n draft state c moment called r (inr (inr x)) e = apart _ r (sym x.said ∙ e)

-- a reply comes with an entry, or alone
abbrev pub IsTold : ℕ → ℕ → State → Command → ℕ → Told → Called → Type 0
IsTold n draft state c moment told called = ((x : Entering n draft state c moment called) × (told ≡ record { place = x.after.place; reply = x.reply })) ⊎ ((x : Telling draft state c moment called) × (told ≡ record { place = state.place; reply = x.reply }))

pub told_is : (n draft : ℕ) (state : State) (c : Command) (moment : ℕ) (called : Called) (told : Told) → Brings n draft state c moment called → called.said ≡ Ok told → IsTold n draft state c moment told called
told_is n draft state c moment called told (inl x) e = apart told _ (sym e ∙ x.said)
told_is n draft state c moment called told (inr (inl x)) e = inl (x, same_told told _ (sym e ∙ x.said))
told_is n draft state c moment called told (inr (inr x)) e = inr (x, same_told told _ (sym e ∙ x.said))

none_is_not_one : {A : Type 0} (entry : LogEntry) → [] ≡ entry ∷ [] → A
none_is_not_one entry e = absurd cc

head_in : List LogEntry → LogEntry → LogEntry
head_in [] other = other
head_in (entry ∷ entries) other = entry

-- an entry is that of an accepted step
pub entry_is : (n draft : ℕ) (state : State) (c : Command) (moment : ℕ) (called : Called) (entry : LogEntry) → Brings n draft state c moment called → called.logged ≡ entry ∷ [] → IsEntryOf n state c moment entry
unfolding head_in
entry_is n draft state c moment called entry (inl x) e = none_is_not_one entry (sym x.none ∙ e)
entry_is n draft state c moment called entry (inr (inl x)) e = record {
  turn = x.turn;
  after = x.after;
  reply = x.reply;
  is = x.is;
  higher = x.higher;
  moment_is = x.moment_is;
  entry_is = ap (λ (l : List LogEntry). head_in l entry) (sym e ∙ x.logged);
}
entry_is n draft state c moment called entry (inr (inr x)) e = none_is_not_one entry (sym x.none ∙ e)

-- and it is in the draft of the call
pub entry_draft_is : (n draft : ℕ) (state : State) (c : Command) (moment : ℕ) (called : Called) (entry : LogEntry) → Brings n draft state c moment called → called.logged ≡ entry ∷ [] → entry.draft ≡ draft
unfolding head_in entry_made
entry_draft_is n draft state c moment called entry (inl x) e = none_is_not_one entry (sym x.none ∙ e)
entry_draft_is n draft state c moment called entry (inr (inl x)) e = ap (λ (l : List LogEntry). (head_in l entry).draft) (sym e ∙ x.logged) ∙ x.draft_is
entry_draft_is n draft state c moment called entry (inr (inr x)) e = none_is_not_one entry (sym x.none ∙ e)

-- ---- contents that are gone

-- the step of the call says so
pub record IsGone (state : State) (c : Command) (turn : steps.Turn) (place : Option ℕ) (keys : List Key) (opened : ℕ) : Type 0 where
  pub at : place ≡ Some state.place
  pub passes : opening sha256 state c ≡ Ok tt
  pub is : step sha256 state c turn ≡ Err (Expired keys opened)

accepted : {A : Type 0} (b : Bool) (x y : Called) (t u : Told) (r : Refused) → x.said ≡ Ok t → y.said ≡ Ok u → (if b then x else y).said ≡ Err r → A
accepted true x y t u r p q e = apart t r (sym p ∙ e)
accepted false x y t u r p q e = apart u r (sym q ∙ e)

step_refused : (n : ℕ) (state : State) (last : ℕ) (c : Command) (turn : steps.Turn) (r : Refused) (outcome : Outcome) → step sha256 state c turn ≡ outcome → (stepped sha256 n state last c turn outcome).said ≡ Err r → (r.place ≡ Some state.place) × (step sha256 state c turn ≡ Err r.why)
step_refused n state last c turn r (Err why) e said =
    let same : record { place = Some state.place; why = why } ≡ r = same_refused (record { place = Some state.place; why = why }) r said in
    (sym (ap (λ (x : Refused). x.place) same), e ∙ ap (λ (x : Refused). failed x.why) same)
step_refused n state last c turn r (Ok (after, reply)) e said = accepted (nat_lt state.place after.place) _ (unchanged_by state last (Ok reply)) _ _ r refl refl said

-- the tests before a draft don't say so
tests_tell : {A : Type 0} (why : Refusal) (keys : List Key) (opened : ℕ) → is_early why ≡ true → why ≡ Expired keys opened → A
tests_tell why keys opened early gone = absurd (let wrong : false ≡ true = subst (λ (w : Refusal). is_early w ≡ true) gone early in cc)

tried_gone : (n : ℕ) (b : Book) (c : Command) (turn : steps.Turn) (r : Refused) (keys : List Key) (opened : ℕ) (t : Tested) → opening sha256 b.state c ≡ t → r.why ≡ Expired keys opened → (tried sha256 n b.state b.draft c turn t).said ≡ Err r → IsGone b.state c turn r.place keys opened
tried_gone n b c turn r keys opened (Err why) e gone said =
    let same : record { place = Some b.state.place; why = why } ≡ r = same_refused (record { place = Some b.state.place; why = why }) r said in
    tests_tell why keys opened (subst (λ (t : Tested). Causes is_early t) e (early_opening b.state c)) (ap (λ (x : Refused). x.why) same ∙ gone)
tried_gone n b c turn r keys opened (Ok u) e gone said =
    let refused = step_refused n b.state (max b.draft turn.draft) c turn r (step sha256 b.state c turn) refl said in
    record { at = refused.0; passes = e; is = refused.1 ∙ ap failed gone }

pub draft_gone : (n moment draft place : ℕ) (b : Book) (c : Command) (r : Refused) (keys : List Key) (opened : ℕ) → r.why ≡ Expired keys opened → (attempt_on sha256 b (in_draft n moment draft place) c).said ≡ Err r
    → IsGone b.state c (record { draft = draft; opened = place; moment = moment }) r.place keys opened
unfolding attempt
draft_gone n moment draft place b c r keys opened gone said = tried_gone n b c (record { draft = draft; opened = place; moment = moment }) r keys opened (opening sha256 b.state c) refl gone said

pub call_gone : (n moment : ℕ) (b : Book) (c : Command) (r : Refused) (keys : List Key) (opened : ℕ) → opens_draft c ≡ false → r.why ≡ Expired keys opened → (call_on sha256 n b c moment).said ≡ Err r → IsGone b.state c (undrafted moment b.state) r.place keys opened
call_gone n moment b c r keys opened opens gone said =
    tried_gone n b c (undrafted moment b.state) r keys opened (opening sha256 b.state c) refl gone (ap (λ (called : Called). called.said) (sym (call_is n moment b c opens)) ∙ said)
