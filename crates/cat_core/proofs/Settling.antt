-- What settling a draft comes to, by how far it gets.
use Rattle.std.proofs.Common.{◌≡◌, ◌⊎◌, inl, inr, ℕ, List, [], Option, Some, None, Result, Ok, Err, true, false, refl, sym, ap, ◌∙◌, subst}
use Rattle.sha2.specs.Sha256.{sha256}
use Rattle.cat_keeper.specs.declared.keeper.Keeper.{Ghosts}
use Rattle.cat_names.specs.Fields.{Key}
use Rattle.cat_names.specs.declared.hash.Hash.{Hash}
use Rattle.cat_model.specs.declared.command.Command.{Command}
use Rattle.cat_model.specs.declared.log_entry.LogEntry.{LogEntry}
use Rattle.cat_model.specs.declared.reference.Reference.{Reference}
use Rattle.cat_model.specs.declared.refusal.Refusal.{Refusal}
use Rattle.cat_model.specs.declared.refusal.Refusal.TheVariants.{BadRequest, RefNotFound, RefExists, ContentNotFound, Conflicts, Expired, RetriesSpent, SweepOpen, Limit, Collision, Fault, Down, NoMemory, NoRoute, WrongMethod, TooLarge, Encoding, OldFormat}
use Rattle.cat_model.specs.declared.refusal.Refused.{Refused}
use Rattle.cat_model.specs.declared.reply.Told.{Told}
use Rattle.cat_model.specs.Book.{attempt_on}
use Rattle.cat_model.specs.Calls.{Called, in_draft}
use Rattle.cat_model.specs.Drafts.{Open}
use Rattle.cat_model.specs.Mark.{FailedAppend}
use Rattle.cat_model.specs.Refusing.{Tested}
use Rattle.cat_model.specs.State.{State, reference_of}
use Rattle.cat_model.specs.Step.{opening, opens_draft}
use Rattle.cat_state.specs.declared.failure.Failure.{Failure}
use Rattle.cat_state.specs.declared.failure.Failure.TheVariants as failures
use Rattle.cat_state.specs.Giving.{Fails}
use Rattle.cat_decisions.specs.declared.building.Built.{Built}
use Rattle.cat_decisions.specs.Builds.{HasHead, branch_of}
use Rattle.cat_state.specs.Kept.{Leaves, Stayed}
use Rattle.cat_core.specs.Making.{refused_at}
use Rattle.cat_core.specs.PlainLaws.{IsOther}
use Rattle.cat_state.proofs.Appended.{leaves_any, stays}
use Rattle.cat_core.specs.declared.draft.Draft.{Draft}
use Rattle.cat_core.specs.declared.draft.Settled.{Settled}
use Rattle.cat_core.specs.declared.draft.Settled.TheVariants as settled
use Rattle.cat_core.specs.Drafts.{Expires, IsGivenBack, IsOn, IsRefused, NotOpened, Refuses, RefusesDraft, called_in, closed, command_in, is_expired, may_open, opening_in}
use Rattle.cat_core.specs.Kept.{IsSettled, IsTold, KeepsTold}
use Rattle.cat_core.specs.Stored.{IsDownAt, IsUp, Stored}
use Rattle.cat_core.proofs.Before.{open_other, opening_other, opening_there, tests_refuse}
use Rattle.cat_core.proofs.InStep.{right_attempt}
use Rattle.cat_core.proofs.Keeping.{not_fault}
use Rattle.cat_core.proofs.Making.{refuses, up_of}

-- ---- before a draft

-- a failure before a draft is opened
pub not_opened : {K : Type 0} (s : Stored K) (c : Command) (place : ℕ) (r : Refused) (failure : Failure) → opens_draft c ≡ true → IsUp s → place ≡ s.book.state.place → r ≡ refused_at place failure → Fails failure (may_open s.book c) → NotOpened s c r r.why
not_opened {K} s c place r failure opens up at is fails =
    subst (λ (x : Refused). NotOpened s c x x.why) (sym is) (subst (λ (p : ℕ). NotOpened s c (refused_at p failure) (refused_at p failure).why) (sym at) (by failure fails))
  where
    by_why : (why : Refusal) → IsOther why → may_open s.book c ≡ Err why → NotOpened s c (record { place = Some s.book.state.place; why = why }) why
    by_why (BadRequest x) other e = (up, refl, e)
    by_why RefNotFound other e = (up, refl, e)
    by_why RefExists other e = (up, refl, e)
    by_why (ContentNotFound x) other e = (up, refl, e)
    by_why (Conflicts x) other e = (up, refl, e)
    by_why (Expired x y) other e = (up, refl, e)
    by_why (RetriesSpent x) other e = (up, refl, e)
    by_why (SweepOpen x) other e = (up, refl, e)
    by_why (Limit x y) other e = (up, refl, e)
    by_why (Collision x y z) other e = (up, refl, e)
    by_why Fault other e = absurd cc
    by_why (Down x) other e = absurd cc
    by_why NoMemory other e = absurd cc
    by_why NoRoute other e = (up, refl, e)
    by_why (WrongMethod x) other e = (up, refl, e)
    by_why TooLarge other e = (up, refl, e)
    by_why Encoding other e = (up, refl, e)
    by_why OldFormat other e = (up, refl, e)

    by : (failure : Failure) → Fails failure (may_open s.book c) → NotOpened s c (refused_at s.book.state.place failure) (refused_at s.book.state.place failure).why
    by failures.NoMemory fails = refl
    by (failures.Refused why) fails = by_why why (open_other s.book c why fails) fails

pub not_opened_down : {K : Type 0} (s : Stored K) (c : Command) (place count : ℕ) (r : Refused) → IsDownAt s count → place ≡ s.book.state.place → r ≡ record { place = Some place; why = Down count } → NotOpened s c r r.why
not_opened_down {K} s c place count r down at is = subst (λ (x : Refused). NotOpened s c x x.why) (sym is) (ap (λ (p : ℕ). Some p) at, down)

pub not_opened_spared : {K : Type 0} (s : Stored K) (c : Command) (r : Refused) → r ≡ record { place = None; why = NoMemory } → NotOpened s c r r.why
not_opened_spared {K} s c r is = subst (λ (x : Refused). NotOpened s c x x.why) (sym is) refl

-- ---- heads

one_branch : (a b : Option Reference) (x y : Reference) → a ≡ b → a ≡ Some x → b ≡ Some y → x ≡ y
one_branch a b x y same p q = cc

pub one_head : (state : State) (c : Command) (x y : Hash) → HasHead state c x → HasHead state c y → x ≡ y
one_head state c x y p q =
    let same : p.0 ≡ q.0 = one_branch (reference_of state.references (branch_of c)) (reference_of state.references (branch_of c)) p.0 q.0 refl p.1 q.1 in
    sym p.2 ∙ ap (λ (r : Reference). r.head) same ∙ q.2

-- ---- a call is refused on what was left open

refused_on : {K : Type 0} (s : Stored K) (called : Called) (caller : ℕ) (r : Refused) (s' : Stored K) (left_open : Open) (why : Refusal) → Refuses called caller (record s { left_open = left_open }) r why s' left_open → Refuses called caller s r why s' left_open
refused_on s called caller r s' left_open (BadRequest x) is = record { up = is.up; said = is.said; none = is.none; after = is.after }
refused_on s called caller r s' left_open RefNotFound is = record { up = is.up; said = is.said; none = is.none; after = is.after }
refused_on s called caller r s' left_open RefExists is = record { up = is.up; said = is.said; none = is.none; after = is.after }
refused_on s called caller r s' left_open (ContentNotFound x) is = record { up = is.up; said = is.said; none = is.none; after = is.after }
refused_on s called caller r s' left_open (Conflicts x) is = record { up = is.up; said = is.said; none = is.none; after = is.after }
refused_on s called caller r s' left_open (Expired x y) is = record { up = is.up; said = is.said; none = is.none; after = is.after }
refused_on s called caller r s' left_open (RetriesSpent x) is = record { up = is.up; said = is.said; none = is.none; after = is.after }
refused_on s called caller r s' left_open (SweepOpen x) is = record { up = is.up; said = is.said; none = is.none; after = is.after }
refused_on s called caller r s' left_open (Limit x y) is = record { up = is.up; said = is.said; none = is.none; after = is.after }
refused_on s called caller r s' left_open (Collision x y z) is = record { up = is.up; said = is.said; none = is.none; after = is.after }
refused_on s called caller r s' left_open Fault is =
    record { up = is.up; place = is.place; entry = is.entry; logged = is.logged; fault = is.fault; caller_is = is.caller_is; payload = is.payload; after = is.after }
refused_on s called caller r s' left_open (Down x) is = is
refused_on s called caller r s' left_open NoMemory is = is
refused_on s called caller r s' left_open NoRoute is = record { up = is.up; said = is.said; none = is.none; after = is.after }
refused_on s called caller r s' left_open (WrongMethod x) is = record { up = is.up; said = is.said; none = is.none; after = is.after }
refused_on s called caller r s' left_open TooLarge is = record { up = is.up; said = is.said; none = is.none; after = is.after }
refused_on s called caller r s' left_open Encoding is = record { up = is.up; said = is.said; none = is.none; after = is.after }
refused_on s called caller r s' left_open OldFormat is = record { up = is.up; said = is.said; none = is.none; after = is.after }

-- ---- refusals of drafts that are settled

-- a cause that says that contents are gone
gone_is : (why : Refusal) → is_expired why ≡ true → (keys : List Key) × (place : ℕ) × (why ≡ Expired keys place)
gone_is (BadRequest x) e = absurd cc
gone_is RefNotFound e = absurd cc
gone_is RefExists e = absurd cc
gone_is (ContentNotFound x) e = absurd cc
gone_is (Conflicts x) e = absurd cc
gone_is (Expired x y) e = (x, y, refl)
gone_is (RetriesSpent x) e = absurd cc
gone_is (SweepOpen x) e = absurd cc
gone_is (Limit x y) e = absurd cc
gone_is (Collision x y z) e = absurd cc
gone_is Fault e = absurd cc
gone_is (Down x) e = absurd cc
gone_is NoMemory e = absurd cc
gone_is NoRoute e = absurd cc
gone_is (WrongMethod x) e = absurd cc
gone_is TooLarge e = absurd cc
gone_is Encoding e = absurd cc
gone_is OldFormat e = absurd cc

-- another cause
refuses_draft : {K : Type 0} (called : Called) (s : Stored K) (d : Draft) (r : Refused) (why : Refusal) (s' : Stored K) → is_expired why ≡ false → Refuses called d.caller s r why s' (closed s d) → RefusesDraft called s d r why s'
refuses_draft called s d r (BadRequest x) s' there is = is
refuses_draft called s d r RefNotFound s' there is = is
refuses_draft called s d r RefExists s' there is = is
refuses_draft called s d r (ContentNotFound x) s' there is = is
refuses_draft called s d r (Conflicts x) s' there is = is
refuses_draft called s d r (Expired x y) s' there is = absurd cc
refuses_draft called s d r (RetriesSpent x) s' there is = is
refuses_draft called s d r (SweepOpen x) s' there is = is
refuses_draft called s d r (Limit x y) s' there is = is
refuses_draft called s d r (Collision x y z) s' there is = is
refuses_draft called s d r Fault s' there is = is
refuses_draft called s d r (Down x) s' there is = is
refuses_draft called s d r NoMemory s' there is = is
refuses_draft called s d r NoRoute s' there is = is
refuses_draft called s d r (WrongMethod x) s' there is = is
refuses_draft called s d r TooLarge s' there is = is
refuses_draft called s d r Encoding s' there is = is
refuses_draft called s d r OldFormat s' there is = is

-- one or the other
pub draft_refused : {K : Type 0} (called : Called) (s : Stored K) (d : Draft) (r : Refused) (why : Refusal) (s' : Stored K) → RefusesDraft called s d r why s' → Expires called s d r s' ⊎ Refuses called d.caller s r why s' (closed s d)
draft_refused called s d r (BadRequest x) s' is = inr is
draft_refused called s d r RefNotFound s' is = inr is
draft_refused called s d r RefExists s' is = inr is
draft_refused called s d r (ContentNotFound x) s' is = inr is
draft_refused called s d r (Conflicts x) s' is = inr is
draft_refused called s d r (Expired x y) s' is = inl is
draft_refused called s d r (RetriesSpent x) s' is = inr is
draft_refused called s d r (SweepOpen x) s' is = inr is
draft_refused called s d r (Limit x y) s' is = inr is
draft_refused called s d r (Collision x y z) s' is = inr is
draft_refused called s d r Fault s' is = inr is
draft_refused called s d r (Down x) s' is = inr is
draft_refused called s d r NoMemory s' is = inr is
draft_refused called s d r NoRoute s' is = inr is
draft_refused called s d r (WrongMethod x) s' is = inr is
draft_refused called s d r TooLarge s' is = inr is
draft_refused called s d r Encoding s' is = inr is
draft_refused called s d r OldFormat s' is = inr is

-- ---- settling

pub up_not_down : {K : Type 0} (s : Stored K) (count : ℕ) → IsUp s → IsDownAt s count → ⊥
up_not_down s count up down = up_of down.0 (sym up ∙ down.1)

pub up_rests : {K : Type 0} (s s' : Stored K) → IsUp s → (x : FailedAppend) → s.mark.fault ≡ Some x → s'.keeper ≡ s.keeper
up_rests s s' up x is = absurd (up_of x (sym up ∙ is))

err_not_ok : (t : Tested) (why : Refusal) → t ≡ Err why → t ≡ Ok tt → ⊥
err_not_ok t why e o = cc

module _ {K : Type 0} (members : Ghosts K)
    (safe : (k : K) (ps : List (List ℕ)) (c : Option (List (List ℕ))) → members.down k ≡ None → members.told k ≡ Some ps → members.may_leave k c → c ≡ Some ps)
    (only_now : (k : K) (c : Option (List (List ℕ))) → members.left_since k (members.moment k) c → members.may_leave k c) where
  -- the keeper wasn't touched
  pub still : (k k' : K) → k' ≡ k → Stayed members k k'
  still k k' same = subst (λ (x : K). Stayed members k x) (sym same) (stays members safe only_now k)

  pub still_leaves : (k k' : K) (logged : List LogEntry) → k' ≡ k → members.down k ≡ None → Leaves members k k' logged
  still_leaves k k' logged same up = leaves_any members safe only_now k k' logged up (still k k' same).crash

  module _ (s s' : Stored K) (d : Draft) (built : Built) (at : ℕ) (is_up : IsUp s → members.down s.keeper ≡ None) where
    abbrev It : Settled → Type 0
    It result = IsSettled members s s' d built at result

    abbrev called : Called
    called = called_in s d at

    keeper_same : s' ≡ record s { left_open = closed s d } → s'.keeper ≡ s.keeper
    keeper_same left = ap (λ (x : Stored K). x.keeper) left

    same_as : s' ≡ record s { left_open = closed s d } → s' ≡ record s { keeper = s'.keeper; left_open = closed s d }
    same_as left = left ∙ ap (λ (k : K). record s { keeper = k; left_open = closed s d }) (sym (keeper_same left))

    crash_same : s'.keeper ≡ s.keeper → IsUp s → Leaves members s.keeper s'.keeper called.logged
    crash_same same up = still_leaves s.keeper s'.keeper called.logged same (is_up up)

    -- an append had failed
    pub settled_down : (place count : ℕ) (r : Refused) → IsDownAt s count → place ≡ s.book.state.place → r ≡ record { place = Some place; why = Down count } → s' ≡ record s { left_open = closed s d } → It (settled.Refused r)
    settled_down place count r fell same_place is left = subst (λ (x : Refused). It (settled.Refused x)) (sym is) record {
      settles = (λ up passes other. absurd (up_not_down s count up fell), (ap (λ (p : ℕ). Some p) same_place, fell, left));
      keeps = λ up. absurd (up_not_down s count up fell);
      crash = λ up. absurd (up_not_down s count up fell);
      rests = λ x failed. keeper_same left;
    }

    -- the tests before a draft refuse it
    pub settled_refused : (place : ℕ) (why : Refusal) (r : Refused) → IsUp s → opening sha256 s.book.state (command_in d) ≡ Err why → place ≡ s.book.state.place → r ≡ refused_at place (failures.Refused why) → s' ≡ record s { left_open = closed s d } → It (settled.Refused r)
    settled_refused place why r up fails same_place is left =
        let other : IsOther why = opening_other s.book.state (command_in d) why fails in
        let called_so = tests_refuse s.book d.caller at d.number d.place (command_in d) why fails in
        let there : is_expired why ≡ false = opening_there s.book.state (command_in d) why fails in
        let none : called.logged ≡ [] = (right_attempt s.book (in_draft d.caller at d.number d.place) (command_in d)).none _ called_so.said in
        let here : Refused = record { place = Some s.book.state.place; why = why } in
        let same : here ≡ r = ap (λ (p : ℕ). let x : Refused = record { place = Some p; why = why } in x) (sym same_place) ∙ sym is in
        subst (λ (x : Refused). It (settled.Refused x)) same record {
          settles = (λ u passes other. absurd (err_not_ok _ why fails passes), refuses_draft called s d here why s' there (refuses called d.caller s here s' (closed s d) why other (record { up = up; said = called_so.said; none = none; after = same_as left })));
          keeps = λ u. record { done = tt; fault = λ is_fault. absurd (not_fault why other is_fault); other = λ no. still s.keeper s'.keeper (keeper_same left) };
          crash = crash_same (keeper_same left);
          rests = λ x failed. keeper_same left;
        }

    -- the branch has another head
    pub settled_moved : (head : Hash) (result : Settled) → IsUp s → opening sha256 s.book.state (command_in d) ≡ Ok tt → HasHead s.book.state (command_in d) head → (head ≡ built.head → ⊥) → IsGivenBack s d result s' → It result
    settled_moved head (settled.Done x) up passes has other back = absurd back
    settled_moved head (settled.Refused r) up passes has other back = subst (λ (x : Refused). It (settled.Refused x)) (sym back.0) record {
      settles = (λ u p no. absurd (no refl), (refl, same_as back.1));
      keeps = λ u. record { done = tt; fault = λ is_fault. absurd cc; other = λ no. still s.keeper s'.keeper (keeper_same back.1) };
      crash = crash_same (keeper_same back.1);
      rests = λ x failed. keeper_same back.1;
    }
    settled_moved head (settled.Moved e view) up passes has other back =
        let same : s'.keeper ≡ s.keeper = ap (λ (x : Stored K). x.keeper) back.2 in
        record {
          settles = record { up = up; passes = passes; other = λ on. other (one_head s.book.state (command_in d) head built.head has on); draft = back.0; view_is = back.1; after = back.2 };
          keeps = λ u. still s.keeper s'.keeper same;
          crash = crash_same same;
          rests = λ x failed. same;
        }

    module _ (up : IsUp s) (shut : Stored K) (on : IsOn s d built) (left : shut ≡ record s { left_open = closed s d }) where
      abbrev Tells : Stored K → Result Told Refused → Type 0
      Tells made result = IsTold members d.caller shut made (attempt_on sha256 shut.book (in_draft d.caller at d.number d.place) (command_in d)) result

      told_of : (made : Stored K) (result : Result Told Refused) → Tells made result → IsTold members d.caller (record s { left_open = closed s d }) made called result
      told_of made result is = subst (λ (x : Stored K). IsTold members d.caller x made (attempt_on sha256 x.book (in_draft d.caller at d.number d.place) (command_in d)) result) left is

      -- the call is made
      pub settled_done : (x : Told) → Tells s' (Ok x) → It (settled.Done x)
      settled_done x is =
          let own = told_of s' (Ok x) is in
          record { settles = (on, record { up = own.refers.up; said = own.refers.said; after = own.refers.after }); keeps = λ u. own.keeps; crash = λ u. own.crash; rests = up_rests s s' up }

      -- it is refused, not for contents that are gone
      pub settled_unmade : (r : Refused) → is_expired r.why ≡ false → Tells s' (Err r) → It (settled.Refused r)
      settled_unmade r there is =
          let own = told_of s' (Err r) is in
          record { settles = (λ u p no. on, refuses_draft called s d r r.why s' there (refused_on s called d.caller r s' (closed s d) r.why own.refers)); keeps = λ u. own.keeps; crash = λ u. own.crash; rests = up_rests s s' up }

      -- it is refused for these, and the mark tells of the draft then
      pub settled_expired : (r : Refused) (made : Stored K) → is_expired r.why ≡ true → s' ≡ record made { mark = record (made.mark) { expired = Some (opening_in d) } } → Tells made (Err r) → It (settled.Refused r)
      settled_expired r made gone marked is =
          let own = told_of made (Err r) is in
          let why : r.why ≡ Expired (gone_is r.why gone).0 (gone_is r.why gone).1 = (gone_is r.why gone).2 in
          let keeper : s'.keeper ≡ made.keeper = ap (λ (x : Stored K). x.keeper) marked in
          let refused : IsRefused called (record s { left_open = closed s d }) r made (closed s d) = subst (λ (w : Refusal). Refuses called d.caller (record s { left_open = closed s d }) r w made (closed s d)) why own.refers in
          let expires : Expires called s d r s' = record {
            up = refused.up;
            said = refused.said;
            none = refused.none;
            after = marked
                ∙ ap (λ (x : Stored K). record x { mark = record (x.mark) { expired = Some (opening_in d) } }) refused.after
                ∙ ap (λ (k : K). record s { keeper = k; mark = record (s.mark) { expired = Some (opening_in d) }; left_open = closed s d }) (sym keeper);
          } in
          record {
            settles = (λ u p no. on, subst (λ (w : Refusal). RefusesDraft called s d r w s') (sym why) expires);
            keeps = λ u. subst (λ (k : K). KeepsTold members s.keeper k called.logged (Err r)) (sym keeper) own.keeps;
            crash = λ u. subst (λ (k : K). Leaves members s.keeper k called.logged) (sym keeper) own.crash;
            rests = up_rests s s' up;
          }
