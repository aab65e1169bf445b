-- What the tests before a draft refuse.
use Rattle.std.proofs.Common.{◌≡◌, ◌<◌, ◌≤◌, ◌⊎◌, inl, inr, ℕ, Ok, Err, Bool, true, false, nat_lt, refl, sym, ap, subst, ◌∙◌, arith}
use Rattle.std.proofs.lemmas.Bool.Decides.{nat_tests}
use Rattle.sha2.specs.Sha256.{sha256}
use Rattle.cat_core.specs.Drafts.{may_open}
use Rattle.cat_model.specs.declared.command.Command.{Command}
use Rattle.cat_model.specs.declared.limits.Quantity.TheVariants.{Drafts}
use Rattle.cat_model.specs.declared.refusal.Refusal.{Refusal}
use Rattle.cat_model.specs.declared.refusal.Refusal.TheVariants.{BadRequest, Limit, RefNotFound}
use Rattle.cat_model.specs.Book.{Book}
use Rattle.cat_model.specs.Calls.{needs_draft}
use Rattle.cat_model.specs.CauseLaws.{Causes, HasEarly, opening_causes}
use Rattle.cat_model.specs.Refusing.{◌>>=◌, Tested, needs}
use Rattle.cat_model.specs.State.{State}
use Rattle.cat_model.specs.Step.{opening}

-- what is asked for can't be done, or isn't there
abbrev pub is_early : Refusal → Bool
is_early (BadRequest reason) = true
is_early RefNotFound = true
is_early _ = false

has_early : HasEarly is_early
has_early = record { bad = λ reason. refl; missing = refl }

pub early_opening : (state : State) (c : Command) → Causes is_early (opening sha256 state c)
early_opening state c = opening_causes sha256 is_early has_early state c

-- why no draft may be opened: by the tests before it, or since no number is left
pub record Refuses (state : State) (c : Command) (why : Refusal) : Type 0 where
  pub is : opening sha256 state c ≡ Err why
  pub early : is_early why ≡ true

pub record HasNone (b : Book) (c : Command) (why : Refusal) : Type 0 where
  pub passes : opening sha256 b.state c ≡ Ok tt
  pub is : why ≡ Limit Drafts b.state.limits.drafts
  pub taken : b.state.limits.drafts ≤ b.draft

none_left : (last limit : ℕ) (why : Refusal) (b : Bool) → nat_lt last limit ≡ b → needs b (Limit Drafts limit) ≡ Err why → (why ≡ Limit Drafts limit) × (limit ≤ last)
none_left last limit why true low e = absurd cc
none_left last limit why false low e = let same : Limit Drafts limit ≡ why = cc in (sym same, grind (arith, nat_tests, low))

by_tests : (b : Book) (c : Command) (why : Refusal) (t : Tested) → opening sha256 b.state c ≡ t → (t >>= λ _. needs_draft b.state b.draft true) ≡ Err why → Refuses b.state c why ⊎ HasNone b c why
by_tests b c why (Err other) first e =
    let same : other ≡ why = cc in
    let is : opening sha256 b.state c ≡ Err why = first ∙ ap Err same in
    inl (record { is = is; early = subst (λ (t : Tested). Causes is_early t) is (early_opening b.state c) })
by_tests b c why (Ok u) first e =
    let left = none_left b.draft b.state.limits.drafts why (nat_lt b.draft b.state.limits.drafts) refl e in
    inr (record { passes = first; is = left.0; taken = left.1 })

pub may_not : (b : Book) (c : Command) (why : Refusal) → may_open b c ≡ Err why → Refuses b.state c why ⊎ HasNone b c why
may_not b c why e = by_tests b c why (opening sha256 b.state c) refl e

-- a number is left where a draft may be opened
room_by : (last limit : ℕ) (b : Bool) → nat_lt last limit ≡ b → needs b (Limit Drafts limit) ≡ Ok tt → last < limit
room_by last limit true low e = grind (arith, nat_tests, low)
room_by last limit false low e = absurd cc

tests_room : (b : Book) (t : Tested) → (t >>= λ _. needs_draft b.state b.draft true) ≡ Ok tt → b.draft < b.state.limits.drafts
tests_room b (Err why) e = absurd cc
tests_room b (Ok u) e = room_by b.draft b.state.limits.drafts (nat_lt b.draft b.state.limits.drafts) refl e

pub may_room : (b : Book) (c : Command) → may_open b c ≡ Ok tt → b.draft < b.state.limits.drafts
may_room b c e = tests_room b (opening sha256 b.state c) e
