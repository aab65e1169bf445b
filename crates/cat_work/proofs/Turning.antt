-- What the desk's calls and the store's say of a turn, taken together.
use Rattle.std.proofs.Common.{◌≡◌, ℕ, ◌+◌, List, [], ◌∷◌, ◌++◌, Result, Ok, Err, IfOk, IfErr, inl, inr, ap, subst, ◌∙◌}
use Rattle.cat_names.specs.declared.hash.Hash.{Hash}
use Rattle.cat_decisions.specs.declared.building.Built.{Built}
use Rattle.cat_decisions.specs.Builds.{IsBuilt}
use Rattle.cat_decisions.specs.declared.call.Call.{Call}
use Rattle.cat_checks.specs.Histories.{book_at}
use Rattle.cat_core.specs.Drafts.{IsOpening, NotOpened}
use Rattle.cat_core.specs.Stored.{Stored, log_of, opened_of}
use Rattle.cat_core.specs.declared.draft.Draft.{Draft}
use Rattle.cat_desk.specs.Log.{Follows}
use Rattle.cat_desk.specs.Pass.{DeskId, number_of, seen}
use Rattle.cat_desk.specs.declared.pass.Pass.{Pass}
use Rattle.cat_model.specs.declared.command.Command.{Command}
use Rattle.cat_model.specs.declared.refusal.Refused.{Refused}
use Rattle.cat_model.specs.declared.reply.Told.{Told}
use Rattle.cat_model.specs.Later.{IsLater}
use Rattle.cat_model.specs.State.{State}
use Rattle.cat_work.specs.Passes.{state_of}
use Rattle.cat_work.specs.Turns.{EndsLast, Opens, OpensNone, SettlesLast, Turned}
use Rattle.cat_work.specs.TurnLaws.{goes_later, led_from}
pub use Rattle.cat_work.specs.TurnLaws.{turned}

pub opened_in : (K : Type 0) (desk : DeskId) (c : Command) (p q : Pass) (n : ℕ) (s s' : Stored K) (r : Result (Draft × State) Refused) → n ≡ number_of p → Turned desk p q s s' → IfOk r (λ t. IsOpening n c s s' t.0 t.1) → IfOk r (λ t. Opens K desk c p q t.0 t.1)
opened_in K desk c p q n s s' (Ok t) number turn h = (s, s', turn, subst (λ (m : ℕ). IsOpening m c s s' t.0 t.1) number h)
opened_in K desk c p q n s s' (Err r) number turn h = h

pub refused_in : (K : Type 0) (desk : DeskId) (c : Command) (p q : Pass) (s s' : Stored K) (r : Result (Draft × State) Refused) → Turned desk p q s s' → IfErr r (λ e. (s' ≡ s) × NotOpened s c e e.why) → IfErr r (λ e. OpensNone K desk c p q e)
refused_in K desk c p q s s' (Ok t) turn h = h
refused_in K desk c p q s s' (Err e) turn h = (s, s', turn, h.0, h.1)

-- what was built on what the pass had seen was built on an earlier state
pub built_before : {K : Type 0} (desk : DeskId) (p : Pass) (s : Stored K) (call : Call) (built : Built) → opened_of s ≡ desk.opened → Follows (number_of p) (seen p) (log_of s) → (book_at (opened_of s) (log_of s)).state ≡ s.book.state → IsBuilt (state_of desk (seen p)) call built
    → (v : State) × IsLater v s.book.state × IsBuilt v call built
built_before desk p s call built opened follows led is =
    (state_of desk (seen p), subst (λ (x : State). IsLater (state_of desk (seen p)) x) (led_from desk s opened led) (goes_later desk (number_of p) (seen p) (log_of s) follows), is)

-- what was built and settled, or dropped, ends the call
pub ends_last : {K : Type 0} (s : Stored K) (d : Draft) (view : State) (built : Built) (pairs : List (ℕ × Hash)) (moment : ℕ) (r : Result Told Refused) (s' : Stored K) → IsBuilt view d.call built → SettlesLast s d built pairs moment r s' → EndsLast s d view pairs moment r s'
ends_last s d view built pairs moment (Ok told) s' is h = (built, is, h)
ends_last s d view built pairs moment (Err r) s' is (inl h) = inl (built, is, h)
ends_last s d view built pairs moment (Err r) s' is (inr h) = inr (inl (built, is, h))

-- a pair more, at a place that is told
pub pushed : (pairs more : List (ℕ × Hash)) (told place : ℕ) (head : Hash) → more ≡ pairs ++ (told, head) ∷ [] → told ≡ place → more ≡ pairs ++ (place, head) ∷ []
pushed pairs more told place head e same = e ∙ ap (λ (n : ℕ). pairs ++ (n, head) ∷ []) same
