-- What a sweep brings, by what is told of it.
use Rattle.std.proofs.Common.{◌≡◌, ℕ, ◌+◌, List, [], ◌∷◌, length, nat_lt, Some, Result, Ok, Err, Bool, true, false, refl, sym, ap, ◌∙◌, subst}
use Rattle.std.specs.Prelude.{nat_le}
use Rattle.cat_model.specs.declared.limits.Quantity.TheVariants as quantities
use Rattle.cat_model.specs.declared.log_entry.LogEntry.{LogEntry}
use Rattle.cat_model.specs.declared.refusal.Refusal.{Refusal}
use Rattle.cat_model.specs.declared.refusal.Refusal.TheVariants as refusals
use Rattle.cat_model.specs.declared.refusal.Refused.{Refused}
use Rattle.cat_model.specs.declared.reply.Reply.{Reply}
use Rattle.cat_model.specs.declared.reply.Told.{Told}
use Rattle.cat_model.specs.declared.sweep.Sweep.{Sweep}
use Rattle.cat_model.specs.Calls.{Called}
use Rattle.cat_model.specs.CauseLaws.{Causes, causes_bind, causes_needs}
use Rattle.cat_model.specs.Moves.{needs_log}
use Rattle.cat_model.specs.Refusing.{Outcome, needs_at_most}
use Rattle.cat_model.specs.State.{State}
use Rattle.cat_model.specs.Sweeps.{needs_sweep_room, step_sweep, sweep_call, sweep_entry, swept_by}

abbrev ok : Told → Result Told Refused
ok told = Ok told

abbrev err : Refused → Result Told Refused
err r = Err r

apart : {A : Type 0} (told : Told) (r : Refused) → ok told ≡ err r → A
apart told r e = absurd cc

same_told : (a b : Told) → ok a ≡ ok b → a ≡ b
same_told a b e = cc

same_refused : (a b : Refused) → err a ≡ err b → a ≡ b
same_refused a b e = cc

not_one : {A : Type 0} (entry : LogEntry) → [] ≡ entry ∷ [] → A
not_one entry e = absurd cc

first_of : List LogEntry → LogEntry → LogEntry
first_of [] other = other
first_of (entry ∷ entries) other = entry

-- its step is accepted
pub record IsSwept (caller : ℕ) (state : State) (past : List State) (draft moment : ℕ) (w : Sweep) : Type 0 where
  pub after : State
  pub reply : Reply
  pub is : step_sweep state past w ≡ Ok (after, reply)
  pub said : (sweep_call caller state past draft moment w).said ≡ Ok (record { place = after.place; reply = reply })
  pub logged : (sweep_call caller state past draft moment w).logged ≡ sweep_entry caller after.place moment w ∷ []
  pub state_is : (sweep_call caller state past draft moment w).state ≡ after
  pub draft_is : (sweep_call caller state past draft moment w).draft ≡ draft

-- or refused
pub record IsUnswept (caller : ℕ) (state : State) (past : List State) (draft moment : ℕ) (w : Sweep) : Type 0 where
  pub why : Refusal
  pub is : step_sweep state past w ≡ Err why
  pub said : (sweep_call caller state past draft moment w).said ≡ Err (record { place = Some state.place; why = why })
  pub none : (sweep_call caller state past draft moment w).logged ≡ []
  pub state_is : (sweep_call caller state past draft moment w).state ≡ state
  pub draft_is : (sweep_call caller state past draft moment w).draft ≡ draft

module _ (caller : ℕ) (state : State) (past : List State) (draft moment : ℕ) (w : Sweep) where
  abbrev by : Outcome → Called
  by o = swept_by caller state draft moment w o

  call_is : sweep_call caller state past draft moment w ≡ by (step_sweep state past w)
  unfolding sweep_call
  call_is = refl

  accepted : (after : State) (reply : Reply) → step_sweep state past w ≡ Ok (after, reply) → IsSwept caller state past draft moment w
  accepted after reply e = let is : sweep_call caller state past draft moment w ≡ by (Ok (after, reply)) = call_is ∙ ap by e in record {
    after = after;
    reply = reply;
    is = e;
    said = ap (λ (c : Called). c.said) is;
    logged = ap (λ (c : Called). c.logged) is;
    state_is = ap (λ (c : Called). c.state) is;
    draft_is = ap (λ (c : Called). c.draft) is;
  }

  refused : (why : Refusal) → step_sweep state past w ≡ Err why → IsUnswept caller state past draft moment w
  refused why e = let is : sweep_call caller state past draft moment w ≡ by (Err why) = call_is ∙ ap by e in record {
    why = why;
    is = e;
    said = ap (λ (c : Called). c.said) is;
    none = ap (λ (c : Called). c.logged) is;
    state_is = ap (λ (c : Called). c.state) is;
    draft_is = ap (λ (c : Called). c.draft) is;
  }

  module _ {P : Type 0} (yes : IsSwept caller state past draft moment w → P) (no : IsUnswept caller state past draft moment w → P) where
    by_outcome : (o : Outcome) → step_sweep state past w ≡ o → P
    by_outcome (Ok (after, reply)) e = yes (accepted after reply e)
    by_outcome (Err why) e = no (refused why e)

    pub either : P
    either = by_outcome (step_sweep state past w) refl

  -- by what is said
  pub by_reply : {P : Type 0} (told : Told) → (sweep_call caller state past draft moment w).said ≡ Ok told → ((x : IsSwept caller state past draft moment w) → told ≡ record { place = x.after.place; reply = x.reply } → P) → P
  by_reply {P} told e f = either {P = P} (λ x. f x (same_told told (record { place = x.after.place; reply = x.reply }) (sym e ∙ x.said))) (λ x. apart {A = P} told (record { place = Some state.place; why = x.why }) (sym e ∙ x.said))

  pub by_refusal : {P : Type 0} (r : Refused) → (sweep_call caller state past draft moment w).said ≡ Err r → ((x : IsUnswept caller state past draft moment w) → r ≡ record { place = Some state.place; why = x.why } → P) → P
  by_refusal {P} r e f = either {P = P} (λ x. apart {A = P} (record { place = x.after.place; reply = x.reply }) r (sym x.said ∙ e)) (λ x. f x (same_refused r (record { place = Some state.place; why = x.why }) (sym e ∙ x.said)))

  -- by what is logged
  pub by_entry : {P : Type 0} (entry : LogEntry) → (sweep_call caller state past draft moment w).logged ≡ entry ∷ [] → ((x : IsSwept caller state past draft moment w) → entry ≡ sweep_entry caller x.after.place moment w → P) → P
  unfolding first_of
  by_entry {P} entry e f = either {P = P} (λ x. f x (ap (λ (l : List LogEntry). first_of l entry) (sym e ∙ x.logged))) (λ x. not_one {A = P} entry (sym x.none ∙ e))

-- ---- why it is refused

abbrev pub is_limit : Refusal → Bool
is_limit (refusals.Limit which number) = true
is_limit _ = false

room : (state : State) (count : ℕ) → Causes is_limit (needs_sweep_room state count)
unfolding needs_sweep_room
room state count =
    causes_bind is_limit (needs_log state) (λ _. needs_at_most count state.limits.names quantities.Names)
    (causes_needs is_limit (nat_lt state.place state.limits.log) (refusals.Limit quantities.Log state.limits.log) refl)
    (λ u. causes_needs is_limit (nat_le count state.limits.names) (refusals.Limit quantities.Names state.limits.names) refl)

steps : (state : State) (past : List State) (w : Sweep) → Causes is_limit (step_sweep state past w)
unfolding step_sweep
steps state past w = causes_bind is_limit (needs_sweep_room state (length w.commits + length w.contents)) _ (room state (length w.commits + length w.contents)) (λ u. tt)

pub by_limit : (state : State) (past : List State) (w : Sweep) (why : Refusal) → step_sweep state past w ≡ Err why → is_limit why ≡ true
by_limit state past w why e = subst (λ (o : Outcome). Causes is_limit o) e (steps state past w)

-- nothing else is its cause
pub no_other : {A : Type 0} (state : State) (past : List State) (w : Sweep) (why : Refusal) → is_limit why ≡ false → step_sweep state past w ≡ Err why → A
no_other state past w why other e = absurd (let wrong : false ≡ true = sym other ∙ by_limit state past w why e in cc)
