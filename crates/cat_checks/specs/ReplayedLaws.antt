-- What sweeps and the calls of logged entries lead to: the next place, where an entry is legal, and the laws of steps hold on.
use Rattle.std.proofs.Common.{◌≡◌, ℕ, ◌+◌, ◌⊎◌, inl, inr, ⊎_elim, List, [], ◌∷◌, filter, length, Ok, Err, Bool, true, false, nat_lt, if◌then◌else◌, refl, sym, ap, subst}
use Rattle.cat_codes.specs.ListLaws.{and_true}
use Rattle.cat_names.specs.declared.hash.Hash.{Hash}
use Rattle.cat_model.specs.declared.command.Command.{Command}
use Rattle.cat_model.specs.declared.log_entry.Action.{Action}
use Rattle.cat_model.specs.declared.log_entry.Action.TheVariants as actions
use Rattle.cat_model.specs.declared.log_entry.LogEntry.{LogEntry}
use Rattle.cat_model.specs.declared.reply.Reply.{Reply}
use Rattle.cat_model.specs.declared.sweep.Sweep.{Sweep}
use Rattle.cat_model.specs.Book.{Book}
use Rattle.cat_model.specs.Calls.{Called, attempt, stepped}
use Rattle.cat_model.specs.Later.{IsLater}
use Rattle.cat_model.specs.Past.{past_of}
use Rattle.cat_model.specs.Refusing.{◌>>=◌, Outcome, Tested}
use Rattle.cat_model.specs.State.{Digest, State, content_hash}
use Rattle.cat_model.specs.Step.{Turn, opening, step}
use Rattle.cat_model.specs.Sweeps.{is_saved, kept_contents, needs_sweep_room, step_sweep, sweep_call, swept_by}
use Rattle.cat_checks.specs.Legal.{draft_after, is_just, is_legal, replayed_action, replayed_by, replayed_call, turn_of}
use Rattle.cat_checks.specs.Upheld.{AreHashed, Upholds}
use Rattle.cat_checks.specs.LeadingLaws.{Follows, Leads, LeadsOn, adds_self, lead_later, leads_by, risen, step_leads}

-- ---- sweeps

hashed_choice : {A : Type 0} (hash_of : A → Hash) (b : Bool) (x : Hash × A) (xs : List (Hash × A)) → x.0 ≡ hash_of x.1 → AreHashed hash_of xs → AreHashed hash_of (if b then x ∷ xs else xs)
hashed_choice hash_of true x xs own are = (own, are)
hashed_choice hash_of false x xs own are = are

-- what is left of records stands under its hashes
left_hashed : {A : Type 0} (hash_of : A → Hash) (stays : Hash × A → Bool) (xs : List (Hash × A)) → AreHashed hash_of xs → AreHashed hash_of (filter stays xs)
left_hashed hash_of stays [] are = tt
left_hashed hash_of stays (x ∷ xs) are = hashed_choice hash_of (stays x) x (filter stays xs) are.0 (left_hashed hash_of stays xs are.1)

-- contents less, at the next place
fewer_follow : (digest : Digest) (a : State) (saved : List Hash) → Follows digest a (record a { place = a.place + 1; present = kept_contents saved a.present })
unfolding kept_contents
fewer_follow digest a saved = record {
  place = refl;
  limits = refl;
  later = record { commits = adds_self a.commits };
  upholds = λ u. record { main = u.main; commits = u.commits; contents = left_hashed (content_hash digest) (is_saved saved) a.present u.contents };
}

abbrev FollowsOn : Digest → State → Outcome → Type 0
FollowsOn digest a (Ok x) = Follows digest a x.0
FollowsOn digest a (Err why) = Unit {0}

follows_bind : (digest : Digest) (a : State) (tested : Tested) (f : Unit {0} → Outcome) → ((u : Unit {0}) → FollowsOn digest a (f u)) → FollowsOn digest a (tested >>= f)
follows_bind digest a (Ok u) f h = h u
follows_bind digest a (Err why) f h = tt

sweep_follows : (digest : Digest) (a : State) (past : List State) (s : Sweep) → FollowsOn digest a (step_sweep a past s)
unfolding step_sweep
sweep_follows digest a past s = follows_bind digest a (needs_sweep_room a (length s.commits + length s.contents)) _ (λ u. fewer_follow digest a _)

-- an accepted sweep leads to the next place
pub swept_to : (digest : Digest) (state : State) (past : List State) (s : Sweep) (after : State) (reply : Reply) → step_sweep state past s ≡ Ok (after, reply) → Follows digest state after
swept_to digest state past s after reply e = subst (FollowsOn digest state) e (sweep_follows digest state past s)

-- ---- what the call of an entry comes to

-- its state is led to, and where it logs just this entry, it follows
record Comes (digest : Digest) (a : State) (entry : LogEntry) (c : Called) : Type 0 where
  leads : Leads digest a c.state
  follows : is_just digest entry c.logged ≡ true → Follows digest a c.state

nothing_comes : (digest : Digest) (a : State) (entry : LogEntry) (c : Called) → c.state ≡ a → c.logged ≡ [] → Comes digest a entry c
nothing_comes digest a entry c same none = record {
  leads = inl same;
  follows = λ just. let no : false ≡ true = subst (λ (logged : List LogEntry). is_just digest entry logged ≡ true) none just in absurd cc;
}

choice_comes : (digest : Digest) (a : State) (entry : LogEntry) (b : Bool) (x y : Called) → (b ≡ true → Comes digest a entry x) → Comes digest a entry y → Comes digest a entry (if b then x else y)
choice_comes digest a entry true x y p q = p refl
choice_comes digest a entry false x y p q = q

outcome_comes : (digest : Digest) (a : State) (entry : LogEntry) (draft : ℕ) (command : Command) (turn : Turn) (outcome : Outcome) → LeadsOn digest a outcome → Comes digest a entry (stepped digest 0 a draft command turn outcome)
outcome_comes digest a entry draft command turn (Err why) leads = nothing_comes digest a entry _ refl refl
outcome_comes digest a entry draft command turn (Ok (after, reply)) leads =
    let led : Leads digest a after = leads_by digest a (after, reply) leads in
    choice_comes digest a entry (nat_lt a.place after.place) _ _ (λ rose. record { leads = led; follows = λ _. risen digest a after led rose }) (nothing_comes digest a entry _ refl refl)

tested_comes : (digest : Digest) (book : Book) (entry : LogEntry) (command : Command) (tested : Tested) → Comes digest book.state entry (replayed_by digest book entry command tested)
tested_comes digest book entry command (Err why) = nothing_comes digest book.state entry _ refl refl
tested_comes digest book entry command (Ok u) =
    outcome_comes digest book.state entry (draft_after book entry) command (turn_of book entry) (step digest book.state command (turn_of book entry)) (step_leads digest book.state command (turn_of book entry))

swept_comes : (digest : Digest) (a : State) (entry : LogEntry) (draft moment : ℕ) (s : Sweep) (outcome : Outcome) → FollowsOn digest a outcome → Comes digest a entry (swept_by 0 a draft moment s outcome)
swept_comes digest a entry draft moment s (Err why) on = nothing_comes digest a entry _ refl refl
swept_comes digest a entry draft moment s (Ok (after, reply)) on = record { leads = inr on; follows = λ _. on }

action_comes : (digest : Digest) (book : Book) (entry : LogEntry) (action : Action) → Comes digest book.state entry (replayed_action digest book entry action)
unfolding attempt sweep_call
action_comes digest book entry (actions.Call command) = tested_comes digest book entry command (opening digest book.state command)
action_comes digest book entry (actions.Sweep s) =
    swept_comes digest book.state entry (draft_after book entry) entry.moment s (step_sweep book.state (past_of digest book) s) (sweep_follows digest book.state (past_of digest book) s)

call_comes : (digest : Digest) (book : Book) (entry : LogEntry) → Comes digest book.state entry (replayed_call digest book entry)
call_comes digest book entry = action_comes digest book entry entry.action

-- whether or not the entry is legal
pub replayed_leads : (digest : Digest) (book : Book) (entry : LogEntry) → Leads digest book.state (replayed_call digest book entry).state
replayed_leads digest book entry = (call_comes digest book entry).leads

pub replayed_later : (digest : Digest) (book : Book) (entry : LogEntry) → IsLater book.state (replayed_call digest book entry).state
replayed_later digest book entry = lead_later digest book.state (replayed_call digest book entry).state (replayed_leads digest book entry)

pub replayed_upholds : (digest : Digest) (book : Book) (entry : LogEntry) → Upholds digest book.state → Upholds digest (replayed_call digest book entry).state
replayed_upholds digest book entry upheld =
    ⊎_elim (λ (same : (replayed_call digest book entry).state ≡ book.state). subst (Upholds digest) (sym same) upheld)
    (λ (follows : Follows digest book.state (replayed_call digest book entry).state). follows.upholds upheld) (replayed_leads digest book entry)

pub replayed_limits : (digest : Digest) (book : Book) (entry : LogEntry) → (replayed_call digest book entry).state.limits ≡ book.state.limits
replayed_limits digest book entry =
    ⊎_elim (λ (same : (replayed_call digest book entry).state ≡ book.state). ap (λ (s : State). s.limits) same) (λ (follows : Follows digest book.state (replayed_call digest book entry).state). follows.limits) (replayed_leads digest book entry)

-- the call of a legal entry logs just this entry
just_logged : (digest : Digest) (book : Book) (entry : LogEntry) → is_legal digest book entry ≡ true → is_just digest entry (replayed_call digest book entry).logged ≡ true
unfolding is_legal
just_logged digest book entry legal = (and_true _ _ legal).1

-- a legal entry's state is at the next place
pub legal_place : (digest : Digest) (book : Book) (entry : LogEntry) → is_legal digest book entry ≡ true → (replayed_call digest book entry).state.place ≡ book.state.place + 1
legal_place digest book entry legal = ((call_comes digest book entry).follows (just_logged digest book entry legal)).place
