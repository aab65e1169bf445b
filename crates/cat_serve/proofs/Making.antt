-- The entries that a request makes.
use Rattle.std.proofs.Common.{◌≡◌, ℕ, ◌==◌, List, [], ◌∷◌, ◌++◌, cond, Bool, Result, Ok, Err, refl, sym, ◌∙◌, ap, ap₂, subst, inl, inr}
use Rattle.std.proofs.lemmas.Bool.{eq-eqb, ne_eqb}
use Rattle.std.proofs.lemmas.List.{append-nil}
use Rattle.std.proofs.lemmas.List.Elements.{filter-append}
use Rattle.cat_desk.specs.Log.{BeginsWith, Follows, Others}
use Rattle.cat_desk.specs.LogLaws.{begins_on}
use Rattle.cat_desk.specs.Pass.{DeskId, known, mark_of, number_of, seen}
use Rattle.cat_desk.specs.declared.pass.Pass.{Pass}
use Rattle.cat_model.specs.declared.command.Command.{Command}
use Rattle.cat_model.specs.declared.log_entry.LogEntry.{LogEntry}
use Rattle.cat_model.specs.declared.refusal.Refusal.{Refusal}
use Rattle.cat_model.specs.declared.refusal.Refused.{Refused}
use Rattle.cat_model.specs.declared.reply.Told.{Told}
use Rattle.cat_model.specs.declared.sweep.Sweep.{Sweep}
use Rattle.cat_model.specs.Mark.{Grows}
use Rattle.cat_model.specs.Sweeps.{sweep_entry}
use Rattle.cat_model.specs.TurnLaws.{grows_self}
use Rattle.cat_policy.specs.declared.policy.Policy.{Policy}
use Rattle.cat_policy.specs.Policies.{resolved}
use Rattle.cat_collect.specs.Answers.{Answers as CollectionAnswers}
use Rattle.cat_rest.specs.declared.wanted.Wanted.{Wanted}
use Rattle.cat_rest.specs.declared.wanted.Wanted.TheVariants.{Change, Checkpoint, Collect, Read}
use Rattle.cat_work.specs.Answers.{Answers}
use Rattle.cat_work.specs.Passes.{state_of}
use Rattle.cat_serve.specs.Entries.{Makes, entries_of}
use Rattle.cat_serve.specs.Passes.{Comes}

-- ---- a caller's entries

others_none : (n : ℕ) (xs : List LogEntry) → Others n xs → entries_of n xs ≡ []
others_none n [] none = refl
others_none n (x ∷ xs) (other, others) =
    ap (λ (own : Bool). cond own (x ∷ entries_of n xs) (entries_of n xs)) (ne_eqb x.caller n other) ∙ others_none n xs others

own_one : (n : ℕ) (x : LogEntry) → x.caller ≡ n → entries_of n (x ∷ []) ≡ x ∷ []
own_one n x own = ap (λ (b : Bool). cond b (x ∷ []) []) (eq-eqb x.caller n own)

pub follows_own : (n : ℕ) (l m : List LogEntry) → Follows n l m → entries_of n m ≡ entries_of n l
follows_own n l m (rest, is, others) =
    ap (entries_of n) is ∙ filter-append (λ (entry : LogEntry). entry.caller == n) l rest
    ∙ ap (λ (x : List LogEntry). entries_of n l ++ x) (others_none n rest others) ∙ append-nil (entries_of n l)

accepted_own : (n : ℕ) (l m earlier : List LogEntry) (entry : LogEntry) → Follows n l earlier → m ≡ earlier ++ entry ∷ [] → entry.caller ≡ n
    → entries_of n m ≡ entries_of n l ++ entry ∷ []
accepted_own n l m earlier entry follows log own =
    ap (entries_of n) log ∙ filter-append (λ (x : LogEntry). x.caller == n) earlier (entry ∷ [])
    ∙ ap₂ (λ (x y : List LogEntry). x ++ y) (follows_own n l earlier follows) (own_one n entry own)

sweep_own : (n place moment : ℕ) (s : Sweep) → (sweep_entry n place moment s).caller ≡ n
unfolding sweep_entry
sweep_own n place moment s = refl

-- ---- by what was made

module _ (desk : DeskId) (wants : Result Wanted Refusal) (taken : List ℕ) (p q : Pass) (told : Result Told Refused) where
  pub makes_own : (entries : List LogEntry) → Makes desk wants taken p q told entries → entries_of (number_of p) (seen q) ≡ entries_of (number_of p) (seen p) ++ entries
  makes_own [] follows = follows_own (number_of p) (seen p) (seen q) follows ∙ sym (append-nil (entries_of (number_of p) (seen p)))
  makes_own (entry ∷ []) (inl is) =
      let a = is.accepts in
      accepted_own (number_of p) (seen p) (seen q) a.earlier a.entry a.follows a.log a.caller
      ∙ ap (λ (x : LogEntry). entries_of (number_of p) (seen p) ++ x ∷ []) is.entry_is
  makes_own (entry ∷ []) (inr is) =
      let a = is.collects in
      let place = (state_of desk (seen q)).place in
      accepted_own (number_of p) (seen p) (seen q) a.earlier (sweep_entry (number_of p) place is.moment a.sweep) a.follows a.log (sweep_own (number_of p) place is.moment a.sweep)
      ∙ ap (λ (x : LogEntry). entries_of (number_of p) (seen p) ++ x ∷ []) is.entry_is
  makes_own (entry ∷ next ∷ more) is = absurd is

  pub makes_begins : (entries : List LogEntry) → Makes desk wants taken p q told entries → BeginsWith (seen p) (seen q)
  makes_begins [] follows = (follows.0, follows.1)
  makes_begins (entry ∷ []) (inl is) = let a = is.accepts in begins_on (seen p) a.earlier (seen q) (a.follows.0, a.follows.1) (a.entry ∷ [], a.log)
  makes_begins (entry ∷ []) (inr is) = let a = is.collects in begins_on (seen p) a.earlier (seen q) (a.follows.0, a.follows.1) (sweep_entry (number_of p) (state_of desk (seen q)).place is.moment a.sweep ∷ [], a.log)
  makes_begins (entry ∷ next ∷ more) is = absurd is

-- ---- what is made, by what was told

made_by_change : (desk : DeskId) (attempts : ℕ) (command : Command) (moment : ℕ) (taken : List ℕ) (p q : Pass) (told : Result Told Refused) → taken ≡ moment ∷ []
    → Answers desk (number_of p) command moment attempts (known p) (mark_of p) (mark_of q) (seen p) (seen q) told
    → (entries : List LogEntry) × Makes desk (Ok (Change command)) taken p q told entries
made_by_change desk attempts command moment taken p q (Ok answer) one (inl accepts) = (
  accepts.entry ∷ [],
  inl (record {
    command = command;
    wants_is = refl;
    moment = moment;
    one = one;
    answer = answer;
    told_is = refl;
    accepts = accepts;
    entry_is = refl;
  }),
)
made_by_change desk attempts command moment taken p q (Ok answer) one (inr tells) = ([], tells.follows)
made_by_change desk attempts command moment taken p q (Err refused) one answers = ([], answers.0)

made_by_collection : (desk : DeskId) (policy : Policy) (moment : ℕ) (taken : List ℕ) (p q : Pass) (told : Result Told Refused) → taken ≡ moment ∷ []
    → CollectionAnswers desk (number_of p) (resolved moment policy) moment (known p) (mark_of p) (mark_of q) (seen p) (seen q) told
    → (entries : List LogEntry) × Makes desk (Ok (Collect policy)) taken p q told entries
made_by_collection desk policy moment taken p q (Ok answer) one collects = (
  sweep_entry (number_of p) (state_of desk (seen q)).place moment collects.sweep ∷ [],
  inr (record {
    policy = policy;
    wants_is = refl;
    moment = moment;
    one = one;
    answer = answer;
    told_is = refl;
    collects = collects;
    entry_is = refl;
  }),
)
made_by_collection desk policy moment taken p q (Err refused) one answers = ([], answers.0)

pub made_in : (desk : DeskId) (attempts : ℕ) (wants : Result Wanted Refusal) (taken : List ℕ) (p q : Pass) (told : Result Told Refused) → Comes desk attempts wants taken p q told
    → (entries : List LogEntry) × Makes desk wants taken p q told entries
made_in desk attempts (Ok (Change command)) taken p q told (inl change) = made_by_change desk attempts command change.moment taken p q told change.one change.answers
made_in desk attempts (Ok (Collect policy)) taken p q told (inl collection) = made_by_collection desk policy collection.moment taken p q told collection.one collection.answers
made_in desk attempts (Ok (Read ask)) taken p q told (inl reading) = ([], reading.follows)
made_in desk attempts (Ok Checkpoint) taken p q told (inl checkpoint) = ([], checkpoint.checks.follows)
made_in desk attempts (Err why) taken p q told (inl call) = absurd call
made_in desk attempts wants taken p q told (inr refusal) = ([], ([], ap seen refusal.stays ∙ sym (append-nil (seen p)), tt))

-- the mark grows, whatever it comes to
pub mark_grows : (desk : DeskId) (attempts : ℕ) (wants : Result Wanted Refusal) (taken : List ℕ) (p q : Pass) (told : Result Told Refused) → Comes desk attempts wants taken p q told → Grows (mark_of p) (mark_of q)
mark_grows desk attempts (Ok (Change command)) taken p q told (inl change) = change.grows
mark_grows desk attempts (Ok (Collect policy)) taken p q told (inl collection) = collection.grows
mark_grows desk attempts (Ok (Read ask)) taken p q told (inl reading) = reading.grows
mark_grows desk attempts (Ok Checkpoint) taken p q told (inl checkpoint) = checkpoint.grows
mark_grows desk attempts (Err why) taken p q told (inl call) = absurd call
mark_grows desk attempts wants taken p q told (inr refusal) = subst (λ (x : Pass). Grows (mark_of p) (mark_of x)) (sym refusal.stays) (grows_self (mark_of p))
