-- Laws of passes whose log goes on and whose mark grows, and of what is told where no append failed.
use Rattle.std.proofs.Common.{◌≡◌, ℕ, List, [], ◌∷◌, ◌++◌, Option, Some, None, Result, Ok, Err, refl, sym, ◌∙◌, subst, inl, inr}
use Rattle.cat_collect.specs.Answers.{Causes as CollectionCauses}
use Rattle.cat_desk.specs.LogLaws.{begins_itself, begins_on}
use Rattle.cat_desk.specs.Pass.{DeskId, all_left_by, known, mark_of, number_of, seen}
use Rattle.cat_desk.specs.declared.pass.Pass.{Pass}
use Rattle.cat_model.specs.declared.command.Command.{Command}
use Rattle.cat_model.specs.declared.cutoff.Resolved.{Resolved}
use Rattle.cat_model.specs.declared.log_entry.LogEntry.{LogEntry}
use Rattle.cat_model.specs.declared.refusal.Refusal.{Refusal}
use Rattle.cat_model.specs.declared.refusal.Refusal.TheVariants as refusals
use Rattle.cat_model.specs.declared.refusal.Refused.{Refused}
use Rattle.cat_model.specs.declared.reply.Told.{Told}
use Rattle.cat_model.specs.Mark.{FailedAppend, Grows, Mark}
use Rattle.cat_model.specs.TurnLaws.{grows_on, grows_self}
use Rattle.cat_policy.specs.declared.policy.Policy.{Policy}
use Rattle.cat_policy.specs.Policies.{resolved}
use Rattle.cat_rest.specs.Faults.{Refuses}
use Rattle.cat_rest.specs.Wanted.{wanted}
use Rattle.cat_rest.specs.declared.wanted.Wanted.{Wanted}
use Rattle.cat_rest.specs.declared.wanted.Wanted.TheVariants.{Change, Checkpoint, Collect, Read}
use Rattle.cat_work.specs.Answers.{Causes}
use Rattle.cat_work.specs.Checkpoints.{Causes as CheckpointCauses, base_after}
use Rattle.cat_serve.specs.declared.ending.Session.{Session as End}
use Rattle.cat_serve.specs.Passes.{Comes, IsChange, IsCheckpoint, IsCollection, Place, Visit}
use Rattle.cat_serve.specs.Serving.{AreAnswered, GrowsTo, Rises, Serves}
use Rattle.cat_serve.specs.Sessions.{Readings}

pub grows_to_itself : (p : Pass) → GrowsTo p p
grows_to_itself p = (begins_itself (seen p), grows_self (mark_of p))

pub grows_to_on : (p q r : Pass) → GrowsTo p q → GrowsTo q r → GrowsTo p r
grows_to_on p q r one two = (begins_on (seen p) (seen q) (seen r) one.0 two.0, grows_on (mark_of p) (mark_of q) (mark_of r) one.1 two.1)

-- ---- what tells of no append that failed

abbrev pub IsUp : Refusal → Type 0
IsUp refusals.Fault = ⊥
IsUp (refusals.Down count) = ⊥
IsUp _ = Unit {0}

abbrev pub TellsUp : Result Told Refused → Type 0
TellsUp (Ok told) = Unit {0}
TellsUp (Err refused) = IsUp refused.why

-- where a change, a collection or a checkpoint is wanted; what is told of anything else is by definitions that know of no append
abbrev pub CallsUp : Result Wanted Refusal → Result Told Refused → Type 0
CallsUp (Ok (Change command)) told = TellsUp told
CallsUp (Ok (Collect policy)) told = TellsUp told
CallsUp (Ok Checkpoint) told = TellsUp told
CallsUp (Ok (Read ask)) told = Unit {0}
CallsUp (Err why) told = Unit {0}

abbrev pub AreUp : List Visit → Type 0
AreUp [] = Unit {0}
AreUp (v ∷ visits) = CallsUp (wanted v.message) v.told × AreUp visits

-- ---- so it is where none failed

none_fell : {A : Type 0} (mark : Mark) (x : FailedAppend) → mark.fault ≡ Some x → mark.fault ≡ None → A
none_fell mark x fell up = absurd (let wrong : None ≡ Some x = sym up ∙ fell in cc)

no_fault : (fault : Option FailedAppend) → ((x : FailedAppend) → fault ≡ Some x → ⊥) → fault ≡ None
no_fault None none = refl
no_fault (Some x) none = absurd (none x refl)

up_before : (a b : Mark) → Grows a b → b.fault ≡ None → a.fault ≡ None
up_before a b grows up = no_fault a.fault (λ x is. none_fell b x (grows.fault x is) up)

by_cause : (desk : DeskId) (n moment attempts k : ℕ) (c : Command) (before after : Mark) (m : List LogEntry) (place : Option ℕ) (why : Refusal) → after.fault ≡ None → Causes desk n c moment attempts k before after m place why → IsUp why
by_cause desk n moment attempts k c before after m place (refusals.Down count) up h = none_fell after h.1.fault h.1.is up
by_cause desk n moment attempts k c before after m place refusals.Fault up h = none_fell after h.1.fault h.1.is up
by_cause desk n moment attempts k c before after m place why up h = tt

by_collection : (desk : DeskId) (n : ℕ) (policy : Resolved) (moment k : ℕ) (before after : Mark) (m : List LogEntry) (place : Option ℕ) (why : Refusal) → after.fault ≡ None → CollectionCauses desk n policy moment k before after m place why → IsUp why
by_collection desk n policy moment k before after m place (refusals.Down count) up h = none_fell after h.1.fault h.1.is up
by_collection desk n policy moment k before after m place refusals.Fault up h = none_fell after h.1.fault h.1.is up
by_collection desk n policy moment k before after m place why up h = tt

by_checkpoint : (desk : DeskId) (n : ℕ) (before after : Mark) (m : List LogEntry) (bytes : List ℕ) (place : Option ℕ) (why : Refusal) → after.fault ≡ None → CheckpointCauses desk n before after m bytes place why → IsUp why
by_checkpoint desk n before after m bytes place (refusals.Down count) up h = none_fell after h.1.fault h.1.is up
by_checkpoint desk n before after m bytes place refusals.Fault up h = none_fell after h.1.fault h.1.is up
by_checkpoint desk n before after m bytes place why up h = tt

not_both : (w : Wanted) (why : Refusal) → ◌≡◌ {A = Result Wanted Refusal} (Ok w) (Err why) → ⊥
not_both w why e = cc

by_bytes : (w : Wanted) (why : Refusal) → Refuses {A = Wanted} why (Ok w) → IsUp why
by_bytes w (refusals.Down count) h = absurd (not_both w (refusals.Down count) h)
by_bytes w refusals.Fault h = absurd (not_both w refusals.Fault h)
by_bytes w why h = tt

refused_up : (wants : Result Wanted Refusal) (refused : Refused) → Refuses refused.why wants → CallsUp wants (Err refused)
refused_up (Ok (Change command)) refused h = by_bytes (Change command) refused.why h
refused_up (Ok (Collect policy)) refused h = by_bytes (Collect policy) refused.why h
refused_up (Ok Checkpoint) refused h = by_bytes Checkpoint refused.why h
refused_up (Ok (Read ask)) refused h = tt
refused_up (Err why) refused h = tt

change_up : (desk : DeskId) (attempts : ℕ) (command : Command) (taken : List ℕ) (p q : Pass) (told : Result Told Refused) → (mark_of q).fault ≡ None → IsChange desk attempts command taken p q told → TellsUp told
change_up desk attempts command taken p q (Ok told) up change = tt
change_up desk attempts command taken p q (Err refused) up change =
    by_cause desk (number_of p) change.moment attempts (known p) command (mark_of p) (mark_of q) (seen q) refused.place refused.why up change.answers.1

collection_up : (desk : DeskId) (policy : Policy) (taken : List ℕ) (p q : Pass) (told : Result Told Refused) → (mark_of q).fault ≡ None → IsCollection desk policy taken p q told → TellsUp told
collection_up desk policy taken p q (Ok told) up collection = tt
collection_up desk policy taken p q (Err refused) up collection =
    by_collection desk (number_of p) (resolved collection.moment policy) collection.moment (known p) (mark_of p) (mark_of q) (seen q) refused.place refused.why up collection.answers.1

checkpoint_up : (desk : DeskId) (taken : List ℕ) (p q : Pass) (told : Result Told Refused) → (mark_of q).fault ≡ None → IsCheckpoint desk taken p q told → TellsUp told
checkpoint_up desk taken p q (Ok told) up checkpoint = tt
checkpoint_up desk taken p q (Err refused) up checkpoint =
    by_checkpoint desk (number_of p) (mark_of p) (mark_of q) (seen q) (base_after desk (seen q) (all_left_by q).drafts) refused.place refused.why up checkpoint.checks.answers

told_up : (desk : DeskId) (attempts : ℕ) (wants : Result Wanted Refusal) (taken : List ℕ) (p q : Pass) (told : Result Told Refused) → (mark_of q).fault ≡ None → Comes desk attempts wants taken p q told → CallsUp wants told
told_up desk attempts (Ok (Change command)) taken p q told up (inl change) = change_up desk attempts command taken p q told up change
told_up desk attempts (Ok (Collect policy)) taken p q told up (inl collection) = collection_up desk policy taken p q told up collection
told_up desk attempts (Ok Checkpoint) taken p q told up (inl checkpoint) = checkpoint_up desk taken p q told up checkpoint
told_up desk attempts (Ok (Read ask)) taken p q told up (inl reading) = tt
told_up desk attempts (Err why) taken p q told up (inl call) = absurd call
told_up desk attempts wants taken p q told up (inr refusal) = subst (λ (x : Result Told Refused). CallsUp wants x) (sym refusal.told_is) (refused_up wants refusal.refused refusal.by_bytes.1)

all_up : (desk : DeskId) (attempts : ℕ) (p : Pass) (visits : List Visit) (q : Pass) → (mark_of q).fault ≡ None → Rises p visits q → AreAnswered desk attempts visits → AreUp visits
all_up desk attempts p [] q up rises answered = tt
all_up desk attempts p (v ∷ visits) q up (is, first, later, rest) (answered, others) = (
  told_up desk attempts (wanted v.message) v.taken v.before v.after v.told (up_before (mark_of v.after) (mark_of q) later.1 up) answered,
  all_up desk attempts v.after visits q up rest others,
)

-- no call of a session is told so, where the mark to which its pass's grows tells of no append that failed
pub none_was_down : (desk : DeskId) (attempts : ℕ) (a : Place) (end : End) (unread : Option (List ℕ)) (pass : Pass) (now : Option Readings) (held : Option (List ℕ)) (last : Pass) (s : Serves desk attempts a end unread pass now held)
    → Grows (mark_of pass) (mark_of last) → (mark_of last).fault ≡ None → AreUp (s.went.visits ++ s.went.ended.last)
none_was_down desk attempts a end unread pass now held last s grows up =
    all_up desk attempts a.pass (s.went.visits ++ s.went.ended.last) pass (up_before (mark_of pass) (mark_of last) grows up) s.rises s.answers
