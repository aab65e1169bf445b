-- Where an append failed, a request of its caller was told so.
use Rattle.std.proofs.Common.{◌≡◌, ℕ, ◌+◌, List, [], ◌∷◌, ◌++◌, length, Option, Some, None, Bool, Result, Ok, Err, refl, sym, ◌∙◌, ap, subst, inl, inr}
use Rattle.cat_collect.specs.Answers.{Answers as CollectionAnswers, Causes as CollectionCauses}
use Rattle.cat_io.specs.Causes.{Rose}
use Rattle.cat_desk.specs.Log.{IsAmong}
use Rattle.cat_desk.specs.Pass.{DeskId, all_left_by, known, mark_of, number_of, seen}
use Rattle.cat_desk.specs.declared.pass.Pass.{Pass}
use Rattle.cat_model.specs.declared.command.Command.{Command}
use Rattle.cat_model.specs.declared.cutoff.Resolved.{Resolved}
use Rattle.cat_model.specs.declared.limits.Quantity.{Quantity}
use Rattle.cat_model.specs.declared.limits.Quantity.TheVariants.{Drafts}
use Rattle.cat_model.specs.declared.log_entry.LogEntry.{LogEntry}
use Rattle.cat_model.specs.declared.refusal.Refusal.{Refusal}
use Rattle.cat_model.specs.declared.refusal.Refusal.TheVariants as refusals
use Rattle.cat_model.specs.declared.refusal.Refused.{Refused}
use Rattle.cat_model.specs.declared.reply.Told.{Told}
use Rattle.cat_model.specs.Drafts.{OpenDraft}
use Rattle.cat_model.specs.Mark.{FailedAppend, Grows, Mark}
use Rattle.cat_model.specs.TurnLaws.{grows_on, grows_self}
use Rattle.cat_policy.specs.Policies.{resolved}
use Rattle.cat_rest.specs.Wanted.{wanted}
use Rattle.cat_rest.specs.declared.wanted.Wanted.{Wanted}
use Rattle.cat_rest.specs.declared.wanted.Wanted.TheVariants.{Change, Checkpoint, Collect, Read}
use Rattle.cat_work.specs.Answers.{Answers, Causes, CausesLimit}
use Rattle.cat_work.specs.Checkpoints.{Answers as CheckpointAnswers, Causes as CheckpointCauses, base_after}
use Rattle.cat_serve.specs.declared.ending.Session.{Session as End}
use Rattle.cat_serve.specs.Passes.{Comes, EndsBy, GoesBy, Place, Visit, Visits, place}
use Rattle.cat_serve.specs.Serving.{Rises, Serves}
use Rattle.cat_serve.specs.Sessions.{Readings}
use Rattle.cat_serve.specs.Workers.{AllWorked, Ends as BothEnds, ServesAll, ServesEach, Worked, first_split}
use Rattle.cat_cli.specs.Shares.{CallerWasTold, OneWasTold, WasTold, all_shares, numbers_of, requests_in, share_of, shares_of}
use Rattle.cat_cli.proofs.Shares.{number_stays}

none_and_some : {A : Type 0} (fault : Option FailedAppend) (x : FailedAppend) → fault ≡ None → fault ≡ Some x → A
none_and_some fault x none some = absurd (let wrong : None ≡ Some x = sym none ∙ some in cc)

one_fault : (fault : Option FailedAppend) (x y : FailedAppend) → fault ≡ Some x → fault ≡ Some y → x ≡ y
one_fault fault x y one two = let both : Some x ≡ Some y = sym one ∙ two in let same : x ≡ y = cc in same

by_fault : {A : Type 0} (fault : Option FailedAppend) → (fault ≡ None → A) → ((x : FailedAppend) → fault ≡ Some x → A) → A
by_fault None none some = none refl
by_fault (Some x) none some = some x refl

-- ---- one request

TellsFault : Result Told Refused → Type 0
TellsFault told = (refused : Refused) × (told ≡ Err refused) × (refused.why ≡ refusals.Fault)

by_limit : (desk : DeskId) (n : ℕ) (c : Command) (moment : ℕ) (before after : Mark) (m : List LogEntry) (place : Option ℕ) (which : Quantity) (number : ℕ) → CausesLimit desk n c moment before after m place which number → after.fault ≡ None
by_limit desk n c moment before after m place Drafts number h = h.1.up
by_limit desk n c moment before after m place which number h = h.up

module _ (x : FailedAppend) where
  by_cause : (desk : DeskId) (n : ℕ) (c : Command) (moment attempts k : ℕ) (before after : Mark) (m : List LogEntry) (place : Option ℕ) (why : Refusal) → Causes desk n c moment attempts k before after m place why
      → before.fault ≡ None → after.fault ≡ Some x → x.caller ≡ n → why ≡ refusals.Fault
  by_cause desk n c moment attempts k before after m place refusals.NoMemory h up fell own = none_and_some before.fault x up (h.1 x fell own)
  by_cause desk n c moment attempts k before after m place (refusals.Down count) h up fell own =
      let d = h.1 in none_and_some before.fault d.fault up (d.known (ap (λ (f : FailedAppend). f.caller) (one_fault after.fault d.fault x d.is fell) ∙ own))
  by_cause desk n c moment attempts k before after m place refusals.Fault h up fell own = refl
  by_cause desk n c moment attempts k before after m place (refusals.RetriesSpent pairs) h up fell own = none_and_some after.fault x h.1.up fell
  by_cause desk n c moment attempts k before after m place (refusals.Expired keys opened) h up fell own = none_and_some after.fault x h.1.up fell
  by_cause desk n c moment attempts k before after m place (refusals.Limit which number) h up fell own = none_and_some after.fault x (by_limit desk n c moment before after m place which number h) fell
  by_cause desk n c moment attempts k before after m place why h up fell own = none_and_some after.fault x h.up fell

  by_collection : (desk : DeskId) (n : ℕ) (policy : Resolved) (moment k : ℕ) (before after : Mark) (m : List LogEntry) (place : Option ℕ) (why : Refusal) → CollectionCauses desk n policy moment k before after m place why
      → before.fault ≡ None → after.fault ≡ Some x → x.caller ≡ n → why ≡ refusals.Fault
  by_collection desk n policy moment k before after m place refusals.NoMemory h up fell own = none_and_some before.fault x up (h.1 x fell own)
  by_collection desk n policy moment k before after m place (refusals.Down count) h up fell own =
      let d = h.1 in none_and_some before.fault d.fault up (d.known (ap (λ (f : FailedAppend). f.caller) (one_fault after.fault d.fault x d.is fell) ∙ own))
  by_collection desk n policy moment k before after m place refusals.Fault h up fell own = refl
  by_collection desk n policy moment k before after m place (refusals.SweepOpen opened) h up fell own = none_and_some after.fault x h.1.up fell
  by_collection desk n policy moment k before after m place (refusals.Limit which number) h up fell own = none_and_some after.fault x h.1.up fell
  by_collection desk n policy moment k before after m place why h up fell own = absurd h

  change_told : (desk : DeskId) (n : ℕ) (c : Command) (moment attempts k : ℕ) (before after : Mark) (l m : List LogEntry) (told : Result Told Refused) → Answers desk n c moment attempts k before after l m told
      → before.fault ≡ None → after.fault ≡ Some x → x.caller ≡ n → TellsFault told
  unfolding TellsFault
  change_told desk n c moment attempts k before after l m (Ok answer) (inl accepts) up fell own = none_and_some after.fault x accepts.up fell
  change_told desk n c moment attempts k before after l m (Ok answer) (inr tells) up fell own = none_and_some after.fault x tells.up fell
  change_told desk n c moment attempts k before after l m (Err refused) answers up fell own = (refused, refl, by_cause desk n c moment attempts k before after m refused.place refused.why answers.1 up fell own)

  collection_told : (desk : DeskId) (n : ℕ) (policy : Resolved) (moment k : ℕ) (before after : Mark) (l m : List LogEntry) (told : Result Told Refused) → CollectionAnswers desk n policy moment k before after l m told
      → before.fault ≡ None → after.fault ≡ Some x → x.caller ≡ n → TellsFault told
  unfolding TellsFault
  collection_told desk n policy moment k before after l m (Ok answer) collects up fell own = none_and_some after.fault x collects.up fell
  collection_told desk n policy moment k before after l m (Err refused) answers up fell own = (refused, refl, by_collection desk n policy moment k before after m refused.place refused.why answers.1 up fell own)

  by_checkpoint : (desk : DeskId) (n : ℕ) (before after : Mark) (m : List LogEntry) (bytes : List ℕ) (place : Option ℕ) (why : Refusal) → CheckpointCauses desk n before after m bytes place why
      → before.fault ≡ None → after.fault ≡ Some x → x.caller ≡ n → why ≡ refusals.Fault
  by_checkpoint desk n before after m bytes place refusals.NoMemory h up fell own = none_and_some before.fault x up (h.1 x fell own)
  by_checkpoint desk n before after m bytes place (refusals.Down count) h up fell own =
      let d = h.1 in none_and_some before.fault d.fault up (d.known (ap (λ (f : FailedAppend). f.caller) (one_fault after.fault d.fault x d.is fell) ∙ own))
  by_checkpoint desk n before after m bytes place refusals.OldFormat h up fell own = none_and_some after.fault x h.1.up fell
  by_checkpoint desk n before after m bytes place (refusals.SweepOpen opened) h up fell own = none_and_some after.fault x h.1.up fell
  by_checkpoint desk n before after m bytes place (refusals.Limit which number) h up fell own = none_and_some after.fault x h.1.up fell
  by_checkpoint desk n before after m bytes place refusals.Fault h up fell own = refl
  by_checkpoint desk n before after m bytes place why h up fell own = absurd h

  checkpoint_told : (desk : DeskId) (n : ℕ) (before after : Mark) (m : List LogEntry) (drafts : List OpenDraft) (told : Result Told Refused) → CheckpointAnswers desk n before after m drafts told
      → before.fault ≡ None → after.fault ≡ Some x → x.caller ≡ n → TellsFault told
  unfolding TellsFault
  checkpoint_told desk n before after m drafts (Ok answer) based up fell own = none_and_some after.fault x based.up fell
  checkpoint_told desk n before after m drafts (Err refused) causes up fell own =
      (refused, refl, by_checkpoint desk n before after m (base_after desk m drafts) refused.place refused.why causes up fell own)

  comes_told : (desk : DeskId) (attempts : ℕ) (wants : Result Wanted Refusal) (taken : List ℕ) (p q : Pass) (told : Result Told Refused) → Comes desk attempts wants taken p q told
      → (mark_of p).fault ≡ None → (mark_of q).fault ≡ Some x → x.caller ≡ number_of p → TellsFault told
  comes_told desk attempts (Ok (Change command)) taken p q told (inl change) up fell own =
      change_told desk (number_of p) command change.moment attempts (known p) (mark_of p) (mark_of q) (seen p) (seen q) told change.answers up fell own
  comes_told desk attempts (Ok (Collect policy)) taken p q told (inl collection) up fell own =
      collection_told desk (number_of p) (resolved collection.moment policy) collection.moment (known p) (mark_of p) (mark_of q) (seen p) (seen q) told collection.answers up fell own
  comes_told desk attempts (Ok (Read ask)) taken p q told (inl reading) up fell own = none_and_some (mark_of p).fault x up (reading.linked.own_fault x fell own)
  comes_told desk attempts (Ok Checkpoint) taken p q told (inl checkpoint) up fell own =
      checkpoint_told desk (number_of p) (mark_of p) (mark_of q) (seen q) (all_left_by q).drafts told checkpoint.checks.answers up fell own
  comes_told desk attempts (Err why) taken p q told (inl call) up fell own = absurd call
  comes_told desk attempts wants taken p q told (inr refusal) up fell own = none_and_some (mark_of p).fault x up (ap (λ (z : Pass). (mark_of z).fault) (sym refusal.stays) ∙ fell)

  -- ---- one after another

  module _ (desk : DeskId) (attempts : ℕ) where
    visit_told : (v : Visit) (a b : Place) → Visits desk attempts a v b → (mark_of a.pass).fault ≡ None → (mark_of b.pass).fault ≡ Some x → x.caller ≡ number_of a.pass → WasTold x v
    unfolding TellsFault
    visit_told v a b visit up fell own =
        let is = visit.is in
        let was : (mark_of v.before).fault ≡ None = ap (λ (z : Pass). (mark_of z).fault) is.before ∙ up in
        let now : (mark_of v.after).fault ≡ Some x = ap (λ (z : Pass). (mark_of z).fault) is.after ∙ fell in
        let t = comes_told desk attempts (wanted v.message) v.taken v.before v.after v.told is.comes was now (own ∙ ap number_of (sym is.before)) in
        record { up = was; fell = now; refused = t.0; told = t.1; why = t.2 }

    module _ (end : End) (unread : Option (List ℕ)) (tail : List ℕ) (z : Place) (fell : (mark_of z.pass).fault ≡ Some x) where
      going_told : (visits last : List Visit) (a c : Place) → GoesBy desk attempts visits a c → EndsBy desk attempts c end unread last tail z → Rises a.pass (visits ++ last) z.pass
          → (mark_of a.pass).fault ≡ None → x.caller ≡ number_of a.pass → OneWasTold x (visits ++ last)
      going_told [] [] a c same ends rises up own = none_and_some (mark_of a.pass).fault x up (ap (λ (y : Pass). (mark_of y).fault) (sym rises) ∙ fell)
      going_told [] (v ∷ []) a c same (visit, told) rises up own = inl (visit_told v a z (subst (λ (y : Place). Visits desk attempts y v z) (sym same) visit) up fell own)
      going_told [] (v ∷ w ∷ more) a c same ends rises up own = absurd ends
      going_told (v ∷ visits) last a c (b, visit, stays, told, rest) ends (is, first, later, more) up own =
          let at : (mark_of v.after).fault ≡ (mark_of b.pass).fault = ap (λ (y : Pass). (mark_of y).fault) visit.is.after in
          by_fault (mark_of b.pass).fault
          (λ none. inr (going_told visits last b c rest ends (subst (λ (y : Pass). Rises y (visits ++ last) z.pass) visit.is.after more) none (own ∙ sym visit.is.number)))
          (λ y some. inl (visit_told v a b visit up (some ∙ ap (λ (f : FailedAppend). Some f) (one_fault (mark_of z.pass).fault y x (later.1.fault y (at ∙ some)) fell)) own))

    session_told : (a : Place) (end : End) (unread : Option (List ℕ)) (pass : Pass) (now : Option Readings) (held : Option (List ℕ)) (s : Serves desk attempts a end unread pass now held)
        → (mark_of a.pass).fault ≡ None → (mark_of pass).fault ≡ Some x → x.caller ≡ number_of a.pass → OneWasTold x (s.went.visits ++ s.went.ended.last)
    session_told a end unread pass now held s up fell own =
        let w = s.went in let e = w.ended in
        going_told end unread e.tail (place e.left pass now e.rest held) fell w.visits e.last a w.c w.goes e.ends s.rises up own

told_before : (x : FailedAppend) (xs ys : List Visit) → OneWasTold x xs → OneWasTold x (xs ++ ys)
told_before x [] ys told = absurd told
told_before x (v ∷ xs) ys (inl told) = inl told
told_before x (v ∷ xs) ys (inr told) = inr (told_before x xs ys told)

told_behind : (x : FailedAppend) (xs ys : List Visit) → OneWasTold x ys → OneWasTold x (xs ++ ys)
told_behind x [] ys told = told
told_behind x (v ∷ xs) ys told = inr (told_behind x xs ys told)

module _ {In Out : Type 0} (ends : BothEnds In Out) (desk : DeskId) (attempts : ℕ) where
  each_grows : (p : Pass) (ahead : Option Readings) (xs ys : List (In × Out)) (q : Pass) (now : Option Readings) → ServesEach ends desk attempts p ahead xs ys q now → Grows (mark_of p) (mark_of q)
  each_grows p ahead [] [] q now s = subst (λ (z : Pass). Grows (mark_of p) (mark_of z)) (sym s.0) (grows_self (mark_of p))
  each_grows p ahead [] (y ∷ ys) q now s = absurd s
  each_grows p ahead (x ∷ xs) [] q now s = absurd s
  each_grows p ahead (x ∷ xs) (y ∷ ys) q now (mid, next, is, rest) = grows_on (mark_of p) (mark_of mid) (mark_of q) is.serves.marks (each_grows mid next xs ys q now rest)

  module _ (x : FailedAppend) where
    each_told : (p : Pass) (ahead : Option Readings) (xs ys : List (In × Out)) (q : Pass) (now : Option Readings) (s : ServesEach ends desk attempts p ahead xs ys q now)
        → (mark_of p).fault ≡ None → (mark_of q).fault ≡ Some x → x.caller ≡ number_of p → OneWasTold x (requests_in ends desk attempts p ahead xs ys q now s)
    each_told p ahead [] [] q now s up fell own = none_and_some (mark_of p).fault x up (ap (λ (z : Pass). (mark_of z).fault) (sym s.0) ∙ fell)
    each_told p ahead [] (v ∷ ys) q now s up fell own = absurd s
    each_told p ahead (u ∷ xs) [] q now s up fell own = absurd s
    each_told p ahead (u ∷ xs) (v ∷ ys) q now (mid, next, is, rest) up fell own =
        let first = is.serves.went.visits ++ is.serves.went.ended.last in
        by_fault (mark_of mid).fault
        (λ none. told_behind x first _ (each_told mid next xs ys q now rest none fell (own ∙ sym (number_stays desk attempts _ is.end _ mid next _ is.serves.went))))
        (λ y some. told_before x first _ (session_told x desk attempts _ is.end _ mid next _ is.serves up
        (some ∙ ap (λ (f : FailedAppend). Some f) (one_fault (mark_of q).fault y x ((each_grows mid next xs ys q now rest).fault y some) fell)) own))

    -- of the worker with its number
    module _ (p q : Pass) (up : (mark_of p).fault ≡ None) (fell : (mark_of q).fault ≡ Some x) where
      worker_told : (number : ℕ) (ahead now : Option Readings) (given served : List (In × Out)) (w : Worked ends desk attempts number p ahead q now given served) → x.caller ≡ number
          → OneWasTold x (share_of ends desk attempts w).1
      worker_told number ahead now given served w own =
          each_told w.first ahead given served w.last now w.each (ap (λ (m : Mark). m.fault) w.remembers.mark ∙ up) (w.taken.faults x fell own) (own ∙ sym w.number_is)

      shares_told : (tells : Bool) (well : Type 0) (dealt : List (List (In × Out))) (number : ℕ) (ahead : Option Readings) (groups : List (List (In × Out))) (all : AllWorked ends desk attempts tells well dealt number p ahead q groups)
          → IsAmong x.caller (numbers_of (shares_of ends desk attempts tells well dealt number p ahead q groups all)) → CallerWasTold x (shares_of ends desk attempts tells well dealt number p ahead q groups all)
      shares_told tells well dealt number ahead [] all none = absurd none
      shares_told tells well dealt number ahead (group ∷ groups) (t, rest) (inl same) = inl (same, worker_told (number + length groups) t.own t.now t.given t.served t.worked same)
      shares_told tells well dealt number ahead (group ∷ groups) (t, rest) (inr among) = inr (shares_told tells well dealt number ahead groups rest among)

  -- ---- of all workers

  module _ {workers : ℕ} {tells : Bool} {waits waits_now back back_now : List (In × Out)} {groups groups_now dealt dealt_now : List (List (In × Out))} {faults faults_now : ℕ} {p : Pass} {ahead : Option Readings} {q : Pass} {now : Option Readings}
      (s : ServesAll ends desk attempts workers tells waits waits_now back back_now groups groups_now dealt dealt_now faults faults_now p ahead q now) where
    -- no append had failed as it began, and the one that failed since is of one of the workers
    pub all_told : (x : FailedAppend) → (mark_of p).fault ≡ None → (mark_of q).fault ≡ Some x → IsAmong x.caller (numbers_of (all_shares ends desk attempts s)) → CallerWasTold x (all_shares ends desk attempts s)
    all_told x up fell (inl same) = inl (same, worker_told x p q up fell (number_of p) ahead now s.given s.own s.mine same)
    all_told x up fell (inr among) = inr (shares_told x p q up fell tells (Rose faults faults_now → ⊥) dealt (first_split p) ahead s.twins s.theirs among)
