-- A collection on the only pass of a desk: from its answer to the store, and to the journal that the store was opened from.
use Rattle.std.proofs.Common.{◌≡◌, ◌≢◌, ◌⊎◌, ℕ, List, [], ◌∷◌, ◌++◌, reverse, length, Option, Some, None, IfSome, Bool, true, false, Result, Ok, Err, ◌+◌, refl, sym, ◌∙◌, ap, subst, inl, inr}
use Rattle.std.specs.Prelude.{nat_lt, nat_le}
use Rattle.std.specs.Option.{option_map}
use Rattle.std.proofs.lemmas.List.{reverse-reverse}
use Rattle.sha2.specs.Sha256.{sha256}
use Rattle.cat_checks.specs.Histories.{IsLegalFrom}
use Rattle.cat_core.specs.Stored.{Stored, opened_of}
use Rattle.cat_keeper.specs.Bases.{bases_in}
use Rattle.cat_io.specs.Clocks.{Ticks}
use Rattle.cat_names.specs.declared.hash.Hash.{Hash}
use Rattle.cat_model.specs.declared.limits.Quantity.{Quantity}
use Rattle.cat_model.specs.declared.limits.Quantity.TheVariants as quantities
use Rattle.cat_model.specs.declared.log_entry.LogEntry.{LogEntry}
use Rattle.cat_model.specs.declared.refusal.Refusal.{Refusal}
use Rattle.cat_model.specs.declared.refusal.Refusal.TheVariants as refusals
use Rattle.cat_model.specs.declared.refusal.Refused.{Refused}
use Rattle.cat_model.specs.declared.reply.Reply.{Reply}
use Rattle.cat_model.specs.declared.reply.Reply.TheVariants as replies
use Rattle.cat_model.specs.declared.reply.Swept.{Swept}
use Rattle.cat_model.specs.declared.reply.Told.{Told}
use Rattle.cat_model.specs.declared.sweep.Sweep.{Sweep}
use Rattle.cat_model.specs.Book.{Book}
use Rattle.cat_model.specs.Calls.{Called}
use Rattle.cat_model.specs.Drafts.{no_names}
use Rattle.cat_model.specs.Mark.{FailedAppend}
use Rattle.cat_model.specs.Moves.{needs_log}
use Rattle.cat_model.specs.Past.{past_of, swept_on}
use Rattle.cat_model.specs.Refusing.{◌>>=◌, Tested, needs, needs_at_most}
use Rattle.cat_model.specs.State.{State}
use Rattle.cat_model.specs.Sweeps.{kept_contents, names_in, needs_sweep_room, removed_contents, saved, since, step_sweep, sweep_call, sweep_entry, sweep_of, swept, swept_by}
use Rattle.cat_model.specs.Turns.{Opened}
use Rattle.cat_policy.specs.declared.policy.Policy.{Policy}
use Rattle.cat_policy.specs.Policies.{resolved}
use Rattle.cat_state.specs.Kept.{spelling}
use Rattle.cat_work.specs.Answers.{AnswersAlone, RefusesAlone, journal_in}
use Rattle.cat_cli.specs.declared.collecting.Collected.{Collected}
use Rattle.cat_cli.specs.declared.collecting.Collected.TheVariants as comes
use Rattle.cat_cli.specs.Collecting.{Collects, ComesTo, IsAnswer, IsGathered, IsOwn, Means, MeansBy, collection}
use Rattle.cat_cli.specs.Journals.{KeepsFormat}
use Rattle.cat_cli.specs.Opening.{IsStored}
use Rattle.cat_cli.specs.Surviving.{IsBegun, KeepsThrough, LeavesLog, images_of}
use Rattle.cat_cli.proofs.Ran.{log_of}
use Rattle.cat_cli.proofs.Surviving.{survives}
use Rattle.cat_cli.proofs.Unbased.{counts_none}

-- ---- what the model's sweep brings

-- an entry, and a reply that tells of a sweep
pub record Accepts (called : Called) : Type 0 where
  pub place : ℕ
  pub swept : Swept
  pub entry : LogEntry
  pub said : called.said ≡ Ok (record { place = place; reply = replies.Swept swept })
  pub logged : called.logged ≡ entry ∷ []

-- or a refusal for a limit
pub record Refuses (called : Called) : Type 0 where
  pub which : Quantity
  pub number : ℕ
  pub place : ℕ
  pub said : called.said ≡ Err (record { place = Some place; why = refusals.Limit which number })
  pub logged : called.logged ≡ []

abbrev pub Brings : Called → Type 0
Brings called = Accepts called ⊎ Refuses called

abbrev IsForLimit : Refusal → Type 0
IsForLimit why = (which : Quantity) × (number : ℕ) × (why ≡ refusals.Limit which number)

abbrev FailsForLimit : Tested → Type 0
FailsForLimit (Ok u) = Unit {0}
FailsForLimit (Err why) = IsForLimit why

tests : (b : Bool) (which : Quantity) (number : ℕ) → FailsForLimit (needs b (refusals.Limit which number))
tests true which number = tt
tests false which number = (which, number, refl)

both : (t : Tested) (next : Unit {0} → Tested) → FailsForLimit t → ((u : Unit {0}) → FailsForLimit (next u)) → FailsForLimit (t >>= next)
both (Ok u) next first more = more u
both (Err why) next first more = first

room : (state : State) (count : ℕ) → FailsForLimit (needs_sweep_room state count)
unfolding needs_sweep_room
room state count =
    both (needs_log state) (λ _. needs_at_most count state.limits.names quantities.Names)
    (tests (nat_lt state.place state.limits.log) quantities.Log state.limits.log)
    (λ u. tests (nat_le count state.limits.names) quantities.Names state.limits.names)

abbrev refusing : ℕ → Refusal → Result Told Refused
refusing place why = Err (record { place = Some place; why = why })

brought : (caller : ℕ) (state : State) (draft moment : ℕ) (s : Sweep) (kept : List Hash) (t : Tested) → FailsForLimit t → Brings (swept_by caller state draft moment s (t >>= λ _. swept state s.opened kept))
brought caller state draft moment s kept (Ok u) fails = inl (record {
  place = state.place + 1;
  swept = record { kept = length (kept_contents kept state.present); opened = s.opened; removed = length (removed_contents kept state.present) };
  entry = sweep_entry caller (state.place + 1) moment s;
  said = refl;
  logged = refl;
})
brought caller state draft moment s kept (Err why) fails = inr (record {
  which = fails.0;
  number = fails.1;
  place = state.place;
  said = ap (refusing state.place) fails.2;
  logged = refl;
})

swept_brings : (caller : ℕ) (state : State) (past : List State) (draft moment : ℕ) (s : Sweep) → Brings (sweep_call caller state past draft moment s)
unfolding sweep_call step_sweep
swept_brings caller state past draft moment s =
    brought caller state draft moment s (saved (since s.opened state past) state.commits s.policy (names_in s)) (needs_sweep_room state (length s.commits + length s.contents)) (room state (length s.commits + length s.contents))

pub brings : (book : Book) (policy : Policy) (moment : ℕ) → Brings (collection book policy moment)
brings book policy moment = swept_brings 1 book.state (past_of sha256 book) book.draft moment (sweep_of book.state.place (resolved moment policy) no_names)

-- ---- what alone is told of it

abbrev said_ok : Told → Result Told Refused
said_ok told = Ok told

abbrev said_err : Refused → Result Told Refused
said_err refused = Err refused

same_told : (a b : Told) → said_ok a ≡ said_ok b → a ≡ b
same_told a b e = cc

same_refused : (a b : Refused) → said_err a ≡ said_err b → a ≡ b
same_refused a b e = cc

apart : {A : Type 0} (told : Told) (refused : Refused) → said_ok told ≡ said_err refused → A
apart told refused e = absurd cc

abbrev is_limit : Refusal → Bool
is_limit (refusals.Limit which number) = true
is_limit _ = false

-- the refusal is for a limit where the model's is told
for_limit : (called : Called) (refused : Refused) → Brings called → called.said ≡ Err refused → is_limit refused.why ≡ true
for_limit called refused (inl a) said = apart (record { place = a.place; reply = replies.Swept a.swept }) refused (sym a.said ∙ said)
for_limit called refused (inr r) said = ap (λ (x : Refused). is_limit x.why) (same_refused refused (record { place = Some r.place; why = refusals.Limit r.which r.number }) (sym said ∙ r.said))

unlimited : {A : Type 0} (called : Called) (refused : Refused) (why : Refusal) → is_limit why ≡ false → refused.why ≡ why → Brings called → called.said ≡ Err refused → A
unlimited called refused why other is b said = absurd (let wrong : false ≡ true = sym other ∙ ap is_limit (sym is) ∙ for_limit called refused b said in cc)

none_failed : {A : Type 0} (fault : FailedAppend) → ◌≡◌ {A = Option FailedAppend} None (Some fault) → A
none_failed fault e = absurd cc

module _ (n : ℕ) (called : Called) (b b' : Book) (f' : Option FailedAppend) (brings : Brings called) where
  own : (refused : Refused) (why : Refusal) → refused.why ≡ why → RefusesAlone n called b b' None f' refused why → IsOwn why
  own refused (refusals.Limit which number) is p = tt
  own refused refusals.Fault is p = tt
  own refused refusals.NoMemory is p = tt
  own refused (refusals.Down count) is p = none_failed p.fault p.was
  own refused (refusals.RetriesSpent pairs) is p = absurd p
  own refused (refusals.BadRequest x) is p = unlimited called refused (refusals.BadRequest x) refl is brings p.0.said
  own refused refusals.RefNotFound is p = unlimited called refused refusals.RefNotFound refl is brings p.0.said
  own refused refusals.RefExists is p = unlimited called refused refusals.RefExists refl is brings p.0.said
  own refused (refusals.ContentNotFound x) is p = unlimited called refused (refusals.ContentNotFound x) refl is brings p.0.said
  own refused (refusals.Conflicts x) is p = unlimited called refused (refusals.Conflicts x) refl is brings p.0.said
  own refused (refusals.Expired keys opened) is p = unlimited called refused (refusals.Expired keys opened) refl is brings p.0.said
  own refused (refusals.SweepOpen x) is p = unlimited called refused (refusals.SweepOpen x) refl is brings p.0.said
  own refused (refusals.Collision hash first second) is p = unlimited called refused (refusals.Collision hash first second) refl is brings p.0.said
  own refused refusals.NoRoute is p = unlimited called refused refusals.NoRoute refl is brings p.0.said
  own refused (refusals.WrongMethod x) is p = unlimited called refused (refusals.WrongMethod x) refl is brings p.0.said
  own refused refusals.TooLarge is p = unlimited called refused refusals.TooLarge refl is brings p.0.said
  own refused refusals.Encoding is p = unlimited called refused refusals.Encoding refl is brings p.0.said
  own refused refusals.OldFormat is p = unlimited called refused refusals.OldFormat refl is brings p.0.said

  -- the reply is a sweep's
  swept_of : (told : Told) → called.said ≡ Ok told → (x : Accepts called) × (told.reply ≡ replies.Swept x.swept)
  swept_of told said = by brings
    where
      by : Brings called → (x : Accepts called) × (told.reply ≡ replies.Swept x.swept)
      by (inl a) = (a, ap (λ (t : Told). t.reply) (same_told told (record { place = a.place; reply = replies.Swept a.swept }) (sym said ∙ a.said)))
      by (inr r) = apart told (record { place = Some r.place; why = refusals.Limit r.which r.number }) (sym said ∙ r.said)

  pub is_answer : (answer : Result Told Refused) → AnswersAlone n called b b' None f' answer → IsAnswer answer
  is_answer (Ok told) p = let x = swept_of told p.0.said in (x.0.swept, x.1)
  is_answer (Err refused) p = own refused refused.why refl p

  -- ---- what is left of the store

  abbrev pub payload_of : Option FailedAppend → Option (List ℕ)
  payload_of f = option_map (λ (x : FailedAppend). x.payload) f

  -- it came to this, and the log has its entry, if that was kept
  abbrev pub Leaves : Collected → Type 0
  Leaves what = (added : List LogEntry) × ComesTo called what added (payload_of f') × (b'.log ≡ reverse added ++ b.log)

  none_logged : (refused : Refused) → called.said ≡ Err refused → called.logged ≡ []
  none_logged refused said = by brings
    where
      by : Brings called → called.logged ≡ []
      by (inl a) = apart (record { place = a.place; reply = replies.Swept a.swept }) refused (sym a.said ∙ said)
      by (inr r) = r.logged

  limited : (refused : Refused) (which : Quantity) (number : ℕ) → refused.why ≡ refusals.Limit which number → RefusesAlone n called b b' None f' refused (refusals.Limit which number) → Leaves (comes.Limit number)
  limited refused which number is p =
      let none = none_logged refused p.0.said in (
        [],
        record {
          which = which;
          place = refused.place;
          said = p.0.said ∙ ap (λ (w : Refusal). said_err (record { place = refused.place; why = w })) is;
          logged = none;
          added_is = refl;
          up = ap payload_of p.2;
        },
        ap (λ (x : Book). x.log) p.0.book ∙ ap (λ (l : List LogEntry). l ++ b.log) none,
      )

  refused_so : (refused : Refused) (why : Refusal) (what : Collected) → refused.why ≡ why → RefusesAlone n called b b' None f' refused why → MeansBy why what → Leaves what
  refused_so refused (refusals.Limit which number) what is p means = subst Leaves (sym means) (limited refused which number is p)
  refused_so refused refusals.Fault what is p means =
      subst Leaves (sym means) ([], record { entry = p.entry; logged = p.logged; added_is = refl; flies = ap payload_of p.is ∙ ap (λ (l : List ℕ). Some l) p.payload }, p.unkept.log)
  refused_so refused refusals.NoMemory what is p means = subst Leaves (sym means) ([], (refl, ap payload_of p.1), p.0.log)
  refused_so refused (refusals.Down count) what is p means = absurd means
  refused_so refused (refusals.RetriesSpent pairs) what is p means = absurd means
  refused_so refused (refusals.BadRequest x) what is p means = absurd means
  refused_so refused refusals.RefNotFound what is p means = absurd means
  refused_so refused refusals.RefExists what is p means = absurd means
  refused_so refused (refusals.ContentNotFound x) what is p means = absurd means
  refused_so refused (refusals.Conflicts x) what is p means = absurd means
  refused_so refused (refusals.Expired keys opened) what is p means = absurd means
  refused_so refused (refusals.SweepOpen x) what is p means = absurd means
  refused_so refused (refusals.Collision hash first second) what is p means = absurd means
  refused_so refused refusals.NoRoute what is p means = absurd means
  refused_so refused (refusals.WrongMethod x) what is p means = absurd means
  refused_so refused refusals.TooLarge what is p means = absurd means
  refused_so refused refusals.Encoding what is p means = absurd means
  refused_so refused refusals.OldFormat what is p means = absurd means

  accepted_so : (told : Told) (swept : Swept) → told.reply ≡ replies.Swept swept → AnswersAlone n called b b' None f' (Ok told) → Leaves (comes.Swept swept.kept swept.removed told.place)
  accepted_so told swept is p =
      let x = (swept_of told p.0.said).0 in (
        x.entry ∷ [],
        record {
          opened = swept.opened;
          said = p.0.said ∙ ap (λ (r : Reply). said_ok (record { place = told.place; reply = r })) is;
          entry = x.entry;
          logged = x.logged;
          added_is = refl;
          up = ap payload_of p.2;
        },
        ap (λ (x : Book). x.log) p.0.book ∙ ap (λ (l : List LogEntry). l ++ b.log) x.logged,
      )

  pub leaves : (answer : Result Told Refused) (what : Collected) → AnswersAlone n called b b' None f' answer → Means answer what → Leaves what
  leaves (Ok told) what p means = subst Leaves (sym means.2) (accepted_so told means.0 means.1 p)
  leaves (Err refused) what p means = refused_so refused refused.why what refl p means

-- ---- on the store that the desk held

module _ {K : Type 0} (in_flight : K → Option (List ℕ)) (policy : Policy) (moment n : ℕ) (b b' : Book) (f f' : Option FailedAppend) (old new : Stored K) (answer : Result Told Refused)
    (number : n ≡ 1) (book : b ≡ old.book) (up : f ≡ None)
    (alone : AnswersAlone n (swept_on sha256 n b (resolved moment policy) no_names moment) b b' f f' answer) where
  first_alone : AnswersAlone 1 (collection old.book policy moment) old.book b' None f' answer
  first_alone =
      subst (λ (z : ℕ × Book × Option FailedAppend). AnswersAlone z.0 (swept_on sha256 z.0 z.1 (resolved moment policy) no_names moment) z.1 b' z.2 f' answer)
      (λ i. (number i, book i, up i)) alone

  pub may_be_told : IsAnswer answer
  may_be_told = is_answer 1 (collection old.book policy moment) old.book b' f' (brings old.book policy moment) answer first_alone

  pub gathered : (ahead to_come : Option (ℕ → ℕ)) (what : Collected) → Ticks ahead to_come moment → Means answer what → new.book ≡ b' → new.mark.fault ≡ f' → in_flight new.keeper ≡ option_map (λ (x : FailedAppend). x.payload) new.mark.fault
      → (opened : Opened) (log : List LogEntry) → opened ≡ opened_of old → opened_of new ≡ opened_of old → b'.log ≡ reverse log → IsLegalFrom opened log → journal_in new.mark ≡ journal_in old.mark
      → IsGathered in_flight policy ahead to_come old new what
  gathered ahead to_come what ticks means book_is fault_is flies opened log from_here stays seen_is legal unbased =
      let x = leaves 1 (collection old.book policy moment) old.book b' f' (brings old.book policy moment) answer what first_alone means in
      record {
        moment = moment;
        ticks = ticks;
        added = x.0;
        comes_to = subst (λ (p : Option (List ℕ)). ComesTo (collection old.book policy moment) what x.0 p) (sym (flies ∙ ap (option_map (λ (x : FailedAppend). x.payload)) fault_is)) x.1;
        log_is = ap (λ (x : Book). x.log) book_is ∙ x.2;
        opened = stays;
        unbased = unbased;
        legal =
            let is : log ≡ reverse new.book.log = sym (reverse-reverse log) ∙ ap (λ (l : List LogEntry). reverse l) (sym (ap (λ (x : Book). x.log) book_is ∙ seen_is)) in
            subst (λ (z : Opened × List LogEntry). IsLegalFrom z.0 z.1) (λ i. (from_here i, is i)) legal;
      }

-- an append failed
failed_at : (fault : Option FailedAppend) (p : List ℕ) → option_map (λ (x : FailedAppend). x.payload) fault ≡ Some p → (x : FailedAppend) × (fault ≡ Some x)
failed_at None p e = absurd cc
failed_at (Some x) p e = (x, refl)

pub has_failed : {K : Type 0} (in_flight : K → Option (List ℕ)) (policy : Policy) (ahead to_come : Option (ℕ → ℕ)) (old new : Stored K) (what : Collected) → IsGathered in_flight policy ahead to_come old new what → what ≡ comes.Fault
    → in_flight new.keeper ≡ option_map (λ (x : FailedAppend). x.payload) new.mark.fault → (x : FailedAppend) × (new.mark.fault ≡ Some x)
has_failed in_flight policy ahead to_come old new what g is flies =
    let unkept = subst (λ (w : Collected). ComesTo (collection old.book policy g.moment) w g.added (in_flight new.keeper)) is g.comes_to in
    failed_at new.mark.fault (spelling unkept.entry) (sym flies ∙ unkept.flies)

-- and none did where it came to something else
not_flown : (p : List ℕ) → ◌≡◌ {A = Option (List ℕ)} (Some p) None → ⊥
not_flown p e = cc

none_failed_at : (fault : Option FailedAppend) → option_map (λ (x : FailedAppend). x.payload) fault ≡ None → fault ≡ None
none_failed_at None e = refl
none_failed_at (Some x) e = absurd (not_flown x.payload e)

none_flies_by : (called : Called) (what : Collected) (added : List LogEntry) (flying : Option (List ℕ)) → ComesTo called what added flying → what ≢ comes.Fault → flying ≡ None
none_flies_by called (comes.Swept kept removed place) added flying c other = c.up
none_flies_by called (comes.Limit number) added flying c other = c.up
none_flies_by called comes.Fault added flying c other = absurd (other refl)
none_flies_by called comes.NoMemory added flying c other = c.1

pub has_kept : {K : Type 0} (in_flight : K → Option (List ℕ)) (policy : Policy) (ahead to_come : Option (ℕ → ℕ)) (old new : Stored K) (what : Collected) → IsGathered in_flight policy ahead to_come old new what → what ≢ comes.Fault
    → in_flight new.keeper ≡ option_map (λ (x : FailedAppend). x.payload) new.mark.fault → new.mark.fault ≡ None
has_kept in_flight policy ahead to_come old new what g other flies =
    none_failed_at new.mark.fault (sym flies ∙ none_flies_by (collection old.book policy g.moment) what g.added (in_flight new.keeper) g.comes_to other)

-- ---- on the journal that the store was opened from

module _ {D K : Type 0} (told : D → Option (List ℕ)) (may_leave : D → List ℕ → Type 0) (moment : D → ℕ) (left_since : D → ℕ → List ℕ → Type 0) (in_flight : K → Option (List ℕ))
    (kept : K → Option (List (List ℕ))) (since : ℕ) (had : List (List ℕ)) (early : List ℕ → Type 0) (disk again : D) (old new : Stored K) (down : Option ℕ) (policy : Policy) (ahead to_come : Option (ℕ → ℕ)) (what : Collected)
    (stored : IsStored (told disk) old.opened old.book (kept old.keeper) down)
    (g : IsGathered in_flight policy ahead to_come old new what)
    (begun : IsBegun since had early (told disk) (moment disk) (may_leave disk))
    (bases : (old.mark.bases ≡ bases_in (kept old.keeper)) × (new.mark.bases ≡ bases_in (kept new.keeper)))
    (leaves : KeepsThrough since had early (may_leave again) (left_since again) kept in_flight new.keeper new.opened new.book (told again)) (shaped : KeepsFormat (told disk) (told again)) where
  pub collects : Collects policy ahead to_come (told disk) (told again) (images_of may_leave moment left_since disk again) what
  collects =
      let log : reverse new.book.log ≡ reverse old.book.log ++ g.added =
      log_of old.book.log new.book.log (reverse g.added) g.log_is ∙ ap (λ (l : List LogEntry). reverse old.book.log ++ l) (reverse-reverse g.added) in
      record {
        payloads = stored.payloads;
        opened = old.opened;
        book = old.book;
        begins = stored.begins;
        moment = g.moment;
        ticks = g.ticks;
        added = g.added;
        flying = in_flight new.keeper;
        comes_to = g.comes_to;
        format_stays = shaped;
        legal = subst (IsLegalFrom old.opened) log g.legal;
        crash =
            survives since had early (moment disk) (may_leave disk) (may_leave again) (left_since again) old.opened (reverse old.book.log) g.added (reverse new.book.log) (kept new.keeper) (in_flight new.keeper) 0 log
            (told disk) (told again) stored.payloads begun stored.begins.recovers stored.begins.total stored.spelled stored.begins.opened
            (counts_none (told disk) (kept old.keeper) (kept new.keeper) stored.payloads stored.are (sym bases.1 ∙ ap (λ (x : ℕ × ℕ × Option ℕ). x.2) g.unbased ∙ bases.0))
            (subst (λ (o : Opened). IfSome (told again) (LeavesLog since had early (may_leave again) (left_since again) o (reverse new.book.log) (kept new.keeper) (in_flight new.keeper))) g.opened leaves);
      }
