-- What open drafts keep, through calls.
use Rattle.std.proofs.Common.{◌≡◌, ℕ, suc, ◌≤◌, ◌+◌, ◌-◌, List, [], ◌∷◌, ◌++◌, take, filter, map, Option, Some, None, ⊎_elim, is_some, Result, Ok, Err, Bool, true, false, cond, ◌||◌, ◌&&◌, nat_eq, IfSome, refl, sym, ap, subst, ◌∙◌, arith}
use Rattle.std.specs.List.{flat_map, list_all, list_any}
use Rattle.std.specs.Option.{option_map}
use Rattle.std.specs.Prelude.{find}
use Rattle.sha2.specs.Sha256.{sha256}
use Rattle.cat_checks.specs.ReplayedLaws.{legal_place, replayed_later}
use Rattle.cat_decisions.specs.AddedLaws.{entries_later}
use Rattle.cat_graph.specs.GraphLaws.{same_is, same_self}
use Rattle.cat_graph.specs.Linked as linked
use Rattle.cat_graph.specs.Linked.{AreLinked}
use Rattle.cat_names.specs.declared.hash.Hash.{Hash}
use Rattle.cat_model.specs.declared.content.Content.{Content}
use Rattle.cat_model.specs.declared.log_entry.LogEntry.{LogEntry}
use Rattle.cat_model.specs.declared.reply.Told.{Told}
use Rattle.cat_model.specs.declared.sweep.Sweep.{Sweep}
use Rattle.cat_model.specs.Base.{is_among}
use Rattle.cat_model.specs.Book.{Book}
use Rattle.cat_model.specs.Calls.{Called}
use Rattle.cat_model.specs.Chain.{Commits}
use Rattle.cat_model.specs.Cutoffs.{visible}
use Rattle.cat_model.specs.Drafts.{Names, OpenDraft, OpenSweep, Opening}
use Rattle.cat_model.specs.Later.{Adds, IsLater}
use Rattle.cat_model.specs.Past.{course, past_of}
use Rattle.cat_model.specs.Refusing.{Outcome}
use Rattle.cat_model.specs.Same.{same_hash}
use Rattle.cat_model.specs.State.{State, content_at}
use Rattle.cat_model.specs.Turns.{Opened}
use Rattle.cat_model.specs.Sweeps.{hash_set, is_saved, kept_by_names, kept_contents, live_since, names_in, needs_sweep_room, saved, since, step_sweep, sweep_call, swept_by}
use Rattle.cat_state.specs.declared.failure.Failure.TheVariants as failures
use Rattle.cat_state.specs.declared.unmade.Unmade.{Unmade}
use Rattle.cat_state.specs.declared.unmade.Unmade.TheVariants.{Failed, NotKept}
use Rattle.cat_core.specs.declared.closing.Closing.{Closing}
use Rattle.cat_core.specs.declared.tickets.OpenDraft as code
use Rattle.cat_core.specs.declared.tickets.OpenSweep as tickets
use Rattle.cat_core.specs.Drafts.{IsOpen, without}
use Rattle.cat_core.specs.Lasting.{AreLasting, HasAllNames, HasNames, IsHolding, IsLasting, had_content, has_content, states_since}
use Rattle.cat_core.specs.Making.{Runs}
use Rattle.cat_core.specs.Noting.{and_names, names_of_drafts, noting}
use Rattle.cat_core.specs.Stored.{AreKnown, AreNamed, IsSound, Stored, draft_held, sweep_held}
use Rattle.cat_core.specs.Sweeping.{saved_on}
use Rattle.cat_core.specs.Sweeps.{Closes, Drops, IsClosing, sweep_in, sweep_on}
use Rattle.cat_core.proofs.Ending.{closes_it, drops_it}
use Rattle.cat_core.proofs.Grown.{Keeps}
use Rattle.cat_core.proofs.HashSets.{in_set}
use Rattle.cat_core.proofs.Looking.{among_both, any_of_lists, same_lists}
use Rattle.cat_core.proofs.Sound.{Brings, IsCallIn}
use Rattle.cat_core.proofs.Taken.{OkIs, bind}
use Rattle.cat_core.proofs.UnderWay.{ends_sound, past_is}

-- ---- hashes among others

pub or_first : (a b : Bool) → a ≡ true → (a || b) ≡ true
or_first true b e = refl
or_first false b e = absurd cc

pub or_second : (a b : Bool) → b ≡ true → (a || b) ≡ true
or_second true b e = refl
or_second false b e = e

or_cases : {P : Type 0} (a b : Bool) → (a || b) ≡ true → (a ≡ true → P) → (b ≡ true → P) → P
or_cases true b e f g = f refl
or_cases false b e f g = g e

-- what passes one of them passes one of those that they are among
pub passes_by : (f : Hash → Bool) (xs : List Hash) (hash : Hash) → f hash ≡ true → is_among xs hash ≡ true → list_any f xs ≡ true
passes_by f [] hash passes there = absurd cc
passes_by f (x ∷ xs) hash passes there =
    or_cases (same_hash x hash) (is_among xs hash) there
    (λ same. or_first (f x) (list_any f xs) (ap f (same_is x hash same) ∙ passes))
    (λ more. or_second (f x) (list_any f xs) (passes_by f xs hash passes more))

passes_more : (f : Hash → Bool) (xs ys : List Hash) → ((hash : Hash) → is_among xs hash ≡ true → is_among ys hash ≡ true) → list_any f xs ≡ true → list_any f ys ≡ true
passes_more f [] ys more passes = absurd cc
passes_more f (x ∷ xs) ys more passes =
    or_cases (f x) (list_any f xs) passes
    (λ first. passes_by f ys x first (more x (or_first (same_hash x x) (is_among xs x) (same_self x))))
    (λ rest. passes_more f xs ys (λ hash there. more hash (or_second (same_hash x hash) (is_among xs hash) there)) rest)

-- ---- names

names_on : (a b c : Names) → HasNames b a → HasNames c b → HasNames c a
names_on a b c p q = record { commits = λ hash there. q.commits hash (p.commits hash there); contents = λ hash there. q.contents hash (p.contents hash there) }

all_names_on : (a b : Names) (drafts : List OpenDraft) → HasNames b a → HasAllNames a drafts → HasAllNames b drafts
all_names_on a b [] more has = tt
all_names_on a b (d ∷ drafts) more has = (names_on d.names a b has.0 more, all_names_on a b drafts more has.1)

there_first : (xs ys : List Hash) (hash : Hash) → is_among xs hash ≡ true → is_among (xs ++ ys) hash ≡ true
there_first xs ys hash there = among_both xs ys hash ∙ or_first (is_among xs hash) (is_among ys hash) there

there_second : (xs ys : List Hash) (hash : Hash) → is_among ys hash ≡ true → is_among (xs ++ ys) hash ≡ true
there_second xs ys hash there = among_both xs ys hash ∙ or_second (is_among xs hash) (is_among ys hash) there

names_first : (a b : Names) → HasNames (and_names a b) a
names_first a b = record { commits = there_first a.commits b.commits; contents = there_first a.contents b.contents }

names_second : (a b : Names) → HasNames (and_names a b) b
names_second a b = record { commits = there_second a.commits b.commits; contents = there_second a.contents b.contents }

-- those of drafts have each one's
pub drafts_have : (drafts : List OpenDraft) → HasAllNames (names_of_drafts drafts) drafts
drafts_have [] = tt
drafts_have (d ∷ drafts) = (names_first d.names (names_of_drafts drafts), all_names_on (names_of_drafts drafts) (names_of_drafts (d ∷ drafts)) drafts (names_second d.names (names_of_drafts drafts)) (drafts_have drafts))

-- so do their sets
set_has : (names : Names) (s : Sweep) (drafts : List OpenDraft) → s.commits ≡ hash_set names.commits → s.contents ≡ hash_set names.contents → HasAllNames names drafts → HasAllNames (names_in s) drafts
set_has names s drafts commits contents has =
    all_names_on names (names_in s) drafts
    (record {
      commits = λ hash there. ap (λ (l : List Hash). is_among l hash) commits ∙ in_set names.commits hash ∙ there;
      contents = λ hash there. ap (λ (l : List Hash). is_among l hash) contents ∙ in_set names.contents hash ∙ there;
    })
    has

-- ---- what names keep

pub kept_is : (commits : Commits) (names : Names) (hash : Hash) → is_among (kept_by_names commits names) hash ≡ (list_any (λ c. is_among (visible commits c) hash) names.commits || is_among names.contents hash)
kept_is commits names hash =
    among_both (flat_map (visible commits) names.commits) names.contents hash
    ∙ ap (λ (b : Bool). b || is_among names.contents hash) (any_of_lists (visible commits) names.commits hash)

-- more names keep more
kept_more : (commits : Commits) (names others : Names) (hash : Hash) → HasNames names others → is_among (kept_by_names commits others) hash ≡ true → is_among (kept_by_names commits names) hash ≡ true
kept_more commits names others hash has there =
    kept_is commits names hash
    ∙ or_cases (list_any (λ c. is_among (visible commits c) hash) others.commits) (is_among others.contents hash) (sym (kept_is commits others hash) ∙ there)
    (λ shown. or_first _ _ (passes_more (λ c. is_among (visible commits c) hash) others.commits names.commits has.commits shown))
    (λ named. or_second _ _ (has.contents hash named))

-- whatever commits are added, names of known ones keep the same
kept_later : (older newer : Commits) (names : Names) → AreLinked newer → Adds older newer → list_all (linked.is_known older) names.commits ≡ true → kept_by_names newer names ≡ kept_by_names older names
kept_later older newer names are adds known =
    ap (λ (l : List Hash). l ++ names.contents)
    (same_lists (linked.is_known older) (visible newer) (visible older) names.commits (λ x k. ap (map (λ y. y.1.hash)) (entries_later older newer x are adds k)) known)

-- ---- contents that a sweep leaves

other_hash : (saved : List Hash) (x hash : Hash) → is_among saved hash ≡ true → is_among saved x ≡ false → same_hash x hash ≡ false
other_hash saved x hash there out = by (same_hash x hash) refl
  where
    by : (b : Bool) → same_hash x hash ≡ b → b ≡ false
    by true same = let it : is_among saved x ≡ is_among saved hash = ap (is_among saved) (same_is x hash same) in let no : false ≡ true = sym out ∙ it ∙ there in absurd cc
    by false other = refl

found_by : (b : Bool) (x : Hash × Content) (hash : Hash) (left present : List (Hash × Content)) → (b ≡ false → same_hash x.0 hash ≡ false) → find (λ y. same_hash y.0 hash) left ≡ find (λ y. same_hash y.0 hash) present
    → find (λ y. same_hash y.0 hash) (cond b (x ∷ left) left) ≡ find (λ y. same_hash y.0 hash) (x ∷ present)
found_by true x hash left present other e = rw e refl
found_by false x hash left present other e = rw (other refl) e

found_saved : (saved : List Hash) (present : List (Hash × Content)) (hash : Hash) → is_among saved hash ≡ true → find (λ y. same_hash y.0 hash) (filter (is_saved saved) present) ≡ find (λ y. same_hash y.0 hash) present
found_saved saved [] hash there = refl
found_saved saved (x ∷ present) hash there = found_by (is_among saved x.0) x hash (filter (is_saved saved) present) present (other_hash saved x.0 hash there) (found_saved saved present hash there)

saved_stays : (saved : List Hash) (present : List (Hash × Content)) (hash : Hash) → is_among saved hash ≡ true → content_at (kept_contents saved present) hash ≡ content_at present hash
unfolding kept_contents
saved_stays saved present hash there = ap (option_map (λ (y : Hash × Content). y.1)) (found_saved saved present hash there)

named_saved : (book : Book) (s : Sweep) (hash : Hash) → is_among (kept_by_names book.state.commits (names_in s)) hash ≡ true → is_among (saved_on book s) hash ≡ true
unfolding saved
named_saved book s hash there = there_second (live_since (since s.opened book.state (past_of sha256 book)) s.policy) (kept_by_names book.state.commits (names_in s)) hash there

-- ---- what a call spares of a draft's

abbrev Spares : State → State → OpenDraft → Type 0
Spares before after d = (hash : Hash) → is_among (kept_by_names before.commits d.names) hash ≡ true → has_content before hash ≡ true → has_content after hash ≡ true

abbrev pub AllSpared : State → State → List OpenDraft → Type 0
AllSpared before after [] = Unit {0}
AllSpared before after (d ∷ drafts) = Spares before after d × AllSpared before after drafts

-- contents were added
pub keeps_all : (before after : State) (drafts : List OpenDraft) → Keeps before after → AllSpared before after drafts
keeps_all before after [] keeps = tt
keeps_all before after (d ∷ drafts) keeps = (λ hash named there. keeps hash there, keeps_all before after drafts keeps)

-- or a sweep has their names
sweep_spares : (book : Book) (s : Sweep) (after : State) (drafts : List OpenDraft) → after.present ≡ kept_contents (saved_on book s) book.state.present → HasAllNames (names_in s) drafts → AllSpared book.state after drafts
sweep_spares book s after [] left has = tt
sweep_spares book s after (d ∷ drafts) left has = (one, sweep_spares book s after drafts left has.1)
  where
    one : Spares book.state after d
    one hash named there =
        ap (λ (l : List (Hash × Content)). is_some (content_at l hash)) left
        ∙ ap is_some (saved_stays (saved_on book s) book.state.present hash (named_saved book s hash (kept_more book.state.commits (names_in s) d.names hash has.0 named)))
        ∙ there

-- ---- one entry more

module _ (book : Book) (e : LogEntry) (after : State) (draft : ℕ) (ends : (course sha256 book.base book.log).state ≡ book.state) (next : after.place ≡ book.state.place + 1) (adds : Adds book.state.commits after.commits) (are : AreLinked after.commits) where
  abbrev longer : Book
  longer = record book { state = after; draft = draft; log = e ∷ book.log }

  states_more : (place : ℕ) → place ≤ book.state.place → states_since longer place ≡ after ∷ states_since book place
  states_more place low =
      let n : after.place - place ≡ suc (book.state.place - place) = omega (arith, next, low) in
      (λ i. after ∷ take (n i) (past_is book e after draft ends i))

  lasting_one : (d : OpenDraft) → AreKnown book.state d.names.commits → Spares book.state after d → IsLasting book d → IsLasting longer d
  lasting_one d known spares was =
      let low : d.opening.place ≤ book.state.place = was.opened in
      record {
        opened = omega (arith, low, next);
        stays = λ hash named had.
            let own : is_among (kept_by_names book.state.commits d.names) hash ≡ true = ap (λ (l : List Hash). is_among l hash) (sym (kept_later book.state.commits after.commits d.names are adds known)) ∙ named in
            or_cases (has_content after hash) (had_content (states_since book d.opening.place) hash) (ap (λ (l : List State). had_content l hash) (sym (states_more d.opening.place low)) ∙ had)
            (λ there. there)
            (λ before. spares hash own (was.stays hash own before));
      }

  lasting_on : (drafts : List OpenDraft) → AreNamed book.state drafts → AllSpared book.state after drafts → AreLasting book drafts → AreLasting longer drafts
  lasting_on [] named spared was = tt
  lasting_on (d ∷ drafts) named spared was = (lasting_one d named.0 spared.0 was.0, lasting_on drafts named.1 spared.1 was.1)

-- other parts of the book don't matter
lasting_same : (a : Book) (draft : ℕ) (drafts : List OpenDraft) → AreLasting a drafts → AreLasting (record a { draft = draft }) drafts
unfolding past_of
lasting_same a draft [] was = tt
lasting_same a draft (d ∷ drafts) was = (record { opened = was.0.opened; stays = was.0.stays }, lasting_same a draft drafts was.1)

lasting_as : (a b : Book) (drafts : List OpenDraft) → b.state ≡ a.state → b.log ≡ a.log → b.base ≡ a.base → AreLasting a drafts → AreLasting b drafts
lasting_as a b drafts state log base was =
    subst (λ (x : Book). AreLasting x drafts) (λ i. record { state = sym state i; draft = b.draft; log = sym log i; base = sym base i }) (lasting_same a b.draft drafts was)

module _ (caller number : ℕ) (book : Book) (o : Opened) (drafts : List OpenDraft) (sweep : Option OpenSweep) (sound : IsSound o book drafts) (named : AreNamed book.state drafts) (was : IsHolding book drafts sweep) where
  brought_by : (logged : List LogEntry) (after : State) (draft : ℕ) → Brings caller number book logged after → AllSpared book.state after drafts → AreLinked after.commits → AreLasting (record book { state = after; draft = draft; log = logged ++ book.log }) drafts
  brought_by [] after draft brings spared are = lasting_as book (record book { state = after; draft = draft }) drafts brings refl refl was.lasting
  brought_by (e ∷ []) after draft brings spared are =
      lasting_on book e after draft (ends_sound book o drafts sound)
      (sym (ap (λ (s : State). s.place) brings.leads) ∙ legal_place sha256 book e brings.legal.legal)
      (subst (IsLater book.state) brings.leads (replayed_later sha256 book e)).commits are drafts named spared was.lasting
  brought_by (e ∷ f ∷ more) after draft brings spared are = absurd brings

  called_so : (called : Called) (after : Book) → after ≡ record book { state = called.state; draft = called.draft; log = called.logged ++ book.log } → IsCallIn caller number book called → AllSpared book.state called.state drafts → AreLinked after.state.commits → AreLasting after drafts
  called_so called after left is spared are =
      subst (λ (b : Book). AreLasting b drafts) (sym left)
      (brought_by called.logged called.state called.draft is.brings spared (subst (λ (b : Book). AreLinked b.state.commits) left are))

  lasting_made : (after : Book) (called : Called) (made : Result Told Unmade) → IsCallIn caller number book called → AllSpared book.state called.state drafts → AreLinked after.state.commits → Runs called book after made → AreLasting after drafts
  lasting_made after called (Ok told) is spared are runs = called_so called after runs.book is spared are
  lasting_made after called (Err NotKept) is spared are runs = lasting_as book after drafts runs.state runs.log runs.base was.lasting
  lasting_made after called (Err (Failed failures.NoMemory)) is spared are runs = lasting_as book after drafts runs.state runs.log runs.base was.lasting
  lasting_made after called (Err (Failed (failures.Refused why))) is spared are runs = called_so called after runs.1.book is spared are

  -- after what a call made
  pub holding_made : (after : Book) (called : Called) (made : Result Told Unmade) → IsCallIn caller number book called → AllSpared book.state called.state drafts → AreLinked after.state.commits → Runs called book after made → IsHolding after drafts sweep
  holding_made after called made is spared are runs = record { lasting = lasting_made after called made is spared are runs; told = was.told }

-- ---- what a sweep brings

swept_spares : (caller : ℕ) (book : Book) (draft moment : ℕ) (s : Sweep) (drafts : List OpenDraft) (outcome : Outcome) → OkIs (λ x. x.0.present ≡ kept_contents (saved_on book s) book.state.present) outcome → HasAllNames (names_in s) drafts
    → AllSpared book.state (swept_by caller book.state draft moment s outcome).state drafts
swept_spares caller book draft moment s drafts (Err why) is has = keeps_all book.state book.state drafts (λ hash there. there)
swept_spares caller book draft moment s drafts (Ok (after, reply)) is has = sweep_spares book s after drafts is has

step_leaves : (book : Book) (s : Sweep) → OkIs (λ x. x.0.present ≡ kept_contents (saved_on book s) book.state.present) (step_sweep book.state (past_of sha256 book) s)
unfolding step_sweep
step_leaves book s = bind _ (needs_sweep_room book.state _) _ (λ u _. refl)

-- it spares what drafts name whose names it has
pub sweep_on_spares : (caller : ℕ) (book : Book) (moment : ℕ) (s : Sweep) (drafts : List OpenDraft) → HasAllNames (names_in s) drafts → AllSpared book.state (sweep_on caller book moment s).state drafts
unfolding sweep_call
sweep_on_spares caller book moment s drafts has = swept_spares caller book book.draft moment s drafts (step_sweep book.state (past_of sha256 book) s) (step_leaves book s) has

-- ---- drafts that are opened and closed

-- none is open
holding_none : (book : Book) (drafts : List OpenDraft) → drafts ≡ [] → IsHolding book drafts None
holding_none book drafts none = subst (λ (l : List OpenDraft). IsHolding book l None) (sym none) record { lasting = tt; told = tt }

-- as it is held
pub holding_over : (book : Book) (items : List code.OpenDraft) → items ≡ [] → IsHolding book (map draft_held items) None
holding_over book items none = holding_none book (map draft_held items) (ap (map draft_held) none)

-- as it was opened, all that was there is there
opened_now : (book : Book) (d : OpenDraft) → d.opening.place ≡ book.state.place → IsLasting book d
opened_now book d place =
    let none : book.state.place - d.opening.place ≡ 0 = omega (arith, place) in
    record {
      opened = omega (arith, place);
      stays = λ hash named had.
          or_cases (has_content book.state hash) (had_content (take (book.state.place - d.opening.place) (past_of sha256 book)) hash) had
          (λ there. there)
          (λ before. let no : had_content (take 0 (past_of sha256 book)) hash ≡ true = ap (λ (n : ℕ). had_content (take n (past_of sha256 book)) hash) (sym none) ∙ before in absurd cc);
    }

lasting_more : (book : Book) (drafts : List OpenDraft) (d : OpenDraft) → AreLasting book drafts → IsLasting book d → AreLasting book (drafts ++ d ∷ [])
lasting_more book [] d was is = (is, tt)
lasting_more book (x ∷ drafts) d was is = (was.0, lasting_more book drafts d was.1 is)

names_self : (names : Names) → HasNames names names
names_self names = record { commits = λ hash there. there; contents = λ hash there. there }

told_more : (names others : Names) (drafts : List OpenDraft) (d : OpenDraft) → HasAllNames names drafts → HasNames others d.names → HasAllNames (and_names names others) (drafts ++ d ∷ [])
told_more names others [] d has own = (names_on d.names others (and_names names others) own (names_second names others), tt)
told_more names others (x ∷ drafts) d has own = (names_on x.names names (and_names names others) has.0 (names_first names others), told_more names others drafts d has.1 own)

noted_by : (drafts : List OpenDraft) (d : OpenDraft) (sweep : Option OpenSweep) → IfSome sweep (λ o. HasAllNames o.names drafts) → IfSome (noting d.names sweep) (λ o. HasAllNames o.names (drafts ++ d ∷ []))
noted_by drafts d None told = tt
noted_by drafts d (Some o) told = told_more o.names d.names drafts d told (names_self d.names)

-- one draft more, of whose names the open sweep is told, and its number is taken
pub holding_held : (book after : Book) (drafts held : List OpenDraft) (d : OpenDraft) (sweep noted : Option OpenSweep) → IsHolding book drafts sweep → after.state ≡ book.state → after.log ≡ book.log → after.base ≡ book.base
    → held ≡ drafts ++ d ∷ [] → d.opening.place ≡ book.state.place → noted ≡ noting d.names sweep → IsHolding after held noted
holding_held book after drafts held d sweep noted was state log base is place notes =
    subst (λ (l : List OpenDraft). IsHolding after l noted) (sym is)
    (subst (IsHolding after (drafts ++ d ∷ [])) (sym notes) record {
      lasting = lasting_as book after (drafts ++ d ∷ []) state log base (lasting_more book drafts d was.lasting (opened_now book d place));
      told = noted_by drafts d sweep was.told;
    })

-- what the sweep was told, as it is held
pub noted_as : (after held : Option tickets.OpenSweep) (commits contents named_commits named_contents : List Hash) (names : Names) → option_map sweep_held after ≡ noting (record { commits = commits; contents = contents }) (option_map sweep_held held)
    → commits ≡ named_commits → contents ≡ named_contents → record { commits = named_commits; contents = named_contents } ≡ names → option_map sweep_held after ≡ noting names (option_map sweep_held held)
noted_as after held commits contents named_commits named_contents names notes a b is =
    notes ∙ (λ i. noting (record { commits = a i; contents = b i }) (option_map sweep_held held)) ∙ ap (λ (n : Names). noting n (option_map sweep_held held)) is

lasting_at : (test : Bool) (book : Book) (d : OpenDraft) (less : List OpenDraft) → IsLasting book d → AreLasting book less → AreLasting book (cond test less (d ∷ less))
lasting_at true book d less is are = are
lasting_at false book d less is are = (is, are)

lasting_without : (book : Book) (o : Opening) (drafts : List OpenDraft) → AreLasting book drafts → AreLasting book (without o drafts)
lasting_without book o [] are = tt
lasting_without book o (d ∷ drafts) are = lasting_at (nat_eq d.opening.caller o.caller && nat_eq d.opening.number o.number) book d (without o drafts) are.0 (lasting_without book o drafts are.1)

told_at : (test : Bool) (names : Names) (d : OpenDraft) (less : List OpenDraft) → HasNames names d.names → HasAllNames names less → HasAllNames names (cond test less (d ∷ less))
told_at true names d less is are = are
told_at false names d less is are = (is, are)

told_without : (names : Names) (o : Opening) (drafts : List OpenDraft) → HasAllNames names drafts → HasAllNames names (without o drafts)
told_without names o [] are = tt
told_without names o (d ∷ drafts) are = told_at (nat_eq d.opening.caller o.caller && nat_eq d.opening.number o.number) names d (without o drafts) are.0 (told_without names o drafts are.1)

swept_without : (o : Opening) (drafts : List OpenDraft) (sweep : Option OpenSweep) → IfSome sweep (λ s. HasAllNames s.names drafts) → IfSome sweep (λ s. HasAllNames s.names (without o drafts))
swept_without o drafts None told = tt
swept_without o drafts (Some s) told = told_without s.names o drafts told

-- one is closed
pub holding_closed : (book : Book) (drafts held : List OpenDraft) (o : Opening) (sweep : Option OpenSweep) → IsHolding book drafts sweep → held ≡ without o drafts → IsHolding book held sweep
holding_closed book drafts held o sweep was is =
    subst (λ (l : List OpenDraft). IsHolding book l sweep) (sym is) record { lasting = lasting_without book o drafts was.lasting; told = swept_without o drafts sweep was.told }

-- ---- sweeps that are opened and given roots

pub holding_begun : (book : Book) (drafts : List OpenDraft) (sweep : Option OpenSweep) (s : tickets.OpenSweep) → IsHolding book drafts sweep → s.commits.items ≡ (names_of_drafts drafts).commits → s.contents.items ≡ (names_of_drafts drafts).contents → IsHolding book drafts (Some (sweep_held s))
holding_begun book drafts sweep s was commits contents = record {
  lasting = was.lasting;
  told = subst (λ (n : Names). HasAllNames n drafts) (λ i. record { commits = sym commits i; contents = sym contents i }) (drafts_have drafts);
}

pub holding_given : (book : Book) (drafts : List OpenDraft) (a b : OpenSweep) → IsHolding book drafts (Some a) → b.names ≡ a.names → IsHolding book drafts (Some b)
holding_given book drafts a b was names = record { lasting = was.lasting; told = subst (λ (n : Names). HasAllNames n drafts) (sym names) was.told }

-- ---- as it is seen

pub holding_seen : {K : Type 0} (s x : Stored K) → s ≡ x → IsHolding s.book s.left_open.drafts s.left_open.sweep → IsHolding x.book x.left_open.drafts x.left_open.sweep
holding_seen {K} s x same is = subst (λ (z : Stored K). IsHolding z.book z.left_open.drafts z.left_open.sweep) same is

-- what was there since a draft that is open was opened is there
pub lasting_of : (book : Book) (d : OpenDraft) (drafts : List OpenDraft) → AreLasting book drafts → IsOpen d drafts → IsLasting book d
lasting_of book d [] are there = absurd there
lasting_of book d (x ∷ drafts) are there = ⊎_elim (λ (same : x ≡ d). subst (IsLasting book) same are.0) (λ (more : IsOpen d drafts). lasting_of book d drafts are.1 more) there

pub told_inside : {K : Type 0} (s x : Stored K) → s ≡ x → (w : Sweep) → HasAllNames (names_in w) x.left_open.drafts → HasAllNames (names_in w) s.left_open.drafts
told_inside {K} s x same w has = subst (λ (z : Stored K). HasAllNames (names_in w) z.left_open.drafts) (sym same) has

-- once the sweep is closed, it has the names of the drafts that are open
pub told_it : {K : Type 0} (s after : Stored K) (o : OpenSweep) (c : Closing) → s.left_open.sweep ≡ Some o → Closes s.left_open.sweep c → Drops s s.left_open.sweep after → IsHolding s.book s.left_open.drafts s.left_open.sweep
    → HasAllNames (names_in (sweep_in c)) after.left_open.drafts
told_it {K} s after o c is closes drops holding =
    let own : IsClosing o c = closes_it s.left_open.sweep o c is closes in
    let has : HasAllNames o.names s.left_open.drafts = (subst (λ (h : Option OpenSweep). IsHolding s.book s.left_open.drafts h) is holding).told in
    subst (λ (x : Stored K). HasAllNames (names_in (sweep_in c)) x.left_open.drafts) (sym (drops_it s after s.left_open.sweep o is drops))
    (set_has o.names (sweep_in c) s.left_open.drafts (ap (λ (w : Sweep). w.commits) own.sweep) (ap (λ (w : Sweep). w.contents) own.sweep) has)
