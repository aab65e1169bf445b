-- A journal to which no base and no entry was added has the payloads that it had; and how many bases there are more.
use Rattle.std.proofs.Common.{◌≡◌, ℕ, ◌+◌, ◌-◌, List, [], ◌∷◌, ◌++◌, drop, length, Option, Some, None, Ok, IfSome, refl, sym, ap, subst, ◌∙◌, arith, length-append}
use Rattle.std.proofs.lemmas.List.{append-nil, length-drop, length-map}
use Rattle.cat_io.specs.Crashes.{Told, none_is_not_some}
use Rattle.cat_core.specs.Records.{StandFor}
use Rattle.cat_journal.specs.Frames.{recovered}
use Rattle.cat_keeper.specs.Bases.{base_count, bases_in, count_on, entries_of, entries_with_entries}
use Rattle.cat_keeper.specs.Watching.{GoOn}
use Rattle.cat_model.specs.declared.log_entry.LogEntry.{LogEntry}
use Rattle.cat_model.specs.Turns.{Opened}
use Rattle.cat_state.specs.Kept.{spelling, spellings}
use Rattle.cat_cli.specs.Surviving.{IsBegun, bases_between}
use Rattle.cat_cli.proofs.Surviving.{payloads_are}

none_left : (ps : List (List ℕ)) → length ps ≡ 0 → ps ≡ []
none_left [] none = refl
none_left (p ∷ ps) none = absurd (omega (arith, none))

some_count : (a b : ℕ) → ◌≡◌ {A = Option ℕ} (Some a) (Some b) → a ≡ b
some_count a b e = cc

-- payloads that go on from those that stood for a log to its end, have as many bases and stand for the log are no more
none_more : (o : Opened) (log : List LogEntry) (had more : List (List ℕ)) → entries_of had ≡ spellings log → base_count (had ++ more) ≡ base_count had → StandFor o log (had ++ more) → more ≡ []
none_more o log had more spelled count stand =
    let none : base_count more ≡ 0 = omega (arith, count, count_on had more) in
    let entries : entries_of had ++ more ≡ spellings (drop stand.count log) = sym (entries_with_entries had more none) ∙ stand.entries in
    let all : length (entries_of had) ≡ length log = ap length spelled ∙ length-map log spelling in
    let behind : length (entries_of had ++ more) ≡ length (drop stand.count log) = ap length entries ∙ length-map (drop stand.count log) spelling in
    none_left more (omega (arith, all, behind, length-append (entries_of had) more, length-drop stand.count log))

-- what is watched began with the journal's payloads
pub had_are : (since : ℕ) (had : List (List ℕ)) (early : List ℕ → Type 0) (journal : Option (List ℕ)) (moment : ℕ) (before : List ℕ → Type 0) (ps : List (List ℕ)) → IsBegun since had early journal moment before → IfSome journal (λ bytes. recovered bytes ≡ Ok ps) → IfSome journal (λ bytes. had ≡ ps)
had_are since had early None moment before ps begins recovers = tt
had_are since had early (Some bytes) moment before ps begins recovers = begins.had_is ∙ payloads_are bytes ps recovers

pub unbased : (journal : Option (List ℕ)) (before now : Option (List (List ℕ))) (had ps qs : List (List ℕ)) (o : Opened) (log : List LogEntry) → Told journal before (λ bytes l. l ≡ ps) → IfSome journal (λ bytes. had ≡ ps) → entries_of ps ≡ spellings log
    → bases_in now ≡ bases_in before → now ≡ Some qs → GoOn had qs → StandFor o log qs → qs ≡ ps
unbased None None now had ps qs o log are same spelled bases is on stand = absurd (none_is_not_some (sym bases ∙ ap bases_in is))
unbased None (Some l) now had ps qs o log are same spelled bases is on stand = absurd are
unbased (Some bytes) None now had ps qs o log are same spelled bases is on stand = absurd are
unbased (Some bytes) (Some l) now had ps qs o log are same spelled bases is on stand =
    let count : base_count qs ≡ base_count ps = some_count (base_count qs) (base_count l) (sym (ap bases_in is) ∙ bases) ∙ ap base_count are in
    let begins : qs ≡ ps ++ on.0 = on.1 ∙ ap (λ (x : List (List ℕ)). x ++ on.0) same in
    let none : on.0 ≡ [] = none_more o log ps on.0 spelled (ap base_count (sym begins) ∙ count) (subst (StandFor o log) begins stand) in
    begins ∙ ap (λ (x : List (List ℕ)). ps ++ x) none ∙ append-nil ps

-- ---- how many bases there are more

-- none was made
pub counts_none : (journal : Option (List ℕ)) (before now : Option (List (List ℕ))) (ps : List (List ℕ)) → Told journal before (λ bytes l. l ≡ ps) → bases_in now ≡ bases_in before
    → IfSome journal (λ bytes. (l : List (List ℕ)) → now ≡ Some l → GoOn ps l → base_count l ≡ base_count ps + 0)
counts_none None before now ps are same = tt
counts_none (Some bytes) None now ps are same = absurd are
counts_none (Some bytes) (Some m) now ps are same = λ l is on.
    let count : base_count l ≡ base_count m = some_count (base_count l) (base_count m) (sym (ap bases_in is) ∙ same) in
    let was : base_count m ≡ base_count ps = ap base_count are in
    omega (arith, count, was)

-- how many there were
pub told_bases : (journal : Option (List ℕ)) (before : Option (List (List ℕ))) (ps : List (List ℕ)) (a : Option ℕ) → Told journal before (λ bytes l. l ≡ ps) → a ≡ bases_in before → IfSome journal (λ bytes. a ≡ Some (base_count ps))
told_bases None before ps a are first = tt
told_bases (Some bytes) None ps a are first = absurd are
told_bases (Some bytes) (Some m) ps a are first = first ∙ ap (λ (l : List (List ℕ)). Some (base_count l)) are

-- as many as the marks tell
pub counts_between : (journal : Option (List ℕ)) (before now : Option (List (List ℕ))) (ps : List (List ℕ)) (a b : Option ℕ) → Told journal before (λ bytes l. l ≡ ps) → a ≡ bases_in before → b ≡ bases_in now
    → IfSome journal (λ bytes. (l : List (List ℕ)) → now ≡ Some l → GoOn ps l → base_count l ≡ base_count ps + bases_between a b)
counts_between None before now ps a b are first last = tt
counts_between (Some bytes) None now ps a b are first last = absurd are
counts_between (Some bytes) (Some m) now ps a b are first last = λ l is on.
    let between : bases_between a b ≡ base_count l - base_count m = (λ i. bases_between (first i) ((last ∙ ap bases_in is) i)) in
    let was : base_count m ≡ base_count ps = ap base_count are in
    let more : base_count l ≡ base_count ps + base_count on.0 = ap base_count on.1 ∙ count_on ps on.0 in
    omega (arith, between, was, more)
