-- Which draft numbers may come behind the base of payloads: those of no draft, those above the last one, and those of drafts that are open.
use Rattle.std.proofs.Common.{◌≡◌, ◌≤◌, ◌<◌, ℕ, ◌+◌, ◌-◌, max, List, [], ◌∷◌, ◌++◌, drop, filter, length, map, reverse, take, Option, Some, Ok, Bool, true, false, cond, not, ◌&&◌, ◌||◌, nat_eq, nat_lt, inl, inr, ⊎_elim, refl, sym, ap, subst, ◌∙◌, arith}
use Rattle.std.specs.List.{list_any}
use Rattle.std.proofs.lemmas.Bool.Decides.{nat_tests}
use Rattle.std.proofs.lemmas.Grind.{reverse_onto}
use Rattle.std.proofs.lemmas.List.{length-drop, length-map, length-take-le, take-append-drop}
use Rattle.sha2.specs.Sha256.{sha256}
use Rattle.cat_codes.specs.Code.{whole}
use Rattle.cat_checks.specs.Histories.{IsLegalFrom, begun}
use Rattle.cat_checks.specs.HistoryLaws.{AreAtMost, above_comes, at_most_reverse, none_comes, place_is}
use Rattle.cat_checks.specs.Legal.{draft_is_above, draft_is_new, draft_may_come}
use Rattle.cat_frames.specs.declared.checkpoint.Checkpoint.{Checkpoint}
use Rattle.cat_frames.specs.Bases.{by_reading, checkpoint_of, draft_of, from_checkpoint, opened_by}
use Rattle.cat_frames.specs.Checkpoints.{checkpoint_code}
use Rattle.cat_keeper.specs.Bases.{base_of, base_with_entry, entries_of}
use Rattle.cat_model.specs.declared.log_entry.LogEntry.{LogEntry}
use Rattle.cat_model.specs.Book.{Book}
use Rattle.cat_model.specs.Drafts.{OpenDraft, Opening}
use Rattle.cat_model.specs.Resuming.{drafts_below, last_draft}
use Rattle.cat_model.specs.State.{State}
use Rattle.cat_model.specs.Turns.{Opened}
use Rattle.cat_state.specs.Kept.{spelling}
use Rattle.cat_tables.specs.ReferenceLaws.{split}
use Rattle.cat_core.specs.Drafts.{IsOpen, without}
use Rattle.cat_core.specs.RecordLaws.{legal_front}
use Rattle.cat_core.specs.Records.{AllFollow, MayFollow, StandFor, state_at}
use Rattle.cat_core.specs.Stored.{IsSound, IsWaiting}
use Rattle.cat_core.proofs.NumberSets.{in_set, is_in}
use Rattle.cat_core.proofs.Records.{entry_is_no_base}
use Rattle.cat_core.proofs.Resumed.{resumed}
use Rattle.cat_core.proofs.Waiting.{waits}

-- ---- of no draft, and above the last one

pub none_follows : (o : Opened) (base : Option (List ℕ)) → MayFollow o base 0
none_follows o base = λ from opened. none_comes from

last_low : (m n : ℕ) (log : List LogEntry) → AreAtMost m log → n ≤ m → last_draft n log ≤ m
last_low m n [] are low = low
last_low m n (e ∷ log) are low =
    let first : e.draft ≤ m = are.0 in
    let rest : last_draft n log ≤ m = last_low m n log are.1 low in
    omega (arith, first, rest)

at_most_front : (m : ℕ) (xs ys : List LogEntry) → AreAtMost m (xs ++ ys) → AreAtMost m xs
at_most_front m [] ys are = tt
at_most_front m (x ∷ xs) ys are = (are.0, at_most_front m xs ys are.1)

-- a number above the book's last one
pub next_follows : (o : Opened) (book : Book) (left_open : List OpenDraft) (ps : List (List ℕ)) (n : ℕ) → IsSound o book left_open → StandFor o (reverse book.log) ps → book.draft < n → MayFollow o (base_of ps) n
next_follows o book left_open ps n sound stand above = λ from opened.
    let front : List LogEntry = take stand.count (reverse book.log) in
    let behind : List LogEntry = drop stand.count (reverse book.log) in
    let draft : from.draft ≡ last_draft o.draft front = (resumed o from front (base_of ps) o.state.limits 0 0 refl stand.base opened).1 in
    let all : AreAtMost book.draft (front ++ behind) = subst (AreAtMost book.draft) (sym (take-append-drop stand.count (reverse book.log))) (at_most_reverse book.draft book.log sound.taken) in
    let low : last_draft o.draft front ≤ book.draft = last_low book.draft o.draft front (at_most_front book.draft front behind all) sound.above in
    above_comes from n (omega (arith, draft, low, above))

-- ---- drafts more and fewer

module _ (o : Opened) (base : Option (List ℕ)) where
  less_at : (b : Bool) (x : OpenDraft) (less : List OpenDraft) → MayFollow o base x.opening.number → AllFollow o base less → AllFollow o base (cond b less (x ∷ less))
  less_at true x less one all = all
  less_at false x less one all = (one, all)

  pub follow_less : (x : Opening) (drafts : List OpenDraft) → AllFollow o base drafts → AllFollow o base (without x drafts)
  follow_less x [] all = tt
  follow_less x (d ∷ drafts) all = less_at (nat_eq d.opening.caller x.caller && nat_eq d.opening.number x.number) d (without x drafts) all.0 (follow_less x drafts all.1)

  pub follow_more : (d : OpenDraft) (drafts : List OpenDraft) → MayFollow o base d.opening.number → AllFollow o base drafts → AllFollow o base (drafts ++ d ∷ [])
  follow_more d [] one all = (one, tt)
  follow_more d (x ∷ drafts) one all = (all.0, follow_more d drafts one all.1)

  pub follows_one : (d : OpenDraft) (drafts : List OpenDraft) → AllFollow o base drafts → IsOpen d drafts → MayFollow o base d.opening.number
  follows_one d [] all is = absurd is
  follows_one d (x ∷ drafts) all is = ⊎_elim (λ (same : x ≡ d). subst (λ (y : OpenDraft). MayFollow o base y.opening.number) same all.0) (λ (there : IsOpen d drafts). follows_one d drafts all.1 there) is

-- behind an entry more the base is the same
pub follow_entry : (o : Opened) (ps : List (List ℕ)) (e : LogEntry) (drafts : List OpenDraft) → AllFollow o (base_of ps) drafts → AllFollow o (base_of (ps ++ spelling e ∷ [])) drafts
follow_entry o ps e drafts all = subst (λ (b : Option (List ℕ)). AllFollow o b drafts) (sym (base_with_entry ps (spelling e) (entry_is_no_base e))) all

-- ---- a base more

or_second : (a b : Bool) → b ≡ true → (a || b) ≡ true
or_second true b is = refl
or_second false b is = is

-- no entry has the number
abbrev NoneHas : ℕ → List LogEntry → Type 0
NoneHas n [] = Unit {0}
NoneHas n (e ∷ log) = (nat_eq n e.draft ≡ false) × NoneHas n log

or_parts : (a b : Bool) → (a || b) ≡ false → (a ≡ false) × (b ≡ false)
or_parts true b e = absurd cc
or_parts false b e = (refl, e)

none_has : (n : ℕ) (log : List LogEntry) → list_any (λ entry. nat_eq n entry.draft) log ≡ false → NoneHas n log
none_has n [] none = tt
none_has n (e ∷ log) none = let both = or_parts (nat_eq n e.draft) (list_any (λ entry. nat_eq n entry.draft) log) none in (both.0, none_has n log both.1)

none_both : (n : ℕ) (xs ys : List LogEntry) → NoneHas n xs → NoneHas n ys → NoneHas n (xs ++ ys)
none_both n [] ys p q = q
none_both n (x ∷ xs) ys p q = (p.0, none_both n xs ys p.1 q)

none_reverse : (n : ℕ) (xs : List LogEntry) → NoneHas n xs → NoneHas n (reverse xs)
none_reverse n [] none = tt
none_reverse n (x ∷ xs) none = rw (reverse_onto xs x []) (none_both n (reverse xs) (x ∷ []) (none_reverse n xs none.1) (none.0, tt))

not_false : (b : Bool) → not b ≡ true → b ≡ false
not_false true e = absurd cc
not_false false e = refl

-- a number above one, which is new, is that of no entry
new_has : (n first : ℕ) (log : List LogEntry) → first < n → draft_is_new log n ≡ true → NoneHas n log
new_has n first log above new =
    let some : nat_eq n 0 ≡ false = grind (arith, nat_tests, above) in
    let absent : not (list_any (λ entry. nat_eq n entry.draft) log) ≡ true = rw some at new in
    none_has n log (not_false _ absent)

-- so it isn't the greatest one either
last_other : (n first : ℕ) (log : List LogEntry) → first < n → NoneHas n log → last_draft first log ≡ n → ⊥
last_other n first [] above none same = omega (arith, above, same)
last_other n first (e ∷ log) above none same =
    let rest : last_draft first log ≡ n → ⊥ = last_other n first log above none.1 in
    let other : nat_eq n e.draft ≡ false = none.0 in
    let most : max e.draft (last_draft first log) ≡ n = same in
    let apart : n ≡ e.draft → ⊥ = λ is. let yes : nat_eq n e.draft ≡ true = grind (arith, nat_tests, is) in absurd (let t : true ≡ false = sym yes ∙ other in cc) in
    rest (omega (arith, most, apart))

-- a number below the last one, of a draft that is open, is among those that are written
open_below : (last : ℕ) (d : OpenDraft) (drafts : List OpenDraft) → IsOpen d drafts → nat_lt d.opening.number last ≡ true → is_in (filter (λ n. nat_lt n last) (map (λ x. x.opening.number) drafts)) d.opening.number ≡ true
open_below last d [] is low = absurd is
open_below last d (x ∷ drafts) is low =
    ⊎_elim
    (λ (same : x ≡ d).
    let first : nat_lt x.opening.number last ≡ true = subst (λ (y : OpenDraft). nat_lt y.opening.number last ≡ true) (sym same) low in
    let one : nat_eq x.opening.number d.opening.number ≡ true = let number : x.opening.number ≡ d.opening.number = ap (λ (y : OpenDraft). y.opening.number) same in grind (arith, nat_tests, number) in
    rw (first, one) refl)
    (λ (there : IsOpen d drafts). later (nat_lt x.opening.number last) (open_below last d drafts there low))
    is
  where
    later : (t : Bool) → is_in (filter (λ n. nat_lt n last) (map (λ x. x.opening.number) drafts)) d.opening.number ≡ true
        → is_in (cond t (x.opening.number ∷ filter (λ n. nat_lt n last) (map (λ x. x.opening.number) drafts)) (filter (λ n. nat_lt n last) (map (λ x. x.opening.number) drafts))) d.opening.number ≡ true
    later true e = or_second (nat_eq x.opening.number d.opening.number) _ e
    later false e = e

eq_turned : (n x : ℕ) → nat_eq n x ≡ nat_eq x n
eq_turned n x =
    split (nat_eq n x)
    (λ yes. let other : nat_eq x n ≡ true = grind (arith, nat_tests, yes) in yes ∙ sym other)
    (λ no. let other : nat_eq x n ≡ false = grind (arith, nat_tests, no) in no ∙ sym other)

in_turned : (n : ℕ) (xs : List ℕ) → list_any (nat_eq n) xs ≡ is_in xs n
in_turned n [] = refl
in_turned n (x ∷ xs) = ap (λ (b : Bool). b || list_any (nat_eq n) xs) (eq_turned n x) ∙ ap (λ (b : Bool). nat_eq x n || b) (in_turned n xs)

module _ (o : Opened) (book : Book) (left_open : List OpenDraft) (sound : IsSound o book left_open) where
  abbrev last : ℕ
  last = draft_of o (reverse book.log)

  waits_one : (from : Opened) (d : OpenDraft) → from.draft ≡ last → from.drafts ≡ drafts_below last left_open → IsOpen d left_open → IsWaiting o.draft book.draft book.log d → draft_may_come from d.opening.number ≡ true
  waits_one from d draft drafts is waiting =
      let n : ℕ = d.opening.number in
      split (nat_lt n last)
      (λ low.
      let there : list_any (nat_eq n) from.drafts ≡ true = ap (list_any (nat_eq n)) drafts ∙ in_turned n (drafts_below last left_open) ∙ in_set (filter (λ m. nat_lt m last) (map (λ x. x.opening.number) left_open)) n ∙ open_below last d left_open is low in
      or_second (draft_is_above from.draft n) (list_any (nat_eq n) from.drafts) there)
      (λ high.
      let none : NoneHas n (reverse book.log) = none_reverse n book.log (new_has n o.draft book.log waiting.above waiting.new) in
      let other : last ≡ n → ⊥ = last_other n o.draft (reverse book.log) waiting.above none in
      let least : last ≤ n = grind (arith, nat_tests, high) in
      above_comes from n (omega (arith, draft, least, other)))

  all_by : (base : Option (List ℕ)) (drafts : List OpenDraft) → ((d : OpenDraft) → IsOpen d drafts → MayFollow o base d.opening.number) → AllFollow o base drafts
  all_by base [] each = tt
  all_by base (d ∷ drafts) each = (each d (inl refl), all_by base drafts (λ x is. each x (inr is)))

  -- behind a checkpoint of the book with the drafts that are open, each of them may come
  pub follow_base : (base : List ℕ) (state : State) → whole (checkpoint_code sha256) base ≡ Ok (checkpoint_of state last (drafts_below last left_open)) → AllFollow o (Some base) left_open
  follow_base base state reads =
      all_by (Some base) left_open (λ d is from opened.
      let c : Checkpoint = checkpoint_of state last (drafts_below last left_open) in
      let written : opened_by o.state.limits 0 0 (Some base) ≡ Some (from_checkpoint o.state.limits 0 0 c) = ap (by_reading o.state.limits 0 0) reads in
      let same : from_checkpoint o.state.limits 0 0 c ≡ from = let both : Some (from_checkpoint o.state.limits 0 0 c) ≡ Some from = sym written ∙ opened in cc in
      waits_one from d (sym (ap (λ (x : Opened). x.draft) same)) (sym (ap (λ (x : Opened). x.drafts) same)) is (waits o.draft book.draft book.log d left_open sound.waiting is))

-- ---- what stands behind a base

-- the base is of the keeper's place, where the log has come as far as the keeper
pub base_place_is : (o : Opened) (log : List LogEntry) (ps : List (List ℕ)) (stand : StandFor o log ps) (start kept : ℕ) → IsLegalFrom o log → length (entries_of ps) ≡ kept → start + kept ≡ (state_at o log).place → (state_at o (take stand.count log)).place ≡ start
base_place_is o log ps stand start kept legal number reaches =
    let front : List LogEntry = take stand.count log in
    let here : (state_at o front).place ≡ o.state.place + length front = place_is sha256 (begun o) front (legal_front o log stand.count legal).legal in
    let there : (state_at o log).place ≡ o.state.place + length log = place_is sha256 (begun o) log legal.legal in
    let long : length front ≡ stand.count = length-take-le stand.count log stand.within in
    let rest : length (entries_of ps) ≡ length log - stand.count = ap length stand.entries ∙ length-map (drop stand.count log) spelling ∙ length-drop stand.count log in
    let within : stand.count ≤ length log = stand.within in
    omega (arith, here, there, long, rest, within, number, reaches)
