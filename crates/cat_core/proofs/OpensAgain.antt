-- What payloads that stand for a log are opened as: from their base a log may start, and the entries behind it lead on to a book.
use Rattle.std.proofs.Common.{◌≡◌, ℕ, Bool, true, if◌then◌else◌, List, [], ◌∷◌, ◌++◌, drop, length, take, Option, Some, None, Ok, Err, IfSome, refl, sym, ap, subst, ◌∙◌, ⊎_elim, arith}
use Rattle.std.proofs.lemmas.List.{length-take-le, take-append-drop}
use Rattle.sha2.specs.Sha256.{sha256}
use Rattle.cat_checks.specs.AlikeBooks.{AreBooksAlike, AreRead, AreSweptFrom, legal_leads}
use Rattle.cat_checks.specs.AlikeStates.{AreAlike, alike_by}
use Rattle.cat_checks.specs.Histories.{AreFrom, AreLegal, IsLegalFrom, begun, book_at, led_on}
use Rattle.cat_checks.specs.HistoryLaws.{books_end, legal_back}
use Rattle.cat_checks.specs.SinceLaws.{from_alike, legal_since}
use Rattle.cat_checks.specs.StartingLaws.{start_alike}
use Rattle.cat_checks.specs.Upheld.{Upholds}
use Rattle.cat_checks.specs.KeptMaps.{HaveMaps}
use Rattle.cat_frames.specs.declared.checkpoint.Checkpoint.{Checkpoint}
use Rattle.cat_frames.specs.Bases.{by_reading, checkpoint_of, draft_of, from_checkpoint, from_nothing, opened_by}
use Rattle.cat_frames.specs.Standing.{may_start}
use Rattle.cat_keeper.specs.Bases.{base_of, base_place, entries_of}
use Rattle.cat_model.specs.declared.log_entry.LogEntry.{LogEntry}
use Rattle.cat_model.specs.Book.{Book}
use Rattle.cat_model.specs.Past.{past_of}
use Rattle.cat_model.specs.State.{State}
use Rattle.cat_model.specs.Turns.{Opened}
use Rattle.cat_state.specs.Kept.{AreReadBack}
use Rattle.cat_tables.specs.Tables.{are_distinct}
use Rattle.cat_core.specs.Opening.{OpenThrough, Opens, led_base, led_by, led_from}
use Rattle.cat_core.specs.Records.{IsBaseAt, StandFlown, StandFor, StandThrough, state_at}
use Rattle.cat_core.specs.RecordLaws.{legal_front, starts_there}
use Rattle.cat_core.specs.Stored.{Stored, log_of}
use Rattle.cat_core.proofs.Reckoned.{counted_alike}
use Rattle.cat_core.proofs.Resumed.{resumed}
use Rattle.cat_core.proofs.StartKept.{log_start}

are_read : (entries : List LogEntry) → AreReadBack entries → AreRead sha256 entries
are_read [] read = tt
are_read (e ∷ entries) read = (read.0, are_read entries read.1)

module _ (o : Opened) (log : List LogEntry) (ps : List (List ℕ)) (legal : IsLegalFrom o log) (stand : StandFor o log ps)
    (comes : (from : Opened) → opened_by o.state.limits 0 0 (base_of ps) ≡ Some from → AreFrom from (drop stand.count log)) (since : AreSweptFrom (state_at o (take stand.count log)).place (drop stand.count log)) where
  abbrev front : List LogEntry
  front = take stand.count log

  abbrev behind : List LogEntry
  behind = drop stand.count log

  behind_legal : AreLegal sha256 (book_at o front) behind
  behind_legal = legal_back sha256 (begun o) front behind (subst (AreLegal sha256 (begun o)) (sym (take-append-drop stand.count log)) legal.legal)

  -- the book that the base starts, beside that at its place in the log
  begins : (from : Opened) → AreAlike (state_at o front) from.state → AreBooksAlike sha256 (book_at o front) (begun from)
  unfolding past_of
  begins from alike = record { state = alike; recent = tt; many = omega arith; drafts = λ draft none. refl; ends = books_end sha256 (begun o) front refl; other_ends = refl }

  leads : (from : Opened) → opened_by o.state.limits 0 0 (base_of ps) ≡ Some from → AreAlike (state_at o front) from.state → (book : Book) × (led_on from (entries_of ps) ≡ Ok book)
  leads from opened alike =
      let later : AreSweptFrom from.state.place behind = subst (λ (n : ℕ). AreSweptFrom n behind) (sym alike.same.place) since in
      let led = legal_leads sha256 from (book_at o front) (begun from) from.state.place behind (begins from alike) behind_legal (comes from opened) later (are_read behind stand.read) in
      (led.0, ap (led_on from) stand.entries ∙ led.1)

  by_base : (base : Option (List ℕ)) → base_of ps ≡ base → may_start sha256 (state_at o front) ≡ true → (book : Book) × (led_from o.state.limits ps base ≡ Ok book)
  by_base None is may =
      let based : IsBaseAt o front None = subst (IsBaseAt o front) is stand.base in
      let from : Opened = from_nothing o.state.limits 0 0 in
      let here : state_at o front ≡ (from_nothing o.state.limits o.payloads o.faults).state = ap (state_at o) based.0 ∙ ap (λ (x : Opened). x.state) based.1 in
      let once : are_distinct (state_at o front).present ≡ true = subst (λ (s : State). are_distinct s.present ≡ true) (sym here) refl in
      leads from (ap (opened_by o.state.limits 0 0) is) (alike_by (state_at o front) from.state (resumed o from front None o.state.limits 0 0 refl based refl).0 once)
  by_base (Some base) is may =
      let based : IsBaseAt o front (Some base) = subst (IsBaseAt o front) is stand.base in
      let c : Checkpoint = checkpoint_of (state_at o front) (draft_of o front) based.0 in
      let from : Opened = from_checkpoint o.state.limits 0 0 c in
      let reads : opened_by o.state.limits 0 0 (Some base) ≡ Some from = ap (by_reading o.state.limits 0 0) based.1.reads in
      let same = (resumed o from front (Some base) o.state.limits 0 0 refl based reads).0 in
      let starts : may_start sha256 from.state ≡ true = sym (start_alike sha256 (state_at o front) from.state same) ∙ may in
      let led = leads from (ap (opened_by o.state.limits 0 0) is ∙ reads) (alike_by (state_at o front) from.state same based.1.once) in (
        led.0,
        ap (led_base (base_place base) (entries_of ps)) reads ∙ ap (λ (t : Bool). if t then led_on from (entries_of ps) else Err from.state.place) starts ∙ led.1,
      )

  -- where a log may start from the state at the base's place, the payloads lead to a book
  pub opens_from : may_start sha256 (state_at o front) ≡ true → (book : Book) × (led_by o.state.limits ps ≡ Ok book)
  opens_from may = by_base (base_of ps) refl may

-- payloads that stand for a legal log are opened again, and lead to a book: where the entries behind the base may come after it, none of them is a sweep that was opened before it, and commits of the bytes that those before it made have the maps that these made
pub opens_again : (o : Opened) (log : List LogEntry) (ps : List (List ℕ)) → may_start sha256 o.state ≡ true → Upholds sha256 o.state → IsLegalFrom o log → (stand : StandFor o log ps)
    → ((from : Opened) → opened_by o.state.limits 0 0 (base_of ps) ≡ Some from → AreFrom from (drop stand.count log)) → AreSweptFrom (state_at o (take stand.count log)).place (drop stand.count log)
    → HaveMaps sha256 (begun o) (take stand.count log) → (book : Book) × (led_by o.state.limits ps ≡ Ok book)
opens_again o log ps may upheld legal stand comes since maps =
    opens_from o log ps legal stand comes since (log_start (begun o) (take stand.count log) (legal_front o log stand.count legal).legal upheld maps may)

-- ---- payloads without a new base

-- payloads whose base is that from which the log was opened are opened again, and lead to a book
pub opens_plain : (o : Opened) (log : List LogEntry) (ps : List (List ℕ)) → may_start sha256 o.state ≡ true → IsLegalFrom o log → StandFor o log ps → opened_by o.state.limits o.payloads o.faults (base_of ps) ≡ Some o
    → (book : Book) × (led_by o.state.limits ps ≡ Ok book)
opens_plain o log ps may legal stand opened =
    let n : ℕ = stand.count in
    let first : length (take stand.count log) ≡ 0 = starts_there o o.state.limits (take n log) (base_of ps) (legal_front o log n legal) stand.base opened in
    let start : stand.count ≡ 0 = omega (arith, first, length-take-le stand.count log stand.within) in
    let starts : may_start sha256 (state_at o (take n log)) ≡ true = subst (λ (m : ℕ). may_start sha256 (state_at o (take m log)) ≡ true) (sym start) may in
    let since : AreSweptFrom (state_at o (take n log)).place (drop n log) = subst (λ (m : ℕ). AreSweptFrom (state_at o (take m log)).place (drop m log)) (sym start) (legal_since sha256 (begun o) log legal.legal) in
    let from_here : AreFrom o (drop n log) = subst (λ (m : ℕ). AreFrom o (drop m log)) (sym start) legal.drafts in
    opens_from o log ps legal stand
    (λ from again. let same = counted_alike o from o.state.limits (base_of ps) opened again in from_alike o from (drop n log) same.0 same.1 from_here)
    since starts

-- ---- payloads that are told

-- payloads that stand for a legal log are opened again
pub opens_standing : (o : Opened) (log : List LogEntry) (ps : List (List ℕ)) → IsLegalFrom o log → StandFor o log ps → Opens o.state.limits ps
opens_standing o log ps legal stand = opens_from o log ps legal stand stand.comes stand.since stand.may

-- so are those that stood for it at each moment
pub opens_told : (o : Opened) (log : List LogEntry) (told : Option (List (List ℕ))) → IsLegalFrom o log → IfSome told (StandThrough o log) → IfSome told (OpenThrough o)
opens_told o log None legal through = tt
opens_told o log (Some ps) legal through = λ n many most. opens_standing o (take (through.reach n) log) (take n ps) (legal_front o log (through.reach n) legal) (through.each n many most)

-- and those with one that was in flight
opens_flown : (o : Opened) (log : List LogEntry) (p : List ℕ) (told : Option (List (List ℕ))) → IsLegalFrom o log → IfSome told (λ ps. StandFlown o log p (ps ++ p ∷ [])) → IfSome told (λ ps. Opens o.state.limits (ps ++ p ∷ []))
opens_flown o log p None legal stand = tt
opens_flown o log p (Some ps) legal stand = ⊎_elim (λ all. opens_standing o log (ps ++ p ∷ []) legal all) (λ more. opens_standing o (log ++ more.0 ∷ []) (ps ++ p ∷ []) more.2 more.3) stand

-- as they are seen
module _ {K : Type 0} (told : K → Option (List (List ℕ))) (s x : Stored K) (same : s ≡ x) (legal : IsLegalFrom s.opened (log_of s)) where
  pub again_seen : IfSome (told s.keeper) (StandThrough s.opened (log_of s)) → IfSome (told x.keeper) (OpenThrough x.opened)
  again_seen through = subst (λ (z : Stored K). IfSome (told z.keeper) (OpenThrough z.opened)) same (opens_told s.opened (log_of s) (told s.keeper) legal through)

  pub again_flown : (p : List ℕ) → IfSome (told x.keeper) (λ ps. StandFlown x.opened (log_of x) p (ps ++ p ∷ [])) → IfSome (told x.keeper) (λ ps. Opens x.opened.state.limits (ps ++ p ∷ []))
  again_flown p stand = opens_flown x.opened (log_of x) p (told x.keeper) (subst (λ (z : Stored K). IsLegalFrom z.opened (log_of z)) same legal) stand
