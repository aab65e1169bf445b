-- From what is watched of a keeper to what a crash leaves of the journal of a run.
use Rattle.std.proofs.Common.{◌≡◌, ◌⊎◌, ℕ, suc, ◌+◌, ◌-◌, ◌≤◌, ◌<◌, Bool, true, false, List, [], ◌∷◌, ◌++◌, drop, length, take, nat_le, Option, Some, None, Result, Ok, Err, refl, sym, ◌∙◌, ap, subst, inl, inr, ⊎_elim, le_refl, arith, length-append}
use Rattle.std.specs.Prelude.{IfSome, ⊤, option_map}
use Rattle.std.proofs.Math.Seq.{take-length}
use Rattle.std.proofs.lemmas.Bool.Decides.{nat_tests}
use Rattle.std.proofs.lemmas.List.{append-nil, length-drop, length-map, length-take-le, take-append-drop, take-append-le, take_all, take_at}
use Rattle.cat_checks.specs.Histories.{IsLegalFrom}
use Rattle.cat_core.specs.RecordLaws.{goes_plain, legal_front, stands_now}
use Rattle.cat_core.specs.Opening.{OpenThrough, Opens}
use Rattle.cat_core.specs.Records.{StandFor, StandThrough}
use Rattle.cat_io.specs.Crashes.{Only, Told}
use Rattle.cat_journal.specs.declared.fault.OpenFault.{OpenFault}
use Rattle.cat_journal.specs.Frames.{payloads, payloads_in, recovered}
use Rattle.cat_journal.specs.Held.{outcome, outcome_of}
use Rattle.cat_journal.specs.Reading.{OpensOnly}
use Rattle.cat_frames.specs.Bases.{opened_by}
use Rattle.cat_keeper.specs.Bases.{base_count, base_of, count_on, entries_of}
use Rattle.cat_keeper.specs.Keeping.{WithOrWithout}
use Rattle.cat_keeper.specs.Watching.{GoOn, IsFrontOf, IsWatchedSo, with_flying}
use Rattle.cat_model.specs.declared.limits.Limits.{Limits}
use Rattle.cat_model.specs.declared.log_entry.LogEntry.{LogEntry}
use Rattle.cat_model.specs.Limits.{program_limits}
use Rattle.cat_model.specs.Mark.{FailedAppend}
use Rattle.cat_model.specs.Turns.{Opened}
use Rattle.cat_state.specs.Kept.{spelling, spellings}
use Rattle.cat_cli.specs.Surviving.{AreAll, AreOnTheWay, EndsSo, FlownOpen, Images, IsBegun, IsEarlier, IsOnTheWay, LeavesLog, Spared, Survives, images_of}

take_past : {A : Type 0} (xs ys : List A) (m : ℕ) → take (length xs + m) (xs ++ ys) ≡ xs ++ take m ys
take_past {A} [] ys m = let n : length {A = A} [] + m ≡ m = omega arith in ap (λ (k : ℕ). take k ys) n
take_past (x ∷ xs) ys m =
    let n : length (x ∷ xs) + m ≡ suc (length xs + m) = omega arith in
    ap (λ (k : ℕ). take k (x ∷ (xs ++ ys))) n ∙ ap (λ l. x ∷ l) (take_past xs ys m)

pub payloads_are : (bytes : List ℕ) (ps : List (List ℕ)) → recovered bytes ≡ Ok ps → payloads bytes ≡ ps
payloads_are bytes ps is = ap payloads_in is

-- ---- fronts of payloads that stand for a log

module _ (had : List (List ℕ)) (o : Opened) (limits : Limits) (log added : List LogEntry) (payloads : List (List ℕ)) (on : GoOn had payloads) (through : StandThrough o (log ++ added) payloads) (again : OpenThrough o payloads) (legal : IsLegalFrom o (log ++ added)) (total : o.payloads ≡ length had) (entries : entries_of had ≡ spellings log)
    (opened : opened_by limits o.payloads o.faults (base_of had) ≡ Some o) (bases : ℕ) (counted : base_count payloads ≡ base_count had + bases) where
  least : length had ≤ length payloads
  least = omega (arith, ap length on.1, length-append had on.0)

  -- so many that were there, and what is there of the others
  front_is : (n : ℕ) → length had ≤ n → take n payloads ≡ had ++ take (n - length had) on.0
  front_is n many =
      let m : length had + (n - length had) ≡ n = omega (arith, many) in
      ap (take n) on.1 ∙ ap (λ (k : ℕ). take k (had ++ on.0)) (sym m) ∙ take_past had on.0 (n - length had)

  -- those that were there stand for all of the log that was
  reaches : length log ≤ through.reach (length had)
  reaches =
      let k = through.reach (length had) in
      let is : StandFor o (take k (log ++ added)) (take (length had) payloads) = through.each (length had) (omega (arith, total)) least in
      let first : take (length had) payloads ≡ had = ap (take (length had)) on.1 ∙ take_at had on.0 (length had) refl in
      let rest : List LogEntry = drop is.count (take k (log ++ added)) in
      let same : spellings rest ≡ spellings log = sym is.entries ∙ ap entries_of first ∙ entries in
      let long : length rest ≡ length log = sym (length-map rest spelling) ∙ ap length same ∙ length-map log spelling in
      omega (arith, long, length-drop is.count (take k (log ++ added)), length-take-le k (log ++ added) (through.within (length had)))

  -- where none of a front of the others is a base, they are a front of what was added
  plain_front : (n m : ℕ) → length had ≤ n → StandFor o (log ++ take m added) (take n payloads) → base_count (take n payloads) ≡ base_count had → take n payloads ≡ had ++ spellings (take m added)
  plain_front n m many stand same =
      let rest : List (List ℕ) = take (n - length had) on.0 in
      let front : take n payloads ≡ had ++ rest = front_is n many in
      let none : base_count rest ≡ 0 = omega (arith, same, ap base_count front, count_on had rest) in
      let there : IsLegalFrom o (log ++ take m added) = subst (IsLegalFrom o) (take_past log added m) (legal_front o (log ++ added) (length log + m) legal) in
      front ∙ ap (λ (l : List (List ℕ)). had ++ l) (goes_plain o limits log (take m added) had rest there opened entries none (subst (StandFor o (log ++ take m added)) front stand))

  -- a front has no more bases
  no_more_bases : (n : ℕ) → base_count (take n payloads) ≤ base_count had + bases
  no_more_bases n = omega (arith, counted, ap base_count (take-append-drop n payloads), count_on (take n payloads) (drop n payloads))

  -- all of them
  pub all_there : (flying : Option (List ℕ)) → AreAll (record { had = had; opened = o; begun = log; added = added; bases = bases; flying = flying }) payloads
  all_there flying = record {
    goes_on = on;
    stand = stands_now o (log ++ added) payloads through;
    count = counted;
    plain = λ none.
        let no_base : base_count on.0 ≡ 0 = omega (arith, none, counted, ap base_count on.1, count_on had on.0) in
        on.1 ∙ ap (λ (l : List (List ℕ)). had ++ l) (goes_plain o limits log added had on.0 legal opened entries no_base (subst (StandFor o (log ++ added)) on.1 (stands_now o (log ++ added) payloads through)));
  }

  -- a front that has those stands for all that was there, and a front of what was added
  pub stands_on : (flying : Option (List ℕ)) (n : ℕ) → length had ≤ n → n ≤ length payloads → AreOnTheWay (record { had = had; opened = o; begun = log; added = added; bases = bases; flying = flying }) (take n payloads)
  stands_on flying n many most =
      let k = through.reach n in
      let m = k - length log in
      let there : length log ≤ k = omega (arith, reaches, through.rises (length had) n many) in
      let parts : length log + m ≡ k = omega (arith, there) in
      let within : k ≤ length (log ++ added) = through.within n in
      let stand : StandFor o (log ++ take m added) (take n payloads) =
      subst (λ (l : List LogEntry). StandFor o l (take n payloads)) (ap (λ (j : ℕ). take j (log ++ added)) (sym parts) ∙ take_past log added m)
      (through.each n (omega (arith, total, many)) most) in
      record {
        goes_on = (take (n - length had) on.0, front_is n many);
        count = m;
        within = omega (arith, within, length-append log added, parts);
        stand = stand;
        opens = again n (omega (arith, total, many)) most;
        few = no_more_bases n;
        plain = plain_front n m many stand;
      }

  -- so does what a crash leaves
  pub on_the_way : (flying : Option (List ℕ)) (c : List ℕ) → IfSome flying (λ p. FlownOpen o (log ++ added) p (payloads ++ p ∷ [])) → IsFrontOf (length had) (with_flying payloads flying) (outcome c) → IsOnTheWay (record { had = had; opened = o; begun = log; added = added; bases = bases; flying = flying }) c
  on_the_way None c flown front = (take front.0 payloads, front.3, inl (stands_on None front.0 front.1 front.2))
  on_the_way (Some p) c flown front = by (nat_le front.0 (length payloads)) refl
    where
      long : length (payloads ++ p ∷ []) ≡ length payloads + 1
      long = length-append payloads (p ∷ [])

      by : (t : Bool) → nat_le front.0 (length payloads) ≡ t → IsOnTheWay (record { had = had; opened = o; begun = log; added = added; bases = bases; flying = Some p }) c
      by true is =
          let le : front.0 ≤ length payloads = grind (arith, nat_tests, is) in
          (take front.0 payloads, front.3 ∙ ap (λ (l : List (List ℕ)). Some l) (take-append-le front.0 payloads (p ∷ []) le), inl (stands_on (Some p) front.0 front.1 le))
      by false is =
          let lt : length payloads < front.0 = grind (arith, nat_tests, is) in
          (payloads ++ p ∷ [], front.3 ∙ ap (λ (l : List (List ℕ)). Some l) (take_all front.0 (payloads ++ p ∷ []) (omega (arith, lt, long))), inr (payloads, refl, all_there (Some p), flown))

pub both_of : {A : Type 0} (P Q : A → Type 0) (x : Option A) → IfSome x P → IfSome x Q → IfSome x (λ a. P a × Q a)
both_of P Q None p q = tt
both_of P Q (Some a) p q = (p, q)

-- what is in flight, by what the mark tells of it
pub flown_by : (in_flight : Option (List ℕ)) (fault : Option FailedAppend) (P : List ℕ → Type 0) → in_flight ≡ option_map (λ (x : FailedAppend). x.payload) fault → ((x : FailedAppend) → fault ≡ Some x → P x.payload) → IfSome in_flight P
flown_by in_flight None P is flown = subst (λ (t : Option (List ℕ)). IfSome t P) (sym is) tt
flown_by in_flight (Some x) P is flown = subst (λ (t : Option (List ℕ)). IfSome t P) (sym is) (flown x refl)

-- ---- a disk whose journal is opened

-- what is watched begins there
pub begun : (since : ℕ) (had : List (List ℕ)) (early : List ℕ → Type 0) (told : Option (List ℕ)) (ps : Option (List (List ℕ))) {D : Type 0} (may_leave : D → List ℕ → Type 0) (moment : D → ℕ) (left_since : D → ℕ → List ℕ → Type 0) (disk opened : D) (flying : Option (List ℕ))
    → IsBegun since had early told (moment disk) (may_leave disk) → Told told ps (λ bytes l. recovered bytes ≡ Ok l)
    → IfSome told (OpensOnly may_leave moment left_since disk opened)
    → IfSome ps (IsWatchedSo outcome since had early flying (moment opened) (left_since opened))
begun since had early None None may_leave moment left_since disk opened flying begins recovers run = tt
begun since had early None (Some l) may_leave moment left_since disk opened flying begins recovers run = absurd recovers
begun since had early (Some bytes) None may_leave moment left_since disk opened flying begins recovers run = absurd recovers
begun since had early (Some bytes) (Some l) may_leave moment left_since disk opened flying begins recovers run = record {
  later = omega (arith, begins.since_is, run.later);
  goes_on = ([], sym (begins.had_is ∙ payloads_are bytes l recovers) ∙ sym (append-nil had));
  each = λ c left. inl (begins.early_from c (earlier c (run.each c (subst (λ (t : ℕ). left_since opened t c) begins.since_is left))));
}
  where
    earlier : (c : List ℕ) → (may_leave disk c ⊎ ((bytes ≡ []) × (length c ≤ 17))) → IsEarlier (may_leave disk) (Some bytes) c
    earlier c e = ⊎_elim (λ was. inl was) (λ few. inr (ap (λ (b : List ℕ). Some b) few.0, few.1)) e

-- ---- a session on it

module _ (since : ℕ) (had : List (List ℕ)) (early : List ℕ → Type 0) (moment : ℕ) (before after : List ℕ → Type 0) (left_since : ℕ → List ℕ → Type 0) (o : Opened) (log added whole : List LogEntry) (kept : Option (List (List ℕ))) (flying : Option (List ℕ)) (bases : ℕ) (all : whole ≡ log ++ added) where
  -- as many bases more as were made, by what the keeper has
  abbrev pub CountsSo : Option (List ℕ) → List (List ℕ) → Type 0
  CountsSo journal ps = IfSome journal (λ bytes. (l : List (List ℕ)) → kept ≡ Some l → GoOn ps l → base_count l ≡ base_count ps + bases)

  -- what was opened, by the payloads that the journal had
  record IsFrom (journal : Option (List ℕ)) (ps : List (List ℕ)) : Type 0 where
    total : IfSome journal (λ bytes. o.payloads ≡ length ps)
    entries : entries_of ps ≡ spellings log
    opened : opened_by program_limits o.payloads o.faults (base_of ps) ≡ Some o
    counts : CountsSo journal ps

  -- at the end
  ends_so : (journal : Option (List ℕ)) (images : Images) (ps : List (List ℕ)) (now : List ℕ) → ((c : List ℕ) → images.after c → after c) → IfSome journal (λ bytes. had ≡ ps) → IsFrom journal ps → LeavesLog since had early after left_since o whole kept flying now
      → EndsSo journal images (record { had = ps; opened = o; begun = log; added = added; bases = bases; flying = flying }) now
  ends_so journal images ps now are same from leaves = record {
    payloads = leaves.payloads;
    are = record {
      stand = subst (λ (l : List LogEntry). StandFor o l leaves.payloads) all (stands_now o whole leaves.payloads leaves.stand);
      opens = subst (Opens o.state.limits) (take-length leaves.payloads) (leaves.opens (length leaves.payloads) leaves.stand.many (le_refl (length leaves.payloads)));
      all = by journal same from.total from.counts;
    };
    flown = subst (λ (l : List LogEntry). IfSome flying (λ p. FlownOpen o l p (leaves.payloads ++ p ∷ []))) all leaves.flown;
    holds = leaves.holds;
    ends = λ c there. leaves.last c (are c there);
  }
    where
      by : (j : Option (List ℕ)) → IfSome j (λ bytes. had ≡ ps) → IfSome j (λ bytes. o.payloads ≡ length ps) → CountsSo j ps → IfSome j (λ bytes. AreAll (record { had = ps; opened = o; begun = log; added = added; bases = bases; flying = flying }) leaves.payloads)
      by None same total counts = tt
      by (Some bytes) same total counts =
          let on : GoOn ps leaves.payloads = subst (λ (l : List (List ℕ)). GoOn l leaves.payloads) same leaves.goes_on in
          all_there ps o program_limits log added leaves.payloads on (subst (λ (l : List LogEntry). StandThrough o l leaves.payloads) all leaves.stand) leaves.opens (subst (IsLegalFrom o) all leaves.legal) total from.entries from.opened bases (counts leaves.payloads leaves.are on) flying

  pub survives : (journal left : Option (List ℕ)) (ps : List (List ℕ)) → IsBegun since had early journal moment before → IfSome journal (λ bytes. recovered bytes ≡ Ok ps) → IfSome journal (λ bytes. o.payloads ≡ length ps) → entries_of ps ≡ spellings log → opened_by program_limits o.payloads o.faults (base_of ps) ≡ Some o → CountsSo journal ps
      → IfSome left (LeavesLog since had early after left_since o whole kept flying)
      → Survives journal left (record { before = before; after = after; since = left_since moment }) (record { had = ps; opened = o; begun = log; added = added; bases = bases; flying = flying })
  survives journal None ps begins recovers total entries opened counts leaves = record { at_the_end = tt; at_any_moment = none journal }
    where
      none : (j : Option (List ℕ)) → IfSome j (λ bytes. ⊤)
      none None = tt
      none (Some bytes) = tt
  survives None (Some now) ps begins recovers total entries opened counts leaves = record {
    at_the_end = ends_so None (record { before = before; after = after; since = left_since moment }) ps now (λ c there. there) tt (record { total = total; entries = entries; opened = opened; counts = counts }) leaves;
    at_any_moment = tt;
  }
  survives (Some bytes) (Some now) ps begins recovers total entries opened counts leaves =
      let same : had ≡ ps = begins.had_is ∙ payloads_are bytes ps recovers in
      let on : GoOn ps leaves.payloads = subst (λ (l : List (List ℕ)). GoOn l leaves.payloads) same leaves.goes_on in
      record {
        at_the_end = ends_so (Some bytes) (record { before = before; after = after; since = left_since moment }) ps now (λ c there. there) same (record { total = total; entries = entries; opened = opened; counts = counts }) leaves;
        at_any_moment = λ c there. ⊎_elim
            (λ was. inl (begins.early_to c was))
            (λ front. inr (on_the_way ps o program_limits log added leaves.payloads on (subst (λ (l : List LogEntry). StandThrough o l leaves.payloads) all leaves.stand) leaves.opens (subst (IsLegalFrom o) all leaves.legal) total entries opened bases (counts leaves.payloads leaves.are on) flying c
            (subst (λ (l : List LogEntry). IfSome flying (λ p. FlownOpen o l p (leaves.payloads ++ p ∷ []))) all leaves.flown)
            (subst (λ (l : List (List ℕ)). IsFrontOf (length l) (with_flying leaves.payloads flying) (outcome c)) same front)))
            (leaves.each c (subst (λ (t : ℕ). left_since t c) (sym begins.since_is) there));
      }

-- ---- where the keeper is let go

outcome_ok : (r : Result (List (List ℕ)) OpenFault) (ps : List (List ℕ)) → outcome_of r ≡ Some ps → r ≡ Ok ps
outcome_ok (Ok l) ps e = ap (λ (x : List (List ℕ)). Ok x) (same l ps e)
  where
    same : (l ps : List (List ℕ)) → ◌≡◌ {A = Option (List (List ℕ))} (Some l) (Some ps) → l ≡ ps
    same l ps e = cc
outcome_ok (Err f) ps e = cc

module _ (since : ℕ) (had : List (List ℕ)) (early may_leave : List ℕ → Type 0) (left_since : ℕ → List ℕ → Type 0) (o : Opened) (log : List LogEntry) (moment : ℕ) where
  at_rest : (ps : Option (List (List ℕ))) (told : Option (List ℕ)) → IsLegalFrom o log → IfSome told (λ bytes. 16 < length bytes) → IfSome ps (StandThrough o log) → IfSome ps (OpenThrough o) → Told ps told (λ l bytes. recovered bytes ≡ Ok l) → Only told may_leave
      → IfSome ps (IsWatchedSo outcome since had early None moment left_since) → IfSome told (LeavesLog since had early may_leave left_since o log ps None)
  at_rest ps None legal headed stands again t only w = tt
  at_rest None (Some bytes) legal headed stands again t only w = absurd t
  at_rest (Some l) (Some bytes) legal headed stands again t only w = record { payloads = l; are = refl; goes_on = w.goes_on; stand = stands; opens = again; legal = legal; flown = tt; holds = (t, headed); last = only; each = w.each }

  torn : (ps : Option (List (List ℕ))) (told : Option (List ℕ)) (p : List ℕ) → IsLegalFrom o log → IfSome told (λ bytes. 16 < length bytes) → IfSome ps (StandThrough o log) → IfSome ps (OpenThrough o) → IfSome ps (λ l. FlownOpen o log p (l ++ p ∷ [])) → Told ps told (λ l bytes. WithOrWithout l p (outcome bytes))
      → IfSome ps (λ l. (c : List ℕ) → may_leave c → WithOrWithout l p (outcome c))
      → IfSome ps (IsWatchedSo outcome since had early (Some p) moment left_since) → IfSome told (LeavesLog since had early may_leave left_since o log ps (Some p))
  torn ps None p legal headed are again flown t each w = tt
  torn None (Some bytes) p legal headed are again flown t each w = absurd t
  torn (Some l) (Some bytes) p legal headed are again flown t each w = record {
    payloads = l;
    are = refl;
    goes_on = w.goes_on;
    stand = are;
    opens = again;
    legal = legal;
    flown = flown;
    holds = ⊎_elim (λ e. inl (outcome_ok (recovered bytes) l e, headed)) (λ e. inr (outcome_ok (recovered bytes) (l ++ p ∷ []) e, headed)) t;
    last = each;
    each = w.each;
  }

  -- the disk of a keeper, whether its appends succeeded or one failed
  pub leaves_log : (ps : Option (List (List ℕ))) (told : Option (List ℕ)) (down : Option ℕ) (in_flight : Option (List ℕ)) → IsLegalFrom o log → IfSome told (λ bytes. 16 < length bytes) → IfSome ps (StandThrough o log) → IfSome ps (OpenThrough o) → IfSome in_flight (λ p. IfSome ps (λ l. FlownOpen o log p (l ++ p ∷ [])))
      → (down ≡ None → Told ps told (λ l bytes. recovered bytes ≡ Ok l)) → (down ≡ None → Only told may_leave)
      → ((p : List ℕ) → in_flight ≡ Some p → Told ps told (λ l bytes. WithOrWithout l p (outcome bytes)))
      → ((p : List ℕ) → in_flight ≡ Some p → IfSome ps (λ l. (c : List ℕ) → may_leave c → WithOrWithout l p (outcome c)))
      → (in_flight ≡ None → down ≡ None)
      → IfSome ps (IsWatchedSo outcome since had early in_flight moment left_since)
      → IfSome told (LeavesLog since had early may_leave left_since o log ps in_flight)
  leaves_log ps told down None legal headed stands again flown rests only flies each up w = at_rest ps told legal headed stands again (rests (up refl)) (only (up refl)) w
  leaves_log ps told down (Some p) legal headed are again flown rests only flies each up w = torn ps told p legal headed are again flown (flies p refl) (each p refl) w

-- a keeper on a disk is let go
module _ {D J : Type 0} (told : D → Option (List ℕ)) (may_leave : D → List ℕ → Type 0) (moment : D → ℕ) (left_since : D → ℕ → List ℕ → Type 0) (disk_of : J → D) (kept : J → Option (List (List ℕ))) (flying : J → Option (List ℕ))
    (since : ℕ) (had : List (List ℕ)) (early : List ℕ → Type 0) where
  abbrev pub WatchedOn : J → D → Type 0
  WatchedOn j disk = IfSome (kept j) (IsWatchedSo outcome since had early (flying j) (moment disk) (left_since disk))

  pub leaves_of : (o : Opened) (log : List LogEntry) (down : J → Option ℕ) (again : D) (j : J) → again ≡ disk_of j → IsLegalFrom o log → IfSome (told again) (λ bytes. 16 < length bytes) → IfSome (kept j) (StandThrough o log) → IfSome (kept j) (OpenThrough o) → IfSome (flying j) (λ p. IfSome (kept j) (λ l. FlownOpen o log p (l ++ p ∷ [])))
      → (down j ≡ None → Told (kept j) (told again) (λ l bytes. recovered bytes ≡ Ok l)) → (down j ≡ None → Only (told again) (may_leave again))
      → ((p : List ℕ) → flying j ≡ Some p → Told (kept j) (told again) (λ l bytes. WithOrWithout l p (outcome bytes)))
      → ((p : List ℕ) → flying j ≡ Some p → IfSome (kept j) (λ l. (c : List ℕ) → may_leave again c → WithOrWithout l p (outcome c)))
      → (flying j ≡ None → down j ≡ None)
      → WatchedOn j (disk_of j)
      → IfSome (told again) (LeavesLog since had early (may_leave again) (left_since again) o log (kept j) (flying j))
  leaves_of o log down again j is legal headed are opening flown rests only flies each up w =
      leaves_log since had early (may_leave again) (left_since again) o log (moment again) (kept j) (told again) (down j) (flying j) legal headed are opening flown rests only flies each up (subst (WatchedOn j) (sym is) w)

-- ---- where no session was held

-- the opening failed as the journal was read or made
pub spared_opening : {D : Type 0} (told : Option (List ℕ)) (may_leave : D → List ℕ → Type 0) (moment : D → ℕ) (left_since : D → ℕ → List ℕ → Type 0) (disk again : D)
    (left : Option (List ℕ)) → IfSome told (OpensOnly may_leave moment left_since disk again) → Spared told left (images_of may_leave moment left_since disk again)
spared_opening None may_leave moment left_since disk again left run = tt
spared_opening (Some bytes) may_leave moment left_since disk again None run = tt
spared_opening (Some bytes) may_leave moment left_since disk again (Some now) run =
    λ c there. inl (⊎_elim (λ was. inl was) (λ few. inr (ap (λ (b : List ℕ). Some b) few.0, few.1)) (run.each c there))

-- or its entries led to no catalogue, or memory ran out
pub spared_watching : (since : ℕ) (had : List (List ℕ)) (early : List ℕ → Type 0) (told left : Option (List ℕ)) (ps : Option (List (List ℕ))) (moment now : ℕ) (before after : List ℕ → Type 0) (left_since : ℕ → List ℕ → Type 0) (flying : Option (List ℕ))
    → IsBegun since had early told moment before → Told told ps (λ bytes l. recovered bytes ≡ Ok l) → flying ≡ None → IfSome ps (IsWatchedSo outcome since had early flying now left_since)
    → Spared told left (record { before = before; after = after; since = left_since moment })
spared_watching since had early None left ps moment now before after left_since flying begins recovers none w = tt
spared_watching since had early (Some bytes) None ps moment now before after left_since flying begins recovers none w = tt
spared_watching since had early (Some bytes) (Some end) None moment now before after left_since flying begins recovers none w = absurd recovers
spared_watching since had early (Some bytes) (Some end) (Some l) moment now before after left_since flying begins recovers none w =
    λ c there. ⊎_elim (λ was. inl (begins.early_to c was)) (λ front. inr (whole c (subst (λ f. IsFrontOf (length had) (with_flying l f) (outcome c)) none front)))
    (w.each c (subst (λ (t : ℕ). left_since t c) (sym begins.since_is) there))
  where
    whole : (c : List ℕ) → IsFrontOf (length had) l (outcome c) → recovered c ≡ recovered bytes
    whole c front =
        let all : take front.0 l ≡ l = take_all front.0 l (omega (arith, front.1, ap length (begins.had_is ∙ payloads_are bytes l recovers))) in
        outcome_ok (recovered c) l (front.3 ∙ ap (λ (x : List (List ℕ)). Some x) all) ∙ sym recovers

pub spared_keeper : {D J : Type 0} (told : D → Option (List ℕ)) (may_leave : D → List ℕ → Type 0) (moment : D → ℕ) (left_since : D → ℕ → List ℕ → Type 0) (disk_of : J → D) (kept : J → Option (List (List ℕ))) (flying : J → Option (List ℕ))
    (since : ℕ) (had : List (List ℕ)) (early : List ℕ → Type 0) (disk again : D) (opened j : J) → IsBegun since had early (told disk) (moment disk) (may_leave disk) → Told (told disk) (kept opened) (λ bytes l. recovered bytes ≡ Ok l) → flying opened ≡ None
    → kept j ≡ kept opened → flying j ≡ flying opened → again ≡ disk_of j → IfSome (kept j) (IsWatchedSo outcome since had early (flying j) (moment (disk_of j)) (left_since (disk_of j)))
    → Spared (told disk) (told again) (images_of may_leave moment left_since disk again)
spared_keeper {D} told may_leave moment left_since disk_of kept flying since had early disk again opened j begins recovers none same flies is w =
    subst (λ (d : D). Spared (told disk) (told d) (images_of may_leave moment left_since disk d)) (sym is)
    (spared_watching since had early (told disk) (told (disk_of j)) (kept j) (moment disk) (moment (disk_of j)) (may_leave disk) (may_leave (disk_of j)) (left_since (disk_of j)) (flying j) begins
    (subst (λ (l : Option (List (List ℕ))). Told (told disk) l (λ bytes x. recovered bytes ≡ Ok x)) (sym same) recovers) (flies ∙ none) w)

-- or its catalogue was only counted
module _ (since : ℕ) (had : List (List ℕ)) (early : List ℕ → Type 0) (moment : ℕ) (before after : List ℕ → Type 0) (left_since : ℕ → List ℕ → Type 0) (o : Opened) (log : List LogEntry) (kept : Option (List (List ℕ))) where
  pub spared_counting : (journal left : Option (List ℕ)) (ps : List (List ℕ)) → IsBegun since had early journal moment before → IfSome journal (λ bytes. recovered bytes ≡ Ok ps) → IfSome left (λ now. IfSome kept (λ l. l ≡ ps))
      → IfSome left (LeavesLog since had early after left_since o log kept None) → Spared journal left (record { before = before; after = after; since = left_since moment })
  spared_counting None left ps begins recovers are leaves = tt
  spared_counting (Some bytes) None ps begins recovers are leaves = tt
  spared_counting (Some bytes) (Some now) ps begins recovers are leaves =
      λ c there. ⊎_elim (λ was. inl (begins.early_to c was)) (λ front. inr (whole c front)) (leaves.each c (subst (λ (t : ℕ). left_since t c) (sym begins.since_is) there))
    where
      same : leaves.payloads ≡ ps
      same = subst (λ (k : Option (List (List ℕ))). IfSome k (λ l. l ≡ ps)) leaves.are are

      had_is : had ≡ ps
      had_is = begins.had_is ∙ payloads_are bytes ps recovers

      whole : (c : List ℕ) → IsFrontOf (length had) leaves.payloads (outcome c) → recovered c ≡ recovered bytes
      whole c front =
          let all : take front.0 leaves.payloads ≡ leaves.payloads = take_all front.0 leaves.payloads (omega (arith, front.1, ap length had_is, ap length same)) in
          outcome_ok (recovered c) ps (front.3 ∙ ap (λ (x : List (List ℕ)). Some x) (all ∙ same)) ∙ sym recovers
