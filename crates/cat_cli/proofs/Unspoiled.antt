-- A journal to which nothing was written: its bytes, and what a crash leaves of it.
use Rattle.std.proofs.Common.{◌≡◌, ◌⊎◌, ℕ, ◌<◌, ◌≤◌, List, [], ◌∷◌, length, Option, Some, None, Ok, refl, sym, ◌∙◌, ap, subst, inl, inr, ⊎_elim, arith}
use Rattle.std.specs.Prelude.{IfSome}
use Rattle.cat_io.specs.Crashes.{LeavesOnly, Only, Told}
use Rattle.cat_io.specs.Places.{stood, taken}
use Rattle.cat_journal.specs.Frames.{form_gate, format_by, new_journal, payloads, recovered}
use Rattle.cat_journal.specs.Reading.{OnlyReads, OpensOnly}
use Rattle.cat_keeper.specs.Moments.{followed, weaker}
use Rattle.cat_model.specs.declared.log_entry.LogEntry.{LogEntry}
use Rattle.cat_model.specs.Turns.{Opened}
use Rattle.cat_cli.specs.Journals.{IsJournalOf, IsUntouched, IsUnwritten, KeepsFormat, TellsAs, opened_format, told_at}
use Rattle.cat_cli.specs.Migrating.{IsLookedAt, IsOpenedAs}
use Rattle.cat_cli.specs.Surviving.{Images, IsEarlier, IsStoodOn, LeavesLog, LeavesSo, StandsAs, Unspoiled, Unwritten, images_at, images_of}
use Rattle.cat_cli.specs.Unadded.{IsStillSo}
use Rattle.cat_cli.proofs.Surviving.{payloads_are}
use Rattle.cat_cli.proofs.Unadded.{IsKept}

-- a new journal has 17 bytes
new_is_short : length new_journal ≤ 17
new_is_short = let is : length new_journal ≡ 17 = refl in omega (arith, is)

-- where nothing but a new journal was written, no more was than a part of one
pub unwritten_of : (journal left : Option (List ℕ)) (images : Images) → Unspoiled journal left images → Unwritten journal left images
unwritten_of None left images u = tt
unwritten_of (Some before) None images u = tt
unwritten_of (Some before) (Some now) images u = (by u.0, u.1)
  where
    by : IsUntouched before now → IsUnwritten before now
    by (inl same) = inl same
    by (inr new) = inr (new.0, subst (λ (l : List ℕ). length l ≤ 17) (sym new.1) new_is_short)

-- ---- at a path

-- what is said of a disk is said of one that is the same
moved : (are : List ℕ → List ℕ → Type 0) (t t' left : Option (List ℕ)) (a b : Images) → t' ≡ t → ((c : List ℕ) → a.before c → b.before c) → ((c : List ℕ) → b.since c → a.since c) → LeavesSo are t left a → LeavesSo are t' left b
moved are t t' left a b same earlier later u = subst (λ (x : Option (List ℕ)). LeavesSo are x left b) (sym same) (by t left u)
  where
    by : (x l : Option (List ℕ)) → LeavesSo are x l a → LeavesSo are x l b
    by None l u = tt
    by (Some bytes) None u = tt
    by (Some bytes) (Some now) u = (u.0, λ c there. ⊎_elim (λ was. inl (earlier c was)) (λ few. inr few) (u.1 c (later c there)))

module _ {D : Type 0} (told : D → Option (List ℕ)) (may_leave : D → List ℕ → Type 0) (moment : D → ℕ) (left_since : D → ℕ → List ℕ → Type 0) where
  left_at : (are : List ℕ → List ℕ → Type 0) (place : Option (Option D)) (disk again : D) → StandsAs told may_leave moment place disk → LeavesSo are (told disk) (told again) (images_of may_leave moment left_since disk again)
      → LeavesSo are (told_at told place) (told_at told (stood again (taken place))) (images_at may_leave moment left_since place (stood again (taken place)))
  left_at are None disk again is u = tt
  left_at are (Some None) disk again is u = absurd is
  left_at are (Some (Some d)) disk again is u =
      moved are (told disk) (told d) (told again) (images_of may_leave moment left_since disk again) (images_of may_leave moment left_since d again) is.tells is.leaves
      (λ c there. subst (λ (t : ℕ). left_since again t c) is.moment_is there) u

  -- the disk was taken from its path, and given back there
  left_back : (are : List ℕ → List ℕ → Type 0) (place mid place' : Option (Option D)) (disk again : D) → StandsAs told may_leave moment place disk → mid ≡ taken place → place' ≡ stood again mid → LeavesSo are (told disk) (told again) (images_of may_leave moment left_since disk again)
      → LeavesSo are (told_at told place) (told_at told place') (images_at may_leave moment left_since place place')
  left_back are place mid place' disk again is out back u =
      subst (λ (q : Option (Option D)). LeavesSo are (told_at told place) (told_at told q) (images_at may_leave moment left_since place q)) (sym (back ∙ ap (stood again) out)) (left_at are place disk again is u)

  pub unspoiled_back : (place mid place' : Option (Option D)) (disk again : D) → StandsAs told may_leave moment place disk → mid ≡ taken place → place' ≡ stood again mid → Unspoiled (told disk) (told again) (images_of may_leave moment left_since disk again)
      → Unspoiled (told_at told place) (told_at told place') (images_at may_leave moment left_since place place')
  unspoiled_back place mid place' disk again is out back u = left_back IsUntouched place mid place' disk again is out back u

  pub unwritten_back : (place mid place' : Option (Option D)) (disk again : D) → StandsAs told may_leave moment place disk → mid ≡ taken place → place' ≡ stood again mid → Unwritten (told disk) (told again) (images_of may_leave moment left_since disk again)
      → Unwritten (told_at told place) (told_at told place') (images_at may_leave moment left_since place place')
  unwritten_back place mid place' disk again is out back u = left_back IsUnwritten place mid place' disk again is out back u

  -- no disk was opened
  pub unspoiled_untouched : ((d : D) (c : List ℕ) → left_since d (moment d) c → may_leave d c) → (place : Option (Option D)) → Unspoiled (told_at told place) (told_at told place) (images_at may_leave moment left_since place place)
  unspoiled_untouched only_now None = tt
  unspoiled_untouched only_now (Some None) = tt
  unspoiled_untouched only_now (Some (Some disk)) = untouched (told disk)
    where
      untouched : (t : Option (List ℕ)) → Unspoiled t t (images_of may_leave moment left_since disk disk)
      untouched None = tt
      untouched (Some bytes) = (inl refl, λ c there. inl (only_now disk c there))

  pub unwritten_untouched : ((d : D) (c : List ℕ) → left_since d (moment d) c → may_leave d c) → (place place' : Option (Option D)) → place' ≡ place → Unwritten (told_at told place) (told_at told place') (images_at may_leave moment left_since place place')
  unwritten_untouched only_now place place' same =
      subst (λ (q : Option (Option D)). Unwritten (told_at told place) (told_at told q) (images_at may_leave moment left_since place q)) (sym same)
      (unwritten_of (told_at told place) (told_at told place) (images_at may_leave moment left_since place place) (unspoiled_untouched only_now place))

  -- ---- the journal wasn't opened

  earlier : (disk : D) (bytes c : List ℕ) → (may_leave disk c ⊎ ((bytes ≡ []) × (length c ≤ 17))) → IsEarlier (may_leave disk) (Some bytes) c
  earlier disk bytes c e = ⊎_elim (λ was. inl was) (λ few. inr (ap (λ (b : List ℕ). Some b) few.0, few.1)) e

  pub unspoiled_unopened : (disk again : D) (t t' : Option (List ℕ)) → Told t t' (λ b a. a ≡ b) → IfSome t (OpensOnly may_leave moment left_since disk again) → Unspoiled t t' (images_of may_leave moment left_since disk again)
  unspoiled_unopened disk again None t' same run = tt
  unspoiled_unopened disk again (Some bytes) None same run = tt
  unspoiled_unopened disk again (Some bytes) (Some now) same run = (inl same, λ c there. earlier disk bytes c (run.each c there))

  -- nor was it where a call of its disk failed
  pub unwritten_unopened : (disk again : D) → IfSome (told disk) (λ bytes. 0 < length bytes → OnlyReads told may_leave moment left_since disk again) → Told (told disk) (told again) (λ before after. before ≡ [] → length after ≤ 17) → IfSome (told disk) (OpensOnly may_leave moment left_since disk again)
      → Unwritten (told disk) (told again) (images_of may_leave moment left_since disk again)
  unwritten_unopened disk again reads few run = by (told disk) (told again) reads (λ r. r.same) few run
    where
      unwritten : (bytes now : List ℕ) → (0 < length bytes → OnlyReads told may_leave moment left_since disk again) → (OnlyReads told may_leave moment left_since disk again → now ≡ bytes) → (bytes ≡ [] → length now ≤ 17) → IsUnwritten bytes now
      unwritten [] now reads same few = inr (refl, few refl)
      unwritten (x ∷ xs) now reads same few = inl (same (reads (omega arith)))

      by : (t t' : Option (List ℕ)) → IfSome t (λ bytes. 0 < length bytes → OnlyReads told may_leave moment left_since disk again) → (OnlyReads told may_leave moment left_since disk again → Told t t' (λ a b. b ≡ a)) → Told t t' (λ before after. before ≡ [] → length after ≤ 17)
          → IfSome t (OpensOnly may_leave moment left_since disk again) → Unwritten t t' (images_of may_leave moment left_since disk again)
      by None t' reads same few run = tt
      by (Some bytes) None reads same few run = tt
      by (Some bytes) (Some now) reads same few run = (unwritten bytes now reads same few, λ c there. earlier disk bytes c (run.each c there))

  pub looked_unopened : (disk again : D) → Told (told disk) (told again) (λ b a. a ≡ b) → IfSome (told disk) (OpensOnly may_leave moment left_since disk again) → IsLookedAt told may_leave moment left_since disk again
  looked_unopened disk again same run = record { bytes = bytes (told disk) (told again) same; time = time (told disk) run }
    where
      bytes : (t t' : Option (List ℕ)) → Told t t' (λ b a. a ≡ b) → Told t t' IsUntouched
      bytes None None same = tt
      bytes None (Some y) same = absurd same
      bytes (Some x) None same = absurd same
      bytes (Some x) (Some y) same = inl same

      time : (t : Option (List ℕ)) → IfSome t (OpensOnly may_leave moment left_since disk again) → IfSome t (λ bytes. LeavesOnly moment left_since disk again (IsEarlier (may_leave disk) (Some bytes)))
      time None run = tt
      time (Some x) run = weaker moment left_since disk again _ _ run (λ c e. earlier disk x c e)

  -- ---- it was, and its keeper is held

  module _ (since count : ℕ) (past : ℕ → List ℕ → Type 0) (began : List ℕ → Type 0) (shape : ℕ → Type 0) (disk : D) (s : IsStoodOn since count past began shape (told disk) (moment disk) (may_leave disk) (left_since disk)) where
    -- as it is opened
    pub stands_still : (opened : D) (ps : Option (List (List ℕ))) (flying : Option (List ℕ)) → Told (told disk) ps (λ bytes l. recovered bytes ≡ Ok l) → IfSome (told disk) (OpensOnly may_leave moment left_since disk opened)
        → Told (told disk) (told opened) (λ before after. before ≡ [] → after ≡ new_journal) → IfSome (told disk) (λ bytes. 0 < length bytes → OnlyReads told may_leave moment left_since disk opened) → Only (told opened) (may_leave opened)
        → IfSome ps (IsStillSo since count past began flying (moment opened) (may_leave opened) (left_since opened))
    stands_still opened ps flying recovers run new reads only = by (told disk) ps (told opened) s recovers run new reads (λ r. r.same) only
      where
        untouched : (bytes b : List ℕ) → (bytes ≡ [] → b ≡ new_journal) → (0 < length bytes → OnlyReads told may_leave moment left_since disk opened) → (OnlyReads told may_leave moment left_since disk opened → b ≡ bytes) → IsUntouched bytes b
        untouched [] b new reads same = inr (refl, new refl)
        untouched (x ∷ xs) b new reads same = inl (same (reads (omega arith)))

        by : (t : Option (List ℕ)) (l : Option (List (List ℕ))) (t' : Option (List ℕ)) → IsStoodOn since count past began shape t (moment disk) (may_leave disk) (left_since disk) → Told t l (λ bytes x. recovered bytes ≡ Ok x) → IfSome t (OpensOnly may_leave moment left_since disk opened)
            → Told t t' (λ before after. before ≡ [] → after ≡ new_journal) → IfSome t (λ bytes. 0 < length bytes → OnlyReads told may_leave moment left_since disk opened) → (OnlyReads told may_leave moment left_since disk opened → Told t t' (λ a b. b ≡ a)) → Only t' (may_leave opened)
            → IfSome l (IsStillSo since count past began flying (moment opened) (may_leave opened) (left_since opened))
        by None None t' st recovers run new reads same only = tt
        by None (Some l) t' st recovers run new reads same only = absurd recovers
        by (Some bytes) None t' st recovers run new reads same only = absurd recovers
        by (Some bytes) (Some l) None st recovers run new reads same only = absurd new
        by (Some bytes) (Some l) (Some b) st recovers run new reads same only =
            let is : IsUntouched bytes b = untouched bytes b new reads same in
            record {
              later = omega (arith, st.since_is, run.later);
              many = let counted : count ≡ length (payloads bytes) = st.count_is in omega (arith, counted, ap length (payloads_are bytes l recovers));
              left = λ none few c may. st.began_from c (subst (IsUntouched bytes) (sym (only c may)) is);
              each = λ none few t c le left. inl (st.past_from t c (⊎_elim (λ was. inl was) (λ now. inr (earlier disk bytes c now)) (run.before t c (omega (arith, le, st.since_is)) left)));
            }

    -- its format then
    pub shaped : (opened : D) (n : ℕ) → IfSome (told opened) (λ bytes. format_by (form_gate bytes) ≡ n) → Told (told disk) (told opened) (λ before after. before ≡ [] → after ≡ new_journal)
        → IfSome (told disk) (λ bytes. 0 < length bytes → OnlyReads told may_leave moment left_since disk opened) → shape n
    shaped opened n format new reads = s.shape_from n (by (told disk) (told opened) format new reads (λ r. r.same))
      where
        by : (t t' : Option (List ℕ)) → IfSome t' (λ bytes. format_by (form_gate bytes) ≡ n) → Told t t' (λ before after. before ≡ [] → after ≡ new_journal) → IfSome t (λ bytes. 0 < length bytes → OnlyReads told may_leave moment left_since disk opened)
            → (OnlyReads told may_leave moment left_since disk opened → Told t t' (λ a b. b ≡ a)) → IfSome t (λ bytes. n ≡ opened_format bytes)
        by None t' format new reads same = tt
        by (Some bytes) None format new reads same = absurd new
        by (Some []) (Some b) format new reads same = sym format ∙ ap (λ (l : List ℕ). format_by (form_gate l)) (new refl)
        by (Some (x ∷ xs)) (Some b) format new reads same = sym format ∙ ap (λ (l : List ℕ). format_by (form_gate l)) (same (reads (omega arith)))

    -- and as it is let go
    pub keeps_format : (again : D) → IfSome (told again) (λ bytes. shape (format_by (form_gate bytes))) → KeepsFormat (told disk) (told again)
    keeps_format again format = by (told disk) (told again) s format
      where
        by : (t t' : Option (List ℕ)) → IsStoodOn since count past began shape t (moment disk) (may_leave disk) (left_since disk) → IfSome t' (λ bytes. shape (format_by (form_gate bytes))) → KeepsFormat t t'
        by None t' st format = tt
        by (Some bytes) None st format = tt
        by (Some bytes) (Some now) st format = st.shape_to (format_by (form_gate now)) format

    -- as it is let go, with the payloads that it had
    module _ (only_now : (d : D) (c : List ℕ) → left_since d (moment d) c → may_leave d c) (image : (d : D) (c : List ℕ) → told d ≡ Some c → may_leave d c) where
      pub let_go : (again : D) (ps : Option (List (List ℕ))) (flying : Option (List ℕ)) → flying ≡ None → IfSome (told disk) (λ bytes. IfSome (told again) (λ now. ps ≡ Some (payloads bytes)))
          → IfSome ps (IsStillSo since count past began flying (moment again) (may_leave again) (left_since again)) → Unspoiled (told disk) (told again) (images_of may_leave moment left_since disk again)
      let_go again ps flying none are still = by (told disk) (told again) s (image disk) (image again) are
        where
          by : (t t' : Option (List ℕ)) → IsStoodOn since count past began shape t (moment disk) (may_leave disk) (left_since disk) → ((c : List ℕ) → t ≡ Some c → may_leave disk c) → ((c : List ℕ) → t' ≡ Some c → may_leave again c)
              → IfSome t (λ bytes. IfSome t' (λ now. ps ≡ Some (payloads bytes))) → Unspoiled t t' (images_of may_leave moment left_since disk again)
          by None t' st was now are = tt
          by (Some bytes) None st was now are = tt
          by (Some bytes) (Some b) st was now are =
              let h : IsStillSo since count past began flying (moment again) (may_leave again) (left_since again) (payloads bytes) =
              subst (λ (l : Option (List (List ℕ))). IfSome l (IsStillSo since count past began flying (moment again) (may_leave again) (left_since again))) are still in
              let few : length (payloads bytes) ≡ count = sym st.count_is in
              let le : moment disk ≤ since = omega (arith, st.since_is) in
              (st.began_to b (h.left none few b (now b refl)), λ c there. ⊎_elim (λ p. ⊎_elim (λ l. inl (only_now disk c l)) (λ e. e) (st.past_to (moment disk) c p)) (λ g. held c (st.began_to c g)) (h.each none few (moment disk) c le there))
            where
              held : (c : List ℕ) → IsUntouched bytes c → IsEarlier (may_leave disk) (Some bytes) c
              held c (inl is) = inl (subst (may_leave disk) (sym is) (was bytes refl))
              held c (inr is) = inr (ap (λ (l : List ℕ). Some l) is.0, subst (λ (l : List ℕ). length l ≤ 17) (sym is.1) new_is_short)

-- the format is that of its keeper
pub shape_at : (t : Option (List ℕ)) (shape : ℕ → Type 0) (n : ℕ) → IfSome t (λ bytes. format_by (form_gate bytes) ≡ n) → shape n → IfSome t (λ bytes. shape (format_by (form_gate bytes)))
shape_at None shape n format is = tt
shape_at (Some bytes) shape n format is = subst shape (sym format) is

-- the disk was taken from its path, and given back there
module _ {D : Type 0} (told : D → Option (List ℕ)) where
  format_at : (place : Option (Option D)) (disk again : D) → TellsAs told place disk → KeepsFormat (told disk) (told again) → KeepsFormat (told_at told place) (told_at told (stood again (taken place)))
  format_at None disk again is k = tt
  format_at (Some None) disk again is k = absurd is
  format_at (Some (Some d)) disk again is k = subst (λ (t : Option (List ℕ)). KeepsFormat t (told again)) (sym is) k

  pub format_back : (place mid place' : Option (Option D)) (disk again : D) → TellsAs told place disk → mid ≡ taken place → place' ≡ stood again mid → KeepsFormat (told disk) (told again) → KeepsFormat (told_at told place) (told_at told place')
  format_back place mid place' disk again is out back k =
      subst (λ (q : Option (Option D)). KeepsFormat (told_at told place) (told_at told q)) (sym (back ∙ ap (stood again) out)) (format_at place disk again is k)

-- the payloads are those that were told as the journal was opened
pub are_opened : (t t' : Option (List ℕ)) (ps : Option (List (List ℕ))) → Told t ps (λ bytes l. recovered bytes ≡ Ok l) → IfSome t (λ bytes. IfSome t' (λ now. ps ≡ Some (payloads bytes)))
are_opened None t' ps recovers = tt
are_opened (Some bytes) None ps recovers = tt
are_opened (Some bytes) (Some now) None recovers = absurd recovers
are_opened (Some bytes) (Some now) (Some l) recovers = ap (λ (x : List (List ℕ)). Some x) (sym (payloads_are bytes l recovers))

-- or those of the log that is left
pub are_left : (since : ℕ) (had : List (List ℕ)) (early may_leave : List ℕ → Type 0) (left_since : ℕ → List ℕ → Type 0) (o : Opened) (log : List LogEntry) (flying : Option (List ℕ)) (t t' : Option (List ℕ)) (ps : Option (List (List ℕ))) (l : List (List ℕ))
    → IfSome t (λ bytes. recovered bytes ≡ Ok l) → IfSome t' (LeavesLog since had early may_leave left_since o log ps flying) → IfSome t' (λ now. IfSome ps (λ x. x ≡ l)) → IfSome t (λ bytes. IfSome t' (λ now. ps ≡ Some (payloads bytes)))
are_left since had early may_leave left_since o log flying None t' ps l recovers left are = tt
are_left since had early may_leave left_since o log flying (Some bytes) None ps l recovers left are = tt
are_left since had early may_leave left_since o log flying (Some bytes) (Some now) ps l recovers left are =
    let same : left.payloads ≡ l = subst (λ (k : Option (List (List ℕ))). IfSome k (λ x. x ≡ l)) left.are are in
    left.are ∙ ap (λ (x : List (List ℕ)). Some x) (same ∙ sym (payloads_are bytes l recovers))

-- ---- where it is migrated

module _ {D : Type 0} (told : D → Option (List ℕ)) (may_leave : D → List ℕ → Type 0) (moment : D → ℕ) (left_since : D → ℕ → List ℕ → Type 0) where
  pub unspoiled_looked : (disk again : D) → IsLookedAt told may_leave moment left_since disk again → Unspoiled (told disk) (told again) (images_of may_leave moment left_since disk again)
  unspoiled_looked disk again is = by (told disk) (told again) is.bytes is.time
    where
      by : (t t' : Option (List ℕ)) → Told t t' IsUntouched → IfSome t (λ bytes. LeavesOnly moment left_since disk again (IsEarlier (may_leave disk) (Some bytes))) → Unspoiled t t' (images_of may_leave moment left_since disk again)
      by None t' bytes time = tt
      by (Some x) None bytes time = tt
      by (Some x) (Some y) bytes time = (bytes, λ c there. time.each c there)

  -- the journal was opened, and its disk was given back with the bytes
  module _ (only_now : (d : D) (c : List ℕ) → left_since d (moment d) c → may_leave d c) (counts_now : (d : D) (t : ℕ) (c : List ℕ) → t ≤ moment d → may_leave d c → left_since d t c) where
    pub looked_opened : (disk opened again : D) (ps : Option (List (List ℕ))) → Told (told disk) ps (λ bytes l. recovered bytes ≡ Ok l) → Told (told disk) (told again) IsOpenedAs → IfSome (told disk) (OpensOnly may_leave moment left_since disk opened)
        → IfSome ps (λ l. IsKept (moment opened) (left_since opened) (may_leave opened) (moment again) (may_leave again) (left_since again)) → IsLookedAt told may_leave moment left_since disk again
    looked_opened disk opened again ps recovers opens run kept = record { bytes = bytes (told disk) (told again) opens; time = time (told disk) ps recovers run kept }
      where
        bytes : (t t' : Option (List ℕ)) → Told t t' IsOpenedAs → Told t t' IsUntouched
        bytes None None opens = tt
        bytes None (Some y) opens = absurd opens
        bytes (Some x) None opens = absurd opens
        bytes (Some []) (Some y) opens = inr (refl, opens.0 refl)
        bytes (Some (x ∷ xs)) (Some y) opens = inl (opens.1 (omega arith))

        time : (t : Option (List ℕ)) (l : Option (List (List ℕ))) → Told t l (λ bytes x. recovered bytes ≡ Ok x) → IfSome t (OpensOnly may_leave moment left_since disk opened)
            → IfSome l (λ x. IsKept (moment opened) (left_since opened) (may_leave opened) (moment again) (may_leave again) (left_since again)) → IfSome t (λ bytes. LeavesOnly moment left_since disk again (IsEarlier (may_leave disk) (Some bytes)))
        time None l recovers run kept = tt
        time (Some bytes) None recovers run kept = absurd recovers
        time (Some bytes) (Some l) recovers run kept =
            followed moment left_since disk opened again _ _ _ run held (λ c e. earlier told may_leave moment left_since disk bytes c e) (λ c may. earlier told may_leave moment left_since disk bytes c (run.each c (counts_now opened (moment disk) c run.later may)))
          where
            held : LeavesOnly moment left_since opened again (may_leave opened)
            held = record {
              later = kept.later;
              each = λ c left. ⊎_elim (λ was. only_now opened c was) (λ now. now) (kept.each (moment opened) c (omega arith) left);
              before = λ t c le left. kept.each t c le left;
            }

  -- then it wasn't made one of format 2
  pub looked_on : (disk mid again : D) (l : List (List ℕ)) → IsLookedAt told may_leave moment left_since disk mid → IfSome (told mid) (IsJournalOf l) → IfSome (told mid) (λ bytes. 0 < length bytes → OnlyReads told may_leave moment left_since mid again)
      → ((d : D) (t : ℕ) (c : List ℕ) → t ≤ moment d → may_leave d c → left_since d t c) → Unspoiled (told disk) (told again) (images_of may_leave moment left_since disk again)
  looked_on disk mid again l is journal reads counts_now = by (told disk) (told mid) (told again) is.bytes is.time journal reads (λ r. r.same)
    where
      by : (t m t' : Option (List ℕ)) → Told t m IsUntouched → IfSome t (λ bytes. LeavesOnly moment left_since disk mid (IsEarlier (may_leave disk) (Some bytes))) → IfSome m (IsJournalOf l) → IfSome m (λ bytes. 0 < length bytes → OnlyReads told may_leave moment left_since mid again)
          → (OnlyReads told may_leave moment left_since mid again → Told m t' (λ a b. b ≡ a)) → Unspoiled t t' (images_of may_leave moment left_since disk again)
      by None m t' bytes time journal reads same = tt
      by (Some x) m None bytes time journal reads same = tt
      by (Some x) None (Some y) bytes time journal reads same = absurd bytes
      by (Some x) (Some b) (Some y) bytes time journal reads same =
          let some : 0 < length b = omega (arith, journal.1) in
          let r = reads some in
          let run : LeavesOnly moment left_since disk again (IsEarlier (may_leave disk) (Some x)) = followed moment left_since disk mid again _ _ _ time r.time (λ c e. e) (λ c may. time.each c (counts_now mid (moment disk) c time.later may)) in
          (subst (IsUntouched x) (sym (same r)) bytes, λ c there. run.each c there)
