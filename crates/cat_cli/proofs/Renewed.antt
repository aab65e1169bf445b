-- A journal that was opened and given back with its bytes, and then made one of format 2.
use Rattle.std.proofs.Common.{◌≡◌, ◌⊎◌, ℕ, ◌<◌, ◌≤◌, List, [], ◌∷◌, length, Option, Some, None, Ok, refl, sym, ◌∙◌, ap, subst, inl, inr, ⊎_elim, arith}
use Rattle.std.specs.Prelude.{IfSome, true}
use Rattle.std.proofs.lemmas.List.{append-nil}
use Rattle.cat_io.specs.Crashes.{LeavesOnly, Only, Told, put}
use Rattle.cat_journal.specs.Frames.{form_gate, is_newer, new_journal, recovered}
use Rattle.cat_journal.specs.Held.{outcome_of}
use Rattle.cat_journal.specs.Reading.{IsMigrated, MigratesOnly, OnlyReads, OpensOnly}
use Rattle.cat_keeper.specs.Moments.{followed, weaker}
use Rattle.cat_model.specs.Book.{Book}
use Rattle.cat_model.specs.Turns.{Opened}
use Rattle.cat_cli.specs.Journals.{Begins, IsJournalOf, StandsFor}
use Rattle.cat_cli.specs.Migrating.{IsOpenedAs, SparesOnly}
use Rattle.cat_cli.specs.Runs.{Migrates}
use Rattle.cat_cli.specs.Surviving.{IsEarlier, IsOnTheWay, Spared, images_of}
use Rattle.cat_cli.proofs.Unadded.{IsKept}
use Rattle.cat_serve.proofs.Told.{some_is, not_none}

module _ {D : Type 0} (told : D → Option (List ℕ)) (may_leave : D → List ℕ → Type 0) (moment : D → ℕ) (left_since : D → ℕ → List ℕ → Type 0) where
  abbrev StaysSo : D → D → Type 0
  StaysSo opened again = IsKept (moment opened) (left_since opened) (may_leave opened) (moment again) (may_leave again) (left_since again)

  earlier : (disk : D) (bytes c : List ℕ) → (may_leave disk c ⊎ ((bytes ≡ []) × (length c ≤ 17))) → IsEarlier (may_leave disk) (Some bytes) c
  earlier disk bytes c e = ⊎_elim (λ was. inl was) (λ few. inr (ap (λ (b : List ℕ). Some b) few.0, few.1)) e

  -- a journal that wasn't opened
  pub opens_sparing : (disk again : D) (t : Option (List ℕ)) → IfSome t (OpensOnly may_leave moment left_since disk again) → IfSome t (SparesOnly may_leave moment left_since disk again)
  opens_sparing disk again None run = tt
  opens_sparing disk again (Some bytes) run = weaker moment left_since disk again _ _ run (λ c e. inl (earlier disk bytes c e))

  -- the disk that comes back is the keeper's
  pub given_back : (opened held again : D) (ps : Option (List (List ℕ))) → again ≡ held → IfSome ps (λ l. StaysSo opened held) → IfSome ps (λ l. StaysSo opened again)
  given_back opened held again ps is kept = subst (λ (d : D). IfSome ps (λ l. StaysSo opened d)) (sym is) kept

  module _ (only_now : (d : D) (c : List ℕ) → left_since d (moment d) c → may_leave d c) where
    held : (opened again : D) → StaysSo opened again → LeavesOnly moment left_since opened again (may_leave opened)
    held opened again kept = record {
      later = kept.later;
      each = λ c left. ⊎_elim (λ was. only_now opened c was) (λ now. now) (kept.each (moment opened) c (omega arith) left);
      before = λ t c le left. kept.each t c le left;
    }

    -- one that was, and was given back
    pub held_sparing : (disk opened again : D) (t t' : Option (List ℕ)) (ps : Option (List (List ℕ))) → Told t ps (λ bytes l. recovered bytes ≡ Ok l) → Told t' ps (λ bytes l. recovered bytes ≡ Ok l)
        → IfSome t (OpensOnly may_leave moment left_since disk opened) → Only t' (may_leave opened) → IfSome ps (λ l. StaysSo opened again) → IfSome t (SparesOnly may_leave moment left_since disk again)
    held_sparing disk opened again None t' ps before after run only kept = tt
    held_sparing disk opened again (Some bytes) t' None before after run only kept = absurd before
    held_sparing disk opened again (Some bytes) None (Some l) before after run only kept = absurd after
    held_sparing disk opened again (Some bytes) (Some b) (Some l) before after run only kept =
        followed moment left_since disk opened again _ _ _ run (held opened again kept) (λ c e. inl (earlier disk bytes c e)) (λ c may. inr (ap recovered (only c may) ∙ after ∙ sym before))

  -- it has the bytes that it was opened with
  pub same_bytes : (disk opened again : D) (ps ps' : Option (List (List ℕ))) → ((c : List ℕ) → told again ≡ Some c → may_leave again c)
      → Told (told opened) ps (λ bytes l. recovered bytes ≡ Ok l) → ps' ≡ ps → Told ps' (told again) (λ l bytes. recovered bytes ≡ Ok l) → Only (told opened) (may_leave opened) → IfSome ps (λ l. StaysSo opened again)
      → Told (told opened) (told again) (λ a b. b ≡ a)
  same_bytes disk opened again ps ps' image holds same back only kept = by (told opened) ps (told again) holds (subst (λ (x : Option (List (List ℕ))). Told x (told again) (λ l bytes. recovered bytes ≡ Ok l)) same back) only kept image
    where
      by : (t : Option (List ℕ)) (l : Option (List (List ℕ))) (t' : Option (List ℕ)) → Told t l (λ bytes x. recovered bytes ≡ Ok x) → Told l t' (λ x bytes. recovered bytes ≡ Ok x) → Only t (may_leave opened) → IfSome l (λ x. StaysSo opened again)
          → ((c : List ℕ) → t' ≡ Some c → may_leave again c) → Told t t' (λ a b. b ≡ a)
      by None None None holds back only kept image = tt
      by None None (Some c) holds back only kept image = absurd back
      by None (Some x) t' holds back only kept image = absurd holds
      by (Some b) None t' holds back only kept image = absurd holds
      by (Some b) (Some x) None holds back only kept image = absurd back
      by (Some b) (Some x) (Some c) holds back only kept image = only c (kept.left c (image c refl))

  -- or where it had none, those of a new journal
  pub opened_as : (disk opened : D) (t t' t'' : Option (List ℕ)) → Told t t' (λ before after. before ≡ [] → after ≡ new_journal)
      → IfSome t (λ bytes. 0 < length bytes → OnlyReads told may_leave moment left_since disk opened) → (OnlyReads told may_leave moment left_since disk opened → Told t t' (λ a b. b ≡ a))
      → Told t' t'' (λ a b. b ≡ a) → Told t t'' IsOpenedAs
  opened_as disk opened None None None new reads same back = tt
  opened_as disk opened None None (Some c) new reads same back = absurd back
  opened_as disk opened None (Some b) t'' new reads same back = absurd new
  opened_as disk opened (Some a) None t'' new reads same back = absurd new
  opened_as disk opened (Some a) (Some b) None new reads same back = absurd back
  opened_as disk opened (Some a) (Some b) (Some c) new reads same back = (λ none. back ∙ new none, λ some. back ∙ same (reads some))

  -- ---- and is made one of format 2

  not_empty : (m : List ℕ) → 16 < length m → m ≡ [] → ⊥
  not_empty m headed empty = let e : length m ≡ 0 = ap length empty in omega (arith, headed, e)

  pub renewed_sparing : (disk mid again : D) (t t' : Option (List ℕ)) (payloads : List (List ℕ)) → Told t t' IsOpenedAs → IfSome t (λ bytes. recovered bytes ≡ Ok payloads) → IfSome t' (IsJournalOf payloads) → Only t' (may_leave mid)
      → IfSome t (SparesOnly may_leave moment left_since disk mid) → IfSome t' (MigratesOnly may_leave moment left_since mid again) → IfSome t (SparesOnly may_leave moment left_since disk again)
  renewed_sparing disk mid again None t' payloads opens recovers is only run more = tt
  renewed_sparing disk mid again (Some b) None payloads opens recovers is only run more = absurd opens
  renewed_sparing disk mid again (Some b) (Some m) payloads opens recovers is only run more =
      followed moment left_since disk mid again _ _ _ run more (λ c r. r) by
    where
      stands : recovered m ≡ recovered b
      stands = is.0 ∙ sym recovers

      by : (c : List ℕ) → ((may_leave mid c ⊎ ((m ≡ []) × (length c ≤ 17))) ⊎ (recovered c ≡ recovered m)) → IsEarlier (may_leave disk) (Some b) c ⊎ (recovered c ≡ recovered b)
      by c (inl (inl may)) = inr (ap recovered (only c may) ∙ stands)
      by c (inl (inr (empty, short))) = absurd (not_empty m is.1 empty)
      by c (inr same) = inr (same ∙ stands)

  pub spared_of : (disk again : D) (t left : Option (List ℕ)) → IfSome t (SparesOnly may_leave moment left_since disk again) → Spared t left (images_of may_leave moment left_since disk again)
  spared_of disk again None left run = tt
  spared_of disk again (Some bytes) None run = tt
  spared_of disk again (Some bytes) (Some now) run = run.each

  is_migrated : (b m a : List ℕ) → IsOpenedAs b m → 16 < length m → IsMigrated m a → IsMigrated b a
  is_migrated b m a opens headed is =
      let some : 0 < length m = omega (arith, headed) in
      (λ none. is.1 some ∙ ap (λ (l : List ℕ). put 15 (1 ∷ []) l) (opens.0 none), λ more. is.1 some ∙ ap (λ (l : List ℕ). put 15 (1 ∷ []) l) (opens.1 more))

  module _ (disk mid again : D) (payloads : List (List ℕ)) (o : Opened) (book : Book) (begins : Begins (told disk) payloads o book) (opens : Told (told disk) (told mid) IsOpenedAs) (is : IfSome (told mid) (IsJournalOf payloads)) where
    bytes_at : (t t' t'' : Option (List ℕ)) → Told t t' IsOpenedAs → IfSome t' (IsJournalOf payloads) → Told t' t'' IsMigrated → IfSome t (λ before. IfSome t'' (λ after. IsMigrated before after))
    bytes_at None t' t'' opens is put = tt
    bytes_at (Some b) None t'' opens is put = absurd opens
    bytes_at (Some b) (Some m) None opens is put = tt
    bytes_at (Some b) (Some m) (Some a) opens is put = is_migrated b m a opens is.1 put

    journal_at : (t' t'' : Option (List ℕ)) → IfSome t' (IsJournalOf payloads) → Told t' t'' (λ before after. recovered after ≡ recovered before) → IfSome t'' (λ bytes. 16 < length bytes) → IfSome t'' (IsJournalOf payloads)
    journal_at t' None is same headed = tt
    journal_at None (Some a) is same headed = absurd same
    journal_at (Some m) (Some a) is same headed = (same ∙ is.0, headed)

    pub migrates : IfSome (told again) (λ bytes. is_newer (form_gate bytes) ≡ true) → Told (told mid) (told again) IsMigrated → Told (told mid) (told again) (λ before after. recovered after ≡ recovered before) → IfSome (told again) (λ bytes. 16 < length bytes) → Only (told again) (may_leave again)
        → IfSome (told disk) (SparesOnly may_leave moment left_since disk again) → Migrates (told disk) (told again) (images_of may_leave moment left_since disk again) book
    migrates newer put same headed only run = record {
      opens = record {
        payloads = payloads;
        opened = o;
        begins = begins;
        keeps = journal_at (told mid) (told again) is same headed;
        ends = at_the_end (told again) only;
        crash = spared_of disk again (told disk) (told again) run;
      };
      newer = newer;
      bytes = bytes_at (told disk) (told mid) (told again) opens is put;
    }
      where
        at_the_end : (t : Option (List ℕ)) → Only t (may_leave again) → IfSome t (λ bytes. (c : List ℕ) → may_leave again c → c ≡ bytes)
        at_the_end None only = tt
        at_the_end (Some bytes) only = only

    -- it isn't, and stands for what it did
    pub stands_on : (left : Option (List ℕ)) → Told (told mid) left (λ before after. 0 < length before → recovered after ≡ recovered before) → StandsFor (told disk) left
    stands_on left same = by (told disk) (told mid) left opens is begins.recovers same
      where
        by : (t t' t'' : Option (List ℕ)) → Told t t' IsOpenedAs → IfSome t' (IsJournalOf payloads) → IfSome t (λ bytes. recovered bytes ≡ Ok payloads) → Told t' t'' (λ before after. 0 < length before → recovered after ≡ recovered before) → StandsFor t t''
        by None t' t'' opens is recovers same before now e f = absurd (not_none before e)
        by (Some b) None t'' opens is recovers same before now e f = absurd opens
        by (Some b) (Some m) None opens is recovers same before now e f = absurd (not_none now f)
        by (Some b) (Some m) (Some a) opens is recovers same before now e f =
            inl (ap recovered (sym (some_is a now f)) ∙ same (omega (arith, is.1)) ∙ is.0 ∙ sym recovers ∙ ap recovered (some_is b before e))
