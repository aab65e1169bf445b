-- What a crash leaves of the journal at a run's path, by the disk that stood there.
use Rattle.std.proofs.Common.{◌≡◌, ◌⊎◌, ℕ, List, Option, Some, None, sym, ◌∙◌, ap, subst, inl, inr, ⊎_elim}
use Rattle.std.specs.Prelude.{◌↔◌, IfSome}
use Rattle.cat_io.specs.Places.{IsHanded, stood, taken}
use Rattle.cat_journal.specs.Frames.{recovered}
use Rattle.cat_cli.specs.Journals.{TellsAs, told_at}
use Rattle.cat_cli.specs.Surviving.{AreKept, EndsSo, Grown, Images, IsEarlier, IsOnTheWay, Spared, StandsAs, Survives, images_at, images_of}

-- what is said of the moments of a disk is said of one that is the same
moved : (t t' left : Option (List ℕ)) (before before' since since' : List ℕ → Type 0) (Q : List ℕ → List ℕ → Type 0) → t' ≡ t → ((c : List ℕ) → before c → before' c) → ((c : List ℕ) → since' c → since c)
    → IfSome t (λ bytes. IfSome left (λ now. (c : List ℕ) → since c → IsEarlier before t c ⊎ Q bytes c))
    → IfSome t' (λ bytes. IfSome left (λ now. (c : List ℕ) → since' c → IsEarlier before' t' c ⊎ Q bytes c))
moved t t' left before before' since since' Q same earlier later h =
    subst (λ (x : Option (List ℕ)). IfSome x (λ bytes. IfSome left (λ now. (c : List ℕ) → since' c → IsEarlier before' x c ⊎ Q bytes c))) (sym same) (mapped t left h)
  where
    mapped : (x l : Option (List ℕ)) → IfSome x (λ bytes. IfSome l (λ now. (c : List ℕ) → since c → IsEarlier before x c ⊎ Q bytes c)) → IfSome x (λ bytes. IfSome l (λ now. (c : List ℕ) → since' c → IsEarlier before' x c ⊎ Q bytes c))
    mapped None l k = tt
    mapped (Some bytes) None k = tt
    mapped (Some bytes) (Some now) k = λ c there. ⊎_elim (λ was. inl (⊎_elim (λ e. inl (earlier c e)) (λ few. inr few) was)) (λ q. inr q) (k c (later c there))

-- what is left at the end is said of a journal that told the same
as_told : (journal other left : Option (List ℕ)) (a b : Images) (g : Grown) → other ≡ journal → ((c : List ℕ) → b.after c → a.after c) → IfSome left (EndsSo journal a g) → IfSome left (EndsSo other b g)
as_told journal other None a b g same after ends = tt
as_told journal other (Some bytes) a b g same after ends = record {
  payloads = ends.payloads;
  are = subst (λ (j : Option (List ℕ)). AreKept j g ends.payloads) (sym same) ends.are;
  flown = ends.flown;
  holds = ends.holds;
  ends = λ c there. ends.ends c (after c there);
}

module _ {D : Type 0} (told : D → Option (List ℕ)) (may_leave : D → List ℕ → Type 0) (moment : D → ℕ) (left_since : D → ℕ → List ℕ → Type 0) where
  none_stands : (disk : D) → ◌≡◌ {A = Option D} None (Some disk) → ⊥
  none_stands disk e = cc

  stood_is : (a b : D) → ◌≡◌ {A = Option D} (Some a) (Some b) → a ≡ b
  stood_is a b e = cc

  -- a disk that was handed out is the one that stood at its path, but for its count
  pub stands_as : (handed : D → D) → ((d : D) → told (handed d) ≡ told d) → ((d : D) (c : List ℕ) → may_leave (handed d) c ↔ may_leave d c) → ((d : D) → moment (handed d) ≡ moment d)
      → (place : Option (Option D)) (disk : D) → IfSome place (IsHanded handed disk) → StandsAs told may_leave moment place disk
  stands_as handed tells leaves moments None disk is = tt
  stands_as handed tells leaves moments (Some None) disk is = absurd (none_stands is.0 is.1)
  stands_as handed tells leaves moments (Some (Some d)) disk is =
      let e : d ≡ is.0 = stood_is d is.0 is.1 in
      record {
        tells = ap told e ∙ sym (tells is.0) ∙ ap told (sym is.2);
        leaves = λ c left. subst (λ x. may_leave x c) (sym e) ((leaves is.0 c).0 (subst (λ x. may_leave x c) is.2 left));
        moment_is = ap moment e ∙ sym (moments is.0) ∙ ap moment (sym is.2);
      }

  pub tells_of : (place : Option (Option D)) (disk : D) → StandsAs told may_leave moment place disk → TellsAs told place disk
  tells_of None disk is = tt
  tells_of (Some None) disk is = absurd is
  tells_of (Some (Some d)) disk is = is.tells

  pub survives_at : (place : Option (Option D)) (disk again : D) (g : Grown) → StandsAs told may_leave moment place disk → Survives (told disk) (told again) (images_of may_leave moment left_since disk again) g
      → Survives (told_at told place) (told_at told (stood again (taken place))) (images_at may_leave moment left_since place (stood again (taken place))) g
  survives_at None disk again g is s = record { at_the_end = tt; at_any_moment = tt }
  survives_at (Some None) disk again g is s = absurd is
  survives_at (Some (Some d)) disk again g is s = record {
    at_the_end = as_told (told disk) (told d) (told again) (images_of may_leave moment left_since disk again) (images_of may_leave moment left_since d again) g is.tells (λ c there. there) s.at_the_end;
    at_any_moment =
        moved (told disk) (told d) (told again) (may_leave disk) (may_leave d) (left_since again (moment disk)) (left_since again (moment d)) (λ bytes c. IsOnTheWay g c)
        is.tells is.leaves (λ c there. subst (λ (t : ℕ). left_since again t c) is.moment_is there) s.at_any_moment;
  }

  -- what is left at the end of a run that adds nothing
  pub ended_at : (place : Option (Option D)) (disk again : D) → StandsAs told may_leave moment place disk → IfSome (told again) (λ bytes. (c : List ℕ) → may_leave again c → c ≡ bytes)
      → IfSome (told_at told (stood again (taken place))) (λ bytes. (c : List ℕ) → (images_at may_leave moment left_since place (stood again (taken place))).after c → c ≡ bytes)
  ended_at None disk again is ends = tt
  ended_at (Some None) disk again is ends = absurd is
  ended_at (Some (Some d)) disk again is ends = ends

  pub spared_at : (place : Option (Option D)) (disk again : D) → StandsAs told may_leave moment place disk → Spared (told disk) (told again) (images_of may_leave moment left_since disk again)
      → Spared (told_at told place) (told_at told (stood again (taken place))) (images_at may_leave moment left_since place (stood again (taken place)))
  spared_at None disk again is s = tt
  spared_at (Some None) disk again is s = absurd is
  spared_at (Some (Some d)) disk again is s =
      moved (told disk) (told d) (told again) (may_leave disk) (may_leave d) (left_since again (moment disk)) (left_since again (moment d)) (λ bytes c. recovered c ≡ recovered bytes)
      is.tells is.leaves (λ c there. subst (λ (t : ℕ). left_since again t c) is.moment_is there) s

  -- no disk was opened
  pub spared_untouched : ((d : D) (c : List ℕ) → left_since d (moment d) c → may_leave d c) → (place : Option (Option D)) → Spared (told_at told place) (told_at told place) (images_at may_leave moment left_since place place)
  spared_untouched only_now None = tt
  spared_untouched only_now (Some None) = tt
  spared_untouched only_now (Some (Some disk)) = untouched (told disk)
    where
      untouched : (t : Option (List ℕ)) → Spared t t (images_of may_leave moment left_since disk disk)
      untouched None = tt
      untouched (Some bytes) = λ c there. inl (inl (only_now disk c there))
