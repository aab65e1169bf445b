-- What a session on a pass leaves of the store that its desk held.
use Rattle.std.proofs.Common.{◌≡◌, ℕ, List, Option, Some, None, refl, sym, ◌∙◌, ap, subst}
use Rattle.std.specs.Prelude.{option_map}
use Rattle.cat_model.specs.Book.{Book}
use Rattle.cat_model.specs.Mark.{FailedAppend, Mark}
use Rattle.cat_model.specs.Turns.{Opened}
use Rattle.cat_model.specs.Requests.{Journal}
use Rattle.cat_core.specs.Stored.{Stored, faults_at, opened_of}
use Rattle.cat_desk.specs.Pass.{DeskId, mark_of}
use Rattle.cat_desk.specs.declared.pass.Pass.{Pass}
use Rattle.cat_work.specs.Passes.{book_of}
use Rattle.cat_serve.specs.Sessions.{Fallen, Standing, IsAt, seen_failed, seen_fallen}
use Rattle.cat_cli.specs.Stores.{IsLeftSo}

-- the count and the payload of what is seen
counts_failed : (f : Option FailedAppend) → option_map (λ (x : ℕ × List ℕ). x.0) (seen_failed f) ≡ option_map (λ (x : FailedAppend). x.count) f
counts_failed None = refl
counts_failed (Some x) = refl

counts_fallen : (f : Option Fallen) → option_map (λ (x : ℕ × List ℕ). x.0) (seen_fallen f) ≡ option_map (λ (x : Fallen). x.count) f
counts_fallen None = refl
counts_fallen (Some x) = refl

payloads_failed : (f : Option FailedAppend) → option_map (λ (x : ℕ × List ℕ). x.1) (seen_failed f) ≡ option_map (λ (x : FailedAppend). x.payload) f
payloads_failed None = refl
payloads_failed (Some x) = refl

payloads_fallen : (f : Option Fallen) → option_map (λ (x : ℕ × List ℕ). x.1) (seen_fallen f) ≡ option_map (λ (x : Fallen). x.payload) f
payloads_fallen None = refl
payloads_fallen (Some x) = refl

counts : (f : Option FailedAppend) (fallen : Option Fallen) → seen_failed f ≡ seen_fallen fallen → option_map (λ (x : FailedAppend). x.count) f ≡ option_map (λ (x : Fallen). x.count) fallen
counts f fallen is = sym (counts_failed f) ∙ ap (option_map (λ (x : ℕ × List ℕ). x.0)) is ∙ counts_fallen fallen

payloads : (f : Option FailedAppend) (fallen : Option Fallen) → seen_failed f ≡ seen_fallen fallen → option_map (λ (x : FailedAppend). x.payload) f ≡ option_map (λ (x : Fallen). x.payload) fallen
payloads f fallen is = sym (payloads_failed f) ∙ ap (option_map (λ (x : ℕ × List ℕ). x.1)) is ∙ payloads_fallen fallen

not_none : (count : ℕ) → ◌≡◌ {A = Option ℕ} None (Some count) → ⊥
not_none count e = cc

some_is : (a b : ℕ) → ◌≡◌ {A = Option ℕ} (Some a) (Some b) → a ≡ b
some_is a b e = cc

-- what is so of the count of the mark's fault is so of the count at which the keeper is down
pub fallen_at : (P : ℕ → Type 0) (down : Option ℕ) (fault : Option FailedAppend) → down ≡ option_map (λ (x : FailedAppend). x.count) fault → ((x : FailedAppend) → fault ≡ Some x → P x.count)
    → (count : ℕ) → down ≡ Some count → P count
fallen_at P down None is holds count fell = absurd (not_none count (sym is ∙ fell))
fallen_at P down (Some x) is holds count fell = subst P (some_is x.count count (sym is ∙ fell)) (holds x refl)

-- none is told where the keeper isn't down
pub none_told : (down : Option ℕ) (fault : Option FailedAppend) → down ≡ option_map (λ (x : FailedAppend). x.count) fault → down ≡ None → fault ≡ None
none_told down None is up = refl
none_told down (Some x) is up = absurd (not_none x.count (sym up ∙ is))

-- the count of faults is that of the append that failed
pub counted_at : (fault : Option FailedAppend) (faults began : ℕ) (x : FailedAppend) → faults ≡ faults_at began fault → fault ≡ Some x → x.count ≡ faults
counted_at fault faults began x level is = sym (level ∙ ap (λ (f : Option FailedAppend). faults_at began f) is)

-- or where none did, the one at which the store was opened
pub level_at : (fault : Option FailedAppend) (faults began : ℕ) → faults ≡ faults_at began fault → fault ≡ None → faults ≡ began
level_at fault faults began level none = level ∙ ap (λ (f : Option FailedAppend). faults_at began f) none

-- the count of faults at which the store was opened is as it was
pub began_on : {K : Type 0} (old new : Stored K) (opened : Opened) → opened ≡ opened_of old → opened_of new ≡ opened → new.opened.faults ≡ old.opened.faults
began_on old new opened was is = ap (λ (x : Opened). x.faults) (is ∙ was)

pub left_so : {K : Type 0} (down : K → Option ℕ) (in_flight : K → Option (List ℕ)) (desk : DeskId) (last : Standing) (pass : Pass) (old store : Stored K)
    → IsAt desk last pass → opened_of store ≡ opened_of old → store.book ≡ book_of desk pass → store.mark ≡ mark_of pass
    → down store.keeper ≡ option_map (λ (x : FailedAppend). x.count) store.mark.fault → in_flight store.keeper ≡ option_map (λ (x : FailedAppend). x.payload) store.mark.fault
    → IsLeftSo down in_flight last old store
left_so down in_flight desk last pass old store at stays book mark fallen flies =
    let seen : seen_failed store.mark.fault ≡ seen_fallen last.fallen = ap (λ (x : Mark). seen_failed x.fault) mark ∙ at.fault_is in
    record {
      log_is = ap (λ (x : Book). x.log) (book ∙ at.book_is);
      opened_is = stays;
      base_is = ap (λ (m : Mark). m.base) mark ∙ ap (λ (j : Journal). j.base) at.journal_is;
      bases_is = ap (λ (m : Mark). m.bases) mark ∙ ap (λ (j : Journal). j.bases) at.journal_is;
      down_is = fallen ∙ counts store.mark.fault last.fallen seen;
      flies = flies ∙ payloads store.mark.fault last.fallen seen;
    }
