-- Bytes that wait behind those that were written.
use Rattle.std.proofs.Common.{◌≡◌, ℕ, List, [], ◌++◌, sym, ap, ◌∙◌, refl, subst, false, true}
use Rattle.std.specs.Prelude.{Option, Result, Ok, Err, is_err}
use Rattle.std.proofs.lemmas.List.{append-nil}
use Rattle.cat_http.specs.Gathering.{HasWritten}
use Rattle.cat_http.specs.Writing.{Wrote}
use Rattle.cat_http.proofs.PutLemmas.{wrote_then, wrote_stopped}

differ : false ≡ true → ⊥
differ h = cc

-- nothing follows what failed
pub none_follow : {T E : Type 0} (start held : Option (List ℕ)) (from faults : ℕ) (r : Result T E) (waiting piece all : List ℕ) → is_err r ≡ true
    → HasWritten start held from faults r waiting all → HasWritten start held from faults r waiting (all ++ piece)
none_follow start held from faults (Ok u) waiting piece all failed before = absurd (differ failed)
none_follow start held from faults (Err e) waiting piece all failed before =
    (before.0, wrote_stopped start held from faults (Err e) (Err e) e all piece refl refl before.1)

-- once all was written, or a write failed, nothing waits
pub none_wait : {T E : Type 0} (start held : Option (List ℕ)) (from faults : ℕ) (r : Result T E) (all : List ℕ) → Wrote start held from faults r all → HasWritten start held from faults r [] all
none_wait start held from faults (Ok u) all w = (all, sym (append-nil all), w)
none_wait start held from faults (Err e) all w = (refl, w)

-- what waits is written behind what was
pub all_written : {T E : Type 0} (start held now : Option (List ℕ)) (from faults later : ℕ) (r s : Result T E) (waiting all : List ℕ) → is_err r ≡ false
    → HasWritten start held from faults r waiting all → Wrote held now faults later s waiting → Wrote start now from later s all
all_written start held now from faults later (Ok u) s waiting all went before write =
    subst (λ l. Wrote start now from later s l) (sym before.1)
    (wrote_then start held now from faults later (Ok u) s u before.0 waiting refl before.2 write)
all_written start held now from faults later (Err e) s waiting all went before write = absurd (differ (sym went))

-- what waits is written last, where no write failed
pub last_written : {T E : Type 0} (start held now : Option (List ℕ)) (from faults later : ℕ) (r s : Result T E) (waiting all : List ℕ)
    → HasWritten start held from faults r waiting all
    → ((written : List ℕ) → Wrote start held from faults r written → Wrote start now from later s (written ++ waiting))
    → Wrote start now from later s all
last_written start held now from faults later (Ok u) s waiting all before write =
    subst (λ l. Wrote start now from later s l) (sym before.1) (write before.0 before.2)
last_written start held now from faults later (Err e) s waiting all before write =
    subst (λ l. Wrote start now from later s l) (ap (λ l. all ++ l) before.0 ∙ append-nil all) (write all before.1)
