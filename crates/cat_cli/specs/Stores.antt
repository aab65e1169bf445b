-- A session on a store, which a desk holds meanwhile.
use Rattle.std.specs.Prelude.{ℕ, ◌≡◌, List, Option, Some, option_map}
use Rattle.cat_core.specs.Stored.{Stored, opened_of}
use Rattle.cat_serve.specs.declared.ending.Session.{Session as End}
use Rattle.cat_cli.specs.Runs.{start}
use Rattle.cat_serve.specs.Sessions.{AreAhead, Readings, ReadsOn, Fallen, Standing, Ends, journal_by}

-- what a session left of a store: the log of its last standing, what the log started from, the place of the last checkpoint and how many there are, and a keeper that is down where an append or a checkpoint failed, whose payload is in flight
pub record IsLeftSo {K : Type 0} (down : K → Option ℕ) (in_flight : K → Option (List ℕ)) (last : Standing) (old store : Stored K) : Type 0 where
  pub log_is : store.book.log ≡ last.session.book.log
  pub opened_is : opened_of store ≡ opened_of old
  pub base_is : store.mark.base ≡ last.session.journal.base
  pub bases_is : store.mark.bases ≡ last.session.journal.bases
  pub down_is : down store.keeper ≡ option_map (λ (f : Fallen). f.count) last.fallen
  pub flies : in_flight store.keeper ≡ option_map (λ (f : Fallen). f.payload) last.fallen

-- a session on a store ended so by some readings, the clock's own where it tells them, where the source and the sink tell what they have
abbrev pub RunsKnown : {K : Type 0} → (K → Option ℕ) → (K → Option (List ℕ)) → Stored K → Option Readings → Option (List ℕ) → Option (List ℕ) → Option (List ℕ) → End → Stored K → Option Readings → Option (List ℕ) → Type 0
RunsKnown down in_flight store ahead bytes unread held end store' now after =
    (b w : List ℕ) → bytes ≡ Some b → held ≡ Some w
    → (clock : Readings) × AreAhead ahead clock
    × (h : List ℕ) × (after ≡ Some h) × (last : Standing) × Ends clock (start (journal_by (opened_of store) store.mark) store.book b w) end h last unread × IsLeftSo down in_flight last store store' × ReadsOn ahead now last.session.readings
