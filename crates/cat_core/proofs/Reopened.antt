-- The book of payloads that are executed again is sound.
use Rattle.std.proofs.Common.{◌≡◌, ℕ, ◌+◌, List, [], ◌∷◌, Option, Some, None, Result, Ok, Err, Bool, true, false, if◌then◌else◌, refl, sym, subst}
use Rattle.sha2.specs.Sha256.{sha256}
use Rattle.cat_checks.specs.HistoryLaws.{first_upholds}
use Rattle.cat_checks.specs.Histories.{begun}
use Rattle.cat_checks.specs.Legal.{draft_may_come, is_legal, next_book, next_from, read_next, replayed, replayed_call}
use Rattle.cat_checks.specs.Upheld.{Upholds}
use Rattle.cat_codes.specs.declared.fault.FieldFault.{FieldFault}
use Rattle.cat_codes.specs.Code.{whole}
use Rattle.cat_frames.specs.Bases.{from_nothing}
use Rattle.cat_frames.specs.Entries.{log_entry_code}
use Rattle.cat_keeper.specs.Bases.{entries_of}
use Rattle.cat_model.specs.declared.limits.Limits.{Limits}
use Rattle.cat_model.specs.declared.log_entry.LogEntry.{LogEntry}
use Rattle.cat_model.specs.Book.{Book, after_call, first_book}
use Rattle.cat_model.specs.Turns.{Opened}
use Rattle.cat_core.specs.Opening.{IsLedTo}
use Rattle.cat_core.specs.declared.tickets.Start.{Start}
use Rattle.cat_core.specs.Stored.{IsSound, opened_held}
use Rattle.cat_core.proofs.Replaying.{here_is, led_by}
use Rattle.cat_core.proofs.Sound.{IsReopened, reopened_first, reopened_on, sound_reopened}

chosen_by : (b : Bool) (x : Option Book) (next : Book) → (if b then x else None) ≡ Some next → (b ≡ true) × (x ≡ Some next)
chosen_by true x next is = (refl, is)
chosen_by false x next is = absurd cc

legal_by : (b : Bool) (x next : Book) → (if b then Some x else None) ≡ Some next → (b ≡ true) × (x ≡ next)
legal_by true x next is = (refl, let same : x ≡ next = cc in same)
legal_by false x next is = absurd cc

-- the entry that led a book on was legal there, and its draft may come
next_legal : (o : Opened) (book next : Book) (reading : Result LogEntry FieldFault) → read_next sha256 o book reading ≡ Some next → (e : LogEntry) × (is_legal sha256 book e ≡ true) × (draft_may_come o e.draft ≡ true) × (after_call book (replayed_call sha256 book e) ≡ next)
unfolding next_from next_book
next_legal o book next (Err fault) is = absurd cc
next_legal o book next (Ok e) is =
    let comes = chosen_by (draft_may_come o e.draft) (next_book sha256 book e) next is in
    let both = legal_by (is_legal sha256 book e) (after_call book (replayed_call sha256 book e)) next comes.1 in (e, both.0, comes.0, both.1)

module _ (o : Opened) where
  next_reopened : (book next : Book) (payload : List ℕ) → IsReopened o book → read_next sha256 o book (whole (log_entry_code sha256) payload) ≡ Some next → IsReopened o next
  next_reopened book next payload is leads =
      let one = next_legal o book next (whole (log_entry_code sha256) payload) leads in
      subst (IsReopened o) one.3 (reopened_on o book one.0 is one.1 one.2)

  replayed_reopened : (book after : Book) (place : ℕ) (ps : List (List ℕ)) → IsReopened o book → replayed sha256 o book place ps ≡ Ok after → IsReopened o after
  replayed_reopened book after place [] is e = subst (IsReopened o) (here_is book after (Ok book) refl e) is
  replayed_reopened book after place (p ∷ ps) is e =
      let one = led_by (read_next sha256 o book (whole (log_entry_code sha256) p)) (place + 1) (λ b. replayed sha256 o b (place + 1) ps) after e in
      replayed_reopened one.0 after (place + 1) ps (next_reopened book one.0 p is one.1) one.2

pub sound_first : (o : Opened) → Upholds sha256 o.state → IsSound o (begun o) []
sound_first o starts = sound_reopened o (begun o) (reopened_first o starts)

-- that of the empty catalogue
sound_empty : (limits : Limits) (payloads faults : ℕ) → IsSound (from_nothing limits payloads faults) (first_book sha256 limits) []
sound_empty limits payloads faults = sound_first (from_nothing limits payloads faults) (first_upholds sha256 limits)

pub sound_new : (limits : Limits) (payloads faults : ℕ) (book : Book) (start : Start) → book ≡ first_book sha256 limits → start ≡ record { draft = 0; drafts = []; payloads = payloads; faults = faults } → IsSound (opened_held book.base start) book []
sound_new limits payloads faults book start first empty =
    subst (λ (b : Book). IsSound (opened_held b.base start) b []) (sym first)
    (subst (λ (s : Start). IsSound (opened_held (first_book sha256 limits).base s) (first_book sha256 limits) []) (sym empty) (sound_empty limits payloads faults))

pub sound_led : (told : Option (List (List ℕ))) (kept : ℕ) (limits : Limits) (o : Opened) (book : Book) → IsLedTo told kept limits o book → IsSound o book []
sound_led told kept limits o book led =
    sound_reopened o book (replayed_reopened o (begun o) book o.state.place (entries_of led.payloads) (reopened_first o led.upheld) led.led)
