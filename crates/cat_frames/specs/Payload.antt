-- Which bytes are log entries.
use Rattle.std.proofs.Common.{◌≡◌, ℕ, ◌<◌, Bool, true, List, [], ◌∷◌, length, ap, arith}
use Rattle.std.specs.Prelude.{is_ok}
use Rattle.sha2.specs.Sha256.{sha256}
use Rattle.cat_codes.specs.Code.{whole, u8_at}
use Rattle.cat_codes.specs.FieldLaws.{whole_again}
use Rattle.cat_model.specs.declared.log_entry.LogEntry.{LogEntry}
use Rattle.cat_frames.specs.Entries.{log_entry_code}
use Rattle.cat_frames.specs.EntryLaws.{log_entry_is}

-- the bytes are an entry's, all of them
unfoldable pub has_reading : List ℕ → Bool
has_reading bytes = is_ok (whole (log_entry_code sha256) bytes)

pub reading_is_not_empty : (bytes : List ℕ) → has_reading bytes ≡ true → 0 < length bytes
unfolding has_reading whole log_entry_code u8_at
reading_is_not_empty [] e = absurd cc
reading_is_not_empty (b ∷ bytes) e = omega arith

-- what is spelled is read
pub spelling_has_reading : (e : LogEntry) → (log_entry_code sha256).Fits e → has_reading ((log_entry_code sha256).spell e) ≡ true
unfolding has_reading
spelling_has_reading e fits = ap is_ok (whole_again (log_entry_code sha256) (log_entry_is sha256) e fits)
