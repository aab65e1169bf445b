-- What is written of an entry is read again.
use Rattle.std.proofs.Common.{◌≡◌, Ok, refl, ap, ◌∙◌}
use Rattle.std.specs.Prelude.{IsTrue}
use Rattle.sha2.specs.Sha256.{sha256}
use Rattle.cat_codes.specs.Code.{whole}
use Rattle.cat_codes.specs.FieldLaws.{whole_again}
use Rattle.cat_model.specs.declared.log_entry.LogEntry.{LogEntry}
use Rattle.cat_frames.specs.Entries.{log_entry_code, of_nobody}
use Rattle.cat_frames.specs.EntryLaws.{log_entry_is}
use Rattle.cat_frames.specs.Payload.{has_reading, spelling_has_reading}

-- the caller has no part in the spelling
pub spelled_as_of_nobody : (e : LogEntry) → (log_entry_code sha256).spell e ≡ (log_entry_code sha256).spell (of_nobody e)
unfolding log_entry_code
spelled_as_of_nobody e = refl

pub reads_again : (e : LogEntry) → (log_entry_code sha256).Fits (of_nobody e) → IsTrue (has_reading ((log_entry_code sha256).spell e))
reads_again e fits = ap has_reading (spelled_as_of_nobody e) ∙ spelling_has_reading (of_nobody e) fits

pub told_again : (e : LogEntry) → (log_entry_code sha256).Fits (of_nobody e) → whole (log_entry_code sha256) ((log_entry_code sha256).spell e) ≡ Ok (of_nobody e)
told_again e fits = ap (whole (log_entry_code sha256)) (spelled_as_of_nobody e) ∙ whole_again (log_entry_code sha256) (log_entry_is sha256) (of_nobody e) fits
