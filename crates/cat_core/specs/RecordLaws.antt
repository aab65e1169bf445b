-- What payloads stand for at the end of a log, and where no base was made since it was opened.
use Rattle.std.proofs.Common.{◌≡◌, ℕ, ◌+◌, List, [], ◌∷◌, ◌++◌, drop, length, take, Option, Some, None, sym, ap, subst, ◌∙◌, le_refl, arith}
use Rattle.std.proofs.Math.Seq.{take-length}
use Rattle.std.proofs.lemmas.List.{length-take-le, map-append, take-append-drop}
use Rattle.sha2.specs.Sha256.{sha256}
use Rattle.cat_checks.specs.Histories.{IsLegalFrom, begun}
use Rattle.cat_checks.specs.HistoryLaws.{begins_legal, place_is}
use Rattle.cat_frames.specs.declared.checkpoint.Checkpoint.{Checkpoint}
use Rattle.cat_frames.specs.Bases.{by_reading, checkpoint_of, draft_of, from_checkpoint, opened_by}
use Rattle.cat_keeper.specs.Bases.{base_count, base_of, base_with_entries, entries_of, entries_with_entries}
use Rattle.cat_model.specs.declared.limits.Limits.{Limits}
use Rattle.cat_model.specs.declared.log_entry.LogEntry.{LogEntry}
use Rattle.cat_model.specs.Turns.{Opened}
use Rattle.cat_state.specs.Kept.{spelling, spellings}
use Rattle.cat_core.specs.Records.{IsBaseAt, StandFor, StandThrough, state_at}

-- they stand for all of it
pub stands_now : (o : Opened) (log : List LogEntry) (ps : List (List ℕ)) → StandThrough o log ps → StandFor o log ps
stands_now o log ps through =
    let is = through.each (length ps) through.many (le_refl (length ps)) in
    subst (λ (l : List LogEntry). StandFor o l ps) (ap (λ (n : ℕ). take n log) through.end ∙ take-length log) (subst (StandFor o (take (through.reach (length ps)) log)) (take-length ps) is)

-- a front of a legal log is legal
pub legal_front : (o : Opened) (log : List LogEntry) (n : ℕ) → IsLegalFrom o log → IsLegalFrom o (take n log)
legal_front o log n legal = begins_legal o (take n log) (drop n log) (subst (IsLegalFrom o) (sym (take-append-drop n log)) legal)

-- the base that a log was opened from is of its start
pub starts_there : (o : Opened) (limits : Limits) (front : List LogEntry) (base : Option (List ℕ)) → IsLegalFrom o front → IsBaseAt o front base → opened_by limits o.payloads o.faults base ≡ Some o → length front ≡ 0
starts_there o limits front None legal based opened = ap length based.0
starts_there o limits front (Some base) legal based opened =
    let c : Checkpoint = checkpoint_of (state_at o front) (draft_of o front) based.0 in
    let reads : opened_by limits o.payloads o.faults (Some base) ≡ Some (from_checkpoint limits o.payloads o.faults c) = ap (by_reading limits o.payloads o.faults) based.1.reads in
    let same : from_checkpoint limits o.payloads o.faults c ≡ o = let both : Some (from_checkpoint limits o.payloads o.faults c) ≡ Some o = sym reads ∙ opened in cc in
    let here : (state_at o front).place ≡ o.state.place = ap (λ (x : Opened). x.state.place) same in
    let there : (state_at o front).place ≡ o.state.place + length front = place_is sha256 (begun o) front legal.legal in
    omega (arith, here, there)

-- what goes on alike from one list is the same
same_behind : {A : Type 0} (xs ys zs : List A) → xs ++ ys ≡ xs ++ zs → ys ≡ zs
same_behind [] ys zs is = is
same_behind (x ∷ xs) ys zs is = let rest : xs ++ ys ≡ xs ++ zs = cc in same_behind xs ys zs rest

-- payloads behind those from which a log was opened, none of which is a base, are its entries
pub goes_plain : (o : Opened) (limits : Limits) (log more : List LogEntry) (had rest : List (List ℕ)) → IsLegalFrom o (log ++ more) → opened_by limits o.payloads o.faults (base_of had) ≡ Some o → entries_of had ≡ spellings log → base_count rest ≡ 0 → StandFor o (log ++ more) (had ++ rest)
    → rest ≡ spellings more
goes_plain o limits log more had rest legal opened entries none stand =
    let base : base_of (had ++ rest) ≡ base_of had = base_with_entries had rest none in
    let first : length (take stand.count (log ++ more)) ≡ 0 =
    starts_there o limits (take stand.count (log ++ more)) (base_of had) (legal_front o (log ++ more) stand.count legal) (subst (IsBaseAt o (take stand.count (log ++ more))) base stand.base) opened in
    let start : stand.count ≡ 0 = omega (arith, first, length-take-le stand.count (log ++ more) stand.within) in
    let all : entries_of had ++ rest ≡ spellings (log ++ more) = sym (entries_with_entries had rest none) ∙ stand.entries ∙ ap (λ (n : ℕ). spellings (drop n (log ++ more))) start in
    same_behind (spellings log) rest (spellings more) (ap (λ (l : List (List ℕ)). l ++ rest) (sym entries) ∙ all ∙ map-append spelling log more)
