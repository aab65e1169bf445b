-- The payload of an append or a rebase may be taken with those that are held.
use Rattle.std.proofs.Common.{◌≡◌, ◌<◌, ℕ, Bool, true, false, cond, List, [], ◌∷◌, ◌++◌, length, Option, Some, None, refl, sym, ◌∙◌, ap, arith, length-drop}
use Rattle.std.specs.Prelude.{IfSome}
use Rattle.std.proofs.lemmas.List.{take_all}
use Rattle.cat_frames.specs.CheckpointLaws.{is_whole_checkpoint}
use Rattle.cat_frames.specs.Payload.{has_reading}
use Rattle.cat_keeper.specs.Bases.{base_end}
use Rattle.cat_journal.specs.declared.points.Points.{Points}
use Rattle.cat_journal.specs.Frames.{form_gate, format_by, is_newer, max_entries, payloads, skipped, unread}
use Rattle.cat_journal.specs.Held.{first_payloads, held_count, Holds, IsSafe}
use Rattle.cat_journal.proofs.Unread.{skipped_is, unread_with_base, unread_with_entry}

pub entry_fits : (told : Option (List ℕ)) (x : Points) (p : List ℕ) (images : List ℕ → Type 0) → IfSome told (Holds x) → IfSome told (IsSafe (held_count x) x.end images) → has_reading p ≡ true → length x.gates.items < max_entries
    → IfSome told (λ old. unread (is_newer (form_gate old)) (payloads old ++ p ∷ []) ≡ None)
entry_fits None x p images held safe reading few = tt
entry_fits (Some old) x p images held safe reading few =
    let newer = is_newer (form_gate old) in
    let ps = payloads old in
    let all : first_payloads (held_count x) old ≡ ps = take_all (held_count x) ps (omega (arith, safe.count)) in
    let before : base_end ps ≡ x.before = ap base_end (sym all) ∙ held.before in
    let end : skipped newer ps ≡ x.before = skipped_is newer ps safe.rest.read ∙ before in
    unread_with_entry newer ps p safe.rest.read reading (omega (arith, length-drop (skipped newer ps) ps, safe.count, end, few))

newer_by : (b : Bool) → ◌≡◌ {A = ℕ} (cond b 2 1) 2 → b ≡ true
newer_by true e = refl
newer_by false e = absurd (omega (arith, e))

pub base_fits : (told : Option (List ℕ)) (end format : ℕ) (p : List ℕ) → IfSome told (λ b. format_by (form_gate b) ≡ format) → is_whole_checkpoint p ≡ true → format ≡ 2
    → IfSome told (λ old. unread (is_newer (form_gate old)) (payloads old ++ p ∷ []) ≡ None)
base_fits None end format p formed whole two = tt
base_fits (Some old) end format p formed whole two =
    ap (λ t. unread t (payloads old ++ p ∷ [])) (newer_by (is_newer (form_gate old)) (formed ∙ two)) ∙ unread_with_base (payloads old) p whole
