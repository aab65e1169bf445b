-- The two steps, where the disk may tell its bytes.
use Rattle.std.proofs.Common.{◌≡◌, ◌<◌, ◌+◌, ◌^◌, ℕ, List, [], ◌∷◌, ◌++◌, length, Result, Ok, Err, Option, Some, None, sym, ◌∙◌, ap, subst}
use Rattle.std.specs.Prelude.{IfSome, OnOk}
use Rattle.cat_io.specs.Crashes.{put, Torn, Told, Only}
use Rattle.cat_journal.specs.Frames.{form_gate, is_newer, payloads, payloads_in, frame, framed_at, unread, IsAtRest, MayHoldOneMore}
use Rattle.cat_journal.specs.AtRest.{gate_of_front}
use Rattle.cat_journal.proofs.Steps.{at_rest_behind, before_at_rest, IsStaged, staged, opening, added}

pub first_images : (told : Option (List ℕ)) (gate : ℕ) (p : List ℕ) (n : ℕ) (old : List ℕ → Type 0)
    → IfSome told (λ bytes. IsAtRest (form_gate bytes) (payloads bytes) gate bytes) → Only told old
    → (c : List ℕ) → ((d : List ℕ) × old d × Torn (gate + 1) n d c) → IfSome told (λ bytes. MayHoldOneMore (form_gate bytes) (payloads bytes) gate p c)
first_images None gate p n old rest only c from = tt
first_images (Some bytes) gate p n old rest only c from =
    before_at_rest (form_gate bytes) (payloads bytes) gate p c (at_rest_behind (form_gate bytes) (payloads bytes) gate n bytes c rest (subst (λ d. Torn (gate + 1) n d c) (only from.0 from.1) from.2))

stage_of : (gate : ℕ) (p piece before mid : List ℕ) → IsAtRest (form_gate before) (payloads before) gate before → piece ≡ frame p ++ 0 ∷ [] → mid ≡ put (gate + 1) piece before → IsStaged (form_gate before) (payloads before) gate p mid
stage_of gate p piece before mid rest is written = staged (form_gate before) (payloads before) gate p before mid rest (written ∙ ap (λ (l : List ℕ). put (gate + 1) l before) is)

pub second_images : (told mid : Option (List ℕ)) (gate : ℕ) (p piece : List ℕ) (old : List ℕ → Type 0)
    → IfSome told (λ bytes. IsAtRest (form_gate bytes) (payloads bytes) gate bytes) → IfSome told (λ bytes. unread (is_newer (form_gate bytes)) (payloads bytes ++ p ∷ []) ≡ None)
    → length p < 2 ^ 32 → piece ≡ frame p ++ 0 ∷ []
    → Told told mid (λ before after. after ≡ put (gate + 1) piece before) → Only mid old
    → (c : List ℕ) → ((d : List ℕ) × old d × Torn gate 1 d c) → IfSome told (λ bytes. MayHoldOneMore (form_gate bytes) (payloads bytes) gate p c)
second_images None mid gate p piece old rest fits short is written only c from = tt
second_images (Some bytes) None gate p piece old rest fits short is written only c from = absurd written
second_images (Some bytes) (Some after) gate p piece old rest fits short is written only c from =
    opening (form_gate bytes) (payloads bytes) gate p fits short after c (stage_of gate p piece bytes after rest is written) (subst (λ d. Torn gate 1 d c) (only from.0 from.1) from.2)

add : (gate : ℕ) (p piece before mid after : List ℕ) → IsAtRest (form_gate before) (payloads before) gate before → unread (is_newer (form_gate before)) (payloads before ++ p ∷ []) ≡ None
    → length p < 2 ^ 32 → piece ≡ frame p ++ 0 ∷ []
    → mid ≡ put (gate + 1) piece before → after ≡ put gate (1 ∷ []) mid
    → (payloads after ≡ payloads before ++ p ∷ []) × (form_gate after ≡ form_gate before) × IsAtRest (form_gate after) (payloads after) (gate + 5 + length p) after
add gate p piece before mid after rest fits short is one two =
    let both = added (form_gate before) (payloads before) gate p fits short mid after (stage_of gate p piece before mid rest is one) two in
    let same : payloads after ≡ payloads before ++ p ∷ [] = ap payloads_in both.0 in
    let form : form_gate after ≡ form_gate before = gate_of_front (form_gate before) (payloads before ++ p ∷ []) (gate + 5 + length p) after both.1.front both.1.size in
    (same, form, subst (λ ps. IsAtRest (form_gate after) ps (gate + 5 + length p) after) (sym same) (subst (λ k. IsAtRest k (payloads before ++ p ∷ []) (gate + 5 + length p) after) (sym form) both.1))

pub done : {T E : Type 0} (told mid new : Option (List ℕ)) (gate : ℕ) (p piece : List ℕ) (r : Result T E)
    → IfSome told (λ bytes. IsAtRest (form_gate bytes) (payloads bytes) gate bytes) → IfSome told (λ bytes. unread (is_newer (form_gate bytes)) (payloads bytes ++ p ∷ []) ≡ None)
    → length p < 2 ^ 32 → piece ≡ frame p ++ 0 ∷ []
    → Told told mid (λ before after. after ≡ put (gate + 1) piece before) → OnOk r (Told mid new (λ before after. after ≡ put gate (1 ∷ []) before))
    → OnOk r (Told told new (λ before after. (payloads after ≡ payloads before ++ p ∷ []) × (form_gate after ≡ form_gate before) × IsAtRest (form_gate after) (payloads after) (gate + 5 + length p) after))
done told mid new gate p piece (Err e) rest fits short is one two = tt
done None None None gate p piece (Ok u) rest fits short is one two = tt
done None None (Some after) gate p piece (Ok u) rest fits short is one two = absurd two
done None (Some middle) new gate p piece (Ok u) rest fits short is one two = absurd one
done (Some before) None new gate p piece (Ok u) rest fits short is one two = absurd one
done (Some before) (Some middle) None gate p piece (Ok u) rest fits short is one two = absurd two
done (Some before) (Some middle) (Some after) gate p piece (Ok u) rest fits short is one two = add gate p piece before middle after rest fits short is one two

pub two_writes : {T E : Type 0} (told mid new : Option (List ℕ)) (gate : ℕ) (p piece : List ℕ) (r : Result T E) → piece ≡ frame p ++ 0 ∷ []
    → Told told mid (λ before after. after ≡ put (gate + 1) piece before) → OnOk r (Told mid new (λ before after. after ≡ put gate (1 ∷ []) before))
    → OnOk r (Told told new (λ before after. after ≡ framed_at gate p before))
two_writes told mid new gate p piece (Err e) is one two = tt
two_writes None None None gate p piece (Ok u) is one two = tt
two_writes None None (Some after) gate p piece (Ok u) is one two = absurd two
two_writes None (Some middle) new gate p piece (Ok u) is one two = absurd one
two_writes (Some before) None new gate p piece (Ok u) is one two = absurd one
two_writes (Some before) (Some middle) None gate p piece (Ok u) is one two = absurd two
two_writes (Some before) (Some middle) (Some after) gate p piece (Ok u) is one two =
    two ∙ ap (λ (l : List ℕ). put gate (1 ∷ []) l) (one ∙ ap (λ (l : List ℕ). put (gate + 1) l before) is)
