-- The laws of a keeper, from what a journal knows of its disk.
use Rattle.std.specs.Prelude.{◌≡◌, ℕ, List, length, Option, Some, None, IfSome}
use Rattle.std.proofs.Common.{refl, sym, ◌∙◌, ap, subst, arith, length-drop}
use Rattle.std.specs.Option.{option_map}
use Rattle.std.proofs.lemmas.List.{take_all}
use Rattle.cat_keeper.specs.Bases.{base_end, entries_of, first_of}
use Rattle.cat_keeper.specs.KeeperLaws.{told_is}
use Rattle.cat_keeper.specs.Keeping.{WithOrWithout}
use Rattle.cat_journal.specs.declared.points.Points.{Points}
use Rattle.cat_journal.specs.Frames.{form_gate, payloads, MayHoldOneMore}
use Rattle.cat_journal.specs.Held.{first_payloads, held_count, Holds, IsSafe, IsTorn, outcome, outcome_of}
use Rattle.cat_journal.specs.AtRest.{recovered-at_rest}
use Rattle.cat_journal.specs.OneMore.{with_or_without}

pub safe_images : (told : Option (List ℕ)) (n gate : ℕ) (images : List ℕ → Type 0) → IfSome told (IsSafe n gate images)
    → (ps : List (List ℕ)) → option_map (first_payloads n) told ≡ Some ps
    → (r : Option (List (List ℕ))) → ((c : List ℕ) × images c × (outcome c ≡ r)) → r ≡ Some ps
safe_images None n gate images safe ps is r now = absurd cc
safe_images (Some bytes) n gate images safe ps is r now =
    let all : payloads bytes ≡ ps = sym (take_all n (payloads bytes) (omega (arith, safe.count))) ∙ told_is (first_payloads n bytes) ps is in
    sym now.2 ∙ ap outcome (safe.only now.0 now.1) ∙ ap outcome_of (recovered-at_rest (form_gate bytes) (payloads bytes) gate bytes safe.rest) ∙ ap (λ (l : List (List ℕ)). Some l) all

pub kept_image : (told : Option (List ℕ)) (n gate : ℕ) (images : List ℕ → Type 0) → ((c : List ℕ) → told ≡ Some c → images c) → IfSome told (IsSafe n gate images)
    → (ps : List (List ℕ)) → option_map (first_payloads n) told ≡ Some ps → (c : List ℕ) × images c × (outcome c ≡ Some ps)
kept_image None n gate images image safe ps is = absurd cc
kept_image (Some bytes) n gate images image safe ps is =
    let here = image bytes refl in
    (bytes, here, safe_images (Some bytes) n gate images safe ps is (outcome bytes) (bytes, here, refl))

-- what bytes that may hold the payload of a failed append recover to
pub torn_outcome : (x : Points) (p : List ℕ) (images : List ℕ → Type 0) (bytes : List ℕ) → Holds x bytes → IsTorn (held_count x) x.end p images bytes
    → (c : List ℕ) → MayHoldOneMore (form_gate bytes) (first_payloads (held_count x) bytes) x.end p c → WithOrWithout (first_payloads (held_count x) bytes) p (outcome c)
torn_outcome x p images bytes held torn c may =
    with_or_without (form_gate bytes) (first_payloads (held_count x) bytes) x.end p held.size held.framed held.read torn.fits torn.short c may

pub torn_images : (told : Option (List ℕ)) (x : Points) (p : List ℕ) (images : List ℕ → Type 0) (down : Option ℕ)
    → IfSome told (Holds x) → ((c : ℕ) → down ≡ Some c → IfSome told (IsTorn (held_count x) x.end p images))
    → (ps : List (List ℕ)) (q : List ℕ) → option_map (first_payloads (held_count x)) told ≡ Some ps → option_map (λ (c : ℕ). p) down ≡ Some q
    → (r : Option (List (List ℕ))) → ((c : List ℕ) × images c × (outcome c ≡ r)) → WithOrWithout ps q r
torn_images None x p images down held torn ps q is flies r now = absurd cc
torn_images (Some bytes) x p images None held torn ps q is flies r now = absurd cc
torn_images (Some bytes) x p images (Some count) held torn ps q is flies r now =
    let t = torn count refl in
    let first = first_payloads (held_count x) bytes in
    subst (λ s. WithOrWithout ps q s) now.2
    (subst (λ b. WithOrWithout ps b (outcome now.0)) (told_is p q flies)
    (subst (λ l. WithOrWithout l p (outcome now.0)) (told_is first ps is) (torn_outcome x p images bytes held t now.0 (t.each now.0 now.1))))

module _ (told : Option (List ℕ)) (x : Points) (held : IfSome told (Holds x)) (ps : List (List ℕ)) (is : option_map (first_payloads (held_count x)) told ≡ Some ps) where
  known : (t : Option (List ℕ)) → IfSome t (Holds x) → option_map (first_payloads (held_count x)) t ≡ Some ps → (length (entries_of ps) ≡ length x.gates.items) × (first_of ps ≡ x.first)
  known None h e = absurd cc
  known (Some bytes) h e =
      let same : first_payloads (held_count x) bytes ≡ ps = told_is (first_payloads (held_count x) bytes) ps e in
      let n : length ps ≡ held_count x = ap length (sym same) ∙ h.placed.count in
      let end : base_end ps ≡ x.before = ap base_end (sym same) ∙ h.before in
      (omega (arith, length-drop (base_end ps) ps, n, end), ap first_of (sym same) ∙ h.first)

  pub counted_payloads : length (entries_of ps) ≡ length x.gates.items
  counted_payloads = (known told held is).0

  pub begun_payloads : first_of ps ≡ x.first
  begun_payloads = (known told held is).1

-- all that are held are counted
pub counted_all : (told : Option (List ℕ)) (x : Points) → IfSome told (Holds x) → IfSome (option_map (first_payloads (held_count x)) told) (λ ps. held_count x ≡ length ps)
counted_all None x held = tt
counted_all (Some bytes) x held = sym held.placed.count
