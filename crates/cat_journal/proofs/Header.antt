-- What the first 16 bytes say.
use Rattle.std.proofs.Common.{◌≡◌, ◌≢◌, ℕ, ◌+◌, ◌<◌, ◌≤◌, true, false, eqb, ltb, Bool, cond, List, [], ◌∷◌, ◌++◌, length, take, drop, get_or, Result, Ok, Err, Option, Some, None, refl, sym, ◌∙◌, ap, subst, arith, length-append, length-drop, length-take, take-append-drop}
use Rattle.std.specs.Prelude.{IfSome, MatchResult}
use Rattle.std.specs.Option.{option_map}
use Rattle.std.specs.Int.{w32, from_be_bytes, to_be_bytes}
use Rattle.std.specs.Str.{bytes_eq}
use Rattle.std.proofs.lemmas.Bool.{lt-ltb, le-ltb, ne_eqb}
use Rattle.std.proofs.lemmas.List.{take-append-le, drop-append-le, take_all, drop_all, drop-drop, drop_more, get_or-take}
use Rattle.std.proofs.lemmas.Slice.Eq.{bytes_eq-Decides}
use Rattle.cat_io.specs.Crashes.{put, Only, Told}
use Rattle.cat_keeper.specs.Keeping.{is_format}
use Rattle.cat_journal.specs.declared.fault.OpenFault.{OpenFault}
use Rattle.cat_journal.specs.declared.fault.OpenFault.TheVariants.{Version, Damaged}
use Rattle.cat_journal.specs.declared.points.Points.{Points}
use Rattle.cat_journal.specs.Frames.{magic, header, form_gate, format_by, is_newer, length_of, recovered, payloads, payloads_in, starts_of, unread, unread_from, IsAtRest}
use Rattle.cat_journal.specs.AtRest.{recovered-at_rest}
use Rattle.cat_journal.specs.Held.{first_payloads, held_count, Holds, IsHeld, IsSafe}
use Rattle.cat_journal.specs.Reading.{IsFaultOf, IsHead, IsHeaded, IsOpened}

number_in : (n : ℕ) (head rest : List ℕ) → n + 4 ≤ length head → length_of (drop n (head ++ rest)) ≡ from_be_bytes w32 (take 4 (drop n head))
number_in n head rest le =
    ap (λ (l : List ℕ). from_be_bytes w32 l)
    (ap (λ (l : List ℕ). take 4 l) (drop-append-le n head rest (omega (arith, le))) ∙ take-append-le 4 (drop n head) rest (omega (arith, length-drop n head, le)))

module _ (head rest : List ℕ) (len : length head ≡ 16) (more : 0 < length rest) where
  some : eqb (length (head ++ rest)) 0 ≡ false
  some = ne_eqb _ _ (λ none. omega (arith, length-append head rest, len, none))

  long : ltb (length (head ++ rest)) 17 ≡ false
  long = le-ltb _ _ (omega (arith, length-append head rest, len, more))

  first : take 8 (head ++ rest) ≡ take 8 head
  first = take-append-le 8 head rest (omega (arith, len))

  pub other_magic : bytes_eq (take 8 head) magic ≡ false → recovered (head ++ rest) ≡ Err (Damaged 0)
  unfolding recovered
  other_magic other = rw (some, long, first, other) refl

  pub other_version : (n : ℕ) → bytes_eq (take 8 head) magic ≡ true → n ≡ from_be_bytes w32 (take 4 (drop 8 head)) → n ≢ 1 → recovered (head ++ rest) ≡ Err (Version n)
  unfolding recovered
  other_version n same is other =
      let number : length_of (drop 8 (head ++ rest)) ≡ n = number_in 8 head rest (omega (arith, len)) ∙ sym is in
      rw (some, long, first, same, number, ne_eqb n 1 other) refl

  pub other_zero : (n : ℕ) → bytes_eq (take 8 head) magic ≡ true → n ≡ from_be_bytes w32 (take 4 (drop 8 head)) → n ≡ 1 → bytes_eq (take 3 (drop 12 head)) (0 ∷ 0 ∷ 0 ∷ []) ≡ false
      → recovered (head ++ rest) ≡ Err (Damaged 12)
  unfolding recovered
  other_zero n same is one other =
      let number : length_of (drop 8 (head ++ rest)) ≡ 1 = number_in 8 head rest (omega (arith, len)) ∙ sym is ∙ one in
      let third : take 3 (drop 12 (head ++ rest)) ≡ take 3 (drop 12 head) =
      ap (λ (l : List ℕ). take 3 l) (drop-append-le 12 head rest (omega (arith, len))) ∙ take-append-le 3 (drop 12 head) rest (omega (arith, length-drop 12 head, len)) in
      rw (some, long, first, same, number, third, other) refl

pub is_header : (head : List ℕ) (n : ℕ) → length head ≡ 16 → bytes_eq (take 8 head) magic ≡ true → to_be_bytes w32 n ≡ take 4 (drop 8 head) → n ≡ 1 → bytes_eq (take 3 (drop 12 head)) (0 ∷ 0 ∷ 0 ∷ []) ≡ true
    → head ≡ header (get_or head 15 0)
is_header head n len same spelled one zeros =
    let first : take 8 head ≡ magic = (bytes_eq-Decides (take 8 head) magic).0 same in
    let second : take 4 (drop 8 head) ≡ 0 ∷ 0 ∷ 0 ∷ 1 ∷ [] = sym spelled ∙ ap (λ (k : ℕ). to_be_bytes w32 k) one in
    let third : take 3 (drop 12 head) ≡ 0 ∷ 0 ∷ 0 ∷ [] = (bytes_eq-Decides (take 3 (drop 12 head)) (0 ∷ 0 ∷ 0 ∷ [])).0 zeros in
    let nothing : drop 16 head ≡ [] = drop_all 16 head (omega (arith, len)) in
    let last : drop 3 (drop 12 head) ≡ get_or head 15 0 ∷ [] = drop-drop 3 12 head ∙ drop_more head 15 0 (omega (arith, len)) ∙ ap (λ (l : List ℕ). get_or head 15 0 ∷ l) nothing in
    let fourth : drop 12 head ≡ 0 ∷ 0 ∷ 0 ∷ get_or head 15 0 ∷ [] = sym (take-append-drop 3 (drop 12 head)) ∙ ap (λ (l : List ℕ). l ++ drop 3 (drop 12 head)) third ∙ ap (λ (l : List ℕ). 0 ∷ 0 ∷ 0 ∷ l) last in
    sym (take-append-drop 8 head)
    ∙ ap (λ (l : List ℕ). l ++ drop 8 head) first
    ∙ ap (λ (l : List ℕ). magic ++ l) (sym (take-append-drop 4 (drop 8 head)) ∙ ap (λ (l : List ℕ). l ++ drop 4 (drop 8 head)) second ∙ ap (λ (l : List ℕ). 0 ∷ 0 ∷ 0 ∷ 1 ∷ l) (drop-drop 4 8 head ∙ fourth))

-- fewer than 17 bytes
short_bytes : (bytes : List ℕ) → 0 < length bytes → length bytes < 17 → recovered bytes ≡ Err (Damaged 0)
unfolding recovered
short_bytes bytes more few =
    let some : eqb (length bytes) 0 ≡ false = ne_eqb _ _ (λ none. omega (arith, more, none)) in
    rw (some, lt-ltb _ _ few) refl

pub short_found : (told : Option (List ℕ)) (len : ℕ) → IfSome told (λ bytes. len ≡ length bytes) → 0 < len → len < 17 → IfSome told (λ bytes. recovered bytes ≡ Err (Damaged 0))
short_found None len is more few = tt
short_found (Some bytes) len is more few = short_bytes bytes (omega (arith, is, more)) (omega (arith, is, few))

-- the first 16 bytes, read
headed : (newer : Bool) (head rest bytes : List ℕ) → length head ≡ 16 → head ≡ take 16 bytes → IsHead newer head → IsHeaded newer bytes
headed newer head rest bytes size part h =
    let gate : form_gate bytes ≡ h.0 = sym (get_or-take 16 bytes 15 0 (omega arith)) ∙ ap (λ (l : List ℕ). get_or l 15 0) (sym part ∙ h.1) in
    (sym part ∙ h.1 ∙ ap header (sym gate), ap is_newer gate ∙ h.2)

pub head_found : (told : Option (List ℕ)) (len : ℕ) (head : List ℕ) (r : Result Bool OpenFault) → IfSome told (λ bytes. len ≡ length bytes) → 16 < len → IfSome told (λ bytes. head ≡ take 16 (drop 0 bytes))
    → (length head ≡ 16 → (rest : List ℕ) → 0 < length rest → MatchResult r (λ newer. IsHead newer head) (IsFaultOf (head ++ rest)))
    → IfSome told (λ bytes. MatchResult r (λ newer. IsHeaded newer bytes) (IsFaultOf bytes))
head_found None len head r is more part found = tt
head_found (Some bytes) len head r is more part found =
    let size : length head ≡ 16 = ap length part ∙ length-take 16 bytes ∙ omega (arith, is, more) in
    let whole : head ++ drop 16 bytes ≡ bytes = ap (λ (l : List ℕ). l ++ drop 16 bytes) part ∙ take-append-drop 16 bytes in
    by r size whole (found size (drop 16 bytes) (omega (arith, length-drop 16 bytes, is, more)))
  where
    by : (r : Result Bool OpenFault) → length head ≡ 16 → head ++ drop 16 bytes ≡ bytes → MatchResult r (λ newer. IsHead newer head) (IsFaultOf (head ++ drop 16 bytes)) → MatchResult r (λ newer. IsHeaded newer bytes) (IsFaultOf bytes)
    by (Ok newer) size whole answer = headed newer head (drop 16 bytes) bytes size part answer
    by (Err e) size whole answer = subst (λ (b : List ℕ). IsFaultOf b e) whole answer

-- what was read was opened
pub opened_by : (newer : Bool) (t t' t'' : Option (List ℕ)) (x : Points) → Told t t' (λ a b. b ≡ a) → Told t' t'' (λ a b. b ≡ a) → IfSome t' (λ bytes. IsHeaded newer bytes)
    → IfSome t' (λ bytes. IsHeld (form_gate bytes) (payloads bytes) x bytes × IsAtRest (form_gate bytes) (payloads bytes) x.end bytes)
    → Told t t'' (λ before after. IsOpened before after x × (is_newer (form_gate after) ≡ newer))
opened_by newer None None None x same same' head found = tt
opened_by newer None None (Some c) x same same' head found = absurd same'
opened_by newer None (Some b) t'' x same same' head found = absurd same
opened_by newer (Some a) None t'' x same same' head found = absurd same
opened_by newer (Some a) (Some b) None x same same' head found = absurd same'
opened_by newer (Some a) (Some b) (Some c) x same same' head found =
    subst (λ after. IsOpened a after x × (is_newer (form_gate after) ≡ newer)) (sym same')
    (subst (λ before. IsOpened before b x × (is_newer (form_gate b) ≡ newer)) same
    (record { recovers = recovered-at_rest (form_gate b) (payloads b) x.end b found.1; held = found.0; rest = found.1 }, head.1))

-- what was opened recovers to as many payloads as are held
pub opened_holds : (t t' : Option (List ℕ)) (x : Points) (newer : Bool) → Told t t' (λ before after. IsOpened before after x × (is_newer (form_gate after) ≡ newer))
    → Told t' (option_map (first_payloads (held_count x)) t') (λ bytes ps. recovered bytes ≡ Ok ps)
opened_holds None None x newer found = tt
opened_holds None (Some b) x newer found = absurd found
opened_holds (Some a) None x newer found = absurd found
opened_holds (Some a) (Some b) x newer found =
    recovered-at_rest (form_gate b) (payloads b) x.end b found.0.rest ∙ ap (λ (l : List (List ℕ)). Ok l) (sym (take_all (held_count x) (payloads b) (omega (arith, found.0.held.placed.count))))

-- the number of its format
pub opened_known : (newer : Bool) (format : ℕ) → format ≡ cond newer 2 1 → is_format format ≡ true
opened_known true format is = ap is_format is
opened_known false format is = ap is_format is

-- what a journal knows of a disk on which it was opened
module _ (x : Points) (newer : Bool) (t t' : Option (List ℕ)) (found : Told t t' (λ before after. IsOpened before after x × (is_newer (form_gate after) ≡ newer))) where
  pub opened_form : (format : ℕ) → format ≡ cond newer 2 1 → IfSome t' (λ b. format_by (form_gate b) ≡ format)
  opened_form format is = by t t' found
    where
      by : (t t' : Option (List ℕ)) → Told t t' (λ before after. IsOpened before after x × (is_newer (form_gate after) ≡ newer)) → IfSome t' (λ b. format_by (form_gate b) ≡ format)
      by None None found = tt
      by None (Some b) found = absurd found
      by (Some a) None found = absurd found
      by (Some a) (Some b) found = ap (λ n. cond n 2 1) found.1 ∙ sym is

  pub opened_held : IfSome t' (Holds x)
  opened_held = by t t' found
    where
      by : (t t' : Option (List ℕ)) → Told t t' (λ before after. IsOpened before after x × (is_newer (form_gate after) ≡ newer)) → IfSome t' (Holds x)
      by None None found = tt
      by None (Some b) found = absurd found
      by (Some a) None found = absurd found
      by (Some a) (Some b) found = subst (λ ps. IsHeld (form_gate b) ps x b) (sym (take_all (held_count x) (payloads b) (omega (arith, found.0.held.placed.count)))) found.0.held

  pub opened_safe : (images : List ℕ → Type 0) → Only t' images → IfSome t' (IsSafe (held_count x) x.end images)
  opened_safe images only = by t t' found only
    where
      by : (t t' : Option (List ℕ)) → Told t t' (λ before after. IsOpened before after x × (is_newer (form_gate after) ≡ newer)) → Only t' images → IfSome t' (IsSafe (held_count x) x.end images)
      by None None found only = tt
      by None (Some b) found only = absurd found
      by (Some a) None found only = absurd found
      by (Some a) (Some b) found only = record { rest = found.0.rest; count = found.0.held.placed.count; only = only }

pub not_down : (count : ℕ) → None ≡ Some count → ⊥
not_down count is = cc

nothing_recovered : recovered [] ≡ Ok []
unfolding recovered
nothing_recovered = refl

new_at_rest : IsAtRest 1 [] 16 (header 1 ++ 0 ∷ [])
unfolding unread unread_from
new_at_rest = record { front = refl; size = refl; there = omega arith; closed = λ e. omega (arith, e); framed = refl; read = refl }

new_opened : (before after : List ℕ) (x : Points) → before ≡ [] → after ≡ put 0 (header 1 ++ 0 ∷ []) before → x.gates.items ≡ [] → x.before ≡ 0 → x.first ≡ 0 → x.end ≡ 16 → IsOpened before after x × (is_newer (form_gate after) ≡ true)
new_opened before after x none is empty first_is place end =
    let bytes : after ≡ header 1 ++ 0 ∷ [] = is ∙ ap (λ (l : List ℕ). put 0 (header 1 ++ 0 ∷ []) l) none in
    let ps : payloads (header 1 ++ 0 ∷ []) ≡ [] = ap payloads_in (recovered-at_rest 1 [] 16 (header 1 ++ 0 ∷ []) new_at_rest) in
    let rest : IsAtRest 1 [] x.end (header 1 ++ 0 ∷ []) = subst (λ n. IsAtRest 1 [] n (header 1 ++ 0 ∷ [])) (sym end) new_at_rest in
    subst (λ a. IsOpened before a x × (is_newer (form_gate a) ≡ true)) (sym bytes) (
      record {
        recovers = ap recovered none ∙ nothing_recovered ∙ ap (λ (l : List (List ℕ)). Ok l) (sym ps);
        held = subst (λ l. IsHeld 1 l x (header 1 ++ 0 ∷ [])) (sym ps) (record {
          front = rest.front;
          size = rest.size;
          there = rest.there;
          framed = refl;
          read = rest.read;
          before = sym first_is;
          first = sym place;
          placed = record {
            base = λ some. absurd (omega (arith, some, first_is));
            gates = empty ∙ sym (ap (λ (n : ℕ). drop n (starts_of 16 [])) first_is);
            count = omega (arith, first_is, ap length empty);
          };
        });
        rest = subst (λ l. IsAtRest 1 l x.end (header 1 ++ 0 ∷ [])) (sym ps) rest;
      },
      refl,
    )

pub created : (t t' : Option (List ℕ)) (x : Points) → IfSome t (λ bytes. bytes ≡ []) → Told t t' (λ before after. after ≡ put 0 (header 1 ++ 0 ∷ []) before) → x.gates.items ≡ [] → x.before ≡ 0 → x.first ≡ 0 → x.end ≡ 16
    → Told t t' (λ before after. IsOpened before after x × (is_newer (form_gate after) ≡ true))
created None None x none written empty before place end = tt
created None (Some b) x none written empty before place end = absurd written
created (Some a) None x none written empty before place end = absurd written
created (Some a) (Some b) x none written empty before place end = new_opened a b x none written empty before place end
