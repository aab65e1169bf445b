-- A log that goes on from a base starts from the state that the base is of, in whatever order its contents came.
use Rattle.std.proofs.Common.{◌≡◌, ℕ, ◌+◌, Bool, true, false, if◌then◌else◌, List, [], ◌∷◌, ◌++◌, length, map, reverse, drop, take, Option, Some, None, Result, Ok, IfSome, IsTrue, refl, sym, ap, subst, ◌∙◌, arith, length-append}
use Rattle.std.specs.Prelude.{fold, is_none}
use Rattle.std.specs.Ordering.{is_eq}
use Rattle.std.proofs.lemmas.Grind.{reverse_onto}
use Rattle.std.proofs.lemmas.List.{reverse-reverse}
use Rattle.sha2.specs.Sha256.{sha256}
use Rattle.cat_checks.specs.Histories.{begun}
use Rattle.cat_checks.specs.HistoryLaws.{limits_stay}
use Rattle.cat_codes.specs.declared.fault.FieldFault.{FieldFault}
use Rattle.cat_codes.specs.Code.{whole}
use Rattle.cat_frames.specs.declared.checkpoint.Checkpoint.{Checkpoint}
use Rattle.cat_frames.specs.Bases.{by_hashes, by_reading, checkpoint_of, draft_of, from_checkpoint, from_nothing, opened_by, state_in}
use Rattle.cat_frames.specs.Checkpoints.{by_hash}
use Rattle.cat_frames.specs.Entries.{log_entry_code, of_nobody}
use Rattle.cat_keeper.specs.Bases.{base_of, entries_of}
use Rattle.cat_keymap.specs.KeyOrder.{split3}
use Rattle.cat_model.specs.declared.content.Content.{Content}
use Rattle.cat_model.specs.declared.limits.Limits.{Limits}
use Rattle.cat_model.specs.declared.log_entry.LogEntry.{LogEntry}
use Rattle.cat_model.specs.Book.{Book}
use Rattle.cat_model.specs.KeySets.{with_one}
use Rattle.cat_model.specs.Resuming.{IsSameState}
use Rattle.cat_model.specs.State.{State, content_at}
use Rattle.cat_model.specs.Turns.{Opened}
use Rattle.cat_names.specs.declared.hash.Hash.{Hash}
use Rattle.cat_tables.proofs.Arriving.{ties}
use Rattle.cat_tables.proofs.Places.{same_is}
use Rattle.cat_tables.specs.HashOrder.{hash_cmp}
use Rattle.cat_tables.specs.ReferenceLaws.{and_true, both_true}
use Rattle.cat_tables.specs.Tables.{are_distinct, same_hash, value_of}
use Rattle.cat_state.specs.Kept.{AreReadBack, spelling, spellings}
use Rattle.cat_core.specs.Opening.{IsLedTo}
use Rattle.cat_core.specs.Records.{GoesOn, IsBaseAt, StandFor, state_at}

split : {P : Type 0} (b : Bool) → (b ≡ true → P) → (b ≡ false → P) → P
split true f g = f refl
split false f g = g refl

no_some : {A P : Type 0} (x : A) → Some x ≡ None → P
no_some x is = absurd cc

clash : {P : Type 0} (b : Bool) → b ≡ true → b ≡ false → P
clash true t f = absurd cc
clash false t f = absurd cc

same_back : (a b : Hash) → same_hash a b ≡ true → same_hash b a ≡ true
same_back a b is = let e : a ≡ b = same_is a b is in subst (λ (x : Hash). same_hash b x ≡ true) (sym e) (subst (λ (x : Hash). same_hash x b ≡ true) e is)

is_nothing : {A : Type 0} (o : Option A) → is_none o ≡ true → o ≡ None
is_nothing None is = refl
is_nothing (Some x) is = absurd cc

-- ---- one value more among those that ascend

module _ {V : Type 0} where
  abbrev over : Hash × V → Hash → Option V → Option V
  over x hash rest = if same_hash x.0 hash then Some x.1 else rest

  other_first : (z : Hash × V) (xs : List (Hash × V)) (hash : Hash) → value_of (z ∷ xs) hash ≡ None → (same_hash z.0 hash ≡ false) × (value_of xs hash ≡ None)
  other_first z xs hash none = split (same_hash z.0 hash)
      (λ is. let some : Some z.1 ≡ None = rw is at none in no_some z.1 some)
      (λ is. (is, rw is at none))

  value_with : (hash : Hash) (x : Hash × V) (xs : List (Hash × V)) → value_of xs x.0 ≡ None → value_of (with_one by_hash xs x) hash ≡ over x hash (value_of xs hash)
  value_with hash x [] new = refl
  value_with hash x (z ∷ xs) new =
      let parts = other_first z xs x.0 new in
      split3 (hash_cmp x.0 z.0)
      (λ o. rw o refl)
      (λ o. clash (same_hash z.0 x.0) (same_back x.0 z.0 (ties x.0 z.0 ∙ ap is_eq o)) parts.0)
      (λ o. rw o (split (same_hash z.0 hash)
      (λ is. split (same_hash x.0 hash)
      (λ here. clash (same_hash z.0 x.0) (subst (λ (h : Hash). same_hash z.0 h ≡ true) (sym (same_is x.0 hash here)) is) parts.0)
      (λ other. rw (is, other) refl))
      (λ is. rw is (value_with hash x xs parts.1))))

  length_with : (x : Hash × V) (xs : List (Hash × V)) → value_of xs x.0 ≡ None → length (with_one by_hash xs x) ≡ length xs + 1
  length_with x [] new = refl
  length_with x (z ∷ xs) new =
      let parts = other_first z xs x.0 new in
      split3 (hash_cmp x.0 z.0)
      (λ o. rw o (omega arith))
      (λ o. clash (same_hash z.0 x.0) (same_back x.0 z.0 (ties x.0 z.0 ∙ ap is_eq o)) parts.0)
      (λ o. let rest : length (with_one by_hash xs x) ≡ length xs + 1 = length_with x xs parts.1 in rw o (omega (arith, rest)))

  distinct_with : (x : Hash × V) (xs : List (Hash × V)) → value_of xs x.0 ≡ None → are_distinct xs ≡ true → are_distinct (with_one by_hash xs x) ≡ true
  distinct_with x [] new are = refl
  distinct_with x (z ∷ xs) new are =
      let parts = other_first z xs x.0 new in
      let own = and_true (is_none (value_of xs z.0)) (are_distinct xs) are in
      split3 (hash_cmp x.0 z.0)
      (λ o. rw o (both_true _ _ (ap is_none new) are))
      (λ o. clash (same_hash z.0 x.0) (same_back x.0 z.0 (ties x.0 z.0 ∙ ap is_eq o)) parts.0)
      (λ o. rw o (both_true _ _
      (ap is_none (value_with z.0 x xs parts.1) ∙ split (same_hash x.0 z.0)
      (λ is. clash (same_hash z.0 x.0) (same_back x.0 z.0 is) parts.0)
      (λ is. rw is own.0))
      (distinct_with x xs parts.1 own.1)))

  -- ---- all of them

  abbrev AreNew : List (Hash × V) → List (Hash × V) → Type 0
  AreNew acc [] = Unit {0}
  AreNew acc (x ∷ xs) = (value_of acc x.0 ≡ None) × AreNew acc xs

  new_with : (acc xs : List (Hash × V)) (x : Hash × V) → value_of acc x.0 ≡ None → value_of xs x.0 ≡ None → AreNew acc xs → AreNew (with_one by_hash acc x) xs
  new_with acc [] x here new are = tt
  new_with acc (y ∷ xs) x here new are =
      let parts = other_first y xs x.0 new in (
        value_with y.0 x acc here ∙ split (same_hash x.0 y.0)
            (λ is. clash (same_hash y.0 x.0) (same_back x.0 y.0 is) parts.0)
            (λ is. rw is are.0),
        new_with acc xs x here parts.1 are.1,
      )

  -- what is found among the second, and else among the first
  abbrev or_else : Option V → Option V → Option V
  or_else (Some x) rest = Some x
  or_else None rest = rest

  over_or : (b : Bool) (x : V) (found rest : Option V) → (b ≡ true → found ≡ None) → or_else found (if b then Some x else rest) ≡ or_else (if b then Some x else found) rest
  over_or true x None rest none = refl
  over_or true x (Some y) rest none = no_some y (none refl)
  over_or false x found rest none = refl

  none_there : (x : Hash × V) (xs : List (Hash × V)) (hash : Hash) → value_of xs x.0 ≡ None → same_hash x.0 hash ≡ true → value_of xs hash ≡ None
  none_there x xs hash none is = subst (λ (h : Hash). value_of xs h ≡ None) (same_is x.0 hash is) none

  pub record IsFolded (acc xs all : List (Hash × V)) : Type 0 where
    pub found : (hash : Hash) → value_of all hash ≡ or_else (value_of xs hash) (value_of acc hash)
    pub many : length all ≡ length acc + length xs
    pub distinct : are_distinct all ≡ true

  folded : (acc xs : List (Hash × V)) → are_distinct acc ≡ true → are_distinct xs ≡ true → AreNew acc xs → IsFolded acc xs (fold (with_one by_hash) acc xs)
  folded acc [] own are new = record { found = λ hash. refl; many = omega arith; distinct = own }
  folded acc (x ∷ xs) own are new =
      let parts = and_true (is_none (value_of xs x.0)) (are_distinct xs) are in
      let none = is_nothing (value_of xs x.0) parts.0 in
      let rest = folded (with_one by_hash acc x) xs (distinct_with x acc new.0 own) parts.1 (new_with acc xs x new.0 none new.1) in
      record {
        found = λ hash. rest.found hash ∙ ap (or_else (value_of xs hash)) (value_with hash x acc new.0) ∙ over_or (same_hash x.0 hash) x.1 (value_of xs hash) (value_of acc hash) (none_there x xs hash none);
        many = omega (arith, rest.many, length_with x acc new.0);
        distinct = rest.distinct;
      }

  none_new : (xs : List (Hash × V)) → AreNew [] xs
  none_new [] = tt
  none_new (x ∷ xs) = (refl, none_new xs)

  or_none : (found : Option V) → or_else found None ≡ found
  or_none None = refl
  or_none (Some x) = refl

  -- ---- in the other order

  found_behind : (xs ys : List (Hash × V)) (hash : Hash) → value_of (xs ++ ys) hash ≡ or_else (value_of xs hash) (value_of ys hash)
  found_behind [] ys hash = refl
  found_behind (x ∷ xs) ys hash = split (same_hash x.0 hash)
      (λ is. rw is refl)
      (λ is. rw is (found_behind xs ys hash))

  found_turned : (xs : List (Hash × V)) (hash : Hash) → are_distinct xs ≡ true → value_of (reverse xs) hash ≡ value_of xs hash
  found_turned [] hash are = refl
  found_turned (x ∷ xs) hash are =
      let parts = and_true (is_none (value_of xs x.0)) (are_distinct xs) are in
      ap (λ (l : List (Hash × V)). value_of l hash) (reverse_onto xs x [])
      ∙ found_behind (reverse xs) (x ∷ []) hash
      ∙ ap (λ (o : Option V). or_else o (over x hash None)) (found_turned xs hash parts.1)
      ∙ over_or (same_hash x.0 hash) x.1 (value_of xs hash) None (none_there x xs hash (is_nothing (value_of xs x.0) parts.0))
      ∙ or_none (over x hash (value_of xs hash))

  length_turned : (xs : List (Hash × V)) → length (reverse xs) ≡ length xs
  length_turned [] = refl
  length_turned (x ∷ xs) = ap length (reverse_onto xs x []) ∙ omega (arith, length-append (reverse xs) (x ∷ []), length_turned xs)

-- ---- contents

content_is : (present : List (Hash × Content)) (hash : Hash) → content_at present hash ≡ value_of present hash
content_is [] hash = refl
content_is (x ∷ present) hash = split (same_hash x.0 hash)
    (λ is. rw is refl)
    (λ is. rw is (content_is present hash))

module _ (present : List (Hash × Content)) (are : are_distinct present ≡ true) where
  all_there : IsFolded [] present (by_hashes present)
  all_there = folded [] present refl are (none_new present)

  contents_same : (hash : Hash) → content_at (reverse (by_hashes present)) hash ≡ content_at present hash
  contents_same hash =
      content_is (reverse (by_hashes present)) hash ∙ found_turned (by_hashes present) hash all_there.distinct ∙ all_there.found hash ∙ or_none (value_of present hash) ∙ sym (content_is present hash)

  as_many : length (reverse (by_hashes present)) ≡ length present
  as_many = omega (arith, length_turned (by_hashes present), all_there.many)

-- ---- the state in a base

pub state_resumed : (state : State) (draft : ℕ) (drafts : List ℕ) (limits : Limits) → state.limits ≡ limits → IsTrue (are_distinct state.present) → IsSameState state (state_in limits (checkpoint_of state draft drafts))
state_resumed state draft drafts limits is are = record {
  place = refl;
  references = refl;
  commits = reverse-reverse state.commits;
  contents = contents_same state.present are;
  count = as_many state.present are;
  limits = sym is;
}

-- what a log starts from that goes on from a base of a state, or from nothing
pub resumed : (o from : Opened) (front : List LogEntry) (base : Option (List ℕ)) (limits : Limits) (payloads faults : ℕ) → o.state.limits ≡ limits → IsBaseAt o front base → opened_by limits payloads faults base ≡ Some from
    → IsSameState (state_at o front) from.state × (from.draft ≡ draft_of o front)
resumed o from front None limits payloads faults is based opened =
    let same : from_nothing limits payloads faults ≡ from = cc in
    let first : o.state ≡ from.state = ap (λ (x : Opened). x.state) based.1 ∙ ap (λ (l : Limits). (from_nothing l o.payloads o.faults).state) is ∙ ap (λ (x : Opened). x.state) same in
    let here : state_at o front ≡ from.state = ap (state_at o) based.0 ∙ first in
    let draft : from.draft ≡ draft_of o front = sym (ap (λ (x : Opened). x.draft) same) ∙ sym (ap (λ (l : List LogEntry). draft_of o l) based.0 ∙ ap (λ (x : Opened). x.draft) based.1) in
    (subst (IsSameState (state_at o front)) here record { place = refl; references = refl; commits = refl; contents = λ hash. refl; count = refl; limits = refl }, draft)
resumed o from front (Some base) limits payloads faults is based opened =
    let c : Checkpoint = checkpoint_of (state_at o front) (draft_of o front) based.0 in
    let reads : opened_by limits payloads faults (Some base) ≡ Some (from_checkpoint limits payloads faults c) = ap (by_reading limits payloads faults) based.1.reads in
    let same : from_checkpoint limits payloads faults c ≡ from = let both : Some (from_checkpoint limits payloads faults c) ≡ Some from = sym reads ∙ opened in cc in
    (subst (λ (x : Opened). IsSameState (state_at o front) x.state) same (state_resumed (state_at o front) (draft_of o front) based.0 limits (limits_stay sha256 (begun o) front ∙ is) based.1.once), sym (ap (λ (x : Opened). x.draft) same))

-- ---- a log

cons_is : {A : Type 0} (x y : A) (xs ys : List A) → x ∷ xs ≡ y ∷ ys → (x ≡ y) × (xs ≡ ys)
cons_is x y xs ys same = let one : x ≡ y = cc in let rest : xs ≡ ys = cc in (one, rest)

ok_is : (x y : LogEntry) → ◌≡◌ {A = Result LogEntry FieldFault} (Ok x) (Ok y) → x ≡ y
ok_is x y same = cc

-- entries that are read back and spelled alike are the same, of nobody
alike : (xs ys : List LogEntry) → AreReadBack xs → AreReadBack ys → spellings xs ≡ spellings ys → map of_nobody xs ≡ map of_nobody ys
alike [] [] p q same = refl
alike [] (y ∷ ys) p q same = let no : ◌≡◌ {A = List (List ℕ)} [] (spelling y ∷ spellings ys) = same in absurd cc
alike (x ∷ xs) [] p q same = let no : ◌≡◌ {A = List (List ℕ)} (spelling x ∷ spellings xs) [] = same in absurd cc
alike (x ∷ xs) (y ∷ ys) p q same =
    let parts = cons_is (spelling x) (spelling y) (spellings xs) (spellings ys) same in
    let one : of_nobody x ≡ of_nobody y = ok_is (of_nobody x) (of_nobody y) (sym p.0 ∙ ap (whole (log_entry_code sha256)) parts.0 ∙ q.0) in
    λ i. one i ∷ alike xs ys p.1 q.1 parts.1 i

-- what payloads stand for, as they are opened
pub log_resumed : (told : Option (List (List ℕ))) (kept : ℕ) (limits : Limits) (o from : Opened) (log : List LogEntry) (book : Book) → IsLedTo told kept limits from book → o.state.limits ≡ limits → IfSome told (StandFor o log) → IfSome told (λ _. GoesOn o log from (reverse book.log))
log_resumed None kept limits o from log book led is stands = tt
log_resumed (Some ps) kept limits o from log book led is stands =
    let same : ps ≡ led.payloads = led.are in
    let opened : opened_by limits from.payloads from.faults (base_of ps) ≡ Some from = ap (λ (l : List (List ℕ)). opened_by limits from.payloads from.faults (base_of l)) same ∙ led.begins in
    let both = resumed o from (take stands.count log) (base_of ps) limits from.payloads from.faults is stands.base opened in
    record {
      count = stands.count;
      state = both.0;
      draft = both.1;
      entries = sym led.nobody ∙ alike (reverse book.log) (drop stands.count log) led.read stands.read (sym led.spelled ∙ ap entries_of (sym same) ∙ stands.entries);
    }
