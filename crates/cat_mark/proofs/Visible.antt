-- What is visible after changes is at one of their keys, or was visible before.
use Rattle.std.proofs.Common.{◌≡◌, inl, inr, List, [], ◌∷◌, Option, Some, None, Bool, true, false, cond, ◌||◌, refl, sym, ap, subst, ◌∙◌}
use Rattle.std.proofs.lemmas.Bool.{or_cases, or_left, or_right}
use Rattle.std.proofs.lemmas.Cmp.{tied_itself}
use Rattle.std.proofs.lemmas.Option.{none-some, same_Some}
use Rattle.std.specs.Ordering.{is_eq}
use Rattle.std.specs.declared.cmp.Ordering.TheVariants.{Equal}
use Rattle.cat_codes.specs.Code.{ascends}
use Rattle.cat_names.specs.Fields.{Key, key_cmp}
use Rattle.cat_names.specs.declared.hash.Hash.{Hash}
use Rattle.cat_model.specs.declared.entry.Entry.{Entry}
use Rattle.cat_model.specs.Base.{is_among}
use Rattle.cat_model.specs.Maps.{Map, Change, IsMap, entry_of, after_changes}
use Rattle.cat_model.specs.Same.{same_hash}
use Rattle.cat_keymap.specs.KeyOrder.{key_total, split3, head_tail, ascends_any}
use Rattle.cat_keymap.specs.MapLaws.{at_key, entry_is, key_same, none_past, settled, found_after_all, IsMap-after_changes}
use Rattle.cat_mark.specs.Marks.{at_keys, hash_in, hashes}
use Rattle.cat_mark.proofs.Marking.{both, or_none}

-- ---- what is found is visible

found_shows : (m : Map) (key : Key) (e : Entry) (x : Hash) → entry_of m key ≡ Some e → same_hash e.hash x ≡ true → is_among (hashes m) x ≡ true
found_shows [] key e x f s = absurd (none-some e f)
found_shows (y ∷ m) key e x f s = by (is_eq (key_cmp y.0 key)) f (found_shows m key e x)
  where
    by : (b : Bool) → cond b (Some y.1) (entry_of m key) ≡ Some e → (entry_of m key ≡ Some e → same_hash e.hash x ≡ true → is_among (hashes m) x ≡ true)
        → (same_hash y.1.hash x || is_among (hashes m) x) ≡ true
    by true g more = or_left _ _ (subst (λ (d : Entry). same_hash d.hash x ≡ true) (sym (same_Some y.1 e g)) s)
    by false g more = or_right _ _ (more g s)

one_shows : (m : Map) (key : Key) (found : Option Entry) (x : Hash) → entry_of m key ≡ found → is_among (hash_in found) x ≡ true → is_among (hashes m) x ≡ true
one_shows m key None x f e = absurd cc
one_shows m key (Some entry) x f e = found_shows m key entry x f (sym (or_none (same_hash entry.hash x)) ∙ e)

-- what a map has at keys is visible in it
keys_show : (changes : List Change) (m : Map) (x : Hash) → is_among (at_keys m changes) x ≡ true → is_among (hashes m) x ≡ true
keys_show [] m x e = absurd cc
keys_show (c ∷ cs) m x e =
    elim (or_cases (is_among (hash_in (entry_of m c.0)) x) (is_among (at_keys m cs) x) (sym (both (hash_in (entry_of m c.0)) (at_keys m cs) x) ∙ e)) [
      | inl here ↦ one_shows m c.0 (entry_of m c.0) x refl here
      | inr later ↦ keys_show cs m x later
    ]

-- ---- what is visible is found

-- the hash is that of an entry that is found
record IsFound (m : Map) (x : Hash) : Type 0 where
  key : Key
  entry : Entry
  found : at_key m key ≡ Some entry
  same : same_hash entry.hash x ≡ true

found_behind : (y : Key × Entry) (m : Map) (key : Key) (e : Entry) → ascends key_cmp (Some y.0) m ≡ true → at_key m key ≡ Some e → at_key (y ∷ m) key ≡ Some e
found_behind y m key e up f = split3 (key_cmp y.0 key) (λ o. rw o f) (λ o. absurd (none-some e (sym (none_past key y.0 m o up) ∙ f))) (λ o. rw o f)

is_found : (m : Map) (x : Hash) → IsMap m → is_among (hashes m) x ≡ true → IsFound m x
is_found [] x up e = absurd cc
is_found (y ∷ m) x up e =
    elim (or_cases (same_hash y.1.hash x) (is_among (hashes m) x) e) [
      | inl here ↦ record { key = y.0; entry = y.1; found = rw (tied_itself key_total y.0) refl; same = here }
      | inr later ↦
          let tail = (head_tail None y m up).1 in
          let it = is_found m x (ascends_any y.0 m tail) later in
          record { key = it.key; entry = it.entry; found = found_behind y m it.key it.entry tail it.found; same = it.same }
    ]

in_one : (found : Option Entry) (e : Entry) (x : Hash) → found ≡ Some e → same_hash e.hash x ≡ true → is_among (hash_in found) x ≡ true
in_one found e x f s = rw f (or_left (same_hash e.hash x) false s)

-- what is found at the key of a change is among what is at the keys
found_at_key : (changes : List Change) (m : Map) (key : Key) (new : Option Entry) (e : Entry) (x : Hash) → at_key changes key ≡ Some new → entry_of m key ≡ Some e → same_hash e.hash x ≡ true
    → is_among (at_keys m changes) x ≡ true
found_at_key [] m key new e x f g s = absurd (none-some new f)
found_at_key (c ∷ cs) m key new e x f g s =
    let first = hash_in (entry_of m c.0) in
    let here = λ (o : key_cmp c.0 key ≡ Equal). in_one (entry_of m c.0) e x (subst (λ (k : Key). entry_of m k ≡ Some e) (sym (key_same c.0 key o)) g) s in
    both first (at_keys m cs) x
    ∙ split3 (key_cmp c.0 key)
    (λ o. or_right (is_among first x) _ (found_at_key cs m key new e x (rw o at f) g s))
    (λ o. or_left _ (is_among (at_keys m cs) x) (here o))
    (λ o. or_right (is_among first x) _ (found_at_key cs m key new e x (rw o at f) g s))

-- ---- what changes do

settled_shows : (changes : List Change) (m after : Map) (key : Key) (e : Entry) (x : Hash) (change : Option (Option Entry)) → at_key changes key ≡ change → entry_of after key ≡ Some e → settled change (entry_of m key) ≡ Some e → same_hash e.hash x ≡ true
    → (is_among (at_keys after changes) x || is_among (hashes m) x) ≡ true
settled_shows changes m after key e x None c f old s = or_right _ _ (found_shows m key e x old s)
settled_shows changes m after key e x (Some new) c f old s = or_left _ _ (found_at_key changes after key new e x c f s)

-- what is visible after changes is at one of their keys, or was visible before
shows_after : (changes : List Change) (m after : Map) (x : Hash) → ascends key_cmp None changes ≡ true → IsMap m → after ≡ after_changes changes m → is_among (hashes after) x ≡ true
    → (is_among (at_keys after changes) x || is_among (hashes m) x) ≡ true
shows_after changes m after x asc up is e =
    let it = is_found after x (subst (λ (l : Map). IsMap l) (sym is) (IsMap-after_changes changes m up)) e in
    let found = entry_is after it.key ∙ it.found in
    let settled_is = sym (found_after_all changes m it.key asc up) ∙ ap (λ (l : Map). entry_of l it.key) (sym is) ∙ found in
    settled_shows changes m after it.key it.entry x (at_key changes it.key) refl found settled_is it.same

same_beside : (a b rest : Bool) → (a ≡ true → (b || rest) ≡ true) → (b ≡ true → a ≡ true) → (a || rest) ≡ (b || rest)
same_beside true b rest f g = sym (f refl)
same_beside false true rest f g = absurd (cc (g refl))
same_beside false false rest f g = refl

beside_more : (b m rest : Bool) → (m ≡ true → rest ≡ true) → (b || m) ≡ true → (b || rest) ≡ true
beside_more true m rest f e = refl
beside_more false m rest f e = f e

-- beside hashes that have all that was visible before, the map after changes shows what it has at their keys
pub shown_at_keys : (changes : List Change) (m after : Map) (rest : List Hash) (x : Hash) → ascends key_cmp None changes ≡ true → IsMap m → after ≡ after_changes changes m
    → (is_among (hashes m) x ≡ true → is_among rest x ≡ true)
    → (is_among (hashes after) x || is_among rest x) ≡ (is_among (at_keys after changes) x || is_among rest x)
shown_at_keys changes m after rest x asc up is before =
    same_beside (is_among (hashes after) x) (is_among (at_keys after changes) x) (is_among rest x)
    (λ e. beside_more _ (is_among (hashes m) x) _ before (shows_after changes m after x asc up is e))
    (keys_show changes after x)
