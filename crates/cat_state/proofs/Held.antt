-- Contents that are there after more are added, or after some go.
use Rattle.std.proofs.Common.{◌≡◌, ℕ, List, [], ◌∷◌, Option, Some, None, Ok, Err, Bool, true, false, cond, if◌then◌else◌, ◌||◌, is_some, map, find, not, refl, sym, ap, subst, ◌∙◌}
use Rattle.std.proofs.lemmas.Bool.{false_from_ne_true}
use Rattle.std.specs.List.{list_all, list_any}
use Rattle.std.specs.Option.{option_map}
use Rattle.std.specs.Str.{bytes_eq}
use Rattle.sha2.specs.Sha256.{sha256}
use Rattle.cat_names.specs.declared.hash.Hash.{Hash}
use Rattle.cat_graph.specs.GraphLaws.{same_is}
use Rattle.cat_tables.specs.ReferenceLaws.{is_same}
use Rattle.cat_model.specs.declared.content.Content.{Content}
use Rattle.cat_model.specs.declared.refusal.Refusal.{Refusal}
use Rattle.cat_model.specs.declared.refusal.Refusal.TheVariants.{Collision}
use Rattle.cat_model.specs.Base.{is_among}
use Rattle.cat_model.specs.Contents.{content_code}
use Rattle.cat_model.specs.Maps.{Map}
use Rattle.cat_model.specs.Records.{added, content_bytes, with_content, with_contents}
use Rattle.cat_model.specs.Same.{same_hash}
use Rattle.cat_model.specs.State.{State, content_at, content_hash}
use Rattle.cat_state.specs.Adding.{AreHashesOf}
use Rattle.cat_state.specs.GivingLaws.{passed_by}
use Rattle.cat_state.specs.HeldLaws.{all_both, all_more}
use Rattle.cat_state.specs.Keeping.{has_contents, is_held}
use Rattle.cat_state.specs.Sweeping.{spares, without}

abbrev pub Contents : Type 0
Contents = List (Hash × Content)

-- there is a content of the hash
abbrev pub is_there : Contents → Hash → Bool
is_there contents hash = is_some (content_at contents hash)

-- whatever is there in the older ones is there
abbrev pub Grows : Contents → Contents → Type 0
Grows older newer = (hash : Hash) → is_there older hash ≡ true → is_there newer hash ≡ true

-- ---- contents that are added

more_by : (b : Bool) (x : Hash × Content) (found : Option (Hash × Content)) → is_some (option_map (λ y. y.1) found) ≡ true → is_some (option_map (λ y. y.1) (cond b (Some x) found)) ≡ true
more_by true x found e = refl
more_by false x found e = e

pub there_more : (x : Hash × Content) (older : Contents) → Grows older (x ∷ older)
there_more x older hash e = more_by (same_hash x.0 hash) x (find (λ y. same_hash y.0 hash) older) e

first_by : (b : Bool) (x : Hash × Content) (found : Option (Hash × Content)) → b ≡ true → is_some (option_map (λ y. y.1) (cond b (Some x) found)) ≡ true
first_by true x found e = refl
first_by false x found e = absurd cc

there_first : (hash : Hash) (c : Content) (older : Contents) → is_there ((hash, c) ∷ older) hash ≡ true
there_first hash c older = first_by (same_hash hash hash) (hash, c) (find (λ y. same_hash y.0 hash) older) (is_same hash.bytes hash.bytes refl)

-- what adding leaves: the older contents and those of the hashes
pub record AreThere (older newer : Contents) (hashes : List Hash) : Type 0 where
  pub grows : Grows older newer
  pub hold : (hash : Hash) → list_any (λ other. same_hash other hash) hashes ≡ true → is_there newer hash ≡ true

one_there : (hash : Hash) (newer : Contents) → is_there newer hash ≡ true → (other : Hash) → list_any (λ h. same_hash h other) (hash ∷ []) ≡ true → is_there newer other ≡ true
one_there hash newer there other e = one_by (same_hash hash other) (λ same. subst (λ (h : Hash). is_there newer h ≡ true) (same_is hash other same) there) e
  where
    one_by : (b : Bool) → (b ≡ true → is_there newer other ≡ true) → (b || false) ≡ true → is_there newer other ≡ true
    one_by true f e = f refl
    one_by false f e = absurd cc

kept_by : (b : Bool) (state after : State) (why : Refusal) → (if b then Ok state else Err why) ≡ Ok after → after.present ≡ state.present
kept_by true state after why e = cc
kept_by false state after why e = absurd cc

added_there : (state after : State) (hash : Hash) (c : Content) (bytes : List ℕ) (kept : Option Content) → content_at state.present hash ≡ kept
    → added state (record state { present = (hash, c) ∷ state.present }) hash (option_map (λ c. (content_code).spell c) kept) bytes ≡ Ok after → AreThere state.present after.present (hash ∷ [])
added_there state after hash c bytes None found e =
    let present : (hash, c) ∷ state.present ≡ after.present = cc in
    subst (λ (l : Contents). AreThere state.present l (hash ∷ [])) present
    (record { grows = there_more (hash, c) state.present; hold = one_there hash ((hash, c) ∷ state.present) (there_first hash c state.present) })
added_there state after hash c bytes (Some k) found e =
    let present = kept_by (bytes_eq ((content_code).spell k) bytes) state after (Collision hash ((content_code).spell k) bytes) e in
    subst (λ (l : Contents). AreThere state.present l (hash ∷ [])) (sym present)
    (record { grows = λ h there. there; hold = one_there hash state.present (ap is_some found) })

content_there : (state after : State) (c : Content) → with_content sha256 state c ≡ Ok after → AreThere state.present after.present (content_hash sha256 c ∷ [])
unfolding with_content content_bytes
content_there state after c e = added_there state after (content_hash sha256 c) c ((content_code).spell c) (content_at state.present (content_hash sha256 c)) refl e

both_there : (older middle newer : Contents) (hash : Hash) (hashes : List Hash) → AreThere older middle (hash ∷ []) → AreThere middle newer hashes → AreThere older newer (hash ∷ hashes)
both_there older middle newer hash hashes first rest = record {
  grows = λ h there. rest.grows h (first.grows h there);
  hold = λ h among. by_first h (same_hash hash h) (λ e. rest.grows h (first.hold h (rw e refl))) among;
}
  where
    by_first : (h : Hash) (b : Bool) → (b ≡ true → is_there newer h ≡ true) → (b || list_any (λ other. same_hash other h) hashes) ≡ true → is_there newer h ≡ true
    by_first h true f e = f refl
    by_first h false f e = rest.hold h e

contents_there : (state after : State) (contents : List Content) → with_contents sha256 state contents ≡ Ok after → AreThere state.present after.present (map (content_hash sha256) contents)
contents_there state after [] e =
    let present : state.present ≡ after.present = cc in
    subst (λ (l : Contents). AreThere state.present l []) present (record { grows = λ h there. there; hold = λ h among. absurd cc })
contents_there state after (c ∷ contents) e =
    passed_by (with_content sha256 state c) (λ more. with_contents sha256 more contents) after (AreThere state.present after.present (map (content_hash sha256) (c ∷ contents))) (λ more first rest.
    both_there state.present more.present after.present (content_hash sha256 c) (map (content_hash sha256) contents) (content_there state more c first) (contents_there more after contents rest)) e

-- contents that were added, by their hashes
pub all_there : (state after : State) (contents : List Content) (hashes : List Hash) → AreHashesOf hashes contents → with_contents sha256 state contents ≡ Ok after → AreThere state.present after.present hashes
all_there state after contents hashes are e = subst (λ (l : List Hash). AreThere state.present after.present l) (sym are) (contents_there state after contents e)

-- ---- maps

either_there : (a b : Bool) (P : Type 0) → (a ≡ true → P) → (b ≡ true → P) → (a || b) ≡ true → P
either_there true b P f g e = f refl
either_there false b P f g e = g e

-- the contents of a map stay there
pub map_stays : (older newer : Contents) (map : Map) → Grows older newer → has_contents older map ≡ true → has_contents newer map ≡ true
map_stays older newer map grows there = all_more (λ x. is_there older x.1.hash) (λ x. is_there newer x.1.hash) map (λ x e. grows x.1.hash e) there

-- the contents of a map that was held are there
pub map_there : (older newer : Contents) (hashes : List Hash) (map : Map) → AreThere older newer hashes → list_all (λ x. is_held older hashes x.1.hash) map ≡ true → has_contents newer map ≡ true
map_there older newer hashes map are held =
    all_more (λ x. is_held older hashes x.1.hash) (λ x. is_there newer x.1.hash) map
    (λ x e. either_there (is_there older x.1.hash) (list_any (λ other. same_hash other x.1.hash) hashes) (is_there newer x.1.hash ≡ true) (are.grows x.1.hash) (are.hold x.1.hash) e) held

-- ---- contents that go

-- what has one of the hashes has another than what has none
others : (hashes : List Hash) (gone hash : Hash) → is_among hashes hash ≡ false → is_among hashes gone ≡ true → same_hash gone hash ≡ false
others hashes gone hash spared among = false_from_ne_true (same_hash gone hash) (λ e.
    let same : is_among hashes hash ≡ true = subst (λ (h : Hash). is_among hashes h ≡ true) (same_is gone hash e) among in
    absurd cc)

found_by : (b : Bool) (x : Hash × Content) (hash : Hash) (left present : Contents) → (b ≡ true → same_hash x.0 hash ≡ false) → find (λ y. same_hash y.0 hash) left ≡ find (λ y. same_hash y.0 hash) present
    → find (λ y. same_hash y.0 hash) (cond (not b) (x ∷ left) left) ≡ find (λ y. same_hash y.0 hash) (x ∷ present)
found_by true x hash left present other e = rw (other refl) e
found_by false x hash left present other e = rw e refl

found_stays : (hashes : List Hash) (present : Contents) (hash : Hash) → is_among hashes hash ≡ false → find (λ y. same_hash y.0 hash) (without hashes present) ≡ find (λ y. same_hash y.0 hash) present
found_stays hashes [] hash spared = refl
found_stays hashes (x ∷ present) hash spared = found_by (is_among hashes x.0) x hash (without hashes present) present (others hashes x.0 hash spared) (found_stays hashes present hash spared)

not_true : (b : Bool) → not b ≡ true → b ≡ false
not_true true e = absurd cc
not_true false e = refl

-- the content of a hash that isn't among them stays
pub content_stays : (hashes : List Hash) (present : Contents) (hash : Hash) → is_among hashes hash ≡ false → content_at (without hashes present) hash ≡ content_at present hash
content_stays hashes present hash spared = ap (option_map (λ (y : Hash × Content). y.1)) (found_stays hashes present hash spared)

-- and so do those of a map that is spared
pub spared_stays : (hashes : List Hash) (present : Contents) (map : Map) → has_contents present map ≡ true → spares hashes map ≡ true → has_contents (without hashes present) map ≡ true
spared_stays hashes present map there spared =
    all_both (λ x. is_there present x.1.hash) (λ x. not (is_among hashes x.1.hash)) (λ x. is_there (without hashes present) x.1.hash) map
    (λ x e f. ap is_some (content_stays hashes present x.1.hash (not_true (is_among hashes x.1.hash) f)) ∙ e) there spared
