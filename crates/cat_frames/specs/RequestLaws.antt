-- The format of commit requests is a code, and the catalogue logs requests that it spells.
use Rattle.std.proofs.Common.{◌≡◌, ℕ, zero, suc, ◌+◌, List, [], ◌∷◌, length, Some, None, Bool, true, false, nat_eq, refl, sym, ap, ◌∙◌}
use Rattle.std.specs.List.{cons_option, list_all}
use Rattle.std.specs.Str.{bytes_eq}
use Rattle.std.proofs.lemmas.Bool.{eq-eqb}
use Rattle.std.proofs.lemmas.Slice.Eq.{bytes_eq-Decides}
use Rattle.cat_codes.specs.declared.fault.FieldFault.TheVariants.{Range}
use Rattle.cat_codes.specs.Code.{IsCode, PlacedFit, u32_code}
use Rattle.cat_codes.specs.NumberLaws.{u32_is}
use Rattle.cat_codes.specs.FieldLaws.{by_tag_is, flag_is, nothing_is, only_is, option_is, pair_is, variant_is, within_is}
use Rattle.cat_codes.specs.ListLaws.{and_true, both_true, placed_is}
use Rattle.cat_names.specs.KeyLaws.{hash_is, key_is}
use Rattle.cat_names.specs.RefNames.{ref_name_is}
use Rattle.cat_names.specs.Fields.{Key}
use Rattle.cat_names.specs.declared.hash.ContentId.{ContentId}
use Rattle.cat_model.specs.declared.command.CommitRequest.{CommitRequest}
use Rattle.cat_model.specs.declared.content.Content.{Content}
use Rattle.cat_model.specs.declared.entry.Entry.{Entry}
use Rattle.cat_model.specs.declared.op.Op.{Op}
use Rattle.cat_model.specs.declared.op.Op.TheVariants.{Put, Delete, Unchanged}
use Rattle.cat_model.specs.Commits.{given, given_content, given_from, given_ops, given_request, puts, with_their_contents}
use Rattle.cat_model.specs.Contents.{content_code}
use Rattle.cat_model.specs.ContentLaws.{content_is}
use Rattle.cat_model.specs.FormatLaws.{meta_is, type_same}
use Rattle.cat_model.specs.Same.{same_entry}
use Rattle.cat_model.specs.State.{Digest, entry_for, fresh_id}
use Rattle.cat_model.specs.WellMade.{have_contents, is_made}
use Rattle.cat_frames.specs.Telling.{told_by_is, always_is}
use Rattle.cat_frames.specs.Requests.{Both, Change, put, delete, unchanged, change_tag, put_of, has_its_id, put_code, change_of, change_code, asked, asking, op_code, ops_of, contents_of, request_fields, request_of, request_code, is_logged, are_logged, request_is_logged}

-- ---- what is asked of a key

put_back : (change : Change) (x : Bool × Content) → put_of change ≡ Some x → put x.0 x.1 ≡ change
put_back (put fresh c) x e = let same : (fresh, c) ≡ x = cc in ap (λ (y : Bool × Content). put y.0 y.1) (sym same)
put_back delete x e = absurd cc
put_back unchanged x e = absurd cc

put_is : (id : ContentId) → IsCode (put_code id)
unfolding put_code
put_is id = variant_is _ _ _ (λ _. refl) put_back (only_is Range (has_its_id id) _ (pair_is _ _ flag_is (within_is u32_code content_code u32_is content_is)))

each : (id : ContentId) (t : ℕ) → IsCode (change_of id t)
each id zero = always_is delete
each id (suc zero) = put_is id
each id (suc (suc zero)) = always_is unchanged
each id (suc (suc (suc n))) = nothing_is

put_tag : (id : ContentId) (change : Change) → (put_code id).Fits change → change_tag change ≡ 1
unfolding put_code
put_tag id (put fresh c) fits = refl
put_tag id delete fits = let no : _ = fits.1 in absurd cc
put_tag id unchanged fits = let no : _ = fits.1 in absurd cc

tagged : (id : ContentId) (t : ℕ) (change : Change) → (change_of id t).Fits change → change_tag change ≡ t
tagged id zero change fits = ap change_tag (sym fits)
tagged id (suc zero) change fits = put_tag id change fits
tagged id (suc (suc zero)) change fits = ap change_tag (sym fits)
tagged id (suc (suc (suc n))) change fits = absurd fits

pub change_is : (id : ContentId) → IsCode (change_code id)
unfolding change_code
change_is id = by_tag_is change_tag (change_of id) (each id) (tagged id)

-- ---- operations

asked_back : (digest : Digest) (key : Key) (change : Change) → asked (asking digest (key, change)) ≡ (key, change)
asked_back digest key (put fresh c) = refl
asked_back digest key delete = refl
asked_back digest key unchanged = refl

pub op_is : (digest : Digest) (id : ContentId) → IsCode (op_code digest id)
unfolding op_code
op_is digest id = told_by_is asked (asking digest) _ (λ x fits. asked_back digest x.0 x.1) (pair_is _ _ key_is (change_is id))

-- ---- requests

-- an operation comes first of those that follow it
first_is : (digest : Digest) (x : Both) → asking digest (asked x) ≡ x → (ops : List Op) (contents : List Content) → with_their_contents (x.0 ∷ ops) (cons_option x.1 contents) ≡ x ∷ with_their_contents ops contents
first_is digest (Put key entry fresh, Some c) e ops contents = refl
first_is digest (Put key entry fresh, None) e ops contents = let no : Delete key ≡ Put key entry fresh = ap (λ (x : Both). x.0) e in absurd cc
first_is digest (Delete key, None) e ops contents = refl
first_is digest (Delete key, Some c) e ops contents = let no : None ≡ Some c = ap (λ (x : Both). x.1) e in absurd cc
first_is digest (Unchanged key, None) e ops contents = refl
first_is digest (Unchanged key, Some c) e ops contents = let no : None ≡ Some c = ap (λ (x : Both). x.1) e in absurd cc

all_back : (digest : Digest) (draft i : ℕ) (both : List Both) → PlacedFit (λ index. op_code digest (fresh_id draft index)) i both → with_their_contents (ops_of both) (contents_of both) ≡ both
unfolding op_code
all_back digest draft i [] fits = refl
all_back digest draft i (x ∷ both) fits =
    first_is digest x fits.0.1 (ops_of both) (contents_of both) ∙ ap (λ (l : List Both). x ∷ l) (all_back digest draft (suc i) both fits.1)

pub request_is : (digest : Digest) (draft : ℕ) → IsCode (request_code digest draft)
unfolding request_code
request_is digest draft = told_by_is request_fields request_of _ (λ x fits. ap (λ (l : List Both). (x.0, (x.1.0, (x.1.1.0, l)))) (all_back digest draft 0 x.1.1.1 fits.1.1.1.1))
    (pair_is _ _ ref_name_is (pair_is _ _ (option_is _ hash_is) (pair_is _ _ meta_is (placed_is (λ index. op_code digest (fresh_id draft index)) (λ index. op_is digest (fresh_id draft index))))))

-- ---- what the catalogue logs

same : (bytes : List ℕ) → bytes_eq bytes bytes ≡ true
same bytes = (bytes_eq-Decides bytes bytes).1 refl

entry_same : (e : Entry) → same_entry e e ≡ true
entry_same e = both_true _ _ (both_true _ _ (type_same e.kind) (same e.id.bytes)) (same e.hash.bytes)

given_logged : (digest : Digest) (id : ContentId) (x : Both) → is_made digest x ≡ true → is_logged digest id (given digest id x) ≡ true
given_logged digest id (Put key entry fresh, None) made = absurd cc
given_logged digest id (Put key entry true, Some c) made = both_true _ _ (entry_same (entry_for digest (given_content true id c))) (same id.bytes)
given_logged digest id (Put key entry false, Some c) made = both_true _ _ (entry_same (entry_for digest c)) refl
given_logged digest id (Delete key, content) made = refl
given_logged digest id (Unchanged key, content) made = refl

all_logged : (digest : Digest) (draft i : ℕ) (both : List Both) → list_all (is_made digest) both ≡ true → are_logged digest draft i (given_from digest draft i both) ≡ true
all_logged digest draft i [] made = refl
all_logged digest draft i (x ∷ both) made =
    let own = and_true (is_made digest x) (list_all (is_made digest) both) made in
    both_true _ _ (given_logged digest (fresh_id draft i) x own.0) (all_logged digest draft (i + 1) both own.1)

abbrev its : Digest → ℕ → ℕ → List Op → List Content → List Both
its digest draft i ops contents = given_from digest draft i (with_their_contents ops contents)

-- they stand with their contents as before
given_stay : (digest : Digest) (draft i : ℕ) (ops : List Op) (contents : List Content) → list_all (is_made digest) (with_their_contents ops contents) ≡ true
    → with_their_contents (ops_of (its digest draft i ops contents)) (contents_of (its digest draft i ops contents)) ≡ its digest draft i ops contents
given_stay digest draft i [] contents made = refl
given_stay digest draft i (Put key entry fresh ∷ ops) [] made = absurd cc
given_stay digest draft i (Put key entry fresh ∷ ops) (c ∷ contents) made =
    ap (λ (l : List Both). given digest (fresh_id draft i) (Put key entry fresh, Some c) ∷ l) (given_stay digest draft (i + 1) ops contents (and_true (is_made digest (Put key entry fresh, Some c)) (list_all (is_made digest) (with_their_contents ops contents)) made).1)
given_stay digest draft i (Delete key ∷ ops) contents made = ap (λ (l : List Both). (Delete key, None) ∷ l) (given_stay digest draft (i + 1) ops contents made)
given_stay digest draft i (Unchanged key ∷ ops) contents made = ap (λ (l : List Both). (Unchanged key, None) ∷ l) (given_stay digest draft (i + 1) ops contents made)

-- as many contents as PUTs
as_many : (digest : Digest) (draft i : ℕ) (ops : List Op) (contents : List Content) → list_all (is_made digest) (with_their_contents ops contents) ≡ true
    → length (contents_of (its digest draft i ops contents)) ≡ puts (ops_of (its digest draft i ops contents))
as_many digest draft i [] contents made = refl
as_many digest draft i (Put key entry fresh ∷ ops) [] made = absurd cc
as_many digest draft i (Put key entry fresh ∷ ops) (c ∷ contents) made =
    ap suc (as_many digest draft (i + 1) ops contents (and_true (is_made digest (Put key entry fresh, Some c)) (list_all (is_made digest) (with_their_contents ops contents)) made).1)
as_many digest draft i (Delete key ∷ ops) contents made = as_many digest draft (i + 1) ops contents made
as_many digest draft i (Unchanged key ∷ ops) contents made = as_many digest draft (i + 1) ops contents made

-- a request that is well made is logged as one that has a spelling
pub given_is_logged : (digest : Digest) (draft : ℕ) (c : CommitRequest) → have_contents digest c.ops c.contents ≡ true → request_is_logged digest draft (given_request digest draft c) ≡ true
unfolding have_contents request_is_logged given_request given_ops
given_is_logged digest draft c have =
    let made = (and_true (nat_eq (length c.contents) (puts c.ops)) (list_all (is_made digest) (with_their_contents c.ops c.contents)) have).1 in
    both_true _ _ (eq-eqb _ _ (as_many digest draft 0 c.ops c.contents made))
    (ap (are_logged digest draft 0) (given_stay digest draft 0 c.ops c.contents made) ∙ all_logged digest draft 0 (with_their_contents c.ops c.contents) made)
