-- Checkpoints of states: that they can be spelled, and the place that is found in their bytes.
use Rattle.std.proofs.Common.{◌≡◌, ◌<◌, ◌≤◌, ◌^◌, ℕ, length, Result, Ok, Err, IfErr, List, [], ◌∷◌, reverse, Option, Some, None, Bool, true, ◌&&◌, fold, refl, ap, ◌∙◌}
use Rattle.std.proofs.lemmas.Bool.{and_from, and_parts}
use Rattle.std.proofs.lemmas.Cmp.{nat_list_cmp_total}
use Rattle.std.proofs.lemmas.List.{reverse-append}
use Rattle.std.proofs.lemmas.List.Folds.{list_all-append}
use Rattle.std.proofs.lemmas.Nat.{from_be_bytes-to_be_bytes_4}
use Rattle.std.specs.List.{list_all}
use Rattle.std.specs.Ordering.{is_lt, nat_cmp, ordering_reverse}
use Rattle.std.specs.declared.cmp.Ordering.{Ordering}
use Rattle.std.specs.declared.cmp.Ordering.TheVariants.{Less, Equal, Greater}
use Rattle.sha2.specs.Sha256.{sha256}
use Rattle.cat_codes.specs.Code.{follows, keys_ascend, u32_spelling, whole}
use Rattle.cat_frames.specs.declared.checkpoint.Checkpoint.{Checkpoint}
use Rattle.cat_frames.specs.Bases.{by_hashes, checkpoint_of}
use Rattle.cat_frames.specs.Checkpoints.{are_contents_spelled, are_drafts_spelled, are_open_drafts, by_hash, checkpoint_code, has_hash, have_hashes, is_spelled, name_cmp}
use Rattle.cat_keeper.specs.Bases.{base_place}
use Rattle.cat_model.specs.declared.content.Content.{Content}
use Rattle.cat_model.specs.declared.reference.Reference.{Reference}
use Rattle.cat_model.specs.Contents.{content_code}
use Rattle.cat_model.specs.Formats.{commit_code}
use Rattle.cat_model.specs.KeySets.{one_placed, with_one}
use Rattle.cat_model.specs.State.{State}
use Rattle.cat_names.specs.declared.hash.Hash.{Hash}
use Rattle.cat_tables.specs.References.{is_below, names_ascend}
use Rattle.cat_state.specs.declared.failure.Failure.TheVariants as failures
use Rattle.cat_state.specs.declared.unmade.Unmade.{Unmade}
use Rattle.cat_state.specs.declared.unmade.Unmade.TheVariants.{Failed, NotKept}
use Rattle.cat_state.specs.Basing.{IfWritten, IsCheckpointed, Spells, base_of_state, most_bytes}
use Rattle.cat_state.specs.Kept.{IsUnrefused}

-- ---- names

names_after : (last : Reference) (xs : List Reference) → list_all (λ r. is_below last.name r.name) xs ≡ true → names_ascend xs ≡ true → keys_ascend name_cmp (Some last) xs ≡ true
names_after last [] above ascend = refl
names_after last (x ∷ xs) above ascend =
    let a = and_parts (is_below last.name x.name) (list_all (λ r. is_below last.name r.name) xs) above in
    let b = and_parts (list_all (λ r. is_below x.name r.name) xs) (names_ascend xs) ascend in
    and_from (follows name_cmp (Some last) x) (keys_ascend name_cmp (Some x) xs) a.0 (names_after x xs b.0 b.1)

-- each above the one before
names_follow : (xs : List Reference) → names_ascend xs ≡ true → keys_ascend name_cmp None xs ≡ true
names_follow [] ascend = refl
names_follow (x ∷ xs) ascend =
    let b = and_parts (list_all (λ r. is_below x.name r.name) xs) (names_ascend xs) ascend in
    names_after x xs b.0 b.1

-- ---- lists the other way round, and sets

module _ {A : Type 0} where
  all_reversed : (p : A → Bool) (xs : List A) → list_all p xs ≡ true → list_all p (reverse xs) ≡ true
  all_reversed p [] all = refl
  all_reversed p (x ∷ xs) all =
      let parts = and_parts (p x) (list_all p xs) all in
      ap (list_all p) (reverse-append (x ∷ []) xs) ∙ list_all-append p (reverse xs) (x ∷ [])
      ∙ and_from (list_all p (reverse xs)) (list_all p (x ∷ [])) (all_reversed p xs parts.1) (and_from (p x) true parts.0 refl)

  module _ (cmp : A → A → Ordering) (flips : (x y : A) → cmp x y ≡ ordering_reverse (cmp y x)) where
    placed_ascends : (o : Ordering) (last : Option A) (x first : A) (xs added : List A) → cmp x first ≡ o → follows cmp last x ≡ true → keys_ascend cmp last (first ∷ xs) ≡ true
        → (follows cmp (Some first) x ≡ true → keys_ascend cmp (Some first) added ≡ true) → keys_ascend cmp last (one_placed o x first xs added) ≡ true
    placed_ascends Less last x first xs added e above ascend more =
        let parts = and_parts (follows cmp last first) (keys_ascend cmp (Some first) xs) ascend in
        and_from (follows cmp last x) (keys_ascend cmp (Some x) (first ∷ xs)) above (and_from (follows cmp (Some x) first) (keys_ascend cmp (Some first) xs) (ap is_lt e) parts.1)
    placed_ascends Equal last x first xs added e above ascend more = ascend
    placed_ascends Greater last x first xs added e above ascend more =
        let parts = and_parts (follows cmp last first) (keys_ascend cmp (Some first) xs) ascend in
        and_from (follows cmp last first) (keys_ascend cmp (Some first) added) parts.0 (more (ap is_lt (flips first x ∙ ap ordering_reverse e)))

    one_ascends : (last : Option A) (xs : List A) (x : A) → follows cmp last x ≡ true → keys_ascend cmp last xs ≡ true → keys_ascend cmp last (with_one cmp xs x) ≡ true
    one_ascends last [] x above ascend = and_from (follows cmp last x) true above refl
    one_ascends last (first ∷ xs) x above ascend =
        let parts = and_parts (follows cmp last first) (keys_ascend cmp (Some first) xs) ascend in
        placed_ascends (cmp x first) last x first xs (with_one cmp xs x) refl above ascend (λ lower. one_ascends (Some first) xs x lower parts.1)

    fold_ascends : (added xs : List A) → keys_ascend cmp None added ≡ true → keys_ascend cmp None (fold (with_one cmp) added xs) ≡ true
    fold_ascends added [] ascend = ascend
    fold_ascends added (x ∷ xs) ascend = fold_ascends (with_one cmp added x) xs (one_ascends None added x refl ascend)

  module _ (cmp : A → A → Ordering) (p : A → Bool) where
    placed_pass : (o : Ordering) (x first : A) (xs added : List A) → p x ≡ true → list_all p (first ∷ xs) ≡ true → list_all p added ≡ true → list_all p (one_placed o x first xs added) ≡ true
    placed_pass Less x first xs added own all more = and_from (p x) (list_all p (first ∷ xs)) own all
    placed_pass Equal x first xs added own all more = all
    placed_pass Greater x first xs added own all more = and_from (p first) (list_all p added) (and_parts (p first) (list_all p xs) all).0 more

    one_passes : (xs : List A) (x : A) → p x ≡ true → list_all p xs ≡ true → list_all p (with_one cmp xs x) ≡ true
    one_passes [] x own all = and_from (p x) true own refl
    one_passes (first ∷ xs) x own all = placed_pass (cmp x first) x first xs (with_one cmp xs x) own all (one_passes xs x own (and_parts (p first) (list_all p xs) all).1)

    fold_passes : (added xs : List A) → list_all p added ≡ true → list_all p xs ≡ true → list_all p (fold (with_one cmp) added xs) ≡ true
    fold_passes added [] all more = all
    fold_passes added (x ∷ xs) all more =
        let parts = and_parts (p x) (list_all p xs) more in
        fold_passes (with_one cmp added x) xs (one_passes added x parts.0 all) parts.1

hashes_flip : (x y : Hash × Content) → by_hash x y ≡ ordering_reverse (by_hash y x)
hashes_flip x y = nat_list_cmp_total.antisymm (x.0).bytes (y.0).bytes

-- ---- all of it

-- the checkpoint of a state has a spelling
pub state_spelled : (s : State) (draft : ℕ) (drafts : List ℕ) → IsCheckpointed s draft drafts → names_ascend s.references ≡ true → is_spelled sha256 (checkpoint_of s draft drafts) ≡ true
unfolding is_spelled
state_spelled s draft drafts is names =
    let ascend : keys_ascend by_hash None (by_hashes s.present) ≡ true = fold_ascends by_hash hashes_flip [] s.present refl in
    let hashed : have_hashes sha256 content_code (by_hashes s.present) ≡ true = fold_passes by_hash (has_hash sha256 content_code) [] s.present refl is.contents in
    let c = checkpoint_of s draft drafts in
    let a = are_drafts_spelled c in
    let b = keys_ascend name_cmp None c.references in
    let h = have_hashes sha256 commit_code c.commits in
    let one : a ≡ true = and_from (keys_ascend nat_cmp None drafts) (are_open_drafts draft drafts) is.ascend is.below in
    let two : (a && b) ≡ true = and_from a b one (names_follow s.references names) in
    let three : (a && b && h) ≡ true = and_from (a && b) h two (all_reversed (has_hash sha256 commit_code) s.commits is.commits) in
    and_from (a && b && h) (are_contents_spelled sha256 c.contents) three
    (and_from (keys_ascend by_hash None (by_hashes s.present)) (have_hashes sha256 content_code (by_hashes s.present)) ascend hashed)

-- its place is in its bytes
pub place_spelled : (s : State) (draft : ℕ) (drafts : List ℕ) → s.place < 2 ^ 32 → base_place (base_of_state s draft drafts) ≡ s.place
unfolding checkpoint_code u32_spelling
place_spelled s draft drafts short = from_be_bytes-to_be_bytes_4 s.place short

-- ---- what keeping it comes to

-- what the rules don't refuse, of bytes that are no more than a payload's
pub spells_kept : {T : Type 0} (bytes : List ℕ) (result : Result T Unmade) → length bytes ≤ most_bytes → IfErr result IsUnrefused → Spells bytes result
spells_kept bytes (Ok x) few unrefused = few
spells_kept bytes (Err NotKept) few unrefused = few
spells_kept bytes (Err (Failed failures.NoMemory)) few unrefused = tt
spells_kept bytes (Err (Failed (failures.Refused why))) few unrefused = absurd unrefused

-- bytes that were given to a keeper are read as they are
pub read_kept : {T : Type 0} (bytes : List ℕ) (c : Checkpoint) (result : Result T Unmade) → whole (checkpoint_code sha256) bytes ≡ Ok c → IfWritten result (whole (checkpoint_code sha256) bytes ≡ Ok c)
read_kept bytes c (Ok x) reads = reads
read_kept bytes c (Err NotKept) reads = reads
read_kept bytes c (Err (Failed failure)) reads = tt
