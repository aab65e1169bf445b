-- What a checkpoint that fits says of the state in it: each record stands under its hash, and the checkpoint is that state's.
use Rattle.std.proofs.Common.{◌≡◌, Bool, true, false, ◌&&◌, List, [], ◌∷◌, reverse, Option, Some, None, refl, ap, subst, ◌∙◌}
use Rattle.std.specs.declared.cmp.Ordering.{Ordering}
use Rattle.std.specs.declared.cmp.Ordering.TheVariants.{Less, Equal, Greater}
use Rattle.std.specs.List.{AllByRecursion}
use Rattle.std.specs.Ordering.{is_lt}
use Rattle.std.proofs.lemmas.Bool.{and_parts}
use Rattle.std.proofs.lemmas.List.{reverse-append, reverse-reverse}
use Rattle.std.proofs.lemmas.List.Sums.{fold-append}
use Rattle.std.proofs.lemmas.Slice.Eq.{bytes_eq-Decides}
use Rattle.sha2.specs.Sha256.{sha256}
use Rattle.cat_codes.specs.Code.{Code, ascending_keys, follows, keys_ascend, list}
use Rattle.cat_model.specs.declared.limits.Limits.{Limits}
use Rattle.cat_model.specs.Contents.{content_code}
use Rattle.cat_model.specs.Formats.{commit_code}
use Rattle.cat_model.specs.KeySets.{one_placed, set_of, with_one}
use Rattle.cat_model.specs.State.{Digest}
use Rattle.cat_names.specs.declared.hash.Hash.{Hash}
use Rattle.cat_frames.specs.declared.checkpoint.Checkpoint.{Checkpoint}
use Rattle.cat_frames.specs.Bases.{checkpoint_of, state_in}
use Rattle.cat_frames.specs.Checkpoints.{by_hash, checkpoint_code, commits_code, contents_code, has_hash, hashed, have_hashes, record_hash}

-- ---- ascending lists

is_less : (o : Ordering) → is_lt o ≡ true → o ≡ Less
is_less Less e = refl
is_less Equal e = absurd cc
is_less Greater e = absurd cc

module _ {A : Type 0} (cmp : A → A → Ordering) where
  -- what is below them all goes first
  goes_first : (x : A) (xs : List A) → keys_ascend cmp (Some x) xs ≡ true → with_one cmp xs x ≡ x ∷ xs
  goes_first x [] ascend = refl
  goes_first x (y ∷ ys) ascend = ap (λ (o : Ordering). one_placed o x y ys (with_one cmp ys x)) (is_less (cmp x y) (and_parts (follows cmp (Some x) y) (keys_ascend cmp (Some y) ys) ascend).0)

  -- from the last one on they make the same list
  pub set_again : (last : Option A) (xs : List A) → keys_ascend cmp last xs ≡ true → set_of cmp (reverse xs) ≡ xs
  set_again last [] ascend = refl
  set_again last (x ∷ xs) ascend =
      let rest = (and_parts (follows cmp last x) (keys_ascend cmp (Some x) xs) ascend).1 in
      ap (set_of cmp) (reverse-append (x ∷ []) xs) ∙ fold-append (with_one cmp) [] (reverse xs) (x ∷ []) ∙ ap (λ (l : List A). with_one cmp l x) (set_again (Some x) xs rest) ∙ goes_first x xs rest

-- ---- hashes

both_true : (a b : Bool) → a ≡ true → b ≡ true → (a && b) ≡ true
both_true true b e f = f
both_true false b e f = absurd cc

all_hashed : {A : Type 0} (digest : Digest) (a : Code A) (xs : List (Hash × A)) → AllByRecursion (hashed digest a).Fits xs → have_hashes digest a xs ≡ true
all_hashed digest a [] fits = refl
all_hashed {A} digest a (x ∷ xs) fits =
    let own : (record_hash digest a x.1, x.1) ≡ x = fits.0.1 in
    let first : has_hash digest a x ≡ true = subst (λ (y : Hash × A). has_hash digest a y ≡ true) own ((bytes_eq-Decides (record_hash digest a x.1).bytes (record_hash digest a x.1).bytes).1 refl) in
    both_true (has_hash digest a x) (have_hashes digest a xs) first (all_hashed digest a xs fits.1)

pub fits_commits : (c : Checkpoint) → (checkpoint_code sha256).Fits c → have_hashes sha256 commit_code c.commits ≡ true
unfolding checkpoint_code commits_code list
fits_commits c fits = all_hashed sha256 commit_code c.commits fits.1.1.1.1.0.1

pub fits_contents : (c : Checkpoint) → (checkpoint_code sha256).Fits c → have_hashes sha256 content_code c.contents ≡ true
unfolding checkpoint_code contents_code ascending_keys
fits_contents c fits = all_hashed sha256 content_code c.contents fits.1.1.1.1.1.1

pub fits_ascend : (c : Checkpoint) → (checkpoint_code sha256).Fits c → keys_ascend by_hash None c.contents ≡ true
unfolding checkpoint_code contents_code ascending_keys
fits_ascend c fits = fits.1.1.1.1.1.2

-- ---- the state in it

pub state_again : (limits : Limits) (c : Checkpoint) → keys_ascend by_hash None c.contents ≡ true → checkpoint_of (state_in limits c) c.draft c.drafts ≡ c
state_again limits c ascend = λ i. record c { commits = reverse-reverse c.commits i; contents = set_again by_hash None c.contents ascend i }
