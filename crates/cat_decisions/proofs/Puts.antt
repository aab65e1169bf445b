-- Contents of what the operations of a request set.
use Rattle.std.proofs.Common.{◌≡◌, ℕ, ◌+◌, List, [], ◌∷◌, Option, Some, None, Bool, true, false, cond, nat_eq, length, map, filter_map, flat_map, refl, sym, ap, subst, ◌∙◌}
use Rattle.std.specs.List.{cons_option, list_all, list_any}
use Rattle.std.specs.Ordering.{is_lt}
use Rattle.sha2.specs.Sha256.{sha256}
use Rattle.cat_names.specs.Fields.{key_cmp}
use Rattle.cat_names.specs.declared.hash.ContentId.{ContentId}
use Rattle.cat_names.specs.declared.hash.Hash.{Hash}
use Rattle.cat_keymap.specs.KeyOrder.{and_true, both_true}
use Rattle.cat_model.specs.declared.command.CommitRequest.{CommitRequest}
use Rattle.cat_model.specs.declared.content.Content.{Content}
use Rattle.cat_model.specs.declared.op.Op.{Op}
use Rattle.cat_model.specs.declared.op.Op.TheVariants.{Put, Delete, Unchanged}
use Rattle.cat_model.specs.declared.reference.Reference.{Reference}
use Rattle.cat_model.specs.Chain.{entries}
use Rattle.cat_model.specs.Commits.{given, given_from, given_ops, puts, with_their_contents}
use Rattle.cat_model.specs.Judge.{by_key, changes_of, op_changes, op_key, with_op}
use Rattle.cat_model.specs.Maps.{Map, after_changes}
use Rattle.cat_model.specs.Merges.{entries_set}
use Rattle.cat_model.specs.Same.{same_hash}
use Rattle.cat_model.specs.State.{State, content_hash, fresh_id}
use Rattle.cat_model.specs.WellMade.{have_contents, is_made}
use Rattle.cat_state.specs.Adding.{AreHashesOf}
use Rattle.cat_state.specs.HeldLaws.{all_among, held_after}
use Rattle.cat_state.specs.Keeping.{has_contents, is_held}
use Rattle.cat_decisions.specs.declared.given.Given.{Given}
use Rattle.cat_model.specs.Walks.{listed}
use Rattle.cat_decisions.specs.Builds.{IsGiven}
use Rattle.cat_decisions.specs.KeyLaws.{Both}
use Rattle.cat_decisions.proofs.Steps.{AreGiven, given_is}

-- the hash of each entry that an operation sets passes
abbrev sets : (Hash → Bool) → Op → Bool
sets pass op = list_all (λ x. pass x.1.hash) (entries_set (op_changes op))

abbrev hashes_of : List Content → List Hash
hashes_of contents = map (content_hash sha256) contents

-- ---- operations that are given their ids

one_set : (pass : Hash → Bool) (id : ContentId) (x : Both) → is_made sha256 x ≡ true → list_all pass (hashes_of (listed (given sha256 id x).1)) ≡ true → sets pass (given sha256 id x).0 ≡ true
one_set pass id (Put key entry fresh, None) made are = absurd cc
one_set pass id (Put key entry fresh, Some c) made are = are
one_set pass id (Delete key, content) made are = refl
one_set pass id (Unchanged key, content) made are = refl

parted : (pass : Hash → Bool) (own : Option Content) (contents : List Content) → list_all pass (hashes_of (cons_option own contents)) ≡ true → (list_all pass (hashes_of (listed own)) ≡ true) × (list_all pass (hashes_of contents) ≡ true)
parted pass None contents are = (refl, are)
parted pass (Some c) contents are =
    let both = and_true (pass (content_hash sha256 c)) (list_all pass (hashes_of contents)) are in
    (both_true _ _ both.0 refl, both.1)

-- each PUT sets the hash of its content
from_set : (pass : Hash → Bool) (draft i : ℕ) (xs : List Both) → list_all (is_made sha256) xs ≡ true → list_all pass (hashes_of (filter_map (λ (b : Both). b.1) (given_from sha256 draft i xs))) ≡ true
    → list_all (sets pass) (map (λ (b : Both). b.0) (given_from sha256 draft i xs)) ≡ true
from_set pass draft i [] made are = refl
from_set pass draft i (x ∷ xs) made are =
    let own = and_true (is_made sha256 x) (list_all (is_made sha256) xs) made in
    let parts = parted pass (given sha256 (fresh_id draft i) x).1 (filter_map (λ (b : Both). b.1) (given_from sha256 draft (i + 1) xs)) are in
    both_true _ _ (one_set pass (fresh_id draft i) x own.0 parts.0) (from_set pass draft (i + 1) xs own.1 parts.1)

-- ---- their changes

all_with : (pass : Op → Bool) (op : Op) (ops : List Op) → pass op ≡ true → list_all pass ops ≡ true → list_all pass (with_op op ops) ≡ true
all_with pass op [] own are = both_true _ _ own refl
all_with pass op (first ∷ ops) own are =
    let both = and_true (pass first) (list_all pass ops) are in
    by (is_lt (key_cmp (op_key op) (op_key first))) (both_true _ _ own are) (both_true _ _ both.0 (all_with pass op ops own both.1))
  where
    by : (b : Bool) → list_all pass (op ∷ first ∷ ops) ≡ true → list_all pass (first ∷ with_op op ops) ≡ true → list_all pass (cond b (op ∷ first ∷ ops) (first ∷ with_op op ops)) ≡ true
    by true here later = here
    by false here later = later

all_by_key : (pass : Op → Bool) (ops : List Op) → list_all pass ops ≡ true → list_all pass (by_key ops) ≡ true
all_by_key pass [] are = refl
all_by_key pass (op ∷ ops) are =
    let both = and_true (pass op) (list_all pass ops) are in
    all_with pass op (by_key ops) both.0 (all_by_key pass ops both.1)

changes_set : (pass : Hash → Bool) (ops : List Op) → list_all (sets pass) ops ≡ true → list_all (λ x. pass x.1.hash) (entries_set (flat_map op_changes ops)) ≡ true
changes_set pass [] are = refl
changes_set pass (Put key entry fresh ∷ ops) are =
    let both = and_true (sets pass (Put key entry fresh)) (list_all (sets pass) ops) are in
    both_true _ _ (and_true (pass entry.hash) true both.0).0 (changes_set pass ops both.1)
changes_set pass (Delete key ∷ ops) are = changes_set pass ops are
changes_set pass (Unchanged key ∷ ops) are = changes_set pass ops are

made_of : (c : CommitRequest) → have_contents sha256 c.ops c.contents ≡ true → list_all (is_made sha256) (with_their_contents c.ops c.contents) ≡ true
unfolding have_contents
made_of c have = (and_true (nat_eq (length c.contents) (puts c.ops)) (list_all (is_made sha256) (with_their_contents c.ops c.contents)) have).1

-- what the operations of a request set has the hashes of its contents
puts_set : (draft : ℕ) (c : CommitRequest) (ops : List Op) (contents : List Content) (hashes : List Hash) → AreGiven draft c ops contents → have_contents sha256 c.ops c.contents ≡ true → AreHashesOf hashes contents
    → list_all (λ x. list_any (λ other. same_hash other x.1.hash) hashes) (entries_set (changes_of ops)) ≡ true
unfolding changes_of given_ops
puts_set draft c ops contents hashes g have are =
    let pass : Hash → Bool = λ hash. list_any (λ other. same_hash other hash) hashes in
    let all : list_all pass (hashes_of (filter_map (λ (b : Both). b.1) (given_from sha256 draft 0 (with_their_contents c.ops c.contents)))) ≡ true =
    subst (λ (l : List Hash). list_all pass l ≡ true) (are ∙ ap hashes_of g.contents_are) (all_among hashes) in
    changes_set pass (by_key ops) (all_by_key (sets pass) ops (subst (λ (l : List Op). list_all (sets pass) l ≡ true) (sym g.ops_are) (from_set pass draft 0 (with_their_contents c.ops c.contents) (made_of c have) all)))

-- each content of the map after the operations is there or among those of the request
pub map_held : (state : State) (draft : ℕ) (c : CommitRequest) (branch : Reference) (g : Given) (map : Map) → IsGiven draft c g → have_contents sha256 c.ops c.contents ≡ true
    → has_contents state.present (entries state.commits branch.head) ≡ true → map ≡ after_changes (changes_of g.ops) (entries state.commits branch.head) → list_all (λ x. is_held state.present (g.hashes).items x.1.hash) map ≡ true
map_held state draft c branch g map given have there changed =
    rw changed (held_after state.present (g.hashes).items (changes_of g.ops) (entries state.commits branch.head) there (puts_set draft c g.ops g.contents (g.hashes).items (given_is draft c g given) have given.hashes))
