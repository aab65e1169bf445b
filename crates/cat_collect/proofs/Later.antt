-- What was walked stays so, whatever commits are added.
use Rattle.std.proofs.Common.{◌≡◌, ℕ, ◌+◌, List, [], ◌∷◌, Bool, true, false, cond, map, refl, sym, ap, ◌∙◌}
use Rattle.std.specs.List.{list_all}
use Rattle.std.proofs.lemmas.Bool.{and_parts}
use Rattle.cat_core.proofs.Looking.{chain_known, same_lists}
use Rattle.cat_decisions.specs.AddedLaws.{chain_later, entries_later, known_later}
use Rattle.cat_graph.specs.Linked.{AreLinked, is_known}
use Rattle.cat_mark.specs.Marks.{hashes}
use Rattle.cat_mark.specs.Walked.{AreWalked, Step, live_on, shown_at}
use Rattle.cat_model.specs.declared.commit.Commit.{Commit}
use Rattle.cat_model.specs.declared.cutoff.Cutoff.{Cutoff}
use Rattle.cat_model.specs.declared.entry.Entry.{Entry}
use Rattle.cat_model.specs.Base.{is_among}
use Rattle.cat_model.specs.Chain.{Commits, chain}
use Rattle.cat_model.specs.Cutoffs.{keeps, kept_from, visible}
use Rattle.cat_model.specs.Later.{Adds}
use Rattle.cat_model.specs.Maps.{Map}
use Rattle.cat_names.specs.Fields.{Key}
use Rattle.cat_names.specs.declared.hash.Hash.{Hash}

-- what holds of all commits holds of those that are kept from one index on
all_from : (p : Hash × Commit → Bool) (cutoff : Cutoff) (index : ℕ) (some : Commits) → list_all p some ≡ true → list_all p (kept_from cutoff index some) ≡ true
all_from p cutoff index [] are = refl
all_from p cutoff index (x ∷ rest) are =
    let both = and_parts (p x) (list_all p rest) are in
    by (keeps cutoff index x.1.time) both.0 (all_from p cutoff (index + 1) rest both.1)
  where
    by : (b : Bool) → p x ≡ true → list_all p (kept_from cutoff (index + 1) rest) ≡ true → list_all p (cond b (x ∷ kept_from cutoff (index + 1) rest) []) ≡ true
    by true first more = rw (first, more) refl
    by false first more = refl

-- what is live from a commit that is known
live_on_later : (older newer : Commits) (cutoff : Cutoff) (index : ℕ) (at : Hash) → AreLinked newer → Adds older newer → is_known older at ≡ true → live_on newer cutoff index at ≡ live_on older cutoff index at
live_on_later older newer cutoff index at are adds known =
    ap (λ (l : Commits). shown_at newer (kept_from cutoff index l)) (chain_later older newer at are adds known)
    ∙ same_lists (λ (x : Hash × Commit). is_known older x.0) (λ (x : Hash × Commit). visible newer x.0) (λ (x : Hash × Commit). visible older x.0) (kept_from cutoff index (chain older at))
    (λ x k. ap (map (λ (y : Key × Entry). y.1.hash)) (entries_later older newer x.0 are adds k)) (all_from (λ x. is_known older x.0) cutoff index (chain older at) (chain_known older at))

pub walked_later : (older newer : Commits) (marks : List Hash) (walked : List (Hash × Step)) → AreLinked newer → Adds older newer → AreWalked older marks walked → AreWalked newer marks walked
walked_later older newer marks walked are adds was hash step found = let then = was hash step found in record {
  known = known_later older newer hash adds then.known;
  kept = λ x e. then.kept x (ap (λ (l : List Hash). is_among l x) (sym (live_on_later older newer step.0 step.1 hash are adds then.known)) ∙ e);
  shows = λ x e. then.shows x (ap (λ (m : Map). is_among (hashes m) x) (sym (entries_later older newer hash are adds then.known)) ∙ e);
}
