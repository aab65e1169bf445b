-- Members of chains, by their numbers.
use Rattle.std.proofs.Common.{◌≡◌, ℕ, zero, suc, ◌-◌, ◌<◌, List, [], ◌∷◌, ◌++◌, Option, Some, None, Bool, true, false, cond, IsTrue, ◌||◌, is_some, refl, sym, ap, subst, ◌∙◌, arith}
use Rattle.std.specs.Prelude.{slice_get}
use Rattle.std.proofs.lemmas.Option.{none-some, same_Some}
use Rattle.sha2.specs.Sha256.{sha256}
use Rattle.cat_names.specs.declared.hash.Hash.{Hash}
use Rattle.cat_model.specs.declared.commit.Commit.{Commit}
use Rattle.cat_model.specs.Chain.{Commits, back, chain, commit_of, members}
use Rattle.cat_model.specs.Same.{same_hash}
use Rattle.cat_model.specs.State.{no_ancestor}
use Rattle.cat_graph.specs.GraphLaws.{same_is}
use Rattle.cat_graph.specs.Linked.{AreLinked, hashes, is_known}
use Rattle.cat_graph.proofs.Walks.{below, parent_known}

-- ---- one step

members_before : (x : Hash × Commit) (older : Commits) (hash : Hash) → same_hash x.0 hash ≡ false → members (x ∷ older) hash ≡ members older hash
members_before x older hash e = rw e refl

members_by : (b : Bool) (x : Hash × Commit) (older : Commits) (at : Hash) (c : Commit) → AreLinked (x ∷ older)
    → (commit_of older at ≡ Some c → members older at ≡ at ∷ members older c.parent)
    → cond b (Some x.1) (commit_of older at) ≡ Some c
    → cond b (at ∷ members older (x.1).parent) (members older at) ≡ at ∷ members (x ∷ older) c.parent
members_by true x older at c are more e =
    let before = members_before x older (x.1).parent (below x older (x.1).parent are (are.1).parent) in
    subst (λ (d : Commit). at ∷ members older (x.1).parent ≡ at ∷ members (x ∷ older) d.parent) (same_Some x.1 c e)
    (ap (λ (rest : List Hash). at ∷ rest) (sym before))
members_by false x older at c are more e =
    let before = members_before x older c.parent (below x older c.parent are (parent_known older at c are.2 e)) in
    more e ∙ ap (λ (rest : List Hash). at ∷ rest) (sym before)

-- the members of a commit's chain are its hash and those of its parent's
members_step : (commits : Commits) (at : Hash) (c : Commit) → AreLinked commits → commit_of commits at ≡ Some c → members commits at ≡ at ∷ members commits c.parent
members_step [] at c are e = absurd (none-some c e)
members_step (x ∷ older) at c are e = members_by (same_hash x.0 at) x older at c are (members_step older at c are.2) e

members_end_by : (b : Bool) (x : Hash × Commit) (found : Option Commit) (above older : List Hash) (at : Hash) → (found ≡ None → older ≡ at ∷ []) → cond b (Some x.1) found ≡ None → cond b above older ≡ at ∷ []
members_end_by true x found above older at more e = absurd (none-some x.1 (sym e))
members_end_by false x found above older at more e = more e

-- a hash that is no commit's is alone
members_end : (commits : Commits) (at : Hash) → commit_of commits at ≡ None → members commits at ≡ at ∷ []
members_end [] at e = refl
members_end (x ∷ older) at e = members_end_by (same_hash x.0 at) x (commit_of older at) (at ∷ members older (x.1).parent) (members older at) at (members_end older at) e

-- ---- by numbers

here_by : (b : Bool) (at : Hash) (above older : List Hash) → slice_get older 0 ≡ Some at → slice_get (cond b (at ∷ above) older) 0 ≡ Some at
here_by true at above older e = refl
here_by false at above older e = e

-- each hash is the first of its chain
pub back_here : (commits : Commits) (at : Hash) → back commits at 0 ≡ Some at
back_here [] at = refl
back_here (x ∷ older) at = here_by (same_hash x.0 at) at (members older (x.1).parent) (members older at) (back_here older at)

pub back_none_left : (commits : Commits) (at : Hash) (left : ℕ) → left ≡ 0 → back commits at left ≡ Some at
back_none_left commits at left e = ap (back commits at) e ∙ back_here commits at

-- one step further along the chain one less is left
pub back_next : (commits : Commits) (at : Hash) (c : Commit) (left : ℕ) → AreLinked commits → commit_of commits at ≡ Some c → 0 < left → back commits c.parent (left - 1) ≡ back commits at left
back_next commits at c zero are e more = absurd (omega (arith, more))
back_next commits at c (suc n) are e more =
    let less : suc n - 1 ≡ n = omega arith in
    ap (back commits c.parent) less ∙ sym (ap (λ (l : List Hash). slice_get l (suc n)) (members_step commits at c are e))

-- past a hash that is no commit's there is nothing
pub back_end : (commits : Commits) (at : Hash) (left : ℕ) → commit_of commits at ≡ None → 0 < left → back commits at left ≡ None
back_end commits at zero e more = absurd (omega (arith, more))
back_end commits at (suc n) e more = ap (λ (l : List Hash). slice_get l (suc n)) (members_end commits at e)

-- ---- all of them

all_by : (b : Bool) (x : Hash × Commit) (older : Commits) (hash : Hash) → same_hash x.0 hash ≡ b
    → members older (x.1).parent ≡ hashes (chain older (x.1).parent) ++ no_ancestor sha256 ∷ []
    → (is_known older hash ≡ true → members older hash ≡ hashes (chain older hash) ++ no_ancestor sha256 ∷ [])
    → (is_some (cond b (Some x.1) (commit_of older hash)) || same_hash (no_ancestor sha256) hash) ≡ true
    → cond b (hash ∷ members older (x.1).parent) (members older hash) ≡ hashes (cond b (x ∷ chain older (x.1).parent) (chain older hash)) ++ no_ancestor sha256 ∷ []
all_by true x older hash same above further known =
    subst (λ (h : Hash). hash ∷ members older (x.1).parent ≡ h ∷ hashes (chain older (x.1).parent) ++ no_ancestor sha256 ∷ []) (sym (same_is x.0 hash same))
    (ap (λ (rest : List Hash). hash ∷ rest) above)
all_by false x older hash same above further known = further known

-- the members of the chain of a known hash are those of its commits, and the hash that has no ancestor
all_members : (commits : Commits) (hash : Hash) → AreLinked commits → is_known commits hash ≡ true → members commits hash ≡ hashes (chain commits hash) ++ no_ancestor sha256 ∷ []
all_members [] hash are known = ap (λ (h : Hash). h ∷ []) (sym (same_is (no_ancestor sha256) hash known))
all_members (x ∷ older) hash are known =
    all_by (same_hash x.0 hash) x older hash refl (all_members older (x.1).parent are.2 (are.1).parent) (all_members older hash are.2) known

pub back_on_chain : (commits : Commits) (hash : Hash) (n : ℕ) → AreLinked commits → IsTrue (is_known commits hash) → back commits hash n ≡ slice_get (hashes (chain commits hash) ++ no_ancestor sha256 ∷ []) n
back_on_chain commits hash n are known = ap (λ (l : List Hash). slice_get l n) (all_members commits hash are known)
