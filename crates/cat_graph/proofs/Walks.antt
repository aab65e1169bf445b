-- The walk from a commit to its parent.
use Rattle.std.proofs.Common.{◌≡◌, ℕ, ◌+◌, ◌<◌, ◌≤◌, List, [], ◌∷◌, ◌++◌, Bor, Option, Some, None, Bool, true, false, cond, length, take, is_some, not, nat_eq, ◌||◌, ◌&&◌, refl, sym, ap, subst, ◌∙◌, append_assoc, arith}
use Rattle.std.proofs.lemmas.Bool.{not-true, eqb-true, eq-eqb, ne_eqb, and_parts}
use Rattle.std.proofs.lemmas.Bool.Decides.{same_from_decides}
use Rattle.std.specs.Cmp.{unsigned_Decides}
use Rattle.std.proofs.lemmas.Option.{none-some, same_Some}
use Rattle.std.proofs.lemmas.List.{length-map, map-append, append-nil, take_at, take_all}
use Rattle.std.specs.Option.{option_map}
use Rattle.sha2.specs.Sha256.{sha256}
use Rattle.cat_names.specs.declared.hash.Hash.{Hash}
use Rattle.cat_model.specs.declared.commit.Commit.{Commit}
use Rattle.cat_model.specs.Chain.{Commits, commit_of, chain, on_chain, generation}
use Rattle.cat_model.specs.Same.{same_hash}
use Rattle.cat_model.specs.State.{no_ancestor}
use Rattle.cat_tables.specs.LookUps.{value_is_only}
use Rattle.cat_tables.specs.Tables.{are_distinct, value_of}
use Rattle.cat_graph.specs.Linked.{is_known, is_merge_known, next_generation, is_next, IsNext, AreLinked, values}
use Rattle.cat_graph.specs.GraphLaws.{same_is, apart}

-- ---- look-ups

pub commit_is : (commits : Commits) (hash : Hash) → commit_of commits hash ≡ value_of commits hash
commit_is commits hash = value_is_only commit_of (λ h. refl) (λ x older h. refl) commits hash

-- no hash of linked commits comes twice
pub linked_distinct : (commits : Commits) → AreLinked commits → are_distinct commits ≡ true
linked_distinct [] are = refl
linked_distinct (x ∷ older) are = rw (sym (commit_is older x.0) ∙ are.0) (linked_distinct older are.2)

-- a look-up that found nothing
pub nothing_there : (found : Option (Bor Commit)) (there : Option Commit) → option_map (λ (c : Bor Commit). c.now) found ≡ there → found ≡ None → there ≡ None
nothing_there found there e none = sym e ∙ ap (λ (o : Option (Bor Commit)). option_map (λ (c : Bor Commit). c.now) o) none

-- the generation of a commit; 0 where there is none
abbrev own_generation : Option Commit → ℕ
own_generation None = 0
own_generation (Some c) = c.generation

generation_by : (b : Bool) (c : Commit) (older : ℕ) (found : Option Commit) → older ≡ own_generation found → cond b c.generation older ≡ own_generation (cond b (Some c) found)
generation_by true c older found e = refl
generation_by false c older found e = e

own_generation_is : (commits : Commits) (hash : Hash) → generation commits hash ≡ own_generation (commit_of commits hash)
own_generation_is [] hash = refl
own_generation_is (x ∷ older) hash = generation_by (same_hash x.0 hash) x.1 (generation older hash) (commit_of older hash) (own_generation_is older hash)

pub generation_none : (commits : Commits) (hash : Hash) → commit_of commits hash ≡ None → generation commits hash ≡ 0
generation_none commits hash e = own_generation_is commits hash ∙ ap own_generation e

pub generation_some : (commits : Commits) (hash : Hash) (c : Commit) → commit_of commits hash ≡ Some c → generation commits hash ≡ c.generation
generation_some commits hash c e = own_generation_is commits hash ∙ ap own_generation e

-- ---- hashes

more_by : (b : Bool) (c : Commit) (found : Option Commit) (none : Bool) → (is_some found || none) ≡ true → (is_some (cond b (Some c) found) || none) ≡ true
more_by true c found none e = refl
more_by false c found none e = e

pub known_more : (x : Hash × Commit) (older : Commits) (hash : Hash) → is_known older hash ≡ true → is_known (x ∷ older) hash ≡ true
known_more x older hash e = more_by (same_hash x.0 hash) x.1 (commit_of older hash) (same_hash (no_ancestor sha256) hash) e

parent_by : (b : Bool) (x : Hash × Commit) (older : Commits) (at : Hash) (c : Commit) → is_known older (x.1).parent ≡ true → (commit_of older at ≡ Some c → is_known older c.parent ≡ true)
    → cond b (Some x.1) (commit_of older at) ≡ Some c → is_known older c.parent ≡ true
parent_by true x older at c parent more e = subst (λ (d : Commit). is_known older d.parent ≡ true) (same_Some x.1 c e) parent
parent_by false x older at c parent more e = more e

-- the parent of a commit is known
pub parent_known : (commits : Commits) (at : Hash) (c : Commit) → AreLinked commits → commit_of commits at ≡ Some c → is_known commits c.parent ≡ true
parent_known [] at c are e = absurd (none-some c e)
parent_known (x ∷ older) at c are e =
    known_more x older c.parent (parent_by (same_hash x.0 at) x older at c (are.1).parent (parent_known older at c are.2) e)

-- ---- chains

-- the newest commit is on no chain of a hash known before
chain_before : (x : Hash × Commit) (older : Commits) (hash : Hash) → same_hash x.0 hash ≡ false → chain (x ∷ older) hash ≡ chain older hash
chain_before x older hash e = rw e refl

on_chain_before : (x : Hash × Commit) (older : Commits) (head hash : Hash) → same_hash x.0 head ≡ false → on_chain (x ∷ older) head hash ≡ on_chain older head hash
on_chain_before x older head hash e = rw e refl

pub below : (x : Hash × Commit) (older : Commits) (hash : Hash) → AreLinked (x ∷ older) → is_known older hash ≡ true → same_hash x.0 hash ≡ false
below x older hash are known = apart older x.0 hash are.0 (are.1).has_ancestor known

chain_by : (b : Bool) (x : Hash × Commit) (older : Commits) (at : Hash) (c : Commit) → AreLinked (x ∷ older) → same_hash x.0 at ≡ b
    → (commit_of older at ≡ Some c → chain older at ≡ (at, c) ∷ chain older c.parent)
    → cond b (Some x.1) (commit_of older at) ≡ Some c → cond b (x ∷ chain older (x.1).parent) (chain older at) ≡ (at, c) ∷ chain (x ∷ older) c.parent
chain_by true x older at c are same more e =
    let before = chain_before x older (x.1).parent (below x older (x.1).parent are (are.1).parent) in
    subst (λ (h : Hash). x ∷ chain older (x.1).parent ≡ (h, c) ∷ chain (x ∷ older) c.parent) (same_is x.0 at same)
    (subst (λ (d : Commit). x ∷ chain older (x.1).parent ≡ (x.0, d) ∷ chain (x ∷ older) d.parent) (same_Some x.1 c e) (ap (λ (rest : Commits). x ∷ rest) (sym before)))
chain_by false x older at c are same more e =
    let before = chain_before x older c.parent (below x older c.parent are (parent_known older at c are.2 e)) in
    more e ∙ ap (λ (rest : Commits). (at, c) ∷ rest) (sym before)

-- a chain goes on with that of the parent
pub chain_step : (commits : Commits) (at : Hash) (c : Commit) → AreLinked commits → commit_of commits at ≡ Some c → chain commits at ≡ (at, c) ∷ chain commits c.parent
chain_step [] at c are e = absurd (none-some c e)
chain_step (x ∷ older) at c are e = chain_by (same_hash x.0 at) x older at c are refl (chain_step older at c are.2) e

chain_end_by : (b : Bool) (x : Hash × Commit) (older : Commits) (at : Hash) → (commit_of older at ≡ None → chain older at ≡ []) → cond b (Some x.1) (commit_of older at) ≡ None
    → cond b (x ∷ chain older (x.1).parent) (chain older at) ≡ []
chain_end_by true x older at more e = absurd (none-some x.1 (sym e))
chain_end_by false x older at more e = more e

-- a hash that is no commit's has no chain
pub chain_end : (commits : Commits) (at : Hash) → commit_of commits at ≡ None → chain commits at ≡ []
chain_end [] at e = refl
chain_end (x ∷ older) at e = chain_end_by (same_hash x.0 at) x older at (chain_end older at) e

-- what is left to walk
pub shorter : (commits : Commits) (at : Hash) (c : Commit) → AreLinked commits → commit_of commits at ≡ Some c → length (chain commits c.parent) < length (chain commits at)
shorter commits at c are e = rw (chain_step commits at c are e) (omega arith)

-- one commit more of a walk
pub walk_more : (commits : Commits) (items : List (Bor Hash × Bor Commit)) (at : Bor Hash) (c : Bor Commit) (all : Commits) → AreLinked commits → commit_of commits at.now ≡ Some c.now
    → values items ++ chain commits at.now ≡ all → values (items ++ (at, c) ∷ []) ++ chain commits (c.now).parent ≡ all
walk_more commits items at c all are e walked =
    ap (λ (front : Commits). front ++ chain commits (c.now).parent) (map-append (λ (x : Bor Hash × Bor Commit). (x.0.now, x.1.now)) items ((at, c) ∷ [])) ∙ append_assoc (values items) ((at.now, c.now) ∷ []) (chain commits (c.now).parent)
    ∙ ap (λ (rest : Commits). values items ++ rest) (sym (chain_step commits at.now c.now are e)) ∙ walked

-- a walk that has met its limit
pub walk_cut : (items : List (Bor Hash × Bor Commit)) (rest all : Commits) (limit : ℕ) → values items ++ rest ≡ all → length items ≡ limit → values items ≡ take limit all
walk_cut items rest all limit walked full =
    sym (take_at (values items) rest limit (length-map {B = Hash × Commit} items (λ (x : Bor Hash × Bor Commit). (x.0.now, x.1.now)) ∙ full)) ∙ ap (λ (l : Commits). take limit l) walked

-- a walk to the end
pub walk_all : (items : List (Bor Hash × Bor Commit)) (rest all : Commits) (limit : ℕ) → values items ++ rest ≡ all → rest ≡ [] → length items ≤ limit → values items ≡ take limit all
walk_all items rest all limit walked none few =
    let same : values items ≡ all = sym (append-nil (values items)) ∙ ap (λ (l : Commits). values items ++ l) (sym none) ∙ walked in
    same ∙ sym (take_all limit all (subst (λ (l : Commits). length l ≤ limit) same (rw (length-map {B = Hash × Commit} items (λ (x : Bor Hash × Bor Commit). (x.0.now, x.1.now))) few)))

-- ---- what is on a chain

on_chain_by : (b : Bool) (x : Hash × Commit) (older : Commits) (at : Hash) (c : Commit) (hash : Hash) → AreLinked (x ∷ older)
    → (commit_of older at ≡ Some c → on_chain older at hash ≡ (same_hash at hash || on_chain older c.parent hash))
    → cond b (Some x.1) (commit_of older at) ≡ Some c
    → cond b (same_hash at hash || on_chain older (x.1).parent hash) (on_chain older at hash) ≡ (same_hash at hash || on_chain (x ∷ older) c.parent hash)
on_chain_by true x older at c hash are more e =
    let before = on_chain_before x older (x.1).parent hash (below x older (x.1).parent are (are.1).parent) in
    subst (λ (d : Commit). (same_hash at hash || on_chain older (x.1).parent hash) ≡ (same_hash at hash || on_chain (x ∷ older) d.parent hash)) (same_Some x.1 c e)
    (ap (λ (b : Bool). same_hash at hash || b) (sym before))
on_chain_by false x older at c hash are more e =
    let before = on_chain_before x older c.parent hash (below x older c.parent are (parent_known older at c are.2 e)) in
    more e ∙ ap (λ (b : Bool). same_hash at hash || b) (sym before)

-- a hash is on a chain if it is the head, or on the chain of the parent
on_chain_step : (commits : Commits) (at : Hash) (c : Commit) (hash : Hash) → AreLinked commits → commit_of commits at ≡ Some c → on_chain commits at hash ≡ (same_hash at hash || on_chain commits c.parent hash)
on_chain_step [] at c hash are e = absurd (none-some c e)
on_chain_step (x ∷ older) at c hash are e = on_chain_by (same_hash x.0 at) x older at c hash are (on_chain_step older at c hash are.2) e

-- past the head
pub on_chain_next : (commits : Commits) (at : Hash) (c : Commit) (hash : Hash) → AreLinked commits → commit_of commits at ≡ Some c → same_hash at hash ≡ false → on_chain commits c.parent hash ≡ on_chain commits at hash
on_chain_next commits at c hash are e other = sym (on_chain_step commits at c hash are e ∙ ap (λ (b : Bool). b || on_chain commits c.parent hash) other)

here_by : (b here above older : Bool) → here ≡ true → older ≡ true → cond b (here || above) older ≡ true
here_by true here above older e f = rw e refl
here_by false here above older e f = f

-- the head is on its chain
pub on_chain_here : (commits : Commits) (at hash : Hash) → same_hash at hash ≡ true → on_chain commits at hash ≡ true
on_chain_here [] at hash e = e
on_chain_here (x ∷ older) at hash e = here_by (same_hash x.0 at) (same_hash at hash) (on_chain older (x.1).parent hash) (on_chain older at hash) e (on_chain_here older at hash e)

end_by : (b : Bool) (x : Hash × Commit) (found : Option Commit) (above older same : Bool) → (found ≡ None → older ≡ same) → cond b (Some x.1) found ≡ None → cond b above older ≡ same
end_by true x found above older same more e = absurd (none-some x.1 (sym e))
end_by false x found above older same more e = more e

-- of a hash that is no commit's it is the only one
pub on_chain_end : (commits : Commits) (at hash : Hash) → commit_of commits at ≡ None → on_chain commits at hash ≡ same_hash at hash
on_chain_end [] at hash e = refl
on_chain_end (x ∷ older) at hash e = end_by (same_hash x.0 at) x (commit_of older at) _ (on_chain older at hash) (same_hash at hash) (on_chain_end older at hash) e

-- ---- what can be added

all_four : (a b c d : Bool) → a ≡ false → b ≡ true → c ≡ true → d ≡ true → (not a && b && c && d) ≡ true
all_four a b c d ea eb ec ed = rw (ea, eb, ec, ed) refl

-- the test is yes exactly where the commit can be added
pub next_decides : (commits : Commits) (hash : Hash) (c : Commit) → (is_next commits hash c ≡ true → IsNext commits hash c) × (IsNext commits hash c → is_next commits hash c ≡ true)
next_decides commits hash c =
    let a = same_hash (no_ancestor sha256) hash in
    let p = is_known commits c.parent in
    let m = is_merge_known commits c.merge_parent in
    let g = nat_eq c.generation (next_generation commits c) in (
      λ e.
          let last = and_parts (not a && p && m) g e in
          let merged = and_parts (not a && p) m last.0 in
          let first = and_parts (not a) p merged.0 in
          record {
            has_ancestor = not-true a first.0;
            parent = first.1;
            merge_parent = merged.1;
            generation = eqb-true c.generation (next_generation commits c) last.1;
          },
      λ next. all_four a p m g next.has_ancestor next.parent next.merge_parent (eq-eqb c.generation (next_generation commits c) next.generation),
    )

-- no generation is one more than another
pub none_before : (generation next : ℕ) → generation < 1 → 1 ≤ next → nat_eq generation next ≡ false
none_before generation next low high = ne_eqb generation next (λ e. omega arith)

-- one less is the greatest where it is one more than that
pub one_before : (generation before greatest next : ℕ) → before + 1 ≡ generation → greatest + 1 ≡ next → nat_eq before greatest ≡ nat_eq generation next
one_before generation before greatest next less more =
    same_from_decides {P = before ≡ greatest} (nat_eq before greatest) (nat_eq generation next) (unsigned_Decides before greatest)
    (λ e. let same = eqb-true generation next e in omega arith, λ e. eq-eqb generation next (omega arith))
