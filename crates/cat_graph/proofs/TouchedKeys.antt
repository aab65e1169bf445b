-- The keys whose entries differ at two hashes are among those that the commits between them touched.
use Rattle.std.proofs.Common.{◌≡◌, ℕ, ◌+◌, ◌-◌, ◌<◌, ◌≤◌, List, [], ◌∷◌, ◌++◌, Option, Some, None, Bool, true, false, cond, ◌||◌, if◌then◌else◌, length, refl, sym, ap, subst, ◌∙◌, append_assoc, arith}
use Rattle.std.specs.Prelude.{nat_le}
use Rattle.std.specs.Option.{option_map}
use Rattle.std.specs.Ordering.{is_eq, nat_cmp}
use Rattle.std.specs.Cmp.{IsTotalOrder, nat_cmp_total}
use Rattle.std.specs.Cmp.Lexicographic.{bytes_decides, slice_cmp, lists_total, lists_ties, texts_ties}
use Rattle.std.specs.declared.cmp.Ordering.{Ordering}
use Rattle.std.specs.declared.cmp.Ordering.TheVariants.{Less, Equal, Greater}
use Rattle.std.proofs.lemmas.Bool.{eq-eqb, le-leb, lt-leb, leb-true, leb-false}
use Rattle.std.proofs.lemmas.List.{append-nil}
use Rattle.std.proofs.lemmas.List.Folds.{list_any-append}
use Rattle.std.proofs.lemmas.Option.{none-some, same_Some}
use Rattle.cat_names.specs.Fields.{Key, key_cmp}
use Rattle.cat_names.specs.declared.hash.Hash.{Hash}
use Rattle.cat_model.specs.declared.commit.Commit.{Commit}
use Rattle.cat_model.specs.declared.entry.Entry.{Entry}
use Rattle.cat_model.specs.Chain.{Commits, commit_of, entries, map_of}
use Rattle.cat_model.specs.Changed.{is_changed}
use Rattle.cat_model.specs.Differs.{differs}
use Rattle.cat_model.specs.Formats.{kind_number}
use Rattle.cat_model.specs.Maps.{Map, Change, entry_of, after_change, after_changes, placed}
use Rattle.cat_model.specs.Same.{same_hash, same_key, same_type, same_id}
use Rattle.cat_graph.specs.GraphLaws.{same_is, same_self}
use Rattle.cat_graph.specs.Linked.{AreLinked}
use Rattle.cat_graph.specs.Touched.{between, keys_named, keys_touched, size, touched_within, is_among, Covers}
use Rattle.cat_graph.proofs.Walks.{below, chain_step, parent_known}

neither : (a b : Bool) → (a || b) ≡ false → (a ≡ false) × (b ≡ false)
neither false b e = (refl, e)
neither true b e = absurd cc

by_test : {P : Type 0} (b : Bool) → (b ≡ true → P) → (b ≡ false → P) → P
by_test true f g = f refl
by_test false f g = g refl

-- ---- a change of another key leaves what a key has

key_total : IsTotalOrder key_cmp
key_total = lists_total (lists_total nat_cmp_total)

kept_by : (o : Ordering) (at : Key) (entry : Option Entry) (x : Key × Entry) (map changed : Map) (key : Key) → key_cmp x.0 at ≡ o → is_eq (key_cmp at key) ≡ false
    → entry_of changed key ≡ entry_of map key → entry_of (placed o (at, entry) x map changed) key ≡ entry_of (x ∷ map) key
kept_by Less at entry x map changed key o out rest = ap (λ (e : Option Entry). if is_eq (key_cmp x.0 key) then Some x.1 else e) rest
kept_by Equal at None x map changed key o out rest = let other : is_eq (key_cmp x.0 key) ≡ false = ap is_eq (key_total.congr x.0 at key o) ∙ out in rw other refl
kept_by Equal at (Some entry) x map changed key o out rest = let other : is_eq (key_cmp x.0 key) ≡ false = ap is_eq (key_total.congr x.0 at key o) ∙ out in rw (other, out) refl
kept_by Greater at None x map changed key o out rest = refl
kept_by Greater at (Some entry) x map changed key o out rest = rw out refl

kept_change : (at : Key) (entry : Option Entry) (map : Map) (key : Key) → is_eq (key_cmp at key) ≡ false → entry_of (after_change (at, entry) map) key ≡ entry_of map key
kept_change at None [] key out = refl
kept_change at (Some entry) [] key out = rw out refl
kept_change at entry (x ∷ map) key out = kept_by (key_cmp x.0 at) at entry x map (after_change (at, entry) map) key refl out (kept_change at entry map key out)

kept_changes : (changes : List Change) (map : Map) (key : Key) → is_among (keys_named changes) key ≡ false → entry_of (after_changes changes map) key ≡ entry_of map key
kept_changes [] map key out = refl
kept_changes ((at, entry) ∷ changes) map key out =
    let parts = neither (same_key at key) (is_among (keys_named changes) key) out in
    let other : is_eq (key_cmp at key) ≡ false = sym (lists_ties (slice_cmp nat_cmp) texts_ties at key) ∙ parts.0 in
    kept_changes changes (after_change (at, entry) map) key parts.1 ∙ kept_change at entry map key other

-- ---- the commits between two hashes

between_before : (x : Hash × Commit) (older : Commits) (from to : Hash) → same_hash x.0 from ≡ false → between (x ∷ older) from to ≡ between older from to
between_before x older from to e = rw e refl

between_by : (b : Bool) (x : Hash × Commit) (older : Commits) (at : Hash) (c : Commit) (to : Hash) → AreLinked (x ∷ older) → same_hash at to ≡ false → same_hash x.0 at ≡ b
    → (commit_of older at ≡ Some c → between older at to ≡ option_map (λ (more : Commits). (at, c) ∷ more) (between older c.parent to))
    → cond b (Some x.1) (commit_of older at) ≡ Some c
    → cond b (cond (same_hash at to) (Some []) (option_map (λ (more : Commits). x ∷ more) (between older (x.1).parent to))) (between older at to) ≡ option_map (λ (more : Commits). (at, c) ∷ more) (between (x ∷ older) c.parent to)
between_by true x older at c to are other same more e =
    let before = between_before x older (x.1).parent to (below x older (x.1).parent are (are.1).parent) in
    rw other (subst (λ (h : Hash). option_map (λ (more : Commits). x ∷ more) (between older (x.1).parent to) ≡ option_map (λ (more : Commits). (h, c) ∷ more) (between (x ∷ older) c.parent to)) (same_is x.0 at same)
    (subst (λ (d : Commit). option_map (λ (more : Commits). x ∷ more) (between older (x.1).parent to) ≡ option_map (λ (more : Commits). (x.0, d) ∷ more) (between (x ∷ older) d.parent to)) (same_Some x.1 c e)
    (ap (option_map (λ (more : Commits). x ∷ more)) (sym before))))
between_by false x older at c to are other same more e =
    let before = between_before x older c.parent to (below x older c.parent are (parent_known older at c are.2 e)) in
    more e ∙ ap (option_map (λ (more : Commits). (at, c) ∷ more)) (sym before)

-- a commit, and those between its parent and the other hash
between_step : (commits : Commits) (at : Hash) (c : Commit) (to : Hash) → AreLinked commits → commit_of commits at ≡ Some c → same_hash at to ≡ false
    → between commits at to ≡ option_map (λ (more : Commits). (at, c) ∷ more) (between commits c.parent to)
between_step [] at c to are e other = absurd (none-some c e)
between_step (x ∷ older) at c to are e other = between_by (same_hash x.0 at) x older at c to are other refl (λ f. between_step older at c to are.2 f other) e

here_by : (b here : Bool) (above older : Option Commits) → here ≡ true → older ≡ Some [] → cond b (cond here (Some []) above) older ≡ Some []
here_by true here above older e f = rw e refl
here_by false here above older e f = f

-- between a hash and itself there are none
between_here : (commits : Commits) (at to : Hash) → same_hash at to ≡ true → between commits at to ≡ Some []
between_here [] at to e = rw e refl
between_here (x ∷ older) at to e = here_by (same_hash x.0 at) (same_hash at to) _ (between older at to) e (between_here older at to e)

end_by : (b : Bool) (x : Hash × Commit) (found : Option Commit) (above older : Option Commits) → (found ≡ None → older ≡ None) → cond b (Some x.1) found ≡ None → cond b above older ≡ None
end_by true x found above older more e = absurd (none-some x.1 (sym e))
end_by false x found above older more e = more e

-- a hash that is no commit's comes to no other
between_end : (commits : Commits) (at to : Hash) → commit_of commits at ≡ None → same_hash at to ≡ false → between commits at to ≡ None
between_end [] at to e other = rw other refl
between_end (x ∷ older) at to e other = end_by (same_hash x.0 at) x (commit_of older at) _ (between older at to) (λ f. between_end older at to f other) e

-- ---- the keys that they touched

within_by : (x : Hash × Commit) (others : Commits) (left : ℕ) (b : Bool) → nat_le (size others) (left - length (x.1).ops - 1) ≡ b → length (x.1).ops < left
    → touched_within left (Some (x ∷ others)) ≡ option_map (λ (keys : List Key). keys_named (x.1).ops ++ keys) (touched_within (left - length (x.1).ops - 1) (Some others))
within_by x others left true e lt =
    let few = leb-true _ _ e in
    let fits : nat_le (length (x.1).ops + 1 + size others) left ≡ true = le-leb _ _ (omega (arith, few, lt)) in
    rw (e, fits) refl
within_by x others left false e lt =
    let many = leb-false _ _ e in
    let fits : nat_le (length (x.1).ops + 1 + size others) left ≡ false = lt-leb _ _ (omega (arith, many, lt)) in
    rw (e, fits) refl

-- those of a commit, and then those that are left
within_more : (x : Hash × Commit) (found : Option Commits) (left : ℕ) → length (x.1).ops < left
    → touched_within left (option_map (λ (more : Commits). x ∷ more) found) ≡ option_map (λ (keys : List Key). keys_named (x.1).ops ++ keys) (touched_within (left - length (x.1).ops - 1) found)
within_more x None left lt = refl
within_more x (Some others) left lt = within_by x others left _ refl lt

-- none where the commit and its keys are too many
within_few : (x : Hash × Commit) (found : Option Commits) (left : ℕ) → left ≤ length (x.1).ops → touched_within left (option_map (λ (more : Commits). x ∷ more) found) ≡ None
within_few x None left le = refl
within_few x (Some others) left le = let over : nat_le (length (x.1).ops + 1 + size others) left ≡ false = lt-leb _ _ (omega (arith, le)) in rw over refl

within_none : (left : ℕ) → touched_within left (Some []) ≡ Some []
within_none left = let fits : nat_le 0 left ≡ true = le-leb 0 left (omega arith) in rw fits refl

-- ---- the walk from a hash to the other

-- keys before those that are left
abbrev pub Before : List Key → ℕ → Option Commits → Option (List Key)
Before keys left found = option_map (λ (more : List Key). keys ++ more) (touched_within left found)

pub before_none : (found : Option (List Key)) → option_map (λ (more : List Key). [] ++ more) found ≡ found
before_none None = refl
before_none (Some keys) = refl

before_both : (keys here : List Key) (found : Option (List Key)) → option_map (λ (more : List Key). (keys ++ here) ++ more) found ≡ option_map (λ (more : List Key). keys ++ more) (option_map (λ (more : List Key). here ++ more) found)
before_both keys here None = refl
before_both keys here (Some more) = ap Some (append_assoc keys here more)

module _ (commits : Commits) (keys : List Key) (left : ℕ) (at to : Hash) (all : Option (List Key)) (so_far : Before keys left (between commits at to) ≡ all) where
  -- one commit more
  pub one_more : (c : Commit) (new : List Key) → AreLinked commits → commit_of commits at ≡ Some c → same_hash at to ≡ false → length c.ops < left → new ≡ keys ++ keys_named c.ops
      → Before new (left - length c.ops - 1) (between commits c.parent to) ≡ all
  one_more c new are e other lt n =
      let found = between commits c.parent to in
      let rest = touched_within (left - length c.ops - 1) found in
      ap (λ (l : List Key). option_map (λ (more : List Key). l ++ more) rest) n ∙ before_both keys (keys_named c.ops) rest
      ∙ ap (option_map (λ (more : List Key). keys ++ more)) (sym (within_more (at, c) found left lt)) ∙ ap (Before keys left) (sym (between_step commits at c to are e other)) ∙ so_far

  -- too many
  pub too_many : (c : Commit) → AreLinked commits → commit_of commits at ≡ Some c → same_hash at to ≡ false → left ≤ length c.ops → None ≡ all
  too_many c are e other le =
      sym (ap (Before keys left) (between_step commits at c to are e other) ∙ ap (option_map (λ (more : List Key). keys ++ more)) (within_few (at, c) (between commits c.parent to) left le)) ∙ so_far

  -- the end of the chain
  pub at_end : commit_of commits at ≡ None → same_hash at to ≡ false → None ≡ all
  at_end e other = sym (ap (Before keys left) (between_end commits at to e other)) ∙ so_far

  -- the other hash
  pub arrived : same_hash at to ≡ true → Some keys ≡ all
  arrived e =
      ap Some (sym (append-nil keys)) ∙ sym (ap (Before keys left) (between_here commits at to e) ∙ ap (option_map (λ (more : List Key). keys ++ more)) (within_none left)) ∙ so_far

-- ---- entries that differ

same_entries : (entry : Option Entry) → differs entry entry ≡ None
same_entries None = refl
same_entries (Some entry) =
    let kind : same_type entry.kind entry.kind ≡ true = eq-eqb (kind_number entry.kind) (kind_number entry.kind) refl in
    let id : same_id entry.id entry.id ≡ true = (bytes_decides (entry.id).bytes (entry.id).bytes).1 refl in
    let hash : same_hash entry.hash entry.hash ≡ true = same_self entry.hash in
    rw (kind, id, hash) refl

-- where each key that is not among these has one entry, they cover the maps
covers_by : (keys : List Key) (before after : Map) → ((key : Key) → is_among keys key ≡ false → entry_of after key ≡ entry_of before key) → Covers keys before after
covers_by keys before after same key changed =
    by_test (is_among keys key) (λ e. e)
    (λ e. let none = ap (differs (entry_of before key)) (same key e) ∙ same_entries (entry_of before key) in
    let no : is_changed before after key ≡ false = rw none refl in absurd cc)

-- the map at a commit is the one at its parent after its changes
entries_step : (commits : Commits) (at : Hash) (c : Commit) → AreLinked commits → commit_of commits at ≡ Some c → entries commits at ≡ after_changes c.ops (entries commits c.parent)
unfolding entries
entries_step commits at c are e = ap map_of (chain_step commits at c are e)

kept_step : (commits : Commits) (at : Hash) (c : Commit) (key : Key) → AreLinked commits → commit_of commits at ≡ Some c → is_among (keys_named c.ops) key ≡ false
    → entry_of (entries commits at) key ≡ entry_of (entries commits c.parent) key
kept_step commits at c key are e out = ap (λ (m : Map). entry_of m key) (entries_step commits at c are e) ∙ kept_changes c.ops (entries commits c.parent) key out

-- the keys of a commit's changes cover the maps at its parent and at it
pub covers_step : (commits : Commits) (at : Hash) (c : Commit) → AreLinked commits → commit_of commits at ≡ Some c → Covers (keys_named c.ops) (entries commits c.parent) (entries commits at)
covers_step commits at c are e = covers_by (keys_named c.ops) (entries commits c.parent) (entries commits at) (λ key out. kept_step commits at c key are e out)

none_first : {P : Type 0} (x : Hash × Commit) (found : Option Commits) → option_map (λ (more : Commits). x ∷ more) found ≡ Some [] → P
none_first x None e = absurd (none-some [] e)
none_first x (Some more) e = let no = same_Some (x ∷ more) [] e in absurd cc

abbrev head : Hash × Commit → Commits → Hash × Commit
head x [] = x
head x (y ∷ more) = y

abbrev tail : Commits → Commits
tail [] = []
tail (y ∷ more) = more

rest_is : (x y : Hash × Commit) (found : Option Commits) (more : Commits) → option_map (λ (more : Commits). x ∷ more) found ≡ Some (y ∷ more) → (y ≡ x) × (found ≡ Some more)
rest_is x y None more e = absurd (none-some (y ∷ more) e)
rest_is x y (Some others) more e = let same = same_Some (x ∷ others) (y ∷ more) e in (sym (ap (head x) same), ap (λ (l : Commits). Some (tail l)) same)

none_there : {P : Type 0} (commits : Commits) (at to : Hash) (there : Option Commit) → commit_of commits at ≡ there → AreLinked commits → same_hash at to ≡ false → between commits at to ≡ Some [] → P
none_there commits at to None e are other b = absurd (none-some [] (sym (between_end commits at to e other) ∙ b))
none_there commits at to (Some c) e are other b = none_first (at, c) (between commits c.parent to) (sym (between_step commits at c to are e other) ∙ b)

kept_first : (commits : Commits) (y : Hash × Commit) (more : Commits) (at to : Hash) (key : Key) (there : Option Commit) → commit_of commits at ≡ there → AreLinked commits → same_hash at to ≡ false
    → between commits at to ≡ Some (y ∷ more) → is_among (keys_touched (y ∷ more)) key ≡ false
    → ((parent : Hash) → between commits parent to ≡ Some more → is_among (keys_touched more) key ≡ false → entry_of (entries commits parent) key ≡ entry_of (entries commits to) key)
    → entry_of (entries commits at) key ≡ entry_of (entries commits to) key
kept_first commits y more at to key None e are other b out rest = absurd (none-some (y ∷ more) (sym (between_end commits at to e other) ∙ b))
kept_first commits y more at to key (Some c) e are other b out rest =
    let parts = rest_is (at, c) y (between commits c.parent to) more (sym (between_step commits at c to are e other) ∙ b) in
    let none = neither (is_among (keys_named (y.1).ops) key) (is_among (keys_touched more) key) (sym (list_any-append (λ (other : Key). same_key other key) (keys_named (y.1).ops) (keys_touched more)) ∙ out) in
    let here : is_among (keys_named c.ops) key ≡ false = subst (λ (x : Hash × Commit). is_among (keys_named (x.1).ops) key ≡ false) parts.0 none.0 in
    kept_step commits at c key are e here ∙ rest c.parent parts.1 none.1

-- a key that the commits between two hashes did not touch has one entry at both
kept_between : (commits : Commits) → AreLinked commits → (found : Commits) (at to : Hash) (key : Key) → between commits at to ≡ Some found → is_among (keys_touched found) key ≡ false
    → entry_of (entries commits at) key ≡ entry_of (entries commits to) key
kept_between commits are [] at to key b out = by_test (same_hash at to)
    (λ e. ap (λ (h : Hash). entry_of (entries commits h) key) (same_is at to e))
    (λ other. none_there commits at to (commit_of commits at) refl are other b)
kept_between commits are (y ∷ more) at to key b out = by_test (same_hash at to)
    (λ e. ap (λ (h : Hash). entry_of (entries commits h) key) (same_is at to e))
    (λ other. kept_first commits y more at to key (commit_of commits at) refl are other b out (λ parent f g. kept_between commits are more parent to key f g))

found_by : (commits : Commits) (from to : Hash) (most : ℕ) → AreLinked commits → (found : Option Commits) → between commits from to ≡ found → (keys : List Key) → Some keys ≡ touched_within most found → Covers keys (entries commits to) (entries commits from)
found_by commits from to most are None b keys e = absurd (none-some keys (sym e))
found_by commits from to most are (Some found) b keys e = by_test (nat_le (size found) most)
    (λ fits. let same : Some keys ≡ Some (keys_touched found) = e ∙ rw fits refl in
    subst (λ (ks : List Key). Covers ks (entries commits to) (entries commits from)) (sym (same_Some keys (keys_touched found) same))
    (covers_by (keys_touched found) (entries commits to) (entries commits from) (λ key out. kept_between commits are found from to key b out)))
    (λ many. absurd (none-some keys (sym (e ∙ rw many refl))))

-- the keys that the commits between two hashes touched cover the maps at them
pub covers_between : (commits : Commits) (from to : Hash) (most : ℕ) → AreLinked commits → (keys : List Key) → Some keys ≡ touched_within most (between commits from to) → Covers keys (entries commits to) (entries commits from)
covers_between commits from to most are keys e = found_by commits from to most are (between commits from to) refl keys e
