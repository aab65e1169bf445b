use Rattle.std.proofs.Common.{◌∙◌, ◌++◌, List, ap, subst}
use Rattle.std.proofs.lemmas.List.Filters.{dedup_is}
use Rattle.std.proofs.lemmas.List.Kept.{IsStrictlySortedBy-dedup}
use Rattle.std.specs.List.Sorted.{IsPermutation}
use Rattle.cat_names.specs.declared.hash.Hash.{Hash}
use Rattle.cat_tables.specs.Tables.{same_hash}
use Rattle.cat_tables.proofs.Arriving.{hash_total, ties}
use Rattle.cat_tables.proofs.Removals.{strictly_ascend, among_ascending}
use Rattle.cat_tables.proofs.removing.ascending.Goals as goal

pub returns-clause-order : goal.returns-clause-order
returns-clause-order c =
    let once = dedup_is same_hash c.sort_unstable.new.self.items c.dedup.new.self.items c.dedup.ensures.filtered in
    rw once (strictly_ascend _ (IsStrictlySortedBy-dedup hash_total {E = same_hash} ties c.sort_unstable.new.self.items c.sort_unstable.ensures.sorted))

pub returns-clause-same : goal.returns-clause-same
returns-clause-same c hash =
    let sorted = c.sort_unstable.new.self.items in
    let all = c.in_ok-extend_from_slice.ensures.items ∙ ap (λ (l : List Hash). l ++ c.args.hashes.now) c.new-out.ensures.items in
    let moved = subst (λ (l : List Hash). IsPermutation l sorted) all c.sort_unstable.ensures.permutation in
    among_ascending c.args.hashes.now sorted c.dedup.new.self.items moved (dedup_is same_hash sorted c.dedup.new.self.items c.dedup.ensures.filtered) hash
