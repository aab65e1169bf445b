use Rattle.std.proofs.Common.{List, subst, map}
use Rattle.std.specs.List.Sorted.{IsPermutation}
use Rattle.std.proofs.lemmas.List.Sorted.{IsPermutation-map}
use Rattle.cat_names.specs.Fields.{Key, key_cmp}
use Rattle.cat_keymap.specs.KeyOrder.{key_total}
use Rattle.cat_keymap.proofs.Twice.{sorted_climbs}
use Rattle.cat_keymap.proofs.named.sorted.Goals as goal

pub returns-clause-same : goal.returns-clause-same
returns-clause-same c =
    let after = c.sort_unstable.new.self.items in
    subst (λ (l : List Key). IsPermutation l (map (λ k. k.now) after)) c.in_ok-out.ensures (IsPermutation-map (λ k. k.now) c.in_ok-out.out.items after c.sort_unstable.ensures.permutation)

pub returns-clause-order : goal.returns-clause-order
returns-clause-order c = sorted_climbs key_cmp key_total (λ k. k.now) c.sort_unstable.new.self.items c.sort_unstable.ensures.sorted
