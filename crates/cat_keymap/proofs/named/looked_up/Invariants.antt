use Rattle.std.proofs.Common.{◌≡◌, ◌++◌, drop, map, None}
use Rattle.std.specs.Option.{option_map}
use Rattle.cat_keymap.specs.Range.{all_looked_up}
use Rattle.cat_keymap.proofs.named.looked_up.Given as goal

abbrev pub invariant-loop-key : goal.invariant-loop-key
invariant-loop-key l = l.out.items ++ all_looked_up (option_map (λ k. k.now) l.last) (map (λ k. k.now) (drop l.key-index l.sorted)) l.within ≡ all_looked_up None (map (λ k. k.now) l.sorted) l.within
