use Rattle.std.proofs.Common.{◌≡◌, ◌++◌, drop, map, None}
use Rattle.std.specs.Option.{option_map}
use Rattle.cat_keymap.specs.Among.{all_tested}
use Rattle.cat_keymap.proofs.among.all_tested.Given as goal

abbrev pub invariant-loop-key : goal.invariant-loop-key
invariant-loop-key l = l.out ++ all_tested l.before l.after (option_map (λ k. k.now) l.last) (map (λ k. k.now) (drop l.key-index l.sorted)) ≡ all_tested l.before l.after None (map (λ k. k.now) l.sorted)
