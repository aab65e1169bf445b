use Rattle.std.proofs.Common.{◌≡◌, take, map}
use Rattle.cat_keymap.proofs.named.references.Given as goal

abbrev pub invariant-loop-key : goal.invariant-loop-key
invariant-loop-key l = map (λ k. k.now) l.out.items ≡ take l.key-index l.keys
