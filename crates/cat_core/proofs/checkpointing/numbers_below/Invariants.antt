use Rattle.std.proofs.Common.{◌≡◌, ◌++◌, drop, filter, map, nat_lt}
use Rattle.cat_core.specs.Stored.{draft_held}
use Rattle.cat_core.proofs.checkpointing.numbers_below.Given as goal

abbrev pub invariant-loop-draft : goal.invariant-loop-draft
invariant-loop-draft l =
    l.numbers.items ++ filter (λ n. nat_lt n l.last) (map (λ d. d.opening.number) (map draft_held (drop l.draft-index l.drafts)))
    ≡ filter (λ n. nat_lt n l.last) (map (λ d. d.opening.number) (map draft_held l.drafts))
