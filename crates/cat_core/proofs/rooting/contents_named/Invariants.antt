use Rattle.std.proofs.Common.{◌≡◌, ◌++◌, map, drop}
use Rattle.cat_core.specs.Noting.{names_of_drafts}
use Rattle.cat_core.specs.Stored.{draft_held}
use Rattle.cat_core.proofs.rooting.contents_named.Given as goal

abbrev pub invariant-loop-draft : goal.invariant-loop-draft
invariant-loop-draft l = l.hashes.items ++ (names_of_drafts (map draft_held (drop l.draft-index l.drafts))).contents ≡ (names_of_drafts (map draft_held l.drafts)).contents
