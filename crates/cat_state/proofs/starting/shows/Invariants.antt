use Rattle.std.proofs.Common.{◌≡◌, is_some, length}
use Rattle.std.specs.List.{list_all}
use Rattle.cat_model.specs.State.{content_at}
use Rattle.cat_state.proofs.starting.shows.Given as goal

abbrev pub invariant-loop-entry : goal.invariant-loop-entry
invariant-loop-entry l = list_all (λ x. is_some (content_at l.contents x.1.hash)) l.rest ≡ list_all (λ x. is_some (content_at l.contents x.1.hash)) l.map

abbrev pub decreases-loop-entry : goal.decreases-loop-entry
decreases-loop-entry l = length l.rest
