use Rattle.std.proofs.Common.{◌≡◌, ◌&&◌, length}
use Rattle.std.specs.List.{list_all}
use Rattle.sha2.specs.Sha256.{sha256}
use Rattle.cat_frames.specs.Standing.{knows, shows_present}
use Rattle.cat_state.proofs.starting.may_be_references.Given as goal

abbrev pub invariant-loop-reference : goal.invariant-loop-reference
invariant-loop-reference l =
    list_all (λ r. knows sha256 l.founded r.head && shows_present l.founded l.contents r) l.rest
    ≡ list_all (λ r. knows sha256 l.founded r.head && shows_present l.founded l.contents r) l.references

abbrev pub decreases-loop-reference : goal.decreases-loop-reference
decreases-loop-reference l = length l.rest
