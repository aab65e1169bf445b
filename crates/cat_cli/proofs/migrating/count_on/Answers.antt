use Rattle.std.proofs.Common.{ℕ, List, Option, ◌∙◌, ap}
use Rattle.std.specs.Option.{option_map}
use Rattle.cat_journal.specs.declared.journal.Journal.{Journal}
use Rattle.cat_journal.specs.Held.{first_payloads, held_count}
use Rattle.cat_cli.proofs.migrating.count_on.Goals as goal

pub returns-in-Ok-clause-told : goal.returns-in-Ok-clause-told
returns-in-Ok-clause-told g c =
    let kept_of : Journal g.row.D.Denot g.D.Disk → Option (List (List ℕ)) = λ j. option_map (first_payloads (held_count j.points)) (g.D.Disk.told j.disk) in
    ap kept_of (c.into_inner.ensures.keeper ∙ c.into_keeper.ensures) ∙ c.in-Ok.ensures.stays.payloads ∙ ap kept_of c.new-still.ensures

pub returns-in-Ok-clause-up : goal.returns-in-Ok-clause-up
returns-in-Ok-clause-up g c =
    let down_of : Journal g.row.D.Denot g.D.Disk → Option ℕ = λ j. j.down in
    ap down_of (c.into_inner.ensures.keeper ∙ c.into_keeper.ensures) ∙ c.in-Ok.ensures.stays.fallen ∙ ap down_of c.new-still.ensures ∙ c.requires.up

pub returns-in-Err-clause-told : goal.returns-in-Err-clause-told
returns-in-Err-clause-told g c =
    let kept_of : Journal g.row.D.Denot g.D.Disk → Option (List (List ℕ)) = λ j. option_map (first_payloads (held_count j.points)) (g.D.Disk.told j.disk) in
    ap kept_of c.into_inner-in-Err.ensures.keeper ∙ c.in-Err.ensures.stays.payloads ∙ ap kept_of c.new-still.ensures

pub returns-in-Err-clause-up : goal.returns-in-Err-clause-up
returns-in-Err-clause-up g c =
    let down_of : Journal g.row.D.Denot g.D.Disk → Option ℕ = λ j. j.down in
    ap down_of c.into_inner-in-Err.ensures.keeper ∙ c.in-Err.ensures.stays.fallen ∙ ap down_of c.new-still.ensures ∙ c.requires.up
