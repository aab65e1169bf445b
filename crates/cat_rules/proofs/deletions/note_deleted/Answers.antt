use Rattle.std.proofs.Common.{◌∙◌, ◌||◌, ap}
use Rattle.std.specs.List.{list_any}
use Rattle.cat_rules.specs.declared.deletions.ContentName.{ContentName}
use Rattle.cat_rules.specs.Rules.{same_name}
use Rattle.cat_rules.proofs.Found.{added}
use Rattle.cat_rules.proofs.deletions.note_deleted.Goals as goal

pub returns-in_ok-insert-in-Delete-Some : goal.returns-in_ok-insert-in-Delete-Some
returns-in_ok-insert-in-Delete-Some c name =
    rw (c.in-Delete-Some.is-0, c.in-Delete-Some.is-1) (added c.name_of.result name _ _ (c.in_ok-insert-in-Delete-Some.ensures.updates.0 name)
    ∙ ap (λ (other : ContentName). list_any (same_name name) c.args.gone.now.keys || same_name name other) c.name_of.ensures)
