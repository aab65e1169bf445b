use Rattle.std.proofs.Common.{ap, map, rules, ◌∙◌}
use Rattle.std.proofs.lemmas.Fn.{filter_same}
use Rattle.cat_core.specs.Stored.{draft_held}
use Rattle.cat_core.proofs.Held.{held_without}
use Rattle.cat_core.proofs.tickets.remove.Goals as goal

pub returns : goal.returns
returns c = ap (map draft_held) (filter_same _ _ _ (λ x b f' k. search rules) _ _ c.retain.ensures.filtered) ∙ held_without c.args.ticket c.args.drafts.now.items
