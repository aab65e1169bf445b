use Rattle.std.proofs.Common.{◌≡◌, None, List, true, false, sym, subst}
use Rattle.cat_codes.specs.Code.{ascends}
use Rattle.cat_names.specs.Fields.{key_cmp}
use Rattle.cat_model.specs.Maps.{Change}
use Rattle.cat_merge.proofs.finding.changes.Goals as goal

pub unreachable-requires : goal.unreachable-requires
unreachable-requires c =
    let up : ascends key_cmp None c.in_ok-listed.listed ≡ true = subst (λ (changes : List Change). ascends key_cmp None changes ≡ true) (sym c.in_ok-listed.ensures) c.requires in
    let down : ascends key_cmp None c.in_ok-listed.listed ≡ false = c.in_default.ensures in
    absurd cc
