use Rattle.std.proofs.Common.{◌≡◌, ◌∙◌, None, List, true, ap, refl, subst, sym}
use Rattle.cat_codes.specs.Code.{ascends}
use Rattle.cat_names.specs.Fields.{key_cmp}
use Rattle.cat_model.specs.Maps.{Change}
use Rattle.cat_model.specs.Plan.{conflicts_of}
use Rattle.cat_merge.proofs.Made.{ops_are, made_is, changes_ascend}
use Rattle.cat_merge.proofs.plan.plan_keys.Goals as goal

pub changes-requires : goal.changes-requires
changes-requires c =
    let base = c.args.base.now in
    let source = c.args.source.now in
    let target = c.args.target.now in
    let modes = c.args.modes.now in
    let keys = c.args.keys in
    subst (λ (cs : List Change). ascends key_cmp None cs ≡ true) (sym (ops_are base source target modes keys c.as_slice.result.now _ (c.as_slice.ensures ∙ c.in_ok-decided.ensures) refl))
    (changes_ascend base source target modes None keys c.requires)

pub returns : goal.returns
returns c =
    let base = c.args.base.now in
    let source = c.args.source.now in
    let target = c.args.target.now in
    let modes = c.args.modes.now in
    let keys = c.args.keys in
    let ops = ops_are base source target modes keys c.as_slice.result.now c.in_ok-ops.ops (c.as_slice.ensures ∙ c.in_ok-decided.ensures) c.in_ok-ops.ensures in
    made_is base source target modes keys c.in_ok-decided.decided c.in_ok-ops.ops c.in_ok-map.map c.in_ok-details.details c.in_ok-conflicts.conflicts
    c.in_ok-decided.ensures ops c.in_ok-map.ensures c.in_ok-details.ensures (c.in_ok-conflicts.ensures ∙ ap conflicts_of c.as_slice-2.ensures)
