use Rattle.std.proofs.Common.{◌≡◌, ◌∙◌, None, List, Bor, true, flat_map, subst, ap}
use Rattle.cat_codes.specs.Code.{ascends}
use Rattle.cat_names.specs.Fields.{key_cmp}
use Rattle.cat_model.specs.declared.op.Op.{Op}
use Rattle.cat_model.specs.Judge.{op_changes}
use Rattle.cat_model.specs.Maps.{Change, after_changes}
use Rattle.cat_keymap.specs.Ordered.{values}
use Rattle.cat_rules.specs.Rules.{conflicts}
use Rattle.cat_rules.proofs.Found.{judged_is, gives_well_formed}
use Rattle.cat_rules.proofs.judging.judge.Goals as goal

pub returns-clause-exact : goal.returns-clause-exact
returns-clause-exact c =
    let head = c.args.head.now in
    let sorted = values c.in_ok-sorted.sorted.items in
    let gone = c.in_ok-gone.gone.keys in
    let changes : c.in_ok-changes.changes ≡ flat_map op_changes sorted = c.in_ok-changes.ensures ∙ ap (λ (ops : List (Bor Op)). flat_map op_changes (values ops)) c.as_slice.ensures.value in
    let after : c.in_ok-after.after ≡ after_changes (flat_map op_changes sorted) head = c.in_ok-after.ensures ∙ ap (λ (l : List Change). after_changes l head) changes in
    let found : c.in_ok-found.found ≡ conflicts c.args.expected.now head c.in_ok-after.after gone sorted =
    c.in_ok-found.ensures ∙ ap (λ (ops : List (Bor Op)). conflicts c.args.expected.now head c.in_ok-after.after gone (values ops)) c.as_slice-2.ensures.value in
    c.judged_by.ensures ∙ judged_is c.args.expected.now head c.args.ops.now gone sorted _ _ c.in_ok-gone.ensures c.in_ok-sorted.ensures.exact after found

pub returns-clause-well_formed : goal.returns-clause-well_formed
returns-clause-well_formed c well =
    let head = c.args.head.now in
    let sorted = values c.in_ok-sorted.sorted.items in
    let gone = c.in_ok-gone.gone.keys in
    let changes : c.in_ok-changes.changes ≡ flat_map op_changes sorted = c.in_ok-changes.ensures ∙ ap (λ (ops : List (Bor Op)). flat_map op_changes (values ops)) c.as_slice.ensures.value in
    let after : c.in_ok-after.after ≡ after_changes (flat_map op_changes sorted) head = c.in_ok-after.ensures ∙ ap (λ (l : List Change). after_changes l head) changes in
    let found : c.in_ok-found.found ≡ conflicts c.args.expected.now head c.in_ok-after.after gone sorted =
    c.in_ok-found.ensures ∙ ap (λ (ops : List (Bor Op)). conflicts c.args.expected.now head c.in_ok-after.after gone (values ops)) c.as_slice-2.ensures.value in
    let up : ascends key_cmp None (flat_map op_changes sorted) ≡ true = subst (λ (l : List Change). ascends key_cmp None l ≡ true) changes c.known-2.ensures.ascends in
    gives_well_formed c.args.expected.now head gone sorted c.in_ok-after.after c.in_ok-found.found c.judged_by.result c.known.ensures up after found c.judged_by.ensures well
