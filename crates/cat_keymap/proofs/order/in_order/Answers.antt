use Rattle.std.proofs.Common.{rules, Bor}
use Rattle.std.specs.Ordering.{is_lt}
use Rattle.std.proofs.lemmas.List.Sorted.{ranks_by, answers_always}
use Rattle.cat_names.specs.Fields.{key_cmp}
use Rattle.cat_model.specs.declared.op.Op.{Op}
use Rattle.cat_model.specs.Judge.{op_key}
use Rattle.cat_keymap.specs.KeyOrder.{key_total}
use Rattle.cat_keymap.proofs.Sorting.{sorted_is, sorted_ordered}
use Rattle.cat_keymap.proofs.order.in_order.Goals as goal

pub returns-clause-exact : goal.returns-clause-exact
returns-clause-exact c =
    let up = c.sort_unstable_by.ensures.sorted (λ (a : Bor Op) (b : Bor Op). is_lt (key_cmp (op_key a.now) (op_key b.now))) (ranks_by key_total (λ (r : Bor Op). op_key r.now)) (answers_always _ _ _ (λ f a r g h. search rules)) in
    sorted_is c.args.ops.now c.in_ok-sorted.sorted.items c.sort_unstable_by.new.self.items c.requires c.in_ok-sorted.ensures c.sort_unstable_by.ensures.permutation up

pub returns-clause-ascend : goal.returns-clause-ascend
returns-clause-ascend c =
    let up = c.sort_unstable_by.ensures.sorted (λ (a : Bor Op) (b : Bor Op). is_lt (key_cmp (op_key a.now) (op_key b.now))) (ranks_by key_total (λ (r : Bor Op). op_key r.now)) (answers_always _ _ _ (λ f a r g h. search rules)) in
    sorted_ordered c.args.ops.now c.in_ok-sorted.sorted.items c.sort_unstable_by.new.self.items c.requires c.in_ok-sorted.ensures c.sort_unstable_by.ensures.permutation up
