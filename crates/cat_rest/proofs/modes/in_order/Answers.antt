use Rattle.std.proofs.Common.{◌≡◌, List, None, Some, true, false, rules, sym, ap, subst, ◌∙◌}
use Rattle.std.specs.Ordering.{is_lt}
use Rattle.std.proofs.lemmas.List.Sorted.{ranks_by, answers_always}
use Rattle.cat_codes.specs.Code.{ascends}
use Rattle.cat_names.specs.Fields.{key_cmp}
use Rattle.cat_keymap.specs.KeyOrder.{key_total}
use Rattle.cat_rest.specs.Modes.{Mode, in_order}
use Rattle.cat_rest.proofs.Sorted.{in_order_is, none_in_order}
use Rattle.cat_rest.proofs.modes.in_order.Goals as goal

pub returns-in-Some : goal.returns-in-Some
returns-in-Some c =
    let up = c.sort_unstable_by.ensures.sorted (λ (a : Mode) (b : Mode). is_lt (key_cmp a.0 b.0)) (ranks_by key_total (λ (m : Mode). m.0)) (answers_always _ _ _ (λ f a r g h. search rules)) in
    let same : c.in-Some.modes ≡ c.sort_unstable_by.new.self.items = c.in-Some.ensures ∙ c.in_ok-from_vec.ensures.list in
    let rise : ascends key_cmp None c.sort_unstable_by.new.self.items ≡ true = subst (λ (l : List Mode). ascends key_cmp None l ≡ true) same c.known.ensures.ascends in
    ap in_order (sym c.into_vec-sorted.ensures)
    ∙ in_order_is c.into_vec-sorted.result.items c.sort_unstable_by.new.self.items c.sort_unstable_by.ensures.permutation up rise
    ∙ ap Some (sym same)

pub returns-in-None : goal.returns-in-None
returns-in-None c =
    let up = c.sort_unstable_by.ensures.sorted (λ (a : Mode) (b : Mode). is_lt (key_cmp a.0 b.0)) (ranks_by key_total (λ (m : Mode). m.0)) (answers_always _ _ _ (λ f a r g h. search rules)) in
    let fall : ascends key_cmp None c.sort_unstable_by.new.self.items ≡ false = subst (λ (l : List Mode). ascends key_cmp None l ≡ false) c.in_ok-from_vec.ensures.list c.in-None.ensures in
    ap in_order (sym c.into_vec-sorted.ensures)
    ∙ none_in_order c.into_vec-sorted.result.items c.sort_unstable_by.new.self.items c.sort_unstable_by.ensures.permutation up fall
