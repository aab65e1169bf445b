use Rattle.std.proofs.Common.{◌≡◌, ◌∙◌, List, Bor, IfOk, None, ap, map, subst}
use Rattle.cat_names.specs.Fields.{Key}
use Rattle.cat_model.specs.Maps.{Map}
use Rattle.cat_keymap.specs.Range.{all_looked_up}
use Rattle.cat_keymap.proofs.LookUps.{all_named, permuted}
use Rattle.cat_keymap.proofs.named.named_pairs.Goals as goal

pub returns : goal.returns
returns c =
    let pairs = c.args.within.now in
    let same =
    ap (λ (l : List (Bor Key)). all_looked_up None (map (λ k. k.now) l) pairs) c.as_slice.ensures.value
    ∙ all_named _ pairs c.known.ensures c.in_ok-sorted.ensures.order ∙ permuted c.args.keys.now _ pairs c.in_ok-sorted.ensures.same in
    subst (λ (m : Map). IfOk c.looked_up.result (λ v. v.items ≡ m)) same c.looked_up.ensures
