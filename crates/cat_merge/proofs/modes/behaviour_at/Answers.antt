use Rattle.std.proofs.Common.{rules, sym}
use Rattle.std.proofs.lemmas.Fn.{always_returns_same}
use Rattle.cat_names.specs.Fields.{Key, key_cmp}
use Rattle.cat_model.specs.declared.merging.Behaviour.{Behaviour}
use Rattle.cat_merge.proofs.Searched.{found, gap}
use Rattle.cat_merge.proofs.modes.behaviour_at.Goals as goal

pub returns-in-Ok : goal.returns-in-Ok
returns-in-Ok c =
    let equal = c.in-Ok.ensures.position (λ (x : Key × Behaviour). key_cmp x.0 c.args.key.now) (always_returns_same _ _ _ (λ a r q k. search rules)) in
    sym (found c.args.pairs.now c.args.default c.args.key.now c.in-Ok.at c.index-pairs-at.result c.requires c.in-Ok.ensures.bound (equal c.index-pairs-at.result))

pub returns-in-Err : goal.returns-in-Err
returns-in-Err c =
    let parted = c.in-Err.ensures.position (λ (x : Key × Behaviour). key_cmp x.0 c.args.key.now) (always_returns_same _ _ _ (λ a r q k. search rules)) in
    sym (gap c.args.pairs.now c.args.default c.args.key.now c.in-Err.field-0 c.requires parted)
