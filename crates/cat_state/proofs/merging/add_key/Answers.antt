use Rattle.std.proofs.Common.{rules, ◌≡◌, ◌∙◌, ap}
use Rattle.cat_names.specs.Fields.{key_cmp}
use Rattle.cat_model.specs.KeySets.{with_one}
use Rattle.cat_state.proofs.Sets.{insert_is}
use Rattle.cat_state.proofs.merging.add_key.Goals as goal

pub returns : goal.returns
returns c =
    let copied : c.in_ok-clone.field-0 ≡ c.args.key.now = search rules in
    c.in_ok-insert.ensures.keys ∙ insert_is (c.args.keys.now).keys c.in_ok-clone.field-0 ∙ ap (with_one key_cmp (c.args.keys.now).keys) copied
